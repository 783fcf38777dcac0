-- The four numbers of each answer: the fault table of document 01, row by row, with the word of a record from document 02. Assumes nothing.
use Rattle.std.specs.Prelude.{cond, ℕ, eqb, Result, Ok, Err}
use Rattle.answers.specs.declared.Numbers.{Numbers}
use Rattle.answers.specs.declared.Done.{Done}
use Rattle.answers.specs.declared.Refusal.{Refusal}
use Rattle.answers.specs.declared.Refusal.TheVariants.{BookLength, BookHeader, BookEnd, BookRecord, PlanLength, PlanHeader, PlanEnd, ValueUnknown, DurationOutside, NotSuccessor, PastLastTick, RuleNotMet, TooManyAlternatives, TooLong, RoomTooShort, NoSuchTimeline, EndsApart, NoSuchDesk, NotAnEventList, EventRoomTooShort, NoSuchRules, NotOrderOnly, NoSuchAlternative, TableTooShort}

-- "Each answer is three numbers: number, a, b"; "Refusal 4 gets one more number, c"
abbrev pub numbers_at : ℕ → ℕ → ℕ → ℕ → Numbers
numbers_at n a b c = record { number = n; a = a; b = b; c = c }

-- "All other answers carry c = 0"
abbrev pub numbers : ℕ → ℕ → ℕ → Numbers
numbers n a b = numbers_at n a b 0

-- an answer: what is done, or the first thing that is wrong
abbrev pub Answer : Type 0
Answer = Result Done Refusal

-- the rows of what is wrong: "those not named are 0"
abbrev pub numbers_refused : Refusal → Numbers
numbers_refused BookLength = numbers 1 0 0
numbers_refused (BookHeader word) = numbers 2 word 0
numbers_refused BookEnd = numbers 3 0 0
numbers_refused (BookRecord table row word) = numbers_at 4 table row word
numbers_refused PlanLength = numbers 5 0 0
numbers_refused (PlanHeader word) = numbers 6 word 0
numbers_refused PlanEnd = numbers 7 0 0
numbers_refused (ValueUnknown timeline token) = numbers 8 timeline token
numbers_refused (DurationOutside timeline token) = numbers 9 timeline token
numbers_refused (NotSuccessor timeline token) = numbers 10 timeline token
numbers_refused (PastLastTick timeline token) = numbers 11 timeline token
numbers_refused (RuleNotMet rule token) = numbers 12 rule token
numbers_refused (TooManyAlternatives rule) = numbers 13 rule 0
numbers_refused (TooLong table) = numbers 14 table 0
numbers_refused (RoomTooShort words) = numbers 15 words 0
numbers_refused NoSuchTimeline = numbers 17 0 0
numbers_refused (EndsApart timeline) = numbers 18 timeline 0
numbers_refused NoSuchDesk = numbers 19 0 0
numbers_refused NotAnEventList = numbers 20 0 0
numbers_refused (EventRoomTooShort words) = numbers 21 words 0
numbers_refused NoSuchRules = numbers 24 0 0
numbers_refused NotOrderOnly = numbers 26 0 0
numbers_refused NoSuchAlternative = numbers 27 0 0
numbers_refused TableTooShort = numbers 25 0 0

-- number 0, with the numbers of what is done; or the row of what is wrong
abbrev pub numbers_of : Answer → Numbers
numbers_of (Ok done) = numbers 0 done.a done.b
numbers_of (Err refusal) = numbers_refused refusal

-- nothing is wrong so far
abbrev pub no_fault : Numbers
no_fault = numbers 0 0 0

-- this fault, or else what comes after it in the order of checking
unfoldable pub or_else : Numbers → Numbers → Numbers
or_else fault next = cond (eqb fault.number 0) next fault
