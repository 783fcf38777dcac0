-- An answer's numbers settle its case: `answer_of` gives back the answer whose numbers they are, by computation for each case. So two answers
-- with the same numbers are the same answer, and a contract on the numbers permits one. Assumes nothing.
use mathlib.Core.Path.{◌≡◌, refl, sym, ap, ◌∙◌}
use mathlib.Core.Bool.{cond}
use mathlib.Core.List.{[], ◌∷◌}
use lib.Dec.{eqb}
use lib.ListN.{get_or}
use Rattle.answers.specs.declared.Numbers.{Numbers}
use Rattle.std.specs.Prelude.{Ok, Err}
use Rattle.answers.specs.declared.Refusal.{Refusal}
use Rattle.answers.specs.declared.Refusal.TheVariants.{BookLength, BookHeader, BookEnd, BookRecord, PlanLength, PlanHeader, PlanEnd, ValueUnknown, DurationOutside, NotSuccessor, PastLastTick, RuleNotMet, TooManyAlternatives, TooLong, RoomTooShort, NoSuchTimeline, EndsApart, NoSuchDesk, NotAnEventList, EventRoomTooShort, NoSuchRules, NotOrderOnly, NoSuchAlternative, TableTooShort}
use Rattle.answers.specs.Numbers.{Answer, numbers_of}

-- the refusal with these numbers
abbrev pub refusal_of : Numbers → Refusal
refusal_of x =
    get_or
    -- 0 is none
    (BookLength
    ∷ BookLength
    ∷ BookHeader x.a
    ∷ BookEnd
    ∷ BookRecord x.a x.b x.c
    ∷ PlanLength
    ∷ PlanHeader x.a
    ∷ PlanEnd
    ∷ ValueUnknown x.a x.b
    ∷ DurationOutside x.a x.b
    ∷ NotSuccessor x.a x.b
    ∷ PastLastTick x.a x.b
    ∷ RuleNotMet x.a x.b
    ∷ TooManyAlternatives x.a
    ∷ TooLong x.a
    ∷ RoomTooShort x.a
    -- 16 isn't used
    ∷ BookLength
    ∷ NoSuchTimeline
    ∷ EndsApart x.a
    ∷ NoSuchDesk
    ∷ NotAnEventList
    ∷ EventRoomTooShort x.a
    -- 22 and 23 aren't used
    ∷ BookLength
    ∷ BookLength
    ∷ NoSuchRules
    ∷ TableTooShort
    ∷ NotOrderOnly
    ∷ NoSuchAlternative
    ∷ [])
    x.number BookLength

-- the answer with these numbers
abbrev pub answer_of : Numbers → Answer
answer_of x = cond (eqb x.number 0) (Ok (record { a = x.a; b = x.b })) (Err (refusal_of x))

-- no two cases share their numbers
pub answer_back : (r : Answer) → answer_of (numbers_of r) ≡ r
answer_back (Ok done) = refl
answer_back (Err BookLength) = refl
answer_back (Err (BookHeader word)) = refl
answer_back (Err BookEnd) = refl
answer_back (Err (BookRecord table row word)) = refl
answer_back (Err PlanLength) = refl
answer_back (Err (PlanHeader word)) = refl
answer_back (Err PlanEnd) = refl
answer_back (Err (ValueUnknown timeline token)) = refl
answer_back (Err (DurationOutside timeline token)) = refl
answer_back (Err (NotSuccessor timeline token)) = refl
answer_back (Err (PastLastTick timeline token)) = refl
answer_back (Err (RuleNotMet rule token)) = refl
answer_back (Err (TooManyAlternatives rule)) = refl
answer_back (Err (TooLong table)) = refl
answer_back (Err (RoomTooShort words)) = refl
answer_back (Err NoSuchTimeline) = refl
answer_back (Err (EndsApart timeline)) = refl
answer_back (Err NoSuchDesk) = refl
answer_back (Err NotAnEventList) = refl
answer_back (Err (EventRoomTooShort words)) = refl
answer_back (Err NoSuchRules) = refl
answer_back (Err NotOrderOnly) = refl
answer_back (Err NoSuchAlternative) = refl
answer_back (Err TableTooShort) = refl

-- THE LAW: two answers with the same numbers are the same answer
pub one_case : (r s : Answer) → numbers_of r ≡ numbers_of s → r ≡ s
one_case r s h = sym (answer_back r) ∙ ap answer_of h ∙ answer_back s

-- so of two that a contract permits, each with the numbers x
pub one_answer : (x : Numbers) (r s : Answer) → numbers_of r ≡ x → numbers_of s ≡ x → r ≡ s
one_answer x r s h k = one_case r s (h ∙ sym k)
