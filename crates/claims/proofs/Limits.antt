-- Limits from both sides: for each number of document 01 the last case that is good and the first that is bad, with its answer, so that no
-- number can move in code and definition together. One table, computed, on the definitions that hold the numbers. Assumes nothing.
use mathlib.Core.Path.{◌≡◌, refl}
use mathlib.Core.Bool.{true}
use mathlib.Core.List.{List, [], ◌∷◌, ◌++◌, flat_map}
use Prim.Native.Nat.{◌+◌}
use lib.ListN.{replicate, set}
use Rattle.answers.specs.declared.Numbers.{Numbers}
use Rattle.std.specs.Prelude.{Err}
use Rattle.answers.specs.declared.Refusal.TheVariants.{TooManyAlternatives, TooLong, RoomTooShort, NoSuchTimeline}
use Rattle.answers.specs.Numbers.{numbers_at, numbers, numbers_of, no_fault, or_else}
use Rattle.words.specs.Lists.{any, all}
use Rattle.words.specs.Words.{in_set}
use Rattle.words.specs.Least.{least, first}
use Rattle.words.specs.Runs.{run, rows}
use Rattle.clock.specs.Clock.{in_bounds}
use Rattle.layout.specs.Layout.{fifth_width, fifth_most, begins, header_wrong, starts, owner}
use Rattle.records.specs.Wrong.{set_wrong, value_tests, fifth_tests_of, fifth_tests, wrong_word, record_wrong}
use Rattle.book.specs.Fault.{leaves, table_wrong, told_word}
use Rattle.book.specs.Fault as book
use Rattle.book.specs.Rules.{name_at, atom_at, constraint_at, alternative_at, rule_at, rules_of}
use Rattle.book.specs.Encode.{book_of}
use Rattle.book.proofs.Specimen.{same}
use Rattle.lines.specs.Lines.{token_width, job_at, tokens_from, line_of}
use Rattle.lines.specs.Ends.{end_from, ends_apart, ends_fault}
use Rattle.plan.specs.Fault as plan
use Rattle.allen.specs.Relation.{relation_of}
use Rattle.allen.specs.Atoms.{atoms_of}
use Rattle.choice.specs.Met.{put, token_time, token_job, end_time, time_of, bounds_hold, atom_holds, constraint_holds, place, alternative_met, met}
use Rattle.verdict.specs.Judged.{counted, trigger_line, is_trigger, examined, unmet, first_unmet, rule_unmet, rules_fault, judged}
use Rattle.listing.specs.Expand.{keep, relations_in, choices, atoms_for, expand, translate}
use Rattle.translator.specs.Translation.{rules_for, translated, too_many, rule_fault, size_fault, room_fault, translation}
use Rattle.reader.specs.Opening.{line_fault, open_fault}
use Rattle.claims.specs.Inputs.{N, last, times, table, none, header, values_book, value_book, rule_book, names_book, name_book, fifth_book, atom_book, constraint_sheet, free_atom, two_book, asked, wide, fours, long}

-- ---- the table: what is computed, and what document 01 says

-- 1 to 3, and the header's numbers
abbrev headers : List (Numbers × Numbers)
headers =
    -- "book length not 14..16,384"
    (book.length_fault (replicate 13 0), numbers 1 0 0)
    ∷ (book.length_fault (replicate 14 0), no_fault)
    ∷ (book.length_fault (replicate 16384 0), no_fault)
    ∷ (book.length_fault (replicate 16385 0), numbers 1 0 0)
    -- counts 1..16, 1..512, 0..64, 0..1,024, 0..2,048, 0..2,048, and the words per record
    ∷ (book.header_fault 1 (header 1 16 512 64 1024 2048 2048), no_fault)
    ∷ (book.header_fault 2 (header 2 16 512 64 1024 2048 2048), no_fault)
    ∷ (book.header_fault 1 (header 1 1 1 0 0 0 0), no_fault)
    ∷ (book.header_fault 1 (header 1 0 1 0 0 0 0), numbers 2 2 0)
    ∷ (book.header_fault 1 (header 1 17 1 0 0 0 0), numbers 2 2 0)
    ∷ (book.header_fault 1 (header 1 1 0 0 0 0 0), numbers 2 4 0)
    ∷ (book.header_fault 1 (header 1 1 513 0 0 0 0), numbers 2 4 0)
    ∷ (book.header_fault 1 (header 1 1 1 65 0 0 0), numbers 2 6 0)
    ∷ (book.header_fault 1 (header 1 1 1 0 1025 0 0), numbers 2 8 0)
    ∷ (book.header_fault 1 (header 1 1 1 0 0 2049 0), numbers 2 10 0)
    ∷ (book.header_fault 1 (header 1 1 1 0 0 0 2049), numbers 2 12 0)
    ∷ (book.header_fault 2 (header 2 1 1 0 0 0 2049), numbers 2 12 0)
    -- "edition 1", a sheet's 2; "total words"; "Table 0 begins at word 14"
    ∷ (book.header_fault 1 (header 0 1 1 0 0 0 0), numbers 2 0 0)
    ∷ (book.header_fault 1 (header 2 1 1 0 0 0 0), numbers 2 0 0)
    ∷ (book.header_fault 2 (header 1 1 1 0 0 0 0), numbers 2 0 0)
    ∷ (book.header_fault 2 (header 3 1 1 0 0 0 0), numbers 2 0 0)
    ∷ (book.header_fault 1 (set (header 1 1 1 0 0 0 0) 1 13), numbers 2 1 0)
    ∷ (book.header_fault 1 (set (header 1 1 1 0 0 0 0) 1 15), numbers 2 1 0)
    ∷ (book.header_fault 1 (set (header 1 1 1 0 0 0 0) 3 13), numbers 2 3 0)
    ∷ (book.header_fault 1 (set (header 1 1 1 0 0 0 0) 3 15), numbers 2 3 0)
    ∷ (book.header_fault 1 (set (header 1 1 1 0 0 0 0) 13 20), numbers 2 13 0)
    -- an atom has 6 words, a constraint 3
    ∷ (book.end_fault 1 (atom_book 0 0 1 0 0 N), no_fault)
    ∷ (book.end_fault 2 (atom_book 0 0 1 0 0 N), numbers 3 0 0)
    ∷ (book.end_fault 2 (constraint_sheet 0 1 1), no_fault)
    ∷ (book.end_fault 1 (constraint_sheet 0 1 1), numbers 3 0 0)
    ∷ []

-- 4, the numbers of a record, and which word is told
abbrev records : List (Numbers × Numbers)
records =
    -- "number of values (1..32)", of which the first counts from 0
    (book.book_fault 1 (values_book 0), numbers 2 4 0)
    ∷ (book.record_fault 1 (values_book 0), numbers_at 4 0 0 1)
    ∷ (book.book_fault 1 (values_book 1), no_fault)
    ∷ (book.book_fault 1 (values_book 32), no_fault)
    ∷ (book.book_fault 1 (values_book 33), numbers_at 4 0 0 1)
    -- "Least is 1..1,000,000,000"
    ∷ (book.book_fault 1 (value_book 0 N 3), numbers_at 4 1 0 0)
    ∷ (book.book_fault 1 (value_book 1 N 3), no_fault)
    ∷ (book.book_fault 1 (value_book last N 3), no_fault)
    ∷ (book.book_fault 1 (value_book (last + 1) N 3), numbers_at 4 1 0 0)
    -- "greatest is least..1,000,000,000 or N"
    ∷ (book.book_fault 1 (value_book 5 4 3), numbers_at 4 1 0 1)
    ∷ (book.book_fault 1 (value_book 5 5 3), no_fault)
    ∷ (book.book_fault 1 (value_book 5 last 3), no_fault)
    ∷ (book.book_fault 1 (value_book 5 (last + 1) 3), numbers_at 4 1 0 1)
    ∷ (book.book_fault 1 (value_book 5 4294967294 3), numbers_at 4 1 0 1)
    -- "no bit at or above the number of values"
    ∷ (book.book_fault 1 (value_book 1 N 0), no_fault)
    ∷ (book.book_fault 1 (value_book 1 N 4), numbers_at 4 1 0 2)
    -- "trigger variable, trigger value": both exist, or N and 0
    ∷ (book.book_fault 1 (rule_book 1 0 1 (table 1 (times 4 (0 ∷ []))) none none), no_fault)
    ∷ (book.book_fault 1 (rule_book 1 1 0 (table 1 (times 4 (0 ∷ []))) none none), numbers_at 4 2 0 0)
    ∷ (book.book_fault 1 (rule_book 1 4294967294 0 (table 1 (times 4 (0 ∷ []))) none none), numbers_at 4 2 0 0)
    ∷ (book.book_fault 1 (rule_book 1 0 2 (table 1 (times 4 (0 ∷ []))) none none), numbers_at 4 2 0 1)
    ∷ (book.book_fault 1 (rule_book 1 N 0 (table 1 (times 4 (0 ∷ []))) none none), no_fault)
    ∷ (book.book_fault 1 (rule_book 1 N 1 (table 1 (times 4 (0 ∷ []))) none none), numbers_at 4 2 0 1)
    -- "first alternative, number (1..64)"
    ∷ (book.book_fault 1 (rule_book 1 0 0 none none none), numbers_at 4 2 0 3)
    ∷ (book.book_fault 1 (rule_book 1 0 0 (table 64 (times 256 (0 ∷ []))) none none), no_fault)
    ∷ (book.book_fault 1 (rule_book 1 0 0 (table 65 (times 260 (0 ∷ []))) none none), numbers_at 4 2 0 3)
    -- "first name, number (0..4)"; "variable, value"
    ∷ (book.book_fault 1 (names_book 0), no_fault)
    ∷ (book.book_fault 1 (names_book 4), no_fault)
    ∷ (book.book_fault 1 (names_book 5), numbers_at 4 3 0 1)
    ∷ (book.book_fault 1 (name_book 0 1), no_fault)
    ∷ (book.book_fault 1 (name_book 1 0), numbers_at 4 4 0 0)
    ∷ (book.book_fault 1 (name_book 0 2), numbers_at 4 4 0 1)
    -- "first atom, number (0..32)"; "0..8 an alternative"
    ∷ (book.book_fault 1 (fifth_book 1 0 []), no_fault)
    ∷ (book.book_fault 1 (fifth_book 1 32 (0 ∷ 0 ∷ 1 ∷ 0 ∷ 0 ∷ N ∷ [])), no_fault)
    ∷ (book.book_fault 1 (fifth_book 1 33 (0 ∷ 0 ∷ 1 ∷ 0 ∷ 0 ∷ N ∷ [])), numbers_at 4 3 0 3)
    ∷ (book.book_fault 2 (fifth_book 2 0 []), no_fault)
    ∷ (book.book_fault 2 (fifth_book 2 8 (0 ∷ 1 ∷ 1 ∷ [])), no_fault)
    ∷ (book.book_fault 2 (fifth_book 2 9 (0 ∷ 1 ∷ 1 ∷ [])), numbers_at 4 3 0 3)
    -- "A term's kind is 0 start of, 1 end of, 2 time point", "3, end of the plan", "4, job of", on both sides
    ∷ (book.book_fault 1 (atom_book 0 1 0 0 0 N), no_fault)
    ∷ (book.book_fault 1 (atom_book 1 1 1 0 0 N), no_fault)
    ∷ (book.book_fault 1 (atom_book 2 0 2 0 0 N), no_fault)
    ∷ (book.book_fault 1 (atom_book 3 0 3 0 0 N), no_fault)
    ∷ (book.book_fault 1 (atom_book 4 0 4 1 0 0), no_fault)
    ∷ (book.book_fault 1 (atom_book 5 0 4 1 0 0), numbers_at 4 5 0 0)
    ∷ (book.book_fault 1 (atom_book 2 0 5 0 0 N), numbers_at 4 5 0 2)
    -- kind 4 "stands on both sides of an atom or on neither", "argument as in kind 0", "its bounds must be 0 and 0"
    ∷ (book.book_fault 1 (atom_book 4 0 0 1 0 0), numbers_at 4 5 0 2)
    ∷ (book.book_fault 1 (atom_book 0 0 4 1 0 0), numbers_at 4 5 0 2)
    ∷ (book.book_fault 1 (atom_book 4 2 0 1 0 0), numbers_at 4 5 0 1)
    ∷ (book.book_fault 1 (atom_book 4 0 4 2 0 0), numbers_at 4 5 0 3)
    ∷ (book.book_fault 1 (atom_book 4 0 4 1 1 1), numbers_at 4 5 0 4)
    ∷ (book.book_fault 1 (atom_book 4 0 4 1 0 1), numbers_at 4 5 0 5)
    ∷ (book.book_fault 1 (atom_book 4 0 4 1 0 N), numbers_at 4 5 0 5)
    -- "end of the plan, argument 0"; "another argument gets 4"
    ∷ (book.book_fault 1 (atom_book 3 1 2 0 0 N), numbers_at 4 5 0 1)
    ∷ (book.book_fault 1 (atom_book 2 0 3 1 0 N), numbers_at 4 5 0 3)
    -- "0 for the trigger or 1..n for the alternative's names; 0 is bad without a trigger"
    ∷ (book.book_fault 1 (atom_book 0 2 2 0 0 N), numbers_at 4 5 0 1)
    ∷ (book.book_fault 1 (atom_book 2 0 1 2 0 N), numbers_at 4 5 0 3)
    ∷ (book.book_fault 1 (free_atom 1), no_fault)
    ∷ (book.book_fault 1 (free_atom 0), numbers_at 4 5 0 1)
    -- "A time point is 0..1,000,000,000"
    ∷ (book.book_fault 1 (atom_book 2 last 2 last 0 N), no_fault)
    ∷ (book.book_fault 1 (atom_book 2 (last + 1) 2 0 0 N), numbers_at 4 5 0 1)
    ∷ (book.book_fault 1 (atom_book 2 0 2 (last + 1) 0 N), numbers_at 4 5 0 3)
    -- "Lower is 0..1,000,000,000; upper is lower..1,000,000,000 or N"
    ∷ (book.book_fault 1 (atom_book 0 0 0 1 last N), no_fault)
    ∷ (book.book_fault 1 (atom_book 0 0 0 1 (last + 1) N), numbers_at 4 5 0 4)
    ∷ (book.book_fault 1 (atom_book 0 0 0 1 5 4), numbers_at 4 5 0 5)
    ∷ (book.book_fault 1 (atom_book 0 0 0 1 5 5), no_fault)
    ∷ (book.book_fault 1 (atom_book 0 0 0 1 0 last), no_fault)
    ∷ (book.book_fault 1 (atom_book 0 0 0 1 0 (last + 1)), numbers_at 4 5 0 5)
    ∷ (book.book_fault 1 (atom_book 0 0 0 1 0 4294967294), numbers_at 4 5 0 5)
    -- "left token, right token (0 the trigger, as above), and a set, 1..8,191"
    ∷ (book.book_fault 2 (constraint_sheet 1 1 1), no_fault)
    ∷ (book.book_fault 2 (constraint_sheet 2 1 1), numbers_at 4 5 0 0)
    ∷ (book.book_fault 2 (constraint_sheet 1 2 1), numbers_at 4 5 0 1)
    ∷ (book.book_fault 2 (constraint_sheet 0 1 0), numbers_at 4 5 0 2)
    ∷ (book.book_fault 2 (constraint_sheet 0 1 8191), no_fault)
    ∷ (book.book_fault 2 (constraint_sheet 0 1 8192), numbers_at 4 5 0 2)
    ∷ []

-- 5 to 11, 17
abbrev plans : List (Numbers × Numbers)
plans =
    -- "plan length below 3 + 2 x variables, or above 16,384"
    (plan.length_fault two_book (replicate 4 0), numbers 5 0 0)
    ∷ (plan.length_fault two_book (replicate 5 0), no_fault)
    ∷ (plan.length_fault two_book (replicate 16384 0), no_fault)
    ∷ (plan.length_fault two_book (replicate 16385 0), numbers 5 0 0)
    -- edition 1 or 2, "total words, number of timelines", first token, "token count (0..512)"
    ∷ (judged two_book (1 ∷ 5 ∷ 1 ∷ 0 ∷ 0 ∷ []), no_fault)
    ∷ (judged two_book (0 ∷ 5 ∷ 1 ∷ 0 ∷ 0 ∷ []), numbers 6 0 0)
    ∷ (judged two_book (2 ∷ 5 ∷ 1 ∷ 0 ∷ 0 ∷ []), no_fault)
    ∷ (judged two_book (3 ∷ 5 ∷ 1 ∷ 0 ∷ 0 ∷ []), numbers 6 0 0)
    ∷ (judged two_book (1 ∷ 4 ∷ 1 ∷ 0 ∷ 0 ∷ []), numbers 6 1 0)
    ∷ (judged two_book (1 ∷ 6 ∷ 1 ∷ 0 ∷ 0 ∷ []), numbers 6 1 0)
    ∷ (judged two_book (1 ∷ 5 ∷ 0 ∷ 0 ∷ 0 ∷ []), numbers 6 2 0)
    ∷ (judged two_book (1 ∷ 5 ∷ 2 ∷ 0 ∷ 0 ∷ []), numbers 6 2 0)
    ∷ (judged two_book (1 ∷ 5 ∷ 1 ∷ 1 ∷ 0 ∷ []), numbers 6 3 0)
    ∷ (plan.head_fault two_book (1 ∷ 5 ∷ 1 ∷ 0 ∷ 512 ∷ []), no_fault)
    ∷ (plan.head_fault two_book (1 ∷ 5 ∷ 1 ∷ 0 ∷ 513 ∷ []), numbers 6 4 0)
    -- "tokens of 2 words", of 3 in edition 2
    ∷ (judged two_book (1 ∷ 6 ∷ 1 ∷ 0 ∷ 1 ∷ 1 ∷ []), numbers 7 0 0)
    ∷ (judged two_book (1 ∷ 7 ∷ 1 ∷ 0 ∷ 1 ∷ 1 ∷ 1 ∷ []), no_fault)
    ∷ (judged two_book (1 ∷ 8 ∷ 1 ∷ 0 ∷ 1 ∷ 1 ∷ 1 ∷ 1 ∷ []), numbers 7 0 0)
    ∷ (judged two_book (2 ∷ 7 ∷ 1 ∷ 0 ∷ 1 ∷ 1 ∷ 1 ∷ []), numbers 7 0 0)
    ∷ (judged two_book (2 ∷ 8 ∷ 1 ∷ 0 ∷ 1 ∷ 1 ∷ 1 ∷ N ∷ []), no_fault)
    ∷ (judged two_book (2 ∷ 9 ∷ 1 ∷ 0 ∷ 1 ∷ 1 ∷ 1 ∷ 1 ∷ 1 ∷ []), numbers 7 0 0)
    -- "Values count from 0 within a variable"
    ∷ (judged two_book (1 ∷ 7 ∷ 1 ∷ 0 ∷ 1 ∷ 2 ∷ 1 ∷ []), numbers 8 0 0)
    -- "duration outside least..greatest"
    ∷ (judged two_book (1 ∷ 7 ∷ 1 ∷ 0 ∷ 1 ∷ 0 ∷ 4 ∷ []), numbers 9 0 0)
    ∷ (judged two_book (1 ∷ 7 ∷ 1 ∷ 0 ∷ 1 ∷ 0 ∷ 5 ∷ []), no_fault)
    ∷ (judged two_book (1 ∷ 7 ∷ 1 ∷ 0 ∷ 1 ∷ 0 ∷ 60 ∷ []), no_fault)
    ∷ (judged two_book (1 ∷ 7 ∷ 1 ∷ 0 ∷ 1 ∷ 0 ∷ 61 ∷ []), numbers 9 0 0)
    -- "Bit j of the set says that value j may follow"
    ∷ (judged two_book (1 ∷ 9 ∷ 1 ∷ 0 ∷ 2 ∷ 0 ∷ 5 ∷ 1 ∷ 5 ∷ []), no_fault)
    ∷ (judged two_book (1 ∷ 9 ∷ 1 ∷ 0 ∷ 2 ∷ 0 ∷ 5 ∷ 0 ∷ 5 ∷ []), numbers 10 0 1)
    -- "token ends after 1,000,000,000"
    ∷ (judged two_book (1 ∷ 9 ∷ 1 ∷ 0 ∷ 2 ∷ 0 ∷ 5 ∷ 1 ∷ 999999995 ∷ []), no_fault)
    ∷ (judged two_book (1 ∷ 9 ∷ 1 ∷ 0 ∷ 2 ∷ 0 ∷ 5 ∷ 1 ∷ 999999996 ∷ []), numbers 11 0 1)
    -- "17 if the timeline number is not below the number of variables"
    ∷ (open_fault two_book (1 ∷ 5 ∷ 1 ∷ 0 ∷ 0 ∷ []) 0, no_fault)
    ∷ (open_fault two_book (1 ∷ 5 ∷ 1 ∷ 0 ∷ 0 ∷ []) 1, numbers 17 0 0)
    ∷ []

-- 13, 14, and the numbers of answers
abbrev translations : List (Numbers × Numbers)
translations =
    -- "Sets of 8 and 8 relations: 64 alternatives pass 13. Of 5 and 13: 65, refused 13"
    (translation (wide 2 (asked 1 (255 ∷ 255 ∷ []) ∷ [])) 16384, numbers 0 1850 64)
    ∷ (translation (wide 2 (asked 1 (31 ∷ 8191 ∷ []) ∷ [])) 16384, numbers 13 0 0)
    -- "first of tables 3, 4, 5 over its limit, or the total over 16,384 words, shown as 6"
    ∷ (size_fault (wide 2 (replicate 62 (asked 0 (fours 2)) ++ replicate 32 (asked 0 []))), no_fault)
    ∷ (size_fault (wide 2 (replicate 62 (asked 0 (fours 2)) ++ replicate 33 (asked 0 []))), numbers 14 3 0)
    ∷ (size_fault (wide 2 (replicate 32 (asked 4 (fours 2)))), no_fault)
    ∷ (size_fault (wide 2 (replicate 32 (asked 4 (fours 2)) ++ (asked 1 [] ∷ []))), numbers 14 4 0)
    ∷ (size_fault (wide 2 (asked 0 (fours 4 ++ replicate 4 1) ∷ [])), no_fault)
    ∷ (size_fault (wide 2 (asked 0 (fours 4 ++ replicate 4 1) ∷ asked 0 (1 ∷ []) ∷ [])), numbers 14 5 0)
    ∷ (size_fault (wide 2 (long 1)), no_fault)
    ∷ (size_fault (wide 3 (long 0)), numbers 14 6 0)
    -- the answers' own numbers; Listed of Answers has those of 0 to 12
    ∷ (numbers_of (Err (TooManyAlternatives 7)), numbers 13 7 0)
    ∷ (numbers_of (Err (TooLong 7)), numbers 14 7 0)
    ∷ (numbers_of (Err (RoomTooShort 7)), numbers 15 7 0)
    ∷ (numbers_of (Err NoSuchTimeline), numbers 17 0 0)
    ∷ []

-- THE CLAIM: every row is as stated
pub limits_stand : all (λ (row : Numbers × Numbers). same row.0 row.1) (headers ++ records ++ plans ++ translations) ≡ true
unfolding all any flat_map or_else least first run rows in_set in_bounds fifth_width fifth_most begins header_wrong starts owner set_wrong value_tests fifth_tests_of fifth_tests wrong_word record_wrong leaves table_wrong told_word book.length_fault book.header_fault book.end_fault book.record_fault book.book_fault name_at atom_at constraint_at alternative_at rule_at rules_of book_of token_width job_at tokens_from line_of plan.length_fault plan.sum_before plan.head_wrong plan.head_fault plan.end_fault plan.start_of plan.duration_outside plan.not_successor plan.token_fault plan.token_wrong plan.first_token plan.line_wrong plan.tokens_fault plan.plan_fault end_from ends_apart ends_fault relation_of atoms_of put token_time token_job end_time time_of bounds_hold atom_holds constraint_holds place alternative_met met counted trigger_line is_trigger examined unmet first_unmet rule_unmet rules_fault judged keep relations_in choices atoms_for expand translate rules_for translated too_many rule_fault size_fault room_fault translation line_fault open_fault
limits_stand = refl
