-- No claim rests on an "if" that no input meets: P2 passes and is written, its list is one that the writer made, a list with another value
-- at an end is not; and a plan of edition 2. Assumes nothing.
use mathlib.Core.Path.{◌≡◌, refl}
use mathlib.Core.Logic.{◌↔◌}
use mathlib.Core.List.{[], flat_map}
use Prim.Native.Nat.{ℕ}
use native.Mathlib.Omega.{arith}
use lib.ListN.{get_or, set}
use Rattle.answers.specs.Numbers.{or_else}
use Rattle.words.specs.Words.{in_set}
use Rattle.words.specs.Lists.{any, all}
use Rattle.words.specs.Least.{least, first}
use Rattle.words.specs.Runs.{run}
use Rattle.clock.specs.Clock.{in_bounds}
use Rattle.layout.specs.Layout.{fifth_width, fifth_most, begins, header_wrong, starts, owner}
use Rattle.records.specs.Wrong.{set_wrong, value_tests, fifth_tests_of, fifth_tests, wrong_word, record_wrong}
use Rattle.book.specs.Fault.{leaves, table_wrong, told_word}
use Rattle.book.specs.Fault as book
use Rattle.book.specs.Rules.{rule_at, rules_of}
use Rattle.book.specs.Encode.{atoms}
use Rattle.book.proofs.Specimen.{book_e}
use Rattle.lines.specs.Lines.{token_width, job_at, tokens_from, line_of}
use Rattle.lines.specs.Ends.{end_from, ends_apart, ends_fault}
use Rattle.plan.specs.Fault as plan
use Rattle.event_list.specs.Events.{to_run, start_on, change_on, later, by_line, soonest, sweep, line_ticks, plan_ticks, events_of}
use Rattle.event_list.specs.Words.{action_width, action_words, event_words, list_words}
use Rattle.event_list.specs.Plans.{line_tokens, plan_lines, token_words, line_words, head_words, plan_words, list_of}
use Rattle.event_list.specs.Reading.{action_job, ends_here, add_ticks, next_place, next_left, closes, next_ticks, closed, read_from, read_line, read_lines, plan_from}
use Rattle.event_list.specs.Sends.{is_words}
use Rattle.event_list.specs.Answers.{Made, room_fault, into, could_be_written, list_fault, read_events}
use Rattle.verdict.specs.Judged.{no_rule}
use Rattle.claims.specs.Papers.{SatisfiedIn, Satisfies}
use Rattle.events_claims.proofs.Answers.{read-20}
use Rattle.events_claims.specs.Sequences.{Starts, Closed}
use Rattle.events_claims.specs.Graphs.{MatchesAt}
use Rattle.events_claims.proofs.Closed.{plan_sequence}
use Rattle.events_claims.proofs.Rules.{lemma_4_6}
use Rattle.events_claims.proofs.Round.{write_then_read, read_then_write}
use Rattle.events_claims.specs.Specimens.{plan_p2, list_p2, book_one}
use Rattle.events_claims.specs.Examples.{plan_two}

-- E's book and P2 pass
pub sound_E : (book.book_fault 1 book_e).number ≡ 0
unfolding book.length_fault book.header_fault book.end_fault book.record_fault book.book_fault set_wrong value_tests fifth_tests_of fifth_tests first wrong_word record_wrong leaves table_wrong told_word fifth_width fifth_most begins header_wrong starts owner run least in_set any all or_else
sound_E = refl

pub passes_P2 : (plan.plan_fault book_e plan_p2).number ≡ 0
unfolding least in_set or_else run plan.plan_fault plan.length_fault plan.head_fault plan.end_fault plan.tokens_fault plan.sum_before plan.head_wrong plan.start_of plan.duration_outside plan.not_successor plan.token_fault plan.token_wrong plan.first_token plan.line_wrong token_width job_at tokens_from line_of end_from ends_apart ends_fault in_bounds
passes_P2 = refl

-- so reading P2's list gives P2
pub P2-back : plan_from book_e (list_of plan_p2) ≡ plan_p2
P2-back = write_then_read book_e sound_E plan_p2 passes_P2

-- and the list of P2 is one that the writer made
pub made_P2 : Made book_e list_p2
unfolding run token_width job_at to_run start_on change_on later by_line soonest sweep line_ticks plan_ticks events_of action_words event_words list_words line_tokens plan_lines list_of flat_map
made_P2 = record { plan = plan_p2; passes = passes_P2; list = refl }

pub list_back : list_of (plan_from book_e list_p2) ≡ list_p2
list_back = read_then_write book_e sound_E list_p2 made_P2

-- one in which an end names another value than the start is none
pub not_made : Made book_e (set list_p2 14 1) → ⊥
unfolding book.length_fault book.header_fault book.end_fault book.record_fault book.book_fault set_wrong value_tests fifth_tests_of fifth_tests first wrong_word record_wrong leaves table_wrong told_word fifth_width fifth_most begins header_wrong starts owner run least in_set any all or_else plan.plan_fault plan.length_fault plan.head_fault plan.end_fault plan.tokens_fault plan.sum_before plan.head_wrong plan.start_of plan.duration_outside plan.not_successor plan.token_fault plan.token_wrong plan.first_token plan.line_wrong token_width job_at tokens_from line_of end_from ends_apart ends_fault in_bounds to_run start_on change_on later by_line soonest sweep line_ticks plan_ticks events_of action_words event_words list_words line_tokens plan_lines list_of flat_map action_width token_words line_words head_words plan_words action_job ends_here add_ticks next_place next_left closes next_ticks closed read_from read_line read_lines plan_from is_words could_be_written list_fault read_events room_fault into
not_made = ((read-20 book_e (set list_p2 14 1) []).0 refl).1

pub sound_one : (book.book_fault 1 book_one).number ≡ 0
unfolding book.length_fault book.header_fault book.end_fault book.record_fault book.book_fault set_wrong value_tests fifth_tests_of fifth_tests first wrong_word record_wrong leaves table_wrong told_word fifth_width fifth_most begins header_wrong starts owner run least in_set any all or_else
sound_one = refl

pub passes-two : (plan.plan_fault book_one plan_two).number ≡ 0
unfolding least in_set or_else run plan.plan_fault plan.length_fault plan.head_fault plan.end_fault plan.tokens_fault plan.sum_before plan.head_wrong plan.start_of plan.duration_outside plan.not_successor plan.token_fault plan.token_wrong plan.first_token plan.line_wrong token_width job_at tokens_from line_of end_from ends_apart ends_fault in_bounds
passes-two = refl

pub two_back : plan_from book_one (list_of plan_two) ≡ plan_two
two_back = write_then_read book_one sound_one plan_two passes-two

-- ---- the papers' side

-- the events of P2 are a closed event sequence
pub P2-sequence : Closed (events_of (plan_lines plan_p2))
P2-sequence = (plan_sequence book_e plan_p2 sound_E passes_P2).1

-- and Lemma 4.6 speaks of E's rule, whose trigger is value 1 of the RIP's line
pub P2-lemma : Satisfies (SatisfiedIn (line_of plan_p2)) (line_of plan_p2) (get_or (rules_of atoms book_e) 0 no_rule)
    ↔ ((i : ℕ) → Starts (events_of (plan_lines plan_p2)) 1 1 i → MatchesAt (events_of (plan_lines plan_p2)) (get_or (rules_of atoms book_e) 0 no_rule) i)
unfolding rules_of rule_at run
P2-lemma = (lemma_4_6 book_e plan_p2 sound_E passes_P2).0 (λ e. omega (arith, e))
