-- Easing, computed: an alternative added, a rule removed, and both, on plans that get 0 before and after, for the undivided judge and for a desk;
-- and why alternatives may only be added: taking one away fails a plan. Assumes nothing.
use mathlib.Core.Path.{◌≡◌, refl}
use mathlib.Core.List.{[], ◌∷◌}
use Rattle.answers.specs.Numbers.{numbers, or_else}
use Rattle.words.specs.Words.{in_set}
use Rattle.words.specs.Lists.{any, all}
use Rattle.words.specs.Least.{least, first}
use Rattle.words.specs.Runs.{run}
use Rattle.clock.specs.Clock.{no_limit, in_bounds}
use Rattle.layout.specs.Layout.{fifth_width, fifth_most, begins, header_wrong, starts, owner}
use Rattle.records.specs.Wrong.{set_wrong, value_tests, fifth_tests_of, fifth_tests, wrong_word, record_wrong}
use Rattle.book.specs.Fault.{leaves, table_wrong, told_word}
use Rattle.book.specs.Fault as book
use Rattle.book.specs.Rules.{Atom, Alternative, Rule, value_at, variable_at, name_at, atom_at, alternative_at, rule_at, rules_of, variables_of}
use Rattle.book.specs.Encode.{atoms}
use Rattle.book.proofs.Specimen.{book_e}
use Rattle.lines.specs.Lines.{token_width, job_at, tokens_from, line_of}
use Rattle.lines.specs.Ends.{end_from, ends_apart, ends_fault}
use Rattle.plan.specs.Fault as plan
use Rattle.choice.specs.Met.{put, token_time, token_job, end_time, time_of, bounds_hold, atom_holds, place, alternative_met, met}
use Rattle.verdict.specs.Judged.{counted, trigger_line, is_trigger, examined, unmet, first_unmet, rule_unmet, rules_fault, judged}
use Rattle.claims.specs.Specimens.{plan_p1, plan_p2}
use Rattle.desks.specs.Own.{judged_desk}
use Rattle.desks_claims.specs.Specimens.{two_rules}
use Rattle.desks_claims.specs.Examples.{shared}
use Rattle.desks_claims.proofs.Examples.{accepted_1, undivided}
use Rattle.desks_claims.specs.Eased.{Eased, none, kept, removed, closed_up}
use Rattle.desks_claims.specs.Easing.{Again, own_gone}
use Rattle.desks_claims.proofs.Easing.{eased, desk_eased, added, desk_added}
use Rattle.desks_claims.specs.EasingExamples.{loosened, short_and_loose}

-- an alternative that asks nothing, and a rule without trigger that has only this one
abbrev free : Alternative Atom
free = record { names = []; asks = [] }

abbrev free_rule : Rule Atom
free_rule = record { variable = no_limit; value = 0; alternatives = free ∷ [] }

loosened_sound : (book.book_fault 1 loosened).number ≡ 0
unfolding or_else least first fifth_width fifth_most begins header_wrong starts owner set_wrong value_tests fifth_tests_of fifth_tests wrong_word record_wrong leaves table_wrong told_word book.length_fault book.header_fault book.end_fault book.record_fault book.book_fault
loosened_sound = refl

pub is-loosened : Eased (rules_of atoms two_rules) (rules_of atoms loosened) []
unfolding run name_at atom_at alternative_at rule_at rules_of
is-loosened = kept [] refl (kept (free ∷ []) refl none)

loosened-same : variables_of two_rules ≡ variables_of loosened
unfolding run value_at variable_at variables_of
loosened-same = refl

-- P2 gets 0 with 3 trigger tokens, as before
pub added_E : judged loosened plan_p2 ≡ numbers 0 3 0
added_E = added two_rules loosened loosened-same loosened_sound is-loosened plan_p2 3 undivided

-- and desk 1 gets 0 with its 2
pub desk_added_E : judged_desk loosened plan_p2 shared 1 ≡ numbers 0 2 0
unfolding closed_up is-loosened
desk_added_E = desk_added two_rules loosened loosened-same loosened_sound is-loosened plan_p2 shared 1 2 accepted_1

-- ---- a rule is removed

pub E-sound : (book.book_fault 1 book_e).number ≡ 0
unfolding or_else least first fifth_width fifth_most begins header_wrong starts owner set_wrong value_tests fifth_tests_of fifth_tests wrong_word record_wrong leaves table_wrong told_word book.length_fault book.header_fault book.end_fault book.record_fault book.book_fault
E-sound = refl

-- `two_rules` without rule 0 is book E
pub is_shorter : Eased (rules_of atoms two_rules) (rules_of atoms book_e) (free_rule ∷ [])
unfolding run name_at atom_at alternative_at rule_at rules_of
is_shorter = removed (kept [] refl none)

shorter_same : variables_of two_rules ≡ variables_of book_e
unfolding run value_at variable_at variables_of
shorter_same = refl

-- P2 gets 0 again, with one token less, which rule 0 counted
pub removed_E : Again (judged book_e plan_p2) (line_of plan_p2) (free_rule ∷ []) 3
removed_E = eased two_rules book_e shorter_same E-sound is_shorter plan_p2 3 undivided

pub removed_count : judged book_e plan_p2 ≡ numbers 0 2 0
unfolding all any or_else least first run in_set in_bounds fifth_width fifth_most begins header_wrong starts owner set_wrong value_tests fifth_tests_of fifth_tests wrong_word record_wrong leaves table_wrong told_word book.length_fault book.header_fault book.end_fault book.record_fault book.book_fault name_at atom_at alternative_at rule_at rules_of token_width job_at tokens_from line_of plan.length_fault plan.sum_before plan.head_wrong plan.head_fault plan.end_fault plan.start_of plan.duration_outside plan.not_successor plan.token_fault plan.token_wrong plan.first_token plan.line_wrong plan.tokens_fault plan.plan_fault end_from ends_apart ends_fault put token_time token_job end_time time_of bounds_hold atom_holds place alternative_met met counted trigger_line is_trigger examined unmet first_unmet rule_unmet rules_fault judged
removed_count = refl

-- the list is closed up: E's rule is desk 1's
pub closed-E : closed_up is_shorter shared ≡ 1 ∷ []
unfolding closed_up is_shorter
closed-E = refl

-- to desk 1 nothing was removed
pub desk_removed_E : Again (judged_desk book_e plan_p2 (1 ∷ []) 1) (line_of plan_p2) (own_gone is_shorter shared 1) 2
desk_removed_E = rw closed-E at (desk_eased two_rules book_e shorter_same E-sound is_shorter plan_p2 shared 1 2 accepted_1)

short_and_loose_sound : (book.book_fault 1 short_and_loose).number ≡ 0
unfolding or_else least first fifth_width fifth_most begins header_wrong starts owner set_wrong value_tests fifth_tests_of fifth_tests wrong_word record_wrong leaves table_wrong told_word book.length_fault book.header_fault book.end_fault book.record_fault book.book_fault
short_and_loose_sound = refl

is_both : Eased (rules_of atoms two_rules) (rules_of atoms short_and_loose) (free_rule ∷ [])
unfolding run name_at atom_at alternative_at rule_at rules_of
is_both = removed (kept (free ∷ []) refl none)

both_same : variables_of two_rules ≡ variables_of short_and_loose
unfolding run value_at variable_at variables_of
both_same = refl

pub both_E : Again (judged short_and_loose plan_p2) (line_of plan_p2) (free_rule ∷ []) 3
both_E = eased two_rules short_and_loose both_same short_and_loose_sound is_both plan_p2 3 undivided

-- taking the alternative away again fails P1: by the loosened book it gets 0, by `two_rules` 12
pub taken_away : (judged loosened plan_p1 ≡ numbers 0 3 0) × (judged two_rules plan_p1 ≡ numbers 12 1 3)
unfolding all any or_else least first run in_set in_bounds fifth_width fifth_most begins header_wrong starts owner set_wrong value_tests fifth_tests_of fifth_tests wrong_word record_wrong leaves table_wrong told_word book.length_fault book.header_fault book.end_fault book.record_fault book.book_fault name_at atom_at alternative_at rule_at rules_of token_width job_at tokens_from line_of plan.length_fault plan.sum_before plan.head_wrong plan.head_fault plan.end_fault plan.start_of plan.duration_outside plan.not_successor plan.token_fault plan.token_wrong plan.first_token plan.line_wrong plan.tokens_fault plan.plan_fault end_from ends_apart ends_fault put token_time token_job end_time time_of bounds_hold atom_holds place alternative_met met counted trigger_line is_trigger examined unmet first_unmet rule_unmet rules_fault judged
taken_away = (refl, refl)
