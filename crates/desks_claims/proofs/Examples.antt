-- No claim here rests on an "if" that no input meets: two books that set a desk's rule at other offsets, and answer it alike on every plan; and a
-- plan that both desks accept. Assumes nothing.
use mathlib.Core.Path.{◌≡◌, refl, ap}
use mathlib.Core.List.{List}
use Prim.Native.Nat.{ℕ, zero, suc, ◌<◌}
use native.Mathlib.Omega.{arith}
use lib.ListN.{get_or}
use Rattle.answers.specs.declared.Numbers.{Numbers}
use Rattle.answers.specs.Numbers.{numbers, or_else}
use Rattle.words.specs.Words.{word, in_set}
use Rattle.words.specs.Lists.{any, all}
use Rattle.words.specs.Least.{least, first}
use Rattle.words.specs.Runs.{run}
use Rattle.clock.specs.Clock.{in_bounds}
use Rattle.layout.specs.Layout.{field, fifth_width, fifth_most, begins, header_wrong, starts, owner}
use Rattle.records.specs.Wrong.{set_wrong, value_tests, fifth_tests_of, fifth_tests, wrong_word, record_wrong}
use Rattle.book.specs.Fault.{leaves, table_wrong, told_word}
use Rattle.book.specs.Fault as book
use Rattle.book.specs.Rules.{value_at, variable_at, name_at, atom_at, alternative_at, rule_at, rules_of, variables_of}
use Rattle.book.specs.Encode.{atoms}
use Rattle.lines.specs.Lines.{token_width, job_at, tokens_from, line_of}
use Rattle.lines.specs.Ends.{end_from, ends_apart, ends_fault}
use Rattle.plan.specs.Fault as plan
use Rattle.choice.specs.Met.{put, token_time, token_job, end_time, time_of, bounds_hold, atom_holds, place, alternative_met, met}
use Rattle.verdict.specs.Judged.{no_rule, counted, trigger_line, is_trigger, unmet, first_unmet, rule_unmet, judged}
use Rattle.claims.specs.Specimens.{plan_p2}
use Rattle.desks.specs.List.{list_right}
use Rattle.desks.specs.Own.{numbered, of_desk, own_rules, fault_from, numbered_fault, own_fault, desk_fault, judged_desk}
use Rattle.desks_claims.specs.Accepted.{ListFits, DeskAccepted}
use Rattle.desks_claims.proofs.Accepted.{list_iff, desk_accepted}
use Rattle.desks_claims.proofs.Undivided.{counts_add}
use Rattle.desks_claims.specs.Undisturbed.{SameFor}
use Rattle.desks_claims.proofs.Undisturbed.{undisturbed}
use Rattle.desks_claims.specs.Specimens.{two_rules}
use Rattle.desks_claims.specs.Examples.{moved, shared}

pub two_sound : (book.book_fault 1 two_rules).number ≡ 0
unfolding or_else least first fifth_width fifth_most begins header_wrong starts owner set_wrong value_tests fifth_tests_of fifth_tests wrong_word record_wrong leaves table_wrong told_word book.length_fault book.header_fault book.end_fault book.record_fault book.book_fault
two_sound = refl

moved_sound : (book.book_fault 1 moved).number ≡ 0
unfolding or_else least first fifth_width fifth_most begins header_wrong starts owner set_wrong value_tests fifth_tests_of fifth_tests wrong_word record_wrong leaves table_wrong told_word book.length_fault book.header_fault book.end_fault book.record_fault book.book_fault
moved_sound = refl

-- rule 1 has its first alternative, and that its first name, at another number
other_offsets : (field 1 two_rules 2 1 2 ≡ 1) × (field 1 moved 2 1 2 ≡ 2) × (field 1 two_rules 3 1 0 ≡ 0) × (field 1 moved 3 2 0 ≡ 1)
other_offsets = (refl, refl, refl, refl)

same_for_1 : SameFor two_rules moved shared 1
unfolding run value_at variable_at name_at atom_at alternative_at rule_at rules_of variables_of
same_for_1 = record { variables = refl; rules = refl; own = own }
  where
    own : (i : ℕ) → i < 2 → word shared i ≡ 1 → get_or (rules_of atoms two_rules) i no_rule ≡ get_or (rules_of atoms moved) i no_rule
    own zero l e = absurd (omega arith)
    own (suc zero) l e = refl
    own (suc (suc i)) l e = absurd (omega arith)

-- so desk 1 gets equal answers, whatever the plan
pub alike : (p : List ℕ) → judged_desk two_rules p shared 1 ≡ judged_desk moved p shared 1
alike = undisturbed two_rules moved shared 1 two_sound moved_sound same_for_1

-- ---- two desks

fits : ListFits two_rules shared
unfolding list_right all
fits = (list_iff two_rules shared).0 refl

-- P2 is accepted by both, with 1 and 2 trigger tokens
pub accepted_0 : judged_desk two_rules plan_p2 shared 0 ≡ numbers 0 1 0
unfolding all any or_else least first run in_set in_bounds fifth_width fifth_most begins header_wrong starts owner set_wrong value_tests fifth_tests_of fifth_tests wrong_word record_wrong leaves table_wrong told_word book.length_fault book.header_fault book.end_fault book.record_fault book.book_fault name_at atom_at alternative_at rule_at rules_of token_width job_at tokens_from line_of plan.length_fault plan.sum_before plan.head_wrong plan.head_fault plan.end_fault plan.start_of plan.duration_outside plan.not_successor plan.token_fault plan.token_wrong plan.first_token plan.line_wrong plan.tokens_fault plan.plan_fault end_from ends_apart ends_fault put token_time token_job end_time time_of bounds_hold atom_holds place alternative_met met counted trigger_line is_trigger unmet first_unmet rule_unmet list_right numbered of_desk own_rules fault_from numbered_fault own_fault desk_fault judged_desk
accepted_0 = refl

pub accepted_1 : judged_desk two_rules plan_p2 shared 1 ≡ numbers 0 2 0
unfolding all any or_else least first run in_set in_bounds fifth_width fifth_most begins header_wrong starts owner set_wrong value_tests fifth_tests_of fifth_tests wrong_word record_wrong leaves table_wrong told_word book.length_fault book.header_fault book.end_fault book.record_fault book.book_fault name_at atom_at alternative_at rule_at rules_of token_width job_at tokens_from line_of plan.length_fault plan.sum_before plan.head_wrong plan.head_fault plan.end_fault plan.start_of plan.duration_outside plan.not_successor plan.token_fault plan.token_wrong plan.first_token plan.line_wrong plan.tokens_fault plan.plan_fault end_from ends_apart ends_fault put token_time token_job end_time time_of bounds_hold atom_holds place alternative_met met counted trigger_line is_trigger unmet first_unmet rule_unmet list_right numbered of_desk own_rules fault_from numbered_fault own_fault desk_fault judged_desk
accepted_1 = refl

-- so it satisfies desk 1's rule, as the papers define it, and the undivided judge counts 3
pub desk_1 : DeskAccepted two_rules plan_p2 shared 1
desk_1 = (desk_accepted two_rules plan_p2 shared 1).0 (ap (λ (r : Numbers). r.number) accepted_1)

pub undivided : judged two_rules plan_p2 ≡ numbers 0 3 0
undivided = (counts_add two_rules plan_p2 shared fits 3).1 (1, 2, accepted_0, accepted_1, refl)
