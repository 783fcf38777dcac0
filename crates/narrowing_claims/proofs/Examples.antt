-- No claim of Kept rests on an "if" that no input meets: tokens of the plan P2 meet the alternative of E's sheet, and so stand in relations of
-- its narrowed sets; and "trigger before 1, 1 before trigger" is narrowed to nothing, so that a plan with a trigger token doesn't meet it.
-- Assumes nothing.
use mathlib.Core.Path.{◌≡◌, refl}
use mathlib.Core.Bool.{true, false}
use mathlib.Core.List.{List, [], ◌∷◌}
use Prim.Native.Nat.{ℕ}
use lib.Dec.{lit<}
use Rattle.answers.specs.Numbers.{or_else}
use Rattle.words.specs.Words.{in_set}
use Rattle.words.specs.Lists.{any, all}
use Rattle.words.specs.Least.{least, first}
use Rattle.words.specs.Runs.{run}
use Rattle.clock.specs.Clock.{in_bounds}
use Rattle.layout.specs.Layout.{fifth_width, fifth_most, begins, header_wrong, starts, owner}
use Rattle.records.specs.Wrong.{set_wrong, value_tests, fifth_tests_of, fifth_tests, wrong_word, record_wrong}
use Rattle.book.specs.Fault.{leaves, table_wrong, told_word}
use Rattle.book.specs.Fault as book
use Rattle.book.specs.Rules.{name_at, constraint_at, alternative_at, rule_at}
use Rattle.book.proofs.Specimen.{sheet_e}
use Rattle.lines.specs.declared.Token.{Token}
use Rattle.lines.specs.Lines.{token, token_width, job_at, tokens_from, line_of}
use Rattle.lines.specs.Ends.{plan_end, end_from, ends_apart, ends_fault}
use Rattle.plan.specs.Fault as plan
use Rattle.allen.specs.Relation.{relation_of}
use Rattle.choice.specs.Met.{triggered, put, token_time, constraint_holds, place, alternative_met}
use Rattle.choice.specs.Exists.{Among}
use Rattle.choice.proofs.Exists.{alternative_iff}
use Rattle.verdict.specs.Judged.{trigger_line, is_trigger}
use Rattle.composition.specs.Sets.{down, unions, chosen}
use Rattle.composition.specs.Table.{pair_set, row_set, compose_sets, converse_set}
use Rattle.narrowing.specs.First.{first_word, filled, cut_by, constrained, constrained_all}
use Rattle.narrowing.specs.Narrowed.{cut_word, step_word, through, still, passes, sum, narrowed}
use Rattle.narrowing.specs.Sheet.{rule_of, first_token, words_for, constraints_of, first_table, number_fault, room_fault, narrowing, table_after}
use Rattle.claims.specs.Specimens.{plan_p2}
use Rattle.narrowing_claims.specs.Kept.{alternative_in, rule_in, Meeting, set_of, token_in, relation_of_tokens}
use Rattle.narrowing_claims.proofs.Kept.{no_relation_lost, none_meets}
use Rattle.narrowing_claims.specs.Specimens.{nines}
use Rattle.narrowing_claims.specs.Examples.{both_before}

-- ---- tokens that meet an alternative

-- the RIP's first job of P2
abbrev job : Token
job = token 1 10 30 0

job_on : Among job (trigger_line (line_of plan_p2) (rule_in sheet_e 0))
unfolding trigger_line line_of token_width job_at tokens_from rule_at rule_of owner least
job_on = record { index = 1; within = lit< tt; here = refl }

met : alternative_met constraint_holds (line_of plan_p2) (triggered (plan_end (line_of plan_p2)) job) (alternative_in sheet_e 0) ≡ true
unfolding alternative_met place put token_time constraint_holds relation_of first any all run line_of token_width job_at tokens_from alternative_at name_at constraint_at in_set
met = refl

pub meeting : (ts : List Token) × Meeting sheet_e 0 plan_p2 job ts
unfolding is_trigger rule_at rule_of owner least plan.plan_fault end_from ends_apart ends_fault line_of token_width job_at tokens_from in_bounds plan.length_fault plan.head_fault plan.end_fault plan.tokens_fault plan.sum_before plan.head_wrong plan.start_of plan.duration_outside plan.not_successor plan.token_fault plan.token_wrong plan.first_token plan.line_wrong or_else in_set
meeting =
    let w = (alternative_iff constraint_holds (line_of plan_p2) job (alternative_in sheet_e 0)).0 met in
    (w.0, record { plan = refl; on = job_on; trigger = refl; meets = w.1 })

-- so its relation to the decoder's token is in the narrowed set
pub kept : in_set (set_of 2 (table_after sheet_e 0 (nines 4)) 0 1) (relation_of_tokens (token_in sheet_e 0 job meeting.0 0) (token_in sheet_e 0 job meeting.0 1)) ≡ true
unfolding nines narrowing number_fault room_fault or_else words_for first_token rule_of book.length_fault book.header_fault book.end_fault book.record_fault book.book_fault set_wrong value_tests fifth_tests_of fifth_tests first wrong_word record_wrong leaves table_wrong told_word fifth_width fifth_most begins header_wrong starts owner run least in_set any all
kept = no_relation_lost sheet_e 0 (nines 4) refl plan_p2 job meeting.0 meeting.1 0 1 (lit< tt) (lit< tt)

-- a plan of one token, which lasts 5
abbrev one_token : List ℕ
one_token = 1 ∷ 7 ∷ 1 ∷ 0 ∷ 1 ∷ 0 ∷ 5 ∷ []

only_on : Among (token 0 0 5 0) (trigger_line (line_of one_token) (rule_in both_before 0))
unfolding trigger_line line_of token_width job_at tokens_from rule_at rule_of owner least
only_on = record { index = 0; within = lit< tt; here = refl }

pub nothing_meets : alternative_met constraint_holds (line_of one_token) (triggered (plan_end (line_of one_token)) (token 0 0 5 0)) (alternative_in both_before 0) ≡ false
unfolding nines narrowing table_after number_fault room_fault or_else words_for first_table constraints_of first_token rule_of first_word filled cut_by constrained constrained_all cut_word step_word through still passes sum narrowed pair_set row_set compose_sets converse_set down unions chosen constraint_at book.length_fault book.header_fault book.end_fault book.record_fault book.book_fault set_wrong value_tests fifth_tests_of fifth_tests first wrong_word record_wrong leaves table_wrong told_word fifth_width fifth_most begins header_wrong starts owner run least in_set any all is_trigger rule_at plan.plan_fault end_from ends_apart ends_fault line_of token_width job_at tokens_from in_bounds plan.length_fault plan.head_fault plan.end_fault plan.tokens_fault plan.sum_before plan.head_wrong plan.start_of plan.duration_outside plan.not_successor plan.token_fault plan.token_wrong plan.first_token plan.line_wrong
nothing_meets = none_meets both_before 0 (nines 4) refl 0 1 (lit< tt) (lit< tt) refl one_token refl (token 0 0 5 0) only_on refl
