-- Cases of a desk's own judgement as one table: antt computes each answer, and it is the one stated. Each "exactly if" of Accepted and Faults has a
-- row here. Assumes nothing.
use mathlib.Core.Path.{◌≡◌, refl}
use mathlib.Core.Bool.{true}
use Rattle.answers.specs.Numbers.{or_else}
use Rattle.words.specs.Lists.{any, all}
use Rattle.words.specs.Words.{in_set}
use Rattle.words.specs.Least.{least, first}
use Rattle.words.specs.Runs.{run}
use Rattle.clock.specs.Clock.{in_bounds}
use Rattle.layout.specs.Layout.{fifth_width, fifth_most, begins, header_wrong, starts, owner}
use Rattle.records.specs.Wrong.{set_wrong, value_tests, fifth_tests_of, fifth_tests, wrong_word, record_wrong}
use Rattle.book.specs.Fault.{leaves, table_wrong, told_word}
use Rattle.book.specs.Fault as book
use Rattle.book.specs.Rules.{name_at, atom_at, alternative_at, rule_at, rules_of}
use Rattle.lines.specs.Lines.{token_width, job_at, tokens_from, line_of}
use Rattle.lines.specs.Ends.{end_from, ends_apart, ends_fault}
use Rattle.plan.specs.Fault as plan
use Rattle.choice.specs.Met.{put, token_time, token_job, end_time, time_of, bounds_hold, atom_holds, place, alternative_met, met}
use Rattle.verdict.specs.Judged.{counted, trigger_line, is_trigger, unmet, first_unmet, rule_unmet}
use Rattle.desks.specs.List.{list_right}
use Rattle.desks.specs.Own.{numbered, of_desk, own_rules, fault_from, numbered_fault, own_fault, desk_fault, judged_desk}
use Rattle.desks_claims.specs.Specimens.{stands, specimens}

-- THE CLAIM: every case is as stated
pub all-stand : all stands specimens ≡ true
unfolding all any or_else least first run in_set in_bounds fifth_width fifth_most begins header_wrong starts owner set_wrong value_tests fifth_tests_of fifth_tests wrong_word record_wrong leaves table_wrong told_word book.length_fault book.header_fault book.end_fault book.record_fault book.book_fault name_at atom_at alternative_at rule_at rules_of token_width job_at tokens_from line_of plan.length_fault plan.sum_before plan.head_wrong plan.head_fault plan.end_fault plan.start_of plan.duration_outside plan.not_successor plan.token_fault plan.token_wrong plan.first_token plan.line_wrong plan.tokens_fault plan.plan_fault end_from ends_apart ends_fault put token_time token_job end_time time_of bounds_hold atom_holds place alternative_met met counted trigger_line is_trigger unmet first_unmet rule_unmet list_right numbered of_desk own_rules fault_from numbered_fault own_fault desk_fault judged_desk
all-stand = refl
