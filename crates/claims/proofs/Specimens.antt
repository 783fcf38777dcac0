-- The specimens of document 01 as one table: antt computes each answer, and it is the one stated. The program `specimens` runs the same words
-- from files. A row for every answer 0 to 12, so each "exactly if" of Faults and Accepted has an example here. Assumes nothing.
use mathlib.Core.Path.{◌≡◌, refl}
use mathlib.Core.Bool.{true}
use mathlib.Core.List.{flat_map}
use Rattle.answers.specs.Numbers.{or_else}
use Rattle.words.specs.Lists.{any, all}
use Rattle.words.specs.Words.{in_set}
use Rattle.words.specs.Least.{least, first}
use Rattle.words.specs.Runs.{run, rows}
use Rattle.clock.specs.Clock.{in_bounds}
use Rattle.layout.specs.Layout.{fifth_width, fifth_most, begins, header_wrong, starts, owner}
use Rattle.records.specs.Wrong.{set_wrong, value_tests, fifth_tests_of, fifth_tests, wrong_word, record_wrong}
use Rattle.book.specs.Fault.{leaves, table_wrong, told_word}
use Rattle.book.specs.Fault as book
use Rattle.book.specs.Rules.{name_at, atom_at, constraint_at, alternative_at, rule_at, rules_of}
use Rattle.book.specs.Encode.{book_of}
use Rattle.lines.specs.Lines.{token_width, job_at, tokens_from, line_of}
use Rattle.lines.specs.Ends.{end_from, ends_apart, ends_fault}
use Rattle.plan.specs.Fault as plan
use Rattle.allen.specs.Relation.{relation_of}
use Rattle.allen.specs.Atoms.{atoms_of}
use Rattle.choice.specs.Met.{put, token_time, token_job, end_time, time_of, bounds_hold, atom_holds, constraint_holds, place, alternative_met, met}
use Rattle.verdict.specs.Judged.{counted, trigger_line, is_trigger, examined, unmet, first_unmet, rule_unmet, rules_fault, judged, judged_sheet}
use Rattle.listing.specs.Expand.{keep, relations_in, choices, atoms_for, expand, translate}
use Rattle.translator.specs.Translation.{rules_for, translated, too_many, rule_fault, size_fault, room_fault, translation}
use Rattle.claims.specs.Specimens.{stands, specimens}

-- THE CLAIM: every specimen is as stated
pub all-stand : all stands specimens ≡ true
unfolding all any flat_map or_else least first run rows in_set in_bounds fifth_width fifth_most begins header_wrong starts owner set_wrong value_tests fifth_tests_of fifth_tests wrong_word record_wrong leaves table_wrong told_word book.length_fault book.header_fault book.end_fault book.record_fault book.book_fault name_at atom_at constraint_at alternative_at rule_at rules_of book_of token_width job_at tokens_from line_of plan.length_fault plan.sum_before plan.head_wrong plan.head_fault plan.end_fault plan.start_of plan.duration_outside plan.not_successor plan.token_fault plan.token_wrong plan.first_token plan.line_wrong plan.tokens_fault plan.plan_fault end_from ends_apart ends_fault relation_of atoms_of put token_time token_job end_time time_of bounds_hold atom_holds constraint_holds place alternative_met met counted trigger_line is_trigger examined unmet first_unmet rule_unmet rules_fault judged judged_sheet keep relations_in choices atoms_for expand translate rules_for translated too_many rule_fault size_fault room_fault translation
all-stand = refl
