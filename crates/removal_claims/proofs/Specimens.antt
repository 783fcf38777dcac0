-- The specimens of taking rules out, as one table: antt computes each answer and both lent runs afterwards, and they are those stated. So each "if"
-- of Removed and Answers is met by some input; and plans that pass the shorter book, one of which the book refuses. Assumes nothing.
use mathlib.Core.Path.{refl}
use mathlib.Core.List.{flat_map}
use Rattle.answers.specs.Numbers.{or_else}
use Rattle.words.specs.Words.{in_set}
use Rattle.words.specs.Lists.{any, all, All}
use Rattle.words.specs.Least.{least, first}
use Rattle.words.specs.Runs.{run, rows}
use Rattle.clock.specs.Clock.{in_bounds}
use Rattle.layout.specs.Layout.{fifth_width, fifth_most, begins, header_wrong, starts, owner}
use Rattle.records.specs.Wrong.{set_wrong, value_tests, fifth_tests_of, fifth_tests, wrong_word, record_wrong}
use Rattle.book.specs.Fault.{leaves, table_wrong, told_word, length_fault, header_fault, end_fault, record_fault, book_fault}
use Rattle.book.specs.Rules.{name_at, atom_at, alternative_at, rule_at, rules_of}
use Rattle.book.specs.Encode.{book_of}
use Rattle.lines.specs.Lines.{token_width, job_at, tokens_from, line_of}
use Rattle.lines.specs.Ends.{end_from, ends_apart, ends_fault}
use Rattle.plan.specs.Fault as plan
use Rattle.choice.specs.Met.{put, token_time, token_job, end_time, time_of, bounds_hold, atom_holds, place, alternative_met, met}
use Rattle.verdict.specs.Judged.{counted, trigger_line, is_trigger, examined, unmet, first_unmet, rule_unmet, rules_fault, judged}
use Rattle.desks.specs.List.{list_right}
use Rattle.closing.specs.Rebuilt.{rebuilt}
use Rattle.removal.specs.Removed.{kept, removed_book, in_front}
use Rattle.removal.specs.Removal.{rising, desk_fault, list_fault, removal_fault, removal, book_after, desks_after}
use Rattle.removal_claims.specs.Specimens.{Stands, specimens, Judged, judgements}

-- THE TABLE stands
pub all-stand : All Stands specimens
unfolding specimens removal book_after desks_after removal_fault desk_fault list_fault rising list_right removed_book rebuilt in_front kept or_else book_of rows rules_of rule_at alternative_at name_at atom_at flat_map length_fault header_fault end_fault record_fault book_fault set_wrong value_tests fifth_tests_of fifth_tests first wrong_word record_wrong leaves table_wrong told_word fifth_width fifth_most begins header_wrong starts owner run least in_set any all
all-stand = (
  (refl, refl, refl),
  (
    (refl, refl, refl),
    (
      (refl, refl, refl),
      (
        (refl, refl, refl),
        (
          (refl, refl, refl),
          ((refl, refl, refl), ((refl, refl, refl), ((refl, refl, refl), ((refl, refl, refl), ((refl, refl, refl), ((refl, refl, refl), tt)))))),
        ),
      ),
    ),
  ),
)

-- THE TABLE stands
pub all-judged : All Judged judgements
unfolding judgements removed_book rebuilt kept all any flat_map or_else least first run rows in_set in_bounds fifth_width fifth_most begins header_wrong starts owner set_wrong value_tests fifth_tests_of fifth_tests wrong_word record_wrong leaves table_wrong told_word length_fault header_fault end_fault record_fault book_fault name_at atom_at alternative_at rule_at rules_of book_of token_width job_at tokens_from line_of plan.length_fault plan.sum_before plan.head_wrong plan.head_fault plan.end_fault plan.start_of plan.duration_outside plan.not_successor plan.token_fault plan.token_wrong plan.first_token plan.line_wrong plan.tokens_fault plan.plan_fault end_from ends_apart ends_fault put token_time token_job end_time time_of bounds_hold atom_holds place alternative_met met counted trigger_line is_trigger examined unmet first_unmet rule_unmet rules_fault judged
all-judged = ((refl, refl), ((refl, refl), ((refl, refl), ((refl, refl), ((refl, refl), tt)))))
