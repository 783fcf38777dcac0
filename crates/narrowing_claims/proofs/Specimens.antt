-- The specimens of narrowing, as one table: antt computes each answer and each lent table afterwards, and they are those stated. So each
-- "if" of Kept and Order is met by some input: an alternative that plans meet, one whose sets are all empty, one whose table is too short.
-- Assumes nothing.
use mathlib.Core.Path.{◌≡◌, refl}
use mathlib.Core.Bool.{true}
use Rattle.answers.specs.Numbers.{or_else}
use Rattle.words.specs.Words.{in_set}
use Rattle.words.specs.Lists.{any, all}
use Rattle.words.specs.Least.{least, first}
use Rattle.words.specs.Runs.{run}
use Rattle.layout.specs.Layout.{fifth_width, fifth_most, begins, header_wrong, starts, owner}
use Rattle.records.specs.Wrong.{set_wrong, value_tests, fifth_tests_of, fifth_tests, wrong_word, record_wrong}
use Rattle.book.specs.Fault.{leaves, table_wrong, told_word, length_fault, header_fault, end_fault, record_fault, book_fault}
use Rattle.book.specs.Rules.{constraint_at}
use Rattle.composition.specs.Sets.{down, unions, chosen}
use Rattle.composition.specs.Table.{pair_set, row_set, compose_sets, converse_set}
use Rattle.narrowing.specs.First.{first_word, filled, cut_by, constrained, constrained_all}
use Rattle.narrowing.specs.Narrowed.{cut_word, step_word, through, still, passes, sum, narrowed}
use Rattle.narrowing.specs.Sheet.{rule_of, first_token, words_for, constraints_of, first_table, number_fault, room_fault, narrowing, table_after}
use Rattle.narrowing_claims.specs.Specimens.{same_words, stands, nines, specimens}

-- THE TABLE stands
pub all-stand : all stands specimens ≡ true
unfolding stands nines same_words specimens narrowing table_after number_fault room_fault or_else words_for first_table constraints_of first_token rule_of first_word filled cut_by constrained constrained_all cut_word step_word through still passes sum narrowed pair_set row_set compose_sets converse_set down unions chosen constraint_at length_fault header_fault end_fault record_fault book_fault set_wrong value_tests fifth_tests_of fifth_tests first wrong_word record_wrong leaves table_wrong told_word fifth_width fifth_most begins header_wrong starts owner run least in_set any all
all-stand = refl
