-- The specimens of L6, as two tables: antt computes each answer and each room afterwards, and they are those stated. Assumes nothing.
use mathlib.Core.Path.{◌≡◌, refl}
use mathlib.Core.Bool.{true}
use mathlib.Core.List.{flat_map}
use Rattle.answers.specs.Numbers.{or_else}
use Rattle.words.specs.Words.{in_set}
use Rattle.words.specs.Lists.{any, all}
use Rattle.words.specs.Least.{least, first}
use Rattle.words.specs.Runs.{run}
use Rattle.clock.specs.Clock.{in_bounds}
use Rattle.layout.specs.Layout.{fifth_width, fifth_most, begins, header_wrong, starts, owner}
use Rattle.records.specs.Wrong.{set_wrong, value_tests, fifth_tests_of, fifth_tests, wrong_word, record_wrong}
use Rattle.book.specs.Fault.{leaves, table_wrong, told_word}
use Rattle.book.specs.Fault as book
use Rattle.lines.specs.Lines.{token_width, job_at, tokens_from, line_of}
use Rattle.lines.specs.Ends.{end_from, ends_apart, ends_fault}
use Rattle.plan.specs.Fault as plan
use Rattle.event_list.specs.Events.{to_run, start_on, change_on, later, by_line, soonest, sweep, line_ticks, plan_ticks, events_of}
use Rattle.event_list.specs.Words.{action_width, action_words, event_words, list_words}
use Rattle.event_list.specs.Plans.{line_tokens, plan_lines, token_words, line_words, head_words, plan_words, list_of}
use Rattle.event_list.specs.Reading.{action_job, ends_here, add_ticks, next_place, next_left, closes, next_ticks, closed, read_from, read_line, read_lines, plan_from}
use Rattle.event_list.specs.Sends.{is_words}
use Rattle.event_list.specs.Answers.{write_fault, room_fault, into, room_after, written_events, written_room, could_be_written, list_fault, read_events, read_room}
use Rattle.events_claims.specs.Specimens.{writes, reads, filled, written, lists_read}

-- THE TABLES stand
pub all-written : all writes written ≡ true
unfolding writes reads filled written lists_read write_fault room_fault into room_after written_events written_room could_be_written list_fault read_events read_room is_words or_else to_run start_on change_on later by_line soonest sweep line_ticks plan_ticks events_of action_width action_words event_words list_words line_tokens plan_lines token_words line_words head_words plan_words list_of action_job ends_here add_ticks next_place next_left closes next_ticks closed read_from read_line read_lines plan_from flat_map token_width job_at tokens_from line_of end_from ends_apart ends_fault in_bounds plan.plan_fault plan.length_fault plan.head_fault plan.end_fault plan.tokens_fault plan.sum_before plan.head_wrong plan.start_of plan.duration_outside plan.not_successor plan.token_fault plan.token_wrong plan.first_token plan.line_wrong book.length_fault book.header_fault book.end_fault book.record_fault book.book_fault set_wrong value_tests fifth_tests_of fifth_tests first wrong_word record_wrong leaves table_wrong told_word fifth_width fifth_most begins header_wrong starts owner run least in_set any all
all-written = refl

pub all_read : all reads lists_read ≡ true
unfolding writes reads filled written lists_read write_fault room_fault into room_after written_events written_room could_be_written list_fault read_events read_room is_words or_else to_run start_on change_on later by_line soonest sweep line_ticks plan_ticks events_of action_width action_words event_words list_words line_tokens plan_lines token_words line_words head_words plan_words list_of action_job ends_here add_ticks next_place next_left closes next_ticks closed read_from read_line read_lines plan_from flat_map token_width job_at tokens_from line_of end_from ends_apart ends_fault in_bounds plan.plan_fault plan.length_fault plan.head_fault plan.end_fault plan.tokens_fault plan.sum_before plan.head_wrong plan.start_of plan.duration_outside plan.not_successor plan.token_fault plan.token_wrong plan.first_token plan.line_wrong book.length_fault book.header_fault book.end_fault book.record_fault book.book_fault set_wrong value_tests fifth_tests_of fifth_tests first wrong_word record_wrong leaves table_wrong told_word fifth_width fifth_most begins header_wrong starts owner run least in_set any all
all_read = refl
