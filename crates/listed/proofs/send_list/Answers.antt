-- `listed::send_list` meets its contract: three words, and the events. Assumes nothing.
use mathlib.Core.Path.{sym}
use native.Mathlib.Omega.{arith}
use borrow.Author.Rules.{rules}
use Rattle.sink.proofs.Sends.{sends_then, sends_as, sends_place}
use Rattle.listed.proofs.Laws.{list_as, sends_left}
use Rattle.listed.proofs.send_list.Goals as goal

pub send_events-requires : goal.send_events-requires
send_events-requires c = (omega (arith, sends_place c.send-3.ensures, sends_place c.send-2.ensures, sends_place c.send.ensures), c.requires.0)

pub returns : goal.returns
returns c =
    let size = c.requires.1 in
    let all = sends_as (list_as c.args.plan.now _ _ _ c.word_at-edition.ensures size.words size.events)
    (sends_then (sends_then (sends_then c.send.ensures c.send-2.ensures) c.send-3.ensures) c.send_events.ensures.0) in
    let same = sym all.room in
    let sent = all.words in
    search (rules, sends_left)
