-- `writing::put_rules` meets its contract: rule by rule, what is left is one row shorter. Assumes nothing.
use mathlib.Core.Path.{refl, ap}
use Prim.Native.Nat.{◌+◌, ◌*◌}
use native.Mathlib.Omega.{arith}
use lib.ListN.{length}
use Rattle.words.proofs.Write.{has_first}
use Rattle.layout.specs.Layout.{count}
use Rattle.listing.specs.Items.{rule_items}
use Rattle.listing.proofs.Making.{items_start}
use Rattle.writing.specs.Left.{rules_left}
use Rattle.writing.proofs.Left.{rules_more, rules_none, sizes-long, sizes-at, gather-long}
use Rattle.writing.proofs.Writing.{to_start, to_go, to_done, to_room}
use Rattle.writing.proofs.put_rules.Goals as goal

pub loop-i-init : goal.loop-i-init
loop-i-init c =
    let s = c.args.s.now in
    let o = c.number_at-table.result in (
      omega (arith, ap length (items_start s (count s 2) o refl c.number_at-table.ensures.0)),
      to_start _ (ap (λ q. rules_left s (count s 2) 0 q 0) (omega (arith, c.number_at-table.ensures.0))),
    )

pub put-requires : goal.put-requires
put-requires c =
    let s = c.args.s.now in
    let o = c.number_at-table.result in
    let long = sizes-long _ _ _ _ c.requires.numbers_value.0 in
    let size = sizes-at _ _ _ _ c.requires.numbers_value.0 c.loop-i.i (o + 4 * c.loop-i.i) (omega arith) (omega arith) in
    let more = rules_more s (count s 2) c.loop-i.i o c.loop-i.k (omega arith) _ _ _ c.word_at-v.ensures c.word_at-x.ensures size in
    has_first _ _ (rw more at (to_room c.requires.has c.loop-i.invariant.1))

pub overflow_add-k : goal.overflow_add-k
overflow_add-k c =
    let s = c.args.s.now in
    let o = c.number_at-table.result in
    let long = sizes-long _ _ _ _ c.requires.numbers_value.0 in
    let size = sizes-at _ _ _ _ c.requires.numbers_value.0 c.loop-i.i (o + 4 * c.loop-i.i) (omega arith) (omega arith) in
    omega (arith, gather-long (rule_items s) 4 (count s 2) c.loop-i.i o (omega arith))

pub loop-i-preserved : goal.loop-i-preserved
loop-i-preserved c =
    let s = c.args.s.now in
    let o = c.number_at-table.result in
    let long = sizes-long _ _ _ _ c.requires.numbers_value.0 in
    let size = sizes-at _ _ _ _ c.requires.numbers_value.0 c.loop-i.i (o + 4 * c.loop-i.i) (omega arith) (omega arith) in
    let more = rules_more s (count s 2) c.loop-i.i o c.loop-i.k (omega arith) _ _ _ c.word_at-v.ensures c.word_at-x.ensures size in
    (omega (arith, gather-long (rule_items s) 4 (count s 2) c.loop-i.i o (omega arith)), to_go c.loop-i.invariant.1 more c.put.ensures)

pub returns : goal.returns
returns c = to_done c.loop-i.invariant.1 (rules_none _ _ _ _ _ (omega (arith, sizes-long _ _ _ _ c.requires.numbers_value.0)))
