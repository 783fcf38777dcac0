-- `listing::list_rules` meets its contract, by the invariant in Invariants.antt. Assumes nothing.
use mathlib.Core.Path.{refl}
use native.Mathlib.Omega.{arith}
use borrow.Author.Rules.{rules}
use Rattle.layout.specs.Layout.{count}
use Rattle.listing.specs.Expand.{too_many}
use Rattle.listing.proofs.Going.{start, go, done, gather_more, gather_none, front, put_one, seek_hit, seek_miss, seek_end}
use Rattle.listing.proofs.Making.{items_start, sizes-start, rules_start, sizes_more, sizes-none, fits_at, all-at, few_at, over_at}
use Rattle.listing.proofs.list_rules.Goals as goal

pub loop-i-init : goal.loop-i-init
loop-i-init c =
    let hn = c.number_at-rules.ensures.0 in
    let ho = c.number_at-table.ensures.0 in
    (search rules, (rules_start _ _ _ hn ho, (start _ _ (items_start _ _ _ hn ho), start _ _ (sizes-start _ _ _ hn ho))))

pub list_alternatives-m-requires : goal.list_alternatives-m-requires
list_alternatives-m-requires c =
    let f = fits_at _ _ _ _ _ c.number_at-base.ensures.0 c.number_at-part.ensures.0 c.number_at-k.ensures.0 c.loop-i.i c.requires.0 (omega arith) (omega arith) in
    (f.0, (omega (arith, c.requires.0.few), f.1))

pub returns-then-added-gt-MOST : goal.returns-then-added-gt-MOST
returns-then-added-gt-MOST c =
    let over = over_at _ _ _ _ _ c.number_at-base.ensures.0 c.number_at-part.ensures.0 c.number_at-k.ensures.0 c.list_alternatives-m.ensures c.if-added-gt-MOST.true in
    (seek_hit too_many _ _ _ _ _ _ c.loop-i.invariant.1.0 c.loop-i-test.true over, omega arith)

pub loop-i-preserved : goal.loop-i-preserved
loop-i-preserved c =
    let inv = c.loop-i.invariant in
    let wrote = all-at _ _ _ _ _ c.number_at-base.ensures.0 c.number_at-part.ensures.0 c.number_at-k.ensures.0 c.list_alternatives-m.ensures c.if-added-gt-MOST.false in
    let few = few_at _ _ _ _ _ c.number_at-base.ensures.0 c.number_at-part.ensures.0 c.number_at-k.ensures.0 c.list_alternatives-m.ensures c.if-added-gt-MOST.false in (
      omega arith,
      (
        seek_miss too_many _ _ _ _ _ _ inv.1.0 c.loop-i-test.true few,
        (
          go inv.1.1.0 (gather_more _ _ _ _ _ c.loop-i-test.true) wrote,
          go inv.1.1.1 (sizes_more _ _ _ _ c.loop-i-test.true) (put_one _ _ _ (omega (arith, wrote.next))),
        ),
      ),
    )

pub returns : goal.returns
returns c =
    let inv = c.loop-i.invariant in
    let e = seek_end too_many _ _ _ _ _ _ inv.1.0 c.loop-i-test.false in (
      omega arith,
      record {
        few = omega (arith, c.requires.0.few);
        within = omega (arith, c.requires.0.few, inv.1.1.0.long);
        enough = omega (arith, c.requires.0.few, inv.1.1.1.long);
        list = front (done inv.1.1.0 (gather_none _ _ _ _ _ c.loop-i-test.false)) refl (omega (arith, c.requires.0.few));
        counts = front {m = count c.args.s.now 2} (done inv.1.1.1 (sizes-none _ _ _ _ c.loop-i-test.false)) (omega arith) (omega (arith, c.requires.0.few));
      },
    )
