-- `closing::put_all` meets its contract: header, tables 0 and 1, and the other tables, one behind the other, are the book. Assumes nothing.
use mathlib.Core.Path.{sym}
use mathlib.Core.List.{◌++◌}
use native.Mathlib.Omega.{arith}
use borrow.Author.Rules.{rules}
use Rattle.words.proofs.Write.{has_first}
use Rattle.writing.specs.Whole.{copied}
use Rattle.closing.specs.Left.{tables_by}
use Rattle.closing.proofs.Whole.{few_alternatives_lem, few_parts, laid}
use Rattle.writing.proofs.Writing.{to_then, to_as, to_second}
use Rattle.closing.proofs.put_all.Goals as goal

pub total-m-requires : goal.total-m-requires
total-m-requires c = (few_alternatives_lem c.requires.0, search rules)

pub total-k-requires : goal.total-k-requires
total-k-requires c = (few_alternatives_lem c.requires.0, search rules)

pub slice_bounds-put-count : goal.slice_bounds-put-count
slice_bounds-put-count c =
    let q = laid c.requires.0 c.total-m.ensures.0 c.total-k.ensures.0 in
    omega (arith, c.number_at.ensures.0, q.begins)

pub slice_bounds-put-start : goal.slice_bounds-put-start
slice_bounds-put-start c =
    let q = laid c.requires.0 c.total-m.ensures.0 c.total-k.ensures.0 in
    omega (arith, c.number_at.ensures.0, q.begins)

pub slice_bounds-put-end : goal.slice_bounds-put-end
slice_bounds-put-end c =
    let q = laid c.requires.0 c.total-m.ensures.0 c.total-k.ensures.0 in
    omega (arith, c.number_at.ensures.0, q.begins, q.inside)

pub put_header-requires : goal.put_header-requires
put_header-requires c =
    let q = laid c.requires.0 c.total-m.ensures.0 c.total-k.ensures.0 in
    (q.ends, has_first _ _ (rw q.is at c.requires.1))

pub put-requires : goal.put-requires
put-requires c =
    let q = laid c.requires.0 c.total-m.ensures.0 c.total-k.ensures.0 in
    let s = c.args.s.now in
    let tables = copied s ++ tables_by s c.args.left.now c.args.alts.now in
    rw c.number_at.ensures.0 (has_first (copied s) _ (to_second tables c.put_header.ensures (rw q.is at c.requires.1)))

pub put_tables-requires : goal.put_tables-requires
put_tables-requires c =
    let q = laid c.requires.0 c.total-m.ensures.0 c.total-k.ensures.0 in
    let few = few_parts c.requires.0 in
    let copy = rw c.number_at.ensures.0 at c.put.ensures in
    let rest = to_second _ copy (to_second _ c.put_header.ensures (rw q.is at c.requires.1)) in
    record { left_len_bound = (c.requires.0.fitting.alternatives, few.0, few.1); has = rest }

pub returns : goal.returns
returns c =
    let q = laid c.requires.0 c.total-m.ensures.0 c.total-k.ensures.0 in
    let copy = rw c.number_at.ensures.0 at c.put.ensures in
    to_as (sym q.is) (to_then c.put_header.ensures (to_then copy c.put_tables.ensures))
