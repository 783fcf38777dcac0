-- `writing::put_book` meets its contract: header, tables 0 and 1, and the other tables, one behind the other, are the book.
-- Assumes nothing.
use mathlib.Core.Path.{sym}
use mathlib.Core.List.{◌++◌}
use native.Mathlib.Omega.{arith}
use borrow.Author.Rules.{rules}
use Rattle.words.proofs.Write.{has_first}
use Rattle.book.proofs.Inside.{offsets}
use Rattle.writing.specs.Whole.{tables_by, copied}
use Rattle.writing.proofs.Whole.{book_by_lem, book_room}
use Rattle.writing.proofs.Writing.{to_then, to_as, to_second, wrote_left}
use Rattle.writing.proofs.put_book.Goals as goal

pub put_header-requires : goal.put_header-requires
put_header-requires c = (c.requires.1.short, has_first _ _ (book_room c.requires.0 c.requires.1))

pub slice_bounds-put-count : goal.slice_bounds-put-count
slice_bounds-put-count c =
    let o = offsets c.requires.0.sound in
    omega (arith, c.number_at.ensures.0, o.rules)

pub slice_bounds-put-start : goal.slice_bounds-put-start
slice_bounds-put-start c =
    let o = offsets c.requires.0.sound in
    omega (arith, c.number_at.ensures.0, o.rules)

pub slice_bounds-put-end : goal.slice_bounds-put-end
slice_bounds-put-end c =
    let o = offsets c.requires.0.sound in
    omega (arith, c.number_at.ensures.0, o.rules, o.all)

pub put-requires : goal.put-requires
put-requires c =
    let s = c.args.s.now in
    rw c.number_at.ensures.0 (has_first (copied s) _ (to_second (copied s ++ tables_by s c.args.list.now) c.put_header.ensures (book_room c.requires.0 c.requires.1)))

pub put_tables-requires : goal.put_tables-requires
put_tables-requires c =
    let s = c.args.s.now in
    let has = to_second (copied s ++ tables_by s c.args.list.now) c.put_header.ensures (book_room c.requires.0 c.requires.1) in
    record {
      ready = c.requires.0;
      list_bound = (omega (arith, c.requires.1.names, c.requires.1.few_names), omega (arith, c.requires.1.atoms, c.requires.1.few_atoms));
      has = to_second _ (rw c.number_at.ensures.0 at c.put.ensures) has;
    }

pub returns : goal.returns
returns c =
    let book = to_then c.put_header.ensures (to_then (rw c.number_at.ensures.0 at c.put.ensures) c.put_tables.ensures) in
    let all = to_as (sym (book_by_lem c.requires.0 c.requires.1)) book in
    let same = sym all.room in
    let wrote = all.words in
    search (rules, wrote_left)
