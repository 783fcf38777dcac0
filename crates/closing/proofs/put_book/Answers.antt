-- `closing::put_book` meets its contract: the alternatives are listed, so the book can be written. Assumes nothing.
use mathlib.Core.Path.{sym}
use Prim.Native.Nat.{◌≤◌}
use native.Mathlib.Omega.{arith}
use borrow.Author.Rules.{rules}
use Rattle.closing.proofs.Whole.{listed_front}
use Rattle.writing.proofs.Writing.{wrote_left}
use Rattle.closing.proofs.put_book.Goals as goal

pub put_all-requires : goal.put_all-requires
put_all-requires c =
    let same = sym c.list_alternatives.ensures.room in
    let wrote = c.list_alternatives.ensures.words in
    let few = c.requires.0.alternatives in
    let short = c.requires.0.short in
    let fits : c.list_alternatives.new.w.at ≤ 1024 = omega (arith, wrote.next) in
    (record { fitting = c.requires.0; listed = search (rules, listed_front) }, record { fits = omega arith })

pub returns : goal.returns
returns c =
    let same = sym c.put_all.ensures.room in
    let wrote = c.put_all.ensures.words in
    search (rules, wrote_left)
