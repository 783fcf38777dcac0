-- `removal::close_book` meets its contract: the copy is the book as it was. Assumes nothing.
use mathlib.Core.Path.{refl, sym}
use borrow.Author.Rules.{rules}
use lib.Seq.{length-take-le}
use Rattle.closing.proofs.Whole.{wrote_long, copy_is}
use Rattle.removal.proofs.close_book.Goals as goal

pub slice_bounds-put_book-end : goal.slice_bounds-put_book-end
slice_bounds-put_book-end c =
    let short = c.requires.sound.short in
    let long = wrote_long c.put_words.ensures in
    sym (length-take-le _ _ (search (rules, long)))

pub put_book-requires : goal.put_book-requires
put_book-requires c =
    let short = c.requires.sound.short in
    rw (copy_is {b = c.args.book.now} c.put_words.ensures refl (search rules)) (c.requires, refl)

pub returns : goal.returns
returns c =
    let short = c.requires.sound.short in
    rw (copy_is {b = c.args.book.now} c.put_words.ensures refl (search rules)) at c.put_book.ensures
