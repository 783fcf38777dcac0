-- `earliest::Table::put_timed` meets its contract: the difference of two terms. Assumes nothing.
use native.Mathlib.Omega.{arith}
use Rattle.earliest.proofs.Filling.{added_as, apart_atom, is_term_as}
use Rattle.earliest.proofs.Table.put_timed.Goals as goal

pub returns : goal.returns
returns c =
    let l = c.term_of-l in
    let r = c.term_of-r in
    added_as
    c.put_difference.ensures
    (apart_atom
    c.args.b.now
    c.args.at
    c.word_at-lower.result
    c.word_at-upper.result
    l.result
    r.result
    (λ e. omega (arith, e, c.requires.0.left.kinds))
    (is_term_as c.word_at-left_kind.ensures c.word_at-left.ensures l.ensures)
    (is_term_as c.word_at-right_kind.ensures c.word_at-right.ensures r.ensures)
    c.word_at-lower.ensures
    c.word_at-upper.ensures)
