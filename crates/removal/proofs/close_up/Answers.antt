-- `removal::close_up` meets its contract: the kept rules are listed, and both runs are closed up to them. Assumes nothing.
use native.Mathlib.Omega.{arith}
use borrow.Author.Rules.{rules}
use Rattle.removal.proofs.Outcome.{few_rules, left_listed, left_fits, left_climbing, left_short, closed_up_lem}
use Rattle.removal.proofs.close_up.Goals as goal

pub list_left-m-requires : goal.list_left-m-requires
list_left-m-requires c = few_rules c.requires

pub slice_bounds-left-end : goal.slice_bounds-left-end
slice_bounds-left-end c =
    let q = left_listed c.requires (search rules) c.list_left-m.ensures in
    q.within

pub slice_bounds-close_book-end : goal.slice_bounds-close_book-end
slice_bounds-close_book-end c =
    let q = left_listed c.requires (search rules) c.list_left-m.ensures in
    q.many

pub close_book-end-requires : goal.close_book-end-requires
close_book-end-requires c =
    let q = left_listed c.requires (search rules) c.list_left-m.ensures in
    left_fits c.requires q.is

pub slice_bounds-left-end-2 : goal.slice_bounds-left-end-2
slice_bounds-left-end-2 c =
    let q = left_listed c.requires (search rules) c.list_left-m.ensures in
    q.within

pub slice_bounds-close_desks-end : goal.slice_bounds-close_desks-end
slice_bounds-close_desks-end c =
    let q = left_listed c.requires (search rules) c.list_left-m.ensures in
    q.many

pub close_desks-requires : goal.close_desks-requires
close_desks-requires c =
    let q = left_listed c.requires (search rules) c.list_left-m.ensures in
    (left_climbing c.requires q.is, left_short c.requires q.is)

pub overflow_cast-result : goal.overflow_cast-result
overflow_cast-result c =
    let q = left_listed c.requires (search rules) c.list_left-m.ensures in
    let fits = left_fits c.requires q.is in
    omega (arith, c.close_book-end.ensures.next, fits.short, c.requires.sound.short)

pub overflow_cast-result-2 : goal.overflow_cast-result-2
overflow_cast-result-2 c =
    let q = left_listed c.requires (search rules) c.list_left-m.ensures in
    let few = few_rules c.requires in
    omega (arith, q.small)

pub returns : goal.returns
returns c =
    let q = left_listed c.requires (search rules) c.list_left-m.ensures in
    let book = c.close_book-end.ensures in
    closed_up_lem c.requires q.is q.many book c.close_desks.ensures
