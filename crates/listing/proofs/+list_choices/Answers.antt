-- `listing::list_choices` meets its contract: the items of the constraints that remain, relation by relation, as far as the limit.
-- Assumes nothing.
use native.Mathlib.Omega.{arith}
use borrow.Author.Rules.{rules}
use Rattle.words.proofs.Write.{none}
use Rattle.listing.proofs.Going.{then_cut, cut_full, cut_none, cut_one}
use Rattle.listing.proofs.Items.{items_leaf, items_end, items_skip, items_take, bit, digits_step, digits_next, digit_small}
use Rattle.listing.proofs.+list_choices.Goals as goal

pub returns-then-n-limit : goal.returns-then-n-limit
returns-then-n-limit t c = rw (cut_full _ _ _ c.if-n-limit.true) (none _ _)

pub returns-then-k-eq0 : goal.returns-then-k-eq0
returns-then-k-eq0 t c = rw (items_leaf _ _ _ _ _ _ c.if-k-eq0.true, cut_one _ _ _ c.if-n-limit.false) (search rules)

pub overflow_mul-m : goal.overflow_mul-m
overflow_mul-m t c =
    omega (arith, digit_small c.args.m c.args.acc c.args.x c.requires.1.1.0 c.if-x-lt13.true, digits_next c.args.k c.args.m c.if-k-eq0.false c.requires.1.0)

pub overflow_add-acc : goal.overflow_add-acc
overflow_add-acc t c =
    omega (arith, digit_small c.args.m c.args.acc c.args.x c.requires.1.1.0 c.if-x-lt13.true, digits_next c.args.k c.args.m c.if-k-eq0.false c.requires.1.0)

pub overflow_mul-m-then-in_set : goal.overflow_mul-m-then-in_set
overflow_mul-m-then-in_set t c = omega (arith, digits_next c.args.k c.args.m c.if-k-eq0.false c.requires.1.0)

pub list_choices-a-requires : goal.list_choices-a-requires
list_choices-a-requires t c =
    (search rules, (search rules, (digits_step _ _ c.if-k-eq0.false c.requires.1.0, (digit_small _ _ _ c.requires.1.1.0 c.if-x-lt13.true, search rules))))

pub returns-then-in_set : goal.returns-then-in_set
returns-then-in_set t c =
    then_cut
    _
    _
    _
    (items_take _ _ _ _ _ c.if-k-eq0.false _ c.if-x-lt13.true (bit _ c.word_at.ensures c.in_set.ensures c.if-in_set.true))
    c.list_choices-a.ensures
    c.list_choices.ensures

pub returns-then-x-lt13 : goal.returns-then-x-lt13
returns-then-x-lt13 t c =
    rw (items_skip _ _ _ _ _ c.if-k-eq0.false _ c.if-x-lt13.true (bit _ c.word_at.ensures c.in_set.ensures c.if-in_set.false))
    c.list_choices-then-x-lt13.ensures

pub returns : goal.returns
returns t c = rw (items_end _ _ _ _ _ c.if-k-eq0.false _ c.if-x-lt13.false, cut_none) (none _ _)
