-- `closing::put_tables` meets its contract: the four tables lie one behind another, so one run follows the other. Assumes nothing.
use borrow.Author.Rules.{rules}
use Rattle.words.proofs.Write.{has_first}
use Rattle.closing.specs.Left.{tables_by}
use Rattle.writing.proofs.Writing.{to_then, to_second}
use Rattle.closing.proofs.put_tables.Goals as goal

pub returns : goal.returns
unfolding tables_by
returns c =
    let names = rw c.number_at.ensures.0 at c.put_parts.ensures in
    let atoms = rw c.number_at-2.ensures.0 at c.put_parts-2.ensures in
    to_then c.put_rules.ensures (to_then c.put_alternatives.ensures (to_then names atoms))

pub put_rules-requires : goal.put_rules-requires
unfolding tables_by
put_rules-requires c = (c.requires.left_len_bound.0, has_first _ _ c.requires.has)

pub put_alternatives-requires : goal.put_alternatives-requires
unfolding tables_by
put_alternatives-requires c =
    record { alts_bound = (c.requires.left_len_bound.1, c.requires.left_len_bound.2); has = has_first _ _ (to_second _ c.put_rules.ensures c.requires.has) }

pub put_parts-requires : goal.put_parts-requires
unfolding tables_by
put_parts-requires c =
    let rest = to_second _ c.put_alternatives.ensures (to_second _ c.put_rules.ensures c.requires.has) in
    (search rules, search rules, c.number_at.ensures.1, rw c.number_at.ensures.0 (has_first _ _ rest))

pub put_parts-requires-2 : goal.put_parts-requires-2
unfolding tables_by
put_parts-requires-2 c =
    let rest = to_second _ c.put_alternatives.ensures (to_second _ c.put_rules.ensures c.requires.has) in
    let names = rw c.number_at.ensures.0 at c.put_parts.ensures in
    (search rules, search rules, c.number_at-2.ensures.1, rw c.number_at-2.ensures.0 (to_second _ names rest))
