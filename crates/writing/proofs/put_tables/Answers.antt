-- `writing::put_tables` meets its contract: the four tables lie one behind another, so one run follows the other.
-- Assumes nothing.
use Rattle.words.proofs.Write.{has_first}
use Rattle.writing.specs.Whole.{tables_by}
use Rattle.writing.proofs.Whole.{items_few}
use Rattle.writing.proofs.Writing.{to_then, to_second}
use Rattle.writing.proofs.put_tables.Goals as goal

pub returns : goal.returns
unfolding tables_by
returns c = to_then c.put_rules.ensures (to_then c.put_alternatives.ensures (to_then c.put_names.ensures c.put_atoms.ensures))

pub put_rules-requires : goal.put_rules-requires
unfolding tables_by
put_rules-requires c = record { numbers_value = (c.requires.ready.counts, items_few c.requires.ready); has = has_first _ _ c.requires.has }

pub put_alternatives-requires : goal.put_alternatives-requires
unfolding tables_by
put_alternatives-requires c = record { list_bound = c.requires.list_bound; has = has_first _ _ (to_second _ c.put_rules.ensures c.requires.has) }

pub put_names-requires : goal.put_names-requires
unfolding tables_by
put_names-requires c = has_first _ _ (to_second _ c.put_alternatives.ensures (to_second _ c.put_rules.ensures c.requires.has))

pub put_atoms-requires : goal.put_atoms-requires
unfolding tables_by
put_atoms-requires c =
    to_second _ c.put_names.ensures (to_second _ c.put_alternatives.ensures (to_second _ c.put_rules.ensures c.requires.has))
