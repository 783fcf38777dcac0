-- `composition::compose_pair` meets its contract. Assumes nothing.
use mathlib.Core.Path.{refl, sym}
use Rattle.composition.specs.Table.{pair_set}
use Rattle.composition.proofs.Rule.{no_row, no_column}
use Rattle.composition.proofs.compose_pair.Goals.{else-p-lt13-via-then-p-lt13+else-q-lt13, else-p-lt13-via-else-p-lt13}
use Rattle.composition.proofs.compose_pair.Goals as goal

pub returns-then-q-lt13 : goal.returns-then-q-lt13
unfolding pair_set
returns-then-q-lt13 c = refl

pub returns-else-p-lt13 : goal.returns-else-p-lt13
returns-else-p-lt13 c =
    elim c.else-p-lt13.branch [
      | else-p-lt13-via-then-p-lt13+else-q-lt13 w ↦ sym (no_column _ _ w.if-p-lt13.true w.if-q-lt13.false)
      | else-p-lt13-via-else-p-lt13 w ↦ sym (no_row _ _ w.if-p-lt13.false)
    ]
