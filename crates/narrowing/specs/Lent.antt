-- What stays of the sets of a lent table while they are cut. Assumes nothing.
use Rattle.std.specs.Prelude.{◌≡◌}
use Rattle.narrowing.specs.declared.Sets.{Sets}

-- t has the tokens of s, and the same lent table
pub record Kept (s t : Sets) : Type 0 where
  pub tokens : t.tokens ≡ s.tokens
  pub table : t.table.ghost_name ≡ s.table.ghost_name
