-- What the theorems of proofs/SheetsMet are said in. Assumes nothing.
use Rattle.std.specs.Prelude.{◌<◌}
use Rattle.lines.specs.declared.Token.{Token}

-- ---- a constraint

-- the token has a length
abbrev pub Proper : Token → Type 0
Proper t = t.start.tick < t.end.tick
