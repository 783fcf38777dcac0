-- What the theorems of proofs/Ranked are said in. Assumes nothing.
use Rattle.std.specs.Prelude.{List}
use Rattle.lines.specs.declared.Token.{Token}
use Rattle.lines.specs.Lines.{token}
use Rattle.sweep.specs.Ranks.{rank}

-- a token with its start and end replaced by their ranks
abbrev pub by_rank : List (List Token) → Token → Token
by_rank lines t = token t.value (rank lines t.start.tick) (rank lines t.end.tick) t.job
