-- The invariant of `words::decode`: out is the first i words, and then as it was. Assumes nothing.
use mathlib.Core.Path.{◌≡◌}
use mathlib.Core.List.{◌++◌}
use lib.ListN.{drop}
use Rattle.words.specs.Bytes.{words_to}
use Rattle.words.proofs.decode.Given as goal

abbrev pub invariant-loop-i : goal.invariant-loop-i
invariant-loop-i l = l.out ≡ words_to l.s l.i ++ drop l.i l.initial.out
