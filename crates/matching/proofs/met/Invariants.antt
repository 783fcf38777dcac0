-- `matching::met` meets its contract. The outer loop's invariant: whether one of the alternatives is met is whether one of those left is. The
-- inner loop's: whether this alternative is met is whether one of the tokens left for its first name does. Assumes nothing.
use mathlib.Core.Path.{◌≡◌}
use mathlib.Core.Bool.{false}
use Prim.Native.Nat.{◌+◌, ◌-◌, ◌*◌}
use Rattle.choice.specs.Asked.{met_at}
use Rattle.matching.specs.Search.{token_for, Along}
use Rattle.matching.specs.Carried.{Carried}
use Rattle.matching.proofs.Placing.{left_at}
use Rattle.matching.proofs.Carrying.{met_here}
use Rattle.matching.proofs.met.Given as goal

abbrev pub invariant-loop : goal.invariant-loop
invariant-loop l =
    record {
      going : l.found ≡ false;
      along : Along l.b l.p l.a 0 (left_at l.w l.counter l.place l.start);
      left : met_here l.e l.b l.p l.t (l.at + 4 * l.i) ≡ token_for l.b l.p l.a (l.a.names - 1) 0 l.c (left_at l.w l.counter l.place l.start);
    }

abbrev pub invariant-settled : goal.invariant-settled
invariant-settled l =
    record {
      going : l.found ≡ false;
      left : met_at l.e l.b l.p l.t l.n l.at ≡ met_at l.e l.b l.p l.t (l.n - l.i) (l.at + 4 * l.i);
      kept : Carried l.e l.b l.p l.t l.n l.at l.kept;
    }
