-- What the theorems of proofs/TranslatedRules are said in. Assumes nothing.
use Rattle.std.specs.Prelude.{Bool, ℕ}
use Rattle.book.specs.Rules.{Atom}
use Rattle.book.specs.Sound.{BoundsSound, TermSound, JobSound}

-- "left kind, left argument, right kind, right argument, lower, upper"
pub record AtomFine (n : ℕ) (trigger : Bool) (a : Atom) : Type 0 where
  pub left : TermSound n trigger a.left_kind a.left
  pub right : TermSound n trigger a.right_kind a.right
  pub bounds : BoundsSound 0 a.lower a.upper
  pub jobs : JobSound a.left_kind a.right_kind a.lower a.upper
