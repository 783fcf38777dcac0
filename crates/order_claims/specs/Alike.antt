-- What the theorems of proofs/Alike are said in. Assumes nothing.
use Rattle.std.specs.Prelude.{◌≡◌, Bool, true, false, not, ℕ, ◌≤◌, ◌<◌, length}
use Rattle.words.specs.Lists.{All}
use Rattle.book.specs.Rules.{Atom, Alternative, Rule}
use Rattle.verdict.specs.Judged.{untriggered}
use Rattle.claims.specs.Expansion.{NameBelow}
use Rattle.claims.specs.TranslatedRules.{AtomFine}
use Rattle.order.specs.Profile.{order_atom}

-- ---- what is asked of the rules: the names' variables are among the first m, the arguments are tokens, and each atom is the profile's

pub record AtomOrder (n : ℕ) (trigger : Bool) (a : Atom) : Type 0 where
  pub fine : AtomFine n trigger a
  pub order : order_atom a ≡ true

pub record AlternativeOrder (m : ℕ) (trigger : Bool) (a : Alternative Atom) : Type 0 where
  pub few : length a.names ≤ 4
  pub names : All (NameBelow m) a.names
  pub asks : All (AtomOrder (length a.names) trigger) a.asks

pub record RuleOrder (m : ℕ) (r : Rule Atom) : Type 0 where
  pub trigger : untriggered r ≡ false → r.variable < m
  pub alternatives : All (AlternativeOrder m (not (untriggered r))) r.alternatives
