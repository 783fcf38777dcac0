-- What the theorems of proofs/Rules are said in. Assumes nothing.
use Rattle.std.specs.Prelude.{◌≡◌, ℕ, suc, ◌<◌, length}
use Rattle.words.specs.Lists.{All}
use Rattle.book.specs.Rules.{Name, Atom, Alternative, Rule}

-- the terms of an atom that are starts, ends and jobs are those of n names; jobs stand "on both sides of an atom or on neither"
pub record Named (n : ℕ) (q : Atom) : Type 0 where
  pub left : q.left_kind < 2 → q.left < n
  pub right : q.right_kind < 2 → q.right < n
  pub jobs : q.left_kind ≡ 4 → (q.left < n) × (q.right < n)

-- the variables of a rule are the book's, and its atoms name its trigger and its statement's names
pub record StatementNamed (variables : ℕ) (a : Alternative Atom) : Type 0 where
  pub names : All (λ (n : Name). n.variable < variables) a.names
  pub asks : All (Named (suc (length a.names))) a.asks

pub record RuleNamed (variables : ℕ) (r : Rule Atom) : Type 0 where
  pub trigger : r.variable < variables
  pub statements : All (StatementNamed variables) r.alternatives
