-- What the theorems of proofs/Expansion are said in. Assumes nothing.
use Rattle.std.specs.Prelude.{◌≡◌, false, ℕ, ◌<◌, length}
use Rattle.words.specs.Lists.{All}
use Rattle.book.specs.Rules.{Name, Alternative, Rule}
use Rattle.lines.specs.declared.Token.{Token}
use Rattle.choice.specs.Met.{Choice, choice_size, token_time}
use Rattle.verdict.specs.Judged.{untriggered}

-- "durations are positive": a token has a length
abbrev pub Proper : Token → Type 0
Proper t = t.start.tick < t.end.tick

-- and so has every token of a choice, nobody's included
pub record ProperChoice (c : Choice) : Type 0 where
  pub size : length c ≡ choice_size
  pub forward : (k : ℕ) → token_time c 0 k < token_time c 1 k

-- the variables of a name and of a rule's trigger are among the first m
abbrev pub NameBelow : ℕ → Name → Type 0
NameBelow m n = n.variable < m

pub record RuleBelow {C : Type 0} (m : ℕ) (r : Rule C) : Type 0 where
  pub trigger : untriggered r ≡ false → r.variable < m
  pub names : All (λ (a : Alternative C). All (NameBelow m) a.names) r.alternatives
