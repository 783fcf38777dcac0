-- What the theorems of proofs/Taken are said in. Assumes nothing.
use Rattle.std.specs.Prelude.{List, ℕ, ◌≤◌, length}
use Rattle.words.specs.Lists.{All}
use Rattle.book.specs.Rules.{Atom, Rule}
use Rattle.book.specs.Encode.{alts_of, names_of, asks_of}
use Rattle.translator.specs.Translation.{rules_for, translated}

-- the limits of the tables 3, 4, 5 and of the total (14)
pub record Sizes (s : List ℕ) : Type 0 where
  pub alternatives : length (alts_of (rules_for s)) ≤ 1024
  pub names : length (names_of (alts_of (rules_for s))) ≤ 2048
  pub atoms : length (asks_of (alts_of (rules_for s))) ≤ 2048
  pub words : length (translated s) ≤ 16384

-- all stated limits: no rule "would have over 64 alternatives" (13), and 14
pub record Within (s : List ℕ) : Type 0 where
  pub rules : All (λ (r : Rule Atom). length r.alternatives ≤ 64) (rules_for s)
  pub sizes : Sizes s
