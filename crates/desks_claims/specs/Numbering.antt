-- What the theorems of proofs/Numbering are said in. Assumes nothing.
use Rattle.std.specs.Prelude.{List, map}
use Rattle.book.specs.Rules.{Rule}
use Rattle.desks.specs.Own.{Numbered}

-- the rules without their numbers
abbrev pub rules_alone : {C : Type 0} → List (Numbered C) → List (Rule C)
rules_alone xs = map (λ (x : Numbered _). x.rule) xs
