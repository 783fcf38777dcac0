-- What a reader's steps hand out. Assumes nothing.
use Rattle.std.specs.Prelude.{List, [], ◌∷◌, ℕ, zero, suc}
use Rattle.lines.specs.declared.Token.{Token}
use Rattle.lines.specs.declared.Position.{Position}
use Rattle.lines.specs.declared.Step.{Step}
use Rattle.lines.specs.declared.Step.TheVariants.{Handed, NoMore}
use Rattle.lines.specs.Walk.{step_of}

-- the token that a step hands out, and what comes from the next position; nothing at "no more"
abbrev pub hands_out : Step → (Position → List Token) → List Token
hands_out (Handed t next) rest = t ∷ rest next
hands_out (NoMore back) rest = []

-- the tokens that n steps from a position hand out, up to "no more"
unfoldable pub handed : List ℕ → ℕ → Position → List Token
handed p zero q = []
handed p (suc n) q = hands_out (step_of p q) (handed p n)
