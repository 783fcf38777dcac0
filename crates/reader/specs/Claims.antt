-- What the theorems of proofs/Claims are said in. Assumes nothing.
use Rattle.std.specs.Prelude.{List, ℕ, zero, suc}
use Rattle.lines.specs.declared.Position.{Position}
use Rattle.lines.specs.declared.Step.{Step}
use Rattle.lines.specs.declared.Step.TheVariants.{Handed, NoMore}
use Rattle.lines.specs.Walk.{step_of}

-- "each step gives back the next position"
abbrev pub next_of : Step → Position
next_of (Handed t next) = next
next_of (NoMore back) = back

-- where a reader stands after n steps
unfoldable pub after : List ℕ → ℕ → Position → Position
after p zero q = q
after p (suc n) q = after p n (next_of (step_of p q))
