-- What the theorems of proofs/Opening are said in. Assumes nothing.
use Rattle.std.specs.Prelude.{cond, List, ℕ, ltb, eqb}
use Rattle.answers.specs.declared.Numbers.{Numbers}
use Rattle.answers.specs.Numbers.{numbers, no_fault, or_else}
use Rattle.clock.specs.Clock.{no_limit}
use Rattle.layout.specs.Layout.{count}
use Rattle.book.specs.Fault.{book_fault}
use Rattle.lines.specs.declared.Position.{Position}
use Rattle.plan.specs.Fault.{plan_fault}
use Rattle.lines.specs.Walk.{position}

-- "17 if the timeline number is not below the number of variables"
unfoldable pub line_fault : List ℕ → ℕ → Numbers
line_fault b line = cond (ltb line (count b 0)) no_fault (numbers 17 0 0)

-- "Opening it answers 1 to 11 as above, then 17"; 18 comes before 17
unfoldable pub open_fault : List ℕ → List ℕ → ℕ → Numbers
open_fault b p line = or_else (book_fault 1 b) (or_else (plan_fault b p) (line_fault b line))

-- "Opened, it answers 0 0 0 and stands at token 0, start 0; refused, at token N, start 0, which names none"
unfoldable pub open_at : List ℕ → List ℕ → ℕ → Position
open_at b p line = cond (eqb (open_fault b p line).number 0) (position line 0 0) (position line no_limit 0)
