-- What the code of `plan` computes on the way to a line's fault: the line's constants, a token's value and its tests. Assumes nothing.
use Rattle.std.specs.Prelude.{◌≡◌, Bool, Option, Some, None, ◌&&◌, not, cond, List, ℕ, ◌+◌, ◌*◌, ◌^◌, ◌≤◌, ◌<◌, leb, length}
use Rattle.answers.specs.declared.Numbers.{Numbers}
use Rattle.answers.specs.Numbers.{no_fault}
use Rattle.words.specs.Words.{word, in_set}
use Rattle.layout.specs.Layout.{count, offset, field, values_of}
use Rattle.lines.specs.Lines.{line_count, token_width, line_place}
use Rattle.plan.specs.declared.Line.{Line}
use Rattle.plan.specs.declared.Value.{Value}
use Rattle.plan.specs.Fault.{line_wrong, line_fault}

-- the first `inside` of a variable's values, 3 words each from a place on, are wholly in the book
pub record Inside (b : List ℕ) (base values inside : ℕ) : Type 0 where
  pub few : inside ≤ values
  pub whole : (x : ℕ) → x < inside → base + x * 3 + 2 < length b

-- the constants of line v, as the words have them
pub record Constants (b p : List ℕ) (v : ℕ) (r : Line) : Type 0 where
  pub place : r.place ≡ line_place p v
  pub tokens : r.tokens ≡ line_count p v
  pub values : r.values ≡ values_of 1 b v
  pub base : r.base ≡ offset b 1 + field 1 b 0 v 0 * 3
  pub low : r.base < 2 ^ 36
  pub inside : Inside b r.base r.values r.inside

-- the tokens of every line stand inside the plan
abbrev pub Within : List ℕ → List ℕ → Type 0
Within b p = (v : ℕ) → v < count b 0 → line_place p v + token_width p * line_count p v ≤ length p

-- the value at a place of the book
abbrev pub value_there : List ℕ → ℕ → Value
value_there b at = record { least = word b at; greatest = word b (at + 1); next = word b (at + 2) }

-- value x, at a place of the book, of a variable with `values` values; none where that lacks it
abbrev pub value_at : List ℕ → ℕ → ℕ → ℕ → Option Value
value_at b values at x = cond (leb values x) None (Some (value_there b at))

unfoldable pub breaks_of : Bool → ℕ → ℕ → Bool
breaks_of first set x = not first && not (in_set set x)

-- "each token is tested 8, 9, 10, 11"
abbrev pub number_of : Bool → Bool → Bool → Bool → ℕ
number_of unknown outside breaks late = cond unknown 8 (cond outside 9 (cond breaks 10 (cond late 11 0)))

-- the answer of line v: the fault of its first faulty token, or none
unfoldable pub line_answer : List ℕ → List ℕ → ℕ → Numbers
line_answer b p v = cond (line_wrong b p v) (line_fault b p v) no_fault
