-- The decoded book: variables with their values, rules with their trigger and alternatives, alternatives with their names and what they
-- ask. C is what an alternative asks: an atom in a book, a constraint in a sheet. Assumes nothing.
use Rattle.std.specs.Prelude.{ℕ, ◌+◌, ◌*◌, List}
use Rattle.words.specs.Words.{word}
use Rattle.words.specs.Runs.{run}
use Rattle.layout.specs.Layout.{count, offset}

-- "least duration, greatest, successor set"
pub record Value : Type 0 where
  pub least : ℕ
  pub greatest : ℕ
  pub successors : ℕ

pub record Variable : Type 0 where
  pub values : List Value

-- "variable, value"
pub record Name : Type 0 where
  pub variable : ℕ
  pub value : ℕ

-- "left kind, left argument, right kind, right argument, lower, upper"
pub record Atom : Type 0 where
  pub left_kind : ℕ
  pub left : ℕ
  pub right_kind : ℕ
  pub right : ℕ
  pub lower : ℕ
  pub upper : ℕ

-- "left token, right token (0 the trigger, as above), and a set"
pub record Constraint : Type 0 where
  pub left : ℕ
  pub right : ℕ
  pub set : ℕ

pub record Alternative (C : Type 0) : Type 0 where
  pub names : List Name
  pub asks : List C

-- "trigger variable, trigger value", and the alternatives
pub record Rule (C : Type 0) : Type 0 where
  pub variable : ℕ
  pub value : ℕ
  pub alternatives : List (Alternative C)

-- how the records of table 5 are read and written: their width, the record at a place, its words
pub record Fifth (C : Type 0) : Type 0 where
  pub width : ℕ
  pub read : List ℕ → ℕ → C
  pub words : C → List ℕ

-- ---- the record at a place

unfoldable pub value_at : List ℕ → ℕ → Value
value_at b k = record { least = word b k; greatest = word b (k + 1); successors = word b (k + 2) }

unfoldable pub variable_at : List ℕ → ℕ → Variable
variable_at b k = record { values = run (value_at b) 3 (word b (k + 1)) (offset b 1 + 3 * word b k) }

unfoldable pub name_at : List ℕ → ℕ → Name
name_at b k = record { variable = word b k; value = word b (k + 1) }

unfoldable pub atom_at : List ℕ → ℕ → Atom
atom_at b k =
    record {
      left_kind = word b k;
      left = word b (k + 1);
      right_kind = word b (k + 2);
      right = word b (k + 3);
      lower = word b (k + 4);
      upper = word b (k + 5);
    }

unfoldable pub constraint_at : List ℕ → ℕ → Constraint
constraint_at b k = record { left = word b k; right = word b (k + 1); set = word b (k + 2) }

module _ {C : Type 0} (t5 : Fifth C) (b : List ℕ) where
  unfoldable pub alternative_at : ℕ → Alternative C
  alternative_at k =
      record {
        names = run (name_at b) 2 (word b (k + 1)) (offset b 4 + 2 * word b k);
        asks = run (t5.read b) t5.width (word b (k + 3)) (offset b 5 + t5.width * word b (k + 2));
      }

  unfoldable pub rule_at : ℕ → Rule C
  rule_at k =
      record {
        variable = word b k;
        value = word b (k + 1);
        alternatives = run alternative_at 4 (word b (k + 3)) (offset b 3 + 4 * word b (k + 2));
      }

  -- all rules of the book
  unfoldable pub rules_of : List (Rule C)
  rules_of = run rule_at 4 (count b 2) (offset b 2)

-- all variables of the book
unfoldable pub variables_of : List ℕ → List Variable
variables_of b = run (variable_at b) 2 (count b 0) (offset b 0)
