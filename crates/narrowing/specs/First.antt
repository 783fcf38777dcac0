-- The first table of n tokens, and its cutting by constraints. The set of tokens i and j stands at place i * n + j: "by left token, then
-- right". Assumes nothing.
use Rattle.std.specs.Prelude.{cond, List, [], ◌∷◌, ℕ, zero, suc, ◌+◌, ◌-◌, ◌*◌, ◌/◌, ◌%◌, eqb, get_or, set}
use Rattle.std.specs.Int.Bits.{bit_and}
use Rattle.book.specs.Rules.{Constraint}
use Rattle.composition.specs.Table.{converse_set}

-- "A pair starts with all thirteen, a token and itself with "equals" alone": the word at place t
unfoldable pub first_word : ℕ → ℕ → ℕ
first_word n t = cond (eqb (t / n) (t % n)) 64 8191

-- the table m with its first k words so
unfoldable pub filled : ℕ → ℕ → List ℕ → List ℕ
filled n zero m = m
filled n (suc k) m = set (filled n k m) k (first_word n k)

-- the word at place a, cut by the set d
unfoldable pub cut_by : List ℕ → ℕ → ℕ → List ℕ
cut_by m a d = set m a (bit_and (get_or m a 0) d)

-- "each constraint cuts its pair and, by its converse, the reversed one"; the tokens l and r are counted from 0
unfoldable pub constrained : ℕ → ℕ → ℕ → ℕ → List ℕ → List ℕ
constrained n l r d m = cut_by (cut_by m (l * n + r) d) (r * n + l) (converse_set d)

-- all constraints in turn; f is the number that they give the first token: 0 the trigger, or 1 without one
unfoldable pub constrained_all : ℕ → ℕ → List Constraint → List ℕ → List ℕ
constrained_all n f [] m = m
constrained_all n f (q ∷ qs) m = constrained_all n f qs (constrained n (q.left - f) (q.right - f) q.set m)
