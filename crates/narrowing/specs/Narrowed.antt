-- Narrowing: a table with a set of relations for every two of n tokens is cut by composition "until nothing changes". What it means is
-- `Narrowed`, the greatest table below the first one that composition cuts no further; `narrowed` computes it. Assumes nothing.
use Rattle.std.specs.Prelude.{◌≡◌, Bool, true, cond, List, [], ◌∷◌, ℕ, zero, suc, ◌+◌, ◌*◌, ◌/◌, ◌%◌, ◌≤◌, ◌<◌, eqb, length, get_or, set}
use Rattle.std.specs.Int.Bits.{bit_and}
use Rattle.words.specs.Words.{in_set}
use Rattle.words.specs.Lists.{all}
use Rattle.composition.specs.Sets.{down}
use Rattle.composition.specs.Table.{compose_sets}

-- ---- what it means

-- what is in a is in b
abbrev pub Sub : ℕ → ℕ → Type 0
Sub a b = (r : ℕ) → in_set a r ≡ true → in_set b r ≡ true

-- composition cuts nothing of x: what is left for i and j is left by way of every k
abbrev pub Closed : ℕ → (ℕ → ℕ) → Type 0
Closed n x = (i k j : ℕ) → i < n → k < n → j < n → Sub (x (i * n + j)) (compose_sets (x (i * n + k)) (x (k * n + j)))

-- `after` comes of `start` by cutting: no set grows, "words past it stay", and each table below `start` that composition cuts nothing of
-- stays below it
pub record Cut (n : ℕ) (start after : List ℕ) : Type 0 where
  pub size : length after ≡ length start
  pub rest : (p : ℕ) → n * n ≤ p → get_or after p 0 ≡ get_or start p 0
  pub within : (p : ℕ) → Sub (get_or after p 0) (get_or start p 0)
  pub keeps : (x : ℕ → ℕ) → Closed n x → ((p : ℕ) → p < n * n → Sub (x p) (get_or start p 0)) → (p : ℕ) → p < n * n → Sub (x p) (get_or after p 0)

-- "until nothing changes": so it is the greatest of those tables
pub record Narrowed (n : ℕ) (start after : List ℕ) : Type 0 where
  pub cut : Cut n start after
  pub closed : Closed n (λ p. get_or after p 0)

-- ---- how it is computed

-- the word at place a, cut by the composition of those at b and c
unfoldable pub cut_word : List ℕ → ℕ → ℕ → ℕ → ℕ
cut_word m a b c = bit_and (get_or m a 0) (compose_sets (get_or m b 0) (get_or m c 0))

-- step t of a pass over n tokens has the first token t / n % n, the second t / n / n, the third t % n; the places of first and third, first
-- and second, second and third
abbrev pub across : ℕ → ℕ → ℕ
across n t = t / n % n * n + t % n

abbrev pub before : ℕ → ℕ → ℕ
before n t = t / n % n * n + t / n / n

abbrev pub behind : ℕ → ℕ → ℕ
behind n t = t / n / n * n + t % n

unfoldable pub step_word : ℕ → ℕ → List ℕ → ℕ
step_word n t m = cut_word m (across n t) (before n t) (behind n t)

-- the table after step t
abbrev pub step : ℕ → ℕ → List ℕ → List ℕ
step n t m = set m (across n t) (step_word n t m)

-- the table after the first k steps
unfoldable pub through : ℕ → ℕ → List ℕ → List ℕ
through n zero m = m
through n (suc t) m = step n t (through n t m)

-- no step changes anything
unfoldable pub still : ℕ → List ℕ → Bool
still n m = all (λ t. eqb (step_word n t m) (get_or m (across n t) 0)) (down (n * n * n))

-- passes until then, at most k
unfoldable pub passes : ℕ → ℕ → List ℕ → List ℕ
passes n zero m = m
passes n (suc k) m = cond (still n m) m (passes n k (through n (n * n * n) m))

-- the sum of the words, which falls with each pass that changes anything: so many passes are enough
unfoldable pub sum : List ℕ → ℕ
sum [] = 0
sum (x ∷ xs) = x + sum xs

unfoldable pub narrowed : ℕ → List ℕ → List ℕ
narrowed n m = passes n (sum m + 1) m
