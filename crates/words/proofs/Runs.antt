-- The laws of what specs/Runs defines. Assumes nothing.
use mathlib.Core.Path.{◌≡◌, refl, sym, ap, ◌∙◌}
use Prim.Native.Nat.{ℕ, zero, suc, ◌+◌, ◌*◌, ◌<◌}
use native.Mathlib.Nat.{add-zero, mul-zero, mul-suc, mul-add, add_comm, zero-mul, suc-mul}
use native.Mathlib.Omega.{arith}
use mathlib.Core.List.{List, [], ◌∷◌, ◌++◌, flat_map, append_assoc, append-nil, head-eq_of_cons-eq, tail-eq_of_cons-eq}
use lib.ListN.{length, get_or, drop, length-append}
use lib.Seq.{drop-drop, drop_at}
use Rattle.words.specs.Runs.{run, Stands, rows, before}

-- ---- laws

-- a run of n has n records
pub length_run : {A : Type 0} (f : ℕ → A) (w n at : ℕ) → length (run f w n at) ≡ n
unfolding run
length_run f w zero at = refl
length_run f w (suc n) at = ap suc (length_run f w n (at + w))

-- record i is read at its place
pub run_at : {A : Type 0} (f : ℕ → A) (w n at i : ℕ) (d : A) → i < n → get_or (run f w n at) i d ≡ f (at + i * w)
unfolding run
run_at f w zero at i d h = absurd (omega arith)
run_at f w (suc n) at zero d h = ap f (simp (zero-mul, add-zero))
run_at f w (suc n) at (suc i) d h = run_at f w n (at + w) i d (omega arith) ∙ ap f (omega (arith, suc-mul i w))

-- two ways to read that agree
pub run-same : {A : Type 0} (f g : ℕ → A) (w n at : ℕ) → ((k : ℕ) → f k ≡ g k) → run f w n at ≡ run g w n at
unfolding run
run-same f g w zero at h = refl
run-same f g w (suc n) at h = rw (h at, run-same f g w n (at + w) h)

-- of two pieces that stand one behind the other, the first
pub stands-first : {b : List ℕ} {at : ℕ} (xs ys : List ℕ) → Stands b at (xs ++ ys) → Stands b at xs
stands-first xs ys s = record { rest = ys ++ s.rest; here = s.here ∙ append_assoc xs ys s.rest }

-- and the second, n words further
pub stands_second : {b : List ℕ} {at : ℕ} (n : ℕ) (xs ys : List ℕ) → length xs ≡ n → Stands b at (xs ++ ys) → Stands b (at + n) ys
stands_second {b} {at} n xs ys e s =
    record { rest = s.rest; here = sym (drop-drop n at b) ∙ ap (drop n) (s.here ∙ append_assoc xs ys s.rest) ∙ drop_at xs (ys ++ s.rest) n e }

-- a place written another way
pub stands-move : {b : List ℕ} {at k : ℕ} {ws : List ℕ} → at ≡ k → Stands b at ws → Stands b k ws
stands-move {b} e s = record { rest = s.rest; here = ap (λ (n : ℕ). drop n b) (sym e) ∙ s.here }

-- records written one behind another are read back, if one is
pub run_back : {A : Type 0} (b : List ℕ) (w : ℕ) (f : ℕ → A) (words : A → List ℕ) → ((a : A) → length (words a) ≡ w)
    → ((a : A) (k : ℕ) → Stands b k (words a) → f k ≡ a)
    → (xs : List A) (at : ℕ) → Stands b at (flat_map words xs) → run f w (length xs) at ≡ xs
unfolding run flat_map
run_back b w f words size one [] at s = refl
run_back b w f words size one (x ∷ xs) at s =
    rw (one x at (stands-first (words x) _ s), run_back b w f words size one xs (at + w) (stands_second w (words x) _ (size x) s))

-- a run that reads two lists reads each
pub run-split : {A : Type 0} (f : ℕ → A) (w : ℕ) (xs ys : List A) (at : ℕ) → run f w (length (xs ++ ys)) at ≡ xs ++ ys
    → (run f w (length xs) at ≡ xs) × (run f w (length ys) (at + w * length xs) ≡ ys)
unfolding run
run-split f w [] ys at h = (refl, rw (mul-zero, add-zero) h)
run-split f w (x ∷ xs) ys at h =
    let q = run-split f w xs ys (at + w) (tail-eq_of_cons-eq h) in
    (rw (head-eq_of_cons-eq h, q.0), ap (λ (k : ℕ). run f w (length ys) k) (omega (arith, mul-suc w (length xs))) ∙ q.1)

-- the same where the records are numbered from the place `off`: xs begins at number m
pub run_pieces : {A : Type 0} (f : ℕ → A) (w off m : ℕ) (xs ys : List A) → run f w (length (xs ++ ys)) (off + w * m) ≡ xs ++ ys
    → (run f w (length xs) (off + w * m) ≡ xs) × (run f w (length ys) (off + w * (m + length xs)) ≡ ys)
run_pieces f w off m xs ys h =
    let q = run-split f w xs ys (off + w * m) h in
    (q.0, ap (λ (k : ℕ). run f w (length ys) k) (omega (arith, mul-add w m (length xs))) ∙ q.1)

-- records of w words each take w words each
pub length_flat : {A : Type 0} (w : ℕ) (words : A → List ℕ) → ((a : A) → length (words a) ≡ w) → (xs : List A) → length (flat_map words xs) ≡ length xs * w
unfolding flat_map
length_flat w words size [] = rw zero-mul
length_flat w words size (x ∷ xs) = length-append (words x) (flat_map words xs) ∙ rw (size x, length_flat w words size xs, suc-mul) (add_comm w _)

-- all the words stand at the start
pub stands-whole : (b : List ℕ) → Stands b 0 b
stands-whole b = record { rest = []; here = sym (append-nil b) }

-- ---- rows that depend on what went before: each begins where the one before ends

module _ {A S : Type 0} (row : S → A → List ℕ) (step : S → A → S) where
  -- row i stands i rows of w words further
  pub rows_at : (b : List ℕ) (w : ℕ) → ((s : S) (x : A) → length (row s x) ≡ w) → (d : A) (s : S) (xs : List A) (at i : ℕ)
      → Stands b at (rows row step s xs) → i < length xs → Stands b (at + i * w) (row (before row step s xs i) (get_or xs i d))
  unfolding rows before
  rows_at b w size d s [] at i h l = absurd (omega arith)
  rows_at b w size d s (x ∷ xs) at zero h l = stands-move (omega (arith, zero-mul w)) (stands-first (row s x) _ h)
  rows_at b w size d s (x ∷ xs) at (suc i) h l =
      stands-move (omega (arith, suc-mul i w)) (rows_at b w size d (step s x) xs (at + w) i (stands_second w (row s x) _ (size s x) h) (omega arith))

  -- a row's step leads to the next row's state
  pub before-next : (d : A) (s : S) (xs : List A) (i : ℕ) → i < length xs → before row step s xs (suc i) ≡ step (before row step s xs i) (get_or xs i d)
  unfolding before
  before-next d s [] i l = absurd (omega arith)
  before-next d s (x ∷ xs) zero l = refl
  before-next d s (x ∷ xs) (suc i) l = before-next d (step s x) xs i (omega arith)

  -- rows of w words each take w words each
  pub length-rows : (w : ℕ) → ((s : S) (x : A) → length (row s x) ≡ w) → (s : S) (xs : List A) → length (rows row step s xs) ≡ length xs * w
  unfolding rows
  length-rows w size s [] = rw zero-mul
  length-rows w size s (x ∷ xs) = length-append (row s x) (rows row step (step s x) xs) ∙ rw (size s x, length-rows w size (step s x) xs, suc-mul) (add_comm w _)
