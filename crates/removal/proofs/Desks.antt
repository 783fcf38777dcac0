-- The list of desks closed up in place: what is read stands behind what is written, so it is as it was. Assumes nothing.
use mathlib.Core.Path.{◌≡◌, refl, sym, ap, ◌∙◌}
use mathlib.Core.Bool.{Bool, true, false, cond}
use mathlib.Core.List.{List, [], ◌∷◌, map}
use Prim.Native.Nat.{ℕ, zero, suc, ◌+◌, ◌-◌, ◌≤◌, ◌<◌}
use native.Mathlib.Nat.{add-zero, zero-add}
use native.Mathlib.Numerals.{add-one}
use native.Mathlib.Omega.{arith}
use lib.Dec.{eqb}
use lib.ListN.{length, get_or, take, drop, set, length-set, length-map}
use lib.Seq.{get_or-set_other, get_or-drop, drop-drop, take_all, length-take-le}
use Rattle.words.specs.Words.{word}
use Rattle.words.specs.Lists.{any}
use Rattle.words.specs.Write.{puts}
use Rattle.words.proofs.Write.{puts_more, puts_eq}
use Rattle.words.specs.Runs.{run}
use Rattle.removal.specs.Removed.{kept, in_front}
use Rattle.closing.specs.Left.{numbers_from}
use Rattle.removal.specs.Left.{Climbs, left_from}
use Rattle.removal.proofs.Kept.{kept_map}

-- ---- the loop

-- a word behind those that were put
behind : (l : List ℕ) (at : ℕ) (ws : List ℕ) (k : ℕ) → at + length ws ≤ k → word (puts l at ws) k ≡ word l k
behind l at [] k h = refl
behind l at (w ∷ ws) k h = behind (set l at w) (at + 1) ws k (omega arith) ∙ get_or-set_other l at k w 0 (λ e. omega arith)

map_at : (f : ℕ → ℕ) (xs : List ℕ) (i : ℕ) → i < length xs → get_or (map f xs) i 0 ≡ f (get_or xs i 0)
map_at f [] i l = absurd (omega arith)
map_at f (x ∷ xs) zero l = refl
map_at f (x ∷ xs) (suc i) l = map_at f xs i (omega arith)

module _ (d left : List ℕ) where
  -- the words of the desks of the rules of these numbers
  abbrev new : List ℕ
  new = map (word d) left

  -- the first i are put
  pub record Closed (now : List ℕ) (i : ℕ) : Type 0 where
    pub same : now ≡ puts d 0 (take i new)
    pub long : length now ≡ length d

  pub close_none : Closed d 0
  close_none = record { same = refl; long = refl }

  module _ {now : List ℕ} {i : ℕ} (c : Closed now i) (l : i < length left) where
    -- what is read is as it was
    pub still : (x : ℕ) → i ≤ x → word now x ≡ word d x
    still x h =
        let size : length (take i new) ≡ i = length-take-le i new (rw (length-map left (word d)) (omega arith)) in
        ap (λ (m : List ℕ). word m x) c.same ∙ behind d 0 (take i new) x (omega arith)

    pub close_more : (x w : ℕ) → x ≡ get_or left i 0 → i ≤ get_or left i 0 → w ≡ word now x → Closed (set now i w) (i + 1)
    close_more x w hx h hw =
        let e : w ≡ word new i = hw ∙ still x (omega arith) ∙ ap (word d) hx ∙ sym (map_at (word d) left i l) in
        let more = puts_more d 0 i new (rw (length-map left (word d)) l) in
        record { same = rw (c.same, e) (rw zero-add at more); long = length-set now i w ∙ c.long }

  pub close_all : {now : List ℕ} {i : ℕ} → Closed now i → length left ≤ i → length left ≤ length d → now ≡ in_front new d
  unfolding in_front
  close_all {now} {i} c l fits =
      let size = length-map left (word d) in
      let all : take i new ≡ new = take_all i new (omega arith) in
      c.same ∙ ap (puts d 0) all ∙ puts_eq d 0 new (omega arith) ∙ rw zero-add

-- ---- the numbers of the kept rules

-- numbers from j + 1 on that are so, with j before them or not
between : (j n : ℕ) (rest : List ℕ) → ((i : ℕ) → i < length rest → (suc j + i ≤ get_or rest i 0) × (get_or rest i 0 < suc j + n))
    → (t : Bool) (i : ℕ) → i < length (cond t rest (j ∷ rest))
    → (j + i ≤ get_or (cond t rest (j ∷ rest)) i 0) × (get_or (cond t rest (j ∷ rest)) i 0 < j + suc n)
between j n rest h true i l = let q = h i l in (omega arith, omega arith)
between j n rest h false zero l = (omega arith, omega arith)
between j n rest h false (suc i) l = let q = h i (omega arith) in (omega arith, omega arith)

-- each is below the end, and none below its index
kept_between : (numbers : List ℕ) (n j i : ℕ) → i < length (kept numbers j (numbers_from n j))
    → (j + i ≤ get_or (kept numbers j (numbers_from n j)) i 0) × (get_or (kept numbers j (numbers_from n j)) i 0 < j + n)
unfolding kept numbers_from run
kept_between numbers zero j i l = absurd (omega arith)
kept_between numbers (suc n) j i l =
    between j n (kept numbers (suc j) (run (λ k. k) 1 n (j + 1))) (rw (add-one j) (kept_between numbers n (suc j))) (any (eqb j) numbers) i l

module _ (list : List ℕ) (n : ℕ) where
  between_left : (i : ℕ) → i < length (left_from list n 0) → (0 + i ≤ get_or (left_from list n 0) i 0) × (get_or (left_from list n 0) i 0 < 0 + n)
  unfolding left_from
  between_left = let all : n - 0 ≡ n = omega arith in rw all (kept_between list n 0)

  pub left_climbs : Climbs (left_from list n 0)
  left_climbs i l = omega (arith, (between_left i l).0)

  pub left_below : (i : ℕ) → i < length (left_from list n 0) → get_or (left_from list n 0) i 0 < n
  left_below i l = omega (arith, (between_left i l).1)

-- what is kept of words, by their numbers
words-by : (xs ys : List ℕ) (k : ℕ) → drop k ys ≡ xs → map (word ys) (numbers_from (length xs) k) ≡ xs
unfolding numbers_from run
words-by [] ys k h = refl
words-by (x ∷ xs) ys k h =
    let first : word ys k ≡ x = ap (word ys) (sym (add-zero k)) ∙ sym (get_or-drop k ys 0 0) ∙ ap (λ (l : List ℕ). get_or l 0 0) h in
    rw (first, words-by xs ys (k + 1) (sym (drop-drop 1 k ys) ∙ ap (drop 1) h))

pub desks_are : (list d : List ℕ) (n : ℕ) → length d ≡ n → map (word d) (left_from list n 0) ≡ kept list 0 d
unfolding left_from
desks_are list d n e =
    let all : n - 0 ≡ length d = omega arith in
    rw all (kept_map list (word d) 0 (numbers_from (length d) 0) ∙ ap (kept list 0) (words-by d d 0 refl))
