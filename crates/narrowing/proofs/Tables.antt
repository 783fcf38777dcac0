-- The first table word by word, and its constraints one by one: the table keeps its length, and what is left to do of a run of constraints
-- is the rest of the run. Assumes nothing.
use mathlib.Core.Path.{◌≡◌, refl, sym, ◌∙◌, subst}
use mathlib.Core.List.{List, [], ◌∷◌}
use Prim.Native.Nat.{ℕ, zero, suc, ◌+◌, ◌-◌, ◌*◌, ◌≤◌, ◌<◌}
use native.Mathlib.Nat.{zero-mul, suc-mul}
use native.Mathlib.Numerals.{add-one}
use native.Mathlib.Omega.{arith}
use lib.Bits.{bit_and}
use lib.ListN.{length, get_or, set, length-set}
use lib.Seq.{get_or-set_other}
use Rattle.words.specs.Words.{word}
use Rattle.words.specs.Lists.{All}
use Rattle.words.specs.Runs.{run}
use Rattle.book.specs.Rules.{Constraint, constraint_at}
use Rattle.composition.specs.Table.{converse_set}
use Rattle.narrowing.specs.declared.Sets.{Sets}
use Rattle.narrowing.specs.First.{first_word, filled, cut_by, constrained, constrained_all}
use Rattle.narrowing.specs.Lent.{Kept}
use Rattle.narrowing.specs.Passes.{Seated}
use Rattle.narrowing.proofs.Places.{below}

-- ---- what is kept while the sets are cut

pub kept_then : {a b c : Sets} → Kept a b → Kept b c → Kept a c
kept_then f g = record { tokens = g.tokens ∙ f.tokens; table = g.table ∙ f.table }

-- ---- the first table

pub filled_more : (n k : ℕ) (m after : List ℕ) (w : ℕ) → after ≡ filled n k m → w ≡ first_word n k → set after k w ≡ filled n (k + 1) m
unfolding filled
filled_more n k m after w h e = rw (add-one k, h, e)

pub length-filled : (n k : ℕ) (m : List ℕ) → length (filled n k m) ≡ length m
unfolding filled
length-filled n zero m = refl
length-filled n (suc k) m = length-set (filled n k m) k (first_word n k) ∙ length-filled n k m

-- ---- a constraint

length_cut : (m : List ℕ) (a d : ℕ) → length (cut_by m a d) ≡ length m
unfolding cut_by
length_cut m a d = length-set m a (bit_and (get_or m a 0) d)

pub two_cuts : (n l r d : ℕ) (m : List ℕ) {c : ℕ} {once twice : List ℕ} → c ≡ converse_set d → once ≡ cut_by m (l * n + r) d → twice ≡ cut_by once (r * n + l) c
    → twice ≡ constrained n l r d m
unfolding constrained
two_cuts n l r d m t h k = cc

pub length-constrained : (n l r d : ℕ) (m : List ℕ) → length (constrained n l r d m) ≡ length m
unfolding constrained
length-constrained n l r d m = length_cut (cut_by m (l * n + r) d) (r * n + l) (converse_set d) ∙ length_cut m (l * n + r) d

pub length-all : (n f : ℕ) (qs : List Constraint) (m : List ℕ) → length (constrained_all n f qs m) ≡ length m
unfolding constrained_all
length-all n f [] m = refl
length-all n f (q ∷ qs) m = length-all n f qs _ ∙ length-constrained n (q.left - f) (q.right - f) q.set m

-- ---- words past the table stay

pub filled_past : (n k : ℕ) (m : List ℕ) (p : ℕ) → k ≤ p → get_or (filled n k m) p 0 ≡ get_or m p 0
unfolding filled
filled_past n zero m p h = refl
filled_past n (suc k) m p h = get_or-set_other (filled n k m) k p (first_word n k) 0 (λ e. omega arith) ∙ filled_past n k m p (omega arith)

constrained_past : (n l r d : ℕ) (m : List ℕ) (p : ℕ) → l < n → r < n → n * n ≤ p → get_or (constrained n l r d m) p 0 ≡ get_or m p 0
unfolding constrained cut_by
constrained_past n l r d m p a b h =
    let over = below l n r n a b in
    let back = below r n l n b a in
    get_or-set_other (set m (l * n + r) (bit_and (get_or m (l * n + r) 0) d)) (r * n + l) p _ 0 (λ e. omega arith)
    ∙ get_or-set_other m (l * n + r) p _ 0 (λ e. omega arith)

-- both tokens of a constraint are among the n
abbrev pub Seats : ℕ → ℕ → Constraint → Type 0
Seats n f q = Seated n f q.left × Seated n f q.right

pub all_past : (n f : ℕ) (qs : List Constraint) (m : List ℕ) (p : ℕ) → All (Seats n f) qs → n * n ≤ p → get_or (constrained_all n f qs m) p 0 ≡ get_or m p 0
unfolding constrained_all
all_past n f [] m p h l = refl
all_past n f (q ∷ qs) m p h l =
    let a = h.0.0 in
    let b = h.0.1 in
    all_past n f qs (constrained n (q.left - f) (q.right - f) q.set m) p h.1 l
    ∙ constrained_past n (q.left - f) (q.right - f) q.set m p (omega arith) (omega arith) l

-- what holds of each record of a run
pub run-all : {A : Type 0} (P : A → Type 0) (f : ℕ → A) (w n at : ℕ) → ((i : ℕ) → i < n → P (f (at + i * w))) → All P (run f w n at)
unfolding run
run-all P f w zero at h = tt
run-all P f w (suc n) at h =
    let here : at + 0 * w ≡ at = omega (arith, zero-mul w) in
    let next : (i : ℕ) → at + suc i * w ≡ at + w + i * w = λ i. omega (arith, suc-mul i w) in
    (subst (λ (k : ℕ). P (f k)) here (h 0 (omega arith)), run-all P f w n (at + w) (λ i l. subst (λ (k : ℕ). P (f k)) (next i) (h (suc i) (omega arith))))

-- ---- a run of constraints: after i of them the whole's answer is the rest's

abbrev pub Rest : List ℕ → ℕ → ℕ → ℕ → ℕ → List ℕ → ℕ → List ℕ → Type 0
Rest s n f count place start i now =
    constrained_all n f (run (constraint_at s) 3 count place) start ≡ constrained_all n f (run (constraint_at s) 3 (count - i) (place + i * 3)) now

module _ (s : List ℕ) (n f count place : ℕ) (start : List ℕ) where
  pub rest_more : (i : ℕ) (m after : List ℕ) → i < count → Rest s n f count place start i m
      → after ≡ constrained n (word s (place + i * 3) - f) (word s (place + i * 3 + 1) - f) (word s (place + i * 3 + 2)) m
      → Rest s n f count place start (i + 1) after
  unfolding run constrained_all constraint_at
  rest_more i m after l r e =
      let left : count - i ≡ suc (count - (i + 1)) = omega arith in
      let next : place + (i + 1) * 3 ≡ place + i * 3 + 3 = omega arith in
      rw (next, e) (rw left at r)

  pub rest-done : (i : ℕ) (m : List ℕ) → count ≤ i → Rest s n f count place start i m
      → m ≡ constrained_all n f (run (constraint_at s) 3 count place) start
  unfolding run constrained_all
  rest-done i m k r =
      let none : count - i ≡ 0 = omega arith in
      sym (rw none at r)
