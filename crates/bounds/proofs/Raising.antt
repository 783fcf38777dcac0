-- A table whose bounds were raised through a time: it has the same solutions, and bounds past that time are as they were. Round after round
-- the reach of the bounds doubles. Assumes nothing.
use mathlib.Core.Path.{◌≡◌, refl, ◌∙◌, subst}
use mathlib.Core.Bool.{Bool, true, false}
use mathlib.Core.Logic.{◌⊎◌, inl, inr, ⊎_elim}
use mathlib.Core.List.{List}
use Prim.Native.Nat.{ℕ, suc, ◌+◌, ◌*◌, ◌-◌, ◌≤◌, ◌<◌}
use native.Mathlib.Nat.{two-pow-succ, pow-le-pow_right, eq-or-lt_of_le}
use native.Mathlib.Omega.{arith}
use borrow.Author.Count.{below_more}
use lib.Dec.{eqb}
use borrow.Author.Tests.{eqb-true, eqb-false}
use lib.ListN.{length, get_or, set, length-set}
use lib.Seq.{get_or-set_same, get_or-set_other}
use Rattle.bounds.specs.Bounds.{origin, entry, Holds, Near, reach, Within}
use Rattle.bounds.specs.Steps.{Join, Joined, Raised, Ready, RaisedOne, RaisedRow, RaisedRows}

-- ---- raised

pub raised_none : (k : ℕ) (w : List ℕ) → Raised k w w
raised_none k w = record { grown = λ p. omega arith; implied = λ x h. h; kept = λ i j l h. refl }

pub raised_then : {k : ℕ} {w v u : List ℕ} → Raised k w v → Raised k v u → Raised k w u
raised_then a b = record {
  grown = λ p. omega (arith, a.grown p, b.grown p);
  implied = λ x h. b.implied x (a.implied x h);
  kept = λ i j l h. b.kept i j l h ∙ a.kept i j l h;
}

pub raised_more : {k : ℕ} {w v : List ℕ} (m : ℕ) → k ≤ m → Raised k w v → Raised m w v
raised_more m g a = record {
  grown = a.grown;
  implied = a.implied;
  kept = λ i j l h. a.kept i j l (⊎_elim (λ q. inl (omega arith)) (λ q. inr (omega arith)) h);
}

-- raised below k or less, what was joined through k stays so
pub joined_kept : {m : ℕ} {w v : List ℕ} (k i j : ℕ) → m ≤ k → k < 12 → j < 12 → Raised m w v → Joined k i j w → Joined k i j v
joined_kept k i j g l f a h p q =
    let s = a.kept i k l (inr g) in
    let t = a.kept k j f (inl g) in
    omega (arith, h (omega arith) (omega arith), a.grown (i * 12 + j))

-- what a bound holds of, raised to what two bounds imply that hold too
join_holds : (e a b r x y z : ℕ) → Join e a b r → Holds e x z → Holds a x y → Holds b y z → Holds r x z
join_holds e a b r x y z j he ha hb l =
    ⊎_elim (λ q. omega (arith, he (omega arith))) (λ q. omega (arith, q.2, ha q.0, hb q.1)) j.from

module _ (w : List ℕ) (k i j r : ℕ) (size : length w ≡ 144) (hk : k < 12) (hi : i < k) (hj : j < k) (e : Join (entry w i j) (entry w i k) (entry w k j) r) where
  -- the table with that bound raised
  here : entry (set w (i * 12 + j) r) i j ≡ r
  here = get_or-set_same w (i * 12 + j) r 0 (omega arith)

  -- each place is that one or as it was
  place : (p : ℕ) → ((p ≡ i * 12 + j) × (get_or (set w (i * 12 + j) r) p 0 ≡ r)) ⊎ (get_or (set w (i * 12 + j) r) p 0 ≡ get_or w p 0)
  place p = go (eqb p (i * 12 + j)) refl
    where
      go : (t : Bool) → eqb p (i * 12 + j) ≡ t
          → ((p ≡ i * 12 + j) × (get_or (set w (i * 12 + j) r) p 0 ≡ r)) ⊎ (get_or (set w (i * 12 + j) r) p 0 ≡ get_or w p 0)
      go true q = let s = eqb-true p (i * 12 + j) q in inl (s, rw s here)
      go false q = inr (get_or-set_other w (i * 12 + j) p r 0 (eqb-false p (i * 12 + j) q))

  pub raised_set : Raised k w (set w (i * 12 + j) r)
  raised_set = record {
    grown = λ p. ⊎_elim (λ q. rw (q.1, q.0) e.grown) (λ q. omega (arith, q)) (place p);
    implied = λ x h m n a b.
        ⊎_elim
        (λ q.
        let s : m ≡ i = omega (arith, q.0) in
        let t : n ≡ j = omega (arith, q.0) in
        rw (q.1, s, t) (join_holds _ _ _ r (x i) (x k) (x j) e (h i j (omega arith) (omega arith)) (h i k (omega arith) hk) (h k j hk (omega arith))))
        (λ q. rw q (h m n a b))
        (place (m * 12 + n));
    kept = λ m n b c.
        ⊎_elim (λ q. absurd (⊎_elim (λ z. omega (arith, q.0)) (λ z. omega (arith, q.0)) c)) (λ q. q) (place (m * 12 + n));
  }

  pub joined_set : Joined k i j (set w (i * 12 + j) r)
  joined_set p q =
      let s = raised_set.kept i k hk (inr (omega arith)) in
      let t = raised_set.kept k j (omega arith) (inl (omega arith)) in
      omega (arith, here, e.over (omega arith) (omega arith))

-- ---- how large the numbers are

-- a raised bound is at most as far from 0 as the two together
pub join_near : {e a b r : ℕ} (d : ℕ) → d + d ≤ origin → Near (d + d) e → Near d a → Near d b → Join e a b r → Near (d + d) r
join_near {e} {a} {b} {r} d h ne na nb j = record {
  high = ⊎_elim (λ q. omega (arith, ne.high)) (λ q. omega (arith, q.2, na.high, nb.high)) j.from;
  low = λ l. ⊎_elim (λ q. omega (arith, ne.low (omega arith))) (λ q. omega (arith, q.2, na.low q.0, nb.low q.1)) j.from;
}

-- further is near too
pub near_more : {b e : ℕ} (d : ℕ) → b ≤ d → Near b e → Near d e
near_more d h n = record { high = omega (arith, n.high); low = λ l. omega (arith, n.low l) }

-- a near number stored in a near table
pub within-set : (b : ℕ) (w : List ℕ) (q r : ℕ) → q < length w → Within b w → Near b r → Within b (set w q r)
within-set b w q r l h n p = go (eqb p q) refl
  where
    go : (t : Bool) → eqb p q ≡ t → Near b (get_or (set w q r) p 0)
    go true z = rw (eqb-true p q z, get_or-set_same w q r 0 l) n
    go false z = rw (get_or-set_other w q p r 0 (eqb-false p q z)) (h p)

-- with each time that is passed the reach doubles
pub reach-next : (k : ℕ) → k < 12 → reach k ≡ reach (k + 1) + reach (k + 1)
unfolding reach
reach-next k l =
    let h : 43 - k ≡ suc (43 - (k + 1)) = omega arith in
    rw (h, two-pow-succ)

-- and it is never half of the origin
pub reach_small : (k : ℕ) → 1 ≤ k → reach k ≤ 4398046511104
unfolding reach
reach_small k l = pow-le-pow_right {n = 2} (omega arith) {i = 43 - k} {j = 42} (omega arith)

-- ---- what a round through time k asks and leaves

-- a table within the reach of the times from k + 1 on is ready
pub ready : (k : ℕ) (w : List ℕ) → length w ≡ 144 → 1 ≤ k → k < 12 → Within (reach (k + 1)) w → Ready k w
ready k w size a b h = record {
  size = size;
  least = a;
  most = b;
  column = λ i. h (i * 12 + k);
  row = λ j l. h (k * 12 + j);
  all = λ p. near_more (reach k) (omega (arith, reach-next k b)) (h p);
}

-- each bound of a ready table is below twice the origin
pub ready_small : {k : ℕ} {w : List ℕ} → Ready k w → (p : ℕ) → get_or w p 0 ≤ 35184372088832
ready_small {k} r p = let n = r.all p in omega (arith, n.high, reach_small k r.least)

pub raised_one : (w : List ℕ) (k i j r : ℕ) → Ready k w → i < k → j < k → Join (entry w i j) (entry w i k) (entry w k j) r
    → RaisedOne k i j w (set w (i * 12 + j) r)
raised_one w k i j r h hi hj e =
    let size = h.size in
    let hk = h.most in
    let s = raised_set w k i j r size hk hi hj e in
    record {
      raised = s;
      ready = record {
        size = length-set w (i * 12 + j) r ∙ size;
        least = h.least;
        most = hk;
        column = λ m. rw (s.kept m k hk (inr (omega arith))) (h.column m);
        row = λ m l. rw (s.kept k m l (inl (omega arith))) (h.row m l);
        all = within-set
            (reach k)
            w
            (i * 12 + j)
            r
            (omega arith)
            h.all
            (rw
            (reach-next k hk)
            (join_near
            (reach (k + 1))
            (omega (arith, reach-next k hk, reach_small k h.least))
            (rw (reach-next k hk) at (h.all (i * 12 + j)))
            (h.column i)
            (h.row j (omega arith))
            e));
      };
      joined = joined_set w k i j r size hk hi hj e;
    }

pub row-none : (k i : ℕ) (w : List ℕ) → Ready k w → RaisedRow k i 0 w w
row-none k i w h = record { raised = raised_none k w; ready = h; joined = λ j l. absurd (omega arith) }

pub row_more : {k i n : ℕ} {w v u : List ℕ} → n < k → RaisedRow k i n w v → RaisedOne k i n v u → RaisedRow k i (n + 1) w u
row_more {k} {i} {n} {u = u} l a b =
    let hk = b.ready.most in
    record {
      raised = raised_then a.raised b.raised;
      ready = b.ready;
      joined =
          below_more (λ j. Joined k i j u) n (λ j p. joined_kept k i j (omega arith) hk (omega arith) b.raised (a.joined j p)) b.joined;
    }

pub rows_none : (k : ℕ) (w : List ℕ) → Ready k w → RaisedRows k 0 w w
rows_none k w h = record { raised = raised_none k w; ready = h; joined = λ i j l. absurd (omega arith) }

pub rows_more : {k n : ℕ} {w v u : List ℕ} → RaisedRows k n w v → RaisedRow k n k v u → RaisedRows k (n + 1) w u
rows_more {k} {n} {u = u} a b =
    let hk = b.ready.most in
    record {
      raised = raised_then a.raised b.raised;
      ready = b.ready;
      joined = λ i j p q.
          below_more
          (λ m. Joined k m j u)
          n
          (λ m f. joined_kept k m j (omega arith) hk (omega arith) b.raised (a.joined m j f q))
          (b.joined j q)
          i
          p;
    }

-- ---- round after round

-- the table raised through the times from k on
pub record Through (k : ℕ) (w v : List ℕ) : Type 0 where
  pub size : length v ≡ 144
  pub raised : Raised 12 w v
  pub near : Within (reach k) v
  pub joined : (m i j : ℕ) → k ≤ m → m < 12 → i < m → j < m → Joined m i j v

pub through-none : (w : List ℕ) → length w ≡ 144 → Within (reach 12) w → Through 12 w w
through-none w s h = record { size = s; raised = raised_none 12 w; near = h; joined = λ m i j l p. absurd (omega arith) }

pub through_more : {k : ℕ} {w v u : List ℕ} → Through (k + 1) w v → RaisedRows k k v u → Through k w u
through_more {k} {w} {v} {u} a b =
    let hk = b.ready.most in
    record {
      size = b.ready.size;
      raised = raised_then a.raised (raised_more 12 (omega arith) b.raised);
      near = b.ready.all;
      joined = λ m i j l p.
          ⊎_elim
          (λ (e : k ≡ m). ap_joined e i j)
          (λ (f : k < m) s t. joined_kept m i j l p (omega arith) b.raised (a.joined m i j (omega arith) p s t))
          (eq-or-lt_of_le l);
    }
  where
    ap_joined : {m : ℕ} → k ≡ m → (i j : ℕ) → i < m → j < m → Joined m i j u
    ap_joined e = subst (λ (m : ℕ). (i j : ℕ) → i < m → j < m → Joined m i j u) e b.joined

-- a round goes from k to k - 1
pub round : {k : ℕ} {w v : List ℕ} → 1 < k → k ≤ 12 → Through k w v → Ready (k - 1) v
round {k} {v = v} a b t =
    let e : k ≡ k - 1 + 1 = omega arith in
    ready (k - 1) v t.size (omega arith) (omega arith) (subst (λ (m : ℕ). Within (reach m) v) e t.near)

pub round_done : {k : ℕ} {w v u : List ℕ} → 1 < k → Through k w v → RaisedRows (k - 1) (k - 1) v u → Through (k - 1) w u
round_done {k} {w} {v} a t b =
    let e : k ≡ k - 1 + 1 = omega arith in
    through_more (subst (λ (m : ℕ). Through m w v) e t) b
