-- The times of a closed table, each the least that the bounds from those before it allow: they meet every bound, and none is later than in
-- any other choice. Assumes nothing.
use mathlib.Core.Path.{◌≡◌, refl, sym, ap, ◌∙◌}
use mathlib.Core.Bool.{Bool, true, false, false≢true}
use mathlib.Core.Logic.{◌⊎◌, inl, inr, ⊎_elim}
use mathlib.Core.List.{List}
use Prim.Native.Nat.{ℕ, ◌+◌, ◌*◌, ◌≤◌, ◌<◌}
use native.Mathlib.Nat.{eq-or-lt_of_le}
use native.Mathlib.Omega.{arith}
use lib.ListN.{length, get_or, set}
use lib.Seq.{get_or-set_same, get_or-set_other}
use Rattle.std.specs.Bool.{MatchBool}
use Rattle.std.specs.List.{range_with_len, AllWithin, HoldsAt}
use Rattle.std.proofs.lemmas.List.FromFn.{get_or-range_with_len}
use Rattle.bounds.specs.Bounds.{origin, entry, Holds, Meets, times, Earliest, reach, Within, Floored}
use Rattle.bounds.specs.Steps.{Joined, Raised, far, Closed, Bent, Tested, Fit, Later, Reached, First}
use Rattle.bounds.proofs.Raising.{Through}

-- a number below n + 1 is below n or is n
below_or : (i n : ℕ) → i < n + 1 → (i < n) ⊎ (i ≡ n)
below_or i n h = let l : i ≤ n = omega arith in ⊎_elim (λ e. inr e) (λ e. inl e) (eq-or-lt_of_le l)

-- time 0 alone
pub first_one_lem : (w : List ℕ) (x : ℕ → ℕ) → x 0 ≡ 0 → entry w 0 0 ≤ origin → First w 1 x
first_one_lem w x s h = record {
  starts = s;
  meets = λ i j a b c.
      let p : i ≡ 0 = omega arith in
      let q : j ≡ 0 = omega arith in
      rw (p, q) (omega arith);
  least = λ y e i a. let p : i ≡ 0 = omega arith in rw (p, s) (omega arith);
  small = λ i a. let p : i ≡ 0 = omega arith in rw (p, s) (omega arith);
}

module _
    (w : List ℕ) (n : ℕ) (x z : ℕ → ℕ) (r : ℕ) (hn : 1 ≤ n) (hw : n < 12) (same : (i : ℕ) → i < n → z i ≡ x i) (here : z n ≡ r)
    (joined : (i j : ℕ) → i < n → j < n → Joined n i j w) (near : Within far w) (flat : entry w n n ≤ origin) (f : First w n x)
    (h : Reached w n n x r)
  where
    -- what the new time asks of those before it
    back : (j : ℕ) → j < n → Holds (entry w n j) r (x j)
    back j l p =
        let m = h.from in
        let a = (near (m * 12 + n)).low h.there in
        let b = (near (n * 12 + j)).low p in
        let t = joined m j h.below l h.there p in
        omega (arith, f.meets m j h.below l (omega arith), h.met)

    -- one time more
    pub first_more : First w (n + 1) z
    first_more = record {
      starts = same 0 hn ∙ f.starts;
      meets = λ i j a b.
          ⊎_elim
          (λ p. ⊎_elim (λ q. rw (same i p, same j q) (f.meets i j p q)) (λ (q : j ≡ n). rw (q, here, same i p) (h.over i p)) (below_or j n b))
          (λ (p : i ≡ n). ⊎_elim (λ q. rw (p, here, same j q) (back j q)) (λ (q : j ≡ n). rw (p, q, here) (λ e. omega arith)) (below_or j n b))
          (below_or i n a);
      least = λ y e i a.
          ⊎_elim
          (λ p. rw (same i p) (f.least y e i p))
          (λ (p : i ≡ n).
          rw
          (p, here)
          (omega (arith, h.met, f.least y e h.from h.below, e.meets h.from n (omega (arith, h.below)) hw h.there)))
          (below_or i n a);
      small = λ i a.
          ⊎_elim
          (λ p. rw (same i p) (f.small i p))
          (λ (p : i ≡ n). rw (p, here) (omega (arith, h.met, h.below, f.small h.from h.below, (near (h.from * 12 + n)).high)))
          (below_or i n a);
    }

-- the same of a list in which the new time was stored
pub first-set : (w l : List ℕ) (n r : ℕ) → length l ≡ 12 → 1 ≤ n → n < 12 → ((i j : ℕ) → i < n → j < n → Joined n i j w) → Within far w
    → entry w n n ≤ origin → First w n (times l) → Reached w n n (times l) r → First w (n + 1) (times (set l n r))
first-set w l n r size hn hw joined near flat f h =
    first_more
    w
    n
    (times l)
    (times (set l n r))
    r
    hn
    hw
    (λ i p. get_or-set_other l n i r 0 (λ e. omega arith))
    (get_or-set_same l n r 0 (omega arith))
    joined
    near
    flat
    f
    h

-- ---- the least that the bounds allow

-- the bounds from time 0 are the first
zeroth : (w : List ℕ) (k : ℕ) → entry w 0 k ≡ get_or w k 0
zeroth w k = ap (λ (n : ℕ). get_or w n 0) (omega arith)

pub floor : (w : List ℕ) (k : ℕ) → k < 12 → Floored w → origin ≤ get_or w k 0
floor w k l h = omega (arith, zeroth w k, h k l)

-- the bound from time 0 alone
pub reached_one : (w : List ℕ) (k : ℕ) (x : ℕ → ℕ) (r : ℕ) → x 0 ≡ 0 → get_or w k 0 ≡ r + origin → Reached w k 1 x r
reached_one w k x r s g = let e = zeroth w k ∙ g in record {
  over = λ i l p. let q : i ≡ 0 = omega arith in rw (q, s) (omega arith);
  from = 0;
  below = omega arith;
  there = omega arith;
  met = rw s (omega arith);
}

-- a bound more that asks no more
pub reached_same : (w : List ℕ) (k n : ℕ) (x : ℕ → ℕ) (r : ℕ) → Reached w k n x r → Holds (entry w n k) (x n) r → Reached w k (n + 1) x r
reached_same w k n x r h o = record {
  over = λ i l. ⊎_elim (λ p. h.over i p) (λ p. rw p o) (below_or i n l);
  from = h.from;
  below = omega (arith, h.below);
  there = h.there;
  met = h.met;
}

-- a bound more that asks for a later time
pub reached_more : (w : List ℕ) (k n : ℕ) (x : ℕ → ℕ) (r s : ℕ) → Reached w k n x r → 0 < entry w n k → r ≤ s → x n + entry w n k ≡ s + origin → Reached w k (n + 1) x s
reached_more w k n x r s h o g e = record {
  over = λ i l. ⊎_elim (λ p q. omega (arith, h.over i p q)) (λ p. rw p (λ q. omega arith)) (below_or i n l);
  from = n;
  below = omega arith;
  there = o;
  met = e;
}

-- one bound more
pub reached_later : (w : List ℕ) (k n : ℕ) (x : ℕ → ℕ) (r s : ℕ) → Reached w k n x r → Later r (x n) (entry w n k) s → Reached w k (n + 1) x s
reached_later w k n x r s h l =
    ⊎_elim
    (λ (q : s ≡ r). rw q (reached_same w k n x r h (rw q at l.over)))
    (λ q. reached_more w k n x r s h q.0 l.grown q.1)
    l.from

-- no time is large
pub reached_small : (w : List ℕ) (k n m : ℕ) (x : ℕ → ℕ) (r : ℕ) → n ≤ m → m ≤ 12 → Within far w → First w m x → Reached w k n x r → r ≤ n * far
reached_small w k n m x r a b near f h =
    omega (arith, h.met, h.below, f.small h.from (omega (arith, h.below)), (near (h.from * 12 + k)).high)

-- the closed table keeps the floor, and is fit if no time would have to be later than itself
pub floored_kept : {w v : List ℕ} {k : ℕ} → Raised k w v → Floored w → Floored v
floored_kept a h j l = omega (arith, a.grown (0 * 12 + j), h j l)

pub fit : {w v : List ℕ} {r : Bool} → Closed w v → Floored w → Tested v r → r ≡ true → Fit v
fit c h t e = record { joined = c.joined; near = c.near; floored = floored_kept c.raised h; flat = t.flat e }

in_range : (k : ℕ) → k < 12 → get_or (range_with_len 0 12) k 0 ≡ k
in_range k l = get_or-range_with_len 0 12 k 0 l ∙ omega arith

-- none of the numbers below 12 is a time that would have to be later than itself, or one is
pub tested : (w : List ℕ) (r : Bool)
    → MatchBool
    r
    (AllWithin (λ k. entry w k k ≤ origin) (range_with_len 0 12) 0 12)
    ((k : ℕ) × (k < 12) × HoldsAt (λ k. origin < entry w k k) (range_with_len 0 12) k)
    → Tested w r
tested w true h = record {
  flat = λ _ k l. rw (in_range k l) at (h k 0 (omega arith) l);
  bent = λ e. absurd (false≢true (sym e));
}
tested w false h = record {
  flat = λ e. absurd (false≢true e);
  bent = λ _. record { at = h.0; below = h.1; over = rw (in_range h.0 h.1) at (h.2 0) };
}

-- ---- the whole

-- a table that was only raised is met by no more times
pub fewer : {k : ℕ} {w v : List ℕ} → Raised k w v → (x : ℕ → ℕ) → Meets v x → Meets w x
fewer a x h i j p q l = omega (arith, a.grown (i * 12 + j), h i j p q (omega (arith, a.grown (i * 12 + j))))

-- the times of the closed table are the earliest
pub whole : {w v : List ℕ} (before l : List ℕ) → Closed w v → First v 12 (times l) → Earliest w true before l
whole before l c f = record {
  meets = λ _. record { starts = f.starts; meets = fewer c.raised (times l) f.meets };
  earliest = λ _ y e. f.least y (record { starts = e.starts; meets = c.raised.implied y e.meets });
  none = λ h. absurd (false≢true (sym h));
  untouched = λ h. absurd (false≢true (sym h));
}

-- a bent table is met by no times
pub nothing : {w v : List ℕ} (l : List ℕ) → Closed w v → Bent v → Earliest w false l l
nothing l c b = record {
  meets = λ h. absurd (false≢true h);
  earliest = λ h. absurd (false≢true h);
  none = λ _ y e. let m = b.over in omega (arith, c.raised.implied y e.meets b.at b.at b.below b.below (omega arith));
  untouched = λ _. refl;
}

-- raised through every time from 1 on, a table is closed
pub closed : {w v : List ℕ} → Through 1 w v → Closed w v
unfolding reach
closed t = record { raised = t.raised; joined = λ k i j l. t.joined k i j l; near = t.near }
