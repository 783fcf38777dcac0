-- The steps of the sweep's loops and tests, over plain variables. Assumes nothing.
use mathlib.Core.Path.{◌≡◌, refl, ◌∙◌}
use mathlib.Core.Bool.{true, false, ◌||◌}
use mathlib.Core.Logic.{⊎_elim}
use mathlib.Core.List.{List}
use Prim.Native.Nat.{ℕ, zero, suc, ◌+◌, ◌≤◌, ◌<◌}
use native.Mathlib.Nat.{eq-or-lt_of_le}
use native.Mathlib.Numerals.{add-one}
use native.Mathlib.Omega.{arith}
use lib.Dec.{ltb, eqb}
use lib.ListN.{length, get_or, set, take}
use lib.Seq.{get_or-set_same, get_or-set_other}
use borrow.Author.Tests.{eq-eqb, ne_eqb}
use Rattle.std.specs.List.{fold}
use Rattle.std.proofs.lemmas.List.Sums.{fold_more}
use Rattle.sweep.specs.declared.Stand.{Stand}
use Rattle.sweep.specs.Stands.{stand, sooner, soonest}

-- a fact of each element before v, and of what is stored at v
pub stored : {A : Type 0} (d : A) (P : ℕ → A → Type 0) (ls : List A) (v : ℕ) (x : A) → ((u : ℕ) → u < v → P u (get_or ls u d)) → v < length ls → P v x
    → (u : ℕ) → u < v + 1 → P u (get_or (set ls v x) u d)
stored d P ls v x h l q u m = ⊎_elim here before (eq-or-lt_of_le le)
  where
    le : u ≤ v
    le = omega arith

    here : u ≡ v → P u (get_or (set ls v x) u d)
    here e = rw e (rw (get_or-set_same ls v x d l) q)

    before : u < v → P u (get_or (set ls v x) u d)
    before k = rw (get_or-set_other ls v u x d (λ e. omega arith)) (h u k)

-- ---- the soonest

module _ (r : ℕ) (s : Stand) where
  pub sooner-none : s.left ≡ 0 → r ≡ sooner r s
  unfolding sooner
  sooner-none h = rw (eq-eqb _ _ h)

  pub sooner_this : (s.left ≡ 0 → ⊥) → (eqb r 0 || ltb s.run r) ≡ true → s.run ≡ sooner r s
  unfolding sooner
  sooner_this h k = rw (ne_eqb _ _ h, k)

  pub sooner_that : (s.left ≡ 0 → ⊥) → (eqb r 0 || ltb s.run r) ≡ false → r ≡ sooner r s
  unfolding sooner
  sooner_that h k = rw (ne_eqb _ _ h, k)

-- and of all of n lines, one after another
pub soonest-fold : (ls : List Stand) (n : ℕ) → n ≤ length ls → fold sooner 0 (take n ls) ≡ soonest ls n
unfolding soonest
soonest-fold ls zero h = refl
soonest-fold ls (suc n) h =
    let l : n < length ls = omega arith in
    let m : n ≤ length ls = omega arith in
    rw (← add-one n) (fold_more sooner 0 ls n (stand 0 0 0) l ∙ rw (soonest-fold ls n m))
