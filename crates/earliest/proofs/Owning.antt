-- What is read of an alternative's rule and of the alternative; and what is said of a trigger. Assumes nothing.
use mathlib.Core.Path.{◌≡◌, refl}
use mathlib.Core.Bool.{Bool, true, false, cond}
use mathlib.Core.Logic.{◌↔◌}
use mathlib.Core.List.{List}
use Prim.Native.Nat.{ℕ, ◌+◌, ◌*◌}
use lib.Dec.{eqb}
use borrow.Author.Tests.{eqb-true, eqb-false, eq-eqb, ne_eqb}
use Rattle.std.specs.Prelude.{Option, None, Some, IfSome}
use Rattle.words.specs.Words.{word}
use Rattle.clock.specs.Clock.{no_limit}
use Rattle.layout.specs.Layout.{owner}
use Rattle.earliest.specs.declared.Trigger.{Trigger}
use Rattle.earliest.specs.declared.Places.{Places}
use Rattle.earliest.specs.Steps.{trigger_at, trigger_of, places_of}

-- ---- what was read of the rule and of the alternative

pub trigger_read : (b : List ℕ) (a rule at u v : ℕ) → rule ≡ owner 1 b 2 2 a → at ≡ word b 7 → u ≡ word b (at + rule * 4) → v ≡ word b (at + rule * 4 + 1)
    → trigger_at u v ≡ trigger_of b a
trigger_read b a rule at u v er ea eu ev = rw (eu, ev, er, ea)

pub places-read : (b : List ℕ) (a r n first names m atom atoms : ℕ) → r ≡ word b 9 → n ≡ word b 11 → m ≡ word b 13 → first ≡ word b (r + a * 4)
    → names ≡ word b (r + a * 4 + 1) → atom ≡ word b (r + a * 4 + 2) → atoms ≡ word b (r + a * 4 + 3)
    → ◌≡◌ {A = Places} (record { name = n + 2 * first; names = names; atom = m + 6 * atom; atoms = atoms }) (places_of b a)
places-read b a r n first names m atom atoms er en em ef ec ea et = rw (ef, ec, ea, et, en, em, er)

-- ---- what is said of a trigger

-- it is said where the first of its two words isn't the mark
pub of_trigger : (u v : ℕ) (P : Trigger → Type 0) → IfSome (trigger_at u v) P ↔ ((u ≡ no_limit → ⊥) → P (record { variable = u; value = v }))
of_trigger u v P = go (eqb u no_limit) refl
  where
    go : (t : Bool) → eqb u no_limit ≡ t
        → IfSome (cond t None (Some (record { variable = u; value = v }))) P ↔ ((u ≡ no_limit → ⊥) → P (record { variable = u; value = v }))
    go true e = (λ _ n. absurd (n (eqb-true u no_limit e)), λ _. tt)
    go false e = (λ h _. h, λ h. h (eqb-false u no_limit e))

-- without the mark there is one, and with it there is none
pub some_there : (u v : ℕ) → (u ≡ no_limit → ⊥) → ◌≡◌ {A = Option Trigger} (Some (record { variable = u; value = v })) (trigger_at u v)
some_there u v n = rw (ne_eqb u no_limit n)

pub none_there : (u v : ℕ) → u ≡ no_limit → None ≡ trigger_at u v
none_there u v e = rw (eq-eqb u no_limit e)

-- where there is none, the word is the mark; where there is one, it isn't
pub mark_of_none : (u v : ℕ) → None ≡ trigger_at u v → u ≡ no_limit
mark_of_none u v = go (eqb u no_limit) refl
  where
    go : (t : Bool) → eqb u no_limit ≡ t → ◌≡◌ {A = Option Trigger} None (cond t None (Some (record { variable = u; value = v }))) → u ≡ no_limit
    go true e h = eqb-true u no_limit e
    go false e h = cc

pub no_mark_of_some : (u v : ℕ) (t : Trigger) → Some t ≡ trigger_at u v → u ≡ no_limit → ⊥
no_mark_of_some u v t = go (eqb u no_limit) refl
  where
    go : (s : Bool) → eqb u no_limit ≡ s → ◌≡◌ {A = Option Trigger} (Some t) (cond s None (Some (record { variable = u; value = v }))) → u ≡ no_limit → ⊥
    go true e h = cc
    go false e h = eqb-false u no_limit e
