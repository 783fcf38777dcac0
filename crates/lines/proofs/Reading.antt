-- At no more, no more for ever; at nowhere, and behind a line's tokens, none. Assumes nothing.
use mathlib.Core.Path.{◌≡◌, refl, sym, ap, ◌∙◌}
use mathlib.Core.Bool.{Bool, true, false, cond}
use mathlib.Core.List.{List, []}
use Prim.Native.Nat.{ℕ, zero, suc, ◌^◌, ◌≤◌, ◌<◌}
use native.Mathlib.Omega.{arith}
use borrow.Author.Tests.{le-ltb}
use Rattle.words.proofs.Lists.{and-false}
use Rattle.clock.specs.Clock.{no_limit}
use Rattle.lines.specs.declared.Token.{Token}
use Rattle.lines.specs.declared.Position.{Position}
use Rattle.lines.specs.declared.Step.{Step}
use Rattle.lines.specs.declared.Step.TheVariants.{Handed, NoMore}
use Rattle.lines.specs.Lines.{line_count}
use Rattle.lines.specs.Walk.{position, names, step_of}
use Rattle.lines.specs.Reading.{hands_out, handed}

-- a position that names no token gets "no more", and the position back
pub no_more : (p : List ℕ) (q : Position) → names p q ≡ false → step_of p q ≡ NoMore q
unfolding step_of
no_more p q h = rw h

-- so where a step says "no more", the position is the same, and every later step says "no more" again
pub for_ever : (p : List ℕ) (q back : Position) → step_of p q ≡ NoMore back → (back ≡ q) × (step_of p back ≡ NoMore back)
unfolding step_of
for_ever p q back h = told (names p q) _ _ h (sym h)
  where
    told : (t : Bool) (x : Token) (next : Position) → cond t (Handed x next) (NoMore q) ≡ NoMore back → NoMore back ≡ step_of p q
        → (back ≡ q) × (step_of p back ≡ NoMore back)
    told true x next e f = (cc, cc)
    told false x next e f = let same : back ≡ q = cc in (same, ap (step_of p) same ∙ sym f)

-- nothing is handed out there
pub none-handed : (p : List ℕ) (n : ℕ) (q : Position) → names p q ≡ false → handed p n q ≡ []
unfolding handed
none-handed p zero q h = refl
none-handed p (suc n) q h = ap (λ (s : Step). hands_out s (handed p n)) (no_more p q h)

-- a position behind a line's tokens names none
pub past_end : (p : List ℕ) (v j start : ℕ) → line_count p v ≤ j → names p (position v j start) ≡ false
unfolding names
past_end p v j start l = simp (le-ltb j (line_count p v) l, and-false)

-- "refused, at token N, start 0, which names none"
pub nowhere_none : (p : List ℕ) (v : ℕ) → line_count p v < 2 ^ 32 → step_of p (position v no_limit 0) ≡ NoMore (position v no_limit 0)
nowhere_none p v l = no_more p (position v no_limit 0) (past_end p v no_limit 0 (omega arith))
