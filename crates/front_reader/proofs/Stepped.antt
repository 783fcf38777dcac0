-- The laws of what specs/Stepped defines. Assumes nothing.
use mathlib.Core.Path.{◌≡◌, refl, sym, ◌∙◌}
use mathlib.Core.Bool.{Bool, true, false, cond}
use mathlib.Core.List.{List}
use Prim.Native.Nat.{ℕ}
use native.Mathlib.Omega.{arith}
use Rattle.lines.specs.declared.Token.{Token}
use Rattle.lines.specs.declared.Position.{Position}
use Rattle.lines.specs.Walk.{names, step_of}
use Rattle.lines.specs.declared.Step.{Step}
use Rattle.lines.specs.declared.Step.TheVariants.{Handed, NoMore}
use Rattle.front_reader.specs.Stepped.{Stepped}

-- ---- laws

handed_test : (b : Bool) (t u : Token) (n m back : Position) → cond b (Handed t n) (NoMore back) ≡ Handed u m → true ≡ b
handed_test true t u n m back h = refl
handed_test false t u n m back h = let z : ◌≡◌ {A = ℕ} 0 1 = cc in absurd (omega arith)

more_test : (b : Bool) (t : Token) (n back other : Position) → cond b (Handed t n) (NoMore back) ≡ NoMore other → false ≡ b
more_test true t n back other h = let z : ◌≡◌ {A = ℕ} 0 1 = cc in absurd (omega arith)
more_test false t n back other h = refl

-- a step that hands out a token is one at a position that names one
pub handed : (p : List ℕ) (q : Position) (r : Step) (t : Token) (next : Position) → r ≡ step_of p q → r ≡ Handed t next → true ≡ names p q
unfolding step_of
handed p q r t next e h = handed_test (names p q) _ _ _ _ _ (sym e ∙ h)

pub none : (p : List ℕ) (q : Position) (r : Step) (back : Position) → r ≡ step_of p q → r ≡ NoMore back → false ≡ names p q
unfolding step_of
none p q r back e h = more_test (names p q) _ _ _ _ (sym e ∙ h)

pub stepped : (p : List ℕ) (q : Position) (r : Step) (t : Token) (next : Position) (token start value end job : ℕ)
    → r ≡ step_of p q → r ≡ Handed t next
    → Stepped (step_of p q) token start value end job next.token next.start.tick t.value t.end.tick t.job
stepped p q r t next token start value end job e h = rw (sym e ∙ h) (refl, refl, refl, refl, refl)

pub stayed : (p : List ℕ) (q : Position) (r : Step) (back : Position) (token start value end job : ℕ) → r ≡ step_of p q → r ≡ NoMore back
    → Stepped (step_of p q) token start value end job token start value end job
stayed p q r back token start value end job e h = rw (sym e ∙ h) (refl, refl, refl, refl, refl)
