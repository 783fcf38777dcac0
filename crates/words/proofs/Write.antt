-- The laws of what specs/Write defines. Assumes nothing.
use mathlib.Core.Path.{◌≡◌, refl, sym, ap, ◌∙◌}
use Prim.Native.Nat.{ℕ, suc, ◌+◌, ◌-◌, ◌≤◌, ◌<◌}
use native.Mathlib.Numerals.{add-one}
use native.Mathlib.Nat.{add-zero}
use native.Mathlib.Omega.{arith}
use mathlib.Core.List.{List, [], ◌∷◌, ◌++◌, append_assoc}
use lib.ListN.{length, take, drop, set, length-set, length-append}
use lib.Seq.{sets, sets-eq, take-suc, length-take-le, drop-drop}
use borrow.Rule.Slice.PartMut.{put_mid}
use Rattle.words.specs.Words.{word}
use Rattle.words.specs.Write.{puts, Wrote, Has}

-- two runs at once are one behind the other
pub puts_append : (l : List ℕ) (at : ℕ) (xs ys : List ℕ) → puts l at (xs ++ ys) ≡ puts (puts l at xs) (at + length xs) ys
puts_append l at [] ys = rw add-zero
puts_append l at (x ∷ xs) ys =
    puts_append (set l at x) (at + 1) xs ys
    ∙ ap (λ (k : ℕ). puts (puts (set l at x) (at + 1) xs) k ys) (omega arith)

-- writing changes no length
pub length-puts : (l : List ℕ) (at : ℕ) (ws : List ℕ) → length (puts l at ws) ≡ length l
length-puts l at [] = refl
length-puts l at (w ∷ ws) = length-puts (set l at w) (at + 1) ws ∙ length-set l at w

-- one word more of a run, behind those that are there
pub puts_more : (l : List ℕ) (at i : ℕ) (ws : List ℕ) → i < length ws → set (puts l at (take i ws)) (at + i) (word ws i) ≡ puts l at (take (i + 1) ws)
puts_more l at i ws h = rw (add-one i, take-suc ws i 0, puts_append, length-take-le i ws (omega arith))

-- nothing written
pub none : (l : List ℕ) (at : ℕ) → Wrote l l at at []
none l at = record { same = refl; next = sym (add-zero at) }

-- one run, then the next behind it
pub then : {b m a : List ℕ} {at k r : ℕ} {xs ys : List ℕ} → Wrote b m at k xs → Wrote m a k r ys → Wrote b a at r (xs ++ ys)
then {b} {m} {a} {at} {k} {r} {xs} {ys} p q = record {
  same = q.same ∙ ap (λ (l : List ℕ). puts l k ys) p.same ∙ ap (λ (n : ℕ). puts (puts b at xs) n ys) p.next ∙ sym (puts_append b at xs ys);
  next = omega (arith, p.next, q.next, length-append xs ys);
}

-- only these words differ
pub puts_eq : (l : List ℕ) (at : ℕ) (ws : List ℕ) → at + length ws ≤ length l → puts l at ws ≡ take at l ++ ws ++ drop (at + length ws) l
puts_eq l at ws h = is l at ws ∙ sets-eq ws l at h
  where
    is : (l : List ℕ) (at : ℕ) (ws : List ℕ) → puts l at ws ≡ sets l at ws
    is l at [] = refl
    is l at (w ∷ ws) = ap (λ (k : ℕ). puts (set l at w) k ws) (add-one at) ∙ is (set l at w) (suc at) ws

-- room for two runs is room for the first
pub has_first : {l : List ℕ} {at : ℕ} (xs ys : List ℕ) → Has l at (xs ++ ys) → Has l at xs
has_first xs ys h = record { fits = omega (arith, h.fits, length-append xs ys) }

-- and, once the first is written, for the second
pub has_second : {b m : List ℕ} {at k : ℕ} {xs : List ℕ} (ys : List ℕ) → Wrote b m at k xs → Has b at (xs ++ ys) → Has m k ys
has_second {b} {m} {at} {k} {xs} ys w h =
    record { fits = omega (arith, h.fits, length-append xs ys, w.next, ap length w.same ∙ length-puts b at xs) }

-- a part is written whole, from `at` to r
pub wrote_part : (l : List ℕ) (at r : ℕ) (ws : List ℕ) → at + length ws ≡ r → r ≤ length l → Wrote l (put_mid at (r - at) l ws) at r ws
wrote_part l at r ws e h = record { same = sym (puts_eq l at ws (omega arith) ∙ append_assoc (take at l) ws _ ∙ ap (λ (t : List ℕ). take at l ++ (ws ++ t)) rest); next = sym e }
  where
    rest : drop (at + length ws) l ≡ drop (r - at) (drop at l)
    rest = sym (drop-drop (r - at) at l ∙ ap (λ (k : ℕ). drop k l) (omega arith))
