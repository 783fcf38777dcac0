-- Words sent in a row; and a list that agrees with words and ends with them is those words. Assumes nothing.
use mathlib.Core.Path.{◌≡◌, refl, sym, ap, ◌∙◌}
use mathlib.Core.Bool.{Bool, true, false, ◌&&◌, true≢false}
use mathlib.Core.Logic.{◌↔◌}
use mathlib.Core.List.{List, [], ◌∷◌, ◌++◌}
use Prim.Native.Nat.{ℕ, suc, ◌+◌}
use native.Mathlib.Nat.{add-zero}
use native.Mathlib.Omega.{arith}
use lib.Dec.{eqb}
use lib.ListN.{length, set, length-append}
use borrow.Author.Tests.{eqb-true, eq-eqb}
use Rattle.words.specs.Words.{word}
use Rattle.words.proofs.Lists.{and-true, and_assoc}
use Rattle.words.proofs.Write.{puts_append}
use Rattle.event_list.specs.Sends.{agrees, Sends, is_words}

agrees_append : (list : List ℕ) (at : ℕ) (xs ys : List ℕ) → agrees list at (xs ++ ys) ≡ (agrees list at xs && agrees list (at + length xs) ys)
agrees_append list at [] ys = rw (add-zero at)
agrees_append list at (x ∷ xs) ys =
    let e : at + 1 + length xs ≡ at + length (x ∷ xs) = omega arith in
    rw (agrees_append list (at + 1) xs ys, e) (sym (and_assoc (eqb (word list at) x) (agrees list (at + 1) xs)
    (agrees list (at + length (x ∷ xs)) ys)))

-- no word
pub none : (list l : List ℕ) (at : ℕ) (s : Bool) → Sends list l l at s at s []
none list l at s = record { stored = refl; place = sym (add-zero at); same = sym (and-true s) }

-- one word
pub one : {list before after : List ℕ} {at next w : ℕ} {s t : Bool}
    → (after ≡ set before at w) × (next ≡ at + 1) × (t ≡ (s && eqb (word list at) w)) → Sends list before after at s next t (w ∷ [])
one {list} {before} {after} {at} {next} {w} {s} h =
    record { stored = h.0; place = h.1; same = h.2 ∙ ap (λ (b : Bool). s && b) (sym (and-true (eqb (word list at) w))) }

-- words, and then words
pub then : {list l m n xs ys : List ℕ} {a b c : ℕ} {s t u : Bool}
    → Sends list l m a s b t xs → Sends list m n b t c u ys → Sends list l n a s c u (xs ++ ys)
then {list} {l} {m} {n} {xs} {ys} {a} {b} {c} {s} p q =
    record {
      stored = q.stored ∙ rw (p.stored, p.place) (sym (puts_append l a xs ys));
      place = rw (length-append xs ys) (omega (arith, p.place, q.place));
      same = q.same ∙ rw (p.same, p.place, agrees_append list a xs ys) (and_assoc s (agrees list a xs) (agrees list (a + length xs) ys));
    }

-- ---- the whole list

-- moved by one
agrees_tail : (x : ℕ) (l : List ℕ) (k : ℕ) (ws : List ℕ) → agrees (x ∷ l) (suc k) ws ≡ agrees l k ws
agrees_tail x l k [] = refl
agrees_tail x l k (w ∷ ws) =
    let e : suc k + 1 ≡ suc (k + 1) = omega arith in
    rw (e, agrees_tail x l (k + 1) ws)

and_both : (a b : Bool) → (a && b) ≡ true → (a ≡ true) × (b ≡ true)
and_both true b h = (refl, h)
and_both false b h = absurd (true≢false (sym h))

agrees-all : (list ws : List ℕ) → agrees list 0 ws ≡ true → length list ≡ length ws → list ≡ ws
agrees-all [] [] h n = refl
agrees-all [] (w ∷ ws) h n = absurd (omega (arith, n))
agrees-all (x ∷ list) [] h n = absurd (omega (arith, n))
agrees-all (x ∷ list) (w ∷ ws) h n =
    let q = and_both (eqb x w) (agrees (x ∷ list) (0 + 1) ws) h in
    let t : agrees list 0 ws ≡ true = sym (agrees_tail x list 0 ws) ∙ q.1 in
    rw (eqb-true x w q.0, agrees-all list ws t (omega (arith, n)))

agrees_self : (ws : List ℕ) → agrees ws 0 ws ≡ true
agrees_self [] = refl
agrees_self (w ∷ ws) = rw (eq-eqb w w refl) (agrees_tail w ws 0 ws ∙ agrees_self ws)

-- THE LAW: the test holds exactly if the list is the words
pub is-words : (list ws : List ℕ) → (is_words list ws ≡ true) ↔ (list ≡ ws)
unfolding is_words
is-words list ws = (
  λ h. let q = and_both (agrees list 0 ws) (eqb (length ws) (length list)) h in agrees-all list ws q.0 (sym (eqb-true _ _ q.1)),
  λ e. rw (e, agrees_self ws, eq-eqb (length ws) (length ws) refl),
)
