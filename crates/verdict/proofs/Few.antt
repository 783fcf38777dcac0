-- A good book and a plan without fault have few trigger tokens: at most 64 rules, and 512 tokens on a line. So the count fits a word.
-- Assumes nothing.
use mathlib.Core.Path.{◌≡◌}
use mathlib.Core.Bool.{Bool, true, false, cond}
use mathlib.Core.Logic.{◌⊎◌, inl, inr, ⊎_elim}
use mathlib.Core.List.{List, [], ◌∷◌}
use Prim.Native.Nat.{ℕ, zero, suc, ◌+◌, ◌*◌, ◌^◌, ◌≤◌, ◌<◌}
use native.Mathlib.Nat.{add-zero, zero-mul, suc-mul}
use native.Mathlib.Omega.{arith}
use lib.ListN.{length}
use lib.Dec.{eqb}
use borrow.Author.Tests.{eq-eqb}
use Rattle.words.specs.Words.{word}
use Rattle.words.specs.Runs.{run}
use Rattle.clock.specs.Clock.{no_limit}
use Rattle.layout.specs.Layout.{count, offset}
use Rattle.book.specs.Fault.{book_fault}
use Rattle.book.proofs.Good.{good, no_number}
use Rattle.book.specs.Sound.{Sound}
use Rattle.book.proofs.Sound.{sound}
use Rattle.book.specs.Rules.{Rule, rule_at, rules_of}
use Rattle.lines.specs.declared.Token.{Token}
use Rattle.lines.specs.Lines.{line_count, line_of}
use Rattle.plan.specs.Fault.{plan_fault}
use Rattle.lines.proofs.Laws.{line-length}
use Rattle.plan.proofs.Good.{plan_good, no_number as plan-no-number}
use Rattle.choice.specs.Met.{nobody}
use Rattle.verdict.specs.Judged.{counted, trigger_line, is_trigger, examined}
use Rattle.verdict.specs.Survey.{placed_rule, placed_rules}

-- a test holds of at most all
counted_le : {A : Type 0} (q : A → Bool) (xs : List A) → counted q xs ≤ length xs
unfolding counted
counted_le q [] = omega arith
counted_le q (x ∷ xs) = step (q x) (counted_le q xs)
  where
    step : (t : Bool) → counted q xs ≤ length xs → cond t 1 0 + counted q xs ≤ suc (length xs)
    step true h = omega arith
    step false h = omega arith

-- rules with at most m tokens each
examined_le : {C : Type 0} (lines : ℕ → List Token) (f : ℕ → Rule C) (w m n at : ℕ)
    → ((i : ℕ) → i < n → length (trigger_line lines (f (at + i * w))) ≤ m) → examined lines (run f w n at) ≤ n * m
unfolding examined run
examined_le lines f w m zero at h = omega arith
examined_le lines f w m (suc n) at h =
    let here : length (trigger_line lines (f at)) ≤ m = rw (zero-mul, add-zero) at (h 0 (omega arith)) in
    let rest = examined_le lines f w m n (at + w) (λ i l. rw (moved i) (h (suc i) (omega arith))) in
    omega (arith, counted_le (is_trigger lines (f at)) (trigger_line lines (f at)), suc-mul n m)
  where
    moved : (i : ℕ) → at + w + i * w ≡ at + suc i * w
    moved i = omega (arith, suc-mul i w)

module _ (e : ℕ) (b p : List ℕ) (few : (v : ℕ) → v < count b 0 → line_count p v ≤ 512) where
  -- the line of a rule whose trigger is none, or a variable of the book
  line_few : (place : ℕ) → (word b place ≡ no_limit) ⊎ (word b place < count b 0) → length (trigger_line (line_of p) (placed_rule e b place)) ≤ 512
  unfolding trigger_line rule_at
  line_few place (inl none) = rw (eq-eqb _ _ none) (omega arith)
  line_few place (inr there) = step (eqb (word b place) no_limit)
    where
      step : (t : Bool) → length (cond t (nobody ∷ []) (line_of p (word b place))) ≤ 512
      step true = omega arith
      step false = rw (line-length p (word b place)) (few (word b place) there)

  -- each rule of a good book is so
  rule_few : Sound e b → (i : ℕ) → i < count b 2 → length (trigger_line (line_of p) (placed_rule e b (offset b 2 + i * 4))) ≤ 512
  rule_few s i l =
      let first = add-zero (offset b 2 + i * 4) in
      line_few _ (⊎_elim (λ q. inl (rw first at q.0)) (λ q. inr (rw first at q.variable)) (s.rules i l).trigger)

  -- and there are at most 64
  pub examined_few : Sound e b → examined (line_of p) (placed_rules e b) < 2 ^ 32
  unfolding rules_of
  examined_few s =
      let most = s.header.few 2 (omega arith) in
      omega (arith, examined_le (line_of p) (placed_rule e b) 4 512 (count b 2) (offset b 2) (rule_few s))

-- a book and a plan without fault
pub few : (e : ℕ) (b p : List ℕ) → (book_fault e b).number ≡ 0 → (plan_fault b p).number ≡ 0 → examined (line_of p) (placed_rules e b) < 2 ^ 32
few e b p hb hp = examined_few e b p (plan_good b p (plan-no-number b p hp)).head.few (sound e b (good e b (no_number e b hb)))
