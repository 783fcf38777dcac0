-- "The result is a sound book with the kept rules in their order", with the book's variables and values; the desk list is that of the kept
-- rules; "A plan passes the shorter book exactly if it passes 1 to 11 and 18 and meets each kept rule", and what it then counts. Specimens has
-- books for which rules are taken out. Assumes nothing.
use mathlib.Core.Path.{◌≡◌, refl, sym, ap, ◌∙◌}
use mathlib.Core.Bool.{Bool, true, false, ◌&&◌, cond, false≢true}
use mathlib.Core.Logic.{◌↔◌, ⊎_elim, inl, inr}
use mathlib.Core.List.{List, [], ◌∷◌}
use Prim.Native.Nat.{ℕ, zero, suc, ◌+◌, ◌*◌, ◌<◌}
use native.Mathlib.Nat.{zero-mul, suc-mul}
use native.Mathlib.Omega.{arith}
use lib.Dec.{leb, eqb}
use lib.ListN.{length}
use borrow.Author.Tests.{eq-eqb, eqb-true}
use Rattle.answers.specs.Numbers.{numbers, no_fault, or_else}
use Rattle.words.specs.Words.{word}
use Rattle.words.specs.Lists.{any, all, All}
use Rattle.words.specs.Runs.{run}
use Rattle.layout.specs.Layout.{count, offset, record_at, field}
use Rattle.book.specs.Rules.{Atom, Rule, Value, value_at, variable_at, rules_of, variables_of}
use Rattle.book.specs.Encode.{atoms, book_of}
use Rattle.book.specs.Sound.{Sound}
use Rattle.book.specs.Fault.{book_fault}
use Rattle.book.proofs.Good.{good_back}
use Rattle.book.proofs.Sound.{sound_back}
use Rattle.book.proofs.Inside.{in_range, first_word}
use Rattle.lines.specs.Lines.{line_of}
use Rattle.plan.specs.Fault.{plan_fault}
use Rattle.choice.specs.Met.{atom_holds}
use Rattle.verdict.specs.Judged.{rules_fault, judged}
use Rattle.claims.proofs.Laws.{all-to}
use Rattle.claims.specs.Decoded.{NameFine, AlternativeFine, RuleFine}
use Rattle.claims.specs.TranslatedRules.{AtomFine}
use Rattle.claims.specs.SamePlan.{SameVariables}
use Rattle.claims.proofs.SamePlan.{plan_same}
use Rattle.claims.specs.Papers.{Plan, Met, SatisfiedIn, Satisfies}
use Rattle.claims.specs.RulesMet.{Settles, Fails}
use Rattle.claims.proofs.RulesMet.{book_rules, book_settles}
use Rattle.claims.specs.Accepted.{Solution, Examined}
use Rattle.claims.proofs.Accepted.{solution, solution_count}
use Rattle.desks.specs.List.{list_right}
use Rattle.closing.specs.Rebuilt.{rebuilt}
use Rattle.closing.proofs.Joined.{counts}
use Rattle.removal.specs.Removed.{kept, removed_book}
use Rattle.removal.proofs.Kept.{kept-all, fewer}
use Rattle.removal.proofs.Outcome.{removed_short}
use Rattle.removal_claims.proofs.Rebuilt.{Limits, read_back, exist, rebuilt_sound, variable_kept, value_kept}

-- ---- laws

-- two runs that agree at each record
run_on : {A : Type 0} (f g : ℕ → A) (w n x y : ℕ) → ((k : ℕ) → k < n → f (x + k * w) ≡ g (y + k * w)) → run f w n x ≡ run g w n y
unfolding run
run_on f g w zero x y h = refl
run_on f g w (suc n) x y h =
    let here : (z : ℕ) → z + 0 * w ≡ z = λ z. omega (arith, zero-mul w) in
    let first : f x ≡ g y = rw (here x, here y) at (h 0 (omega arith)) in
    let next : (z k : ℕ) → z + w + k * w ≡ z + suc k * w = λ z k. omega (arith, suc-mul k w) in
    rw (first, run_on f g w n (x + w) (y + w) (λ k l. rw (next x k, next y k) (h (suc k) (omega arith))))

-- of two lists of one length as many are kept
pub kept-long : {A B : Type 0} (numbers : List ℕ) (i : ℕ) (xs : List A) (ys : List B) → length xs ≡ length ys
    → length (kept numbers i xs) ≡ length (kept numbers i ys)
unfolding kept
kept-long numbers i [] [] e = refl
kept-long numbers i [] (y ∷ ys) e = absurd (omega arith)
kept-long numbers i (x ∷ xs) [] e = absurd (omega arith)
kept-long numbers i (x ∷ xs) (y ∷ ys) e = by (any (eqb i) numbers) (kept-long numbers (suc i) xs ys (omega arith))
  where
    by : (t : Bool) → length (kept numbers (suc i) xs) ≡ length (kept numbers (suc i) ys)
        → length (cond t (kept numbers (suc i) xs) (x ∷ kept numbers (suc i) xs))
        ≡ length (cond t (kept numbers (suc i) ys) (y ∷ kept numbers (suc i) ys))
    by true h = h
    by false h = ap suc h

-- a test that all pass is passed by all that are kept
kept_pass : {A : Type 0} (p : A → Bool) (numbers : List ℕ) (i : ℕ) (xs : List A) → all p xs ≡ true → all p (kept numbers i xs) ≡ true
unfolding kept all
kept_pass p numbers i [] h = refl
kept_pass p numbers i (x ∷ xs) h = by (any (eqb i) numbers) (p x) refl h (kept_pass p numbers (suc i) xs)
  where
    by : (t u : Bool) → p x ≡ u → (u && all p xs) ≡ true → (all p xs ≡ true → all p (kept numbers (suc i) xs) ≡ true)
        → all p (cond t (kept numbers (suc i) xs) (x ∷ kept numbers (suc i) xs)) ≡ true
    by true true e h rest = rest h
    by false true e h rest = rw (e, rest h)
    by t false e h rest = absurd (false≢true h)

-- ---- THE CLAIMS, for a book without the faults 1 to 4

module _ (b : List ℕ) (sound : Sound 1 b) (list : List ℕ) where
  -- "the kept rules in their order"
  abbrev left : List (Rule Atom)
  left = kept list 0 (rules_of atoms b)

  -- are those that are read of the shorter book
  pub removed_rules : rules_of atoms (removed_book b list) ≡ kept list 0 (rules_of atoms b)
  unfolding removed_book
  removed_rules = read_back b sound left

  -- a rule that was as it must be is so there
  fine : (r : Rule Atom) → RuleFine AtomFine 1 b r → RuleFine AtomFine 1 (rebuilt b left) r
  fine r h =
      let ex = exist b sound left in
      record {
        trigger = ⊎_elim (λ q. inl q) (λ q. inr (ex _ _ q)) h.trigger;
        some = h.some;
        few = h.few;
        alternatives =
            all-to (AlternativeFine AtomFine 1 b _) (AlternativeFine AtomFine 1 (rebuilt b left) _)
            (λ a q. record {
              few_names = q.few_names;
              few_asks = q.few_asks;
              names = all-to (NameFine 1 b) (NameFine 1 (rebuilt b left)) (λ n. ex n.variable n.value) a.names q.names;
              asks = q.asks;
            })
            r.alternatives h.alternatives;
      }

  limits : Limits b sound left
  unfolding removed_book
  limits =
      let c = counts sound in
      let f = fewer list 0 (rules_of atoms b) in
      let few = sound.header.few in
      let short = removed_short b sound list in
      record {
        few = omega (arith, few 2 (omega arith));
        alternatives = omega (arith, few 3 (omega arith));
        names = omega (arith, few 4 (omega arith));
        asks = omega (arith, few 5 (omega arith));
        short = omega (arith, sound.short);
      }

  -- "The result is a sound book"
  pub removed_sound : Sound 1 (removed_book b list)
  unfolding removed_book
  removed_sound =
      rebuilt_sound b sound left limits
      (all-to (RuleFine AtomFine 1 b) (RuleFine AtomFine 1 (rebuilt b left)) fine left
      (kept-all list (RuleFine AtomFine 1 b) 0 (rules_of atoms b) (book_rules sound)))

  -- so it passes 1 to 4
  pub removed_good : book_fault 1 (removed_book b list) ≡ no_fault
  removed_good = good_back 1 (removed_book b list) (sound_back 1 (removed_book b list) removed_sound)

  same_variables : SameVariables (removed_book b list) b
  unfolding removed_book rebuilt book_of
  same_variables =
      record {
        variables = refl;
        values = λ v l. variable_kept b sound left v 1 l (omega arith);
        value = λ v x l k j m.
            rw (variable_kept b sound left v 0 l (omega arith))
            (value_kept b sound left (field 1 b 0 v 0 + x) j
            (in_range (sound.variables v l) x (rw (variable_kept b sound left v 1 l (omega arith)) at k)) m);
      }

  first-same : (v : ℕ) → v < count b 0 → word (removed_book b list) (record_at 1 (removed_book b list) 0 v) ≡ word b (record_at 1 b 0 v)
  unfolding removed_book
  first-same v l = sym (first_word 1 (rebuilt b left) 0 v) ∙ variable_kept b sound left v 0 l (omega arith) ∙ first_word 1 b 0 v

  many_same : (v : ℕ) → v < count b 0 → word (removed_book b list) (record_at 1 (removed_book b list) 0 v + 1) ≡ field 1 b 0 v 1
  unfolding removed_book
  many_same v l = variable_kept b sound left v 1 l (omega arith)

  -- the record of a value, and of a variable, is as it was
  value_same : (i : ℕ) → i < count b 1 → value_at (removed_book b list) (record_at 1 (removed_book b list) 1 i) ≡ value_at b (record_at 1 b 1 i)
  unfolding removed_book value_at
  value_same i l =
      let kept = value_kept b sound left i in
      let first = sym (first_word 1 (rebuilt b left) 1 i) ∙ kept 0 l (omega arith) ∙ first_word 1 b 1 i in
      λ t. record { least = first t; greatest = kept 1 l (omega arith) t; successors = kept 2 l (omega arith) t }

  variable_same : (v : ℕ) → v < count b 0 → variable_at (removed_book b list) (record_at 1 (removed_book b list) 0 v) ≡ variable_at b (record_at 1 b 0 v)
  unfolding variable_at
  variable_same v l =
      let c : List ℕ = removed_book b list in
      let x : ℕ = word b (record_at 1 b 0 v) in
      let first : word c (record_at 1 c 0 v) ≡ x = first-same v l in
      let many : word c (record_at 1 c 0 v + 1) ≡ field 1 b 0 v 1 = many_same v l in
      let place : (o k : ℕ) → o + 3 * x + k * 3 ≡ o + (x + k) * 3 = λ o k. omega arith in
      rw (first, many)
      (ap (λ (vs : List Value). record { values = vs })
      (run_on (value_at c) (value_at b) 3 (field 1 b 0 v 1) (offset c 1 + 3 * x) (offset b 1 + 3 * x)
      (λ k h. rw (place (offset c 1) k, place (offset b 1) k)
      (value_same (x + k) (omega (arith, in_range (sound.variables v l) k h, first_word 1 b 0 v))))))

  -- variables and values are as they were
  pub removed_variables : variables_of (removed_book b list) ≡ variables_of b
  unfolding variables_of
  removed_variables =
      let c : List ℕ = removed_book b list in
      ap (λ (n : ℕ). run (variable_at c) 2 n (offset c 0)) same_variables.variables
      ∙ run_on (variable_at c) (variable_at b) 2 (count b 0) (offset c 0) (offset b 0) variable_same

  -- ---- judging by it

  -- a plan's answer is that of the book, with the kept rules alone
  pub removed_judged : (p : List ℕ)
      → judged (removed_book b list) p ≡ or_else (book_fault 1 b) (or_else (plan_fault b p) (rules_fault atom_holds (line_of p) left))
  unfolding judged
  removed_judged p = rw (removed_good, good_back 1 b (sound_back 1 b sound), plan_same (removed_book b list) b same_variables p, removed_rules)

  -- the judge settles each kept rule, as it does each rule
  abbrev Settled : List ℕ → Rule Atom → Type 0
  Settled p r = Settles atom_holds (line_of p) r (Satisfies (SatisfiedIn (line_of p)) (line_of p) r) (Fails (line_of p) r (Met (SatisfiedIn (line_of p)) (line_of p) r))

  settled : (p : List ℕ) → Sound 1 b → Plan (variables_of b) (line_of p) → All (Settled p) left
  settled p s plan = kept-all list (Settled p) 0 (rules_of atoms b) (book_settles (line_of p) s plan)

  -- "A plan passes the shorter book exactly if it passes 1 to 11 and 18 and meets each kept rule"
  pub removed_accepted : (p : List ℕ) → ((judged (removed_book b list) p).number ≡ 0) ↔ Solution 1 b p left (Satisfies (SatisfiedIn (line_of p)) (line_of p))
  removed_accepted p = rw (removed_judged p) (solution atom_holds _ _ left 1 b p (settled p))

  -- and then it counts the trigger tokens of the kept rules
  pub removed_count : (p : List ℕ) (n : ℕ)
      → (judged (removed_book b list) p ≡ numbers 0 n 0) ↔ (Solution 1 b p left (Satisfies (SatisfiedIn (line_of p)) (line_of p)) × Examined (line_of p) left n)
  removed_count p n = rw (removed_judged p) (solution_count atom_holds _ _ left 1 b p (settled p) n)

  -- ---- the desk list

  -- as many rules as the header says
  pub rules_counted : count (removed_book b list) 2 ≡ length (kept list 0 (rules_of atoms b))
  unfolding removed_book rebuilt book_of
  rules_counted = refl

  -- "L5's desk list is closed up alike": what is kept of it is a right list of the shorter book
  pub removed_desks : (d : List ℕ) → list_right b d ≡ true → list_right (removed_book b list) (kept list 0 d) ≡ true
  unfolding list_right
  removed_desks d h = by (eqb (length d) (count b 2)) refl h
    where
      many : length d ≡ count b 2 → length (kept list 0 d) ≡ count (removed_book b list) 2
      many e = kept-long list 0 d (rules_of atoms b) (e ∙ sym (counts sound).rules) ∙ sym rules_counted

      by : (t : Bool) → eqb (length d) (count b 2) ≡ t → (t && all (λ w. leb w 1) d) ≡ true
          → (eqb (length (kept list 0 d)) (count (removed_book b list) 2) && all (λ w. leb w 1) (kept list 0 d)) ≡ true
      by true e q = rw (eq-eqb _ _ (many (eqb-true _ _ e)), kept_pass (λ w. leb w 1) list 0 d q)
      by false e q = absurd (false≢true q)
