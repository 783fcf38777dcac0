-- Of a sound book the alternatives of all rules, one behind another, are table 3, their names table 4, and what they ask table 5: so it has as
-- many as the header says. Assumes nothing.
use mathlib.Core.Path.{◌≡◌, refl, sym, ap, ◌∙◌}
use mathlib.Core.List.{List, ◌++◌, flat_map}
use Prim.Native.Nat.{ℕ, zero, suc, ◌+◌, ◌-◌, ◌*◌}
use native.Mathlib.Nat.{add-zero, zero-add, mul-zero, mul-suc, mul-add, suc-mul, zero-mul}
use native.Mathlib.Omega.{arith}
use lib.ListN.{length}
use Rattle.words.specs.Words.{word}
use Rattle.words.specs.Runs.{run}
use Rattle.words.proofs.Runs.{length_run}
use Rattle.layout.specs.Layout.{width, count, offset, record_at, field, starts}
use Rattle.book.specs.Rules.{Atom, Alternative, Rule, name_at, atom_at, alternative_at, rule_at, rules_of}
use Rattle.book.specs.Encode.{atoms, alts_of, names_of, asks_of}
use Rattle.book.specs.Sound.{Sound}
use Rattle.book.proofs.Inside.{Ranges, starts-next, ends_inside, alternative_ranges, name_ranges, ask_ranges}

-- a run of m records and one of n behind it are one run
pub run_join : {A : Type 0} (f : ℕ → A) (w m n at : ℕ) → run f w m at ++ run f w n (at + w * m) ≡ run f w (m + n) at
unfolding run
run_join f w zero n at = rw (mul-zero, add-zero) (ap (λ (k : ℕ). run f w k at) (sym (zero-add n)))
run_join f w (suc m) n at =
    let k : at + w * suc m ≡ at + w + w * m = omega (arith, mul-suc w m) in
    let size : suc (m + n) ≡ suc m + n = omega arith in
    rw (k, ← size) (rw (run_join f w m n (at + w)))

module _ {A X : Type 0} {e : ℕ} {b : List ℕ} {t j into : ℕ} (r : Ranges e b t j into) (rec : ℕ → A) (part : A → List X) (f : ℕ → X) (w off : ℕ)
    (says : (k : ℕ) → part (rec k) ≡ run f w (word b (k + (j + 1))) (off + w * word b (k + j))) where
  -- the parts of the records from number i on
  from : (n i m : ℕ) → i + n ≡ count b t → starts e b t j i + m ≡ count b into
      → flat_map part (run rec (width e t) n (record_at e b t i)) ≡ run f w m (off + w * starts e b t j i)
  unfolding run flat_map
  from zero i m h k =
      let last : i ≡ count b t = omega arith in
      let none : m ≡ 0 = omega (arith, r.used, ap (starts e b t j) last) in
      rw none refl
  from (suc n) i m h k =
      let here : ℕ = field e b t i (j + 1) in
      let inside = ends_inside r i (omega arith) in
      let follows = r.follows i (omega arith) in
      let next = starts-next e b t j i in
      let at : record_at e b t i + width e t ≡ record_at e b t (suc i) = omega (arith, suc-mul i (width e t)) in
      let rest = from n (suc i) (m - here) (omega arith) (omega (arith, inside, follows, next)) in
      let place : off + w * starts e b t j (suc i) ≡ off + w * starts e b t j i + w * here =
      omega (arith, ap (λ (x : ℕ). w * x) (next ∙ ap (λ (x : ℕ). x + here) follows), mul-add w (starts e b t j i) here) in
      let size : here + (m - here) ≡ m = omega (arith, inside, follows) in
      rw (at, rest, says (record_at e b t i), follows, place)
      (run_join f w here (m - here) (off + w * starts e b t j i) ∙ ap (λ (x : ℕ). run f w x (off + w * starts e b t j i)) size)

  -- of all
  pub joined : flat_map part (run rec (width e t) (count b t) (offset b t)) ≡ run f w (count b into) off
  unfolding starts
  joined =
      let first : offset b t ≡ record_at e b t 0 = omega (arith, zero-mul (width e t)) in
      let place : off + w * starts e b t j 0 ≡ off = omega (arith, mul-zero w) in
      rw first (from (count b t) 0 (count b into) (omega arith) (omega arith) ∙ ap (λ (x : ℕ). run f w (count b into) x) place)

module _ {b : List ℕ} (s : Sound 1 b) where
  pub alternatives_all : alts_of (rules_of atoms b) ≡ run (alternative_at atoms b) 4 (count b 3) (offset b 3)
  unfolding rules_of rule_at
  alternatives_all =
      joined (alternative_ranges s) (rule_at atoms b) (λ (r : Rule Atom). r.alternatives) (alternative_at atoms b) 4 (offset b 3) (λ k. refl)

  pub names-all : names_of (alts_of (rules_of atoms b)) ≡ run (name_at b) 2 (count b 4) (offset b 4)
  unfolding alternative_at
  names-all =
      ap names_of alternatives_all
      ∙ joined (name_ranges s) (alternative_at atoms b) (λ (a : Alternative Atom). a.names) (name_at b) 2 (offset b 4) (λ k. rw add-zero refl)

  pub asks-all : asks_of (alts_of (rules_of atoms b)) ≡ run (atom_at b) 6 (count b 5) (offset b 5)
  unfolding alternative_at
  asks-all =
      ap asks_of alternatives_all
      ∙ joined (ask_ranges s) (alternative_at atoms b) (λ (a : Alternative Atom). a.asks) (atom_at b) 6 (offset b 5) (λ k. refl)

  -- so the header's counts are those of the decoded rules
  pub record Counts : Type 0 where
    pub rules : length (rules_of atoms b) ≡ count b 2
    pub alternatives : length (alts_of (rules_of atoms b)) ≡ count b 3
    pub names : length (names_of (alts_of (rules_of atoms b))) ≡ count b 4
    pub asks : length (asks_of (alts_of (rules_of atoms b))) ≡ count b 5

  pub counts : Counts
  unfolding rules_of
  counts =
      record {
        rules = length_run (rule_at atoms b) 4 (count b 2) (offset b 2);
        alternatives = ap length alternatives_all ∙ length_run (alternative_at atoms b) 4 (count b 3) (offset b 3);
        names = ap length names-all ∙ length_run (name_at b) 2 (count b 4) (offset b 4);
        asks = ap length asks-all ∙ length_run (atom_at b) 6 (count b 5) (offset b 5);
      }
