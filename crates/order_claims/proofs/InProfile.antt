-- Which books are in the profile, in plain numbers; that every translated book is; and what that says of the decoded rules. Assumes nothing.
use mathlib.Core.Path.{◌≡◌, refl, ap}
use mathlib.Core.Bool.{Bool, true, false, ◌&&◌, ◌||◌, false≢true}
use mathlib.Core.Logic.{◌↔◌, ◌⊎◌, inl, inr, ⊎_elim}
use mathlib.Core.List.{List, [], ◌∷◌, map, flat_map}
use Prim.Native.Nat.{ℕ, ◌+◌, ◌*◌, ◌<◌}
use native.Mathlib.Omega.{arith}
use lib.Dec.{eqb}
use lib.ListN.{length}
use borrow.Author.Tests.{eqb-true, eqb-false, eq-eqb, ne_eqb}
use Rattle.answers.specs.declared.Numbers.{Numbers}
use Rattle.words.specs.Lists.{all, All}
use Rattle.words.proofs.Lists.{all_get}
use Rattle.words.specs.Runs.{run}
use Rattle.words.proofs.Runs.{run_back}
use Rattle.clock.specs.Clock.{no_limit}
use Rattle.layout.specs.Layout.{fifth_width, count, offset}
use Rattle.book.specs.Rules.{Atom, Constraint, Alternative, Rule, atom_at, rules_of}
use Rattle.book.specs.Encode.{atoms, constraints, atom_words, alts_of, asks_of, book_of}
use Rattle.book.specs.Fault.{book_fault}
use Rattle.book.specs.Sound.{Sound}
use Rattle.book.proofs.Back.{atoms-kept}
use Rattle.book.proofs.Inside.{alternative_ranges, name_ranges, ask_ranges}
use Rattle.choice.proofs.Exists.{and_both}
use Rattle.allen.specs.Atoms.{relations, atoms_of}
use Rattle.listing.specs.Expand.{choices, atoms_for, expand, translate}
use Rattle.translator.specs.Translation.{rules_for, translated, translation}
use Rattle.claims.specs.Decoded.{NameFine, AlternativeFine, RuleFine}
use Rattle.claims.proofs.Decoded.{rules_fine}
use Rattle.claims.specs.Expansion.{NameBelow}
use Rattle.claims.proofs.FaultsOfTables.{book_none}
use Rattle.claims.proofs.Translated.{says}
use Rattle.claims.proofs.TranslatedGood.{translated_good}
use Rattle.claims.proofs.Taken.{taken}
use Rattle.claims.proofs.Laws.{all-to, all_both, all_map, all_each, all_flat, run-all}
use Rattle.order.specs.Profile.{timeless, order_bounds, order_atom, all_order, order_only}
use Rattle.order_claims.proofs.Bounds.{or_one, timeless_kinds}
use Rattle.order_claims.specs.Alike.{AtomOrder, AlternativeOrder, RuleOrder}
use Rattle.order_claims.specs.InProfile.{OfOrder, InProfile}

timeless_so : (kind : ℕ) → (kind ≡ 2 → ⊥) → (kind ≡ 3 → ⊥) → timeless kind ≡ true
unfolding timeless
timeless_so kind h k = rw (ne_eqb kind 2 h, ne_eqb kind 3 k)

-- the two numbers are these
both_iff : (l u x y : ℕ) → ((eqb l x && eqb u y) ≡ true) ↔ ((l ≡ x) × (u ≡ y))
both_iff l u x y = (
  λ h. let q = and_both (eqb l x) (eqb u y) h in (eqb-true _ _ q.0, eqb-true _ _ q.1),
  λ h. rw (eq-eqb l x h.0, eq-eqb u y h.1),
)

or_so : (a b : Bool) → (a ≡ true) ⊎ (b ≡ true) → (a || b) ≡ true
or_so true b h = refl
or_so false b h = ⊎_elim (λ q. absurd (false≢true q)) (λ q. q) h

bounds_iff : (l u : ℕ)
    → (order_bounds l u ≡ true) ↔ (((l ≡ 0) × (u ≡ no_limit)) ⊎ (((l ≡ 1) × (u ≡ no_limit)) ⊎ ((l ≡ 0) × (u ≡ 0))))
unfolding order_bounds
bounds_iff l u = (
  λ h. ⊎_elim
      (λ h. ⊎_elim (λ q. inl ((both_iff l u 0 no_limit).0 q)) (λ q. inr (inl ((both_iff l u 1 no_limit).0 q))) (or_one _ _ h))
      (λ q. inr (inr ((both_iff l u 0 0).0 q))) (or_one _ _ h),
  λ h.
      let a : Bool = eqb l 0 && eqb u no_limit in
      let b : Bool = eqb l 1 && eqb u no_limit in
      or_so (a || b) (eqb l 0 && eqb u 0)
      (⊎_elim (λ q. inl (or_so a b (inl ((both_iff l u 0 no_limit).1 q))))
      (λ h. ⊎_elim (λ q. inl (or_so a b (inr ((both_iff l u 1 no_limit).1 q)))) (λ q. inr ((both_iff l u 0 0).1 q)) h) h),
)

-- an atom passes the test exactly if it is such
pub atom_iff : (a : Atom) → (order_atom a ≡ true) ↔ OfOrder a
unfolding order_atom
atom_iff a = (
  λ h.
      let q = and_both (timeless a.left_kind && timeless a.right_kind) (order_bounds a.lower a.upper) h in
      let k = and_both (timeless a.left_kind) (timeless a.right_kind) q.0 in
      record { left = timeless_kinds _ k.0; right = timeless_kinds _ k.1; bounds = (bounds_iff _ _).0 q.1 },
  λ h.
      rw (
        timeless_so a.left_kind h.left.0 h.left.1,
        timeless_so a.right_kind h.right.0 h.right.1,
        (bounds_iff a.lower a.upper).1 h.bounds,
      ),
)

-- a test that every element passes
all_iff : {A : Type 0} (p : A → Bool) (xs : List A) → (all p xs ≡ true) ↔ All (λ x. p x ≡ true) xs
unfolding all
all_iff p [] = (λ h. tt, λ h. refl)
all_iff p (x ∷ xs) = (
  λ h. let q = and_both (p x) (all p xs) h in (q.0, (all_iff p xs).0 q.1),
  λ h. rw (h.0, (all_iff p xs).1 h.1),
)

-- every atom of table 5 is such
order_iff : (b : List ℕ) → (all_order b ≡ true) ↔ ((i : ℕ) → i < count b 5 → order_atom (atom_at b (offset b 5 + i * 6)) ≡ true)
unfolding all_order
order_iff b =
    let r = run-all (λ a. order_atom a ≡ true) (atom_at b) 6 (count b 5) (offset b 5) in
    let a = all_iff order_atom (run (atom_at b) 6 (count b 5) (offset b 5)) in
    (λ h. r.0 (a.0 h), λ h. a.1 (r.1 h))

-- THE CLAIM: the answer is yes exactly for such books
pub profile_iff : (b : List ℕ) → (order_only b ≡ true) ↔ InProfile b
unfolding order_only
profile_iff b = (
  λ h.
      let q = and_both (eqb (book_fault 1 b).number 0) (all_order b) h in
      record { passes = eqb-true _ _ q.0; atoms = λ i l. (atom_iff _).0 ((order_iff b).0 q.1 i l) },
  λ h. rw (eq-eqb _ _ h.passes, (order_iff b).1 (λ i l. (atom_iff _).1 (h.atoms i l))),
)

pub profile_order : (b : List ℕ) → order_only b ≡ true → all_order b ≡ true
unfolding order_only
profile_order b h = (and_both (eqb (book_fault 1 b).number 0) (all_order b) h).1

-- ---- the decoded rules of a book in the profile

pub profile_rules : (b : List ℕ) → Sound 1 b → all_order b ≡ true → All (RuleOrder (count b 0)) (rules_of atoms b)
unfolding atom_at fifth_width
profile_rules b h o =
    all-to (RuleFine AtomOrder 1 b) (RuleOrder (count b 0)) rule (rules_of atoms b)
    ((rules_fine atoms AtomOrder 1 b (alternative_ranges h) (name_ranges h) (ask_ranges h)).1
    (record {
      trigger = λ i l. (h.rules i l).trigger;
      some = λ i l. (h.rules i l).alternatives.some;
      few = λ i l. (h.rules i l).alternatives.few;
      few_names = λ i l. (h.alternatives i l).names.few;
      few_asks = λ i l. (h.alternatives i l).asks.few;
      names = h.names;
      asks = λ i l.
          let a = h.atoms (λ e. omega arith) i l in
          record { fine = record { left = a.left; right = a.right; bounds = a.bounds; jobs = a.jobs }; order = (order_iff b).0 o i l };
    }))
  where
    alternative : (trigger : Bool) (a : Alternative Atom) → AlternativeFine AtomOrder 1 b trigger a → AlternativeOrder (count b 0) trigger a
    alternative trigger a f =
        record {
          few = f.few_names;
          names = all-to (NameFine 1 b) (NameBelow (count b 0)) (λ n q. q.variable) a.names f.names;
          asks = f.asks;
        }

    rule : (r : Rule Atom) → RuleFine AtomOrder 1 b r → RuleOrder (count b 0) r
    rule r f =
        record {
          trigger = λ e. ⊎_elim (λ q. absurd (eqb-false _ _ e q.0)) (λ q. q.variable) f.trigger;
          alternatives =
              all-to (AlternativeFine AtomOrder 1 b _) (AlternativeOrder (count b 0) _) (alternative _) r.alternatives f.alternatives;
        }

-- ---- every translated book is in the profile

abbrev Passes : Atom → Type 0
Passes a = order_atom a ≡ true

-- the atoms of each of the thirteen relations
relations_order : (l r : ℕ) → All (All Passes) (relations l r)
unfolding order_atom timeless order_bounds
relations_order l r = search tt depth 40 fits 5000

atoms_order : (qs : List Constraint) (ks : List ℕ) → All Passes (atoms_for qs ks)
unfolding atoms_for atoms_of
atoms_order [] ks = tt
atoms_order (q ∷ qs) [] = tt
atoms_order (q ∷ qs) (k ∷ ks) =
    all_both Passes (atoms_of k q.left q.right) (atoms_for qs ks)
    (all_get (All Passes) [] tt (relations q.left q.right) k (relations_order q.left q.right)) (atoms_order qs ks)

-- and of all that a sheet's rules become
alternatives_order : (rules : List (Rule Constraint)) → All (λ (a : Alternative Atom). All Passes a.asks) (alts_of (map translate rules))
unfolding translate expand flat_map
alternatives_order [] = tt
alternatives_order (r ∷ rules) =
    all_both _ (flat_map expand r.alternatives) (alts_of (map translate rules))
    (all_flat (λ a. Unit) _ expand (λ a u. all_map _ _ (λ ks. atoms_order a.asks ks) (choices a.asks)) r.alternatives
    (all_each _ (λ a. tt) r.alternatives))
    (alternatives_order rules)

-- table 5 of the book that a sheet becomes holds them
table_five : (s : List ℕ) → Sound 2 s
    → run (atom_at (translated s)) 6 (count (translated s) 5) (offset (translated s) 5) ≡ asks_of (alts_of (rules_for s))
table_five s sound =
    rw many
    (run_back (translated s) 6 (atom_at (translated s)) atom_words (λ a. refl) (atoms-kept.back (translated s)) _ _ (says s sound).table5)
  where
    many : count (translated s) 5 ≡ length (asks_of (alts_of (rules_for s)))
    many = unfold translated book_of in refl

-- THE CLAIM: "Every translated book belongs to the profile"
pub translated_profile : (s : List ℕ) (room : ℕ) → (translation s room).number ≡ 0 → order_only (translated s) ≡ true
unfolding order_only all_order rules_for
translated_profile s room h =
    let good = ap (λ (n : Numbers). n.number) (translated_good s room h) in
    let all = alternatives_order (rules_of constraints s) in
    rw (eq-eqb _ _ good, table_five s ((book_none 2 s).0 ((taken s room).0 h).0))
    ((all_iff order_atom (asks_of (alts_of (rules_for s)))).1
    (all_flat (λ (a : Alternative Atom). All Passes a.asks) Passes (λ (a : Alternative Atom). a.asks) (λ a p. p) (alts_of (rules_for s)) all))
