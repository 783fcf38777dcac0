-- The rules that a good sheet's rules become are as a book's rules must be, but for the limit 13, which is asked for. Assumes nothing.
use mathlib.Core.Path.{◌≡◌, refl}
use mathlib.Core.Bool.{Bool, true, false, cond}
use mathlib.Core.Logic.{⊎_elim, inl, inr}
use mathlib.Core.List.{List, [], ◌∷◌, flat_map}
use Prim.Native.Nat.{ℕ, zero, suc, ◌+◌, ◌*◌, ◌/◌, ◌%◌, ◌^◌, ◌≤◌, ◌<◌}
use native.Mathlib.Nat.{pow-succ', div-lt_iff_lt-mul, one-le-pow, one-mul}
use native.Mathlib.Omega.{arith}
use lib.ListN.{length, length-append, length-map}
use borrow.Author.Tests.{eqb-false}
use Rattle.words.specs.Words.{in_set}
use Rattle.words.specs.Lists.{All}
use Rattle.words.proofs.Lists.{all_get}
use Rattle.words.specs.Least.{Clear}
use Rattle.words.specs.Runs.{run}
use Rattle.clock.specs.Clock.{no_limit}
use Rattle.layout.specs.Layout.{fifth_most}
use Rattle.book.specs.Rules.{Constraint, Alternative, Rule}
use Rattle.book.specs.Sound.{Exist, TokenSound, TermSound, JobSound}
use Rattle.allen.specs.Relation.{thirteen}
use Rattle.allen.specs.Atoms.{Term, start, end, ◌<·◌, ◌=·◌, relations, atoms_of}
use Rattle.listing.specs.Expand.{keep, relations_in, choices, atoms_for, expand, translate}
use Rattle.claims.specs.Decoded.{NameFine, TriggerFine, AlternativeFine, RuleFine, ConstraintFine}
use Rattle.claims.proofs.FewAtoms.{atoms_few}
use Rattle.claims.proofs.Laws.{all-to, all_both, all_each, all_map, all_flat, run-all}
use Rattle.claims.specs.TranslatedRules.{AtomFine}

-- ---- the atoms of a relation

module _ (n : ℕ) (trigger : Bool) where
  -- start and end of a token that exists exist, and are times
  record TermFine (p : Term) : Type 0 where
    term : TermSound n trigger p.kind p.token
    times : p.kind < 2

  time_fine : (kind k : ℕ) → kind < 2 → TokenSound n trigger k → TermSound n trigger kind k
  time_fine kind k l h =
      record {
        kinds = omega arith;
        point = λ e. absurd (omega arith);
        last = λ e. absurd (omega arith);
        token = λ _. h;
        job = λ e. absurd (omega arith);
      }

  start_fine : (k : ℕ) → TokenSound n trigger k → TermFine (start k)
  start_fine k h = record { term = time_fine 0 k (omega arith) h; times = omega arith }

  end_fine : (k : ℕ) → TokenSound n trigger k → TermFine (end k)
  end_fine k h = record { term = time_fine 1 k (omega arith) h; times = omega arith }

  -- so no atom of them is one of jobs
  no_jobs : {p q : Term} → TermFine p → TermFine q → (lower upper : ℕ) → JobSound p.kind q.kind lower upper
  no_jobs h k lower upper =
      record {
        both = λ e. absurd (omega (arith, h.times));
        back = λ e. absurd (omega (arith, k.times));
        low = λ e. absurd (omega (arith, h.times));
        high = λ e. absurd (omega (arith, h.times));
      }

  less_fine : (p q : Term) → TermFine p → TermFine q → AtomFine n trigger (p <· q)
  less_fine p q h k =
      record {
        left = h.term;
        right = k.term;
        bounds = record { from = omega arith; tick = omega arith; order = omega arith; limit = inr refl };
        jobs = no_jobs h k 1 no_limit;
      }

  equal_fine : (p q : Term) → TermFine p → TermFine q → AtomFine n trigger (p =· q)
  equal_fine p q h k =
      record {
        left = h.term;
        right = k.term;
        bounds = record { from = omega arith; tick = omega arith; order = omega arith; limit = inl (omega arith) };
        jobs = no_jobs h k 0 0;
      }

  -- the atoms of all thirteen relations of two tokens that exist
  relations_fine : (l r : ℕ) → TokenSound n trigger l → TokenSound n trigger r → All (All (AtomFine n trigger)) (relations l r)
  relations_fine l r hl hr =
      let s = start_fine l hl in
      let e = end_fine l hl in
      let s' = start_fine r hr in
      let e' = end_fine r hr in
      search (less_fine, equal_fine, tt) depth 40 fits 5000

  -- and of a choice of relations, whatever their numbers
  atoms_fine : (qs : List Constraint) → All (ConstraintFine n trigger) qs → (ks : List ℕ) → All (AtomFine n trigger) (atoms_for qs ks)
  unfolding atoms_for atoms_of
  atoms_fine [] h ks = tt
  atoms_fine (q ∷ qs) h [] = tt
  atoms_fine (q ∷ qs) h (k ∷ ks) =
      all_both _ (atoms_of k q.left q.right) (atoms_for qs ks)
      (all_get (All (AtomFine n trigger)) [] tt (relations q.left q.right) k (relations_fine q.left q.right h.0.left h.0.right))
      (atoms_fine qs h.1 ks)

-- ---- no set is empty

-- a number below 2^k + 2^k without the bit k is below 2^k
no_bit : (set k : ℕ) → set < 2 ^ suc k → in_set set k ≡ false → set < 2 ^ k
unfolding in_set
no_bit set k l h =
    let pos : 0 < 2 ^ k = one-le-pow k 2 (omega arith) in
    let two : set < 2 * 2 ^ k = rw (← pow-succ' 2 k) l in
    let below : set / 2 ^ k < 2 = (div-lt_iff_lt-mul pos).1 two in
    let zero : set / 2 ^ k < 1 = omega (arith, eqb-false (set / 2 ^ k % 2) 1 h) in
    rw one-mul at ((div-lt_iff_lt-mul pos).0 zero)

-- so one without any is 0
no_bits : (set k : ℕ) → 1 ≤ set → set < 2 ^ k → Clear (in_set set) k → ⊥
no_bits set zero some l h = omega arith
no_bits set (suc k) some l h = no_bits set k some (no_bit set k l (h k (omega arith))) (λ i m. h i (omega arith))

-- where nothing is kept, nothing passes
kept-none : (p : ℕ → Bool) (ks : List ℕ) → length (keep p ks) ≡ 0 → All (λ k. p k ≡ false) ks
unfolding keep
kept-none p [] h = tt
kept-none p (k ∷ ks) h = step (p k) refl h (kept-none p ks)
  where
    step : (t : Bool) → p k ≡ t → length (cond t (k ∷ keep p ks) (keep p ks)) ≡ 0
        → (length (keep p ks) ≡ 0 → All (λ k. p k ≡ false) ks) → All (λ k. p k ≡ false) (k ∷ ks)
    step true e z rest = absurd (omega arith)
    step false e z rest = (e, rest z)

-- a set of 1..8,191 has one of the thirteen
some_relation : (set : ℕ) → 1 ≤ set → set ≤ 8191 → 1 ≤ length (relations_in set)
unfolding relations_in run
some_relation set some l =
    let none : length (relations_in set) ≡ 0 → ⊥ = λ e.
    let clear = (run-all (λ k. in_set set k ≡ false) (λ k. k) 1 13 0).0 (kept-none (in_set set) thirteen e) in
    no_bits set 13 some (omega arith) (λ k m. let same : 0 + k * 1 ≡ k = omega arith in rw same at (clear k m)) in
    omega arith

-- one element at least, of each of which one at least is made
some_flat : {A B : Type 0} (f : A → List B) (xs : List A) → 1 ≤ length xs → All (λ x. 1 ≤ length (f x)) xs → 1 ≤ length (flat_map f xs)
unfolding flat_map
some_flat f [] l h = l
some_flat f (x ∷ xs) l h = rw (length-append (f x) (flat_map f xs)) (omega arith)

-- so there is a choice
some-choice : (n : ℕ) (trigger : Bool) (qs : List Constraint) → All (ConstraintFine n trigger) qs → 1 ≤ length (choices qs)
unfolding choices
some-choice n trigger [] h = omega arith
some-choice n trigger (q ∷ qs) h =
    let rest = some-choice n trigger qs h.1 in
    some_flat _ (relations_in q.set) (some_relation q.set h.0.some h.0.set) (all_each _ (λ k. simp length-map rest) (relations_in q.set))

-- ---- THE LAW: a sheet's rule that is as it must be becomes a book's rule that is, within the limit 13

module _ (s b : List ℕ) (exist : (v x : ℕ) → Exist 2 s v x → Exist 1 b v x) where
  trigger_same : (v x : ℕ) → TriggerFine 2 s v x → TriggerFine 1 b v x
  trigger_same v x h = ⊎_elim (λ q. inl q) (λ q. inr (exist v x q)) h

  -- each alternative that one becomes
  expand_fine : (trigger : Bool) (a : Alternative Constraint) → AlternativeFine ConstraintFine 2 s trigger a
      → All (AlternativeFine AtomFine 1 b trigger) (expand a)
  unfolding expand fifth_most
  expand_fine trigger a h =
      all_map _ _
      (λ ks. record {
        few_names = h.few_names;
        few_asks = omega (arith, atoms_few a.asks ks, h.few_asks);
        names = all-to (NameFine 2 s) (NameFine 1 b) (λ n. exist n.variable n.value) a.names h.names;
        asks = atoms_fine _ trigger a.asks h.asks ks;
      })
      (choices a.asks)

  -- there is one at least
  expand-some : {trigger : Bool} (a : Alternative Constraint) → AlternativeFine ConstraintFine 2 s trigger a → 1 ≤ length (expand a)
  unfolding expand
  expand-some {trigger} a h = simp length-map (some-choice _ trigger a.asks h.asks)

  pub translate_fine : (r : Rule Constraint) → RuleFine ConstraintFine 2 s r → length (translate r).alternatives ≤ 64 → RuleFine AtomFine 1 b (translate r)
  unfolding translate
  translate_fine r h few =
      record {
        trigger = trigger_same _ _ h.trigger;
        some =
            some_flat expand r.alternatives h.some
            (all-to (AlternativeFine ConstraintFine 2 s _) (λ a. 1 ≤ length (expand a)) expand-some r.alternatives h.alternatives);
        few = few;
        alternatives =
            all_flat (AlternativeFine ConstraintFine 2 s _) _ expand (expand_fine _) r.alternatives h.alternatives;
      }
