-- The search finds a trigger token met just where the papers' definitions say that it is: some statement of the rule, with some token
-- mapping, is satisfied. Whatever alternatives ask; for a book's atoms it asks for what is so of the rules of a sound book: at most four
-- names, and terms of the kinds 0 to 4, those of jobs on both sides or on neither. Assumes nothing.
use mathlib.Core.Path.{◌≡◌, refl, sym, ◌∙◌, subst}
use mathlib.Core.Bool.{Bool, true, false, ◌&&◌, ◌||◌, false≢true}
use mathlib.Core.Logic.{◌↔◌, inl, inr, ⊎_elim}
use mathlib.Core.List.{List, [], ◌∷◌}
use Prim.Native.Nat.{ℕ, zero, suc, ◌≤◌, ◌<◌}
use native.Mathlib.Decide.{ℕ_discrete}
use native.Mathlib.Omega.{arith}
use lib.IntN.{pos, sub_ℕ}
use lib.Signed.{le_z}
use lib.Dec.{eqb}
use lib.ListN.{length, get_or}
use borrow.Author.Tests.{eqb-true, eq-eqb, ne_eqb}
use Rattle.words.specs.Lists.{All}
use Rattle.clock.specs.Clock.{no_limit}
use Rattle.clock.proofs.Laws.{whole}
use Rattle.book.specs.Rules.{Atom, Alternative, Rule}
use Rattle.book.specs.Sound.{TermSound}
use Rattle.lines.specs.declared.Token.{Token}
use Rattle.lines.specs.Ends.{plan_end}
use Rattle.choice.specs.Met.{Choice, nobody, time_of, bounds_hold, atom_holds, met}
use Rattle.choice.specs.Exists as exists
use Rattle.choice.proofs.Exists.{met_iff as exists-met, choice_time, choice-job, choice-end}
use Rattle.claims.specs.Papers.{Evaluates, start, end, timestamp, end_of_plan, Bounded, Satisfied, SatisfiedIn, On, no_statement, Maps, Met}
use Rattle.claims.proofs.Laws.{all-to}
use Rattle.claims.specs.Decoded.{AlternativeFine, RuleFine}
use Rattle.claims.specs.TranslatedRules.{AtomFine}
use Rattle.claims.proofs.WrongTests.{or_so}
use Rattle.claims.specs.Matched.{Named}

-- both are so
pub and_so : (a c : Bool) → ((a && c) ≡ true) ↔ ((a ≡ true) × (c ≡ true))
and_so true c = (λ h. (refl, h), λ h. h.1)
and_so false c = (λ h. absurd (false≢true h), λ h. h.0)

-- ---- elements of a list, told by their numbers

module _ {A : Type 0} (P : A → Type 0) (d : A) where
  -- a fact of each element is a fact of each number
  pub all-at : (xs : List A) → All P xs ↔ ((i : ℕ) → i < length xs → P (get_or xs i d))
  all-at [] = (λ h i l. absurd (omega arith), λ h. tt)
  all-at (x ∷ xs) =
      let r = all-at xs in
      (λ h. elim [ zero ↦ λ l. h.0 | suc i ↦ λ l. r.0 h.1 i (omega arith) ], λ h. (h 0 (omega arith), r.1 (λ i l. h (suc i) (omega arith))))

-- what stands at a number does not depend on what would stand past the end
pub at-any : {A : Type 0} (xs : List A) (i : ℕ) (c d : A) → i < length xs → get_or xs i c ≡ get_or xs i d
at-any [] i c d l = absurd (omega arith)
at-any (x ∷ xs) zero c d l = refl
at-any (x ∷ xs) (suc i) c d l = at-any xs i c d (omega arith)

-- ---- terms and atoms

module _ (last : ℕ) (trigger : Token) (tokens : List Token) (few : length tokens ≤ 4) where
  -- the token mapping: the trigger's, then the names'
  abbrev mapping : List Token
  mapping = trigger ∷ tokens

  -- and the choice that the search has
  abbrev choice : Choice
  choice = exists.choice_of last trigger tokens

  -- the time of a term that may stand in a book, but for jobs, is its evaluation
  evaluates : {n : ℕ} {some : Bool} (kind k : ℕ) → (kind ≡ 4 → ⊥) → TermSound n some kind k → Evaluates last mapping kind k (time_of choice kind k)
  unfolding time_of
  evaluates zero k ne l = rw (choice_time last trigger tokens k few).0 (start k)
  evaluates (suc zero) k ne l = rw (choice_time last trigger tokens k few).1 (end k)
  evaluates (suc (suc zero)) k ne l = timestamp k
  evaluates (suc (suc (suc zero))) k ne l = rw (choice-end last trigger tokens few, l.last refl) end_of_plan
  evaluates (suc (suc (suc (suc n)))) k ne l = absurd (omega (arith, l.kinds))

  -- and there is no other
  evaluation : (kind k x : ℕ) → Evaluates last mapping kind k x → x ≡ time_of choice kind k
  unfolding time_of
  evaluation _ _ _ (start k) = sym (choice_time last trigger tokens k few).0
  evaluation _ _ _ (end k) = sym (choice_time last trigger tokens k few).1
  evaluation _ _ _ (timestamp k) = refl
  evaluation _ _ _ end_of_plan = sym (choice-end last trigger tokens few)

  -- an atom's times are within its bounds just where it says so
  bounds_iff : {n : ℕ} {some : Bool} (q : Atom) → AtomFine n some q → (q.left_kind ≡ 4 → ⊥) → (bounds_hold choice q ≡ true) ↔ Bounded last mapping q
  unfolding bounds_hold
  bounds_iff q fine ne =
      let c = choice in
      let l : ℕ = time_of c q.left_kind q.left in
      let r : ℕ = time_of c q.right_kind q.right in
      let w = whole no_limit l r q.lower q.upper in
      let a = and_so (le_z (pos q.lower) (sub_ℕ r l)) (eqb q.upper no_limit || le_z (sub_ℕ r l) (pos q.upper)) in
      let o = or_so (eqb q.upper no_limit) (le_z (sub_ℕ r l) (pos q.upper)) in (
        λ h.
            let s = a.0 (sym w ∙ h) in
            record {
              left = l;
              right = r;
              is_left = evaluates q.left_kind q.left ne fine.left;
              is_right = evaluates q.right_kind q.right (λ e. ne (fine.jobs.back e)) fine.right;
              lower = s.0;
              upper = ⊎_elim (λ e. inl (eqb-true _ _ e)) (λ e. inr e) (o.0 s.1);
            },
        λ s.
            let el = evaluation q.left_kind q.left s.left s.is_left in
            let er = evaluation q.right_kind q.right s.right s.is_right in
            w
            ∙ a.1 (
              rw (← el, ← er) s.lower,
              o.1 (⊎_elim (λ e. inl (eq-eqb _ _ e)) (λ e. inr (rw (← el, ← er) e)) s.upper),
            ),
      )

  -- an atom holds just where it is satisfied
  atom_iff : {n : ℕ} {some : Bool} (q : Atom) → AtomFine n some q → (atom_holds choice q ≡ true) ↔ Satisfied last mapping q
  unfolding atom_holds
  atom_iff q fine =
      let l = choice-job last trigger tokens q.left few in
      let r = choice-job last trigger tokens q.right few in
      elim (ℕ_discrete q.left_kind 4) [
        | yes e ↦ rw (eq-eqb q.left_kind 4 e, l, r) (
          λ h. record { bounds = λ ne. absurd (ne e); jobs = λ _. eqb-true _ _ h },
          λ s. eq-eqb _ _ (s.jobs e),
        )
        | no ne ↦
            let b = bounds_iff q fine ne in
            rw (ne_eqb q.left_kind 4 ne) (λ h. record { bounds = λ _. b.0 h; jobs = λ e. absurd (ne e) }, λ s. b.1 (s.bounds ne))
      ]

-- ---- statements and rules

-- an element by its number, and by being among them
among_at : {A : Type 0} (xs : List A) (d : A) (i : ℕ) → i < length xs → exists.Among (get_or xs i d) xs
among_at xs d i l = record { index = i; within = l; here = at-any xs i (get_or xs i d) d l }

at_among : {A : Type 0} {x : A} {xs : List A} (d : A) (m : exists.Among x xs) → get_or xs m.index d ≡ x
at_among {x = x} {xs = xs} d m = at-any xs m.index d x m.within ∙ m.here

-- of a timeline
on_among : {line : List Token} {t : Token} → On line t → exists.Among t line
on_among {line} {t} o = record { index = o.number; within = o.below; here = at-any line o.number t nobody o.below ∙ o.is }

among_on : {line : List Token} {t : Token} → exists.Among t line → On line t
among_on m = record { number = m.index; below = m.within; is = at_among nobody m }

-- what is so of every element that is among them
among_all : {A : Type 0} (P : A → Type 0) (xs : List A) → ((x : A) → exists.Among x xs → P x) → All P xs
among_all P [] h = tt
among_all P (x ∷ xs) h = (
  h x (record { index = 0; within = omega arith; here = refl }),
  among_all P xs (λ y m. h y (record { index = suc m.index; within = omega (arith, m.within); here = m.here })),
)

-- and back
all_among : {A : Type 0} (P : A → Type 0) (xs : List A) → All P xs → (x : A) → exists.Among x xs → P x
all_among P xs h x m = subst P (at_among x m) ((all-at P x xs).0 h m.index m.within)

-- whatever alternatives ask: the search tests it by `holds`, which says for the tokens in question just when it holds
module _ {C : Type 0} (holds : Choice → C → Bool) (Holds : List Token → C → Type 0) (lines : ℕ → List Token) (trigger : Token) where
  -- the test says so of all that an alternative asks
  abbrev pub Tells : Alternative C → Type 0
  Tells a =
      (tokens : List Token) → length tokens ≡ length a.names → Named lines a tokens
      → All (λ (q : C). (holds (exists.choice_of (plan_end lines) trigger tokens) q ≡ true) ↔ Holds (trigger ∷ tokens) q) a.asks

  -- tokens meet an alternative just where the statement is satisfied with them
  statement_iff : (a : Alternative C) (tokens : List Token) → Tells a → exists.Meets holds lines trigger a tokens ↔ Maps Holds lines trigger a tokens
  statement_iff a tokens tells = (
    λ m.
        let each = m.each in
        let on : Named lines a tokens = λ i l. among_on (m.serve i (omega arith)).variable in
        let told = all_among _ a.asks (tells tokens m.each on) in
        record {
          long = m.each;
          on = on;
          value = λ i l. (m.serve i (omega arith)).value;
          clause = among_all (Holds (trigger ∷ tokens)) a.asks (λ q w. (told q w).0 (m.hold q w));
        },
    λ m.
        let long = m.long in
        let told = all_among _ a.asks (tells tokens m.long m.on) in
        record {
          each = m.long;
          serve = λ i l. record { variable = on_among (m.on i (omega arith)); value = m.value i (omega arith) };
          hold = λ q w. (told q w).1 (all_among (Holds (trigger ∷ tokens)) a.asks m.clause q w);
        },
  )

  -- THE LAW: the search's answer is true exactly if the trigger token is met, as 000, Definition 2.11 says
  pub met_by_lem : (r : Rule C) → All Tells r.alternatives → (met holds lines r trigger ≡ true) ↔ Met Holds lines r trigger
  met_by_lem r tells =
      let m = exists-met holds lines trigger r in
      let told = (all-at Tells no_statement r.alternatives).0 tells in (
        λ h.
            let s = m.0 h in
            let o = s.of_rule in
            let is : get_or r.alternatives o.index no_statement ≡ s.alternative = at_among no_statement o in
            record {
              which = o.index;
              below = o.within;
              tokens = s.tokens;
              maps = (statement_iff _ s.tokens (told o.index o.within)).0 (rw is s.meets);
            },
        λ q.
            m.1
            (record {
              alternative = get_or r.alternatives q.which no_statement;
              tokens = q.tokens;
              of_rule = among_at r.alternatives no_statement q.which q.below;
              meets = (statement_iff _ q.tokens (told q.which q.below)).1 q.maps;
            }),
      )

-- of a book: its rules ask atoms
pub met_iff : (lines : ℕ → List Token) (b : List ℕ) (r : Rule Atom) → RuleFine AtomFine 1 b r → (t : Token)
    → (met atom_holds lines r t ≡ true) ↔ Met (SatisfiedIn lines) lines r t
met_iff lines b r fine t = met_by_lem atom_holds (SatisfiedIn lines) lines t r (all-to (AlternativeFine AtomFine 1 b _) _ tells r.alternatives fine.alternatives)
  where
    tells : {some : Bool} (a : Alternative Atom) → AlternativeFine AtomFine 1 b some a → Tells atom_holds (SatisfiedIn lines) lines t a
    tells {some} a f tokens long on =
        let few = f.few_names in
        all-to (AtomFine (length a.names) some) _ (atom_iff (plan_end lines) t tokens (omega arith)) a.asks f.asks
