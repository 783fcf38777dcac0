-- What the search's answer means: a trigger token meets a rule exactly if there is an alternative of the rule, and a token for each of its
-- names, so that all that it asks holds. Shown by going down the names. Assumes nothing.
use mathlib.Core.Path.{◌≡◌, refl, sym, ap, ◌∙◌}
use mathlib.Core.Bool.{Bool, true, false, ◌&&◌, ◌||◌, false≢true}
use mathlib.Core.Logic.{◌⊎◌, inl, inr, ⊎_elim, ◌↔◌}
use mathlib.Core.List.{List, [], ◌∷◌}
use Prim.Native.Nat.{ℕ, zero, suc, ◌+◌, ◌≤◌, ◌<◌}
use native.Mathlib.Omega.{arith}
use lib.Dec.{eqb}
use lib.ListN.{length, get_or, get_or-eq_default}
use borrow.Author.Tests.{eqb-true, eq-eqb}
use Rattle.words.specs.Lists.{any, all}
use Rattle.book.specs.Rules.{Name, Alternative, Rule}
use Rattle.lines.specs.declared.Token.{Token}
use Rattle.lines.specs.Ends.{plan_end}
use Rattle.choice.specs.Met.{Choice, nobody, time_place, job_place, triggered, put, token_time, token_job, end_time, place, alternative_met, met}
pub use Rattle.choice.specs.Exists.{Among, Serves, chosen, choice_of, no_name, Meets, Met, Placed}

-- ---- laws of tests over a list

pub and_both : (a b : Bool) → (a && b) ≡ true → (a ≡ true) × (b ≡ true)
and_both true b h = (refl, h)
and_both false b h = absurd (false≢true h)

or_one : (a b : Bool) → (a || b) ≡ true → (a ≡ true) ⊎ (b ≡ true)
or_one true b h = inl refl
or_one false b h = inr h

or_right : (a b : Bool) → b ≡ true → (a || b) ≡ true
or_right true b h = refl
or_right false b h = h

module _ {A : Type 0} where
  pub among_first : (x : A) (xs : List A) → Among x (x ∷ xs)
  among_first x xs = record { index = 0; within = omega arith; here = refl }

  pub among_later : {x : A} {xs : List A} (y : A) → Among x xs → Among x (y ∷ xs)
  among_later y m = record { index = suc m.index; within = omega (arith, m.within); here = m.here }

  -- a test that one of xs passes
  pub any_some : (p : A → Bool) (xs : List A) → any p xs ≡ true → (x : A) × Among x xs × (p x ≡ true)
  unfolding any
  any_some p [] h = absurd (false≢true h)
  any_some p (x ∷ xs) h =
      ⊎_elim (λ e. (x, among_first x xs, e)) (λ e. let s = any_some p xs e in (s.0, among_later x s.1, s.2)) (or_one (p x) (any p xs) h)

  any_at : (p : A → Bool) (d : A) (xs : List A) (i : ℕ) → i < length xs → p (get_or xs i d) ≡ true → any p xs ≡ true
  unfolding any
  any_at p d [] i l h = absurd (omega arith)
  any_at p d (x ∷ xs) zero l h = rw h
  any_at p d (x ∷ xs) (suc i) l h = or_right (p x) _ (any_at p d xs i (omega arith) h)

  pub some-any : (p : A → Bool) (xs : List A) (x : A) → Among x xs → p x ≡ true → any p xs ≡ true
  some-any p xs x m h = any_at p x xs m.index m.within (ap p m.here ∙ h)

  -- a test that every one passes
  all_each : (p : A → Bool) (xs : List A) → all p xs ≡ true → (d : A) (i : ℕ) → i < length xs → p (get_or xs i d) ≡ true
  unfolding all
  all_each p [] h d i l = absurd (omega arith)
  all_each p (x ∷ xs) h d zero l = (and_both (p x) _ h).0
  all_each p (x ∷ xs) h d (suc i) l = all_each p xs (and_both (p x) _ h).1 d i (omega arith)

  each_all : (p : A → Bool) (xs : List A) → ((x : A) → Among x xs → p x ≡ true) → all p xs ≡ true
  unfolding all
  each_all p [] h = refl
  each_all p (x ∷ xs) h = rw (h x (among_first x xs), each_all p xs (λ y m. h y (among_later x m)))

-- ---- the names

module _ (lines : ℕ → List Token) (p : Choice → Bool) where
  placed_more : (n : Name) (ns : List Name) (k : ℕ) (c : Choice) (t : Token) (ts : List Token) → Serves lines n t
      → Placed lines p ns (k + 1) (put c k t.start.tick t.end.tick t.job) ts → Placed lines p (n ∷ ns) k c (t ∷ ts)
  unfolding chosen
  placed_more n ns k c t ts s q = record { each = ap suc q.each; serve = serve; pass = q.pass }
    where
      serve : (i : ℕ) → i < suc (length ns) → Serves lines (get_or (n ∷ ns) i no_name) (get_or (t ∷ ts) i nobody)
      serve zero l = s
      serve (suc i) l = q.serve i (omega arith)

  pub placed_of : (ns : List Name) (k : ℕ) (c : Choice) → place lines p ns k c ≡ true → (ts : List Token) × Placed lines p ns k c ts
  unfolding place chosen
  placed_of [] k c h = ([], record { each = refl; serve = λ i l. absurd (omega arith); pass = h })
  placed_of (n ∷ ns) k c h =
      let s = any_some _ (lines n.variable) h in
      let t = s.0 in
      let b = and_both (eqb t.value n.value) _ s.2 in
      let q = placed_of ns (k + 1) (put c k t.start.tick t.end.tick t.job) b.1 in
      (t ∷ q.0, placed_more n ns k c t q.0 (record { variable = s.1; value = eqb-true _ _ b.0 }) q.1)

  pub of_placed : (ns : List Name) (k : ℕ) (c : Choice) (ts : List Token) → Placed lines p ns k c ts → place lines p ns k c ≡ true
  unfolding place chosen
  of_placed [] k c [] q = q.pass
  of_placed [] k c (t ∷ ts) q = absurd (omega (arith, q.each))
  of_placed (n ∷ ns) k c [] q = absurd (omega (arith, q.each))
  of_placed (n ∷ ns) k c (t ∷ ts) q =
      let s = q.serve 0 (omega arith) in
      let rest : Placed lines p ns (k + 1) (put c k t.start.tick t.end.tick t.job) ts =
      record { each = omega (arith, q.each); serve = λ i l. q.serve (suc i) (omega arith); pass = q.pass } in
      some-any _ (lines n.variable) t s.variable
      (rw (eq-eqb _ _ s.value) (of_placed ns (k + 1) (put c k t.start.tick t.end.tick t.job) ts rest))

-- ---- the theorems

module _ {C : Type 0} (holds : Choice → C → Bool) (lines : ℕ → List Token) (t : Token) where
  -- an alternative is met exactly if there are tokens that meet it
  pub alternative_iff : (a : Alternative C)
      → (alternative_met holds lines (triggered (plan_end lines) t) a ≡ true) ↔ ((ts : List Token) × Meets holds lines t a ts)
  unfolding alternative_met choice_of
  alternative_iff a =
      let c : Choice = triggered (plan_end lines) t in
      let p : Choice → Bool = λ d. all (holds d) a.asks in (
        λ h. let q = placed_of lines p a.names 1 c h in (
          q.0,
          record {
            each = q.1.each;
            serve = q.1.serve;
            hold = λ x m. ap (holds (chosen c 1 q.0)) (sym m.here) ∙ all_each _ a.asks q.1.pass x m.index m.within;
          },
        ),
        λ q. of_placed lines p a.names 1 c q.0
            (record { each = q.1.each; serve = q.1.serve; pass = each_all _ a.asks q.1.hold }),
      )

  -- THE THEOREM: the search's answer is true exactly if there is an alternative, and a token for each of its names
  pub met_iff : (r : Rule C) → (met holds lines r t ≡ true) ↔ Met holds lines r t
  unfolding met
  met_iff r = (
    λ h. let s = any_some _ r.alternatives h in
        let q = (alternative_iff s.0).0 s.2 in
        record { alternative = s.0; tokens = q.0; of_rule = s.1; meets = q.1 },
    λ q. some-any _ r.alternatives q.alternative q.of_rule ((alternative_iff q.alternative).1 (q.tokens, q.meets)),
  )

-- ---- which times the choice has

-- the plan's end, and start, end and job of five tokens, and nobody's where there are fewer
abbrev laid : ℕ → List Token → Choice
laid last l =
    last
    ∷ (get_or l 0 nobody).start.tick
    ∷ (get_or l 0 nobody).end.tick
    ∷ (get_or l 0 nobody).job
    ∷ (get_or l 1 nobody).start.tick
    ∷ (get_or l 1 nobody).end.tick
    ∷ (get_or l 1 nobody).job
    ∷ (get_or l 2 nobody).start.tick
    ∷ (get_or l 2 nobody).end.tick
    ∷ (get_or l 2 nobody).job
    ∷ (get_or l 3 nobody).start.tick
    ∷ (get_or l 3 nobody).end.tick
    ∷ (get_or l 3 nobody).job
    ∷ (get_or l 4 nobody).start.tick
    ∷ (get_or l 4 nobody).end.tick
    ∷ (get_or l 4 nobody).job
    ∷ []

choice-laid : (last : ℕ) (t : Token) (ts : List Token) → length ts ≤ 4 → choice_of last t ts ≡ laid last (t ∷ ts)
unfolding choice_of chosen put
choice-laid last t [] l = refl
choice-laid last t (a ∷ []) l = refl
choice-laid last t (a ∷ (b ∷ [])) l = refl
choice-laid last t (a ∷ (b ∷ (c ∷ []))) l = refl
choice-laid last t (a ∷ (b ∷ (c ∷ (d ∷ [])))) l = refl
choice-laid last t (a ∷ (b ∷ (c ∷ (d ∷ (e ∷ ts))))) l = absurd (omega arith)

-- the numbers of the token that an argument names
record Named (c : Choice) (k : ℕ) (t : Token) : Type 0 where
  start : token_time c 0 k ≡ t.start.tick
  end : token_time c 1 k ≡ t.end.tick
  job : token_job c k ≡ t.job

laid-named : (last : ℕ) (l : List Token) (k : ℕ) → length l ≤ 5 → Named (laid last l) k (get_or l k nobody)
unfolding token_time token_job
laid-named last l zero h = record { start = refl; end = refl; job = refl }
laid-named last l (suc zero) h = record { start = refl; end = refl; job = refl }
laid-named last l (suc (suc zero)) h = record { start = refl; end = refl; job = refl }
laid-named last l (suc (suc (suc zero))) h = record { start = refl; end = refl; job = refl }
laid-named last l (suc (suc (suc (suc zero)))) h = record { start = refl; end = refl; job = refl }
laid-named last l (suc (suc (suc (suc (suc k))))) h =
    let j = suc (suc (suc (suc (suc k)))) in
    rw (get_or-eq_default l nobody {n = j} (omega arith))
    (record {
      start = get_or-eq_default (laid last l) 0 {n = time_place 0 j} (omega arith);
      end = get_or-eq_default (laid last l) 1 {n = time_place 1 j} (omega arith);
      job = get_or-eq_default (laid last l) 0 {n = job_place j} (omega arith);
    })

-- the start and the end that an argument names are those of its token: "0 for the trigger or 1..n for the alternative's names"
pub choice_time : (last : ℕ) (t : Token) (ts : List Token) (k : ℕ) → length ts ≤ 4
    → (token_time (choice_of last t ts) 0 k ≡ (get_or (t ∷ ts) k nobody).start.tick)
    × (token_time (choice_of last t ts) 1 k ≡ (get_or (t ∷ ts) k nobody).end.tick)
choice_time last t ts k h = let n = laid-named last (t ∷ ts) k (omega arith) in rw (choice-laid last t ts h) (n.start, n.end)

-- so is the job
pub choice-job : (last : ℕ) (t : Token) (ts : List Token) (k : ℕ) → length ts ≤ 4 → token_job (choice_of last t ts) k ≡ (get_or (t ∷ ts) k nobody).job
choice-job last t ts k h = rw (choice-laid last t ts h) (laid-named last (t ∷ ts) k (omega arith)).job

-- and the end of the plan is that of the choice
pub choice-end : (last : ℕ) (t : Token) (ts : List Token) → length ts ≤ 4 → end_time (choice_of last t ts) ≡ last
unfolding end_time
choice-end last t ts h = rw (choice-laid last t ts h)
