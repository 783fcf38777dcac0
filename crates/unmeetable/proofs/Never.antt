-- "An alternative with "no" is never the one that meets a rule": for every plan that passes, every trigger token and every choice of tokens.
-- Shown by taking the start and the end of the tokens for times, and the plan's end: a plan's tokens keep their values' durations, and no
-- token ends after its line, which ends with the plan. Assumes nothing.
use mathlib.Core.Path.{◌≡◌, refl, sym, ap, ◌∙◌}
use mathlib.Core.Bool.{Bool, true, false, ◌||◌}
use mathlib.Core.Logic.{◌⊎◌, inl, inr, ⊎_elim}
use mathlib.Core.List.{List, [], ◌∷◌}
use Prim.Native.Nat.{ℕ, zero, suc, ◌+◌, ◌*◌, ◌≤◌, ◌<◌}
use native.Mathlib.Numerals.{add-one}
use native.Mathlib.Omega.{arith}
use lib.IntN.{pos, sub_ℕ}
use lib.Signed.{le_z}
use lib.Dec.{eqb}
use lib.ListN.{length, get_or}
use borrow.Author.Tests.{eq-eqb}
use Rattle.answers.specs.declared.Numbers.{Numbers}
use Rattle.answers.specs.Numbers.{numbers}
use Rattle.words.proofs.Runs.{length_run, run_at}
use Rattle.clock.specs.Clock.{no_limit, in_bounds}
use Rattle.clock.proofs.Laws.{whole}
use Rattle.layout.specs.Layout.{count, offset, field}
use Rattle.book.specs.Rules.{Variable, Atom, name_at, alternative_at, rule_at, rules_of, variable_at, variables_of}
use Rattle.book.specs.Encode.{atoms}
use Rattle.book.specs.Sound.{Exist, Sound}
use Rattle.book.proofs.Inside.{in_range, alternative_ranges, owner_at}
use Rattle.book.specs.Fault.{book_fault}
use Rattle.lines.specs.declared.Token.{Token}
use Rattle.lines.specs.Lines.{line_of}
use Rattle.lines.specs.Ends.{end_from, line_end, plan_end}
use Rattle.plan.specs.Fault.{plan_fault}
use Rattle.verdict.specs.Judged.{no_rule}
use Rattle.claims.specs.Papers.{token_of, no_statement, On, Evaluates, start, end, timestamp, end_of_plan, Bounded, Satisfied, SatisfiedIn, Maps, Timeline, Plan}
use Rattle.claims.proofs.Matched.{all-at}
use Rattle.claims.proofs.Accepted.{plan_none}
use Rattle.earliest.specs.Times.{Times, time_of, AtomMet, no_value, no_name, no_atom, no_variable, alternative_of, rule_of, SuitsOf, Told}
use Rattle.earliest.specs.Steps.{places_of}
use Rattle.earliest.proofs.Filling.{between}
use Rattle.earliest.proofs.Decoding.{trigger_exists, name_exists}
use Rattle.earliest.proofs.Answering.{sound_book}
use Rattle.unmeetable.proofs.Answers.{asked-of-book, no-exactly}
use Rattle.unmeetable.specs.Never.{Triggers}

-- ---- the times of tokens

-- start and end of the trigger token and of the names' tokens, and the end of the plan
abbrev times_of : List Token → ℕ → Times
times_of ts last = record { start = λ k. (token_of ts k).start.tick; end = λ k. (token_of ts k).end.tick; plan_end = last }

-- no token of a line ends after the line: each ends by the end of the next
by_the_end : (s : ℕ) (line : List Token) → ((i : ℕ) → suc i < length line → (token_of line i).end.tick ≤ (token_of line (suc i)).end.tick)
    → (i : ℕ) → i < length line → (token_of line i).end.tick ≤ end_from s line
unfolding end_from
by_the_end s [] h i l = absurd (omega arith)
by_the_end s (t ∷ []) h zero l = omega arith
by_the_end s (t ∷ []) h (suc i) l = absurd (omega arith)
by_the_end s (t ∷ (u ∷ ts)) h zero l =
    omega (arith, h 0 (omega arith), by_the_end t.end.tick (u ∷ ts) (λ j m. h (suc j) (omega arith)) 0 (omega arith))
by_the_end s (t ∷ (u ∷ ts)) h (suc i) l = by_the_end t.end.tick (u ∷ ts) (λ j m. h (suc j) (omega arith)) i (omega arith)

-- a token of a timeline lasts as its value asks, and ends by the line's end
lasting : {x : Variable} {line : List Token} (t : Token) (v : ℕ) → Timeline x line → On line t → t.value ≡ v
    → (in_bounds no_limit t.start.tick t.end.tick (get_or x.values v no_value).least (get_or x.values v no_value).greatest ≡ true)
    × (t.end.tick ≤ line_end line)
lasting {x} {line} t v l o e =
    let i = o.number in
    let is : token_of line i ≡ t = o.is in
    let h = rw (is, e) at (l.lasts i o.below) in
    let f = rw is at (l.forward i o.below) in
    let least = h.least in (
      (between _ _ _ _).1
          (record { least = omega arith; most = λ n. ⊎_elim (λ q. absurd (n q)) (λ q. omega arith) h.greatest }),
      rw is at (by_the_end 0 line (λ j m. omega (arith, l.next j m, l.forward (suc j) m)) i o.below),
    )

-- what a term is evaluated to is its time
evaluated : (ts : List Token) (last kind k v : ℕ) → Evaluates last ts kind k v → time_of (times_of ts last) kind k ≡ v
unfolding time_of
evaluated ts last _ _ _ (start k) = refl
evaluated ts last _ _ _ (end k) = refl
evaluated ts last _ _ _ (timestamp k) = refl
evaluated ts last _ _ _ end_of_plan = refl

-- a satisfied atom is met; "Job atoms count as met"
satisfied : (ts : List Token) (last : ℕ) (q : Atom) → Satisfied last ts q → AtomMet q (times_of ts last)
satisfied ts last q a ne = by (a.bounds ne)
  where
    by : Bounded last ts q → in_bounds no_limit (time_of (times_of ts last) q.left_kind q.left) (time_of (times_of ts last) q.right_kind q.right) q.lower q.upper ≡ true
    by s =
        rw (evaluated ts last _ _ _ s.is_left, evaluated ts last _ _ _ s.is_right)
        (whole no_limit s.left s.right q.lower q.upper ∙ rw s.lower (upper s.upper))
      where
        upper : (q.upper ≡ no_limit) ⊎ (le_z (sub_ℕ s.right s.left) (pos q.upper) ≡ true)
            → (eqb q.upper no_limit || le_z (sub_ℕ s.right s.left) (pos q.upper)) ≡ true
        upper (inl e) = rw (eq-eqb _ _ e)
        upper (inr e) = rw e (or-true (eqb q.upper no_limit))
          where
            or-true : (t : Bool) → (t || true) ≡ true
            or-true true = refl
            or-true false = refl

module _ {b : List ℕ} (s : Sound 1 b) (p : List ℕ) (plan : Plan (variables_of b) (line_of p)) (a : ℕ) (l : a < count b 3) where
  -- the line of a variable that exists is a timeline over it
  timeline : (u v : ℕ) → Exist 1 b u v → Timeline (get_or (variables_of b) u no_variable) (line_of p u)
  unfolding variables_of
  timeline u v e = plan.timeline u (omega (arith, e.variable, length_run (variable_at b) 2 (count b 0) (offset b 0)))

  -- and ends with the plan
  together : (u v : ℕ) → Exist 1 b u v → line_end (line_of p u) ≡ plan_end (line_of p)
  unfolding variables_of
  together u v e = plan.horizon u (omega (arith, e.variable, length_run (variable_at b) 2 (count b 0) (offset b 0)))

  -- tokens that meet the alternative have such times
  tokens_suit : (t : Token) → Triggers (line_of p) (rule_of b a) t → (ts : List Token) → Maps (SatisfiedIn (line_of p)) (line_of p) t (alternative_of b a) ts
      → SuitsOf b a (times_of (t ∷ ts) (plan_end (line_of p)))
  unfolding rule_at alternative_at name_at
  tokens_suit t g ts m =
      let q = places_of b a in
      record {
        trigger = λ n.
            let h = lasting t _ (timeline _ _ (trigger_exists s a l n)) (g.line n) (g.value n) in
            record { lasts = h.0; within = rw (together _ _ (trigger_exists s a l n)) at h.1 };
        names = λ i k.
            let long = m.long in
            let there : i < q.names = omega (arith, length_run (name_at b) 2 q.names q.name) in
            let is = run_at (name_at b) 2 q.names q.name i no_name there in
            let on = rw is at (m.on i (omega arith)) in
            let value = rw is at (m.value i (omega arith)) in
            let h = lasting (token_of ts i) _ (timeline _ _ (name_exists s a l i there)) on value in
            rw (is, add-one i) (record { lasts = h.0; within = rw (together _ _ (name_exists s a l i there)) at h.1 });
        atoms = λ i k. satisfied (t ∷ ts) (plan_end (line_of p)) _ ((all-at (SatisfiedIn (line_of p) (t ∷ ts)) no_atom (alternative_of b a).asks).0 m.clause i k);
      }

-- THE THEOREM
pub never : (b p : List ℕ) → (book_fault 1 b).number ≡ 0 → (plan_fault b p).number ≡ 0 → (a : ℕ) → a < count b 3
    → ((x : Times) → SuitsOf b a x → ⊥)
    → (t : Token) → Triggers (line_of p) (rule_of b a) t → (ts : List Token) → Maps (SatisfiedIn (line_of p)) (line_of p) t (alternative_of b a) ts → ⊥
never b p e f a l none t g ts m =
    let s = sound_book e in
    none _ (tokens_suit s p ((plan_none s p).0 f).1 a l t g ts m)

-- the same of the answer: 0 with a = 0
pub no_never : {b : List ℕ} {a : ℕ} {r : Numbers} {before after : List ℕ} → Told b a r before after → r ≡ numbers 0 0 0
    → (p : List ℕ) → (plan_fault b p).number ≡ 0
    → (t : Token) → Triggers (line_of p) (rule_of b a) t → (ts : List Token) → Maps (SatisfiedIn (line_of p)) (line_of p) t (alternative_of b a) ts → ⊥
no_never {b} {a} told h p f =
    let q = asked-of-book told (ap (λ (n : Numbers). n.number) h) in
    never b p q.0 f a q.1 ((no-exactly told q.0 q.1).0 h)

-- ---- the number

-- alternative k of rule i, as it is decoded
in_rule : (b : List ℕ) (i k : ℕ) → k < field 1 b 2 i 3
    → alternative_of b (field 1 b 2 i 2 + k) ≡ get_or (rule_at atoms b (offset b 2 + i * 4)).alternatives k no_statement
unfolding rule_at
in_rule b i k m =
    let place : offset b 3 + 4 * field 1 b 2 i 2 + k * 4 ≡ offset b 3 + (field 1 b 2 i 2 + k) * 4 = omega arith in
    sym (rw place at (run_at (alternative_at atoms b) 4 (field 1 b 2 i 3) (offset b 3 + 4 * field 1 b 2 i 2) k no_statement m))

-- which alternative of which rule has the number a: alternative k of rule i has the rule's first and k more
pub numbered : {b : List ℕ} → Sound 1 b → (i : ℕ) → i < count b 2 → (k : ℕ) → k < field 1 b 2 i 3
    → (field 1 b 2 i 2 + k < count b 3)
    × (rule_of b (field 1 b 2 i 2 + k) ≡ get_or (rules_of atoms b) i no_rule)
    × (alternative_of b (field 1 b 2 i 2 + k) ≡ get_or (get_or (rules_of atoms b) i no_rule).alternatives k no_statement)
unfolding rules_of
numbered {b} s i l k m =
    let at = run_at (rule_at atoms b) 4 (count b 2) (offset b 2) i no_rule l in
    (in_range (s.rules i l).alternatives k m, rw (owner_at (alternative_ranges s) i l k m, at) refl, rw at (in_rule b i k m))
