-- The stages of a judgement in their order of checking, and the one law of them: each gives only numbers of its own, so the answer has a
-- stage's number just where that stage gives it and those before found nothing. Assumes nothing.
use mathlib.Core.Path.{◌≡◌, refl, sym, ap, ◌∙◌}
use mathlib.Core.Bool.{Bool, true, false, ◌||◌, ◌&&◌, not, cond, false≢true}
use mathlib.Core.Logic.{◌↔◌, ◌⊎◌, inl, inr, ⊎_elim}
use mathlib.Core.List.{List, [], ◌∷◌}
use Prim.Native.Nat.{ℕ, zero, suc, ◌+◌, ◌-◌, ◌*◌, ◌≤◌, ◌<◌}
use native.Mathlib.Decide.{ℕ_discrete}
use native.Mathlib.Omega.{arith}
use lib.Dec.{ltb, leb, eqb}
use lib.ListN.{length, get_or, take}
use borrow.Author.Tests.{leb-true}
use Rattle.answers.specs.declared.Numbers.{Numbers}
use Rattle.answers.specs.Numbers.{numbers_at, numbers, no_fault, or_else}
use Rattle.answers.proofs.Stages.{else_fault, else_next}
use Rattle.words.specs.Lists.{all}
use Rattle.words.specs.Least.{first}
use Rattle.clock.specs.Clock.{last_tick}
use Rattle.layout.specs.Layout.{count, ending}
use Rattle.book.specs.Rules.{Rule}
use Rattle.records.specs.Wrong.{value_unknown}
use Rattle.book.specs.Fault.{lowest, told_word}
use Rattle.book.specs.Fault as book
use Rattle.lines.specs.declared.Token.{Token}
use Rattle.lines.specs.Lines.{token_width}
use Rattle.lines.specs.Ends.{first_apart, ends_fault}
use Rattle.plan.specs.Fault as plan
use Rattle.choice.specs.Met.{Choice}
use Rattle.verdict.specs.Judged.{rule_unmet, rules_fault}
use Rattle.claims.specs.Stages.{Stage, no_stage, first_of, Own, Owned, apart, disjoint, Passed, book_stages, plan_stages, stages_of, last_stage}

-- ---- the law

both : (a c : Bool) → (a && c) ≡ true → (a ≡ true) × (c ≡ true)
both true c h = (refl, h)
both false c h = absurd (false≢true h)

-- what a test over a list says of its first element and of the rest
all_cons : {A : Type 0} (p : A → Bool) (x : A) (xs : List A) → all p (x ∷ xs) ≡ true → (p x ≡ true) × (all p xs ≡ true)
unfolding all
all_cons p x xs = both (p x) (all p xs)

all_join : {A : Type 0} (p : A → Bool) (x : A) (xs : List A) → p x ≡ true → all p xs ≡ true → all p (x ∷ xs) ≡ true
unfolding all
all_join p x xs h k = rw (h, k)

disjoint_cons : (s : Stage) (stages : List Stage) → disjoint (s ∷ stages) ≡ true → (all (apart s) stages ≡ true) × (disjoint stages ≡ true)
unfolding disjoint
disjoint_cons s stages = both (all (apart s) stages) (disjoint stages)

disjoint-join : (s : Stage) (stages : List Stage) → all (apart s) stages ≡ true → disjoint stages ≡ true → disjoint (s ∷ stages) ≡ true
unfolding disjoint
disjoint-join s stages h k = rw (h, k)

either : (a c : Bool) → (a || c) ≡ true → (a ≡ true) ⊎ (c ≡ true)
either true c h = inl refl
either false c h = inr h

-- two stages that are apart are so whichever comes first
apart_back : (s t : Stage) → apart s t ≡ true → apart t s ≡ true
apart_back s t h = swap (leb s.high t.low) (leb t.high s.low) h
  where
    swap : (a c : Bool) → (a || c) ≡ true → (c || a) ≡ true
    swap true true h = refl
    swap true false h = refl
    swap false c h = rw h

-- a stage can't give a number of one that is apart from it
other : (s t : Stage) → Own s.low s.high s.answer → apart s t ≡ true → (n : ℕ) → t.low ≤ n → n < t.high → 1 ≤ n → s.answer.number ≡ n → ⊥
other s t h q n low high some e =
    ⊎_elim (λ z. omega arith)
    (λ o. ⊎_elim (λ (l : leb s.high t.low ≡ true). omega (arith, leb-true s.high t.low l)) (λ (l : leb t.high s.low ≡ true). omega (arith, leb-true t.high s.low l)) (either (leb s.high t.low) (leb t.high s.low) q)) h

-- nor can stages and a last answer that all are
rest_other : (t : Stage) (stages : List Stage) (l : Stage) → Owned (l ∷ stages) → all (apart t) (l ∷ stages) ≡ true
    → (n : ℕ) → t.low ≤ n → n < t.high → 1 ≤ n → (first_of stages l.answer).number ≡ n → ⊥
unfolding first_of
rest_other t [] l h q n low high some e = other l t h.0 (apart_back t l (all_cons (apart t) l [] q).0) n low high some e
rest_other t (s ∷ stages) l h q n low high some e =
    let a = all_cons (apart t) l (s ∷ stages) q in
    let c = all_cons (apart t) s stages a.1 in
    elim (ℕ_discrete s.answer.number 0) [
      | yes z ↦
          rest_other t stages l (h.0, h.1.1) (all_join (apart t) l stages a.0 c.1) n low high some
          (sym (ap (λ (r : Numbers). r.number) (else_next s.answer _ z)) ∙ e)
      | no k ↦ other s t h.1.0 (apart_back t s c.0) n low high some (sym (ap (λ (r : Numbers). r.number) (else_fault s.answer _ k)) ∙ e)
    ]

-- a test that all elements pass is passed by each
each : {A : Type 0} (p : A → Bool) (d : A) (xs : List A) → all p xs ≡ true → (i : ℕ) → i < length xs → p (get_or xs i d) ≡ true
each p d [] h i l = absurd (omega arith)
each p d (x ∷ xs) h zero l = (all_cons p x xs h).0
each p d (x ∷ xs) h (suc i) l = each p d xs (all_cons p x xs h).1 i (omega arith)

-- a stage that found something is the answer, and no other
found : (x y z : Numbers) → (z.number ≡ 0 → ⊥) → (y.number ≡ z.number → ⊥) → (or_else x y ≡ z) ↔ (x ≡ z)
found x y z some other =
    elim (ℕ_discrete x.number 0) [
      | yes q ↦ (
        λ e. absurd (other (ap (λ (r : Numbers). r.number) (sym (else_next x y q) ∙ e))),
        λ e. absurd (some (sym (ap (λ (r : Numbers). r.number) e) ∙ q)),
      )
      | no n ↦ (λ e. sym (else_fault x y n) ∙ e, λ e. else_fault x y n ∙ e)
    ]

-- a stage that cannot have given the answer found nothing
passed : (x y z : Numbers) → ((x.number ≡ 0 → ⊥) → x.number ≡ z.number → ⊥) → (or_else x y ≡ z) ↔ ((x.number ≡ 0) × (y ≡ z))
passed x y z other =
    elim (ℕ_discrete x.number 0) [
      | yes q ↦ (λ e. (q, sym (else_next x y q) ∙ e), λ h. else_next x y q ∙ h.1)
      | no n ↦ (λ e. absurd (other n (ap (λ (r : Numbers). r.number) (sym (else_fault x y n) ∙ e))), λ h. absurd (n h.0))
    ]

-- THE LAW: the answer is z, whose number is stage i's own, exactly if stage i gives z and the stages before found nothing
pub at_stage : (i : ℕ) (stages : List Stage) (l : Stage) (z : Numbers) → i < length stages → Owned (l ∷ stages) → disjoint (l ∷ stages) ≡ true
    → (get_or stages i no_stage).low ≤ z.number → z.number < (get_or stages i no_stage).high → 1 ≤ z.number
    → (first_of stages l.answer ≡ z) ↔ (Passed (take i stages) × ((get_or stages i no_stage).answer ≡ z))
unfolding first_of
at_stage i [] l z here h q low high some = absurd (omega arith)
at_stage zero (s ∷ stages) l z here h q low high some =
    let a = disjoint_cons l (s ∷ stages) q in
    let c = all_cons (apart l) s stages a.0 in
    let d = disjoint_cons s stages a.1 in
    let f = found s.answer (first_of stages l.answer) z (λ e. omega arith)
    (rest_other s stages l (h.0, h.1.1) (all_join (apart s) l stages (apart_back l s c.0) d.0) z.number low high some) in
    (λ e. (tt, f.0 e), λ r. f.1 r.1)
at_stage (suc i) (s ∷ stages) l z here h q low high some =
    let a = disjoint_cons l (s ∷ stages) q in
    let c = all_cons (apart l) s stages a.0 in
    let d = disjoint_cons s stages a.1 in
    let p = passed s.answer (first_of stages l.answer) z
    (λ k. other s (get_or stages i no_stage) h.1.0 (each (apart s) no_stage stages d.0 i (omega arith)) z.number low high some) in
    let r = at_stage i stages l z (omega arith) (h.0, h.1.1) (disjoint-join l stages c.1 d.1) low high some in
    (λ e. let u = p.0 e in let w = r.0 u.1 in ((u.0, w.0), w.1), λ w. p.1 (w.0.0, r.1 (w.0.1, w.1)))

-- and the last answer's exactly if all stages found nothing
pub at_last : (stages : List Stage) (l : Stage) (z : Numbers) → Owned (l ∷ stages) → disjoint (l ∷ stages) ≡ true
    → (z.number ≡ 0) ⊎ ((l.low ≤ z.number) × (z.number < l.high) × (1 ≤ z.number))
    → (first_of stages l.answer ≡ z) ↔ (Passed stages × (l.answer ≡ z))
unfolding first_of
at_last [] l z h q a = (λ e. (tt, e), λ r. r.1)
at_last (s ∷ stages) l z h q a =
    let k = disjoint_cons l (s ∷ stages) q in
    let c = all_cons (apart l) s stages k.0 in
    let d = disjoint_cons s stages k.1 in
    let p = passed s.answer (first_of stages l.answer) z
    (λ n e. ⊎_elim (λ y. n (e ∙ y)) (λ y. other s l h.1.0 (apart_back l s c.0) z.number y.0 y.1 y.2 e) a) in
    let r = at_last stages l z (h.0, h.1.1) (disjoint-join l stages c.1 d.1) a in
    (λ e. let u = p.0 e in let w = r.0 u.1 in ((u.0, w.0), w.1), λ w. p.1 (w.0.0, r.1 (w.0.1, w.1)))

-- a test with its number
own_at : (t : Bool) (n x y z : ℕ) → Own n (suc n) (cond t (numbers_at n x y z) no_fault)
own_at true n x y z = inr (omega arith, omega arith)
own_at false n x y z = inl refl

pub own_test : (t : Bool) (n x y : ℕ) → Own n (suc n) (cond t (numbers n x y) no_fault)
own_test t n x y = own_at t n x y 0

-- and a test that asks for an end
own-end : (t : Bool) (n : ℕ) → Own n (suc n) (cond t no_fault (numbers n 0 0))
own-end true n = inl refl
own-end false n = inr (omega arith, omega arith)

-- "each token is tested 8, 9, 10, 11"
token-own : (unknown outside breaks late : Bool) (v j : ℕ) → Own 8 12 (numbers (cond unknown 8 (cond outside 9 (cond breaks 10 (cond late 11 0)))) v j)
token-own true outside breaks late v j = inr (omega arith, omega arith)
token-own false true breaks late v j = inr (omega arith, omega arith)
token-own false false true late v j = inr (omega arith, omega arith)
token-own false false false true v j = inr (omega arith, omega arith)
token-own false false false false v j = inl refl

module _ (b p : List ℕ) where
  -- so is the first faulty token of a line
  pub line-own : (v : ℕ) → Own 8 12 (plan.line_fault b p v)
  unfolding plan.token_fault
  line-own v =
      let j : ℕ = plan.first_token b p v in
      token-own (value_unknown 1 b v (plan.value_of p v j)) (plan.duration_outside b (plan.value_place b v (plan.value_of p v j)) (plan.duration_of p v j))
      (not (eqb j 0) && plan.not_successor b (plan.value_place b v (plan.value_of p v (j - 1))) (plan.value_of p v j))
      (ltb last_tick (plan.start_of p v j + plan.duration_of p v j)) v j

  -- and the stage gives only 8 to 11
  tokens_own : Own 8 12 (plan.tokens_fault b p)
  unfolding plan.tokens_fault
  tokens_own = by (ltb (plan.first_line b p) (count b 0))
    where
      by : (t : Bool) → Own 8 12 (cond t (plan.line_fault b p (plan.first_line b p)) no_fault)
      by true = line-own (plan.first_line b p)
      by false = inl refl

-- each gives its own numbers: those of a book, before others that do,
pub book_owned : (e : ℕ) (b : List ℕ) (after : List Stage) (l : Stage) → Owned (l ∷ after) → Owned (l ∷ book_stages e b after)
unfolding book.length_fault book.header_fault book.end_fault book.record_fault
book_owned e b after l h =
    let n : ℕ = book.first_header e b in
    let t : ℕ = book.first_table e b in (
      h.0,
      (
        own_test (ltb (length b) 14 || ltb 16384 (length b)) 1 0 0,
        (own_test (ltb n 14) 2 n 0, (own-end (eqb (ending e b 5) (length b)) 3, (own_at (ltb t 6) 4 t (lowest e b t) (told_word e b t (lowest e b t)), h.1))),
      ),
    )

-- and those of a plan, whatever comes last with the number 12 or none
pub plan_owned : (b p : List ℕ) (last : Numbers) → Own 12 13 last → Owned (last_stage last ∷ plan_stages b p)
unfolding plan.length_fault plan.head_fault plan.end_fault ends_fault
plan_owned b p last h =
    let k : ℕ = plan.first_head b p in
    let v : ℕ = first_apart b p in (
      h,
      (
        own_test (ltb (length p) (3 + 2 * count b 0) || ltb 16384 (length p)) 5 0 0,
        (
          own_test (ltb k (3 + 2 * count b 0)) 6 k 0,
          (
            own-end (eqb (3 + 2 * count b 0 + token_width p * plan.sum_before p (count b 0)) (length p)) 7,
            (tokens_own b p, (own_test (ltb v (count b 0)) 18 v 0, tt)),
          ),
        ),
      ),
    )

pub owned : (e : ℕ) (b p : List ℕ) (last : Numbers) → Own 12 13 last → Owned (last_stage last ∷ stages_of e b p)
owned e b p last h = book_owned e b (plan_stages b p) (last_stage last) (plan_owned b p last h)

-- and no two have one in common
pub judge_disjoint : (e : ℕ) (b p : List ℕ) (last : Numbers) → disjoint (last_stage last ∷ stages_of e b p) ≡ true
unfolding disjoint all
judge_disjoint e b p last = refl

-- the rules give 12 or no number
own-last : (t : Bool) (x y n : ℕ) → Own 12 13 (cond t (numbers 12 x y) (numbers 0 n 0))
own-last true x y n = inr (omega arith, omega arith)
own-last false x y n = inl refl

pub rules_own : {C : Type 0} (holds : Choice → C → Bool) (lines : ℕ → List Token) (rules : List (Rule C)) → Own 12 13 (rules_fault holds lines rules)
unfolding rules_fault
rules_own holds lines rules = own-last (ltb (first (rule_unmet holds lines) rules) (length rules)) _ _ _

-- this, or else that, or else the next: in which order it is put together makes no difference
pub else_else : (x y z : Numbers) → or_else (or_else x y) z ≡ or_else x (or_else y z)
unfolding or_else
else_else x y z = by (eqb x.number 0) refl
  where
    by : (t : Bool) → eqb x.number 0 ≡ t → or_else (cond t y x) z ≡ cond t (or_else y z) x
    by true e = refl
    by false e = rw e

-- the judge's answer, and the direct judge's, is that of the stages
pub in_order : (e : ℕ) (b p : List ℕ) (last : Numbers) → or_else (book.book_fault e b) (or_else (plan.plan_fault b p) last) ≡ first_of (stages_of e b p) last
unfolding first_of book.book_fault plan.plan_fault
in_order e b p last = simp else_else
