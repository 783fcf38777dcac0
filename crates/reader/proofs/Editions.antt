-- What a plan's edition decides, in plain words: how many words a token has, which job, what a step takes, and how many tokens there are at
-- most. Assumes nothing.
use mathlib.Core.Path.{◌≡◌, refl, sym, ◌∙◌}
use mathlib.Core.Bool.{Bool, true, false, ◌&&◌, false≢true}
use mathlib.Core.Logic.{◌↔◌}
use mathlib.Core.List.{List, [], ◌∷◌}
use Prim.Native.Nat.{ℕ, ◌+◌, ◌≤◌, ◌<◌}
use native.Mathlib.Omega.{arith}
use lib.ListN.{get_or}
use borrow.Author.Tests.{ltb-true, leb-true, lt-ltb, le-leb}
use Rattle.words.specs.Words.{word}
use Rattle.clock.specs.Clock.{no_limit}
use Rattle.layout.specs.Layout.{count}
use Rattle.lines.specs.declared.Token.{Token}
use Rattle.lines.specs.declared.Position.{Position}
use Rattle.lines.specs.declared.Step.TheVariants.{Handed, NoMore}
use Rattle.lines.specs.Lines.{token, line_count, token_width, job_at, start_of, line_of}
use Rattle.lines.specs.Walk.{position, names, step_of}
use Rattle.lines.specs.Fault.{sum_before}
use Rattle.lines.proofs.Width.{width_three, width_two, job-word, job-none}
use Rattle.lines.proofs.Laws.{line-token}
use Rattle.lines.proofs.Reading.{no_more}
use Rattle.plan.specs.Good.{PlanGood}
use Rattle.reader.specs.Editions.{place_by, token_by, Names, handed_by}

-- ---- laws

module _ (p : List ℕ) (w : ℕ) (wide : token_width p ≡ w) where
  names-to : (q : Position) → names p q ≡ true → Names w p q
  unfolding names
  names-to q h =
      let a = both _ _ h in
      let b = both _ _ a.1 in
      let c = both _ _ b.1 in
      record {
        line = ltb-true _ _ a.0;
        token = ltb-true _ _ b.0;
        inside = rw (← wide) (leb-true _ _ c.0);
        soon = rw (← wide) (leb-true _ _ c.1);
      }
    where
      both : (s t : Bool) → (s && t) ≡ true → (s ≡ true) × (t ≡ true)
      both true t e = (refl, e)
      both false t e = absurd (false≢true e)

  names-from : (q : Position) → Names w p q → names p q ≡ true
  unfolding names
  names-from q n =
      let inside = rw (← wide) at n.inside in
      let soon = rw (← wide) at n.soon in
      rw (lt-ltb _ _ n.line, lt-ltb _ _ n.token, le-leb _ _ inside, le-leb _ _ soon)

  -- a step hands out the token exactly if the position names one, and says "no more" exactly if not
  module _ (q : Position) (job : ℕ) (is : job_at p (place_by w p q.line q.token) ≡ job) where
    handed-from : names p q ≡ true → step_of p q ≡ handed_by w p q job
    unfolding step_of
    handed-from h = rw (h, wide, is)

    step-told : ((step_of p q ≡ handed_by w p q job) ↔ Names w p q) × ((step_of p q ≡ NoMore q) ↔ (Names w p q → ⊥))
    step-told = by (names p q) refl
      where
        apart : {t : Token} {next : Position} → Handed t next ≡ NoMore q → ⊥
        apart e = let z : ◌≡◌ {A = ℕ} 0 1 = cc in omega arith

        by : (t : Bool) → names p q ≡ t → ((step_of p q ≡ handed_by w p q job) ↔ Names w p q) × ((step_of p q ≡ NoMore q) ↔ (Names w p q → ⊥))
        by true e = ((λ h. names-to q e, λ n. handed-from e), (λ h n. apart (sym (handed-from e) ∙ h), λ n. absurd (n (names-to q e))))
        by false e = (
          (λ h. absurd (apart (sym h ∙ no_more p q e)), λ n. absurd (false≢true (sym e ∙ names-from q n))),
          (λ h n. false≢true (sym e ∙ names-from q n), λ n. no_more p q e),
        )

-- ---- THE CLAIMS

module _ (p : List ℕ) where
  -- "edition 1 plans are read with job 0 throughout", and so is every edition but 2
  pub jobs_none : (word p 0 ≡ 2 → ⊥) → (v j : ℕ) → j < line_count p v → (d : Token)
      → get_or (line_of p v) j d ≡ token_by p (place_by 2 p v j) (start_of p v j) 0
  jobs_none h v j l d = line-token p v j d l ∙ rw (job-none p h, width_two p h)

  -- "Tokens get a third word, a job number, and the plan's edition becomes 2"
  pub jobs_told : word p 0 ≡ 2 → (v j : ℕ) → j < line_count p v → (d : Token)
      → get_or (line_of p v) j d ≡ token_by p (place_by 3 p v j) (start_of p v j) (word p (place_by 3 p v j + 2))
  jobs_told h v j l d = line-token p v j d l ∙ rw (job-word p h, width_three p h)

  -- "a reader's step takes 3 words a token in edition 2"
  pub step_by_three : word p 0 ≡ 2 → (q : Position)
      → ((step_of p q ≡ handed_by 3 p q (word p (place_by 3 p q.line q.token + 2))) ↔ Names 3 p q) × ((step_of p q ≡ NoMore q) ↔ (Names 3 p q → ⊥))
  step_by_three h q = step-told p 3 (width_three p h) q _ (job-word p h _)

  -- "else 2": also in an edition that no plan has
  pub step-by-two : (word p 0 ≡ 2 → ⊥) → (q : Position)
      → ((step_of p q ≡ handed_by 2 p q 0) ↔ Names 2 p q) × ((step_of p q ≡ NoMore q) ↔ (Names 2 p q → ⊥))
  step-by-two h q = step-told p 2 (width_two p h) q 0 (job-none p h _)

-- "Edition 2 holds fewer tokens: 5,449 on 16 lines"; edition 1 holds 8,174
pub most_tokens : (b p : List ℕ) → PlanGood b p → count b 0 ≡ 16
    → (word p 0 ≡ 2 → sum_before p 16 ≤ 5449) × (word p 0 ≡ 1 → sum_before p 16 ≤ 8174)
most_tokens b p g n = (
  λ h. let whole = rw (n, width_three p h) at g.whole in omega (arith, g.short),
  λ h. let whole = rw (n, width_two p (λ k. omega arith)) at g.whole in omega (arith, g.short),
)

-- ---- a step's cases, computed: in edition 2, with the third word outside, in an edition that no plan has, at a later token, job N

pub step_cases :
    (step_of (2 ∷ 8 ∷ 1 ∷ 0 ∷ 1 ∷ 0 ∷ 5 ∷ 7 ∷ []) (position 0 0 0) ≡ Handed (token 0 0 5 7) (position 0 1 5))
    × (step_of (2 ∷ 8 ∷ 1 ∷ 0 ∷ 1 ∷ 0 ∷ 5 ∷ []) (position 0 0 0) ≡ NoMore (position 0 0 0))
    × (step_of (3 ∷ 8 ∷ 1 ∷ 0 ∷ 1 ∷ 0 ∷ 5 ∷ []) (position 0 0 0) ≡ Handed (token 0 0 5 0) (position 0 1 5))
    × (step_of (2 ∷ 11 ∷ 1 ∷ 0 ∷ 2 ∷ 0 ∷ 5 ∷ 7 ∷ 4 ∷ 6 ∷ 7 ∷ []) (position 0 1 5) ≡ Handed (token 4 5 11 7) (position 0 2 11))
    × (step_of (2 ∷ 8 ∷ 1 ∷ 0 ∷ 1 ∷ 0 ∷ 5 ∷ no_limit ∷ []) (position 0 0 0) ≡ Handed (token 0 0 5 no_limit) (position 0 1 5))
    × (step_of (1 ∷ 8 ∷ 1 ∷ 0 ∷ 1 ∷ 0 ∷ 5 ∷ 7 ∷ []) (position 0 0 0) ≡ Handed (token 0 0 5 0) (position 0 1 5))
unfolding step_of names token_width job_at
step_cases = (refl, refl, refl, refl, refl, refl)
