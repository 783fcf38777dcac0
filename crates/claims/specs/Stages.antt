-- What the theorems of proofs/Stages are said in. Assumes nothing.
use Rattle.std.specs.Prelude.{◌≡◌, Bool, true, ◌||◌, ◌&&◌, ◌⊎◌, List, [], ◌∷◌, ℕ, ◌≤◌, ◌<◌, leb}
use Rattle.answers.specs.declared.Numbers.{Numbers}
use Rattle.answers.specs.Numbers.{no_fault, or_else}
use Rattle.words.specs.Lists.{All, all}
use Rattle.book.specs.Fault as book
use Rattle.lines.specs.Ends.{ends_fault}
use Rattle.plan.specs.Fault as plan

-- ---- stages and their order

-- a stage's answer, with the numbers that it may give: from `low` on, below `high`
pub record Stage : Type 0 where
  pub low : ℕ
  pub high : ℕ
  pub answer : Numbers

abbrev pub stage : ℕ → ℕ → Numbers → Stage
stage low high answer = record { low = low; high = high; answer = answer }

-- what stands for a stage past the last
abbrev pub no_stage : Stage
no_stage = stage 0 0 no_fault

-- the first of the stages that found a fault, or else the last answer
unfoldable pub first_of : List Stage → Numbers → Numbers
first_of [] last = last
first_of (s ∷ stages) last = or_else s.answer (first_of stages last)

-- the answer has no number, or one of these
abbrev pub Own : ℕ → ℕ → Numbers → Type 0
Own low high x = (x.number ≡ 0) ⊎ ((low ≤ x.number) × (x.number < high))

-- each stage gives only its own numbers, and so does the last answer
abbrev pub Owned : List Stage → Type 0
Owned stages = All (λ (s : Stage). Own s.low s.high s.answer) stages

-- no two stages have a number in common; the order of the numbers is free
abbrev pub apart : Stage → Stage → Bool
apart s t = leb s.high t.low || leb t.high s.low

unfoldable pub disjoint : List Stage → Bool
disjoint [] = true
disjoint (s ∷ stages) = all (apart s) stages && disjoint stages

-- the stages found nothing
abbrev pub Passed : List Stage → Type 0
Passed stages = All (λ (s : Stage). s.answer.number ≡ 0) stages

-- ---- the judge's stages

-- "Fault numbers, in order of checking": 1 to 4 of a book or sheet, and then others
abbrev pub book_stages : ℕ → List ℕ → List Stage → List Stage
book_stages e b after =
    stage 1 2 (book.length_fault b) ∷ stage 2 3 (book.header_fault e b) ∷ stage 3 4 (book.end_fault e b) ∷ stage 4 5 (book.record_fault e b) ∷ after

-- 5 to 7, 8 to 11 and 18 of a plan
abbrev pub plan_stages : List ℕ → List ℕ → List Stage
plan_stages b p =
    stage 5 6 (plan.length_fault b p) ∷ stage 6 7 (plan.head_fault b p) ∷ stage 7 8 (plan.end_fault b p) ∷ stage 8 12 (plan.tokens_fault b p) ∷ stage 18 19 (ends_fault b p) ∷ []

abbrev pub stages_of : ℕ → List ℕ → List ℕ → List Stage
stages_of e b p = book_stages e b (plan_stages b p)

-- and the rules: 12, or 0 with the count
abbrev pub last_stage : Numbers → Stage
last_stage last = stage 12 13 last
