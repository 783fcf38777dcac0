-- What a step for C leaves in the five numbers lent to it. Assumes nothing.
use Rattle.std.specs.Prelude.{◌≡◌, ℕ}
use Rattle.lines.specs.declared.Step.{Step}
use Rattle.lines.specs.declared.Step.TheVariants.{Handed, NoMore}

-- a token was handed out: its value, end and job, and the next position's token number and start; no more: all five as they were
abbrev pub Stepped : Step → ℕ → ℕ → ℕ → ℕ → ℕ → ℕ → ℕ → ℕ → ℕ → ℕ → Type 0
Stepped (Handed t next) token start value end job token' start' value' end' job' =
    (token' ≡ next.token) × (start' ≡ next.start.tick) × (value' ≡ t.value) × (end' ≡ t.end.tick) × (job' ≡ t.job)
Stepped (NoMore at) token start value end job token' start' value' end' job' =
    (token' ≡ token) × (start' ≡ start) × (value' ≡ value) × (end' ≡ end) × (job' ≡ job)
