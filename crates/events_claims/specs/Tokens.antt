-- What the theorems of proofs/Tokens are said in. Assumes nothing.
use Rattle.std.specs.Prelude.{◌≡◌, ◌⊎◌, List, ℕ, ◌+◌, ◌<◌}
use Rattle.layout.specs.Layout.{count}
use Rattle.lines.specs.declared.Token.{Token}
use Rattle.lines.specs.Lines.{token, line_count, value_of, job_of, start_of}
use Rattle.event_list.specs.Events.{Action, action}

-- what stands for a token past the last
abbrev pub no_token : Token
no_token = token 0 0 0 0

-- ---- an action of a token at a time

pub record AtTime (T k : ℕ) (t : Token) (a : Action) : Type 0 where
  pub which : ((t.start.tick ≡ T) × (a ≡ action k t.value 1 t.job)) ⊎ ((t.end.tick ≡ T) × (a ≡ action k t.value 0 t.job))

-- ---- of a plan that passes 1 to 11 and 18

-- token m of line x starts (step 0) or ends (step 1) at T, with its value and job
pub record Mark (b p : List ℕ) (step x v job T : ℕ) : Type 0 where
  pub line : x < count b 0
  pub number : ℕ
  pub below : number < line_count p x
  pub value : value_of p x number ≡ v
  pub has : job_of p x number ≡ job
  pub time : start_of p x (number + step) ≡ T
