-- What is found of a list: the plan that it was written from, at the start of some words, or that the writer couldn't have made it. Assumes
-- nothing.
use Rattle.std.specs.Prelude.{◌≡◌, true, false, List, ℕ, ◌≤◌, length, take, Option, Some, None}
use Rattle.event_list.specs.Reading.{plan_from}
use Rattle.event_list.specs.Answers.{could_be_written}

-- the first `words` words of `plan` are the plan of a list that the writer could have made
pub record Plan (b w plan : List ℕ) (words : ℕ) : Type 0 where
  pub made : could_be_written b w ≡ true
  pub long : words ≡ length (plan_from b w)
  pub few : words ≤ 16384
  pub plan_is : take words plan ≡ plan_from b w

abbrev pub Finds : List ℕ → List ℕ → List ℕ → Option ℕ → Type 0
Finds b w plan None = could_be_written b w ≡ false
Finds b w plan (Some words) = Plan b w plan words
