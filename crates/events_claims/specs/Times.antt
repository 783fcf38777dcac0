-- What the theorems of proofs/Times are said in. Assumes nothing.
use Rattle.std.specs.Prelude.{◌≡◌, List, ℕ, ◌+◌, ◌<◌, length, get_or}
use Rattle.event_list.specs.Events.{Event}
use Rattle.events_claims.specs.Sequences.{Has, time_at}

-- its number
pub record Numbered {A : Type 0} (d a : A) (xs : List A) : Type 0 where
  pub number : ℕ
  pub below : number < length xs
  pub is : get_or xs number d ≡ a

-- which element's list it is one of
pub record Part {A B : Type 0} (d : A) (f : ℕ → A → List B) (k : ℕ) (b : B) (xs : List A) : Type 0 where
  pub number : ℕ
  pub below : number < length xs
  pub has : Has b (f (k + number) (get_or xs number d))

-- the event of a time
pub record EventAt (es : List Event) (T : ℕ) : Type 0 where
  pub index : ℕ
  pub below : index < length es
  pub time : time_at es index ≡ T
