-- Marks that are kept from one trigger token to the next: the state of the search between two calls. Assumes nothing.
use Rattle.std.specs.Prelude.{Option, Some, None, ◌≡◌, Bool, true, false, List, ℕ, ◌+◌, ◌*◌, ◌<◌, length, get_or}
use Rattle.lines.specs.declared.Token.{Token}
use Rattle.choice.specs.declared.Alternative.{Alternative}
use Rattle.choice.specs.Met.{Choice, put}
use Rattle.choice.specs.Asked.{placeable, triggered_in, alternative_of}
use Rattle.marks.specs.declared.Lead.{Lead}
use Rattle.marks.specs.declared.Found.{Found}
use Rattle.marks.specs.declared.Found.TheVariants.{Open, NoneNow, NoneEver}
use Rattle.marks.specs.Marked.{Later, Marked, Never}
use Rattle.matching.specs.Search.{Leads}

-- times and rests are marks, of a trigger token that isn't later than t
pub record Going (b p : List ℕ) (a : Alternative) (t : Token) (times rests : Choice) : Type 0 where
  pub old : Token
  pub later : Later old t
  pub marked : Marked b p a old a.names times rests

-- what is kept of an alternative: nothing yet, marks of a trigger token that isn't later than t, or no choice any more
abbrev pub Carry : List ℕ → List ℕ → Alternative → Token → Option Found → Type 0
Carry b p a t None = Unit {0}
Carry b p a t (Some (Open m)) = Going b p a t m.times m.rests
Carry b p a t (Some (NoneNow m)) = Going b p a t m.times m.rests
Carry b p a t (Some NoneEver) = Never b p a t

-- what was found for an earlier trigger token, for t: the marks with another trigger token, if there may be a choice
abbrev pub for_token : Token → Lead → Lead
for_token t m = record { times = put m.times 0 t.start.tick t.end.tick t.job; rests = m.rests }

abbrev pub handed : Token → Found → Option Lead
handed t (Open m) = Some (for_token t m)
handed t (NoneNow m) = Some (for_token t m)
handed t NoneEver = None

-- whether it is kept that there is no choice any more
abbrev pub ended : Option Found → Bool
ended None = false
ended (Some (Open m)) = false
ended (Some (NoneNow m)) = false
ended (Some NoneEver) = true

-- what is kept of each of n alternatives from a place on; there are 64 places
pub record Carried (e : ℕ) (b p : List ℕ) (t : Token) (n at : ℕ) (l : List (Option Found)) : Type 0 where
  pub long : length l ≡ 64
  pub each : (i : ℕ) → i < n → Carry b p (alternative_of e b (at + 4 * i)) t (get_or l i None)

-- of alternative number i something else may be kept, and of the others the same
pub record Keeping (b p : List ℕ) (a : Alternative) (t : Token) (i : ℕ) (l l' : List (Option Found)) : Type 0 where
  pub long : length l' ≡ length l
  pub here : Carry b p a t (get_or l' i None)
  pub others : (j : ℕ) → (j ≡ i → ⊥) → get_or l' j None ≡ get_or l j None

-- what is settled by raising: no choice for t, or marks to search from
abbrev pub Settled : List ℕ → List ℕ → Alternative → Token → Option Lead → Type 0
Settled b p a t None = placeable b p a a.names 0 (triggered_in p t) ≡ false
Settled b p a t (Some m) = Leads b p a t m.times m.rests
