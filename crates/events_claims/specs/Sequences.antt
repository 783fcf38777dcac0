-- 000, Definitions 4.1 to 4.3, as Types over decoded events: event sequences, closed ones, and how they correspond to plans. An action has a
-- job too (02, L7), which the papers don't have: "start(x, v) ∈ A_i" is said of some job. Assumes nothing.
use Rattle.std.specs.Prelude.{◌≡◌, ◌⊎◌, ◌↔◌, List, [], ◌∷◌, ℕ, zero, suc, ◌+◌, ◌≤◌, ◌<◌, length, get_or}
use Rattle.lines.specs.declared.Token.{Token}
use Rattle.event_list.specs.Events.{Action, Event, action, event}

-- a is one of the list
abbrev pub Has : {A : Type 0} → A → List A → Type 0
Has a [] = ⊥
Has a (x ∷ xs) = (a ≡ x) ⊎ Has a xs

-- "μ_i = (A_i, δ_i)", counted from 0
abbrev pub no_event : Event
no_event = event 0 []

abbrev pub actions_of : List Event → ℕ → List Action
actions_of es i = (get_or es i no_event).actions

abbrev pub delay_of : List Event → ℕ → ℕ
delay_of es i = (get_or es i no_event).delay

-- the delays of the first i of these events
unfoldable pub delays : List Event → ℕ → ℕ
delays es zero = 0
delays [] (suc i) = 0
delays (e ∷ es) (suc i) = e.delay + delays es i

-- "δ_1,i": the time of event i; "the value of δ_1 of the first event is ignored"
unfoldable pub time_at : List Event → ℕ → ℕ
time_at [] i = 0
time_at (e ∷ es) i = delays es i

-- "start(x, v) ∈ A_i" (kind 1) and "end(x, v) ∈ A_i" (kind 0)
pub record Acts (kind : ℕ) (es : List Event) (x v i : ℕ) : Type 0 where
  pub below : i < length es
  pub job : ℕ
  pub has : Has (action x v kind job) (actions_of es i)

abbrev pub Starts : List Event → ℕ → ℕ → ℕ → Type 0
Starts = Acts 1

abbrev pub Ends : List Event → ℕ → ℕ → ℕ → Type 0
Ends = Acts 0

-- there is an event k with from ≤ k < to at which an action of the kind stands
pub record Between (kind : ℕ) (es : List Event) (x v from to : ℕ) : Type 0 where
  pub index : ℕ
  pub least : from ≤ index
  pub most : index < to
  pub acts : Acts kind es x v index

-- an action of the kind, of some value
pub record Some (kind : ℕ) (es : List Event) (x i : ℕ) : Type 0 where
  pub value : ℕ
  pub acts : Acts kind es x value i

-- 000, Definition 4.1, an event sequence over n state variables, variable x with so many values: A_i is "a non-empty set of actions", "of the
-- form start(x, v) or end(x, v), where x ∈ SV and v ∈ V_x", δ_i is positive (the first is ignored), and its four items, the first two said
-- forward: a later start of x has an end of the first's value before it or with it, and likewise for ends
pub record EventSequence (n : ℕ) (values : ℕ → ℕ) (es : List Event) : Type 0 where
  pub action : (i : ℕ) → i < length es → (a : Action) → Has a (actions_of es i)
      → (a.line < n) × (a.value < values a.line) × ((a.kind ≡ 0) ⊎ (a.kind ≡ 1))
  pub non_empty : (i : ℕ) → i < length es → 0 < length (actions_of es i)
  pub delay : (i : ℕ) → 0 < i → i < length es → 0 < delay_of es i
  pub item1 : (x v u i j : ℕ) → Starts es x v i → Starts es x u j → i < j → Between 0 es x v (i + 1) (j + 1)
  pub item2 : (x v u i j : ℕ) → Ends es x v i → Ends es x u j → j < i → Between 1 es x v j i
  pub item3 : (x v i : ℕ) → Ends es x v i → i + 1 < length es → Some 1 es x i
  pub item4 : (x v i : ℕ) → Starts es x v i → 0 < i → Some 0 es x i

-- 000, Definition 4.2, "closed on the right (left)": each start has an end later, each end a start before
pub record Closed (es : List Event) : Type 0 where
  pub right : (x v i : ℕ) → Starts es x v i → Between 0 es x v (i + 1) (length es)
  pub left : (x v i : ℕ) → Ends es x v i → Between 1 es x v 0 i

-- 000, Definition 4.3: "start(x, v) ∈ A_i (end(x, v) ∈ A_i) iff there is a τ_j such that val(τ_j) = v and start-time(τ_j) = δ_1,i
-- (end-time(τ_j) = δ_1,i)"
pub record TokenAt (line : List Token) (time : Token → ℕ) (v t : ℕ) : Type 0 where
  pub token : Token
  pub on : Has token line
  pub value : token.value ≡ v
  pub when : time token ≡ t

pub record Corresponds (n : ℕ) (lines : ℕ → List Token) (es : List Event) : Type 0 where
  pub starts : (x v i : ℕ) → x < n → i < length es → Starts es x v i ↔ TokenAt (lines x) (λ (t : Token). t.start.tick) v (time_at es i)
  pub ends : (x v i : ℕ) → x < n → i < length es → Ends es x v i ↔ TokenAt (lines x) (λ (t : Token). t.end.tick) v (time_at es i)

-- "the pair (i, j) of indices identifies a token .. if start(x, val(τ)) ∈ A_i and end(x, val(τ)) ∈ A_j, and there are no other actions
-- referring to x in the events between"
pub record Identifies (es : List Event) (x v i j : ℕ) : Type 0 where
  pub start : Starts es x v i
  pub end : Ends es x v j
  pub order : i < j
  pub alone : (k : ℕ) → i < k → k < j → (a : Action) → Has a (actions_of es k) → a.line ≡ x → ⊥
