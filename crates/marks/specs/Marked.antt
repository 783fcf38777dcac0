-- What raising the marks cites. Each name has a mark, a token of its line: no choice has for it a token in front of the mark, for this
-- trigger token or a later one. Start and end grow along a line, so the marked tokens are at most those of any choice; an ask that fails at
-- the marks tells a side that is too early there, and if that side is a name's, its mark is moved on. Assumes nothing.
use Rattle.std.specs.Prelude.{Option, Some, None, ◌≡◌, Bool, true, false, ◌&&◌, ◌||◌, not, cond, List, [], ◌∷◌, ℕ, suc, ◌+◌, ◌-◌, ◌*◌, ◌^◌, ◌≤◌, ◌<◌, leb, ltb, length, get_or}
use Rattle.words.specs.Words.{word, in_set}
use Rattle.words.specs.Runs.{run}
use Rattle.book.specs.Rules.{name_at}
use Rattle.lines.specs.declared.Token.{Token}
use Rattle.lines.specs.Lines.{token, token_width, tokens_from, line_of}
use Rattle.lines.specs.Ends.{plan_end}
use Rattle.choice.specs.declared.Alternative.{Alternative}
use Rattle.choice.specs.declared.Tokens.{Tokens}
use Rattle.choice.specs.Met.{Choice, choice_size, nobody, put, token_time, end_time, atom_holds}
use Rattle.choice.specs.Exists.{Among, Placed, choice_of}
use Rattle.choice.specs.Asked.{ask_holds, asks_hold, triggered_in}
use Rattle.marks.specs.declared.Seen.{Seen}
use Rattle.marks.specs.declared.Found.{Found}
use Rattle.marks.specs.declared.Found.TheVariants.{Open, NoneNow, NoneEver}
use Rattle.marks.specs.declared.Lead.{Lead}

-- ---- the next token of a value

-- of some tokens only such as have another value than the one asked for were passed over, in front of the last `left`
pub record Skipped (p : List ℕ) (w : Tokens) (left at from : ℕ) : Type 0 where
  pub lost : (x : Token) → Among x (tokens_from p w.count w.place w.start) → x.value ≡ w.value → Among x (tokens_from p left at from)
  pub back : (x : Token) → Among x (tokens_from p left at from) → Among x (tokens_from p w.count w.place w.start)
  pub fewer : left ≤ w.count
  pub room : at + 3 * left ≤ w.place + 3 * w.count
  pub small : from + 4294967296 * left ≤ w.start + 4294967296 * w.count

-- s is the first of that value, from its start to its end
pub record Here (p : List ℕ) (w : Tokens) (s : Seen) : Type 0 where
  pub skipped : Skipped p w s.left s.place s.start
  pub some : s.left ≡ 0 → ⊥
  pub end : s.end ≡ s.start + word p (s.place + 1)

-- none of the tokens has that value
pub record Nowhere (p : List ℕ) (w : Tokens) : Type 0 where
  pub nowhere : (x : Token) → Among x (tokens_from p w.count w.place w.start) → x.value ≡ w.value → ⊥

-- the first of that value, or none
abbrev pub Sought : List ℕ → Tokens → Option Seen → Type 0
Sought p w None = Nowhere p w
Sought p w (Some s) = Here p w s

-- the token sought is put as name number k to the choice c, but for its job, and its tokens left and its place to r
pub record PutTo (p : List ℕ) (k : ℕ) (w : Tokens) (c r c' r' : Choice) : Type 0 where
  pub seen : Seen
  pub here : Here p w seen
  pub times : c' ≡ put c k seen.start seen.end 0
  pub marks : r' ≡ put r k seen.left seen.place 0

-- it is, unless there is none
pub record Advanced (p : List ℕ) (k : ℕ) (w : Tokens) (c r c' r' : Choice) (found : Bool) : Type 0 where
  pub none : found ≡ false → Nowhere p w
  pub some : found ≡ true → PutTo p k w c r c' r'

-- the tokens behind the mark of name number k, for its value
abbrev pub next_of : List ℕ → List ℕ → Alternative → ℕ → Choice → Choice → Tokens
next_of b p a k c r =
    record {
      value = word b (a.name + 2 * (k - 1) + 1);
      job = None;
      width = token_width p;
      count = token_time r 0 k - 1;
      place = token_time r 1 k + token_width p;
      start = token_time c 1 k;
    }

-- ---- which name is too early

-- d is a choice of later tokens in the same plan, but for the names past the n-th, which it hasn't
pub record Grown (n : ℕ) (c d : Choice) : Type 0 where
  pub last : end_time c ≡ end_time d
  pub later : (kind x : ℕ) → kind < 2 → token_time c kind x ≤ token_time d kind x
  pub past : (kind x : ℕ) → kind < 2 → n < x → token_time c kind x ≡ token_time d kind x

-- name number x (0: the trigger) starts or ends later in d
pub record Ahead (c d : Choice) (x : ℕ) : Type 0 where
  pub kind : ℕ
  pub token : kind < 2
  pub ahead : token_time c kind x < token_time d kind x

-- a test passes for no choice of later tokens unless name number x (0: the trigger) is later
pub record Behind (c : Choice) (n x : ℕ) (test : Choice → Bool) : Type 0 where
  pub few : x ≤ n
  pub ahead : (d : Choice) → Grown n c d → test d ≡ true → Ahead c d x

-- the name that is told is behind
pub record Told (c : Choice) (n : ℕ) (r : Option ℕ) (test : Choice → Bool) : Type 0 where
  pub behind : (x : ℕ) → r ≡ Some x → Behind c n x test

-- the number of the name that a term is of, and 0 for the trigger, for a time point, for the plan's end and past the n-th name
unfoldable pub whose : ℕ → ℕ → ℕ → ℕ
whose kind x n = cond (ltb kind 2 && leb x n) x 0

-- what two terms, of kinds i and j, are asked
unfoldable pub within : ℕ → ℕ → ℕ → ℕ → ℕ → ℕ → Choice → Bool
within i x j y lower upper d = atom_holds d (record { left_kind = i; left = x; right_kind = j; right = y; lower = lower; upper = upper })

-- what stands at a place of table 5 holds, as a test of the choice
unfoldable pub ask_at : ℕ → List ℕ → ℕ → Choice → Bool
ask_at e b at d = ask_holds e b d at

-- ---- sets of relations

-- for s..e and s'..e' at the marks, which relations need a later right stretch: an end of it that has to lie behind one of the left
-- stretch, or at it, and lies before. The last is for stretches in no relation
abbrev pub needs_right : ℕ → ℕ → ℕ → ℕ → List Bool
needs_right s e s' e' =
    leb s' e
    ∷ ltb s' e
    ∷ (leb s' s || leb e' e)
    ∷ (leb s' s || ltb e' e)
    ∷ leb s' s
    ∷ (ltb s' s || leb e' e)
    ∷ (ltb s' s || ltb e' e)
    ∷ ltb s' s
    ∷ leb e' e
    ∷ ltb e' e
    ∷ leb e' s
    ∷ ltb e' s
    ∷ false
    ∷ false
    ∷ []

-- and which need a later left one
abbrev pub needs_left : ℕ → ℕ → ℕ → ℕ → List Bool
needs_left s e s' e' =
    false
    ∷ ltb e s'
    ∷ leb e s'
    ∷ ltb e e'
    ∷ leb e e'
    ∷ ltb s s'
    ∷ (ltb s s' || ltb e e')
    ∷ (ltb s s' || leb e e')
    ∷ leb s s'
    ∷ (leb s s' || ltb e e')
    ∷ (leb s s' || leb e e')
    ∷ ltb s e'
    ∷ leb s e'
    ∷ false
    ∷ []

-- each relation of a set, from number i on, needs it
unfoldable pub all_need : ℕ → ℕ → List Bool → Bool
all_need set i [] = true
all_need set i (n ∷ ns) = (not (in_set set i) || n) && all_need set (suc i) ns

-- ---- the marks

-- u neither starts nor ends before t
pub record Later (t u : Token) : Type 0 where
  pub start : t.start.tick ≤ u.start.tick
  pub end : t.end.tick ≤ u.end.tick

-- the tokens ts are a choice for the trigger token u: "a token for each of its names .. so that all atoms hold"
abbrev pub Choosing : List ℕ → List ℕ → Alternative → Token → List Token → Type 0
Choosing b p a u ts = Placed (line_of p) (asks_hold b a) (run (name_at b) 2 a.names a.name) 1 (triggered_in p u) ts

-- every choice for t, or for a later trigger token, has for name j one of the count tokens from a place on, which are of its line
pub record Source (b p : List ℕ) (a : Alternative) (t : Token) (j count place start : ℕ) : Type 0 where
  pub from : (u : Token) → Later t u → (ts : List Token) → Choosing b p a u ts → Among (get_or ts j nobody) (tokens_from p count place start)
  pub line : (x : Token) → Among x (tokens_from p count place start) → Among x (line_of p (name_at b (a.name + j * 2)).variable)
  pub room : place + 3 * count < 2 ^ 60
  pub small : start + 4294967296 * count < 2 ^ 64

-- the token h, with `left` tokens left from it on, the words of which stand from a place on, is the mark of name j; its job is left out
pub record Mark (b p : List ℕ) (a : Alternative) (t : Token) (j : ℕ) (h : Token) (left place : ℕ) : Type 0 where
  pub some : left ≡ 0 → ⊥
  pub head : h ≡ token (word p place) h.start.tick (h.start.tick + word p (place + 1)) 0
  pub source : Source b p a t j left place h.start.tick

-- c is the choice of the trigger token t and of the marks of the first i names, and r has the tokens left at each mark and its place
pub record Marked (b p : List ℕ) (a : Alternative) (t : Token) (i : ℕ) (c r : Choice) : Type 0 where
  pub heads : List Token
  pub size : length heads ≡ i
  pub few : i ≤ a.names
  pub four : a.names ≤ 4
  pub is : c ≡ choice_of (plan_end (line_of p)) t heads
  pub long : length r ≡ choice_size
  pub each : (j : ℕ) → j < i → Mark b p a t j (get_or heads j nobody) (token_time r 0 (j + 1)) (token_time r 1 (j + 1))

-- no choice for the trigger token t, nor for a later one
pub record Never (b p : List ℕ) (a : Alternative) (t : Token) : Type 0 where
  pub never : (u : Token) → Later t u → (ts : List Token) → Choosing b p a u ts → ⊥

-- the marks of all names, or no choice at all
abbrev pub Started : List ℕ → List ℕ → Alternative → Token → Option Lead → Type 0
Started b p a t None = Never b p a t
Started b p a t (Some m) = Marked b p a t a.names m.times m.rests

-- what raising leaves: marks; marks, and no choice for the trigger token t; no choice any more
abbrev pub Raised : List ℕ → List ℕ → Alternative → Token → Found → Type 0
Raised b p a t (Open m) = Marked b p a t a.names m.times m.rests
Raised b p a t (NoneNow m) = Marked b p a t a.names m.times m.rests × ((ts : List Token) → Choosing b p a t ts → ⊥)
Raised b p a t NoneEver = Never b p a t
