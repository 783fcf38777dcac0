-- What the contracts of the search from the marks cite. The choice goes down by value, so that a token that was tried in vain leaves no
-- trace. Assumes nothing.
use Rattle.std.specs.Prelude.{Option, Some, None, ◌≡◌, Bool, true, ◌&&◌, List, ℕ, ◌+◌, ◌*◌, ◌^◌, ◌<◌, eqb, length, get_or}
use Rattle.words.specs.Lists.{any}
use Rattle.words.specs.Words.{word}
use Rattle.book.specs.Rules.{name_at}
use Rattle.lines.specs.declared.Token.{Token}
use Rattle.lines.specs.Lines.{token_width, job_at, tokens_from, line_of}
use Rattle.lines.specs.Ends.{plan_end}
use Rattle.choice.specs.declared.Alternative.{Alternative}
use Rattle.choice.specs.declared.Tokens.{Tokens}
use Rattle.choice.specs.Met.{Choice, nobody, put, token_time}
use Rattle.choice.specs.Exists.{Among, Serves, choice_of}
use Rattle.choice.specs.Asked.{placeable, Tied}
use Rattle.marks.specs.Marked.{Source}

-- a token of this job is asked for: any, or one of the job that the name is tied to
abbrev pub of_job : Option ℕ → ℕ → Bool
of_job None job = true
of_job (Some asked) job = eqb job asked

-- the token at a place has the value that is asked for, and "the tokens of other jobs" are passed over
unfoldable pub wanted : List ℕ → Tokens → ℕ → Bool
wanted p w place = eqb (word p place) w.value && of_job w.job (job_at p place)

-- the token t, of value v, given to the name after the first j, lets the n names after it be placed
unfoldable pub serving : List ℕ → List ℕ → Alternative → ℕ → ℕ → Choice → ℕ → Token → Bool
serving b p a n j c v t = eqb t.value v && placeable b p a n (j + 1) (put c (j + 1) t.start.tick t.end.tick t.job)

-- one of some tokens does
unfoldable pub token_for : List ℕ → List ℕ → Alternative → ℕ → ℕ → Choice → Tokens → Bool
token_for b p a n j c w = any (serving b p a n j c w.value) (tokens_from p w.count w.place w.start)

-- where a name has a mark (tokens are left at it), no choice for t has a token in front of it
pub record Leads (b p : List ℕ) (a : Alternative) (t : Token) (times rests : Choice) : Type 0 where
  pub each : (j : ℕ) → j < a.names → (token_time rests 0 (j + 1) ≡ 0 → ⊥)
      → Source b p a t j (token_time rests 0 (j + 1)) (token_time rests 1 (j + 1)) (token_time times 0 (j + 1))

-- c is the choice of t and of tokens that serve for the first j names
pub record Begun (b p : List ℕ) (a : Alternative) (t : Token) (j : ℕ) (c : Choice) : Type 0 where
  pub tokens : List Token
  pub size : length tokens ≡ j
  pub serve : (i : ℕ) → i < j → Serves (line_of p) (name_at b (a.name + i * 2)) (get_or tokens i nobody)
  pub is : c ≡ choice_of (plan_end (line_of p)) t tokens

-- some tokens of the line of the name after the first j, for its value; no sum wraps
pub record Along (b p : List ℕ) (a : Alternative) (j : ℕ) (w : Tokens) : Type 0 where
  pub value : w.value ≡ (name_at b (a.name + j * 2)).value
  pub line : (x : Token) → Among x (tokens_from p w.count w.place w.start) → Among x (line_of p (name_at b (a.name + j * 2)).variable)
  pub width : w.width ≡ token_width p
  pub room : w.place + 3 * w.count < 2 ^ 60
  pub small : w.start + 4294967296 * w.count < 2 ^ 64

-- v is the tokens w, with the job that the name after the first j is tied to
pub record Tying (b : List ℕ) (a : Alternative) (c : Choice) (j : ℕ) (w v : Tokens) : Type 0 where
  pub same : v ≡ record { value = w.value; job = v.job; width = w.width; count = w.count; place = w.place; start = w.start }
  pub tie : Tied b a c (j + 1) v.job
