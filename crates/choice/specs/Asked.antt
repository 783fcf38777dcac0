-- What the contracts of the search cite: the decoded meaning under short names, with the code's places for arguments. What an alternative
-- asks is named by its place in table 5, so that a book and a sheet share all of it but `ask_holds`. Assumes nothing.
use Rattle.std.specs.Prelude.{Option, Some, None, ◌≡◌, Bool, true, ◌&&◌, ◌||◌, not, cond, ◌⊎◌, List, [], ℕ, ◌+◌, ◌*◌, ◌<◌, eqb, leb, ltb, length}
use Rattle.words.specs.Lists.{any, all}
use Rattle.words.specs.Runs.{run}
use Rattle.words.specs.Words.{word}
use Rattle.layout.specs.Layout.{fifth_width, offset}
use Rattle.book.specs.Rules.{Fifth, name_at, atom_at, constraint_at, alternative_at}
use Rattle.lines.specs.declared.Token.{Token}
use Rattle.lines.specs.Lines.{token_width, line_of, line_count, line_place}
use Rattle.lines.specs.Ends.{plan_end}
use Rattle.choice.specs.declared.Tokens.{Tokens}
use Rattle.choice.specs.declared.Alternative.{Alternative}
use Rattle.choice.specs.Met.{Choice, choice_size, put, token_job, atom_holds, constraint_holds, place, alternative_met, triggered}

-- table 5 read by place alone
abbrev pub places : ℕ → Fifth ℕ
places e = record { width = fifth_width e; read = λ b at. at; words = λ at. [] }

-- what stands at a place of table 5 holds: an atom in a book, a constraint in a sheet
unfoldable pub ask_holds : ℕ → List ℕ → Choice → ℕ → Bool
ask_holds e b c at = cond (eqb e 2) (constraint_holds c (constraint_at b at)) (atom_holds c (atom_at b at))

-- the m asks from a place on all hold
unfoldable pub all_hold : ℕ → List ℕ → Choice → ℕ → ℕ → Bool
all_hold e b c m at = all (ask_holds e b c) (run ((places e).read b) (fifth_width e) m at)

-- "so that all atoms hold": all that an alternative asks holds for a choice
unfoldable pub asks_hold : List ℕ → Alternative → Choice → Bool
asks_hold b a c = all_hold a.edition b c a.asks a.ask

-- tokens can be chosen for the n names of an alternative that come after the first j, so that all that it asks holds
unfoldable pub placeable : List ℕ → List ℕ → Alternative → ℕ → ℕ → Choice → Bool
placeable b p a n j c = place (line_of p) (asks_hold b a) (run (name_at b) 2 n (a.name + j * 2)) (j + 1) c

-- the choice of the trigger token t alone, in the plan p
abbrev pub triggered_in : List ℕ → Token → Choice
triggered_in p t = triggered (plan_end (line_of p)) t

-- one of the n alternatives from a place on is met for the trigger token t
unfoldable pub met_at : ℕ → List ℕ → List ℕ → Token → ℕ → ℕ → Bool
met_at e b p t n at = any (alternative_met (ask_holds e b) (line_of p) (triggered_in p t)) (run (alternative_at (places e) b) 4 n at)

-- ---- what can be tested before all names have their tokens

-- the time of a term is known once j names have their tokens: a time point's, the plan's end, the trigger's, and that of one of those names
unfoldable pub term_placed : ℕ → ℕ → ℕ → Bool
term_placed kind x j = (eqb kind 2 || eqb kind 3) || (ltb kind 2 && leb x j)

-- and so are an atom's two terms
unfoldable pub terms_placed : List ℕ → ℕ → ℕ → Bool
terms_placed b at j = term_placed (word b at) (word b (at + 1)) j && term_placed (word b (at + 2)) (word b (at + 3)) j

-- all that a constraint, an atom of jobs, or another atom names
unfoldable pub ask_placed : ℕ → List ℕ → ℕ → ℕ → Bool
ask_placed e b at j =
    cond (eqb e 2) (leb (word b at) j && leb (word b (at + 1)) j)
    (cond (eqb (word b at) 4) (leb (word b (at + 1)) j && leb (word b (at + 3)) j) (terms_placed b at j))

-- what stands at a place holds, or can't be tested yet; with all names placed each is tested
unfoldable pub ask_passes : List ℕ → Alternative → Choice → ℕ → ℕ → Bool
ask_passes b a c j at = ltb j a.names && not (ask_placed a.edition b at j) || ask_holds a.edition b c at

-- the m asks from a place on do
unfoldable pub hold_so_far : List ℕ → Alternative → Choice → ℕ → ℕ → ℕ → Bool
hold_so_far b a c j m at = all (ask_passes b a c j) (run ((places a.edition).read b) (fifth_width a.edition) m at)

-- ---- which job is asked for

-- the ask at a place is an atom of jobs that ties name number k to the trigger or to a name before it, which has this job
pub record TiedAt (b : List ℕ) (c : Choice) (k at : ℕ) (tied : Option ℕ) : Type 0 where
  pub jobs : (job : ℕ) → tied ≡ Some job → word b at ≡ 4
  pub other : (job : ℕ) → tied ≡ Some job
      → ((word b (at + 1) ≡ k) × (word b (at + 3) < k) × (job ≡ token_job c (word b (at + 3))))
      ⊎ ((word b (at + 3) ≡ k) × (word b (at + 1) < k) × (job ≡ token_job c (word b (at + 1))))

-- name number k is tied to a job by what an alternative asks: a token of another job for it fails as soon as it is put
pub record Tied (b : List ℕ) (a : Alternative) (c : Choice) (k : ℕ) (tied : Option ℕ) : Type 0 where
  pub only : (job : ℕ) → tied ≡ Some job → length c ≡ choice_size
      → (start end other : ℕ) → hold_so_far b a (put c k start end other) k a.asks a.ask ≡ true → other ≡ job

-- ---- what the functions that read a record give

-- the value that the name at a place asks for, and the tokens of its line; no job is asked for
abbrev pub tokens_of : List ℕ → List ℕ → ℕ → Tokens
tokens_of b p name =
    record {
      value = word b (name + 1);
      job = None;
      width = token_width p;
      count = line_count p (word b name);
      place = line_place p (word b name);
      start = 0;
    }

-- where the names and the asks of an alternative are, and how many
abbrev pub alternative_of : ℕ → List ℕ → ℕ → Alternative
alternative_of e b k =
    record {
      edition = e;
      name = offset b 4 + 2 * word b k;
      names = word b (k + 1);
      ask = offset b 5 + fifth_width e * word b (k + 2);
      asks = word b (k + 3);
    }
