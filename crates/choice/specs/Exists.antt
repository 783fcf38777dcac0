-- What it means that a trigger token meets a rule, in the words of 01: there is an alternative of the rule, and a token for each of its
-- names, of the named variable and value, so that all that it asks holds. Nothing forbids one token to serve several names, or to be the
-- trigger too. Assumes nothing.
use Rattle.std.specs.Prelude.{◌≡◌, Bool, true, List, [], ◌∷◌, ℕ, ◌+◌, ◌<◌, length, get_or}
use Rattle.book.specs.Rules.{Name, Alternative, Rule}
use Rattle.lines.specs.declared.Token.{Token}
use Rattle.lines.specs.Ends.{plan_end}
use Rattle.choice.specs.Met.{Choice, nobody, triggered, put}

-- x is one of xs
pub record Among {A : Type 0} (x : A) (xs : List A) : Type 0 where
  pub index : ℕ
  pub within : index < length xs
  pub here : get_or xs index x ≡ x

-- the token t is "of the named variable and value"
pub record Serves (lines : ℕ → List Token) (n : Name) (t : Token) : Type 0 where
  pub variable : Among t (lines n.variable)
  pub value : t.value ≡ n.value

-- the choice c with the times and jobs of tokens put to its places k, k + 1, ..
unfoldable pub chosen : Choice → ℕ → List Token → Choice
chosen c k [] = c
chosen c k (t ∷ ts) = chosen (put c k t.start.tick t.end.tick t.job) (k + 1) ts

-- the choice of the trigger token t and of tokens for the names, in their order, in a plan that ends at `end`
unfoldable pub choice_of : ℕ → Token → List Token → Choice
choice_of end t ts = chosen (triggered end t) 1 ts

-- what stands for a name past the last one
abbrev pub no_name : Name
no_name = record { variable = 0; value = 0 }

-- the rest is the same for a book and a sheet: `holds` says when what an alternative asks holds
module _ {C : Type 0} (holds : Choice → C → Bool) (lines : ℕ → List Token) where
  -- the tokens ts meet the alternative a for the trigger token t: there is "a token for each of its names, of the named variable and
  -- value, so that all atoms hold"
  pub record Meets (t : Token) (a : Alternative C) (ts : List Token) : Type 0 where
    pub each : length ts ≡ length a.names
    pub serve : (i : ℕ) → i < length a.names → Serves lines (get_or a.names i no_name) (get_or ts i nobody)
    pub hold : (q : C) → Among q a.asks → holds (choice_of (plan_end lines) t ts) q ≡ true

  -- the "trigger token has an alternative and a token for each of its names .. so that all atoms hold"
  pub record Met (r : Rule C) (t : Token) : Type 0 where
    pub alternative : Alternative C
    pub tokens : List Token
    pub of_rule : Among alternative r.alternatives
    pub meets : Meets t alternative tokens

-- ---- the names

module _ (lines : ℕ → List Token) (p : Choice → Bool) where
  -- the tokens ts can be put for the names to the places k, k + 1, .. of c, so that p passes
  pub record Placed (ns : List Name) (k : ℕ) (c : Choice) (ts : List Token) : Type 0 where
    pub each : length ts ≡ length ns
    pub serve : (i : ℕ) → i < length ns → Serves lines (get_or ns i no_name) (get_or ts i nobody)
    pub pass : p (chosen c k ts) ≡ true
