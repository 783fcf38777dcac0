-- What the theorems of proofs/Matched are said in. Assumes nothing.
use Rattle.std.specs.Prelude.{List, ℕ, ◌<◌, length, get_or}
use Rattle.book.specs.Rules.{Alternative}
use Rattle.lines.specs.declared.Token.{Token}
use Rattle.claims.specs.Papers.{token_of, On, no_name}

-- each name of the alternative has its token on the named timeline
abbrev pub Named : {C : Type 0} → (ℕ → List Token) → Alternative C → List Token → Type 0
Named lines a tokens = (i : ℕ) → i < length tokens → On (lines (get_or a.names i no_name).variable) (token_of tokens i)
