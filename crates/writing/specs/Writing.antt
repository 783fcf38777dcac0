-- What it is to write words with a writer. Assumes nothing.
use Rattle.std.specs.Prelude.{◌≡◌, List, ℕ}
use Rattle.words.specs.Write.{Wrote, Has}
use Rattle.writing.specs.declared.Writer.{Writer}

-- the writer has room for the words ws
abbrev pub HasRoom : Writer → List ℕ → Type 0
HasRoom w ws = Has w.words.now w.at ws

-- the words ws were written with the writer w, which is then u, with the same lent words
pub record WroteTo (w u : Writer) (ws : List ℕ) : Type 0 where
  pub room : u.words.ghost_name ≡ w.words.ghost_name
  pub words : Wrote w.words.now u.words.now w.at u.at ws
