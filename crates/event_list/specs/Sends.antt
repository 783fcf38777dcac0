-- Words sent in a row: each is stored in a room, where it fits, and compared with a list. Assumes nothing.
use Rattle.std.specs.Prelude.{◌≡◌, Bool, true, ◌&&◌, List, [], ◌∷◌, ℕ, ◌+◌, eqb, length}
use Rattle.words.specs.Words.{word}
use Rattle.words.specs.Write.{puts}

-- the words ws stand in a list from a place on
abbrev pub agrees : List ℕ → ℕ → List ℕ → Bool
agrees list at [] = true
agrees list at (w ∷ ws) = eqb (word list at) w && agrees list (at + 1) ws

-- sent from `at` on, after words that agreed or not (s): what the room holds, the place behind them, and whether all agree so far
pub record Sends (list before after : List ℕ) (at : ℕ) (s : Bool) (next : ℕ) (t : Bool) (ws : List ℕ) : Type 0 where
  pub stored : after ≡ puts before at ws
  pub place : next ≡ at + length ws
  pub same : t ≡ (s && agrees list at ws)

-- the list is these words: they agree from its start on, and end with it
unfoldable pub is_words : List ℕ → List ℕ → Bool
is_words list ws = agrees list 0 ws && eqb (length ws) (length list)
