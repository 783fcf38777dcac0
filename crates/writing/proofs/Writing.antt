-- Words written with a writer, run by run, and what a loop has written. Assumes nothing.
use mathlib.Core.Path.{◌≡◌, refl, ◌∙◌}
use mathlib.Core.List.{List, [], ◌++◌}
use Prim.Native.Nat.{ℕ}
use Rattle.words.specs.Write.{Wrote}
use Rattle.words.proofs.Write.{none, then, has_second}
use Rattle.listing.proofs.Going.{Going, start, go, done, room}
use Rattle.writing.specs.declared.Writer.{Writer}
use Rattle.writing.specs.Writing.{HasRoom, WroteTo}

-- nothing was written
pub to_none : (w : Writer) → WroteTo w w []
to_none w = record { room = refl; words = none _ _ }

-- some words, and then others
pub to_then : {w u v : Writer} {xs ys : List ℕ} → WroteTo w u xs → WroteTo u v ys → WroteTo w v (xs ++ ys)
to_then h q = record { room = q.room ∙ h.room; words = then h.words q.words }

-- the same words, written another way
pub to_as : {w u : Writer} {xs ys : List ℕ} → xs ≡ ys → WroteTo w u xs → WroteTo w u ys
to_as e h = rw (← e) h

-- room for two runs is room for the second, once the first is written
pub to_second : {w u : Writer} {xs : List ℕ} (ys : List ℕ) → WroteTo w u xs → HasRoom w (xs ++ ys) → HasRoom u ys
to_second ys q h = has_second ys q.words h

-- ---- a loop that writes: `all` is to be written with w, which is now u, and `rest` is left

pub record GoingTo (w : Writer) (all : List ℕ) (u : Writer) (rest : List ℕ) : Type 0 where
  pub room : u.words.ghost_name ≡ w.words.ghost_name
  pub words : Going w.words.now w.at all u.words.now u.at rest

-- nothing is written yet
pub to_start : {all rest : List ℕ} (w : Writer) → all ≡ rest → GoingTo w all w rest
to_start w e = record { room = refl; words = start _ _ e }

-- one run more is written
pub to_go : {w u v : Writer} {all rest xs ys : List ℕ} → GoingTo w all u rest → rest ≡ xs ++ ys → WroteTo u v xs → GoingTo w all v ys
to_go g e q = record { room = q.room ∙ g.room; words = go g.words e q.words }

-- nothing is left
pub to_done : {w u : Writer} {all rest : List ℕ} → GoingTo w all u rest → rest ≡ [] → WroteTo w u all
to_done g e = record { room = g.room; words = done g.words e }

-- there is room for what is left
pub to_room : {w u : Writer} {all rest : List ℕ} → HasRoom w all → GoingTo w all u rest → HasRoom u rest
to_room h g = room h g.words

-- what is left in the words that were lent
pub wrote_left : {l m n ws : List ℕ} {at r : ℕ} → Wrote l m at r ws → n ≡ m → Wrote l n at r ws
wrote_left h e = rw e h
