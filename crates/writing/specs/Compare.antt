-- The words of a relation's atoms, from a table of comparisons: a comparison is 32 and five bits, left kind, left token, right kind, right
-- token, strict; 0 is none. Assumes nothing.
--
-- For example, the second comparison of "overlaps", start of right < end of left, is 45:
--
--     45 = 32 + 0 * 16 + 1 * 8 + 1 * 4 + 0 * 2 + 1
--               start    right   end     left    strict
use Rattle.std.specs.Prelude.{ℕ, zero, suc, ◌/◌, ◌%◌}
use mathlib.Core.List.{List, [], ◌∷◌, flat_map}
use Rattle.clock.specs.Clock.{no_limit}
use Rattle.book.specs.Encode.{atom_words}
use Rattle.allen.specs.Atoms.{atoms_of}

-- which token, and the upper bound of a strict comparison or an equal one
abbrev pub side : ℕ → ℕ → ℕ → ℕ
side zero l r = l
side (suc k) l r = r

abbrev pub upper : ℕ → ℕ
upper zero = 0
upper (suc k) = no_limit

-- the words of a comparison's atom, of the tokens l and r
abbrev pub compared : ℕ → ℕ → ℕ → List ℕ
compared zero l r = []
compared (suc k) l r =
    (suc k) / 16 % 2 ∷ side ((suc k) / 8 % 2) l r ∷ (suc k) / 4 % 2 ∷ side ((suc k) / 2 % 2) l r ∷ (suc k) % 2 ∷ upper ((suc k) % 2) ∷ []

-- the three comparisons of each relation
abbrev pub comparisons : List (List ℕ)
comparisons =
    (51 ∷ 0 ∷ 0 ∷ [])
    ∷ (50 ∷ 0 ∷ 0 ∷ [])
    ∷ (35 ∷ 45 ∷ 55 ∷ [])
    ∷ (35 ∷ 54 ∷ 0 ∷ [])
    ∷ (35 ∷ 61 ∷ 0 ∷ [])
    ∷ (34 ∷ 55 ∷ 0 ∷ [])
    ∷ (34 ∷ 54 ∷ 0 ∷ [])
    ∷ (34 ∷ 61 ∷ 0 ∷ [])
    ∷ (41 ∷ 55 ∷ 0 ∷ [])
    ∷ (41 ∷ 54 ∷ 0 ∷ [])
    ∷ (41 ∷ 39 ∷ 61 ∷ [])
    ∷ (56 ∷ 0 ∷ 0 ∷ [])
    ∷ (57 ∷ 0 ∷ 0 ∷ [])
    ∷ (0 ∷ 0 ∷ 0 ∷ [])
    ∷ (0 ∷ 0 ∷ 0 ∷ [])
    ∷ (0 ∷ 0 ∷ 0 ∷ [])
    ∷ []

-- the words of a relation's atoms
unfoldable pub relation_words : ℕ → ℕ → ℕ → List ℕ
relation_words x l r = flat_map atom_words (atoms_of x l r)
