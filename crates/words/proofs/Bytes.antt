-- The laws of what specs/Bytes defines. Assumes nothing.
use Prim.Native.Nat.{ℕ, zero, suc, ◌+◌, ◌*◌, ◌<◌}
use native.Mathlib.Numerals.{add-one}
use native.Mathlib.Omega.{arith}
use mathlib.Core.Path.{◌≡◌, refl}
use mathlib.Core.List.{List, [], ◌∷◌, ◌++◌}
use lib.ListN.{length, get_or, take}
use Rattle.words.specs.Bytes.{bytes_of_word, bytes_of}

-- ---- laws of `bytes_of`

pub bytes_more : (ws : List ℕ) (i : ℕ) → i < length ws → bytes_of (take (i + 1) ws) ≡ bytes_of (take i ws) ++ bytes_of_word (get_or ws i 0)
unfolding bytes_of
bytes_more [] i h = absurd (omega arith)
bytes_more (w ∷ ws) zero h = refl
bytes_more (w ∷ ws) (suc i) h = rw (add-one, bytes_more' ws i (bytes_more ws i (omega arith)))
  where
    bytes_more' : (ws : List ℕ) (i : ℕ) → bytes_of (take (i + 1) ws) ≡ bytes_of (take i ws) ++ bytes_of_word (get_or ws i 0)
        → bytes_of (take (suc i) ws) ≡ bytes_of (take i ws) ++ bytes_of_word (get_or ws i 0)
    bytes_more' ws i h = rw (← add-one) h

pub length_bytes : (ws : List ℕ) → length (bytes_of ws) ≡ 4 * length ws
unfolding bytes_of
length_bytes [] = refl
length_bytes (w ∷ ws) = omega (arith, length_bytes ws)
