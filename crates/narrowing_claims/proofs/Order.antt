-- "until nothing changes": nothing more can be cut of the table that `narrow` leaves; whoever cuts the first table, any pair by way of any
-- third token in any order, and stops where nothing more can be cut, has the same table; and an empty set empties every other, a token with
-- itself included. Assumes nothing.
use mathlib.Core.Path.{◌≡◌}
use mathlib.Core.List.{List}
use Prim.Native.Nat.{ℕ, ◌*◌, ◌≤◌, ◌<◌}
use native.Mathlib.Omega.{arith}
use lib.ListN.{length}
use Rattle.words.specs.Words.{word}
use Rattle.narrowing.specs.Narrowed.{Sub, Closed, Cut}
use Rattle.narrowing.specs.Sheet.{alternative_of, first_table, narrowing, table_after}
use Rattle.narrowing.proofs.Steps.{cut_none, cut_then, cut_one, closed_when}
use Rattle.narrowing.proofs.Ends.{one_end, nothing_cut, all_empty}
use Rattle.narrowing.proofs.Sheets.{answered, first-long, table-narrowed}
use Rattle.narrowing_claims.specs.Kept.{set_of}
use Rattle.narrowing_claims.specs.Order.{Cuts, Still, none, more}

-- ---- laws

cuts_cut : (n : ℕ) (start m : List ℕ) → n * n ≤ length start → Cuts n start m → Cut n start m
cuts_cut n start _ l none = cut_none n start
cuts_cut n start _ l (more m i k j a b c r) =
    let f = cuts_cut n start m l r in
    let size = f.size in
    cut_then f (cut_one n i k j m a b c (omega arith))

-- ---- THE CLAIMS

module _ (s : List ℕ) (a : ℕ) (m : List ℕ) (z : (narrowing s a (length m)).number ≡ 0) where
  abbrev n : ℕ
  n = (alternative_of s a).tokens

  -- nothing more can be cut
  pub fixed : Still n (table_after s a m)
  fixed = nothing_cut n (table_after s a m) (table-narrowed s a m z).closed

  -- the order of cutting doesn't matter
  pub any_order : (t : List ℕ) → Cuts n (first_table s (alternative_of s a) m) t → Still n t → t ≡ table_after s a m
  any_order t r still =
      one_end (record { cut = cuts_cut n _ t (first-long s a m (answered s a (length m) z).enough) r; closed = closed_when n t still }) (table-narrowed s a m z)

  -- and the table is the greatest of those below the first that composition cuts nothing of
  pub greatest : (x : ℕ → ℕ) → Closed n x → ((p : ℕ) → p < n * n → Sub (x p) (word (first_table s (alternative_of s a) m) p))
      → (p : ℕ) → p < n * n → Sub (x p) (word (table_after s a m) p)
  greatest = (table-narrowed s a m z).cut.keeps

  -- an empty set leaves none
  pub one_empty : (i j : ℕ) → i < n → j < n → set_of n (table_after s a m) i j ≡ 0 → (k l : ℕ) → k < n → l < n → set_of n (table_after s a m) k l ≡ 0
  one_empty = all_empty n (table_after s a m) (table-narrowed s a m z).closed
