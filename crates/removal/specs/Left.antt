-- The numbers of the rules that are kept, from an index on, and what closing up asks and gives. Assumes nothing.
use Rattle.std.specs.Prelude.{◌≡◌, ℕ, ◌-◌, ◌≤◌, ◌<◌, true, List, length, get_or}
use Rattle.answers.specs.declared.Numbers.{Numbers}
use Rattle.answers.specs.Numbers.{numbers}
use Rattle.layout.specs.Layout.{count}
use Rattle.book.specs.Rules.{rules_of}
use Rattle.book.specs.Encode.{atoms}
use Rattle.book.specs.Sound.{Sound}
use Rattle.closing.specs.Left.{numbers_from}
use Rattle.removal.specs.Removed.{kept, removed_book, in_front}
use Rattle.removal.specs.Removal.{rising}

-- the numbers of the kept rules, of n, from rule i on
unfoldable pub left_from : List ℕ → ℕ → ℕ → List ℕ
left_from list n i = kept list i (numbers_from (n - i) i)

-- no number is below its index
abbrev pub Climbs : List ℕ → Type 0
Climbs left = (i : ℕ) → i < length left → i ≤ get_or left i 0

-- nothing is refused: the book b, its list of desks d, and the list, for n rules
pub record Right (b d list : List ℕ) (n : ℕ) : Type 0 where
  pub sound : Sound 1 b
  pub desks : length d ≡ count b 2
  pub rules : n ≡ count b 2
  pub rises : rising 0 n list ≡ true

-- and so both are closed up
pub record ClosedUp (b d list : List ℕ) (r : Numbers) (b' d' : List ℕ) : Type 0 where
  pub answer : r ≡ numbers 0 (length (removed_book b list)) (length (kept list 0 (rules_of atoms b)))
  pub book : b' ≡ in_front (removed_book b list) b
  pub desks : d' ≡ in_front (kept list 0 d) d
