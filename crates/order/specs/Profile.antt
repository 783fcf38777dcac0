-- Books that speak only of order: the profile, and answer 26. Assumes nothing.
use Rattle.std.specs.Prelude.{Bool, ◌&&◌, ◌||◌, not, cond, List, ℕ, eqb}
use Rattle.answers.specs.declared.Numbers.{Numbers}
use Rattle.answers.specs.Numbers.{numbers, no_fault}
use Rattle.words.specs.Lists.{all}
use Rattle.words.specs.Runs.{run}
use Rattle.clock.specs.Clock.{no_limit}
use Rattle.layout.specs.Layout.{count, offset}
use Rattle.book.specs.Rules.{Atom, atom_at}
use Rattle.book.specs.Fault.{book_fault}

-- "none has a time point"; "Books with kind 3 are outside L2's profile"
unfoldable pub timeless : ℕ → Bool
timeless kind = not (eqb kind 2) && not (eqb kind 3)

-- "(lower, upper) = (0, N), (1, N) or (0, 0)"
unfoldable pub order_bounds : ℕ → ℕ → Bool
order_bounds lower upper = eqb lower 0 && eqb upper no_limit || eqb lower 1 && eqb upper no_limit || eqb lower 0 && eqb upper 0

-- an atom that speaks only of order
unfoldable pub order_atom : Atom → Bool
order_atom a = timeless a.left_kind && timeless a.right_kind && order_bounds a.lower a.upper

-- "every atom is" such
unfoldable pub all_order : List ℕ → Bool
all_order b = all order_atom (run (atom_at b) 6 (count b 5) (offset b 5))

-- "a yes or no that holds exactly for such books": it passes 1 to 4, and every atom is such
unfoldable pub order_only : List ℕ → Bool
order_only b = eqb (book_fault 1 b).number 0 && all_order b

-- "26 after 4 for a book outside the profile"
unfoldable pub profile_fault : List ℕ → Numbers
profile_fault b = cond (all_order b) no_fault (numbers 26 0 0)
