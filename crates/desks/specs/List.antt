-- The list that says whose each rule is. Assumes nothing.
use Rattle.std.specs.Prelude.{Bool, ◌&&◌, List, ℕ, leb, eqb, length}
use Rattle.words.specs.Lists.{all}
use Rattle.layout.specs.Layout.{count}

-- "A lent list has one word for each rule, its desk": "Two desks, 0 and 1"
unfoldable pub list_right : List ℕ → List ℕ → Bool
list_right b desks = eqb (length desks) (count b 2) && all (λ w. leb w 1) desks
