-- The choices of a sheet as numbers. An item is one alternative of the book to be: the place of the sheet's alternative that it comes from,
-- and 16384 times its choice, a digit to the base 16 for each constraint, the first constraint's lowest. `rules_by` are the book's rules, read
-- off the items. Assumes nothing.
--
-- For example, the alternative at word 27 has two constraints, and "meets" (1) is chosen for the first, "during" (8) for the second:
--
--     item = 27 + 16384 * (1 + 16 * 8)        item % 16384 = 27    where the alternative stands
--          = 2113563                          item / 16384 = 129   its choice: 129 % 16 = 1, "meets"; 129 / 16 = 8, "during"
use Rattle.std.specs.Prelude.{ℕ, zero, suc, ◌+◌, ◌-◌, ◌<◌, ◌*◌, ◌/◌, ◌%◌, ◌^◌, take, drop, set}
use mathlib.Core.List.{List, [], ◌∷◌, ◌++◌, map, flat_map}
use Rattle.words.specs.Runs.{run}
use Rattle.words.specs.Words.{word, in_set}
use Rattle.layout.specs.Layout.{count, offset}
use Rattle.book.specs.Rules.{Atom, Name, Alternative, Rule, name_at}
use Rattle.allen.specs.Relation.{thirteen}
use Rattle.allen.specs.Atoms.{atoms_of}
use Rattle.listing.specs.Expand.{keep}

-- what f gives at each of n places, w apart, the first at `at`
unfoldable pub gather : (ℕ → List ℕ) → ℕ → ℕ → ℕ → List ℕ
gather f w zero at = []
gather f w (suc n) at = f at ++ gather f w n (at + w)

-- what of a run fits between the place n and the limit
unfoldable pub up_to : ℕ → ℕ → List ℕ → List ℕ
up_to L n xs = take (L - n) xs

-- the relations of a set from x on, ascending
unfoldable pub rels_from : ℕ → ℕ → List ℕ
rels_from x set = keep (in_set set) (drop x thirteen)

-- the items of the k constraints that remain, the first at the place `at`, with relations from x on for that one; acc has what was chosen
-- before, and m is the worth of the next digit
unfoldable pub items_from : List ℕ → ℕ → ℕ → ℕ → ℕ → ℕ → List ℕ
items_from s zero at acc m x = acc ∷ []
items_from s (suc k) at acc m x = flat_map (λ (y : ℕ). items_from s k (at + 3) (acc + m * y) (m * 16) 0) (rels_from x (word s (at + 2)))

-- those of the alternative at the place p, of the rule at the place k, and of all rules
unfoldable pub items_at : List ℕ → ℕ → List ℕ
items_at s p = items_from s (word s (p + 3)) (offset s 5 + 3 * word s (p + 2)) p 16384 0

unfoldable pub rule_items : List ℕ → ℕ → List ℕ
rule_items s k = gather (items_at s) 4 (word s (k + 3)) (offset s 3 + 4 * word s (k + 2))

unfoldable pub all_items : List ℕ → List ℕ
all_items s = gather (rule_items s) 4 (count s 2) (offset s 2)

-- ---- the book's rules, read off the items

-- the atoms of k constraints, the first at the place `at`, with the digits of `code` for their relations
unfoldable pub asks_from : List ℕ → ℕ → ℕ → ℕ → List Atom
asks_from s zero at code = []
asks_from s (suc k) at code = atoms_of (code % 16) (word s at) (word s (at + 1)) ++ asks_from s k (at + 3) (code / 16)

-- the names of the alternative at the place p, and the alternative of an item
unfoldable pub names_for : List ℕ → ℕ → List Name
names_for s p = run (name_at s) 2 (word s (p + 1)) (offset s 4 + 2 * word s p)

unfoldable pub asks_for : List ℕ → ℕ → List Atom
asks_for s item = asks_from s (word s (item % 16384 + 3)) (offset s 5 + 3 * word s (item % 16384 + 2)) (item / 16384)

unfoldable pub alt_of : List ℕ → ℕ → Alternative Atom
alt_of s item = record { names = names_for s (item % 16384); asks = asks_for s item }

unfoldable pub rule_for : List ℕ → ℕ → Rule Atom
rule_for s k = record { variable = word s k; value = word s (k + 1); alternatives = map (alt_of s) (rule_items s k) }

unfoldable pub rules_by : List ℕ → List (Rule Atom)
rules_by s = run (rule_for s) 4 (count s 2) (offset s 2)

-- ---- no number gets too large: k more digits fit where the next is worth m

unfoldable pub Digits : ℕ → ℕ → Type 0
Digits zero m = m < 2 ^ 47
Digits (suc k) m = Digits k (m * 16)
