-- The book without the rules whose numbers are listed, and the lent words afterwards. Assumes nothing.
use Rattle.std.specs.Prelude.{cond, List, [], ◌∷◌, ◌++◌, ℕ, suc, eqb, length, drop}
use Rattle.words.specs.Lists.{any}
use Rattle.book.specs.Rules.{rules_of}
use Rattle.book.specs.Encode.{atoms}
use Rattle.closing.specs.Rebuilt.{rebuilt}

-- "Given a list of rule numbers, remove those": the others in their order; the first has the number i
unfoldable pub kept : {A : Type 0} → List ℕ → ℕ → List A → List A
kept numbers i [] = []
kept numbers i (x ∷ xs) = cond (any (eqb i) numbers) (kept numbers (suc i) xs) (x ∷ kept numbers (suc i) xs)

-- "remove those rules with their alternatives, names and atoms"
unfoldable pub removed_book : List ℕ → List ℕ → List ℕ
removed_book b numbers = rebuilt b (kept numbers 0 (rules_of atoms b))

-- "words past either new end stay": the lent words with these in front
unfoldable pub in_front : List ℕ → List ℕ → List ℕ
in_front words lent = words ++ drop (length words) lent
