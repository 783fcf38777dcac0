-- The layout of a book (edition 1) and of a sheet (edition 2): header, tables, records, ranges. They differ in the edition `e`, and in
-- what depends on it: the width of table 5, and how many of its records an alternative has. Assumes nothing.
use Rattle.std.specs.Prelude.{Bool, ◌||◌, not, cond, List, [], ◌∷◌, ℕ, ◌+◌, ◌-◌, ◌*◌, ◌/◌, ◌%◌, ltb, eqb, length, get_or}
use Rattle.words.specs.Words.{word}
use Rattle.words.specs.Least.{least}

-- words in a record of table 5: an atom has 6, "constraints of 3 words"
unfoldable pub fifth_width : ℕ → ℕ
fifth_width e = cond (eqb e 2) 3 6

-- "number (0..32)" of atoms, "0..8 an alternative" of constraints
unfoldable pub fifth_most : ℕ → ℕ
fifth_most e = cond (eqb e 2) 8 32

-- the columns of the table of tables: least and greatest count, words per record
abbrev pub fewest : ℕ → ℕ
fewest t = get_or (1 ∷ 1 ∷ 0 ∷ 0 ∷ 0 ∷ 0 ∷ []) t 0

abbrev pub most : ℕ → ℕ
most t = get_or (16 ∷ 512 ∷ 64 ∷ 1024 ∷ 2048 ∷ 2048 ∷ []) t 0

abbrev pub width : ℕ → ℕ → ℕ
width e t = get_or (2 ∷ 3 ∷ 4 ∷ 4 ∷ 2 ∷ fifth_width e ∷ []) t 0

-- "then count and offset of tables 0 to 5 in turn"
abbrev pub count : List ℕ → ℕ → ℕ
count b t = word b (2 + 2 * t)

abbrev pub offset : List ℕ → ℕ → ℕ
offset b t = word b (3 + 2 * t)

-- where table t ends
abbrev pub ending : ℕ → List ℕ → ℕ → ℕ
ending e b t = offset b t + count b t * width e t

-- "Table 0 begins at word 14, each next where the one before ends"
unfoldable pub begins : ℕ → List ℕ → ℕ → ℕ
begins e b t = cond (eqb t 0) 14 (ending e b (t - 1))

-- header word k is wrong: "edition, total against length, count limit, offset"
unfoldable pub header_wrong : ℕ → List ℕ → ℕ → Bool
header_wrong e b k =
    cond (eqb k 0)
    (not (eqb (word b k) e))
    (cond (eqb k 1)
    (not (eqb (word b k) (length b)))
    (cond (eqb (k % 2) 0)
    (ltb (word b k) (fewest ((k - 2) / 2)) || ltb (most ((k - 2) / 2)) (word b k))
    (not (eqb (word b k) (begins e b ((k - 2) / 2))))))

-- the place of record i of table t, and word j of that record
abbrev pub record_at : ℕ → List ℕ → ℕ → ℕ → ℕ
record_at e b t i = offset b t + i * width e t

abbrev pub field : ℕ → List ℕ → ℕ → ℕ → ℕ → ℕ
field e b t i j = word b (record_at e b t i + j)

-- the range at words j and j + 1 of record i of table t: where it ends
abbrev pub ends : ℕ → List ℕ → ℕ → ℕ → ℕ → ℕ
ends e b t j i = field e b t i j + field e b t i (j + 1)

-- and where it has to start: "ranges into the next table follow each other from 0 without gaps"
unfoldable pub starts : ℕ → List ℕ → ℕ → ℕ → ℕ → ℕ
starts e b t j i = cond (eqb i 0) 0 (ends e b t j (i - 1))

-- the ranges at word j of table t, together, don't "use all of" the table `into`
abbrev pub unused : ℕ → List ℕ → ℕ → ℕ → ℕ → Bool
unused e b t j into = not (eqb (starts e b t j (count b t)) (count b into))

-- number i lies before the end of the range of record k, and the record in whose range it lies
abbrev pub reaches : ℕ → List ℕ → ℕ → ℕ → ℕ → ℕ → Bool
reaches e b t j i k = ltb i (ends e b t j k)

unfoldable pub owner : ℕ → List ℕ → ℕ → ℕ → ℕ → ℕ
owner e b t j i = least (count b t) (reaches e b t j i)

-- how many values variable v has
abbrev pub values_of : ℕ → List ℕ → ℕ → ℕ
values_of e b v = field e b 0 v 1
