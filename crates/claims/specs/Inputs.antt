-- Books, sheets and headers made from their tables, for the table of limits: the words are laid out here once more, by plain sums of the
-- words per record. Assumes nothing.
use mathlib.Core.List.{List, [], ◌∷◌, ◌++◌, flat_map}
use Rattle.std.specs.Prelude.{ℕ, ◌+◌, ◌*◌, length, replicate}

-- "N means 4,294,967,295", "the last tick 1,000,000,000"
abbrev pub N : ℕ
N = 4294967295

abbrev pub last : ℕ
last = 1000000000

-- ---- books and sheets, from their tables

-- n records of the same words
abbrev pub times : ℕ → List ℕ → List ℕ
times n ws = flat_map (λ (_ : ℕ). ws) (replicate n 0)

-- how many records, and the words of each
pub record Table : Type 0 where
  pub records : ℕ
  pub words : List ℕ

abbrev pub table : ℕ → List ℕ → Table
table n ws = record { records = n; words = ws }

abbrev pub none : Table
none = table 0 []

-- "count and offset of tables 0 to 5 in turn", the first at a place
abbrev pub headed : ℕ → List Table → List ℕ
headed at [] = []
headed at (t ∷ ts) = t.records ∷ at ∷ headed (at + length t.words) ts

-- the words of edition e with these tables
abbrev pub laid : ℕ → List Table → List ℕ
laid e ts = e ∷ (14 + length (flat_map (λ (t : Table). t.words) ts)) ∷ headed 14 ts ++ flat_map (λ (t : Table). t.words) ts

-- the header alone, of tables with so many records; w is the width of table 5
abbrev pub header : ℕ → ℕ → ℕ → ℕ → ℕ → ℕ → ℕ → List ℕ
header e variables values rules alternatives names fifth =
    e ∷ 14
    ∷ variables ∷ 14
    ∷ values ∷ (14 + variables * 2)
    ∷ rules ∷ (14 + variables * 2 + values * 3)
    ∷ alternatives ∷ (14 + variables * 2 + values * 3 + rules * 4)
    ∷ names ∷ (14 + variables * 2 + values * 3 + rules * 4 + alternatives * 4)
    ∷ fifth ∷ (14 + variables * 2 + values * 3 + rules * 4 + alternatives * 4 + names * 2)
    ∷ []

-- one variable with n values
abbrev pub values_book : ℕ → List ℕ
values_book n = laid 1 (table 1 (0 ∷ n ∷ []) ∷ table n (times n (1 ∷ N ∷ 1 ∷ [])) ∷ none ∷ none ∷ none ∷ none ∷ [])

-- one variable with two values, of which the first is this one
abbrev pub value_book : ℕ → ℕ → ℕ → List ℕ
value_book least greatest successors =
    laid 1 (table 1 (0 ∷ 2 ∷ []) ∷ table 2 (least ∷ greatest ∷ successors ∷ 1 ∷ N ∷ 1 ∷ []) ∷ none ∷ none ∷ none ∷ none ∷ [])

-- one rule by this trigger, over one variable with two values, with these tables 3, 4 and 5
abbrev pub rule_book : ℕ → ℕ → ℕ → Table → Table → Table → List ℕ
rule_book e variable value alternatives names fifth =
    laid e (
    table 1 (0 ∷ 2 ∷ [])
    ∷ table 2 (times 2 (1 ∷ N ∷ 3 ∷ []))
    ∷ table 1 (variable ∷ value ∷ 0 ∷ alternatives.records ∷ [])
    ∷ alternatives
    ∷ names
    ∷ fifth
    ∷ []
    )

-- one alternative, of n names
abbrev pub names_book : ℕ → List ℕ
names_book n = rule_book 1 0 0 (table 1 (0 ∷ n ∷ 0 ∷ 0 ∷ [])) (table n (times n (0 ∷ 1 ∷ []))) none

-- one name, as these two words have it
abbrev pub name_book : ℕ → ℕ → List ℕ
name_book variable value = rule_book 1 0 0 (table 1 (0 ∷ 1 ∷ 0 ∷ 0 ∷ [])) (table 1 (variable ∷ value ∷ [])) none

-- a trigger, one name, and n records of table 5 with these words
abbrev pub fifth_book : ℕ → ℕ → List ℕ → List ℕ
fifth_book e n ws = rule_book e 0 0 (table 1 (0 ∷ 1 ∷ 0 ∷ n ∷ [])) (table 1 (0 ∷ 0 ∷ [])) (table n (times n ws))

-- an atom, and a constraint, with these words
abbrev pub atom_book : ℕ → ℕ → ℕ → ℕ → ℕ → ℕ → List ℕ
atom_book left_kind left right_kind right lower upper = fifth_book 1 1 (left_kind ∷ left ∷ right_kind ∷ right ∷ lower ∷ upper ∷ [])

abbrev pub constraint_sheet : ℕ → ℕ → ℕ → List ℕ
constraint_sheet left right relations = fifth_book 2 1 (left ∷ right ∷ relations ∷ [])

-- the same without a trigger
abbrev pub free_atom : ℕ → List ℕ
free_atom left = rule_book 1 N 0 (table 1 (0 ∷ 1 ∷ 0 ∷ 1 ∷ [])) (table 1 (0 ∷ 0 ∷ [])) (table 1 (0 ∷ left ∷ 2 ∷ 0 ∷ 0 ∷ N ∷ []))

-- one variable with two values: the first lasts 5..60, and each may only be followed by the other
abbrev pub two_book : List ℕ
two_book = laid 1 (table 1 (0 ∷ 2 ∷ []) ∷ table 2 (5 ∷ 60 ∷ 2 ∷ 1 ∷ N ∷ 1 ∷ []) ∷ none ∷ none ∷ none ∷ none ∷ [])

-- ---- sheets that become long books

-- an alternative of a sheet: how many names, and the sets of its constraints
pub record Asked : Type 0 where
  pub names : ℕ
  pub sets : List ℕ

abbrev pub asked : ℕ → List ℕ → Asked
asked n sets = record { names = n; sets = sets }

-- the records of the alternatives, whose names and constraints begin at n and q
abbrev pub ranges : ℕ → ℕ → List Asked → List ℕ
ranges n q [] = []
ranges n q (a ∷ rest) = n ∷ a.names ∷ q ∷ length a.sets ∷ ranges (n + a.names) (q + length a.sets) rest

-- one rule with these alternatives, over one variable with so many values
abbrev pub wide : ℕ → List Asked → List ℕ
wide values asks =
    let names : List ℕ = flat_map (λ (a : Asked). replicate a.names 0) asks in
    let sets : List ℕ = flat_map (λ (a : Asked). a.sets) asks in
    laid 2 (
    table 1 (0 ∷ values ∷ [])
    ∷ table values (times values (1 ∷ N ∷ 1 ∷ []))
    ∷ table 1 (0 ∷ 0 ∷ 0 ∷ length asks ∷ [])
    ∷ table (length asks) (ranges 0 0 asks)
    ∷ table (length names) (times (length names) (0 ∷ 0 ∷ []))
    ∷ table (length sets) (flat_map (λ (k : ℕ). 0 ∷ 0 ∷ k ∷ []) sets)
    ∷ []
    )

-- so many sets of the four relations that become one atom: 0, 1, 11, 12
abbrev pub fours : ℕ → List ℕ
fours n = replicate n 6147

-- four to the 4th is 256 alternatives of 7 atoms and 4 names; with the others 16,358 words behind the 26 of header, variable, 2 values, rule
abbrev pub long : ℕ → List Asked
long n =
    asked 4 (fours 4 ++ replicate 3 1) ∷ asked 4 (fours 3) ∷ asked 4 (fours 2) ∷ asked 4 (fours 1) ∷ asked 4 (fours 1) ∷ asked 4 (fours 1)
    ∷ asked 2 [] ∷ asked n [] ∷ []
