-- What is wrong with a record, down to its words: each record has a list of tests, one for each word in turn, that say whether the word
-- is wrong given the words before it and the tables before. Assumes nothing.
use Rattle.std.specs.Prelude.{Bool, ◌||◌, ◌&&◌, not, cond, List, [], ◌∷◌, ℕ, ◌+◌, ◌^◌, ltb, leb, eqb, get_or}
use Rattle.words.specs.Words.{word}
use Rattle.words.specs.Least.{first}
use Rattle.clock.specs.Clock.{last_tick, no_limit}
use Rattle.layout.specs.Layout.{fifth_most, width, count, record_at, field, ends, starts, owner, values_of}

-- "Ranges into the next table": the words `word` and `word` + 1 of a record of `table` say where its records in the table `into` start,
-- and their number, least..most
pub record Range : Type 0 where
  pub table : ℕ
  pub word : ℕ
  pub least : ℕ
  pub most : ℕ
  pub into : ℕ

-- "first value, number of values (1..32)"
abbrev pub value_range : Range
value_range = record { table = 0; word = 0; least = 1; most = 32; into = 1 }

-- "first alternative, number (1..64)"
abbrev pub alternative_range : Range
alternative_range = record { table = 2; word = 2; least = 1; most = 64; into = 3 }

-- "first name, number (0..4)"
abbrev pub name_range : Range
name_range = record { table = 3; word = 0; least = 0; most = 4; into = 4 }

-- "first atom, number (0..32)", or "0..8" constraints
abbrev pub ask_range : ℕ → Range
ask_range e = record { table = 3; word = 2; least = 0; most = fifth_most e; into = 5 }

-- "A record whose range starts elsewhere ..": its first word
abbrev pub start_wrong : ℕ → List ℕ → Range → ℕ → Bool
start_wrong e b r i = not (eqb (field e b r.table i r.word) (starts e b r.table r.word i))

-- ".. or runs past that table's count is bad": its second word, which also is least..most
abbrev pub number_wrong : ℕ → List ℕ → Range → ℕ → Bool
number_wrong e b r i =
    let number = field e b r.table i (r.word + 1) in
    (ltb number r.least || ltb r.most number) || ltb (count b r.into) (ends e b r.table r.word i)

-- the lower of two bounds: lo..1,000,000,000
abbrev pub lower_wrong : ℕ → ℕ → Bool
lower_wrong lo x = ltb x lo || ltb last_tick x

-- the upper: from the lower to 1,000,000,000, or N
abbrev pub upper_wrong : ℕ → ℕ → Bool
upper_wrong x y = ltb y x || (ltb last_tick y && not (eqb y no_limit))

-- a set with a "bit at or above the number of values"
unfoldable pub set_wrong : ℕ → ℕ → Bool
set_wrong set n = leb (2 ^ n) set

-- a variable that doesn't exist; a value that variable v hasn't got
abbrev pub variable_unknown : List ℕ → ℕ → Bool
variable_unknown b v = leb (count b 0) v

abbrev pub value_unknown : ℕ → List ℕ → ℕ → ℕ → Bool
value_unknown e b v x = leb (values_of e b v) x

-- "Trigger variable N means no trigger; the trigger value is then 0. Otherwise both exist"
abbrev pub trigger_variable_wrong : List ℕ → ℕ → Bool
trigger_variable_wrong b v = not (eqb v no_limit) && variable_unknown b v

abbrev pub trigger_value_wrong : ℕ → List ℕ → ℕ → ℕ → Bool
trigger_value_wrong e b v x = (eqb v no_limit && not (eqb x 0)) || (not (eqb v no_limit) && value_unknown e b v x)

-- "0 for the trigger or 1..n for the alternative's names; 0 is bad without a trigger"
abbrev pub token_wrong : ℕ → Bool → ℕ → Bool
token_wrong n trigger x = ltb n x || (eqb x 0 && not trigger)

-- "A term's kind is 0 start of, 1 end of, 2 time point", "kind 3, end of the plan", "kind 4, job of"
abbrev pub kind_wrong : ℕ → Bool
kind_wrong kind = ltb 4 kind

-- kind 4 "stands on both sides of an atom or on neither": the right kind, given the left one
abbrev pub right_kind_wrong : ℕ → ℕ → Bool
right_kind_wrong left right = kind_wrong right || ((eqb left 4 && not (eqb right 4)) || (not (eqb left 4) && eqb right 4))

-- "For 0 and 1 the argument is" a token, and "argument as in kind 0"; "A time point is 0..1,000,000,000"; "end of the plan, argument 0"
abbrev pub argument_wrong : ℕ → Bool → ℕ → ℕ → Bool
argument_wrong n trigger kind x =
    (eqb kind 2 && ltb last_tick x)
    || ((eqb kind 3 && not (eqb x 0)) || ((ltb kind 2 && token_wrong n trigger x) || (eqb kind 4 && token_wrong n trigger x)))

-- "its bounds must be 0 and 0": one of the bounds of an atom, given its left kind
abbrev pub job_bound_wrong : ℕ → ℕ → Bool
job_bound_wrong left x = eqb left 4 && not (eqb x 0)

-- ---- the tests of the words of a record, by its table

abbrev pub variable_tests : ℕ → List ℕ → ℕ → List Bool
variable_tests e b i = start_wrong e b value_range i ∷ number_wrong e b value_range i ∷ []

-- the value at a place, of a variable with n values
abbrev pub value_tests_at : List ℕ → ℕ → ℕ → List Bool
value_tests_at b at n = lower_wrong 1 (word b at) ∷ upper_wrong (word b at) (word b (at + 1)) ∷ set_wrong (word b (at + 2)) n ∷ []

unfoldable pub value_tests : ℕ → List ℕ → ℕ → List Bool
value_tests e b i = value_tests_at b (record_at e b 1 i) (values_of e b (owner e b 0 0 i))

abbrev pub rule_tests : ℕ → List ℕ → ℕ → List Bool
rule_tests e b i =
    trigger_variable_wrong b (field e b 2 i 0)
    ∷ trigger_value_wrong e b (field e b 2 i 0) (field e b 2 i 1)
    ∷ start_wrong e b alternative_range i
    ∷ number_wrong e b alternative_range i
    ∷ []

abbrev pub alternative_tests : ℕ → List ℕ → ℕ → List Bool
alternative_tests e b i =
    start_wrong e b name_range i
    ∷ number_wrong e b name_range i
    ∷ start_wrong e b (ask_range e) i
    ∷ number_wrong e b (ask_range e) i
    ∷ []

abbrev pub name_tests : ℕ → List ℕ → ℕ → List Bool
name_tests e b i = variable_unknown b (field e b 4 i 0) ∷ value_unknown e b (field e b 4 i 0) (field e b 4 i 1) ∷ []

-- the two bounds of an atom, given its left kind
abbrev pub bounds_tests : ℕ → ℕ → ℕ → List Bool
bounds_tests left lower upper = (lower_wrong 0 lower || job_bound_wrong left lower) ∷ (upper_wrong lower upper || job_bound_wrong left upper) ∷ []

-- the atom at a place, in an alternative with n names, whose rule has a trigger or not
abbrev pub atom_tests : List ℕ → ℕ → ℕ → Bool → List Bool
atom_tests b at n trigger =
    kind_wrong (word b at)
    ∷ argument_wrong n trigger (word b at) (word b (at + 1))
    ∷ right_kind_wrong (word b at) (word b (at + 2))
    ∷ argument_wrong n trigger (word b (at + 2)) (word b (at + 3))
    ∷ bounds_tests (word b at) (word b (at + 4)) (word b (at + 5))

-- "left token, right token (0 the trigger, as above), and a set, 1..8,191"
abbrev pub constraint_tests : List ℕ → ℕ → ℕ → Bool → List Bool
constraint_tests b at n trigger =
    token_wrong n trigger (word b at)
    ∷ token_wrong n trigger (word b (at + 1))
    ∷ (ltb (word b (at + 2)) 1 || ltb 8191 (word b (at + 2)))
    ∷ []

abbrev pub has_trigger : ℕ → List ℕ → ℕ → Bool
has_trigger e b r = not (eqb (field e b 2 r 0) no_limit)

-- record i of table 5, of alternative a of rule r
unfoldable pub fifth_tests_of : ℕ → List ℕ → ℕ → ℕ → ℕ → List Bool
fifth_tests_of e b i a r =
    cond (eqb e 2)
    (constraint_tests b (record_at e b 5 i) (field e b 3 a 1) (has_trigger e b r))
    (atom_tests b (record_at e b 5 i) (field e b 3 a 1) (has_trigger e b r))

unfoldable pub fifth_tests : ℕ → List ℕ → ℕ → List Bool
fifth_tests e b i = fifth_tests_of e b i (owner e b 3 2 i) (owner e b 2 2 (owner e b 3 2 i))

-- the tests of the words of record i of table t
abbrev pub record_tests : ℕ → List ℕ → ℕ → ℕ → List Bool
record_tests e b t =
    get_or (variable_tests e b ∷ value_tests e b ∷ rule_tests e b ∷ alternative_tests e b ∷ name_tests e b ∷ fifth_tests e b ∷ []) t (λ i. [])

-- "the first word of the record, counted from 0, that is wrong given the words before it and the tables before"; the record's width where
-- none is
unfoldable pub wrong_word : ℕ → List ℕ → ℕ → ℕ → ℕ
wrong_word e b t i = first (λ w. w) (record_tests e b t i)

-- "bad record": some word of it is wrong
unfoldable pub record_wrong : ℕ → List ℕ → ℕ → ℕ → Bool
record_wrong e b t i = ltb (wrong_word e b t i) (width e t)
