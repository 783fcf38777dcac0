-- Allen's composition table: for each two relations the set of those that they leave for the third pair. Assumes nothing.
use Rattle.std.specs.Prelude.{List, [], ◌∷◌, ℕ, ◌-◌, ◌^◌, get_or}
use Rattle.composition.specs.Sets.{chosen}

-- row p, column q: bit r is there where first stands in p to second, second in q to third, and first in r to third can be
abbrev pub table : List (List ℕ)
table =
    (1 ∷ 1 ∷ 1 ∷ 1 ∷ 1 ∷ 1 ∷ 1 ∷ 1 ∷ 295 ∷ 295 ∷ 295 ∷ 295 ∷ 8191 ∷ [])
    ∷ (1 ∷ 1 ∷ 1 ∷ 1 ∷ 1 ∷ 2 ∷ 2 ∷ 2 ∷ 292 ∷ 292 ∷ 292 ∷ 584 ∷ 7312 ∷ [])
    ∷ (1 ∷ 1 ∷ 7 ∷ 7 ∷ 31 ∷ 4 ∷ 4 ∷ 28 ∷ 292 ∷ 292 ∷ 2044 ∷ 1168 ∷ 7312 ∷ [])
    ∷ (1 ∷ 2 ∷ 4 ∷ 8 ∷ 16 ∷ 4 ∷ 8 ∷ 16 ∷ 292 ∷ 584 ∷ 1168 ∷ 1168 ∷ 7312 ∷ [])
    ∷ (31 ∷ 28 ∷ 28 ∷ 16 ∷ 16 ∷ 28 ∷ 16 ∷ 16 ∷ 2044 ∷ 1168 ∷ 1168 ∷ 1168 ∷ 7312 ∷ [])
    ∷ (1 ∷ 1 ∷ 7 ∷ 7 ∷ 31 ∷ 32 ∷ 32 ∷ 224 ∷ 256 ∷ 256 ∷ 1792 ∷ 2048 ∷ 4096 ∷ [])
    ∷ (1 ∷ 2 ∷ 4 ∷ 8 ∷ 16 ∷ 32 ∷ 64 ∷ 128 ∷ 256 ∷ 512 ∷ 1024 ∷ 2048 ∷ 4096 ∷ [])
    ∷ (31 ∷ 28 ∷ 28 ∷ 16 ∷ 16 ∷ 224 ∷ 128 ∷ 128 ∷ 1792 ∷ 1024 ∷ 1024 ∷ 2048 ∷ 4096 ∷ [])
    ∷ (1 ∷ 1 ∷ 295 ∷ 295 ∷ 8191 ∷ 256 ∷ 256 ∷ 7936 ∷ 256 ∷ 256 ∷ 7936 ∷ 4096 ∷ 4096 ∷ [])
    ∷ (1 ∷ 2 ∷ 292 ∷ 584 ∷ 7312 ∷ 256 ∷ 512 ∷ 7168 ∷ 256 ∷ 512 ∷ 7168 ∷ 4096 ∷ 4096 ∷ [])
    ∷ (31 ∷ 28 ∷ 2044 ∷ 1168 ∷ 7312 ∷ 1792 ∷ 1024 ∷ 7168 ∷ 1792 ∷ 1024 ∷ 7168 ∷ 4096 ∷ 4096 ∷ [])
    ∷ (31 ∷ 224 ∷ 1792 ∷ 2048 ∷ 4096 ∷ 1792 ∷ 2048 ∷ 4096 ∷ 1792 ∷ 2048 ∷ 4096 ∷ 4096 ∷ 4096 ∷ [])
    ∷ (8191 ∷ 7936 ∷ 7936 ∷ 4096 ∷ 4096 ∷ 7936 ∷ 4096 ∷ 4096 ∷ 7936 ∷ 4096 ∷ 4096 ∷ 4096 ∷ 4096 ∷ [])
    ∷ []

-- "a table of 169 sets, one for each two relations": what p and q leave; nothing where one of them is no relation
unfoldable pub pair_set : ℕ → ℕ → ℕ
pair_set p q = get_or (get_or table p []) q 0

-- what p and the relations of t leave
unfoldable pub row_set : ℕ → ℕ → ℕ
row_set p t = chosen t (λ q. pair_set p q) 13

-- composition "on sets": what the relations of s and of t leave
unfoldable pub compose_sets : ℕ → ℕ → ℕ
compose_sets s t = chosen s (λ p. row_set p t) 13

-- "converse": those of the relations of s; that of k is 12 - k
unfoldable pub converse_set : ℕ → ℕ
converse_set s = chosen s (λ k. 2 ^ (12 - k)) 13
