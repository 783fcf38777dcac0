-- Allen's thirteen relations between two stretches: which one holds. Assumes nothing.
use Rattle.std.specs.Prelude.{Bool, ◌&&◌, List, [], ◌∷◌, ℕ, ltb, eqb, get_or}
use Rattle.words.specs.Least.{first}

-- "s and e are start and end of left, s' and e' of right": the condition of each relation, by its number
abbrev pub conditions : ℕ → ℕ → ℕ → ℕ → List Bool
conditions s e s' e' =
    ltb e s'
    ∷ eqb e s'
    ∷ (ltb s s' && (ltb s' e && ltb e e'))
    ∷ (ltb s s' && eqb e e')
    ∷ (ltb s s' && ltb e' e)
    ∷ (eqb s s' && ltb e e')
    ∷ (eqb s s' && eqb e e')
    ∷ (eqb s s' && ltb e' e)
    ∷ (ltb s' s && ltb e e')
    ∷ (ltb s' s && eqb e e')
    ∷ (ltb s' s && (ltb s e' && ltb e' e))
    ∷ eqb e' s
    ∷ ltb e' s
    ∷ []

-- the relation in which two stretches stand: the first of the thirteen conditions that holds, and 13 where none does
unfoldable pub relation_of : ℕ → ℕ → ℕ → ℕ → ℕ
relation_of s e s' e' = first (λ (holds : Bool). holds) (conditions s e s' e')

-- the relation of right to left, where k is that of left to right
abbrev pub converse : ℕ → ℕ
converse k = get_or (12 ∷ 11 ∷ 10 ∷ 9 ∷ 8 ∷ 7 ∷ 6 ∷ 5 ∷ 4 ∷ 3 ∷ 2 ∷ 1 ∷ 0 ∷ []) k 13

abbrev pub thirteen : List ℕ
thirteen = 0 ∷ 1 ∷ 2 ∷ 3 ∷ 4 ∷ 5 ∷ 6 ∷ 7 ∷ 8 ∷ 9 ∷ 10 ∷ 11 ∷ 12 ∷ []
