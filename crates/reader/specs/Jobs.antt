-- What the theorems of proofs/Jobs are said in. Assumes nothing.
use Rattle.std.specs.Prelude.{◌≡◌, List, [], ◌∷◌, ℕ, ◌+◌, ◌*◌, ◌<◌, length}
use Rattle.words.specs.Words.{word}

-- token m of all, counted over the lines: where its three words stand
abbrev pub words_of : List ℕ → ℕ → ℕ
words_of p m = 3 + 2 * word p 2 + 3 * m

-- two plans of edition 2 that differ in jobs alone: the words before the tokens are the same, and each token's value and duration
pub record JobsAside (p q : List ℕ) : Type 0 where
  pub edition : word p 0 ≡ 2
  pub long : length p ≡ length q
  pub before : (k : ℕ) → k < 3 + 2 * word p 2 → word p k ≡ word q k
  pub value : (m : ℕ) → word p (words_of p m) ≡ word q (words_of p m)
  pub duration : (m : ℕ) → word p (words_of p m + 1) ≡ word q (words_of p m + 1)

-- an input of it: one token, with this job or that, N among them
abbrev pub one_token : ℕ → List ℕ
one_token job = 2 ∷ 8 ∷ 1 ∷ 0 ∷ 1 ∷ 0 ∷ 5 ∷ job ∷ []
