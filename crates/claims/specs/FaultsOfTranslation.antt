-- What the theorems of proofs/FaultsOfTranslation are said in. Assumes nothing.
use Rattle.std.specs.Prelude.{◌≡◌, ◌↔◌, List, ℕ, ◌≤◌, ◌<◌, length, get_or}
use Rattle.answers.specs.declared.Numbers.{Numbers}
use Rattle.answers.specs.Numbers.{numbers}
use Rattle.book.specs.Encode.{alts_of, names_of, asks_of}
use Rattle.book.specs.Sound.{Sound}
use Rattle.verdict.specs.Judged.{no_rule}
use Rattle.translator.specs.Translation.{rules_for, translated}
use Rattle.claims.specs.Wrongs.{First, None}
use Rattle.claims.specs.Faults.{BookTable}
use Rattle.claims.specs.Taken.{Sizes}

-- ---- what is claimed

-- 13: rule k of the sheet "would have over 64 alternatives"
abbrev pub TooMany : List ℕ → ℕ → Type 0
TooMany s k = 64 < length (get_or (rules_for s) k no_rule).alternatives

-- 14 "first of tables 3, 4, 5 over its limit, or the total over 16,384 words, shown as 6", of a book with so many of each
pub data TooLong (alternatives names atoms words : ℕ) : ℕ → Type 0 where
  in_alternatives : 1024 < alternatives → TooLong alternatives names atoms words 3
  in_names : alternatives ≤ 1024 → 2048 < names → TooLong alternatives names atoms words 4
  in_atoms : alternatives ≤ 1024 → names ≤ 2048 → 2048 < atoms → TooLong alternatives names atoms words 5
  in_words : alternatives ≤ 1024 → names ≤ 2048 → atoms ≤ 2048 → 16384 < words → TooLong alternatives names atoms words 6

-- of the book that the sheet becomes
abbrev pub BookTooLong : List ℕ → ℕ → Type 0
BookTooLong s =
    TooLong (length (alts_of (rules_for s))) (length (names_of (alts_of (rules_for s)))) (length (asks_of (alts_of (rules_for s)))) (length (translated s))

-- THE TABLE, row by row, of the translator's answer to a sheet and so much room
pub record TranslationTable (s : List ℕ) (room : ℕ) (answer : Numbers) : Type 0 where
  -- 1 to 4
  pub book : BookTable 2 s answer
  -- 13 "first rule that would have over 64 alternatives (a rule)"
  pub fault_13 : (rule : ℕ) → (answer ≡ numbers 13 rule 0) ↔ (Sound 2 s × First (length (rules_for s)) (TooMany s) rule)
  -- 14 (a)
  pub fault_14 : (table : ℕ) → (answer ≡ numbers 14 table 0) ↔ (Sound 2 s × None (length (rules_for s)) (TooMany s) × BookTooLong s table)
  -- 15 "lent room shorter than the book (a words needed)"
  pub fault_15 : (words : ℕ) → (answer ≡ numbers 15 words 0)
      ↔ (Sound 2 s × None (length (rules_for s)) (TooMany s) × Sizes s × (length (translated s) ≡ words) × (room < words))
  -- 0 "done (a words written, b alternatives)"
  pub done : (words alternatives : ℕ) → (answer ≡ numbers 0 words alternatives)
      ↔ (Sound 2 s × None (length (rules_for s)) (TooMany s) × Sizes s
      × (length (translated s) ≡ words) × (words ≤ room) × (length (alts_of (rules_for s)) ≡ alternatives))
