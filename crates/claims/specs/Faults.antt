-- What the theorems of proofs/Faults are said in. Assumes nothing.
use Rattle.std.specs.Prelude.{◌≡◌, ◌↔◌, ◌⊎◌, List, ℕ, ◌+◌, ◌*◌, ◌≤◌, ◌<◌, length}
use Rattle.answers.specs.declared.Numbers.{Numbers}
use Rattle.answers.specs.Numbers.{numbers_at, numbers}
use Rattle.layout.specs.Layout.{count, ending}
use Rattle.book.specs.Sound.{Sound}
use Rattle.book.specs.Rules.{variables_of}
use Rattle.lines.specs.Lines.{token_width, line_of}
use Rattle.plan.specs.Fault as plan
use Rattle.lines.specs.Good.{HeadGood}
use Rattle.claims.specs.Wrongs.{First, Tables, None, BookSized, HeaderWrong, TableGood, TableBad, PlanSized, HeadWrong, EndsApart}
use Rattle.claims.specs.Papers.{Timelines}
use Rattle.claims.specs.Timelines.{variable_of}
use Rattle.claims.specs.FaultsOfTokens.{TokenWrong, FirstToken}

-- THE FAULT TABLE, row by row: of an answer to a book (edition e is 1) or sheet (2), whatever comes after it
pub record BookTable (e : ℕ) (b : List ℕ) (answer : Numbers) : Type 0 where
  -- 1 "book length not 14..16,384"
  pub fault_1 : (answer ≡ numbers 1 0 0) ↔ ((length b < 14) ⊎ (16384 < length b))
  -- 2 "header word wrong, first of 0..13"
  pub fault_2 : (word : ℕ) → (answer ≡ numbers 2 word 0) ↔ (BookSized b × First 14 (HeaderWrong e b) word)
  -- 3 "table 5 doesn't end at the length"
  pub fault_3 : (answer ≡ numbers 3 0 0) ↔ (BookSized b × None 14 (HeaderWrong e b) × (ending e b 5 ≡ length b → ⊥))
  -- 4 "bad record; tables 0 to 5, lowest record; a table only if those before are good", and the record's first wrong word
  pub fault_4 : (table row word : ℕ) → (answer ≡ numbers_at 4 table row word)
      ↔ (BookSized b × None 14 (HeaderWrong e b) × (ending e b 5 ≡ length b) × (table < 6)
      × ((t : ℕ) → t < table → TableGood e b t) × TableBad e b table row word)

-- and of an answer to a plan too
pub record FaultTable (e : ℕ) (b p : List ℕ) (answer : Numbers) : Type 0 where
  -- 1 to 4
  pub book : BookTable e b answer
  -- 5 "plan length below 3 + 2 x variables, or above 16,384"
  pub fault_5 : (answer ≡ numbers 5 0 0) ↔ (Sound e b × ((length p < 3 + 2 * count b 0) ⊎ (16384 < length p)))
  -- 6 "first wrong word before the tokens"
  pub fault_6 : (word : ℕ) → (answer ≡ numbers 6 word 0) ↔ (Sound e b × PlanSized b p × First (3 + 2 * count b 0) (HeadWrong b p) word)
  -- 7 "tokens don't end at the length": they have 3 words each in edition 2, else 2
  pub fault_7 : (answer ≡ numbers 7 0 0)
      ↔ (Sound e b × PlanSized b p × HeadGood b p × (3 + 2 * count b 0 + token_width p * plan.sum_before p (count b 0) ≡ length p → ⊥))
  -- 8 "value unknown", 9 "duration outside least..greatest", 10 "not a successor of the token before", 11 "token ends after 1,000,000,000":
  -- the first token in the order that is wrong, by the first of the four tests that it doesn't pass
  pub fault_8_to_11 : (n timeline token : ℕ) → 8 ≤ n → n ≤ 11 → (answer ≡ numbers n timeline token)
      ↔ (Sound e b × Tables b p × FirstToken b p timeline token × TokenWrong (variable_of b timeline) (line_of p timeline) token n)
  -- 18 "after 8 to 11 for all lines", "with the first timeline whose end differs from that of timeline 0"
  pub fault_18 : (timeline : ℕ) → (answer ≡ numbers 18 timeline 0)
      ↔ (Sound e b × Tables b p × Timelines (variables_of b) (line_of p) × First (count b 0) (EndsApart p) timeline)
