-- What the theorems of proofs/Answers are said in. Assumes nothing.
use Rattle.std.specs.Prelude.{ℕ}
use Rattle.answers.specs.declared.Numbers.{Numbers}
use Rattle.answers.specs.Numbers.{numbers_at, numbers}

-- "Fault numbers": the answers to a book or sheet and a plan; "those not named are 0"
pub data Listed : Numbers → Type 0 where
  book_length : Listed (numbers 1 0 0)
  book_header : (word : ℕ) → Listed (numbers 2 word 0)
  book_end : Listed (numbers 3 0 0)
  book_record : (table row word : ℕ) → Listed (numbers_at 4 table row word)
  plan_length : Listed (numbers 5 0 0)
  plan_header : (word : ℕ) → Listed (numbers 6 word 0)
  plan_end : Listed (numbers 7 0 0)
  unknown : (timeline token : ℕ) → Listed (numbers 8 timeline token)
  outside : (timeline token : ℕ) → Listed (numbers 9 timeline token)
  breaks : (timeline token : ℕ) → Listed (numbers 10 timeline token)
  late : (timeline token : ℕ) → Listed (numbers 11 timeline token)
  apart : (timeline : ℕ) → Listed (numbers 18 timeline 0)
  unmet : (rule token : ℕ) → Listed (numbers 12 rule token)
  accepted : (triggers : ℕ) → Listed (numbers 0 triggers 0)
