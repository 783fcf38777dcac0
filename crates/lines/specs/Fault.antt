-- Answers 5 to 7: what is wrong with the header and the length of a plan, given the book, row by row of the fault table. Assumes nothing.
use Rattle.std.specs.Prelude.{Bool, ◌&&◌, ◌||◌, not, cond, List, ℕ, ◌+◌, ◌-◌, ◌*◌, ◌/◌, ◌%◌, ltb, eqb, length}
use Rattle.answers.specs.declared.Numbers.{Numbers}
use Rattle.answers.specs.Numbers.{numbers, no_fault, or_else}
use Rattle.words.specs.Words.{word}
use Rattle.words.specs.Least.{least}
use Rattle.layout.specs.Layout.{count}
use Rattle.lines.specs.Lines.{line_first, line_count, token_width}

-- 5 "plan length below 3 + 2 x variables, or above 16,384"
unfoldable pub length_fault : List ℕ → List ℕ → Numbers
length_fault b p = cond (ltb (length p) (3 + 2 * count b 0) || ltb 16384 (length p)) (numbers 5 0 0) no_fault

-- "First tokens are running sums of the counts, from 0": what the first token of line v has to be
unfoldable pub sum_before : List ℕ → ℕ → ℕ
sum_before p v = cond (eqb v 0) 0 (line_first p (v - 1) + line_count p (v - 1))

-- word k before the tokens is wrong: edition ("any other edition is refused 6"), total words, number of timelines, then first token and token
-- count (0..512) of each
unfoldable pub head_wrong : List ℕ → List ℕ → ℕ → Bool
head_wrong b p k =
    cond (eqb k 0)
    (not (eqb (word p k) 1) && not (eqb (word p k) 2))
    (cond (eqb k 1)
    (not (eqb (word p k) (length p)))
    (cond (eqb k 2)
    (not (eqb (word p k) (count b 0)))
    (cond (eqb (k % 2) 1)
    (not (eqb (word p k) (sum_before p ((k - 3) / 2))))
    (ltb 512 (word p k)))))

-- 6 "first wrong word before the tokens"
abbrev pub first_head : List ℕ → List ℕ → ℕ
first_head b p = least (3 + 2 * count b 0) (head_wrong b p)

unfoldable pub head_fault : List ℕ → List ℕ → Numbers
head_fault b p = cond (ltb (first_head b p) (3 + 2 * count b 0)) (numbers 6 (first_head b p) 0) no_fault

-- 7 "tokens don't end at the length"
unfoldable pub end_fault : List ℕ → List ℕ → Numbers
end_fault b p = cond (eqb (3 + 2 * count b 0 + token_width p * sum_before p (count b 0)) (length p)) no_fault (numbers 7 0 0)

-- the first of them that fits
unfoldable pub lines_fault : List ℕ → List ℕ → Numbers
lines_fault b p = or_else (length_fault b p) (or_else (head_fault b p) (end_fault b p))
