-- What the list of all items is, and what a sheet has to keep for it to be made. Assumes nothing.
use Rattle.std.specs.Prelude.{◌≡◌, ℕ, ◌+◌, ◌*◌, ◌≤◌, ◌<◌, List, length, take, Result, Ok, Err}
use Rattle.words.specs.Words.{word}
use Rattle.words.specs.Runs.{run}
use Rattle.words.specs.Least.{first}
use Rattle.layout.specs.Layout.{count, offset}
use Rattle.listing.specs.Items.{all_items, rule_items, rules_by}
use Rattle.listing.specs.Expand.{too_many}

-- the rule at the place q has its alternatives within 16,384 words, and each has at most eight constraints
pub record RuleFits (s : List ℕ) (q : ℕ) : Type 0 where
  pub inside : offset s 3 + 4 * word s (q + 2) + 4 * word s (q + 3) ≤ 16384
  pub asks : (j : ℕ) → j < word s (q + 3) → word s (offset s 3 + 4 * word s (q + 2) + 4 * j + 3) ≤ 8

-- there are at most 64 rules, and each is so
pub record Fits (s : List ℕ) : Type 0 where
  pub few : count s 2 ≤ 64
  pub rules : (i : ℕ) → i < count s 2 → RuleFits s (offset s 2 + i * 4)

-- how many items each of n rules has, the first at the place q
unfoldable pub sizes_from : List ℕ → ℕ → ℕ → List ℕ
sizes_from s n q = run (λ (k : ℕ). length (rule_items s k)) 4 n q

-- the list of all items and the numbers of items of the rules
pub record AllListed (s out numbers : List ℕ) (items : ℕ) : Type 0 where
  pub few : items ≤ 4096
  pub within : items ≤ length out
  pub enough : count s 2 ≤ length numbers
  pub list : take items out ≡ all_items s
  pub counts : take (count s 2) numbers ≡ sizes_from s (count s 2) (offset s 2)

-- how many items are listed, where no rule has too many; or else the first rule that has
abbrev pub ListedIs : List ℕ → List ℕ → List ℕ → Result ℕ ℕ → Type 0
ListedIs s out numbers (Ok items) = (count s 2 ≤ first too_many (rules_by s)) × AllListed s out numbers items
ListedIs s out numbers (Err rule) = (rule ≡ first too_many (rules_by s)) × (rule < count s 2)
