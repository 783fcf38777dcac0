-- Times for the tokens of an alternative: what they have to meet, which of them are shown and in which order, and what `earliest` answers. All
-- of it is said of the decoded book. Assumes nothing.
use Rattle.std.specs.Prelude.{◌≡◌, true, cond, ◌⊎◌, List, [], ◌∷◌, ℕ, zero, suc, ◌+◌, ◌≤◌, ◌<◌, eqb, length, get_or}
use Rattle.clock.specs.Clock.{no_limit, in_bounds}
use Rattle.answers.specs.declared.Numbers.{Numbers}
use Rattle.answers.specs.Numbers.{numbers}
use Rattle.layout.specs.Layout.{count, record_at, owner}
use Rattle.book.specs.Rules.{Value, Variable, Name, Atom, Alternative, Rule, alternative_at, rule_at, variables_of}
use Rattle.book.specs.Encode.{atoms}
use Rattle.book.specs.Fault.{book_fault}

-- ---- what the times have to meet

-- "whole-number times of 0 or more .. for its tokens": start and end of the token that an argument names, "0 for the trigger or 1..n for the
-- alternative's names"; "The end of the plan is one more time"
pub record Times : Type 0 where
  pub start : ℕ → ℕ
  pub end : ℕ → ℕ
  pub plan_end : ℕ

-- the time of a term: "0 start of, 1 end of, 2 time point", "kind 3, end of the plan"
unfoldable pub time_of : Times → ℕ → ℕ → ℕ
time_of x kind k = cond (eqb kind 2) k (cond (eqb kind 3) x.plan_end (cond (eqb kind 0) (x.start k) (x.end k)))

-- "meet all atoms": "right minus left, as whole numbers, is at least lower and (unless N) at most upper". "Job atoms count as met": kind 4
-- "stands on both sides of an atom or on neither"
abbrev pub AtomMet : Atom → Times → Type 0
AtomMet q x =
    (q.left_kind ≡ 4 → ⊥)
    → in_bounds no_limit (time_of x q.left_kind q.left) (time_of x q.right_kind q.right) q.lower q.upper ≡ true

-- token k lasts from least to greatest: "each value's least and greatest duration"; the end of the plan is "not before any named end"
pub record Lasting (least greatest k : ℕ) (x : Times) : Type 0 where
  pub lasts : in_bounds no_limit (x.start k) (x.end k) least greatest ≡ true
  pub within : x.end k ≤ x.plan_end

-- what stands for a record that isn't there
abbrev pub no_value : Value
no_value = record { least = 0; greatest = 0; successors = 0 }

abbrev pub no_variable : Variable
no_variable = record { values = [] }

abbrev pub no_name : Name
no_name = record { variable = 0; value = 0 }

abbrev pub no_atom : Atom
no_atom = record { left_kind = 0; left = 0; right_kind = 0; right = 0; lower = 0; upper = 0 }

-- value number `value` of a variable
abbrev pub value_of : List Variable → ℕ → ℕ → Value
value_of variables variable value = get_or (get_or variables variable no_variable).values value no_value

-- token k is of that value
abbrev pub TokenTimes : List Variable → ℕ → ℕ → ℕ → Times → Type 0
TokenTimes variables variable value k x =
    Lasting (value_of variables variable value).least (value_of variables variable value).greatest k x

-- "times .. for its tokens that meet all atoms and each value's least and greatest duration, trigger included"
pub record Suits (variables : List Variable) (r : Rule Atom) (a : Alternative Atom) (x : Times) : Type 0 where
  pub trigger : (r.variable ≡ no_limit → ⊥) → TokenTimes variables r.variable r.value 0 x
  pub names : (i : ℕ) → i < length a.names
      → TokenTimes variables (get_or a.names i no_name).variable (get_or a.names i no_name).value (i + 1) x
  pub atoms : (i : ℕ) → i < length a.asks → AtomMet (get_or a.asks i no_atom) x

-- ---- which are shown

-- start and end of n tokens from token k on, and "the plan's end last"
unfoldable pub shown_from : Times → ℕ → ℕ → List ℕ
shown_from x k zero = x.plan_end ∷ []
shown_from x k (suc n) = x.start k ∷ x.end k ∷ shown_from x (k + 1) n

-- "start and end, trigger first, the plan's end last"
unfoldable pub shown : Rule Atom → Alternative Atom → Times → List ℕ
shown r a x =
    cond (eqb r.variable no_limit) (shown_from x 1 (length a.names)) (shown_from x 0 (length a.names + 1))

-- "the earliest times .. none of them is later than in any other choice"
pub record Earliest (variables : List Variable) (r : Rule Atom) (a : Alternative Atom) (x : Times) : Type 0 where
  pub suits : Suits variables r a x
  pub first : (y : Times) → Suits variables r a y → (i : ℕ) → get_or (shown r a x) i 0 ≤ get_or (shown r a y) i 0

-- lent words with the times ts at their start: as many as there is room for, and the words behind them as they were
unfoldable pub laid : List ℕ → List ℕ → List ℕ
laid [] ts = []
laid (w ∷ ws) [] = w ∷ ws
laid (w ∷ ws) (t ∷ ts) = t ∷ laid ws ts

-- ---- the answer

-- the alternative with number a, over all rules, and the rule that it belongs to
abbrev pub alternative_of : List ℕ → ℕ → Alternative Atom
alternative_of b a = alternative_at atoms b (record_at 1 b 3 a)

abbrev pub rule_of : List ℕ → ℕ → Rule Atom
rule_of b a = rule_at atoms b (record_at 1 b 2 (owner 1 b 2 2 a))

-- times for alternative a of a book
abbrev pub SuitsOf : List ℕ → ℕ → Times → Type 0
SuitsOf b a x = Suits (variables_of b) (rule_of b a) (alternative_of b a) x

-- "With "yes" the earliest times are shown"
pub record Yes (b : List ℕ) (a : ℕ) (before after : List ℕ) : Type 0 where
  pub times : Times
  pub earliest : Earliest (variables_of b) (rule_of b a) (alternative_of b a) times
  pub shows : after ≡ laid before (shown (rule_of b a) (alternative_of b a) times)

-- ""No" is said exactly if none exists"; ""No" and refusals show none"
pub record No (b : List ℕ) (a : ℕ) (before after : List ℕ) : Type 0 where
  pub none : (x : Times) → SuitsOf b a x → ⊥
  pub stays : after ≡ before

-- "Refusals: 1 to 4, then 27 for an alternative number that the book hasn't got"; then 0 with a = 1 for yes, or a = 0 for no
pub record Told (b : List ℕ) (a : ℕ) (r : Numbers) (before after : List ℕ) : Type 0 where
  pub refused : ((book_fault 1 b).number ≡ 0 → ⊥) → (r ≡ book_fault 1 b) × (after ≡ before)
  pub unknown : (book_fault 1 b).number ≡ 0 → count b 3 ≤ a → (r ≡ numbers 27 0 0) × (after ≡ before)
  pub known : (book_fault 1 b).number ≡ 0 → a < count b 3
      → ((r ≡ numbers 0 1 0) × Yes b a before after) ⊎ ((r ≡ numbers 0 0 0) × No b a before after)
