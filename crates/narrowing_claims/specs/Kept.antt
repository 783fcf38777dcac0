-- What the theorems of proofs/Kept are said in. Assumes nothing.
use Rattle.std.specs.Prelude.{◌≡◌, true, List, ◌∷◌, ℕ, ◌+◌, ◌*◌, get_or}
use Rattle.words.specs.Words.{word}
use Rattle.layout.specs.Layout.{record_at}
use Rattle.book.specs.Rules.{Constraint, Alternative, Rule, alternative_at, rule_at}
use Rattle.book.specs.Encode.{constraints}
use Rattle.lines.specs.declared.Token.{Token}
use Rattle.lines.specs.Lines.{line_of}
use Rattle.plan.specs.Fault.{plan_fault}
use Rattle.allen.specs.Relation.{relation_of}
use Rattle.choice.specs.Met.{nobody, constraint_holds}
use Rattle.choice.specs.Exists.{Among, Meets}
use Rattle.verdict.specs.Judged.{trigger_line, is_trigger}
use Rattle.narrowing.specs.Sheet.{rule_of, first_token}

-- ---- what is claimed

-- alternative number a of a sheet, "over the whole of table 3", and its rule
abbrev pub alternative_in : List ℕ → ℕ → Alternative Constraint
alternative_in s a = alternative_at constraints s (record_at 2 s 3 a)

abbrev pub rule_in : List ℕ → ℕ → Rule Constraint
rule_in s a = rule_at constraints s (record_at 2 s 2 (rule_of s a))

-- "some plan's tokens meeting that alternative": the plan passes 5 to 11, t is on the trigger's timeline with its value (nobody without a
-- trigger), and ts are tokens for the names so that all constraints hold
pub record Meeting (s : List ℕ) (a : ℕ) (p : List ℕ) (t : Token) (ts : List Token) : Type 0 where
  pub plan : (plan_fault s p).number ≡ 0
  pub on : Among t (trigger_line (line_of p) (rule_in s a))
  pub trigger : is_trigger (line_of p) (rule_in s a) t ≡ true
  pub meets : Meets constraint_holds (line_of p) t (alternative_in s a) ts

-- the set of tokens i and j in the table of n tokens: "by left token, then right"
abbrev pub set_of : ℕ → List ℕ → ℕ → ℕ → ℕ
set_of n m i j = word m (i * n + j)

-- "trigger first if there is one": token i of the table
abbrev pub token_in : List ℕ → ℕ → Token → List Token → ℕ → Token
token_in s a t ts i = get_or (t ∷ ts) (i + first_token s a) nobody

-- the relation in which two tokens stand
abbrev pub relation_of_tokens : Token → Token → ℕ
relation_of_tokens x y = relation_of x.start.tick x.end.tick y.start.tick y.end.tick
