-- What the papers define, over the decoded book and plan, as Types: state variable, token, timeline, plan, atom, existential statement,
-- rule, and when a plan satisfies a rule. "001, Definition 2" is of source document 001, section 2, which decides on durations and successors;
-- "000, Definition 2.10" of source document 000, which gives the satisfaction of rules. Assumes nothing.
use Rattle.std.specs.Prelude.{◌≡◌, ◌⊎◌, true, List, [], ◌∷◌, ℕ, suc, ◌-◌, ◌≤◌, ◌<◌, pos, length, get_or}
use Rattle.std.proofs.Math.IntN.{sub_ℕ}
use Rattle.std.specs.Int.Signed.{le_z}
use Rattle.words.specs.Words.{in_set}
use Rattle.words.specs.Lists.{All}
use Rattle.clock.specs.Clock.{last_tick, no_limit}
use Rattle.book.specs.Rules.{Value, Variable, Name, Atom, Alternative, Rule}
use Rattle.lines.specs.declared.Token.{Token}
use Rattle.lines.specs.Ends.{line_end, plan_end}
use Rattle.choice.specs.Met.{nobody}

-- ---- 001, Definitions 1, 2 and 4: state variables, tokens, timelines, plans

abbrev pub no_value : Value
no_value = record { least = 0; greatest = 0; successors = 0 }

-- 001, Definition 1, "V_x is the finite domain of the variable": value v of x; it is one of them where v < length x.values
abbrev pub value_of : Variable → ℕ → Value
value_of x v = get_or x.values v no_value

-- 001, Definitions 1 and 2, "D_x(v) = (d_min, d_max) and d_min ≤ d ≤ d_max", where d_max may be +∞: value v of x may last d
pub record Lasts (x : Variable) (v d : ℕ) : Type 0 where
  pub least : (value_of x v).least ≤ d
  pub greatest : ((value_of x v).greatest ≡ no_limit) ⊎ (d ≤ (value_of x v).greatest)

-- 001, Definitions 1 and 2, "v_(i+1) ∈ T_x(v_i)": value w may immediately follow value v
pub record Follows (x : Variable) (v w : ℕ) : Type 0 where
  pub bit : in_set (value_of x v).successors w ≡ true

-- token i of a timeline
abbrev pub token_of : List Token → ℕ → Token
token_of line i = get_or line i nobody

-- its duration: 001, "end(T, i) = start(T, i) + d_i"
abbrev pub duration_of : Token → ℕ
duration_of t = t.end.tick - t.start.tick

-- 001, Definition 2, a timeline for x: "v ∈ V_x", d within D_x, each value in T_x of the one before, "start(T, i) = Σ d_j" over the tokens
-- before, and "d ∈ ℕ⁺". And by document 01 each token "ends by the last tick"
pub record Timeline (x : Variable) (line : List Token) : Type 0 where
  pub value : (i : ℕ) → i < length line → (token_of line i).value < length x.values
  pub lasts : (i : ℕ) → i < length line → Lasts x (token_of line i).value (duration_of (token_of line i))
  pub follows : (i : ℕ) → suc i < length line → Follows x (token_of line i).value (token_of line (suc i)).value
  pub first : 0 < length line → (token_of line 0).start.tick ≡ 0
  pub next : (i : ℕ) → suc i < length line → (token_of line (suc i)).start.tick ≡ (token_of line i).end.tick
  pub forward : (i : ℕ) → i < length line → (token_of line i).start.tick < (token_of line i).end.tick
  pub last : (i : ℕ) → i < length line → (token_of line i).end.tick ≤ last_tick

abbrev pub no_variable : Variable
no_variable = record { values = [] }

-- "timelines .., one for each state variable"
abbrev pub Timelines : List Variable → (ℕ → List Token) → Type 0
Timelines variables lines = (x : ℕ) → x < length variables → Timeline (get_or variables x no_variable) (lines x)

-- 001, Definition 4, and 000, Definition 2.4, a plan over the state variables: its timelines have "the same horizon"
pub record Plan (variables : List Variable) (lines : ℕ → List Token) : Type 0 where
  pub timeline : Timelines variables lines
  pub horizon : (x : ℕ) → x < length variables → line_end (lines x) ≡ plan_end lines

-- ---- 000, Definitions 2.5 and 2.9: terms and atoms; name 0 is the trigger's, names 1, 2, .. the statement's

-- 000, Definition 2.9, "⟦T⟧": the time of a term under a token mapping (the trigger token, then the names' tokens). The papers have no term
-- for the horizon: end_of_plan is the house's (02, L8), "kind 3, end of the plan, argument 0", in a plan that ends at `last`
pub data Evaluates (last : ℕ) (mapping : List Token) : ℕ → ℕ → ℕ → Type 0 where
  start : (name : ℕ) → Evaluates last mapping 0 name (token_of mapping name).start.tick
  end : (name : ℕ) → Evaluates last mapping 1 name (token_of mapping name).end.tick
  timestamp : (t : ℕ) → Evaluates last mapping 2 t t
  end_of_plan : Evaluates last mapping 3 0 last

-- 000, Definition 2.9, "l ≤ ⟦T'⟧ - ⟦T⟧ ≤ u", on whole numbers; u may be +∞
pub record Bounded (last : ℕ) (mapping : List Token) (atom : Atom) : Type 0 where
  pub left : ℕ
  pub right : ℕ
  pub is_left : Evaluates last mapping atom.left_kind atom.left left
  pub is_right : Evaluates last mapping atom.right_kind atom.right right
  pub lower : le_z (pos atom.lower) (sub_ℕ right left) ≡ true
  pub upper : (atom.upper ≡ no_limit) ⊎ (le_z (sub_ℕ right left) (pos atom.upper) ≡ true)

-- an atom of the papers is within its bounds. An atom of jobs (left kind 4) is the house's (02, L7), beside the papers': it "holds when the
-- jobs are equal"
pub record Satisfied (last : ℕ) (mapping : List Token) (atom : Atom) : Type 0 where
  pub bounds : (atom.left_kind ≡ 4 → ⊥) → Bounded last mapping atom
  pub jobs : atom.left_kind ≡ 4 → (token_of mapping atom.left).job ≡ (token_of mapping atom.right).job

-- in a plan: its end is "the common end" of its timelines
abbrev pub SatisfiedIn : (ℕ → List Token) → List Token → Atom → Type 0
SatisfiedIn lines = Satisfied (plan_end lines)

-- ---- 000, Definitions 2.7 and 2.10: existential statements

-- "τ ∈ π(x)": the token t is one of the timeline
pub record On (line : List Token) (t : Token) : Type 0 where
  pub number : ℕ
  pub below : number < length line
  pub is : token_of line number ≡ t

abbrev pub no_name : Name
no_name = record { variable = 0; value = 0 }

abbrev pub no_statement : {C : Type 0} → Alternative C
no_statement = record { names = []; asks = [] }

-- the same for what a book's alternatives ask, atoms, and a sheet's, constraints: Holds says when one holds under a token mapping
module _ {C : Type 0} (Holds : List Token → C → Type 0) (lines : ℕ → List Token) where
  -- 000, Definition 2.10, "π ⊨_η E": each name is mapped to a token of the named variable and value, and the clause's atoms are satisfied
  pub record Maps (trigger : Token) (statement : Alternative C) (tokens : List Token) : Type 0 where
    pub long : length tokens ≡ length statement.names
    pub on : (i : ℕ) → i < length tokens → On (lines (get_or statement.names i no_name).variable) (token_of tokens i)
    pub value : (i : ℕ) → i < length tokens → (token_of tokens i).value ≡ (get_or statement.names i no_name).value
    pub clause : All (Holds (trigger ∷ tokens)) statement.asks

  -- ---- 000, Definitions 2.8 and 2.11: synchronisation rules

  -- some statement of the rule, with some token mapping, is satisfied for the trigger token
  pub record Met (rule : Rule C) (trigger : Token) : Type 0 where
    pub which : ℕ
    pub below : which < length rule.alternatives
    pub tokens : List Token
    pub maps : Maps trigger (get_or rule.alternatives which no_statement) tokens

  -- 000, Definition 2.11, "π ⊨ R": "for any token τ0 ∈ π(x0), if val(τ0) = v0 then there is .."; a triggerless rule needs it once, for a trigger that no atom names
  pub record Satisfies (rule : Rule C) : Type 0 where
    pub triggered : (rule.variable ≡ no_limit → ⊥) → (t : Token) → On (lines rule.variable) t → t.value ≡ rule.value → Met rule t
    pub triggerless : rule.variable ≡ no_limit → Met rule nobody
