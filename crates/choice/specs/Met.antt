-- When an alternative is met for one trigger token, on decoded objects. Assumes nothing.
use Rattle.std.specs.Prelude.{Bool, ◌&&◌, cond, List, [], ◌∷◌, ℕ, ◌+◌, ◌*◌, eqb, get_or, set}
use Rattle.words.specs.Words.{in_set}
use Rattle.words.specs.Lists.{any, all}
use Rattle.clock.specs.Clock.{no_limit, in_bounds}
use Rattle.book.specs.Rules.{Name, Atom, Constraint, Alternative, Rule}
use Rattle.lines.specs.declared.Token.{Token}
use Rattle.lines.specs.Lines.{token}
use Rattle.lines.specs.Ends.{plan_end}
use Rattle.allen.specs.Relation.{relation_of}

-- what stands for a token that isn't there: the trigger of a rule without one, and the names that no token was chosen for yet
abbrev pub nobody : Token
nobody = token 0 0 1 0

-- a choice is sixteen numbers: the end of the plan, then start, end and job of the trigger, and of the token of each of at most four names,
-- in their order
abbrev pub Choice : Type 0
Choice = List ℕ

abbrev pub choice_size : ℕ
choice_size = 16

-- which place of it has the end of the plan, which the start (kind 0) or the end (kind 1) of name number k, and which its job
abbrev pub end_place : ℕ
end_place = 0

abbrev pub time_place : ℕ → ℕ → ℕ
time_place kind k = 1 + 3 * k + kind

abbrev pub job_place : ℕ → ℕ
job_place k = 1 + 3 * k + 2

-- the choice of the trigger alone, in a plan that ends at `end`
abbrev pub triggered : ℕ → Token → Choice
triggered end t = end ∷ t.start.tick ∷ t.end.tick ∷ t.job ∷ 0 ∷ 1 ∷ 0 ∷ 0 ∷ 1 ∷ 0 ∷ 0 ∷ 1 ∷ 0 ∷ 0 ∷ 1 ∷ 0 ∷ []

-- the choice with start, end and job of a token for name number k
unfoldable pub put : Choice → ℕ → ℕ → ℕ → ℕ → Choice
put c k start end job = set (set (set c (time_place 0 k) start) (time_place 1 k) end) (job_place k) job

-- "0 start of, 1 end of" the token that an argument names: "0 for the trigger or 1..n for the alternative's names"
unfoldable pub token_time : Choice → ℕ → ℕ → ℕ
token_time c kind k = get_or c (time_place kind k) kind

-- "kind 4, job of (argument as in kind 0)"
unfoldable pub token_job : Choice → ℕ → ℕ
token_job c k = get_or c (job_place k) 0

-- "kind 3, end of the plan": "the common end that L4 demands"
unfoldable pub end_time : Choice → ℕ
end_time c = get_or c end_place 0

-- the time of a term: a token's, "2 time point", or the end of the plan
unfoldable pub time_of : Choice → ℕ → ℕ → ℕ
time_of c kind k = cond (eqb kind 2) k (cond (eqb kind 3) (end_time c) (token_time c kind k))

-- "An atom holds when right minus left, as whole numbers, is at least lower and (unless N) at most upper"
unfoldable pub bounds_hold : Choice → Atom → Bool
bounds_hold c a = in_bounds no_limit (time_of c a.left_kind a.left) (time_of c a.right_kind a.right) a.lower a.upper

-- one of jobs "holds when the jobs are equal"
unfoldable pub atom_holds : Choice → Atom → Bool
atom_holds c a = cond (eqb a.left_kind 4) (eqb (token_job c a.left) (token_job c a.right)) (bounds_hold c a)

-- "Two tokens stand in exactly one relation; a constraint holds when that one is in the set"
unfoldable pub constraint_holds : Choice → Constraint → Bool
constraint_holds c q =
    in_set q.set (relation_of (token_time c 0 q.left) (token_time c 1 q.left) (token_time c 0 q.right) (token_time c 1 q.right))

-- tokens "of the named variable and value" can be chosen for the names, put to the places k, k + 1, .. of the choice c, so that p passes
unfoldable pub place : (ℕ → List Token) → (Choice → Bool) → List Name → ℕ → Choice → Bool
place lines p [] k c = p c
place lines p (n ∷ ns) k c =
    any (λ (t : Token). eqb t.value n.value && place lines p ns (k + 1) (put c k t.start.tick t.end.tick t.job)) (lines n.variable)

-- the rest is the same for a book and a sheet: `holds` says when what an alternative asks holds
module _ {C : Type 0} (holds : Choice → C → Bool) (lines : ℕ → List Token) where
  -- "a token for each of its names .. so that all atoms hold"
  unfoldable pub alternative_met : Choice → Alternative C → Bool
  alternative_met c a = place lines (λ (d : Choice). all (holds d) a.asks) a.names 1 c

  -- the "trigger token has an alternative"
  unfoldable pub met : Rule C → Token → Bool
  met r t = any (alternative_met (triggered (plan_end lines) t)) r.alternatives
