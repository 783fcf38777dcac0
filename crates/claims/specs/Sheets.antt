-- What a sheet asks of tokens, in plain terms: the thirteen relations by their conditions on starts and ends, and when a constraint holds. The
-- rest of a rule's meaning is Papers', "with constraints in place of atoms". Assumes nothing.
use Rattle.std.specs.Prelude.{◌≡◌, true, List, ℕ, ◌<◌}
use Rattle.words.specs.Words.{in_set}
use Rattle.book.specs.Rules.{Constraint, Rule}
use Rattle.lines.specs.declared.Token.{Token}
use Rattle.claims.specs.Papers.{token_of, Satisfies}

-- "s and e are start and end of left, s' and e' of right": they stand in the relation with this number. Allen's, as document 001 has them in
-- section 7, where "finishes" is "ends"
pub data Relation (s e s' e' : ℕ) : ℕ → Type 0 where
  before : e < s' → Relation s e s' e' 0
  meets : e ≡ s' → Relation s e s' e' 1
  overlaps : s < s' → s' < e → e < e' → Relation s e s' e' 2
  finished_by : s < s' → e ≡ e' → Relation s e s' e' 3
  contains : s < s' → e' < e → Relation s e s' e' 4
  starts : s ≡ s' → e < e' → Relation s e s' e' 5
  equals : s ≡ s' → e ≡ e' → Relation s e s' e' 6
  started_by : s ≡ s' → e' < e → Relation s e s' e' 7
  during : s' < s → e < e' → Relation s e s' e' 8
  finishes : s' < s → e ≡ e' → Relation s e s' e' 9
  overlapped_by : s' < s → s < e' → e' < e → Relation s e s' e' 10
  met_by : e' ≡ s → Relation s e s' e' 11
  after : e' < s → Relation s e s' e' 12

-- "Two tokens stand in exactly one relation; a constraint holds when that one is in the set"
pub record Holds (mapping : List Token) (q : Constraint) : Type 0 where
  pub relation : ℕ
  pub stands :
      Relation (token_of mapping q.left).start.tick (token_of mapping q.left).end.tick
      (token_of mapping q.right).start.tick (token_of mapping q.right).end.tick relation
  pub inside : in_set q.set relation ≡ true

-- a rule of a sheet is satisfied: each trigger token has an alternative and tokens for its names so that all constraints hold
abbrev pub SheetSatisfies : (ℕ → List Token) → Rule Constraint → Type 0
SheetSatisfies lines r = Satisfies Holds lines r
