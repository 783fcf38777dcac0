-- 000, Definitions 4.4 and 4.5, as Types over decoded events: the rule graph of an existential statement, and when it matches over an event
-- sequence. Assumes nothing.
use Rattle.std.specs.Prelude.{◌≡◌, ◌⊎◌, true, List, [], ◌∷◌, ◌++◌, ℕ, suc, ◌-◌, ◌<◌, pos, length, get_or}
use Rattle.std.proofs.Math.IntN.{sub_ℕ}
use Rattle.std.specs.Int.Signed.{le_z}
use Rattle.words.specs.Lists.{All}
use Rattle.words.specs.Runs.{run}
use Rattle.clock.specs.Clock.{no_limit}
use Rattle.book.specs.Rules.{Name, Atom, Alternative, Rule}
use Rattle.event_list.specs.Events.{Event, action}
use Rattle.events_claims.specs.Sequences.{Has, actions_of, time_at, Identifies}

-- ---- 000, Definition 4.4

-- the names whose starts and ends are the nodes, "a_0[x_0 = v_0]", the trigger's, first; and the edges "(T, T')" with "β(e) = (l, u)"
pub record Graph : Type 0 where
  pub names : List Name
  pub edges : List Atom

-- the edge from start(a) to end(a), "(0, +∞) otherwise"
abbrev pub own_edge : ℕ → Atom
own_edge a = record { left_kind = 0; left = a; right_kind = 1; right = a; lower = 0; upper = no_limit }

-- "there is an edge if and only if C contains an atom of the form T ≤[l,u] T', or T = start(a_i) and T' = end(a_i)"
unfoldable pub graph_of : Rule Atom → Alternative Atom → Graph
graph_of rule statement =
    record {
      names = record { variable = rule.variable; value = rule.value } ∷ statement.names;
      edges = statement.asks ++ run own_edge 1 (suc (length statement.names)) 0;
    }

-- ---- 000, Definition 4.5

-- "A matching function γ": the events of start(a) and of end(a), for each name
pub record Pair : Type 0 where
  pub start : ℕ
  pub end : ℕ

abbrev pub no_pair : Pair
no_pair = record { start = 0; end = 0 }

abbrev pub pair_of : List Pair → ℕ → Pair
pair_of γ a = get_or γ a no_pair

abbrev pub no_name : Name
no_name = record { variable = 0; value = 0 }

abbrev pub no_statement : Alternative Atom
no_statement = record { names = []; asks = [] }

abbrev pub name_of : Graph → ℕ → Name
name_of g a = get_or g.names a no_name

-- the time of a node: that of the event which γ gives it. Beside the papers' nodes: a time point is its own time, and the end of the plan (02, L8)
-- is the last event's
pub data NodeTime (es : List Event) (γ : List Pair) : ℕ → ℕ → ℕ → Type 0 where
  start : (a : ℕ) → NodeTime es γ 0 a (time_at es (pair_of γ a).start)
  end : (a : ℕ) → NodeTime es γ 1 a (time_at es (pair_of γ a).end)
  timestamp : (t : ℕ) → NodeTime es γ 2 t t
  end_of_plan : NodeTime es γ 3 0 (time_at es (length es - 1))

-- item 3: "if e = (T, T') and β(e) = (l, u), then l ≤ δ_γ(T),γ(T') ≤ u", as whole numbers
pub record TimeEdge (es : List Event) (γ : List Pair) (e : Atom) : Type 0 where
  pub left : ℕ
  pub right : ℕ
  pub is_left : NodeTime es γ e.left_kind e.left left
  pub is_right : NodeTime es γ e.right_kind e.right right
  pub lower : le_z (pos e.lower) (sub_ℕ right left) ≡ true
  pub upper : (e.upper ≡ no_limit) ⊎ (le_z (sub_ℕ right left) (pos e.upper) ≡ true)

-- beside the papers' edges (02, L7): the job of a name is that of the action which starts its token
abbrev pub JobAt : List Event → List Name → List Pair → ℕ → ℕ → Type 0
JobAt es names γ a job = Has (action (get_or names a no_name).variable (get_or names a no_name).value 1 job) (actions_of es (pair_of γ a).start)

-- an edge of jobs, "kind 4", "holds when the jobs are equal"
pub record JobEdge (es : List Event) (names : List Name) (γ : List Pair) (e : Atom) : Type 0 where
  pub job : ℕ
  pub left : JobAt es names γ e.left job
  pub right : JobAt es names γ e.right job

pub record EdgeHolds (es : List Event) (names : List Name) (γ : List Pair) (e : Atom) : Type 0 where
  pub times : (e.left_kind ≡ 4 → ⊥) → TimeEdge es γ e
  pub jobs : e.left_kind ≡ 4 → JobEdge es names γ e

-- "G matches μ with the matching function γ": items 1 and 2, the events of each name have its start and its end and identify a token of its
-- variable; and item 3
pub record Matches (es : List Event) (g : Graph) (γ : List Pair) : Type 0 where
  pub long : length γ ≡ length g.names
  pub token : (a : ℕ) → a < length γ → Identifies es (name_of g a).variable (name_of g a).value (pair_of γ a).start (pair_of γ a).end
  pub edges : All (EdgeHolds es g.names γ) g.edges

-- 000, Lemma 4.6: "there is an E_k and a γ such that μ, γ ⊨ G_E_k and γ(start(a_0)) = i"
pub record MatchesAt (es : List Event) (rule : Rule Atom) (i : ℕ) : Type 0 where
  pub which : ℕ
  pub below : which < length rule.alternatives
  pub γ : List Pair
  pub matches : Matches es (graph_of rule (get_or rule.alternatives which no_statement)) γ
  pub trigger : (pair_of γ 0).start ≡ i
