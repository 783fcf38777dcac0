-- The events of a plan, sent one by one. Assumes nothing.
use mathlib.Core.Path.{◌≡◌, sym, ap, ◌∙◌}
use mathlib.Core.Bool.{Bool, true, false}
use mathlib.Core.List.{List, [], ◌∷◌, ◌++◌, flat_map, map}
use Prim.Native.Nat.{ℕ, suc, ◌+◌, ◌-◌, ◌<◌, ◌≤◌}
use native.Mathlib.Omega.{arith}
use lib.ListN.{length}
use borrow.Author.Tests.{eq-eqb, ne_eqb}
use Rattle.words.specs.Words.{word}
use Rattle.event_list.specs.Events.{Line, event, later, by_line, soonest, sweep, plan_ticks, events_of}
use Rattle.words.specs.Runs.{run}
use Rattle.lines.specs.Lines.{line_of}
use Rattle.lines.specs.Ends.{plan_end}
use Rattle.event_list.specs.Words.{event_words, list_words}
use Rattle.event_list.specs.Plans.{line_tokens, plan_lines, list_of}
use Rattle.event_list.specs.Sends.{Sends}
use Rattle.sink.specs.declared.Sink.{Sink}
use Rattle.sink.specs.Sinks.{SendsTo}
use Rattle.event_list.proofs.Timed.{line-end, plan_ticks_lem}
use Rattle.moments.specs.State.{happens}
use Rattle.sink.proofs.Sends.{Sending, sending_none, sending_more, sending_all, sends_then, sends_as}
use Rattle.listed.specs.Ready.{Ready}

-- ---- the sweep, step by step

stop : (ls : List Line) (k m : ℕ) → m ≡ soonest (suc k) ls → m ≡ 0 → sweep (suc k) ls ≡ []
unfolding sweep
stop ls k m is z = rw (sym is ∙ z)

step : (ls : List Line) (k m : ℕ) → m ≡ soonest (suc k) ls → (m ≡ 0 → ⊥)
    → sweep (suc k) ls ≡ event m (by_line (happens false m) 0 ls) ∷ sweep k (map (later m) ls)
unfolding sweep happens
step ls k m is z = rw (← is, ne_eqb _ _ z)

module _ (ls : List Line) (n m : ℕ) (some : 0 < n) (is : m ≡ soonest n ls) where
  less : n ≡ suc (n - 1)
  less = omega arith

  soon : m ≡ soonest (suc (n - 1)) ls
  soon = is ∙ ap (λ (i : ℕ). soonest i ls) less

  pub sweep-stop : m ≡ 0 → sweep n ls ≡ []
  sweep-stop z = ap (λ (i : ℕ). sweep i ls) less ∙ stop ls (n - 1) m soon z

  pub sweep-step : (m ≡ 0 → ⊥) → sweep n ls ≡ event m (by_line (happens false m) 0 ls) ∷ sweep (n - 1) (map (later m) ls)
  sweep-step z = ap (λ (i : ℕ). sweep i ls) less ∙ step ls (n - 1) m soon z

pub sweep-none : (ls : List Line) (n : ℕ) → n ≤ 0 → sweep n ls ≡ []
unfolding sweep
sweep-none ls n h = let e : n ≡ 0 = omega (arith, h) in rw e

-- ---- the loop

-- the words of the events that are left
unfoldable pub rest_words : List ℕ → List Line → ℕ → List ℕ
rest_words p ls n = flat_map (event_words (word p 0)) (sweep n ls)

-- what was sent and counted, and what is left, is all
pub record Sweeping (before now : Sink) (p : List ℕ) (all : List Line) (ticks : ℕ) (ls : List Line) (n : ℕ) (events : ℕ) : Type 0 where
  pub so : Sending before now (rest_words p ls n) (rest_words p all ticks)
  pub counted : events + length (sweep n ls) ≡ length (sweep ticks all)

pub sweeping_none : (to : Sink) (p : List ℕ) (ls : List Line) (n : ℕ) → Sweeping to to p ls n ls (n - 0) 0
sweeping_none to p ls n =
    let all : n - 0 ≡ n = omega arith in
    rw all (record { so = sending_none to (rest_words p ls n); counted = omega arith })

pub sweeping_step : {before now after : Sink} {p : List ℕ} {all ls next : List Line} {ticks n events m : ℕ}
    → Sweeping before now p all ticks ls (n - events) events → events < n → m ≡ soonest (n - events) ls → (m ≡ 0 → ⊥) → next ≡ map (later m) ls
    → SendsTo now after (event_words (word p 0) (event m (by_line (happens false m) 0 ls)))
    → Sweeping before after p all ticks next (n - (events + 1)) (events + 1)
unfolding rest_words flat_map
sweeping_step {p = p} {ls = ls} {next = next} {n = n} {events = events} {m = m} h some is z e q =
    let fewer : n - events - 1 ≡ n - (events + 1) = omega arith in
    let step =
    rw fewer at (sweep-step ls (n - events) m (omega arith) is z ∙ ap (λ (l : List Line). event m (by_line (happens false m) 0 ls) ∷ sweep (n - events - 1) l) (sym e)) in
    record {
      so = sending_more h.so (ap (flat_map (event_words (word p 0))) step) q;
      counted = omega (arith, h.counted, ap length step);
    }

-- nothing is left
pub sweeping_all : {before now : Sink} {p : List ℕ} {all ls : List Line} {ticks n events : ℕ} → Sweeping before now p all ticks ls n events
    → sweep n ls ≡ [] → SendsTo before now (rest_words p all ticks) × (events ≡ length (sweep ticks all))
unfolding rest_words flat_map
sweeping_all {p = p} h e =
    (sending_all h.so (ap (flat_map (event_words (word p 0))) e), omega (arith, h.counted, ap length e))

-- ---- the whole plan

-- a plan without tokens has no events
pub events_none : (ls : List Line) → plan_ticks ls ≡ 0 → events_of ls ≡ []
unfolding events_of
events_none ls h = rw (eq-eqb _ _ h)

pub events_some : (ls : List Line) (ticks : ℕ) → ticks ≡ plan_ticks ls → (ticks ≡ 0 → ⊥)
    → events_of ls ≡ event 0 (by_line (happens true 0) 0 ls) ∷ sweep ticks ls
unfolding events_of happens
events_some ls ticks e h = rw (← e, ne_eqb _ _ h)

-- the first event, and the rest of them
pub whole_sent : (p : List ℕ) {s t u : Sink} {all ls : List Line} {ticks : ℕ} → ls ≡ all → ticks ≡ plan_ticks all → (ticks ≡ 0 → ⊥)
    → SendsTo s t (event_words (word p 0) (event 0 (by_line (happens true 0) 0 ls)))
    → SendsTo t u (flat_map (event_words (word p 0)) (sweep ticks ls))
    → SendsTo s u (flat_map (event_words (word p 0)) (events_of all))
unfolding flat_map
whole_sent p {all = all} {ls = ls} {ticks = ticks} same e h first rest =
    let is = ap (λ (x : List Line). event 0 (by_line (happens true 0) 0 x) ∷ sweep ticks x) same ∙ sym (events_some all ticks e h) in
    sends_as (ap (flat_map (event_words (word p 0))) is) (sends_then first rest)

pub whole-counted : {all ls : List Line} {k ticks : ℕ} → ls ≡ all → ticks ≡ plan_ticks all → (ticks ≡ 0 → ⊥) → k ≡ length (sweep ticks ls)
    → k + 1 ≡ length (events_of all)
whole-counted {all} {ls} {k} {ticks} same e h q =
    let is = ap length (events_some all ticks e h) in
    let moved = ap (λ (x : List Line). length (sweep ticks x)) same in
    omega (arith, is, moved, q)

-- the ticks of a plan that has lines
pub ticks_end : (p : List ℕ) (n r : ℕ) → Ready p n → r ≡ plan_end (line_of p) → r ≡ plan_ticks (plan_lines p)
ticks_end p n r h e = e ∙ line-end p 0 ∙ sym (plan_ticks_lem p 0 (omega (arith, h.lines, h.some)))

pub lines_start : (p : List ℕ) (n : ℕ) (ls : List Line) → Ready p n → ls ≡ run (line_tokens p) 1 n 0 → ls ≡ plan_lines p
unfolding plan_lines
lines_start p n ls h e = e ∙ ap (λ (k : ℕ). run (line_tokens p) 1 k 0) h.lines

-- ---- the list

pub list_long : (p : List ℕ) → length (list_of p) ≡ 3 + length (flat_map (event_words (word p 0)) (events_of (plan_lines p)))
unfolding list_of list_words
list_long p = omega arith

pub list_as : (p : List ℕ) (e words events : ℕ) → e ≡ word p 0
    → words ≡ 3 + length (flat_map (event_words (word p 0)) (events_of (plan_lines p)))
    → events ≡ length (events_of (plan_lines p))
    → (e ∷ words ∷ events ∷ []) ++ flat_map (event_words (word p 0)) (events_of (plan_lines p)) ≡ list_of p
unfolding list_of list_words
list_as p e words events h k l = rw (h, k, l)

-- what is left in the room that was lent
pub sends_left : {list l m n xs : List ℕ} {a c : ℕ} {s u : Bool} → Sends list l m a s c u xs → n ≡ m → Sends list l n a s c u xs
sends_left h e = rw e h
