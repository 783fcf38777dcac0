-- Demand 2, "otherwise the first fault in the stated order; no fault is named that isn't there": the rows 1 to 11 and 18 of the fault table, each
-- exactly if what it says is so and nothing before it in the order is. For a book and for a sheet alike. Row 12 is `fault_12` in
-- FaultsOfRules, row 0 `accepted` in Accepted, and Examples has an input for each. Assumes nothing.
use mathlib.Core.Path.{◌≡◌}
use mathlib.Core.Bool.{true}
use mathlib.Core.Logic.{◌↔◌}
use mathlib.Core.List.{List, ◌∷◌}
use Prim.Native.Nat.{ℕ, ◌+◌, ◌*◌, ◌≤◌, ◌<◌}
use native.Mathlib.Omega.{arith}
use lib.ListN.{length, get_or, take}
use Rattle.answers.specs.declared.Numbers.{Numbers}
use Rattle.answers.specs.Numbers.{numbers_at, numbers, or_else}
use Rattle.layout.specs.Layout.{count, ending}
use Rattle.book.specs.Fault as book
use Rattle.book.specs.Encode.{atoms, constraints}
use Rattle.book.specs.Rules.{rules_of}
use Rattle.lines.specs.Lines.{token_width, line_of}
use Rattle.plan.specs.Fault as plan
use Rattle.choice.specs.Met.{atom_holds, constraint_holds}
use Rattle.verdict.specs.Judged.{rules_fault, judged, judged_sheet}
use Rattle.claims.specs.Stages.{Stage, Own, Owned, Passed, first_of, no_stage, disjoint, book_stages, plan_stages, stages_of, last_stage}
use Rattle.claims.proofs.Stages.{at_stage, book_owned, plan_owned, owned, judge_disjoint, rules_own, in_order}
use Rattle.claims.proofs.FaultsOfTables.{missed, outside, sized_none, header-none, end_none, with_book, header_is, record_is, plan_sized, head-none, plan_ends, ends_is, head-is}
use Rattle.plan.proofs.Good.{tokens_none}
use Rattle.claims.proofs.Timelines.{timelines_iff}
use Rattle.claims.proofs.FaultsOfTokens.{tokens_is}
use Rattle.claims.specs.Faults.{BookTable, FaultTable}

-- THE THEOREM for a book or sheet: whatever stages come after it, the answer is as the table says
pub book_table : (e : ℕ) (b : List ℕ) (after : List Stage) (last : Stage) → Owned (last ∷ after) → disjoint (last ∷ book_stages e b after) ≡ true
    → BookTable e b (first_of (book_stages e b after) last.answer)
unfolding book.length_fault book.end_fault
book_table e b after last own apart =
    record {
      fault_1 = let s = stage 0 (numbers 1 0 0) (omega arith) (omega arith) (omega arith) (omega arith) in
          let o = outside 1 (omega arith) (length b) 14 16384 in
          (λ h. o.0 (s.0 h).1, λ h. s.1 (tt, o.1 h));
      fault_2 = λ k.
          let s = stage 1 (numbers 2 k 0) (omega arith) (omega arith) (omega arith) (omega arith) in
          (λ h. let q = s.0 h in ((sized_none e b).0 q.0.0, (header_is e b k).0 q.1), λ h. s.1 (((sized_none e b).1 h.0, tt), (header_is e b k).1 h.1));
      fault_3 =
          let s = stage 2 (numbers 3 0 0) (omega arith) (omega arith) (omega arith) (omega arith) in
          let m = missed 3 (omega arith) (ending e b 5) (length b) in (
            λ h. let q = s.0 h in ((sized_none e b).0 q.0.0, (header-none e b).0 q.0.1.0, m.0 q.1),
            λ h. s.1 (((sized_none e b).1 h.0, ((header-none e b).1 h.1, tt)), m.1 h.2),
          );
      fault_4 = λ t i j.
          let s = stage 3 (numbers_at 4 t i j) (omega arith) (omega arith) (omega arith) (omega arith) in
          let m = record_is e b t i j in (
            λ h.
                let q = s.0 h in
                let r = m.0 q.1 in
                ((sized_none e b).0 q.0.0, (header-none e b).0 q.0.1.0, (end_none e b).0 q.0.1.1.0, r.0, r.1, r.2),
            λ h.
                s.1
                (((sized_none e b).1 h.0, ((header-none e b).1 h.1, ((end_none e b).1 h.2, tt))), m.1 (h.3, h.4, h.5)),
          );
    }
  where
    stage : (i : ℕ) (z : Numbers) → i < 4 → (get_or (book_stages e b after) i no_stage).low ≤ z.number
        → z.number < (get_or (book_stages e b after) i no_stage).high → 1 ≤ z.number
        → (first_of (book_stages e b after) last.answer ≡ z) ↔ (Passed (take i (book_stages e b after)) × ((get_or (book_stages e b after) i no_stage).answer ≡ z))
    stage i z l = at_stage i (book_stages e b after) last z (omega arith) (book_owned e b after last own) apart

-- THE THEOREM for a plan too: whatever comes last with the number 12 or none, the answer is as the table says
pub fault-table : (e : ℕ) (b p : List ℕ) (last : Numbers) → Own 12 13 last
    → FaultTable e b p (or_else (book.book_fault e b) (or_else (plan.plan_fault b p) last))
unfolding plan.length_fault plan.end_fault
fault-table e b p last own =
    rw (in_order e b p last)
    (record {
      book = book_table e b (plan_stages b p) (last_stage last) (plan_owned b p last own) (judge_disjoint e b p last);
      fault_5 =
          let s = stage 4 (numbers 5 0 0) (omega arith) (omega arith) (omega arith) (omega arith) in
          let o = outside 5 (omega arith) (length p) (3 + 2 * count b 0) 16384 in
          (λ h. let q = s.0 h in (((with_book e b).0 q.0).0, o.0 q.1), λ h. s.1 ((with_book e b).1 (h.0, tt), o.1 h.1));
      fault_6 = λ k.
          let s = stage 5 (numbers 6 k 0) (omega arith) (omega arith) (omega arith) (omega arith) in (
            λ h.
                let q = s.0 h in
                let w = (with_book e b).0 q.0 in
                (w.0, (plan_sized b p).0 w.1.0, (head-is b p k).0 q.1),
            λ h. s.1 ((with_book e b).1 (h.0, ((plan_sized b p).1 h.1, tt)), (head-is b p k).1 h.2),
          );
      fault_7 =
          let s = stage 6 (numbers 7 0 0) (omega arith) (omega arith) (omega arith) (omega arith) in
          let m = missed 7 (omega arith) (3 + 2 * count b 0 + token_width p * plan.sum_before p (count b 0)) (length p) in (
            λ h.
                let q = s.0 h in
                let w = (with_book e b).0 q.0 in
                (w.0, (plan_sized b p).0 w.1.0, (head-none b p).0 w.1.1.0, m.0 q.1),
            λ h. s.1 ((with_book e b).1 (h.0, ((plan_sized b p).1 h.1, ((head-none b p).1 h.2, tt))), m.1 h.3),
          );
      fault_8_to_11 = λ n v j low high.
          let s = stage 7 (numbers n v j) (omega arith) low (omega arith) (omega arith) in
          let t = tokens_is b p n v j low in (
            λ h.
                let q = s.0 h in
                let w = (with_book e b).0 q.0 in
                let r = t.0 q.1 in
                (w.0, record { sized = (plan_sized b p).0 w.1.0; head = (head-none b p).0 w.1.1.0; whole = (plan_ends b p).0 w.1.1.1.0 }, r.0, r.1),
            λ h.
                let g = h.1 in
                s.1
                ((with_book e b).1 (h.0, ((plan_sized b p).1 g.sized, ((head-none b p).1 g.head, ((plan_ends b p).1 g.whole, tt)))), t.1 (h.2, h.3)),
          );
      fault_18 = λ v.
          let s = stage 8 (numbers 18 v 0) (omega arith) (omega arith) (omega arith) (omega arith) in
          let i = ends_is b p v in (
            λ h.
                let q = s.0 h in
                let w = (with_book e b).0 q.0 in
                let n = w.1 in (
                  w.0,
                  record { sized = (plan_sized b p).0 n.0; head = (head-none b p).0 n.1.0; whole = (plan_ends b p).0 n.1.1.0 },
                  (timelines_iff w.0 p).1 ((tokens_none b p).0 n.1.1.1.0),
                  i.0 q.1,
                ),
            λ h.
                let g = h.1 in
                let t = (tokens_none b p).1 ((timelines_iff h.0 p).0 h.2) in
                s.1
                ((with_book e b).1 (h.0, ((plan_sized b p).1 g.sized, ((head-none b p).1 g.head, ((plan_ends b p).1 g.whole, (t, tt))))), i.1 h.3),
          );
    })
  where
    stage : (i : ℕ) (z : Numbers) → i < 9 → (get_or (stages_of e b p) i no_stage).low ≤ z.number → z.number < (get_or (stages_of e b p) i no_stage).high
        → 1 ≤ z.number → (first_of (stages_of e b p) last ≡ z) ↔ (Passed (take i (stages_of e b p)) × ((get_or (stages_of e b p) i no_stage).answer ≡ z))
    stage i z l = at_stage i (stages_of e b p) (last_stage last) z l (owned e b p last own) (judge_disjoint e b p last)

-- the judge of a book and a plan
pub judged_faults : (b p : List ℕ) → FaultTable 1 b p (judged b p)
unfolding judged
judged_faults b p = fault-table 1 b p (rules_fault atom_holds (line_of p) (rules_of atoms b)) (rules_own _ _ _)

-- the direct judge of a sheet and a plan
pub sheet_faults : (s p : List ℕ) → FaultTable 2 s p (judged_sheet s p)
unfolding judged_sheet
sheet_faults s p = fault-table 2 s p (rules_fault constraint_holds (line_of p) (rules_of constraints s)) (rules_own _ _ _)
