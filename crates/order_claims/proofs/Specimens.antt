-- Inputs: a row for each answer of the yes or no and of the judge by ranks, and two plans in the same order. antt computes them. Assumes nothing.
use mathlib.Core.Path.{◌≡◌, refl}
use mathlib.Core.Bool.{Bool, true, false, cond}
use mathlib.Core.List.{List, [], ◌∷◌}
use Prim.Native.Nat.{ℕ, zero, suc, ◌<◌}
use native.Mathlib.Omega.{arith}
use lib.Dec.{eqb}
use Rattle.answers.specs.Numbers.{or_else}
use Rattle.words.specs.Lists.{any, all}
use Rattle.words.specs.Words.{in_set}
use Rattle.words.specs.Least.{least, first}
use Rattle.words.specs.Runs.{run}
use Rattle.clock.specs.Clock.{in_bounds}
use Rattle.layout.specs.Layout.{fifth_width, fifth_most, begins, header_wrong, starts, owner}
use Rattle.records.specs.Wrong.{set_wrong, value_tests, fifth_tests_of, fifth_tests, wrong_word, record_wrong}
use Rattle.book.specs.Fault.{leaves, table_wrong, told_word}
use Rattle.book.specs.Fault as book
use Rattle.book.specs.Rules.{name_at, atom_at, alternative_at, rule_at, rules_of}
use Rattle.book.proofs.Specimen.{book_e}
use Rattle.lines.specs.Lines.{line_count, token_width, job_at, job_of, tokens_from, line_of, lines_of}
use Rattle.lines.specs.Ends.{end_from, ends_apart, ends_fault}
use Rattle.plan.specs.Fault as plan
use Rattle.allen.specs.Order.{order_of}
use Rattle.choice.specs.Met.{put, token_time, token_job, end_time, time_of, bounds_hold, atom_holds, place, alternative_met, met}
use Rattle.verdict.specs.Judged.{counted, trigger_line, is_trigger, examined, unmet, first_unmet, rule_unmet, rules_fault, judged}
use Rattle.sweep.specs.Ranks.{touches, endpoint as is_endpoint, rank}
use Rattle.order.specs.Profile.{timeless, order_bounds, order_atom, all_order, order_only, profile_fault}
use Rattle.order.specs.Ranked.{rank_tokens, rank_line, rank_lines, ranked_plan}
use Rattle.order.specs.Judged.{judged_by_order}
use Rattle.order_claims.specs.Plans.{endpoint, SameOrder}
use Rattle.order_claims.proofs.Plans.{same_order}
use Rattle.order_claims.specs.Specimens.{stands, specimens}

-- THE TABLE stands
pub all-stand : all stands specimens ≡ true
unfolding all any or_else least first run in_set in_bounds fifth_width fifth_most begins header_wrong starts owner set_wrong value_tests fifth_tests_of fifth_tests wrong_word record_wrong leaves table_wrong told_word book.length_fault book.header_fault book.end_fault book.record_fault book.book_fault name_at atom_at alternative_at rule_at rules_of tokens_from line_of lines_of plan.length_fault plan.sum_before plan.head_wrong plan.head_fault plan.end_fault plan.start_of plan.duration_outside plan.not_successor plan.token_fault plan.token_wrong plan.first_token plan.line_wrong plan.tokens_fault plan.plan_fault end_from ends_apart ends_fault put token_time time_of atom_holds place alternative_met met counted trigger_line is_trigger examined unmet first_unmet rule_unmet rules_fault token_width touches is_endpoint rank timeless order_bounds order_atom all_order order_only profile_fault rank_tokens rank_line rank_lines ranked_plan judged_by_order job_at token_job end_time bounds_hold
all-stand = refl

-- ---- two plans in the same order: the decoder changes over at 3 or at 10, and both lines end at 7 or at 11

abbrev early : List ℕ
early = 1 ∷ 13 ∷ 2 ∷ 0 ∷ 2 ∷ 2 ∷ 1 ∷ 0 ∷ 3 ∷ 1 ∷ 4 ∷ 0 ∷ 7 ∷ []

abbrev late : List ℕ
late = 1 ∷ 13 ∷ 2 ∷ 0 ∷ 2 ∷ 2 ∷ 1 ∷ 0 ∷ 10 ∷ 1 ∷ 1 ∷ 0 ∷ 11 ∷ []

-- their three tokens
each : (P : ℕ → ℕ → Type 0) → P 0 0 → P 0 1 → P 1 0 → (v i : ℕ) → v < 2 → i < line_count early v → P v i
each P a b c zero zero l m = a
each P a b c zero (suc zero) l m = b
each P a b c zero (suc (suc i)) l m = absurd (omega arith)
each P a b c (suc zero) zero l m = c
each P a b c (suc zero) (suc i) l m = absurd (omega arith)
each P a b c (suc (suc v)) i l m = absurd (omega arith)

-- both ends of two of them: of two stretches s..e and t..z, and of two others
ends : (s e t z s' e' t' z' : ℕ) → order_of s t ≡ order_of s' t' → order_of s z ≡ order_of s' z' → order_of e t ≡ order_of e' t'
    → order_of e z ≡ order_of e' z' → (x y : Bool) → order_of (cond x s e) (cond y t z) ≡ order_of (cond x s' e') (cond y t' z')
ends s e t z s' e' t' z' a b c d true true = a
ends s e t z s' e' t' z' a b c d true false = b
ends s e t z s' e' t' z' a b c d false true = c
ends s e t z s' e' t' z' a b c d false false = d

in_order : SameOrder 2 early late
unfolding endpoint plan.start_of order_of token_width job_at
in_order =
    record {
      tokens = two (λ v. line_count early v ≡ line_count late v) refl refl;
      values = λ v l j m. each (λ v j. plan.value_of early v j ≡ plan.value_of late v j) refl refl refl v j l m;
      jobs = λ v l j m. each (λ v j. job_of early v j ≡ job_of late v j) refl refl refl v j l m;
      order = λ v i side l m u j other k n.
          let x : Bool = eqb side 0 in
          let y : Bool = eqb other 0 in
          each (λ v i. order_of (endpoint early v i side) (endpoint early u j other) ≡ order_of (endpoint late v i side) (endpoint late u j other))
          (each (λ u j. order_of (endpoint early 0 0 side) (endpoint early u j other) ≡ order_of (endpoint late 0 0 side) (endpoint late u j other))
          (ends 0 3 0 3 0 10 0 10 refl refl refl refl x y)
          (ends 0 3 3 7 0 10 10 11 refl refl refl refl x y)
          (ends 0 3 0 7 0 10 0 11 refl refl refl refl x y)
          u j k n)
          (each (λ u j. order_of (endpoint early 0 1 side) (endpoint early u j other) ≡ order_of (endpoint late 0 1 side) (endpoint late u j other))
          (ends 3 7 0 3 10 11 0 10 refl refl refl refl x y)
          (ends 3 7 3 7 10 11 10 11 refl refl refl refl x y)
          (ends 3 7 0 7 10 11 0 11 refl refl refl refl x y)
          u j k n)
          (each (λ u j. order_of (endpoint early 1 0 side) (endpoint early u j other) ≡ order_of (endpoint late 1 0 side) (endpoint late u j other))
          (ends 0 7 0 3 0 11 0 10 refl refl refl refl x y)
          (ends 0 7 3 7 0 11 10 11 refl refl refl refl x y)
          (ends 0 7 0 7 0 11 0 11 refl refl refl refl x y)
          u j k n)
          v i l m;
    }
  where
    two : (P : ℕ → Type 0) → P 0 → P 1 → (v : ℕ) → v < 2 → P v
    two P a b zero l = a
    two P a b (suc zero) l = b
    two P a b (suc (suc v)) l = absurd (omega arith)

-- they pass, so E's book gives them the same answer
pub in_order_same : judged book_e early ≡ judged book_e late
unfolding all any or_else least first run in_set in_bounds fifth_width fifth_most begins header_wrong starts owner set_wrong value_tests fifth_tests_of fifth_tests wrong_word record_wrong leaves table_wrong told_word book.length_fault book.header_fault book.end_fault book.record_fault book.book_fault atom_at tokens_from line_of plan.length_fault plan.sum_before plan.head_wrong plan.head_fault plan.end_fault plan.start_of plan.duration_outside plan.not_successor plan.token_fault plan.token_wrong plan.first_token plan.line_wrong plan.tokens_fault plan.plan_fault end_from ends_apart ends_fault timeless order_bounds order_atom all_order order_only token_width job_at
in_order_same = same_order book_e early late refl refl refl in_order
