-- "Writing then reading gives the plan's words", of a plan that passes 1 to 11 and 18. Assumes nothing.
use mathlib.Core.Path.{◌≡◌, refl, sym, ap, ◌∙◌}
use mathlib.Core.List.{List, [], map}
use Prim.Native.Nat.{ℕ, ◌+◌, ◌*◌, ◌<◌}
use native.Mathlib.Nat.{zero-add, mul-one}
use native.Mathlib.Omega.{arith}
use lib.ListN.{length, get_or}
use Rattle.words.specs.Words.{word}
use Rattle.words.proofs.Runs.{run_at}
use Rattle.layout.specs.Layout.{count}
use Rattle.event_list.specs.Events.{events_of}
use Rattle.event_list.specs.Words.{list_words}
use Rattle.event_list.specs.Plans.{line_tokens, plan_lines, plan_words, list_of}
use Rattle.event_list.specs.Reading.{read_line, read_lines, plan_from}
use Rattle.event_list.proofs.Back.{line_back, run-lines}
use Rattle.event_list.proofs.Passes.{forget, line_read}
use Rattle.event_list.proofs.Plans.{lines_long, forget-line, plan_words_lem}
use Rattle.event_list.proofs.Good.{Writes, laid, together, in_time}

-- line v of the plan's lines
pub line_at : (p : List ℕ) (v : ℕ) → v < word p 2 → get_or (plan_lines p) v [] ≡ line_tokens p v
unfolding plan_lines
line_at p v l = let e : 0 + v * 1 ≡ v = omega (arith, mul-one v) in run_at (line_tokens p) 1 (word p 2) 0 v [] l ∙ ap (line_tokens p) e

module _ (b p : List ℕ) (w : Writes b p) where
  -- a line, read from the list
  line_round : (v : ℕ) → v < length (plan_lines p) → read_line (list_of p) (0 + v) ≡ get_or (plan_lines p) v []
  unfolding list_of
  line_round v l =
      let n = lines_long p in
      let small = in_time b p w in
      ap (read_line (list_of p)) (zero-add v)
      ∙ line_read (word p 0) (events_of (plan_lines p)) v
      ∙ ap (map (forget (word p 0))) (line_back (plan_lines p) (together b p w) (omega (arith, small)) v l ∙ line_at p v (omega (arith, n, l)))
      ∙ forget-line p v
      ∙ sym (line_at p v (omega (arith, n, l)))

  lines_round : read_lines (list_of p) (count b 0) ≡ plan_lines p
  unfolding read_lines
  lines_round =
      let n : count b 0 ≡ length (plan_lines p) = sym (lines_long p ∙ w.plan.head.timelines) in
      rw n (run-lines (read_line (list_of p)) 0 (plan_lines p) line_round)

  -- THE LAW: reading undoes writing
  pub round : plan_from b (list_of p) ≡ p
  unfolding plan_from list_of list_words
  round = ap (plan_words (word p 0)) lines_round ∙ sym (plan_words_lem p (laid b p w))

-- "edition, total words, number of events": the first three words of a list
pub list_head : (p : List ℕ)
    → (word (list_of p) 0 ≡ word p 0) × (word (list_of p) 1 ≡ length (list_of p)) × (word (list_of p) 2 ≡ length (events_of (plan_lines p)))
unfolding list_of list_words
list_head p = (refl, omega arith, refl)
