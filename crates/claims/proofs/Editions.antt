-- "any other edition is refused 6": row 6 of the fault table at word 0, in plain words. What an edition decides besides is in the reader's
-- Editions. Assumes nothing.
use mathlib.Core.Path.{◌≡◌}
use mathlib.Core.Logic.{◌↔◌}
use mathlib.Core.List.{List}
use Prim.Native.Nat.{ℕ, ◌+◌, ◌*◌}
use native.Mathlib.Omega.{arith}
use Rattle.answers.specs.declared.Numbers.{Numbers}
use Rattle.answers.specs.Numbers.{numbers}
use Rattle.words.specs.Words.{word}
use Rattle.layout.specs.Layout.{count}
use Rattle.lines.specs.Fault.{head_wrong}
use Rattle.book.specs.Sound.{Sound}
use Rattle.verdict.specs.Judged.{judged, judged_sheet}
use Rattle.claims.specs.Wrongs.{First, PlanSized, HeadWrong, edition}
use Rattle.claims.proofs.WrongTests.{not_eq, both_so, head_iff}
use Rattle.claims.proofs.Faults.{judged_faults, sheet_faults}
use Rattle.claims.specs.Editions.{NoEdition}

module _ (b p : List ℕ) where
  -- word 0 is wrong exactly so, and nothing stands before it
  first_word : First (3 + 2 * count b 0) (HeadWrong b p) 0 ↔ NoEdition (word p 0)
  unfolding head_wrong
  first_word = (
    λ f. let q = (both_so _ _).0 ((head_iff b p 0).1 f.here) in ((not_eq _ _).0 q.0, (not_eq _ _).0 q.1),
    λ n. record { below = omega arith; here = edition n.0 n.1; before = λ j l. absurd (omega arith) },
  )

  -- so row 6 at word 0 says it
  at_word_0 : {S : Type 0} (answer : Numbers)
      → ((k : ℕ) → (answer ≡ numbers 6 k 0) ↔ (S × PlanSized b p × First (3 + 2 * count b 0) (HeadWrong b p) k))
      → (answer ≡ numbers 6 0 0) ↔ (S × PlanSized b p × NoEdition (word p 0))
  at_word_0 answer row =
      (λ h. let q = (row 0).0 h in (q.0, q.1, first_word.0 q.2), λ h. (row 0).1 (h.0, h.1, first_word.1 h.2))

  -- THE CLAIM, of the judge and of the direct judge
  pub edition_refused : (judged b p ≡ numbers 6 0 0) ↔ (Sound 1 b × PlanSized b p × NoEdition (word p 0))
  edition_refused = at_word_0 (judged b p) (judged_faults b p).fault_6

  pub sheet_edition_refused : (judged_sheet b p ≡ numbers 6 0 0) ↔ (Sound 2 b × PlanSized b p × NoEdition (word p 0))
  sheet_edition_refused = at_word_0 (judged_sheet b p) (sheet_faults b p).fault_6
