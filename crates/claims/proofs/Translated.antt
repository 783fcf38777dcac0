-- The book that a good sheet becomes: its variables and values are the sheet's, so a plan has the same faults 5 to 11 by both, and its
-- rules are read back as those that the sheet's rules become. So it gives the answer that the direct judge gives by the sheet, where it is
-- a good book (shown in TranslatedGood). Assumes nothing.
use mathlib.Core.Path.{◌≡◌, refl, sym, ap, ◌∙◌}
use mathlib.Core.Logic.{⊎_elim}
use mathlib.Core.List.{List, ◌++◌, append_assoc}
use Prim.Native.Nat.{ℕ, ◌+◌, ◌*◌, ◌<◌}
use native.Mathlib.Omega.{arith}
use lib.ListN.{length, get_or, take, drop, length-drop, get_or-append}
use lib.Seq.{length-take-le, get_or-append-add, take-add, drop-drop, get_or-take, get_or-drop}
use borrow.Author.Tests.{eqb-false}
use Rattle.answers.specs.Numbers.{no_fault, or_else}
use Rattle.words.specs.Lists.{All}
use Rattle.words.specs.Words.{word}
use Rattle.layout.specs.Layout.{count, offset, field}
use Rattle.book.specs.Rules.{Constraint, Rule, rules_of}
use Rattle.book.specs.Encode.{atoms, constraints, header, tables, book_of}
use Rattle.book.proofs.Back.{Says, atoms-kept, says_back, book_says}
use Rattle.book.specs.Sound.{Sound}
use Rattle.book.proofs.Sound.{sound_back}
use Rattle.book.proofs.Good.{good_back}
use Rattle.book.proofs.Inside.{offsets, in_range}
use Rattle.book.specs.Fault.{book_fault}
use Rattle.plan.specs.Fault.{plan_fault}
use Rattle.lines.specs.Lines.{line_of}
use Rattle.verdict.specs.Judged.{judged, judged_sheet}
use Rattle.claims.specs.Expansion.{NameBelow, RuleBelow}
use Rattle.claims.proofs.Expansion.{translate_rules}
use Rattle.claims.specs.Decoded.{NameFine, AlternativeFine, RuleFine, ConstraintFine}
use Rattle.claims.proofs.Decoded.{sheet_rules}
use Rattle.claims.specs.SamePlan.{SameVariables}
use Rattle.claims.proofs.SamePlan.{plan_same, lines_proper}
use Rattle.translator.specs.Translation.{rules_for, table_words, translated}
use Rattle.claims.proofs.Laws.{all-to, else_agree}

module _ (s : List ℕ) (sound : Sound 2 s) where
  -- ---- the words of the tables 0 and 1 are the sheet's

  pub variables_size : length (table_words 2 s 0) ≡ count s 0 * 2
  variables_size = let o = offsets sound in length-take-le _ (drop (offset s 0) s) (simp length-drop (omega arith))

  pub values_size : length (table_words 2 s 1) ≡ count s 1 * 3
  values_size = let o = offsets sound in length-take-le _ (drop (offset s 1) s) (simp length-drop (omega arith))

  together : table_words 2 s 0 ++ table_words 2 s 1 ≡ take (count s 0 * 2 + count s 1 * 3) (drop 14 s)
  together =
      let o = offsets sound in
      rw (o.variables, o.values, take-add (count s 0 * 2) (count s 1 * 3) (drop 14 s), drop-drop (count s 0 * 2) 14 s)

  pub kept : (i : ℕ) → i < count s 0 * 2 + count s 1 * 3 → word (translated s) (14 + i) ≡ word s (14 + i)
  unfolding translated book_of
  kept i l =
      let o = offsets sound in
      let m : ℕ = count s 0 in
      let n : ℕ = count s 1 in
      let vs : List ℕ = table_words 2 s 0 in
      let xs : List ℕ = table_words 2 s 1 in
      let rest : List ℕ = tables atoms 1 m vs n xs (rules_for s) in
      let ws : List ℕ = take (m * 2 + n * 3) (drop 14 s) in
      let long : i < length ws = rw (length-take-le (m * 2 + n * 3) (drop 14 s) (simp length-drop (omega arith))) l in
      get_or-append-add (header atoms 1 m vs n xs (rules_for s)) (vs ++ (xs ++ rest)) i 0
      ∙ ap (λ (l : List ℕ). get_or l i 0) (sym (append_assoc vs xs rest) ∙ ap (λ (l : List ℕ). l ++ rest) together)
      ∙ get_or-append ws rest 0 i long
      ∙ get_or-take (m * 2 + n * 3) (drop 14 s) i 0 l
      ∙ get_or-drop 14 s i 0

  -- so the records of variables and values are
  pub variable_kept : (v j : ℕ) → v < count s 0 → j < 2 → field 1 (translated s) 0 v j ≡ field 2 s 0 v j
  unfolding translated book_of
  variable_kept v j l k =
      let o = offsets sound in
      let here : offset s 0 + v * 2 + j ≡ 14 + (v * 2 + j) = omega arith in
      let there : 14 + v * 2 + j ≡ 14 + (v * 2 + j) = omega arith in
      rw (here, there) (kept (v * 2 + j) (omega arith))

  pub value_kept : (i j : ℕ) → i < count s 1 → j < 3 → field 1 (translated s) 1 i j ≡ field 2 s 1 i j
  unfolding translated book_of
  value_kept i j l k =
      let o = offsets sound in
      let here : offset s 1 + i * 3 + j ≡ 14 + (count s 0 * 2 + i * 3 + j) = omega arith in
      let there : 14 + count s 0 * 2 + i * 3 + j ≡ 14 + (count s 0 * 2 + i * 3 + j) = omega arith in
      rw (here, there) (kept (count s 0 * 2 + i * 3 + j) (omega arith))

  -- ---- its rules are read back as those that the sheet's rules become

  pub says : Says atoms (translated s) (rules_for s)
  unfolding translated
  says = book_says atoms atoms-kept 1 (count s 0) _ (count s 1) _ variables_size values_size (rules_for s)

  pub read_back : rules_of atoms (translated s) ≡ rules_for s
  read_back = says_back atoms atoms-kept (translated s) (rules_for s) says

  -- ---- a plan has the same faults 5 to 11

  same_variables : SameVariables (translated s) s
  unfolding translated book_of
  same_variables =
      record {
        variables = refl;
        values = λ v l. variable_kept v 1 l (omega arith);
        value = λ v x l k j m.
            rw (variable_kept v 0 l (omega arith)) (value_kept (field 2 s 0 v 0 + x) j (in_range (sound.variables v l) x (rw (variable_kept v 1 l (omega arith)) at k)) m);
      }

  -- ---- the rules name only variables that exist

  rules_below : All (RuleBelow (count s 0)) (rules_of constraints s)
  rules_below = all-to (RuleFine ConstraintFine 2 s) (RuleBelow (count s 0)) below (rules_of constraints s) (sheet_rules sound)
    where
      below : (r : Rule Constraint) → RuleFine ConstraintFine 2 s r → RuleBelow (count s 0) r
      below r f =
          record {
            trigger = λ e. ⊎_elim (λ q. absurd (eqb-false _ _ e q.0)) (λ q. q.variable) f.trigger;
            names =
                all-to (AlternativeFine ConstraintFine 2 s _) (λ a. All (NameBelow (count s 0)) a.names)
                (λ a g. all-to (NameFine 2 s) (NameBelow (count s 0)) (λ n q. q.variable) a.names g.names)
                r.alternatives
                f.alternatives;
          }

  -- demand 3, where the book is good: judging by it gives the same answer, place and count as reading the sheet directly
  pub translated-judged : book_fault 1 (translated s) ≡ no_fault → (p : List ℕ) → judged (translated s) p ≡ judged_sheet s p
  unfolding judged judged_sheet rules_for
  translated-judged good p =
      rw (good, good_back 2 s (sound_back 2 s sound), plan_same (translated s) s same_variables p, read_back)
      (ap (or_else no_fault)
      (else_agree (plan_fault s p) _ _
      (λ h. translate_rules (line_of p) (count s 0) (lines_proper sound p h) (sound.header.some 0 (omega arith)) (rules_of constraints s) rules_below)))
