-- Opening a reader over one timeline: what is wrong, and where the reader then stands. Assumes nothing.
use mathlib.Core.Path.{◌≡◌, sym, ◌∙◌}
use mathlib.Core.List.{List}
use Prim.Native.Nat.{ℕ, ◌≤◌, ◌<◌}
use borrow.Author.Tests.{ltb-true, lt-ltb, le-ltb, eq-eqb, ne_eqb}
use Rattle.std.specs.Prelude.{Ok, Err}
use Rattle.answers.specs.declared.Done.{Done}
use Rattle.answers.specs.declared.Refusal.{Refusal}
use Rattle.answers.specs.Numbers.{numbers, numbers_of, no_fault}
use Rattle.answers.proofs.Stages.{else_fault, else_next, stages, held, refused_number, done_number}
use Rattle.clock.specs.Clock.{no_limit}
use Rattle.layout.specs.Layout.{count}
use Rattle.book.specs.Fault.{book_fault}
use Rattle.plan.specs.Fault.{plan_fault}
use Rattle.lines.specs.Walk.{position}
use Rattle.reader.specs.Opening.{line_fault, open_fault, open_at}

module _ (b p : List ℕ) (line : ℕ) where
  -- where the reader stands, by the answer's number
  pub opened_at : (open_fault b p line).number ≡ 0 → open_at b p line ≡ position line 0 0
  unfolding open_at
  opened_at h = rw (eq-eqb _ _ h)

  pub refused_at : ((open_fault b p line).number ≡ 0 → ⊥) → open_at b p line ≡ position line no_limit 0
  unfolding open_at
  refused_at h = rw (ne_eqb _ _ h)

  -- opened: the book has no fault, nor has the plan, and the line is there
  pub opened_good : (open_fault b p line).number ≡ 0
      → ((book_fault 1 b).number ≡ 0) × ((plan_fault b p).number ≡ 0) × (line < count b 0)
  unfolding open_fault line_fault
  opened_good h =
      let s1 = (stages _ _).0 h in
      let s2 = (stages _ _).0 s1.1 in
      (s1.0, s2.0, ltb-true _ _ (held _ 16 0 0 s2.1))

  -- and back: then the answer is 0 0 0
  pub good_opened : (book_fault 1 b).number ≡ 0 → (plan_fault b p).number ≡ 0 → line < count b 0 → open_fault b p line ≡ no_fault
  unfolding open_fault line_fault
  good_opened h g l = else_next _ _ h ∙ else_next _ _ g ∙ rw (lt-ltb line (count b 0) l)

  -- "Opened, it answers 0 0 0"
  pub opened_answers : (open_fault b p line).number ≡ 0 → open_fault b p line ≡ no_fault
  opened_answers h = let g = opened_good h in good_opened g.0 g.1 g.2

  -- the three ways to be refused, in the order of checking
  pub book_refused : ((book_fault 1 b).number ≡ 0 → ⊥) → open_fault b p line ≡ book_fault 1 b
  unfolding open_fault
  book_refused h = else_fault _ _ h

  pub plan_refused : (book_fault 1 b).number ≡ 0 → ((plan_fault b p).number ≡ 0 → ⊥) → open_fault b p line ≡ plan_fault b p
  unfolding open_fault
  plan_refused h g = else_next _ _ h ∙ else_fault _ _ g

  pub line_refused : (book_fault 1 b).number ≡ 0 → (plan_fault b p).number ≡ 0 → count b 0 ≤ line → open_fault b p line ≡ numbers 17 0 0
  unfolding open_fault line_fault
  line_refused h g l = else_next _ _ h ∙ else_next _ _ g ∙ rw (le-ltb line (count b 0) l)

  -- where it stands, by what it answers
  pub done_at : (d : Done) → numbers_of (Ok d) ≡ open_fault b p line → position line 0 0 ≡ open_at b p line
  done_at d h = sym (opened_at (done_number d _ h))

  pub nowhere_at : (r : Refusal) → numbers_of (Err r) ≡ open_fault b p line → position line no_limit 0 ≡ open_at b p line
  nowhere_at r h = sym (refused_at (refused_number r _ h))
