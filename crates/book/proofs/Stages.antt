-- The stages of `book_fault`: the layout's answer first, then that of the records. Assumes nothing.
use mathlib.Core.Path.{◌≡◌, sym, ap, ◌∙◌}
use mathlib.Core.List.{List}
use Prim.Native.Nat.{ℕ, ◌≤◌, ◌<◌}
use borrow.Author.Tests.{lt-ltb, le-ltb}
use Rattle.std.specs.Prelude.{Ok, Err}
use Rattle.answers.specs.declared.Done.{Done}
use Rattle.answers.specs.declared.Refusal.{Refusal}
use Rattle.answers.specs.Numbers.{numbers_of, numbers_at, no_fault, or_else}
use Rattle.answers.proofs.Stages.{or_refused, or_done, done_number}
use Rattle.layout.specs.Fault.{layout_fault}
use Rattle.layout.specs.Owner.{Within}
use Rattle.layout.proofs.Order.{else_else, all-within}
use Rattle.book.specs.Fault.{length_fault, header_fault, end_fault, lowest, first_table, told_word, record_fault, book_fault}

module _ (e : ℕ) (b : List ℕ) where
  by_layout : book_fault e b ≡ or_else (layout_fault e b) (record_fault e b)
  unfolding book_fault layout_fault
  by_layout =
      sym
      (else_else (length_fault b) (or_else (header_fault e b) (end_fault e b)) (record_fault e b)
      ∙ ap (or_else (length_fault b)) (else_else (header_fault e b) (end_fault e b) (record_fault e b)))

  -- what the layout refuses with is the answer
  pub layout_first : (r : Refusal) → numbers_of (Err r) ≡ layout_fault e b → numbers_of (Err r) ≡ book_fault e b
  layout_first r h = or_refused r _ (record_fault e b) h ∙ sym by_layout

  -- the layout is right
  module _ (d : Done) (right : numbers_of (Ok d) ≡ layout_fault e b) where
    pub tables-within : Within e b
    tables-within = all-within e b (done_number d _ right)

    records-next : book_fault e b ≡ record_fault e b
    records-next = by_layout ∙ or_done d _ _ right

    pub record_wrong_lem : (t i j : ℕ) → t ≡ first_table e b → t < 6 → i ≡ lowest e b t → j ≡ told_word e b t i → numbers_at 4 t i j ≡ book_fault e b
    unfolding record_fault
    record_wrong_lem t i j first l bad told = rw records-next (rw (← first, lt-ltb t 6 l, told, bad))

    pub records_right : (t : ℕ) → t ≡ first_table e b → 6 ≤ t → no_fault ≡ book_fault e b
    unfolding record_fault
    records_right t first l = rw records-next (rw (← first, le-ltb t 6 l))
