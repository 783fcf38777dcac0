-- A good book, one whose tests find nothing, said of all indexes; and that `book_fault` is 0 0 0 for just those books. Assumes nothing.
use mathlib.Core.Path.{◌≡◌, ap}
use mathlib.Core.Bool.{false}
use mathlib.Core.Logic.{◌↔◌}
use mathlib.Core.List.{List}
use Prim.Native.Nat.{ℕ, ◌≤◌, ◌<◌}
use lib.Dec.{ltb}
use lib.ListN.{length, get_or}
use borrow.Author.Tests.{ltb-false, le-ltb, eqb-true, eq-eqb}
use Rattle.answers.specs.declared.Numbers.{Numbers}
use Rattle.answers.specs.Numbers.{no_fault, or_else}
use Rattle.answers.proofs.Stages.{stages, stage, stage_at, held}
use Rattle.words.proofs.Least.{none_below}
use Rattle.layout.specs.Layout.{count, ending, header_wrong}
use Rattle.layout.proofs.Tests.{or_right}
use Rattle.records.specs.Wrong.{record_tests, record_wrong}
use Rattle.records.proofs.Words.{record_right}
use Rattle.book.specs.Fault.{leaves, lowest, table_wrong, length_fault, header_fault, end_fault, record_fault, book_fault}

-- every header word is right, every word of every record is right, and every next table is used up
pub record Good (e : ℕ) (b : List ℕ) : Type 0 where
  pub long : 14 ≤ length b
  pub short : length b ≤ 16384
  pub header : (k : ℕ) → k < 14 → header_wrong e b k ≡ false
  pub whole : ending e b 5 ≡ length b
  pub words : (t : ℕ) → t < 6 → (i : ℕ) → i < count b t → (j : ℕ) → get_or (record_tests e b t i) j false ≡ false
  pub used : (t : ℕ) → t < 6 → leaves e b t ≡ false

-- every record of table t is right, and the next table is used up
table_right : (e : ℕ) (b : List ℕ) (t : ℕ) → t < 6
    → (table_wrong e b t ≡ false)
    ↔ (((i : ℕ) → i < count b t → (j : ℕ) → get_or (record_tests e b t i) j false ≡ false) × (leaves e b t ≡ false))
unfolding table_wrong
table_right e b t l =
    let o = or_right (ltb (lowest e b t) (count b t)) (leaves e b t) in
    let n = none_below (count b t) (record_wrong e b t) in (
      λ h. (λ i k. (record_right e b t i l).0 (n.0 (o.0 h).0 i k), (o.0 h).1),
      λ h. o.1 (n.1 (λ i k. (record_right e b t i l).1 (h.0 i k)), h.1),
    )

-- a book with the answer number 0 is good
good_number : (e : ℕ) (b : List ℕ) → (book_fault e b).number ≡ 0 → Good e b
unfolding book_fault length_fault header_fault end_fault record_fault
good_number e b h =
    let s1 = (stages _ _).0 h in
    let s2 = (stages _ _).0 s1.1 in
    let s3 = (stages _ _).0 s2.1 in
    let size = (or_right _ _).0 (stage _ 0 0 0 s1.0) in
    let tables = (none_below 6 (table_wrong e b)).0 (stage_at _ 3 _ _ _ s3.1) in
    record {
      long = ltb-false (length b) 14 size.0;
      short = ltb-false 16384 (length b) size.1;
      header = (none_below 14 (header_wrong e b)).0 (stage _ 1 _ _ s2.0);
      whole = eqb-true _ _ (held _ 2 0 0 s3.0);
      words = λ t l. ((table_right e b t l).0 (tables t l)).0;
      used = λ t l. ((table_right e b t l).0 (tables t l)).1;
    }

-- THE LAWS: a good book has the answer 0 0 0
pub good_back : (e : ℕ) (b : List ℕ) → Good e b → book_fault e b ≡ no_fault
unfolding book_fault length_fault header_fault end_fault record_fault or_else
good_back e b g =
    simp (
      le-ltb (length b) 14 g.long,
      le-ltb 16384 (length b) g.short,
      (none_below 14 (header_wrong e b)).1 g.header,
      eq-eqb (ending e b 5) (length b) g.whole,
      (none_below 6 (table_wrong e b)).1 (λ t l. (table_right e b t l).1 (g.words t l, g.used t l)),
    )

-- and only a good one
pub good : (e : ℕ) (b : List ℕ) → book_fault e b ≡ no_fault → Good e b
good e b h = good_number e b (ap (λ (n : Numbers). n.number) h)

-- with the number 0 the other numbers are 0 too
pub no_number : (e : ℕ) (b : List ℕ) → (book_fault e b).number ≡ 0 → book_fault e b ≡ no_fault
no_number e b h = good_back e b (good_number e b h)
