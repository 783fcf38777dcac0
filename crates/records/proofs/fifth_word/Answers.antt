-- `records::fifth_word` meets its contract: an atom's or a constraint's tests, at its owners. Assumes nothing.
use native.Mathlib.Nat.{add-zero}
use native.Mathlib.Omega.{arith}
use borrow.Author.Rules.{rules}
use borrow.Author.Tests.{eq-eqb, ne_eqb}
use Rattle.records.specs.Wrong.{fifth_tests, fifth_tests_of, wrong_word}
use Rattle.layout.proofs.Bounds.{three_wide, six_wide}
use Rattle.records.proofs.fifth_word.Goals as goal

pub constraint_word-requires : goal.constraint_word-requires
constraint_word-requires c =
    omega (arith, three_wide c.if-tables-eq2.true)

pub atom_word-requires : goal.atom_word-requires
atom_word-requires c =
    omega (arith, six_wide c.if-tables-eq2.false)

pub returns-then-tables-eq2 : goal.returns-then-tables-eq2
unfolding wrong_word fifth_tests fifth_tests_of
returns-then-tables-eq2 c =
    (simp (eq-eqb _ _ c.if-tables-eq2.true, add-zero) (cc), search rules)

pub returns-else-tables-eq2 : goal.returns-else-tables-eq2
unfolding wrong_word fifth_tests fifth_tests_of
returns-else-tables-eq2 c =
    (simp (ne_eqb _ _ c.if-tables-eq2.false, add-zero) (cc), search rules)
