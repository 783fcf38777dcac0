-- `records::rule_word` meets its contract: the tests of a rule's words, in turn. Assumes nothing.
use native.Mathlib.Nat.{add-zero}
use borrow.Author.Rules.{rules}
use Rattle.records.specs.Wrong.{wrong_word}
use Rattle.records.proofs.rule_word.Goals as goal

pub returns : goal.returns
unfolding wrong_word
returns c =
    (simp add-zero (cc), search rules)
