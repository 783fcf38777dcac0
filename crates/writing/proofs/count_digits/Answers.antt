-- `writing::count_digits` meets its contract: digit by digit, those that are left are one fewer. Assumes nothing.
use native.Mathlib.Omega.{arith}
use borrow.Author.Rules.{rules}
use Rattle.writing.proofs.Left.{count_more, count_none, count-all}
use Rattle.writing.proofs.count_digits.Goals as goal

pub loop-init : goal.loop-init
loop-init c = (search rules, omega (arith, count-all c.args.k c.args.code))

pub loop-preserved : goal.loop-preserved
loop-preserved c = (search rules, omega (arith, count_more c.args.k c.loop.counter c.loop.left c.loop-test.true))

pub returns : goal.returns
returns c = (omega (arith, count_none c.args.k c.loop.counter c.loop.left c.loop-test.false), omega arith)
