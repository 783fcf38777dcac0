-- `records::set_wrong` meets its contract: 2 ^ n is the shifted bit below 32, and above every word from there on. Assumes nothing.
use mathlib.Core.Path.{sym, ◌∙◌}
use Prim.Native.Nat.{◌^◌, ◌≤◌, ◌<◌}
use native.Mathlib.Nat.{one-mul, mod-eq_of_lt}
use native.Mathlib.Omega.{arith}
use lib.Pow.{pow_mono, pow-lt}
use borrow.Author.Tests.{lt-leb, le-ltb}
use Rattle.records.specs.Wrong.{set_wrong}
use Rattle.records.proofs.set_wrong.Goals as goal

pub returns-then-n-lt32 : goal.returns-then-n-lt32
unfolding set_wrong
returns-then-n-lt32 c =
    let h : 2 ^ c.args.n < 2 ^ 64 = pow-lt {i = c.args.n} {j = 64} (omega arith) in
    simp (one-mul, mod-eq_of_lt h)

pub returns-else-n-lt32 : goal.returns-else-n-lt32
unfolding set_wrong
returns-else-n-lt32 c =
    let h : 2 ^ 32 ≤ 2 ^ c.args.n = pow_mono c.if-n-lt32.false in
    le-ltb _ _ c.if-n-lt32.false ∙ sym (lt-leb (2 ^ c.args.n) c.args.set (omega arith))
