-- `files::fill` meets its contract. The invariant: no more is filled than there is room for. Assumes nothing.
use Rattle.std.proofs.Common.{◌≡◌, ◌≤◌, length}
use Rattle.files.proofs.fill.Given as goal

abbrev pub invariant-loop : goal.invariant-loop
invariant-loop l = (l.n ≤ length l.buf) × (length l.buf ≡ 65540)
