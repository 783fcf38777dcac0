-- The cycle of the search meets its contracts: placing the next name goes over the tokens from its mark on, trying a token puts it into the
-- choice and places the names after it. The falling number counts names left, and below them tokens left. Assumes nothing.
use Prim.Native.Nat.{◌+◌, ◌*◌}
use Rattle.matching.proofs.Search.+place_try_token_try_tokens.Given as goal

abbrev pub decreases-place : goal.decreases-place
decreases-place l = 8589934592 * l.n

abbrev pub decreases-try_token : goal.decreases-try_token
decreases-try_token l = 8589934592 * l.n + 1

abbrev pub decreases-try_tokens : goal.decreases-try_tokens
decreases-try_tokens l = 8589934592 * l.n + l.w.count + 2
