-- `words::put_bytes` meets its contract: the bytes of a word are the library's, and a part that is written whole is `puts`. Assumes nothing.
use mathlib.Core.Path.{refl}
use native.Mathlib.Omega.{arith}
use Rattle.words.proofs.Write.{wrote_part}
use Rattle.words.proofs.put_bytes.Goals as goal

pub returns : goal.returns
returns c =
    rw (c.copy_from_slice.ensures.after, c.to_le_bytes.ensures) (wrote_part _ _ _ _ refl (omega arith))
