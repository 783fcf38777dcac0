-- `closing::put_header` meets its contract: fourteen words. Assumes nothing.
use Rattle.closing.proofs.put_header.Goals as goal

pub returns : goal.returns
returns c =
    rw (← c.number_at-o2.ensures.0, ← c.word_at.ensures, ← c.word_at-2.ensures, ← c.word_at-3.ensures) c.put.ensures
