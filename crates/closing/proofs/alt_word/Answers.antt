-- `closing::alt_word` meets its contract. Assumes nothing.
use Rattle.closing.specs.Left.{alt_word}
use Rattle.closing.proofs.alt_word.Goals as goal

pub returns : goal.returns
unfolding alt_word
returns c = (rw (← c.number_at.ensures.0) c.number_at-2.ensures.0, c.number_at-2.ensures.1)
