-- `earliest::trigger_of` meets its contract. Assumes nothing.
use mathlib.Core.Path.{refl, ◌∙◌}
use Rattle.earliest.proofs.Owning.{trigger_read, some_there, none_there}
use Rattle.earliest.proofs.trigger_of.Goals as goal

pub returns-then-variable : goal.returns-then-variable
returns-then-variable c =
    none_there _ _ c.if-variable.true ∙ trigger_read _ _ _ _ _ _ c.rule_of.ensures.0 c.number_at.ensures.0 c.word_at-variable.ensures refl

pub returns : goal.returns
returns c =
    some_there _ _ c.if-variable.false
    ∙ trigger_read _ _ _ _ _ _ c.rule_of.ensures.0 c.number_at.ensures.0 c.word_at-variable.ensures c.word_at-value.ensures
