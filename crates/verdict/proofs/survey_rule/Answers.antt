-- `verdict::survey_rule` meets its contract: the rule of that number is the one at its place. Assumes nothing.
use Rattle.verdict.proofs.survey_rule.Goals as goal

pub returns : goal.returns
returns c =
    rw c.number_at.ensures.0 at c.survey.ensures
