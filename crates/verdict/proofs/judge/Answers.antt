-- `verdict::judge` meets its contract: table 5 read as atoms or by place, the judge's answer is the same. Assumes nothing.
use mathlib.Core.Path.{sym, ◌∙◌}
use Rattle.verdict.proofs.Typed.{judged-is}
use Rattle.verdict.proofs.judge.Goals as goal

pub returns : goal.returns
returns c =
    c.judge_by.ensures ∙ sym (judged-is _ _)
