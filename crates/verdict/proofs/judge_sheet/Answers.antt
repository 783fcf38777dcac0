-- `verdict::judge_sheet` meets its contract: table 5 read as constraints or by place, the judge's answer is the same. Assumes nothing.
use mathlib.Core.Path.{sym, ◌∙◌}
use Rattle.verdict.proofs.Typed.{sheet_is}
use Rattle.verdict.proofs.judge_sheet.Goals as goal

pub returns : goal.returns
returns c =
    c.judge_by.ensures ∙ sym (sheet_is _ _)
