-- The judge by ranks. Assumes nothing.
use Rattle.std.specs.Prelude.{List, ℕ}
use Rattle.answers.specs.declared.Numbers.{Numbers}
use Rattle.answers.specs.Numbers.{or_else}
use Rattle.book.specs.Rules.{rules_of}
use Rattle.book.specs.Encode.{atoms}
use Rattle.book.specs.Fault.{book_fault}
use Rattle.lines.specs.Lines.{line_of}
use Rattle.plan.specs.Fault.{plan_fault}
use Rattle.choice.specs.Met.{atom_holds}
use Rattle.verdict.specs.Judged.{rules_fault}
use Rattle.order.specs.Profile.{profile_fault}
use Rattle.order.specs.Ranked.{ranked_plan}

-- "a second judge that replaces start and end times by their ranks before it tests rules": 1 to 4, 26, then 5 to 11, 18, 12 or 0
unfoldable pub judged_by_order : List ℕ → List ℕ → Numbers
judged_by_order b p =
    or_else (book_fault 1 b)
    (or_else (profile_fault b) (or_else (plan_fault b p) (rules_fault atom_holds (line_of (ranked_plan p)) (rules_of atoms b))))
