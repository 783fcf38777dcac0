-- What the theorems of proofs/OneAnswer are said in. Assumes nothing.
use Rattle.std.specs.Prelude.{◌≡◌, Bool, List, ℕ, length}
use Rattle.answers.specs.Numbers.{Answer, numbers_of}
use Rattle.lines.specs.declared.Step.{Step}
use Rattle.lines.specs.Walk.{position, names, step_of}
use Rattle.translator.specs.Translation.{translation, room_after}
use Rattle.reader.specs.declared.Opened.{Opened}
use Rattle.reader.specs.Opening.{open_fault, open_at}
use Rattle.front_reader.specs.Stepped.{Stepped}

-- ---- `translator::translate`: the answer, and the room afterwards

-- the ensures of `translate`, of the answer r and the room `after`
abbrev pub TranslatePermits : List ℕ → List ℕ → Answer → List ℕ → Type 0
TranslatePermits sheet room r after = (numbers_of r ≡ translation sheet (length room)) × (after ≡ room_after sheet room)

-- ---- `reader::open`: the answer, and where the reader stands; `Position::step`, `Reader::next`, `reader::read_at`

-- the ensures of `open`
abbrev pub OpenPermits : List ℕ → List ℕ → ℕ → Opened → Type 0
OpenPermits b p line r = (numbers_of r.answer ≡ open_fault b p line) × (r.at ≡ open_at b p line)

-- ---- the C side, where numbers come back one by one: `tteokbiran_step`; the others are equations of the functions above

-- what a step for C leaves in its five numbers
pub record Left : Type 0 where
  pub token : ℕ
  pub start : ℕ
  pub value : ℕ
  pub end : ℕ
  pub job : ℕ

-- what a step that comes to so much leaves, of what it was lent
abbrev pub Leaves : Step → Left → Left → Type 0
Leaves step q left =
    Stepped step q.token q.start q.value q.end q.job left.token left.start left.value left.end left.job

-- the ensures of `tteokbiran_step`, of the numbers lent, what it answers and the numbers left
abbrev pub StepPermits : List ℕ → ℕ → Left → Bool → Left → Type 0
StepPermits p line q r left =
    (r ≡ names p (position line q.token q.start))
    × Leaves (step_of p (position line q.token q.start)) q left
