-- What the theorems of proofs/Files are said in. Assumes nothing.
use Rattle.std.specs.Prelude.{◌≡◌, List, [], ℕ, ◌%◌, ◌<◌, length, take}
use Rattle.answers.specs.declared.Numbers.{Numbers}
use Rattle.words.specs.Bytes.{file_words, bytes_of}
use Rattle.verdict.specs.Judged.{judged, judged_sheet}
use Rattle.translator.specs.Translation.{translation}

-- ---- what is claimed

-- a file, by its bytes
pub data File : Type 0 where
  missing : File
  holding : List ℕ → File

-- what is read of it: nothing of a missing one, and of a long one as much as shows that it is too long
abbrev pub read : File → List ℕ
read missing = []
read (holding bytes) = take 65540 bytes

-- "A file missing, over 65,536 bytes or not a multiple of 4 long"
pub data Unfit : File → Type 0 where
  no_file : Unfit missing
  too_long : {bytes : List ℕ} → 65536 < length bytes → Unfit (holding bytes)
  odd : {bytes : List ℕ} → (length bytes % 4 ≡ 0 → ⊥) → Unfit (holding bytes)

-- "Program `judge` reads book.bin and plan.bin, little-endian words, and prints one line"
abbrev pub judge_prints : File → File → Numbers
judge_prints book plan = judged (file_words (read book)) (file_words (read plan))

-- the same of a sheet, read directly
abbrev pub direct_prints : File → File → Numbers
direct_prints sheet plan = judged_sheet (file_words (read sheet)) (file_words (read plan))

-- "Program `translate` reads sheet.bin, has room for 16,384 words, prints such a line"
abbrev pub translate_prints : File → Numbers
translate_prints sheet = translation (file_words (read sheet)) 16384

-- "and on 0 writes book.bin": the bytes of the words written, of the room as it is afterwards
abbrev pub translate_writes : File → List ℕ → File
translate_writes sheet after = holding (bytes_of (take (translate_prints sheet).a after))
