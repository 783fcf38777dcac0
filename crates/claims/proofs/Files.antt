-- Down to the bytes: what the programs print for their files. A file that is missing, too long or odd is no words, which gets 1, or 5 after the
-- book's faults; the bytes of a run of words read back as these words, word by word; so translating sheet.bin and judging by the book.bin
-- that was written is reading the sheet directly. Assumes that files hold what was written, and are read up to a buffer's length.
use mathlib.Core.Path.{◌≡◌, refl, sym, ap, ◌∙◌}
use mathlib.Core.Bool.{and-false}
use mathlib.Core.List.{List, [], ◌∷◌, ◌++◌}
use Prim.Native.Nat.{ℕ, zero, suc, ◌+◌, ◌*◌, ◌/◌, ◌%◌, ◌≤◌, ◌<◌}
use native.Mathlib.Nat.{add-zero}
use native.Mathlib.Decide.{dec_le}
use native.Mathlib.Omega.{arith}
use lib.Dec.{leb}
use lib.ListN.{length, get_or, take}
use lib.Seq.{length-take-le, take_all, take-length, take-suc, get_or-append-add}
use borrow.Author.Tests.{le-leb, lt-leb, lt-ltb, eq-eqb, ne_eqb}
use Rattle.answers.specs.declared.Numbers.{Numbers}
use Rattle.answers.specs.Numbers.{numbers, or_else}
use Rattle.words.specs.Lists.{All}
use Rattle.words.specs.Bytes.{four_bytes, byte_word, words_to, words_of, file_words, bytes_of_word, bytes_of}
use Rattle.words.proofs.Bytes.{length_bytes}
use Rattle.layout.specs.Layout.{count}
use Rattle.book.specs.Fault as book
use Rattle.plan.specs.Fault as plan
use Rattle.verdict.specs.Judged.{judged, judged_sheet}
use Rattle.translator.specs.Translation.{translated, translation, room_after}
use Rattle.claims.proofs.TranslatedGood.{translated_good, demand_3, written_book}
use Rattle.claims.proofs.FaultsOfTables.{book_none}
use Rattle.claims.proofs.Matched.{all-at}
use Rattle.claims.specs.SoundWords.{Word}
use Rattle.claims.proofs.SoundWords.{sound_words}
use Rattle.claims.proofs.FaultsOfTranslation.{taken_sound}
use Rattle.claims.specs.Files.{File, read, Unfit, judge_prints, direct_prints, translate_prints, translate_writes, holding, no_file, too_long, odd}

-- ---- files that are fit, and files that are not

-- up to 65,536 bytes, a multiple of 4: its words
pub fit_words : (bytes : List ℕ) → length bytes ≤ 65536 → length bytes % 4 ≡ 0 → file_words (read (holding bytes)) ≡ words_of bytes
fit_words bytes l even = rw (take_all 65540 bytes (omega arith), le-leb (length bytes) 65536 l, eq-eqb _ _ even)

-- too long, or not a multiple of 4
long-words : (s : List ℕ) → 65536 < length s → file_words s ≡ []
long-words s l = rw (lt-leb (length s) 65536 l)

odd_words : (s : List ℕ) → (length s % 4 ≡ 0 → ⊥) → file_words s ≡ []
odd_words s n = rw (ne_eqb (length s % 4) 0 n, and-false (leb (length s) 65536))

-- such a file is no words
pub unfit_words : {f : File} → Unfit f → file_words (read f) ≡ []
unfit_words no_file = refl
unfit_words (too_long {bytes} l) =
    elim (dec_le (length bytes) 65540) [
      | yes m ↦ rw (take_all 65540 bytes m) (long-words bytes l)
      | no n ↦ long-words (take 65540 bytes) (omega (arith, length-take-le 65540 bytes (omega arith)))
    ]
unfit_words (odd {bytes} n) =
    elim (dec_le (length bytes) 65540) [
      | yes m ↦ rw (take_all 65540 bytes m) (odd_words bytes n)
      | no m ↦ long-words (take 65540 bytes) (omega (arith, length-take-le 65540 bytes (omega arith)))
    ]

-- THE THEOREMS: it "gives 1 (book, sheet)",
pub unfit_book : {book : File} → Unfit book → (plan : File) → judge_prints book plan ≡ numbers 1 0 0
unfolding judged book.book_fault book.length_fault or_else
unfit_book u plan = rw (unfit_words u)

pub unfit_sheet : {sheet : File} → Unfit sheet → (translate_prints sheet ≡ numbers 1 0 0) × ((plan : File) → direct_prints sheet plan ≡ numbers 1 0 0)
unfolding judged_sheet translation book.book_fault book.length_fault or_else
unfit_sheet u = (rw (unfit_words u), λ plan. rw (unfit_words u))

-- "or 5 (plan, after the book's faults)"
no_plan : (b : List ℕ) (rest : Numbers) → or_else (plan.plan_fault b []) rest ≡ numbers 5 0 0
unfolding plan.plan_fault plan.length_fault or_else
no_plan b rest = rw (lt-ltb 0 (3 + 2 * count b 0) (omega arith))

pub unfit_plan : (b : File) {p : File} → Unfit p → judge_prints b p ≡ or_else (book.book_fault 1 (file_words (read b))) (numbers 5 0 0)
unfolding judged
unfit_plan b u = rw (unfit_words u, no_plan)

-- ---- the bytes of words read back as these words

-- its four bytes say it
parts : (w : ℕ) → (w / 65536 ≡ w / 256 / 256) × (w / 16777216 ≡ w / 256 / 256 / 256)
parts w = (omega arith, omega arith)

four_back : (w : ℕ) → Word w → four_bytes (w % 256) (w / 256 % 256) (w / 65536 % 256) (w / 16777216 % 256) ≡ w
four_back w h = rw ((parts w).0, (parts w).1) (omega arith)

-- word i of them
word_back : (ws : List ℕ) → All Word ws → (i : ℕ) → i < length ws → byte_word (bytes_of ws) i ≡ get_or ws i 0
unfolding bytes_of
word_back [] h i l = absurd (omega arith)
word_back (w ∷ ws) h zero l = four_back w h.0
word_back (w ∷ ws) h (suc i) l =
    let at : (j : ℕ) → get_or (bytes_of_word w ++ bytes_of ws) (suc i * 4 + j) 0 ≡ get_or (bytes_of ws) (i * 4 + j) 0 = λ j.
    let n : suc i * 4 + j ≡ length (bytes_of_word w) + (i * 4 + j) = omega arith in
    rw n (get_or-append-add (bytes_of_word w) (bytes_of ws) (i * 4 + j) 0) in
    let first : get_or (bytes_of_word w ++ bytes_of ws) (suc i * 4) 0 ≡ get_or (bytes_of ws) (i * 4) 0 = simp add-zero at (at 0) in
    rw (first, at 1, at 2, at 3) (word_back ws h.1 i (omega arith))

-- the first n
words_back : (ws : List ℕ) → All Word ws → (n : ℕ) → n ≤ length ws → words_to (bytes_of ws) n ≡ take n ws
words_back ws h zero l = refl
words_back ws h (suc n) l = rw (words_back ws h n (omega arith), word_back ws h n (omega arith)) (sym (take-suc ws n 0 (omega arith)))

-- THE THEOREM: the file of at most 16,384 words reads back as these words
pub bytes_back : (ws : List ℕ) → All Word ws → length ws ≤ 16384 → file_words (read (holding (bytes_of ws))) ≡ ws
bytes_back ws h l =
    let long = length_bytes ws in
    let n : length (bytes_of ws) / 4 ≡ length ws = omega arith in
    let even : length (bytes_of ws) % 4 ≡ 0 = omega arith in
    fit_words (bytes_of ws) (omega arith) even ∙ rw n (words_back ws h (length ws) (omega arith) ∙ take-length ws)

-- ---- sheet.bin, `translate`, book.bin, `judge`

-- the book that a sheet becomes is words of 32 bits, and at most 16,384 of them
translated-words : (s : List ℕ) → (translation s 16384).number ≡ 0 → All Word (translated s) × (length (translated s) ≤ 16384)
translated-words s h =
    let sound = (book_none 1 (translated s)).0 (ap (λ (r : Numbers). r.number) (translated_good s 16384 h)) in
    ((all-at Word 0 (translated s)).1 (sound_words sound), ((taken_sound s 16384).0 h).3)

-- THE THEOREM: where `translate` prints 0, `judge` prints of the book.bin that it wrote and of any plan.bin what reading the sheet directly
-- gives. The room is any of 16,384 words before; afterwards it is as `front::translate` promises
pub files_judged : (sheet plan : File) (room after : List ℕ) → length room ≡ 16384 → after ≡ room_after (file_words (read sheet)) room
    → (translate_prints sheet).number ≡ 0 → judge_prints (translate_writes sheet after) plan ≡ direct_prints sheet plan
files_judged sheet plan room after long is done =
    let s : List ℕ = file_words (read sheet) in
    let q = translated-words s done in
    let written : take (translation s 16384).a after ≡ translated s = rw is (rw long at (written_book s room) done) in
    rw (written, bytes_back (translated s) q.0 q.1) (demand_3 s (file_words (read plan)) 16384 done)
