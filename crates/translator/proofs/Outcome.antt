-- The translator's answer and the lent room afterwards, case by case: what the code has found is what `translation` and `room_after` say.
-- Assumes nothing.
use mathlib.Core.Path.{◌≡◌, refl, sym, ap, ◌∙◌}
use mathlib.Core.Bool.{Bool, true, false, cond}
use Prim.Native.Nat.{ℕ, ◌+◌, ◌≤◌, ◌<◌}
use native.Mathlib.Omega.{arith}
use borrow.Author.Tests.{lt-ltb, le-ltb, ltb-false, eq-eqb, ne_eqb}
use mathlib.Core.List.{List, ◌++◌}
use lib.Dec.{ltb}
use lib.ListN.{length, take, drop, length-take}
use Rattle.answers.specs.declared.Numbers.{Numbers}
use Rattle.std.specs.Prelude.{Option, Some, None, Ok, Err}
use Rattle.answers.specs.declared.Done.{Done}
use Rattle.answers.specs.declared.Refusal.{Refusal}
use Rattle.answers.specs.Numbers.{numbers, numbers_of, no_fault, or_else}
use Rattle.answers.proofs.Stages.{else_fault, else_next, refused_number, done_number}
use Rattle.words.specs.Least.{first}
use Rattle.words.specs.Write.{Wrote}
use Rattle.words.proofs.Write.{puts_eq}
use Rattle.layout.specs.Layout.{count}
use Rattle.book.specs.Rules.{Atom, Rule}
use Rattle.book.specs.Encode.{alts_of, names_of, asks_of}
use Rattle.book.specs.Fault.{book_fault}
use Rattle.book.proofs.Good.{good, no_number}
use Rattle.book.proofs.Sound.{sound}
use Rattle.listing.specs.Listed.{Fits, ListedIs}
use Rattle.translator.specs.Outcome.{Passed, long_table}
use Rattle.writing.specs.Whole.{Ready}
use Rattle.writing.proofs.Whole.{Sizes, many}
use Rattle.translator.specs.Translation.{room_after, room_fault, rule_fault, size_fault, translation}
use Rattle.listing.proofs.Bridge.{rules_are}
use Rattle.listing.specs.Items.{rules_by}
use Rattle.listing.specs.Expand.{rules_for, too_many}
use Rattle.listing.proofs.Sheet.{sheet_fits}
use Rattle.writing.specs.Book.{translated}

-- ---- laws of the tests

-- a stage that found something, and one that did not
stop : {x v : Numbers} (y : Numbers) → x ≡ v → (v.number ≡ 0 → ⊥) → or_else x y ≡ v
stop {x} {v} y e h = ap (λ (z : Numbers). or_else z y) e ∙ else_fault v y h

pass : {x : Numbers} (y : Numbers) → x ≡ no_fault → or_else x y ≡ y
pass {x} y e = ap (λ (z : Numbers). or_else z y) e ∙ else_next no_fault y refl

rule_found : (rules : List (Rule Atom)) → first too_many rules < length rules → rule_fault rules ≡ numbers 13 (first too_many rules) 0
unfolding rule_fault
rule_found rules h = rw (lt-ltb (first too_many rules) (length rules) h)

rule_none : (rules : List (Rule Atom)) → length rules ≤ first too_many rules → rule_fault rules ≡ no_fault
unfolding rule_fault
rule_none rules h = rw (le-ltb (first too_many rules) (length rules) h)

-- 14 with the table that is too long, if there is one
abbrev table_fault : Option ℕ → Numbers
table_fault (Some t) = numbers 14 t 0
table_fault None = no_fault

longs : (a b c d : Bool)
    → cond a (numbers 14 3 0) (cond b (numbers 14 4 0) (cond c (numbers 14 5 0) (cond d (numbers 14 6 0) no_fault)))
    ≡ table_fault (cond a (Some 3) (cond b (Some 4) (cond c (Some 5) (cond d (Some 6) None))))
longs true b c d = refl
longs false true c d = refl
longs false false true d = refl
longs false false false true = refl
longs false false false false = refl

nones : (a b c d : Bool) → ◌≡◌ {A = Option ℕ} (cond a (Some 3) (cond b (Some 4) (cond c (Some 5) (cond d (Some 6) None)))) None
    → (a ≡ false) × ((b ≡ false) × ((c ≡ false) × (d ≡ false)))
nones true b c d h = absurd (cc)
nones false true c d h = absurd (cc)
nones false false true d h = absurd (cc)
nones false false false true h = absurd (cc)
nones false false false false h = (refl, (refl, (refl, refl)))

pub long-none : (n m k w : ℕ) → None ≡ long_table n m k w → (n ≤ 1024) × ((m ≤ 2048) × ((k ≤ 2048) × (w ≤ 16384)))
unfolding long_table
long-none n m k w h =
    let q = nones (ltb 1024 n) (ltb 2048 m) (ltb 2048 k) (ltb 16384 w) (sym h) in
    (ltb-false 1024 n q.0, (ltb-false 2048 m q.1.0, (ltb-false 2048 k q.1.1.0, ltb-false 16384 w q.1.1.1)))

module _ {s : List ℕ} {n m k w : ℕ} (z : Sizes s n m k w) where
  size_is : size_fault s ≡ table_fault (long_table n m k w)
  unfolding size_fault long_table
  size_is = rw (z.alternatives, z.names, z.atoms, z.all) (longs (ltb 1024 (length (alts_of (rules_for s)))) (ltb 2048 (length (names_of (alts_of (rules_for s))))) (ltb 2048 (length (asks_of (alts_of (rules_for s))))) (ltb 16384 (length (translated s))))

  size_long : (t : ℕ) → Some t ≡ long_table n m k w → size_fault s ≡ numbers 14 t 0
  size_long t h = size_is ∙ ap table_fault (sym h)

  size_none : None ≡ long_table n m k w → size_fault s ≡ no_fault
  size_none h = size_is ∙ ap table_fault (sym h)

-- ---- the answer, and the room

-- what the answer x and the room afterwards have to be
abbrev pub Outcome : List ℕ → List ℕ → List ℕ → Numbers → Type 0
Outcome s before after x = (x ≡ translation s (length before)) × (after ≡ room_after s before)

module _ (s room : List ℕ) where
  -- "Refused, the room is untouched"
  pub refused : (x : Numbers) → translation s (length room) ≡ x → (x.number ≡ 0 → ⊥) → Outcome s room room x
  unfolding room_after
  refused x e h = (sym e, rw (e, ne_eqb _ _ h))

  -- "Done, only the words written differ"
  finished : (x : Numbers) (after : List ℕ) (r : ℕ) → translation s (length room) ≡ x → x.number ≡ 0
      → Wrote room after 0 r (translated s) → length (translated s) ≤ length room → Outcome s room after x
  unfolding room_after
  finished x after r e h w l = (sym e, rw (e, eq-eqb _ _ h) (w.same ∙ puts_eq room 0 (translated s) (omega arith) ∙ ap (λ (k : ℕ). translated s ++ drop k room) zeros))
    where
      zeros : 0 + length (translated s) ≡ length (translated s)
      zeros = omega arith

  -- 1 to 4
  pub bad_sheet : ((book_fault 2 s).number ≡ 0 → ⊥) → Outcome s room room (book_fault 2 s)
  unfolding translation
  bad_sheet h = refused (book_fault 2 s) (else_fault _ _ h) h

  module _ (p : Passed s) where
    same : rules_for s ≡ rules_by s
    same = rules_are s (sheet_fits s p.sound)

    long : length (rules_for s) ≡ count s 2
    long = many s p.sound

    -- 13
    pub too_many_lem : (r : ℕ) → r ≡ first too_many (rules_by s) → r < count s 2 → Outcome s room room (numbers 13 r 0)
    unfolding translation
    too_many_lem r e l =
        let q : first too_many (rules_for s) ≡ r = ap (first too_many) same ∙ sym e in
        refused (numbers 13 r 0)
        (else_next _ _ p.good ∙ stop _ (rule_found (rules_for s) (omega (arith, long)) ∙ ap (λ (k : ℕ). numbers 13 k 0) q) (λ z. omega arith))
        (λ z. omega arith)

    module _ (few : count s 2 ≤ first too_many (rules_by s)) where
      no_13 : rule_fault (rules_for s) ≡ no_fault
      no_13 = rule_none (rules_for s) (omega (arith, long, ap (first too_many) same))

      module _ {n m k w : ℕ} (z : Sizes s n m k w) where
        -- 14
        pub too_long_lem : (t : ℕ) → Some t ≡ long_table n m k w → Outcome s room room (numbers 14 t 0)
        unfolding translation
        too_long_lem t e =
            refused (numbers 14 t 0) (else_next _ _ p.good ∙ pass _ no_13 ∙ stop _ (size_long z t e) (λ q. omega arith)) (λ q. omega arith)

        -- 15
        pub too_short : None ≡ long_table n m k w → length room < w → Outcome s room room (numbers 15 w 0)
        unfolding translation room_fault
        too_short h l =
            let found : room_fault s (length room) ≡ numbers 15 w 0 = rw (← z.all, lt-ltb (length room) w l) in
            refused (numbers 15 w 0)
            (else_next _ _ p.good ∙ pass _ no_13 ∙ pass _ (size_none z h) ∙ stop _ found (λ q. omega arith))
            (λ q. omega arith)

        -- 0
        pub written : None ≡ long_table n m k w → w ≤ length room → (after : List ℕ) (r : ℕ) → Wrote room after 0 r (translated s)
            → Outcome s room after (numbers 0 w n)
        unfolding translation room_fault
        written h l after r wrote =
            let none : room_fault s (length room) ≡ no_fault = rw (← z.all, le-ltb (length room) w l) in
            finished (numbers 0 w n) after r
            (else_next _ _ p.good ∙ pass _ no_13 ∙ pass _ (size_none z h) ∙ pass _ none ∙ rw (← z.all, ← z.alternatives))
            refl wrote (omega (arith, z.all))

-- a sheet with the answer number 0 so far
pub passed : (s : List ℕ) → (book_fault 2 s).number ≡ 0 → Passed s
passed s h = record { sound = sound 2 s (good 2 s (no_number 2 s h)); good = h }

-- what `list_rules` and `finish` ask for
pub fitting : {s : List ℕ} → Passed s → Fits s
fitting {s} p = sheet_fits s p.sound

pub listed : {s out numbers : List ℕ} {items : ℕ} (rules : ℕ) → Passed s → ListedIs s out numbers (Ok items) → rules ≡ count s 2
    → Ready s (take items out) (take rules numbers) × (Passed s × (count s 2 ≤ first too_many (rules_by s)))
listed {s} {out} {numbers} {items} rules p l e =
    let all = l.1 in (
      record {
        sound = p.sound;
        items = all.list;
        counts = rw e all.counts;
        few = omega (arith, all.few, length-take items out);
      },
      (p, l.0),
    )

-- what `check` answers of the sheet: what it refuses is the answer; else the sheet passed
pub bad_by : (s room : List ℕ) (r : Refusal) → numbers_of (Err r) ≡ book_fault 2 s → Outcome s room room (numbers_of (Err r))
bad_by s room r e = rw e (bad_sheet s room (refused_number r _ e))

pub good_by : (s : List ℕ) (d : Done) → numbers_of (Ok d) ≡ book_fault 2 s → Passed s
good_by s d e = passed s (done_number d _ e)
