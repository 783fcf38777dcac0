-- Table 5 read as atoms or as constraints, or named by place: the rules come to the same, since each is met alike. Shown once, for any way
-- to read a record of table 5. Assumes nothing.
use mathlib.Core.Path.{◌≡◌, refl, ap, fun_ext}
use mathlib.Core.Bool.{Bool}
use mathlib.Core.List.{List}
use Prim.Native.Nat.{ℕ, zero, suc, ◌+◌}
use lib.ListN.{get_or}
use Rattle.words.specs.Least.{first}
use Rattle.words.specs.Lists.{any}
use Rattle.words.specs.Runs.{run}
use Rattle.words.proofs.Runs.{length_run}
use Rattle.layout.specs.Layout.{count, offset}
use Rattle.book.specs.Rules.{Fifth, rule_at, rules_of}
use Rattle.book.specs.Encode.{atoms, constraints}
use Rattle.lines.specs.declared.Token.{Token}
use Rattle.lines.specs.Lines.{line_of}
use Rattle.choice.specs.Met.{Choice, atom_holds, constraint_holds, met}
use Rattle.choice.specs.Asked.{ask_holds}
use Rattle.choice.proofs.Typed.{Reads, met-same, book_reads, sheet_reads}
use Rattle.verdict.specs.Judged.{no_rule, trigger_line, is_trigger, examined, unmet, first_unmet, rule_unmet, rules_fault, judged, judged_sheet}
use Rattle.verdict.specs.Survey.{placed_rule, placed_rules, placed_fault, judged_by}

-- ---- records read in two ways, of which two tests say the same

module _ {A B : Type 0} (f : ℕ → A) (g : ℕ → B) (w : ℕ) where
  -- the first of which the test holds
  first_run : (p : A → Bool) (q : B → Bool) → ((k : ℕ) → p (f k) ≡ q (g k)) → (n at : ℕ) → first p (run f w n at) ≡ first q (run g w n at)
  unfolding first run
  first_run p q h zero at = refl
  first_run p q h (suc n) at = rw (h at, first_run p q h n (at + w))

  -- a number of record i; x and y stand for those past the end
  get_run : (p : A → ℕ) (q : B → ℕ) (x : A) (y : B) → p x ≡ q y → ((k : ℕ) → p (f k) ≡ q (g k))
      → (n at i : ℕ) → p (get_or (run f w n at) i x) ≡ q (get_or (run g w n at) i y)
  unfolding run
  get_run p q x y e h zero at i = e
  get_run p q x y e h (suc n) at zero = h at
  get_run p q x y e h (suc n) at (suc i) = get_run p q x y e h n (at + w) i

-- ---- a rule, and all rules

module _ {C : Type 0} (t5 : Fifth C) (holds : Choice → C → Bool) (e : ℕ) (b p : List ℕ) (r : Reads t5 holds e b) where
  -- the same trigger tokens are unmet
  unmet-same : (k : ℕ) (t : Token) → unmet holds (line_of p) (rule_at t5 b k) t ≡ unmet (ask_holds e b) (line_of p) (placed_rule e b k) t
  unfolding unmet is_trigger met rule_at
  unmet-same k t = rw (met-same t5 holds e b r (line_of p) k t)

  -- so the first of them is the same
  pub first-same : (k : ℕ) → first_unmet holds (line_of p) (rule_at t5 b k) ≡ first_unmet (ask_holds e b) (line_of p) (placed_rule e b k)
  unfolding first_unmet trigger_line rule_at
  first-same k = ap (λ (q : Token → Bool). first q (trigger_line (line_of p) (placed_rule e b k))) (fun_ext (unmet-same k))

  -- and whether there is one
  pub rule_same : (k : ℕ) → rule_unmet holds (line_of p) (rule_at t5 b k) ≡ rule_unmet (ask_holds e b) (line_of p) (placed_rule e b k)
  unfolding rule_unmet trigger_line rule_at
  rule_same k = rw (first-same k)

  -- the same tokens are trigger tokens
  pub examined-same : (n at : ℕ) → examined (line_of p) (run (rule_at t5 b) 4 n at) ≡ examined (line_of p) (run (placed_rule e b) 4 n at)
  unfolding examined run trigger_line is_trigger rule_at
  examined-same zero at = refl
  examined-same (suc n) at = rw (examined-same n (at + 4))

  -- past the last rule
  none-same : first_unmet holds (line_of p) no_rule ≡ first_unmet (ask_holds e b) (line_of p) no_rule
  unfolding first_unmet trigger_line unmet is_trigger met any
  none-same = refl

  -- all rules
  pub rules_same : rules_fault holds (line_of p) (rules_of t5 b) ≡ placed_fault e b p
  unfolding rules_fault placed_fault rules_of
  rules_same =
      let n : ℕ = count b 2 in
      let at : ℕ = offset b 2 in
      let f = rule_at t5 b in
      let g = placed_rule e b in
      rw (
        length_run f 4 n at,
        length_run g 4 n at,
        first_run f g 4 (rule_unmet holds (line_of p)) (rule_unmet (ask_holds e b) (line_of p)) rule_same n at,
        get_run f g 4 (first_unmet holds (line_of p)) (first_unmet (ask_holds e b) (line_of p)) no_rule no_rule none-same first-same n at
            (first (rule_unmet (ask_holds e b) (line_of p)) (placed_rules e b)),
        examined-same n at,
      )

-- ---- THE LAWS: a book by its atoms, and a sheet by its constraints

pub judged-is : (b p : List ℕ) → judged b p ≡ judged_by 1 b p
unfolding judged judged_by
judged-is b p = rw (rules_same atoms atom_holds 1 b p (book_reads b))

pub sheet_is : (s p : List ℕ) → judged_sheet s p ≡ judged_by 2 s p
unfolding judged_sheet judged_by
sheet_is s p = rw (rules_same constraints constraint_holds 2 s p (sheet_reads s))
