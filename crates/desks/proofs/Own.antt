-- One step of the loop over a desk's own rules: what they come to is what those passed and the rest come to. Assumes nothing.
use mathlib.Core.Path.{◌≡◌, refl, sym, ◌∙◌}
use mathlib.Core.Bool.{Bool, true, false}
use mathlib.Core.List.{List, ◌∷◌}
use Prim.Native.Nat.{ℕ, suc, ◌+◌, ◌^◌, ◌≤◌, ◌<◌}
use native.Mathlib.Numerals.{add-one}
use native.Mathlib.Omega.{arith}
use lib.ListN.{length, get_or, drop, drop_of_length-le}
use lib.Seq.{drop-cons}
use borrow.Author.Tests.{eq-eqb, ne_eqb}
use Rattle.words.specs.Words.{word}
use Rattle.words.proofs.Runs.{run_at, length_run}
use Rattle.answers.specs.Numbers.{numbers}
use Rattle.layout.specs.Layout.{count, offset, record_at}
use Rattle.book.specs.Rules.{Rule, rule_at, rules_of}
use Rattle.book.specs.Encode.{atoms}
use Rattle.lines.specs.declared.Token.{Token}
use Rattle.lines.specs.Lines.{line_of}
use Rattle.choice.specs.Met.{Choice, atom_holds}
use Rattle.choice.proofs.Typed.{book_reads}
use Rattle.verdict.specs.Judged.{no_rule, trigger_line, is_trigger, examined, first_unmet, rule_unmet}
use Rattle.verdict.specs.Survey.{AllMet, OneUnmet}
use Rattle.verdict.proofs.Typed.{first-same, rule_same}
use Rattle.desks.specs.Own.{numbered, of_desk, own_rules, triggers_of, fault_from, numbered_fault, own_fault}

-- ---- over any rules

module _ {C : Type 0} (holds : Choice → C → Bool) (lines : ℕ → List Token) (desks : List ℕ) (desk : ℕ) (rules : List (Rule C)) where
  -- `rule` rules are passed, the desk's own of them met; they came to `seen`, and all rules' trigger tokens together fit a word
  pub record OnOwn (rule seen : ℕ) : Type 0 where
    pub fits : seen + examined lines (drop rule rules) < 2 ^ 32
    pub rest : fault_from holds lines seen (of_desk desks desk (numbered rule (drop rule rules)))
        ≡ numbered_fault holds lines (own_rules desks desk rules)

  -- none is passed
  own-start : examined lines rules < 2 ^ 32 → OnOwn 0 0
  unfolding numbered_fault own_rules
  own-start few = record { fits = omega arith; rest = refl }

  -- all are
  own-end : {rule seen : ℕ} → OnOwn rule seen → length rules ≤ rule → numbers 0 seen 0 ≡ numbered_fault holds lines (own_rules desks desk rules)
  unfolding numbered of_desk fault_from
  own-end {rule} h over = rw (drop_of_length-le rules over) at h.rest

  module _ {rule seen : ℕ} (h : OnOwn rule seen) (more : rule < length rules) where
    -- the next one
    abbrev next : Rule C
    next = get_or rules rule no_rule

    -- and then those after it
    ahead : drop rule rules ≡ next ∷ drop (suc rule) rules
    ahead = drop-cons rules rule no_rule more

    -- the count goes on to fit
    own_fits : seen + triggers_of lines next + examined lines (drop (suc rule) rules) < 2 ^ 32
    unfolding examined
    own_fits = let few = rw ahead at h.fits in omega arith

    -- it is the other desk's
    own_other : (word desks rule ≡ desk → ⊥) → OnOwn (rule + 1) seen
    unfolding numbered of_desk
    own_other other =
        rw (add-one rule) (record { fits = omega (arith, own_fits); rest = rw (ahead, ne_eqb (word desks rule) desk other) at h.rest })

    module _ (own : word desks rule ≡ desk) where
      -- it is the desk's own, and met
      own-met : rule_unmet holds lines next ≡ false → OnOwn (rule + 1) (seen + triggers_of lines next)
      unfolding numbered of_desk fault_from
      own-met met =
          rw (add-one rule) (record { fits = own_fits; rest = rw (ahead, eq-eqb (word desks rule) desk own, met) at h.rest })

      -- it is, and not met
      own-unmet : rule_unmet holds lines next ≡ true → numbers 12 rule (first_unmet holds lines next)
          ≡ numbered_fault holds lines (own_rules desks desk rules)
      unfolding numbered of_desk fault_from
      own-unmet unmet = rw (ahead, eq-eqb (word desks rule) desk own, unmet) at h.rest

-- ---- of a book, in the words of the code

module _ (b p : List ℕ) where
  -- the number of rules
  rules_long : length (rules_of atoms b) ≡ count b 2
  unfolding rules_of
  rules_long = length_run (rule_at atoms b) 4 (count b 2) (offset b 2)

  -- what a survey tells of rule i
  module _ (i : ℕ) (l : i < count b 2) where
    here : get_or (rules_of atoms b) i no_rule ≡ rule_at atoms b (record_at 1 b 2 i)
    unfolding rules_of
    here = run_at (rule_at atoms b) 4 (count b 2) (offset b 2) i no_rule l

    -- it is met, with so many trigger tokens
    told-met : (n : ℕ) → AllMet 1 b p (record_at 1 b 2 i) n → rule_unmet atom_holds (line_of p) (get_or (rules_of atoms b) i no_rule) ≡ false
    told-met n h = rw here (rule_same atoms atom_holds 1 b p (book_reads b) (record_at 1 b 2 i) ∙ h.unmet)

    told-count : (n : ℕ) → AllMet 1 b p (record_at 1 b 2 i) n → n ≡ triggers_of (line_of p) (get_or (rules_of atoms b) i no_rule)
    unfolding trigger_line is_trigger rule_at
    told-count n h = rw here h.count

    -- it isn't
    told-unmet : (t : ℕ) → OneUnmet 1 b p (record_at 1 b 2 i) t → rule_unmet atom_holds (line_of p) (get_or (rules_of atoms b) i no_rule) ≡ true
    told-unmet t h = rw here (rule_same atoms atom_holds 1 b p (book_reads b) (record_at 1 b 2 i) ∙ h.unmet)

    told-token : (t : ℕ) → OneUnmet 1 b p (record_at 1 b 2 i) t → t ≡ first_unmet atom_holds (line_of p) (get_or (rules_of atoms b) i no_rule)
    told-token t h = rw here (h.token ∙ sym (first-same atoms atom_holds 1 b p (book_reads b) (record_at 1 b 2 i)))

-- the loop stands before rule number `rule` of n
pub record OnDesk (b p desks : List ℕ) (desk n rule seen : ℕ) : Type 0 where
  pub all : n ≡ count b 2
  pub on : OnOwn atom_holds (line_of p) desks desk (rules_of atoms b) rule seen

pub desk_start : (b p desks : List ℕ) (desk n : ℕ) → n ≡ count b 2 → examined (line_of p) (rules_of atoms b) < 2 ^ 32 → OnDesk b p desks desk n 0 0
desk_start b p desks desk n e few = record { all = e; on = own-start atom_holds (line_of p) desks desk (rules_of atoms b) few }

pub desk_end : {b p desks : List ℕ} {desk n rule seen : ℕ} → OnDesk b p desks desk n rule seen → n ≤ rule → numbers 0 seen 0 ≡ own_fault b p desks desk
unfolding own_fault
desk_end {b} {p} {desks} {desk} h over =
    let long = rules_long b p in
    let all = h.all in
    own-end atom_holds (line_of p) desks desk (rules_of atoms b) h.on (omega arith)

module _ {b p desks : List ℕ} {desk n rule seen : ℕ} (h : OnDesk b p desks desk n rule seen) (more : rule < n) (w : ℕ)
    (hw : w ≡ word desks rule) where
  below : rule < length (rules_of atoms b)
  below =
      let long = rules_long b p in
      let all = h.all in
      omega arith

  pub desk_other : (w ≡ desk → ⊥) → OnDesk b p desks desk n (rule + 1) seen
  desk_other other = record { all = h.all; on = own_other atom_holds (line_of p) desks desk (rules_of atoms b) h.on below (λ e. other (hw ∙ e)) }

  within : rule < count b 2
  within = let all = h.all in omega arith

  module _ (own : w ≡ desk) where
    module _ (c : ℕ) (s : AllMet 1 b p (record_at 1 b 2 rule) c) where
      pub desk_fits : seen + c < 2 ^ 32
      desk_fits = omega (arith, own_fits atom_holds (line_of p) desks desk (rules_of atoms b) h.on below, told-count b p rule within c s)

      pub desk_met : OnDesk b p desks desk n (rule + 1) (seen + c)
      desk_met =
          record {
            all = h.all;
            on = rw (told-count b p rule within c s)
                (own-met atom_holds (line_of p) desks desk (rules_of atoms b) h.on below (sym hw ∙ own) (told-met b p rule within c s));
          }

    pub desk_unmet : (token : ℕ) → OneUnmet 1 b p (record_at 1 b 2 rule) token → numbers 12 rule token ≡ own_fault b p desks desk
    unfolding own_fault
    desk_unmet token s =
        rw (told-token b p rule within token s)
        (own-unmet atom_holds (line_of p) desks desk (rules_of atoms b) h.on below (sym hw ∙ own) (told-unmet b p rule within token s))
