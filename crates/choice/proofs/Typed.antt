-- The search names what an alternative asks by its place in table 5: this is the same as reading it there, an atom in a book and a constraint
-- in a sheet. One theorem for both, over how table 5 is read and what it means that a record holds. Assumes nothing.
use mathlib.Core.Path.{◌≡◌, refl, sym, ap, ◌∙◌}
use mathlib.Core.Bool.{Bool, ◌&&◌}
use mathlib.Core.List.{List, [], ◌∷◌, map}
use Prim.Native.Nat.{ℕ, zero, suc, ◌+◌, ◌*◌}
use lib.Dec.{eqb}
use Rattle.words.specs.Words.{word}
use Rattle.words.specs.Lists.{any, all}
use Rattle.words.proofs.Lists.{any_same}
use Rattle.words.specs.Runs.{run}
use Rattle.words.proofs.Runs.{run-same}
use Rattle.layout.specs.Layout.{fifth_width, offset}
use Rattle.book.specs.Rules.{Name, Alternative, Rule, Fifth, name_at, alternative_at, rule_at}
use Rattle.book.specs.Encode.{atoms, constraints}
use Rattle.lines.specs.declared.Token.{Token}
use Rattle.lines.specs.Lines.{line_of}
use Rattle.lines.specs.Ends.{plan_end}
use Rattle.choice.specs.Met.{Choice, put, triggered, atom_holds, constraint_holds, place, alternative_met, met}
use Rattle.choice.specs.Asked.{places, ask_holds, met_at}

-- ---- records read two ways

module _ {A B : Type 0} where
  -- what is made of each record that was read
  run-map : (f : ℕ → A) (g : A → B) (w n at : ℕ) → run (λ k. g (f k)) w n at ≡ map g (run f w n at)
  unfolding run
  run-map f g w zero at = refl
  run-map f g w (suc n) at = ap (λ (l : List B). g (f at) ∷ l) (run-map f g w n (at + w))

  -- tests that agree at each place
  run-any : (p : A → Bool) (q : B → Bool) (f : ℕ → A) (g : ℕ → B) (w n at : ℕ) → ((k : ℕ) → p (f k) ≡ q (g k)) → any p (run f w n at) ≡ any q (run g w n at)
  unfolding any run
  run-any p q f g w zero at h = refl
  run-any p q f g w (suc n) at h = rw (h at, run-any p q f g w n (at + w) h)

  run-all : (p : A → Bool) (q : B → Bool) (f : ℕ → A) (g : ℕ → B) (w n at : ℕ) → ((k : ℕ) → p (f k) ≡ q (g k)) → all p (run f w n at) ≡ all q (run g w n at)
  unfolding all run
  run-all p q f g w zero at h = refl
  run-all p q f g w (suc n) at h = rw (h at, run-all p q f g w n (at + w) h)

-- tests of the choice that agree
place_same : (lines : ℕ → List Token) (p q : Choice → Bool) → ((d : Choice) → p d ≡ q d) → (ns : List Name) (k : ℕ) (c : Choice)
    → place lines p ns k c ≡ place lines q ns k c
unfolding place
place_same lines p q h [] k c = h c
place_same lines p q h (n ∷ ns) k c =
    any_same _ _
    (λ (t : Token). ap (λ (x : Bool). eqb t.value n.value && x) (place_same lines p q h ns (k + 1) (put c k t.start.tick t.end.tick t.job)))
    (lines n.variable)

-- ---- the theorem

-- what stands at the places of table 5 in edition e is read by t5, and holds by `holds`
pub record Reads {C : Type 0} (t5 : Fifth C) (holds : Choice → C → Bool) (e : ℕ) (b : List ℕ) : Type 0 where
  pub width : t5.width ≡ fifth_width e
  pub agree : (c : Choice) (k : ℕ) → holds c (t5.read b k) ≡ ask_holds e b c k

module _ {C : Type 0} (t5 : Fifth C) (b : List ℕ) where
  -- an alternative whose asks are places: with what stands there
  abbrev pub typed : Alternative ℕ → Alternative C
  typed a = record { names = a.names; asks = map (t5.read b) a.asks }

  -- and a rule
  abbrev pub typed_rule : Rule ℕ → Rule C
  typed_rule x = record { variable = x.variable; value = x.value; alternatives = map typed x.alternatives }

module _ {C : Type 0} (t5 : Fifth C) (holds : Choice → C → Bool) (e : ℕ) (b : List ℕ) (r : Reads t5 holds e b) where
  pub alternative_typed : (k : ℕ) → alternative_at t5 b k ≡ typed t5 b (alternative_at (places e) b k)
  unfolding alternative_at
  alternative_typed k =
      rw r.width
      (ap (λ (l : List C). record { names = run (name_at b) 2 (word b (k + 1)) (offset b 4 + 2 * word b k); asks = l })
      (run-map (λ at. at) (t5.read b) (fifth_width e) (word b (k + 3)) (offset b 5 + fifth_width e * word b (k + 2))))

  pub rule_typed : (k : ℕ) → rule_at t5 b k ≡ typed_rule t5 b (rule_at (places e) b k)
  unfolding rule_at
  rule_typed k =
      let n = word b (k + 3) in
      let at = offset b 3 + 4 * word b (k + 2) in
      ap (λ (l : List (Alternative C)). record { variable = word b k; value = word b (k + 1); alternatives = l })
      (run-same (alternative_at t5 b) (λ j. typed t5 b (alternative_at (places e) b j)) 4 n at alternative_typed
      ∙ run-map (alternative_at (places e) b) (typed t5 b) 4 n at)

  -- what it means to be met is the same
  pub alternative_same : (lines : ℕ → List Token) (c : Choice) (k : ℕ)
      → alternative_met holds lines c (alternative_at t5 b k) ≡ alternative_met (ask_holds e b) lines c (alternative_at (places e) b k)
  unfolding alternative_met alternative_at
  alternative_same lines c k =
      rw r.width
      (place_same lines _ _
      (λ d. run-all (holds d) (ask_holds e b d) (t5.read b) (λ at. at) (fifth_width e) (word b (k + 3)) (offset b 5 + fifth_width e * word b (k + 2)) (r.agree d))
      (run (name_at b) 2 (word b (k + 1)) (offset b 4 + 2 * word b k)) 1 c)

  -- THE THEOREM: a rule is met for a trigger token by what it asks exactly if it is by the places of what it asks
  pub met-same : (lines : ℕ → List Token) (k : ℕ) (t : Token)
      → met holds lines (rule_at t5 b k) t ≡ any (alternative_met (ask_holds e b) lines (triggered (plan_end lines) t)) (rule_at (places e) b k).alternatives
  unfolding met rule_at
  met-same lines k t =
      run-any _ _ (alternative_at t5 b) (alternative_at (places e) b) 4 (word b (k + 3)) (offset b 3 + 4 * word b (k + 2)) (alternative_same lines (triggered (plan_end lines) t))

  -- so the search for the alternatives of the rule at a place answers by the decoded rule
  pub met_at_lem : (p : List ℕ) (k : ℕ) (t : Token) → met_at e b p t (word b (k + 3)) (offset b 3 + 4 * word b (k + 2)) ≡ met holds (line_of p) (rule_at t5 b k) t
  unfolding met_at rule_at
  met_at_lem p k t = sym (met-same (line_of p) k t)

-- ---- a book, and a sheet

pub book_reads : (b : List ℕ) → Reads atoms atom_holds 1 b
unfolding fifth_width ask_holds
book_reads b = record { width = refl; agree = λ c k. refl }

pub sheet_reads : (b : List ℕ) → Reads constraints constraint_holds 2 b
unfolding fifth_width ask_holds
sheet_reads b = record { width = refl; agree = λ c k. refl }

pub book_met : (b p : List ℕ) (k : ℕ) (t : Token)
    → met_at 1 b p t (word b (k + 3)) (offset b 3 + 4 * word b (k + 2)) ≡ met atom_holds (line_of p) (rule_at atoms b k) t
book_met b p k t = met_at_lem atoms atom_holds 1 b (book_reads b) p k t

pub sheet_met : (b p : List ℕ) (k : ℕ) (t : Token)
    → met_at 2 b p t (word b (k + 3)) (offset b 3 + 4 * word b (k + 2)) ≡ met constraint_holds (line_of p) (rule_at constraints b k) t
sheet_met b p k t = met_at_lem constraints constraint_holds 2 b (sheet_reads b) p k t
