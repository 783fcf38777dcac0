-- Laws of what is kept: marks of an earlier trigger token go on for a later one, what raising found is kept in its place and settles whether
-- there is a choice, and one alternative after the other is met or not. Assumes nothing.
use mathlib.Core.Path.{◌≡◌, refl, sym, ap, ◌∙◌}
use mathlib.Core.Bool.{Bool, true, false, ◌&&◌, ◌||◌, false≢true}
use mathlib.Core.Logic.{◌⊎◌, ⊎_elim}
use mathlib.Core.List.{List, [], ◌∷◌}
use Prim.Native.Nat.{ℕ, zero, suc, ◌+◌, ◌-◌, ◌*◌, ◌≤◌, ◌<◌}
use native.Mathlib.Nat.{add-zero, zero-mul}
use native.Mathlib.Numerals.{add-one}
use native.Mathlib.Omega.{arith}
use lib.Dec.{ltb, eqb}
use lib.ListN.{length, get_or, set, length-set, get_or-eq_default}
use lib.Seq.{get_or-set_same, get_or-set_other}
use borrow.Author.Tests.{ltb-true, ltb-false, eqb-true, eqb-false}
use Rattle.words.specs.Lists.{any}
use Rattle.words.specs.Runs.{run}
use Rattle.book.specs.Rules.{name_at, alternative_at}
use Rattle.lines.specs.declared.Token.{Token}
use Rattle.lines.specs.Lines.{line_of}
use Rattle.lines.specs.Ends.{plan_end}
use Rattle.choice.specs.declared.Alternative.{Alternative}
use Rattle.choice.specs.Met.{Choice, time_place, nobody, put, token_time, place, alternative_met}
use Rattle.choice.specs.Asked.{places, ask_holds, all_hold, asks_hold, placeable, triggered_in, met_at, alternative_of}
use Rattle.choice.specs.Exists.{choice_of}
use Rattle.choice.proofs.Exists.{and_both, placed_of, choice_time}
use Rattle.choice.proofs.Laws.{run-any-step}
use Rattle.marks.specs.declared.Found.{Found}
use Rattle.marks.specs.declared.Found.TheVariants.{Open, NoneNow, NoneEver}
use Rattle.std.specs.Prelude.{Option, Some, None}
use Rattle.marks.specs.declared.Lead.{Lead}
use Rattle.marks.specs.Marked.{Choosing, Marked, Started, Raised}
use Rattle.marks.proofs.Choices.{choice_trigger}
use Rattle.marks.proofs.Marks.{later_same}
use Rattle.matching.specs.Search.{Leads}
use Rattle.matching.specs.Carried.{Going, handed, ended, Carry, Keeping, Carried}
use Rattle.matching.proofs.Fresh.{later_trans}

-- ---- words that are all 0

abbrev pub zeros : List ℕ → Bool
zeros [] = true
zeros (x ∷ xs) = eqb x 0 && zeros xs

pub all-zero : (l : List ℕ) → zeros l ≡ true → (i : ℕ) → get_or l i 0 ≡ 0
all-zero [] h i = refl
all-zero (x ∷ xs) h zero = eqb-true x 0 (and_both (eqb x 0) (zeros xs) h).0
all-zero (x ∷ xs) h (suc i) = all-zero xs (and_both (eqb x 0) (zeros xs) h).1 i

module _ (b p : List ℕ) (a : Alternative) where
  -- marks of an earlier trigger token, with a later one's times
  pub going_on : (t : Token) (c r c' r' : Choice) → Going b p a t c r → c' ≡ put c 0 t.start.tick t.end.tick t.job → r' ≡ r
      → Marked b p a t a.names c' r'
  going_on t c r c' r' g h hr =
      let k = g.marked in
      rw hr
      (record {
        heads = k.heads;
        size = k.size;
        few = k.few;
        four = k.four;
        is =
            h ∙ ap (λ (z : Choice). put z 0 t.start.tick t.end.tick t.job) k.is
            ∙ choice_trigger (plan_end (line_of p)) g.old t k.heads (omega (arith, k.size, k.four));
        long = k.long;
        each =
            λ j l. let m = k.each j l in
            record {
              some = m.some;
              head = m.head;
              source =
                  record {
                    from = λ u f. m.source.from u (later_trans g.later f);
                    line = m.source.line;
                    room = m.source.room;
                    small = m.source.small;
                  };
            };
      })

  -- ---- what a search begins with

  -- no choice
  pub none_placed : (t : Token) → ((ts : List Token) → Choosing b p a t ts → ⊥) → placeable b p a a.names 0 (triggered_in p t) ≡ false
  unfolding placeable
  none_placed t f = rw (zero-mul 2, add-zero a.name) (go (place (line_of p) (asks_hold b a) (run (name_at b) 2 a.names a.name) 1 (triggered_in p t)) refl)
    where
      go : (z : Bool) → place (line_of p) (asks_hold b a) (run (name_at b) 2 a.names a.name) 1 (triggered_in p t) ≡ z
          → place (line_of p) (asks_hold b a) (run (name_at b) 2 a.names a.name) 1 (triggered_in p t) ≡ false
      go false h = h
      go true h = let q = placed_of (line_of p) (asks_hold b a) (run (name_at b) 2 a.names a.name) 1 (triggered_in p t) h in absurd (f q.0 q.1)

  -- the marks of all names
  pub marked_leads : (t : Token) (c r : Choice) → Marked b p a t a.names c r → Leads b p a t c r
  marked_leads t c r k =
      record { each = λ j l _. rw (ap (λ (z : Choice). token_time z 0 (j + 1)) k.is ∙ start j) (k.each j l).source }
    where
      start : (j : ℕ) → token_time (choice_of (plan_end (line_of p)) t k.heads) 0 (j + 1) ≡ (get_or k.heads j nobody).start.tick
      start j = (choice_time (plan_end (line_of p)) t k.heads (j + 1) (omega (arith, k.size, k.four))).0 ∙ ap (λ (z : ℕ). (get_or (t ∷ k.heads) z nobody).start.tick) (add-one j)

  -- no name has a mark
  pub bare_leads : (t : Token) (c r : Choice) → zeros r ≡ true → Leads b p a t c r
  unfolding token_time
  bare_leads t c r f = record { each = λ j l h. absurd (h (all-zero r f (time_place 0 (j + 1)))) }

  -- marks are kept
  pub marked_going : (t : Token) (c r : Choice) → Marked b p a t a.names c r → Going b p a t c r
  marked_going t c r k = record { old = t; later = later_same t; marked = k }

  -- what was found
  pub raised_carry : (t : Token) (f : Found) → Raised b p a t f → Carry b p a t (Some f)
  raised_carry t (Open m) k = marked_going t m.times m.rests k
  raised_carry t (NoneNow m) k = marked_going t m.times m.rests k.0
  raised_carry t NoneEver k = k

  -- ---- the places of what is kept

  pub keeping_none : (t : Token) (i : ℕ) (l : List (Option Found)) → Carry b p a t (get_or l i None) → Keeping b p a t i l l
  keeping_none t i l k = record { long = refl; here = k; others = λ j f. refl }

  pub keeping_set : (t : Token) (i : ℕ) (l l' : List (Option Found)) (f : Found) → l' ≡ set l i (Some f) → Raised b p a t f → Keeping b p a t i l l'
  keeping_set t i l l' f h k =
      record {
        long = ap length h ∙ length-set l i (Some f);
        here = rw h (go (ltb i (length l)) refl);
        others = λ j g. rw h (get_or-set_other l i j (Some f) None g);
      }
    where
      go : (z : Bool) → ltb i (length l) ≡ z → Carry b p a t (get_or (set l i (Some f)) i None)
      go true q = rw (get_or-set_same l i (Some f) None (ltb-true i (length l) q)) (raised_carry t f k)
      go false q =
          rw (get_or-eq_default (set l i (Some f)) None {n = i} (omega (arith, length-set l i (Some f), ltb-false i (length l) q))) tt

  -- ---- what is settled

  pub raised_none : (t : Token) (f : Found) → ((m : Lead) × f ≡ NoneNow m) ⊎ (f ≡ NoneEver) → Raised b p a t f → placeable b p a a.names 0 (triggered_in p t) ≡ false
  raised_none t f h k = ⊎_elim (λ q. now q.0 (rw q.1 at k)) (λ q. ever (rw q at k)) h
    where
      now : (m : Lead) → Raised b p a t (NoneNow m) → placeable b p a a.names 0 (triggered_in p t) ≡ false
      now m q = none_placed t q.1

      ever : Raised b p a t NoneEver → placeable b p a a.names 0 (triggered_in p t) ≡ false
      ever q = none_placed t (q.never t (later_same t))

  -- an alternative that has ended has no choice
  pub ended_none : (t : Token) (k : Option Found) → ended k ≡ true → Carry b p a t k → placeable b p a a.names 0 (triggered_in p t) ≡ false
  ended_none t None h k = absurd (false≢true h)
  ended_none t (Some (Open m)) h k = absurd (false≢true h)
  ended_none t (Some (NoneNow m)) h k = absurd (false≢true h)
  ended_none t (Some NoneEver) h k = none_placed t (k.never t (later_same t))

  -- ---- what raising begins with

  handed_started : (t : Token) (f : Found) → Carry b p a t (Some f) → Started b p a t (handed t f)
  handed_started t (Open m) k = going_on t m.times m.rests _ _ k refl refl
  handed_started t (NoneNow m) k = going_on t m.times m.rests _ _ k refl refl
  handed_started t NoneEver k = k

  pub started_kept : (t : Token) (k : Option Found) (f : Found) (o : Option Lead) → k ≡ Some f → Carry b p a t k → o ≡ handed t f → Started b p a t o
  started_kept t k f o h c q = rw q (handed_started t f (rw h at c))

  pub started_as : (t : Token) (o o' : Option Lead) → o ≡ o' → Started b p a t o' → Started b p a t o
  started_as t o o' h f = rw h f

  pub started_marks : (t : Token) (o : Option Lead) (m : Lead) → o ≡ Some m → Started b p a t o → Marked b p a t a.names m.times m.rests
  started_marks t o m h f = rw h at f

-- ---- what is kept of all alternatives

module _ (e : ℕ) (b p : List ℕ) (t : Token) where
  pub carried_base : (n at base : ℕ) (l : List (Option Found)) → at ≡ base → Carried e b p t n at l → Carried e b p t n base l
  carried_base n at base l h k = rw h at k

  -- what is kept of one alternative
  pub carried_at : (n base i : ℕ) (l : List (Option Found)) (a : Alternative) → i < n → a ≡ alternative_of e b (base + 4 * i) → Carried e b p t n base l
      → Carry b p a t (get_or l i None)
  carried_at n base i l a h ha k = rw ha (k.each i h)

  -- and it changes
  pub carried_next : (n base i : ℕ) (l l' : List (Option Found)) (a : Alternative) → a ≡ alternative_of e b (base + 4 * i) → Keeping b p a t i l l' → Carried e b p t n base l
      → Carried e b p t n base l'
  carried_next n base i l l' a ha s k = record { long = s.long ∙ k.long; each = λ j h. each j h (eqb j i) refl }
    where
      each : (j : ℕ) → j < n → (z : Bool) → eqb j i ≡ z → Carry b p (alternative_of e b (base + 4 * j)) t (get_or l' j None)
      each j h true q = rw (eqb-true j i q, ← ha) s.here
      each j h false q = rw (s.others j (eqb-false j i q)) (k.each j h)

  -- ---- the alternatives

  -- the alternative at a place is met
  unfoldable pub met_here : ℕ → Bool
  met_here at = alternative_met (ask_holds e b) (line_of p) (triggered_in p t) (alternative_at (places e) b at)

  -- placing its names decides
  pub alt_placed : (at : ℕ) (a : Alternative) (c : Choice) → a ≡ alternative_of e b at → c ≡ triggered_in p t → met_here at ≡ placeable b p a a.names 0 c
  unfolding met_here alternative_met alternative_at placeable asks_hold all_hold
  alt_placed at a c h same =
      rw (same, h, zero-mul 2, add-zero (alternative_of e b at).name)

  alt_step : (n base i : ℕ) (r : Bool) → i < n → met_here (base + 4 * i) ≡ r
      → met_at e b p t (n - i) (base + 4 * i) ≡ (r || met_at e b p t (n - (i + 1)) (base + 4 * (i + 1)))
  unfolding met_at met_here
  alt_step n base i r h q =
      let left : n - (i + 1) ≡ n - i - 1 = omega arith in
      let next : base + 4 * (i + 1) ≡ base + 4 * i + 4 = omega arith in
      rw (left, next) (run-any-step (alternative_met (ask_holds e b) (line_of p) (triggered_in p t)) (alternative_at (places e) b) 4 (n - i) (base + 4 * i) r (λ z. omega arith) (sym q))

  -- the alternatives from number i on are left, after those before it weren't met
  module _ (n at i : ℕ) (left : met_at e b p t n at ≡ met_at e b p t (n - i) (at + 4 * i)) where
    pub unmet_next : i < n → met_here (at + 4 * i) ≡ false → met_at e b p t n at ≡ met_at e b p t (n - (i + 1)) (at + 4 * (i + 1))
    unmet_next h q = left ∙ alt_step n at i false h q

    pub met_now : (base : ℕ) → i < n → at ≡ base → met_here (at + 4 * i) ≡ true → true ≡ met_at e b p t n base
    met_now base h s q = sym (rw (← s) (left ∙ alt_step n at i true h q))

    pub met_none : (base : ℕ) → n ≤ i → at ≡ base → met_at e b p t n base ≡ false
    unfolding met_at any run
    met_none base h s = rw (← s) (left ∙ rw none refl)
      where
        none : n - i ≡ 0
        none = omega arith
