-- What can be tested before all names have their tokens: with all of them placed it is all that is asked, and before that no choice goes on
-- from times for which it fails, since the times that it names stay as they are. Assumes nothing.
use mathlib.Core.Path.{◌≡◌, refl, sym, ap, ◌∙◌}
use mathlib.Core.Bool.{Bool, true, false, ◌&&◌, ◌||◌, not, cond, false≢true}
use mathlib.Core.Logic.{inl, inr, ⊎_elim}
use mathlib.Core.List.{List}
use Rattle.std.specs.Prelude.{Option, Some, None}
use Prim.Native.Nat.{ℕ, zero, suc, ◌+◌, ◌-◌, ◌*◌, ◌≤◌, ◌<◌}
use native.Mathlib.Omega.{arith}
use lib.Dec.{eqb, leb, ltb}
use lib.ListN.{length}
use borrow.Author.Tests.{ltb-true, ltb-false, leb-true, lt-ltb, le-ltb, le-leb, eqb-true, eqb-false, ne_eqb}
use Rattle.words.specs.Words.{word}
use Rattle.words.specs.Lists.{all}
use Rattle.words.specs.Runs.{run}
use Rattle.words.proofs.Laws.{first_word}
use Rattle.layout.specs.Layout.{fifth_width}
use Rattle.book.specs.Rules.{name_at, atom_at, constraint_at}
use Rattle.lines.specs.Lines.{line_of}
use Rattle.choice.specs.declared.Alternative.{Alternative}
use Rattle.choice.specs.Met.{Choice, choice_size, put, token_time, token_job, end_time, time_of, bounds_hold, atom_holds, constraint_holds, place}
use Rattle.choice.specs.Exists.{chosen}
use Rattle.choice.specs.Asked.{ask_holds, all_hold, asks_hold, placeable, term_placed, terms_placed, ask_placed, ask_passes, hold_so_far, TiedAt, Tied}
use Rattle.choice.proofs.Laws.{so_far_step, put_third, put-job, chosen-before, chosen-job, chosen-end}
use Rattle.choice.proofs.Exists.{placed_of}

both : (a b : Bool) → (a && b) ≡ true → (a ≡ true) × (b ≡ true)
both true b h = (refl, h)
both false b h = absurd (false≢true h)

-- ---- one ask, as the code tests it

pub placed_terms : (b : List ℕ) (at j x y u v : ℕ) (f g : Bool) → x ≡ word b (at + 0) → u ≡ word b (at + 1) → f ≡ term_placed x u j → y ≡ word b (at + 2)
    → v ≡ word b (at + 3) → g ≡ term_placed y v j → (f && g) ≡ terms_placed b at j
unfolding terms_placed
placed_terms b at j x y u v f g hx hu hf hy hv hg = rw (hf, hg, hx, first_word b at, hu, hy, hv)

module _ (e : ℕ) (b : List ℕ) (at j : ℕ) (r : Bool) where
  pub placed_sheet : (x y : ℕ) → e ≡ 2 → x ≡ word b (at + 0) → y ≡ word b (at + 1) → r ≡ (leb x j && leb y j) → r ≡ ask_placed e b at j
  unfolding ask_placed
  placed_sheet x y h hx hy q = rw (h, q, hx, first_word b at, hy)

  pub placed_jobs : (w x y : ℕ) → (e ≡ 2 → ⊥) → w ≡ word b (at + 0) → w ≡ 4 → x ≡ word b (at + 1) → y ≡ word b (at + 3) → r ≡ (leb x j && leb y j) → r ≡ ask_placed e b at j
  unfolding ask_placed
  placed_jobs w x y h hw four hx hy q = rw (ne_eqb e 2 h, ← (hw ∙ first_word b at), four, q, hx, hy)

  pub placed_book : (w : ℕ) → (e ≡ 2 → ⊥) → w ≡ word b (at + 0) → (w ≡ 4 → ⊥) → r ≡ terms_placed b at j → r ≡ ask_placed e b at j
  unfolding ask_placed
  placed_book w h hw ne q = rw (ne_eqb e 2 h, ← (hw ∙ first_word b at), ne_eqb w 4 ne) q

module _ (b : List ℕ) (a : Alternative) (c : Choice) (j at : ℕ) (r : Bool) where
  pub passes-last : a.names ≤ j → r ≡ ask_holds a.edition b c at → r ≡ ask_passes b a c j at
  unfolding ask_passes
  passes-last h q = rw (le-ltb j a.names h) q

  pub passes_placed : (f : Bool) → f ≡ ask_placed a.edition b at j → f ≡ true → r ≡ ask_holds a.edition b c at → r ≡ ask_passes b a c j at
  unfolding ask_passes
  passes_placed f hf h q = rw (← hf, h) (go (ltb j a.names))
    where
      go : (t : Bool) → r ≡ (t && not true || ask_holds a.edition b c at)
      go true = q
      go false = q

  pub passes_yet : (f : Bool) → j < a.names → f ≡ ask_placed a.edition b at j → f ≡ false → true ≡ ask_passes b a c j at
  unfolding ask_passes
  passes_yet f l hf h = rw (lt-ltb j a.names l, ← hf, h)

-- ---- with all names placed

module _ (b : List ℕ) (a : Alternative) (c : Choice) (j : ℕ) (last : a.names ≤ j) where
  passes-all : (at : ℕ) → ask_passes b a c j at ≡ ask_holds a.edition b c at
  unfolding ask_passes
  passes-all at = rw (le-ltb j a.names last)

  all-passes : (m at : ℕ) → hold_so_far b a c j m at ≡ all_hold a.edition b c m at
  unfolding hold_so_far all_hold all run
  all-passes zero at = refl
  all-passes (suc m) at = rw (passes-all at, all-passes m (at + fifth_width a.edition))

  pub so_far_all : hold_so_far b a c j a.asks a.ask ≡ asks_hold b a c
  unfolding asks_hold
  so_far_all = all-passes a.asks a.ask

-- ---- before that

module _ (c d : Choice) (j : ℕ) (last : end_time d ≡ end_time c) (same : (kind x : ℕ) → kind < 2 → x ≤ j → token_time d kind x ≡ token_time c kind x)
    (job : (x : ℕ) → x ≤ j → token_job d x ≡ token_job c x) where
  -- a term that is placed
  term-same : (kind x : ℕ) → term_placed kind x j ≡ true → time_of d kind x ≡ time_of c kind x
  unfolding term_placed time_of
  term-same kind x h = go (eqb kind 2) (eqb kind 3) (ltb kind 2) refl (leb x j) refl h
    where
      go : (f e g : Bool) → ltb kind 2 ≡ g → (l : Bool) → leb x j ≡ l → ((f || e) || (g && l)) ≡ true
          → cond f x (cond e (end_time d) (token_time d kind x)) ≡ cond f x (cond e (end_time c) (token_time c kind x))
      go true e g _ l _ h = refl
      go false true g _ l _ h = last
      go false false true q true r h = same kind x (ltb-true kind 2 q) (leb-true x j r)
      go false false true q false r h = absurd (false≢true h)
      go false false false q l r h = absurd (false≢true h)

  token-same : (x : ℕ) → leb x j ≡ true → (token_time d 0 x ≡ token_time c 0 x) × (token_time d 1 x ≡ token_time c 1 x)
  token-same x h = (same 0 x (omega arith) (leb-true x j h), same 1 x (omega arith) (leb-true x j h))

  -- so an ask that is placed holds for both or for neither
  ask_same : (e : ℕ) (b : List ℕ) (at : ℕ) → ask_placed e b at j ≡ true → ask_holds e b d at ≡ ask_holds e b c at
  unfolding ask_placed terms_placed ask_holds atom_holds bounds_hold constraint_holds atom_at constraint_at
  ask_same e b at h = go (eqb e 2) (eqb (word b at) 4) h
    where
      go : (f g : Bool)
          → cond f (leb (word b at) j && leb (word b (at + 1)) j) (cond g (leb (word b (at + 1)) j && leb (word b (at + 3)) j) (terms_placed b at j)) ≡ true
          → cond f (constraint_holds d (constraint_at b at)) (cond g (eqb (token_job d (word b (at + 1))) (token_job d (word b (at + 3)))) (bounds_hold d (atom_at b at)))
          ≡ cond f (constraint_holds c (constraint_at b at)) (cond g (eqb (token_job c (word b (at + 1))) (token_job c (word b (at + 3)))) (bounds_hold c (atom_at b at)))
      go true g h =
          let p = both (leb (word b at) j) _ h in
          let l = token-same (word b at) p.0 in
          let r = token-same (word b (at + 1)) p.1 in
          rw (l.0, l.1, r.0, r.1)
      go false true h =
          let p = both (leb (word b (at + 1)) j) _ h in
          rw (job (word b (at + 1)) (leb-true _ j p.0), job (word b (at + 3)) (leb-true _ j p.1))
      go false false h =
          let p = both (term_placed (word b at) (word b (at + 1)) j) _ h in
          rw (term-same (word b at) (word b (at + 1)) p.0, term-same (word b (at + 2)) (word b (at + 3)) p.1)

  module _ (b : List ℕ) (a : Alternative) (more : j < a.names) where
    passes_must : (at : ℕ) → ask_holds a.edition b d at ≡ true → ask_passes b a c j at ≡ true
    unfolding ask_passes
    passes_must at h = rw (lt-ltb j a.names more) (go (ask_placed a.edition b at j) refl)
      where
        go : (g : Bool) → ask_placed a.edition b at j ≡ g → (not g || ask_holds a.edition b c at) ≡ true
        go true q = sym (ask_same a.edition b at q) ∙ h
        go false q = refl

    all_must : (m at : ℕ) → all_hold a.edition b d m at ≡ true → hold_so_far b a c j m at ≡ true
    unfolding all_hold hold_so_far all run
    all_must zero at h = refl
    all_must (suc m) at h =
        let p = both (ask_holds a.edition b d at) _ h in
        rw (passes_must at p.0, all_must m (at + fifth_width a.edition) p.1)

-- no choice goes on from times for which it fails
pub so_far_fails : (b p : List ℕ) (a : Alternative) (n j : ℕ) (c : Choice) → j < a.names → hold_so_far b a c j a.asks a.ask ≡ false
    → placeable b p a n j c ≡ false
unfolding placeable asks_hold
so_far_fails b p a n j c more fails = go (place (line_of p) (asks_hold b a) (run (name_at b) 2 n (a.name + j * 2)) (j + 1) c) refl
  where
    go : (t : Bool) → place (line_of p) (asks_hold b a) (run (name_at b) 2 n (a.name + j * 2)) (j + 1) c ≡ t → place (line_of p) (asks_hold b a) (run (name_at b) 2 n (a.name + j * 2)) (j + 1) c ≡ false
    go false h = h
    go true h =
        let q = placed_of (line_of p) (asks_hold b a) (run (name_at b) 2 n (a.name + j * 2)) (j + 1) c h in
        let d = chosen c (j + 1) q.0 in
        let must = all_must c d j (chosen-end c (j + 1) q.0) (λ kind x k l. chosen-before c (j + 1) q.0 kind x k (omega arith))
        (λ x l. chosen-job c (j + 1) q.0 x (omega arith)) b a more a.asks a.ask q.1.pass in
        absurd (false≢true (sym fails ∙ must))

-- ---- a name that is tied to a job

-- the asks that are left pass if all do
pub record Rests (b : List ℕ) (a : Alternative) (k left at : ℕ) : Type 0 where
  pub on : (d : Choice) → hold_so_far b a d k a.asks a.ask ≡ true → hold_so_far b a d k left at ≡ true

module _ (b : List ℕ) (a : Alternative) (k : ℕ) where
  pub rests_all : (left at : ℕ) → a.asks ≡ left → a.ask ≡ at → Rests b a k left at
  rests_all left at p q = rw (← p, ← q) (record { on = λ d h. h })

  first_passes : (d : Choice) (left at : ℕ) → (left ≡ 0 → ⊥) → Rests b a k left at → hold_so_far b a d k a.asks a.ask ≡ true
      → (ask_passes b a d k at ≡ true) × (hold_so_far b a d k (left - 1) (at + fifth_width a.edition) ≡ true)
  first_passes d left at some f h =
      both _ _ (sym (so_far_step b a d k left at (fifth_width a.edition) (ask_passes b a d k at) some refl refl) ∙ f.on d h)

  pub rests_next : (left at : ℕ) → (a.edition ≡ 2 → ⊥) → (left ≡ 0 → ⊥) → Rests b a k left at → Rests b a k (left - 1) (at + 6)
  unfolding fifth_width
  rests_next left at ne some f =
      record { on = λ d h. let q = (first_passes d left at some f h).1 in rw (ne_eqb a.edition 2 ne) at q }

  pub rests_after : (n at i : ℕ) → (a.edition ≡ 2 → ⊥) → i < n → Rests b a k (n - i) (at + i * 6) → Rests b a k (n - (i + 1)) (at + (i + 1) * 6)
  rests_after n at i ne l f =
      let left : (n - i) - 1 ≡ n - (i + 1) = omega arith in
      let place : at + i * 6 + 6 ≡ at + (i + 1) * 6 = omega arith in
      rw (← left, ← place) (rests_next (n - i) (at + i * 6) ne (λ z. omega arith) f)

  -- an atom of jobs that ties the name
  module _ (c : Choice) (tied : Option ℕ) (ne : a.edition ≡ 2 → ⊥) (few : k ≤ 4) where
    tie_passes : (d : Choice) (at : ℕ) → word b at ≡ 4 → word b (at + 1) ≤ k → word b (at + 3) ≤ k → ask_passes b a d k at ≡ true
        → token_job d (word b (at + 1)) ≡ token_job d (word b (at + 3))
    unfolding ask_passes ask_placed ask_holds atom_holds atom_at
    tie_passes d at four x y h =
        eqb-true _ _
        (last (ltb k a.names) _
        (rw (ne_eqb a.edition 2 ne, four, le-leb (word b (at + 1)) k x, le-leb (word b (at + 3)) k y) at h))
      where
        last : (s t : Bool) → (s && false || t) ≡ true → t ≡ true
        last true t h = h
        last false t h = h

    pub tie_here : (left at : ℕ) → (left ≡ 0 → ⊥) → Rests b a k left at → TiedAt b c k at tied → Tied b a c k tied
    tie_here left at some f t = record { only = λ job yea long start end other h. here job yea long start end other (first_passes (put c k start end other) left at some f h).0 }
      where
        here : (job : ℕ) → tied ≡ Some job → length c ≡ choice_size → (start end other : ℕ) → ask_passes b a (put c k start end other) k at ≡ true → other ≡ job
        here job yea long start end other h =
            ⊎_elim
            (λ q.
            let p = tie_passes (put c k start end other) at (t.jobs job yea) (omega (arith, q.0)) (omega (arith, q.1)) h in
            let own = put_third c k start end other (omega (arith, long)) in
            let old = put-job c k start end other (word b (at + 3)) (λ e. omega (arith, q.1)) in
            sym own ∙ ap (token_job (put c k start end other)) (sym q.0) ∙ p ∙ old ∙ sym q.2)
            (λ q.
            let p = tie_passes (put c k start end other) at (t.jobs job yea) (omega (arith, q.1)) (omega (arith, q.0)) h in
            let own = put_third c k start end other (omega (arith, long)) in
            let old = put-job c k start end other (word b (at + 1)) (λ e. omega (arith, q.1)) in
            sym own ∙ ap (token_job (put c k start end other)) (sym q.0) ∙ sym p ∙ old ∙ sym q.2)
            (t.other job yea)

  pub tie_none : (c : Choice) → Tied b a c k None
  tie_none c = record { only = λ job h long start end other k. cc }

-- the words of an atom of jobs, as they were read
module _ (b : List ℕ) (c : Choice) (k at w x y job : ℕ) (hw : w ≡ word b (at + 0)) (four : w ≡ 4) (hx : x ≡ word b (at + 1)) (hy : y ≡ word b (at + 3)) where
  pub tie_left : (eqb x k && ltb y k) ≡ true → job ≡ token_job c y → TiedAt b c k at (Some job)
  tie_left h q =
      let p = both (eqb x k) _ h in
      record { jobs = λ _ _. sym (hw ∙ first_word b at) ∙ four; other = λ asked e. let same : asked ≡ job = cc in rw (← hx, ← hy) (inl (eqb-true x k p.0, ltb-true y k p.1, same ∙ q)) }

  pub tie_right : (eqb y k && ltb x k) ≡ true → job ≡ token_job c x → TiedAt b c k at (Some job)
  tie_right h q =
      let p = both (eqb y k) _ h in
      record { jobs = λ _ _. sym (hw ∙ first_word b at) ∙ four; other = λ asked e. let same : asked ≡ job = cc in rw (← hx, ← hy) (inr (eqb-true y k p.0, ltb-true x k p.1, same ∙ q)) }

pub untied : (b : List ℕ) (c : Choice) (k at : ℕ) → TiedAt b c k at None
untied b c k at = record { jobs = λ job h. cc; other = λ job h. cc }

-- a book's names, of which there are four
pub tie_asked : (e k : ℕ) → (eqb e 2 || ltb 4 k) ≡ false → (e ≡ 2 → ⊥) × (k ≤ 4)
tie_asked e k h = split (eqb e 2) (ltb 4 k) refl refl h
  where
    split : (s t : Bool) → eqb e 2 ≡ s → ltb 4 k ≡ t → (s || t) ≡ false → (e ≡ 2 → ⊥) × (k ≤ 4)
    split true t p q h = absurd (false≢true (sym h))
    split false true p q h = absurd (false≢true (sym h))
    split false false p q h = (eqb-false e 2 p, ltb-false 4 k q)
