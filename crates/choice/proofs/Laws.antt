-- Laws of choices and of records one behind another, in the words of the code: a count that is no `suc`, and results with what contracts
-- say of them. Each stands over plain variables, so that a proof cites it in one line. Assumes nothing.
use mathlib.Core.Path.{◌≡◌, refl, sym, ◌∙◌}
use mathlib.Core.Bool.{Bool, true, ◌&&◌, ◌||◌}
use mathlib.Core.List.{List, [], ◌∷◌}
use Prim.Native.Nat.{ℕ, zero, suc, ◌+◌, ◌-◌, ◌*◌, ◌^◌, ◌≤◌, ◌<◌}
use native.Mathlib.Nat.{mul-le-mul}
use native.Mathlib.Omega.{arith}
use native.Mathlib.Numerals.{sub-one}
use lib.Dec.{eqb}
use lib.ListN.{length, get_or, set, length-set}
use borrow.Author.Tests.{ne_eqb}
use lib.Seq.{get_or-set_same, get_or-set_other, set_out}
use Rattle.words.specs.Words.{word, in_set}
use Rattle.words.specs.Lists.{any, all}
use Rattle.words.specs.Runs.{run}
use Rattle.words.proofs.Laws.{first_word}
use Rattle.clock.specs.declared.Time.{Time}
use Rattle.clock.specs.Clock.{at, no_limit, in_bounds}
use Rattle.layout.specs.Layout.{fifth_width}
use Rattle.book.specs.Rules.{atom_at, constraint_at}
use Rattle.lines.specs.declared.Token.{Token}
use Rattle.allen.specs.Relation.{relation_of}
use Rattle.choice.specs.declared.Alternative.{Alternative}
use Rattle.choice.specs.Met.{Choice, end_place, time_place, job_place, put, token_time, token_job, end_time, time_of, bounds_hold, atom_holds, constraint_holds}
use Rattle.choice.specs.Exists.{chosen}
use Rattle.choice.specs.Asked.{ask_holds, all_hold, ask_passes, hold_so_far}

-- ---- a test of the records of any table

module _ {A : Type 0} (p : A → Bool) (f : ℕ → A) (w n at : ℕ) where
  pub run-all-step : (r : Bool) → (n ≡ 0 → ⊥) → r ≡ p (f at) → all p (run f w n at) ≡ (r && all p (run f w (n - 1) (at + w)))
  unfolding all run
  run-all-step r h q = rw q (step n h)
    where
      step : (n : ℕ) → (n ≡ 0 → ⊥) → all p (run f w n at) ≡ (p (f at) && all p (run f w (n - 1) (at + w)))
      step zero h = absurd (h refl)
      step (suc n) h = simp sub-one

  pub run-any-step : (r : Bool) → (n ≡ 0 → ⊥) → r ≡ p (f at) → any p (run f w n at) ≡ (r || any p (run f w (n - 1) (at + w)))
  unfolding any run
  run-any-step r h q = rw q (step n h)
    where
      step : (n : ℕ) → (n ≡ 0 → ⊥) → any p (run f w n at) ≡ (p (f at) || any p (run f w (n - 1) (at + w)))
      step zero h = absurd (h refl)
      step (suc n) h = simp sub-one

-- a number of records of table 5, in words
pub scaled : (w x : ℕ) → w < 8 → x < 2 ^ 32 → w * x < 2 ^ 35
scaled w x h k =
    let l : w ≤ 7 = omega arith in
    let g : x ≤ 2 ^ 32 = omega arith in
    omega (arith, mul-le-mul l g)

-- ---- what an alternative asks

-- six words of an atom and the times of its terms, as they were read
pub atom_is : (b : List ℕ) (c : Choice) (k w0 w1 w2 w3 w4 w5 : ℕ) (left right : Time) (r : Bool) → w0 ≡ word b (k + 0) → w1 ≡ word b (k + 1) → left ≡ at (time_of c w0 w1)
    → w2 ≡ word b (k + 2) → w3 ≡ word b (k + 3) → right ≡ at (time_of c w2 w3) → w4 ≡ word b (k + 4) → w5 ≡ word b (k + 5)
    → r ≡ in_bounds no_limit left.tick right.tick w4 w5 → r ≡ bounds_hold c (atom_at b k)
unfolding bounds_hold atom_at
atom_is b c k w0 w1 w2 w3 w4 w5 left right r h0 h1 l h2 h3 q h4 h5 h = let first = h0 ∙ first_word b k in cc

-- an atom of jobs, or another
pub atom_jobs : (b : List ℕ) (c : Choice) (k w x y l r : ℕ) → w ≡ word b (k + 0) → w ≡ 4 → x ≡ word b (k + 1) → y ≡ word b (k + 3) → l ≡ token_job c x → r ≡ token_job c y
    → eqb l r ≡ atom_holds c (atom_at b k)
unfolding atom_holds atom_at
atom_jobs b c k w x y l r hw four hx hy hl hr = rw (sym (hw ∙ first_word b k) ∙ four, hl, hr, hx, hy)

pub atom_bounds : (b : List ℕ) (c : Choice) (k w : ℕ) (r : Bool) → w ≡ word b (k + 0) → (w ≡ 4 → ⊥) → r ≡ bounds_hold c (atom_at b k) → r ≡ atom_holds c (atom_at b k)
unfolding atom_holds atom_at
atom_bounds b c k w r hw ne q = rw (ne_eqb (word b k) 4 (λ f. ne (hw ∙ first_word b k ∙ f))) q

-- three words of a constraint and the times of its tokens, as they were read
pub constraint_is : (b : List ℕ) (c : Choice) (k x y q s e s2 e2 n : ℕ) (r : Bool) → x ≡ word b (k + 0) → y ≡ word b (k + 1)
    → s ≡ token_time c 0 x → e ≡ token_time c 1 x → s2 ≡ token_time c 0 y → e2 ≡ token_time c 1 y → n ≡ relation_of s e s2 e2
    → q ≡ word b (k + 2) → r ≡ in_set q n → r ≡ constraint_holds c (constraint_at b k)
unfolding constraint_holds constraint_at
constraint_is b c k x y q s e s2 e2 n r hx hy hs he hs2 he2 hn hq h = let first = hx ∙ first_word b k in cc

module _ (e : ℕ) (b : List ℕ) (c : Choice) where
  pub all_none : (n at : ℕ) → n ≡ 0 → all_hold e b c n at ≡ true
  unfolding all_hold all run
  all_none n at h = rw h

  pub all-step : (n at w : ℕ) (r : Bool) → (n ≡ 0 → ⊥) → w ≡ fifth_width e → r ≡ ask_holds e b c at → all_hold e b c n at ≡ (r && all_hold e b c (n - 1) (at + w))
  unfolding all_hold
  all-step n at w r h q a = rw q (run-all-step (ask_holds e b c) (λ k. k) (fifth_width e) n at r h a)

module _ (b : List ℕ) (a : Alternative) (c : Choice) (j : ℕ) where
  pub so_far_none : (n at : ℕ) → n ≡ 0 → hold_so_far b a c j n at ≡ true
  unfolding hold_so_far all run
  so_far_none n at h = rw h

  pub so_far_step : (n at w : ℕ) (r : Bool) → (n ≡ 0 → ⊥) → w ≡ fifth_width a.edition → r ≡ ask_passes b a c j at
      → hold_so_far b a c j n at ≡ (r && hold_so_far b a c j (n - 1) (at + w))
  unfolding hold_so_far
  so_far_step n at w r h q f = rw q (run-all-step (ask_passes b a c j) (λ k. k) (fifth_width a.edition) n at r h f)

  -- from ask i on
  pub so_far_next : (n at w i : ℕ) (r : Bool) → i < n → w ≡ fifth_width a.edition → r ≡ ask_passes b a c j (at + i * w)
      → hold_so_far b a c j (n - i) (at + i * w) ≡ (r && hold_so_far b a c j (n - (i + 1)) (at + (i + 1) * w))
  so_far_next n at w i r h q f =
      let left : (n - i) - 1 ≡ n - (i + 1) = omega arith in
      let place : at + i * w + w ≡ at + (i + 1) * w = omega arith in
      rw (← left, ← place) (so_far_step (n - i) (at + i * w) w r (λ z. omega arith) q f)

-- ---- the times of a choice

-- inside a list what stands for the elements past its end doesn't count
pub inside : (l : List ℕ) (i d d' : ℕ) → i < length l → get_or l i d ≡ get_or l i d'
inside [] i d d' h = absurd (omega arith)
inside (x ∷ xs) zero d d' h = refl
inside (x ∷ xs) (suc i) d d' h = inside xs i d d' (omega arith)

-- what is put for name number k
module _ (r : Choice) (k a z j : ℕ) where
  abbrev one : Choice
  one = set r (time_place 0 k) a

  abbrev two : Choice
  two = set one (time_place 1 k) z

  -- another place
  put-at : (i d : ℕ) → (time_place 0 k ≡ i → ⊥) → (time_place 1 k ≡ i → ⊥) → (job_place k ≡ i → ⊥) → get_or (put r k a z j) i d ≡ get_or r i d
  unfolding put
  put-at i d f g h =
      get_or-set_other two (job_place k) i j d (λ q. h (sym q)) ∙ get_or-set_other one (time_place 1 k) i z d (λ q. g (sym q))
      ∙ get_or-set_other r (time_place 0 k) i a d (λ q. f (sym q))

  pub put_first : job_place k < length r → token_time (put r k a z j) 0 k ≡ a
  unfolding token_time put
  put_first h =
      get_or-set_other two (job_place k) (time_place 0 k) j 0 (λ q. omega arith) ∙ get_or-set_other one (time_place 1 k) (time_place 0 k) z 0 (λ q. omega arith)
      ∙ get_or-set_same r (time_place 0 k) a 0 (omega arith)

  pub put_second : job_place k < length r → token_time (put r k a z j) 1 k ≡ z
  unfolding token_time put
  put_second h =
      get_or-set_other two (job_place k) (time_place 1 k) j 1 (λ q. omega arith)
      ∙ get_or-set_same one (time_place 1 k) z 1 (rw length-set (omega arith))

  pub put_third : job_place k < length r → token_job (put r k a z j) k ≡ j
  unfolding token_job put
  put_third h = get_or-set_same two (job_place k) j 0 (rw (length-set one (time_place 1 k) z, length-set r (time_place 0 k) a) h)

  pub put_else : (kind x : ℕ) → kind < 2 → (x ≡ k → ⊥) → token_time (put r k a z j) kind x ≡ token_time r kind x
  unfolding token_time
  put_else kind x l f = put-at (time_place kind x) kind (λ q. f (omega arith)) (λ q. f (omega arith)) (λ q. f (omega arith))

  pub put-job : (x : ℕ) → (x ≡ k → ⊥) → token_job (put r k a z j) x ≡ token_job r x
  unfolding token_job
  put-job x f = put-at (job_place x) 0 (λ q. f (omega arith)) (λ q. f (omega arith)) (λ q. f (omega arith))

  pub put-end : end_time (put r k a z j) ≡ end_time r
  unfolding end_time
  put-end = put-at end_place 0 (λ q. omega arith) (λ q. omega arith) (λ q. omega arith)

  -- past the fourth name nothing is put
  pub put_out : length r ≤ time_place 0 k → put r k a z j ≡ r
  unfolding put
  put_out h = rw (set_out r (time_place 0 k) a h, set_out r (time_place 1 k) z (omega arith)) (set_out r (job_place k) j (omega arith))

  pub put-long : length (put r k a z j) ≡ length r
  unfolding put
  put-long = simp length-set

-- the times of the names before number k stay as they are when tokens are put for the others
pub chosen-before : (c : Choice) (k : ℕ) (ts : List Token) (kind x : ℕ) → kind < 2 → x < k → token_time (chosen c k ts) kind x ≡ token_time c kind x
unfolding chosen
chosen-before c k [] kind x l h = refl
chosen-before c k (t ∷ ts) kind x l h =
    chosen-before (put c k t.start.tick t.end.tick t.job) (k + 1) ts kind x l (omega arith)
    ∙ put_else c k t.start.tick t.end.tick t.job kind x l (λ q. omega arith)

-- so do their jobs,
pub chosen-job : (c : Choice) (k : ℕ) (ts : List Token) (x : ℕ) → x < k → token_job (chosen c k ts) x ≡ token_job c x
unfolding chosen
chosen-job c k [] x h = refl
chosen-job c k (t ∷ ts) x h =
    chosen-job (put c k t.start.tick t.end.tick t.job) (k + 1) ts x (omega arith)
    ∙ put-job c k t.start.tick t.end.tick t.job x (λ q. omega arith)

-- and the end of the plan
pub chosen-end : (c : Choice) (k : ℕ) (ts : List Token) → end_time (chosen c k ts) ≡ end_time c
unfolding chosen
chosen-end c k [] = refl
chosen-end c k (t ∷ ts) =
    chosen-end (put c k t.start.tick t.end.tick t.job) (k + 1) ts ∙ put-end c k t.start.tick t.end.tick t.job

-- a choice is as long as it was
pub chosen-long : (c : Choice) (k : ℕ) (ts : List Token) → length (chosen c k ts) ≡ length c
unfolding chosen
chosen-long c k [] = refl
chosen-long c k (t ∷ ts) =
    chosen-long (put c k t.start.tick t.end.tick t.job) (k + 1) ts ∙ put-long c k t.start.tick t.end.tick t.job
