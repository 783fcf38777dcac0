-- The stages of the fault table's rows 1 to 7, opened: each gives its fault, or nothing, just where the plain facts say so. Assumes nothing.
use mathlib.Core.Path.{◌≡◌, refl, sym, ap, ◌∙◌}
use mathlib.Core.Bool.{Bool, true, false, ◌||◌, not, cond, true≢false, false≢true}
use mathlib.Core.Logic.{◌↔◌, ◌⊎◌, inl, inr, ⊎_elim}
use mathlib.Core.List.{List}
use Prim.Native.Nat.{ℕ, ◌+◌, ◌*◌, ◌≤◌, ◌<◌}
use native.Mathlib.Omega.{arith}
use lib.Dec.{ltb, eqb}
use lib.ListN.{length}
use borrow.Author.Tests.{ltb-true, ltb-false, lt-ltb, le-ltb, eqb-true, eqb-false}
use Rattle.answers.specs.declared.Numbers.{Numbers}
use Rattle.answers.specs.Numbers.{numbers_at, numbers, no_fault}
use Rattle.answers.proofs.Stages.{stages}
use Rattle.layout.specs.Layout.{count, ending, header_wrong}
use Rattle.book.specs.Fault.{lowest, table_wrong, told_word}
use Rattle.book.specs.Fault as book
use Rattle.layout.proofs.Tests.{or_right}
use Rattle.book.proofs.Good.{good, good_back, no_number}
use Rattle.book.specs.Sound.{Sound}
use Rattle.book.proofs.Sound.{sound, sound_back}
use Rattle.lines.specs.Lines.{token_width, line_of}
use Rattle.lines.specs.Ends.{line_end, plan_end, ends_apart, first_apart, ends_fault}
use Rattle.plan.specs.Fault as plan
use Rattle.lines.specs.Good.{HeadGood}
use Rattle.lines.proofs.Head.{head_good, head_back}
use Rattle.claims.specs.Wrongs.{First, None, BookSized, HeaderWrong, TableGood, TableBad, PlanSized, HeadWrong, EndsApart}
use Rattle.claims.proofs.WrongTests.{or_so, none_is, first-is, header_iff, head_iff}
use Rattle.claims.proofs.RecordTests.{table_good, table_bad}

-- ---- a stage opened

module _ (n : ℕ) (some : 1 ≤ n) where
  -- the fault is given where the test holds
  pub given-at : (t : Bool) (x y z a c d : ℕ)
      → (cond t (numbers_at n x y z) no_fault ≡ numbers_at n a c d) ↔ ((t ≡ true) × (x ≡ a) × (y ≡ c) × (z ≡ d))
  given-at true x y z a c d = (
    λ e. (refl, ap (λ (r : Numbers). r.a) e, ap (λ (r : Numbers). r.b) e, ap (λ (r : Numbers). r.c) e),
    λ h. rw (h.1, h.2, h.3),
  )
  given-at false x y z a c d = (λ e. let w = ap (λ (r : Numbers). r.number) e in absurd (omega arith), λ h. absurd (false≢true h.0))

  pub given : (t : Bool) (x y a c : ℕ) → (cond t (numbers n x y) no_fault ≡ numbers n a c) ↔ ((t ≡ true) × (x ≡ a) × (y ≡ c))
  given t x y a c =
      let g = given-at t x y 0 a c 0 in
      (λ e. let q = g.0 e in (q.0, q.1, q.2), λ h. g.1 (h.0, h.1, h.2, refl))

  pub not-given : (t : Bool) (x y : ℕ) → ((cond t (numbers n x y) no_fault).number ≡ 0) ↔ (t ≡ false)
  not-given true x y = (λ h. absurd (omega arith), λ h. absurd (true≢false h))
  not-given false x y = (λ h. refl, λ h. refl)

  -- the same of a stage that asks for an end
  pub missed : (x y : ℕ) → (cond (eqb x y) no_fault (numbers n 0 0) ≡ numbers n 0 0) ↔ (x ≡ y → ⊥)
  missed x y = by (eqb x y) refl
    where
      by : (t : Bool) → eqb x y ≡ t → (cond t no_fault (numbers n 0 0) ≡ numbers n 0 0) ↔ (x ≡ y → ⊥)
      by true e = (λ h. let z = ap (λ (r : Numbers). r.number) h in absurd (omega arith), λ h. absurd (h (eqb-true _ _ e)))
      by false e = (λ h. eqb-false _ _ e, λ h. refl)

  reached : (x y : ℕ) → ((cond (eqb x y) no_fault (numbers n 0 0)).number ≡ 0) ↔ (x ≡ y)
  reached x y = by (eqb x y) refl
    where
      by : (t : Bool) → eqb x y ≡ t → ((cond t no_fault (numbers n 0 0)).number ≡ 0) ↔ (x ≡ y)
      by true e = (λ h. eqb-true _ _ e, λ h. refl)
      by false e = (λ h. absurd (omega arith), λ h. absurd (eqb-false _ _ e h))

  -- and of one that asks for a length
  pub outside : (l lo hi : ℕ) → (cond (ltb l lo || ltb hi l) (numbers n 0 0) no_fault ≡ numbers n 0 0) ↔ ((l < lo) ⊎ (hi < l))
  outside l lo hi =
      let g = given (ltb l lo || ltb hi l) 0 0 0 0 in
      let o = or_so (ltb l lo) (ltb hi l) in (
        λ e. ⊎_elim (λ q. inl (ltb-true _ _ q)) (λ q. inr (ltb-true _ _ q)) (o.0 (g.0 e).0),
        λ h. g.1 (o.1 (⊎_elim (λ q. inl (lt-ltb _ _ q)) (λ q. inr (lt-ltb _ _ q)) h), refl, refl),
      )

  inside : (l lo hi : ℕ) → ((cond (ltb l lo || ltb hi l) (numbers n 0 0) no_fault).number ≡ 0) ↔ ((lo ≤ l) × (l ≤ hi))
  inside l lo hi =
      let g = not-given (ltb l lo || ltb hi l) 0 0 in
      let o = or_right (ltb l lo) (ltb hi l) in (
        λ e. let q = o.0 (g.0 e) in (ltb-false _ _ q.0, ltb-false _ _ q.1),
        λ h. g.1 (o.1 (le-ltb _ _ h.0, le-ltb _ _ h.1)),
      )

-- ---- the stages of a book and of a plan, in plain facts

module _ (e : ℕ) (b : List ℕ) where
  -- 1 to 4 found nothing
  pub sized_none : ((book.length_fault b).number ≡ 0) ↔ BookSized b
  unfolding book.length_fault
  sized_none = inside 1 (omega arith) (length b) 14 16384

  pub header-none : ((book.header_fault e b).number ≡ 0) ↔ None 14 (HeaderWrong e b)
  unfolding book.header_fault
  header-none =
      let g = not-given 2 (omega arith) (ltb (book.first_header e b) 14) (book.first_header e b) 0 in
      let n = none_is 14 (header_wrong e b) (HeaderWrong e b) (header_iff e b) in
      (λ h. n.0 (g.0 h), λ h. g.1 (n.1 h))

  pub end_none : ((book.end_fault e b).number ≡ 0) ↔ (ending e b 5 ≡ length b)
  unfolding book.end_fault
  end_none = reached 3 (omega arith) (ending e b 5) (length b)

  -- the four of a book found nothing: it is sound
  pub book_none : ((book.book_fault e b).number ≡ 0) ↔ Sound e b
  book_none = (
    λ h. sound e b (good e b (no_number e b h)),
    λ s. ap (λ (r : Numbers). r.number) (good_back e b (sound_back e b s)),
  )

  -- and what else is known beside it
  pub with_book : {R : Type 0}
      → (((book.length_fault b).number ≡ 0) × (((book.header_fault e b).number ≡ 0) × (((book.end_fault e b).number ≡ 0) × (((book.record_fault e b).number ≡ 0) × R))))
      ↔ (Sound e b × R)
  unfolding book.book_fault
  with_book = (
    λ h. (book_none.0 ((stages _ _).1 (h.0, (stages _ _).1 (h.1.0, (stages _ _).1 (h.1.1.0, h.1.1.1.0)))), h.1.1.1.1),
    λ h.
        let s = (stages _ _).0 (book_none.1 h.0) in
        let t = (stages _ _).0 s.1 in
        let u = (stages _ _).0 t.1 in
        (s.0, (t.0, (u.0, (u.1, h.1)))),
  )

  -- 2 and 4 found this
  pub header_is : (k : ℕ) → (book.header_fault e b ≡ numbers 2 k 0) ↔ First 14 (HeaderWrong e b) k
  unfolding book.header_fault
  header_is k =
      let g = given 2 (omega arith) (ltb (book.first_header e b) 14) (book.first_header e b) 0 k 0 in
      let f = first-is 14 (header_wrong e b) (HeaderWrong e b) (header_iff e b) k in
      (λ h. let q = g.0 h in f.0 (q.0, q.1), λ h. let q = f.1 h in g.1 (q.0, q.1, refl))

  pub record_is : (t i j : ℕ)
      → (book.record_fault e b ≡ numbers_at 4 t i j) ↔ ((t < 6) × ((u : ℕ) → u < t → TableGood e b u) × TableBad e b t i j)
  unfolding book.record_fault
  record_is t i j =
      let word : ℕ → ℕ = λ u. told_word e b u (lowest e b u) in
      let g = given-at 4 (omega arith) (ltb (book.first_table e b) 6) (book.first_table e b) (lowest e b (book.first_table e b)) (word (book.first_table e b)) t i j in
      let f = first-is 6 (table_wrong e b) (λ u. table_wrong e b u ≡ true) (λ u. (λ h. h, λ h. h)) t in
      let right : (u : ℕ) → u < 6 → (table_wrong e b u ≡ true → ⊥) ↔ TableGood e b u = λ u k. (
        λ n. (table_good e b u k).0 (fails (table_wrong e b u) n),
        λ s h. true≢false (sym h ∙ (table_good e b u k).1 s),
      ) in (
        λ h.
            let q = g.0 h in
            let r = f.0 (q.0, q.1) in
            let l = r.below in (
              l,
              λ u k. (right u (omega arith)).0 (r.before u k),
              (table_bad e b t l i j).0 (r.here, ap (lowest e b) (sym q.1) ∙ q.2, ap word (sym q.1) ∙ q.3),
            ),
        λ h.
            let l = h.0 in
            let w = (table_bad e b t l i j).1 h.2 in
            let q = f.1 (record { below = l; here = w.0; before = λ u k. (right u (omega arith)).1 (h.1 u k) }) in
            g.1 (q.0, q.1, ap (lowest e b) q.1 ∙ w.1, ap word q.1 ∙ w.2),
      )
    where
      fails : (x : Bool) → (x ≡ true → ⊥) → x ≡ false
      fails true n = absurd (n refl)
      fails false n = refl

-- a line ends elsewhere: the test says just that
apart_iff : (p : List ℕ) (v : ℕ) → (ends_apart p v ≡ true) ↔ EndsApart p v
unfolding ends_apart
apart_iff p v = by (eqb (line_end (line_of p v)) (plan_end (line_of p))) refl
  where
    by : (t : Bool) → eqb (line_end (line_of p v)) (plan_end (line_of p)) ≡ t → (not t ≡ true) ↔ EndsApart p v
    by true e = (λ h. absurd (false≢true h), λ h. absurd (h (eqb-true _ _ e)))
    by false e = (λ h. eqb-false _ _ e, λ h. refl)

module _ (b p : List ℕ) where
  -- 5 to 7 found nothing
  pub plan_sized : ((plan.length_fault b p).number ≡ 0) ↔ PlanSized b p
  unfolding plan.length_fault
  plan_sized = inside 5 (omega arith) (length p) (3 + 2 * count b 0) 16384

  pub head-none : ((plan.head_fault b p).number ≡ 0) ↔ HeadGood b p
  unfolding plan.head_fault
  head-none =
      let g = not-given 6 (omega arith) (ltb (plan.first_head b p) (3 + 2 * count b 0)) (plan.first_head b p) 0 in
      let n = none_is (3 + 2 * count b 0) (plan.head_wrong b p) (λ k. plan.head_wrong b p k ≡ true) (λ k. (λ h. h, λ h. h)) in (
        λ h. head_good b p (λ k l. fails (plan.head_wrong b p k) (n.0 (g.0 h) k l)),
        λ s. g.1 (n.1 (λ k l q. true≢false (sym q ∙ head_back b p s k l))),
      )
    where
      fails : (x : Bool) → (x ≡ true → ⊥) → x ≡ false
      fails true n = absurd (n refl)
      fails false n = refl

  pub plan_ends : ((plan.end_fault b p).number ≡ 0) ↔ (3 + 2 * count b 0 + token_width p * plan.sum_before p (count b 0) ≡ length p)
  unfolding plan.end_fault
  plan_ends = reached 7 (omega arith) (3 + 2 * count b 0 + token_width p * plan.sum_before p (count b 0)) (length p)

  -- 18 found nothing, and this
  pub ends-none : ((ends_fault b p).number ≡ 0) ↔ None (count b 0) (EndsApart p)
  unfolding ends_fault
  ends-none =
      let g = not-given 18 (omega arith) (ltb (first_apart b p) (count b 0)) (first_apart b p) 0 in
      let n = none_is (count b 0) (ends_apart p) (EndsApart p) (apart_iff p) in
      (λ h. n.0 (g.0 h), λ h. g.1 (n.1 h))

  pub ends_is : (v : ℕ) → (ends_fault b p ≡ numbers 18 v 0) ↔ First (count b 0) (EndsApart p) v
  unfolding ends_fault
  ends_is v =
      let g = given 18 (omega arith) (ltb (first_apart b p) (count b 0)) (first_apart b p) 0 v 0 in
      let f = first-is (count b 0) (ends_apart p) (EndsApart p) (apart_iff p) v in
      (λ h. let q = g.0 h in f.0 (q.0, q.1), λ h. let q = f.1 h in g.1 (q.0, q.1, refl))

  -- 6 found this
  pub head-is : (k : ℕ) → (plan.head_fault b p ≡ numbers 6 k 0) ↔ First (3 + 2 * count b 0) (HeadWrong b p) k
  unfolding plan.head_fault
  head-is k =
      let g = given 6 (omega arith) (ltb (plan.first_head b p) (3 + 2 * count b 0)) (plan.first_head b p) 0 k 0 in
      let f = first-is (3 + 2 * count b 0) (plan.head_wrong b p) (HeadWrong b p) (head_iff b p) k in
      (λ h. let q = g.0 h in f.0 (q.0, q.1), λ h. let q = f.1 h in g.1 (q.0, q.1, refl))
