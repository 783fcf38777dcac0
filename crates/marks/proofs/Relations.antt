-- What a set of relations tells at the marks: if each relation of the set needs a later right token than the marked one, so does every choice;
-- and likewise for the left. A relation's condition names pairs of ends; those that are to grow apart tell a side. Assumes nothing.
use mathlib.Core.Path.{◌≡◌, refl, sym, ◌∙◌}
use mathlib.Core.Bool.{Bool, true, false, ◌&&◌, ◌||◌, not, false≢true}
use mathlib.Core.Logic.{◌⊎◌, inl, inr, ⊎_elim}
use mathlib.Core.List.{List, [], ◌∷◌}
use Prim.Native.Nat.{ℕ, zero, suc, ◌+◌, ◌≤◌, ◌<◌}
use native.Mathlib.Omega.{arith}
use lib.Dec.{leb, ltb, eqb}
use lib.ListN.{length, get_or, drop, drop_of_length-le}
use lib.Seq.{drop-cons}
use native.Mathlib.Numerals.{add-one}
use borrow.Author.Tests.{ltb-true, ltb-false, leb-true, eqb-true}
use Rattle.words.specs.Words.{word, in_set}
use Rattle.words.specs.Least.{first}
use Rattle.words.proofs.Laws.{first_word}
use Rattle.book.specs.Rules.{constraint_at}
use Rattle.allen.specs.Relation.{conditions, relation_of}
use Rattle.choice.specs.Met.{Choice, token_time, time_of, constraint_holds}
use Rattle.choice.specs.Asked.{ask_holds}
use Rattle.std.specs.Prelude.{Option, Some}
use Rattle.marks.specs.Marked.{needs_right, needs_left, all_need, Grown, Ahead, Told, whose, ask_at}
use Rattle.marks.proofs.Sides.{both_true, told_name, ahead_whose, whose_few}

or_one : (a b : Bool) → (a || b) ≡ true → (a ≡ true) ⊎ (b ≡ true)
or_one true b h = inl refl
or_one false b h = inr h

-- whether those from number k on need it
module _ (set k : ℕ) (ns : List Bool) where
  from_here : k < length ns → all_need set k (drop k ns) ≡ ((not (in_set set k) || get_or ns k false) && all_need set (k + 1) (drop (k + 1) ns))
  unfolding all_need
  from_here h = rw (drop-cons ns k false h, add-one k)

  pub need_next : (all r : Bool) → k < length ns → r ≡ in_set set k
      → (all && all_need set k (drop k ns)) ≡ ((all && (not r || get_or ns k false)) && all_need set (k + 1) (drop (k + 1) ns))
  need_next true r h q = rw q (from_here h)
  need_next false r h q = refl

  pub need_none : (all : Bool) → length ns ≤ k → (all && all_need set k (drop k ns)) ≡ all
  unfolding all_need
  need_none true h = rw (drop_of_length-le ns h)
  need_none false h = refl

-- what all of a set need, each of it needs
each_needs : (set i : ℕ) (ns : List Bool) → all_need set i ns ≡ true → (k x : ℕ) → k < length ns → x ≡ i + k → in_set set x ≡ true → get_or ns k false ≡ true
unfolding all_need
each_needs set i [] h k x l q m = absurd (omega arith)
each_needs set i (n ∷ ns) h zero x l q m =
    let here : x ≡ i = omega arith in
    must (in_set set i) n (both_true (not (in_set set i) || n) _ h).0 (rw here at m)
  where
    must : (a n : Bool) → (not a || n) ≡ true → a ≡ true → n ≡ true
    must true n h g = h
    must false n h g = absurd (false≢true g)
each_needs set i (n ∷ ns) h (suc k) x l q m = each_needs set (suc i) ns (both_true (not (in_set set i) || n) _ h).1 k x (omega arith) (omega arith) m

-- the first condition that holds, holds
first_holds : (l : List Bool) → first (λ (h : Bool). h) l < length l → get_or l (first (λ (h : Bool). h) l) false ≡ true
unfolding first
first_holds [] h = absurd (omega arith)
first_holds (true ∷ l) h = refl
first_holds (false ∷ l) h = first_holds l (omega arith)

first_few : (l : List Bool) → first (λ (h : Bool). h) l ≤ length l
unfolding first
first_few [] = omega arith
first_few (true ∷ l) = omega arith
first_few (false ∷ l) = omega (arith, first_few l)

-- s..e and s'..e' are the tokens at the marks, S..E and S'..E' those of a choice, none earlier
module _ (s e s' e' S E S' E' : ℕ) (ls : s ≤ S) (le : e ≤ E) (ls' : s' ≤ S') (le' : e' ≤ E') where
  -- the right one isn't later: then no relation that needs it holds
  right_not : (k : ℕ) → S' ≤ s' → E' ≤ e' → get_or (conditions S E S' E') k false ≡ true → get_or (needs_right s e s' e') k false ≡ true → ⊥
  right_not zero a b c n = omega (arith, ltb-true E S' c, leb-true s' e n)
  right_not (suc zero) a b c n = omega (arith, eqb-true E S' c, ltb-true s' e n)
  right_not (suc (suc zero)) a b c n =
      let h = both_true (ltb S S') _ c in
      ⊎_elim (λ q. omega (arith, ltb-true S S' h.0, leb-true s' s q)) (λ q. omega (arith, ltb-true E E' (both_true (ltb S' E) _ h.1).1, leb-true e' e q)) (or_one (leb s' s) _ n)
  right_not (suc (suc (suc zero))) a b c n =
      let h = both_true (ltb S S') _ c in
      ⊎_elim (λ q. omega (arith, ltb-true S S' h.0, leb-true s' s q)) (λ q. omega (arith, eqb-true E E' h.1, ltb-true e' e q)) (or_one (leb s' s) _ n)
  right_not (suc (suc (suc (suc zero)))) a b c n = omega (arith, ltb-true S S' (both_true (ltb S S') _ c).0, leb-true s' s n)
  right_not (suc (suc (suc (suc (suc zero))))) a b c n =
      let h = both_true (eqb S S') _ c in
      ⊎_elim (λ q. omega (arith, eqb-true S S' h.0, ltb-true s' s q)) (λ q. omega (arith, ltb-true E E' h.1, leb-true e' e q)) (or_one (ltb s' s) _ n)
  right_not (suc (suc (suc (suc (suc (suc zero)))))) a b c n =
      let h = both_true (eqb S S') _ c in
      ⊎_elim (λ q. omega (arith, eqb-true S S' h.0, ltb-true s' s q)) (λ q. omega (arith, eqb-true E E' h.1, ltb-true e' e q)) (or_one (ltb s' s) _ n)
  right_not (suc (suc (suc (suc (suc (suc (suc zero))))))) a b c n = omega (arith, eqb-true S S' (both_true (eqb S S') _ c).0, ltb-true s' s n)
  right_not (suc (suc (suc (suc (suc (suc (suc (suc zero)))))))) a b c n = omega (arith, ltb-true E E' (both_true (ltb S' S) _ c).1, leb-true e' e n)
  right_not (suc (suc (suc (suc (suc (suc (suc (suc (suc zero))))))))) a b c n = omega (arith, eqb-true E E' (both_true (ltb S' S) _ c).1, ltb-true e' e n)
  right_not (suc (suc (suc (suc (suc (suc (suc (suc (suc (suc zero)))))))))) a b c n =
      omega (arith, ltb-true S E' (both_true (ltb S E') _ (both_true (ltb S' S) _ c).1).0, leb-true e' s n)
  right_not (suc (suc (suc (suc (suc (suc (suc (suc (suc (suc (suc zero))))))))))) a b c n = omega (arith, eqb-true E' S c, ltb-true e' s n)
  right_not (suc (suc (suc (suc (suc (suc (suc (suc (suc (suc (suc (suc k)))))))))))) a b c n = absurd (none k n)
    where
      none : (k : ℕ) → get_or (false ∷ false ∷ []) k false ≡ true → ⊥
      none zero h = false≢true h
      none (suc zero) h = false≢true h
      none (suc (suc k)) h = false≢true h

  -- nor that needs the left one
  left_not : (k : ℕ) → S ≤ s → E ≤ e → get_or (conditions S E S' E') k false ≡ true → get_or (needs_left s e s' e') k false ≡ true → ⊥
  left_not zero a b c n = false≢true n
  left_not (suc zero) a b c n = omega (arith, eqb-true E S' c, ltb-true e s' n)
  left_not (suc (suc zero)) a b c n = omega (arith, ltb-true S' E (both_true (ltb S' E) _ (both_true (ltb S S') _ c).1).0, leb-true e s' n)
  left_not (suc (suc (suc zero))) a b c n = omega (arith, eqb-true E E' (both_true (ltb S S') _ c).1, ltb-true e e' n)
  left_not (suc (suc (suc (suc zero)))) a b c n = omega (arith, ltb-true E' E (both_true (ltb S S') _ c).1, leb-true e e' n)
  left_not (suc (suc (suc (suc (suc zero))))) a b c n = omega (arith, eqb-true S S' (both_true (eqb S S') _ c).0, ltb-true s s' n)
  left_not (suc (suc (suc (suc (suc (suc zero)))))) a b c n =
      let h = both_true (eqb S S') _ c in
      ⊎_elim (λ q. omega (arith, eqb-true S S' h.0, ltb-true s s' q)) (λ q. omega (arith, eqb-true E E' h.1, ltb-true e e' q)) (or_one (ltb s s') _ n)
  left_not (suc (suc (suc (suc (suc (suc (suc zero))))))) a b c n =
      let h = both_true (eqb S S') _ c in
      ⊎_elim (λ q. omega (arith, eqb-true S S' h.0, ltb-true s s' q)) (λ q. omega (arith, ltb-true E' E h.1, leb-true e e' q)) (or_one (ltb s s') _ n)
  left_not (suc (suc (suc (suc (suc (suc (suc (suc zero)))))))) a b c n = omega (arith, ltb-true S' S (both_true (ltb S' S) _ c).0, leb-true s s' n)
  left_not (suc (suc (suc (suc (suc (suc (suc (suc (suc zero))))))))) a b c n =
      let h = both_true (ltb S' S) _ c in
      ⊎_elim (λ q. omega (arith, ltb-true S' S h.0, leb-true s s' q)) (λ q. omega (arith, eqb-true E E' h.1, ltb-true e e' q)) (or_one (leb s s') _ n)
  left_not (suc (suc (suc (suc (suc (suc (suc (suc (suc (suc zero)))))))))) a b c n =
      let h = both_true (ltb S' S) _ c in
      ⊎_elim (λ q. omega (arith, ltb-true S' S h.0, leb-true s s' q)) (λ q. omega (arith, ltb-true E' E (both_true (ltb S E') _ h.1).1, leb-true e e' q)) (or_one (leb s s') _ n)
  left_not (suc (suc (suc (suc (suc (suc (suc (suc (suc (suc (suc zero))))))))))) a b c n = omega (arith, eqb-true E' S c, ltb-true s e' n)
  left_not (suc (suc (suc (suc (suc (suc (suc (suc (suc (suc (suc (suc zero)))))))))))) a b c n = omega (arith, ltb-true E' S c, leb-true s e' n)
  left_not (suc (suc (suc (suc (suc (suc (suc (suc (suc (suc (suc (suc (suc k))))))))))))) a b c n = absurd (none k n)
    where
      none : (k : ℕ) → get_or (false ∷ []) k false ≡ true → ⊥
      none zero h = false≢true h
      none (suc k) h = false≢true h

  -- a set of which each relation needs the right one later, with the choice's relation in it
  module _ (set : ℕ) (ns : List Bool) (ln : length ns ≡ 14) (in-set : in_set set (relation_of S E S' E') ≡ true) (need : all_need set 0 ns ≡ true) where
    needed : get_or ns (relation_of S E S' E') false ≡ true
    unfolding relation_of
    needed =
        let few : first (λ (h : Bool). h) (conditions S E S' E') ≤ 13 = first_few (conditions S E S' E') in
        each_needs set 0 ns need (relation_of S E S' E') (relation_of S E S' E') (omega (arith, ln, few)) (omega arith) in-set

  holds_or : (get_or (conditions S E S' E') (relation_of S E S' E') false ≡ true) ⊎ (relation_of S E S' E' ≡ 13)
  unfolding relation_of
  holds_or = go (ltb (first (λ (h : Bool). h) (conditions S E S' E')) 13) refl
    where
      go : (z : Bool) → ltb (first (λ (h : Bool). h) (conditions S E S' E')) 13 ≡ z
          → (get_or (conditions S E S' E') (first (λ (h : Bool). h) (conditions S E S' E')) false ≡ true) ⊎ (first (λ (h : Bool). h) (conditions S E S' E') ≡ 13)
      go true q = inl (first_holds (conditions S E S' E') (ltb-true _ 13 q))
      go false q =
          let few : first (λ (h : Bool). h) (conditions S E S' E') ≤ 13 = first_few (conditions S E S' E') in
          inr (omega (arith, ltb-false (first (λ (h : Bool). h) (conditions S E S' E')) 13 q, few))

  pub right_later : (set : ℕ) → in_set set (relation_of S E S' E') ≡ true → all_need set 0 (needs_right s e s' e') ≡ true → (s' < S') ⊎ (e' < E')
  right_later set m need = go (ltb s' S') refl (ltb e' E') refl
    where
      go : (x : Bool) → ltb s' S' ≡ x → (y : Bool) → ltb e' E' ≡ y → (s' < S') ⊎ (e' < E')
      go true q y r = inl (ltb-true s' S' q)
      go false q true r = inr (ltb-true e' E' r)
      go false q false r =
          let n = needed set (needs_right s e s' e') refl m need in
          ⊎_elim (λ h. absurd (right_not (relation_of S E S' E') (ltb-false s' S' q) (ltb-false e' E' r) h n)) (λ h. absurd (false≢true (rw h at n))) holds_or

  pub left-later : (set : ℕ) → in_set set (relation_of S E S' E') ≡ true → all_need set 0 (needs_left s e s' e') ≡ true → (s < S) ⊎ (e < E)
  left-later set m need = go (ltb s S) refl (ltb e E) refl
    where
      go : (x : Bool) → ltb s S ≡ x → (y : Bool) → ltb e E ≡ y → (s < S) ⊎ (e < E)
      go true q y r = inl (ltb-true s S q)
      go false q true r = inr (ltb-true e E r)
      go false q false r =
          let n = needed set (needs_left s e s' e') refl m need in
          ⊎_elim (λ h. absurd (left_not (relation_of S E S' E') (ltb-false s S q) (ltb-false e E r) h n)) (λ h. absurd (false≢true (rw h at n))) holds_or

-- ---- the constraint at a place

module _ (e : ℕ) (b : List ℕ) (c : Choice) (n k l r set : ℕ) (book : e ≡ 2) (hl : l ≡ word b (k + 0)) (hr : r ≡ word b (k + 1)) (hs : set ≡ word b (k + 2)) where
  holds : (d : Choice) → ask_at e b k d ≡ true → in_set set (relation_of (token_time d 0 l) (token_time d 1 l) (token_time d 0 r) (token_time d 1 r)) ≡ true
  unfolding ask_at ask_holds constraint_holds constraint_at
  holds d w = rw (hl, first_word b k, hr, hs) (rw book at w)

  ahead_token : (d : Choice) → Grown n c d → (x : ℕ) → (token_time c 0 x < token_time d 0 x) ⊎ (token_time c 1 x < token_time d 1 x) → Ahead c d (whose 0 x n)
  unfolding time_of whose
  ahead_token d g x o = ⊎_elim (λ q. ahead_whose n c d g 0 x (omega arith) q) (λ q. ahead_whose n c d g 1 x (omega arith) q) o

  module _ (sl el sr er : ℕ) (h0 : sl ≡ token_time c 0 l) (h1 : el ≡ token_time c 1 l) (h2 : sr ≡ token_time c 0 r) (h3 : er ≡ token_time c 1 r) (f : Bool) (y : ℕ) where
    pub told_set_right : f ≡ all_need set 0 (needs_right sl el sr er) → f ≡ true → y ≡ whose 0 r n → Told c n (Some y) (ask_at e b k)
    told_set_right hf need hy =
        rw hy
        (told_name c n (ask_at e b k) (whose 0 r n)
        (record {
          few = whose_few 0 r n;
          ahead =
              λ d g w. ahead_token d g r
              (right_later (token_time c 0 l) (token_time c 1 l) (token_time c 0 r) (token_time c 1 r) (token_time d 0 l) (token_time d 1 l) (token_time d 0 r) (token_time d 1 r)
              (g.later 0 l (omega arith)) (g.later 1 l (omega arith)) (g.later 0 r (omega arith)) (g.later 1 r (omega arith)) set (holds d w) (rw (h0, h1, h2, h3) at (sym hf ∙ need)));
        }))

    pub told-set-left : f ≡ all_need set 0 (needs_left sl el sr er) → f ≡ true → y ≡ whose 0 l n → Told c n (Some y) (ask_at e b k)
    told-set-left hf need hy =
        rw hy
        (told_name c n (ask_at e b k) (whose 0 l n)
        (record {
          few = whose_few 0 l n;
          ahead =
              λ d g w. ahead_token d g l
              (left-later (token_time c 0 l) (token_time c 1 l) (token_time c 0 r) (token_time c 1 r) (token_time d 0 l) (token_time d 1 l) (token_time d 0 r) (token_time d 1 r)
              (g.later 0 l (omega arith)) (g.later 1 l (omega arith)) (g.later 0 r (omega arith)) (g.later 1 r (omega arith)) set (holds d w) (rw (h0, h1, h2, h3) at (sym hf ∙ need)));
        }))

-- an ask of a sheet
pub told_edition : (e : ℕ) (b : List ℕ) (c : Choice) (n k : ℕ) (r : Option ℕ) → e ≡ 2 → Told c n r (ask_at 2 b k) → Told c n r (ask_at e b k)
told_edition e b c n k r h t = rw h t
