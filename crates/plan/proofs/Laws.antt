-- How a line is judged token by token: what is known before token j (`Along`) holds at the start, goes on over a token without fault,
-- and at the first faulty token, or at the end, gives the line's answer. Then the lines. Assumes nothing.
use mathlib.Core.Path.{◌≡◌, refl, sym, ap, ◌∙◌}
use mathlib.Core.Bool.{Bool, true, false, cond}
use mathlib.Core.List.{List}
use Prim.Native.Nat.{ℕ, zero, suc, ◌+◌, ◌-◌, ◌*◌, ◌≤◌, ◌<◌}
use native.Mathlib.Numerals.{add-one}
use native.Mathlib.Omega.{arith}
use lib.Dec.{eqb}
use lib.ListN.{length}
use borrow.Author.Tests.{lt-ltb, le-ltb, ne_eqb}
use Rattle.words.specs.Words.{word}
use Rattle.words.specs.Least.{Clear}
use Rattle.words.proofs.Least.{clear_none, clear_more, least_at, least-end}
use Rattle.clock.specs.declared.Time.{Time}
use Rattle.std.specs.Prelude.{Option, Some, None, Ok, Err}
use Rattle.clock.specs.Clock.{last_tick, later}
use Rattle.clock.proofs.Laws.{past_is, at-is}
use Rattle.answers.specs.declared.Done.{Done}
use Rattle.answers.specs.declared.Refusal.{Refusal}
use Rattle.answers.specs.Numbers.{numbers, numbers_of, no_fault}
use Rattle.answers.proofs.Stages.{refused_number, done_number}
use Rattle.layout.specs.Layout.{count, values_of}
use Rattle.lines.specs.Lines.{line_count, token_width, line_place, value_of, duration_of, start_of}
use Rattle.lines.proofs.Width.{words_inside, width_few}
use Rattle.plan.specs.declared.Line.{Line}
use Rattle.plan.specs.declared.Value.{Value}
use Rattle.plan.specs.Fault.{outside_of, duration_outside, value_place, not_successor, token_fault, token_wrong, first_token, line_wrong, first_line, line_fault, tokens_fault}
use Rattle.plan.specs.Judge.{Constants, value_there, value_at, breaks_of, line_answer}
use Rattle.plan.proofs.Tokens.{unknown_at, outside_at, breaks_at, late_at, token-8, token-9, token-10, token-11, token-0, bad_token}

-- the successor set of the token before token j, or 0 before the first
pub set_before : List ℕ → List ℕ → ℕ → ℕ → ℕ
set_before b p v zero = 0
set_before b p v (suc j) = word b (value_place b v (value_of p v j) + 2)

-- what is known before token j: no token before it is faulty, where it starts, and what may stand there
pub record Along (b p : List ℕ) (v j start set : ℕ) : Type 0 where
  pub clear : Clear (token_wrong b p v) j
  pub starts : start ≡ start_of p v j
  pub follows : set ≡ set_before b p v j

module _ (b p : List ℕ) (v : ℕ) where
  -- what the code has of token j: value, duration, and what the book has of the value
  pub record Read (j x d : ℕ) (value : Option Value) : Type 0 where
    pub named : x ≡ value_of p v j
    pub duration : d ≡ duration_of p v j
    pub placed : value ≡ value_at b (values_of 1 b v) (value_place b v x) x

  -- before the first token
  pub along_none : Along b p v 0 0 0
  unfolding start_of set_before
  along_none = record { clear = clear_none _; starts = refl; follows = refl }

  pub read : (line : Line) → Constants b p v line → (w taken j x d : ℕ) (value : Option Value) → w ≡ token_width p → taken ≡ w * j
      → x ≡ word p (line.place + taken) → d ≡ word p (line.place + taken + 1)
      → value ≡ value_at b line.values (line.base + x * 3) x → Read j x d value
  read line k w taken j x d value ew et ex ed ev =
      let placed : line.base + x * 3 ≡ value_place b v x = omega (arith, k.base) in
      let here : line.place + taken ≡ line_place p v + token_width p * j = rw (et, ew, k.place) in
      record { named = ex ∙ rw here; duration = ed ∙ rw here; placed = ev ∙ rw (placed, k.values) }

  -- its words stand inside the plan
  pub words_there : (line : Line) → Constants b p v line → line_place p v + token_width p * line_count p v ≤ length p
      → (j w taken : ℕ) → j < line.tokens → w ≡ token_width p → taken ≡ w * j → line.place + taken + 1 < length p
  words_there line k inside j w taken l ew et =
      let own = words_inside (token_width p) j (line_count p v) (omega (arith, k.tokens)) in
      let here : taken ≡ token_width p * j = rw (et, ew) in
      omega (arith, k.place, (width_few p).0)

  -- which case of `value_at` it is says whether the variable lacks the value
  lacks : (t : Bool) (w : Value) → cond t None (Some w) ≡ None → t ≡ true
  lacks true w h = refl
  lacks false w h = cc

  has : (t : Bool) (w value : Value) → cond t None (Some w) ≡ Some value → (t ≡ false) × (value ≡ w)
  has true w value h = cc
  has false w value h = (refl, cc)

  -- the code's tests of token j are the definition's
  unknown-is : (j x d : ℕ) → Read j x d None → unknown_at b p v j ≡ true
  unknown-is j x d r = rw (← r.named) (lacks _ _ (sym r.placed))

  known-is : (j x d : ℕ) (value : Value) → Read j x d (Some value)
      → (unknown_at b p v j ≡ false) × (value ≡ value_there b (value_place b v (value_of p v j)))
  known-is j x d value r = rw (← r.named) (has _ _ _ (sym r.placed))

  outside-is : (j x d : ℕ) (value : Value) → Read j x d (Some value) → (t : Bool) → outside_of value.least value.greatest d ≡ t → outside_at b p v j ≡ t
  unfolding duration_outside
  outside-is j x d value r t e =
      let k = known-is j x d value r in
      rw (k.1, r.duration) at e

  breaks-is : (j start set : ℕ) → Along b p v j start set → (x : ℕ) → x ≡ value_of p v j → (t : Bool) → breaks_of (eqb j 0) set x ≡ t → breaks_at b p v j ≡ t
  unfolding breaks_of not_successor set_before
  breaks-is zero start set a x named t e = e
  breaks-is (suc j) start set a x named t e =
      let last : suc j - 1 ≡ j = omega arith in
      rw last (rw (a.follows, named) at e)

  -- the running start and what the time type adds to it: past the last tick, or the token's end
  late_is : (j start set : ℕ) → Along b p v j start set → (d : ℕ) → d ≡ duration_of p v j → later last_tick start d ≡ None → late_at b p v j ≡ true
  late_is j start set a d e h = rw (← a.starts, ← e) (past_is last_tick start d h)

  soon_is : (j start set : ℕ) → Along b p v j start set → (d : ℕ) → d ≡ duration_of p v j → (end : Time) → later last_tick start d ≡ Some end
      → (late_at b p v j ≡ false) × (end.tick ≡ start + d)
  soon_is j start set a d e end h =
      let q = at-is last_tick start d end h in
      (rw (← a.starts, ← e) q.0, q.1)

  -- a token with a fault is the first: nothing before it has one
  first-is : (j start set n number : ℕ) → Along b p v j start set → j < n → n ≡ line_count p v → token_fault b p v j ≡ suc number
      → numbers (suc number) v j ≡ line_answer b p v
  unfolding line_answer line_wrong first_token token_wrong
  first-is j start set n number a l e f =
      let here = least_at (line_count p v) (token_wrong b p v) j a.clear (omega arith) (rw (f, ne_eqb (suc number) 0 (omega arith))) in
      rw (← here, lt-ltb j (line_count p v) (omega arith), f)

  -- what is known at token j of a line of n
  module _ (j start set n x d : ℕ) (a : Along b p v j start set) (l : j < n) (e : n ≡ line_count p v) where
    pub first_unknown : Read j x d None → numbers 8 v j ≡ line_answer b p v
    first_unknown r = first-is j start set n 7 a l e (token-8 b p v j (unknown-is j x d r))

    module _ (value : Value) (r : Read j x d (Some value)) where
      known : (unknown_at b p v j ≡ false) × (value ≡ value_there b (value_place b v (value_of p v j)))
      known = known-is j x d value r

      pub first_outside : outside_of value.least value.greatest d ≡ true → numbers 9 v j ≡ line_answer b p v
      first_outside o = first-is j start set n 8 a l e (token-9 b p v j known.0 (outside-is j x d value r true o))

      module _ (o : outside_of value.least value.greatest d ≡ false) where
        pub first_breaks : breaks_of (eqb j 0) set x ≡ true → numbers 10 v j ≡ line_answer b p v
        first_breaks q =
            first-is j start set n 9 a l e
            (token-10 b p v j known.0 (outside-is j x d value r false o) (breaks-is j start set a x r.named true q))

        module _ (q : breaks_of (eqb j 0) set x ≡ false) where
          pub first_late : later last_tick start d ≡ None → numbers 11 v j ≡ line_answer b p v
          first_late h =
              first-is j start set n 10 a l e
              (token-11 b p v j known.0 (outside-is j x d value r false o) (breaks-is j start set a x r.named false q) (late_is j start set a d r.duration h))

          -- a token without fault is passed
          pub along_more : (end : Time) → later last_tick start d ≡ Some end → Along b p v (j + 1) end.tick value.next
          unfolding start_of set_before token_wrong
          along_more end h =
              let s = soon_is j start set a d r.duration end h in
              let none : token_fault b p v j ≡ 0 = token-0 b p v j known.0 (outside-is j x d value r false o) (breaks-is j start set a x r.named false q) s.0 in
              record {
                clear = clear_more _ j a.clear (rw none);
                starts = s.1 ∙ rw (add-one j, r.duration, a.starts);
                follows = ap (λ (w : Value). w.next) known.1 ∙ rw (add-one j);
              }

  -- the end is reached: nothing is faulty
  pub faultless : (j start set n : ℕ) → Along b p v j start set → j ≤ n → n ≤ j → n ≡ line_count p v → no_fault ≡ line_answer b p v
  unfolding line_answer line_wrong first_token
  faultless j start set n a l g e =
      let here = least-end (line_count p v) (token_wrong b p v) j a.clear (omega arith) (omega arith) in
      rw (← here, le-ltb j (line_count p v) (omega arith))

  -- a line without a fault is right, and one with a fault is wrong
  line-passed : (t : Bool) → line_wrong b p v ≡ t → (cond t (line_fault b p v) no_fault).number ≡ 0 → line_wrong b p v ≡ false
  line-passed true e z = absurd (bad_token b p v e z)
  line-passed false e z = e

  line-failed : (t : Bool) → line_wrong b p v ≡ t → ((cond t (line_fault b p v) no_fault).number ≡ 0 → ⊥) → line_wrong b p v ≡ true
  line-failed true e z = e
  line-failed false e z = absurd (z refl)

  pub line-done : (d : Done) → numbers_of (Ok d) ≡ line_answer b p v → line_wrong b p v ≡ false
  unfolding line_answer
  line-done d h = line-passed (line_wrong b p v) refl (done_number d _ h)

  -- line v is the first that is wrong
  pub line-refused : (n : ℕ) (r : Refusal) → Clear (line_wrong b p) v → v < n → n ≡ count b 0 → numbers_of (Err r) ≡ line_answer b p v
      → numbers_of (Err r) ≡ tokens_fault b p
  unfolding line_answer tokens_fault
  line-refused n r h l e q =
      let w = line-failed (line_wrong b p v) refl (refused_number r _ q) in
      let here : v ≡ first_line b p = least_at (count b 0) (line_wrong b p) v h (omega arith) w in
      q ∙ rw (← here, lt-ltb v (count b 0) (omega arith), w)

-- there are no more lines, and each is right
pub none_faulty : (b p : List ℕ) (n : ℕ) → Clear (line_wrong b p) n → n ≡ count b 0 → no_fault ≡ tokens_fault b p
unfolding tokens_fault
none_faulty b p n h e =
    let here : n ≡ first_line b p = least-end (count b 0) (line_wrong b p) n h (omega arith) (omega arith) in
    rw (← here, le-ltb n (count b 0) (omega arith))
