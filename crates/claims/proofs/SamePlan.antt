-- A plan's faults 5 to 11 depend only on the book's variables and values: by two books that agree there it has the same. And a plan without
-- those faults has only tokens with a length. Assumes nothing.
use mathlib.Core.Path.{◌≡◌, refl, ap, fun_ext}
use mathlib.Core.Bool.{Bool, true, false, ◌&&◌, not, cond, true≢false}
use mathlib.Core.List.{List}
use Prim.Native.Nat.{ℕ, zero, suc, ◌+◌, ◌-◌, ◌*◌, ◌<◌}
use native.Mathlib.Nat.{add-zero}
use native.Mathlib.Omega.{arith}
use lib.Dec.{ltb, leb, eqb}
use borrow.Author.Tests.{ltb-true, leb-false, eqb-false}
use Rattle.answers.specs.Numbers.{no_fault}
use Rattle.answers.proofs.Stages.{stages}
use Rattle.words.specs.Words.{word}
use Rattle.words.specs.Lists.{All}
use Rattle.words.specs.Least.{Clear}
use Rattle.words.proofs.Least.{least_law, none_below}
use Rattle.layout.specs.Layout.{count, field, values_of}
use Rattle.layout.proofs.Tests.{not_so}
use Rattle.book.specs.Sound.{Sound}
use Rattle.book.proofs.Inside.{in_range}
use Rattle.lines.specs.Lines.{line_count, token_width, line_place, tokens_from, line_of, value_of, duration_of, start_of}
use Rattle.clock.specs.Clock.{last_tick}
use Rattle.lines.specs.Fault.{length_fault, head_wrong, head_fault, end_fault}
use Rattle.plan.proofs.Good.{outside_right}
use Rattle.lines.specs.Ends.{ends_fault}
use Rattle.plan.specs.Fault.{value_place, duration_outside, not_successor, token_fault, token_wrong, first_token, line_wrong, first_line, line_fault, tokens_fault, plan_fault}
use Rattle.claims.proofs.Laws.{least_agree}
use Rattle.claims.specs.Expansion.{Proper}
use Rattle.claims.specs.SamePlan.{SameVariables}

-- "each token is tested 8, 9, 10, 11": the fault by the four tests
abbrev fault_by : Bool → Bool → Bool → Bool → ℕ
fault_by t8 t9 t10 t11 = cond t8 8 (cond t9 9 (cond t10 10 (cond t11 11 0)))

-- a token without a fault passes each
passed : (t8 t9 t10 t11 : Bool) → not (eqb (fault_by t8 t9 t10 t11) 0) ≡ false → (t8 ≡ false) × (t9 ≡ false)
passed true t9 t10 t11 h = absurd (true≢false h)
passed false true t10 t11 h = absurd (true≢false h)
passed false false t10 t11 h = (refl, refl)

-- past a value that is unknown nothing is tested
fault_agree : (t8 t9 u9 t10 u10 t11 : Bool) → (t8 ≡ false → (t9 ≡ u9) × (t10 ≡ u10)) → fault_by t8 t9 t10 t11 ≡ fault_by t8 u9 u10 t11
fault_agree true t9 u9 t10 u10 t11 h = refl
fault_agree false t9 u9 t10 u10 t11 h = let q = h refl in rw (q.0, q.1)

-- a token without a fault has one of its variable's values, and a duration that is not outside that value's bounds
pub token_right : (b p : List ℕ) (v j : ℕ) → token_wrong b p v j ≡ false
    → (value_of p v j < values_of 1 b v) × (duration_outside b (value_place b v (value_of p v j)) (duration_of p v j) ≡ false)
unfolding token_wrong token_fault
token_right b p v j right =
    let x : ℕ = value_of p v j in
    let q = passed (leb (values_of 1 b v) x) (duration_outside b (value_place b v x) (duration_of p v j))
    (not (eqb j 0) && not_successor b (value_place b v (value_of p v (j - 1))) x) (ltb last_tick (start_of p v j + duration_of p v j)) right in
    (leb-false _ _ q.0, q.1)

module _ (b c : List ℕ) (same : SameVariables b c) (p : List ℕ) where
  module _ (v : ℕ) (l : v < count b 0) where
    duration_same : (x d : ℕ) → x < values_of 1 b v → duration_outside b (value_place b v x) d ≡ duration_outside c (value_place c v x) d
    unfolding duration_outside
    duration_same x d k =
        let first : word b (value_place b v x) ≡ word c (value_place c v x) = rw (add-zero (value_place b v x), add-zero (value_place c v x)) at (same.value v x l k 0 (omega arith)) in
        rw (first, same.value v x l k 1 (omega arith))

    successor_same : (x y : ℕ) → x < values_of 1 b v → not_successor b (value_place b v x) y ≡ not_successor c (value_place c v x) y
    unfolding not_successor
    successor_same x y k = rw (same.value v x l k 2 (omega arith))

    -- the test 10, where the tokens before have no fault, so that the value before is known
    after_same : (j x : ℕ) → Clear (token_wrong b p v) j
        → (not (eqb j 0) && not_successor b (value_place b v (value_of p v (j - 1))) x)
        ≡ (not (eqb j 0) && not_successor c (value_place c v (value_of p v (j - 1))) x)
    after_same zero x clear = refl
    after_same (suc i) x clear =
        let k : suc i - 1 ≡ i = omega arith in
        rw (k, successor_same (value_of p v i) x (token_right b p v i (clear i (omega arith))).0)

    -- so token j has the same fault
    token-same : (j : ℕ) → Clear (token_wrong b p v) j → token_fault b p v j ≡ token_fault c p v j
    unfolding token_fault
    token-same j clear =
        let x : ℕ = value_of p v j in
        rw (← same.values v l)
        (fault_agree (leb (values_of 1 b v) x) _ _ _ _ (ltb last_tick (start_of p v j + duration_of p v j))
        (λ e. (duration_same x (duration_of p v j) (leb-false _ _ e), after_same j x clear)))

    -- the first faulty token of a line is the same, and so is the line's fault
    tokens_same : first_token b p v ≡ first_token c p v
    unfolding first_token token_wrong
    tokens_same = least_agree (line_count p v) (token_wrong b p v) (token_wrong c p v) (λ j m clear. ap (λ (n : ℕ). not (eqb n 0)) (token-same j clear))

    line_same : line_wrong b p v ≡ line_wrong c p v
    unfolding line_wrong
    line_same = rw tokens_same

    fault-same : line_fault b p v ≡ line_fault c p v
    unfolding first_token
    fault-same = rw (token-same (first_token b p v) (least_law (line_count p v) (token_wrong b p v)).clear, tokens_same)

  -- and so is the first faulty line
  first-same : first_line b p ≡ first_line c p
  first-same = rw (← same.variables) (least_agree (count b 0) (line_wrong b p) (line_wrong c p) (λ v l clear. line_same v l))

  head-same : head_wrong b p ≡ head_wrong c p
  unfolding head_wrong
  head-same = fun_ext (λ k. rw same.variables)

  tokens_fault_same : tokens_fault b p ≡ tokens_fault c p
  unfolding tokens_fault
  tokens_fault_same = rw (← first-same, ← same.variables) (by (ltb (first_line b p) (count b 0)) refl)
    where
      by : (t : Bool) → ltb (first_line b p) (count b 0) ≡ t → cond t (line_fault b p (first_line b p)) no_fault ≡ cond t (line_fault c p (first_line b p)) no_fault
      by true e = fault-same (first_line b p) (ltb-true _ _ e)
      by false e = refl

  -- THE LAW: the same faults 5 to 11 and 18
  pub plan_same : plan_fault b p ≡ plan_fault c p
  unfolding plan_fault length_fault head_fault end_fault ends_fault
  plan_same = rw (same.variables, head-same, tokens_fault_same)

-- ---- a plan without the faults 5 to 11

module _ (b p : List ℕ) where
  -- a line that is wrong has a token with a fault
  line-fault : (v : ℕ) → line_wrong b p v ≡ true → (line_fault b p v).number ≡ 0 → ⊥
  unfolding line_wrong first_token token_wrong
  line-fault v e h =
      let here = (least_law (line_count p v) (token_wrong b p v)).here (ltb-true _ _ e) in
      eqb-false _ _ ((not_so (eqb (token_fault b p v (first_token b p v)) 0)).0 here) h

  -- so no token has one
  pub tokens_right : (plan_fault b p).number ≡ 0 → (v : ℕ) → v < count b 0 → (j : ℕ) → j < line_count p v → token_wrong b p v j ≡ false
  unfolding plan_fault tokens_fault line_wrong first_token
  tokens_right h v l =
      let s = ((stages (length_fault b p) _).0 h).1 in
      let f = ((stages (tokens_fault b p) (ends_fault b p)).0 ((stages (end_fault b p) _).0 ((stages (head_fault b p) _).0 s).1).1).0 in
      let line : line_wrong b p v ≡ false = (none_below (count b 0) (line_wrong b p)).0 (by _ refl f) v l in
      (none_below (line_count p v) (token_wrong b p v)).0 line
    where
      by : (t : Bool) → ltb (first_line b p) (count b 0) ≡ t → (cond t (line_fault b p (first_line b p)) no_fault).number ≡ 0 → ltb (first_line b p) (count b 0) ≡ false
      by true e f = absurd (line-fault (first_line b p) ((least_law (count b 0) (line_wrong b p)).here (ltb-true _ _ e)) f)
      by false e f = e

-- tokens with positive durations have a length
tokens_proper : (p : List ℕ) (n place start : ℕ)
    → ((j : ℕ) → j < n → 0 < word p (place + token_width p * j + 1)) → All Proper (tokens_from p n place start)
unfolding tokens_from
tokens_proper p zero place start h = tt
tokens_proper p (suc n) place start h =
    let w = token_width p in
    let first : place + w * 0 + 1 ≡ place + 1 = omega arith in
    let next : (j : ℕ) → place + w + w * j + 1 ≡ place + w * suc j + 1 = λ j. omega arith in
    let long : 0 < word p (place + 1) = rw first at (h 0 (omega arith)) in
    (omega arith, tokens_proper p n (place + w) _ (λ j l. rw (next j) (h (suc j) (omega arith))))

-- "durations are positive": each token of a plan without the faults 5 to 11 has a length
pub lines_proper : {e : ℕ} {b : List ℕ} → Sound e b → (p : List ℕ) → (plan_fault b p).number ≡ 0 → (v : ℕ) → v < count b 0 → All Proper (line_of p v)
unfolding line_of
lines_proper {e} {b} s p h v l =
    tokens_proper p (line_count p v) (line_place p v) 0
    (λ j m.
    let r = token_right b p v j (tokens_right b p h v l j m) in
    let i : ℕ = field e b 0 v 0 + value_of p v j in
    let some = (s.values i (in_range (s.variables v l) (value_of p v j) r.0)).durations.from in
    let least = ((outside_right b (value_place b v (value_of p v j)) (duration_of p v j)).0 r.1).0 in
    omega arith)
