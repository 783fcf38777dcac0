-- When a line ends, as the sum of its durations; and answer 18 or none, from a pass over the lines. Assumes nothing.
use mathlib.Core.Path.{◌≡◌, sym, ◌∙◌}
use mathlib.Core.Bool.{true, false}
use mathlib.Core.List.{List}
use Prim.Native.Nat.{ℕ, zero, suc, ◌+◌, ◌<◌}
use native.Mathlib.Nat.{add-zero, zero-add}
use native.Mathlib.Numerals.{add-one}
use native.Mathlib.Omega.{arith}
use borrow.Author.Tests.{lt-ltb, le-ltb, eq-eqb, ne_eqb}
use Rattle.answers.specs.Numbers.{numbers, no_fault}
use Rattle.words.specs.Words.{word}
use Rattle.words.specs.Least.{Clear}
use Rattle.words.proofs.Least.{least_at, least-end}
use Rattle.lines.specs.Lines.{line_count, token_width, line_place, duration_of, start_of, tokens_from, line_of}
use Rattle.lines.proofs.Laws.{durations, start_is}
use Rattle.layout.specs.Layout.{count}
use Rattle.lines.specs.Ends.{end_from, line_end, ends_apart, first_apart, ends_fault}

-- n tokens from a place on end at the sum of their durations
ends_at : (p : List ℕ) (n place start : ℕ) → end_from start (tokens_from p n place start) ≡ start + durations p place n
unfolding end_from tokens_from durations
ends_at p zero place start = sym (add-zero start)
ends_at p (suc n) place start =
    ends_at p n (place + token_width p) (start + word p (place + 1)) ∙ omega arith

-- so a line ends where a token behind its last one would start
pub line_ends : (p : List ℕ) (v : ℕ) → line_end (line_of p v) ≡ start_of p v (line_count p v)
unfolding line_of
line_ends p v = ends_at p (line_count p v) (line_place p v) 0 ∙ rw (start_is p v (line_count p v), zero-add)

-- one token more
pub one_more : (p : List ℕ) (v j : ℕ) → start_of p v (j + 1) ≡ start_of p v j + duration_of p v j
unfolding start_of
one_more p v j = rw (add-one j)

-- line v ends elsewhere than line 0, or with it
pub apart : (p : List ℕ) (v end there : ℕ) → end ≡ line_end (line_of p 0) → there ≡ line_end (line_of p v) → (there ≡ end → ⊥) → ends_apart p v ≡ true
unfolding ends_apart
apart p v end there h k n = rw (ne_eqb _ _ (λ q. n (k ∙ q ∙ sym h)))

pub together : (p : List ℕ) (v end there : ℕ) → end ≡ line_end (line_of p 0) → there ≡ line_end (line_of p v) → there ≡ end → ends_apart p v ≡ false
unfolding ends_apart
together p v end there h k e = rw (eq-eqb _ _ (sym k ∙ e ∙ h))

-- ---- answer 18, or none: n is the number of lines

module _ (b p : List ℕ) (n : ℕ) (lines : n ≡ count b 0) where
  pub line-apart : (v : ℕ) → Clear (ends_apart p) v → v < n → ends_apart p v ≡ true → numbers 18 v 0 ≡ ends_fault b p
  unfolding ends_fault
  line-apart v h l e =
      let found : v ≡ first_apart b p = least_at _ _ v h (omega arith) e in
      rw (← found, lt-ltb v (count b 0) (omega arith))

  pub none_apart : Clear (ends_apart p) n → no_fault ≡ ends_fault b p
  unfolding ends_fault
  none_apart h =
      let found : n ≡ first_apart b p = least-end _ _ n h (omega arith) (omega arith) in
      rw (← found, le-ltb n (count b 0) (omega arith))
