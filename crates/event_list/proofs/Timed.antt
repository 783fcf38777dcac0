-- A line's tokens by duration, and the decoded plan's by start and end. Assumes nothing.
use mathlib.Core.Path.{◌≡◌, refl, sym, ap, ◌∙◌}
use mathlib.Core.List.{List, [], ◌∷◌}
use Prim.Native.Nat.{ℕ, zero, suc, ◌+◌, ◌*◌, ◌<◌}
use native.Mathlib.Nat.{add-zero, zero-mul, suc-mul}
use native.Mathlib.Omega.{arith}
use Rattle.words.specs.Words.{word}
use Rattle.words.specs.Lists.{All}
use Rattle.words.specs.Runs.{run}
use Rattle.lines.specs.declared.Token.{Token}
use Rattle.lines.specs.Lines.{token, line_count, line_place, token_width, job_at, start_of, tokens_from, line_of}
use Rattle.lines.specs.Ends.{end_from, line_end}
use Rattle.lines.proofs.Laws.{durations, start_is}
use Rattle.event_list.specs.Events.{Line, line_ticks, plan_ticks}
use Rattle.event_list.specs.Plans.{token_at, line_tokens, plan_lines}

-- "A token starts at the sum of the durations before it on its line and ends a duration later"
unfoldable pub timed : ℕ → Line → List Token
timed start [] = []
timed start (t ∷ ts) = token t.value start (start + t.duration) t.job ∷ timed (start + t.duration) ts

timed-run : (p : List ℕ) (n place start : ℕ) → timed start (run (token_at p) (token_width p) n place) ≡ tokens_from p n place start
unfolding timed run tokens_from
timed-run p zero place start = refl
timed-run p (suc n) place start =
    ap (λ (r : List Token). token (word p place) start (start + word p (place + 1)) (job_at p place) ∷ r)
    (timed-run p n (place + token_width p) (start + word p (place + 1)))

-- the decoded plan's timeline v
pub timed-line : (p : List ℕ) (v : ℕ) → timed 0 (line_tokens p v) ≡ line_of p v
unfolding line_tokens line_of
timed-line p v = timed-run p (line_count p v) (line_place p v) 0

-- it ends when its ticks are over
timed-end : (start : ℕ) (l : Line) → end_from start (timed start l) ≡ start + line_ticks l
unfolding end_from timed line_ticks
timed-end start [] = sym (add-zero start)
timed-end start (t ∷ ts) = timed-end (start + t.duration) ts ∙ omega arith

pub line-end : (p : List ℕ) (v : ℕ) → line_end (line_of p v) ≡ line_ticks (line_tokens p v)
line-end p v = ap (end_from 0) (sym (timed-line p v)) ∙ timed-end 0 (line_tokens p v) ∙ omega arith

-- the ticks of n tokens are their durations
ticks_run : (p : List ℕ) (n place : ℕ) → line_ticks (run (token_at p) (token_width p) n place) ≡ durations p place n
unfolding line_ticks run durations
ticks_run p zero place = refl
ticks_run p (suc n) place = ap (λ (r : ℕ). word p (place + 1) + r) (ticks_run p n (place + token_width p))

pub line_ticks_lem : (p : List ℕ) (v : ℕ) → line_ticks (line_tokens p v) ≡ start_of p v (line_count p v)
unfolding line_tokens
line_ticks_lem p v = ticks_run p (line_count p v) (line_place p v) ∙ start_is p v (line_count p v)

-- the plan's ticks are those of its line 0
ticks_first : (f : ℕ → Line) (n v : ℕ) → v < n → plan_ticks (run f 1 n 0) ≡ line_ticks (f 0)
unfolding plan_ticks run
ticks_first f zero v l = absurd (omega arith)
ticks_first f (suc n) v l = refl

pub plan_ticks_lem : (p : List ℕ) (v : ℕ) → v < word p 2 → plan_ticks (plan_lines p) ≡ line_ticks (line_tokens p 0)
unfolding plan_lines
plan_ticks_lem p v l = ticks_first (line_tokens p) (word p 2) v l

-- what holds of each record of a run
pub all-run : {A : Type 0} (P : A → Type 0) (f : ℕ → A) (w n k : ℕ) → ((i : ℕ) → i < n → P (f (k + i * w))) → All P (run f w n k)
unfolding run
all-run P f w zero k h = tt
all-run P f w (suc n) k h =
    let z : k + 0 * w ≡ k = omega (arith, zero-mul w) in (
      rw z at (h 0 (omega arith)),
      all-run P f w n (k + w) (λ i l. let e : k + suc i * w ≡ k + w + i * w = omega (arith, suc-mul i w) in rw e at
          (h (suc i) (omega arith))),
    )
