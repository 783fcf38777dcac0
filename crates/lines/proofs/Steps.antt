-- What `step_of` is in each of its cases. Assumes nothing.
use mathlib.Core.Path.{◌≡◌}
use mathlib.Core.List.{List}
use Prim.Native.Nat.{ℕ, ◌+◌, ◌≤◌, ◌<◌}
use lib.Dec.{leb}
use lib.ListN.{length}
use borrow.Author.Tests.{lt-ltb, le-ltb, le-leb, lt-leb}
use Rattle.words.specs.Words.{word}
use Rattle.words.proofs.Lists.{and-false}
use Rattle.clock.specs.declared.Time.{Time}
use Rattle.std.specs.Prelude.{Option, Some, None}
use Rattle.clock.specs.Clock.{last_tick, at, later}
use Rattle.clock.proofs.Laws.{case_past, case_at}
use Rattle.lines.specs.declared.Position.{Position}
use Rattle.lines.specs.declared.Step.TheVariants.{Handed, NoMore}
use Rattle.lines.specs.Lines.{line_count, token_width, job_at}
use Rattle.lines.specs.Walk.{token_place, token_end, names, step_of}

module _ (p : List ℕ) (q : Position) where
  pub no_line : word p 2 ≤ q.line → NoMore q ≡ step_of p q
  unfolding step_of names
  no_line h = rw (le-ltb q.line (word p 2) h)

  pub no_token_lem : line_count p q.line ≤ q.token → NoMore q ≡ step_of p q
  unfolding step_of names
  no_token_lem h = simp (le-ltb q.token (line_count p q.line) h, and-false)

  pub no_words : (place w : ℕ) → place ≡ token_place p q → w ≡ token_width p → length p < place + w → NoMore q ≡ step_of p q
  unfolding step_of names
  no_words place w here wide h = simp (lt-leb (token_place p q + token_width p) (length p) (rw (← here, ← wide) h), and-false)

  -- the token's end, as the time type adds it
  abbrev ending : Option Time
  ending = later last_tick q.start.tick (word p (token_place p q + 1))

  pub no_time : ending ≡ None → NoMore q ≡ step_of p q
  unfolding step_of names later
  no_time h = simp (case_past (leb (token_end p q) last_tick) (at (token_end p q)) h, and-false)

  pub next-token : (place w x job : ℕ) (end : Time) → place ≡ token_place p q → w ≡ token_width p
      → q.line < word p 2 → q.token < line_count p q.line
      → place + w ≤ length p → ending ≡ Some end → x ≡ word p (token_place p q) → job ≡ job_at p (token_place p q)
      → Handed (record { value = x; start = q.start; end = end; job = job })
      (record { line = q.line; token = q.token + 1; start = end }) ≡ step_of p q
  unfolding step_of names later
  next-token place w x job end here wide l t i h e f =
      let z = case_at (leb (token_end p q) last_tick) (at (token_end p q)) end h in
      rw (
        lt-ltb q.line (word p 2) l,
        lt-ltb q.token (line_count p q.line) t,
        le-leb (token_place p q + token_width p) (length p) (rw (← here, ← wide) i),
        z.0,
        e,
        f,
        ← z.1,
      )
