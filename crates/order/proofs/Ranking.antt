-- The pass along a line that puts durations by rank: what the line comes to is what the tokens left come to. Assumes nothing.
use mathlib.Core.Path.{◌≡◌, refl, sym, ap, ◌∙◌}
use mathlib.Core.List.{List, [], ◌∷◌}
use Prim.Native.Nat.{ℕ, zero, suc, ◌+◌, ◌-◌, ◌*◌, ◌^◌, ◌≤◌, ◌<◌}
use native.Mathlib.Nat.{add-zero, mul-zero, mul-suc, mul-le-mul_left}
use native.Mathlib.Numerals.{add-one}
use native.Mathlib.Omega.{arith}
use lib.ListN.{length, set, length-set}
use Rattle.words.specs.Words.{word}
use Rattle.clock.specs.Clock.{last_tick}
use Rattle.lines.specs.declared.Token.{Token}
use Rattle.lines.specs.Lines.{token_width, line_count, line_place, duration_of, start_of, tokens_from, line_of, lines_of}
use Rattle.sweep.specs.declared.Stand.{Stand}
use Rattle.sweep.specs.Stands.{first_stand}
use Rattle.sweep.specs.Ranks.{rank}
use Rattle.sweep.specs.Sweeps.{Sweeps, Moments}
use Rattle.sweep.proofs.At.{duration_at, words-some}
use Rattle.order.specs.Numbered.{FirstFrom}
use Rattle.order.specs.Ranked.{rank_tokens, rank_line, rank_lines}
use Rattle.order.proofs.Numbers.{rank_le, rank-found}

-- the first i of the n tokens of line v are done, the first of which stands at `place`: token i starts at `end`, with rank k. A token has w words
pub record Ranking (p ts : List ℕ) (last v : ℕ) (whole r : List ℕ) (place w n i end k : ℕ) : Type 0 where
  pub good : Sweeps p
  pub times : Moments p ts last
  pub few : last < 8192
  pub there : v < word p 2
  pub here : place ≡ line_place p v
  pub wide : w ≡ token_width p
  pub number : n ≡ line_count p v
  pub start : end ≡ start_of p v i
  pub ranked : k ≡ rank (lines_of p) end
  pub most : k ≤ last
  pub long : length r ≡ length p
  pub rest : rank_line p whole v
      ≡ rank_tokens (rank (lines_of p)) w r (place + w * i) (tokens_from p (n - i) (place + w * i) end)

-- the line begins
pub rank-begins : (p ts : List ℕ) (last v : ℕ) (r : List ℕ) (s : Stand) (w : ℕ) → w ≡ token_width p → Sweeps p → Moments p ts last → last < 8192 → v < word p 2
    → length r ≡ length p → s ≡ first_stand p v → Ranking p ts last v r r s.place w s.left 0 0 0
unfolding rank start_of rank_line line_of
rank-begins p ts last v r s w wide good times few there long e =
    let first : line_place p v + w * 0 ≡ line_place p v = rw (mul-zero w) (add-zero (line_place p v)) in
    let all : line_count p v - 0 ≡ line_count p v = omega arith in
    rw e
    (record {
      good = good;
      times = times;
      few = few;
      there = there;
      here = refl;
      wide = wide;
      number = refl;
      start = refl;
      ranked = refl;
      most = omega arith;
      long = long;
      rest = rw (first, all, wide);
    })

-- one token further
tokens_step : (f : ℕ → ℕ) (p r : List ℕ) (place left end d w : ℕ) → (left ≡ 0 → ⊥) → d ≡ word p (place + 1) → w ≡ token_width p
    → rank_tokens f w r place (tokens_from p left place end)
    ≡ rank_tokens f w (set r (place + 1) (f (end + d) - f end)) (place + w) (tokens_from p (left - 1) (place + w) (end + d))
unfolding rank_tokens tokens_from
tokens_step f p r place zero end d w h e q = absurd (h refl)
tokens_step f p r place (suc n) end d w h e q = let k : suc n - 1 ≡ n = omega arith in rw (k, e, q)

module _ (p ts : List ℕ) (last v : ℕ) (whole r : List ℕ) (place w n i end k : ℕ) (h : Ranking p ts last v whole r place w n i end k) where
  pub rank_few : (k ≤ last) × (last < 2 ^ 60)
  rank_few = (h.most, omega (arith, h.few))

  -- no token is left
  pub rank_over : n ≤ i → r ≡ rank_line p whole v
  unfolding rank_tokens tokens_from
  rank_over z = let none : n - i ≡ 0 = omega arith in sym (h.rest ∙ rw none)

  module _ (more : i < n) where
    -- the token's duration stands inside
    pub rank_inside : (place + w * i + w ≤ length r) × (place + w * i + 1 < length r) × (length r ≤ 16384)
    rank_inside =
        let next : token_width p * suc i ≤ token_width p * line_count p v = mul-le-mul_left (token_width p) (omega (arith, h.number)) in
        let first : place + w * i + w ≤ length r =
        rw h.wide (omega (arith, h.here, mul-suc (token_width p) i, h.good.inside v h.there, h.long)) in
        (first, omega (arith, words-some p, h.wide), omega (arith, h.long, h.good.short))

    module _ (d : ℕ) (e : d ≡ word p (place + w * i + 1)) where
      next_start : end + d ≡ start_of p v (i + 1)
      unfolding start_of
      next_start =
          let q : d ≡ duration_of p v i = rw (h.here, h.wide) at e ∙ duration_at p v i in
          rw (add-one i) (omega (arith, h.start))

      pub rank_tick : end + d ≤ last_tick
      rank_tick = omega (arith, next_start, rw (← add-one i) at (h.good.soon v h.there i (omega (arith, h.number))))

      pub rank_more : (x : ℕ) → FirstFrom ts last k (end + d) x
          → Ranking p ts last v whole (set r (place + w * i + 1) (x - k)) place w n (i + 1) (end + d) x
      rank_more x f =
          let most : end + d ≤ word ts last =
          omega (arith, next_start, rw (← add-one i) at (h.times.last v h.there i (omega (arith, h.number)))) in
          let low : k ≤ rank (lines_of p) (end + d) = omega (arith, h.ranked, rank_le (lines_of p) end (end + d) (omega arith)) in
          let found : x ≡ rank (lines_of p) (end + d) = rank-found p ts last k (end + d) x h.times most low f in
          let next : place + w * i + w ≡ place + w * (i + 1) = rw (add-one i) (omega (arith, mul-suc w i)) in
          let fewer : n - i - 1 ≡ n - (i + 1) = omega arith in
          record {
            good = h.good;
            times = h.times;
            few = h.few;
            there = h.there;
            here = h.here;
            wide = h.wide;
            number = h.number;
            start = next_start;
            ranked = found;
            most = f.within;
            long = length-set r (place + w * i + 1) (x - k) ∙ h.long;
            rest =
                h.rest ∙ tokens_step (rank (lines_of p)) p r (place + w * i) (n - i) end d w (omega arith) e h.wide
                ∙ rw (← found, ← h.ranked, next, fewer);
          }

-- ---- the lines one after another

length_tokens : (f : ℕ → ℕ) (w : ℕ) (r : List ℕ) (place : ℕ) (ts : List Token) → length (rank_tokens f w r place ts) ≡ length r
unfolding rank_tokens
length_tokens f w r place [] = refl
length_tokens f w r place (t ∷ ts) = length_tokens f w (set r (place + 1) (f t.end.tick - f t.start.tick)) (place + w) ts ∙ length-set r (place + 1) _

-- new durations change no length
pub length-lines : (p : List ℕ) (n : ℕ) → length (rank_lines p n) ≡ length p
unfolding rank_lines rank_line
length-lines p zero = refl
length-lines p (suc v) = length_tokens _ _ (rank_lines p v) _ _ ∙ length-lines p v

-- one line more
pub rank_one : (p room after : List ℕ) (v : ℕ) → room ≡ rank_lines p v → after ≡ rank_line p room v → after ≡ rank_lines p (v + 1)
unfolding rank_lines
rank_one p room after v h e = rw (add-one v) (e ∙ ap (λ (r : List ℕ). rank_line p r v) h)
