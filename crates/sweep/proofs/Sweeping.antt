-- The sweep's loop: after e events every line stands at the time t, whose rank is e, and the times before it are listed. Assumes nothing.
use mathlib.Core.Path.{◌≡◌, refl, ap, ◌∙◌}
use mathlib.Core.Bool.{Bool, true, false}
use mathlib.Core.Logic.{◌⊎◌, inl, inr, ⊎_elim}
use mathlib.Core.List.{List}
use Prim.Native.Nat.{ℕ, zero, suc, ◌+◌, ◌-◌, ◌^◌, ◌≤◌, ◌<◌}
use native.Mathlib.Nat.{mul-le-mul_left}
use native.Mathlib.Omega.{arith}
use lib.Dec.{leb}
use lib.ListN.{length, set, length-set}
use borrow.Author.Tests.{leb-true, leb-false}
use lib.Seq.{get_or-set_same, get_or-set_other}
use Rattle.words.specs.Words.{word}
use Rattle.clock.specs.Clock.{last_tick}
use Rattle.lines.specs.Lines.{token_width, line_count, start_of, lines_of}
use Rattle.sweep.specs.declared.Stand.{Stand}
use Rattle.sweep.specs.Stands.{line_at, soonest, Begun, Later}
use Rattle.sweep.specs.Ranks.{endpoint, rank}
use Rattle.sweep.specs.Sweeps.{tokens_on, Sweeps, Moments}
use Rattle.sweep.proofs.Steps.{stored}
use Rattle.sweep.proofs.Ranks.{rank-next, boundary_of, token-starts, token-ends}
use Rattle.sweep.proofs.At.{starts_rise, At, at_first, at-later, Running, soonest-least, Soon, soonest-some, left_on, left_fewer}

-- the lines ls stand at the time t, next is the ticks to the next end, and the first e times are listed in ts
pub record Sweeping (p ts : List ℕ) (ls : List Stand) (n e t next : ℕ) : Type 0 where
  pub good : Sweeps p
  pub lines : n ≡ word p 2
  pub stands : (v : ℕ) → v < n → At p v t (line_at ls v)
  pub soon : next ≡ soonest ls n
  pub begun : 0 < next → endpoint (lines_of p) t ≡ true
  pub number : rank (lines_of p) t ≡ e
  pub ranks : (k : ℕ) → k < e → rank (lines_of p) (word ts k) ≡ k
  pub ends : (k : ℕ) → k < e → endpoint (lines_of p) (word ts k) ≡ true
  pub few : e + left_on ls n ≤ tokens_on p n
  pub tick : t ≤ last_tick
  pub room : 8192 ≤ length ts

-- a line of which something is left stands at one of its tokens
below : {p : List ℕ} {v t : ℕ} {s : Stand} → (a : At p v t s) → (s.left ≡ 0 → ⊥) → a.token < line_count p v
below a f = omega (arith, a.left, f)

-- no line has begun more than its tokens
token-most : {p : List ℕ} {v t : ℕ} {s : Stand} → (a : At p v t s) → a.token ≤ line_count p v
token-most a = omega (arith, a.left)

-- a boundary is passed, or comes when the running token ends or later
boundary_away : (p : List ℕ) (v t m : ℕ) (s : Stand) → At p v t s → ((s.left ≡ 0 → ⊥) → m ≤ s.run) → (k : ℕ) → k ≤ line_count p v
    → t < start_of p v k → start_of p v k < t + m → ⊥
boundary_away p v t m s a most k le after before =
    ⊎_elim
    (λ (q : k ≤ a.token).
    let rest : k + (a.token - k) ≡ a.token = omega arith in
    let up : start_of p v k ≤ start_of p v a.token = rw rest at (starts_rise p v k (a.token - k)) in
    omega (arith, a.begun))
    (λ (q : suc a.token ≤ k).
    let rest : suc a.token + (k - suc a.token) ≡ k = omega arith in
    let up : start_of p v (suc a.token) ≤ start_of p v k = rw rest at (starts_rise p v (suc a.token) (k - suc a.token)) in
    let l : a.token < line_count p v = omega arith in
    omega (arith, a.runs l, most (λ z. omega (arith, a.left))))
    (split k a.token)
  where
    split : (x y : ℕ) → (x ≤ y) ⊎ (suc y ≤ x)
    split x y = by (leb x y) refl
      where
        by : (b : Bool) → leb x y ≡ b → (x ≤ y) ⊎ (suc y ≤ x)
        by true e = inl (leb-true x y e)
        by false e = inr (leb-false x y e)

module _ (p ts : List ℕ) (ls : List Stand) (n e t next : ℕ) (h : Sweeping p ts ls n e t next) where
  -- each line that runs has ticks to run
  runs : Running ls n
  runs v l f = let a = h.stands v l in a.some (below a f)

  -- none of them fewer than next
  least : (v : ℕ) → v < n → ((line_at ls v).left ≡ 0 → ⊥) → next ≤ (line_at ls v).run
  least v l f = omega (arith, h.soon, (soonest-least ls n runs v l f).0)

  pub sweep-lines : n ≤ 16
  sweep-lines = omega (arith, h.lines, h.good.few)

  -- no place wraps
  pub sweep-places : (v : ℕ) → v < n → (line_at ls v).place < 2 ^ 60
  sweep-places v l =
      let a = h.stands v l in
      omega (arith, a.place, mul-le-mul_left (token_width p) (token-most a), h.good.inside v (omega (arith, h.lines)), h.good.short)

  -- there is room for one time more
  pub sweep_room : e < 8192
  sweep_room = omega (arith, h.few, h.good.tokens, ap (tokens_on p) h.lines)

  module _ (on : next ≡ 0 → ⊥) where
    one : Soon ls n
    one = soonest-some ls n (omega (arith, h.soon, on))

    -- the token that ends the soonest ends at t + next
    ends_there : start_of p one.line (suc (h.stands one.line one.below).token) ≡ t + next
    ends_there =
        let a = h.stands one.line one.below in
        omega (arith, a.runs (below a one.runs), one.here, h.soon)

    pub sweep_tick : t + next ≤ last_tick
    sweep_tick =
        let a = h.stands one.line one.below in
        omega (arith, ends_there, h.good.soon one.line (omega (arith, one.below, h.lines)) a.token (below a one.runs))

    -- nothing starts or ends between t and then
    quiet : (x : ℕ) → t < x → x < t + next → endpoint (lines_of p) x ≡ false
    quiet x l m = by (endpoint (lines_of p) x) refl
      where
        by : (b : Bool) → endpoint (lines_of p) x ≡ b → endpoint (lines_of p) x ≡ false
        by false q = q
        by true q =
            let k = boundary_of p x q in
            let v : k.line < n = omega (arith, k.there, h.lines) in
            absurd
            (boundary_away p k.line t next (line_at ls k.line) (h.stands k.line v) (least k.line v) k.number k.within
            (omega (arith, k.here)) (omega (arith, k.here)))

    -- fewer tokens are left then
    pub sweep_fewer : (rs : List Stand) → Later p n next ls rs → left_on rs n < left_on ls n
    sweep_fewer rs g = left_fewer p next ls rs n g one.line one.below one.runs (omega (arith, one.here, h.soon))

    -- one event more
    pub sweep_on : (rs : List Stand) → Later p n next ls rs → (after : ℕ) → after ≡ soonest rs n
        → Sweeping p (set ts e t) rs n (e + 1) (t + next) after
    sweep_on rs g after q =
        let room : e < length ts = omega (arith, sweep_room, h.room) in
        record {
          good = h.good;
          lines = h.lines;
          stands = λ v l.
              rw (g v l) (at-later p h.good v (omega (arith, h.lines)) t next (line_at ls v) (h.stands v l) (omega (arith, on)) (least v l));
          soon = q;
          begun = λ _.
              let a = h.stands one.line one.below in
              rw (← ends_there) (token-ends p one.line a.token (omega (arith, one.below, h.lines)) (below a one.runs));
          number = rank-next (lines_of p) t next (omega (arith, on)) (h.begun (omega (arith, on))) quiet ∙ rw h.number;
          ranks = stored 0 (λ k x. rank (lines_of p) x ≡ k) ts e t h.ranks room h.number;
          ends = stored 0 (λ k x. endpoint (lines_of p) x ≡ true) ts e t h.ends room (h.begun (omega (arith, on)));
          few = omega (arith, h.few, sweep_fewer rs g);
          tick = sweep_tick;
          room = rw (length-set ts e t) h.room;
        }

  -- the last one: every token has ended
  pub sweep-last : next ≡ 0 → Moments p (set ts e t) e
  sweep-last z =
      let room : e < length ts = omega (arith, sweep_room, h.room) in
      let all = stored 0 (λ k x. rank (lines_of p) x ≡ k) ts e t h.ranks room h.number in
      record {
        ranks = λ k l. all k (omega arith);
        ends = λ k l. rw (get_or-set_other ts e k t 0 (λ q. omega arith)) (h.ends k l);
        last = λ v l j m.
            let b : v < n = omega (arith, h.lines) in
            let a = h.stands v b in
            let done : a.token ≡ line_count p v = over v b a in
            let rest : suc j + (a.token - suc j) ≡ a.token = omega arith in
            let up : start_of p v (suc j) ≤ start_of p v a.token = rw rest at (starts_rise p v (suc j) (a.token - suc j)) in
            rw (get_or-set_same ts e t 0 room) (omega (arith, a.begun));
      }
    where
      over : (v : ℕ) (b : v < n) (a : At p v t (line_at ls v)) → a.token ≡ line_count p v
      over v b a =
          let none : a.token < line_count p v → ⊥ = λ l. omega (arith, z, h.soon, (soonest-least ls n runs v b (λ q. omega (arith, a.left))).1) in
          omega (arith, token-most a)

-- as many tokens are left as the lines have
left-all : (p : List ℕ) (ls : List Stand) (n : ℕ) → Begun p n ls → left_on ls n ≡ tokens_on p n
unfolding left_on tokens_on
left-all p ls zero g = refl
left-all p ls (suc n) g = rw (left-all p ls n (λ v l. g v (omega arith)), g n (omega arith))

-- it begins
pub sweep-first : (p ts : List ℕ) (ls : List Stand) (n next : ℕ) → Sweeps p → 8192 ≤ length ts → n ≡ word p 2 → Begun p (word p 2) ls
    → next ≡ soonest ls n → Sweeping p ts ls n 0 0 next
unfolding rank start_of
sweep-first p ts ls n next good room lines g q =
    record {
      good = good;
      lines = lines;
      stands = λ v l. rw (g v (omega (arith, lines))) (at_first p good v (omega (arith, lines)));
      soon = q;
      begun = λ pos.
          let k = soonest-some ls n (omega (arith, q, pos)) in
          let l : k.line < word p 2 = omega (arith, k.below, lines) in
          let some : line_count p k.line ≡ 0 → ⊥ = rw (g k.line l) at k.runs in
          token-starts p k.line 0 l (omega (arith, some));
      number = refl;
      ranks = λ k l. absurd (omega arith);
      ends = λ k l. absurd (omega arith);
      few = omega (arith, left-all p ls n (λ v l. g v (omega (arith, lines))));
      tick = omega arith;
      room = room;
    }
