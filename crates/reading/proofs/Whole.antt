-- What a loop has put, and what is left to put: the tokens of a line, the heads and the tokens of all lines; and the plan. Assumes nothing.
use mathlib.Core.Path.{◌≡◌, refl, sym, ap, ◌∙◌}
use mathlib.Core.List.{List, [], ◌∷◌, ◌++◌, flat_map, append_assoc, append-nil}
use Prim.Native.Nat.{ℕ, suc, ◌+◌, ◌*◌, ◌-◌, ◌≤◌, ◌<◌}
use native.Mathlib.Omega.{arith}
use lib.ListN.{length, set, length-append}
use Rattle.words.specs.Words.{word}
use Rattle.words.specs.Runs.{run}
use Rattle.words.proofs.Runs.{length_run}
use Rattle.words.specs.Write.{Wrote}
use Rattle.words.proofs.Write.{none, then}
use Rattle.event_list.specs.Events.{Line}
use Rattle.event_list.specs.Plans.{line_words, head_words, plan_words}
use Rattle.event_list.specs.Reading.{read_from, read_line, read_lines}
use Rattle.event_list.proofs.Passes.{read_over, read_on}
use Rattle.sink.proofs.Lists.{flat_append}
use Rattle.reading.specs.declared.Pass.{Pass}
use Rattle.reading.specs.declared.Put.{Put}
use Rattle.reading.specs.Pass.{step, closed_at, Puts}

-- ---- what was put, and what is left, is all

pub record Writing (before now : List ℕ) (from at : ℕ) (rest all : List ℕ) : Type 0 where
  pub sent : List ℕ
  pub so : Wrote before now from at sent
  pub whole : sent ++ rest ≡ all

writing_none : (l : List ℕ) (at : ℕ) (ws : List ℕ) → Writing l l at at ws ws
writing_none l at ws = record { sent = []; so = none l at; whole = refl }

writing_more : {b l m rest all xs ys : List ℕ} {from at k : ℕ} → Writing b l from at rest all → rest ≡ xs ++ ys → Wrote l m at k xs
    → Writing b m from k ys all
writing_more {xs = xs} {ys = ys} h e q =
    record {
      sent = h.sent ++ xs;
      so = then h.so q;
      whole = append_assoc h.sent xs ys ∙ ap (λ (r : List ℕ). h.sent ++ r) (sym e) ∙ h.whole;
    }

wrote_as : {b l ws vs : List ℕ} {from at : ℕ} → ws ≡ vs → Wrote b l from at ws → Wrote b l from at vs
wrote_as e h = rw (← e) h

writing_all : {b l rest all : List ℕ} {from at : ℕ} → Writing b l from at rest all → rest ≡ [] → Wrote b l from at all
writing_all h e = wrote_as (sym (append-nil h.sent) ∙ ap (λ (r : List ℕ). h.sent ++ r) (sym e) ∙ h.whole) h.so

-- ---- the tokens of a line

-- the tokens that are left
unfoldable pub tokens_from : List ℕ → ℕ → ℕ → Pass → Line
tokens_from w x fuel p = read_from w x fuel p.place p.left p.ticks

from_over : (w : List ℕ) (x fuel : ℕ) (p : Pass) → length w ≤ p.place → tokens_from w x fuel p ≡ []
unfolding tokens_from
from_over w x fuel p h = read_over w x fuel p.place p.left p.ticks h

from-none : (w : List ℕ) (x fuel : ℕ) (p : Pass) → fuel ≤ 0 → tokens_from w x fuel p ≡ []
unfolding tokens_from read_from
from-none w x fuel p h = let e : fuel ≡ 0 = omega arith in rw e

from_more : (w : List ℕ) (x fuel : ℕ) (p : Pass) → 0 < fuel → p.place < length w
    → tokens_from w x fuel p ≡ closed_at w x p ++ tokens_from w x (fuel - 1) (step w x p)
unfolding tokens_from
from_more w x fuel p some h =
    let e : fuel ≡ suc (fuel - 1) = omega arith in
    ap (λ (n : ℕ). read_from w x n p.place p.left p.ticks) e ∙ read_on w x (fuel - 1) p.place p.left p.ticks h

pub record Passing (w before now : List ℕ) (at x : ℕ) (o : Put) (fuel : ℕ) (p : Pass) : Type 0 where
  pub so : Writing before now at o.at (line_words (word w 0) (tokens_from w x fuel p)) (line_words (word w 0) (read_line w x))
  pub counted : o.tokens + length (tokens_from w x fuel p) ≡ length (read_line w x)
  pub few : o.tokens + fuel ≤ length w
  pub near : o.at + 3 * fuel ≤ at + 3 * length w

pub passing_start : (w l : List ℕ) (at x : ℕ)
    → Passing w l l at x (record { at = at; tokens = 0 }) (length w - 0) (record { place = 3; left = 0; ticks = 0 })
unfolding tokens_from read_line
passing_start w l at x =
    let all : length w - 0 ≡ length w = omega arith in
    rw all
    (record {
      so = writing_none l at (line_words (word w 0) (read_from w x (length w) 3 0 0));
      counted = omega arith;
      few = omega arith;
      near = omega arith;
    })

-- the step after i others
pub passing_step : {w before now after : List ℕ} {at x i : ℕ} {o r : Put} {p q : Pass} → Passing w before now at x o (length w - i) p
    → i < length w → p.place < length w → Wrote now after o.at r.at (line_words (word w 0) (closed_at w x p))
    → r.tokens ≡ o.tokens + length (closed_at w x p) → r.tokens ≤ o.tokens + 1 → r.at ≤ o.at + 3 → q ≡ step w x p
    → Passing w before after at x r (length w - (i + 1)) q
unfolding line_words
passing_step {w} {x = x} {i = i} {o = o} {r = r} {p = p} {q = q} h some inside wrote counted one three is =
    let fewer : length w - i - 1 ≡ length w - (i + 1) = omega arith in
    let fuel : ℕ = length w - (i + 1) in
    let rest =
    rw fewer at (from_more w x (length w - i) p (omega arith) inside) ∙ ap (λ (s : Pass). closed_at w x p ++ tokens_from w x fuel s) (sym is) in
    let long = length-append (closed_at w x p) (tokens_from w x fuel q) in
    record {
      so = writing_more h.so (ap (line_words (word w 0)) rest ∙ flat_append _ (closed_at w x p) (tokens_from w x fuel q)) wrote;
      counted = omega (arith, h.counted, ap length rest, long, counted);
      few = omega (arith, h.few);
      near = omega (arith, h.near);
    }

passing_end : {w before now : List ℕ} {at x fuel : ℕ} {o : Put} {p : Pass} → Passing w before now at x o fuel p → tokens_from w x fuel p ≡ []
    → Puts w before now at o (read_line w x) (length w)
unfolding line_words flat_map
passing_end {w} h e =
    record {
      wrote = writing_all h.so (ap (line_words (word w 0)) e);
      counted = omega (arith, h.counted, ap length e);
      few = omega (arith, h.few);
      near = omega (arith, h.near);
    }

pub passing_over : {w before now : List ℕ} {at x fuel : ℕ} {o : Put} {p : Pass} → Passing w before now at x o fuel p → length w ≤ p.place
    → Puts w before now at o (read_line w x) (length w)
passing_over {w} {x = x} {fuel = fuel} {p = p} h l = passing_end h (from_over w x fuel p l)

pub passing_done : {w before now : List ℕ} {at x fuel : ℕ} {o : Put} {p : Pass} → Passing w before now at x o fuel p → fuel ≤ 0
    → Puts w before now at o (read_line w x) (length w)
passing_done {w} {x = x} {fuel = fuel} {p = p} h l = passing_end h (from-none w x fuel p l)

-- ---- line after line

-- the lines from x on
unfoldable pub lines_from : List ℕ → ℕ → ℕ → List Line
lines_from w n x = run (read_line w) 1 (n - x) x

lines_more : (w : List ℕ) (n x : ℕ) → x < n → lines_from w n x ≡ read_line w x ∷ lines_from w n (x + 1)
unfolding lines_from run
lines_more w n x h = let e : n - x ≡ suc (n - (x + 1)) = omega arith in rw e

lines_none : (w : List ℕ) (n x : ℕ) → n ≤ x → lines_from w n x ≡ []
unfolding lines_from run
lines_none w n x h = let e : n - x ≡ 0 = omega arith in rw e

lines-all : (w : List ℕ) (n : ℕ) → lines_from w n 0 ≡ read_lines w n
unfolding lines_from read_lines
lines-all w n = let e : n - 0 ≡ n = omega arith in rw e

-- their tokens
pub record Lines (w before now : List ℕ) (from at n x : ℕ) : Type 0 where
  pub so : Writing before now from at (flat_map (line_words (word w 0)) (lines_from w n x)) (flat_map (line_words (word w 0)) (lines_from w n 0))

pub lines_start : (w l : List ℕ) (at n : ℕ) → Lines w l l at at n 0
lines_start w l at n = record { so = writing_none l at _ }

pub lines_step : {w before now after : List ℕ} {from at next n x : ℕ} → Lines w before now from at n x → x < n
    → Wrote now after at next (line_words (word w 0) (read_line w x)) → Lines w before after from next n (x + 1)
unfolding flat_map
lines_step {w} {n = n} {x = x} h l q = record { so = writing_more h.so (ap (flat_map (line_words (word w 0))) (lines_more w n x l)) q }

pub lines_end : {w before now : List ℕ} {from at n x : ℕ} → Lines w before now from at n x → n ≤ x
    → Wrote before now from at (flat_map (line_words (word w 0)) (read_lines w n))
unfolding flat_map
lines_end {w} {n = n} {x = x} h l =
    wrote_as (ap (flat_map (line_words (word w 0))) (lines-all w n)) (writing_all h.so (ap (flat_map (line_words (word w 0))) (lines_none w n x l)))

-- their heads, `before` tokens being before line x
pub record Heads (w first now : List ℕ) (from at n x before : ℕ) : Type 0 where
  pub so : Writing first now from at (head_words before (lines_from w n x)) (head_words 0 (lines_from w n 0))

pub heads_start : (w l : List ℕ) (at n : ℕ) → Heads w l l at (at + 2 * 0) n 0 0
heads_start w l at n = let e : at + 2 * 0 ≡ at = omega arith in rw e (record { so = writing_none l at _ })

pub heads_step : {w first now mid after : List ℕ} {from n x before k : ℕ} → Heads w first now from (from + 2 * x) n x before → x < n
    → k ≡ length (read_line w x) → mid ≡ set now (from + 2 * x) before → after ≡ set mid (from + 2 * x + 1) k
    → Heads w first after from (from + 2 * (x + 1)) n (x + 1) (before + k)
unfolding head_words
heads_step {w} {from = from} {n = n} {x = x} {before = before} {k = k} h l e a b =
    record {
      so =
          writing_more {xs = before ∷ k ∷ []} h.so
          (ap (head_words before) (lines_more w n x l) ∙ rw e)
          (record { same = b ∙ ap (λ (m : List ℕ). set m (from + 2 * x + 1) k) a; next = omega arith });
    }

pub heads_end : {w first now : List ℕ} {from n x before : ℕ} → Heads w first now from (from + 2 * x) n x before → n ≤ x → x ≤ n
    → Wrote first now from (from + 2 * n) (head_words 0 (read_lines w n))
unfolding head_words
heads_end {w} {from = from} {n = n} {x = x} {before = before} h l m =
    let e : from + 2 * x ≡ from + 2 * n = omega arith in
    let all = wrote_as (ap (head_words 0) (lines-all w n)) (writing_all h.so (ap (head_words before) (lines_none w n x l))) in
    rw e at all

-- ---- the plan

heads_long : (before : ℕ) (ls : List Line) → length (head_words before ls) ≡ 2 * length ls
unfolding head_words
heads_long before [] = refl
heads_long before (l ∷ ls) = let h = heads_long (before + length l) ls in omega (arith, h)

pub read-long : (w : List ℕ) (n : ℕ) → length (head_words 0 (read_lines w n)) ≡ 2 * n
unfolding read_lines
read-long w n = let e = length_run (read_line w) 1 n 0 in heads_long 0 _ ∙ rw e

pub plan_wrote : (w : List ℕ) (n : ℕ) {e total at r : ℕ} {before a b c d after : List ℕ} → e ≡ word w 0
    → total ≡ 3 + 2 * n + length (flat_map (line_words (word w 0)) (read_lines w n))
    → a ≡ set before 0 e → b ≡ set a 1 total → c ≡ set b 2 n → Wrote c d 3 at (head_words 0 (read_lines w n))
    → Wrote d after at r (flat_map (line_words (word w 0)) (read_lines w n)) → Wrote before after 0 r (plan_words (word w 0) (read_lines w n))
unfolding plan_words read_lines
plan_wrote w n {e} {total} {before = before} is sum p q s heads tokens =
    let ls : List Line = run (read_line w) 1 n 0 in
    let rest : List ℕ = head_words 0 ls ++ flat_map (line_words (word w 0)) ls in
    let long = length-append (head_words 0 ls) (flat_map (line_words (word w 0)) ls) in
    let all : total ≡ 3 + length rest = omega (arith, sum, long, read-long w n) in
    let many : n ≡ length ls = sym (length_run (read_line w) 1 n 0) in
    let first : Wrote before _ 0 3 (e ∷ total ∷ n ∷ []) = record { same = s ∙ rw (q, p); next = refl } in
    wrote_as (ap (λ (k : ℕ). k ∷ total ∷ n ∷ rest) is ∙ ap (λ (k : ℕ). word w 0 ∷ k ∷ n ∷ rest) all
    ∙ ap (λ (k : ℕ). word w 0 ∷ (3 + length rest) ∷ k ∷ rest) many) (then first (then heads tokens))
