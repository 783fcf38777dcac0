-- A plan whose header is good is the words of its lines. Assumes nothing.
use mathlib.Core.Path.{◌≡◌, refl, sym, ap, ◌∙◌}
use mathlib.Core.Bool.{Bool, true, false, cond}
use mathlib.Core.List.{List, [], ◌∷◌, ◌++◌, flat_map, map, append_assoc, append-nil}
use Prim.Native.Nat.{ℕ, zero, suc, ◌+◌, ◌*◌, ◌≤◌, ◌<◌}
use native.Mathlib.Nat.{add-zero, mul-zero, mul-suc, mul-add}
use native.Mathlib.Omega.{arith}
use lib.Dec.{eqb}
use lib.ListN.{length, drop, drop_of_length-le}
use lib.Seq.{drop-cons}
use Rattle.words.specs.Words.{word}
use Rattle.words.specs.Runs.{run}
use Rattle.words.proofs.Runs.{length_run}
use Rattle.lines.specs.Lines.{line_first, line_count, line_place, token_width, job_at}
use Rattle.event_list.specs.Events.{Line, plan_token}
use Rattle.event_list.specs.Plans.{token_at, line_tokens, plan_lines, token_words, line_words, head_words, plan_words}
use Rattle.event_list.proofs.Passes.{forget}

-- a list from a place on: its word there, and the list from the next place on
drop-word : (p : List ℕ) (k : ℕ) → k < length p → drop k p ≡ word p k ∷ drop (k + 1) p
drop-word p k h = let e : suc k ≡ k + 1 = omega arith in drop-cons p k 0 h ∙ ap (λ (i : ℕ). word p k ∷ drop i p) e

-- the token at a place, by its words
token-words : (p : List ℕ) (k : ℕ) → k + token_width p ≤ length p → drop k p ≡ token_words (word p 0) (token_at p k) ++ drop (k + token_width p) p
unfolding token_width token_words job_at
token-words p k h = by (eqb (word p 0) 2) h
  where
    by : (b : Bool) → k + cond b 3 2 ≤ length p
        → drop k p ≡ (word p k ∷ word p (k + 1) ∷ cond b (cond b (word p (k + 2)) 0 ∷ []) []) ++ drop (k + cond b 3 2) p
    by true l =
        let f : k + 1 + 1 ≡ k + 2 = omega arith in
        let g : k + 2 + 1 ≡ k + 3 = omega arith in
        drop-word p k (omega arith)
        ∙ ap (λ (r : List ℕ). word p k ∷ r)
        (drop-word p (k + 1) (omega arith)
        ∙ ap (λ (i : ℕ). word p (k + 1) ∷ drop i p) f
        ∙ ap (λ (r : List ℕ). word p (k + 1) ∷ r) (drop-word p (k + 2) (omega arith) ∙ ap (λ (i : ℕ). word p (k + 2) ∷ drop i p) g))
    by false l =
        let f : k + 1 + 1 ≡ k + 2 = omega arith in
        drop-word p k (omega arith) ∙ ap (λ (r : List ℕ). word p k ∷ r) (drop-word p (k + 1) (omega arith)
        ∙ ap (λ (i : ℕ). word p (k + 1) ∷ drop i p) f)

-- n tokens from a place on
tokens_words : (p : List ℕ) (n k : ℕ) → k + token_width p * n ≤ length p
    → drop k p ≡ line_words (word p 0) (run (token_at p) (token_width p) n k) ++ drop (k + token_width p * n) p
unfolding line_words flat_map run
tokens_words p zero k h = let e : k ≡ k + token_width p * 0 = omega (arith, mul-zero (token_width p)) in ap (λ (i : ℕ). drop i p) e
tokens_words p (suc n) k h =
    let more = mul-suc (token_width p) n in
    let e : k + token_width p + token_width p * n ≡ k + token_width p * suc n = omega (arith, more) in
    let l : Line = run (token_at p) (token_width p) n (k + token_width p) in
    let ih : drop (k + token_width p) p ≡ line_words (word p 0) l ++ drop (k + token_width p * suc n) p =
    tokens_words p n (k + token_width p) (omega (arith, h, e)) ∙ ap (λ (i : ℕ). line_words (word p 0) l ++ drop i p) e in
    token-words p k (omega (arith, more, h))
    ∙ ap (λ (r : List ℕ). token_words (word p 0) (token_at p k) ++ r) ih
    ∙ sym (append_assoc (token_words (word p 0) (token_at p k)) (line_words (word p 0) l) (drop (k + token_width p * suc n) p))

three : (n : ℕ) → suc (suc (suc n)) ≡ 3 + n
three n = omega arith

pub line-long : (p : List ℕ) (v : ℕ) → length (line_tokens p v) ≡ line_count p v
unfolding line_tokens
line-long p v = length_run (token_at p) (token_width p) (line_count p v) (line_place p v)

pub lines_long : (p : List ℕ) → length (plan_lines p) ≡ word p 2
unfolding plan_lines
lines_long p = length_run (line_tokens p) 1 (word p 2) 0

-- a plan of another edition has no jobs
forget-run : (p : List ℕ) (w n k : ℕ) → map (forget (word p 0)) (run (token_at p) w n k) ≡ run (token_at p) w n k
unfolding run forget job_at
forget-run p w zero k = refl
forget-run p w (suc n) k = rw (forget-run p w n (k + w)) (by (eqb (word p 0) 2))
  where
    by : (b : Bool) → plan_token (word p k) (word p (k + 1)) (cond b (cond b (word p (k + 2)) 0) 0) ∷ run (token_at p) w n (k + w)
        ≡ plan_token (word p k) (word p (k + 1)) (cond b (word p (k + 2)) 0) ∷ run (token_at p) w n (k + w)
    by true = refl
    by false = refl

pub forget-line : (p : List ℕ) (v : ℕ) → map (forget (word p 0)) (line_tokens p v) ≡ line_tokens p v
unfolding line_tokens
forget-line p v = forget-run p (token_width p) (line_count p v) (line_place p v)

-- a plan whose header is good (5, 6 and 7 don't hold): `sums v` tokens are before line v
pub record Laid (p : List ℕ) : Type 0 where
  pub sums : ℕ → ℕ
  pub zeroth : sums 0 ≡ 0
  pub next : (v : ℕ) → v < word p 2 → sums (v + 1) ≡ sums v + line_count p v
  pub follow : (v : ℕ) → v < word p 2 → line_first p v ≡ sums v
  pub fits : (v : ℕ) → v < word p 2 → 3 + 2 * word p 2 + token_width p * sums (v + 1) ≤ length p
  pub total : word p 1 ≡ length p
  pub whole : 3 + 2 * word p 2 + token_width p * sums (word p 2) ≡ length p

module _ (p : List ℕ) (h : Laid p) where
  abbrev sums : ℕ → ℕ
  sums = h.sums

  abbrev here : ℕ → ℕ
  here v = 3 + 2 * word p 2 + token_width p * sums v

  -- the words of line v, and from the next line on
  line-words : (v : ℕ) → v < word p 2 → drop (here v) p ≡ line_words (word p 0) (line_tokens p v) ++ drop (here (v + 1)) p
  unfolding line_tokens
  line-words v lt =
      let g : token_width p * sums (v + 1) ≡ token_width p * sums v + token_width p * line_count p v = rw (h.next v lt)
      (mul-add (token_width p) (sums v) (line_count p v)) in
      let q : here v + token_width p * line_count p v ≡ here (v + 1) = omega (arith, g) in
      let f = h.fits v lt in
      rw (h.follow v lt)
      (tokens_words p (line_count p v) (here v) (omega (arith, f, q))
      ∙ ap (λ (i : ℕ). line_words (word p 0) (run (token_at p) (token_width p) (line_count p v) (here v)) ++ drop i p) q)

  -- m lines from line v on
  lines-words : (m v : ℕ) → v + m ≤ word p 2 → drop (here v) p ≡ flat_map (line_words (word p 0)) (run (line_tokens p) 1 m v) ++ drop (here (v + m)) p
  unfolding flat_map run
  lines-words zero v l = ap (λ (i : ℕ). drop (here i) p) (sym (add-zero v))
  lines-words (suc m) v l =
      let e : v + 1 + m ≡ v + suc m = omega arith in
      let rest : List ℕ = flat_map (line_words (word p 0)) (run (line_tokens p) 1 m (v + 1)) in
      let ih : drop (here (v + 1)) p ≡ rest ++ drop (here (v + suc m)) p = lines-words m (v + 1) (omega arith)
      ∙ ap (λ (i : ℕ). rest ++ drop (here i) p) e in
      line-words v (omega arith)
      ∙ ap (λ (r : List ℕ). line_words (word p 0) (line_tokens p v) ++ r) ih
      ∙ sym (append_assoc (line_words (word p 0) (line_tokens p v)) rest (drop (here (v + suc m)) p))

  -- their header words
  heads_words : (m v : ℕ) → v + m ≤ word p 2 → 3 + 2 * word p 2 ≤ length p
      → drop (3 + 2 * v) p ≡ head_words (sums v) (run (line_tokens p) 1 m v) ++ drop (3 + 2 * (v + m)) p
  unfolding run head_words
  heads_words zero v k l = ap (λ (i : ℕ). drop (3 + 2 * i) p) (sym (add-zero v))
  heads_words (suc m) v k l =
      let e : v + 1 + m ≡ v + suc m = omega arith in
      let lt : v < word p 2 = omega arith in
      let a : 3 + 2 * v + 1 ≡ 4 + 2 * v = omega arith in
      let b : 4 + 2 * v + 1 ≡ 3 + 2 * (v + 1) = omega arith in
      let n : length (line_tokens p v) ≡ line_count p v = line-long p v in
      rw (n, ← h.next v lt, ← e)
      (drop-word p (3 + 2 * v) (omega arith)
      ∙ ap (λ (y : ℕ). y ∷ drop (3 + 2 * v + 1) p) (h.follow v lt)
      ∙ ap (λ (r : List ℕ). sums v ∷ r)
      (ap (λ (i : ℕ). drop i p) a
      ∙ drop-word p (4 + 2 * v) (omega arith)
      ∙ ap (λ (r : List ℕ). line_count p v ∷ r) (ap (λ (i : ℕ). drop i p) b ∙ heads_words m (v + 1) (omega arith) l)))

  -- THE LAW
  pub plan_words_lem : p ≡ plan_words (word p 0) (plan_lines p)
  unfolding plan_words plan_lines
  plan_words_lem =
      let n : ℕ = word p 2 in
      let ls : List Line = run (line_tokens p) 1 n 0 in
      let tokens : List ℕ = flat_map (line_words (word p 0)) ls in
      let whole = h.whole in
      let long : 3 + 2 * n ≤ length p = omega (arith, whole) in
      let z : 0 + n ≡ n = omega arith in
      let past : length p ≤ here n = omega (arith, whole) in
      let zeroth : token_width p * sums 0 ≡ 0 = rw h.zeroth (mul-zero (token_width p)) in
      let start : 3 + 2 * n ≡ here 0 = omega (arith, zeroth) in
      let tail : drop (3 + 2 * n) p ≡ tokens =
      ap (λ (i : ℕ). drop i p) start
      ∙ lines-words n 0 (omega arith)
      ∙ ap (λ (r : List ℕ). tokens ++ r) (ap (λ (i : ℕ). drop (here i) p) z ∙ drop_of_length-le p past)
      ∙ append-nil tokens in
      let rest : drop 3 p ≡ head_words 0 ls ++ tokens =
      heads_words n 0 (omega arith) long
      ∙ ap (λ (s : ℕ). head_words s ls ++ drop (3 + 2 * (0 + n)) p) h.zeroth
      ∙ ap (λ (r : List ℕ). head_words 0 ls ++ r) (ap (λ (i : ℕ). drop (3 + 2 * i) p) z ∙ tail) in
      let all : p ≡ word p 0 ∷ word p 1 ∷ word p 2 ∷ (head_words 0 ls ++ tokens) =
      drop-word p 0 (omega arith)
      ∙ ap (λ (r : List ℕ). word p 0 ∷ r)
      (drop-word p 1 (omega arith) ∙ ap (λ (r : List ℕ). word p 1 ∷ r) (drop-word p 2 (omega arith)
      ∙ ap (λ (r : List ℕ). word p 2 ∷ r) rest)) in
      let size : word p 1 ≡ 3 + length (head_words 0 ls ++ tokens) = h.total ∙ ap length all ∙ three _ in
      all
      ∙ ap (λ (a : ℕ). word p 0 ∷ a ∷ word p 2 ∷ (head_words 0 ls ++ tokens)) size
      ∙ ap (λ (a : ℕ). word p 0 ∷ (3 + length (head_words 0 ls ++ tokens)) ∷ a ∷ (head_words 0 ls ++ tokens)) (sym (length_run (line_tokens p) 1 n 0))
