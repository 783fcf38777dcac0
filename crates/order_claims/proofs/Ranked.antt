-- The plan by ranks, token by token: the same values and jobs, and each start and end is replaced by its rank. And ranks stand in the same order as
-- times, so the judge by ranks gives the main judge's answer. Assumes nothing.
use mathlib.Core.Path.{◌≡◌, refl, sym, ap, ◌∙◌}
use mathlib.Core.Bool.{Bool, true, false, cond}
use mathlib.Core.List.{List, [], ◌∷◌, map}
use Prim.Native.Nat.{ℕ, zero, suc, ◌+◌, ◌-◌, ◌*◌, ◌≤◌, ◌<◌}
use native.Mathlib.Nat.{add-zero, add-suc, mul-zero, mul-suc, mul-le-mul_left, mul-add}
use native.Mathlib.Decide.{dec_le, ℕ_discrete}
use native.Mathlib.Omega.{arith}
use lib.Dec.{ltb, eqb}
use lib.ListN.{length, get_or, set, length-set, length-map}
use lib.Seq.{get_or-set_same, get_or-set_other, ext_get_or}
use borrow.Author.Tests.{ltb-true, ltb-false, lt-ltb, le-ltb, eqb-true}
use Rattle.answers.specs.Numbers.{no_fault, or_else}
use Rattle.answers.proofs.Stages.{else_next}
use Rattle.words.specs.Words.{word}
use Rattle.layout.specs.Layout.{count}
use Rattle.book.specs.Rules.{rules_of}
use Rattle.book.specs.Encode.{atoms}
use Rattle.book.specs.Fault.{book_fault}
use Rattle.lines.specs.declared.Token.{Token}
use Rattle.lines.specs.Lines.{token_width, token, line_first, line_count, line_place, value_of, duration_of, job_at, job_of, start_of, line_of, lines_of}
use Rattle.lines.proofs.Laws.{line-length, line-token}
use Rattle.lines.proofs.Width.{width_three}
use Rattle.plan.specs.Fault.{plan_fault}
use Rattle.plan.specs.Good.{PlanGood}
use Rattle.choice.specs.Met.{nobody}
use Rattle.verdict.specs.Judged.{judged}
use Rattle.claims.proofs.FaultsOfTables.{book_none}
use Rattle.claims.proofs.Laws.{else_agree}
use Rattle.sweep.specs.Ranks.{endpoint, rank}
use Rattle.sweep.specs.Sweeps.{tokens_on, Sweeps}
use Rattle.sweep.proofs.At.{duration_at, words-some}
use Rattle.sweep.proofs.Ranks.{token-starts, token-ends}
use Rattle.order.specs.Ranked.{rank_tokens, rank_line, rank_lines, ranked_plan}
use Rattle.order.proofs.Numbers.{rank_le, rank_lt}
use Rattle.order.proofs.Ranking.{length-lines}
use Rattle.order.proofs.Good.{plan_sweeps, plan_fine, tokens_sum, tokens_keep, lines_keep, ranked_count}
use Rattle.order.specs.Profile.{order_only, profile_fault}
use Rattle.order.specs.Judged.{judged_by_order}
use Rattle.order_claims.specs.Pairs.{Pairs}
use Rattle.order_claims.proofs.Pairs.{pairs_of}
use Rattle.order_claims.proofs.Alike.{TokenAlike, rules_alike}
use Rattle.order_claims.proofs.InProfile.{profile_iff, profile_order, profile_rules}
use Rattle.order_claims.specs.Ranked.{by_rank}

-- ---- what putting durations changes

module _ (f : ℕ → ℕ) (w : ℕ) (two : 2 ≤ w) where
  -- the words r with the new duration of the token at a place
  abbrev put : List ℕ → ℕ → Token → List ℕ
  put r place t = set r (place + 1) (f t.end.tick - f t.start.tick)

  -- nothing behind the tokens
  keep-behind : (r : List ℕ) (place : ℕ) (ts : List Token) (k : ℕ) → place + w * length ts ≤ k → word (rank_tokens f w r place ts) k ≡ word r k
  unfolding rank_tokens
  keep-behind r place [] k l = refl
  keep-behind r place (t ∷ ts) k l =
      let step : w * suc (length ts) ≡ w * length ts + w = mul-suc w (length ts) in
      keep-behind (put r place t) (place + w) ts k (omega arith) ∙ get_or-set_other r (place + 1) k _ 0 (λ e. omega arith)

  -- of a token only the second word
  keep_other : (r : List ℕ) (place : ℕ) (ts : List Token) (j o : ℕ) → o < w → (o ≡ 1 → ⊥)
      → word (rank_tokens f w r place ts) (place + w * j + o) ≡ word r (place + w * j + o)
  unfolding rank_tokens
  keep_other r place [] j o l h = refl
  keep_other r place (t ∷ ts) zero o l h =
      let z : w * 0 ≡ 0 = mul-zero w in
      tokens_keep f w _ (place + w) ts (place + w * 0 + o) (omega arith) ∙ get_or-set_other r (place + 1) (place + w * 0 + o) _ 0 (λ e. h (omega arith))
  keep_other r place (t ∷ ts) (suc j) o l h =
      let at : place + w * suc j + o ≡ place + w + w * j + o = omega (arith, mul-suc w j) in
      rw at (keep_other (put r place t) (place + w) ts j o l h ∙ get_or-set_other r (place + 1) (place + w + w * j + o) _ 0 (λ e. omega arith))

  -- and that becomes the difference
  put_duration : (r : List ℕ) (place : ℕ) (ts : List Token) (j : ℕ) (d : Token) → j < length ts → place + w * length ts ≤ length r
      → word (rank_tokens f w r place ts) (place + w * j + 1) ≡ f (get_or ts j d).end.tick - f (get_or ts j d).start.tick
  unfolding rank_tokens
  put_duration r place [] j d l fits = absurd (omega arith)
  put_duration r place (t ∷ ts) zero d l fits =
      let z : w * 0 ≡ 0 = mul-zero w in
      let step : w * suc (length ts) ≡ w * length ts + w = mul-suc w (length ts) in
      let at : place + w * 0 + 1 ≡ place + 1 = omega arith in
      rw at (tokens_keep f w _ (place + w) ts (place + 1) (omega arith) ∙ get_or-set_same r (place + 1) _ 0 (omega arith))
  put_duration r place (t ∷ ts) (suc j) d l fits =
      let step : w * suc (length ts) ≡ w * length ts + w = mul-suc w (length ts) in
      let at : place + w * suc j + 1 ≡ place + w + w * j + 1 = omega (arith, mul-suc w j) in
      rw at (put_duration (put r place t) (place + w) ts j d (omega arith) (rw (length-set r (place + 1) (f t.end.tick - f t.start.tick)) (omega arith)))

token-same : {x x' s s' e e' j j' : ℕ} → x ≡ x' → s ≡ s' → e ≡ e' → j ≡ j' → token x s e j ≡ token x' s' e' j'
token-same h k l m = cc

-- what is made of the element at an index
get_map : {A B : Type 0} (h : A → B) (xs : List A) (i : ℕ) (d : A) (e : B) → i < length xs → get_or (map h xs) i e ≡ h (get_or xs i d)
get_map h [] i d e l = absurd (omega arith)
get_map h (x ∷ xs) zero d e l = refl
get_map h (x ∷ xs) (suc i) d e l = get_map h xs i d e (omega arith)

-- ---- the lines of a plan that can be swept

-- where a line's tokens stand, by the words of a token
place_at : (p : List ℕ) (v : ℕ) → line_place p v ≡ 3 + 2 * word p 2 + token_width p * line_first p v
place_at p v = refl

value_at_lem : (p : List ℕ) (v j : ℕ) → word p (line_place p v + token_width p * j) ≡ value_of p v j
value_at_lem p v j = refl

tokens_rise : (p : List ℕ) (v m : ℕ) → tokens_on p v ≤ tokens_on p (v + m)
unfolding tokens_on
tokens_rise p v zero = rw (add-zero v) (omega arith)
tokens_rise p v (suc m) = rw (add-suc v m) (omega (arith, tokens_rise p v m))

module _ (b p : List ℕ) (g : PlanGood b p) (s : Sweeps p) where
  abbrev w : ℕ
  w = token_width p

  abbrev f : ℕ → ℕ
  f = rank (lines_of p)

  first-is : (v : ℕ) → v < word p 2 → line_first p v ≡ tokens_on p v
  first-is v l =
      let k : v < count b 0 = omega (arith, g.head.timelines) in
      g.head.follow v k ∙ sym (tokens_sum b p g v (omega arith))

  -- an earlier line's tokens end before a later one's
  lines-apart : (v u : ℕ) → v < u → u < word p 2 → line_place p v + w * line_count p v ≤ line_place p u
  unfolding tokens_on
  lines-apart v u l m =
      let rest : suc v + (u - suc v) ≡ u = omega arith in
      let up : tokens_on p (suc v) ≤ tokens_on p u = rw rest at (tokens_rise p (suc v) (u - suc v)) in
      let sum : line_first p v + line_count p v ≤ line_first p u = omega (arith, first-is v (omega arith), first-is u m) in
      omega (arith, mul-le-mul_left w sum, mul-add w (line_first p v) (line_count p v), place_at p v, place_at p u)

  -- token j of line v stands before the line's end
  inside : (v j : ℕ) → j < line_count p v → line_place p v + w * j + w ≤ line_place p v + w * line_count p v
  inside v j l = let up : w * suc j ≤ w * line_count p v = mul-le-mul_left w l in omega (arith, mul-suc w j)

  -- the words of token j of line v but the second stay
  word_kept : (v j o : ℕ) → v < word p 2 → j < line_count p v → o < w → (o ≡ 1 → ⊥) → (m : ℕ) → m ≤ word p 2
      → word (rank_lines p m) (line_place p v + w * j + o) ≡ word p (line_place p v + w * j + o)
  unfolding rank_lines rank_line
  word_kept v j o l k a h zero n = refl
  word_kept v j o l k a h (suc u) n =
      let ih = word_kept v j o l k a h u (omega arith) in
      elim (ℕ_discrete u v) [
        | yes e ↦ rw e (keep_other f w (words-some p) (rank_lines p v) (line_place p v) (line_of p v) j o a h) ∙ ih
        | no e ↦ elim (dec_le u v) [
          | yes q ↦ keep-behind f w (words-some p) (rank_lines p u) (line_place p u) (line_of p u) _
              (omega (arith, lines-apart u v (omega arith) l, ap (λ (i : ℕ). w * i) (line-length p u))) ∙ ih
          | no q ↦ tokens_keep f w (rank_lines p u) (line_place p u) (line_of p u) _
              (omega (arith, lines-apart v u (omega arith) (omega arith), inside v j k)) ∙ ih
        ]
      ]

  -- the second is the difference of the ranks of its end and its start
  duration_put : (v j : ℕ) → v < word p 2 → j < line_count p v → (m : ℕ) → v < m → m ≤ word p 2
      → word (rank_lines p m) (line_place p v + w * j + 1) ≡ f (start_of p v (suc j)) - f (start_of p v j)
  unfolding rank_lines rank_line start_of
  duration_put v j l k zero a n = absurd (omega arith)
  duration_put v j l k (suc u) a n =
      elim (ℕ_discrete u v) [
        | yes e ↦ rw e
            (put_duration f w (words-some p) (rank_lines p v) (line_place p v) (line_of p v) j nobody (omega (arith, line-length p v))
            (omega (arith, length-lines p v, s.inside v l, ap (λ (i : ℕ). w * i) (line-length p v)))
            ∙ rw (line-token p v j nobody k))
        | no e ↦ tokens_keep f w (rank_lines p u) (line_place p u) (line_of p u) _
            (omega (arith, lines-apart v u (omega arith) (omega arith), inside v j k, words-some p))
            ∙ duration_put v j l k u (omega arith) (omega arith)
      ]

  -- ---- token by token

  abbrev r : List ℕ
  r = ranked_plan p

  -- the header stays
  kept : (k : ℕ) → k ≤ 3 + 2 * word p 2 → word r k ≡ word p k
  unfolding ranked_plan
  kept k l = lines_keep p (word p 2) k l

  width-kept : token_width r ≡ w
  unfolding token_width
  width-kept = rw (kept 0 (omega arith))

  place_kept : (v : ℕ) → v < word p 2 → line_place r v ≡ line_place p v
  place_kept v l = place_at r v ∙ rw (kept 2 (omega arith), kept (3 + 2 * v) (omega arith), width-kept) (sym (place_at p v))

  -- a token's words stand where they stood
  at-kept : (v j : ℕ) → v < word p 2 → line_place r v + token_width r * j ≡ line_place p v + w * j
  at-kept v j l = rw (place_kept v l, width-kept)

  pub value_kept : (v j : ℕ) → v < word p 2 → j < line_count p v → value_of r v j ≡ value_of p v j
  unfolding ranked_plan
  value_kept v j l k =
      let at : ℕ = line_place p v + w * j in
      sym (value_at_lem r v j) ∙ ap (word r) (at-kept v j l ∙ sym (add-zero at))
      ∙ word_kept v j 0 l k (omega (arith, words-some p)) (λ e. omega arith) (word p 2) (omega arith)
      ∙ ap (word p) (add-zero at) ∙ value_at_lem p v j

  -- the job too: it is the third word in edition 2, and else 0
  pub job-kept : (v j : ℕ) → v < word p 2 → j < line_count p v → job_of r v j ≡ job_of p v j
  unfolding job_at
  job-kept v j l k = rw (kept 0 (omega arith), at-kept v j l) (by (eqb (word p 0) 2) refl)
    where
      at : ℕ
      at = line_place p v + w * j

      third : eqb (word p 0) 2 ≡ true → word r (at + 2) ≡ word p (at + 2)
      third e = unfold ranked_plan in word_kept v j 2 l k (omega (arith, width_three p (eqb-true _ _ e))) (λ q. omega arith) (word p 2) (omega arith)

      by : (t : Bool) → eqb (word p 0) 2 ≡ t → cond t (word r (at + 2)) 0 ≡ cond t (word p (at + 2)) 0
      by true e = third e
      by false e = refl

  duration_is : (v j : ℕ) → v < word p 2 → j < line_count p v → duration_of r v j ≡ f (start_of p v (suc j)) - f (start_of p v j)
  unfolding ranked_plan
  duration_is v j l k =
      sym (duration_at r v j) ∙ ap (λ (i : ℕ). word r (i + 1)) (at-kept v j l) ∙ duration_put v j l k (word p 2) l (omega arith)

  -- each starts at the rank of its start
  pub start_ranked : (v j : ℕ) → v < word p 2 → j ≤ line_count p v → start_of r v j ≡ f (start_of p v j)
  unfolding start_of rank
  start_ranked v zero l k = refl
  start_ranked v (suc j) l k =
      let up = rank_le (lines_of p) (start_of p v j) (start_of p v (suc j)) (omega arith) in
      omega (arith, start_ranked v j l (omega arith), duration_is v j l (omega arith))

  -- and ends at the rank of its end
  end_ranked : (v j : ℕ) → v < word p 2 → j < line_count p v → start_of r v j + duration_of r v j ≡ f (start_of p v j + duration_of p v j)
  unfolding start_of
  end_ranked v j l k = start_ranked v (suc j) l (omega arith)

  -- THE LAW: "replaces start and end times by their ranks", line by line
  pub ranked_line : (v : ℕ) → v < word p 2 → line_of r v ≡ map (by_rank (lines_of p)) (line_of p v)
  ranked_line v l =
      ext_get_or nobody (line_of r v) (map (by_rank (lines_of p)) (line_of p v))
      (line-length r v ∙ ranked_count p v l ∙ sym (line-length p v) ∙ sym (length-map (line_of p v) (by_rank (lines_of p))))
      (λ i k.
      let here : i < line_count r v = omega (arith, line-length r v) in
      let there : i < line_count p v = omega (arith, ranked_count p v l) in
      line-token r v i nobody here
      ∙ token-same (value_kept v i l there) (start_ranked v i l (omega arith)) (end_ranked v i l there) (job-kept v i l there)
      ∙ sym
      (get_map (by_rank (lines_of p)) (line_of p v) i nobody nobody (omega (arith, line-length p v))
      ∙ ap (by_rank (lines_of p)) (line-token p v i nobody there)))

  -- ---- ranks stand in the same order as times

  -- x is an endpoint, and x' its rank
  pub record Ranks (x x' : ℕ) : Type 0 where
    pub ends : endpoint (lines_of p) x ≡ true
    pub is : x' ≡ rank (lines_of p) x

  pub same_order : (x x' y y' : ℕ) → Ranks x x' → Ranks y y' → ltb x y ≡ ltb x' y'
  same_order x x' y y' a c = rw (a.is, c.is) (by (ltb x y) refl)
    where
      by : (t : Bool) → ltb x y ≡ t → t ≡ ltb (rank (lines_of p) x) (rank (lines_of p) y)
      by true e = sym (lt-ltb _ _ (rank_lt (lines_of p) x y (ltb-true x y e) a.ends))
      by false e = sym (le-ltb _ _ (rank_le (lines_of p) y x (ltb-false x y e)))

  -- so the lines are alike
  pub lines_alike : (v : ℕ) → v < word p 2 → Pairs (TokenAlike Ranks same_order) (line_of p v) (line_of r v)
  unfolding start_of
  lines_alike v l =
      pairs_of (TokenAlike Ranks same_order) nobody (line_of p v) (line_of r v) (line-length p v ∙ sym (line-length r v ∙ ranked_count p v l))
      (λ i k.
      let there : i < line_count p v = omega (arith, line-length p v) in
      let here : i < line_count r v = omega (arith, ranked_count p v l) in
      rw (line-token p v i nobody there, line-token r v i nobody here)
      (record {
        value = sym (value_kept v i l there);
        start = record { ends = token-starts p v i l there; is = start_ranked v i l (omega arith) };
        end = record { ends = token-ends p v i l there; is = end_ranked v i l there };
        job = sym (job-kept v i l there);
      }))

-- THE CLAIM: "It must give the main judge's answer on every such book", for every plan
pub by_order : (b p : List ℕ) → order_only b ≡ true → judged_by_order b p ≡ judged b p
unfolding judged_by_order judged profile_fault
by_order b p o =
    let in_order = profile_order b o in
    let s = (book_none 1 b).0 ((profile_iff b).0 o).passes in
    ap (or_else (book_fault 1 b))
    (rw in_order
    (else_next no_fault _ refl
    ∙ else_agree (plan_fault b p) _ _
    (λ h.
    let g = plan_fine b p h in
    let lines = g.head.timelines in
    let w = plan_sweeps b p g s in
    sym
    (rules_alike (Ranks b p g w) (same_order b p g w) (line_of p) (line_of (ranked_plan p)) (count b 0)
    (λ v l. lines_alike b p g w v (omega (arith, lines)))
    (s.header.some 0 (omega arith)) (rules_of atoms b) (profile_rules b s in_order)))))
