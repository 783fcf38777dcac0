-- Laws of the search from the marks: whether the next name can be placed is whether one of the tokens from its mark on does, since with the
-- tokens given so far every choice has one of those; and one step along them. Assumes nothing.
use mathlib.Core.Path.{◌≡◌, refl, sym, ap, ◌∙◌}
use mathlib.Core.Bool.{Bool, true, false, ◌&&◌, ◌||◌, false≢true}
use mathlib.Core.List.{List, [], ◌∷◌, ◌++◌}
use Prim.Native.Nat.{ℕ, zero, suc, ◌+◌, ◌-◌, ◌*◌, ◌^◌, ◌<◌}
use native.Mathlib.Nat.{add-zero}
use native.Mathlib.Omega.{arith}
use native.Mathlib.Numerals.{sub-one}
use lib.Dec.{eqb, ltb}
use lib.ListN.{length, get_or, length-append, get_or-append}
use lib.Seq.{get_or-append_seam, get_or-append-add}
use borrow.Author.Tests.{eq-eqb, eqb-true, eqb-false, ltb-true, ltb-false}
use Rattle.words.specs.Words.{word}
use Rattle.words.specs.Lists.{any}
use Rattle.words.specs.Runs.{run}
use Rattle.words.proofs.Runs.{length_run, run_at}
use Rattle.book.specs.Rules.{name_at}
use Rattle.lines.specs.declared.Token.{Token}
use Rattle.lines.specs.Lines.{token, token_width, job_at, tokens_from, line_of}
use Rattle.lines.proofs.Width.{width_few}
use Rattle.lines.specs.Ends.{plan_end}
use Rattle.choice.specs.declared.Alternative.{Alternative}
use Rattle.choice.specs.declared.Tokens.{Tokens}
use Rattle.choice.specs.Met.{Choice, choice_size, nobody, triggered, put, token_time, place}
use Rattle.choice.specs.Exists.{Serves, Placed, no_name, chosen, choice_of}
use Rattle.choice.specs.Asked.{asks_hold, placeable, triggered_in, hold_so_far, Tied, tokens_of}
use Rattle.choice.proofs.Exists.{and_both, any_some, some-any, placed_of}
use Rattle.choice.proofs.Laws.{chosen-long}
use Rattle.choice.proofs.SoFar.{so_far_all, so_far_fails}
use Rattle.marks.specs.Marked.{Choosing, Source}
use Rattle.marks.proofs.Lines.{head_there, tail_back}
use Rattle.marks.proofs.Marks.{later_same, line_source, line_value}
use Rattle.std.specs.Prelude.{Option, Some, None}
use Rattle.matching.specs.Search.{of_job, wanted, serving, token_for, Leads, Begun, Along, Tying}

-- two tests of which each follows from the other
both_ways : (x y : Bool) → (x ≡ true → y ≡ true) → (y ≡ true → x ≡ true) → x ≡ y
both_ways true y f g = sym (f refl)
both_ways false true f g = g refl
both_ways false false f g = refl

-- tokens given in two goes
chosen_append : (c : Choice) (k : ℕ) (xs ys : List Token) → chosen c k (xs ++ ys) ≡ chosen (chosen c k xs) (k + length xs) ys
unfolding chosen
chosen_append c k [] ys = ap (λ (z : ℕ). chosen c z ys) (sym (add-zero k))
chosen_append c k (x ∷ xs) ys =
    chosen_append (put c k x.start.tick x.end.tick x.job) (k + 1) xs ys
    ∙ ap (λ (z : ℕ). chosen (chosen (put c k x.start.tick x.end.tick x.job) (k + 1) xs) z ys) (omega arith)

-- the trigger alone, in a plan that ends at `last`
pub trigger_in : (p : List ℕ) (t : Token) (last : ℕ) (c : Choice) → last ≡ plan_end (line_of p) → c ≡ triggered last t → c ≡ triggered_in p t
trigger_in p t last c h e = e ∙ ap (λ (z : ℕ). triggered z t) h

-- the tokens after the first, which is d long
abbrev pub after : Tokens → ℕ → Tokens
after w d =
    record {
      value = w.value;
      job = w.job;
      width = w.width;
      count = w.count - 1;
      place = w.place + w.width;
      start = w.start + d;
    }

-- fewer tokens for the same name
abbrev pub left_of : Tokens → ℕ → ℕ → ℕ → Tokens
left_of w count place start =
    record { value = w.value; job = w.job; width = w.width; count = count; place = place; start = start }

pub wanted-left : (p : List ℕ) (w : Tokens) (count place start at : ℕ) (f : Bool) → f ≡ wanted p w at → f ≡ wanted p (left_of w count place start) at
unfolding wanted
wanted-left p w count place start at f h = h

-- all but the first k of some tokens, and those after the first of them
abbrev pub left_at : Tokens → ℕ → ℕ → ℕ → Tokens
left_at w k place start = left_of w (w.count - k) place start

pub left_all : (w : Tokens) → w ≡ left_at w 0 w.place w.start
left_all w = ap (λ (z : ℕ). left_of w z w.place w.start) (omega arith)

pub after_left : (w : Tokens) (k place start d : ℕ) → after (left_at w k place start) d ≡ left_at w (k + 1) (place + w.width) (start + d)
after_left w k place start d =
    ap (λ (z : ℕ). left_of w z (place + w.width) (start + d)) (omega arith)

module _ (b p : List ℕ) (a : Alternative) where
  -- no name is left: what is asked decides
  pub place_none : (n j : ℕ) (c : Choice) (r : Bool) → j + n ≡ a.names → n ≡ 0 → r ≡ hold_so_far b a c j a.asks a.ask → placeable b p a n j c ≡ r
  unfolding placeable place run
  place_none n j c r all z h = rw z (sym (h ∙ so_far_all b a c j (omega arith)))

  -- what can be tested so far fails
  pub place_fails : (n j : ℕ) (c : Choice) (r : Bool) → j + n ≡ a.names → r ≡ hold_so_far b a c j a.asks a.ask → r ≡ false → placeable b p a n j c ≡ false
  place_fails zero j c r all h q = place_none 0 j c r all refl h ∙ q
  place_fails (suc m) j c r all h q = so_far_fails b p a (suc m) j c (omega arith) (sym h ∙ q)

  -- ---- one step along the tokens

  module _ (n j : ℕ) (c : Choice) (w : Tokens) where
    pub token-none : w.count ≡ 0 → false ≡ token_for b p a n j c w
    unfolding token_for any tokens_from
    token-none h = rw h

    module _ (d job : ℕ) (some : w.count ≡ 0 → ⊥) (hw : w.width ≡ token_width p) (hd : d ≡ word p (w.place + 1)) (hj : job ≡ job_at p w.place) where
      token-step : token_for b p a n j c w
          ≡ (eqb (word p w.place) w.value && placeable b p a n (j + 1) (put c (j + 1) w.start (w.start + d) job) || token_for b p a n j c (after w d))
      unfolding token_for any tokens_from serving
      token-step = rw (hw, hj) (go w.count some)
        where
          go : (count : ℕ) → (count ≡ 0 → ⊥)
              → any (serving b p a n j c w.value) (tokens_from p count w.place w.start)
              ≡ (eqb (word p w.place) w.value && placeable b p a n (j + 1) (put c (j + 1) w.start (w.start + d) (job_at p w.place)) || any (serving b p a n j c w.value) (tokens_from p (count - 1) (w.place + token_width p) (w.start + d)))
          go zero h = absurd (h refl)
          go (suc count) h = simp (hd, sub-one)

      module _ (f : Bool) (hf : f ≡ wanted p w w.place) where
        -- a token that is wanted has the value
        pub wanted_value : f ≡ true → word p w.place ≡ w.value
        unfolding wanted
        wanted_value h = eqb-true _ _ (and_both (eqb (word p w.place) w.value) _ (sym hf ∙ h)).0

        -- the first token does
        pub token_hit : (r : Bool) → f ≡ true → r ≡ placeable b p a n (j + 1) (put c (j + 1) w.start (w.start + d) job) → r ≡ true
            → true ≡ token_for b p a n j c w
        token_hit r h g hit = sym (token-step ∙ rw (wanted_value h, eq-eqb w.value w.value refl, ← g, hit))

        -- it was tried in vain
        pub token_miss : (r : Bool) → f ≡ true → r ≡ placeable b p a n (j + 1) (put c (j + 1) w.start (w.start + d) job) → r ≡ false
            → token_for b p a n j c w ≡ token_for b p a n j c (after w d)
        token_miss r h g miss = token-step ∙ rw (wanted_value h, eq-eqb w.value w.value refl, ← g, miss)

        -- it has another value, or another job than the one that is asked for
        pub token_skip : j + n + 1 ≡ a.names → length c ≡ choice_size → Tied b a c (j + 1) w.job → f ≡ false
            → token_for b p a n j c w ≡ token_for b p a n j c (after w d)
        unfolding wanted
        token_skip all long t h = token-step ∙ by (eqb (word p w.place) w.value) w.job refl (sym hf ∙ h)
          where
            c' : Choice
            c' = put c (j + 1) w.start (w.start + d) job

            fails : (asked : ℕ) → w.job ≡ Some asked → (job_at p w.place ≡ asked → ⊥) → placeable b p a n (j + 1) c' ≡ false
            fails asked q ne = place_fails n (j + 1) c' (hold_so_far b a c' (j + 1) a.asks a.ask) (omega arith) refl (none (hold_so_far b a c' (j + 1) a.asks a.ask) refl)
              where
                none : (z : Bool) → hold_so_far b a c' (j + 1) a.asks a.ask ≡ z → z ≡ false
                none false q = refl
                none true z = absurd (ne (sym hj ∙ t.only asked q long w.start (w.start + d) job z))

            by : (v : Bool) (asked : Option ℕ) → w.job ≡ asked → (v && of_job asked (job_at p w.place)) ≡ false
                → (v && placeable b p a n (j + 1) c' || token_for b p a n j c (after w d)) ≡ token_for b p a n j c (after w d)
            by false asked q g = refl
            by true None q g = absurd (false≢true (sym g))
            by true (Some asked) q g = rw (fails asked q (eqb-false _ _ g))

  pub along_next : (j : ℕ) (w : Tokens) (d : ℕ) → (w.count ≡ 0 → ⊥) → d ≡ word p (w.place + 1) → d < 4294967296 → Along b p a j w
      → Along b p a j (after w d)
  along_next j w d h q l f =
      record {
        value = f.value;
        line = λ x m. f.line x (tail_back p x w.count w.place w.start h (rw (q, f.width) at m));
        width = f.width;
        room = omega (arith, f.room, f.width, (width_few p).1);
        small = omega (arith, f.small);
      }

  pub along_as : (j : ℕ) (w v : Tokens) → w ≡ v → Along b p a j w → Along b p a j v
  along_as j w v h l = rw h at l

  module _ (t : Token) where
    -- ---- the tokens given so far

    pub begun_none : (c : Choice) → c ≡ triggered_in p t → Begun b p a t 0 c
    unfolding choice_of chosen
    begun_none c h = record { tokens = []; size = refl; serve = λ i l. absurd (omega arith); is = h }

    -- one more, from the line of the next name
    begun_more : (j : ℕ) (c : Choice) (x : Token) → Begun b p a t j c → Serves (line_of p) (name_at b (a.name + j * 2)) x
        → Begun b p a t (j + 1) (put c (j + 1) x.start.tick x.end.tick x.job)
    unfolding choice_of chosen
    begun_more j c x f s =
        record {
          tokens = f.tokens ++ (x ∷ []);
          size = simp length-append (omega (arith, f.size));
          serve = λ i l. serve i l (ltb i j) refl;
          is = rw f.is (sym (chosen_append (triggered_in p t) 1 f.tokens (x ∷ []) ∙ ap (λ (z : ℕ). put (chosen (triggered_in p t) 1 f.tokens) z x.start.tick x.end.tick x.job) (omega (arith, f.size))));
        }
      where
        serve : (i : ℕ) → i < j + 1 → (z : Bool) → ltb i j ≡ z → Serves (line_of p) (name_at b (a.name + i * 2)) (get_or (f.tokens ++ (x ∷ [])) i nobody)
        serve i l true q =
            let lt = ltb-true i j q in
            rw (get_or-append f.tokens (x ∷ []) nobody i (omega (arith, f.size))) (f.serve i lt)
        serve i l false q =
            let same : i ≡ j = omega (arith, ltb-false i j q) in
            rw (same, ← f.size, get_or-append_seam f.tokens x [] nobody) (rw (← f.size) at s)

    -- the first of some tokens of the line, which is wanted; d is its length
    pub begun_first : (j : ℕ) (c : Choice) (w : Tokens) (d job : ℕ) (u : Bool) → Begun b p a t j c → Along b p a j w → (w.count ≡ 0 → ⊥)
        → d ≡ word p (w.place + 1) → job ≡ job_at p w.place → u ≡ wanted p w w.place → u ≡ true
        → Begun b p a t (j + 1) (put c (j + 1) w.start (w.start + d) job)
    begun_first j c w d job u f l h q hj hu yea =
        rw hj
        (begun_more j c (token (word p w.place) w.start (w.start + d) (job_at p w.place)) f
        (record {
          variable =
              l.line _
              (head_there p _ w.count w.place w.start h (ap (λ (z : ℕ). token (word p w.place) w.start (w.start + z) (job_at p w.place)) (sym q)));
          value = wanted_value 0 j c w d job h l.width q hj u hu yea ∙ l.value;
        }))

    -- the choice so far has all its places
    pub begun_long : (j : ℕ) (c : Choice) → Begun b p a t j c → length c ≡ choice_size
    unfolding choice_of
    begun_long j c f = ap length f.is ∙ chosen-long (triggered_in p t) 1 f.tokens

    -- ---- from the mark on

    module _ (m j : ℕ) (c : Choice) (f : Begun b p a t j c) (all : j + m + 1 ≡ a.names) where
      -- the tokens given so far, one for the next name, and those for the names after it are a choice
      full : (x : Token) (ts : List Token) → Serves (line_of p) (name_at b (a.name + j * 2)) x
          → Placed (line_of p) (asks_hold b a) (run (name_at b) 2 m (a.name + (j + 1) * 2)) (j + 1 + 1) (put c (j + 1) x.start.tick x.end.tick x.job) ts
          → Choosing b p a t (f.tokens ++ (x ∷ ts))
      unfolding choice_of chosen
      full x ts s q =
          record {
            each = simp (length-append, length_run) (omega (arith, f.size, q.each, length_run (name_at b) 2 m (a.name + (j + 1) * 2)));
            serve = λ i l. rw (run_at (name_at b) 2 a.names a.name i no_name (omega (arith, length_run (name_at b) 2 a.names a.name))) (serve i (omega (arith, length_run (name_at b) 2 a.names a.name)) (ltb i j) refl (eqb i j) refl);
            pass = rw (chosen_append (triggered_in p t) 1 f.tokens (x ∷ ts), ← f.is, place_of) q.pass;
          }
        where
          place_of : 1 + length f.tokens ≡ j + 1
          place_of = omega (arith, f.size)

          serve : (i : ℕ) → i < a.names → (y : Bool) → ltb i j ≡ y → (z : Bool) → eqb i j ≡ z → Serves (line_of p) (name_at b (a.name + i * 2)) (get_or (f.tokens ++ (x ∷ ts)) i nobody)
          serve i l true h z g =
              let lt = ltb-true i j h in
              rw (get_or-append f.tokens (x ∷ ts) nobody i (omega (arith, f.size))) (f.serve i lt)
          serve i l false h true g =
              rw (eqb-true i j g, ← f.size, get_or-append_seam f.tokens x ts nobody) (rw (← f.size) at s)
          serve i l false h false g = later (i - j - 1) (omega (arith, ltb-false i j h, eqb-false i j g))
            where
              later : (k : ℕ) → i ≡ j + 1 + k → Serves (line_of p) (name_at b (a.name + i * 2)) (get_or (f.tokens ++ (x ∷ ts)) i nobody)
              later k e =
                  let lk : k < m = omega (arith, all) in
                  let here : i ≡ length f.tokens + suc k = omega (arith, f.size) in
                  let name : a.name + (j + 1) * 2 + k * 2 ≡ a.name + i * 2 = omega arith in
                  rw (ap (λ (z : ℕ). get_or (f.tokens ++ (x ∷ ts)) z nobody) here ∙ get_or-append-add f.tokens (x ∷ ts) (suc k) nobody, ← name)
                  (rw (run_at (name_at b) 2 m (a.name + (j + 1) * 2) k no_name lk) at (q.serve k (omega (arith, length_run (name_at b) 2 m (a.name + (j + 1) * 2)))))

      -- all tokens of the next name's line
      whole : placeable b p a (suc m) j c ≡ any (serving b p a m j c (name_at b (a.name + j * 2)).value) (line_of p (name_at b (a.name + j * 2)).variable)
      unfolding placeable serving place run
      whole = let two : a.name + (j + 1) * 2 ≡ a.name + j * 2 + 2 = omega arith in rw (← two)

      -- are as good as those from its mark on
      marked : (w : Tokens) → Along b p a j w → Source b p a t j w.count w.place w.start → placeable b p a (suc m) j c ≡ token_for b p a m j c w
      unfolding token_for serving placeable
      marked w l s =
          whole
          ∙ both_ways _ _
          (λ h. let o = any_some _ (line_of p (name_at b (a.name + j * 2)).variable) h in
          let x = o.0 in
          let e = and_both (eqb x.value (name_at b (a.name + j * 2)).value) _ o.2 in
          let q = placed_of (line_of p) (asks_hold b a) (run (name_at b) 2 m (a.name + (j + 1) * 2)) (j + 1 + 1) (put c (j + 1) x.start.tick x.end.tick x.job) e.1 in
          let there = s.from t (later_same t) _ (full x q.0 (record { variable = o.1; value = eqb-true _ _ e.0 }) q.1) in
          some-any _ (tokens_from p w.count w.place w.start) x (rw (here x q.0) at there) (serving_as x (name_at b (a.name + j * 2)).value w.value (sym l.value) o.2))
          (λ h. let o = any_some _ (tokens_from p w.count w.place w.start) h in
          some-any _ (line_of p (name_at b (a.name + j * 2)).variable) o.0 (l.line o.0 o.1) (serving_as o.0 w.value (name_at b (a.name + j * 2)).value l.value o.2))
        where
          serving_as : (x : Token) (v v' : ℕ) → v ≡ v' → serving b p a m j c v x ≡ true → serving b p a m j c v' x ≡ true
          serving_as x v v' e q = rw e at q

          here : (x : Token) (ts : List Token) → get_or (f.tokens ++ (x ∷ ts)) j nobody ≡ x
          here x ts = rw (← f.size) (get_or-append_seam f.tokens x ts nobody)

    -- in the words of the code: n names are left
    pub place-some : (n j : ℕ) (c : Choice) (w : Tokens) → Begun b p a t j c → j + n ≡ a.names → (n ≡ 0 → ⊥) → Along b p a j w
        → Source b p a t j w.count w.place w.start → placeable b p a n j c ≡ token_for b p a (n - 1) j c w
    place-some zero j c w f all h l s = absurd (h refl)
    place-some (suc m) j c w f all h l s = rw sub-one (marked m j c f (omega arith) w l s)

  -- the tokens of the next name: all of its line, or those from its mark on
  pub left-all : (t : Token) (j : ℕ) (w : Tokens) → j < a.names → w ≡ tokens_of b p (a.name + 2 * j) → w.place < 2 ^ 40 → w.count < 2 ^ 32
      → Along b p a j w × Source b p a t j w.count w.place w.start
  left-all t j w l h q r =
      let s = line_source b p a t j w l h (omega arith) (omega arith) in
      (record { value = line_value b p a t j w h; line = s.line; width = ap (λ (z : Tokens). z.width) h; room = s.room; small = s.small }, s)

  pub left_marked : (t : Token) (j k : ℕ) (times rests : Choice) (w : Tokens) (count q start : ℕ) → j < a.names → Leads b p a t times rests → w ≡ tokens_of b p (a.name + 2 * j)
      → k ≡ j + 1 → count ≡ token_time rests 0 k → q ≡ token_time rests 1 k → start ≡ token_time times 0 k → (count ≡ 0 → ⊥)
      → Along b p a j (left_of w count q start) × Source b p a t j count q start
  left_marked t j k times rests w count q start l f h hk hc hq hs some =
      let s : Source b p a t j count q start = rw (hc, hq, hs, hk) (f.each j l (rw (hc, hk) at some)) in
      (record { value = line_value b p a t j w h; line = s.line; width = ap (λ (z : Tokens). z.width) h; room = s.room; small = s.small }, s)

  -- the job that the name is tied to changes nothing else
  pub along_tied : (c : Choice) (j : ℕ) (w v : Tokens) → Tying b a c j w v → Along b p a j w → Along b p a j v
  along_tied c j w v f l = rw f.same (record { value = l.value; line = l.line; width = l.width; room = l.room; small = l.small })

  pub source_tied : (t : Token) (c : Choice) (j : ℕ) (w v : Tokens) → Tying b a c j w v → Source b p a t j w.count w.place w.start
      → Source b p a t j v.count v.place v.start
  source_tied t c j w v f s =
      let h = f.same in
      rw (ap (λ (z : Tokens). z.count) h, ap (λ (z : Tokens). z.place) h, ap (λ (z : Tokens). z.start) h) s
