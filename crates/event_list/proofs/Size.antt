-- How long a plan's list is: two actions for each token, and at most an event for each time at which tokens meet, for the start and for the
-- end. Assumes nothing.
use mathlib.Core.Path.{◌≡◌, refl, sym, ap, ◌∙◌}
use mathlib.Core.Bool.{Bool, true, false, cond}
use mathlib.Core.Logic.{◌⊎◌, inl, inr, ⊎_elim}
use mathlib.Core.List.{List, [], ◌∷◌, map, flat_map}
use Prim.Native.Nat.{ℕ, zero, suc, ◌+◌, ◌-◌, ◌*◌, ◌≤◌, ◌<◌}
use native.Mathlib.Nat.{mul-zero, mul-add, mul_comm, mul-le-mul_left, add-zero}
use native.Mathlib.Decide.{dec_le, ℕ_discrete}
use native.Mathlib.Omega.{arith}
use lib.Dec.{eqb}
use lib.ListN.{length, length-append, length-map}
use borrow.Author.Tests.{eqb-true, eqb-false, eq-eqb, ne_eqb, le-leb}
use Rattle.words.specs.Words.{word}
use Rattle.words.specs.Lists.{All}
use Rattle.words.specs.Runs.{run}
use Rattle.words.proofs.Runs.{length_flat}
use Rattle.lines.specs.Lines.{token_width}
use Rattle.lines.proofs.Width.{width_two, width_three}
use Rattle.event_list.specs.Events.{Event, Line, plan_token, event, end, to_run, start_on, change_on, later, by_line, soonest, sweep, line_ticks, plan_ticks, events_of}
use Rattle.event_list.specs.Words.{action_width, action_words, event_words, list_words}
use Rattle.event_list.specs.Plans.{line_tokens, plan_lines, list_of}
use Rattle.event_list.proofs.Back.{Ends, Together, soonest_le, all-later}
use Rattle.event_list.proofs.Moments.{some_change, all_runs, some-line}
use Rattle.event_list.proofs.Passes.{action-long}
use Rattle.event_list.proofs.Plans.{line-long, lines_long}
use Rattle.event_list.proofs.Good.{Writes, laid, together}

-- ---- the words of events

-- the actions of all events
unfoldable action_count : List Event → ℕ
action_count [] = 0
action_count (e ∷ es) = length e.actions + action_count es

module _ (e : ℕ) where
  words_long : (es : List Event) → length (flat_map (event_words e) es) ≡ 2 * length es + action_width e * action_count es
  unfolding flat_map event_words action_count
  words_long [] = omega (arith, mul-zero (action_width e))
  words_long (v ∷ es) =
      let a = length-append (event_words e v) (flat_map (event_words e) es) in
      let b = length_flat (action_width e) (action_words e) (action-long e) v.actions in
      let c = words_long es in
      let d = mul-add (action_width e) (length v.actions) (action_count es) in
      let f = mul_comm (length v.actions) (action_width e) in
      omega (arith, a, b, c, d, f)

  list_long : (es : List Event) → length (list_words e es) ≡ 3 + 2 * length es + action_width e * action_count es
  unfolding list_words
  list_long es = let a = words_long es in omega (arith, a)

-- ---- of lines

-- the tokens of all lines, and how many lines there are of which something is left
unfoldable pub tokens_of : List Line → ℕ
tokens_of [] = 0
tokens_of (l ∷ ls) = length l + tokens_of ls

-- the ends and starts of a line that are still to come, its running token having started
unfoldable to_come : Line → ℕ
to_come [] = 0
to_come (t ∷ ts) = 1 + 2 * length ts

unfoldable all_to_come : List Line → ℕ
all_to_come [] = 0
all_to_come (l ∷ ls) = to_come l + all_to_come ls

change_count : (m k : ℕ) (l : Line) → length (change_on m k l) + to_come (later m l) ≡ to_come l
unfolding change_on later to_come start_on
change_count m k [] = refl
change_count m k (t ∷ ts) = by (eqb t.duration m) ts
  where
    by : (b : Bool) (ts : Line) → length (cond b (end k t ∷ start_on k ts) []) + to_come
        (cond b ts (plan_token t.value (t.duration - m) t.job ∷ ts)) ≡ 1 + 2 * length ts
    by true [] = refl
    by true (u ∷ us) = omega arith
    by false ts = omega arith

changes_count : (m k : ℕ) (ls : List Line) → length (by_line (change_on m) k ls) + all_to_come (map (later m) ls) ≡ all_to_come ls
unfolding by_line all_to_come
changes_count m k [] = refl
changes_count m k (l ∷ ls) =
    let a = length-append (change_on m k l) (by_line (change_on m) (k + 1) ls) in
    let b = change_count m k l in
    let c = changes_count m (k + 1) ls in
    omega (arith, a, b, c)

sweep_actions : (n : ℕ) (ls : List Line) → action_count (sweep n ls) ≤ all_to_come ls
unfolding sweep action_count
sweep_actions zero ls = omega arith
sweep_actions (suc n) ls = by (soonest (suc n) ls) (sweep_actions n (map (later (soonest (suc n) ls)) ls))
  where
    by : (m : ℕ) → action_count (sweep n (map (later m) ls)) ≤ all_to_come (map (later m) ls)
        → action_count (cond (eqb m 0) [] (event m (by_line (change_on m) 0 ls) ∷ sweep n (map (later m) ls))) ≤ all_to_come ls
    by m ih = on (eqb m 0)
      where
        on : (b : Bool) → action_count (cond b [] (event m (by_line (change_on m) 0 ls) ∷ sweep n (map (later m) ls))) ≤ all_to_come ls
        on true = omega arith
        on false = let c = changes_count m 0 ls in omega (arith, c, ih)

-- with the starts: two for each token
start-count : (k : ℕ) (l : Line) → length (start_on k l) + to_come l ≡ 2 * length l
unfolding start_on to_come
start-count k [] = refl
start-count k (t ∷ ts) = omega arith

starts-count : (k : ℕ) (ls : List Line) → length (by_line start_on k ls) + all_to_come ls ≡ 2 * tokens_of ls
unfolding by_line all_to_come tokens_of
starts-count k [] = refl
starts-count k (l ∷ ls) =
    let a = length-append (start_on k l) (by_line start_on (k + 1) ls) in
    let b = start-count k l in
    let c = starts-count (k + 1) ls in
    omega (arith, a, b, c)

-- ---- how many events: the tokens of a line that another follows
unfoldable followed : Line → ℕ
followed [] = 0
followed (t ∷ ts) = length ts

unfoldable all_followed : List Line → ℕ
all_followed [] = 0
all_followed (l ∷ ls) = followed l + all_followed ls

-- before the end each change takes one of them away
change_follows : (m E k : ℕ) (l : Line) → Ends E l → m < E → 2 * followed (later m l) + length (change_on m k l) ≤ 2 * followed l
unfolding change_on later followed start_on line_ticks
change_follows m E k [] h lt = omega arith
change_follows m E k (t ∷ ts) h lt = by (eqb t.duration m) refl ts h.end
  where
    by : (b : Bool) → eqb t.duration m ≡ b → (ts : Line) → t.duration + line_ticks ts ≡ E
        → 2 * followed (cond b ts (plan_token t.value (t.duration - m) t.job ∷ ts)) + length
        (cond b (end k t ∷ start_on k ts) []) ≤ 2 * length ts
    by true e [] z = absurd (omega (arith, z, eqb-true t.duration m e))
    by true e (u ∷ us) z = omega arith
    by false e ts z = omega arith

changes_follow : (m E k : ℕ) (ls : List Line) → All (Ends E) ls → m < E
    → 2 * all_followed (map (later m) ls) + length (by_line (change_on m) k ls) ≤ 2 * all_followed ls
unfolding by_line all_followed
changes_follow m E k [] h lt = omega arith
changes_follow m E k (l ∷ ls) h lt =
    let a = length-append (change_on m k l) (by_line (change_on m) (k + 1) ls) in
    let b = change_follows m E k l h.0 lt in
    let c = changes_follow m E (k + 1) ls h.1 lt in
    omega (arith, a, b, c)

-- after the end there is none
sweep-none : (n E : ℕ) (ls : List Line) → 0 < length ls → All (Ends E) ls → E ≡ 0 → length (sweep n ls) ≡ 0
unfolding sweep soonest to_run line_ticks
sweep-none zero E ls p h z = refl
sweep-none (suc n) E [] p h z = absurd (omega arith)
sweep-none (suc n) E ([] ∷ ls) p h z = rw (le-leb 0 (soonest (suc n) ls) (omega arith))
sweep-none (suc n) E ((t ∷ ts) ∷ ls) p h z = absurd (omega (arith, h.0.end, h.0.long.0))

sweep_events : (n E : ℕ) (ls : List Line) → E ≤ n → All (Ends E) ls → 0 < length ls → length (sweep n ls) ≤ 1 + all_followed ls
unfolding sweep
sweep_events zero E ls le h p = omega arith
sweep_events (suc n) E ls le h p =
    by (soonest (suc n) ls) refl
    (λ q k. sweep_events n (E - soonest (suc n) ls) (map (later (soonest (suc n) ls)) ls) (omega arith) (all-later (soonest (suc n) ls) E q ls h k)
    (rw (length-map ls (later (soonest (suc n) ls))) p))
  where
    by : (m : ℕ) → soonest (suc n) ls ≡ m
        → (0 < m → All (λ (l : Line). m ≤ to_run l) ls → length (sweep n (map (later m) ls)) ≤ 1 + all_followed (map (later m) ls))
        → length (cond (eqb m 0) [] (event m (by_line (change_on m) 0 ls) ∷ sweep n (map (later m) ls))) ≤ 1 + all_followed ls
    by zero e ih = omega arith
    by (suc k) e ih =
        rw (ne_eqb (suc k) 0 (λ z. omega (arith, z)))
        (elim (ℕ_discrete (E - suc k) 0) [
          | yes z ↦ let o = sweep-none n (E - suc k) (map (later (suc k)) ls) (rw (length-map ls (later (suc k))) p)
              (all-later (suc k) E (omega arith) ls h q) z in omega (arith, o)
          | no z ↦
              let some = some_change (suc n) (suc k) 0 ls (omega arith) p (all_runs (suc n) E ls le h) e in
              let few = changes_follow (suc k) E 0 ls h (omega (arith, z)) in
              let rest = ih (omega arith) q in
              omega (arith, some, few, rest)
        ])
      where
        q : All (λ (l : Line). suc k ≤ to_run l) ls
        q = soonest_le (suc n) (suc k) ls (omega (arith, e))

-- of lines that have tokens, all but one of each are followed
all-followed : (E : ℕ) (ls : List Line) → 0 < E → All (Ends E) ls → all_followed ls + length ls ≡ tokens_of ls
unfolding all_followed followed tokens_of line_ticks
all-followed E [] p h = refl
all-followed E ([] ∷ ls) p h = absurd (omega (arith, h.0.end))
all-followed E ((t ∷ ts) ∷ ls) p h = let a = all-followed E ls p h.1 in omega (arith, a)

-- ---- the list of lines that end together

-- a plan without tokens has a list of three words; of another, two actions for each token, and at most so many events
pub list_few : (e : ℕ) (ls : List Line) → Together ls
    → (length (list_words e (events_of ls)) ≡ 3) ⊎ (length (list_words e (events_of ls)) + 2 * length ls ≤ 7 + 2 * tokens_of ls + action_width e *
    (2 * tokens_of ls))
unfolding events_of Together action_count
list_few e ls h = by (eqb (plan_ticks ls) 0) refl
  where
    by : (b : Bool) → eqb (plan_ticks ls) 0 ≡ b
        → (length (list_words e (cond b [] (event 0 (by_line start_on 0 ls) ∷ sweep (plan_ticks ls) ls))) ≡ 3)
        ⊎ (length (list_words e (cond b [] (event 0 (by_line start_on 0 ls) ∷ sweep
        (plan_ticks ls) ls))) + 2 * length ls ≤ 7 + 2 * tokens_of ls + action_width e * (2 * tokens_of ls))
    by true z = let a = list_long e [] in let m = mul-zero (action_width e) in inl (omega (arith, a, m))
    by false z =
        let some : plan_ticks ls ≡ 0 → ⊥ = eqb-false (plan_ticks ls) 0 z in
        let es : List Event = event 0 (by_line start_on 0 ls) ∷ sweep (plan_ticks ls) ls in
        let a = list_long e es in
        let b = starts-count 0 ls in
        let c = sweep_actions (plan_ticks ls) ls in
        let d = sweep_events (plan_ticks ls) (plan_ticks ls) ls (omega arith) h (some-line ls some) in
        let f = all-followed (plan_ticks ls) ls (omega (arith, some)) h in
        let most : action_width e * action_count es ≤ action_width e * (2 * tokens_of ls) = mul-le-mul_left (action_width e) (omega (arith, b, c)) in
        inr (omega (arith, a, d, f, most))

-- ---- the list of a plan

-- by lines, tokens and words, in plain numbers
small_1 : (lines tokens words : ℕ) → 3 + 2 * lines + 2 * tokens ≤ 16384 → tokens ≤ 512 * lines → lines ≤ 16
    → words + 2 * lines ≤ 7 + 2 * tokens + 3 * (2 * tokens) → words ≤ 65367
small_1 lines tokens words a b c d = elim (dec_le lines 15) [ yes h ↦ omega arith | no h ↦ omega arith ]

small_2 : (lines tokens words : ℕ) → 3 + 2 * lines + 3 * tokens ≤ 16384 → tokens ≤ 512 * lines → lines ≤ 16
    → words + 2 * lines ≤ 7 + 2 * tokens + 4 * (2 * tokens) → words ≤ 54515
small_2 lines tokens words a b c d = elim (dec_le lines 10) [ yes h ↦ omega arith | no h ↦ omega arith ]

module _ (b p : List ℕ) (w : Writes b p) where
  -- its tokens are those that the header counts
  count_tokens : (m v : ℕ) → v + m ≤ word p 2 → (laid b p w).sums v + tokens_of (run (line_tokens p) 1 m v) ≡ (laid b p w).sums (v + m)
  unfolding tokens_of run
  count_tokens zero v l = let e : v + 0 ≡ v = add-zero v in rw e (omega arith)
  count_tokens (suc m) v l =
      let e : v + 1 + m ≡ v + suc m = omega arith in
      let a = line-long p v in
      let c = (laid b p w).next v (omega arith) in
      let ih = count_tokens m (v + 1) (omega arith) in
      rw (← e) (omega (arith, a, c, ih))

  few_tokens : (m v : ℕ) → v + m ≤ word p 2 → tokens_of (run (line_tokens p) 1 m v) ≤ 512 * m
  unfolding tokens_of run
  few_tokens zero v l = omega arith
  few_tokens (suc m) v l =
      let a = line-long p v in
      let c = w.plan.head.few v (omega (arith, l, w.plan.head.timelines)) in
      let ih = few_tokens m (v + 1) (omega arith) in
      omega (arith, a, c, ih)

  -- so many lines and tokens fit a plan
  abbrev T : ℕ
  T = tokens_of (plan_lines p)

  token_room : (3 + 2 * word p 2 + token_width p * T ≤ 16384) × (T ≤ 512 * word p 2) × (word p 2 ≤ 16)
  unfolding plan_lines
  token_room =
      let z : 0 + word p 2 ≡ word p 2 = omega arith in
      let all : T ≡ (laid b p w).sums (word p 2) = sym (zeroth) ∙ count_tokens (word p 2) 0 (omega arith) ∙ ap (laid b p w).sums z in
      let whole = (laid b p w).whole in
      let short = w.plan.short in
      let few = w.book.header.few 0 (omega arith) in
      (rw all (omega (arith, whole, short)), few_tokens (word p 2) 0 (omega arith), omega (arith, few, w.plan.head.timelines))
    where
      zeroth : (laid b p w).sums 0 + T ≡ T
      zeroth = rw (laid b p w).zeroth (omega arith)

  -- "The longest is 65,367 words in edition 1 .. and 54,515 in edition 2"
  pub longest : ((word p 0 ≡ 2 → ⊥) → length (list_of p) ≤ 65367) × (word p 0 ≡ 2 → length (list_of p) ≤ 54515)
  unfolding list_of action_width
  longest = (
    λ n.
        let wide : token_width p ≡ 2 = width_two p n in
        let act : action_width (word p 0) ≡ 3 = rw (ne_eqb (word p 0) 2 n) in
        ⊎_elim (λ k. omega (arith, k)) (λ k. edition_1 (rw wide at token_room.0) (rw act at k))
        (list_few (word p 0) (plan_lines p) (together b p w)),
    λ y.
        let wide : token_width p ≡ 3 = width_three p y in
        let act : action_width (word p 0) ≡ 4 = rw (eq-eqb (word p 0) 2 y) in
        ⊎_elim (λ k. omega (arith, k)) (λ k. edition_2 (rw wide at token_room.0) (rw act at k))
        (list_few (word p 0) (plan_lines p) (together b p w)),
  )
    where
      L : ℕ
      L = length (list_words (word p 0) (events_of (plan_lines p)))

      edition_1 : 3 + 2 * word p 2 + 2 * T ≤ 16384 → L + 2 * length (plan_lines p) ≤ 7 + 2 * T + 3 * (2 * T) → L ≤ 65367
      edition_1 r k = small_1 (word p 2) T L r token_room.1 token_room.2 (omega (arith, k, lines_long p))

      edition_2 : 3 + 2 * word p 2 + 3 * T ≤ 16384 → L + 2 * length (plan_lines p) ≤ 7 + 2 * T + 4 * (2 * T) → L ≤ 54515
      edition_2 r k = small_2 (word p 2) T L r token_room.1 token_room.2 (omega (arith, k, lines_long p))
