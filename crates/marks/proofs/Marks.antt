-- Laws of the marks: raising loses no choice. A mark is put or moved to the first token of the name's value among tokens that no choice's
-- token for that name is outside of: the whole line at first, and what is behind the mark once the name is told to be too early.
-- Assumes nothing.
use mathlib.Core.Path.{◌≡◌, refl, sym, ap, ◌∙◌}
use mathlib.Core.Bool.{Bool, true, false}
use mathlib.Core.Logic.{◌⊎◌, inl, inr, ⊎_elim}
use mathlib.Core.List.{List, [], ◌∷◌, ◌++◌}
use Prim.Native.Nat.{ℕ, ◌+◌, ◌-◌, ◌*◌, ◌^◌, ◌≤◌, ◌<◌}
use native.Mathlib.Numerals.{add-one}
use native.Mathlib.Omega.{arith}
use lib.Dec.{eqb}
use lib.ListN.{length, get_or, set, length-set, length-append, get_or-append}
use lib.Seq.{get_or-set_same, get_or-set_other}
use borrow.Author.Tests.{eqb-true, eqb-false}
use Rattle.words.specs.Words.{word}
use Rattle.words.proofs.Runs.{length_run, run_at}
use Rattle.book.specs.Rules.{name_at}
use Rattle.lines.specs.declared.Token.{Token}
use Rattle.lines.specs.Lines.{token, token_width, tokens_from, line_of}
use Rattle.lines.proofs.Width.{width_few}
use Rattle.lines.specs.Ends.{plan_end}
use Rattle.choice.specs.declared.Alternative.{Alternative}
use Rattle.choice.specs.declared.Tokens.{Tokens}
use Rattle.choice.specs.Met.{Choice, choice_size, job_place, nobody, put, token_time}
use Rattle.choice.specs.Exists.{Among, no_name, chosen, choice_of}
use Rattle.choice.specs.Asked.{asks_hold, triggered_in, tokens_of}
use Rattle.choice.proofs.Laws.{put_first, put_second, put_else, put-long}
use Rattle.choice.proofs.Exists.{choice_time}
use Rattle.std.specs.Prelude.{Option, Some, None}
use Rattle.marks.specs.declared.Seen.{Seen}
use Rattle.marks.specs.Marked.{Advanced, next_of, Grown, Ahead, Told, Later, Choosing, Source, Mark, Marked, Never}
use Rattle.marks.proofs.Lines.{tail_back, first-grow, first-passed}
use Rattle.marks.proofs.Choices.{choice-set, choice_more, total, total_falls, ahead_token, grown_tokens}

pub later_same : (t : Token) → Later t t
later_same t = record { start = omega arith; end = omega arith }

-- the tokens behind a mark, as they were read
pub next-read : (b p : List ℕ) (a : Alternative) (k : ℕ) (c r : Choice) (v left q w s : ℕ) → v ≡ word b (a.name + 2 * (k - 1) + 1) → left ≡ token_time r 0 k
    → q ≡ token_time r 1 k → w ≡ token_width p → s ≡ token_time c 1 k
    → record { value = v; job = None; width = w; count = left - 1; place = q + w; start = s } ≡ next_of b p a k c r
next-read b p a k c r v left q w s hv hl hq hw hs = rw (hv, hl, hq, hw, hs)

pub advanced_as : (p : List ℕ) (k : ℕ) (w w' : Tokens) (c r c' r' : Choice) (f : Bool) → w ≡ w' → Advanced p k w c r c' r' f → Advanced p k w' c r c' r' f
advanced_as p k w w' c r c' r' f h g = rw h at g

module _ (b p : List ℕ) (a : Alternative) (t : Token) where
  -- the end of the plan
  abbrev last : ℕ
  last = plan_end (line_of p)

  -- ---- a choice

  chosen_size : (u : Token) (ts : List Token) → Choosing b p a u ts → length ts ≡ a.names
  chosen_size u ts f = f.each ∙ length_run (name_at b) 2 a.names a.name

  -- its token for name j is of its line and has its value
  chosen_there : (u : Token) (ts : List Token) → Choosing b p a u ts → (j : ℕ) → j < a.names → Among (get_or ts j nobody) (line_of p (name_at b (a.name + j * 2)).variable)
  chosen_there u ts f j l =
      rw (run_at (name_at b) 2 a.names a.name j no_name l) at (f.serve j (omega (arith, length_run (name_at b) 2 a.names a.name))).variable

  chosen_value : (u : Token) (ts : List Token) → Choosing b p a u ts → (j : ℕ) → j < a.names → (get_or ts j nobody).value ≡ (name_at b (a.name + j * 2)).value
  chosen_value u ts f j l =
      rw (run_at (name_at b) 2 a.names a.name j no_name l) at (f.serve j (omega (arith, length_run (name_at b) 2 a.names a.name))).value

  -- ---- a mark is put or moved

  source_same : (j l l' q q' s s' : ℕ) → l' ≡ l → q' ≡ q → s' ≡ s → Source b p a t j l q s → Source b p a t j l' q' s'
  source_same j l l' q q' s s' hl hq hs m = rw (hl, hq, hs) m

  mark_same : (j : ℕ) (h h' : Token) (l l' q q' : ℕ) → h' ≡ h → l' ≡ l → q' ≡ q → Mark b p a t j h l q → Mark b p a t j h' l' q'
  mark_same j h h' l l' q q' x y z m = rw (x, y, z) m

  -- at the start no name is marked
  pub marked_none : (c r : Choice) → a.names ≤ 4 → c ≡ triggered_in p t → length r ≡ choice_size → Marked b p a t 0 c r
  unfolding choice_of chosen
  marked_none c r four h l =
      record { heads = []; size = refl; few = omega arith; four = four; is = h; long = l; each = λ j k. absurd (omega arith) }

  pub marked_full : (i : ℕ) (c r : Choice) → a.names ≤ i → Marked b p a t i c r → Marked b p a t a.names c r
  marked_full i c r h f = let q : i ≡ a.names = omega (arith, f.few) in rw q at f

  marked_by : (i i' j : ℕ) (c c' r r' : Choice) (hs : List Token) (h : Token) (left q : ℕ) (old : Marked b p a t i c r)
      → length hs ≡ i' → i' ≤ a.names → j < i' → c' ≡ choice_of last t hs → r' ≡ put r (j + 1) left q 0 → get_or hs j nobody ≡ h
      → ((x : ℕ) → x < i' → (x ≡ j → ⊥) → (x < i) × (get_or hs x nobody ≡ get_or old.heads x nobody))
      → Mark b p a t j h left q → Marked b p a t i' c' r'
  marked_by i i' j c c' r r' hs h left q old size few lj is hr hh same mk =
      record {
        heads = hs;
        size = size;
        few = few;
        four = old.four;
        is = is;
        long = rw hr (put-long r (j + 1) left q 0 ∙ old.long);
        each = λ x l. each x l (eqb x j) refl;
      }
    where
      room : job_place (j + 1) < length r
      room = omega (arith, old.long, old.four)

      first : token_time r' 0 (j + 1) ≡ left
      first = rw hr (put_first r (j + 1) left q 0 room)

      second : token_time r' 1 (j + 1) ≡ q
      second = rw hr (put_second r (j + 1) left q 0 room)

      other : (kind x : ℕ) → kind < 2 → (x ≡ j → ⊥) → token_time r' kind (x + 1) ≡ token_time r kind (x + 1)
      other kind x k f = rw hr (put_else r (j + 1) left q 0 kind (x + 1) k (λ z. f (omega arith)))

      each : (x : ℕ) → x < i' → (z : Bool) → eqb x j ≡ z → Mark b p a t x (get_or hs x nobody) (token_time r' 0 (x + 1)) (token_time r' 1 (x + 1))
      each x l true z = rw (eqb-true x j z) (mark_same j _ _ _ _ _ _ hh first second mk)
      each x l false z =
          let ne = eqb-false x j z in
          mark_same x _ _ _ _ _ _ (same x l ne).1 (other 0 x (omega arith) ne) (other 1 x (omega arith) ne) (old.each x (same x l ne).0)

  module _ (j k : ℕ) (w : Tokens) (c r c' r' : Choice) (f : Bool) (lj : j < a.names) (s : Source b p a t j w.count w.place w.start)
      (hv : w.value ≡ (name_at b (a.name + j * 2)).value) (g : Advanced p k w c r c' r' f) where
    -- where none is found there is no choice
    sought_never : f ≡ false → Never b p a t
    sought_never h = record { never = λ u l ts q. (g.none h).nowhere (get_or ts j nobody) (s.from u l ts q) (chosen_value u ts q j lj ∙ sym hv) }

    -- else the one found is the mark
    module _ (h : f ≡ true) where
      abbrev seen : Seen
      seen = (g.some h).seen

      abbrev found : Token
      found = token (word p seen.place) seen.start seen.end 0

      found_mark : Mark b p a t j found seen.left seen.place
      found_mark =
          let e = (g.some h).here in
          record {
            some = e.some;
            head = rw e.end;
            source =
                record {
                  from = λ u l ts q. e.skipped.lost (get_or ts j nobody) (s.from u l ts q) (chosen_value u ts q j lj ∙ sym hv);
                  line = λ x q. s.line x (e.skipped.back x q);
                  room = omega (arith, e.skipped.room, s.room);
                  small = omega (arith, e.skipped.small, s.small);
                };
          }

  -- ---- the first marks

  -- the whole line of name j
  pub line_source : (j : ℕ) (w : Tokens) → j < a.names → w ≡ tokens_of b p (a.name + 2 * j) → w.place + 3 * w.count < 2 ^ 60 → w.count < 4294967296
      → Source b p a t j w.count w.place w.start
  unfolding line_of name_at
  line_source j w l h room small =
      record {
        from = λ u g ts f. move (chosen_there u ts f j l);
        line = λ x m. back x m;
        room = room;
        small = omega (arith, ap (λ (z : Tokens). z.start) h);
      }
    where
      two : a.name + 2 * j ≡ a.name + j * 2
      two = omega arith

      is : tokens_from p w.count w.place w.start ≡ line_of p (name_at b (a.name + j * 2)).variable
      is = rw (h, two)

      move : {x : Token} → Among x (line_of p (name_at b (a.name + j * 2)).variable) → Among x (tokens_from p w.count w.place w.start)
      move m = rw is m

      back : (x : Token) → Among x (tokens_from p w.count w.place w.start) → Among x (line_of p (name_at b (a.name + j * 2)).variable)
      back x m = rw is at m

  pub line_value : (j : ℕ) (w : Tokens) → w ≡ tokens_of b p (a.name + 2 * j) → w.value ≡ (name_at b (a.name + j * 2)).value
  unfolding name_at
  line_value j w h = let two : a.name + 2 * j + 1 ≡ a.name + j * 2 + 1 = omega arith in rw h (ap (word b) two)

  module _ (j : ℕ) (c r c' r' : Choice) (w : Tokens) (f : Bool) (lj : j < a.names) (hw : w ≡ tokens_of b p (a.name + 2 * j)) (room : w.place + 3 * w.count < 2 ^ 60)
      (small : w.count < 4294967296) (g : Advanced p (j + 1) w c r c' r' f) where
    pub start_none : f ≡ false → Never b p a t
    start_none h = sought_never j (j + 1) w c r c' r' f lj (line_source j w lj hw room small) (line_value j w hw) g h

    pub start-next : Marked b p a t j c r → f ≡ true → Marked b p a t (j + 1) c' r'
    start-next old h =
        let s = line_source j w lj hw room small in
        let v = line_value j w hw in
        let x = found j (j + 1) w c r c' r' f lj s v g h in
        let e = g.some h in
        marked_by j (j + 1) j c c' r r' (old.heads ++ (x ∷ [])) x e.seen.left e.seen.place old (simp length-append (omega (arith, old.size))) (omega arith) (omega arith)
        (e.times ∙ times x) e.marks (at_last x) (same x) (found_mark j (j + 1) w c r c' r' f lj s v g h)
      where
        times : (x : Token) → put c (j + 1) x.start.tick x.end.tick x.job ≡ choice_of last t (old.heads ++ (x ∷ []))
        times x = rw old.is (rw (← old.size) (sym (choice_more last t old.heads x (omega (arith, old.size, old.four)))))

        at_last : (x : Token) → get_or (old.heads ++ (x ∷ [])) j nobody ≡ x
        at_last x = rw (← old.size) (end old.heads x)
          where
            end : (hs : List Token) (x : Token) → get_or (hs ++ (x ∷ [])) (length hs) nobody ≡ x
            end [] x = refl
            end (h ∷ hs) x = end hs x

        same : (x : Token) (i : ℕ) → i < j + 1 → (i ≡ j → ⊥) → (i < j) × (get_or (old.heads ++ (x ∷ [])) i nobody ≡ get_or old.heads i nobody)
        same x i l ne =
            let lt : i < j = strict i j l ne in (lt, get_or-append old.heads (x ∷ []) nobody i (omega (arith, old.size)))
          where
            strict : (i j : ℕ) → i < j + 1 → (i ≡ j → ⊥) → i < j
            strict i j l ne = omega arith

  -- ---- the marks are moved

  next-token : (u : Token) (ts : List Token) (j : ℕ) → get_or (u ∷ ts) (j + 1) nobody ≡ get_or ts j nobody
  next-token u ts j = rw (add-one j)

  module _ (c r : Choice) (k : Marked b p a t a.names c r) where
    -- every choice is of tokens that are at the marks or later
    choice_grown : (u : Token) → Later t u → (ts : List Token) → Choosing b p a u ts → Grown a.names c (choice_of last u ts)
    choice_grown u g ts f =
        rw k.is
        (grown_tokens last a.names t u k.heads ts k.size (chosen_size u ts f) k.four g
        (λ j l.
        let mk = k.each j l in
        let q = first-grow p (get_or ts j nobody) _ _ _ mk.some (mk.source.from u g ts f) in
        record { start = q.0; end = omega (arith, q.1, ap (λ (z : Token). z.end.tick) mk.head) }))

    choice_pass : (u : Token) (ts : List Token) → Choosing b p a u ts → asks_hold b a (choice_of last u ts) ≡ true
    unfolding choice_of
    choice_pass u ts f = f.pass

    -- the name that is told has a later token in every choice
    choice_ahead : (x : ℕ) (o : Option ℕ) → Told c a.names o (asks_hold b a) → o ≡ Some x → (u : Token) → Later t u → (ts : List Token) → Choosing b p a u ts
        → ((get_or (t ∷ k.heads) x nobody).start.tick < (get_or (u ∷ ts) x nobody).start.tick) ⊎ ((get_or (t ∷ k.heads) x nobody).end.tick < (get_or (u ∷ ts) x nobody).end.tick)
    choice_ahead x o f h u g ts q =
        let z : Ahead c (choice_of last u ts) x = (f.behind x h).ahead (choice_of last u ts) (choice_grown u g ts q) (choice_pass u ts q) in
        ahead_token last t u k.heads ts x (omega (arith, k.size, k.four)) (omega (arith, chosen_size u ts q, k.four)) (rw k.is at z)

    -- it is the trigger token
    pub raise_now : (x : ℕ) (o : Option ℕ) → x ≡ 0 → o ≡ Some x → Told c a.names o (asks_hold b a) → (ts : List Token) → Choosing b p a t ts → ⊥
    raise_now x o h q f ts g =
        ⊎_elim (λ z. omega arith) (λ z. omega arith) (choice_ahead 0 o f (q ∙ ap (λ (y : ℕ). Some y) h) t (later_same t) ts g)

    -- it is name j
    module _ (j x : ℕ) (o : Option ℕ) (hx : x ≡ j + 1) (ho : o ≡ Some x) (q : Told c a.names o (asks_hold b a)) (words : (i : ℕ) → word p i < 4294967296) where
      abbrev next : Tokens
      next = next_of b p a x c r

      below : j < a.names
      below = omega (arith, (q.behind x ho).few)

      mark : Mark b p a t j (get_or k.heads j nobody) (token_time r 0 x) (token_time r 1 x)
      mark = mark_same j _ _ _ _ _ _ refl (ap (token_time r 0) hx) (ap (token_time r 1) hx) (k.each j below)

      ends : token_time c 1 x ≡ (get_or k.heads j nobody).start.tick + word p (token_time r 1 x + 1)
      ends =
          ap (λ (z : Choice). token_time z 1 x) k.is ∙ (choice_time last t k.heads x (omega (arith, k.size, k.four))).1
          ∙ rw (hx, next-token t k.heads j) (rw hx at (ap (λ (z : Token). z.end.tick) mark.head))

      pub mark_some : token_time r 0 x ≡ 0 → ⊥
      mark_some = mark.some

      pub mark_room : next.place + 3 * next.count < 2 ^ 60
      mark_room = omega (arith, mark.source.room, mark.some, (width_few p).1)

      pub mark_small : next.start + 4294967296 * next.count < 2 ^ 64
      mark_small = omega (arith, mark.source.small, mark.some, ends, words (token_time r 1 x + 1))

      next_source : Source b p a t j next.count next.place next.start
      next_source = record { from = from; line = line; room = mark_room; small = mark_small }
        where
          from : (u : Token) → Later t u → (ts : List Token) → Choosing b p a u ts → Among (get_or ts j nobody) (tokens_from p next.count next.place next.start)
          from u g ts f =
              rw ends
              (first-passed p (get_or ts j nobody) (token_time r 0 x) (token_time r 1 x) (get_or k.heads j nobody).start.tick mark_some (mark.source.from u g ts f)
              (⊎_elim (λ z. inl (at-start z)) (λ z. inr (at-end z)) (choice_ahead x o q ho u g ts f)))
            where
              at-start : (get_or (t ∷ k.heads) x nobody).start.tick < (get_or (u ∷ ts) x nobody).start.tick → (get_or k.heads j nobody).start.tick < (get_or ts j nobody).start.tick
              at-start z = rw (hx, next-token t k.heads j, next-token u ts j) at z

              at-end : (get_or (t ∷ k.heads) x nobody).end.tick < (get_or (u ∷ ts) x nobody).end.tick
                  → (get_or k.heads j nobody).start.tick + word p (token_time r 1 x + 1) < (get_or ts j nobody).end.tick
              at-end z =
                  let y : (get_or k.heads j nobody).end.tick < (get_or ts j nobody).end.tick = rw (hx, next-token t k.heads j, next-token u ts j) at z in
                  omega (arith, y, ap (λ (z : Token). z.end.tick) mark.head)

          line : (y : Token) → Among y (tokens_from p next.count next.place next.start) → Among y (line_of p (name_at b (a.name + j * 2)).variable)
          line y g = mark.source.line y (tail_back p y (token_time r 0 x) (token_time r 1 x) (get_or k.heads j nobody).start.tick mark_some (rw ends at g))

      module _ (c' r' : Choice) (f : Bool) (g : Advanced p x next c r c' r' f) where
        value : next.value ≡ (name_at b (a.name + j * 2)).value
        unfolding name_at
        value = let two : a.name + 2 * (x - 1) + 1 ≡ a.name + j * 2 + 1 = omega arith in ap (word b) two

        pub raise_ever : f ≡ false → Never b p a t
        raise_ever h = sought_never j x next c r c' r' f below next_source value g h

        pub raise_next : f ≡ true → Marked b p a t a.names c' r'
        raise_next h =
            let y = found j x next c r c' r' f below next_source value g h in
            let e = g.some h in
            marked_by a.names a.names j c c' r r' (set k.heads j y) y e.seen.left e.seen.place k (simp length-set k.size) (omega arith) below
            (e.times ∙ times y) (e.marks ∙ ap (λ (z : ℕ). put r z e.seen.left e.seen.place 0) hx)
            (get_or-set_same k.heads j y nobody (omega (arith, k.size, below)))
            (λ i l ne. (l, get_or-set_other k.heads j i y nobody ne))
            (found_mark j x next c r c' r' f below next_source value g h)
          where
            times : (y : Token) → put c x y.start.tick y.end.tick y.job ≡ choice_of last t (set k.heads j y)
            times y = rw (k.is, hx) (sym (choice-set last t k.heads j y (omega (arith, k.size, below)) (omega (arith, k.size, k.four))))

        pub raise_less : f ≡ true → total r' < total r
        raise_less h =
            let e = g.some h in
            rw e.marks
            (total_falls r x e.seen.left e.seen.place 0 k.long (omega arith) (omega (arith, below, k.four)) (omega (arith, e.here.skipped.fewer, mark_some)))
