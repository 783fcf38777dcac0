-- The choice of the trigger token and the marks: what a mark that is put or moved makes of it, what the tokens left at the marks come to,
-- and when one choice is later than another. Assumes nothing.
use mathlib.Core.Path.{◌≡◌, refl, sym, ◌∙◌}
use mathlib.Core.Bool.{Bool, true, false}
use mathlib.Core.Logic.{◌⊎◌, inl, inr}
use mathlib.Core.List.{List, [], ◌∷◌, ◌++◌}
use Prim.Native.Nat.{ℕ, zero, suc, ◌+◌, ◌≤◌, ◌<◌}
use native.Mathlib.Omega.{arith}
use lib.Dec.{leb}
use lib.ListN.{length, get_or, set, get_or-eq_default}
use borrow.Author.Tests.{leb-true, leb-false}
use Rattle.lines.specs.declared.Token.{Token}
use Rattle.choice.specs.Met.{Choice, choice_size, nobody, put, token_time}
use Rattle.choice.specs.Exists.{chosen, choice_of}
use Rattle.choice.proofs.Exists.{choice_time, choice-end}
use Rattle.choice.proofs.Laws.{put_first, put_else}
use Rattle.marks.specs.Marked.{Grown, Ahead, Later}

pub choice-set : (last : ℕ) (t : Token) (hs : List Token) (j : ℕ) (x : Token) → j < length hs → length hs ≤ 4
    → choice_of last t (set hs j x) ≡ put (choice_of last t hs) (j + 1) x.start.tick x.end.tick x.job
unfolding choice_of chosen put
choice-set last t [] j x l h = absurd (omega arith)
choice-set last t (a ∷ []) zero x l h = refl
choice-set last t (a ∷ []) (suc j) x l h = absurd (omega arith)
choice-set last t (a ∷ (b ∷ [])) zero x l h = refl
choice-set last t (a ∷ (b ∷ [])) (suc zero) x l h = refl
choice-set last t (a ∷ (b ∷ [])) (suc (suc j)) x l h = absurd (omega arith)
choice-set last t (a ∷ (b ∷ (c ∷ []))) zero x l h = refl
choice-set last t (a ∷ (b ∷ (c ∷ []))) (suc zero) x l h = refl
choice-set last t (a ∷ (b ∷ (c ∷ []))) (suc (suc zero)) x l h = refl
choice-set last t (a ∷ (b ∷ (c ∷ []))) (suc (suc (suc j))) x l h = absurd (omega arith)
choice-set last t (a ∷ (b ∷ (c ∷ (d ∷ [])))) zero x l h = refl
choice-set last t (a ∷ (b ∷ (c ∷ (d ∷ [])))) (suc zero) x l h = refl
choice-set last t (a ∷ (b ∷ (c ∷ (d ∷ [])))) (suc (suc zero)) x l h = refl
choice-set last t (a ∷ (b ∷ (c ∷ (d ∷ [])))) (suc (suc (suc zero))) x l h = refl
choice-set last t (a ∷ (b ∷ (c ∷ (d ∷ [])))) (suc (suc (suc (suc j)))) x l h = absurd (omega arith)
choice-set last t (a ∷ (b ∷ (c ∷ (d ∷ (e ∷ hs))))) j x l h = absurd (omega arith)

pub choice_more : (last : ℕ) (t : Token) (hs : List Token) (x : Token) → length hs < 4
    → choice_of last t (hs ++ (x ∷ [])) ≡ put (choice_of last t hs) (length hs + 1) x.start.tick x.end.tick x.job
unfolding choice_of chosen put
choice_more last t [] x h = refl
choice_more last t (a ∷ []) x h = refl
choice_more last t (a ∷ (b ∷ [])) x h = refl
choice_more last t (a ∷ (b ∷ (c ∷ []))) x h = refl
choice_more last t (a ∷ (b ∷ (c ∷ (d ∷ hs)))) x h = absurd (omega arith)

-- the tokens left at the marks of four names
abbrev pub total : Choice → ℕ
total r = token_time r 0 1 + token_time r 0 2 + token_time r 0 3 + token_time r 0 4

pub total_falls : (r : Choice) (k a z j : ℕ) → length r ≡ choice_size → 1 ≤ k → k ≤ 4 → a < token_time r 0 k → total (put r k a z j) < total r
total_falls r zero a z j h l g f = absurd (omega arith)
total_falls r (suc zero) a z j h l g f =
    omega (arith, put_first r 1 a z j (omega arith), put_else r 1 a z j 0 2 (omega arith) (λ q. omega arith), put_else r 1 a z j 0 3 (omega arith) (λ q. omega arith), put_else r 1 a z j 0 4 (omega arith) (λ q. omega arith))
total_falls r (suc (suc zero)) a z j h l g f =
    omega (arith, put_first r 2 a z j (omega arith), put_else r 2 a z j 0 1 (omega arith) (λ q. omega arith), put_else r 2 a z j 0 3 (omega arith) (λ q. omega arith), put_else r 2 a z j 0 4 (omega arith) (λ q. omega arith))
total_falls r (suc (suc (suc zero))) a z j h l g f =
    omega (arith, put_first r 3 a z j (omega arith), put_else r 3 a z j 0 1 (omega arith) (λ q. omega arith), put_else r 3 a z j 0 2 (omega arith) (λ q. omega arith), put_else r 3 a z j 0 4 (omega arith) (λ q. omega arith))
total_falls r (suc (suc (suc (suc zero)))) a z j h l g f =
    omega (arith, put_first r 4 a z j (omega arith), put_else r 4 a z j 0 1 (omega arith) (λ q. omega arith), put_else r 4 a z j 0 2 (omega arith) (λ q. omega arith), put_else r 4 a z j 0 3 (omega arith) (λ q. omega arith))
total_falls r (suc (suc (suc (suc (suc k))))) a z j h l g f = absurd (omega arith)

-- a choice that is ahead at a name has a later token for it
pub ahead_token : (last : ℕ) (t u : Token) (hs ts : List Token) (x : ℕ) → length hs ≤ 4 → length ts ≤ 4 → Ahead (choice_of last t hs) (choice_of last u ts) x
    → ((get_or (t ∷ hs) x nobody).start.tick < (get_or (u ∷ ts) x nobody).start.tick) ⊎ ((get_or (t ∷ hs) x nobody).end.tick < (get_or (u ∷ ts) x nobody).end.tick)
ahead_token last t u hs ts x h g a = go a.kind a.token a.ahead
  where
    go : (kind : ℕ) → kind < 2 → token_time (choice_of last t hs) kind x < token_time (choice_of last u ts) kind x
        → ((get_or (t ∷ hs) x nobody).start.tick < (get_or (u ∷ ts) x nobody).start.tick) ⊎ ((get_or (t ∷ hs) x nobody).end.tick < (get_or (u ∷ ts) x nobody).end.tick)
    go zero l q = inl (rw (← (choice_time last t hs x h).0, ← (choice_time last u ts x g).0) q)
    go (suc zero) l q = inr (rw (← (choice_time last t hs x h).1, ← (choice_time last u ts x g).1) q)
    go (suc (suc k)) l q = absurd (omega arith)

-- tokens that are later at each name make a choice of later tokens
pub grown_tokens : (last n : ℕ) (t u : Token) (hs ts : List Token) → length hs ≡ n → length ts ≡ n → n ≤ 4 → Later t u
    → ((j : ℕ) → j < n → Later (get_or hs j nobody) (get_or ts j nobody)) → Grown n (choice_of last t hs) (choice_of last u ts)
grown_tokens last n t u hs ts lh lt four l f = record { last = choice-end last t hs (omega arith) ∙ sym (choice-end last u ts (omega arith)); later = later; past = past }
  where
    both : (x : ℕ) → Later (get_or (t ∷ hs) x nobody) (get_or (u ∷ ts) x nobody)
    both zero = l
    both (suc j) = go (leb n j) refl
      where
        go : (a : Bool) → leb n j ≡ a → Later (get_or hs j nobody) (get_or ts j nobody)
        go false q = f j (leb-false n j q)
        go true q =
            let le = leb-true n j q in
            rw (get_or-eq_default hs nobody {n = j} (omega arith), get_or-eq_default ts nobody {n = j} (omega arith))
            (record { start = omega arith; end = omega arith })

    later : (kind x : ℕ) → kind < 2 → token_time (choice_of last t hs) kind x ≤ token_time (choice_of last u ts) kind x
    later zero x k = rw ((choice_time last t hs x (omega arith)).0, (choice_time last u ts x (omega arith)).0) (both x).start
    later (suc zero) x k = rw ((choice_time last t hs x (omega arith)).1, (choice_time last u ts x (omega arith)).1) (both x).end
    later (suc (suc z)) x k = absurd (omega arith)

    none : (a : Token) (xs : List Token) (x : ℕ) → length xs ≡ n → n < x → get_or (a ∷ xs) x nobody ≡ nobody
    none a xs zero h k = absurd (omega arith)
    none a xs (suc j) h k = get_or-eq_default xs nobody {n = j} (omega arith)

    past : (kind x : ℕ) → kind < 2 → n < x → token_time (choice_of last t hs) kind x ≡ token_time (choice_of last u ts) kind x
    past zero x k m = rw ((choice_time last t hs x (omega arith)).0, (choice_time last u ts x (omega arith)).0, none t hs x lh m, none u ts x lt m)
    past (suc zero) x k m = rw ((choice_time last t hs x (omega arith)).1, (choice_time last u ts x (omega arith)).1, none t hs x lh m, none u ts x lt m)
    past (suc (suc z)) x k m = absurd (omega arith)

-- the choice with another trigger token
pub choice_trigger : (last : ℕ) (t u : Token) (hs : List Token) → length hs ≤ 4 → put (choice_of last t hs) 0 u.start.tick u.end.tick u.job ≡ choice_of last u hs
unfolding choice_of chosen put
choice_trigger last t u [] h = refl
choice_trigger last t u (a ∷ []) h = refl
choice_trigger last t u (a ∷ (b ∷ [])) h = refl
choice_trigger last t u (a ∷ (b ∷ (c ∷ []))) h = refl
choice_trigger last t u (a ∷ (b ∷ (c ∷ (d ∷ [])))) h = refl
choice_trigger last t u (a ∷ (b ∷ (c ∷ (d ∷ (e ∷ hs))))) h = absurd (omega arith)

pub choice-long : (last : ℕ) (t : Token) (hs : List Token) → length hs ≤ 4 → length (choice_of last t hs) ≡ choice_size
unfolding choice_of chosen put
choice-long last t [] h = refl
choice-long last t (a ∷ []) h = refl
choice-long last t (a ∷ (b ∷ [])) h = refl
choice-long last t (a ∷ (b ∷ (c ∷ []))) h = refl
choice-long last t (a ∷ (b ∷ (c ∷ (d ∷ [])))) h = refl
choice-long last t (a ∷ (b ∷ (c ∷ (d ∷ (e ∷ hs))))) h = absurd (omega arith)
