-- Every word of a sound book has 32 bits: header, and each word of a record of each table by its place. Assumes nothing.
use mathlib.Core.Path.{◌≡◌}
use mathlib.Core.Logic.{⊎_elim}
use mathlib.Core.Bool.{Bool}
use mathlib.Core.List.{List}
use Prim.Native.Nat.{ℕ, zero, suc, ◌+◌, ◌-◌, ◌*◌, ◌/◌, ◌%◌, ◌^◌, ◌≤◌, ◌<◌}
use native.Mathlib.Nat.{add-zero, pow-le-pow_right}
use native.Mathlib.Decide.{dec_lt, ℕ_discrete}
use native.Mathlib.Omega.{arith}
use lib.ListN.{length}
use Rattle.words.specs.Words.{word}
use Rattle.layout.specs.Layout.{fifth_width, count, offset, record_at, field, owner, values_of}
use Rattle.book.specs.Sound.{BoundsSound, Exist, TermSound, Sound}
use Rattle.layout.proofs.Bounds.{tables}
use Rattle.book.proofs.Inside.{offsets, owner_owns, value_ranges, ask_ranges}
use Rattle.claims.specs.SoundWords.{Word}

-- bounds, as they stand in a book
bounds_word : {lo x y : ℕ} → BoundsSound lo x y → Word x × Word y
bounds_word s = let t = s.tick in (omega arith, ⊎_elim (λ l. omega arith) (λ q. omega arith) s.limit)

module _ {b : List ℕ} (s : Sound 1 b) where
  few : (t : ℕ) → t < 6 → count b t ≤ 2048
  few = tables (λ t. count b t ≤ 2048)
      (omega (arith, s.header.few 0 (omega arith))) (omega (arith, s.header.few 1 (omega arith))) (omega (arith, s.header.few 2 (omega arith)))
      (omega (arith, s.header.few 3 (omega arith))) (omega (arith, s.header.few 4 (omega arith))) (omega (arith, s.header.few 5 (omega arith)))

  exist_word : (v x : ℕ) → Exist 1 b v x → Word v × Word x
  exist_word v x h =
      let l = h.variable in
      let k = h.value in
      let n = (s.variables v h.variable).few in
      (omega (arith, few 0 (omega arith)), omega arith)

  value_word : (i : ℕ) → i < count b 1 → Word (field 1 b 1 i 2)
  value_word i l =
      let o = owner_owns (value_ranges s) i l in
      let n = (s.variables _ o.there).few in
      let p : 2 ^ values_of 1 b (owner 1 b 0 0 i) ≤ 2 ^ 32 = pow-le-pow_right (omega arith) n in
      omega (arith, (s.values i l).successors)

  -- each word of a record, by its table
  variable_words : (i : ℕ) → i < count b 0 → (j : ℕ) → j < 2 → Word (word b (record_at 1 b 0 i + j))
  variable_words i l zero h = let q = (s.variables i l).inside in omega (arith, few 1 (omega arith))
  variable_words i l (suc zero) h = let q = (s.variables i l).inside in omega (arith, few 1 (omega arith))
  variable_words i l (suc (suc j)) h = absurd (omega arith)

  value_words : (i : ℕ) → i < count b 1 → (j : ℕ) → j < 3 → Word (word b (record_at 1 b 1 i + j))
  value_words i l zero h = rw (add-zero (record_at 1 b 1 i)) (bounds_word (s.values i l).durations).0
  value_words i l (suc zero) h = (bounds_word (s.values i l).durations).1
  value_words i l (suc (suc zero)) h = value_word i l
  value_words i l (suc (suc (suc j))) h = absurd (omega arith)

  rule_words : (i : ℕ) → i < count b 2 → (j : ℕ) → j < 4 → Word (word b (record_at 1 b 2 i + j))
  rule_words i l zero h = ⊎_elim (λ q. omega (arith, q.0)) (λ q. (exist_word _ _ q).0) (s.rules i l).trigger
  rule_words i l (suc zero) h = ⊎_elim (λ q. omega (arith, q.1)) (λ q. (exist_word _ _ q).1) (s.rules i l).trigger
  rule_words i l (suc (suc zero)) h = let q = (s.rules i l).alternatives.inside in omega (arith, few 3 (omega arith))
  rule_words i l (suc (suc (suc zero))) h = let q = (s.rules i l).alternatives.inside in omega (arith, few 3 (omega arith))
  rule_words i l (suc (suc (suc (suc j)))) h = absurd (omega arith)

  alternative_words : (i : ℕ) → i < count b 3 → (j : ℕ) → j < 4 → Word (word b (record_at 1 b 3 i + j))
  alternative_words i l zero h = let q = (s.alternatives i l).names.inside in omega (arith, few 4 (omega arith))
  alternative_words i l (suc zero) h = let q = (s.alternatives i l).names.inside in omega (arith, few 4 (omega arith))
  alternative_words i l (suc (suc zero)) h = let q = (s.alternatives i l).asks.inside in omega (arith, few 5 (omega arith))
  alternative_words i l (suc (suc (suc zero))) h = let q = (s.alternatives i l).asks.inside in omega (arith, few 5 (omega arith))
  alternative_words i l (suc (suc (suc (suc j)))) h = absurd (omega arith)

  name_words_lem : (i : ℕ) → i < count b 4 → (j : ℕ) → j < 2 → Word (word b (record_at 1 b 4 i + j))
  name_words_lem i l zero h = (exist_word _ _ (s.names i l)).0
  name_words_lem i l (suc zero) h = (exist_word _ _ (s.names i l)).1
  name_words_lem i l (suc (suc j)) h = absurd (omega arith)

  -- a term of an alternative with at most four names
  term-word : {n : ℕ} {trigger : Bool} {kind x : ℕ} → n ≤ 4 → TermSound n trigger kind x → Word kind × Word x
  term-word {kind = kind} l t =
      let k = t.kinds in (
        omega arith,
        elim (ℕ_discrete kind 2) [
          | yes q ↦ omega (arith, t.point q)
          | no m ↦
              elim (ℕ_discrete kind 3) [
                | yes q ↦ omega (arith, t.last q)
                | no o ↦ elim (ℕ_discrete kind 4) [ yes q ↦ omega (arith, (t.job q).named) | no j ↦ omega (arith, (t.token (omega arith)).named) ]
              ]
        ],
      )

  atom_words_lem : (i : ℕ) → i < count b 5 → (j : ℕ) → j < 6 → Word (word b (record_at 1 b 5 i + j))
  atom_words_lem i l =
      let a = s.atoms (λ z. omega arith) i l in
      let o = owner_owns (ask_ranges s) i l in
      let n = (s.alternatives _ o.there).names.few in
      elim [
        | zero ↦ λ h. rw (add-zero (record_at 1 b 5 i)) (term-word n a.left).0
        | suc zero ↦ λ h. (term-word n a.left).1
        | suc (suc zero) ↦ λ h. (term-word n a.right).0
        | suc (suc (suc zero)) ↦ λ h. (term-word n a.right).1
        | suc (suc (suc (suc zero))) ↦ λ h. (bounds_word a.bounds).0
        | suc (suc (suc (suc (suc zero)))) ↦ λ h. (bounds_word a.bounds).1
        | suc (suc (suc (suc (suc (suc j))))) ↦ λ h. absurd (omega arith)
      ]

  -- the header's
  offset_few : (t : ℕ) → t < 6 → offset b t ≤ 16384
  offset_few =
      let o = offsets s in
      let l = s.short in
      tables (λ t. offset b t ≤ 16384) (omega arith) (omega arith) (omega arith) (omega arith) (omega arith) (omega arith)

  header-words : (k : ℕ) → k < 14 → Word (word b k)
  header-words zero l = omega (arith, s.header.edition)
  header-words (suc zero) l = omega (arith, s.header.total, s.short)
  header-words (suc (suc k)) l =
      let t : ℕ = k / 2 in
      elim (ℕ_discrete (k % 2) 0) [
        | yes q ↦ let at : suc (suc k) ≡ 2 + 2 * t = omega arith in rw at (omega (arith, few t (omega arith)))
        | no n ↦ let at : suc (suc k) ≡ 3 + 2 * t = omega arith in rw at (omega (arith, offset_few t (omega arith)))
      ]

  -- a place from offset o on is word j of record i
  at-two : (o c k : ℕ) → o ≤ k → k < o + c * 2 → ((i : ℕ) → i < c → (j : ℕ) → j < 2 → Word (word b (o + i * 2 + j))) → Word (word b k)
  at-two o c k l h f = let at : o + (k - o) / 2 * 2 + (k - o) % 2 ≡ k = omega arith in rw at at (f ((k - o) / 2) (omega arith) ((k - o) % 2) (omega arith))

  at_three : (o c k : ℕ) → o ≤ k → k < o + c * 3 → ((i : ℕ) → i < c → (j : ℕ) → j < 3 → Word (word b (o + i * 3 + j))) → Word (word b k)
  at_three o c k l h f = let at : o + (k - o) / 3 * 3 + (k - o) % 3 ≡ k = omega arith in rw at at (f ((k - o) / 3) (omega arith) ((k - o) % 3) (omega arith))

  at_four : (o c k : ℕ) → o ≤ k → k < o + c * 4 → ((i : ℕ) → i < c → (j : ℕ) → j < 4 → Word (word b (o + i * 4 + j))) → Word (word b k)
  at_four o c k l h f = let at : o + (k - o) / 4 * 4 + (k - o) % 4 ≡ k = omega arith in rw at at (f ((k - o) / 4) (omega arith) ((k - o) % 4) (omega arith))

  at_six : (o c k : ℕ) → o ≤ k → k < o + c * 6 → ((i : ℕ) → i < c → (j : ℕ) → j < 6 → Word (word b (o + i * 6 + j))) → Word (word b k)
  at_six o c k l h f = let at : o + (k - o) / 6 * 6 + (k - o) % 6 ≡ k = omega arith in rw at at (f ((k - o) / 6) (omega arith) ((k - o) % 6) (omega arith))

  -- THE THEOREM
  pub sound_words : (k : ℕ) → k < length b → Word (word b k)
  unfolding fifth_width
  sound_words k l =
      let o = offsets s in
      elim (dec_lt k 14) [
        | yes h ↦ header-words k h
        | no n0 ↦ elim (dec_lt k (offset b 1)) [
          | yes h ↦ at-two (offset b 0) (count b 0) k (omega arith) (omega arith) variable_words
          | no n1 ↦ elim (dec_lt k (offset b 2)) [
            | yes h ↦ at_three (offset b 1) (count b 1) k (omega arith) (omega arith) value_words
            | no n2 ↦ elim (dec_lt k (offset b 3)) [
              | yes h ↦ at_four (offset b 2) (count b 2) k (omega arith) (omega arith) rule_words
              | no n3 ↦ elim (dec_lt k (offset b 4)) [
                | yes h ↦ at_four (offset b 3) (count b 3) k (omega arith) (omega arith) alternative_words
                | no n4 ↦ elim (dec_lt k (offset b 5)) [
                  | yes h ↦ at-two (offset b 4) (count b 4) k (omega arith) (omega arith) name_words_lem
                  | no n5 ↦ at_six (offset b 5) (count b 5) k (omega arith) (omega arith) atom_words_lem
                ]
              ]
            ]
          ]
        ]
      ]
