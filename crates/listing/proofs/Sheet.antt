-- A sound sheet fits: what listing its choices asks for follows from the rules of document 01. Assumes nothing.
use mathlib.Core.Path.{◌≡◌}
use Prim.Native.Nat.{ℕ, ◌+◌, ◌*◌, ◌≤◌, ◌<◌}
use native.Mathlib.Omega.{arith}
use mathlib.Core.List.{List}
use Rattle.words.specs.Words.{word}
use Rattle.layout.specs.Layout.{count, offset, fifth_most}
use Rattle.book.specs.Sound.{Sound}
use Rattle.book.proofs.Inside.{offsets}
use Rattle.listing.specs.Listed.{Fits, RuleFits}

pub sheet_fits : (s : List ℕ) → Sound 2 s → Fits s
unfolding fifth_most
sheet_fits s h = record { few = h.header.few 2 (omega arith); rules = rule }
  where
    rule : (i : ℕ) → i < count s 2 → RuleFits s (offset s 2 + i * 4)
    rule i l =
        let r = (h.rules i l).alternatives in
        let o = offsets h in
        let short = h.short in
        record {
          inside = omega (arith, r.inside, o.all, o.alternatives);
          asks = λ j m.
              let q : ℕ = offset s 2 + i * 4 in
              let a : ℕ = word s (q + 2) + j in
              let few : word s (offset s 3 + a * 4 + 3) ≤ 8 = (h.alternatives a (omega (arith, r.inside))).asks.few in
              let e : offset s 3 + a * 4 + 3 ≡ offset s 3 + 4 * word s (q + 2) + 4 * j + 3 = omega arith in
              rw e at few;
        }
