-- What a reader gives, from opening it to "no more". Assumes nothing.
use mathlib.Core.Path.{◌≡◌, refl, ap, ◌∙◌}
use mathlib.Core.List.{List, []}
use Prim.Native.Nat.{ℕ, zero, suc, ◌^◌, ◌≤◌, ◌<◌}
use native.Mathlib.Omega.{arith}
use lib.ListN.{length}
use Rattle.words.specs.Words.{word}
use Rattle.lines.specs.declared.Position.{Position}
use Rattle.lines.specs.declared.Step.{Step}
use Rattle.lines.specs.declared.Step.TheVariants.{Handed, NoMore}
use Rattle.lines.specs.Lines.{line_count, line_of}
use Rattle.plan.proofs.Good.{plan_good, no_number}
use Rattle.lines.proofs.Laws.{line-length}
use Rattle.lines.specs.Walk.{step_of}
use Rattle.lines.specs.Reading.{hands_out, handed}
use Rattle.lines.proofs.Reading.{for_ever, nowhere_none}
use Rattle.plan.proofs.Reading.{handed-line}
use Rattle.reader.specs.Opening.{open_fault, open_at}
use Rattle.reader.proofs.Opening.{opened_at, refused_at, opened_good}
use Rattle.reader.specs.Claims.{next_of, after}

-- a step at "no more" says "no more" again
pub no_more_again : (p : List ℕ) (q back : Position) → step_of p q ≡ NoMore back → step_of p back ≡ NoMore back
no_more_again p q back h = (for_ever p q back h).1

-- "then "no more" for ever": the reader stays where it is
pub no_more_ever : (p : List ℕ) (n : ℕ) (q : Position) → step_of p q ≡ NoMore q → after p n q ≡ q
unfolding after
no_more_ever p zero q h = refl
no_more_ever p (suc n) q h = ap (after p n) (ap next_of h) ∙ no_more_ever p n q h

-- where one step more than n hands out no more than n tokens, "no more" is come to after n
first-stop : (p : List ℕ) (q : Position) (s : Step) → step_of p q ≡ s → length (hands_out s (λ _. [])) ≤ 0 → step_of p q ≡ NoMore q
first-stop p q (Handed t next) e h = absurd (omega arith)
first-stop p q (NoMore back) e h = e ∙ ap NoMore (for_ever p q back e).0

later-stop : (p : List ℕ) (n : ℕ) (q : Position) (s : Step) → step_of p q ≡ s
    → ((next : Position) → length (handed p (suc n) next) ≤ n → step_of p (after p n next) ≡ NoMore (after p n next))
    → length (hands_out s (handed p (suc n))) ≤ suc n → step_of p (after p n (next_of s)) ≡ NoMore (after p n (next_of s))
later-stop p n q (Handed t next) e rest h = rest next (omega arith)
later-stop p n q (NoMore back) e rest h = let again = no_more_again p q back e in rw (no_more_ever p n back again) again

stops : (p : List ℕ) (n : ℕ) (q : Position) → length (handed p (suc n) q) ≤ n → step_of p (after p n q) ≡ NoMore (after p n q)
unfolding handed after
stops p zero q h = first-stop p q (step_of p q) refl h
stops p (suc n) q h = later-stop p n q (step_of p q) refl (stops p n) h

module _ (b p : List ℕ) (line : ℕ) where
  -- "hands out value, start and end of each token in turn", and its job, "then "no more" for ever": once opened, as many steps as the line
  -- has tokens, or more, hand out the decoded line, and each step from there on says "no more"
  pub opened_reads : (open_fault b p line).number ≡ 0 → (n : ℕ) → line_count p line ≤ n
      → (handed p n (open_at b p line) ≡ line_of p line) × (step_of p (after p n (open_at b p line)) ≡ NoMore (after p n (open_at b p line)))
  opened_reads h n l =
      let g = opened_good b p line h in
      let all : (m : ℕ) → line_count p line ≤ m → handed p m (open_at b p line) ≡ line_of p line =
      λ m k. rw (opened_at b p line h) (handed-line b p (plan_good b p (no_number b p g.1)) line g.2 m k) in
      (all n l, stops p n (open_at b p line) (rw (all (suc n) (omega arith), line-length p line) l))

  -- "refused, at token N, start 0, which names none": no count of 32 bits is above N
  pub refused_reads_nothing : ((k : ℕ) → word p k < 2 ^ 32) → ((open_fault b p line).number ≡ 0 → ⊥)
      → step_of p (open_at b p line) ≡ NoMore (open_at b p line)
  refused_reads_nothing small h = rw (refused_at b p line h) (nowhere_none p line (small _))
