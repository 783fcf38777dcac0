-- No claim here rests on an "if" that no input meets: book E's alternative is told "yes" and its earliest times are computed, and one with "at
-- least 40 after" and "at most 30 after" is told "no", so it never meets its rule on a plan that passes. Assumes nothing.
use mathlib.Core.Path.{◌≡◌, refl, ap, ◌∙◌}
use mathlib.Core.List.{List, [], ◌∷◌}
use Prim.Native.Nat.{ℕ, zero, suc, ◌+◌, ◌≤◌, ◌<◌}
use native.Mathlib.Omega.{arith}
use lib.ListN.{get_or}
use Rattle.answers.specs.declared.Numbers.{Numbers}
use Rattle.answers.specs.Numbers.{numbers, or_else}
use Rattle.words.specs.Words.{in_set}
use Rattle.words.specs.Least.{least, first}
use Rattle.words.specs.Runs.{run}
use Rattle.clock.specs.Clock.{no_limit, in_bounds}
use Rattle.layout.specs.Layout.{fifth_width, fifth_most, begins, header_wrong, starts, owner}
use Rattle.records.specs.Wrong.{set_wrong, value_tests, fifth_tests_of, fifth_tests, wrong_word, record_wrong}
use Rattle.book.specs.Fault.{leaves, table_wrong, told_word}
use Rattle.book.specs.Rules.{value_at, variable_at, name_at, atom_at, alternative_at, rule_at, variables_of}
use Rattle.book.specs.Fault as book
use Rattle.book.proofs.Specimen.{book_e}
use Rattle.lines.specs.declared.Token.{Token}
use Rattle.lines.specs.Lines.{token_width, job_at, tokens_from, line_of}
use Rattle.lines.specs.Ends.{end_from, ends_apart, ends_fault}
use Rattle.plan.specs.Fault as plan
use Rattle.claims.specs.Papers.{SatisfiedIn, Maps}
use Rattle.claims.specs.Specimens.{end_book}
use Rattle.earliest.specs.Times.{Times, time_of, AtomMet, no_name, no_atom, TokenTimes, shown_from, shown, Earliest, laid, alternative_of, rule_of, SuitsOf, Told}
use Rattle.earliest.proofs.Filling.{between}
use Rattle.unmeetable.proofs.Answers.{yes-exactly, yes-shows, no-exactly, no-shows, earliest-one}
use Rattle.unmeetable.proofs.Never.{never}
use Rattle.unmeetable.specs.Cases.{times_e, times_end, job_only, hopeless}

-- ---- "yes"

-- book E's job at once, and then the day may end
suits_e : SuitsOf book_e 0 times_e
unfolding run least owner in_bounds value_at variable_at name_at atom_at alternative_at rule_at variables_of time_of
suits_e = record { trigger = λ n. record { lasts = refl; within = omega arith }; names = names; atoms = atoms }
  where
    names : (i : ℕ) → i < 1
        → TokenTimes (variables_of book_e) (get_or (alternative_of book_e 0).names i no_name).variable (get_or (alternative_of book_e 0).names i no_name).value (i + 1) times_e
    names zero l = record { lasts = refl; within = omega arith }
    names (suc i) l = absurd (omega arith)

    atoms : (i : ℕ) → i < 2 → AtomMet (get_or (alternative_of book_e 0).asks i no_atom) times_e
    atoms zero l n = refl
    atoms (suc zero) l n = refl
    atoms (suc (suc i)) l n = absurd (omega arith)

-- none of these is later than in any other choice
first_e : (y : Times) → SuitsOf book_e 0 y → (i : ℕ) → get_or (shown (rule_of book_e 0) (alternative_of book_e 0) times_e) i 0 ≤ get_or (shown (rule_of book_e 0) (alternative_of book_e 0) y) i 0
unfolding run least owner value_at variable_at name_at atom_at alternative_at rule_at variables_of time_of shown shown_from
first_e y s =
    let job = s.trigger (λ e. omega arith) in
    let long = ((between (y.start 0) (y.end 0) 5 60).0 job.lasts).least in
    let around = ((between (y.end 0) (y.end 1) 0 no_limit).0 (s.atoms 1 (omega arith) (λ e. omega arith))).least in
    let within = job.within in
    elim [
      | zero ↦ omega arith
      | suc zero ↦ omega arith
      | suc (suc zero) ↦ omega arith
      | suc (suc (suc zero)) ↦ omega arith
      | suc (suc (suc (suc zero))) ↦ omega arith
      | suc (suc (suc (suc (suc i)))) ↦ omega arith
    ]

earliest_e : Earliest (variables_of book_e) (rule_of book_e 0) (alternative_of book_e 0) times_e
earliest_e = record { suits = suits_e; first = first_e }

sound_e : (book.book_fault 1 book_e).number ≡ 0
unfolding or_else least first fifth_width fifth_most begins header_wrong starts owner set_wrong value_tests fifth_tests_of fifth_tests wrong_word record_wrong leaves table_wrong told_word book.length_fault book.header_fault book.end_fault book.record_fault book.book_fault
sound_e = refl

shown_e : shown (rule_of book_e 0) (alternative_of book_e 0) times_e ≡ 0 ∷ 5 ∷ 0 ∷ 5 ∷ 5 ∷ []
unfolding run least owner name_at alternative_at rule_at shown shown_from
shown_e = refl

-- so whatever is told of it is "yes", with these five times
pub told-E : {r : Numbers} {before after : List ℕ} → Told book_e 0 r before after → (r ≡ numbers 0 1 0) × (after ≡ laid before (0 ∷ 5 ∷ 0 ∷ 5 ∷ 5 ∷ []))
told-E {before = before} t =
    let h = (yes-exactly t sound_e (omega arith)).1 (times_e, suits_e) in
    let y = yes-shows t sound_e (omega arith) h in
    (h, y.shows ∙ ap (laid before) (earliest-one (rule_of book_e 0) (alternative_of book_e 0) y.times times_e y.earliest earliest_e ∙ shown_e))

-- the plan's end alone
earliest_end : Earliest (variables_of end_book) (rule_of end_book 0) (alternative_of end_book 0) times_end
unfolding run least owner in_bounds name_at atom_at alternative_at rule_at time_of shown shown_from
earliest_end =
    record {
      suits = record { trigger = λ n. absurd (n refl); names = λ i l. absurd (omega arith); atoms = atoms };
      first = λ y s. let late = ((between 0 y.plan_end 1 no_limit).0 (s.atoms 0 (omega arith) (λ e. omega arith))).least in
          elim [ zero ↦ omega arith | suc i ↦ omega arith ];
    }
  where
    atoms : (i : ℕ) → i < 1 → AtomMet (get_or (alternative_of end_book 0).asks i no_atom) times_end
    atoms zero l n = refl
    atoms (suc i) l n = absurd (omega arith)

end_sound : (book.book_fault 1 end_book).number ≡ 0
unfolding or_else least first fifth_width fifth_most begins header_wrong starts owner set_wrong value_tests fifth_tests_of fifth_tests wrong_word record_wrong leaves table_wrong told_word book.length_fault book.header_fault book.end_fault book.record_fault book.book_fault
end_sound = refl

shown_end : shown (rule_of end_book 0) (alternative_of end_book 0) times_end ≡ 1 ∷ []
unfolding run least owner name_at alternative_at rule_at shown shown_from
shown_end = refl

pub told-end : {r : Numbers} {before after : List ℕ} → Told end_book 0 r before after → (r ≡ numbers 0 1 0) × (after ≡ laid before (1 ∷ []))
told-end {before = before} t =
    let h = (yes-exactly t end_sound (omega arith)).1 (times_end, earliest_end.suits) in
    let y = yes-shows t end_sound (omega arith) h in
    (h, y.shows ∙ ap (laid before) (earliest-one (rule_of end_book 0) (alternative_of end_book 0) y.times times_end y.earliest earliest_end ∙ shown_end))

earliest_job : Earliest (variables_of job_only) (rule_of job_only 0) (alternative_of job_only 0) times_end
unfolding run least owner in_bounds value_at variable_at name_at atom_at alternative_at rule_at variables_of shown shown_from
earliest_job =
    record {
      suits = record { trigger = λ n. absurd (n refl); names = names; atoms = atoms };
      first = λ y s.
          let one = s.names 0 (omega arith) in
          let long = ((between (y.start 1) (y.end 1) 1 no_limit).0 one.lasts).least in
          let within = one.within in
          elim [ zero ↦ omega arith | suc zero ↦ omega arith | suc (suc zero) ↦ omega arith | suc (suc (suc i)) ↦ omega arith ];
    }
  where
    names : (i : ℕ) → i < 1
        → TokenTimes (variables_of job_only) (get_or (alternative_of job_only 0).names i no_name).variable (get_or (alternative_of job_only 0).names i no_name).value (i + 1) times_end
    names zero l = record { lasts = refl; within = omega arith }
    names (suc i) l = absurd (omega arith)

    atoms : (i : ℕ) → i < 1 → AtomMet (get_or (alternative_of job_only 0).asks i no_atom) times_end
    atoms zero l n = absurd (n refl)
    atoms (suc i) l n = absurd (omega arith)

job_sound : (book.book_fault 1 job_only).number ≡ 0
unfolding or_else least first fifth_width fifth_most begins header_wrong starts owner set_wrong value_tests fifth_tests_of fifth_tests wrong_word record_wrong leaves table_wrong told_word book.length_fault book.header_fault book.end_fault book.record_fault book.book_fault
job_sound = refl

shown_job : shown (rule_of job_only 0) (alternative_of job_only 0) times_end ≡ 0 ∷ 1 ∷ 1 ∷ []
unfolding run least owner name_at alternative_at rule_at shown shown_from
shown_job = refl

pub told-job : {r : Numbers} {before after : List ℕ} → Told job_only 0 r before after → (r ≡ numbers 0 1 0) × (after ≡ laid before (0 ∷ 1 ∷ 1 ∷ []))
told-job {before = before} t =
    let h = (yes-exactly t job_sound (omega arith)).1 (times_end, earliest_job.suits) in
    let y = yes-shows t job_sound (omega arith) h in
    (h, y.shows ∙ ap (laid before) (earliest-one (rule_of job_only 0) (alternative_of job_only 0) y.times times_end y.earliest earliest_job ∙ shown_job))

hopeless-none : (x : Times) → SuitsOf hopeless 0 x → ⊥
unfolding run least owner name_at atom_at alternative_at rule_at time_of
hopeless-none x s =
    let more = ((between (x.start 1) (x.start 2) 40 no_limit).0 (s.atoms 0 (omega arith) (λ e. omega arith))).least in
    let less = ((between (x.start 1) (x.start 2) 0 30).0 (s.atoms 1 (omega arith) (λ e. omega arith))).most (λ e. omega arith) in
    omega arith

hopeless_sound : (book.book_fault 1 hopeless).number ≡ 0
unfolding or_else least first fifth_width fifth_most begins header_wrong starts owner set_wrong value_tests fifth_tests_of fifth_tests wrong_word record_wrong leaves table_wrong told_word book.length_fault book.header_fault book.end_fault book.record_fault book.book_fault
hopeless_sound = refl

-- whatever is told of it is "no", and the lent words are as they were
pub told-hopeless : {r : Numbers} {before after : List ℕ} → Told hopeless 0 r before after → (r ≡ numbers 0 0 0) × (after ≡ before)
told-hopeless t =
    let h = (no-exactly t hopeless_sound (omega arith)).1 hopeless-none in
    (h, (no-shows t hopeless_sound (omega arith) h).stays)

-- a plan of two tokens that passes
abbrev two : List ℕ
two = 1 ∷ 9 ∷ 1 ∷ 0 ∷ 2 ∷ 0 ∷ 45 ∷ 0 ∷ 5 ∷ []

two-passes : (plan.plan_fault hopeless two).number ≡ 0
unfolding or_else least first in_set in_bounds token_width job_at tokens_from line_of end_from ends_apart ends_fault plan.length_fault plan.sum_before plan.head_wrong plan.head_fault plan.end_fault plan.start_of plan.duration_outside plan.not_successor plan.token_fault plan.token_wrong plan.first_token plan.line_wrong plan.tokens_fault plan.plan_fault
two-passes = refl

-- and no choice of its tokens meets the alternative
pub two_never : (t : Token) (ts : List Token) → Maps (SatisfiedIn (line_of two)) (line_of two) t (alternative_of hopeless 0) ts → ⊥
unfolding least owner rule_at
two_never t ts =
    never hopeless two hopeless_sound two-passes 0 (omega arith) hopeless-none t
    (record { line = λ n. absurd (n refl); value = λ n. absurd (n refl) })
    ts
