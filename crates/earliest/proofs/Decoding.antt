-- What a sound book's alternative asks can be put into the table, and is what its decoded trigger, names and atoms ask. Assumes nothing.
use mathlib.Core.Path.{◌≡◌, refl, sym, ap, ◌∙◌, subst}
use mathlib.Core.Bool.{Bool}
use mathlib.Core.Logic.{◌↔◌, ⊎_elim}
use mathlib.Core.List.{List, [], ◌∷◌}
use Prim.Native.Nat.{ℕ, zero, suc, ◌+◌, ◌*◌, ◌≤◌, ◌<◌}
use native.Mathlib.Omega.{arith}
use lib.ListN.{get_or}
use Rattle.words.specs.Words.{word}
use Rattle.words.proofs.Runs.{length_run, run_at}
use Rattle.clock.specs.Clock.{no_limit}
use Rattle.layout.specs.Layout.{fifth_width, count, offset, record_at, field, owner, values_of}
use Rattle.book.specs.Rules.{value_at, variable_at, name_at, atom_at, alternative_at, rule_at, variables_of}
use Rattle.book.specs.Sound.{Exist, BoundsSound, TermSound, AtomSound, Sound}
use Rattle.book.proofs.Inside.{offsets, first_word, in_range, alternative_ranges, ask_ranges, owner_owns, owner_at}
use Rattle.earliest.specs.Times.{Times, time_of, AtomMet, Lasting, no_value, no_variable, no_name, no_atom, value_of, TokenTimes, SuitsOf}
use Rattle.earliest.specs.Steps.{times_of, LimitsFit, KindFits, AtomFits, AtomTimes, value_place, NameFits, Named, trigger_of, places_of, Fits, Asked}
use Rattle.earliest.proofs.Filling.{limits_as}
use Rattle.earliest.proofs.Owning.{of_trigger}

-- ---- it fits

limits_fit : {lo x y : ℕ} → BoundsSound lo x y → LimitsFit x y
limits_fit {y = y} h = record {
  low = h.tick;
  most = ⊎_elim (λ q. omega arith) (λ q. omega arith) h.limit;
  high = λ n. ⊎_elim (λ q. q) (λ q. absurd (n q)) h.limit;
}

kind_fits : {n kind k : ℕ} {trigger : Bool} → n ≤ 4 → (kind ≡ 4 → ⊥) → TermSound n trigger kind k → KindFits kind k
kind_fits l ne h = record { kinds = omega (arith, h.kinds); point = h.point; token = λ q. omega (arith, (h.token q).named) }

atom_fits : {b : List ℕ} {at n : ℕ} {trigger : Bool} → n ≤ 4 → AtomSound b at n trigger → AtomFits b at
atom_fits l h ne =
    record { left = kind_fits l ne h.left; right = kind_fits l (λ e. ne (h.jobs.back e)) h.right; limits = limits_fit h.bounds }

exist_as : {b : List ℕ} {u v x y : ℕ} → u ≡ x → v ≡ y → Exist 1 b u v → Exist 1 b x y
exist_as p q h = rw (p, q) at h

module _ {b : List ℕ} (s : Sound 1 b) where
  -- the durations of a value that exists
  name_fits : (u v : ℕ) → Exist 1 b u v → NameFits b u v
  name_fits u v e =
      let r = s.variables u e.variable in
      let i : ℕ = field 1 b 0 u 0 + v in
      let first : word b (offset b 0 + 2 * u) ≡ field 1 b 0 u 0 = ap (word b) (omega arith) in
      limits_as
      (ap (word b) (omega (arith, first)))
      (ap (word b) (omega (arith, first)))
      (limits_fit (s.values i (in_range r v e.value)).durations)

  module _ (a : ℕ) (l : a < count b 3) where
    -- the trigger and the names of alternative a exist
    pub trigger_exists : (word b (record_at 1 b 2 (owner 1 b 2 2 a)) ≡ no_limit → ⊥)
        → Exist 1 b (word b (record_at 1 b 2 (owner 1 b 2 2 a))) (field 1 b 2 (owner 1 b 2 2 a) 1)
    trigger_exists n =
        let r = owner 1 b 2 2 a in
        ⊎_elim
        (λ q. absurd (n (sym (first_word 1 b 2 r) ∙ q.0)))
        (λ e. exist_as (first_word 1 b 2 r) refl e)
        (s.rules r (owner_owns (alternative_ranges s) a l).there).trigger

    pub name_exists : (i : ℕ) → i < (places_of b a).names
        → Exist 1 b (word b ((places_of b a).name + i * 2)) (word b ((places_of b a).name + i * 2 + 1))
    name_exists i m =
        let f0 = first_word 1 b 3 a in
        exist_as
        (ap (word b) (omega (arith, f0)))
        (ap (word b) (omega (arith, f0)))
        (s.names (field 1 b 3 a 0 + i) (in_range (s.alternatives a l).names i m))

    -- all that it asks can be put
    pub fits : Fits b (trigger_of b a) (places_of b a)
    unfolding fifth_width
    fits =
        let o = offsets s in
        let short = s.short in
        let h = s.alternatives a l in
        let f0 = first_word 1 b 3 a in
        let c3 = s.header.few 3 (omega arith) in
        let c4 = s.header.few 4 (omega arith) in
        let c5 = s.header.few 5 (omega arith) in
        let few = h.names.few in
        record {
          trigger = (of_trigger _ _ (λ t. NameFits b t.variable t.value)).1 (λ n. name_fits _ _ (trigger_exists n));
          few = few;
          near = (omega (arith, h.names.inside), omega (arith, h.asks.inside));
          names = λ i m. name_fits _ _ (name_exists i m);
          atoms = λ i m.
              let k : ℕ = field 1 b 3 a 2 + i in
              let own = owner_at (ask_ranges s) a l i m in
              let n : field 1 b 3 (owner 1 b 3 2 k) 1 ≤ 4 = rw own few in
              subst (AtomFits b) (omega arith) (atom_fits n (s.atoms (λ z. omega arith) k (in_range h.asks i m)));
        }

-- ---- it is what the decoded objects ask

-- a value that exists is decoded from its place
value_of_lem : (b : List ℕ) (u v : ℕ) → Exist 1 b u v → value_of (variables_of b) u v ≡ value_at b (value_place b u v)
unfolding variables_of variable_at
value_of_lem b u v e =
    let is : get_or (variables_of b) u no_variable ≡ variable_at b (offset b 0 + u * 2) = run_at (variable_at b) 2 (count b 0) (offset b 0) u no_variable e.variable in
    let first : word b (offset b 0 + 2 * u) ≡ word b (offset b 0 + u * 2) = ap (word b) (omega arith) in
    let place : offset b 1 + 3 * word b (offset b 0 + u * 2) + v * 3 ≡ value_place b u v = omega (arith, first) in
    rw is (rw place at (run_at (value_at b) 3 (values_of 1 b u) (offset b 1 + 3 * word b (offset b 0 + u * 2)) v no_value e.value))

-- so its durations are
lasting : (b : List ℕ) (u v k : ℕ) (x : Times) → Exist 1 b u v
    → Lasting (word b (value_place b u v)) (word b (value_place b u v + 1)) k x ↔ TokenTimes (variables_of b) u v k x
unfolding value_at
lasting b u v k x e = let is = value_of_lem b u v e in (λ h. rw is h, λ h. rw is at h)

module _ {b : List ℕ} (s : Sound 1 b) (a : ℕ) (l : a < count b 3) where
  -- what the table's times meet, times for the alternative's tokens meet
  pub suits_of : (z : ℕ → ℕ) → Asked b (trigger_of b a) (places_of b a) z → SuitsOf b a (times_of z)
  unfolding rule_at alternative_at name_at
  suits_of z h =
      let p = places_of b a in
      record {
        trigger = λ n.
            (lasting b _ _ 0 (times_of z) (trigger_exists s a l n)).0
            ((of_trigger _ _ (λ t. Named b 0 t.variable t.value z)).0 h.trigger n);
        names = λ i m.
            let there : i < p.names = omega (arith, length_run (name_at b) 2 p.names p.name) in
            rw (run_at (name_at b) 2 p.names p.name i no_name there)
            ((lasting b _ _ (i + 1) (times_of z) (name_exists s a l i there)).0 (h.names i there));
        atoms = λ i m.
            let there : i < p.atoms = omega (arith, length_run (atom_at b) 6 p.atoms p.atom) in
            rw (run_at (atom_at b) 6 p.atoms p.atom i no_atom there) (h.atoms i there);
      }

-- ---- times of tokens as times of the table

unfoldable pub slots_of : Times → ℕ → ℕ
slots_of x i =
    get_or
    (0
    ∷ x.start 0
    ∷ x.end 0
    ∷ x.start 1
    ∷ x.end 1
    ∷ x.start 2
    ∷ x.end 2
    ∷ x.start 3
    ∷ x.end 3
    ∷ x.start 4
    ∷ x.end 4
    ∷ x.plan_end
    ∷ [])
    i
    0

pub slot_zero : (x : Times) → slots_of x 0 ≡ 0
unfolding slots_of
slot_zero x = refl

pub slot_start : (x : Times) (k : ℕ) → k ≤ 4 → slots_of x (2 * k + 1) ≡ x.start k
unfolding slots_of
slot_start x zero l = refl
slot_start x (suc zero) l = refl
slot_start x (suc (suc zero)) l = refl
slot_start x (suc (suc (suc zero))) l = refl
slot_start x (suc (suc (suc (suc zero)))) l = refl
slot_start x (suc (suc (suc (suc (suc k))))) l = absurd (omega arith)

pub slot_end : (x : Times) (k : ℕ) → k ≤ 4 → slots_of x (2 * k + 2) ≡ x.end k
unfolding slots_of
slot_end x zero l = refl
slot_end x (suc zero) l = refl
slot_end x (suc (suc zero)) l = refl
slot_end x (suc (suc (suc zero))) l = refl
slot_end x (suc (suc (suc (suc zero)))) l = refl
slot_end x (suc (suc (suc (suc (suc k))))) l = absurd (omega arith)

pub slot_last : (x : Times) → slots_of x 11 ≡ x.plan_end
unfolding slots_of
slot_last x = refl

lasting_slots : {least greatest k : ℕ} (x : Times) → k ≤ 4 → Lasting least greatest k x → Lasting least greatest k (times_of (slots_of x))
lasting_slots {k = k} x l h = record {
  lasts = rw (slot_start x k l, slot_end x k l) h.lasts;
  within = rw (slot_end x k l, slot_last x) h.within;
}

time_slots : (x : Times) (kind k : ℕ) → KindFits kind k → time_of (times_of (slots_of x)) kind k ≡ time_of x kind k
unfolding time_of
time_slots x zero k f = slot_start x k (f.token (omega arith))
time_slots x (suc zero) k f = slot_end x k (f.token (omega arith))
time_slots x (suc (suc zero)) k f = refl
time_slots x (suc (suc (suc zero))) k f = slot_last x
time_slots x (suc (suc (suc (suc kind)))) k f = absurd (omega (arith, f.kinds))

atom_slots : (b : List ℕ) (at : ℕ) (x : Times) → AtomFits b at → AtomMet (atom_at b at) x → AtomTimes b at (slots_of x)
unfolding atom_at
atom_slots b at x f h n = rw (time_slots x _ _ (f n).left, time_slots x _ _ (f n).right) (h n)

module _ {b : List ℕ} (s : Sound 1 b) (a : ℕ) (l : a < count b 3) where
  -- times for the alternative's tokens are such times of the table
  pub asked_of : (x : Times) → SuitsOf b a x → Asked b (trigger_of b a) (places_of b a) (slots_of x)
  unfolding rule_at alternative_at name_at
  asked_of x h =
      let p = places_of b a in
      let f = fits s a l in
      let few = f.few in
      let names = length_run (name_at b) 2 p.names p.name in
      let asks = length_run (atom_at b) 6 p.atoms p.atom in
      record {
        trigger = (of_trigger _ _ (λ t. Named b 0 t.variable t.value (slots_of x))).1
            (λ n. lasting_slots x (omega arith) ((lasting b _ _ 0 x (trigger_exists s a l n)).1 (h.trigger n)));
        names = λ i m.
            lasting_slots x (omega arith)
            ((lasting b _ _ (i + 1) x (name_exists s a l i m)).1
            (rw (run_at (name_at b) 2 p.names p.name i no_name m) at (h.names i (omega (arith, names)))));
        atoms = λ i m.
            atom_slots b _ x (f.atoms i m) (rw (run_at (atom_at b) 6 p.atoms p.atom i no_atom m) at (h.atoms i (omega (arith, asks))));
      }
