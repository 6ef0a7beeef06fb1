-- The rules of the temp buffers at one place, a law for each case, with its tests as hypotheses, for the proof of the code; and what holds at every
-- place: a sum is at most one more than what was held, and successors are within the body or at its end, with a sum within the pool, where each mark
-- fits the body. By the cases of the rules in their order; a legal target is within the body or at its end.
-- Assumes nothing.
use Rattle.std.specs.Prelude.{Ok, Err}
use mathlib.Core.Path.{◌≡◌, refl}
use mathlib.Core.Bool.{Bool, true, false, cond}
use mathlib.Core.List.{List}
use mathlib.Core.Logic.{⊎_elim}
use Prim.Native.Nat.{ℕ, ◌+◌, ◌-◌, ◌≤◌, ◌<◌}
use native.Mathlib.Omega.{arith}
use lib.Dec.{ltb}
use lib.ListN.{length, get_or}
use borrow.Author.Tests.{ltb-true, ltb-false, lt-ltb, le-ltb}
use Rattle.tables.specs.declared.TempEffect.{TempEffect}
use Rattle.tables.specs.declared.TempEffect.TheVariants.{Keeps, Borrows, GivesBack}
use Rattle.flow.specs.declared.Spot.{Spot}
use Rattle.flow.specs.declared.Flow.{Flow}
use Rattle.flow.specs.declared.Flow.TheVariants.{Next, Jump, Branch, Return}
use Rattle.flow.specs.Decode.{operands_at, flow_of, moved, target_of, Target}
use Rattle.flow.proofs.Next.{legal}
use Rattle.buffers.specs.declared.Way.{Way}
use Rattle.buffers.specs.declared.Way.TheVariants.{Ends, Astray, Goes, Forks}
use Rattle.buffers.specs.declared.Tread.{Tread}
use Rattle.buffers.specs.Tread.{Temps, Opens, sum_past, on_target, flowing, bounded, treads, acting, tread_of, Leads, Bounded}

-- the sum
pub sum_keeps : (held : ℕ) → sum_past Keeps held ≡ held
sum_keeps held = refl

pub sum_borrows : (held : ℕ) → sum_past Borrows held ≡ held + 1
sum_borrows held = refl

pub sum_gives_back : (held : ℕ) → sum_past GivesBack held ≡ held - 1
sum_gives_back held = refl

pub sum_small : (effect : TempEffect) (held : ℕ) → sum_past effect held ≤ held + 1
sum_small Keeps held = omega arith
sum_small Borrows held = omega arith
sum_small GivesBack held = omega arith

-- the successors
module _ (marks : List ℕ) (end next : ℕ) where
  pub flowing_next : flowing marks end next Next ≡ Goes next
  unfolding flowing
  flowing_next = refl

  pub jump_legal : (word to : ℕ) → target_of marks end (moved next word) ≡ Ok to → flowing marks end next (Jump word) ≡ Goes to
  unfolding flowing
  jump_legal word to e = rw e

  pub jump_illegal : (word : ℕ) (spot : Spot) → target_of marks end (moved next word) ≡ Err spot → flowing marks end next (Jump word) ≡ Astray
  unfolding flowing
  jump_illegal word spot e = rw e

  pub branch_legal : (word to : ℕ) → target_of marks end (moved next word) ≡ Ok to → flowing marks end next (Branch word) ≡ Forks to next
  unfolding flowing
  branch_legal word to e = rw e

  pub branch_illegal : (word : ℕ) (spot : Spot) → target_of marks end (moved next word) ≡ Err spot → flowing marks end next (Branch word) ≡ Astray
  unfolding flowing
  branch_illegal word spot e = rw e

  pub flowing_return : flowing marks end next Return ≡ Ends
  unfolding flowing
  flowing_return = refl

-- past the pool the path ends
module _ (pool sum : ℕ) (way : Way) where
  pub bounded_over : pool < sum → bounded pool sum way ≡ Ends
  unfolding bounded
  bounded_over l = simp (lt-ltb pool sum l)

  pub bounded_within : sum ≤ pool → bounded pool sum way ≡ way
  unfolding bounded
  bounded_within l = simp (le-ltb pool sum l)

module _ (temps : Temps) (opens : Opens) (marks body : List ℕ) (pool offset held : ℕ) where
  -- the body length
  pub tread_end : length body ≤ offset → treads held 0 Ends ≡ tread_of temps opens marks body pool offset held
  unfolding tread_of
  tread_end l = simp (le-ltb offset (length body) l)

  -- an instruction
  pub tread_acts : (op size : ℕ) (operands : List ℕ) (effect : TempEffect) (cell sum : ℕ) (way : Way) → offset < length body → op ≡ get_or body offset 0 → size ≡ get_or marks offset 0
      → operands ≡ operands_at body offset size → effect ≡ temps op operands → cell ≡ opens op operands → sum ≡ sum_past effect held
      → way ≡ flowing marks (length body) (offset + size) (flow_of op operands) → treads sum cell (bounded pool sum way) ≡ tread_of temps opens marks body pool offset held
  unfolding tread_of acting
  tread_acts op size operands effect cell sum way within is_op is_size are is-effect is-cell is_sum is-way =
      simp (lt-ltb offset (length body) within, ← is_op, ← is_size, ← are, ← is-effect, ← is-cell, ← is_sum, ← is-way)

  -- what is opened is what some instruction opens, or nothing
  pub tread_opens : (x : ℕ) → ((op : ℕ) (operands : List ℕ) → opens op operands ≤ x) → (tread_of temps opens marks body pool offset held).opens ≤ x
  unfolding tread_of acting
  tread_opens x h = by (ltb offset (length body))
    where
      by : (b : Bool) → (cond b (acting temps opens marks body pool offset held (get_or body offset 0) (get_or marks offset 0)) (treads held 0 Ends)).opens ≤ x
      by true = h (get_or body offset 0) (operands_at body offset (get_or marks offset 0))
      by false = omega arith

  pub tread_sum : (tread_of temps opens marks body pool offset held).sum ≤ held + 1
  unfolding tread_of acting
  tread_sum = by (ltb offset (length body))
    where
      by : (b : Bool) → (cond b (acting temps opens marks body pool offset held (get_or body offset 0) (get_or marks offset 0)) (treads held 0 Ends)).sum ≤ held + 1
      by true = sum_small (temps (get_or body offset 0) (operands_at body offset (get_or marks offset 0))) held
      by false = omega arith

-- either way, where the test leads to it
either : (n x sum : ℕ) (b : Bool) (way : Way) → (b ≡ false → Leads n x sum way) → Leads n x sum (cond b Ends way)
either n x sum true way h = tt
either n x sum false way h = h refl

target_bounded : (n x sum : ℕ) (go : ℕ → Way) (target : Target) → ((to : ℕ) → target ≡ Ok to → Leads n x sum (go to)) → Leads n x sum (on_target go target)
target_bounded n x sum go (Ok to) h = h to refl
target_bounded n x sum go (Err spot) h = tt

flowing_bounded : (marks : List ℕ) (end next x sum : ℕ) (flow : Flow) → next ≤ end → sum ≤ x → Leads (end + 1) x sum (flowing marks end next flow)
unfolding flowing
flowing_bounded marks end next x sum Next f o = (omega arith, o)
flowing_bounded marks end next x sum (Jump word) f o =
    target_bounded (end + 1) x sum (λ to. Goes to) (target_of marks end (moved next word)) (λ to e. (⊎_elim (λ w. omega arith) (λ w. omega (arith, w.0)) (legal marks end (moved next word) to e), o))
flowing_bounded marks end next x sum (Branch word) f o =
    target_bounded (end + 1) x sum (λ to. Forks to next) (target_of marks end (moved next word)) (λ to e. (⊎_elim (λ w. omega arith) (λ w. omega (arith, w.0)) (legal marks end (moved next word) to e), (omega arith, o)))
flowing_bounded marks end next x sum Return f o = tt

bounded_leads : (n pool sum : ℕ) (way : Way) → (sum ≤ pool → Leads n pool sum way) → Leads n pool sum (bounded pool sum way)
unfolding bounded
bounded_leads n pool sum way h = either n pool sum (ltb pool sum) way (λ e. h (ltb-false pool sum e))

module _ (temps : Temps) (opens : Opens) (marks body : List ℕ) (pool : ℕ) where
  pub tread_bounded : ((offset : ℕ) → offset < length body → offset + get_or marks offset 0 ≤ length body) → (offset held : ℕ)
      → Bounded (length body + 1) pool (tread_of temps opens marks body pool offset held)
  unfolding tread_of acting
  tread_bounded fits offset held = by (ltb offset (length body)) refl
    where
      by : (b : Bool) → ltb offset (length body) ≡ b
          → Bounded (length body + 1) pool (cond b (acting temps opens marks body pool offset held (get_or body offset 0) (get_or marks offset 0)) (treads held 0 Ends))
      by true e =
          bounded_leads (length body + 1) pool _ _
          (λ o. flowing_bounded marks (length body) (offset + get_or marks offset 0) pool _ (flow_of (get_or body offset 0) (operands_at body offset (get_or marks offset 0))) (fits offset (ltb-true _ _ e)) o)
      by false e = tt

-- what an instruction leaves grows with what it finds
sum_grows : (effect : TempEffect) (held more : ℕ) → held ≤ more → sum_past effect held ≤ sum_past effect more
sum_grows Keeps held more h = h
sum_grows Borrows held more h = omega arith
sum_grows GivesBack held more h = omega arith

bounded_same : (pool sum larger : ℕ) (way : Way) → sum ≤ larger → larger ≤ pool → bounded pool sum way ≡ bounded pool larger way
bounded_same pool sum larger way h l = rw (bounded_within pool sum way (omega arith), bounded_within pool larger way l)

module _ (temps : Temps) (opens : Opens) (marks body : List ℕ) (pool offset held more : ℕ) (fewer : held ≤ more) where
  abbrev at : ℕ → Tread
  at h = tread_of temps opens marks body pool offset h

  -- the sum is no smaller, the same function is opened, and within the pool the way is the same
  pub tread_grows : ((at held).sum ≤ (at more).sum) × (((at held).opens ≡ (at more).opens) × ((at more).sum ≤ pool → (at held).way ≡ (at more).way))
  unfolding tread_of acting
  tread_grows = by (ltb offset (length body))
    where
      act : ℕ → Tread
      act h = acting temps opens marks body pool offset h (get_or body offset 0) (get_or marks offset 0)

      by : (b : Bool) → ((cond b (act held) (treads held 0 Ends)).sum ≤ (cond b (act more) (treads more 0 Ends)).sum)
          × (((cond b (act held) (treads held 0 Ends)).opens ≡ (cond b (act more) (treads more 0 Ends)).opens)
          × ((cond b (act more) (treads more 0 Ends)).sum ≤ pool → (cond b (act held) (treads held 0 Ends)).way ≡ (cond b (act more) (treads more 0 Ends)).way))
      by true =
          let g = sum_grows (temps (get_or body offset 0) (operands_at body offset (get_or marks offset 0))) held more fewer in
          (g, (refl, λ l. bounded_same pool _ _ _ g l))
      by false = (fewer, (refl, λ l. refl))
