-- What it means that no rule is broken at a place: the effect is known, the depth suffices for what is taken, the depths before and after are
-- within the declared maximum, a target is legal, and an exit is at its depth. By the cases of the rules.
-- Assumes nothing.
use Rattle.std.specs.Prelude.{Ok, Err}
use mathlib.Core.Path.{◌≡◌, refl}
use mathlib.Core.Bool.{Bool, true, false, cond}
use mathlib.Core.List.{List}
use Prim.Native.Nat.{ℕ, ◌+◌, ◌-◌, ◌≤◌, ◌<◌}
use native.Mathlib.Omega.{arith}
use lib.Dec.{ltb, eqb}
use lib.ListN.{length, get_or}
use borrow.Author.Tests.{ltb-true, ltb-false, eqb-true}
use Rattle.tables.specs.declared.Effect.{Effect}
use Rattle.flow.specs.declared.Flow.TheVariants.{Jump, Branch, Return}
use Rattle.flow.specs.Decode.{operands_at, flow_of, moved, target_of, Target}
use Rattle.rules.specs.declared.Onward.TheVariants.{Leaves, Goes, Forks}
use Rattle.rules.specs.declared.Violation.{Violation}
use Rattle.rules.specs.Look.{Effects, larger, exit_at, on_target, flowing, moving, on_known, look_of, Known, Look}
use Rattle.rules.specs.Assigned.{Holds}
use Rattle.rules.proofs.Cases.{look_end, look_known}

-- where a failed test would be a violation, it did not fail
not_bad : (t : Bool) (v : Violation) (L : Look) → Holds (cond t (Err v) L) → (t ≡ false) × Holds L
not_bad true v L h = absurd h
not_bad false v L h = (refl, h)

pub exit_held : (offset expected depth : ℕ) → Holds (exit_at offset expected depth) → depth ≡ expected
exit_held offset expected depth h = by (eqb depth expected) refl h
  where
    by : (t : Bool) → eqb depth expected ≡ t → Holds (cond t (Ok Leaves) (Err (Violation.UnbalancedReturn offset expected depth))) → depth ≡ expected
    by true e g = eqb-true depth expected e
    by false e g = absurd g

pub both_within : (a b x : ℕ) → larger a b ≤ x → (a ≤ x) × (b ≤ x)
both_within a b x h = by (ltb a b) refl h
  where
    by : (t : Bool) → ltb a b ≡ t → cond t b a ≤ x → (a ≤ x) × (b ≤ x)
    by true e l = let g = ltb-true a b e in (omega arith, l)
    by false e l = let g = ltb-false a b e in (l, omega arith)

target_held : (offset : ℕ) (go : ℕ → Look) (target : Target) → Holds (on_target offset go target) → (to : ℕ) × (target ≡ Ok to)
target_held offset go (Ok to) h = (to, refl)
target_held offset go (Err spot) h = absurd h

-- RET needs 1 after it, RET_VOID 0; a branch has a legal target
module _ (marks : List ℕ) (end offset next op out : ℕ) where
  pub return_held : Holds (flowing marks end offset next op out Return) → out ≡ cond (eqb op 0x88) 1 0
  unfolding flowing
  return_held h = exit_held offset (cond (eqb op 0x88) 1 0) out h

  pub jump_held : (word : ℕ) → Holds (flowing marks end offset next op out (Jump word)) → (to : ℕ) × (target_of marks end (moved next word) ≡ Ok to)
  unfolding flowing
  jump_held word h = target_held offset (λ to. Ok (Goes out to)) (target_of marks end (moved next word)) h

  pub branch_held : (word : ℕ) → Holds (flowing marks end offset next op out (Branch word)) → (to : ℕ) × (target_of marks end (moved next word) ≡ Ok to)
  unfolding flowing
  branch_held word h = target_held offset (λ to. Ok (Forks out to next)) (target_of marks end (moved next word)) h

module _ (known : Effects) (marks body : List ℕ) (maximum offset depth : ℕ) where
  -- the body length needs 0
  pub end_held : length body ≤ offset → Holds (look_of known marks body maximum offset depth) → depth ≡ 0
  end_held l h = exit_held offset 0 depth (rw (look_end known marks body maximum offset depth l) at h)

  abbrev op_at : ℕ
  op_at = get_or body offset 0

  abbrev next_at : ℕ
  next_at = offset + get_or marks offset 0

  abbrev operands : List ℕ
  operands = operands_at body offset (get_or marks offset 0)

  pub record Held : Type 0 where
    pub effect : Effect
    pub is_known : known op_at operands ≡ Ok effect
    pub enough : effect.takes ≤ depth
    pub before : depth ≤ maximum
    pub after : depth - effect.takes + effect.leaves ≤ maximum
    pub flows : Holds (flowing marks (length body) offset next_at op_at (depth - effect.takes + effect.leaves) (flow_of op_at operands))

  -- an instruction
  pub look_held : offset < length body → Holds (look_of known marks body maximum offset depth) → Held
  unfolding moving
  look_held l h = let k = known op_at operands in by k refl (rw (look_known known marks body maximum offset depth op_at (get_or marks offset 0) operands l refl refl refl k refl) at h)
    where
      by : (k : Known) → known op_at operands ≡ k
          → Holds (on_known offset (λ e. moving offset op_at maximum depth e (λ out. flowing marks (length body) offset next_at op_at out (flow_of op_at operands))) k) → Held
      by (Ok e) w g =
          let out = depth - e.takes + e.leaves in
          let a = not_bad (ltb depth e.takes) _ _ g in
          let b = not_bad (ltb maximum (larger depth out)) _ _ a.1 in
          let c = both_within depth out maximum (ltb-false _ _ b.0) in
          record { effect = e; is_known = w; enough = ltb-false _ _ a.0; before = c.0; after = c.1; flows = b.1 }
      by (Err unknown) w g = absurd g
