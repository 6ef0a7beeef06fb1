-- The rules name only successors within the body or at its end, at depths within the declared maximum, where each mark fits the body.
-- By the cases of the rules in their order; a legal target is within the body or at its end. So such a body is accepted exactly if some
-- depths satisfy the rules.
-- Assumes nothing.
use Rattle.std.specs.Prelude.{Ok, Err}
use mathlib.Core.Path.{◌≡◌, refl}
use mathlib.Core.Bool.{Bool, true, false, cond}
use mathlib.Core.List.{List}
use mathlib.Core.Logic.{⊎_elim, ◌↔◌}
use Prim.Native.Nat.{ℕ, ◌+◌, ◌-◌, ◌≤◌, ◌<◌}
use native.Mathlib.Omega.{arith}
use lib.Dec.{ltb, eqb}
use lib.ListN.{length, get_or}
use borrow.Author.Tests.{ltb-true, ltb-false}
use Rattle.tables.specs.declared.Effect.{Effect}
use Rattle.flow.specs.declared.Flow.{Flow}
use Rattle.flow.specs.declared.Flow.TheVariants.{Next, Jump, Branch, Return}
use Rattle.flow.specs.Decode.{operands_at, flow_of, moved, target_of, Target}
use Rattle.flow.proofs.Next.{legal}
use Rattle.rules.specs.declared.Onward.TheVariants.{Leaves, Goes, Forks}
use Rattle.rules.specs.declared.Violation.{Violation}
use Rattle.rules.specs.Look.{Effects, larger, exit_at, on_target, flowing, moving, on_known, acting, look_of, Bounded, Known, Look}
use Rattle.rules.specs.Walk.{walk_of}
use Rattle.rules.specs.Assigned.{Satisfies}
use Rattle.rules.proofs.Exact.{exact}
use Rattle.rules.proofs.Held.{both_within}

-- either look, where the test leads to it
either : (n x : ℕ) (t : Bool) (a b : Look) → (t ≡ true → Bounded n x a) → (t ≡ false → Bounded n x b) → Bounded n x (cond t a b)
either n x true a b f g = f refl
either n x false a b f g = g refl

exit_bounded : (n x offset expected depth : ℕ) → Bounded n x (exit_at offset expected depth)
exit_bounded n x offset expected depth = either n x (eqb depth expected) (Ok Leaves) (Err (Violation.UnbalancedReturn offset expected depth)) (λ _. tt) (λ _. tt)

module _ (known : Effects) (marks body : List ℕ) (maximum : ℕ) where
  abbrev Fine : Look → Type 0
  Fine L = Bounded (length body + 1) maximum L

  target_bounded : (offset : ℕ) (go : ℕ → Look) (target : Target) → ((to : ℕ) → target ≡ Ok to → Fine (go to)) → Fine (on_target offset go target)
  target_bounded offset go (Ok to) h = h to refl
  target_bounded offset go (Err spot) h = tt

  flowing_bounded : (offset next op out : ℕ) (flow : Flow) → next ≤ length body → out ≤ maximum → Fine (flowing marks (length body) offset next op out flow)
  unfolding flowing
  flowing_bounded offset next op out Next f o = omega arith
  flowing_bounded offset next op out (Jump word) f o =
      target_bounded offset (λ to. Ok (Goes out to)) (target_of marks (length body) (moved next word)) (λ to e. (⊎_elim (λ w. omega arith) (λ w. omega (arith, w.0)) (legal marks (length body) (moved next word) to e), o))
  flowing_bounded offset next op out (Branch word) f o =
      target_bounded offset (λ to. Ok (Forks out to next)) (target_of marks (length body) (moved next word)) (λ to e. (⊎_elim (λ w. omega arith) (λ w. omega (arith, w.0)) (legal marks (length body) (moved next word) to e), omega arith))
  flowing_bounded offset next op out Return f o = exit_bounded (length body + 1) maximum offset (cond (eqb op 0x88) 1 0) out

  moving_bounded : (offset op depth : ℕ) (e : Effect) (go : ℕ → Look) → ((out : ℕ) → out ≤ maximum → Fine (go out)) → Fine (moving offset op maximum depth e go)
  unfolding moving
  moving_bounded offset op depth e go h =
      either (length body + 1) maximum (ltb depth e.takes) _ _ (λ _. tt)
      (λ _. either (length body + 1) maximum (ltb maximum (larger depth (depth - e.takes + e.leaves))) _ _ (λ _. tt)
      (λ l. h (depth - e.takes + e.leaves) (both_within depth (depth - e.takes + e.leaves) maximum (ltb-false _ _ l)).1))

  acting_bounded : (offset depth op size : ℕ) → offset + size ≤ length body → Fine (acting known marks body maximum offset depth op size)
  unfolding acting
  acting_bounded offset depth op size f = by (known op (operands_at body offset size))
    where
      by : (k : Known) → Fine (on_known offset (λ e. moving offset op maximum depth e (λ out. flowing marks (length body) offset (offset + size) op out (flow_of op (operands_at body offset size)))) k)
      by (Ok e) = moving_bounded offset op depth e _ (λ out o. flowing_bounded offset (offset + size) op out (flow_of op (operands_at body offset size)) f o)
      by (Err unknown) = tt

  pub look_bounded : ((offset : ℕ) → offset < length body → offset + get_or marks offset 0 ≤ length body) → (offset depth : ℕ) → Bounded (length body + 1) maximum (look_of known marks body maximum offset depth)
  unfolding look_of
  look_bounded fits offset depth =
      either (length body + 1) maximum (ltb offset (length body)) _ _
      (λ l. acting_bounded offset depth (get_or body offset 0) (get_or marks offset 0) (fits offset (ltb-true _ _ l)))
      (λ _. exit_bounded (length body + 1) maximum offset 0 depth)

  pub accepted_exactly : ((offset : ℕ) → offset < length body → offset + get_or marks offset 0 ≤ length body)
      → (walk_of (look_of known marks body maximum) (length body + 1) ≡ Ok tt) ↔ ((depth : ℕ → ℕ) × Satisfies (look_of known marks body maximum) depth)
  accepted_exactly fits = exact (look_of known marks body maximum) (length body + 1) maximum (look_bounded fits) (omega arith)
