-- The laws of decoding that loops and the crates above use, in the place of the definitions, over any sizes.
-- Assumes nothing.
use Rattle.std.specs.Prelude.{ℕ, zero, suc, ◌+◌, ◌-◌, ◌≤◌, ◌<◌, ◌≡◌, Bool, true, false, cond, List, leb, eqb, length, get_or, Ok, Err, Some, None}
use Rattle.std.proofs.Math.Path.{refl}
use Rattle.std.proofs.Common.{◌∙◌, ap, sym, arith}
use borrow.Author.Tests.{leb-true, leb-false, le-leb, lt-leb, eqb-false, ne_eqb}
use Rattle.flow.specs.declared.Instruction.{Instruction}
use Rattle.flow.specs.declared.Stop.{Stop}
use Rattle.flow.specs.Decode.{Step, found, step_by}
use Rattle.flow.specs.Walk.{Walk, stops, instr, on_step, walk_in, walk_by}

-- what is known where an instruction stands at an offset
pub record Stands (sizes : ℕ → ℕ) (body : List ℕ) (at op size : ℕ) : Type 0 where
  pub is_op : op ≡ get_or body at 0
  pub is_size : size ≡ sizes op
  pub some : 1 ≤ size
  pub within : at + size ≤ length body

stands_by : (sizes : ℕ → ℕ) (body : List ℕ) (at op size : ℕ) (b1 b2 b3 : Bool)
    → leb (length body) at ≡ b1 → eqb (sizes (get_or body at 0)) 0 ≡ b2 → leb (sizes (get_or body at 0)) (length body - at) ≡ b3
    → cond b1 (Ok None) (cond b2 (Err (Stop.Unknown at (get_or body at 0))) (cond b3 (found (get_or body at 0) (sizes (get_or body at 0))) (Err (Stop.Truncated at (get_or body at 0))))) ≡ found op size
    → Stands sizes body at op size
stands_by sizes body at op size true b2 b3 e1 e2 e3 e = absurd (let z : ◌≡◌ {A = ℕ} 0 1 = cc in omega arith)
stands_by sizes body at op size false true b3 e1 e2 e3 e = absurd (let z : ◌≡◌ {A = ℕ} 0 1 = cc in omega arith)
stands_by sizes body at op size false false false e1 e2 e3 e = absurd (let z : ◌≡◌ {A = ℕ} 0 1 = cc in omega arith)
stands_by sizes body at op size false false true e1 e2 e3 e =
    let i : ◌≡◌ {A = Instruction} (record { opcode = get_or body at 0; size = sizes (get_or body at 0) }) (record { opcode = op; size = size }) = cc in
    let o : op ≡ get_or body at 0 = sym (ap (λ (i : Instruction). i.opcode) i) in
    let z : size ≡ sizes (get_or body at 0) = sym (ap (λ (i : Instruction). i.size) i) in
    let n : sizes (get_or body at 0) ≡ 0 → ⊥ = eqb-false _ 0 e2 in
    let l = leb-false (length body) at e1 in
    let f = leb-true (sizes (get_or body at 0)) (length body - at) e3 in
    record { is_op = o; is_size = z ∙ sym (ap sizes o); some = omega arith; within = omega arith }

end_by : (sizes : ℕ → ℕ) (body : List ℕ) (at : ℕ) (b1 b2 b3 : Bool)
    → leb (length body) at ≡ b1
    → cond b1 (Ok None) (cond b2 (Err (Stop.Unknown at (get_or body at 0))) (cond b3 (found (get_or body at 0) (sizes (get_or body at 0))) (Err (Stop.Truncated at (get_or body at 0))))) ≡ Ok None
    → length body ≤ at
end_by sizes body at true b2 b3 e1 e = leb-true (length body) at e1
end_by sizes body at false true b3 e1 e = absurd (let z : ◌≡◌ {A = ℕ} 0 1 = cc in omega arith)
end_by sizes body at false false true e1 e = absurd (let z : ◌≡◌ {A = ℕ} 0 1 = cc in omega arith)
end_by sizes body at false false false e1 e = absurd (let z : ◌≡◌ {A = ℕ} 0 1 = cc in omega arith)

module _ (sizes : ℕ → ℕ) (body : List ℕ) (at : ℕ) where
  pub stands : (op size : ℕ) → step_by sizes body at ≡ found op size → Stands sizes body at op size
  unfolding step_by
  stands op size e =
      stands_by sizes body at op size (leb (length body) at) (eqb (sizes (get_or body at 0)) 0) (leb (sizes (get_or body at 0)) (length body - at)) refl refl refl e

  -- at the body's end, and past it
  pub step_end : length body ≤ at → step_by sizes body at ≡ Ok None
  unfolding step_by
  step_end h = simp (le-leb (length body) at h)

  -- and only there
  pub end_only : step_by sizes body at ≡ Ok None → length body ≤ at
  unfolding step_by
  end_only e =
      end_by sizes body at (leb (length body) at) (eqb (sizes (get_or body at 0)) 0) (leb (sizes (get_or body at 0)) (length body - at)) refl e

  -- an assigned opcode whose instruction is inside the body
  pub step_instruction : 1 ≤ sizes (get_or body at 0) → at + sizes (get_or body at 0) ≤ length body → step_by sizes body at ≡ found (get_or body at 0) (sizes (get_or body at 0))
  unfolding step_by
  step_instruction h k =
      simp (lt-leb (length body) at (omega arith), ne_eqb (sizes (get_or body at 0)) 0 (λ z. omega arith), le-leb (sizes (get_or body at 0)) (length body - at) (omega arith))

-- two ways to go on that agree past an offset agree at it
agree : (sizes : ℕ → ℕ) (body : List ℕ) (at : ℕ) (r1 r2 : ℕ → Walk) → ((n : ℕ) → at < n → r1 n ≡ r2 n) → (st : Step) → step_by sizes body at ≡ st → on_step at r1 st ≡ on_step at r2 st
agree sizes body at r1 r2 h (Err stop) e = refl
agree sizes body at r1 r2 h (Ok None) e = refl
agree sizes body at r1 r2 h (Ok (Some i)) e =
    let k = stands sizes body at i.opcode i.size e in
    ap (instr at i.opcode i.size) (h (at + i.size) (omega (arith, k)))

enough : (sizes : ℕ → ℕ) (body : List ℕ) (f g at : ℕ) → length body ≤ at + f → length body ≤ at + g → walk_in f sizes body at ≡ walk_in g sizes body at
enough sizes body zero zero at h k = refl
enough sizes body zero (suc g) at h k = rw (step_end sizes body at (omega arith))
enough sizes body (suc f) zero at h k = rw (step_end sizes body at (omega arith))
enough sizes body (suc f) (suc g) at h k =
    agree sizes body at (walk_in f sizes body) (walk_in g sizes body) (λ n l. enough sizes body f g n (omega arith) (omega arith)) (step_by sizes body at) refl

module _ (sizes : ℕ → ℕ) (body : List ℕ) (at : ℕ) where
  -- a walk is its first step and the walk from there
  pub walk_step : walk_by sizes body at ≡ on_step at (walk_by sizes body) (step_by sizes body at)
  unfolding walk_by
  walk_step = enough sizes body (length body) (suc (length body)) at (omega arith) (omega arith)

  pub walk_is : (st : Step) → step_by sizes body at ≡ st → walk_by sizes body at ≡ on_step at (walk_by sizes body) st
  walk_is st e = walk_step ∙ ap (on_step at (walk_by sizes body)) e

  pub walk_end : length body ≤ at → walk_by sizes body at ≡ stops at (Ok tt)
  walk_end h = walk_is (Ok None) (step_end sizes body at h)
