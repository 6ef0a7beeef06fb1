-- How a loop over a body goes on: one instruction more, one part after the other, and the end. Each is a law over plain lists and numbers.
-- Assumes nothing.
use Rattle.std.specs.Prelude.{false, Ok, Err, Some, None}
use Rattle.std.specs.Result.{result_unwrap_or}
use Prim.Native.Nat.{ℕ, ◌+◌, ◌≤◌, ◌<◌}
use mathlib.Core.Path.{◌≡◌, refl, ◌∙◌, ap, sym}
use mathlib.Core.List.{List}
use native.Mathlib.Omega.{arith}
use lib.ListN.{length, get_or, set, length-set}
use borrow.Author.Tests.{ne_eqb}
use Rattle.flow.specs.declared.Instruction.{Instruction}
use Rattle.flow.specs.Decode.{Step, found, step_by}
use Rattle.flow.specs.Walk.{Walk, stops, instr, on_step, walk_by, end_of, mark_all, has_ret, Decoded}
use Rattle.flow.specs.Marked.{Marked, Skipped}
use Rattle.flow.proofs.Laws.{stands, step_instruction, walk_is}

module _ (sizes : ℕ → ℕ) (body : List ℕ) where
  pub marked_first : (from : ℕ) (marks : List ℕ) → from ≤ length body → Marked sizes body from marks from marks
  marked_first from marks h = record { onward = omega arith; within = h; same = refl; ends = refl; done = refl }

  pub marked_then : (from : ℕ) (first : List ℕ) (at : ℕ) (marks : List ℕ) (to : ℕ) (last : List ℕ) → Marked sizes body from first at marks → Marked sizes body at marks to last → Marked sizes body from first to last
  marked_then from first at marks to last a b =
      record {
        onward = omega (arith, a, b);
        within = b.within;
        same = b.same ∙ a.same;
        ends = b.ends ∙ a.ends;
        done = b.done ∙ a.done;
      }

  -- the instruction at an offset is marked
  pub marked_on : (from : ℕ) (first : List ℕ) (at : ℕ) (marks last : List ℕ) (op size : ℕ) → Marked sizes body from first at marks → step_by sizes body at ≡ found op size → last ≡ set marks at size → Marked sizes body from first (at + size) last
  marked_on from first at marks last op size m e l =
      let k = stands sizes body at op size e in
      let w : walk_by sizes body at ≡ instr at op size (walk_by sizes body (at + size)) = walk_is sizes body at (found op size) e in
      record {
        onward = omega (arith, m);
        within = k.within;
        same = ap length l ∙ length-set marks at size ∙ m.same;
        ends = sym (ap end_of w) ∙ m.ends;
        done = ap (mark_all (walk_by sizes body (at + size))) l ∙ sym (ap (λ (v : Walk). mark_all v marks) w) ∙ m.done;
      }

  -- an opcode of one byte is an instruction
  one_step : (at : ℕ) → at < length body → sizes (get_or body at 0) ≡ 1 → step_by sizes body at ≡ found (get_or body at 0) 1
  one_step at h e = step_instruction sizes body at (omega arith) (omega arith) ∙ ap (found (get_or body at 0)) e

  pub marked_one : (from : ℕ) (first : List ℕ) (at : ℕ) (marks last : List ℕ) → Marked sizes body from first at marks → at < length body → sizes (get_or body at 0) ≡ 1 → last ≡ set marks at 1 → Marked sizes body from first (at + 1) last
  marked_one from first at marks last m h e l = marked_on from first at marks last (get_or body at 0) 1 m (one_step at h e) l

  -- where the walk stops, the marks are the whole walk's
  pub marked_last : (from : ℕ) (first : List ℕ) (at : ℕ) (marks : List ℕ) (d : Decoded) → Marked sizes body from first at marks → walk_by sizes body at ≡ stops at d → (d ≡ end_of (walk_by sizes body from)) × (marks ≡ mark_all (walk_by sizes body from) first)
  marked_last from first at marks d m e = (sym (ap end_of e) ∙ m.ends, sym (ap (λ (v : Walk). mark_all v marks) e) ∙ m.done)

  pub skipped_first : (from : ℕ) → from ≤ length body → Skipped sizes body from from
  skipped_first from h = record { onward = omega arith; within = h; rest = refl }

  pub skipped_then : (from at to : ℕ) → Skipped sizes body from at → Skipped sizes body at to → Skipped sizes body from to
  skipped_then from at to a b = record { onward = omega (arith, a, b); within = b.within; rest = b.rest ∙ a.rest }

  -- an instruction other than RET is passed
  pub skipped_on : (at op size : ℕ) → step_by sizes body at ≡ found op size → (op ≡ 0x88 → ⊥) → Skipped sizes body at (at + size)
  skipped_on at op size e n =
      let k = stands sizes body at op size e in
      let w : walk_by sizes body at ≡ instr at op size (walk_by sizes body (at + size)) = walk_is sizes body at (found op size) e in
      record { onward = omega arith; within = k.within; rest = sym (ap has_ret w ∙ simp (ne_eqb op 0x88 n)) }

  pub skipped_one : (at : ℕ) → at < length body → sizes (get_or body at 0) ≡ 1 → (get_or body at 0 ≡ 0x88 → ⊥) → Skipped sizes body at (at + 1)
  skipped_one at h e n = skipped_on at (get_or body at 0) 1 (one_step at h e) n

  pub skipped_last : (from at : ℕ) (w : Walk) → Skipped sizes body from at → walk_by sizes body at ≡ w → has_ret w ≡ has_ret (walk_by sizes body from)
  skipped_last from at w m e = sym (ap has_ret e) ∙ m.rest

-- an instruction that is read was decoded
pub is_found : (st : Step) (i : Instruction) → result_unwrap_or st None ≡ Some i → st ≡ found i.opcode i.size
is_found (Err stop) i e = absurd (let z : ◌≡◌ {A = ℕ} 0 1 = cc in omega arith)
is_found (Ok o) i e = ap Ok e

ends_by : (at : ℕ) (rest : ℕ → Walk) (st : Step) → result_unwrap_or st None ≡ None → false ≡ has_ret (on_step at rest st)
ends_by at rest (Err stop) e = refl
ends_by at rest (Ok None) e = refl
ends_by at rest (Ok (Some i)) e = absurd (let z : ◌≡◌ {A = ℕ} 0 1 = cc in omega arith)

-- where none is read, the walk stops
pub skipped_end : (sizes : ℕ → ℕ) (body : List ℕ) (from at : ℕ) (st : Step) → Skipped sizes body from at → step_by sizes body at ≡ st → result_unwrap_or st None ≡ None → false ≡ has_ret (walk_by sizes body from)
skipped_end sizes body from at st m e n = ends_by at (walk_by sizes body) st n ∙ skipped_last sizes body from at _ m (walk_is sizes body at st e)
