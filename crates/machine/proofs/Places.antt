-- Where a frame can stand: in a body that decodes to its end, offset 0 and wherever an instruction goes on to is a start of an instruction or the
-- body's end, so that something decodes there, with its mark for its size. By flow's laws on starts, taken at a body's own marks.
-- Assumes nothing.
use Rattle.std.specs.Prelude.{Ok, None}
use Prim.Native.Nat.{ℕ, ◌+◌, ◌<◌}
use native.Mathlib.Omega.{arith}
use mathlib.Core.Path.{◌≡◌, refl, sym, ap, subst, ◌∙◌}
use mathlib.Core.Bool.{Bool, true, cond}
use mathlib.Core.List.{List}
use mathlib.Core.Logic.{◌⊎◌, inl, inr, ⊎_elim}
use lib.ListN.{length, get_or}
use Rattle.cells.specs.Zeros.{zeros, length_zeros, any_zero}
use Rattle.flow.specs.declared.Flow.{Flow}
use Rattle.flow.specs.declared.Flow.TheVariants.{Next, Jump, Branch, Return}
use Rattle.flow.specs.declared.Spot.{Spot}
use Rattle.flow.specs.Decode.{found, step_by, moved, target_of}
use Rattle.flow.specs.Walk.{walk_by, end_of, is_start, marks_of}
use Rattle.flow.proofs.Laws.{Stands, stands, step_end}
use Rattle.flow.proofs.StartLaws.{marked, Begins, begins}
use Rattle.flow.proofs.Next.{Standing, next_stands, target_stands, marks_are}
use Rattle.machine.specs.Machine.{Onward}

module _ (sizes : ℕ → ℕ) (body : List ℕ) where
  -- what stands at an instruction's offset
  pub record Place (t op size : ℕ) : Type 0 where
    pub starts : is_start (walk_by sizes body 0) t ≡ true
    pub is_op : op ≡ get_or body t 0
    pub is_size : size ≡ get_or (marks_of sizes body) t 0
    pub inside : t < length body

  mark_is : (t : ℕ) → t < length body → is_start (walk_by sizes body 0) t ≡ true → get_or (marks_of sizes body) t 0 ≡ sizes (get_or body t 0)
  mark_is t h s =
      let l = length_zeros (zeros (length body)) (length body) refl in
      ap (λ (marks : List ℕ). get_or marks t 0) (marks_are sizes body) ∙ marked sizes body 0 t (zeros (length body)) (omega arith) ∙ ap (λ (b : Bool). cond b (sizes (get_or body t 0)) (get_or (zeros (length body)) t 0)) s

  pub place_at : (t op size : ℕ) → Standing sizes body t → step_by sizes body t ≡ found op size → Place t op size
  place_at t op size at e = by (stands sizes body t op size e) at
    where
      by : Stands sizes body t op size → Standing sizes body t → Place t op size
      by s (inl w) =
          let h : t < length body = omega (arith, s.some, s.within) in
          record { starts = w; is_op = s.is_op; is_size = s.is_size ∙ ap sizes s.is_op ∙ sym (mark_is t h w); inside = h }
      by s (inr w) = absurd (omega (arith, s.some, s.within))

  -- something decodes there
  pub decodes_at : (t : ℕ) → Standing sizes body t → Begins sizes body t ⊎ (step_by sizes body t ≡ Ok None)
  decodes_at t (inl w) = inl (begins sizes body 0 t w)
  decodes_at t (inr w) = inr (step_end sizes body t (omega arith))

  target_at : (spot : Spot) (t : ℕ) → target_of (marks_of sizes body) (length body) spot ≡ Ok t → Standing sizes body t
  target_at spot t e =
      let l = length_zeros (zeros (length body)) (length body) refl in
      target_stands sizes body (zeros (length body)) (omega arith) (any_zero (zeros (length body)) (length body) refl) spot t (rw (marks_are sizes body) at e)

  module _ (whole : end_of (walk_by sizes body 0) ≡ (Ok tt)) (t op size : ℕ) (p : Place t op size) where
    next_at : Standing sizes body (t + size)
    next_at =
        let z : sizes (get_or body t 0) ≡ size = sym (mark_is t p.inside p.starts) ∙ sym p.is_size in
        subst (λ (n : ℕ). Standing sizes body (t + n)) z (next_stands sizes body t whole p.starts)

    -- where the instruction goes on to
    pub onward_at : (flow : Flow) (to : ℕ) → Onward (marks_of sizes body) (length body) (t + size) flow to → Standing sizes body to
    onward_at Next to w = subst (Standing sizes body) w next_at
    onward_at (Jump word) to w = target_at (moved (t + size) word) to w
    onward_at (Branch word) to w =
        ⊎_elim (λ e. subst (Standing sizes body) e (target_at (moved (t + size) word) w.0 w.1)) (λ e. subst (Standing sizes body) e next_at) w.2
    onward_at Return to w = absurd w
