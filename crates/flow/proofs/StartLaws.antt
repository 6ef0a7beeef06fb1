-- The laws of starts that the crates above use. Marks are exactly the decoded starts, each with its instruction's size; an instruction's next
-- offset, in a body that decodes to its end, is a start or the length; so is offset 0; a legal target is a start or the length.
-- Assumes nothing.
use Rattle.std.specs.Prelude.{ℕ, zero, suc, ◌+◌, ◌<◌, ◌≡◌, refl, ◌⊎◌, Bool, true, false, cond, List, eqb, length, get_or, set, Ok, Err, Some, None}
use Rattle.std.proofs.Common.{◌∙◌, ap, sym, inl, inr, ⊎_elim, arith, length-set, get_or-set_same, get_or-set_other, eqb-true}
use Rattle.std.proofs.lemmas.Bool.{eqb-false}
use Rattle.flow.specs.Decode.{Step, found, step_by}
use Rattle.flow.specs.Walk.{Walk, stops, instr, on_step, walk_in, walk_by, mark_all, is_start}
use Rattle.flow.proofs.Laws.{stands}

-- `size` stands at `at`; the rest of the walk has no start at t, or has one with the size v
marked_by : (at t size v : ℕ) (marks : List ℕ) (b c : Bool) → eqb t at ≡ b → (t ≡ at → size ≡ v) → t < length marks → cond c v (get_or (set marks at size) t 0) ≡ cond (cond b true c) v (get_or marks t 0)
marked_by at t size v marks true true e z h = refl
marked_by at t size v marks true false e z h =
    let k = eqb-true t at e in
    rw k (get_or-set_same marks at size 0 (rw k at h)) ∙ z k
marked_by at t size v marks false true e z h = refl
marked_by at t size v marks false false e z h = get_or-set_other marks at t size 0 (eqb-false t at e)

module _ (sizes : ℕ → ℕ) (body : List ℕ) where
  marked_on : (left at t : ℕ) (marks : List ℕ) → t < length marks
      → ((n : ℕ) (m : List ℕ) → t < length m → get_or (mark_all (walk_in left sizes body n) m) t 0 ≡ cond (is_start (walk_in left sizes body n) t) (sizes (get_or body t 0)) (get_or m t 0))
      → (st : Step) → step_by sizes body at ≡ st
      → get_or (mark_all (on_step at (walk_in left sizes body) st) marks) t 0 ≡ cond (is_start (on_step at (walk_in left sizes body) st) t) (sizes (get_or body t 0)) (get_or marks t 0)
  marked_on left at t marks h go (Err stop) e = refl
  marked_on left at t marks h go (Ok None) e = refl
  marked_on left at t marks h go (Ok (Some i)) e =
      let size = i.size in
      let k = stands sizes body at i.opcode size e in
      let z : t ≡ at → size ≡ sizes (get_or body t 0) = λ w. k.is_size ∙ ap sizes (k.is_op ∙ ap (λ (n : ℕ). get_or body n 0) (sym w)) in
      let n : t < length (set marks at size) = simp length-set h in
      go (at + size) (set marks at size) n ∙ marked_by at t size (sizes (get_or body t 0)) marks (eqb t at) (is_start (walk_in left sizes body (at + size)) t) refl z h

  marked_in : (left at t : ℕ) (marks : List ℕ) → t < length marks → get_or (mark_all (walk_in left sizes body at) marks) t 0 ≡ cond (is_start (walk_in left sizes body at) t) (sizes (get_or body t 0)) (get_or marks t 0)
  marked_in zero at t marks h = refl
  marked_in (suc left) at t marks h = marked_on left at t marks h (λ n m l. marked_in left n t m l) (step_by sizes body at) refl

  -- a mark is the instruction's size at a start, and else as it was
  pub marked : (at t : ℕ) (marks : List ℕ) → t < length marks → get_or (mark_all (walk_by sizes body at) marks) t 0 ≡ cond (is_start (walk_by sizes body at) t) (sizes (get_or body t 0)) (get_or marks t 0)
  unfolding walk_by
  marked at t marks h = marked_in (length body) at t marks h

pub length_marked : (w : Walk) (marks : List ℕ) → length (mark_all w marks) ≡ length marks
length_marked (stops at d) marks = refl
length_marked (instr at op size w) marks = length_marked w (set marks at size) ∙ length-set marks at size

-- an instruction stands at a start
pub record Begins (sizes : ℕ → ℕ) (body : List ℕ) (t : ℕ) : Type 0 where
  pub op : ℕ
  pub size : ℕ
  pub step : step_by sizes body t ≡ found op size

pub split : (a b : Bool) → cond a true b ≡ true → (a ≡ true) ⊎ (b ≡ true)
split true b e = inl refl
split false b e = inr e

pub true_not_false : false ≡ true → ⊥
true_not_false e = let z : ◌≡◌ {A = ℕ} 0 1 = cc in omega arith

pub join : (a b : Bool) → b ≡ true → cond a true b ≡ true
join true b e = refl
join false b e = e

module _ (sizes : ℕ → ℕ) (body : List ℕ) where
  begins_on : (left at t : ℕ) → ((n : ℕ) → is_start (walk_in left sizes body n) t ≡ true → Begins sizes body t) → (st : Step) → step_by sizes body at ≡ st → is_start (on_step at (walk_in left sizes body) st) t ≡ true → Begins sizes body t
  begins_on left at t go (Err stop) e s = absurd (true_not_false s)
  begins_on left at t go (Ok None) e s = absurd (true_not_false s)
  begins_on left at t go (Ok (Some i)) e s =
      ⊎_elim (λ b. record { op = i.opcode; size = i.size; step = ap (step_by sizes body) (eqb-true t at b) ∙ e }) (λ r. go (at + i.size) r) (split (eqb t at) (is_start (walk_in left sizes body (at + i.size)) t) s)

  begins_in : (left at t : ℕ) → is_start (walk_in left sizes body at) t ≡ true → Begins sizes body t
  begins_in zero at t s = absurd (true_not_false s)
  begins_in (suc left) at t s = begins_on left at t (λ n r. begins_in left n t r) (step_by sizes body at) refl s

  pub begins : (at t : ℕ) → is_start (walk_by sizes body at) t ≡ true → Begins sizes body t
  unfolding walk_by
  begins at t s = begins_in (length body) at t s
