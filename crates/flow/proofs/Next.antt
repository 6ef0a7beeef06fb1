-- Where control can stand in a body that decodes to its end: offset 0, an instruction's next offset and a legal target are each a start or
-- the length. A walk that is led by these never leaves the starts.
-- Assumes nothing.
use Rattle.std.specs.Prelude.{ℕ, zero, suc, ◌+◌, ◌≤◌, ◌<◌, ◌≡◌, refl, ◌⊎◌, Bool, true, false, cond, List, ltb, eqb, length, get_or, Ok, Err, Some, None}
use Rattle.std.proofs.Common.{◌∙◌, ap, sym, subst, inl, inr, ⊎_elim, arith, eqb-true, ltb-false, eq-eqb, ne_eqb}
use Rattle.std.proofs.lemmas.Bool.{eqb-false}
use Rattle.tables.specs.Packed.{turns}
use Rattle.tables.specs.Laws.{no_turn}
use Rattle.flow.specs.declared.Flow.TheVariants.{Next, Jump, Branch, Return}
use Rattle.flow.specs.declared.Spot.{Spot}
use Rattle.flow.specs.declared.Spot.TheVariants.{At, Before}
use Rattle.flow.specs.Decode.{Step, step_by, word_at, flow_of, target_of}
use Rattle.cells.specs.Zeros.{zeros, length_zeros, any_zero}
use Rattle.flow.specs.Walk.{instr, on_step, walk_in, walk_by, end_of, mark_all, marks_of, is_start}
use Rattle.flow.proofs.Laws.{stands, end_only}
use Rattle.flow.proofs.StartLaws.{split, join, true_not_false, marked, begins}

-- a start of the body, or its length
abbrev pub Standing : (ℕ → ℕ) → List ℕ → ℕ → Type 0
Standing sizes body t = (is_start (walk_by sizes body 0) t ≡ true) ⊎ (t ≡ length body)

here : (at : ℕ) (b : Bool) → cond (eqb at at) true b ≡ true
here at b = simp (eq-eqb at at refl)

module _ (sizes : ℕ → ℕ) (body : List ℕ) where
  abbrev Here : ℕ → ℕ → ℕ → Type 0
  Here left at t = (is_start (walk_in left sizes body at) t ≡ true) ⊎ (t ≡ length body)

  first_on : (left at : ℕ) → at ≤ length body → (st : Step) → step_by sizes body at ≡ st → end_of (on_step at (walk_in left sizes body) st) ≡ (Ok tt) → (is_start (on_step at (walk_in left sizes body) st) at ≡ true) ⊎ (at ≡ length body)
  first_on left at h (Err stop) e d = absurd (let z : ◌≡◌ {A = ℕ} 0 1 = cc in omega arith)
  first_on left at h (Ok None) e d = inr (let l = end_only sizes body at e in omega arith)
  first_on left at h (Ok (Some i)) e d = inl (here at (is_start (walk_in left sizes body (at + i.size)) at))

  first_in : (left at : ℕ) → at ≤ length body → length body ≤ at + left → end_of (walk_in left sizes body at) ≡ (Ok tt) → Here left at at
  first_in zero at h k d = inr (omega arith)
  first_in (suc left) at h k d = first_on left at h (step_by sizes body at) refl d

  -- offset 0
  pub first_stands : end_of (walk_by sizes body 0) ≡ (Ok tt) → Standing sizes body 0
  unfolding walk_by
  first_stands d = first_in (length body) 0 (omega arith) (omega arith) d

  abbrev next_of : ℕ → ℕ
  next_of t = t + sizes (get_or body t 0)

  next_on : (left at t : ℕ) → length body ≤ at + suc left
      → ((n : ℕ) → n ≤ length body → length body ≤ n + left → end_of (walk_in left sizes body n) ≡ (Ok tt) → is_start (walk_in left sizes body n) t ≡ true → Here left n (next_of t))
      → (st : Step) → step_by sizes body at ≡ st → end_of (on_step at (walk_in left sizes body) st) ≡ (Ok tt) → is_start (on_step at (walk_in left sizes body) st) t ≡ true
      → (is_start (on_step at (walk_in left sizes body) st) (next_of t) ≡ true) ⊎ (next_of t ≡ length body)
  next_on left at t h go (Err stop) e d s = absurd (true_not_false s)
  next_on left at t h go (Ok None) e d s = absurd (true_not_false s)
  next_on left at t h go (Ok (Some i)) e d s =
      let size = i.size in
      let k = stands sizes body at i.opcode size e in
      let more : Here left (at + size) (next_of t) → (is_start (instr at i.opcode size (walk_in left sizes body (at + size))) (next_of t) ≡ true) ⊎ (next_of t ≡ length body) =
      ⊎_elim (λ w. inl (join (eqb (next_of t) at) _ w)) (λ w. inr w) in
      ⊎_elim
      (λ b. let w : t ≡ at = eqb-true t at b in
      let z : at + size ≡ next_of t = ap (λ (n : ℕ). at + n) (k.is_size ∙ ap sizes k.is_op) ∙ ap (λ (n : ℕ). n + sizes (get_or body n 0)) (sym w) in
      more (subst (λ (n : ℕ). Here left (at + size) n) z (first_in left (at + size) k.within (omega (arith, h, k)) d)))
      (λ r. more (go (at + size) k.within (omega (arith, h, k)) d r))
      (split (eqb t at) (is_start (walk_in left sizes body (at + size)) t) s)

  next_in : (left at t : ℕ) → length body ≤ at + left → end_of (walk_in left sizes body at) ≡ (Ok tt) → is_start (walk_in left sizes body at) t ≡ true → Here left at (next_of t)
  next_in zero at t k d s = absurd (true_not_false s)
  next_in (suc left) at t k d s = next_on left at t k (λ n h l e r. next_in left n t l e r) (step_by sizes body at) refl d s

  -- the next offset of an instruction
  pub next_stands : (t : ℕ) → end_of (walk_by sizes body 0) ≡ (Ok tt) → is_start (walk_by sizes body 0) t ≡ true → Standing sizes body (t + sizes (get_or body t 0))
  unfolding walk_by
  next_stands t d s = next_in (length body) 0 t (omega arith) d s

-- what a legal target is, by the marks
legal_by : (marks : List ℕ) (end at t : ℕ) (b1 b2 b3 : Bool) → eqb at end ≡ b1 → ltb end at ≡ b2 → eqb (get_or marks at 0) 0 ≡ b3
    → cond b1 (Ok at) (cond b2 (Err (At at)) (cond b3 (Err (At at)) (Ok at))) ≡ Ok t
    → (t ≡ end) ⊎ ((t < end) × (get_or marks t 0 ≡ 0 → ⊥))
legal_by marks end at t true b2 b3 e1 e2 e3 e = inl (let z : at ≡ t = cc in let w = eqb-true at end e1 in omega arith)
legal_by marks end at t false true b3 e1 e2 e3 e = absurd (let z : ◌≡◌ {A = ℕ} 0 1 = cc in omega arith)
legal_by marks end at t false false true e1 e2 e3 e = absurd (let z : ◌≡◌ {A = ℕ} 0 1 = cc in omega arith)
legal_by marks end at t false false false e1 e2 e3 e =
    let z : at ≡ t = cc in
    let n = eqb-false at end e1 in
    let l = ltb-false end at e2 in
    let m = eqb-false (get_or marks at 0) 0 e3 in
    inr (omega arith, λ w. m (ap (λ (k : ℕ). get_or marks k 0) z ∙ w))

pub legal : (marks : List ℕ) (end : ℕ) (spot : Spot) (t : ℕ) → target_of marks end spot ≡ Ok t → (t ≡ end) ⊎ ((t < end) × (get_or marks t 0 ≡ 0 → ⊥))
unfolding target_of
legal marks end (Before n) t e = absurd (let z : ◌≡◌ {A = ℕ} 0 1 = cc in omega arith)
legal marks end (At at) t e = legal_by marks end at t (eqb at end) (ltb end at) (eqb (get_or marks at 0) 0) refl refl refl e

start_by : (b : Bool) (v z : ℕ) → z ≡ 0 → (cond b v z ≡ 0 → ⊥) → b ≡ true
start_by true v z e n = refl
start_by false v z e n = absurd (n e)

module _ (sizes : ℕ → ℕ) (body blank : List ℕ) (room : length body ≤ length blank) (clear : (t : ℕ) → get_or blank t 0 ≡ 0) where
  -- a mark that is not 0 is a start's
  pub mark_stands : (t : ℕ) → t < length body → (get_or (mark_all (walk_by sizes body 0) blank) t 0 ≡ 0 → ⊥) → is_start (walk_by sizes body 0) t ≡ true
  mark_stands t h n =
      let m = marked sizes body 0 t blank (omega arith) in
      start_by (is_start (walk_by sizes body 0) t) (sizes (get_or body t 0)) (get_or blank t 0) (clear t) (λ z. n (m ∙ z))

  -- a legal target
  pub target_stands : (spot : Spot) (t : ℕ) → target_of (mark_all (walk_by sizes body 0) blank) (length body) spot ≡ Ok t → Standing sizes body t
  target_stands spot t e =
      ⊎_elim (λ w. inr w) (λ w. inl (mark_stands t w.0 w.1)) (legal (mark_all (walk_by sizes body 0) blank) (length body) spot t e)

-- an instruction that is neither branching nor leaving goes on
pub flow_next : (op : ℕ) (operands : List ℕ) → turns op ≡ false → flow_of op operands ≡ Next
unfolding flow_of
flow_next op operands h =
    let n = no_turn op h in
    simp (
      ne_eqb op 0x7C n.not_jmp,
      ne_eqb op 0x80 n.not_jmp_if_not,
      ne_eqb op 0xF4 n.not_cmp_br_i32,
      ne_eqb op 0xF5 n.not_cmp_br_i64,
      ne_eqb op 0x88 n.not_ret,
      ne_eqb op 0x8C n.not_ret_void,
    )

fit_by : (sizes : ℕ → ℕ) (body : List ℕ) (at z : ℕ) (b : Bool) → is_start (walk_by sizes body 0) at ≡ b → z ≡ 0 → at < length body → at + cond b (sizes (get_or body at 0)) z ≤ length body
fit_by sizes body at z true e w h =
    let s = begins sizes body 0 at e in
    let k = stands sizes body at s.op s.size s.step in
    let n : s.size ≡ sizes (get_or body at 0) = k.is_size ∙ ap sizes k.is_op in
    omega (arith, k.within)
fit_by sizes body at z false e w h = omega arith

-- an instruction that is marked ends within its body
pub marks_fit : (sizes : ℕ → ℕ) (body blank : List ℕ) → length body ≤ length blank → ((t : ℕ) → get_or blank t 0 ≡ 0) → (at : ℕ) → at < length body → at + get_or (mark_all (walk_by sizes body 0) blank) at 0 ≤ length body
marks_fit sizes body blank room clear at h =
    rw (marked sizes body 0 at blank (omega arith)) (fit_by sizes body at (get_or blank at 0) (is_start (walk_by sizes body 0) at) refl (clear at) h)

-- a body's marks are laid over zeros
pub marks_are : (sizes : ℕ → ℕ) (body : List ℕ) → marks_of sizes body ≡ mark_all (walk_by sizes body 0) (zeros (length body))
unfolding marks_of
marks_are sizes body = refl

pub body_fits : (sizes : ℕ → ℕ) (body : List ℕ) (at : ℕ) → at < length body → at + get_or (marks_of sizes body) at 0 ≤ length body
body_fits sizes body at h =
    let l = length_zeros (zeros (length body)) (length body) refl in
    rw (marks_are sizes body) (marks_fit sizes body (zeros (length body)) (omega arith) (any_zero (zeros (length body)) (length body) refl) at h)

-- only RET and RET_VOID leave
pub return_is : (op : ℕ) (operands : List ℕ) → flow_of op operands ≡ Return → (op ≡ 0x88) ⊎ (op ≡ 0x8C)
unfolding flow_of
return_is op operands e =
    by (word_at operands 0) (word_at operands 5) (eqb op 0x7C) (eqb op 0x80) (eqb op 0xF4) (eqb op 0xF5) (eqb op 0x88) (eqb op 0x8C) refl refl e
  where
    by : (near far : ℕ) (a b c d r v : Bool) → eqb op 0x88 ≡ r → eqb op 0x8C ≡ v
        → cond a (Jump near) (cond b (Branch near) (cond c (Branch far) (cond d (Branch far) (cond r Return (cond v Return Next))))) ≡ Return → (op ≡ 0x88) ⊎ (op ≡ 0x8C)
    by near far true b c d r v x y e = absurd (let z : ◌≡◌ {A = ℕ} 0 1 = cc in omega arith)
    by near far false true c d r v x y e = absurd (let z : ◌≡◌ {A = ℕ} 0 1 = cc in omega arith)
    by near far false false true d r v x y e = absurd (let z : ◌≡◌ {A = ℕ} 0 1 = cc in omega arith)
    by near far false false false true r v x y e = absurd (let z : ◌≡◌ {A = ℕ} 0 1 = cc in omega arith)
    by near far false false false false true v x y e = inl (eqb-true op 0x88 x)
    by near far false false false false false true x y e = inr (eqb-true op 0x8C y)
    by near far false false false false false false x y e = absurd (let z : ◌≡◌ {A = ℕ} 0 1 = cc in omega arith)
