-- A frame's step under the stack check's rules: where no rule is broken at an offset and a depth, the instruction there takes no more than the depth,
-- both depths are within the declared maximum, an exit is at its depth, there is a way on, and each way on is a successor of the rules with the depth
-- that is left. By what it means that no rule is broken (rules' Held.antt) and the rules' laws for each case.
-- Assumes nothing.
use Rattle.std.specs.Prelude.{Ok}
use Prim.Native.Nat.{ℕ, ◌+◌, ◌-◌, ◌≤◌, ◌<◌}
use native.Mathlib.Omega.{arith}
use mathlib.Core.Path.{◌≡◌, refl, sym, subst, ◌∙◌}
use mathlib.Core.Bool.{Bool, true, false, cond}
use mathlib.Core.List.{List}
use mathlib.Core.Logic.{◌⊎◌, inl, inr}
use lib.ListN.{length, get_or}
use lib.Dec.{ltb}
use borrow.Author.Tests.{ltb-true, ltb-false, eq-eqb, ne_eqb}
use Rattle.tables.specs.declared.Effect.{Effect}
use Rattle.flow.specs.declared.Flow.{Flow}
use Rattle.flow.specs.declared.Flow.TheVariants.{Next, Jump, Branch, Return}
use Rattle.flow.specs.Decode.{operands_at, flow_of}
use Rattle.rules.specs.Look.{Known, Effects, larger, flowing, look_of, Look}
use Rattle.rules.specs.Assigned.{Holds, Names}
use Rattle.rules.proofs.Cases.{flowing_next, jump_legal, branch_legal, look_flow}
use Rattle.rules.proofs.Held.{look_held, end_held, return_held, jump_held, branch_held}
use Rattle.machine.specs.Machine.{depth_after, Onward}

larger_within : (a b x : ℕ) → a ≤ x → b ≤ x → larger a b ≤ x
larger_within a b x h k = by (ltb a b)
  where
    by : (t : Bool) → cond t b a ≤ x
    by true = k
    by false = h

module _ (marks : List ℕ) (end offset next op out : ℕ) where
  -- each way on is a successor of the rules
  onward_named : (flow : Flow) (to : ℕ) → Onward marks end next flow to → Names (flowing marks end offset next op out flow) to out
  onward_named Next to w = rw (flowing_next marks end offset next op out) (w, refl)
  onward_named (Jump word) to w = rw (jump_legal marks end offset next op out word to w) (refl, refl)
  onward_named (Branch word) to w = rw (branch_legal marks end offset next op out word w.0 w.1) (w.2, refl)
  onward_named Return to w = absurd w

  -- there is a way on, or it leaves
  pub way_on : (flow : Flow) → Holds (flowing marks end offset next op out flow) → (flow ≡ Return) ⊎ ((to : ℕ) × Onward marks end next flow to)
  way_on Next h = inr (next, refl)
  way_on (Jump word) h = inr (jump_held marks end offset next op out word h)
  way_on (Branch word) h = let t = branch_held marks end offset next op out word h in inr (t.0, (t.0, t.1, inl refl))
  way_on Return h = inl refl

-- and at which depth
pub exits_at : (marks : List ℕ) (end offset next op out : ℕ) (flow : Flow) → flow ≡ Return → Holds (flowing marks end offset next op out flow) → (op ≡ 0x88) ⊎ (op ≡ 0x8C)
    → ((op ≡ 0x88) × (out ≡ 1)) ⊎ ((op ≡ 0x8C) × (out ≡ 0))
exits_at marks end offset next op out flow e h (inl z) = inl (z, return_held marks end offset next op out (rw e at h) ∙ simp (eq-eqb op 0x88 z))
exits_at marks end offset next op out flow e h (inr z) = inr (z, return_held marks end offset next op out (rw e at h) ∙ simp (ne_eqb op 0x88 (λ w. omega arith)))

moves_one : (e f : Effect) → ◌≡◌ {A = Known} (Ok e) (Ok f) → e ≡ f
moves_one e f z = cc

module _ (known : Effects) (marks body : List ℕ) (maximum offset depth op size : ℕ) where
  abbrev operands : List ℕ
  operands = operands_at body offset size

  abbrev looked : Look
  looked = look_of known marks body maximum offset depth

  -- what the rules say of the instruction
  pub record Obeys (e : Effect) : Type 0 where
    pub enough : e.takes ≤ depth
    pub before : depth ≤ maximum
    pub after : depth_after e depth ≤ maximum
    pub flows : Holds (flowing marks (length body) offset (offset + size) op (depth_after e depth) (flow_of op operands))
    pub names : (to : ℕ) → Onward marks (length body) (offset + size) (flow_of op operands) to → Names looked to (depth_after e depth)

  module _ (inside : offset < length body) (is_op : op ≡ get_or body offset 0) (is_size : size ≡ get_or marks offset 0) where
    -- its effect is known
    pub acts_known : Holds looked → (e : Effect) × (known op operands ≡ Ok e)
    acts_known h =
        let d = look_held known marks body maximum offset depth inside h in
        (d.effect, rw (← is_op, ← is_size) at d.is_known)

    pub obeys : (e : Effect) → known op operands ≡ Ok e → Holds looked → Obeys e
    obeys e is h =
        let d = look_held known marks body maximum offset depth inside h in
        by d.effect (rw (← is_op, ← is_size) at d.is_known) d.enough d.before d.after
      where
        by : (f : Effect) → known op operands ≡ Ok f → f.takes ≤ depth → depth ≤ maximum → depth - f.takes + f.leaves ≤ maximum → Obeys e
        by f k a b c =
            let z : f ≡ e = moves_one f e (sym k ∙ is) in
            let a' : e.takes ≤ depth = rw z at a in
            let c' : depth_after e depth ≤ maximum = rw z at c in
            let l = look_flow known marks body maximum offset depth op size operands inside is_op is_size refl e is (depth_after e depth) (larger depth (depth_after e depth)) a' refl refl
            (larger_within depth (depth_after e depth) maximum b c') in
            record {
              enough = a';
              before = b;
              after = c';
              flows = subst Holds l h;
              names = λ to w. subst (λ (k : Look). Names k to (depth_after e depth)) (sym l)
                  (onward_named marks (length body) offset (offset + size) op (depth_after e depth) (flow_of op operands) to w);
            }

-- at every place the depth is within the maximum
pub depth_within : (known : Effects) (marks body : List ℕ) (maximum offset depth : ℕ) → Holds (look_of known marks body maximum offset depth) → depth ≤ maximum
depth_within known marks body maximum offset depth h = by (ltb offset (length body)) refl
  where
    by : (t : Bool) → ltb offset (length body) ≡ t → depth ≤ maximum
    by true e = (look_held known marks body maximum offset depth (ltb-true offset (length body) e) h).before
    by false e = let z = end_held known marks body maximum offset depth (ltb-false offset (length body) e) h in omega arith
