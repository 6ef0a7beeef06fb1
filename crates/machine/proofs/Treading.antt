-- A frame's step under the pool check's walk: with no more buffers than the number at its offset, an instruction leaves no more than the weight, and at
-- each offset where it goes on no more than the number there, where the weight is within the pool; and what it opens is what the walk saw opened.
-- By the walk's numbers, which dominate (buffers' Meaning.antt), since what an instruction leaves grows with what it finds.
-- Assumes nothing.
use Prim.Native.Nat.{ℕ, zero, suc, ◌+◌, ◌≤◌, ◌<◌}
use native.Mathlib.Omega.{arith}
use mathlib.Core.Path.{◌≡◌, refl, sym, ap, subst, ◌∙◌}
use mathlib.Core.List.{List}
use lib.ListN.{length, get_or}
use Rattle.flow.specs.declared.Flow.{Flow}
use Rattle.flow.specs.declared.Flow.TheVariants.{Next, Jump, Branch, Return}
use Rattle.flow.specs.Decode.{operands_at, flow_of}
use Rattle.buffers.specs.declared.Way.{Way}
use Rattle.buffers.specs.declared.Tread.{Tread}
use Rattle.buffers.specs.Tread.{Temps, Opens, sum_past, flowing, bounded, tread_of}
use Rattle.buffers.specs.Walk.{Usage}
use Rattle.buffers.specs.Meaning.{Dominates}
use Rattle.buffers.specs.Meaning as meaning
use Rattle.buffers.proofs.Cases.{flowing_next, jump_legal, branch_legal, bounded_within, tread_acts, tread_grows}
use Rattle.machine.specs.Machine.{Onward}

-- a cell that holds a number
numbered : (b cell : ℕ) → b < cell → (held : ℕ) × (cell ≡ suc held) × (b ≤ held)
numbered b zero h = absurd (omega arith)
numbered b (suc held) h = (held, refl, omega arith)

-- each way on is a successor of the walk
onward_next : (marks : List ℕ) (end next : ℕ) (flow : Flow) (to : ℕ) → Onward marks end next flow to → meaning.Next (flowing marks end next flow) to
onward_next marks end next Next to w = rw (flowing_next marks end next) w
onward_next marks end next (Jump word) to w = rw (jump_legal marks end next word to w) refl
onward_next marks end next (Branch word) to w = rw (branch_legal marks end next word w.0 w.1) w.2
onward_next marks end next Return to w = absurd w

module _ (temps : Temps) (opens : Opens) (marks body : List ℕ) (pool offset op size : ℕ) (inside : offset < length body) (is_op : op ≡ get_or body offset 0) (is_size : size ≡ get_or marks offset 0) where
  abbrev operands : List ℕ
  operands = operands_at body offset size

  abbrev ruled : ℕ → ℕ → Tread
  ruled = tread_of temps opens marks body pool

  abbrev way : Way
  way = flowing marks (length body) (offset + size) (flow_of op operands)

  -- the walk's rule at the instruction
  record Rule (held : ℕ) : Type 0 where
    sums : sum_past (temps op operands) held ≡ (ruled offset held).sum
    opened : opens op operands ≡ (ruled offset held).opens
    ways : bounded pool (sum_past (temps op operands) held) way ≡ (ruled offset held).way

  rule : (held : ℕ) → Rule held
  rule held =
      let e = tread_acts temps opens marks body pool offset held op size operands (temps op operands) (opens op operands) (sum_past (temps op operands) held) way inside is_op is_size refl refl refl refl refl in
      record { sums = ap (λ (t : Tread). t.sum) e; opened = ap (λ (t : Tread). t.opens) e; ways = ap (λ (t : Tread). t.way) e }

  module _ (numbers : List ℕ) (u : Usage) (over : Dominates (tread_of temps opens marks body pool) numbers u) (light : u.weight ≤ pool) where
    -- what the walk says of a frame with so many buffers
    pub record Treads (buffers : ℕ) : Type 0 where
      pub held : ℕ
      pub number : get_or numbers offset 0 ≡ suc held
      pub sum : sum_past (temps op operands) buffers ≤ u.weight
      pub onward : (to : ℕ) → Onward marks (length body) (offset + size) (flow_of op operands) to → sum_past (temps op operands) buffers < get_or numbers to 0
      pub opened : (ruled offset held).opens ≡ opens op operands

    pub treads : (buffers : ℕ) → buffers < get_or numbers offset 0 → Treads buffers
    treads buffers h =
        let n = numbered buffers (get_or numbers offset 0) h in
        let held = n.0 in
        let g = (tread_grows temps opens marks body pool offset buffers held n.2).0 in
        let s = over.sums offset held n.1 in
        let b = (rule buffers).sums in
        let r = rule held in
        let w : way ≡ (ruled offset held).way = sym (bounded_within pool (sum_past (temps op operands) held) way (omega (arith, r.sums, s, light))) ∙ r.ways in
        record {
          held = held;
          number = n.1;
          sum = omega (arith, g, s, b);
          onward = λ to o.
              let l = over.onward offset held to n.1 (subst (λ (k : Way). meaning.Next k to) w (onward_next marks (length body) (offset + size) (flow_of op operands) to o)) in
              omega (arith, g, b, l);
          opened = sym r.opened;
        }
