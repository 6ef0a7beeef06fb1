-- Where a walk of a weight within the pool ended, every branch on a path has a legal target: with an illegal one its way would be astray, since the
-- sum is within the pool, and no path is (Paths.antt).
-- Assumes nothing.
use Rattle.std.specs.Prelude.{Ok, Err}
use mathlib.Core.Path.{◌≡◌, refl, sym, ap, ◌∙◌}
use mathlib.Core.List.{List}
use mathlib.Core.Logic.{◌⊎◌, inl, inr}
use Prim.Native.Nat.{ℕ, ◌+◌, ◌≤◌, ◌<◌}
use native.Mathlib.Omega.{arith}
use lib.ListN.{length, get_or}
use Rattle.flow.specs.declared.Flow.{Flow}
use Rattle.flow.specs.declared.Flow.TheVariants.{Jump, Branch}
use Rattle.flow.specs.Decode.{operands_at, flow_of, moved, target_of, Target}
use Rattle.buffers.specs.declared.Way.TheVariants.{Astray}
use Rattle.buffers.specs.declared.Tread.{Tread}
use Rattle.buffers.specs.Tread.{Temps, Opens, sum_past, flowing, bounded, tread_of}
use Rattle.buffers.specs.Walk.{Usage}
use Rattle.buffers.specs.Meaning.{Dominates}
use Rattle.buffers.specs.Trodden.{Comes}
use Rattle.buffers.proofs.Cases.{tread_acts, tread_grows, bounded_within, jump_illegal, branch_illegal}
use Rattle.buffers.proofs.Paths.{paths_light, paths_straight}

module _ (temps : Temps) (opens : Opens) (marks body : List ℕ) (pool : ℕ) where
  abbrev ruled : ℕ → ℕ → Tread
  ruled offset held = tread_of temps opens marks body pool offset held

  -- within the pool the way is the flow's
  way_is : (offset held : ℕ) → offset < length body → (ruled offset held).sum ≤ pool
      → (ruled offset held).way ≡ flowing marks (length body) (offset + get_or marks offset 0) (flow_of (get_or body offset 0) (operands_at body offset (get_or marks offset 0)))
  way_is offset held within l = by (get_or body offset 0) (get_or marks offset 0) refl refl
    where
      by : (op size : ℕ) → op ≡ get_or body offset 0 → size ≡ get_or marks offset 0 → (ruled offset held).way ≡ flowing marks (length body) (offset + size) (flow_of op (operands_at body offset size))
      by op size o s =
          let operands = operands_at body offset size in
          let sum = sum_past (temps op operands) held in
          let way = flowing marks (length body) (offset + size) (flow_of op operands) in
          let e = tread_acts temps opens marks body pool offset held op size operands (temps op operands) (opens op operands) sum way within o s refl refl refl refl refl in
          let x : sum ≡ (ruled offset held).sum = ap (λ (t : Tread). t.sum) e in
          let y : bounded pool sum way ≡ (ruled offset held).way = ap (λ (t : Tread). t.way) e in
          sym y ∙ bounded_within pool sum way (omega arith)

  module _ (numbers : List ℕ) (u : Usage) (dominates : Dominates (tread_of temps opens marks body pool) numbers u) (light : u.weight ≤ pool) where
    pub branches_legal : (offset held : ℕ) → Comes (tread_of temps opens marks body pool) offset held → offset < length body → (word : ℕ)
        → (flow_of (get_or body offset 0) (operands_at body offset (get_or marks offset 0)) ≡ Jump word) ⊎ (flow_of (get_or body offset 0) (operands_at body offset (get_or marks offset 0)) ≡ Branch word)
        → (to : ℕ) × (target_of marks (length body) (moved (offset + get_or marks offset 0) word) ≡ Ok to)
    branches_legal offset held c within word f = by (target_of marks (length body) (moved (offset + get_or marks offset 0) word)) refl f
      where
        flow : Flow
        flow = flow_of (get_or body offset 0) (operands_at body offset (get_or marks offset 0))

        not_astray : flowing marks (length body) (offset + get_or marks offset 0) flow ≡ Astray → ⊥
        not_astray e =
            let l = paths_light (tread_of temps opens marks body pool) pool (λ o a m k. tread_grows temps opens marks body pool o a m k) numbers u dominates light offset held c in
            paths_straight (tread_of temps opens marks body pool) pool (λ o a m k. tread_grows temps opens marks body pool o a m k) numbers u dominates light offset held c
            (way_is offset held within (omega arith) ∙ e)

        by : (t : Target) → target_of marks (length body) (moved (offset + get_or marks offset 0) word) ≡ t → (flow ≡ Jump word) ⊎ (flow ≡ Branch word)
            → (to : ℕ) × (target_of marks (length body) (moved (offset + get_or marks offset 0) word) ≡ Ok to)
        by (Ok to) e g = (to, e)
        by (Err spot) e (inl g) = absurd (not_astray (rw g (jump_illegal marks (length body) (offset + get_or marks offset 0) word spot e)))
        by (Err spot) e (inr g) = absurd (not_astray (rw g (branch_illegal marks (length body) (offset + get_or marks offset 0) word spot e)))
