-- `program::seen::repeated_by_marks` meets its contract: what is seen is what stands in the rows that were passed, and none of them repeats an id.
-- Assumes nothing.
use Prim.Native.Nat.{ℕ, ◌<◌, ◌+◌}
use mathlib.Core.Path.{◌∙◌, sym, refl, ◌≡◌}
use mathlib.Core.List.{List}
use mathlib.Core.Bool.{Bool, true, false}
use native.Mathlib.Nat.{not-suc-le-zero}
use native.Mathlib.Numerals.{add-one}
use native.Mathlib.Omega.{arith}
use borrow.Author.Count.{below_more}
use borrow.Author.Tests.{eqb-true, eqb-false}
use borrow.Author.Rules.{rules}
use lib.Dec.{eqb}
use lib.ListN.{get_or, length}
use Rattle.codes.specs.First.{row_if_lem, nowhere_if}
use Rattle.program.specs.Refusals.{stands_in, repeats, repeated_of}
use Rattle.program.specs.Seen.{seen, met}
use Rattle.program.proofs.Bits.{met_same, met_other, length_met, seen_none}
use Rattle.program.proofs.seen.repeated_by_marks.Invariants.{Met}
use Rattle.program.proofs.seen.repeated_by_marks.Goals as goal

module _ (ids marks : List ℕ) (i : ℕ) (m : Met ids marks i) (fits : get_or ids i 0 < 65536) where
  exact-by : (x : ℕ) (b : Bool) → eqb (get_or ids i 0) x ≡ b → seen (met marks (get_or ids i 0)) x ≡ stands_in ids x (i + 1)
  exact-by x true e =
      let z = eqb-true (get_or ids i 0) x e in
      simp (add-one, e) (rw (← z) (met_same marks (get_or ids i 0) (omega (arith, m.cells))))
  exact-by x false e =
      simp (add-one, e) (met_other marks (get_or ids i 0) x (eqb-false (get_or ids i 0) x e) (omega (arith, m.cells)) ∙ m.exact x)

  repeated-here : seen marks (get_or ids i 0) ≡ true → repeats ids i ≡ true
  unfolding repeats
  repeated-here e = sym (m.exact (get_or ids i 0)) ∙ e

  next : i < length ids → seen marks (get_or ids i 0) ≡ false → Met ids (met marks (get_or ids i 0)) (i + 1)
  unfolding repeats
  next h e =
      record {
        inside = omega arith;
        cells = length_met marks (get_or ids i 0) ∙ m.cells;
        exact = λ x. exact-by x (eqb (get_or ids i 0) x) refl;
        single = below_more _ _ m.single (sym (m.exact (get_or ids i 0)) ∙ e);
      }

pub loop-i-init : goal.loop-i-init
loop-i-init c = record { inside = search rules; cells = search rules; exact = λ x. seen_none 8192 x; single = λ k h. absurd (not-suc-le-zero h) }

pub returns-then-meet : goal.returns-then-meet
unfolding repeated_of
returns-then-meet c = let l = c.loop-i in
    sym
    (row_if_lem _ _ _
    (record {
      inside = c.loop-i-test.true;
      picked = repeated-here _ l.marks l.i l.invariant (omega (arith, c.type_inv.ids l.i)) (sym c.meet.ensures.0 ∙ c.if-meet.true);
      earlier = l.invariant.single;
    }))

pub loop-i-preserved : goal.loop-i-preserved
loop-i-preserved c = let l = c.loop-i in
    rw c.meet.ensures.1
    (next _ l.marks l.i l.invariant (omega (arith, c.type_inv.ids l.i)) c.loop-i-test.true (sym c.meet.ensures.0 ∙ c.if-meet.false))

pub returns : goal.returns
unfolding repeated_of
returns c = let l = c.loop-i in
    sym (nowhere_if _ _ (record { passed = λ k h. l.invariant.single k (omega arith) }))
