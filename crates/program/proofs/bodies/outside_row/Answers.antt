-- `program::bodies::outside_row` meets its contract: no body that was passed is outside the code.
-- Assumes nothing.
use mathlib.Core.Path.{sym}
use native.Mathlib.Nat.{not-suc-le-zero}
use native.Mathlib.Omega.{arith}
use borrow.Author.Count.{below_more}
use borrow.Author.Rules.{rules}
use Rattle.codes.specs.First.{row_if_lem, nowhere_if}
use Rattle.program.specs.Refusals.{outside_of}
use Rattle.program.proofs.Laws.{inside_row, offset_outside, length_outside}
use Rattle.program.proofs.bodies.outside_row.Goals as goal

pub loop-i-init : goal.loop-i-init
loop-i-init c = (search rules, λ k h. absurd (not-suc-le-zero h))

pub returns-then-offset-code : goal.returns-then-offset-code
unfolding outside_of
returns-then-offset-code c = let l = c.loop-i in
    let a = c.args in
    sym
    (row_if_lem _ _ _
    (record {
      inside = c.loop-i-test.true;
      picked = offset_outside a.functions.now.offsets.now a.functions.now.lengths.now a.code l.i c.if-offset-code.true;
      earlier = l.invariant.1;
    }))

pub returns-then-at-left : goal.returns-then-at-left
unfolding outside_of
returns-then-at-left c = let l = c.loop-i in
    let a = c.args in
    sym
    (row_if_lem _ _ _
    (record {
      inside = c.loop-i-test.true;
      picked = length_outside a.functions.now.offsets.now a.functions.now.lengths.now a.code l.i (omega (arith, c.at.ensures, c.if-at-left.true));
      earlier = l.invariant.1;
    }))

pub loop-i-preserved : goal.loop-i-preserved
loop-i-preserved c = let l = c.loop-i in
    let a = c.args in (
      search rules,
      below_more _ _ l.invariant.1
          (inside_row a.functions.now.offsets.now a.functions.now.lengths.now a.code l.i c.if-offset-code.false (omega (arith, c.at.ensures, c.if-at-left.false))),
    )

pub returns : goal.returns
unfolding outside_of
returns c = let l = c.loop-i in
    sym (nowhere_if _ _ (record { passed = λ k h. l.invariant.1 k (omega arith) }))
