-- `flow::starts::mark_ones` meets its contract: `Marked` is the invariant; an opcode of one byte is an instruction.
-- Assumes nothing.
use mathlib.Core.Path.{◌≡◌, ◌∙◌, sym}
use lib.ListN.{length}
use native.Mathlib.Omega.{arith}
use Rattle.flow.proofs.Marking.{marked_first, marked_one}
use Rattle.flow.proofs.starts.mark_ones.Goals as goal

pub loop-at-init : goal.loop-at-init
loop-at-init c = marked_first _ _ _ _ c.requires

pub returns-then-size_in-ne1 : goal.returns-then-size_in-ne1
returns-then-size_in-ne1 c = c.loop-at.invariant

pub loop-at-preserved : goal.loop-at-preserved
loop-at-preserved c = let l = c.loop-at in
    let e = sym c.size_in.ensures ∙ c.if-size_in-ne1.false in
    marked_one _ c.args.body.now _ _ l.at l.marks c.put.new.column l.invariant c.loop-at-test.true e c.put.ensures

pub returns : goal.returns
returns c = let e : c.loop-at.at ≡ length c.args.body.now = omega (arith, c.loop-at.invariant.within, c.loop-at-test.false) in
    rw (sym e) c.loop-at.invariant
