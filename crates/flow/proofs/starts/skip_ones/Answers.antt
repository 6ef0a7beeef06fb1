-- `flow::starts::skip_ones` meets its contract: `Skipped` is the invariant; an opcode of one byte other than RET is passed.
-- Assumes nothing.
use mathlib.Core.Path.{◌≡◌, ◌∙◌, sym}
use lib.ListN.{length}
use native.Mathlib.Omega.{arith}
use Rattle.flow.proofs.Marking.{skipped_first, skipped_then, skipped_one}
use Rattle.flow.proofs.starts.skip_ones.Goals as goal

pub loop-at-init : goal.loop-at-init
loop-at-init c = skipped_first _ _ _ c.requires

pub returns-then-op : goal.returns-then-op
returns-then-op c = c.loop-at.invariant

pub loop-at-preserved : goal.loop-at-preserved
loop-at-preserved c = let l = c.loop-at in
    let e = sym c.size_in.ensures ∙ c.if-size_in-ne1.false in
    skipped_then _ c.args.body.now _ l.at _ l.invariant (skipped_one _ c.args.body.now l.at c.loop-at-test.true e c.if-op.false)

pub returns : goal.returns
returns c = let e : c.loop-at.at ≡ length c.args.body.now = omega (arith, c.loop-at.invariant.within, c.loop-at-test.false) in
    rw (sym e) c.loop-at.invariant
