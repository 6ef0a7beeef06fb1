-- `stack::bodies::all` meets its contract. The invariant is `Going`: the rows from this one on give what all give, over scratch that is zero.
-- Assumes nothing.
use mathlib.Core.Path.{refl, ◌∙◌, sym, ap}
use Rattle.cells.specs.Zeros.{zeros, length_zeros}
use Rattle.stack.proofs.Running.{going_first, going_end, going_stop, going_more, row_is}
use Rattle.stack.proofs.bodies.all.Goals as goal

pub loop-row-init : goal.loop-row-init
loop-row-init c = going_first _ _ _ _ _ _ c.requires.cleared.0

pub returns-in-Err : goal.returns-in-Err
returns-in-Err c = let l = c.loop-row in
    let o = c.one in
    let e = row_is _ _ _ l.row _ _ _ _ _ c.at.ensures c.at-in-loop-row.ensures c.at-maximum.ensures c.part-body.ensures o.ensures.0 in (
      going_stop _ _ _ _ _ _ l.marks l.depths l.queue l.row l.invariant c.loop-row-test.true _ _ refl (sym c.in-Err.is ∙ e),
      (
        o.ensures.1.0 ∙ ap zeros (length_zeros _ _ l.invariant.marks_zero),
        o.ensures.1.1 ∙ ap zeros (length_zeros _ _ l.invariant.depths_zero),
      ),
    )

pub loop-row-preserved : goal.loop-row-preserved
loop-row-preserved c = let l = c.loop-row in
    let o = c.one in
    let e = row_is _ _ _ l.row _ _ _ _ _ c.at.ensures c.at-in-loop-row.ensures c.at-maximum.ensures c.part-body.ensures o.ensures.0 in
    going_more _ _ _ _ _ _ l.marks l.depths l.queue l.row l.invariant c.loop-row-test.true o.new.marks o.new.depths o.new.queue o.ensures.1.0 o.ensures.1.1 o.auto.queue (sym c.in_default.is ∙ e)

pub returns : goal.returns
returns c = let l = c.loop-row in
    (going_end _ _ _ _ _ _ l.marks l.depths l.queue l.row l.invariant c.loop-row-test.false, (l.invariant.marks_zero, l.invariant.depths_zero))
