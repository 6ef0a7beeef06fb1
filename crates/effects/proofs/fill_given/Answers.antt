-- `effects::fill_given` meets its contract. The invariant is `Filling`: what is left to fill, filled, is the whole column.
-- Assumes nothing.
use mathlib.Core.Path.{◌∙◌, ap}
use lib.ListN.{length, get_or, set}
use Rattle.tables.specs.Packed.{size_in}
use Rattle.effects.specs.Effects.{filled, gives_back}
use Rattle.effects.proofs.Filling.{filling_none, filling_more, filling_all}
use Rattle.effects.proofs.fill_given.Goals as goal

pub loop-row-init : goal.loop-row-init
loop-row-init c = filling_none _ _ _

pub loop-row-preserved : goal.loop-row-preserved
loop-row-preserved c = let l = c.loop-row in
    let p = c.args.program.now in
    let v = c.gives_back-value.ensures ∙ ap (gives_back (size_in c.args.sizes.now) p.code.now (get_or p.functions.offsets.now l.row 0)) c.at-length.ensures in
    filling_more _ (length p.functions.offsets.now) _ l.row l.given c.put.new.column l.invariant c.loop-row-test.true (c.put.ensures ∙ ap (set l.given l.row) v)

pub returns : goal.returns
unfolding filled
returns c = filling_all _ (length c.args.program.now.functions.offsets.now) _ c.loop-row.row _ c.loop-row.invariant c.loop-row-test.false
