-- `pool::tread::tread` meets its contract: the body's end, a plain instruction, and any other.
-- Assumes nothing.
use mathlib.Core.Path.{refl, ◌∙◌, sym}
use Rattle.buffers.proofs.Cases.{tread_end}
use Rattle.pool.proofs.Treading.{tread_is, tread_plain}
use Rattle.pool.proofs.tread.tread.Goals as goal

pub returns-then-body-offset : goal.returns-then-body-offset
returns-then-body-offset c = tread_end _ _ _ _ _ _ _ c.if-body-offset.true

pub returns-then-plain_in : goal.returns-then-plain_in
returns-then-plain_in c = tread_plain c.args.rules.now.sources.words.now _ _ _ _ _ c.args.marks.now c.args.body.now _ _ _ _ _ _ c.if-body-offset.false refl c.at-size.ensures refl c.args.rules.now.goes_on (sym c.plain_in.ensures ∙ c.if-plain_in.true) _ _ _ c.temp_in.ensures c.summed-sum.ensures c.within-way.ensures

pub returns : goal.returns
returns c = tread_is c.args.rules.now.sources.words.now _ _ _ _ _ c.args.marks.now c.args.body.now _ _ _ _ _ _ c.if-body-offset.false refl c.at-size.ensures refl _ _ _ _ _ _ c.operands_of-operands.ensures c.temp_of.ensures c.opened_by-opens.ensures c.summed-sum-2.ensures c.flows.ensures c.within-way-2.ensures
