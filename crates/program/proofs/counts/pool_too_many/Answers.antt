-- `program::counts::pool_too_many` meets its contract: one test after the other, as in the definition.
-- Assumes nothing.
use mathlib.Core.Path.{◌∙◌, sym}
use Rattle.program.specs.Refusals.{pool_too_many}
use Rattle.program.proofs.counts.pool_too_many.Goals as goal

pub returns-then-table_refused : goal.returns-then-table_refused
unfolding pool_too_many
returns-then-table_refused c = rw (sym c.table_refused.ensures ∙ c.if-table_refused.true)

pub returns : goal.returns
unfolding pool_too_many
returns c = rw (sym c.table_refused.ensures ∙ c.if-table_refused.false)
