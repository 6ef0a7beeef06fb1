-- `program::counts::too_many` meets its contract: one test after the other, as in the definition.
-- Assumes nothing.
use mathlib.Core.Path.{◌∙◌, sym}
use Rattle.program.specs.Refusals.{too_many}
use Rattle.program.proofs.counts.too_many.Goals as goal

pub returns-then-table_refused : goal.returns-then-table_refused
unfolding too_many
returns-then-table_refused c = rw (sym c.table_refused.ensures ∙ c.if-table_refused.true)

pub returns-then-table_refused-2 : goal.returns-then-table_refused-2
unfolding too_many
returns-then-table_refused-2 c = rw (sym c.table_refused.ensures ∙ c.if-table_refused.false, sym c.table_refused-2.ensures ∙ c.if-table_refused-2.true)

pub returns : goal.returns
unfolding too_many
returns c = rw (sym c.table_refused.ensures ∙ c.if-table_refused.false, sym c.table_refused-2.ensures ∙ c.if-table_refused-2.false)
