-- `visit::visit_entries` keeps its promise: its loop begins with no function open, and a failure is an entry's. Its turns and its end are laws of `Entries`
-- that the source names. Assumes nothing.
use Rattle.visit.specs.Cells.{graph_of, row_at}
use Rattle.std.proofs.Common.{ap}
use Rattle.visit.specs.Marks.{fresh}
use Rattle.visit.proofs.Colours.{fresh_rest}
use Rattle.visit.proofs.Entries.{entries_begin, entry_failed}
use Rattle.visit.proofs.visit_entries.Goals as goal
use Rattle.std.proofs.lemmas.Result.{err_from_is_err_and}

pub loop-entry-init : goal.loop-entry-init
unfolding fresh
loop-entry-init c =
    let a = c.args in
    entries_begin (graph_of a.graph.now) a.graph.now.pool a.ids.now a.entries.now fresh
    (fresh_rest (graph_of a.graph.now) a.graph.now.pool)

pub returns-in_err-total : goal.returns-in_err-total
returns-in_err-total c =
    let a = c.args in
    let l = c.loop-entry in
    let met = c.met in
    let row = c.function_row in
    let p = err_from_is_err_and c.from_residual.result c.from_residual.ensures.1 in
    rw (p.1, p.2)
    (entry_failed (graph_of a.graph.now) a.graph.now.pool a.ids.now a.entries.now l.best l.state l.entry-index l.invariant
    c.loop-entry-test.true (row_at row.result) (ap row_at row.ensures) met.result met.ensures _ c.in_err-total.was)
