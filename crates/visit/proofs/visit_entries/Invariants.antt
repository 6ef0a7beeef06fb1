-- `visit::visit_entries` keeps its promise. The invariant: no function is open, and the entries from i on, from the largest total so far, have the answer of
-- all. Each turn and return is a law of `Entries`. Assumes nothing.
use Rattle.visit.specs.Cells.{graph_of}
use Rattle.visit.proofs.Entries.{Entries}
use Rattle.visit.proofs.visit_entries.Given as goal

abbrev pub invariant-loop-entry : goal.invariant-loop-entry
invariant-loop-entry l = Entries (graph_of l.graph) l.graph.pool l.ids l.entries l.best l.state l.entry-index
