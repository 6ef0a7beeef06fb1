-- The cycle of calls of `visit::total` and `visit::largest`. The measures: 2 for each function not yet open, and 1 more for `largest`. The loop's invariant is
-- `Along`, and each turn and return is a law of `Steps`. Assumes nothing.
use Rattle.std.proofs.Common.{◌+◌, ◌*◌}
use Rattle.visit.specs.Marks.{unopened}
use Rattle.visit.proofs.Steps.{Along}
use Rattle.visit.proofs.+largest_total.Given as goal

abbrev pub decreases-largest : goal.decreases-largest
decreases-largest l = 2 * unopened l.state.colours + 1

abbrev pub decreases-total : goal.decreases-total
decreases-total l = 2 * unopened l.state.colours

abbrev pub invariant-largest-loop-c : goal.invariant-largest-loop-c
invariant-largest-loop-c l = Along l.graph l.f l.fn.state l.best l.state l.c-index
