-- `flow::starts::mark_starts` meets its contract. The invariant is `Marked`: what is left of the walk from `at` on, marked, is what the loop began
-- with, and the first stretch is marked before it.
-- Assumes nothing.
use Prim.Native.Nat.{◌-◌}
use lib.ListN.{length}
use Rattle.tables.specs.Packed.{size_in}
use Rattle.flow.specs.Marked.{Marked}
use Rattle.flow.proofs.starts.mark_starts.Given as goal

abbrev pub invariant-loop-instruction : goal.invariant-loop-instruction
invariant-loop-instruction l = Marked (size_in l.sizes) l.body l.initial.at l.initial.marks l.at l.marks

abbrev pub decreases-loop-instruction : goal.decreases-loop-instruction
decreases-loop-instruction l = length l.body - l.at
