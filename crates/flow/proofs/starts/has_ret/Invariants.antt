-- `flow::starts::has_ret` meets its contract. The invariant is `Skipped`: RET is in the walk from `at` on exactly if it is in the whole walk.
-- Assumes nothing.
use Prim.Native.Nat.{◌-◌}
use lib.ListN.{length}
use Rattle.tables.specs.Packed.{size_in}
use Rattle.flow.specs.Marked.{Skipped}
use Rattle.flow.proofs.starts.has_ret.Given as goal

abbrev pub invariant-loop-instruction : goal.invariant-loop-instruction
invariant-loop-instruction l = Skipped (size_in l.sizes) l.body 0 l.at

abbrev pub decreases-loop-instruction : goal.decreases-loop-instruction
decreases-loop-instruction l = length l.body - l.at
