-- `program::seen::meet` meets its contract: the cell stays as it was exactly where the bit was set.
-- Assumes nothing.
use Prim.Native.Nat.{◌/◌, ◌%◌}
use mathlib.Core.Path.{ap}
use lib.ListN.{get_or, set}
use Rattle.program.specs.Seen.{seen, met}
use Rattle.program.proofs.Bits.{same_cell}
use Rattle.program.proofs.seen.meet.Goals as goal

pub returns : goal.returns
unfolding seen met
returns c = let a = c.args in
    (rw c.with_bit-marked.ensures (same_cell (get_or a.marks.now (a.id / 8) 0) (a.id % 8)), ap (set a.marks.now (a.id / 8)) c.with_bit-marked.ensures)
