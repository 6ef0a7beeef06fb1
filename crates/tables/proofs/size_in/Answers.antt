-- `tables::size_in` meets its contract: it is the table's entry.
-- Assumes nothing.
use mathlib.Core.Path.{refl}
use Rattle.tables.specs.Packed.{size_in}
use Rattle.tables.proofs.size_in.Goals as goal

pub returns : goal.returns
unfolding size_in
returns c = refl
