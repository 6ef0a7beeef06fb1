-- `tables::sizes` meets its contract: the stored numbers are those of `size_of` at each of the 256 bytes, which antt computes.
-- Assumes nothing.
use mathlib.Core.Path.{refl}
use Rattle.tables.specs.Set.{size_of, instruction_set}
use Rattle.tables.specs.Packed.{size_table}
use Rattle.tables.proofs.sizes.Goals as goal

pub returns : goal.returns
unfolding size_table size_of instruction_set
returns c = refl
