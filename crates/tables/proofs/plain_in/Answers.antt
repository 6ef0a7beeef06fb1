-- `tables::plain_in` meets its contract: the word's sort is compared.
-- Assumes nothing.
use mathlib.Core.Path.{refl}
use Rattle.tables.specs.Packed.{plain_in}
use Rattle.tables.proofs.plain_in.Goals as goal

pub returns : goal.returns
unfolding plain_in
returns c = refl
