-- `tables::effect_in` meets its contract: two fields of the word.
-- Assumes nothing.
use Rattle.tables.specs.Packed.{effect_in}
use Rattle.tables.proofs.effect_in.Goals as goal

pub returns : goal.returns
unfolding effect_in
returns c = c.new.ensures
