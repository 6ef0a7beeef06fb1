-- `tables::words` meets its contract: the stored words are those of `word_of` at each of the 256 bytes, which antt computes.
-- Assumes nothing.
use mathlib.Core.Path.{refl}
use Rattle.tables.specs.Set.{instruction_set}
use Rattle.tables.specs.Packed.{word_table, word_of, turns}
use Rattle.tables.proofs.words.Goals as goal

pub returns : goal.returns
unfolding word_table word_of turns instruction_set
returns c = refl
