-- `stack::checked` meets its contract: what is read out of the tables and columns of an input that is taken is 01's.
-- Assumes nothing.
use mathlib.Core.Path.{◌∙◌}
use native.Mathlib.Omega.{arith}
use lib.ListN.{replicate}
use Rattle.stack.proofs.Calling.{answer_is}
use Rattle.stack.proofs.checked.Goals as goal

pub returns-clause-value : goal.returns-clause-value
returns-clause-value c = c.all-verdict.ensures.0 ∙ answer_is _ _ c.requires _ _ _ _ (replicate 128 0) c.sizes-sizes.ensures c.words-words.ensures c.given_back.ensures (omega arith)
