-- `pool::checked` meets its contract: the scratch is cleared, the bodies are walked, the visit is made, and all scratch is cleared again.
-- Assumes nothing.
use Rattle.program.specs.Stated.{pool_program_in}
use Rattle.pool.proofs.Calling.{words_go_on, answer_is}
use Rattle.pool.proofs.checked.Goals as goal

pub invariant_of-rules : goal.invariant_of-rules
invariant_of-rules c = record { goes_on = words_go_on _ c.words-words.ensures; pool_bounded = c.if-prove.false }

pub returns-clause-value : goal.returns-clause-value
returns-clause-value c = answer_is (pool_program_in c.args.program.now) _ c.requires.stack _ _ _ _ _ c.sizes-sizes.ensures c.words-words.ensures c.all-usages.ensures.found _ c.judged-verdict.ensures
