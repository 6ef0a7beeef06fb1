-- `pool::walk::follow_on` meets its contract: each way on is a case of `follow`.
-- Assumes nothing.
use mathlib.Core.Path.{refl}
use Rattle.std.proofs.lemmas.Result.{err_from_is_err_and}
use Rattle.pool.proofs.Raising.{turn_ends, turn_astray, turn_kept, turn_on, turn_raised, turn_full, first_full, both_raised, second_full, raised_ready, leads_goes}
use Rattle.pool.proofs.walk.follow_on.Goals as goal

pub returns-then-sum-numbers-clause-turns : goal.returns-then-sum-numbers-clause-turns
returns-then-sum-numbers-clause-turns c = turn_kept _ _ _ _ _ _ _ _ c.in-Goes.is c.requires.ready _ refl c.if-sum-numbers.true

pub returns-then-ring-eq0-clause-turns : goal.returns-then-ring-eq0-clause-turns
returns-then-ring-eq0-clause-turns c = turn_on _ _ _ _ _ _ _ _ c.in-Goes.is c.requires.ready c.if-ring-eq0.true _ refl c.if-sum-numbers.false (leads_goes _ _ _ _ _ c.in-Goes.is c.requires.leads).0

pub returns-in_err-raise-in-Goes-clause-turns : goal.returns-in_err-raise-in-Goes-clause-turns
returns-in_err-raise-in-Goes-clause-turns c = let p = err_from_is_err_and c.from_residual.result c.from_residual.ensures.1 in rw (p.1, p.2) (turn_full _ _ _ _ _ _ _ _ c.in-Goes.is _ _ _ _ _ _ c.raise.ensures.raises _ c.in_err-raise-in-Goes.was)

pub returns-in_err-raise-in-Forks-clause-turns : goal.returns-in_err-raise-in-Forks-clause-turns
returns-in_err-raise-in-Forks-clause-turns c = let p = err_from_is_err_and c.from_residual-in_err-raise-in-Forks.result c.from_residual-in_err-raise-in-Forks.ensures.1 in rw (p.1, p.2) (first_full _ _ _ _ _ _ _ _ _ c.in-Forks.is _ _ _ _ _ _ c.raise-in-Forks.ensures.raises _ c.in_err-raise-in-Forks.was)

pub raise-requires-in-Forks-2-clause-ready : goal.raise-requires-in-Forks-2-clause-ready
raise-requires-in-Forks-2-clause-ready c = raised_ready _ _ _ _ _ _ _ c.in_ok-raise-in-Forks.was c.raise-in-Forks.ensures.raises

pub returns-in_err-raise-in-Forks-2-clause-turns : goal.returns-in_err-raise-in-Forks-2-clause-turns
returns-in_err-raise-in-Forks-2-clause-turns c = let p = err_from_is_err_and c.from_residual-in_err-raise-in-Forks-2.result c.from_residual-in_err-raise-in-Forks-2.ensures.1 in rw (p.1, p.2) (second_full _ _ _ _ _ _ _ _ _ c.in-Forks.is _ _ _ _ _ _ c.raise-in-Forks.ensures.raises c.in_ok-raise-in-Forks.was c.raise-in-Forks.ensures.same _ _ _ _ _ _ c.raise-in-Forks-2.ensures.raises _ c.in_err-raise-in-Forks-2.was)

pub returns-in-Ends-clause-turns : goal.returns-in-Ends-clause-turns
returns-in-Ends-clause-turns c = turn_ends _ _ _ _ _ _ _ c.requires.ready c.in-Ends.is

pub returns-in-Astray-clause-turns : goal.returns-in-Astray-clause-turns
returns-in-Astray-clause-turns c = turn_astray _ _ _ _ _ _ _ c.in-Astray.is

pub returns-in_ok-raise-in-Goes-clause-turns : goal.returns-in_ok-raise-in-Goes-clause-turns
returns-in_ok-raise-in-Goes-clause-turns c = turn_raised _ _ _ _ _ _ _ _ c.in-Goes.is _ _ _ _ _ _ c.raise.ensures.raises c.in_ok-raise-in-Goes.was

pub returns-in_ok-raise-in-Forks-2-clause-turns : goal.returns-in_ok-raise-in-Forks-2-clause-turns
returns-in_ok-raise-in-Forks-2-clause-turns c = both_raised _ _ _ _ _ _ _ _ _ c.in-Forks.is _ _ _ _ _ _ c.raise-in-Forks.ensures.raises c.in_ok-raise-in-Forks.was c.raise-in-Forks.ensures.same _ _ _ _ _ _ c.raise-in-Forks-2.ensures.raises c.in_ok-raise-in-Forks-2.was
