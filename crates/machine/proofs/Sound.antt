-- Every configuration of every run is safe, where both checks accept: what Runs.antt keeps from step to step, and the budget of the frames below.
-- Assumes nothing.
use mathlib.Core.List.{List}
use Prim.Native.Nat.{ℕ}
use Rattle.program.specs.declared.Room.{Room}
use Rattle.program.specs.Program.{PoolProgram}
use Rattle.stack.specs.Exact.{Sound}
use Rattle.pool.specs.Accepts.{PoolSound}
use Rattle.machine.specs.Machine.{Frame, Run}
use Rattle.machine.specs.Safe.{Safe}
use Rattle.machine.proofs.Runs.{budget, safe_within}

module _ (q : PoolProgram) (stack-room room : Room) (cells : ℕ) (stacked : Sound q.program stack-room) (pooled : PoolSound q room cells) where
  pub sound_safe : {c : List Frame} → Run q c → Safe q c
  sound_safe r = safe_within q stack-room room cells stacked pooled (λ c row left b. budget q stack-room room cells stacked pooled b) r
