-- Demand 3 as one statement, to be held beside its text: over the answers' definitions, for a program and any scratch lent to the two calls.
-- Assumes nothing: these are definitions.
use Rattle.std.specs.Prelude.{ℕ, ◌<◌, ◌≡◌, List, ◌↔◌, length, get_or, Ok}
use Rattle.tables.specs.Set.{size_of, move_of}
use Rattle.program.specs.declared.Room.{Room}
use Rattle.program.specs.Program.{PoolProgram, body_of}
use Rattle.program.specs.Refusals.{stack_input}
use Rattle.effects.specs.Effects.{known_of}
use Rattle.stack.specs.Stack.{stack_answer}
use Rattle.stack.specs.Exact.{Balanced}
use Rattle.pool.specs.Pool.{pool_answer}
use Rattle.machine.specs.Machine.{Frame, Run}
use Rattle.machine.specs.Safe.{Safe}

pub record Demand (q : PoolProgram) (stack-room room : Room) (cells : ℕ) : Type 0 where
  -- "For input not refused, the stack check accepts exactly if every body decodes to its end and one depth per reachable offset satisfies every rule."
  pub exactly : stack_input q.program stack-room ≡ Ok tt
      → (stack_answer q.program stack-room ≡ Ok tt)
      ↔ ((row : ℕ) → row < length q.program.functions.ids → Balanced size_of (known_of move_of q.program) (body_of q.program row) (get_or q.program.functions.maxima row 0))
  -- "If the pool check accepts too, no run of 01's depth machine takes more than its frame holds, passes a declared depth, exits at a wrong depth, opens a
  -- function twice, holds more buffers than the pool, or gets stuck."
  pub runs : stack_answer q.program stack-room ≡ Ok tt → pool_answer q room cells ≡ Ok tt → {c : List Frame} → Run q c → Safe q c
