-- Demand 3's theorem (specs/Demand.antt), and what it is worth to whoever calls the two checks. What acceptance means is the checks' own theorems
-- (stack_exact, pool_exact); that runs are then safe is Sound.antt. An answer that is accepted was no refusal.
-- Assumes nothing. The pool is a u16, so at most 65,535, of which the definitions over any numbers know nothing: it is said as a hypothesis.
--     demand        demand 3, for any program
--     runs_safe     its second half alone
--     called_safe   its corollary over the code's promises: the answers that `stack_check` and `pool_check` gave for the same columns
use Rattle.std.specs.Prelude.{Ok}
use Rattle.pool.specs.Pool as of-pool
use Rattle.stack.specs.Stack as of-stack
use Prim.Native.Nat.{ℕ, ◌≤◌}
use mathlib.Core.Path.{◌≡◌, sym, ◌∙◌}
use mathlib.Core.List.{List}
use lib.ListN.{length}
use Rattle.program.specs.declared.Room.{Room}
use Rattle.program.specs.Program.{PoolProgram, functions_of, list_of, program_of, descriptors_of, pool_program_of}
use Rattle.program.specs.Refusals.{room_of}
use Rattle.stack.specs.Stack.{stack_answer}
use Rattle.stack.proofs.Accepting.{stack_exact}
use Rattle.pool.specs.Pool.{pool_answer}
use Rattle.pool.proofs.Accepting.{pool_exact}
use Rattle.machine.specs.Machine.{Frame, Run}
use Rattle.machine.specs.Safe.{Safe}
use Rattle.machine.specs.Demand.{Demand}
use Rattle.machine.proofs.Sound.{sound_safe}

module _ (q : PoolProgram) (stack-room room : Room) (cells : ℕ) (small : q.pool ≤ 65535) where
  pub runs_safe : stack_answer q.program stack-room ≡ Ok tt → pool_answer q room cells ≡ Ok tt → {c : List Frame} → Run q c → Safe q c
  runs_safe s p r = sound_safe q stack-room room cells ((stack_exact q.program stack-room).0 s) ((pool_exact q room cells small).0 p) r

  pub demand : Demand q stack-room room cells
  demand = record {
    exactly = λ taken. (
      λ e. ((stack_exact q.program stack-room).0 e).balanced,
      λ b. (stack_exact q.program stack-room).1 (record { taken = taken; balanced = b }),
    );
    runs = runs_safe;
  }

-- the columns as they are lent to both calls, and the lengths of the scratch that each got
module _ (ids parameters maxima offsets lengths list-ids counts flags code types callees entries : List ℕ) (pool : ℕ) where
  abbrev columns : PoolProgram
  columns = pool_program_of (program_of (functions_of ids parameters maxima offsets lengths) (list_of list-ids counts flags) code) (descriptors_of types callees) entries pool

  -- `stack_check` promises r ≡ stack_answer .., `pool_check` r ≡ pool_answer ..
  pub called_safe : pool ≤ 65535 → (marks depths queue queue-depths marks' depths' queue' queue-depths' cells : List ℕ) (r : of-stack.Verdict) (r' : of-pool.Verdict)
      → r ≡ stack_answer (program_of (functions_of ids parameters maxima offsets lengths) (list_of list-ids counts flags) code) (room_of (length marks) (length depths) (length queue) (length queue-depths))
      → r' ≡ pool_answer (pool_program_of (program_of (functions_of ids parameters maxima offsets lengths) (list_of list-ids counts flags) code) (descriptors_of types callees) entries pool)
      (room_of (length marks') (length depths') (length queue') (length queue-depths')) (length cells)
      → r ≡ Ok tt → r' ≡ Ok tt → {c : List Frame} → Run columns c → Safe columns c
  called_safe small marks depths queue queue-depths marks' depths' queue' queue-depths' cells r r' s p a b run =
      runs_safe columns (room_of (length marks) (length depths) (length queue) (length queue-depths)) (room_of (length marks') (length depths') (length queue') (length queue-depths')) (length cells) small
      (sym s ∙ a) (sym p ∙ b) run
