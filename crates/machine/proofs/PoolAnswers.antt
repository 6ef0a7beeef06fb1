-- What the pool check answers for the programs of Programs.antt, computed from its definition.
-- Assumes nothing.
use Rattle.std.specs.Prelude.{Ok, Err}
use Rattle.pool.specs.declared.Fault.{Fault}
use mathlib.Core.Path.{◌≡◌, refl}
use Rattle.cells.specs.Zeros.{copies}
use Rattle.tables.specs.Set.{size_of, move_of, temp_of, instruction_set}
use Rattle.flow.specs.Decode.{step_by, operands_at, word_at, flow_of, moved, target_of}
use Rattle.flow.specs.Walk.{walk_by, marks_of}
use Rattle.codes.specs.First.{first_of}
use Rattle.codes.specs.Rows.{faulty, rows_of}
use Rattle.codes.specs.Lookup.{place_of}
use Rattle.program.specs.Program.{PoolProgram, body_of}
use Rattle.program.specs.Refusals.{table_refused, too_many, pool_too_many, scratch_short, repeats, repeated_of, outside, outside_of, directory_of, contents_of, on_pool, input_of, pool_input}
use Rattle.buffers.specs.Tread.{flowing, bounded, acting, tread_of}
use Rattle.buffers.specs.Walk.{raise, follow, noted, used, walk_from, begun, turns_of, walk_of}
use Rattle.callees.specs.Callees.{temps_by, opens_by}
use Rattle.visit.specs.Visit.{onward, if_open, if_known, largest_of, closes, total_by, total_of, visit_of}
use Rattle.visit.specs.Cells.{row_at}
use Rattle.pool.specs.Pool.{body_walk, program_answer, entries_of, pool_answer, Verdict}
use Rattle.machine.proofs.Programs.{room_for, chain, empty_pop, too_deep, uneven, left_over, greedy, circle}

abbrev pub PoolGives : PoolProgram → Verdict → Type 0
PoolGives q v = pool_answer q (room_for q) 16384 ≡ v

pub pool_answers : PoolGives chain (Ok tt)
    × (PoolGives empty_pop (Ok tt)
    × (PoolGives too_deep (Ok tt)
    × (PoolGives uneven (Ok tt)
    × (PoolGives left_over (Ok tt)
    × (PoolGives greedy (Err (Fault.ExceedsDeclaredPool 1 0 2 1))
    × PoolGives circle (Err (Fault.RecursiveCallGraph 1)))))))
unfolding copies size_of move_of temp_of instruction_set step_by operands_at word_at flow_of moved target_of walk_by marks_of first_of faulty rows_of place_of body_of table_refused too_many pool_too_many scratch_short repeats repeated_of outside outside_of directory_of contents_of on_pool input_of pool_input flowing bounded acting tread_of raise follow noted used walk_from begun turns_of walk_of temps_by opens_by onward if_open if_known largest_of closes total_by total_of visit_of row_at body_walk program_answer entries_of pool_answer
pool_answers = (refl, (refl, (refl, (refl, (refl, (refl, refl))))))
