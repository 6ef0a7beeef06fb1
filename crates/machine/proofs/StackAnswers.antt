-- What the stack check answers for the programs of Programs.antt, computed from its definition.
-- Assumes nothing.
use Rattle.std.specs.Prelude.{Ok, Err}
use Rattle.stack.specs.declared.Fault.{Fault}
use mathlib.Core.Path.{◌≡◌, refl}
use Rattle.cells.specs.Zeros.{copies}
use Rattle.tables.specs.Set.{size_of, move_of, instruction_set}
use Rattle.flow.specs.Decode.{step_by, operands_at, word_at, flow_of, moved, target_of}
use Rattle.flow.specs.Walk.{walk_by, marks_of}
use Rattle.codes.specs.First.{first_of}
use Rattle.codes.specs.Rows.{faulty, rows_of}
use Rattle.codes.specs.Lookup.{place_of, entry_of}
use Rattle.program.specs.Program.{PoolProgram, body_of}
use Rattle.program.specs.Refusals.{table_refused, too_many, scratch_short, repeats, repeated_of, outside, outside_of, directory_of, contents_of, input_of, stack_input}
use Rattle.rules.specs.declared.Violation.{Violation}
use Rattle.rules.specs.Look.{flowing, moving, acting, look_of}
use Rattle.rules.specs.Walk.{put, follow, walk_from, begun, walk_of}
use Rattle.effects.specs.Effects.{known_of}
use Rattle.stack.specs.Stack.{body_answer, functions_answer, stack_answer, Verdict}
use Rattle.machine.proofs.Programs.{room_for, chain, empty_pop, too_deep, uneven, left_over, greedy, circle}

abbrev pub StackGives : PoolProgram → Verdict → Type 0
StackGives q v = stack_answer q.program (room_for q) ≡ v

pub stack_answers : StackGives chain (Ok tt)
    × (StackGives empty_pop (Err (Fault.Violated 1 (Violation.Underflow 0 0x90 1 0)))
    × (StackGives too_deep (Err (Fault.Violated 1 (Violation.ExceedsDeclaredMax 0 1 0)))
    × (StackGives uneven (Err (Fault.Violated 1 (Violation.MergeConflict 5 0 1)))
    × (StackGives left_over (Err (Fault.Violated 1 (Violation.UnbalancedReturn 1 0 1)))
    × (StackGives greedy (Ok tt)
    × StackGives circle (Ok tt))))))
unfolding copies size_of move_of instruction_set step_by operands_at word_at flow_of moved target_of walk_by marks_of faulty rows_of first_of place_of entry_of body_of table_refused too_many scratch_short repeats repeated_of outside outside_of directory_of contents_of input_of stack_input flowing moving acting look_of put follow walk_from begun walk_of known_of body_answer functions_answer stack_answer
stack_answers = (refl, (refl, (refl, (refl, (refl, (refl, refl))))))
