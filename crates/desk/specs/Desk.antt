-- The answer to a bench file (01, "Bench file, program and C entry"): the first refusal of the file or of its program, or what both checks answer.
-- Assumes nothing.
use Rattle.std.specs.Prelude.{ℕ, cond, List, take, Result, Ok, Err}
use Rattle.program.specs.declared.Room.{Room}
use Rattle.program.specs.Program.{PoolProgram, list_of, functions_of, program_of, descriptors_of, pool_program_of}
use Rattle.program.specs.Refusals.{input_number, input_place, is_taken, room_of, pool_input, Input}
use Rattle.file.specs.Numbers.{refused}
use Rattle.file.specs.Stated.{Columns, Bench, Stated, states, refuses, stated}
use Rattle.stack.specs.Stack as stack
use Rattle.pool.specs.Pool as pool
use Rattle.file.specs.declared.Refused.{Refused}
use Rattle.file.specs.declared.Sizes.{Sizes}
use Rattle.desk.specs.declared.Checked.{Checked}

-- the refusal's number and place, or the fields of both checks
abbrev pub Answer : Type 0
Answer = Result Checked Refused

-- scratch for 12,288 code bytes: "L start marks, L+1 depths, two queue columns of 2L+2"
unfoldable pub full_room : Room
full_room = room_of 12288 12289 24578 24578

-- "two lines, STACK and POOL": what each call answers over such scratch and 128 x 128 callee cells
unfoldable pub both_of : PoolProgram → Checked
both_of q =
    record {
      stack = stack.fields_of (stack.stack_answer q.program full_room);
      pool = pool.fields_of (pool.pool_answer q full_room 16384);
    }

-- "Input 35 also stops both checks here"
unfoldable pub on_input : Input → Answer → Answer
on_input input rest = cond (is_taken input) rest (Err (record { number = input_number input; place = input_place input }))

unfoldable pub program_answer : PoolProgram → Answer
program_answer q = on_input (pool_input q full_room 16384) (Ok (both_of q))

-- the program that a file states, as both calls take it
unfoldable pub program_in : Bench → PoolProgram
program_in p =
    pool_program_of
    (program_of
    (functions_of p.tables.function_ids p.tables.parameters p.tables.maxima p.tables.offsets p.tables.lengths)
    (list_of p.tables.list_ids p.tables.list_counts p.tables.list_flags)
    p.tables.code)
    (descriptors_of p.tables.type_ids p.tables.descriptor_functions)
    p.tables.entries
    p.pool

-- the program that stands at the front of columns
abbrev pub fronts_of : Sizes → Columns → PoolProgram
fronts_of s c =
    pool_program_of
    (program_of
    (functions_of (take s.functions c.function_ids) (take s.functions c.parameters) (take s.functions c.maxima) (take s.functions c.offsets) (take s.functions c.lengths))
    (list_of (take s.rows c.list_ids) (take s.rows c.list_counts) (take s.rows c.list_flags))
    (take s.code c.code))
    (descriptors_of (take s.descriptors c.type_ids) (take s.descriptors c.descriptor_functions))
    (take s.entries c.entries)
    s.pool

unfoldable pub answer_to : Stated → Answer
answer_to (states p) = program_answer (program_in p)
answer_to (refuses number place) = Err (refused number place)

unfoldable pub desk_answer : List ℕ → Answer
desk_answer file = answer_to (stated file)
