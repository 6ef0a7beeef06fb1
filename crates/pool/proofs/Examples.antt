-- 01's pool examples (the end of "Bench examples"), in a single table under a single statement, computed from the definition: functions 1, 2, .. with
-- these bodies, no parameters, no list rows, no descriptors, and all the scratch that 01 asks for.
-- Assumes nothing.
use Prim.Native.Nat.{ℕ, suc, ◌+◌, ◌*◌}
use mathlib.Core.Path.{◌≡◌, refl}
use mathlib.Core.List.{List, [], ◌∷◌, ◌++◌}
use lib.ListN.{length}
use Rattle.cells.specs.Zeros.{copies}
use Rattle.tables.specs.Set.{size_of, move_of, temp_of, instruction_set}
use Rattle.flow.specs.Decode.{step_by, operands_at, word_at, flow_of, moved, target_of}
use Rattle.flow.specs.Walk.{walk_by, marks_of}
use Rattle.codes.specs.First.{first_of}
use Rattle.codes.specs.Rows.{faulty, rows_of}
use Rattle.codes.specs.Lookup.{place_of}
use Rattle.program.specs.Program.{PoolProgram, functions_of, list_of, program_of, descriptors_of, pool_program_of, body_of}
use Rattle.program.specs.Refusals.{room_of, table_refused, too_many, pool_too_many, scratch_short, repeats, repeated_of, outside, outside_of, directory_of, contents_of, on_pool, input_of, pool_input}
use Rattle.buffers.specs.Tread.{flowing, bounded, acting, tread_of}
use Rattle.buffers.specs.Walk.{raise, follow, noted, used, walk_from, begun, turns_of, walk_of}
use Rattle.callees.specs.Callees.{temps_by, opens_by}
use Rattle.visit.specs.Visit.{onward, if_open, if_known, largest_of, closes, total_by, total_of, visit_of}
use Rattle.visit.specs.Cells.{row_at}
use Rattle.answers.specs.declared.Fields.{Fields}
use Rattle.answers.specs.Fields.{fields_by, refusal_fields}
use Rattle.pool.specs.Pool.{body_walk, program_answer, entries_of, pool_answer, fields_of}

-- the bodies, the entries and the declared pool, and the answer's number, function, offset and values
pub record Example : Type 0 where
  pub bodies : List (List ℕ)
  pub entries : List ℕ
  pub pool : ℕ
  pub number : ℕ
  pub function : ℕ
  pub offset : ℕ
  pub a : ℕ
  pub b : ℕ

abbrev example : List (List ℕ) → List ℕ → ℕ → ℕ → ℕ → ℕ → ℕ → ℕ → Example
example bodies entries pool n f o x y = record { bodies = bodies; entries = entries; pool = pool; number = n; function = f; offset = o; a = x; b = y }

-- borrows and goes back to its start
abbrev loop : List ℕ
loop = 0xBC ∷ 0 ∷ 0 ∷ 0 ∷ 0 ∷ 0x7C ∷ 0xF8 ∷ 0xFF ∷ []

abbrev gives : List ℕ
gives = 0xC0 ∷ 0 ∷ 0 ∷ 0 ∷ 0 ∷ []

abbrev borrows : List ℕ
borrows = 0xBC ∷ 0 ∷ 0 ∷ 0 ∷ 0 ∷ []

abbrev calls : ℕ → List ℕ
calls function = 0x84 ∷ function ∷ 0 ∷ 0 ∷ 0 ∷ []

pub examples : List Example
examples =
    example (loop ∷ []) (1 ∷ []) 3 20 1 0 4 3 ∷
    example (loop ∷ []) [] 3 0 0 0 0 0 ∷
    example (gives ∷ []) (1 ∷ []) 0 0 0 0 0 0 ∷
    example ((calls 2 ++ borrows) ∷ borrows ∷ []) (1 ∷ []) 2 0 0 0 0 0 ∷
    example ((calls 2 ++ borrows) ∷ borrows ∷ []) (1 ∷ []) 1 20 1 5 2 1 ∷
    example (calls 2 ∷ calls 1 ∷ []) (1 ∷ []) 0 21 1 0 0 0 ∷
    []

-- a column of the directory, from an id and an offset on
abbrev ids_from : ℕ → List (List ℕ) → List ℕ
ids_from id [] = []
ids_from id (body ∷ bodies) = id ∷ ids_from (suc id) bodies

abbrev offsets_from : ℕ → List (List ℕ) → List ℕ
offsets_from at [] = []
offsets_from at (body ∷ bodies) = at ∷ offsets_from (at + length body) bodies

abbrev lengths_of : List (List ℕ) → List ℕ
lengths_of [] = []
lengths_of (body ∷ bodies) = length body ∷ lengths_of bodies

abbrev noughts : List (List ℕ) → List ℕ
noughts [] = []
noughts (body ∷ bodies) = 0 ∷ noughts bodies

abbrev code_of : List (List ℕ) → List ℕ
code_of [] = []
code_of (body ∷ bodies) = body ++ code_of bodies

abbrev as_program : Example → PoolProgram
as_program e =
    pool_program_of
    (program_of (functions_of (ids_from 1 e.bodies) (noughts e.bodies) (noughts e.bodies) (offsets_from 0 e.bodies) (lengths_of e.bodies)) (list_of [] [] []) (code_of e.bodies))
    (descriptors_of [] []) e.entries e.pool

abbrev answered : Example → Fields
answered e =
    fields_of (pool_answer (as_program e)
    (room_of (length (code_of e.bodies)) (length (code_of e.bodies) + 1) (2 * length (code_of e.bodies) + 2) (2 * length (code_of e.bodies) + 2)) 16384)

pub Hold : List Example → Type 0
Hold [] = Unit
Hold (e ∷ es) = (answered e ≡ record { number = e.number; function = e.function; offset = e.offset; a = e.a; b = e.b; c = 0 }) × Hold es

-- every example's answer is as 01 has it
pub examples_hold : Hold examples
unfolding Hold examples copies size_of move_of temp_of instruction_set step_by operands_at word_at flow_of moved target_of walk_by marks_of first_of faulty rows_of place_of body_of table_refused too_many pool_too_many scratch_short repeats repeated_of outside outside_of directory_of contents_of on_pool input_of pool_input flowing bounded acting tread_of raise follow noted used walk_from begun turns_of walk_of temps_by opens_by onward if_open if_known largest_of closes total_by total_of visit_of row_at fields_by refusal_fields body_walk program_answer entries_of pool_answer fields_of
examples_hold = (refl, (refl, (refl, (refl, (refl, (refl, tt))))))
