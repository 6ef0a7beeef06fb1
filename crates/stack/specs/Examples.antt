-- 01's bench examples, in a single table under a single statement: function 1, no parameters, no list rows.
-- Assumes nothing.
use Rattle.std.specs.Prelude.{ℕ, zero, suc, ◌+◌, ◌*◌, ◌≡◌, refl, List, [], ◌∷◌, length}
use Rattle.cells.specs.Zeros.{copies}
use Rattle.tables.specs.Set.{size_of, move_of, instruction_set}
use Rattle.flow.specs.Decode.{step_by, operands_at, word_at, flow_of, moved, target_of}
use Rattle.flow.specs.Walk.{walk_by, marks_of}
use Rattle.codes.specs.First.{first_of}
use Rattle.codes.specs.Rows.{faulty, rows_of}
use Rattle.codes.specs.Lookup.{place_of, entry_of}
use Rattle.program.specs.Program.{Program, program_of, functions_of, list_of, body_of}
use Rattle.program.specs.Refusals.{table_refused, too_many, scratch_short, repeats, repeated_of, outside, outside_of, directory_of, contents_of, input_of, stack_input, room_of}
use Rattle.rules.specs.Look.{flowing, moving, acting, look_of}
use Rattle.rules.specs.Walk.{put, follow, walk_from, begun, walk_of}
use Rattle.effects.specs.Effects.{known_of}
use Rattle.answers.specs.declared.Fields.{Fields}
use Rattle.answers.specs.Fields.{fields_by, violation_fields, refusal_fields}
use Rattle.stack.specs.Stack.{body_answer, functions_answer, stack_answer, fields_of}

-- a body, the declared maximum, and the answer's six fields
pub record Example : Type 0 where
  pub body : List ℕ
  pub maximum : ℕ
  pub number : ℕ
  pub offset : ℕ
  pub a : ℕ
  pub b : ℕ
  pub c : ℕ

abbrev example : List ℕ → ℕ → ℕ → ℕ → ℕ → ℕ → ℕ → Example
example body maximum n o x y z = record { body = body; maximum = maximum; number = n; offset = o; a = x; b = y; c = z }

pub examples : List Example
examples =
    example [] 0 0 0 0 0 0 ∷
    example (0x05 ∷ 0x88 ∷ []) 1 0 0 0 0 0 ∷
    example (0x05 ∷ 0x88 ∷ []) 0 6 0 1 0 0 ∷
    example (0x05 ∷ []) 1 9 1 0 1 0 ∷
    example (0x7C ∷ 0x00 ∷ 0x00 ∷ []) 0 0 0 0 0 0 ∷
    example (0x7C ∷ 0xFD ∷ 0xFF ∷ []) 0 0 0 0 0 0 ∷
    example (0x7C ∷ 0x01 ∷ 0x00 ∷ []) 0 7 0 4 0 0 ∷
    example (0x7C ∷ 0xFC ∷ 0xFF ∷ []) 0 7 0 0xFFFFFFFF 0 0 ∷
    example (0x91 ∷ 0x90 ∷ []) 1 0 0 0 0 0 ∷
    example (0x90 ∷ []) 0 5 0 144 1 0 ∷
    example (0x8C ∷ 0x93 ∷ []) 0 1 1 147 0 0 ∷
    example (0x05 ∷ 0x80 ∷ 0x01 ∷ 0x00 ∷ 0x05 ∷ 0x8C ∷ []) 1 8 5 0 1 0 ∷
    []

-- function 1 with this body, and no list rows
abbrev only : Example → Program
only e = program_of (functions_of (1 ∷ []) (0 ∷ []) (e.maximum ∷ []) (0 ∷ []) (length e.body ∷ [])) (list_of [] [] []) e.body

abbrev answered : Example → Fields
answered e = fields_of (stack_answer (only e) (room_of (length e.body) (length e.body + 1) (2 * length e.body + 2) (2 * length e.body + 2)))

-- an accepted body has no function in its answer
abbrev function_of : ℕ → ℕ
function_of zero = 0
function_of (suc n) = 1

pub Hold : List Example → Type 0
Hold [] = Unit
Hold (e ∷ es) =
    (answered e ≡ record { number = e.number; function = function_of e.number; offset = e.offset; a = e.a; b = e.b; c = e.c }) × Hold es

-- every example's answer is as 01 has it
pub examples_hold : Hold examples
unfolding Hold examples copies size_of move_of instruction_set step_by operands_at word_at flow_of moved target_of walk_by faulty rows_of first_of place_of entry_of body_of table_refused too_many scratch_short repeats repeated_of outside outside_of directory_of contents_of input_of stack_input flowing moving acting look_of put follow walk_from begun walk_of known_of fields_by violation_fields refusal_fields marks_of body_answer functions_answer stack_answer fields_of
examples_hold = (refl, (refl, (refl, (refl, (refl, (refl, (refl, (refl, (refl, (refl, (refl, (refl, tt))))))))))))
