-- The stack check: functions in directory order, the whole body decoded first, then the walk; the first violation ends the call.
-- Assumes nothing.
use Rattle.std.specs.Prelude.{ℕ, zero, suc, ◌+◌, List, length, get_or, Result, Ok, Err}
use Rattle.cells.specs.Zeros.{zeros}
use Rattle.tables.specs.Set.{size_of, move_of}
use Rattle.flow.specs.Walk.{walk_by, end_of, marks_of, Decoded}
use Rattle.program.specs.declared.Room.{Room}
use Rattle.program.specs.Program.{Program, body_of}
use Rattle.program.specs.Refusals.{stack_input, Input}
use Rattle.flow.specs.declared.Stop.{Stop}
use Rattle.rules.specs.declared.Violation.{Violation}
use Rattle.rules.specs.Look.{Effects, look_of}
use Rattle.rules.specs.Walk.{walk_of, Walked}
use Rattle.effects.specs.Effects.{known_of}
use Rattle.answers.specs.declared.Fields.{Fields}
use Rattle.answers.specs.Fields.{no_fields, refusal_fields, violation_fields}
use Rattle.stack.specs.declared.Fault.{Fault}

-- the call's answer: accepted, the input refused, or the first violation with the function that it stands in
abbrev pub Verdict : Type 0
Verdict = Result (Unit {0}) Fault

-- decode the whole body first (1, 2)
abbrev pub on_decoded : Decoded → Walked → Walked
on_decoded (Ok _) walked = walked
on_decoded (Err (Stop.Unknown offset byte)) walked = Err (Violation.UnknownOpcode offset byte)
on_decoded (Err (Stop.Truncated offset opcode)) walked = Err (Violation.TruncatedInstruction offset opcode)

-- then a first-in first-out queue from offset 0 at depth 0
unfoldable pub body_answer : (ℕ → ℕ) → Effects → List ℕ → ℕ → Walked
body_answer sizes known body maximum =
    on_decoded (end_of (walk_by sizes body 0)) (walk_of (look_of known (marks_of sizes body) body maximum) (length body + 1))

abbrev pub on_walked : ℕ → Walked → Verdict → Verdict
on_walked function (Ok _) rest = rest
on_walked function (Err v) rest = Err (Fault.Violated function v)

-- functions in directory order, so many from a row on; the first violation ends the call
abbrev pub functions_from : (ℕ → ℕ) → Effects → Program → ℕ → ℕ → Verdict
functions_from sizes known p zero row = Ok tt
functions_from sizes known p (suc left) row =
    on_walked (get_or p.functions.ids row 0) (body_answer sizes known (body_of p row) (get_or p.functions.maxima row 0))
    (functions_from sizes known p left (suc row))

unfoldable pub functions_answer : (ℕ → ℕ) → Effects → Program → Verdict
functions_answer sizes known p = functions_from sizes known p (length p.functions.ids) 0

abbrev pub on_input : Input → Verdict → Verdict
on_input (Ok _) rest = rest
on_input (Err refusal) rest = Err (Fault.Refused refusal)

-- the call's answer
unfoldable pub stack_answer : Program → Room → Verdict
stack_answer p room = on_input (stack_input p room) (functions_answer size_of (known_of move_of p) p)

-- 30 to 35 leave scratch untouched; every other answer leaves all lent scratch zero, spare cells included
unfoldable pub scratch_after : Verdict → List ℕ → List ℕ
scratch_after (Ok _) column = zeros (length column)
scratch_after (Err (Fault.Refused refusal)) column = column
scratch_after (Err (Fault.Violated function v)) column = zeros (length column)

-- the number and the values of an answer
unfoldable pub fields_of : Verdict → Fields
fields_of (Ok _) = no_fields
fields_of (Err (Fault.Refused refusal)) = refusal_fields (Err refusal)
fields_of (Err (Fault.Violated function v)) = violation_fields function v
