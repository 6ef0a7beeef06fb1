-- The pool check: each function in directory order decoded and walked, then for each entry the depth-first visit.
-- Assumes nothing.
use Rattle.flow.specs.declared.Stop.{Stop}
use Rattle.std.specs.Prelude.{ℕ, zero, suc, ◌+◌, ◌-◌, ◌*◌, cond, List, [], ◌∷◌, ltb, length, get_or, Result, Ok, Err}
use Rattle.cells.specs.Zeros.{zeros}
use Rattle.tables.specs.Set.{size_of}
use Rattle.flow.specs.Walk.{walk_by, end_of, marks_of, Decoded}
use Rattle.codes.specs.Lookup.{place_of}
use Rattle.program.specs.declared.Room.{Room}
use Rattle.program.specs.Program.{PoolProgram, body_of}
use Rattle.program.specs.Refusals.{pool_input, Input}
use Rattle.buffers.specs.declared.Unwalked.{Unwalked}
use Rattle.buffers.specs.Tread.{Temps, Opens, tread_of}
use Rattle.buffers.specs.Walk.{Walked, undecodable, crowded, unfinished, walked, walk_of, Used, used_of, callees_of}
use Rattle.callees.specs.Callees.{temps_of, opens_of}
use Rattle.visit.specs.declared.Overrun.{Overrun}
use Rattle.visit.specs.Graph.{Graph}
use Rattle.visit.specs.Visit.{Visited, visit_of}
use Rattle.visit.specs.Cells.{row_at}
use Rattle.answers.specs.declared.Fields.{Fields}
use Rattle.answers.specs.Fields.{fields_by, no_fields, refusal_fields}
use Rattle.pool.specs.declared.Fault.{Fault}

-- the call's answer: accepted, or why not
abbrev pub Verdict : Type 0
Verdict = Result (Unit {0}) Fault

-- "Undecodable: decoding stops"
abbrev pub on_decoded : Decoded → Walked → Walked
on_decoded (Ok _) w = w
on_decoded (Err (Stop.Unknown offset byte)) w = undecodable
on_decoded (Err (Stop.Truncated offset opcode)) w = undecodable

-- "decoded and walked from offset 0 with 0 buffers"; QueueFull where a walk would hold "more than 2 x body length + 2 entries at once"
unfoldable pub body_walk : (ℕ → ℕ) → Temps → Opens → ℕ → List ℕ → Walked
body_walk sizes temps opens pool body =
    on_decoded (end_of (walk_by sizes body 0)) (walk_of (tread_of temps opens (marks_of sizes body) body pool) (2 * length body + 2) pool (length body + 1))

abbrev pub weight_of : Walked → ℕ
weight_of undecodable = 0
weight_of crowded = 0
weight_of unfinished = 0
weight_of (walked numbers u) = u.weight

abbrev pub peak_of : Walked → ℕ
peak_of undecodable = 0
peak_of crowded = 0
peak_of unfinished = 0
peak_of (walked numbers u) = u.peak

-- a callee's cell is its row and 1
abbrev pub rows_in : List ℕ → List ℕ
rows_in [] = []
rows_in (c ∷ cells) = (c - 1) ∷ rows_in cells

-- the call graph of n functions
abbrev pub graph_of : (ℕ → Walked) → ℕ → Graph
graph_of walk n =
    record { calls = λ f. cond (ltb f n) (rows_in (callees_of (walk f))) []; weight = λ f. cond (ltb f n) (weight_of (walk f)) 0 }

-- 22 and 23, with the function's id
abbrev pub fault_of : ℕ → Unwalked → Fault
fault_of function Unwalked.Undecodable = Fault.Undecodable function
fault_of function Unwalked.QueueFull = Fault.QueueFull function

-- and they end the call
abbrev pub on_used : ℕ → Used → Verdict → Verdict
on_used function (Ok _) rest = rest
on_used function (Err unwalked) rest = Err (fault_of function unwalked)

-- "Each function in directory order", so many from a row on
abbrev pub functions_from : (ℕ → Walked) → List ℕ → Verdict → ℕ → ℕ → Verdict
functions_from walk ids rest zero row = rest
functions_from walk ids rest (suc left) row = on_used (get_or ids row 0) (used_of (walk row)) (functions_from walk ids rest left (suc row))

-- "A callee still open gives 21 with its id; a total above the pool gives 20 at the peak offset when that function closes"
abbrev pub on_visited : List ℕ → (ℕ → ℕ) → ℕ → Visited → Verdict
on_visited ids peaks pool (Ok total) = Ok tt
on_visited ids peaks pool (Err (Overrun.Cycle f)) = Err (Fault.RecursiveCallGraph (get_or ids f 0))
on_visited ids peaks pool (Err (Overrun.Over f total)) = Err (Fault.ExceedsDeclaredPool (get_or ids f 0) (peaks f) total pool)

-- "Then for each entry, depth first"; entries by their rows
unfoldable pub program_answer : (ℕ → Walked) → List ℕ → ℕ → List ℕ → Verdict
program_answer walk ids pool entries =
    functions_from walk ids (on_visited ids (λ f. peak_of (walk f)) pool (visit_of (graph_of walk (length ids)) pool entries)) (length ids) 0

-- the rows of the entries; one that is not in the directory has none
unfoldable pub entries_of : List ℕ → List ℕ → List ℕ
entries_of ids [] = []
entries_of ids (e ∷ entries) = row_at (place_of ids e) ∷ entries_of ids entries

-- the walk of the function at a row
abbrev pub walk_at : PoolProgram → ℕ → Walked
walk_at q row = body_walk size_of (temps_of q) (opens_of q) q.pool (body_of q.program row)

abbrev pub on_input : Input → Verdict → Verdict
on_input (Ok _) rest = rest
on_input (Err refusal) rest = Err (Fault.Refused refusal)

-- the answer for an input that is not refused
abbrev pub taken_answer : PoolProgram → Verdict
taken_answer q = program_answer (walk_at q) q.program.functions.ids q.pool (entries_of q.program.functions.ids q.entries)

-- the call's answer
unfoldable pub pool_answer : PoolProgram → Room → ℕ → Verdict
pool_answer q room cells = on_input (pool_input q room cells) (taken_answer q)

-- 30 to 35 leave scratch untouched; every other answer leaves all lent scratch zero, spare cells included
unfoldable pub scratch_after : Verdict → List ℕ → List ℕ
scratch_after (Ok _) column = zeros (length column)
scratch_after (Err (Fault.Refused refusal)) column = column
scratch_after (Err (Fault.ExceedsDeclaredPool function offset depth declared)) column = zeros (length column)
scratch_after (Err (Fault.RecursiveCallGraph function)) column = zeros (length column)
scratch_after (Err (Fault.Undecodable function)) column = zeros (length column)
scratch_after (Err (Fault.QueueFull function)) column = zeros (length column)

-- the number and the values of an answer
unfoldable pub fields_of : Verdict → Fields
fields_of (Ok _) = no_fields
fields_of (Err (Fault.Refused refusal)) = refusal_fields (Err refusal)
fields_of (Err (Fault.ExceedsDeclaredPool function offset depth declared)) = fields_by 20 function offset depth declared 0
fields_of (Err (Fault.RecursiveCallGraph function)) = fields_by 21 function 0 0 0 0
fields_of (Err (Fault.Undecodable function)) = fields_by 22 function 0 0 0 0
fields_of (Err (Fault.QueueFull function)) = fields_by 23 function 0 0 0 0
