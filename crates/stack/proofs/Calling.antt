-- The whole call: what the code reads out of its tables and columns on an input that is taken is 01's, and what the answer leaves of the scratch.
-- Assumes nothing.
use Rattle.std.specs.Prelude.{Ok, Err}
use Prim.Native.Nat.{ℕ, zero, suc, ◌≤◌}
use mathlib.Core.Path.{◌≡◌, ◌∙◌, ap, ap₂}
use mathlib.Core.List.{List}
use lib.ListN.{length, get_or}
use Rattle.cells.specs.Zeros.{ZeroAfter}
use Rattle.tables.specs.declared.Move.{Move}
use Rattle.tables.specs.Set.{size_of, move_of}
use Rattle.tables.specs.Laws.{method_only}
use Rattle.tables.specs.Packed.{size_in, move_in, size_table, word_table}
use Rattle.tables.specs.Stored.{size_stored, move_stored, GoesOn, goes_on_stored}
use Rattle.program.specs.declared.Room.{Room}
use Rattle.program.specs.Program.{Program, body_of}
use Rattle.program.specs.Taken.{StackTaken}
use Rattle.rules.specs.Look.{Effects}
use Rattle.rules.specs.Walk.{Walked}
use Rattle.effects.specs.Effects.{directory_of, known_by, known_of, given_back}
use Rattle.effects.proofs.Laws.{known_is}
use Rattle.stack.specs.declared.Fault.{Fault}
use Rattle.stack.proofs.Alike.{body_byte, answer_alike}
use Rattle.stack.specs.Stack.{on_walked, functions_from, functions_answer, scratch_after, body_answer, Verdict}

sizes_are : (sizes : List ℕ) → sizes ≡ size_table → size_in sizes ≡ size_of
sizes_are sizes e = ap size_in e ∙ (λ i op. size_stored op i)

moves_are : (words : List ℕ) → words ≡ word_table → move_in words ≡ move_of
moves_are words e = ap move_in e ∙ (λ i op. move_stored op i)

pub words_go_on : (words : List ℕ) → words ≡ word_table → GoesOn words
words_go_on words e = rw e goes_on_stored

-- the code's answer for the bodies is 01's, whatever the hints hold
pub answer_is : (p : Program) (room : Room) (t : StackTaken p room) (sizes words hints given column : List ℕ) → sizes ≡ size_table → words ≡ word_table
    → given ≡ given_back (size_in sizes) p.functions.offsets p.functions.lengths p.code column → 128 ≤ length column
    → functions_answer (size_in sizes) (known_by (move_in words) hints p.list (directory_of p.functions.ids p.functions.parameters given)) p ≡ functions_answer size_of (known_of move_of p) p
answer_is p room t sizes words hints given column es ew eg wide =
    let s = sizes_are sizes es in
    let all : List ℕ = given_back size_of p.functions.offsets p.functions.lengths p.code column in
    let g : given ≡ all = eg ∙ ap (λ (f : ℕ → ℕ). given_back f p.functions.offsets p.functions.lengths p.code column) s in
    let k : known_by (move_in words) hints p.list (directory_of p.functions.ids p.functions.parameters given) ≡ known_by move_of hints p.list (directory_of p.functions.ids p.functions.parameters all) =
    ap₂ (λ (m : ℕ → Move) (u : List ℕ). known_by m hints p.list (directory_of p.functions.ids p.functions.parameters u)) (moves_are words ew) g in
    ap₂ (λ (f : ℕ → ℕ) (u : Effects). functions_answer f u p) s k
    ∙ answer_alike size_of (known_by move_of hints p.list (directory_of p.functions.ids p.functions.parameters all)) (known_of move_of p) p
    (λ row offset h operands. let b = body_byte p row offset h in known_is p room t column wide hints move_of method_only _ b.0 _ b.1 operands)

-- the bodies' answer is no refusal
abbrev Judged : Verdict → Type 0
Judged (Ok _) = Unit {0}
Judged (Err (Fault.Refused refusal)) = ⊥
Judged (Err (Fault.Violated function v)) = Unit {0}

walked_judged : (function : ℕ) (w : Walked) (rest : Verdict) → Judged rest → Judged (on_walked function w rest)
walked_judged function (Ok _) rest j = j
walked_judged function (Err v) rest j = tt

from_judged : (sizes : ℕ → ℕ) (known : Effects) (p : Program) (left row : ℕ) → Judged (functions_from sizes known p left row)
from_judged sizes known p zero row = tt
from_judged sizes known p (suc left) row = walked_judged (get_or p.functions.ids row 0) (body_answer sizes known (body_of p row) (get_or p.functions.maxima row 0)) (functions_from sizes known p left (suc row)) (from_judged sizes known p left (suc row))

judged : (sizes : ℕ → ℕ) (known : Effects) (p : Program) → Judged (functions_answer sizes known p)
unfolding functions_answer
judged sizes known p = from_judged sizes known p (length p.functions.ids) 0

zero_by : (v : Verdict) (first last : List ℕ) → Judged v → ZeroAfter first last → last ≡ scratch_after v first
unfolding scratch_after
zero_by (Ok _) first last j z = z
zero_by (Err (Fault.Refused refusal)) first last j z = absurd j
zero_by (Err (Fault.Violated function v)) first last j z = z

pub scratch_zero : (p : Program) (v : Verdict) (first last : List ℕ) → v ≡ functions_answer size_of (known_of move_of p) p → ZeroAfter first last → last ≡ scratch_after v first
scratch_zero p v first last e z = zero_by v first last (rw e (judged size_of (known_of move_of p) p)) z
