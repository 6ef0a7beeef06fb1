-- Effects that agree at every byte of the code give the same answer: what they say of an opcode that does not stand there is never asked.
-- Assumes nothing.
use Prim.Native.Nat.{ℕ, zero, suc, ◌+◌, ◌<◌}
use mathlib.Core.Path.{◌≡◌, refl, ◌∙◌, ap, ap₂, sym}
use mathlib.Core.List.{List}
use native.Mathlib.Omega.{arith}
use lib.ListN.{length, get_or, take, drop, length-take, length-drop}
use lib.Seq.{get_or-take, get_or-drop}
use Rattle.flow.specs.Walk.{walk_by, end_of, marks_of}
use Rattle.program.specs.Program.{Program, body_of, body_is}
use Rattle.rules.specs.Look.{Effects, Look}
use Rattle.rules.specs.Walk.{walk_of}
use Rattle.rules.proofs.Cases.{look_alike}
use Rattle.stack.specs.Stack.{on_decoded, body_answer, on_walked, functions_from, functions_answer}

-- the effects agree at the bytes of a body
abbrev pub Agree : Effects → Effects → List ℕ → Type 0
Agree known other body = (offset : ℕ) → offset < length body → (operands : List ℕ) → known (get_or body offset 0) operands ≡ other (get_or body offset 0) operands

-- a byte of a body is a byte of the code
part_byte : (code : List ℕ) (from n k : ℕ) → k < length (take n (drop from code)) → (from + k < length code) × (get_or code (from + k) 0 ≡ get_or (take n (drop from code)) k 0)
part_byte code from n k h =
    let l = length-take n (drop from code) in
    let d = length-drop from code in
    (omega arith, sym (get_or-take n (drop from code) k 0 (omega arith) ∙ get_or-drop from code k 0))

pub body_byte : (p : Program) (row k : ℕ) → k < length (body_of p row)
    → (get_or p.functions.offsets row 0 + k < length p.code) × (get_or p.code (get_or p.functions.offsets row 0 + k) 0 ≡ get_or (body_of p row) k 0)
body_byte p row k h =
    let b = body_is p row in
    let w = part_byte p.code (get_or p.functions.offsets row 0) (get_or p.functions.lengths row 0) k (rw (← b) h) in
    (w.0, w.1 ∙ ap (λ (u : List ℕ). get_or u k 0) (sym b))

body_alike : (sizes : ℕ → ℕ) (known other : Effects) (body : List ℕ) (maximum : ℕ) → Agree known other body → body_answer sizes known body maximum ≡ body_answer sizes other body maximum
unfolding body_answer
body_alike sizes known other body maximum h =
    ap (λ (look : ℕ → ℕ → Look). on_decoded (end_of (walk_by sizes body 0)) (walk_of look (length body + 1))) (look_alike known other (marks_of sizes body) body maximum h)

from_alike : (sizes : ℕ → ℕ) (known other : Effects) (p : Program) (left row : ℕ) → ((k : ℕ) → Agree known other (body_of p k)) → functions_from sizes known p left row ≡ functions_from sizes other p left row
from_alike sizes known other p zero row h = refl
from_alike sizes known other p (suc left) row h =
    ap₂ (on_walked (get_or p.functions.ids row 0)) (body_alike sizes known other (body_of p row) (get_or p.functions.maxima row 0) (h row)) (from_alike sizes known other p left (suc row) h)

pub answer_alike : (sizes : ℕ → ℕ) (known other : Effects) (p : Program) → ((k : ℕ) → Agree known other (body_of p k)) → functions_answer sizes known p ≡ functions_answer sizes other p
unfolding functions_answer
answer_alike sizes known other p h = from_alike sizes known other p (length p.functions.ids) 0 h
