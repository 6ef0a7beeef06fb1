-- 01's depth machine ("The depth machine"): a step relation on the lists of the open frames, the top one first. What decodes at an offset, what an
-- instruction takes, leaves, borrows and opens, where it goes, and which targets are legal are the tables' own definitions, which the two checks read
-- too; nothing of them is written again. The machine tests neither depths nor buffers.
-- Assumes nothing: these are definitions.
--     Frame       an open frame; a function is spoken of by its row in the directory
--     Acts        an instruction decodes at a frame's offset, and its builtin or callee is known
--     Onward      where control can go on in the body
--     Step        one step of the top frame
--     Stuck       where there is none
--     Run         no or more steps, from an entry's frame
--     live        the buffers of the open frames
use Rattle.rules.specs.declared.Unknown as of-rules
use Rattle.std.specs.Prelude.{ℕ, zero, suc, ◌+◌, ◌-◌, ◌≡◌, ◌⊎◌, List, [], ◌∷◌, length, Ok, Err, None}
use Rattle.tables.specs.declared.Effect.{Effect}
use Rattle.tables.specs.Set.{size_of, move_of}
use Rattle.flow.specs.Decode as decoding
use Rattle.flow.specs.declared.Stop.{Stop}
use Rattle.flow.specs.declared.Flow.{Flow}
use Rattle.flow.specs.declared.Flow.TheVariants.{Next, Jump, Branch, Return}
use Rattle.flow.specs.declared.Spot.{Spot}
use Rattle.flow.specs.Decode.{found, step_by, operands_at, flow_of, moved, target_of}
use Rattle.flow.specs.Walk.{marks_of}
use Rattle.program.specs.Program.{PoolProgram, body_of}
use Rattle.effects.specs.Effects.{known_of}
use Rattle.buffers.specs.Tread.{sum_past}
use Rattle.callees.specs.Callees.{temps_of, opens_of}
use Rattle.pool.specs.Accepts.{Entered}

pub record Frame : Type 0 where
  pub row : ℕ
  pub offset : ℕ
  pub depth : ℕ
  pub buffers : ℕ

abbrev pub frame : ℕ → ℕ → ℕ → ℕ → Frame
frame row offset depth buffers = record { row = row; offset = offset; depth = depth; buffers = buffers }

-- "opens a frame .., at depth 0 with 0 buffers"
abbrev pub opened : ℕ → Frame
opened row = frame row 0 0 0

abbrev pub body_in : PoolProgram → Frame → List ℕ
body_in q fr = body_of q.program fr.row

-- what stands at the frame's offset: an instruction, the body's end, or nothing that decodes
abbrev pub decoded_at : PoolProgram → Frame → decoding.Step
decoded_at q fr = step_by size_of (body_in q fr) fr.offset

abbrev pub operands_in : PoolProgram → Frame → ℕ → List ℕ
operands_in q fr size = operands_at (body_in q fr) fr.offset size

-- an instruction; there is none "where nothing decodes, a builtin or callee is unknown"
pub record Acts (q : PoolProgram) (fr : Frame) : Type 0 where
  pub opcode : ℕ
  pub size : ℕ
  pub effect : Effect
  pub decodes : decoded_at q fr ≡ found opcode size
  pub known : known_of move_of q.program opcode (operands_in q fr size) ≡ Ok effect

-- "Each step applies the effects above to the top frame"; "taking more than the frame holds leaves 0 before the leaving"
abbrev pub depth_after : Effect → ℕ → ℕ
depth_after e depth = depth - e.takes + e.leaves

-- "JMP_IF_NOT and CMP_BR go either way"; there is no way where "a target is illegal", and RET and RET_VOID do not go on
abbrev pub Onward : List ℕ → ℕ → ℕ → Flow → ℕ → Type 0
Onward marks end next Next to = next ≡ to
Onward marks end next (Jump word) to = target_of marks end (moved next word) ≡ Ok to
Onward marks end next (Branch word) to = (target : ℕ) × (target_of marks end (moved next word) ≡ Ok target) × ((target ≡ to) ⊎ (next ≡ to))
Onward marks end next Return to = ⊥

abbrev pub flow_at : (q : PoolProgram) (fr : Frame) → Acts q fr → Flow
flow_at q fr x = flow_of x.opcode (operands_in q fr x.size)

abbrev pub GoesTo : (q : PoolProgram) (fr : Frame) → Acts q fr → ℕ → Type 0
GoesTo q fr x to = Onward (marks_of size_of (body_in q fr)) (length (body_in q fr)) (fr.offset + x.size) (flow_at q fr x) to

-- the frame at a successor, its effects applied to depth and buffers
abbrev pub gone : (q : PoolProgram) (fr : Frame) → Acts q fr → ℕ → Frame
gone q fr x to = frame fr.row to (depth_after x.effect fr.depth) (sum_past (temps_of q x.opcode (operands_in q fr x.size)) fr.buffers)

-- "CALL and METHOD_CALL apply their effect and open the callee's frame; FB_CALL opens one if descriptor and function exist": by the callee's cell, its
-- row and 1, or 0 for none
abbrev pub opening : ℕ → List Frame → List Frame
opening zero frames = frames
opening (suc row) frames = opened row ∷ frames

-- "RET, RET_VOID or the body's end closes the frame at whatever depth it then has"
pub data Step (q : PoolProgram) : List Frame → List Frame → Type 0 where
  goes : {fr : Frame} {below : List Frame} (x : Acts q fr) (to : ℕ) → GoesTo q fr x to
      → Step q (fr ∷ below) (opening (opens_of q x.opcode (operands_in q fr x.size)) (gone q fr x to ∷ below))
  returns : {fr : Frame} {below : List Frame} (x : Acts q fr) → flow_at q fr x ≡ Return → Step q (fr ∷ below) below
  ends : {fr : Frame} {below : List Frame} → decoded_at q fr ≡ Ok None → Step q (fr ∷ below) below

-- "It has no step only where nothing decodes, a builtin or callee is unknown, or a target is illegal" (proofs/Stuck.antt: there it has none, and
-- everywhere else it has one)
pub data Stuck (q : PoolProgram) (fr : Frame) : Type 0 where
  unassigned : (offset byte : ℕ) → decoded_at q fr ≡ Err (Stop.Unknown offset byte) → Stuck q fr
  cut : (offset opcode : ℕ) → decoded_at q fr ≡ Err (Stop.Truncated offset opcode) → Stuck q fr
  no_builtin : (opcode size id : ℕ) → decoded_at q fr ≡ found opcode size → known_of move_of q.program opcode (operands_in q fr size) ≡ Err (of-rules.Unknown.Builtin id) → Stuck q fr
  no_callee : (opcode size id : ℕ) → decoded_at q fr ≡ found opcode size → known_of move_of q.program opcode (operands_in q fr size) ≡ Err (of-rules.Unknown.Callee id) → Stuck q fr
  no_target : (x : Acts q fr) (word : ℕ) (spot : Spot) → (flow_at q fr x ≡ Jump word) ⊎ (flow_at q fr x ≡ Branch word)
      → target_of (marks_of size_of (body_in q fr)) (length (body_in q fr)) (moved (fr.offset + x.size) word) ≡ Err spot → Stuck q fr

-- from some frames on
pub data Steps (q : PoolProgram) (first : List Frame) : List Frame → Type 0 where
  begins : Steps q first first
  then : {c d : List Frame} → Steps q first c → Step q c d → Steps q first d

-- "A run opens a frame for an entry that is in the directory"
pub record Run (q : PoolProgram) (c : List Frame) : Type 0 where
  pub entry : ℕ
  pub listed : Entered q entry
  pub steps : Steps q (opened entry ∷ []) c

-- "Live buffers are the sum over open frames."
unfoldable pub live : List Frame → ℕ
live [] = 0
live (fr ∷ c) = fr.buffers + live c
