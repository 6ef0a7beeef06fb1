-- What demand 3 says of every configuration of a run, a field for each of its clauses in its order, of all open frames and not only the top one.
-- Assumes nothing: these are definitions.
use Rattle.std.specs.Prelude.{ℕ, ◌+◌, ◌≤◌, ◌≡◌, Bool, true, false, ◌⊎◌, List, [], ◌∷◌, eqb, get_or, Ok, None}
use Rattle.flow.specs.declared.Flow.TheVariants.{Return}
use Rattle.program.specs.Program.{PoolProgram}
use Rattle.machine.specs.Machine.{Frame, Acts, depth_after, decoded_at, flow_at, Step, live}

-- a frame is open
pub data Open : Frame → List Frame → Type 0 where
  top : {fr : Frame} {c : List Frame} → Open fr (fr ∷ c)
  under : {fr other : Frame} {c : List Frame} → Open fr c → Open fr (other ∷ c)

-- how many frames of the function at a row are open
abbrev pub one : Bool → ℕ
one true = 1
one false = 0

unfoldable pub frames_of : ℕ → List Frame → ℕ
frames_of row [] = 0
frames_of row (fr ∷ c) = one (eqb fr.row row) + frames_of row c

abbrev pub declared : PoolProgram → Frame → ℕ
declared q fr = get_or q.program.functions.maxima fr.row 0

pub record Safe (q : PoolProgram) (c : List Frame) : Type 0 where
  -- no run "takes more than its frame holds"
  pub enough : (fr : Frame) → Open fr c → (x : Acts q fr) → x.effect.takes ≤ fr.depth
  -- "passes a declared depth", before an instruction or after it
  pub before : (fr : Frame) → Open fr c → fr.depth ≤ declared q fr
  pub after : (fr : Frame) → Open fr c → (x : Acts q fr) → depth_after x.effect fr.depth ≤ declared q fr
  -- "exits at a wrong depth": RET closes its frame at 1, RET_VOID and the body's end at 0
  pub returns : (fr : Frame) → Open fr c → (x : Acts q fr) → flow_at q fr x ≡ Return
      → ((x.opcode ≡ 0x88) × (depth_after x.effect fr.depth ≡ 1)) ⊎ ((x.opcode ≡ 0x8C) × (depth_after x.effect fr.depth ≡ 0))
  pub ends : (fr : Frame) → Open fr c → decoded_at q fr ≡ Ok None → fr.depth ≡ 0
  -- "opens a function twice"
  pub once : (row : ℕ) → frames_of row c ≤ 1
  -- "holds more buffers than the pool"
  pub buffers : live c ≤ q.pool
  -- "or gets stuck": it has a step, or the last frame has closed
  pub moves : (c ≡ []) ⊎ ((d : List Frame) × Step q c d)
