-- What the contracts say of what code lends: the rules, the walk of a body, and the walks of the directory, as the sources of the words have them; the
-- visit's answer; and a queue that waits in its two columns.
-- Assumes nothing.
use Rattle.std.specs.Prelude.{ℕ, ◌≡◌, List, length, get_or}
use Rattle.cells.specs.Zeros.{zeros}
use Rattle.tables.specs.Packed.{size_in}
use Rattle.buffers.specs.declared.Tread.{Tread}
use Rattle.buffers.specs.Tread.{tread_of}
use Rattle.buffers.specs.Walk.{Entry, Walked}
use Rattle.program.specs.declared.PoolProgram.{PoolProgram}
use Rattle.program.specs.declared.Scratch.{Scratch}
use Rattle.program.specs.Stated.{SameColumns}
use Rattle.callees.specs.declared.Sources.{Sources}
use Rattle.callees.specs.Stated.{temps_in, opens_in}
use Rattle.visit.specs.Visit.{visit_of}
use Rattle.visit.specs.Cells.{graph_in, entry_rows}
use Rattle.pool.specs.declared.bodies.Usages.{Usages}
use Rattle.pool.specs.declared.ring.Ring.{Ring}
use Rattle.pool.specs.Columns.{waiting, Ready, Cleared, Roomy}
use Rattle.pool.specs.Pool.{Verdict, body_walk, on_visited}
use Rattle.pool.specs.Usages.{walks_by}

-- 01's rules of the temp buffers in a body with these marks
abbrev pub rule_in : Sources → List ℕ → List ℕ → ℕ → ℕ → Tread
rule_in s marks body = tread_of (temps_in s) (opens_in s) marks body s.program.pool

-- a body, decoded and walked
abbrev pub body_in : List ℕ → Sources → List ℕ → Walked
body_in sizes s body = body_walk (size_in sizes) (temps_in s) (opens_in s) s.program.pool body

-- the body at a row of the directory
abbrev pub walk_in : List ℕ → Sources → ℕ → Walked
walk_in sizes s = walks_by (body_in sizes s) s.program.program.functions.offsets.now s.program.program.functions.lengths.now s.program.program.code.now

-- what the visit over the cells answers, with the weights and peak offsets of the walks
abbrev pub visit_in : PoolProgram → List ℕ → Usages → Verdict
visit_in q cells u =
    on_visited q.program.functions.ids.now (λ f. get_or u.peaks f 0) q.pool (visit_of (graph_in cells u.weights) q.pool (entry_rows q.program.functions.ids.now q.entries.now))

-- ---- the queue in its columns
abbrev pub queue_in : Ring → List Entry
queue_in r = waiting r.places.now r.carried.now r.head r.count

abbrev pub ReadyIn : List ℕ → Ring → Type 0
ReadyIn numbers r = Ready numbers r.places.now r.carried.now r.head r.count

-- the columns keep their room
abbrev pub SameRoom : Ring → Ring → Type 0
SameRoom first last = length last.places.now ≡ length first.places.now

-- ---- the scratch: its depths are the walk's numbers, its queue columns the places and what is carried there
abbrev pub ClearedIn : Scratch → Type 0
ClearedIn s = Cleared s.marks.now s.depths.now

abbrev pub RoomyIn : ℕ → Scratch → Type 0
RoomyIn n s = Roomy n s.marks.now s.depths.now s.queue.now s.queue_depths.now

-- the columns came back with their room, marks and depths zero
pub record GivenBack (first last : Scratch) : Type 0 where
  pub same : SameColumns first last
  pub marks_zero : last.marks.now ≡ zeros (length first.marks.now)
  pub depths_zero : last.depths.now ≡ zeros (length first.depths.now)
  pub queue_room : length last.queue.now ≡ length first.queue.now
  pub queue_depths_room : length last.queue_depths.now ≡ length first.queue_depths.now
