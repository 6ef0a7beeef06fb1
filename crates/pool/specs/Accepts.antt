-- What the pool call's answers mean, without the visit: bodies whose walk ends, the graph of their calls, and its chains of calls from the entries that
-- are in the directory. Functions are spoken of by their rows in the directory. A walk's queue is spoken of only in 23 and in what is met first.
-- Assumes nothing: these are definitions.
--     WalkEnds          the body decodes to its end, and its walk gives neither 22 nor 23
--     call_graph         callees and weights, as the walks of the bodies found them
--     Finds             what weight, peak offset and callees of a walk are
--     Entered, Reached  the row of an entry; a chain of calls leads there from one
--     PoolSound         accepted
--     Sheet             what acceptance gives for a row, by numbers of buffers that dominate the body's paths
--     Paths             and for a row that an entry reaches, by its paths
--     Overruns          20: a function that an entry reaches, and its heaviest chain of calls, which passes the pool
--     Recurs            21: a function that an entry reaches, and that reaches itself
--     FirstRow          22 and 23: the first function in directory order whose walk strays, or holds too much at once
use Rattle.std.specs.Prelude.{ℕ, suc, ◌+◌, ◌*◌, ◌≤◌, ◌<◌, min, ◌≡◌, List, ◌⊎◌, ◌↔◌, length, get_or, Ok, Some}
use Rattle.tables.specs.Set.{size_of}
use Rattle.flow.specs.Walk.{walk_by, end_of, marks_of}
use Rattle.codes.specs.Lookup.{place_of}
use Rattle.program.specs.declared.Room.{Room}
use Rattle.program.specs.Program.{PoolProgram, body_of}
use Rattle.program.specs.Refusals.{pool_input}
use Rattle.buffers.specs.declared.Tread.{Tread}
use Rattle.buffers.specs.declared.Way.{Way}
use Rattle.buffers.specs.Tread.{tread_of}
use Rattle.buffers.specs.Walk.{Entry, Usage, undecodable, walked}
use Rattle.buffers.specs.Meaning.{Dominates}
use Rattle.buffers.specs.Meaning as meaning
use Rattle.buffers.specs.Trodden.{made_at, treads_of, First, Met, Comes}
use Rattle.buffers.specs.Longest.{longest_of}
use Rattle.callees.specs.Callees.{temps_of, opens_of}
use Rattle.visit.specs.Graph.{Graph, Among, Calls, Reaches, Heaviest, Tame}
use Rattle.pool.specs.Pool.{peak_of, rows_in, graph_of, walk_at}

-- how many functions the directory has
abbrev pub function_count : PoolProgram → ℕ
function_count q = length q.program.functions.ids

-- the function with an id stands at a row: the first with it, and the only one in an input that is not refused
abbrev pub Named : PoolProgram → ℕ → ℕ → Type 0
Named q function row = place_of q.program.functions.ids function ≡ Some row

-- 01's rules of the temp buffers in the body at a row, at any pool and at the program's
abbrev pub rule_under : PoolProgram → ℕ → ℕ → ℕ → ℕ → Tread
rule_under q pool row = tread_of (temps_of q) (opens_of q) (marks_of size_of (body_of q.program row)) (body_of q.program row) pool

abbrev pub rule_at : PoolProgram → ℕ → ℕ → ℕ → Tread
rule_at q = rule_under q q.pool

-- decoding comes to the body's end
abbrev pub Decodes : PoolProgram → ℕ → Type 0
Decodes q row = end_of (walk_by size_of (body_of q.program row) 0) ≡ (Ok tt)

-- "decoded and walked": and so does the walk, with numbers and with what it found
pub record WalkEnds (q : PoolProgram) (row : ℕ) : Type 0 where
  pub decodes : Decodes q row
  pub numbers : List ℕ
  pub found : Usage
  pub ends : walk_at q row ≡ walked numbers found

abbrev pub call_graph : PoolProgram → Graph
call_graph q = graph_of (walk_at q) (length q.program.functions.ids)

-- the places that the walk of the body at a row treads, in its order
abbrev pub treads_at : PoolProgram → ℕ → List Entry
treads_at q row =
    treads_of (rule_at q row) (2 * length (body_of q.program row) + 2) q.pool (length (body_of q.program row) + 1)

-- what a walk found, accepted or not: "Weight is the largest sum ever made, peak offset the first place it was made"; "Callees .. count where walked,
-- in first-met order", each once, by their rows
pub record Finds (q : PoolProgram) (row : ℕ) (w : WalkEnds q row) : Type 0 where
  pub weighs : (call_graph q).weight row ≡ w.found.weight
  pub peaks : peak_of (walk_at q row) ≡ w.found.peak
  pub calls : (call_graph q).calls row ≡ rows_in w.found.callees
  pub small : w.found.weight ≤ q.pool + 1
  pub largest : (e : Entry) → meaning.Among e (treads_at q row) → (made_at (rule_at q row) e).sum ≤ w.found.weight
  pub first : ((w.found.weight ≡ 0) × (w.found.peak ≡ 0)) ⊎ First (rule_at q row) (treads_at q row) w.found.weight w.found.peak
  pub met : Met (rule_at q row) (treads_at q row) w.found.callees

-- the row of an entry that is in the directory
abbrev pub Entered : PoolProgram → ℕ → Type 0
Entered q f = (e : ℕ) × Among e q.entries × (place_of q.program.functions.ids e ≡ Some f)

abbrev pub Reached : PoolProgram → ℕ → Type 0
Reached q row = (f : ℕ) × Entered q f × Reaches (call_graph q) f row

-- the input is not refused, no walk gives 22 or 23, and from no entry that is in the directory does a chain of calls repeat a function or weigh more
-- than the pool
pub record PoolSound (q : PoolProgram) (room : Room) (cells : ℕ) : Type 0 where
  pub taken : pool_input q room cells ≡ Ok tt
  pub walks : (row : ℕ) → row < function_count q → WalkEnds q row
  pub chains : (f : ℕ) → Entered q f → Tame (call_graph q) q.pool f

-- what acceptance gives for the body at a row, whether an entry reaches it or not: it decodes to its end, its marks fit, and the numbers of its walk
-- dominate; what it opens at an offset that has a number it calls. Its weight is at most the pool and 1, and within the pool where an entry reaches it
pub record Sheet (q : PoolProgram) (row : ℕ) : Type 0 where
  pub decodes : Decodes q row
  pub fits : (offset : ℕ) → offset < length (body_of q.program row)
      → offset + get_or (marks_of size_of (body_of q.program row)) offset 0 ≤ length (body_of q.program row)
  pub numbers : List ℕ
  pub found : Usage
  pub ends : walk_at q row ≡ walked numbers found
  pub dominates : Dominates (rule_at q row) numbers found
  pub weighs : (call_graph q).weight row ≡ found.weight
  pub small : found.weight ≤ q.pool + 1
  pub light : Reached q row → found.weight ≤ q.pool
  pub calls : (offset held callee : ℕ) → get_or numbers offset 0 ≡ suc held → (rule_at q row offset held).opens ≡ suc callee → Calls (call_graph q) row callee

-- and for the body at a row that an entry reaches, over all its paths from offset 0 with 0 buffers: none comes to an illegal target; its weight is the
-- largest sum that any makes, at any pool, so also past the place where this pool would end it; it calls exactly what they open
pub record Paths (q : PoolProgram) (row : ℕ) : Type 0 where
  pub straight : (offset held : ℕ) → Comes (rule_at q row) offset held → (rule_at q row offset held).way ≡ Way.Astray → ⊥
  pub sums : (pool offset held : ℕ) → Comes (rule_under q pool row) offset held → (rule_under q pool row offset held).sum ≤ (call_graph q).weight row
  pub made : (((call_graph q).weight row ≡ 0) × (peak_of (walk_at q row) ≡ 0))
      ⊎ ((held : ℕ) × Comes (rule_at q row) (peak_of (walk_at q row)) held × ((rule_at q row (peak_of (walk_at q row)) held).sum ≡ (call_graph q).weight row))
  pub calls : (callee : ℕ) → Calls (call_graph q) row callee ↔ ((offset : ℕ) × (held : ℕ) × Comes (rule_at q row) offset held × ((rule_at q row offset held).opens ≡ suc callee))

-- 20: "a total above the pool gives 20 at the peak offset", "reported as at most 65,535"
pub record Overruns (q : PoolProgram) (function offset depth declared : ℕ) : Type 0 where
  pub walks : (row : ℕ) → row < function_count q → WalkEnds q row
  pub row : ℕ
  pub named : Named q function row
  pub reached : Reached q row
  pub peak : offset ≡ peak_of (walk_at q row)
  pub pool : declared ≡ q.pool
  pub total : ℕ
  pub heaviest : Heaviest (call_graph q) row total
  pub reported : depth ≡ min 65535 total
  pub passes : q.pool < depth

-- 21: "A callee still open gives 21 with its id"; it is called by a function that it reaches
pub record Recurs (q : PoolProgram) (function : ℕ) : Type 0 where
  pub walks : (row : ℕ) → row < function_count q → WalkEnds q row
  pub row : ℕ
  pub named : Named q function row
  pub reached : Reached q row
  pub caller : ℕ
  pub onward : Reaches (call_graph q) row caller
  pub back : Calls (call_graph q) caller row

-- the first row in directory order of which something holds: all earlier walks came to their end
pub record FirstRow (q : PoolProgram) (Holds : ℕ → Type 0) (function : ℕ) : Type 0 where
  pub row : ℕ
  pub named : Named q function row
  pub earlier : (j : ℕ) → j < row → WalkEnds q j
  pub holds : Holds row

-- "Undecodable: decoding stops, or a branch reached has an illegal target"
abbrev pub Strays : PoolProgram → ℕ → Type 0
Strays q row = (Decodes q row → ⊥) ⊎ ((offset : ℕ) × (held : ℕ) × Comes (rule_at q row) offset held × ((rule_at q row offset held).way ≡ Way.Astray))

-- 22. A path of which the walk found a larger number instead is not walked: so that a path strays is not enough
abbrev pub Undecodable : PoolProgram → ℕ → Type 0
Undecodable q row = (walk_at q row ≡ undecodable) × Strays q row

-- 23: "exactly when a walk would hold more than 2 x body length + 2 entries at once"
abbrev pub Crowds : PoolProgram → ℕ → Type 0
Crowds q row = Decodes q row × (2 * length (body_of q.program row) + 2 < longest_of (rule_at q row) q.pool (length (body_of q.program row) + 1))
