-- What holds of every configuration of a run, where both checks accept: each open frame stands at an offset that both walks reached, at the stack
-- check's depth and with no more buffers than the pool check's number there (Stands); each frame's function is called by the one below, and what is
-- left of the pool when the weights of the frames below are taken from it suffices for all chains of calls from it (Below). A step keeps that: by the
-- sheets of the bodies (pool's Sheets.antt), one depth for each reachable offset (stack's Accepting.antt) and the laws of tame functions (visit).
-- Assumes nothing.
use Rattle.std.specs.Prelude.{Ok, None}
use Prim.Native.Nat.{ℕ, zero, suc, ◌+◌, ◌≤◌, ◌<◌}
use native.Mathlib.Omega.{arith}
use mathlib.Core.Path.{◌≡◌, refl, sym, subst, ◌∙◌}
use mathlib.Core.List.{List, [], ◌∷◌}
use mathlib.Core.Logic.{◌⊎◌, inl, inr, ⊎_elim}
use lib.ListN.{length, get_or}
use Rattle.tables.specs.Set.{size_of, move_of}
use Rattle.flow.specs.Walk.{marks_of}
use Rattle.flow.proofs.Laws.{end_only}
use Rattle.flow.proofs.StartLaws.{Begins}
use Rattle.flow.proofs.Next.{Standing, first_stands, return_is}
use Rattle.program.specs.declared.Room.{Room}
use Rattle.program.specs.Program.{PoolProgram, body_of}
use Rattle.rules.specs.Look.{Effects, look_of, Look}
use Rattle.rules.specs.Assigned.{Holds, Names}
use Rattle.rules.specs.Assigned as assigned
use Rattle.rules.proofs.Held.{end_held}
use Rattle.effects.specs.Effects.{known_of}
use Rattle.stack.specs.Exact.{Balanced, Sound}
use Rattle.callees.specs.Callees.{temps_of, opens_of}
use Rattle.visit.specs.Graph.{Graph, Calls, Reaches, same, more, Tame}
use Rattle.visit.proofs.Laws.{reaches_on, tame_self, tame_callee}
use Rattle.visit.proofs.Chains.{no_cycle}
use Rattle.pool.specs.Accepts.{call_graph, Reached, PoolSound, Sheet}
use Rattle.pool.proofs.Opening.{reached_inside}
use Rattle.pool.proofs.Sheets.{reached_tame, reached_callee, bodies_dominated}
use Rattle.machine.specs.Machine.{Frame, opened, body_in, operands_in, decoded_at, Acts, depth_after, flow_at, GoesTo, gone, opening, Step, goes, returns, ends, Steps, begins, then, Run, live}
use Rattle.machine.specs.Safe.{Open, top, under, declared, Safe}
use Rattle.machine.proofs.Places.{Place, place_at, decodes_at, onward_at}
use Rattle.machine.proofs.Looking.{Obeys, obeys, acts_known, way_on, exits_at, depth_within}
use Rattle.machine.proofs.Treading.{Treads, treads}
use Rattle.machine.proofs.Counting.{Once, once_frames}

module _ (q : PoolProgram) (stack-room room : Room) (cells : ℕ) (stacked : Sound q.program stack-room) (pooled : PoolSound q room cells) where
  abbrev pub graph : Graph
  graph = call_graph q

  abbrev known : Effects
  known = known_of move_of q.program

  -- 01's rules of the stack in the body that a frame runs
  abbrev ruled : Frame → ℕ → ℕ → Look
  ruled fr = look_of known (marks_of size_of (body_in q fr)) (body_in q fr) (declared q fr)

  pub record Stands (fr : Frame) : Type 0 where
    reached : Reached q fr.row
    balanced : Balanced size_of known (body_in q fr) (declared q fr)
    sheet : Sheet q fr.row
    standing : Standing size_of (body_in q fr) fr.offset
    comes : assigned.Reached (ruled fr) balanced.depth fr.offset
    deep : fr.depth ≡ balanced.depth fr.offset
    numbered : fr.buffers < get_or sheet.numbers fr.offset 0
    light : fr.buffers ≤ graph.weight fr.row

  -- ---- what the checks say of a frame that stands
  holds : (fr : Frame) → Stands fr → Holds (ruled fr fr.offset fr.depth)
  holds fr s = subst (λ (d : ℕ). Holds (ruled fr fr.offset d)) (sym s.deep) (s.balanced.satisfies.holds fr.offset s.comes)

  place : (fr : Frame) → Stands fr → (x : Acts q fr) → Place size_of (body_in q fr) fr.offset x.opcode x.size
  place fr s x = place_at size_of (body_in q fr) fr.offset x.opcode x.size s.standing x.decodes

  obeyed : (fr : Frame) → Stands fr → (x : Acts q fr)
      → Obeys known (marks_of size_of (body_in q fr)) (body_in q fr) (declared q fr) fr.offset fr.depth x.opcode x.size x.effect
  obeyed fr s x =
      let p = place fr s x in
      obeys known (marks_of size_of (body_in q fr)) (body_in q fr) (declared q fr) fr.offset fr.depth x.opcode x.size p.inside p.is_op p.is_size x.effect x.known (holds fr s)

  trodden : (fr : Frame) (s : Stands fr) (x : Acts q fr)
      → let p = place fr s x in Treads (temps_of q) (opens_of q) (marks_of size_of (body_in q fr)) (body_in q fr) q.pool fr.offset x.opcode x.size p.inside p.is_op p.is_size
      s.sheet.numbers s.sheet.found s.sheet.dominates (s.sheet.light s.reached) fr.buffers
  trodden fr s x =
      let p = place fr s x in
      treads (temps_of q) (opens_of q) (marks_of size_of (body_in q fr)) (body_in q fr) q.pool fr.offset x.opcode x.size p.inside p.is_op p.is_size
      s.sheet.numbers s.sheet.found s.sheet.dominates (s.sheet.light s.reached) fr.buffers s.numbered

  -- ---- a new frame, and a frame at a successor
  began : (row : ℕ) → Reached q row → Stands (opened row)
  began row r =
      let inside = reached_inside q row r in
      let b = stacked.balanced row inside in
      let s = bodies_dominated q room cells pooled row inside in
      record {
        reached = r;
        balanced = b;
        sheet = s;
        standing = first_stands size_of (body_of q.program row) b.decodes;
        comes = assigned.start;
        deep = sym b.satisfies.at_start;
        numbered = s.dominates.first;
        light = omega arith;
      }

  went : (fr : Frame) (x : Acts q fr) (to : ℕ) → Stands fr → GoesTo q fr x to → Stands (gone q fr x to)
  went fr x to s w =
      let out = depth_after x.effect fr.depth in
      let t = trodden fr s x in
      let n : Names (ruled fr fr.offset (s.balanced.depth fr.offset)) to out =
      subst (λ (d : ℕ). Names (ruled fr fr.offset d) to out) s.deep ((obeyed fr s x).names to w) in
      record {
        reached = s.reached;
        balanced = s.balanced;
        sheet = s.sheet;
        standing = onward_at size_of (body_in q fr) s.balanced.decodes fr.offset x.opcode x.size (place fr s x) (flow_at q fr x) to w;
        comes = assigned.step out s.comes n;
        deep = sym (s.balanced.satisfies.agrees fr.offset to out s.comes n);
        numbered = t.onward to w;
        light = omega (arith, t.sum, s.sheet.weighs);
      }

  -- ---- the frames below one of the function at a row, and how much of the pool is left to it and what it calls
  pub data Below : List Frame → ℕ → ℕ → Type 0 where
    nothing : {row : ℕ} → Tame graph q.pool row → Below [] row q.pool
    caller : {fr : Frame} {c : List Frame} {row left more : ℕ} → Below c fr.row more → Stands fr → Calls graph fr.row row → Tame graph left row
        → graph.weight fr.row + left ≤ more → Below (fr ∷ c) row left

  data Good : List Frame → Type 0 where
    closed : Good []
    good : {fr : Frame} {c : List Frame} {left : ℕ} → Below c fr.row left → Stands fr → Good (fr ∷ c)

  tame_there : {c : List Frame} {row left : ℕ} → Below c row left → Tame graph left row
  tame_there (nothing m) = m
  tame_there (caller b s k m le) = m

  pub budget : {c : List Frame} {row left : ℕ} → Below c row left → live c + left ≤ q.pool
  unfolding live
  budget (nothing m) = omega arith
  budget (caller b s k m le) = omega (arith, budget b, s.light)

  -- ---- a step keeps it
  uncovered : {c : List Frame} {row left : ℕ} → Below c row left → Good c
  uncovered (nothing m) = closed
  uncovered (caller b s k m le) = good b s

  covered : {fr : Frame} {c : List Frame} {left : ℕ} → Below c fr.row left → Stands fr → (cell : ℕ) → ((row : ℕ) → cell ≡ suc row → Calls graph fr.row row)
      → Good (opening cell (fr ∷ c))
  covered b s zero k = good b s
  covered {fr} {c} {left} b s (suc row) k =
      let m = tame_there b in
      good (caller b s (k row refl) (tame_callee graph left fr.row row m (k row refl)) (omega (arith, tame_self graph left fr.row m)))
      (began row (reached_callee q room cells pooled fr.row row s.reached (k row refl)))

  kept : {c d : List Frame} → Good c → Step q c d → Good d
  kept (good {fr} b s) (goes x to w) =
      let t = trodden fr s x in
      covered {fr = gone q fr x to} b (went fr x to s w) (opens_of q x.opcode (operands_in q fr x.size))
      (λ row e. s.sheet.calls fr.offset t.held row t.number (t.opened ∙ e))
  kept (good b s) (returns x e) = uncovered b
  kept (good b s) (ends e) = uncovered b
  kept {d = d} closed step = elim step [ ]

  steps_good : (row : ℕ) → Reached q row → {c : List Frame} → Steps q (opened row ∷ []) c → Good c
  steps_good row r begins = good (nothing (reached_tame q room cells pooled row r)) (began row r)
  steps_good row r (then s t) = kept (steps_good row r s) t

  -- ---- what it gives
  stands_below : {c : List Frame} {row left : ℕ} {fr : Frame} → Below c row left → Open fr c → Stands fr
  stands_below (caller b s k m le) top = s
  stands_below (caller b s k m le) (under o) = stands_below b o
  stands_below {fr = fr} (nothing {row = row} _) there = elim there [ ]

  stands_at : {c : List Frame} {fr : Frame} → Good c → Open fr c → Stands fr
  stands_at (good b s) top = s
  stands_at (good b s) (under o) = stands_below b o
  stands_at {fr = fr} closed there = elim there [ ]

  -- from the function of each frame below a chain of calls leads on to the one on top
  leads : {c : List Frame} {row left : ℕ} {fr : Frame} → Below c row left → Open fr c → (h : ℕ) × Calls graph fr.row h × Reaches graph h row
  leads (caller {row = row} b s k m le) top = (row, k, same)
  leads (caller {fr = other} {row = row} b s k m le) (under o) = let r = leads b o in (r.0, r.1, reaches_on graph r.0 other.row row r.2 k)
  leads {fr = fr} (nothing {row = row} _) there = elim there [ ]

  apart : {c : List Frame} {row left : ℕ} → Below c row left → (other : Frame) → Open other c → other.row ≡ row → ⊥
  apart {row = row} {left = left} b other o e =
      let r = leads b o in
      let k : Calls graph row r.0 = subst (λ (g : ℕ). Calls graph g r.0) e r.1 in
      no_cycle graph left (tame_there b) (more k same) r.2 k

  once_below : {c : List Frame} {row left : ℕ} → Below c row left → Once c
  once_below (nothing m) = tt
  once_below (caller b s k m le) = (apart b, once_below b)

  once_all : {c : List Frame} → Good c → Once c
  once_all closed = tt
  once_all (good b s) = (apart b, once_below b)

  -- where the frames below and what is left are within the pool, all frames are
  light_all : ((c : List Frame) (row left : ℕ) → Below c row left → live c + left ≤ q.pool) → {c : List Frame} → Good c → live c ≤ q.pool
  unfolding live
  light_all within closed = omega arith
  light_all within (good {fr} {c} {left} b s) = omega (arith, within c fr.row left b, s.light, tame_self graph left fr.row (tame_there b))

  moves_on : (fr : Frame) (c : List Frame) → Stands fr → (d : List Frame) × Step q (fr ∷ c) d
  moves_on fr c s = by (decodes_at size_of (body_in q fr) fr.offset s.standing)
    where
      acts : (x : Acts q fr) → (d : List Frame) × Step q (fr ∷ c) d
      acts x =
          ⊎_elim (λ e. (c, returns x e)) (λ w. (opening (opens_of q x.opcode (operands_in q fr x.size)) (gone q fr x w.0 ∷ c), goes x w.0 w.1))
          (way_on (marks_of size_of (body_in q fr)) (length (body_in q fr)) fr.offset (fr.offset + x.size) x.opcode (depth_after x.effect fr.depth) (flow_at q fr x) (obeyed fr s x).flows)

      by : Begins size_of (body_in q fr) fr.offset ⊎ (decoded_at q fr ≡ Ok None) → (d : List Frame) × Step q (fr ∷ c) d
      by (inl b) =
          let p = place_at size_of (body_in q fr) fr.offset b.op b.size s.standing b.step in
          let k = acts_known known (marks_of size_of (body_in q fr)) (body_in q fr) (declared q fr) fr.offset fr.depth b.op b.size p.inside p.is_op p.is_size (holds fr s) in
          acts (record { opcode = b.op; size = b.size; effect = k.0; decodes = b.step; known = k.1 })
      by (inr e) = (c, ends e)

  moves_all : {c : List Frame} → Good c → (c ≡ []) ⊎ ((d : List Frame) × Step q c d)
  moves_all closed = inl refl
  moves_all (good {fr} {c} b s) = inr (moves_on fr c s)

  -- every configuration of every run is safe, by `budget` (Sound.antt)
  pub safe_within : ((c : List Frame) (row left : ℕ) → Below c row left → live c + left ≤ q.pool) → {c : List Frame} → Run q c → Safe q c
  safe_within within {c} r =
      let i = steps_good r.entry (r.entry, r.listed, same) r.steps in
      record {
        enough = λ fr o x. (obeyed fr (stands_at i o) x).enough;
        before = λ fr o. depth_within known (marks_of size_of (body_in q fr)) (body_in q fr) (declared q fr) fr.offset fr.depth (holds fr (stands_at i o));
        after = λ fr o x. (obeyed fr (stands_at i o) x).after;
        returns = λ fr o x e.
            exits_at (marks_of size_of (body_in q fr)) (length (body_in q fr)) fr.offset (fr.offset + x.size) x.opcode (depth_after x.effect fr.depth) (flow_at q fr x) e
            (obeyed fr (stands_at i o) x).flows (return_is x.opcode (operands_in q fr x.size) e);
        ends = λ fr o e.
            end_held known (marks_of size_of (body_in q fr)) (body_in q fr) (declared q fr) fr.offset fr.depth (end_only size_of (body_in q fr) fr.offset e) (holds fr (stands_at i o));
        once = λ row. once_frames row c (once_all i);
        buffers = light_all within i;
        moves = moves_all i;
      }
