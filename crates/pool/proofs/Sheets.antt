-- What walks that ended found, and what an accepted program's bodies are, for the run theorem: every row has its sheet, and a row that an entry reaches
-- has its paths. Each body by the theorems of its walk, which ended; its weight is within the pool where an entry reaches it, since a chain of calls
-- from there weighs no less; a cell that it opens is a callee's row and 1, and no call leads out of the directory (Opening.antt).
-- Assumes nothing.
--     walk_finds          weight, peak offset and callees of any walk that ended, whatever the answer
--     bodies_dominated    accepted: for each row, numbers that dominate, a weight of at most the pool and 1, and within it where an entry reaches the row
--     bodies_exact        accepted: for each row that an entry reaches, its weight is the largest sum of its paths, and it calls what they open
--     reached_tame        accepted: from each row that an entry reaches no chain of calls repeats a function or weighs more than the pool
use Prim.Native.Nat.{ℕ, suc, ◌+◌, ◌-◌, ◌*◌, ◌≤◌, ◌<◌}
use native.Mathlib.Omega.{arith}
use mathlib.Core.Path.{◌≡◌, sym, subst, ap, ◌∙◌}
use mathlib.Core.Logic.{◌↔◌}
use mathlib.Core.List.{List}
use lib.ListN.{length}
use borrow.Author.Tests.{lt-ltb}
use Rattle.tables.specs.Set.{size_of}
use Rattle.flow.specs.Walk.{marks_of}
use Rattle.flow.proofs.Next.{body_fits}
use Rattle.program.specs.declared.Room.{Room}
use Rattle.program.specs.Program.{PoolProgram, body_of}
use Rattle.program.proofs.Taken.{pool_taken}
use Rattle.buffers.specs.Walk.{Usage, Walked, walked, callees_of}
use Rattle.buffers.specs.Meaning as meaning
use Rattle.buffers.proofs.Theorems.{dominates, weight_largest, peak_first, callees_met, weight_small, weight_exact, callees_exact, walked_straight}
use Rattle.callees.specs.Callees.{temps_of, opens_of}
use Rattle.visit.specs.Graph.{Among, Calls, Tame}
use Rattle.visit.proofs.Laws.{reaches_on, tame_self, tame_reached}
use Rattle.pool.specs.Pool.{weight_of, peak_of, rows_in, walk_at}
use Rattle.pool.specs.Accepts.{function_count, WalkEnds, call_graph, Finds, Reached, PoolSound, Sheet, Paths}
use Rattle.pool.proofs.Ending.{body_walked}
use Rattle.pool.proofs.Opening.{cell_row, row_of_cell, callee_inside, reached_inside}

module _ (q : PoolProgram) where
  -- ---- the graph at a row whose walk ended
  module _ (row : ℕ) (inside : row < function_count q) (numbers : List ℕ) (u : Usage) (ends : walk_at q row ≡ walked numbers u) where
    pub weight_is : (call_graph q).weight row ≡ u.weight
    weight_is = rw (lt-ltb row (function_count q) inside) (ap weight_of ends)

    pub calls_are : (call_graph q).calls row ≡ rows_in u.callees
    calls_are = rw (lt-ltb row (function_count q) inside) (ap (λ (w : Walked). rows_in (callees_of w)) ends)

    -- what it calls are its callees, by their cells
    pub calls_cells : function_count q ≤ 128 → (callee : ℕ) → Calls (call_graph q) row callee ↔ meaning.Among (suc callee) u.callees
    calls_cells few callee = (out, back)
      where
        out : Calls (call_graph q) row callee → meaning.Among (suc callee) u.callees
        out c =
            let r = row_of_cell u.callees callee (subst (Among callee) calls_are c.0) in
            let k = callee_inside q row (walked numbers u) ends r.0 r.1 in
            rw (← one_more r.0 k.0 r.2) r.1
          where
            one_more : (cell : ℕ) → (cell ≡ 0 → ⊥) → cell - 1 ≡ callee → cell ≡ suc callee
            one_more cell n e = omega arith

        back : meaning.Among (suc callee) u.callees → Calls (call_graph q) row callee
        back i =
            let k = callee_inside q row (walked numbers u) ends (suc callee) i in
            (subst (Among callee) (sym calls_are) (cell_row u.callees callee i), omega (arith, k.1))

  -- what a walk that ended found
  pub walk_finds : (row : ℕ) → row < function_count q → (w : WalkEnds q row) → Finds q row w
  walk_finds row inside w =
      let body = body_of q.program row in
      let marks = marks_of size_of body in
      let room = 2 * length body + 2 in
      let d = body_walked size_of (temps_of q) (opens_of q) q.pool body w.numbers w.found w.ends in
      record {
        weighs = weight_is row inside w.numbers w.found w.ends;
        peaks = ap peak_of w.ends;
        calls = calls_are row inside w.numbers w.found w.ends;
        small = weight_small (temps_of q) (opens_of q) marks body q.pool room (body_fits size_of body) w.numbers w.found d.1;
        largest = weight_largest (temps_of q) (opens_of q) marks body q.pool room (body_fits size_of body) w.numbers w.found d.1;
        first = peak_first (temps_of q) (opens_of q) marks body q.pool room (body_fits size_of body) w.numbers w.found d.1;
        met = callees_met (temps_of q) (opens_of q) marks body q.pool room (body_fits size_of body) w.numbers w.found d.1;
      }

  module _ (room : Room) (cells : ℕ) (sound : PoolSound q room cells) where
    few : function_count q ≤ 128
    few = (pool_taken q room cells sound.taken).stack.functions_limit

    -- a function that an entry reaches is tame, and so is what it calls
    pub reached_tame : (row : ℕ) → Reached q row → Tame (call_graph q) q.pool row
    reached_tame row r = tame_reached (call_graph q) q.pool r.0 row (sound.chains r.0 r.1) r.2

    pub reached_callee : (row callee : ℕ) → Reached q row → Calls (call_graph q) row callee → Reached q callee
    reached_callee row callee r c = (r.0, r.1, reaches_on (call_graph q) r.0 row callee r.2 c)

    pub bodies_dominated : (row : ℕ) → row < function_count q → Sheet q row
    bodies_dominated row inside =
        let w = sound.walks row inside in
        let body = body_of q.program row in
        let marks = marks_of size_of body in
        let d = body_walked size_of (temps_of q) (opens_of q) q.pool body w.numbers w.found w.ends in
        let over = dominates (temps_of q) (opens_of q) marks body q.pool (2 * length body + 2) (body_fits size_of body) w.numbers w.found d.1 in
        record {
          decodes = w.decodes;
          fits = body_fits size_of body;
          numbers = w.numbers;
          found = w.found;
          ends = w.ends;
          dominates = over;
          weighs = weight_is row inside w.numbers w.found w.ends;
          small = weight_small (temps_of q) (opens_of q) marks body q.pool (2 * length body + 2) (body_fits size_of body) w.numbers w.found d.1;
          light = λ r. omega (arith, weight_is row inside w.numbers w.found w.ends, tame_self (call_graph q) q.pool row (reached_tame row r));
          calls = λ offset held callee n o.
              (calls_cells row inside w.numbers w.found w.ends few callee).1
              (rw o at (over.calls offset held n (λ z. let e : suc callee ≡ 0 = sym o ∙ z in omega arith)));
        }

    pub bodies_exact : (row : ℕ) → Reached q row → Paths q row
    bodies_exact row r =
        let inside = reached_inside q row r in
        let s = bodies_dominated row inside in
        let body = body_of q.program row in
        let marks = marks_of size_of body in
        let room = 2 * length body + 2 in
        let d = body_walked size_of (temps_of q) (opens_of q) q.pool body s.numbers s.found s.ends in
        let x = weight_exact (temps_of q) (opens_of q) marks body q.pool room (body_fits size_of body) s.numbers s.found d.1 (s.light r) in
        let p : peak_of (walk_at q row) ≡ s.found.peak = ap peak_of s.ends in
        record {
          straight = walked_straight (temps_of q) (opens_of q) marks body q.pool room (body_fits size_of body) s.numbers s.found d.1 (s.light r);
          sums = λ pool offset held c. omega (arith, s.weighs, x.0 pool offset held c);
          made = rw (s.weighs, p) x.1;
          calls = λ callee.
              let c = callees_exact (temps_of q) (opens_of q) marks body q.pool room (body_fits size_of body) s.numbers s.found d.1 (s.light r) (suc callee) in
              let g = calls_cells row inside s.numbers s.found s.ends few callee in
              (λ i. (c.0 (g.0 i)).1, λ o. g.1 (c.1 ((λ z. omega arith), o)));
        }
