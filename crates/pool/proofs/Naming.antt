-- What the answers 20 to 23 name. 20 and 21 are the visit's: its theorems name a row that an entry's row reaches, which is in the directory since no call
-- leads out of it (Opening.antt), and ids are distinct, so that the id names it. 22 and 23 name the first row whose walk gave them, all earlier walks
-- having ended; both exactly.
-- Assumes nothing. For 20 the pool is a u16, at most 65,535, as in Accepting.antt.
--     names_overrun        20: a function that an entry reaches, its peak offset, the pool, and at most 65,535 of its heaviest chain, which passes the pool
--     names_cycle          21: a function that an entry reaches and that reaches itself
--     names_undecodable    22: the first function whose decoding stops, or whose walk comes to an illegal target
--     names_queue_full     23: the first function whose walk would hold more entries at once than there is room for
use Rattle.visit.specs.Visit.{Visited}
use Rattle.std.specs.Prelude.{Ok, Err}
use Prim.Native.Nat.{ℕ, ◌+◌, ◌*◌, ◌≤◌, ◌<◌}
use native.Mathlib.Omega.{arith}
use mathlib.Core.Path.{◌≡◌, refl, sym, ap, ◌∙◌}
use mathlib.Core.Logic.{◌↔◌, inl, inr, ⊎_elim}
use mathlib.Core.List.{List}
use lib.ListN.{length, get_or}
use Rattle.tables.specs.Set.{size_of}
use Rattle.flow.specs.Walk.{marks_of}
use Rattle.flow.proofs.Next.{body_fits}
use Rattle.codes.specs.LookupLaws.{place_row, place_in, place_has}
use Rattle.program.specs.declared.Room.{Room}
use Rattle.program.specs.Program.{PoolProgram, body_of}
use Rattle.program.specs.Refusals.{pool_input}
use Rattle.program.specs.Laws.{distinct}
use Rattle.program.proofs.Taken.{pool_taken}
use Rattle.buffers.specs.Walk.{undecodable, crowded, used_of}
use Rattle.buffers.proofs.Theorems.{crowded_exact, undecodable_strays}
use Rattle.callees.specs.Callees.{temps_of, opens_of}
use Rattle.visit.specs.declared.Overrun.{Overrun}
use Rattle.visit.proofs.Theorems as visiting
use Rattle.pool.specs.declared.Fault.{Fault}
use Rattle.pool.specs.Pool.{peak_of, on_visited, entries_of, walk_at, pool_answer, Verdict}
use Rattle.pool.specs.Accepts.{function_count, Named, call_graph, Overruns, Recurs, FirstRow, Strays, Undecodable, Crowds}
use Rattle.pool.proofs.Ending.{body_undecodable, body_crowded, crowded_body}
use Rattle.pool.proofs.Accepting.{pool_below, among_entered, visited, Answers, visits, strays, crowds, answers, first_answer}
use Rattle.pool.proofs.Opening.{reached_inside}

module _ (q : PoolProgram) where
  abbrev ids : List ℕ
  ids = q.program.functions.ids

  row_strays : (row : ℕ) → walk_at q row ≡ undecodable → Strays q row
  row_strays row e =
      let body = body_of q.program row in
      ⊎_elim (λ n. inl n)
      (λ d. inr (undecodable_strays (temps_of q) (opens_of q) (marks_of size_of body) body q.pool (2 * length body + 2) (body_fits size_of body) d.1))
      (body_undecodable size_of (temps_of q) (opens_of q) q.pool body e)

  row_crowds : (row : ℕ) → (walk_at q row ≡ crowded) ↔ Crowds q row
  row_crowds row =
      let body = body_of q.program row in
      let x = crowded_exact (temps_of q) (opens_of q) (marks_of size_of body) body q.pool (2 * length body + 2) (body_fits size_of body) (omega arith) in (
        λ e. let d = body_crowded size_of (temps_of q) (opens_of q) q.pool body e in (d.0, x.0 d.1),
        λ c. crowded_body size_of (temps_of q) (opens_of q) q.pool body c.0 (x.1 c.1),
      )

  module _ (room : Room) (cells : ℕ) where
    -- ids are distinct, so a row's id names it
    named : pool_input q room cells ≡ Ok tt → (row : ℕ) → row < function_count q → Named q (get_or ids row 0) row
    named t row h =
        place_row ids (get_or ids row 0) row h refl (λ j l e. distinct ids (pool_taken q room cells t).stack.ids_distinct j row l h e)

    pub names_undecodable : (function : ℕ)
        → (pool_answer q room cells ≡ Err (Fault.Undecodable function)) ↔ ((pool_input q room cells ≡ Ok tt) × FirstRow q (Undecodable q) function)
    names_undecodable function = (
      λ e. let a = answers q room cells (Err (Fault.Undecodable function)) tt e in (a.0, by (Err (Fault.Undecodable function)) a.1 refl a.0),
      λ s. first_answer q room cells s.0 s.1.row (place_in ids function s.1.row s.1.named) s.1.earlier (Err (Fault.Undecodable function))
          (λ after. rw (ap used_of s.1.holds.0) (ap (λ (n : ℕ). Err (Fault.Undecodable n)) (place_has ids function s.1.row s.1.named))),
    )
      where
        by : (v : Verdict) → Answers q v → v ≡ Err (Fault.Undecodable function) → pool_input q room cells ≡ Ok tt → FirstRow q (Undecodable q) function
        by _ (visits w) e t = absurd (never (visited q) e)
          where
            never : (v : Visited) → on_visited ids (λ f. peak_of (walk_at q f)) q.pool v ≡ Err (Fault.Undecodable function) → ⊥
            never (Ok n) e = cc
            never (Err (Overrun.Cycle f)) e = cc
            never (Err (Overrun.Over f n)) e = cc
        by _ (strays row h on w) e t =
            let z : get_or ids row 0 ≡ function = cc in
            record { row = row; named = rw (← z) (named t row h); earlier = on; holds = (w, row_strays row w) }
        by _ (crowds row h on w) e t = cc

    pub names_queue_full : (function : ℕ)
        → (pool_answer q room cells ≡ Err (Fault.QueueFull function)) ↔ ((pool_input q room cells ≡ Ok tt) × FirstRow q (Crowds q) function)
    names_queue_full function = (
      λ e. let a = answers q room cells (Err (Fault.QueueFull function)) tt e in (a.0, by (Err (Fault.QueueFull function)) a.1 refl a.0),
      λ s. first_answer q room cells s.0 s.1.row (place_in ids function s.1.row s.1.named) s.1.earlier (Err (Fault.QueueFull function))
          (λ after. rw (ap used_of ((row_crowds s.1.row).1 s.1.holds)) (ap (λ (n : ℕ). Err (Fault.QueueFull n)) (place_has ids function s.1.row s.1.named))),
    )
      where
        by : (v : Verdict) → Answers q v → v ≡ Err (Fault.QueueFull function) → pool_input q room cells ≡ Ok tt → FirstRow q (Crowds q) function
        by _ (visits w) e t = absurd (never (visited q) e)
          where
            never : (v : Visited) → on_visited ids (λ f. peak_of (walk_at q f)) q.pool v ≡ Err (Fault.QueueFull function) → ⊥
            never (Ok n) e = cc
            never (Err (Overrun.Cycle f)) e = cc
            never (Err (Overrun.Over f n)) e = cc
        by _ (strays row h on w) e t = cc
        by _ (crowds row h on w) e t =
            let z : get_or ids row 0 ≡ function = cc in
            record { row = row; named = rw (← z) (named t row h); earlier = on; holds = (row_crowds row).0 w }

    pub names_cycle : (function : ℕ) → pool_answer q room cells ≡ Err (Fault.RecursiveCallGraph function) → Recurs q function
    names_cycle function e =
        let a = answers q room cells (Err (Fault.RecursiveCallGraph function)) tt e in
        by (Err (Fault.RecursiveCallGraph function)) a.1 refl a.0
      where
        by : (v : Verdict) → Answers q v → v ≡ Err (Fault.RecursiveCallGraph function) → pool_input q room cells ≡ Ok tt → Recurs q function
        by _ (visits w) e t = cycle (visited q) refl e
          where
            cycle : (v : Visited) → visited q ≡ v → on_visited ids (λ f. peak_of (walk_at q f)) q.pool v ≡ Err (Fault.RecursiveCallGraph function) → Recurs q function
            cycle (Ok n) g e = cc
            cycle (Err (Overrun.Cycle row)) g e =
                let c = visiting.names_cycle (call_graph q) q.pool (entries_of ids q.entries) row g in
                let i = among_entered ids q.entries c.0 c.1 c.2 in
                let z : get_or ids row 0 ≡ function = cc in
                record {
                  walks = w;
                  row = row;
                  named = rw (← z) (named t row (reached_inside q row (c.0, i, c.3)));
                  reached = (c.0, i, c.3);
                  caller = c.4.0;
                  onward = c.4.1;
                  back = c.4.2;
                }
            cycle (Err (Overrun.Over f n)) g e = cc
        by _ (strays row h on w) e t = cc
        by _ (crowds row h on w) e t = cc

    pub names_overrun : q.pool ≤ 65535 → (function offset depth declared : ℕ)
        → pool_answer q room cells ≡ Err (Fault.ExceedsDeclaredPool function offset depth declared) → Overruns q function offset depth declared
    names_overrun small function offset depth declared e =
        let a = answers q room cells (Err (Fault.ExceedsDeclaredPool function offset depth declared)) tt e in
        by (Err (Fault.ExceedsDeclaredPool function offset depth declared)) a.1 refl a.0
      where
        by : (v : Verdict) → Answers q v → v ≡ Err (Fault.ExceedsDeclaredPool function offset depth declared) → pool_input q room cells ≡ Ok tt
            → Overruns q function offset depth declared
        by _ (visits w) e t = over (visited q) refl e
          where
            over : (v : Visited) → visited q ≡ v
                → on_visited ids (λ f. peak_of (walk_at q f)) q.pool v ≡ Err (Fault.ExceedsDeclaredPool function offset depth declared)
                → Overruns q function offset depth declared
            over (Ok n) g e = cc
            over (Err (Overrun.Cycle f)) g e = cc
            over (Err (Overrun.Over row n)) g e =
                let c = visiting.names_overrun (call_graph q) q.pool (entries_of ids q.entries) (pool_below q room cells small t) row n g in
                let i = among_entered ids q.entries c.0 c.1 c.2 in
                let z : get_or ids row 0 ≡ function = cc in
                let d : n ≡ depth = cc in
                record {
                  walks = w;
                  row = row;
                  named = rw (← z) (named t row (reached_inside q row (c.0, i, c.3)));
                  reached = (c.0, i, c.3);
                  peak = cc;
                  pool = cc;
                  total = c.4.0;
                  heaviest = c.4.1;
                  reported = sym d ∙ c.4.2;
                  passes = omega (arith, c.5);
                }
        by _ (strays row h on w) e t = cc
        by _ (crowds row h on w) e t = cc
