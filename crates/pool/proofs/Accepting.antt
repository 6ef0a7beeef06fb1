-- The pool call accepts exactly if the input is not refused, every walk comes to its end, and from no entry that is in the directory does a chain of
-- calls repeat a function or weigh more than the pool. The directory row by row (Directory.antt), each body by its walk's own theorems (Ending.antt),
-- and the chains by the visit's theorem, whose entries are exactly the rows of the entries that are in the directory.
-- Assumes nothing. The pool is a u16, so at most 65,535, of which the definition over any numbers knows nothing: it is said as a hypothesis.
use Rattle.std.specs.Prelude.{Ok, Some, Err}
use Prim.Native.Nat.{ℕ, ◌≤◌, ◌<◌}
use native.Mathlib.Omega.{arith}
use mathlib.Core.Path.{◌≡◌, refl, sym, subst, ap, ◌∙◌}
use mathlib.Core.Logic.{◌↔◌, inl, inr, ⊎_elim}
use mathlib.Core.List.{List, [], ◌∷◌}
use lib.ListN.{length, get_or}
use Rattle.tables.specs.Set.{size_of}
use Rattle.codes.specs.Lookup.{place_of}
use Rattle.codes.specs.LookupLaws.{place_in}
use Rattle.program.specs.declared.Room.{Room}
use Rattle.program.specs.Program.{PoolProgram, body_of}
use Rattle.program.specs.Refusals.{pool_input, Input}
use Rattle.program.proofs.Taken.{pool_taken}
use Rattle.buffers.specs.Walk.{undecodable, crowded, used_of}
use Rattle.callees.specs.Callees.{temps_of, opens_of}
use Rattle.visit.specs.declared.Overrun.{Overrun}
use Rattle.visit.specs.Graph.{Among}
use Rattle.visit.specs.Visit.{visit_of, Visited}
use Rattle.visit.specs.Cells.{row_at}
use Rattle.visit.proofs.Laws.{row_known, known_row}
use Rattle.visit.proofs.Theorems.{accepted}
use Rattle.pool.specs.declared.Fault.{Fault}
use Rattle.pool.specs.Pool.{peak_of, on_used, on_visited, program_answer, entries_of, walk_at, on_input, taken_answer, pool_answer, Verdict}
use Rattle.pool.specs.Accepts.{function_count, WalkEnds, call_graph, Entered, PoolSound}
use Rattle.pool.proofs.Ending.{body_walked, body_finished, used_walked, used_crowded, used_undecodable}
use Rattle.pool.proofs.Directory.{Judged, Ended, From, all, stray, full, from, all_ended, up_to}

-- ---- the input
taken_by : (input : Input) (rest v : Verdict) → Judged v → on_input input rest ≡ v → (input ≡ Ok tt) × (rest ≡ v)
taken_by (Ok _) rest v j e = (refl, e)
taken_by (Err refusal) rest v j e = absurd (subst Judged (sym e) j)

pub pool_below : (q : PoolProgram) (room : Room) (cells : ℕ) → q.pool ≤ 65535 → pool_input q room cells ≡ Ok tt → q.pool < 65535
pool_below q room cells small e = by q.pool small (pool_taken q room cells e).pool_limit
  where
    by : (pool : ℕ) → pool ≤ 65535 → (pool ≡ 65535 → ⊥) → pool < 65535
    by pool l n = omega arith

-- ---- the entries
pub among_entered : (ids entries : List ℕ) (f : ℕ) → Among f (entries_of ids entries) → f < 128 → (e : ℕ) × Among e entries × (place_of ids e ≡ Some f)
unfolding entries_of
among_entered ids [] f i h = absurd i
among_entered ids (x ∷ entries) f i h =
    ⊎_elim (λ z. (x, inl refl, known_row (place_of ids x) f z h)) (λ j. let r = among_entered ids entries f j h in (r.0, inr r.1, r.2)) i

pub entered_among : (ids entries : List ℕ) (f e : ℕ) → Among e entries → place_of ids e ≡ Some f → Among f (entries_of ids entries)
unfolding entries_of
entered_among ids [] f e i p = i
entered_among ids (x ∷ entries) f e i p =
    ⊎_elim (λ z. inl (ap (λ (y : ℕ). row_at (place_of ids y)) z ∙ ap row_at p ∙ row_known f)) (λ j. inr (entered_among ids entries f e j p)) i

-- ---- the rows of a program
module _ (q : PoolProgram) where
  abbrev ids : List ℕ
  ids = q.program.functions.ids

  abbrev EndedAt : ℕ → Type 0
  EndedAt row = Ended (walk_at q) ids row

  ended_walks : (row : ℕ) → EndedAt row → WalkEnds q row
  ended_walks row a =
      let w = used_walked (walk_at q row) a.0 a.1 in
      let d = body_walked size_of (temps_of q) (opens_of q) q.pool (body_of q.program row) w.0 w.1 w.2 in
      record { decodes = d.0; numbers = w.0; found = w.1; ends = w.2 }

  walks_ended : (row : ℕ) → WalkEnds q row → EndedAt row
  walks_ended row w = (record { weight = w.found.weight; peak = w.found.peak }, ap used_of w.ends)

  -- the visit's answer
  abbrev pub visited : Visited
  visited = visit_of (call_graph q) q.pool (entries_of ids q.entries)

  abbrev pub visit_answer : Verdict
  visit_answer = on_visited ids (λ f. peak_of (walk_at q f)) q.pool visited

  -- the three answers of an input that is taken
  pub data Answers : Verdict → Type 0 where
    visits : ((row : ℕ) → row < function_count q → WalkEnds q row) → Answers visit_answer
    strays : (row : ℕ) → row < function_count q → ((j : ℕ) → j < row → WalkEnds q j) → walk_at q row ≡ undecodable → Answers (Err (Fault.Undecodable (get_or ids row 0)))
    crowds : (row : ℕ) → row < function_count q → ((j : ℕ) → j < row → WalkEnds q j) → walk_at q row ≡ crowded → Answers (Err (Fault.QueueFull (get_or ids row 0)))

  taken_answers : Answers (taken_answer q)
  unfolding program_answer
  taken_answers = by (taken_answer q) (from (walk_at q) ids visit_answer (length ids) 0)
    where
      by : (v : Verdict) → From (walk_at q) ids visit_answer (length ids) 0 v → Answers v
      by _ (all on) = visits (λ row h. ended_walks row (on row (omega arith) (omega arith)))
      by _ (stray k l h on e) =
          strays k (omega arith) (λ j i. ended_walks j (on j (omega arith) i))
          (used_undecodable (walk_at q k) (body_finished size_of (temps_of q) (opens_of q) q.pool (body_of q.program k)) e)
      by _ (full k l h on e) = crowds k (omega arith) (λ j i. ended_walks j (on j (omega arith) i)) (used_crowded (walk_at q k) e)

  -- where every walk ended, the answer is the visit's
  walks_visit : ((row : ℕ) → row < function_count q → WalkEnds q row) → taken_answer q ≡ visit_answer
  unfolding program_answer
  walks_visit w = all_ended (walk_at q) ids visit_answer (length ids) 0 (λ k l h. walks_ended k (w k (omega arith)))

  module _ (room : Room) (cells : ℕ) where
    -- an answer that is no refusal
    pub answers : (v : Verdict) → Judged v → pool_answer q room cells ≡ v → (pool_input q room cells ≡ Ok tt) × Answers v
    unfolding pool_answer
    answers v j e =
        let t = taken_by (pool_input q room cells) (taken_answer q) v j e in
        (t.0, subst Answers t.1 taken_answers)

    pub taken_visit : pool_input q room cells ≡ Ok tt → ((row : ℕ) → row < function_count q → WalkEnds q row) → pool_answer q room cells ≡ visit_answer
    unfolding pool_answer
    taken_visit t w = ap (λ (i : Input). on_input i (taken_answer q)) t ∙ walks_visit w

    -- up to a row whose walk did not end, the answer is what that row says
    pub first_answer : pool_input q room cells ≡ Ok tt → (row : ℕ) → row < function_count q → ((j : ℕ) → j < row → WalkEnds q j) → (v : Verdict)
        → ((after : Verdict) → on_used (get_or ids row 0) (used_of (walk_at q row)) after ≡ v) → pool_answer q room cells ≡ v
    unfolding pool_answer program_answer
    first_answer t row h on v e =
        ap (λ (i : Input). on_input i (taken_answer q)) t
        ∙ up_to (walk_at q) ids visit_answer (length ids) 0 row v (omega arith) (omega arith) (λ j l k. walks_ended j (on j k)) e

    -- an entry's row is below 128
    pub entered_known : pool_input q room cells ≡ Ok tt → (f : ℕ) → Entered q f → f < 128
    entered_known t f i = let l = place_in ids i.0 f i.2 in omega (arith, (pool_taken q room cells t).stack.functions_limit)

    module _ (small : q.pool ≤ 65535) where
      sound_by : (v : Verdict) → Answers v → v ≡ Ok tt → pool_input q room cells ≡ Ok tt → PoolSound q room cells
      sound_by _ (visits w) e t = record {
        taken = t;
        walks = w;
        chains = λ f i. (accepted (call_graph q) q.pool (entries_of ids q.entries) (pool_below q room cells small t)).0 (fine visited refl e) f
            (entered_among ids q.entries f i.0 i.1 i.2) (entered_known t f i);
      }
        where
          fine : (v : Visited) → visited ≡ v → on_visited ids (λ f. peak_of (walk_at q f)) q.pool v ≡ Ok tt → (t : ℕ) × (visited ≡ Ok t)
          fine (Ok n) g e = (n, g)
          fine (Err (Overrun.Cycle f)) g e = cc
          fine (Err (Overrun.Over f n)) g e = cc
      sound_by _ (strays row h on w) e t = cc
      sound_by _ (crowds row h on w) e t = cc

      pub pool_exact : (pool_answer q room cells ≡ Ok tt) ↔ PoolSound q room cells
      pool_exact = (sound, complete)
        where
          sound : pool_answer q room cells ≡ Ok tt → PoolSound q room cells
          sound e = let a = answers (Ok tt) tt e in sound_by (Ok tt) a.1 refl a.0

          complete : PoolSound q room cells → pool_answer q room cells ≡ Ok tt
          complete s =
              let tame = (accepted (call_graph q) q.pool (entries_of ids q.entries) (pool_below q room cells small s.taken)).1
              (λ f i h. s.chains f (among_entered ids q.entries f i h)) in
              taken_visit s.taken s.walks ∙ ap (on_visited ids (λ f. peak_of (walk_at q f)) q.pool) tame.1
