-- The whole call: what the code reads out of its tables and columns on an input that is taken is 01's, the visit over the filled cells is the visit of
-- the definition's graph, and what the answer leaves of the scratch.
-- Assumes nothing.
use Rattle.std.specs.Prelude.{Ok, Err, Result}
use Prim.Native.Nat.{ℕ, zero, suc, ◌+◌, ◌*◌, ◌≤◌, ◌<◌}
use native.Mathlib.Omega.{arith}
use native.Mathlib.Decide.{dec_lt}
use mathlib.Core.Path.{◌≡◌, refl, ◌∙◌, ap, ap₂, sym, fun_ext}
use mathlib.Core.Bool.{cond}
use mathlib.Core.List.{List, [], ◌∷◌}
use lib.Dec.{ltb}
use lib.ListN.{length, get_or, take, drop, get_or-eq_default}
use borrow.Author.Tests.{lt-ltb, le-ltb}
use Rattle.cells.specs.Zeros.{ZeroAfter}
use Rattle.tables.specs.declared.Move.{Move}
use Rattle.tables.specs.declared.TempEffect.{TempEffect}
use Rattle.tables.specs.Set.{size_of, move_of, temp_of}
use Rattle.tables.specs.Packed.{size_in, move_in, temp_in, size_table, word_table}
use Rattle.tables.specs.Stored.{size_stored, move_stored, temp_stored}
use Rattle.flow.proofs.Laws.{walk_end}
use Rattle.flow.specs.Walk.{end_of, marks_of, Decoded}
use Rattle.codes.specs.Lookup.{place_of, hinted_of}
use Rattle.program.specs.declared.Room.{Room}
use Rattle.program.specs.Program.{Program, PoolProgram, body_of, body_is}
use Rattle.program.specs.declared.Refusal.{Refusal}
use Rattle.program.specs.Refusals.{pool_input, Input}
use Rattle.program.specs.Seat.{seat_of}
use Rattle.program.specs.Laws.{seat_place}
use Rattle.program.specs.Taken.{StackTaken, PoolTaken}
use Rattle.program.proofs.Taken.{pool_taken}
use Rattle.buffers.specs.Tread.{Temps, Opens, treads, tread_of}
use Rattle.buffers.specs.declared.Way.{Way}
use Rattle.buffers.specs.declared.Tread.{Tread}
use Rattle.buffers.specs.declared.Unwalked.{Unwalked}
use Rattle.buffers.specs.Walk.{entry, follow, used, unused, Walked, walked, walk_from, begun, turns_of, walk_of, used_of, callees_of, Used}
use Rattle.buffers.proofs.Cases.{tread_end}
use Rattle.buffers.proofs.Queue.{follow_ends, walk_done, walk_goes, walk_begun, turns_are, used_other, noted_none, begun_first}
use Rattle.callees.specs.Callees.{temps_by, opens_by, temps_of, opens_of}
use Rattle.callees.specs.Laws.{temps_are, opens_are}
use Rattle.visit.specs.declared.Overrun.{Overrun}
use Rattle.visit.specs.Visit.{visit_of, Visited}
use Rattle.visit.specs.Cells.{callees_in, graph_in, row_at, entry_rows}
use Rattle.visit.proofs.Laws.{same_graph}
use Rattle.pool.specs.declared.Fault.{Fault}
use Rattle.pool.proofs.Directory.{Judged}
use Rattle.pool.specs.declared.bodies.Usages.{Usages}
use Rattle.pool.specs.Plain.{PlainGoesOn, plain_goes_on}
use Rattle.pool.specs.Pool.{on_decoded, body_walk, weight_of, peak_of, rows_in, graph_of, on_used, functions_from, on_visited, program_answer, entries_of, walk_at, on_input, taken_answer, pool_answer, scratch_after, Verdict}
use Rattle.pool.specs.Usages.{walks_by, Told, Recorded, IfWalked, Found, judged_of}

-- ---- the tables and the lookups
sizes_are : (sizes : List ℕ) → sizes ≡ size_table → size_in sizes ≡ size_of
sizes_are sizes e = ap size_in e ∙ (λ i op. size_stored op i)

moves_are : (words : List ℕ) → words ≡ word_table → move_in words ≡ move_of
moves_are words e = ap move_in e ∙ (λ i op. move_stored op i)

temps_stored : (words : List ℕ) → words ≡ word_table → temp_in words ≡ temp_of
temps_stored words e = ap temp_in e ∙ (λ i op. temp_stored op i)

pub words_go_on : (words : List ℕ) → words ≡ word_table → PlainGoesOn words
words_go_on words e = rw e plain_goes_on

module _ (q : PoolProgram) (room : Room) (t : StackTaken q.program room) (sizes words hints : List ℕ) (es : sizes ≡ size_table) (ew : words ≡ word_table) where
  abbrev p : Program
  p = q.program

  abbrev code_temps : Temps
  code_temps = temps_by (move_in words) (temp_in words) (hinted_of hints p.list.ids) p.list.flags

  abbrev code_opens : Opens
  code_opens = opens_by (move_in words) (seat_of p.functions.ids) q.descriptors.types q.descriptors.callees

  temps_same : code_temps ≡ temps_of q
  temps_same =
      ap₂ (λ (m : ℕ → Move) (e : ℕ → TempEffect). temps_by m e (hinted_of hints p.list.ids) p.list.flags) (moves_are words ew) (temps_stored words ew)
      ∙ temps_are p room t hints move_of temp_of

  opens_same : code_opens ≡ opens_of q
  opens_same =
      ap (λ (m : ℕ → Move). opens_by m (seat_of p.functions.ids) q.descriptors.types q.descriptors.callees) (moves_are words ew)
      ∙ opens_are p room t move_of q.descriptors.types q.descriptors.callees

  pub walks_are : walks_by (body_walk (size_in sizes) code_temps code_opens q.pool) p.functions.offsets p.functions.lengths p.code ≡ walk_at q
  unfolding walks_by
  walks_are =
      λ i row. body_walk (sizes_are sizes es i) (temps_same i) (opens_same i) q.pool (sym (body_is p row) i)

-- ---- a row past the directory is an empty body
module _ (sizes : ℕ → ℕ) (temps : Temps) (opens : Opens) (pool : ℕ) where
  abbrev rule : ℕ → ℕ → Tread
  rule = tread_of temps opens (marks_of sizes []) [] pool

  empty_tread : rule 0 0 ≡ treads 0 0 Way.Ends
  empty_tread = sym (tread_end temps opens (marks_of sizes []) [] pool 0 0 (omega arith))

  empty_used : used 0 (rule 0 0) unused ≡ unused
  empty_used =
      ap (λ (t : Tread). used 0 t unused) empty_tread
      ∙ used_other 0 (treads 0 0 Way.Ends) unused (omega arith)
      ∙ ap (λ (cells : List ℕ). record { weight = 0; peak = 0; callees = cells }) (noted_none 0 [] refl)

  empty_walk : (room turns : ℕ) → walk_from rule room (suc (suc turns)) (begun 1) (entry 0 0 ∷ []) unused ≡ walked (begun 1) unused
  empty_walk room turns =
      let b = begun_first 1 (omega arith) in
      walk_goes rule room (suc turns) (begun 1) 0 0 [] unused (omega arith) (begun 1) [] (ap (λ (t : Tread). follow room (begun 1) [] t.sum t.way) empty_tread ∙ follow_ends room (begun 1) [] 0)
      ∙ ap (walk_from rule room (suc turns) (begun 1) []) empty_used
      ∙ walk_done rule room turns (begun 1) unused

  empty_whole : (room : ℕ) → walk_of rule room pool 1 ≡ walked (begun 1) unused
  empty_whole room =
      let n : turns_of 1 pool ≡ suc (suc (2 * (1 * (pool + 1)))) = turns_are 1 pool ∙ omega arith in
      sym (walk_begun rule room pool 1) ∙ ap (λ (k : ℕ). walk_from rule room k (begun 1) (entry 0 0 ∷ []) unused) n ∙ empty_walk room (2 * (1 * (pool + 1)))

  empty_body : body_walk sizes temps opens pool [] ≡ walked (begun 1) unused
  unfolding body_walk
  empty_body =
      ap (λ (d : Decoded). on_decoded d (walk_of rule 2 pool 1)) (ap end_of (walk_end sizes [] 0 (omega arith))) ∙ empty_whole 2

-- the peak offset of a row past the directory is 0
pub past_peak : (q : PoolProgram) (f : ℕ) → length q.program.functions.lengths ≤ f → peak_of (walk_at q f) ≡ 0
past_peak q f h =
    let l : get_or q.program.functions.lengths f 0 ≡ 0 = get_or-eq_default q.program.functions.lengths 0 {n = f} h in
    let b : body_of q.program f ≡ [] = body_is q.program f ∙ ap (λ (n : ℕ). take n (drop (get_or q.program.functions.offsets f 0) q.program.code)) l in
    ap (λ (body : List ℕ). peak_of (body_walk size_of (temps_of q) (opens_of q) q.pool body)) b ∙ ap peak_of (empty_body size_of (temps_of q) (opens_of q) q.pool)

-- ---- the entries
pub entries_are : (ids entries : List ℕ) → ((id : ℕ) → seat_of ids id ≡ place_of ids id) → entry_rows ids entries ≡ entries_of ids entries
unfolding entry_rows entries_of
entries_are ids [] same = refl
entries_are ids (e ∷ entries) same = ap₂ (λ (x : ℕ) (l : List ℕ). x ∷ l) (ap row_at (same e)) (entries_are ids entries same)

-- ---- the visit over the cells is the visit of the definition's graph
module _ (walk : ℕ → Walked) (n : ℕ) (cells weights peaks : List ℕ) (k : Recorded walk n cells weights peaks) where
  calls_same : (f : ℕ) → f < 128 → callees_in cells f ≡ (graph_of walk n).calls f
  calls_same f h = by (dec_lt f n)
    where
      by : Dec (f < n) → callees_in cells f ≡ cond (ltb f n) (rows_in (callees_of (walk f))) []
      by (yes l) = rw (lt-ltb f n l) (k.calls f l)
      by (no l) = rw (le-ltb f n (omega arith)) (k.blank_calls f (omega arith) h)

  weight_same : (f : ℕ) → f < 128 → get_or weights f 0 ≡ (graph_of walk n).weight f
  weight_same f h = by (dec_lt f n)
    where
      by : Dec (f < n) → get_or weights f 0 ≡ cond (ltb f n) (weight_of (walk f)) 0
      by (yes l) = rw (lt-ltb f n l) (k.weighs f l)
      by (no l) = rw (le-ltb f n (omega arith)) (k.blank_weights f (omega arith))

  peaks_same : ((f : ℕ) → n ≤ f → peak_of (walk f) ≡ 0) → ◌≡◌ {A = ℕ → ℕ} (λ f. get_or peaks f 0) (λ f. peak_of (walk f))
  peaks_same past = fun_ext (λ f. by f (dec_lt f n))
    where
      by : (f : ℕ) → Dec (f < n) → get_or peaks f 0 ≡ peak_of (walk f)
      by f (yes l) = k.peak_at f l
      by f (no l) = k.blank_peaks f (omega arith) ∙ sym (past f (omega arith))

  pub visits_same : (ids : List ℕ) (pool : ℕ) (rows : List ℕ) → ((f : ℕ) → n ≤ f → peak_of (walk f) ≡ 0)
      → on_visited ids (λ f. get_or peaks f 0) pool (visit_of (graph_in cells weights) pool rows) ≡ on_visited ids (λ f. peak_of (walk f)) pool (visit_of (graph_of walk n) pool rows)
  visits_same ids pool rows past =
      ap₂ (λ (peaks : ℕ → ℕ) (v : Visited). on_visited ids peaks pool v) (peaks_same past) (same_graph (graph_in cells weights) (graph_of walk n) pool calls_same weight_same rows)

-- ---- what the bodies and the visit come to is the program's answer
judged_by : (usages : Result Usages Fault) (walk : ℕ → Walked) (ids cells : List ℕ) (pool : ℕ) (rows : List ℕ) → Told usages walk ids → IfWalked usages (λ u. Recorded walk (length ids) cells u.weights u.peaks)
    → ((f : ℕ) → length ids ≤ f → peak_of (walk f) ≡ 0)
    → judged_of usages (λ u. on_visited ids (λ f. get_or u.peaks f 0) pool (visit_of (graph_in cells u.weights) pool rows)) ≡ program_answer walk ids pool rows
unfolding Told IfWalked judged_of program_answer
judged_by (Ok u) walk ids cells pool rows told k past = visits_same walk (length ids) cells u.weights u.peaks k ids pool rows past ∙ sym (told (on_visited ids (λ f. peak_of (walk f)) pool (visit_of (graph_of walk (length ids)) pool rows)))
judged_by (Err fault) walk ids cells pool rows told k past = sym (told (on_visited ids (λ f. peak_of (walk f)) pool (visit_of (graph_of walk (length ids)) pool rows)))

module _ (q : PoolProgram) (room : Room) (t : StackTaken q.program room) (sizes words hints cells : List ℕ) (usages : Result Usages Fault) (es : sizes ≡ size_table) (ew : words ≡ word_table) where
  abbrev ids : List ℕ
  ids = q.program.functions.ids

  abbrev code_walk : ℕ → Walked
  code_walk =
      walks_by (body_walk (size_in sizes) (temps_by (move_in words) (temp_in words) (hinted_of hints q.program.list.ids) q.program.list.flags) (opens_by (move_in words) (seat_of ids) q.descriptors.types q.descriptors.callees) q.pool)
      q.program.functions.offsets q.program.functions.lengths q.program.code

  pub answer_is : Found usages cells code_walk ids → (verdict : Verdict)
      → verdict ≡ judged_of usages (λ u. on_visited ids (λ f. get_or u.peaks f 0) q.pool (visit_of (graph_in cells u.weights) q.pool (entry_rows ids q.entries)))
      → verdict ≡ taken_answer q
  answer_is f verdict e =
      let w = walks_are q room t sizes words hints es ew in
      let g : Found usages cells (walk_at q) ids = rw w at f in
      let r = entries_are ids q.entries (λ id. seat_place ids id t.ids_distinct) in
      e
      ∙ ap (λ (rows : List ℕ). judged_of usages (λ u. on_visited ids (λ f. get_or u.peaks f 0) q.pool (visit_of (graph_in cells u.weights) q.pool rows))) r
      ∙ judged_by usages (walk_at q) ids cells q.pool (entries_of ids q.entries) g.told g.recorded
      (λ k h. past_peak q k (omega (arith, t.lengths_length)))

-- ---- an input that is refused, and one that is taken
module _ (q : PoolProgram) (room : Room) (k : ℕ) where
  pub call_refused : (refusal : Refusal) → Err refusal ≡ pool_input q room k → Err (Fault.Refused refusal) ≡ pool_answer q room k
  unfolding pool_answer
  call_refused refusal e = ap (λ (i : Input). on_input i (taken_answer q)) e

  module _ (is : Ok tt ≡ pool_input q room k) where
    pub call_taken : PoolTaken q room k
    call_taken = pool_taken q room k (sym is)

    pub call_answers : (v : Verdict) → v ≡ taken_answer q → v ≡ pool_answer q room k
    unfolding pool_answer
    call_answers v a = a ∙ ap (λ (i : Input). on_input i (taken_answer q)) is

-- the program's answer is no refusal
visited_judged : (ids : List ℕ) (peaks : ℕ → ℕ) (pool : ℕ) (v : Visited) → Judged (on_visited ids peaks pool v)
visited_judged ids peaks pool (Ok t) = tt
visited_judged ids peaks pool (Err (Overrun.Cycle f)) = tt
visited_judged ids peaks pool (Err (Overrun.Over f t)) = tt

used_judged : (function : ℕ) (u : Used) (rest : Verdict) → Judged rest → Judged (on_used function u rest)
used_judged function (Ok _) rest j = j
used_judged function (Err Unwalked.Undecodable) rest j = tt
used_judged function (Err Unwalked.QueueFull) rest j = tt

from_judged : (walk : ℕ → Walked) (ids : List ℕ) (rest : Verdict) (left row : ℕ) → Judged rest → Judged (functions_from walk ids rest left row)
from_judged walk ids rest zero row j = j
from_judged walk ids rest (suc left) row j = used_judged (get_or ids row 0) (used_of (walk row)) (functions_from walk ids rest left (suc row)) (from_judged walk ids rest left (suc row) j)

answer_judged : (walk : ℕ → Walked) (ids : List ℕ) (pool : ℕ) (rows : List ℕ) → Judged (program_answer walk ids pool rows)
unfolding program_answer
answer_judged walk ids pool rows =
    from_judged walk ids (on_visited ids (λ f. peak_of (walk f)) pool (visit_of (graph_of walk (length ids)) pool rows)) (length ids) 0 (visited_judged ids (λ f. peak_of (walk f)) pool (visit_of (graph_of walk (length ids)) pool rows))

zero_by : (v : Verdict) (first last : List ℕ) → Judged v → ZeroAfter first last → last ≡ scratch_after v first
unfolding scratch_after
zero_by (Err (Fault.Refused refusal)) first last j z = absurd j
zero_by (Ok _) first last j z = z
zero_by (Err (Fault.ExceedsDeclaredPool function offset depth declared)) first last j z = z
zero_by (Err (Fault.RecursiveCallGraph function)) first last j z = z
zero_by (Err (Fault.Undecodable function)) first last j z = z
zero_by (Err (Fault.QueueFull function)) first last j z = z

pub scratch_zero : (q : PoolProgram) (v : Verdict) (first last : List ℕ) → v ≡ taken_answer q → ZeroAfter first last → last ≡ scratch_after v first
scratch_zero q v first last e z =
    zero_by v first last (rw e (answer_judged (walk_at q) q.program.functions.ids q.pool (entries_of q.program.functions.ids q.entries))) z

pub scratch_kept : (refusal : Refusal) (column : List ℕ) → column ≡ scratch_after (Err (Fault.Refused refusal)) column
unfolding scratch_after
scratch_kept refusal column = refl
