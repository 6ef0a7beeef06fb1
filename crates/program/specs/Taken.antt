-- What is known of an input that is taken: the calls take exactly such inputs, which is shown in proofs/Taken.antt.
-- Assumes nothing.
use Rattle.std.specs.Prelude.{ℕ, ◌+◌, ◌*◌, ◌≤◌, ◌<◌, refl, true, ◌||◌, get_or, drop, Ok, None, Err}
use native.Mathlib.Omega.{arith}
use Rattle.std.proofs.Math.Path.{◌≡◌}
use Rattle.std.proofs.Math.Bool.{false}
use Rattle.std.proofs.lemmas.Bool.{false≢true}
use Rattle.std.proofs.Math.Dec.{ltb}
use Rattle.std.proofs.Math.ListN.{length, length-drop}
use Rattle.std.proofs.Math.Seq.{length-take-le}
use borrow.Author.Tests.{ltb-false}
use Rattle.codes.specs.Rows.{rows_of}
use Rattle.codes.specs.Laws.{or_false}
use Rattle.program.specs.Program.{Program, PoolProgram, body_of, row_of}
use Rattle.program.specs.Refusals.{Lengths, is_taken, functions_refused, list_refused, too_many, repeated_of, Input}
use Rattle.program.specs.Laws.{seat_place}
use Rattle.program.specs.Seat.{seat_of}
use Rattle.program.specs.declared.Room.{Room}

-- code within its limit
pub code_limit : (n : Lengths) → too_many n ≡ false → n.code ≤ 12288
unfolding too_many
code_limit n e = ltb-false 12288 n.code (or_false (functions_refused n || list_refused n) (ltb 12288 n.code) e).1

-- an input that the stack call takes
pub record StackTaken (p : Program) (room : Room) : Type 0 where
  pub functions_limit : length p.functions.ids ≤ 128
  pub parameters_length : length p.functions.parameters ≡ length p.functions.ids
  pub maxima_length : length p.functions.maxima ≡ length p.functions.ids
  pub offsets_length : length p.functions.offsets ≡ length p.functions.ids
  pub lengths_length : length p.functions.lengths ≡ length p.functions.ids
  pub list_limit : length p.list.ids ≤ 6144
  pub counts_length : length p.list.counts ≡ length p.list.ids
  pub flags_length : length p.list.flags ≡ length p.list.ids
  pub code_length : length p.code ≤ 12288
  pub marks_room : length p.code ≤ room.marks
  pub depths_room : length p.code + 1 ≤ room.depths
  pub queue_room : 2 * length p.code + 2 ≤ room.queue
  pub queue_depths_room : 2 * length p.code + 2 ≤ room.queue_depths
  pub list_rises : rows_of p.list.ids p.list.flags ≡ Ok tt
  pub ids_distinct : repeated_of p.functions.ids ≡ None
  pub bodies_inside : (k : ℕ) → k < length p.functions.ids → get_or p.functions.offsets k 0 + get_or p.functions.lengths k 0 ≤ length p.code

-- an input that the pool call takes
pub record PoolTaken (q : PoolProgram) (room : Room) (cells : ℕ) : Type 0 where
  pub stack : StackTaken q.program room
  pub descriptors_limit : length q.descriptors.types ≤ 256
  pub callees_length : length q.descriptors.callees ≡ length q.descriptors.types
  pub entries_limit : length q.entries ≤ 32
  pub cells_room : 16384 ≤ cells
  pub pool_limit : q.pool ≡ 65535 → ⊥

module _ (p : Program) (room : Room) where
  -- a body is as long as its row says
  pub body_length : StackTaken p room → (k : ℕ) → k < length p.functions.ids → length (body_of p k) ≡ get_or p.functions.lengths k 0
  unfolding body_of
  body_length t k h =
      let i = t.bodies_inside k h in
      length-take-le (get_or p.functions.lengths k 0) (drop (get_or p.functions.offsets k 0) p.code)
      (omega (arith, length-drop (get_or p.functions.offsets k 0) p.code))

  -- the row that is found at a function's own number is its row
  pub taken_seat : StackTaken p room → (id : ℕ) → seat_of p.functions.ids id ≡ row_of p id
  unfolding row_of
  taken_seat t id = seat_place p.functions.ids id t.ids_distinct

-- where an input is no refusal, it is taken
pub taken_is : (input : Input) → is_taken input ≡ true → input ≡ Ok tt
taken_is (Ok _) e = refl
taken_is (Err refusal) e = absurd (false≢true e)
