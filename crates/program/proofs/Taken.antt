-- The order of the refusals, and that the calls take exactly the inputs of specs/Taken.antt.
-- Assumes nothing.
use Rattle.codes.specs.First.{Place}
use Rattle.std.specs.Prelude.{ℕ, ◌+◌, ◌*◌, refl, Bool, true, cond, ◌||◌, [], ◌∷◌, eqb, Ok, Err, Some, None}
use native.Mathlib.Omega.{arith}
use Rattle.std.proofs.Math.Path.{◌≡◌}
use Rattle.std.proofs.Common.{◌∙◌}
use Rattle.std.proofs.Math.Bool.{false}
use Rattle.std.proofs.Math.Dec.{ltb}
use Rattle.std.proofs.Math.ListN.{length}
use borrow.Author.Tests.{ltb-false, le-ltb, eqb-false, eq-eqb, ne_eqb}
use Rattle.codes.specs.Rows.{rows_of, Order}
use Rattle.codes.specs.Laws.{or_false}
use Rattle.program.specs.Program.{Functions, CodeList, Program, PoolProgram}
use Rattle.program.specs.Refusals.{table_refused, functions_refused, list_refused, too_many, lengths_of, pool_too_many, scratch_short, repeated_of, outside_of, on_list, on_repeated, on_outside, directory_of, contents_of, on_pool, input_of, stack_input, pool_input, Input}
use Rattle.program.specs.Laws.{table_means}
use Rattle.program.proofs.Laws.{inside_means, inside_if}
use Rattle.program.specs.Taken.{StackTaken, PoolTaken}
use Rattle.program.specs.declared.Room.{Room}
use Rattle.program.specs.declared.Refusal.TheVariants.{TooMany, ScratchShort, PoolTooLarge}

-- the order of the refusals
module _ (p : Program) (room : Room) (many short : Bool) (rest : Input) where
  pub input_count : too_many (lengths_of p) ≡ true → input_of p room many short rest ≡ Err TooMany
  unfolding input_of
  input_count e = rw e

  pub input_many : too_many (lengths_of p) ≡ false → many ≡ true → input_of p room many short rest ≡ Err TooMany
  unfolding input_of
  input_many e m = rw (e, m)

  pub input_room : too_many (lengths_of p) ≡ false → many ≡ false → scratch_short (length p.code) room ≡ true
      → input_of p room many short rest ≡ Err ScratchShort
  unfolding input_of
  input_room e m s = rw (e, m, s)

  pub input_short : too_many (lengths_of p) ≡ false → many ≡ false → scratch_short (length p.code) room ≡ false → short ≡ true
      → input_of p room many short rest ≡ Err ScratchShort
  unfolding input_of
  input_short e m s t = rw (e, m, s, t)

  pub input_rest : too_many (lengths_of p) ≡ false → many ≡ false → scratch_short (length p.code) room ≡ false → short ≡ false
      → input_of p room many short rest ≡ contents_of p.list p.functions (length p.code) rest
  unfolding input_of
  input_rest e m s t = rw (e, m, s, t)

-- a refusal that was passed over
past : (b : Bool) (refusal rest : Input) → (refusal ≡ Ok tt → ⊥) → cond b refusal rest ≡ Ok tt → (b ≡ false) × (rest ≡ Ok tt)
past true refusal rest n e = absurd (n e)
past false refusal rest n e = (refl, e)

not_many : ◌≡◌ {A = Input} (Err TooMany) (Ok tt) → ⊥
not_many e = let z : ◌≡◌ {A = ℕ} 0 1 = cc in omega arith

not_short : ◌≡◌ {A = Input} (Err ScratchShort) (Ok tt) → ⊥
not_short e = let z : ◌≡◌ {A = ℕ} 0 1 = cc in omega arith

past_list : (o : Order) (rest : Input) → on_list o rest ≡ Ok tt → (o ≡ Ok tt) × (rest ≡ Ok tt)
past_list (Err k) rest e = absurd (let z : ◌≡◌ {A = ℕ} 0 1 = cc in omega arith)
past_list (Ok _) rest e = (refl, e)

past_repeated : (o : Place) (rest : Input) → on_repeated o rest ≡ Ok tt → (o ≡ None) × (rest ≡ Ok tt)
past_repeated (Some k) rest e = absurd (let z : ◌≡◌ {A = ℕ} 0 1 = cc in omega arith)
past_repeated None rest e = (refl, e)

past_outside : (o : Place) (rest : Input) → on_outside o rest ≡ Ok tt → (o ≡ None) × (rest ≡ Ok tt)
past_outside (Some k) rest e = absurd (let z : ◌≡◌ {A = ℕ} 0 1 = cc in omega arith)
past_outside None rest e = (refl, e)

-- what is left after 34, 32 and 33
record Contents (list : CodeList) (f : Functions) (code : ℕ) (rest : Input) : Type 0 where
  rises : rows_of list.ids list.flags ≡ Ok tt
  single : repeated_of f.ids ≡ None
  within : outside_of f.offsets f.lengths code ≡ None
  left : rest ≡ Ok tt

contents_past : (list : CodeList) (f : Functions) (code : ℕ) (rest : Input) → contents_of list f code rest ≡ Ok tt → Contents list f code rest
unfolding contents_of directory_of
contents_past list f code rest e =
    let a = past_list (rows_of list.ids list.flags) (directory_of f.ids f.offsets f.lengths code rest) e in
    let b = past_repeated (repeated_of f.ids) (on_outside (outside_of f.offsets f.lengths code) rest) a.1 in
    let d = past_outside (outside_of f.offsets f.lengths code) rest b.1 in
    record { rises = a.0; single = b.0; within = d.0; left = d.1 }

contents_taken : (list : CodeList) (f : Functions) (code : ℕ) (rest : Input) → Contents list f code rest → contents_of list f code rest ≡ Ok tt
unfolding contents_of directory_of
contents_taken list f code rest k = rw (k.rises, k.single, k.within) k.left

-- every test of an input, passed
record Parts (p : Program) (room : Room) (many short : Bool) (rest : Input) : Type 0 where
  few : too_many (lengths_of p) ≡ false
  few_more : many ≡ false
  roomy : scratch_short (length p.code) room ≡ false
  roomy_more : short ≡ false
  sound : Contents p.list p.functions (length p.code) rest

module _ (p : Program) (room : Room) (many short : Bool) (rest : Input) where
  input_parts : input_of p room many short rest ≡ Ok tt → Parts p room many short rest
  unfolding input_of
  input_parts e =
      let a = past (too_many (lengths_of p) || many) (Err TooMany) _ not_many e in
      let b = past (scratch_short (length p.code) room || short) (Err ScratchShort) _ not_short a.1 in
      let d = or_false (too_many (lengths_of p)) many a.0 in
      let f = or_false (scratch_short (length p.code) room) short b.0 in
      record { few = d.0; few_more = d.1; roomy = f.0; roomy_more = f.1; sound = contents_past _ _ _ _ b.1 }

  parts_input : Parts p room many short rest → input_of p room many short rest ≡ Ok tt
  parts_input k = input_rest p room many short rest k.few k.few_more k.roomy k.roomy_more ∙ contents_taken _ _ _ _ k.sound

  parts_taken : Parts p room many short rest → StackTaken p room
  unfolding too_many scratch_short
  parts_taken k =
      let n = lengths_of p in
      let l = length p.code in
      let a = or_false (functions_refused n || list_refused n) (ltb 12288 n.code) k.few in
      let b = or_false (functions_refused n) (list_refused n) a.0 in
      let f = table_means 128 n.ids (n.parameters ∷ n.maxima ∷ n.offsets ∷ n.lengths ∷ []) b.0 in
      let g = table_means 6144 n.list_ids (n.counts ∷ n.flags ∷ []) b.1 in
      let d = or_false (ltb room.marks l || ltb room.depths (l + 1) || ltb room.queue (2 * l + 2)) (ltb room.queue_depths (2 * l + 2)) k.roomy in
      let h = or_false (ltb room.marks l || ltb room.depths (l + 1)) (ltb room.queue (2 * l + 2)) d.0 in
      let i = or_false (ltb room.marks l) (ltb room.depths (l + 1)) h.0 in
      let o = f.1 2 (omega arith) in
      record {
        functions_limit = f.0;
        parameters_length = f.1 0 (omega arith);
        maxima_length = f.1 1 (omega arith);
        offsets_length = o;
        lengths_length = f.1 3 (omega arith);
        list_limit = g.0;
        counts_length = g.1 0 (omega arith);
        flags_length = g.1 1 (omega arith);
        code_length = ltb-false 12288 n.code a.1;
        marks_room = ltb-false room.marks l i.0;
        depths_room = ltb-false room.depths (l + 1) i.1;
        queue_room = ltb-false room.queue (2 * l + 2) h.1;
        queue_depths_room = ltb-false room.queue_depths (2 * l + 2) d.1;
        list_rises = k.sound.rises;
        ids_distinct = k.sound.single;
        bodies_inside = λ j w. inside_means p.functions.offsets p.functions.lengths l k.sound.within j (omega (arith, o));
      }

module _ (p : Program) (room : Room) where
  pub stack_taken : stack_input p room ≡ Ok tt → StackTaken p room
  unfolding stack_input
  stack_taken e = parts_taken p room false false (Ok tt) (input_parts p room false false (Ok tt) e)

  taken_parts : StackTaken p room → Parts p room false false (Ok tt)
  unfolding too_many table_refused scratch_short
  taken_parts t =
      let n = lengths_of p in
      let l = length p.code in
      record {
        few =
            rw (
              le-ltb 128 n.ids t.functions_limit,
              eq-eqb n.parameters n.ids t.parameters_length,
              eq-eqb n.maxima n.ids t.maxima_length,
              eq-eqb n.offsets n.ids t.offsets_length,
              eq-eqb n.lengths n.ids t.lengths_length,
              le-ltb 6144 n.list_ids t.list_limit,
              eq-eqb n.counts n.list_ids t.counts_length,
              eq-eqb n.flags n.list_ids t.flags_length,
              le-ltb 12288 n.code t.code_length,
            );
        few_more = refl;
        roomy_more = refl;
        roomy =
            rw (
              le-ltb room.marks l t.marks_room,
              le-ltb room.depths (l + 1) t.depths_room,
              le-ltb room.queue (2 * l + 2) t.queue_room,
              le-ltb room.queue_depths (2 * l + 2) t.queue_depths_room,
            );
        sound =
            record {
              rises = t.list_rises;
              single = t.ids_distinct;
              within = inside_if p.functions.offsets p.functions.lengths l (λ k h. t.bodies_inside k (omega (arith, t.offsets_length)));
              left = refl;
            };
      }

  -- the stack call takes exactly such an input
  pub taken_stack : StackTaken p room → stack_input p room ≡ Ok tt
  unfolding stack_input
  taken_stack t = parts_input p room false false (Ok tt) (taken_parts t)

-- by how many descriptors and entries the pool call is refused
abbrev pool_many : PoolProgram → Bool
pool_many q = pool_too_many (length q.descriptors.types) (length q.descriptors.callees) (length q.entries)

module _ (q : PoolProgram) (room : Room) (cells : ℕ) where
  pool_parts : pool_input q room cells ≡ Ok tt → Parts q.program room (pool_many q) (ltb cells 16384) (on_pool q.pool)
  unfolding pool_input
  pool_parts e = input_parts q.program room (pool_many q) (ltb cells 16384) (on_pool q.pool) e

  pool_small : (n : ℕ) → on_pool n ≡ Ok tt → n ≡ 65535 → ⊥
  unfolding on_pool
  pool_small n e = eqb-false n 65535 (past (eqb n 65535) (Err PoolTooLarge) (Ok tt) not_large e).0
    where
      not_large : ◌≡◌ {A = Input} (Err PoolTooLarge) (Ok tt) → ⊥
      not_large w = let z : ◌≡◌ {A = ℕ} 0 1 = cc in omega arith

  pub pool_taken : pool_input q room cells ≡ Ok tt → PoolTaken q room cells
  unfolding pool_too_many
  pool_taken e =
      let k = pool_parts e in
      let types = length q.descriptors.types in
      let callees = length q.descriptors.callees in
      let a = or_false (table_refused 256 types (callees ∷ [])) (ltb 32 (length q.entries)) k.few_more in
      let d = table_means 256 types (callees ∷ []) a.0 in
      record {
        stack = parts_taken q.program room (pool_many q) (ltb cells 16384) (on_pool q.pool) k;
        descriptors_limit = d.0;
        callees_length = d.1 0 (omega arith);
        entries_limit = ltb-false 32 (length q.entries) a.1;
        cells_room = ltb-false cells 16384 k.roomy_more;
        pool_limit = pool_small q.pool k.sound.left;
      }

  -- the pool call takes exactly such an input
  pub taken_pool : PoolTaken q room cells → pool_input q room cells ≡ Ok tt
  unfolding pool_input pool_too_many table_refused on_pool
  taken_pool t =
      let k = taken_parts q.program room t.stack in
      parts_input q.program room (pool_many q) (ltb cells 16384) (on_pool q.pool)
      (record {
        few = k.few;
        few_more =
            rw (
              le-ltb 256 (length q.descriptors.types) t.descriptors_limit,
              eq-eqb (length q.descriptors.callees) (length q.descriptors.types) t.callees_length,
              le-ltb 32 (length q.entries) t.entries_limit,
            );
        roomy = k.roomy;
        roomy_more = le-ltb cells 16384 t.cells_room;
        sound =
            record {
              rises = k.sound.rises;
              single = k.sound.single;
              within = k.sound.within;
              left = rw (ne_eqb q.pool 65535 t.pool_limit);
            };
      })

  -- what the pool call takes, the stack call takes
  pub pool_stack : pool_input q room cells ≡ Ok tt → stack_input q.program room ≡ Ok tt
  pool_stack e = taken_stack q.program room (pool_taken e).stack
