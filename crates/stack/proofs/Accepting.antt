-- The stack call accepts exactly if the input is not refused, every body decodes to its end and in each one depth per reachable offset satisfies
-- every rule. Each body by the walk's own theorem, over any sizes and effects; the directory row by row.
-- Assumes nothing.
use Rattle.flow.specs.declared.Stop.{Stop}
use Rattle.std.specs.Prelude.{Ok, Err}
use Prim.Native.Nat.{ℕ, zero, suc, ◌+◌, ◌≤◌, ◌<◌}
use native.Mathlib.Omega.{arith}
use mathlib.Core.Path.{◌≡◌, refl, ◌∙◌, ap}
use mathlib.Core.Logic.{◌↔◌}
use mathlib.Core.List.{List, [], ◌∷◌}
use native.Mathlib.Decide.{ℕ_discrete}
use lib.ListN.{length, get_or}
use Rattle.tables.specs.Set.{size_of, move_of}
use Rattle.flow.specs.Walk.{walk_by, end_of, marks_of, Decoded}
use Rattle.flow.proofs.Next.{body_fits}
use Rattle.program.specs.declared.Room.{Room}
use Rattle.program.specs.Program.{Program, body_of}
use Rattle.program.specs.Refusals.{stack_input, Input}
use Rattle.rules.specs.Look.{Effects, look_of, Bounded}
use Rattle.rules.specs.Walk.{walk_of, walk_from, begun, Walked}
use Rattle.rules.specs.Assigned.{Satisfies}
use Rattle.rules.proofs.Bound.{look_bounded}
use Rattle.rules.proofs.Exact.{exact}
use Rattle.rules.proofs.Turns.{turns_suffice}
use Rattle.effects.specs.Effects.{known_of}
use Rattle.stack.specs.Stack.{on_decoded, body_answer, on_walked, functions_from, functions_answer, on_input, stack_answer, Verdict}
use Rattle.stack.specs.Exact.{Balanced, Sound}

module _ (sizes : ℕ → ℕ) (known : Effects) (body : List ℕ) (maximum : ℕ) where
  bounded : (offset depth : ℕ) → Bounded (length body + 1) maximum (look_of known (marks_of sizes body) body maximum offset depth)
  bounded = look_bounded known (marks_of sizes body) body maximum (body_fits sizes body)

  -- the walk of the definition never runs out of its turns, on any body
  pub body_turns : (k : ℕ) → length body + 1 ≤ k → walk_from (look_of known (marks_of sizes body) body maximum) k (begun (length body + 1)) (0 ∷ []) ≡ walk_of (look_of known (marks_of sizes body) body maximum) (length body + 1)
  body_turns k h = turns_suffice (look_of known (marks_of sizes body) body maximum) (length body + 1) maximum bounded (omega arith) k h

  walked : (walk_of (look_of known (marks_of sizes body) body maximum) (length body + 1) ≡ Ok tt) ↔ ((depth : ℕ → ℕ) × Satisfies (look_of known (marks_of sizes body) body maximum) depth)
  walked = exact (look_of known (marks_of sizes body) body maximum) (length body + 1) maximum bounded (omega arith)

  whole_by : (d : Decoded) (w : Walked) → on_decoded d w ≡ Ok tt → (d ≡ (Ok tt)) × (w ≡ Ok tt)
  whole_by (Ok _) w e = (refl, e)
  whole_by (Err (Stop.Unknown offset byte)) w e = absurd (let z : ◌≡◌ {A = ℕ} 0 1 = cc in omega arith)
  whole_by (Err (Stop.Truncated offset opcode)) w e = absurd (let z : ◌≡◌ {A = ℕ} 0 1 = cc in omega arith)

  pub body_sound : body_answer sizes known body maximum ≡ Ok tt → Balanced sizes known body maximum
  unfolding body_answer
  body_sound e =
      let w = whole_by (end_of (walk_by sizes body 0)) (walk_of (look_of known (marks_of sizes body) body maximum) (length body + 1)) e in
      let s = walked.0 w.1 in
      record { decodes = w.0; depth = s.0; satisfies = s.1 }

  pub body_complete : Balanced sizes known body maximum → body_answer sizes known body maximum ≡ Ok tt
  unfolding body_answer
  body_complete b = rw b.decodes (walked.1 (b.depth, b.satisfies))

module _ (sizes : ℕ → ℕ) (known : Effects) (p : Program) where
  abbrev row_answer : ℕ → Walked
  row_answer row = body_answer sizes known (body_of p row) (get_or p.functions.maxima row 0)

  first_by : (f : ℕ) (w : Walked) (rest : Verdict) → on_walked f w rest ≡ Ok tt → (w ≡ Ok tt) × (rest ≡ Ok tt)
  first_by f (Ok _) rest e = (refl, e)
  first_by f (Err v) rest e = absurd (let z : ◌≡◌ {A = ℕ} 0 1 = cc in omega arith)

  all_by : (left row k : ℕ) → (row_answer row ≡ Ok tt) → ((k : ℕ) → suc row ≤ k → k < suc row + left → row_answer k ≡ Ok tt) → row ≤ k → k < row + suc left → Dec (k ≡ row) → row_answer k ≡ Ok tt
  all_by left row k a go l h (yes e) = ap row_answer e ∙ a
  all_by left row k a go l h (no n) = go k (omega arith) (omega arith)

  all_sound : (left row : ℕ) → functions_from sizes known p left row ≡ Ok tt → (k : ℕ) → row ≤ k → k < row + left → row_answer k ≡ Ok tt
  all_sound zero row e k l h = absurd (omega arith)
  all_sound (suc left) row e k l h =
      let f = first_by (get_or p.functions.ids row 0) (row_answer row) (functions_from sizes known p left (suc row)) e in
      all_by left row k f.0 (λ j a b. all_sound left (suc row) f.1 j a b) l h (ℕ_discrete k row)

  all_complete : (left row : ℕ) → ((k : ℕ) → row ≤ k → k < row + left → row_answer k ≡ Ok tt) → functions_from sizes known p left row ≡ Ok tt
  all_complete zero row a = refl
  all_complete (suc left) row a = rw (a row (omega arith) (omega arith)) (all_complete left (suc row) (λ k l h. a k (omega arith) (omega arith)))

  pub functions_exact : (functions_answer sizes known p ≡ Ok tt) ↔ ((row : ℕ) → row < length p.functions.ids → row_answer row ≡ Ok tt)
  unfolding functions_answer
  functions_exact =
      (λ e row h. all_sound (length p.functions.ids) 0 e row (omega arith) (omega arith), λ a. all_complete (length p.functions.ids) 0 (λ k l h. a k (omega arith)))

taken_by : (input : Input) (rest : Verdict) → on_input input rest ≡ Ok tt → (input ≡ Ok tt) × (rest ≡ Ok tt)
taken_by (Ok _) rest e = (refl, e)
taken_by (Err refusal) rest e = absurd (let z : ◌≡◌ {A = ℕ} 0 1 = cc in omega arith)

-- demand 3, its first half
pub stack_exact : (p : Program) (room : Room) → (stack_answer p room ≡ Ok tt) ↔ Sound p room
unfolding stack_answer
stack_exact p room = (sound, complete)
  where
    sound : on_input (stack_input p room) (functions_answer size_of (known_of move_of p) p) ≡ Ok tt → Sound p room
    sound e =
        let t = taken_by (stack_input p room) (functions_answer size_of (known_of move_of p) p) e in
        record { taken = t.0; balanced = λ row h. body_sound size_of (known_of move_of p) (body_of p row) (get_or p.functions.maxima row 0) ((functions_exact size_of (known_of move_of p) p).0 t.1 row h) }

    complete : Sound p room → on_input (stack_input p room) (functions_answer size_of (known_of move_of p) p) ≡ Ok tt
    complete s =
        rw s.taken ((functions_exact size_of (known_of move_of p) p).1 (λ row h. body_complete size_of (known_of move_of p) (body_of p row) (get_or p.functions.maxima row 0) (s.balanced row h)))
