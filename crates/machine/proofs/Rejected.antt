-- Why rejected programs are rejected: for one of each of 5, 6, 8, 9, 20 and 21 a run to a configuration that is not safe, with the clause that it
-- breaks. Each step by computation from the machine's definition, which tests nothing; the answers are StackAnswers.antt's and PoolAnswers.antt's.
-- Assumes nothing.
use Rattle.std.specs.Prelude.{Ok, Err, None}
use Rattle.pool.specs.declared.Fault as of-pool
use Rattle.stack.specs.declared.Fault as of-stack
use Prim.Native.Nat.{ℕ, ◌<◌}
use native.Mathlib.Omega.{arith}
use mathlib.Core.Path.{◌≡◌, refl}
use mathlib.Core.Logic.{inl, inr, ⊎_elim}
use mathlib.Core.List.{List, [], ◌∷◌}
use Rattle.cells.specs.Zeros.{copies}
use Rattle.tables.specs.Set.{effect, size_of, move_of, temp_of, instruction_set}
use Rattle.flow.specs.declared.Flow.TheVariants.{Return}
use Rattle.flow.specs.Decode.{step_by, operands_at, word_at, flow_of, moved, target_of}
use Rattle.flow.specs.Walk.{walk_by, marks_of}
use Rattle.codes.specs.First.{first_of}
use Rattle.codes.specs.Lookup.{place_of, entry_of}
use Rattle.program.specs.Program.{PoolProgram, body_of}
use Rattle.rules.specs.declared.Violation.{Violation}
use Rattle.effects.specs.Effects.{known_of}
use Rattle.callees.specs.Callees.{temps_by, opens_by}
use Rattle.machine.specs.Machine.{Frame, frame, opened, decoded_at, Acts, depth_after, flow_at, Step, goes, begins, then, Run, live}
use Rattle.machine.specs.Safe.{top, declared, frames_of, Safe}
use Rattle.machine.proofs.Programs.{empty_pop, too_deep, uneven, left_over, greedy, circle}
use Rattle.machine.proofs.StackAnswers.{StackGives, stack_answers}
use Rattle.machine.proofs.PoolAnswers.{PoolGives, pool_answers}
use Rattle.machine.proofs.Accepted.{acts}

-- 5: POP takes 1 of a frame that holds nothing
pop_run : Run empty_pop (frame 0 0 0 0 ∷ [])
unfolding place_of first_of
pop_run = record { entry = 0; listed = (1, inl refl, refl); steps = begins }

pub underflows : Run empty_pop (frame 0 0 0 0 ∷ []) × ((x : Acts empty_pop (frame 0 0 0 0)) × (0 < x.effect.takes))
unfolding copies size_of move_of temp_of instruction_set step_by operands_at word_at flow_of moved target_of walk_by marks_of first_of place_of entry_of body_of known_of temps_by opens_by
underflows = (pop_run, (acts 0x90 1 (effect 1 0) refl refl, omega arith))

-- 6: LOAD_TRUE leaves 1 where 0 is declared
deep_run : Run too_deep (frame 0 0 0 0 ∷ [])
unfolding place_of first_of
deep_run = record { entry = 0; listed = (1, inl refl, refl); steps = begins }

pub exceeds : Run too_deep (frame 0 0 0 0 ∷ []) × ((x : Acts too_deep (frame 0 0 0 0)) × (declared too_deep (frame 0 0 0 0) < depth_after x.effect 0))
unfolding copies size_of move_of temp_of instruction_set step_by operands_at word_at flow_of moved target_of walk_by marks_of first_of place_of entry_of body_of known_of temps_by opens_by
exceeds = (deep_run, (acts 0x05 1 (effect 0 1) refl refl, omega arith))

-- 8: JMP_IF_NOT either way comes to RET_VOID at 0, or over LOAD_TRUE at 1
load : Step uneven (frame 0 0 0 0 ∷ []) (frame 0 1 1 0 ∷ [])
unfolding copies size_of move_of temp_of instruction_set step_by operands_at word_at flow_of moved target_of walk_by marks_of first_of place_of entry_of body_of known_of temps_by opens_by
load = goes (acts 0x05 1 (effect 0 1) refl refl) 1 refl

jumps : Step uneven (frame 0 1 1 0 ∷ []) (frame 0 5 0 0 ∷ [])
unfolding copies size_of move_of temp_of instruction_set step_by operands_at word_at flow_of moved target_of walk_by marks_of first_of place_of entry_of body_of known_of temps_by opens_by
jumps = goes (acts 0x80 3 (effect 1 0) refl refl) 5 (5, refl, inl refl)

stays : Step uneven (frame 0 1 1 0 ∷ []) (frame 0 4 0 0 ∷ [])
unfolding copies size_of move_of temp_of instruction_set step_by operands_at word_at flow_of moved target_of walk_by marks_of first_of place_of entry_of body_of known_of temps_by opens_by
stays = goes (acts 0x80 3 (effect 1 0) refl refl) 4 (5, refl, inr refl)

load_again : Step uneven (frame 0 4 0 0 ∷ []) (frame 0 5 1 0 ∷ [])
unfolding copies size_of move_of temp_of instruction_set step_by operands_at word_at flow_of moved target_of walk_by marks_of first_of place_of entry_of body_of known_of temps_by opens_by
load_again = goes (acts 0x05 1 (effect 0 1) refl refl) 5 refl

even_run : Run uneven (frame 0 5 0 0 ∷ [])
unfolding place_of first_of
even_run = record { entry = 0; listed = (1, inl refl, refl); steps = then (then begins load) jumps }

odd_run : Run uneven (frame 0 5 1 0 ∷ [])
unfolding place_of first_of
odd_run = record { entry = 0; listed = (1, inl refl, refl); steps = then (then (then begins load) stays) load_again }

pub merges : Run uneven (frame 0 5 0 0 ∷ []) × (Run uneven (frame 0 5 1 0 ∷ []) × ((x : Acts uneven (frame 0 5 1 0)) × (flow_at uneven (frame 0 5 1 0) x ≡ Return) × (x.opcode ≡ 0x8C) × (depth_after x.effect 1 ≡ 1)))
unfolding copies size_of move_of temp_of instruction_set step_by operands_at word_at flow_of moved target_of walk_by marks_of first_of place_of entry_of body_of known_of temps_by opens_by
merges = (even_run, (odd_run, (acts 0x8C 1 (effect 0 0) refl refl, refl, refl, refl)))

-- 9: the body's end at 1
load_last : Step left_over (frame 0 0 0 0 ∷ []) (frame 0 1 1 0 ∷ [])
unfolding copies size_of move_of temp_of instruction_set step_by operands_at word_at flow_of moved target_of walk_by marks_of first_of place_of entry_of body_of known_of temps_by opens_by
load_last = goes (acts 0x05 1 (effect 0 1) refl refl) 1 refl

end_run : Run left_over (frame 0 1 1 0 ∷ [])
unfolding place_of first_of
end_run = record { entry = 0; listed = (1, inl refl, refl); steps = then begins load_last }

pub leaves_over : Run left_over (frame 0 1 1 0 ∷ []) × (decoded_at left_over (frame 0 1 1 0) ≡ Ok None)
unfolding copies size_of move_of temp_of instruction_set step_by operands_at word_at flow_of moved target_of walk_by marks_of first_of place_of entry_of body_of known_of temps_by opens_by
leaves_over = (end_run, refl)

-- 20: two buffers are held, of a pool of 1
borrow_1 : Step greedy (frame 0 0 0 0 ∷ []) (frame 0 5 1 1 ∷ [])
unfolding copies size_of move_of temp_of instruction_set step_by operands_at word_at flow_of moved target_of walk_by marks_of first_of place_of entry_of body_of known_of temps_by opens_by
borrow_1 = goes (acts 0xBC 5 (effect 0 1) refl refl) 5 refl

call_2 : Step greedy (frame 0 5 1 1 ∷ []) (frame 1 0 0 0 ∷ frame 0 10 2 1 ∷ [])
unfolding copies size_of move_of temp_of instruction_set step_by operands_at word_at flow_of moved target_of walk_by marks_of first_of place_of entry_of body_of known_of temps_by opens_by
call_2 = goes (acts 0x84 5 (effect 0 1) refl refl) 10 refl

borrow_2 : Step greedy (frame 1 0 0 0 ∷ frame 0 10 2 1 ∷ []) (frame 1 5 1 1 ∷ frame 0 10 2 1 ∷ [])
unfolding copies size_of move_of temp_of instruction_set step_by operands_at word_at flow_of moved target_of walk_by marks_of first_of place_of entry_of body_of known_of temps_by opens_by
borrow_2 = goes (acts 0xBC 5 (effect 0 1) refl refl) 5 refl

greedy_run : Run greedy (frame 1 5 1 1 ∷ frame 0 10 2 1 ∷ [])
unfolding place_of first_of
greedy_run = record { entry = 0; listed = (1, inl refl, refl); steps = then (then (then begins borrow_1) call_2) borrow_2 }

pub overruns : Run greedy (frame 1 5 1 1 ∷ frame 0 10 2 1 ∷ []) × (greedy.pool < live (frame 1 5 1 1 ∷ frame 0 10 2 1 ∷ []))
unfolding live
overruns = (greedy_run, omega arith)

-- 21: a function's second frame
there : Step circle (frame 0 0 0 0 ∷ []) (frame 1 0 0 0 ∷ frame 0 5 1 0 ∷ [])
unfolding copies size_of move_of temp_of instruction_set step_by operands_at word_at flow_of moved target_of walk_by marks_of first_of place_of entry_of body_of known_of temps_by opens_by
there = goes (acts 0x84 5 (effect 0 1) refl refl) 5 refl

back : Step circle (frame 1 0 0 0 ∷ frame 0 5 1 0 ∷ []) (frame 0 0 0 0 ∷ frame 1 5 1 0 ∷ frame 0 5 1 0 ∷ [])
unfolding copies size_of move_of temp_of instruction_set step_by operands_at word_at flow_of moved target_of walk_by marks_of first_of place_of entry_of body_of known_of temps_by opens_by
back = goes (acts 0x84 5 (effect 0 1) refl refl) 5 refl

circle_run : Run circle (frame 0 0 0 0 ∷ frame 1 5 1 0 ∷ frame 0 5 1 0 ∷ [])
unfolding place_of first_of
circle_run = record { entry = 0; listed = (1, inl refl, refl); steps = then (then begins there) back }

pub recurs : Run circle (frame 0 0 0 0 ∷ frame 1 5 1 0 ∷ frame 0 5 1 0 ∷ []) × (frames_of 0 (frame 0 0 0 0 ∷ frame 1 5 1 0 ∷ frame 0 5 1 0 ∷ []) ≡ 2)
unfolding frames_of
recurs = (circle_run, refl)

-- A rejected program, its answer, and a run of it to a configuration that is not safe
pub record Shown (q : PoolProgram) (Answer : Type 0) : Type 0 where
  pub answer : Answer
  pub configuration : List Frame
  pub run : Run q configuration
  pub unsafe : Safe q configuration → ⊥

pub shown_5 : Shown empty_pop (StackGives empty_pop (Err (of-stack.Fault.Violated 1 (Violation.Underflow 0 0x90 1 0))))
shown_5 = record {
  answer = stack_answers.1.0;
  configuration = opened 0 ∷ [];
  run = underflows.0;
  unsafe = λ s. omega (arith, underflows.1.1, s.enough (opened 0) top underflows.1.0);
}

pub shown_6 : Shown too_deep (StackGives too_deep (Err (of-stack.Fault.Violated 1 (Violation.ExceedsDeclaredMax 0 1 0))))
shown_6 = record {
  answer = stack_answers.1.1.0;
  configuration = opened 0 ∷ [];
  run = exceeds.0;
  unsafe = λ s. omega (arith, exceeds.1.1, s.after (opened 0) top exceeds.1.0);
}

pub shown_8 : Shown uneven (StackGives uneven (Err (of-stack.Fault.Violated 1 (Violation.MergeConflict 5 0 1))))
shown_8 = record {
  answer = stack_answers.1.1.1.0;
  configuration = frame 0 5 1 0 ∷ [];
  run = merges.1.0;
  unsafe = λ s.
      let m = merges.1.1 in
      ⊎_elim (λ r. omega (arith, r.0, m.2)) (λ v. omega (arith, v.1, m.3)) (s.returns (frame 0 5 1 0) top m.0 m.1);
}

pub shown_9 : Shown left_over (StackGives left_over (Err (of-stack.Fault.Violated 1 (Violation.UnbalancedReturn 1 0 1))))
shown_9 = record {
  answer = stack_answers.1.1.1.1.0;
  configuration = frame 0 1 1 0 ∷ [];
  run = leaves_over.0;
  unsafe = λ s. let z : ◌≡◌ {A = ℕ} 1 0 = s.ends (frame 0 1 1 0) top leaves_over.1 in omega arith;
}

pub shown_20 : Shown greedy (PoolGives greedy (Err (of-pool.Fault.ExceedsDeclaredPool 1 0 2 1)))
shown_20 = record {
  answer = pool_answers.1.1.1.1.1.0;
  configuration = frame 1 5 1 1 ∷ frame 0 10 2 1 ∷ [];
  run = overruns.0;
  unsafe = λ s. omega (arith, overruns.1, s.buffers);
}

pub shown_21 : Shown circle (PoolGives circle (Err (of-pool.Fault.RecursiveCallGraph 1)))
shown_21 = record {
  answer = pool_answers.1.1.1.1.1.1;
  configuration = frame 0 0 0 0 ∷ frame 1 5 1 0 ∷ frame 0 5 1 0 ∷ [];
  run = recurs.0;
  unsafe = λ s. omega (arith, recurs.1, s.once 0);
}
