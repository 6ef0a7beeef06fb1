-- The theorem is not empty: a run of a program that both checks accept opens three frames, holds the whole pool and comes to its end. Each step by
-- computation from the machine's definition; the theorem at the run's fullest configuration, whose bounds are met.
-- Assumes nothing.
use Rattle.std.specs.Prelude.{Ok}
use Prim.Native.Nat.{ℕ}
use native.Mathlib.Omega.{arith}
use mathlib.Core.Path.{◌≡◌, refl}
use mathlib.Core.Logic.{inl}
use mathlib.Core.List.{List, [], ◌∷◌}
use Rattle.cells.specs.Zeros.{copies}
use Rattle.tables.specs.declared.Effect.{Effect}
use Rattle.tables.specs.Set.{effect, size_of, move_of, temp_of, instruction_set}
use Rattle.flow.specs.Decode.{found, step_by, operands_at, word_at, flow_of, moved, target_of}
use Rattle.flow.specs.Walk.{walk_by, marks_of}
use Rattle.codes.specs.First.{first_of}
use Rattle.codes.specs.Lookup.{place_of, entry_of}
use Rattle.program.specs.Program.{PoolProgram, body_of}
use Rattle.effects.specs.Effects.{known_of}
use Rattle.callees.specs.Callees.{temps_by, opens_by}
use Rattle.machine.specs.Machine.{Frame, frame, opened, decoded_at, operands_in, Acts, Step, goes, returns, Steps, begins, then, Run, live}
use Rattle.machine.specs.Safe.{Safe}
use Rattle.machine.proofs.Programs.{room_for, chain}
use Rattle.machine.proofs.StackAnswers.{stack_answers}
use Rattle.machine.proofs.PoolAnswers.{pool_answers}
use Rattle.machine.proofs.Theorem.{runs_safe}

-- an instruction, by what decodes and what is known
abbrev pub acts : {q : PoolProgram} {fr : Frame} (opcode size : ℕ) (e : Effect) → decoded_at q fr ≡ found opcode size
    → known_of move_of q.program opcode (operands_in q fr size) ≡ Ok e → Acts q fr
acts opcode size e d k = record { opcode = opcode; size = size; effect = e; decodes = d; known = k }

borrow_1 : Step chain (frame 0 0 0 0 ∷ []) (frame 0 5 1 1 ∷ [])
unfolding copies size_of move_of temp_of instruction_set step_by operands_at word_at flow_of moved target_of walk_by marks_of first_of place_of entry_of body_of known_of temps_by opens_by
borrow_1 = goes (acts 0xBC 5 (effect 0 1) refl refl) 5 refl

call_2 : Step chain (frame 0 5 1 1 ∷ []) (frame 1 0 0 0 ∷ frame 0 10 2 1 ∷ [])
unfolding copies size_of move_of temp_of instruction_set step_by operands_at word_at flow_of moved target_of walk_by marks_of first_of place_of entry_of body_of known_of temps_by opens_by
call_2 = goes (acts 0x84 5 (effect 0 1) refl refl) 10 refl

borrow_2 : Step chain (frame 1 0 0 0 ∷ frame 0 10 2 1 ∷ []) (frame 1 5 1 1 ∷ frame 0 10 2 1 ∷ [])
unfolding copies size_of move_of temp_of instruction_set step_by operands_at word_at flow_of moved target_of walk_by marks_of first_of place_of entry_of body_of known_of temps_by opens_by
borrow_2 = goes (acts 0xBC 5 (effect 0 1) refl refl) 5 refl

call_3 : Step chain (frame 1 5 1 1 ∷ frame 0 10 2 1 ∷ []) (frame 2 0 0 0 ∷ frame 1 10 2 1 ∷ frame 0 10 2 1 ∷ [])
unfolding copies size_of move_of temp_of instruction_set step_by operands_at word_at flow_of moved target_of walk_by marks_of first_of place_of entry_of body_of known_of temps_by opens_by
call_3 = goes (acts 0x84 5 (effect 0 1) refl refl) 10 refl

borrow_3 : Step chain (frame 2 0 0 0 ∷ frame 1 10 2 1 ∷ frame 0 10 2 1 ∷ []) (frame 2 5 1 1 ∷ frame 1 10 2 1 ∷ frame 0 10 2 1 ∷ [])
unfolding copies size_of move_of temp_of instruction_set step_by operands_at word_at flow_of moved target_of walk_by marks_of first_of place_of entry_of body_of known_of temps_by opens_by
borrow_3 = goes (acts 0xBC 5 (effect 0 1) refl refl) 5 refl

give_back_3 : Step chain (frame 2 5 1 1 ∷ frame 1 10 2 1 ∷ frame 0 10 2 1 ∷ []) (frame 2 10 0 0 ∷ frame 1 10 2 1 ∷ frame 0 10 2 1 ∷ [])
unfolding copies size_of move_of temp_of instruction_set step_by operands_at word_at flow_of moved target_of walk_by marks_of first_of place_of entry_of body_of known_of temps_by opens_by
give_back_3 = goes (acts 0xC0 5 (effect 1 0) refl refl) 10 refl

return_3 : Step chain (frame 2 10 0 0 ∷ frame 1 10 2 1 ∷ frame 0 10 2 1 ∷ []) (frame 1 10 2 1 ∷ frame 0 10 2 1 ∷ [])
unfolding copies size_of move_of temp_of instruction_set step_by operands_at word_at flow_of moved target_of walk_by marks_of first_of place_of entry_of body_of known_of temps_by opens_by
return_3 = returns (acts 0x8C 1 (effect 0 0) refl refl) refl

drop_2 : Step chain (frame 1 10 2 1 ∷ frame 0 10 2 1 ∷ []) (frame 1 11 1 1 ∷ frame 0 10 2 1 ∷ [])
unfolding copies size_of move_of temp_of instruction_set step_by operands_at word_at flow_of moved target_of walk_by marks_of first_of place_of entry_of body_of known_of temps_by opens_by
drop_2 = goes (acts 0x90 1 (effect 1 0) refl refl) 11 refl

return_2 : Step chain (frame 1 11 1 1 ∷ frame 0 10 2 1 ∷ []) (frame 0 10 2 1 ∷ [])
unfolding copies size_of move_of temp_of instruction_set step_by operands_at word_at flow_of moved target_of walk_by marks_of first_of place_of entry_of body_of known_of temps_by opens_by
return_2 = returns (acts 0x88 1 (effect 0 0) refl refl) refl

drop_1 : Step chain (frame 0 10 2 1 ∷ []) (frame 0 11 1 1 ∷ [])
unfolding copies size_of move_of temp_of instruction_set step_by operands_at word_at flow_of moved target_of walk_by marks_of first_of place_of entry_of body_of known_of temps_by opens_by
drop_1 = goes (acts 0x90 1 (effect 1 0) refl refl) 11 refl

return_1 : Step chain (frame 0 11 1 1 ∷ []) ([])
unfolding copies size_of move_of temp_of instruction_set step_by operands_at word_at flow_of moved target_of walk_by marks_of first_of place_of entry_of body_of known_of temps_by opens_by
return_1 = returns (acts 0x88 1 (effect 0 0) refl refl) refl

-- three frames
abbrev pub fullest : List Frame
fullest = frame 2 5 1 1 ∷ frame 1 10 2 1 ∷ frame 0 10 2 1 ∷ []

to_fullest : Steps chain (opened 0 ∷ []) fullest
to_fullest = then (then (then (then (then begins borrow_1) call_2) borrow_2) call_3) borrow_3

to_end : Steps chain (opened 0 ∷ []) []
to_end = then (then (then (then (then (then to_fullest give_back_3) return_3) drop_2) return_2) drop_1) return_1

pub full_run : Run chain fullest
unfolding place_of first_of
full_run = record { entry = 0; listed = (1, inl refl, refl); steps = to_fullest }

pub whole_run : Run chain []
unfolding place_of first_of
whole_run = record { entry = 0; listed = (1, inl refl, refl); steps = to_end }

-- they hold the whole pool
pub holds_pool : live fullest ≡ chain.pool
unfolding live
holds_pool = refl

pub full_safe : Safe chain fullest
full_safe = runs_safe chain (room_for chain) (room_for chain) 16384 (omega arith) stack_answers.0 pool_answers.0 full_run
