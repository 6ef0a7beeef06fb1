-- Worked examples of the definitions, which antt computes: the bodies of 01's bench examples and two that decoding cuts, and 01's targets.
-- Assumes nothing.
use Rattle.flow.specs.declared.Stop.{Stop}
use Rattle.std.specs.Prelude.{ℕ, ◌≡◌, refl, List, [], ◌∷◌, length, replicate, Ok, Err}
use Rattle.tables.specs.Set.{size_of, instruction_set}
use Rattle.flow.specs.Decode.{step_by, moved, target_of}
use Rattle.flow.specs.Walk.{walk_by, mark_all, end_of, Decoded}
use Rattle.flow.specs.declared.Spot.TheVariants.{At, Before}

-- a body, how its decoding ends, and its marks
pub record Body : Type 0 where
  pub code : List ℕ
  pub ends : Decoded
  pub marks : List ℕ

pub bodies : List Body
bodies =
    record { code = []; ends = Ok tt; marks = [] } ∷
    record { code = 0x05 ∷ 0x88 ∷ []; ends = Ok tt; marks = 1 ∷ 1 ∷ [] } ∷
    record { code = 0x7C ∷ 0xFC ∷ 0xFF ∷ []; ends = Ok tt; marks = 3 ∷ 0 ∷ 0 ∷ [] } ∷
    record { code = 0x91 ∷ 0x90 ∷ []; ends = Ok tt; marks = 1 ∷ 1 ∷ [] } ∷
    record { code = 0x8C ∷ 0x93 ∷ []; ends = Err (Stop.Unknown 1 0x93); marks = 1 ∷ 0 ∷ [] } ∷
    record { code = 0x05 ∷ 0x80 ∷ 0x01 ∷ 0x00 ∷ 0x05 ∷ 0x8C ∷ []; ends = Ok tt; marks = 1 ∷ 3 ∷ 0 ∷ 0 ∷ 1 ∷ 1 ∷ [] } ∷
    record { code = 0x88 ∷ 0xF4 ∷ 0x00 ∷ 0x00 ∷ []; ends = Err (Stop.Truncated 1 0xF4); marks = 1 ∷ 0 ∷ 0 ∷ 0 ∷ [] } ∷
    []

-- every row holds
pub Hold : List Body → Type 0
Hold [] = Unit
Hold (b ∷ bs) = ((end_of (walk_by size_of b.code 0) ≡ b.ends) × (mark_all (walk_by size_of b.code 0) (replicate (length b.code) 0) ≡ b.marks)) × Hold bs

pub bodies_hold : Hold bodies
unfolding Hold bodies walk_by step_by size_of instruction_set
bodies_hold = ((refl, refl), ((refl, refl), ((refl, refl), ((refl, refl), ((refl, refl), ((refl, refl), ((refl, refl), tt)))))))

-- `7C FC FF` at 0: the target is -1; `7C FD FF`: 0; `7C 01 00`: 4, past the length 3; `7C 00 00`: the length
pub targets : (moved 3 0xFFFC ≡ Before 1) × ((moved 3 0xFFFD ≡ At 0) × ((target_of (3 ∷ 0 ∷ 0 ∷ []) 3 (moved 3 1) ≡ Err (At 4)) × (target_of (3 ∷ 0 ∷ 0 ∷ []) 3 (moved 3 0) ≡ Ok 3)))
unfolding moved target_of
targets = (refl, (refl, (refl, refl)))
