-- What acceptance means, without the walk: every body decodes to its end, and in each there is one depth for each reachable offset, 0 at offset 0,
-- that satisfies every rule.
-- Assumes nothing.
use Rattle.std.specs.Prelude.{ℕ, ◌<◌, ◌≡◌, List, length, get_or, Ok}
use Rattle.tables.specs.Set.{size_of, move_of}
use Rattle.flow.specs.Walk.{walk_by, end_of, marks_of}
use Rattle.program.specs.declared.Room.{Room}
use Rattle.program.specs.Program.{Program, body_of}
use Rattle.program.specs.Refusals.{stack_input}
use Rattle.rules.specs.Look.{Effects, look_of}
use Rattle.rules.specs.Assigned.{Satisfies}
use Rattle.effects.specs.Effects.{known_of}

-- a body under rules that give each instruction's effect
pub record Balanced (sizes : ℕ → ℕ) (known : Effects) (body : List ℕ) (maximum : ℕ) : Type 0 where
  pub decodes : end_of (walk_by sizes body 0) ≡ (Ok tt)
  pub depth : ℕ → ℕ
  pub satisfies : Satisfies (look_of known (marks_of sizes body) body maximum) depth

-- the input is not refused, and every body is balanced
pub record Sound (p : Program) (room : Room) : Type 0 where
  pub taken : stack_input p room ≡ Ok tt
  pub balanced : (row : ℕ) → row < length p.functions.ids → Balanced size_of (known_of move_of p) (body_of p row) (get_or p.functions.maxima row 0)
