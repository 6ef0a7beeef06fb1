-- What a look makes of an effect that is known or not, of a depth that an effect has moved, and of a branch's target.
-- Assumes nothing.
use Rattle.std.specs.Prelude.{ℕ, Result, Ok, Err}
use Rattle.tables.specs.declared.Effect.{Effect}
use Rattle.flow.specs.Decode.{Target}
use Rattle.rules.specs.declared.Violation.{Violation}
use Rattle.rules.specs.Look.{Known, Look, unknown_at}

-- 3, 4, or the effect
abbrev pub effect_at : ℕ → Known → Result Effect Violation
effect_at offset (Ok e) = Ok e
effect_at offset (Err unknown) = Err (unknown_at offset unknown)

-- 5, 6, or the depth after
abbrev pub Moved : Type 0
Moved = Result ℕ Violation

abbrev pub on_moved : (ℕ → Look) → Moved → Look
on_moved go (Err v) = Err v
on_moved go (Ok out) = go out

-- 7, or the target
abbrev pub legal_of : ℕ → Target → Result ℕ Violation
legal_of offset (Ok to) = Ok to
legal_of offset (Err spot) = Err (Violation.InvalidJumpTarget offset spot)
