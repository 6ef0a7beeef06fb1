-- 01's rules at one place, an offset of a body at a depth. `known` gives an instruction's effect from its opcode and operands; `marks` hold an
-- instruction's size at each start and 0 elsewhere. Nothing else repeats these rules.
-- Assumes nothing.
use Rattle.std.specs.Prelude.{ℕ, ◌+◌, ◌-◌, ◌≤◌, ◌<◌, cond, List, ltb, eqb, length, get_or, Result, Ok, Err}
use Rattle.tables.specs.declared.Effect.{Effect}
use Rattle.flow.specs.declared.Flow.{Flow}
use Rattle.flow.specs.declared.Flow.TheVariants.{Next, Jump, Branch, Return}
use Rattle.flow.specs.Decode.{operands_at, flow_of, moved, target_of, Target}
use Rattle.rules.specs.declared.Violation.{Violation}
use Rattle.rules.specs.declared.Unknown.{Unknown}
use Rattle.rules.specs.declared.Onward.{Onward}
use Rattle.rules.specs.declared.Onward.TheVariants.{Leaves, Goes, Forks}

-- an instruction's effect, or why it has none
abbrev pub Known : Type 0
Known = Result Effect Unknown

-- a violation, the end of a path, or the depth after and the successors
abbrev pub Look : Type 0
Look = Result Onward Violation

-- an instruction's effect in its program
abbrev pub Effects : Type 0
Effects = ℕ → List ℕ → Known

abbrev pub larger : ℕ → ℕ → ℕ
larger a b = cond (ltb a b) b a

-- RET needs 1 after it, RET_VOID and the body length need 0, else 9 there
abbrev pub exit_at : ℕ → ℕ → ℕ → Look
exit_at offset expected depth = cond (eqb depth expected) (Ok Leaves) (Err (Violation.UnbalancedReturn offset expected depth))

-- 7, else the branch target
abbrev pub on_target : ℕ → (ℕ → Look) → Target → Look
on_target offset go (Ok to) = go to
on_target offset go (Err spot) = Err (Violation.InvalidJumpTarget offset spot)

-- the successors, branch target before next instruction
unfoldable pub flowing : List ℕ → ℕ → ℕ → ℕ → ℕ → ℕ → Flow → Look
flowing marks end offset next op out Next = Ok (Goes out next)
flowing marks end offset next op out (Jump word) = on_target offset (λ to. Ok (Goes out to)) (target_of marks end (moved next word))
flowing marks end offset next op out (Branch word) = on_target offset (λ to. Ok (Forks out to next)) (target_of marks end (moved next word))
flowing marks end offset next op out Return = exit_at offset (cond (eqb op 0x88) 1 0) out

-- 5 if depth is below takes; 6 if the larger of depth before and after passes the declared maximum; then 7 and the successors
unfoldable pub moving : ℕ → ℕ → ℕ → ℕ → Effect → (ℕ → Look) → Look
moving offset op maximum depth e go =
    cond (ltb depth e.takes) (Err (Violation.Underflow offset op e.takes depth))
    (cond (ltb maximum (larger depth (depth - e.takes + e.leaves))) (Err (Violation.ExceedsDeclaredMax offset (larger depth (depth - e.takes + e.leaves)) maximum))
    (go (depth - e.takes + e.leaves)))

-- 3 or 4
abbrev pub unknown_at : ℕ → Unknown → Violation
unknown_at offset (Unknown.Builtin id) = Violation.UnknownBuiltin offset id
unknown_at offset (Unknown.Callee callee) = Violation.UnknownCallee offset callee

-- 3 or 4 first
abbrev pub on_known : ℕ → (Effect → Look) → Known → Look
on_known offset go (Ok e) = go e
on_known offset go (Err unknown) = Err (unknown_at offset unknown)

-- the rules at an instruction of a size
unfoldable pub acting : Effects → List ℕ → List ℕ → ℕ → ℕ → ℕ → ℕ → ℕ → Look
acting known marks body maximum offset depth op size =
    on_known offset (λ e. moving offset op maximum depth e (λ out. flowing marks (length body) offset (offset + size) op out (flow_of op (operands_at body offset size))))
    (known op (operands_at body offset size))

unfoldable pub look_of : Effects → List ℕ → List ℕ → ℕ → ℕ → ℕ → Look
look_of known marks body maximum offset depth =
    cond (ltb offset (length body)) (acting known marks body maximum offset depth (get_or body offset 0) (get_or marks offset 0))
    (exit_at offset 0 depth)

-- successors below n, at depths of at most x
abbrev pub Bounded : ℕ → ℕ → Look → Type 0
Bounded n x (Err v) = Unit {0}
Bounded n x (Ok Leaves) = Unit {0}
Bounded n x (Ok (Goes out to)) = (to < n) × (out ≤ x)
Bounded n x (Ok (Forks out to next)) = (to < n) × ((next < n) × (out ≤ x))
