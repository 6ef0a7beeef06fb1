-- 01's rules of the temp buffers at one place, an offset of a body with so many buffers held. `temps` gives what an instruction does to the buffers and
-- `opens` the cell of the function that it opens, both from its opcode and operands; `marks` hold an instruction's size at each start and 0 elsewhere.
-- Nothing else repeats these rules.
-- Assumes nothing.
use Rattle.std.specs.Prelude.{ℕ, ◌+◌, ◌-◌, ◌≤◌, ◌<◌, cond, List, ltb, length, get_or, Ok, Err}
use Rattle.tables.specs.declared.TempEffect.{TempEffect}
use Rattle.tables.specs.declared.TempEffect.TheVariants.{Keeps, Borrows, GivesBack}
use Rattle.flow.specs.declared.Flow.{Flow}
use Rattle.flow.specs.declared.Flow.TheVariants.{Next, Jump, Branch, Return}
use Rattle.flow.specs.Decode.{operands_at, flow_of, moved, target_of, Target}
use Rattle.buffers.specs.declared.Way.{Way}
use Rattle.buffers.specs.declared.Way.TheVariants.{Ends, Astray, Goes, Forks}
use Rattle.buffers.specs.declared.Tread.{Tread}

-- what an instruction does to the buffers, and the cell of the function that it opens: its row and 1, or 0 for none
abbrev pub Temps : Type 0
Temps = ℕ → List ℕ → TempEffect

abbrev pub Opens : Type 0
Opens = ℕ → List ℕ → ℕ

-- "Each temp_effect of 1, and each BUILTIN marked as borrowing, adds one; -1 takes one, never below 0"
abbrev pub sum_past : TempEffect → ℕ → ℕ
sum_past Keeps held = held
sum_past Borrows held = held + 1
sum_past GivesBack held = held - 1

-- "Undecodable: .. a branch reached has an illegal target"
abbrev pub on_target : (ℕ → Way) → Target → Way
on_target go (Ok to) = go to
on_target go (Err spot) = Astray

-- the successors, branch target before next instruction
unfoldable pub flowing : List ℕ → ℕ → ℕ → Flow → Way
flowing marks end next Next = Goes next
flowing marks end next (Jump word) = on_target (λ to. Goes to) (target_of marks end (moved next word))
flowing marks end next (Branch word) = on_target (λ to. Forks to next) (target_of marks end (moved next word))
flowing marks end next Return = Ends

-- "If the sum passes the pool, that path ends there"
unfoldable pub bounded : ℕ → ℕ → Way → Way
bounded pool sum way = cond (ltb pool sum) Ends way

abbrev pub treads : ℕ → ℕ → Way → Tread
treads sum opens way = record { sum = sum; opens = opens; way = way }

-- an instruction of a size
unfoldable pub acting : Temps → Opens → List ℕ → List ℕ → ℕ → ℕ → ℕ → ℕ → ℕ → Tread
acting temps opens marks body pool offset held op size =
    treads (sum_past (temps op (operands_at body offset size)) held) (opens op (operands_at body offset size))
    (bounded pool (sum_past (temps op (operands_at body offset size)) held) (flowing marks (length body) (offset + size) (flow_of op (operands_at body offset size))))

-- at the body length the path ends
unfoldable pub tread_of : Temps → Opens → List ℕ → List ℕ → ℕ → ℕ → ℕ → Tread
tread_of temps opens marks body pool offset held =
    cond (ltb offset (length body)) (acting temps opens marks body pool offset held (get_or body offset 0) (get_or marks offset 0))
    (treads held 0 Ends)

-- successors below n, and a sum of at most x where there are any
abbrev pub Leads : ℕ → ℕ → ℕ → Way → Type 0
Leads n x sum Ends = Unit {0}
Leads n x sum Astray = Unit {0}
Leads n x sum (Goes to) = (to < n) × (sum ≤ x)
Leads n x sum (Forks to next) = (to < n) × ((next < n) × (sum ≤ x))

abbrev pub Bounded : ℕ → ℕ → Tread → Type 0
Bounded n x t = Leads n x t.sum t.way
