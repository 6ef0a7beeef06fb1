-- What acceptance means, with no queue in it: one depth for each reachable offset, 0 at offset 0, that satisfies every rule.
-- Assumes nothing.
use Rattle.std.specs.Prelude.{ℕ, ◌≡◌, ◌⊎◌, Ok, Err}
use Rattle.rules.specs.declared.Onward.TheVariants.{Leaves, Goes, Forks}
use Rattle.rules.specs.Look.{Look}

-- no rule is broken
abbrev pub Holds : Look → Type 0
Holds (Err v) = ⊥
Holds (Ok Leaves) = Unit {0}
Holds (Ok (Goes out to)) = Unit {0}
Holds (Ok (Forks out to next)) = Unit {0}

-- s is a successor, and out the depth that it must have
abbrev pub Names : Look → ℕ → ℕ → Type 0
Names (Err v) s out = ⊥
Names (Ok Leaves) s out = ⊥
Names (Ok (Goes o to)) s out = (to ≡ s) × (o ≡ out)
Names (Ok (Forks o to next)) s out = ((to ≡ s) ⊎ (next ≡ s)) × (o ≡ out)

-- reachable means reached from offset 0 through successors
pub data Reached (rule : ℕ → ℕ → Look) (depth : ℕ → ℕ) : ℕ → Type 0 where
  start : Reached rule depth 0
  step : {offset s : ℕ} (out : ℕ) → Reached rule depth offset → Names (rule offset (depth offset)) s out → Reached rule depth s

pub record Satisfies (rule : ℕ → ℕ → Look) (depth : ℕ → ℕ) : Type 0 where
  pub at_start : depth 0 ≡ 0
  pub holds : (offset : ℕ) → Reached rule depth offset → Holds (rule offset (depth offset))
  pub agrees : (offset s out : ℕ) → Reached rule depth offset → Names (rule offset (depth offset)) s out → depth s ≡ out
