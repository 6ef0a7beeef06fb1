-- Looking through a code for METHOD_CALL: what the bytes before a place say.
-- Assumes nothing.
use Prim.Native.Nat.{ℕ, ◌≤◌, ◌<◌}
use native.Mathlib.Omega.{arith}
use mathlib.Core.Path.{◌≡◌, sym}
use mathlib.Core.Bool.{Bool, true, false}
use mathlib.Core.List.{List}
use lib.ListN.{length, get_or}
use Rattle.effects.specs.Effects.{names_method}
use Rattle.effects.proofs.Laws.{method_named, method_not_named}

abbrev pub Says : List ℕ → ℕ → Bool → Type 0
Says code i false = (j : ℕ) → j < i → get_or code j 0 ≡ 0xF8 → ⊥
Says code i true = (k : ℕ) × ((k < length code) × (get_or code k 0 ≡ 0xF8))

pub record Scanned (code : List ℕ) (i : ℕ) (named : Bool) : Type 0 where
  pub within : i ≤ length code
  pub says : Says code i named

module _ (code : List ℕ) (i : ℕ) where
  pub says_all : length code ≤ i → (named : Bool) → Says code i named → named ≡ names_method code
  says_all h false s = sym (method_not_named code (λ j l. s j (omega arith)))
  says_all h true s = sym (method_named code s.0 s.1.0 s.1.1)
