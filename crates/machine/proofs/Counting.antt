-- Frames whose functions differ from all below them count at most once for each function. By induction along the open frames.
-- Assumes nothing.
use Prim.Native.Nat.{ℕ, ◌+◌, ◌≤◌}
use native.Mathlib.Omega.{arith}
use mathlib.Core.Path.{◌≡◌, refl, sym, ◌∙◌}
use mathlib.Core.Bool.{Bool, true, false}
use mathlib.Core.List.{List, [], ◌∷◌}
use lib.Dec.{eqb}
use borrow.Author.Tests.{eqb-true, ne_eqb}
use Rattle.machine.specs.Machine.{Frame}
use Rattle.machine.specs.Safe.{Open, top, under, one, frames_of}

-- below a frame no other has its function
abbrev pub Once : List Frame → Type 0
Once [] = Unit {0}
Once (fr ∷ c) = ((other : Frame) → Open other c → other.row ≡ fr.row → ⊥) × Once c

frames_none : (row : ℕ) (c : List Frame) → ((other : Frame) → Open other c → other.row ≡ row → ⊥) → frames_of row c ≡ 0
unfolding frames_of
frames_none row [] h = refl
frames_none row (fr ∷ c) h = rw (ne_eqb fr.row row (h fr top), frames_none row c (λ other o. h other (under o))) refl

pub once_frames : (row : ℕ) (c : List Frame) → Once c → frames_of row c ≤ 1
unfolding frames_of
once_frames row [] h = omega arith
once_frames row (fr ∷ c) h = by (eqb fr.row row) refl (once_frames row c h.1)
  where
    by : (t : Bool) → eqb fr.row row ≡ t → frames_of row c ≤ 1 → one t + frames_of row c ≤ 1
    by true e k = omega (arith, frames_none row c (λ other o z. h.0 other o (z ∙ sym (eqb-true _ _ e))))
    by false e k = omega arith
