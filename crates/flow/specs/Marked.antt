-- What a loop over a body leaves when it has come to an offset: the rest of the walk from there, marked, is the whole walk from where it began.
-- Assumes nothing.
use Rattle.std.specs.Prelude.{ℕ, ◌≤◌, ◌≡◌, List, length}
use Rattle.flow.specs.Walk.{walk_by, end_of, mark_all, has_ret}

-- the marks were first so, at the offset from, and are now so, at the offset at
pub record Marked (sizes : ℕ → ℕ) (body : List ℕ) (from : ℕ) (first : List ℕ) (at : ℕ) (marks : List ℕ) : Type 0 where
  pub onward : from ≤ at
  pub within : at ≤ length body
  pub same : length marks ≡ length first
  pub ends : end_of (walk_by sizes body at) ≡ end_of (walk_by sizes body from)
  pub done : mark_all (walk_by sizes body at) marks ≡ mark_all (walk_by sizes body from) first

pub record Skipped (sizes : ℕ → ℕ) (body : List ℕ) (from at : ℕ) : Type 0 where
  pub onward : from ≤ at
  pub within : at ≤ length body
  pub rest : has_ret (walk_by sizes body at) ≡ has_ret (walk_by sizes body from)
