-- One body: how its decoding ends and its walk make what the definition says of it, over any rules; and the directory's loop, row after row.
-- Assumes nothing.
use Rattle.std.specs.Prelude.{Ok, Err}
use Rattle.flow.specs.declared.Stop.{Stop}
use Prim.Native.Nat.{ℕ, ◌+◌, ◌*◌, ◌≤◌}
use native.Mathlib.Omega.{arith}
use mathlib.Core.Path.{◌≡◌, refl, ◌∙◌, ap, sym}
use mathlib.Core.List.{List}
use lib.ListN.{length, set}
use Rattle.cells.specs.Zeros.{zeros, zeros_are, length_zeros, any_zero}
use Rattle.flow.specs.Walk.{walk_by, end_of, mark_all, marks_of, Decoded}
use Rattle.flow.proofs.Next.{marks_fit, marks_are, body_fits}
use Rattle.buffers.specs.declared.Usage as told
use Rattle.buffers.specs.declared.Unwalked.{Unwalked}
use Rattle.buffers.specs.Tread.{Temps, Opens, tread_of}
use Rattle.buffers.specs.Walk.{Walked, undecodable, crowded, unfinished, walked, begun, walk_of, used_of, Used}
use Rattle.buffers.proofs.Queue.{begun_is}
use Rattle.buffers.proofs.Theorems.{weight_small}
use Rattle.pool.specs.Columns.{Walks, Fitting, Lays}
use Rattle.pool.specs.Pool.{on_decoded, body_walk}
use Rattle.pool.proofs.Walking.{walks_stopped}

module _ (sizes : ℕ → ℕ) (temps : Temps) (opens : Opens) (pool : ℕ) (body : List ℕ) where
  abbrev walks : List ℕ → Walked
  walks marks = walk_of (tread_of temps opens marks body pool) (2 * length body + 2) pool (length body + 1)

  stops : (d : Decoded) → d ≡ end_of (walk_by sizes body 0) → on_decoded d (walks (marks_of sizes body)) ≡ body_walk sizes temps opens pool body
  unfolding body_walk
  stops d e = ap (λ (x : Decoded). on_decoded x (walks (marks_of sizes body))) e

  pub body_stops : (d : Decoded) (row : List ℕ) → d ≡ end_of (walk_by sizes body 0) → on_decoded d (walks (marks_of sizes body)) ≡ undecodable → Walks (Err Unwalked.Undecodable) row (body_walk sizes temps opens pool body)
  body_stops d row e u = walks_stopped Unwalked.Undecodable row (body_walk sizes temps opens pool body) (ap used_of (sym u ∙ stops d e))

  pub body_walks : (marks first row : List ℕ) (r : Used) → marks ≡ mark_all (walk_by sizes body 0) first → first ≡ zeros (length body) → (Ok tt) ≡ end_of (walk_by sizes body 0)
      → Walks r row (walks marks) → Walks r row (body_walk sizes temps opens pool body)
  body_walks marks first row r m z e w =
      let s : walks marks ≡ body_walk sizes temps opens pool body = ap walks (m ∙ ap (mark_all (walk_by sizes body 0)) z ∙ sym (marks_are sizes body)) ∙ stops (Ok tt) e in
      rw (← s) w

pub marks_fitting : (sizes : ℕ → ℕ) (body marks first : List ℕ) → marks ≡ mark_all (walk_by sizes body 0) first → first ≡ zeros (length body) → Fitting marks body
marks_fitting sizes body marks first m z offset h =
    let l = length_zeros first (length body) z in
    rw m (marks_fit sizes body first (omega arith) (any_zero first (length body) z) offset h)

pub begins_walk : (numbers : List ℕ) (n : ℕ) → numbers ≡ zeros n → set numbers 0 1 ≡ begun n
begins_walk numbers n z = ap (λ (u : List ℕ). set u 0 1) (z ∙ zeros_are n) ∙ sym (begun_is n)

pub decoding_stops : (sizes : ℕ → ℕ) (temps : Temps) (opens : Opens) (pool : ℕ) (body row : List ℕ) (d : Decoded) (stop : Stop) → d ≡ Err stop → d ≡ end_of (walk_by sizes body 0)
    → Walks (Err Unwalked.Undecodable) row (body_walk sizes temps opens pool body)
decoding_stops sizes temps opens pool body row d (Stop.Unknown offset byte) e s = body_stops sizes temps opens pool body (Err (Stop.Unknown offset byte)) row (sym e ∙ s) refl
decoding_stops sizes temps opens pool body row d (Stop.Truncated offset opcode) e s = body_stops sizes temps opens pool body (Err (Stop.Truncated offset opcode)) row (sym e ∙ s) refl

-- a weight passes the pool by one at most
module _ (sizes : ℕ → ℕ) (temps : Temps) (opens : Opens) (pool : ℕ) (body : List ℕ) where
  small_by : (marks : List ℕ) → Fitting marks body → (w : Walked) → walks sizes temps opens pool body marks ≡ w → (d : Decoded) (usage : told.Usage) → Ok usage ≡ used_of (on_decoded d w) → usage.weight ≤ pool + 1
  small_by marks fits (walked numbers u) e (Ok _) usage h = let v : usage ≡ record { weight = u.weight; peak = u.peak } = cc in let q : usage.weight ≡ u.weight = ap (λ (x : told.Usage). x.weight) v in let s = weight_small temps opens marks body pool (2 * length body + 2) fits numbers u e in omega arith
  small_by marks fits undecodable e (Ok _) usage h = cc
  small_by marks fits crowded e (Ok _) usage h = cc
  small_by marks fits unfinished e (Ok _) usage h = cc
  small_by marks fits w e (Err (Stop.Unknown o b)) usage h = cc
  small_by marks fits w e (Err (Stop.Truncated o b)) usage h = cc

  pub body_small : (usage : told.Usage) → Ok usage ≡ used_of (body_walk sizes temps opens pool body) → usage.weight ≤ pool + 1
  unfolding body_walk
  body_small usage h =
      small_by (marks_of sizes body) (body_fits sizes body) (walks sizes temps opens pool body (marks_of sizes body)) refl (end_of (walk_by sizes body 0)) usage h

-- the weight that a body was laid with
pub lays_small : (sizes : ℕ → ℕ) (temps : Temps) (opens : Opens) (pool : ℕ) (body : List ℕ) (r : Used) (at : ℕ) (first last : List ℕ) (usage : told.Usage) → Lays r at first last (body_walk sizes temps opens pool body) → r ≡ Ok usage → usage.weight ≤ pool + 1
unfolding Walks
lays_small sizes temps opens pool body r at first last usage y e = body_small sizes temps opens pool body usage (sym e ∙ y.holds.0)
