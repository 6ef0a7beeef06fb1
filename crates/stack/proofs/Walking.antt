-- The walk's loop over its columns, for any rules: the definition, run from the entry in hand and what is left of the queue, gives what it gives
-- from the start. A law for each way that a turn can go.
-- Assumes nothing.
use Rattle.std.specs.Prelude.{Ok, Err, Some, None}
use Prim.Native.Nat.{ℕ, ◌+◌, ◌-◌, ◌≤◌, ◌<◌}
use native.Mathlib.Omega.{arith}
use mathlib.Core.Path.{◌≡◌, refl, ◌∙◌, ap, sym}
use mathlib.Core.Bool.{true}
use mathlib.Core.List.{List, [], ◌∷◌, ◌++◌}
use lib.ListN.{length, get_or, take, drop}
use Rattle.rules.specs.declared.Violation.{Violation}
use Rattle.rules.specs.Walk.{stop, go, follow, walk_from, begun, walk_of}
use Rattle.rules.proofs.Counting.{count_le, length_begun, count_begun, begun_first}
use Rattle.rules.proofs.Queue.{loop_stop, loop_go, loop_empty, loop_on, walk_over, walk_begun}
use Rattle.rules.specs.Look.{Look}
use Rattle.stack.specs.declared.queue.Reached.{Reached}
use Rattle.stack.specs.Columns.{Ready, Turns}

pub record Walking (rule : ℕ → ℕ → Look) (n : ℕ) (depths queue : List ℕ) (head tail offset depth left : ℕ) : Type 0 where
  pub long : length depths ≡ n
  pub ready : Ready depths queue tail
  pub behind : head ≤ tail
  pub deep : depth ≡ get_or depths offset 0 - 1
  pub small : depth < 4294967296
  pub goes_on : walk_from rule left depths (offset ∷ drop head (take tail queue)) ≡ walk_of rule n

pub tail_in : (depths queue : List ℕ) (tail : ℕ) → Ready depths queue tail → tail < length queue
tail_in depths queue tail r = let l = count_le depths in omega (arith, r)

pub walking_first : (rule : ℕ → ℕ → Look) (n : ℕ) (depths queue : List ℕ) (tail : ℕ) → depths ≡ begun n → tail ≡ 0 → 0 < n → Ready depths queue tail → Walking rule n depths queue 0 tail 0 0 n
walking_first rule n depths queue tail e z p r =
    let k = length_begun n in
    let b = begun_first n p in
    record {
      long = rw e k;
      ready = r;
      behind = omega arith;
      deep = rw e (omega (arith, b));
      small = omega arith;
      goes_on = rw (e, z) (walk_begun rule n);
    }

module _ (rule : ℕ → ℕ → Look) (n : ℕ) (depths queue : List ℕ) (head tail offset depth left : ℕ) (w : Walking rule n depths queue head tail offset depth left) where
  room : tail ≤ length queue
  room = let l = tail_in depths queue tail w.ready in omega arith

  -- no turn is left
  pub walking_over : left ≡ 0 → Ok tt ≡ walk_of rule n
  walking_over z = sym (walk_over rule depths (offset ∷ drop head (take tail queue))) ∙ ap (λ (k : ℕ). walk_from rule k depths (offset ∷ drop head (take tail queue))) (sym z) ∙ w.goes_on

  module _ (more : 0 < left) (d q : List ℕ) where
    pub walking_stop : (v : Violation) → follow depths (take tail queue) (rule offset depth) ≡ stop v → Err v ≡ walk_of rule n
    walking_stop v e = sym (loop_stop rule depths queue offset depth head tail (rule offset depth) w.deep refl w.behind room left v more e) ∙ w.goes_on

    module _ (end : ℕ) (long : length d ≡ length depths) (turn : Turns (true) tail queue (Ok None) end d q (follow depths (take tail queue) (rule offset depth))) where
      pub walking_empty : end ≤ head → Ok tt ≡ walk_of rule n
      walking_empty h =
          let l = tail_in d q end turn.1.0 in
          sym (loop_empty rule depths queue offset depth head tail (rule offset depth) w.deep refl w.behind room left d q end more turn.0 h (omega arith)) ∙ w.goes_on

      pub walking_go : (to out : ℕ) → head < end → to ≡ get_or q head 0 → out ≡ get_or d to 0 - 1 → out < 4294967296 → Walking rule n d q (head + 1) end to out (left - 1)
      walking_go to out h e o s =
          let l = tail_in d q end turn.1.0 in
          let g = loop_go rule depths queue offset depth head tail (rule offset depth) w.deep refl w.behind room left d q end more turn.0 h (omega arith) in
          record {
            long = long ∙ w.long;
            ready = turn.1.0;
            behind = omega arith;
            deep = o;
            small = s;
            goes_on = ap (λ (k : ℕ). walk_from rule (left - 1) d (k ∷ drop (head + 1) (take end q))) e ∙ sym g ∙ w.goes_on;
          }

    pub walking_on : (r : Reached) (end : ℕ) → length d ≡ length depths → head ≡ tail → Turns true tail queue (Ok (Some r)) end d q (follow depths (take tail queue) (rule offset depth)) → Walking rule n d q head tail r.offset r.depth (left - 1) × (length q ≡ length queue)
    walking_on r end long h turn =
        let to = r.offset in
        let t = turn.1.1 in
        let g = loop_on rule depths queue offset depth head tail (rule offset depth) w.deep refl w.behind room left d to more h (t.0 ∙ ap (λ (u : List ℕ). go d (take tail u ++ (to ∷ []))) t.1.0) in (
          record {
            long = long ∙ w.long;
            ready = t.1.1.1.1;
            behind = w.behind;
            deep = omega (arith, t.1.1.0);
            small = omega (arith, t.1.1.1.0);
            goes_on = ap (λ (u : List ℕ). walk_from rule (left - 1) d (to ∷ drop head (take tail u))) t.1.0 ∙ sym g ∙ w.goes_on;
          },
          ap length t.1.0,
        )

-- the columns that a walk begins with
pub begins_ready : (depths queue : List ℕ) (n : ℕ) → depths ≡ begun n → 0 < n → n ≤ length queue → n ≤ 65536 → Ready depths queue 0
begins_ready depths queue n e p l s =
    let k = length_begun n in
    let c = count_begun n p in
    rw e (record { small = omega arith; room = omega arith; counted = omega arith })
