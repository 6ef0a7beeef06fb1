-- The rules at one place, a law for each case, with its tests as hypotheses: 01's order is what each law asks of the tests before its own.
-- The code of a look is proved by these alone.
-- Assumes nothing.
use Rattle.std.specs.Prelude.{Ok, Err}
use mathlib.Core.Path.{◌≡◌, refl, ◌∙◌, ap}
use mathlib.Core.Bool.{Bool, true, false, cond}
use mathlib.Core.List.{List}
use Prim.Native.Nat.{ℕ, ◌+◌, ◌-◌, ◌≤◌, ◌<◌}
use lib.ListN.{length, get_or}
use lib.Dec.{ltb}
use borrow.Author.Tests.{ltb-true, lt-ltb, le-ltb, eq-eqb, ne_eqb}
use Rattle.tables.specs.declared.Effect.{Effect}
use Rattle.flow.specs.declared.Spot.{Spot}
use Rattle.flow.specs.declared.Flow.TheVariants.{Next, Jump, Branch, Return}
use Rattle.flow.specs.Decode.{operands_at, flow_of, moved, target_of}
use Rattle.rules.specs.declared.Unknown.{Unknown}
use Rattle.rules.specs.declared.Onward.TheVariants.{Leaves, Goes, Forks}
use Rattle.rules.specs.declared.Violation.{Violation}
use Rattle.rules.specs.Look.{Effects, larger, exit_at, flowing, moving, on_known, acting, look_of, Known, Look}

-- an exit at the right depth, and at another
pub exit_leaves : (offset expected depth : ℕ) → depth ≡ expected → exit_at offset expected depth ≡ Ok Leaves
exit_leaves offset expected depth e = simp (eq-eqb depth expected e)

pub exit_bad : (offset expected depth : ℕ) → (depth ≡ expected → ⊥) → exit_at offset expected depth ≡ Err (Violation.UnbalancedReturn offset expected depth)
exit_bad offset expected depth n = simp (ne_eqb depth expected n)

-- 7 and the successors
module _ (marks : List ℕ) (end offset next op out : ℕ) where
  pub flowing_next : flowing marks end offset next op out Next ≡ Ok (Goes out next)
  unfolding flowing
  flowing_next = refl

  pub jump_legal : (word to : ℕ) → target_of marks end (moved next word) ≡ Ok to → flowing marks end offset next op out (Jump word) ≡ Ok (Goes out to)
  unfolding flowing
  jump_legal word to e = rw e

  pub jump_illegal : (word : ℕ) (spot : Spot) → target_of marks end (moved next word) ≡ Err spot → flowing marks end offset next op out (Jump word) ≡ Err (Violation.InvalidJumpTarget offset spot)
  unfolding flowing
  jump_illegal word spot e = rw e

  pub branch_legal : (word to : ℕ) → target_of marks end (moved next word) ≡ Ok to → flowing marks end offset next op out (Branch word) ≡ Ok (Forks out to next)
  unfolding flowing
  branch_legal word to e = rw e

  pub branch_illegal : (word : ℕ) (spot : Spot) → target_of marks end (moved next word) ≡ Err spot → flowing marks end offset next op out (Branch word) ≡ Err (Violation.InvalidJumpTarget offset spot)
  unfolding flowing
  branch_illegal word spot e = rw e

  -- RET_VOID
  pub ret_void_exit : (op ≡ 0x88 → ⊥) → flowing marks end offset next op out Return ≡ exit_at offset 0 out
  unfolding flowing
  ret_void_exit n = simp (ne_eqb op 0x88 n)

  -- RET
  pub ret_exit : op ≡ 0x88 → flowing marks end offset next op out Return ≡ exit_at offset 1 out
  unfolding flowing
  ret_exit e = simp (eq-eqb op 0x88 e)

module _ (known : Effects) (marks body : List ℕ) (maximum offset depth : ℕ) where
  -- the body length
  pub look_end : length body ≤ offset → look_of known marks body maximum offset depth ≡ exit_at offset 0 depth
  unfolding look_of
  look_end l = simp (le-ltb offset (length body) l)

  -- an instruction
  module _ (op size : ℕ) (operands : List ℕ) (within : offset < length body) (is_op : op ≡ get_or body offset 0) (is_size : size ≡ get_or marks offset 0) (are : operands ≡ operands_at body offset size) where
    -- what is left of the rules when the effect is looked up
    abbrev pub after : Known → Look
    after k = on_known offset (λ e. moving offset op maximum depth e (λ out. flowing marks (length body) offset (offset + size) op out (flow_of op operands))) k

    pub look_known : (k : Known) → known op operands ≡ k → look_of known marks body maximum offset depth ≡ after k
    unfolding look_of acting
    look_known k e = simp (lt-ltb offset (length body) within, ← is_op, ← is_size, ← are, e)

    pub look_builtin : (id : ℕ) → known op operands ≡ Err (Unknown.Builtin id) → look_of known marks body maximum offset depth ≡ Err (Violation.UnknownBuiltin offset id)
    look_builtin id e = look_known (Err (Unknown.Builtin id)) e

    pub look_callee : (callee : ℕ) → known op operands ≡ Err (Unknown.Callee callee) → look_of known marks body maximum offset depth ≡ Err (Violation.UnknownCallee offset callee)
    look_callee callee e = look_known (Err (Unknown.Callee callee)) e

    module _ (e : Effect) (is_known : known op operands ≡ Ok e) where
      pub look_underflow : depth < e.takes → look_of known marks body maximum offset depth ≡ Err (Violation.Underflow offset op e.takes depth)
      unfolding moving
      look_underflow l = look_known (Ok e) is_known ∙ simp (lt-ltb depth e.takes l)

      module _ (out peak : ℕ) (enough : e.takes ≤ depth) (is-out : out ≡ depth - e.takes + e.leaves) (is-peak : peak ≡ larger depth out) where
        pub look_exceeds : maximum < peak → look_of known marks body maximum offset depth ≡ Err (Violation.ExceedsDeclaredMax offset peak maximum)
        unfolding moving
        look_exceeds l = look_known (Ok e) is_known ∙ simp (le-ltb depth e.takes enough, ← is-out, ← is-peak, lt-ltb maximum peak l)

        pub look_flow : peak ≤ maximum → look_of known marks body maximum offset depth ≡ flowing marks (length body) offset (offset + size) op out (flow_of op operands)
        unfolding moving
        look_flow l = look_known (Ok e) is_known ∙ simp (le-ltb depth e.takes enough, ← is-out, ← is-peak, le-ltb maximum peak l)

-- effects that agree at the opcodes of a body give the same looks
alike_by : (known other : Effects) (marks body : List ℕ) (maximum offset depth : ℕ) → (offset < length body → (operands : List ℕ) → known (get_or body offset 0) operands ≡ other (get_or body offset 0) operands)
    → (b : Bool) → ltb offset (length body) ≡ b
    → cond b (acting known marks body maximum offset depth (get_or body offset 0) (get_or marks offset 0)) (exit_at offset 0 depth) ≡ cond b (acting other marks body maximum offset depth (get_or body offset 0) (get_or marks offset 0)) (exit_at offset 0 depth)
unfolding acting
alike_by known other marks body maximum offset depth h true e =
    ap (on_known offset (λ f. moving offset (get_or body offset 0) maximum depth f (λ out. flowing marks (length body) offset (offset + get_or marks offset 0) (get_or body offset 0) out (flow_of (get_or body offset 0) (operands_at body offset (get_or marks offset 0))))))
    (h (ltb-true offset (length body) e) (operands_at body offset (get_or marks offset 0)))
alike_by known other marks body maximum offset depth h false e = refl

alike : (known other : Effects) (marks body : List ℕ) (maximum offset depth : ℕ) → (offset < length body → (operands : List ℕ) → known (get_or body offset 0) operands ≡ other (get_or body offset 0) operands)
    → look_of known marks body maximum offset depth ≡ look_of other marks body maximum offset depth
unfolding look_of
alike known other marks body maximum offset depth h = alike_by known other marks body maximum offset depth h (ltb offset (length body)) refl

pub look_alike : (known other : Effects) (marks body : List ℕ) (maximum : ℕ) → ((offset : ℕ) → offset < length body → (operands : List ℕ) → known (get_or body offset 0) operands ≡ other (get_or body offset 0) operands)
    → look_of known marks body maximum ≡ look_of other marks body maximum
look_alike known other marks body maximum h = λ i offset depth. alike known other marks body maximum offset depth (h offset) i
