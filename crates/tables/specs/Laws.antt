-- The laws of the instruction set that the crates above use, in the place of its rows. Each is one test over the rows, which antt computes.
-- Assumes nothing.
use Rattle.std.specs.Prelude.{◌≡◌, refl, Bool, true, false, cond, not, ◌&&◌, ◌||◌, List, [], ◌∷◌, ℕ, zero, suc, ◌+◌, ◌≤◌, T, eqb, leb}
use Rattle.std.proofs.Common.{ap, subst, sym, arith, leb→le, eqb→eq, eqb-true}
use Rattle.tables.specs.declared.Move.{Move}
use Rattle.tables.specs.declared.Move.TheVariants.{Fixed, Builtin, Call, Method}
use Rattle.tables.specs.declared.TempEffect.{TempEffect}
use Rattle.tables.specs.declared.TempEffect.TheVariants.{Keeps, Borrows, GivesBack}
use Rattle.tables.specs.Set.{Row, Found, unassigned, assigned, instruction_set, opcode_of, find, is_assigned, assigned_of, size_found, move_found, temp_found, effect, size_of, move_of, temp_of, takes_move, leaves_move}
use Rattle.tables.specs.Packed.{turns, sort_found, sort_of, plain_of, temp_code}

pub and_left : (a b : Bool) → T (a && b) → T a
and_left true b t = tt
and_left false b t = t

pub and_right : (a b : Bool) → T (a && b) → T b
and_right true b t = t
and_right false b t = absurd t

-- the test passes at each row
abbrev pub every : (ℕ → Found → Bool) → List Row → Bool
every P [] = true
every P (r ∷ rs) = P (opcode_of r) (assigned r) && every P rs

step : (P : ℕ → Found → Bool) (r : Row) (f : Found) (op : ℕ) (b : Bool) → eqb op (opcode_of r) ≡ b → T (P (opcode_of r) (assigned r)) → T (P op f) → T (P op (cond b (assigned r) f))
step P r f op true e t u = subst (λ (m : ℕ). T (P m (assigned r))) (sym (eqb-true op (opcode_of r) e)) t
step P r f op false e t u = u

-- a test that each row passes, and the unassigned, is passed by what is found
pub found : (P : ℕ → Found → Bool) (rs : List Row) → ((op : ℕ) → T (P op unassigned)) → T (every P rs) → (op : ℕ) → T (P op (find rs op))
found P [] n t op = n op
found P (r ∷ rs) n t op =
    step P r (find rs op) op (eqb op (opcode_of r)) refl (and_left (P (opcode_of r) (assigned r)) (every P rs) t)
    (found P rs n (and_right (P (opcode_of r) (assigned r)) (every P rs) t) op)

-- sizes of assigned bytes are 1 to 9, and an unassigned byte has size 0
pub size_le : (op : ℕ) → size_of op ≤ 9
unfolding size_of instruction_set
size_le op = leb→le (size_of op) 9 (found (λ o f. leb (size_found f) 9) instruction_set (λ o. tt) tt op)

alike : Bool → Bool → Bool
alike true b = b
alike false b = not b

alike_eq : (a b : Bool) → T (alike a b) → a ≡ b
unfolding alike
alike_eq true true t = refl
alike_eq true false t = absurd t
alike_eq false true t = absurd t
alike_eq false false t = refl

pub assigned_size : (op : ℕ) → assigned_of op ≡ leb 1 (size_of op)
unfolding assigned_of size_of instruction_set alike
assigned_size op =
    alike_eq (assigned_of op) (leb 1 (size_of op)) (found (λ o f. alike (is_assigned f) (leb 1 (size_found f))) instruction_set (λ o. tt) tt op)

-- how many of the first n numbers are assigned
abbrev pub assigned_below : ℕ → ℕ
assigned_below zero = 0
assigned_below (suc n) = cond (assigned_of n) 1 0 + assigned_below n

-- 130 bytes are assigned, 126 are not
pub assigned_count : assigned_below 256 ≡ 130
unfolding assigned_of instruction_set
assigned_count = refl

-- an effect of the table leaves at most one more than it takes
pub leaves_le : (op : ℕ) → leaves_move (move_of op) ≤ takes_move (move_of op) + 1
unfolding move_of instruction_set
leaves_le op =
    leb→le (leaves_move (move_of op)) (takes_move (move_of op) + 1)
    (found (λ o f. leb (leaves_move (move_found f)) (takes_move (move_found f) + 1)) instruction_set (λ o. tt) tt op)

or_right : (a b : Bool) → T b → T (a || b)
or_right true b t = tt
or_right false b t = t

-- what a test `not a || b` says where a holds
then : (a b : Bool) → T (not a || b) → a ≡ true → T b
then true b t e = t
then false b t e = let z : ◌≡◌ {A = Bool} false true = e in absurd (let w : ◌≡◌ {A = ℕ} 0 1 = cc in omega arith)

abbrev is_fixed : Move → Bool
is_fixed (Fixed e) = true
is_fixed Builtin = false
is_fixed Call = false
is_fixed Method = false

fixed_form : (m : Move) → T (is_fixed m) → m ≡ Fixed (effect (takes_move m) (leaves_move m))
fixed_form (Fixed e) t = refl
fixed_form Builtin t = absurd t
fixed_form Call t = absurd t
fixed_form Method t = absurd t

keeps_form : (e : TempEffect) → T (eqb (temp_code e) 0) → e ≡ Keeps
keeps_form Keeps t = refl
keeps_form Borrows t = absurd t
keeps_form GivesBack t = absurd t

-- the branching and leaving instructions move no buffers and have fixed effects
pub turn_temp : (op : ℕ) → turns op ≡ true → temp_of op ≡ Keeps
unfolding temp_of instruction_set turns
turn_temp op e =
    keeps_form (temp_of op) (then (turns op) (eqb (temp_code (temp_of op)) 0) (found (λ o f. not (turns o) || eqb (temp_code (temp_found f)) 0) instruction_set (λ o. or_right (not (turns o)) true tt) tt op) e)

pub turn_fixed : (op : ℕ) → turns op ≡ true → move_of op ≡ Fixed (effect (takes_move (move_of op)) (leaves_move (move_of op)))
unfolding move_of instruction_set turns
turn_fixed op e =
    fixed_form (move_of op) (then (turns op) (is_fixed (move_of op)) (found (λ o f. not (turns o) || is_fixed (move_found f)) instruction_set (λ o. or_right (not (turns o)) true tt) tt op) e)

-- what a plain instruction is
pub record Plain (op : ℕ) : Type 0 where
  pub is_fixed_lem : move_of op ≡ Fixed (effect (takes_move (move_of op)) (leaves_move (move_of op)))
  pub goes_on : turns op ≡ false
  pub no_block : eqb op 0xA4 ≡ false

not_eq : (a : Bool) → T (not a) → a ≡ false
not_eq true t = absurd t
not_eq false t = refl

plain_by : (op : ℕ) → T (is_fixed (move_of op) && (not (turns op) && not (eqb op 0xA4))) → Plain op
plain_by op t =
    let u = and_right (is_fixed (move_of op)) (not (turns op) && not (eqb op 0xA4)) t in
    record {
      is_fixed_lem = fixed_form (move_of op) (and_left (is_fixed (move_of op)) _ t);
      goes_on = not_eq (turns op) (and_left (not (turns op)) (not (eqb op 0xA4)) u);
      no_block = not_eq (eqb op 0xA4) (and_right (not (turns op)) (not (eqb op 0xA4)) u);
    }

pub plain : (op : ℕ) → plain_of op ≡ true → Plain op
unfolding plain_of sort_of move_of instruction_set turns
plain op e =
    plain_by op (then (plain_of op) (is_fixed (move_of op) && (not (turns op) && not (eqb op 0xA4))) (found (λ o f. not (eqb (sort_found f) 1) || (is_fixed (move_found f) && (not (turns o) && not (eqb o 0xA4)))) instruction_set (λ o. tt) tt op) e)

-- the sizes that 01 names, and those of the other instructions that carry a branch, an id or a return
pub record NamedSizes : Type 0 where
  pub call : size_of 0x84 ≡ 5
  pub method_call : size_of 0xF8 ≡ 8
  pub cmp_br_i32 : size_of 0xF4 ≡ 8
  pub cmp_br_i64 : size_of 0xF5 ≡ 8
  pub str_init : size_of 0xB8 ≡ 8
  pub concat_str : size_of 0xE4 ≡ 9
  pub jmp : size_of 0x7C ≡ 3
  pub jmp_if_not : size_of 0x80 ≡ 3
  pub builtin : size_of 0x94 ≡ 3
  pub fb_call : size_of 0xA4 ≡ 3
  pub ret : size_of 0x88 ≡ 1
  pub ret_void : size_of 0x8C ≡ 1

pub named_sizes : NamedSizes
unfolding size_of instruction_set
named_sizes =
    record { call = refl; method_call = refl; cmp_br_i32 = refl; cmp_br_i64 = refl; str_init = refl; concat_str = refl; jmp = refl; jmp_if_not = refl; builtin = refl; fb_call = refl; ret = refl; ret_void = refl }

-- an instruction that turns nowhere is none of the branching and leaving ones
pub record NoTurn (op : ℕ) : Type 0 where
  pub not_jmp : op ≡ 0x7C → ⊥
  pub not_jmp_if_not : op ≡ 0x80 → ⊥
  pub not_cmp_br_i32 : op ≡ 0xF4 → ⊥
  pub not_cmp_br_i64 : op ≡ 0xF5 → ⊥
  pub not_ret : op ≡ 0x88 → ⊥
  pub not_ret_void : op ≡ 0x8C → ⊥

differ : (a : Bool) → a ≡ false → a ≡ true → ⊥
differ a e w = let z : ◌≡◌ {A = ℕ} 0 1 = cc in omega arith

pub no_turn : (op : ℕ) → turns op ≡ false → NoTurn op
unfolding turns
no_turn op h =
    record {
      not_jmp = λ e. differ (turns op) h (ap turns e);
      not_jmp_if_not = λ e. differ (turns op) h (ap turns e);
      not_cmp_br_i32 = λ e. differ (turns op) h (ap turns e);
      not_cmp_br_i64 = λ e. differ (turns op) h (ap turns e);
      not_ret = λ e. differ (turns op) h (ap turns e);
      not_ret_void = λ e. differ (turns op) h (ap turns e);
    }

abbrev is_method : Move → Bool
is_method (Fixed e) = false
is_method Builtin = false
is_method Call = false
is_method Method = true

-- only METHOD_CALL asks what a function gives back
pub method_only : (op : ℕ) → move_of op ≡ Method → op ≡ 0xF8
unfolding move_of instruction_set
method_only op e =
    eqb→eq op 0xF8 (then (is_method (move_of op)) (eqb op 0xF8) (found (λ o f. not (is_method (move_found f)) || eqb o 0xF8) instruction_set (λ o. tt) tt op) (ap is_method e))
