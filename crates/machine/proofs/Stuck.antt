-- 01's sentence on where the machine stands still, both ways: from every other place it has a step, and from those it has none. By the cases of what
-- decodes, what is known, and where control goes; what decodes at an offset is one thing.
-- Assumes nothing.
--     step_or_stuck    a step, or one of 01's reasons
--     stuck_stays      and no step where there is a reason
use Rattle.rules.specs.declared.Unknown as of-rules
use Rattle.rules.specs.Look.{Known}
use Rattle.std.specs.Prelude.{Ok, Err, Some, None}
use Prim.Native.Nat.{ℕ, ◌+◌}
use native.Mathlib.Omega.{arith}
use mathlib.Core.Path.{◌≡◌, refl, sym, ap, ◌∙◌}
use mathlib.Core.List.{List, ◌∷◌}
use mathlib.Core.Logic.{◌⊎◌, inl, inr, ⊎_elim}
use lib.ListN.{length}
use Rattle.tables.specs.Set.{size_of, move_of}
use Rattle.flow.specs.Decode as decoding
use Rattle.flow.specs.declared.Instruction.{Instruction}
use Rattle.flow.specs.declared.Stop.{Stop}
use Rattle.flow.specs.declared.Flow.{Flow}
use Rattle.flow.specs.declared.Flow.TheVariants.{Next, Jump, Branch, Return}
use Rattle.flow.specs.declared.Spot.{Spot}
use Rattle.flow.specs.Decode.{found, moved, target_of, Target}
use Rattle.flow.specs.Walk.{marks_of}
use Rattle.program.specs.Program.{PoolProgram}
use Rattle.effects.specs.Effects.{known_of}
use Rattle.machine.specs.Machine.{Frame, body_in, decoded_at, operands_in, Acts, Onward, flow_at, Step, goes, returns, ends, Stuck, unassigned, cut, no_builtin, no_callee, no_target}

module _ (q : PoolProgram) (fr : Frame) (below : List Frame) where
  abbrev marks : List ℕ
  marks = marks_of size_of (body_in q fr)

  abbrev end : ℕ
  end = length (body_in q fr)

  abbrev Either : Type 0
  Either = ((d : List Frame) × Step q (fr ∷ below) d) ⊎ Stuck q fr

  module _ (x : Acts q fr) where
    abbrev next : ℕ
    next = fr.offset + x.size

    flows : (flow : Flow) → flow_at q fr x ≡ flow → Either
    flows Next e = inl (_, goes x next (rw e refl))
    flows (Jump word) e = by (target_of marks end (moved next word)) refl
      where
        by : (t : Target) → target_of marks end (moved next word) ≡ t → Either
        by (Ok to) g = inl (_, goes x to (rw e g))
        by (Err spot) g = inr (no_target x word spot (inl e) g)
    flows (Branch word) e = by (target_of marks end (moved next word)) refl
      where
        by : (t : Target) → target_of marks end (moved next word) ≡ t → Either
        by (Ok to) g = inl (_, goes x to (rw e (to, g, inl refl)))
        by (Err spot) g = inr (no_target x word spot (inr e) g)
    flows Return e = inl (below, returns x e)

  knows : (opcode size : ℕ) → decoded_at q fr ≡ found opcode size → (k : Known) → known_of move_of q.program opcode (operands_in q fr size) ≡ k → Either
  knows opcode size e (Ok f) g =
      let x : Acts q fr = record { opcode = opcode; size = size; effect = f; decodes = e; known = g } in
      flows x (flow_at q fr x) refl
  knows opcode size e (Err (of-rules.Unknown.Builtin id)) g = inr (no_builtin opcode size id e g)
  knows opcode size e (Err (of-rules.Unknown.Callee id)) g = inr (no_callee opcode size id e g)

  decodes : (s : decoding.Step) → decoded_at q fr ≡ s → Either
  decodes (Ok None) e = inl (below, ends e)
  decodes (Err (Stop.Unknown offset byte)) e = inr (unassigned offset byte e)
  decodes (Err (Stop.Truncated offset opcode)) e = inr (cut offset opcode e)
  decodes (Ok (Some i)) e = knows i.opcode i.size e (known_of move_of q.program i.opcode (operands_in q fr i.size)) refl

  pub step_or_stuck : Either
  step_or_stuck = decodes (decoded_at q fr) refl

-- what decodes is one thing
one_opcode : (s : decoding.Step) (op size op' size' : ℕ) → s ≡ found op size → s ≡ found op' size' → (op ≡ op') × (size ≡ size')
one_opcode s op size op' size' e f =
    let i : ◌≡◌ {A = Instruction} (record { opcode = op; size = size }) (record { opcode = op'; size = size' }) = cc in
    (ap (λ (i : Instruction). i.opcode) i, ap (λ (i : Instruction). i.size) i)

-- an instruction stands at none of these places
acts_not : (q : PoolProgram) (fr : Frame) (x : Acts q fr) (s : decoding.Step) → decoded_at q fr ≡ s → (s ≡ found x.opcode x.size → ⊥) → ⊥
acts_not q fr x s e n = n (sym e ∙ x.decodes)

known_not : (q : PoolProgram) (fr : Frame) (x : Acts q fr) (opcode size : ℕ) (k : Known) → decoded_at q fr ≡ found opcode size
    → known_of move_of q.program opcode (operands_in q fr size) ≡ k → k ≡ Ok x.effect
known_not q fr x opcode size k e g =
    let z = one_opcode (decoded_at q fr) opcode size x.opcode x.size e x.decodes in
    sym g ∙ rw (z.0, z.1) x.known

onward_not : (marks : List ℕ) (end next : ℕ) (flow : Flow) (word : ℕ) (spot : Spot) (to : ℕ) → (flow ≡ Jump word) ⊎ (flow ≡ Branch word)
    → target_of marks end (moved next word) ≡ Err spot → Onward marks end next flow to → ⊥
onward_not marks end next flow word spot to (inl e) g w =
    let t : target_of marks end (moved next word) ≡ Ok to = rw e at w in
    let z : ◌≡◌ {A = ℕ} 0 1 = cc in
    omega arith
onward_not marks end next flow word spot to (inr e) g w =
    let t : (target : ℕ) × (target_of marks end (moved next word) ≡ Ok target) × ((target ≡ to) ⊎ (next ≡ to)) = rw e at w in
    let u = t.1 in
    let z : ◌≡◌ {A = ℕ} 0 1 = cc in
    omega arith

turns_not : (flow : Flow) (word : ℕ) → (flow ≡ Jump word) ⊎ (flow ≡ Branch word) → flow ≡ Return → ⊥
turns_not flow word (inl e) r = let z : ◌≡◌ {A = ℕ} 0 1 = cc in omega arith
turns_not flow word (inr e) r = let z : ◌≡◌ {A = ℕ} 0 1 = cc in omega arith

module _ (q : PoolProgram) (fr : Frame) where
  -- two instructions at a place have one flow and one size
  same : (x y : Acts q fr) → (flow_at q fr y ≡ flow_at q fr x) × (y.size ≡ x.size)
  same x y =
      let z = one_opcode (decoded_at q fr) y.opcode y.size x.opcode x.size y.decodes x.decodes in
      (rw (z.0, z.1) refl, z.1)

  -- at such a place no instruction is known and goes on
  acting : Stuck q fr → (y : Acts q fr) → ((to : ℕ) × Onward (marks_of size_of (body_in q fr)) (length (body_in q fr)) (fr.offset + y.size) (flow_at q fr y) to) ⊎ (flow_at q fr y ≡ Return) → ⊥
  acting (unassigned offset byte e) y w = acts_not q fr y (Err (Stop.Unknown offset byte)) e (λ f. let z : ◌≡◌ {A = ℕ} 0 1 = cc in omega arith)
  acting (cut offset opcode e) y w = acts_not q fr y (Err (Stop.Truncated offset opcode)) e (λ f. let z : ◌≡◌ {A = ℕ} 0 1 = cc in omega arith)
  acting (no_builtin opcode size id e g) y w = let f = known_not q fr y opcode size (Err (of-rules.Unknown.Builtin id)) e g in let z : ◌≡◌ {A = ℕ} 0 1 = cc in omega arith
  acting (no_callee opcode size id e g) y w = let f = known_not q fr y opcode size (Err (of-rules.Unknown.Callee id)) e g in let z : ◌≡◌ {A = ℕ} 0 1 = cc in omega arith
  acting (no_target x word spot f g) y w =
      let s = same x y in
      let f' : (flow_at q fr y ≡ Jump word) ⊎ (flow_at q fr y ≡ Branch word) = ⊎_elim (λ e. inl (s.0 ∙ e)) (λ e. inr (s.0 ∙ e)) f in
      let g' : target_of (marks_of size_of (body_in q fr)) (length (body_in q fr)) (moved (fr.offset + y.size) word) ≡ Err spot =
      ap (λ (n : ℕ). target_of (marks_of size_of (body_in q fr)) (length (body_in q fr)) (moved (fr.offset + n) word)) s.1 ∙ g in
      ⊎_elim (λ o. onward_not (marks_of size_of (body_in q fr)) (length (body_in q fr)) (fr.offset + y.size) (flow_at q fr y) word spot o.0 f' g' o.1)
      (λ r. turns_not (flow_at q fr y) word f' r) w

  ending : Stuck q fr → decoded_at q fr ≡ Ok None → ⊥
  ending (unassigned offset byte e) f = let z : ◌≡◌ {A = ℕ} 0 1 = cc in omega arith
  ending (cut offset opcode e) f = let z : ◌≡◌ {A = ℕ} 0 1 = cc in omega arith
  ending (no_builtin opcode size id e g) f = let z : ◌≡◌ {A = ℕ} 0 1 = cc in omega arith
  ending (no_callee opcode size id e g) f = let z : ◌≡◌ {A = ℕ} 0 1 = cc in omega arith
  ending (no_target x word spot t g) f = let e = x.decodes in let z : ◌≡◌ {A = ℕ} 0 1 = cc in omega arith

  pub stuck_stays : (below d : List Frame) → Stuck q fr → Step q (fr ∷ below) d → ⊥
  stuck_stays below d s (goes x to w) = acting s x (inl (to, w))
  stuck_stays below d s (returns x e) = acting s x (inr e)
  stuck_stays below d s (ends e) = ending s e
