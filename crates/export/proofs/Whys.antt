-- Why a turn cannot be taken, by the registers' words.
use Rattle.std.proofs.Common.{◌≡◌, ℕ, Bool, true, false, cond, eqb, List, length, Some, None, Ok, Err, Option, refl, subst, arith}
use Rattle.std.proofs.lemmas.Bool.{eqb-false}
use Rattle.std.proofs.lemmas.Option.{MatchOption-at_some}
use Rattle.std.specs.Array.{IsWholeChunk}
use Rattle.std.specs.Option.{MatchOption, ok_or}
use Rattle.routes.specs.declared.Cpu.{Cpu}
use Rattle.port.specs.Registers.{cpu_of}
use Rattle.export.specs.declared.refusal.Refusal.{Refusal}
use Rattle.export.specs.declared.refusal.Refusal.TheVariants.{Length, Registers}
use Rattle.export.specs.Calls.{loaded}
use Rattle.export.specs.Turns.{WhyNot}

-- The words that are taken for an array are those of the slice.
pub same_words : {R : Type 0} (P : Type 0) (now : R → List ℕ) (o : List ℕ) (n : ℕ) {r : Option R} {y : R} → MatchOption r P (λ y. IsWholeChunk o (now y) n) → r ≡ Some y → now y ≡ o
same_words P now o n {y = y} c e = (MatchOption-at_some P (λ y. IsWholeChunk o (now y) n) y e c).same

-- A processor that was loaded is in the registers.
pub load_ok : (o : List ℕ) (c : Cpu) → Ok c ≡ loaded o → cpu_of o ≡ Some c
load_ok o c q = go (eqb (length o) 16) (cpu_of o) refl refl q
  where
    go : (b : Bool) (m : Option Cpu) → eqb (length o) 16 ≡ b → cpu_of o ≡ m → Ok c ≡ cond b (ok_or m Registers) (Err Length) → cpu_of o ≡ Some c
    go true None p h r = grind arith
    go true (Some d) p h r = cc
    go false m p h r = grind arith

-- None was loaded: there are not 16 registers, or they are damaged.
pub load_why : (o : List ℕ) (e : Refusal) → Err e ≡ loaded o → (p cpus x : ℕ) (u : List ℕ) → WhyNot e p cpus x o u
load_why o e q p cpus x u = go (eqb (length o) 16) (cpu_of o) refl refl q
  where
    go : (b : Bool) (m : Option Cpu) → eqb (length o) 16 ≡ b → cpu_of o ≡ m → Err e ≡ cond b (ok_or m Registers) (Err Length) → WhyNot e p cpus x o u
    go true None t h r = let same : Registers ≡ e = grind arith in subst (λ z. WhyNot z p cpus x o u) same (λ c s w. grind arith)
    go true (Some d) t h r = grind arith
    go false m t h r = let same : Length ≡ e = grind arith in subst (λ z. WhyNot z p cpus x o u) same (λ n s. eqb-false (length o) 16 t n)
