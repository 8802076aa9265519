-- The places of temporaries, by their registers.
use Rattle.std.specs.Prelude.{ℕ, zero, suc, ◌≡◌, ◌+◌, ◌≤◌, ◌<◌, Option, Some, None, List, [], ◌∷◌, length, slice_get}
use Rattle.std.specs.List.{AllByRecursion}
use Rattle.std.proofs.Common.{arith, refl, ap, inl, inr}
use Rattle.std.proofs.lemmas.Option.{same_Some}
use Rattle.pw_files.proofs.Standing.{Has}
use Rattle.pw_alloc.specs.declared.located.Place.{Place}
use Rattle.pw_alloc.specs.declared.located.Place.TheVariants.{Slot, Reg}
use Rattle.pw_alloc.specs.Frames.{temp_offset}
use Rattle.pw_alloc.specs.Allocation.{in_frame}
use Rattle.pw_alloc_temps.specs.Temporaries.{placed}

pub each_placed : (head saved i : ℕ) (regs : List (Option ℕ)) → length (placed head saved i regs) ≡ length regs
each_placed head saved i [] = refl
each_placed head saved i (Some r ∷ rest) = ap suc (each_placed head saved i rest)
each_placed head saved i (None ∷ rest) = ap suc (each_placed head saved (suc i) rest)

-- ---- registers

pub register_at : (head saved i : ℕ) (regs : List (Option ℕ)) (t r : ℕ) → slice_get regs t ≡ Some (Some r) → slice_get (placed head saved i regs) t ≡ Some (Reg r)
register_at head saved i [] t r e = absurd cc
register_at head saved i (Some q ∷ rest) zero r e = ap (λ n. Some (Reg n)) (same_Some q r (same_Some (Some q) (Some r) e))
register_at head saved i (None ∷ rest) zero r e = absurd cc
register_at head saved i (Some q ∷ rest) (suc t) r e = register_at head saved i rest t r e
register_at head saved i (None ∷ rest) (suc t) r e = register_at head saved (suc i) rest t r e

pub register_back : (head saved i : ℕ) (regs : List (Option ℕ)) (r : ℕ) → Has (Reg r) (placed head saved i regs) → Has (Some r) regs
register_back head saved i [] r h = absurd h
register_back head saved i (Some q ∷ rest) r (inl e) = let k : q ≡ r = cc in inl (ap Some k)
register_back head saved i (Some q ∷ rest) r (inr h) = inr (register_back head saved i rest r h)
register_back head saved i (None ∷ rest) r (inl e) = absurd cc
register_back head saved i (None ∷ rest) r (inr h) = inr (register_back head saved (suc i) rest r h)

pub register_there : (head saved i : ℕ) (regs : List (Option ℕ)) (r : ℕ) → Has (Some r) regs → Has (Reg r) (placed head saved i regs)
register_there head saved i [] r h = absurd h
register_there head saved i (Some q ∷ rest) r (inl e) = inl (ap Reg (same_Some q r e))
register_there head saved i (Some q ∷ rest) r (inr h) = inr (register_there head saved i rest r h)
register_there head saved i (None ∷ rest) r (inl e) = absurd cc
register_there head saved i (None ∷ rest) r (inr h) = inr (register_there head saved (suc i) rest r h)

-- what holds of the registers, and of the words of the frame up to some number, holds of each place
pub placed_each : (P : Place → Type 0) (head saved i total : ℕ) (regs : List (Option ℕ)) → ((r : ℕ) → Has (Some r) regs → P (Reg r)) → ((k : ℕ) → k < total → P (Slot (temp_offset head saved k)))
    → i + in_frame (placed head saved i regs) ≤ total → AllByRecursion P (placed head saved i regs)
placed_each P head saved i total [] registers words le = tt
placed_each P head saved i total (Some r ∷ rest) registers words le = (registers r (inl refl), placed_each P head saved i total rest (λ q h. registers q (inr h)) words le)
placed_each P head saved i total (None ∷ rest) registers words le =
    (words i (omega (arith, le)), placed_each P head saved (suc i) total rest (λ q h. registers q (inr h)) words (omega (arith, le)))
