-- The words of the frame for temporaries, one behind the other.
use Rattle.std.specs.Prelude.{ℕ, zero, suc, ℤ, pos, neg_ℤ, negsuc, ◌≡◌, ◌+◌, ◌*◌, ◌<◌, Option, Some, None, List, [], ◌∷◌, length, slice_get}
use Rattle.std.proofs.Common.{arith, refl, sym, ap, ◌∙◌}
use Rattle.std.proofs.Math.IntN.{neg_ℤ-neg_ℤ}
use Rattle.pw_alloc.specs.declared.located.Place.{Place}
use Rattle.pw_alloc.specs.declared.located.Place.TheVariants.{Slot, Reg}
use Rattle.pw_alloc.specs.Frames.{temp_offset}
use Rattle.pw_alloc.specs.Allocation.{slots_from, in_frame}
use Rattle.pw_alloc_temps.specs.Temporaries.{placed}
use Rattle.pw_run_languages.specs.Serving.{slots_alone}

-- how many of the first so many have none
pub nones : List (Option ℕ) → ℕ → ℕ
nones [] t = 0
nones (o ∷ rest) zero = 0
nones (Some r ∷ rest) (suc t) = nones rest t
nones (None ∷ rest) (suc t) = suc (nones rest t)

pub word_at : (head saved i : ℕ) (regs : List (Option ℕ)) (t : ℕ) → slice_get regs t ≡ Some None → slice_get (placed head saved i regs) t ≡ Some (Slot (temp_offset head saved (i + nones regs t)))
unfolding nones
word_at head saved i [] t e = absurd cc
word_at head saved i (Some q ∷ rest) zero e = absurd cc
word_at head saved i (None ∷ rest) zero e = let z : i ≡ i + 0 = omega arith in ap (λ n. Some (Slot (temp_offset head saved n))) z
word_at head saved i (Some q ∷ rest) (suc t) e = word_at head saved i rest t e
word_at head saved i (None ∷ rest) (suc t) e =
    let s : suc i + nones rest t ≡ i + suc (nones rest t) = omega arith in
    word_at head saved (suc i) rest t e ∙ ap (λ n. Some (Slot (temp_offset head saved n))) s

pub nones_rise : (regs : List (Option ℕ)) (t d : ℕ) → slice_get regs t ≡ Some None → t < d → nones regs t < nones regs d
unfolding nones
nones_rise [] t d e lt = absurd cc
nones_rise (o ∷ rest) t zero e lt = absurd (omega (arith, lt))
nones_rise (Some q ∷ rest) zero (suc d) e lt = absurd cc
nones_rise (None ∷ rest) zero (suc d) e lt = omega arith
nones_rise (Some q ∷ rest) (suc t) (suc d) e lt = nones_rise rest t d e (omega (arith, lt))
nones_rise (None ∷ rest) (suc t) (suc d) e lt = let h = nones_rise rest t d e (omega (arith, lt)) in omega (arith, h)

size : ℤ → ℕ
size (pos n) = n
size (negsuc n) = 0

pub one_number : (head saved i j : ℕ) → temp_offset head saved i ≡ temp_offset head saved j → i ≡ j
unfolding size
one_number head saved i j e =
    let both : pos (head + 4 * saved + 4 * (i + 1)) ≡ pos (head + 4 * saved + 4 * (j + 1)) =
    sym (neg_ℤ-neg_ℤ (pos (head + 4 * saved + 4 * (i + 1)))) ∙ (ap neg_ℤ e ∙ neg_ℤ-neg_ℤ (pos (head + 4 * saved + 4 * (j + 1)))) in
    let sizes : head + 4 * saved + 4 * (i + 1) ≡ head + 4 * saved + 4 * (j + 1) = ap size both in
    omega (arith, sizes)

pub alone : (head saved i : ℕ) (regs : List (Option ℕ)) → slots_alone (placed head saved i regs) ≡ slots_from head saved i (length (slots_alone (placed head saved i regs)))
alone head saved i [] = refl
alone head saved i (Some r ∷ rest) = alone head saved i rest
alone head saved i (None ∷ rest) = ap (λ (more : List Place). Slot (temp_offset head saved i) ∷ more) (alone head saved (suc i) rest)

pub counted : (places : List Place) → in_frame places ≡ length (slots_alone places)
counted [] = refl
counted (Slot offset ∷ rest) = let h = counted rest in omega (arith, h)
counted (Reg r ∷ rest) = counted rest
