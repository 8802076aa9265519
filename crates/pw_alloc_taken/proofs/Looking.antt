-- What is looked up in a list of registers given stands there.
use Rattle.std.proofs.Common.{◌≡◌, ◌⊎◌, ℕ, ◌==◌, Bool, true, false, List, [], ◌∷◌, refl, ap, ◌∙◌, inl, inr}
use Rattle.std.specs.Prelude.{Option, Some, if◌then◌else◌}
use Rattle.std.proofs.lemmas.Bool.{eqb-true}
use Rattle.std.proofs.lemmas.Option.{same_Some}
use Rattle.pw_files.proofs.Standing.{Has}
use Rattle.pw_alloc_temps.specs.Registers.{register_of}

if_step : (b : Bool) (x y : ℕ) (o : Option ℕ) → (if b then Some x else o) ≡ Some y → ((b ≡ true) × (x ≡ y)) ⊎ (o ≡ Some y)
if_step true x y o e = inl (refl, same_Some x y e)
if_step false x y o e = inr e

pub has_register : (gs : List (ℕ × ℕ)) (t r : ℕ) → register_of gs t ≡ Some r → Has (t, r) gs
has_register [] t r e = absurd cc
has_register (g ∷ rest) t r e = elim (if_step (g.0 == t) g.1 r (register_of rest t) e) [
  | inl h ↦ inl (ap (λ (n : ℕ). (n, g.1)) (eqb-true g.0 t h.0) ∙ ap (λ (n : ℕ). (t, n)) h.1)
  | inr h ↦ inr (has_register rest t r h)
]
