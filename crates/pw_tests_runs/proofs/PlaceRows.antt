-- Places where a register is free for the function: what stands there need not be saved, and is not kept over a call.
use Rattle.std.specs.Prelude.{ℕ, ◌≡◌, ◌<◌, List, [], ◌∷◌, Contains}
use Rattle.std.proofs.Common.{arith, ap, refl, inl, inr}
use Rattle.pw_webflow.specs.declared.web.WebFn.{WebFn}
use Rattle.pw_webflow.specs.Direction.{directed}
use Rattle.pw_alloc.specs.declared.located.Place.TheVariants.{Reg}
use Rattle.pw_alloc.specs.declared.located.Located.{Located}
use Rattle.pw_alloc.specs.ValidPlaces.{IsPlace}
use Rattle.pw_run_languages.specs.Serving.{IsKeptOver}
use Rattle.pw_tests_runs.proofs.Programs.{bump}

nowhere : {X : Type 0} (x : X) → Contains [] x → ⊥
nowhere x c = let none : c.0 < 0 = c.1 in omega (arith, none)

abbrev bump_with : List ℕ → WebFn
bump_with registers = directed bump (record { webs = []; free = registers; saves = [] })

abbrev placed : List ℕ → Located
placed registers = record { body = bump_with registers; places = Reg 15 ∷ []; saved = []; frame = 64 }

free_place : IsPlace (placed (15 ∷ [])) (Reg 15)
unfolding directed
free_place = (omega arith, omega arith, (λ c. nowhere 15 c), λ low. inr (0, omega arith, refl))

unsaved_place : IsPlace (placed []) (Reg 15) → ⊥
unfolding directed
unsaved_place (low, high, apart, kept) = elim (kept (omega arith)) [ inl c ↦ nowhere 15 c | inr c ↦ nowhere 15 c ]

kept_place : IsKeptOver (bump_with []) (Reg 15)
unfolding directed
kept_place = (omega arith, omega arith, (λ c. nowhere 15 c), (λ c. nowhere 15 c))

lost_place : IsKeptOver (bump_with (15 ∷ [])) (Reg 15) → ⊥
unfolding directed
lost_place (low, high, apart, own) = apart (0, omega arith, refl)
