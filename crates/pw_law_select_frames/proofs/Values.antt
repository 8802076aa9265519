-- Temporaries and registers of the placed run, with all else as it is.
use Rattle.std.proofs.Common.{ℕ, suc, ◌≡◌, refl, ap, ◌∙◌, Option, Some, None, List, [], ◌∷◌, length, slice_get, length-set}
use Rattle.pw_value.specs.declared.value.Value.{Value}
use Rattle.pw_alloc.specs.declared.located.Place.{Place}
use Rattle.pw_alloc.specs.declared.located.Place.TheVariants.{Slot, Reg}
use Rattle.pw_run_languages.specs.PlacedRun.{Machine, with_temp, with_parameters, takes_result}

-- a machine with other temporaries and registers
abbrev pub with_values : Machine → List Value → (ℕ → Value) → Machine
with_values m temps registers = record m { frame = record m.frame { temps = temps }; registers = registers }

pub record HasValues (m n : Machine) : Type 0 where
  pub is : n ≡ with_values m n.frame.temps n.registers
  pub room : length n.frame.temps ≡ length m.frame.temps

pub temp_only : (t : ℕ) (v : Value) (m : Machine) → HasValues m (with_temp t v m)
temp_only t v m = by_place (slice_get m.frame.function.places t) refl
  where
    by_place : (o : Option Place) → slice_get m.frame.function.places t ≡ o → HasValues m (with_temp t v m)
    by_place None e = record { is = rw e refl; room = rw e (length-set m.frame.temps t v) }
    by_place (Some (Reg r)) e = record { is = rw e refl; room = rw e refl }
    by_place (Some (Slot offset)) e = record { is = rw e refl; room = rw e (length-set m.frame.temps t v) }

pub parameters_only : (k : ℕ) (vs : List Value) (m : Machine) → HasValues m (with_parameters k vs m)
parameters_only k [] m = record { is = refl; room = refl }
parameters_only k (v ∷ vs) m =
    let one = temp_only k v m in
    let rest = parameters_only (suc k) vs (with_temp k v m) in
    let n = with_parameters (suc k) vs (with_temp k v m) in
    record {
      is = rest.is ∙ ap (λ (x : Machine). with_values x n.frame.temps n.registers) one.is;
      room = rest.room ∙ one.room;
    }

pub result_only : (t : Option ℕ) (v : Value) (m : Machine) → HasValues m (takes_result t v m)
result_only None v m = record { is = refl; room = refl }
result_only (Some t) v m = temp_only t v m
