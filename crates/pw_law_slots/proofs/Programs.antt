-- The functions of a program with filled slots, by their names.
use Rattle.std.proofs.Common.{ℕ, ◌≡◌, Bool, true, false, if◌then◌else◌, Some, List, [], ◌∷◌, map, refl, ap}
use Rattle.std.specs.Prelude.{find, option_map, ◌==◌, ◌++◌}
use Rattle.std.specs.Str.{bytes_eq}
use Rattle.pw_value.specs.ProgramNames.{library_functions}
use Rattle.pw_run_languages.specs.Addresses.{Addresses}
use Rattle.pw_run_languages.specs.LineRun.{LineFn, LineProgram, function_named, function_at}
use Rattle.pw_law_slots.specs.SlotLaws.{filled_function, filled_program}

found_filled : (name : List ℕ) (fs : List LineFn) → find (λ f. bytes_eq f.located.body.name name) (map filled_function fs) ≡ option_map filled_function (find (λ f. bytes_eq f.located.body.name name) fs)
found_filled name [] = refl
found_filled name (f ∷ fs) = by (bytes_eq f.located.body.name name) (found_filled name fs)
  where
    by : (t : Bool) → find (λ g. bytes_eq g.located.body.name name) (map filled_function fs) ≡ option_map filled_function (find (λ g. bytes_eq g.located.body.name name) fs)
        → (if t then Some (filled_function f) else find (λ g. bytes_eq g.located.body.name name) (map filled_function fs))
        ≡ option_map filled_function (if t then Some f else find (λ g. bytes_eq g.located.body.name name) fs)
    by true e = refl
    by false e = e

pub named_filled : (p : LineProgram) (name : List ℕ) → function_named (filled_program p) name ≡ option_map filled_function (function_named p name)
named_filled p name = found_filled name p.functions

names_filled : (fs : List LineFn) → map (λ f. f.located.body.name) (map filled_function fs) ≡ map (λ f. f.located.body.name) fs
names_filled [] = refl
names_filled (f ∷ fs) = ap (λ (names : List (List ℕ)). f.located.body.name ∷ names) (names_filled fs)

pub standing_filled : (p : LineProgram) (w : Addresses) (a : ℕ) → function_at (filled_program p) w a ≡ function_at p w a
standing_filled p w a = ap (λ (names : List (List ℕ)). find (λ f. w.named f == a) (library_functions ++ names)) (names_filled p.functions)
