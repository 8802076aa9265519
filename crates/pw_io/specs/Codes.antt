-- How the values that the stores show are stored as numbers, lists and pairs: a proof tells them apart by these.
use Rattle.std.specs.Prelude.{◌≡◌, ℕ, List, Option, Some, None, refl}
use Rattle.std.specs.FinMap as finite
use Rattle.std.specs.Coded.{Coded, code_by, coded×, coded_ℕ, coded_list, coded_option}
use Rattle.pw_io.specs.declared.mem_store.Left.{Left}
use Rattle.pw_io.specs.declared.mem_store.Left.TheVariants.{Old, Nothing, Prefix}
use Rattle.pw_io.specs.declared.mem_store.StoreFail.{StoreFail}
use Rattle.pw_io.specs.Files.{Files, Told}
use Rattle.pw_io.specs.MemoryStore.{MemStoreState}

-- what a store tells, as a pair
abbrev pub told_code : Coded Told
told_code =
    code_by (Files × List (List ℕ)) (coded× (finite.code (coded_list coded_ℕ) (coded_list coded_ℕ)) (coded_list (coded_list coded_ℕ))) (λ told. (told.files, told.puts)) (λ p. record { files = p.0; puts = p.1 }) (λ _. refl)

abbrev pub option_from_left : Left → Option (Option ℕ)
option_from_left Old = None
option_from_left Nothing = Some None
option_from_left (Prefix n) = Some (Some n)

abbrev pub left_from_option : Option (Option ℕ) → Left
left_from_option None = Old
left_from_option (Some None) = Nothing
left_from_option (Some (Some n)) = Prefix n

pub left_from_option-option_from_left : (left : Left) → left_from_option (option_from_left left) ≡ left
left_from_option-option_from_left Old = refl
left_from_option-option_from_left Nothing = refl
left_from_option-option_from_left (Prefix n) = refl

-- what a failed put leaves, as an option
abbrev pub left_code : Coded Left
left_code =
    code_by (Option (Option ℕ)) (coded_option (coded_option coded_ℕ)) option_from_left left_from_option left_from_option-option_from_left

-- a call that fails, as a pair
abbrev pub fail_code : Coded StoreFail
fail_code = code_by (ℕ × Left) (coded× coded_ℕ left_code) (λ f. (f.call, f.leaves)) (λ p. record { call = p.0; leaves = p.1 }) (λ _. refl)

-- a store in memory, as pairs
abbrev pub store_code : Coded MemStoreState
store_code =
    code_by (Told × (ℕ × (ℕ × List StoreFail))) (coded× told_code (coded× coded_ℕ (coded× coded_ℕ (coded_list fail_code)))) (λ s. (s.told, (s.calls, (s.faults, s.fails)))) (λ p. record { told = p.0; calls = p.1.0; faults = p.1.1.0; fails = p.1.1.1 }) (λ _. refl)
