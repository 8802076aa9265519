-- Names in byte order, names with their shapes, and names other than $start.
use Rattle.std.proofs.Common.{ℕ, zero, suc, List, [], ◌∷◌, map, refl, sym, arith}
use Rattle.std.specs.Prelude.{IsTrue, Option, Contains, ◌&&◌}
use Rattle.std.specs.List.{AllByRecursion}
use Rattle.std.specs.Cmp.{first_so, second_so}
use Rattle.std.specs.Cmp.Derive.{both_true}
use Rattle.pw_fields.specs.Fields.{text_at, text, FitsText}
use Rattle.pw_fields.specs.FieldLaws.{Spells}
use Rattle.pw_fields.specs.FieldNames.{name_at, name_index, IsNameTable}
use Rattle.pw_fields.proofs.FieldLaws.{checked_spells, text_spells}
use Rattle.pw_fields.proofs.FieldSteps.{step, finish, format}
use Rattle.pw_fields.proofs.NameLaws.{name_spells}
use Rattle.pw_value.proofs.StartLaws.{place_forth, place_back}
use Rattle.pw_value.specs.declared.program_names.StartName.{StartName}
use Rattle.pw_value.specs.declared.program_names.StartName.TheVariants.{Allowed, Refused}
use Rattle.pw_value.specs.ProgramNames.{start_name, may_stand}
use Rattle.pw_files.specs.Rising.{is_above, counted}
use Rattle.pw_files.specs.Names.{shaped, name_above_at, text_above_at, shaped_at, name_list_at, text_list_at, shaped_list_at}
use Rattle.pw_files.proofs.RisingLaws.{refit, FitsBehind, FitsRising, rising_spells}

-- a name of the table that may stand here
abbrev pub FitsName : List (List ℕ) → StartName → List ℕ → Type 0
FitsName names start name = Contains names name × IsTrue (may_stand start name)

abbrev pub FitsShaped : List (List ℕ) → StartName → List ℕ × List ℕ → Type 0
FitsShaped names start f = FitsName names start f.0 × FitsText f.1

pub name_above_spells : (names : List (List ℕ)) → IsNameTable names → (start : StartName) (before : Option (List ℕ)) → Spells (name_index names) (FitsBehind (λ name. name) (FitsName names start) before) (name_above_at names start before)
unfolding name_above_at
name_above_spells names table start before = refit (name_index names) (λ name. Contains names name × IsTrue (is_above before name && may_stand start name)) _ _
    (λ name h. ((h.0, second_so (is_above before name) (may_stand start name) h.1), first_so (is_above before name) (may_stand start name) h.1))
    (λ name h. (h.0.0, both_true h.1 h.0.1))
    (checked_spells (name_index names) (Contains names) (name_at names) (λ name. is_above before name && may_stand start name) (name_spells names table))

pub text_above_spells : (before : Option (List ℕ)) → Spells text (FitsBehind (λ t. t) FitsText before) (text_above_at before)
unfolding text_above_at
text_above_spells before = checked_spells text FitsText text_at (is_above before) text_spells

pub shaped_spells : (names : List (List ℕ)) → IsNameTable names → (start : StartName) (before : Option (List ℕ)) → Spells (shaped names) (FitsBehind (λ f. f.0) (FitsShaped names start) before) (shaped_at names start before)
unfolding shaped_at
shaped_spells names table start before = format (shaped names) (FitsBehind (λ f. f.0) (FitsShaped names start) before) (shaped names) (λ f. FitsBehind (λ name. name) (FitsName names start) before f.0 × (FitsText f.1 × Unit {0})) _
    (step _ _ (name_index names) (FitsBehind (λ name. name) (FitsName names start) before) (name_above_at names start before) _ _ _ (λ f. f.0) (name_above_spells names table start before)
    (λ name name_fits. step _ _ text FitsText text_at _ _ _ (λ f. f.1) text_spells
    (λ shape shape_fits. finish _ (name, shape) ((tt, refl), refl) (λ f k. sym (λ j. (k.0.1 j, k.1 j))))))
    (λ f. refl) (λ f h. ((h.0.0, h.1.0), h.0.1)) (λ f h. ((h.0.0, h.1), (h.0.1, tt)))

pub name_list_spells : (names : List (List ℕ)) → IsNameTable names → (start : StartName) → Spells (counted (name_index names)) (FitsRising (λ name. name) (FitsName names start)) (name_list_at names start)
name_list_spells names table start = rising_spells (name_index names) (λ name. name) (FitsName names start) (name_above_at names start) (name_above_spells names table start)

pub text_list_spells : Spells (counted text) (FitsRising (λ t. t) FitsText) text_list_at
text_list_spells = rising_spells text (λ t. t) FitsText text_above_at text_above_spells

pub shaped_list_spells : (names : List (List ℕ)) → IsNameTable names → (start : StartName) → Spells (counted (shaped names)) (FitsRising (λ f. f.0) (FitsShaped names start)) (shaped_list_at names start)
shaped_list_spells names table start = rising_spells (shaped names) (λ f. f.0) (FitsShaped names start) (shaped_at names start) (shaped_spells names table start)

-- ---- names other than $start

pub never_start : {X : Type 0} (key : X → List ℕ) (xs : List X) → AllByRecursion (λ x. IsTrue (may_stand Refused (key x))) xs → Contains (map key xs) start_name → ⊥
never_start key [] all (k, lt, e) = absurd (omega arith)
never_start key (x ∷ xs) all (zero, lt, e) = place_forth Refused (key x) all.0 e
never_start key (x ∷ xs) all (suc k, lt, e) = never_start key xs all.1 (k, omega arith, e)

pub each_other : {X : Type 0} (key : X → List ℕ) (xs : List X) → (Contains (map key xs) start_name → ⊥) → AllByRecursion (λ x. IsTrue (may_stand Refused (key x))) xs
each_other key [] none = tt
each_other key (x ∷ xs) none = (place_back Refused (key x) (λ e. none (0, omega arith, e)), each_other key xs (λ h. none (suc h.0, omega (arith, h.1), h.2)))

pub each_may : {X : Type 0} (key : X → List ℕ) (xs : List X) → AllByRecursion (λ x. IsTrue (may_stand Allowed (key x))) xs
each_may key [] = tt
each_may key (x ∷ xs) = (refl, each_may key xs)
