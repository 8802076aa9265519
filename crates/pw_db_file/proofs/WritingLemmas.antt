-- What writing asks of a database's parts, and what it gives.
use Rattle.std.proofs.Common.{◌≡◌, ℕ, List, [], ◌∷◌, length, map, All, Result, Ok, Err, refl, subst, arith}
use Rattle.std.specs.Prelude.{Contains, IfOk, OnOk}
use Rattle.std.specs.Global.{Vec}
use Rattle.std.specs.List.{AllByRecursion}
use Rattle.std.proofs.lemmas.List.Concat.{flat_map-cons}
use Rattle.std.proofs.lemmas.List.Elements.{All-from_recursion}
use Rattle.pw_fields.specs.Fields.{FitsU32}
use Rattle.pw_fields.specs.FieldFrame.{file, FitsFile}
use Rattle.pw_fields.specs.FieldNames.{IsTableOf}
use Rattle.pw_fields.proofs.NameLaws.{AllUsed, used_by_table}
use Rattle.pw_files.proofs.RisingLaws.{used_front, used_back}
use Rattle.pw_files.specs.Contents.{IsContentsOf}
use Rattle.pw_files.proofs.Views.{seen_all}
use Rattle.pw_db.specs.declared.database.Web.{Web}
use Rattle.pw_db.specs.declared.database.Role.{Role}
use Rattle.pw_files.proofs.ContentsLaws as files
use Rattle.pw_db.specs.declared.database.Directives.{Directives}
use Rattle.pw_db.specs.declared.database.Database.{Database}
use Rattle.pw_db.specs.Database.{kind, first_version, database_version, IsDatabase, IsVersioned, IsStored, of_version, newest}
use Rattle.pw_db_file.specs.Spelling.{IsDatabaseContents, IsNamedBy, names_of_function, names_of, FitsDatabase, spelling, IsPayload, IsDatabaseFile}

-- ---- names that stand in a table

globals_named : (names : List (List ℕ)) (ws : List (Web × Role)) → AllUsed (map (λ w. w.global) (map (λ w. w.0) ws)) names → AllByRecursion (λ w. Contains names w.0.global) ws
globals_named names [] used = tt
globals_named names (w ∷ ws) used = (used.0, globals_named names ws used.1)

function_named : (names : List (List ℕ)) (f : List ℕ × Directives) → AllUsed (names_of_function f) names → IsNamedBy names f
function_named names f used = record { name = used.0; globals = All-from_recursion (λ w. Contains names w.0.global) f.1.webs (globals_named names f.1.webs used.1) }

functions_named : (names : List (List ℕ)) (fs : List (List ℕ × Directives)) → AllUsed (names_of fs) names → AllByRecursion (IsNamedBy names) fs
functions_named names [] used = tt
functions_named names (f ∷ fs) used =
    let both = subst (λ (ns : List (List ℕ)). AllUsed ns names) (flat_map-cons names_of_function f fs) used in
    (function_named names f (used_front (names_of_function f) (names_of fs) names both), functions_named names fs (used_back (names_of_function f) (names_of fs) names both))

pub all_named : {R : Type 0} (view : R → List ℕ × Directives) (names : List (List ℕ)) (xs : List R) → IsTableOf names (names_of (map view xs)) → All (λ x. IsNamedBy names (view x)) xs
all_named view names xs table = seen_all view (IsNamedBy names) xs (functions_named names (map view xs) (used_by_table names (names_of (map view xs)) table).1)

-- ---- the payload and the file

pub is_payload : {E : Type 0} (version : ℕ) (names : List (List ℕ)) (fs : List (List ℕ × Directives)) (r : Result (Vec ℕ) E) → IsVersioned (of_version version fs) → FitsU32 (length names) → IsTableOf names (names_of fs) → OnOk r (FitsDatabase fs)
    → IfOk r (λ v. v.items ≡ spelling version (record { names = names; value = of_version version fs })) → IfOk r (λ v. IsContentsOf (spelling version) (IsDatabaseContents version) v.items (of_version version fs))
is_payload version names fs (Ok v) is count table fits written = (names, record { version_is = refl; contents = record { lawful = is; fits = fits; name_count = count; names = table } }, written)
is_payload version names fs (Err e) is count table fits written = tt

-- functions of a database are one of the last version
pub newest_lawful : (fs : List (List ℕ × Directives)) → IsDatabase fs → IsVersioned (newest fs)
newest_lawful fs is = record { not_below = omega arith; not_above = omega arith; functions = is; unshared = λ (e : 2 ≡ 1). absurd (omega (arith, e)) }

pub stored_payload : {E : Type 0} (fs stored : List (List ℕ × Directives)) (r : Result (Vec ℕ) E) → IsStored fs stored → IfOk r (λ v. IsPayload v.items stored) → IfOk r (λ v. (gs : List (List ℕ × Directives)) × IsStored fs gs × IsPayload v.items gs)
stored_payload fs stored (Ok v) is made = (stored, is, made)
stored_payload fs stored (Err e) is made = tt

pub is_file : {E : Type 0} (db : Database) (payload : List ℕ) (r : Result (Vec ℕ) E) → IsVersioned db → IsContentsOf (spelling db.version) (IsDatabaseContents db.version) payload db → OnOk r (FitsFile payload) → IfOk r (λ v. v.items ≡ file kind db.version payload) → IfOk r (λ v. IsDatabaseFile v.items db)
is_file db payload r lawful is room made =
    files.is_file kind first_version database_version db.version spelling IsDatabaseContents (record { names = is.0; value = db }) payload r lawful.not_below lawful.not_above is.1 is.2 room made
