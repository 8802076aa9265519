-- What writing asks of an image's parts.
use Rattle.std.proofs.Common.{◌≡◌, ℕ, ◌^◌, ◌<◌, List, [], ◌∷◌, ◌++◌, length, map, All, Result, arith}
use Rattle.std.specs.Prelude.{Contains, IfOk, OnOk}
use Rattle.std.specs.Global.{Vec}
use Rattle.std.specs.List.{AllByRecursion}
use Rattle.std.proofs.lemmas.List.Elements.{All-from_recursion}
use Rattle.pw_fields.specs.Fields.{FitsText, FitsU32}
use Rattle.pw_fields.specs.FieldFrame.{file, FitsFile}
use Rattle.pw_fields.specs.FieldNames.{IsNameTable, IsTableOf}
use Rattle.pw_fields.proofs.NameLaws.{AllUsed, used_by_table}
use Rattle.pw_files.proofs.ContentsLaws.{is_file}
use Rattle.pw_image.specs.declared.image.DataItem.{DataItem}
use Rattle.pw_image.specs.declared.image.Function.{Function}
use Rattle.pw_image.specs.declared.image.GlobalObject.{GlobalObject}
use Rattle.pw_image.specs.declared.image.Image.{Image}
use Rattle.pw_image.specs.Image.{AreItems, IsContents, IsImageFile, free_behind, names_of, spelling, kind, image_version}

texts_by : (size free : ℕ) (items : List DataItem) → size < 2 ^ 32 → AreItems size free items → AllByRecursion (λ i. FitsText i.bytes) items
texts_by size free [] below are = tt
texts_by size free (i ∷ items) below are = (omega (arith, are.1), texts_by size (free_behind i) items below are.2)

pub texts_fit : (size : ℕ) (items : List DataItem) → size < 2 ^ 32 → AreItems size 0 items → All (λ i. FitsText i.bytes) items
texts_fit size items below are = All-from_recursion (λ i. FitsText i.bytes) items (texts_by size 0 items below are)

functions_by : (names : List (List ℕ)) (fs : List Function) (gs : List GlobalObject) → AllUsed (map (λ f. f.name) fs ++ map (λ g. g.name) gs) names → AllByRecursion (λ f. Contains names f.name) fs
functions_by names [] gs used = tt
functions_by names (f ∷ fs) gs used = (used.0, functions_by names fs gs used.1)

globals_by : (names : List (List ℕ)) (fs : List Function) (gs : List GlobalObject) → AllUsed (map (λ f. f.name) fs ++ map (λ g. g.name) gs) names → AllByRecursion (λ g. Contains names g.name) gs
globals_by names [] [] used = tt
globals_by names [] (g ∷ gs) used = (used.0, globals_by names [] gs used.1)
globals_by names (f ∷ fs) gs used = globals_by names fs gs used.1

pub functions_stand : (names : List (List ℕ)) (v : Image) → IsTableOf names (names_of v) → All (λ f. Contains names f.name) v.functions
functions_stand names v table = All-from_recursion (λ f. Contains names f.name) v.functions (functions_by names v.functions v.globals (used_by_table names (names_of v) table).1)

pub globals_stand : (names : List (List ℕ)) (v : Image) → IsTableOf names (names_of v) → All (λ g. Contains names g.name) v.globals
globals_stand names v table = All-from_recursion (λ g. Contains names g.name) v.globals (globals_by names v.functions v.globals (used_by_table names (names_of v) table).1)

pub table_is : (names used : List (List ℕ)) → FitsU32 (length names) → IsTableOf names used → IsNameTable names
table_is names used count table = record { count = count; rising = table.rising }

-- what is written is the image's file
pub written : {E : Type 0} (names : List (List ℕ)) (v : Image) (payload : List ℕ) (r : Result (Vec ℕ) E) → IsContents (record { names = names; value = v }) → payload ≡ spelling (record { names = names; value = v }) → OnOk r (FitsFile payload)
    → IfOk r (λ w. w.items ≡ file kind image_version payload) → IfOk r (λ w. (ns : List (List ℕ)) × IsImageFile w.items (record { names = ns; value = v }))
written names v payload r is same room made = is_file kind image_version image_version image_version (λ version. spelling) (λ version. IsContents) (record { names = names; value = v }) payload r (omega arith) (omega arith) is same room made
