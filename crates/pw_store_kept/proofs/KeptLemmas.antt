-- The loop over what is kept of the modules, at a store that tells the same in each turn.
use Rattle.std.proofs.Common.{◌≡◌, ℕ, ◌+◌, ◌<◌, ◌≤◌, Bool, true, false, arith, List, [], ◌∷◌, ◌++◌, length, get_or, drop, take, map, Option, Some, None, Result, Ok, Err, refl, sym, ap, ◌∙◌, subst, append_assoc, append-nil}
use Rattle.std.proofs.lemmas.List.{drop_all, length-map, length-take, take_all}
use Rattle.std.proofs.lemmas.Slice.Eq.{bytes_eq-Decides}
use Rattle.std.specs.Prelude.{IfOk, IfSome, Vec}
use Rattle.std.specs.Option.{option_map}
use Rattle.std.specs.Str.{bytes_eq}
use Rattle.std.specs.declared.alloc.Global.{Global}
use Rattle.std.specs.FinMap as finite
use Rattle.pw_io.specs.Files.{Told, Keeps, ReadsPrefix, prefix_of}
use Rattle.pw_io.specs.declared.StoreError.{StoreError}
use Rattle.pw_files.specs.Contents.{value_of}
use Rattle.pw_object.specs.Reading.{object_file_at}
use Rattle.pw_object.specs.declared.object.Object.{Object}
use Rattle.pw_store_modules.specs.FileNames.{object_name}
use Rattle.pw_store_modules.specs.declared.modules.Module.{Module}
use Rattle.pw_store_modules.proofs.ModuleLemmas.{mapped_rest}
use Rattle.pw_value.specs.Limits.{kept_limit}
use Rattle.pw_store_kept.specs.Kept.{counted, if_object, is_same, kept_bytes, kept_object, object_in}

pub keeps_on : (first now later : Option Told) → Keeps first now → Keeps now later → Keeps first later
keeps_on None now later h k = tt
keeps_on (Some told) now later h k = let P : Option Told → Type 0 = λ o. Keeps o later in subst P h k

-- nothing is left of a mapped list behind its end
pub mapped_none : {A B : Type 0} (f : A → B) (xs : List A) (i : ℕ) → length xs ≤ i → drop i (map f xs) ≡ []
mapped_none f xs i h = drop_all i (map f xs) (let l = length-map xs f in omega (arith, l, h))

-- what holds of a store that tells as another holds of that one
pub at_first : (P : Told → Type 0) (first now : Option Told) → Keeps first now → IfSome now P → IfSome first P
at_first P None now same h = tt
at_first P (Some told) now same h = subst (λ (o : Option Told). IfSome o P) same h

-- what was read of the modules so far, with what is kept of those that are left, is what is kept of all
abbrev pub KeptSoFar : Option Told → List Module → ℕ → List (Option Object) → Type 0
KeptSoFar first modules i kept = IfSome first (λ told. kept ++ drop i (map (λ m. kept_object told.files m.name) modules) ≡ map (λ m. kept_object told.files m.name) modules)

pub kept_start : (first : Option Told) (modules : List Module) → KeptSoFar first modules 0 []
kept_start None modules = tt
kept_start (Some told) modules = refl

pub kept_turn : (first now : Option Told) (modules : List Module) (i : ℕ) (m : Module) (kept kept' : List (Option Object)) → KeptSoFar first modules i kept → i < length modules → m ≡ get_or modules i m → Keeps first now → IfSome now (λ told. kept' ≡ kept ++ kept_object told.files m.name ∷ []) → KeptSoFar first modules (i + 1) kept'
kept_turn None now modules i m kept kept' so_far l e same h = tt
kept_turn (Some told) now modules i m kept kept' so_far l e same h =
    let P : Option Told → Type 0 = λ o. IfSome o (λ t. kept' ≡ kept ++ kept_object t.files m.name ∷ []) in
    let left : List (Option Object) = drop (i + 1) (map (λ x. kept_object told.files x.name) modules) in
    ap (λ (zs : List (Option Object)). zs ++ left) (subst P same h) ∙ append_assoc kept (kept_object told.files m.name ∷ []) left
    ∙ ap (λ (zs : List (Option Object)). kept ++ zs) (sym (mapped_rest (λ x. kept_object told.files x.name) modules i m l e)) ∙ so_far

pub kept_end : (first : Option Told) (modules : List Module) (i : ℕ) (kept : List (Option Object)) → KeptSoFar first modules i kept → length modules ≤ i → IfSome first (λ told. kept ≡ map (λ m. kept_object told.files m.name) modules)
kept_end None modules i kept so_far h = tt
kept_end (Some told) modules i kept so_far h =
    let none : drop i (map (λ m. kept_object told.files m.name) modules) ≡ [] = mapped_none (λ m. kept_object told.files m.name) modules i h in
    sym (append-nil kept) ∙ ap (λ (zs : List (Option Object)). kept ++ zs) (sym none) ∙ so_far

-- ---- what is kept under a name

counted_is : (file : Option (List ℕ)) → option_map (prefix_of kept_limit) file ≡ counted file
counted_is None = refl
counted_is (Some bytes) = refl

pub bytes_kept : (old : Option Told) (result : Result (Option (Vec ℕ Global)) StoreError) (name : List ℕ) → IfOk result (λ file. ReadsPrefix old name kept_limit file) → IfSome old (λ told. IfOk result (λ found. option_map (λ bytes. bytes.items) found ≡ kept_bytes told.files name))
bytes_kept None result name h = tt
bytes_kept (Some told) (Ok file) name h = h ∙ counted_is (finite.get told.files name)
bytes_kept (Some told) (Err error) name h = tt

pub object_kept : (old : Option Told) (name file bytes : List ℕ) (found : Option Object) → IfSome old (λ told. Some bytes ≡ kept_bytes told.files file) → file ≡ object_name name → found ≡ if_object (value_of (object_file_at bytes)) → IfSome old (λ told. found ≡ kept_object told.files name)
object_kept None name file bytes found h named is = tt
object_kept (Some told) name file bytes found h named is =
    is ∙ ap object_in h ∙ ap (λ (n : List ℕ). object_in (kept_bytes told.files n)) named

pub none_kept : (old : Option Told) (name file : List ℕ) → IfSome old (λ told. None ≡ kept_bytes told.files file) → file ≡ object_name name → IfSome old (λ told. None ≡ kept_object told.files name)
none_kept None name file h named = tt
none_kept (Some told) name file h named = ap object_in h ∙ ap (λ (n : List ℕ). object_in (kept_bytes told.files n)) named

pub pushed_kept : (old : Option Told) (name : List ℕ) (found : Option Object) (kept kept' : List (Option Object)) → IfSome old (λ told. found ≡ kept_object told.files name) → kept' ≡ kept ++ found ∷ [] → IfSome old (λ told. kept' ≡ kept ++ kept_object told.files name ∷ [])
pushed_kept None name found kept kept' h e = tt
pushed_kept (Some told) name found kept kept' h e = e ∙ ap (λ (o : Option Object). kept ++ o ∷ []) h

-- ---- a file beside bytes

same_answer : (p q : Bool) → (p ≡ true → q ≡ true) → (q ≡ true → p ≡ true) → p ≡ q
same_answer true q f g = sym (f refl)
same_answer false true f g = g refl
same_answer false false f g = refl

-- the front of a list that has one element more than another is that other one only where the whole list is
front_same : (old bytes : List ℕ) → bytes_eq (take (length bytes + 1) old) bytes ≡ true → bytes_eq old bytes ≡ true
front_same old bytes e =
    let is : take (length bytes + 1) old ≡ bytes = (bytes_eq-Decides (take (length bytes + 1) old) bytes).0 e in
    let size : length old ≤ length bytes + 1 = omega (arith, length-take (length bytes + 1) old, ap length is) in
    (bytes_eq-Decides old bytes).1 (sym (take_all (length bytes + 1) old size) ∙ is)

whole_same : (old bytes : List ℕ) → bytes_eq old bytes ≡ true → bytes_eq (take (length bytes + 1) old) bytes ≡ true
whole_same old bytes e =
    let is : old ≡ bytes = (bytes_eq-Decides old bytes).0 e in
    let size : length old ≤ length bytes + 1 = omega (arith, ap length is) in
    (bytes_eq-Decides (take (length bytes + 1) old) bytes).1 (take_all (length bytes + 1) old size ∙ is)

read_same : (file : Option (List ℕ)) (bytes : List ℕ) → is_same (option_map (prefix_of (length bytes + 1)) file) bytes ≡ is_same file bytes
unfolding prefix_of
read_same None bytes = refl
read_same (Some old) bytes = same_answer (bytes_eq (take (length bytes + 1) old) bytes) (bytes_eq old bytes) (front_same old bytes) (whole_same old bytes)

pub read_beside : (old : Option Told) (result : Result (Option (Vec ℕ Global)) StoreError) (name bytes : List ℕ) → IfOk result (λ file. ReadsPrefix old name (length bytes + 1) file)
    → IfSome old (λ told. IfOk result (λ found. is_same (option_map (λ bytes. bytes.items) found) bytes ≡ is_same (finite.get told.files name) bytes))
read_beside None result name bytes h = tt
read_beside (Some told) (Ok file) name bytes h = ap (λ (found : Option (List ℕ)). is_same found bytes) h ∙ read_same (finite.get told.files name) bytes
read_beside (Some told) (Err error) name bytes h = tt
