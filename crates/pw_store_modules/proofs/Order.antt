-- The modules that are read in order are those of the map.
use Rattle.std.proofs.Common.{◌≡◌, ℕ, zero, suc, ◌+◌, Bool, true, false, cond, not, List, [], ◌∷◌, length, map, Option, Some, None, IsSome, Contains, refl, sym, ap, ◌∙◌, subst, arith}
use Rattle.std.specs.Prelude.{fold, insert}
use Rattle.std.specs.Option.{option_map, option_map_or}
use Rattle.std.specs.Ordering.{nat_cmp, is_lt}
use Rattle.std.specs.declared.cmp.Ordering.{Ordering}
use Rattle.std.specs.declared.cmp.Ordering.TheVariants.{Less, Equal, Greater}
use Rattle.std.specs.Cmp.Lexicographic.{slice_cmp}
use Rattle.std.specs.List.{AllByRecursion, position_or_len, cons_option}
use Rattle.std.specs.List.Sorted.{IsStrictlySortedBy}
use Rattle.std.specs.FinMap as finite
use Rattle.std.specs.FinMap.Entries.{put, by_order}
use Rattle.std.specs.FinMap.{entries-insert, len-entries, len-empty, slice_cmp-IsAntisymmetric, nat_cmp-IsAntisymmetric}
use Rattle.std.proofs.lemmas.Cmp.{nat_list_cmp_total, tied_itself}
use Rattle.std.proofs.lemmas.List.Elements.{All-contains_itself, All-weaker, recursion_from_All}
use Rattle.pw_io.specs.Files.{Files, prefix_of}
use Rattle.pw_io.proofs.FileMaps.{keys-order, keys-exact}
use Rattle.pw_store_modules.specs.FileNames.{text_name}
use Rattle.pw_store_modules.specs.Modules.{Source, stem, is_module_file, with_module, module_map, modules_of, names_of_modules, text_read}
use Rattle.pw_store_modules.specs.Reading.{is_file_before, placed, with_file, module_files, sources_of}
use Rattle.pw_store_modules.proofs.Exact.{file_split}

-- the order of names
abbrev by_bytes : List ℕ → List ℕ → Ordering
by_bytes = slice_cmp nat_cmp

-- the file of a module that is there, before all names that are to come
abbrev Stands : Files → List (List ℕ) → List ℕ → Type 0
Stands files names file = (is_module_file file ≡ true) × IsSome (finite.get files file) × AllByRecursion (λ name. by_bytes file name ≡ Less) names

equal_is_not_less : (o : Ordering) → o ≡ Equal → o ≡ Less → ⊥
equal_is_not_less o e f = cc

-- two modules' files of one name are one
apart : (file other : List ℕ) → is_module_file file ≡ true → is_module_file other ≡ true → by_bytes other file ≡ Less → by_bytes (stem file) (stem other) ≡ Equal → ⊥
apart file other p q less equal =
    let stems : stem file ≡ stem other = slice_cmp-IsAntisymmetric nat_cmp-IsAntisymmetric (stem file) (stem other) equal in
    let same : file ≡ other = (file_split file p).0 ∙ ap (λ (l : List ℕ). text_name l) stems ∙ sym (file_split other q).0 in
    equal_is_not_less (by_bytes other file) (ap (by_bytes other) same ∙ tied_itself nat_list_cmp_total other) less

-- the text that is there
there : (o : Option (List ℕ)) → IsSome o → (text : List ℕ) × (o ≡ Some text)
there None h = cc
there (Some text) h = (text, refl)

sources_first : (files : Files) (file text : List ℕ) (rest : List (List ℕ)) → finite.get files file ≡ Some text → sources_of files (file ∷ rest) ≡ (stem file, prefix_of text_read text) ∷ sources_of files rest
sources_first files file text rest e = ap (λ (o : Option (List ℕ)). cons_option (option_map (λ (t : List ℕ). (stem file, prefix_of text_read t)) o) (sources_of files rest)) e

insert_behind : (x : List ℕ) (xs : List (List ℕ)) (p : ℕ) (file : List ℕ) → insert (x ∷ xs) (1 + p) file ≡ x ∷ insert xs p file
insert_behind x xs p file = let one : 1 + p ≡ suc p = omega arith in ap (λ (i : ℕ). insert (x ∷ xs) i file) one

-- a file in its place puts its module into its place
placed_put : (files : Files) (file text : List ℕ) (names acc : List (List ℕ)) → is_module_file file ≡ true → finite.get files file ≡ Some text → AllByRecursion (Stands files (file ∷ names)) acc
    → sources_of files (placed acc file) ≡ put by_bytes (stem file) (prefix_of text_read text) (sources_of files acc)
placed_put files file text names [] is found all = sources_first files file text [] found
placed_put files file text names (x ∷ xs) is found ((own, some, (less, later)), all) =
    let k = stem file in
    let v = prefix_of text_read text in
    let t = there (finite.get files x) some in
    let e : Source = (stem x, prefix_of text_read t.0) in
    let s = sources_of files xs in
    let p = position_or_len (is_file_before file) xs in
    elim (by_bytes k (stem x)) as (λ r. by_bytes k (stem x) ≡ r → sources_of files (insert (x ∷ xs) (cond (not (is_lt r)) (1 + p) 0) file) ≡ by_order r ((k, v) ∷ e ∷ s) ((stem x, v) ∷ s) (e ∷ put by_bytes k v s)) [
      | Less ↦ λ r. sources_first files file text (x ∷ xs) found ∙ ap (λ (l : List Source). (k, v) ∷ l) (sources_first files x t.0 xs t.1)
      | Equal ↦ λ r. absurd (apart file x is own less r)
      | Greater ↦ λ r.
          ap (sources_of files) (insert_behind x xs p file) ∙ sources_first files x t.0 (insert xs p file) t.1
          ∙ ap (λ (l : List Source). e ∷ l) (placed_put files file text names xs is found all)
    ] refl
    ∙ sym (ap (put by_bytes k v) (sources_first files x t.0 xs t.1))

all_insert : (P : List ℕ → Type 0) (xs : List (List ℕ)) (i : ℕ) (x : List ℕ) → P x → AllByRecursion P xs → AllByRecursion P (insert xs i x)
all_insert P [] zero x p all = (p, tt)
all_insert P [] (suc i) x p all = (p, tt)
all_insert P (y ∷ ys) zero x p all = (p, all)
all_insert P (y ∷ ys) (suc i) x p all = (all.0, all_insert P ys i x p all.1)

-- one name fewer is to come
one_fewer : (files : Files) (name : List ℕ) (names acc : List (List ℕ)) → AllByRecursion (Stands files (name ∷ names)) acc → AllByRecursion (Stands files names) acc
one_fewer files name names [] all = tt
one_fewer files name names (x ∷ xs) ((own, some, (less, later)), all) = ((own, some, later), one_fewer files name names xs all)

stepped : (files modules : Files) (file : List ℕ) (names acc : List (List ℕ)) (b : Bool) (text : List ℕ) → is_module_file file ≡ b → finite.get files file ≡ Some text
    → AllByRecursion (λ name. by_bytes file name ≡ Less) names → AllByRecursion (Stands files (file ∷ names)) acc → sources_of files acc ≡ finite.entries modules
    → AllByRecursion (Stands files names) (cond b (placed acc file) acc)
    × (sources_of files (cond b (placed acc file) acc) ≡ finite.entries (cond b (option_map_or (λ t. finite.insert modules (stem file) (prefix_of text_read t)) (finite.get files file) modules) modules))
stepped files modules file names acc false text e found less all same = (one_fewer files file names acc all, same)
stepped files modules file names acc true text e found less all same = (
  all_insert (Stands files names) acc (position_or_len (is_file_before file) acc) file (e, is_some_of found, less) (one_fewer files file names acc all),
  placed_put files file text names acc e found all
      ∙ ap (put by_bytes (stem file) (prefix_of text_read text)) same
      ∙ sym (entries-insert nat_list_cmp_total modules (stem file) (prefix_of text_read text))
      ∙ sym (ap (λ (o : Option (List ℕ)). finite.entries (option_map_or (λ t. finite.insert modules (stem file) (prefix_of text_read t)) o modules)) found),
)
  where
    is_some_of : {o : Option (List ℕ)} → o ≡ Some text → IsSome o
    is_some_of {o} h = subst (λ (q : Option (List ℕ)). IsSome q) (sym h) refl

folded : (files modules : Files) (names acc : List (List ℕ)) → IsStrictlySortedBy by_bytes names → AllByRecursion (λ name. IsSome (finite.get files name)) names → AllByRecursion (Stands files names) acc
    → sources_of files acc ≡ finite.entries modules → AllByRecursion (Stands files []) (fold with_file acc names) × (sources_of files (fold with_file acc names) ≡ finite.entries (fold (with_module files) modules names))
unfolding IsStrictlySortedBy
folded files modules [] acc sorted some all same = (all, same)
folded files modules (file ∷ names) acc (less, sorted) (here, some) all same =
    let t = there (finite.get files file) here in
    let step = stepped files modules file names acc (is_module_file file) t.0 refl t.1 less all same in
    folded files (with_module files modules file) names (with_file acc file) sorted some step.0 step.1

no_length : (es : List Source) → length es ≡ 0 → es ≡ []
no_length [] e = refl
no_length (x ∷ es) e = absurd (omega (arith, e))

entries-empty : finite.entries (finite.empty {X = List ℕ} {R = by_bytes}) ≡ []
entries-empty = no_length _ (sym (len-entries (finite.empty {X = List ℕ} {R = by_bytes})) ∙ len-empty by_bytes (List ℕ))

all_there : (files : Files) → AllByRecursion (λ name. IsSome (finite.get files name)) (finite.keys files)
all_there files =
    recursion_from_All (λ name. IsSome (finite.get files name)) (finite.keys files)
    (All-weaker (Contains (finite.keys files)) (λ name. IsSome (finite.get files name)) (λ name within. (keys-exact files name).0 within) (finite.keys files) (All-contains_itself (finite.keys files)))

-- the modules' files in order are there, and hold the modules
in_order : (files : Files) → AllByRecursion (Stands files []) (module_files (finite.keys files)) × (sources_of files (module_files (finite.keys files)) ≡ modules_of files)
unfolding module_map
in_order files = folded files finite.empty (finite.keys files) [] (keys-order files) (all_there files) tt (sym entries-empty)

pub read_in_order : (files : Files) → sources_of files (module_files (finite.keys files)) ≡ modules_of files
read_in_order files = (in_order files).1

-- files that are there, by their names
stems_of : (files : Files) (acc : List (List ℕ)) → AllByRecursion (Stands files []) acc → map stem acc ≡ map (λ (s : Source). s.0) (sources_of files acc)
stems_of files [] all = refl
stems_of files (x ∷ xs) ((own, some, none), all) =
    let t = there (finite.get files x) some in
    ap (λ (l : List (List ℕ)). stem x ∷ l) (stems_of files xs all) ∙ ap (map (λ (s : Source). s.0)) (sym (sources_first files x t.0 xs t.1))

-- the names of the modules' files in order are the modules' names
pub names_in_order : (files : Files) → map stem (module_files (finite.keys files)) ≡ names_of_modules files
names_in_order files = stems_of files (module_files (finite.keys files)) (in_order files).0 ∙ ap (map (λ (s : Source). s.0)) (read_in_order files)
