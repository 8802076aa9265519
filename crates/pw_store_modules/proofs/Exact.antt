-- The map of the modules holds exactly what the files hold.
use Rattle.std.proofs.Common.{◌≡◌, ◌↔◌, ◌⊎◌, ⊎_elim, inl, inr, ℕ, zero, suc, ◌+◌, ◌-◌, ◌≤◌, Bool, true, false, cond, ◌&&◌, nat_le, List, [], ◌∷◌, ◌++◌, length, take, drop, Option, Some, None, IsSome, Contains, refl, sym, ap, ◌∙◌, subst, arith, length-append}
use Rattle.std.specs.Prelude.{fold}
use Rattle.std.specs.Option.{option_map, option_map_or}
use Rattle.std.specs.Ordering.{nat_cmp}
use Rattle.std.specs.Cmp.Lexicographic.{slice_cmp}
use Rattle.std.specs.Str.{bytes_eq}
use Rattle.std.specs.List.Sorted.{IsStrictlySortedBy}
use Rattle.std.specs.FinMap as finite
use Rattle.std.specs.FinMap.{get-empty}
use Rattle.std.proofs.lemmas.List.{take-append-drop}
use Rattle.std.proofs.lemmas.Slice.Eq.{bytes_eq-Decides}
use Rattle.std.proofs.lemmas.Bool.Decides.{nat_tests, not_from_Decides}
use Rattle.std.proofs.Math.Seq.{take-append_seam, drop-append_seam}
use Rattle.pw_io.specs.Files.{Files, prefix_of}
use Rattle.pw_io.proofs.FileMaps.{get-insert_same, get-insert_other, keys-order, keys-exact}
use Rattle.pw_store_modules.specs.FileNames.{text_ending, text_name}
use Rattle.pw_store_modules.specs.Modules.{stem, is_module_name, is_module_file, HoldsModule, with_module, module_map, text_read}

-- ---- a module's file is its name and `.i`

both : (a b : Bool) → (a && b) ≡ true → (a ≡ true) × (b ≡ true)
both true true e = (refl, refl)
both true false e = cc
both false b e = cc

all_true : (a b c : Bool) → a ≡ true → b ≡ true → c ≡ true → (a && (b && c)) ≡ true
all_true true true true p q r = refl
all_true true true false p q r = cc
all_true true false c p q r = cc
all_true false b c p q r = cc

-- the file is its module's name and `.i`
pub file_split : (file : List ℕ) → is_module_file file ≡ true → (file ≡ stem file ++ text_ending) × (is_module_name (stem file) ≡ true)
file_split file e =
    let first = both (nat_le 2 (length file)) (bytes_eq (drop (length file - 2) file) text_ending && is_module_name (stem file)) e in
    let second = both (bytes_eq (drop (length file - 2) file) text_ending) (is_module_name (stem file)) first.1 in
    let ending : drop (length file - 2) file ≡ text_ending = (bytes_eq-Decides (drop (length file - 2) file) text_ending).0 second.0 in
    (sym (take-append-drop (length file - 2) file) ∙ ap (λ (l : List ℕ). stem file ++ l) ending, second.1)

size : (name : List ℕ) → length (text_name name) ≡ length name + 2
size name = length-append name text_ending

two_less : (name : List ℕ) → length (text_name name) - 2 ≡ length name
two_less name = omega (arith, size name)

pub stem_of : (name : List ℕ) → stem (text_name name) ≡ name
stem_of name = ap (λ (n : ℕ). take n (text_name name)) (two_less name) ∙ take-append_seam name text_ending

ending_of : (name : List ℕ) → drop (length (text_name name) - 2) (text_name name) ≡ text_ending
ending_of name = ap (λ (n : ℕ). drop n (text_name name)) (two_less name) ∙ drop-append_seam name text_ending

long : (n : ℕ) → 2 ≤ n → nat_le 2 n ≡ true
long n h = grind (arith, nat_tests)

pub is_file : (name : List ℕ) → is_module_name name ≡ true → is_module_file (text_name name) ≡ true
is_file name named =
    all_true _ _ _
    (long (length (text_name name)) (omega (arith, size name)))
    ((bytes_eq-Decides (drop (length (text_name name) - 2) (text_name name)) text_ending).1 (ending_of name))
    (ap is_module_name (stem_of name) ∙ named)

-- ---- one entry

some_same : (x y : List ℕ) → ◌≡◌ {A = Option (List ℕ)} (Some x) (Some y) → x ≡ y
some_same x y e = cc

none_is_some : (x : List ℕ) → ◌≡◌ {A = Option (List ℕ)} None (Some x) → ⊥
none_is_some x e = cc

-- what stands in a map after an insertion
inserted : (modules : Files) (key value name text : List ℕ) → finite.get (finite.insert modules key value) name ≡ Some text → (finite.get modules name ≡ Some text) ⊎ ((name ≡ key) × (value ≡ text))
inserted modules key value name text g =
    elim (bytes_eq name key) as (λ b. bytes_eq name key ≡ b → (finite.get modules name ≡ Some text) ⊎ ((name ≡ key) × (value ≡ text))) [
      | true ↦ λ e.
          let same : name ≡ key = (bytes_eq-Decides name key).0 e in
          inr (same, some_same value text (sym (get-insert_same modules key value) ∙ ap (λ (n : List ℕ). finite.get (finite.insert modules key value) n) (sym same) ∙ g))
      | false ↦ λ e. inl (sym (get-insert_other modules key value name (not_from_Decides (bytes_eq name key) (bytes_eq-Decides name key) e)) ∙ g)
    ] refl

-- an entry stays under an insertion of its own text at its name
stays : (modules : Files) (key value name text : List ℕ) → finite.get modules name ≡ Some text → (name ≡ key → value ≡ text) → finite.get (finite.insert modules key value) name ≡ Some text
stays modules key value name text g own =
    elim (bytes_eq name key) as (λ b. bytes_eq name key ≡ b → finite.get (finite.insert modules key value) name ≡ Some text) [
      | true ↦ λ e.
          let same : name ≡ key = (bytes_eq-Decides name key).0 e in
          ap (λ (n : List ℕ). finite.get (finite.insert modules key value) n) same ∙ get-insert_same modules key value ∙ ap Some (own same)
      | false ↦ λ e. get-insert_other modules key value name (not_from_Decides (bytes_eq name key) (bytes_eq-Decides name key) e) ∙ g
    ] refl

-- ---- one file

abbrev changed : Files → List ℕ → Bool → Option (List ℕ) → Files
changed modules file b found = cond b (option_map_or (λ text. finite.insert modules (stem file) (prefix_of text_read text)) found modules) modules

-- the text of a module, from its file
held : (files : Files) (file text : List ℕ) → is_module_file file ≡ true → finite.get files file ≡ Some text → HoldsModule files (stem file) (prefix_of text_read text)
held files file text e found = record {
  named = (file_split file e).1;
  reads = ap (λ (f : List ℕ). option_map (prefix_of text_read) (finite.get files f)) (sym (file_split file e).0) ∙ ap (option_map (prefix_of text_read)) found;
}

changed_holds : (files modules : Files) (file : List ℕ) (b : Bool) (found : Option (List ℕ)) → is_module_file file ≡ b → finite.get files file ≡ found
    → (name text : List ℕ) → finite.get (changed modules file b found) name ≡ Some text → (finite.get modules name ≡ Some text) ⊎ HoldsModule files name text
changed_holds files modules file false found e f name text g = inl g
changed_holds files modules file true None e f name text g = inl g
changed_holds files modules file true (Some own) e f name text g =
    ⊎_elim {C = (finite.get modules name ≡ Some text) ⊎ HoldsModule files name text}
    (λ old. inl old)
    (λ new.
    let h : HoldsModule files (stem file) text = subst (HoldsModule files (stem file)) new.1 (held files file own e f) in
    inr (subst (λ (n : List ℕ). HoldsModule files n text) (sym new.0) h))
    (inserted modules (stem file) (prefix_of text_read own) name text g)

-- the one text that the files hold under a name
one_text : (files : Files) (name first second : List ℕ) → HoldsModule files name first → HoldsModule files name second → first ≡ second
one_text files name first second h k = some_same first second (sym h.reads ∙ k.reads)

changed_stays : (files modules : Files) (file : List ℕ) (b : Bool) (found : Option (List ℕ)) → is_module_file file ≡ b → finite.get files file ≡ found
    → (name text : List ℕ) → HoldsModule files name text → finite.get modules name ≡ Some text → finite.get (changed modules file b found) name ≡ Some text
changed_stays files modules file false found e f name text h g = g
changed_stays files modules file true None e f name text h g = g
changed_stays files modules file true (Some own) e f name text h g =
    stays modules (stem file) (prefix_of text_read own) name text g
    (λ same. one_text files (stem file) (prefix_of text_read own) text (held files file own e f) (subst (λ (n : List ℕ). HoldsModule files n text) same h))

changed_has : (files modules : Files) (file : List ℕ) (b : Bool) (found : Option (List ℕ)) → is_module_file file ≡ b → finite.get files file ≡ found
    → (name text : List ℕ) → HoldsModule files name text → file ≡ text_name name → finite.get (changed modules file b found) name ≡ Some text
changed_has files modules file false found e f name text h same = absurd (no_file (is_module_file file) e (ap is_module_file same ∙ is_file name h.named))
  where
    no_file : (b : Bool) → b ≡ false → b ≡ true → ⊥
    no_file b p q = cc
changed_has files modules file true None e f name text h same =
    absurd (none_is_some text (ap (option_map (prefix_of text_read)) (sym f) ∙ ap (λ (n : List ℕ). option_map (prefix_of text_read) (finite.get files n)) same ∙ h.reads))
changed_has files modules file true (Some own) e f name text h same =
    let key : stem file ≡ name = ap stem same ∙ stem_of name in
    let value : prefix_of text_read own ≡ text = one_text files name (prefix_of text_read own) text (subst (λ (n : List ℕ). HoldsModule files n (prefix_of text_read own)) key (held files file own e f)) h in
    ap (λ (n : List ℕ). finite.get (finite.insert modules (stem file) (prefix_of text_read own)) n) (sym key) ∙ get-insert_same modules (stem file) (prefix_of text_read own) ∙ ap Some value

-- ---- all files

sound : (files modules : Files) (names : List (List ℕ)) (name text : List ℕ) → ((n t : List ℕ) → finite.get modules n ≡ Some t → HoldsModule files n t)
    → finite.get (fold (with_module files) modules names) name ≡ Some text → HoldsModule files name text
sound files modules [] name text all g = all name text g
sound files modules (file ∷ names) name text all g =
    sound files (with_module files modules file) names name text
    (λ n t found. ⊎_elim (λ old. all n t old) (λ new. new) (changed_holds files modules file (is_module_file file) (finite.get files file) refl refl n t found)) g

keeps : (files modules : Files) (names : List (List ℕ)) (name text : List ℕ) → HoldsModule files name text → finite.get modules name ≡ Some text → finite.get (fold (with_module files) modules names) name ≡ Some text
keeps files modules [] name text h g = g
keeps files modules (file ∷ names) name text h g =
    keeps files (with_module files modules file) names name text h (changed_stays files modules file (is_module_file file) (finite.get files file) refl refl name text h g)

first_or_later : (n : List ℕ) (ns : List (List ℕ)) (q : List ℕ) → Contains (n ∷ ns) q → (n ≡ q) ⊎ Contains ns q
first_or_later n ns q (zero, lt, e) = inl e
first_or_later n ns q (suc k, lt, e) = inr (k, omega (arith, lt), e)

complete : (files modules : Files) (names : List (List ℕ)) (name text : List ℕ) → HoldsModule files name text → Contains names (text_name name) → finite.get (fold (with_module files) modules names) name ≡ Some text
complete files modules [] name text h (k, lt, e) = absurd (omega (arith, lt))
complete files modules (file ∷ names) name text h within =
    ⊎_elim {C = finite.get (fold (with_module files) (with_module files modules file) names) name ≡ Some text}
    (λ same. keeps files (with_module files modules file) names name text h (changed_has files modules file (is_module_file file) (finite.get files file) refl refl name text h same))
    (λ later. complete files (with_module files modules file) names name text h later)
    (first_or_later file names (text_name name) within)

is_there : (o : Option (List ℕ)) (text : List ℕ) → option_map (prefix_of text_read) o ≡ Some text → IsSome o
is_there None text e = cc
is_there (Some own) text e = refl

pub map_is_exact : (files : Files) (name text : List ℕ) → (finite.get (module_map files) name ≡ Some text) ↔ HoldsModule files name text
unfolding module_map
map_is_exact files name text = (
  λ g. sound files finite.empty (finite.keys files) name text (λ n t found. absurd (none_is_some t (sym (get-empty (slice_cmp nat_cmp) n) ∙ found))) g,
  λ h. complete files finite.empty (finite.keys files) name text h ((keys-exact files (text_name name)).1 (is_there (finite.get files (text_name name)) text h.reads)),
)

pub map_rises : (files : Files) → IsStrictlySortedBy (slice_cmp nat_cmp) (finite.keys (module_map files))
map_rises files = keys-order (module_map files)
