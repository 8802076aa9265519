-- The bytes of a store's texts: those of its C sources and headers, and those of the modules beside whose files no C source stands.
use Rattle.std.proofs.Common.{◌≡◌, ◌↔◌, ℕ, ◌+◌, ◌<◌, Bool, true, false, ◌&&◌, ◌||◌, ◌-◌, if◌then◌else◌, nat_le, List, [], ◌∷◌, length, get_or, drop, map, Option, Some, None, IsSome, Contains, Result, Ok, Err, refl, sym, ap, ◌∙◌, subst, true≢false, arith, bytes_eq}
use Rattle.std.specs.Prelude.{IfOk, IfSome, String, fold, is_none, string_bytes, sum_by}
use Rattle.std.specs.declared.alloc.Global.{Global}
use Rattle.std.specs.Option.{option_map, option_map_or}
use Rattle.std.specs.Ordering.{nat_cmp, ordering_index}
use Rattle.std.specs.declared.cmp.Ordering.TheVariants.{Less, Equal, Greater}
use Rattle.std.specs.Cmp.Lexicographic.{slice_cmp}
use Rattle.std.specs.List.{HoldsAt, cons_option, position_or_len}
use Rattle.std.specs.List.Sorted.{IsNonDecreasingBy, IsPartitionPoint, IsStrictlySortedBy}
use Rattle.std.specs.FinMap as finite
use Rattle.std.proofs.lemmas.List.{get_or-map, length-map}
use Rattle.std.proofs.lemmas.List.Sums.{sum_by-cons, sum_by-insert}
use Rattle.pw_cpp_sources.specs.Sources.{Texts, is_header}
use Rattle.pw_files.proofs.ByteOrder.{strictly_rising}
use Rattle.pw_files.proofs.Searches.{found, found_none}
use Rattle.pw_files.specs.Rising.{IsRising}
use Rattle.pw_io.specs.Files.{Files, Keeps, Told, prefix_of}
use Rattle.pw_io.specs.declared.StoreError.{StoreError}
use Rattle.pw_store_modules.specs.FileNames.{text_ending}
use Rattle.pw_store_modules.specs.Modules.{Source, is_module_file, is_module_name, modules_of, stem, text_read}
use Rattle.pw_store_modules.specs.Reading.{is_file_before, module_files, placed, source_of, sources_of, with_file}
use Rattle.pw_store_modules.proofs.Order.{read_in_order}
use Rattle.pw_store_sources.specs.Bytes.{bytes_of}
use Rattle.pw_store_sources.specs.Headers.{header_in, headers_among, headers_of}
use Rattle.pw_store_sources.specs.Names.{is_source_file, source_name}
use Rattle.pw_store_sources.specs.Sources as sources
use Rattle.pw_store_sources.specs.Sources.{preprocessed_bytes, source_in, sources_among}
use Rattle.pw_store_sources.proofs.BytesLemmas.{sum_none, sum_step}
use Rattle.pw_store_sources.proofs.HeaderLemmas.{behind}
use Rattle.pw_store_texts.specs.Bytes.{bytes_alone, bytes_among, bytes_in, module_bytes, text_bytes}
use Rattle.pw_store_texts.proofs.EndingLemmas.{header-no-module, source-no-header, source-no-module}

-- the name before `.i` is a module's
pub module_named : (file : List ℕ) → is_module_file file ≡ true → is_module_name (stem file) ≡ true
module_named file e =
    behind (bytes_eq (drop (length file - 2) file) text_ending) (is_module_name (stem file))
    (behind (nat_le 2 (length file)) (bytes_eq (drop (length file - 2) file) text_ending && is_module_name (stem file)) e)

-- ---- the bytes of one file

abbrev size_in : Option (List ℕ) → ℕ
size_in o = option_map_or (λ text. length (prefix_of text_read text)) o 0

abbrev size_of : Option (List ℕ × List ℕ) → ℕ
size_of o = option_map_or (λ text. length text.1) o 0

-- a file that is picked
picked_size : (b : Bool) (o : Option (List ℕ)) (name : List ℕ) → size_of (if b then option_map (λ text. (name, prefix_of text_read text)) o else None) ≡ (if b then size_in o else 0)
picked_size true None name = refl
picked_size true (Some text) name = refl
picked_size false o name = refl

zero_if : (b : Bool) → ◌≡◌ {A = ℕ} (if b then 0 else 0) 0
zero_if true = refl
zero_if false = refl

-- the text of a module
abbrev own_of : Files → List ℕ → ℕ
own_of files file = option_map_or (bytes_alone files) (source_of files file) 0

abbrev own_in : Files → List ℕ → ℕ
own_in files file = if is_module_file file then own_of files file else 0

alone_size : (files : Files) (o : Option (List ℕ)) (name : List ℕ) → option_map_or (bytes_alone files) (option_map (λ text. (name, prefix_of text_read text)) o) 0 ≡ (if is_none (finite.get files (source_name name)) then size_in o else 0)
alone_size files None name = sym (zero_if (is_none (finite.get files (source_name name))))
alone_size files (Some text) name = refl

own_by : (b d : Bool) (n m : ℕ) → n ≡ (if d then m else 0) → (if b then n else 0) ≡ (if b && d then m else 0)
own_by true d n m e = e
own_by false d n m e = refl

own_size : (files : Files) (file : List ℕ) → own_in files file ≡ (if is_module_file file && is_none (finite.get files (source_name (stem file))) then size_in (finite.get files file) else 0)
own_size files file = own_by (is_module_file file) (is_none (finite.get files (source_name (stem file)))) (own_of files file) (size_in (finite.get files file)) (alone_size files (finite.get files file) (stem file))

first_plus : (n : ℕ) → n ≡ n + (0 + 0)
first_plus n = omega arith

second_plus : (n : ℕ) → n ≡ 0 + (n + 0)
second_plus n = omega arith

third_plus : (n : ℕ) → n ≡ 0 + (0 + n)
third_plus n = omega arith

of_one_kind : (a b c : Bool) (n : ℕ) → (a ≡ true → b ≡ false) → (a ≡ true → c ≡ false) → (b ≡ true → c ≡ false) → (if a || (b || c) then n else 0) ≡ (if a then n else 0) + ((if b then n else 0) + (if c then n else 0))
of_one_kind true true c n ab ac bc = absurd (true≢false (ab refl))
of_one_kind true false true n ab ac bc = absurd (true≢false (ac refl))
of_one_kind true false false n ab ac bc = first_plus n
of_one_kind false true true n ab ac bc = absurd (true≢false (bc refl))
of_one_kind false true false n ab ac bc = second_plus n
of_one_kind false false true n ab ac bc = third_plus n
of_one_kind false false false n ab ac bc = first_plus 0

and_false : (c d : Bool) → c ≡ false → (c && d) ≡ false
and_false true d e = absurd (true≢false e)
and_false false d e = refl

sum_of_three : (whole a b c x y z : ℕ) → whole ≡ a + (b + c) → x ≡ a → y ≡ b → z ≡ c → whole ≡ x + (y + z)
sum_of_three whole a b c x y z e p q r = omega (arith, e, p, q, r)

one_file : (files : Files) (file : List ℕ) → bytes_in files file ≡ size_of (source_in files file) + (size_of (header_in files file) + own_in files file)
one_file files file =
    let o : Option (List ℕ) = finite.get files file in
    let alone : Bool = is_none (finite.get files (source_name (stem file))) in
    sum_of_three (bytes_in files file) (if is_source_file file then size_in o else 0) (if is_header file then size_in o else 0) (if is_module_file file && alone then size_in o else 0)
    (size_of (source_in files file)) (size_of (header_in files file)) (own_in files file)
    (of_one_kind (is_source_file file) (is_header file) (is_module_file file && alone) (size_in o) (source-no-header file) (λ e. and_false (is_module_file file) alone (source-no-module file e))
    (λ e. and_false (is_module_file file) alone (header-no-module file e)))
    (picked_size (is_source_file file) o (stem file)) (picked_size (is_header file) o file) (own_size files file)

-- ---- the bytes of all files

pub plus_none : (n : ℕ) → n ≡ 0 + n
plus_none n = omega arith

more_bytes : (o : Option (List ℕ × List ℕ)) (texts : Texts) → bytes_of (cons_option o texts) ≡ size_of o + bytes_of texts
more_bytes None texts = plus_none (bytes_of texts)
more_bytes (Some text) texts = sum_by-cons (λ t. length t.1) text texts

add_up : (whole here left s h m sr hr mr ss hh mm : ℕ) → whole ≡ here + left → here ≡ s + (h + m) → left ≡ sr + (hr + mr) → ss ≡ s + sr → hh ≡ h + hr → mm ≡ m + mr → whole ≡ ss + (hh + mm)
add_up whole here left s h m sr hr mr ss hh mm a b c d e f = omega (arith, a, b, c, d, e, f)

all_files : (files : Files) (names : List (List ℕ)) → bytes_among files names ≡ bytes_of (sources_among files names) + (bytes_of (headers_among files names) + sum_by (own_in files) names)
all_files files [] = refl
all_files files (file ∷ names) =
    add_up (bytes_among files (file ∷ names)) (bytes_in files file) (bytes_among files names) (size_of (source_in files file)) (size_of (header_in files file)) (own_in files file)
    (bytes_of (sources_among files names)) (bytes_of (headers_among files names)) (sum_by (own_in files) names)
    (bytes_of (sources_among files (file ∷ names))) (bytes_of (headers_among files (file ∷ names))) (sum_by (own_in files) (file ∷ names))
    (sum_by-cons (bytes_in files) file names) (one_file files file) (all_files files names)
    (more_bytes (source_in files file) (sources_among files names)) (more_bytes (header_in files file) (headers_among files names)) (sum_by-cons (own_in files) file names)

-- ---- the bytes of modules, in the order of their names

more_own : (files : Files) (o : Option Source) (modules : List Source) → module_bytes files (cons_option o modules) ≡ option_map_or (bytes_alone files) o 0 + module_bytes files modules
more_own files None modules = plus_none (module_bytes files modules)
more_own files (Some s) modules = sum_by-cons (bytes_alone files) s modules

module_sum : (files : Files) (found : List (List ℕ)) → module_bytes files (sources_of files found) ≡ sum_by (own_of files) found
module_sum files [] = refl
module_sum files (file ∷ found) =
    more_own files (source_of files file) (sources_of files found) ∙ ap (λ (n : ℕ). own_of files file + n) (module_sum files found) ∙ sym (sum_by-cons (own_of files) file found)

nothing_more : (n : ℕ) → n ≡ n + 0
nothing_more n = omega arith

placed_by : (files : Files) (b : Bool) (before : List (List ℕ)) (file : List ℕ) → sum_by (own_of files) (if b then placed before file else before) ≡ sum_by (own_of files) before + (if b then own_of files file else 0)
placed_by files true before file = sum_by-insert (own_of files) before (position_or_len (is_file_before file) before) file
placed_by files false before file = nothing_more (sum_by (own_of files) before)

one_more : (all new old here rest more : ℕ) → all ≡ new + rest → new ≡ old + here → more ≡ here + rest → all ≡ old + more
one_more all new old here rest more a b c = omega (arith, a, b, c)

files_sum : (files : Files) (before names : List (List ℕ)) → sum_by (own_of files) (fold with_file before names) ≡ sum_by (own_of files) before + sum_by (own_in files) names
files_sum files before [] = nothing_more (sum_by (own_of files) before)
files_sum files before (file ∷ names) =
    one_more (sum_by (own_of files) (fold with_file (with_file before file) names)) (sum_by (own_of files) (with_file before file)) (sum_by (own_of files) before) (own_in files file) (sum_by (own_in files) names)
    (sum_by (own_in files) (file ∷ names)) (files_sum files (with_file before file) names) (placed_by files (is_module_file file) before file) (sum_by-cons (own_in files) file names)

modules_sum : (files : Files) → module_bytes files (modules_of files) ≡ 0 + sum_by (own_in files) (finite.keys files)
modules_sum files = ap (module_bytes files) (sym (read_in_order files)) ∙ module_sum files (module_files (finite.keys files)) ∙ files_sum files [] (finite.keys files)

put_together : (whole s h m own : ℕ) → whole ≡ s + (h + m) → own ≡ 0 + m → whole ≡ s + h + own
put_together whole s h m own a b = omega (arith, a, b)

pub text_bytes_are : (files : Files) → text_bytes files ≡ preprocessed_bytes files (finite.keys files) + module_bytes files (modules_of files)
text_bytes_are files =
    put_together (text_bytes files) (bytes_of (sources_among files (finite.keys files))) (bytes_of (headers_of files)) (sum_by (own_in files) (finite.keys files)) (module_bytes files (modules_of files))
    (all_files files (finite.keys files)) (modules_sum files)

-- ---- whether a C source stands beside a module's file

some_there : (o : Option (List ℕ)) → IsSome o → false ≡ is_none o
some_there None h = absurd cc
some_there (Some text) h = refl

none_there : (o : Option (List ℕ)) → (IsSome o → ⊥) → true ≡ is_none o
none_there None h = refl
none_there (Some text) h = absurd (h refl)

abbrev pub KeysLaw : Type 0
KeysLaw = (files : Files) (name : List ℕ) → Contains (finite.keys files) name ↔ IsSome (finite.get files name)

abbrev pub OrderLaw : Type 0
OrderLaw = (files : Files) → IsStrictlySortedBy (slice_cmp nat_cmp) (finite.keys files)

contained_at : (names : List (String Global)) (name : List ℕ) (i : ℕ) → i < length names → HoldsAt (λ n. slice_cmp nat_cmp (string_bytes n) name ≡ Equal) names i → Contains (map string_bytes names) name
contained_at [] name i lt at = absurd (omega (arith, lt))
contained_at (first ∷ names) name i lt at =
    (i, omega (arith, lt, length-map (first ∷ names) string_bytes), get_or-map string_bytes (first ∷ names) i first name lt ∙ found string_bytes (first ∷ names) name i at first)

pub source_beside : KeysLaw → (files : Files) (names : List (String Global)) (source name : List ℕ) (i : ℕ) → map string_bytes names ≡ finite.keys files → source ≡ source_name name
    → i < length names → HoldsAt (λ n. slice_cmp nat_cmp (string_bytes n) source ≡ Equal) names i → false ≡ is_none (finite.get files (source_name name))
source_beside keys files names source name i e s lt at =
    some_there (finite.get files (source_name name))
    ((keys files (source_name name)).0 (subst (λ (ns : List (List ℕ)). Contains ns (source_name name)) e (subst (λ (n : List ℕ). Contains (map string_bytes names) n) s (contained_at names source i lt at))))

pub none_beside : KeysLaw → OrderLaw → (files : Files) (names : List (String Global)) (source name : List ℕ) (i : ℕ) → map string_bytes names ≡ finite.keys files → source ≡ source_name name
    → (IsNonDecreasingBy (λ n. ordering_index (slice_cmp nat_cmp (string_bytes n) source)) names → IsPartitionPoint (λ n. slice_cmp nat_cmp (string_bytes n) source ≡ Less) (λ n. slice_cmp nat_cmp (string_bytes n) source ≡ Greater) names i)
    → true ≡ is_none (finite.get files (source_name name))
none_beside keys order files names source name i e s point =
    none_there (finite.get files (source_name name))
    (λ there. found_none string_bytes names source i (subst IsRising (sym e) (strictly_rising (finite.keys files) (order files))) point
    (subst (λ (ns : List (List ℕ)). Contains ns source) (sym e) (subst (λ (n : List ℕ). Contains (finite.keys files) n) (sym s) ((keys files (source_name name)).1 there))))

pub alone_bytes : (files : Files) (one : Source) (alone : Bool) → alone ≡ true → alone ≡ is_none (finite.get files (source_name one.0)) → length one.1 ≡ bytes_alone files one
alone_bytes files one alone e h = by_alone (is_none (finite.get files (source_name one.0))) (length one.1) (sym h ∙ e)
  where
    by_alone : (b : Bool) (n : ℕ) → b ≡ true → n ≡ (if b then n else 0)
    by_alone true n e = refl
    by_alone false n e = cc

pub hidden_bytes : (files : Files) (one : Source) (alone : Bool) → alone ≡ false → alone ≡ is_none (finite.get files (source_name one.0)) → 0 ≡ bytes_alone files one
hidden_bytes files one alone e h = by_hidden (is_none (finite.get files (source_name one.0))) (length one.1) (sym h ∙ e)
  where
    by_hidden : (b : Bool) (n : ℕ) → b ≡ false → 0 ≡ (if b then n else 0)
    by_hidden true n e = cc
    by_hidden false n e = refl

-- ---- one module after another

pub modules_turn : (files : Files) (one : Source) (left rest : List Source) (old more new all : ℕ) → old + module_bytes files left ≡ all → left ≡ one ∷ rest → more ≡ bytes_alone files one → new ≡ old + more → new + module_bytes files rest ≡ all
modules_turn files one left rest old more new all inv e m n =
    sum_step old more new (bytes_alone files one) (module_bytes files rest) (module_bytes files left) all inv (ap (module_bytes files) e ∙ sum_by-cons (bytes_alone files) one rest) m n

pub modules_end : (files : Files) (left : List Source) (bytes all : ℕ) → left ≡ [] → bytes + module_bytes files left ≡ all → bytes ≡ all
modules_end files left bytes all e inv = sum_none bytes (module_bytes files left) all inv (ap (module_bytes files) e)

-- ---- all texts

pub all_bytes : (first mid : Option Told) (names : List (List ℕ)) (beside own bytes : ℕ) → IfSome first (λ t. beside ≡ preprocessed_bytes t.files names) → Keeps first mid
    → IfSome mid (λ t. names ≡ finite.keys t.files → own ≡ module_bytes t.files (modules_of t.files)) → bytes ≡ beside + own → IfSome first (λ t. names ≡ finite.keys t.files → bytes ≡ text_bytes t.files)
all_bytes None mid names beside own bytes b k o s = tt
all_bytes (Some t) mid names beside own bytes b k o s = λ e.
    let P : Option Told → Type 0 = λ x. IfSome x (λ u. names ≡ finite.keys u.files → own ≡ module_bytes u.files (modules_of u.files)) in
    s ∙ ap (λ (n : ℕ). n + own) (b ∙ ap (preprocessed_bytes t.files) e) ∙ ap (λ (n : ℕ). preprocessed_bytes t.files (finite.keys t.files) + n) (subst P k o e) ∙ sym (text_bytes_are t.files)

-- by the names of all files
pub named_bytes : (first second : Option Told) (names : List (List ℕ)) (result : Result ℕ StoreError) → IfSome first (λ t. names ≡ finite.keys t.files) → Keeps first second
    → IfSome second (λ t. names ≡ finite.keys t.files → IfOk result (λ bytes. bytes ≡ text_bytes t.files)) → IfSome first (λ t. IfOk result (λ bytes. bytes ≡ text_bytes t.files))
named_bytes None second names result e k h = tt
named_bytes (Some t) second names result e k h =
    let P : Option Told → Type 0 = λ o. IfSome o (λ u. names ≡ finite.keys u.files → IfOk result (λ bytes. bytes ≡ text_bytes u.files)) in subst P k h e
