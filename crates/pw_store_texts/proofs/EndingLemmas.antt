-- How the names of texts' files end: not as those of the files that a build puts.
use Rattle.std.proofs.Common.{◌≡◌, ◌≢◌, ◌⊎◌, ⊎_elim, inl, inr, ℕ, ◌+◌, ◌-◌, ◌&&◌, ◌||◌, Bool, true, false, if◌then◌else◌, nat_le, List, codes, length, drop, get_or, refl, sym, ap, ◌∙◌, true≢false, arith, length-append, bytes_eq}
use Rattle.std.specs.Prelude.{nat_lt}
use Rattle.std.proofs.Math.Seq.{drop-append-add}
use Rattle.std.proofs.lemmas.Slice.Eq.{bytes_eq-Decides}
use Rattle.pw_cpp_sources.specs.Sources.{ends_in, has_gap, header_name_limit, is_header}
use Rattle.pw_store_modules.specs.FileNames.{database_name, image_name, text_ending, text_name, object_ending, object_name}
use Rattle.pw_store_modules.specs.Modules.{is_module_file, is_module_name, stem}
use Rattle.pw_store_sources.specs.Names.{is_source_file, is_text_file, source_ending}

both : (a b : Bool) → (a && b) ≡ true → (a ≡ true) × (b ≡ true)
both true b h = (refl, h)
both false b h = absurd (true≢false (sym h))

one_of : (a b : Bool) → (a || b) ≡ true → (a ≡ true) ⊎ (b ≡ true)
one_of true b h = inl refl
one_of false b h = inr h

otherwise : (a b : Bool) → (if a then false else b) ≡ true → b ≡ true
otherwise true b h = absurd (true≢false (sym h))
otherwise false b h = h

-- the last two bytes of a name
abbrev last_two : List ℕ → List ℕ
last_two file = drop (length file - 2) file

last_is : (file ending : List ℕ) → bytes_eq (last_two file) ending ≡ true → last_two file ≡ ending
last_is file ending h = (bytes_eq-Decides (last_two file) ending).0 h

source_ends : (file : List ℕ) → is_source_file file ≡ true → last_two file ≡ source_ending
source_ends file h = last_is file source_ending (both _ (is_module_name (stem file)) (both (nat_le 2 (length file)) _ h).1).0

module_ends : (file : List ℕ) → is_module_file file ≡ true → last_two file ≡ text_ending
module_ends file h = last_is file text_ending (both _ (is_module_name (stem file)) (both (nat_le 2 (length file)) _ h).1).0

header_ends : (file : List ℕ) → is_header file ≡ true → last_two file ≡ codes ".h"
header_ends file h =
    last_is file (codes ".h")
    (both (nat_le 2 (length file)) _ (otherwise (nat_lt header_name_limit (length file) || has_gap file) (ends_in file (codes ".h")) h)).1

object_ends : (name : List ℕ) → last_two (object_name name) ≡ codes "bj"
object_ends name =
    let l = length-append name object_ending in
    let k : length (object_name name) - 2 ≡ length name + 2 = omega (arith, l) in
    ap (λ (n : ℕ). drop n (object_name name)) k ∙ drop-append-add name object_ending 2

no_source : source_ending ≡ codes "bj" → ⊥
no_source e = cc

no_module : text_ending ≡ codes "bj" → ⊥
no_module e = cc

no_header : codes ".h" ≡ codes "bj" → ⊥
no_header e = cc

-- the byte with which each begins
first_is : (xs ys : List ℕ) → xs ≡ ys → get_or xs 0 0 ≡ get_or ys 0 0
first_is xs ys e = ap (λ (bytes : List ℕ). get_or bytes 0 0) e

no_source_db : source_ending ≡ codes "db" → ⊥
no_source_db e = let f : 46 ≡ 100 = first_is source_ending (codes "db") e in absurd (omega (arith, f))

no_source_mg : source_ending ≡ codes "mg" → ⊥
no_source_mg e = let f : 46 ≡ 109 = first_is source_ending (codes "mg") e in absurd (omega (arith, f))

no_module_db : text_ending ≡ codes "db" → ⊥
no_module_db e = let f : 46 ≡ 100 = first_is text_ending (codes "db") e in absurd (omega (arith, f))

no_module_mg : text_ending ≡ codes "mg" → ⊥
no_module_mg e = let f : 46 ≡ 109 = first_is text_ending (codes "mg") e in absurd (omega (arith, f))

no_header_db : codes ".h" ≡ codes "db" → ⊥
no_header_db e = let f : 46 ≡ 100 = first_is (codes ".h") (codes "db") e in absurd (omega (arith, f))

no_header_mg : codes ".h" ≡ codes "mg" → ⊥
no_header_mg e = let f : 46 ≡ 109 = first_is (codes ".h") (codes "mg") e in absurd (omega (arith, f))

-- ---- a file is the text of one kind

differ : (b : Bool) → (b ≡ true → ⊥) → b ≡ false
differ true h = absurd (h refl)
differ false h = refl

second_is : (xs ys : List ℕ) → xs ≡ ys → get_or xs 1 0 ≡ get_or ys 1 0
second_is xs ys e = ap (λ (bytes : List ℕ). get_or bytes 1 0) e

no_source_header : source_ending ≡ codes ".h" → ⊥
no_source_header e = let f : 99 ≡ 104 = second_is source_ending (codes ".h") e in absurd (omega (arith, f))

no_source_module : source_ending ≡ text_ending → ⊥
no_source_module e = let f : 99 ≡ 105 = second_is source_ending text_ending e in absurd (omega (arith, f))

no_header_module : codes ".h" ≡ text_ending → ⊥
no_header_module e = let f : 104 ≡ 105 = second_is (codes ".h") text_ending e in absurd (omega (arith, f))

pub source-no-header : (file : List ℕ) → is_source_file file ≡ true → is_header file ≡ false
source-no-header file s = differ (is_header file) (λ h. no_source_header (sym (source_ends file s) ∙ header_ends file h))

pub source-no-module : (file : List ℕ) → is_source_file file ≡ true → is_module_file file ≡ false
source-no-module file s = differ (is_module_file file) (λ m. no_source_module (sym (source_ends file s) ∙ module_ends file m))

pub header-no-module : (file : List ℕ) → is_header file ≡ true → is_module_file file ≡ false
header-no-module file h = differ (is_module_file file) (λ m. no_header_module (sym (header_ends file h) ∙ module_ends file m))

-- ---- none is the file of what is built

-- no text's file ends so
abbrev IsOther : List ℕ → Type 0
IsOther ending = ¬ (source_ending ≡ ending) × ¬ (text_ending ≡ ending) × ¬ (codes ".h" ≡ ending)

ends_apart : (file ending : List ℕ) → IsOther ending → is_text_file file ≡ true → last_two file ≡ ending → ⊥
ends_apart file ending other h e =
    ⊎_elim {C = ⊥} (λ s. other.0 (sym (source_ends file s) ∙ e))
    (λ r.
    ⊎_elim {C = ⊥} (λ m. other.1 (sym (module_ends file m) ∙ e)) (λ d. other.2 (sym (header_ends file d) ∙ e))
    (one_of (is_module_file file) (is_header file) r))
    (one_of (is_source_file file) (is_module_file file || is_header file) h)

pub no-object : (file name : List ℕ) → is_text_file file ≡ true → object_name name ≢ file
no-object file name h e = ends_apart file (codes "bj") ((λ s. no_source s), (λ m. no_module m), (λ d. no_header d)) h (ap last_two (sym e) ∙ object_ends name)

pub no-database : (file : List ℕ) → is_text_file file ≡ true → database_name ≢ file
no-database file h e = ends_apart file (codes "db") ((λ s. no_source_db s), (λ m. no_module_db m), (λ d. no_header_db d)) h (ap last_two (sym e))

pub no-image : (file : List ℕ) → is_text_file file ≡ true → image_name ≢ file
no-image file h e = ends_apart file (codes "mg") ((λ s. no_source_mg s), (λ m. no_module_mg m), (λ d. no_header_mg d)) h (ap last_two (sym e))

-- ---- the texts of modules

text_ends : (name : List ℕ) → last_two (text_name name) ≡ text_ending
text_ends name =
    let l = length-append name text_ending in
    let k : length (text_name name) - 2 ≡ length name + 0 = omega (arith, l) in
    ap (λ (n : ℕ). drop n (text_name name)) k ∙ drop-append-add name text_ending 0

pub object-no-text : (name m : List ℕ) → object_name name ≢ text_name m
object-no-text name m e = no_module (sym (text_ends m) ∙ ap last_two (sym e) ∙ object_ends name)

pub database-no-text : (m : List ℕ) → database_name ≢ text_name m
database-no-text m e = no_module_db (sym (text_ends m) ∙ ap last_two (sym e))

pub image-no-text : (m : List ℕ) → image_name ≢ text_name m
image-no-text m e = no_module_mg (sym (text_ends m) ∙ ap last_two (sym e))
