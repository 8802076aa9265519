-- A header, and a C source, that is read.
use Rattle.std.proofs.Common.{◌≡◌, ℕ, Bool, true, false, ◌&&◌, ◌-◌, nat_le, List, [], ◌∷◌, ◌++◌, length, drop, map, Option, Some, None, refl, sym, ap, ◌∙◌}
use Rattle.std.specs.Prelude.{option_to_list}
use Rattle.std.specs.Global.{Vec}
use Rattle.std.specs.Option.{option_map}
use Rattle.std.specs.FinMap as finite
use Rattle.std.specs.Str.{bytes_eq}
use Rattle.std.proofs.lemmas.List.{map-append}
use Rattle.pw_cpp_sources.specs.Sources.{Texts, is_header, texts_of}
use Rattle.pw_io.specs.Files.{Files, prefix_of}
use Rattle.pw_store_modules.specs.Modules.{is_module_name, stem, text_read}
use Rattle.pw_store_sources.specs.Headers.{header_in}
use Rattle.pw_store_sources.specs.Names.{is_source_file, source_ending}
use Rattle.pw_store_sources.specs.Sources.{source_in}
use Rattle.pw_store_sources.specs.Views.{named_text}
use Rattle.pw_store_sources.specs.declared.source.Source.{Source}
use Rattle.pw_store_sources.proofs.Picking.{nothing-more, picked-found, picked-gone, picked-none}

abbrev Gone : Option (List ℕ) → Type 0
Gone o = ◌≡◌ {A = Option (List ℕ)} None (option_map (prefix_of text_read) o)

-- ---- headers

pub header-more : (files : Files) (file name : List ℕ) (text : Vec ℕ) (old new : List (List ℕ × Vec ℕ)) → is_header file ≡ true
    → Some text.items ≡ option_map (prefix_of text_read) (finite.get files file) → name ≡ file → new ≡ old ++ (name, text) ∷ []
    → texts_of new ≡ texts_of old ++ option_to_list (header_in files file)
header-more files file name text old new e f n are =
    ap texts_of are ∙ map-append (λ h. (h.0, h.1.items)) old ((name, text) ∷ [])
    ∙ ap (λ x. texts_of old ++ (x, text.items) ∷ []) n
    ∙ ap (λ x. texts_of old ++ option_to_list x) (picked-found (is_header file) (finite.get files file) file text.items e f)

pub header-gone : (files : Files) (file : List ℕ) (texts : Texts) → Gone (finite.get files file) → texts ≡ texts ++ option_to_list (header_in files file)
header-gone files file texts f = nothing-more texts (header_in files file) (picked-gone (is_header file) (finite.get files file) file f)

pub header-none : (files : Files) (file : List ℕ) (texts : Texts) → is_header file ≡ false → texts ≡ texts ++ option_to_list (header_in files file)
header-none files file texts e = nothing-more texts (header_in files file) (picked-none (is_header file) (finite.get files file) file e)

-- ---- C sources

pub source-more : (files : Files) (file name : List ℕ) (source : Source) (old new : List Source) → is_source_file file ≡ true
    → Some source.text.items ≡ option_map (prefix_of text_read) (finite.get files file) → source.name ≡ stem file → new ≡ old ++ source ∷ []
    → map named_text new ≡ map named_text old ++ option_to_list (source_in files file)
source-more files file name source old new e f n are =
    ap (map named_text) are ∙ map-append named_text old (source ∷ [])
    ∙ ap (λ x. map named_text old ++ (x, source.text.items) ∷ []) n
    ∙ ap (λ x. map named_text old ++ option_to_list x) (picked-found (is_source_file file) (finite.get files file) (stem file) source.text.items e f)

pub source-gone : (files : Files) (file : List ℕ) (texts : Texts) → Gone (finite.get files file) → texts ≡ texts ++ option_to_list (source_in files file)
source-gone files file texts f = nothing-more texts (source_in files file) (picked-gone (is_source_file file) (finite.get files file) (stem file) f)

pub source-none : (files : Files) (file : List ℕ) (texts : Texts) → is_source_file file ≡ false → texts ≡ texts ++ option_to_list (source_in files file)
source-none files file texts e = nothing-more texts (source_in files file) (picked-none (is_source_file file) (finite.get files file) (stem file) e)

pub behind : (a b : Bool) → (a && b) ≡ true → b ≡ true
behind true b e = e
behind false b e = cc

-- the name before `.c` is a module's
pub source-named : (file : List ℕ) → is_source_file file ≡ true → is_module_name (stem file) ≡ true
source-named file e =
    behind (bytes_eq (drop (length file - 2) file) source_ending) (is_module_name (stem file))
    (behind (nat_le 2 (length file)) (bytes_eq (drop (length file - 2) file) source_ending && is_module_name (stem file)) e)
