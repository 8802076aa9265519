-- The modules of a store whose texts are more bytes than there may be: the first has a text that no module may have.
use Rattle.std.proofs.Common.{◌≡◌, ◌↔◌, ℕ, zero, ◌≤◌, ◌<◌, Bool, true, false, if◌then◌else◌, List, [], ◌∷◌, length, map, Option, Some, None, Ok, Err, IsSome, Contains, refl, sym, ap, ◌∙◌, subst, arith}
use Rattle.std.specs.Prelude.{nat_lt}
use Rattle.std.specs.Global.{Vec}
use Rattle.std.specs.Ordering.{nat_cmp}
use Rattle.std.specs.declared.cmp.Ordering.{Ordering}
use Rattle.std.specs.Cmp.Lexicographic.{slice_cmp, nat_list_cmp_total}
use Rattle.std.specs.FinMap as finite
use Rattle.std.specs.FinMap.Entries.{put, by_order}
use Rattle.std.proofs.lemmas.Bool.Decides.{nat_tests}
use Rattle.std.proofs.lemmas.Cmp.{tied_itself}
use Rattle.std.proofs.lemmas.List.{length-map}
use Rattle.pw_io.specs.Files.{Files, prefix_of}
use Rattle.pw_store_modules.specs.Modules.{Source, is_module_name, module_map, modules_of, text_read}
use Rattle.pw_store_modules.specs.Views.{source}
use Rattle.pw_store_modules.specs.declared.few.ModulesFault.{ModulesFault}
use Rattle.pw_store_modules.specs.declared.few.ModulesFault.TheVariants as modules
use Rattle.pw_store_modules.specs.declared.modules.Module.{Module}
use Rattle.pw_store_texts.specs.Bytes.{is_crowded, text_bytes}
use Rattle.pw_store_texts.specs.Placing.{placed, refused_sources, sources_within}
use Rattle.pw_store_texts.specs.Seen as seen
use Rattle.pw_store_texts.specs.Seen.{AnswersPreprocessed, AnswersSeen, first_name, refused, refused_text, within_bytes}
use Rattle.pw_store_texts.proofs.SeenLemmas.{Laws, modules_with}
use Rattle.pw_value.specs.Limits.{module_limit, texts_limit}

-- ---- the name of the first module

-- the laws on which it stands
pub record Named : Type 0 where
  pub laws : Laws
  pub keys : (files : Files) (name : List ℕ) → Contains (finite.keys files) name ↔ IsSome (finite.get files name)

there : (text : Option (List ℕ)) → IsSome text → (t : List ℕ) × (text ≡ Some t)
there None h = absurd cc
there (Some t) h = (t, refl)

by_first : (sources : List Source) → ((name : List ℕ) → Contains (map (λ s. s.0) sources) name → is_module_name name ≡ true) → is_module_name (first_name sources) ≡ true
by_first [] h = refl
by_first (s ∷ sources) h = h s.0 (zero, omega arith, refl)

first_named : Named → (files : Files) → is_module_name (first_name (modules_of files)) ≡ true
first_named by files = by_first (modules_of files) (λ name c.
    let found = there (finite.get (module_map files) name) ((by.keys (module_map files) name).0 c) in
    ((by.laws.exact files name found.0).0 found.1).named)

-- ---- as many modules

placed_length : (name old text : List ℕ) (rest : List Source) → length (placed name text ((name, old) ∷ rest)) ≡ length ((name, old) ∷ rest)
placed_length name old text rest =
    ap (λ (o : Ordering). length (by_order o ((name, text) ∷ (name, old) ∷ rest) ((name, text) ∷ rest) ((name, old) ∷ put (slice_cmp nat_cmp) name text rest))) (tied_itself nat_list_cmp_total name)

refused_length : (sources : List Source) → 0 < length sources → length (refused_sources sources) ≡ length sources
refused_length [] h = absurd (omega (arith, h))
refused_length ((name, old) ∷ rest) h = placed_length name old (prefix_of text_read refused_text) rest

refused_few : (sources : List Source) → length sources ≤ module_limit → length (refused_sources sources) ≤ module_limit
refused_few [] h = omega arith
refused_few ((name, old) ∷ rest) h = subst (λ (n : ℕ). n ≤ module_limit) (sym (placed_length name old (prefix_of text_read refused_text) rest)) h

within_length : (b : Bool) (sources : List Source) → 0 < length sources → length (if b then refused_sources sources else sources) ≡ length sources
within_length true sources h = refused_length sources h
within_length false sources h = refl

within_few : (b : Bool) (sources : List Source) → length sources ≤ module_limit → length (if b then refused_sources sources else sources) ≤ module_limit
within_few true sources h = refused_few sources h
within_few false sources h = h

-- ---- the modules as a build sees them

modules_by : Named → (b : Bool) (shown : Files) → modules_of (if b then refused shown else shown) ≡ (if b then refused_sources (modules_of shown) else modules_of shown)
modules_by by true shown = modules_with by.laws shown (first_name (modules_of shown)) refused_text (first_named by shown)
modules_by by false shown = refl

modules_within : Named → (files shown : Files) → modules_of (within_bytes files shown) ≡ sources_within files (modules_of shown)
modules_within by files shown = modules_by by (is_crowded files) shown

pub answers-within : Named → (files : Files) (found all : Vec Module) → AnswersPreprocessed files (Ok found) → map source all.items ≡ sources_within files (map source found.items) → AnswersSeen files (Ok all)
answers-within by files found all h are =
    let shown : Files = seen.seen files h.1.0 in
    let count : length all.items ≡ length (sources_within files (map source found.items)) = sym (length-map all.items source) ∙ ap length are in (
      within_bytes files shown,
      (h.1.0, h.1.1, refl),
      are ∙ ap (sources_within files) (h.2 ∙ ap modules_of h.1.2) ∙ sym (modules_within by files shown),
      subst (λ (n : ℕ). n ≤ module_limit) (sym count) (within_few (is_crowded files) (map source found.items) (subst (λ (n : ℕ). n ≤ module_limit) (sym (length-map found.items source)) h.3)),
    )

some_are : (count n : ℕ) → module_limit < count → count ≡ n → 0 < n
some_are count n h e = omega (arith, h, e)

pub many-within : Named → (files : Files) (fault : ModulesFault) → AnswersPreprocessed files (Err fault) → AnswersSeen files (Err fault)
many-within by files (modules.TooMany count) h =
    let shown : Files = seen.seen files h.1.0 in
    let is : count ≡ length (modules_of shown) = h.2 ∙ ap (λ (f : Files). length (modules_of f)) h.1.2 in (
      within_bytes files shown,
      (h.1.0, h.1.1, refl),
      is ∙ sym (within_length (is_crowded files) (modules_of shown) (some_are count (length (modules_of shown)) h.3 is)) ∙ ap length (sym (modules_within by files shown)),
      h.3,
    )
many-within by files (modules.Store error) h = tt

-- ---- what the code does

crowd_by : (b : Bool) (sources all : List Source) → b ≡ true → all ≡ refused_sources sources → all ≡ (if b then refused_sources sources else sources)
crowd_by true sources all e h = h
crowd_by false sources all e h = cc

clear_by : (b : Bool) (sources : List Source) → b ≡ false → sources ≡ (if b then refused_sources sources else sources)
clear_by true sources e = cc
clear_by false sources e = refl

is_crowd : (n : ℕ) → texts_limit < n → nat_lt texts_limit n ≡ true
is_crowd n h = grind (arith, nat_tests, h)

no_crowd : (n : ℕ) → n ≤ texts_limit → nat_lt texts_limit n ≡ false
no_crowd n h = grind (arith, nat_tests, h)

pub crowded_all : (files : Files) (bytes : ℕ) (sources all : List Source) → bytes ≡ text_bytes files → texts_limit < bytes → all ≡ refused_sources sources → all ≡ sources_within files sources
crowded_all files bytes sources all h l e = crowd_by (is_crowded files) sources all (is_crowd (text_bytes files) (subst (λ (n : ℕ). texts_limit < n) h l)) e

pub clear_all : (files : Files) (bytes : ℕ) (sources : List Source) → bytes ≡ text_bytes files → bytes ≤ texts_limit → sources ≡ sources_within files sources
clear_all files bytes sources h l = clear_by (is_crowded files) sources (no_crowd (text_bytes files) (subst (λ (n : ℕ). n ≤ texts_limit) h l))
