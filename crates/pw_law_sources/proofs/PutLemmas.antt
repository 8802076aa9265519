-- Files that a build puts are seen as they are put.
use Rattle.std.proofs.Common.{◌≡◌, ◌≢◌, ◌↔◌, inl, inr, ℕ, Bool, true, false, ◌||◌, ◌&&◌, if◌then◌else◌, List, [], ◌∷◌, map, Option, Some, None, length, arith, true≢false, refl, sym, ap, ◌∙◌, subst}
use Rattle.std.specs.Prelude.{is_none, nat_lt, sum_by}
use Rattle.std.specs.Option.{option_map, option_map_or}
use Rattle.std.specs.List.{cons_option, filter_map}
use Rattle.std.specs.Ordering.{nat_cmp}
use Rattle.std.specs.declared.cmp.Ordering.{Ordering}
use Rattle.std.specs.declared.cmp.Ordering.TheVariants.{Less, Equal, Greater}
use Rattle.std.specs.Cmp.Lexicographic.{slice_cmp, nat_list_cmp_total}
use Rattle.std.specs.FinMap as finite
use Rattle.std.specs.FinMap.{entries-insert, same_map, slice_cmp-IsAntisymmetric, nat_cmp-IsAntisymmetric}
use Rattle.std.specs.FinMap.Entries.{by_order, put}
use Rattle.std.proofs.lemmas.List.Sums.{sum_by-cons}
use Rattle.std.proofs.lemmas.Slice.Eq.{bytes_eq-Decides}
use Rattle.std.proofs.lemmas.Bool.Decides.{not_from_Decides}
use Rattle.std.specs.Str.{bytes_eq}
use Rattle.pw_cpp_sources.specs.Sources.{is_header}
use Rattle.pw_io.specs.Files.{Files, Told, after_put, prefix_of}
use Rattle.pw_store_modules.specs.FileNames.{database_name, image_name, object_name, text_name}
use Rattle.pw_store_modules.specs.Modules.{HoldsModule, is_module_file, is_module_name, module_map, modules_of, stem, text_read}
use Rattle.pw_store_modules.proofs.Exact.{file_split, is_file}
use Rattle.pw_store_texts.specs.Bytes.{bytes_in, is_counted, is_crowded, text_bytes}
use Rattle.pw_store_texts.specs.Headers.{headers_of}
use Rattle.pw_store_texts.specs.Names.{is_source_file, is_text_file, source_name}
use Rattle.pw_store_texts.specs.Seen as seen
use Rattle.pw_store_texts.specs.Seen.{AllCome, IsSeen, Outputs, StoreComes, sources_of}
use Rattle.pw_value.specs.Limits.{texts_limit}
use Rattle.pw_top_answer.specs.Effects.{NamedFile, after_puts}
use Rattle.pw_build_files.specs.Genuine.{IsBuiltName}
use Rattle.pw_build_files.specs.Outcomes.{AreBuilt}
use Rattle.pw_law_sources.proofs.SourceLemmas.{Named, is_source}
use Rattle.pw_law_sources.proofs.ShownLemmas.{Beside, built_seen, is_shown, seen_alike, shown_alike, shown_by}

-- the laws on which it stands
pub record Laws : Type 0 where
  pub inserted : (files : Files) (name bytes : List ℕ) → finite.get (finite.insert files name bytes) name ≡ Some bytes
  pub insertion : (files : Files) (name bytes other : List ℕ) → other ≢ name → finite.get (finite.insert files name bytes) other ≡ finite.get files other
  pub no_object : (file name : List ℕ) → is_text_file file ≡ true → object_name name ≢ file
  pub no_database : (file : List ℕ) → is_text_file file ≡ true → database_name ≢ file
  pub no_image : (file : List ℕ) → is_text_file file ≡ true → image_name ≢ file
  pub exact : (files : Files) (name text : List ℕ) → (finite.get (module_map files) name ≡ Some text) ↔ HoldsModule files name text
  pub beside : Beside

-- ---- files that are picked by their names

abbrev Found : Type 0
Found = Option (List ℕ × List ℕ)

alike_picks : (pick other : List ℕ → Found) → ((name : List ℕ) → pick name ≡ other name) → (names : List (List ℕ)) → filter_map pick names ≡ filter_map other names
alike_picks pick other same [] = refl
alike_picks pick other same (name ∷ names) =
    ap (λ (o : Found). cons_option o (filter_map pick names)) (same name) ∙ ap (λ (rest : Named). cons_option (other name) rest) (alike_picks pick other same names)

-- one more, which is not picked
passed_by : (pick : List ℕ → Found) (name bytes : List ℕ) (entry : NamedFile) (entries : List NamedFile) → pick name ≡ None
    → filter_map pick (map (λ (e : NamedFile). e.0) (put (slice_cmp nat_cmp) name bytes entries)) ≡ filter_map pick (map (λ (e : NamedFile). e.0) entries)
    → (o : Ordering) → filter_map pick (map (λ (e : NamedFile). e.0) (by_order o ((name, bytes) ∷ entry ∷ entries) ((entry.0, bytes) ∷ entries) (entry ∷ put (slice_cmp nat_cmp) name bytes entries))) ≡ filter_map pick (map (λ (e : NamedFile). e.0) (entry ∷ entries))
passed_by pick name bytes entry entries none later Less = ap (λ (o : Found). cons_option o (cons_option (pick entry.0) (filter_map pick (map (λ (e : NamedFile). e.0) entries)))) none
passed_by pick name bytes entry entries none later Equal = refl
passed_by pick name bytes entry entries none later Greater = ap (λ (rest : Named). cons_option (pick entry.0) rest) later

put_passed : (pick : List ℕ → Found) (name bytes : List ℕ) → pick name ≡ None → (entries : List NamedFile)
    → filter_map pick (map (λ (e : NamedFile). e.0) (put (slice_cmp nat_cmp) name bytes entries)) ≡ filter_map pick (map (λ (e : NamedFile). e.0) entries)
put_passed pick name bytes none [] = ap (λ (o : Found). cons_option o []) none
put_passed pick name bytes none (entry ∷ entries) = passed_by pick name bytes entry entries none (put_passed pick name bytes none entries) (slice_cmp nat_cmp name entry.0)

-- a file under a name, where it is picked
abbrev picked : Bool → Option (List ℕ) → List ℕ → Found
picked b o name = if b then option_map (λ text. (name, prefix_of text_read text)) o else None

alike_picked : (b : Bool) (o p : Option (List ℕ)) (name : List ℕ) → (b ≡ true → o ≡ p) → picked b o name ≡ picked b p name
alike_picked true o p name h = ap (λ (x : Option (List ℕ)). picked true x name) (h refl)
alike_picked false o p name h = refl

none_picked : (b : Bool) (o : Option (List ℕ)) (name : List ℕ) → b ≡ false → picked b o name ≡ None
none_picked b o name e = ap (λ (x : Bool). picked x o name) e

module _ (laws : Laws) (test : List ℕ → Bool) (named : List ℕ → List ℕ) where
  abbrev picked_in : Files → List ℕ → Found
  picked_in files file = picked (test file) (finite.get files file) (named file)

  -- a file that is not picked changes nothing of those that are
  picked_still : (files : Files) (name bytes : List ℕ) → test name ≡ false → filter_map (picked_in (finite.insert files name bytes)) (finite.keys (finite.insert files name bytes)) ≡ filter_map (picked_in files) (finite.keys files)
  picked_still files name bytes none =
      let same : (file : List ℕ) → picked_in (finite.insert files name bytes) file ≡ picked_in files file = λ file.
      alike_picked (test file) (finite.get (finite.insert files name bytes) file) (finite.get files file) (named file)
      (λ t. laws.insertion files name bytes file (λ e. true≢false (sym t ∙ ap test e ∙ none))) in
      alike_picks (picked_in (finite.insert files name bytes)) (picked_in files) same (finite.keys (finite.insert files name bytes))
      ∙ ap (λ (es : List NamedFile). filter_map (picked_in files) (map (λ (e : NamedFile). e.0) es)) (entries-insert nat_list_cmp_total files name bytes)
      ∙ put_passed (picked_in files) name bytes (none_picked (test name) (finite.get files name) (named name) none) (finite.entries files)

sources_still : Laws → (files : Files) (name bytes : List ℕ) → is_source_file name ≡ false → sources_of (finite.insert files name bytes) ≡ sources_of files
sources_still laws files name bytes none = picked_still laws (λ file. is_source_file file) (λ file. stem file) files name bytes none

headers_still : Laws → (files : Files) (name bytes : List ℕ) → is_header name ≡ false → headers_of (finite.insert files name bytes) ≡ headers_of files
headers_still laws files name bytes none = picked_still laws (λ file. is_header file) (λ file. file) files name bytes none

-- ---- what a build puts is no text

none_of : (a b c : Bool) → ((a || (b || c)) ≡ true → ⊥) → (a ≡ false) × (b ≡ false) × (c ≡ false)
none_of true b c h = absurd (h refl)
none_of false true c h = absurd (h refl)
none_of false false true h = absurd (h refl)
none_of false false false h = (refl, refl, refl)

no_text : Laws → (name : List ℕ) → IsBuiltName name → is_text_file name ≡ true → ⊥
no_text laws name (inl m) t = laws.no_object name m.0 t (sym m.1)
no_text laws name (inr (inl e)) t = laws.no_database name t (sym e)
no_text laws name (inr (inr e)) t = laws.no_image name t (sym e)

no_source : Laws → (name : List ℕ) → IsBuiltName name → (is_source_file name ≡ false) × (is_module_file name ≡ false) × (is_header name ≡ false)
no_source laws name built = none_of (is_source_file name) (is_module_file name) (is_header name) (no_text laws name built)

comes_still : Laws → (files : Files) (name bytes : List ℕ) (outputs : Outputs) → IsBuiltName name → StoreComes files outputs → StoreComes (finite.insert files name bytes) outputs
comes_still laws files name bytes outputs built comes =
    let none = no_source laws name built in
    let P : Named → Type 0 = λ hs. AllCome hs (sources_of (finite.insert files name bytes)) outputs in
    let Q : Named → Type 0 = λ ss. AllCome (headers_of files) ss outputs in
    subst P (sym (headers_still laws files name bytes none.2)) (subst Q (sym (sources_still laws files name bytes none.0)) comes)

-- ---- nor is it counted

counted_by : (a b c : Bool) (o p : Option (List ℕ)) → (c ≡ true → o ≡ p) → (a || (b || (c && is_none o))) ≡ (a || (b || (c && is_none p)))
counted_by a b true o p h = ap (λ (x : Option (List ℕ)). a || (b || is_none x)) (h refl)
counted_by a b false o p h = refl

counted_same : Laws → (files : Files) (name bytes file : List ℕ) → is_source_file name ≡ false → is_counted (finite.insert files name bytes) file ≡ is_counted files file
counted_same laws files name bytes file none =
    let new : Files = finite.insert files name bytes in
    counted_by (is_source_file file) (is_header file) (is_module_file file) (finite.get new (source_name (stem file))) (finite.get files (source_name (stem file)))
    (λ m. laws.insertion files name bytes (source_name (stem file)) (λ e. true≢false (sym (is_source (stem file) (file_split file m).1) ∙ ap (λ (f : List ℕ). is_source_file f) e ∙ none)))

none_counted : (a b c d : Bool) → a ≡ false → b ≡ false → c ≡ false → (a || (b || (c && d))) ≡ false
none_counted true b c d e f h = absurd (true≢false e)
none_counted false true c d e f h = absurd (true≢false f)
none_counted false false true d e f h = absurd (true≢false h)
none_counted false false false d e f h = refl

uncounted : Laws → (files : Files) (name : List ℕ) → IsBuiltName name → is_counted files name ≡ false
uncounted laws files name built =
    let none = no_source laws name built in
    none_counted (is_source_file name) (is_header name) (is_module_file name) (is_none (finite.get files (source_name (stem name)))) none.0 none.2 none.1

abbrev bytes_by : Bool → Option (List ℕ) → ℕ
bytes_by b o = if b then option_map_or (λ text. length (prefix_of text_read text)) o 0 else 0

none_in : Laws → (files : Files) (name : List ℕ) → IsBuiltName name → bytes_in files name ≡ 0
none_in laws files name built = ap (λ (b : Bool). bytes_by b (finite.get files name)) (uncounted laws files name built)

bytes_same : Laws → (files : Files) (name bytes : List ℕ) → IsBuiltName name → (file : List ℕ) (b : Bool) → bytes_eq file name ≡ b → bytes_in (finite.insert files name bytes) file ≡ bytes_in files file
bytes_same laws files name bytes built file true t =
    let same : file ≡ name = (bytes_eq-Decides file name).0 t in
    ap (bytes_in (finite.insert files name bytes)) same ∙ none_in laws (finite.insert files name bytes) name built ∙ sym (none_in laws files name built) ∙ ap (bytes_in files) (sym same)
bytes_same laws files name bytes built file false t =
    let apart : file ≢ name = not_from_Decides (bytes_eq file name) (bytes_eq-Decides file name) t in
    ap (λ (b : Bool). bytes_by b (finite.get (finite.insert files name bytes) file)) (counted_same laws files name bytes file (no_source laws name built).0)
    ∙ ap (bytes_by (is_counted files file)) (laws.insertion files name bytes file apart)

sums_same : (f g : List ℕ → ℕ) → ((name : List ℕ) → f name ≡ g name) → (names : List (List ℕ)) → sum_by f names ≡ sum_by g names
sums_same f g same [] = refl
sums_same f g same (name ∷ names) = omega (arith, sum_by-cons f name names, sum_by-cons g name names, same name, sums_same f g same names)

abbrev keys_of : List NamedFile → List (List ℕ)
keys_of entries = map (λ (e : NamedFile). e.0) entries

passed_sum : (f : List ℕ → ℕ) (name bytes : List ℕ) (entry : NamedFile) (entries : List NamedFile) → f name ≡ 0 → sum_by f (keys_of (put (slice_cmp nat_cmp) name bytes entries)) ≡ sum_by f (keys_of entries)
    → (o : Ordering) → sum_by f (keys_of (by_order o ((name, bytes) ∷ entry ∷ entries) ((entry.0, bytes) ∷ entries) (entry ∷ put (slice_cmp nat_cmp) name bytes entries))) ≡ sum_by f (keys_of (entry ∷ entries))
passed_sum f name bytes entry entries none later Less = omega (arith, sum_by-cons f name (keys_of (entry ∷ entries)), none)
passed_sum f name bytes entry entries none later Equal = refl
passed_sum f name bytes entry entries none later Greater =
    omega (arith, sum_by-cons f entry.0 (keys_of (put (slice_cmp nat_cmp) name bytes entries)), sum_by-cons f entry.0 (keys_of entries), later)

put_sum : (f : List ℕ → ℕ) (name bytes : List ℕ) → f name ≡ 0 → (entries : List NamedFile) → sum_by f (keys_of (put (slice_cmp nat_cmp) name bytes entries)) ≡ sum_by f (keys_of entries)
put_sum f name bytes none [] = omega (arith, sum_by-cons f name [], none)
put_sum f name bytes none (entry ∷ entries) = passed_sum f name bytes entry entries none (put_sum f name bytes none entries) (slice_cmp nat_cmp name entry.0)

crowded_still : Laws → (files : Files) (name bytes : List ℕ) → IsBuiltName name → is_crowded (finite.insert files name bytes) ≡ is_crowded files
crowded_still laws files name bytes built =
    let new : Files = finite.insert files name bytes in
    let sums : text_bytes new ≡ text_bytes files =
    sums_same (bytes_in new) (bytes_in files) (λ file. bytes_same laws files name bytes built file (bytes_eq file name) refl) (finite.keys new)
    ∙ ap (λ (es : List NamedFile). sum_by (bytes_in files) (keys_of es)) (entries-insert nat_list_cmp_total files name bytes)
    ∙ put_sum (bytes_in files) name bytes (none_in laws files name built) (finite.entries files) in
    ap (nat_lt texts_limit) sums

-- ---- nor is it a module's text

one_of : (a b c : Bool) → b ≡ true → (a || (b || c)) ≡ true
one_of true b c e = refl
one_of false true c e = refl
one_of false false c e = absurd (true≢false (sym e))

text_apart : Laws → (name other : List ℕ) → IsBuiltName name → is_module_name other ≡ true → text_name other ≢ name
text_apart laws name other built named = λ e.
    no_text laws name built (ap is_text_file (sym e) ∙ one_of (is_source_file (text_name other)) (is_module_file (text_name other)) (is_header (text_name other)) (is_file other named))

same_option : (a b : Option (List ℕ)) → ((t : List ℕ) → a ≡ Some t → b ≡ Some t) → ((t : List ℕ) → b ≡ Some t → a ≡ Some t) → a ≡ b
same_option None None f g = refl
same_option None (Some t) f g = g t refl
same_option (Some t) b f g = sym (f t refl)

modules_alike : Laws → (files others : Files) → ((name : List ℕ) → is_module_name name ≡ true → finite.get files (text_name name) ≡ finite.get others (text_name name)) → modules_of files ≡ modules_of others
modules_alike laws files others same =
    ap finite.entries
    (same_map nat_list_cmp_total (slice_cmp-IsAntisymmetric nat_cmp-IsAntisymmetric) (module_map files) (module_map others)
    (λ q.
    same_option (finite.get (module_map files) q) (finite.get (module_map others) q)
    (λ t e.
    let h : HoldsModule files q t = (laws.exact files q t).0 e in
    let holds : HoldsModule others q t = record { named = h.named; reads = ap (option_map (prefix_of text_read)) (sym (same q h.named)) ∙ h.reads } in
    (laws.exact others q t).1 holds)
    (λ t e.
    let h : HoldsModule others q t = (laws.exact others q t).0 e in
    let holds : HoldsModule files q t = record { named = h.named; reads = ap (option_map (prefix_of text_read)) (same q h.named) ∙ h.reads } in
    (laws.exact files q t).1 holds)))

modules_still : Laws → (files : Files) (outputs : Outputs) (name bytes : List ℕ) → IsBuiltName name → modules_of (seen.seen (finite.insert files name bytes) outputs) ≡ modules_of (seen.seen files outputs)
modules_still laws files outputs name bytes built =
    modules_alike laws (seen.seen (finite.insert files name bytes) outputs) (seen.seen files outputs)
    (λ q named. seen_alike (finite.insert files name bytes) files outputs (text_name q) (laws.insertion files name bytes (text_name q) (text_apart laws name q built named)))

-- ---- what is put is seen

put_at : Laws → (files : Files) (outputs : Outputs) (name bytes : List ℕ) → IsBuiltName name → StoreComes (finite.insert files name bytes) outputs → (q : List ℕ) (b : Bool) → bytes_eq q name ≡ b
    → finite.get (shown_by (finite.insert files name bytes) outputs) q ≡ finite.get (finite.insert (shown_by files outputs) name bytes) q
put_at laws files outputs name bytes built comes q true t =
    let same : q ≡ name = (bytes_eq-Decides q name).0 t in
    let new : Files = finite.insert files name bytes in
    ap (finite.get (shown_by new outputs)) same ∙ built_seen laws.beside new (shown_by new outputs) name built (is_shown new outputs comes) ∙ laws.inserted files name bytes
    ∙ sym (laws.inserted (shown_by files outputs) name bytes) ∙ ap (finite.get (finite.insert (shown_by files outputs) name bytes)) (sym same)
put_at laws files outputs name bytes built comes q false t =
    let apart : q ≢ name = not_from_Decides (bytes_eq q name) (bytes_eq-Decides q name) t in
    shown_alike files outputs name bytes q (crowded_still laws files name bytes built) (modules_still laws files outputs name bytes built) (laws.insertion files name bytes q apart) ∙ sym (laws.insertion (shown_by files outputs) name bytes q apart)

pub put_seen : Laws → (files shown : Files) (name bytes : List ℕ) → IsSeen files shown → IsBuiltName name → IsSeen (finite.insert files name bytes) (finite.insert shown name bytes)
put_seen laws files shown name bytes is built =
    let new : Files = finite.insert files name bytes in
    let comes : StoreComes new is.0 = comes_still laws files name bytes is.0 built is.1 in
    let same : shown_by new is.0 ≡ finite.insert (shown_by files is.0) name bytes =
    same_map nat_list_cmp_total (slice_cmp-IsAntisymmetric nat_cmp-IsAntisymmetric) (shown_by new is.0) (finite.insert (shown_by files is.0) name bytes)
    (λ q. put_at laws files is.0 name bytes built comes q (bytes_eq q name) refl) in
    subst (λ (f : Files). IsSeen new f) (same ∙ ap (λ (f : Files). finite.insert f name bytes) (sym is.2)) (is_shown new is.0 comes)

pub all_seen : Laws → (told others : Told) (files : List NamedFile) → IsSeen told.files others.files → AreBuilt files → IsSeen (after_puts told files).files (after_puts others files).files
all_seen laws told others [] is built = is
all_seen laws told others (file ∷ files) is built =
    all_seen laws (after_put told file.0 file.1) (after_put others file.0 file.1) files (put_seen laws told.files others.files file.0 file.1 is built.0) built.1
