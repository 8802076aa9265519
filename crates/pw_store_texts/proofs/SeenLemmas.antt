-- The modules of a store with what comes of its C sources in their places.
use Rattle.std.proofs.Common.{◌≡◌, ◌≢◌, ◌↔◌, ℕ, ◌+◌, ◌≤◌, ◌<◌, ◌==◌, Bool, true, false, if◌then◌else◌, cond, List, [], ◌∷◌, take, length, map, Option, Some, None, Result, Ok, Err, refl, sym, ap, ◌∙◌, subst, arith}
use Rattle.std.specs.Prelude.{IfOk, IfSome}
use Rattle.std.specs.Global.{Vec}
use Rattle.std.specs.Option.{option_map}
use Rattle.std.specs.List.{AllByRecursion, cons_option}
use Rattle.std.specs.Ordering.{nat_cmp, eq_by_cmp, is_eq}
use Rattle.std.specs.Cmp.Lexicographic.{slice_cmp, nat_list_cmp_total}
use Rattle.std.specs.FinMap as finite
use Rattle.std.specs.FinMap.{entries-insert, get-insert, same_map, slice_cmp-IsAntisymmetric, nat_cmp-IsAntisymmetric}
use Rattle.std.proofs.lemmas.Cmp.{tied_itself}
use Rattle.std.proofs.lemmas.Bool.{eqb-true}
use Rattle.std.proofs.lemmas.List.{append_cancel_right, length-map, nil_from_length}
use Rattle.std.proofs.lemmas.Map.Lookups.{exact_bytes}
use Rattle.std.proofs.lemmas.Map.Views.{tells_apart}
use Rattle.pw_cpp.specs.Answers.{PreprocessesFile}
use Rattle.pw_cpp.specs.declared.fault.CppFault.{CppFault}
use Rattle.pw_cpp_sources.specs.Sources.{Texts}
use Rattle.pw_io.specs.Files.{Files, Keeps, Told, prefix_of}
use Rattle.pw_store_modules.specs.FileNames.{text_ending, text_name}
use Rattle.pw_store_modules.specs.Modules.{HoldsModule, Source, is_module_name, module_map, modules_of, stem, text_read}
use Rattle.pw_store_modules.specs.Views.{source}
use Rattle.pw_store_modules.specs.declared.few.ModulesFault.{ModulesFault}
use Rattle.pw_store_modules.specs.declared.few.ModulesFault.TheVariants as modules
use Rattle.pw_store_modules.specs.declared.modules.Module.{Module}
use Rattle.pw_store_texts.specs.Bytes.{is_crowded}
use Rattle.pw_store_sources.specs.Headers.{headers_of}
use Rattle.pw_store_sources.specs.Names.{is_source_file, source_name}
use Rattle.pw_store_sources.specs.Outputs.{Output, files_with, output_of}
use Rattle.pw_store_texts.specs.Placing.{placed, with_outputs}
use Rattle.pw_store_sources.specs.Sources as come
use Rattle.pw_store_texts.specs.Seen as seen
use Rattle.pw_store_sources.specs.Sources.{AllCome, Outputs, StoreComes, outcome, sources_among, sources_of}
use Rattle.pw_store_texts.specs.Seen.{AnswersPreprocessed, IsPreprocessed, IsSeen, first_name, refused, refused_text, seen_text, within_bytes}
use Rattle.pw_store_sources.specs.declared.compiled.Compiled.{Compiled}
use Rattle.pw_value.specs.Limits.{module_limit}
use Rattle.pw_store_sources.proofs.HeaderLemmas.{source-named}

-- ---- one output after another

-- a text that is cut where texts are read
pub cut-is : (most : ℕ) (text cut : List ℕ) → cut ≡ take most text → cut ≡ prefix_of most text
unfolding prefix_of
cut-is most text cut e = e

-- the text of a source that was compiled
pub made-text : (cut : List ℕ) (text : Vec ℕ) (output : Result (Vec ℕ) CppFault) → output ≡ Ok text → cut ≡ take text_read text.items → cut ≡ prefix_of text_read (seen_text (output_of output))
made-text cut text output e t = cut-is text_read text.items cut t ∙ sym (ap (λ (o : Result (Vec ℕ) CppFault). prefix_of text_read (seen_text (output_of o))) e)

pub named_text : (name items other : List ℕ) → items ≡ other → ◌≡◌ {A = Source} (name, items) (name, other)
named_text name items other e = ap (λ (x : List ℕ). (name, x)) e

pub placed-more : (all new whole : List Source) (m : Source) (c : Compiled) (left rest : List Compiled) → with_outputs all (map outcome left) ≡ whole → left ≡ c ∷ rest
    → m ≡ (c.name, prefix_of text_read (seen_text (output_of c.output))) → new ≡ placed m.0 m.1 all → with_outputs new (map outcome rest) ≡ whole
placed-more all new whole m c left rest inv is e n =
    ap (λ a. with_outputs a (map outcome rest)) (n ∙ ap (λ (s : Source). placed s.0 s.1 all) e)
    ∙ sym (ap (λ (l : List Compiled). with_outputs all (map outcome l)) is) ∙ inv

pub length-behind : {X : Type 0} {n m : ℕ} (xs : List X) (x : X) (rest : List X) → xs ≡ x ∷ rest → m + 1 ≡ n → n ≡ length xs → m ≡ length rest
length-behind {X} {n} {m} xs x rest is more count = let all : n ≡ length (x ∷ rest) = count ∙ ap length is in omega arith

pub nothing-in : {X : Type 0} (xs : List X) → length xs ≡ 0 → xs ≡ []
nothing-in [] h = refl
nothing-in (x ∷ xs) h = absurd (omega arith)

pub none-placed : (all whole : List Source) (left : List Compiled) → with_outputs all (map outcome left) ≡ whole → left ≡ [] → all ≡ whole
none-placed all whole left inv is = sym (ap (λ (l : List Compiled). with_outputs all (map outcome l)) is) ∙ inv

-- ---- a text that stands in a module's file is the module's

-- the laws on which it stands
pub record Laws : Type 0 where
  pub exact : (files : Files) (name text : List ℕ) → (finite.get (module_map files) name ≡ Some text) ↔ HoldsModule files name text
  pub inserted : (files : Files) (name bytes : List ℕ) → finite.get (finite.insert files name bytes) name ≡ Some bytes
  pub insertion : (files : Files) (name bytes other : List ℕ) → other ≢ name → finite.get (finite.insert files name bytes) other ≡ finite.get files other

true_is : true ≡ false → ⊥
true_is e = cc

apart_by : (q name : List ℕ) → eq_by_cmp (slice_cmp nat_cmp) q name ≡ false → q ≢ name
apart_by q name t e = true_is (sym (ap is_eq (tied_itself nat_list_cmp_total name)) ∙ ap (λ (x : List ℕ). eq_by_cmp (slice_cmp nat_cmp) x name) (sym e) ∙ t)

same_option : (a b : Option (List ℕ)) → ((t : List ℕ) → a ≡ Some t → b ≡ Some t) → ((t : List ℕ) → b ≡ Some t → a ≡ Some t) → a ≡ b
same_option None None f g = refl
same_option None (Some t) f g = g t refl
same_option (Some t) b f g = sym (f t refl)

holds_on : (old new : Files) (name text : List ℕ) → finite.get new (text_name name) ≡ finite.get old (text_name name) → HoldsModule old name text → HoldsModule new name text
holds_on old new name text e h = record { named = h.named; reads = ap (option_map (prefix_of text_read)) e ∙ h.reads }

one_text : Laws → (files : Files) (name text : List ℕ) → is_module_name name ≡ true → (q : List ℕ) (b : Bool) → eq_by_cmp (slice_cmp nat_cmp) q name ≡ b
    → finite.get (module_map (finite.insert files (text_name name) text)) q ≡ cond b (Some (prefix_of text_read text)) (finite.get (module_map files) q)
one_text laws files name text named q true t =
    let new : Files = finite.insert files (text_name name) text in
    ap (finite.get (module_map new)) (tells_apart exact_bytes q name t)
    ∙ (laws.exact new name (prefix_of text_read text)).1 (record { named = named; reads = ap (option_map (prefix_of text_read)) (laws.inserted files (text_name name) text) })
one_text laws files name text named q false t =
    let new : Files = finite.insert files (text_name name) text in
    let same : finite.get new (text_name q) ≡ finite.get files (text_name q) = laws.insertion files (text_name name) text (text_name q) (λ e. apart_by q name t (append_cancel_right q name text_ending e)) in
    same_option (finite.get (module_map new) q) (finite.get (module_map files) q)
    (λ u e. (laws.exact files q u).1 (holds_on new files q u (sym same) ((laws.exact new q u).0 e)))
    (λ u e. (laws.exact new q u).1 (holds_on files new q u same ((laws.exact files q u).0 e)))

map_with : Laws → (files : Files) (name text : List ℕ) → is_module_name name ≡ true → module_map (finite.insert files (text_name name) text) ≡ finite.insert (module_map files) name (prefix_of text_read text)
map_with laws files name text named =
    same_map nat_list_cmp_total (slice_cmp-IsAntisymmetric nat_cmp-IsAntisymmetric) (module_map (finite.insert files (text_name name) text)) (finite.insert (module_map files) name (prefix_of text_read text))
    (λ q.
    one_text laws files name text named q (eq_by_cmp (slice_cmp nat_cmp) q name) refl
    ∙ sym (get-insert nat_list_cmp_total (module_map files) name (prefix_of text_read text) q))

pub modules_with : Laws → (files : Files) (name text : List ℕ) → is_module_name name ≡ true → modules_of (finite.insert files (text_name name) text) ≡ placed name (prefix_of text_read text) (modules_of files)
modules_with laws files name text named = ap finite.entries (map_with laws files name text named) ∙ entries-insert nat_list_cmp_total (module_map files) name (prefix_of text_read text)

abbrev AreNamed : Outputs → Type 0
AreNamed outputs = AllByRecursion (λ o. is_module_name o.0 ≡ true) outputs

placed-seen : Laws → (files : Files) (outputs : Outputs) → AreNamed outputs → with_outputs (modules_of files) outputs ≡ modules_of (seen.seen files outputs)
placed-seen laws files [] named = refl
placed-seen laws files (o ∷ outputs) named =
    ap (λ (ss : List Source). with_outputs ss outputs) (sym (modules_with laws files o.0 (seen_text o.1) named.0))
    ∙ placed-seen laws (finite.insert files (text_name o.0) (seen_text o.1)) outputs named.1

-- ---- the names of C sources are modules'

abbrev HaveNames : Texts → Type 0
HaveNames sources = AllByRecursion (λ s. is_module_name s.0 ≡ true) sources

named_by : (file : List ℕ) (b : Bool) (o : Option (List ℕ)) (rest : Texts) → is_source_file file ≡ b → HaveNames rest → HaveNames (cons_option (if b then option_map (λ text. (stem file, prefix_of text_read text)) o else None) rest)
named_by file true None rest e h = h
named_by file true (Some text) rest e h = (source-named file e, h)
named_by file false o rest e h = h

sources_named : (files : Files) (names : List (List ℕ)) → HaveNames (sources_among files names)
sources_named files [] = tt
sources_named files (file ∷ names) = named_by file (is_source_file file) (finite.get files file) (sources_among files names) refl (sources_named files names)

come_named : (headers sources : Texts) (outputs : Outputs) → AllCome headers sources outputs → HaveNames sources → AreNamed outputs
come_named headers sources outputs come.none h = tt
come_named headers sources outputs (come.more name text output left rest comes k) h = (h.0, come_named headers left rest k h.1)

-- ---- the modules as a build sees them

seen_by : Laws → (files : Files) (outputs : Outputs) → StoreComes files outputs → with_outputs (modules_of files) outputs ≡ modules_of (seen.seen files outputs)
seen_by laws files outputs comes = placed-seen laws files outputs (come_named (headers_of files) (sources_of files) outputs comes (sources_named files (finite.keys files)))

is_preprocessed : (files : Files) (outputs : Outputs) → StoreComes files outputs → IsPreprocessed files (seen.seen files outputs)
is_preprocessed files outputs comes = (outputs, comes, refl)

-- no more than there may be
pub answers-placed : Laws → (files : Files) (outputs : Outputs) (read all : Vec Module) → map source read.items ≡ modules_of files → StoreComes files outputs → map source all.items ≡ with_outputs (map source read.items) outputs
    → length all.items ≤ module_limit → AnswersPreprocessed files (Ok all)
answers-placed laws files outputs read all are comes placed few =
    (seen.seen files outputs, is_preprocessed files outputs comes, placed ∙ ap (λ (ss : List Source). with_outputs ss outputs) are ∙ seen_by laws files outputs comes, few)

-- more than there may be
pub answers-many : Laws → (files : Files) (outputs : Outputs) (read all : Vec Module) (fault : ModulesFault) (count : ℕ) → count ≡ length all.items → map source read.items ≡ modules_of files → StoreComes files outputs
    → map source all.items ≡ with_outputs (map source read.items) outputs → (fault ≡ modules.TooMany count) × (module_limit < count) → AnswersPreprocessed files (Err fault)
answers-many laws files outputs read all fault count is are comes placed many =
    subst (λ (f : ModulesFault). AnswersPreprocessed files (Err f)) (sym many.0) (
      seen.seen files outputs,
      is_preprocessed files outputs comes,
      is ∙ sym (length-map all.items source) ∙ ap length (placed ∙ ap (λ (ss : List Source). with_outputs ss outputs) are ∙ seen_by laws files outputs comes),
      many.1,
    )

-- ---- where there is no C source

pub no-outcomes : (outputs all : List Compiled) (b : Bool) → outputs ≡ all → b ≡ (length outputs == 0) → b ≡ true → map outcome all ≡ []
no-outcomes outputs all b same e t = ap (map outcome) (sym same ∙ nil_from_length outputs (eqb-true (length outputs) 0 (sym e ∙ t)))

-- files are seen as they are
as_they_are : (files : Files) (outputs : Outputs) → StoreComes files outputs → outputs ≡ [] → IsPreprocessed files files
as_they_are files outputs comes none = (outputs, comes, sym (ap (seen.seen files) none))

pub answers-plain : (files : Files) (outputs : Outputs) (count : ℕ) → StoreComes files outputs → outputs ≡ [] → count ≡ length (modules_of files) → module_limit < count → AnswersPreprocessed files (Err (modules.TooMany count))
answers-plain files outputs count comes none is many = (files, as_they_are files outputs comes none, is, many)

-- ---- laws

abbrev pub HaveOne : Type 0
HaveOne = (files : Texts) (name : List ℕ) (answer other : Output) → PreprocessesFile files name answer → PreprocessesFile files name other → answer ≡ other

pub come-one : HaveOne → (headers sources : Texts) (outputs others : Outputs) → AllCome headers sources outputs → AllCome headers sources others → outputs ≡ others
come-one one headers sources outputs others come.none come.none = refl
come-one one headers sources outputs others (come.more name text output left rest h k) (come.more _ _ other _ more' h' k') =
    ap (λ o. (name, o) ∷ rest) (one (files_with headers name text) (source_name name) output other h h')
    ∙ ap (λ os. (name, other) ∷ os) (come-one one headers left rest more' k k')

abbrev pub ComeToOne : Type 0
ComeToOne = (files : Files) (outputs others : Outputs) → StoreComes files outputs → StoreComes files others → outputs ≡ others

pub seen-once : ComeToOne → (files shown other : Files) → IsSeen files shown → IsSeen files other → shown ≡ other
seen-once one files shown other is are = is.2 ∙ ap (λ (outputs : Outputs). within_bytes files (seen.seen files outputs)) (one files is.0 are.0 is.1 are.1) ∙ sym are.2

abbrev pub Insertion : Type 0
Insertion = (files : Files) (name bytes other : List ℕ) → other ≢ name → finite.get (finite.insert files name bytes) other ≡ finite.get files other

seen_beside : Insertion → (name : List ℕ) → ((m : List ℕ) → name ≢ text_name m) → (files : Files) (outputs : Outputs) → finite.get (seen.seen files outputs) name ≡ finite.get files name
seen_beside ins name apart files [] = refl
seen_beside ins name apart files (o ∷ outputs) =
    seen_beside ins name apart (finite.insert files (text_name o.0) (seen_text o.1)) outputs ∙ ins files (text_name o.0) (seen_text o.1) name (apart o.0)

within_beside : Insertion → (name : List ℕ) → ((m : List ℕ) → name ≢ text_name m) → (b : Bool) (shown : Files) → finite.get (if b then refused shown else shown) name ≡ finite.get shown name
within_beside ins name apart true shown = ins shown (text_name (first_name (modules_of shown))) refused_text name (apart (first_name (modules_of shown)))
within_beside ins name apart false shown = refl

-- a file that is no module's text
pub seen-beside : Insertion → (files shown : Files) (name : List ℕ) → ((m : List ℕ) → name ≢ text_name m) → IsSeen files shown → finite.get shown name ≡ finite.get files name
seen-beside ins files shown name apart is =
    ap (λ (f : Files). finite.get f name) is.2 ∙ within_beside ins name apart (is_crowded files) (seen.seen files is.0) ∙ seen_beside ins name apart files is.0
