-- A store's C sources: which they are, and what comes of each.
use Rattle.std.proofs.Common.{◌≡◌, ◌↔◌, ◌⊎◌, ⊎_elim, inl, inr, ℕ, zero, suc, ◌+◌, ◌-◌, ◌≤◌, ◌<◌, Bool, true, false, ◌&&◌, if◌then◌else◌, nat_le, List, [], ◌∷◌, ◌++◌, length, take, drop, Option, Some, None, IsSome, Contains, true≢false, refl, sym, ap, ◌∙◌, subst, arith, length-append}
use Rattle.std.specs.Prelude.{slice_index_or}
use Rattle.std.specs.Option.{option_map}
use Rattle.std.specs.List.{AllByRecursion, cons_option}
use Rattle.std.specs.Str.{bytes_eq}
use Rattle.std.specs.FinMap as finite
use Rattle.std.proofs.lemmas.List.{take-append-drop}
use Rattle.std.proofs.lemmas.Slice.Eq.{bytes_eq-Decides}
use Rattle.std.proofs.lemmas.Bool.Decides.{nat_tests}
use Rattle.std.proofs.Math.Seq.{take-append_seam, drop-append_seam}
use Rattle.pw_io.specs.Files.{Files, prefix_of}
use Rattle.pw_store_modules.specs.Modules.{is_module_name, stem, text_read}
use Rattle.pw_store_texts.specs.Headers.{headers_of}
use Rattle.pw_store_texts.specs.Names.{is_source_file, source_ending, source_name}
use Rattle.pw_store_texts.specs.Outputs.{ComesBy, Output}
use Rattle.pw_store_texts.specs.Seen as seen
use Rattle.pw_store_texts.specs.Seen.{AllCome, IsSeen, Outputs, source_in, sources_among, sources_of}
use Rattle.pw_law_sources.specs.Sources.{EachComes, HoldsSource}

-- C sources with the names of their modules
abbrev pub Named : Type 0
Named = List (List ℕ × List ℕ)

-- ---- the file of a C source is the module's name and `.c`

both : (a b : Bool) → (a && b) ≡ true → (a ≡ true) × (b ≡ true)
both true b h = (refl, h)
both false b h = absurd (true≢false (sym h))

all_true : (a b c : Bool) → a ≡ true → b ≡ true → c ≡ true → (a && (b && c)) ≡ true
all_true true true true p q r = refl
all_true true true false p q r = cc
all_true true false c p q r = cc
all_true false b c p q r = cc

file_split : (file : List ℕ) → is_source_file file ≡ true → (file ≡ source_name (stem file)) × (is_module_name (stem file) ≡ true)
file_split file e =
    let first = both (nat_le 2 (length file)) (bytes_eq (drop (length file - 2) file) source_ending && is_module_name (stem file)) e in
    let second = both (bytes_eq (drop (length file - 2) file) source_ending) (is_module_name (stem file)) first.1 in
    let ending : drop (length file - 2) file ≡ source_ending = (bytes_eq-Decides (drop (length file - 2) file) source_ending).0 second.0 in
    (sym (take-append-drop (length file - 2) file) ∙ ap (λ (l : List ℕ). stem file ++ l) ending, second.1)

size : (name : List ℕ) → length (source_name name) ≡ length name + 2
size name = length-append name source_ending

two_less : (name : List ℕ) → length (source_name name) - 2 ≡ length name
two_less name = omega (arith, size name)

stem_of : (name : List ℕ) → stem (source_name name) ≡ name
stem_of name = ap (λ (n : ℕ). take n (source_name name)) (two_less name) ∙ take-append_seam name source_ending

ending_of : (name : List ℕ) → drop (length (source_name name) - 2) (source_name name) ≡ source_ending
ending_of name = ap (λ (n : ℕ). drop n (source_name name)) (two_less name) ∙ drop-append_seam name source_ending

long : (n : ℕ) → 2 ≤ n → nat_le 2 n ≡ true
long n h = grind (arith, nat_tests)

pub is_source : (name : List ℕ) → is_module_name name ≡ true → is_source_file (source_name name) ≡ true
is_source name named =
    all_true _ _ _
    (long (length (source_name name)) (omega (arith, size name)))
    ((bytes_eq-Decides (drop (length (source_name name) - 2) (source_name name)) source_ending).1 (ending_of name))
    (ap is_module_name (stem_of name) ∙ named)

-- ---- what stands among the sources is held

abbrev pub AreHeld : Files → Named → Type 0
AreHeld files sources = AllByRecursion (λ source. HoldsSource files source.0 source.1) sources

held_by : (files : Files) (file : List ℕ) (b : Bool) (o : Option (List ℕ)) (rest : Named) → is_source_file file ≡ b → finite.get files file ≡ o → AreHeld files rest
    → AreHeld files (cons_option (if b then option_map (λ text. (stem file, prefix_of text_read text)) o else None) rest)
held_by files file true None rest e g h = h
held_by files file true (Some text) rest e g h =
    let split = file_split file e in (
      record {
        named = split.1;
        reads = ap (λ (name : List ℕ). option_map (prefix_of text_read) (finite.get files name)) (sym split.0) ∙ ap (option_map (prefix_of text_read)) g;
      },
      h,
    )
held_by files file false o rest e g h = h

all_held : (files : Files) (names : List (List ℕ)) → AreHeld files (sources_among files names)
all_held files [] = tt
all_held files (file ∷ names) = held_by files file (is_source_file file) (finite.get files file) (sources_among files names) refl refl (all_held files names)

pub sources_held : (files : Files) → AreHeld files (sources_of files)
sources_held files = all_held files (finite.keys files)

-- ---- what is held stands among the sources

abbrev pub Has : Named → List ℕ → List ℕ → Type 0
Has [] name text = ⊥
Has (source ∷ sources) name text = ((source.0 ≡ name) × (source.1 ≡ text)) ⊎ Has sources name text

has_more : (o : Option (List ℕ × List ℕ)) (rest : Named) (name text : List ℕ) → Has rest name text → Has (cons_option o rest) name text
has_more None rest name text h = h
has_more (Some source) rest name text h = inr h

pub text_is : (a b : List ℕ) → ◌≡◌ {A = Option (List ℕ)} (Some a) (Some b) → a ≡ b
text_is a b e = cc

none_is : (text : List ℕ) → ◌≡◌ {A = Option (List ℕ)} None (Some text) → ⊥
none_is text e = cc

has_this : (b : Bool) (o : Option (List ℕ)) (own name text : List ℕ) (rest : Named) → b ≡ true → own ≡ name → option_map (prefix_of text_read) o ≡ Some text
    → Has (cons_option (if b then option_map (λ t. (own, prefix_of text_read t)) o else None) rest) name text
has_this true None own name text rest e n r = absurd (none_is text r)
has_this true (Some t) own name text rest e n r = inl (n, text_is (prefix_of text_read t) text r)
has_this false o own name text rest e n r = absurd (true≢false (sym e))

has_at : (files : Files) (name text : List ℕ) → HoldsSource files name text → (names : List (List ℕ)) (k : ℕ) → k < length names → slice_index_or names k (source_name name) ≡ source_name name
    → Has (sources_among files names) name text
has_at files name text h [] k l e = absurd (omega (arith, l))
has_at files name text h (file ∷ names) zero l e =
    let P : List ℕ → Type 0 = λ f. Has (cons_option (source_in files f) (sources_among files names)) name text in
    subst P (sym e)
    (has_this (is_source_file (source_name name)) (finite.get files (source_name name)) (stem (source_name name)) name text (sources_among files names) (is_source name h.named) (stem_of name) h.reads)
has_at files name text h (file ∷ names) (suc k) l e =
    has_more (source_in files file) (sources_among files names) name text (has_at files name text h names k (omega (arith, l)) e)

is_there : (o : Option (List ℕ)) (text : List ℕ) → option_map (prefix_of text_read) o ≡ Some text → IsSome o
is_there None text e = absurd (none_is text e)
is_there (Some t) text e = refl

-- the names of files are those that have one
abbrev pub NamesAreExact : Type 0
NamesAreExact = (files : Files) (name : List ℕ) → Contains (finite.keys files) name ↔ IsSome (finite.get files name)

pub held_stands : NamesAreExact → (files : Files) (name text : List ℕ) → HoldsSource files name text → Has (sources_of files) name text
held_stands exact files name text h =
    let c = (exact files (source_name name)).1 (is_there (finite.get files (source_name name)) text h.reads) in has_at files name text h (finite.keys files) c.0 c.1 c.2

-- ---- what comes of sources

abbrev Comes : Named → List ℕ × List ℕ → Type 0
Comes headers source = (output : Output) × ComesBy headers source.0 source.1 output

come_for : (headers sources : Named) → AllByRecursion (Comes headers) sources → (outputs : Outputs) × AllCome headers sources outputs
come_for headers [] h = ([], seen.none)
come_for headers ((name, text) ∷ sources) h =
    let rest = come_for headers sources h.1 in ((name, h.0.0) ∷ rest.0, seen.more name text h.0.0 sources rest.0 h.0.1 rest.1)

each_by : (files : Files) → EachComes files → (sources : Named) → AreHeld files sources → AllByRecursion (Comes (headers_of files)) sources
each_by files comes [] h = tt
each_by files comes (source ∷ sources) h = (comes source.0 source.1 h.0, each_by files comes sources h.1)

pub all_come : (files : Files) → EachComes files → (outputs : Outputs) × AllCome (headers_of files) (sources_of files) outputs
all_come files comes = come_for (headers_of files) (sources_of files) (each_by files comes (sources_of files) (sources_held files))

come_of : (headers sources : Named) (outputs : Outputs) (name text : List ℕ) → AllCome headers sources outputs → Has sources name text → Comes headers (name, text)
come_of headers sources outputs name text seen.none h = absurd h
come_of headers sources outputs name text (seen.more n t o left rest comes k) h =
    ⊎_elim {C = Comes headers (name, text)}
    (λ same.
    let P : List ℕ → Type 0 = λ x. ComesBy headers x text o in
    let Q : List ℕ → Type 0 = λ x. ComesBy headers n x o in
    (o, subst P same.0 (subst Q same.1 comes)))
    (λ more. come_of headers left rest name text k more) h

each_came : NamesAreExact → (files : Files) (outputs : Outputs) → AllCome (headers_of files) (sources_of files) outputs → EachComes files
each_came exact files outputs come = λ name text h. come_of (headers_of files) (sources_of files) outputs name text come (held_stands exact files name text h)

pub seen_comes : NamesAreExact → (files : Files) → (shown : Files) × IsSeen files shown → EachComes files
seen_comes exact files (shown, (outputs, comes, same)) = each_came exact files outputs comes
