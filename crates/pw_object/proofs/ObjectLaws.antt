-- What is read is the file of an object, and the file of an object is read.
use Rattle.std.proofs.Common.{◌≡◌, ℕ, List, [], ◌∷◌, ◌++◌, map, Result, Ok, refl, sym, ap, subst, ◌∙◌, append_assoc, lit<}
use Rattle.std.specs.Prelude.{IsTrue, IfOk, None, Contains}
use Rattle.std.specs.List.{flat_map, AllByRecursion}
use Rattle.std.proofs.lemmas.List.{append-nil}
use Rattle.std.proofs.lemmas.List.Concat.{flat_map-cons}
use Rattle.pw_value.specs.declared.fault.FileError.{FileError}
use Rattle.pw_value.specs.declared.program_names.StartName.TheVariants.{Allowed}
use Rattle.pw_value.specs.ProgramNames.{KeepsStart, may_stand}
use Rattle.pw_fields.specs.Fields.{done, text_at, text, FitsText}
use Rattle.pw_fields.specs.FieldFaults.{GivesFile}
use Rattle.pw_fields.specs.FieldLaws.{AreBytes, Spells, SpellsWhole}
use Rattle.pw_fields.specs.FieldNames.{name_at, name_table, name_index, IsNameTable}
use Rattle.pw_fields.proofs.FieldLaws.{AreBytes-rest, after_passes, found_is, text_spells}
use Rattle.pw_fields.proofs.FieldSteps.{Completes, Nothing, finish_whole, step, keep_place}
use Rattle.pw_fields.proofs.NameLaws.{name_spells, AllUsed, table_of_used, used_by_table}
use Rattle.pw_files.specs.Rising.{IsRising, counted, counted_at, FitsList}
use Rattle.pw_files.specs.Names.{shaped, name_list_at, shaped_list_at}
use Rattle.pw_files.specs.Contents.{Contents, IsContents, contents_at, value_of}
use Rattle.pw_files.proofs.ContentsLaws as files
use Rattle.pw_files.proofs.ContentsLaws.{contents_spell, module_rules_forth, module_rules_back}
use Rattle.pw_files.proofs.NameLists.{FitsName, FitsShaped, name_list_spells, shaped_list_spells, each_may}
use Rattle.pw_files.proofs.RisingLaws.{FitsRising, counted_spells, each_weaker, each_both, used_by_each, each_by_used, used_append, used_front, used_back}
use Rattle.pw_flow.specs.declared.flow.FlowGlobal.{FlowGlobal}
use Rattle.pw_flow.specs.FlowGraph.{names_in_global}
use Rattle.pw_flow.specs.ValidFlow.{IsGlobal}
use Rattle.pw_flowfile.specs.FlowFile.{global, global_body, all_in_global, FitsGlobal}
use Rattle.pw_flowfile.specs.Reading.{global_body_at}
use Rattle.pw_flow_ops.specs.Operations.{Named}
use Rattle.pw_flowfile.proofs.GraphLaws.{GlobalFits, body_spells}
use Rattle.pw_object.specs.declared.functions.ObjectFn.{ObjectFn}
use Rattle.pw_object.specs.declared.object.Object.{Object}
use Rattle.pw_object.specs.Functions.{IsFunction, function, names_of_function}
use Rattle.pw_object.specs.Object.{object_version, whole_object, global_names, function_names, IsObject, names_of, FitsFunction, FitsObject, code, spelling, kind, IsObjectFile}
use Rattle.pw_object.specs.Reading.{function_at, global_at, last_rules, defined_at, fields_at, object_file_at}
use Rattle.pw_object.proofs.FunctionLaws.{function_spells, lawful, function_used, function_back}
use Rattle.pw_object.proofs.FunctionLaws.{FitsFunction as FunctionSteps}

-- ---- globals

abbrev OneGlobal : List (List ℕ) → FlowGlobal → Type 0
OneGlobal names g = Contains names g.name × GlobalFits Allowed names g

global_takes : (names : List (List ℕ)) → IsNameTable names → (bytes : List ℕ) (g : FlowGlobal) (rest : List ℕ) → AreBytes bytes → global_at names bytes ≡ Ok (g, rest) → (bytes ≡ global names g ++ rest) × OneGlobal names g
unfolding global_at
global_takes names table bytes g rest fits e =
    let a = after_passes (name_at names bytes) (global_body_at Allowed names) g rest e in
    let t = (name_spells names table).takes bytes a.0 a.1 fits a.2 in
    let u = (body_spells Allowed names table a.0).takes a.1 g rest (AreBytes-rest bytes (name_index names a.0) a.1 fits t.0) a.3 in
    let same : a.0 ≡ g.name = sym u.1.0 in (
      t.0 ∙ ap (λ (n : List ℕ). name_index names n ++ a.1) same ∙ ap (λ (w : List ℕ). name_index names g.name ++ w) (u.0 ∙ ap (λ (w : List ℕ). w ++ rest) (sym (append-nil (global_body names g))))
          ∙ sym (append_assoc (name_index names g.name) (global_body names g ++ []) rest),
      (subst (Contains names) same t.1, u.1.1),
    )

global_again : (names : List (List ℕ)) → IsNameTable names → (g : FlowGlobal) (rest : List ℕ) → OneGlobal names g → global_at names (global names g ++ rest) ≡ Ok (g, rest)
unfolding global_at
global_again names table g rest fits =
    ap (global_at names) (append_assoc (name_index names g.name) (global_body names g ++ []) rest ∙ ap (λ (w : List ℕ). name_index names g.name ++ (w ++ rest)) (append-nil (global_body names g)))
    ∙ rw ((name_spells names table).again g.name (global_body names g ++ rest) fits.0) ((body_spells Allowed names table g.name).again g rest (refl, fits.1))

global_spells : (names : List (List ℕ)) → IsNameTable names → Spells (global names) (OneGlobal names) (global_at names)
global_spells names table = record { takes = global_takes names table; again = global_again names table }

named_used : (names ns : List (List ℕ)) → AllByRecursion (Named Allowed names) ns → AllUsed ns names
named_used names [] all = tt
named_used names (n ∷ ns) all = (all.0.0, named_used names ns all.1)

used_named : (names ns : List (List ℕ)) → AllUsed ns names → AllByRecursion (Named Allowed names) ns
used_named names [] used = tt
used_named names (n ∷ ns) used = ((used.0, tt), used_named names ns used.1)

globals_used : (names : List (List ℕ)) (gs : List FlowGlobal) → AllByRecursion (OneGlobal names) gs → AllUsed (flat_map all_in_global gs) names
globals_used names [] all = tt
globals_used names (g ∷ gs) all = subst (λ (ns : List (List ℕ)). AllUsed ns names) (sym (flat_map-cons all_in_global g gs))
    (used_append (all_in_global g) (flat_map all_in_global gs) names (all.0.0, named_used names (names_in_global g) all.0.1.1.1) (globals_used names gs all.1))

globals_back : (names : List (List ℕ)) (gs : List FlowGlobal) → AllByRecursion IsGlobal gs → AllByRecursion FitsGlobal gs → AllUsed (flat_map all_in_global gs) names → AllByRecursion (OneGlobal names) gs
globals_back names [] is fits used = tt
globals_back names (g ∷ gs) is fits used =
    let both = subst (λ (ns : List (List ℕ)). AllUsed ns names) (flat_map-cons all_in_global g gs) used in
    let own_names = used_front (all_in_global g) (flat_map all_in_global gs) names both in
    ((own_names.0, (is.0, (fits.0, used_named names (names_in_global g) own_names.1))), globals_back names gs is.1 fits.1 (used_back (all_in_global g) (flat_map all_in_global gs) names both))

-- ---- functions

functions_used : (names : List (List ℕ)) (fs : List ObjectFn) → AllByRecursion (FunctionSteps names) fs → AllUsed (flat_map names_of_function fs) names
functions_used names [] all = tt
functions_used names (f ∷ fs) all = subst (λ (ns : List (List ℕ)). AllUsed ns names) (sym (flat_map-cons names_of_function f fs))
    (used_append (names_of_function f) (flat_map names_of_function fs) names (function_used names f all.0) (functions_used names fs all.1))

functions_back : (names : List (List ℕ)) (fs : List ObjectFn) → AllByRecursion IsFunction fs → AllByRecursion FitsFunction fs → AllUsed (flat_map names_of_function fs) names → AllByRecursion (FunctionSteps names) fs
functions_back names [] is fits used = tt
functions_back names (f ∷ fs) is fits used =
    let both = subst (λ (ns : List (List ℕ)). AllUsed ns names) (flat_map-cons names_of_function f fs) used in
    (function_back names f is.0 fits.0.words fits.0.fixes (used_front (names_of_function f) (flat_map names_of_function fs) names both), functions_back names fs is.1 fits.1 (used_back (names_of_function f) (flat_map names_of_function fs) names both))

-- ---- the fields behind the table of names

abbrev LastRules : List (List ℕ) → Object → Type 0
LastRules names p = AllUsed names (names_of p) × KeepsStart (function_names p) (global_names p)

last_forth : (names : List (List ℕ)) (behind count : ℕ) (o : Object) → last_rules names behind o count ≡ None → LastRules names o
last_forth names behind count o e = module_rules_forth names (names_of o) behind (function_names o) (global_names o) count e

last_back : (names : List (List ℕ)) (behind count : ℕ) (o : Object) → LastRules names o → last_rules names behind o count ≡ None
last_back names behind count o holds = module_rules_back names (names_of o) behind (function_names o) (global_names o) count holds

abbrev body : List (List ℕ) → Object → List ℕ
body names p = name_index names p.module ++ (text p.flow ++ (text p.directives ++ (counted (shaped names) p.declared ++ (counted (name_index names) p.used ++ (counted (global names) p.globals ++ (counted (function names) p.functions ++ []))))))

in_a_row : (a b c d e tail : List ℕ) → a ++ (b ++ (c ++ (d ++ (e ++ tail)))) ≡ (a ++ (b ++ (c ++ (d ++ (e ++ []))))) ++ (tail ++ [])
in_a_row a b c d e tail = simp (append_assoc, append-nil)

abbrev BodySteps : List (List ℕ) → Object → Type 0
BodySteps names o = (o.version ≡ object_version) × (Contains names o.module × (FitsText o.flow × (FitsText o.directives × (FitsRising (λ d. d.0) (FitsShaped names Allowed) o.declared × (FitsRising (λ name. name) (FitsName names Allowed) o.used
    × (FitsList (OneGlobal names) o.globals × (FitsList (FunctionSteps names) o.functions × LastRules names o)))))))

-- the version stands in the header, and no byte of the payload for it
version_spells : Spells (λ n. []) (λ n. n ≡ object_version) (done object_version)
version_spells = record {
  takes = λ bytes n rest fits e. let p = found_is object_version n bytes rest e in (p.1, sym p.0);
  again = λ n rest fits. rw fits refl;
}

object_steps : (names : List (List ℕ)) → IsNameTable names → (behind : ℕ) → Completes {X = Contents Object} Nothing (λ c. Unit {0} × (c.names ≡ names)) (λ c. body names c.value) (λ c. BodySteps names c.value) (fields_at names (last_rules names behind))
unfolding fields_at defined_at
object_steps names table behind =
    step _ _ (λ n. []) (λ n. n ≡ object_version) (done object_version) _ _ _ (λ c. c.value.version) version_spells
    (λ version version_fits. step _ _ (name_index names) (Contains names) (name_at names) _ _ _ (λ c. c.value.module) (name_spells names table)
    (λ m m_fits. step _ _ text FitsText text_at _ _ _ (λ c. c.value.flow) text_spells
    (λ flow flow_fits. step _ _ text FitsText text_at _ _ _ (λ c. c.value.directives) text_spells
    (λ directives directives_fit. step _ _ (counted (shaped names)) (FitsRising (λ d. d.0) (FitsShaped names Allowed)) (shaped_list_at names Allowed) _ _ _ (λ c. c.value.declared) (shaped_list_spells names table Allowed)
    (λ declared declared_fit. step _ _ (counted (name_index names)) (FitsRising (λ name. name) (FitsName names Allowed)) (name_list_at names Allowed) _ _ _ (λ c. c.value.used) (name_list_spells names table Allowed)
    (λ used used_fit. step _ _ (counted (global names)) (FitsList (OneGlobal names)) (counted_at (global_at names)) _ _ _ (λ c. c.value.globals) (counted_spells (global names) (OneGlobal names) (global_at names) (global_spells names table))
    (λ globals globals_fit. keep_place _ _ _ _ _
    (λ count. step _ _ (counted (function names)) (FitsList (FunctionSteps names)) (counted_at (function_at names)) _ _ _ (λ c. c.value.functions) (counted_spells (function names) (FunctionSteps names) (function_at names) (function_spells names table))
    (λ functions functions_fit. let o = whole_object m flow directives declared used globals functions in
    finish_whole _ (λ c. LastRules names c.value) (last_rules names behind o count) (record { names = names; value = o })
    (((((((((tt, refl), sym version_fits), refl), refl), refl), refl), refl), refl), refl)
    (λ c k. sym (λ j. record { names = k.0.0.0.0.0.0.0.0.1 j; value = record { version = (k.0.0.0.0.0.0.0.1 ∙ version_fits) j; «module» = k.0.0.0.0.0.0.1 j; flow = k.0.0.0.0.0.1 j; directives = k.0.0.0.0.1 j; declared = k.0.0.0.1 j; used = k.0.0.1 j; globals = k.0.1 j; functions = k.1 j } }))
    (last_forth names behind count o) (last_back names behind count o))))))))))

abbrev ContentsSteps : Contents Object → Type 0
ContentsSteps c = IsNameTable c.names × BodySteps c.names c.value

-- ---- the same rules in the words of an object

same_names : (names : List (List ℕ)) → map (λ name. name) names ≡ names
same_names [] = refl
same_names (name ∷ names) = ap (λ (rest : List (List ℕ)). name ∷ rest) (same_names names)

names_used : (names xs : List (List ℕ)) → AllByRecursion (FitsName names Allowed) xs → AllUsed xs names
names_used names [] all = tt
names_used names (x ∷ xs) all = (all.0.0, names_used names xs all.1)

listed : (names xs : List (List ℕ)) → AllUsed xs names → AllByRecursion (FitsName names Allowed) xs
listed names [] used = tt
listed names (x ∷ xs) used = ((used.0, refl), listed names xs used.1)

abbrev pub IsRight : Contents Object → Type 0
IsRight = IsContents IsObject FitsObject names_of

contents_forth : (c : Contents Object) → ContentsSteps c → IsRight c
contents_forth c h =
    let p = c.value in
    let names = c.names in
    let b = h.1.1 in
    let declared = b.1.1.1.0 in
    let used = b.1.1.1.1.0 in
    let globals = b.1.1.1.1.1.0 in
    let functions = b.1.1.1.1.1.1.0 in
    let last = b.1.1.1.1.1.1.1 in
    record {
      lawful = record {
        version = h.1.0;
        declared = declared.rising;
        used = subst IsRising (same_names p.used) used.rising;
        globals = each_weaker (OneGlobal names) IsGlobal (λ g k. k.1.0) p.globals globals.1;
        functions = each_weaker (FunctionSteps names) IsFunction (lawful names) p.functions functions.1;
        start = last.1;
      };
      fits = record {
        flow = b.1.0;
        directives = b.1.1.0;
        declared = (declared.count, each_weaker (FitsShaped names Allowed) (λ d. FitsText d.1) (λ d k. k.1) p.declared declared.each);
        used = used.count;
        globals = (globals.0, each_weaker (OneGlobal names) FitsGlobal (λ g k. k.1.1.0) p.globals globals.1);
        functions = (functions.0, each_weaker (FunctionSteps names) FitsFunction (λ f k. record { words = k.1.1.0.0; fixes = k.1.1.1.0.0 }) p.functions functions.1);
      };
      name_count = h.0.count;
      names = table_of_used names (names_of p) h.0 last.0 (
        b.0,
        used_append (map (λ d. d.0) p.declared) _ names (used_by_each (λ d. d.0) names p.declared (each_weaker (FitsShaped names Allowed) (λ d. Contains names d.0) (λ d k. k.0.0) p.declared declared.each))
            (used_append p.used _ names (names_used names p.used used.each)
            (used_append (flat_map all_in_global p.globals) _ names (globals_used names p.globals globals.1) (functions_used names p.functions functions.1))),
      );
    }

contents_back : (c : Contents Object) → IsRight c → ContentsSteps c
contents_back c is =
    let p = c.value in
    let names = c.names in
    let both = used_by_table names (names_of p) is.names in
    let one = both.1.1 in
    let two = used_back (map (λ d. d.0) p.declared) _ names one in
    let three = used_back p.used _ names two in
    let four = used_back (flat_map all_in_global p.globals) _ names three in
    let declared_used = used_front (map (λ d. d.0) p.declared) _ names one in (
      record { count = is.name_count; rising = is.names.rising },
      (
        is.lawful.version,
        (
          both.1.0,
          (
            is.fits.flow,
            (
              is.fits.directives,
              (
                record {
                  count = is.fits.declared.0;
                  rising = is.lawful.declared;
                  each = each_both (λ d. FitsName names Allowed d.0) (λ d. FitsText d.1) p.declared (each_both (λ d. Contains names d.0) (λ d. IsTrue (may_stand Allowed d.0)) p.declared (each_by_used (λ d. d.0) names p.declared declared_used) (each_may (λ d. d.0) p.declared)) is.fits.declared.1;
                },
                (
                  record { count = is.fits.used; rising = subst IsRising (sym (same_names p.used)) is.lawful.used; each = listed names p.used (used_front p.used _ names two) },
                  (
                    (is.fits.globals.0, globals_back names p.globals is.lawful.globals is.fits.globals.1 (used_front (flat_map all_in_global p.globals) _ names three)),
                    ((is.fits.functions.0, functions_back names p.functions is.lawful.functions is.fits.functions.1 four), (both.0, is.lawful.start)),
                  ),
                ),
              ),
            ),
          ),
        ),
      ),
    )

pub contents_spells : SpellsWhole spelling IsRight (contents_at fields_at last_rules)
contents_spells = contents_spell fields_at last_rules spelling body BodySteps IsRight object_steps
    (λ c. ap (λ (w : List ℕ). name_table c.names ++ w) (in_a_row (name_index c.names c.value.module) (text c.value.flow) (text c.value.directives) (counted (shaped c.names) c.value.declared) (counted (name_index c.names) c.value.used) (code c.names c.value)))
    contents_forth contents_back

-- ---- the file

pub found_by : (bytes : List ℕ) (r : Result Object FileError) → AreBytes bytes → GivesFile (λ o. o) r (value_of (object_file_at bytes)) → IfOk r (IsObjectFile bytes)
found_by = files.found_by kind object_version object_version (λ version. fields_at) last_rules (λ version. spelling) (λ version. IsRight) (λ version from to. contents_spells)

pub only_by : (bytes : List ℕ) (r : Result Object FileError) → GivesFile (λ o. o) r (value_of (object_file_at bytes)) → (o : Object) → IsObjectFile bytes o → GivesFile (λ o. o) r (Ok o)
only_by = files.only_by kind object_version object_version (λ version. fields_at) last_rules (λ version. spelling) (λ version. IsRight) (λ version from to. contents_spells) (lit< tt) (lit< tt)

pub one_object : (bytes : List ℕ) (o p : Object) → IsObjectFile bytes o → IsObjectFile bytes p → o ≡ p
one_object = files.one_value kind object_version object_version (λ version. fields_at) last_rules (λ version. spelling) (λ version. IsRight) (λ version from to. contents_spells) (lit< tt) (lit< tt)

pub one_file : (bytes others : List ℕ) (o : Object) → IsObjectFile bytes o → IsObjectFile others o → bytes ≡ others
one_file = files.one_file kind object_version object_version (λ version. spelling) (λ version. IsRight) names_of (files.one_version object_version (λ version. IsRight)) (λ n c is. is.names)
