-- What writing asks of an object's parts, and what it gives.
use Rattle.std.proofs.Common.{◌≡◌, ℕ, List, [], ◌∷◌, length, map, Result, subst, arith}
use Rattle.std.specs.Prelude.{Contains, IfOk, OnOk}
use Rattle.std.specs.Global.{Vec}
use Rattle.std.specs.List.{flat_map, AllByRecursion}
use Rattle.std.proofs.lemmas.List.Concat.{flat_map-cons}
use Rattle.std.proofs.lemmas.List.Elements.{All-from_recursion}
use Rattle.pw_fields.specs.Fields.{FitsU32}
use Rattle.pw_fields.specs.FieldFrame.{file, FitsFile}
use Rattle.pw_fields.specs.FieldNames.{IsTableOf}
use Rattle.pw_fields.proofs.NameLaws.{AllUsed, used_by_table}
use Rattle.pw_files.proofs.RisingLaws.{each_by_used, used_front, used_back}
use Rattle.pw_flow.specs.declared.flow.FlowGlobal.{FlowGlobal}
use Rattle.pw_flowfile.specs.FlowFile.{all_in_global}
use Rattle.pw_inst.specs.declared.relocation.Symbol.{Symbol}
use Rattle.pw_inst.specs.declared.relocation.Symbol.TheVariants as symbol
use Rattle.pw_inst.specs.declared.relocation.Fix.{Fix}
use Rattle.pw_object.specs.declared.functions.ObjectFn.{ObjectFn}
use Rattle.pw_object.specs.Functions.{names_of_symbol, names_of_function, IsSymbolNamed, IsFunctionNamed}
use Rattle.pw_object.specs.declared.object.Object.{Object}
use Rattle.pw_object.specs.Object.{object_version, IsObject, IsNamedBy, names_of, FitsObject, spelling, kind, IsObjectFile}
use Rattle.pw_files.specs.Contents.{IsContents}
use Rattle.pw_files.proofs.ContentsLaws.{is_file}

each_named : (names ns : List (List ℕ)) → AllUsed ns names → AllByRecursion (Contains names) ns
each_named names [] used = tt
each_named names (n ∷ ns) used = (used.0, each_named names ns used.1)

globals_named : (names : List (List ℕ)) (gs : List FlowGlobal) → AllUsed (flat_map all_in_global gs) names → AllByRecursion (λ g. AllByRecursion (Contains names) (all_in_global g)) gs
globals_named names [] used = tt
globals_named names (g ∷ gs) used =
    let both = subst (λ (ns : List (List ℕ)). AllUsed ns names) (flat_map-cons all_in_global g gs) used in
    (each_named names (all_in_global g) (used_front (all_in_global g) (flat_map all_in_global gs) names both), globals_named names gs (used_back (all_in_global g) (flat_map all_in_global gs) names both))

symbol_named : (names : List (List ℕ)) (s : Symbol) → AllUsed (names_of_symbol s) names → IsSymbolNamed names s
symbol_named names (symbol.Named name) used = used.0
symbol_named names (symbol.Word word) used = tt
symbol_named names symbol.StackLimit used = tt
symbol_named names (symbol.Routine number) used = tt

fixes_named : (names : List (List ℕ)) (fs : List Fix) → AllUsed (flat_map (λ x. names_of_symbol x.symbol) fs) names → AllByRecursion (λ x. IsSymbolNamed names x.symbol) fs
fixes_named names [] used = tt
fixes_named names (f ∷ fs) used =
    let both = subst (λ (ns : List (List ℕ)). AllUsed ns names) (flat_map-cons (λ (x : Fix). names_of_symbol x.symbol) f fs) used in
    (symbol_named names f.symbol (used_front (names_of_symbol f.symbol) (flat_map (λ x. names_of_symbol x.symbol) fs) names both), fixes_named names fs (used_back (names_of_symbol f.symbol) (flat_map (λ x. names_of_symbol x.symbol) fs) names both))

functions_named : (names : List (List ℕ)) (fs : List ObjectFn) → AllUsed (flat_map names_of_function fs) names → AllByRecursion (IsFunctionNamed names) fs
functions_named names [] used = tt
functions_named names (f ∷ fs) used =
    let both = subst (λ (ns : List (List ℕ)). AllUsed ns names) (flat_map-cons names_of_function f fs) used in
    let here = used_front (names_of_function f) (flat_map names_of_function fs) names both in
    (record { name = here.0; fixes = All-from_recursion (λ x. IsSymbolNamed names x.symbol) f.fixes (fixes_named names f.fixes here.1) }, functions_named names fs (used_back (names_of_function f) (flat_map names_of_function fs) names both))

pub named_by : (names : List (List ℕ)) (p : Object) → IsTableOf names (names_of p) → IsNamedBy names p
named_by names p table =
    let all = (used_by_table names (names_of p) table).1 in
    let one = all.1 in
    let two = used_back (map (λ d. d.0) p.declared) _ names one in
    let three = used_back p.used _ names two in
    record {
      of_module = all.0;
      declared = All-from_recursion (λ d. Contains names d.0) p.declared (each_by_used (λ d. d.0) names p.declared (used_front (map (λ d. d.0) p.declared) _ names one));
      used = All-from_recursion (Contains names) p.used (each_named names p.used (used_front p.used _ names two));
      globals = globals_named names p.globals (used_front (flat_map all_in_global p.globals) _ names three);
      functions = functions_named names p.functions (used_back (flat_map all_in_global p.globals) _ names three);
    }

-- ---- the file

pub made : {E : Type 0} (names : List (List ℕ)) (o : Object) (payload : List ℕ) (r : Result (Vec ℕ) E) → IsObject o → FitsObject o → FitsU32 (length names) → IsTableOf names (names_of o)
    → payload ≡ spelling (record { names = names; value = o }) → OnOk r (FitsFile payload) → IfOk r (λ v. v.items ≡ file kind object_version payload) → IfOk r (λ v. IsObjectFile v.items o)
made names o payload r is fits count table same room sealed =
    is_file kind object_version object_version object_version (λ version. spelling) (λ version. IsContents IsObject FitsObject names_of) (record { names = names; value = o }) payload r (omega arith) (omega arith) (record { lawful = is; fits = fits; name_count = count; names = table }) same room sealed
