-- What writing asks of a summary's parts, and what it gives.
use Rattle.std.proofs.Common.{◌≡◌, ℕ, List, [], ◌∷◌, length, map, All, Result, refl, subst}
use Rattle.std.specs.Prelude.{Contains, IfOk, OnOk}
use Rattle.std.specs.Global.{Vec}
use Rattle.std.specs.List.{flat_map, AllByRecursion}
use Rattle.std.proofs.lemmas.List.Concat.{flat_map-cons}
use Rattle.std.proofs.lemmas.List.Elements.{All-from_recursion}
use Rattle.pw_fields.specs.Fields.{FitsU32}
use Rattle.pw_fields.specs.FieldFrame.{file, FitsFile}
use Rattle.pw_fields.specs.FieldNames.{IsTableOf}
use Rattle.pw_fields.proofs.NameLaws.{AllUsed, used_by_table}
use Rattle.pw_files.proofs.RisingLaws.{each_by_used, used_front, used_back}
use Rattle.pw_files.proofs.ContentsLaws as files
use Rattle.pw_summary.specs.declared.summary.Uses.{Uses}
use Rattle.pw_summary.specs.declared.summary.Summary.{Summary}
use Rattle.pw_summary.specs.Summary.{global_names, function_names, IsVersioned, kind, first_version, summary_version}
use Rattle.pw_summary_parts.specs.Spelling.{AreNamed, names_of_uses}
use Rattle.pw_summary_file.specs.Spelling.{IsNamedBy, IsSummaryContents, IsSummaryFile, FitsSummary, names_of, spelling}

named : {X : Type 0} (key : X → List ℕ) (names : List (List ℕ)) (xs : List X) → AllUsed (map key xs) names → All (λ x. Contains names (key x)) xs
named key names xs used = All-from_recursion (λ x. Contains names (key x)) xs (each_by_used key names xs used)

each_named : (names xs : List (List ℕ)) → AllUsed xs names → AllByRecursion (Contains names) xs
each_named names [] used = tt
each_named names (x ∷ xs) used = (used.0, each_named names xs used.1)

listed : (names xs : List (List ℕ)) → AllUsed xs names → All (Contains names) xs
listed names xs used = All-from_recursion (Contains names) xs (each_named names xs used)

uses_named : (names : List (List ℕ)) (u : Uses) → AllUsed (names_of_uses u) names → AreNamed names u
uses_named names u used = (listed names u.calls (used_front u.calls (map (λ r. r.0) u.refs) names used), named (λ r. r.0) names u.refs (used_back u.calls (map (λ r. r.0) u.refs) names used))

all_named : (names : List (List ℕ)) (us : List Uses) → AllUsed (flat_map names_of_uses us) names → AllByRecursion (AreNamed names) us
all_named names [] used = tt
all_named names (u ∷ us) used =
    let both = subst (λ (xs : List (List ℕ)). AllUsed xs names) (flat_map-cons names_of_uses u us) used in
    (uses_named names u (used_front (names_of_uses u) (flat_map names_of_uses us) names both), all_named names us (used_back (names_of_uses u) (flat_map names_of_uses us) names both))

pub named_by : (names : List (List ℕ)) (s : Summary) → IsTableOf names (names_of s) → IsNamedBy names s
named_by names s table =
    let all = (used_by_table names (names_of s) table).1 in
    let one = all.1 in
    let two = used_back (global_names s) _ names one in
    let three = used_back (function_names s) _ names two in
    let four = used_back (map (λ f. f.0) s.declared) _ names three in
    let five = used_back s.used _ names four in
    let six = used_back (map (λ f. f.0) s.taken) _ names five in
    let seven = used_back s.escaped _ names six in
    record {
      of_module = all.0;
      globals = named (λ g. g.0) names s.globals (used_front (global_names s) _ names one);
      functions = named (λ f. f.0) names s.functions (used_front (function_names s) _ names two);
      declared = named (λ f. f.0) names s.declared (used_front (map (λ f. f.0) s.declared) _ names three);
      used = listed names s.used (used_front s.used _ names four);
      taken = named (λ f. f.0) names s.taken (used_front (map (λ f. f.0) s.taken) _ names five);
      escaped = listed names s.escaped (used_front s.escaped _ names six);
      uses = all_named names s.uses seven;
    }

-- the file

pub is_file : {E : Type 0} (names : List (List ℕ)) (s : Summary) (payload : List ℕ) (r : Result (Vec ℕ) E) → IsVersioned s → FitsSummary s → FitsU32 (length names) → IsTableOf names (names_of s)
    → payload ≡ spelling s.version (record { names = names; value = s }) → OnOk r (FitsFile payload) → IfOk r (λ v. v.items ≡ file kind s.version payload) → IfOk r (λ v. IsSummaryFile v.items s)
is_file names s payload r is fits count table same room made =
    files.is_file kind first_version summary_version s.version spelling IsSummaryContents (record { names = names; value = s }) payload r is.not_below is.not_above
    (record { version_is = refl; contents = record { lawful = is; fits = fits; name_count = count; names = table } }) same room made
