-- What is read is the file of a summary, and the file of a summary is read.
use Rattle.std.proofs.Common.{◌≡◌, ℕ, ◌<◌, ◌≤◌, Bool, true, false, List, [], ◌∷◌, ◌++◌, length, map, Result, Ok, Err, refl, sym, ap, subst, ◌∙◌, append_assoc, arith, lit<}
use Rattle.std.specs.Prelude.{IsTrue, IfOk, Option, None, Some, Contains, nat_lt, nat_le, ◌==◌, if◌then◌else◌}
use Rattle.std.specs.List.{flat_map, AllByRecursion}
use Rattle.std.proofs.lemmas.Bool.{ltb-true, lt-ltb, leb-true, le-leb, eqb-true, eq-eqb}
use Rattle.std.proofs.lemmas.List.{append-nil}
use Rattle.std.proofs.lemmas.List.Concat.{flat_map-cons}
use Rattle.pw_value.specs.declared.fault.FileError.{FileError}
use Rattle.pw_value.specs.declared.program_names.StartName.{StartName}
use Rattle.pw_value.specs.declared.program_names.StartName.TheVariants.{Allowed, Refused}
use Rattle.pw_value.specs.declared.value.Kind.{Kind}
use Rattle.pw_value.specs.ProgramNames.{start_name, may_stand}
use Rattle.pw_fields.specs.Fields.{done, u8_at, u64_at, text_at, flag_at, repeated, u8, u64, text, flag, FitsU8, FitsU32, FitsU64, FitsText}
use Rattle.pw_fields.specs.FieldFaults.{GivesFile}
use Rattle.pw_fields.specs.FieldFrame.{ended}
use Rattle.pw_fields.specs.FieldLaws.{AreBytes, Spells, SpellsWhole}
use Rattle.pw_fields.specs.FieldNames.{name_at, name_table, name_index, IsNameTable}
use Rattle.pw_fields.proofs.FieldLaws.{checked_spells, u8_spells, u64_spells, text_spells, flag_spells, found_is, not_found}
use Rattle.pw_fields.proofs.FieldSteps.{Completes, Nothing, finish, step, step_where, keep_place, format, repeated_spells}
use Rattle.pw_fields.proofs.NameLaws.{name_spells, AllUsed, table_of_used, used_by_table}
use Rattle.pw_files.specs.Contents.{Contents, contents_at, value_of}
use Rattle.pw_files.proofs.Standing.{apart}
use Rattle.pw_files.specs.Rising.{IsRising, counted, rising_at}
use Rattle.pw_files.specs.Kinds.{kind_at, kind as kind_byte}
use Rattle.pw_files.specs.Names.{shaped, name_above_at, name_list_at, text_list_at, shaped_list_at}
use Rattle.pw_files.proofs.KindLaws.{kind_spells}
use Rattle.pw_files.proofs.NameLists.{FitsName, FitsShaped, name_above_spells, name_list_spells, text_list_spells, shaped_list_spells, never_start, each_other, each_may}
use Rattle.pw_files.proofs.RisingLaws.{refit, FitsBehind, FitsRising, rising_spells, each_weaker, each_both, used_by_each, each_by_used, used_append, used_front, used_back}
use Rattle.pw_files.proofs.ContentsLaws.{ModuleRules, module_rules_forth, module_rules_back, contents_spell, IsVersionKnown}
use Rattle.pw_files.proofs.ContentsLaws as files
use Rattle.pw_summary.specs.declared.summary.Uses.{Uses}
use Rattle.pw_summary.specs.declared.summary.Summary.{Summary}
use Rattle.pw_summary.specs.Summary.{global_names, function_names, IsUses, IsSummary, IsVersioned, kind, first_version, summary_version, weight_bound, need_limit}
use Rattle.pw_summary_parts.specs.Spelling.{global, reference, need, uses, names_of_uses, FitsUses}
use Rattle.pw_summary_file.specs.Spelling.{others, names_of, spelling, IsSummaryContents, IsSummaryFile}
use Rattle.pw_summary_parts.specs.Reading.{global_at, weight_at, reference_at, some_need_at, need_at, uses_at}
use Rattle.pw_summary_file.specs.Reading.{last_rules, fields_at, summary_file_at}
use Rattle.pw_summary_file.proofs.Parts.{row_at, in_a_row}

-- ---- items

abbrev FitsGlobal : List (List ℕ) → List ℕ × List ℕ × Option Kind × Bool → Type 0
FitsGlobal names g = FitsName names Allowed g.0 × FitsText g.1

global_spells : (names : List (List ℕ)) → IsNameTable names → (before : Option (List ℕ)) → Spells (global names) (FitsBehind (λ g. g.0) (FitsGlobal names) before) (global_at names before)
unfolding global_at
global_spells names table before = format (global names) (FitsBehind (λ g. g.0) (FitsGlobal names) before) (global names) (λ g. FitsBehind (λ name. name) (FitsName names Allowed) before g.0 × (FitsText g.1 × (Unit {0} × (Unit {0} × Unit {0})))) _
    (step _ _ (name_index names) (FitsBehind (λ name. name) (FitsName names Allowed) before) (name_above_at names Allowed before) _ _ _ (λ g. g.0) (name_above_spells names table Allowed before)
    (λ name name_fits. step _ _ text FitsText text_at _ _ _ (λ g. g.1) text_spells
    (λ shape shape_fits. step _ _ kind_byte (λ k. Unit {0}) kind_at _ _ _ (λ g. g.2) kind_spells
    (λ k kind_fits. step _ _ flag (λ b. Unit {0}) flag_at _ _ _ (λ g. g.3) flag_spells
    (λ volatile flag_fits. finish _ (name, shape, k, volatile) ((((tt, refl), refl), refl), refl) (λ g h. sym (λ j. (h.0.0.0.1 j, h.0.0.1 j, h.0.1 j, h.1 j))))))))
    (λ g. refl) (λ g h. ((h.0.0, h.1.0), h.0.1)) (λ g h. ((h.0.0, h.1), (h.0.1, (tt, (tt, tt)))))

abbrev FitsWeight : ℕ → Type 0
FitsWeight n = n < weight_bound

weight_spells : Spells u64 FitsWeight weight_at
unfolding weight_at
weight_spells = refit u64 (λ n. FitsU64 n × IsTrue (nat_lt n weight_bound)) FitsWeight _ (λ n h. ltb-true _ _ h.1) (λ n h. (omega (arith, h), lt-ltb _ _ h)) (checked_spells u64 FitsU64 u64_at (λ n. nat_lt n weight_bound) u64_spells)

abbrev FitsReference : List (List ℕ) → List ℕ × ℕ × ℕ → Type 0
FitsReference names r = FitsName names Allowed r.0 × (FitsWeight r.1 × FitsWeight r.2)

reference_spells : (names : List (List ℕ)) → IsNameTable names → (before : Option (List ℕ)) → Spells (reference names) (FitsBehind (λ r. r.0) (FitsReference names) before) (reference_at names before)
unfolding reference_at
reference_spells names table before = format (reference names) (FitsBehind (λ r. r.0) (FitsReference names) before) (reference names) (λ r. FitsBehind (λ name. name) (FitsName names Allowed) before r.0 × (FitsWeight r.1 × (FitsWeight r.2 × Unit {0}))) _
    (step _ _ (name_index names) (FitsBehind (λ name. name) (FitsName names Allowed) before) (name_above_at names Allowed before) _ _ _ (λ r. r.0) (name_above_spells names table Allowed before)
    (λ name name_fits. step _ _ u64 FitsWeight weight_at _ _ _ (λ r. r.1) weight_spells
    (λ reads reads_fit. step _ _ u64 FitsWeight weight_at _ _ _ (λ r. r.2) weight_spells
    (λ writes writes_fit. finish _ (name, reads, writes) (((tt, refl), refl), refl) (λ r h. sym (λ j. (h.0.0.1 j, h.0.1 j, h.1 j)))))))
    (λ r. refl) (λ r h. ((h.0.0, (h.1.0, h.1.1.0)), h.0.1)) (λ r h. ((h.0.0, h.1), (h.0.1.0, (h.0.1.1, tt))))

-- ---- what a function uses

-- it needs nothing in the first version
abbrev FitsNeed : ℕ → ℕ → Type 0
FitsNeed version n = (version ≡ first_version → n ≡ 0) × (n ≤ need_limit)

none_spells : Spells {X = ℕ} (λ n. []) (λ n. n ≡ 0) (done 0)
none_spells = record {
  takes = λ bytes n rest fits e. let p = found_is 0 n bytes rest e in (p.1, sym p.0);
  again = λ n rest none. ap (λ (k : ℕ). Ok (k, rest)) (sym none);
}

some_need_spells : Spells u8 (λ n. FitsU8 n × IsTrue (nat_le n need_limit)) some_need_at
unfolding some_need_at
some_need_spells = checked_spells u8 FitsU8 u8_at (λ n. nat_le n need_limit) u8_spells

need_spells_by : (version : ℕ) (b : Bool) → (version == first_version) ≡ b → Spells (λ (n : ℕ). if b then [] else u8 n) (FitsNeed version) (if b then done 0 else some_need_at)
need_spells_by version true e =
    refit (λ (n : ℕ). []) (λ (n : ℕ). n ≡ 0) (FitsNeed version) (done 0) (λ n none. ((λ is. none), subst (λ (k : ℕ). k ≤ need_limit) (sym none) (omega arith))) (λ n fit. fit.0 (eqb-true version first_version e)) none_spells
need_spells_by version false e =
    refit u8 (λ n. FitsU8 n × IsTrue (nat_le n need_limit)) (FitsNeed version) some_need_at (λ n fit. ((λ is. absurd (apart (sym e ∙ eq-eqb version first_version is))), leb-true _ _ fit.1))
    (λ n fit. let low = fit.1 in (omega (arith, low), le-leb _ _ low)) some_need_spells

need_spells : (version : ℕ) → Spells (need version) (FitsNeed version) (need_at version)
need_spells version = need_spells_by version (version == first_version) refl

abbrev UsesSteps : ℕ → List (List ℕ) → Uses → Type 0
UsesSteps version names u = FitsRising (λ name. name) (FitsName names Refused) u.calls × (FitsRising (λ t. t) FitsText u.shapes × (FitsRising (λ r. r.0) (FitsReference names) u.refs × (FitsNeed version u.need × Unit {0})))

uses_spells : (version : ℕ) (names : List (List ℕ)) → IsNameTable names → Spells (uses version names) (UsesSteps version names) (uses_at version names)
unfolding uses_at
uses_spells version names table = format (uses version names) (UsesSteps version names) (uses version names) (UsesSteps version names) _
    (step _ _ (counted (name_index names)) (FitsRising (λ name. name) (FitsName names Refused)) (name_list_at names Refused) _ _ _ (λ u. u.calls) (name_list_spells names table Refused)
    (λ calls calls_fit. step _ _ (counted text) (FitsRising (λ t. t) FitsText) text_list_at _ _ _ (λ u. u.shapes) text_list_spells
    (λ shapes shapes_fit. step _ _ (counted (reference names)) (FitsRising (λ r. r.0) (FitsReference names)) (rising_at (λ r. r.0) (reference_at names)) _ _ _ (λ u. u.refs)
    (rising_spells (reference names) (λ r. r.0) (FitsReference names) (reference_at names) (reference_spells names table))
    (λ refs refs_fit. step _ _ (need version) (FitsNeed version) (need_at version) _ _ _ (λ u. u.need) (need_spells version)
    (λ some need_fits. finish _ (record { calls = calls; shapes = shapes; refs = refs; need = some }) ((((tt, refl), refl), refl), refl) (λ u h. sym (λ j. record { calls = h.0.0.0.1 j; shapes = h.0.0.1 j; refs = h.0.1 j; need = h.1 j })))))))
    (λ u. refl) (λ u h. h) (λ u h. h)

-- ---- the fields behind the table of names

abbrev LastRules : ℕ → List (List ℕ) → Summary → Type 0
LastRules version names s = (s.version ≡ version) × ModuleRules names (names_of s) (function_names s) (global_names s)

abbrev Functions : List (List ℕ) → List (List ℕ × List ℕ) → Type 0
Functions names fs = FitsRising (λ f. f.0) (FitsShaped names Allowed) fs

-- all fields of a payload are known where the late rules hold
held_is : {X : Type 0} (late : Option ℕ) (x y : X) (bytes rest : List ℕ) → ended late x bytes ≡ Ok (y, rest) → (bytes ≡ []) × (late ≡ None) × (x ≡ y) × (rest ≡ [])
held_is late x y (b ∷ bytes) rest e = absurd (not_found _ y rest e)
held_is (Some left) x y [] rest e = absurd (not_found left y rest e)
held_is None x y [] rest e = let p = found_is x y [] rest e in (refl, refl, p.0, sym p.1)

finish_held : {X : Type 0} (Known Holds : X → Type 0) (late : Option ℕ) (x : X) → Known x → ((y : X) → Known y → Holds y → x ≡ y) → (late ≡ None → Holds x) → (Holds x → late ≡ None)
    → Completes Nothing Known (λ y. []) Holds (ended late x)
finish_held Known Holds late x known only forth back = record {
  takes = λ bytes y rest fits e. let p = held_is late x y bytes rest e in (p.0 ∙ sym p.3, subst Known p.2 known, subst Holds p.2 (forth p.1), p.3);
  again = λ y rest follows k holds. rw (follows, back (subst Holds (sym (only y k holds)) holds), ← only y k holds) refl;
}

-- the fields in a row
abbrev body : ℕ → List (List ℕ) → Summary → List ℕ
body version names s = name_index names s.module ++ (counted (global names) s.globals ++ (counted (shaped names) s.functions ++ (counted (shaped names) s.declared
    ++ (counted (name_index names) s.used ++ (counted (shaped names) s.taken ++ (counted (name_index names) s.escaped ++ (flat_map (uses version names) s.uses ++ [])))))))

regrouped : (a b c d tail : List ℕ) → a ++ (b ++ (c ++ (d ++ tail))) ≡ (a ++ (b ++ (c ++ (d ++ [])))) ++ (tail ++ [])
regrouped a b c d tail = simp (append_assoc, append-nil)

abbrev BodySteps : ℕ → List (List ℕ) → Summary → Type 0
BodySteps version names s = Contains names s.module × (FitsRising (λ g. g.0) (FitsGlobal names) s.globals × (Functions names s.functions × (Functions names s.declared
    × (FitsRising (λ name. name) (FitsName names Allowed) s.used × (FitsRising (λ f. f.0) (FitsShaped names Refused) s.taken × (FitsRising (λ name. name) (FitsName names Allowed) s.escaped
    × (((length s.uses ≡ length s.functions) × AllByRecursion (UsesSteps version names) s.uses) × LastRules version names s)))))))

row_steps : (version : ℕ) (names : List (List ℕ)) → IsNameTable names → (behind : ℕ) → Completes {X = Contents Summary} Nothing (λ c. Unit {0} × (c.names ≡ names)) (λ c. body version names c.value) (λ c. BodySteps version names c.value) (row_at version names (last_rules names behind))
row_steps version names table behind =
    step _ _ (name_index names) (Contains names) (name_at names) _ _ _ (λ c. c.value.module) (name_spells names table)
    (λ m m_fits. step _ _ (counted (global names)) (FitsRising (λ g. g.0) (FitsGlobal names)) (rising_at (λ g. g.0) (global_at names)) _ _ _ (λ c. c.value.globals)
    (rising_spells (global names) (λ g. g.0) (FitsGlobal names) (global_at names) (global_spells names table))
    (λ globals globals_fit. keep_place _ _ _ _ _
    (λ count. step _ _ (counted (shaped names)) (Functions names) (shaped_list_at names Allowed) _ _ _ (λ c. c.value.functions) (shaped_list_spells names table Allowed)
    (λ functions functions_fit. step _ _ (counted (shaped names)) (Functions names) (shaped_list_at names Allowed) _ _ _ (λ c. c.value.declared) (shaped_list_spells names table Allowed)
    (λ declared declared_fit. step _ _ (counted (name_index names)) (FitsRising (λ name. name) (FitsName names Allowed)) (name_list_at names Allowed) _ _ _ (λ c. c.value.used) (name_list_spells names table Allowed)
    (λ used used_fit. step _ _ (counted (shaped names)) (FitsRising (λ f. f.0) (FitsShaped names Refused)) (shaped_list_at names Refused) _ _ _ (λ c. c.value.taken) (shaped_list_spells names table Refused)
    (λ taken taken_fit. step _ _ (counted (name_index names)) (FitsRising (λ name. name) (FitsName names Allowed)) (name_list_at names Allowed) _ _ _ (λ c. c.value.escaped) (name_list_spells names table Allowed)
    (λ escaped escaped_fit. step_where _ _ (flat_map (uses version names)) (λ us. (length us ≡ length functions) × AllByRecursion (UsesSteps version names) us) (repeated (uses_at version names) (length functions)) _
    (λ c. (length c.value.uses ≡ length c.value.functions) × AllByRecursion (UsesSteps version names) c.value.uses) _ _ (λ c. c.value.uses)
    (repeated_spells (uses version names) (UsesSteps version names) (uses_at version names) (uses_spells version names table) (length functions))
    (λ c k h. (h.0 ∙ ap length (sym k.0.0.0.0.1), h.1))
    (λ c k h. (h.0 ∙ ap length k.0.0.0.0.1, h.1))
    (λ all all_fit. let s : Summary = record { version = version; «module» = m; globals = globals; functions = functions; declared = declared; used = used; taken = taken; escaped = escaped; uses = all } in
    finish_held _ (λ c. LastRules version names c.value) (last_rules names behind s count) (record { names = names; value = s })
    (((((((((tt, refl), refl), refl), refl), refl), refl), refl), refl), refl)
    (λ c k h. sym (λ j. record { names = k.0.0.0.0.0.0.0.0.1 j; value = record { version = h.0 j; «module» = k.0.0.0.0.0.0.0.1 j; globals = k.0.0.0.0.0.0.1 j; functions = k.0.0.0.0.0.1 j; declared = k.0.0.0.0.1 j; used = k.0.0.0.1 j; taken = k.0.0.1 j; escaped = k.0.1 j; uses = k.1 j } }))
    (λ e. (refl, module_rules_forth names (names_of s) behind (function_names s) (global_names s) count e)) (λ h. module_rules_back names (names_of s) behind (function_names s) (global_names s) count h.1))))))))))

summary_steps : (version : ℕ) (names : List (List ℕ)) → IsNameTable names → (behind : ℕ) → Completes {X = Contents Summary} Nothing (λ c. Unit {0} × (c.names ≡ names)) (λ c. body version names c.value) (λ c. BodySteps version names c.value) (fields_at version names (last_rules names behind))
summary_steps version names table behind =
    let row = row_steps version names table behind in
    let same = in_a_row version names (last_rules names behind) in
    record {
      takes = λ bytes c rest fits e. row.takes bytes c rest fits (sym (same bytes) ∙ e);
      again = λ c rest follows known fits. same (body version names c.value ++ rest) ∙ row.again c rest follows known fits;
    }

abbrev ContentsSteps : ℕ → Contents Summary → Type 0
ContentsSteps version c = IsNameTable c.names × BodySteps version c.names c.value

-- ---- the same rules in the words of a summary

same_names : (names : List (List ℕ)) → map (λ name. name) names ≡ names
same_names [] = refl
same_names (name ∷ names) = ap (λ (rest : List (List ℕ)). name ∷ rest) (same_names names)

rises : (names : List (List ℕ)) → IsRising (map (λ name. name) names) → IsRising names
rises names h = subst IsRising (same_names names) h

rises_back : (names : List (List ℕ)) → IsRising names → IsRising (map (λ name. name) names)
rises_back names h = subst IsRising (sym (same_names names)) h

names_used : (names : List (List ℕ)) (start : StartName) (xs : List (List ℕ)) → AllByRecursion (FitsName names start) xs → AllUsed xs names
names_used names start [] all = tt
names_used names start (x ∷ xs) all = (all.0.0, names_used names start xs all.1)

uses_forth : (version : ℕ) (names : List (List ℕ)) (u : Uses) → UsesSteps version names u → IsUses u
uses_forth version names u h = record {
  calls = rises u.calls h.0.rising;
  no_call = λ k. never_start (λ name. name) u.calls (each_weaker (FitsName names Refused) (λ name. IsTrue (may_stand Refused name)) (λ name f. f.1) u.calls h.0.each) (subst (λ (xs : List (List ℕ)). Contains xs start_name) (sym (same_names u.calls)) k);
  shapes = rises u.shapes h.1.0.rising;
  refs = h.1.1.0.rising;
  weights = each_weaker (FitsReference names) (λ r. (r.1 < weight_bound) × (r.2 < weight_bound)) (λ r f. (f.1.0, f.1.1)) u.refs h.1.1.0.each;
  need = h.1.1.1.0.1;
}

uses_fit : (version : ℕ) (names : List (List ℕ)) (u : Uses) → UsesSteps version names u → FitsUses u
uses_fit version names u h = record { calls = h.0.count; shapes = (h.1.0.count, h.1.0.each); refs = h.1.1.0.count }

uses_used : (version : ℕ) (names : List (List ℕ)) (u : Uses) → UsesSteps version names u → AllUsed (names_of_uses u) names
uses_used version names u h = used_append u.calls (map (λ r. r.0) u.refs) names (names_used names Refused u.calls h.0.each) (used_by_each (λ r. r.0) names u.refs (each_weaker (FitsReference names) (λ r. Contains names r.0) (λ r f. f.0.0) u.refs h.1.1.0.each))

all_uses_used : (version : ℕ) (names : List (List ℕ)) (us : List Uses) → AllByRecursion (UsesSteps version names) us → AllUsed (flat_map names_of_uses us) names
all_uses_used version names [] all = tt
all_uses_used version names (u ∷ us) all = subst (λ (xs : List (List ℕ)). AllUsed xs names) (sym (flat_map-cons names_of_uses u us)) (used_append (names_of_uses u) (flat_map names_of_uses us) names (uses_used version names u all.0) (all_uses_used version names us all.1))

shaped_used : (names : List (List ℕ)) (start : StartName) (fs : List (List ℕ × List ℕ)) → AllByRecursion (FitsShaped names start) fs → AllUsed (map (λ f. f.0) fs) names
shaped_used names start fs all = used_by_each (λ f. f.0) names fs (each_weaker (FitsShaped names start) (λ f. Contains names f.0) (λ f h. h.0.0) fs all)

shapes_fit : (names : List (List ℕ)) (start : StartName) (fs : List (List ℕ × List ℕ)) → AllByRecursion (FitsShaped names start) fs → AllByRecursion (λ f. FitsText f.1) fs
shapes_fit names start fs all = each_weaker (FitsShaped names start) (λ f. FitsText f.1) (λ f h. h.1) fs all

-- in the first version no function needs anything
needs_none : (version : ℕ) (names : List (List ℕ)) → version ≡ first_version → (us : List Uses) → AllByRecursion (UsesSteps version names) us → AllByRecursion (λ u. u.need ≡ 0) us
needs_none version names e us all = each_weaker (UsesSteps version names) (λ u. u.need ≡ 0) (λ u h. h.1.1.1.0.0 e) us all

contents_forth : (version : ℕ) → first_version ≤ version → version ≤ summary_version → (c : Contents Summary) → ContentsSteps version c → IsSummaryContents version c
contents_forth version low high c h =
    let s = c.value in
    let names = c.names in
    let b = h.1 in
    let globals = b.1.0 in
    let functions = b.1.1.0 in
    let declared = b.1.1.1.0 in
    let used = b.1.1.1.1.0 in
    let taken = b.1.1.1.1.1.0 in
    let escaped = b.1.1.1.1.1.1.0 in
    let all = b.1.1.1.1.1.1.1.0 in
    let is = b.1.1.1.1.1.1.1.1.0 in
    let last = b.1.1.1.1.1.1.1.1.1 in
    let lawful : IsSummary s = record {
      globals = globals.rising;
      functions = functions.rising;
      declared = declared.rising;
      used = rises s.used used.rising;
      taken = taken.rising;
      not_taken = never_start (λ f. f.0) s.taken (each_weaker (FitsShaped names Refused) (λ f. IsTrue (may_stand Refused f.0)) (λ f k. k.0.1) s.taken taken.each);
      escaped = rises s.escaped escaped.rising;
      uses = each_weaker (UsesSteps version names) IsUses (uses_forth version names) s.uses all.1;
      each_uses = all.0;
      start = last.1;
    } in
    record {
      version_is = is;
      contents = record {
        lawful = record {
          not_below = subst (λ (n : ℕ). first_version ≤ n) (sym is) low;
          not_above = subst (λ (n : ℕ). n ≤ summary_version) (sym is) high;
          summary = lawful;
          needless = λ e. needs_none version names (sym is ∙ e) s.uses all.1;
        };
        fits = record {
          globals = (globals.count, each_weaker (FitsGlobal names) (λ g. FitsText g.1) (λ g k. k.1) s.globals globals.each);
          functions = (functions.count, shapes_fit names Allowed s.functions functions.each);
          declared = (declared.count, shapes_fit names Allowed s.declared declared.each);
          used = used.count;
          taken = (taken.count, shapes_fit names Refused s.taken taken.each);
          escaped = escaped.count;
          uses = each_weaker (UsesSteps version names) FitsUses (uses_fit version names) s.uses all.1;
        };
        name_count = h.0.count;
        names = table_of_used names (names_of s) h.0 last.0 (
          b.0,
          used_append (global_names s) _ names (used_by_each (λ g. g.0) names s.globals (each_weaker (FitsGlobal names) (λ g. Contains names g.0) (λ g k. k.0.0) s.globals globals.each))
              (used_append (function_names s) _ names (shaped_used names Allowed s.functions functions.each)
              (used_append (map (λ f. f.0) s.declared) _ names (shaped_used names Allowed s.declared declared.each)
              (used_append s.used _ names (names_used names Allowed s.used used.each)
              (used_append (map (λ f. f.0) s.taken) _ names (shaped_used names Refused s.taken taken.each)
              (used_append s.escaped _ names (names_used names Allowed s.escaped escaped.each)
              (all_uses_used version names s.uses all.1)))))),
        );
      };
    }

-- ---- and back

listed : (names : List (List ℕ)) (start : StartName) (xs : List (List ℕ)) → AllUsed xs names → AllByRecursion (λ name. IsTrue (may_stand start name)) xs → AllByRecursion (FitsName names start) xs
listed names start [] used may = tt
listed names start (x ∷ xs) used may = ((used.0, may.0), listed names start xs used.1 may.1)

names_back : (names : List (List ℕ)) (start : StartName) (xs : List (List ℕ)) → FitsU32 (length xs) → IsRising xs → AllUsed xs names → AllByRecursion (λ name. IsTrue (may_stand start name)) xs → FitsRising (λ name. name) (FitsName names start) xs
names_back names start xs count rising used may = record { count = count; rising = rises_back xs rising; each = listed names start xs used may }

items_back : {X : Type 0} (key : X → List ℕ) (Fits : X → Type 0) (names : List (List ℕ)) (start : StartName) (xs : List X) → FitsU32 (length xs) → IsRising (map key xs) → AllUsed (map key xs) names → AllByRecursion (λ x. IsTrue (may_stand start (key x))) xs
    → AllByRecursion Fits xs → FitsRising key (λ x. FitsName names start (key x) × Fits x) xs
items_back key Fits names start xs count rising used may fits = record {
  count = count;
  rising = rising;
  each = each_both (λ x. FitsName names start (key x)) Fits xs (each_both (λ x. Contains names (key x)) (λ x. IsTrue (may_stand start (key x))) xs (each_by_used key names xs used) may) fits;
}

uses_back : (version : ℕ) (names : List (List ℕ)) (u : Uses) → (version ≡ first_version → u.need ≡ 0) → IsUses u → FitsUses u → AllUsed (names_of_uses u) names → UsesSteps version names u
uses_back version names u none is fits used = (
  names_back names Refused u.calls fits.calls is.calls (used_front u.calls (map (λ r. r.0) u.refs) names used) (each_other (λ name. name) u.calls (λ k. is.no_call (subst (λ (xs : List (List ℕ)). Contains xs start_name) (same_names u.calls) k))),
  (
    record { count = fits.shapes.0; rising = rises_back u.shapes is.shapes; each = fits.shapes.1 },
    (
      items_back (λ r. r.0) (λ r. FitsWeight r.1 × FitsWeight r.2) names Allowed u.refs fits.refs is.refs (used_back u.calls (map (λ r. r.0) u.refs) names used) (each_may (λ r. r.0) u.refs)
          (each_weaker (λ r. (r.1 < weight_bound) × (r.2 < weight_bound)) (λ r. FitsWeight r.1 × FitsWeight r.2) (λ r k. (k.0, k.1)) u.refs is.weights),
      ((none, is.need), tt),
    ),
  ),
)

all_uses_back : (version : ℕ) (names : List (List ℕ)) (us : List Uses) → (version ≡ first_version → AllByRecursion (λ u. u.need ≡ 0) us) → AllByRecursion IsUses us → AllByRecursion FitsUses us → AllUsed (flat_map names_of_uses us) names → AllByRecursion (UsesSteps version names) us
all_uses_back version names [] none is fits used = tt
all_uses_back version names (u ∷ us) none is fits used =
    let both = subst (λ (xs : List (List ℕ)). AllUsed xs names) (flat_map-cons names_of_uses u us) used in
    (uses_back version names u (λ e. (none e).0) is.0 fits.0 (used_front (names_of_uses u) (flat_map names_of_uses us) names both), all_uses_back version names us (λ e. (none e).1) is.1 fits.1 (used_back (names_of_uses u) (flat_map names_of_uses us) names both))

contents_back : (version : ℕ) (c : Contents Summary) → IsSummaryContents version c → ContentsSteps version c
contents_back version c holds =
    let is = holds.contents in
    let lawful = is.lawful.summary in
    let s = c.value in
    let names = c.names in
    let both = used_by_table names (names_of s) is.names in
    let one = both.1.1 in
    let two = used_back (global_names s) _ names one in
    let three = used_back (function_names s) _ names two in
    let four = used_back (map (λ f. f.0) s.declared) _ names three in
    let five = used_back s.used _ names four in
    let six = used_back (map (λ f. f.0) s.taken) _ names five in
    let seven = used_back s.escaped _ names six in (
      record { count = is.name_count; rising = is.names.rising },
      (
        both.1.0,
        (
          items_back (λ g. g.0) (λ g. FitsText g.1) names Allowed s.globals is.fits.globals.0 lawful.globals (used_front (global_names s) _ names one) (each_may (λ g. g.0) s.globals) is.fits.globals.1,
          (
            items_back (λ f. f.0) (λ f. FitsText f.1) names Allowed s.functions is.fits.functions.0 lawful.functions (used_front (function_names s) _ names two) (each_may (λ f. f.0) s.functions) is.fits.functions.1,
            (
              items_back (λ f. f.0) (λ f. FitsText f.1) names Allowed s.declared is.fits.declared.0 lawful.declared (used_front (map (λ f. f.0) s.declared) _ names three) (each_may (λ f. f.0) s.declared) is.fits.declared.1,
              (
                names_back names Allowed s.used is.fits.used lawful.used (used_front s.used _ names four) (each_may (λ name. name) s.used),
                (
                  items_back (λ f. f.0) (λ f. FitsText f.1) names Refused s.taken is.fits.taken.0 lawful.taken (used_front (map (λ f. f.0) s.taken) _ names five) (each_other (λ f. f.0) s.taken lawful.not_taken) is.fits.taken.1,
                  (
                    names_back names Allowed s.escaped is.fits.escaped lawful.escaped (used_front s.escaped _ names six) (each_may (λ name. name) s.escaped),
                    ((lawful.each_uses, all_uses_back version names s.uses (λ e. is.lawful.needless (holds.version_is ∙ e)) lawful.uses is.fits.uses seven), (holds.version_is, (both.0, lawful.start))),
                  ),
                ),
              ),
            ),
          ),
        ),
      ),
    )

pub contents_spells : (version : ℕ) → first_version ≤ version → version ≤ summary_version → SpellsWhole (spelling version) (IsSummaryContents version) (contents_at (fields_at version) last_rules)
contents_spells version low high = contents_spell (fields_at version) last_rules (spelling version) (body version) (BodySteps version) (IsSummaryContents version) (summary_steps version)
    (λ c. ap (λ (w : List ℕ). name_table c.names ++ w) (regrouped (name_index c.names c.value.module) (counted (global c.names) c.value.globals) (counted (shaped c.names) c.value.functions) (counted (shaped c.names) c.value.declared) (others version c.names c.value)))
    (contents_forth version low high) (contents_back version)

-- ---- the file

pub found_by : (bytes : List ℕ) (r : Result Summary FileError) → AreBytes bytes → GivesFile (λ s. s) r (value_of (summary_file_at bytes)) → IfOk r (IsSummaryFile bytes)
found_by = files.found_by kind first_version summary_version fields_at last_rules spelling IsSummaryContents contents_spells

pub only_by : (bytes : List ℕ) (r : Result Summary FileError) → GivesFile (λ s. s) r (value_of (summary_file_at bytes)) → (s : Summary) → IsSummaryFile bytes s → GivesFile (λ s. s) r (Ok s)
only_by = files.only_by kind first_version summary_version fields_at last_rules spelling IsSummaryContents contents_spells (lit< tt) (lit< tt)

pub lawful_by : (bytes : List ℕ) (r : Result Summary FileError) → IfOk r (IsSummaryFile bytes) → IfOk r (λ s. IsSummary s)
lawful_by bytes (Ok s) is = is.1.fits.contents.lawful.summary
lawful_by bytes (Err e) is = tt

pub versioned_by : (bytes : List ℕ) (r : Result Summary FileError) → IfOk r (IsSummaryFile bytes) → IfOk r (λ s. IsVersioned s)
versioned_by bytes (Ok s) is = is.1.fits.contents.lawful
versioned_by bytes (Err e) is = tt

pub one_summary : (bytes : List ℕ) (s t : Summary) → IsSummaryFile bytes s → IsSummaryFile bytes t → s ≡ t
one_summary = files.one_value kind first_version summary_version fields_at last_rules spelling IsSummaryContents contents_spells (lit< tt) (lit< tt)

-- the version of a file is that of its summary
known_version : IsVersionKnown first_version summary_version IsSummaryContents
known_version m n c d m_from m_to n_from n_to one two same = sym one.version_is ∙ ap (λ (s : Summary). s.version) same ∙ two.version_is

pub one_file : (bytes others : List ℕ) (s : Summary) → IsSummaryFile bytes s → IsSummaryFile others s → bytes ≡ others
one_file = files.one_file kind first_version summary_version spelling IsSummaryContents names_of known_version (λ n c is. is.contents.names)
