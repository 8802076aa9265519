-- What is read is the file of a value, and the file of a value is read: of every file whose value stands
-- behind a table of its names.
use Rattle.std.proofs.Common.{◌≡◌, ℕ, suc, ◌<◌, ◌≤◌, ◌^◌, Bool, true, List, [], ◌∷◌, ◌++◌, length, Result, Ok, Err, refl, sym, ap, subst, ◌∙◌, arith}
use Rattle.std.specs.Prelude.{◌==◌, IfOk, OnOk, Option, None, Some}
use Rattle.std.specs.Global.{Vec}
use Rattle.std.proofs.lemmas.Bool.{eqb-true}
use Rattle.pw_value.specs.declared.fault.FileError.{FileError}
use Rattle.pw_fields.specs.declared.fault.FieldFault.{FieldFault}
use Rattle.pw_fields.specs.declared.fault.FieldFault.TheVariants as field
use Rattle.pw_fields.specs.FieldFaults.{Fails, GivesFile}
use Rattle.pw_fields.specs.FieldFrame.{ended, file, FitsFile}
use Rattle.pw_fields.specs.FieldLaws.{AreBytes, SpellsWhole}
use Rattle.pw_fields.specs.FieldNames.{names_at, name_table, first_unused, IsNameTable, IsTableOf}
use Rattle.pw_fields.proofs.FieldSteps.{Completes, Nothing, step, keep_place, payload_format}
use Rattle.pw_fields.proofs.FileLaws.{file_takes, file_again}
use Rattle.pw_fields.proofs.NameTables.{one_table}
use Rattle.pw_fields.proofs.NameLaws.{names_spell, AllUsed, all_used, none_unused}
use Rattle.pw_value.specs.ProgramNames.{KeepsStart}
use Rattle.pw_files.specs.Start.{start_rule, sooner}
use Rattle.pw_files.specs.Contents.{Contents, IsFileWith, module_rules, broken_at, FieldsReader, contents_at, contents_file_at, value_of}
use Rattle.pw_files.proofs.RisingLaws.{respell}
use Rattle.pw_files.proofs.StartLaws.{sooner_none, rule_forth, rule_back}

-- ---- the rules that are looked at last

abbrev pub ModuleRules : List (List ℕ) → List (List ℕ) → List (List ℕ) → List (List ℕ) → Type 0
ModuleRules names used functions globals = AllUsed names used × KeepsStart functions globals

pub module_rules_forth : (names used : List (List ℕ)) (behind : ℕ) (functions globals : List (List ℕ)) (count : ℕ) → module_rules names used behind functions globals count ≡ None → ModuleRules names used functions globals
module_rules_forth names used behind functions globals count e =
    let both = sooner_none (first_unused names used behind) (start_rule functions globals count) e in
    (all_used names used behind both.0, rule_forth functions globals count both.1)

pub module_rules_back : (names used : List (List ℕ)) (behind : ℕ) (functions globals : List (List ℕ)) (count : ℕ) → ModuleRules names used functions globals → module_rules names used behind functions globals count ≡ None
module_rules_back names used behind functions globals count holds =
    ap (λ o. sooner o (start_rule functions globals count)) (none_unused names used behind holds.0) ∙ rule_back functions globals count holds.1

-- the test that nothing is left
pub nothing_left : (rest : List ℕ) (empty : Bool) → empty ≡ (length rest == 0) → empty ≡ true → rest ≡ []
nothing_left [] empty is holds = refl
nothing_left (b ∷ rest) empty is holds = let none : suc (length rest) ≡ 0 = eqb-true _ _ (sym is ∙ holds) in absurd (omega (arith, none))

-- such a rule that is broken is the fault of the whole
pub late_fault : {X : Type 0} (e : FieldFault) (late : Option ℕ) (x : X) → Fails e (broken_at late) → Fails e (ended late x [])
late_fault field.NoMemory late x fails = tt
late_fault (field.Fault left) None x fails = absurd cc
late_fault (field.Fault left) (Some other) x fails = cc

-- ---- the table of names and the fields behind it

pub contents_spell : {V : Type 0} (fields : FieldsReader V) (late : List (List ℕ) → ℕ → V → ℕ → Option ℕ) (spelling : Contents V → List ℕ) (body : List (List ℕ) → V → List ℕ) (Steps : List (List ℕ) → V → Type 0) (Is : Contents V → Type 0)
    → ((names : List (List ℕ)) → IsNameTable names → (behind : ℕ) → Completes {X = Contents V} Nothing (λ c. Unit {0} × (c.names ≡ names)) (λ c. body names c.value) (λ c. Steps names c.value) (fields names (late names behind)))
    → ((c : Contents V) → name_table c.names ++ body c.names c.value ≡ spelling c)
    → ((c : Contents V) → IsNameTable c.names × Steps c.names c.value → Is c)
    → ((c : Contents V) → Is c → IsNameTable c.names × Steps c.names c.value)
    → SpellsWhole spelling Is (contents_at fields late)
unfolding contents_at
contents_spell {V = V} fields late spelling body Steps Is laws alike to from = payload_format {X = Contents V} spelling Is (λ c. name_table c.names ++ body c.names c.value) (λ c. IsNameTable c.names × Steps c.names c.value) _
    (step _ _ name_table IsNameTable names_at _ _ _ (λ c. c.names) names_spell
    (λ names table. keep_place _ _ _ _ _
    (λ behind. respell {X = Contents V} _ _ (λ c. body names c.value) (λ c. body c.names c.value) (λ c. Steps names c.value) (λ c. Steps c.names c.value) _
    (λ c k. ap (λ (ns : List (List ℕ)). body ns c.value) (sym k.1))
    (λ c k h. subst (λ (ns : List (List ℕ)). Steps ns c.value) (sym k.1) h)
    (λ c k h. subst (λ (ns : List (List ℕ)). Steps ns c.value) k.1 h)
    (laws names table behind))))
    alike to from

-- ---- the file

module _ {V : Type 0} (kind first last : ℕ) (fields : ℕ → FieldsReader V) (late : List (List ℕ) → ℕ → V → ℕ → Option ℕ) (spelling : ℕ → Contents V → List ℕ) (Is : ℕ → Contents V → Type 0) (laws : (v : ℕ) → first ≤ v → v ≤ last → SpellsWhole (spelling v) (Is v) (contents_at (fields v) late)) where
  pub value_takes : (bytes : List ℕ) (c : Contents V) → AreBytes bytes → contents_file_at kind first last fields late bytes ≡ Ok c → IsFileWith kind first last spelling Is bytes c.value
  value_takes bytes c fits e = (c.names, file_takes kind first last spelling Is (λ v. contents_at (fields v) late) laws bytes c fits e)

  pub value_again : kind < 2 ^ 32 → last < 2 ^ 32 → (bytes : List ℕ) (v : V) → IsFileWith kind first last spelling Is bytes v → value_of (contents_file_at kind first last fields late bytes) ≡ Ok v
  value_again kind_fits last_fits bytes v is = ap value_of (file_again kind first last spelling Is (λ v. contents_at (fields v) late) kind_fits last_fits laws bytes (record { names = is.0; value = v }) is.1)

  value_found : (v : V) (r : Result (Contents V) ℕ) → value_of r ≡ Ok v → (c : Contents V) × (r ≡ Ok c) × (c.value ≡ v)
  value_found v (Ok c) e = (c, refl, cc)
  value_found v (Err at) e = absurd cc

  -- the same of what a function returned

  pub found_by : (bytes : List ℕ) (r : Result V FileError) → AreBytes bytes → GivesFile (λ v. v) r (value_of (contents_file_at kind first last fields late bytes)) → IfOk r (IsFileWith kind first last spelling Is bytes)
  found_by bytes (Ok v) fits given =
      let p = value_found v (contents_file_at kind first last fields late bytes) given in
      subst (IsFileWith kind first last spelling Is bytes) p.2 (value_takes bytes p.0 fits p.1)
  found_by bytes (Err e) fits given = tt

  pub only_by : kind < 2 ^ 32 → last < 2 ^ 32 → (bytes : List ℕ) (r : Result V FileError) → GivesFile (λ v. v) r (value_of (contents_file_at kind first last fields late bytes)) → (v : V) → IsFileWith kind first last spelling Is bytes v → GivesFile (λ v. v) r (Ok v)
  only_by kind_fits last_fits bytes r given v is = subst (GivesFile (λ v. v) r) (value_again kind_fits last_fits bytes v is) given

  -- one value for each file

  abbrev value : V → Result V ℕ
  value v = Ok v

  pub one_value : kind < 2 ^ 32 → last < 2 ^ 32 → (bytes : List ℕ) (v w : V) → IsFileWith kind first last spelling Is bytes v → IsFileWith kind first last spelling Is bytes w → v ≡ w
  one_value kind_fits last_fits bytes v w p q = let both : value v ≡ value w = sym (value_again kind_fits last_fits bytes v p) ∙ value_again kind_fits last_fits bytes w q in cc

-- the version of a file is known by its value
abbrev pub IsVersionKnown : {V : Type 0} → ℕ → ℕ → (ℕ → Contents V → Type 0) → Type 0
IsVersionKnown {V = V} first last Is = (m n : ℕ) (c d : Contents V) → first ≤ m → m ≤ last → first ≤ n → n ≤ last → Is m c → Is n d → c.value ≡ d.value → m ≡ n

-- as it is where there is no other
pub one_version : {V : Type 0} (version : ℕ) (Is : ℕ → Contents V → Type 0) → IsVersionKnown version version Is
one_version version Is m n c d m_from m_to n_from n_to one two same = omega (arith, m_from, m_to, n_from, n_to)

-- one file for each value
pub one_file : {V : Type 0} (kind first last : ℕ) (spelling : ℕ → Contents V → List ℕ) (Is : ℕ → Contents V → Type 0) (used : V → List (List ℕ)) → IsVersionKnown first last Is → ((n : ℕ) (c : Contents V) → Is n c → IsTableOf c.names (used c.value))
    → (bytes others : List ℕ) (v : V) → IsFileWith kind first last spelling Is bytes v → IsFileWith kind first last spelling Is others v → bytes ≡ others
one_file {V = V} kind first last spelling Is used known tables bytes others v p q =
    let names : p.0 ≡ q.0 = one_table p.0 q.0 (used v) (tables _ _ p.1.fits) (tables _ _ q.1.fits) in
    let same_version : p.1.version ≡ q.1.version = known _ _ _ _ p.1.not_below p.1.not_above q.1.not_below q.1.not_above p.1.fits q.1.fits refl in
    p.1.spelled ∙ ap (λ n. file kind n (spelling n (record { names = p.0; value = v }))) same_version ∙ ap (λ (ns : List (List ℕ)). file kind q.1.version (spelling q.1.version (record { names = ns; value = v }))) names ∙ sym q.1.spelled

-- what a writer made
pub is_file : {V E : Type 0} (kind first last version : ℕ) (spelling : ℕ → Contents V → List ℕ) (Is : ℕ → Contents V → Type 0) (c : Contents V) (payload : List ℕ) (r : Result (Vec ℕ) E) → first ≤ version → version ≤ last → Is version c
    → payload ≡ spelling version c → OnOk r (FitsFile payload) → IfOk r (λ v. v.items ≡ file kind version payload) → IfOk r (λ v. IsFileWith kind first last spelling Is v.items c.value)
is_file kind first last version spelling Is c payload (Ok v) from to is same room made =
    (c.names, record { version = version; not_below = from; not_above = to; fits = is; room = subst FitsFile same room; spelled = made ∙ ap (file kind version) same })
is_file kind first last version spelling Is c payload (Err e) from to is same room made = tt
