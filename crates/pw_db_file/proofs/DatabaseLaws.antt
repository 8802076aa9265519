-- What is read is the payload of a database, and the payload of a database is read; the same of a file.
use Rattle.std.proofs.Common.{◌≡◌, ◌≢◌, ℕ, ◌<◌, ◌≤◌, List, [], ◌∷◌, ◌++◌, length, map, Result, Ok, Err, refl, sym, ap, subst, ◌∙◌, append_assoc, lit<, arith}
use Rattle.std.specs.Prelude.{IfOk, Contains, Option, None, Some}
use Rattle.std.specs.List.{flat_map, AllByRecursion}
use Rattle.std.proofs.lemmas.List.{append-nil}
use Rattle.std.proofs.lemmas.List.Concat.{flat_map-cons}
use Rattle.pw_value.specs.declared.fault.FileError.{FileError}
use Rattle.pw_value.specs.declared.fault.FileError.TheVariants as file
use Rattle.pw_value.specs.declared.program_names.StartName.TheVariants.{Allowed}
use Rattle.pw_fields.specs.Fields.{u32_at, items_at, u32, FitsU32, FitInTurn}
use Rattle.pw_fields.specs.FieldFaults.{FailsFile, GivesFile}
use Rattle.pw_fields.specs.FieldFrame.{ended, placed}
use Rattle.pw_fields.specs.FieldLaws.{AreBytes, Spells, SpellsWhole}
use Rattle.pw_fields.specs.FieldNames.{name_index, first_unused, IsNameTable}
use Rattle.pw_fields.proofs.FieldLaws.{u32_spells, found_is, not_found}
use Rattle.pw_fields.proofs.FieldSteps.{Completes, Nothing, finish, step, step_where, keep_place, format, items_spell}
use Rattle.pw_fields.proofs.NameTables.{one_table}
use Rattle.pw_fields.proofs.NameLaws.{AllUsed, all_used, none_unused, table_of_used, used_by_table}
use Rattle.pw_files.specs.Contents.{Contents, IsContentsOf, contents_at, value_of}
use Rattle.pw_files.specs.Rising.{IsRisingBehind, counted}
use Rattle.pw_files.specs.Names.{name_above_at}
use Rattle.pw_files.proofs.NameLists.{FitsName, name_above_spells}
use Rattle.pw_files.proofs.RisingLaws.{FitsBehind, used_append, used_front, used_back, above_forth, above_back}
use Rattle.pw_files.proofs.ContentsLaws.{contents_spell, IsVersionKnown}
use Rattle.pw_files.proofs.ContentsLaws as files
use Rattle.pw_db.specs.declared.database.Web.{Web}
use Rattle.pw_db.specs.declared.database.Role.{Role}
use Rattle.pw_db.specs.declared.database.Database.{Database}
use Rattle.pw_db.specs.declared.database.Directives.{Directives}
use Rattle.pw_db.specs.Database.{EachTwo, IsWeb, webs_of, IsDirectives, all_webs, Agree, kind, first_version, database_version, IsUnshared, IsDatabase, IsVersioned, of_version, newest, IsStored}
use Rattle.pw_db.proofs.StoringLaws.{one_stored}
use Rattle.pw_db_sharing.specs.Spelling.{sharing}
use Rattle.pw_db_file.specs.Spelling.{web, function, names_of_function, names_of, names_in, FitsFunction, spelling, IsDatabaseContents, IsDatabaseFile, IsNewFile, IsPayload}
use Rattle.pw_db_sharing.specs.Reading.{sharing_at}
use Rattle.pw_db_file.specs.Reading.{web_at, next_web, webs_at, Before, function_at, next_function, nothing_before, functions_at, unused_rule, fields_at, payload_at, database_file_at, functions_in}
use Rattle.pw_db_file.proofs.EachTwoLaws.{two_push, two_last, two_front, agree_all, first_same}
use Rattle.pw_db_file.proofs.WebLaws.{FitsWeb, web_spells}
use Rattle.pw_db_sharing.proofs.SharingLaws.{FitsSharing, sharing_spells}
use Rattle.pw_files.proofs.Standing.{has_by}

-- all fields of a payload are known where the late rules hold
held_is : {X : Type 0} (late : Option ℕ) (x y : X) (bytes rest : List ℕ) → ended late x bytes ≡ Ok (y, rest) → (bytes ≡ []) × (late ≡ None) × (x ≡ y) × (rest ≡ [])
held_is late x y (b ∷ bytes) rest e = absurd (not_found _ y rest e)
held_is (Some left) x y [] rest e = absurd (not_found left y rest e)
held_is None x y [] rest e = let p = found_is x y [] rest e in (refl, refl, p.0, sym p.1)

finish_held : {X : Type 0} (Known Holds : X → Type 0) (late : Option ℕ) (x : X) → Known x → ((y : X) → Known y → Holds y → x ≡ y) → (late ≡ None → Holds x) → (Holds x → late ≡ None)
    → Completes Nothing Known (λ y. []) Holds (ended late x)
finish_held Known Holds late x known only forth back = record {
  takes = λ bytes y rest fits e. let p = held_is late x y bytes rest e in (p.0 ∙ sym p.3, subst Known p.2 known, subst Holds p.2 (forth p.1), p.3);
  again = λ y rest follows k holds. rw (follows, back (subst Holds (sym (only y k holds)) holds), ← only y k holds) refl;
}

-- ---- the webs of a function

abbrev FitsNext : List (List ℕ) → List Web → List Web → Web × Role → Type 0
FitsNext names seen own w = FitsWeb names (seen ++ own) own w.0

webs_spell : (names : List (List ℕ)) → IsNameTable names → (seen : List Web) (count : ℕ) → Spells (flat_map (web names)) (λ ws. (length ws ≡ count) × FitInTurn (FitsNext names seen) next_web [] ws) (webs_at names seen count)
webs_spell names table seen count = items_spell (web names) (FitsNext names seen) (λ own. web_at names (seen ++ own) own) next_web (λ own. web_spells names table (seen ++ own) own) count []

-- the rules of a function's webs: own are those before the list, which is the rest of the function's
pub record FitWebs (names : List (List ℕ)) (seen own ws : List Web) : Type 0 where
  pub ids : AllByRecursion (λ w. FitsU32 w.id) ws
  pub named : AllByRecursion (λ w. Contains names w.global) ws
  pub each : AllByRecursion IsWeb ws
  pub numbers : EachTwo (λ a b. a.id < b.id) (own ++ ws)
  pub globals : EachTwo (λ a b. a.global ≢ b.global) (own ++ ws)
  pub registers : EachTwo (λ a b. a.reg ≢ b.reg) (own ++ ws)
  pub agree : EachTwo Agree (seen ++ (own ++ ws))

-- what is known of the webs before
record KnownWebs (seen own : List Web) : Type 0 where
  numbers : EachTwo (λ a b. a.id < b.id) own
  globals : EachTwo (λ a b. a.global ≢ b.global) own
  registers : EachTwo (λ a b. a.reg ≢ b.reg) own
  agree : EachTwo Agree (seen ++ own)

known_more : (names : List (List ℕ)) (seen own : List Web) (w : Web) → KnownWebs seen own → FitsWeb names (seen ++ own) own w → KnownWebs seen (own ++ w ∷ [])
known_more names seen own w known fits = record {
  numbers = two_push (λ a b. a.id < b.id) own w known.numbers fits.above;
  globals = two_push (λ a b. a.global ≢ b.global) own w known.globals fits.global;
  registers = two_push (λ a b. a.reg ≢ b.reg) own w known.registers fits.register;
  agree = subst (EachTwo Agree) (append_assoc seen own (w ∷ [])) (two_push Agree (seen ++ own) w known.agree (agree_all (seen ++ own) w known.agree fits.first));
}

webs_forth : (names : List (List ℕ)) (seen own : List Web) (ws : List (Web × Role)) → KnownWebs seen own → FitInTurn (FitsNext names seen) next_web own ws → FitWebs names seen own (map (λ w. w.0) ws)
webs_forth names seen own [] known fit = record {
  ids = tt;
  named = tt;
  each = tt;
  numbers = subst (EachTwo (λ a b. a.id < b.id)) (sym (append-nil own)) known.numbers;
  globals = subst (EachTwo (λ a b. a.global ≢ b.global)) (sym (append-nil own)) known.globals;
  registers = subst (EachTwo (λ a b. a.reg ≢ b.reg)) (sym (append-nil own)) known.registers;
  agree = subst (λ (s : List Web). EachTwo Agree (seen ++ s)) (sym (append-nil own)) known.agree;
}
webs_forth names seen own (w ∷ ws) known fit =
    let later = webs_forth names seen (own ++ w.0 ∷ []) ws (known_more names seen own w.0 known fit.0) fit.1 in
    let join = append_assoc own (w.0 ∷ []) (map (λ v. v.0) ws) in
    record {
      ids = (fit.0.id, later.ids);
      named = (fit.0.named, later.named);
      each = (fit.0.is, later.each);
      numbers = subst (EachTwo (λ a b. a.id < b.id)) join later.numbers;
      globals = subst (EachTwo (λ a b. a.global ≢ b.global)) join later.globals;
      registers = subst (EachTwo (λ a b. a.reg ≢ b.reg)) join later.registers;
      agree = subst (λ (s : List Web). EachTwo Agree (seen ++ s)) join later.agree;
    }

webs_back : (names : List (List ℕ)) (seen own : List Web) (ws : List (Web × Role)) → FitWebs names seen own (map (λ w. w.0) ws) → FitInTurn (FitsNext names seen) next_web own ws
webs_back names seen own [] fit = tt
webs_back names seen own (w ∷ ws) fit =
    let rest = map (λ v. v.0) ws in
    let join = sym (append_assoc own (w.0 ∷ []) rest) in
    let numbers = subst (EachTwo (λ a b. a.id < b.id)) join fit.numbers in
    let globals = subst (EachTwo (λ a b. a.global ≢ b.global)) join fit.globals in
    let registers = subst (EachTwo (λ a b. a.reg ≢ b.reg)) join fit.registers in
    let agree = subst (λ (s : List Web). EachTwo Agree (seen ++ s)) join fit.agree in
    let to_here = two_front Agree (seen ++ (own ++ w.0 ∷ [])) rest (subst (EachTwo Agree) (sym (append_assoc seen (own ++ w.0 ∷ []) rest)) agree) in
    let before = two_last Agree (seen ++ own) w.0 (subst (EachTwo Agree) (sym (append_assoc seen own (w.0 ∷ []))) to_here) in (
      record {
        id = fit.ids.0;
        above = two_last (λ a b. a.id < b.id) own w.0 (two_front (λ a b. a.id < b.id) (own ++ w.0 ∷ []) rest numbers);
        named = fit.named.0;
        global = two_last (λ a b. a.global ≢ b.global) own w.0 (two_front (λ a b. a.global ≢ b.global) (own ++ w.0 ∷ []) rest globals);
        register = two_last (λ a b. a.reg ≢ b.reg) own w.0 (two_front (λ a b. a.reg ≢ b.reg) (own ++ w.0 ∷ []) rest registers);
        is = fit.each.0;
        first = first_same (seen ++ own) w.0 before;
      },
      webs_back names seen (own ++ w.0 ∷ []) ws (record { ids = fit.ids.1; named = fit.named.1; each = fit.each.1; numbers = numbers; globals = globals; registers = registers; agree = agree }),
    )

-- ---- functions

abbrev FunctionSteps : ℕ → List (List ℕ) → Before → List ℕ × Directives → Type 0
FunctionSteps version names before f = FitsBehind (λ name. name) (FitsName names Allowed) before.name f.0 × (FitsU32 (length f.1.webs) × (FitInTurn (FitsNext names before.webs) next_web [] f.1.webs × (FitsSharing version (f.1.free, f.1.saves) × Unit {0})))

function_steps : (version : ℕ) (names : List (List ℕ)) → IsNameTable names → (before : Before) → Spells (function version names) (FunctionSteps version names before) (function_at version names before)
unfolding function_at counted
function_steps version names table before = format (function version names) (FunctionSteps version names before) (λ f. name_index names f.0 ++ (u32 (length f.1.webs) ++ (flat_map (web names) f.1.webs ++ (sharing version (f.1.free, f.1.saves) ++ [])))) (FunctionSteps version names before) _
    (step _ _ (name_index names) (FitsBehind (λ name. name) (FitsName names Allowed) before.name) (name_above_at names Allowed before.name) _ _ _ (λ f. f.0) (name_above_spells names table Allowed before.name)
    (λ name name_fits. step _ _ u32 FitsU32 u32_at _ _ _ (λ f. length f.1.webs) u32_spells
    (λ count count_fits. step_where _ _ (flat_map (web names)) (λ ws. (length ws ≡ count) × FitInTurn (FitsNext names before.webs) next_web [] ws) (webs_at names before.webs count) _ (λ f. FitInTurn (FitsNext names before.webs) next_web [] f.1.webs) _ _ (λ f. f.1.webs)
    (webs_spell names table before.webs count)
    (λ f k h. h.1) (λ f k h. (k.1, h))
    (λ webs webs_fit. step _ _ (sharing version) (FitsSharing version) (sharing_at version) _ _ _ (λ f. (f.1.free, f.1.saves)) (sharing_spells version)
    (λ shared shared_fit. finish _ (name, record { webs = webs; free = shared.0; saves = shared.1 }) ((((tt, refl), webs_fit.0), refl), refl) (λ f k. sym (λ j. (k.0.0.0.1 j, record { webs = k.0.1 j; free = (k.1 j).0; saves = (k.1 j).1 }))))))))
    (λ f. ap (λ (w : List ℕ). name_index names f.0 ++ w) (sym (append_assoc (u32 (length f.1.webs)) (flat_map (web names) f.1.webs) (sharing version (f.1.free, f.1.saves) ++ []))))
    (λ f h. h) (λ f h. h)

-- the rules of functions behind others
pub record FitFunctions (version : ℕ) (names : List (List ℕ)) (before : Before) (fs : List (List ℕ × Directives)) : Type 0 where
  pub order : IsRisingBehind before.name (map (λ f. f.0) fs)
  pub directives : AllByRecursion (λ f. IsDirectives f.1) fs
  pub unshared : version ≡ first_version → AllByRecursion (λ f. IsUnshared f.1) fs
  pub fits : AllByRecursion FitsFunction fs
  pub agree : EachTwo Agree (before.webs ++ all_webs fs)
  pub named : AllUsed (names_of fs) names

webs_used : (names : List (List ℕ)) (ws : List Web) → AllByRecursion (λ w. Contains names w.global) ws → AllUsed (map (λ w. w.global) ws) names
webs_used names [] all = tt
webs_used names (w ∷ ws) all = (all.0, webs_used names ws all.1)

used_webs : (names : List (List ℕ)) (ws : List Web) → AllUsed (map (λ w. w.global) ws) names → AllByRecursion (λ w. Contains names w.global) ws
used_webs names [] used = tt
used_webs names (w ∷ ws) used = (used.0, used_webs names ws used.1)

functions_forth : (version : ℕ) (names : List (List ℕ)) (before : Before) (fs : List (List ℕ × Directives)) → EachTwo Agree before.webs → FitInTurn (FunctionSteps version names) next_function before fs → FitFunctions version names before fs
functions_forth version names before [] known fit = record { order = tt; directives = tt; unshared = λ is. tt; fits = tt; agree = subst (EachTwo Agree) (sym (append-nil before.webs)) known; named = tt }
functions_forth version names before (f ∷ fs) known fit =
    let h = fit.0 in
    let shared = h.1.1.1.0 in
    let webs = webs_forth names before.webs [] f.1.webs (record { numbers = tt; globals = tt; registers = tt; agree = subst (EachTwo Agree) (sym (append-nil before.webs)) known }) h.1.1.0 in
    let later = functions_forth version names (next_function before f) fs webs.agree fit.1 in
    let cons = flat_map-cons (λ (g : List ℕ × Directives). webs_of g.1) f fs in
    let name_cons = flat_map-cons names_of_function f fs in
    record {
      order = (above_forth before.name f.0 h.0.1, later.order);
      directives = (record { each = webs.each; numbers = webs.numbers; globals = webs.globals; registers = webs.registers; free = shared.1.0.0; saves = shared.1.1.0; apart = shared.1.1.1 }, later.directives);
      unshared = λ is. (record { free = (shared.0 is).0; saves = (shared.0 is).1 }, later.unshared is);
      fits = (record { count = h.1.0; numbers = webs.ids }, later.fits);
      agree = subst (λ (ws : List Web). EachTwo Agree (before.webs ++ ws)) (sym cons) (subst (EachTwo Agree) (append_assoc before.webs (webs_of f.1) (all_webs fs)) later.agree);
      named = subst (λ (ns : List (List ℕ)). AllUsed ns names) (sym name_cons) (used_append (names_of_function f) (names_of fs) names (h.0.0.0, webs_used names (webs_of f.1) webs.named) later.named);
    }

-- nothing stands in the empty list
all_apart : (rs : List ℕ) → AllByRecursion (λ r. ¬ Contains [] r) rs
all_apart [] = tt
all_apart (r ∷ rs) = ((λ c. has_by r [] c), all_apart rs)

functions_back : (version : ℕ) (names : List (List ℕ)) (before : Before) (fs : List (List ℕ × Directives)) → FitFunctions version names before fs → FitInTurn (FunctionSteps version names) next_function before fs
functions_back version names before [] fit = tt
functions_back version names before (f ∷ fs) fit =
    let cons = flat_map-cons (λ (g : List ℕ × Directives). webs_of g.1) f fs in
    let name_cons = flat_map-cons names_of_function f fs in
    let agree = subst (EachTwo Agree) (sym (append_assoc before.webs (webs_of f.1) (all_webs fs))) (subst (λ (ws : List Web). EachTwo Agree (before.webs ++ ws)) cons fit.agree) in
    let named = subst (λ (ns : List (List ℕ)). AllUsed ns names) name_cons fit.named in
    let here = used_front (names_of_function f) (names_of fs) names named in
    let is = fit.directives.0 in (
      (
        ((here.0, refl), above_back before.name f.0 fit.order.0),
        (
          fit.fits.0.count,
          (
            webs_back names before.webs [] f.1.webs (record { ids = fit.fits.0.numbers; named = used_webs names (webs_of f.1) here.1; each = is.each; numbers = is.numbers; globals = is.globals; registers = is.registers; agree = two_front Agree (before.webs ++ webs_of f.1) (all_webs fs) agree }),
            (((λ e. let none = (fit.unshared e).0 in (none.free, none.saves)), ((is.free, all_apart f.1.free), (is.saves, is.apart))), tt),
          ),
        ),
      ),
      functions_back version names (next_function before f) fs (record { order = fit.order.1; directives = fit.directives.1; unshared = λ e. (fit.unshared e).1; fits = fit.fits.1; agree = agree; named = used_back (names_of_function f) (names_of fs) names named }),
    )

abbrev ListSteps : ℕ → List (List ℕ) → List (List ℕ × Directives) → Type 0
ListSteps version names fs = FitsU32 (length fs) × FitInTurn (FunctionSteps version names) next_function nothing_before fs

functions_spell : (version : ℕ) (names : List (List ℕ)) → IsNameTable names → Spells (counted (function version names)) (ListSteps version names) (functions_at version names)
unfolding functions_at counted
functions_spell version names table = format (counted (function version names)) (ListSteps version names) (λ fs. u32 (length fs) ++ (flat_map (function version names) fs ++ [])) (λ fs. FitsU32 (length fs) × (FitInTurn (FunctionSteps version names) next_function nothing_before fs × Unit {0})) _
    (step _ _ u32 FitsU32 u32_at _ _ _ length u32_spells
    (λ n fits. step_where _ _ (flat_map (function version names)) (λ fs. (length fs ≡ n) × FitInTurn (FunctionSteps version names) next_function nothing_before fs) (items_at (function_at version names) next_function n nothing_before) _ (λ fs. FitInTurn (FunctionSteps version names) next_function nothing_before fs) _ _ (λ fs. fs)
    (items_spell (function version names) (FunctionSteps version names) (function_at version names) next_function (function_steps version names table) n nothing_before)
    (λ fs k h. h.1) (λ fs k h. (k.1, h))
    (λ fs h. finish _ fs ((tt, h.0), refl) (λ other k. sym k.1))))
    (λ fs. ap (λ (w : List ℕ). u32 (length fs) ++ w) (append-nil (flat_map (function version names) fs)))
    (λ fs h. (h.0, h.1.0)) (λ fs h. (h.0, (h.1, tt)))

-- ---- the payload

abbrev Functions : Type 0
Functions = List (List ℕ × Directives)

abbrev body : ℕ → List (List ℕ) → Database → List ℕ
body version names db = counted (function version names) db.functions ++ []

-- its version is the file's, and it uses all names
abbrev Ends : ℕ → List (List ℕ) → Database → Type 0
Ends version names db = (db.version ≡ version) × AllUsed names (names_in db)

abbrev Steps : ℕ → List (List ℕ) → Database → Type 0
Steps version names db = ListSteps version names db.functions × Ends version names db

fields_steps : (version : ℕ) (names : List (List ℕ)) → IsNameTable names → (behind : ℕ) → Completes {X = Contents Database} Nothing (λ c. Unit {0} × (c.names ≡ names)) (λ c. body version names c.value) (λ c. Steps version names c.value) (fields_at version names (unused_rule names behind))
unfolding fields_at
fields_steps version names table behind = keep_place _ _ _ _ _
    (λ count. step _ _ (counted (function version names)) (ListSteps version names) (functions_at version names) _ _ _ (λ c. c.value.functions) (functions_spell version names table)
    (λ functions fit. finish_held _ (λ c. Ends version names c.value) (first_unused names (names_of functions) behind) (record { names = names; value = of_version version functions }) ((tt, refl), refl)
    (λ c k h. sym (λ j. record { names = k.0.1 j; value = record { version = h.0 j; functions = k.1 j } }))
    (λ e. (refl, all_used names (names_of functions) behind e)) (λ h. none_unused names (names_of functions) behind h.1)))

contents_forth : (version : ℕ) → first_version ≤ version → version ≤ database_version → (c : Contents Database) → IsNameTable c.names × Steps version c.names c.value → IsDatabaseContents version c
contents_forth version low high c h =
    let fit = functions_forth version c.names nothing_before c.value.functions tt h.1.0.1 in
    let is = h.1.1.0 in
    record {
      version_is = is;
      contents = record {
        lawful = record {
          not_below = subst (λ (n : ℕ). first_version ≤ n) (sym is) low;
          not_above = subst (λ (n : ℕ). n ≤ database_version) (sym is) high;
          functions = record { functions = fit.order; directives = fit.directives; agree = fit.agree };
          unshared = λ first. fit.unshared (sym is ∙ first);
        };
        fits = record { count = h.1.0.0; each = fit.fits };
        name_count = h.0.count;
        names = table_of_used c.names (names_in c.value) h.0 h.1.1.1 fit.named;
      };
    }

contents_back : (version : ℕ) (c : Contents Database) → IsDatabaseContents version c → IsNameTable c.names × Steps version c.names c.value
contents_back version c holds =
    let is = holds.contents in
    let both = used_by_table c.names (names_in c.value) is.names in (
      record { count = is.name_count; rising = is.names.rising },
      (
        (
          is.fits.count,
          functions_back version c.names nothing_before c.value.functions
              (record { order = is.lawful.functions.functions; directives = is.lawful.functions.directives; unshared = λ first. is.lawful.unshared (holds.version_is ∙ first); fits = is.fits.each; agree = is.lawful.functions.agree; named = both.1 }),
        ),
        (holds.version_is, both.0),
      ),
    )

pub contents_spells : (version : ℕ) → first_version ≤ version → version ≤ database_version → SpellsWhole (spelling version) (IsDatabaseContents version) (contents_at (fields_at version) unused_rule)
contents_spells version low high =
    contents_spell (fields_at version) unused_rule (spelling version) (body version) (Steps version) (IsDatabaseContents version) (fields_steps version) (λ c. refl) (contents_forth version low high) (contents_back version)

-- ---- the file

pub found_by : (bytes : List ℕ) (r : Result Database FileError) → AreBytes bytes → GivesFile (λ db. db) r (value_of (database_file_at bytes)) → IfOk r (IsDatabaseFile bytes)
found_by bytes r fits given = files.found_by kind first_version database_version fields_at unused_rule spelling IsDatabaseContents contents_spells bytes r fits given

pub only_by : (bytes : List ℕ) (r : Result Database FileError) → GivesFile (λ db. db) r (value_of (database_file_at bytes)) → (db : Database) → IsDatabaseFile bytes db → GivesFile (λ db. db) r (Ok db)
only_by bytes r given db is = files.only_by kind first_version database_version fields_at unused_rule spelling IsDatabaseContents contents_spells (lit< tt) (lit< tt) bytes r given db is

-- the same of its functions alone
pub functions_by : (r : Result Database FileError) (found : Result Database ℕ) → GivesFile (λ db. db) r found → GivesFile (λ db. db.functions) r (functions_in found)
functions_by (Ok db) found given = ap functions_in given
functions_by (Err e) found given = fails e found given
  where
    fails : (e : FileError) (found : Result Database ℕ) → FailsFile e found → FailsFile e (functions_in found)
    fails file.NoMemory found h = tt
    fails (file.FileFault at) found h = ap functions_in h

pub lawful_by : (bytes : List ℕ) (r : Result Database FileError) → IfOk r (IsDatabaseFile bytes) → IfOk r (λ db. IsDatabase db.functions)
lawful_by bytes (Ok db) is = is.1.fits.contents.lawful.functions
lawful_by bytes (Err e) is = tt

pub versioned_by : (bytes : List ℕ) (r : Result Database FileError) → IfOk r (IsDatabaseFile bytes) → IfOk r (λ db. IsVersioned db)
versioned_by bytes (Ok db) is = is.1.fits.contents.lawful
versioned_by bytes (Err e) is = tt

-- ---- the payload alone

abbrev pub alone : List ℕ → Result Database ℕ
alone bytes = value_of (placed (length bytes) (payload_at bytes))

payload_spells : SpellsWhole (spelling database_version) (IsDatabaseContents database_version) payload_at
payload_spells = contents_spells database_version (omega arith) (omega arith)

whole_by : (end : ℕ) (r : Result (Contents Database × List ℕ) ℕ) (db : Database) → value_of (placed end r) ≡ Ok db → (c : Contents Database) × (rest : List ℕ) × (r ≡ Ok (c, rest)) × (c.value ≡ db)
whole_by end (Ok x) db e = (x.0, x.1, refl, cc)
whole_by end (Err left) db e = absurd cc

newest_is : (db : Database) → db.version ≡ database_version → db ≡ newest db.functions
newest_is db e = λ i. record { version = e i; functions = db.functions }

payload_found : (bytes : List ℕ) (db : Database) → AreBytes bytes → alone bytes ≡ Ok db → IsPayload bytes db.functions × (db ≡ newest db.functions)
payload_found bytes db fits e =
    let p = whole_by (length bytes) (payload_at bytes) db e in
    let t = payload_spells.takes bytes p.0 p.1 fits p.2 in
    let whole : IsContentsOf (spelling database_version) (IsDatabaseContents database_version) bytes db = subst (IsContentsOf (spelling database_version) (IsDatabaseContents database_version) bytes) p.3 (p.0.names, t.1, t.0) in
    let last : db ≡ newest db.functions = newest_is db (whole.1.version_is) in
    (subst (IsContentsOf (spelling database_version) (IsDatabaseContents database_version) bytes) last whole, last)

pub payload_again : (bytes : List ℕ) (fs : Functions) → IsPayload bytes fs → alone bytes ≡ Ok (newest fs)
payload_again bytes fs is =
    let read = ap payload_at is.2 ∙ payload_spells.again (record { names = is.0; value = newest fs }) is.1 in
    ap (λ r. value_of (placed (length bytes) r)) read

abbrev got : Database → Result Database ℕ
got db = Ok db

abbrev value : Functions → Result Functions ℕ
value fs = Ok fs

-- what a reader gives
given_is : (bytes : List ℕ) (r : Result Database FileError) (db : Database) → GivesFile (λ db. db) r (alone bytes) → r ≡ Ok db → alone bytes ≡ Ok db
given_is bytes r db given is = subst (λ (s : Result Database FileError). GivesFile (λ db. db) s (alone bytes)) is given

pub payload_read : (bytes : List ℕ) (r : Result Database FileError) (db : Database) (fs : Functions) → AreBytes bytes → GivesFile (λ db. db) r (alone bytes) → r ≡ Ok db → fs ≡ db.functions → IsPayload bytes fs
payload_read bytes r db fs fits given is same = subst (IsPayload bytes) (sym same) (payload_found bytes db fits (given_is bytes r db given is)).0

pub payload_exact : (bytes : List ℕ) (r : Result Database FileError) (db : Database) (fs : Functions) → AreBytes bytes → GivesFile (λ db. db) r (alone bytes) → r ≡ Ok db → fs ≡ db.functions → alone bytes ≡ Ok (newest fs)
payload_exact bytes r db fs fits given is same =
    given_is bytes r db given is ∙ ap got ((payload_found bytes db fits (given_is bytes r db given is)).1 ∙ ap newest (sym same))

-- the functions of what was found
abbrev value_in : Result Database ℕ → Result Functions ℕ
value_in (Ok db) = Ok db.functions
value_in (Err at) = Err at

pub payload_only : (bytes : List ℕ) (r : Result Functions FileError) → GivesFile newest r (alone bytes) → (fs : Functions) → IsPayload bytes fs → GivesFile (λ fs. fs) r (Ok fs)
payload_only bytes (Ok gs) given fs is = ap value_in (sym (payload_again bytes fs is) ∙ given)
payload_only bytes (Err e) given fs is = fails e (alone bytes) given (payload_again bytes fs is)
  where
    fails : (e : FileError) (found : Result Database ℕ) → FailsFile e found → found ≡ Ok (newest fs) → FailsFile e (value fs)
    fails file.NoMemory found h same = tt
    fails (file.FileFault at) found h same = absurd cc

-- ---- one for each, and each for one

pub one_database : (bytes : List ℕ) (one other : Database) → IsDatabaseFile bytes one → IsDatabaseFile bytes other → one ≡ other
one_database = files.one_value kind first_version database_version fields_at unused_rule spelling IsDatabaseContents contents_spells (lit< tt) (lit< tt)

-- the version of a file is that of its database
known_version : IsVersionKnown first_version database_version IsDatabaseContents
known_version m n c d m_from m_to n_from n_to one two same = sym one.version_is ∙ ap (λ (db : Database). db.version) same ∙ two.version_is

pub one_file : (bytes others : List ℕ) (db : Database) → IsDatabaseFile bytes db → IsDatabaseFile others db → bytes ≡ others
one_file = files.one_file kind first_version database_version spelling IsDatabaseContents names_in known_version (λ n c is. is.contents.names)

pub one_new_file : (bytes others : List ℕ) (fs : Functions) → IsNewFile bytes fs → IsNewFile others fs → bytes ≡ others
one_new_file bytes others fs p q = one_file bytes others (newest fs) p q

pub one_list : (bytes : List ℕ) (fs gs : Functions) → IsPayload bytes fs → IsPayload bytes gs → fs ≡ gs
one_list bytes fs gs p q = let both : got (newest fs) ≡ got (newest gs) = sym (payload_again bytes fs p) ∙ payload_again bytes gs q in cc

pub one_payload : (bytes others : List ℕ) (fs : Functions) → IsPayload bytes fs → IsPayload others fs → bytes ≡ others
one_payload bytes others fs p q =
    let names : p.0 ≡ q.0 = one_table p.0 q.0 (names_of fs) p.1.contents.names q.1.contents.names in
    p.2 ∙ ap (λ (ns : List (List ℕ)). spelling database_version (record { names = ns; value = newest fs })) names ∙ sym q.2

pub one_stored_payload : (fs s t : Functions) (bytes others : List ℕ) → IsStored fs s → IsStored fs t → IsPayload bytes s → IsPayload others t → bytes ≡ others
one_stored_payload fs s t bytes others one two written again = one_payload bytes others t (subst (IsPayload bytes) (one_stored fs s t one two) written) again
