-- What is read is the file of a flow graph, and the file of a flow graph is read.
use Rattle.std.proofs.Common.{◌≡◌, ℕ, List, [], ◌∷◌, ◌++◌, length, map, Result, Ok, refl, sym, ap, subst, ◌∙◌}
use Rattle.std.specs.Prelude.{None, Contains}
use Rattle.std.specs.List.{flat_map, AllByRecursion}
use Rattle.std.proofs.lemmas.List.{append-nil}
use Rattle.pw_value.specs.declared.program_names.StartName.TheVariants.{Refused}
use Rattle.pw_fields.specs.Fields.{u32_at, items_at, u32, FitsU32, FitsText, FitInTurn}
use Rattle.pw_fields.specs.FieldFrame.{ended}
use Rattle.pw_fields.specs.FieldLaws.{Spells, SpellsWhole}
use Rattle.pw_fields.specs.FieldNames.{names_at, name_at, name_table, name_index, IsNameTable}
use Rattle.pw_value.specs.ProgramNames.{IsOrdinary, KeepsStart}
use Rattle.pw_fields.proofs.FieldLaws.{u32_spells, AreBytes-rest, joins, after_passes}
use Rattle.pw_fields.proofs.FieldSteps.{items_spell}
use Rattle.pw_fields.proofs.NameLaws.{names_spell, name_spells, AllUsed, table_of_used, used_by_table}
use Rattle.pw_files.specs.Names.{shaped}
use Rattle.pw_files.specs.Rising.{counted}
use Rattle.pw_files.specs.Contents.{Contents, IsContents, contents_at}
use Rattle.pw_files.proofs.ContentsLaws.{module_rules_forth, module_rules_back}
use Rattle.pw_flow.specs.declared.flow.FlowModule.{FlowModule}
use Rattle.pw_flow.specs.declared.flow.FlowGlobal.{FlowGlobal}
use Rattle.pw_flow.specs.declared.flow.FlowFn.{FlowFn}
use Rattle.pw_flow.specs.FlowGraph.{names_in_global, names_in_function, global_names, function_names, declared_names, named_in}
use Rattle.pw_flow.specs.ValidFlow.{IsGlobal, IsFunction, IsValid}
use Rattle.pw_flow.proofs.Lists.{all_flat, all_flat_back, all_both, all_first, all_second, all_append, all_left, all_right}
use Rattle.pw_flowfile.specs.FlowFile.{all_in_global, all_in_function, names_of, global, function, spelling, FitsGlobal, FitsFunction, FitsModule}
use Rattle.pw_flowfile.specs.Reading.{global_at, next_global, declared_at, next_declared, function_at, next_function, seen_after, list_at, parts_at, fields_at, late_rules}
use Rattle.pw_flow_ops.proofs.FieldChains.{Takes, takes_field, takes_here, takes_done, ended_is, again_field}
use Rattle.pw_flowfile.proofs.GraphLaws.{FunctionFits, FunctionStands, function_spells, GlobalFits, GlobalStands, global_spells, DeclaredStands, declared_spells}
use Rattle.pw_flowfile.proofs.Turns.{InTurn, turn_forth, turn_back, turn_append, turn_left, turn_right, turn_distinct, distinct_turn}

-- ---- tools

pub all_map : {X : Type 0} (P Q : X → Type 0) → ((x : X) → P x → Q x) → (xs : List X) → AllByRecursion P xs → AllByRecursion Q xs
all_map P Q f [] all = tt
all_map P Q f (x ∷ xs) all = (f x all.0, all_map P Q f xs all.1)

all_mapped : {X Y : Type 0} (f : X → Y) (P : Y → Type 0) (xs : List X) → AllByRecursion (λ x. P (f x)) xs → AllByRecursion P (map f xs)
all_mapped f P [] all = tt
all_mapped f P (x ∷ xs) all = (all.0, all_mapped f P xs all.1)

all_unmapped : {X Y : Type 0} (f : X → Y) (P : Y → Type 0) (xs : List X) → AllByRecursion P (map f xs) → AllByRecursion (λ x. P (f x)) xs
all_unmapped f P [] all = tt
all_unmapped f P (x ∷ xs) all = (all.0, all_unmapped f P xs all.1)

used_forth : (names used : List (List ℕ)) → AllByRecursion (Contains names) used → AllUsed used names
used_forth names [] all = tt
used_forth names (name ∷ used) all = (all.0, used_forth names used all.1)

used_back : (names used : List (List ℕ)) → AllUsed used names → AllByRecursion (Contains names) used
used_back names [] all = tt
used_back names (name ∷ used) all = (all.0, used_back names used all.1)

-- ---- what is known of a module whose parts were read, but for the late rules

abbrev OneGlobal : List (List ℕ) → FlowGlobal → Type 0
OneGlobal names g = Contains names g.name × GlobalFits Refused names g

abbrev OneDeclared : List (List ℕ) → List ℕ × List ℕ → Type 0
OneDeclared names d = Contains names d.0 × FitsText d.1

pub record Parts (names : List (List ℕ)) (m : FlowModule) : Type 0 where
  pub table : IsNameTable names
  pub name : Contains names m.name
  pub global_count : FitsU32 (length m.globals)
  pub globals : AllByRecursion (OneGlobal names) m.globals
  pub global_turn : InTurn [] (global_names m)
  pub declared_count : FitsU32 (length m.declared)
  pub declared : AllByRecursion (OneDeclared names) m.declared
  pub declared_turn : InTurn [] (declared_names m)
  pub function_count : FitsU32 (length m.functions)
  pub functions : AllByRecursion (FunctionFits names) m.functions
  pub function_turn : InTurn (seen_after [] (global_names m)) (function_names m)

parts_used : (names : List (List ℕ)) (m : FlowModule) → Parts names m → AllByRecursion (Contains names) (names_of m)
parts_used names m p = (
  p.name,
  all_append (Contains names) (flat_map all_in_global m.globals) (declared_names m ++ flat_map all_in_function m.functions)
      (all_flat all_in_global (Contains names) m.globals (all_map (OneGlobal names) (λ g. AllByRecursion (Contains names) (all_in_global g)) (λ g q. (q.0, all_first (Contains names) IsOrdinary (names_in_global g) q.1.1.1)) m.globals p.globals))
      (all_append (Contains names) (declared_names m) (flat_map all_in_function m.functions)
      (all_mapped (λ d. d.0) (Contains names) m.declared (all_first (λ d. Contains names d.0) (λ d. FitsText d.1) m.declared p.declared))
      (all_flat all_in_function (Contains names) m.functions (all_map (FunctionFits names) (λ f. AllByRecursion (Contains names) (all_in_function f)) (λ f q. (q.1.1.0, all_first (Contains names) IsOrdinary (names_in_function f) q.1.1.1)) m.functions p.functions))),
)

parts_ordinary : (names : List (List ℕ)) (m : FlowModule) → Parts names m → AllByRecursion IsOrdinary (named_in m)
parts_ordinary names m p = all_append IsOrdinary (flat_map names_in_global m.globals) (flat_map names_in_function m.functions)
    (all_flat names_in_global IsOrdinary m.globals (all_map (OneGlobal names) (λ g. AllByRecursion IsOrdinary (names_in_global g)) (λ g q. all_second (Contains names) IsOrdinary (names_in_global g) q.1.1.1) m.globals p.globals))
    (all_flat names_in_function IsOrdinary m.functions (all_map (FunctionFits names) (λ f. AllByRecursion IsOrdinary (names_in_function f)) (λ f q. all_second (Contains names) IsOrdinary (names_in_function f) q.1.1.1) m.functions p.functions))

abbrev pub IsRight : Contents FlowModule → Type 0
IsRight = IsContents IsValid FitsModule names_of

parts_forth : (names : List (List ℕ)) (m : FlowModule) → Parts names m → AllUsed names (names_of m) → KeepsStart (function_names m) (global_names m) → IsRight (record { names = names; value = m })
parts_forth names m p used start = record {
  lawful = record {
    parts = record {
      globals = all_map (OneGlobal names) IsGlobal (λ g q. q.1.0) m.globals p.globals;
      functions = all_map (FunctionFits names) IsFunction (λ f q. q.0) m.functions p.functions;
      ordinary = parts_ordinary names m p;
    };
    names = record {
      distinct = record {
        defined = turn_distinct (global_names m ++ function_names m) (turn_append [] (global_names m) (function_names m) p.global_turn p.function_turn);
        declared = turn_distinct (declared_names m) p.declared_turn;
      };
      start = start;
    };
  };
  fits = record {
    globals = (p.global_count, all_map (OneGlobal names) FitsGlobal (λ g q. q.1.1.0) m.globals p.globals);
    declared = (p.declared_count, all_second (λ d. Contains names d.0) (λ d. FitsText d.1) m.declared p.declared);
    functions = (p.function_count, all_map (FunctionFits names) FitsFunction (λ f q. q.1.0) m.functions p.functions);
  };
  name_count = p.table.count;
  names = table_of_used names (names_of m) p.table used (used_forth names (names_of m) (parts_used names m p));
}

parts_back : (c : Contents FlowModule) → IsRight c → Parts c.names c.value
parts_back c is =
    let names = c.names in
    let m = c.value in
    let used = used_back names (names_of m) (used_by_table names (names_of m) is.names).1 in
    let gs = all_flat_back all_in_global (Contains names) m.globals (all_left (Contains names) (flat_map all_in_global m.globals) (declared_names m ++ flat_map all_in_function m.functions) used.1) in
    let behind = all_right (Contains names) (flat_map all_in_global m.globals) (declared_names m ++ flat_map all_in_function m.functions) used.1 in
    let ds = all_unmapped (λ d. d.0) (Contains names) m.declared (all_left (Contains names) (declared_names m) (flat_map all_in_function m.functions) behind) in
    let fs = all_flat_back all_in_function (Contains names) m.functions (all_right (Contains names) (declared_names m) (flat_map all_in_function m.functions) behind) in
    let og = all_flat_back names_in_global IsOrdinary m.globals (all_left IsOrdinary (flat_map names_in_global m.globals) (flat_map names_in_function m.functions) is.lawful.parts.ordinary) in
    let of = all_flat_back names_in_function IsOrdinary m.functions (all_right IsOrdinary (flat_map names_in_global m.globals) (flat_map names_in_function m.functions) is.lawful.parts.ordinary) in
    let turn = distinct_turn (global_names m ++ function_names m) is.lawful.names.distinct.defined in
    let GS = λ (g : FlowGlobal). AllByRecursion (Contains names) (all_in_global g) in
    let GO = λ (g : FlowGlobal). AllByRecursion IsOrdinary (names_in_global g) in
    let FS = λ (f : FlowFn). AllByRecursion (Contains names) (all_in_function f) in
    let FO = λ (f : FlowFn). AllByRecursion IsOrdinary (names_in_function f) in
    record {
      table = record { count = is.name_count; rising = is.names.rising };
      name = used.0;
      global_count = is.fits.globals.0;
      globals = all_map (λ g. (IsGlobal g × FitsGlobal g) × (GS g × GO g)) (OneGlobal names) (λ g q. (q.1.0.0, (q.0.0, (q.0.1, all_both (Contains names) IsOrdinary (names_in_global g) q.1.0.1 q.1.1)))) m.globals
          (all_both (λ g. IsGlobal g × FitsGlobal g) (λ g. GS g × GO g) m.globals (all_both IsGlobal FitsGlobal m.globals is.lawful.parts.globals is.fits.globals.1) (all_both GS GO m.globals gs og));
      global_turn = turn_left [] (global_names m) (function_names m) turn;
      declared_count = is.fits.declared.0;
      declared = all_both (λ d. Contains names d.0) (λ d. FitsText d.1) m.declared ds is.fits.declared.1;
      declared_turn = distinct_turn (declared_names m) is.lawful.names.distinct.declared;
      function_count = is.fits.functions.0;
      functions = all_map (λ f. (IsFunction f × FitsFunction f) × (FS f × FO f)) (FunctionFits names) (λ f q. (q.0.0, (q.0.1, (q.1.0.0, all_both (Contains names) IsOrdinary (names_in_function f) q.1.0.1 q.1.1)))) m.functions
          (all_both (λ f. IsFunction f × FitsFunction f) (λ f. FS f × FO f) m.functions (all_both IsFunction FitsFunction m.functions is.lawful.parts.functions is.fits.functions.1) (all_both FS FO m.functions fs of));
      function_turn = turn_right [] (global_names m) (function_names m) turn;
    }

-- ---- the late rules

late_forth : (names : List (List ℕ)) (m : FlowModule) (behind place : ℕ) → late_rules names behind m place ≡ None → AllUsed names (names_of m) × KeepsStart (function_names m) (global_names m)
late_forth names m behind place e = module_rules_forth names (names_of m) behind (function_names m) (global_names m) place e

late_back : (names : List (List ℕ)) (m : FlowModule) (behind place : ℕ) → AllUsed names (names_of m) → KeepsStart (function_names m) (global_names m) → late_rules names behind m place ≡ None
late_back names m behind place used start = module_rules_back names (names_of m) behind (function_names m) (global_names m) place (used, start)

-- ---- a list behind its count

abbrev ListFits : {S X : Type 0} → (S → X → Type 0) → (S → X → S) → S → List X → Type 0
ListFits Stands next s xs = FitsU32 (length xs) × FitInTurn Stands next s xs

list_spells : {S X : Type 0} (spelling : X → List ℕ) (Stands : S → X → Type 0) (item : S → List ℕ → Result (X × List ℕ) ℕ) (next : S → X → S) → ((s : S) → Spells spelling (Stands s) (item s))
    → (s : S) → Spells (counted spelling) (ListFits Stands next s) (list_at item next s)
unfolding list_at counted
list_spells {S} {X} spelling Stands item next laws s = record {
  takes = λ bytes xs rest fits e.
      let p = after_passes (u32_at bytes) (λ count. items_at item next count s) xs rest e in
      let t = u32_spells.takes bytes p.0 p.1 fits p.2 in
      let u = (items_spell spelling Stands item next laws p.0 s).takes p.1 xs rest (AreBytes-rest bytes (u32 p.0) p.1 fits t.0) p.3 in (
        joins bytes (u32 p.0) p.1 (flat_map spelling xs) rest t.0 u.0 ∙ ap (λ n. (u32 n ++ flat_map spelling xs) ++ rest) (sym u.1.0),
        (rw u.1.0 t.1, u.1.1),
      );
  again = λ xs rest fits.
      again_field u32 FitsU32 u32_at (λ count. items_at item next count s) u32_spells (length xs) fits.0 (flat_map spelling xs) rest xs
      ((items_spell spelling Stands item next laws (length xs) s).again xs rest (refl, fits.1));
}

-- ---- the fields of a module

abbrev body : List (List ℕ) → FlowModule → List ℕ
body names m = name_index names m.name ++ (counted (global names) m.globals ++ (counted (shaped names) m.declared ++ (counted (function names) m.functions ++ [])))

abbrev IsRead : List (List ℕ) → List ℕ → List ℕ → FlowModule × ℕ → Type 0
IsRead names text rest p = (text ≡ body names p.0) × Parts names p.0

globals_spell : (names : List (List ℕ)) → IsNameTable names → Spells (counted (global names)) (ListFits (GlobalStands names) next_global []) (list_at (global_at names) next_global [])
globals_spell names table = list_spells (global names) (GlobalStands names) (global_at names) next_global (global_spells names table) []

declared_spell : (names : List (List ℕ)) → IsNameTable names → Spells (counted (shaped names)) (ListFits (DeclaredStands names) next_declared []) (list_at (declared_at names) next_declared [])
declared_spell names table = list_spells (shaped names) (DeclaredStands names) (declared_at names) next_declared (declared_spells names table) []

functions_spell : (names : List (List ℕ)) → IsNameTable names → (seen : List (List ℕ)) → Spells (counted (function names)) (ListFits (FunctionStands names) next_function seen) (list_at (function_at names) next_function seen)
functions_spell names table seen = list_spells (function names) (FunctionStands names) (function_at names) next_function (function_spells names table) seen

parts_take : (names : List (List ℕ)) → IsNameTable names → Takes (IsRead names) (parts_at names)
unfolding parts_at
parts_take names table =
    takes_field _ (name_index names) (Contains names) (name_at names) _ (name_spells names table)
    (λ name stands. takes_field _ (counted (global names)) (ListFits (GlobalStands names) next_global []) (list_at (global_at names) next_global []) _ (globals_spell names table)
    (λ globals g. takes_field _ (counted (shaped names)) (ListFits (DeclaredStands names) next_declared []) (list_at (declared_at names) next_declared []) _ (declared_spell names table)
    (λ declared d. takes_here _ _
    (λ place. takes_field _ (counted (function names)) (ListFits (FunctionStands names) next_function (seen_after [] (map (λ g. g.name) globals)))
    (list_at (function_at names) next_function (seen_after [] (map (λ g. g.name) globals))) _ (functions_spell names table (seen_after [] (map (λ g. g.name) globals)))
    (λ functions f.
    let flow : FlowModule = record { name = name; globals = globals; functions = functions; declared = declared } in
    let gt = turn_forth (λ (g : FlowGlobal). g.name) (OneGlobal names) [] globals g.1 in
    let dt = turn_forth (λ (d : List ℕ × List ℕ). d.0) (OneDeclared names) [] declared d.1 in
    let ft = turn_forth (λ (f : FlowFn). f.name) (FunctionFits names) (seen_after [] (map (λ g. g.name) globals)) functions f.1 in
    takes_done _ (flow, place)
    (λ rest. (
      refl,
      record {
        table = table;
        name = stands;
        global_count = g.0;
        globals = gt.1;
        global_turn = gt.0;
        declared_count = d.0;
        declared = dt.1;
        declared_turn = dt.0;
        function_count = f.0;
        functions = ft.1;
        function_turn = ft.0;
      },
    )))))))

parts_again : (names : List (List ℕ)) (m : FlowModule) → Parts names m → parts_at names (body names m ++ []) ≡ Ok ((m, length ((counted (function names) m.functions ++ []) ++ [])), [])
unfolding parts_at
parts_again names m p =
    let seen = seen_after [] (global_names m) in
    let x : FlowModule × ℕ = (m, length ((counted (function names) m.functions ++ []) ++ [])) in
    let ft = counted (function names) m.functions ++ [] in
    let dt = counted (shaped names) m.declared ++ ft in
    again_field (name_index names) (Contains names) (name_at names) _ (name_spells names p.table) m.name p.name (counted (global names) m.globals ++ dt) [] x
    (again_field (counted (global names)) (ListFits (GlobalStands names) next_global []) (list_at (global_at names) next_global []) _ (globals_spell names p.table) m.globals
    (p.global_count, turn_back (λ (g : FlowGlobal). g.name) (OneGlobal names) [] m.globals p.global_turn p.globals) dt [] x
    (again_field (counted (shaped names)) (ListFits (DeclaredStands names) next_declared []) (list_at (declared_at names) next_declared []) _ (declared_spell names p.table) m.declared
    (p.declared_count, turn_back (λ (d : List ℕ × List ℕ). d.0) (OneDeclared names) [] m.declared p.declared_turn p.declared) ft [] x
    (again_field (counted (function names)) (ListFits (FunctionStands names) next_function seen) (list_at (function_at names) next_function seen) _ (functions_spell names p.table seen) m.functions
    (p.function_count, turn_back (λ (f : FlowFn). f.name) (FunctionFits names) seen m.functions p.function_turn p.functions) [] [] x refl)))

-- ---- the payload

abbrev AreRead : List ℕ → List ℕ → Contents FlowModule → Type 0
AreRead text rest c = (text ≡ spelling c) × (IsRight c × (rest ≡ []))

fields_take : (names : List (List ℕ)) → IsNameTable names → (behind : ℕ) → Takes (λ text rest c. AreRead (name_table names ++ text) rest c) (fields_at names (late_rules names behind))
unfolding fields_at
fields_take names table behind = record {
  run = λ bytes c rest fits e.
      let p = after_passes (parts_at names bytes) (λ q. ended (late_rules names behind q.0 q.1) (record { names = names; value = q.0 })) c rest e in
      let t = (parts_take names table).run bytes p.0 p.1 fits p.2 in
      let z = ended_is (late_rules names behind p.0.0 p.0.1) (record { names = names; value = p.0.0 }) c p.1 rest p.3 in
      let late = late_forth names p.0.0 behind p.0.1 z.1 in (
        t.0,
        t.1 ∙ ap (λ (w : List ℕ). t.0 ++ w) (z.0 ∙ sym z.3),
        subst (λ (x : Contents FlowModule). AreRead (name_table names ++ t.0) rest x) z.2
            (ap (λ (w : List ℕ). name_table names ++ w) t.2.0, (parts_forth names p.0.0 t.2.1 late.0 late.1, z.3)),
      );
}

contents_take : Takes AreRead (contents_at fields_at late_rules)
unfolding contents_at
contents_take = takes_field _ name_table IsNameTable names_at _ names_spell (λ names table. takes_here _ _ (λ behind. fields_take names table behind))

fields_again : (c : Contents FlowModule) → IsRight c → (behind : ℕ) → fields_at c.names (late_rules c.names behind) (body c.names c.value ++ []) ≡ Ok (c, [])
unfolding fields_at
fields_again c is behind =
    let p = parts_back c is in
    rw (
      parts_again c.names c.value p,
      late_back c.names c.value behind (length ((counted (function c.names) c.value.functions ++ []) ++ [])) (used_by_table c.names (names_of c.value) is.names).0 is.lawful.names.start,
    ) refl

contents_again : (c : Contents FlowModule) → IsRight c → contents_at fields_at late_rules (spelling c ++ []) ≡ Ok (c, [])
unfolding contents_at
contents_again c is =
    again_field name_table IsNameTable names_at _ names_spell c.names (parts_back c is).table (body c.names c.value) [] c (fields_again c is _)

pub payload_spells : SpellsWhole spelling IsRight (contents_at fields_at late_rules)
payload_spells = record {
  takes = λ bytes c rest fits e.
      let t = contents_take.run bytes c rest fits e in
      (t.1 ∙ ap (λ (w : List ℕ). t.0 ++ w) t.2.1.1 ∙ append-nil t.0 ∙ t.2.0, t.2.1.0);
  again = λ c is. ap (contents_at fields_at late_rules) (sym (append-nil (spelling c))) ∙ contents_again c is;
}
