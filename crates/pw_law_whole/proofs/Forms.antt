-- What the forms of a program's flow graphs have of these.
use Rattle.std.specs.Prelude.{ℕ, ◌≡◌, ◌≤◌, Bool, true, false, List, ◌∷◌, ◌++◌, map, Contains}
use Rattle.std.specs.List.{flat_map}
use Rattle.std.proofs.Common.{refl, sym, ap, ap₂, subst, ◌∙◌, inl, inr}
use Rattle.std.proofs.lemmas.List.{map-append}
use Rattle.std.proofs.lemmas.List.Concat.{flat_map-cons}
use Rattle.pw_value.specs.ProgramNames.{library_functions}
use Rattle.pw_files.proofs.Standing.{Has, has_by, contains_by, has_left, has_right, has_split}
use Rattle.pw_flow.specs.declared.flow.FlowFn.{FlowFn}
use Rattle.pw_flow.specs.declared.flow.FlowGlobal.{FlowGlobal}
use Rattle.pw_flow.specs.declared.flow.FlowModule.{FlowModule}
use Rattle.pw_flow.specs.FlowGraph.{names_in_global}
use Rattle.pw_flow.specs.FrameRooms.{flow_room}
use Rattle.pw_flow.specs.ValidFlow.{AreDistinct}
use Rattle.pw_summarise.specs.Summarises.{addressed, in_function, in_module, function_shape}
use Rattle.pw_link.specs.FromMilli.Library.{routines}
use Rattle.pw_run_languages.specs.Programs as flows
use Rattle.pw_run_languages.specs.Programs.{functions_of, names_of}
use Rattle.pw_run_languages.specs.FlowRun.{flow_run}
use Rattle.pw_run_languages.specs.LawfulPrograms.{IsProgram}
use Rattle.pw_run_languages.specs.LinkingLaws.{AreNamesApart}
use Rattle.pw_opt_rules.specs.Optimised.{IsOptimised, stays, steps, AreOptimised, IsOptimisedModule}
use Rattle.pw_opt_rules.specs.Optimised as optimised
use Rattle.pw_law_opt.specs.Sides.{with_modules}
use Rattle.pw_law_opt.specs.Laws.{AreOptimisedModules, none, also, addresses_in, ShowsNoMore, OptimisationKeepsRuns, OptimisationKeepsRooms, OptimisationKeepsPrograms, OptimisationShowsNoMore}
use Rattle.pw_cmean.specs.Worlds.{Program}
use Rattle.pw_law_source.specs.Source.{source_progress}
use Rattle.pw_law_source.specs.Lowering.{MomentKept}
use Rattle.pw_law_layers.specs.Whole.{HasRoom, HaveRooms, roomless, Implements}
use Rattle.pw_law_analysis.specs.SummaryLaws.{HaveShapes}
use Rattle.pw_build_objects.specs.Programs.{AreForms}
use Rattle.pw_law_whole.proofs.Refining.{kept_moments, refines_on}

-- what modules have, and their optimised forms, their forms have
pub by_forms : (P : List FlowModule → Type 0) (o : Bool) (ms forms : List FlowModule) → AreForms o ms forms → P ms → ((ns : List FlowModule) → AreOptimisedModules ms ns → P ns) → P forms
by_forms P false ms forms e own other = subst P (sym e) own
by_forms P true ms forms are own other = other forms are

-- ---- functions and globals

abbrev functions_in : List FlowModule → List FlowFn
functions_in ms = flat_map (λ m. m.functions) ms

abbrev named : List FlowFn → List (List ℕ)
named fs = map (λ f. f.name) fs

name_stays : (m : FlowModule) (f g : FlowFn) → IsOptimised m f g → g.name ≡ f.name
name_stays m f g (stays large) = refl
name_stays m f g (steps h k small r s) = ap (λ (x : FlowFn). x.name) s.is ∙ ap (λ (x : FlowFn). x.name) r.is

names_stay : (m : FlowModule) (fs gs : List FlowFn) → AreOptimised m fs gs → named gs ≡ named fs
names_stay m fs gs optimised.none = refl
names_stay m fs gs (optimised.also f g more others o rest) = ap₂ (λ (x : List ℕ) (xs : List (List ℕ)). x ∷ xs) (name_stays m f g o) (names_stay m more others rest)

all_names_stay : (ms ns : List FlowModule) → AreOptimisedModules ms ns → named (functions_in ns) ≡ named (functions_in ms)
all_names_stay ms ns none = refl
all_names_stay ms ns (also m n more others o rest) =
    ap named (flat_map-cons (λ (x : FlowModule). x.functions) n others)
    ∙ map-append (λ (f : FlowFn). f.name) n.functions (functions_in others)
    ∙ ap₂ (λ (l k : List (List ℕ)). l ++ k) (names_stay m m.functions n.functions o.functions) (all_names_stay more others rest)
    ∙ sym (map-append (λ (f : FlowFn). f.name) m.functions (functions_in more))
    ∙ sym (ap named (flat_map-cons (λ (x : FlowModule). x.functions) m more))

all_globals_stay : (ms ns : List FlowModule) → AreOptimisedModules ms ns → flat_map (λ m. m.globals) ns ≡ flat_map (λ m. m.globals) ms
all_globals_stay ms ns none = refl
all_globals_stay ms ns (also m n more others o rest) =
    flat_map-cons (λ (x : FlowModule). x.globals) n others
    ∙ ap₂ (λ (l k : List FlowGlobal). l ++ k) o.globals (all_globals_stay more others rest)
    ∙ sym (flat_map-cons (λ (x : FlowModule). x.globals) m more)

-- a function has an optimised form of the same name and the same room
abbrev Beside : List FlowFn → FlowFn → Type 0
Beside gs f = (g : FlowFn) × Has g gs × (g.name ≡ f.name) × (flow_room g ≡ flow_room f)

function_beside : OptimisationKeepsRooms → (m : FlowModule) (fs gs : List FlowFn) → AreOptimised m fs gs → (f : FlowFn) → Has f fs → Beside gs f
function_beside rooms m fs gs optimised.none f h = absurd h
function_beside rooms m fs gs (optimised.also x y xs ys o rest) f (inl e) =
    (y, inl refl, name_stays m x y o ∙ ap (λ (z : FlowFn). z.name) e, rooms m x y o ∙ ap flow_room e)
function_beside rooms m fs gs (optimised.also x y xs ys o rest) f (inr h) = let r = function_beside rooms m xs ys rest f h in (r.0, inr r.1, r.2, r.3)

one_beside : OptimisationKeepsRooms → (ms ns : List FlowModule) → AreOptimisedModules ms ns → (f : FlowFn) → Has f (functions_in ms) → Beside (functions_in ns) f
one_beside rooms ms ns none f h = absurd h
one_beside rooms ms ns (also m n more others o rest) f h =
    let all = flat_map-cons (λ (x : FlowModule). x.functions) n others in
    elim (has_split f m.functions (functions_in more) (subst (λ (fs : List FlowFn). Has f fs) (flat_map-cons (λ (x : FlowModule). x.functions) m more) h)) [
      | inl own ↦
          let r = function_beside rooms m m.functions n.functions o.functions f own in
          (r.0, subst (λ (fs : List FlowFn). Has r.0 fs) (sym all) (has_left r.0 n.functions (functions_in others) r.1), r.2, r.3)
      | inr later ↦
          let r = one_beside rooms more others rest f later in
          (r.0, subst (λ (fs : List FlowFn). Has r.0 fs) (sym all) (has_right r.0 n.functions (functions_in others) r.1), r.2, r.3)
    ]

-- ---- programs

forms_program : OptimisationKeepsPrograms → (o : Bool) (q : flows.Program) (forms : List FlowModule) → AreForms o q.modules forms → IsProgram q → IsProgram (with_modules q forms)
forms_program keeps o q forms are is = by_forms (λ ms. IsProgram (with_modules q ms)) o q.modules forms are is (λ ns optimised. keeps q ns is optimised)

forms_names : (o : Bool) (q : flows.Program) (forms : List FlowModule) → AreForms o q.modules forms → AreNamesApart q → AreNamesApart (with_modules q forms)
forms_names o q forms are apart =
    by_forms (λ ms. AreNamesApart (with_modules q ms)) o q.modules forms are apart
    (λ ns opt. subst (λ (names : List (List ℕ)). AreDistinct (map (λ r. r.0) routines ++ (names ++ map (λ (g : FlowGlobal). g.name) (flat_map (λ m. m.globals) ns)))) (sym (all_names_stay q.modules ns opt))
    (subst (λ (gs : List FlowGlobal). AreDistinct (map (λ r. r.0) routines ++ (named (functions_of q) ++ map (λ (g : FlowGlobal). g.name) gs))) (sym (all_globals_stay q.modules ns opt)) apart))

optimised_room : OptimisationKeepsRooms → (q : flows.Program) (ns : List FlowModule) → AreOptimisedModules q.modules ns → (name : List ℕ) (room : ℕ) → HasRoom q name room → HasRoom (with_modules q ns) name room
optimised_room rooms q ns are name room h =
    let r = one_beside rooms q.modules ns are h.function (has_by h.function (functions_of q) h.there) in
    record {
      function = r.0;
      there = contains_by r.0 (functions_in ns) r.1;
      named = r.2 ∙ h.named;
      fits = subst (λ (n : ℕ). n ≤ room) (sym r.3) h.fits;
    }

forms_rooms : OptimisationKeepsRooms → (o : Bool) (p : Program) (q : flows.Program) (forms : List FlowModule) → AreForms o q.modules forms → HaveRooms p q → HaveRooms p (with_modules q forms)
forms_rooms rooms o p q forms are have =
    by_forms (λ ms. HaveRooms p (with_modules q ms)) o q.modules forms are have
    (λ ns opt. record {
      functions = λ m f there within. optimised_room rooms q ns opt _ _ (have.functions m f there within);
      start = optimised_room rooms q ns opt _ _ have.start;
    })

-- ---- runs

optimised_implements : OptimisationKeepsRuns → OptimisationKeepsRooms → OptimisationKeepsPrograms → (p : Program) (q : flows.Program) (ns : List FlowModule) → AreOptimisedModules q.modules ns → Implements p q → Implements p (with_modules q ns)
optimised_implements runs rooms programs p q ns opt is = record {
  program = programs q ns is.program opt;
  runs = λ input none bytes.
      refines_on (MomentKept q) (MomentKept (with_modules q ns)) (kept_moments q (with_modules q ns) (all_globals_stay q.modules ns opt))
      (source_progress p q.frame_of q.stack input) (flow_run q input) (flow_run (with_modules q ns) input) (is.runs input none bytes) (runs q ns input is.program.modules opt);
  progress = λ input bytes.
      refines_on (MomentKept q) (MomentKept (with_modules q ns)) (kept_moments q (with_modules q ns) (all_globals_stay q.modules ns opt))
      (source_progress p (λ f. 0) 0 input) (flow_run (roomless q) input) (flow_run (roomless (with_modules q ns)) input) (is.progress input bytes) (runs (roomless q) ns input is.program.modules opt);
  rooms = forms_rooms rooms true p q ns opt is.rooms;
}

forms_implement : OptimisationKeepsRuns → OptimisationKeepsRooms → OptimisationKeepsPrograms → (o : Bool) (p : Program) (q : flows.Program) (forms : List FlowModule) → AreForms o q.modules forms → Implements p q → Implements p (with_modules q forms)
forms_implement runs rooms programs o p q forms are is =
    by_forms (λ ms. Implements p (with_modules q ms)) o q.modules forms are is (λ ns opt. optimised_implements runs rooms programs p q ns opt is)

-- ---- functions whose address is taken

module_before : (ms ns : List FlowModule) → AreOptimisedModules ms ns → (n : FlowModule) → Has n ns → (m : FlowModule) × Has m ms × IsOptimisedModule m n
module_before ms ns none n h = absurd h
module_before ms ns (also x y xs ys o rest) n (inl e) = (x, inl refl, subst (IsOptimisedModule x) e o)
module_before ms ns (also x y xs ys o rest) n (inr h) = let r = module_before xs ys rest n h in (r.0, inr r.1, r.2)

address_before : (m n : FlowModule) → IsOptimisedModule m n → ShowsNoMore m n → (name : List ℕ) → Contains (in_module addressed n) name → Contains (in_module addressed m) name
address_before m n o s name c =
    contains_by name (in_module addressed m)
    (elim (has_split name (flat_map names_in_global n.globals) (flat_map (in_function addressed) n.functions) (has_by name (in_module addressed n) c)) [
      | inl h ↦ has_left name (flat_map names_in_global m.globals) (flat_map (in_function addressed) m.functions) (subst (λ (gs : List FlowGlobal). Has name (flat_map names_in_global gs)) o.globals h)
      | inr h ↦ has_right name (flat_map names_in_global m.globals) (flat_map (in_function addressed) m.functions) (has_by name (addresses_in m) (s.addresses name (contains_by name (addresses_in n) h)))
    ])

optimised_shapes : OptimisationShowsNoMore → (q : flows.Program) (ns : List FlowModule) → AreOptimisedModules q.modules ns → HaveShapes q → HaveShapes (with_modules q ns)
optimised_shapes shows q ns opt shapes n name within address function =
    let r = module_before q.modules ns opt n (has_by n ns within) in
    let s = shows r.0 n r.2 in
    let own : Contains (names_of q) name = subst (λ (names : List (List ℕ)). Contains (library_functions ++ names) name) (all_names_stay q.modules ns opt) function in
    let shape = shapes r.0 name (contains_by r.0 q.modules r.1) (address_before r.0 n r.2 s name address) own in
    (shape.0, ap₂ (λ (entries declared : List (List ℕ × List ℕ)). function_shape entries declared name) s.entries r.2.declared ∙ shape.1)

forms_shapes : OptimisationShowsNoMore → (o : Bool) (q : flows.Program) (forms : List FlowModule) → AreForms o q.modules forms → HaveShapes q → HaveShapes (with_modules q forms)
forms_shapes shows o q forms are shapes = by_forms (λ ms. HaveShapes (with_modules q ms)) o q.modules forms are shapes (λ ns opt. optimised_shapes shows q ns opt shapes)

-- ---- together

-- the laws of optimisation on which it stands
pub record Laws : Type 0 where
  pub runs : OptimisationKeepsRuns
  pub rooms : OptimisationKeepsRooms
  pub programs : OptimisationKeepsPrograms
  pub shows : OptimisationShowsNoMore

module _ (laws : Laws) (o : Bool) (p : Program) (q : flows.Program) (forms : List FlowModule) (are : AreForms o q.modules forms) where
  pub program_of_forms : IsProgram q → IsProgram (with_modules q forms)
  program_of_forms is = forms_program laws.programs o q forms are is

  pub rooms_of_forms : HaveRooms p q → HaveRooms p (with_modules q forms)
  rooms_of_forms have = forms_rooms laws.rooms o p q forms are have

  pub names_of_forms : AreNamesApart q → AreNamesApart (with_modules q forms)
  names_of_forms apart = forms_names o q forms are apart

  pub runs_of_forms : Implements p q → Implements p (with_modules q forms)
  runs_of_forms is = forms_implement laws.runs laws.rooms laws.programs o p q forms are is

  pub shapes_of_forms : HaveShapes q → HaveShapes (with_modules q forms)
  shapes_of_forms shapes = forms_shapes laws.shows o q forms are shapes
