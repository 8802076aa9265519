-- A function of an accepted program whose address one of its modules takes is defined by the module, or declared by it as
-- a function.
use Rattle.std.proofs.Common.{◌≡◌, ◌≢◌, ◌⊎◌, ℕ, Bool, true, false, if◌then◌else◌, List, [], ◌∷◌, map, refl, sym, ap, subst, ◌∙◌, arith, inl, inr}
use Rattle.std.specs.Prelude.{Option, Some, None}
use Rattle.std.specs.List.{flat_map}
use Rattle.std.specs.Option.{option_or}
use Rattle.std.specs.Str.{bytes_eq}
use Rattle.std.proofs.lemmas.Slice.Eq.{bytes_eq-Decides}
use Rattle.std.proofs.lemmas.List.Elements.{recursion_from_All}
use Rattle.pw_value.specs.Shapes.{Agree, Begins}
use Rattle.pw_value.specs.ProgramNames.{start_name, library_functions}
use Rattle.pw_types.specs.declared.kind.IntKind.TheVariants as K
use Rattle.pw_types.specs.TypeTrees.{CType, Int, QType, Qualified, type_of, RecordValue}
use Rattle.pw_types.specs.Shapes.{letter_of, letters_of, shape_of}
use Rattle.pw_types.specs.FullNames.{full_name}
use Rattle.pw_types.specs.TypedTrees.{Symbol, External, Internal, Hidden, FunctionValue, GlobalValue, DeclaredValue, ModuleValue}
use Rattle.pw_types.specs.TypedModules.{WellTyped, IsFunction, IsName}
use Rattle.pw_types.specs.WellTyped.{IsFunctionOf}
use Rattle.pw_flow.specs.declared.flow.FlowGlobal.{FlowGlobal}
use Rattle.pw_flow.specs.declared.flow.FlowFn.{FlowFn}
use Rattle.pw_flow.specs.declared.flow.FlowModule.{FlowModule}
use Rattle.pw_run_languages.specs.Programs as flows
use Rattle.pw_run_languages.specs.Programs.{names_of, globals_of}
use Rattle.pw_lower.specs.Modules.{lowered_function, start_function, start_of, lowered_global, lowered_declared, lowered}
use Rattle.pw_cmean.specs.Worlds.{Program, ProgramModule, Callable, callable, library, function_named}
use Rattle.pw_cmean.specs.Worlds as source
use Rattle.pw_cmean.specs.Typed.{IsWellTyped}
use Rattle.pw_files.proofs.Standing.{Has, has_by, contains_by, has_each, has_left, has_right, has_split, has_map, has_map_back, has_flat, has_flat_back}
use Rattle.pw_summarise.specs.Summarises.{shape_in, if_function, function_shape, function_entry, function_entries}
use Rattle.pw_law_source.specs.Lowering.{flow_program, IsAccepted}
use Rattle.pw_law_analysis.proofs.Taking.{start_only}
use Rattle.pw_law_analysis.proofs.Lists.{clash, found, finds, across}

-- ---- shapes of functions begin with f

abbrev IsFunctionShape : List ℕ → Type 0
IsFunctionShape shape = Begins 102 shape

abbrev first : List ℕ → ℕ
first [] = 0
first (x ∷ xs) = x

other_begins : (n : ℕ) (text rest more : List ℕ) → text ≡ n ∷ rest → text ≡ 102 ∷ more → n ≢ 102 → ⊥
other_begins n text rest more e d differ = differ (ap first (sym e ∙ d))

agrees : (s t : List ℕ) → Agree s t → IsFunctionShape t → IsFunctionShape s
agrees s t (inl e) b = (b.0, e ∙ b.1)
agrees s t (inr (inl g)) b = absurd (other_begins 91 t g.1 b.0 g.2.1 b.1 (λ e. omega (arith, e)))
agrees s t (inr (inr g)) b = absurd (other_begins 91 t (93 ∷ g.0) b.0 g.2.0 b.1 (λ e. omega (arith, e)))

typed_module : (p : Program) → IsWellTyped p → (m : ProgramModule) → Has m p.modules → WellTyped m.tree
typed_module p typed m h = has_each (λ (m : ProgramModule). WellTyped m.tree) p.modules m (recursion_from_All (λ (m : ProgramModule). WellTyped m.tree) p.modules typed.modules) h

callable_shape : (m : ProgramModule) (f : FunctionValue) → IsFunction m.tree f → IsFunctionShape (callable m f).shape
callable_shape m f is = subst (λ (ty : CType). IsFunctionShape (shape_of m.tree.records ty false)) (sym is.typed.type_is) (letter_of (type_of is.typed.result) ∷ letters_of is.typed.params, refl)

callable_begins : (p : Program) → IsWellTyped p → (c : Callable) → Has c (source.functions_of p) → IsFunctionShape c.shape
callable_begins p typed c h = elim (has_split c library (flat_map (λ (m : ProgramModule). map (callable m) m.tree.functions) p.modules) h) [
  | inl k ↦ of_library k
  | inr k ↦
      let q = has_flat_back (λ (m : ProgramModule). map (callable m) m.tree.functions) c p.modules k in
      let r = has_map_back (callable q.0) c q.0.tree.functions q.2 in
      let typed_one = typed_module p typed q.0 q.1 in
      let is = has_each (IsFunction q.0.tree) q.0.tree.functions r.0 (recursion_from_All (IsFunction q.0.tree) q.0.tree.functions typed_one.functions) r.1 in
      subst (λ (c : Callable). IsFunctionShape c.shape) r.2 (callable_shape q.0 r.0 is)
]
  where
    of_library : Has c library → IsFunctionShape c.shape
    of_library (inl e) = subst (λ (c : Callable). IsFunctionShape c.shape) e (118 ∷ 105 ∷ [], refl)
    of_library (inr (inl e)) = subst (λ (c : Callable). IsFunctionShape c.shape) e (105 ∷ [], refl)
    of_library (inr (inr (inl e))) = subst (λ (c : Callable). IsFunctionShape c.shape) e (105 ∷ 105 ∷ [], refl)
    of_library (inr (inr (inr k))) = absurd k

-- ---- the functions of a flow graph and of its tree

of_tree : (home : List ℕ) (m : ModuleValue) (f : FlowFn) → Has f (lowered home m).functions → ((g : FunctionValue) × Has g m.functions × (lowered_function home m.records g ≡ f)) ⊎ (start_function ≡ f)
unfolding lowered
of_tree home m f h = elim (has_split f (map (lowered_function home m.records) m.functions) (start_of m.functions) h) [
  | inl k ↦ inl (has_map_back (lowered_function home m.records) f m.functions k)
  | inr k ↦ inr (start_only m.functions f k)
]

to_tree : (home : List ℕ) (m : ModuleValue) (g : FunctionValue) → Has g m.functions → Has (lowered_function home m.records g) (lowered home m).functions
unfolding lowered
to_tree home m g h = has_left (lowered_function home m.records g) (map (lowered_function home m.records) m.functions) (start_of m.functions) (has_map (lowered_function home m.records) g m.functions h)

full : (home : List ℕ) (records : List RecordValue) (g : FunctionValue) → (lowered_function home records g).name ≡ full_name home g.name
unfolding lowered_function
full home records g = refl

-- ---- the function of a name, as the meaning of C has it

by_name : (p : Program) (name : List ℕ) (c : Callable) → Has c (source.functions_of p) → c.name ≡ name → (d : Callable) × (function_named p name ≡ Some d)
by_name p name c h e = finds (λ (f : Callable). bytes_eq f.name name) (source.functions_of p) c h ((bytes_eq-Decides c.name name).1 e)

named_there : (p : Program) (name : List ℕ) (c : Callable) → function_named p name ≡ Some c → Has c (source.functions_of p)
named_there p name c e = (found (λ (f : Callable). bytes_eq f.name name) (source.functions_of p) c e).0

library_called : (name : List ℕ) → Has name library_functions → (c : Callable) × Has c library × (c.name ≡ name)
library_called name (inl e) = (_, inl refl, e)
library_called name (inr (inl e)) = (_, inr (inl refl), e)
library_called name (inr (inr (inl e))) = (_, inr (inr (inl refl)), e)
library_called name (inr (inr (inr k))) = absurd k

module _ (p : Program) (frame_of : List ℕ → ℕ) (stack : ℕ) where
  named_callable : (name : List ℕ) → Has name (names_of (flow_program p frame_of stack)) → name ≢ start_name → (c : Callable) × (function_named p name ≡ Some c)
  named_callable name h ordinary =
      let q = flow_program p frame_of stack in
      let rest = flat_map (λ (m : ProgramModule). map (callable m) m.tree.functions) p.modules in
      elim (has_split name library_functions (map (λ (f : FlowFn). f.name) (flows.functions_of q)) h) [
        | inl k ↦ let c = library_called name k in by_name p name c.0 (has_left c.0 library rest c.1) c.2
        | inr k ↦
            let f = has_map_back (λ (f : FlowFn). f.name) name (flows.functions_of q) k in
            let m = has_flat_back (λ (m : FlowModule). m.functions) f.0 q.modules f.1 in
            let s = has_map_back (λ (m : ProgramModule). lowered m.name m.tree) m.0 p.modules m.1 in
            let there : Has f.0 (lowered s.0.name s.0.tree).functions = subst (λ (x : FlowModule). Has f.0 x.functions) (sym s.2) m.2 in
            elim (of_tree s.0.name s.0.tree f.0 there) [
              | inl g ↦
                  by_name p name (callable s.0 g.0)
                  (has_right (callable s.0 g.0) library rest (has_flat (λ (m : ProgramModule). map (callable m) m.tree.functions) s.0 (callable s.0 g.0) p.modules s.1 (has_map (callable s.0) g.0 s.0.tree.functions g.1)))
                  (sym (full s.0.name s.0.tree.records g.0) ∙ ap (λ (x : FlowFn). x.name) g.2 ∙ f.2)
              | inr e ↦ absurd (ordinary (sym f.2 ∙ sym (ap (λ (x : FlowFn). x.name) e)))
            ]
      ]

-- ---- shapes by name

shape_by : (b : Bool) (f : List ℕ × List ℕ) (fs : List (List ℕ × List ℕ)) (name : List ℕ) → bytes_eq f.0 name ≡ b → Has name (f.0 ∷ map (λ f. f.0) fs)
    → (Has name (map (λ f. f.0) fs) → (s : List ℕ) × (shape_in fs name ≡ Some s) × Has (name, s) fs)
    → (s : List ℕ) × ((if b then Some f.1 else shape_in fs name) ≡ Some s) × Has (name, s) (f ∷ fs)
shape_by true f fs name e h rest = (f.1, refl, inl (ap (λ (n : List ℕ). (n, f.1)) ((bytes_eq-Decides f.0 name).0 e)))
shape_by false f fs name e (inl same) rest = absurd (clash (bytes_eq f.0 name) ((bytes_eq-Decides f.0 name).1 same) e)
shape_by false f fs name e (inr k) rest = let r = rest k in (r.0, r.1, inr r.2)

pub shape_there : (fs : List (List ℕ × List ℕ)) (name : List ℕ) → Has name (map (λ f. f.0) fs) → (s : List ℕ) × (shape_in fs name ≡ Some s) × Has (name, s) fs
shape_there [] name h = absurd h
shape_there (f ∷ fs) name h = shape_by (bytes_eq f.0 name) f fs name refl h (shape_there fs name)

-- a function that is defined, or declared as one
abbrev pub IsShaped : FlowModule → List ℕ → Type 0
IsShaped m name = (s : List ℕ) × (function_shape (function_entries m) m.declared name ≡ Some s)

defined_shaped : (functions declared : List (List ℕ × List ℕ)) (name : List ℕ) → Has name (map (λ f. f.0) functions) → (s : List ℕ) × (function_shape functions declared name ≡ Some s)
defined_shaped functions declared name h =
    let r = shape_there functions name h in
    (r.0, ap (λ (o : Option (List ℕ)). option_or o (if_function (shape_in declared name))) r.1)

or_some : (o : Option (List ℕ)) (s : List ℕ) → (t : List ℕ) × (option_or o (Some s) ≡ Some t)
or_some None s = (s, refl)
or_some (Some t) s = (t, refl)

if_some : (s : List ℕ) → IsFunctionShape s → if_function (Some s) ≡ Some s
if_some s b = subst (λ (t : List ℕ). if_function (Some t) ≡ Some t) (sym b.1) refl

declared_shaped : (functions declared : List (List ℕ × List ℕ)) (name s : List ℕ) → shape_in declared name ≡ Some s → IsFunctionShape s → (t : List ℕ) × (function_shape functions declared name ≡ Some t)
declared_shaped functions declared name s e b =
    let r = or_some (shape_in functions name) s in
    (r.0, ap (λ (o : Option (List ℕ)). option_or (shape_in functions name) o) (ap if_function e ∙ if_some s b) ∙ r.1)

-- ---- symbols

is_internal : (s : Symbol) (x : List ℕ) → (s ≡ Internal x) ⊎ (s ≡ Internal x → ⊥)
is_internal (External y) x = inr (λ e. absurd cc)
is_internal (Hidden k) x = inr (λ e. absurd cc)
is_internal (Internal y) x = internal_by (bytes_eq y x) refl
  where
    internal_by : (b : Bool) → bytes_eq y x ≡ b → (Internal y ≡ Internal x) ⊎ (Internal y ≡ Internal x → ⊥)
    internal_by true e = inl (ap Internal ((bytes_eq-Decides y x).0 e))
    internal_by false e = inr (λ same. let inner : y ≡ x = cc in clash (bytes_eq y x) ((bytes_eq-Decides y x).1 inner) e)

internal_or_not : (fs : List FunctionValue) (x : List ℕ) → ((f : FunctionValue) × Has f fs × (f.name ≡ Internal x)) ⊎ ((f : FunctionValue) → Has f fs → f.name ≡ Internal x → ⊥)
internal_or_not [] x = inr (λ f h e. h)
internal_or_not (g ∷ fs) x = elim (is_internal g.name x) [
  | inl e ↦ inl (g, inl refl, e)
  | inr other ↦ elim (internal_or_not fs x) [
    | inl r ↦ inl (r.0, inr r.1, r.2)
    | inr none ↦ inr (λ f h e. elim h [ inl same ↦ other (ap (λ (f : FunctionValue). f.name) same ∙ e) | inr k ↦ none f k e ])
  ]
]

-- what the module's tree says of a symbol whose address is taken
abbrev pub IsSaid : ModuleValue → Symbol → Type 0
IsSaid m s = IsName m s ⊎ ((y : QType) × IsFunctionOf m s y)

-- an external name is declared
is_declared : (m : ModuleValue) (x : List ℕ) → IsSaid m (External x) → (d : DeclaredValue) × Has d m.declared × (d.name ≡ x)
is_declared m x (inl n) = (n.0, has_by n.0 m.declared n.1, n.2)
is_declared m x (inr f) = let i = f.1 in (i.entry, has_by i.entry m.declared i.there, i.name_is)

declared_has : (home : List ℕ) (m : ModuleValue) (d : DeclaredValue) → Has d m.declared → Has d.name (map (λ e. e.0) (lowered home m).declared)
unfolding lowered
declared_has home m d h = has_map (λ (e : List ℕ × List ℕ). e.0) (lowered_declared m.records d) (map (lowered_declared m.records) m.declared) (has_map (lowered_declared m.records) d m.declared h)

declared_back : (home : List ℕ) (m : ModuleValue) (e : List ℕ × List ℕ) → Has e (lowered home m).declared → (d : DeclaredValue) × Has d m.declared × (lowered_declared m.records d ≡ e)
unfolding lowered
declared_back home m e h = has_map_back (lowered_declared m.records) e m.declared h

function_there : (home : List ℕ) (m : ModuleValue) (g : FunctionValue) → Has g m.functions → Has (full_name home g.name) (map (λ f. f.0) (function_entries (lowered home m)))
function_there home m g h =
    let f = lowered_function home m.records g in
    subst (λ (name : List ℕ). Has name (map (λ f. f.0) (function_entries (lowered home m)))) (full home m.records g)
    (has_map (λ (e : List ℕ × List ℕ). e.0) (function_entry f) (function_entries (lowered home m)) (has_map function_entry f (lowered home m).functions (to_tree home m g h)))

global_name : (home : List ℕ) (m : ModuleValue) (g : GlobalValue) → Has g m.globals → Has (full_name home g.name) (map (λ (v : FlowGlobal). v.name) (lowered home m).globals)
unfolding lowered
global_name home m g h = has_map (λ (v : FlowGlobal). v.name) (lowered_global home m.records g) (map (lowered_global home m.records) m.globals) (has_map (lowered_global home m.records) g m.globals h)

module _ (p : Program) (frame_of : List ℕ → ℕ) (stack : ℕ) (accepted : IsAccepted p frame_of stack) (m : ProgramModule) (there : Has m p.modules) where
  module_there : Has (lowered m.name m.tree) (flow_program p frame_of stack).modules
  module_there = has_map (λ (m : ProgramModule). lowered m.name m.tree) m p.modules there

  -- what is declared under the name of a function of the program has a function's shape
  declared_begins : (x s : List ℕ) (c : Callable) → function_named p x ≡ Some c → IsFunctionShape c.shape → Has (x, s) (lowered m.name m.tree).declared → IsFunctionShape s
  declared_begins x s c e b h =
      let d = declared_back m.name m.tree (x, s) h in
      let name : d.0.name ≡ x = ap (λ (e : List ℕ × List ℕ). e.0) d.2 in
      let agree = accepted.typed.functions m (contains_by m p.modules there) (External x) d.0.ty c (record { entry = d.0; there = contains_by d.0 m.tree.declared d.1; name_is = name; agrees = inl refl }) e in
      subst IsFunctionShape (ap (λ (e : List ℕ × List ℕ). e.1) d.2) (agrees _ c.shape agree b)

  -- a name that the module alone has, if it is a function of the program, is one of the module's
  internal_shaped : (x : List ℕ) (c : Callable) → function_named p (full_name m.name (Internal x)) ≡ Some c → IsFunctionShape c.shape → IsShaped (lowered m.name m.tree) (full_name m.name (Internal x))
  internal_shaped x c e b = elim (internal_or_not m.tree.functions x) [
    | inl f ↦
        let h = function_there m.name m.tree f.0 f.1 in
        defined_shaped (function_entries (lowered m.name m.tree)) (lowered m.name m.tree).declared (full_name m.name (Internal x))
        (subst (λ (s : Symbol). Has (full_name m.name s) (map (λ f. f.0) (function_entries (lowered m.name m.tree)))) f.2 h)
    | inr none ↦
        let ty : QType = Qualified (Int K.Int) false false in
        let agree = accepted.typed.functions m (contains_by m p.modules there) (Internal x) ty c (λ f k same. absurd (none f (has_by f m.tree.functions k) same)) e in
        let r = agrees (105 ∷ []) c.shape agree b in
        absurd (other_begins 105 (105 ∷ []) [] r.0 refl r.1 (λ d. omega (arith, d)))
  ]

  pub shaped : (s : Symbol) → IsSaid m.tree s → Has (full_name m.name s) (names_of (flow_program p frame_of stack)) → full_name m.name s ≢ start_name → IsShaped (lowered m.name m.tree) (full_name m.name s)
  shaped (External x) said h ordinary =
      let c = named_callable p frame_of stack x h ordinary in
      let b = callable_begins p accepted.typed c.0 (named_there p x c.0 c.1) in
      let d = is_declared m.tree x said in
      let there : Has x (map (λ e. e.0) (lowered m.name m.tree).declared) = subst (λ (n : List ℕ). Has n (map (λ e. e.0) (lowered m.name m.tree).declared)) d.2 (declared_has m.name m.tree d.0 d.1) in
      let s = shape_there (lowered m.name m.tree).declared x there in
      declared_shaped (function_entries (lowered m.name m.tree)) (lowered m.name m.tree).declared x s.0 s.1 (declared_begins x s.0 c.0 c.1 b s.2)
  shaped (Internal x) said h ordinary =
      let c = named_callable p frame_of stack (full_name m.name (Internal x)) h ordinary in
      internal_shaped x c.0 c.1 (callable_begins p accepted.typed c.0 (named_there p (full_name m.name (Internal x)) c.0 c.1))
  shaped (Hidden k) (inl n) h ordinary =
      let q = flow_program p frame_of stack in
      let name = full_name m.name (Hidden k) in
      let v : Has name (map (λ (v : FlowGlobal). v.name) (lowered m.name m.tree).globals) = subst (λ (s : Symbol). Has (full_name m.name s) (map (λ (v : FlowGlobal). v.name) (lowered m.name m.tree).globals)) n.2 (global_name m.name m.tree n.0 (has_by n.0 m.tree.globals n.1)) in
      let g = has_map_back (λ (v : FlowGlobal). v.name) name (lowered m.name m.tree).globals v in
      let all : Has g.0 (globals_of q) = has_flat (λ (m : FlowModule). m.globals) (lowered m.name m.tree) g.0 q.modules module_there g.1 in
      absurd (across (names_of q) (map (λ (v : FlowGlobal). v.name) (globals_of q)) accepted.program.names name h
      (subst (λ (n : List ℕ). Has n (map (λ (v : FlowGlobal). v.name) (globals_of q))) g.2 (has_map (λ (v : FlowGlobal). v.name) g.0 (globals_of q) all)))
  shaped (Hidden k) (inr f) h ordinary = absurd f.1
