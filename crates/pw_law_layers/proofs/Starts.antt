-- The lowered graphs of a program have the function that calls `main`, and implement the program.
use Rattle.std.specs.Prelude.{ℕ, ◌≡◌, ◌≢◌, ◌≤◌, Bool, true, false, if◌then◌else◌, List, [], ◌∷◌, ◌++◌, map, Contains}
use Rattle.std.specs.List.{flat_map, AllByRecursion}
use Rattle.std.specs.Str.{bytes_eq}
use Rattle.std.proofs.Common.{arith, subst, sym, ap, refl, inl, inr, ◌∙◌}
use Rattle.std.proofs.lemmas.List.Elements.{All-contains, All-from_recursion, Contains-append_left, Contains-append_right, Contains-append_cases, Contains-push_cases}
use Rattle.std.proofs.lemmas.List.Concat.{flat_map-cons}
use Rattle.pw_value.specs.ProgramNames.{start_name, main_name}
use Rattle.pw_types.specs.TypedTrees.{Symbol, External, Internal, Hidden, FunctionValue, ModuleValue}
use Rattle.pw_types.specs.Rooms.{room_of, start_room}
use Rattle.pw_types.specs.TypedModules.{WellTyped, IsFunction as IsSourceFunction}
use Rattle.pw_flow.specs.declared.flow.FlowFn.{FlowFn}
use Rattle.pw_flow.specs.declared.flow.FlowModule.{FlowModule}
use Rattle.pw_flow.specs.ValidFlow.{IsValid}
use Rattle.pw_flow.specs.FlowGraph.{function_names}
use Rattle.pw_flow.specs.FrameRooms.{flow_room}
use Rattle.pw_lower.specs.Modules.{lowered, lowered_function, start_of, start_function, is_main}
use Rattle.pw_cmean.specs.Worlds.{ProgramModule, full_name}
use Rattle.pw_run_languages.specs.FlowRun.{flow_run}
use Rattle.pw_law_lower.specs.Parts.{partless}
use Rattle.pw_law_source.specs.Source.{source_progress}
use Rattle.pw_law_source.specs.Lowering.{MomentKept, flow_program}
use Rattle.pw_law_layers.specs.Whole.{roomless, LoweredHaveRooms, LoweredImplements}
use Rattle.pw_law_layers.proofs.Frames.{nowhere, first_there, map_there}
use Rattle.pw_law_layers.proofs.Roomless.{accepted_stays, kept_with_room, met_so}

-- ---- elements

-- what of a list another is made of
record Made {X Y : Type 0} (h : X → Y) (xs : List X) (y : Y) : Type 0 where
  from : X
  there : Contains xs from
  is : h from ≡ y

made : {X Y : Type 0} (h : X → Y) (xs : List X) (y : Y) → Contains (map h xs) y → Made h xs y
made h [] y c = absurd (nowhere y c)
made h (x ∷ xs) y c = elim (Contains-append_cases (h x ∷ []) (map h xs) y c) [
  | inl first ↦ elim (Contains-push_cases [] (h x) y first) [
    | inl none ↦ absurd (nowhere y none)
    | inr e ↦ record { from = x; there = first_there x xs; is = e }
  ]
  | inr later ↦ let k = made h xs y later in
      record { from = k.from; there = Contains-append_right (x ∷ []) xs k.from k.there; is = k.is }
]

-- the module in which a function stands
record Home (ms : List FlowModule) (f : FlowFn) : Type 0 where
  home : FlowModule
  there : Contains ms home
  within : Contains home.functions f

home_of : (ms : List FlowModule) (f : FlowFn) → Contains (flat_map (λ m. m.functions) ms) f → Home ms f
home_of [] f c = absurd (nowhere f c)
home_of (m ∷ ms) f c = elim (Contains-append_cases m.functions (flat_map (λ m. m.functions) ms) f (subst (λ l. Contains l f) (flat_map-cons (λ m. m.functions) m ms) c)) [
  | inl here ↦ record { home = m; there = first_there m ms; within = here }
  | inr later ↦ let k = home_of ms f later in
      record { home = k.home; there = Contains-append_right (m ∷ []) ms k.home k.there; within = k.within }
]

in_all : (ms : List FlowModule) (m : FlowModule) (f : FlowFn) → Contains ms m → Contains m.functions f → Contains (flat_map (λ m. m.functions) ms) f
in_all [] m f c h = absurd (nowhere m c)
in_all (n ∷ ns) m f c h = subst (λ l. Contains l f) (sym (flat_map-cons (λ m. m.functions) n ns))
    (elim (Contains-append_cases (n ∷ []) ns m c) [
      | inl first ↦ elim (Contains-push_cases [] n m first) [
        | inl none ↦ absurd (nowhere m none)
        | inr e ↦ Contains-append_left n.functions (flat_map (λ m. m.functions) ns) f (subst (λ m. Contains m.functions f) (sym e) h)
      ]
      | inr later ↦ Contains-append_right n.functions (flat_map (λ m. m.functions) ns) f (in_all ns m f later h)
    ])

pub lowered_name : (name : List ℕ) (m : ModuleValue) (f : FunctionValue) → (lowered_function name m.records f).name ≡ full_name name f.name
unfolding lowered_function
lowered_name name m f = refl

-- ---- where a function `main` is, the function that calls it is too

colon : (home rest : List ℕ) → home ++ 58 ∷ rest ≡ main_name → ⊥
colon home rest e =
    All-contains (λ c. c ≢ 58) main_name 58
    (All-from_recursion (λ c. c ≢ 58) main_name ((λ e. omega (arith, e)), ((λ e. omega (arith, e)), ((λ e. omega (arith, e)), ((λ e. omega (arith, e)), tt)))))
    (subst (λ name. Contains name 58) e (Contains-append_right home (58 ∷ rest) 58 (first_there 58 rest))) refl

is_main_symbol : (home : List ℕ) (s : Symbol) → full_name home s ≡ main_name → is_main s ≡ true
is_main_symbol home (External x) e = subst (λ x. bytes_eq x main_name ≡ true) (sym e) refl
is_main_symbol home (Internal x) e = absurd (colon home x e)
is_main_symbol home (Hidden k) e = absurd (colon home _ e)

chosen_or : (b : Bool) (l : List FlowFn) → Contains l start_function → Contains (if b then start_function ∷ [] else l) start_function
chosen_or true l c = first_there start_function []
chosen_or false l c = c

beside_main : (fs : List FunctionValue) (g : FunctionValue) → Contains fs g → is_main g.name ≡ true → Contains (start_of fs) start_function
beside_main [] g c e = absurd (nowhere g c)
beside_main (f ∷ fs) g c e = elim (Contains-append_cases (f ∷ []) fs g c) [
  | inl first ↦ elim (Contains-push_cases [] f g first) [
    | inl none ↦ absurd (nowhere g none)
    | inr same ↦ subst (λ b. Contains (if b then start_function ∷ [] else start_of fs) start_function)
        (sym (subst (λ g. is_main g.name ≡ true) (sym same) e)) (first_there start_function [])
  ]
  | inr later ↦ chosen_or (is_main f.name) (start_of fs) (beside_main fs g later e)
]

or_alone : (b : Bool) (l : List FlowFn) (f : FlowFn) → (Contains l f → Contains l start_function)
    → Contains (if b then start_function ∷ [] else l) f → Contains (if b then start_function ∷ [] else l) start_function
or_alone true l f h c = first_there start_function []
or_alone false l f h c = h c

start_alone : (fs : List FunctionValue) (f : FlowFn) → Contains (start_of fs) f → Contains (start_of fs) start_function
start_alone [] f c = absurd (nowhere f c)
start_alone (g ∷ fs) f c = or_alone (is_main g.name) (start_of fs) f (start_alone fs f) c

main_starts : (name : List ℕ) (m : ModuleValue)
    → Contains (map (λ f. f.name) (map (lowered_function name m.records) m.functions ++ start_of m.functions)) main_name
    → Contains (start_of m.functions) start_function
main_starts name m c =
    let main = made (λ (f : FlowFn). f.name) (map (lowered_function name m.records) m.functions ++ start_of m.functions) main_name c in
    elim (Contains-append_cases (map (lowered_function name m.records) m.functions) (start_of m.functions) main.from main.there) [
      | inl own ↦
          let source = made (lowered_function name m.records) m.functions main.from own in
          let named : full_name name source.from.name ≡ main_name = sym (lowered_name name m source.from) ∙ (ap (λ (f : FlowFn). f.name) source.is ∙ main.is) in
          beside_main m.functions source.from source.there (is_main_symbol name source.from.name named)
      | inr later ↦ start_alone m.functions main.from later
    ]

starts_in : (m : ProgramModule) → IsValid (lowered m.name m.tree) → Contains (function_names (lowered m.name m.tree)) start_name
    → Contains (lowered m.name m.tree).functions start_function
unfolding lowered
starts_in m valid c =
    Contains-append_right (map (lowered_function m.name m.tree.records) m.tree.functions) (start_of m.tree.functions) start_function
    (main_starts m.name m.tree (valid.names.start.beside.0 c))

-- among the functions of modules that are made of typed trees
pub starts : (ms : List ProgramModule) → AllByRecursion IsValid (map (λ m. lowered m.name m.tree) ms)
    → Contains (map (λ f. f.name) (flat_map (λ m. m.functions) (map (λ m. lowered m.name m.tree) ms))) start_name
    → Contains (flat_map (λ m. m.functions) (map (λ m. lowered m.name m.tree) ms)) start_function
starts ms valid c =
    let flows = map (λ m. lowered m.name m.tree) ms in
    let f = made (λ (f : FlowFn). f.name) (flat_map (λ m. m.functions) flows) start_name c in
    let h = home_of flows f.from f.there in
    let m = made (λ (m : ProgramModule). lowered m.name m.tree) ms h.home h.there in
    let lawful : IsValid (lowered m.from.name m.from.tree) =
    subst IsValid (sym m.is) (All-contains IsValid flows h.home (All-from_recursion IsValid flows valid) h.there) in
    let named : Contains (function_names (lowered m.from.name m.from.tree)) start_name =
    subst (λ k. Contains (function_names k) start_name) (sym m.is)
    (subst (Contains (function_names h.home)) f.is (map_there (λ (f : FlowFn). f.name) h.home.functions f.from h.within)) in
    in_all flows (lowered m.from.name m.from.tree) start_function
    (map_there (λ (m : ProgramModule). lowered m.name m.tree) ms m.from m.there) (starts_in m.from lawful named)

-- ---- the lowered graphs have rooms, and implement the program

in_module : (name : List ℕ) (m : ModuleValue) (f : FunctionValue) → Contains m.functions f
    → Contains (lowered name m).functions (lowered_function name m.records f)
unfolding lowered
in_module name m f c =
    Contains-append_left (map (lowered_function name m.records) m.functions) (start_of m.functions) (lowered_function name m.records f)
    (map_there (lowered_function name m.records) m.functions f c)

-- by the laws on the rooms of flow graphs
pub lowered_rooms : ((home : List ℕ) (m : ModuleValue) (f : FunctionValue) → IsSourceFunction m f → partless f.body ≡ 0
    → flow_room (lowered_function home m.records f) ≤ room_of m.records f)
    → flow_room start_function ≤ start_room → LoweredHaveRooms
lowered_rooms rooms least p frame_of stack parts accepted =
    let program = accepted.program in
    record {
      functions = λ m f c h.
          let g = lowered_function m.name m.tree.records f in
          let flows = map (λ m. lowered m.name m.tree) p.modules in
          let typed = All-contains (λ m. WellTyped m.tree) p.modules m accepted.typed.modules c in
          record {
            function = g;
            there = in_all flows (lowered m.name m.tree) g (map_there (λ (m : ProgramModule). lowered m.name m.tree) p.modules m c) (in_module m.name m.tree f h);
            named = lowered_name m.name m.tree f;
            fits = rooms m.name m.tree f (All-contains (IsSourceFunction m.tree) m.tree.functions f typed.functions h) (parts m f c h);
          };
      start = record {
        function = start_function;
        there = starts p.modules program.modules program.start;
        named = refl;
        fits = least;
      };
    }

pub lowered_implements : LoweredHaveRooms → LoweredImplements
lowered_implements rooms low p frame_of stack checked parts accepted = record {
  program = accepted.program;
  runs = λ input none bytes. low p frame_of stack input checked accepted none bytes;
  progress = λ input bytes n.
      met_so (MomentKept (roomless (flow_program p frame_of stack))) (MomentKept (flow_program p frame_of stack)) (kept_with_room (flow_program p frame_of stack))
      (source_progress p (λ f. 0) 0 input n) (flow_run (roomless (flow_program p frame_of stack)) input)
      (low p (λ f. 0) 0 input checked (accepted_stays p frame_of stack accepted) (λ name there. refl) bytes n);
  rooms = rooms p frame_of stack parts accepted;
}
