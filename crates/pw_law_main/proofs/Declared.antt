-- A flow graph of the first phase declares the `main` that it defines.
use Rattle.std.proofs.Common.{◌≡◌, ◌⊎◌, ℕ, Bool, true, false, if◌then◌else◌, List, [], ◌∷◌, ◌++◌, map, refl, sym, ap, subst, ◌∙◌, arith, inl, inr}
use Rattle.std.specs.Prelude.{All, ◌↔◌, Ok, Err, Result, decimal}
use Rattle.std.proofs.lemmas.List.Elements.{All-contains}
use Rattle.pw_value.specs.Shapes.{Agree, Begins}
use Rattle.pw_value.specs.ProgramNames.{main_name}
use Rattle.pw_flow.specs.declared.flow.FlowFn.{FlowFn}
use Rattle.pw_flow.specs.declared.flow.FlowModule.{FlowModule}
use Rattle.pw_files.proofs.Standing.{Has, has_by, contains_by, has_right, has_split, has_map, has_map_back}
use Rattle.pw_tree.specs.Trees.{Module}
use Rattle.pw_types.specs.TypeTrees.{CType, QType, type_of, is_volatile, RecordValue}
use Rattle.pw_types.specs.Shapes.{letter_of, letters_of, shape_of}
use Rattle.pw_types.specs.FullNames.{full_name}
use Rattle.pw_types.specs.TypedTrees.{Symbol, External, Internal, Hidden, FunctionValue, ModuleValue}
use Rattle.pw_types.specs.TypedModules.{IsFunctionTyped, IsDeclaredIfExternal}
use Rattle.pw_types.specs.WellTyped.{IsDeclared}
use Rattle.pw_check_rules.specs.Checks.{Checks, checked}
use Rattle.pw_lower.specs.Modules.{is_main, lowered_function, start_function, start_of, lowered_declared, lowered}
use Rattle.pw_front_end.specs.Fronts.{front_end_of}
use Rattle.pw_front_end.specs.declared.refusal.Refusal.{Refusal}
use Rattle.pw_front_end.specs.declared.refusal.Refusal.TheVariants.{Check}
use Rattle.pw_check_walk.specs.declared.constraints.CheckFault.{CheckFault}
use Rattle.pw_phase_one.specs.FirstPhase.{by_checking, by_front_end, compiled}
use Rattle.pw_law_shown.specs.Alike.{DeclaresMain}

-- ---- names

colon_in_main : Has 58 main_name → ⊥
colon_in_main (inl e) = omega (arith, e)
colon_in_main (inr (inl e)) = omega (arith, e)
colon_in_main (inr (inr (inl e))) = omega (arith, e)
colon_in_main (inr (inr (inr (inl e)))) = omega (arith, e)
colon_in_main (inr (inr (inr (inr h)))) = h

no_colon : (home x : List ℕ) → home ++ 58 ∷ x ≡ main_name → ⊥
no_colon home x e = colon_in_main (subst (λ (text : List ℕ). Has 58 text) e (has_right 58 home (58 ∷ x) (inl refl)))

main_external : (home : List ℕ) (s : Symbol) → full_name home s ≡ main_name → s ≡ External main_name
main_external home (External x) e = ap External e
main_external home (Internal x) e = absurd (no_colon home x e)
main_external home (Hidden k) e = absurd (no_colon home (46 ∷ decimal k) e)

first : List ℕ → ℕ
first [] = 0
first (x ∷ xs) = x

start_is_other : start_function.name ≡ main_name → ⊥
unfolding first
start_is_other e = let d : 36 ≡ 109 = ap first e in omega (arith, d)

-- ---- shapes of functions agree where they are one

head_is : (n : ℕ) (text rest more : List ℕ) → text ≡ n ∷ rest → text ≡ 102 ∷ more → n ≡ 102
unfolding first
head_is n text rest more e d = ap first (sym e ∙ d)

function_agrees : (s t : List ℕ) → Begins 102 t → Agree s t → s ≡ t
function_agrees s t b (inl e) = e
function_agrees s t b (inr (inl g)) = let e : 91 ≡ 102 = head_is 91 t g.1 b.0 g.2.1 b.1 in absurd (omega (arith, e))
function_agrees s t b (inr (inr g)) = let e : 91 ≡ 102 = head_is 91 t (93 ∷ g.0) b.0 g.2.0 b.1 in absurd (omega (arith, e))

function_begins : (m : ModuleValue) (f : FunctionValue) → IsFunctionTyped m f → Begins 102 (shape_of m.records (type_of f.ty) (is_volatile f.ty))
function_begins m f is = subst (λ (ty : CType). Begins 102 (shape_of m.records ty (is_volatile f.ty))) (sym is.type_is) (letter_of (type_of is.result) ∷ letters_of is.params, refl)

-- ---- the functions of a lowered module

start_by : (f : FunctionValue) (fs : List FunctionValue) (g : FlowFn) (b : Bool) → Has g (if b then start_function ∷ [] else start_of fs) → (Has g (start_of fs) → start_function ≡ g) → start_function ≡ g
start_by f fs g true (inl e) later = e
start_by f fs g true (inr h) later = absurd h
start_by f fs g false h later = later h

start_only : (fs : List FunctionValue) (g : FlowFn) → Has g (start_of fs) → start_function ≡ g
start_only [] g h = absurd h
start_only (f ∷ fs) g h = start_by f fs g (is_main f.name) h (start_only fs g)

of_tree : (home : List ℕ) (m : ModuleValue) (f : FlowFn) → Has f (lowered home m).functions → ((g : FunctionValue) × Has g m.functions × (lowered_function home m.records g ≡ f)) ⊎ (start_function ≡ f)
unfolding lowered
of_tree home m f h = elim (has_split f (map (lowered_function home m.records) m.functions) (start_of m.functions) h) [
  | inl k ↦ inl (has_map_back (lowered_function home m.records) f m.functions k)
  | inr k ↦ inr (start_only m.functions f k)
]

name_is : (home : List ℕ) (records : List RecordValue) (g : FunctionValue) → (lowered_function home records g).name ≡ full_name home g.name
unfolding lowered_function
name_is home records g = refl

shape_is : (home : List ℕ) (records : List RecordValue) (g : FunctionValue) → (lowered_function home records g).shape ≡ shape_of records (type_of g.ty) (is_volatile g.ty)
unfolding lowered_function
shape_is home records g = refl

declared_has : (home : List ℕ) (m : ModuleValue) (x : List ℕ) (ty : QType) → (is : IsDeclared m x ty) → Has (x, shape_of m.records (type_of is.entry.ty) (is_volatile is.entry.ty)) (lowered home m).declared
unfolding lowered
declared_has home m x ty is =
    let h = has_map (lowered_declared m.records) is.entry m.declared (has_by is.entry m.declared is.there) in
    subst (λ (n : List ℕ). Has (n, shape_of m.records (type_of is.entry.ty) (is_volatile is.entry.ty)) (map (lowered_declared m.records) m.declared)) is.name_is h

-- ---- `main`

main_declared : (home : List ℕ) (m : ModuleValue) (g : FunctionValue) → IsFunctionTyped m g → IsDeclaredIfExternal m g.name g.ty → full_name home g.name ≡ main_name
    → Has (main_name, shape_of m.records (type_of g.ty) (is_volatile g.ty)) (lowered home m).declared
main_declared home m g typed declared e =
    let is : IsDeclared m main_name g.ty = subst (λ (s : Symbol). IsDeclaredIfExternal m s g.ty) (main_external home g.name e) declared in
    let own = shape_of m.records (type_of g.ty) (is_volatile g.ty) in
    let same : shape_of m.records (type_of is.entry.ty) (is_volatile is.entry.ty) ≡ own = function_agrees (shape_of m.records (type_of is.entry.ty) (is_volatile is.entry.ty)) own (function_begins m g typed) is.agrees in
    subst (λ (shape : List ℕ). Has (main_name, shape) (lowered home m).declared) same (declared_has home m main_name g.ty is)

pub lowered_declares : (home : List ℕ) (m : ModuleValue) → All (IsFunctionTyped m) m.functions → All (λ f. IsDeclaredIfExternal m f.name f.ty) m.functions → DeclaresMain (lowered home m)
lowered_declares home m typed declared f there e = elim (of_tree home m f (has_by f (lowered home m).functions there)) [
  | inl g ↦
      let k = contains_by g.0 m.functions g.1 in
      let name : full_name home g.0.name ≡ main_name = sym (name_is home m.records g.0) ∙ ap (λ (f : FlowFn). f.name) g.2 ∙ e in
      let h = main_declared home m g.0 (All-contains (IsFunctionTyped m) m.functions g.0 typed k) (All-contains (λ f. IsDeclaredIfExternal m f.name f.ty) m.functions g.0 declared k) name in
      let shape : shape_of m.records (type_of g.0.ty) (is_volatile g.0.ty) ≡ f.shape = sym (shape_is home m.records g.0) ∙ ap (λ (f : FlowFn). f.shape) g.2 in
      contains_by (main_name, f.shape) (lowered home m).declared (subst (λ (s : List ℕ). Has (main_name, s) (lowered home m).declared) shape h)
  | inr s ↦ absurd (start_is_other (ap (λ (f : FlowFn). f.name) s ∙ e))
]

-- ---- of a text

-- the laws on which it stands
pub record Laws : Type 0 where
  pub exact : (tree : Module) (answer : Result ModuleValue CheckFault) → Checks tree answer ↔ (answer ≡ checked tree)
  pub typed : (tree : Module) (m : ModuleValue) → Checks tree (Ok m) → All (IsFunctionTyped m) m.functions
  pub external : (tree : Module) (m : ModuleValue) → Checks tree (Ok m) → All (λ f. IsDeclaredIfExternal m f.name f.ty) m.functions

same_flow : (a b : FlowModule) → ◌≡◌ {A = Result FlowModule Refusal} (Ok a) (Ok b) → a ≡ b
same_flow a b e = cc

no_flow : (refusal : Refusal) (flow : FlowModule) → ◌≡◌ {A = Result FlowModule Refusal} (Err refusal) (Ok flow) → ⊥
no_flow refusal flow e = absurd cc

checked_declares : Laws → (name : List ℕ) (tree : Module) (flow : FlowModule) (answer : Result ModuleValue CheckFault) → answer ≡ checked tree → by_checking name answer ≡ Ok flow → DeclaresMain flow
checked_declares laws name tree flow (Err fault) is e = absurd (no_flow (Check fault) flow e)
checked_declares laws name tree flow (Ok typed) is e =
    let checks = (laws.exact tree (Ok typed)).1 is in
    subst DeclaresMain (same_flow (lowered name typed) flow e) (lowered_declares name typed (laws.typed tree typed checks) (laws.external tree typed checks))

front_declares : Laws → (name : List ℕ) (flow : FlowModule) (front : Result Module Refusal) → by_front_end name front ≡ Ok flow → DeclaresMain flow
front_declares laws name flow (Err refusal) e = absurd (no_flow refusal flow e)
front_declares laws name flow (Ok tree) e = checked_declares laws name tree flow (checked tree) refl e

pub compiled_declares : Laws → (name text : List ℕ) (flow : FlowModule) → compiled name text ≡ Ok flow → DeclaresMain flow
unfolding compiled
compiled_declares laws name text flow e = front_declares laws name flow (front_end_of text) e
