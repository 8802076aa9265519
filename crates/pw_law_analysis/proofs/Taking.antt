-- The functions of a well-typed module's flow graph take the address of a function only where the module says that it
-- is one: well-typed trees are what the walk over lowered code asks.
use Rattle.std.proofs.Common.{◌≡◌, ℕ, Bool, true, false, if◌then◌else◌, List, [], ◌∷◌, map, refl, subst, inl, inr}
use Rattle.std.specs.List.{AllByRecursion}
use Rattle.std.proofs.lemmas.List.Elements.{recursion_from_All}
use Rattle.pw_types.specs.FullNames.{full_name}
use Rattle.pw_types.specs.TypeTrees.{QType, type_of}
use Rattle.pw_types.specs.TypedTrees.{Symbol, Form, Node, Initialiser, Value, Bytes, LocalValue, FunctionValue, ModuleValue}
use Rattle.pw_types.specs.TypedTrees as T
use Rattle.pw_types.specs.TypedModules.{Initialises, IsFunction, WellTyped}
use Rattle.pw_types.specs.WellTyped.{IsFunctionType, IsFunctionOf, IsTyped}
use Rattle.pw_flow.specs.declared.flow.Op.{Op}
use Rattle.pw_flow.specs.declared.flow.Op.TheVariants as op
use Rattle.pw_flow.specs.declared.flow.Block.{Block as FlowBlock}
use Rattle.pw_flow.specs.declared.flow.FlowFn.{FlowFn}
use Rattle.pw_files.proofs.Standing.{Has, has_each, has_split, has_map_back}
use Rattle.pw_lower.specs.Modules.{lowered_function, start_function, is_main, start_of, lowered}
use Rattle.pw_law_lower_walk.specs.Given.{OfObject}
use Rattle.pw_law_lower_walk.specs.Named.{IsNameless, NameIn, InitialiserParts}
use Rattle.pw_law_lower_walk.proofs.Named.{each_operation}
use Rattle.pw_law_lower_walk.proofs.Typed.{typed_parts, IsTypedInitialiser, IsTypedStatement, typed_statement}

-- what is wanted of an operation: the name whose address it takes is a function by the module, which has this name
abbrev pub TakesRightly : ModuleValue → List ℕ → Op → Type 0
TakesRightly m home (op.AddrFn t f) = (s : Symbol) × (y : QType) × IsFunctionType (type_of y) × IsFunctionOf m s y × (full_name home s ≡ f)
TakesRightly m home _ = Unit {0}

abbrev pub AllRight : ModuleValue → List ℕ → FlowBlock → Type 0
AllRight m home b = AllByRecursion (TakesRightly m home) b.ops

start_by : (b : Bool) (f : FlowFn) (rest : List FlowFn) → (Has f rest → start_function ≡ f) → Has f (if b then start_function ∷ [] else rest) → start_function ≡ f
start_by true f rest later (inl e) = e
start_by true f rest later (inr k) = absurd k
start_by false f rest later k = later k

-- the function that a program starts with, where it is there
pub start_only : (fs : List FunctionValue) (f : FlowFn) → Has f (start_of fs) → start_function ≡ f
start_only [] f h = absurd h
start_only (g ∷ fs) f h = start_by (is_main g.name) f (start_of fs) (start_only fs f) h

-- ---- operations and expressions

module _ (m : ModuleValue) (home : List ℕ) (locals : List LocalValue) where
  nameless_right : (o : Op) → IsNameless o → TakesRightly m home o
  nameless_right (op.AddrFn t f) h = absurd h
  nameless_right o h = tt

  object_right : (g : List ℕ) → OfObject (TakesRightly m home) g
  object_right g = record { address = λ t. tt; read = λ t k. tt; written = λ a k. tt }

  names_right : (t : ℕ) (y : QType) (form : Form) → IsTyped m locals (Node t y form) → NameIn (TakesRightly m home) home form
  unfolding IsTyped
  names_right t y (T.Str k) w = object_right (full_name home (T.Hidden k))
  names_right t y (T.Global s) w = object_right (full_name home s)
  names_right t y (T.Function s) w = λ r. (s, y, w.1.0, w.1.1, refl)
  names_right t y (T.Call s args) w = λ r temps. tt
  names_right t y form w = tt

-- ---- statements

module _ (m : ModuleValue) (f : FunctionValue) where
  initialiser_right : (home : List ℕ) (i : Initialiser) → IsTypedInitialiser m f i → InitialiserParts (TakesRightly m home) home (IsTyped m f.locals) i
  initialiser_right home (Value k e) w = let v : Initialises m f.locals w.0 w.1 (Value k e) = w.2 in v.2
  initialiser_right home (Bytes k hidden parts) w = object_right m home f.locals (full_name home (T.Hidden hidden))

  function_right : (home : List ℕ) → IsFunction m f → AllByRecursion (AllRight m home) (lowered_function home m.records f).blocks
  function_right home h =
      each_operation (TakesRightly m home) (nameless_right m home f.locals) home (IsTyped m f.locals) (typed_parts m f.locals) (names_right m home f.locals)
      (IsTypedInitialiser m f) (initialiser_right home) (IsTypedStatement m f) (typed_statement m f)
      m.records f (false, false, f.params, h.body)

-- ---- functions

module _ (m : ModuleValue) (home : List ℕ) where
  pub functions_good : WellTyped m → (f : FlowFn) → Has f (lowered home m).functions → AllByRecursion (AllRight m home) f.blocks
  unfolding lowered
  functions_good typed f h = elim (has_split f (map (lowered_function home m.records) m.functions) (start_of m.functions) h) [
    | inl k ↦
        let p = has_map_back (lowered_function home m.records) f m.functions k in
        subst (λ (x : FlowFn). AllByRecursion (AllRight m home) x.blocks) p.2 (function_right m p.0 home (has_each (IsFunction m) m.functions p.0 (recursion_from_All (IsFunction m) m.functions typed.functions) p.1))
    | inr k ↦ subst (λ (x : FlowFn). AllByRecursion (AllRight m home) x.blocks) (start_only m.functions f k) ((tt, (tt, tt)), tt)
  ]
