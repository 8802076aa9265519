-- Globals as values and as places: each is the object of its number on both sides.
use Rattle.std.proofs.Common.{◌≡◌, ℕ, suc, ◌+◌, ◌<◌, inl, inr, Bool, true, false, true≢false, not, cond, lt-ltb, Option, Some, None, option_map, List, [], ◌∷◌, ◌++◌, length, map, position, find, Contains, refl, ap, sym, ◌∙◌, subst, arith}
use Rattle.std.specs.Prelude.{bytes_eq}
use Rattle.std.specs.List.{flat_map, prefix_len, position_or_len}
use Rattle.std.proofs.lemmas.Option.{same_Some}
use Rattle.std.proofs.lemmas.List.Elements.{Contains-append_cases, All-contains}
use Rattle.std.proofs.lemmas.Slice.Eq.{bytes_eq-Decides}
use Rattle.pw_value.specs.declared.value.Kind.{Kind}
use Rattle.pw_value.specs.declared.value.Kind.TheVariants.{W32}
use Rattle.pw_value.specs.declared.value.Value.TheVariants as V
use Rattle.pw_value.specs.declared.value.Pointer.{Pointer}
use Rattle.pw_value.specs.declared.value.Pointer.TheVariants as P
use Rattle.pw_types.specs.TypeTrees.{CType, Void, Int, Pointer as PointerTo, Array, Function, Record, QType, type_of, is_volatile}
use Rattle.pw_types.specs.TypedModules.{IsFunction, IsDeclaredIfExternal}
use Rattle.pw_types.specs.FullNames.{full_name}
use Rattle.pw_types.specs.Shapes.{shape_of}
use Rattle.pw_types.specs.TypedTrees.{Symbol, External, Internal, Hidden, Node, Global, FunctionValue}
use Rattle.pw_types.specs.WellTyped.{IsTyped, HasForm, IsObject, IsDeclared, IsDefined, IsScalar}
use Rattle.pw_lower.specs.declared.code.Code.{Code}
use Rattle.pw_lower.specs.Operators.{kind_of, kind_of_int}
use Rattle.pw_lower.specs.declared.place.Target.TheVariants.{Named}
use Rattle.pw_lower.specs.Expressions.{lower, place, read_target, scalar_kind, value_of_global}
use Rattle.pw_lower.specs.Modules.{lowered, lowered_global}
use Rattle.pw_flow.specs.declared.flow.FlowGlobal.{FlowGlobal}
use Rattle.pw_cmean.specs.Worlds as source
use Rattle.pw_cmean.specs.Worlds.{ProgramModule, World, Callable, callable, library}
use Rattle.pw_cmean.specs.Access.{load, fetch}
use Rattle.pw_cmean.specs.Acts.{State, Site, give, stop, wrong, need, ◌>>=◌, go_on}
use Rattle.pw_cmean.specs.Evaluation as meaning
use Rattle.pw_cmean.specs.Evaluation.{site, symbol_place, value_by, answer_of, place_of}
use Rattle.pw_run_languages.specs.FlowRun.{Machine}
use Rattle.pw_law_refine.specs.Standing.{Spot}
use Rattle.pw_law_refine.specs.Containing.{ContainsCode}
use Rattle.pw_law_refine.specs.Meeting.{Meets}
use Rattle.pw_law_refine.specs.Expressions.{IsReady, HasValue, HasTarget, ExpressionKeeps}
use Rattle.pw_law_refine_forms.specs.Accesses.{SuitsType, LvalueKeeps, TargetSuits}
use Rattle.pw_law_refine_forms.proofs.Laws.{Laws}
use Rattle.pw_law_refine_forms.proofs.Simulation.{meets-then, meets-here}
use Rattle.pw_law_refine_forms.proofs.Kit.{nothing-done}
use Rattle.pw_law_refine_forms.proofs.Access.{reads}
use Rattle.pw_law_refine_forms.proofs.Assign.{scalar-of}
use Rattle.pw_run_languages.specs.Programs as flow
use Rattle.pw_run_languages.specs.Programs.{Library, library_shape, globals_of}
use Rattle.pw_law_refine.specs.Activations.{Activation, IsActivation, Numbers, graphs, graph_of, env_of}
use Rattle.pw_law_refine_forms.proofs.Globals.{same-number, agree-kinds, shape-kind, kinds-agree, kind_shape, begins-102}
use Rattle.pw_law_refine_forms.proofs.Owning.{in-map, of-map, from-cons, in-head, in-tail, to-globals, global-suits, declares, declared-kinds, letters-of, shared, typed-at}

-- ---- names that are found

-- where one passes, there is a first that does
bounded : (b : Bool) (n len : ℕ) → (b ≡ false → n < len) → cond (not b) (1 + n) 0 < suc len
bounded true n len h = omega arith
bounded false n len h = let lt = h refl in omega (arith, lt)

passes : {A : Type 0} (t : A → Bool) (xs : List A) (x : A) → Contains xs x → t x ≡ true → prefix_len (λ y. not (t y)) xs < length xs
passes t [] x h e = absurd (omega (arith, h.1))
passes t (y ∷ ys) x h e =
    bounded (t y) (prefix_len (λ y. not (t y)) ys) (length ys) (λ no.
    from-cons (prefix_len (λ y. not (t y)) ys < length ys) y x ys (λ same. absurd (true≢false (sym e ∙ ap t (sym same) ∙ no))) (λ later. passes t ys x later e) h)

pub position-there : {A : Type 0} (t : A → Bool) (xs : List A) (x : A) → Contains xs x → t x ≡ true → (o : ℕ) × (position t xs ≡ Some o)
position-there t xs x h e =
    let n = position_or_len t xs in
    (n, ap (λ (b : Bool). cond b (Some n) None) (lt-ltb n (length xs) (passes t xs x h e)))

is_one : {A : Type 0} → Option A → Bool
is_one None = false
is_one (Some a) = true

pub none-some : {A : Type 0} (a : A) → None ≡ Some a → ⊥
unfolding is_one
none-some a e = true≢false (sym (ap is_one e))

find-by : {A : Type 0} (b : Bool) (y x : A) (rest : Option A) (R : Type 0) → (Some y ≡ Some x → b ≡ true → R) → (rest ≡ Some x → R) → cond b (Some y) rest ≡ Some x → R
find-by true y x rest R f g e = f e refl
find-by false y x rest R f g e = g e

pub find-there : {A : Type 0} (t : A → Bool) (xs : List A) (x : A) → find t xs ≡ Some x → Contains xs x × (t x ≡ true)
find-there t [] x e = absurd (none-some x e)
find-there t (y ∷ ys) x e =
    find-by (t y) y x (find t ys) (Contains (y ∷ ys) x × (t x ≡ true))
    (λ same is. let eq = same_Some y x same in (subst (λ z. Contains (y ∷ ys) z) eq (in-head y ys), ap t (sym eq) ∙ is))
    (λ later. let r = find-there t ys x later in (in-tail y x ys r.0, r.1)) e

-- ---- no function has the name of a scalar object

record FromFunctions (modules : List ProgramModule) (f : Callable) : Type 0 where
  home : ProgramModule
  function : FunctionValue
  there : Contains modules home
  defined : Contains home.tree.functions function
  is : callable home function ≡ f

from-functions : (modules : List ProgramModule) (f : Callable) → Contains (flat_map (λ (m : ProgramModule). map (callable m) m.tree.functions) modules) f → FromFunctions modules f
from-functions [] f h = absurd (omega (arith, h.1))
from-functions (m ∷ rest) f h =
    elim (Contains-append_cases (map (callable m) m.tree.functions) (flat_map (λ (m : ProgramModule). map (callable m) m.tree.functions) rest) f h) [
      | inl own ↦ let r = of-map (callable m) m.tree.functions f own in
          record { home = m; function = r.0; there = in-head m rest; defined = r.1; is = r.2 }
      | inr later ↦ let r = from-functions rest f later in
          record { home = r.home; function = r.function; there = in-tail m r.home rest r.there; defined = r.defined; is = r.is }
    ]

-- the library's functions have shapes of functions
shape-none : (g : Library) → kind_shape (library_shape g) ≡ None
shape-none flow.GetChar = begins-102 (105 ∷ [])
shape-none flow.PutChar = begins-102 (105 ∷ 105 ∷ [])
shape-none flow.Exit = begins-102 (118 ∷ 105 ∷ [])

no-library : (x : Activation) (n : List ℕ) (y : QType) (k : Kind) (g : Library) → IsActivation x → IsDeclared x.home.tree n y → kind_of (type_of y) ≡ Some k → flow.library_at n ≡ Some g → ⊥
no-library x n y k g active d kind is =
    let laid = (typed-at x x.home active active.home).laid in
    let e = d.entry in
    let shape = shape_of x.home.tree.records (type_of e.ty) (is_volatile e.ty) in
    let agree = active.world.program.accepted.alike.library (lowered x.home.name x.home.tree) g n shape (in-map (λ (z : ProgramModule). lowered z.name z.tree) x.world.program.modules x.home active.home)
    (subst (λ (z : List ℕ). Contains (lowered x.home.name x.home.tree).declared (z, shape)) d.name_is (declares x x.home e d.there)) is in
    none-some k (sym (shape-none g) ∙ sym (agree-kinds shape (library_shape g) agree) ∙ shape-kind x.home.tree.records (type_of e.ty) (is_volatile e.ty) laid
    ∙ kinds-agree x.home.tree.records x.home.tree.records (type_of e.ty) (type_of y) (is_volatile e.ty) (is_volatile y) laid laid d.agrees ∙ kind)

no-function : (x : Activation) (n : List ℕ) (y : QType) (k : Kind) (f : Callable) → IsActivation x → IsDeclared x.home.tree n y → kind_of (type_of y) ≡ Some k → source.function_named x.world.program n ≡ Some f → ⊥
no-function x n y k f active d kind found =
    let fs = flat_map (λ (m : ProgramModule). map (callable m) m.tree.functions) x.world.program.modules in
    let r = find-there (λ (g : Callable). bytes_eq g.name n) (library ++ fs) f found in
    let name : f.name ≡ n = (bytes_eq-Decides f.name n).0 r.1 in
    elim (Contains-append_cases library fs f r.0) [
      | inl own ↦
          from-cons ⊥ (source.library_callable source.ExitRun) f (source.library_callable source.GetChar ∷ source.library_callable source.PutChar ∷ [])
          (λ e. no-library x n y k flow.Exit active d kind (ap (λ (z : List ℕ). flow.library_at z) (sym name ∙ ap (λ (z : Callable). z.name) (sym e))))
          (λ rest. from-cons ⊥ (source.library_callable source.GetChar) f (source.library_callable source.PutChar ∷ [])
          (λ e. no-library x n y k flow.GetChar active d kind (ap (λ (z : List ℕ). flow.library_at z) (sym name ∙ ap (λ (z : Callable). z.name) (sym e))))
          (λ last. from-cons ⊥ (source.library_callable source.PutChar) f []
          (λ e. no-library x n y k flow.PutChar active d kind (ap (λ (z : List ℕ). flow.library_at z) (sym name ∙ ap (λ (z : Callable). z.name) (sym e))))
          (λ none. omega (arith, none.1)) last) rest) own
      | inr later ↦
          let m = from-functions x.world.program.modules f later in
          let typed = typed-at x m.home active m.there in
          let full : full_name m.home.name m.function.name ≡ n = ap (λ (z : Callable). z.name) m.is ∙ name in
          let external : m.function.name ≡ External n = shared m.home.name n m.function.name (letters-of x n y active d) full in
          let declared : IsDeclared m.home.tree n m.function.ty = subst (λ (s : Symbol). IsDeclaredIfExternal m.home.tree s m.function.ty) external
          (All-contains (λ (g : FunctionValue). IsDeclaredIfExternal m.home.tree g.name g.ty) m.home.tree.functions m.function typed.external m.defined) in
          let fn = All-contains (IsFunction m.home.tree) m.home.tree.functions m.function typed.functions m.defined in
          none-some k (sym (ap kind_of fn.typed.type_is) ∙ sym (declared-kinds x x.home m.home n y m.function.ty active active.home m.there d declared) ∙ kind)
    ]

-- ---- the number of an object

abbrev pub object-or : World → List ℕ → Option ℕ → Option Pointer
object-or world name (Some number) = Some (P.Object number 0)
object-or world name None = option_map (λ f. P.Function (source.function_number world.program f.name)) (source.function_named world.program name)

record IsObjectAt (x : Activation) (name : List ℕ) (q : Pointer) : Type 0 where
  number : ℕ
  numbered : flow.global_number (graphs x.world) name ≡ Some number
  is : q ≡ P.Object number 0

own-number : (x : Activation) (symbol : Symbol) (y : QType) → IsActivation x → IsDefined x.home.tree symbol y → (o : ℕ) × (source.global_number x.world.program (full_name x.home.name symbol) ≡ Some o)
own-number x symbol y active d =
    let name = full_name x.home.name symbol in
    let there = to-globals x.world.program.modules x.home d.object active.home d.there in
    let r = position-there (λ (g : FlowGlobal). bytes_eq g.name name) (globals_of (graphs x.world)) (lowered_global x.home.name x.home.tree.records d.object) there
    ((bytes_eq-Decides (full_name x.home.name d.object.name) name).1 (ap (λ (s : Symbol). full_name x.home.name s) d.name_is)) in
    (r.0, sym (same-number x.world name) ∙ r.1)

object-at : (x : Activation) (symbol : Symbol) (y : QType) (k : Kind) (q : Pointer) → IsActivation x → IsObject x.home.tree symbol y → kind_of (type_of y) ≡ Some k
    → source.pointer_to x.world.program (full_name x.home.name symbol) 0 ≡ Some q → IsObjectAt x (full_name x.home.name symbol) q
object-at x symbol y k q active typed kind e = by_number (source.global_number x.world.program (full_name x.home.name symbol)) refl
  where
    name : List ℕ
    name = full_name x.home.name symbol

    none : (symbol : Symbol) → IsObject x.home.tree symbol y → source.global_number x.world.program (full_name x.home.name symbol) ≡ None → object-or x.world (full_name x.home.name symbol) None ≡ Some q → ⊥
    none (Internal n) typed is f = let own = own-number x (Internal n) y active typed in none-some own.0 (sym is ∙ own.1)
    none (Hidden n) typed is f = let own = own-number x (Hidden n) y active typed in none-some own.0 (sym is ∙ own.1)
    none (External n) typed is f = by_function (source.function_named x.world.program n) refl f
      where
        by_function : (r : Option Callable) → source.function_named x.world.program n ≡ r → option_map (λ f. P.Function (source.function_number x.world.program f.name)) r ≡ Some q → ⊥
        by_function None has is = none-some q is
        by_function (Some f) has is = no-function x n y k f active typed kind has

    by_number : (r : Option ℕ) → source.global_number x.world.program name ≡ r → IsObjectAt x name q
    by_number (Some o) is = record {
      number = o;
      numbered = same-number x.world name ∙ is;
      is = same_Some q (P.Object o 0) (sym e ∙ ap (λ (r : Option ℕ). object-or x.world name r) is);
    }
    by_number None is = absurd (none symbol typed is (sym (ap (λ (r : Option ℕ). object-or x.world name r) is) ∙ e))

-- ---- as a place

pub global-lvalue : (bound t : ℕ) (ty : QType) (symbol : Symbol) → LvalueKeeps bound (Node t ty (Global symbol))
unfolding place place_of symbol_place need give stop wrong IsTyped HasForm nothing-done
global-lvalue bound t ty symbol = λ x numbers spots c s m active typed slots lvalue scalar holds ready.
    by_place x numbers spots c s m active typed.1 (scalar-of (type_of ty) scalar) ready (source.pointer_to x.world.program (full_name x.home.name symbol) 0) refl
  where
    by_place : (x : Activation) (numbers : Numbers) (spots : List Spot) (c : Code) (s : State) (m : Machine) → IsActivation x → IsObject x.home.tree symbol ty → kind_of (type_of ty) ≡ Some (scalar_kind (type_of ty)) → IsReady x numbers spots c s m
        → (r : Option Pointer) → source.pointer_to x.world.program (full_name x.home.name symbol) 0 ≡ r
        → Meets x.world bound m (need (option_map V.At r) s) (HasTarget x numbers spots (Node t ty (Global symbol)) c s m)
    by_place x numbers spots c s m active typed kind ready None e = tt
    by_place x numbers spots c s m active typed kind ready (Some q) e =
        let at = object-at x symbol ty (scalar_kind (type_of ty)) q active typed kind e in
        meets-here x.world bound m (V.At q) s (HasTarget x numbers spots (Node t ty (Global symbol)) c s m)
        (record { done = nothing-done x numbers spots [] c s m ready.related; behind = ready.behind; stands = (at.number, at.numbered, ap V.At at.is) })

pub global-suited : (x : Activation) (t : ℕ) (ty : QType) (symbol : Symbol) (c : Code) → IsActivation x → IsTyped x.home.tree x.function.locals (Node t ty (Global symbol)) → TargetSuits x (Node t ty (Global symbol)) c
unfolding place IsTyped HasForm
global-suited x t ty symbol c active typed = record { later = record { temps = omega arith; led = tt }; suits = global-suits x symbol ty active typed.1; covers = tt }

-- ---- as a value

global-loaded :
    Laws → (bound : ℕ) (x : Activation) (numbers : Numbers) (spots : List Spot) (ty : CType) (k : Kind) (at : Site) (name : List ℕ) (c : Code) (s : State) (m : Machine) (o : ℕ)
    → kind_of ty ≡ Some k → IsReady x numbers spots c s m → ContainsCode (graph_of x) (read_target k (Named name) c).code → SuitsType x ty (Named name) → flow.global_number (graphs x.world) name ≡ Some o
    → Meets x.world bound m ((load at ty (V.At (P.Object o 0)) >>= λ v. give (Some v)) s) (HasValue x numbers spots [] (read_target k (Named name) c) c s m)
unfolding ◌>>=◌ give
global-loaded laws bound x numbers spots ty k at name c s m o e ready holds suits number =
    meets-then laws x.world bound m (load at ty (V.At (P.Object o 0)) s) (λ v. give (Some v)) (λ v. HasValue x numbers spots [] (read_target k (Named name) c) c s m (Some v))
    (HasValue x numbers spots [] (read_target k (Named name) c) c s m)
    (reads laws bound x numbers spots ty k at (Named name) c s m (V.At (P.Object o 0)) e ready holds suits (o, number, refl))
    (λ v r n h. meets-here x.world bound n (Some v) r (HasValue x numbers spots [] (read_target k (Named name) c) c s m) h)

-- by the type
global-value :
    Laws → (bound : ℕ) (x : Activation) (numbers : Numbers) (spots : List Spot) (ty : CType) (at : Site) (name : List ℕ) (c : Code) (s : State) (m : Machine) (o : ℕ)
    → IsScalar ty → IsReady x numbers spots c s m → ContainsCode (graph_of x) (value_of_global (kind_of ty) name c).code → SuitsType x ty (Named name) → flow.global_number (graphs x.world) name ≡ Some o
    → Meets x.world bound m (value_by at ty (V.At (P.Object o 0)) s) (HasValue x numbers spots [] (value_of_global (kind_of ty) name c) c s m)
unfolding value_by fetch give ◌>>=◌ go_on
global-value laws bound x numbers spots (Int kind) at name c s m o h ready holds suits number = global-loaded laws bound x numbers spots (Int kind) (kind_of_int kind) at name c s m o refl ready holds suits number
global-value laws bound x numbers spots (PointerTo q) at name c s m o h ready holds suits number = global-loaded laws bound x numbers spots (PointerTo q) W32 at name c s m o refl ready holds suits number
global-value laws bound x numbers spots Void at name c s m o h ready holds suits number = absurd h
global-value laws bound x numbers spots (Array q k) at name c s m o h ready holds suits number = absurd h
global-value laws bound x numbers spots (Function r ps) at name c s m o h ready holds suits number = absurd h
global-value laws bound x numbers spots (Record k) at name c s m o h ready holds suits number = absurd h

pub global-keeps : Laws → (bound t : ℕ) (ty : QType) (symbol : Symbol) → IsScalar (type_of ty) → ExpressionKeeps bound (Node t ty (Global symbol))
unfolding lower answer_of symbol_place need give stop wrong ◌>>=◌ go_on IsTyped HasForm meaning.value_at
global-keeps laws bound t ty symbol scalar = λ x numbers spots c s m active typed slots holds ready.
    by_place x numbers spots c s m active typed.1 (scalar-of (type_of ty) scalar) holds ready (source.pointer_to x.world.program (full_name x.home.name symbol) 0) refl
  where
    by_place : (x : Activation) (numbers : Numbers) (spots : List Spot) (c : Code) (s : State) (m : Machine) → IsActivation x → IsObject x.home.tree symbol ty → kind_of (type_of ty) ≡ Some (scalar_kind (type_of ty))
        → ContainsCode (graph_of x) (value_of_global (kind_of (type_of ty)) (full_name x.home.name symbol) c).code → IsReady x numbers spots c s m
        → (r : Option Pointer) → source.pointer_to x.world.program (full_name x.home.name symbol) 0 ≡ r
        → Meets x.world bound m ((need (option_map V.At r) >>= λ place. meaning.value_at (env_of x numbers) t ty place) s) (HasValue x numbers spots [] (value_of_global (kind_of (type_of ty)) (full_name x.home.name symbol) c) c s m)
    by_place x numbers spots c s m active typed kind holds ready None e = tt
    by_place x numbers spots c s m active typed kind holds ready (Some q) e =
        let at = object-at x symbol ty (scalar_kind (type_of ty)) q active typed kind e in
        subst (λ (p : Pointer). Meets x.world bound m (value_by (site (env_of x numbers) t) (type_of ty) (V.At p) s) (HasValue x numbers spots [] (value_of_global (kind_of (type_of ty)) (full_name x.home.name symbol) c) c s m)) (sym at.is)
        (global-value laws bound x numbers spots (type_of ty) (site (env_of x numbers) t) (full_name x.home.name symbol) c s m at.number scalar ready holds (global-suits x symbol ty active typed) at.numbered)
