-- Names of functions, as values, as places and behind `&`: a function has one number in both runs.
use Rattle.std.proofs.Common.{◌≡◌, ◌≢◌, ℕ, ◌+◌, Option, Some, None, option_map, List, [], ◌∷◌, ◌++◌, map, get_or, Contains, refl, ap, sym, ◌∙◌, subst, arith, false}
use Rattle.std.specs.Prelude.{bytes_eq}
use Rattle.std.proofs.lemmas.Option.{same_Some}
use Rattle.std.proofs.lemmas.List.Elements.{Contains-append_right, Contains-get_or, All-contains, All-from_recursion}
use Rattle.std.proofs.lemmas.List.Quantifiers.{position-Some}
use Rattle.std.proofs.lemmas.Slice.Eq.{bytes_eq-Decides}
use Rattle.pw_value.specs.declared.value.Value.{Value}
use Rattle.pw_value.specs.declared.value.Value.TheVariants as V
use Rattle.pw_value.specs.declared.value.Pointer.{Pointer}
use Rattle.pw_value.specs.declared.value.Pointer.TheVariants as P
use Rattle.pw_types.specs.TypeTrees.{QType, type_of}
use Rattle.pw_types.specs.FullNames.{full_name}
use Rattle.pw_types.specs.TypedTrees.{Symbol, Node, Function, Address}
use Rattle.pw_types.specs.WellTyped.{IsTyped, HasForm}
use Rattle.pw_flow.specs.declared.flow.Op.TheVariants as op
use Rattle.pw_flow.specs.declared.flow.FlowGlobal.{FlowGlobal}
use Rattle.pw_flow.specs.ValidFlow.{AreDistinct}
use Rattle.pw_lower.specs.declared.code.Code.{Code}
use Rattle.pw_lower.specs.Expressions.{lower, address_of_function}
use Rattle.pw_cmean.specs.Worlds as source
use Rattle.pw_cmean.specs.Worlds.{Callable}
use Rattle.pw_cmean.specs.Acts.{State, Outcome, give, stop, wrong, need, ◌>>=◌}
use Rattle.pw_cmean.specs.Evaluation as meaning
use Rattle.pw_cmean.specs.Evaluation.{site, symbol_place, answer_of, place_of}
use Rattle.pw_run_languages.specs.Commands.{command}
use Rattle.pw_run_languages.specs.Programs as flows
use Rattle.pw_run_languages.specs.Programs.{globals_of, names_of}
use Rattle.pw_run_languages.specs.LawfulPrograms.{IsFunctionName}
use Rattle.pw_run_languages.specs.FlowRun.{Machine}
use Rattle.pw_law_refine.specs.Standing.{Spot, Leads}
use Rattle.pw_law_refine.specs.Activations.{Activation, IsActivation, Numbers, graphs, graph_of, env_of}
use Rattle.pw_law_refine.specs.Containing.{ContainsCode}
use Rattle.pw_law_refine.specs.Meeting.{Meets}
use Rattle.pw_law_refine.specs.Expressions.{IsOfPlaces, IsReady, HasValue, HasResult, ExpressionKeeps}
use Rattle.pw_law_refine_forms.specs.Accesses.{AddressKeeps}
use Rattle.pw_law_refine_forms.proofs.Laws.{Laws}
use Rattle.pw_law_refine_forms.proofs.Simulation.{meets-then, meets-here}
use Rattle.pw_law_refine_forms.proofs.Owning.{from-cons, in-map}
use Rattle.pw_law_refine_forms.proofs.Symbols.{object-or, none-some, find-there}
use Rattle.pw_law_refine_forms.proofs.Strings.{graph-there, op-there}
use Rattle.pw_law_refine_forms.proofs.AllForms.{place-value}
use Rattle.pw_law_refine_exprs.proofs.Laws.{NameLaws}

-- ---- a function's name is no object's

-- what stands in the first part of names that differ stands not in the second
not-both : (xs ys : List (List ℕ)) (name : List ℕ) → AreDistinct (xs ++ ys) → Contains xs name → Contains ys name → ⊥
not-both [] ys name h a b = absurd (omega (arith, a.1))
not-both (x ∷ xs) ys name h a b =
    from-cons ⊥ x name xs
    (λ e. All-contains (λ other. other ≢ x) (xs ++ ys) name (All-from_recursion (λ other. other ≢ x) (xs ++ ys) h.0) (Contains-append_right xs ys name b) (sym e))
    (λ later. not-both xs ys name h.1 later b) a

no-global : FlowGlobal
no-global = record { name = []; size = 0; shape = []; kind = None; volatile = false; items = [] }

no-object : (x : Activation) (name : List ℕ) (o : ℕ) → IsActivation x → IsFunctionName (graphs x.world) name → flows.global_number (graphs x.world) name ≡ Some o → ⊥
no-object x name o active is number =
    let gs = globals_of (graphs x.world) in
    let at = position-Some (λ (g : FlowGlobal). bytes_eq g.name name) gs o no-global number in
    let g = get_or gs o no-global in
    let names = map (λ (g : FlowGlobal). g.name) gs in
    not-both (names_of (graphs x.world)) names name active.world.program.accepted.program.names is
    (subst (λ (n : List ℕ). Contains names n) ((bytes_eq-Decides g.name name).0 at.1) (in-map (λ (g : FlowGlobal). g.name) gs g (Contains-get_or gs o no-global at.0)))

-- ---- its place

-- what the name of a function denotes
function-pointer : NameLaws → (x : Activation) (name : List ℕ) (q : Pointer) → IsActivation x → IsFunctionName (graphs x.world) name → source.pointer_to x.world.program name 0 ≡ Some q
    → q ≡ P.Function (flows.function_number (graphs x.world) name)
function-pointer names x name q active is e = by_number (source.global_number x.world.program name) refl
  where
    by_function : (r : Option Callable) → source.function_named x.world.program name ≡ r → option_map (λ f. P.Function (source.function_number x.world.program f.name)) r ≡ Some q
        → q ≡ P.Function (flows.function_number (graphs x.world) name)
    by_function None has f = absurd (none-some q f)
    by_function (Some g) has f =
        let there = find-there (λ (h : Callable). bytes_eq h.name name) (source.functions_of x.world.program) g has in
        same_Some q (P.Function (source.function_number x.world.program g.name)) (sym f)
        ∙ ap (λ (n : List ℕ). P.Function (source.function_number x.world.program n)) ((bytes_eq-Decides g.name name).0 there.1)
        ∙ ap P.Function (names.number x.world name active.world)

    by_number : (r : Option ℕ) → source.global_number x.world.program name ≡ r → q ≡ P.Function (flows.function_number (graphs x.world) name)
    by_number (Some o) has = absurd (no-object x name o active is (sym (names.object x.world name) ∙ has))
    by_number None has = by_function (source.function_named x.world.program name) refl (sym (ap (λ (r : Option ℕ). object-or x.world name r) has) ∙ e)

-- the name that an address in the code takes
named-there : (x : Activation) (name : List ℕ) (c : Code) → IsActivation x → ContainsCode (graph_of x) (address_of_function name c).code → IsFunctionName (graphs x.world) name
named-there x name c active holds =
    active.world.program.accepted.program.ops (graph_of x) (op.AddrFn c.temps name) (graph-there x active) (op-there (graph_of x) (record c { temps = c.temps + 1 }) (op.AddrFn c.temps name) holds)

function-reaches :
    Laws → NameLaws → (bound : ℕ) (x : Activation) (numbers : Numbers) (spots : List Spot) (c : Code) (s : State) (m : Machine) (symbol : Symbol)
    → IsActivation x → IsReady x numbers spots c s m → ContainsCode (graph_of x) (address_of_function (full_name x.home.name symbol) c).code
    → Meets x.world bound m (symbol_place (env_of x numbers) symbol s) (λ v. HasValue x numbers spots [] (address_of_function (full_name x.home.name symbol) c) c s m (Some v))
unfolding symbol_place need give stop wrong command
function-reaches laws names bound x numbers spots c s m symbol active ready holds = by_pointer (source.pointer_to x.world.program name 0) refl
  where
    name : List ℕ
    name = full_name x.home.name symbol

    by_pointer : (r : Option Pointer) → source.pointer_to x.world.program name 0 ≡ r
        → Meets x.world bound m (need (option_map V.At r) s) (λ v. HasValue x numbers spots [] (address_of_function name c) c s m (Some v))
    by_pointer None e = tt
    by_pointer (Some q) e =
        let at = P.Function (flows.function_number (graphs x.world) name) in
        laws.fresh x numbers spots [] c s m (λ t. op.AddrFn t name) (V.At q) (V.At at) holds ready
        (at, subst (λ (p : Pointer). Leads spots p at) (sym (function-pointer names x name q active (named-there x name c active holds) e)) refl, refl)
        (λ rest. refl)

-- ---- the forms

pub name-keeps : Laws → NameLaws → (bound t : ℕ) (ty : QType) (symbol : Symbol) → ExpressionKeeps bound (Node t ty (Function symbol))
unfolding lower answer_of ◌>>=◌ IsTyped HasForm meaning.value_at
name-keeps laws names bound t ty symbol = λ x numbers spots c s m active typed slots holds ready.
    let y = address_of_function (full_name x.home.name symbol) c in
    let at = site (env_of x numbers) t in
    let R = HasValue x numbers spots [] y c s m in
    let places : IsOfPlaces (type_of ty) = subst IsOfPlaces (sym typed.1.0.2) tt in
    meets-then laws x.world bound m (symbol_place (env_of x numbers) symbol s) _ (λ v. HasValue x numbers spots [] y c s m (Some v)) R
    (function-reaches laws names bound x numbers spots c s m symbol active ready holds)
    (λ v u n q. subst (λ (o : Outcome (Option Value)). Meets x.world bound n o R) (sym (place-value at (type_of ty) v u places)) (meets-here x.world bound n (Some v) u R q))

pub name-address : Laws → NameLaws → (bound t : ℕ) (ty : QType) (symbol : Symbol) → AddressKeeps bound (Node t ty (Function symbol))
unfolding lower place_of
name-address laws names bound t ty symbol = λ x numbers spots c s m active typed slots places holds ready.
    function-reaches laws names bound x numbers spots c s m symbol active ready holds

pub address-of-name : Laws → NameLaws → (bound t u : ℕ) (ty own : QType) (symbol : Symbol) → ExpressionKeeps bound (Node t ty (Address (Node u own (Function symbol))))
unfolding lower answer_of place_of ◌>>=◌ give
address-of-name laws names bound t u ty own symbol = λ x numbers spots c s m active typed slots holds ready.
    let y = address_of_function (full_name x.home.name symbol) c in
    let R = HasResult x numbers spots (Node t ty (Address (Node u own (Function symbol)))) c s m in
    meets-then laws x.world bound m (symbol_place (env_of x numbers) symbol s) (λ place. give (Some place)) (λ v. HasValue x numbers spots [] y c s m (Some v)) R
    (function-reaches laws names bound x numbers spots c s m symbol active ready holds)
    (λ v w n q. meets-here x.world bound n (Some v) w R (record { done = q.done; behind = q.behind; stands = q.stands }))
