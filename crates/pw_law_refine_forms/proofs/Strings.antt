-- Addresses of globals and of the hidden objects of strings: what code names is there.
use Rattle.std.proofs.Common.{◌≡◌, ℕ, ◌+◌, Option, Some, None, option_map, List, [], ◌∷◌, ◌++◌, map, Contains, refl, ap, sym, ◌∙◌, subst, arith}
use Rattle.std.specs.Prelude.{bytes_eq}
use Rattle.std.specs.List.{flat_map}
use Rattle.std.proofs.lemmas.Option.{slice_get_within, get_or_from_slice_get}
use Rattle.std.proofs.lemmas.List.Elements.{Contains-append_left, Contains-append_right, Contains-push}
use Rattle.std.proofs.lemmas.Slice.Eq.{bytes_eq-Decides}
use Rattle.pw_value.specs.declared.value.Kind.{Kind}
use Rattle.pw_value.specs.declared.value.Value.{Value}
use Rattle.pw_value.specs.declared.value.Value.TheVariants as V
use Rattle.pw_value.specs.declared.value.Pointer.{Pointer}
use Rattle.pw_value.specs.declared.value.Pointer.TheVariants as P
use Rattle.pw_types.specs.TypeTrees.{QType, type_of}
use Rattle.pw_types.specs.FullNames.{full_name}
use Rattle.pw_types.specs.TypedTrees.{Symbol, Hidden, Node, Str, Global, Address}
use Rattle.pw_flow.specs.declared.flow.Op.{Op}
use Rattle.pw_flow.specs.declared.flow.Op.TheVariants as op
use Rattle.pw_flow.specs.declared.flow.Block.{Block}
use Rattle.pw_flow.specs.declared.flow.FlowFn.{FlowFn}
use Rattle.pw_flow.specs.declared.flow.FlowModule.{FlowModule}
use Rattle.pw_flow.specs.declared.flow.FlowGlobal.{FlowGlobal}
use Rattle.pw_lower.specs.declared.code.Code.{Code}
use Rattle.pw_lower.specs.Codes.{emit}
use Rattle.pw_lower.specs.Expressions.{lower, address_of_global, value_of_global}
use Rattle.pw_lower.specs.Modules.{lowered, lowered_function, start_of}
use Rattle.pw_cmean.specs.Worlds as source
use Rattle.pw_cmean.specs.Worlds.{ProgramModule}
use Rattle.pw_cmean.specs.Acts.{State, Gives, give, need, ◌>>=◌}
use Rattle.pw_cmean.specs.Evaluation.{symbol_place, answer_of, place_of}
use Rattle.pw_run_languages.specs.Commands.{command}
use Rattle.pw_run_languages.specs.Programs as flow
use Rattle.pw_run_languages.specs.Programs.{Program, globals_of, functions_of, block_at}
use Rattle.pw_run_languages.specs.FlowRun.{Machine}
use Rattle.pw_law_refine.specs.Standing.{Spot, Stands}
use Rattle.pw_law_refine.specs.Activations.{Activation, IsActivation, Numbers, graphs, graph_of, env_of}
use Rattle.pw_law_refine.specs.Matching.{global_size}
use Rattle.pw_law_refine.specs.Containing.{ContainsCode}
use Rattle.pw_law_refine.specs.Meeting.{Meets}
use Rattle.pw_law_refine.specs.Expressions.{IsReady, HasValue, HasResult, ExpressionKeeps}
use Rattle.pw_law_refine_forms.specs.Accesses.{AddressKeeps}
use Rattle.pw_law_refine_forms.proofs.Laws.{Laws}
use Rattle.pw_law_refine_forms.proofs.Simulation.{meets-then, meets-here}
use Rattle.pw_law_refine_forms.proofs.Access.{global-at}
use Rattle.pw_law_refine_forms.proofs.Addresses.{no-kind}
use Rattle.pw_law_refine_forms.proofs.Globals.{same-number}
use Rattle.pw_law_refine_forms.proofs.Owning.{in-map, of-map, from-cons}
use Rattle.pw_law_refine_forms.proofs.Symbols.{position-there, object-or}

-- ---- what stands in a graph

in-flat : {A B : Type 0} (f : A → List B) (xs : List A) (x : A) (y : B) → Contains xs x → Contains (f x) y → Contains (flat_map f xs) y
in-flat f [] x y h k = absurd (omega (arith, h.1))
in-flat f (z ∷ xs) x y h k =
    from-cons (Contains (f z ++ flat_map f xs) y) z x xs
    (λ e. Contains-append_left (f z) (flat_map f xs) y (subst (λ w. Contains (f w) y) (sym e) k))
    (λ t. Contains-append_right (f z) (flat_map f xs) y (in-flat f xs x y t k)) h

-- the function's graph is one of the program's
pub graph-there : (x : Activation) → IsActivation x → Contains (functions_of (graphs x.world)) (graph_of x)
unfolding lowered
graph-there x active =
    in-flat (λ (m : FlowModule). m.functions) (map (λ (m : ProgramModule). lowered m.name m.tree) x.world.program.modules) (lowered x.home.name x.home.tree) (graph_of x)
    (in-map (λ (m : ProgramModule). lowered m.name m.tree) x.world.program.modules x.home active.home)
    (Contains-append_left (map (lowered_function x.home.name x.home.tree.records) x.home.tree.functions) (start_of x.home.tree.functions) (graph_of x)
    (in-map (lowered_function x.home.name x.home.tree.records) x.home.tree.functions x.function active.function))

-- an operation of code that a graph contains is one of the graph's
pub op-there : (g : FlowFn) (c : Code) (o : Op) → ContainsCode g (emit o c) → Contains (flat_map (λ (b : Block). b.ops) g.blocks) o
op-there g c o w =
    let b = w.filled.block in
    let within = slice_get_within g.blocks c.cur b w.filled.there in
    let there : Contains g.blocks b = (c.cur, within, get_or_from_slice_get g.blocks c.cur b b w.filled.there) in
    in-flat (λ (b : Block). b.ops) g.blocks b o there
    (subst (λ (l : List Op). Contains l o) (sym w.filled.ops) (Contains-append_left (c.ops ++ o ∷ []) w.filled.rest o (Contains-push c.ops o)))

abbrev pointer-or : Program → List ℕ → Option ℕ → Pointer
pointer-or p name (Some n) = P.Object n 0
pointer-or p name None = P.Function (flow.function_number p name)

-- a global whose address code takes is there
pub record IsNumbered (x : Activation) (name : List ℕ) : Type 0 where
  pub number : ℕ
  pub flows : flow.global_number (graphs x.world) name ≡ Some number
  pub means : source.pointer_to x.world.program name 0 ≡ Some (P.Object number 0)

pub numbered : (x : Activation) (name : List ℕ) (c : Code) → IsActivation x → ContainsCode (graph_of x) (address_of_global name c).code → IsNumbered x name
numbered x name c active holds =
    let o = op.AddrGlobal c.temps name 0 in
    let gs = globals_of (graphs x.world) in
    let h = of-map (λ (g : FlowGlobal). g.name) gs name
    (active.world.program.accepted.program.ops (graph_of x) o (graph-there x active) (op-there (graph_of x) (record c { temps = c.temps + 1 }) o holds)) in
    let r = position-there (λ (g : FlowGlobal). bytes_eq g.name name) gs h.0 h.1 ((bytes_eq-Decides h.0.name name).1 h.2) in
    record {
      number = r.0;
      flows = r.1;
      means = ap (λ (n : Option ℕ). object-or x.world name n) (sym (same-number x.world name) ∙ r.1);
    }

pub address-reaches :
    Laws → (bound : ℕ) (x : Activation) (numbers : Numbers) (spots : List Spot) (c : Code) (s : State) (m : Machine) (name : List ℕ)
    → IsReady x numbers spots c s m → ContainsCode (graph_of x) (address_of_global name c).code → (n : IsNumbered x name)
    → Meets x.world bound m (Gives (V.At (P.Object n.number 0)) s) (λ v. HasValue x numbers spots [] (address_of_global name c) c s m (Some v))
unfolding command
address-reaches laws bound x numbers spots c s m name ready holds n =
    let at = V.At (P.Object n.number 0) in
    let q = global-at x numbers spots c s m name n.number ready n.flows in
    let is : V.At (flow.pointer_to (graphs x.world) name 0) ≡ at = ap (λ (o : Option ℕ). V.At (pointer-or (graphs x.world) name o)) n.flows in
    laws.fresh x numbers spots [] c s m (λ t. op.AddrGlobal t name 0) at (V.At (flow.pointer_to (graphs x.world) name 0)) holds ready
    (subst (λ (w : Value). Stands spots at w) (sym is) (P.Object n.number 0, record { object = n.number; size = global_size x.world n.number; there = q.there; inside = omega arith; is = refl }, refl))
    (λ rest. refl)

pub symbol-reaches :
    Laws → (bound : ℕ) (x : Activation) (numbers : Numbers) (spots : List Spot) (c : Code) (s : State) (m : Machine) (symbol : Symbol)
    → IsActivation x → IsReady x numbers spots c s m → ContainsCode (graph_of x) (address_of_global (full_name x.home.name symbol) c).code
    → Meets x.world bound m (symbol_place (env_of x numbers) symbol s) (λ v. HasValue x numbers spots [] (address_of_global (full_name x.home.name symbol) c) c s m (Some v))
unfolding symbol_place need give
symbol-reaches laws bound x numbers spots c s m symbol active ready holds =
    let name = full_name x.home.name symbol in
    let n = numbered x name c active holds in
    subst (λ (r : Option Pointer). Meets x.world bound m (need (option_map V.At r) s) (λ v. HasValue x numbers spots [] (address_of_global name c) c s m (Some v))) (sym n.means)
    (address-reaches laws bound x numbers spots c s m name ready holds n)

-- ---- the forms

pub string-address : Laws → (bound t : ℕ) (ty : QType) (k : ℕ) → AddressKeeps bound (Node t ty (Str k))
unfolding lower place_of
string-address laws bound t ty k = λ x numbers spots c s m active typed slots places holds ready.
    symbol-reaches laws bound x numbers spots c s m (Hidden k) active ready holds

pub global-address : Laws → (bound t : ℕ) (ty : QType) (symbol : Symbol) → AddressKeeps bound (Node t ty (Global symbol))
unfolding lower place_of
global-address laws bound t ty symbol = λ x numbers spots c s m active typed slots places holds ready.
    let name = full_name x.home.name symbol in
    let none = no-kind (type_of ty) places in
    subst (λ (i : Option Kind). Meets x.world bound m (symbol_place (env_of x numbers) symbol s) (λ v. HasValue x numbers spots [] (value_of_global i name c) c s m (Some v))) (sym none)
    (symbol-reaches laws bound x numbers spots c s m symbol active ready (subst (λ (i : Option Kind). ContainsCode (graph_of x) (value_of_global i name c).code) none holds))

pub address-of-global : Laws → (bound t u : ℕ) (ty own : QType) (symbol : Symbol) → ExpressionKeeps bound (Node t ty (Address (Node u own (Global symbol))))
unfolding lower answer_of place_of ◌>>=◌ give
address-of-global laws bound t u ty own symbol = λ x numbers spots c s m active typed slots holds ready.
    let R = HasResult x numbers spots (Node t ty (Address (Node u own (Global symbol)))) c s m in
    meets-then laws x.world bound m (symbol_place (env_of x numbers) symbol s) (λ place. give (Some place)) (λ v. HasValue x numbers spots [] (address_of_global (full_name x.home.name symbol) c) c s m (Some v)) R
    (symbol-reaches laws bound x numbers spots c s m symbol active ready holds)
    (λ v w n q. meets-here x.world bound n (Some v) w R (record { done = q.done; behind = q.behind; stands = q.stands }))

pub address-of-string : Laws → (bound t u : ℕ) (ty own : QType) (k : ℕ) → ExpressionKeeps bound (Node t ty (Address (Node u own (Str k))))
unfolding lower answer_of place_of ◌>>=◌ give
address-of-string laws bound t u ty own k = λ x numbers spots c s m active typed slots holds ready.
    let R = HasResult x numbers spots (Node t ty (Address (Node u own (Str k)))) c s m in
    meets-then laws x.world bound m (symbol_place (env_of x numbers) (Hidden k) s) (λ place. give (Some place)) (λ v. HasValue x numbers spots [] (address_of_global (full_name x.home.name (Hidden k)) c) c s m (Some v)) R
    (symbol-reaches laws bound x numbers spots c s m (Hidden k) active ready holds)
    (λ v w n q. meets-here x.world bound n (Some v) w R (record { done = q.done; behind = q.behind; stands = q.stands }))
