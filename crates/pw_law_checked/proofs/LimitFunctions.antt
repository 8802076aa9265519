-- Functions keep the limits on parameters and rooms (ISO C90 5.2.4.1), and their initialisers have parts.
use Rattle.std.specs.Prelude.{ℕ, zero, suc, ◌≡◌, ◌⊎◌, ◌+◌, ◌*◌, ◌≤◌, nat_lt, if◌then◌else◌, Bool, true, false, Option, None, Some, is_some, unwrap_or, List, [], ◌∷◌, ◌++◌, length, map, slice_get, sum_by, All, Ok, refl}
use Rattle.std.specs.Option.{option_or}
use Rattle.std.proofs.Common.{arith, ap, sym, subst, ◌∙◌, inl, inr}
use Rattle.std.proofs.lemmas.Bool.{ltb-false}
use Rattle.std.proofs.lemmas.List.Elements.{All-weaker}
use Rattle.std.proofs.lemmas.List.Sums.{sum_by-cons}
use Rattle.std.proofs.lemmas.Option.{slice_get-get_or}
use Rattle.pw_tree.specs.Scopes.{Env, after_external}
use Rattle.pw_tree.specs.Trees.{Word, Function, External, Definition, Declaration, Module, Block}
use Rattle.pw_tree.specs.Trees as S
use Rattle.pw_tree.specs.WellFormed.{WellFormedBlock, WellFormedFunction, WellFormedExternal, WellFormedExternals, WellFormedModule}
use Rattle.pw_law_lower.specs.Parts.{partless}
use Rattle.pw_types.specs.Records.{IsObjectType}
use Rattle.pw_types.specs.Layouts.{round_up}
use Rattle.pw_types.specs.Rooms.{local_room, room_of, nodes_of, parameter_room, node_room, start_room}
use Rattle.pw_types.specs.TypeTrees.{Void, Int, Pointer, Array, Function as FunctionType, Record, QType, Qualified, QTypes, type_of, RecordValue}
use Rattle.pw_types.specs.WellTyped.{IsScalar}
use Rattle.pw_types.specs.TypedTrees.{FunctionValue, LocalValue, ModuleValue}
use Rattle.pw_value.specs.Limits.{parameter_limit, room_limit}
use Rattle.pw_check_walk.specs.Walks.{Walk, Done, bind}
use Rattle.pw_check_rules.specs.Checks.{Checks, checking}
use Rattle.pw_check_rules.specs.Declarations.{name_of}
use Rattle.pw_check_rules.specs.Derivations.{Bindings, ParameterValue, Derivation, spot_of, Declared}
use Rattle.pw_check_rules.specs.Functions.{ends_in_function, function_of, bindings_of, no_bindings, parameter_local, enter_body, definition_asking, definition_rules, measured_rule, body_rule, function_rule}
use Rattle.pw_check_rules.specs.Kinds.{count_of_types}
use Rattle.pw_check_rules.specs.Leaves.{first_of_declaration, parameter_types}
use Rattle.pw_check_rules.specs.Limits.{above, many_parameters}
use Rattle.pw_check_rules.specs.Linkage.{define_function}
use Rattle.pw_check_rules.specs.Modules.{external_rule, externals_rule, module_rule}
use Rattle.pw_check_rules.specs.SpecifierLists.{Specified}
use Rattle.pw_check_rules.specs.States.{State, leave_scope, start, Entity}
use Rattle.pw_check_rules.specs.Statements.{block_rule, labels_in_block}
use Rattle.pw_law_checked.specs.Lawful.{IsLawful, IsLawfulType, IsObjectLike, Extends}
use Rattle.pw_law_checked.proofs.Walking.{Post, post_end, post_bind, post_weaken, post_both, AreMet}
use Rattle.pw_law_checked.proofs.Lists.{get_more, never_some, some_same}
use Rattle.pw_law_checked.proofs.Types.{no, lawful_later, extends_trans}
use Rattle.pw_law_checked.proofs.Conversions.{scalar_no_function}
use Rattle.pw_law_checked.proofs.Objects.{layout_same, object_complete, object_later, small}
use Rattle.pw_law_checked.proofs.States.{Grows}
use Rattle.pw_law_checked.proofs.Changes.{left_lawful_alone}
use Rattle.pw_law_checked.proofs.Leaves.{AreScalars, GoodType, GoodSpecified, GoodDeclared, GoodBindings, bindings_later, built_runs}
use Rattle.pw_law_checked.proofs.Phrases.{declarator_post}
use Rattle.pw_law_checked.proofs.Keeping.{After, function_kept, Knows}
use Rattle.pw_law_checked.proofs.Declaring.{declared_knows}
use Rattle.pw_law_checked.proofs.Declarations.{decl_goes}
use Rattle.pw_law_checked.proofs.Statements.{block_goes}
use Rattle.pw_law_checked.proofs.Modules.{body_lawful, good_if_any}
use Rattle.pw_law_checked.proofs.Adding.{specified_all}
use Rattle.pw_law_checked.proofs.LabelLaws.{asked_post}
use Rattle.pw_law_checked.proofs.FunctionLaws.{ends_here, met_post, end_same}
use Rattle.pw_law_checked.proofs.FunctionTypes.{last_of, IsBound, IsBoundDeclared, IsBuiltBy, declarator_bound, built_by, ends_so}
use Rattle.pw_law_checked.proofs.InitialiserParts.{block_parts}

-- ---- parameters

above_so : (most n : ℕ) → is_some (above most n) ≡ false → n ≤ most
above_so most n e = by (nat_lt most n) refl e
  where
    by : (b : Bool) → nat_lt most n ≡ b → is_some (if b then Some n else None) ≡ false → n ≤ most
    by true f g = no (sym g)
    by false f g = ltb-false most n f

second_false : {A : Type 0} (x y : Option A) → is_some (option_or x y) ≡ false → is_some y ≡ false
second_false None y e = e
second_false (Some x) y e = no (sym e)

few_types : (q : QType) (ps : QTypes) → is_some (many_parameters (FunctionType q ps)) ≡ false → count_of_types ps ≤ parameter_limit
unfolding many_parameters
few_types (Qualified ty c v) ps e = above_so parameter_limit (count_of_types ps) (second_false (many_parameters ty) (above parameter_limit (count_of_types ps)) e)

count_is : (ps : List ParameterValue) → count_of_types (parameter_types ps) ≡ length ps
count_is [] = refl
count_is (p ∷ ps) = let h : count_of_types (parameter_types ps) ≡ length ps = count_is ps in omega (arith, h)

-- the parameters that a definition's declarator binds
few_bound : (steps : List Derivation) (bindings : Option Bindings) (q : QType) → ends_in_function steps ≡ true → IsBound (last_of steps) bindings → IsBuiltBy (last_of steps) q
    → is_some (many_parameters (type_of q)) ≡ false → length (unwrap_or bindings no_bindings).parameters ≤ parameter_limit
few_bound steps bindings q ends bound built few =
    let e = ends_so steps ends in
    let x = subst (λ o. IsBound o bindings) e.1 bound in
    let y = subst (λ o. IsBuiltBy o q) e.1 built in
    let own : unwrap_or bindings no_bindings ≡ x.0 = ap (λ o. unwrap_or o no_bindings) x.1 in
    let small : count_of_types e.0 ≤ parameter_limit = few_types y.0 e.0 (subst (λ ty. is_some (many_parameters ty) ≡ false) y.1 few) in
    subst (λ (b : Bindings). length b.parameters ≤ parameter_limit) (sym own)
    (subst (λ n. n ≤ parameter_limit) (ap count_of_types x.2 ∙ count_is x.0.parameters) small)

-- ---- rooms

-- each local of a function has a type that an object can have
abbrev AreObjects : List RecordValue → List LocalValue → Type 0
AreObjects r ls = (k : ℕ) (l : LocalValue) → slice_get ls k ≡ Some l → IsObjectType r (type_of l.ty)

rooms_same : (a b : List RecordValue) (ls : List LocalValue) → Extends a b → AreObjects a ls → sum_by (local_room b) ls ≡ sum_by (local_room a) ls
rooms_same a b [] x h = refl
rooms_same a b (l ∷ ls) x h =
    let same : local_room b l ≡ local_room a l =
    ap (λ o. round_up (unwrap_or (Rattle.std.specs.Prelude.option_map (λ (y : Rattle.pw_types.specs.declared.record.Layout.Layout). y.size) o) 0 + 1) 8)
    (layout_same a b x (type_of l.ty) (object_complete a (type_of l.ty) (h 0 l refl))) in
    let rest : sum_by (local_room b) ls ≡ sum_by (local_room a) ls = rooms_same a b ls x (λ k y e. h (suc k) y e) in
    sum_by-cons (local_room b) l ls ∙ (ap (λ n. n + sum_by (local_room b) ls) same ∙ (ap (λ n. local_room a l + n) rest ∙ sym (sum_by-cons (local_room a) l ls)))

-- a scalar is an object
scalar_object : (r : List RecordValue) (q : QType) → IsLawfulType r (type_of q) → IsScalar (type_of q) → IsObjectLike r q × IsObjectType r (type_of q)
scalar_object r (Qualified (Int k) c v) h scalar = (record { lawful = h; object = λ f. scalar_no_function (Int k) scalar f }, small k)
scalar_object r (Qualified (Pointer q) c v) h scalar = (record { lawful = h; object = λ f. scalar_no_function (Pointer q) scalar f }, omega arith)
scalar_object r (Qualified Void c v) h scalar = absurd scalar
scalar_object r (Qualified (Array q n) c v) h scalar = absurd scalar
scalar_object r (Qualified (FunctionType q ps) c v) h scalar = absurd scalar
scalar_object r (Qualified (Record n) c v) h scalar = absurd scalar

parameter_objects : (r : List RecordValue) (ps : List ParameterValue) → AreScalars r ps → (k : ℕ) (l : LocalValue) → slice_get (map parameter_local ps) k ≡ Some l → IsObjectLike r l.ty × IsObjectType r (type_of l.ty)
parameter_objects r [] h k l e = never_some e
parameter_objects r (p ∷ ps) h zero l e = subst (λ (x : LocalValue). IsObjectLike r x.ty × IsObjectType r (type_of x.ty)) (some_same e) (scalar_object r p.ty h.0 h.1)
parameter_objects r (p ∷ ps) h (suc k) l e = parameter_objects r ps h.2 k l e

-- ---- functions

pub record IsKeptFunction (r : List RecordValue) (f : FunctionValue) : Type 0 where
  pub params : f.params ≤ parameter_limit
  pub locals : AreObjects r f.locals
  pub parts : partless f.body ≡ 0
  pub room : room_of r f ≤ room_limit

kept_later : (a b : List RecordValue) (f : FunctionValue) → Extends a b → IsKeptFunction a f → IsKeptFunction b f
kept_later a b f x h = record {
  params = h.params;
  locals = λ k l e. object_later a b x (type_of l.ty) (h.locals k l e);
  parts = h.parts;
  room = subst (λ n. ((n + parameter_room * f.params) + node_room * nodes_of f) + start_room ≤ room_limit) (sym (rooms_same a b f.locals x h.locals)) h.room;
}

abbrev AreKept : List RecordValue → List FunctionValue → Type 0
AreKept r fs = (i : ℕ) (f : FunctionValue) → slice_get fs i ≡ Some f → IsKeptFunction r f

all_later : (a b : List RecordValue) (fs : List FunctionValue) → Extends a b → AreKept a fs → AreKept b fs
all_later a b fs x h i f e = kept_later a b f x (h i f e)

one_kept : (r : List RecordValue) (fs : List FunctionValue) (f : FunctionValue) → AreKept r fs → IsKeptFunction r f → AreKept r (fs ++ f ∷ [])
one_kept r fs f all h i g e = by (get_more fs f i g e)
  where
    by : (slice_get fs i ≡ Some g) ⊎ ((i ≡ length fs) × (f ≡ g)) → IsKeptFunction r g
    by (inl k) = all i g k
    by (inr k) = subst (IsKeptFunction r) k.1 h

-- how functions are kept on the way
abbrev Keeps : {A : Type 0} → State → A × State → Type 0
Keeps s r = IsLawful r.1 × (AreKept s.types.records s.made.functions → AreKept r.1.types.records r.1.made.functions)

keeps_later : {A : Type 0} (s t : State) (w : Walk (A × State)) → Extends s.types.records t.types.records → t.made.functions ≡ s.made.functions → Post w (Keeps t) → Post w (Keeps s)
keeps_later s t w x same h =
    post_weaken w (Keeps t) (Keeps s) h (λ r g. (g.0, λ all. g.1 (all_later s.types.records t.types.records t.made.functions x (subst (AreKept s.types.records) (sym same) all))))

-- what the declarator of a definition has said
record IsDeclaredSo (s : State) (d : Declared) : Type 0 where
  few : length (bindings_of d).parameters ≤ parameter_limit
  entities : List Entity
  bindings : GoodBindings s.types.records entities (bindings_of d)

body_kept : (env : Env) (s : State) (w : Word) (place : ℕ) (q : QType) (d : Declared) (block : Block) → IsLawful s → IsDeclaredSo s d → WellFormedBlock env block
    → Post (body_rule w place q (bindings_of d) block s) (Keeps s)
unfolding body_rule measured_rule bind
body_kept env s w place q d block l h text =
    let c : IsLawful (enter_body q (bindings_of d) (labels_in_block block) s) = body_lawful s h.entities q (bindings_of d) (labels_in_block block) l h.bindings in
    post_bind (block_rule block (enter_body q (bindings_of d) (labels_in_block block) s)) _
    (λ r. (IsLawful r.1 × After (enter_body q (bindings_of d) (labels_in_block block) s) r.1 × Unit {0}) × (partless r.0 ≡ 0)) (Keeps s)
    (post_both _ (λ r. IsLawful r.1 × After (enter_body q (bindings_of d) (labels_in_block block) s) r.1 × Unit {0}) (λ r. partless r.0 ≡ 0)
    (block_goes block (enter_body q (bindings_of d) (labels_in_block block) s) c) (block_parts env block (enter_body q (bindings_of d) (labels_in_block block) s) text))
    (λ r g met.
    let n : IsLawful (leave_scope r.1) = left_lawful_alone r.1 g.0.0 in (
      record { contents = n.contents; begun = n.begun; counted = n.counted; entities = n.entities; tags = n.tags; linked = n.linked; laid = n.laid; apart = n.apart; depths = n.depths },
      λ all. one_kept r.1.types.records r.1.made.functions (function_of r.1 w place q (bindings_of d) r.0)
          (all_later s.types.records r.1.types.records r.1.made.functions g.0.1.extends (subst (AreKept s.types.records) (sym g.0.1.functions) all)) (record {
            params = h.few;
            locals = λ k x e. (g.0.1.locals (parameter_objects s.types.records (bindings_of d).parameters h.bindings.scalars) k x e).1;
            parts = g.1;
            room = ltb-false room_limit (room_of r.1.types.records (function_of r.1 w place q (bindings_of d) r.0)) met.1.0;
          }),
    ))

-- the definition's own point
few_here : (s : State) (w : Word) (b : Specified) (d : Declared) (ds : List S.Decl) (q : QType) → AreMet (definition_rules s w b d ds q) → is_some (many_parameters (type_of q)) ≡ false
few_here s w b d ds q met = met.1.1.1.1.1.1.1.1.1.1.1.1.0

function_keeps : (env : Env) (s : State) (f : Function) → IsLawful s → WellFormedFunction env f → Post (function_rule f s) (Keeps s)
unfolding function_rule
function_keeps env s f l text =
    post_bind _ _ (λ r. IsLawful r.1 × Grows s r.1 × GoodSpecified r.1 r.0) (Keeps s) (specified_all s f.specifiers (first_of_declaration f.specifiers f.declarator) l) (λ r g.
    post_bind _ _ (λ u. (IsLawful u.1 × Grows r.1 u.1 × GoodDeclared u.1 u.0) × IsBoundDeclared u.0) (Keeps s)
    (post_both _ (λ u. IsLawful u.1 × Grows r.1 u.1 × GoodDeclared u.1 u.0) (λ u. IsBoundDeclared u.0) (declarator_post f.declarator r.1 g.0) (declarator_bound f.declarator r.1)) (λ u h.
    post_bind _ _ (λ v. (IsLawful v.1 × Grows u.1 v.1 × GoodType v.1 v.0) × IsBuiltBy (last_of u.0.derivations) v.0) (Keeps s)
    (post_both _ (λ v. IsLawful v.1 × Grows u.1 v.1 × GoodType v.1 v.0) (λ v. IsBuiltBy (last_of u.0.derivations) v.0)
    (built_runs u.1 (spot_of u.0.name r.0.first r.0.tag) u.0.derivations r.0.ty h.0.0 h.0.2.0 (lawful_later r.1.types.records u.1.types.records h.0.1.extends (type_of r.0.ty) g.2))
    (built_by (spot_of u.0.name r.0.first r.0.tag) u.0.derivations r.0.ty u.1 refl)) (λ v i.
    asked_post v.1 _ _ (Keeps s)
    (post_bind _ _ (λ e. (IsLawful e.1 × Knows v.1 e.1) × ((ends_in_function u.0.derivations ≡ true) × (is_some (many_parameters (type_of v.0)) ≡ false))) (Keeps s)
    (met_post v.1 _ _ (λ e. (IsLawful e.1 × Knows v.1 e.1) × ((ends_in_function u.0.derivations ≡ true) × (is_some (many_parameters (type_of v.0)) ≡ false))) (λ met.
    post_weaken _ (λ e. IsLawful e.1 × Knows v.1 e.1) (λ e. (IsLawful e.1 × Knows v.1 e.1) × ((ends_in_function u.0.derivations ≡ true) × (is_some (many_parameters (type_of v.0)) ≡ false)))
    (declared_knows v.1 (name_of u.0).text (name_of u.0).token r.0.tag (definition_asking r.0) v.0 i.0.0 i.0.2)
    (λ e j. (j, (ends_here v.1 (name_of u.0) r.0 u.0 f.declarations v.0 met, few_here v.1 (name_of u.0) r.0 u.0 f.declarations v.0 met))))) (λ e j.
    let c = function_kept e.1 e.0 j.0.0 in
    asked_post _ _ _ (Keeps s)
    (keeps_later s (define_function e.0 e.1) (body_rule (name_of u.0) e.0 v.0 (bindings_of u.0) f.body (define_function e.0 e.1))
    (extends_trans g.1.extends (extends_trans h.0.1.extends (extends_trans i.0.1.extends (extends_trans j.0.1.extends c.1.extends))))
    (c.1.functions ∙ (j.0.1.functions ∙ (i.0.1.functions ∙ (h.0.1.functions ∙ g.1.functions))))
    (body_kept _ (define_function e.0 e.1) (name_of u.0) e.0 v.0 u.0 f.body c.0 (record {
      few = few_bound u.0.derivations u.0.bindings v.0 j.1.0 h.1 i.1 j.1.1;
      entities = v.1.scopes.entities;
      bindings = good_if_any (define_function e.0 e.1).types.records v.1.scopes.entities u.0.bindings
          (bindings_later v.1.types.records (define_function e.0 e.1).types.records v.1.scopes.entities v.1.scopes.entities (extends_trans j.0.1.extends c.1.extends) (λ k x f. f) u.0.bindings
          (bindings_later u.1.types.records v.1.types.records u.1.scopes.entities v.1.scopes.entities i.0.1.extends i.0.1.entities u.0.bindings h.0.2.1));
    }) text.3)))))))

-- ---- modules

external_keeps : (env : Env) (s : State) (x : External) → IsLawful s → WellFormedExternal env x → Post (external_rule x s) (Keeps s)
unfolding external_rule
external_keeps env s (Definition f) l text = function_keeps env s f l text
external_keeps env s (Declaration d) l text =
    post_bind _ _ (λ r. IsLawful r.1 × After s r.1 × Unit {0}) (Keeps s) (decl_goes s d l)
    (λ r g. (g.0, λ all. all_later s.types.records r.1.types.records r.1.made.functions g.1.extends (subst (AreKept s.types.records) (sym g.1.functions) all)))

externals_keep : (env : Env) (xs : List External) (s : State) → IsLawful s → WellFormedExternals env xs → Post (externals_rule xs s) (Keeps s)
unfolding externals_rule
externals_keep env [] s l text = (l, λ all. all)
externals_keep env (x ∷ rest) s l text =
    post_bind _ _ (Keeps s) (Keeps s) (external_keeps env s x l text.0)
    (λ r h. post_weaken (externals_rule rest r.1) (Keeps r.1) (Keeps s) (externals_keep (after_external env x) rest r.1 h.0 text.1) (λ u k. (k.0, λ all. k.1 (h.1 all))))

module_keeps : (m : Module) (s : State) → IsLawful s → WellFormedModule m → Post (module_rule m s) (λ r. AreKept s.types.records s.made.functions → AreKept r.0.records r.0.functions)
unfolding module_rule
module_keeps m s l text =
    post_bind _ _ (Keeps s) (λ r. AreKept s.types.records s.made.functions → AreKept r.0.records r.0.functions)
    (post_bind _ _ (Keeps s) (Keeps s) (externals_keep [] m.externals s l text.1) (λ r h. h)) (λ r h.
    post_bind _ _ (λ u. u.1 ≡ r.1) (λ u. AreKept s.types.records s.made.functions → AreKept u.0.records u.0.functions) (end_same r.0 r.1) (λ u e all.
    subst (λ t. AreKept t.types.records t.made.functions) (sym e) (h.1 all)))

kept_all : (r : List RecordValue) (fs : List FunctionValue) → AreKept r fs → All (IsKeptFunction r) fs
kept_all r fs h = λ k d below. h k _ (slice_get-get_or fs k d below)

checking_keeps : (m : Module) → IsLawful start → WellFormedModule m → Post (bind (module_rule m start) (λ r. Done r.0)) (λ v. All (IsKeptFunction v.records) v.functions)
checking_keeps m l text =
    post_bind (module_rule m start) (λ r. Done r.0) (λ r. AreKept start.types.records start.made.functions → AreKept r.0.records r.0.functions) (λ v. All (IsKeptFunction v.records) v.functions) (module_keeps m start l text)
    (λ r h. kept_all r.0.records r.0.functions (h (λ i f e. never_some e)))

functions_kept : (tree : Module) (m : ModuleValue) → WellFormedModule tree → Checks tree (Ok m) → All (IsKeptFunction m.records) m.functions
unfolding checking
functions_kept tree m text h = post_end (checking tree) m (λ v. All (IsKeptFunction v.records) v.functions) h (checking_keeps tree Rattle.pw_law_checked.proofs.Laws.start_lawful text)

pub module_parts : (tree : Module) (m : ModuleValue) → WellFormedModule tree → Checks tree (Ok m) → All (λ f. partless f.body ≡ 0) m.functions
module_parts tree m text h = All-weaker (IsKeptFunction m.records) (λ f. partless f.body ≡ 0) (λ f k. k.parts) m.functions (functions_kept tree m text h)

pub module_params : (tree : Module) (m : ModuleValue) → WellFormedModule tree → Checks tree (Ok m) → All (λ f. f.params ≤ parameter_limit) m.functions
module_params tree m text h = All-weaker (IsKeptFunction m.records) (λ f. f.params ≤ parameter_limit) (λ f k. k.params) m.functions (functions_kept tree m text h)

pub module_rooms : (tree : Module) (m : ModuleValue) → WellFormedModule tree → Checks tree (Ok m) → All (λ f. room_of m.records f ≤ room_limit) m.functions
module_rooms tree m text h = All-weaker (IsKeptFunction m.records) (λ f. room_of m.records f ≤ room_limit) (λ f k. k.room) m.functions (functions_kept tree m text h)
