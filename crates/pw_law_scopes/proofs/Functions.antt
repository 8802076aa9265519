-- Functions and modules: a function's body stands in the scope of its parameters.
use Rattle.std.specs.Prelude.{ℕ, ◌≡◌, ◌<◌, ◌≤◌, ◌+◌, ◌⊎◌, true, Option, None, Some, unwrap_or, List, [], ◌∷◌, ◌++◌, length, map, slice_get, All, Ok, refl}
use Rattle.std.specs.Option.{option_map_or}
use Rattle.std.proofs.Common.{arith, sym, subst, ◌∙◌, inl, inr}
use Rattle.std.proofs.lemmas.Option.{slice_get-get_or}
use Rattle.pw_tree.specs.Trees.{Word, Function, External, Definition, Declaration, Module, Block}
use Rattle.pw_tree.specs.Trees as S
use Rattle.pw_types.specs.TypeTrees.{QType, type_of}
use Rattle.pw_types.specs.TypedTrees.{FunctionValue, ModuleValue}
use Rattle.pw_check_walk.specs.Walks.{Walk, Done, Passing, bind}
use Rattle.pw_check_rules.specs.Checks.{Checks, checking}
use Rattle.pw_check_rules.specs.Declarations.{name_of}
use Rattle.pw_check_rules.specs.Derivations.{Bindings, spot_of, Declared}
use Rattle.pw_check_rules.specs.Functions.{ends_in_function, function_of, bindings_of, no_bindings, enter_body, definition_asking, definition_rules, measured_rule, body_rule, function_rule}
use Rattle.pw_check_rules.specs.Kinds.{is_function}
use Rattle.pw_check_rules.specs.Leaves.{first_of_declaration}
use Rattle.pw_check_rules.specs.Linkage.{declare_linked, define_function, place_for, is_linked}
use Rattle.pw_check_rules.specs.Modules.{external_rule, externals_rule, module_rule}
use Rattle.pw_check_rules.specs.SpecifierLists.{Specified}
use Rattle.pw_check_rules.specs.States.{State, entity_here, start}
use Rattle.pw_check_rules.specs.Statements as R
use Rattle.pw_check_rules.specs.Statements.{block_rule}
use Rattle.pw_check_rules.specs.declared.names.Entry.{Entry}
use Rattle.pw_law_checked.specs.Lawful.{IsLawful, IsLawfulType}
use Rattle.pw_law_checked.specs.Words.{WordsInStatement}
use Rattle.pw_law_checked.proofs.Walking.{Post, post_end, post_bind, post_weaken, post_both, truth, AreMet}
use Rattle.pw_law_checked.proofs.Lists.{get_either, get_map, get_more, get_within, some_same, never_some}
use Rattle.pw_law_checked.proofs.Types.{no, lawful_later}
use Rattle.pw_law_checked.proofs.States.{Grows, grows_trans, HasEntity}
use Rattle.pw_law_checked.proofs.Leaves.{GoodType, GoodSpecified, GoodDeclared, GoodBindings, bindings_later, built_runs}
use Rattle.pw_law_checked.proofs.Phrases.{declarator_post}
use Rattle.pw_law_checked.proofs.Locals.{IsPlaced, ArePlaced, left_placed}
use Rattle.pw_law_checked.proofs.Parameters.{IsParameter, IsBoundThere, IsBoundIfAny, bound_later, declarator_there}
use Rattle.pw_law_checked.proofs.Sound.{Sound}
use Rattle.pw_law_checked.proofs.ObjectTypes.{function_keeps}
use Rattle.pw_law_checked.proofs.Keeping.{deeper_sound, After, Kept, after_trans}
use Rattle.pw_law_checked.proofs.Declaring.{declared_goes, function_after, GoodPlace}
use Rattle.pw_law_checked.proofs.Ending.{start_sound}
use Rattle.pw_law_checked.proofs.Laws.{start_lawful}
use Rattle.pw_law_checked.proofs.Statements.{block_goes}
use Rattle.pw_law_checked.proofs.Modules.{OnceDefined, Onwards, none_defined, body_entered, good_bindings, built_kind, is_linkable, external_post}
use Rattle.pw_law_checked.proofs.Bodies.{body_placed, declared_bound, defined_bound}
use Rattle.pw_law_checked.proofs.Adding.{IsReady, Adds, Declaring, adds_trans, adds_grows, changed_adds, specified_all, decl_declares}
use Rattle.pw_law_checked.proofs.LabelLaws.{asked_post}
use Rattle.pw_law_checked.proofs.FunctionLaws.{ends_here, met_post, end_same}
use Rattle.pw_law_scopes.specs.Scoped.{IsScopedStatement}
use Rattle.pw_law_scopes.proofs.Visible.{Seen}
use Rattle.pw_law_scopes.proofs.Walked.{Stands, BlockWalked, block_walked}

-- ---- the state at a body's start

-- the parameters alone can be seen
parameters_seen : (s : State) (q : QType) (b : Bindings) (names : List (List ℕ)) → ArePlaced s → s.scopes.depth ≡ 0 → IsLawful s → IsBoundThere s b → (d k : ℕ) → Seen (enter_body q b names s) d k → k < length b.parameters
parameters_seen s q b names placed outer l bound d k v = by (get_either s.scopes.ordinary (map (λ (x : List ℕ × ℕ). (x.0, record { place = x.1; depth = s.scopes.depth + 1 })) b.ordinary) v.index v.entry v.there)
  where
    by : (slice_get s.scopes.ordinary v.index ≡ Some v.entry) ⊎ ((j : ℕ) × (slice_get (map (λ (x : List ℕ × ℕ). (x.0, record { place = x.1; depth = s.scopes.depth + 1 })) b.ordinary) j ≡ Some v.entry))
        → k < length b.parameters
    by (inl f) =
        let x = placed v.index v.entry f in
        let local = subst (IsPlaced s.body.locals v.entry.1.depth) (some_same (sym x.1 ∙ v.stands)) x.2 in
        let deep : 0 < v.entry.1.depth = local.1 in
        let least : v.entry.1.depth ≤ s.scopes.depth = l.depths v.index v.entry f in
        omega (arith, deep, least, outer)
    by (inr f) =
        let y = get_map (λ (x : List ℕ × ℕ). let z : List ℕ × Entry = (x.0, record { place = x.1; depth = s.scopes.depth + 1 }) in z) b.ordinary f.0 v.entry f.1 in
        let x = subst (λ (z : List ℕ × Entry). HasEntity (IsParameter b.parameters) s z.1.place) y.2 (bound f.0 y.0 y.1) in
        let parameter = subst (IsParameter b.parameters) (some_same (sym x.1 ∙ v.stands)) x.2 in
        get_within b.parameters k parameter.0 parameter.1

-- ---- bodies

-- its locals are in scope where the body names them
abbrev pub HasScopedBody : FunctionValue → Type 0
HasScopedBody f = WordsInStatement f.body → IsScopedStatement (λ k. k < f.params) f.body

abbrev AllScoped : List FunctionValue → Type 0
AllScoped fs = (i : ℕ) (f : FunctionValue) → slice_get fs i ≡ Some f → HasScopedBody f

one_more : (fs : List FunctionValue) (f : FunctionValue) → AllScoped fs → HasScopedBody f → AllScoped (fs ++ f ∷ [])
one_more fs f all h i g e = by (get_more fs f i g e)
  where
    by : (slice_get fs i ≡ Some g) ⊎ ((i ≡ length fs) × (f ≡ g)) → HasScopedBody g
    by (inl k) = all i g k
    by (inr k) = subst HasScopedBody k.1 h

-- what is known of a definition where its body begins, some time behind its declarator
record Begins (v s : State) (d : Declared) : Type 0 where
  before : IsLawful v
  lawful : IsLawful s
  after : After v s
  good : GoodBindings v.types.records v.scopes.entities (bindings_of d)
  sound : Sound None v
  placed : ArePlaced s
  counting : s.made.counting ≡ true
  outer : s.scopes.depth ≡ 0
  bound : IsBoundThere s (bindings_of d)

abbrev Scopes : State → Unit {0} × State → Type 0
Scopes s r = ArePlaced r.1 × (r.1.made.counting ≡ true) × (AllScoped s.made.functions → AllScoped r.1.made.functions)

body_scoped : (v s : State) (w : Word) (place : ℕ) (q : QType) (d : Declared) (block : Block) → Begins v s d → Post (body_rule w place q (bindings_of d) block s) (Scopes s)
unfolding body_rule measured_rule bind
body_scoped v s w place q d block h =
    let entry : IsLawful (enter_body q (bindings_of d) (R.labels_in_block block) s) × After (Rattle.pw_check_rules.specs.States.one_deeper v) (enter_body q (bindings_of d) (R.labels_in_block block) s) =
    body_entered v s q (bindings_of d) (R.labels_in_block block) h.after h.lawful h.good h.before.depths in
    let x : Stands (λ k. k < length (bindings_of d).parameters) (enter_body q (bindings_of d) (R.labels_in_block block) s) = record {
      lawful = entry.0;
      ready = record {
        placed = body_placed s q (bindings_of d) (R.labels_in_block block) h.placed h.outer h.lawful h.bound;
        counting = h.counting;
        sound = entry.1.sound (deeper_sound h.sound);
      };
      inside = parameters_seen s q (bindings_of d) (R.labels_in_block block) h.placed h.outer h.lawful h.bound;
    } in
    post_bind (block_rule block (enter_body q (bindings_of d) (R.labels_in_block block) s)) _
    (λ r. (IsLawful r.1 × After (enter_body q (bindings_of d) (R.labels_in_block block) s) r.1 × Unit {0}) × BlockWalked (λ k. k < length (bindings_of d).parameters) (enter_body q (bindings_of d) (R.labels_in_block block) s) r) (Scopes s)
    (post_both _ (λ r. IsLawful r.1 × After (enter_body q (bindings_of d) (R.labels_in_block block) s) r.1 × Unit {0}) (BlockWalked (λ k. k < length (bindings_of d).parameters) (enter_body q (bindings_of d) (R.labels_in_block block) s))
    (block_goes block (enter_body q (bindings_of d) (R.labels_in_block block) s) entry.0)
    (block_walked block (enter_body q (bindings_of d) (R.labels_in_block block) s) (λ k. k < length (bindings_of d).parameters) x (let inner : 0 < s.scopes.depth + 1 = omega arith in inner)))
    (λ r g met. (
      left_placed r.1 g.1.0.ready.placed,
      g.1.0.ready.counting,
      λ all. one_more r.1.made.functions (function_of r.1 w place q (bindings_of d) r.0) (subst AllScoped (sym g.0.1.functions) all) g.1.1,
    ))

-- ---- definitions

linked_here : (s : State) (w : Word) (b : Specified) (d : Declared) (ds : List S.Decl) (q : QType) → AreMet (definition_rules s w b d ds q) → option_map_or is_linked (entity_here s w.text) true ≡ true
linked_here s w b d ds q met = truth (option_map_or is_linked (entity_here s w.text) true) met.0

bound_of : (s : State) (o : Option Bindings) → IsBoundIfAny s o → IsBoundThere s (unwrap_or o no_bindings)
bound_of s None h = λ i e at. never_some at
bound_of s (Some b) h = h

-- what is known behind the name of a definition
abbrev Named : State → Declared → QType → ℕ × State → Type 0
Named v d q e =
    (IsLawful e.1 × After v e.1 × GoodPlace (name_of d).text q (place_for v (name_of d).text) e.1 e.0) × ((Adds v e.1 × IsBoundThere e.1 (bindings_of d)) × (ends_in_function d.derivations ≡ true))

name_bound : (v : State) (d : Declared) (b : Specified) (ds : List S.Decl) (q : QType) → IsLawful v → IsLawfulType v.types.records (type_of q) → IsBoundIfAny v d.bindings
    → (ends_in_function d.derivations ≡ true → is_function (type_of q) ≡ true)
    → Post (bind {A = Unit {0} × State} (Passing (definition_rules v (name_of d) b d ds q) (Done (tt, v))) (λ r. declare_linked (name_of d).text (name_of d).token b.tag (definition_asking b) q r.1)) (Named v d q)
name_bound v d b ds q l h bound kind =
    met_post v (definition_rules v (name_of d) b d ds q) (λ r. declare_linked (name_of d).text (name_of d).token b.tag (definition_asking b) q r.1) (Named v d q) (λ met.
    post_weaken _ (λ e. (IsLawful e.1 × After v e.1 × GoodPlace (name_of d).text q (place_for v (name_of d).text) e.1 e.0) × (Adds v e.1 × IsBoundThere e.1 (bindings_of d))) (Named v d q)
    (post_both _ (λ e. IsLawful e.1 × After v e.1 × GoodPlace (name_of d).text q (place_for v (name_of d).text) e.1 e.0) (λ e. Adds v e.1 × IsBoundThere e.1 (bindings_of d))
    (declared_goes None v (name_of d).text (name_of d).token b.tag (definition_asking b) q l h (function_keeps v.types.records (type_of q) (kind (ends_here v (name_of d) b d ds q met))) (is_linkable v (name_of d) b d ds q met)
    (λ hs none e g. no (sym g ∙ kind (ends_here v (name_of d) b d ds q met))))
    (declared_bound v (name_of d).text (name_of d).token b.tag (definition_asking b) q (bindings_of d) (linked_here v (name_of d) b d ds q met) (bound_of v d.bindings bound)))
    (λ e g. (g.0, (g.1, ends_here v (name_of d) b d ds q met))))

scopes_later : (s t : State) (w : Walk (Unit {0} × State)) → t.made.functions ≡ s.made.functions → Post w (Scopes t) → Post w (Scopes s)
scopes_later s t w same h = post_weaken w (Scopes t) (Scopes s) h (λ r g. (g.0, g.1, λ all. g.2 (subst AllScoped (sym same) all)))

function_scoped : (s : State) (f : Function) → IsLawful s → IsReady s → s.scopes.depth ≡ 0 → Post (function_rule f s) (Scopes s)
unfolding function_rule
function_scoped s f l ready outer =
    post_bind _ _ (λ r. IsLawful r.1 × Grows s r.1 × GoodSpecified r.1 r.0) (Scopes s) (specified_all s f.specifiers (first_of_declaration f.specifiers f.declarator) l) (λ r g.
    post_bind _ _ (λ u. (IsLawful u.1 × Grows r.1 u.1 × GoodDeclared u.1 u.0) × IsBoundIfAny u.1 u.0.bindings) (Scopes s)
    (post_both _ (λ u. IsLawful u.1 × Grows r.1 u.1 × GoodDeclared u.1 u.0) (λ u. IsBoundIfAny u.1 u.0.bindings) (declarator_post f.declarator r.1 g.0) (declarator_there f.declarator r.1 g.0)) (λ u h.
    post_bind _ _ (λ v. (IsLawful v.1 × Grows u.1 v.1 × GoodType v.1 v.0) × (ends_in_function u.0.derivations ≡ true → is_function (type_of v.0) ≡ true)) (Scopes s)
    (post_both _ (λ v. IsLawful v.1 × Grows u.1 v.1 × GoodType v.1 v.0) (λ v. ends_in_function u.0.derivations ≡ true → is_function (type_of v.0) ≡ true)
    (built_runs u.1 (spot_of u.0.name r.0.first r.0.tag) u.0.derivations r.0.ty h.0.0 h.0.2.0 (lawful_later r.1.types.records u.1.types.records h.0.1.extends (type_of r.0.ty) g.2))
    (built_kind u.0.derivations (spot_of u.0.name r.0.first r.0.tag) r.0.ty u.1)) (λ v i.
    asked_post v.1 _ _ (Scopes s)
    (post_bind _ _ (Named v.1 u.0 v.0) (Scopes s)
    (name_bound v.1 u.0 r.0 f.declarations v.0 i.0.0 i.0.2 (bound_later {s = u.1} {t = v.1} u.0.bindings i.0.1 h.1) i.1) (λ e j.
    let kind : is_function (type_of v.0) ≡ true = i.1 j.1.1 in
    let c : Kept e.1 (define_function e.0 e.1) = function_after e.1 e.0 j.0.2.1.0 j.0.0 j.0.2.1.1 (j.0.2.1.3.function ∙ kind) in
    let grown : Grows s v.1 = grows_trans g.1 (grows_trans h.0.1 i.0.1) in
    let first : Adds s (define_function e.0 e.1) = adds_trans (adds_grows grown) (adds_trans j.1.0.0 (changed_adds e.1 e.0 (λ x. record x { defined = true }))) in
    let later : After v.1 (define_function e.0 e.1) = after_trans j.0.1 c.1 in
    asked_post _ _ _ (Scopes s)
    (scopes_later s (define_function e.0 e.1) (body_rule (name_of u.0) e.0 v.0 (bindings_of u.0) f.body (define_function e.0 e.1)) (later.functions ∙ grown.functions)
    (body_scoped v.1 (define_function e.0 e.1) (name_of u.0) e.0 v.0 u.0 f.body (record {
      before = i.0.0;
      lawful = c.0;
      after = later;
      good = good_bindings v.1 u.0.bindings (bindings_later u.1.types.records v.1.types.records u.1.scopes.entities v.1.scopes.entities i.0.1.extends i.0.1.entities u.0.bindings h.0.2.1);
      sound = grown.sound None ready.sound;
      placed = first.placed ready.placed;
      counting = first.counting ∙ ready.counting;
      outer = first.depth ∙ outer;
      bound = defined_bound e.1 e.0 (bindings_of u.0) j.1.0.1;
    }))))))))

-- ---- modules

external_scopes : (s : State) (x : External) → IsLawful s → IsReady s → s.scopes.depth ≡ 0 → Post (external_rule x s) (Scopes s)
unfolding external_rule
external_scopes s (Definition f) l ready outer = function_scoped s f l ready outer
external_scopes s (Declaration d) l ready outer =
    post_bind _ _ (Declaring s) (Scopes s) (decl_declares d s l) (λ r g. (g.2.0.placed ready.placed, g.2.0.counting ∙ ready.counting, λ all. subst AllScoped (sym g.1.functions) all))

abbrev GoesOn : State → Unit {0} × State → Type 0
GoesOn s r = Onwards s r × Scopes s r

externals_scoped : (xs : List External) (s : State) → IsLawful s → OnceDefined s → IsReady s → s.scopes.depth ≡ 0 → Post (externals_rule xs s) (λ r. AllScoped s.made.functions → AllScoped r.1.made.functions)
unfolding externals_rule
externals_scoped [] s l o ready outer = λ all. all
externals_scoped (x ∷ rest) s l o ready outer =
    post_bind _ _ (GoesOn s) (λ r. AllScoped s.made.functions → AllScoped r.1.made.functions)
    (post_both _ (Onwards s) (Scopes s) (external_post s x l o) (external_scopes s x l ready outer)) (λ r g.
    let next : IsReady r.1 = record { placed = g.1.0; counting = g.1.1; sound = g.0.2.sound ready.sound } in
    post_weaken (externals_rule rest r.1) (λ u. AllScoped r.1.made.functions → AllScoped u.1.made.functions) (λ u. AllScoped s.made.functions → AllScoped u.1.made.functions)
    (externals_scoped rest r.1 g.0.0 g.0.1 next (g.0.2.depth ∙ outer)) (λ u k all. k (g.1.2 all)))

start_ready : IsReady start
start_ready = record { placed = λ i e h. never_some h; counting = refl; sound = start_sound }

functions_scoped : (m : Module) → IsLawful start → Post (module_rule m start) (λ r. AllScoped r.0.functions)
unfolding module_rule
functions_scoped m l =
    post_bind _ _ (λ r. AllScoped r.1.made.functions) (λ r. AllScoped r.0.functions)
    (post_bind _ _ (λ r. AllScoped start.made.functions → AllScoped r.1.made.functions) (λ r. AllScoped r.1.made.functions) (externals_scoped m.externals start l none_defined start_ready refl) (λ r h. h (λ i f e. never_some e))) (λ r h.
    post_bind _ _ (λ u. u.1 ≡ r.1) (λ u. AllScoped u.0.functions) (end_same r.0 r.1) (λ u e. subst (λ t. AllScoped t.made.functions) (sym e) h))

scoped_all : (fs : List FunctionValue) → AllScoped fs → All HasScopedBody fs
scoped_all fs h = λ k d below. h k _ (slice_get-get_or fs k d below)

checking_scoped : (m : Module) → IsLawful start → Post (bind (module_rule m start) (λ r. Done r.0)) (λ v. All HasScopedBody v.functions)
checking_scoped m l =
    post_bind (module_rule m start) (λ r. Done r.0) (λ r. AllScoped r.0.functions) (λ v. All HasScopedBody v.functions) (functions_scoped m l) (λ r h. scoped_all r.0.functions h)

pub module_scoped : (tree : Module) (m : ModuleValue) → Checks tree (Ok m) → All HasScopedBody m.functions
unfolding checking
module_scoped tree m h = post_end (checking tree) m (λ v. All HasScopedBody v.functions) h (checking_scoped tree start_lawful)
