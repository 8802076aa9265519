-- The functions of a module that checking accepts: no node in them that names an object has a function's type.
use Rattle.std.specs.Prelude.{ℕ, ◌≡◌, ◌⊎◌, Some, List, [], ◌∷◌, ◌++◌, length, slice_get, All, Ok}
use Rattle.std.proofs.Common.{sym, subst, ◌∙◌, inl, inr}
use Rattle.std.proofs.lemmas.Option.{slice_get-get_or}
use Rattle.pw_tree.specs.Trees.{Word, Function, External, Definition, Declaration, Module, Block}
use Rattle.pw_types.specs.TypeTrees.{QType, type_of}
use Rattle.pw_types.specs.TypedTrees.{FunctionValue, ModuleValue}
use Rattle.pw_check_walk.specs.Walks.{Walk, Done, bind}
use Rattle.pw_check_rules.specs.Checks.{Checks, checking}
use Rattle.pw_check_rules.specs.Declarations.{name_of}
use Rattle.pw_check_rules.specs.Derivations.{spot_of, Declared}
use Rattle.pw_check_rules.specs.Functions.{function_of, bindings_of, enter_body, definition_asking, measured_rule, body_rule, function_rule}
use Rattle.pw_check_rules.specs.Leaves.{first_of_declaration}
use Rattle.pw_check_rules.specs.Linkage.{define_function}
use Rattle.pw_check_rules.specs.Modules.{external_rule, externals_rule, module_rule}
use Rattle.pw_check_rules.specs.States.{State, leave_scope, start, Entity}
use Rattle.pw_check_rules.specs.Statements as R
use Rattle.pw_check_rules.specs.Statements.{block_rule}
use Rattle.pw_law_checked.specs.Lawful.{IsLawful}
use Rattle.pw_law_checked.proofs.Walking.{Post, post_end, post_bind, post_weaken, post_both}
use Rattle.pw_law_checked.proofs.Lists.{get_more, never_some}
use Rattle.pw_law_checked.proofs.Types.{lawful_later, extends_trans}
use Rattle.pw_law_checked.proofs.States.{Grows}
use Rattle.pw_law_checked.proofs.Changes.{left_lawful_alone}
use Rattle.pw_law_checked.proofs.Leaves.{GoodType, GoodSpecified, GoodDeclared, GoodBindings, bindings_later, built_runs}
use Rattle.pw_law_checked.proofs.Phrases.{declarator_post}
use Rattle.pw_law_checked.proofs.Keeping.{After, function_kept, Knows}
use Rattle.pw_law_checked.proofs.Declaring.{declared_knows}
use Rattle.pw_law_checked.proofs.Declarations.{decl_goes}
use Rattle.pw_law_checked.proofs.Statements.{block_goes}
use Rattle.pw_law_checked.proofs.Modules.{body_lawful, good_if_any}
use Rattle.pw_law_checked.proofs.Adding.{specified_all}
use Rattle.pw_law_checked.proofs.LabelLaws.{asked_post}
use Rattle.pw_law_checked.proofs.FunctionLaws.{met_post, end_same}
use Rattle.pw_law_checked.proofs.Laws.{start_lawful}
use Rattle.pw_law_checked.specs.Designators.{StatementNamesObjects}
use Rattle.pw_law_checked.proofs.DesignatorStatements.{IsStated, block_stated}

-- ---- functions

abbrev AllNameThem : List FunctionValue → Type 0
AllNameThem fs = (i : ℕ) (f : FunctionValue) → slice_get fs i ≡ Some f → StatementNamesObjects f.body

one_more : (fs : List FunctionValue) (f : FunctionValue) → AllNameThem fs → StatementNamesObjects f.body → AllNameThem (fs ++ f ∷ [])
one_more fs f all h i g e = by (get_more fs f i g e)
  where
    by : (slice_get fs i ≡ Some g) ⊎ ((i ≡ length fs) × (f ≡ g)) → StatementNamesObjects g.body
    by (inl k) = all i g k
    by (inr k) = subst (λ (f : FunctionValue). StatementNamesObjects f.body) k.1 h

abbrev Keeps : {A : Type 0} → State → A × State → Type 0
Keeps s r = IsLawful r.1 × (AllNameThem s.made.functions → AllNameThem r.1.made.functions)

body_named : (s : State) (w : Word) (place : ℕ) (q : QType) (d : Declared) (block : Block) (entities : List Entity) → IsLawful s → GoodBindings s.types.records entities (bindings_of d) → Post (body_rule w place q (bindings_of d) block s) (Keeps s)
unfolding body_rule measured_rule bind
body_named s w place q d block entities l h =
    let c : IsLawful (enter_body q (bindings_of d) (R.labels_in_block block) s) = body_lawful s entities q (bindings_of d) (R.labels_in_block block) l h in
    post_bind (block_rule block (enter_body q (bindings_of d) (R.labels_in_block block) s)) _
    (λ r. (IsLawful r.1 × After (enter_body q (bindings_of d) (R.labels_in_block block) s) r.1 × Unit {0}) × IsStated r) (Keeps s)
    (post_both _ (λ r. IsLawful r.1 × After (enter_body q (bindings_of d) (R.labels_in_block block) s) r.1 × Unit {0}) IsStated
    (block_goes block (enter_body q (bindings_of d) (R.labels_in_block block) s) c)
    (block_stated block (enter_body q (bindings_of d) (R.labels_in_block block) s)))
    (λ r g met.
    let n : IsLawful (leave_scope r.1) = left_lawful_alone r.1 g.0.0 in (
      record { contents = n.contents; begun = n.begun; counted = n.counted; entities = n.entities; tags = n.tags; linked = n.linked; laid = n.laid; apart = n.apart; depths = n.depths },
      λ all. one_more r.1.made.functions (function_of r.1 w place q (bindings_of d) r.0) (subst AllNameThem (sym g.0.1.functions) all) g.1,
    ))

keeps_later : (s t : State) (w : Walk (Unit {0} × State)) → t.made.functions ≡ s.made.functions → Post w (Keeps t) → Post w (Keeps s)
keeps_later s t w same h = post_weaken w (Keeps t) (Keeps s) h (λ r g. (g.0, λ all. g.1 (subst AllNameThem (sym same) all)))

function_named : (s : State) (f : Function) → IsLawful s → Post (function_rule f s) (Keeps s)
unfolding function_rule
function_named s f l =
    post_bind _ _ (λ r. IsLawful r.1 × Grows s r.1 × GoodSpecified r.1 r.0) (Keeps s) (specified_all s f.specifiers (first_of_declaration f.specifiers f.declarator) l) (λ r g.
    post_bind _ _ (λ u. IsLawful u.1 × Grows r.1 u.1 × GoodDeclared u.1 u.0) (Keeps s) (declarator_post f.declarator r.1 g.0) (λ u h.
    post_bind _ _ (λ v. IsLawful v.1 × Grows u.1 v.1 × GoodType v.1 v.0) (Keeps s)
    (built_runs u.1 (spot_of u.0.name r.0.first r.0.tag) u.0.derivations r.0.ty h.0 h.2.0 (lawful_later r.1.types.records u.1.types.records h.1.extends (type_of r.0.ty) g.2)) (λ v i.
    asked_post v.1 _ _ (Keeps s)
    (post_bind _ _ (λ e. IsLawful e.1 × Knows v.1 e.1) (Keeps s)
    (met_post v.1 _ _ (λ e. IsLawful e.1 × Knows v.1 e.1) (λ met. declared_knows v.1 (name_of u.0).text (name_of u.0).token r.0.tag (definition_asking r.0) v.0 i.0 i.2)) (λ e j.
    let c = function_kept e.1 e.0 j.0 in
    asked_post _ _ _ (Keeps s)
    (keeps_later s (define_function e.0 e.1) (body_rule (name_of u.0) e.0 v.0 (bindings_of u.0) f.body (define_function e.0 e.1))
    (c.1.functions ∙ (j.1.functions ∙ (i.1.functions ∙ (h.1.functions ∙ g.1.functions))))
    (body_named (define_function e.0 e.1) (name_of u.0) e.0 v.0 u.0 f.body v.1.scopes.entities c.0
    (good_if_any (define_function e.0 e.1).types.records v.1.scopes.entities u.0.bindings
    (bindings_later v.1.types.records (define_function e.0 e.1).types.records v.1.scopes.entities v.1.scopes.entities (extends_trans j.1.extends c.1.extends) (λ k x f. f) u.0.bindings
    (bindings_later u.1.types.records v.1.types.records u.1.scopes.entities v.1.scopes.entities i.1.extends i.1.entities u.0.bindings h.2.1))))))))))

-- ---- modules

external_named : (s : State) (x : External) → IsLawful s → Post (external_rule x s) (Keeps s)
unfolding external_rule
external_named s (Definition f) l = function_named s f l
external_named s (Declaration d) l =
    post_bind _ _ (λ r. IsLawful r.1 × After s r.1 × Unit {0}) (Keeps s) (decl_goes s d l) (λ r g. (g.0, λ all. subst AllNameThem (sym g.1.functions) all))

externals_named : (xs : List External) (s : State) → IsLawful s → Post (externals_rule xs s) (Keeps s)
unfolding externals_rule
externals_named [] s l = (l, λ all. all)
externals_named (x ∷ rest) s l =
    post_bind _ _ (Keeps s) (Keeps s) (external_named s x l)
    (λ r h. post_weaken (externals_rule rest r.1) (Keeps r.1) (Keeps s) (externals_named rest r.1 h.0) (λ u k. (k.0, λ all. k.1 (h.1 all))))

module_named : (m : Module) (s : State) → IsLawful s → Post (module_rule m s) (λ r. AllNameThem s.made.functions → AllNameThem r.0.functions)
unfolding module_rule
module_named m s l =
    post_bind _ _ (Keeps s) (λ r. AllNameThem s.made.functions → AllNameThem r.0.functions)
    (post_bind _ _ (Keeps s) (Keeps s) (externals_named m.externals s l) (λ r h. h)) (λ r h.
    post_bind _ _ (λ u. u.1 ≡ r.1) (λ u. AllNameThem s.made.functions → AllNameThem u.0.functions) (end_same r.0 r.1) (λ u e all.
    subst (λ t. AllNameThem t.made.functions) (sym e) (h.1 all)))

named_all : (fs : List FunctionValue) → AllNameThem fs → All (λ f. StatementNamesObjects f.body) fs
named_all fs h = λ k d below. h k _ (slice_get-get_or fs k d below)

checking_named : (m : Module) → IsLawful start → Post (bind (module_rule m start) (λ r. Done r.0)) (λ v. All (λ f. StatementNamesObjects f.body) v.functions)
checking_named m l =
    post_bind (module_rule m start) (λ r. Done r.0) (λ r. AllNameThem start.made.functions → AllNameThem r.0.functions) (λ v. All (λ f. StatementNamesObjects f.body) v.functions) (module_named m start l)
    (λ r h. named_all r.0.functions (h (λ i f e. never_some e)))

pub functions_named : (tree : Module) (m : ModuleValue) → Checks tree (Ok m) → All (λ f. StatementNamesObjects f.body) m.functions
unfolding checking
functions_named tree m h = post_end (checking tree) m (λ v. All (λ f. StatementNamesObjects f.body) v.functions) h (checking_named tree start_lawful)
