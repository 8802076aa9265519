-- Function definitions: the type, the parameters, the labels and the block of each.
use Rattle.pw_law_checked.proofs.Declaring.{declared_knows}
use Rattle.std.specs.Prelude.{ℕ, suc, ◌≡◌, ◌⊎◌, true, Option, None, Some, unwrap_or, List, [], ◌∷◌, ◌++◌, length, map, slice_get, All, Ok, refl}
use Rattle.std.proofs.Common.{ap, sym, subst, ◌∙◌, inl, inr}
use Rattle.std.proofs.lemmas.List.Elements.{All-weaker}
use Rattle.std.proofs.lemmas.Option.{slice_get-get_or}
use Rattle.pw_tree.specs.Trees.{Word, Function, External, Definition, Declaration, Module, Block}
use Rattle.pw_tree.specs.Trees as S
use Rattle.pw_types.specs.TypeTrees.{QType, type_of}
use Rattle.pw_types.specs.TypedTrees.{Statement, FunctionValue, ModuleValue}
use Rattle.pw_types.specs.TypedModules.{AreLabels, IsBlock, IsFunctionTyped}
use Rattle.pw_check_walk.specs.Causes.{Point}
use Rattle.pw_check_walk.specs.Walks.{Walk, Done, Passing, bind}
use Rattle.pw_check_rules.specs.Checks.{Checks, checking}
use Rattle.pw_check_rules.specs.Declarations.{name_of}
use Rattle.pw_check_rules.specs.Derivations.{Bindings, spot_of, Declared}
use Rattle.pw_check_rules.specs.Functions.{ends_in_function, function_of, bindings_of, no_bindings, parameter_local, enter_body, definition_asking, definition_rules, measured_rule, body_rule, function_rule}
use Rattle.pw_check_rules.specs.Leaves.{first_of_declaration}
use Rattle.pw_check_rules.specs.Linkage.{define_function}
use Rattle.pw_check_rules.specs.Modules.{external_rule, externals_rule, end_rule, module_rule}
use Rattle.pw_check_rules.specs.States.{State, LinkedName, leave_scope, start, Entity}
use Rattle.pw_check_rules.specs.Statements as R
use Rattle.pw_check_rules.specs.Statements.{block_rule}
use Rattle.pw_law_checked.specs.Lawful.{IsLawful, IsLawfulType}
use Rattle.pw_law_checked.proofs.Walking.{Post, post_end, post_bind, post_weaken, post_both, truth, AreMet, after_any}
use Rattle.pw_law_checked.proofs.Lists.{get_more, never_some}
use Rattle.pw_law_checked.proofs.Types.{lawful_later, extends_trans}
use Rattle.pw_law_checked.proofs.States.{Grows}
use Rattle.pw_law_checked.proofs.Changes.{left_lawful_alone}
use Rattle.pw_law_checked.proofs.Leaves.{GoodType, GoodSpecified, GoodDeclared, GoodBindings, bindings_later, built_runs}
use Rattle.pw_law_checked.proofs.Phrases.{declarator_post}
use Rattle.pw_law_checked.proofs.Keeping.{After, function_kept, Knows}
use Rattle.pw_law_checked.proofs.Declarations.{decl_goes}
use Rattle.pw_law_checked.proofs.Statements.{block_goes}
use Rattle.pw_law_checked.proofs.Modules.{body_lawful, good_if_any}
use Rattle.pw_law_checked.proofs.Adding.{specified_all}
use Rattle.pw_law_checked.proofs.LabelLaws.{Steady, IsLabelled, block_labelled, asked_post, function_labels}
use Rattle.pw_law_checked.proofs.FunctionTypes.{last_of, IsBoundDeclared, IsBuiltBy, declarator_bound, built_by, function_typed}

-- ---- bodies

-- a block begins with the locals that there are
block_first : (b : Block) (s : State) → Post (block_rule b s) (λ r. IsBlock (length s.body.locals) r.0)
unfolding block_rule
block_first (S.Braced t ds ss) s =
    asked_post s _ _ (λ r. IsBlock (length s.body.locals) r.0)
    (after_any _ _ (λ r. IsBlock (length s.body.locals) r.0) (λ r.
    asked_post r.1 _ _ (λ u. IsBlock (length s.body.locals) u.0)
    (after_any _ _ (λ u. IsBlock (length s.body.locals) u.0) (λ u. refl))))

pub record IsShaped (f : FunctionValue) : Type 0 where
  pub labels : AreLabels f
  pub block : IsBlock f.params f.body
  pub typed : (m : ModuleValue) → IsFunctionTyped m f

abbrev pub AreShaped : List FunctionValue → Type 0
AreShaped fs = (i : ℕ) (f : FunctionValue) → slice_get fs i ≡ Some f → IsShaped f

one_shaped : (fs : List FunctionValue) (f : FunctionValue) → AreShaped fs → IsShaped f → AreShaped (fs ++ f ∷ [])
one_shaped fs f all h i g e = by (get_more fs f i g e)
  where
    by : (slice_get fs i ≡ Some g) ⊎ ((i ≡ length fs) × (f ≡ g)) → IsShaped g
    by (inl k) = all i g k
    by (inr k) = subst IsShaped k.1 h

-- what the declarator of a definition has said: a function of the type, with these names in scope
pub record Declares (s : State) (q : QType) (d : Declared) : Type 0 where
  pub ends : ends_in_function d.derivations ≡ true
  pub bound : IsBoundDeclared d
  pub made : IsBuiltBy (last_of d.derivations) q
  pub lawful : IsLawfulType s.types.records (type_of q)
  pub entities : List Entity
  pub bindings : GoodBindings s.types.records entities (bindings_of d)

pub length_map : {X Y : Type 0} (g : X → Y) (xs : List X) → length (map g xs) ≡ length xs
length_map g [] = refl
length_map g (z ∷ xs) = ap suc (length_map g xs)

same_bindings : (o : Option Bindings) → unwrap_or o (unwrap_or o no_bindings) ≡ unwrap_or o no_bindings
same_bindings None = refl
same_bindings (Some b) = refl

abbrev pub Shapes : {A : Type 0} → State → A × State → Type 0
Shapes s r = IsLawful r.1 × (AreShaped s.made.functions → AreShaped r.1.made.functions)

-- it has the type that its declarator made, and its parameters are its first locals
pub typed_function : (s t : State) (w : Word) (place : ℕ) (q : QType) (d : Declared) (block : Block) (x : Statement) → Declares s q d
    → Steady (enter_body q (bindings_of d) (R.labels_in_block block) s).body t.body → (m : ModuleValue) → IsFunctionTyped m (function_of t w place q (bindings_of d) x)
typed_function s t w place q d block x h steady m =
    function_typed m (function_of t w place q (bindings_of d) x) s.types.records (bindings_of d) d.derivations d.bindings h.ends h.bound h.made (same_bindings d.bindings) h.lawful h.bindings.scalars refl steady.locals

body_shaped : (s : State) (w : Word) (place : ℕ) (q : QType) (d : Declared) (block : Block) → IsLawful s → Declares s q d → Post (body_rule w place q (bindings_of d) block s) (Shapes s)
unfolding body_rule measured_rule bind
body_shaped s w place q d block l h =
    let c : IsLawful (enter_body q (bindings_of d) (R.labels_in_block block) s) = body_lawful s h.entities q (bindings_of d) (R.labels_in_block block) l h.bindings in
    post_bind (block_rule block (enter_body q (bindings_of d) (R.labels_in_block block) s)) _
    (λ r. (IsLawful r.1 × After (enter_body q (bindings_of d) (R.labels_in_block block) s) r.1 × Unit {0})
    × (IsLabelled (enter_body q (bindings_of d) (R.labels_in_block block) s).body (R.labels_in_block block) r × IsBlock (length (map parameter_local (bindings_of d).parameters)) r.0)) (Shapes s)
    (post_both _ (λ r. IsLawful r.1 × After (enter_body q (bindings_of d) (R.labels_in_block block) s) r.1 × Unit {0})
    (λ r. IsLabelled (enter_body q (bindings_of d) (R.labels_in_block block) s).body (R.labels_in_block block) r × IsBlock (length (map parameter_local (bindings_of d).parameters)) r.0)
    (block_goes block (enter_body q (bindings_of d) (R.labels_in_block block) s) c)
    (post_both _ (IsLabelled (enter_body q (bindings_of d) (R.labels_in_block block) s).body (R.labels_in_block block)) (λ r. IsBlock (length (map parameter_local (bindings_of d).parameters)) r.0)
    (block_labelled block (enter_body q (bindings_of d) (R.labels_in_block block) s) c) (block_first block (enter_body q (bindings_of d) (R.labels_in_block block) s))))
    (λ r g met.
    let n : IsLawful (leave_scope r.1) = left_lawful_alone r.1 g.0.0 in (
      record { contents = n.contents; begun = n.begun; counted = n.counted; entities = n.entities; tags = n.tags; linked = n.linked; laid = n.laid; apart = n.apart; depths = n.depths },
      λ all. one_shaped r.1.made.functions (function_of r.1 w place q (bindings_of d) r.0) (subst AreShaped (sym g.0.1.functions) all) (record {
        labels = function_labels (function_of r.1 w place q (bindings_of d) r.0) (R.labels_in_block block) (enter_body q (bindings_of d) (R.labels_in_block block) s).body r.1.body refl refl refl refl g.1.0.1 g.1.0.2 refl refl;
        block = subst (λ n. IsBlock n r.0) (length_map parameter_local (bindings_of d).parameters) g.1.1;
        typed = λ m. typed_function s r.1 w place q d block r.0 h g.1.0.1 m;
      }),
    ))

-- ---- definitions

-- the definition's own point
pub ends_here : (s : State) (w : Word) (b : Rattle.pw_check_rules.specs.SpecifierLists.Specified) (d : Declared) (ds : List S.Decl) (q : QType) → AreMet (definition_rules s w b d ds q) → ends_in_function d.derivations ≡ true
ends_here s w b d ds q met = truth (ends_in_function d.derivations) met.1.1.1.1.0

shapes_later : (s t : State) (w : Walk (Unit {0} × State)) → t.made.functions ≡ s.made.functions → Post w (Shapes t) → Post w (Shapes s)
shapes_later s t w same h = post_weaken w (Shapes t) (Shapes s) h (λ r g. (g.0, λ all. g.1 (subst AreShaped (sym same) all)))

pub met_post : {B : Type 0} (t : State) (p : Point) (next : Unit {0} × State → Walk (B × State)) (P : B × State → Type 0) → (AreMet p → Post (next (tt, t)) P) → Post (bind (Passing p (Done (tt, t))) next) P
unfolding bind
met_post t p next P h = h

pub function_shaped : (s : State) (f : Function) → IsLawful s → Post (function_rule f s) (Shapes s)
unfolding function_rule
function_shaped s f l =
    post_bind _ _ (λ r. IsLawful r.1 × Grows s r.1 × GoodSpecified r.1 r.0) (Shapes s) (specified_all s f.specifiers (first_of_declaration f.specifiers f.declarator) l) (λ r g.
    post_bind _ _ (λ u. (IsLawful u.1 × Grows r.1 u.1 × GoodDeclared u.1 u.0) × IsBoundDeclared u.0) (Shapes s)
    (post_both _ (λ u. IsLawful u.1 × Grows r.1 u.1 × GoodDeclared u.1 u.0) (λ u. IsBoundDeclared u.0) (declarator_post f.declarator r.1 g.0) (declarator_bound f.declarator r.1)) (λ u h.
    post_bind _ _ (λ v. (IsLawful v.1 × Grows u.1 v.1 × GoodType v.1 v.0) × IsBuiltBy (last_of u.0.derivations) v.0) (Shapes s)
    (post_both _ (λ v. IsLawful v.1 × Grows u.1 v.1 × GoodType v.1 v.0) (λ v. IsBuiltBy (last_of u.0.derivations) v.0)
    (built_runs u.1 (spot_of u.0.name r.0.first r.0.tag) u.0.derivations r.0.ty h.0.0 h.0.2.0 (lawful_later r.1.types.records u.1.types.records h.0.1.extends (type_of r.0.ty) g.2))
    (built_by (spot_of u.0.name r.0.first r.0.tag) u.0.derivations r.0.ty u.1 refl)) (λ v i.
    asked_post v.1 _ _ (Shapes s)
    (post_bind _ _ (λ e. (IsLawful e.1 × Knows v.1 e.1) × (ends_in_function u.0.derivations ≡ true)) (Shapes s)
    (met_post v.1 _ _ (λ e. (IsLawful e.1 × Knows v.1 e.1) × (ends_in_function u.0.derivations ≡ true)) (λ met.
    post_weaken _ (λ e. IsLawful e.1 × Knows v.1 e.1) (λ e. (IsLawful e.1 × Knows v.1 e.1) × (ends_in_function u.0.derivations ≡ true))
    (declared_knows v.1 (name_of u.0).text (name_of u.0).token r.0.tag (definition_asking r.0) v.0 i.0.0 i.0.2) (λ e j. (j, ends_here v.1 (name_of u.0) r.0 u.0 f.declarations v.0 met)))) (λ e j.
    let c = function_kept e.1 e.0 j.0.0 in
    asked_post _ _ _ (Shapes s)
    (shapes_later s (define_function e.0 e.1) (body_rule (name_of u.0) e.0 v.0 (bindings_of u.0) f.body (define_function e.0 e.1))
    (c.1.functions ∙ (j.0.1.functions ∙ (i.0.1.functions ∙ (h.0.1.functions ∙ g.1.functions))))
    (body_shaped (define_function e.0 e.1) (name_of u.0) e.0 v.0 u.0 f.body c.0 (record {
      ends = j.1;
      bound = h.1;
      made = i.1;
      lawful = lawful_later v.1.types.records (define_function e.0 e.1).types.records (extends_trans j.0.1.extends c.1.extends) (type_of v.0) i.0.2;
      entities = v.1.scopes.entities;
      bindings = good_if_any (define_function e.0 e.1).types.records v.1.scopes.entities u.0.bindings
          (bindings_later v.1.types.records (define_function e.0 e.1).types.records v.1.scopes.entities v.1.scopes.entities (extends_trans j.0.1.extends c.1.extends) (λ k x f. f) u.0.bindings
          (bindings_later u.1.types.records v.1.types.records u.1.scopes.entities v.1.scopes.entities i.0.1.extends i.0.1.entities u.0.bindings h.0.2.1));
    }))))))))

-- ---- modules

external_shaped : (s : State) (x : External) → IsLawful s → Post (external_rule x s) (Shapes s)
unfolding external_rule
external_shaped s (Definition f) l = function_shaped s f l
external_shaped s (Declaration d) l =
    post_bind _ _ (λ r. IsLawful r.1 × After s r.1 × Unit {0}) (Shapes s) (decl_goes s d l) (λ r g. (g.0, λ all. subst AreShaped (sym g.1.functions) all))

externals_shaped : (xs : List External) (s : State) → IsLawful s → Post (externals_rule xs s) (Shapes s)
unfolding externals_rule
externals_shaped [] s l = (l, λ all. all)
externals_shaped (x ∷ rest) s l =
    post_bind _ _ (Shapes s) (Shapes s) (external_shaped s x l)
    (λ r h. post_weaken (externals_rule rest r.1) (Shapes r.1) (Shapes s) (externals_shaped rest r.1 h.0) (λ u k. (k.0, λ all. k.1 (h.1 all))))

pub end_same : (names : List LinkedName) (s : State) → Post (end_rule names s) (λ r. r.1 ≡ s)
unfolding end_rule bind
end_same [] s = refl
end_same (x ∷ rest) s = λ met. end_same rest s

module_shaped : (m : Module) (s : State) → IsLawful s → Post (module_rule m s) (λ r. AreShaped s.made.functions → AreShaped r.0.functions)
unfolding module_rule
module_shaped m s l =
    post_bind _ _ (Shapes s) (λ r. AreShaped s.made.functions → AreShaped r.0.functions)
    (post_bind _ _ (Shapes s) (Shapes s) (externals_shaped m.externals s l) (λ r h. h)) (λ r h.
    post_bind _ _ (λ u. u.1 ≡ r.1) (λ u. AreShaped s.made.functions → AreShaped u.0.functions) (end_same r.0 r.1) (λ u e all.
    subst (λ t. AreShaped t.made.functions) (sym e) (h.1 all)))

pub shaped_all : (fs : List FunctionValue) → AreShaped fs → All IsShaped fs
shaped_all fs h = λ k d below. h k _ (slice_get-get_or fs k d below)

pub checking_shaped : (m : Module) → IsLawful start → Post (bind (module_rule m start) (λ r. Done r.0)) (λ v. All IsShaped v.functions)
checking_shaped m l =
    post_bind (module_rule m start) (λ r. Done r.0) (λ r. AreShaped start.made.functions → AreShaped r.0.functions) (λ v. All IsShaped v.functions) (module_shaped m start l)
    (λ r h. shaped_all r.0.functions (h (λ i f e. never_some e)))

-- ---- the laws

start_is : IsLawful start
start_is = Rattle.pw_law_checked.proofs.Laws.start_lawful

functions_shaped : (tree : Module) (m : ModuleValue) → Checks tree (Ok m) → All IsShaped m.functions
unfolding checking
functions_shaped tree m h = post_end (checking tree) m (λ v. All IsShaped v.functions) h (checking_shaped tree start_is)

pub module_labels : (tree : Module) (m : ModuleValue) → Checks tree (Ok m) → All AreLabels m.functions
module_labels tree m h = All-weaker IsShaped AreLabels (λ f k. k.labels) m.functions (functions_shaped tree m h)

pub module_typed : (tree : Module) (m : ModuleValue) → Checks tree (Ok m) → All (IsFunctionTyped m) m.functions
module_typed tree m h = All-weaker IsShaped (IsFunctionTyped m) (λ f k. k.typed m) m.functions (functions_shaped tree m h)

pub module_block : (tree : Module) (m : ModuleValue) → Checks tree (Ok m) → All (λ f. IsBlock f.params f.body) m.functions
module_block tree m h = All-weaker IsShaped (λ f. IsBlock f.params f.body) (λ f k. k.block) m.functions (functions_shaped tree m h)
