-- Statements, functions and modules: at a module's end each record has a lawful size and alignment, and each local a type whose
-- arrays have elements. So objects of either are copied in lawful units.
use Rattle.std.specs.Prelude.{ℕ, zero, suc, ◌≡◌, ◌≤◌, ◌⊎◌, true, Option, None, Some, option_map, IsSomeAnd, List, [], ◌∷◌, ◌++◌, length, map, slice_get, All, Ok, refl, ◌<◌}
use Rattle.std.proofs.Common.{sym, subst, ◌∙◌, inl, inr}
use Rattle.std.proofs.lemmas.Option.{slice_get-get_or}
use Rattle.pw_tree.specs.Scopes.{Env, after_expr, after_label, after_labels, after_optional, after_stmt, after_decls, after_external, after_specifiers, has_type}
use Rattle.pw_tree.specs.Trees.{Word, Expr, Stmt, Alternative, Block, Stmts, Label, Function, External, Module}
use Rattle.pw_tree.specs.Trees as S
use Rattle.pw_tree.specs.WellFormed.{Named, WellFormed, WellFormedOptional, WellFormedLabel, WellFormedLabels, WellFormedStmt, WellFormedAlternative, WellFormedBlock, WellFormedStmts, WellFormedFunction, WellFormedExternal, WellFormedExternals, WellFormedModule}
use Rattle.pw_types.specs.declared.record.Layout.{Layout}
use Rattle.pw_types.specs.Layouts.{content_at}
use Rattle.pw_types.specs.Records.{IsLaid, IsObjectType}
use Rattle.pw_types.specs.TypeTrees.{Void, Int, Pointer, Array, Function as FunctionType, Record, QType, Qualified, type_of, ContentValue, RecordValue}
use Rattle.pw_types.specs.TypedTrees.{Expression, Statement, FunctionValue, LocalValue, ModuleValue, GlobalValue, PlacedItem}
use Rattle.pw_types.specs.WellTyped.{IsScalar}
use Rattle.pw_value.specs.Limits.{size_limit}
use Rattle.pw_law_lower.specs.Within.{IsCopied, AreRecordsWithin}
use Rattle.pw_check_walk.specs.Walks.{Walk, Done, bind}
use Rattle.pw_check_rules.specs.Checks.{Checks, checking}
use Rattle.pw_check_rules.specs.Declarations.{name_of}
use Rattle.pw_check_rules.specs.Derivations.{Bindings, ParameterValue, spot_of}
use Rattle.pw_check_rules.specs.Functions.{function_of, bindings_of, parameter_local, enter_body, definition_asking, measured_rule, body_rule, function_rule}
use Rattle.pw_check_rules.specs.Leaves.{first_of_declaration}
use Rattle.pw_check_rules.specs.Linkage.{define_function}
use Rattle.pw_check_rules.specs.Modules.{external_rule, externals_rule, module_rule, module_in, named_global, hidden_global, global_in}
use Rattle.pw_check_rules.specs.Operators.{value_rule}
use Rattle.pw_check_rules.specs.Phrases.{expr_rule}
use Rattle.pw_check_rules.specs.States.{State, Rule, BodyState, scoped, one_deeper, leave_scope, start, Entity, LinkedName, HiddenObject, linked_at}
use Rattle.pw_check_rules.specs.Statements.{new_label, case_rule, inside_switch, default_rule, name_label_rule, label_rule, labels_rule, whole_rule, optional_rule, condition_rule, optional_condition, switch_rule, in_switch, in_loop, return_rule, stmt_rule, alternative_rule, block_rule, stmts_rule, labels_in_block}
use Rattle.pw_law_checked.specs.Lawful.{IsLawful}
use Rattle.pw_law_checked.proofs.Bare.{bare_post}
use Rattle.pw_law_checked.proofs.Walking.{Post, post_end, post_bind, post_weaken, post_both}
use Rattle.pw_law_checked.proofs.Lists.{get_more, never_some}
use Rattle.pw_law_checked.proofs.Types.{lawful_later, extends_trans}
use Rattle.pw_law_checked.proofs.States.{Fine, Grows, grows_trans}
use Rattle.pw_law_checked.proofs.Changes.{deeper_lawful, left_lawful_alone}
use Rattle.pw_law_checked.proofs.Leaves.{AreScalars, GoodType, GoodSpecified, GoodDeclared, GoodBindings, bindings_later, built_runs}
use Rattle.pw_law_checked.proofs.Phrases.{expr_post, declarator_post}
use Rattle.pw_law_checked.proofs.Keeping.{After, function_kept, Knows}
use Rattle.pw_law_checked.proofs.Declaring.{declared_knows}
use Rattle.pw_law_checked.proofs.Declarations.{decl_goes}
use Rattle.pw_law_checked.proofs.Statements.{block_goes}
use Rattle.pw_law_checked.proofs.Modules.{body_lawful, good_if_any}
use Rattle.pw_law_checked.proofs.LabelLaws.{asked_post}
use Rattle.pw_law_checked.proofs.FunctionLaws.{met_post, end_same}
use Rattle.std.specs.List.{AllByRecursion}
use Rattle.std.specs.Option.{option_map_or}
use Rattle.pw_flow.proofs.Lists.{all_flat}
use Rattle.pw_types.specs.TypedModules.{item_size}
use Rattle.pw_check_rules.specs.declared.names.Slot.{Slot}
use Rattle.pw_check_rules.specs.declared.names.Slot.TheVariants as slot
use Rattle.pw_law_checked.proofs.Linked.{at_all}
use Rattle.pw_law_checked.proofs.Fits.{IsFit, AreSolid, object_copied, AreSome}
use Rattle.pw_law_checked.proofs.Still.{Still, value_still, built_still}
use Rattle.pw_law_checked.proofs.FitPhrases.{Fit, IsFitting, Fitted, DeclaratorFits, expr_fit, declarator_fit, built_fit}
use Rattle.pw_law_checked.proofs.FitDeclarations.{LocalsFit, Held, HeldAt, Kept, body_held, change_held, declare_held, specified_held, decl_held, decls_held}
use Rattle.pw_law_checked.proofs.Records.{offsets_words}

-- ---- statements

abbrev IsKept : State → Type 0
IsKept s = IsLawful s × Held s

then_kept : {A B : Type 0} (w : Walk (A × State)) (next : A × State → Walk (B × State)) → Post w Kept → ((r : A × State) → IsKept r.1 → Post (next r) Kept) → Post (bind w next) Kept
then_kept w next h k = post_bind w next Kept Kept h k

kept_still : {A : Type 0} (s : State) (w : Walk (A × State)) → IsKept s → Post w (Still s) → Post w Kept
kept_still s w l h = post_weaken w (Still s) Kept h (λ r e. subst IsKept (sym e) l)

kept_in : (s : State) (body : BodyState) → body.locals ≡ s.body.locals → IsKept s → IsKept (record { types = s.types; scopes = s.scopes; made = s.made; body = body })
kept_in s body same h = (
  record { contents = h.0.contents; begun = h.0.begun; counted = h.0.counted; entities = h.0.entities; tags = h.0.tags; linked = h.0.linked; laid = h.0.laid; apart = h.0.apart; depths = h.0.depths },
  (record { contents = h.1.0.contents; names = h.1.0.names; members = h.1.0.members; items = h.1.0.items; objects = h.1.0.objects }, subst LocalsFit (sym same) h.1.1),
)

expr_kept : (env : Env) (e : Expr) (s : State) → WellFormed env e → IsKept s → Post (expr_rule e s) Kept
expr_kept env e s w h =
    post_weaken (expr_rule e s) (λ r. (IsLawful r.1 × Grows s r.1 × Fine r.1 r.0) × IsFitting r.1) Kept
    (post_both (expr_rule e s) (λ r. IsLawful r.1 × Grows s r.1 × Fine r.1 r.0) Fitted (expr_post e s h.0) (expr_fit env e s w (h.0, h.1.0))) (λ r g. (g.0.0, (g.1.1, body_held g.0.1 h.1.1)))

whole_kept : (env : Env) (e : Expr) (s : State) → WellFormed env e → IsKept s → Post (whole_rule e s) Kept
unfolding whole_rule
whole_kept env e s w h = then_kept _ _ (expr_kept env e s w h) (λ r k. kept_still r.1 _ k (value_still r.0 r.1))

optional_kept : (env : Env) (o : Option Expr) (s : State) → WellFormedOptional env o → IsKept s → Post (optional_rule o s) Kept
unfolding optional_rule
optional_kept env None s w h = h
optional_kept env (Some e) s w h = then_kept _ _ (whole_kept env e s w h) (λ r k. k)

condition_kept : (env : Env) (t : ℕ) (e : Expr) (s : State) → WellFormed env e → IsKept s → Post (condition_rule t e s) Kept
unfolding condition_rule bind
condition_kept env t e s w h = then_kept (whole_rule e s) _ (whole_kept env e s w h) (λ r k met. k)

optional_condition_kept : (env : Env) (t : ℕ) (o : Option Expr) (s : State) → WellFormedOptional env o → IsKept s → Post (optional_condition t o s) Kept
unfolding optional_condition bind
optional_condition_kept env t o s w h = then_kept (optional_rule o s) _ (optional_kept env o s w h) (λ r k met. k)

switch_kept : (env : Env) (t : ℕ) (e : Expr) (s : State) → WellFormed env e → IsKept s → Post (switch_rule t e s) Kept
unfolding switch_rule bind
switch_kept env t e s w h = then_kept (whole_rule e s) _ (whole_kept env e s w h) (λ r k met. k)

label_kept : (env : Env) (l : Label) (s : State) → WellFormedLabel env l → IsKept s → Post (label_rule l s) Kept
unfolding label_rule inside_switch case_rule default_rule name_label_rule new_label value_rule bind
label_kept env (S.CaseLabel t e) s w h = λ met. then_kept (expr_rule e s) _ (expr_kept env e s w.1 h) (λ r k met2 met3. kept_in r.1 _ refl k)
label_kept env (S.DefaultLabel t) s w h = λ met. kept_in s _ refl h
label_kept env (S.NameLabel x) s w h = λ met. kept_in s _ refl h

labels_kept : (env : Env) (ls : List Label) (s : State) → WellFormedLabels env ls → IsKept s → Post (labels_rule ls s) Kept
unfolding labels_rule
labels_kept env [] s w h = h
labels_kept env (l ∷ rest) s w h = then_kept _ _ (label_kept env l s w.0 h) (λ r k. then_kept _ _ (labels_kept (after_label env l) rest r.1 w.1 k) (λ u j. j))

return_kept : (env : Env) (t : ℕ) (o : Option Expr) (s : State) → WellFormedOptional env o → IsKept s → Post (return_rule t o s) Kept
unfolding return_rule bind
return_kept env t None s w h = h
return_kept env t (Some e) s w h = then_kept (whole_rule e s) _ (whole_kept env e s w h) (λ r k met. k)

scoped_kept : {A : Type 0} (inside : Rule A) (s : State) → IsKept s → ((t : State) → IsKept t → Post (inside t) Kept) → Post (scoped inside s) Kept
unfolding scoped bind
scoped_kept inside s h k =
    then_kept (inside (one_deeper s)) _ (k (one_deeper s) (deeper_lawful s h.0, (record { contents = h.1.0.contents; names = h.1.0.names; members = h.1.0.members; items = h.1.0.items; objects = h.1.0.objects }, h.1.1)))
    (λ r j. (left_lawful_alone r.1 j.0, (record { contents = j.1.0.contents; names = j.1.0.names; members = j.1.0.members; items = j.1.0.items; objects = j.1.0.objects }, j.1.1)))

in_loop_kept : (body : Rule Statement) (s : State) → IsKept s → ((t : State) → IsKept t → Post (body t) Kept) → Post (in_loop body s) Kept
unfolding in_loop bind
in_loop_kept body s h k = then_kept (body _) _ (k _ (kept_in s _ refl h)) (λ r j. kept_in r.1 _ refl j)

in_switch_kept : (e : Expression) (body : Rule Statement) (s : State) → IsKept s → ((t : State) → IsKept t → Post (body t) Kept) → Post (in_switch e body s) Kept
unfolding in_switch bind
in_switch_kept e body s h k = then_kept (body _) _ (k _ (kept_in s _ refl h)) (λ r j. kept_in r.1 _ refl j)

mutual
  unfolding stmt_rule WellFormedStmt

  stmt_kept : (env : Env) (st : Stmt) (s : State) → WellFormedStmt env st → IsKept s → Post (stmt_rule st s) Kept
  stmt_kept env (S.Compound b) s w h = scoped_kept (block_rule b) s h (λ t k. block_kept env b t w k)
  stmt_kept env (S.Expression e) s w h = then_kept _ _ (expr_kept env e s w h) (λ r k. then_kept _ _ (kept_still r.1 _ k (value_still r.0 r.1)) (λ u j. j))
  stmt_kept env (S.Labeled ls st) s w h = then_kept _ _ (labels_kept env ls s w.1 h) (λ r k. then_kept _ _ (stmt_kept (after_labels env ls) st r.1 w.3 k) (λ u j. j))
  stmt_kept env (S.If t c st a) s w h =
      then_kept _ _ (condition_kept env t c s w.0 h) (λ r k.
      then_kept _ _ (stmt_kept (after_expr env c) st r.1 w.1 k) (λ u j.
      then_kept _ _ (alternative_kept (after_stmt (after_expr env c) st) a u.1 w.3 j) (λ v i. i)))
  stmt_kept env (S.Switch t e st) s w h =
      then_kept _ _ (switch_kept env t e s w.0 h) (λ r k.
      then_kept _ _ (in_switch_kept r.0 (stmt_rule st) r.1 k (λ v i. stmt_kept (after_expr env e) st v w.1 i)) (λ u j. j))
  stmt_kept env (S.While t e st) s w h =
      then_kept _ _ (condition_kept env t e s w.0 h) (λ r k. then_kept _ _ (in_loop_kept (stmt_rule st) r.1 k (λ v i. stmt_kept (after_expr env e) st v w.1 i)) (λ u j. j))
  stmt_kept env (S.Do t st e) s w h =
      then_kept _ _ (in_loop_kept (stmt_rule st) s h (λ v i. stmt_kept env st v w.0 i)) (λ r k. then_kept _ _ (condition_kept (after_stmt env st) t e r.1 w.1 k) (λ u j. j))
  stmt_kept env (S.For t a b c st) s w h =
      then_kept _ _ (optional_kept env a s w.0 h) (λ r k.
      then_kept _ _ (optional_condition_kept (after_optional env a) t b r.1 w.1 k) (λ u j.
      then_kept _ _ (optional_kept (after_optional (after_optional env a) b) c u.1 w.2 j) (λ v i.
      then_kept _ _ (in_loop_kept (stmt_rule st) v.1 i (λ x y. stmt_kept (after_optional (after_optional (after_optional env a) b) c) st x w.3 y)) (λ x y. y))))
  stmt_kept env (S.Return t e) s w h = return_kept env t e s w h
  stmt_kept env st s w h = bare_post Kept st refl s (λ b. h)

  alternative_kept : (env : Env) (a : Alternative) (s : State) → WellFormedAlternative env a → IsKept s → Post (alternative_rule a s) Kept
  alternative_kept env S.NoElse s w h = h
  alternative_kept env (S.Otherwise st) s w h = then_kept _ _ (stmt_kept env st s w.1 h) (λ r k. k)
  alternative_kept env (S.ElseIf t c st a) s w h =
      then_kept _ _ (condition_kept env t c s w.0 h) (λ r k.
      then_kept _ _ (stmt_kept (after_expr env c) st r.1 w.1 k) (λ u j.
      then_kept _ _ (alternative_kept (after_stmt (after_expr env c) st) a u.1 w.3 j) (λ v i. i)))

  block_kept : (env : Env) (b : Block) (s : State) → WellFormedBlock env b → IsKept s → Post (block_rule b s) Kept
  block_kept env (S.Braced t ds ss) s w h =
      then_kept _ _ h (λ r k.
      then_kept _ _ (decls_held env ds r.1 w.0 k.0 k.1) (λ u j.
      then_kept _ _ j (λ v i.
      then_kept _ _ (stmts_kept (after_decls env ds) ss v.1 w.1 i) (λ x y. y))))

  stmts_kept : (env : Env) (ss : Stmts) (s : State) → WellFormedStmts env ss → IsKept s → Post (stmts_rule ss s) Kept
  stmts_kept env S.NoStmt s w h = h
  stmts_kept env (S.Next st rest) s w h = then_kept _ _ (stmt_kept env st s w.0 h) (λ r k. then_kept _ _ (stmts_kept (after_stmt env st) rest r.1 w.1 k) (λ u j. j))

-- ---- functions

abbrev HaveFit : List FunctionValue → Type 0
HaveFit fs = (i : ℕ) (f : FunctionValue) → slice_get fs i ≡ Some f → LocalsFit f.locals

one_fit : (fs : List FunctionValue) (f : FunctionValue) → HaveFit fs → LocalsFit f.locals → HaveFit (fs ++ f ∷ [])
one_fit fs f all h i g e = by (get_more fs f i g e)
  where
    by : (slice_get fs i ≡ Some g) ⊎ ((i ≡ length fs) × (f ≡ g)) → LocalsFit g.locals
    by (inl k) = all i g k
    by (inr k) = subst (λ (x : FunctionValue). LocalsFit x.locals) k.1 h

scalar_fit : (q : QType) → IsScalar (type_of q) → IsFit (type_of q)
scalar_fit (Qualified (Int k) c v) h = tt
scalar_fit (Qualified (Pointer q) c v) h = tt
scalar_fit (Qualified Void c v) h = absurd h
scalar_fit (Qualified (Array q n) c v) h = absurd h
scalar_fit (Qualified (FunctionType q ps) c v) h = absurd h
scalar_fit (Qualified (Record n) c v) h = absurd h

parameters_fit : (r : List RecordValue) (ps : List ParameterValue) → AreScalars r ps → LocalsFit (map parameter_local ps)
parameters_fit r [] h = tt
parameters_fit r (p ∷ ps) h = (scalar_fit p.ty h.1, parameters_fit r ps h.2)

-- how a module goes on
abbrev GoesOn : {A : Type 0} → State → A × State → Type 0
GoesOn s r = IsKept r.1 × (HaveFit s.made.functions → HaveFit r.1.made.functions)

body_goes_on : (env : Env) (s : State) (w : Word) (place : ℕ) (q : QType) (b : Bindings) (es : List Entity) (block : Block) → IsKept s → GoodBindings s.types.records es b → WellFormedBlock env block
    → Post (body_rule w place q b block s) (GoesOn s)
unfolding body_rule measured_rule bind
body_goes_on env s w place q b es block h good text =
    let c : IsLawful (enter_body q b (labels_in_block block) s) = body_lawful s es q b (labels_in_block block) h.0 good in
    post_bind (block_rule block (enter_body q b (labels_in_block block) s)) _
    (λ r. (IsLawful r.1 × After (enter_body q b (labels_in_block block) s) r.1 × Unit {0}) × IsKept r.1) (GoesOn s)
    (post_both _ (λ r. IsLawful r.1 × After (enter_body q b (labels_in_block block) s) r.1 × Unit {0}) Kept (block_goes block (enter_body q b (labels_in_block block) s) c)
    (block_kept env block (enter_body q b (labels_in_block block) s) text (c, (record { contents = h.1.0.contents; names = h.1.0.names; members = h.1.0.members; items = h.1.0.items; objects = h.1.0.objects }, parameters_fit s.types.records b.parameters good.scalars))))
    (λ r g met.
    let n : IsLawful (leave_scope r.1) = left_lawful_alone r.1 g.0.0 in (
      (
        record { contents = n.contents; begun = n.begun; counted = n.counted; entities = n.entities; tags = n.tags; linked = n.linked; laid = n.laid; apart = n.apart; depths = n.depths },
        (record { contents = g.1.1.0.contents; names = g.1.1.0.names; members = g.1.1.0.members; items = g.1.1.0.items; objects = g.1.1.0.objects }, g.1.1.1),
      ),
      λ all. one_fit r.1.made.functions (function_of r.1 w place q b r.0) (subst HaveFit (sym g.0.1.functions) all) g.1.1.1,
    ))

goes_later : {A : Type 0} (s t : State) (w : Walk (A × State)) → t.made.functions ≡ s.made.functions → Post w (GoesOn t) → Post w (GoesOn s)
goes_later s t w same h = post_weaken w (GoesOn t) (GoesOn s) h (λ r g. (g.0, λ all. g.1 (subst HaveFit (sym same) all)))

function_goes_on : (env : Env) (s : State) (f : Function) → IsKept s → WellFormedFunction env f → Post (function_rule f s) (GoesOn s)
unfolding function_rule
function_goes_on env s f l text =
    post_bind _ _ (λ r. (IsLawful r.1 × Grows s r.1 × GoodSpecified r.1 r.0) × (Fit r.1 × IsFit (type_of r.0.ty))) (GoesOn s)
    (specified_held env f.specifiers (first_of_declaration f.specifiers f.declarator) s text.0 l.0 l.1.0) (λ r g.
    post_bind _ _ (λ u. (IsLawful u.1 × Grows r.1 u.1 × GoodDeclared u.1 u.0) × DeclaratorFits u) (GoesOn s)
    (post_both _ (λ u. IsLawful u.1 × Grows r.1 u.1 × GoodDeclared u.1 u.0) DeclaratorFits (declarator_post f.declarator r.1 g.0.0)
    (declarator_fit (after_specifiers env f.specifiers) (has_type f.specifiers) Named f.declarator r.1 text.1 (g.0.0, g.1.0))) (λ u h.
    post_bind _ _ (λ v. (IsLawful v.1 × Grows u.1 v.1 × GoodType v.1 v.0) × (Still u.1 v × IsFit (type_of v.0))) (GoesOn s)
    (post_both _ (λ v. IsLawful v.1 × Grows u.1 v.1 × GoodType v.1 v.0) (λ v. Still u.1 v × IsFit (type_of v.0))
    (built_runs u.1 (spot_of u.0.name r.0.first r.0.tag) u.0.derivations r.0.ty h.0.0 h.0.2.0 (lawful_later r.1.types.records u.1.types.records h.0.1.extends (type_of r.0.ty) g.0.2))
    (post_both _ (Still u.1) (λ v. IsFit (type_of v.0)) (built_still (spot_of u.0.name r.0.first r.0.tag) u.0.derivations r.0.ty u.1)
    (built_fit (spot_of u.0.name r.0.first r.0.tag) u.0.derivations r.0.ty u.1 h.1.1 g.1.1))) (λ v i.
    let grown : Grows s v.1 = grows_trans g.0.1 (grows_trans h.0.1 i.0.1) in
    let held : Held v.1 = (subst Fit (sym i.1.0) h.1.0.1, body_held grown l.1.1) in
    asked_post v.1 _ _ (GoesOn s)
    (post_bind _ _ (λ e. (IsLawful e.1 × Knows v.1 e.1) × Held e.1) (GoesOn s)
    (met_post v.1 _ _ (λ e. (IsLawful e.1 × Knows v.1 e.1) × Held e.1) (λ met.
    post_both _ (λ e. IsLawful e.1 × Knows v.1 e.1) HeldAt
    (declared_knows v.1 (name_of u.0).text (name_of u.0).token r.0.tag (definition_asking r.0) v.0 i.0.0 i.0.2)
    (declare_held (name_of u.0).text (name_of u.0).token r.0.tag (definition_asking r.0) v.0 v.1 i.1.1 held))) (λ e j.
    let c = function_kept e.1 e.0 j.0.0 in
    asked_post _ _ _ (GoesOn s)
    (goes_later s (define_function e.0 e.1) (body_rule (name_of u.0) e.0 v.0 (bindings_of u.0) f.body (define_function e.0 e.1))
    (c.1.functions ∙ (j.0.1.functions ∙ grown.functions))
    (body_goes_on _ (define_function e.0 e.1) (name_of u.0) e.0 v.0 (bindings_of u.0) v.1.scopes.entities f.body (c.0, change_held e.1 e.0 (λ x. record x { defined = true }) (λ x some. some) j.1)
    (good_if_any (define_function e.0 e.1).types.records v.1.scopes.entities u.0.bindings
    (bindings_later v.1.types.records (define_function e.0 e.1).types.records v.1.scopes.entities v.1.scopes.entities (extends_trans j.0.1.extends c.1.extends) (λ k x y. y) u.0.bindings
    (bindings_later u.1.types.records v.1.types.records u.1.scopes.entities v.1.scopes.entities i.0.1.extends i.0.1.entities u.0.bindings h.0.2.1)))
    text.3)))))))

-- ---- modules

external_goes_on : (env : Env) (s : State) (x : External) → IsKept s → WellFormedExternal env x → Post (external_rule x s) (GoesOn s)
unfolding external_rule
external_goes_on env s (S.Definition f) l text = function_goes_on env s f l text
external_goes_on env s (S.Declaration d) l text =
    post_bind _ _ (λ r. (IsLawful r.1 × After s r.1 × Unit {0}) × Held r.1) (GoesOn s) (post_both _ (λ r. IsLawful r.1 × After s r.1 × Unit {0}) HeldAt (decl_goes s d l.0) (decl_held env d s text l.0 l.1))
    (λ r g. ((g.0.0, g.1), λ all. subst HaveFit (sym g.0.1.functions) all))

externals_go_on : (env : Env) (xs : List External) (s : State) → IsKept s → WellFormedExternals env xs → Post (externals_rule xs s) (GoesOn s)
unfolding externals_rule
externals_go_on env [] s l text = (l, λ all. all)
externals_go_on env (x ∷ rest) s l text =
    post_bind _ _ (GoesOn s) (GoesOn s) (external_goes_on env s x l text.0)
    (λ r h. post_weaken (externals_rule rest r.1) (GoesOn r.1) (GoesOn s) (externals_go_on (after_external env x) rest r.1 h.0 text.1) (λ u k. (k.0, λ all. k.1 (h.1 all))))

-- at a module's end
pub record IsWhollyFit (m : ModuleValue) : Type 0 where
  pub records : AreSolid m.records
  pub locals : All (λ f. LocalsFit f.locals) m.functions
  pub objects : All (λ g. All (λ p. 0 < item_size p.item) g.items) m.globals

functions_fit : (fs : List FunctionValue) → HaveFit fs → All (λ f. LocalsFit f.locals) fs
functions_fit fs h = λ k d below. h k _ (slice_get-get_or fs k d below)

slot_some : (t : State) → Fit t → (x : Slot) → AllByRecursion (λ (g : GlobalValue). AreSome g.items) (global_in t x)
slot_some t f (slot.Named place) = by (linked_at t place) refl
  where
    by : (o : Option LinkedName) → linked_at t place ≡ o → AllByRecursion (λ (g : GlobalValue). AreSome g.items) (option_map_or (λ l. named_global t l ∷ []) o [])
    by None e = tt
    by (Some l) e = (f.items place l e, tt)
slot_some t f (slot.Hidden k) = by (slice_get t.made.hidden k) refl
  where
    by : (o : Option HiddenObject) → slice_get t.made.hidden k ≡ o → AllByRecursion (λ (g : GlobalValue). AreSome g.items) (option_map_or (λ h. hidden_global k h ∷ []) o [])
    by None e = tt
    by (Some h) e = (f.objects k h e, tt)

slots_some : (t : State) → Fit t → (xs : List Slot) → AllByRecursion (λ (x : Slot). AllByRecursion (λ (g : GlobalValue). AreSome g.items) (global_in t x)) xs
slots_some t f [] = tt
slots_some t f (x ∷ xs) = (slot_some t f x, slots_some t f xs)

all_of : {X : Type 0} (P : X → Type 0) (xs : List X) → AllByRecursion P xs → All P xs
all_of P xs h = λ k d below. at_all P xs k _ (slice_get-get_or xs k d below) h

globals_some : (t : State) → Fit t → All (λ (g : GlobalValue). All (λ (p : PlacedItem). 0 < item_size p.item) g.items) (module_in t).globals
globals_some t f = λ k d below.
    all_of (λ (p : PlacedItem). 0 < item_size p.item) _
    (at_all (λ (g : GlobalValue). AreSome g.items) (module_in t).globals k _ (slice_get-get_or (module_in t).globals k d below) (all_flat (global_in t) (λ (g : GlobalValue). AreSome g.items) t.made.slots (slots_some t f t.made.slots)))

module_fit : (m : Module) (s : State) → IsKept s → WellFormedModule m → HaveFit s.made.functions → Post (module_rule m s) (λ r. IsWhollyFit r.0)
unfolding module_rule
module_fit m s l text none =
    post_bind _ _ (GoesOn s) (λ r. IsWhollyFit r.0)
    (post_bind _ _ (GoesOn s) (GoesOn s) (externals_go_on [] m.externals s l text.1) (λ r h. h)) (λ r h.
    post_bind _ _ (λ u. u.1 ≡ r.1) (λ u. IsWhollyFit u.0) (end_same r.0 r.1) (λ u e.
    record {
      records = subst (λ (t : State). AreSolid t.types.records) (sym e) h.0.1.0.contents;
      locals = subst (λ (t : State). All (λ (f : FunctionValue). LocalsFit f.locals) t.made.functions) (sym e) (functions_fit r.1.made.functions (h.1 none));
      objects = subst (λ (t : State). All (λ (g : GlobalValue). All (λ (p : PlacedItem). 0 < item_size p.item) g.items) (module_in t).globals) (sym e) (globals_some r.1 h.0.1.0);
    }))

checking_fit : (m : Module) → WellFormedModule m → Post (bind (module_rule m start) (λ r. Done r.0)) IsWhollyFit
checking_fit m text =
    post_bind (module_rule m start) (λ r. Done r.0) (λ r. IsWhollyFit r.0) IsWhollyFit
    (module_fit m start (Rattle.pw_law_checked.proofs.Laws.start_lawful, (record { contents = λ n c e. never_some e; names = λ k e h. never_some h; members = λ n c e. never_some e; items = λ i l e. never_some e; objects = λ k h e. never_some e }, tt)) text (λ i f e. never_some e)) (λ r h. h)

wholly_fit : (tree : Module) (m : ModuleValue) → WellFormedModule tree → Checks tree (Ok m) → IsWhollyFit m
unfolding checking
wholly_fit tree m text h = post_end (checking tree) m IsWhollyFit h (checking_fit tree text)

-- ---- the laws

record_object : (r : List RecordValue) → IsLaid r → (number : ℕ) (c : ContentValue) → content_at r number ≡ Some c → IsObjectType r (Record number)
record_object r laid number c e =
    subst (λ o. IsSomeAnd (option_map (λ (x : ContentValue). x.layout) o) (λ (l : Layout). l.size ≤ size_limit)) (sym e) (laid number c e).within

pub module_records : (tree : Module) (m : ModuleValue) → IsLaid m.records → WellFormedModule tree → Checks tree (Ok m) → AreRecordsWithin m.records
module_records tree m laid text h number c e = record {
  copied = object_copied m.records (Record number) (wholly_fit tree m text h).records tt (record_object m.records laid number c e);
  offsets = offsets_words m.records laid number c e;
}

local_fit : (ls : List LocalValue) (i : ℕ) (l : LocalValue) → slice_get ls i ≡ Some l → LocalsFit ls → IsFit (type_of l.ty)
local_fit [] i l e h = never_some e
local_fit (x ∷ ls) zero l e h = subst (λ (y : LocalValue). IsFit (type_of y.ty)) (Rattle.pw_law_checked.proofs.Lists.some_same e) h.0
local_fit (x ∷ ls) (suc i) l e h = local_fit ls i l e h.1

abbrev AreLocals : ModuleValue → Type 0
AreLocals m = All (λ f. All (λ l. IsObjectType m.records (type_of l.ty) × Rattle.pw_types.specs.WellTyped.IsKnownType m.records (type_of l.ty)) f.locals) m.functions

pub module_locals : (tree : Module) (m : ModuleValue) → AreLocals m → WellFormedModule tree → Checks tree (Ok m) → All (λ f. All (λ l. IsCopied m.records (type_of l.ty)) f.locals) m.functions
module_locals tree m objects text h = λ k d below i x inside.
    object_copied m.records _ (wholly_fit tree m text h).records
    (local_fit _ i _ (slice_get-get_or _ i x inside) ((wholly_fit tree m text h).locals k d below)) (objects k d below i x inside).0

pub module_items : (tree : Module) (m : ModuleValue) → WellFormedModule tree → Checks tree (Ok m) → All (λ g. All (λ p. 0 < item_size p.item) g.items) m.globals
module_items tree m text h = (wholly_fit tree m text h).objects
