-- In trees of C90's grammar a list of initialisers in braces has one, so each local that is initialised by the bytes of a hidden
-- object has an expression of which they are made (ISO C90 6.5.7).
use Rattle.std.specs.Prelude.{ℕ, ◌≡◌, ◌+◌, Bool, true, false, Option, None, Some, List, [], ◌∷◌, ◌++◌, sum_by, refl}
use Rattle.std.proofs.Common.{arith, ◌∙◌}
use Rattle.std.proofs.lemmas.List.Sums.{sum_by-append}
use Rattle.pw_tree.specs.FirstTokens.{first_of_expr}
use Rattle.pw_tree.specs.Scopes.{Env, after_expr, after_init, after_initializer, after_name, after_specifiers, after_decl, after_decls, after_labels, after_optional, after_stmt}
use Rattle.pw_tree.specs.Trees.{Word, Expr, Init, Inits, Initializer, InitDeclarator, Decl, Stmt, Alternative, Block, Stmts, Specifiers}
use Rattle.pw_tree.specs.Trees as S
use Rattle.pw_tree.specs.WellFormed.{NotEmpty, HasInit, WellFormedInit, WellFormedInits, WellFormedInitializer, WellFormedInitDeclarators, WellFormedDecls, WellFormedStmt, WellFormedAlternative, WellFormedBlock, WellFormedStmts}
use Rattle.pw_law_lower.specs.Parts.{partless_in, partless, partless_among, partless_of_arms, partless_behind}
use Rattle.pw_types.specs.TypeTrees.{QType, type_of}
use Rattle.pw_types.specs.TypedTrees.{Expression, Initialiser, Statement}
use Rattle.pw_types.specs.TypedTrees as T
use Rattle.pw_check_walk.specs.Causes.{InitialiserCount}
use Rattle.pw_check_walk.specs.Walks.{bind, granted}
use Rattle.pw_check_rules.specs.Declarations.{Sort, ATypedef, AFunction, AGlobal, AnExtern, AStatic, ALocal, global_rule, completed_rule, static_rule, first_part, bytes_rule, single_rule, local_initialiser, local_rule, declare_rule, init_declarator_rule, init_declarators_rule, bare_rule, specified_rule, declarators_rule, decl_rule, decls_rule, context_of, hidden_of}
use Rattle.pw_check_rules.specs.Initialisers.{Context, Filled, Cursor, Target, target_at, frame_of, nothing_filled, value_filled, string_filled, StringForm, IsString, IsOther, string_form, braced_string, words_in, listed_value, listed_string, listed_expression, listed_by, listed_form, meets_characters, takes_record, reach, fills_characters, braced_by, inits_rule, init_rule, Initialised, object_string, object_value, object_list, object_by, object_rule, is_by_bytes}
use Rattle.pw_check_rules.specs.Kinds.{is_character_array}
use Rattle.pw_check_rules.specs.Leaves.{string_point}
use Rattle.pw_check_rules.specs.Limits.{Spot}
use Rattle.pw_check_rules.specs.SpecifierLists.{Specified}
use Rattle.pw_check_rules.specs.States.{State, Rule, scoped, one_deeper, records_in, next_hidden, add_hidden}
use Rattle.pw_check_rules.specs.Statements.{Behind, whole_rule, return_rule, in_switch, in_loop, stmt_rule, alternative_rule, block_rule, stmts_rule}
use Rattle.pw_law_checked.proofs.Bare.{Bare, Going, statement_of, bare_post}
use Rattle.pw_law_checked.proofs.Walking.{Post, post_bind, after_any}

-- ---- lists of initialisers

more_there : {X : Type 0} (xs : List X) (x : X) → NotEmpty (xs ++ x ∷ [])
more_there [] x = tt
more_there (y ∷ xs) x = tt

abbrev HasPart : Filled → Type 0
HasPart filled = NotEmpty filled.parts

value_part : (cx : Context) (first : ℕ) (t : Target) (e : Expression) (filled : Filled) (s : State) → Post (value_filled cx first t e filled s) (λ r. HasPart r.0)
unfolding value_filled bind
value_part cx first t e filled s = λ met. more_there filled.parts _

string_part : (cx : Context) (ws : List Word) (t : Target) (filled : Filled) (s : State) → Post (string_filled cx ws t filled s) (λ r. HasPart r.0)
unfolding string_filled string_point bind
string_part cx ws t filled s = λ met more. more_there filled.parts _

listed_value_part : (cx : Context) (cursor : Cursor) (filled : Filled) (first : ℕ) (e : Expression) (s : State) → Post (listed_value cx cursor filled first e s) (λ r. HasPart r.0.1)
unfolding listed_value bind
listed_value_part cx cursor filled first e s =
    after_any (granted InitialiserCount cx.token [] (reach (records_in s) (takes_record e) cursor) s) _ (λ r. HasPart r.0.1) (λ r.
    post_bind (value_filled cx first r.0.target e filled r.1) _ (λ u. HasPart u.0) (λ u. HasPart u.0.1) (value_part cx first r.0.target e filled r.1) (λ u h. h))

listed_string_part : (cx : Context) (cursor : Cursor) (filled : Filled) (ws : List Word) (s : State) → Post (listed_string cx cursor filled ws s) (λ r. HasPart r.0.1)
unfolding listed_string bind
listed_string_part cx cursor filled ws s =
    after_any (granted InitialiserCount cx.token [] (reach (records_in s) is_character_array cursor) s) _ (λ r. HasPart r.0.1) (λ r.
    post_bind (string_filled cx ws r.0.target filled r.1) _ (λ u. HasPart u.0) (λ u. HasPart u.0.1) (string_part cx ws r.0.target filled r.1) (λ u h. h))

listed_expression_part : (cx : Context) (cursor : Cursor) (filled : Filled) (e : Expr) (s : State) → Post (listed_expression cx cursor filled e s) (λ r. HasPart r.0.1)
unfolding listed_expression
listed_expression_part cx cursor filled e s =
    after_any _ _ (λ r. HasPart r.0.1) (λ a. after_any _ _ (λ r. HasPart r.0.1) (λ x. listed_value_part cx cursor filled (first_of_expr e) x.0 x.1))

listed_by_part : (whole : Bool) (cx : Context) (cursor : Cursor) (filled : Filled) (e : Expr) (ws : List Word) (s : State) → Post (listed_by whole cx cursor filled e ws s) (λ r. HasPart r.0.1)
unfolding listed_by
listed_by_part true cx cursor filled e ws s = listed_string_part cx cursor filled ws s
listed_by_part false cx cursor filled e ws s = listed_expression_part cx cursor filled e s

listed_form_part : (cx : Context) (cursor : Cursor) (filled : Filled) (e : Expr) (form : StringForm) (s : State) → Post (listed_form cx cursor filled e form s) (λ r. HasPart r.0.1)
unfolding listed_form bind
listed_form_part cx cursor filled e IsOther s = listed_expression_part cx cursor filled e s
listed_form_part cx cursor filled e (IsString ws) s = listed_by_part (meets_characters (records_in s) cursor) cx cursor filled e ws s

braced_by_part : (b : Bool) (cx : Context) (t : Target) (filled : Filled) (ws : List Word) (within : Rule (Cursor × Filled)) (s : State) → Post (within s) (λ r. HasPart r.0.1)
    → Post (braced_by b cx t filled ws within s) (λ r. HasPart r.0.1)
unfolding braced_by bind
braced_by_part true cx t filled ws within s h = post_bind (string_filled cx ws t filled s) _ (λ u. HasPart u.0) (λ u. HasPart u.0.1) (string_part cx ws t filled s) (λ u k. k)
braced_by_part false cx t filled ws within s h = h

mutual
  unfolding inits_rule WellFormedInit

  -- each initialiser gives a part
  init_part : (env : Env) (i : Init) (cx : Context) (cursor : Cursor) (filled : Filled) (s : State) → WellFormedInit env i → Post (init_rule i cx cursor filled s) (λ r. HasPart r.0.1)
  init_part env (S.Value e) cx cursor filled s w = listed_form_part cx cursor filled e (string_form e) s
  init_part env (S.Braces token is trailing) cx cursor filled s w =
      after_any _ _ (λ r. HasPart r.0.1) (λ t.
      post_bind _ _ (λ r. HasPart r.0.1) (λ r. HasPart r.0.1)
      (braced_by_part (fills_characters (type_of t.0.ty) (braced_string is)) cx t.0 filled (words_in (braced_string is)) (inits_rule is cx (frame_of t.0 ∷ []) filled) t.1
      (inits_part env is cx (frame_of t.0 ∷ []) filled t.1 w.0 w.1)) (λ r h. after_any _ _ (λ u. HasPart u.0.1) (λ u. h)))

  inits_part : (env : Env) (is : Inits) (cx : Context) (cursor : Cursor) (filled : Filled) (s : State) → HasInit is → WellFormedInits env is → Post (inits_rule is cx cursor filled s) (λ r. HasPart r.0.1)
  inits_part env S.NoInit cx cursor filled s has w = absurd has
  inits_part env (S.Listed i rest) cx cursor filled s has w =
      post_bind _ _ (λ r. HasPart r.0.1) (λ r. HasPart r.0.1) (init_part env i cx cursor filled s w.0)
      (λ r h. inits_kept (after_init env i) rest cx r.0.0 r.0.1 r.1 h w.1)

  inits_kept : (env : Env) (is : Inits) (cx : Context) (cursor : Cursor) (filled : Filled) (s : State) → HasPart filled → WellFormedInits env is → Post (inits_rule is cx cursor filled s) (λ r. HasPart r.0.1)
  inits_kept env S.NoInit cx cursor filled s has w = has
  inits_kept env (S.Listed i rest) cx cursor filled s has w =
      post_bind _ _ (λ r. HasPart r.0.1) (λ r. HasPart r.0.1) (init_part env i cx cursor filled s w.0)
      (λ r h. inits_kept (after_init env i) rest cx r.0.0 r.0.1 r.1 h w.1)

-- ---- objects

abbrev IsGiven : Initialised → Type 0
IsGiven o = HasPart o.filled

object_string_part : (cx : Context) (q : QType) (ws : List Word) (s : State) → Post (object_string cx q ws s) (λ r. IsGiven r.0)
unfolding object_string
object_string_part cx q ws s = post_bind _ _ (λ r. HasPart r.0) (λ r. IsGiven r.0) (string_part cx ws (target_at q 0) nothing_filled s) (λ r h. h)

object_value_part : (cx : Context) (q : QType) (e : Expr) (s : State) → Post (object_value cx q e s) (λ r. IsGiven r.0)
unfolding object_value
object_value_part cx q e s =
    after_any _ _ (λ r. IsGiven r.0) (λ a.
    after_any _ _ (λ r. IsGiven r.0) (λ x.
    post_bind _ _ (λ r. HasPart r.0) (λ r. IsGiven r.0) (value_part cx (first_of_expr e) (target_at q 0) x.0 nothing_filled x.1) (λ r h. h)))

object_list_part : (env : Env) (cx : Context) (q : QType) (is : Inits) (s : State) → HasInit is → WellFormedInits env is → Post (object_list cx q is s) (λ r. IsGiven r.0)
unfolding object_list
object_list_part env cx q is s has w = post_bind _ _ (λ r. HasPart r.0.1) (λ r. IsGiven r.0) (inits_part env is cx (frame_of (target_at q 0) ∷ []) nothing_filled s has w) (λ r h. h)

object_by_part : (b : Bool) (cx : Context) (q : QType) (ws : List Word) (other : Rule Initialised) (s : State) → Post (other s) (λ r. IsGiven r.0) → Post (object_by b cx q ws other s) (λ r. IsGiven r.0)
unfolding object_by
object_by_part true cx q ws other s h = object_string_part cx q ws s
object_by_part false cx q ws other s h = h

object_part : (env : Env) (cx : Context) (q : QType) (i : Init) (s : State) → WellFormedInit env i → Post (object_rule cx q i s) (λ r. IsGiven r.0)
unfolding object_rule WellFormedInit
object_part env cx q (S.Value e) s w = object_by_part (fills_characters (type_of q) (string_form e)) cx q (words_in (string_form e)) (object_value cx q e) s (object_value_part cx q e s)
object_part env cx q (S.Braces token is trailing) s w =
    object_by_part (fills_characters (type_of q) (braced_string is)) cx q (words_in (braced_string is)) (object_list cx q is) s (object_list_part env cx q is s w.0 w.1)

-- ---- declarations

abbrev AreParted : List Initialiser → Type 0
AreParted is = sum_by partless_in is ≡ 0

zeros : (a b : ℕ) → a ≡ 0 → b ≡ 0 → a + b ≡ 0
zeros a b h k = omega (arith, h, k)

bytes_parted : (k hidden : ℕ) (parts : List Expression) → NotEmpty parts → AreParted (T.Bytes k hidden parts ∷ [])
bytes_parted k hidden [] h = absurd h
bytes_parted k hidden (e ∷ rest) h = refl

first_parted : (k : ℕ) (parts : List Expression) → AreParted (first_part parts [] (λ e. T.Value k e))
first_parted k [] = refl
first_parted k (e ∷ rest) = refl

bytes_rule_parts : (env : Env) (w : Word) (k : ℕ) (q : QType) (i : Init) (s : State) → WellFormedInit env i → Post (bytes_rule w k q i s) (λ r. AreParted r.0.1)
unfolding bytes_rule completed_rule bind
bytes_rule_parts env w k q i s good =
    post_bind (object_rule (context_of w true (next_hidden s)) q i (add_hidden (hidden_of q [] false) s)) _ (λ r. IsGiven r.0) (λ r. AreParted r.0.1)
    (object_part env (context_of w true (next_hidden s)) q i (add_hidden (hidden_of q [] false) s) good) (λ r h met. bytes_parted k (next_hidden s) r.0.filled.parts h)

single_rule_parts : (w : Word) (k : ℕ) (q : QType) (i : Init) (s : State) → Post (single_rule w k q i s) (λ r. AreParted r.0.1)
unfolding single_rule
single_rule_parts w k q i s = after_any _ _ (λ r. AreParted r.0.1) (λ r. first_parted k r.0.filled.parts)

local_initialiser_parts : (env : Env) (bytes : Bool) (w : Word) (k : ℕ) (q : QType) (i : Init) (s : State) → WellFormedInit env i → Post (local_initialiser bytes w k q i s) (λ r. AreParted r.0.1)
unfolding local_initialiser
local_initialiser_parts env true w k q i s good = bytes_rule_parts env w k q i s good
local_initialiser_parts env false w k q i s good = single_rule_parts w k q i s

local_rule_parts : (env : Env) (w : Word) (b : Specified) (q : QType) (i : Option Initializer) (s : State) → WellFormedInitializer env i → Post (local_rule w b q i s) (λ r. AreParted r.0)
unfolding local_rule bind
local_rule_parts env w b q None s good = refl
local_rule_parts env w b q (Some i) s good =
    post_bind (local_initialiser (is_by_bytes (type_of q) i.init) w _ q i.init _) _ (λ r. AreParted r.0.1) (λ r. AreParted r.0) (local_initialiser_parts env (is_by_bytes (type_of q) i.init) w _ q i.init _ good) (λ r h. h)

static_rule_parts : (w : Word) (q : QType) (i : Option Initializer) (s : State) → Post (static_rule w q i s) (λ r. AreParted r.0)
unfolding static_rule completed_rule bind
static_rule_parts w q None s = refl
static_rule_parts w q (Some i) s = after_any (object_rule _ q i.init _) _ (λ r. AreParted r.0) (λ r met. refl)

global_rule_parts : (w : Word) (b : Specified) (spot : Spot) (q : QType) (i : Option Initializer) (s : State) → Post (global_rule w b spot q i s) (λ r. AreParted r.0)
unfolding global_rule
global_rule_parts w b spot q None s = after_any _ _ (λ r. AreParted r.0) (λ r. after_any _ _ (λ u. AreParted u.0) (λ u. refl))
global_rule_parts w b spot q (Some i) s =
    after_any _ _ (λ r. AreParted r.0) (λ r1.
    after_any _ _ (λ r. AreParted r.0) (λ r2.
    after_any _ _ (λ r. AreParted r.0) (λ r3.
    after_any _ _ (λ r. AreParted r.0) (λ r4. refl))))

declare_parts : (env : Env) (sort : Sort) (w : Word) (b : Specified) (spot : Spot) (q : QType) (i : Option Initializer) (s : State) → WellFormedInitializer env i
    → Post (declare_rule sort w b spot q i s) (λ r. AreParted r.0)
unfolding declare_rule bind
declare_parts env ATypedef w b spot q i s good = refl
declare_parts env AFunction w b spot q i s good = after_any (Rattle.pw_check_rules.specs.Linkage.declare_linked _ _ _ _ _ s) _ (λ r. AreParted r.0) (λ r. refl)
declare_parts env AGlobal w b spot q i s good = global_rule_parts w b spot q i s
declare_parts env AnExtern w b spot q i s good = after_any (Rattle.pw_check_rules.specs.Linkage.declare_linked _ _ _ _ _ s) _ (λ r. AreParted r.0) (λ r. refl)
declare_parts env AStatic w b spot q i s good = static_rule_parts w q i s
declare_parts env ALocal w b spot q i s good = local_rule_parts env w b q i s good

init_declarator_parts : (env : Env) (b : Specified) (d : InitDeclarator) (s : State) → WellFormedInitializer env d.initializer → Post (init_declarator_rule b d s) (λ r. AreParted r.0)
unfolding init_declarator_rule
init_declarator_parts env b d s good =
    after_any _ _ (λ r. AreParted r.0) (λ c.
    after_any _ _ (λ r. AreParted r.0) (λ q.
    after_any _ _ (λ r. AreParted r.0) (λ sort.
    after_any _ _ (λ r. AreParted r.0) (λ n.
    declare_parts env sort.0 _ b _ q.0 d.initializer n.1 good))))

both_parted : (is more : List Initialiser) → AreParted is → AreParted more → AreParted (is ++ more)
both_parted is more h k = sum_by-append partless_in is more ∙ zeros (sum_by partless_in is) (sum_by partless_in more) h k

init_declarators_parts : (env : Env) (specifiers : Specifiers) (b : Specified) (ds : List InitDeclarator) (s : State) → WellFormedInitDeclarators env specifiers ds → Post (init_declarators_rule b ds s) (λ r. AreParted r.0)
unfolding init_declarators_rule
init_declarators_parts env specifiers b [] s good = refl
init_declarators_parts env specifiers b (d ∷ rest) s good =
    post_bind _ _ (λ r. AreParted r.0) (λ r. AreParted r.0) (init_declarator_parts (after_name env specifiers d.declarator) b d s good.1) (λ r h.
    post_bind _ _ (λ u. AreParted u.0) (λ u. AreParted u.0)
    (init_declarators_parts (after_initializer (after_name env specifiers d.declarator) d.initializer) specifiers b rest r.1 good.2) (λ u k. both_parted r.0 u.0 h k))

listed_parts : (specifiers : Specifiers) (s : State)
    → Post {A = List Initialiser × State} (bind (specified_rule specifiers (Rattle.pw_check_rules.specs.Leaves.first_of_list specifiers) s) (λ t. bind (bind (Rattle.pw_check_rules.specs.Declarations.storage_rule t.0 t.1) (λ u. Rattle.pw_check_walk.specs.Walks.meets (Rattle.pw_check_walk.specs.Causes.needs Rattle.pw_check_walk.specs.Causes.DeclaresSomething t.0.first (Rattle.pw_check_rules.specs.Declarations.declares_something specifiers) ∷ []) u.1)) (λ u. Rattle.pw_check_walk.specs.Walks.Done ([], u.1)))) (λ r. AreParted r.0)
listed_parts specifiers s = after_any _ _ (λ r. AreParted r.0) (λ t. after_any _ _ (λ r. AreParted r.0) (λ u. refl))

bare_parts : (specifiers : Specifiers) (s : State) → Post (bare_rule specifiers s) (λ r. AreParted r.0)
unfolding bare_rule
bare_parts (S.RecordTag t kind w S.NoSpecifier) s = after_any _ _ (λ r. AreParted r.0) (λ r. refl)
bare_parts specifiers s = listed_parts specifiers s

declarators_parts : (env : Env) (specifiers : Specifiers) (ds : List InitDeclarator) (s : State) → WellFormedInitDeclarators env specifiers ds → Post (declarators_rule specifiers ds s) (λ r. AreParted r.0)
unfolding declarators_rule
declarators_parts env specifiers [] s good = bare_parts specifiers s
declarators_parts env specifiers (d ∷ rest) s good =
    after_any _ _ (λ r. AreParted r.0) (λ b.
    after_any _ _ (λ r. AreParted r.0) (λ u. init_declarators_parts env specifiers b.0 (d ∷ rest) u.1 good))

decls_parts : (env : Env) (ds : List Decl) (s : State) → WellFormedDecls env ds → Post (decls_rule ds s) (λ r. AreParted r.0)
unfolding decls_rule decl_rule
decls_parts env [] s good = refl
decls_parts env (d ∷ rest) s good =
    post_bind _ _ (λ r. AreParted r.0) (λ r. AreParted r.0) (declarators_parts (after_specifiers env d.specifiers) d.specifiers d.declarators s good.0.2) (λ r h.
    post_bind _ _ (λ u. AreParted u.0) (λ u. AreParted u.0) (decls_parts (after_decl env d) rest r.1 good.1) (λ u k. both_parted r.0 u.0 h k))

-- ---- statements

abbrev IsParted : Statement → Type 0
IsParted x = partless x ≡ 0

scoped_post : {A : Type 0} (s : State) (inside : Rule A) (P : A → Type 0) → ((t : State) → Post (inside t) (λ r. P r.0)) → Post (scoped inside s) (λ r. P r.0)
unfolding scoped bind
scoped_post s inside P h = post_bind (inside (one_deeper s)) _ (λ r. P r.0) (λ r. P r.0) (h (one_deeper s)) (λ r k. k)

in_loop_post : (s : State) (body : Rule Statement) → ((t : State) → Post (body t) (λ r. IsParted r.0)) → Post (in_loop body s) (λ r. IsParted r.0)
unfolding in_loop bind
in_loop_post s body h = post_bind (body _) _ (λ r. IsParted r.0) (λ r. IsParted r.0) (h _) (λ r k. k)

in_switch_post : (s : State) (e : Expression) (body : Rule Statement) → ((t : State) → Post (body t) (λ r. IsParted r.0)) → Post (in_switch e body s) (λ r. IsParted r.0.0)
unfolding in_switch bind
in_switch_post s e body h = post_bind (body _) _ (λ r. IsParted r.0) (λ r. IsParted r.0.0) (h _) (λ r k. k)

bare_parted : (b : Bare) → IsParted (statement_of b)
bare_parted (Going t n) = refl
bare_parted b = refl

after_return : (t : ℕ) (e : Option Expr) (s : State) → Post (return_rule t e s) (λ r. IsParted r.0)
unfolding return_rule bind
after_return t None s = refl
after_return t (Some e) s = after_any (whole_rule e s) _ (λ r. IsParted r.0) (λ x met. refl)

abbrev AreBehindParted : Behind → Type 0
AreBehindParted b = (partless_of_arms b.arms ≡ 0) × (partless_behind b.otherwise ≡ 0)

mutual
  unfolding stmt_rule WellFormedStmt

  stmt_parts : (env : Env) (st : Stmt) (s : State) → WellFormedStmt env st → Post (stmt_rule st s) (λ r. IsParted r.0)
  stmt_parts env (S.Compound b) s h = scoped_post s (block_rule b) IsParted (λ t. block_parts env b t h)
  stmt_parts env (S.Expression e) s h = after_any _ _ (λ r. IsParted r.0) (λ a. after_any _ _ (λ r. IsParted r.0) (λ x. refl))
  stmt_parts env (S.Labeled ls st) s h =
      after_any _ _ (λ r. IsParted r.0) (λ ns.
      post_bind _ _ (λ r. IsParted r.0) (λ r. IsParted r.0) (stmt_parts (after_labels env ls) st ns.1 h.3) (λ r k. k))
  stmt_parts env (S.If t c st a) s h =
      after_any _ _ (λ r. IsParted r.0) (λ x.
      post_bind _ _ (λ r. IsParted r.0) (λ r. IsParted r.0) (stmt_parts (after_expr env c) st x.1 h.1) (λ r k.
      post_bind _ _ (λ u. AreBehindParted u.0) (λ u. IsParted u.0) (alternative_parts (after_stmt (after_expr env c) st) a r.1 h.3) (λ u j.
      zeros (partless r.0 + partless_of_arms u.0.arms) (partless_behind u.0.otherwise) (zeros (partless r.0) (partless_of_arms u.0.arms) k j.0) j.1)))
  stmt_parts env (S.Switch t e st) s h =
      after_any _ _ (λ r. IsParted r.0) (λ x.
      post_bind _ _ (λ r. IsParted r.0.0) (λ r. IsParted r.0) (in_switch_post x.1 x.0 (stmt_rule st) (λ t. stmt_parts (after_expr env e) st t h.1)) (λ r k. k))
  stmt_parts env (S.While t e st) s h =
      after_any _ _ (λ r. IsParted r.0) (λ x.
      post_bind _ _ (λ r. IsParted r.0) (λ r. IsParted r.0) (in_loop_post x.1 (stmt_rule st) (λ t. stmt_parts (after_expr env e) st t h.1)) (λ r k. k))
  stmt_parts env (S.Do t st e) s h =
      post_bind _ _ (λ r. IsParted r.0) (λ r. IsParted r.0) (in_loop_post s (stmt_rule st) (λ t. stmt_parts env st t h.0)) (λ r k.
      after_any _ _ (λ u. IsParted u.0) (λ x. k))
  stmt_parts env (S.For t a b c st) s h =
      after_any _ _ (λ r. IsParted r.0) (λ x.
      after_any _ _ (λ r. IsParted r.0) (λ y.
      after_any _ _ (λ r. IsParted r.0) (λ z.
      post_bind _ _ (λ r. IsParted r.0) (λ r. IsParted r.0)
      (in_loop_post z.1 (stmt_rule st) (λ t. stmt_parts (after_optional (after_optional (after_optional env a) b) c) st t h.3)) (λ r k. k))))
  stmt_parts env (S.Return t e) s h = after_return t e s
  stmt_parts env st s h = bare_post (λ r. IsParted r.0) st refl s bare_parted

  alternative_parts : (env : Env) (a : Alternative) (s : State) → WellFormedAlternative env a → Post (alternative_rule a s) (λ r. AreBehindParted r.0)
  alternative_parts env S.NoElse s h = (refl, refl)
  alternative_parts env (S.Otherwise st) s h = post_bind _ _ (λ r. IsParted r.0) (λ r. AreBehindParted r.0) (stmt_parts env st s h.1) (λ r k. (refl, k))
  alternative_parts env (S.ElseIf t c st a) s h =
      after_any _ _ (λ r. AreBehindParted r.0) (λ x.
      post_bind _ _ (λ r. IsParted r.0) (λ r. AreBehindParted r.0) (stmt_parts (after_expr env c) st x.1 h.1) (λ r k.
      post_bind _ _ (λ u. AreBehindParted u.0) (λ u. AreBehindParted u.0) (alternative_parts (after_stmt (after_expr env c) st) a r.1 h.3) (λ u j.
      (zeros (partless r.0) (partless_of_arms u.0.arms) k j.0, j.1))))

  pub block_parts : (env : Env) (b : Block) (s : State) → WellFormedBlock env b → Post (block_rule b s) (λ r. IsParted r.0)
  block_parts env (S.Braced t ds ss) s h =
      after_any _ _ (λ r. IsParted r.0) (λ first.
      post_bind _ _ (λ r. AreParted r.0) (λ r. IsParted r.0) (decls_parts env ds first.1 h.0) (λ r k.
      after_any _ _ (λ u. IsParted u.0) (λ end.
      post_bind _ _ (λ u. partless_among u.0 ≡ 0) (λ u. IsParted u.0) (stmts_parts (after_decls env ds) ss end.1 h.1) (λ u j.
      zeros (sum_by partless_in r.0) (partless_among u.0) k j))))

  stmts_parts : (env : Env) (ss : Stmts) (s : State) → WellFormedStmts env ss → Post (stmts_rule ss s) (λ r. partless_among r.0 ≡ 0)
  stmts_parts env S.NoStmt s h = refl
  stmts_parts env (S.Next st rest) s h =
      post_bind _ _ (λ r. IsParted r.0) (λ r. partless_among r.0 ≡ 0) (stmt_parts env st s h.0) (λ r k.
      post_bind _ _ (λ u. partless_among u.0 ≡ 0) (λ u. partless_among u.0 ≡ 0) (stmts_parts (after_stmt env st) rest r.1 h.1) (λ u j.
      zeros (partless r.0) (partless_among u.0) k j))
