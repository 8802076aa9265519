-- Initialisers of locals: the one expression of which a local is made.
use Rattle.std.specs.Prelude.{ℕ, Bool, true, false, Option, None, Some, List, [], ◌∷◌}
use Rattle.std.specs.List.{AllByRecursion}
use Rattle.pw_tree.specs.FirstTokens.{first_of_expr}
use Rattle.pw_tree.specs.Trees.{Word, Expr, Init, Inits, Initializer, InitDeclarator, Decl, Specifiers}
use Rattle.pw_tree.specs.Trees as S
use Rattle.pw_types.specs.TypeTrees.{QType, type_of}
use Rattle.pw_types.specs.TypedTrees.{Expression, Initialiser}
use Rattle.pw_types.specs.TypedTrees as T
use Rattle.pw_flow.proofs.Lists.{all_append}
use Rattle.pw_check_walk.specs.Causes.{InitialiserCount}
use Rattle.pw_check_walk.specs.Walks.{bind, granted}
use Rattle.pw_check_rules.specs.Declarations.{Sort, ATypedef, AFunction, AGlobal, AnExtern, AStatic, ALocal, global_rule, completed_rule, static_rule, first_part, bytes_rule, single_rule, local_initialiser, local_rule, declare_rule, init_declarator_rule, init_declarators_rule, bare_rule, specified_rule, declarators_rule, decl_rule, decls_rule, context_of}
use Rattle.pw_check_rules.specs.Initialisers.{Context, Filled, Cursor, Target, target_at, frame_of, nothing_filled, value_filled, string_filled, StringForm, IsString, IsOther, string_form, braced_string, words_in, listed_value, listed_string, listed_expression, listed_by, listed_form, meets_characters, takes_record, reach, fills_characters, braced_by, inits_rule, init_rule, Initialised, object_string, object_value, object_list, object_by, object_rule, is_by_bytes}
use Rattle.pw_check_rules.specs.Kinds.{is_character_array}
use Rattle.pw_check_rules.specs.Leaves.{string_point}
use Rattle.pw_check_rules.specs.Limits.{Spot}
use Rattle.pw_check_rules.specs.SpecifierLists.{Specified}
use Rattle.pw_check_rules.specs.States.{State, Rule, records_in}
use Rattle.pw_law_checked.proofs.Walking.{Post, post_bind, after_any}
use Rattle.pw_law_checked.specs.Designators.{NamesObjects, InitialiserNamesObjects}
use Rattle.pw_law_checked.proofs.DesignatorNodes.{AreNamed, Names, NamesIn, value_named, cast_names}
use Rattle.pw_law_checked.proofs.DesignatorPhrases.{expr_named}

-- ---- lists of initialisers

abbrev HasNamed : Filled → Type 0
HasNamed filled = AreNamed filled.parts

value_part : (cx : Context) (first : ℕ) (t : Target) (e : Expression) (filled : Filled) (s : State) → NamesObjects e → HasNamed filled → Post (value_filled cx first t e filled s) (λ r. HasNamed r.0)
unfolding value_filled bind
value_part cx first t e filled s h all = λ met. all_append NamesObjects filled.parts _ all (cast_names (type_of t.ty) e h, tt)

string_part : (cx : Context) (ws : List Word) (t : Target) (filled : Filled) (s : State) → HasNamed filled → Post (string_filled cx ws t filled s) (λ r. HasNamed r.0)
unfolding string_filled string_point bind
string_part cx ws t filled s all = λ met more. all_append NamesObjects filled.parts _ all (tt, tt)

listed_value_part : (cx : Context) (cursor : Cursor) (filled : Filled) (first : ℕ) (e : Expression) (s : State) → NamesObjects e → HasNamed filled → Post (listed_value cx cursor filled first e s) (λ r. HasNamed r.0.1)
unfolding listed_value bind
listed_value_part cx cursor filled first e s h all =
    after_any (granted InitialiserCount cx.token [] (reach (records_in s) (takes_record e) cursor) s) _ (λ r. HasNamed r.0.1) (λ r.
    post_bind (value_filled cx first r.0.target e filled r.1) _ (λ u. HasNamed u.0) (λ u. HasNamed u.0.1) (value_part cx first r.0.target e filled r.1 h all) (λ u k. k))

listed_string_part : (cx : Context) (cursor : Cursor) (filled : Filled) (ws : List Word) (s : State) → HasNamed filled → Post (listed_string cx cursor filled ws s) (λ r. HasNamed r.0.1)
unfolding listed_string bind
listed_string_part cx cursor filled ws s all =
    after_any (granted InitialiserCount cx.token [] (reach (records_in s) is_character_array cursor) s) _ (λ r. HasNamed r.0.1) (λ r.
    post_bind (string_filled cx ws r.0.target filled r.1) _ (λ u. HasNamed u.0) (λ u. HasNamed u.0.1) (string_part cx ws r.0.target filled r.1 all) (λ u k. k))

listed_expression_part : (cx : Context) (cursor : Cursor) (filled : Filled) (e : Expr) (s : State) → HasNamed filled → Post (listed_expression cx cursor filled e s) (λ r. HasNamed r.0.1)
unfolding listed_expression
listed_expression_part cx cursor filled e s all =
    post_bind _ _ Names (λ r. HasNamed r.0.1) (expr_named e s) (λ a g.
    post_bind _ _ NamesIn (λ r. HasNamed r.0.1) (value_named a.0 a.1 g) (λ x k. listed_value_part cx cursor filled (first_of_expr e) x.0 x.1 k all))

listed_by_part : (whole : Bool) (cx : Context) (cursor : Cursor) (filled : Filled) (e : Expr) (ws : List Word) (s : State) → HasNamed filled → Post (listed_by whole cx cursor filled e ws s) (λ r. HasNamed r.0.1)
unfolding listed_by
listed_by_part true cx cursor filled e ws s all = listed_string_part cx cursor filled ws s all
listed_by_part false cx cursor filled e ws s all = listed_expression_part cx cursor filled e s all

listed_form_part : (cx : Context) (cursor : Cursor) (filled : Filled) (e : Expr) (form : StringForm) (s : State) → HasNamed filled → Post (listed_form cx cursor filled e form s) (λ r. HasNamed r.0.1)
unfolding listed_form bind
listed_form_part cx cursor filled e IsOther s all = listed_expression_part cx cursor filled e s all
listed_form_part cx cursor filled e (IsString ws) s all = listed_by_part (meets_characters (records_in s) cursor) cx cursor filled e ws s all

braced_by_part : (b : Bool) (cx : Context) (t : Target) (filled : Filled) (ws : List Word) (within : Rule (Cursor × Filled)) (s : State) → HasNamed filled → Post (within s) (λ r. HasNamed r.0.1)
    → Post (braced_by b cx t filled ws within s) (λ r. HasNamed r.0.1)
unfolding braced_by bind
braced_by_part true cx t filled ws within s all h = post_bind (string_filled cx ws t filled s) _ (λ u. HasNamed u.0) (λ u. HasNamed u.0.1) (string_part cx ws t filled s all) (λ u k. k)
braced_by_part false cx t filled ws within s all h = h

mutual
  unfolding inits_rule

  init_part : (i : Init) (cx : Context) (cursor : Cursor) (filled : Filled) (s : State) → HasNamed filled → Post (init_rule i cx cursor filled s) (λ r. HasNamed r.0.1)
  init_part (S.Value e) cx cursor filled s all = listed_form_part cx cursor filled e (string_form e) s all
  init_part (S.Braces token is trailing) cx cursor filled s all =
      after_any _ _ (λ r. HasNamed r.0.1) (λ t.
      post_bind _ _ (λ r. HasNamed r.0.1) (λ r. HasNamed r.0.1)
      (braced_by_part (fills_characters (type_of t.0.ty) (braced_string is)) cx t.0 filled (words_in (braced_string is)) (inits_rule is cx (frame_of t.0 ∷ []) filled) t.1 all
      (inits_part is cx (frame_of t.0 ∷ []) filled t.1 all)) (λ r h. after_any _ _ (λ u. HasNamed u.0.1) (λ u. h)))

  inits_part : (is : Inits) (cx : Context) (cursor : Cursor) (filled : Filled) (s : State) → HasNamed filled → Post (inits_rule is cx cursor filled s) (λ r. HasNamed r.0.1)
  inits_part S.NoInit cx cursor filled s all = all
  inits_part (S.Listed i rest) cx cursor filled s all =
      post_bind _ _ (λ r. HasNamed r.0.1) (λ r. HasNamed r.0.1) (init_part i cx cursor filled s all)
      (λ r h. inits_part rest cx r.0.0 r.0.1 r.1 h)

-- ---- objects

abbrev IsNamed : Initialised → Type 0
IsNamed o = HasNamed o.filled

object_string_part : (cx : Context) (q : QType) (ws : List Word) (s : State) → Post (object_string cx q ws s) (λ r. IsNamed r.0)
unfolding object_string
object_string_part cx q ws s = post_bind _ _ (λ r. HasNamed r.0) (λ r. IsNamed r.0) (string_part cx ws (target_at q 0) nothing_filled s tt) (λ r h. h)

object_value_part : (cx : Context) (q : QType) (e : Expr) (s : State) → Post (object_value cx q e s) (λ r. IsNamed r.0)
unfolding object_value
object_value_part cx q e s =
    post_bind _ _ Names (λ r. IsNamed r.0) (expr_named e s) (λ a g.
    post_bind _ _ NamesIn (λ r. IsNamed r.0) (value_named a.0 a.1 g) (λ x k.
    post_bind _ _ (λ r. HasNamed r.0) (λ r. IsNamed r.0) (value_part cx (first_of_expr e) (target_at q 0) x.0 nothing_filled x.1 k tt) (λ r h. h)))

object_list_part : (cx : Context) (q : QType) (is : Inits) (s : State) → Post (object_list cx q is s) (λ r. IsNamed r.0)
unfolding object_list
object_list_part cx q is s = post_bind _ _ (λ r. HasNamed r.0.1) (λ r. IsNamed r.0) (inits_part is cx (frame_of (target_at q 0) ∷ []) nothing_filled s tt) (λ r h. h)

object_by_part : (b : Bool) (cx : Context) (q : QType) (ws : List Word) (other : Rule Initialised) (s : State) → Post (other s) (λ r. IsNamed r.0) → Post (object_by b cx q ws other s) (λ r. IsNamed r.0)
unfolding object_by
object_by_part true cx q ws other s h = object_string_part cx q ws s
object_by_part false cx q ws other s h = h

object_part : (cx : Context) (q : QType) (i : Init) (s : State) → Post (object_rule cx q i s) (λ r. IsNamed r.0)
unfolding object_rule
object_part cx q (S.Value e) s = object_by_part (fills_characters (type_of q) (string_form e)) cx q (words_in (string_form e)) (object_value cx q e) s (object_value_part cx q e s)
object_part cx q (S.Braces token is trailing) s =
    object_by_part (fills_characters (type_of q) (braced_string is)) cx q (words_in (braced_string is)) (object_list cx q is) s (object_list_part cx q is s)

-- ---- declarations

abbrev pub InitialisersName : List Initialiser → Type 0
InitialisersName is = AllByRecursion InitialiserNamesObjects is

first_names : (k : ℕ) (parts : List Expression) → AreNamed parts → InitialisersName (first_part parts [] (λ e. T.Value k e))
first_names k [] all = tt
first_names k (e ∷ rest) all = (all.0, tt)

bytes_rule_names : (w : Word) (k : ℕ) (q : QType) (i : Init) (s : State) → Post (bytes_rule w k q i s) (λ r. InitialisersName r.0.1)
unfolding bytes_rule completed_rule bind
bytes_rule_names w k q i s = after_any (object_rule (context_of w true _) q i _) _ (λ r. InitialisersName r.0.1) (λ r met. (tt, tt))

single_rule_names : (w : Word) (k : ℕ) (q : QType) (i : Init) (s : State) → Post (single_rule w k q i s) (λ r. InitialisersName r.0.1)
unfolding single_rule
single_rule_names w k q i s = post_bind _ _ (λ r. IsNamed r.0) (λ r. InitialisersName r.0.1) (object_part (context_of w false 0) q i s) (λ r h. first_names k r.0.filled.parts h)

local_initialiser_names : (bytes : Bool) (w : Word) (k : ℕ) (q : QType) (i : Init) (s : State) → Post (local_initialiser bytes w k q i s) (λ r. InitialisersName r.0.1)
unfolding local_initialiser
local_initialiser_names true w k q i s = bytes_rule_names w k q i s
local_initialiser_names false w k q i s = single_rule_names w k q i s

abbrev pub Initialises : List Initialiser × State → Type 0
Initialises r = InitialisersName r.0

local_rule_names : (w : Word) (b : Specified) (q : QType) (i : Option Initializer) (s : State) → Post (local_rule w b q i s) Initialises
unfolding local_rule bind
local_rule_names w b q None s = tt
local_rule_names w b q (Some i) s =
    post_bind (local_initialiser (is_by_bytes (type_of q) i.init) w _ q i.init _) _ (λ r. InitialisersName r.0.1) Initialises (local_initialiser_names (is_by_bytes (type_of q) i.init) w _ q i.init _) (λ r h. h)

static_rule_names : (w : Word) (q : QType) (i : Option Initializer) (s : State) → Post (static_rule w q i s) Initialises
unfolding static_rule completed_rule bind
static_rule_names w q None s = tt
static_rule_names w q (Some i) s = after_any (object_rule _ q i.init _) _ Initialises (λ r met. tt)

global_rule_names : (w : Word) (b : Specified) (spot : Spot) (q : QType) (i : Option Initializer) (s : State) → Post (global_rule w b spot q i s) Initialises
unfolding global_rule
global_rule_names w b spot q None s = after_any _ _ Initialises (λ r. after_any _ _ Initialises (λ u. tt))
global_rule_names w b spot q (Some i) s = after_any _ _ Initialises (λ r1. after_any _ _ Initialises (λ r2. after_any _ _ Initialises (λ r3. after_any _ _ Initialises (λ r4. tt))))

declare_names : (sort : Sort) (w : Word) (b : Specified) (spot : Spot) (q : QType) (i : Option Initializer) (s : State) → Post (declare_rule sort w b spot q i s) Initialises
unfolding declare_rule bind
declare_names ATypedef w b spot q i s = tt
declare_names AFunction w b spot q i s = after_any (Rattle.pw_check_rules.specs.Linkage.declare_linked _ _ _ _ _ s) _ Initialises (λ r. tt)
declare_names AGlobal w b spot q i s = global_rule_names w b spot q i s
declare_names AnExtern w b spot q i s = after_any (Rattle.pw_check_rules.specs.Linkage.declare_linked _ _ _ _ _ s) _ Initialises (λ r. tt)
declare_names AStatic w b spot q i s = static_rule_names w q i s
declare_names ALocal w b spot q i s = local_rule_names w b q i s

init_declarator_names : (b : Specified) (d : InitDeclarator) (s : State) → Post (init_declarator_rule b d s) Initialises
unfolding init_declarator_rule
init_declarator_names b d s =
    after_any _ _ Initialises (λ c. after_any _ _ Initialises (λ q. after_any _ _ Initialises (λ sort. after_any _ _ Initialises (λ n. declare_names sort.0 _ b _ q.0 d.initializer n.1))))

init_declarators_names : (b : Specified) (ds : List InitDeclarator) (s : State) → Post (init_declarators_rule b ds s) Initialises
unfolding init_declarators_rule
init_declarators_names b [] s = tt
init_declarators_names b (d ∷ rest) s =
    post_bind _ _ Initialises Initialises (init_declarator_names b d s) (λ r h.
    post_bind _ _ Initialises Initialises (init_declarators_names b rest r.1) (λ u k. all_append InitialiserNamesObjects r.0 u.0 h k))

listed_names : (specifiers : Specifiers) (s : State)
    → Post {A = List Initialiser × State} (bind (specified_rule specifiers (Rattle.pw_check_rules.specs.Leaves.first_of_list specifiers) s) (λ t. bind (bind (Rattle.pw_check_rules.specs.Declarations.storage_rule t.0 t.1) (λ u. Rattle.pw_check_walk.specs.Walks.meets (Rattle.pw_check_walk.specs.Causes.needs Rattle.pw_check_walk.specs.Causes.DeclaresSomething t.0.first (Rattle.pw_check_rules.specs.Declarations.declares_something specifiers) ∷ []) u.1)) (λ u. Rattle.pw_check_walk.specs.Walks.Done ([], u.1)))) Initialises
listed_names specifiers s = after_any _ _ Initialises (λ t. after_any _ _ Initialises (λ u. tt))

bare_names : (specifiers : Specifiers) (s : State) → Post (bare_rule specifiers s) Initialises
unfolding bare_rule
bare_names (S.RecordTag t kind w S.NoSpecifier) s = after_any _ _ Initialises (λ r. tt)
bare_names specifiers s = listed_names specifiers s

declarators_names : (specifiers : Specifiers) (ds : List InitDeclarator) (s : State) → Post (declarators_rule specifiers ds s) Initialises
unfolding declarators_rule
declarators_names specifiers [] s = bare_names specifiers s
declarators_names specifiers (d ∷ rest) s =
    after_any _ _ Initialises (λ b. after_any _ _ Initialises (λ u. init_declarators_names b.0 (d ∷ rest) u.1))

pub decls_names : (ds : List Decl) (s : State) → Post (decls_rule ds s) Initialises
unfolding decls_rule decl_rule
decls_names [] s = tt
decls_names (d ∷ rest) s =
    post_bind _ _ Initialises Initialises (declarators_names d.specifiers d.declarators s) (λ r h.
    post_bind _ _ Initialises Initialises (decls_names rest r.1) (λ u k. all_append InitialiserNamesObjects r.0 u.0 h k))
