-- A hidden object gives its bytes to no scalar: it is made for a list in braces of an object with parts, or for a string of an array
-- of characters (ISO C90 6.5.7).
use Rattle.std.specs.Prelude.{ℕ, ◌≡◌, Bool, true, false, Option, None, Some, is_some, List, [], ◌∷◌, ◌++◌, length, slice_get, refl}
use Rattle.std.specs.List.{AllByRecursion}
use Rattle.std.proofs.Common.{sym, subst, ◌∙◌}
use Rattle.pw_tree.specs.Trees.{Word, Expr, Init, Inits, Initializer, InitDeclarator, Decl, Specifiers}
use Rattle.pw_tree.specs.Trees as S
use Rattle.pw_types.specs.TypeTrees.{CType, Void, Int, Pointer, Array, Function, Record, QType, Qualified, type_of}
use Rattle.pw_types.specs.TypedTrees.{Expression, Initialiser, LocalValue}
use Rattle.pw_types.specs.TypedTrees as T
use Rattle.pw_types.specs.WellTyped.{IsScalar}
use Rattle.pw_flow.proofs.Lists.{all_append}
use Rattle.pw_check_walk.specs.Walks.{Walk, Done, bind}
use Rattle.pw_check_rules.specs.Declarations.{Sort, ATypedef, AFunction, AGlobal, AnExtern, AStatic, ALocal, sort_of, name_rule, hidden_of, local_of, completed_rule, context_of, global_rule, static_rule, first_part, bytes_rule, single_rule, local_initialiser, local_rule, declare_rule, name_of, init_declarator_rule, init_declarators_rule, specified_rule, bare_rule, declarators_rule, decl_rule, decls_rule}
use Rattle.pw_check_rules.specs.Derivations.{spot_of}
use Rattle.pw_check_rules.specs.Initialisers.{Context, StringForm, IsString, IsOther, string_form, braced_string, words_in, fills_characters, with_length, Initialised, object_string, object_value, object_list, object_by, object_rule, is_by_bytes}
use Rattle.pw_check_rules.specs.Limits.{Spot}
use Rattle.pw_check_rules.specs.SpecifierLists.{Specified, is_register}
use Rattle.pw_check_rules.specs.States.{State, Rule, LocalObject, is_file_scope, add_hidden, add_local, next_hidden, next_local}
use Rattle.pw_law_checked.specs.Lawful.{IsLawful, IsLawfulType, IsObjectLike}
use Rattle.pw_law_checked.proofs.Walking.{Post, post_bind, post_weaken, post_both, after_any}
use Rattle.pw_law_checked.proofs.Lists.{Longer, some_same, get_last, get_within, put_same}
use Rattle.pw_law_checked.proofs.Types.{no, lawful_later}
use Rattle.pw_law_checked.proofs.States.{Grows}
use Rattle.pw_law_checked.proofs.Changes.{hidden_added, entered}
use Rattle.pw_law_checked.proofs.Leaves.{GoodType, GoodSpecified, GoodDeclared, built_runs}
use Rattle.pw_law_checked.proofs.Phrases.{declarator_post}
use Rattle.pw_law_checked.proofs.Locals.{local_entered}
use Rattle.pw_law_checked.proofs.Filling.{object_runs, runs_whatever}
use Rattle.pw_law_checked.proofs.Keeping.{around}
use Rattle.pw_law_checked.proofs.Declarations.{Fits, sort_fits}
use Rattle.pw_law_checked.proofs.Adding.{Declaring, init_declarator_declares, init_declarators_declare, decl_declares, decls_declare, specified_all, bare_runs}
use Rattle.pw_law_checked.proofs.LabelLaws.{asked_post}
use Rattle.pw_law_source.specs.Accepting.{SuitsLocal}

-- ---- types

abbrev IsNoScalar : QType → Type 0
IsNoScalar q = IsScalar (type_of q) → ⊥

with_length_sort : (n : ℕ) (q : QType) → IsNoScalar q → IsNoScalar (with_length n q)
with_length_sort n (Qualified Void c v) h = h
with_length_sort n (Qualified (Int k) c v) h = h
with_length_sort n (Qualified (Pointer q) c v) h = h
with_length_sort n (Qualified (Array q None) c v) h = λ s. s
with_length_sort n (Qualified (Array q (Some m)) c v) h = h
with_length_sort n (Qualified (Function q ps) c v) h = h
with_length_sort n (Qualified (Record m) c v) h = h

fills_none : (ty : CType) (form : StringForm) → IsScalar ty → fills_characters ty form ≡ false
fills_none ty IsOther h = refl
fills_none (Int k) (IsString ws) h = refl
fills_none (Pointer q) (IsString ws) h = refl
fills_none Void (IsString ws) h = absurd h
fills_none (Array q n) (IsString ws) h = absurd h
fills_none (Function q ps) (IsString ws) h = absurd h
fills_none (Record n) (IsString ws) h = absurd h

scalar_value : (ty : CType) (i : Init) → IsScalar ty → is_by_bytes ty i ≡ false
scalar_value ty (S.Value e) h = fills_none ty (string_form e) h
scalar_value (Int k) (S.Braces token is trailing) h = refl
scalar_value (Pointer q) (S.Braces token is trailing) h = refl
scalar_value Void (S.Braces token is trailing) h = absurd h
scalar_value (Array q n) (S.Braces token is trailing) h = absurd h
scalar_value (Function q ps) (S.Braces token is trailing) h = absurd h
scalar_value (Record n) (S.Braces token is trailing) h = absurd h

-- ---- objects

object_string_sort : (cx : Context) (q : QType) (ws : List Word) (s : State) → IsNoScalar q → Post (object_string cx q ws s) (λ r. IsNoScalar r.0.ty)
unfolding object_string
object_string_sort cx q ws s h = after_any _ _ (λ r. IsNoScalar r.0.ty) (λ r. with_length_sort _ q h)

object_value_sort : (cx : Context) (q : QType) (e : Expr) (s : State) → IsNoScalar q → Post (object_value cx q e s) (λ r. IsNoScalar r.0.ty)
unfolding object_value
object_value_sort cx q e s h = after_any _ _ (λ r. IsNoScalar r.0.ty) (λ a. after_any _ _ (λ r. IsNoScalar r.0.ty) (λ x. after_any _ _ (λ r. IsNoScalar r.0.ty) (λ y. h)))

object_list_sort : (cx : Context) (q : QType) (is : Inits) (s : State) → IsNoScalar q → Post (object_list cx q is s) (λ r. IsNoScalar r.0.ty)
unfolding object_list
object_list_sort cx q is s h = after_any _ _ (λ r. IsNoScalar r.0.ty) (λ r. with_length_sort _ q h)

object_by_sort : (b : Bool) (cx : Context) (q : QType) (ws : List Word) (other : Rule Initialised) (s : State) → IsNoScalar q → Post (other s) (λ r. IsNoScalar r.0.ty) → Post (object_by b cx q ws other s) (λ r. IsNoScalar r.0.ty)
unfolding object_by
object_by_sort true cx q ws other s h k = object_string_sort cx q ws s h
object_by_sort false cx q ws other s h k = k

object_sort : (cx : Context) (q : QType) (i : Init) (s : State) → IsNoScalar q → Post (object_rule cx q i s) (λ r. IsNoScalar r.0.ty)
unfolding object_rule
object_sort cx q (S.Value e) s h = object_by_sort (fills_characters (type_of q) (string_form e)) cx q (words_in (string_form e)) (object_value cx q e) s h (object_value_sort cx q e s h)
object_sort cx q (S.Braces token is trailing) s h =
    object_by_sort (fills_characters (type_of q) (braced_string is)) cx q (words_in (braced_string is)) (object_list cx q is) s h (object_list_sort cx q is s h)

-- ---- the initialiser of a local

-- it suits each list of locals that has the local with the type that it gives
abbrev SuitsAt : State → Word → ℕ → (QType × List Initialiser) × State → Type 0
SuitsAt s w k r = (r.1.body ≡ s.body) × ((ls : List LocalValue) → slice_get ls k ≡ Some (local_of w r.0.0) → AllByRecursion (SuitsLocal ls) r.0.1)

bytes_suit : (s : State) (w : Word) (k : ℕ) (q : QType) (i : Init) → IsLawful s → IsNoScalar q → Post (bytes_rule w k q i s) (SuitsAt s w k)
unfolding bytes_rule completed_rule bind
bytes_suit s w k q i l h =
    post_bind (object_rule (context_of w true (next_hidden s)) q i (add_hidden (hidden_of q [] false) s)) _
    (λ r. (IsLawful r.1 × Grows (add_hidden (hidden_of q [] false) s) r.1 × Unit {0}) × IsNoScalar r.0.ty) (SuitsAt s w k)
    (post_both _ (λ r. IsLawful r.1 × Grows (add_hidden (hidden_of q [] false) s) r.1 × Unit {0}) (λ r. IsNoScalar r.0.ty)
    (runs_whatever _ _ _ (object_runs (add_hidden (hidden_of q [] false) s) (context_of w true (next_hidden s)) q i (hidden_added s (hidden_of q [] false) l)))
    (object_sort (context_of w true (next_hidden s)) q i (add_hidden (hidden_of q [] false) s) h))
    (λ r g met. (
      g.0.1.body,
      λ ls at. ((λ x e scalar. g.1 (subst (λ (y : LocalValue). IsScalar (type_of y.ty)) (sym (some_same (sym at ∙ e))) scalar)), tt),
    ))

first_suits : (ls : List LocalValue) (k : ℕ) (parts : List Expression) → AllByRecursion (SuitsLocal ls) (first_part parts [] (λ e. T.Value k e))
first_suits ls k [] = tt
first_suits ls k (e ∷ rest) = (tt, tt)

single_suit : (s : State) (w : Word) (k : ℕ) (q : QType) (i : Init) → IsLawful s → Post (single_rule w k q i s) (SuitsAt s w k)
unfolding single_rule bind
single_suit s w k q i l =
    post_bind (object_rule (context_of w false 0) q i s) _ (λ r. IsLawful r.1 × Grows s r.1 × Unit {0}) (SuitsAt s w k)
    (runs_whatever _ _ _ (object_runs s (context_of w false 0) q i l)) (λ r g. (g.1.body, λ ls at. first_suits ls k r.0.filled.parts))

initialiser_suits : (s : State) (b : Bool) (w : Word) (k : ℕ) (q : QType) (i : Init) → IsLawful s → is_by_bytes (type_of q) i ≡ b → Post (local_initialiser b w k q i s) (SuitsAt s w k)
unfolding local_initialiser
initialiser_suits s true w k q i l e = bytes_suit s w k q i l (λ scalar. no (sym (scalar_value (type_of q) i scalar) ∙ e))
initialiser_suits s false w k q i l e = single_suit s w k q i l

-- ---- locals

-- initialisers suit each list of locals that has these where they stand
abbrev pub Suit : List LocalValue → List Initialiser → Type 0
Suit own made = (ls : List LocalValue) → Longer own ls → AllByRecursion (SuitsLocal ls) made

abbrev pub Suits : List Initialiser × State → Type 0
Suits r = Suit r.1.body.locals r.0

pub suit_later : (own more : List LocalValue) (made : List Initialiser) → Longer own more → Suit own made → Suit more made
suit_later own more made longer h ls k = h ls (λ i x e. k i x (longer i x e))

pub suit_both : (own : List LocalValue) (made more : List Initialiser) → Suit own made → Suit own more → Suit own (made ++ more)
suit_both own made more h k ls longer = all_append (SuitsLocal ls) made more (h ls longer) (k ls longer)

local_suits : (s : State) (w : Word) (b : Specified) (q : QType) (i : Option Initializer) → IsLawful s → IsObjectLike s.types.records q → Post (local_rule w b q i s) Suits
unfolding local_rule bind
local_suits s w b q None l h = λ ls longer. tt
local_suits s w b q (Some i) l h =
    post_bind (local_initialiser (is_by_bytes (type_of q) i.init) w (next_local s) q i.init (local_entered s w.text (local_of w q) (is_register b.storage)))
    _ (SuitsAt (local_entered s w.text (local_of w q) (is_register b.storage)) w (length s.body.locals)) Suits
    (initialiser_suits (local_entered s w.text (local_of w q) (is_register b.storage)) (is_by_bytes (type_of q) i.init) w (next_local s) q i.init
    (entered (add_local (local_of w q) s) w.text (LocalObject (length s.body.locals) q (is_register b.storage)) (around s s.made (add_local (local_of w q) s).body l refl).0 h) refl)
    (λ r g ls longer. g.1 ls (longer (length s.body.locals) (local_of w r.0.0)
    (put_same (length s.body.locals) (local_of w r.0.0) r.1.body.locals
    (get_within r.1.body.locals (length s.body.locals) (local_of w q)
    (subst (λ y. slice_get y.locals (length s.body.locals) ≡ Some (local_of w q)) (sym g.0) (get_last s.body.locals (local_of w q)))))))

static_suits : (w : Word) (q : QType) (i : Option Initializer) (s : State) → Post (static_rule w q i s) Suits
unfolding static_rule completed_rule bind
static_suits w q None s = λ ls longer. tt
static_suits w q (Some i) s = after_any (object_rule _ q i.init _) _ Suits (λ r met ls longer. tt)

global_suits : (w : Word) (b : Specified) (spot : Spot) (q : QType) (i : Option Initializer) (s : State) → Post (global_rule w b spot q i s) Suits
unfolding global_rule
global_suits w b spot q None s = after_any _ _ Suits (λ r. after_any _ _ Suits (λ u ls longer. tt))
global_suits w b spot q (Some i) s = after_any _ _ Suits (λ r1. after_any _ _ Suits (λ r2. after_any _ _ Suits (λ r3. after_any _ _ Suits (λ r4 ls longer. tt))))

declare_suits : (s : State) (sort : Sort) (w : Word) (b : Specified) (spot : Spot) (q : QType) (i : Option Initializer) → IsLawful s → IsLawfulType s.types.records (type_of q) → Fits sort q
    → Post (declare_rule sort w b spot q i s) Suits
unfolding declare_rule bind
declare_suits s ATypedef w b spot q i l h f = λ ls longer. tt
declare_suits s AFunction w b spot q i l h f = after_any (Rattle.pw_check_rules.specs.Linkage.declare_linked _ _ _ _ _ s) _ Suits (λ r ls longer. tt)
declare_suits s AGlobal w b spot q i l h f = global_suits w b spot q i s
declare_suits s AnExtern w b spot q i l h f = after_any (Rattle.pw_check_rules.specs.Linkage.declare_linked _ _ _ _ _ s) _ Suits (λ r ls longer. tt)
declare_suits s AStatic w b spot q i l h f = static_suits w q i s
declare_suits s ALocal w b spot q i l h f = local_suits s w b q i l (record { lawful = h; object = f })

-- ---- declarations

named_suits : (u : State) (sort : Sort) (spot : Spot) (w : Word) (b : Specified) (q : QType) (i : Option Initializer) → IsLawful u → IsLawfulType u.types.records (type_of q) → Fits sort q
    → Post (bind (name_rule sort spot w (is_some i) b q u) (λ v. declare_rule sort w b spot q i v.1)) Suits
unfolding name_rule bind
named_suits u sort spot w b q i l h f = λ met. declare_suits u sort w b spot q i l h f

init_declarator_suits : (s : State) (b : Specified) (d : InitDeclarator) → IsLawful s → GoodSpecified s b → Post (init_declarator_rule b d s) Suits
unfolding init_declarator_rule
init_declarator_suits s b d l h =
    post_bind _ _ (λ r. IsLawful r.1 × Grows s r.1 × GoodDeclared r.1 r.0) Suits (declarator_post d.declarator s l) (λ r g.
    post_bind _ _ (λ u. IsLawful u.1 × Grows r.1 u.1 × GoodType u.1 u.0) Suits
    (built_runs r.1 (spot_of r.0.name b.first b.tag) r.0.derivations b.ty g.0 g.2.0 (lawful_later s.types.records r.1.types.records g.1.extends (type_of b.ty) h)) (λ u k.
    asked_post u.1 (sort_of (is_file_scope u.1) b u.0) _ Suits
    (named_suits u.1 (sort_of (is_file_scope u.1) b u.0) (spot_of r.0.name b.first b.tag) (name_of r.0) b u.0 d.initializer k.0 k.2 (sort_fits (is_file_scope u.1) b u.0))))

-- one declaration and then others
both_suit : (r u : State) (made more : List Initialiser) → Declaring r (more, u) → Suit r.body.locals made → Suit u.body.locals more → Suit u.body.locals (made ++ more)
both_suit r u made more x h k = suit_both u.body.locals made more (suit_later r.body.locals u.body.locals made x.2.0.locals h) k

then_suits : (w : Walk (List Initialiser × State)) (next : State → Walk (List Initialiser × State)) (s : State) → Post w (λ r. Declaring s r × Suits r)
    → ((r : State) → IsLawful r → (is : List Initialiser) → Declaring s (is, r) → Post (next r) (λ u. Declaring r u × Suits u))
    → Post (bind w (λ r. bind (next r.1) (λ u. Done (r.0 ++ u.0, u.1)))) Suits
unfolding bind
then_suits w next s h k =
    post_bind w (λ r. bind (next r.1) (λ u. Done (r.0 ++ u.0, u.1))) (λ r. Declaring s r × Suits r) Suits h
    (λ r g. post_bind (next r.1) (λ u. Done (r.0 ++ u.0, u.1)) (λ u. Declaring r.1 u × Suits u) Suits (k r.1 g.0.0 r.0 g.0)
    (λ u f. both_suit r.1 u.1 r.0 u.0 f.0 g.1 f.1))

init_declarators_suit : (ds : List InitDeclarator) (s : State) (b : Specified) → IsLawful s → GoodSpecified s b → Post (init_declarators_rule b ds s) Suits
unfolding init_declarators_rule
init_declarators_suit [] s b l h = λ ls longer. tt
init_declarators_suit (d ∷ rest) s b l h =
    then_suits (init_declarator_rule b d s) (init_declarators_rule b rest) s
    (post_both _ (Declaring s) Suits (init_declarator_declares s b d l h) (init_declarator_suits s b d l h))
    (λ r m is x.
    let k = lawful_later s.types.records r.types.records x.1.extends (type_of b.ty) h in
    post_both _ (Declaring r) Suits (init_declarators_declare rest r b m k) (init_declarators_suit rest r b m k))

bare_suits : (s : State) (specifiers : Specifiers) → IsLawful s → Post (bare_rule specifiers s) Suits
bare_suits s specifiers l =
    post_weaken _ (λ r. IsLawful r.1 × Grows s r.1 × (r.0 ≡ [])) Suits (bare_runs s specifiers l)
    (λ r g. subst (λ is. Suit r.1.body.locals is) (sym g.2) (λ ls longer. tt))

storage_quiet : (b : Specified) (s : State) → Post (Rattle.pw_check_rules.specs.Declarations.storage_rule b s) (λ r. r.1 ≡ s)
unfolding Rattle.pw_check_rules.specs.Declarations.storage_rule bind
storage_quiet b s = λ met. refl

declarators_suit : (s : State) (specifiers : Specifiers) (ds : List InitDeclarator) → IsLawful s → Post (declarators_rule specifiers ds s) Suits
unfolding declarators_rule
declarators_suit s specifiers [] l = bare_suits s specifiers l
declarators_suit s specifiers (d ∷ rest) l =
    post_bind _ _ (λ r. IsLawful r.1 × Grows s r.1 × GoodSpecified r.1 r.0) Suits (specified_all s specifiers _ l) (λ r g.
    post_bind _ _ (λ u. u.1 ≡ r.1) Suits (storage_quiet r.0 r.1) (λ u e.
    subst (λ t. Post (init_declarators_rule r.0 (d ∷ rest) t) Suits) (sym e) (init_declarators_suit (d ∷ rest) r.1 r.0 g.0 g.2)))

pub decls_suit : (ds : List Decl) (s : State) → IsLawful s → Post (decls_rule ds s) Suits
unfolding decls_rule decl_rule
decls_suit [] s l = λ ls longer. tt
decls_suit (d ∷ rest) s l =
    then_suits (decl_rule d s) (decls_rule rest) s
    (post_both _ (Declaring s) Suits (decl_declares d s l) (declarators_suit s d.specifiers d.declarators l))
    (λ r m is x. post_both _ (Declaring r) Suits (decls_declare rest r m) (decls_suit rest r m))
