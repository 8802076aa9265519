-- The declarations of a block: each local that can be seen behind them could be seen before or is one of theirs, and so it is where the
-- value of a local is read, which is a scalar, a structure or a union.
use Rattle.std.specs.Prelude.{ℕ, ◌≡◌, ◌<◌, ◌≤◌, ◌⊎◌, Bool, true, false, not, Option, None, Some, is_some, List, [], ◌∷◌, ◌++◌, length, slice_get, refl}
use Rattle.std.specs.List.{AllByRecursion}
use Rattle.std.proofs.Common.{arith, sym, subst, ◌∙◌, inl, inr}
use Rattle.pw_tree.specs.Trees.{Word, Expr, Decl, InitDeclarator, Initializer, Init, Specifiers}
use Rattle.pw_tree.specs.Trees as S
use Rattle.pw_types.specs.TypeTrees.{CType, Void, Int, Pointer, Array, Function, Record, QType, type_of}
use Rattle.pw_types.specs.TypedTrees.{Expression, Initialiser, LocalValue}
use Rattle.pw_types.specs.TypedTrees as T
use Rattle.pw_check_walk.specs.Walks.{Walk, Done, bind}
use Rattle.pw_check_rules.specs.Declarations.{Sort, ATypedef, AFunction, AGlobal, AnExtern, AStatic, ALocal, sort_of, asking_of, name_rule, hidden_of, local_of, completed_rule, context_of, static_rule, first_part, bytes_rule, single_rule, local_initialiser, local_rule, declare_rule, name_of, place_here, init_declarator_rule, init_declarators_rule, storage_rule, bare_rule, declarators_rule, decl_rule, decls_rule}
use Rattle.pw_check_rules.specs.Derivations.{spot_of}
use Rattle.pw_check_rules.specs.Initialisers.{Context, fills_characters, string_form, braced_string, words_in, value_filled, object_string, object_value, object_list, object_by, object_rule, is_by_bytes}
use Rattle.pw_check_rules.specs.Kinds.{is_const_object, is_array, is_scalar}
use Rattle.pw_check_rules.specs.Leaves.{first_of_list}
use Rattle.pw_check_rules.specs.Limits.{Spot}
use Rattle.pw_check_rules.specs.Linkage.{AsBefore, declare_linked}
use Rattle.pw_check_rules.specs.Operators.{is_assignable}
use Rattle.pw_check_rules.specs.SpecifierLists.{Specified, is_register}
use Rattle.pw_check_rules.specs.States.{State, TypeName, LocalObject, StaticObject, is_file_scope, add_hidden, add_local, put_at, enter, next_hidden, next_local}
use Rattle.pw_law_checked.specs.Lawful.{IsLawful, IsLawfulType, IsObjectLike}
use Rattle.pw_law_checked.proofs.Walking.{Post, post_bind, post_weaken, post_both, post_any, after_any, truth}
use Rattle.pw_law_checked.proofs.Lists.{get_last, get_within, length_put}
use Rattle.pw_law_checked.proofs.Types.{no, lawful_later}
use Rattle.pw_law_checked.proofs.Conversions.{scalar_is}
use Rattle.pw_law_checked.proofs.States.{Runs, Grows, grows_same}
use Rattle.pw_law_checked.proofs.Sound.{plain_backed, plain_spelled}
use Rattle.pw_law_checked.proofs.Changes.{hidden_added, entered, entered_sound}
use Rattle.pw_law_checked.proofs.Leaves.{Nothing, GoodType, GoodSpecified, GoodDeclared, built_runs}
use Rattle.pw_law_checked.proofs.Phrases.{declarator_post}
use Rattle.pw_law_checked.proofs.Locals.{ArePlaced, grows_placed, place_of_new, local_entered, local_completed, local_placed}
use Rattle.pw_law_checked.proofs.Filling.{IsTypedAs, AreTypedAs, object_runs, runs_whatever}
use Rattle.pw_law_checked.proofs.Keeping.{around}
use Rattle.pw_law_checked.proofs.Declarations.{Fits, sort_fits, IsOuter, sort_outer}
use Rattle.pw_law_checked.proofs.Adding.{IsReady, Adds, Declaring, ready_adds, longer_length, specified_all, bare_runs, init_declarator_declares, init_declarators_declare, decl_declares, decls_declare}
use Rattle.pw_law_never.specs.Resolved.{IsInitialising}
use Rattle.pw_law_scopes.proofs.Visible.{Seen, Sees, Reads, reads_grows, reads_seen, entered_seen, put_seen, noted_seen, OrNewest, local_seen, completed_seen}

-- ---- what declarations bring

-- a local of the scope that is read, declared from one state to another
abbrev pub IsNew : State → State → ℕ → ℕ → Type 0
IsNew s t d k = (d ≡ s.scopes.depth) × (length s.body.locals ≤ k) × (k < length t.body.locals)

abbrev pub Finds : State → State → State → Type 0
Finds s t at = (d k : ℕ) → Seen at d k → Seen s d k ⊎ IsNew s t d k

-- where the value of a local is read, and of what sort it is
pub record Sited (s t : State) (e : Expression) : Type 0 where
  pub at : State
  pub ty : CType
  pub lawful : IsLawful at
  pub ready : IsReady at
  pub typed : IsTypedAs at ty e
  pub kind : IsInitialising ty
  pub finds : Finds s t at

abbrev pub SitedIn : State → State → Initialiser → Type 0
SitedIn s t (T.Value k e) = Sited s t e
SitedIn s t (T.Bytes k hidden parts) = Unit {0}

abbrev pub AreSited : State → State → List Initialiser → Type 0
AreSited s t is = AllByRecursion (SitedIn s t) is

abbrev pub Brings : State → List Initialiser × State → Type 0
Brings s r = Finds s r.1 r.1 × AreSited s r.1 r.0

-- nothing is brought
sees_brings : (s t : State) → Sees s t → Brings s ([], t)
sees_brings s t sees = (λ d k v. inl (sees d k v), tt)

-- ---- wider

-- from a state before to one behind
all_sited : (s t u v : State) → ((d k : ℕ) → Seen t d k ⊎ IsNew t u d k → Seen s d k ⊎ IsNew s v d k) → (is : List Initialiser) → AreSited t u is → AreSited s v is
all_sited s t u v wide [] h = tt
all_sited s t u v wide (T.Value k e ∷ is) h =
    (record { at = h.0.at; ty = h.0.ty; lawful = h.0.lawful; ready = h.0.ready; typed = h.0.typed; kind = h.0.kind; finds = λ d n w. wide d n (h.0.finds d n w) }, all_sited s t u v wide is h.1)
all_sited s t u v wide (T.Bytes k hidden parts ∷ is) h = (tt, all_sited s t u v wide is h.1)

brings_wider : (s t u v : State) → ((d k : ℕ) → Seen t d k ⊎ IsNew t u d k → Seen s d k ⊎ IsNew s v d k) → (is : List Initialiser) → Finds t u u → AreSited t u is → Finds s v u × AreSited s v is
brings_wider s t u v wide is f h = (λ d k w. wide d k (f d k w), all_sited s t u v wide is h)

all_append : {X : Type 0} (P : X → Type 0) (xs ys : List X) → AllByRecursion P xs → AllByRecursion P ys → AllByRecursion P (xs ++ ys)
all_append P [] ys h k = k
all_append P (x ∷ xs) ys h k = (h.0, all_append P xs ys h.1 k)

-- behind a rule that reads
brings_later : (s t : State) (r : List Initialiser × State) → Grows s t → ArePlaced s → Brings t r → Brings s r
brings_later s t r g p b = brings_wider s t r.1 r.1 wide r.0 b.0 b.1
  where
    wide : (d k : ℕ) → Seen t d k ⊎ IsNew t r.1 d k → Seen s d k ⊎ IsNew s r.1 d k
    wide d k (inl v) = inl (reads_seen (reads_grows g) p d k v)
    wide d k (inr n) = inr (n.0 ∙ g.depth, subst (λ b. length b.locals ≤ k) g.body n.1, n.2)

-- declarations, and then more
brings_both : (s t u : State) (is more : List Initialiser) → Adds s t → Adds t u → Brings s (is, t) → Brings t (more, u) → Brings s (is ++ more, u)
brings_both s t u is more a b x y =
    ((λ d k v. behind d k (y.0 d k v)), all_append (SitedIn s u) is more (all_sited s s t u first is x.1) (all_sited s t u u behind more y.1))
  where
    early : length s.body.locals ≤ length t.body.locals
    early = longer_length s.body.locals t.body.locals a.locals

    late : length t.body.locals ≤ length u.body.locals
    late = longer_length t.body.locals u.body.locals b.locals

    first : (d k : ℕ) → Seen s d k ⊎ IsNew s t d k → Seen s d k ⊎ IsNew s u d k
    first d k (inl v) = inl v
    first d k (inr n) = inr (n.0, n.1, (let below : k < length t.body.locals = n.2 in let most = late in omega (arith, below, most)))

    behind : (d k : ℕ) → Seen t d k ⊎ IsNew t u d k → Seen s d k ⊎ IsNew s u d k
    behind d k (inl v) = first d k (x.0 d k v)
    behind d k (inr n) = inr (n.0 ∙ a.depth, (let least : length t.body.locals ≤ k = n.1 in let few = early in omega (arith, least, few)), n.2)

-- ---- what an object can be initialised with by a value

-- an array gets no value, and neither does what nothing can be assigned to
initialising : (ty : CType) (e : Expression) → not (is_array ty) ≡ true → is_assignable ty e ≡ true → IsInitialising ty
initialising (Int k) e a h = inl tt
initialising (Pointer q) e a h = inl tt
initialising (Record n) e a h = inr (n, refl)
initialising (Array q n) e a h = no a
initialising Void e a h = no h
initialising (Function q ps) e a h = no h

object_kind : (s : State) (cx : Context) (q : QType) (i : Init) → Post (object_rule cx q i s) (λ r. is_by_bytes (type_of q) i ≡ false → IsInitialising (type_of q))
unfolding object_rule object_by object_value value_filled bind
object_kind s cx q (S.Value e) = by (fills_characters (type_of q) (string_form e)) refl
  where
    by : (b : Bool) → fills_characters (type_of q) (string_form e) ≡ b
        → Post (object_by b cx q (words_in (string_form e)) (object_value cx q e) s) (λ r. fills_characters (type_of q) (string_form e) ≡ false → IsInitialising (type_of q))
    by true h = post_any (object_string cx q (words_in (string_form e)) s) (λ r. fills_characters (type_of q) (string_form e) ≡ false → IsInitialising (type_of q)) (λ r f. no (sym f ∙ h))
    by false h =
        after_any (Rattle.pw_check_rules.specs.Phrases.expr_rule e s) _ (λ r. fills_characters (type_of q) (string_form e) ≡ false → IsInitialising (type_of q)) (λ a.
        after_any (Rattle.pw_check_rules.specs.Operators.value_rule a.0 a.1) _ (λ r. fills_characters (type_of q) (string_form e) ≡ false → IsInitialising (type_of q)) (λ x met f.
        initialising (type_of q) x.0 (truth _ met.0) (truth _ met.1.0)))
object_kind s cx q (S.Braces token is trailing) =
    post_any (object_by (fills_characters (type_of q) (braced_string is)) cx q (words_in (braced_string is)) (object_list cx q is) s) (λ r. not (is_scalar (type_of q)) ≡ false → IsInitialising (type_of q))
    (λ r f. inl (scalar_is (type_of q) (truth (is_scalar (type_of q)) f)))

-- ---- locals

-- the value that a rule has read
record Made (s : State) (q : QType) (e : Expression) : Type 0 where
  at : State
  lawful : IsLawful at
  grows : Grows s at
  typed : IsTypedAs at (type_of q) e
  kind : IsInitialising (type_of q)

abbrev MadeIn : State → QType → Initialiser → Type 0
MadeIn s q (T.Value k e) = Made s q e
MadeIn s q (T.Bytes k hidden parts) = Unit {0}

abbrev Makes : State → QType → (QType × List Initialiser) × State → Type 0
Makes s q r = Reads s r.1 × AllByRecursion (MadeIn s q) r.0.1

first_made : (s t : State) (k : ℕ) (q : QType) (es : List Expression) → IsLawful t → Grows s t → AreTypedAs t (type_of q) es → IsInitialising (type_of q)
    → AllByRecursion (MadeIn s q) (first_part es [] (λ e. T.Value k e))
first_made s t k q [] l g h i = tt
first_made s t k q (e ∷ es) l g h i = (record { at = t; lawful = l; grows = g; typed = h 0 e refl; kind = i }, tt)

single_makes : (s : State) (w : Word) (k : ℕ) (q : QType) (i : Init) → IsLawful s → is_by_bytes (type_of q) i ≡ false → IsLawfulType s.types.records (type_of q) → Post (single_rule w k q i s) (Makes s q)
unfolding single_rule bind
single_makes s w k q i l single lawful =
    post_bind (object_rule (context_of w false 0) q i s) _
    (λ r. (IsLawful r.1 × Grows s r.1 × (is_by_bytes (type_of q) i ≡ false → IsLawfulType s.types.records (type_of q) → AreTypedAs r.1 (type_of q) r.0.filled.parts)) × (is_by_bytes (type_of q) i ≡ false → IsInitialising (type_of q))) (Makes s q)
    (post_both _ (λ r. IsLawful r.1 × Grows s r.1 × (is_by_bytes (type_of q) i ≡ false → IsLawfulType s.types.records (type_of q) → AreTypedAs r.1 (type_of q) r.0.filled.parts)) (λ r. is_by_bytes (type_of q) i ≡ false → IsInitialising (type_of q))
    (object_runs s (context_of w false 0) q i l) (object_kind s (context_of w false 0) q i))
    (λ r g. (reads_grows g.0.1, first_made s r.1 k q r.0.filled.parts g.0.0 g.0.1 (g.0.2 single lawful) (g.1 single)))

bytes_makes : (s : State) (w : Word) (k : ℕ) (q : QType) (i : Init) → IsLawful s → Post (bytes_rule w k q i s) (Makes s q)
unfolding bytes_rule completed_rule bind
bytes_makes s w k q i l =
    post_bind (object_rule (context_of w true (next_hidden s)) q i (add_hidden (hidden_of q [] false) s)) _ (λ r. IsLawful r.1 × Grows (add_hidden (hidden_of q [] false) s) r.1 × Unit {0}) (Makes s q)
    (runs_whatever _ _ _ (object_runs (add_hidden (hidden_of q [] false) s) (context_of w true (next_hidden s)) q i (hidden_added s (hidden_of q [] false) l)))
    (λ r g met. (record { entities = g.1.entities; more = g.1.more; ordinary = g.1.ordinary; entered = g.1.entered; body = g.1.body }, (tt, tt)))

initialiser_makes : (s : State) (b : Bool) (w : Word) (k : ℕ) (q : QType) (i : Init) → IsLawful s → is_by_bytes (type_of q) i ≡ b → IsLawfulType s.types.records (type_of q) → Post (local_initialiser b w k q i s) (Makes s q)
unfolding local_initialiser
initialiser_makes s true w k q i l e lawful = bytes_makes s w k q i l
initialiser_makes s false w k q i l e lawful = single_makes s w k q i l e lawful

or_new : (s t : State) (d k : ℕ) → length s.body.locals < length t.body.locals → OrNewest s d k → Seen s d k ⊎ IsNew s t d k
or_new s t d k more (inl v) = inl v
or_new s t d k more (inr h) = let same : k ≡ length s.body.locals = h.1 in inr (h.0, omega (arith, same), omega (arith, same, more))

-- behind a local's name, where its parts agree
entered_ready : (s : State) (name : List ℕ) (l : LocalValue) (register : Bool) → 0 < s.scopes.depth → IsReady s → IsReady (local_entered s name l register)
entered_ready s name l register inner ready = record {
  placed = local_placed s name l register inner ready.placed;
  counting = ready.counting;
  sound = entered_sound (add_local l s) name (LocalObject (length s.body.locals) l.ty register) None
      (record { backed = ready.sound.backed; spelled = ready.sound.spelled; functions = ready.sound.functions; slots = ready.sound.slots })
      (plain_backed s.types.linked s.made.hidden (LocalObject (length s.body.locals) l.ty register) tt) (plain_spelled s.types.linked name (LocalObject (length s.body.locals) l.ty register) tt);
}

made_sited : (s t : State) (name : List ℕ) (l : LocalValue) (register : Bool) → 0 < s.scopes.depth → IsReady s → length s.body.locals < length t.body.locals → (is : List Initialiser)
    → AllByRecursion (MadeIn (local_entered s name l register) l.ty) is → AreSited s t is
made_sited s t name l register inner ready more [] h = tt
made_sited s t name l register inner ready more (T.Value k e ∷ is) h =
    let before : IsReady (local_entered s name l register) = entered_ready s name l register inner ready in (
      record {
        at = h.0.at;
        ty = type_of l.ty;
        lawful = h.0.lawful;
        ready = record { placed = grows_placed h.0.grows before.placed; counting = h.0.grows.counting ∙ before.counting; sound = h.0.grows.sound None before.sound };
        typed = h.0.typed;
        kind = h.0.kind;
        finds = λ d n v. or_new s t d n more (local_seen s name l register ready.placed d n (reads_seen (reads_grows h.0.grows) before.placed d n v));
      },
      made_sited s t name l register inner ready more is h.1,
    )
made_sited s t name l register inner ready more (T.Bytes k hidden parts ∷ is) h = (tt, made_sited s t name l register inner ready more is h.1)

one_more : (xs : List LocalValue) (x : LocalValue) → length xs < length (xs ++ x ∷ [])
one_more xs x = get_within (xs ++ x ∷ []) (length xs) x (get_last xs x)

-- behind a local's initialiser
completed_brings : (s u : State) (name : List ℕ) (l new : LocalValue) (register : Bool) (is : List Initialiser) → 0 < s.scopes.depth → IsReady s → Reads (local_entered s name l register) u
    → AllByRecursion (MadeIn (local_entered s name l register) l.ty) is → Brings s (is, local_completed s (length s.scopes.entities) new register u)
completed_brings s u name l new register is inner ready reads made =
    let placed : ArePlaced (local_entered s name l register) = local_placed s name l register inner ready.placed in (
      λ d k v. or_new s (local_completed s (length s.scopes.entities) new register u) d k more (completed_seen s u name l new register ready.placed placed reads d k v),
      made_sited s (local_completed s (length s.scopes.entities) new register u) name l register inner ready more is made,
    )
  where
    held : slice_get u.body.locals (length s.body.locals) ≡ Some l
    held = subst (λ b. slice_get b.locals (length s.body.locals) ≡ Some l) (sym reads.body) (get_last s.body.locals l)

    more : length s.body.locals < length (put_at (length s.body.locals) new u.body.locals)
    more = subst (λ n. length s.body.locals < n) (sym (length_put (length s.body.locals) new u.body.locals)) (get_within u.body.locals (length s.body.locals) l held)

local_brings : (s : State) (w : Word) (b : Specified) (q : QType) (i : Option Initializer) → 0 < s.scopes.depth → IsLawful s → IsReady s → IsObjectLike s.types.records q → Post (local_rule w b q i s) (Brings s)
unfolding local_rule bind
local_brings s w b q None inner l ready h =
    (λ d k v. or_new s (local_entered s w.text (local_of w q) (is_register b.storage)) d k (one_more s.body.locals (local_of w q)) (local_seen s w.text (local_of w q) (is_register b.storage) ready.placed d k v), tt)
local_brings s w b q (Some i) inner l ready h =
    let at : State = local_entered s w.text (local_of w q) (is_register b.storage) in
    post_bind (local_initialiser (is_by_bytes (type_of q) i.init) w (next_local s) q i.init (local_entered s w.text (local_of w q) (is_register b.storage)))
    _ (Makes (local_entered s w.text (local_of w q) (is_register b.storage)) q) (Brings s)
    (initialiser_makes (local_entered s w.text (local_of w q) (is_register b.storage)) (is_by_bytes (type_of q) i.init) w (next_local s) q i.init
    (entered (add_local (local_of w q) s) w.text (LocalObject (length s.body.locals) q (is_register b.storage)) (around s s.made (add_local (local_of w q) s).body l refl).0 h) refl h.lawful)
    (λ r g.
    let place : place_here at w.text ≡ length s.scopes.entities = place_of_new (add_local (local_of w q) s) w.text (LocalObject (length s.body.locals) q (is_register b.storage)) in
    subst (λ n. Brings s (r.0.1, local_completed s n (local_of w r.0.0) (is_register b.storage) r.1)) (sym place)
    (completed_brings s r.1 w.text (local_of w q) (local_of w r.0.0) (is_register b.storage) r.0.1 inner ready g.0 g.1))

-- ---- static locals

static_brings : (s : State) (w : Word) (q : QType) (i : Option Initializer) → IsLawful s → IsReady s → IsObjectLike s.types.records q → Post (static_rule w q i s) (Brings s)
unfolding static_rule completed_rule bind
static_brings s w q None l ready h =
    (λ d k v. inl (entered_seen (add_hidden (hidden_of q [] (not (is_const_object q))) s) w.text (StaticObject (next_hidden s) q) tt ready.placed d k v), tt)
static_brings s w q (Some i) l ready h =
    post_bind (object_rule (context_of w true (next_hidden s)) q i.init (enter w.text (StaticObject (next_hidden s) q) (add_hidden (hidden_of q [] (not (is_const_object q))) s)))
    _ (λ r. IsLawful r.1 × Grows (enter w.text (StaticObject (next_hidden s) q) (add_hidden (hidden_of q [] (not (is_const_object q))) s)) r.1 × Unit {0}) (Brings s)
    (runs_whatever _ _ _
    (object_runs (enter w.text (StaticObject (next_hidden s) q) (add_hidden (hidden_of q [] (not (is_const_object q))) s)) (context_of w true (next_hidden s)) q i.init
    (entered (add_hidden (hidden_of q [] (not (is_const_object q))) s) w.text (StaticObject (next_hidden s) q) (hidden_added s (hidden_of q [] (not (is_const_object q))) l) h)))
    (λ r g met. (
      λ d k v.
          inl (entered_seen (add_hidden (hidden_of q [] (not (is_const_object q))) s) w.text (StaticObject (next_hidden s) q) tt ready.placed d k
          (reads_seen (reads_grows g.1) (Rattle.pw_law_checked.proofs.Locals.entered_placed (add_hidden (hidden_of q [] (not (is_const_object q))) s) w.text (StaticObject (next_hidden s) q) ready.placed tt) d k
          (put_seen r.1 (place_here (enter w.text (StaticObject (next_hidden s) q) (add_hidden (hidden_of q [] (not (is_const_object q))) s)) w.text) (StaticObject (next_hidden s) r.0.ty) tt d k v))),
      tt,
    ))

-- ---- what is declared

never_outer : (s : State) → 0 < s.scopes.depth → s.scopes.depth ≡ 0 → ⊥
never_outer s inner outer = omega (arith, inner, outer)

declare_brings : (s : State) (sort : Sort) (w : Word) (b : Specified) (spot : Spot) (q : QType) (i : Option Initializer) → IsLawful s → IsReady s → IsLawfulType s.types.records (type_of q) → Fits sort q → 0 < s.scopes.depth
    → IsOuter sort s → Post (declare_rule sort w b spot q i s) (Brings s)
unfolding declare_rule declare_linked bind
declare_brings s ATypedef w b spot q i l ready h f inner outer = (λ d k v. inl (entered_seen s w.text (TypeName q) tt ready.placed d k v), tt)
declare_brings s AFunction w b spot q i l ready h f inner outer = (λ d k v. inl (noted_seen s w.text w.token b.tag (asking_of AFunction b) q ready.placed d k v), tt)
declare_brings s AGlobal w b spot q i l ready h f inner outer = absurd (never_outer s inner outer)
declare_brings s AnExtern w b spot q i l ready h f inner outer = (λ d k v. inl (noted_seen s w.text w.token b.tag AsBefore q ready.placed d k v), tt)
declare_brings s AStatic w b spot q i l ready h f inner outer = static_brings s w q i l ready (record { lawful = h; object = f })
declare_brings s ALocal w b spot q i l ready h f inner outer = local_brings s w b q i inner l ready (record { lawful = h; object = f })

-- ---- declarations

ready_grows : {s t : State} → Grows s t → IsReady s → IsReady t
ready_grows g r = record { placed = grows_placed g r.placed; counting = g.counting ∙ r.counting; sound = g.sound None r.sound }

-- rules that only read, and then one that brings
then_brings : {A : Type 0} {s : State} (w : Walk (A × State)) (next : A × State → Walk (List Initialiser × State)) (Good : State → A → Type 0) → IsReady s → Runs s w Good
    → ((r : A × State) → IsLawful r.1 → Grows s r.1 → IsReady r.1 → Good r.1 r.0 → Post (next r) (Brings r.1)) → Post (bind w next) (Brings s)
then_brings {A} {s} w next Good ready h k =
    post_bind w next (λ r. IsLawful r.1 × Grows s r.1 × Good r.1 r.0) (Brings s) h
    (λ r g. post_weaken (next r) (Brings r.1) (Brings s) (k r g.0 g.1 (ready_grows g.1 ready) g.2) (λ u f. brings_later s r.1 u g.1 ready.placed f))

asked_brings : {A : Type 0} (s : State) (a : A) (next : A × State → Walk (List Initialiser × State)) → Post (next (a, s)) (Brings s) → Post (bind (Done (a, s)) next) (Brings s)
unfolding bind
asked_brings s a next h = h

named_brings : (u : State) (sort : Sort) (spot : Spot) (w : Word) (b : Specified) (q : QType) (i : Option Initializer) → IsLawful u → IsReady u → IsLawfulType u.types.records (type_of q) → Fits sort q → 0 < u.scopes.depth → IsOuter sort u
    → Post (bind (name_rule sort spot w (is_some i) b q u) (λ v. declare_rule sort w b spot q i v.1)) (Brings u)
unfolding name_rule bind
named_brings u sort spot w b q i n ready j f inner outer = λ met. declare_brings u sort w b spot q i n ready j f inner outer

inner_grows : {s t : State} → Grows s t → 0 < s.scopes.depth → 0 < t.scopes.depth
inner_grows g inner = subst (λ n. 0 < n) (sym g.depth) inner

init_declarator_brings : (s : State) (b : Specified) (d : InitDeclarator) → IsLawful s → IsReady s → 0 < s.scopes.depth → GoodSpecified s b → Post (init_declarator_rule b d s) (Brings s)
unfolding init_declarator_rule
init_declarator_brings s b d l ready inner h =
    then_brings _ _ GoodDeclared ready (declarator_post d.declarator s l) (λ r m x p k.
    then_brings _ _ GoodType p (built_runs r.1 (spot_of r.0.name b.first b.tag) r.0.derivations b.ty m k.0 (lawful_later s.types.records r.1.types.records x.extends (type_of b.ty) h)) (λ u n y o j.
    asked_brings u.1 (sort_of (is_file_scope u.1) b u.0) _
    (named_brings u.1 (sort_of (is_file_scope u.1) b u.0) (spot_of r.0.name b.first b.tag) (name_of r.0) b u.0 d.initializer n o j (sort_fits (is_file_scope u.1) b u.0) (inner_grows y (inner_grows x inner)) (sort_outer u.1 u.1 b u.0 refl))))

-- with what is known of declarations
abbrev pub Comes : State → List Initialiser × State → Type 0
Comes s r = Declaring s r × Brings s r

then_both : (s : State) (w : Walk (List Initialiser × State)) (next : State → Walk (List Initialiser × State)) → Post w (Comes s)
    → ((r : State) (is : List Initialiser) → Declaring s (is, r) → Post (next r) (Comes r))
    → Post (bind w (λ r. bind (next r.1) (λ u. Done (r.0 ++ u.0, u.1)))) (Brings s)
unfolding bind
then_both s w next h k =
    post_bind w (λ r. bind (next r.1) (λ u. Done (r.0 ++ u.0, u.1))) (Comes s) (Brings s) h
    (λ r g. post_bind (next r.1) (λ u. Done (r.0 ++ u.0, u.1)) (Comes r.1) (Brings s) (k r.1 r.0 g.0)
    (λ u f. brings_both s r.1 u.1 r.0 u.0 g.0.2.0 f.0.2.0 g.1 f.1))

inner_adds : {s t : State} → Adds s t → 0 < s.scopes.depth → 0 < t.scopes.depth
inner_adds a inner = subst (λ n. 0 < n) (sym a.depth) inner

init_declarators_bring : (ds : List InitDeclarator) (s : State) (b : Specified) → IsLawful s → IsReady s → 0 < s.scopes.depth → GoodSpecified s b → Post (init_declarators_rule b ds s) (Brings s)
unfolding init_declarators_rule
init_declarators_bring [] s b l ready inner h = sees_brings s s (λ d k v. v)
init_declarators_bring (d ∷ rest) s b l ready inner h =
    then_both s (init_declarator_rule b d s) (init_declarators_rule b rest)
    (post_both _ (Declaring s) (Brings s) (init_declarator_declares s b d l h) (init_declarator_brings s b d l ready inner h))
    (λ r is g.
    let k = lawful_later s.types.records r.types.records g.1.extends (type_of b.ty) h in
    post_both _ (Declaring r) (Brings r) (init_declarators_declare rest r b g.0 k) (init_declarators_bring rest r b g.0 (ready_adds g.1 g.2.0 ready) (inner_adds g.2.0 inner) k))

bare_brings : (s : State) (specifiers : Specifiers) → IsLawful s → IsReady s → Post (bare_rule specifiers s) (Brings s)
bare_brings s specifiers l ready =
    post_weaken (bare_rule specifiers s) (λ r. IsLawful r.1 × Grows s r.1 × (r.0 ≡ [])) (Brings s) (bare_runs s specifiers l)
    (λ r g. ((λ d k v. inl (reads_seen (reads_grows g.1) ready.placed d k v)), subst (AreSited s r.1) (sym g.2) tt))

storage_runs : (s : State) (b : Specified) → IsLawful s → Runs s (storage_rule b s) Nothing
unfolding storage_rule bind
storage_runs s b l = λ met. (l, grows_same s, tt)

declarators_bring : (s : State) (specifiers : Specifiers) (ds : List InitDeclarator) → IsLawful s → IsReady s → 0 < s.scopes.depth → Post (declarators_rule specifiers ds s) (Brings s)
unfolding declarators_rule
declarators_bring s specifiers [] l ready inner = bare_brings s specifiers l ready
declarators_bring s specifiers (d ∷ rest) l ready inner =
    then_brings _ _ GoodSpecified ready (specified_all s specifiers (first_of_list specifiers) l) (λ r m x p h.
    then_brings _ _ Nothing p (storage_runs r.1 r.0 m) (λ u n y o k.
    init_declarators_bring (d ∷ rest) u.1 r.0 n o (inner_grows y (inner_grows x inner)) (lawful_later r.1.types.records u.1.types.records y.extends (type_of r.0.ty) h)))

decl_brings : (s : State) (d : Decl) → IsLawful s → IsReady s → 0 < s.scopes.depth → Post (decl_rule d s) (Brings s)
unfolding decl_rule
decl_brings s d l ready inner = declarators_bring s d.specifiers d.declarators l ready inner

decls_bring : (ds : List Decl) (s : State) → IsLawful s → IsReady s → 0 < s.scopes.depth → Post (decls_rule ds s) (Brings s)
unfolding decls_rule
decls_bring [] s l ready inner = sees_brings s s (λ d k v. v)
decls_bring (d ∷ rest) s l ready inner =
    then_both s (decl_rule d s) (decls_rule rest) (post_both _ (Declaring s) (Brings s) (decl_declares d s l) (decl_brings s d l ready inner))
    (λ r is g. post_both _ (Declaring r) (Brings r) (decls_declare rest r g.0) (decls_bring rest r g.0 (ready_adds g.1 g.2.0 ready) (inner_adds g.2.0 inner)))

-- the declarations of a block
pub decls_come : (ds : List Decl) (s : State) → IsLawful s → IsReady s → 0 < s.scopes.depth → Post (decls_rule ds s) (Comes s)
decls_come ds s l ready inner = post_both _ (Declaring s) (Brings s) (decls_declare ds s l) (decls_bring ds s l ready inner)
