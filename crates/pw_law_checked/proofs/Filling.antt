-- Initialisers read expressions alone, so the state grows as by expressions; and one for a scalar gives values of its type.
use Rattle.std.specs.Prelude.{ℕ, ◌≡◌, ◌⊎◌, ◌==◌, ◌||◌, Bool, true, false, not, Option, None, Some, is_some, option_and_then, List, [], ◌∷◌, ◌++◌, length, slice_get, if◌then◌else◌, refl}
use Rattle.std.specs.Option.{option_map_or}
use Rattle.std.proofs.Common.{ap, sym, subst, ◌∙◌, inl, inr}
use Rattle.pw_tree.specs.FirstTokens.{first_of_expr}
use Rattle.pw_tree.specs.Trees.{Word, Expr, Init, Inits}
use Rattle.pw_tree.specs.Trees as S
use Rattle.pw_value.specs.Limits.{depth_limit}
use Rattle.pw_types.specs.TypeTrees.{CType, Void, Int, Pointer, Function, Record, Array, QType, type_of, RecordValue}
use Rattle.pw_types.specs.TypedTrees.{Expression, LocalValue, ModuleValue}
use Rattle.pw_types.specs.WellTyped.{IsTyped, IsScalar, type_in}
use Rattle.pw_check_walk.specs.Causes.{InitialiserCount, needs, InitialiserForm}
use Rattle.pw_check_walk.specs.Walks.{Walk, Done, bind, granted}
use Rattle.pw_check_rules.specs.Initialisers.{Context, Filled, Frame, Cursor, Target, Reached, target_at, frame_of, one_on, nothing_filled, value_filled, string_filled, listed_value, listed_string, listed_expression, listed_by, listed_form, StringForm, IsString, IsOther, string_form, braced_string, braced_target, braced_by, fills_characters, words_in, meets_characters, takes_record, takes_braces, next_target, next_part, part_of, reach, reached, inits_rule, init_rule, Initialised, passed, object_string, object_value, object_list, object_by, object_rule, is_by_bytes}
use Rattle.pw_check_rules.specs.Kinds.{is_character_array, is_scalar}
use Rattle.pw_check_rules.specs.Leaves.{string_point}
use Rattle.pw_check_rules.specs.Operands.{cast_to}
use Rattle.pw_check_rules.specs.States.{State, Rule, records_in}
use Rattle.pw_law_checked.specs.Lawful.{IsLawful, IsLawfulType, Denotes, AreWords}
use Rattle.pw_law_checked.proofs.Walking.{post_bind, post_weaken, truth}
use Rattle.pw_law_checked.proofs.Lists.{some_same, never_some, get_more}
use Rattle.pw_law_checked.proofs.Types.{no, lawful_later}
use Rattle.pw_law_checked.proofs.Conversions.{cast_type, cast_words, scalar_is}
use Rattle.pw_law_checked.proofs.Places.{assignable_typed}
use Rattle.pw_law_checked.proofs.States.{FineValue, Runs, goes_on, Grows, grows_same, denotes_back}
use Rattle.pw_law_checked.proofs.Leaves.{Nothing}
use Rattle.pw_law_checked.proofs.Phrases.{expr_post, valued}

-- ---- values of one type

abbrev pub IsTypedAs : State → CType → Expression → Type 0
IsTypedAs s ty e = (m : ModuleValue) (locals : List LocalValue) → Denotes s m locals → AreWords e → IsTyped m locals e × (type_in e ≡ ty)

abbrev pub AreTypedAs : State → CType → List Expression → Type 0
AreTypedAs s ty es = (i : ℕ) (e : Expression) → slice_get es i ≡ Some e → IsTypedAs s ty e

pub typed_as_later : {s t : State} → Grows s t → (ty : CType) (es : List Expression) → AreTypedAs s ty es → AreTypedAs t ty es
typed_as_later g ty es h i e at m locals d w = h i e at m locals (denotes_back g d) w

one_more : (s : State) (ty : CType) (es : List Expression) (x : Expression) → AreTypedAs s ty es → IsTypedAs s ty x → AreTypedAs s ty (es ++ x ∷ [])
one_more s ty es x h k i e at = by (get_more es x i e at)
  where
    by : (slice_get es i ≡ Some e) ⊎ ((i ≡ length es) × (x ≡ e)) → IsTypedAs s ty e
    by (inl f) = h i e f
    by (inr f) = subst (IsTypedAs s ty) f.1 k

-- ---- the places of a scalar's initialiser: the object itself

abbrev IsAt : CType → Cursor → Type 0
IsAt ty [] = Unit {0}
IsAt ty (f ∷ []) = f.ty ≡ ty
IsAt ty (f ∷ g ∷ outer) = ⊥

alone_passed : (r : List RecordValue) (f : Frame) → passed r (f ∷ []) ≡ one_on f ∷ []
unfolding passed
alone_passed r f = by (is_some (next_part r (one_on f)))
  where
    by : (b : Bool) → (if b || true then one_on f ∷ [] else []) ≡ one_on f ∷ []
    by true = refl
    by false = refl

reached_at : (r : List RecordValue) (takes : CType → Bool) (f : Frame) (x : Reached) (t : Target) (deep : ℕ) → is_scalar (type_of t.ty) ≡ true
    → (if is_scalar (type_of t.ty) || takes (type_of t.ty) then Some (record { target = t; cursor = f ∷ [] }) else reached deep r takes (frame_of t ∷ f ∷ [])) ≡ Some x
    → (type_of x.target.ty ≡ type_of t.ty) × (x.cursor ≡ f ∷ [])
reached_at r takes f x t deep h e =
    let same : record { target = t; cursor = f ∷ [] } ≡ x =
    some_same (sym (ap (λ b. if b || takes (type_of t.ty) then Some (record { target = t; cursor = f ∷ [] }) else reached deep r takes (frame_of t ∷ f ∷ [])) h) ∙ e) in
    (ap (λ (y : Reached). type_of y.target.ty) (sym same), ap (λ (y : Reached). y.cursor) (sym same))

scalar_reached : (r : List RecordValue) (takes : CType → Bool) (f : Frame) (x : Reached) (ty : CType) → IsScalar ty → f.ty ≡ ty → reach r takes (f ∷ []) ≡ Some x
    → (type_of x.target.ty ≡ ty) × (x.cursor ≡ f ∷ [])
unfolding reached
scalar_reached r takes f x (Int k) scalar same e = by (f.next == 0) (sym (ap (λ c. option_and_then (λ (t : Target). if is_scalar (type_of t.ty) || takes (type_of t.ty) then Some (record { target = t; cursor = f ∷ [] }) else reached depth_limit r takes (frame_of t ∷ f ∷ [])) (part_of r c f)) same) ∙ e)
  where
    by : (b : Bool) → option_and_then (λ (t : Target). if is_scalar (type_of t.ty) || takes (type_of t.ty) then Some (record { target = t; cursor = f ∷ [] }) else reached depth_limit r takes (frame_of t ∷ f ∷ []))
        (if b then Some (target_at (Rattle.pw_check_rules.specs.Kinds.plain (Int k)) f.offset) else None) ≡ Some x → (type_of x.target.ty ≡ Int k) × (x.cursor ≡ f ∷ [])
    by true g = reached_at r takes f x (target_at (Rattle.pw_check_rules.specs.Kinds.plain (Int k)) f.offset) depth_limit refl g
    by false g = never_some g
scalar_reached r takes f x (Pointer q) scalar same e = by (f.next == 0) (sym (ap (λ c. option_and_then (λ (t : Target). if is_scalar (type_of t.ty) || takes (type_of t.ty) then Some (record { target = t; cursor = f ∷ [] }) else reached depth_limit r takes (frame_of t ∷ f ∷ [])) (part_of r c f)) same) ∙ e)
  where
    by : (b : Bool) → option_and_then (λ (t : Target). if is_scalar (type_of t.ty) || takes (type_of t.ty) then Some (record { target = t; cursor = f ∷ [] }) else reached depth_limit r takes (frame_of t ∷ f ∷ []))
        (if b then Some (target_at (Rattle.pw_check_rules.specs.Kinds.plain (Pointer q)) f.offset) else None) ≡ Some x → (type_of x.target.ty ≡ Pointer q) × (x.cursor ≡ f ∷ [])
    by true g = reached_at r takes f x (target_at (Rattle.pw_check_rules.specs.Kinds.plain (Pointer q)) f.offset) depth_limit refl g
    by false g = never_some g
scalar_reached r takes f x Void scalar same e = absurd scalar
scalar_reached r takes f x (Array q n) scalar same e = absurd scalar
scalar_reached r takes f x (Function q ps) scalar same e = absurd scalar
scalar_reached r takes f x (Record n) scalar same e = absurd scalar

at_reached : (r : List RecordValue) (takes : CType → Bool) (cursor : Cursor) (x : Reached) (ty : CType) → IsScalar ty → IsAt ty cursor → reach r takes cursor ≡ Some x
    → (type_of x.target.ty ≡ ty) × IsAt ty (passed r x.cursor)
unfolding reached
at_reached r takes [] x ty scalar at e = never_some e
at_reached r takes (f ∷ []) x ty scalar at e =
    let k = scalar_reached r takes f x ty scalar at e in
    (k.0, subst (IsAt ty) (sym (ap (passed r) k.1 ∙ alone_passed r f)) at)
at_reached r takes (f ∷ g ∷ outer) x ty scalar at e = absurd at

no_characters : (ty : CType) → IsScalar ty → is_character_array ty ≡ false
no_characters (Int k) h = refl
no_characters (Pointer q) h = refl
no_characters Void h = absurd h
no_characters (Array q n) h = absurd h
no_characters (Function q ps) h = absurd h
no_characters (Record n) h = absurd h

no_string : (r : List RecordValue) (cursor : Cursor) (ty : CType) → IsScalar ty → IsAt ty cursor → meets_characters r cursor ≡ true → ⊥
no_string r cursor ty scalar at e = by (reach r is_character_array cursor) refl e
  where
    by : (o : Option Reached) → reach r is_character_array cursor ≡ o → option_map_or (λ (x : Reached). is_character_array (type_of x.target.ty)) o false ≡ true → ⊥
    by None f g = no g
    by (Some x) f g =
        no (sym (ap is_character_array (at_reached r is_character_array cursor x ty scalar at f).0 ∙ no_characters ty scalar) ∙ g)

no_braces : (cursor : Cursor) (ty : CType) → IsScalar ty → IsAt ty cursor → takes_braces cursor ≡ true → ⊥
no_braces [] ty scalar at e = no e
no_braces (f ∷ []) ty scalar at e = no (sym (ap (λ c. not (is_scalar c)) at ∙ ap not (scalar_so ty scalar)) ∙ e)
  where
    scalar_so : (c : CType) → IsScalar c → is_scalar c ≡ true
    scalar_so (Int k) h = refl
    scalar_so (Pointer q) h = refl
    scalar_so Void h = absurd h
    scalar_so (Array q n) h = absurd h
    scalar_so (Function q ps) h = absurd h
    scalar_so (Record n) h = absurd h
no_braces (f ∷ g ∷ outer) ty scalar at e = absurd at

-- ---- one initialiser

-- what initialisers for a part of this type add to values of it
abbrev Fills : State → State → CType → Filled → Filled → Type 0
Fills s t ty before after = IsLawfulType s.types.records ty → AreTypedAs s ty before.parts → AreTypedAs t ty after.parts

filled_runs : (s : State) (cx : Context) (first : ℕ) (t : Target) (e : Expression) (filled : Filled) → IsLawful s → FineValue s e
    → Runs s (value_filled cx first t e filled s) (λ u more. Fills s u (type_of t.ty) filled more)
unfolding value_filled bind
filled_runs s cx first t e filled l f = λ met. (
  l,
  grows_same s,
  λ lawful all. one_more s (type_of t.ty) filled.parts (cast_to (type_of t.ty) e) all (λ m locals d w. (
    assignable_typed m locals (type_of t.ty) e (f m locals d (cast_words (type_of t.ty) e w)) (lawful_later s.types.records m.records d.records (type_of t.ty) lawful) (truth _ met.1.0),
    cast_type (type_of t.ty) e,
  )),
)

string_filled_runs : (s : State) (cx : Context) (ws : List Word) (t : Target) (filled : Filled) → IsLawful s → Runs s (string_filled cx ws t filled s) Nothing
unfolding string_filled string_point bind
string_filled_runs s cx ws t filled l = λ met more. (l, grows_same s, tt)

-- what the initialisers of a list for a scalar add
abbrev Advances : State → State → Cursor → Filled → Cursor × Filled → Type 0
Advances s t cursor filled r =
    (ty : CType) → IsScalar ty → IsLawfulType s.types.records ty → IsAt ty cursor → AreTypedAs s ty filled.parts → IsAt ty r.0 × AreTypedAs t ty r.1.parts

advances_later : (s u t : State) (cursor : Cursor) (filled : Filled) (r : Cursor × Filled) → Grows s u → Advances u t cursor filled r → Advances s t cursor filled r
advances_later s u t cursor filled r g h ty scalar lawful at all =
    h ty scalar (lawful_later s.types.records u.types.records g.extends ty lawful) at (typed_as_later g ty filled.parts all)

listed_value_runs : (s : State) (cx : Context) (cursor : Cursor) (filled : Filled) (first : ℕ) (e : Expression) → IsLawful s → FineValue s e
    → Runs s (listed_value cx cursor filled first e s) (λ t r. Advances s t cursor filled r)
unfolding listed_value bind
listed_value_runs s cx cursor filled first e l f = by (reach (records_in s) (takes_record e) cursor) refl
  where
    by : (o : Option Reached) → reach (records_in s) (takes_record e) cursor ≡ o
        → Runs s (bind (granted InitialiserCount cx.token [] o s) (λ r. bind (value_filled cx first r.0.target e filled r.1) (λ more. Done ((passed (records_in s) r.0.cursor, more.0), more.1)))) (λ t r. Advances s t cursor filled r)
    by None h = λ met. tt
    by (Some x) h = λ met.
        post_bind (value_filled cx first x.target e filled s) (λ more. Done ((passed (records_in s) x.cursor, more.0), more.1)) (λ r. IsLawful r.1 × Grows s r.1 × Fills s r.1 (type_of x.target.ty) filled r.0)
        (λ r. IsLawful r.1 × Grows s r.1 × Advances s r.1 cursor filled r.0)
        (filled_runs s cx first x.target e filled l f)
        (λ r g. (
          g.0,
          g.1,
          λ ty scalar lawful at all.
              let k = at_reached (records_in s) (takes_record e) cursor x ty scalar at h in
              (k.1, subst (λ c. Fills s r.1 c filled r.0) k.0 g.2 lawful all),
        ))

listed_string_runs : (s : State) (cx : Context) (cursor : Cursor) (filled : Filled) (ws : List Word) → IsLawful s → Runs s (listed_string cx cursor filled ws s) Nothing
unfolding listed_string bind
listed_string_runs s cx cursor filled ws l = by (reach (records_in s) is_character_array cursor)
  where
    by : (o : Option Reached)
        → Runs {A = Cursor × Filled} s (bind (granted InitialiserCount cx.token [] o s) (λ r. bind (string_filled cx ws r.0.target filled r.1) (λ more. Done ((passed (records_in s) r.0.cursor, more.0), more.1)))) Nothing
    by None = λ met. tt
    by (Some x) = λ met. goes_on (string_filled cx ws x.target filled s) _ Nothing Nothing (string_filled_runs s cx ws x.target filled l) (λ r m g h. (m, grows_same r.1, tt))

listed_expression_runs : (s : State) (cx : Context) (cursor : Cursor) (filled : Filled) (e : Expr) → IsLawful s → Runs s (listed_expression cx cursor filled e s) (λ t r. Advances s t cursor filled r)
unfolding listed_expression
listed_expression_runs s cx cursor filled e l =
    valued _ _ (λ t r. Advances s t cursor filled r) (expr_post e s l) (λ r m g f.
    post_weaken (listed_value cx cursor filled (first_of_expr e) r.0 r.1) (λ u. IsLawful u.1 × Grows r.1 u.1 × Advances r.1 u.1 cursor filled u.0) (λ u. IsLawful u.1 × Grows r.1 u.1 × Advances s u.1 cursor filled u.0)
    (listed_value_runs r.1 cx cursor filled (first_of_expr e) r.0 m f)
    (λ u k. (k.0, k.1, advances_later s r.1 u.1 cursor filled u.0 g k.2)))

listed_by_runs : (s : State) (whole : Bool) (cx : Context) (cursor : Cursor) (filled : Filled) (e : Expr) (ws : List Word) → IsLawful s → meets_characters (records_in s) cursor ≡ whole
    → Runs s (listed_by whole cx cursor filled e ws s) (λ t r. Advances s t cursor filled r)
unfolding listed_by
listed_by_runs s true cx cursor filled e ws l h =
    post_weaken (listed_string cx cursor filled ws s) (λ u. IsLawful u.1 × Grows s u.1 × Unit {0}) (λ u. IsLawful u.1 × Grows s u.1 × Advances s u.1 cursor filled u.0)
    (listed_string_runs s cx cursor filled ws l) (λ u k. (k.0, k.1, λ ty scalar lawful at all. absurd (no_string (records_in s) cursor ty scalar at h)))
listed_by_runs s false cx cursor filled e ws l h = listed_expression_runs s cx cursor filled e l

listed_form_runs : (s : State) (cx : Context) (cursor : Cursor) (filled : Filled) (e : Expr) (form : StringForm) → IsLawful s → Runs s (listed_form cx cursor filled e form s) (λ t r. Advances s t cursor filled r)
unfolding listed_form bind
listed_form_runs s cx cursor filled e IsOther l = listed_expression_runs s cx cursor filled e l
listed_form_runs s cx cursor filled e (IsString ws) l = listed_by_runs s (meets_characters (records_in s) cursor) cx cursor filled e ws l refl

braced_target_runs : (s : State) (cx : Context) (cursor : Cursor) → IsLawful s → Runs s (braced_target cx cursor s) (λ t r. takes_braces cursor ≡ true)
unfolding braced_target bind
braced_target_runs s cx cursor l = by (next_target (records_in s) cursor)
  where
    by : (o : Option Target) → Runs s (granted InitialiserCount cx.token (needs InitialiserForm cx.token (takes_braces cursor) ∷ []) o s) (λ t r. takes_braces cursor ≡ true)
    by None = λ met. tt
    by (Some x) = λ met. (l, grows_same s, truth _ met.0)

braced_by_runs : (s : State) (b : Bool) (cx : Context) (t : Target) (filled : Filled) (ws : List Word) (within : Rule (Cursor × Filled)) → IsLawful s → Runs s (within s) Nothing
    → Runs s (braced_by b cx t filled ws within s) Nothing
unfolding braced_by bind
braced_by_runs s true cx t filled ws within l h =
    goes_on (string_filled cx ws t filled s) _ Nothing Nothing (string_filled_runs s cx ws t filled l) (λ r m g k. (m, grows_same r.1, tt))
braced_by_runs s false cx t filled ws within l h = h

pub runs_whatever : {A : Type 0} (s : State) (w : Walk (A × State)) (Good : State → A → Type 0) → Runs s w Good → Runs s w Nothing
runs_whatever {A} s w Good h = post_weaken w (λ r. IsLawful r.1 × Grows s r.1 × Good r.1 r.0) (λ r. IsLawful r.1 × Grows s r.1 × Unit {0}) h (λ r g. (g.0, g.1, tt))

finishing : {A B : Type 0} (s : State) (look : State → A) (make : A → B) (Good : State → B → Type 0) → IsLawful s → Good s (make (look s))
    → Runs s (bind {A = A × State} {B = B × State} (Done (look s, s)) (λ t. Done (make t.0, t.1))) Good
unfolding bind
finishing s look make Good l h = (l, grows_same s, h)

mutual
  unfolding inits_rule

  inits_runs : (is : Inits) (s : State) (cx : Context) (cursor : Cursor) (filled : Filled) → IsLawful s → Runs s (inits_rule is cx cursor filled s) (λ t r. Advances s t cursor filled r)
  inits_runs S.NoInit s cx cursor filled l = (l, grows_same s, λ ty scalar lawful at all. (at, all))
  inits_runs (S.Listed i rest) s cx cursor filled l =
      goes_on _ _ (λ t r. Advances s t cursor filled r) (λ t r. Advances s t cursor filled r) (init_runs i s cx cursor filled l) (λ r m g h.
      post_weaken (inits_rule rest cx r.0.0 r.0.1 r.1) (λ u. IsLawful u.1 × Grows r.1 u.1 × Advances r.1 u.1 r.0.0 r.0.1 u.0) (λ u. IsLawful u.1 × Grows r.1 u.1 × Advances s u.1 cursor filled u.0)
      (inits_runs rest r.1 cx r.0.0 r.0.1 m)
      (λ u k. (
        k.0,
        k.1,
        λ ty scalar lawful at all.
            let x = h ty scalar lawful at all in k.2 ty scalar (lawful_later s.types.records r.1.types.records g.extends ty lawful) x.0 x.1,
      )))

  init_runs : (i : Init) (s : State) (cx : Context) (cursor : Cursor) (filled : Filled) → IsLawful s → Runs s (init_rule i cx cursor filled s) (λ t r. Advances s t cursor filled r)
  init_runs (S.Value e) s cx cursor filled l = listed_form_runs s cx cursor filled e (string_form e) l
  init_runs (S.Braces token is trailing) s cx cursor filled l =
      goes_on _ _ (λ t r. takes_braces cursor ≡ true) (λ t r. Advances s t cursor filled r) (braced_target_runs s cx cursor l) (λ r m g h.
      goes_on _ _ Nothing (λ t x. Advances s t cursor filled x)
      (braced_by_runs r.1 (fills_characters (type_of r.0.ty) (braced_string is)) cx r.0 filled (words_in (braced_string is)) (inits_rule is cx (frame_of r.0 ∷ []) filled) m
      (runs_whatever r.1 (inits_rule is cx (frame_of r.0 ∷ []) filled r.1) (λ t x. Advances r.1 t (frame_of r.0 ∷ []) filled x) (inits_runs is r.1 cx (frame_of r.0 ∷ []) filled m))) (λ u n y k.
      finishing u.1 records_in (λ records. (passed records cursor, u.0.1)) (λ t x. Advances s t cursor filled x) n
      (λ ty scalar lawful at all. absurd (no_braces cursor ty scalar at h))))

-- ---- the initialiser of an object

-- one that is not by bytes gives values of the object's type
abbrev GivesValues : State → State → QType → Initialised → Type 0
GivesValues s t q o = IsLawfulType s.types.records (type_of q) → AreTypedAs t (type_of q) o.filled.parts

object_string_runs : (s : State) (cx : Context) (q : QType) (ws : List Word) → IsLawful s → Runs s (object_string cx q ws s) Nothing
unfolding object_string
object_string_runs s cx q ws l =
    goes_on _ _ Nothing Nothing (string_filled_runs s cx ws (target_at q 0) nothing_filled l) (λ r m g h. (m, grows_same r.1, tt))

none_typed : (s : State) (ty : CType) → AreTypedAs s ty []
none_typed s ty i e at = never_some at

object_value_runs : (s : State) (cx : Context) (q : QType) (e : Expr) → IsLawful s → Runs s (object_value cx q e s) (λ t o. GivesValues s t q o)
unfolding object_value
object_value_runs s cx q e l =
    valued _ _ (λ t o. GivesValues s t q o) (expr_post e s l) (λ r m g f.
    goes_on _ _ (λ u more. Fills r.1 u (type_of q) nothing_filled more) (λ t o. GivesValues s t q o) (filled_runs r.1 cx (first_of_expr e) (target_at q 0) r.0 nothing_filled m f) (λ u n y k.
    (n, grows_same u.1, λ lawful. k (lawful_later s.types.records r.1.types.records g.extends (type_of q) lawful) (none_typed r.1 (type_of q)))))

object_list_runs : (s : State) (cx : Context) (q : QType) (is : Inits) → IsLawful s → Runs s (object_list cx q is s) (λ t o. IsScalar (type_of q) → GivesValues s t q o)
unfolding object_list
object_list_runs s cx q is l =
    goes_on _ _ (λ t r. Advances s t (frame_of (target_at q 0) ∷ []) nothing_filled r) (λ t o. IsScalar (type_of q) → GivesValues s t q o) (inits_runs is s cx (frame_of (target_at q 0) ∷ []) nothing_filled l) (λ r m g h.
    (m, grows_same r.1, λ scalar lawful. (h (type_of q) scalar lawful refl (none_typed s (type_of q))).1))

fills_no_scalar : (ty : CType) (form : StringForm) → IsScalar ty → fills_characters ty form ≡ false
fills_no_scalar ty IsOther h = refl
fills_no_scalar ty (IsString ws) h = no_characters ty h

pub object_runs : (s : State) (cx : Context) (q : QType) (i : Init) → IsLawful s → Runs s (object_rule cx q i s) (λ t o. is_by_bytes (type_of q) i ≡ false → GivesValues s t q o)
unfolding object_rule object_by
object_runs s cx q (S.Value e) l = by (fills_characters (type_of q) (string_form e)) refl
  where
    by : (b : Bool) → fills_characters (type_of q) (string_form e) ≡ b
        → Runs s (object_by b cx q (words_in (string_form e)) (object_value cx q e) s) (λ t o. fills_characters (type_of q) (string_form e) ≡ false → GivesValues s t q o)
    by true h =
        post_weaken (object_string cx q (words_in (string_form e)) s) (λ r. IsLawful r.1 × Grows s r.1 × Unit {0})
        (λ r. IsLawful r.1 × Grows s r.1 × (fills_characters (type_of q) (string_form e) ≡ false → GivesValues s r.1 q r.0)) (object_string_runs s cx q (words_in (string_form e)) l)
        (λ r g. (g.0, g.1, λ f. no (sym f ∙ h)))
    by false h =
        post_weaken (object_value cx q e s) (λ r. IsLawful r.1 × Grows s r.1 × GivesValues s r.1 q r.0)
        (λ r. IsLawful r.1 × Grows s r.1 × (fills_characters (type_of q) (string_form e) ≡ false → GivesValues s r.1 q r.0)) (object_value_runs s cx q e l)
        (λ r g. (g.0, g.1, λ f. g.2))
object_runs s cx q (S.Braces token is trailing) l = by (fills_characters (type_of q) (braced_string is)) refl
  where
    scalar : not (is_scalar (type_of q)) ≡ false → IsScalar (type_of q)
    scalar f = scalar_is (type_of q) (truth (is_scalar (type_of q)) f)

    by : (b : Bool) → fills_characters (type_of q) (braced_string is) ≡ b
        → Runs s (object_by b cx q (words_in (braced_string is)) (object_list cx q is) s) (λ t o. not (is_scalar (type_of q)) ≡ false → GivesValues s t q o)
    by true h =
        post_weaken (object_string cx q (words_in (braced_string is)) s) (λ r. IsLawful r.1 × Grows s r.1 × Unit {0})
        (λ r. IsLawful r.1 × Grows s r.1 × (not (is_scalar (type_of q)) ≡ false → GivesValues s r.1 q r.0)) (object_string_runs s cx q (words_in (braced_string is)) l)
        (λ r g. (g.0, g.1, λ f. no (sym (fills_no_scalar (type_of q) (braced_string is) (scalar f)) ∙ h)))
    by false h =
        post_weaken (object_list cx q is s) (λ r. IsLawful r.1 × Grows s r.1 × (IsScalar (type_of q) → GivesValues s r.1 q r.0))
        (λ r. IsLawful r.1 × Grows s r.1 × (not (is_scalar (type_of q)) ≡ false → GivesValues s r.1 q r.0)) (object_list_runs s cx q is l)
        (λ r g. (g.0, g.1, λ f. g.2 (scalar f)))
