-- Initialisers: they leave a lawful state, and an object of a type that an object can have.
use Rattle.pw_law_checked.proofs.Walking.{truth}
use Rattle.std.proofs.Common.{sym, subst}
use Rattle.pw_law_checked.proofs.Lists.{never_some}
use Rattle.pw_law_checked.proofs.Composite.{Covers, covers_same, covers_trans}
use Rattle.std.specs.Prelude.{ℕ, Bool, true, false, None, Some, List, [], ◌∷◌, length, refl, not, ◌≡◌}
use Rattle.pw_check_literals.specs.Characters.{string_bytes_of}
use Rattle.pw_tree.specs.FirstTokens.{first_of_expr}
use Rattle.pw_tree.specs.Trees.{Word, Expr, Init, Inits}
use Rattle.pw_tree.specs.Trees as S
use Rattle.pw_types.specs.TypeTrees.{Void, Int, Pointer, Function, Record, Array, QType, Qualified, type_of, RecordValue, CType}
use Rattle.pw_types.specs.TypedTrees.{Expression}
use Rattle.pw_check_walk.specs.Causes.{InitialiserCount}
use Rattle.pw_check_walk.specs.Walks.{Walk, Done, bind, granted}
use Rattle.pw_check_rules.specs.Initialisers.{Context, Filled, Cursor, Target, target_at, frame_of, nothing_filled, value_filled, string_filled, listed_value, listed_string, listed_expression, listed_by, listed_form, StringForm, IsString, IsOther, string_form, braced_string, braced_target, braced_by, fills_characters, words_in, meets_characters, takes_record, reach, inits_rule, init_rule, Initialised, with_length, elements_given, passed, object_string, object_value, object_list, object_by, object_rule, is_by_bytes}
use Rattle.pw_check_rules.specs.Kinds.{is_character_array, is_array, is_scalar}
use Rattle.pw_check_rules.specs.Leaves.{string_point, texts_of}
use Rattle.pw_check_rules.specs.Operators.{value_rule}
use Rattle.pw_check_rules.specs.Phrases.{expr_rule}
use Rattle.pw_check_rules.specs.States.{State, Rule, records_in}
use Rattle.pw_law_checked.specs.Lawful.{IsLawful, IsLawfulType, IsObjectLike, Extends}
use Rattle.pw_law_checked.proofs.Types.{lawful_later, no, not_true}
use Rattle.pw_law_checked.proofs.States.{Fine, FineValue}
use Rattle.pw_law_checked.proofs.Conversions.{no_function}
use Rattle.pw_law_checked.proofs.Changes.{like_later}
use Rattle.pw_law_checked.proofs.Operations.{value_runs}
use Rattle.pw_law_checked.proofs.Phrases.{expr_post}
use Rattle.pw_law_checked.proofs.Keeping.{After, after_same, after_trans, Goes, goes_by, of_runs, Anything, granted_goes, weaker}

-- the value of an expression
pub value_goes : {B : Type 0} (s : State) (e : Expr) (next : Expression × State → Walk (B × State)) (Best : State → B → Type 0) → IsLawful s
    → ((r : Expression × State) → IsLawful r.1 → After s r.1 → FineValue r.1 r.0 → Goes r.1 (next r) Best)
    → Goes s (bind (expr_rule e s) (λ t. bind (value_rule t.0 t.1) next)) Best
value_goes {B} s e next Best l k =
    goes_by (expr_rule e s) (λ t. bind (value_rule t.0 t.1) next) Fine Best (of_runs s (expr_rule e s) Fine (expr_post e s l)) (λ r m x f.
    goes_by (value_rule r.0 r.1) next FineValue Best (of_runs r.1 (value_rule r.0 r.1) FineValue (value_runs r.1 r.0 m f)) (λ u n y v. k u n (after_trans x y) v))

filled_goes : (s : State) (cx : Context) (first : ℕ) (t : Target) (e : Expression) (filled : Filled) → IsLawful s → Goes s (value_filled cx first t e filled s) (λ u a. is_array (type_of t.ty) ≡ false)
unfolding value_filled bind
filled_goes s cx first t e filled l = λ met. (l, after_same s, not_true (is_array (type_of t.ty)) (truth _ met.0))

string_goes : (s : State) (cx : Context) (ws : List Word) (t : Target) (filled : Filled) → IsLawful s → Goes s (string_filled cx ws t filled s) Anything
unfolding string_filled string_point bind
string_goes s cx ws t filled l = λ met more. (l, after_same s, tt)

listed_value_goes : (s : State) (cx : Context) (cursor : Cursor) (filled : Filled) (first : ℕ) (e : Expression) → IsLawful s → Goes s (listed_value cx cursor filled first e s) Anything
unfolding listed_value bind
listed_value_goes s cx cursor filled first e l =
    goes_by (granted InitialiserCount cx.token [] (reach (records_in s) (takes_record e) cursor) s) _ Anything Anything
    (granted_goes s InitialiserCount cx.token [] (reach (records_in s) (takes_record e) cursor) l) (λ r m x h.
    goes_by (value_filled cx first r.0.target e filled r.1) _ (λ u a. is_array (type_of r.0.target.ty) ≡ false) Anything (filled_goes r.1 cx first r.0.target e filled m) (λ u n y k. (n, after_same u.1, tt)))

listed_string_goes : (s : State) (cx : Context) (cursor : Cursor) (filled : Filled) (ws : List Word) → IsLawful s → Goes s (listed_string cx cursor filled ws s) Anything
unfolding listed_string bind
listed_string_goes s cx cursor filled ws l =
    goes_by (granted InitialiserCount cx.token [] (reach (records_in s) is_character_array cursor) s) _ Anything Anything
    (granted_goes s InitialiserCount cx.token [] (reach (records_in s) is_character_array cursor) l) (λ r m x h.
    goes_by (string_filled cx ws r.0.target filled r.1) _ Anything Anything (string_goes r.1 cx ws r.0.target filled m) (λ u n y k. (n, after_same u.1, tt)))

listed_expression_goes : (s : State) (cx : Context) (cursor : Cursor) (filled : Filled) (e : Expr) → IsLawful s → Goes s (listed_expression cx cursor filled e s) Anything
unfolding listed_expression
listed_expression_goes s cx cursor filled e l =
    value_goes s e _ Anything l (λ r m x f. listed_value_goes r.1 cx cursor filled (first_of_expr e) r.0 m)

listed_by_goes : (s : State) (whole : Bool) (cx : Context) (cursor : Cursor) (filled : Filled) (e : Expr) (ws : List Word) → IsLawful s → Goes s (listed_by whole cx cursor filled e ws s) Anything
unfolding listed_by
listed_by_goes s true cx cursor filled e ws l = listed_string_goes s cx cursor filled ws l
listed_by_goes s false cx cursor filled e ws l = listed_expression_goes s cx cursor filled e l

listed_form_goes : (s : State) (cx : Context) (cursor : Cursor) (filled : Filled) (e : Expr) (form : StringForm) → IsLawful s → Goes s (listed_form cx cursor filled e form s) Anything
unfolding listed_form bind
listed_form_goes s cx cursor filled e IsOther l = listed_expression_goes s cx cursor filled e l
listed_form_goes s cx cursor filled e (IsString ws) l = listed_by_goes s (meets_characters (records_in s) cursor) cx cursor filled e ws l

braced_target_goes : (s : State) (cx : Context) (cursor : Cursor) → IsLawful s → Goes s (braced_target cx cursor s) Anything
unfolding braced_target bind
braced_target_goes s cx cursor l = granted_goes s InitialiserCount cx.token _ _ l

braced_by_goes : (s : State) (b : Bool) (cx : Context) (t : Target) (filled : Filled) (ws : List Word) (within : Rule (Cursor × Filled)) → IsLawful s → Goes s (within s) Anything
    → Goes s (braced_by b cx t filled ws within s) Anything
unfolding braced_by bind
braced_by_goes s true cx t filled ws within l h =
    goes_by (string_filled cx ws t filled s) _ Anything Anything (string_goes s cx ws t filled l) (λ u n y k. (n, after_same u.1, tt))
braced_by_goes s false cx t filled ws within l h = h

finishing : {A B : Type 0} (s : State) (look : State → A) (make : A → B) → IsLawful s → Goes s (bind {A = A × State} {B = B × State} (Done (look s, s)) (λ t. Done (make t.0, t.1))) Anything
unfolding bind
finishing s look make l = (l, after_same s, tt)

mutual
  unfolding inits_rule

  pub inits_goes : (is : Inits) (s : State) (cx : Context) (cursor : Cursor) (filled : Filled) → IsLawful s → Goes s (inits_rule is cx cursor filled s) Anything
  inits_goes S.NoInit s cx cursor filled l = (l, after_same s, tt)
  inits_goes (S.Listed i rest) s cx cursor filled l =
      goes_by _ _ Anything Anything (init_goes i s cx cursor filled l) (λ r m x h. inits_goes rest r.1 cx r.0.0 r.0.1 m)

  init_goes : (i : Init) (s : State) (cx : Context) (cursor : Cursor) (filled : Filled) → IsLawful s → Goes s (init_rule i cx cursor filled s) Anything
  init_goes (S.Value e) s cx cursor filled l = listed_form_goes s cx cursor filled e (string_form e) l
  init_goes (S.Braces token is trailing) s cx cursor filled l =
      goes_by _ _ Anything Anything (braced_target_goes s cx cursor l) (λ r m x h.
      goes_by _ _ Anything Anything
      (braced_by_goes r.1 (fills_characters (type_of r.0.ty) (braced_string is)) cx r.0 filled (words_in (braced_string is)) (inits_rule is cx (frame_of r.0 ∷ []) filled) m
      (inits_goes is r.1 cx (frame_of r.0 ∷ []) filled m)) (λ u n y k. finishing u.1 records_in (λ records. (passed records cursor, u.0.1)) n))

-- ---- the initialiser of an object

-- what holds of a type when more is known of records, and when it gets its length
pub record Stays (P : List RecordValue → QType → Type 0) : Type 0 where
  pub later : (a b : List RecordValue) (q : QType) → Extends a b → P a q → P b q
  pub lengthened : (r : List RecordValue) (n : ℕ) (q : QType) → P r q → P r (with_length n q)

with_length_like : (r : List RecordValue) (n : ℕ) (q : QType) → IsObjectLike r q → IsObjectLike r (with_length n q)
with_length_like r n (Qualified (Array (Qualified ty d w) None) c v) h = record { lawful = h.lawful; object = no_function (Array (Qualified ty d w) (Some n)) refl }
with_length_like r n (Qualified (Array q (Some k)) c v) h = h
with_length_like r n (Qualified Void c v) h = h
with_length_like r n (Qualified (Int k) c v) h = h
with_length_like r n (Qualified (Pointer q) c v) h = h
with_length_like r n (Qualified (Function q ps) c v) h = h
with_length_like r n (Qualified (Record k) c v) h = h

pub object_stays : Stays IsObjectLike
object_stays = record { later = λ a b q x h. like_later x h; lengthened = with_length_like }

abbrev pub IsLawfully : List RecordValue → QType → Type 0
IsLawfully r q = IsLawfulType r (type_of q)

with_length_lawful : (r : List RecordValue) (n : ℕ) (q : QType) → IsLawfully r q → IsLawfully r (with_length n q)
with_length_lawful r n (Qualified (Array (Qualified ty d w) None) c v) h = h
with_length_lawful r n (Qualified (Array q (Some k)) c v) h = h
with_length_lawful r n (Qualified Void c v) h = h
with_length_lawful r n (Qualified (Int k) c v) h = h
with_length_lawful r n (Qualified (Pointer q) c v) h = h
with_length_lawful r n (Qualified (Function q ps) c v) h = h
with_length_lawful r n (Qualified (Record k) c v) h = h

pub lawful_stays : Stays IsLawfully
lawful_stays = record { later = λ a b q x h. lawful_later a b x (type_of q) h; lengthened = with_length_lawful }

pub covers_length : (n : ℕ) (q : QType) → Covers (with_length n q) q
covers_length n (Qualified (Array (Qualified ty d w) None) c v) = record { stem = λ r. refl; sizes = λ r. refl; array = refl; function = refl; length = λ k e. never_some e }
covers_length n (Qualified (Array q (Some k)) c v) = covers_same (Qualified (Array q (Some k)) c v)
covers_length n (Qualified Void c v) = covers_same (Qualified Void c v)
covers_length n (Qualified (Int k) c v) = covers_same (Qualified (Int k) c v)
covers_length n (Qualified (Pointer q) c v) = covers_same (Qualified (Pointer q) c v)
covers_length n (Qualified (Function q ps) c v) = covers_same (Qualified (Function q ps) c v)
covers_length n (Qualified (Record k) c v) = covers_same (Qualified (Record k) c v)

pub covers_stays : (q : QType) → Stays (λ r t. Covers t q)
covers_stays q = record { later = λ a b t x h. h; lengthened = λ r n t h. covers_trans (covers_length n t) h }

-- what holds of a type as it is declared, and of what an initialiser makes of it
pub record Completes (P Q : List RecordValue → QType → Type 0) : Type 0 where
  pub later : (a b : List RecordValue) (q : QType) → Extends a b → P a q → P b q
  pub lengthened : (r : List RecordValue) (n : ℕ) (q : QType) → P r q → Q r (with_length n q)
  pub valued : (r : List RecordValue) (q : QType) → P r q → is_array (type_of q) ≡ false → Q r q

pub stays_complete : (P : List RecordValue → QType → Type 0) → Stays P → Completes P P
stays_complete P keep = record { later = keep.later; lengthened = keep.lengthened; valued = λ r q h e. h }

abbrev pub Keeps : (List RecordValue → QType → Type 0) → State → Initialised → Type 0
Keeps P s o = P s.types.records o.ty

object_string_goes : (P Q : List RecordValue → QType → Type 0) → Completes P Q → (s : State) (cx : Context) (q : QType) (ws : List Word) → IsLawful s → P s.types.records q → Goes s (object_string cx q ws s) (Keeps Q)
unfolding object_string
object_string_goes P Q keep s cx q ws l h =
    goes_by _ _ Anything (Keeps Q) (string_goes s cx ws (target_at q 0) nothing_filled l) (λ r m x k.
    (m, after_same r.1, keep.lengthened r.1.types.records (length (string_bytes_of (texts_of ws))) q (keep.later s.types.records r.1.types.records q x.extends h)))

object_value_goes : (P Q : List RecordValue → QType → Type 0) → Completes P Q → (s : State) (cx : Context) (q : QType) (e : Expr) → IsLawful s → P s.types.records q → Goes s (object_value cx q e s) (Keeps Q)
unfolding object_value
object_value_goes P Q keep s cx q e l h =
    value_goes s e _ (Keeps Q) l (λ r m x f.
    goes_by _ _ (λ u a. is_array (type_of q) ≡ false) (Keeps Q) (filled_goes r.1 cx (first_of_expr e) (target_at q 0) r.0 nothing_filled m) (λ u n y k.
    (n, after_same u.1, keep.valued u.1.types.records q (keep.later s.types.records u.1.types.records q (after_trans x y).extends h) k)))

object_list_goes : (P Q : List RecordValue → QType → Type 0) → Completes P Q → (s : State) (cx : Context) (q : QType) (is : Inits) → IsLawful s → P s.types.records q → Goes s (object_list cx q is s) (Keeps Q)
unfolding object_list
object_list_goes P Q keep s cx q is l h =
    goes_by _ _ Anything (Keeps Q) (inits_goes is s cx (frame_of (target_at q 0) ∷ []) nothing_filled l) (λ r m x k.
    (m, after_same r.1, keep.lengthened r.1.types.records (elements_given r.0.0) q (keep.later s.types.records r.1.types.records q x.extends h)))

object_by_goes : (Q : List RecordValue → QType → Type 0) (s : State) (b : Bool) (cx : Context) (q : QType) (ws : List Word) (otherwise : Rule Initialised)
    → Goes s (object_string cx q ws s) (Keeps Q) → Goes s (otherwise s) (Keeps Q) → Goes s (object_by b cx q ws otherwise s) (Keeps Q)
unfolding object_by
object_by_goes Q s true cx q ws otherwise h k = h
object_by_goes Q s false cx q ws otherwise h k = k

pub object_gives : (P Q : List RecordValue → QType → Type 0) → Completes P Q → (s : State) (cx : Context) (q : QType) (i : Init) → IsLawful s → P s.types.records q → Goes s (object_rule cx q i s) (Keeps Q)
unfolding object_rule
object_gives P Q keep s cx q (S.Value e) l h =
    object_by_goes Q s (fills_characters (type_of q) (string_form e)) cx q (words_in (string_form e)) (object_value cx q e) (object_string_goes P Q keep s cx q (words_in (string_form e)) l h) (object_value_goes P Q keep s cx q e l h)
object_gives P Q keep s cx q (S.Braces token is trailing) l h =
    object_by_goes Q s (fills_characters (type_of q) (braced_string is)) cx q (words_in (braced_string is)) (object_list cx q is) (object_string_goes P Q keep s cx q (words_in (braced_string is)) l h)
    (object_list_goes P Q keep s cx q is l h)

-- what is known of the object's type is known of the one that it gets
pub object_keeps : (P : List RecordValue → QType → Type 0) → Stays P → (s : State) (cx : Context) (q : QType) (i : Init) → IsLawful s → P s.types.records q → Goes s (object_rule cx q i s) (Keeps P)
object_keeps P keep s cx q i l h = object_gives P P (stays_complete P keep) s cx q i l h

-- an initialiser by one expression is for no array
single_scalar : (ty : CType) → not (is_scalar ty) ≡ false → is_array ty ≡ false
single_scalar (Array q n) e = no (sym e)
single_scalar Void e = refl
single_scalar (Int k) e = refl
single_scalar (Pointer q) e = refl
single_scalar (Function q ps) e = refl
single_scalar (Record n) e = refl

single_value : (s : State) (cx : Context) (q : QType) (e : Expr) → IsLawful s → Goes s (object_value cx q e s) (λ t o. is_array (type_of q) ≡ false)
unfolding object_value
single_value s cx q e l =
    value_goes s e _ (λ t o. is_array (type_of q) ≡ false) l (λ r m x f.
    goes_by _ _ (λ u a. is_array (type_of q) ≡ false) (λ t o. is_array (type_of q) ≡ false) (filled_goes r.1 cx (first_of_expr e) (target_at q 0) r.0 nothing_filled m) (λ u n y k. (n, after_same u.1, k)))

pub single_no_array : (s : State) (cx : Context) (q : QType) (i : Init) → IsLawful s → is_by_bytes (type_of q) i ≡ false → Goes s (object_rule cx q i s) (λ t o. is_array (type_of q) ≡ false)
unfolding object_rule object_by
single_no_array s cx q (S.Value e) l single =
    subst (λ b. Goes s (object_by b cx q (words_in (string_form e)) (object_value cx q e) s) (λ t o. is_array (type_of q) ≡ false)) (sym single) (single_value s cx q e l)
single_no_array s cx q (S.Braces token is trailing) l single =
    weaker s (object_rule cx q (S.Braces token is trailing) s) Anything (λ t o. is_array (type_of q) ≡ false)
    (weaker s (object_rule cx q (S.Braces token is trailing) s) (Keeps (λ r t. Unit {0})) Anything
    (object_keeps (λ r t. Unit {0}) (record { later = λ a b t x h. tt; lengthened = λ r n t h. tt }) s cx q (S.Braces token is trailing) l tt) (λ t a h. tt))
    (λ t a h. single_scalar (type_of q) single)

abbrev pub GoodObject : State → Initialised → Type 0
GoodObject s o = IsObjectLike s.types.records o.ty

pub object_goes : (s : State) (cx : Context) (q : QType) (i : Init) → IsLawful s → IsObjectLike s.types.records q → Goes s (object_rule cx q i s) GoodObject
object_goes s cx q i l h = object_keeps IsObjectLike object_stays s cx q i l h
