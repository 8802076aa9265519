-- The items of initialisers: their bytes are bytes, and their addresses are of what is known.
use Rattle.std.specs.Prelude.{ℕ, ◌≡◌, ◌⊎◌, Bool, true, false, Option, None, Some, option_map, List, [], ◌∷◌, ◌++◌, slice_get, if◌then◌else◌, refl}
use Rattle.std.proofs.Common.{subst, inl, inr}
use Rattle.pw_check_literals.specs.Characters.{characters_of_strings, string_bytes_of}
use Rattle.pw_tree.specs.FirstTokens.{first_of_expr}
use Rattle.pw_tree.specs.Trees.{Word, Expr, Init, Inits}
use Rattle.pw_tree.specs.Trees as S
use Rattle.pw_types.specs.TypeTrees.{CType, Void, Int, Pointer, Function, Record, Array, QType, type_of, RecordValue}
use Rattle.pw_types.specs.TypedTrees.{Expression, ItemValue, ItemBytes, ItemAddress, PlacedItem}
use Rattle.pw_check_walk.specs.Causes.{InitialiserCount, InitialiserForm, needs}
use Rattle.pw_check_walk.specs.Walks.{Walk, Done, bind, granted}
use Rattle.pw_check_rules.specs.Constants.{Place, is_null_pointer, address_of}
use Rattle.pw_check_rules.specs.Initialisers.{Context, Filled, Cursor, Target, Reached, target_at, frame_of, nothing_filled, item_of, item_list, bytes_within, word_bytes, address_item, value_filled, string_filled, listed_value, listed_string, listed_expression, listed_by, listed_form, StringForm, IsString, IsOther, string_form, braced_string, braced_target, braced_by, fills_characters, words_in, meets_characters, takes_record, takes_braces, next_target, reach, inits_rule, init_rule, Initialised, passed, object_string, object_value, object_list, object_by, object_rule}
use Rattle.pw_check_rules.specs.Kinds.{is_character_array}
use Rattle.pw_check_rules.specs.Leaves.{string_point, texts_of}
use Rattle.pw_check_rules.specs.Operands.{cast_to}
use Rattle.pw_check_rules.specs.Operators.{value_rule}
use Rattle.pw_check_rules.specs.Phrases.{expr_rule}
use Rattle.pw_check_rules.specs.States.{State, Rule, records_in}
use Rattle.pw_law_checked.specs.Lawful.{IsLawful}
use Rattle.pw_law_checked.proofs.Walking.{post_bind, post_weaken, truth}
use Rattle.pw_law_checked.proofs.Lists.{some_same, never_some, get_either, get_one}
use Rattle.pw_law_checked.proofs.States.{Runs, goes_on, Grows, grows_same, grows_trans}
use Rattle.pw_law_checked.proofs.Phrases.{expr_post}
use Rattle.pw_law_checked.proofs.ItemBytes.{IsByte, HasBytes, scalar_bytes, string_small, within_small}
use Rattle.pw_law_checked.proofs.Symbols.{HasHere, PlaceHere, symbol_later, cast_here, IsCounted, counted_later, Whole, WholeValue, whole, value_whole, expr_here, place_here}
use Rattle.pw_check_rules.specs.Constants.{AsAddress}
use Rattle.pw_law_checked.proofs.Settled.{IsKnownItem, AreKnownItems, inside_later}

item_later : (s t : State) → Grows s t → (item : ItemValue) → IsKnownItem s item → IsKnownItem t item
item_later s t g (ItemBytes bytes) h = h
item_later s t g (ItemAddress symbol offset) h = (h.0, symbol_later {s = s} {t = t} g symbol h.0 h.1, inside_later s.types.records t.types.records g.extends h.0 offset h.2)

pub known_later : (s t : State) (items : List PlacedItem) → Grows s t → AreKnownItems s items → AreKnownItems t items
known_later s t items g h i p e = item_later s t g p.item (h i p e)

known_more : (s : State) (items : List PlacedItem) (offset : ℕ) (item : Option ItemValue) → AreKnownItems s items → ((x : ItemValue) → item ≡ Some x → IsKnownItem s x) → AreKnownItems s (items ++ item_list offset item)
known_more s items offset None h k i p e = by (get_either items [] i p e)
  where
    by : (slice_get items i ≡ Some p) ⊎ ((j : ℕ) × (slice_get [] j ≡ Some p)) → IsKnownItem s p.item
    by (inl f) = h i p f
    by (inr f) = never_some f.1
known_more s items offset (Some x) h k i p e = by (get_either items (record { offset = offset; item = x } ∷ []) i p e)
  where
    by : (slice_get items i ≡ Some p) ⊎ ((j : ℕ) × (slice_get (record { offset = offset; item = x } ∷ []) j ≡ Some p)) → IsKnownItem s p.item
    by (inl f) = h i p f
    by (inr f) = subst (λ (y : PlacedItem). IsKnownItem s y.item) (get_one (record { offset = offset; item = x }) f.0 p f.1) (k x refl)

of_bytes : (s : State) (ty : CType) (e : Expression) (item : ItemValue) → HasHere s e → item_of (records_in s) ty e ≡ Some item → IsKnownItem s item
of_bytes s (Int kind) e item h eq = by (Rattle.pw_check_rules.specs.Constants.constant_value e) eq
  where
    by : (o : Option ℕ) → option_map (λ n. ItemBytes (word_bytes (Rattle.pw_types.specs.Conversions.size_of_kind kind) n)) o ≡ Some item → IsKnownItem s item
    by None k = never_some k
    by (Some n) k = subst (IsKnownItem s) (some_same k) (Rattle.pw_law_checked.proofs.ItemBytes.word_small (Rattle.pw_types.specs.Conversions.size_of_kind kind) n)
of_bytes s (Pointer q) e item h eq = by (is_null_pointer e) (address_of (records_in s) e) (λ p f. place_here s (records_in s) AsAddress e p h f) eq
  where
    by : (b : Bool) (o : Option Place) → ((p : Place) → o ≡ Some p → PlaceHere s (records_in s) p) → (if b then Some (ItemBytes (word_bytes 4 0)) else option_map address_item o) ≡ Some item → IsKnownItem s item
    by true o g k = subst (IsKnownItem s) (some_same k) (Rattle.pw_law_checked.proofs.ItemBytes.word_small 4 0)
    by false None g k = never_some k
    by false (Some p) g k = let h = g p refl in subst (IsKnownItem s) (some_same k) (h.0, h.1, h.2 p.offset h.3)
of_bytes s Void e item h eq = never_some eq
of_bytes s (Array q n) e item h eq = never_some eq
of_bytes s (Function q ps) e item h eq = never_some eq
of_bytes s (Record n) e item h eq = never_some eq

-- ---- rules

-- what was known before is known behind
abbrev Keeps : State → State → List PlacedItem → List PlacedItem → Type 0
Keeps s t before after = AreKnownItems s before → AreKnownItems t after

filled_known : (s : State) (cx : Context) (first : ℕ) (t : Target) (e : Expression) (filled : Filled) → IsLawful s → HasHere s e → Runs s (value_filled cx first t e filled s) (λ u more. Keeps s u filled.items more.items)
unfolding value_filled bind
filled_known s cx first t e filled l h = λ met. (
  l,
  grows_same s,
  λ all. known_more s filled.items t.offset (item_of (records_in s) (type_of t.ty) (cast_to (type_of t.ty) e)) all
      (λ x f. of_bytes s (type_of t.ty) (cast_to (type_of t.ty) e) x (cast_here s (type_of t.ty) e h) f),
)

string_known : (s : State) (cx : Context) (ws : List Word) (t : Target) (filled : Filled) → IsLawful s → Runs s (string_filled cx ws t filled s) (λ u more. Keeps s u filled.items more.items)
unfolding string_filled string_point bind
string_known s cx ws t filled l = λ met more. (
  l,
  grows_same s,
  λ all. known_more s filled.items t.offset (Some (ItemBytes (bytes_within (type_of t.ty) (string_bytes_of (texts_of ws))))) all
      (λ x f. subst (IsKnownItem s) (some_same f) (within_small (type_of t.ty) (string_bytes_of (texts_of ws)) (string_small (characters_of_strings (texts_of ws)) (truth _ met.0)))),
)

-- the same of a list
abbrev KeepsListed : State → Filled → State → Cursor × Filled → Type 0
KeepsListed s filled t r = Keeps s t filled.items r.1.items

-- through a state between
through : {A : Type 0} (s u : State) (before : List PlacedItem) (w : Walk (A × State)) (items : A → List PlacedItem) → Grows s u → Runs u w (λ t a. Keeps u t before (items a)) → Runs u w (λ t a. Keeps s t before (items a))
through {A} s u before w items g h =
    post_weaken w (λ r. IsLawful r.1 × Grows u r.1 × Keeps u r.1 before (items r.0)) (λ r. IsLawful r.1 × Grows u r.1 × Keeps s r.1 before (items r.0)) h
    (λ r k. (k.0, k.1, λ all. k.2 (known_later s u before g all)))

listed_value_known : (s : State) (cx : Context) (cursor : Cursor) (filled : Filled) (first : ℕ) (e : Expression) → IsLawful s → HasHere s e
    → Runs s (listed_value cx cursor filled first e s) (KeepsListed s filled)
unfolding listed_value bind
listed_value_known s cx cursor filled first e l h = by (reach (records_in s) (takes_record e) cursor)
  where
    by : (o : Option Reached)
        → Runs {A = Cursor × Filled} s (bind (granted InitialiserCount cx.token [] o s) (λ r. bind (value_filled cx first r.0.target e filled r.1) (λ more. Done ((passed (records_in s) r.0.cursor, more.0), more.1)))) (KeepsListed s filled)
    by None = λ met. tt
    by (Some x) = λ met.
        post_bind (value_filled cx first x.target e filled s) (λ more. Done ((passed (records_in s) x.cursor, more.0), more.1)) (λ r. IsLawful r.1 × Grows s r.1 × Keeps s r.1 filled.items r.0.items)
        (λ r. IsLawful r.1 × Grows s r.1 × KeepsListed s filled r.1 r.0) (filled_known s cx first x.target e filled l h) (λ r g. g)

listed_string_known : (s : State) (cx : Context) (cursor : Cursor) (filled : Filled) (ws : List Word) → IsLawful s → Runs s (listed_string cx cursor filled ws s) (KeepsListed s filled)
unfolding listed_string bind
listed_string_known s cx cursor filled ws l = by (reach (records_in s) is_character_array cursor)
  where
    by : (o : Option Reached)
        → Runs {A = Cursor × Filled} s (bind (granted InitialiserCount cx.token [] o s) (λ r. bind (string_filled cx ws r.0.target filled r.1) (λ more. Done ((passed (records_in s) r.0.cursor, more.0), more.1)))) (KeepsListed s filled)
    by None = λ met. tt
    by (Some x) = λ met.
        post_bind (string_filled cx ws x.target filled s) (λ more. Done ((passed (records_in s) x.cursor, more.0), more.1)) (λ r. IsLawful r.1 × Grows s r.1 × Keeps s r.1 filled.items r.0.items)
        (λ r. IsLawful r.1 × Grows s r.1 × KeepsListed s filled r.1 r.0) (string_known s cx ws x.target filled l) (λ r g. g)

-- the value of an expression, and then what it fills
value_known : {B : Type 0} (s : State) (e : Expr) (next : Expression × State → Walk (B × State)) (Good : State → B → Type 0) → IsCounted s
    → ((r : Expression × State) → IsLawful r.1 → Grows s r.1 → HasHere r.1 r.0 → Runs r.1 (next r) Good) → Runs s (bind (expr_rule e s) (λ t. bind (value_rule t.0 t.1) next)) Good
value_known {B} s e next Good c k =
    post_bind (expr_rule e s) (λ t. bind (value_rule t.0 t.1) next) (Whole s) (λ r. IsLawful r.1 × Grows s r.1 × Good r.1 r.0) (whole s (expr_rule e s) (expr_post e s c.lawful) (expr_here e s c)) (λ r g.
    post_bind (value_rule r.0 r.1) next (WholeValue r.1) (λ r. IsLawful r.1 × Grows s r.1 × Good r.1 r.0) (value_whole r.1 r.0 g.0.0 g.0.2 g.1) (λ u f.
    post_weaken (next u) (λ v. IsLawful v.1 × Grows u.1 v.1 × Good v.1 v.0) (λ v. IsLawful v.1 × Grows s v.1 × Good v.1 v.0) (k u f.0.0 (grows_trans g.0.1 f.0.1) f.1)
    (λ v j. (j.0, grows_trans (grows_trans g.0.1 f.0.1) j.1, j.2))))

listed_expression_known : (s : State) (cx : Context) (cursor : Cursor) (filled : Filled) (e : Expr) → IsCounted s → Runs s (listed_expression cx cursor filled e s) (KeepsListed s filled)
unfolding listed_expression
listed_expression_known s cx cursor filled e c =
    value_known s e _ (KeepsListed s filled) c (λ r m g h.
    through s r.1 filled.items (listed_value cx cursor filled (first_of_expr e) r.0 r.1) (λ x. x.1.items) g (listed_value_known r.1 cx cursor filled (first_of_expr e) r.0 m h))

listed_by_known : (s : State) (whole : Bool) (cx : Context) (cursor : Cursor) (filled : Filled) (e : Expr) (ws : List Word) → IsCounted s → Runs s (listed_by whole cx cursor filled e ws s) (KeepsListed s filled)
unfolding listed_by
listed_by_known s true cx cursor filled e ws c = listed_string_known s cx cursor filled ws c.lawful
listed_by_known s false cx cursor filled e ws c = listed_expression_known s cx cursor filled e c

listed_form_known : (s : State) (cx : Context) (cursor : Cursor) (filled : Filled) (e : Expr) (form : StringForm) → IsCounted s → Runs s (listed_form cx cursor filled e form s) (KeepsListed s filled)
unfolding listed_form bind
listed_form_known s cx cursor filled e IsOther c = listed_expression_known s cx cursor filled e c
listed_form_known s cx cursor filled e (IsString ws) c = listed_by_known s (meets_characters (records_in s) cursor) cx cursor filled e ws c

braced_target_known : (s : State) (cx : Context) (cursor : Cursor) → IsLawful s → Runs s (braced_target cx cursor s) (λ u t. Unit {0})
unfolding braced_target bind
braced_target_known s cx cursor l = by (next_target (records_in s) cursor)
  where
    by : (o : Option Target) → Runs s (granted InitialiserCount cx.token (needs InitialiserForm cx.token (takes_braces cursor) ∷ []) o s) (λ u t. Unit {0})
    by None = λ met. tt
    by (Some x) = λ met. (l, grows_same s, tt)

braced_by_known : (s : State) (b : Bool) (cx : Context) (t : Target) (filled : Filled) (ws : List Word) (within : Rule (Cursor × Filled)) → IsLawful s → Runs s (within s) (KeepsListed s filled)
    → Runs s (braced_by b cx t filled ws within s) (KeepsListed s filled)
unfolding braced_by bind
braced_by_known s true cx t filled ws within l h =
    post_bind (string_filled cx ws t filled s) _ (λ r. IsLawful r.1 × Grows s r.1 × Keeps s r.1 filled.items r.0.items) (λ r. IsLawful r.1 × Grows s r.1 × KeepsListed s filled r.1 r.0) (string_known s cx ws t filled l) (λ r g. g)
braced_by_known s false cx t filled ws within l h = h

finished : (s u : State) (filled : Filled) (cursor : Cursor) (x : Cursor × Filled) → IsLawful u → Keeps s u filled.items x.1.items
    → Runs {A = Cursor × Filled} u (bind {A = List RecordValue × State} (Done (records_in u, u)) (λ t. Done ((passed t.0 cursor, x.1), t.1))) (KeepsListed s filled)
unfolding bind
finished s u filled cursor x l h = (l, grows_same u, h)

mutual
  unfolding inits_rule

  inits_known : (is : Inits) (s : State) (cx : Context) (cursor : Cursor) (filled : Filled) → IsCounted s → Runs s (inits_rule is cx cursor filled s) (KeepsListed s filled)
  inits_known S.NoInit s cx cursor filled c = (c.lawful, grows_same s, λ all. all)
  inits_known (S.Listed i rest) s cx cursor filled c =
      goes_on _ _ (KeepsListed s filled) (KeepsListed s filled) (init_known i s cx cursor filled c) (λ r m g h.
      post_weaken (inits_rule rest cx r.0.0 r.0.1 r.1) (λ u. IsLawful u.1 × Grows r.1 u.1 × KeepsListed r.1 r.0.1 u.1 u.0) (λ u. IsLawful u.1 × Grows r.1 u.1 × KeepsListed s filled u.1 u.0)
      (inits_known rest r.1 cx r.0.0 r.0.1 (counted_later {s = s} {t = r.1} m g c)) (λ u k. (k.0, k.1, λ all. k.2 (h all))))

  init_known : (i : Init) (s : State) (cx : Context) (cursor : Cursor) (filled : Filled) → IsCounted s → Runs s (init_rule i cx cursor filled s) (KeepsListed s filled)
  init_known (S.Value e) s cx cursor filled c = listed_form_known s cx cursor filled e (string_form e) c
  init_known (S.Braces token is trailing) s cx cursor filled c =
      goes_on _ _ (λ u t. Unit {0}) (KeepsListed s filled) (braced_target_known s cx cursor c.lawful) (λ r m g h.
      goes_on _ _ (KeepsListed r.1 filled) (KeepsListed s filled)
      (braced_by_known r.1 (fills_characters (type_of r.0.ty) (braced_string is)) cx r.0 filled (words_in (braced_string is)) (inits_rule is cx (frame_of r.0 ∷ []) filled) m
      (inits_known is r.1 cx (frame_of r.0 ∷ []) filled (counted_later {s = s} {t = r.1} m g c))) (λ u n y k.
      finished s u.1 filled cursor u.0 n (λ all. k (known_later s r.1 filled.items g all))))

-- ---- the initialiser of an object

abbrev pub HasKnownItems : State → Initialised → Type 0
HasKnownItems t o = AreKnownItems t o.filled.items

none_known : (s : State) → AreKnownItems s []
none_known s i p e = never_some e

object_string_known : (s : State) (cx : Context) (q : QType) (ws : List Word) → IsCounted s → Runs s (object_string cx q ws s) HasKnownItems
unfolding object_string
object_string_known s cx q ws c =
    goes_on _ _ (λ u more. Keeps s u [] more.items) HasKnownItems (string_known s cx ws (target_at q 0) nothing_filled c.lawful) (λ r m g h. (m, grows_same r.1, h (none_known s)))

object_value_known : (s : State) (cx : Context) (q : QType) (e : Expr) → IsCounted s → Runs s (object_value cx q e s) HasKnownItems
unfolding object_value
object_value_known s cx q e c =
    value_known s e _ HasKnownItems c (λ r m g h.
    goes_on _ _ (λ u more. Keeps r.1 u [] more.items) HasKnownItems (filled_known r.1 cx (first_of_expr e) (target_at q 0) r.0 nothing_filled m h) (λ u n y k. (n, grows_same u.1, k (none_known r.1))))

object_list_known : (s : State) (cx : Context) (q : QType) (is : Inits) → IsCounted s → Runs s (object_list cx q is s) HasKnownItems
unfolding object_list
object_list_known s cx q is c =
    goes_on _ _ (KeepsListed s nothing_filled) HasKnownItems (inits_known is s cx (frame_of (target_at q 0) ∷ []) nothing_filled c) (λ r m g h. (m, grows_same r.1, h (none_known s)))

object_by_known : (s : State) (b : Bool) (cx : Context) (q : QType) (ws : List Word) (otherwise : Rule Initialised) → IsCounted s → Runs s (otherwise s) HasKnownItems → Runs s (object_by b cx q ws otherwise s) HasKnownItems
unfolding object_by
object_by_known s true cx q ws otherwise c h = object_string_known s cx q ws c
object_by_known s false cx q ws otherwise c h = h

-- the items of an object are known behind its initialiser
pub object_known : (s : State) (cx : Context) (q : QType) (i : Init) → IsCounted s → Runs s (object_rule cx q i s) HasKnownItems
unfolding object_rule
object_known s cx q (S.Value e) c =
    object_by_known s (fills_characters (type_of q) (string_form e)) cx q (words_in (string_form e)) (object_value cx q e) c (object_value_known s cx q e c)
object_known s cx q (S.Braces token is trailing) c =
    object_by_known s (fills_characters (type_of q) (braced_string is)) cx q (words_in (braced_string is)) (object_list cx q is) c (object_list_known s cx q is c)
