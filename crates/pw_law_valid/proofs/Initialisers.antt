-- Initialisers make no more objects without a name than they have tokens.
use Rattle.std.specs.Prelude.{ℕ, suc, ◌≡◌, ◌≤◌, Bool, true, false, List, [], ◌∷◌, length, refl}
use Rattle.std.proofs.Common.{arith}
use Rattle.pw_tree.specs.FirstTokens.{first_of_expr}
use Rattle.pw_tree.specs.Spelling.{trailed, spell_strings, spell_expr, spell_init, spell_inits}
use Rattle.pw_tree.specs.Symbols.{Symbol}
use Rattle.pw_tree.specs.Trees.{Expr, Word, Init, Inits}
use Rattle.pw_tree.specs.Trees as S
use Rattle.pw_types.specs.TypeTrees.{CType, QType, type_of}
use Rattle.pw_check_walk.specs.Walks.{Walk, bind}
use Rattle.pw_check_rules.specs.Initialisers.{Context, Filled, Cursor, Target, Initialised, StringForm, IsString, IsOther, string_form, braced_string, words_in, target_at, frame_of, nothing_filled, string_filled, listed_expression, listed_by, listed_form, meets_characters, braced_by, inits_rule, init_rule, object_string, object_value, object_list, object_by, object_rule, fills_characters}
use Rattle.pw_check_rules.specs.States.{State, Rule, records_in, next_hidden}
use Rattle.pw_law_checked.proofs.Walking.{Post}
use Rattle.pw_law_checked.proofs.Still.{Still, braced_target_still, listed_string_still, listed_value_still, string_filled_still, value_filled_still}
use Rattle.pw_law_valid.proofs.Spending.{Spends, stays, then_spends, still_spends, wider_spends, token_before, token_behind, with_lead, item_before, no_item}
use Rattle.pw_law_valid.proofs.Phrases.{strings_longer, valued_spends, expr_spends}

-- ---- string literals that stand for the bytes of an array

no_string : {P : Type 0} (ws : List Word) → IsOther ≡ IsString ws → P
no_string ws e = absurd (none e)
  where
    none : IsOther ≡ IsString ws → ⊥
    none f = cc

string_longer : (e : Expr) (ws : List Word) (z : List Symbol) → string_form e ≡ IsString ws → length z ≤ suc (length (spell_expr e z))
unfolding spell_expr
string_longer (S.Strings vs) ws z e = let h : length z ≤ length (spell_strings vs z) = strings_longer vs z in omega (arith, h)
string_longer (S.Identifier w) ws z e = no_string ws e
string_longer (S.Number w) ws z e = no_string ws e
string_longer (S.Floating w) ws z e = no_string ws e
string_longer (S.Character w) ws z e = no_string ws e
string_longer (S.Wide w) ws z e = no_string ws e
string_longer (S.Paren t a) ws z e = no_string ws e
string_longer (S.Postfix a rest) ws z e = no_string ws e
string_longer (S.Unary t op a) ws z e = no_string ws e
string_longer (S.SizeofType t specifiers d) ws z e = no_string ws e
string_longer (S.Cast t specifiers d a) ws z e = no_string ws e
string_longer (S.Chain a rest) ws z e = no_string ws e
string_longer (S.Conditional t c a b) ws z e = no_string ws e
string_longer (S.Assign t op a b) ws z e = no_string ws e

braced_longer : (is : Inits) (ws : List Word) (z : List Symbol) → braced_string is ≡ IsString ws → length z ≤ suc (length (spell_inits true is z))
unfolding spell_inits
braced_longer S.NoInit ws z e = no_string ws e
braced_longer (S.Listed (S.Value a) S.NoInit) ws z e = string_longer a ws z e
braced_longer (S.Listed (S.Value a) (S.Listed i rest)) ws z e = no_string ws e
braced_longer (S.Listed (S.Braces t is trailing) rest) ws z e = no_string ws e

fills_string : (ty : CType) (form : StringForm) → fills_characters ty form ≡ true → (ws : List Word) × (form ≡ IsString ws)
fills_string ty IsOther e = absurd cc
fills_string ty (IsString ws) e = (ws, refl)

-- a rule that only asks, of a phrase with tokens
asking_spends : {A : Type 0} (before behind : ℕ) (s : State) (w : Walk (A × State)) → behind ≤ before → Post w (Still s) → Post w (Spends before behind s)
asking_spends {A} before behind s w h k = wider_spends behind behind before behind s w (omega (arith, h)) (still_spends behind s w k)

-- ---- lists

listed_expression_spends : (cx : Context) (cursor : Cursor) (filled : Filled) (e : Expr) (z : List Symbol) (s : State) → Post (listed_expression cx cursor filled e s) (Spends (suc (length (spell_expr e z))) (length z) s)
unfolding listed_expression
listed_expression_spends cx cursor filled e z s = valued_spends _ _ _ s _ _ (expr_spends e z s) (λ r. still_spends _ r.1 _ (listed_value_still cx cursor filled (first_of_expr e) r.0 r.1))

listed_by_spends : (whole : Bool) (cx : Context) (cursor : Cursor) (filled : Filled) (e : Expr) (ws : List Word) (z : List Symbol) (s : State) → string_form e ≡ IsString ws
    → Post (listed_by whole cx cursor filled e ws s) (Spends (suc (length (spell_expr e z))) (length z) s)
unfolding listed_by
listed_by_spends true cx cursor filled e ws z s is = asking_spends _ _ s _ (string_longer e ws z is) (listed_string_still cx cursor filled ws s)
listed_by_spends false cx cursor filled e ws z s is = listed_expression_spends cx cursor filled e z s

listed_form_spends : (cx : Context) (cursor : Cursor) (filled : Filled) (e : Expr) (form : StringForm) (z : List Symbol) (s : State) → string_form e ≡ form
    → Post (listed_form cx cursor filled e form s) (Spends (suc (length (spell_expr e z))) (length z) s)
unfolding listed_form bind
listed_form_spends cx cursor filled e IsOther z s is = listed_expression_spends cx cursor filled e z s
listed_form_spends cx cursor filled e (IsString ws) z s is = listed_by_spends (meets_characters (records_in s) cursor) cx cursor filled e ws z s is

braced_by_spends : (before behind : ℕ) (b : Bool) (cx : Context) (t : Target) (filled : Filled) (ws : List Word) (within : Rule (Cursor × Filled)) (s : State) → (b ≡ true → behind ≤ before)
    → Post (within s) (Spends before behind s) → Post (braced_by b cx t filled ws within s) (Spends before behind s)
unfolding braced_by
braced_by_spends before behind true cx t filled ws within s h k =
    then_spends before behind behind s (string_filled cx ws t filled s) _ (asking_spends before behind s _ (h refl) (string_filled_still cx ws t filled s)) (λ r. stays (next_hidden r.1) behind)
braced_by_spends _ _ false cx t filled ws within s h k = k

-- the end of a list in braces
braces_behind : {A : Type 0} (before : ℕ) (comma : Bool) (x : Symbol) (z : List Symbol) (s : State) (w : Walk (A × State)) → Post w (Spends before (length (trailed comma (x ∷ z))) s) → Post w (Spends before (length z) s)
braces_behind {A} before true x z s w h = token_behind before (length z) s w (token_behind before (suc (length z)) s w h)
braces_behind {A} before false x z s w h = token_behind before (length z) s w h

-- where a list is one string for an array of characters, it has tokens
list_longer : (ty : CType) (is : Inits) (z : List Symbol) → fills_characters ty (braced_string is) ≡ true → length z ≤ suc (length (spell_inits true is z))
list_longer ty is z e = let r = fills_string ty (braced_string is) e in braced_longer is r.0 z r.1

mutual
  unfolding inits_rule spell_init

  inits_spends : (first : Bool) (is : Inits) (z : List Symbol) (cx : Context) (cursor : Cursor) (filled : Filled) (s : State) → Post (inits_rule is cx cursor filled s) (Spends (with_lead first (length (spell_inits first is z))) (length z) s)
  inits_spends first S.NoInit z cx cursor filled s = no_item first (next_hidden s) (length z)
  inits_spends first (S.Listed i rest) z cx cursor filled s = item_before _ first _ s _ (then_spends _ _ _ s _ _ (init_spends i _ cx cursor filled s) (λ r. inits_spends false rest z cx r.0.0 r.0.1 r.1))

  init_spends : (i : Init) (z : List Symbol) (cx : Context) (cursor : Cursor) (filled : Filled) (s : State) → Post (init_rule i cx cursor filled s) (Spends (suc (length (spell_init i z))) (length z) s)
  init_spends (S.Value e) z cx cursor filled s = listed_form_spends cx cursor filled e (string_form e) z s refl
  init_spends (S.Braces token is trailing) z cx cursor filled s =
      token_before _ _ s _ (braces_behind _ trailing _ z s _ (
      then_spends _ _ _ s _ _ (still_spends _ s _ (braced_target_still cx cursor s)) (λ t.
      then_spends _ _ _ t.1 _ _
      (braced_by_spends _ _ (fills_characters (type_of t.0.ty) (braced_string is)) cx t.0 filled (words_in (braced_string is)) (inits_rule is cx (frame_of t.0 ∷ []) filled) t.1
      (list_longer (type_of t.0.ty) is _) (inits_spends true is _ cx (frame_of t.0 ∷ []) filled t.1)) (λ r. then_spends _ _ _ r.1 _ _ (stays (next_hidden r.1) _) (λ u. stays (next_hidden u.1) _)))))

-- ---- the initialiser of an object

object_by_spends : (before behind : ℕ) (b : Bool) (cx : Context) (q : QType) (ws : List Word) (other : Rule Initialised) (s : State) → (b ≡ true → behind ≤ before) → Post (other s) (Spends before behind s) → Post (object_by b cx q ws other s) (Spends before behind s)
unfolding object_by object_string
object_by_spends before behind true cx q ws other s h k =
    then_spends before behind behind s _ _ (asking_spends before behind s _ (h refl) (string_filled_still cx ws (target_at q 0) nothing_filled s)) (λ r. stays (next_hidden r.1) behind)
object_by_spends _ _ false cx q ws other s h k = k

object_value_spends : (cx : Context) (q : QType) (e : Expr) (z : List Symbol) (s : State) → Post (object_value cx q e s) (Spends (suc (length (spell_expr e z))) (length z) s)
unfolding object_value
object_value_spends cx q e z s =
    valued_spends _ _ _ s _ _ (expr_spends e z s) (λ r. then_spends _ _ _ r.1 _ _ (still_spends _ r.1 _ (value_filled_still cx (first_of_expr e) (target_at q 0) r.0 nothing_filled r.1)) (λ u. stays (next_hidden u.1) (length z)))

object_list_spends : (cx : Context) (q : QType) (is : Inits) (z : List Symbol) (s : State) → Post (object_list cx q is s) (Spends (suc (length (spell_inits true is z))) (length z) s)
unfolding object_list
object_list_spends cx q is z s = then_spends _ _ _ s _ _ (inits_spends true is z cx (frame_of (target_at q 0) ∷ []) nothing_filled s) (λ r. stays (next_hidden r.1) (length z))

value_longer : (ty : CType) (e : Expr) (z : List Symbol) → fills_characters ty (string_form e) ≡ true → length z ≤ suc (length (spell_expr e z))
value_longer ty e z is = let r = fills_string ty (string_form e) is in string_longer e r.0 z r.1

pub object_spends : (cx : Context) (q : QType) (i : Init) (z : List Symbol) (s : State) → Post (object_rule cx q i s) (Spends (suc (length (spell_init i z))) (length z) s)
unfolding object_rule spell_init
object_spends cx q (S.Value e) z s =
    object_by_spends _ _ (fills_characters (type_of q) (string_form e)) cx q (words_in (string_form e)) (object_value cx q e) s (value_longer (type_of q) e z) (object_value_spends cx q e z s)
object_spends cx q (S.Braces token is trailing) z s =
    token_before _ _ s _ (braces_behind _ trailing _ z s _ (
    object_by_spends _ _ (fills_characters (type_of q) (braced_string is)) cx q (words_in (braced_string is)) (object_list cx q is) s (list_longer (type_of q) is _) (object_list_spends cx q is _ s)))
