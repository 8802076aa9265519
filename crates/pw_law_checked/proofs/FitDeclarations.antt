-- Declarations leave the sizes and alignments of records lawful, and locals have types whose arrays have elements.
use Rattle.std.specs.Prelude.{ℕ, zero, suc, ◌≡◌, ◌<◌, ◌+◌, ◌⊎◌, Bool, true, false, not, ◌||◌, Option, None, Some, is_some, option_and_then, List, [], ◌∷◌, ◌++◌, length, slice_get, if◌then◌else◌, refl, zip, ◌==◌}
use Rattle.std.specs.Option.{option_map_or, option_or}
use Rattle.std.proofs.Common.{arith, sym, subst, ◌∙◌, inl, inr}
use Rattle.pw_check_literals.specs.Characters.{characters_of_strings, string_bytes_of}
use Rattle.pw_tree.specs.FirstTokens.{first_of_expr}
use Rattle.pw_tree.specs.Scopes.{Env, has_type, after_specifiers, after_init, after_initializer, after_name, after_decl}
use Rattle.pw_tree.specs.Trees.{Word, Expr, Init, Inits, Initializer, InitDeclarator, Decl, Specifiers}
use Rattle.pw_tree.specs.Trees as S
use Rattle.pw_tree.specs.WellFormed.{NotEmpty, HasInit, Named, WellFormed, WellFormedInit, WellFormedInits, WellFormedInitializer, WellFormedInitDeclarators, WellFormedSpecifiers, WellFormedDecl, WellFormedDecls}
use Rattle.pw_types.specs.TypeTrees.{CType, Void, Int, Pointer, Array, Function, Record, QType, Qualified, type_of, RecordValue, MemberValue, ContentValue}
use Rattle.pw_types.specs.TypedTrees.{Expression, Initialiser, LocalValue, ItemValue}
use Rattle.pw_check_walk.specs.Walks.{Walk, Done, bind, granted}
use Rattle.pw_check_rules.specs.Declarations.{Sort, ATypedef, AFunction, AGlobal, AnExtern, AStatic, ALocal, sort_of, asking_of, name_rule, name_of, local_of, global_rule, fitting_rule, completed_rule, static_rule, bytes_rule, single_rule, local_initialiser, local_rule, declare_rule, init_declarator_rule, init_declarators_rule, bare_rule, specified_rule, storage_rule, declarators_rule, decl_rule, decls_rule, context_of, hidden_of, is_tentative, declares_something}
use Rattle.pw_check_rules.specs.Derivations.{spot_of}
use Rattle.pw_check_rules.specs.Initialisers.{Context, Filled, Frame, Cursor, Target, Reached, Initialised, StringForm, IsString, IsOther, string_form, braced_string, words_in, target_at, frame_of, one_on, next_part, passed, reached, elements_given, with_length, nothing_filled, value_filled, string_filled, listed_value, listed_string, listed_expression, listed_by, listed_form, meets_characters, takes_braces, braced_target, next_target, braced_by, inits_rule, init_rule, object_string, object_value, object_list, object_by, object_rule, fills_characters, reach, takes_record, is_by_bytes, part_of, is_past_union, member_target, item_of, item_list, bytes_within}
use Rattle.pw_check_rules.specs.Kinds.{is_character_array, is_scalar, is_const_object, plain}
use Rattle.pw_check_rules.specs.Leaves.{texts_of, first_of_list, alone_by, alone_rule, record_kind, new_tag, new_record, reference_by, is_nil, string_point}
use Rattle.pw_check_rules.specs.declared.names.Tag.{Tag}
use Rattle.pw_check_rules.specs.declared.names.Tag.TheVariants as G
use Rattle.pw_types.specs.declared.record.RecordKind.{RecordKind}
use Rattle.pw_check_rules.specs.Limits.{Spot}
use Rattle.pw_check_rules.specs.Linkage.{Asking, AsBefore, note_linked, note_here, linked_before, linked_again, linked_anew, place_for, declare_linked, change_linked, slot_for, has_slot, define_tentatively, define_object, initialise_linked, named_type, type_here, type_now}
use Rattle.pw_check_rules.specs.SpecifierLists.{Specified, nothing_gathered, is_register}
use Rattle.pw_check_rules.specs.declared.names.Entry.{Entry}
use Rattle.pw_check_rules.specs.declared.names.Slot.TheVariants as slot
use Rattle.pw_check_rules.specs.States.{State, Rule, LinkedName, Entity, TypeName, LocalObject, StaticObject, Linked, put_at, put_entity, put_linked, add_linked, add_slot, add_hidden, add_local, enter, linked_at, entry_here, entity_here, records_in, is_file_scope, next_hidden, next_local, tag_here, HiddenObject, put_hidden, entity_at, EnumerationConstant}
use Rattle.pw_law_checked.specs.Lawful.{IsLawful, IsLawfulType, IsObjectLike}
use Rattle.pw_law_checked.proofs.Walking.{Post, post_bind, post_weaken, post_both, post_granted, truth, after_any}
use Rattle.pw_law_checked.proofs.Lists.{some_same, never_some, put_either, get_more}
use Rattle.pw_law_checked.proofs.Types.{lawful_later}
use Rattle.pw_law_checked.proofs.States.{Grows}
use Rattle.pw_law_checked.proofs.Changes.{entered, hidden_added}
use Rattle.pw_law_checked.proofs.Leaves.{GoodType, GoodSpecified, GoodDeclared, built_runs}
use Rattle.pw_law_checked.proofs.Phrases.{declarator_post}
use Rattle.pw_law_checked.proofs.Filling.{object_runs, runs_whatever}
use Rattle.pw_law_checked.proofs.Keeping.{After, Knows, defined_kept, around, place_is}
use Rattle.pw_law_checked.proofs.Declaring.{declared_knows}
use Rattle.pw_law_checked.proofs.Adding.{specified_all}
use Rattle.pw_law_checked.proofs.LabelLaws.{asked_post}
use Rattle.pw_law_checked.proofs.Declarations.{Fits, sort_fits, init_declarator_goes, decl_goes}
use Rattle.pw_check_rules.specs.Operands.{cast_to}
use Rattle.pw_check_rules.specs.Compatible.{composite, composite_type}
use Rattle.pw_types.specs.TypedModules.{item_size}
use Rattle.pw_types.specs.Layouts.{content_at}
use Rattle.pw_types.specs.Conversions.{size_of_kind}
use Rattle.pw_types.specs.declared.kind.IntKind.{IntKind}
use Rattle.pw_types.specs.declared.kind.IntKind.TheVariants as K
use Rattle.pw_law_checked.proofs.Parts.{element_is}
use Rattle.pw_law_checked.proofs.ItemBytes.{scalar_item}
use Rattle.pw_law_checked.proofs.Fits.{IsFit, AreSome, MembersFit, some_append, some_end, some_taken, HasElements}
use Rattle.pw_law_checked.proofs.Still.{declared_storage_still, Still, built_still, specified_still, value_filled_still, string_filled_still, listed_value_still, listed_string_still, braced_target_still, value_still}
use Rattle.pw_law_checked.proofs.FitPhrases.{NameFits, SpecifiersFit, added_solid, Fit, IsFitting, Fitted, fitted_still, then_fit, valued_fit, entered_fit, fit_array, array_parts, DeclaratorFits, built_fit, expr_fit, specifiers_fit, declarator_fit, specified_fit, HaveFitMembers, hidden_more, added_members}

-- ---- initialisers

listed_expression_fit : (env : Env) (cx : Context) (cursor : Cursor) (filled : Filled) (e : Expr) (s : State) → WellFormed env e → IsFitting s → Post (listed_expression cx cursor filled e s) Fitted
unfolding listed_expression
listed_expression_fit env cx cursor filled e s w l = valued_fit _ _ (expr_fit env e s w l) (λ r k. fitted_still r.1 _ k (listed_value_still cx cursor filled (first_of_expr e) r.0 r.1))

listed_by_fit : (env : Env) (whole : Bool) (cx : Context) (cursor : Cursor) (filled : Filled) (e : Expr) (ws : List Word) (s : State) → WellFormed env e → IsFitting s → Post (listed_by whole cx cursor filled e ws s) Fitted
unfolding listed_by
listed_by_fit env true cx cursor filled e ws s w l = fitted_still s (listed_string cx cursor filled ws s) l (listed_string_still cx cursor filled ws s)
listed_by_fit env false cx cursor filled e ws s w l = listed_expression_fit env cx cursor filled e s w l

listed_form_fit : (env : Env) (cx : Context) (cursor : Cursor) (filled : Filled) (e : Expr) (form : StringForm) (s : State) → WellFormed env e → IsFitting s → Post (listed_form cx cursor filled e form s) Fitted
unfolding listed_form bind
listed_form_fit env cx cursor filled e IsOther s w l = listed_expression_fit env cx cursor filled e s w l
listed_form_fit env cx cursor filled e (IsString ws) s w l = listed_by_fit env (meets_characters (records_in s) cursor) cx cursor filled e ws s w l

braced_by_fit : (b : Bool) (cx : Context) (t : Target) (filled : Filled) (ws : List Word) (within : Rule (Cursor × Filled)) (s : State) → IsFitting s → Post (within s) Fitted → Post (braced_by b cx t filled ws within s) Fitted
unfolding braced_by bind
braced_by_fit true cx t filled ws within s l h = then_fit (string_filled cx ws t filled s) _ (fitted_still s (string_filled cx ws t filled s) l (string_filled_still cx ws t filled s)) (λ r k. k)
braced_by_fit false cx t filled ws within s l h = h

mutual
  unfolding inits_rule WellFormedInit

  inits_fit : (env : Env) (is : Inits) (cx : Context) (cursor : Cursor) (filled : Filled) (s : State) → WellFormedInits env is → IsFitting s → Post (inits_rule is cx cursor filled s) Fitted
  inits_fit env S.NoInit cx cursor filled s w l = l
  inits_fit env (S.Listed i rest) cx cursor filled s w l = then_fit _ _ (init_fit env i cx cursor filled s w.0 l) (λ r k. inits_fit (after_init env i) rest cx r.0.0 r.0.1 r.1 w.1 k)

  init_fit : (env : Env) (i : Init) (cx : Context) (cursor : Cursor) (filled : Filled) (s : State) → WellFormedInit env i → IsFitting s → Post (init_rule i cx cursor filled s) Fitted
  init_fit env (S.Value e) cx cursor filled s w l = listed_form_fit env cx cursor filled e (string_form e) s w.1 l
  init_fit env (S.Braces token is trailing) cx cursor filled s w l =
      then_fit _ _ (fitted_still s (braced_target cx cursor s) l (braced_target_still cx cursor s)) (λ t k.
      then_fit _ _
      (braced_by_fit (fills_characters (type_of t.0.ty) (braced_string is)) cx t.0 filled (words_in (braced_string is)) (inits_rule is cx (frame_of t.0 ∷ []) filled) t.1 k
      (inits_fit env is cx (frame_of t.0 ∷ []) filled t.1 w.1 k)) (λ r j. then_fit _ _ j (λ u i. i)))

object_by_fit : (b : Bool) (cx : Context) (q : QType) (ws : List Word) (other : Rule Initialised) (s : State) → IsFitting s → Post (other s) Fitted → Post (object_by b cx q ws other s) Fitted
unfolding object_by object_string
object_by_fit true cx q ws other s l h = then_fit _ _ (fitted_still s (string_filled cx ws (target_at q 0) nothing_filled s) l (string_filled_still cx ws (target_at q 0) nothing_filled s)) (λ r k. k)
object_by_fit false cx q ws other s l h = h

object_value_fit : (env : Env) (cx : Context) (q : QType) (e : Expr) (s : State) → WellFormed env e → IsFitting s → Post (object_value cx q e s) Fitted
unfolding object_value
object_value_fit env cx q e s w l =
    valued_fit _ _ (expr_fit env e s w l) (λ r k. then_fit _ _ (fitted_still r.1 _ k (value_filled_still cx (first_of_expr e) (target_at q 0) r.0 nothing_filled r.1)) (λ u j. j))

object_list_fit : (env : Env) (cx : Context) (q : QType) (is : Inits) (s : State) → WellFormedInits env is → IsFitting s → Post (object_list cx q is s) Fitted
unfolding object_list
object_list_fit env cx q is s w l = then_fit _ _ (inits_fit env is cx (frame_of (target_at q 0) ∷ []) nothing_filled s w l) (λ r k. k)

object_fit : (env : Env) (cx : Context) (q : QType) (i : Init) (s : State) → WellFormedInit env i → IsFitting s → Post (object_rule cx q i s) Fitted
unfolding object_rule WellFormedInit
object_fit env cx q (S.Value e) s w l = object_by_fit (fills_characters (type_of q) (string_form e)) cx q (words_in (string_form e)) (object_value cx q e) s l (object_value_fit env cx q e s w.1 l)
object_fit env cx q (S.Braces token is trailing) s w l = object_by_fit (fills_characters (type_of q) (braced_string is)) cx q (words_in (braced_string is)) (object_list cx q is) s l (object_list_fit env cx q is s w.1 l)

-- ---- how many elements an initialiser gives

passed_given : (r : List RecordValue) (f : Frame) (outer : Cursor) → 0 < elements_given (passed r (f ∷ outer))
unfolding passed
passed_given r f [] = by (is_some (next_part r (one_on f)))
  where
    by : (b : Bool) → 0 < elements_given (if b || true then one_on f ∷ [] else passed r [])
    by true = omega arith
    by false = omega arith
passed_given r f (g ∷ outer) = by (is_some (next_part r (one_on f))) (passed_given r g outer)
  where
    by : (b : Bool) → 0 < elements_given (passed r (g ∷ outer)) → 0 < elements_given (if b || false then one_on f ∷ g ∷ outer else passed r (g ∷ outer))
    by true h = omega arith
    by false h = h

passed_some : (r : List RecordValue) (cursor : Cursor) → NotEmpty cursor → 0 < elements_given (passed r cursor)
passed_some r [] h = absurd h
passed_some r (f ∷ outer) h = passed_given r f outer

cursor_some : (deep : ℕ) (r : List RecordValue) (takes : CType → Bool) (cursor : Cursor) (x : Reached) → reached deep r takes cursor ≡ Some x → NotEmpty x.cursor
unfolding reached
cursor_some zero r takes cursor x e = never_some e
cursor_some (suc deep) r takes [] x e = never_some e
cursor_some (suc deep) r takes (f ∷ outer) x e = by (next_part r f) (λ t g. cursor_some deep r takes (frame_of t ∷ f ∷ outer) x g) e
  where
    by_scalar : (t : Target) (b : Bool) → ((t : Target) → reached deep r takes (frame_of t ∷ f ∷ outer) ≡ Some x → NotEmpty x.cursor) → (if b then Some (record { target = t; cursor = f ∷ outer }) else reached deep r takes (frame_of t ∷ f ∷ outer)) ≡ Some x → NotEmpty x.cursor
    by_scalar t true rest g = subst (λ (y : Reached). NotEmpty y.cursor) (some_same g) tt
    by_scalar t false rest g = rest t g

    by : (o : Option Target) → ((t : Target) → reached deep r takes (frame_of t ∷ f ∷ outer) ≡ Some x → NotEmpty x.cursor) → option_and_then (λ (t : Target). if is_scalar (type_of t.ty) || takes (type_of t.ty) then Some (record { target = t; cursor = f ∷ outer }) else reached deep r takes (frame_of t ∷ f ∷ outer)) o ≡ Some x → NotEmpty x.cursor
    by None rest g = never_some g
    by (Some t) rest g = by_scalar t (is_scalar (type_of t.ty) || takes (type_of t.ty)) rest g

abbrev Given : (Cursor × Filled) × State → Type 0
Given r = 0 < elements_given r.0.0

listed_value_given : (cx : Context) (cursor : Cursor) (filled : Filled) (first : ℕ) (e : Expression) (s : State) → Post (listed_value cx cursor filled first e s) Given
unfolding listed_value bind
listed_value_given cx cursor filled first e s =
    post_bind (granted _ cx.token [] (reach (records_in s) (takes_record e) cursor) s) _ (λ r. NotEmpty r.0.cursor) Given
    (post_granted _ cx.token [] (reach (records_in s) (takes_record e) cursor) s (λ r. NotEmpty r.0.cursor) (λ a g met. cursor_some _ (records_in s) (takes_record e) cursor a g)) (λ r k.
    after_any (value_filled cx first r.0.target e filled r.1) _ Given (λ u. passed_some (records_in s) r.0.cursor k))

listed_string_given : (cx : Context) (cursor : Cursor) (filled : Filled) (ws : List Word) (s : State) → Post (listed_string cx cursor filled ws s) Given
unfolding listed_string bind
listed_string_given cx cursor filled ws s =
    post_bind (granted _ cx.token [] (reach (records_in s) is_character_array cursor) s) _ (λ r. NotEmpty r.0.cursor) Given
    (post_granted _ cx.token [] (reach (records_in s) is_character_array cursor) s (λ r. NotEmpty r.0.cursor) (λ a g met. cursor_some _ (records_in s) is_character_array cursor a g)) (λ r k.
    after_any (string_filled cx ws r.0.target filled r.1) _ Given (λ u. passed_some (records_in s) r.0.cursor k))

listed_expression_given : (cx : Context) (cursor : Cursor) (filled : Filled) (e : Expr) (s : State) → Post (listed_expression cx cursor filled e s) Given
unfolding listed_expression
listed_expression_given cx cursor filled e s = after_any _ _ Given (λ a. after_any _ _ Given (λ x. listed_value_given cx cursor filled (first_of_expr e) x.0 x.1))

listed_by_given : (whole : Bool) (cx : Context) (cursor : Cursor) (filled : Filled) (e : Expr) (ws : List Word) (s : State) → Post (listed_by whole cx cursor filled e ws s) Given
unfolding listed_by
listed_by_given true cx cursor filled e ws s = listed_string_given cx cursor filled ws s
listed_by_given false cx cursor filled e ws s = listed_expression_given cx cursor filled e s

listed_form_given : (cx : Context) (cursor : Cursor) (filled : Filled) (e : Expr) (form : StringForm) (s : State) → Post (listed_form cx cursor filled e form s) Given
unfolding listed_form bind
listed_form_given cx cursor filled e IsOther s = listed_expression_given cx cursor filled e s
listed_form_given cx cursor filled e (IsString ws) s = listed_by_given (meets_characters (records_in s) cursor) cx cursor filled e ws s

braces_some : (cursor : Cursor) → takes_braces cursor ≡ true → NotEmpty cursor
braces_some [] e = Rattle.pw_law_checked.proofs.Types.no e
braces_some (f ∷ outer) e = tt

target_given : (cx : Context) (cursor : Cursor) (s : State) → Post (braced_target cx cursor s) (λ r. NotEmpty cursor)
unfolding braced_target bind
target_given cx cursor s = post_granted _ cx.token _ (next_target (records_in s) cursor) s (λ r. NotEmpty cursor) (λ a g met. braces_some cursor (truth _ met.0))

init_given : (i : Init) (cx : Context) (cursor : Cursor) (filled : Filled) (s : State) → Post (init_rule i cx cursor filled s) Given
unfolding inits_rule
init_given (S.Value e) cx cursor filled s = listed_form_given cx cursor filled e (string_form e) s
init_given (S.Braces token is trailing) cx cursor filled s =
    post_bind _ _ (λ r. NotEmpty cursor) Given (target_given cx cursor s) (λ t k. after_any _ _ Given (λ r. after_any _ _ Given (λ u. passed_some _ cursor k)))

inits_kept : (is : Inits) (cx : Context) (cursor : Cursor) (filled : Filled) (s : State) → 0 < elements_given cursor → Post (inits_rule is cx cursor filled s) Given
unfolding inits_rule
inits_kept S.NoInit cx cursor filled s h = h
inits_kept (S.Listed i rest) cx cursor filled s h = post_bind _ _ Given Given (init_given i cx cursor filled s) (λ r k. inits_kept rest cx r.0.0 r.0.1 r.1 k)

inits_given : (is : Inits) (cx : Context) (cursor : Cursor) (filled : Filled) (s : State) → HasInit is → Post (inits_rule is cx cursor filled s) Given
unfolding inits_rule
inits_given S.NoInit cx cursor filled s has = absurd has
inits_given (S.Listed i rest) cx cursor filled s has = post_bind _ _ Given Given (init_given i cx cursor filled s) (λ r k. inits_kept rest cx r.0.0 r.0.1 r.1 k)

fit_length : (n : ℕ) (q : QType) → 0 < n → IsFit (type_of q) → IsFit (type_of (with_length n q))
fit_length n (Qualified (Array q None) c v) h k = fit_array q (Some n) (array_parts q None k).0 h
fit_length n (Qualified (Array q (Some m)) c v) h k = k
fit_length n (Qualified Void c v) h k = tt
fit_length n (Qualified (Int kind) c v) h k = tt
fit_length n (Qualified (Pointer q) c v) h k = tt
fit_length n (Qualified (Function q ps) c v) h k = tt
fit_length n (Qualified (Record m) c v) h k = tt

some_bytes : (xs : List ℕ) → 0 < length (xs ++ 0 ∷ [])
some_bytes [] = omega arith
some_bytes (x ∷ xs) = let h : 0 < length (xs ++ 0 ∷ []) = some_bytes xs in omega (arith, h)

object_by_type : (b : Bool) (cx : Context) (q : QType) (ws : List Word) (other : Rule Initialised) (s : State) → IsFit (type_of q) → Post (other s) (λ r. IsFit (type_of r.0.ty)) → Post (object_by b cx q ws other s) (λ r. IsFit (type_of r.0.ty))
unfolding object_by object_string
object_by_type true cx q ws other s k h = after_any _ _ (λ r. IsFit (type_of r.0.ty)) (λ r. fit_length (length (string_bytes_of (texts_of ws))) q (some_bytes (characters_of_strings (texts_of ws))) k)
object_by_type false cx q ws other s k h = h

object_value_type : (cx : Context) (q : QType) (e : Expr) (s : State) → IsFit (type_of q) → Post (object_value cx q e s) (λ r. IsFit (type_of r.0.ty))
unfolding object_value
object_value_type cx q e s k = after_any _ _ (λ r. IsFit (type_of r.0.ty)) (λ a. after_any _ _ (λ r. IsFit (type_of r.0.ty)) (λ x. after_any _ _ (λ r. IsFit (type_of r.0.ty)) (λ f. k)))

object_list_type : (cx : Context) (q : QType) (is : Inits) (s : State) → HasInit is → IsFit (type_of q) → Post (object_list cx q is s) (λ r. IsFit (type_of r.0.ty))
unfolding object_list
object_list_type cx q is s has k =
    post_bind _ _ Given (λ r. IsFit (type_of r.0.ty)) (inits_given is cx (frame_of (target_at q 0) ∷ []) nothing_filled s has) (λ r g. fit_length (elements_given r.0.0) q g k)

object_type_fit : (env : Env) (cx : Context) (q : QType) (i : Init) (s : State) → WellFormedInit env i → IsFit (type_of q) → Post (object_rule cx q i s) (λ r. IsFit (type_of r.0.ty))
unfolding object_rule WellFormedInit
object_type_fit env cx q (S.Value e) s w k = object_by_type (fills_characters (type_of q) (string_form e)) cx q (words_in (string_form e)) (object_value cx q e) s k (object_value_type cx q e s k)
object_type_fit env cx q (S.Braces token is trailing) s w k =
    object_by_type (fills_characters (type_of q) (braced_string is)) cx q (words_in (braced_string is)) (object_list cx q is) s k (object_list_type cx q is s w.0 k)

-- ---- the items of initialisers

abbrev CursorFits : Cursor → Type 0
CursorFits [] = Unit {0}
CursorFits (f ∷ outer) = IsFit f.ty × CursorFits outer

zip_member : (ms : List MemberValue) (os : List ℕ) (i : ℕ) (m : MemberValue × ℕ) → slice_get (zip ms os) i ≡ Some m → MembersFit ms → IsFit (type_of m.0.ty)
zip_member [] os i m e h = never_some e
zip_member (x ∷ ms) [] i m e h = never_some e
zip_member (x ∷ ms) (o ∷ os) zero m e h = subst (λ (y : MemberValue × ℕ). IsFit (type_of y.0.ty)) (some_same e) h.0
zip_member (x ∷ ms) (o ∷ os) (suc i) m e h = zip_member ms os i m e h.1

own_part : (ty : CType) (f : Frame) (t : Target) → IsFit ty → (if f.next == 0 then Some (target_at (plain ty) f.offset) else None) ≡ Some t → IsFit (type_of t.ty)
own_part ty f t h e = by (f.next == 0) e
  where
    by : (b : Bool) → (if b then Some (target_at (plain ty) f.offset) else None) ≡ Some t → IsFit (type_of t.ty)
    by true g = subst (λ (y : Target). IsFit (type_of y.ty)) (some_same g) h
    by false g = never_some g

part_fit : (r : List RecordValue) → HaveFitMembers r → (ty : CType) (f : Frame) (t : Target) → IsFit ty → part_of r ty f ≡ Some t → IsFit (type_of t.ty)
part_fit r all (Array q n) f t h e = subst (λ (y : Target). IsFit (type_of y.ty)) (element_is r q n f t e).1 (array_parts q n h).0
part_fit r all (Record n) f t h e = by_union (is_past_union r n f.next) e
  where
    by_pair : (c : ContentValue) (o : Option (MemberValue × ℕ)) → content_at r n ≡ Some c → slice_get (zip c.members c.offsets) f.next ≡ o → Rattle.std.specs.Prelude.option_map (member_target f.offset) o ≡ Some t → IsFit (type_of t.ty)
    by_pair c None d g i = never_some i
    by_pair c (Some m) d g i = subst (λ (y : Target). IsFit (type_of y.ty)) (some_same i) (zip_member c.members c.offsets f.next m g (all n c d))

    by_content : (o : Option ContentValue) → content_at r n ≡ o → Rattle.std.specs.Prelude.option_map (member_target f.offset) (option_and_then (λ (c : ContentValue). slice_get (zip c.members c.offsets) f.next) o) ≡ Some t → IsFit (type_of t.ty)
    by_content None d i = never_some i
    by_content (Some c) d i = by_pair c (slice_get (zip c.members c.offsets) f.next) d refl i

    by_union : (b : Bool) → (if b then None else Rattle.std.specs.Prelude.option_map (member_target f.offset) (option_and_then (λ (c : ContentValue). slice_get (zip c.members c.offsets) f.next) (content_at r n))) ≡ Some t → IsFit (type_of t.ty)
    by_union true i = never_some i
    by_union false i = by_content (content_at r n) refl i
part_fit r all Void f t h e = own_part Void f t tt e
part_fit r all (Int k) f t h e = own_part (Int k) f t tt e
part_fit r all (Pointer q) f t h e = own_part (Pointer q) f t tt e
part_fit r all (Function q ps) f t h e = own_part (Function q ps) f t tt e

passed_fit : (r : List RecordValue) (cursor : Cursor) → CursorFits cursor → CursorFits (passed r cursor)
unfolding passed
passed_fit r [] h = tt
passed_fit r (f ∷ outer) h = by (is_some (next_part r (one_on f)) || is_nil outer) (passed_fit r outer h.1)
  where
    by : (b : Bool) → CursorFits (passed r outer) → CursorFits (if b then one_on f ∷ outer else passed r outer)
    by true k = h
    by false k = k

reached_fit : (deep : ℕ) (r : List RecordValue) (takes : CType → Bool) (cursor : Cursor) (x : Reached) → HaveFitMembers r → CursorFits cursor → reached deep r takes cursor ≡ Some x → IsFit (type_of x.target.ty) × CursorFits x.cursor
unfolding reached
reached_fit zero r takes cursor x all h e = never_some e
reached_fit (suc deep) r takes [] x all h e = never_some e
reached_fit (suc deep) r takes (f ∷ outer) x all h e = by (next_part r f) refl (λ t k g. reached_fit deep r takes (frame_of t ∷ f ∷ outer) x all (k, h) g) e
  where
    by_scalar : (t : Target) (b : Bool) → IsFit (type_of t.ty) → (IsFit (type_of t.ty) → reached deep r takes (frame_of t ∷ f ∷ outer) ≡ Some x → IsFit (type_of x.target.ty) × CursorFits x.cursor)
        → (if b then Some (record { target = t; cursor = f ∷ outer }) else reached deep r takes (frame_of t ∷ f ∷ outer)) ≡ Some x → IsFit (type_of x.target.ty) × CursorFits x.cursor
    by_scalar t true k rest g = subst (λ (y : Reached). IsFit (type_of y.target.ty) × CursorFits y.cursor) (some_same g) (k, h)
    by_scalar t false k rest g = rest k g

    by : (o : Option Target) → next_part r f ≡ o → ((t : Target) → IsFit (type_of t.ty) → reached deep r takes (frame_of t ∷ f ∷ outer) ≡ Some x → IsFit (type_of x.target.ty) × CursorFits x.cursor)
        → option_and_then (λ (t : Target). if is_scalar (type_of t.ty) || takes (type_of t.ty) then Some (record { target = t; cursor = f ∷ outer }) else reached deep r takes (frame_of t ∷ f ∷ outer)) o ≡ Some x → IsFit (type_of x.target.ty) × CursorFits x.cursor
    by None d rest g = never_some g
    by (Some t) d rest g = by_scalar t (is_scalar (type_of t.ty) || takes (type_of t.ty)) (part_fit r all f.ty f t h.0 d) (rest t) g

scalar_some : (r : List RecordValue) (ty : CType) (e : Expression) (item : ItemValue) → item_of r ty e ≡ Some item → 0 < item_size item
scalar_some r (Int k) e item h = subst (λ n. 0 < n) (sym (scalar_item r (Int k) e item h)) (positive k)
  where
    positive : (k : IntKind) → 0 < size_of_kind k
    positive K.Char = omega arith
    positive K.SChar = omega arith
    positive K.UChar = omega arith
    positive K.Short = omega arith
    positive K.UShort = omega arith
    positive K.Int = omega arith
    positive K.UInt = omega arith
    positive K.Long = omega arith
    positive K.ULong = omega arith
scalar_some r (Pointer q) e item h = subst (λ n. 0 < n) (sym (scalar_item r (Pointer q) e item h)) (omega arith)
scalar_some r Void e item h = never_some h
scalar_some r (Array q n) e item h = never_some h
scalar_some r (Function q ps) e item h = never_some h
scalar_some r (Record n) e item h = never_some h

listed_some : (offset : ℕ) (o : Option ItemValue) → ((item : ItemValue) → o ≡ Some item → 0 < item_size item) → AreSome (item_list offset o)
listed_some offset None h = tt
listed_some offset (Some item) h = (h item refl, tt)

value_items : (cx : Context) (first : ℕ) (t : Target) (e : Expression) (filled : Filled) (s : State) → AreSome filled.items → Post (value_filled cx first t e filled s) (λ r. AreSome r.0.items)
unfolding value_filled bind
value_items cx first t e filled s h = λ met.
    some_append filled.items _ h (listed_some t.offset _ (λ item g. scalar_some s.types.records (type_of t.ty) (cast_to (type_of t.ty) e) item g))

within_some : (ty : CType) (bytes : List ℕ) → IsFit ty → 0 < length bytes → 0 < length (bytes_within ty bytes)
within_some (Array q (Some n)) bytes h k = some_taken n bytes (array_parts q (Some n) h).1 k
within_some (Array q None) bytes h k = k
within_some Void bytes h k = k
within_some (Int i) bytes h k = k
within_some (Pointer q) bytes h k = k
within_some (Function q ps) bytes h k = k
within_some (Record n) bytes h k = k

string_items : (cx : Context) (ws : List Word) (t : Target) (filled : Filled) (s : State) → IsFit (type_of t.ty) → AreSome filled.items → Post (string_filled cx ws t filled s) (λ r. AreSome r.0.items)
unfolding string_filled string_point bind
string_items cx ws t filled s fit h = λ met more.
    some_append filled.items _ h (within_some (type_of t.ty) (string_bytes_of (texts_of ws)) fit (some_end (characters_of_strings (texts_of ws)) 0), tt)

abbrev ListItems : (Cursor × Filled) × State → Type 0
ListItems r = CursorFits r.0.0 × AreSome r.0.1.items

listed_value_items : (cx : Context) (cursor : Cursor) (filled : Filled) (first : ℕ) (e : Expression) (s : State) → Fit s → CursorFits cursor → AreSome filled.items → Post (listed_value cx cursor filled first e s) ListItems
unfolding listed_value bind
listed_value_items cx cursor filled first e s fit c h =
    post_bind (granted _ cx.token [] (reach (records_in s) (takes_record e) cursor) s) _ (λ r. IsFit (type_of r.0.target.ty) × CursorFits r.0.cursor) ListItems
    (post_granted _ cx.token [] (reach (records_in s) (takes_record e) cursor) s (λ r. IsFit (type_of r.0.target.ty) × CursorFits r.0.cursor) (λ a g met. reached_fit _ (records_in s) (takes_record e) cursor a fit.members c g)) (λ r k.
    post_bind (value_filled cx first r.0.target e filled r.1) _ (λ u. AreSome u.0.items) ListItems (value_items cx first r.0.target e filled r.1 h) (λ u j. (passed_fit (records_in s) r.0.cursor k.1, j)))

listed_string_items : (cx : Context) (cursor : Cursor) (filled : Filled) (ws : List Word) (s : State) → Fit s → CursorFits cursor → AreSome filled.items → Post (listed_string cx cursor filled ws s) ListItems
unfolding listed_string bind
listed_string_items cx cursor filled ws s fit c h =
    post_bind (granted _ cx.token [] (reach (records_in s) is_character_array cursor) s) _ (λ r. IsFit (type_of r.0.target.ty) × CursorFits r.0.cursor) ListItems
    (post_granted _ cx.token [] (reach (records_in s) is_character_array cursor) s (λ r. IsFit (type_of r.0.target.ty) × CursorFits r.0.cursor) (λ a g met. reached_fit _ (records_in s) is_character_array cursor a fit.members c g)) (λ r k.
    post_bind (string_filled cx ws r.0.target filled r.1) _ (λ u. AreSome u.0.items) ListItems (string_items cx ws r.0.target filled r.1 k.0 h) (λ u j. (passed_fit (records_in s) r.0.cursor k.1, j)))

listed_expression_items : (env : Env) (cx : Context) (cursor : Cursor) (filled : Filled) (e : Expr) (s : State) → WellFormed env e → IsFitting s → CursorFits cursor → AreSome filled.items → Post (listed_expression cx cursor filled e s) ListItems
unfolding listed_expression
listed_expression_items env cx cursor filled e s w l c h =
    post_bind _ _ Fitted ListItems (expr_fit env e s w l) (λ r k.
    post_bind _ _ Fitted ListItems (fitted_still r.1 _ k (value_still r.0 r.1)) (λ u j. listed_value_items cx cursor filled (first_of_expr e) u.0 u.1 j.1 c h))

listed_by_items : (env : Env) (whole : Bool) (cx : Context) (cursor : Cursor) (filled : Filled) (e : Expr) (ws : List Word) (s : State) → WellFormed env e → IsFitting s → CursorFits cursor → AreSome filled.items
    → Post (listed_by whole cx cursor filled e ws s) ListItems
unfolding listed_by
listed_by_items env true cx cursor filled e ws s w l c h = listed_string_items cx cursor filled ws s l.1 c h
listed_by_items env false cx cursor filled e ws s w l c h = listed_expression_items env cx cursor filled e s w l c h

listed_form_items : (env : Env) (cx : Context) (cursor : Cursor) (filled : Filled) (e : Expr) (form : StringForm) (s : State) → WellFormed env e → IsFitting s → CursorFits cursor → AreSome filled.items
    → Post (listed_form cx cursor filled e form s) ListItems
unfolding listed_form bind
listed_form_items env cx cursor filled e IsOther s w l c h = listed_expression_items env cx cursor filled e s w l c h
listed_form_items env cx cursor filled e (IsString ws) s w l c h = listed_by_items env (meets_characters (records_in s) cursor) cx cursor filled e ws s w l c h

target_fit : (r : List RecordValue) (cursor : Cursor) (t : Target) → HaveFitMembers r → CursorFits cursor → next_target r cursor ≡ Some t → IsFit (type_of t.ty)
target_fit r [] t all h e = never_some e
target_fit r (f ∷ outer) t all h e = part_fit r all f.ty f t h.0 e

braced_target_fit : (cx : Context) (cursor : Cursor) (s : State) → Fit s → CursorFits cursor → Post (braced_target cx cursor s) (λ r. IsFit (type_of r.0.ty))
unfolding braced_target bind
braced_target_fit cx cursor s fit c = post_granted _ cx.token _ (next_target (records_in s) cursor) s (λ r. IsFit (type_of r.0.ty)) (λ a g met. target_fit (records_in s) cursor a fit.members c g)

braced_by_items : (b : Bool) (cx : Context) (t : Target) (filled : Filled) (ws : List Word) (within : Rule (Cursor × Filled)) (s : State) → IsFit (type_of t.ty) → AreSome filled.items → Post (within s) ListItems
    → Post (braced_by b cx t filled ws within s) (λ r. AreSome r.0.1.items)
unfolding braced_by bind
braced_by_items true cx t filled ws within s fit h k = post_bind (string_filled cx ws t filled s) _ (λ u. AreSome u.0.items) (λ u. AreSome u.0.1.items) (string_items cx ws t filled s fit h) (λ u j. j)
braced_by_items false cx t filled ws within s fit h k = post_weaken (within s) ListItems (λ u. AreSome u.0.1.items) k (λ u j. j.1)

mutual
  unfolding inits_rule WellFormedInit

  inits_items : (env : Env) (is : Inits) (cx : Context) (cursor : Cursor) (filled : Filled) (s : State) → WellFormedInits env is → IsFitting s → CursorFits cursor → AreSome filled.items → Post (inits_rule is cx cursor filled s) ListItems
  inits_items env S.NoInit cx cursor filled s w l c h = (c, h)
  inits_items env (S.Listed i rest) cx cursor filled s w l c h =
      post_bind _ _ (λ r. Fitted r × ListItems r) ListItems (post_both _ Fitted ListItems (init_fit env i cx cursor filled s w.0 l) (init_items env i cx cursor filled s w.0 l c h)) (λ r k.
      inits_items (after_init env i) rest cx r.0.0 r.0.1 r.1 w.1 k.0 k.1.0 k.1.1)

  init_items : (env : Env) (i : Init) (cx : Context) (cursor : Cursor) (filled : Filled) (s : State) → WellFormedInit env i → IsFitting s → CursorFits cursor → AreSome filled.items → Post (init_rule i cx cursor filled s) ListItems
  init_items env (S.Value e) cx cursor filled s w l c h = listed_form_items env cx cursor filled e (string_form e) s w.1 l c h
  init_items env (S.Braces token is trailing) cx cursor filled s w l c h =
      post_bind _ _ (λ t. Fitted t × IsFit (type_of t.0.ty)) ListItems
      (post_both _ Fitted (λ t. IsFit (type_of t.0.ty)) (fitted_still s (braced_target cx cursor s) l (braced_target_still cx cursor s)) (braced_target_fit cx cursor s l.1 c)) (λ t k.
      post_bind _ _ (λ r. AreSome r.0.1.items) ListItems
      (braced_by_items (fills_characters (type_of t.0.ty) (braced_string is)) cx t.0 filled (words_in (braced_string is)) (inits_rule is cx (frame_of t.0 ∷ []) filled) t.1 k.1 h
      (inits_items env is cx (frame_of t.0 ∷ []) filled t.1 w.1 k.0 (k.1, tt) h)) (λ r j. after_any _ _ ListItems (λ u. (passed_fit _ cursor c, j))))

abbrev ObjectItems : Initialised × State → Type 0
ObjectItems r = AreSome r.0.filled.items

object_by_items : (b : Bool) (cx : Context) (q : QType) (ws : List Word) (other : Rule Initialised) (s : State) → IsFit (type_of q) → Post (other s) ObjectItems → Post (object_by b cx q ws other s) ObjectItems
unfolding object_by object_string
object_by_items true cx q ws other s fit h = post_bind _ _ (λ u. AreSome u.0.items) ObjectItems (string_items cx ws (target_at q 0) nothing_filled s fit tt) (λ u j. j)
object_by_items false cx q ws other s fit h = h

object_value_items : (cx : Context) (q : QType) (e : Expr) (s : State) → Post (object_value cx q e s) ObjectItems
unfolding object_value
object_value_items cx q e s =
    after_any _ _ ObjectItems (λ a. after_any _ _ ObjectItems (λ x. post_bind _ _ (λ u. AreSome u.0.items) ObjectItems (value_items cx (first_of_expr e) (target_at q 0) x.0 nothing_filled x.1 tt) (λ u j. j)))

object_list_items : (env : Env) (cx : Context) (q : QType) (is : Inits) (s : State) → WellFormedInits env is → IsFitting s → IsFit (type_of q) → Post (object_list cx q is s) ObjectItems
unfolding object_list
object_list_items env cx q is s w l fit = post_bind _ _ ListItems ObjectItems (inits_items env is cx (frame_of (target_at q 0) ∷ []) nothing_filled s w l (fit, tt) tt) (λ r j. j.1)

object_items : (env : Env) (cx : Context) (q : QType) (i : Init) (s : State) → WellFormedInit env i → IsFitting s → IsFit (type_of q) → Post (object_rule cx q i s) ObjectItems
unfolding object_rule WellFormedInit
object_items env cx q (S.Value e) s w l fit = object_by_items (fills_characters (type_of q) (string_form e)) cx q (words_in (string_form e)) (object_value cx q e) s fit (object_value_items cx q e s)
object_items env cx q (S.Braces token is trailing) s w l fit =
    object_by_items (fills_characters (type_of q) (braced_string is)) cx q (words_in (braced_string is)) (object_list cx q is) s fit (object_list_items env cx q is s w.1 l fit)

-- ---- locals

abbrev pub LocalsFit : List LocalValue → Type 0
LocalsFit [] = Unit {0}
LocalsFit (l ∷ ls) = IsFit (type_of l.ty) × LocalsFit ls

locals_more : (ls : List LocalValue) (l : LocalValue) → LocalsFit ls → IsFit (type_of l.ty) → LocalsFit (ls ++ l ∷ [])
locals_more [] l h k = (k, tt)
locals_more (x ∷ ls) l h k = (h.0, locals_more ls l h.1 k)

locals_put : (n : ℕ) (l : LocalValue) (ls : List LocalValue) → LocalsFit ls → IsFit (type_of l.ty) → LocalsFit (put_at n l ls)
locals_put n l [] h k = tt
locals_put zero l (x ∷ ls) h k = (k, h.1)
locals_put (suc n) l (x ∷ ls) h k = (h.0, locals_put n l ls h.1 k)

-- what is kept on the way through declarations
abbrev pub Held : State → Type 0
Held s = Fit s × LocalsFit s.body.locals

abbrev pub HeldAt : {A : Type 0} → A × State → Type 0
HeldAt r = Held r.1

put_names : (s : State) (place : ℕ) (x : Entity) → Fit s → NameFits x → Fit (put_entity place x s)
put_names s place x f h = record { members = f.members; items = f.items; objects = f.objects; contents = f.contents; names = λ k e g. by k e g (put_either place x s.scopes.entities k) }
  where
    by : (k : ℕ) (e : Entity) → slice_get (put_at place x s.scopes.entities) k ≡ Some e
        → ((k ≡ place) × (slice_get (put_at place x s.scopes.entities) k ≡ Some x)) ⊎ (slice_get (put_at place x s.scopes.entities) k ≡ slice_get s.scopes.entities k) → NameFits e
    by k e g (inl i) = subst NameFits (some_same (sym i.1 ∙ g)) h
    by k e g (inr i) = f.names k e (sym i ∙ g)

linked_put : (s : State) (place : ℕ) (l : LinkedName) → Fit s → AreSome l.items → Fit (put_linked place l s)
linked_put s place l f some = record { contents = f.contents; names = f.names; members = f.members; objects = f.objects; items = λ i x e. by i x e (put_either place l s.types.linked i) }
  where
    by : (i : ℕ) (x : LinkedName) → slice_get (put_at place l s.types.linked) i ≡ Some x
        → ((i ≡ place) × (slice_get (put_at place l s.types.linked) i ≡ Some l)) ⊎ (slice_get (put_at place l s.types.linked) i ≡ slice_get s.types.linked i) → AreSome x.items
    by i x e (inl k) = subst (λ (y : LinkedName). AreSome y.items) (some_same (sym k.1 ∙ e)) some
    by i x e (inr k) = f.items i x (sym k ∙ e)

hidden_put : (s : State) (place : ℕ) (h : HiddenObject) → Fit s → AreSome h.items → Fit (put_hidden place h s)
hidden_put s place h f some = record { contents = f.contents; names = f.names; members = f.members; items = f.items; objects = λ i x e. by i x e (put_either place h s.made.hidden i) }
  where
    by : (i : ℕ) (x : HiddenObject) → slice_get (put_at place h s.made.hidden) i ≡ Some x
        → ((i ≡ place) × (slice_get (put_at place h s.made.hidden) i ≡ Some h)) ⊎ (slice_get (put_at place h s.made.hidden) i ≡ slice_get s.made.hidden i) → AreSome x.items
    by i x e (inl k) = subst (λ (y : HiddenObject). AreSome y.items) (some_same (sym k.1 ∙ e)) some
    by i x e (inr k) = f.objects i x (sym k ∙ e)

linked_held : (s : State) (name : List ℕ) (internal : Bool) (ty : QType) (token : ℕ) (tag : Option ℕ) → Held s → Held (note_linked name internal ty token tag s)
linked_held s name internal ty token tag h = by (linked_before s name) refl
  where
    more : (i : ℕ) (x : LinkedName) → (slice_get s.types.linked i ≡ Some x) ⊎ ((i ≡ length s.types.linked) × (linked_anew name internal ty token tag ≡ x)) → AreSome x.items
    more i x (inl e) = h.0.items i x e
    more i x (inr e) = subst (λ (y : LinkedName). AreSome y.items) e.1 tt

    by : (o : Option LinkedName) → linked_before s name ≡ o → Held (option_map_or (λ l. put_linked (place_for s name) (linked_again ty l) s) o (add_linked (linked_anew name internal ty token tag) s))
    by None e = (record { contents = h.0.contents; names = h.0.names; members = h.0.members; items = λ i x g. more i x (get_more s.types.linked (linked_anew name internal ty token tag) i x g); objects = h.0.objects }, h.1)
    by (Some l) e = (linked_put s (place_for s name) (linked_again ty l) h.0 (h.0.items (place_for s name) l (place_is s name l e)), h.1)

fit_known : (n m : Option ℕ) → HasElements n → HasElements m → HasElements (option_or n m)
fit_known None m h k = k
fit_known (Some n) m h k = h

mutual
  unfolding composite_type

  fit_composite : (a b : QType) → IsFit (type_of a) → IsFit (type_of b) → IsFit (type_of (composite a b))
  fit_composite (Qualified a c v) (Qualified b d w) h k = fit_composite_type a b h k

  fit_composite_type : (a b : CType) → IsFit a → IsFit b → IsFit (composite_type a b)
  fit_composite_type (Array p n) (Array q m) h k =
      let x = array_parts p n h in let y = array_parts q m k in fit_array (composite p q) (option_or n m) (fit_composite p q x.0 y.0) (fit_known n m x.1 y.1)
  fit_composite_type (Array p n) Void h k = h
  fit_composite_type (Array p n) (Int i) h k = h
  fit_composite_type (Array p n) (Pointer q) h k = h
  fit_composite_type (Array p n) (Function q ps) h k = h
  fit_composite_type (Array p n) (Record i) h k = h
  fit_composite_type (Pointer p) (Pointer q) h k = tt
  fit_composite_type (Pointer p) Void h k = tt
  fit_composite_type (Pointer p) (Int i) h k = tt
  fit_composite_type (Pointer p) (Array q n) h k = tt
  fit_composite_type (Pointer p) (Function q ps) h k = tt
  fit_composite_type (Pointer p) (Record i) h k = tt
  fit_composite_type (Function p ps) (Function q qs) h k = tt
  fit_composite_type (Function p ps) Void h k = tt
  fit_composite_type (Function p ps) (Int i) h k = tt
  fit_composite_type (Function p ps) (Pointer q) h k = tt
  fit_composite_type (Function p ps) (Array q n) h k = tt
  fit_composite_type (Function p ps) (Record i) h k = tt
  fit_composite_type Void b h k = h
  fit_composite_type (Int i) b h k = h
  fit_composite_type (Record i) b h k = h

type_here_fit : (ty : QType) (x : Entity) → IsFit (type_of ty) → NameFits x → IsFit (type_of (type_here ty x))
type_here_fit ty (Linked n before) h k = fit_composite before ty k h
type_here_fit ty (TypeName q) h k = h
type_here_fit ty (EnumerationConstant n) h k = h
type_here_fit ty (LocalObject n q register) h k = h
type_here_fit ty (StaticObject n q) h k = h

type_now_fit : (q : QType) (x : Entity) → IsFit (type_of q) → NameFits x → IsFit (type_of (type_now q x))
type_now_fit q (Linked n ty) h k = k
type_now_fit q (TypeName ty) h k = h
type_now_fit q (EnumerationConstant n) h k = h
type_now_fit q (LocalObject n ty register) h k = h
type_now_fit q (StaticObject n ty) h k = h

entity_fit : (s : State) (name : List ℕ) (x : Entity) → Fit s → entity_here s name ≡ Some x → NameFits x
entity_fit s name x f e = by (entry_here s name) e
  where
    by : (o : Option Entry) → option_and_then (entity_at s) o ≡ Some x → NameFits x
    by None g = never_some g
    by (Some y) g = f.names y.place x g

here_fit : (s : State) (name : List ℕ) (ty : QType) → Fit s → IsFit (type_of ty) → IsFit (type_of (type_here ty (Rattle.std.specs.Prelude.unwrap_or (entity_here s name) (TypeName ty))))
here_fit s name ty f h = by (entity_here s name) refl
  where
    by : (o : Option Entity) → entity_here s name ≡ o → IsFit (type_of (type_here ty (Rattle.std.specs.Prelude.unwrap_or o (TypeName ty))))
    by None e = h
    by (Some x) e = type_here_fit ty x h (entity_fit s name x f e)

named_fit : (s : State) (name : List ℕ) (q : QType) → Fit s → IsFit (type_of q) → IsFit (type_of (named_type s name q))
named_fit s name q f h = by (entity_here s name) refl
  where
    by : (o : Option Entity) → entity_here s name ≡ o → IsFit (type_of (option_map_or (type_now q) o q))
    by None e = h
    by (Some x) e = type_now_fit q x h (entity_fit s name x f e)

here_held : (s : State) (name : List ℕ) (place : ℕ) (ty : QType) → IsFit (type_of ty) → Held s → Held (note_here name place ty s)
here_held s name place ty fit h = by (entry_here s name)
  where
    by : (o : Option Entry) → Held (option_map_or (λ (e : Entry). put_entity e.place (Linked place (type_here ty (Rattle.std.specs.Prelude.unwrap_or (entity_here s name) (TypeName ty)))) s) o (enter name (Linked place ty) s))
    by None = (entered_fit s name (Linked place ty) h.0 fit, h.1)
    by (Some e) = (put_names s e.place (Linked place (type_here ty (Rattle.std.specs.Prelude.unwrap_or (entity_here s name) (TypeName ty)))) h.0 (here_fit s name ty h.0 fit), h.1)

pub change_held : (s : State) (place : ℕ) (f : LinkedName → LinkedName) → ((l : LinkedName) → AreSome l.items → AreSome (f l).items) → Held s → Held (change_linked place f s)
change_held s place f keeps h = by (linked_at s place) refl
  where
    by : (o : Option LinkedName) → linked_at s place ≡ o → Held (option_map_or (λ l. put_linked place (f l) s) o s)
    by None e = h
    by (Some l) e = (linked_put s place (f l) h.0 (keeps l (h.0.items place l e)), h.1)

slot_held : (s : State) (place : ℕ) → Held s → Held (slot_for place s)
slot_held s place h = by (has_slot s place)
  where
    by : (b : Bool) → Held (if b then s else add_slot (slot.Named place) s)
    by true = h
    by false = (record { contents = h.0.contents; names = h.0.names; members = h.0.members; items = h.0.items; objects = h.0.objects }, h.1)

tentative_held : (s : State) (place : ℕ) (b : Bool) → Held s → Held (if b then define_tentatively place s else s)
tentative_held s place true h = change_held (slot_for place s) place (λ l. record l { tentative = true }) (λ l some. some) (slot_held s place h)
tentative_held s place false h = h

pub declare_held : (name : List ℕ) (token : ℕ) (tag : Option ℕ) (asking : Asking) (ty : QType) (s : State) → IsFit (type_of ty) → Held s → Post (declare_linked name token tag asking ty s) HeldAt
unfolding declare_linked bind
declare_held name token tag asking ty s fit h = here_held (note_linked name _ ty token tag s) name (place_for s name) ty fit (linked_held s name _ ty token tag h)

-- an object's initialiser: what is known behind it
abbrev ObjectRead : State → Initialised × State → Type 0
ObjectRead s r = (IsLawful r.1 × Grows s r.1 × Unit {0}) × (Fit r.1 × (IsFit (type_of r.0.ty) × AreSome r.0.filled.items))

object_read : (env : Env) (cx : Context) (q : QType) (i : Init) (s : State) → WellFormedInit env i → IsLawful s → Fit s → IsFit (type_of q) → Post (object_rule cx q i s) (ObjectRead s)
object_read env cx q i s w l f k =
    post_both (object_rule cx q i s) (λ r. IsLawful r.1 × Grows s r.1 × Unit {0}) (λ r. Fit r.1 × (IsFit (type_of r.0.ty) × AreSome r.0.filled.items))
    (runs_whatever s (object_rule cx q i s) _ (object_runs s cx q i l))
    (post_both (object_rule cx q i s) (λ r. Fit r.1) (λ r. IsFit (type_of r.0.ty) × AreSome r.0.filled.items)
    (post_weaken (object_rule cx q i s) Fitted (λ r. Fit r.1) (object_fit env cx q i s w (l, f)) (λ r g. g.1))
    (post_both (object_rule cx q i s) (λ r. IsFit (type_of r.0.ty)) (λ r. AreSome r.0.filled.items) (object_type_fit env cx q i s w k) (object_items env cx q i s w (l, f) k)))

pub body_held : {s t : State} → Grows s t → LocalsFit s.body.locals → LocalsFit t.body.locals
body_held {s} {t} g h = subst (λ b. LocalsFit b.locals) (sym g.body) h

-- ---- what is declared

global_held : (env : Env) (w : Word) (b : Specified) (spot : Spot) (q : QType) (i : Option Initializer) (s : State) → WellFormedInitializer env i → IsLawful s → IsLawfulType s.types.records (type_of q) → IsFit (type_of q)
    → Held s → Post (global_rule w b spot q i s) HeldAt
unfolding global_rule fitting_rule bind
global_held env w b spot q None s good l lawful fit h =
    post_bind (declare_linked w.text w.token b.tag (asking_of AGlobal b) q s) _ HeldAt HeldAt (declare_held w.text w.token b.tag (asking_of AGlobal b) q s fit h) (λ r g. tentative_held r.1 r.0 (is_tentative b) g)
global_held env w b spot q (Some i) s good l lawful fit h =
    post_bind (declare_linked w.text w.token b.tag (asking_of AGlobal b) q s) _ (λ r. (IsLawful r.1 × Knows s r.1) × Held r.1) HeldAt
    (post_both (declare_linked w.text w.token b.tag (asking_of AGlobal b) q s) (λ r. IsLawful r.1 × Knows s r.1) HeldAt (declared_knows s w.text w.token b.tag (asking_of AGlobal b) q l lawful) (declare_held w.text w.token b.tag (asking_of AGlobal b) q s fit h)) (λ r g.
    let held : Held (define_object r.0 r.1) = change_held (slot_for r.0 r.1) r.0 (λ l. record l { defined = true }) (λ l some. some) (slot_held r.1 r.0 g.1) in
    post_bind (object_rule (context_of w true 0) (named_type (define_object r.0 r.1) w.text q) i.init (define_object r.0 r.1)) _ (ObjectRead (define_object r.0 r.1)) HeldAt
    (object_read env (context_of w true 0) (named_type (define_object r.0 r.1) w.text q) i.init (define_object r.0 r.1) good (defined_kept r.1 r.0 g.0.0).0 held.0 (named_fit (define_object r.0 r.1) w.text q held.0 fit)) (λ o j met.
    here_held (initialise_linked r.0 o.0.ty o.0.filled.items o.1) w.text r.0 o.0.ty j.1.1.0
    (change_held o.1 r.0 (λ l. record l { ty = composite l.ty o.0.ty; items = o.0.filled.items }) (λ l some. j.1.1.1) (j.1.0, body_held j.0.1 held.1))))

static_held : (env : Env) (w : Word) (q : QType) (i : Option Initializer) (s : State) → WellFormedInitializer env i → IsLawful s → IsObjectLike s.types.records q → IsFit (type_of q) → Held s → Post (static_rule w q i s) HeldAt
unfolding static_rule completed_rule bind
static_held env w q None s good l like fit h = (
  entered_fit (add_hidden (hidden_of q [] (not (is_const_object q))) s) w.text (StaticObject (next_hidden s) q) (hidden_more s (hidden_of q [] (not (is_const_object q))) h.0 tt) tt,
  h.1,
)
static_held env w q (Some i) s good l like fit h =
    let t : State = enter w.text (StaticObject (next_hidden s) q) (add_hidden (hidden_of q [] (not (is_const_object q))) s) in
    post_bind (object_rule (context_of w true (next_hidden s)) q i.init (enter w.text (StaticObject (next_hidden s) q) (add_hidden (hidden_of q [] (not (is_const_object q))) s))) _
    (ObjectRead (enter w.text (StaticObject (next_hidden s) q) (add_hidden (hidden_of q [] (not (is_const_object q))) s))) HeldAt
    (object_read env (context_of w true (next_hidden s)) q i.init (enter w.text (StaticObject (next_hidden s) q) (add_hidden (hidden_of q [] (not (is_const_object q))) s)) good
    (entered (add_hidden (hidden_of q [] (not (is_const_object q))) s) w.text (StaticObject (next_hidden s) q) (hidden_added s (hidden_of q [] (not (is_const_object q))) l) like)
    (entered_fit (add_hidden (hidden_of q [] (not (is_const_object q))) s) w.text (StaticObject (next_hidden s) q) (hidden_more s (hidden_of q [] (not (is_const_object q))) h.0 tt) tt) fit)
    (λ o j met. (put_names _ _ _ (hidden_put o.1 _ _ j.1.0 j.1.1.1) tt, body_held j.0.1 h.1))

initialiser_held : (env : Env) (bytes : Bool) (w : Word) (k : ℕ) (q : QType) (i : Init) (s : State) → WellFormedInit env i → IsLawful s → Held s → IsFit (type_of q)
    → Post (local_initialiser bytes w k q i s) (λ r. Held r.1 × IsFit (type_of r.0.0))
unfolding local_initialiser bytes_rule single_rule completed_rule bind
initialiser_held env true w k q i s good l h fit =
    post_bind (object_rule (context_of w true (next_hidden s)) q i (add_hidden (hidden_of q [] false) s)) _ (ObjectRead (add_hidden (hidden_of q [] false) s)) (λ r. Held r.1 × IsFit (type_of r.0.0))
    (object_read env (context_of w true (next_hidden s)) q i (add_hidden (hidden_of q [] false) s) good (hidden_added s (hidden_of q [] false) l) (hidden_more s (hidden_of q [] false) h.0 tt) fit)
    (λ r j met. ((hidden_put r.1 _ _ j.1.0 j.1.1.1, body_held j.0.1 h.1), j.1.1.0))
initialiser_held env false w k q i s good l h fit =
    post_bind (object_rule (context_of w false 0) q i s) _ (ObjectRead s) (λ r. Held r.1 × IsFit (type_of r.0.0)) (object_read env (context_of w false 0) q i s good l h.0 fit) (λ r j. ((j.1.0, body_held j.0.1 h.1), fit))

local_held : (env : Env) (w : Word) (b : Specified) (q : QType) (i : Option Initializer) (s : State) → WellFormedInitializer env i → IsLawful s → IsObjectLike s.types.records q → IsFit (type_of q) → Held s → Post (local_rule w b q i s) HeldAt
unfolding local_rule bind
local_held env w b q None s good l like fit h = (
  entered_fit (add_local (local_of w q) s) w.text (LocalObject (next_local s) q (is_register b.storage)) (record { contents = h.0.contents; names = h.0.names; members = h.0.members; items = h.0.items; objects = h.0.objects }) tt,
  locals_more s.body.locals (local_of w q) h.1 fit,
)
local_held env w b q (Some i) s good l like fit h =
    post_bind (local_initialiser (is_by_bytes (type_of q) i.init) w (next_local s) q i.init (enter w.text (LocalObject (next_local s) q (is_register b.storage)) (add_local (local_of w q) s))) _ (λ r. Held r.1 × IsFit (type_of r.0.0)) HeldAt
    (initialiser_held env (is_by_bytes (type_of q) i.init) w (next_local s) q i.init (enter w.text (LocalObject (next_local s) q (is_register b.storage)) (add_local (local_of w q) s)) good
    (entered (add_local (local_of w q) s) w.text (LocalObject (length s.body.locals) q (is_register b.storage)) (around s s.made (add_local (local_of w q) s).body l refl).0 like)
    (entered_fit (add_local (local_of w q) s) w.text (LocalObject (next_local s) q (is_register b.storage)) (record { contents = h.0.contents; names = h.0.names; members = h.0.members; items = h.0.items; objects = h.0.objects }) tt, locals_more s.body.locals (local_of w q) h.1 fit) fit)
    (λ r j. (put_names _ _ _ (record { contents = j.0.0.contents; names = j.0.0.names; members = j.0.0.members; items = j.0.0.items; objects = j.0.0.objects }) tt, locals_put (next_local s) (local_of w r.0.0) r.1.body.locals j.0.1 j.1))

declare_all : (env : Env) (sort : Sort) (w : Word) (b : Specified) (spot : Spot) (q : QType) (i : Option Initializer) (s : State) → WellFormedInitializer env i → IsLawful s → IsLawfulType s.types.records (type_of q) → Fits sort q
    → IsFit (type_of q) → Held s → Post (declare_rule sort w b spot q i s) HeldAt
unfolding declare_rule bind
declare_all env ATypedef w b spot q i s good l lawful f fit h = (entered_fit s w.text (TypeName q) h.0 fit, h.1)
declare_all env AFunction w b spot q i s good l lawful f fit h = post_bind (declare_linked w.text w.token b.tag (asking_of AFunction b) q s) _ HeldAt HeldAt (declare_held w.text w.token b.tag (asking_of AFunction b) q s fit h) (λ r g. g)
declare_all env AGlobal w b spot q i s good l lawful f fit h = global_held env w b spot q i s good l lawful fit h
declare_all env AnExtern w b spot q i s good l lawful f fit h = post_bind (declare_linked w.text w.token b.tag AsBefore q s) _ HeldAt HeldAt (declare_held w.text w.token b.tag AsBefore q s fit h) (λ r g. g)
declare_all env AStatic w b spot q i s good l lawful f fit h = static_held env w q i s good l (record { lawful = lawful; object = f }) fit h
declare_all env ALocal w b spot q i s good l lawful f fit h = local_held env w b q i s good l (record { lawful = lawful; object = f }) fit h

named_held : (env : Env) (sort : Sort) (spot : Spot) (w : Word) (b : Specified) (q : QType) (i : Option Initializer) (s : State) → WellFormedInitializer env i → IsLawful s → IsLawfulType s.types.records (type_of q) → Fits sort q
    → IsFit (type_of q) → Held s → Post (bind (name_rule sort spot w (is_some i) b q s) (λ v. declare_rule sort w b spot q i v.1)) HeldAt
unfolding name_rule bind
named_held env sort spot w b q i s good l lawful f fit h = λ met. declare_all env sort w b spot q i s good l lawful f fit h

init_declarator_held : (env : Env) (specifiers : Specifiers) (b : Specified) (d : InitDeclarator) (s : State) → Rattle.pw_tree.specs.WellFormed.WellFormedDeclarator env (has_type specifiers) Named d.declarator
    → WellFormedInitializer (after_name env specifiers d.declarator) d.initializer → IsLawful s → GoodSpecified s b → IsFit (type_of b.ty) → Held s → Post (init_declarator_rule b d s) HeldAt
unfolding init_declarator_rule
init_declarator_held env specifiers b d s good1 good2 l known fit h =
    post_bind _ _ (λ r. (IsLawful r.1 × Grows s r.1 × GoodDeclared r.1 r.0) × DeclaratorFits r) HeldAt
    (post_both _ (λ r. IsLawful r.1 × Grows s r.1 × GoodDeclared r.1 r.0) DeclaratorFits (declarator_post d.declarator s l) (declarator_fit env (has_type specifiers) Named d.declarator s good1 (l, h.0))) (λ r k.
    post_bind _ _ (λ u. (IsLawful u.1 × Grows r.1 u.1 × GoodType u.1 u.0) × (Still r.1 u × IsFit (type_of u.0))) HeldAt
    (post_both _ (λ u. IsLawful u.1 × Grows r.1 u.1 × GoodType u.1 u.0) (λ u. Still r.1 u × IsFit (type_of u.0))
    (built_runs r.1 (spot_of r.0.name b.first b.tag) r.0.derivations b.ty k.0.0 k.0.2.0 (lawful_later s.types.records r.1.types.records k.0.1.extends (type_of b.ty) known))
    (post_both _ (Still r.1) (λ u. IsFit (type_of u.0)) (built_still (spot_of r.0.name b.first b.tag) r.0.derivations b.ty r.1) (built_fit (spot_of r.0.name b.first b.tag) r.0.derivations b.ty r.1 k.1.1 fit))) (λ u j.
    asked_post u.1 (sort_of (is_file_scope u.1) b u.0) _ HeldAt
    (named_held (after_name env specifiers d.declarator) (sort_of (is_file_scope u.1) b u.0) (spot_of r.0.name b.first b.tag) (name_of r.0) b u.0 d.initializer u.1 good2 j.0.0 j.0.2 (sort_fits (is_file_scope u.1) b u.0) j.1.1
    (subst Held (sym j.1.0) (k.1.0.1, body_held k.0.1 h.1)))))

init_declarators_held : (env : Env) (specifiers : Specifiers) (b : Specified) (ds : List InitDeclarator) (s : State) → WellFormedInitDeclarators env specifiers ds → IsLawful s → GoodSpecified s b → IsFit (type_of b.ty) → Held s
    → Post (init_declarators_rule b ds s) HeldAt
unfolding init_declarators_rule
init_declarators_held env specifiers b [] s good l known fit h = h
init_declarators_held env specifiers b (d ∷ rest) s good l known fit h =
    post_bind _ _ (λ r. (IsLawful r.1 × After s r.1 × Unit {0}) × Held r.1) HeldAt
    (post_both _ (λ r. IsLawful r.1 × After s r.1 × Unit {0}) HeldAt (init_declarator_goes s b d l known) (init_declarator_held env specifiers b d s good.0 good.1 l known fit h)) (λ r k.
    post_bind _ _ HeldAt HeldAt
    (init_declarators_held (after_initializer (after_name env specifiers d.declarator) d.initializer) specifiers b rest r.1 good.2 k.0.0 (lawful_later s.types.records r.1.types.records k.0.1.extends (type_of b.ty) known) fit k.1) (λ u j. j))

specified_kept : (env : Env) (specifiers : Specifiers) (first : ℕ) (s : State) → WellFormedSpecifiers env false specifiers → IsLawful s → Fit s → Post (specified_rule specifiers first s) (λ r. Fit r.1 × IsFit (type_of r.0.ty))
unfolding specified_rule
specified_kept env specifiers first s good l f =
    post_bind _ _ SpecifiersFit (λ r. Fit r.1 × IsFit (type_of r.0.ty)) (specifiers_fit env false specifiers first nothing_gathered s good (l, f) tt) (λ r k.
    post_weaken _ (λ u. Still r.1 u × IsFit (type_of u.0.ty)) (λ u. Fit u.1 × IsFit (type_of u.0.ty))
    (post_both _ (Still r.1) (λ u. IsFit (type_of u.0.ty)) (specified_still first r.0 r.1) (specified_fit first r.0 r.1 k.1)) (λ u j. (subst Fit (sym j.0) k.0.1, j.1)))

pub specified_held : (env : Env) (specifiers : Specifiers) (first : ℕ) (s : State) → WellFormedSpecifiers env false specifiers → IsLawful s → Fit s
    → Post (specified_rule specifiers first s) (λ r. (IsLawful r.1 × Grows s r.1 × GoodSpecified r.1 r.0) × (Fit r.1 × IsFit (type_of r.0.ty)))
specified_held env specifiers first s good l f =
    post_both (specified_rule specifiers first s) (λ r. IsLawful r.1 × Grows s r.1 × GoodSpecified r.1 r.0) (λ r. Fit r.1 × IsFit (type_of r.0.ty)) (specified_all s specifiers first l) (specified_kept env specifiers first s good l f)

alone_held : (kind : RecordKind) (w : Word) (o : Option Tag) (s : State) → Held s → Post (alone_by kind w o s) HeldAt
unfolding alone_by reference_by new_tag new_record bind
alone_held kind w None s h = λ met. (record { contents = added_solid s.types.records kind h.0.contents; names = h.0.names; members = added_members s.types.records kind h.0.members; items = h.0.items; objects = h.0.objects }, h.1)
alone_held kind w (Some (G.Record n)) s h = λ met. h
alone_held kind w (Some G.Enumeration) s h = tt

alone_rule_held : (kind : RecordKind) (w : Word) (s : State) → Held s → Post (alone_rule kind w s) HeldAt
unfolding alone_rule bind
alone_rule_held kind w s h = alone_held kind w (tag_here s w.text) s h

bare_listed : (env : Env) (specifiers : Specifiers) (s : State) → WellFormedSpecifiers env false specifiers → IsLawful s → Held s
    → Post {A = List Initialiser × State} (bind (specified_rule specifiers (first_of_list specifiers) s) (λ t. bind (bind (storage_rule t.0 t.1) (λ u. Rattle.pw_check_walk.specs.Walks.meets (Rattle.pw_check_walk.specs.Causes.needs Rattle.pw_check_walk.specs.Causes.DeclaresSomething t.0.first (declares_something specifiers) ∷ []) u.1)) (λ u. Done ([], u.1)))) HeldAt
bare_listed env specifiers s good l h =
    post_bind _ _ (λ r. (IsLawful r.1 × Grows s r.1 × GoodSpecified r.1 r.0) × (Fit r.1 × IsFit (type_of r.0.ty))) HeldAt (specified_held env specifiers (first_of_list specifiers) s good l h.0) (λ r k.
    post_bind _ _ (Still r.1) HeldAt
    (post_bind _ _ (Still r.1) (Still r.1) (declared_storage_still r.0 r.1) (λ u e met. e)) (λ u e. subst Held (sym e) (k.1.0, body_held k.0.1 h.1)))

bare_held : (env : Env) (specifiers : Specifiers) (s : State) → WellFormedSpecifiers env false specifiers → IsLawful s → Held s → Post (bare_rule specifiers s) HeldAt
unfolding bare_rule
bare_held env (S.RecordTag t kind w S.NoSpecifier) s good l h = post_bind _ _ HeldAt HeldAt (alone_rule_held (record_kind kind) w s h) (λ r k. k)
bare_held env specifiers s good l h = bare_listed env specifiers s good l h

declarators_held : (env : Env) (specifiers : Specifiers) (ds : List InitDeclarator) (s : State) → WellFormedSpecifiers env false specifiers → WellFormedInitDeclarators (after_specifiers env specifiers) specifiers ds → IsLawful s → Held s
    → Post (declarators_rule specifiers ds s) HeldAt
unfolding declarators_rule
declarators_held env specifiers [] s good1 good2 l h = bare_held env specifiers s good1 l h
declarators_held env specifiers (d ∷ rest) s good1 good2 l h =
    post_bind _ _ (λ r. (IsLawful r.1 × Grows s r.1 × GoodSpecified r.1 r.0) × (Fit r.1 × IsFit (type_of r.0.ty))) HeldAt (specified_held env specifiers (first_of_list specifiers) s good1 l h.0) (λ r k.
    post_bind _ _ (Still r.1) HeldAt (declared_storage_still r.0 r.1) (λ u e.
    init_declarators_held (after_specifiers env specifiers) specifiers r.0 (d ∷ rest) u.1 good2 (subst IsLawful (sym e) k.0.0) (subst (λ (t : State). GoodSpecified t r.0) (sym e) k.0.2) k.1.1 (subst Held (sym e) (k.1.0, body_held k.0.1 h.1))))

pub decl_held : (env : Env) (d : Decl) (s : State) → WellFormedDecl env d → IsLawful s → Held s → Post (decl_rule d s) HeldAt
unfolding decl_rule
decl_held env d s good l h = declarators_held env d.specifiers d.declarators s good.1 good.2 l h

-- what is lawful and fit
abbrev pub Kept : {A : Type 0} → A × State → Type 0
Kept r = IsLawful r.1 × Held r.1

pub decls_held : (env : Env) (ds : List Decl) (s : State) → WellFormedDecls env ds → IsLawful s → Held s → Post (decls_rule ds s) Kept
unfolding decls_rule
decls_held env [] s good l h = (l, h)
decls_held env (d ∷ rest) s good l h =
    post_bind _ _ (λ r. (IsLawful r.1 × After s r.1 × Unit {0}) × Held r.1) Kept (post_both _ (λ r. IsLawful r.1 × After s r.1 × Unit {0}) HeldAt (decl_goes s d l) (decl_held env d s good.0 l h)) (λ r k.
    post_bind _ _ Kept Kept (decls_held (after_decl env d) rest r.1 good.1 k.0.0 k.1) (λ u j. j))
