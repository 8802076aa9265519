-- Expressions and types leave the sizes and alignments of records lawful, and make types whose arrays have elements.
use Rattle.std.specs.Prelude.{ℕ, zero, suc, ◌≡◌, ◌<◌, ◌⊎◌, ◌+◌, Bool, true, false, not, ◌&&◌, cond, nat_le, Option, None, Some, unwrap_or, List, [], ◌∷◌, ◌++◌, map, find, length, slice_get, if◌then◌else◌, refl}
use Rattle.std.specs.Option.{option_map_or, option_or}
use Rattle.std.proofs.Common.{arith, sym, subst, ◌∙◌, inl, inr}
use Rattle.std.proofs.lemmas.Bool.Decides.{nat_tests}
use Rattle.pw_tree.specs.declared.expr.BasicType.{BasicType}
use Rattle.pw_tree.specs.declared.expr.BasicType.TheVariants as W
use Rattle.pw_tree.specs.declared.expr.Qualifier.TheVariants as R
use Rattle.pw_tree.specs.declared.operator.Access.TheVariants.{Dot, Arrow}
use Rattle.pw_tree.specs.declared.operator.StepOperator.TheVariants as J
use Rattle.pw_tree.specs.declared.operator.UnaryOperator.TheVariants as P
use Rattle.pw_tree.specs.FirstTokens.{first_of_expr}
use Rattle.pw_tree.specs.Scopes.{Env, has_type, after_expr, after_arguments, after_specifiers, after_members, after_enumerators, after_declarator, after_core}
use Rattle.pw_tree.specs.Trees.{Expr, Postfixes, Arguments, Operations, Specifiers, Members, MemberDeclarators, Enumerators, Declarator, Core, Suffixes, Parameters, Word}
use Rattle.pw_tree.specs.Trees as S
use Rattle.pw_tree.specs.WellFormed.{NotEmpty, HasMember, HasMemberDeclarator, Place, Named, Nameless, Either, WellFormed, WellFormedPostfixes, WellFormedArguments, WellFormedOperations, WellFormedSpecifiers, WellFormedMembers, WellFormedMemberDeclarators, WellFormedEnumerators, WellFormedDeclarator, WellFormedCore, WellFormedSuffixes, WellFormedParameters}
use Rattle.pw_types.specs.declared.record.RecordKind.{RecordKind}
use Rattle.pw_types.specs.Layouts.{content_at}
use Rattle.pw_types.specs.Records.{declared, defined}
use Rattle.pw_types.specs.TypeTrees.{CType, Void, Int, Pointer, Array, Function, Record, QType, Qualified, type_of, MemberValue, ContentValue, RecordValue}
use Rattle.pw_types.specs.TypedTrees.{Expression}
use Rattle.pw_types.specs.WellTyped.{type_in}
use Rattle.pw_check_walk.specs.Walks.{Walk, bind}
use Rattle.pw_check_rules.specs.Constants.{constant_value}
use Rattle.pw_check_rules.specs.Derivations.{Derivation, ToPointer, ToArray, ToFunction, Declared, ParameterValue, pointer_step, spot_of, step_type, built, stepped}
use Rattle.pw_check_rules.specs.Kinds.{plain, int_type, qualify}
use Rattle.pw_check_rules.specs.Leaves.{length_rule, is_positive, string_rule, string_point, new_record, new_tag, reference_by, reference_rule, opening_by, opening_rule, open_record, member_rule, content_by, closing_rule, enumeration_rule, enumerating_rule, enumerator_name, enumerator_rule, parameter_rule, enter_parameter, bindings_rule, record_kind, record_spot, parameter_types, is_nil, is_last, first_of_list, first_of_declaration, name_text, texts_of}
use Rattle.pw_check_rules.specs.Limits.{Spot}
use Rattle.pw_check_rules.specs.Operands.{Operand}
use Rattle.pw_check_rules.specs.Operators.{value_rule}
use Rattle.pw_check_rules.specs.Phrases.{typedef_type, typedef_rule, expr_rule, postfixes_rule, arguments_rule, operations_rule, specifiers_rule, members_rule, member_declarators_rule, enumerators_rule, declarator_rule, core_rule, suffixes_rule, parameters_rule}
use Rattle.pw_check_rules.specs.SpecifierLists.{Gathered, nothing_gathered, gather_storage, gather_qualifier, gather_word, gather_type, Specified, specified, table, type_listed, same_words}
use Rattle.pw_check_rules.specs.States.{State, Rule, Entity, TypeName, EnumerationConstant, LocalObject, StaticObject, Linked, MadeState, enter, enter_tag, add_record, put_record, scoped, uncounted, one_deeper, leave_scope, with_made, tag_of, tag_here, entity_of, LinkedName, HiddenObject, add_hidden}
use Rattle.pw_check_rules.specs.declared.names.Tag.{Tag}
use Rattle.pw_check_rules.specs.declared.names.Tag.TheVariants as G
use Rattle.pw_law_checked.specs.Lawful.{IsLawful}
use Rattle.pw_law_checked.proofs.Walking.{Post, post_bind, post_weaken, post_both, post_granted, truth, after_any}
use Rattle.pw_law_checked.proofs.Lists.{some_same, never_some, and_then_some, get_more, put_either}
use Rattle.pw_law_checked.proofs.Types.{left}
use Rattle.pw_law_checked.proofs.States.{Runs, Grows, grows_trans, Fine, goes_on, Widens}
use Rattle.pw_law_checked.proofs.Objects.{object_complete}
use Rattle.pw_law_checked.proofs.Changes.{deeper_lawful, left_lawful_alone, Opened, opened_later}
use Rattle.pw_law_checked.proofs.Leaves.{Nothing, string_runs, reference_runs, GoodReference, opening_runs, GoodMembers, closing_runs, GoodGathered, GoodSpecified, specified_runs, GoodDeclared, GoodType, GoodParameters, scalars_later, members_later, member_runs, parameter_storage_runs, parameter_runs, enumerator_runs, enumerating_runs}
use Rattle.pw_law_checked.proofs.Phrases.{specifiers_post, declarator_post, scalars_only, later_type}
use Rattle.pw_check_literals.specs.Characters.{characters_of_strings}
use Rattle.pw_law_checked.proofs.Fits.{AreSome, some_end, HasElements, IsFit, IsSolid, AreSolid, MembersFit, content_solid}
use Rattle.pw_law_checked.proofs.Still.{Still, value_still, identifier_still, number_still, character_still, sign_still, deref_still, address_still, step_still, size_still, type_size_still, cast_still, operation_still, conditional_still, assignment_still, index_still, call_still, dot_still, arrow_still, length_still, typedef_still, enumeration_still, enumerator_name_still, enumerator_value_still, specified_still, built_still, named_still, storage_still, bindings_still}

-- ---- options

-- ---- states

abbrev pub NameFits : Entity → Type 0
NameFits (TypeName q) = IsFit (type_of q)
NameFits (EnumerationConstant n) = Unit {0}
NameFits (LocalObject k q register) = Unit {0}
NameFits (StaticObject k q) = Unit {0}
NameFits (Linked k q) = IsFit (type_of q)

abbrev pub HaveFitMembers : List RecordValue → Type 0
HaveFitMembers r = (n : ℕ) (c : ContentValue) → content_at r n ≡ Some c → MembersFit c.members

-- each record that is defined has a lawful size and alignment, and arrays of types with a name have elements
pub record Fit (s : State) : Type 0 where
  pub contents : AreSolid s.types.records
  pub names : (k : ℕ) (e : Entity) → slice_get s.scopes.entities k ≡ Some e → NameFits e
  pub members : HaveFitMembers s.types.records
  pub items : (i : ℕ) (l : LinkedName) → slice_get s.types.linked i ≡ Some l → AreSome l.items
  pub objects : (k : ℕ) (h : HiddenObject) → slice_get s.made.hidden k ≡ Some h → AreSome h.items

abbrev pub IsFitting : State → Type 0
IsFitting s = IsLawful s × Fit s

abbrev pub Fitted : {A : Type 0} → A × State → Type 0
Fitted r = IsFitting r.1

pub fitted_still : {A : Type 0} (s : State) (w : Walk (A × State)) → IsFitting s → Post w (Still s) → Post w Fitted
fitted_still s w l h = post_weaken w (Still s) Fitted h (λ r e. subst IsFitting (sym e) l)

pub then_fit : {A B : Type 0} (w : Walk (A × State)) (next : A × State → Walk (B × State)) → Post w Fitted → ((r : A × State) → IsFitting r.1 → Post (next r) Fitted) → Post (bind w next) Fitted
then_fit w next h k = post_bind w next Fitted Fitted h k

pub ask_fit : {A B : Type 0} (s : State) (w : Walk (A × State)) (next : A × State → Walk (B × State)) → IsFitting s → Post w (Still s) → ((r : A × State) → IsFitting r.1 → Post (next r) Fitted) → Post (bind w next) Fitted
ask_fit s w next l h k = then_fit w next (fitted_still s w l h) k

pub valued_fit : {B : Type 0} (w : Walk (Operand × State)) (next : Expression × State → Walk (B × State)) → Post w Fitted → ((r : Expression × State) → IsFitting r.1 → Post (next r) Fitted)
    → Post (bind w (λ t. bind (value_rule t.0 t.1) next)) Fitted
valued_fit w next h k = then_fit w _ h (λ r l. ask_fit r.1 (value_rule r.0 r.1) next l (value_still r.0 r.1) k)

-- the same where more is known of what is made
pub then_first : {A B : Type 0} (w : Walk (A × State)) (next : A × State → Walk (B × State)) (G : A × State → Type 0) → Post w (λ r. IsFitting r.1 × G r) → ((r : A × State) → IsFitting r.1 → Post (next r) Fitted) → Post (bind w next) Fitted
then_first w next G h k = post_bind w next (λ r. IsFitting r.1 × G r) Fitted h (λ r g. k r g.0)

-- a lawful state and what else is known
pub both_fit : {A : Type 0} (s : State) (w : Walk (A × State)) (Good : State → A → Type 0) → Runs s w Good → Post w (λ r. Fit r.1) → Post w Fitted
both_fit {A} s w Good h k =
    post_weaken w (λ r. (IsLawful r.1 × Grows s r.1 × Good r.1 r.0) × Fit r.1) Fitted (post_both w (λ r. IsLawful r.1 × Grows s r.1 × Good r.1 r.0) (λ r. Fit r.1) h k) (λ r g. (g.0.0, g.1))

-- ---- changes of the state

pub made_fit : (s : State) (b : Bool) → IsFitting s → IsFitting (with_made (λ m. record m { counting = b }) s)
made_fit s b h = (
  record { contents = h.0.contents; begun = h.0.begun; counted = h.0.counted; entities = h.0.entities; tags = h.0.tags; linked = h.0.linked; laid = h.0.laid; apart = h.0.apart; depths = h.0.depths },
  record { contents = h.1.contents; names = h.1.names; members = h.1.members; items = h.1.items; objects = h.1.objects },
)

pub scoped_fit : {A : Type 0} (s : State) (inside : Rule A) → IsFitting s → ((t : State) → IsFitting t → Post (inside t) Fitted) → Post (scoped inside s) Fitted
unfolding scoped bind
scoped_fit s inside l h =
    then_fit (inside (one_deeper s)) _ (h (one_deeper s) (deeper_lawful s l.0, record { contents = l.1.contents; names = l.1.names; members = l.1.members; items = l.1.items; objects = l.1.objects }))
    (λ r k. (left_lawful_alone r.1 k.0, record { contents = k.1.contents; names = k.1.names; members = k.1.members; items = k.1.items; objects = k.1.objects }))

uncounted_fit : {A : Type 0} (s : State) (inside : Rule A) → IsFitting s → ((t : State) → IsFitting t → Post (inside t) Fitted) → Post (uncounted inside s) Fitted
unfolding uncounted bind
uncounted_fit s inside l h = then_fit (inside _) _ (h _ (made_fit s false l)) (λ r k. made_fit r.1 s.made.counting k)

pub entered_fit : (s : State) (name : List ℕ) (x : Entity) → Fit s → NameFits x → Fit (enter name x s)
entered_fit s name x f h = record { members = f.members; items = f.items; objects = f.objects; contents = f.contents; names = λ k e g. by k e (get_more s.scopes.entities x k e g) }
  where
    by : (k : ℕ) (e : Entity) → (slice_get s.scopes.entities k ≡ Some e) ⊎ ((k ≡ length s.scopes.entities) × (x ≡ e)) → NameFits e
    by k e (inl g) = f.names k e g
    by k e (inr g) = subst NameFits g.1 h

pub content_of : (r : List RecordValue) (n : ℕ) (c : ContentValue) → content_at r n ≡ Some c → (x : RecordValue) × (slice_get r n ≡ Some x) × (x.content ≡ Some c)
content_of r n c e = and_then_some (λ (x : RecordValue). x.content) (slice_get r n) c e

pub content_by_record : (r : List RecordValue) (n : ℕ) (x : RecordValue) (c : ContentValue) → slice_get r n ≡ Some x → x.content ≡ Some c → content_at r n ≡ Some c
content_by_record r n x c e f = Rattle.std.proofs.Common.ap (Rattle.std.specs.Prelude.option_and_then (λ (y : RecordValue). y.content)) e ∙ f

pub added_solid : (r : List RecordValue) (kind : RecordKind) → AreSolid r → AreSolid (r ++ declared kind ∷ [])
added_solid r kind solid n c e = let x = content_of (r ++ declared kind ∷ []) n c e in by x.0 x.2 (get_more r (declared kind) n x.0 x.1)
  where
    by : (x : RecordValue) → x.content ≡ Some c → (slice_get r n ≡ Some x) ⊎ ((n ≡ length r) × (declared kind ≡ x)) → IsSolid c.layout
    by x f (inl g) = solid n c (content_by_record r n x c g f)
    by x f (inr g) = never_some (Rattle.std.proofs.Common.ap (λ (y : RecordValue). y.content) g.1 ∙ f)

pub added_members : (r : List RecordValue) (kind : RecordKind) → HaveFitMembers r → HaveFitMembers (r ++ declared kind ∷ [])
added_members r kind solid n c e = let x = content_of (r ++ declared kind ∷ []) n c e in by x.0 x.2 (get_more r (declared kind) n x.0 x.1)
  where
    by : (x : RecordValue) → x.content ≡ Some c → (slice_get r n ≡ Some x) ⊎ ((n ≡ length r) × (declared kind ≡ x)) → MembersFit c.members
    by x f (inl g) = solid n c (content_by_record r n x c g f)
    by x f (inr g) = never_some (Rattle.std.proofs.Common.ap (λ (y : RecordValue). y.content) g.1 ∙ f)

put_solid : (r : List RecordValue) (kind : RecordKind) (place : ℕ) (c : ContentValue) → AreSolid r → IsSolid c.layout → AreSolid (Rattle.pw_check_rules.specs.States.put_at place (defined kind c) r)
put_solid r kind place c solid h n d e =
    let x = content_of (Rattle.pw_check_rules.specs.States.put_at place (defined kind c) r) n d e in by x.0 x.1 x.2 (put_either place (defined kind c) r n)
  where
    by : (x : RecordValue) → slice_get (Rattle.pw_check_rules.specs.States.put_at place (defined kind c) r) n ≡ Some x → x.content ≡ Some d
        → ((n ≡ place) × (slice_get (Rattle.pw_check_rules.specs.States.put_at place (defined kind c) r) n ≡ Some (defined kind c))) ⊎ (slice_get (Rattle.pw_check_rules.specs.States.put_at place (defined kind c) r) n ≡ slice_get r n) → IsSolid d.layout
    by x g f (inl k) =
        let one : defined kind c ≡ x = some_same (sym k.1 ∙ g) in
        let same : c ≡ d = some_same (Rattle.std.proofs.Common.ap (λ (y : RecordValue). y.content) one ∙ f) in
        subst (λ (y : ContentValue). IsSolid y.layout) same h
    by x g f (inr k) = solid n d (content_by_record r n x d (sym k ∙ g) f)

pub put_members : (r : List RecordValue) (kind : RecordKind) (place : ℕ) (c : ContentValue) → HaveFitMembers r → MembersFit c.members → HaveFitMembers (Rattle.pw_check_rules.specs.States.put_at place (defined kind c) r)
put_members r kind place c solid h n d e =
    let x = content_of (Rattle.pw_check_rules.specs.States.put_at place (defined kind c) r) n d e in by x.0 x.1 x.2 (put_either place (defined kind c) r n)
  where
    by : (x : RecordValue) → slice_get (Rattle.pw_check_rules.specs.States.put_at place (defined kind c) r) n ≡ Some x → x.content ≡ Some d
        → ((n ≡ place) × (slice_get (Rattle.pw_check_rules.specs.States.put_at place (defined kind c) r) n ≡ Some (defined kind c))) ⊎ (slice_get (Rattle.pw_check_rules.specs.States.put_at place (defined kind c) r) n ≡ slice_get r n) → MembersFit d.members
    by x g f (inl k) =
        let one : defined kind c ≡ x = some_same (sym k.1 ∙ g) in
        let same : c ≡ d = some_same (Rattle.std.proofs.Common.ap (λ (y : RecordValue). y.content) one ∙ f) in
        subst (λ (y : ContentValue). MembersFit y.members) same h
    by x g f (inr k) = solid n d (content_by_record r n x d (sym k ∙ g) f)

-- ---- types

pub fit_array : (q : QType) (n : Option ℕ) → IsFit (type_of q) → HasElements n → IsFit (Array q n)
fit_array (Qualified ty c v) n h k = (h, k)

pub array_parts : (q : QType) (n : Option ℕ) → IsFit (Array q n) → IsFit (type_of q) × HasElements n
array_parts (Qualified ty c v) n h = h

fit_qualify : (c v : Bool) (q : QType) → IsFit (type_of q) → IsFit (type_of (qualify c v q))
unfolding qualify
fit_qualify c v (Qualified (Array q n) d w) h = let x = array_parts q n h in fit_array (qualify c v q) n (fit_qualify c v q x.0) x.1
fit_qualify c v (Qualified Void d w) h = tt
fit_qualify c v (Qualified (Int k) d w) h = tt
fit_qualify c v (Qualified (Pointer q) d w) h = tt
fit_qualify c v (Qualified (Function q ps) d w) h = tt
fit_qualify c v (Qualified (Record n) d w) h = tt

abbrev pub AllFit : List QType → Type 0
AllFit [] = Unit {0}
AllFit (q ∷ qs) = IsFit (type_of q) × AllFit qs

all_more : (qs : List QType) (q : QType) → AllFit qs → IsFit (type_of q) → AllFit (qs ++ q ∷ [])
all_more [] q h k = (k, tt)
all_more (p ∷ qs) q h k = (h.0, all_more qs q h.1 k)

abbrev RowsFit : List (List BasicType × CType) → Type 0
RowsFit [] = Unit {0}
RowsFit (row ∷ rows) = IsFit row.1 × RowsFit rows

find_row : (p : List BasicType × CType → Bool) (rows : List (List BasicType × CType)) (row : List BasicType × CType) → RowsFit rows → find p rows ≡ Some row → IsFit row.1
find_row p [] row h e = never_some e
find_row p (x ∷ rows) row h e = by (p x) e (find_row p rows row h.1)
  where
    by : (b : Bool) → cond b (Some x) (find p rows) ≡ Some row → (find p rows ≡ Some row → IsFit row.1) → IsFit row.1
    by true f rest = subst (λ (y : List BasicType × CType). IsFit y.1) (some_same f) h.0
    by false f rest = rest f

table_fit : RowsFit table
table_fit = (tt, (tt, (tt, (tt, (tt, (tt, (tt, (tt, (tt, (tt, (tt, (tt, (tt, (tt, (tt, (tt, (tt, (tt, (tt, (tt, (tt, (tt, tt))))))))))))))))))))))

words_fit : (words : List BasicType) (o : Option (List BasicType × CType)) (q : QType) → find (λ row. same_words row.0 words) table ≡ o → Rattle.std.specs.Prelude.option_map (λ (row : List BasicType × CType). plain row.1) o ≡ Some q → IsFit (type_of q)
words_fit words None q f e = never_some e
words_fit words (Some row) q f e = subst (λ (y : QType). IsFit (type_of y)) (some_same e) (find_row (λ row. same_words row.0 words) table row table_fit f)

listed_fit : (words : List BasicType) (others : List QType) (q : QType) → AllFit others → type_listed words others ≡ Some q → IsFit (type_of q)
listed_fit words [] q h e = words_fit words (find (λ row. same_words row.0 words) table) q refl e
listed_fit [] (ty ∷ []) q h e = subst (λ (y : QType). IsFit (type_of y)) (some_same e) h.0
listed_fit _ _ q h e = never_some e

unwrapped : (o : Option QType) → ((q : QType) → o ≡ Some q → IsFit (type_of q)) → IsFit (type_of (unwrap_or o int_type))
unwrapped None h = tt
unwrapped (Some q) h = h q refl

pub specified_fit : (first : ℕ) (g : Gathered) (s : State) → AllFit g.others → Post (specified first g s) (λ r. IsFit (type_of r.0.ty))
unfolding specified bind
specified_fit first g s h = λ met. fit_qualify _ _ (unwrap_or (type_listed g.words g.others) int_type) (unwrapped (type_listed g.words g.others) (λ q e. listed_fit g.words g.others q h e))

abbrev StepFits : Derivation → Type 0
StepFits (ToPointer t qs) = Unit {0}
StepFits (ToArray n) = HasElements n
StepFits (ToFunction ps) = Unit {0}

abbrev pub StepsFit : List Derivation → Type 0
StepsFit [] = Unit {0}
StepsFit (step ∷ rest) = StepFits step × StepsFit rest

steps_more : (xs ys : List Derivation) → StepsFit xs → StepsFit ys → StepsFit (xs ++ ys)
steps_more [] ys h k = k
steps_more (x ∷ xs) ys h k = (h.0, steps_more xs ys h.1 k)

pointer_steps : (ps : List S.Pointer) → StepsFit (map pointer_step ps)
pointer_steps [] = tt
pointer_steps (p ∷ ps) = (tt, pointer_steps ps)

stepped_fit : (spot : Spot) (steps : List Derivation) (q : QType) (s : State) → StepsFit steps → IsFit (type_of q) → Post (stepped spot steps q s) (λ r. IsFit (type_of r.0))
unfolding stepped bind
stepped_fit spot [] q s h k = k
stepped_fit spot (ToPointer t qs ∷ rest) q s h k = λ met. stepped_fit spot rest (step_type (ToPointer t qs) q) s h.1 tt
stepped_fit spot (ToArray n ∷ rest) q s h k = λ met. stepped_fit spot rest (step_type (ToArray n) q) s h.1 (fit_array q n k h.0)
stepped_fit spot (ToFunction ps ∷ rest) q s h k = λ met. stepped_fit spot rest (step_type (ToFunction ps) q) s h.1 tt

pub built_fit : (spot : Spot) (steps : List Derivation) (q : QType) (s : State) → StepsFit steps → IsFit (type_of q) → Post (built spot steps q s) (λ r. IsFit (type_of r.0))
unfolding built bind
built_fit spot steps q s h k = λ met. stepped_fit spot steps q s h k

length_positive : (o : Option ℕ) (ty : CType) → option_map_or (is_positive ty) o true ≡ true → 0 < unwrap_or o 1
length_positive None ty h = omega arith
length_positive (Some n) ty h = let k : nat_le 1 n ≡ true = left _ _ h in grind (arith, nat_tests)

length_fit : (first : ℕ) (e : Expression) (s : State) → Post (length_rule first e s) (λ r. 0 < r.0)
unfolding length_rule bind
length_fit first e s = λ met. length_positive (constant_value e) (type_in e) (truth _ met.1.0)

-- ---- leaves that change the state

noted_fit : (s : State) (b : Bool) (t : State) → Fit s → Fit t → Fit (if b then t else s)
noted_fit s true t f g = g
noted_fit s false t f g = f

pub hidden_more : (s : State) (h : HiddenObject) → Fit s → AreSome h.items → Fit (add_hidden h s)
hidden_more s h f some = record { contents = f.contents; names = f.names; members = f.members; items = f.items; objects = λ k x e. by k x (get_more s.made.hidden h k x e) }
  where
    by : (k : ℕ) (x : HiddenObject) → (slice_get s.made.hidden k ≡ Some x) ⊎ ((k ≡ length s.made.hidden) × (h ≡ x)) → AreSome x.items
    by k x (inl e) = f.objects k x e
    by k x (inr e) = subst (λ (y : HiddenObject). AreSome y.items) e.1 some

string_kept : (ws : List Word) (s : State) → Fit s → Post (string_rule ws s) (λ r. Fit r.1)
unfolding string_rule string_point bind
string_kept ws s f = λ met. noted_fit s s.made.counting _ f (hidden_more s _ f (some_end (characters_of_strings (texts_of ws)) 0, tt))

string_fit : (ws : List Word) (s : State) → IsFitting s → Post (string_rule ws s) Fitted
string_fit ws s l = both_fit s (string_rule ws s) Fine (string_runs s ws l.0) (string_kept ws s l.1)

typedef_fit : (w : Word) (s : State) → Fit s → Post (typedef_rule w s) (λ r. IsFit (type_of r.0))
unfolding typedef_rule bind
typedef_fit w s f =
    post_granted _ w.token [] (Rattle.std.specs.Prelude.option_and_then typedef_type (entity_of s w.text)) s (λ r. IsFit (type_of r.0)) (λ q e met.
    let x = and_then_some typedef_type (entity_of s w.text) q e in
    let y = and_then_some (Rattle.pw_check_rules.specs.States.entity_at s) (Rattle.pw_check_rules.specs.States.entry_of s w.text) x.0 x.1 in
    by x.0 q x.2 (f.names y.0.place x.0 y.2))
  where
    by : (entity : Entity) (q : QType) → typedef_type entity ≡ Some q → NameFits entity → IsFit (type_of q)
    by (TypeName p) q e h = subst (λ (y : QType). IsFit (type_of y)) (some_same e) h
    by _ q e h = never_some e

new_tag_fit : (kind : RecordKind) (w : Word) (s : State) → Fit s → Post (new_tag kind w s) (λ r. Fit r.1)
unfolding new_tag new_record bind
new_tag_fit kind w s f = λ met. record { contents = added_solid s.types.records kind f.contents; names = f.names; members = added_members s.types.records kind f.members; items = f.items; objects = f.objects }

reference_by_fit : (kind : RecordKind) (w : Word) (o : Option Tag) (s : State) → Fit s → Post (reference_by kind w o s) (λ r. Fit r.1 × IsFit (type_of r.0.0))
unfolding reference_by bind
reference_by_fit kind w None s f = post_bind (new_tag kind w s) _ (λ r. Fit r.1) (λ r. Fit r.1 × IsFit (type_of r.0.0)) (new_tag_fit kind w s f) (λ r g. (g, tt))
reference_by_fit kind w (Some (G.Record n)) s f = λ met. (f, tt)
reference_by_fit kind w (Some G.Enumeration) s f = tt

reference_fit : (kind : RecordKind) (w : Word) (s : State) → Fit s → Post (reference_rule kind w s) (λ r. Fit r.1 × IsFit (type_of r.0.0))
unfolding reference_rule bind
reference_fit kind w s f = reference_by_fit kind w (tag_of s w.text) s f

opening_by_fit : (kind : RecordKind) (w : Word) (o : Option Tag) (s : State) → Fit s → Post (opening_by kind w o s) (λ r. Fit r.1)
unfolding opening_by bind
opening_by_fit kind w None s f = new_tag_fit kind w s f
opening_by_fit kind w (Some (G.Record n)) s f = λ met. f
opening_by_fit kind w (Some G.Enumeration) s f = tt

opening_fit : (kind : RecordKind) (o : Option Word) (s : State) → Fit s → Post (opening_rule kind o s) (λ r. Fit r.1)
unfolding opening_rule new_record bind
opening_fit kind None s f = record { contents = added_solid s.types.records kind f.contents; names = f.names; members = added_members s.types.records kind f.members; items = f.items; objects = f.objects }
opening_fit kind (Some w) s f =
    post_bind (opening_by kind w (tag_here s w.text) s) _ (λ r. Fit r.1) (λ r. Fit r.1) (opening_by_fit kind w (tag_here s w.text) s f) (λ r g. record { contents = g.contents; names = g.names; members = g.members; items = g.items; objects = g.objects })

closing_fit : (kind : RecordKind) (token n : ℕ) (ms : List MemberValue) (s : State) → Fit s → NotEmpty ms → MembersFit ms → GoodMembers s ms → Post (closing_rule kind token n ms s) (λ r. Fit r.1 × IsFit (type_of r.0))
unfolding closing_rule bind
closing_fit kind token n ms s f some fit good = λ met. (
  record {
    contents = put_solid s.types.records kind n (content_by s.types.records kind ms) f.contents
        (content_solid s.types.records kind ms f.contents some fit (λ i m e. object_complete s.types.records (type_of m.ty) (good i m e).1));
    names = f.names;
    members = put_members s.types.records kind n (content_by s.types.records kind ms) f.members fit;
    items = f.items;
    objects = f.objects;
  },
  tt,
)

enumerating_kept : (o : Option Word) (s : State) → Fit s → Post (enumerating_rule o s) (λ r. Fit r.1)
unfolding enumerating_rule bind
enumerating_kept None s f = f
enumerating_kept (Some w) s f = λ met. record { contents = f.contents; names = f.names; members = f.members; items = f.items; objects = f.objects }

enumerator_kept : (w : Word) (value : Option ℕ) (s : State) → Fit s → Post (enumerator_rule w value s) (λ r. Fit r.1)
unfolding enumerator_rule enumerator_name bind
enumerator_kept w value s f = λ met counted. entered_fit s w.text (EnumerationConstant (unwrap_or value 0)) f tt

enumerating_fit : (o : Option Word) (s : State) → IsFitting s → Post (enumerating_rule o s) Fitted
enumerating_fit o s l = both_fit s (enumerating_rule o s) Nothing (enumerating_runs s o l.0) (enumerating_kept o s l.1)

enumerator_fit : (w : Word) (value : Option ℕ) (s : State) → IsFitting s → Post (enumerator_rule w value s) Fitted
enumerator_fit w value s l = both_fit s (enumerator_rule w value s) Nothing (enumerator_runs s w value l.0) (enumerator_kept w value s l.1)

entered_parameter : (o : Option Word) (k : ℕ) (q : QType) (register : Bool) (s : State) → Fit s → Fit (enter_parameter o (LocalObject k q register) s)
entered_parameter None k q register s f = f
entered_parameter (Some w) k q register s f = entered_fit s w.text (LocalObject k q register) f tt

parameter_kept : (sole : Bool) (b : Specified) (d : Declared) (ps : List ParameterValue) (s : State) → Fit s → Post (parameter_rule sole b d ps s) (λ r. Fit r.1)
unfolding parameter_rule bind
parameter_kept sole b d ps s f =
    post_bind (built _ d.derivations b.ty s) _ (Still s) (λ r. Fit r.1) (built_still _ d.derivations b.ty s) (λ r e met. entered_parameter d.name _ _ _ r.1 (subst Fit (sym e) f))

members_more : (ms : List MemberValue) (m : MemberValue) → MembersFit ms → IsFit (type_of m.ty) → MembersFit (ms ++ m ∷ [])
members_more [] m h k = (k, tt)
members_more (x ∷ ms) m h k = (h.0, members_more ms m h.1 k)

some_more : (ms : List MemberValue) (m : MemberValue) → NotEmpty (ms ++ m ∷ [])
some_more [] m = tt
some_more (x ∷ ms) m = tt

-- a member more
member_fit : (b : Specified) (d : Declared) (ms : List MemberValue) (s : State) → StepsFit d.derivations → IsFit (type_of b.ty) → MembersFit ms → Post (member_rule b d ms s) (λ r. (r.1 ≡ s) × (MembersFit r.0 × NotEmpty r.0))
unfolding member_rule bind
member_fit b d ms s h k all =
    post_bind (built _ d.derivations b.ty s) _ (λ r. Still s r × IsFit (type_of r.0)) (λ r. (r.1 ≡ s) × (MembersFit r.0 × NotEmpty r.0))
    (post_both (built _ d.derivations b.ty s) (Still s) (λ r. IsFit (type_of r.0)) (built_still _ d.derivations b.ty s) (built_fit _ d.derivations b.ty s h k))
    (λ r g met. (g.0, (members_more ms _ all g.1, some_more ms _)))

enumeration_by_fits : (w : Word) (o : Option Tag) (s : State) → Post (Rattle.pw_check_rules.specs.Leaves.enumeration_by w o s) (λ r. IsFit (type_of r.0))
unfolding Rattle.pw_check_rules.specs.Leaves.enumeration_by
enumeration_by_fits w None s = tt
enumeration_by_fits w (Some (G.Record n)) s = tt
enumeration_by_fits w (Some G.Enumeration) s = tt

enumeration_fits : (w : Word) (s : State) → Post (enumeration_rule w s) (λ r. IsFit (type_of r.0))
unfolding enumeration_rule bind
enumeration_fits w s = enumeration_by_fits w (tag_of s w.text) s

member_some : (b : Specified) (d : Declared) (ms : List MemberValue) (s : State) → Post (member_rule b d ms s) (λ r. NotEmpty r.0)
unfolding member_rule bind
member_some b d ms s = after_any (built _ d.derivations b.ty s) _ (λ r. NotEmpty r.0) (λ r met. some_more ms _)

-- a list of members has one
declarators_kept : (ds : MemberDeclarators) (b : Specified) (ms : List MemberValue) (s : State) → NotEmpty ms → Post (member_declarators_rule ds b ms s) (λ r. NotEmpty r.0)
unfolding members_rule
declarators_kept S.NoMemberDeclarator b ms s some = some
declarators_kept (S.PlainMember d rest) b ms s some =
    after_any _ _ (λ r. NotEmpty r.0) (λ r1.
    post_bind _ _ (λ r. NotEmpty r.0) (λ r. NotEmpty r.0) (member_some b r1.0 ms r1.1) (λ r2 k. declarators_kept rest b r2.0 r2.1 k))
declarators_kept (S.BitField d t e rest) b ms s some = after_any _ _ (λ r. NotEmpty r.0) (λ r. tt)
declarators_kept (S.Padding t e rest) b ms s some = tt

declarators_some : (ds : MemberDeclarators) (b : Specified) (ms : List MemberValue) (s : State) → HasMemberDeclarator ds → Post (member_declarators_rule ds b ms s) (λ r. NotEmpty r.0)
unfolding members_rule
declarators_some S.NoMemberDeclarator b ms s has = absurd has
declarators_some (S.PlainMember d rest) b ms s has =
    after_any _ _ (λ r. NotEmpty r.0) (λ r1.
    post_bind _ _ (λ r. NotEmpty r.0) (λ r. NotEmpty r.0) (member_some b r1.0 ms r1.1) (λ r2 k. declarators_kept rest b r2.0 r2.1 k))
declarators_some (S.BitField d t e rest) b ms s has = after_any _ _ (λ r. NotEmpty r.0) (λ r. tt)
declarators_some (S.Padding t e rest) b ms s has = tt

members_kept : (members : Members) (ms : List MemberValue) (s : State) → NotEmpty ms → Post (members_rule members ms s) (λ r. NotEmpty r.0)
unfolding members_rule
members_kept S.NoMember ms s some = some
members_kept (S.Member specifiers ds rest) ms s some =
    after_any _ _ (λ r. NotEmpty r.0) (λ r1.
    after_any _ _ (λ r. NotEmpty r.0) (λ r2.
    post_bind _ _ (λ r. NotEmpty r.0) (λ r. NotEmpty r.0) (declarators_kept ds r2.0 ms r2.1 some) (λ r3 k. members_kept rest r3.0 r3.1 k)))

members_some : (env : Env) (members : Members) (ms : List MemberValue) (s : State) → HasMember members → WellFormedMembers env members → Post (members_rule members ms s) (λ r. NotEmpty r.0)
unfolding members_rule WellFormedMembers
members_some env S.NoMember ms s has h = absurd has
members_some env (S.Member specifiers ds rest) ms s has h =
    after_any _ _ (λ r. NotEmpty r.0) (λ r1.
    after_any _ _ (λ r. NotEmpty r.0) (λ r2.
    post_bind _ _ (λ r. NotEmpty r.0) (λ r. NotEmpty r.0) (declarators_some ds r2.0 ms r2.1 h.3) (λ r3 k. members_kept rest r3.0 r3.1 k)))

-- ---- phrases

abbrev pub SpecifiersFit : Gathered × State → Type 0
SpecifiersFit r = IsFitting r.1 × AllFit r.0.others

abbrev pub DeclaratorFits : Declared × State → Type 0
DeclaratorFits r = IsFitting r.1 × StepsFit r.0.derivations

abbrev SuffixesFit : Rattle.pw_check_rules.specs.Derivations.Suffixed × State → Type 0
SuffixesFit r = IsFitting r.1 × StepsFit r.0.derivations

-- what members are, and that the state is lawful
abbrev MembersRead : State → List MemberValue × State → Type 0
MembersRead s r = (IsLawful r.1 × Grows s r.1 × GoodMembers r.1 r.0) × (Fit r.1 × MembersFit r.0)

read_later : {s t : State} (r : List MemberValue × State) → Grows s t → MembersRead t r → MembersRead s r
read_later {s} {t} r g h = ((h.0.0, grows_trans g h.0.1, h.0.2), h.1)

mutual
  unfolding expr_rule WellFormed

  pub expr_fit : (env : Env) (e : Expr) (s : State) → WellFormed env e → IsFitting s → Post (expr_rule e s) Fitted
  expr_fit env (S.Identifier w) s h l = fitted_still s (Rattle.pw_check_rules.specs.Leaves.identifier_rule w s) l (identifier_still w s)
  expr_fit env (S.Number w) s h l = fitted_still s (Rattle.pw_check_rules.specs.Leaves.number_rule w s) l (number_still w s)
  expr_fit env (S.Floating w) s h l = tt
  expr_fit env (S.Character w) s h l = fitted_still s (Rattle.pw_check_rules.specs.Leaves.character_rule w s) l (character_still w s)
  expr_fit env (S.Wide w) s h l = tt
  expr_fit env (S.Strings ws) s h l = string_fit ws s l
  expr_fit env (S.Paren t e) s h l = expr_fit env e s h l
  expr_fit env (S.Postfix e rest) s h l = then_fit _ _ (expr_fit env e s h.1 l) (λ r k. postfixes_fit (after_expr env e) rest r.0 r.1 h.3 k)
  expr_fit env (S.Unary t P.Sizeof e) s h l = then_fit _ _ (uncounted_fit s (expr_rule e) l (λ u k. expr_fit env e u h.1 k)) (λ r k. fitted_still r.1 _ k (size_still t r.0 r.1))
  expr_fit env (S.Unary t P.Address e) s h l = then_fit _ _ (expr_fit env e s h.1 l) (λ r k. fitted_still r.1 _ k (address_still t r.0 r.1))
  expr_fit env (S.Unary t P.Increment e) s h l = then_fit _ _ (expr_fit env e s h.1 l) (λ r k. fitted_still r.1 _ k (step_still t _ r.0 r.1))
  expr_fit env (S.Unary t P.Decrement e) s h l = then_fit _ _ (expr_fit env e s h.1 l) (λ r k. fitted_still r.1 _ k (step_still t _ r.0 r.1))
  expr_fit env (S.Unary t P.Dereference e) s h l = valued_fit _ _ (expr_fit env e s h.1 l) (λ r k. fitted_still r.1 _ k (deref_still t r.0 r.1))
  expr_fit env (S.Unary t P.Plus e) s h l = valued_fit _ _ (expr_fit env e s h.1 l) (λ r k. fitted_still r.1 _ k (sign_still t P.Plus r.0 r.1))
  expr_fit env (S.Unary t P.Minus e) s h l = valued_fit _ _ (expr_fit env e s h.1 l) (λ r k. fitted_still r.1 _ k (sign_still t P.Minus r.0 r.1))
  expr_fit env (S.Unary t P.Complement e) s h l = valued_fit _ _ (expr_fit env e s h.1 l) (λ r k. fitted_still r.1 _ k (sign_still t P.Complement r.0 r.1))
  expr_fit env (S.Unary t P.Not e) s h l = valued_fit _ _ (expr_fit env e s h.1 l) (λ r k. fitted_still r.1 _ k (sign_still t P.Not r.0 r.1))
  expr_fit env (S.SizeofType t specifiers d) s h l =
      uncounted_fit s _ l (λ u k.
      then_first _ _ (λ r. AllFit r.0.others) (specifiers_fit env false specifiers (first_of_declaration specifiers d) nothing_gathered u h.2 k tt) (λ r1 k1.
      ask_fit r1.1 _ _ k1 (specified_still (first_of_declaration specifiers d) r1.0 r1.1) (λ r2 k2.
      then_first _ _ (λ r. StepsFit r.0.derivations) (declarator_fit (after_specifiers env specifiers) (has_type specifiers) Nameless d r2.1 h.3 k2) (λ r3 k3.
      ask_fit r3.1 _ _ k3 (named_still r2.0 r3.0 r3.1) (λ r4 k4. fitted_still r4.1 _ k4 (type_size_still t _ r4.0 r4.1))))))
  expr_fit env (S.Cast t specifiers d e) s h l =
      then_first _ _ (λ r. AllFit r.0.others) (specifiers_fit env false specifiers (first_of_declaration specifiers d) nothing_gathered s h.2 l tt) (λ r1 k1.
      ask_fit r1.1 _ _ k1 (specified_still (first_of_declaration specifiers d) r1.0 r1.1) (λ r2 k2.
      then_first _ _ (λ r. StepsFit r.0.derivations) (declarator_fit (after_specifiers env specifiers) (has_type specifiers) Nameless d r2.1 h.3 k2) (λ r3 k3.
      ask_fit r3.1 _ _ k3 (named_still r2.0 r3.0 r3.1) (λ r4 k4.
      valued_fit _ _ (expr_fit (after_declarator (after_specifiers env specifiers) d) e r4.1 h.5 k4) (λ r5 k5. fitted_still r5.1 _ k5 (cast_still t r4.0 r5.0 r5.1))))))
  expr_fit env (S.Chain e rest) s h l = then_fit _ _ (expr_fit env e s h.1 l) (λ r k. operations_fit (after_expr env e) _ rest r.0 r.1 h.2 k)
  expr_fit env (S.Conditional t c a b) s h l =
      valued_fit _ _ (expr_fit env c s h.1 l) (λ r1 k1.
      valued_fit _ _ (expr_fit (after_expr env c) a r1.1 h.2 k1) (λ r2 k2.
      valued_fit _ _ (expr_fit (after_expr (after_expr env c) a) b r2.1 h.4 k2) (λ r3 k3. fitted_still r3.1 _ k3 (conditional_still t r1.0 r2.0 r3.0 r3.1))))
  expr_fit env (S.Assign t op a b) s h l =
      then_fit _ _ (expr_fit env a s h.1 l) (λ r1 k1. valued_fit _ _ (expr_fit (after_expr env a) b r1.1 h.3 k1) (λ r2 k2. fitted_still r2.1 _ k2 (assignment_still t op r1.0 r2.0 r2.1)))

  postfixes_fit : (env : Env) (rest : Postfixes) (a : Operand) (s : State) → WellFormedPostfixes env rest → IsFitting s → Post (postfixes_rule rest a s) Fitted
  postfixes_fit env S.NoPostfix a s h l = l
  postfixes_fit env (S.Index t e rest) a s h l =
      ask_fit s _ _ l (value_still a s) (λ r1 k1. valued_fit _ _ (expr_fit env e r1.1 h.0 k1) (λ r2 k2. ask_fit r2.1 _ _ k2 (index_still t r1.0 r2.0 r2.1) (λ r3 k3. postfixes_fit (after_expr env e) rest r3.0 r3.1 h.1 k3)))
  postfixes_fit env (S.Call t args rest) a s h l =
      ask_fit s _ _ l (value_still a s) (λ r1 k1. then_fit _ _ (arguments_fit env args r1.1 h.0 k1) (λ r2 k2. ask_fit r2.1 _ _ k2 (call_still t r1.0 r2.0 r2.1) (λ r3 k3. postfixes_fit (after_arguments env args) rest r3.0 r3.1 h.1 k3)))
  postfixes_fit env (S.Select t Dot w rest) a s h l = ask_fit s _ _ l (dot_still t w a s) (λ r k. postfixes_fit env rest r.0 r.1 h k)
  postfixes_fit env (S.Select t Arrow w rest) a s h l = ask_fit s _ _ l (value_still a s) (λ r1 k1. ask_fit r1.1 _ _ k1 (arrow_still t w r1.0 r1.1) (λ r2 k2. postfixes_fit env rest r2.0 r2.1 h k2))
  postfixes_fit env (S.Step t J.Increment rest) a s h l = ask_fit s _ _ l (step_still t _ a s) (λ r k. postfixes_fit env rest r.0 r.1 h k)
  postfixes_fit env (S.Step t J.Decrement rest) a s h l = ask_fit s _ _ l (step_still t _ a s) (λ r k. postfixes_fit env rest r.0 r.1 h k)

  arguments_fit : (env : Env) (args : Arguments) (s : State) → WellFormedArguments env args → IsFitting s → Post (arguments_rule args s) Fitted
  arguments_fit env S.NoArgument s h l = l
  arguments_fit env (S.Argument e rest) s h l = valued_fit _ _ (expr_fit env e s h.1 l) (λ r1 k1. then_fit _ _ (arguments_fit (after_expr env e) rest r1.1 h.2 k1) (λ r2 k2. k2))

  operations_fit : (env : Env) (k : ℕ) (rest : Operations) (a : Operand) (s : State) → WellFormedOperations env k rest → IsFitting s → Post (operations_rule rest a s) Fitted
  operations_fit env k S.NoOperation a s h l = l
  operations_fit env k (S.Operation t op e rest) a s h l =
      ask_fit s _ _ l (value_still a s) (λ r1 k1. valued_fit _ _ (expr_fit env e r1.1 h.2 k1) (λ r2 k2. ask_fit r2.1 _ _ k2 (operation_still t op r1.0 r2.0 r2.1) (λ r3 k3. operations_fit (after_expr env e) k rest r3.0 r3.1 h.3 k3)))

  pub specifiers_fit : (env : Env) (typed : Bool) (specifiers : Specifiers) (first : ℕ) (g : Gathered) (s : State) → WellFormedSpecifiers env typed specifiers → IsFitting s → AllFit g.others
      → Post (specifiers_rule specifiers first g s) SpecifiersFit
  specifiers_fit env typed S.NoSpecifier first g s h l f = (l, f)
  specifiers_fit env typed (S.Storage t storage rest) first g s h l f = specifiers_fit env typed rest first (gather_storage storage g) s h l f
  specifiers_fit env typed (S.Qualified t R.Const rest) first g s h l f = specifiers_fit env typed rest first (gather_qualifier R.Const g) s h l f
  specifiers_fit env typed (S.Qualified t R.Volatile rest) first g s h l f = specifiers_fit env typed rest first (gather_qualifier R.Volatile g) s h l f
  specifiers_fit env typed (S.Basic t W.Float rest) first g s h l f = tt
  specifiers_fit env typed (S.Basic t W.Double rest) first g s h l f = tt
  specifiers_fit env typed (S.Basic t W.Void rest) first g s h l f = specifiers_fit env true rest first (gather_word W.Void g) s h l f
  specifiers_fit env typed (S.Basic t W.Char rest) first g s h l f = specifiers_fit env true rest first (gather_word W.Char g) s h l f
  specifiers_fit env typed (S.Basic t W.Short rest) first g s h l f = specifiers_fit env true rest first (gather_word W.Short g) s h l f
  specifiers_fit env typed (S.Basic t W.Int rest) first g s h l f = specifiers_fit env true rest first (gather_word W.Int g) s h l f
  specifiers_fit env typed (S.Basic t W.Long rest) first g s h l f = specifiers_fit env true rest first (gather_word W.Long g) s h l f
  specifiers_fit env typed (S.Basic t W.Signed rest) first g s h l f = specifiers_fit env true rest first (gather_word W.Signed g) s h l f
  specifiers_fit env typed (S.Basic t W.Unsigned rest) first g s h l f = specifiers_fit env true rest first (gather_word W.Unsigned g) s h l f
  specifiers_fit env typed (S.TypedefName w rest) first g s h l f =
      post_bind _ _ (λ r. Still s r × IsFit (type_of r.0)) SpecifiersFit (post_both _ (Still s) (λ r. IsFit (type_of r.0)) (typedef_still w s) (typedef_fit w s l.1)) (λ r k.
      specifiers_fit env true rest first (gather_type r.0 None g) r.1 h.2 (subst IsFitting (sym k.0) l) (all_more g.others r.0 f k.1))
  specifiers_fit env typed (S.RecordTag t kind w rest) first g s h l f =
      post_bind _ _ (λ r. (IsLawful r.1 × Grows s r.1 × GoodReference r.1 r.0) × (Fit r.1 × IsFit (type_of r.0.0))) SpecifiersFit
      (post_both _ (λ r. IsLawful r.1 × Grows s r.1 × GoodReference r.1 r.0) (λ r. Fit r.1 × IsFit (type_of r.0.0)) (reference_runs s (record_kind kind) w l.0) (reference_fit (record_kind kind) w s l.1)) (λ r k.
      specifiers_fit env true rest first (gather_type r.0.0 r.0.1 g) r.1 h (k.0.0, k.1.0) (all_more g.others r.0.0 f k.1.1))
  specifiers_fit env typed (S.Record t kind w members rest) first g s h l f =
      post_bind _ _ (λ r. (IsLawful r.1 × Grows s r.1 × Opened s r.1 (record_kind kind) r.0) × Fit r.1) SpecifiersFit
      (post_both _ (λ r. IsLawful r.1 × Grows s r.1 × Opened s r.1 (record_kind kind) r.0) (λ r. Fit r.1) (opening_runs s (record_kind kind) w l.0) (opening_fit (record_kind kind) w s l.1)) (λ r1 k1.
      post_bind _ _ (λ r. MembersRead r1.1 r × NotEmpty r.0) SpecifiersFit
      (post_both _ (MembersRead r1.1) (λ r. NotEmpty r.0) (members_fit env members [] r1.1 h.1 (k1.0.0, k1.1) (λ i m e. never_some e) tt) (members_some env members [] r1.1 h.0 h.1)) (λ r2 k2.
      post_bind _ _ (λ r. (IsLawful r.1 × Grows s r.1 × GoodType r.1 r.0) × (Fit r.1 × IsFit (type_of r.0))) SpecifiersFit
      (post_both _ (λ r. IsLawful r.1 × Grows s r.1 × GoodType r.1 r.0) (λ r. Fit r.1 × IsFit (type_of r.0))
      (closing_runs s r2.1 (record_kind kind) (record_spot w first) r1.0 r2.0 k2.0.0.0 (grows_trans k1.0.1 k2.0.0.1) (opened_later {s = s} {t = r1.1} {u = r2.1} {kind = record_kind kind} {n = r1.0} k2.0.0.1 k1.0.2) k2.0.0.2)
      (closing_fit (record_kind kind) (record_spot w first) r1.0 r2.0 r2.1 k2.0.1.0 k2.1 k2.0.1.1 k2.0.0.2)) (λ r3 k3.
      specifiers_fit (after_members env members) true rest first (gather_type r3.0 None g) r3.1 h.2 (k3.0.0, k3.1.0) (all_more g.others r3.0 f k3.1.1))))
  specifiers_fit env typed (S.EnumTag t w rest) first g s h l f =
      post_bind _ _ (λ r. Still s r × IsFit (type_of r.0)) SpecifiersFit (post_both _ (Still s) (λ r. IsFit (type_of r.0)) (enumeration_still w s) (enumeration_fits w s)) (λ r k.
      specifiers_fit env true rest first (gather_type r.0 None g) r.1 h (subst IsFitting (sym k.0) l) (all_more g.others r.0 f k.1))
  specifiers_fit env typed (S.Enum t w enumerators rest) first g s h l f =
      post_bind _ _ Fitted SpecifiersFit (then_fit _ _ (enumerating_fit w s l) (λ r k. enumerators_fit env enumerators (Some 0) r.1 h.1 k)) (λ r k.
      specifiers_fit (after_enumerators env enumerators) true rest first (gather_type int_type None g) r.1 h.2 k (all_more g.others int_type f tt))

  members_fit : (env : Env) (members : Members) (ms : List MemberValue) (s : State) → WellFormedMembers env members → IsFitting s → GoodMembers s ms → MembersFit ms → Post (members_rule members ms s) (MembersRead s)
  members_fit env S.NoMember ms s h l good fit = ((l.0, Rattle.pw_law_checked.proofs.States.grows_same s, good), (l.1, fit))
  members_fit env (S.Member specifiers ds rest) ms s h l good fit =
      post_bind _ _ (λ r. (IsLawful r.1 × Grows s r.1 × GoodGathered r.1 r.0) × SpecifiersFit r) (MembersRead s)
      (post_both _ (λ r. IsLawful r.1 × Grows s r.1 × GoodGathered r.1 r.0) SpecifiersFit (specifiers_post specifiers (first_of_list specifiers) nothing_gathered s l.0 tt) (specifiers_fit env false specifiers (first_of_list specifiers) nothing_gathered s h.2 l tt)) (λ r1 k1.
      post_bind _ _ (λ r. (IsLawful r.1 × Grows r1.1 r.1 × GoodSpecified r.1 r.0) × (Still r1.1 r × IsFit (type_of r.0.ty))) (MembersRead s)
      (post_both _ (λ r. IsLawful r.1 × Grows r1.1 r.1 × GoodSpecified r.1 r.0) (λ r. Still r1.1 r × IsFit (type_of r.0.ty)) (specified_runs r1.1 (first_of_list specifiers) r1.0 k1.0.0 k1.0.2)
      (post_both _ (Still r1.1) (λ r. IsFit (type_of r.0.ty)) (specified_still (first_of_list specifiers) r1.0 r1.1) (specified_fit (first_of_list specifiers) r1.0 r1.1 k1.1.1))) (λ r2 k2.
      let all : Grows s r2.1 = grows_trans k1.0.1 k2.0.1 in
      post_bind _ _ (MembersRead r2.1) (MembersRead s)
      (member_declarators_fit (after_specifiers env specifiers) (has_type specifiers) ds r2.0 ms r2.1 h.4 (k2.0.0, subst Fit (sym k2.1.0) k1.1.0.1) k2.0.2 k2.1.1 (members_later ms (grows_trans k1.0.1 k2.0.1) good) fit) (λ r3 k3.
      post_weaken _ (MembersRead r3.1) (MembersRead s) (members_fit _ rest r3.0 r3.1 h.5 (k3.0.0, k3.1.0) k3.0.2 k3.1.1)
      (λ r4 k4. read_later {s = s} {t = r3.1} r4 (grows_trans (grows_trans k1.0.1 k2.0.1) k3.0.1) k4))))

  member_declarators_fit : (env : Env) (typed : Bool) (ds : MemberDeclarators) (b : Specified) (ms : List MemberValue) (s : State) → WellFormedMemberDeclarators env typed ds → IsFitting s → GoodSpecified s b → IsFit (type_of b.ty)
      → GoodMembers s ms → MembersFit ms → Post (member_declarators_rule ds b ms s) (MembersRead s)
  member_declarators_fit env typed S.NoMemberDeclarator b ms s h l known k good fit = ((l.0, Rattle.pw_law_checked.proofs.States.grows_same s, good), (l.1, fit))
  member_declarators_fit env typed (S.PlainMember d rest) b ms s h l known k good fit =
      post_bind _ _ (λ r. (IsLawful r.1 × Grows s r.1 × GoodDeclared r.1 r.0) × DeclaratorFits r) (MembersRead s)
      (post_both _ (λ r. IsLawful r.1 × Grows s r.1 × GoodDeclared r.1 r.0) DeclaratorFits (declarator_post d s l.0) (declarator_fit env typed Named d s h.0 l)) (λ r1 k1.
      post_bind _ _ (λ r. (IsLawful r.1 × Grows r1.1 r.1 × GoodMembers r.1 r.0) × ((r.1 ≡ r1.1) × (MembersFit r.0 × NotEmpty r.0))) (MembersRead s)
      (post_both _ (λ r. IsLawful r.1 × Grows r1.1 r.1 × GoodMembers r.1 r.0) (λ r. (r.1 ≡ r1.1) × (MembersFit r.0 × NotEmpty r.0))
      (member_runs r1.1 b r1.0 ms k1.0.0 (later_type b.ty k1.0.1 known) k1.0.2 (members_later ms k1.0.1 good)) (member_fit b r1.0 ms r1.1 k1.1.1 k fit)) (λ r2 k2.
      post_weaken _ (MembersRead r2.1) (MembersRead s)
      (member_declarators_fit (after_declarator env d) typed rest b r2.0 r2.1 h.1 (k2.0.0, subst Fit (sym k2.1.0) k1.1.0.1) (later_type b.ty (grows_trans k1.0.1 k2.0.1) known) k k2.0.2 k2.1.1.0)
      (λ r3 k3. read_later {s = s} {t = r2.1} r3 (grows_trans k1.0.1 k2.0.1) k3)))
  member_declarators_fit env typed (S.BitField d t e rest) b ms s h l known k good fit = after_any _ _ (MembersRead s) (λ r. tt)
  member_declarators_fit env typed (S.Padding t e rest) b ms s h l known k good fit = tt

  enumerators_fit : (env : Env) (enumerators : Enumerators) (value : Option ℕ) (s : State) → WellFormedEnumerators env enumerators → IsFitting s → Post (enumerators_rule enumerators value s) Fitted
  enumerators_fit env S.NoEnumerator value s h l = l
  enumerators_fit env (S.PlainEnumerator w rest) value s h l = then_fit _ _ (enumerator_fit w value s l) (λ r k. enumerators_fit _ rest r.0 r.1 h k)
  enumerators_fit env (S.ValuedEnumerator w e rest) value s h l =
      ask_fit s _ _ l (enumerator_name_still w s) (λ r0 k0.
      valued_fit _ _ (expr_fit env e r0.1 h.1 k0) (λ r1 k1.
      ask_fit r1.1 _ _ k1 (enumerator_value_still (first_of_expr e) r1.0 r1.1) (λ r2 k2. then_fit _ _ (enumerator_fit w (Some r2.0) r2.1 k2) (λ r3 k3. enumerators_fit _ rest r3.0 r3.1 h.2 k3))))

  pub declarator_fit : (env : Env) (typed : Bool) (place : Place) (d : Declarator) (s : State) → WellFormedDeclarator env typed place d → IsFitting s → Post (declarator_rule d s) DeclaratorFits
  declarator_fit env typed place (S.Declaring pointers core suffixes) s h l =
      post_bind _ _ DeclaratorFits DeclaratorFits (core_fit env typed place core s h.0 l) (λ r1 k1.
      post_bind _ _ SuffixesFit DeclaratorFits (suffixes_fit (after_core env core) _ suffixes r1.1 h.1 k1.0) (λ r2 k2.
      (k2.0, steps_more (map pointer_step pointers) (r2.0.derivations ++ r1.0.derivations) (pointer_steps pointers) (steps_more r2.0.derivations r1.0.derivations k2.1 k1.1))))

  core_fit : (env : Env) (typed : Bool) (place : Place) (core : Core) (s : State) → WellFormedCore env typed place core → IsFitting s → Post (core_rule core s) DeclaratorFits
  core_fit env typed place S.Absent s h l = (l, tt)
  core_fit env typed place (S.Name w) s h l = (l, tt)
  core_fit env typed Named (S.Enclosed t d) s h l = declarator_fit env typed Named d s h.2 l
  core_fit env typed Nameless (S.Enclosed t d) s h l = declarator_fit env typed Nameless d s h.2 l
  core_fit env typed Either (S.Enclosed t d) s h l = declarator_fit env typed Either d s h.2 l

  suffixes_fit : (env : Env) (named : Bool) (suffixes : Suffixes) (s : State) → WellFormedSuffixes env named suffixes → IsFitting s → Post (suffixes_rule suffixes s) SuffixesFit
  suffixes_fit env named S.NoSuffix s h l = (l, tt)
  suffixes_fit env named (S.Array t e rest) s h l =
      post_bind _ _ Fitted SuffixesFit (expr_fit env e s h.1 l) (λ r1 k1.
      post_bind _ _ Fitted SuffixesFit (fitted_still r1.1 _ k1 (value_still r1.0 r1.1)) (λ r2 k2.
      post_bind _ _ (λ r. Still r2.1 r × (0 < r.0)) SuffixesFit (post_both _ (Still r2.1) (λ r. 0 < r.0) (length_still (first_of_expr e) r2.0 r2.1) (length_fit (first_of_expr e) r2.0 r2.1)) (λ r3 k3.
      post_bind _ _ SuffixesFit SuffixesFit (suffixes_fit (after_expr env e) named rest r3.1 h.2 (subst IsFitting (sym k3.0) k2)) (λ r4 k4.
      (k4.0, steps_more r4.0.derivations (ToArray (Some r3.0) ∷ []) k4.1 (k3.1, tt))))))
  suffixes_fit env named (S.OpenArray t rest) s h l =
      post_bind _ _ SuffixesFit SuffixesFit (suffixes_fit env named rest s h l) (λ r k. (k.0, steps_more r.0.derivations (ToArray None ∷ []) k.1 (tt, tt)))
  suffixes_fit env named (S.Prototype t parameters rest) s h l =
      post_bind _ _ Fitted SuffixesFit
      (scoped_fit s _ l (λ u k. then_fit _ _ (parameters_fit env parameters [] u h.0 k (inl tt)) (λ r j. fitted_still r.1 _ j (bindings_still r.0 r.1)))) (λ r1 k1.
      post_bind _ _ SuffixesFit SuffixesFit (suffixes_fit env named rest r1.1 h.1 k1) (λ r2 k2.
      (k2.0, steps_more r2.0.derivations (ToFunction (parameter_types r1.0.parameters) ∷ []) k2.1 (tt, tt))))
  suffixes_fit env named (S.Variadic t parameters rest) s h l = tt
  suffixes_fit env named (S.Identifiers t ws rest) s h l = tt

  parameters_fit : (env : Env) (rest : Parameters) (ps : List ParameterValue) (s : State) → WellFormedParameters env rest → IsFitting s → GoodParameters s.types.records (is_last rest) ps → Post (parameters_rule rest ps s) Fitted
  parameters_fit env S.NoParameter ps s h l good = l
  parameters_fit env (S.Parameter specifiers d rest) ps s h l good =
      post_bind _ _ (λ r. (IsLawful r.1 × Grows s r.1 × GoodGathered r.1 r.0) × SpecifiersFit r) Fitted
      (post_both _ (λ r. IsLawful r.1 × Grows s r.1 × GoodGathered r.1 r.0) SpecifiersFit (specifiers_post specifiers (first_of_declaration specifiers d) nothing_gathered s l.0 tt)
      (specifiers_fit env false specifiers (first_of_declaration specifiers d) nothing_gathered s h.1 l tt)) (λ r1 k1.
      post_bind _ _ (λ r. (IsLawful r.1 × Grows r1.1 r.1 × GoodSpecified r.1 r.0) × Still r1.1 r) Fitted
      (post_both _ (λ r. IsLawful r.1 × Grows r1.1 r.1 × GoodSpecified r.1 r.0) (Still r1.1) (specified_runs r1.1 (first_of_declaration specifiers d) r1.0 k1.0.0 k1.0.2) (specified_still (first_of_declaration specifiers d) r1.0 r1.1)) (λ r2 k2.
      post_bind _ _ (λ r. (IsLawful r.1 × Grows r2.1 r.1 × GoodDeclared r.1 r.0) × DeclaratorFits r) Fitted
      (post_both _ (λ r. IsLawful r.1 × Grows r2.1 r.1 × GoodDeclared r.1 r.0) DeclaratorFits
      (goes_on _ _ Nothing GoodDeclared (parameter_storage_runs r2.1 r2.0 k2.0.0) (λ r m g f. declarator_post d r.1 m))
      (post_bind _ _ Fitted DeclaratorFits (fitted_still r2.1 _ (k2.0.0, subst Fit (sym k2.1) k1.1.0.1) (storage_still r2.0 r2.1)) (λ r k. declarator_fit (after_specifiers env specifiers) (has_type specifiers) Either d r.1 h.2 k))) (λ r3 k3.
      post_bind _ _ (λ r. (IsLawful r.1 × Widens r3.1 r.1 × GoodParameters r.1.types.records (is_last rest) r.0) × Fit r.1) Fitted
      (post_both _ (λ r. IsLawful r.1 × Widens r3.1 r.1 × GoodParameters r.1.types.records (is_last rest) r.0) (λ r. Fit r.1)
      (parameter_runs r3.1 (is_last rest) r2.0 r3.0 ps k3.0.0 (later_type r2.0.ty k3.0.1 k2.0.2) k3.0.2
      (scalars_later s.types.records r3.1.types.records (grows_trans k1.0.1 (grows_trans k2.0.1 k3.0.1)).extends ps (scalars_only s.types.records ps good)))
      (parameter_kept _ r2.0 r3.0 ps r3.1 k3.1.0.1)) (λ r4 k4.
      parameters_fit _ rest r4.0 r4.1 h.3 (k4.0.0, k4.1) k4.0.2))))
