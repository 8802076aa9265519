-- Expressions, specifiers and declarators: the types of expressions keep the limit on sizes, and calls that on arguments
-- (ISO C90 5.2.4.1), and of the state the types of names and members.
use Rattle.std.specs.Prelude.{ℕ, ◌≡◌, ◌<◌, ◌^◌, ◌==◌, ◌⊎◌, Bool, true, false, if◌then◌else◌, Option, None, Some, option_and_then, unwrap_or, List, [], ◌∷◌, ◌++◌, length, slice_get, refl}
use Rattle.std.proofs.Common.{arith, ap, sym, subst, ◌∙◌, inl, inr}
use Rattle.pw_tree.specs.declared.expr.BasicType.TheVariants as W
use Rattle.pw_tree.specs.declared.operator.Access.TheVariants.{Dot, Arrow}
use Rattle.pw_tree.specs.declared.operator.StepOperator.TheVariants as J
use Rattle.pw_tree.specs.declared.operator.UnaryOperator.TheVariants as P
use Rattle.pw_tree.specs.FirstTokens.{first_of_expr}
use Rattle.pw_tree.specs.Trees.{Expr, Postfixes, Arguments, Operations, Specifiers, Members, MemberDeclarators, Enumerators, Declarator, Core, Suffixes, Parameters, Word}
use Rattle.pw_tree.specs.Trees as S
use Rattle.pw_tree.specs.Spelling.{spell_expr, spell_postfixes, spell_arguments, spell_operations, spell_specifiers, spell_members, spell_member_declarators, spell_enumerators, spell_declarator, spell_core, spell_suffixes, spell_parameters}
use Rattle.pw_tree.specs.Symbols.{Symbol}
use Rattle.pw_types.specs.declared.kind.IntKind.TheVariants as K
use Rattle.pw_types.specs.declared.record.RecordKind.{RecordKind}
use Rattle.pw_types.specs.Layouts.{content_at}
use Rattle.pw_types.specs.Records.{declared, defined}
use Rattle.pw_types.specs.TypeTrees.{Void, Int, Pointer, Array, Function, Record, QType, Qualified, type_of, MemberValue, ContentValue, RecordValue}
use Rattle.pw_types.specs.TypedTrees.{Expression}
use Rattle.pw_types.specs.TypedTrees as T
use Rattle.pw_value.specs.Words.{int_max, unsigned_sum}
use Rattle.pw_check_walk.specs.Walks.{Walk, bind}
use Rattle.pw_check_rules.specs.Derivations.{Declared, ParameterValue, built, spot_of}
use Rattle.pw_check_rules.specs.Kinds.{int_type}
use Rattle.pw_check_rules.specs.Leaves.{new_record, new_tag, reference_by, reference_rule, opening_by, opening_rule, member_rule, content_by, closing_rule, enumerating_rule, enumerator_name, enumerator_value, enumerator_rule, value_after, named_type, named_point, parameter_rule, enter_parameter, record_kind, record_spot, adjusted, is_last, first_of_list, first_of_declaration, name_text}
use Rattle.pw_check_rules.specs.Operands.{Operand}
use Rattle.pw_check_rules.specs.Operators.{value_rule}
use Rattle.pw_check_rules.specs.Phrases.{expr_rule, postfixes_rule, arguments_rule, operations_rule, specifiers_rule, members_rule, member_declarators_rule, enumerators_rule, declarator_rule, core_rule, suffixes_rule, parameters_rule}
use Rattle.pw_check_rules.specs.SpecifierLists.{Gathered, nothing_gathered, gather_storage, gather_qualifier, gather_word, gather_type, Specified, specified}
use Rattle.pw_check_rules.specs.States.{State, Rule, Entity, TypeName, EnumerationConstant, LocalObject, StaticObject, Linked, enter, put_at, scoped, uncounted, one_deeper, tag_of, tag_here, with_made}
use Rattle.pw_check_rules.specs.declared.names.Tag.{Tag}
use Rattle.pw_check_rules.specs.declared.names.Tag.TheVariants as G
use Rattle.pw_law_checked.specs.Lawful.{IsLawful, IsLawfulType, Extends, AreWords}
use Rattle.pw_law_checked.proofs.Walking.{Post, post_bind, post_weaken, post_both, met_right}
use Rattle.pw_law_checked.proofs.Lists.{some_same, never_some, get_more, get_either, get_one, put_either, length_put}
use Rattle.pw_law_checked.proofs.States.{Runs, Grows, grows_trans, grows_same, Fine, Widens}
use Rattle.pw_law_checked.proofs.Changes.{record_grows, deeper_lawful, left_lawful_alone, Opened, opened_later}
use Rattle.pw_law_checked.proofs.Leaves.{Nothing, reference_runs, GoodReference, opening_runs, GoodMembers, closing_runs, GoodGathered, GoodSpecified, specified_runs, GoodDeclared, GoodType, built_runs, GoodParameters, scalars_later, members_later, member_runs, parameter_runs, enumerator_runs, enumerating_runs}
use Rattle.pw_law_checked.proofs.Phrases.{expr_post, arguments_post, specifiers_post, declarator_post, scalars_only, later_type}
use Rattle.pw_law_checked.proofs.Operations.{AreFine}
use Rattle.pw_law_checked.proofs.Spelled.{AreShort, separated_rest, tag_rest, pointers_rest, expr_rest, arguments_rest, specifiers_rest, members_rest, member_declarators_rest, enumerators_rest, declarator_rest, core_rest, parameters_rest}
use Rattle.pw_law_checked.proofs.Literals.{strings_short}
use Rattle.pw_law_checked.proofs.Types.{extends_same}
use Rattle.pw_law_checked.proofs.Constants.{value_or}
use Rattle.pw_law_checked.proofs.Bounded.{bounded_words}
use Rattle.pw_law_checked.proofs.Sizes.{IsKeptFrom, kept_from, sized_word, within_kept}
use Rattle.pw_law_checked.proofs.SmallLeaves.{IsKeptEntity, AreKeptMembers, HaveKeptMembers, Keeping, IsReady, KeptValue, KeptOperand, AreKeptValues, kept_later, Made, leaf_made, then_leaf, from_value, identifier_leaf, number_leaf, character_leaf, string_made, sign_leaf, deref_leaf, address_leaf, step_leaf, size_leaf, cast_leaf, operation_leaf, conditional_leaf, assignment_leaf, index_leaf, call_leaf, dot_leaf, arrow_leaf}
use Rattle.pw_law_checked.proofs.FitPhrases.{content_of, content_by_record}
use Rattle.pw_law_checked.proofs.Still.{Still, length_still, typedef_still, enumeration_still, enumerator_name_still, specified_still, built_still, storage_still, bindings_still}

-- ---- states

abbrev pub Set : {A : Type 0} → A × State → Type 0
Set r = IsReady r.1

pub set_still : {A : Type 0} (s : State) (w : Walk (A × State)) → IsReady s → Post w (Still s) → Post w Set
set_still s w l h = post_weaken w (Still s) Set h (λ r e. subst IsReady (sym e) l)

pub then_set : {A B : Type 0} (w : Walk (A × State)) (next : A × State → Walk (B × State)) → Post w Set → ((r : A × State) → IsReady r.1 → Post (next r) Set) → Post (bind w next) Set
then_set w next h k = post_bind w next Set Set h k

pub both_set : {A : Type 0} (s : State) (w : Walk (A × State)) (Good : State → A → Type 0) → Runs s w Good → Post w (λ r. Keeping r.1) → Post w Set
both_set {A} s w Good h k =
    post_weaken w (λ r. (IsLawful r.1 × Grows s r.1 × Good r.1 r.0) × Keeping r.1) Set (post_both w (λ r. IsLawful r.1 × Grows s r.1 × Good r.1 r.0) (λ r. Keeping r.1) h k) (λ r g. (g.0.0, g.1))

entity_from : (a b : List RecordValue) → Extends a b → (x : Entity) → IsKeptEntity a x → IsKeptEntity b x
entity_from a b e (TypeName q) h = tt
entity_from a b e (EnumerationConstant n) h = h
entity_from a b e (LocalObject k q register) h = kept_from a b (type_of q) e h
entity_from a b e (StaticObject k q) h = kept_from a b (type_of q) e h
entity_from a b e (Linked place q) h = kept_from a b (type_of q) e h

members_from : (a b : List RecordValue) → Extends a b → (ms : List MemberValue) → AreKeptMembers a ms → AreKeptMembers b ms
members_from a b e ms h = λ i m f. kept_from a b (type_of m.ty) e (h i m f)

pub entered_keeping : (s : State) (name : List ℕ) (x : Entity) → Keeping s → IsKeptEntity s.types.records x → Keeping (enter name x s)
entered_keeping s name x k h = record { members = k.members; strings = k.strings; entities = λ i e g. by i e (get_more s.scopes.entities x i e g) }
  where
    by : (i : ℕ) (e : Entity) → (slice_get s.scopes.entities i ≡ Some e) ⊎ ((i ≡ length s.scopes.entities) × (x ≡ e)) → IsKeptEntity s.types.records e
    by i e (inl g) = k.entities i e g
    by i e (inr g) = subst (IsKeptEntity s.types.records) g.1 h

added_members : (r : List RecordValue) (kind : RecordKind) → Extends r (r ++ declared kind ∷ []) → HaveKeptMembers r → HaveKeptMembers (r ++ declared kind ∷ [])
added_members r kind later h n c e = let x = content_of (r ++ declared kind ∷ []) n c e in by x.0 x.2 (get_more r (declared kind) n x.0 x.1)
  where
    by : (x : RecordValue) → x.content ≡ Some c → (slice_get r n ≡ Some x) ⊎ ((n ≡ length r) × (declared kind ≡ x)) → AreKeptMembers (r ++ declared kind ∷ []) c.members
    by x f (inl g) = members_from r (r ++ declared kind ∷ []) later c.members (h n c (content_by_record r n x c g f))
    by x f (inr g) = never_some (ap (λ (y : RecordValue). y.content) g.1 ∙ f)

put_members : (r : List RecordValue) (kind : RecordKind) (place : ℕ) (c : ContentValue) → Extends r (put_at place (defined kind c) r) → HaveKeptMembers r → AreKeptMembers r c.members → HaveKeptMembers (put_at place (defined kind c) r)
put_members r kind place c later h fit n d e =
    let x = content_of (put_at place (defined kind c) r) n d e in by x.0 x.1 x.2 (put_either place (defined kind c) r n)
  where
    by : (x : RecordValue) → slice_get (put_at place (defined kind c) r) n ≡ Some x → x.content ≡ Some d
        → ((n ≡ place) × (slice_get (put_at place (defined kind c) r) n ≡ Some (defined kind c))) ⊎ (slice_get (put_at place (defined kind c) r) n ≡ slice_get r n) → AreKeptMembers (put_at place (defined kind c) r) d.members
    by x g f (inl k) =
        let one : defined kind c ≡ x = some_same (sym k.1 ∙ g) in
        let same : c ≡ d = some_same (ap (λ (y : RecordValue). y.content) one ∙ f) in
        members_from r (put_at place (defined kind c) r) later d.members (subst (λ (y : ContentValue). AreKeptMembers r y.members) same fit)
    by x g f (inr k) = members_from r (put_at place (defined kind c) r) later d.members (h n d (content_by_record r n x d (sym k ∙ g) f))

put_extends : (r : List RecordValue) (kind : RecordKind) (place : ℕ) (c : ContentValue) → content_at r place ≡ None → Extends r (put_at place (defined kind c) r)
put_extends r kind place c unknown = record {
  longer = let h : length (put_at place (defined kind c) r) ≡ length r = length_put place (defined kind c) r in omega (arith, h);
  kept = λ n d e. by n d e (put_either place (defined kind c) r n);
}
  where
    by : (n : ℕ) (d : ContentValue) → content_at r n ≡ Some d
        → ((n ≡ place) × (slice_get (put_at place (defined kind c) r) n ≡ Some (defined kind c))) ⊎ (slice_get (put_at place (defined kind c) r) n ≡ slice_get r n)
        → content_at (put_at place (defined kind c) r) n ≡ Some d
    by n d e (inl g) = never_some (sym (subst (λ i. content_at r i ≡ None) (sym g.0) unknown) ∙ e)
    by n d e (inr g) = ap (option_and_then (λ (y : RecordValue). y.content)) g ∙ e

-- ---- rules that change the state

pub new_tag_keeping : (kind : RecordKind) (w : Word) (s : State) → IsReady s → Post (new_tag kind w s) (λ r. Keeping r.1)
unfolding new_tag new_record bind
new_tag_keeping kind w s l = λ met.
    let later = (record_grows s kind l.0).extends in
    record { entities = λ k x e. entity_from s.types.records (s.types.records ++ declared kind ∷ []) later x (l.1.entities k x e); members = added_members s.types.records kind later l.1.members; strings = l.1.strings }

pub reference_by_keeping : (kind : RecordKind) (w : Word) (o : Option Tag) (s : State) → IsReady s → Post (reference_by kind w o s) (λ r. Keeping r.1)
unfolding reference_by bind
reference_by_keeping kind w None s l = post_bind (new_tag kind w s) _ (λ r. Keeping r.1) (λ r. Keeping r.1) (new_tag_keeping kind w s l) (λ r g. g)
reference_by_keeping kind w (Some (G.Record n)) s l = λ met. l.1
reference_by_keeping kind w (Some G.Enumeration) s l = tt

reference_set : (kind : RecordKind) (w : Word) (s : State) → IsReady s → Post (reference_rule kind w s) Set
unfolding reference_rule bind
reference_set kind w s l = both_set s (reference_rule kind w s) GoodReference (reference_runs s kind w l.0) (reference_by_keeping kind w (tag_of s w.text) s l)

opening_by_keeping : (kind : RecordKind) (w : Word) (o : Option Tag) (s : State) → IsReady s → Post (opening_by kind w o s) (λ r. Keeping r.1)
unfolding opening_by bind
opening_by_keeping kind w None s l = new_tag_keeping kind w s l
opening_by_keeping kind w (Some (G.Record n)) s l = λ met. l.1
opening_by_keeping kind w (Some G.Enumeration) s l = tt

opening_keeping : (kind : RecordKind) (o : Option Word) (s : State) → IsReady s → Post (opening_rule kind o s) (λ r. Keeping r.1)
unfolding opening_rule new_record bind
opening_keeping kind None s l =
    let later = (record_grows s kind l.0).extends in
    record { entities = λ k x e. entity_from s.types.records (s.types.records ++ declared kind ∷ []) later x (l.1.entities k x e); members = added_members s.types.records kind later l.1.members; strings = l.1.strings }
opening_keeping kind (Some w) s l =
    post_bind (opening_by kind w (tag_here s w.text) s) _ (λ r. Keeping r.1) (λ r. Keeping r.1) (opening_by_keeping kind w (tag_here s w.text) s l) (λ r g. record { entities = g.entities; members = g.members; strings = g.strings })

closing_keeping : (kind : RecordKind) (token n : ℕ) (ms : List MemberValue) (s : State) → Keeping s → content_at s.types.records n ≡ None → AreKeptMembers s.types.records ms → Post (closing_rule kind token n ms s) (λ r. Keeping r.1)
unfolding closing_rule bind
closing_keeping kind token n ms s k unknown fit = λ met.
    let later = put_extends s.types.records kind n (content_by s.types.records kind ms) unknown in
    record {
      entities = λ i x e. entity_from s.types.records (put_at n (defined kind (content_by s.types.records kind ms)) s.types.records) later x (k.entities i x e);
      members = put_members s.types.records kind n (content_by s.types.records kind ms) later k.members fit;
      strings = k.strings;
    }

enumerating_keeping : (o : Option Word) (s : State) → Keeping s → Post (enumerating_rule o s) (λ r. Keeping r.1)
unfolding enumerating_rule bind
enumerating_keeping None s k = k
enumerating_keeping (Some w) s k = λ met. record { entities = k.entities; members = k.members; strings = k.strings }

-- the value of an enumerator, where there is one
abbrev IsWordIfAny : Option ℕ → Type 0
IsWordIfAny None = Unit {0}
IsWordIfAny (Some n) = n < 2 ^ 32

word_or : (o : Option ℕ) → IsWordIfAny o → unwrap_or o 0 < 2 ^ 32
word_or None h = omega arith
word_or (Some n) h = h

word_after : (n : ℕ) → IsWordIfAny (value_after n)
word_after n = by (n == int_max)
  where
    by : (b : Bool) → IsWordIfAny (if b then None else Some (unsigned_sum n 1))
    by true = tt
    by false = omega arith

enumerator_keeping : (w : Word) (value : Option ℕ) (s : State) → Keeping s → IsWordIfAny value → Post (enumerator_rule w value s) (λ r. Keeping r.1)
unfolding enumerator_rule enumerator_name bind
enumerator_keeping w value s k h = λ met counted. entered_keeping s w.text (EnumerationConstant (unwrap_or value 0)) k (word_or value h)

enumerator_next : (w : Word) (value : Option ℕ) (s : State) → Post (enumerator_rule w value s) (λ r. IsWordIfAny r.0)
unfolding enumerator_rule enumerator_name bind
enumerator_next w value s = λ met counted. word_after (unwrap_or value 0)

-- the value that an enumerator is given
enumerator_word : (first : ℕ) (e : Expression) (s : State) → AreWords e → Post (enumerator_value first e s) (λ r. Still s r × (r.0 < 2 ^ 32))
unfolding enumerator_value bind
enumerator_word first e s h = λ met. (refl, value_or e h)

enumerating_set : (o : Option Word) (s : State) → IsReady s → Post (enumerating_rule o s) Set
enumerating_set o s l = both_set s (enumerating_rule o s) Nothing (enumerating_runs s o l.0) (enumerating_keeping o s l.1)

enumerator_set : (w : Word) (value : Option ℕ) (s : State) → IsReady s → IsWordIfAny value → Post (enumerator_rule w value s) (λ r. Set r × IsWordIfAny r.0)
enumerator_set w value s l h =
    post_both (enumerator_rule w value s) Set (λ r. IsWordIfAny r.0) (both_set s (enumerator_rule w value s) Nothing (enumerator_runs s w value l.0) (enumerator_keeping w value s l.1 h)) (enumerator_next w value s)

-- the type that a declarator builds, where nothing else is changed
pub built_here : (s : State) (b : Specified) (d : Declared) (spot : Rattle.pw_check_rules.specs.Limits.Spot) → IsLawful s → GoodSpecified s b → GoodDeclared s d → Post (built spot d.derivations b.ty s) (λ r. (r.1 ≡ s) × IsLawfulType s.types.records (type_of r.0))
built_here s b d spot l h k =
    post_weaken (built spot d.derivations b.ty s) (λ r. Still s r × (IsLawful r.1 × Grows s r.1 × GoodType r.1 r.0)) (λ r. (r.1 ≡ s) × IsLawfulType s.types.records (type_of r.0))
    (post_both (built spot d.derivations b.ty s) (Still s) (λ r. IsLawful r.1 × Grows s r.1 × GoodType r.1 r.0) (built_still spot d.derivations b.ty s) (built_runs s spot d.derivations b.ty l k.0 h))
    (λ r g. (g.0, subst (λ t. GoodType t r.0) g.0 g.1.2))

abbrev pub Named : State → QType × State → Type 0
Named s r = (r.1 ≡ s) × IsKeptFrom s.types.records (type_of r.0)

pub named_here : (s : State) (b : Specified) (d : Declared) → IsLawful s → GoodSpecified s b → GoodDeclared s d → Post (named_type b d s) (Named s)
unfolding named_type bind
named_here s b d l h k =
    post_bind (built (spot_of None b.first b.tag) d.derivations b.ty s) _ (λ r. (r.1 ≡ s) × IsLawfulType s.types.records (type_of r.0)) (Named s) (built_here s b d (spot_of None b.first b.tag) l h k)
    (λ r g met. (g.0, within_kept s.types.records b.first r.0 g.1 (subst (λ t. Rattle.pw_law_checked.proofs.Walking.AreMet (Rattle.pw_check_rules.specs.Limits.type_within t.types.records b.first r.0)) g.0 met)))

more_kept : (r : List RecordValue) (ms : List MemberValue) (x : MemberValue) → AreKeptMembers r ms → IsKeptFrom r (type_of x.ty) → AreKeptMembers r (ms ++ x ∷ [])
more_kept r ms x h k i m e = by (get_either ms (x ∷ []) i m e)
  where
    by : (slice_get ms i ≡ Some m) ⊎ ((j : ℕ) × (slice_get (x ∷ []) j ≡ Some m)) → IsKeptFrom r (type_of m.ty)
    by (inl f) = h i m f
    by (inr f) = subst (λ (y : MemberValue). IsKeptFrom r (type_of y.ty)) (get_one x f.0 m f.1) k

member_kept : (s : State) (b : Specified) (d : Declared) (ms : List MemberValue) → IsLawful s → GoodSpecified s b → GoodDeclared s d → AreKeptMembers s.types.records ms
    → Post (member_rule b d ms s) (λ r. (r.1 ≡ s) × AreKeptMembers s.types.records r.0)
unfolding member_rule bind
member_kept s b d ms l h k all =
    post_bind (built (spot_of d.name b.first b.tag) d.derivations b.ty s) _ (λ r. (r.1 ≡ s) × IsLawfulType s.types.records (type_of r.0)) (λ r. (r.1 ≡ s) × AreKeptMembers s.types.records r.0)
    (built_here s b d (spot_of d.name b.first b.tag) l h k)
    (λ r g met. (
      g.0,
      more_kept s.types.records ms (record { name = name_text d.name; ty = r.0 }) all
          (within_kept s.types.records (spot_of d.name b.first b.tag).token r.0 g.1 (subst (λ t. Rattle.pw_law_checked.proofs.Walking.AreMet (Rattle.pw_check_rules.specs.Limits.type_within t.types.records (spot_of d.name b.first b.tag).token r.0)) g.0 met.1.1.1.1)),
    ))

adjusted_lawful : (r : List RecordValue) (q : QType) → IsLawfulType r (type_of q) → IsLawfulType r (type_of (adjusted q))
adjusted_lawful r (Qualified (Array (Qualified ty c v) n) d w) h = h.0
adjusted_lawful r (Qualified (Function q ps) c v) h = h
adjusted_lawful r (Qualified Void c v) h = h
adjusted_lawful r (Qualified (Int k) c v) h = h
adjusted_lawful r (Qualified (Pointer q) c v) h = h
adjusted_lawful r (Qualified (Record n) c v) h = h

entered_parameter : (o : Option Word) (x : Entity) (s : State) → Keeping s → IsKeptEntity s.types.records x → Keeping (enter_parameter o x s)
entered_parameter None x s k h = k
entered_parameter (Some w) x s k h = entered_keeping s w.text x k h

parameter_keeping : (sole : Bool) (b : Specified) (d : Declared) (ps : List ParameterValue) (s : State) → IsReady s → GoodSpecified s b → GoodDeclared s d → Post (parameter_rule sole b d ps s) (λ r. Keeping r.1)
unfolding parameter_rule bind
parameter_keeping sole b d ps s l h k =
    post_bind (built (spot_of d.name b.first b.tag) d.derivations b.ty s) _ (λ r. (r.1 ≡ s) × IsLawfulType s.types.records (type_of r.0)) (λ r. Keeping r.1) (built_here s b d (spot_of d.name b.first b.tag) l.0 h k)
    (λ r g met.
    let own = met_right (named_point r.1 d.name) _ met in
    entered_parameter d.name (LocalObject (length ps) (adjusted r.0) _) r.1 (subst Keeping (sym g.0) l.1)
    (within_kept r.1.types.records (spot_of d.name b.first b.tag).token (adjusted r.0) (adjusted_lawful r.1.types.records r.0 (subst (λ t. IsLawfulType t.types.records (type_of r.0)) (sym g.0) g.1)) own.1.1))

pub scoped_set : {A : Type 0} (s : State) (inside : Rule A) → IsReady s → ((t : State) → IsReady t → Post (inside t) Set) → Post (scoped inside s) Set
unfolding scoped bind
scoped_set s inside l h =
    then_set (inside (one_deeper s)) _ (h (one_deeper s) (deeper_lawful s l.0, record { entities = l.1.entities; members = l.1.members; strings = l.1.strings }))
    (λ r k. (left_lawful_alone r.1 k.0, record { entities = k.1.entities; members = k.1.members; strings = k.1.strings }))

counted : (s : State) (b : Bool) → IsReady s → IsReady (with_made (λ m. record m { counting = b }) s)
counted s b h = (
  record { contents = h.0.contents; begun = h.0.begun; counted = h.0.counted; entities = h.0.entities; tags = h.0.tags; linked = h.0.linked; laid = h.0.laid; apart = h.0.apart; depths = h.0.depths },
  record { entities = h.1.entities; members = h.1.members; strings = h.1.strings },
)

-- an operand that is read
abbrev Read : Operand × State → Type 0
Read r = IsReady r.1 × KeptOperand r.1 r.0

uncounted_read : (s : State) (inside : Rule Operand) → IsReady s → ((t : State) → IsReady t → Post (inside t) Read) → Post (uncounted inside s) Read
unfolding uncounted bind
uncounted_read s inside l h = post_bind (inside _) _ Read Read (h _ (counted s false l)) (λ r k. (counted r.1 s.made.counting k.0, λ x c. k.1 x c))

-- ---- phrases

-- an expression, and what is done with its operand
pub from_expr : {B : Type 0} (e : Expr) (s : State) (next : Operand × State → Walk (B × State)) (P : B × State → Type 0) → IsLawful s → Post (expr_rule e s) Made
    → ((r : Operand × State) → IsReady r.1 → Grows s r.1 → KeptOperand r.1 r.0 → Post (next r) P) → Post (bind (expr_rule e s) next) P
from_expr e s next P l h k =
    post_bind (expr_rule e s) next (λ r. (IsLawful r.1 × Grows s r.1 × Fine r.1 r.0) × Made r) P
    (post_both (expr_rule e s) (λ r. IsLawful r.1 × Grows s r.1 × Fine r.1 r.0) Made (expr_post e s l) h) (λ r g. k r (g.0.0, g.1.0) g.0.1 g.1.1)

-- the same with its value
pub from_valued : {B : Type 0} (e : Expr) (s : State) (next : Expression × State → Walk (B × State)) (P : B × State → Type 0) → IsLawful s → Post (expr_rule e s) Made
    → ((r : Expression × State) → IsReady r.1 → Grows s r.1 → KeptValue r.1 r.0 → Post (next r) P) → Post (bind (expr_rule e s) (λ t. bind (value_rule t.0 t.1) next)) P
from_valued e s next P l h k = from_expr e s _ P l h (λ r m g a. from_value r.1 r.0 next P a (λ x v. k (x, r.1) m g v))

abbrev MadeAll : List Expression × State → Type 0
MadeAll r = Keeping r.1 × AreKeptValues r.1 r.0

from_arguments : {B : Type 0} (args : Arguments) (s : State) (next : List Expression × State → Walk (B × State)) (P : B × State → Type 0) → IsLawful s → Post (arguments_rule args s) MadeAll
    → ((r : List Expression × State) → IsReady r.1 → Grows s r.1 → AreKeptValues r.1 r.0 → Post (next r) P) → Post (bind (arguments_rule args s) next) P
from_arguments args s next P l h k =
    post_bind (arguments_rule args s) next (λ r. (IsLawful r.1 × Grows s r.1 × AreFine r.1 r.0) × MadeAll r) P
    (post_both (arguments_rule args s) (λ r. IsLawful r.1 × Grows s r.1 × AreFine r.1 r.0) MadeAll (arguments_post args s l) h) (λ r g. k r (g.0.0, g.1.0) g.0.1 g.1.1)

-- a list of specifiers, and then a declarator
pub from_specifiers : {B : Type 0} (specifiers : Specifiers) (first : ℕ) (s : State) (next : Specified × State → Walk (B × State)) (P : B × State → Type 0) → IsLawful s → Post (specifiers_rule specifiers first nothing_gathered s) Set
    → ((r : Specified × State) → IsReady r.1 → Grows s r.1 → GoodSpecified r.1 r.0 → Post (next r) P) → Post (bind (specifiers_rule specifiers first nothing_gathered s) (λ t. bind (specified first t.0 t.1) next)) P
from_specifiers specifiers first s next P l h k =
    post_bind (specifiers_rule specifiers first nothing_gathered s) _ (λ r. (IsLawful r.1 × Grows s r.1 × GoodGathered r.1 r.0) × Set r) P
    (post_both (specifiers_rule specifiers first nothing_gathered s) (λ r. IsLawful r.1 × Grows s r.1 × GoodGathered r.1 r.0) Set (specifiers_post specifiers first nothing_gathered s l tt) h) (λ r1 k1.
    post_bind (specified first r1.0 r1.1) next (λ r. (IsLawful r.1 × Grows r1.1 r.1 × GoodSpecified r.1 r.0) × Still r1.1 r) P
    (post_both (specified first r1.0 r1.1) (λ r. IsLawful r.1 × Grows r1.1 r.1 × GoodSpecified r.1 r.0) (Still r1.1) (specified_runs r1.1 first r1.0 k1.0.0 k1.0.2) (specified_still first r1.0 r1.1)) (λ r2 k2.
    k r2 (k2.0.0, subst Keeping (sym k2.1) k1.1.1) (grows_trans k1.0.1 k2.0.1) k2.0.2))

pub from_declarator : {B : Type 0} (d : Declarator) (s : State) (next : Declared × State → Walk (B × State)) (P : B × State → Type 0) → IsLawful s → Post (declarator_rule d s) Set
    → ((r : Declared × State) → IsReady r.1 → Grows s r.1 → GoodDeclared r.1 r.0 → Post (next r) P) → Post (bind (declarator_rule d s) next) P
from_declarator d s next P l h k =
    post_bind (declarator_rule d s) next (λ r. (IsLawful r.1 × Grows s r.1 × GoodDeclared r.1 r.0) × Set r) P
    (post_both (declarator_rule d s) (λ r. IsLawful r.1 × Grows s r.1 × GoodDeclared r.1 r.0) Set (declarator_post d s l) h) (λ r g. k r g.1 g.0.1 g.0.2)

abbrev MembersRead : State → List MemberValue × State → Type 0
MembersRead s r = (IsLawful r.1 × Grows s r.1 × GoodMembers r.1 r.0) × (Keeping r.1 × AreKeptMembers r.1.types.records r.0)

read_later : {s t : State} (r : List MemberValue × State) → Grows s t → MembersRead t r → MembersRead s r
read_later {s} {t} r g h = ((h.0.0, grows_trans g h.0.1, h.0.2), h.1)

-- an expression whose operand is asked for its type alone
expr_read : (e : Expr) (s : State) → IsReady s → Post (expr_rule e s) Made → Post (expr_rule e s) Read
expr_read e s l h = post_weaken (expr_rule e s) (λ r. (IsLawful r.1 × Grows s r.1 × Fine r.1 r.0) × Made r) Read (post_both (expr_rule e s) (λ r. IsLawful r.1 × Grows s r.1 × Fine r.1 r.0) Made (expr_post e s l.0) h) (λ r g. ((g.0.0, g.1.0), g.1.1))

-- the numbers of a value
value_words : (s : State) (e : Expression) → IsReady s → KeptValue s e → AreWords e
value_words s e l v = bounded_words s.types.records e (v s.types.records (l.0.laid, extends_same s.types.records)).small

-- the size of a type, which keeps the limits wherever it is
abbrev Sized : Operand × State → Type 0
Sized r = IsReady r.1 × ((t : State) → KeptOperand t r.0)

size_made : (t : ℕ) (spot : Rattle.pw_check_rules.specs.Limits.Spot) (q : QType) (s : State) → IsReady s → IsKeptFrom s.types.records (type_of q) → Post (Rattle.pw_check_rules.specs.Operators.type_size_rule t spot q s) Sized
unfolding Rattle.pw_check_rules.specs.Operators.type_size_rule bind
size_made t spot q s l kept = λ met. (
  l,
  λ u r c. Rattle.pw_law_checked.proofs.Small.node_keeps r t (Rattle.pw_check_rules.specs.Kinds.plain (Int K.UInt)) (T.Number _) (Rattle.pw_law_checked.proofs.Sizes.kept_int r K.UInt)
      (sized_word s.types.records (type_of q) l.0.laid (kept s.types.records l.0.laid (extends_same s.types.records)).sized) tt,
)

sized_made : (s : State) (inside : Rule Operand) → IsReady s → ((t : State) → IsReady t → Post (inside t) Sized) → Post (uncounted inside s) Made
unfolding uncounted bind
sized_made s inside l h = post_bind (inside _) _ Sized Made (h _ (counted s false l)) (λ r k. ((counted r.1 s.made.counting k.0).1, k.1 r.1))

mutual
  unfolding expr_rule spell_expr

  pub expr_made : (e : Expr) (z : List Symbol) → AreShort (spell_expr e z) → (s : State) → IsReady s → Post (expr_rule e s) Made
  expr_made (S.Identifier w) z sh s l = leaf_made s _ l.1 (identifier_leaf w s l.1)
  expr_made (S.Number w) z sh s l = leaf_made s _ l.1 (number_leaf w s)
  expr_made (S.Floating w) z sh s l = tt
  expr_made (S.Character w) z sh s l = leaf_made s _ l.1 (character_leaf w s)
  expr_made (S.Wide w) z sh s l = tt
  expr_made (S.Strings ws) z sh s l = string_made ws s (strings_short ws z sh) l.1
  expr_made (S.Paren t e) z sh s l = expr_made e _ sh.1 s l
  expr_made (S.Postfix e rest) z sh s l = from_expr e s _ Made l.0 (expr_made e _ sh s l) (λ r m g a. postfixes_made rest _ (expr_rest e _ sh) r.0 r.1 m a)
  expr_made (S.Unary t P.Sizeof e) z sh s l =
      post_bind _ _ Read Made (uncounted_read s (expr_rule e) l (λ u k. expr_read e u k (expr_made e _ sh.1 u k))) (λ r m. leaf_made r.1 _ m.0.1 (size_leaf t r.0 r.1 m.0.0.laid m.1))
  expr_made (S.Unary t P.Address e) z sh s l = from_expr e s _ Made l.0 (expr_made e _ sh.1 s l) (λ r m g a. leaf_made r.1 _ m.1 (address_leaf t r.0 r.1 a))
  expr_made (S.Unary t P.Increment e) z sh s l = from_expr e s _ Made l.0 (expr_made e _ sh.1 s l) (λ r m g a. leaf_made r.1 _ m.1 (step_leaf t _ r.0 r.1 a))
  expr_made (S.Unary t P.Decrement e) z sh s l = from_expr e s _ Made l.0 (expr_made e _ sh.1 s l) (λ r m g a. leaf_made r.1 _ m.1 (step_leaf t _ r.0 r.1 a))
  expr_made (S.Unary t P.Dereference e) z sh s l = from_valued e s _ Made l.0 (expr_made e _ sh.1 s l) (λ r m g v. leaf_made r.1 _ m.1 (deref_leaf t r.0 r.1 v))
  expr_made (S.Unary t P.Plus e) z sh s l = from_valued e s _ Made l.0 (expr_made e _ sh.1 s l) (λ r m g v. leaf_made r.1 _ m.1 (sign_leaf t P.Plus r.0 r.1 v))
  expr_made (S.Unary t P.Minus e) z sh s l = from_valued e s _ Made l.0 (expr_made e _ sh.1 s l) (λ r m g v. leaf_made r.1 _ m.1 (sign_leaf t P.Minus r.0 r.1 v))
  expr_made (S.Unary t P.Complement e) z sh s l = from_valued e s _ Made l.0 (expr_made e _ sh.1 s l) (λ r m g v. leaf_made r.1 _ m.1 (sign_leaf t P.Complement r.0 r.1 v))
  expr_made (S.Unary t P.Not e) z sh s l = from_valued e s _ Made l.0 (expr_made e _ sh.1 s l) (λ r m g v. leaf_made r.1 _ m.1 (sign_leaf t P.Not r.0 r.1 v))
  expr_made (S.SizeofType t specifiers d) z sh s l =
      sized_made s _ l
      (λ u k. from_specifiers specifiers (first_of_declaration specifiers d) u _ Sized k.0 (specifiers_set specifiers _ sh.1.1 (first_of_declaration specifiers d) nothing_gathered u k) (λ r1 m1 g1 b.
      from_declarator d r1.1 _ Sized m1.0 (declarator_set d _ (specifiers_rest specifiers _ sh.1.1) r1.1 m1) (λ r2 m2 g2 c.
      post_bind _ _ (Named r2.1) Sized (named_here r2.1 r1.0 r2.0 m2.0 (later_type r1.0.ty g2 b) c) (λ r3 k3.
      size_made t _ r3.0 r3.1 (subst IsReady (sym k3.0) m2) (subst (λ u. IsKeptFrom u.types.records (type_of r3.0)) (sym k3.0) k3.1)))))
  expr_made (S.Cast t specifiers d e) z sh s l =
      from_specifiers specifiers (first_of_declaration specifiers d) s _ Made l.0 (specifiers_set specifiers _ sh.1 (first_of_declaration specifiers d) nothing_gathered s l) (λ r1 m1 g1 b.
      from_declarator d r1.1 _ Made m1.0 (declarator_set d _ (specifiers_rest specifiers _ sh.1) r1.1 m1) (λ r2 m2 g2 c.
      post_bind _ _ (Named r2.1) Made (named_here r2.1 r1.0 r2.0 m2.0 (later_type r1.0.ty g2 b) c) (λ r3 k3.
      let m3 : IsReady r3.1 = subst IsReady (sym k3.0) m2 in
      from_valued e r3.1 _ Made m3.0 (expr_made e _ (declarator_rest d _ (specifiers_rest specifiers _ sh.1)).1 r3.1 m3) (λ r4 m4 g4 v.
      leaf_made r4.1 _ m4.1 (cast_leaf t r3.0 r4.0 r4.1 (kept_from r3.1.types.records r4.1.types.records (type_of r3.0) g4.extends (subst (λ u. IsKeptFrom u.types.records (type_of r3.0)) (sym k3.0) k3.1)) v)))))
  expr_made (S.Chain e rest) z sh s l = from_expr e s _ Made l.0 (expr_made e _ sh s l) (λ r m g a. operations_made rest _ (expr_rest e _ sh) r.0 r.1 m a)
  expr_made (S.Conditional t c a b) z sh s l =
      from_valued c s _ Made l.0 (expr_made c _ sh s l) (λ r1 m1 g1 v1.
      from_valued a r1.1 _ Made m1.0 (expr_made a _ (expr_rest c _ sh).1 r1.1 m1) (λ r2 m2 g2 v2.
      from_valued b r2.1 _ Made m2.0 (expr_made b _ (expr_rest a _ (expr_rest c _ sh).1).1 r2.1 m2) (λ r3 m3 g3 v3.
      leaf_made r3.1 _ m3.1 (conditional_leaf t r1.0 r2.0 r3.0 r3.1 (kept_later {s = r1.1} {t = r3.1} {e = r1.0} (grows_trans g2 g3) v1) (kept_later {s = r2.1} {t = r3.1} {e = r2.0} g3 v2) v3))))
  expr_made (S.Assign t op a b) z sh s l =
      from_expr a s _ Made l.0 (expr_made a _ sh s l) (λ r1 m1 g1 v1.
      from_valued b r1.1 _ Made m1.0 (expr_made b _ (expr_rest a _ sh).1 r1.1 m1) (λ r2 m2 g2 v2.
      leaf_made r2.1 _ m2.1 (assignment_leaf t op r1.0 r2.0 r2.1 (kept_later {s = r1.1} {t = r2.1} {e = r1.0.node} g2 v1) v2)))

  postfixes_made : (rest : Postfixes) (z : List Symbol) → AreShort (spell_postfixes rest z) → (a : Operand) (s : State) → IsReady s → KeptOperand s a → Post (postfixes_rule rest a s) Made
  postfixes_made S.NoPostfix z sh a s l f = (l.1, f)
  postfixes_made (S.Index t e rest) z sh a s l f =
      from_value s a _ Made f (λ x v.
      from_valued e s _ Made l.0 (expr_made e _ sh.1 s l) (λ r m g w.
      then_leaf r.1 _ _ Made (index_leaf t x r.0 r.1 (kept_later {s = s} {t = r.1} {e = x} g v) w) (λ c k. postfixes_made rest _ (expr_rest e _ sh.1).1 c r.1 m k)))
  postfixes_made (S.Call t args rest) z sh a s l f =
      from_value s a _ Made f (λ x v.
      from_arguments args s _ Made l.0 (arguments_made true args _ sh.1 s l) (λ r m g ws.
      then_leaf r.1 _ _ Made (call_leaf t x r.0 r.1 (kept_later {s = s} {t = r.1} {e = x} g v) ws) (λ c k. postfixes_made rest _ (arguments_rest true args _ sh.1).1 c r.1 m k)))
  postfixes_made (S.Select t Dot w rest) z sh a s l f = then_leaf s _ _ Made (dot_leaf t w a s l.1 f) (λ c k. postfixes_made rest _ sh.1.1 c s l k)
  postfixes_made (S.Select t Arrow w rest) z sh a s l f = from_value s a _ Made f (λ x v. then_leaf s _ _ Made (arrow_leaf t w x s l.1 v) (λ c k. postfixes_made rest _ sh.1.1 c s l k))
  postfixes_made (S.Step t J.Increment rest) z sh a s l f = then_leaf s _ _ Made (step_leaf t _ a s f) (λ c k. postfixes_made rest _ sh.1 c s l k)
  postfixes_made (S.Step t J.Decrement rest) z sh a s l f = then_leaf s _ _ Made (step_leaf t _ a s f) (λ c k. postfixes_made rest _ sh.1 c s l k)

  arguments_made : (first : Bool) (args : Arguments) (z : List Symbol) → AreShort (spell_arguments first args z) → (s : State) → IsReady s → Post (arguments_rule args s) MadeAll
  arguments_made first S.NoArgument z sh s l = (l.1, λ r c. tt)
  arguments_made first (S.Argument e rest) z sh s l =
      from_valued e s _ MadeAll l.0 (expr_made e _ (separated_rest first _ sh) s l) (λ r1 m1 g1 v.
      from_arguments rest r1.1 _ MadeAll m1.0 (arguments_made false rest _ (expr_rest e _ (separated_rest first _ sh)) r1.1 m1) (λ r2 m2 g2 ws.
      (m2.1, λ r c. (kept_later {s = r1.1} {t = r2.1} {e = r1.0} g2 v r c, ws r c))))

  operations_made : (rest : Operations) (z : List Symbol) → AreShort (spell_operations rest z) → (a : Operand) (s : State) → IsReady s → KeptOperand s a → Post (operations_rule rest a s) Made
  operations_made S.NoOperation z sh a s l f = (l.1, f)
  operations_made (S.Operation t op e rest) z sh a s l f =
      from_value s a _ Made f (λ x v.
      from_valued e s _ Made l.0 (expr_made e _ sh.1 s l) (λ r m g w.
      then_leaf r.1 _ _ Made (operation_leaf t op x r.0 r.1 (kept_later {s = s} {t = r.1} {e = x} g v) w) (λ c k. operations_made rest _ (expr_rest e _ sh.1) c r.1 m k)))

  pub specifiers_set : (specifiers : Specifiers) (z : List Symbol) → AreShort (spell_specifiers specifiers z) → (first : ℕ) (g : Gathered) (s : State) → IsReady s → Post (specifiers_rule specifiers first g s) Set
  specifiers_set S.NoSpecifier z sh first g s l = l
  specifiers_set (S.Storage t storage rest) z sh first g s l = specifiers_set rest _ sh.1 first (gather_storage storage g) s l
  specifiers_set (S.Qualified t q rest) z sh first g s l = specifiers_set rest _ sh.1 first (Rattle.pw_check_rules.specs.SpecifierLists.gather_qualifier q g) s l
  specifiers_set (S.Basic t W.Float rest) z sh first g s l = tt
  specifiers_set (S.Basic t W.Double rest) z sh first g s l = tt
  specifiers_set (S.Basic t W.Void rest) z sh first g s l = specifiers_set rest _ sh.1 first (gather_word W.Void g) s l
  specifiers_set (S.Basic t W.Char rest) z sh first g s l = specifiers_set rest _ sh.1 first (gather_word W.Char g) s l
  specifiers_set (S.Basic t W.Short rest) z sh first g s l = specifiers_set rest _ sh.1 first (gather_word W.Short g) s l
  specifiers_set (S.Basic t W.Int rest) z sh first g s l = specifiers_set rest _ sh.1 first (gather_word W.Int g) s l
  specifiers_set (S.Basic t W.Long rest) z sh first g s l = specifiers_set rest _ sh.1 first (gather_word W.Long g) s l
  specifiers_set (S.Basic t W.Signed rest) z sh first g s l = specifiers_set rest _ sh.1 first (gather_word W.Signed g) s l
  specifiers_set (S.Basic t W.Unsigned rest) z sh first g s l = specifiers_set rest _ sh.1 first (gather_word W.Unsigned g) s l
  specifiers_set (S.TypedefName w rest) z sh first g s l = then_set _ _ (set_still s _ l (typedef_still w s)) (λ r k. specifiers_set rest _ sh.1 first (gather_type r.0 None g) r.1 k)
  specifiers_set (S.RecordTag t kind w rest) z sh first g s l = then_set _ _ (reference_set (record_kind kind) w s l) (λ r k. specifiers_set rest _ sh.1.1 first (gather_type r.0.0 r.0.1 g) r.1 k)
  specifiers_set (S.Record t kind w members rest) z sh first g s l =
      post_bind _ _ (λ r. (IsLawful r.1 × Grows s r.1 × Opened s r.1 (record_kind kind) r.0) × Keeping r.1) Set
      (post_both _ (λ r. IsLawful r.1 × Grows s r.1 × Opened s r.1 (record_kind kind) r.0) (λ r. Keeping r.1) (opening_runs s (record_kind kind) w l.0) (opening_keeping (record_kind kind) w s l)) (λ r1 k1.
      post_bind _ _ (MembersRead r1.1) Set (members_read members _ (tag_rest w _ sh.1).1 [] r1.1 (k1.0.0, k1.1) (λ i m e. never_some e) (λ i m e. never_some e)) (λ r2 k2.
      let begun : Opened s r2.1 (record_kind kind) r1.0 = opened_later {s = s} {t = r1.1} {u = r2.1} {kind = record_kind kind} {n = r1.0} k2.0.1 k1.0.2 in
      post_bind _ _ (λ r. (IsLawful r.1 × Grows s r.1 × GoodType r.1 r.0) × Keeping r.1) Set
      (post_both _ (λ r. IsLawful r.1 × Grows s r.1 × GoodType r.1 r.0) (λ r. Keeping r.1)
      (closing_runs s r2.1 (record_kind kind) (record_spot w first) r1.0 r2.0 k2.0.0 (grows_trans k1.0.1 k2.0.1) begun k2.0.2)
      (closing_keeping (record_kind kind) (record_spot w first) r1.0 r2.0 r2.1 k2.1.0 begun.unknown k2.1.1)) (λ r3 k3.
      specifiers_set rest _ (members_rest members _ (tag_rest w _ sh.1).1).1 first (gather_type r3.0 None g) r3.1 (k3.0.0, k3.1))))
  specifiers_set (S.EnumTag t w rest) z sh first g s l = then_set _ _ (set_still s _ l (enumeration_still w s)) (λ r k. specifiers_set rest _ sh.1.1 first (gather_type r.0 None g) r.1 k)
  specifiers_set (S.Enum t w enumerators rest) z sh first g s l =
      then_set _ _ (then_set _ _ (enumerating_set w s l) (λ r k. enumerators_set true enumerators _ (tag_rest w _ sh.1).1 (Some 0) (omega arith) r.1 k)) (λ r k. specifiers_set rest _ (enumerators_rest true enumerators _ (tag_rest w _ sh.1).1).1 first (gather_type int_type None g) r.1 k)

  members_read : (members : Members) (z : List Symbol) → AreShort (spell_members members z) → (ms : List MemberValue) (s : State) → IsReady s → GoodMembers s ms → AreKeptMembers s.types.records ms → Post (members_rule members ms s) (MembersRead s)
  members_read S.NoMember z sh ms s l good fit = ((l.0, grows_same s, good), (l.1, fit))
  members_read (S.Member specifiers ds rest) z sh ms s l good fit =
      from_specifiers specifiers (first_of_list specifiers) s _ (MembersRead s) l.0 (specifiers_set specifiers _ sh (first_of_list specifiers) nothing_gathered s l) (λ r1 m1 g1 b.
      post_bind _ _ (MembersRead r1.1) (MembersRead s)
      (member_declarators_read true ds _ (specifiers_rest specifiers _ sh) r1.0 ms r1.1 m1 b (members_later ms g1 good) (members_from s.types.records r1.1.types.records g1.extends ms fit)) (λ r2 k2.
      post_weaken _ (MembersRead r2.1) (MembersRead s) (members_read rest _ (member_declarators_rest true ds _ (specifiers_rest specifiers _ sh)).1 r2.0 r2.1 (k2.0.0, k2.1.0) k2.0.2 k2.1.1) (λ r3 k3. read_later {s = s} {t = r2.1} r3 (grows_trans g1 k2.0.1) k3)))

  member_declarators_read : (lead : Bool) (ds : MemberDeclarators) (z : List Symbol) → AreShort (spell_member_declarators lead ds z) → (b : Specified) (ms : List MemberValue) (s : State) → IsReady s → GoodSpecified s b → GoodMembers s ms → AreKeptMembers s.types.records ms
      → Post (member_declarators_rule ds b ms s) (MembersRead s)
  member_declarators_read lead S.NoMemberDeclarator z sh b ms s l known good fit = ((l.0, grows_same s, good), (l.1, fit))
  member_declarators_read lead (S.PlainMember d rest) z sh b ms s l known good fit =
      from_declarator d s _ (MembersRead s) l.0 (declarator_set d _ (separated_rest lead _ sh) s l) (λ r1 m1 g1 c.
      let all = members_from s.types.records r1.1.types.records g1.extends ms fit in
      post_bind _ _ (λ r. (IsLawful r.1 × Grows r1.1 r.1 × GoodMembers r.1 r.0) × ((r.1 ≡ r1.1) × AreKeptMembers r1.1.types.records r.0)) (MembersRead s)
      (post_both _ (λ r. IsLawful r.1 × Grows r1.1 r.1 × GoodMembers r.1 r.0) (λ r. (r.1 ≡ r1.1) × AreKeptMembers r1.1.types.records r.0)
      (member_runs r1.1 b r1.0 ms m1.0 (later_type b.ty g1 known) c (members_later ms g1 good)) (member_kept r1.1 b r1.0 ms m1.0 (later_type b.ty g1 known) c all)) (λ r2 k2.
      post_weaken _ (MembersRead r2.1) (MembersRead s)
      (member_declarators_read false rest _ (declarator_rest d _ (separated_rest lead _ sh)) b r2.0 r2.1 (k2.0.0, subst Keeping (sym k2.1.0) m1.1) (later_type b.ty (grows_trans g1 k2.0.1) known) k2.0.2 (subst (λ t. AreKeptMembers t.types.records r2.0) (sym k2.1.0) k2.1.1))
      (λ r3 k3. read_later {s = s} {t = r2.1} r3 (grows_trans g1 k2.0.1) k3)))
  member_declarators_read lead (S.BitField d t e rest) z sh b ms s l known good fit = from_declarator d s _ (MembersRead s) l.0 (declarator_set d _ (separated_rest lead _ sh) s l) (λ r m g c. tt)
  member_declarators_read lead (S.Padding t e rest) z sh b ms s l known good fit = tt

  enumerators_set : (lead : Bool) (enumerators : Enumerators) (z : List Symbol) → AreShort (spell_enumerators lead enumerators z) → (value : Option ℕ) → IsWordIfAny value → (s : State) → IsReady s → Post (enumerators_rule enumerators value s) Set
  enumerators_set lead S.NoEnumerator z sh value h s l = l
  enumerators_set lead (S.PlainEnumerator w rest) z sh value h s l =
      post_bind _ _ (λ r. Set r × IsWordIfAny r.0) Set (enumerator_set w value s l h) (λ r k. enumerators_set false rest _ (separated_rest lead _ sh).1 r.0 k.1 r.1 k.0)
  enumerators_set lead (S.ValuedEnumerator w e rest) z sh value h s l =
      then_set _ _ (set_still s _ l (enumerator_name_still w s)) (λ r0 k0.
      from_valued e r0.1 _ Set k0.0 (expr_made e _ (separated_rest lead _ sh).1.1 r0.1 k0) (λ r1 m1 g1 v.
      post_bind _ _ (λ r. Still r1.1 r × (r.0 < 2 ^ 32)) Set (enumerator_word (first_of_expr e) r1.0 r1.1 (value_words r1.1 r1.0 m1 v)) (λ r2 k2.
      post_bind _ _ (λ r. Set r × IsWordIfAny r.0) Set (enumerator_set w (Some r2.0) r2.1 (subst IsReady (sym k2.0) m1) k2.1) (λ r3 k3.
      enumerators_set false rest _ (expr_rest e _ (separated_rest lead _ sh).1.1) r3.0 k3.1 r3.1 k3.0))))

  pub declarator_set : (d : Declarator) (z : List Symbol) → AreShort (spell_declarator d z) → (s : State) → IsReady s → Post (declarator_rule d s) Set
  declarator_set (S.Declaring pointers core suffixes) z sh s l = then_set _ _ (core_set core _ (pointers_rest pointers _ sh) s l) (λ r1 k1. then_set _ _ (suffixes_set suffixes _ (core_rest core _ (pointers_rest pointers _ sh)) r1.1 k1) (λ r2 k2. k2))

  core_set : (core : Core) (z : List Symbol) → AreShort (spell_core core z) → (s : State) → IsReady s → Post (core_rule core s) Set
  core_set S.Absent z sh s l = l
  core_set (S.Name w) z sh s l = l
  core_set (S.Enclosed t d) z sh s l = declarator_set d _ sh.1 s l

  suffixes_set : (suffixes : Suffixes) (z : List Symbol) → AreShort (spell_suffixes suffixes z) → (s : State) → IsReady s → Post (suffixes_rule suffixes s) Set
  suffixes_set S.NoSuffix z sh s l = l
  suffixes_set (S.Array t e rest) z sh s l =
      from_valued e s _ Set l.0 (expr_made e _ sh.1 s l) (λ r1 m1 g1 v.
      then_set _ _ (set_still r1.1 _ m1 (length_still (first_of_expr e) r1.0 r1.1)) (λ r2 k2. then_set _ _ (suffixes_set rest _ (expr_rest e _ sh.1).1 r2.1 k2) (λ r3 k3. k3)))
  suffixes_set (S.OpenArray t rest) z sh s l = then_set _ _ (suffixes_set rest _ sh.1.1 s l) (λ r k. k)
  suffixes_set (S.Prototype t parameters rest) z sh s l =
      then_set _ _ (scoped_set s _ l (λ u k. then_set _ _ (parameters_set true parameters _ sh.1 [] u k (inl tt)) (λ r j. set_still r.1 _ j (bindings_still r.0 r.1)))) (λ r1 k1.
      then_set _ _ (suffixes_set rest _ (parameters_rest true parameters _ sh.1).1 r1.1 k1) (λ r2 k2. k2))
  suffixes_set (S.Variadic t parameters rest) z sh s l = tt
  suffixes_set (S.Identifiers t ws rest) z sh s l = tt

  parameters_set : (lead : Bool) (rest : Parameters) (z : List Symbol) → AreShort (spell_parameters lead rest z) → (ps : List ParameterValue) (s : State) → IsReady s → GoodParameters s.types.records (is_last rest) ps → Post (parameters_rule rest ps s) Set
  parameters_set lead S.NoParameter z sh ps s l good = l
  parameters_set lead (S.Parameter specifiers d rest) z sh ps s l good =
      from_specifiers specifiers (first_of_declaration specifiers d) s _ Set l.0 (specifiers_set specifiers _ (separated_rest lead _ sh) (first_of_declaration specifiers d) nothing_gathered s l) (λ r1 m1 g1 b.
      post_bind _ _ (λ r. (IsLawful r.1 × Grows r1.1 r.1 × GoodDeclared r.1 r.0) × Set r) Set
      (post_bind _ _ (Still r1.1) (λ r. (IsLawful r.1 × Grows r1.1 r.1 × GoodDeclared r.1 r.0) × Set r) (storage_still r1.0 r1.1) (λ u e.
      subst (λ t. Post (declarator_rule d t) (λ r. (IsLawful r.1 × Grows r1.1 r.1 × GoodDeclared r.1 r.0) × Set r)) (sym e)
      (post_both (declarator_rule d r1.1) (λ r. IsLawful r.1 × Grows r1.1 r.1 × GoodDeclared r.1 r.0) Set (declarator_post d r1.1 m1.0) (declarator_set d _ (specifiers_rest specifiers _ (separated_rest lead _ sh)) r1.1 m1)))) (λ r2 k2.
      post_bind _ _ (λ r. (IsLawful r.1 × Widens r2.1 r.1 × GoodParameters r.1.types.records (is_last rest) r.0) × Keeping r.1) Set
      (post_both _ (λ r. IsLawful r.1 × Widens r2.1 r.1 × GoodParameters r.1.types.records (is_last rest) r.0) (λ r. Keeping r.1)
      (parameter_runs r2.1 (is_last rest) r1.0 r2.0 ps k2.0.0 (later_type r1.0.ty k2.0.1 b) k2.0.2
      (scalars_later s.types.records r2.1.types.records (grows_trans g1 k2.0.1).extends ps (scalars_only s.types.records ps good)))
      (parameter_keeping _ r1.0 r2.0 ps r2.1 k2.1 (later_type r1.0.ty k2.0.1 b) k2.0.2)) (λ r3 k3.
      parameters_set false rest _ (declarator_rest d _ (specifiers_rest specifiers _ (separated_rest lead _ sh))) r3.0 r3.1 (k3.0.0, k3.1) k3.0.2)))
