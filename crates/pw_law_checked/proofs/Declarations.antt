-- Declarations leave a lawful state.
use Rattle.std.proofs.lemmas.Bool.{eqb-true}
use Rattle.pw_law_checked.proofs.Parts.{sized}
use Rattle.pw_law_checked.proofs.Giving.{Initialises}
use Rattle.pw_law_checked.proofs.Settled.{HasItems, IsMade, Rise, Settled, known_onward, onward_put, origins_same, scopes_grown}
use Rattle.pw_law_checked.proofs.Giving.{object_all, open_later, value_complete}
use Rattle.pw_law_checked.proofs.Defined.{IsOpen, noted_items, open_shared}
use Rattle.pw_types.specs.Records.{IsObjectType}
use Rattle.pw_law_checked.proofs.Objects.{completed_so, object_later}
use Rattle.pw_law_checked.proofs.Outside.{Outside, outside_trans, AreShallow}
use Rattle.pw_law_checked.proofs.ObjectTypes.{KeepsLimit, within_keeps, function_keeps, IsWithin, object_is, within_fits}
use Rattle.pw_law_checked.proofs.Declaring.{entered_outside, hidden_kept, hidden_put, entity_becomes, plain_entered, static_entered, Linkable, linkable, declared_goes, GoodPlace, DeclaredHere, here_later, defined_scopes, defined_place, visible_before, tentative_after, object_after, initialised_after, keeps_put, put_sound, filling_put, here}
use Rattle.pw_law_checked.proofs.Locals.{place_of_new}
use Rattle.pw_law_checked.proofs.Sound.{Sound, named_same, filling_same, Continues, Filling, Spelled, continues_same}
use Rattle.pw_law_checked.proofs.Composite.{Covers, covers_same, covers_first}
use Rattle.pw_law_checked.proofs.States.{Grows}
use Rattle.pw_law_checked.proofs.Lists.{Longer, some_same, get_last, get_within, put_same, get_more, get_append, put_either, never_some}
use Rattle.pw_check_rules.specs.declared.names.Slot.{Slot}
use Rattle.pw_check_rules.specs.declared.names.Slot.TheVariants as slot
use Rattle.pw_check_walk.specs.Causes.{needs, InitialisedHere, CompleteObject, InitialisedKind}
use Rattle.std.proofs.Common.{ap, sym, subst, ◌∙◌, inl, inr, arith}
use Rattle.pw_check_rules.specs.Compatible.{compatible, composite}
use Rattle.pw_law_checked.proofs.Walking.{Post, post_bind, post_both, AreMet, met_left, truth, met_right}
use Rattle.std.specs.Prelude.{ℕ, ◌≡◌, Bool, true, false, not, Option, None, Some, is_some, List, [], ◌∷◌, if◌then◌else◌, refl, is_none, ◌++◌, ◌||◌, length, slice_get, ◌⊎◌, ◌<◌}
use Rattle.std.specs.Option.{option_map_or}
use Rattle.pw_tree.specs.Trees.{Word, Decl, InitDeclarator, Initializer, Init, Specifiers, Declarator}
use Rattle.pw_tree.specs.Trees as S
use Rattle.pw_types.specs.declared.record.RecordKind.{RecordKind}
use Rattle.pw_types.specs.TypeTrees.{QType, type_of, CType, Void, Int, Pointer, Array, Function, Record, RecordValue}
use Rattle.pw_types.specs.TypedTrees.{Initialiser, LocalValue, PlacedItem}
use Rattle.pw_types.specs.WellTyped.{IsFunctionType}
use Rattle.pw_check_walk.specs.Walks.{Walk, Done, bind, change, pure, ◌>>◌}
use Rattle.pw_check_rules.specs.Declarations.{Sort, ATypedef, AFunction, AGlobal, AnExtern, AStatic, ALocal, sort_of, asking_of, name_rule, hidden_of, local_of, is_tentative, completed_rule, fitting_rule, context_of, global_rule, static_rule, put_local, bytes_rule, single_rule, local_initialiser, local_rule, declare_rule, name_of, init_declarator_rule, init_declarators_rule, storage_rule, declares_something, specified_rule, bare_rule, declarators_rule, decl_rule, decls_rule, sort_point, function_point, definition_point, global_point, place_here, object_point}
use Rattle.pw_check_rules.specs.Derivations.{spot_of}
use Rattle.pw_check_rules.specs.Initialisers.{object_rule, is_by_bytes, Initialised}
use Rattle.pw_check_rules.specs.Kinds.{is_function, is_const_object, is_void, is_open_array, is_array}
use Rattle.pw_check_rules.specs.Leaves.{alone_by, alone_rule, record_kind, first_of_list}
use Rattle.pw_check_rules.specs.Limits.{Spot, type_within, completed}
use Rattle.pw_check_rules.specs.Linkage.{AsBefore, declare_linked, define_tentatively, define_object, initialise_linked, note_here, named_type, type_now, AsInternal, AsExternal, is_linked, is_internal_by, linked_before, place_for, linkage_point}
use Rattle.pw_check_rules.specs.SpecifierLists.{Specified, nothing_gathered, is_typedef, is_extern, is_static, is_register}
use Rattle.pw_check_rules.specs.States.{State, TypeName, LocalObject, StaticObject, is_file_scope, add_hidden, put_hidden, add_local, HiddenObject, next_hidden, next_local, tag_here, Entity, EnumerationConstant, Linked, entity_here, entry_here, LinkedName, records_in, enter, put_at, TypeState, put_linked}
use Rattle.pw_check_rules.specs.declared.names.Tag.{Tag}
use Rattle.pw_law_checked.specs.Lawful.{IsLawful, IsLawfulType, IsObjectLike, IsLawfulTag, IsLawfulEntity, Extends}
use Rattle.pw_law_checked.proofs.Types.{lawful_later, no, is_complete_so, extends_same}
use Rattle.pw_law_checked.proofs.Conversions.{no_function}
use Rattle.pw_law_checked.proofs.Changes.{like_later, entered_sound}
use Rattle.pw_law_checked.proofs.Leaves.{GoodType, GoodGathered, GoodSpecified, GoodDeclared, GoodReference, Fresh, specified_runs, built_runs, reference_by_runs, new_tag_runs, tag_here_lawful, none_here}
use Rattle.pw_law_checked.proofs.Phrases.{specifiers_post, declarator_post}
use Rattle.pw_law_checked.proofs.Initialisers.{IsLawfully, single_no_array}
use Rattle.pw_law_checked.proofs.Keeping.{after_same, after_trans, Kept, Goes, goes_by, of_runs, changed, asked, Anything, here_is, After, AfterBy, KeptBy, GoesBy, goes_between, after_grows, from_kept, kept_trans, AreLocals, after_by, knows_linked, keeps_longer, keeps_trans, entity_put, entered_kept, around, nothing, after_from}

completed_goes : (s : State) (w : Word) (q : QType) → IsLawful s → Goes s (completed_rule w q s) Anything
unfolding completed_rule bind
completed_goes s w q l = λ met. (l, after_same s, tt)

fitting_goes : (s : State) (w : Word) (place : ℕ) (q : QType) → IsLawful s → Goes s (fitting_rule w place q s) Anything
unfolding fitting_rule bind
fitting_goes s w place q l = λ met. (l, after_same s, tt)

name_goes : (s : State) (sort : Sort) (spot : Spot) (w : Word) (initialised : Bool) (b : Specified) (q : QType) → IsLawful s
    → Goes s (name_rule sort spot w initialised b q s) (λ t a. AreMet (sort_point t sort spot w initialised b q) × AreMet (type_within t.types.records w.token q))
unfolding name_rule bind
name_goes s sort spot w initialised b q l = λ met. (l, after_same s, (met_left (sort_point s sort spot w initialised b q) _ met, (met_right (sort_point s sort spot w initialised b q) _ met).1))

-- what the constraint on an object says that is initialised
opened_so : (r : List RecordValue) (spot : Spot) (q : QType) → AreMet (object_point r spot true q) → IsOpen r q
opened_so r spot q met = by (is_open_array (type_of q)) refl met
  where
    by : (b : Bool) → is_open_array (type_of q) ≡ b → AreMet (if b then [] else completed r spot InitialisedKind (type_of q) ∷ []) → IsOpen r q
    by true e m = inl e
    by false e m = inr (is_complete_so r (type_of q) (completed_so r spot InitialisedKind (type_of q) m.0))

-- ---- objects with linkage

done_then : {A B : Type 0} (a : A) (next : A → Walk B) (P : B → Type 0) → Post (next a) P → Post (bind (Done a) next) P
unfolding bind
done_then a next P h = h

-- an object is no function
not_function : (ty : CType) → (IsFunctionType ty → ⊥) → is_function ty ≡ false
not_function (Function q ps) h = absurd (h (q, ps, refl))
not_function Void h = refl
not_function (Int k) h = refl
not_function (Pointer q) h = refl
not_function (Array q n) h = refl
not_function (Record n) h = refl

-- by its declarations in the scope a name has a lawful type
named_lawful : (s : State) (name : List ℕ) (q : QType) → IsLawful s → IsLawfully s.types.records q → IsLawfully s.types.records (named_type s name q)
named_lawful s name q l h = by (entity_here s name) refl
  where
    by_entity : (x : Entity) → IsLawfulEntity s.types.records x → IsLawfully s.types.records (type_now q x)
    by_entity (Linked n ty) k = k
    by_entity (TypeName ty) k = h
    by_entity (EnumerationConstant n) k = h
    by_entity (LocalObject n ty register) k = h
    by_entity (StaticObject n ty) k = h

    by : (o : Option Entity) → entity_here s name ≡ o → IsLawfully s.types.records (option_map_or (type_now q) o q)
    by None e = h
    by (Some x) e = by_entity x (here_is s name x l e)

-- its first bytes, and its type
initialised_post : (from s : State) (w : Word) (place : ℕ) (ty : QType) (items : List PlacedItem) (l : LinkedName) → AfterBy nothing (Some (slot.Named place), Some (slot.Named place)) from s → IsLawful s
    → IsLawfully s.types.records ty → slice_get s.types.linked place ≡ Some l → l.name ≡ w.text → l.defined ≡ true → (Sound None from → (y : Entity) → entity_here s w.text ≡ Some y → is_linked y ≡ true)
    → (Sound None from → AreShallow from.scopes → Settled None from → HasItems (note_here w.text place ty (put_linked place (record l { ty = composite l.ty ty; items = items }) s)) place (record l { ty = composite l.ty ty; items = items }))
    → Post ((fitting_rule w place ty >> change (initialise_linked place ty items) >> change (note_here w.text place ty) >> pure []) s) (λ (r : List Initialiser × State). IsLawful r.1 × After from r.1 × Unit {0})
unfolding fitting_rule bind
initialised_post from s w place ty items l a lawful known at named defined linked good = λ met.
    let alike : compatible l.ty ty ≡ true = sym (ap (λ o. option_map_or (λ (x : LinkedName). compatible x.ty ty) o true) at) ∙ truth _ met.0 in
    let k : Kept from (note_here w.text place ty (initialise_linked place ty items s)) = initialised_after from s w.text place ty items l a lawful known (within_keeps s.types.records (type_of ty) (within_fits s.types.records w.token ty met.1)) at named defined alike linked good in
    (k.0, k.1, tt)

abbrev Stored : Word → State → Slot
Stored w s = slot.Named (place_for s w.text)

-- a name with linkage that is defined, and of which no less is known than of the type
abbrev IsDefinedAs : List ℕ → QType → State → ℕ → Type 0
IsDefinedAs name q s place = (x : LinkedName) × (slice_get s.types.linked place ≡ Some x) × (x.name ≡ name) × (x.defined ≡ true) × Covers x.ty q

-- what is known where the initialiser of such a name is read, by the type that its declarations in the scope give it
pub record Reads (e : State) (w : Word) (q ty : QType) (place : ℕ) (l : LinkedName) : Type 0 where
  pub lawful : IsLawful e
  pub here : DeclaredHere w.text e.scopes
  pub is : ty ≡ named_type e w.text q
  pub opens : IsOpen e.types.records q
  pub at : slice_get e.types.linked place ≡ Some l
  pub named : l.name ≡ w.text
  pub covers : Covers l.ty q

-- behind it the name is complete at file scope, and has its items
defined_items : (p : Option Slot) (e u : State) (w : Word) (q ty : QType) (place : ℕ) (l : LinkedName) (o : Initialised) → Reads e w q ty place l → IsLawful u → u.scopes.depth ≡ 0 → Grows e u → Initialises e u ty o
    → Sound p e → Settled (Some (slot.Named place)) e
    → HasItems (note_here w.text place o.ty (put_linked place (record l { ty = composite l.ty o.ty; items = o.filled.items }) u)) place (record l { ty = composite l.ty o.ty; items = o.filled.items })
defined_items p e u w q ty place l o r lawful zero g i hs z =
    let x = here e w.text r.here.0 hs r.here.1 in
    by x.entity x.there x.is_it x.spelled (r.here.2 x.entity x.there)
  where
    at : slice_get u.types.linked place ≡ Some l
    at = ap (λ xs. slice_get xs place) g.linked ∙ r.at

    continues : Continues l (record l { ty = composite l.ty o.ty; items = o.filled.items })
    continues = record { name = refl; internal = refl; tentative = λ y. y; defined = λ y. y; covers = covers_first u.types.records l.ty o.ty (lawful.linked place l at) }

    linked : (n : ℕ) (t : QType) → slice_get e.scopes.entities r.here.0.place ≡ Some (Linked n t) → entity_here e w.text ≡ Some (Linked n t) → Spelled e.types.linked w.text (Linked n t)
        → HasItems (note_here w.text place o.ty (put_linked place (record l { ty = composite l.ty o.ty; items = o.filled.items }) u)) place (record l { ty = composite l.ty o.ty; items = o.filled.items })
    linked n t there is spelled =
        let same : n ≡ place = r.lawful.apart n place spelled.0 l spelled.1 r.at (spelled.2 ∙ sym r.named) in
        let backed = hs.backed r.here.0.place (Linked n t) there in
        let one : backed.0 ≡ l = some_same (sym backed.1 ∙ (ap (slice_get e.types.linked) same ∙ r.at)) in
        let typed : ty ≡ t = r.is ∙ ap (λ y. option_map_or (type_now q) y q) is in
        let opens : IsOpen e.types.records ty =
        subst (IsOpen e.types.records) (sym typed) (open_shared e.types.records t q l.ty (subst (λ (y : LinkedName). Covers y.ty t) one backed.2) r.covers (r.lawful.entities r.here.0.place (Linked n t) there) r.opens) in
        noted_items u w.text place o.ty r.here.0 t (record l { ty = composite l.ty o.ty; items = o.filled.items }) lawful zero (g.here w.text r.here.0 r.here.1)
        (subst (λ k. slice_get u.scopes.entities r.here.0.place ≡ Some (Linked k t)) same (g.entities r.here.0.place (Linked n t) there)) (subst (Covers o.ty) typed i.covers) (i.complete opens) (i.rise opens)
        (i.known (record { lawful = r.lawful; pending = p; sound = hs; counting = z.counting })) r.named (onward_put place l (record l { ty = composite l.ty o.ty; items = o.filled.items }) u.types.linked at continues)

    by : (y : Entity) → slice_get e.scopes.entities r.here.0.place ≡ Some y → entity_here e w.text ≡ Some y → Spelled e.types.linked w.text y → is_linked y ≡ true
        → HasItems (note_here w.text place o.ty (put_linked place (record l { ty = composite l.ty o.ty; items = o.filled.items }) u)) place (record l { ty = composite l.ty o.ty; items = o.filled.items })
    by (Linked n t) there is spelled f = linked n t there is spelled
    by (TypeName t) there is spelled f = no f
    by (EnumerationConstant n) there is spelled f = no f
    by (LocalObject n t register) there is spelled f = no f
    by (StaticObject n t) there is spelled f = no f

-- the object is defined, and its declarations in the scope give it this type
abbrev Defining : Word → QType → State → ℕ → QType × State → Type 0
Defining w q before place e =
    IsLawful e.1 × AfterBy nothing (Some (Stored w before), Some (slot.Named place)) before e.1 × IsLawfully e.1.types.records e.0 × IsDefinedAs w.text q e.1 place × DeclaredHere w.text e.1.scopes
    × (e.0 ≡ named_type e.1 w.text q)

-- with an initialiser
defined_goes : (s : State) (w : Word) (b : Specified) (spot : Spot) (q : QType) (i : Initializer) → IsLawful s → IsLawfully s.types.records q → KeepsLimit s.types.records (type_of q) → is_function (type_of q) ≡ false → IsOpen s.types.records q
    → s.scopes.depth ≡ 0 → Linkable s w.text q → Goes s (global_rule w b spot q (Some i) s) Anything
unfolding global_rule
defined_goes s w b spot q i l h limit object opens zero link =
    post_bind _ _ (λ r. IsLawful r.1 × AfterBy nothing (Some (Stored w s), None) s r.1 × GoodPlace w.text q (place_for s w.text) r.1 r.0) (λ r. IsLawful r.1 × After s r.1 × Unit {0})
    (declared_goes (Some (Stored w s)) s w.text w.token b.tag (asking_of AGlobal b) q l h limit link (λ z none e f. refl)) (λ r g.
    let k : KeptBy (Some (Stored w s), None) (Some (Stored w s), Some (slot.Named r.0)) r.1 (define_object r.0 r.1) =
    object_after (Some (Stored w s)) (Some (Stored w s)) r.1 r.0 g.2.1.0 g.0 g.2.1.1 (g.2.1.3.function ∙ object) (λ n e. inr e) in
    let a : AfterBy nothing (Some (Stored w s), Some (slot.Named r.0)) s (define_object r.0 r.1) = after_trans g.1 k.1 in
    let known : IsLawfully (define_object r.0 r.1).types.records q = lawful_later s.types.records (define_object r.0 r.1).types.records a.extends (type_of q) h in
    post_bind _ _ (Defining w q s r.0) (λ r. IsLawful r.1 × After s r.1 × Unit {0})
    (done_then (tt, define_object r.0 r.1) (λ t. Done (named_type t.1 w.text q, t.1)) (Defining w q s r.0) (
      k.0,
      a,
      named_lawful (define_object r.0 r.1) w.text q k.0 known,
      (record g.2.1.0 { defined = true }, defined_place r.1 r.0 g.2.1.0 g.2.1.1, g.2.1.2, refl, g.2.1.3),
      subst (DeclaredHere w.text) (sym (defined_scopes r.1 r.0)) g.2.2,
      refl,
    )) (λ e f.
    post_bind _ _ (λ u. IsLawful u.1 × AfterBy (Some (Stored w s), Some (slot.Named r.0)) (Some (Stored w s), Some (slot.Named r.0)) e.1 u.1 × (Initialises e.1 u.1 e.0 u.0 × Grows e.1 u.1))
    (λ r. IsLawful r.1 × After s r.1 × Unit {0})
    (object_all (Some (Stored w s), Some (slot.Named r.0)) e.1 (context_of w true 0) e.0 i.init f.0 f.2) (λ u o.
    let whole : AfterBy nothing (Some (slot.Named r.0), Some (slot.Named r.0)) s u.1 = subst (λ n. AfterBy nothing (Some (slot.Named n), Some (slot.Named r.0)) s u.1) (sym g.2.0) (after_trans f.1 o.1) in
    let x = f.3 in
    let reads : Reads e.1 w q e.0 r.0 x.0 =
    record { lawful = f.0; here = f.4; is = f.5; opens = open_later s.types.records e.1.types.records q f.1.extends opens; at = x.1; named = x.2; covers = x.4 } in
    initialised_post s u.1 w r.0 u.0.ty u.0.filled.items x.0 whole o.0 o.2.0.lawful (ap (λ xs. slice_get xs r.0) o.2.1.linked ∙ x.1) x.2 x.3
    (λ hs y z. here_later (Some (Stored w s)) w.text o.2.1 f.4 (f.1.sound hs) y z)
    (λ hs shallow z. defined_items (Some (Stored w s)) e.1 u.1 w q e.0 r.0 x.0 u.0 reads o.0 (whole.depth ∙ zero) o.2.1 o.2.0 (f.1.sound hs) (f.1.settled hs shallow z)))))

-- `extern` without an initialiser declares, and does not define
not_static : (b : Specified) (s : State) (name : List ℕ) → Sound None s → linked_before s name ≡ None → is_tentative b ≡ false → is_internal_by s name (asking_of AGlobal b) ≡ true → ⊥
not_static b s name h none tentative internal = by (is_none b.storage) (is_static b.storage) (is_extern b.storage) tentative internal
  where
    by : (x y z : Bool) → (x || y) ≡ false → is_internal_by s name (if y then AsInternal else if z then AsBefore else AsExternal) ≡ true → ⊥
    by true y z e i = no (sym e)
    by false true z e i = no (sym e)
    by false false true e i = visible_before s name h none i
    by false false false e i = no i

global_goes : (s : State) (w : Word) (b : Specified) (spot : Spot) (q : QType) (i : Option Initializer) → IsLawful s → IsObjectLike s.types.records q → KeepsLimit s.types.records (type_of q) → Linkable s w.text q
    → AreMet (global_point s.types.records spot (is_some i) b q) → s.scopes.depth ≡ 0 → Goes s (global_rule w b spot q i s) Anything
unfolding global_rule bind
global_goes s w b spot q None l h limit link met zero = by (is_tentative b) refl
  where
    by : (x : Bool) → is_tentative b ≡ x
        → Goes s (bind (declare_linked w.text w.token b.tag (asking_of AGlobal b) q s) (λ t. Done ([], if x then define_tentatively t.0 t.1 else t.1))) (Anything {A = List Initialiser})
    by true e =
        goes_between nothing (Some (Stored w s), None) nothing (declare_linked w.text w.token b.tag (asking_of AGlobal b) q s) _ (GoodPlace w.text q (place_for s w.text)) Anything
        (declared_goes (Some (Stored w s)) s w.text w.token b.tag (asking_of AGlobal b) q l h.lawful limit link (λ z none i f. refl)) (λ r m x g.
        let k : KeptBy (Some (Stored w s), None) nothing r.1 (define_tentatively r.0 r.1) =
        tentative_after (Some (Stored w s)) None r.1 r.0 g.1.0 m g.1.1 (g.1.3.function ∙ not_function (type_of q) h.object) (λ n e. inl (sym (g.0 ∙ named_same (some_same e)))) in (k.0, k.1, tt))
    by false e =
        goes_by (declare_linked w.text w.token b.tag (asking_of AGlobal b) q s) _ (GoodPlace w.text q (place_for s w.text)) Anything
        (declared_goes None s w.text w.token b.tag (asking_of AGlobal b) q l h.lawful limit link (λ z none i f. absurd (not_static b s w.text z none e i))) (λ r m x g. (m, after_same r.1, tt))
global_goes s w b spot q (Some i) l h limit link met zero = defined_goes s w b spot q i l h.lawful limit (not_function (type_of q) h.object) (opened_so s.types.records spot q met) zero link

-- ---- static locals

-- what an initialiser's object is
object_like : (s t : State) (q : QType) (o : Initialised) → IsObjectLike s.types.records q → Initialises s t q o → IsObjectLike t.types.records o.ty
object_like s t q o h i = record { lawful = i.lawful; object = no_function (type_of o.ty) (i.covers.function ∙ not_function (type_of q) h.object) }

-- it gets its first bytes, where those around its initialiser are known
filled_made : (t u v : State) (w : Word) (place : ℕ) (q : QType) (o : Initialised) (writable : Bool) → IsLawful t → Sound None t → Settled (Some (slot.Hidden place)) t → IsOpen t.types.records q → Initialises t u q o
    → AreMet (type_within u.types.records w.token o.ty) → v.types ≡ u.types → Filling u.made.hidden v.made.hidden → IsMade v (hidden_of o.ty o.filled.items writable)
filled_made t u v w place q o writable l hs z opens i met same fill = record {
  lawful = subst (λ r. IsLawfulType r (type_of o.ty)) (sym records) i.lawful;
  sort = inl (subst (λ r. IsObjectType r (type_of o.ty)) (sym records) (object_is u.types.records (type_of o.ty) (i.complete opens) (within_fits u.types.records w.token o.ty met)));
  rise = subst (λ r. Rise 0 (sized r (type_of o.ty)) o.filled.items) (sym records) (i.rise opens);
  known = known_onward u v (subst (Extends u.types.records) (sym records) (extends_same u.types.records)) (λ n x e. (x, ap (λ (y : TypeState). slice_get y.linked n) same ∙ e, continues_same x)) fill o.filled.items
      (i.known (record { lawful = l; pending = None; sound = hs; counting = z.counting }));
}
  where
    records : v.types.records ≡ u.types.records
    records = ap (λ (x : TypeState). x.records) same

static_goes : (s : State) (w : Word) (spot : Spot) (q : QType) (i : Option Initializer) → IsLawful s → IsObjectLike s.types.records q → AreMet (object_point s.types.records spot (is_some i) q) → IsWithin s.types.records (type_of q)
    → entry_here s w.text ≡ None → Goes s (static_rule w q i s) Anything
unfolding static_rule completed_rule bind
static_goes s w spot q None l h met fits fresh =
    let whole : IsObjectType s.types.records (type_of q) = object_is s.types.records (type_of q) (is_complete_so s.types.records (type_of q) (completed_so s.types.records spot CompleteObject (type_of q) met.0)) fits in
    let a : Kept s (add_hidden (hidden_of q [] (not (is_const_object q))) s) =
    hidden_kept {p = None} None s (hidden_of q [] (not (is_const_object q))) l (inr (record { lawful = h.lawful; sort = inl whole; rise = omega arith; known = λ n p e. never_some e })) in
    let c : Kept (add_hidden (hidden_of q [] (not (is_const_object q))) s) (enter w.text (StaticObject (next_hidden s) q) (add_hidden (hidden_of q [] (not (is_const_object q))) s)) =
    static_entered (add_hidden (hidden_of q [] (not (is_const_object q))) s) w.text (next_hidden s) q (hidden_of q [] (not (is_const_object q))) a.0 h (get_last s.made.hidden (hidden_of q [] (not (is_const_object q)))) (covers_same q) fresh in
    (c.0, after_trans a.1 c.1, tt)
static_goes s w spot q (Some i) l h met fits fresh =
    let t : State = enter w.text (StaticObject (next_hidden s) q) (add_hidden (hidden_of q [] (not (is_const_object q))) s) in
    let a : KeptBy nothing (None, Some (slot.Hidden (next_hidden s))) s (add_hidden (hidden_of q [] (not (is_const_object q))) s) = hidden_kept {p = None} (Some (slot.Hidden (next_hidden s))) s (hidden_of q [] (not (is_const_object q))) l (inl refl) in
    let c : KeptBy (None, Some (slot.Hidden (next_hidden s))) (None, Some (slot.Hidden (next_hidden s))) (add_hidden (hidden_of q [] (not (is_const_object q))) s)
    (enter w.text (StaticObject (next_hidden s) q) (add_hidden (hidden_of q [] (not (is_const_object q))) s)) =
    static_entered (add_hidden (hidden_of q [] (not (is_const_object q))) s) w.text (next_hidden s) q (hidden_of q [] (not (is_const_object q))) a.0 h (get_last s.made.hidden (hidden_of q [] (not (is_const_object q)))) (covers_same q) fresh in
    let b : AfterBy nothing (None, Some (slot.Hidden (next_hidden s))) s (enter w.text (StaticObject (next_hidden s) q) (add_hidden (hidden_of q [] (not (is_const_object q))) s)) = after_trans a.1 c.1 in
    post_bind (object_rule (context_of w true (next_hidden s)) q i.init (enter w.text (StaticObject (next_hidden s) q) (add_hidden (hidden_of q [] (not (is_const_object q))) s))) _
    (λ u. IsLawful u.1 × AfterBy (None, Some (slot.Hidden (next_hidden s))) (None, Some (slot.Hidden (next_hidden s))) (enter w.text (StaticObject (next_hidden s) q) (add_hidden (hidden_of q [] (not (is_const_object q))) s)) u.1
    × (Initialises (enter w.text (StaticObject (next_hidden s) q) (add_hidden (hidden_of q [] (not (is_const_object q))) s)) u.1 q u.0
    × Grows (enter w.text (StaticObject (next_hidden s) q) (add_hidden (hidden_of q [] (not (is_const_object q))) s)) u.1))
    (λ r. IsLawful r.1 × After s r.1 × Unit {0})
    (object_all (None, Some (slot.Hidden (next_hidden s))) (enter w.text (StaticObject (next_hidden s) q) (add_hidden (hidden_of q [] (not (is_const_object q))) s)) (context_of w true (next_hidden s)) q i.init c.0 h.lawful) (λ u g within.
    let o : HiddenObject = hidden_of u.0.ty u.0.filled.items (not (is_const_object q)) in
    let at : slice_get u.1.made.hidden (next_hidden s) ≡ Some (hidden_of q [] (not (is_const_object q))) =
    g.2.1.hidden (next_hidden s) (hidden_of q [] (not (is_const_object q))) (get_last s.made.hidden (hidden_of q [] (not (is_const_object q)))) in
    let d : Kept s (put_hidden (next_hidden s) (hidden_of u.0.ty u.0.filled.items (not (is_const_object q))) u.1) =
    hidden_put nothing {p = None} s u.1 (next_hidden s) (hidden_of u.0.ty u.0.filled.items (not (is_const_object q))) (hidden_of q [] (not (is_const_object q))) (after_trans b g.1) g.0 at g.2.0.covers
    (λ hs shallow z. filled_made t u.1 (put_hidden (next_hidden s) (hidden_of u.0.ty u.0.filled.items (not (is_const_object q))) u.1) w (next_hidden s) q u.0 (not (is_const_object q)) c.0 (b.sound hs) (b.settled hs shallow z)
    (opened_so s.types.records spot q met) g.2.0 within refl (filling_put (next_hidden s) (hidden_of u.0.ty u.0.filled.items (not (is_const_object q))) (hidden_of q [] (not (is_const_object q))) u.1.made.hidden at g.2.0.covers)) in
    let same : place_here (enter w.text (StaticObject (next_hidden s) q) (add_hidden (hidden_of q [] (not (is_const_object q))) s)) w.text ≡ length s.scopes.entities = place_of_new (add_hidden (hidden_of q [] (not (is_const_object q))) s) w.text (StaticObject (next_hidden s) q) in
    let there : slice_get u.1.scopes.entities (place_here (enter w.text (StaticObject (next_hidden s) q) (add_hidden (hidden_of q [] (not (is_const_object q))) s)) w.text) ≡ Some (StaticObject (next_hidden s) q) =
    ap (slice_get u.1.scopes.entities) same ∙ g.2.1.entities (length s.scopes.entities) (StaticObject (next_hidden s) q) (get_last s.scopes.entities (StaticObject (next_hidden s) q)) in
    let e : Kept (put_hidden (next_hidden s) (hidden_of u.0.ty u.0.filled.items (not (is_const_object q))) u.1) _ =
    entity_becomes (put_hidden (next_hidden s) (hidden_of u.0.ty u.0.filled.items (not (is_const_object q))) u.1) (place_here (enter w.text (StaticObject (next_hidden s) q) (add_hidden (hidden_of q [] (not (is_const_object q))) s)) w.text)
    (StaticObject (next_hidden s) u.0.ty) (StaticObject (next_hidden s) q) d.0 (object_like t u.1 q u.0 h g.2.0) there (u.0.ty, refl, g.2.0.covers)
    (hidden_of u.0.ty u.0.filled.items (not (is_const_object q)), put_same (next_hidden s) (hidden_of u.0.ty u.0.filled.items (not (is_const_object q))) u.1.made.hidden (get_within u.1.made.hidden (next_hidden s) (hidden_of q [] (not (is_const_object q))) at), covers_same u.0.ty) in
    (e.0, after_trans d.1 e.1, tt))

-- ---- locals

-- what the local gets
abbrev GoodLocal : State → State → QType × List Initialiser → Type 0
GoodLocal before s o =
    IsObjectLike s.types.records o.0 × IsObjectType s.types.records (type_of o.0) × Longer before.scopes.entities s.scopes.entities × (s.body ≡ before.body)

bytes_goes : (s : State) (w : Word) (k : ℕ) (q : QType) (i : Init) → IsLawful s → IsObjectLike s.types.records q → IsOpen s.types.records q → Goes s (bytes_rule w k q i s) (GoodLocal s)
unfolding bytes_rule completed_rule bind
bytes_goes s w k q i l h opens =
    let a : KeptBy nothing (None, Some (slot.Hidden (next_hidden s))) s (add_hidden (hidden_of q [] false) s) = hidden_kept {p = None} (Some (slot.Hidden (next_hidden s))) s (hidden_of q [] false) l (inl refl) in
    post_bind (object_rule (context_of w true (next_hidden s)) q i (add_hidden (hidden_of q [] false) s)) _
    (λ u. IsLawful u.1 × AfterBy (None, Some (slot.Hidden (next_hidden s))) (None, Some (slot.Hidden (next_hidden s))) (add_hidden (hidden_of q [] false) s) u.1
    × (Initialises (add_hidden (hidden_of q [] false) s) u.1 q u.0 × Grows (add_hidden (hidden_of q [] false) s) u.1))
    (λ r. IsLawful r.1 × After s r.1 × GoodLocal s r.1 r.0)
    (object_all (None, Some (slot.Hidden (next_hidden s))) (add_hidden (hidden_of q [] false) s) (context_of w true (next_hidden s)) q i a.0 h.lawful) (λ u g within.
    let at : slice_get u.1.made.hidden (next_hidden s) ≡ Some (hidden_of q [] false) = g.2.1.hidden (next_hidden s) (hidden_of q [] false) (get_last s.made.hidden (hidden_of q [] false)) in
    let d : Kept s (put_hidden (next_hidden s) (hidden_of u.0.ty u.0.filled.items false) u.1) =
    hidden_put nothing {p = None} s u.1 (next_hidden s) (hidden_of u.0.ty u.0.filled.items false) (hidden_of q [] false) (after_trans a.1 g.1) g.0 at g.2.0.covers
    (λ hs shallow z. filled_made (add_hidden (hidden_of q [] false) s) u.1 (put_hidden (next_hidden s) (hidden_of u.0.ty u.0.filled.items false) u.1) w (next_hidden s) q u.0 false a.0 (a.1.sound hs) (a.1.settled hs shallow z) opens g.2.0 within refl
    (filling_put (next_hidden s) (hidden_of u.0.ty u.0.filled.items false) (hidden_of q [] false) u.1.made.hidden at g.2.0.covers)) in (
      d.0,
      d.1,
      (object_like (add_hidden (hidden_of q [] false) s) u.1 q u.0 h g.2.0, object_is u.1.types.records (type_of u.0.ty) (g.2.0.complete opens) (within_fits u.1.types.records w.token u.0.ty within), g.2.1.entities, g.2.1.body),
    ))

single_goes : (s : State) (w : Word) (k : ℕ) (q : QType) (i : Init) → IsLawful s → IsObjectLike s.types.records q → IsOpen s.types.records q → IsWithin s.types.records (type_of q)
    → is_by_bytes (type_of q) i ≡ false → Goes s (single_rule w k q i s) (GoodLocal s)
unfolding single_rule bind
single_goes s w k q i l h opens fits single =
    post_bind (object_rule (context_of w false 0) q i s) _
    (λ u. (IsLawful u.1 × After s u.1 × (Initialises s u.1 q u.0 × Grows s u.1)) × (IsLawful u.1 × After s u.1 × (is_array (type_of q) ≡ false)))
    (λ r. IsLawful r.1 × After s r.1 × GoodLocal s r.1 r.0)
    (post_both _ _ _ (object_all nothing s (context_of w false 0) q i l h.lawful) (single_no_array s (context_of w false 0) q i l single)) (λ u g.
    let x : Grows s u.1 = g.0.2.1 in
    let whole : IsObjectType s.types.records (type_of q) = object_is s.types.records (type_of q) (value_complete s.types.records q opens g.1.2) fits in
    (g.0.0, g.0.1, (like_later x.extends h, object_later s.types.records u.1.types.records x.extends (type_of q) whole, x.entities, x.body)))

local_initialiser_goes : (s : State) (bytes : Bool) (w : Word) (k : ℕ) (q : QType) (i : Init) → IsLawful s → IsObjectLike s.types.records q → IsOpen s.types.records q → IsWithin s.types.records (type_of q)
    → is_by_bytes (type_of q) i ≡ bytes → Goes s (local_initialiser bytes w k q i s) (GoodLocal s)
unfolding local_initialiser
local_initialiser_goes s true w k q i l h opens fits e = bytes_goes s w k q i l h opens
local_initialiser_goes s false w k q i l h opens fits e = single_goes s w k q i l h opens fits e

-- a local more
local_more : (s : State) (w : Word) (q : QType) (register : Bool) → IsObjectLike s.types.records q → IsObjectType s.types.records (type_of q) → AreLocals s
    → AreLocals (enter w.text (LocalObject (next_local s) q register) (add_local (local_of w q) s))
local_more s w q register h object all k l e = by (get_more s.body.locals (local_of w q) k l e)
  where
    by : (slice_get s.body.locals k ≡ Some l) ⊎ ((k ≡ length s.body.locals) × (local_of w q ≡ l)) → IsObjectLike s.types.records l.ty × IsObjectType s.types.records (type_of l.ty)
    by (inl f) = all k l f
    by (inr f) = subst (λ (x : LocalValue). IsObjectLike s.types.records x.ty × IsObjectType s.types.records (type_of x.ty)) f.1 (h, object)

-- the local gets its type
local_made : (s u : State) (w : Word) (q ty : QType) → Extends s.types.records u.types.records → IsObjectLike u.types.records ty → IsObjectType u.types.records (type_of ty)
    → u.body ≡ (add_local (local_of w q) s).body → AreLocals s → (k : ℕ) (l : LocalValue) → slice_get (put_at (next_local s) (local_of w ty) u.body.locals) k ≡ Some l
    → IsObjectLike u.types.records l.ty × IsObjectType u.types.records (type_of l.ty)
local_made s u w q ty x h object same all k l e = by (put_either (next_local s) (local_of w ty) u.body.locals k)
  where
    later : (l : LocalValue) → (slice_get s.body.locals k ≡ Some l) ⊎ ((k ≡ length s.body.locals) × (local_of w q ≡ l)) → slice_get (put_at (next_local s) (local_of w ty) u.body.locals) k ≡ slice_get u.body.locals k
        → slice_get u.body.locals k ≡ Some l → IsObjectLike u.types.records l.ty × IsObjectType u.types.records (type_of l.ty)
    later l (inl f) g z = let y = all k l f in (like_later x y.0, object_later s.types.records u.types.records x (type_of l.ty) y.1)
    later l (inr f) g z =
        let now : slice_get (put_at (next_local s) (local_of w ty) u.body.locals) (next_local s) ≡ Some (local_of w ty) =
        put_same (next_local s) (local_of w ty) u.body.locals (subst (λ n. n < length u.body.locals) f.0 (get_within u.body.locals k l z)) in
        subst (λ (v : LocalValue). IsObjectLike u.types.records v.ty × IsObjectType u.types.records (type_of v.ty))
        (some_same (sym now ∙ (ap (slice_get (put_at (next_local s) (local_of w ty) u.body.locals)) (sym f.0) ∙ (g ∙ z)))) (h, object)

    by : ((k ≡ next_local s) × (slice_get (put_at (next_local s) (local_of w ty) u.body.locals) k ≡ Some (local_of w ty))) ⊎ (slice_get (put_at (next_local s) (local_of w ty) u.body.locals) k ≡ slice_get u.body.locals k)
        → IsObjectLike u.types.records l.ty × IsObjectType u.types.records (type_of l.ty)
    by (inl f) = subst (λ (v : LocalValue). IsObjectLike u.types.records v.ty × IsObjectType u.types.records (type_of v.ty)) (some_same (sym f.1 ∙ e)) (h, object)
    by (inr f) =
        let z : slice_get u.body.locals k ≡ Some l = sym f ∙ e in
        later l (get_more s.body.locals (local_of w q) k l (subst (λ b. slice_get b.locals k ≡ Some l) same z)) f z

local_lawful : (s : State) (w : Word) (q : QType) (register : Bool) → IsLawful s → IsObjectLike s.types.records q → IsLawful (enter w.text (LocalObject (next_local s) q register) (add_local (local_of w q) s))
local_lawful s w q register l h = (entered_kept (add_local (local_of w q) s) w.text (LocalObject (next_local s) q register) (around s s.made (add_local (local_of w q) s).body l refl).0 h).0

local_sound : (s : State) (w : Word) (q : QType) (register : Bool) → Sound None s → Sound None (enter w.text (LocalObject (next_local s) q register) (add_local (local_of w q) s))
local_sound s w q register z =
    entered_sound (add_local (local_of w q) s) w.text (LocalObject (next_local s) q register) None (record { backed = z.backed; spelled = z.spelled; functions = z.functions; slots = z.slots }) tt tt

local_keeps : (s : State) (x : Entity) → Rattle.pw_law_checked.proofs.Keeping.Keeps s.scopes.entities (s.scopes.entities ++ x ∷ [])
local_keeps s x = keeps_longer s.scopes.entities (s.scopes.entities ++ x ∷ []) (λ k e f. get_append s.scopes.entities (x ∷ []) k e f)

local_outside : (s : State) (w : Word) (q : QType) (register : Bool) → entry_here s w.text ≡ None → Outside s.scopes (enter w.text (LocalObject (next_local s) q register) s).scopes
local_outside s w q register fresh = entered_outside s w.text (LocalObject (next_local s) q register) fresh

local_goes : (s : State) (w : Word) (b : Specified) (spot : Spot) (q : QType) (i : Option Initializer) → IsLawful s → IsObjectLike s.types.records q → AreMet (object_point s.types.records spot (is_some i) q) → IsWithin s.types.records (type_of q) → entry_here s w.text ≡ None
    → Goes s (local_rule w b q i s) Anything
unfolding local_rule bind
local_goes s w b spot q None l h met fits fresh =
    let whole : IsObjectType s.types.records (type_of q) = object_is s.types.records (type_of q) (is_complete_so s.types.records (type_of q) (completed_so s.types.records spot CompleteObject (type_of q) met.0)) fits in (
      local_lawful s w q (is_register b.storage) l h,
      after_from (knows_linked s (enter w.text (LocalObject (next_local s) q (is_register b.storage)) (add_local (local_of w q) s)) (extends_same s.types.records) refl refl (filling_same s.made.hidden) refl)
          (λ z. local_keeps s (LocalObject (next_local s) q (is_register b.storage))) (λ z. local_sound s w q (is_register b.storage) z) (λ z. local_more s w q (is_register b.storage) h whole z) (λ z. z) (local_outside s w q (is_register b.storage) fresh) refl
          (λ z. origins_same None s (enter w.text (LocalObject (next_local s) q (is_register b.storage)) (add_local (local_of w q) s)) refl refl),
      tt,
    )
local_goes s w b spot q (Some i) l h met fits fresh =
    let m : IsLawful (enter w.text (LocalObject (next_local s) q (is_register b.storage)) (add_local (local_of w q) s)) = local_lawful s w q (is_register b.storage) l h in
    post_bind (local_initialiser (is_by_bytes (type_of q) i.init) w (next_local s) q i.init (enter w.text (LocalObject (next_local s) q (is_register b.storage)) (add_local (local_of w q) s))) _
    (λ u. IsLawful u.1 × After (enter w.text (LocalObject (next_local s) q (is_register b.storage)) (add_local (local_of w q) s)) u.1 × GoodLocal (enter w.text (LocalObject (next_local s) q (is_register b.storage)) (add_local (local_of w q) s)) u.1 u.0)
    (λ r. IsLawful r.1 × After s r.1 × Unit {0})
    (local_initialiser_goes (enter w.text (LocalObject (next_local s) q (is_register b.storage)) (add_local (local_of w q) s)) (is_by_bytes (type_of q) i.init) w (next_local s) q i.init m h (opened_so s.types.records spot q met) fits refl) (λ u g.
    let there : slice_get u.1.scopes.entities (place_here (enter w.text (LocalObject (next_local s) q (is_register b.storage)) (add_local (local_of w q) s)) w.text) ≡ Some (LocalObject (next_local s) q (is_register b.storage)) =
    ap (slice_get u.1.scopes.entities) (place_of_new (add_local (local_of w q) s) w.text (LocalObject (next_local s) q (is_register b.storage)))
    ∙ g.2.2 (length s.scopes.entities) (LocalObject (next_local s) q (is_register b.storage)) (get_last s.scopes.entities (LocalObject (next_local s) q (is_register b.storage))) in
    let e = entity_put (put_local (next_local s) (local_of w u.0.0) u.1) (place_here (enter w.text (LocalObject (next_local s) q (is_register b.storage)) (add_local (local_of w q) s)) w.text)
    (LocalObject (next_local s) u.0.0 (is_register b.storage)) (around u.1 u.1.made (put_local (next_local s) (local_of w u.0.0) u.1).body g.0 refl).0 g.2.0 in (
      e.0,
      after_by (record { extends = g.1.extends; names = g.1.names; functions = g.1.functions; hidden = g.1.hidden; depth = g.1.depth })
          (λ z. keeps_trans s.scopes.entities u.1.scopes.entities _
          (keeps_trans s.scopes.entities (s.scopes.entities ++ LocalObject (next_local s) q (is_register b.storage) ∷ []) u.1.scopes.entities (local_keeps s (LocalObject (next_local s) q (is_register b.storage)))
          (g.1.entities (local_sound s w q (is_register b.storage) z)))
          (keeps_put (place_here (enter w.text (LocalObject (next_local s) q (is_register b.storage)) (add_local (local_of w q) s)) w.text) (LocalObject (next_local s) u.0.0 (is_register b.storage)) (LocalObject (next_local s) q (is_register b.storage))
          u.1.scopes.entities there tt))
          (λ z.
          let y = g.1.sound (local_sound s w q (is_register b.storage) z) in
          put_sound None (put_local (next_local s) (local_of w u.0.0) u.1) (place_here (enter w.text (LocalObject (next_local s) q (is_register b.storage)) (add_local (local_of w q) s)) w.text)
          (LocalObject (next_local s) u.0.0 (is_register b.storage)) (LocalObject (next_local s) q (is_register b.storage)) there tt tt (record { backed = y.backed; spelled = y.spelled; functions = y.functions; slots = y.slots }))
          (λ z. local_made s u.1 w q u.0.0 g.1.extends g.2.0 g.2.1 g.2.3 z) g.1.within
          (outside_trans s.scopes (enter w.text (LocalObject (next_local s) q (is_register b.storage)) s).scopes u.1.scopes (local_outside s w q (is_register b.storage) fresh) g.1.outside)
          (λ z shallow all.
          let before : State = enter w.text (LocalObject (next_local s) q (is_register b.storage)) (add_local (local_of w q) s) in
          let out = local_outside s w q (is_register b.storage) fresh shallow in
          let first : Settled None (enter w.text (LocalObject (next_local s) q (is_register b.storage)) (add_local (local_of w q) s)) = scopes_grown None s (enter w.text (LocalObject (next_local s) q (is_register b.storage)) (add_local (local_of w q) s)) refl refl
          (λ n j r y. (r, get_append s.scopes.entities (LocalObject (next_local s) q (is_register b.storage) ∷ []) n (Linked j r) y, covers_same r)) out.1 all in
          scopes_grown None u.1 _ refl refl
          (λ n j r y. let x = keeps_put (place_here (enter w.text (LocalObject (next_local s) q (is_register b.storage)) (add_local (local_of w q) s)) w.text) (LocalObject (next_local s) u.0.0 (is_register b.storage)) (LocalObject (next_local s) q (is_register b.storage)) u.1.scopes.entities there tt n (Linked j r) y in
          let m = x.2 in (m.0, x.1 ∙ ap Some m.1, m.2)) (λ name y f. f) (g.1.settled (local_sound s w q (is_register b.storage) z) out.0 first)),
      tt,
    ))

-- ---- what is declared

-- an object is no function
abbrev pub Fits : Sort → QType → Type 0
Fits ATypedef q = Unit {0}
Fits AFunction q = is_function (type_of q) ≡ true
Fits _ q = IsFunctionType (type_of q) → ⊥

pub sort_fits : (outside : Bool) (b : Specified) (q : QType) → Fits (sort_of outside b q) q
sort_fits outside b q = by (is_typedef b.storage) (is_function (type_of q)) refl outside (is_extern b.storage) (is_static b.storage)
  where
    by : (x y : Bool) → is_function (type_of q) ≡ y → (z e t : Bool)
        → Fits (if x then ATypedef else if y then AFunction else if z then AGlobal else if e then AnExtern else if t then AStatic else ALocal) q
    by true y h z e t = tt
    by false true h z e t = h
    by false false h true e t = no_function (type_of q) h
    by false false h false true t = no_function (type_of q) h
    by false false h false false true = no_function (type_of q) h
    by false false h false false false = no_function (type_of q) h

-- an object with linkage is declared at file scope
abbrev pub IsOuter : Sort → State → Type 0
IsOuter AGlobal s = s.scopes.depth ≡ 0
IsOuter _ s = Unit {0}

pub sort_outer : (s t : State) (b : Specified) (q : QType) → t.scopes.depth ≡ s.scopes.depth → IsOuter (sort_of (is_file_scope s) b q) t
sort_outer s t b q deep = by (is_typedef b.storage) (is_function (type_of q)) (is_file_scope s) refl (is_extern b.storage) (is_static b.storage)
  where
    by : (x y z : Bool) → is_file_scope s ≡ z → (e f : Bool)
        → IsOuter (if x then ATypedef else if y then AFunction else if z then AGlobal else if e then AnExtern else if f then AStatic else ALocal) t
    by true y z h e f = tt
    by false true z h e f = tt
    by false false true h e f = deep ∙ eqb-true s.scopes.depth 0 h
    by false false false h true f = tt
    by false false false h false true = tt
    by false false false h false false = tt

declare_goes : (s : State) (sort : Sort) (w : Word) (b : Specified) (spot : Spot) (q : QType) (i : Option Initializer) → IsLawful s → IsLawfulType s.types.records (type_of q) → Fits sort q
    → AreMet (sort_point s sort spot w (is_some i) b q) → IsWithin s.types.records (type_of q) → IsOuter sort s → Goes s (declare_rule sort w b spot q i s) Anything
unfolding declare_rule bind
declare_goes s ATypedef w b spot q i l h f met fits outer = let a : Kept s (enter w.text (TypeName q) s) = plain_entered s w.text (TypeName q) l h tt (none_here s w.text (truth _ met.0)) in (a.0, a.1, tt)
declare_goes s AFunction w b spot q i l h f met fits outer =
    goes_by (declare_linked w.text w.token b.tag (asking_of AFunction b) q s) _ (GoodPlace w.text q (place_for s w.text)) Anything
    (declared_goes None s w.text w.token b.tag (asking_of AFunction b) q l h (function_keeps s.types.records (type_of q) f) (linkable s w.text w.token (is_internal_by s w.text (asking_of AFunction b)) q (function_point s b w.token (is_some i)) met)
    (λ z none e g. no (sym g ∙ f))) (λ r m x k. (m, after_same r.1, tt))
declare_goes s AGlobal w b spot q i l h f met fits outer =
    global_goes s w b spot q i l (record { lawful = h; object = f }) (within_keeps s.types.records (type_of q) fits)
    (linkable s w.text w.token (is_internal_by s w.text (asking_of AGlobal b)) q (definition_point s w (is_some i) ++ global_point (records_in s) spot (is_some i) b q) met)
    (met_right (definition_point s w (is_some i)) (global_point (records_in s) spot (is_some i) b q) (met_right (linkage_point s w.text w.token (is_internal_by s w.text (asking_of AGlobal b)) q) _ met)) outer
declare_goes s AnExtern w b spot q i l h f met fits outer =
    goes_by (declare_linked w.text w.token b.tag AsBefore q s) _ (GoodPlace w.text q (place_for s w.text)) Anything
    (declared_goes None s w.text w.token b.tag AsBefore q l h (within_keeps s.types.records (type_of q) fits)
    (linkable s w.text w.token (is_internal_by s w.text AsBefore) q (needs InitialisedHere w.token (not (is_some i)) ∷ needs CompleteObject w.token (not (is_void (type_of q))) ∷ []) met)
    (λ z none e g. absurd (visible_before s w.text z none e))) (λ r m x k. (m, after_same r.1, tt))
declare_goes s AStatic w b spot q i l h f met fits outer = static_goes s w spot q i l (record { lawful = h; object = f }) met.1 fits (none_here s w.text (truth _ met.0))
declare_goes s ALocal w b spot q i l h f met fits outer = local_goes s w b spot q i l (record { lawful = h; object = f }) met.1 fits (none_here s w.text (truth _ met.0))

-- ---- declarations

pub init_declarator_goes : (s : State) (b : Specified) (d : InitDeclarator) → IsLawful s → GoodSpecified s b → Goes s (init_declarator_rule b d s) Anything
unfolding init_declarator_rule
init_declarator_goes s b d l h =
    goes_by _ _ GoodDeclared Anything (of_runs _ _ GoodDeclared (declarator_post d.declarator s l)) (λ r m x k.
    goes_by _ _ GoodType Anything
    (of_runs _ _ GoodType (built_runs r.1 (spot_of r.0.name b.first b.tag) r.0.derivations b.ty m k.0 (lawful_later s.types.records r.1.types.records x.extends (type_of b.ty) h))) (λ u n y j.
    asked u.1 (sort_of (is_file_scope u.1) b u.0) _ Anything
    (goes_by _ _ (λ t a. AreMet (sort_point t (sort_of (is_file_scope u.1) b u.0) (spot_of r.0.name b.first b.tag) (name_of r.0) (is_some d.initializer) b u.0) × AreMet (type_within t.types.records (name_of r.0).token u.0)) Anything
    (name_goes u.1 (sort_of (is_file_scope u.1) b u.0) (spot_of r.0.name b.first b.tag) (name_of r.0) (is_some d.initializer) b u.0 n) (λ v i z e.
    declare_goes v.1 (sort_of (is_file_scope u.1) b u.0) (name_of r.0) b (spot_of r.0.name b.first b.tag) u.0 d.initializer i
    (lawful_later u.1.types.records v.1.types.records z.extends (type_of u.0) j) (sort_fits (is_file_scope u.1) b u.0) e.0 (within_fits v.1.types.records (name_of r.0).token u.0 e.1)
    (sort_outer u.1 v.1 b u.0 z.depth)))))

pub init_declarators_goes : (ds : List InitDeclarator) (s : State) (b : Specified) → IsLawful s → GoodSpecified s b → Goes s (init_declarators_rule b ds s) Anything
unfolding init_declarators_rule
init_declarators_goes [] s b l h = (l, after_same s, tt)
init_declarators_goes (d ∷ rest) s b l h =
    goes_by _ _ Anything Anything (init_declarator_goes s b d l h) (λ r m x k.
    goes_by _ _ Anything Anything (init_declarators_goes rest r.1 b m (lawful_later s.types.records r.1.types.records x.extends (type_of b.ty) h)) (λ u n y j.
    (n, after_same u.1, tt)))

storage_goes : (s : State) (b : Specified) → IsLawful s → Goes s (storage_rule b s) Anything
unfolding storage_rule bind
storage_goes s b l = λ met. (l, after_same s, tt)

pub specified_goes : (s : State) (specifiers : Specifiers) (first : ℕ) → IsLawful s → Goes s (specified_rule specifiers first s) GoodSpecified
unfolding specified_rule
specified_goes s specifiers first l =
    goes_by _ _ GoodGathered GoodSpecified (of_runs _ _ GoodGathered (specifiers_post specifiers first nothing_gathered s l tt)) (λ r m x h.
    of_runs _ _ GoodSpecified (specified_runs r.1 first r.0 m h))

alone_by_goes : (s : State) (kind : RecordKind) (w : Word) (o : Option Tag) → IsLawful s → ((tag : Tag) → o ≡ Some tag → IsLawfulTag s.types.records tag) → Goes s (alone_by kind w o s) Anything
unfolding alone_by
alone_by_goes s kind w None l h = goes_by _ _ (Fresh kind s) Anything (of_runs _ _ (Fresh kind s) (new_tag_runs s kind w l)) (λ r m x k. (m, after_same r.1, tt))
alone_by_goes s kind w (Some tag) l h =
    goes_by _ _ GoodReference Anything (of_runs _ _ GoodReference (reference_by_runs s kind w (Some tag) l h)) (λ r m x k. (m, after_same r.1, tt))

alone_goes : (s : State) (kind : RecordKind) (w : Word) → IsLawful s → Goes s (alone_rule kind w s) Anything
unfolding alone_rule bind
alone_goes s kind w l = alone_by_goes s kind w (tag_here s w.text) l (λ tag e. tag_here_lawful s w.text tag l e)

listed_goes : (s : State) (specifiers : Specifiers) → IsLawful s
    → Goes s (bind (specified_rule specifiers (first_of_list specifiers) s) (λ t. bind (bind (storage_rule t.0 t.1) (λ u. Rattle.pw_check_walk.specs.Walks.meets (Rattle.pw_check_walk.specs.Causes.needs Rattle.pw_check_walk.specs.Causes.DeclaresSomething t.0.first (declares_something specifiers) ∷ []) u.1)) (λ u. Done ([], u.1)))) (Anything {A = List Initialiser})
unfolding bind
listed_goes s specifiers l =
    goes_by (specified_rule specifiers (first_of_list specifiers) s) _ GoodSpecified Anything (specified_goes s specifiers (first_of_list specifiers) l) (λ r m x h.
    goes_by (bind (storage_rule r.0 r.1) _) _ Anything Anything
    (goes_by (storage_rule r.0 r.1) _ Anything Anything (storage_goes r.1 r.0 m) (λ u n y k met. (n, after_same u.1, tt))) (λ u n y k. (n, after_same u.1, tt)))

bare_goes : (s : State) (specifiers : Specifiers) → IsLawful s → Goes s (bare_rule specifiers s) Anything
unfolding bare_rule
bare_goes s (S.RecordTag t kind w S.NoSpecifier) l = goes_by _ _ Anything Anything (alone_goes s (record_kind kind) w l) (λ r m x h. (m, after_same r.1, tt))
bare_goes s specifiers l = listed_goes s specifiers l

declarators_goes : (s : State) (specifiers : Specifiers) (ds : List InitDeclarator) → IsLawful s → Goes s (declarators_rule specifiers ds s) Anything
unfolding declarators_rule
declarators_goes s specifiers [] l = bare_goes s specifiers l
declarators_goes s specifiers (d ∷ rest) l =
    goes_by _ _ GoodSpecified Anything (specified_goes s specifiers (first_of_list specifiers) l) (λ r m x h.
    goes_by _ _ Anything Anything (storage_goes r.1 r.0 m) (λ u n y k. init_declarators_goes (d ∷ rest) u.1 r.0 n (lawful_later r.1.types.records u.1.types.records y.extends (type_of r.0.ty) h)))

pub decl_goes : (s : State) (d : Decl) → IsLawful s → Goes s (decl_rule d s) Anything
unfolding decl_rule
decl_goes s d l = declarators_goes s d.specifiers d.declarators l

pub decls_goes : (ds : List Decl) (s : State) → IsLawful s → Goes s (decls_rule ds s) Anything
unfolding decls_rule
decls_goes [] s l = (l, after_same s, tt)
decls_goes (d ∷ rest) s l =
    goes_by _ _ Anything Anything (decl_goes s d l) (λ r m x h.
    goes_by _ _ Anything Anything (decls_goes rest r.1 m) (λ u n y k. (n, after_same u.1, tt)))
