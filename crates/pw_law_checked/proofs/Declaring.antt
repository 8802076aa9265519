-- Names with linkage and objects that are declared and defined: what the parts of the state say of one another they say still.
use Rattle.std.proofs.lemmas.Bool.{eq-eqb}
use Rattle.pw_law_checked.proofs.States.{Grows}
use Rattle.pw_check_walk.specs.Walks.{bind}
use Rattle.std.specs.Prelude.{◌≡◌, ◌⊎◌, ◌==◌, ◌||◌, Bool, true, false, Option, None, Some, unwrap_or, option_and_then, ℕ, suc, List, [], ◌∷◌, ◌++◌, length, slice_get, if◌then◌else◌, refl, ◌<◌}
use Rattle.std.specs.Option.{option_map_or, option_or}
use Rattle.std.specs.Str.{bytes_eq}
use Rattle.std.proofs.Common.{ap, sym, subst, ◌∙◌, inl, inr}
use Rattle.std.proofs.lemmas.Slice.Eq.{bytes_eq-Decides}
use Rattle.pw_scope.specs.Visible.{visible}
use Rattle.pw_types.specs.TypeTrees.{QType, type_of}
use Rattle.pw_types.specs.TypedTrees.{PlacedItem, FunctionValue}
use Rattle.pw_check_walk.specs.Causes.{Point}
use Rattle.pw_check_rules.specs.Compatible.{compatible, composite}
use Rattle.pw_check_rules.specs.Kinds.{is_function}
use Rattle.pw_check_rules.specs.Linkage.{Asking, AsBefore, is_internal_by, internal_of_entity, is_linked, linkage_point, linked_before, linked_anew, linked_again, place_for, note_linked, note_here, type_here, change_linked, slot_for, has_slot, define_tentatively, define_object, initialise_linked, declare_linked, define_function}
use Rattle.pw_check_rules.specs.States.{State, BodyState, LinkedName, Entity, TypeName, EnumerationConstant, LocalObject, StaticObject, Linked, HiddenObject, entity_here, entry_here, entity_at, entry_of, linked_at, if_here, put_linked, add_linked, put_entity, add_hidden, put_hidden, add_slot, enter, put_at, ScopeState}
use Rattle.pw_check_rules.specs.declared.names.Entry.{Entry}
use Rattle.pw_check_rules.specs.declared.names.Slot.{Slot}
use Rattle.pw_check_rules.specs.declared.names.Slot.TheVariants as slot
use Rattle.pw_law_checked.specs.Lawful.{IsLawful, IsLawfulType, IsLawfulEntity}
use Rattle.pw_law_checked.proofs.Walking.{AreMet, truth, Post}
use Rattle.pw_law_checked.proofs.Lists.{get_one, some_same, never_some, get_append, get_more, get_last, get_within, put_either, put_cases, put_same, visible_more, length_put}
use Rattle.pw_law_checked.proofs.Types.{no, lawful_later}
use Rattle.pw_law_checked.proofs.Composite.{Covers, covers_same, covers_trans, covers_first, covers_second, covers_composites}
use Rattle.pw_law_checked.proofs.Sound.{Sound, Continues, continues_same, Onward, Filling, filling_same, Backed, AreBacked, Spelled, AreSpelled, IsFunctionNamed, AreFunctionsNamed, all_backed_on, all_spelled_on, backed_more, spelled_more, plain_backed, plain_spelled, IsPlain, is_stored, Marked, Relinked, slots_relinked, slots_stored, slots_refilled, named_same, HasSlot}
use Rattle.pw_law_checked.proofs.Changes.{entered_sound, hidden_sound, entered_here}
use Rattle.pw_law_checked.proofs.Outside.{Outside, outside_same, outside_trans, outside_more, AreShallow}
use Rattle.pw_law_checked.proofs.Settled.{symbol_continues, Settled, IsMade, NameFrom, Origins, origins_same, origins_put, origins_added, origins_hidden, origins_refilled, settles, HasItems}
use Rattle.pw_law_checked.proofs.ObjectTypes.{AreWithin, KeepsLimit, keeps_composite, within_put, within_same, within_more}
use Rattle.pw_law_checked.proofs.Keeping.{Knows, AfterBy, After, KeptBy, Kept, Changed, after_by, Becomes, becomes_same, Keeps, keeps_same, keeps_longer, around_filling, knows_linked, knows_trans, linked_put, linked_added, entity_put, entered_kept, noted, noted_here, none_named, place_is, place_new, named_before, here_is, GoesBy, here_linked, tentative_kept, defined_kept, function_kept, initialised_kept, composite_lawful, keeps_trans, knows_so, after_same, Pending, after_from, persists_so, nothing}

-- ---- the function that is read, and objects without names

pub body_kept : {p : Pending} (s : State) (body : BodyState) → IsLawful s → body.locals ≡ s.body.locals → KeptBy p p s (record { types = s.types; scopes = s.scopes; made = s.made; body = body })
body_kept {p} s body l same =
    let c = around_filling s s.made body l refl (filling_same s.made.hidden) in (
      c.0,
      after_from c.1 (λ h. keeps_same s.scopes.entities) (λ h. record { backed = h.backed; spelled = h.spelled; functions = h.functions; slots = h.slots })
          (λ h k x e. h k x (subst (λ xs. slice_get xs k ≡ Some x) same e)) (λ h. h) (outside_same s.scopes) refl (λ z. origins_same p.1 s (record { types = s.types; scopes = s.scopes; made = s.made; body = body }) refl refl),
    )

-- one more, whole or about to get its first bytes
pub hidden_kept : {p : Option Slot} (v : Option Slot) (s : State) (x : HiddenObject) → IsLawful s → (v ≡ Some (slot.Hidden (length s.made.hidden))) ⊎ IsMade (add_hidden x s) x
    → KeptBy (p, None) (p, v) s (add_hidden x s)
hidden_kept {p} v s x l good =
    let c = around_filling s (add_hidden x s).made s.body l refl (λ k y e. (y, get_append s.made.hidden (x ∷ []) k y e, covers_same y.ty)) in
    (c.0, after_from c.1 (λ h. keeps_same s.scopes.entities) (λ h. hidden_sound s x p h) (λ h. h) (λ h. h) (outside_same s.scopes) refl (λ z. origins_hidden v s (add_hidden x s) x refl refl good))

pub filling_put : (place : ℕ) (x y : HiddenObject) (xs : List HiddenObject) → slice_get xs place ≡ Some y → Covers x.ty y.ty → Filling xs (put_at place x xs)
filling_put place x y xs at covers k z e = by (put_either place x xs k)
  where
    by : ((k ≡ place) × (slice_get (put_at place x xs) k ≡ Some x)) ⊎ (slice_get (put_at place x xs) k ≡ slice_get xs k)
        → (w : HiddenObject) × (slice_get (put_at place x xs) k ≡ Some w) × Covers w.ty z.ty
    by (inl h) = (x, h.1, subst (λ (w : HiddenObject). Covers x.ty w.ty) (some_same (sym at ∙ (ap (slice_get xs) (sym h.0) ∙ e))) covers)
    by (inr h) = (z, h ∙ e, covers_same z.ty)

pub refilled_sound : (p : Option Slot) (s : State) (place : ℕ) (x y : HiddenObject) → slice_get s.made.hidden place ≡ Some y → Covers x.ty y.ty → Sound p s → Sound p (put_hidden place x s)
refilled_sound p s place x y at covers h = record {
  backed = all_backed_on s.types.linked s.types.linked s.made.hidden (put_at place x s.made.hidden) s.scopes.entities (λ n z e. (z, e, continues_same z))
      (filling_put place x y s.made.hidden at covers) h.backed;
  spelled = h.spelled;
  functions = h.functions;
  slots = slots_refilled p s.types.linked s.made.hidden s.made.slots place x h.slots;
}

-- an object without a name gets its first bytes, and its length
pub hidden_put : (o : Pending) {p : Option Slot} (from s : State) (place : ℕ) (x y : HiddenObject) → AfterBy o (p, Some (slot.Hidden place)) from s → IsLawful s → slice_get s.made.hidden place ≡ Some y → Covers x.ty y.ty
    → (Sound o.0 from → AreShallow from.scopes → Settled o.1 from → IsMade (put_hidden place x s) x) → KeptBy o (p, None) from (put_hidden place x s)
hidden_put o {p} from s place x y a l at covers good =
    let fill : Filling s.made.hidden (put_at place x s.made.hidden) = filling_put place x y s.made.hidden at covers in
    let c = around_filling s (put_hidden place x s).made s.body l refl fill in (
      c.0,
      after_by (knows_trans (knows_so a) c.1) a.entities (λ h. refilled_sound p s place x y at covers (a.sound h)) a.locals a.within a.outside
          (λ h shallow z.
          settles (Some (slot.Hidden place)) None s (put_hidden place x s) (persists_so c.1 (keeps_same s.scopes.entities) (λ name e f. f) refl)
          (origins_refilled s (put_hidden place x s) place x y refl refl at (good h shallow z)) (a.settled h shallow z)),
    )

-- ---- entities

pub keeps_put : (place : ℕ) (x old : Entity) (xs : List Entity) → slice_get xs place ≡ Some old → Becomes old x → Keeps xs (put_at place x xs)
keeps_put place x old xs at becomes k e h = by (put_either place x xs k)
  where
    by : ((k ≡ place) × (slice_get (put_at place x xs) k ≡ Some x)) ⊎ (slice_get (put_at place x xs) k ≡ slice_get xs k)
        → (f : Entity) × (slice_get (put_at place x xs) k ≡ Some f) × Becomes e f
    by (inl g) = (x, g.1, subst (λ y. Becomes y x) (some_same (sym at ∙ (ap (slice_get xs) (sym g.0) ∙ h))) becomes)
    by (inr g) = (e, g ∙ h, becomes_same e)

becomes_spelled : (linked : List LinkedName) (name : List ℕ) (old x : Entity) → Becomes old x → Spelled linked name old → Spelled linked name x
becomes_spelled linked name (Linked n q) x b h = subst (Spelled linked name) (sym b.1) h
becomes_spelled linked name (StaticObject n q) x b h = subst (Spelled linked name) (sym b.1) tt
becomes_spelled linked name (TypeName q) x b h = plain_spelled linked name x b
becomes_spelled linked name (EnumerationConstant n) x b h = plain_spelled linked name x b
becomes_spelled linked name (LocalObject n q register) x b h = plain_spelled linked name x b

backed_put : (linked : List LinkedName) (hidden : List HiddenObject) (place : ℕ) (x : Entity) (xs : List Entity) → AreBacked linked hidden xs → Backed linked hidden x → AreBacked linked hidden (put_at place x xs)
backed_put linked hidden place x xs h b k e f = by (put_cases place x xs k e f)
  where
    by : ((k ≡ place) × (x ≡ e) × ((z : Entity) × (slice_get xs place ≡ Some z))) ⊎ (slice_get xs k ≡ Some e) → Backed linked hidden e
    by (inl g) = subst (Backed linked hidden) g.1 b
    by (inr g) = h k e g

spelled_put : (linked : List LinkedName) (place : ℕ) (x old : Entity) (xs : List Entity) (ordinary : List (List ℕ × Entry)) → slice_get xs place ≡ Some old → Becomes old x → AreSpelled linked xs ordinary
    → AreSpelled linked (put_at place x xs) ordinary
spelled_put linked place x old xs ordinary at becomes h i e f =
    let y = h i e f in
    let z = keeps_put place x old xs at becomes e.1.place y.0 y.1 in
    (z.0, z.1, becomes_spelled linked e.0 y.0 z.0 z.2 y.2)

pub put_sound : (p : Option Slot) (s : State) (place : ℕ) (x old : Entity) → slice_get s.scopes.entities place ≡ Some old → Becomes old x → Backed s.types.linked s.made.hidden x → Sound p s
    → Sound p (put_entity place x s)
put_sound p s place x old at becomes b h = record {
  backed = backed_put s.types.linked s.made.hidden place x s.scopes.entities h.backed b;
  spelled = spelled_put s.types.linked place x old s.scopes.entities s.scopes.ordinary at becomes h.spelled;
  functions = h.functions;
  slots = h.slots;
}

pub entity_becomes : {p : Pending} (s : State) (place : ℕ) (x old : Entity) → IsLawful s → IsLawfulEntity s.types.records x → slice_get s.scopes.entities place ≡ Some old → Becomes old x
    → Backed s.types.linked s.made.hidden x → KeptBy p p s (put_entity place x s)
entity_becomes {p} s place x old l lawful at becomes b =
    let c = entity_put s place x l lawful in
    (c.0, after_from c.1 (λ h. keeps_put place x old s.scopes.entities at becomes) (λ h. put_sound p.0 s place x old at becomes b h) (λ h. h) (λ h. h) (outside_same s.scopes) refl (λ z. origins_same p.1 s (put_entity place x s) refl refl))

-- a name that is new in its scope
pub entered_outside : (s : State) (name : List ℕ) (x : Entity) → entry_here s name ≡ None → Outside s.scopes (enter name x s).scopes
entered_outside s name x fresh =
    outside_more s.scopes (enter name x s).scopes ((name, record { place = length s.scopes.entities; depth = s.scopes.depth }) ∷ []) refl refl
    (λ i e f. sym (ap (λ (y : List ℕ × Entry). y.1.depth) (get_one (name, record { place = length s.scopes.entities; depth = s.scopes.depth }) i e f)))
    (λ other e f. entered_here s name x fresh other e f)

pub plain_entered : {p : Pending} (s : State) (name : List ℕ) (x : Entity) → IsLawful s → IsLawfulEntity s.types.records x → IsPlain x → entry_here s name ≡ None → KeptBy p p s (enter name x s)
plain_entered {p} s name x l lawful plain fresh =
    let c = entered_kept s name x l lawful in (
      c.0,
      after_from c.1 (λ h. keeps_longer s.scopes.entities (s.scopes.entities ++ x ∷ []) (λ k e f. get_append s.scopes.entities (x ∷ []) k e f))
          (λ h. entered_sound s name x p.0 h (plain_backed s.types.linked s.made.hidden x plain) (plain_spelled s.types.linked name x plain)) (λ h. h) (λ h. h) (entered_outside s name x fresh) refl
          (λ z. origins_same p.1 s (enter name x s) refl refl),
    )

pub static_entered : {p : Pending} (s : State) (name : List ℕ) (k : ℕ) (q : QType) (o : HiddenObject) → IsLawful s → IsLawfulEntity s.types.records (StaticObject k q)
    → slice_get s.made.hidden k ≡ Some o → Covers o.ty q → entry_here s name ≡ None → KeptBy p p s (enter name (StaticObject k q) s)
static_entered {p} s name k q o l lawful at covers fresh =
    let c = entered_kept s name (StaticObject k q) l lawful in (
      c.0,
      after_from c.1 (λ h. keeps_longer s.scopes.entities (s.scopes.entities ++ StaticObject k q ∷ []) (λ i e f. get_append s.scopes.entities (StaticObject k q ∷ []) i e f))
          (λ h. entered_sound s name (StaticObject k q) p.0 h (o, at, covers) tt) (λ h. h) (λ h. h) (entered_outside s name (StaticObject k q) fresh) refl
          (λ z. origins_same p.1 s (enter name (StaticObject k q) s) refl refl),
    )

-- ---- a name in the scope

-- what a declaration of a name with linkage is to fit
pub record Linkable (s : State) (name : List ℕ) (ty : QType) : Type 0 where
  pub linked : (x : Entity) → entity_here s name ≡ Some x → is_linked x ≡ true
  pub alike : (l : LinkedName) → linked_before s name ≡ Some l → compatible l.ty ty ≡ true

pub mapped : {A : Type 0} (f : A → Bool) (o : Option A) (x : A) → option_map_or f o true ≡ true → o ≡ Some x → f x ≡ true
mapped f o x h e = sym (ap (λ p. option_map_or f p true) e) ∙ h

pub linkable : (s : State) (name : List ℕ) (token : ℕ) (internal : Bool) (ty : QType) (rest : Point) → AreMet (linkage_point s name token internal ty ++ rest) → Linkable s name ty
linkable s name token internal ty rest met = record {
  linked = λ x e. mapped is_linked (entity_here s name) x (truth _ met.0) e;
  alike = λ l e. mapped (λ (l : LinkedName). compatible l.ty ty) (linked_before s name) l (truth _ met.1.1.0) e;
}

pub visible_named : {X : Type 0} (xs : List (List ℕ × X)) (name : List ℕ) (x : X) → visible xs name ≡ Some x → (i : ℕ) × (slice_get xs i ≡ Some (name, x))
visible_named [] name x e = never_some e
visible_named {X} (entry ∷ later) name x e = by (visible later name) refl (bytes_eq name entry.0) refl e (visible_named later name x)
  where
    by : (o : Option X) → visible later name ≡ o → (b : Bool) → bytes_eq name entry.0 ≡ b → option_or o (if b then Some entry.1 else None) ≡ Some x
        → (visible later name ≡ Some x → (i : ℕ) × (slice_get later i ≡ Some (name, x))) → (i : ℕ) × (slice_get (entry ∷ later) i ≡ Some (name, x))
    by None h true g f rest =
        (0, ap (λ n. Some (n, entry.1)) (sym ((bytes_eq-Decides name entry.0).0 g)) ∙ ap (λ y. Some (name, y)) (some_same f))
    by None h false g f rest = never_some f
    by (Some y) h b g f rest = let r = rest (h ∙ f) in (suc r.0, r.1)

here_entry : (s : State) (name : List ℕ) (e : Entry) → entry_here s name ≡ Some e → (i : ℕ) × (slice_get s.scopes.ordinary i ≡ Some (name, e))
here_entry s name e h = by (entry_of s name) refl h
  where
    is : (b : Bool) (x : Entry) → (if b then Some x else None) ≡ Some e → x ≡ e
    is true x f = some_same f
    is false x f = never_some f

    by : (o : Option Entry) → entry_of s name ≡ o → option_and_then (if_here s.scopes.depth) o ≡ Some e → (i : ℕ) × (slice_get s.scopes.ordinary i ≡ Some (name, e))
    by None f g = never_some g
    by (Some x) f g = visible_named s.scopes.ordinary name e (f ∙ ap Some (is (x.depth == s.scopes.depth) x g))

pub record Here (s : State) (name : List ℕ) (e : Entry) : Type 0 where
  pub entity : Entity
  pub there : slice_get s.scopes.entities e.place ≡ Some entity
  pub is_it : entity_here s name ≡ Some entity
  pub spelled : Spelled s.types.linked name entity

pub here : {p : Option Slot} (s : State) (name : List ℕ) (e : Entry) → Sound p s → entry_here s name ≡ Some e → Here s name e
here {p} s name e h f =
    let i = here_entry s name e f in
    let x = h.spelled i.0 (name, e) i.1 in
    record { entity = x.0; there = x.1; is_it = ap (option_and_then (entity_at s)) f ∙ x.1; spelled = x.2 }

-- ---- names with linkage

pub functions_on : (xs ys : List LinkedName) (fs : List FunctionValue) → Onward xs ys → AreFunctionsNamed xs fs → AreFunctionsNamed ys fs
functions_on xs ys fs on h i f e =
    let x = h i f e in
    let y = on x.0 x.1 x.2 in
    (x.0, y.0, y.1, x.3 ∙ sym (symbol_continues x.1 y.0 y.2), covers_trans y.2.covers x.4, y.2.covers.function ∙ x.5)

-- the state before, with these names with linkage
sound_on : (p q : Option Slot) (s : State) (ys : List LinkedName) → Onward s.types.linked ys
    → ((n : ℕ) → p ≡ Some (slot.Named n) → (q ≡ Some (slot.Named n)) ⊎ ((y : LinkedName) → slice_get ys n ≡ Some y → is_stored y ≡ true))
    → ((n : ℕ) (x : LinkedName) → slice_get s.types.linked n ≡ Some x → (y : LinkedName) × (slice_get ys n ≡ Some y) × Marked x y)
    → Relinked q s.types.linked ys → Sound p s
    → Sound q (record { types = record { records = s.types.records; opened = s.types.opened; linked = ys }; scopes = s.scopes; made = s.made; body = s.body })
sound_on p q s ys on embed marked back h = record {
  backed = all_backed_on s.types.linked ys s.made.hidden s.made.hidden s.scopes.entities on (filling_same s.made.hidden) h.backed;
  spelled = all_spelled_on s.types.linked ys s.scopes.entities s.scopes.ordinary on h.spelled;
  functions = functions_on s.types.linked ys s.made.functions on h.functions;
  slots = slots_relinked p q s.types.linked ys s.made.hidden s.made.slots embed marked back h.slots;
}

marked_put : (place : ℕ) (l x : LinkedName) (xs : List LinkedName) → slice_get xs place ≡ Some l → Marked l x → (n : ℕ) (y : LinkedName) → slice_get xs n ≡ Some y
    → (z : LinkedName) × (slice_get (put_at place x xs) n ≡ Some z) × Marked y z
marked_put place l x xs at m n y e = by (put_either place x xs n)
  where
    by : ((n ≡ place) × (slice_get (put_at place x xs) n ≡ Some x)) ⊎ (slice_get (put_at place x xs) n ≡ slice_get xs n)
        → (z : LinkedName) × (slice_get (put_at place x xs) n ≡ Some z) × Marked y z
    by (inl h) = (x, h.1, subst (λ (w : LinkedName). Marked w x) (some_same (sym at ∙ (ap (slice_get xs) (sym h.0) ∙ e))) m)
    by (inr h) = (y, h ∙ e, (λ z. refl, refl, refl))

relinked_put : (q : Option Slot) (place : ℕ) (l x : LinkedName) (xs : List LinkedName) → slice_get xs place ≡ Some l → Marked l x → Relinked q xs (put_at place x xs)
relinked_put q place l x xs at m n y e = by (put_cases place x xs n y e)
  where
    by : ((n ≡ place) × (x ≡ y) × ((z : LinkedName) × (slice_get xs place ≡ Some z))) ⊎ (slice_get xs n ≡ Some y)
        → ((z : LinkedName) × (slice_get xs n ≡ Some z) × Marked z y) ⊎ Rattle.pw_law_checked.proofs.Sound.IsNew q n y
    by (inl h) = inl (l, ap (slice_get xs) h.0 ∙ at, subst (Marked l) h.1 m)
    by (inr h) = inl (y, h, (λ z. refl, refl, refl))

abbrev Embeds : Option Slot → Option Slot → List LinkedName → Type 0
Embeds p q ys = (n : ℕ) → p ≡ Some (slot.Named n) → (q ≡ Some (slot.Named n)) ⊎ ((y : LinkedName) → slice_get ys n ≡ Some y → is_stored y ≡ true)

-- what takes the place of an entity
abbrev New : List LinkedName → List HiddenObject → List Entity → ℕ → Entity → Type 0
New linked hidden entities place z = (old : Entity) × (slice_get entities place ≡ Some old) × Becomes old z × Backed linked hidden z

-- a name that is declared again in the scope, or there for the first time
pub again_after : (o p q : Pending) (from s : State) (name : List ℕ) (place : ℕ) (ty : QType) (l x : LinkedName) → AfterBy o p from s → IsLawful s → IsLawfulType s.types.records (type_of ty) → KeepsLimit s.types.records (type_of ty)
    → slice_get s.types.linked place ≡ Some l → l.name ≡ name → Continues l x → x.ty ≡ composite l.ty ty → Marked l x → compatible l.ty ty ≡ true
    → (Sound o.0 from → (y : Entity) → entity_here s name ≡ Some y → is_linked y ≡ true) → Embeds p.0 q.0 (put_at place x s.types.linked)
    → (Sound o.0 from → AreShallow from.scopes → Settled o.1 from → is_function (type_of x.ty) ≡ false → NameFrom p.1 q.1 s (note_here name place ty (put_linked place x s)) place x)
    → ((z : Slot) → p.1 ≡ Some z → (z ≡ slot.Named place) ⊎ (q.1 ≡ Some z))
    → AfterBy o q from (note_here name place ty (put_linked place x s))
again_after o p q from s name place ty l x a lawful known limit at named on composed marked alike linked embed comes rest = by_entry (entry_here s name) refl comes
  where
    xs : List LinkedName
    xs = put_at place x s.types.linked

    first : IsLawfulType s.types.records (type_of l.ty)
    first = lawful.linked place l at

    c : Changed s (put_linked place x s)
    c = linked_put s place x lawful (subst (λ t. IsLawfulType s.types.records (type_of t)) (sym composed) (Rattle.pw_law_checked.proofs.Keeping.composite_lawful s.types.records l.ty ty first known))
        (λ y e. subst (λ (z : LinkedName). Continues z x) (some_same (sym at ∙ e)) on)

    now : slice_get xs place ≡ Some x
    now = put_same place x s.types.linked (get_within s.types.linked place l at)

    within : AreWithin from.types.records from.types.linked → AreWithin s.types.records xs
    within h =
        let old = a.within h in
        within_put s.types.records place x s.types.linked
        (subst (λ t. IsLawfulType s.types.records (type_of t)) (sym composed) (Rattle.pw_law_checked.proofs.Keeping.composite_lawful s.types.records l.ty ty first known))
        (subst (λ t. KeepsLimit s.types.records (type_of t)) (sym composed) (keeps_composite s.types.records l.ty ty alike first known (old place l at).1 limit)) old

    t1 : Sound p.0 s → Sound q.0 (put_linked place x s)
    t1 h = sound_on p.0 q.0 s xs c.1.names embed (marked_put place l x s.types.linked at marked) (relinked_put q.0 place l x s.types.linked at marked) h

    known_later : Knows s (note_here name place ty (put_linked place x s))
    known_later = knows_trans c.1 (noted_here (put_linked place x s) name place ty c.0 known).1

    Comes : State → Type 0
    Comes t = Sound o.0 from → AreShallow from.scopes → Settled o.1 from → is_function (type_of x.ty) ≡ false → NameFrom p.1 q.1 s t place x

    origins : (t : State) → t.types.linked ≡ xs → t.made.hidden ≡ s.made.hidden → (is_function (type_of x.ty) ≡ false → NameFrom p.1 q.1 s t place x) → Origins p.1 q.1 s t
    origins t names objects from = origins_put p.1 q.1 s t place l x names objects at from rest

    by_entry : (w : Option Entry) → entry_here s name ≡ w → Comes (note_here name place ty (put_linked place x s)) → AfterBy o q from (note_here name place ty (put_linked place x s))
    by_entry None e come =
        subst (λ w. Comes (option_map_or (λ (e : Entry). put_entity e.place (Linked place (type_here ty (unwrap_or (entity_here s name) (TypeName ty)))) (put_linked place x s)) w (enter name (Linked place ty) (put_linked place x s)))
        → AfterBy o q from (option_map_or (λ (e : Entry). put_entity e.place (Linked place (type_here ty (unwrap_or (entity_here s name) (TypeName ty)))) (put_linked place x s)) w (enter name (Linked place ty) (put_linked place x s))))
        (sym e)
        (λ comes. after_by
        (knows_trans (knows_so a) (subst (λ w. Knows s (option_map_or (λ (e : Entry). put_entity e.place (Linked place (type_here ty (unwrap_or (entity_here s name) (TypeName ty)))) (put_linked place x s)) w (enter name (Linked place ty) (put_linked place x s)))) e known_later))
        (λ h. keeps_trans from.scopes.entities s.scopes.entities (s.scopes.entities ++ Linked place ty ∷ []) (a.entities h)
        (keeps_longer s.scopes.entities (s.scopes.entities ++ Linked place ty ∷ []) (λ k y f. get_append s.scopes.entities (Linked place ty ∷ []) k y f)))
        (λ h. entered_sound (put_linked place x s) name (Linked place ty) q.0 (t1 (a.sound h))
        (x, now, subst (λ t. Covers t ty) (sym composed) (covers_second s.types.records l.ty ty alike first known)) (x, now, on.name ∙ named)) a.locals within
        (outside_trans from.scopes s.scopes (enter name (Linked place ty) s).scopes a.outside (entered_outside s name (Linked place ty) e))
        (λ h shallow z.
        settles p.1 q.1 s (enter name (Linked place ty) (put_linked place x s))
        (persists_so (subst (λ w. Knows s (option_map_or (λ (e : Entry). put_entity e.place (Linked place (type_here ty (unwrap_or (entity_here s name) (TypeName ty)))) (put_linked place x s)) w (enter name (Linked place ty) (put_linked place x s)))) e known_later)
        (keeps_longer s.scopes.entities (s.scopes.entities ++ Linked place ty ∷ []) (λ k y f. get_append s.scopes.entities (Linked place ty ∷ []) k y f))
        (entered_outside s name (Linked place ty) e (a.outside shallow).0).1 refl)
        (origins (enter name (Linked place ty) (put_linked place x s)) refl refl (comes h shallow z)) (a.settled h shallow z)))
        come
    by_entry (Some e) f come =
        subst (λ w. Comes (option_map_or (λ (e : Entry). put_entity e.place (Linked place (type_here ty (unwrap_or (entity_here s name) (TypeName ty)))) (put_linked place x s)) w (enter name (Linked place ty) (put_linked place x s)))
        → AfterBy o q from (option_map_or (λ (e : Entry). put_entity e.place (Linked place (type_here ty (unwrap_or (entity_here s name) (TypeName ty)))) (put_linked place x s)) w (enter name (Linked place ty) (put_linked place x s))))
        (sym f)
        (λ comes. after_by
        (knows_trans (knows_so a) (subst (λ w. Knows s (option_map_or (λ (e : Entry). put_entity e.place (Linked place (type_here ty (unwrap_or (entity_here s name) (TypeName ty)))) (put_linked place x s)) w (enter name (Linked place ty) (put_linked place x s)))) f known_later))
        (λ h. let y = new h in
        keeps_trans from.scopes.entities s.scopes.entities (put_at e.place (Linked place (type_here ty (unwrap_or (entity_here s name) (TypeName ty)))) s.scopes.entities) (a.entities h)
        (keeps_put e.place (Linked place (type_here ty (unwrap_or (entity_here s name) (TypeName ty)))) y.0 s.scopes.entities y.1 y.2))
        (λ h. let y = new h in put_sound q.0 (put_linked place x s) e.place (Linked place (type_here ty (unwrap_or (entity_here s name) (TypeName ty)))) y.0 y.1 y.2 y.3 (t1 (a.sound h))) a.locals within a.outside
        (λ h shallow z.
        let y = new h in
        settles p.1 q.1 s (put_entity e.place (Linked place (type_here ty (unwrap_or (entity_here s name) (TypeName ty)))) (put_linked place x s))
        (persists_so (subst (λ w. Knows s (option_map_or (λ (e : Entry). put_entity e.place (Linked place (type_here ty (unwrap_or (entity_here s name) (TypeName ty)))) (put_linked place x s)) w (enter name (Linked place ty) (put_linked place x s)))) f known_later)
        (keeps_put e.place (Linked place (type_here ty (unwrap_or (entity_here s name) (TypeName ty)))) y.0 s.scopes.entities y.1 y.2) (λ other w g. g) refl)
        (origins (put_entity e.place (Linked place (type_here ty (unwrap_or (entity_here s name) (TypeName ty)))) (put_linked place x s)) refl refl (comes h shallow z)) (a.settled h shallow z)))
        come
      where
        by_entity : Sound p.0 s → (y : Entity) → slice_get s.scopes.entities e.place ≡ Some y → Spelled s.types.linked name y → is_linked y ≡ true → New xs s.made.hidden s.scopes.entities e.place (Linked place (type_here ty y))
        by_entity h (TypeName r) there spelled z = no z
        by_entity h (EnumerationConstant n) there spelled z = no z
        by_entity h (LocalObject n r register) there spelled z = no z
        by_entity h (StaticObject n r) there spelled z = no z
        by_entity h (Linked n r) there spelled z =
            let same : n ≡ place = lawful.apart n place spelled.0 l spelled.1 at (spelled.2 ∙ sym named) in
            let backed = h.backed e.place (Linked n r) there in
            let is : backed.0 ≡ l = some_same (sym backed.1 ∙ (ap (slice_get s.types.linked) same ∙ at)) in
            let lawfully : IsLawfulType s.types.records (type_of r) = lawful.entities e.place (Linked n r) there in
            let covers : Covers l.ty r = subst (λ (w : LinkedName). Covers w.ty r) is backed.2 in (
              Linked n r,
              there,
              (composite r ty, ap (λ k. Linked k (composite r ty)) (sym same), covers_first s.types.records r ty lawfully),
              (x, now, subst (λ t. Covers t (composite r ty)) (sym composed) (covers_composites s.types.records l.ty r ty covers alike first lawfully)),
            )

        new : Sound o.0 from → New xs s.made.hidden s.scopes.entities e.place (Linked place (type_here ty (unwrap_or (entity_here s name) (TypeName ty))))
        new h =
            let y = here s name e (a.sound h) f in
            subst (λ w. New xs s.made.hidden s.scopes.entities e.place (Linked place (type_here ty (unwrap_or w (TypeName ty))))) (sym y.is_it)
            (by_entity (a.sound h) y.entity y.there y.spelled (linked h y.entity y.is_it))

-- a name that had no declaration
new_after : (q : Option Slot) (s : State) (name : List ℕ) (place : ℕ) (ty : QType) (x : LinkedName) → IsLawful s → IsLawfulType s.types.records (type_of ty) → KeepsLimit s.types.records (type_of ty)
    → linked_before s name ≡ None → place ≡ length s.types.linked → x.name ≡ name → x.ty ≡ ty → is_stored x ≡ false → x.defined ≡ false → x.items ≡ []
    → (Sound None s → x.internal ≡ true → is_function (type_of x.ty) ≡ false → q ≡ Some (slot.Named place))
    → ((y : Entity) → entity_here s name ≡ Some y → is_linked y ≡ true)
    → AfterBy nothing (q, None) s (note_here name place ty (add_linked x s))
new_after q s name place ty x lawful known limit none last named typed bare undefined empty new linked_only = by_entry (entry_here s name) refl
  where
    xs : List LinkedName
    xs = s.types.linked ++ x ∷ []

    c : Changed s (add_linked x s)
    c = linked_added s x lawful (subst (λ t. IsLawfulType s.types.records (type_of t)) (sym typed) known) (λ i y e same. none_named s name none i y e (same ∙ named))

    now : slice_get xs place ≡ Some x
    now = subst (λ k. slice_get xs k ≡ Some x) (sym last) (get_last s.types.linked x)

    within : AreWithin s.types.records s.types.linked → AreWithin s.types.records xs
    within h =
        within_more s.types.records x s.types.linked (subst (λ t. IsLawfulType s.types.records (type_of t)) (sym typed) known)
        (subst (λ t. KeepsLimit s.types.records (type_of t)) (sym typed) limit) h

    back : Sound None s → Relinked q s.types.linked xs
    back h n y e = by (get_more s.types.linked x n y e)
      where
        by : (slice_get s.types.linked n ≡ Some y) ⊎ ((n ≡ length s.types.linked) × (x ≡ y))
            → ((z : LinkedName) × (slice_get s.types.linked n ≡ Some z) × Marked z y) ⊎ Rattle.pw_law_checked.proofs.Sound.IsNew q n y
        by (inl f) = inl (y, f, (λ z. refl, refl, refl))
        by (inr f) =
            inr (subst (λ (z : LinkedName). Rattle.pw_law_checked.proofs.Sound.IsNew q n z) f.1
            (bare, λ i g. subst (λ k. q ≡ Some (slot.Named k)) (last ∙ sym f.0) (new h i g)))

    t1 : Sound None s → Sound q (add_linked x s)
    t1 h =
        sound_on None q s xs c.1.names (λ n e. never_some e) (λ n y e. (y, get_append s.types.linked (x ∷ []) n y e, (λ z. refl, refl, refl))) (back h) h

    known_later : Knows s (note_here name place ty (add_linked x s))
    known_later = knows_trans c.1 (noted_here (add_linked x s) name place ty c.0 known).1

    by_entry : (o : Option Entry) → entry_here s name ≡ o → AfterBy nothing (q, None) s (note_here name place ty (add_linked x s))
    by_entry None e =
        subst (λ o. AfterBy nothing (q, None) s (option_map_or (λ (e : Entry). put_entity e.place (Linked place (type_here ty (unwrap_or (entity_here s name) (TypeName ty)))) (add_linked x s)) o (enter name (Linked place ty) (add_linked x s))))
        (sym e)
        (after_from
        (subst (λ o. Knows s (option_map_or (λ (e : Entry). put_entity e.place (Linked place (type_here ty (unwrap_or (entity_here s name) (TypeName ty)))) (add_linked x s)) o (enter name (Linked place ty) (add_linked x s)))) e known_later)
        (λ h. keeps_longer s.scopes.entities (s.scopes.entities ++ Linked place ty ∷ []) (λ k y f. get_append s.scopes.entities (Linked place ty ∷ []) k y f))
        (λ h. entered_sound (add_linked x s) name (Linked place ty) q (t1 h) (x, now, subst (λ t. Covers t ty) (sym typed) (covers_same ty)) (x, now, named)) (λ h. h) within (entered_outside s name (Linked place ty) e) refl
        (λ z. origins_added None s (enter name (Linked place ty) (add_linked x s)) x refl refl undefined empty))
    by_entry (Some e) f =
        subst (λ o. AfterBy nothing (q, None) s (option_map_or (λ (e : Entry). put_entity e.place (Linked place (type_here ty (unwrap_or (entity_here s name) (TypeName ty)))) (add_linked x s)) o (enter name (Linked place ty) (add_linked x s))))
        (sym f)
        (after_by
        (subst (λ o. Knows s (option_map_or (λ (e : Entry). put_entity e.place (Linked place (type_here ty (unwrap_or (entity_here s name) (TypeName ty)))) (add_linked x s)) o (enter name (Linked place ty) (add_linked x s)))) f known_later)
        (λ h. absurd (never h)) (λ h. absurd (never h)) (λ h. h) within (outside_same s.scopes) (λ h. absurd (never h)))
      where
        by_entity : (y : Entity) → Spelled s.types.linked name y → is_linked y ≡ true → ⊥
        by_entity (TypeName r) spelled z = no z
        by_entity (EnumerationConstant n) spelled z = no z
        by_entity (LocalObject n r register) spelled z = no z
        by_entity (StaticObject n r) spelled z = no z
        by_entity (Linked n r) spelled z = none_named s name none n spelled.0 spelled.1 spelled.2

        never : Sound None s → ⊥
        never h = let y = here s name e h f in by_entity y.entity y.spelled (linked_only y.entity y.is_it)

-- at the place stands the name, of which no less is known
abbrev pub DeclaredAt : List ℕ → QType → State → ℕ → Type 0
DeclaredAt name ty t place = (l : LinkedName) × (slice_get t.types.linked place ≡ Some l) × (l.name ≡ name) × Covers l.ty ty

pub declared_after : (q : Option Slot) (s : State) (name : List ℕ) (internal : Bool) (ty : QType) (token : ℕ) (tag : Option ℕ) → IsLawful s → IsLawfulType s.types.records (type_of ty) → KeepsLimit s.types.records (type_of ty) → Linkable s name ty
    → (Sound None s → linked_before s name ≡ None → internal ≡ true → is_function (type_of ty) ≡ false → q ≡ Some (slot.Named (place_for s name)))
    → AfterBy nothing (q, None) s (note_here name (place_for s name) ty (note_linked name internal ty token tag s))
declared_after q s name internal ty token tag l h limit link new = by (linked_before s name) refl
  where
    by : (o : Option LinkedName) → linked_before s name ≡ o
        → AfterBy nothing (q, None) s (note_here name (place_for s name) ty (option_map_or (λ x. put_linked (place_for s name) (linked_again ty x) s) o (add_linked (linked_anew name internal ty token tag) s)))
    by None e = new_after q s name (place_for s name) ty (linked_anew name internal ty token tag) l h limit e (place_new s name e) refl refl refl refl refl (λ z i f. new z e i f) link.linked
    by (Some x) e =
        let covers : Covers (composite x.ty ty) x.ty = covers_first s.types.records x.ty ty (l.linked (place_for s name) x (place_is s name x e)) in
        again_after nothing nothing (q, None) s s name (place_for s name) ty x (linked_again ty x) (after_same s) l h limit (place_is s name x e) (named_before s name x e)
        (record { name = refl; internal = refl; tentative = λ z. z; defined = λ z. z; covers = covers }) refl (λ z. refl, refl, covers.function) (link.alike x e) (λ z. link.linked) (λ n f. never_some f)
        (λ z shallow y f. inl (x, place_is s name x e, record { name = refl; items = refl; defined = refl }, sym covers.function, λ g. never_some g)) (λ z f. never_some f)

noted_as : (s : State) (name : List ℕ) (internal : Bool) (ty : QType) (token : ℕ) (tag : Option ℕ) → IsLawful s → IsLawfulType s.types.records (type_of ty) → Linkable s name ty → DeclaredAt name ty (note_linked name internal ty token tag s) (place_for s name)
noted_as s name internal ty token tag l h link = by (linked_before s name) refl
  where
    by : (o : Option LinkedName) → linked_before s name ≡ o
        → DeclaredAt name ty (option_map_or (λ x. put_linked (place_for s name) (linked_again ty x) s) o (add_linked (linked_anew name internal ty token tag) s)) (place_for s name)
    by None e = (
      linked_anew name internal ty token tag,
      subst (λ k. slice_get (s.types.linked ++ linked_anew name internal ty token tag ∷ []) k ≡ Some (linked_anew name internal ty token tag)) (sym (place_new s name e))
          (get_last s.types.linked (linked_anew name internal ty token tag)),
      refl,
      covers_same ty,
    )
    by (Some x) e = (
      linked_again ty x,
      put_same (place_for s name) (linked_again ty x) s.types.linked (get_within s.types.linked (place_for s name) x (place_is s name x e)),
      named_before s name x e,
      covers_second s.types.records x.ty ty (link.alike x e) (l.linked (place_for s name) x (place_is s name x e)) h,
    )

-- the name is declared in the scope, with linkage
abbrev pub DeclaredHere : List ℕ → ScopeState → Type 0
DeclaredHere name c =
    (e : Entry) × (option_and_then (if_here c.depth) (visible c.ordinary name) ≡ Some e) × ((y : Entity) → slice_get c.entities e.place ≡ Some y → is_linked y ≡ true)

entry_entered : (s : State) (name : List ℕ) (x : Entity) → entry_here (enter name x s) name ≡ Some (record { place = length s.scopes.entities; depth = s.scopes.depth })
entry_entered s name x =
    ap (option_and_then (if_here s.scopes.depth))
    (visible_more s.scopes.ordinary name (record { place = length s.scopes.entities; depth = s.scopes.depth }) name
    ∙ ap (λ b. if b then Some (record { place = length s.scopes.entities; depth = s.scopes.depth }) else visible s.scopes.ordinary name) ((bytes_eq-Decides name name).1 refl))
    ∙ ap (λ b. if b then Some (record { place = length s.scopes.entities; depth = s.scopes.depth }) else None) (eq-eqb s.scopes.depth s.scopes.depth refl)

put_is : (place : ℕ) (x : Entity) (xs : List Entity) (y : Entity) → slice_get (put_at place x xs) place ≡ Some y → x ≡ y
put_is place x xs y e =
    some_same (sym (put_same place x xs (subst (λ n. place < n) (length_put place x xs) (get_within (put_at place x xs) place y e))) ∙ e)

noted_declared : (s : State) (name : List ℕ) (place : ℕ) (ty : QType) → DeclaredHere name (note_here name place ty s).scopes
noted_declared s name place ty = by (entry_here s name) refl
  where
    x : Entity
    x = Linked place (type_here ty (unwrap_or (entity_here s name) (TypeName ty)))

    by : (o : Option Entry) → entry_here s name ≡ o → DeclaredHere name (option_map_or (λ (e : Entry). put_entity e.place (Linked place (type_here ty (unwrap_or (entity_here s name) (TypeName ty)))) s) o (enter name (Linked place ty) s)).scopes
    by None e = (
      record { place = length s.scopes.entities; depth = s.scopes.depth },
      entry_entered s name (Linked place ty),
      λ y f. ap is_linked (sym (some_same (sym (get_last s.scopes.entities (Linked place ty)) ∙ f))),
    )
    by (Some e) f = (e, f, λ y g. ap is_linked (sym (put_is e.place x s.scopes.entities y g)))

pub defined_scopes : (s : State) (place : ℕ) → (define_object place s).scopes ≡ s.scopes
defined_scopes s place = by (has_slot s place)
  where
    by_name : (t : State) (o : Option LinkedName) → (option_map_or (λ (l : LinkedName). put_linked place (record l { defined = true }) t) o t).scopes ≡ t.scopes
    by_name t None = refl
    by_name t (Some l) = refl

    by : (b : Bool) → (change_linked place (λ l. record l { defined = true }) (if b then s else add_slot (slot.Named place) s)).scopes ≡ s.scopes
    by true = by_name s (linked_at s place)
    by false = by_name (add_slot (slot.Named place) s) (linked_at s place)

pub defined_place : (s : State) (place : ℕ) (l : LinkedName) → slice_get s.types.linked place ≡ Some l → slice_get (define_object place s).types.linked place ≡ Some (record l { defined = true })
defined_place s place l at = by (has_slot s place)
  where
    now : slice_get (put_at place (record l { defined = true }) s.types.linked) place ≡ Some (record l { defined = true })
    now = put_same place (record l { defined = true }) s.types.linked (get_within s.types.linked place l at)

    by : (b : Bool) → slice_get (change_linked place (λ y. record y { defined = true }) (if b then s else add_slot (slot.Named place) s)).types.linked place ≡ Some (record l { defined = true })
    by true = subst (λ o. slice_get (option_map_or (λ y. put_linked place (record y { defined = true }) s) o s).types.linked place ≡ Some (record l { defined = true })) (sym at) now
    by false =
        subst (λ o. slice_get (option_map_or (λ y. put_linked place (record y { defined = true }) (add_slot (slot.Named place) s)) o (add_slot (slot.Named place) s)).types.linked place ≡ Some (record l { defined = true })) (sym at)
        now

-- what a declaration of a name with linkage leaves: its place
abbrev pub GoodPlace : List ℕ → QType → ℕ → State → ℕ → Type 0
GoodPlace name q before t place = (place ≡ before) × DeclaredAt name q t place × DeclaredHere name t.scopes

pub declared_lawful : (s : State) (name : List ℕ) (token : ℕ) (tag : Option ℕ) (asking : Asking) (q : QType) → IsLawful s → IsLawfulType s.types.records (type_of q)
    → IsLawful (note_here name (place_for s name) q (note_linked name (is_internal_by s name asking) q token tag s))
declared_lawful s name token tag asking q l h =
    let a : Changed s (note_linked name (is_internal_by s name asking) q token tag s) = noted s name (is_internal_by s name asking) q token tag l h in
    (noted_here (note_linked name (is_internal_by s name asking) q token tag s) name (place_for s name) q a.0
    (lawful_later s.types.records (note_linked name (is_internal_by s name asking) q token tag s).types.records a.1.extends (type_of q) h)).0

pub declared_knows : (s : State) (name : List ℕ) (token : ℕ) (tag : Option ℕ) (asking : Asking) (q : QType) → IsLawful s → IsLawfulType s.types.records (type_of q)
    → Post (declare_linked name token tag asking q s) (λ r. IsLawful r.1 × Knows s r.1)
unfolding declare_linked bind
declared_knows s name token tag asking q l h =
    let a : Changed s (note_linked name (is_internal_by s name asking) q token tag s) = noted s name (is_internal_by s name asking) q token tag l h in
    let b : Changed (note_linked name (is_internal_by s name asking) q token tag s) (note_here name (place_for s name) q (note_linked name (is_internal_by s name asking) q token tag s)) =
    noted_here (note_linked name (is_internal_by s name asking) q token tag s) name (place_for s name) q a.0
    (lawful_later s.types.records (note_linked name (is_internal_by s name asking) q token tag s).types.records a.1.extends (type_of q) h) in
    (b.0, knows_trans a.1 b.1)

pub declared_goes : (o : Option Slot) (s : State) (name : List ℕ) (token : ℕ) (tag : Option ℕ) (asking : Asking) (q : QType) → IsLawful s → IsLawfulType s.types.records (type_of q) → KeepsLimit s.types.records (type_of q) → Linkable s name q
    → (Sound None s → linked_before s name ≡ None → is_internal_by s name asking ≡ true → is_function (type_of q) ≡ false → o ≡ Some (slot.Named (place_for s name)))
    → GoesBy nothing (o, None) s (declare_linked name token tag asking q s) (GoodPlace name q (place_for s name))
unfolding declare_linked bind
declared_goes o s name token tag asking q l h limit link new =
    let a : Changed s (note_linked name (is_internal_by s name asking) q token tag s) = noted s name (is_internal_by s name asking) q token tag l h in
    let b : Changed (note_linked name (is_internal_by s name asking) q token tag s) (note_here name (place_for s name) q (note_linked name (is_internal_by s name asking) q token tag s)) =
    noted_here (note_linked name (is_internal_by s name asking) q token tag s) name (place_for s name) q a.0
    (lawful_later s.types.records (note_linked name (is_internal_by s name asking) q token tag s).types.records a.1.extends (type_of q) h) in
    let x : DeclaredAt name q (note_linked name (is_internal_by s name asking) q token tag s) (place_for s name) = noted_as s name (is_internal_by s name asking) q token tag l h link in (
      b.0,
      declared_after o s name (is_internal_by s name asking) q token tag l h limit link new,
      (refl, (x.0, ap (λ xs. slice_get xs (place_for s name)) (here_linked (note_linked name (is_internal_by s name asking) q token tag s) name (place_for s name) q) ∙ x.1, x.2, x.3), noted_declared (note_linked name (is_internal_by s name asking) q token tag s) name (place_for s name) q),
    )

-- a name that is visible with internal linkage is one of those with linkage
pub visible_before : (s : State) (name : List ℕ) → Sound None s → linked_before s name ≡ None → is_internal_by s name AsBefore ≡ true → ⊥
visible_before s name h none internal = by (entry_of s name) refl internal
  where
    by_entity : (x : Entity) → Spelled s.types.linked name x → unwrap_or (internal_of_entity s x) false ≡ true → ⊥
    by_entity (Linked n r) spelled e = none_named s name none n spelled.0 spelled.1 spelled.2
    by_entity (TypeName r) spelled e = no e
    by_entity (EnumerationConstant n) spelled e = no e
    by_entity (LocalObject n r register) spelled e = no e
    by_entity (StaticObject n r) spelled e = no e

    by : (o : Option Entry) → entry_of s name ≡ o → unwrap_or (option_and_then (internal_of_entity s) (option_and_then (entity_at s) o)) false ≡ true → ⊥
    by None f e = no e
    by (Some x) f e =
        let i = visible_named s.scopes.ordinary name x f in
        let y = h.spelled i.0 (name, x) i.1 in
        by_entity y.0 y.2 (subst (λ o. unwrap_or (option_and_then (internal_of_entity s) o) false ≡ true) y.1 e)

-- ---- definitions

or_true : (b : Bool) → (b || true) ≡ true
or_true true = refl
or_true false = refl

-- the name is stored from here on
pub stored_after : (p q v : Option Slot) (s : State) (place : ℕ) (l : LinkedName) (f : LinkedName → LinkedName) → IsLawful s → slice_get s.types.linked place ≡ Some l → Continues l (f l)
    → (f l).ty ≡ l.ty → (f l).internal ≡ l.internal → is_stored (f l) ≡ true → is_function (type_of l.ty) ≡ false
    → ((n : ℕ) → p ≡ Some (slot.Named n) → (n ≡ place) ⊎ (q ≡ Some (slot.Named n))) → ((t : State) → NameFrom None v s t place (f l))
    → AfterBy (p, None) (q, v) s (change_linked place f (slot_for place s))
stored_after p q v s place l f lawful at on typed internal stored object embed from = by (has_slot s place) refl
  where
    xs : List LinkedName
    xs = put_at place (f l) s.types.linked

    c : Changed s (put_linked place (f l) s)
    c = linked_put s place (f l) lawful (subst (λ t. IsLawfulType s.types.records (type_of t)) (sym typed) (lawful.linked place l at)) (λ y e. subst (λ (z : LinkedName). Continues z (f l)) (some_same (sym at ∙ e)) on)

    now : slice_get xs place ≡ Some (f l)
    now = put_same place (f l) s.types.linked (get_within s.types.linked place l at)

    kind : is_function (type_of (f l).ty) ≡ is_function (type_of l.ty)
    kind = ap (λ t. is_function (type_of t)) typed

    either : (n : ℕ) → (n ≡ place) ⊎ (q ≡ Some (slot.Named n)) → (q ≡ Some (slot.Named n)) ⊎ ((y : LinkedName) → slice_get xs n ≡ Some y → is_stored y ≡ true)
    either n (inl h) = inr (λ y e. ap is_stored (sym (some_same (sym now ∙ (ap (slice_get xs) (sym h) ∙ e)))) ∙ stored)
    either n (inr h) = inl h

    by : (b : Bool) → has_slot s place ≡ b → AfterBy (p, None) (q, v) s (change_linked place f (if b then s else add_slot (slot.Named place) s))
    by true e =
        let before : is_stored l ≡ true = sym (ap (λ o. option_map_or (λ (y : LinkedName). y.tentative || y.defined) o false) at) ∙ e in
        let marked : Marked l (f l) = (λ z. stored ∙ sym before, internal, kind) in
        subst (λ o. AfterBy (p, None) (q, v) s (option_map_or (λ y. put_linked place (f y) s) o s)) (sym at)
        (after_from c.1 (λ h. keeps_same s.scopes.entities)
        (λ h. sound_on p q s xs c.1.names (λ n g. either n (embed n g)) (marked_put place l (f l) s.types.linked at marked) (relinked_put q place l (f l) s.types.linked at marked) h) (λ h. h) (λ h. within_same s.types.records place l (f l) s.types.linked at typed h) (outside_same s.scopes) refl
        (λ z. origins_put None v s (put_linked place (f l) s) place l (f l) refl refl at (λ g. from (put_linked place (f l) s)) (λ w g. never_some g)))
    by false e =
        let before : is_stored l ≡ false = sym (ap (λ o. option_map_or (λ (y : LinkedName). y.tentative || y.defined) o false) at) ∙ e in
        subst (λ o. AfterBy (p, None) (q, v) s (option_map_or (λ y. put_linked place (f y) (add_slot (slot.Named place) s)) o (add_slot (slot.Named place) s))) (sym at)
        (after_from (record { extends = c.1.extends; names = c.1.names; functions = c.1.functions; hidden = c.1.hidden; depth = c.1.depth }) (λ h. keeps_same s.scopes.entities)
        (λ h. record {
          backed = all_backed_on s.types.linked xs s.made.hidden s.made.hidden s.scopes.entities c.1.names (filling_same s.made.hidden) h.backed;
          spelled = all_spelled_on s.types.linked xs s.scopes.entities s.scopes.ordinary c.1.names h.spelled;
          functions = functions_on s.types.linked xs s.made.functions c.1.names h.functions;
          slots = slots_stored p q place l (f l) s.types.linked s.made.hidden s.made.slots embed at before stored object (kind ∙ object) h.slots;
        }) (λ h. h) (λ h. within_same s.types.records place l (f l) s.types.linked at typed h) (outside_same s.scopes) refl
        (λ z. origins_put None v s (put_linked place (f l) (add_slot (slot.Named place) s)) place l (f l) refl refl at (λ g. from (put_linked place (f l) (add_slot (slot.Named place) s))) (λ w g. never_some g)))

pub tentative_after : (p q : Option Slot) (s : State) (place : ℕ) (l : LinkedName) → IsLawful s → slice_get s.types.linked place ≡ Some l → is_function (type_of l.ty) ≡ false
    → ((n : ℕ) → p ≡ Some (slot.Named n) → (n ≡ place) ⊎ (q ≡ Some (slot.Named n))) → KeptBy (p, None) (q, None) s (define_tentatively place s)
tentative_after p q s place l lawful at object embed = (
  (tentative_kept s place lawful).0,
  stored_after p q None s place l (λ x. record x { tentative = true }) lawful at (record { name = refl; internal = refl; tentative = λ z. refl; defined = λ z. z; covers = covers_same l.ty }) refl refl refl object embed
      (λ t. inl (l, at, record { name = refl; items = refl; defined = refl }, refl, λ g. g)),
)

pub object_after : (p q : Option Slot) (s : State) (place : ℕ) (l : LinkedName) → IsLawful s → slice_get s.types.linked place ≡ Some l → is_function (type_of l.ty) ≡ false
    → ((n : ℕ) → p ≡ Some (slot.Named n) → (n ≡ place) ⊎ (q ≡ Some (slot.Named n))) → KeptBy (p, None) (q, Some (slot.Named place)) s (define_object place s)
object_after p q s place l lawful at object embed = (
  (defined_kept s place lawful).0,
  stored_after p q (Some (slot.Named place)) s place l (λ x. record x { defined = true }) lawful at (record { name = refl; internal = refl; tentative = λ z. z; defined = λ z. refl; covers = covers_same l.ty }) refl refl (or_true l.tentative) object embed
      (λ t. inr (inl refl)),
)

-- a function that is defined
pub function_after : (s : State) (place : ℕ) (l : LinkedName) → IsLawful s → slice_get s.types.linked place ≡ Some l → is_function (type_of l.ty) ≡ true → Kept s (define_function place s)
function_after s place l lawful at kind = (
  (function_kept s place lawful).0,
  subst (λ o. After s (option_map_or (λ y. put_linked place (record y { defined = true }) s) o s)) (sym at)
      (let x : LinkedName = record l { defined = true } in
      let on : Continues l (record l { defined = true }) = record { name = refl; internal = refl; tentative = λ z. z; defined = λ z. refl; covers = covers_same l.ty } in
      let c = linked_put s place (record l { defined = true }) lawful (lawful.linked place l at) (λ y e. subst (λ (z : LinkedName). Continues z (record l { defined = true })) (some_same (sym at ∙ e)) on) in
      let marked : Marked l (record l { defined = true }) = (λ z. no (sym z ∙ kind), refl, refl) in
      after_from c.1 (λ h. keeps_same s.scopes.entities)
      (λ h. sound_on None None s (put_at place (record l { defined = true }) s.types.linked) c.1.names (λ n g. never_some g)
      (marked_put place l (record l { defined = true }) s.types.linked at marked) (relinked_put None place l (record l { defined = true }) s.types.linked at marked) h) (λ h. h)
      (λ h. within_same s.types.records place l (record l { defined = true }) s.types.linked at refl h) (outside_same s.scopes) refl
      (λ z. origins_put None None s (put_linked place (record l { defined = true }) s) place l (record l { defined = true }) refl refl at (λ g. no (sym g ∙ kind)) (λ w g. never_some g))),
)

-- the same entity stands there where more is entered
pub here_later : {s t : State} (p : Option Slot) (name : List ℕ) → Grows s t → DeclaredHere name s.scopes → Sound p s → (y : Entity) → entity_here t name ≡ Some y → is_linked y ≡ true
here_later {s} {t} p name g d hs y e =
    let x = here s name d.0 hs d.1 in
    let later : entity_here t name ≡ Some x.entity = ap (option_and_then (entity_at t)) (g.here name d.0 d.1) ∙ g.entities d.0.place x.entity x.there in
    subst (λ z. is_linked z ≡ true) (some_same (sym later ∙ e)) (d.2 x.entity x.there)

-- an object gets its first bytes, and the length that they give
pub initialised_after : (from s : State) (name : List ℕ) (place : ℕ) (ty : QType) (items : List PlacedItem) (l : LinkedName) → AfterBy nothing (Some (slot.Named place), Some (slot.Named place)) from s
    → IsLawful s → IsLawfulType s.types.records (type_of ty) → KeepsLimit s.types.records (type_of ty) → slice_get s.types.linked place ≡ Some l → l.name ≡ name → l.defined ≡ true → compatible l.ty ty ≡ true
    → (Sound None from → (y : Entity) → entity_here s name ≡ Some y → is_linked y ≡ true)
    → (Sound None from → AreShallow from.scopes → Settled None from → HasItems (note_here name place ty (put_linked place (record l { ty = composite l.ty ty; items = items }) s)) place (record l { ty = composite l.ty ty; items = items }))
    → Kept from (note_here name place ty (initialise_linked place ty items s))
initialised_after from s name place ty items l a lawful known limit at named defined alike linked good = (
  (noted_here (initialise_linked place ty items s) name place ty c.0 (lawful_later s.types.records (initialise_linked place ty items s).types.records c.1.extends (type_of ty) known)).0,
  subst (λ o. AfterBy nothing nothing from (note_here name place ty (option_map_or (λ y. put_linked place (record y { ty = composite y.ty ty; items = items }) s) o s))) (sym at)
      (again_after nothing (Some (slot.Named place), Some (slot.Named place)) nothing from s name place ty l x a lawful known limit at named (record { name = refl; internal = refl; tentative = λ z. z; defined = λ z. z; covers = covers }) refl
      (λ z. refl, refl, covers.function) alike linked
      (λ n e. inr (λ y f. ap is_stored (sym (some_same (sym now ∙ (ap (λ k. slice_get (put_at place x s.types.linked) k) (named_same (some_same e)) ∙ f)))) ∙ stored))
      (λ h shallow z f. inr (inr (inr (good h shallow z)))) (λ z e. inl (sym (some_same e)))),
)
  where
    x : LinkedName
    x = record l { ty = composite l.ty ty; items = items }

    covers : Covers (composite l.ty ty) l.ty
    covers = covers_first s.types.records l.ty ty (lawful.linked place l at)

    c : Changed s (initialise_linked place ty items s)
    c = initialised_kept s place ty items lawful known

    now : slice_get (put_at place x s.types.linked) place ≡ Some x
    now = put_same place x s.types.linked (get_within s.types.linked place l at)

    stored : is_stored x ≡ true
    stored = ap (λ b. l.tentative || b) defined ∙ or_true l.tentative
