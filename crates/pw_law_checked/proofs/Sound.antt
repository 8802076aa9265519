-- What the parts of the state of checking say of one another: each name in scope with linkage is one of those with linkage,
-- which has what is known of the type in that scope; each object has its slot.
use Rattle.std.specs.Prelude.{ℕ, ◌≡◌, ◌<◌, ◌⊎◌, Bool, true, false, ◌||◌, Option, Some, List, [], ◌∷◌, ◌++◌, length, slice_get, refl}
use Rattle.std.proofs.Common.{arith, ap, sym, subst, ◌∙◌, inl, inr}
use Rattle.pw_types.specs.TypeTrees.{type_of}
use Rattle.pw_types.specs.TypedTrees.{FunctionValue}
use Rattle.pw_check_rules.specs.Kinds.{is_function}
use Rattle.pw_check_rules.specs.Linkage.{symbol_of_linked}
use Rattle.pw_check_rules.specs.States.{State, LinkedName, Entity, TypeName, EnumerationConstant, LocalObject, StaticObject, Linked, HiddenObject, put_at}
use Rattle.pw_check_rules.specs.declared.names.Entry.{Entry}
use Rattle.pw_check_rules.specs.declared.names.Slot.{Slot}
use Rattle.pw_check_rules.specs.declared.names.Slot.TheVariants as slot
use Rattle.pw_law_checked.proofs.Lists.{some_same, get_append, get_more, get_last, get_within, put_either, put_cases, put_same}
use Rattle.pw_law_checked.proofs.Types.{no}
use Rattle.pw_law_checked.proofs.Composite.{Covers, covers_same, covers_trans}

-- ---- how lists of names and of objects go on

-- what is said of a name with linkage stays so, though its type may become more
pub record Continues (before after : LinkedName) : Type 0 where
  pub name : after.name ≡ before.name
  pub internal : after.internal ≡ before.internal
  pub tentative : before.tentative ≡ true → after.tentative ≡ true
  pub defined : before.defined ≡ true → after.defined ≡ true
  pub covers : Covers after.ty before.ty

pub continues_same : (x : LinkedName) → Continues x x
continues_same x = record { name = refl; internal = refl; tentative = λ e. e; defined = λ e. e; covers = covers_same x.ty }

pub continues_trans : {x y z : LinkedName} → Continues x y → Continues y z → Continues x z
continues_trans {x} {y} {z} a b = record {
  name = b.name ∙ a.name;
  internal = b.internal ∙ a.internal;
  tentative = λ e. b.tentative (a.tentative e);
  defined = λ e. b.defined (a.defined e);
  covers = covers_trans b.covers a.covers;
}

abbrev pub Onward : List LinkedName → List LinkedName → Type 0
Onward xs ys = (n : ℕ) (x : LinkedName) → slice_get xs n ≡ Some x → (y : LinkedName) × (slice_get ys n ≡ Some y) × Continues x y

abbrev pub Filling : List HiddenObject → List HiddenObject → Type 0
Filling xs ys = (n : ℕ) (x : HiddenObject) → slice_get xs n ≡ Some x → (y : HiddenObject) × (slice_get ys n ≡ Some y) × Covers y.ty x.ty

pub filling_same : (xs : List HiddenObject) → Filling xs xs
filling_same xs = λ n x e. (x, e, covers_same x.ty)

-- ---- entities

-- a name with linkage, or a static object, of which no less is known than of the entity
abbrev pub Backed : List LinkedName → List HiddenObject → Entity → Type 0
Backed linked hidden (Linked n q) = (l : LinkedName) × (slice_get linked n ≡ Some l) × Covers l.ty q
Backed linked hidden (StaticObject n q) = (h : HiddenObject) × (slice_get hidden n ≡ Some h) × Covers h.ty q
Backed linked hidden _ = Unit {0}

abbrev pub AreBacked : List LinkedName → List HiddenObject → List Entity → Type 0
AreBacked linked hidden entities = (k : ℕ) (e : Entity) → slice_get entities k ≡ Some e → Backed linked hidden e

backed_on : (xs ys : List LinkedName) (hs gs : List HiddenObject) → Onward xs ys → Filling hs gs → (e : Entity) → Backed xs hs e → Backed ys gs e
backed_on xs ys hs gs on fill (Linked n q) b = let y = on n b.0 b.1 in (y.0, y.1, covers_trans y.2.covers b.2)
backed_on xs ys hs gs on fill (StaticObject n q) b = let y = fill n b.0 b.1 in (y.0, y.1, covers_trans y.2 b.2)
backed_on xs ys hs gs on fill (TypeName q) b = tt
backed_on xs ys hs gs on fill (EnumerationConstant n) b = tt
backed_on xs ys hs gs on fill (LocalObject k q register) b = tt

pub all_backed_on : (xs ys : List LinkedName) (hs gs : List HiddenObject) (entities : List Entity) → Onward xs ys → Filling hs gs → AreBacked xs hs entities → AreBacked ys gs entities
all_backed_on xs ys hs gs entities on fill b = λ k e h. backed_on xs ys hs gs on fill e (b k e h)

-- ---- names in scope

-- an entity with linkage has the name of its entry
abbrev pub Spelled : List LinkedName → List ℕ → Entity → Type 0
Spelled linked name (Linked n q) = (l : LinkedName) × (slice_get linked n ≡ Some l) × (l.name ≡ name)
Spelled linked name _ = Unit {0}

abbrev pub AreSpelled : List LinkedName → List Entity → List (List ℕ × Entry) → Type 0
AreSpelled linked entities ordinary = (i : ℕ) (e : List ℕ × Entry) → slice_get ordinary i ≡ Some e → (x : Entity) × (slice_get entities e.1.place ≡ Some x) × Spelled linked e.0 x

spelled_on : (xs ys : List LinkedName) → Onward xs ys → (name : List ℕ) (e : Entity) → Spelled xs name e → Spelled ys name e
spelled_on xs ys on name (Linked n q) b = let y = on n b.0 b.1 in (y.0, y.1, y.2.name ∙ b.2)
spelled_on xs ys on name (StaticObject n q) b = tt
spelled_on xs ys on name (TypeName q) b = tt
spelled_on xs ys on name (EnumerationConstant n) b = tt
spelled_on xs ys on name (LocalObject k q register) b = tt

pub all_spelled_on : (xs ys : List LinkedName) (entities : List Entity) (ordinary : List (List ℕ × Entry)) → Onward xs ys → AreSpelled xs entities ordinary → AreSpelled ys entities ordinary
all_spelled_on xs ys entities ordinary on b = λ i e h. let x = b i e h in (x.0, x.1, spelled_on xs ys on e.0 x.0 x.2)

-- ---- functions that are defined

abbrev pub IsFunctionNamed : List LinkedName → FunctionValue → Type 0
IsFunctionNamed linked f =
    (n : ℕ) × (l : LinkedName) × (slice_get linked n ≡ Some l) × (f.name ≡ symbol_of_linked l) × Covers l.ty f.ty × (is_function (type_of l.ty) ≡ true)

abbrev pub AreFunctionsNamed : List LinkedName → List FunctionValue → Type 0
AreFunctionsNamed linked functions = (i : ℕ) (f : FunctionValue) → slice_get functions i ≡ Some f → IsFunctionNamed linked f

-- ---- objects and their slots

-- defined, tentatively or not
abbrev pub is_stored : LinkedName → Bool
is_stored l = l.tentative || l.defined

abbrev pub IsStored : LinkedName → Type 0
IsStored l = (is_stored l ≡ true) × (is_function (type_of l.ty) ≡ false)

abbrev pub IsThere : List LinkedName → List HiddenObject → Slot → Type 0
IsThere linked hidden (slot.Named n) = (l : LinkedName) × (slice_get linked n ≡ Some l) × IsStored l
IsThere linked hidden (slot.Hidden k) = (h : HiddenObject) × (slice_get hidden k ≡ Some h)

abbrev pub HasSlot : List Slot → Slot → Type 0
HasSlot slots x = (i : ℕ) × (slice_get slots i ≡ Some x)

-- One slot for each object that is defined; one of internal linkage is, but for the one that is about to be.
pub record AreSlots (pending : Option Slot) (linked : List LinkedName) (hidden : List HiddenObject) (slots : List Slot) : Type 0 where
  pub apart : (i j : ℕ) (x : Slot) → slice_get slots i ≡ Some x → slice_get slots j ≡ Some x → i ≡ j
  pub there : (i : ℕ) (x : Slot) → slice_get slots i ≡ Some x → IsThere linked hidden x
  pub named : (n : ℕ) (l : LinkedName) → slice_get linked n ≡ Some l → IsStored l → HasSlot slots (slot.Named n)
  pub strings : (k : ℕ) (h : HiddenObject) → slice_get hidden k ≡ Some h → HasSlot slots (slot.Hidden k)
  pub internal : (n : ℕ) (l : LinkedName) → slice_get linked n ≡ Some l → l.internal ≡ true → is_function (type_of l.ty) ≡ false
      → (pending ≡ Some (slot.Named n)) ⊎ (is_stored l ≡ true)

pub named_same : {n k : ℕ} → slot.Named n ≡ slot.Named k → n ≡ k
named_same {n} {k} e = ap number e
  where
    number : Slot → ℕ
    number (slot.Named i) = i
    number (slot.Hidden i) = n

pub never_slot : {A : Type 0} {n k : ℕ} → slot.Named n ≡ slot.Hidden k → A
never_slot {A} {n} {k} e = absurd (subst P e tt)
  where
    P : Slot → Type 0
    P (slot.Named i) = Unit {0}
    P (slot.Hidden i) = ⊥

-- ---- the whole

pub record Sound (pending : Option Slot) (s : State) : Type 0 where
  pub backed : AreBacked s.types.linked s.made.hidden s.scopes.entities
  pub spelled : AreSpelled s.types.linked s.scopes.entities s.scopes.ordinary
  pub functions : AreFunctionsNamed s.types.linked s.made.functions
  pub slots : AreSlots pending s.types.linked s.made.hidden s.made.slots

-- ---- entities that are no objects with a storage of their own in the module

abbrev pub IsPlain : Entity → Type 0
IsPlain (TypeName q) = Unit {0}
IsPlain (EnumerationConstant n) = Unit {0}
IsPlain (LocalObject k q register) = Unit {0}
IsPlain _ = ⊥

pub plain_backed : (linked : List LinkedName) (hidden : List HiddenObject) (e : Entity) → IsPlain e → Backed linked hidden e
plain_backed linked hidden (TypeName q) h = tt
plain_backed linked hidden (EnumerationConstant n) h = tt
plain_backed linked hidden (LocalObject k q register) h = tt
plain_backed linked hidden (StaticObject k q) h = absurd h
plain_backed linked hidden (Linked k q) h = absurd h

pub plain_spelled : (linked : List LinkedName) (name : List ℕ) (e : Entity) → IsPlain e → Spelled linked name e
plain_spelled linked name (TypeName q) h = tt
plain_spelled linked name (EnumerationConstant n) h = tt
plain_spelled linked name (LocalObject k q register) h = tt
plain_spelled linked name (StaticObject k q) h = absurd h
plain_spelled linked name (Linked k q) h = absurd h

-- an entity more
pub backed_more : (linked : List LinkedName) (hidden : List HiddenObject) (entities : List Entity) (x : Entity) → AreBacked linked hidden entities → Backed linked hidden x
    → AreBacked linked hidden (entities ++ x ∷ [])
backed_more linked hidden entities x b h = λ k e g. by k e (get_more entities x k e g)
  where
    by : (k : ℕ) (e : Entity) → (slice_get entities k ≡ Some e) ⊎ ((k ≡ length entities) × (x ≡ e)) → Backed linked hidden e
    by k e (inl g) = b k e g
    by k e (inr g) = subst (Backed linked hidden) g.1 h

pub spelled_more : (linked : List LinkedName) (entities : List Entity) (ordinary : List (List ℕ × Entry)) (x : Entity) (name : List ℕ) (depth : ℕ)
    → AreSpelled linked entities ordinary → Spelled linked name x
    → AreSpelled linked (entities ++ x ∷ []) (ordinary ++ (name, record { place = length entities; depth = depth }) ∷ [])
spelled_more linked entities ordinary x name depth b h = λ i e g. by i e (get_more ordinary (name, record { place = length entities; depth = depth }) i e g)
  where
    by : (i : ℕ) (e : List ℕ × Entry) → (slice_get ordinary i ≡ Some e) ⊎ ((i ≡ length ordinary) × ((name, record { place = length entities; depth = depth }) ≡ e))
        → (y : Entity) × (slice_get (entities ++ x ∷ []) e.1.place ≡ Some y) × Spelled linked e.0 y
    by i e (inl g) = let y = b i e g in (y.0, get_append entities (x ∷ []) e.1.place y.0 y.1, y.2)
    by i e (inr g) =
        subst (λ (e : List ℕ × Entry). (y : Entity) × (slice_get (entities ++ x ∷ []) e.1.place ≡ Some y) × Spelled linked e.0 y) g.1 (x, get_last entities x, h)

-- an object without a name more
pub slots_hidden : (pending : Option Slot) (linked : List LinkedName) (hidden : List HiddenObject) (slots : List Slot) (x : HiddenObject) → AreSlots pending linked hidden slots
    → AreSlots pending linked (hidden ++ x ∷ []) (slots ++ slot.Hidden (length hidden) ∷ [])
slots_hidden pending linked hidden slots x a = record {
  apart = λ i j y e f. two i j y (get_more slots (slot.Hidden (length hidden)) i y e) (get_more slots (slot.Hidden (length hidden)) j y f);
  there = λ i y e. by_there y (get_more slots (slot.Hidden (length hidden)) i y e);
  named = λ n l e h. let y = a.named n l e h in (y.0, get_append slots (slot.Hidden (length hidden) ∷ []) y.0 (slot.Named n) y.1);
  strings = λ k h e. by_string k (get_more hidden x k h e);
  internal = a.internal;
}
  where
    never : {A : Type 0} (i : ℕ) → slice_get slots i ≡ Some (slot.Hidden (length hidden)) → A
    never i e = let y = a.there i (slot.Hidden (length hidden)) e in let h : length hidden < length hidden = get_within hidden (length hidden) y.0 y.1 in grind (arith, h)

    two : (i j : ℕ) (y : Slot) → (slice_get slots i ≡ Some y) ⊎ ((i ≡ length slots) × (slot.Hidden (length hidden) ≡ y))
        → (slice_get slots j ≡ Some y) ⊎ ((j ≡ length slots) × (slot.Hidden (length hidden) ≡ y)) → i ≡ j
    two i j y (inl e) (inl f) = a.apart i j y e f
    two i j y (inl e) (inr f) = never i (subst (λ z. slice_get slots i ≡ Some z) (sym f.1) e)
    two i j y (inr e) (inl f) = never j (subst (λ z. slice_get slots j ≡ Some z) (sym e.1) f)
    two i j y (inr e) (inr f) = e.0 ∙ sym f.0

    more : (y : Slot) → IsThere linked hidden y → IsThere linked (hidden ++ x ∷ []) y
    more (slot.Named n) h = h
    more (slot.Hidden k) h = (h.0, get_append hidden (x ∷ []) k h.0 h.1)

    by_there : {i : ℕ} (y : Slot) → (slice_get slots i ≡ Some y) ⊎ ((i ≡ length slots) × (slot.Hidden (length hidden) ≡ y)) → IsThere linked (hidden ++ x ∷ []) y
    by_there {i} y (inl e) = more y (a.there i y e)
    by_there y (inr e) = subst (IsThere linked (hidden ++ x ∷ [])) e.1 (x, get_last hidden x)

    by_string : {h : HiddenObject} (k : ℕ) → (slice_get hidden k ≡ Some h) ⊎ ((k ≡ length hidden) × (x ≡ h)) → HasSlot (slots ++ slot.Hidden (length hidden) ∷ []) (slot.Hidden k)
    by_string {h} k (inl e) = let y = a.strings k h e in (y.0, get_append slots (slot.Hidden (length hidden) ∷ []) y.0 (slot.Hidden k) y.1)
    by_string k (inr e) = (length slots, subst (λ n. slice_get (slots ++ slot.Hidden (length hidden) ∷ []) (length slots) ≡ Some (slot.Hidden n)) (sym e.0) (get_last slots (slot.Hidden (length hidden))))

-- ---- names with linkage that are declared again, defined, or new

-- one that was there, marked as before, or one that is new and not defined
abbrev pub Marked : LinkedName → LinkedName → Type 0
Marked x y = (is_function (type_of y.ty) ≡ false → is_stored y ≡ is_stored x) × (y.internal ≡ x.internal) × (is_function (type_of y.ty) ≡ is_function (type_of x.ty))

abbrev pub IsNew : Option Slot → ℕ → LinkedName → Type 0
IsNew pending n y = (is_stored y ≡ false) × (y.internal ≡ true → is_function (type_of y.ty) ≡ false → pending ≡ Some (slot.Named n))

abbrev pub Relinked : Option Slot → List LinkedName → List LinkedName → Type 0
Relinked pending xs ys = (n : ℕ) (y : LinkedName) → slice_get ys n ≡ Some y → ((x : LinkedName) × (slice_get xs n ≡ Some x) × Marked x y) ⊎ IsNew pending n y

pub slots_relinked : (p q : Option Slot) (xs ys : List LinkedName) (hidden : List HiddenObject) (slots : List Slot)
    → ((n : ℕ) → p ≡ Some (slot.Named n) → (q ≡ Some (slot.Named n)) ⊎ ((y : LinkedName) → slice_get ys n ≡ Some y → is_stored y ≡ true))
    → ((n : ℕ) (x : LinkedName) → slice_get xs n ≡ Some x → (y : LinkedName) × (slice_get ys n ≡ Some y) × Marked x y)
    → Relinked q xs ys → AreSlots p xs hidden slots → AreSlots q ys hidden slots
slots_relinked p q xs ys hidden slots embed on back a = record {
  apart = a.apart;
  there = λ i x e. more x (a.there i x e);
  named = λ n y e h. by_named n y h (back n y e);
  strings = a.strings;
  internal = λ n y e i f. by_internal n y e i f (back n y e);
}
  where
    more : (x : Slot) → IsThere xs hidden x → IsThere ys hidden x
    more (slot.Named n) h = let y = on n h.0 h.1 in let f = y.2.2 ∙ h.2.1 in (y.0, y.1, (y.2.0 f ∙ h.2.0, f))
    more (slot.Hidden k) h = h

    by_named : (n : ℕ) (y : LinkedName) → IsStored y → ((x : LinkedName) × (slice_get xs n ≡ Some x) × Marked x y) ⊎ IsNew q n y → HasSlot slots (slot.Named n)
    by_named n y h (inl m) = a.named n m.0 m.1 (sym (m.2.0 h.1) ∙ h.0, sym m.2.2 ∙ h.1)
    by_named n y h (inr m) = no (sym m.0 ∙ h.0)

    by_pending : (n : ℕ) (y : LinkedName) → slice_get ys n ≡ Some y → (q ≡ Some (slot.Named n)) ⊎ ((y : LinkedName) → slice_get ys n ≡ Some y → is_stored y ≡ true)
        → (q ≡ Some (slot.Named n)) ⊎ (is_stored y ≡ true)
    by_pending n y e (inl h) = inl h
    by_pending n y e (inr h) = inr (h y e)

    by_old : (n : ℕ) (x y : LinkedName) → slice_get ys n ≡ Some y → is_stored y ≡ is_stored x → (p ≡ Some (slot.Named n)) ⊎ (is_stored x ≡ true)
        → (q ≡ Some (slot.Named n)) ⊎ (is_stored y ≡ true)
    by_old n x y e same (inl h) = by_pending n y e (embed n h)
    by_old n x y e same (inr h) = inr (same ∙ h)

    by_internal : (n : ℕ) (y : LinkedName) → slice_get ys n ≡ Some y → y.internal ≡ true → is_function (type_of y.ty) ≡ false
        → ((x : LinkedName) × (slice_get xs n ≡ Some x) × Marked x y) ⊎ IsNew q n y
        → (q ≡ Some (slot.Named n)) ⊎ (is_stored y ≡ true)
    by_internal n y e i f (inl m) = by_old n m.0 y e (m.2.0 f) (a.internal n m.0 m.1 (sym m.2.1 ∙ i) (sym m.2.2 ∙ f))
    by_internal n y e i f (inr m) = inl (m.1 i f)

-- a name is stored from here on: it gets a slot
pub slots_stored : (p q : Option Slot) (place : ℕ) (x y : LinkedName) (xs : List LinkedName) (hidden : List HiddenObject) (slots : List Slot)
    → ((n : ℕ) → p ≡ Some (slot.Named n) → (n ≡ place) ⊎ (q ≡ Some (slot.Named n)))
    → slice_get xs place ≡ Some x → is_stored x ≡ false → is_stored y ≡ true → is_function (type_of x.ty) ≡ false → is_function (type_of y.ty) ≡ false
    → AreSlots p xs hidden slots → AreSlots q (put_at place y xs) hidden (slots ++ slot.Named place ∷ [])
slots_stored p q place x y xs hidden slots embed at bare stored f g a = record {
  apart = λ i j z e h. two i j z (get_more slots (slot.Named place) i z e) (get_more slots (slot.Named place) j z h);
  there = λ i z e. by_there z (get_more slots (slot.Named place) i z e);
  named = λ n l e h. by_named n l h (put_cases place y xs n l e);
  strings = λ k h e. let z = a.strings k h e in (z.0, get_append slots (slot.Named place ∷ []) z.0 (slot.Hidden k) z.1);
  internal = λ n l e i h. by_internal n l i h e (put_cases place y xs n l e);
}
  where
    now : slice_get (put_at place y xs) place ≡ Some y
    now = put_same place y xs (get_within xs place x at)

    never : {A : Type 0} (i : ℕ) → slice_get slots i ≡ Some (slot.Named place) → A
    never i e = let z = a.there i (slot.Named place) e in no (sym bare ∙ (ap is_stored (some_same (sym at ∙ z.1)) ∙ z.2.0))

    two : (i j : ℕ) (z : Slot) → (slice_get slots i ≡ Some z) ⊎ ((i ≡ length slots) × (slot.Named place ≡ z))
        → (slice_get slots j ≡ Some z) ⊎ ((j ≡ length slots) × (slot.Named place ≡ z)) → i ≡ j
    two i j z (inl e) (inl h) = a.apart i j z e h
    two i j z (inl e) (inr h) = never i (subst (λ w. slice_get slots i ≡ Some w) (sym h.1) e)
    two i j z (inr e) (inl h) = never j (subst (λ w. slice_get slots j ≡ Some w) (sym e.1) h)
    two i j z (inr e) (inr h) = e.0 ∙ sym h.0

    more : (z : Slot) → IsThere xs hidden z → IsThere (put_at place y xs) hidden z
    more (slot.Named n) h = by (put_either place y xs n)
      where
        by : ((n ≡ place) × (slice_get (put_at place y xs) n ≡ Some y)) ⊎ (slice_get (put_at place y xs) n ≡ slice_get xs n) → IsThere (put_at place y xs) hidden (slot.Named n)
        by (inl e) = (y, e.1, (stored, g))
        by (inr e) = (h.0, e ∙ h.1, h.2)
    more (slot.Hidden k) h = h

    by_there : {i : ℕ} (z : Slot) → (slice_get slots i ≡ Some z) ⊎ ((i ≡ length slots) × (slot.Named place ≡ z)) → IsThere (put_at place y xs) hidden z
    by_there {i} z (inl e) = more z (a.there i z e)
    by_there z (inr e) = subst (IsThere (put_at place y xs) hidden) e.1 (y, now, (stored, g))

    by_named : (n : ℕ) (l : LinkedName) → IsStored l → ((n ≡ place) × (y ≡ l) × ((z : LinkedName) × (slice_get xs place ≡ Some z))) ⊎ (slice_get xs n ≡ Some l)
        → HasSlot (slots ++ slot.Named place ∷ []) (slot.Named n)
    by_named n l h (inl e) = (length slots, subst (λ k. slice_get (slots ++ slot.Named place ∷ []) (length slots) ≡ Some (slot.Named k)) (sym e.0) (get_last slots (slot.Named place)))
    by_named n l h (inr e) = let z = a.named n l e h in (z.0, get_append slots (slot.Named place ∷ []) z.0 (slot.Named n) z.1)

    by_internal : (n : ℕ) (l : LinkedName) → l.internal ≡ true → is_function (type_of l.ty) ≡ false → slice_get (put_at place y xs) n ≡ Some l
        → ((n ≡ place) × (y ≡ l) × ((z : LinkedName) × (slice_get xs place ≡ Some z))) ⊎ (slice_get xs n ≡ Some l)
        → (q ≡ Some (slot.Named n)) ⊎ (is_stored l ≡ true)
    by_internal n l i h e (inl k) = inr (ap is_stored (sym k.1) ∙ stored)
    by_internal n l i h e (inr k) = by_old (a.internal n l k i h)
      where
        by_place : (n ≡ place) ⊎ (q ≡ Some (slot.Named n)) → (q ≡ Some (slot.Named n)) ⊎ (is_stored l ≡ true)
        by_place (inl here) = inr (ap is_stored (sym (some_same (sym now ∙ (ap (slice_get (put_at place y xs)) (sym here) ∙ e)))) ∙ stored)
        by_place (inr z) = inl z

        by_old : (p ≡ Some (slot.Named n)) ⊎ (is_stored l ≡ true) → (q ≡ Some (slot.Named n)) ⊎ (is_stored l ≡ true)
        by_old (inl z) = by_place (embed n z)
        by_old (inr z) = inr z

-- an object without a name is put anew
pub get_put : {X : Type 0} (n : ℕ) (x : X) (xs : List X) (i : ℕ) (y : X) → slice_get xs i ≡ Some y → (z : X) × (slice_get (put_at n x xs) i ≡ Some z)
get_put {X} n x xs i y e = by (put_either n x xs i)
  where
    by : ((i ≡ n) × (slice_get (put_at n x xs) i ≡ Some x)) ⊎ (slice_get (put_at n x xs) i ≡ slice_get xs i) → (z : X) × (slice_get (put_at n x xs) i ≡ Some z)
    by (inl h) = (x, h.1)
    by (inr h) = (y, h ∙ e)

pub slots_refilled : (p : Option Slot) (linked : List LinkedName) (hidden : List HiddenObject) (slots : List Slot) (place : ℕ) (x : HiddenObject) → AreSlots p linked hidden slots
    → AreSlots p linked (put_at place x hidden) slots
slots_refilled p linked hidden slots place x a = record {
  apart = a.apart;
  there = λ i z e. more z (a.there i z e);
  named = a.named;
  strings = λ k h e. by k h (put_cases place x hidden k h e);
  internal = a.internal;
}
  where
    more : (z : Slot) → IsThere linked hidden z → IsThere linked (put_at place x hidden) z
    more (slot.Named n) h = h
    more (slot.Hidden k) h = get_put place x hidden k h.0 h.1

    by : (k : ℕ) (h : HiddenObject) → ((k ≡ place) × (x ≡ h) × ((z : HiddenObject) × (slice_get hidden place ≡ Some z))) ⊎ (slice_get hidden k ≡ Some h) → HasSlot slots (slot.Hidden k)
    by k h (inl e) = subst (λ n. HasSlot slots (slot.Hidden n)) (sym e.0) (a.strings place e.2.0 e.2.1)
    by k h (inr e) = a.strings k h e
