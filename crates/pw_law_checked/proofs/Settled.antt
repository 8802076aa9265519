-- What is settled of objects of static lifetime: one that is defined with an initialiser stands for a complete type at file scope, and
-- its items stand in it one behind the other; so do those of each object without a name. But for one object at a time, whose
-- initialiser is read.
use Rattle.std.specs.Prelude.{ℕ, ◌≡◌, ◌≤◌, ◌+◌, ◌*◌, ◌⊎◌, ◌==◌, Bool, true, false, Option, None, Some, option_map, is_some, unwrap_or, List, [], ◌∷◌, ◌++◌, length, slice_get, if◌then◌else◌, All, refl}
use Rattle.std.proofs.Common.{arith, ap, sym, subst, ◌∙◌, inl, inr}
use Rattle.std.proofs.lemmas.Bool.{eqb-true, eq-eqb, le-leb}
use Rattle.pw_types.specs.declared.kind.IntKind.TheVariants as K
use Rattle.pw_types.specs.declared.record.Layout.{Layout}
use Rattle.pw_types.specs.Layouts.{layout_of, size_of}
use Rattle.pw_types.specs.Records.{IsObjectType}
use Rattle.pw_types.specs.TypedModules.{item_size}
use Rattle.pw_types.specs.TypedTrees.{Symbol, External, Internal, Hidden, ItemValue, ItemBytes, ItemAddress, PlacedItem}
use Rattle.pw_types.specs.TypeTrees.{CType, Int, Array, QType, Qualified, type_of, RecordValue}
use Rattle.pw_types.specs.WellTyped.{IsComplete}
use Rattle.pw_check_rules.specs.Constants.{is_within}
use Rattle.pw_check_rules.specs.Kinds.{is_function}
use Rattle.pw_check_rules.specs.Leaves.{string_type, bytes_at_start}
use Rattle.pw_check_rules.specs.Linkage.{symbol_of_linked}
use Rattle.pw_check_rules.specs.States.{State, TypeState, MadeState, LinkedName, Entity, Linked, HiddenObject, put_at}
use Rattle.pw_check_rules.specs.declared.names.Entry.{Entry}
use Rattle.pw_check_rules.specs.declared.names.Slot.{Slot}
use Rattle.pw_check_rules.specs.declared.names.Slot.TheVariants as slot
use Rattle.pw_law_checked.specs.Lawful.{IsLawfulType, Extends}
use Rattle.pw_law_checked.specs.Leading.{IsInside}
use Rattle.pw_law_checked.proofs.Lists.{some_same, never_some, get_one, get_more, get_within, put_same, put_either}
use Rattle.pw_law_checked.proofs.Types.{no, extends_same, complete_later, lawful_later}
use Rattle.pw_law_checked.proofs.Objects.{layout_same, object_later}
use Rattle.pw_law_checked.proofs.ObjectTypes.{object_complete}
use Rattle.pw_law_checked.proofs.Composite.{Covers, covers_same, covers_trans, layout_covered, complete_covered}
use Rattle.pw_law_checked.proofs.Sound.{Continues, continues_same, Onward, Filling, named_same, never_slot}
use Rattle.pw_law_checked.proofs.Outside.{outer, StaysOutside}
use Rattle.pw_law_checked.proofs.Parts.{sized}
use Rattle.pw_law_checked.proofs.ItemBytes.{IsByte}

-- ---- items

-- from an offset on, up to another, each item behind the one before
abbrev pub Rise : ℕ → ℕ → List PlacedItem → Type 0
Rise from size [] = from ≤ size
Rise from size (p ∷ rest) = (from ≤ p.offset) × Rise (p.offset + item_size p.item) size rest

-- an object without a name, or a name with linkage, of which no less is known than of the type
abbrev pub IsHere : State → Symbol → QType → Type 0
IsHere s (Hidden k) q = (h : HiddenObject) × (slice_get s.made.hidden k ≡ Some h) × Covers h.ty q
IsHere s (External name) q = (n : ℕ) × (l : LinkedName) × (slice_get s.types.linked n ≡ Some l) × (symbol_of_linked l ≡ External name) × Covers l.ty q
IsHere s (Internal name) q = (n : ℕ) × (l : LinkedName) × (slice_get s.types.linked n ≡ Some l) × (symbol_of_linked l ≡ Internal name) × Covers l.ty q

abbrev pub IsKnownItem : State → ItemValue → Type 0
IsKnownItem s (ItemBytes bytes) = All IsByte bytes
IsKnownItem s (ItemAddress symbol offset) = (q : QType) × IsHere s symbol q × IsInside s.types.records q offset

abbrev pub AreKnownItems : State → List PlacedItem → Type 0
AreKnownItems s items = (i : ℕ) (p : PlacedItem) → slice_get items i ≡ Some p → IsKnownItem s p.item

-- ---- objects with a name

-- at file scope the name stands for the object, by a complete type
pub record IsFinal (s : State) (n : ℕ) (name : List ℕ) : Type 0 where
  pub entry : Entry
  pub ty : QType
  pub stands : outer s.scopes name ≡ Some entry
  pub there : slice_get s.scopes.entities entry.place ≡ Some (Linked n ty)
  pub complete : IsComplete s.types.records (type_of ty)

-- its initialiser gave it these items
pub record HasItems (s : State) (n : ℕ) (l : LinkedName) : Type 0 where
  pub final : IsFinal s n l.name
  pub rise : Rise 0 (sized s.types.records (type_of final.ty)) l.items
  pub known : AreKnownItems s l.items

abbrev pub IsSettled : State → ℕ → LinkedName → Type 0
IsSettled s n l = ((l.defined ≡ false) × (l.items ≡ [])) ⊎ HasItems s n l

-- ---- objects without a name

abbrev pub IsStringType : QType → Type 0
IsStringType q = (n : ℕ) × (q ≡ Qualified (Array (Qualified (Int K.Char) false false) (Some n)) false false)

-- the object of a string literal
abbrev pub IsString : HiddenObject → Type 0
IsString h = (bytes : List ℕ) × (h.ty ≡ string_type bytes) × (h.items ≡ bytes_at_start bytes) × All IsByte bytes

pub record IsMade (s : State) (h : HiddenObject) : Type 0 where
  pub lawful : IsLawfulType s.types.records (type_of h.ty)
  pub sort : IsObjectType s.types.records (type_of h.ty) ⊎ IsStringType h.ty
  pub rise : Rise 0 (sized s.types.records (type_of h.ty)) h.items
  pub known : AreKnownItems s h.items

pub string_made : (s : State) (h : HiddenObject) → IsString h → IsMade s h
string_made s h x = record {
  lawful = subst (λ q. IsLawfulType s.types.records (type_of q)) (sym x.1) (tt, refl);
  sort = inr (length x.0, x.1);
  rise = subst (λ q. Rise 0 (sized s.types.records (type_of q)) h.items) (sym x.1) (subst (Rise 0 (1 * length x.0)) (sym x.2) (omega arith, (omega arith)));
  known = λ i p e. by i p (subst (λ items. slice_get items i ≡ Some p) x.2 e);
}
  where
    by : (i : ℕ) (p : PlacedItem) → slice_get (bytes_at_start x.0) i ≡ Some p → IsKnownItem s p.item
    by i p e = subst (λ (y : PlacedItem). IsKnownItem s y.item) (get_one (record { offset = 0; item = ItemBytes x.0 }) i p e) x.3

pub made_complete : (s : State) (h : HiddenObject) → IsMade s h → IsComplete s.types.records (type_of h.ty)
made_complete s h m = by m.sort
  where
    by : IsObjectType s.types.records (type_of h.ty) ⊎ IsStringType h.ty → IsComplete s.types.records (type_of h.ty)
    by (inl k) = object_complete s.types.records (type_of h.ty) k
    by (inr k) = subst (λ q. IsComplete s.types.records (type_of q)) (sym k.1) refl

-- ---- the state

-- all is settled but for one object
pub record Settled (pending : Option Slot) (s : State) : Type 0 where
  pub counting : s.made.counting ≡ true
  pub names : (n : ℕ) (l : LinkedName) → slice_get s.types.linked n ≡ Some l → is_function (type_of l.ty) ≡ false → (pending ≡ Some (slot.Named n)) ⊎ IsSettled s n l
  pub hidden : (k : ℕ) (h : HiddenObject) → slice_get s.made.hidden k ≡ Some h → (pending ≡ Some (slot.Hidden k)) ⊎ IsMade s h

-- ---- it stays so

-- an entity with linkage is one later, of a type of which no less is known
abbrev pub KeepsLinked : List Entity → List Entity → Type 0
KeepsLinked xs ys = (k n : ℕ) (q : QType) → slice_get xs k ≡ Some (Linked n q) → (r : QType) × (slice_get ys k ≡ Some (Linked n r)) × Covers r q

pub record Persists (s t : State) : Type 0 where
  pub extends : Extends s.types.records t.types.records
  pub names : Onward s.types.linked t.types.linked
  pub hidden : Filling s.made.hidden t.made.hidden
  pub entities : KeepsLinked s.scopes.entities t.scopes.entities
  pub outside : StaysOutside s.scopes t.scopes
  pub counting : t.made.counting ≡ s.made.counting

pub symbol_continues : (x y : LinkedName) → Continues x y → symbol_of_linked y ≡ symbol_of_linked x
symbol_continues x y c =
    ap (λ b. if b then Internal y.name else External y.name) c.internal ∙ ap (λ n. if x.internal then Internal n else External n) c.name

here_onward : (s t : State) → Onward s.types.linked t.types.linked → Filling s.made.hidden t.made.hidden → (symbol : Symbol) (q : QType) → IsHere s symbol q → IsHere t symbol q
here_onward s t on fill (Hidden k) q h = let y = fill k h.0 h.1 in (y.0, y.1, covers_trans y.2 h.2)
here_onward s t on fill (External name) q h = let y = on h.0 h.1 h.2 in (h.0, y.0, y.1, symbol_continues h.1 y.0 y.2 ∙ h.3, covers_trans y.2.covers h.4)
here_onward s t on fill (Internal name) q h = let y = on h.0 h.1 h.2 in (h.0, y.0, y.1, symbol_continues h.1 y.0 y.2 ∙ h.3, covers_trans y.2.covers h.4)

pub start_within : (o : Option ℕ) → is_within 0 o ≡ true
start_within None = refl
start_within (Some n) = le-leb 0 n (omega arith)

-- types with a size keep it
pub inside_later : (a b : List RecordValue) → Extends a b → (q : QType) (offset : ℕ) → IsInside a q offset → IsInside b q offset
inside_later a b x q offset h = by (layout_of a (type_of q)) refl h
  where
    by : (o : Option Layout) → layout_of a (type_of q) ≡ o → is_within offset (option_map (λ (l : Layout). l.size) o) ≡ true → IsInside b q offset
    by None e k = subst (λ n. is_within n (size_of b (type_of q)) ≡ true) (sym (eqb-true offset 0 k)) (start_within (size_of b (type_of q)))
    by (Some l) e k = subst (λ o. is_within offset (option_map (λ (l : Layout). l.size) o) ≡ true) (sym (layout_same a b x (type_of q) (ap is_some e) ∙ e)) k

item_onward : (s t : State) → Extends s.types.records t.types.records → Onward s.types.linked t.types.linked → Filling s.made.hidden t.made.hidden → (item : ItemValue) → IsKnownItem s item → IsKnownItem t item
item_onward s t x on fill (ItemBytes bytes) h = h
item_onward s t x on fill (ItemAddress symbol offset) h = (h.0, here_onward s t on fill symbol h.0 h.1, inside_later s.types.records t.types.records x h.0 offset h.2)

pub known_onward : (s t : State) → Extends s.types.records t.types.records → Onward s.types.linked t.types.linked → Filling s.made.hidden t.made.hidden → (items : List PlacedItem) → AreKnownItems s items → AreKnownItems t items
known_onward s t more on fill items h i x e = item_onward s t more on fill x.item (h i x e)

pub sized_as : (r x : List RecordValue) (a b : CType) → layout_of r a ≡ layout_of x b → sized r a ≡ sized x b
sized_as r x a b e = ap (λ o. unwrap_or (option_map (λ (l : Layout). l.size) o) 0) e

pub sized_later : (a b : List RecordValue) → Extends a b → (ty : CType) → IsComplete a ty → sized b ty ≡ sized a ty
sized_later a b x ty h = sized_as b a ty ty (layout_same a b x ty h)

-- the name and what it is defined by are the same
pub record SameItems (x y : LinkedName) : Type 0 where
  pub name : y.name ≡ x.name
  pub items : y.items ≡ x.items
  pub defined : y.defined ≡ x.defined

items_settled : (s t : State) (n : ℕ) (x y : LinkedName) → Persists s t → SameItems x y → HasItems s n x → HasItems t n y
items_settled s t n x y p same h =
    let f = h.final in
    let e = p.entities f.entry.place n f.ty f.there in
    let size : sized t.types.records (type_of e.0) ≡ sized s.types.records (type_of f.ty) =
    sized_as t.types.records t.types.records (type_of e.0) (type_of f.ty) (layout_covered t.types.records e.0 f.ty e.2 (complete_later s.types.records t.types.records p.extends (type_of f.ty) f.complete))
    ∙ sized_later s.types.records t.types.records p.extends (type_of f.ty) f.complete in
    record {
      final = record {
        entry = f.entry;
        ty = e.0;
        stands = ap (outer t.scopes) same.name ∙ p.outside x.name f.entry f.stands;
        there = e.1;
        complete = complete_covered t.types.records e.0 f.ty e.2 (complete_later s.types.records t.types.records p.extends (type_of f.ty) f.complete);
      };
      rise = subst (Rise 0 (sized t.types.records (type_of e.0))) (sym same.items) (subst (λ m. Rise 0 m x.items) (sym size) h.rise);
      known = subst (AreKnownItems t) (sym same.items) (known_onward s t p.extends p.names p.hidden x.items h.known);
    }

pub settled_persists : (s t : State) (n : ℕ) (x y : LinkedName) → Persists s t → SameItems x y → IsSettled s n x → IsSettled t n y
settled_persists s t n x y p same (inl h) = inl (same.defined ∙ h.0, same.items ∙ h.1)
settled_persists s t n x y p same (inr h) = inr (items_settled s t n x y p same h)

pub made_persists : (s t : State) (h : HiddenObject) → Persists s t → IsMade s h → IsMade t h
made_persists s t h p m = record {
  lawful = lawful_later s.types.records t.types.records p.extends (type_of h.ty) m.lawful;
  sort = by m.sort;
  rise = subst (λ n. Rise 0 n h.items) (sym (sized_later s.types.records t.types.records p.extends (type_of h.ty) (made_complete s h m))) m.rise;
  known = known_onward s t p.extends p.names p.hidden h.items m.known;
}
  where
    by : IsObjectType s.types.records (type_of h.ty) ⊎ IsStringType h.ty → IsObjectType t.types.records (type_of h.ty) ⊎ IsStringType h.ty
    by (inl k) = inl (object_later s.types.records t.types.records p.extends (type_of h.ty) k)
    by (inr k) = inr k

-- Where a name comes from: it was there and is pending still if it was, or it is settled.
abbrev pub NameFrom : Option Slot → Option Slot → State → State → ℕ → LinkedName → Type 0
NameFrom u v s t n y =
    ((x : LinkedName) × (slice_get s.types.linked n ≡ Some x) × SameItems x y × (is_function (type_of x.ty) ≡ is_function (type_of y.ty)) × (u ≡ Some (slot.Named n) → v ≡ Some (slot.Named n)))
    ⊎ ((v ≡ Some (slot.Named n)) ⊎ IsSettled t n y)

abbrev pub HiddenFrom : Option Slot → Option Slot → State → State → ℕ → HiddenObject → Type 0
HiddenFrom u v s t k h = ((slice_get s.made.hidden k ≡ Some h) × (u ≡ Some (slot.Hidden k) → v ≡ Some (slot.Hidden k))) ⊎ ((v ≡ Some (slot.Hidden k)) ⊎ IsMade t h)

pub record Origins (u v : Option Slot) (s t : State) : Type 0 where
  pub names : (n : ℕ) (y : LinkedName) → slice_get t.types.linked n ≡ Some y → is_function (type_of y.ty) ≡ false → NameFrom u v s t n y
  pub hidden : (k : ℕ) (h : HiddenObject) → slice_get t.made.hidden k ≡ Some h → HiddenFrom u v s t k h

pub settles : (u v : Option Slot) (s t : State) → Persists s t → Origins u v s t → Settled u s → Settled v t
settles u v s t p o z = record {
  counting = p.counting ∙ z.counting;
  names = λ n y e f. by_name n y f (o.names n y e f);
  hidden = λ k h e. by_hidden k h (o.hidden k h e);
}
  where
    old_name : (n : ℕ) (x y : LinkedName) → SameItems x y → (u ≡ Some (slot.Named n) → v ≡ Some (slot.Named n)) → (u ≡ Some (slot.Named n)) ⊎ IsSettled s n x → (v ≡ Some (slot.Named n)) ⊎ IsSettled t n y
    old_name n x y same embed (inl e) = inl (embed e)
    old_name n x y same embed (inr h) = inr (settled_persists s t n x y p same h)

    by_name : (n : ℕ) (y : LinkedName) → is_function (type_of y.ty) ≡ false → NameFrom u v s t n y → (v ≡ Some (slot.Named n)) ⊎ IsSettled t n y
    by_name n y f (inl h) = old_name n h.0 y h.2 h.4 (z.names n h.0 h.1 (h.3 ∙ f))
    by_name n y f (inr h) = h

    old_hidden : (k : ℕ) (h : HiddenObject) → (u ≡ Some (slot.Hidden k) → v ≡ Some (slot.Hidden k)) → (u ≡ Some (slot.Hidden k)) ⊎ IsMade s h → (v ≡ Some (slot.Hidden k)) ⊎ IsMade t h
    old_hidden k h embed (inl e) = inl (embed e)
    old_hidden k h embed (inr m) = inr (made_persists s t h p m)

    by_hidden : (k : ℕ) (h : HiddenObject) → HiddenFrom u v s t k h → (v ≡ Some (slot.Hidden k)) ⊎ IsMade t h
    by_hidden k h (inl g) = old_hidden k h g.1 (z.hidden k h g.0)
    by_hidden k h (inr g) = g

-- what changes no name and no object
pub origins_same : (u : Option Slot) (s t : State) → t.types.linked ≡ s.types.linked → t.made.hidden ≡ s.made.hidden → Origins u u s t
origins_same u s t names hidden = record {
  names = λ n y e f. inl (y, subst (λ xs. slice_get xs n ≡ Some y) names e, record { name = refl; items = refl; defined = refl }, refl, λ g. g);
  hidden = λ k h e. inl (subst (λ xs. slice_get xs k ≡ Some h) hidden e, λ g. g);
}

-- or makes strings alone
pub origins_more : (u : Option Slot) (s t : State) → t.types.linked ≡ s.types.linked → ((k : ℕ) (h : HiddenObject) → slice_get t.made.hidden k ≡ Some h → (slice_get s.made.hidden k ≡ Some h) ⊎ IsString h)
    → Origins u u s t
origins_more u s t names more = record {
  names = λ n y e f. inl (y, subst (λ xs. slice_get xs n ≡ Some y) names e, record { name = refl; items = refl; defined = refl }, refl, λ g. g);
  hidden = λ k h e. by k h (more k h e);
}
  where
    by : (k : ℕ) (h : HiddenObject) → (slice_get s.made.hidden k ≡ Some h) ⊎ IsString h → HiddenFrom u u s t k h
    by k h (inl g) = inl (g, λ e. e)
    by k h (inr g) = inr (inr (string_made t h g))

-- ---- where names and objects come from

slot_number : Slot → ℕ
slot_number (slot.Named n) = n
slot_number (slot.Hidden n) = n

pub onward_put : (place : ℕ) (l x : LinkedName) (xs : List LinkedName) → slice_get xs place ≡ Some l → Continues l x → Onward xs (put_at place x xs)
onward_put place l x xs at on n y e = by (put_either place x xs n)
  where
    by : ((n ≡ place) × (slice_get (put_at place x xs) n ≡ Some x)) ⊎ (slice_get (put_at place x xs) n ≡ slice_get xs n) → (z : LinkedName) × (slice_get (put_at place x xs) n ≡ Some z) × Continues y z
    by (inl h) = (x, h.1, subst (λ (w : LinkedName). Continues w x) (some_same (sym at ∙ (ap (slice_get xs) (sym h.0) ∙ e))) on)
    by (inr h) = (y, h ∙ e, continues_same y)

-- a name that is changed
pub origins_put : (u v : Option Slot) (s t : State) (place : ℕ) (l x : LinkedName) → t.types.linked ≡ put_at place x s.types.linked → t.made.hidden ≡ s.made.hidden → slice_get s.types.linked place ≡ Some l
    → (is_function (type_of x.ty) ≡ false → NameFrom u v s t place x) → ((z : Slot) → u ≡ Some z → (z ≡ slot.Named place) ⊎ (v ≡ Some z)) → Origins u v s t
origins_put u v s t place l x names hidden at from embed = record {
  names = λ n y e f. by_place n y (subst (λ xs. slice_get xs n ≡ Some y) names e) f (n == place) refl;
  hidden = λ k h e. inl (subst (λ xs. slice_get xs k ≡ Some h) hidden e, λ g. other k (embed (slot.Hidden k) g));
}
  where
    other : (k : ℕ) → (slot.Hidden k ≡ slot.Named place) ⊎ (v ≡ Some (slot.Hidden k)) → v ≡ Some (slot.Hidden k)
    other k (inl e) = never_slot (sym e)
    other k (inr e) = e

    apart : (n : ℕ) → (n == place) ≡ false → (slot.Named n ≡ slot.Named place) ⊎ (v ≡ Some (slot.Named n)) → v ≡ Some (slot.Named n)
    apart n f (inl e) = no (sym f ∙ eq-eqb n place (named_same e))
    apart n f (inr e) = e

    before : (n : ℕ) (y : LinkedName) → slice_get (put_at place x s.types.linked) n ≡ Some y → (n == place) ≡ false
        → ((n ≡ place) × (slice_get (put_at place x s.types.linked) n ≡ Some x)) ⊎ (slice_get (put_at place x s.types.linked) n ≡ slice_get s.types.linked n) → slice_get s.types.linked n ≡ Some y
    before n y e f (inl g) = no (sym f ∙ eq-eqb n place g.0)
    before n y e f (inr g) = sym g ∙ e

    by_place : (n : ℕ) (y : LinkedName) → slice_get (put_at place x s.types.linked) n ≡ Some y → is_function (type_of y.ty) ≡ false → (b : Bool) → (n == place) ≡ b → NameFrom u v s t n y
    by_place n y e f true g =
        let same : n ≡ place = eqb-true n place g in
        let is : x ≡ y = some_same (sym (put_same place x s.types.linked (get_within s.types.linked place l at)) ∙ (ap (slice_get (put_at place x s.types.linked)) (sym same) ∙ e)) in
        subst (λ k. NameFrom u v s t k y) (sym same) (subst (NameFrom u v s t place) is (from (ap (λ (z : LinkedName). is_function (type_of z.ty)) is ∙ f)))
    by_place n y e f false g =
        inl (y, before n y e g (put_either place x s.types.linked n), record { name = refl; items = refl; defined = refl }, refl, λ h. apart n g (embed (slot.Named n) h))

-- a name that is new, and not defined
pub origins_added : (u : Option Slot) (s t : State) (x : LinkedName) → t.types.linked ≡ s.types.linked ++ x ∷ [] → t.made.hidden ≡ s.made.hidden → x.defined ≡ false → x.items ≡ [] → Origins u u s t
origins_added u s t x names hidden bare empty = record {
  names = λ n y e f. by n y (get_more s.types.linked x n y (subst (λ xs. slice_get xs n ≡ Some y) names e));
  hidden = λ k h e. inl (subst (λ xs. slice_get xs k ≡ Some h) hidden e, λ g. g);
}
  where
    by : (n : ℕ) (y : LinkedName) → (slice_get s.types.linked n ≡ Some y) ⊎ ((n ≡ length s.types.linked) × (x ≡ y)) → NameFrom u u s t n y
    by n y (inl e) = inl (y, e, record { name = refl; items = refl; defined = refl }, refl, λ g. g)
    by n y (inr e) = inr (inr (inl (ap (λ (z : LinkedName). z.defined) (sym e.1) ∙ bare, ap (λ (z : LinkedName). z.items) (sym e.1) ∙ empty)))

-- an object without a name that is new
pub origins_hidden : (v : Option Slot) (s t : State) (x : HiddenObject) → t.types.linked ≡ s.types.linked → t.made.hidden ≡ s.made.hidden ++ x ∷ []
    → (v ≡ Some (slot.Hidden (length s.made.hidden))) ⊎ IsMade t x → Origins None v s t
origins_hidden v s t x names hidden good = record {
  names = λ n y e f. inl (y, subst (λ xs. slice_get xs n ≡ Some y) names e, record { name = refl; items = refl; defined = refl }, refl, λ g. never_some g);
  hidden = λ k h e. by k h (get_more s.made.hidden x k h (subst (λ xs. slice_get xs k ≡ Some h) hidden e));
}
  where
    by : (k : ℕ) (h : HiddenObject) → (slice_get s.made.hidden k ≡ Some h) ⊎ ((k ≡ length s.made.hidden) × (x ≡ h)) → HiddenFrom None v s t k h
    by k h (inl e) = inl (e, λ g. never_some g)
    by k h (inr e) = inr (subst (λ n. (v ≡ Some (slot.Hidden n)) ⊎ IsMade t h) (sym e.0) (subst (λ (y : HiddenObject). (v ≡ Some (slot.Hidden (length s.made.hidden))) ⊎ IsMade t y) e.1 good))

-- and one that gets its first bytes
pub origins_refilled : (s t : State) (place : ℕ) (x y : HiddenObject) → t.types.linked ≡ s.types.linked → t.made.hidden ≡ put_at place x s.made.hidden → slice_get s.made.hidden place ≡ Some y → IsMade t x
    → Origins (Some (slot.Hidden place)) None s t
unfolding slot_number
origins_refilled s t place x y names hidden at good = record {
  names = λ n z e f. inl (z, subst (λ xs. slice_get xs n ≡ Some z) names e, record { name = refl; items = refl; defined = refl }, refl, λ g. never_slot (sym (some_same g)));
  hidden = λ k h e. by k h (subst (λ xs. slice_get xs k ≡ Some h) hidden e) (k == place) refl;
}
  where
    before : (k : ℕ) (h : HiddenObject) → slice_get (put_at place x s.made.hidden) k ≡ Some h → (k == place) ≡ false
        → ((k ≡ place) × (slice_get (put_at place x s.made.hidden) k ≡ Some x)) ⊎ (slice_get (put_at place x s.made.hidden) k ≡ slice_get s.made.hidden k) → slice_get s.made.hidden k ≡ Some h
    before k h e f (inl g) = no (sym f ∙ eq-eqb k place g.0)
    before k h e f (inr g) = sym g ∙ e

    by : (k : ℕ) (h : HiddenObject) → slice_get (put_at place x s.made.hidden) k ≡ Some h → (b : Bool) → (k == place) ≡ b → HiddenFrom (Some (slot.Hidden place)) None s t k h
    by k h e true g =
        let same : k ≡ place = eqb-true k place g in
        let is : x ≡ h = some_same (sym (put_same place x s.made.hidden (get_within s.made.hidden place y at)) ∙ (ap (slice_get (put_at place x s.made.hidden)) (sym same) ∙ e)) in
        inr (inr (subst (IsMade t) is good))
    by k h e false g = inl (before k h e g (put_either place x s.made.hidden k), λ f. no (sym g ∙ eq-eqb k place (sym (ap slot_number (some_same f)))))

-- ---- scopes

-- what is declared tells of no object where it is no name with linkage, and the names at file scope stay
pub scopes_grown : (u : Option Slot) (s t : State) → t.types ≡ s.types → t.made ≡ s.made → KeepsLinked s.scopes.entities t.scopes.entities → StaysOutside s.scopes t.scopes → Settled u s → Settled u t
scopes_grown u s t types made keeps stays z =
    settles u u s t (record {
      extends = subst (λ (x : TypeState). Extends s.types.records x.records) (sym types) (extends_same s.types.records);
      names = λ n x e. (x, ap (λ (y : TypeState). slice_get y.linked n) types ∙ e, continues_same x);
      hidden = λ n x e. (x, ap (λ (y : MadeState). slice_get y.hidden n) made ∙ e, covers_same x.ty);
      entities = keeps;
      outside = stays;
      counting = ap (λ (x : MadeState). x.counting) made;
    }) (origins_same u s t (ap (λ (x : TypeState). x.linked) types) (ap (λ (x : MadeState). x.hidden) made)) z

-- what scopes change tells of no object, where the names at file scope stay
pub scopes_settled : (u : Option Slot) (s t : State) → t.types ≡ s.types → t.made ≡ s.made → t.scopes.entities ≡ s.scopes.entities → StaysOutside s.scopes t.scopes → Settled u s → Settled u t
scopes_settled u s t types made entities stays z = scopes_grown u s t types made (λ k n q e. (q, ap (λ xs. slice_get xs k) entities ∙ e, covers_same q)) stays z
