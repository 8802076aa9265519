-- The objects of a module: each has a type that objects can have, and its items stand in it one behind the other.
use Rattle.std.specs.Prelude.{ℕ, suc, ◌≡◌, ◌+◌, ◌⊎◌, Bool, true, false, Option, None, Some, unwrap_or, List, [], ◌∷◌, slice_get, flat_map, if◌then◌else◌, All, Contains, refl, ◌++◌}
use Rattle.std.specs.Option.{option_map_or}
use Rattle.std.proofs.Common.{arith, ap, sym, subst, ◌∙◌, inl, inr}
use Rattle.std.proofs.lemmas.List.Elements.{All-nil, All-cons, All-head, All-tail, All-append}
use Rattle.pw_tree.specs.Trees.{Module}
use Rattle.pw_types.specs.Records.{IsObjectType}
use Rattle.pw_types.specs.TypeTrees.{QType, type_of}
use Rattle.pw_types.specs.TypedModules.{AreItems, IsItem, IsName, item_size}
use Rattle.pw_types.specs.TypedTrees.{Symbol, External, Internal, Hidden, ItemValue, ItemBytes, ItemAddress, PlacedItem, GlobalValue, ModuleValue}
use Rattle.pw_types.specs.WellTyped.{IsKnownType}
use Rattle.pw_check_walk.specs.Walks.{Done, bind}
use Rattle.pw_check_rules.specs.Kinds.{is_function}
use Rattle.pw_check_rules.specs.Linkage.{symbol_of_linked}
use Rattle.pw_check_rules.specs.Modules.{final_type, global_in, hidden_global, module_in, module_rule, named_global, type_of_entity}
use Rattle.pw_check_rules.specs.States.{State, LinkedName, Entity, TypeName, EnumerationConstant, LocalObject, StaticObject, Linked, HiddenObject, entity_at, entity_of, entry_of, linked_at, start}
use Rattle.pw_check_rules.specs.declared.names.Slot.{Slot}
use Rattle.pw_check_rules.specs.declared.names.Slot.TheVariants as slot
use Rattle.pw_law_checked.specs.Lawful.{IsLawful, IsLawfulType}
use Rattle.pw_law_checked.specs.Words.{HasOffset, WordsInItems, AreWordsInModule, AreShortStrings}
use Rattle.pw_law_checked.proofs.Walking.{Post, post_bind}
use Rattle.pw_law_checked.proofs.Lists.{never_some}
use Rattle.pw_law_checked.proofs.Types.{no, lawful_known}
use Rattle.pw_law_checked.proofs.Composite.{covers_same}
use Rattle.pw_law_checked.proofs.Sound.{Sound, IsStored, IsThere}
use Rattle.pw_law_checked.proofs.ObjectTypes.{AreWithin}
use Rattle.pw_law_checked.proofs.Parts.{sized}
use Rattle.pw_law_checked.proofs.Settled.{Rise, IsHere, IsKnownItem, AreKnownItems, IsFinal, IsSettled, IsMade, IsStringType, Settled}
use Rattle.pw_law_checked.proofs.Keeping.{and_then_is}
use Rattle.pw_law_checked.proofs.Ending.{contains_at, declared_as, start_sound}
use Rattle.pw_law_checked.proofs.Backward.{names_end, get_flat}
use Rattle.pw_law_checked.proofs.Final.{final_is, named_objects}
use Rattle.pw_law_checked.proofs.Modules.{AreTentatives, IsWhole, module_post, none_defined, start_settled}

-- ---- items

text_of : Symbol → List ℕ
text_of (External name) = name
text_of (Internal name) = name
text_of (Hidden k) = []

is_shared : Symbol → Bool
is_shared (External name) = true
is_shared _ = false

pub shared_name : (l : LinkedName) (name : List ℕ) → symbol_of_linked l ≡ External name → (l.internal ≡ false) × (l.name ≡ name)
unfolding text_of is_shared
shared_name l name e = by l.internal refl e
  where
    by : (b : Bool) → l.internal ≡ b → (if b then Internal l.name else External l.name) ≡ External name → (l.internal ≡ false) × (l.name ≡ name)
    by true h f = no (ap is_shared f)
    by false h f = (h, ap text_of f)

name_is : (s : State) → IsLawful s → Sound None s → (symbol : Symbol) (q : QType) → IsHere s symbol q → IsName (module_in s) symbol
name_is s lawful h (External name) q here =
    let x = shared_name here.1 name here.3 in
    let d = declared_as s here.0 here.1 here.1.ty here.2 x.0 (covers_same here.1.ty) in
    (d.entry, d.there, d.name_is ∙ x.1)
name_is s lawful h (Internal name) q here = tt
name_is s lawful h (Hidden k) q here =
    let d = (names_end s lawful h).strings k here.0 here.1 in
    (d.object, d.there, d.name_is)

item_is : (s : State) → IsLawful s → Sound None s → (item : ItemValue) → IsKnownItem s item → HasOffset item → IsItem (module_in s) item
item_is s lawful h (ItemBytes bytes) known word = known
item_is s lawful h (ItemAddress symbol offset) known word = (name_is s lawful h symbol known.0 known.1, word)

are_items : (s : State) → IsLawful s → Sound None s → (from size : ℕ) (items : List PlacedItem) → Rise from size items → AreKnownItems s items → WordsInItems items → AreItems (module_in s) from size items
are_items s lawful h from size [] rise known words = rise
are_items s lawful h from size (p ∷ rest) rise known words = (
  rise.0,
  item_is s lawful h p.item (known 0 p refl) (All-head (λ (x : PlacedItem). HasOffset x.item) p rest words),
  are_items s lawful h (p.offset + item_size p.item) size rest rise.1 (λ i x e. known (suc i) x e) (All-tail (λ (x : PlacedItem). HasOffset x.item) p rest words),
)

-- ---- objects

-- what is said of an object of a module beside its name
abbrev pub IsPlacedObject : ModuleValue → GlobalValue → Type 0
IsPlacedObject m g = IsObjectType m.records (type_of g.ty) × IsKnownType m.records (type_of g.ty) × AreItems m 0 (sized m.records (type_of g.ty)) g.items

final_lawful : (s : State) (n : ℕ) (l : LinkedName) → IsLawful s → slice_get s.types.linked n ≡ Some l → IsLawfulType s.types.records (type_of (final_type s l))
final_lawful s n l lawful at = by (entity_of s l.name) refl
  where
    by_entity : (k : ℕ) (x : Entity) → slice_get s.scopes.entities k ≡ Some x → IsLawfulType s.types.records (type_of (unwrap_or (type_of_entity x) l.ty))
    by_entity k (Linked m q) e = lawful.entities k (Linked m q) e
    by_entity k (TypeName q) e = lawful.linked n l at
    by_entity k (EnumerationConstant v) e = lawful.linked n l at
    by_entity k (LocalObject v q register) e = lawful.linked n l at
    by_entity k (StaticObject v q) e = lawful.linked n l at

    by : (o : Option Entity) → entity_of s l.name ≡ o → IsLawfulType s.types.records (type_of (option_map_or (λ e. unwrap_or (type_of_entity e) l.ty) o l.ty))
    by None e = lawful.linked n l at
    by (Some x) e = let p = and_then_is (entity_at s) (entry_of s l.name) x e in by_entity p.0.place x p.1

-- at the module's end
pub record Ended (s : State) : Type 0 where
  pub lawful : IsLawful s
  pub sound : Sound None s
  pub within : AreWithin s.types.records s.types.linked
  pub tentatives : AreTentatives s
  pub outer : s.scopes.depth ≡ 0
  pub settled : Settled None s

pub settled_name : (s : State) (n : ℕ) (l : LinkedName) → Ended s → slice_get s.types.linked n ≡ Some l → is_function (type_of l.ty) ≡ false → IsSettled s n l
settled_name s n l x at object = by (x.settled.names n l at object)
  where
    by : (None ≡ Some (slot.Named n)) ⊎ IsSettled s n l → IsSettled s n l
    by (inl e) = never_some e
    by (inr h) = h

pub is_final : (s : State) (n : ℕ) (l : LinkedName) → l.defined ≡ true → IsSettled s n l → IsFinal s n l.name
is_final s n l e (inl h) = no (sym h.0 ∙ e)
is_final s n l e (inr h) = h.final

named_items : (s : State) (n : ℕ) (l : LinkedName) → Ended s → WordsInItems l.items → IsSettled s n l → AreItems (module_in s) 0 (sized s.types.records (type_of (final_type s l))) l.items
named_items s n l x words (inl h) = subst (AreItems (module_in s) 0 (sized s.types.records (type_of (final_type s l)))) (sym h.1) (omega arith)
named_items s n l x words (inr h) =
    are_items s x.lawful x.sound 0 (sized s.types.records (type_of (final_type s l))) l.items
    (subst (λ q. Rise 0 (sized s.types.records (type_of q)) l.items) (sym (final_is s n l x.lawful.depths x.outer h.final)) h.rise) h.known words

named_placed : (s : State) (n : ℕ) (l : LinkedName) → Ended s → slice_get s.types.linked n ≡ Some l → IsStored l → WordsInItems l.items → IsPlacedObject (module_in s) (named_global s l)
named_placed s n l x at stored words = (
  named_objects s x.lawful x.sound x.within x.tentatives x.outer (λ k y f e object. is_final s k y e (settled_name s k y x f object)) n l at stored,
  lawful_known s.types.records (type_of (final_type s l)) (final_lawful s n l x.lawful at),
  named_items s n l x words (settled_name s n l x at stored.1),
)

-- a string is no longer than an object can be
sort_object : (s : State) (k : ℕ) (h : HiddenObject) → AreShortStrings (module_in s) → Contains (module_in s).globals (hidden_global k h) → IsObjectType s.types.records (type_of h.ty) ⊎ IsStringType h.ty
    → IsObjectType s.types.records (type_of h.ty)
sort_object s k h short there (inl e) = e
sort_object s k h short there (inr e) =
    let fits = short (hidden_global k h) k e.0 there refl (ap type_of e.1) in
    subst (λ q. IsObjectType s.types.records (type_of q)) (sym e.1) (omega (arith, fits))

pub hidden_there : (s : State) (k : ℕ) (h : HiddenObject) → Sound None s → slice_get s.made.hidden k ≡ Some h → Contains (module_in s).globals (hidden_global k h)
hidden_there s k h sound at =
    let i = sound.slots.strings k h at in
    let r = get_flat (global_in s) s.made.slots i.0 (slot.Hidden k) 0 (hidden_global k h) i.1 (ap (λ o. slice_get (option_map_or (λ (z : HiddenObject). hidden_global k z ∷ []) o []) 0) at) in
    contains_at (module_in s).globals r.0 (hidden_global k h) r.1

hidden_placed : (s : State) (k : ℕ) (h : HiddenObject) → Ended s → AreShortStrings (module_in s) → slice_get s.made.hidden k ≡ Some h → WordsInItems h.items → IsPlacedObject (module_in s) (hidden_global k h)
hidden_placed s k h x short at words = by (x.settled.hidden k h at)
  where
    by : (None ≡ Some (slot.Hidden k)) ⊎ IsMade s h → IsPlacedObject (module_in s) (hidden_global k h)
    by (inl e) = never_some e
    by (inr m) = (
      sort_object s k h short (hidden_there s k h x.sound at) m.sort,
      lawful_known s.types.records (type_of h.ty) m.lawful,
      are_items s x.lawful x.sound 0 (sized s.types.records (type_of h.ty)) h.items m.rise m.known words,
    )

slot_placed : (s : State) → Ended s → AreShortStrings (module_in s) → (x : Slot) → IsThere s.types.linked s.made.hidden x → All (λ g. WordsInItems g.items) (global_in s x) → All (IsPlacedObject (module_in s)) (global_in s x)
slot_placed s end short (slot.Named n) there words =
    let is : linked_at s n ≡ Some there.0 = there.1 in
    let word = All-head (λ (g : GlobalValue). WordsInItems g.items) (named_global s there.0) []
    (subst (λ o. All (λ (g : GlobalValue). WordsInItems g.items) (option_map_or (λ l. named_global s l ∷ []) o [])) is words) in
    subst (λ o. All (IsPlacedObject (module_in s)) (option_map_or (λ l. named_global s l ∷ []) o [])) (sym is)
    (All-cons (IsPlacedObject (module_in s)) (named_global s there.0) [] (named_placed s n there.0 end there.1 there.2 word) (All-nil (IsPlacedObject (module_in s))))
slot_placed s end short (slot.Hidden k) there words =
    let word = All-head (λ (g : GlobalValue). WordsInItems g.items) (hidden_global k there.0) []
    (subst (λ o. All (λ (g : GlobalValue). WordsInItems g.items) (option_map_or (λ h. hidden_global k h ∷ []) o [])) there.1 words) in
    subst (λ o. All (IsPlacedObject (module_in s)) (option_map_or (λ h. hidden_global k h ∷ []) o [])) (sym there.1)
    (All-cons (IsPlacedObject (module_in s)) (hidden_global k there.0) [] (hidden_placed s k there.0 end short there.1 word) (All-nil (IsPlacedObject (module_in s))))

-- each has a type that objects can have, whatever its items are
abbrev IsSizedObject : ModuleValue → GlobalValue → Type 0
IsSizedObject m g = IsObjectType m.records (type_of g.ty)

named_sized : (s : State) (n : ℕ) (l : LinkedName) → Ended s → slice_get s.types.linked n ≡ Some l → IsStored l → IsSizedObject (module_in s) (named_global s l)
named_sized s n l x at stored = named_objects s x.lawful x.sound x.within x.tentatives x.outer (λ k y f e object. is_final s k y e (settled_name s k y x f object)) n l at stored

hidden_sized : (s : State) (k : ℕ) (h : HiddenObject) → Ended s → AreShortStrings (module_in s) → slice_get s.made.hidden k ≡ Some h → IsSizedObject (module_in s) (hidden_global k h)
hidden_sized s k h x short at = by (x.settled.hidden k h at)
  where
    by : (None ≡ Some (slot.Hidden k)) ⊎ IsMade s h → IsSizedObject (module_in s) (hidden_global k h)
    by (inl e) = never_some e
    by (inr m) = sort_object s k h short (hidden_there s k h x.sound at) m.sort

slot_sized : (s : State) → Ended s → AreShortStrings (module_in s) → (x : Slot) → IsThere s.types.linked s.made.hidden x → All (IsSizedObject (module_in s)) (global_in s x)
slot_sized s end short (slot.Named n) there =
    let is : linked_at s n ≡ Some there.0 = there.1 in
    subst (λ o. All (IsSizedObject (module_in s)) (option_map_or (λ l. named_global s l ∷ []) o [])) (sym is)
    (All-cons (IsSizedObject (module_in s)) (named_global s there.0) [] (named_sized s n there.0 end there.1 there.2) (All-nil (IsSizedObject (module_in s))))
slot_sized s end short (slot.Hidden k) there =
    subst (λ o. All (IsSizedObject (module_in s)) (option_map_or (λ h. hidden_global k h ∷ []) o [])) (sym there.1)
    (All-cons (IsSizedObject (module_in s)) (hidden_global k there.0) [] (hidden_sized s k there.0 end short there.1) (All-nil (IsSizedObject (module_in s))))

slots_sized : (s : State) → Ended s → AreShortStrings (module_in s) → (xs : List Slot) → ((i : ℕ) (x : Slot) → slice_get xs i ≡ Some x → IsThere s.types.linked s.made.hidden x)
    → All (IsSizedObject (module_in s)) (flat_map (global_in s) xs)
slots_sized s end short [] there = All-nil (IsSizedObject (module_in s))
slots_sized s end short (x ∷ xs) there =
    All-append (IsSizedObject (module_in s)) (global_in s x) (flat_map (global_in s) xs) (slot_sized s end short x (there 0 x refl)) (slots_sized s end short xs (λ i y e. there (suc i) y e))

-- what holds of all of a list's parts holds of each
all_front : {X : Type 0} (P : X → Type 0) (xs ys : List X) → All P (xs ++ ys) → All P xs × All P ys
all_front P [] ys h = (All-nil P, h)
all_front P (x ∷ xs) ys h =
    let r = all_front P xs ys (All-tail P x (xs ++ ys) h) in
    (All-cons P x xs (All-head P x (xs ++ ys) h) r.0, r.1)

slots_placed : (s : State) → Ended s → AreShortStrings (module_in s) → (xs : List Slot) → ((i : ℕ) (x : Slot) → slice_get xs i ≡ Some x → IsThere s.types.linked s.made.hidden x)
    → All (λ g. WordsInItems g.items) (flat_map (global_in s) xs) → All (IsPlacedObject (module_in s)) (flat_map (global_in s) xs)
slots_placed s end short [] there words = All-nil (IsPlacedObject (module_in s))
slots_placed s end short (x ∷ xs) there words =
    let parts = all_front (λ (g : GlobalValue). WordsInItems g.items) (global_in s x) (flat_map (global_in s) xs) words in
    All-append (IsPlacedObject (module_in s)) (global_in s x) (flat_map (global_in s) xs) (slot_placed s end short x (there 0 x refl) parts.0) (slots_placed s end short xs (λ i y e. there (suc i) y e) parts.1)

-- ---- the law

pub record HasObjects (m : ModuleValue) : Type 0 where
  pub sized : AreShortStrings m → All (IsSizedObject m) m.globals
  pub placed : AreWordsInModule m → AreShortStrings m → All (IsPlacedObject m) m.globals

ended_objects : (s : State) → Ended s → HasObjects (module_in s)
ended_objects s end = record {
  sized = λ short. slots_sized s end short s.made.slots (λ i x e. end.sound.slots.there i x e);
  placed = λ words short. slots_placed s end short s.made.slots (λ i x e. end.sound.slots.there i x e) words.objects;
}

pub checking_objects : (m : Module) → IsLawful start → Post (bind (module_rule m start) (λ r. Done r.0)) HasObjects
checking_objects m l =
    post_bind (module_rule m start) (λ r. Done r.0) IsWhole HasObjects (module_post m start l none_defined start_sound (λ n x e. never_some e) refl start_settled) (λ r h.
    subst HasObjects (sym h.3) (ended_objects r.1 (record { lawful = h.0; sound = h.2; within = h.4; tentatives = h.5; outer = h.6; settled = h.7 })))
