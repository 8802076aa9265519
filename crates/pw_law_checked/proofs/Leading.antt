-- Where the addresses in the first bytes of a module's objects lead: into what they name, or directly behind it.
use Rattle.std.specs.Prelude.{ℕ, ◌≡◌, ◌⊎◌, Bool, true, false, is_some, Option, None, Some, List, [], ◌∷◌, slice_get, flat_map, if◌then◌else◌, All, Contains, suc, not, map, filter, option_map, Ok, refl}
use Rattle.std.specs.Option.{option_map_or}
use Rattle.std.proofs.Common.{ap, sym, subst, ◌∙◌, inl, inr}
use Rattle.std.proofs.lemmas.Bool.{eqb-true}
use Rattle.std.proofs.lemmas.List.Elements.{All-nil, All-cons, All-append}
use Rattle.pw_tree.specs.Trees.{Module}
use Rattle.pw_types.specs.declared.record.Layout.{Layout}
use Rattle.pw_types.specs.Layouts.{layout_of, size_of}
use Rattle.pw_types.specs.TypeTrees.{CType, Void, Int, Pointer, Array, Function, Record, QType, type_of, RecordValue}
use Rattle.pw_types.specs.TypedTrees.{Symbol, External, Internal, Hidden, ItemValue, ItemBytes, ItemAddress, GlobalValue, ModuleValue}
use Rattle.pw_types.specs.WellTyped.{IsComplete}
use Rattle.pw_check_walk.specs.Walks.{Done, bind}
use Rattle.pw_check_rules.specs.Checks.{Checks, checking}
use Rattle.pw_check_rules.specs.Constants.{is_within}
use Rattle.pw_check_rules.specs.Kinds.{is_function}
use Rattle.pw_check_rules.specs.Linkage.{symbol_of_linked}
use Rattle.pw_check_rules.specs.Modules.{declared_value, final_type, global_in, hidden_global, module_in, module_rule, named_global}
use Rattle.pw_check_rules.specs.States.{State, LinkedName, HiddenObject, linked_at, start}
use Rattle.pw_check_rules.specs.declared.names.Slot.{Slot}
use Rattle.pw_check_rules.specs.declared.names.Slot.TheVariants as slot
use Rattle.pw_law_checked.specs.Lawful.{IsLawful}
use Rattle.pw_law_checked.specs.Leading.{IsInside, Leads, ItemLeads, ItemsLead, IsDeclaredWhole}
use Rattle.pw_law_checked.proofs.Walking.{Post, post_bind, post_end}
use Rattle.pw_law_checked.proofs.Lists.{never_some}
use Rattle.pw_law_checked.proofs.Types.{no}
use Rattle.pw_law_checked.proofs.Composite.{Covers, layout_covered}
use Rattle.pw_law_checked.proofs.Objects.{object_complete}
use Rattle.pw_law_checked.proofs.ObjectTypes.{keeps_within}
use Rattle.pw_law_checked.proofs.Sound.{Sound, IsStored, IsThere}
use Rattle.pw_law_checked.proofs.Settled.{IsHere, IsKnownItem, AreKnownItems, IsSettled, IsMade, start_within}
use Rattle.pw_law_checked.proofs.Ending.{contains_at, get_kept, get_mapped, final_covers, start_sound}
use Rattle.pw_law_checked.proofs.Backward.{get_flat}
use Rattle.pw_law_checked.proofs.Final.{named_objects}
use Rattle.pw_law_checked.proofs.Modules.{IsWhole, module_post, none_defined, start_settled}
use Rattle.pw_law_checked.proofs.Globals.{Ended, shared_name, settled_name, is_final, hidden_there}
use Rattle.pw_law_checked.proofs.Laws.{start_lawful}

-- ---- offsets

-- a type of which no less is known has the size
inside_covered : (r : List RecordValue) (a b : QType) (offset : ℕ) → Covers a b → IsInside r b offset → IsInside r a offset
inside_covered r a b offset c h = by (layout_of r (type_of b)) refl h
  where
    by : (o : Option Layout) → layout_of r (type_of b) ≡ o → is_within offset (option_map (λ (l : Layout). l.size) o) ≡ true → IsInside r a offset
    by None e k = subst (IsInside r a) (sym (eqb-true offset 0 k)) (start_within (size_of r (type_of a)))
    by (Some l) e k = subst (λ o. is_within offset (option_map (λ (l : Layout). l.size) o) ≡ true) (sym (layout_covered r a b c (ap is_some e) ∙ e)) k

inside_back : (r : List RecordValue) (a b : QType) (offset : ℕ) → Covers a b → IsComplete r (type_of b) → IsInside r a offset → IsInside r b offset
inside_back r a b offset c complete h = subst (λ o. is_within offset (option_map (λ (l : Layout). l.size) o) ≡ true) (layout_covered r a b c complete) h

-- a function has no size
pub function_start : (r : List RecordValue) (ty : CType) (offset : ℕ) → is_function ty ≡ true → is_within offset (size_of r ty) ≡ true → offset ≡ 0
function_start r (Function q ps) offset f h = eqb-true offset 0 h
function_start r Void offset f h = no f
function_start r (Int k) offset f h = no f
function_start r (Pointer q) offset f h = no f
function_start r (Array q n) offset f h = no f
function_start r (Record n) offset f h = no f

-- ---- names

declared_there : (s : State) (n : ℕ) (l : LinkedName) → slice_get s.types.linked n ≡ Some l → l.internal ≡ false → Contains (module_in s).declared (declared_value l)
declared_there s n l at shared =
    let kept = get_kept (λ (x : LinkedName). not x.internal) s.types.linked n l at (ap not shared) in
    let mapped = get_mapped declared_value (filter (λ (x : LinkedName). not x.internal) s.types.linked) kept.0 l kept.1 in
    contains_at (map declared_value (filter (λ (x : LinkedName). not x.internal) s.types.linked)) kept.0 (declared_value l) mapped

is_hidden : Symbol → Bool
is_hidden (Hidden k) = true
is_hidden _ = false

is_own : Symbol → Bool
is_own (Internal name) = true
is_own _ = false

own_name : (l : LinkedName) (name : List ℕ) → symbol_of_linked l ≡ Internal name → l.internal ≡ true
unfolding is_own
own_name l name e = by l.internal refl e
  where
    by : (b : Bool) → l.internal ≡ b → (if b then Internal l.name else External l.name) ≡ Internal name → l.internal ≡ true
    by true h f = h
    by false h f = no (ap is_own f)

stored_there : (s : State) (n : ℕ) (l : LinkedName) → Sound None s → slice_get s.types.linked n ≡ Some l → IsStored l → Contains (module_in s).globals (named_global s l)
stored_there s n l sound at stored =
    let i = sound.slots.named n l at stored in
    let r = get_flat (global_in s) s.made.slots i.0 (slot.Named n) 0 (named_global s l) i.1 (ap (λ o. slice_get (option_map_or (λ (z : LinkedName). named_global s z ∷ []) o []) 0) at) in
    contains_at (module_in s).globals r.0 (named_global s l) r.1

own_leads : (s : State) → Ended s → (name : List ℕ) (q : QType) (offset : ℕ) → IsHere s (Internal name) q → IsInside s.types.records q offset → Leads (module_in s) (Internal name) offset
own_leads s x name q offset h inside = by (is_function (type_of h.1.ty)) refl
  where
    whole : IsInside s.types.records h.1.ty offset
    whole = inside_covered s.types.records h.1.ty q offset h.4 inside

    an_object : is_function (type_of h.1.ty) ≡ false → (None ≡ Some (slot.Named h.0)) ⊎ (Rattle.pw_law_checked.proofs.Sound.is_stored h.1 ≡ true) → Leads (module_in s) (Internal name) offset
    an_object e (inl f) = never_some f
    an_object e (inr f) =
        let object = named_objects s x.lawful x.sound x.within x.tentatives x.outer (λ k y g d other. is_final s k y d (settled_name s k y x g other)) h.0 h.1 h.2 (f, e) in
        inr (record {
          object = named_global s h.1;
          there = stored_there s h.0 h.1 x.sound h.2 (f, e);
          name_is = h.3;
          inside = inside_back s.types.records h.1.ty (final_type s h.1) offset (final_covers s h.0 h.1 x.lawful x.sound h.2) (object_complete s.types.records (type_of (final_type s h.1)) object) whole;
        })

    by : (b : Bool) → is_function (type_of h.1.ty) ≡ b → Leads (module_in s) (Internal name) offset
    by true e = inl (function_start s.types.records (type_of h.1.ty) offset e whole)
    by false e = an_object e (x.sound.slots.internal h.0 h.1 h.2 (own_name h.1 name h.3) e)

item_leads : (s : State) → Ended s → (item : ItemValue) → IsKnownItem s item → ItemLeads (module_in s) item
item_leads s x (ItemBytes bytes) h = tt
item_leads s x (ItemAddress (External name) offset) h =
    let here = h.1 in
    let n = shared_name here.1 name here.3 in
    record {
      entry = declared_value here.1;
      there = declared_there s here.0 here.1 here.2 n.0;
      name_is = n.1;
      within = keeps_within s.types.records x.lawful.laid (type_of here.1.ty) (x.within here.0 here.1 here.2).1;
      inside = inside_covered s.types.records here.1.ty h.0 offset here.4 h.2;
    }
item_leads s x (ItemAddress (Internal name) offset) h = own_leads s x name h.0 offset h.1 h.2
item_leads s x (ItemAddress (Hidden k) offset) h =
    let here = h.1 in
    record { object = hidden_global k here.0; there = hidden_there s k here.0 x.sound here.1; name_is = refl; inside = inside_covered s.types.records here.0.ty h.0 offset here.2 h.2 }

items_lead : (s : State) → Ended s → (g : GlobalValue) → AreKnownItems s g.items → ItemsLead (module_in s) g
items_lead s x g h i p e = item_leads s x p.item (h i p e)

-- ---- objects

named_lead : (s : State) (n : ℕ) (l : LinkedName) → Ended s → IsSettled s n l → ItemsLead (module_in s) (named_global s l)
named_lead s n l x (inl h) i p e = never_some (subst (λ items. slice_get items i ≡ Some p) h.1 e)
named_lead s n l x (inr h) i p e = items_lead s x (named_global s l) h.known i p e

hidden_lead : (s : State) (k : ℕ) (h : HiddenObject) → Ended s → (None ≡ Some (slot.Hidden k)) ⊎ IsMade s h → ItemsLead (module_in s) (hidden_global k h)
hidden_lead s k h x (inl e) = never_some e
hidden_lead s k h x (inr m) = items_lead s x (hidden_global k h) m.known

slot_leads : (s : State) → Ended s → (x : Slot) → IsThere s.types.linked s.made.hidden x → All (ItemsLead (module_in s)) (global_in s x)
slot_leads s end (slot.Named n) there =
    let is : linked_at s n ≡ Some there.0 = there.1 in
    subst (λ o. All (ItemsLead (module_in s)) (option_map_or (λ l. named_global s l ∷ []) o [])) (sym is)
    (All-cons (ItemsLead (module_in s)) (named_global s there.0) [] (named_lead s n there.0 end (settled_name s n there.0 end there.1 there.2.1)) (All-nil (ItemsLead (module_in s))))
slot_leads s end (slot.Hidden k) there =
    subst (λ o. All (ItemsLead (module_in s)) (option_map_or (λ h. hidden_global k h ∷ []) o [])) (sym there.1)
    (All-cons (ItemsLead (module_in s)) (hidden_global k there.0) [] (hidden_lead s k there.0 end (end.settled.hidden k there.0 there.1)) (All-nil (ItemsLead (module_in s))))

slots_lead : (s : State) → Ended s → (xs : List Slot) → ((i : ℕ) (x : Slot) → slice_get xs i ≡ Some x → IsThere s.types.linked s.made.hidden x) → All (ItemsLead (module_in s)) (flat_map (global_in s) xs)
slots_lead s end [] there = All-nil (ItemsLead (module_in s))
slots_lead s end (x ∷ xs) there =
    All-append (ItemsLead (module_in s)) (global_in s x) (flat_map (global_in s) xs) (slot_leads s end x (there 0 x refl)) (slots_lead s end xs (λ i y e. there (suc i) y e))

-- an object with a name has its size by all its declarations
named_whole : (s : State) (n : ℕ) (l : LinkedName) → Ended s → slice_get s.types.linked n ≡ Some l → IsStored l → IsDeclaredWhole (module_in s) (named_global s l)
named_whole s n l x at stored name e =
    let shared = shared_name l name e in
    let object = named_objects s x.lawful x.sound x.within x.tentatives x.outer (λ k y g d other. is_final s k y d (settled_name s k y x g other)) n l at stored in
    record {
      entry = declared_value l;
      there = declared_there s n l at shared.0;
      name_is = shared.1;
      size = ap (option_map (λ (l : Layout). l.size)) (layout_covered s.types.records l.ty (final_type s l) (final_covers s n l x.lawful x.sound at) (object_complete s.types.records (type_of (final_type s l)) object));
    }

hidden_whole : (s : State) (k : ℕ) (h : HiddenObject) → IsDeclaredWhole (module_in s) (hidden_global k h)
unfolding is_hidden
hidden_whole s k h name e = no (sym (ap is_hidden e))

slot_whole : (s : State) → Ended s → (x : Slot) → IsThere s.types.linked s.made.hidden x → All (IsDeclaredWhole (module_in s)) (global_in s x)
slot_whole s end (slot.Named n) there =
    let is : linked_at s n ≡ Some there.0 = there.1 in
    subst (λ o. All (IsDeclaredWhole (module_in s)) (option_map_or (λ l. named_global s l ∷ []) o [])) (sym is)
    (All-cons (IsDeclaredWhole (module_in s)) (named_global s there.0) [] (named_whole s n there.0 end there.1 there.2) (All-nil (IsDeclaredWhole (module_in s))))
slot_whole s end (slot.Hidden k) there =
    subst (λ o. All (IsDeclaredWhole (module_in s)) (option_map_or (λ h. hidden_global k h ∷ []) o [])) (sym there.1)
    (All-cons (IsDeclaredWhole (module_in s)) (hidden_global k there.0) [] (hidden_whole s k there.0) (All-nil (IsDeclaredWhole (module_in s))))

slots_whole : (s : State) → Ended s → (xs : List Slot) → ((i : ℕ) (x : Slot) → slice_get xs i ≡ Some x → IsThere s.types.linked s.made.hidden x) → All (IsDeclaredWhole (module_in s)) (flat_map (global_in s) xs)
slots_whole s end [] there = All-nil (IsDeclaredWhole (module_in s))
slots_whole s end (x ∷ xs) there =
    All-append (IsDeclaredWhole (module_in s)) (global_in s x) (flat_map (global_in s) xs) (slot_whole s end x (there 0 x refl)) (slots_whole s end xs (λ i y e. there (suc i) y e))

-- ---- the law

abbrev AllLead : ModuleValue → Type 0
AllLead m = All (ItemsLead m) m.globals × All (IsDeclaredWhole m) m.globals

ended_lead : (s : State) → Ended s → AllLead (module_in s)
ended_lead s end = (slots_lead s end s.made.slots (λ i x e. end.sound.slots.there i x e), slots_whole s end s.made.slots (λ i x e. end.sound.slots.there i x e))

checking_leads : (m : Module) → IsLawful start → Post (bind (module_rule m start) (λ r. Done r.0)) AllLead
checking_leads m l =
    post_bind (module_rule m start) (λ r. Done r.0) IsWhole AllLead (module_post m start l none_defined start_sound (λ n x e. never_some e) refl start_settled) (λ r h.
    subst AllLead (sym h.3) (ended_lead r.1 (record { lawful = h.0; sound = h.2; within = h.4; tentatives = h.5; outer = h.6; settled = h.7 })))

accepted_lead : (tree : Module) (m : ModuleValue) → Checks tree (Ok m) → AllLead m
unfolding checking
accepted_lead tree m h = post_end (checking tree) m AllLead h (checking_leads tree start_lawful)

pub addresses_lead : (tree : Module) (m : ModuleValue) → Checks tree (Ok m) → All (ItemsLead m) m.globals
addresses_lead tree m h = (accepted_lead tree m h).0

pub declared_whole : (tree : Module) (m : ModuleValue) → Checks tree (Ok m) → All (IsDeclaredWhole m) m.globals
declared_whole tree m h = (accepted_lead tree m h).1
