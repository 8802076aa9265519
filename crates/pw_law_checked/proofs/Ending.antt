-- What stands at a module's end: each object once and under a name of its own, and each external name declared with its type.
use Rattle.std.specs.Prelude.{ℕ, zero, suc, ◌≡◌, ◌≢◌, ◌⊎◌, ◌<◌, not, Bool, true, false, Option, None, Some, unwrap_or, List, [], ◌∷◌, ◌++◌, map, filter, flat_map, slice_get, length, All, AllPairs, Contains, get_or, refl}
use Rattle.std.specs.Option.{option_map_or}
use Rattle.std.proofs.Common.{arith, ap, sym, subst, ◌∙◌}
use Rattle.std.proofs.lemmas.Option.{slice_get-get_or, get_or_from_slice_get}
use Rattle.std.proofs.lemmas.List.Elements.{Contains-get_or, All-nil, All-cons, All-append, All-weaker}
use Rattle.std.proofs.lemmas.List.Kept.{AllPairs-cons}
use Rattle.pw_types.specs.TypeTrees.{QType, type_of}
use Rattle.pw_types.specs.TypedTrees.{Symbol, External, Internal, Hidden, FunctionValue, GlobalValue}
use Rattle.pw_types.specs.TypedModules.{IsDeclaredIfExternal}
use Rattle.pw_types.specs.WellTyped.{IsDeclared}
use Rattle.pw_check_rules.specs.Kinds.{is_function}
use Rattle.pw_check_rules.specs.Linkage.{symbol_of_linked}
use Rattle.pw_check_rules.specs.Modules.{declared_value, final_type, global_in, hidden_global, module_in, named_global, type_of_entity}
use Rattle.pw_check_rules.specs.States.{State, LinkedName, Entity, TypeName, EnumerationConstant, LocalObject, StaticObject, Linked, HiddenObject, entry_of, entity_at, linked_at, start}
use Rattle.pw_check_rules.specs.declared.names.Entry.{Entry}
use Rattle.pw_check_rules.specs.declared.names.Slot.{Slot}
use Rattle.pw_check_rules.specs.declared.names.Slot.TheVariants as slot
use Rattle.pw_law_checked.specs.Lawful.{IsLawful}
use Rattle.pw_law_checked.proofs.Lists.{some_same, never_some, get_within}
use Rattle.pw_law_checked.proofs.Types.{no}
use Rattle.pw_law_checked.proofs.Composite.{Covers, covers_same, covered_agree}
use Rattle.pw_law_checked.proofs.Sound.{Sound, IsThere, IsFunctionNamed, Spelled}
use Rattle.pw_law_checked.proofs.Declaring.{visible_named}

pub start_sound : Sound None start
start_sound = record {
  backed = λ k e h. never_some h;
  spelled = λ i e h. never_some h;
  functions = λ i f h. never_some h;
  slots = record {
    apart = λ i j x e f. never_some e;
    there = λ i x e. never_some e;
    named = λ n l e h. never_some e;
    strings = λ k h e. never_some e;
    internal = λ n l e i f. never_some e;
  };
}

-- ---- elements

pub contains_at : {X : Type 0} (xs : List X) (i : ℕ) (x : X) → slice_get xs i ≡ Some x → Contains xs x
contains_at xs i x e = subst (Contains xs) (get_or_from_slice_get xs i x x e) (Contains-get_or xs i x (get_within xs i x e))

pub get_kept : {X : Type 0} (p : X → Bool) (xs : List X) (i : ℕ) (x : X) → slice_get xs i ≡ Some x → p x ≡ true → (j : ℕ) × (slice_get (filter p xs) j ≡ Some x)
get_kept p [] i x e h = never_some e
get_kept {X} p (z ∷ xs) zero x e h =
    (0, subst (λ b. slice_get (Rattle.std.specs.Prelude.cond b (z ∷ filter p xs) (filter p xs)) 0 ≡ Some x) (sym (ap p (some_same e) ∙ h)) e)
get_kept {X} p (z ∷ xs) (suc i) x e h = by (p z) (get_kept p xs i x e h)
  where
    by : (b : Bool) → (j : ℕ) × (slice_get (filter p xs) j ≡ Some x) → (j : ℕ) × (slice_get (Rattle.std.specs.Prelude.cond b (z ∷ filter p xs) (filter p xs)) j ≡ Some x)
    by true r = (suc r.0, r.1)
    by false r = r

pub get_mapped : {X Y : Type 0} (f : X → Y) (xs : List X) (i : ℕ) (x : X) → slice_get xs i ≡ Some x → slice_get (map f xs) i ≡ Some (f x)
get_mapped f [] i x e = never_some e
get_mapped f (z ∷ xs) zero x e = ap (λ y. Some (f y)) (some_same e)
get_mapped f (z ∷ xs) (suc i) x e = get_mapped f xs i x e

pub all_at : {X : Type 0} (P : X → Type 0) (xs : List X) → ((i : ℕ) (x : X) → slice_get xs i ≡ Some x → P x) → All P xs
all_at P xs h k d below = h k (get_or xs k d) (slice_get-get_or xs k d below)

all_flat : {X Y : Type 0} (P : Y → Type 0) (f : X → List Y) (xs : List X) → ((i : ℕ) (x : X) → slice_get xs i ≡ Some x → All P (f x)) → All P (flat_map f xs)
all_flat P f [] h = All-nil P
all_flat P f (x ∷ xs) h = All-append P (f x) (flat_map f xs) (h 0 x refl) (all_flat P f xs (λ i y e. h (suc i) y e))

-- ---- names

-- an external name is declared with each type that is known of it
pub declared_as : (s : State) (n : ℕ) (l : LinkedName) (q : QType) → slice_get s.types.linked n ≡ Some l → l.internal ≡ false → Covers l.ty q → IsDeclared (module_in s) l.name q
declared_as s n l q at shared covers =
    let kept = get_kept (λ (x : LinkedName). not x.internal) s.types.linked n l at (ap not shared) in
    let mapped = get_mapped declared_value (filter (λ (x : LinkedName). not x.internal) s.types.linked) kept.0 l kept.1 in
    record {
      entry = declared_value l;
      there = contains_at (map declared_value (filter (λ (x : LinkedName). not x.internal) s.types.linked)) kept.0 (declared_value l) mapped;
      name_is = refl;
      agrees = covered_agree s.types.records l.ty l.ty q (covers_same l.ty) covers;
    }

symbol_declared : (s : State) (n : ℕ) (l : LinkedName) (q : QType) → slice_get s.types.linked n ≡ Some l → Covers l.ty q → IsDeclaredIfExternal (module_in s) (symbol_of_linked l) q
symbol_declared s n l q at covers = by l.internal refl
  where
    by : (b : Bool) → l.internal ≡ b → IsDeclaredIfExternal (module_in s) (Rattle.std.specs.Prelude.if◌then◌else◌ b (Internal l.name) (External l.name)) q
    by true e = tt
    by false e = declared_as s n l q at e covers

-- the type that a name has at file scope is covered by all its declarations
pub final_covers : (s : State) (n : ℕ) (l : LinkedName) → IsLawful s → Sound None s → slice_get s.types.linked n ≡ Some l → Covers l.ty (final_type s l)
final_covers s n l lawful h at = by (entry_of s l.name) refl
  where
    by_entity : (k : ℕ) (x : Entity) → slice_get s.scopes.entities k ≡ Some x → Spelled s.types.linked l.name x → Covers l.ty (unwrap_or (type_of_entity x) l.ty)
    by_entity k (Linked m q) e spelled =
        let same : m ≡ n = lawful.apart m n spelled.0 l spelled.1 at spelled.2 in
        let backed = h.backed k (Linked m q) e in
        subst (λ (w : LinkedName). Covers w.ty q) (some_same (sym backed.1 ∙ (ap (slice_get s.types.linked) same ∙ at))) backed.2
    by_entity k (TypeName q) e spelled = covers_same l.ty
    by_entity k (EnumerationConstant v) e spelled = covers_same l.ty
    by_entity k (LocalObject v q register) e spelled = covers_same l.ty
    by_entity k (StaticObject v q) e spelled = covers_same l.ty

    by : (o : Option Entry) → entry_of s l.name ≡ o → Covers l.ty (option_map_or (λ e. unwrap_or (type_of_entity e) l.ty) (Rattle.std.specs.Prelude.option_and_then (entity_at s) o) l.ty)
    by None e = covers_same l.ty
    by (Some x) e =
        let i = visible_named s.scopes.ordinary l.name x e in
        let y = h.spelled i.0 (l.name, x) i.1 in
        subst (λ o. Covers l.ty (option_map_or (λ e. unwrap_or (type_of_entity e) l.ty) o l.ty)) (sym y.1) (by_entity x.place y.0 y.1 y.2)

pub functions_external : (s : State) → IsLawful s → Sound None s → All (λ f. IsDeclaredIfExternal (module_in s) f.name f.ty) s.made.functions
functions_external s lawful h = all_at (λ (f : FunctionValue). IsDeclaredIfExternal (module_in s) f.name f.ty) s.made.functions (λ i f e.
    let x = h.functions i f e in
    subst (λ symbol. IsDeclaredIfExternal (module_in s) symbol f.ty) (sym x.3) (symbol_declared s x.0 x.1 f.ty x.2 x.4))

-- ---- objects

-- what a slot gives
slot_all : (s : State) (P : GlobalValue → Type 0) → ((n : ℕ) (l : LinkedName) → slice_get s.types.linked n ≡ Some l → P (named_global s l))
    → ((k : ℕ) (x : HiddenObject) → slice_get s.made.hidden k ≡ Some x → P (hidden_global k x)) → (x : Slot) → All P (global_in s x)
slot_all s P named hidden (slot.Named n) = by (linked_at s n) refl
  where
    by : (o : Option LinkedName) → linked_at s n ≡ o → All P (option_map_or (λ l. named_global s l ∷ []) o [])
    by None e = All-nil P
    by (Some l) e = All-cons P (named_global s l) [] (named n l e) (All-nil P)
slot_all s P named hidden (slot.Hidden k) = by (slice_get s.made.hidden k) refl
  where
    by : (o : Option HiddenObject) → slice_get s.made.hidden k ≡ o → All P (option_map_or (λ h. hidden_global k h ∷ []) o [])
    by None e = All-nil P
    by (Some x) e = All-cons P (hidden_global k x) [] (hidden k x e) (All-nil P)

pub globals_declared : (s : State) → IsLawful s → Sound None s → All (λ g. IsDeclaredIfExternal (module_in s) g.name g.ty) (module_in s).globals
globals_declared s lawful h =
    all_flat (λ (g : GlobalValue). IsDeclaredIfExternal (module_in s) g.name g.ty) (global_in s) s.made.slots (λ i x e.
    slot_all s (λ (g : GlobalValue). IsDeclaredIfExternal (module_in s) g.name g.ty) (λ n l f. symbol_declared s n l (final_type s l) f (final_covers s n l lawful h f)) (λ k y f. tt) x)

-- the symbol of a slot
abbrev IsSymbolOf : State → Slot → Symbol → Type 0
IsSymbolOf s (slot.Named n) symbol = (l : LinkedName) × (slice_get s.types.linked n ≡ Some l) × (symbol ≡ symbol_of_linked l)
IsSymbolOf s (slot.Hidden k) symbol = symbol ≡ Hidden k

slot_symbols : (s : State) (x : Slot) → All (λ g. IsSymbolOf s x g.name) (global_in s x)
slot_symbols s (slot.Named n) = by (linked_at s n) refl
  where
    by : (o : Option LinkedName) → linked_at s n ≡ o → All (λ (g : GlobalValue). IsSymbolOf s (slot.Named n) g.name) (option_map_or (λ l. named_global s l ∷ []) o [])
    by None e = All-nil (λ (g : GlobalValue). IsSymbolOf s (slot.Named n) g.name)
    by (Some l) e = All-cons (λ (g : GlobalValue). IsSymbolOf s (slot.Named n) g.name) (named_global s l) [] (l, e, refl) (All-nil (λ (g : GlobalValue). IsSymbolOf s (slot.Named n) g.name))
slot_symbols s (slot.Hidden k) = by (slice_get s.made.hidden k)
  where
    by : (o : Option HiddenObject) → All (λ (g : GlobalValue). IsSymbolOf s (slot.Hidden k) g.name) (option_map_or (λ h. hidden_global k h ∷ []) o [])
    by None = All-nil (λ (g : GlobalValue). IsSymbolOf s (slot.Hidden k) g.name)
    by (Some x) = All-cons (λ (g : GlobalValue). IsSymbolOf s (slot.Hidden k) g.name) (hidden_global k x) [] refl (All-nil (λ (g : GlobalValue). IsSymbolOf s (slot.Hidden k) g.name))

abbrev text_of : Symbol → List ℕ
text_of (External name) = name
text_of (Internal name) = name
text_of (Hidden k) = []

number_of : Symbol → ℕ → ℕ
number_of (Hidden k) n = k
number_of _ n = n

hidden_same : {k n : ℕ} → Hidden k ≡ Hidden n → k ≡ n
unfolding number_of
hidden_same {k} {n} e = ap (λ x. number_of x k) e

is_hidden : Symbol → Bool
is_hidden (Hidden k) = true
is_hidden _ = false

pub symbol_text : (l : LinkedName) → text_of (symbol_of_linked l) ≡ l.name
symbol_text l = by l.internal
  where
    by : (b : Bool) → text_of (Rattle.std.specs.Prelude.if◌then◌else◌ b (Internal l.name) (External l.name)) ≡ l.name
    by true = refl
    by false = refl

symbol_shown : (l : LinkedName) → is_hidden (symbol_of_linked l) ≡ false
unfolding is_hidden
symbol_shown l = by l.internal
  where
    by : (b : Bool) → is_hidden (Rattle.std.specs.Prelude.if◌then◌else◌ b (Internal l.name) (External l.name)) ≡ false
    by true = refl
    by false = refl

named_never_hidden : (l : LinkedName) (k : ℕ) → symbol_of_linked l ≡ Hidden k → ⊥
unfolding is_hidden
named_never_hidden l k e = no (sym (symbol_shown l) ∙ ap is_hidden e)

-- one name is that of one slot
slots_same : (s : State) → IsLawful s → (x y : Slot) (symbol : Symbol) → IsSymbolOf s x symbol → IsSymbolOf s y symbol → x ≡ y
slots_same s lawful (slot.Named n) (slot.Named k) symbol a b =
    ap slot.Named (lawful.apart n k a.0 b.0 a.1 b.1 (sym (symbol_text a.0) ∙ (ap text_of (sym a.2 ∙ b.2) ∙ symbol_text b.0)))
slots_same s lawful (slot.Named n) (slot.Hidden k) symbol a b = absurd (named_never_hidden a.0 k (sym a.2 ∙ b))
slots_same s lawful (slot.Hidden n) (slot.Named k) symbol a b = absurd (named_never_hidden b.0 n (sym b.2 ∙ a))
slots_same s lawful (slot.Hidden n) (slot.Hidden k) symbol a b = ap slot.Hidden (hidden_same (sym a ∙ b))

apart_from : (s : State) → IsLawful s → (x : Slot) (symbol : Symbol) → IsSymbolOf s x symbol → (xs : List Slot) → ((i : ℕ) (y : Slot) → slice_get xs i ≡ Some y → x ≡ y → ⊥)
    → All (λ g. symbol ≢ g.name) (flat_map (global_in s) xs)
apart_from s lawful x symbol a xs never =
    all_flat (λ (g : GlobalValue). symbol ≢ g.name) (global_in s) xs (λ i y e.
    All-weaker (λ (g : GlobalValue). IsSymbolOf s y g.name) (λ (g : GlobalValue). symbol ≢ g.name) (λ g named same.
    never i y e (slots_same s lawful x y symbol a (subst (IsSymbolOf s y) (sym same) named))) (global_in s y) (slot_symbols s y))

pairs_of_slots : (s : State) → IsLawful s → (xs : List Slot) → ((i j : ℕ) (x : Slot) → slice_get xs i ≡ Some x → slice_get xs j ≡ Some x → i ≡ j)
    → AllPairs (λ (g h : GlobalValue). g.name ≢ h.name) (flat_map (global_in s) xs)
pairs_of_slots s lawful [] apart = λ i j d below within. (grind (arith, below, within))
pairs_of_slots s lawful (x ∷ xs) apart = by x refl (pairs_of_slots s lawful xs (λ i j y e f. suc_same (apart (suc i) (suc j) y e f)))
  where
    suc_same : {i j : ℕ} → suc i ≡ suc j → i ≡ j
    suc_same {i} {j} e = (omega (arith, e))

    never : (i : ℕ) (y : Slot) → slice_get xs i ≡ Some y → x ≡ y → ⊥
    never i y e same = let z : zero ≡ suc i = apart zero (suc i) y (ap Some same) e in grind (arith, z)

    one : (g : GlobalValue) → IsSymbolOf s x g.name → AllPairs (λ (g h : GlobalValue). g.name ≢ h.name) (flat_map (global_in s) xs)
        → AllPairs (λ (g h : GlobalValue). g.name ≢ h.name) (g ∷ flat_map (global_in s) xs)
    one g named rest = AllPairs-cons (λ (g h : GlobalValue). g.name ≢ h.name) g (flat_map (global_in s) xs) (apart_from s lawful x g.name named xs never) rest

    by : (y : Slot) → x ≡ y → AllPairs (λ (g h : GlobalValue). g.name ≢ h.name) (flat_map (global_in s) xs) → AllPairs (λ (g h : GlobalValue). g.name ≢ h.name) (global_in s y ++ flat_map (global_in s) xs)
    by (slot.Named n) same rest = by_name (linked_at s n) refl
      where
        by_name : (o : Option LinkedName) → linked_at s n ≡ o
            → AllPairs (λ (g h : GlobalValue). g.name ≢ h.name) (option_map_or (λ l. named_global s l ∷ []) o [] ++ flat_map (global_in s) xs)
        by_name None e = rest
        by_name (Some l) e = one (named_global s l) (subst (λ z. IsSymbolOf s z (symbol_of_linked l)) (sym same) (l, e, refl)) rest
    by (slot.Hidden k) same rest = by_object (slice_get s.made.hidden k)
      where
        by_object : (o : Option HiddenObject) → AllPairs (λ (g h : GlobalValue). g.name ≢ h.name) (option_map_or (λ h. hidden_global k h ∷ []) o [] ++ flat_map (global_in s) xs)
        by_object None = rest
        by_object (Some z) = one (hidden_global k z) (subst (λ w. IsSymbolOf s w (Hidden k)) (sym same) refl) rest

pub globals_apart : (s : State) → IsLawful s → Sound None s → AllPairs (λ g h. g.name ≢ h.name) (module_in s).globals
globals_apart s lawful h = pairs_of_slots s lawful s.made.slots h.slots.apart

pub kinds_apart : (s : State) → IsLawful s → Sound None s → All (λ g. All (λ f. g.name ≢ f.name) s.made.functions) (module_in s).globals
kinds_apart s lawful h =
    all_flat (λ (g : GlobalValue). All (λ (f : FunctionValue). g.name ≢ f.name) s.made.functions) (global_in s) s.made.slots (λ i x e.
    All-weaker (λ (g : GlobalValue). IsSymbolOf s x g.name) (λ (g : GlobalValue). All (λ (f : FunctionValue). g.name ≢ f.name) s.made.functions) (λ g named.
    all_at (λ (f : FunctionValue). g.name ≢ f.name) s.made.functions (λ j f k same. never x g.name f (h.slots.there i x e) named (h.functions j f k) same)) (global_in s x) (slot_symbols s x))
  where
    never : (x : Slot) (symbol : Symbol) (f : FunctionValue) → IsThere s.types.linked s.made.hidden x → IsSymbolOf s x symbol → IsFunctionNamed s.types.linked f → symbol ≡ f.name → ⊥
    never (slot.Hidden k) symbol f there named function same = named_never_hidden function.1 k (sym function.3 ∙ (sym same ∙ named))
    never (slot.Named n) symbol f there named function same =
        let place : n ≡ function.0 =
        lawful.apart n function.0 named.0 function.1 named.1 function.2 (sym (symbol_text named.0) ∙ (ap text_of (sym named.2 ∙ (same ∙ function.3)) ∙ symbol_text function.1)) in
        let is : there.0 ≡ function.1 = some_same (sym there.1 ∙ (ap (slice_get s.types.linked) place ∙ function.2)) in
        no (sym there.2.1 ∙ (ap (λ (l : LinkedName). is_function (type_of l.ty)) is ∙ function.5))
