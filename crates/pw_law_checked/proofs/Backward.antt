-- What the names of a state stand for, backward over what is declared behind it: at a module's end they stand for what the
-- module has, so they did at each place before.
use Rattle.std.specs.Prelude.{ℕ, zero, suc, ◌≡◌, ◌⊎◌, Bool, true, false, Option, None, Some, List, [], ◌∷◌, ◌++◌, flat_map, slice_get, Contains, if◌then◌else◌, refl}
use Rattle.std.specs.Option.{option_map_or}
use Rattle.std.proofs.Common.{ap, sym, subst, ◌∙◌, inl, inr}
use Rattle.std.proofs.lemmas.Option.{slice_get-get_or}
use Rattle.pw_types.specs.TypeTrees.{Void, Int, Pointer, Array, Function, Record, QType, Qualified, type_of}
use Rattle.pw_types.specs.TypedTrees.{Symbol, External, Internal, Hidden, ModuleValue, LocalValue}
use Rattle.pw_types.specs.WellTyped.{IsDeclared, IsDefined, IsObject, IsFunctionOf}
use Rattle.pw_check_rules.specs.Kinds.{is_function}
use Rattle.pw_check_rules.specs.Linkage.{symbol_at, symbol_of_linked}
use Rattle.pw_check_rules.specs.Modules.{global_in, hidden_global, module_in, named_global}
use Rattle.pw_check_rules.specs.States.{State, LinkedName, Entity, TypeName, EnumerationConstant, LocalObject, StaticObject, Linked, HiddenObject}
use Rattle.pw_check_rules.specs.declared.names.Entry.{Entry}
use Rattle.pw_check_rules.specs.declared.names.Slot.{Slot}
use Rattle.pw_check_rules.specs.declared.names.Slot.TheVariants as slot
use Rattle.pw_law_checked.specs.Lawful.{IsLawful, Extends, Denotes, StandsFor, IsNamed, HasLocal}
use Rattle.pw_law_checked.proofs.Lists.{some_same, never_some, get_append}
use Rattle.pw_law_checked.proofs.Types.{no, extends_same, extends_trans}
use Rattle.pw_law_checked.proofs.Composite.{Covers, covers_same, covered_agree, agree_back}
use Rattle.pw_law_checked.proofs.Sound.{Sound, Filling, is_stored}
use Rattle.pw_law_checked.proofs.Keeping.{AfterBy, Later, Keeps, StaysAt, Pending}
use Rattle.pw_law_checked.proofs.Settled.{symbol_continues}
use Rattle.pw_law_checked.proofs.Ending.{contains_at, declared_as, final_covers}

-- the names of the state stand for what the module has
pub record Names (s : State) (m : ModuleValue) : Type 0 where
  pub records : Extends s.types.records m.records
  pub strings : (k : ℕ) (h : HiddenObject) → slice_get s.made.hidden k ≡ Some h → IsDefined m (Hidden k) h.ty
  pub entities : (k : ℕ) (e : Entity) → slice_get s.scopes.entities k ≡ Some e → StandsFor s m e

-- with them and the locals, where it counts, the state denotes the module and the locals
pub names_denote : (s : State) (m : ModuleValue) (locals : List LocalValue) → Names s m → s.made.counting ≡ true
    → ((i : ℕ) (e : List ℕ × Entry) (k : ℕ) (q : QType) (register : Bool) → slice_get s.scopes.ordinary i ≡ Some e
    → slice_get s.scopes.entities e.1.place ≡ Some (LocalObject k q register) → HasLocal locals k q)
    → Denotes s m locals
names_denote s m locals n counting local =
    record { counting = counting; records = n.records; strings = n.strings; entities = n.entities; locals_are = local }

-- ---- what covers a type

defined_covered : (m : ModuleValue) (symbol : Symbol) (r q : QType) → Covers r q → IsDefined m symbol r → IsDefined m symbol q
defined_covered m symbol r q x d = record { object = d.object; there = d.there; name_is = d.name_is; agrees = agree_back m.records d.object.ty q r x d.agrees }

shared_covered : (m : ModuleValue) (name : List ℕ) (r q : QType) → Covers r q → IsDeclared m name r → IsDeclared m name q
shared_covered m name r q x d = record { entry = d.entry; there = d.there; name_is = d.name_is; agrees = agree_back m.records d.entry.ty q r x d.agrees }

object_covered : (m : ModuleValue) (symbol : Symbol) (r q : QType) → Covers r q → IsObject m symbol r → IsObject m symbol q
object_covered m (External name) r q x d = shared_covered m name r q x d
object_covered m (Internal name) r q x d = defined_covered m (Internal name) r q x d
object_covered m (Hidden k) r q x d = defined_covered m (Hidden k) r q x d

function_covered : (m : ModuleValue) (symbol : Symbol) (r q : QType) → Covers r q → IsFunctionOf m symbol r → IsFunctionOf m symbol q
function_covered m (External name) r q x d = shared_covered m name r q x d
function_covered m (Internal name) r q x d = λ f there named. agree_back m.records f.ty q r x (d f there named)
function_covered m (Hidden k) r q x d = absurd d

as_object : (m : ModuleValue) (symbol : Symbol) (q : QType) → is_function (type_of q) ≡ false → IsNamed m symbol q → IsObject m symbol q
as_object m symbol (Qualified (Function a ps) c v) e h = no (sym e)
as_object m symbol (Qualified Void c v) e h = h
as_object m symbol (Qualified (Int k) c v) e h = h
as_object m symbol (Qualified (Pointer p) c v) e h = h
as_object m symbol (Qualified (Array p n) c v) e h = h
as_object m symbol (Qualified (Record n) c v) e h = h

of_object : (m : ModuleValue) (symbol : Symbol) (q : QType) → is_function (type_of q) ≡ false → IsObject m symbol q → IsNamed m symbol q
of_object m symbol (Qualified (Function a ps) c v) e h = no (sym e)
of_object m symbol (Qualified Void c v) e h = h
of_object m symbol (Qualified (Int k) c v) e h = h
of_object m symbol (Qualified (Pointer p) c v) e h = h
of_object m symbol (Qualified (Array p n) c v) e h = h
of_object m symbol (Qualified (Record n) c v) e h = h

as_function : (m : ModuleValue) (symbol : Symbol) (q : QType) → is_function (type_of q) ≡ true → IsNamed m symbol q → IsFunctionOf m symbol q
as_function m symbol (Qualified (Function a ps) c v) e h = h
as_function m symbol (Qualified Void c v) e h = no e
as_function m symbol (Qualified (Int k) c v) e h = no e
as_function m symbol (Qualified (Pointer p) c v) e h = no e
as_function m symbol (Qualified (Array p n) c v) e h = no e
as_function m symbol (Qualified (Record n) c v) e h = no e

of_function : (m : ModuleValue) (symbol : Symbol) (q : QType) → is_function (type_of q) ≡ true → IsFunctionOf m symbol q → IsNamed m symbol q
of_function m symbol (Qualified (Function a ps) c v) e h = h
of_function m symbol (Qualified Void c v) e h = no e
of_function m symbol (Qualified (Int k) c v) e h = no e
of_function m symbol (Qualified (Pointer p) c v) e h = no e
of_function m symbol (Qualified (Array p n) c v) e h = no e
of_function m symbol (Qualified (Record n) c v) e h = no e

named_covered : (m : ModuleValue) (symbol : Symbol) (r q : QType) → Covers r q → IsNamed m symbol r → IsNamed m symbol q
named_covered m symbol r q x h = by (is_function (type_of q)) refl
  where
    by : (b : Bool) → is_function (type_of q) ≡ b → IsNamed m symbol q
    by true e = of_function m symbol q e (function_covered m symbol r q x (as_function m symbol r (x.function ∙ e) h))
    by false e = of_object m symbol q e (object_covered m symbol r q x (as_object m symbol r (x.function ∙ e) h))

-- ---- backward

back_by : (p : Option Slot) (s t : State) (m : ModuleValue) → Extends s.types.records t.types.records
    → ((place : ℕ) (x : LinkedName) → slice_get s.types.linked place ≡ Some x → StaysAt t place x)
    → Filling s.made.hidden t.made.hidden → Keeps s.scopes.entities t.scopes.entities → Sound p s → Names t m → Names s m
back_by p s t m extends names hidden keeps h n = record {
  records = extends_trans extends n.records;
  strings = λ k x e. let y = hidden k x e in defined_covered m (Hidden k) y.0.ty x.ty y.2 (n.strings k y.0 y.1);
  entities = λ k e f. by k e f;
}
  where
    by : (k : ℕ) (e : Entity) → slice_get s.scopes.entities k ≡ Some e → StandsFor s m e
    by k (TypeName q) f = tt
    by k (EnumerationConstant v) f = tt
    by k (LocalObject v q register) f = tt
    by k (StaticObject v q) f =
        let y = keeps k (StaticObject v q) f in
        let b = y.2 in
        defined_covered m (Hidden v) b.0 q b.2 (subst (StandsFor t m) b.1 (n.entities k y.0 y.1))
    by k (Linked v q) f =
        let y = keeps k (Linked v q) f in
        let b = y.2 in
        let l = h.backed k (Linked v q) f in
        let later = names v l.0 l.1 in
        let same : symbol_at t v ≡ symbol_at s v =
        ap (λ o. option_map_or symbol_of_linked o (External [])) later.1
        ∙ (symbol_continues l.0 later.0 later.2 ∙ sym (ap (λ o. option_map_or symbol_of_linked o (External [])) l.1)) in
        subst (λ x. IsNamed m x q) same (named_covered m (symbol_at t v) b.0 q b.2 (subst (StandsFor t m) b.1 (n.entities k y.0 y.1)))

-- within a function, and through declarations
pub names_back : {p q : Pending} {s t : State} (m : ModuleValue) → AfterBy p q s t → Sound p.0 s → Names t m → Names s m
names_back {p} {q} {s} {t} m a h n = back_by p.0 s t m a.extends a.names a.hidden (a.entities h) h n

-- through external declarations
pub names_later_back : {s t : State} (m : ModuleValue) → Later s t → Sound None s → Names t m → Names s m
names_later_back {s} {t} m a h n = back_by None s t m a.extends a.names a.hidden (a.entities h) h n

-- ---- at the module's end

get_behind : {X : Type 0} (xs ys : List X) (k : ℕ) (y : X) → slice_get ys k ≡ Some y → (n : ℕ) × (slice_get (xs ++ ys) n ≡ Some y)
get_behind [] ys k y e = (k, e)
get_behind (x ∷ xs) ys k y e = let r = get_behind xs ys k y e in (suc r.0, r.1)

pub get_flat : {X Y : Type 0} (f : X → List Y) (xs : List X) (i : ℕ) (x : X) (j : ℕ) (y : Y) → slice_get xs i ≡ Some x → slice_get (f x) j ≡ Some y
    → (k : ℕ) × (slice_get (flat_map f xs) k ≡ Some y)
get_flat f [] i x j y e g = never_some e
get_flat f (z ∷ xs) zero x j y e g = (j, get_append (f z) (flat_map f xs) j y (subst (λ w. slice_get (f w) j ≡ Some y) (sym (some_same e)) g))
get_flat f (z ∷ xs) (suc i) x j y e g = let r = get_flat f xs i x j y e g in get_behind (f z) (flat_map f xs) r.0 y r.1

-- each object without a name is defined
hidden_defined : (t : State) (k : ℕ) (x : HiddenObject) (q : QType) → Sound None t → slice_get t.made.hidden k ≡ Some x → Covers x.ty q → IsDefined (module_in t) (Hidden k) q
hidden_defined t k x q h at covers =
    let i = h.slots.strings k x at in
    let r = get_flat (global_in t) t.made.slots i.0 (slot.Hidden k) 0 (hidden_global k x) i.1 (ap (λ o. slice_get (option_map_or (λ (z : HiddenObject). hidden_global k z ∷ []) o []) 0) at) in
    record {
      object = hidden_global k x;
      there = contains_at (module_in t).globals r.0 (hidden_global k x) r.1;
      name_is = refl;
      agrees = covered_agree t.types.records x.ty x.ty q (covers_same x.ty) covers;
    }

-- and so is each object of internal linkage
internal_defined : (t : State) (n : ℕ) (l : LinkedName) (q : QType) → IsLawful t → Sound None t → slice_get t.types.linked n ≡ Some l → l.internal ≡ true → is_function (type_of l.ty) ≡ false → Covers l.ty q
    → IsDefined (module_in t) (Internal l.name) q
internal_defined t n l q lawful h at inner object covers = by (h.slots.internal n l at inner object)
  where
    by : (None ≡ Some (slot.Named n)) ⊎ (is_stored l ≡ true) → IsDefined (module_in t) (Internal l.name) q
    by (inl e) = never_some e
    by (inr stored) =
        let i = h.slots.named n l at (stored, object) in
        let r = get_flat (global_in t) t.made.slots i.0 (slot.Named n) 0 (named_global t l) i.1 (ap (λ o. slice_get (option_map_or (λ (z : LinkedName). named_global t z ∷ []) o []) 0) at) in
        record {
          object = named_global t l;
          there = contains_at (module_in t).globals r.0 (named_global t l) r.1;
          name_is = ap (λ b. if b then Internal l.name else External l.name) inner;
          agrees = covered_agree t.types.records l.ty (named_global t l).ty q (final_covers t n l lawful h at) covers;
        }

contained_at : {X : Type 0} (xs : List X) (x : X) → Contains xs x → (k : ℕ) × (slice_get xs k ≡ Some x)
contained_at xs x c = (c.0, slice_get-get_or xs c.0 x c.1 ∙ ap Some c.2)

text_of : Symbol → List ℕ
text_of (External name) = name
text_of (Internal name) = name
text_of (Hidden k) = []

internal_text : (l : LinkedName) (name : List ℕ) → symbol_of_linked l ≡ Internal name → l.name ≡ name
unfolding text_of
internal_text l name e = by l.internal e
  where
    by : (b : Bool) → (if b then Internal l.name else External l.name) ≡ Internal name → l.name ≡ name
    by true f = ap text_of f
    by false f = ap text_of f

internal_function : (t : State) (n : ℕ) (l : LinkedName) (q : QType) → IsLawful t → Sound None t → slice_get t.types.linked n ≡ Some l → Covers l.ty q → IsFunctionOf (module_in t) (Internal l.name) q
internal_function t n l q lawful h at covers = λ f there named.
    let k = contained_at t.made.functions f there in
    let x = h.functions k.0 f k.1 in
    let same : x.0 ≡ n = lawful.apart x.0 n x.1 l x.2 at (internal_text x.1 l.name (sym x.3 ∙ named)) in
    let is : x.1 ≡ l = some_same (sym x.2 ∙ (ap (slice_get t.types.linked) same ∙ at)) in
    covered_agree t.types.records l.ty f.ty q (subst (λ (w : LinkedName). Covers w.ty f.ty) is x.4) covers

pub names_end : (t : State) → IsLawful t → Sound None t → Names t (module_in t)
names_end t lawful h = record {
  records = extends_same t.types.records;
  strings = λ k x e. hidden_defined t k x x.ty h e (covers_same x.ty);
  entities = λ k e f. by k e f;
}
  where
    linked : (n : ℕ) (l : LinkedName) (q : QType) → slice_get t.types.linked n ≡ Some l → Covers l.ty q → IsNamed (module_in t) (symbol_of_linked l) q
    linked n l q at covers = by_kind (is_function (type_of q)) refl
      where
        object : (b : Bool) → l.internal ≡ b → is_function (type_of q) ≡ false → IsObject (module_in t) (if b then Internal l.name else External l.name) q
        object true e f = internal_defined t n l q lawful h at e (covers.function ∙ f) covers
        object false e f = declared_as t n l q at e covers

        function : (b : Bool) → l.internal ≡ b → IsFunctionOf (module_in t) (if b then Internal l.name else External l.name) q
        function true e = internal_function t n l q lawful h at covers
        function false e = declared_as t n l q at e covers

        by_kind : (b : Bool) → is_function (type_of q) ≡ b → IsNamed (module_in t) (symbol_of_linked l) q
        by_kind true e = of_function (module_in t) (symbol_of_linked l) q e (function l.internal refl)
        by_kind false e = of_object (module_in t) (symbol_of_linked l) q e (object l.internal refl e)

    by : (k : ℕ) (e : Entity) → slice_get t.scopes.entities k ≡ Some e → StandsFor t (module_in t) e
    by k (TypeName q) f = tt
    by k (EnumerationConstant v) f = tt
    by k (LocalObject v q register) f = tt
    by k (StaticObject v q) f = let x = h.backed k (StaticObject v q) f in hidden_defined t v x.0 q h x.1 x.2
    by k (Linked v q) f =
        let x = h.backed k (Linked v q) f in
        subst (λ y. IsNamed (module_in t) y q) (sym (ap (λ o. option_map_or symbol_of_linked o (External [])) x.1)) (linked v x.0 q x.1 x.2)
