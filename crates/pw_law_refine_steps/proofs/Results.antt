-- The result of an expression stands in a temporary that its own code gave out.
use Rattle.std.proofs.Common.{◌≡◌, ◌≢◌, ℕ, suc, ◌+◌, ◌≤◌, ◌==◌, ◌&&◌, not, nat_lt, zero, get_or, inl, inr, Bool, true, false, true≢false, if◌then◌else◌, Option, Some, None, unwrap_or, List, [], ◌∷◌, refl, ap, sym, ◌∙◌, subst, arith, slice_get}
use Rattle.std.proofs.lemmas.List.Elements.{Contains-append_left, Contains-append_right}
use Rattle.pw_value.specs.declared.value.Kind.{Kind}
use Rattle.pw_types.specs.Kinds.{is_record}
use Rattle.std.proofs.lemmas.Option.{same_Some, slice_get_within, unwrap_or-slice_get}
use Rattle.pw_types.specs.TypeTrees.{CType, Void, Int, Pointer, Array, Record, QType, type_of, is_volatile, RecordValue}
use Rattle.pw_types.specs.TypeTrees as types
use Rattle.pw_types.specs.TypedTrees.{Expression, Node, type_at, Number, Str, Local, Global, Function, Unary, Binary, Logic, Cond, Comma, Assign, Compound, Step, Cast, Decay, Member, Deref, Address, Call, CallValue, Hidden, LocalValue}
use Rattle.pw_types.specs.WellTyped.{promoted_type, IsTyped, HasForm, FitsCast, Decays, IsPromoted, type_in}
use Rattle.pw_types.specs.declared.tree.UnaryOperator.TheVariants as unary
use Rattle.pw_types.specs.declared.tree.BinaryOperator.{BinaryOperator}
use Rattle.pw_types.specs.declared.tree.BinaryOperator.TheVariants as binary
use Rattle.pw_types.specs.declared.tree.LogicOperator.TheVariants as logic
use Rattle.pw_flow.specs.declared.flow.Op.{Op}
use Rattle.pw_flow.specs.declared.flow.Op.TheVariants as op
use Rattle.pw_flow.specs.declared.flow.BinKind.{BinKind}
use Rattle.pw_flow.specs.declared.flow.BinKind.TheVariants.{Add, Sub, DivS, Eq}
use Rattle.pw_flow.specs.declared.flow.UnKind.TheVariants.{Neg, Not}
use Rattle.pw_flow.specs.declared.flow.ExtKind.{ExtKind}
use Rattle.pw_flow.specs.declared.flow.End.TheVariants.{Jump}
use Rattle.pw_lower.specs.declared.code.Code.{Code}
use Rattle.pw_lower.specs.declared.place.LocalPlace.{LocalPlace}
use Rattle.pw_lower.specs.declared.place.LocalPlace.TheVariants.{Temp, Slot}
use Rattle.pw_lower.specs.declared.place.Target.{Target}
use Rattle.pw_lower.specs.declared.place.Target.TheVariants.{Kept, Named, Led}
use Rattle.pw_lower.specs.Codes.{Lowered, lowered_as, temp_of, emit, fresh, constant, cut_here, value_is}
use Rattle.pw_lower.specs.Places.{is_scalar, is_kept, places_from, has, places_of, addressed_in, addressed_in_statement}
use Rattle.pw_lower.specs.Operators.{kind_of, with, scaled, moved_by, distance, on_numbers, operation_of, is_turned, sum_or, is_signed, target_size, extension, extending, extended, converted, combined, step_operator, is_behind}
use Rattle.pw_lower.specs.Expressions.{full_name, shape_at, read_target, read, further, address_of_local, value_at, value_of_global, value_of_local, stored, copied, scalar_kind, updated, fork, in_result, says, gives, is_void, lower, place, arguments}
use Rattle.pw_law_refine.specs.Activations.{Activation, home_of, place_in, HaveSlots}
use Rattle.pw_law_refine_steps.specs.Results.{HasNewResult}
use Rattle.pw_law_refine_steps.proofs.Spreading.{scaled-adds, stored-adds, updated-adds, lower-spreads, place-spreads, arguments-spread}

-- ---- steps

new : (o : ℕ → Op) (c d : Code) → c.temps ≤ d.temps → HasNewResult c (fresh o d)
new o c d h = record { result = d.temps; is = refl; since = h; given = omega arith }

since : (c d : Code) (y : Lowered) → c.temps ≤ d.temps → HasNewResult d y → HasNewResult c y
since c d y h n = record { result = n.result; is = n.is; since = omega (arith, h, n.since); given = n.given }

-- the same temporary behind more code
passes : (c : Code) (x y : Lowered) → HasNewResult c x → x.code.temps ≤ y.code.temps → y.temp ≡ Some (temp_of x) → HasNewResult c y
passes c x y n h e = record {
  result = n.result;
  is = e ∙ ap (λ (t : Option ℕ). Some (unwrap_or t 0)) n.is;
  since = n.since;
  given = omega (arith, n.given, h);
}

-- and the same result
follows : (c : Code) (x y : Lowered) → HasNewResult c x → x.code.temps ≤ y.code.temps → y.temp ≡ x.temp → HasNewResult c y
follows c x y n h e = record { result = n.result; is = e ∙ n.is; since = n.since; given = omega (arith, n.given, h) }

either : (c : Code) (v : Bool) (x y : Lowered) → HasNewResult c x → HasNewResult c y → HasNewResult c (if v then x else y)
either c true x y g h = g
either c false x y g h = h

with-new : (k : BinKind) (a : ℕ) (c : Code) (x : Lowered) → c.temps ≤ x.code.temps → HasNewResult c (with k a x)
with-new k a c x h = new (λ t. op.Bin k t a (temp_of x)) c x.code h

moved-new : (k : BinKind) (size p n : ℕ) (c : Code) → HasNewResult c (moved_by k size p n c)
moved-new k size p n c = with-new k p c (scaled size n c) (scaled-adds size n c).temps

distance-new : (size p q : ℕ) (c : Code) → HasNewResult c (distance size p q c)
distance-new size p q c =
    let x = fresh (λ t. op.Bin Sub t p q) c in
    either c (size == 1) x (with DivS (temp_of x) (constant size x.code)) (new (λ t. op.Bin Sub t p q) c c (omega arith))
    (with-new DivS (temp_of x) c (constant size x.code) (omega arith))

numbers-new : (o : BinaryOperator) (s : Bool) (p q : ℕ) (c : Code) → HasNewResult c (on_numbers o s p q c)
numbers-new o s p q c =
    either c (is_turned o) (fresh (λ t. op.Bin (operation_of o s) t q p) c) (fresh (λ t. op.Bin (operation_of o s) t p q) c)
    (new (λ t. op.Bin (operation_of o s) t q p) c c (omega arith)) (new (λ t. op.Bin (operation_of o s) t p q) c c (omega arith))

sum-new : (o : BinaryOperator) (s : Bool) (left right : Option ℕ) (p q : ℕ) (c : Code) → HasNewResult c (sum_or o s left right p q c)
sum-new binary.Add s (Some size) right p q c = moved-new Add size p q c
sum-new binary.Add s None (Some size) p q c = moved-new Add size q p c
sum-new binary.Add s None None p q c = numbers-new binary.Add s p q c
sum-new binary.Subtract s (Some size) (Some other) p q c = distance-new size p q c
sum-new binary.Subtract s (Some size) None p q c = moved-new Sub size p q c
sum-new binary.Subtract s None right p q c = numbers-new binary.Subtract s p q c
sum-new o s left right p q c = numbers-new o s p q c

extended-new : (k : Option ExtKind) (c : Code) (x : Lowered) → HasNewResult c x → c.temps ≤ x.code.temps → HasNewResult c (extended k (temp_of x) x.code)
extended-new None c x n h = passes c x (value_is (temp_of x) x.code) n (omega arith) refl
extended-new (Some k) c x n h = new (extending k (temp_of x)) c x.code h

converted-new : (from to : Option Kind) (c : Code) (x : Lowered) → HasNewResult c x → HasNewResult c (converted from to x)
converted-new None to c x n = n
converted-new (Some from) None c x n = n
converted-new (Some from) (Some to) c x n = extended-new (extension from to) c x n (omega (arith, n.since, n.given))

read-new : (k : Kind) (target : Target) (c : Code) → HasNewResult c (read_target k target c)
read-new k (Kept x) c = new (λ t. op.Copy t x) c c (omega arith)
read-new k (Named g) c = new (λ t. op.LoadG t g k) c c (omega arith)
read-new k (Led p) c = new (λ t. op.Load k t p) c c (omega arith)

value_at-new : (k : Option Kind) (c : Code) (x : Lowered) → HasNewResult c x → HasNewResult c (value_at k x)
value_at-new None c x n = n
value_at-new (Some k) c x n = since c x.code _ (omega (arith, n.since, n.given)) (read-new k (Led (temp_of x)) x.code)

further-new : (offset : ℕ) (c : Code) (x : Lowered) → HasNewResult c x → HasNewResult c (further offset x)
further-new offset c x n =
    either c (offset == 0) x (with Add (temp_of x) (constant offset x.code)) n
    (with-new Add (temp_of x) c (constant offset x.code) (omega (arith, n.since, n.given)))

updated-new : (records : List RecordValue) (o : BinaryOperator) (ty right : CType) (own : Kind) (target : Target) (old : ℕ) (c : Code) (x : Lowered) → c.temps ≤ x.code.temps → HasNewResult c (updated records o ty right own target old x)
updated-new records o ty right own target old c x h =
    let s = combined records o ty right old (temp_of x) x.code in
    let v = converted (kind_of ty) (Some own) s in
    follows c v (stored own target v)
    (converted-new (kind_of ty) (Some own) c s (since c x.code s h (sum-new o (is_signed ty) (target_size records ty) (target_size records right) old (temp_of x) x.code)))
    (stored-adds own target v).temps refl

void-test : (ty : CType) → ty ≢ Void → is_void ty ≡ false
void-test Void h = absurd (h refl)
void-test (Int k) h = refl
void-test (Pointer q) h = refl
void-test (Array q k) h = refl
void-test (types.Function r ps) h = refl
void-test (Record k) h = refl

called-new : (v : Bool) (o : Option ℕ → Op) (c d : Code) → v ≡ false → c.temps ≤ d.temps → HasNewResult c (if v then lowered_as None (emit (o None) d) else fresh (λ t. o (Some t)) d)
called-new true o c d e h = absurd (true≢false e)
called-new false o c d e h = new (λ t. o (Some t)) c d h

-- ---- types

unfoldable pub is_not_void : CType → Bool
is_not_void Void = false
is_not_void ty = true

pub named-type : (ty own : CType) → ty ≡ own → is_not_void own ≡ true → ty ≢ Void
unfolding is_not_void
named-type ty own e h v = true≢false (sym h ∙ ap is_not_void (sym e ∙ v))

cast-nonvoid : (from to : CType) → FitsCast from to → to ≢ Void → from ≢ Void
unfolding is_not_void
cast-nonvoid from Void f h = absurd (h refl)
cast-nonvoid Void (Int k) f h = absurd f
cast-nonvoid Void (Pointer q) f h = absurd f
cast-nonvoid (Int j) (Int k) f h = named-type (Int j) (Int j) refl refl
cast-nonvoid (Int j) (Pointer q) f h = named-type (Int j) (Int j) refl refl
cast-nonvoid (Pointer p) (Int k) f h = absurd f
cast-nonvoid (Pointer p) (Pointer q) f h = named-type (Pointer p) (Pointer p) refl refl
cast-nonvoid (Array p j) (Int k) f h = absurd f
cast-nonvoid (Array p j) (Pointer q) f h = absurd f
cast-nonvoid (types.Function r ps) (Int k) f h = absurd f
cast-nonvoid (types.Function r ps) (Pointer q) f h = absurd f
cast-nonvoid (Record j) (Int k) f h = absurd f
cast-nonvoid (Record j) (Pointer q) f h = absurd f
cast-nonvoid from (Array q k) f h = absurd f
cast-nonvoid from (types.Function r ps) f h = absurd f
cast-nonvoid from (Record k) f h = absurd f

decay-nonvoid : (a : Expression) (to : CType) → Decays a to → type_in a ≢ Void
unfolding is_not_void
decay-nonvoid a to (inl l) = named-type (type_in a) (Array l.1.0 l.1.1) l.1.2 refl
decay-nonvoid a to (inr r) = named-type (type_in a) (types.Function r.1.0 r.1.1) r.1.2 refl

-- ---- locals

is_there : Option Kind → Bool
is_there None = false
is_there (Some k) = true

scalar-kind : (ty : CType) → is_scalar ty ≡ true → kind_of ty ≢ None
unfolding is_there
scalar-kind (Int k) h = λ e. true≢false (ap is_there e)
scalar-kind (Pointer q) h = λ e. true≢false (ap is_there e)
scalar-kind Void h = absurd (true≢false (sym h))
scalar-kind (Array q k) h = absurd (true≢false (sym h))
scalar-kind (types.Function r ps) h = absurd (true≢false (sym h))
scalar-kind (Record k) h = absurd (true≢false (sym h))

is_temp : LocalPlace → Bool
is_temp (Temp t) = true
is_temp (Slot s) = false

both-left : (a b : Bool) → (a && b) ≡ true → a ≡ true
both-left true b h = refl
both-left false b h = absurd (true≢false (sym h))

-- the first place, and those behind it, by where the first local stands
first-kept : (b p : Bool) (k temp slot t : ℕ) (xs ys zs : List LocalPlace)
    → get_or (if b then (if p then Temp k ∷ xs else Temp temp ∷ ys) else Slot slot ∷ zs) 0 (Temp 0) ≡ Temp t → b ≡ true
unfolding is_temp
first-kept true p k temp slot t xs ys zs e = refl
first-kept false p k temp slot t xs ys zs e = absurd (true≢false (sym (ap is_temp e)))

later-kept : (b p : Bool) (k temp slot t i : ℕ) (xs ys zs : List LocalPlace) (R : Type 0)
    → (get_or xs i (Temp 0) ≡ Temp t → R) → (get_or ys i (Temp 0) ≡ Temp t → R) → (get_or zs i (Temp 0) ≡ Temp t → R)
    → get_or (if b then (if p then Temp k ∷ xs else Temp temp ∷ ys) else Slot slot ∷ zs) (suc i) (Temp 0) ≡ Temp t → R
later-kept true true k temp slot t i xs ys zs R f g h e = f e
later-kept true false k temp slot t i xs ys zs R f g h e = g e
later-kept false p k temp slot t i xs ys zs R f g h e = h e

-- a local in a temporary is a scalar
temp-scalar : (addressed : List ℕ) (params : ℕ) (locals : List LocalValue) (k temp slot i t : ℕ) (l : LocalValue)
    → slice_get locals i ≡ Some l → get_or (places_from addressed params k temp slot locals) i (Temp 0) ≡ Temp t → is_scalar (type_of l.ty) ≡ true
temp-scalar addressed params [] k temp slot i t l there e = absurd (omega (arith, slice_get_within [] i l there))
temp-scalar addressed params (own ∷ rest) k temp slot zero t l there e =
    let kept : is_kept addressed k own ≡ true = first-kept (is_kept addressed k own) (nat_lt k params) k temp slot t
    (places_from addressed params (k + 1) temp slot rest) (places_from addressed params (k + 1) (temp + 1) slot rest) (places_from addressed params (k + 1) temp (slot + 1) rest) e in
    subst (λ (l : LocalValue). is_scalar (type_of l.ty) ≡ true) (same_Some own l there) (both-left (is_scalar (type_of own.ty)) (not (is_volatile own.ty) && not (has k addressed)) kept)
temp-scalar addressed params (own ∷ rest) k temp slot (suc i) t l there e =
    later-kept (is_kept addressed k own) (nat_lt k params) k temp slot t i
    (places_from addressed params (k + 1) temp slot rest) (places_from addressed params (k + 1) (temp + 1) slot rest) (places_from addressed params (k + 1) temp (slot + 1) rest)
    (is_scalar (type_of l.ty) ≡ true)
    (temp-scalar addressed params rest (k + 1) temp slot i t l there) (temp-scalar addressed params rest (k + 1) (temp + 1) slot i t l there) (temp-scalar addressed params rest (k + 1) temp (slot + 1) i t l there) e

local-new : (kind : Option Kind) (p : LocalPlace) (c : Code) → ((t : ℕ) → p ≡ Temp t → kind ≢ None) → HasNewResult c (value_of_local kind p c)
local-new None (Temp t) c h = absurd (h t refl refl)
local-new (Some k) (Temp t) c h = read-new k (Kept t) c
local-new None (Slot s) c h = new (λ t. op.AddrSlot t s) c c (omega arith)
local-new (Some k) (Slot s) c h =
    let x = address_of_local (Slot s) c in since c x.code (read_target k (Led (temp_of x)) x.code) (omega arith) (read-new k (Led (temp_of x)) x.code)

global-new : (kind : Option Kind) (g : List ℕ) (c : Code) → HasNewResult c (value_of_global kind g c)
global-new None g c = new (λ t. op.AddrGlobal t g 0) c c (omega arith)
global-new (Some k) g c = read-new k (Named g) c

-- ---- forms by a test

cond-new : (v : Bool) (c : Code) (x : Lowered) (first second : Code → Lowered) → v ≡ false → c.temps ≤ x.code.temps
    → ((d : Code) → d.temps ≤ (first d).code.temps) → ((d : Code) → d.temps ≤ (second d).code.temps)
    → HasNewResult c
    (if v
    then (let f = fork 0 x in
    let yes = cut_here (Jump f.join) f.if_not (first f.code).code in
    lowered_as None (cut_here (Jump f.join) f.join (second yes).code))
    else (let f = fork 1 x in
    let yes = cut_here (Jump f.join) f.if_not (gives f.result (first f.code)) in
    in_result f.result (cut_here (Jump f.join) f.join (gives f.result (second yes)))))
cond-new true c x first second e h g k = absurd (true≢false e)
cond-new false c x first second e h g k =
    let f = fork 1 x in
    let yes = cut_here (Jump f.join) f.if_not (gives f.result (first f.code)) in
    record { result = x.code.temps; is = refl; since = h; given = omega (arith, g f.code, k yes) }

cast-new : (v : Bool) (from to : Option Kind) (c : Code) (x : Lowered) → v ≡ false → HasNewResult c x → HasNewResult c (if v then lowered_as None x.code else converted from to x)
cast-new true from to c x e n = absurd (true≢false e)
cast-new false from to c x e n = converted-new from to c x n

-- ---- expressions

pub results : (x : Activation) (a : Expression) (c : Code) → IsTyped x.home.tree x.function.locals a → HaveSlots x (addressed_in a) → type_in a ≢ Void → HasNewResult c (lower (home_of x) a c)
unfolding lower IsTyped HasForm is_not_void
results x (Node t ty (Number n)) c typed slots there = new (λ i. op.Const i n) c c (omega arith)
results x (Node t ty (Str k)) c typed slots there = new (λ i. op.AddrGlobal i (full_name x.home.name (Hidden k)) 0) c c (omega arith)
results x (Node t ty (Local k)) c typed slots there =
    let f = x.function in
    local-new (kind_of (type_of ty)) (place_in x k) c (λ i e.
    subst (λ (q : QType). kind_of (type_of q) ≢ None) typed.1.2 (scalar-kind (type_of typed.1.0.ty)
    (temp-scalar (addressed_in_statement f.body) f.params f.locals 0 f.params 0 k i typed.1.0 typed.1.1 (sym (unwrap_or-slice_get (places_of f) k (Temp 0)) ∙ e))))
results x (Node t ty (Global s)) c typed slots there = global-new (kind_of (type_of ty)) (full_name x.home.name s) c
results x (Node t ty (Function s)) c typed slots there = new (λ i. op.AddrFn i (full_name x.home.name s)) c c (omega arith)
results x (Node t ty (Unary unary.Plus a)) c typed slots there =
    let y = lower (home_of x) a c in
    passes c y (value_is (temp_of y) y.code) (results x a c typed.1.0 slots (λ e. subst IsPromoted e typed.1.1.0)) (omega arith) refl
results x (Node t ty (Unary unary.Minus a)) c typed slots there =
    let y = lower (home_of x) a c in new (λ i. op.Un Neg i (temp_of y)) c y.code (lower-spreads (home_of x) a c).temps
results x (Node t ty (Unary unary.Complement a)) c typed slots there =
    let y = lower (home_of x) a c in new (λ i. op.Un Not i (temp_of y)) c y.code (lower-spreads (home_of x) a c).temps
results x (Node t ty (Unary unary.Not a)) c typed slots there =
    let y = lower (home_of x) a c in with-new Eq (temp_of y) c (constant 0 y.code) (omega (arith, (lower-spreads (home_of x) a c).temps))
results x (Node t ty (Binary o a b)) c typed slots there =
    let h = home_of x in
    let y = lower h a c in
    let z = lower h b y.code in
    since c z.code _ (omega (arith, (lower-spreads h a c).temps, (lower-spreads h b y.code).temps))
    (sum-new o (is_signed (type_of (type_at a))) (target_size h.records (type_of (type_at a))) (target_size h.records (type_of (type_at b))) (temp_of y) (temp_of z) z.code)
results x (Node t ty (Logic logic.And a b)) c typed slots there =
    let h = home_of x in
    let y = lower h a c in
    let f = fork 1 y in
    record { result = y.code.temps; is = refl; since = (lower-spreads h a c).temps; given = omega (arith, (lower-spreads h b f.code).temps) }
results x (Node t ty (Logic logic.Or a b)) c typed slots there =
    let h = home_of x in
    let y = lower h a c in
    let f = fork 1 y in
    let yes = cut_here (Jump f.join) f.if_not (says f.result 1 f.code) in
    record { result = y.code.temps; is = refl; since = (lower-spreads h a c).temps; given = omega (arith, (lower-spreads h b yes).temps) }
results x (Node t ty (Cond a b d)) c typed slots there =
    let h = home_of x in
    cond-new (is_void (type_of ty)) c (lower h a c) (λ e. lower h b e) (λ e. lower h d e) (void-test (type_of ty) there) (lower-spreads h a c).temps
    (λ e. (lower-spreads h b e).temps) (λ e. (lower-spreads h d e).temps)
results x (Node t ty (Comma a b)) c typed slots there =
    let h = home_of x in
    let d = (lower h a c).code in
    since c d (lower h b d) (lower-spreads h a c).temps (results x b d typed.1.1 (λ k e. slots k (Contains-append_right (addressed_in a) (addressed_in b) k e)) (λ e. there (sym typed.1.2 ∙ e)))
results x (Node t ty (Assign a b)) c typed slots there =
    let h = home_of x in
    let y = lower h a c in
    let p = place h a c in
    let k = scalar_kind (type_of ty) in
    let z = lower h b y.code in
    let w = lower h b p.code in
    either c (is_record (type_of ty)) (copied h.records (type_of ty) (temp_of y) z) (stored k p.target w)
    (passes c y (copied h.records (type_of ty) (temp_of y) z) (results x a c typed.1.0 (λ i e. slots i (Contains-append_left (addressed_in a) (addressed_in b) i e)) (λ e. there (sym typed.1.3 ∙ e)))
    (lower-spreads h b y.code).temps refl)
    (follows c w (stored k p.target w)
    (since c p.code w (place-spreads h a c).temps (results x b p.code typed.1.1 (λ i e. slots i (Contains-append_right (addressed_in a) (addressed_in b) i e)) (λ e. there (sym typed.1.4 ∙ e))))
    (stored-adds k p.target w).temps refl)
results x (Node t ty (Compound o work a b)) c typed slots there =
    let h = home_of x in
    let p = place h a c in
    let k = scalar_kind (type_of ty) in
    let n = read-new k p.target p.code in
    let old = read k p in
    updated-new h.records o work (type_of (type_at b)) k p.target (temp_of old) c (lower h b old.code)
    (omega (arith, (place-spreads h a c).temps, n.since, n.given, (lower-spreads h b old.code).temps))
results x (Node t ty (Step o a)) c typed slots there =
    let h = home_of x in
    let p = place h a c in
    let k = scalar_kind (type_of ty) in
    let n = read-new k p.target p.code in
    let old = read k p in
    let one = constant 1 old.code in
    let z = updated h.records (step_operator o) (promoted_type (type_of ty)) Void k p.target (temp_of old) one in
    either c (is_behind o) (record z { temp = Some (temp_of old) }) z
    (passes c old (record z { temp = Some (temp_of old) }) (since c p.code old (place-spreads h a c).temps n)
    (omega (arith, (updated-adds h.records (step_operator o) (promoted_type (type_of ty)) Void k p.target (temp_of old) one).temps)) refl)
    (updated-new h.records (step_operator o) (promoted_type (type_of ty)) Void k p.target (temp_of old) c one (omega (arith, (place-spreads h a c).temps, n.since, n.given)))
results x (Node t ty (Cast a)) c typed slots there =
    cast-new (is_void (type_of ty)) (kind_of (type_in a)) (kind_of (type_of ty)) c (lower (home_of x) a c) (void-test (type_of ty) there)
    (results x a c typed.1.0 slots (cast-nonvoid (type_in a) (type_of ty) typed.1.1 there))
results x (Node t ty (Decay a)) c typed slots there = results x a c typed.1.0 slots (decay-nonvoid a (type_of ty) typed.1.1)
results x (Node t ty (Member a offset)) c typed slots there =
    value_at-new (kind_of (type_of ty)) c (further offset (lower (home_of x) a c))
    (further-new offset c (lower (home_of x) a c) (results x a c typed.1.0 slots (named-type (type_in a) (Record typed.1.1.number) typed.1.1.type_is refl)))
results x (Node t ty (Deref a)) c typed slots there =
    value_at-new (kind_of (type_of ty)) c (lower (home_of x) a c) (results x a c typed.1.0 slots (named-type (type_in a) (Pointer ty) typed.1.1 refl))
results x (Node t ty (Address (Node u own (Local k)))) c typed slots there =
    let s = slots k (0, omega arith, refl) in
    subst (λ (p : LocalPlace). HasNewResult c (address_of_local p c)) (sym s.1) (new (λ i. op.AddrSlot i s.0) c c (omega arith))
results x (Node t ty (Address (Node u own (Global s)))) c typed slots there = new (λ i. op.AddrGlobal i (full_name x.home.name s) 0) c c (omega arith)
results x (Node t ty (Address (Node u own (Deref a)))) c typed slots there =
    results x a c typed.1.0.1.0 slots (named-type (type_in a) (Pointer own) typed.1.0.1.1 refl)
results x (Node t ty (Address (Node u own (Member a offset)))) c typed slots there =
    further-new offset c (lower (home_of x) a c) (results x a c typed.1.0.1.0 slots (named-type (type_in a) (Record typed.1.0.1.1.number) typed.1.0.1.1.type_is refl))
results x (Node t ty (Address (Node u own (Str k)))) c typed slots there = new (λ i. op.AddrGlobal i (full_name x.home.name (Hidden k)) 0) c c (omega arith)
results x (Node t ty (Address (Node u own (Function s)))) c typed slots there = new (λ i. op.AddrFn i (full_name x.home.name s)) c c (omega arith)
results x (Node t ty (Address (Node u own form))) c typed slots there = elim typed.1.1 [
  | inl l ↦ absurd l
  | inr d ↦ absurd d.0
]
results x (Node t ty (Call s args)) c typed slots there =
    let xs = arguments (home_of x) args c in
    called-new (is_void (type_of ty)) (λ r. op.Call r (full_name x.home.name s) xs.temps) c xs.code (void-test (type_of ty) there) (arguments-spread (home_of x) args c).temps
results x (Node t ty (CallValue a args)) c typed slots there =
    let y = lower (home_of x) a c in
    let xs = arguments (home_of x) args y.code in
    called-new (is_void (type_of ty)) (λ r. op.CallInd r (temp_of y) (shape_at x.home.tree.records (type_at a)) xs.temps) c xs.code (void-test (type_of ty) there)
    (omega (arith, (lower-spreads (home_of x) a c).temps, (arguments-spread (home_of x) args y.code).temps))
