-- What may be assigned, and null pointer constants: the tests are the relations.
use Rattle.std.specs.Prelude.{ℕ, ◌≡◌, ◌⊎◌, ◌==◌, Bool, true, false, not, ◌&&◌, ◌||◌, Option, None, Some, refl}
use Rattle.std.proofs.Common.{arith, ap, sym, ◌∙◌, inl, inr}
use Rattle.std.proofs.lemmas.Bool.{eqb-true, eq-eqb}
use Rattle.pw_types.specs.declared.kind.IntKind.{IntKind}
use Rattle.pw_types.specs.TypeTrees.{CType, Void, Int, Pointer, Function, Record, QType, Qualified, type_of, is_constant, is_volatile}
use Rattle.pw_types.specs.TypedTrees.{Expression, Node, type_at}
use Rattle.pw_types.specs.TypedTrees as T
use Rattle.pw_check_rules.specs.Compatible.{compatible_types, qualified_within}
use Rattle.pw_check_rules.specs.Constants.{constant_of, constant_value, is_zero, is_null_constant}
use Rattle.pw_check_rules.specs.Judgements.{CompatibleTypes, IsIntegral, NullPointerConstant, Zero, ZeroAsVoidPointer, QualifiedWithin, Assignable, Arithmetic, SameRecord, CompatiblePointers, ToVoidPointer, FromVoidPointer, NullPointer}
use Rattle.pw_check_rules.specs.Kinds.{is_integral, is_pointer, is_void, is_function, points_to_function, points_to_void, pointee}
use Rattle.pw_types.specs.WellTyped.{type_in, IsFunctionType}
use Rattle.pw_check_rules.specs.Operators.{is_assignable, same_record}
use Rattle.pw_check_rules.proofs.Booleans.{no, both, left, right, one_of, first, second, opposite}
use Rattle.pw_check_rules.proofs.CompatibleLaws.{types_forth, types_back}

-- ---- null pointer constants

zero_back : (n : Option ℕ) → is_zero n ≡ true → n ≡ Some 0
zero_back None e = no e
zero_back (Some n) e = ap Some (eqb-true n 0 e)

zero_forth : (n : Option ℕ) → n ≡ Some 0 → is_zero n ≡ true
zero_forth n e = sym (ap is_zero (sym e))

pub null_back : (e : Expression) → is_null_constant e ≡ true → NullPointerConstant e
null_back (Node t (Qualified (Pointer (Qualified Void false false)) c v) (T.Cast a)) h =
    ZeroAsVoidPointer t c v a (zero_back (constant_value a) h) refl
null_back e h = Zero (zero_back (constant_value e) h)

none_zero : (n : ℕ) → None ≡ Some n → false ≡ true
none_zero n e = grind arith

zero_null : (e : Expression) → constant_value e ≡ Some 0 → is_null_constant e ≡ true
unfolding constant_of
zero_null (Node t (Qualified (Pointer (Qualified Void false false)) c v) (T.Cast a)) h = no (none_zero 0 h)
zero_null e h = zero_forth (constant_value e) h

cast_null : (t : ℕ) (c v : Bool) (a : Expression) → constant_value a ≡ Some 0
    → is_null_constant (Node t (Qualified (Pointer (Qualified Void false false)) c v) (T.Cast a)) ≡ true
cast_null t c v a h = zero_forth (constant_value a) h

pub null_forth : (e : Expression) → NullPointerConstant e → is_null_constant e ≡ true
null_forth e (Zero h) = zero_null e h
null_forth e (ZeroAsVoidPointer t c v a h same) = ap is_null_constant same ∙ cast_null t c v a h

-- ---- types

integral_back : (ty : CType) → is_integral ty ≡ true → IsIntegral ty
integral_back (Int kind) e = (kind, refl)
integral_back _ e = no e

pointer_back : (ty : CType) → is_pointer ty ≡ true → (q : QType) × (ty ≡ Pointer q)
pointer_back (Pointer q) e = (q, refl)
pointer_back _ e = no e

record_back : (a b : CType) → same_record a b ≡ true → (n : ℕ) × (a ≡ Record n) × (b ≡ Record n)
record_back (Record n) (Record m) e = (n, refl, ap Record (sym (eqb-true n m e)))
record_back _ _ e = no e

record_forth : (n : ℕ) → same_record (Record n) (Record n) ≡ true
record_forth n = eq-eqb n n refl

void_back : (ty : CType) → is_void ty ≡ true → ty ≡ Void
void_back Void e = refl
void_back _ e = no e

no_function_back : (ty : CType) → is_function ty ≡ false → IsFunctionType ty → ⊥
no_function_back ty e (result, ps, same) = no (sym e ∙ ap is_function same)

no_function_forth : (ty : CType) → (IsFunctionType ty → ⊥) → is_function ty ≡ false
no_function_forth (Function result ps) h = absurd (h (result, ps, refl))
no_function_forth _ h = refl

implies_back : (a b : Bool) → (not a || b) ≡ true → a ≡ true → b ≡ true
implies_back true b e h = e
implies_back false b e h = grind arith

implies_forth : (a b : Bool) → (a ≡ true → b ≡ true) → (not a || b) ≡ true
implies_forth true b h = h refl
implies_forth false b h = refl

within_back : (a b : QType) → qualified_within a b ≡ true → QualifiedWithin a b
within_back a b e = (
  implies_back (is_constant a) (is_constant b) (left (not (is_constant a) || is_constant b) (not (is_volatile a) || is_volatile b) e),
  implies_back (is_volatile a) (is_volatile b) (right (not (is_constant a) || is_constant b) (not (is_volatile a) || is_volatile b) e),
)

within_forth : (a b : QType) → QualifiedWithin a b → qualified_within a b ≡ true
within_forth a b h =
    both (not (is_constant a) || is_constant b) (not (is_volatile a) || is_volatile b)
    (implies_forth (is_constant a) (is_constant b) h.0) (implies_forth (is_volatile a) (is_volatile b) h.1)

-- ---- pointers

-- the test of two pointers by what they point to
pointers_by : QType → QType → Bool
pointers_by q r =
    compatible_types (type_of q) (type_of r)
    || (is_void (type_of q) && not (is_function (type_of r)))
    || (is_void (type_of r) && not (is_function (type_of q)))

pub data Points (q r : QType) : Type 0 where
  Alike : CompatibleTypes (type_of q) (type_of r) → Points q r
  ToVoid : type_of q ≡ Void → (IsFunctionType (type_of r) → ⊥) → Points q r
  FromVoid : type_of r ≡ Void → (IsFunctionType (type_of q) → ⊥) → Points q r

points_back : (q r : QType) → pointers_by q r ≡ true → Points q r
unfolding pointers_by
points_back q r h = by_last (one_of (compatible_types (type_of q) (type_of r) || (is_void (type_of q) && not (is_function (type_of r)))) (is_void (type_of r) && not (is_function (type_of q))) h)
  where
    by_first : (compatible_types (type_of q) (type_of r) ≡ true) ⊎ ((is_void (type_of q) && not (is_function (type_of r))) ≡ true) → Points q r
    by_first (inl e) = Alike (types_back (type_of q) (type_of r) e)
    by_first (inr e) =
        ToVoid (void_back (type_of q) (left (is_void (type_of q)) (not (is_function (type_of r))) e))
        (no_function_back (type_of r) (opposite (is_function (type_of r)) (right (is_void (type_of q)) (not (is_function (type_of r))) e)))

    by_last : ((compatible_types (type_of q) (type_of r) || (is_void (type_of q) && not (is_function (type_of r)))) ≡ true) ⊎ ((is_void (type_of r) && not (is_function (type_of q))) ≡ true) → Points q r
    by_last (inl e) = by_first (one_of (compatible_types (type_of q) (type_of r)) (is_void (type_of q) && not (is_function (type_of r))) e)
    by_last (inr e) =
        FromVoid (void_back (type_of r) (left (is_void (type_of r)) (not (is_function (type_of q))) e))
        (no_function_back (type_of q) (opposite (is_function (type_of q)) (right (is_void (type_of r)) (not (is_function (type_of q))) e)))

not_true : (b : Bool) → b ≡ false → not b ≡ true
not_true true e = sym e
not_true false e = refl

points_forth : (q r : QType) → Points q r → pointers_by q r ≡ true
unfolding pointers_by
points_forth q r (Alike h) =
    first (compatible_types (type_of q) (type_of r) || (is_void (type_of q) && not (is_function (type_of r)))) (is_void (type_of r) && not (is_function (type_of q)))
    (first (compatible_types (type_of q) (type_of r)) (is_void (type_of q) && not (is_function (type_of r))) (types_forth h))
points_forth q r (ToVoid same h) =
    first (compatible_types (type_of q) (type_of r) || (is_void (type_of q) && not (is_function (type_of r)))) (is_void (type_of r) && not (is_function (type_of q)))
    (second (compatible_types (type_of q) (type_of r)) (is_void (type_of q) && not (is_function (type_of r)))
    (both (is_void (type_of q)) (not (is_function (type_of r))) (ap is_void same) (not_true (is_function (type_of r)) (no_function_forth (type_of r) h))))
points_forth q r (FromVoid same h) =
    second (compatible_types (type_of q) (type_of r) || (is_void (type_of q) && not (is_function (type_of r)))) (is_void (type_of r) && not (is_function (type_of q)))
    (both (is_void (type_of r)) (not (is_function (type_of q))) (ap is_void same) (not_true (is_function (type_of q)) (no_function_forth (type_of q) h)))

-- ---- assignment

-- the test by the types, and by whether the value is a null pointer constant
assignable_by : CType → CType → Bool → Bool
assignable_by to from null =
    (is_integral to && is_integral from)
    || same_record to from
    || (is_pointer to && is_pointer from && qualified_within (pointee from) (pointee to)
    && (compatible_types (type_of (pointee to)) (type_of (pointee from))
    || (points_to_void to && not (points_to_function from))
    || (points_to_void from && not (points_to_function to))))
    || (is_pointer to && null)

pointers_compute : (a b : CType) (c v d w null : Bool)
    → assignable_by (Pointer (Qualified a c v)) (Pointer (Qualified b d w)) null
    ≡ ((qualified_within (Qualified b d w) (Qualified a c v) && pointers_by (Qualified a c v) (Qualified b d w)) || null)
unfolding assignable_by pointers_by
pointers_compute a b c v d w null = refl

drop_false : (x : Bool) → (x || false) ≡ true → x ≡ true
drop_false true e = refl
drop_false false e = e

add_false : (x : Bool) → x ≡ true → (x || false) ≡ true
add_false true e = refl
add_false false e = e

last_true : (x : Bool) → (x || true) ≡ true
last_true true = refl
last_true false = refl

by_points : (q r : QType) (e : Expression) → type_in e ≡ Pointer r → QualifiedWithin r q → Points q r → Assignable (Pointer q) e
by_points q r e s w (Alike h) = CompatiblePointers q r refl s h w
by_points q r e s w (ToVoid same h) = ToVoidPointer q r refl s same h w
by_points q r e s w (FromVoid same h) = FromVoidPointer q r refl s same h w

by_pointers : (q r : QType) (e : Expression) → type_in e ≡ Pointer r
    → ((qualified_within r q && pointers_by q r) ≡ true) ⊎ (is_null_constant e ≡ true) → Assignable (Pointer q) e
by_pointers q r e s (inl h) =
    by_points q r e s (within_back r q (left (qualified_within r q) (pointers_by q r) h))
    (points_back q r (right (qualified_within r q) (pointers_by q r) h))
by_pointers q r e s (inr h) = NullPointer q refl (null_back e h)

back_by : (to from : CType) (e : Expression) → type_in e ≡ from → assignable_by to from (is_null_constant e) ≡ true → Assignable to e
unfolding assignable_by
back_by (Int k) (Int l) e s h = Arithmetic (k, refl) (l, s)
back_by (Record n) (Record m) e s h =
    SameRecord n refl (s ∙ ap Record (sym (eqb-true n m (drop_false (n == m) (drop_false ((n == m) || false) h)))))
back_by (Pointer (Qualified a c v)) (Pointer (Qualified b d w)) e s h =
    by_pointers (Qualified a c v) (Qualified b d w) e s
    (one_of (qualified_within (Qualified b d w) (Qualified a c v) && pointers_by (Qualified a c v) (Qualified b d w)) (is_null_constant e)
    (sym (pointers_compute a b c v d w (is_null_constant e)) ∙ h))
back_by (Pointer q) _ e s h = NullPointer q refl (null_back e h)
back_by _ _ e s h = no h

pub assignable_back : (to : CType) (e : Expression) → is_assignable to e ≡ true → Assignable to e
unfolding assignable_by
assignable_back to e h = back_by to (type_in e) e refl h

at_types : (to from : CType) (e : Expression) (to' from' : CType) → to ≡ to' → from ≡ from'
    → assignable_by to' from' (is_null_constant e) ≡ true → assignable_by to from (is_null_constant e) ≡ true
at_types to from e to' from' p q h =
    ap (λ x. assignable_by x from (is_null_constant e)) p ∙ (ap (λ x. assignable_by to' x (is_null_constant e)) q ∙ h)

pointers_case : (q r : QType) (null : Bool) → QualifiedWithin r q → Points q r → assignable_by (Pointer q) (Pointer r) null ≡ true
pointers_case (Qualified a c v) (Qualified b d w) null within h =
    pointers_compute a b c v d w null
    ∙ first (qualified_within (Qualified b d w) (Qualified a c v) && pointers_by (Qualified a c v) (Qualified b d w)) null
    (both (qualified_within (Qualified b d w) (Qualified a c v)) (pointers_by (Qualified a c v) (Qualified b d w))
    (within_forth (Qualified b d w) (Qualified a c v) within)
    (points_forth (Qualified a c v) (Qualified b d w) h))

integers_case : (k l : IntKind) (null : Bool) → assignable_by (Int k) (Int l) null ≡ true
unfolding assignable_by
integers_case k l null = refl

records_case : (n : ℕ) (null : Bool) → assignable_by (Record n) (Record n) null ≡ true
unfolding assignable_by
records_case n null = add_false ((n == n) || false) (add_false (n == n) (record_forth n))

null_case : (q : QType) (from : CType) → assignable_by (Pointer q) from true ≡ true
unfolding assignable_by
null_case q from = last_true _

pub assignable_forth : (to : CType) (e : Expression) → Assignable to e → is_assignable to e ≡ true
unfolding assignable_by
assignable_forth to e (Arithmetic (k, p) (l, q)) = at_types to (type_in e) e (Int k) (Int l) p q (integers_case k l (is_null_constant e))
assignable_forth to e (SameRecord n p q) = at_types to (type_in e) e (Record n) (Record n) p q (records_case n (is_null_constant e))
assignable_forth to e (CompatiblePointers q r p s h w) =
    at_types to (type_in e) e (Pointer q) (Pointer r) p s (pointers_case q r (is_null_constant e) w (Alike h))
assignable_forth to e (ToVoidPointer q r p s same h w) =
    at_types to (type_in e) e (Pointer q) (Pointer r) p s (pointers_case q r (is_null_constant e) w (ToVoid same h))
assignable_forth to e (FromVoidPointer q r p s same h w) =
    at_types to (type_in e) e (Pointer q) (Pointer r) p s (pointers_case q r (is_null_constant e) w (FromVoid same h))
assignable_forth to e (NullPointer q p h) =
    ap (λ x. assignable_by x (type_in e) (is_null_constant e)) p
    ∙ (ap (λ b. assignable_by (Pointer q) (type_in e) b) (null_forth e h) ∙ null_case q (type_in e))
