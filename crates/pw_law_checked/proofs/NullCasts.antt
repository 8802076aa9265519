-- Where a number is converted to a pointer, it is a null pointer constant (ISO C90 6.2.2.3): by assignments, comparisons and `?:`.
use Rattle.std.specs.Prelude.{◌≡◌, Bool, true, false, not, ◌&&◌, ◌||◌, refl}
use Rattle.std.proofs.Common.{sym, ◌∙◌}
use Rattle.pw_types.specs.TypeTrees.{CType, Void, Int, Pointer, Array, Function, Record, Qualified, type_of}
use Rattle.pw_types.specs.TypedTrees.{Expression, Node}
use Rattle.pw_check_rules.specs.Compatible.{compatible_types, qualified_within}
use Rattle.pw_check_rules.specs.Constants.{is_null_constant, is_zero_constant}
use Rattle.pw_check_rules.specs.Kinds.{is_integral, is_pointer, pointee, points_to_void, points_to_function}
use Rattle.pw_check_rules.specs.Operands.{promoted_type, type_in}
use Rattle.pw_check_rules.specs.Operators.{is_assignable, same_record, pointers_meet, mixes_pointer}
use Rattle.pw_law_checked.specs.Bounded.{IsNullTo}
use Rattle.pw_law_checked.proofs.Types.{no}

-- a null pointer constant that is a number is the constant 0
null_number : (e : Expression) → is_integral (type_in e) ≡ true → is_null_constant e ≡ true → is_zero_constant e ≡ true
null_number (Node t (Qualified (Int k) c v) form) i h = h
null_number (Node t (Qualified Void c v) form) i h = no i
null_number (Node t (Qualified (Pointer q) c v) form) i h = no i
null_number (Node t (Qualified (Array q n) c v) form) i h = no i
null_number (Node t (Qualified (Function q ps) c v) form) i h = no i
null_number (Node t (Qualified (Record n) c v) form) i h = no i

assigned_by : (to from : CType) (x y n : Bool)
    → ((is_integral to && is_integral from) || same_record to from || (is_pointer to && is_pointer from && x && y) || (is_pointer to && n)) ≡ true
    → is_pointer to ≡ true → is_integral from ≡ true → n ≡ true
assigned_by (Pointer q) (Int k) x y n h p i = h
assigned_by (Pointer q) Void x y n h p i = no i
assigned_by (Pointer q) (Pointer r) x y n h p i = no i
assigned_by (Pointer q) (Array r m) x y n h p i = no i
assigned_by (Pointer q) (Function r ps) x y n h p i = no i
assigned_by (Pointer q) (Record m) x y n h p i = no i
assigned_by Void from x y n h p i = no p
assigned_by (Int k) from x y n h p i = no p
assigned_by (Array q m) from x y n h p i = no p
assigned_by (Function q ps) from x y n h p i = no p
assigned_by (Record m) from x y n h p i = no p

-- a number that may be assigned to a pointer
pub assigned_null : (to : CType) (e : Expression) → is_assignable to e ≡ true → IsNullTo to e
assigned_null to e h = λ p i.
    null_number e i
    (assigned_by to (type_in e) (qualified_within (pointee (type_in e)) (pointee to))
    (compatible_types (type_of (pointee to)) (type_of (pointee (type_in e)))
    || (points_to_void to && not (points_to_function (type_in e)))
    || (points_to_void (type_in e) && not (points_to_function to)))
    (is_null_constant e) h p i)

met_by : (from : CType) (pb c fa fb vb na nb : Bool)
    → ((is_pointer from && pb && c) || (is_pointer from && not fa && vb) || (pb && not fb && points_to_void from) || (is_pointer from && nb) || (pb && na)) ≡ true
    → is_integral from ≡ true → na ≡ true
met_by (Int k) false c fa fb vb na nb h i = no h
met_by (Int k) true c fa false vb na nb h i = h
met_by (Int k) true c fa true vb na nb h i = h
met_by Void pb c fa fb vb na nb h i = no i
met_by (Pointer q) pb c fa fb vb na nb h i = no i
met_by (Array q m) pb c fa fb vb na nb h i = no i
met_by (Function q ps) pb c fa fb vb na nb h i = no i
met_by (Record m) pb c fa fb vb na nb h i = no i

-- a number that meets a pointer, on the left and on the right
pub left_null : (to : CType) (a b : Expression) → pointers_meet a b ≡ true → IsNullTo to a
left_null to a b h = λ p i.
    null_number a i
    (met_by (type_in a) (is_pointer (type_in b)) (compatible_types (type_of (pointee (type_in a))) (type_of (pointee (type_in b))))
    (points_to_function (type_in a)) (points_to_function (type_in b)) (points_to_void (type_in b)) (is_null_constant a) (is_null_constant b) h i)

met_right : (from : CType) (pa c fa fb va na nb : Bool)
    → ((pa && is_pointer from && c) || (pa && not fa && points_to_void from) || (is_pointer from && not fb && va) || (pa && nb) || (is_pointer from && na)) ≡ true
    → is_integral from ≡ true → nb ≡ true
met_right (Int k) false c fa fb va na nb h i = no h
met_right (Int k) true c false fb va na true h i = refl
met_right (Int k) true c true fb va na true h i = refl
met_right (Int k) true c false fb va na false h i = no h
met_right (Int k) true c true fb va na false h i = no h
met_right Void pa c fa fb va na nb h i = no i
met_right (Pointer q) pa c fa fb va na nb h i = no i
met_right (Array q m) pa c fa fb va na nb h i = no i
met_right (Function q ps) pa c fa fb va na nb h i = no i
met_right (Record m) pa c fa fb va na nb h i = no i

pub right_null : (to : CType) (a b : Expression) → pointers_meet a b ≡ true → IsNullTo to b
right_null to a b h = λ p i.
    null_number b i
    (met_right (type_in b) (is_pointer (type_in a)) (compatible_types (type_of (pointee (type_in a))) (type_of (pointee (type_in b))))
    (points_to_function (type_in a)) (points_to_function (type_in b)) (points_to_void (type_in a)) (is_null_constant a) (is_null_constant b) h i)

-- promotion makes no pointer of a number
pub promoted_null : (e : Expression) → IsNullTo (promoted_type (type_in e)) e
promoted_null e = by (type_in e)
  where
    by : (ty : CType) → is_pointer (promoted_type ty) ≡ true → is_integral ty ≡ true → is_zero_constant e ≡ true
    by (Int k) p i = no p
    by Void p i = no i
    by (Pointer q) p i = no i
    by (Array q n) p i = no i
    by (Function q ps) p i = no i
    by (Record n) p i = no i

-- to what is no pointer everything may be converted
pub to_number : (to : CType) (e : Expression) → is_pointer to ≡ false → IsNullTo to e
to_number to e h = λ p i. no (sym h ∙ p)

-- what a cast converts, where it mixes no pointer with a number
mixed_by : (to from : CType) (z : Bool) → not ((is_integral to && is_pointer from) || (is_pointer to && is_integral from && not z)) ≡ true
    → is_pointer to ≡ true → is_integral from ≡ true → z ≡ true
mixed_by (Pointer q) (Int k) true h p i = refl
mixed_by (Pointer q) (Int k) false h p i = no h
mixed_by (Pointer q) Void z h p i = no i
mixed_by (Pointer q) (Pointer r) z h p i = no i
mixed_by (Pointer q) (Array r m) z h p i = no i
mixed_by (Pointer q) (Function r ps) z h p i = no i
mixed_by (Pointer q) (Record m) z h p i = no i
mixed_by Void from z h p i = no p
mixed_by (Int k) from z h p i = no p
mixed_by (Array q m) from z h p i = no p
mixed_by (Function q ps) from z h p i = no p
mixed_by (Record m) from z h p i = no p

pub cast_null : (to : CType) (e : Expression) → not (mixes_pointer to e) ≡ true → IsNullTo to e
cast_null to e h = mixed_by to (type_in e) (is_zero_constant e) h
