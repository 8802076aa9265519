-- The nodes that need places: assignments, steps, addresses and members; and numbers and casts.
use Rattle.std.specs.Prelude.{ℕ, suc, ◌≡◌, ◌-◌, ◌*◌, ◌%◌, ◌^◌, ◌<◌, ◌⊎◌, Bool, true, false, not, ◌&&◌, ◌||◌, nat_le, Option, None, Some, unwrap_or, option_and_then, List, [], ◌∷◌, find, zip, slice_get, cond, if◌then◌else◌, refl}
use Rattle.std.specs.List.{list_any}
use Rattle.std.specs.Str.{bytes_eq}
use Rattle.std.proofs.Common.{arith, ap, sym, subst, subst₂, ◌∙◌, inl, inr, mod-eq_of_lt}
use Rattle.pw_check_literals.specs.Integers.{integer_type, integer_value, types_of_constant, greatest_of_kind, is_decimal, is_unsigned_mark, is_long_mark}
use Rattle.pw_tree.specs.declared.operator.AssignOperator.{AssignOperator}
use Rattle.pw_tree.specs.declared.operator.AssignOperator.TheVariants as A
use Rattle.pw_types.specs.Conversions.{usual_of, converted, size_of_kind, is_signed_kind}
use Rattle.pw_types.specs.declared.kind.IntKind.{IntKind}
use Rattle.pw_types.specs.declared.kind.IntKind.TheVariants as K
use Rattle.pw_types.specs.declared.tree.BinaryOperator.TheVariants as B
use Rattle.pw_types.specs.declared.tree.BinaryOperator.{BinaryOperator as TypedOperator}
use Rattle.pw_types.specs.declared.tree.StepOperator.{StepOperator}
use Rattle.pw_types.specs.Layouts.{content_at}
use Rattle.pw_types.specs.TypeTrees.{CType, Void, Int, Pointer, Array, Function, Record, QType, Qualified, type_of, is_constant, is_volatile, MemberValue, ContentValue, RecordValue}
use Rattle.pw_types.specs.TypedTrees.{Expression, Node, Form, LocalValue, ModuleValue, token_of, type_at, form_of}
use Rattle.pw_types.specs.TypedTrees as T
use Rattle.pw_types.specs.WellTyped.{IsTyped, IsArithmetic, IsPromoted, IsScalar, IsComplete, PointsToObject, IsFunctionType, FitsCast, FitsCompound, WorksInCommon, WorksPromoted, MovesPointer, IsModifiable, type_in}
use Rattle.pw_value.specs.declared.value.Value.TheVariants.{Num}
use Rattle.pw_value.specs.Values.{extended}
use Rattle.pw_check_rules.specs.Constants.{is_null_constant}
use Rattle.pw_check_rules.specs.Kinds.{plain, unqualified, int_type, is_integral, is_pointer, is_scalar, is_void, is_array, is_function, is_record, is_complete, points_to_object, points_to_function, points_to_void, pointee, qualify, is_const_object, holds_const, is_free_of_const, members_of, innermost}
use Rattle.pw_check_rules.specs.Operands.{Operand, value_operand, cast_to, promote, common_type}
use Rattle.pw_check_rules.specs.Compatible.{compatible_types, qualified_within}
use Rattle.pw_check_rules.specs.Operators.{is_modifiable, can_step, fits_cast, mixes_pointer, same_record, is_assignable, compound_operator, compound_node, fits_sum, fits_compound, member_in, member_of, member_operand}
use Rattle.pw_law_checked.specs.Lawful.{IsLawfulType, IsObjectLike, HasLawfulMembers, AreWords, Extends}
use Rattle.pw_law_checked.proofs.States.{GoodOperand, GoodValue}
use Rattle.pw_law_checked.proofs.Lists.{some_same, never_some}
use Rattle.pw_law_checked.proofs.Types.{no, left, right, one_of, not_true, lawful_known, lawful_later, lawful_qualify, lawful_pointer, object_qualify, qualify_same, complete_later, is_complete_so}
use Rattle.pw_law_checked.proofs.Conversions.{integral_is, pointer_is, function_is, scalar_is, pointer_scalar, integral_arithmetic, no_function, promoted_twice, usual_promoted, usual_again, cast_type, cast_words, cast_typed, promote_type, promote_typed, same_typed, node_good}
use Rattle.pw_law_checked.proofs.Nodes.{null_scalar, points_so, records_are}

-- ---- numbers

extended_word : (b : Bool) (n : ℕ) → n < 2 ^ 32 → (if b then 2 ^ 32 - (256 ^ 4 - n) else n) ≡ n
extended_word true n h = omega (arith, h)
extended_word false n h = refl

pub word_kept : (k : IntKind) (n : ℕ) → size_of_kind k ≡ 4 → n < 2 ^ 32 → converted (Num n) k ≡ Num n
word_kept k n four h =
    ap (λ w. Num (extended w (is_signed_kind k) (n % 256 ^ w))) four
    ∙ (ap (λ x. Num (extended 4 (is_signed_kind k) x)) (mod-eq_of_lt h)
    ∙ ap Num (extended_word (is_signed_kind k && nat_le (256 ^ 4) (2 * n)) n h))

pub number_good : (m : ModuleValue) (locals : List LocalValue) (t : ℕ) (k : IntKind) (n : ℕ) → size_of_kind k ≡ 4 → n < 2 ^ 32
    → GoodOperand m locals (value_operand (Node t (plain (Int k)) (T.Number n)))
unfolding IsTyped
number_good m locals t k n four h = node_good m locals t (Int k) (T.Number n) tt (no_function (Int k) refl) (h, word_kept k n four h)

abbrev AllWide : List IntKind → Type 0
AllWide [] = Unit {0}
AllWide (k ∷ ks) = (size_of_kind k ≡ 4) × AllWide ks

find_wide : (p : IntKind → Bool) (ks : List IntKind) → AllWide ks → size_of_kind (unwrap_or (find p ks) K.Int) ≡ 4
find_wide p [] h = refl
find_wide p (k ∷ ks) h = by_test (p k) (find_wide p ks h.1)
  where
    by_test : (b : Bool) → size_of_kind (unwrap_or (find p ks) K.Int) ≡ 4 → size_of_kind (unwrap_or (cond b (Some k) (find p ks)) K.Int) ≡ 4
    by_test true rest = h.0
    by_test false rest = rest

types_wide : (d u l : Bool) → AllWide (types_of_constant d u l)
types_wide d true true = (refl, tt)
types_wide d true false = (refl, (refl, tt))
types_wide d false true = (refl, (refl, tt))
types_wide true false false = (refl, (refl, (refl, tt)))
types_wide false false false = (refl, (refl, (refl, (refl, tt))))

pub constant_wide : (text : List ℕ) → size_of_kind (unwrap_or (integer_type text) K.Int) ≡ 4
constant_wide text =
    find_wide (λ kind. nat_le (integer_value text) (greatest_of_kind kind))
    (types_of_constant (is_decimal text) (list_any is_unsigned_mark text) (list_any is_long_mark text))
    (types_wide (is_decimal text) (list_any is_unsigned_mark text) (list_any is_long_mark text))

-- ---- casts (6.3.4)

cast_fits : (to : CType) (e : Expression) → fits_cast to e ≡ true → not (mixes_pointer to e) ≡ true → FitsCast (type_in e) to
cast_fits Void e f g = tt
cast_fits (Int k) e f g =
    by_type (type_in e) (left (is_scalar (type_in e)) _ f) (not_first (is_pointer (type_in e)) _ g)
  where
    not_first : (x y : Bool) → not (x || y) ≡ true → x ≡ false
    not_first true y h = no h
    not_first false y h = refl

    by_type : (ty : CType) → is_scalar ty ≡ true → is_pointer ty ≡ false → IsArithmetic ty
    by_type (Int k) h i = tt
    by_type (Pointer q) h i = no (sym i)
    by_type _ h i = no h
cast_fits (Pointer q) e f g = scalar_is (type_in e) (left (is_scalar (type_in e)) _ f)
cast_fits (Array q n) e f g = no f
cast_fits (Function q ps) e f g = no f
cast_fits (Record n) e f g = no f

cast_object : (to : CType) (e : Expression) → fits_cast to e ≡ true → IsFunctionType to → ⊥
cast_object (Function q ps) e f h = no f
cast_object Void e f h = no_function Void refl h
cast_object (Int k) e f h = no_function (Int k) refl h
cast_object (Pointer q) e f h = no_function (Pointer q) refl h
cast_object (Array q n) e f h = no_function (Array q n) refl h
cast_object (Record n) e f h = no_function (Record n) refl h

pub cast_good : (m : ModuleValue) (locals : List LocalValue) (t : ℕ) (q : QType) (e : Expression) → GoodValue m locals e → IsLawfulType m.records (type_of q)
    → fits_cast (type_of q) e ≡ true → not (mixes_pointer (type_of q) e) ≡ true
    → GoodOperand m locals (value_operand (Node t (unqualified q) (T.Cast e)))
unfolding IsTyped
cast_good m locals t q e v lawful f g =
    node_good m locals t (type_of q) (T.Cast e) lawful (cast_object (type_of q) e f) (v.typed, cast_fits (type_of q) e f g)

-- ---- addresses

pub address_good : (m : ModuleValue) (locals : List LocalValue) (t : ℕ) (a : Operand) → GoodOperand m locals a
    → (is_function (type_in a.node) || (a.lvalue && not a.register)) ≡ true
    → GoodOperand m locals (value_operand (Node t (plain (Pointer (type_at a.node))) (T.Address a.node)))
unfolding IsTyped
address_good m locals t a g e = by (one_of (is_function (type_in a.node)) (a.lvalue && not a.register) e)
  where
    by : (is_function (type_in a.node) ≡ true) ⊎ ((a.lvalue && not a.register) ≡ true)
        → GoodOperand m locals (value_operand (Node t (plain (Pointer (type_at a.node))) (T.Address a.node)))
    by (inl h) =
        node_good m locals t (Pointer (type_at a.node)) (T.Address a.node) (lawful_pointer m.records (type_at a.node) g.lawful) (no_function (Pointer (type_at a.node)) refl)
        (g.typed, inr (g.designates (function_is (type_in a.node) h), function_is (type_in a.node) h), refl)
    by (inr h) =
        node_good m locals t (Pointer (type_at a.node)) (T.Address a.node) (lawful_pointer m.records (type_at a.node) g.lawful) (no_function (Pointer (type_at a.node)) refl)
        (g.typed, inl (g.lvalue (left a.lvalue (not a.register) h)), refl)

-- ---- lvalues that can be changed (6.2.2.1)

first_false : (x y : Bool) → not (x || y) ≡ true → x ≡ false
first_false true y h = no h
first_false false y h = refl

plain_constant : (q : QType) → is_array (type_of q) ≡ false → is_const_object q ≡ false → is_constant q ≡ false
unfolding is_const_object
plain_constant (Qualified (Array q n) c v) h e = no (sym h)
plain_constant (Qualified _ c v) h e = e

unchanging : (r : List RecordValue) (q : QType) → is_free_of_const r q ≡ true → is_array (type_of q) ≡ false → is_constant q ≡ false
unfolding holds_const
unchanging r q h a = plain_constant q a (first_false (is_const_object q) _ h)

assigned_type : (r : List RecordValue) (ty : CType) → is_array ty ≡ false → IsComplete r ty → IsScalar ty ⊎ ((n : ℕ) × (ty ≡ Record n))
assigned_type r Void a h = no h
assigned_type r (Int k) a h = inl tt
assigned_type r (Pointer q) a h = inl tt
assigned_type r (Array q n) a h = no (sym a)
assigned_type r (Function q ps) a h = no h
assigned_type r (Record n) a h = inr (n, refl)

complete_object : (r : List RecordValue) (ty : CType) → IsComplete r ty → IsFunctionType ty → ⊥
complete_object r (Function q ps) h f = no h
complete_object r Void h f = no_function Void refl f
complete_object r (Int k) h f = no_function (Int k) refl f
complete_object r (Pointer q) h f = no_function (Pointer q) refl f
complete_object r (Array q n) h f = no_function (Array q n) refl f
complete_object r (Record n) h f = no_function (Record n) refl f

pub modifiable_so : (r : List RecordValue) (m : ModuleValue) (locals : List LocalValue) (a : Operand) → Extends r m.records → GoodOperand m locals a → is_modifiable r a ≡ true
    → IsModifiable m.records a.node
modifiable_so r m locals a x g e =
    let array : is_array (type_in a.node) ≡ false =
    not_true (is_array (type_in a.node)) (right a.lvalue (not (is_array (type_in a.node))) (left _ (is_complete r (type_in a.node)) (left _ (is_free_of_const r (type_at a.node)) e))) in
    let whole : IsComplete m.records (type_in a.node) =
    complete_later r m.records x (type_in a.node)
    (is_complete_so r (type_in a.node) (right (a.lvalue && not (is_array (type_in a.node))) (is_complete r (type_in a.node)) (left _ (is_free_of_const r (type_at a.node)) e))) in
    record {
      lvalue = g.lvalue (left a.lvalue (not (is_array (type_in a.node))) (left _ (is_complete r (type_in a.node)) (left _ (is_free_of_const r (type_at a.node)) e)));
      assigned = assigned_type m.records (type_in a.node) array whole;
      complete = whole;
      changing = unchanging r (type_at a.node) (right (a.lvalue && not (is_array (type_in a.node)) && is_complete r (type_in a.node)) (is_free_of_const r (type_at a.node)) e) array;
    }

pub step_good : (r : List RecordValue) (m : ModuleValue) (locals : List LocalValue) (t : ℕ) (op : StepOperator) (a : Operand) → Extends r m.records → GoodOperand m locals a
    → can_step r (type_in a.node) ≡ true → is_modifiable r a ≡ true → GoodOperand m locals (value_operand (Node t (unqualified (type_at a.node)) (T.Step op a.node)))
unfolding IsTyped
step_good r m locals t op a x g s e =
    let changed : IsModifiable m.records a.node = modifiable_so r m locals a x g e in
    node_good m locals t (type_in a.node) (T.Step op a.node) g.lawful (complete_object m.records (type_in a.node) changed.complete)
    (g.typed, changed, refl, by (one_of (is_integral (type_in a.node)) (points_to_object r (type_in a.node)) s))
  where
    by : (is_integral (type_in a.node) ≡ true) ⊎ (points_to_object r (type_in a.node) ≡ true) → IsArithmetic (type_in a.node) ⊎ PointsToObject m.records (type_in a.node)
    by (inl h) = inl (integral_arithmetic (type_in a.node) h)
    by (inr h) = inr (points_so r m x (type_in a.node) h)

-- ---- assignments

-- what is assignable has the type behind its conversion
pub assignable_typed : (m : ModuleValue) (locals : List LocalValue) (to : CType) (e : Expression) → GoodValue m locals e → IsLawfulType m.records to → is_assignable to e ≡ true
    → IsTyped m locals (cast_to to e)
assignable_typed m locals to e v lawful h =
    last (one_of ((is_integral to && is_integral (type_in e)) || same_record to (type_in e)
    || (is_pointer to && is_pointer (type_in e) && qualified_within (pointee (type_in e)) (pointee to)
    && (compatible_types (type_of (pointee to)) (type_of (pointee (type_in e)))
    || (points_to_void to && not (points_to_function (type_in e)))
    || (points_to_void (type_in e) && not (points_to_function to))))) (is_pointer to && is_null_constant e) h)
  where
    to_pointer : is_pointer to ≡ true → IsScalar (type_in e) → IsTyped m locals (cast_to to e)
    to_pointer p s = cast_typed m locals to e v.typed lawful (subst (λ x. FitsCast (type_in e) x) (sym (pointer_is to p)) s)

    first : ((is_integral to && is_integral (type_in e)) ≡ true) ⊎ (same_record to (type_in e) ≡ true) → IsTyped m locals (cast_to to e)
    first (inl f) =
        let i = integral_is to (left (is_integral to) (is_integral (type_in e)) f) in
        cast_typed m locals to e v.typed lawful
        (subst (λ x. FitsCast (type_in e) x) (sym i.1) (integral_arithmetic (type_in e) (right (is_integral to) (is_integral (type_in e)) f)))
    first (inr f) = let r = records_are to (type_in e) f in same_typed m locals to e v.typed (r.1 ∙ sym r.2)

    second : (((is_integral to && is_integral (type_in e)) || same_record to (type_in e)) ≡ true)
        ⊎ ((is_pointer to && is_pointer (type_in e) && qualified_within (pointee (type_in e)) (pointee to)
        && (compatible_types (type_of (pointee to)) (type_of (pointee (type_in e)))
        || (points_to_void to && not (points_to_function (type_in e)))
        || (points_to_void (type_in e) && not (points_to_function to)))) ≡ true) → IsTyped m locals (cast_to to e)
    second (inl f) = first (one_of (is_integral to && is_integral (type_in e)) (same_record to (type_in e)) f)
    second (inr f) =
        let both : (is_pointer to && is_pointer (type_in e)) ≡ true = left (is_pointer to && is_pointer (type_in e)) _ (left _ _ f) in
        to_pointer (left (is_pointer to) (is_pointer (type_in e)) both) (pointer_scalar (type_in e) (right (is_pointer to) (is_pointer (type_in e)) both))

    last : (((is_integral to && is_integral (type_in e)) || same_record to (type_in e)
        || (is_pointer to && is_pointer (type_in e) && qualified_within (pointee (type_in e)) (pointee to)
        && (compatible_types (type_of (pointee to)) (type_of (pointee (type_in e)))
        || (points_to_void to && not (points_to_function (type_in e)))
        || (points_to_void (type_in e) && not (points_to_function to))))) ≡ true) ⊎ ((is_pointer to && is_null_constant e) ≡ true) → IsTyped m locals (cast_to to e)
    last (inl f) = second (one_of ((is_integral to && is_integral (type_in e)) || same_record to (type_in e)) _ f)
    last (inr f) = to_pointer (left (is_pointer to) (is_null_constant e) f) (null_scalar e (right (is_pointer to) (is_null_constant e) f))

pub assign_good : (r : List RecordValue) (m : ModuleValue) (locals : List LocalValue) (t : ℕ) (a : Operand) (b : Expression) → Extends r m.records → GoodOperand m locals a → GoodValue m locals b
    → is_modifiable r a ≡ true → is_assignable (type_in a.node) b ≡ true
    → GoodOperand m locals (value_operand (Node t (unqualified (type_at a.node)) (T.Assign a.node (cast_to (type_in a.node) b))))
unfolding IsTyped
assign_good r m locals t a b x g v e f =
    let changed : IsModifiable m.records a.node = modifiable_so r m locals a x g e in
    node_good m locals t (type_in a.node) (T.Assign a.node (cast_to (type_in a.node) b)) g.lawful (complete_object m.records (type_in a.node) changed.complete)
    (g.typed, assignable_typed m locals (type_in a.node) b v g.lawful f, changed, refl, cast_type (type_in a.node) b)

-- ---- compound assignments (6.3.16.2)

works : (a b : Expression) (k l : IntKind) → type_in a ≡ Int k → type_in b ≡ Int l
    → WorksInCommon (common_type a b) (type_in a) (type_in (cast_to (common_type a b) b))
works a b k l sa sb =
    subst₂ (λ x y. WorksInCommon (common_type a b) x y) (sym sa) (sym (cast_type (common_type a b) b))
    (subst₂ (λ x y. WorksInCommon (Int (usual_of x y)) (Int k) (Int (usual_of x y))) (kind sa) (kind sb) (usual_again k l, usual_promoted k l, refl))
  where
    kind_of : CType → IntKind
    kind_of (Int k) = k
    kind_of _ = K.Int

    kind : {ty : CType} {k : IntKind} → ty ≡ Int k → k ≡ Rattle.pw_check_rules.specs.Kinds.kind_in ty
    kind {ty} {k} same = sym (ap Rattle.pw_check_rules.specs.Kinds.kind_in same)

compound_number : (m : ModuleValue) (locals : List LocalValue) (t : ℕ) (op : TypedOperator) (a : Operand) (b : Expression) → GoodOperand m locals a → IsModifiable m.records a.node
    → GoodValue m locals b → is_integral (type_in a.node) ≡ true → is_integral (type_in b) ≡ true
    → ((x y z : CType) → WorksInCommon x y z → FitsCompound m.records op x y z)
    → GoodOperand m locals (value_operand (Node t (unqualified (type_at a.node)) (T.Compound op (common_type a.node b) a.node (cast_to (common_type a.node b) b))))
unfolding IsTyped
compound_number m locals t op a b g changed v ia ib so =
    let i = integral_is (type_in a.node) ia in
    let j = integral_is (type_in b) ib in
    node_good m locals t (type_in a.node) (T.Compound op (common_type a.node b) a.node (cast_to (common_type a.node b) b)) g.lawful (complete_object m.records (type_in a.node) changed.complete) (
      g.typed,
      cast_typed m locals (common_type a.node b) b v.typed tt (integral_arithmetic (type_in b) ib),
      changed,
      refl,
      so (common_type a.node b) (type_in a.node) (type_in (cast_to (common_type a.node b) b)) (works a.node b i.0 j.0 i.1 j.1),
    )

compound_shift : (m : ModuleValue) (locals : List LocalValue) (t : ℕ) (op : TypedOperator) (a : Operand) (b : Expression) → GoodOperand m locals a → IsModifiable m.records a.node
    → GoodValue m locals b → is_integral (type_in a.node) ≡ true → is_integral (type_in b) ≡ true
    → ((x y z : CType) → WorksPromoted x y z → FitsCompound m.records op x y z)
    → GoodOperand m locals (value_operand (Node t (unqualified (type_at a.node)) (T.Compound op (type_in (promote a.node)) a.node (promote b))))
unfolding IsTyped
compound_shift m locals t op a b g changed v ia ib so =
    let i = integral_is (type_in a.node) ia in
    let j = integral_is (type_in b) ib in
    node_good m locals t (type_in a.node) (T.Compound op (type_in (promote a.node)) a.node (promote b)) g.lawful (complete_object m.records (type_in a.node) changed.complete) (
      g.typed,
      promote_typed m locals b j.0 j.1 v.typed,
      changed,
      refl,
      so (type_in (promote a.node)) (type_in a.node) (type_in (promote b))
          (subst (λ x. WorksPromoted (type_in (promote a.node)) x (type_in (promote b))) (sym i.1)
          (promote_type a.node i.0 i.1, subst IsPromoted (sym (promote_type b j.0 j.1)) (promoted_twice j.0))),
    )

integral_no_pointer : (ty : CType) → is_integral ty ≡ true → is_pointer ty ≡ false
integral_no_pointer (Int k) e = refl
integral_no_pointer _ e = no e

-- the node where no pointer is moved
abbrev NumberNode : ℕ → TypedOperator → Operand → Expression → Expression
NumberNode t op a b =
    if is_pointer (type_in a.node) then Node t (unqualified (type_at a.node)) (T.Compound op (type_in a.node) a.node b)
    else Node t (unqualified (type_at a.node)) (T.Compound op (common_type a.node b) a.node (cast_to (common_type a.node b) b))

numbers_only : (m : ModuleValue) (locals : List LocalValue) (t : ℕ) (op : TypedOperator) (a : Operand) (b : Expression)
    → (AreWords a.node → GoodOperand m locals a) → (GoodOperand m locals a → IsModifiable m.records a.node)
    → (AreWords b → GoodValue m locals b) → (is_integral (type_in a.node) && is_integral (type_in b)) ≡ true
    → ((x y z : CType) → WorksInCommon x y z → FitsCompound m.records op x y z)
    → AreWords (NumberNode t op a b) → GoodOperand m locals (value_operand (NumberNode t op a b))
numbers_only m locals t op a b ga changed gb e so = by_test (is_pointer (type_in a.node)) refl
  where
    by_test : (x : Bool) → is_pointer (type_in a.node) ≡ x
        → AreWords (if x then Node t (unqualified (type_at a.node)) (T.Compound op (type_in a.node) a.node b) else Node t (unqualified (type_at a.node)) (T.Compound op (common_type a.node b) a.node (cast_to (common_type a.node b) b)))
        → GoodOperand m locals (value_operand (if x then Node t (unqualified (type_at a.node)) (T.Compound op (type_in a.node) a.node b) else Node t (unqualified (type_at a.node)) (T.Compound op (common_type a.node b) a.node (cast_to (common_type a.node b) b))))
    by_test true h w = no (sym (integral_no_pointer (type_in a.node) (left (is_integral (type_in a.node)) (is_integral (type_in b)) e)) ∙ h)
    by_test false h w =
        compound_number m locals t op a b (ga w.0) (changed (ga w.0)) (gb (cast_words (common_type a.node b) b w.1))
        (left (is_integral (type_in a.node)) (is_integral (type_in b)) e) (right (is_integral (type_in a.node)) (is_integral (type_in b)) e) so

moved_too : (r : List RecordValue) (m : ModuleValue) (locals : List LocalValue) (t : ℕ) (op : TypedOperator) (a : Operand) (b : Expression) → Extends r m.records
    → (AreWords a.node → GoodOperand m locals a) → (GoodOperand m locals a → IsModifiable m.records a.node)
    → (AreWords b → GoodValue m locals b) → fits_sum r (type_in a.node) b ≡ true
    → ((x y z : CType) → WorksInCommon x y z → FitsCompound m.records op x y z)
    → ((x y : CType) → MovesPointer m.records x y x → FitsCompound m.records op x x y)
    → AreWords (NumberNode t op a b) → GoodOperand m locals (value_operand (NumberNode t op a b))
unfolding IsTyped
moved_too r m locals t op a b x ga changed gb e so moves =
    by_test (is_pointer (type_in a.node)) refl (one_of (is_integral (type_in a.node)) (points_to_object r (type_in a.node)) (right (is_integral (type_in b)) _ e))
  where
    ib : is_integral (type_in b) ≡ true
    ib = left (is_integral (type_in b)) _ e

    by_test : (y : Bool) → is_pointer (type_in a.node) ≡ y → (is_integral (type_in a.node) ≡ true) ⊎ (points_to_object r (type_in a.node) ≡ true)
        → AreWords (if y then Node t (unqualified (type_at a.node)) (T.Compound op (type_in a.node) a.node b) else Node t (unqualified (type_at a.node)) (T.Compound op (common_type a.node b) a.node (cast_to (common_type a.node b) b)))
        → GoodOperand m locals (value_operand (if y then Node t (unqualified (type_at a.node)) (T.Compound op (type_in a.node) a.node b) else Node t (unqualified (type_at a.node)) (T.Compound op (common_type a.node b) a.node (cast_to (common_type a.node b) b))))
    by_test true h (inl i) w = no (sym (integral_no_pointer (type_in a.node) i) ∙ h)
    by_test true h (inr p) w =
        let g : GoodOperand m locals a = ga w.0 in
        let v : GoodValue m locals b = gb w.1 in
        let c : IsModifiable m.records a.node = changed g in
        node_good m locals t (type_in a.node) (T.Compound op (type_in a.node) a.node b) g.lawful (complete_object m.records (type_in a.node) c.complete)
        (g.typed, v.typed, c, refl, moves (type_in a.node) (type_in b) (points_so r m x (type_in a.node) p, integral_arithmetic (type_in b) ib, refl))
    by_test false h (inl i) w =
        compound_number m locals t op a b (ga w.0) (changed (ga w.0)) (gb (cast_words (common_type a.node b) b w.1)) i ib so
    by_test false h (inr p) w = no (sym h ∙ ap is_pointer (points_so r m x (type_in a.node) p).1)

pub compound_good : (r : List RecordValue) (m : ModuleValue) (locals : List LocalValue) (t : ℕ) (op : AssignOperator) (a : Operand) (b : Expression) → Extends r m.records
    → (AreWords a.node → GoodOperand m locals a) → (AreWords b → GoodValue m locals b)
    → is_modifiable r a ≡ true → fits_compound r (compound_operator op) (type_in a.node) b ≡ true
    → AreWords (compound_node t (compound_operator op) a.node b) → GoodOperand m locals (value_operand (compound_node t (compound_operator op) a.node b))
compound_good r m locals t A.Add a b x ga gb e f = moved_too r m locals t B.Add a b x ga (λ g. modifiable_so r m locals a x g e) gb f (λ p q s h. inl h) (λ p q h. inr h)
compound_good r m locals t A.Subtract a b x ga gb e f = moved_too r m locals t B.Subtract a b x ga (λ g. modifiable_so r m locals a x g e) gb f (λ p q s h. inl h) (λ p q h. inr h)
compound_good r m locals t A.LeftShift a b x ga gb e f = λ w.
    compound_shift m locals t B.ShiftLeft a b (ga w.0) (modifiable_so r m locals a x (ga w.0) e) (gb (cast_words _ b w.1))
    (left (is_integral (type_in a.node)) (is_integral (type_in b)) f) (right (is_integral (type_in a.node)) (is_integral (type_in b)) f) (λ p q s h. h)
compound_good r m locals t A.RightShift a b x ga gb e f = λ w.
    compound_shift m locals t B.ShiftRight a b (ga w.0) (modifiable_so r m locals a x (ga w.0) e) (gb (cast_words _ b w.1))
    (left (is_integral (type_in a.node)) (is_integral (type_in b)) f) (right (is_integral (type_in a.node)) (is_integral (type_in b)) f) (λ p q s h. h)
compound_good r m locals t A.Multiply a b x ga gb e f = numbers_only m locals t B.Multiply a b ga (λ g. modifiable_so r m locals a x g e) gb f (λ p q s h. h)
compound_good r m locals t A.Divide a b x ga gb e f = numbers_only m locals t B.Divide a b ga (λ g. modifiable_so r m locals a x g e) gb f (λ p q s h. h)
compound_good r m locals t A.Remainder a b x ga gb e f = numbers_only m locals t B.Remainder a b ga (λ g. modifiable_so r m locals a x g e) gb f (λ p q s h. h)
compound_good r m locals t A.BitAnd a b x ga gb e f = numbers_only m locals t B.And a b ga (λ g. modifiable_so r m locals a x g e) gb f (λ p q s h. h)
compound_good r m locals t A.BitXor a b x ga gb e f = numbers_only m locals t B.ExclusiveOr a b ga (λ g. modifiable_so r m locals a x g e) gb f (λ p q s h. h)
compound_good r m locals t _ a b x ga gb e f = numbers_only m locals t B.Or a b ga (λ g. modifiable_so r m locals a x g e) gb f (λ p q s h. h)

-- ---- members (6.3.2.3)

find_zip : (p : MemberValue × ℕ → Bool) (ms : List MemberValue) (os : List ℕ) (x : MemberValue × ℕ) → find p (zip ms os) ≡ Some x
    → (i : ℕ) × (slice_get ms i ≡ Some x.0) × (slice_get os i ≡ Some x.1)
find_zip p [] os x e = never_some e
find_zip p (m ∷ ms) [] x e = never_some e
find_zip p (m ∷ ms) (o ∷ os) x e = by_test (p (m, o)) e (find_zip p ms os x)
  where
    by_test : (b : Bool) → cond b (Some (m, o)) (find p (zip ms os)) ≡ Some x
        → (find p (zip ms os) ≡ Some x → (i : ℕ) × (slice_get ms i ≡ Some x.0) × (slice_get os i ≡ Some x.1))
        → (i : ℕ) × (slice_get (m ∷ ms) i ≡ Some x.0) × (slice_get (o ∷ os) i ≡ Some x.1)
    by_test true f rest = (0, ap (λ y. Some y.0) (some_same f), ap (λ y. Some y.1) (some_same f))
    by_test false f rest = let r = rest f in (suc r.0, r.1, r.2)

pub member_good : (r : List RecordValue) (m : ModuleValue) (locals : List LocalValue) (t : ℕ) (name : List ℕ) (a : Operand) (x : MemberValue × ℕ)
    → Extends r m.records → ((n : ℕ) (c : ContentValue) → content_at r n ≡ Some c → HasLawfulMembers r c)
    → member_of r (type_in a.node) name ≡ Some x → GoodOperand m locals a → GoodOperand m locals (member_operand t a x)
unfolding IsTyped
member_good r m locals t name a x later lawful e g = by_type (type_in a.node) refl e
  where
    found : (n : ℕ) (c : ContentValue) → type_in a.node ≡ Record n → content_at r n ≡ Some c → member_in name c ≡ Some x → GoodOperand m locals (member_operand t a x)
    found n c same defined f =
        let at = find_zip (λ m. bytes_eq m.0.name name) c.members c.offsets x f in
        let like : IsObjectLike r x.0.ty = lawful n c defined at.0 x.0 at.1 in
        let known : IsLawfulType m.records (type_of x.0.ty) = lawful_later r m.records later (type_of x.0.ty) like.lawful in
        let whole : IsLawfulType m.records (type_of (qualify (is_constant (type_at a.node)) (is_volatile (type_at a.node)) x.0.ty)) =
        lawful_qualify m.records (is_constant (type_at a.node)) (is_volatile (type_at a.node)) x.0.ty known in
        record {
          typed = (
            lawful_known m.records (type_of (qualify (is_constant (type_at a.node)) (is_volatile (type_at a.node)) x.0.ty)) whole,
            (
              g.typed,
              record {
                number = n;
                content = c;
                place = at.0;
                member = x.0;
                type_is = same;
                defined = later.kept n c defined;
                there = at.1;
                offset_is = at.2;
                qualified = qualify_same (is_constant (type_at a.node)) (is_volatile (type_at a.node)) x.0.ty;
              },
            ),
          );
          lawful = whole;
          lvalue = g.lvalue;
          designates = λ h. absurd (object_qualify (is_constant (type_at a.node)) (is_volatile (type_at a.node)) x.0.ty like.object h);
        }

    by_content : (n : ℕ) → type_in a.node ≡ Record n → (o : Option ContentValue) → content_at r n ≡ o → option_and_then (member_in name) o ≡ Some x → GoodOperand m locals (member_operand t a x)
    by_content n same None h f = never_some f
    by_content n same (Some c) h f = found n c same h f

    by_type : (ty : CType) → type_in a.node ≡ ty → member_of r ty name ≡ Some x → GoodOperand m locals (member_operand t a x)
    by_type (Record n) same f = by_content n same (content_at r n) refl f
    by_type Void same f = never_some f
    by_type (Int k) same f = never_some f
    by_type (Pointer q) same f = never_some f
    by_type (Array q n) same f = never_some f
    by_type (Function q ps) same f = never_some f
