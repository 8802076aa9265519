-- The nodes that operators make of values: each is well typed where its constraint is met.
use Rattle.std.specs.Prelude.{ℕ, ◌≡◌, ◌⊎◌, Bool, true, false, not, ◌&&◌, ◌||◌, List, if◌then◌else◌, refl}
use Rattle.std.proofs.Common.{ap, sym, subst, subst₂, ◌∙◌, inl, inr}
use Rattle.std.proofs.lemmas.Bool.{eqb-true}
use Rattle.pw_tree.specs.declared.operator.BinaryOperator.{BinaryOperator}
use Rattle.pw_tree.specs.declared.operator.BinaryOperator.TheVariants as O
use Rattle.pw_types.specs.Conversions.{promoted}
use Rattle.pw_types.specs.declared.kind.IntKind.TheVariants as K
use Rattle.pw_types.specs.declared.tree.BinaryOperator.TheVariants as B
use Rattle.pw_types.specs.declared.tree.BinaryOperator.{BinaryOperator as TypedOperator}
use Rattle.pw_types.specs.declared.tree.LogicOperator.{LogicOperator}
use Rattle.pw_types.specs.declared.tree.UnaryOperator.TheVariants as U
use Rattle.pw_types.specs.declared.tree.UnaryOperator.{UnaryOperator as TypedUnary}
use Rattle.pw_types.specs.TypeTrees.{CType, Void, Int, Pointer, Array, Function, Record, Qualified, type_of, RecordValue}
use Rattle.pw_types.specs.TypedTrees.{Expression, Node, Form, LocalValue, ModuleValue, token_of, type_at, form_of}
use Rattle.pw_types.specs.TypedTrees as T
use Rattle.pw_types.specs.WellTyped.{IsTyped, IsPromoted, IsPointer, IsScalar, PointsToObject, IsFunctionType, FitsUnary, FitsBinary, FitsCast, AreNumbers, MovesPointer, AreShifted, AreCompared, type_in}
use Rattle.pw_check_rules.specs.Compatible.{composite_type}
use Rattle.pw_check_rules.specs.Constants.{constant_of, is_null_constant}
use Rattle.pw_check_rules.specs.Kinds.{plain, unqualified, int_type, is_integral, is_pointer, is_scalar, is_void, points_to_object, points_to_function, points_to_void, pointee}
use Rattle.pw_check_rules.specs.Operands.{value_operand, cast_to, promote, common_type}
use Rattle.pw_check_rules.specs.Operators.{deref, both_integral, pointer_and_number, pointers_agree, points_into_objects, pointer_and_void, pointer_and_null, pointers_meet, fits_order, fits_binary, in_common, arithmetic_node, shift_node, pointer_with_both, chosen_pointer, met_type, comparison_node, sum_node, difference_node, binary_node, typed_binary, comma_node, same_record, fits_choice, choice_type}
use Rattle.pw_law_checked.specs.Lawful.{IsLawfulType, AreWords, Extends}
use Rattle.pw_law_checked.proofs.States.{GoodOperand, GoodValue}
use Rattle.pw_law_checked.proofs.Types.{no, left, right, one_of, lawful_known, lawful_target, lawful_composite, complete_later, is_complete_so}
use Rattle.pw_law_checked.proofs.Conversions.{integral_is, pointer_is, void_is, scalar_is, pointer_scalar, integral_arithmetic, no_function, promoted_twice, usual_promoted, cast_type, cast_words, cast_typed, promote_type, promote_typed, same_typed, node_good}

-- ---- unary operators

pub not_good : (m : ModuleValue) (locals : List LocalValue) (t : ℕ) (e : Expression) → GoodValue m locals e → is_scalar (type_in e) ≡ true
    → GoodOperand m locals (value_operand (Node t int_type (T.Unary U.Not e)))
unfolding IsTyped
not_good m locals t e g fits =
    node_good m locals t (Int K.Int) (T.Unary U.Not e) tt (no_function (Int K.Int) refl) (g.typed, (scalar_is (type_in e) fits, refl))

pub promoted_good : (m : ModuleValue) (locals : List LocalValue) (t : ℕ) (u : TypedUnary) (e : Expression) → GoodValue m locals e → is_integral (type_in e) ≡ true
    → ((ty : CType) → IsPromoted ty → FitsUnary u ty ty)
    → GoodOperand m locals (value_operand (Node t (plain (type_in (promote e))) (T.Unary u (promote e))))
unfolding IsTyped
promoted_good m locals t u e g fits so =
    let i = integral_is (type_in e) fits in
    let same : type_in (promote e) ≡ Int (promoted i.0) = promote_type e i.0 i.1 in
    node_good m locals t (type_in (promote e)) (T.Unary u (promote e))
    (subst (IsLawfulType m.records) (sym same) tt)
    (subst (λ ty. IsFunctionType ty → ⊥) (sym same) (no_function (Int (promoted i.0)) refl))
    (promote_typed m locals e i.0 i.1 g.typed, so (type_in (promote e)) (subst IsPromoted (sym same) (promoted_twice i.0)))

pub deref_good : (m : ModuleValue) (locals : List LocalValue) (t : ℕ) (e : Expression) → IsTyped m locals e → IsLawfulType m.records (type_in e) → is_pointer (type_in e) ≡ true
    → GoodOperand m locals (deref t e)
unfolding IsTyped
deref_good m locals t e typed lawful fits =
    let same : type_in e ≡ Pointer (pointee (type_in e)) = pointer_is (type_in e) fits in
    let target : IsLawfulType m.records (type_of (pointee (type_in e))) = lawful_target m.records (pointee (type_in e)) (subst (IsLawfulType m.records) same lawful) in
    record {
      typed = (lawful_known m.records (type_of (pointee (type_in e))) target, (typed, same));
      lawful = target;
      lvalue = λ h. tt;
      designates = λ h. tt;
    }

-- ---- numbers

pub common_promoted : (a b : Expression) → IsPromoted (common_type a b)
common_promoted a b = usual_promoted _ _

common_cast : (m : ModuleValue) (locals : List LocalValue) (a b e : Expression) → IsTyped m locals e → is_integral (type_in e) ≡ true
    → IsTyped m locals (cast_to (common_type a b) e)
common_cast m locals a b e typed i = cast_typed m locals (common_type a b) e typed tt (integral_arithmetic (type_in e) i)

pub common_good : (m : ModuleValue) (locals : List LocalValue) (t : ℕ) (ty : CType) (op : TypedOperator) (a b : Expression)
    → (AreWords a → GoodValue m locals a) → (AreWords b → GoodValue m locals b) → both_integral a b ≡ true → IsLawfulType m.records ty → (IsFunctionType ty → ⊥)
    → FitsBinary m.records op (common_type a b) (common_type a b) ty
    → AreWords (in_common t ty op a b) → GoodOperand m locals (value_operand (in_common t ty op a b))
unfolding IsTyped
common_good m locals t ty op a b ga gb i lawful object fits w =
    node_good m locals t ty (T.Binary op (cast_to (common_type a b) a) (cast_to (common_type a b) b)) lawful object (
      common_cast m locals a b a (ga (cast_words (common_type a b) a w.0)).typed (left (is_integral (type_in a)) (is_integral (type_in b)) i),
      common_cast m locals a b b (gb (cast_words (common_type a b) b w.1)).typed (right (is_integral (type_in a)) (is_integral (type_in b)) i),
      subst₂ (λ x y. FitsBinary m.records op x y ty) (sym (cast_type (common_type a b) a)) (sym (cast_type (common_type a b) b)) fits,
    )

pub arithmetic_good : (m : ModuleValue) (locals : List LocalValue) (t : ℕ) (op : TypedOperator) (a b : Expression)
    → (AreWords a → GoodValue m locals a) → (AreWords b → GoodValue m locals b) → both_integral a b ≡ true
    → ((ty : CType) → AreNumbers ty ty ty → FitsBinary m.records op ty ty ty)
    → AreWords (arithmetic_node t op a b) → GoodOperand m locals (value_operand (arithmetic_node t op a b))
arithmetic_good m locals t op a b ga gb i so w =
    common_good m locals t (common_type a b) op a b ga gb i tt (no_function (common_type a b) refl)
    (so (common_type a b) (common_promoted a b, refl, refl)) w

pub shift_good : (m : ModuleValue) (locals : List LocalValue) (t : ℕ) (op : TypedOperator) (a b : Expression)
    → (AreWords a → GoodValue m locals a) → (AreWords b → GoodValue m locals b) → both_integral a b ≡ true
    → ((x y z : CType) → AreShifted x y z → FitsBinary m.records op x y z)
    → AreWords (shift_node t op a b) → GoodOperand m locals (value_operand (shift_node t op a b))
unfolding IsTyped
shift_good m locals t op a b ga gb i so w =
    let ia = integral_is (type_in a) (left (is_integral (type_in a)) (is_integral (type_in b)) i) in
    let ib = integral_is (type_in b) (right (is_integral (type_in a)) (is_integral (type_in b)) i) in
    let sa : type_in (promote a) ≡ Int (promoted ia.0) = promote_type a ia.0 ia.1 in
    let sb : type_in (promote b) ≡ Int (promoted ib.0) = promote_type b ib.0 ib.1 in
    node_good m locals t (type_in (promote a)) (T.Binary op (promote a) (promote b))
    (subst (IsLawfulType m.records) (sym sa) tt)
    (subst (λ ty. IsFunctionType ty → ⊥) (sym sa) (no_function (Int (promoted ia.0)) refl)) (
      promote_typed m locals a ia.0 ia.1 (ga (cast_words _ a w.0)).typed,
      promote_typed m locals b ib.0 ib.1 (gb (cast_words _ b w.1)).typed,
      so (type_in (promote a)) (type_in (promote b)) (type_in (promote a))
          (subst IsPromoted (sym sa) (promoted_twice ia.0), subst IsPromoted (sym sb) (promoted_twice ib.0), refl),
    )

-- ---- pointers that meet

pub null_scalar : (e : Expression) → is_null_constant e ≡ true → IsScalar (type_in e)
unfolding constant_of
null_scalar (Node t (Qualified Void c v) form) h = no h
null_scalar (Node t (Qualified (Int k) c v) form) h = tt
null_scalar (Node t (Qualified (Pointer q) c v) form) h = tt
null_scalar (Node t (Qualified (Array q n) c v) form) h = no h
null_scalar (Node t (Qualified (Function q ps) c v) form) h = no h
null_scalar (Node t (Qualified (Record n) c v) form) h = no h

pub data Meeting (a b : Expression) : Type 0 where
  BothPointers : is_pointer (type_in a) ≡ true → is_pointer (type_in b) ≡ true → Meeting a b
  LeftPointer : is_pointer (type_in a) ≡ true → is_null_constant b ≡ true → Meeting a b
  RightPointer : is_pointer (type_in b) ≡ true → is_null_constant a ≡ true → Meeting a b

void_pointer : (ty : CType) → points_to_void ty ≡ true → is_pointer ty ≡ true
void_pointer (Pointer q) e = refl
void_pointer _ e = no e

pub agree_meeting : (a b : Expression) → pointers_agree a b ≡ true → Meeting a b
agree_meeting a b e =
    BothPointers (left (is_pointer (type_in a)) (is_pointer (type_in b)) (left _ _ e)) (right (is_pointer (type_in a)) (is_pointer (type_in b)) (left _ _ e))

void_meeting : (a b : Expression) → pointer_and_void a b ≡ true → (is_pointer (type_in a) ≡ true) × (is_pointer (type_in b) ≡ true)
void_meeting a b e =
    (left (is_pointer (type_in a)) (not (points_to_function (type_in a))) (left _ (points_to_void (type_in b)) e), void_pointer (type_in b) (right _ (points_to_void (type_in b)) e))

pub meeting : (a b : Expression) → pointers_meet a b ≡ true → Meeting a b
meeting a b e = fourth (one_of (pointers_agree a b || pointer_and_void a b || pointer_and_void b a || pointer_and_null a b) (pointer_and_null b a) e)
  where
    first : (pointers_agree a b ≡ true) ⊎ (pointer_and_void a b ≡ true) → Meeting a b
    first (inl h) = agree_meeting a b h
    first (inr h) = let v = void_meeting a b h in BothPointers v.0 v.1

    second : ((pointers_agree a b || pointer_and_void a b) ≡ true) ⊎ (pointer_and_void b a ≡ true) → Meeting a b
    second (inl h) = first (one_of (pointers_agree a b) (pointer_and_void a b) h)
    second (inr h) = let v = void_meeting b a h in BothPointers v.1 v.0

    third : ((pointers_agree a b || pointer_and_void a b || pointer_and_void b a) ≡ true) ⊎ (pointer_and_null a b ≡ true) → Meeting a b
    third (inl h) = second (one_of (pointers_agree a b || pointer_and_void a b) (pointer_and_void b a) h)
    third (inr h) = LeftPointer (left (is_pointer (type_in a)) (is_null_constant b) h) (right (is_pointer (type_in a)) (is_null_constant b) h)

    fourth : ((pointers_agree a b || pointer_and_void a b || pointer_and_void b a || pointer_and_null a b) ≡ true) ⊎ (pointer_and_null b a ≡ true) → Meeting a b
    fourth (inl h) = third (one_of (pointers_agree a b || pointer_and_void a b || pointer_and_void b a) (pointer_and_null a b) h)
    fourth (inr h) = RightPointer (left (is_pointer (type_in b)) (is_null_constant a) h) (right (is_pointer (type_in b)) (is_null_constant a) h)

pub meeting_scalars : (a b : Expression) → Meeting a b → IsScalar (type_in a) × IsScalar (type_in b)
meeting_scalars a b (BothPointers h k) = (pointer_scalar (type_in a) h, pointer_scalar (type_in b) k)
meeting_scalars a b (LeftPointer h k) = (pointer_scalar (type_in a) h, null_scalar b k)
meeting_scalars a b (RightPointer h k) = (null_scalar a k, pointer_scalar (type_in b) h)

lawful_pointee : (r : List RecordValue) (ty : CType) → IsLawfulType r ty → IsLawfulType r (type_of (pointee ty))
lawful_pointee r (Pointer q) h = lawful_target r q h
lawful_pointee r Void h = h
lawful_pointee r (Int k) h = h
lawful_pointee r (Array q n) h = h
lawful_pointee r (Function q ps) h = h
lawful_pointee r (Record n) h = h

both_so : (a b : Bool) → a ≡ true → b ≡ true → (a && b) ≡ true
both_so true b e f = f
both_so false b e f = no e

-- what two pointers become is a pointer
pub chosen : (r : List RecordValue) (a b : Expression) → IsLawfulType r (type_in a) → IsLawfulType r (type_in b) → Meeting a b
    → IsPointer (chosen_pointer a b) × IsLawfulType r (chosen_pointer a b)
chosen r a b la lb meets =
    by_tests (is_null_constant b && is_pointer (type_in a)) refl (is_null_constant a) refl (points_to_void (type_in a) || points_to_void (type_in b)) meets
  where
    in_void : CType
    in_void = pointer_with_both Void (pointee (type_in a)) (pointee (type_in b))

    in_composite : CType
    in_composite = pointer_with_both (composite_type (type_of (pointee (type_in a))) (type_of (pointee (type_in b)))) (pointee (type_in a)) (pointee (type_in b))

    by_tests : (x : Bool) → (is_null_constant b && is_pointer (type_in a)) ≡ x → (y : Bool) → is_null_constant a ≡ y → (z : Bool) → Meeting a b
        → IsPointer (if x then type_in a else if y then type_in b else if z then pointer_with_both Void (pointee (type_in a)) (pointee (type_in b)) else pointer_with_both (composite_type (type_of (pointee (type_in a))) (type_of (pointee (type_in b)))) (pointee (type_in a)) (pointee (type_in b)))
        × IsLawfulType r (if x then type_in a else if y then type_in b else if z then pointer_with_both Void (pointee (type_in a)) (pointee (type_in b)) else pointer_with_both (composite_type (type_of (pointee (type_in a))) (type_of (pointee (type_in b)))) (pointee (type_in a)) (pointee (type_in b)))
    by_tests true h y k z meets = ((_, pointer_is (type_in a) (right (is_null_constant b) (is_pointer (type_in a)) h)), la)
    by_tests false h true k z (BothPointers p q) = ((_, pointer_is (type_in b) q), lb)
    by_tests false h true k z (LeftPointer p q) = no (sym h ∙ both_so (is_null_constant b) (is_pointer (type_in a)) q p)
    by_tests false h true k z (RightPointer p q) = ((_, pointer_is (type_in b) p), lb)
    by_tests false h false k true meets = ((_, refl), tt)
    by_tests false h false k false meets =
        ((_, refl), lawful_composite r (type_of (pointee (type_in a))) (type_of (pointee (type_in b))) (lawful_pointee r (type_in a) la) (lawful_pointee r (type_in b) lb))

-- a scalar in a pointer's type
pub pointer_cast : (m : ModuleValue) (locals : List LocalValue) (ty : CType) (e : Expression) → IsTyped m locals e → IsScalar (type_in e) → IsPointer ty → IsLawfulType m.records ty
    → IsTyped m locals (cast_to ty e)
pointer_cast m locals ty e typed scalar p lawful =
    cast_typed m locals ty e typed lawful (subst (λ x. FitsCast (type_in e) x) (sym p.1) scalar)

-- ---- comparisons

not_both : (a b : Expression) → both_integral a b ≡ false → both_integral a b ≡ true → ⊥
not_both a b e f = no (sym e ∙ f)

pub comparison_good : (m : ModuleValue) (locals : List LocalValue) (t : ℕ) (op : TypedOperator) (a b : Expression)
    → (AreWords a → GoodValue m locals a) → (AreWords b → GoodValue m locals b)
    → (both_integral a b ≡ true) ⊎ Meeting a b
    → ((x y z : CType) → AreCompared x y z → FitsBinary m.records op x y z)
    → AreWords (comparison_node t op a b) → GoodOperand m locals (value_operand (comparison_node t op a b))
unfolding IsTyped
comparison_good m locals t op a b ga gb fits so = by_test (both_integral a b) refl fits
  where
    by_test : (x : Bool) → both_integral a b ≡ x → (both_integral a b ≡ true) ⊎ Meeting a b
        → AreWords (if x then in_common t (Int K.Int) op a b else Node t int_type (T.Binary op (cast_to (met_type a b) a) (cast_to (met_type a b) b)))
        → GoodOperand m locals (value_operand (if x then in_common t (Int K.Int) op a b else Node t int_type (T.Binary op (cast_to (met_type a b) a) (cast_to (met_type a b) b))))
    by_test true h f w =
        common_good m locals t (Int K.Int) op a b ga gb h tt (no_function (Int K.Int) refl)
        (so (common_type a b) (common_type a b) (Int K.Int) (inl (common_promoted a b), refl, refl)) w
    by_test false h (inl f) w = absurd (not_both a b h f)
    by_test false h (inr f) w =
        let va : GoodValue m locals a = ga (cast_words (met_type a b) a w.0) in
        let vb : GoodValue m locals b = gb (cast_words (met_type a b) b w.1) in
        let c = chosen m.records a b va.lawful vb.lawful f in
        let s = meeting_scalars a b f in
        let sa : type_in (cast_to (met_type a b) a) ≡ met_type a b = cast_type (met_type a b) a in
        let sb : type_in (cast_to (met_type a b) b) ≡ met_type a b = cast_type (met_type a b) b in
        node_good m locals t (Int K.Int) (T.Binary op (cast_to (met_type a b) a) (cast_to (met_type a b) b)) tt (no_function (Int K.Int) refl) (
          pointer_cast m locals (met_type a b) a va.typed s.0 c.0 c.1,
          pointer_cast m locals (met_type a b) b vb.typed s.1 c.0 c.1,
          so (type_in (cast_to (met_type a b) a)) (type_in (cast_to (met_type a b) b)) (Int K.Int)
              (inr (subst IsPointer (sym sa) c.0), sb ∙ sym sa, refl),
        )

-- ---- sums and differences

pub points_so : (r : List RecordValue) (m : ModuleValue) → Extends r m.records → (ty : CType) → points_to_object r ty ≡ true → PointsToObject m.records ty
points_so r m x (Pointer (Qualified ty c v)) e = (Qualified ty c v, refl, complete_later r m.records x ty (is_complete_so r ty e))
points_so r m x Void e = no e
points_so r m x (Int k) e = no e
points_so r m x (Array q n) e = no e
points_so r m x (Function q ps) e = no e
points_so r m x (Record n) e = no e

pointer_so : (r : List RecordValue) (ty : CType) → PointsToObject r ty → is_pointer ty ≡ true
pointer_so r ty p = ap is_pointer p.1

integral_or_pointer : (ty : CType) → is_integral ty ≡ true → is_pointer ty ≡ true → ⊥
integral_or_pointer (Int k) e f = no f
integral_or_pointer _ e f = no e

abbrev Moves : ModuleValue → Expression → Expression → Type 0
Moves m a b = PointsToObject m.records (type_in a) × (is_integral (type_in b) ≡ true)

moves_so : (r : List RecordValue) (m : ModuleValue) (a b : Expression) → Extends r m.records → pointer_and_number r a b ≡ true → Moves m a b
moves_so r m a b x e =
    (points_so r m x (type_in a) (left (points_to_object r (type_in a)) (is_integral (type_in b)) e), right (points_to_object r (type_in a)) (is_integral (type_in b)) e)

abbrev Sums : ModuleValue → TypedOperator → Expression → Expression → Type 0
Sums m op a b =
    (both_integral a b ≡ true) ⊎ (Moves m a b ⊎ (Moves m b a × ((x y : CType) → MovesPointer m.records y x y → FitsBinary m.records op x y y)))

pub sum_good : (m : ModuleValue) (locals : List LocalValue) (t : ℕ) (op : TypedOperator) (a b : Expression)
    → (AreWords a → GoodValue m locals a) → (AreWords b → GoodValue m locals b) → Sums m op a b
    → ((ty : CType) → AreNumbers ty ty ty → FitsBinary m.records op ty ty ty)
    → ((x y : CType) → MovesPointer m.records x y x → FitsBinary m.records op x y x)
    → AreWords (sum_node t op a b) → GoodOperand m locals (value_operand (sum_node t op a b))
unfolding IsTyped
sum_good m locals t op a b ga gb fits numbers moves = by_tests (is_pointer (type_in a)) refl (is_pointer (type_in b)) refl fits
  where
    by_tests : (x : Bool) → is_pointer (type_in a) ≡ x → (y : Bool) → is_pointer (type_in b) ≡ y → Sums m op a b
        → AreWords (if x then Node t (unqualified (type_at a)) (T.Binary op a b) else if y then Node t (unqualified (type_at b)) (T.Binary op a b) else arithmetic_node t op a b)
        → GoodOperand m locals (value_operand (if x then Node t (unqualified (type_at a)) (T.Binary op a b) else if y then Node t (unqualified (type_at b)) (T.Binary op a b) else arithmetic_node t op a b))
    by_tests true h y k (inl i) w = absurd (integral_or_pointer (type_in a) (left (is_integral (type_in a)) (is_integral (type_in b)) i) h)
    by_tests true h y k (inr (inl f)) w =
        let va : GoodValue m locals a = ga w.0 in
        node_good m locals t (type_in a) (T.Binary op a b) va.lawful va.object
        (va.typed, (gb w.1).typed, moves (type_in a) (type_in b) (f.0, integral_arithmetic (type_in b) f.1, refl))
    by_tests true h y k (inr (inr f)) w = absurd (integral_or_pointer (type_in a) f.0.1 h)
    by_tests false h true k (inl i) w = absurd (integral_or_pointer (type_in b) (right (is_integral (type_in a)) (is_integral (type_in b)) i) k)
    by_tests false h true k (inr (inl f)) w = no (sym h ∙ pointer_so m.records (type_in a) f.0)
    by_tests false h true k (inr (inr f)) w =
        let vb : GoodValue m locals b = gb w.1 in
        node_good m locals t (type_in b) (T.Binary op a b) vb.lawful vb.object
        ((ga w.0).typed, vb.typed, f.1 (type_in a) (type_in b) (f.0.0, integral_arithmetic (type_in a) f.0.1, refl))
    by_tests false h false k (inl i) w = arithmetic_good m locals t op a b ga gb i numbers w
    by_tests false h false k (inr (inl f)) w = no (sym h ∙ pointer_so m.records (type_in a) f.0)
    by_tests false h false k (inr (inr f)) w = no (sym k ∙ pointer_so m.records (type_in b) f.0.0)

pub add_good : (r : List RecordValue) (m : ModuleValue) (locals : List LocalValue) (t : ℕ) (a b : Expression) → Extends r m.records
    → (AreWords a → GoodValue m locals a) → (AreWords b → GoodValue m locals b)
    → (both_integral a b || pointer_and_number r a b || pointer_and_number r b a) ≡ true
    → AreWords (sum_node t B.Add a b) → GoodOperand m locals (value_operand (sum_node t B.Add a b))
add_good r m locals t a b x ga gb e =
    sum_good m locals t B.Add a b ga gb (last (one_of (both_integral a b || pointer_and_number r a b) (pointer_and_number r b a) e))
    (λ ty n. inl n) (λ p q k. inr (inl k))
  where
    first : (both_integral a b ≡ true) ⊎ (pointer_and_number r a b ≡ true) → Sums m B.Add a b
    first (inl h) = inl h
    first (inr h) = inr (inl (moves_so r m a b x h))

    last : ((both_integral a b || pointer_and_number r a b) ≡ true) ⊎ (pointer_and_number r b a ≡ true) → Sums m B.Add a b
    last (inl h) = first (one_of (both_integral a b) (pointer_and_number r a b) h)
    last (inr h) = inr (inr (moves_so r m b a x h, λ p q k. inr (inr k)))

subtract_good : (r : List RecordValue) (m : ModuleValue) (locals : List LocalValue) (t : ℕ) (a b : Expression) → Extends r m.records
    → (AreWords a → GoodValue m locals a) → (AreWords b → GoodValue m locals b)
    → (both_integral a b || pointer_and_number r a b || points_into_objects r a b) ≡ true
    → AreWords (difference_node t B.Subtract a b) → GoodOperand m locals (value_operand (difference_node t B.Subtract a b))
unfolding IsTyped
subtract_good r m locals t a b x ga gb e = by_test (is_pointer (type_in a) && is_pointer (type_in b)) refl (last (one_of (both_integral a b || pointer_and_number r a b) (points_into_objects r a b) e))
  where
    Differs : Type 0
    Differs = (both_integral a b ≡ true) ⊎ (Moves m a b ⊎ (points_into_objects r a b ≡ true))

    first : (both_integral a b ≡ true) ⊎ (pointer_and_number r a b ≡ true) → (both_integral a b ≡ true) ⊎ (Moves m a b ⊎ (points_into_objects r a b ≡ true))
    first (inl h) = inl h
    first (inr h) = inr (inl (moves_so r m a b x h))

    last : ((both_integral a b || pointer_and_number r a b) ≡ true) ⊎ (points_into_objects r a b ≡ true) → (both_integral a b ≡ true) ⊎ (Moves m a b ⊎ (points_into_objects r a b ≡ true))
    last (inl h) = first (one_of (both_integral a b) (pointer_and_number r a b) h)
    last (inr h) = inr (inr h)

    by_test : (y : Bool) → (is_pointer (type_in a) && is_pointer (type_in b)) ≡ y → (both_integral a b ≡ true) ⊎ (Moves m a b ⊎ (points_into_objects r a b ≡ true))
        → AreWords (if y then Node t int_type (T.Binary B.Subtract a b) else sum_node t B.Subtract a b)
        → GoodOperand m locals (value_operand (if y then Node t int_type (T.Binary B.Subtract a b) else sum_node t B.Subtract a b))
    by_test true h (inl i) w = absurd (integral_or_pointer (type_in a) (left (is_integral (type_in a)) (is_integral (type_in b)) i) (left (is_pointer (type_in a)) (is_pointer (type_in b)) h))
    by_test true h (inr (inl f)) w = absurd (integral_or_pointer (type_in b) f.1 (right (is_pointer (type_in a)) (is_pointer (type_in b)) h))
    by_test true h (inr (inr f)) w =
        node_good m locals t (Int K.Int) (T.Binary B.Subtract a b) tt (no_function (Int K.Int) refl) (
          (ga w.0).typed,
          (gb w.1).typed,
          inr (inr (
            points_so r m x (type_in a) (right (pointers_agree a b) (points_to_object r (type_in a)) (left (pointers_agree a b && points_to_object r (type_in a)) (points_to_object r (type_in b)) f)),
            points_so r m x (type_in b) (right (pointers_agree a b && points_to_object r (type_in a)) (points_to_object r (type_in b)) f),
            refl,
          )),
        )
    by_test false h (inl i) w = sum_good m locals t B.Subtract a b ga gb (inl i) (λ ty n. inl n) (λ p q k. inr (inl k)) w
    by_test false h (inr (inl f)) w = sum_good m locals t B.Subtract a b ga gb (inr (inl f)) (λ ty n. inl n) (λ p q k. inr (inl k)) w
    by_test false h (inr (inr f)) w =
        no (sym h ∙ left (is_pointer (type_in a) && is_pointer (type_in b)) _ (left (pointers_agree a b) _ (left (pointers_agree a b && points_to_object r (type_in a)) (points_to_object r (type_in b)) f)))

order : (a b : Expression) → fits_order a b ≡ true → (both_integral a b ≡ true) ⊎ Meeting a b
order a b e = by (one_of (both_integral a b) (pointers_agree a b && not (points_to_function (type_in a))) e)
  where
    by : (both_integral a b ≡ true) ⊎ ((pointers_agree a b && not (points_to_function (type_in a))) ≡ true) → (both_integral a b ≡ true) ⊎ Meeting a b
    by (inl h) = inl h
    by (inr h) = inr (agree_meeting a b (left (pointers_agree a b) (not (points_to_function (type_in a))) h))

equality : (a b : Expression) → (both_integral a b || pointers_meet a b) ≡ true → (both_integral a b ≡ true) ⊎ Meeting a b
equality a b e = by (one_of (both_integral a b) (pointers_meet a b) e)
  where
    by : (both_integral a b ≡ true) ⊎ (pointers_meet a b ≡ true) → (both_integral a b ≡ true) ⊎ Meeting a b
    by (inl h) = inl h
    by (inr h) = inr (meeting a b h)

pub binary_good : (r : List RecordValue) (m : ModuleValue) (locals : List LocalValue) (t : ℕ) (op : BinaryOperator) (a b : Expression) → Extends r m.records
    → (AreWords a → GoodValue m locals a) → (AreWords b → GoodValue m locals b) → fits_binary r op a b ≡ true
    → AreWords (binary_node t op a b) → GoodOperand m locals (value_operand (binary_node t op a b))
binary_good r m locals t O.Add a b x ga gb e = add_good r m locals t a b x ga gb e
binary_good r m locals t O.Subtract a b x ga gb e = subtract_good r m locals t a b x ga gb e
binary_good r m locals t O.LeftShift a b x ga gb e = shift_good m locals t B.ShiftLeft a b ga gb e (λ p q s h. h)
binary_good r m locals t O.RightShift a b x ga gb e = shift_good m locals t B.ShiftRight a b ga gb e (λ p q s h. h)
binary_good r m locals t O.Less a b x ga gb e = comparison_good m locals t B.Less a b ga gb (order a b e) (λ p q s h. h)
binary_good r m locals t O.Greater a b x ga gb e = comparison_good m locals t B.Greater a b ga gb (order a b e) (λ p q s h. h)
binary_good r m locals t O.LessEqual a b x ga gb e = comparison_good m locals t B.LessEqual a b ga gb (order a b e) (λ p q s h. h)
binary_good r m locals t O.GreaterEqual a b x ga gb e = comparison_good m locals t B.GreaterEqual a b ga gb (order a b e) (λ p q s h. h)
binary_good r m locals t O.Equal a b x ga gb e = comparison_good m locals t B.Equal a b ga gb (equality a b e) (λ p q s h. h)
binary_good r m locals t O.NotEqual a b x ga gb e = comparison_good m locals t B.NotEqual a b ga gb (equality a b e) (λ p q s h. h)
binary_good r m locals t op a b x ga gb e = arithmetic_good m locals t (typed_binary op) a b ga gb e (λ ty h. h)

-- ---- logic, comma, choice

pub logic_good : (m : ModuleValue) (locals : List LocalValue) (t : ℕ) (op : LogicOperator) (a b : Expression) → GoodValue m locals a → GoodValue m locals b
    → (is_scalar (type_in a) && is_scalar (type_in b)) ≡ true → GoodOperand m locals (value_operand (Node t int_type (T.Logic op a b)))
unfolding IsTyped
logic_good m locals t op a b va vb e =
    node_good m locals t (Int K.Int) (T.Logic op a b) tt (no_function (Int K.Int) refl) (
      va.typed,
      vb.typed,
      scalar_is (type_in a) (left (is_scalar (type_in a)) (is_scalar (type_in b)) e),
      scalar_is (type_in b) (right (is_scalar (type_in a)) (is_scalar (type_in b)) e),
      refl,
    )

pub comma_good : (m : ModuleValue) (locals : List LocalValue) (t : ℕ) (a b : Expression) → GoodValue m locals a → GoodValue m locals b
    → GoodOperand m locals (value_operand (comma_node t a b))
unfolding IsTyped
comma_good m locals t a b va vb = node_good m locals t (type_in b) (T.Comma a b) vb.lawful vb.object (va.typed, vb.typed, refl)

pub records_are : (a b : CType) → same_record a b ≡ true → (n : ℕ) × (a ≡ Record n) × (b ≡ Record n)
records_are (Record n) (Record k) e = (n, refl, ap Record (sym (eqb-true n k e)))
records_are _ _ e = no e

data Choice (a b : Expression) : Type 0 where
  Numbers : both_integral a b ≡ true → Choice a b
  Alike : type_in a ≡ type_in b → is_pointer (type_in a) ≡ false → Choice a b
  Pointers : Meeting a b → Choice a b

choice : (a b : Expression) → fits_choice a b ≡ true → Choice a b
choice a b e = last (one_of (both_integral a b || same_record (type_in a) (type_in b) || (is_void (type_in a) && is_void (type_in b))) (pointers_meet a b) e)
  where
    first : (both_integral a b ≡ true) ⊎ (same_record (type_in a) (type_in b) ≡ true) → Choice a b
    first (inl h) = Numbers h
    first (inr h) = let r = records_are (type_in a) (type_in b) h in Alike (r.1 ∙ sym r.2) (ap is_pointer r.1)

    second : ((both_integral a b || same_record (type_in a) (type_in b)) ≡ true) ⊎ ((is_void (type_in a) && is_void (type_in b)) ≡ true) → Choice a b
    second (inl h) = first (one_of (both_integral a b) (same_record (type_in a) (type_in b)) h)
    second (inr h) =
        let x : type_in a ≡ Void = void_is (type_in a) (left (is_void (type_in a)) (is_void (type_in b)) h) in
        Alike (x ∙ sym (void_is (type_in b) (right (is_void (type_in a)) (is_void (type_in b)) h))) (ap is_pointer x)

    last : ((both_integral a b || same_record (type_in a) (type_in b) || (is_void (type_in a) && is_void (type_in b))) ≡ true) ⊎ (pointers_meet a b ≡ true) → Choice a b
    last (inl h) = second (one_of (both_integral a b || same_record (type_in a) (type_in b)) (is_void (type_in a) && is_void (type_in b)) h)
    last (inr h) = Pointers (meeting a b h)

one_pointer : (a b : Expression) → Meeting a b → (is_pointer (type_in a) || is_pointer (type_in b)) ≡ true
one_pointer a b (BothPointers h k) = ap (λ x. x || is_pointer (type_in b)) h
one_pointer a b (LeftPointer h k) = ap (λ x. x || is_pointer (type_in b)) h
one_pointer a b (RightPointer h k) = second (is_pointer (type_in a)) (is_pointer (type_in b)) h
  where
    second : (x y : Bool) → y ≡ true → (x || y) ≡ true
    second true y e = refl
    second false y e = e

neither : (a b : Expression) → type_in a ≡ type_in b → is_pointer (type_in a) ≡ false → (is_pointer (type_in a) || is_pointer (type_in b)) ≡ false
neither a b same h = ap (λ x. x || is_pointer (type_in b)) h ∙ (ap is_pointer (sym same) ∙ h)

-- both parts are converted to the type that they have in common
chosen_good : (m : ModuleValue) (locals : List LocalValue) (t : ℕ) (ty : CType) (c a b : Expression) → GoodValue m locals c → IsScalar (type_in c)
    → IsLawfulType m.records ty → (IsFunctionType ty → ⊥) → IsTyped m locals (cast_to ty a) → IsTyped m locals (cast_to ty b)
    → GoodOperand m locals (value_operand (Node t (plain ty) (T.Cond c (cast_to ty a) (cast_to ty b))))
unfolding IsTyped
chosen_good m locals t ty c a b vc sc lawful object ta tb =
    node_good m locals t ty (T.Cond c (cast_to ty a) (cast_to ty b)) lawful object (vc.typed, ta, tb, sc, cast_type ty a, cast_type ty b)

pub choice_good : (m : ModuleValue) (locals : List LocalValue) (t : ℕ) (c a b : Expression) → GoodValue m locals c → (AreWords a → GoodValue m locals a) → (AreWords b → GoodValue m locals b)
    → (is_scalar (type_in c) && fits_choice a b) ≡ true → AreWords (cast_to (choice_type a b) a) → AreWords (cast_to (choice_type a b) b)
    → GoodOperand m locals (value_operand (Node t (plain (choice_type a b)) (T.Cond c (cast_to (choice_type a b) a) (cast_to (choice_type a b) b))))
choice_good m locals t c a b vc ga gb e wa wb =
    by_tests (both_integral a b) refl (is_pointer (type_in a) || is_pointer (type_in b)) refl (choice a b (right (is_scalar (type_in c)) (fits_choice a b) e))
  where
    va : GoodValue m locals a
    va = ga (cast_words (choice_type a b) a wa)

    vb : GoodValue m locals b
    vb = gb (cast_words (choice_type a b) b wb)

    sc : IsScalar (type_in c)
    sc = scalar_is (type_in c) (left (is_scalar (type_in c)) (fits_choice a b) e)

    by_tests : (x : Bool) → both_integral a b ≡ x → (y : Bool) → (is_pointer (type_in a) || is_pointer (type_in b)) ≡ y → Choice a b
        → GoodOperand m locals (value_operand (Node t (plain (if x then common_type a b else if y then chosen_pointer a b else type_in a))
        (T.Cond c (cast_to (if x then common_type a b else if y then chosen_pointer a b else type_in a) a) (cast_to (if x then common_type a b else if y then chosen_pointer a b else type_in a) b))))
    by_tests true h y k f =
        chosen_good m locals t (common_type a b) c a b vc sc tt (no_function (common_type a b) refl)
        (common_cast m locals a b a va.typed (left (is_integral (type_in a)) (is_integral (type_in b)) h))
        (common_cast m locals a b b vb.typed (right (is_integral (type_in a)) (is_integral (type_in b)) h))
    by_tests false h true k (Numbers i) = absurd (not_both a b h i)
    by_tests false h true k (Alike same i) = no (sym (neither a b same i) ∙ k)
    by_tests false h true k (Pointers f) =
        let p = chosen m.records a b va.lawful vb.lawful f in
        let s = meeting_scalars a b f in
        chosen_good m locals t (chosen_pointer a b) c a b vc sc p.1 (subst (λ ty. IsFunctionType ty → ⊥) (sym p.0.1) (no_function (Pointer p.0.0) refl))
        (pointer_cast m locals (chosen_pointer a b) a va.typed s.0 p.0 p.1)
        (pointer_cast m locals (chosen_pointer a b) b vb.typed s.1 p.0 p.1)
    by_tests false h false k (Numbers i) = absurd (not_both a b h i)
    by_tests false h false k (Alike same i) =
        chosen_good m locals t (type_in a) c a b vc sc va.lawful va.object
        (same_typed m locals (type_in a) a va.typed refl) (same_typed m locals (type_in a) b vb.typed same)
    by_tests false h false k (Pointers f) = no (sym k ∙ one_pointer a b f)
