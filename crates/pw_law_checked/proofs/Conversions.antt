-- Conversions of operands: what they keep, and the types that they give.
use Rattle.std.specs.Prelude.{ℕ, ◌≡◌, Bool, true, false, ◌&&◌, ◌||◌, List, if◌then◌else◌, refl}
use Rattle.std.proofs.Common.{ap, sym, subst, ◌∙◌, inl, inr}
use Rattle.pw_types.specs.Conversions.{promoted, usual_of, is_ulong, is_long, is_uint}
use Rattle.pw_types.specs.declared.kind.IntKind.{IntKind}
use Rattle.pw_types.specs.declared.kind.IntKind.TheVariants as K
use Rattle.pw_types.specs.TypeTrees.{CType, Void, Int, Pointer, Array, Function, Record}
use Rattle.pw_types.specs.TypedTrees.{Expression, Node, Form, LocalValue, ModuleValue, token_of, type_at, form_of}
use Rattle.pw_types.specs.TypedTrees as T
use Rattle.pw_types.specs.WellTyped.{IsTyped, HasForm, IsArithmetic, IsScalar, IsFunctionType, FitsCast, type_in}
use Rattle.pw_check_rules.specs.Kinds.{plain, same_type, is_integral, is_pointer, is_scalar, is_function, is_record, is_void, pointee}
use Rattle.pw_check_rules.specs.Operands.{Operand, value_operand, cast_to, promoted_type, promote, value_by, value_of}
use Rattle.pw_law_checked.specs.Lawful.{IsLawfulType, AreWords}
use Rattle.pw_law_checked.proofs.States.{GoodOperand, GoodValue}
use Rattle.pw_law_checked.proofs.Types.{no, types_same, type_itself, lawful_known, lawful_element, lawful_pointer}

-- ---- what tests of types say

pub integral_is : (ty : CType) → is_integral ty ≡ true → (k : IntKind) × (ty ≡ Int k)
integral_is (Int k) e = (k, refl)
integral_is _ e = no e

pub pointer_is : (ty : CType) → is_pointer ty ≡ true → ty ≡ Pointer (pointee ty)
pointer_is (Pointer q) e = refl
pointer_is _ e = no e

pub function_is : (ty : CType) → is_function ty ≡ true → IsFunctionType ty
function_is (Function q ps) e = (q, ps, refl)
function_is _ e = no e

pub record_is : (ty : CType) → is_record ty ≡ true → (n : ℕ) × (ty ≡ Record n)
record_is (Record n) e = (n, refl)
record_is _ e = no e

pub void_is : (ty : CType) → is_void ty ≡ true → ty ≡ Void
void_is Void e = refl
void_is _ e = no e

pub scalar_is : (ty : CType) → is_scalar ty ≡ true → IsScalar ty
scalar_is (Int k) e = tt
scalar_is (Pointer q) e = tt
scalar_is _ e = no e

pub integral_scalar : (ty : CType) → is_integral ty ≡ true → IsScalar ty
integral_scalar (Int k) e = tt
integral_scalar _ e = no e

pub pointer_scalar : (ty : CType) → is_pointer ty ≡ true → IsScalar ty
pointer_scalar (Pointer q) e = tt
pointer_scalar _ e = no e

pub integral_arithmetic : (ty : CType) → is_integral ty ≡ true → IsArithmetic ty
integral_arithmetic (Int k) e = tt
integral_arithmetic _ e = no e

pub no_function : (ty : CType) → is_function ty ≡ false → IsFunctionType ty → ⊥
no_function ty e f = no (sym e ∙ ap is_function f.2)

pub scalar_no_function : (ty : CType) → IsScalar ty → IsFunctionType ty → ⊥
scalar_no_function (Int k) h = no_function (Int k) refl
scalar_no_function (Pointer q) h = no_function (Pointer q) refl
scalar_no_function Void h = absurd h
scalar_no_function (Array q n) h = absurd h
scalar_no_function (Function q ps) h = absurd h
scalar_no_function (Record n) h = absurd h

-- ---- integer types

pub promoted_twice : (k : IntKind) → promoted (promoted k) ≡ promoted k
promoted_twice K.Char = refl
promoted_twice K.SChar = refl
promoted_twice K.UChar = refl
promoted_twice K.Short = refl
promoted_twice K.UShort = refl
promoted_twice K.Int = refl
promoted_twice K.UInt = refl
promoted_twice K.Long = refl
promoted_twice K.ULong = refl

usual_by : Bool → Bool → Bool → IntKind
usual_by true b c = K.ULong
usual_by false true c = K.Long
usual_by false false true = K.UInt
usual_by false false false = K.Int

usual_is : (a b : IntKind) → usual_of a b ≡ usual_by (is_ulong a || is_ulong b || (is_long a && is_uint b) || (is_uint a && is_long b)) (is_long a || is_long b) (is_uint a || is_uint b)
unfolding usual_by
usual_is a b =
    by_tests (is_ulong a || is_ulong b || (is_long a && is_uint b) || (is_uint a && is_long b)) (is_long a || is_long b) (is_uint a || is_uint b)
  where
    by_tests : (x y z : Bool) → (if x then K.ULong else if y then K.Long else if z then K.UInt else K.Int) ≡ usual_by x y z
    by_tests true y z = refl
    by_tests false true z = refl
    by_tests false false true = refl
    by_tests false false false = refl

usual_promoted_by : (x y z : Bool) → promoted (usual_by x y z) ≡ usual_by x y z
unfolding usual_by
usual_promoted_by true y z = refl
usual_promoted_by false true z = refl
usual_promoted_by false false true = refl
usual_promoted_by false false false = refl

pub usual_promoted : (a b : IntKind) → promoted (usual_of a b) ≡ usual_of a b
usual_promoted a b = subst (λ k. promoted k ≡ k) (sym (usual_is a b)) (usual_promoted_by _ _ _)

-- the type in common with what two types have in common
pub usual_again : (a b : IntKind) → usual_of a (usual_of a b) ≡ usual_of a b
usual_again K.Char b = small b
  where
    small : (b : IntKind) → usual_of K.Char (usual_of K.Char b) ≡ usual_of K.Char b
    small K.UInt = refl
    small K.Long = refl
    small K.ULong = refl
    small _ = refl
usual_again K.SChar b = small b
  where
    small : (b : IntKind) → usual_of K.SChar (usual_of K.SChar b) ≡ usual_of K.SChar b
    small K.UInt = refl
    small _ = refl
usual_again K.UChar b = small b
  where
    small : (b : IntKind) → usual_of K.UChar (usual_of K.UChar b) ≡ usual_of K.UChar b
    small K.UInt = refl
    small _ = refl
usual_again K.Short b = small b
  where
    small : (b : IntKind) → usual_of K.Short (usual_of K.Short b) ≡ usual_of K.Short b
    small K.UInt = refl
    small _ = refl
usual_again K.UShort b = small b
  where
    small : (b : IntKind) → usual_of K.UShort (usual_of K.UShort b) ≡ usual_of K.UShort b
    small K.UInt = refl
    small _ = refl
usual_again K.Int b = small b
  where
    small : (b : IntKind) → usual_of K.Int (usual_of K.Int b) ≡ usual_of K.Int b
    small K.UInt = refl
    small _ = refl
usual_again K.UInt b = small b
  where
    small : (b : IntKind) → usual_of K.UInt (usual_of K.UInt b) ≡ usual_of K.UInt b
    small K.UInt = refl
    small _ = refl
usual_again K.Long b = small b
  where
    small : (b : IntKind) → usual_of K.Long (usual_of K.Long b) ≡ usual_of K.Long b
    small K.UInt = refl
    small _ = refl
usual_again K.ULong b = refl

-- ---- conversions

pub cast_type : (ty : CType) (e : Expression) → type_in (cast_to ty e) ≡ ty
cast_type ty e = by_test (same_type ty (type_in e)) refl
  where
    by_test : (b : Bool) → same_type ty (type_in e) ≡ b → type_in (if b then e else Node (token_of e) (plain ty) (T.Cast e)) ≡ ty
    by_test true h = sym (types_same ty (type_in e) h)
    by_test false h = refl

pub cast_words : (ty : CType) (e : Expression) → AreWords (cast_to ty e) → AreWords e
cast_words ty e = by_test (same_type ty (type_in e))
  where
    by_test : (b : Bool) → AreWords (if b then e else Node (token_of e) (plain ty) (T.Cast e)) → AreWords e
    by_test true w = w
    by_test false w = w

pub cast_typed : (m : ModuleValue) (locals : List LocalValue) (ty : CType) (e : Expression)
    → IsTyped m locals e → IsLawfulType m.records ty → FitsCast (type_in e) ty → IsTyped m locals (cast_to ty e)
unfolding IsTyped
cast_typed m locals ty e typed lawful fits = by_test (same_type ty (type_in e))
  where
    by_test : (b : Bool) → IsTyped m locals (if b then e else Node (token_of e) (plain ty) (T.Cast e))
    by_test true = typed
    by_test false = (lawful_known m.records ty lawful, (typed, fits))

pub promote_type : (e : Expression) (k : IntKind) → type_in e ≡ Int k → type_in (promote e) ≡ Int (promoted k)
promote_type e k same = cast_type (promoted_type (type_in e)) e ∙ ap promoted_type same

pub promote_typed : (m : ModuleValue) (locals : List LocalValue) (e : Expression) (k : IntKind) → type_in e ≡ Int k
    → IsTyped m locals e → IsTyped m locals (promote e)
promote_typed m locals e k same typed =
    cast_typed m locals (promoted_type (type_in e)) e typed
    (subst (λ ty. IsLawfulType m.records (promoted_type ty)) (sym same) tt)
    (subst (λ ty. FitsCast ty (promoted_type ty)) (sym same) tt)

-- ---- values of operands (6.2.2.1)

pub value_words : (a : Operand) → AreWords (value_of a) → AreWords a.node
value_words a = by_type (type_in a.node) a.lvalue
  where
    by_type : (ty : CType) (b : Bool) → AreWords (value_by ty b a.node) → AreWords a.node
    by_type (Array q n) true w = w
    by_type (Array q n) false w = w
    by_type (Function q ps) b w = w
    by_type Void b w = w
    by_type (Int k) b w = w
    by_type (Pointer q) b w = w
    by_type (Record n) b w = w

itself : (m : ModuleValue) (locals : List LocalValue) (a : Operand) (ty : CType) → GoodOperand m locals a → type_in a.node ≡ ty → is_function ty ≡ false
    → GoodValue m locals a.node
itself m locals a ty g same f = record {
  typed = g.typed;
  lawful = g.lawful;
  object = no_function (type_in a.node) (ap is_function same ∙ f);
}

pub value_good : (m : ModuleValue) (locals : List LocalValue) (a : Operand) → GoodOperand m locals a → GoodValue m locals (value_of a)
unfolding IsTyped
value_good m locals a g = by_type (type_in a.node) a.lvalue refl refl
  where
    by_type : (ty : CType) (b : Bool) → type_in a.node ≡ ty → a.lvalue ≡ b → GoodValue m locals (value_by ty b a.node)
    by_type (Array q n) true same l =
        let element : IsLawfulType m.records (Pointer q) =
        lawful_pointer m.records q (lawful_element m.records q n (subst (IsLawfulType m.records) same g.lawful)) in
        record {
          typed = (lawful_known m.records (Pointer q) element, (g.typed, inl (g.lvalue l, (q, n, same, refl))));
          lawful = element;
          object = no_function (Pointer q) refl;
        }
    by_type (Array q n) false same l = itself m locals a (Array q n) g same refl
    by_type (Function q ps) b same l =
        let whole : IsLawfulType m.records (Pointer (type_at a.node)) = lawful_pointer m.records (type_at a.node) g.lawful in
        record {
          typed = (lawful_known m.records (Pointer (type_at a.node)) whole, (g.typed, inr (g.designates (q, ps, same), (q, ps, same), refl)));
          lawful = whole;
          object = no_function (Pointer (type_at a.node)) refl;
        }
    by_type Void b same l = itself m locals a Void g same refl
    by_type (Int k) b same l = itself m locals a (Int k) g same refl
    by_type (Pointer q) b same l = itself m locals a (Pointer q) g same refl
    by_type (Record n) b same l = itself m locals a (Record n) g same refl

-- a node that is no lvalue and no function
pub node_good : (m : ModuleValue) (locals : List LocalValue) (t : ℕ) (ty : CType) (form : Form) → IsLawfulType m.records ty → (IsFunctionType ty → ⊥)
    → HasForm m locals (plain ty) form → GoodOperand m locals (value_operand (Node t (plain ty) form))
unfolding IsTyped
node_good m locals t ty form lawful object h = record {
  typed = (lawful_known m.records ty lawful, h);
  lawful = lawful;
  lvalue = λ e. no e;
  designates = λ f. absurd (object f);
}

-- a value of the type stays as it is
pub same_typed : (m : ModuleValue) (locals : List LocalValue) (ty : CType) (e : Expression) → IsTyped m locals e → ty ≡ type_in e → IsTyped m locals (cast_to ty e)
same_typed m locals ty e typed same =
    subst (λ b. IsTyped m locals (if b then e else Node (token_of e) (plain ty) (T.Cast e)))
    (sym (ap (λ x. same_type x (type_in e)) same ∙ type_itself (type_in e))) typed
