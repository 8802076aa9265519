-- Calls: by a name, and through a pointer (ISO C90 6.3.2.2).
use Rattle.std.specs.Prelude.{ℕ, suc, ◌≡◌, ◌+◌, ◌==◌, Bool, true, false, List, [], ◌∷◌, length, refl}
use Rattle.std.proofs.Common.{arith, sym, subst, ◌∙◌, inl, inr}
use Rattle.std.proofs.lemmas.Bool.{eqb-true}
use Rattle.pw_types.specs.TypeTrees.{CType, Void, Int, Pointer, Array, Function, Record, QType, Qualified, QTypes, NoType, OneType, type_of}
use Rattle.pw_types.specs.TypedTrees.{Symbol, External, Internal, Hidden, Expression, Node, Form, Expressions, NoExpression, OneExpression, LocalValue, ModuleValue, type_at, form_of}
use Rattle.pw_types.specs.TypedTrees as T
use Rattle.pw_types.specs.WellTyped.{IsTyped, AreArguments, IsResult, IsFunctionType, IsFunctionOf, Decays, type_in}
use Rattle.pw_check_rules.specs.Kinds.{plain, unqualified, is_function, points_to_function, pointee, parameters_of, result_of, count_of_types}
use Rattle.pw_check_rules.specs.Operands.{value_operand}
use Rattle.pw_check_rules.specs.Operators.{is_assignable, arguments_fit, arguments_cast, callee_type, call_node}
use Rattle.pw_law_checked.specs.Lawful.{IsLawfulType, AreLawfulTypes, AreWords, AreWordsOf}
use Rattle.pw_law_checked.proofs.States.{GoodOperand, GoodValue}
use Rattle.pw_law_checked.proofs.Types.{no, left, right}
use Rattle.pw_law_checked.proofs.Conversions.{no_function, scalar_no_function, cast_type, cast_words, node_good}
use Rattle.pw_law_checked.proofs.Places.{assignable_typed}

abbrev pub AllGood : ModuleValue → List LocalValue → List Expression → Type 0
AllGood m locals [] = Unit {0}
AllGood m locals (e ∷ es) = (AreWords e → GoodValue m locals e) × AllGood m locals es

arguments_good : (m : ModuleValue) (locals : List LocalValue) (ps : QTypes) (es : List Expression) → AreLawfulTypes m.records ps → count_of_types ps ≡ length es
    → arguments_fit ps es ≡ true → AllGood m locals es → AreWordsOf (arguments_cast ps es) → AreArguments m locals (arguments_cast ps es) ps
unfolding IsTyped
arguments_good m locals NoType [] lawful n f g w = tt
arguments_good m locals NoType (e ∷ es) lawful n f g w = grind (arith, n)
arguments_good m locals (OneType (Qualified ty c v) ps) [] lawful n f g w = grind (arith, n)
arguments_good m locals (OneType (Qualified ty c v) ps) (e ∷ es) lawful n f g w = (
  assignable_typed m locals ty e (g.0 (cast_words ty e w.0)) lawful.0 (left (is_assignable ty e) (arguments_fit ps es) f),
  lawful.1,
  cast_type ty e,
  arguments_good m locals ps es lawful.2 (let k : 1 + count_of_types ps ≡ suc (length es) = n in omega (arith, k)) (right (is_assignable ty e) (arguments_fit ps es) f) g.1 w.1,
)

result_object : (ty : CType) → IsResult ty → IsFunctionType ty → ⊥
result_object ty (inl e) f = subst (λ x. IsFunctionType x → ⊥) (sym e) (no_function Void refl) f
result_object ty (inr h) f = scalar_no_function ty h f

-- through a pointer
through_good : (m : ModuleValue) (locals : List LocalValue) (t : ℕ) (e : Expression) (es : List Expression) (ty : CType) → type_in e ≡ ty
    → (AreWords e → GoodValue m locals e) → AllGood m locals es → points_to_function ty ≡ true
    → (count_of_types (parameters_of (type_of (pointee ty))) == length es) ≡ true → arguments_fit (parameters_of (type_of (pointee ty))) es ≡ true
    → AreWords (Node t (unqualified (result_of (type_of (pointee ty)))) (T.CallValue e (arguments_cast (parameters_of (type_of (pointee ty))) es)))
    → GoodOperand m locals (value_operand (Node t (unqualified (result_of (type_of (pointee ty)))) (T.CallValue e (arguments_cast (parameters_of (type_of (pointee ty))) es))))
unfolding IsTyped
through_good m locals t e es (Pointer (Qualified (Function (Qualified result rc rv) params) c v)) same ge ges p n f w =
    let va : GoodValue m locals e = ge w.0 in
    let lawful : IsLawfulType m.records (Function (Qualified result rc rv) params) = subst (IsLawfulType m.records) same va.lawful in
    node_good m locals t result (T.CallValue e (arguments_cast params es)) lawful.0 (result_object result lawful.1) (
      va.typed,
      (
        Qualified result rc rv,
        params,
        c,
        v,
        same,
        lawful.1,
        refl,
        arguments_good m locals params es lawful.2 (eqb-true (count_of_types params) (length es) n) f ges w.1,
      ),
    )
through_good m locals t e es (Pointer (Qualified Void c v)) same ge ges p n f w = no p
through_good m locals t e es (Pointer (Qualified (Int k) c v)) same ge ges p n f w = no p
through_good m locals t e es (Pointer (Qualified (Pointer q) c v)) same ge ges p n f w = no p
through_good m locals t e es (Pointer (Qualified (Array q k) c v)) same ge ges p n f w = no p
through_good m locals t e es (Pointer (Qualified (Record k) c v)) same ge ges p n f w = no p
through_good m locals t e es Void same ge ges p n f w = no p
through_good m locals t e es (Int k) same ge ges p n f w = no p
through_good m locals t e es (Array q k) same ge ges p n f w = no p
through_good m locals t e es (Function q ps) same ge ges p n f w = no p
through_good m locals t e es (Record k) same ge ges p n f w = no p

-- qualifiers of a function's type say nothing of its shape
plain_function : (m : ModuleValue) (symbol : Symbol) (result : QType) (params : QTypes) (c v : Bool) → IsFunctionOf m symbol (Qualified (Function result params) c v)
    → IsFunctionOf m symbol (Qualified (Function result params) false false)
plain_function m (External name) result params c v d = record { entry = d.entry; there = d.there; name_is = d.name_is; agrees = d.agrees }
plain_function m (Internal name) result params c v h = h
plain_function m (Hidden k) result params c v h = h

-- by its name
direct_good : (m : ModuleValue) (locals : List LocalValue) (t u w : ℕ) (q : QType) (symbol : Symbol) (result : CType) (rc rv : Bool) (params : QTypes) (c v : Bool) (es : List Expression)
    → GoodValue m locals (Node u q (T.Decay (Node w (Qualified (Function (Qualified result rc rv) params) c v) (T.Function symbol))))
    → AllGood m locals es → (ty : CType) → type_of q ≡ ty
    → (count_of_types (parameters_of (type_of (pointee ty))) == length es) ≡ true → arguments_fit (parameters_of (type_of (pointee ty))) es ≡ true
    → AreWordsOf (arguments_cast params es)
    → GoodOperand m locals (value_operand (Node t (plain result) (T.Call symbol (arguments_cast params es))))
unfolding IsTyped
direct_good m locals t u w q symbol result rc rv params c v es g ges ty is n f words = by_decay g.typed.1.1
  where
    inner : QType
    inner = Qualified (Function (Qualified result rc rv) params) c v

    by_decay : Decays (Node w (Qualified (Function (Qualified result rc rv) params) c v) (T.Function symbol)) (type_of q)
        → GoodOperand m locals (value_operand (Node t (plain result) (T.Call symbol (arguments_cast params es))))
    by_decay (inl h) = absurd h.0
    by_decay (inr h) =
        let same : ty ≡ Pointer (Qualified (Function (Qualified result rc rv) params) c v) = sym is ∙ h.2 in
        let lawful : IsLawfulType m.records (Function (Qualified result rc rv) params) = subst (IsLawfulType m.records) h.2 g.lawful in
        let count : (count_of_types params == length es) ≡ true = subst (λ x. (count_of_types (parameters_of (type_of (pointee x))) == length es) ≡ true) same n in
        let fit : arguments_fit params es ≡ true = subst (λ x. arguments_fit (parameters_of (type_of (pointee x))) es ≡ true) same f in
        node_good m locals t result (T.Call symbol (arguments_cast params es)) lawful.0 (result_object result lawful.1) (
          Qualified result rc rv,
          params,
          plain_function m symbol (Qualified result rc rv) params c v g.typed.1.0.1.1,
          lawful.1,
          refl,
          arguments_good m locals params es lawful.2 (eqb-true (count_of_types params) (length es) count) fit ges words,
        )

no_designator : (m : ModuleValue) (locals : List LocalValue) (u w : ℕ) (q p : QType) (symbol : Symbol) → is_function (type_of p) ≡ false
    → GoodValue m locals (Node u q (T.Decay (Node w p (T.Function symbol)))) → ⊥
unfolding IsTyped
no_designator m locals u w q p symbol f g = no_function (type_of p) f g.typed.1.0.1.0

pub call_good : (m : ModuleValue) (locals : List LocalValue) (t : ℕ) (e : Expression) (es : List Expression)
    → (AreWords e → GoodValue m locals e) → AllGood m locals es → points_to_function (type_in e) ≡ true
    → (count_of_types (parameters_of (callee_type e)) == length es) ≡ true → arguments_fit (parameters_of (callee_type e)) es ≡ true
    → AreWords (call_node t e es) → GoodOperand m locals (value_operand (call_node t e es))
call_good m locals t (Node u q (T.Decay (Node w (Qualified (Function (Qualified result rc rv) params) c v) (T.Function symbol)))) es ge ges p n f words =
    direct_good m locals t u w q symbol result rc rv params c v es (ge tt) ges (type_of q) refl n f words
call_good m locals t (Node u q (T.Decay (Node w (Qualified Void c v) (T.Function symbol)))) es ge ges p n f words =
    absurd (no_designator m locals u w q (Qualified Void c v) symbol refl (ge tt))
call_good m locals t (Node u q (T.Decay (Node w (Qualified (Int k) c v) (T.Function symbol)))) es ge ges p n f words =
    absurd (no_designator m locals u w q (Qualified (Int k) c v) symbol refl (ge tt))
call_good m locals t (Node u q (T.Decay (Node w (Qualified (Pointer r) c v) (T.Function symbol)))) es ge ges p n f words =
    absurd (no_designator m locals u w q (Qualified (Pointer r) c v) symbol refl (ge tt))
call_good m locals t (Node u q (T.Decay (Node w (Qualified (Array r k) c v) (T.Function symbol)))) es ge ges p n f words =
    absurd (no_designator m locals u w q (Qualified (Array r k) c v) symbol refl (ge tt))
call_good m locals t (Node u q (T.Decay (Node w (Qualified (Record k) c v) (T.Function symbol)))) es ge ges p n f words =
    absurd (no_designator m locals u w q (Qualified (Record k) c v) symbol refl (ge tt))
call_good m locals t e es ge ges p n f words = through_good m locals t e es (type_in e) refl ge ges p n f words
