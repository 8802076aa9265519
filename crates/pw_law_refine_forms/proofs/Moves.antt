-- A pointer plus or minus a number, and the difference of two pointers, as expressions (C90 6.3.6).
use Rattle.std.proofs.Common.{◌≡◌, ℕ, ◌==◌, Bool, true, false, if◌then◌else◌, sym, ◌∙◌, subst}
use Rattle.pw_types.specs.TypeTrees.{CType, Int, Pointer as PointerTo, QType, Qualified}
use Rattle.pw_types.specs.declared.kind.IntKind.{IntKind}
use Rattle.pw_types.specs.declared.tree.BinaryOperator.{BinaryOperator}
use Rattle.pw_types.specs.declared.tree.BinaryOperator.TheVariants as B
use Rattle.pw_types.specs.TypedTrees.{Expression, Node, Binary}
use Rattle.pw_types.specs.WellTyped.{IsScalar, type_in}
use Rattle.pw_flow.specs.declared.flow.FlowFn.{FlowFn}
use Rattle.pw_flow.specs.declared.flow.Op.TheVariants as op
use Rattle.pw_flow.specs.declared.flow.BinKind.{BinKind}
use Rattle.pw_flow.specs.declared.flow.BinKind.TheVariants.{Add, Sub, Mul, DivS}
use Rattle.pw_lower.specs.declared.code.Code.{Code}
use Rattle.pw_lower.specs.Codes.{temp_of, value_is, fresh, constant}
use Rattle.pw_lower.specs.Operators.{bytes_of, with, scaled, moved_by, distance}
use Rattle.pw_law_refine.specs.Activations.{Activation, IsActivation, graph_of}
use Rattle.pw_law_refine.specs.Containing.{ContainsCode}
use Rattle.pw_law_refine.specs.Expressions.{ExpressionKeeps}
use Rattle.pw_law_refine_forms.specs.Operands.{AppliesAt}
use Rattle.pw_law_refine_forms.proofs.Laws.{Laws}
use Rattle.pw_law_refine_forms.proofs.Kit.{before-fresh}
use Rattle.pw_law_refine_forms.proofs.Truths.{scalar-not-void}
use Rattle.pw_law_refine_forms.proofs.Compare.{HasOperands, binary-keeps}
use Rattle.pw_law_refine_forms.proofs.Sums.{pointer-sum, number-sum, pointer-difference}
use Rattle.pw_law_refine_forms.proofs.Distances.{distance-applies}

-- ---- the code of the operands

before-scaled : (g : FlowFn) (size q : ℕ) (d : Code) → ContainsCode g (scaled size q d).code → ContainsCode g d
before-scaled g size q d w = by_test (size == 1) w
  where
    by_test : (b : Bool) → ContainsCode g (if b then value_is q d else with Mul q (constant size d)).code → ContainsCode g d
    by_test true w = w
    by_test false w = before-fresh g (λ t. op.Const t size) d (before-fresh g (λ t. op.Bin Mul t q (temp_of (constant size d))) (constant size d).code w)

before-moved : (g : FlowFn) (k : BinKind) (size p q : ℕ) (d : Code) → ContainsCode g (moved_by k size p q d).code → ContainsCode g d
before-moved g k size p q d w = before-scaled g size q d (before-fresh g (λ t. op.Bin k t p (temp_of (scaled size q d))) (scaled size q d).code w)

pub sum-operands : (left : QType) (kind : IntKind) → HasOperands B.Add (PointerTo left) (Int kind)
sum-operands (Qualified ty constant volatile) kind x p q d w = before-moved (graph_of x) Add (bytes_of x.home.tree.records ty) p q d w

turned-operands : (right : QType) (kind : IntKind) → HasOperands B.Add (Int kind) (PointerTo right)
turned-operands (Qualified ty constant volatile) kind x p q d w = before-moved (graph_of x) Add (bytes_of x.home.tree.records ty) q p d w

pub less-operands : (left : QType) (kind : IntKind) → HasOperands B.Subtract (PointerTo left) (Int kind)
less-operands (Qualified ty constant volatile) kind x p q d w = before-moved (graph_of x) Sub (bytes_of x.home.tree.records ty) p q d w

before-distance : (g : FlowFn) (size p q : ℕ) (d : Code) → ContainsCode g (distance size p q d).code → ContainsCode g d
before-distance g size p q d w = before-fresh g (λ t. op.Bin Sub t p q) d (by_test (size == 1) w)
  where
    by_test : (b : Bool) → ContainsCode g (let less = fresh (λ t. op.Bin Sub t p q) d in if b then less else with DivS (temp_of less) (constant size less.code)).code → ContainsCode g (fresh (λ t. op.Bin Sub t p q) d).code
    by_test true w = w
    by_test false w =
        let less = fresh (λ t. op.Bin Sub t p q) d in
        before-fresh g (λ t. op.Const t size) less.code (before-fresh g (λ t. op.Bin DivS t (temp_of less) (temp_of (constant size less.code))) (constant size less.code).code w)

distance-operands : (left right : QType) → HasOperands B.Subtract (PointerTo left) (PointerTo right)
distance-operands (Qualified ty c v) (Qualified to k l) x p q d w = before-distance (graph_of x) (bytes_of x.home.tree.records ty) p q d w

-- ---- the forms

-- an operator of operands of scalar types that are known
typed-keeps : Laws → (bound t : ℕ) (ty : QType) (o : BinaryOperator) (a b : Expression) (left right : CType) → IsScalar left → IsScalar right → type_in a ≡ left → type_in b ≡ right
    → ((x : Activation) → IsActivation x → AppliesAt x bound o left right) → HasOperands o left right → ExpressionKeeps bound a → ExpressionKeeps bound b → ExpressionKeeps bound (Node t ty (Binary o a b))
typed-keeps laws bound t ty o a b left right sl sr l r applies operands first second =
    binary-keeps laws bound t ty o a b (λ e. scalar-not-void left sl (sym l ∙ e)) (λ e. scalar-not-void right sr (sym r ∙ e))
    (λ x active. subst (λ (y : CType). AppliesAt x bound o y (type_in b)) (sym l) (subst (λ (z : CType). AppliesAt x bound o left z) (sym r) (applies x active)))
    (subst (λ (y : CType). HasOperands o y (type_in b)) (sym l) (subst (λ (z : CType). HasOperands o left z) (sym r) operands))
    first second

pub sum-keeps : Laws → (bound t : ℕ) (ty : QType) (a b : Expression) (left : QType) (kind : IntKind) → type_in a ≡ PointerTo left → type_in b ≡ Int kind
    → ExpressionKeeps bound a → ExpressionKeeps bound b → ExpressionKeeps bound (Node t ty (Binary B.Add a b))
sum-keeps laws bound t ty a b left kind l r first second = typed-keeps laws bound t ty B.Add a b (PointerTo left) (Int kind) tt tt l r (λ x active. pointer-sum laws bound left kind x) (sum-operands left kind) first second

pub turned-sum-keeps : Laws → (bound t : ℕ) (ty : QType) (a b : Expression) (right : QType) (kind : IntKind) → type_in a ≡ Int kind → type_in b ≡ PointerTo right
    → ExpressionKeeps bound a → ExpressionKeeps bound b → ExpressionKeeps bound (Node t ty (Binary B.Add a b))
turned-sum-keeps laws bound t ty a b right kind l r first second = typed-keeps laws bound t ty B.Add a b (Int kind) (PointerTo right) tt tt l r (λ x active. number-sum laws bound right kind x) (turned-operands right kind) first second

pub less-keeps : Laws → (bound t : ℕ) (ty : QType) (a b : Expression) (left : QType) (kind : IntKind) → type_in a ≡ PointerTo left → type_in b ≡ Int kind
    → ExpressionKeeps bound a → ExpressionKeeps bound b → ExpressionKeeps bound (Node t ty (Binary B.Subtract a b))
less-keeps laws bound t ty a b left kind l r first second = typed-keeps laws bound t ty B.Subtract a b (PointerTo left) (Int kind) tt tt l r (λ x active. pointer-difference laws bound left kind x) (less-operands left kind) first second

pub distance-keeps : Laws → (bound t : ℕ) (ty : QType) (a b : Expression) (left right : QType) → type_in a ≡ PointerTo left → type_in b ≡ PointerTo right
    → ExpressionKeeps bound a → ExpressionKeeps bound b → ExpressionKeeps bound (Node t ty (Binary B.Subtract a b))
distance-keeps laws bound t ty a b left right l r first second =
    typed-keeps laws bound t ty B.Subtract a b (PointerTo left) (PointerTo right) tt tt l r
    (λ x active. distance-applies laws bound left right x) (distance-operands left right) first second
