-- What operators make of their first operands, when their others are known.
use Rattle.std.specs.Prelude.{◌≡◌, ◌<◌, Bool, ◌&&◌, if◌then◌else◌, List, [], ◌∷◌}
use Rattle.pw_types.specs.Conversions.{is_signed_kind}
use Rattle.pw_types.specs.TypedTrees.{Form}
use Rattle.pw_types.specs.TypedTrees as T
use Rattle.pw_types.specs.declared.kind.IntKind.{IntKind}
use Rattle.pw_types.specs.declared.tree.BinaryOperator.{BinaryOperator}
use Rattle.pw_types.specs.declared.tree.LogicOperator.{LogicOperator}
use Rattle.pw_typed.specs.declared.tree.TExpr.{TExpr}
use Rattle.pw_typed.specs.declared.tree.TForm.{size-TForm}
use Rattle.pw_typed.specs.Views.{view_expr}
use Rattle.pw_check_rules.specs.Constants.{Constancy, Known, NoConstant, then_known, then_formed, both_known, constant_of, unary_word, binary_word, logic_word, choice_word, convert_word}
use Rattle.pw_check_rules.specs.Kinds.{is_integral, kind_in}
use Rattle.pw_types.specs.WellTyped.{type_in}
use Rattle.pw_check_constants.specs.Views.{view_constancy}
use Rattle.pw_check_constants.specs.declared.constants.Turn.{Turn}
use Rattle.pw_check_constants.specs.declared.constants.Turn.TheVariants as turn
use Rattle.pw_check_constants.specs.declared.frames.Frame.{Frame}
use Rattle.pw_check_constants.specs.declared.frames.Frame.TheVariants as frame

abbrev pub binary_of : BinaryOperator → Bool → Constancy → Constancy → Constancy
binary_of op signed a b = both_known a b (λ n m. binary_word op signed n m)

abbrev pub logic_of : LogicOperator → Constancy → Constancy → Constancy
logic_of op a b = then_formed b (then_known a (λ n. logic_word op n b))

abbrev pub choice_of : Constancy → Constancy → Constancy → Constancy
choice_of a b c = then_formed b (then_formed c (then_known a (λ n. choice_word n b c)))

abbrev pub cast_of : IntKind → Constancy → Constancy
cast_of kind a = then_known a (λ n. Known (convert_word kind n))

-- of this integral type, by its form
abbrev pub formed : IntKind → Form → Constancy
formed kind (T.Number n) = Known n
formed kind (T.Unary op a) = then_known (constant_of a) (λ n. unary_word op (kind_in (type_in a)) n)
formed kind (T.Binary op a b) =
    if is_integral (type_in a) && is_integral (type_in b)
    then binary_of op (is_signed_kind (kind_in (type_in a))) (constant_of a) (constant_of b)
    else NoConstant
formed kind (T.Logic op a b) = logic_of op (constant_of a) (constant_of b)
formed kind (T.Cond a b c) = choice_of (constant_of a) (constant_of b) (constant_of c)
formed kind (T.Cast a) =
    if is_integral (type_in a) then cast_of kind (constant_of a) else NoConstant
formed kind _ = NoConstant

-- by what the first operand is
abbrev pub applied : Frame → Constancy → Constancy
applied (frame.Unary op kind) a = then_known a (λ n. unary_word op kind n)
applied (frame.Binary op signed b) a = binary_of op signed a (view_constancy b)
applied (frame.Logic op b) a = logic_of op a (view_constancy b)
applied (frame.Choice b c) a = choice_of a (view_constancy b) (view_constancy c)
applied (frame.Cast kind) a = cast_of kind a

-- several, from the outermost operator inward
abbrev pub unwound : List Frame → Constancy → Constancy
unwound [] a = a
unwound (f ∷ fs) a = applied f (unwound fs a)

-- what a step down an expression says that it is
abbrev pub constancy_by : Turn → Constancy
constancy_by (turn.Ends c) = view_constancy c
constancy_by (turn.Goes f a) = applied f (constant_of (view_expr a.now))

-- the step leads to a part of the expression
abbrev pub IsPartOf : Turn → TExpr → Type 0
IsPartOf (turn.Ends c) e = Unit {0}
IsPartOf (turn.Goes f a) e = size-TForm a.now.form < size-TForm e.form

-- where the step leads to an expression, it is this one
abbrev pub LeadsTo : Turn → TExpr → Type 0
LeadsTo (turn.Ends c) a = Unit {0}
LeadsTo (turn.Goes f b) a = b.now ≡ a
