-- Operators (ISO C90 6.3): what each asks of its operands, and the node that it makes of them. Operands come with their
-- values taken, as 6.2.2.1 says, except those of `&`, `++`, `--`, `sizeof`, `.` and the left one of an assignment.
use Rattle.std.specs.Prelude.{ℕ, ◌==◌, Bool, true, false, not, ◌&&◌, ◌||◌, if◌then◌else◌, Option, None, unwrap_or, option_and_then, List, [], ◌∷◌, length, find, zip}
use Rattle.std.specs.Str.{bytes_eq}
use Rattle.pw_value.specs.ProgramNames.{same_truth}
use Rattle.pw_tree.specs.declared.operator.AssignOperator.{AssignOperator}
use Rattle.pw_tree.specs.declared.operator.AssignOperator.TheVariants as A
use Rattle.pw_tree.specs.declared.operator.BinaryOperator.{BinaryOperator}
use Rattle.pw_tree.specs.declared.operator.BinaryOperator.TheVariants as O
use Rattle.pw_tree.specs.declared.operator.UnaryOperator.{UnaryOperator}
use Rattle.pw_tree.specs.declared.operator.UnaryOperator.TheVariants as P
use Rattle.pw_tree.specs.Trees.{Word}
use Rattle.pw_types.specs.declared.kind.IntKind.TheVariants as K
use Rattle.pw_types.specs.declared.tree.BinaryOperator.TheVariants as B
use Rattle.pw_types.specs.declared.tree.BinaryOperator.{BinaryOperator as TypedOperator}
use Rattle.pw_types.specs.declared.tree.LogicOperator.{LogicOperator}
use Rattle.pw_types.specs.declared.tree.LogicOperator.TheVariants as L
use Rattle.pw_types.specs.declared.tree.StepOperator.{StepOperator}
use Rattle.pw_types.specs.declared.tree.UnaryOperator.TheVariants as U
use Rattle.pw_types.specs.declared.tree.UnaryOperator.{UnaryOperator as TypedUnary}
use Rattle.pw_types.specs.TypeTrees.{CType, Void, Int, Pointer, Record, QType, Qualified, QTypes, NoType, OneType, type_of, is_constant, is_volatile, MemberValue, RecordValue, ContentValue}
use Rattle.pw_types.specs.TypedTrees.{Expression, Expressions, NoExpression, OneExpression, Node, Symbol, token_of, type_at}
use Rattle.pw_types.specs.TypedTrees as T
use Rattle.pw_types.specs.Layouts.{content_at, size_of}
use Rattle.pw_check_walk.specs.Causes.{needs, DecayingArray, SubscriptOperands, CalledFunction, ArgumentCount, ArgumentTypes, RecordOperand, DeclaredMember, StepOperand, ModifiableLvalue, AddressOperand, PointerOperand, UnaryOperand, SizedOperand, CastTypes, NoPointerCast, BinaryOperands, LogicOperands, ConditionalOperands, AssignedType, CompoundOperands}
use Rattle.pw_check_walk.specs.Walks.{meets, granted, pure, asks, ◌>>=◌, ◌>>◌}
use Rattle.pw_check_rules.specs.Kinds.{plain, unqualified, int_type, is_integral, is_pointer, is_scalar, is_void, is_array, is_function, is_record, is_complete, points_to_object, points_to_function, points_to_void, pointee, qualify, is_free_of_const, parameters_of, result_of, count_of_types}
use Rattle.pw_check_rules.specs.Compatible.{compatible_types, composite_type, qualified_within}
use Rattle.pw_check_rules.specs.Constants.{is_null_constant, is_zero_constant}
use Rattle.pw_check_rules.specs.Operands.{Operand, value_operand, cast_to, promote, common_type, value_of, is_register_array}
use Rattle.pw_types.specs.WellTyped.{type_in}
use Rattle.pw_check_rules.specs.Limits.{Spot, completed}
use Rattle.pw_check_rules.specs.States.{Rule, records_in}

-- ---- values of operands

-- the value, where an array that is declared `register` has none
unfoldable pub value_rule : Operand → Rule Expression
value_rule a =
    meets (needs DecayingArray (token_of a.node) (not (is_register_array a)) ∷ []) >>
    pure (value_of a)

-- ---- unary operators (6.3.3)

abbrev pub typed_unary : UnaryOperator → TypedUnary
typed_unary P.Plus = U.Plus
typed_unary P.Minus = U.Minus
typed_unary P.Complement = U.Complement
typed_unary _ = U.Not

-- `+` and `-` take an arithmetic operand, `~` an integral one, `!` a scalar one
abbrev pub fits_unary : UnaryOperator → CType → Bool
fits_unary P.Not ty = is_scalar ty
fits_unary _ ty = is_integral ty

-- `!` converts nothing and gives an int, the others promote
abbrev pub unary_node : ℕ → UnaryOperator → Expression → Expression
unary_node t P.Not e = Node t int_type (T.Unary U.Not e)
unary_node t op e = Node t (plain (type_in (promote e))) (T.Unary (typed_unary op) (promote e))

unfoldable pub sign_rule : ℕ → UnaryOperator → Expression → Rule Operand
sign_rule t op e =
    meets (needs UnaryOperand t (fits_unary op (type_in e)) ∷ []) >>
    pure (value_operand (unary_node t op e))

-- what a pointer points to; it is an lvalue unless it is a function or void
abbrev pub deref : ℕ → Expression → Operand
deref t e =
    record {
      node = Node t (pointee (type_in e)) (T.Deref e);
      lvalue = not (is_function (type_of (pointee (type_in e)))) && not (is_void (type_of (pointee (type_in e))));
      register = false;
    }

unfoldable pub deref_rule : ℕ → Expression → Rule Operand
deref_rule t e =
    meets (needs PointerOperand t (is_pointer (type_in e)) ∷ []) >>
    pure (deref t e)

-- the address of a function, or of an lvalue of no object that is declared `register`
unfoldable pub address_rule : ℕ → Operand → Rule Operand
address_rule t a =
    meets (needs AddressOperand t (is_function (type_in a.node) || (a.lvalue && not a.register)) ∷ []) >>
    pure (value_operand (Node t (plain (Pointer (type_at a.node))) (T.Address a.node)))

-- ---- `++` and `--` (6.3.2.4, 6.3.3.1)

-- an lvalue that can be changed (6.2.2.1)
abbrev pub is_modifiable : List RecordValue → Operand → Bool
is_modifiable records a =
    a.lvalue
    && not (is_array (type_in a.node))
    && is_complete records (type_in a.node)
    && is_free_of_const records (type_at a.node)

abbrev pub can_step : List RecordValue → CType → Bool
can_step records ty = is_integral ty || points_to_object records ty

unfoldable pub step_rule : ℕ → StepOperator → Operand → Rule Operand
step_rule t op a =
    asks records_in >>= λ records.
    meets (
    needs StepOperand t (can_step records (type_in a.node))
    ∷ needs ModifiableLvalue t (is_modifiable records a)
    ∷ []) >>
    pure (value_operand (Node t (unqualified (type_at a.node)) (T.Step op a.node)))

-- ---- `sizeof` (6.3.3.4)

-- its type is unsigned int
abbrev pub size_node : ℕ → ℕ → Expression
size_node t size = Node t (plain (Int K.UInt)) (T.Number size)

unfoldable pub size_rule : ℕ → Operand → Rule Operand
size_rule t a =
    asks records_in >>= λ records.
    meets (needs SizedOperand t (is_complete records (type_in a.node)) ∷ []) >>
    pure (value_operand (size_node t (unwrap_or (size_of records (type_in a.node)) 0)))

-- of a type, which the specifiers may have brought in
unfoldable pub type_size_rule : ℕ → Spot → QType → Rule Operand
type_size_rule t spot q =
    asks records_in >>= λ records.
    meets (completed records (record spot { token = t }) SizedOperand (type_of q) ∷ []) >>
    pure (value_operand (size_node t (unwrap_or (size_of records (type_of q)) 0)))

-- ---- casts (6.3.4)

-- to void everything, else from a scalar to a scalar; an object pointer and a function pointer are two things
abbrev pub fits_cast : CType → Expression → Bool
fits_cast to e =
    is_void to
    || (is_scalar to && is_scalar (type_in e)
    && not (is_pointer to && is_pointer (type_in e) && not (is_null_constant e)
    && not (same_truth (points_to_function to) (points_to_function (type_in e)))))

-- between a pointer and a number only the constant 0 is converted
abbrev pub mixes_pointer : CType → Expression → Bool
mixes_pointer to e =
    (is_integral to && is_pointer (type_in e))
    || (is_pointer to && is_integral (type_in e) && not (is_zero_constant e))

unfoldable pub cast_rule : ℕ → QType → Expression → Rule Operand
cast_rule t q e =
    meets (
    needs CastTypes t (fits_cast (type_of q) e)
    ∷ needs NoPointerCast t (not (mixes_pointer (type_of q) e))
    ∷ []) >>
    pure (value_operand (Node t (unqualified q) (T.Cast e)))

-- ---- binary operators (6.3.5 to 6.3.14, 6.3.17)

abbrev pub typed_binary : BinaryOperator → TypedOperator
typed_binary O.Multiply = B.Multiply
typed_binary O.Divide = B.Divide
typed_binary O.Remainder = B.Remainder
typed_binary O.Add = B.Add
typed_binary O.Subtract = B.Subtract
typed_binary O.LeftShift = B.ShiftLeft
typed_binary O.RightShift = B.ShiftRight
typed_binary O.Less = B.Less
typed_binary O.Greater = B.Greater
typed_binary O.LessEqual = B.LessEqual
typed_binary O.GreaterEqual = B.GreaterEqual
typed_binary O.Equal = B.Equal
typed_binary O.NotEqual = B.NotEqual
typed_binary O.BitAnd = B.And
typed_binary O.BitXor = B.ExclusiveOr
typed_binary _ = B.Or

abbrev pub both_integral : Expression → Expression → Bool
both_integral a b = is_integral (type_in a) && is_integral (type_in b)

-- a pointer to an object, and a number
abbrev pub pointer_and_number : List RecordValue → Expression → Expression → Bool
pointer_and_number records a b = points_to_object records (type_in a) && is_integral (type_in b)

-- pointers to what is compatible, qualifiers aside
abbrev pub pointers_agree : Expression → Expression → Bool
pointers_agree a b =
    is_pointer (type_in a) && is_pointer (type_in b)
    && compatible_types (type_of (pointee (type_in a))) (type_of (pointee (type_in b)))

abbrev pub points_into_objects : List RecordValue → Expression → Expression → Bool
points_into_objects records a b = pointers_agree a b && points_to_object records (type_in a) && points_to_object records (type_in b)

-- a pointer to an object or void, and a pointer to void
abbrev pub pointer_and_void : Expression → Expression → Bool
pointer_and_void a b =
    is_pointer (type_in a) && not (points_to_function (type_in a)) && points_to_void (type_in b)

-- a pointer, and the null pointer constant
abbrev pub pointer_and_null : Expression → Expression → Bool
pointer_and_null a b = is_pointer (type_in a) && is_null_constant b

-- pointers that may be compared for equality (6.3.9), and of which `?:` may choose (6.3.15)
abbrev pub pointers_meet : Expression → Expression → Bool
pointers_meet a b =
    pointers_agree a b
    || pointer_and_void a b || pointer_and_void b a
    || pointer_and_null a b || pointer_and_null b a

-- pointers to what is compatible and no function (6.3.8)
abbrev pub fits_order : Expression → Expression → Bool
fits_order a b = both_integral a b || (pointers_agree a b && not (points_to_function (type_in a)))

abbrev pub fits_binary : List RecordValue → BinaryOperator → Expression → Expression → Bool
-- 6.3.6
fits_binary records O.Add a b =
    both_integral a b || pointer_and_number records a b || pointer_and_number records b a
fits_binary records O.Subtract a b =
    both_integral a b || pointer_and_number records a b || points_into_objects records a b
-- 6.3.8
fits_binary records O.Less a b = fits_order a b
fits_binary records O.Greater a b = fits_order a b
fits_binary records O.LessEqual a b = fits_order a b
fits_binary records O.GreaterEqual a b = fits_order a b
-- 6.3.9
fits_binary records O.Equal a b = both_integral a b || pointers_meet a b
fits_binary records O.NotEqual a b = both_integral a b || pointers_meet a b
-- 6.3.5, 6.3.7, 6.3.10 to 6.3.12
fits_binary records _ a b = both_integral a b

-- two numbers in the type that they have in common
abbrev pub in_common : ℕ → CType → TypedOperator → Expression → Expression → Expression
in_common t result op a b =
    Node t (plain result) (T.Binary op (cast_to (common_type a b) a) (cast_to (common_type a b) b))

abbrev pub arithmetic_node : ℕ → TypedOperator → Expression → Expression → Expression
arithmetic_node t op a b = in_common t (common_type a b) op a b

-- each operand of a shift is promoted by itself, and the left one gives the type (6.3.7)
abbrev pub shift_node : ℕ → TypedOperator → Expression → Expression → Expression
shift_node t op a b = Node t (plain (type_in (promote a))) (T.Binary op (promote a) (promote b))

-- with the qualifiers of either
abbrev pub pointer_with_both : CType → QType → QType → CType
pointer_with_both ty a b = Pointer (Qualified ty (is_constant a || is_constant b) (is_volatile a || is_volatile b))

-- the pointer that two pointers become, of which one may be a null pointer constant
abbrev pub chosen_pointer : Expression → Expression → CType
chosen_pointer a b =
    if is_null_constant b && is_pointer (type_in a) then type_in a else
    if is_null_constant a then type_in b else
    if points_to_void (type_in a) || points_to_void (type_in b) then
    pointer_with_both Void (pointee (type_in a)) (pointee (type_in b)) else
    pointer_with_both (composite_type (type_of (pointee (type_in a))) (type_of (pointee (type_in b)))) (pointee (type_in a)) (pointee (type_in b))

-- what two compared pointers become
abbrev pub met_type : Expression → Expression → CType
met_type a b = chosen_pointer a b

abbrev pub comparison_node : ℕ → TypedOperator → Expression → Expression → Expression
comparison_node t op a b =
    if both_integral a b then in_common t (Int K.Int) op a b
    else Node t int_type (T.Binary op (cast_to (met_type a b) a) (cast_to (met_type a b) b))

-- pointer arithmetic, where a number is not converted (6.3.6)
abbrev pub sum_node : ℕ → TypedOperator → Expression → Expression → Expression
sum_node t op a b =
    if is_pointer (type_in a) then Node t (unqualified (type_at a)) (T.Binary op a b) else
    if is_pointer (type_in b) then Node t (unqualified (type_at b)) (T.Binary op a b) else
    arithmetic_node t op a b

-- a difference of pointers is an int
abbrev pub difference_node : ℕ → TypedOperator → Expression → Expression → Expression
difference_node t op a b =
    if is_pointer (type_in a) && is_pointer (type_in b) then Node t int_type (T.Binary op a b) else sum_node t op a b

abbrev pub binary_node : ℕ → BinaryOperator → Expression → Expression → Expression
binary_node t O.Add a b = sum_node t B.Add a b
binary_node t O.Subtract a b = difference_node t B.Subtract a b
binary_node t O.LeftShift a b = shift_node t B.ShiftLeft a b
binary_node t O.RightShift a b = shift_node t B.ShiftRight a b
binary_node t O.Less a b = comparison_node t B.Less a b
binary_node t O.Greater a b = comparison_node t B.Greater a b
binary_node t O.LessEqual a b = comparison_node t B.LessEqual a b
binary_node t O.GreaterEqual a b = comparison_node t B.GreaterEqual a b
binary_node t O.Equal a b = comparison_node t B.Equal a b
binary_node t O.NotEqual a b = comparison_node t B.NotEqual a b
binary_node t op a b = arithmetic_node t (typed_binary op) a b

unfoldable pub binary_rule : ℕ → BinaryOperator → Expression → Expression → Rule Operand
binary_rule t op a b =
    asks records_in >>= λ records.
    meets (needs BinaryOperands t (fits_binary records op a b) ∷ []) >>
    pure (value_operand (binary_node t op a b))

-- `&&` and `||` convert nothing (6.3.13, 6.3.14)
unfoldable pub logic_rule : ℕ → LogicOperator → Expression → Expression → Rule Operand
logic_rule t op a b =
    meets (needs LogicOperands t (is_scalar (type_in a) && is_scalar (type_in b)) ∷ []) >>
    pure (value_operand (Node t int_type (T.Logic op a b)))

abbrev pub comma_node : ℕ → Expression → Expression → Expression
comma_node t a b = Node t (unqualified (type_at b)) (T.Comma a b)

-- an operator that groups to the left
unfoldable pub operation_rule : ℕ → BinaryOperator → Expression → Expression → Rule Operand
operation_rule t O.And a b = logic_rule t L.And a b
operation_rule t O.Or a b = logic_rule t L.Or a b
operation_rule t O.Comma a b = pure (value_operand (comma_node t a b))
operation_rule t op a b = binary_rule t op a b

-- ---- `?:` (6.3.15)

abbrev pub same_record : CType → CType → Bool
same_record (Record n) (Record m) = n == m
same_record _ _ = false

abbrev pub fits_choice : Expression → Expression → Bool
fits_choice a b =
    both_integral a b
    || same_record (type_in a) (type_in b)
    || (is_void (type_in a) && is_void (type_in b))
    || pointers_meet a b

abbrev pub choice_type : Expression → Expression → CType
choice_type a b =
    if both_integral a b then common_type a b else
    if is_pointer (type_in a) || is_pointer (type_in b) then chosen_pointer a b else
    type_in a

unfoldable pub conditional_rule : ℕ → Expression → Expression → Expression → Rule Operand
conditional_rule t c a b =
    meets (needs ConditionalOperands t (is_scalar (type_in c) && fits_choice a b) ∷ []) >>
    pure (value_operand
    (Node t (plain (choice_type a b)) (T.Cond c (cast_to (choice_type a b) a) (cast_to (choice_type a b) b))))

-- ---- assignments (6.3.16)

-- a value of the right type, as an assignment, an argument, a `return` and an initialiser ask for it (6.3.16.1)
abbrev pub is_assignable : CType → Expression → Bool
is_assignable to e =
    (is_integral to && is_integral (type_in e))
    || same_record to (type_in e)
    || (is_pointer to && is_pointer (type_in e) && qualified_within (pointee (type_in e)) (pointee to)
    && (compatible_types (type_of (pointee to)) (type_of (pointee (type_in e)))
    || (points_to_void to && not (points_to_function (type_in e)))
    || (points_to_void (type_in e) && not (points_to_function to))))
    || (is_pointer to && is_null_constant e)

unfoldable pub assign_rule : ℕ → Operand → Expression → Rule Operand
assign_rule t a b =
    asks records_in >>= λ records.
    meets (
    needs ModifiableLvalue t (is_modifiable records a)
    ∷ needs AssignedType t (is_assignable (type_in a.node) b)
    ∷ []) >>
    pure (value_operand
    (Node t (unqualified (type_at a.node)) (T.Assign a.node (cast_to (type_in a.node) b))))

-- the operator of a compound assignment
abbrev pub compound_operator : AssignOperator → BinaryOperator
compound_operator A.Multiply = O.Multiply
compound_operator A.Divide = O.Divide
compound_operator A.Remainder = O.Remainder
compound_operator A.Add = O.Add
compound_operator A.Subtract = O.Subtract
compound_operator A.LeftShift = O.LeftShift
compound_operator A.RightShift = O.RightShift
compound_operator A.BitAnd = O.BitAnd
compound_operator A.BitXor = O.BitXor
compound_operator _ = O.BitOr

abbrev pub fits_sum : List RecordValue → CType → Expression → Bool
fits_sum records to b = is_integral (type_in b) && (is_integral to || points_to_object records to)

-- `+=` and `-=` also move a pointer; the others take numbers (6.3.16.2)
abbrev pub fits_compound : List RecordValue → BinaryOperator → CType → Expression → Bool
fits_compound records O.Add to b = fits_sum records to b
fits_compound records O.Subtract to b = fits_sum records to b
fits_compound records _ to b = is_integral to && is_integral (type_in b)

-- the type in which it works, and its right operand in the type that it has there
abbrev pub compound_node : ℕ → BinaryOperator → Expression → Expression → Expression
compound_node t O.LeftShift a b =
    Node t (unqualified (type_at a)) (T.Compound B.ShiftLeft (type_in (promote a)) a (promote b))
compound_node t O.RightShift a b =
    Node t (unqualified (type_at a)) (T.Compound B.ShiftRight (type_in (promote a)) a (promote b))
compound_node t op a b =
    if is_pointer (type_in a) then Node t (unqualified (type_at a)) (T.Compound (typed_binary op) (type_in a) a b)
    else Node t (unqualified (type_at a)) (T.Compound (typed_binary op) (common_type a b) a (cast_to (common_type a b) b))

unfoldable pub compound_rule : ℕ → BinaryOperator → Operand → Expression → Rule Operand
compound_rule t op a b =
    asks records_in >>= λ records.
    meets (
    needs ModifiableLvalue t (is_modifiable records a)
    ∷ needs CompoundOperands t (fits_compound records op (type_in a.node) b)
    ∷ []) >>
    pure (value_operand (compound_node t op a.node b))

unfoldable pub assignment_rule : ℕ → AssignOperator → Operand → Expression → Rule Operand
assignment_rule t A.Plain a b = assign_rule t a b
assignment_rule t op a b = compound_rule t (compound_operator op) a b

-- ---- postfixes (6.3.2)

-- `a[b]` is `*(a + b)` (6.3.2.1)
unfoldable pub index_rule : ℕ → Expression → Expression → Rule Operand
index_rule t a b =
    asks records_in >>= λ records.
    meets (needs SubscriptOperands t (pointer_and_number records a b || pointer_and_number records b a) ∷ []) >>
    pure (deref t (sum_node t B.Add a b))

-- each argument as an assignment to the parameter converts it (6.3.2.2)
abbrev pub arguments_fit : QTypes → List Expression → Bool
arguments_fit (OneType q ps) (e ∷ es) = is_assignable (type_of q) e && arguments_fit ps es
arguments_fit _ _ = true

abbrev pub arguments_cast : QTypes → List Expression → Expressions
arguments_cast (OneType q ps) (e ∷ es) = OneExpression (cast_to (type_of q) e) (arguments_cast ps es)
arguments_cast NoType (e ∷ es) = OneExpression e (arguments_cast NoType es)
arguments_cast ps [] = NoExpression

-- the type of the function that is called
abbrev pub callee_type : Expression → CType
callee_type e = type_of (pointee (type_in e))

-- directly by its name, parentheses aside, or through a pointer
abbrev pub call_node : ℕ → Expression → List Expression → Expression
call_node t (Node u q (T.Decay (Node w p (T.Function symbol)))) es =
    Node t (unqualified (result_of (type_of p))) (T.Call symbol (arguments_cast (parameters_of (type_of p)) es))
call_node t e es =
    Node t (unqualified (result_of (callee_type e))) (T.CallValue e (arguments_cast (parameters_of (callee_type e)) es))

unfoldable pub call_rule : ℕ → Expression → List Expression → Rule Operand
call_rule t e es =
    meets (
    needs CalledFunction t (points_to_function (type_in e))
    ∷ needs ArgumentCount t (count_of_types (parameters_of (callee_type e)) == length es)
    ∷ needs ArgumentTypes t (arguments_fit (parameters_of (callee_type e)) es)
    ∷ []) >>
    pure (value_operand (call_node t e es))

-- a member with its offset
abbrev pub member_in : List ℕ → ContentValue → Option (MemberValue × ℕ)
member_in name c = find (λ m. bytes_eq m.0.name name) (zip c.members c.offsets)

abbrev pub content_in : List RecordValue → CType → Option ContentValue
content_in records (Record n) = content_at records n
content_in records _ = None

abbrev pub member_of : List RecordValue → CType → List ℕ → Option (MemberValue × ℕ)
member_of records ty name = option_and_then (member_in name) (content_in records ty)

-- a member of an operand has the operand's qualifiers too
abbrev pub member_operand : ℕ → Operand → MemberValue × ℕ → Operand
member_operand t a m =
    record {
      node = Node t (qualify (is_constant (type_at a.node)) (is_volatile (type_at a.node)) m.0.ty) (T.Member a.node m.1);
      lvalue = a.lvalue;
      register = a.register;
    }

unfoldable pub select_rule : ℕ → Word → Operand → Rule Operand
select_rule t w a =
    asks records_in >>= λ records.
    granted DeclaredMember w.token [] (member_of records (type_in a.node) w.text) >>= λ m.
    pure (member_operand t a m)

-- `.` of a structure or union
unfoldable pub dot_rule : ℕ → Word → Operand → Rule Operand
dot_rule t w a =
    meets (needs RecordOperand t (is_record (type_in a.node)) ∷ []) >>
    select_rule t w a

-- `->` of a pointer to one (6.3.2.3)
unfoldable pub arrow_rule : ℕ → Word → Expression → Rule Operand
arrow_rule t w e =
    meets (needs RecordOperand t (is_pointer (type_in e) && is_record (type_of (pointee (type_in e)))) ∷ []) >>
    select_rule t w (deref t e)
