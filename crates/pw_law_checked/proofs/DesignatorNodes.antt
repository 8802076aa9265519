-- The nodes that operators make, and the leaves: those that name an object have no function's type.
use Rattle.std.specs.Prelude.{ℕ, ◌≡◌, Bool, true, false, ◌||◌, if◌then◌else◌, Option, Some, option_and_then, List, [], ◌∷◌, refl}
use Rattle.std.specs.List.{AllByRecursion}
use Rattle.std.proofs.Common.{ap, sym, subst, ◌∙◌}
use Rattle.pw_tree.specs.declared.operator.AssignOperator.{AssignOperator}
use Rattle.pw_tree.specs.declared.operator.AssignOperator.TheVariants as A
use Rattle.pw_tree.specs.declared.operator.BinaryOperator.{BinaryOperator}
use Rattle.pw_tree.specs.declared.operator.BinaryOperator.TheVariants as O
use Rattle.pw_tree.specs.declared.operator.UnaryOperator.{UnaryOperator}
use Rattle.pw_tree.specs.declared.operator.UnaryOperator.TheVariants as P
use Rattle.pw_tree.specs.Trees.{Word}
use Rattle.pw_types.specs.declared.tree.BinaryOperator.TheVariants as B
use Rattle.pw_types.specs.declared.tree.BinaryOperator.{BinaryOperator as TypedOperator}
use Rattle.pw_types.specs.declared.tree.LogicOperator.{LogicOperator}
use Rattle.pw_types.specs.declared.tree.StepOperator.{StepOperator}
use Rattle.pw_types.specs.TypeTrees.{CType, Void, Int, Pointer, Array, Function, Record, QType, QTypes, NoType, OneType, type_of}
use Rattle.pw_types.specs.TypedTrees.{Symbol, External, Internal, Hidden, Expression, Node, token_of, type_at}
use Rattle.pw_types.specs.TypedTrees as T
use Rattle.pw_types.specs.WellTyped.{type_in, IsFunctionType}
use Rattle.pw_check_walk.specs.Walks.{bind, granted}
use Rattle.pw_check_rules.specs.Kinds.{plain, unqualified, is_function, is_pointer, same_type}
use Rattle.pw_check_rules.specs.Leaves.{entity_operand, linked_operand, lvalue_operand, identifier_rule, number_rule, character_rule, string_rule, string_point}
use Rattle.pw_check_rules.specs.Linkage.{symbol_at}
use Rattle.pw_check_rules.specs.Operands.{Operand, value_operand, cast_to, promote, promoted_type, common_type, value_of, value_by}
use Rattle.pw_check_rules.specs.Operators.{value_rule, sign_rule, unary_node, deref, deref_rule, address_rule, step_rule, size_rule, type_size_rule, cast_rule, both_integral, in_common, arithmetic_node, shift_node, met_type, comparison_node, sum_node, difference_node, binary_node, typed_binary, binary_rule, logic_rule, operation_rule, conditional_rule, assign_rule, compound_node, compound_rule, assignment_rule, index_rule, arguments_cast, call_node, call_rule, member_of, select_rule, dot_rule, arrow_rule}
use Rattle.pw_check_rules.specs.States.{State, Entity, TypeName, EnumerationConstant, LocalObject, StaticObject, Linked, entity_of, records_in}
use Rattle.pw_check_rules.specs.Limits.{Spot}
use Rattle.pw_law_checked.proofs.Walking.{Post, post_granted, after_any}
use Rattle.pw_law_checked.proofs.Lists.{some_same, never_some, and_then_some}
use Rattle.pw_law_checked.proofs.Types.{no}
use Rattle.pw_law_checked.specs.Designators.{NamesObjects, AllNameObjects}

abbrev pub AreNamed : List Expression → Type 0
AreNamed es = AllByRecursion NamesObjects es

-- what a rule makes
abbrev pub Names : Operand × State → Type 0
Names r = NamesObjects r.0.node

abbrev pub NamesIn : Expression × State → Type 0
NamesIn r = NamesObjects r.0

-- ---- conversions

pub cast_names : (ty : CType) (e : Expression) → NamesObjects e → NamesObjects (cast_to ty e)
cast_names ty e h = by (same_type ty (type_in e))
  where
    by : (b : Bool) → NamesObjects (if b then e else Node (token_of e) (plain ty) (T.Cast e))
    by true = h
    by false = h

pub promote_names : (e : Expression) → NamesObjects e → NamesObjects (promote e)
promote_names e h = cast_names (promoted_type (type_in e)) e h

value_names : (a : Operand) → NamesObjects a.node → NamesObjects (value_of a)
value_names a h = by (type_in a.node) a.lvalue
  where
    by : (ty : CType) (b : Bool) → NamesObjects (value_by ty b a.node)
    by (Array q n) true = h
    by (Array q n) false = h
    by (Function q ps) b = h
    by Void b = h
    by (Int k) b = h
    by (Pointer q) b = h
    by (Record n) b = h

pub value_named : (a : Operand) (s : State) → NamesObjects a.node → Post (value_rule a s) NamesIn
unfolding value_rule bind
value_named a s h = λ met. value_names a h

-- ---- leaves

no_function : (y : CType) → is_function y ≡ false → IsFunctionType y → ⊥
no_function y e f = no (sym e ∙ ap is_function f.2)

object_names : (t : ℕ) (s : Symbol) (q : QType) → is_function (type_of q) ≡ false → NamesObjects (Node t q (T.Global s))
object_names t (External x) q e = no_function (type_of q) e
object_names t (Internal x) q e = tt
object_names t (Hidden k) q e = tt

linked_names : (s : State) (t place : ℕ) (q : QType) → NamesObjects (linked_operand s t place q).node
linked_names s t place q = by (is_function (type_of q)) refl
  where
    by : (b : Bool) → is_function (type_of q) ≡ b → NamesObjects (if b then value_operand (Node t q (T.Function (symbol_at s place))) else lvalue_operand false (Node t q (T.Global (symbol_at s place)))).node
    by true e = tt
    by false e = object_names t (symbol_at s place) q e

entity_names : (s : State) (t : ℕ) (x : Entity) (a : Operand) → entity_operand s t x ≡ Some a → NamesObjects a.node
entity_names s t (TypeName q) a e = never_some e
entity_names s t (EnumerationConstant n) a e = subst (λ (a : Operand). NamesObjects a.node) (some_same e) tt
entity_names s t (LocalObject k q register) a e = subst (λ (a : Operand). NamesObjects a.node) (some_same e) tt
entity_names s t (StaticObject k q) a e = subst (λ (a : Operand). NamesObjects a.node) (some_same e) tt
entity_names s t (Linked place q) a e = subst (λ (a : Operand). NamesObjects a.node) (some_same e) (linked_names s t place q)

pub identifier_named : (w : Word) (s : State) → Post (identifier_rule w s) Names
unfolding identifier_rule bind
identifier_named w s =
    post_granted _ w.token [] (option_and_then (entity_operand s w.token) (entity_of s w.text)) s Names (λ a e met.
    let x = and_then_some (entity_operand s w.token) (entity_of s w.text) a e in
    entity_names s w.token x.0 a x.2)

pub number_named : (w : Word) (s : State) → Post (number_rule w s) Names
unfolding number_rule bind
number_named w s = λ met. tt

pub character_named : (w : Word) (s : State) → Post (character_rule w s) Names
unfolding character_rule bind
character_named w s = λ met. tt

pub string_named : (ws : List Word) (s : State) → Post (string_rule ws s) Names
unfolding string_rule string_point bind
string_named ws s = λ met. tt

-- ---- operators

unary_names : (t : ℕ) (op : UnaryOperator) (e : Expression) → NamesObjects e → NamesObjects (unary_node t op e)
unary_names t P.Not e h = h
unary_names t P.Plus e h = promote_names e h
unary_names t P.Minus e h = promote_names e h
unary_names t P.Complement e h = promote_names e h
unary_names t P.Address e h = promote_names e h
unary_names t P.Dereference e h = promote_names e h
unary_names t P.Increment e h = promote_names e h
unary_names t P.Decrement e h = promote_names e h
unary_names t P.Sizeof e h = promote_names e h

pub sign_named : (t : ℕ) (op : UnaryOperator) (e : Expression) (s : State) → NamesObjects e → Post (sign_rule t op e s) Names
unfolding sign_rule bind
sign_named t op e s h = λ met. unary_names t op e h

pub deref_named : (t : ℕ) (e : Expression) (s : State) → NamesObjects e → Post (deref_rule t e s) Names
unfolding deref_rule bind
deref_named t e s h = λ met. h

pub address_named : (t : ℕ) (a : Operand) (s : State) → NamesObjects a.node → Post (address_rule t a s) Names
unfolding address_rule bind
address_named t a s h = λ met. h

pub step_named : (t : ℕ) (op : StepOperator) (a : Operand) (s : State) → NamesObjects a.node → Post (step_rule t op a s) Names
unfolding step_rule bind
step_named t op a s h = λ met. h

pub size_named : (t : ℕ) (a : Operand) (s : State) → Post (size_rule t a s) Names
unfolding size_rule bind
size_named t a s = λ met. tt

pub type_size_named : (t : ℕ) (spot : Spot) (q : QType) (s : State) → Post (type_size_rule t spot q s) Names
unfolding type_size_rule bind
type_size_named t spot q s = λ met. tt

pub cast_named : (t : ℕ) (q : QType) (e : Expression) (s : State) → NamesObjects e → Post (cast_rule t q e s) Names
unfolding cast_rule bind
cast_named t q e s h = λ met. h

common_names : (t : ℕ) (ty : CType) (op : TypedOperator) (a b : Expression) → NamesObjects a → NamesObjects b → NamesObjects (in_common t ty op a b)
common_names t ty op a b h k = (cast_names (common_type a b) a h, cast_names (common_type a b) b k)

shift_names : (t : ℕ) (op : TypedOperator) (a b : Expression) → NamesObjects a → NamesObjects b → NamesObjects (shift_node t op a b)
shift_names t op a b h k = (promote_names a h, promote_names b k)

sum_names : (t : ℕ) (op : TypedOperator) (a b : Expression) → NamesObjects a → NamesObjects b → NamesObjects (sum_node t op a b)
sum_names t op a b h k = by (is_pointer (type_in a)) (is_pointer (type_in b))
  where
    by : (x y : Bool) → NamesObjects (if x then Node t (unqualified (type_at a)) (T.Binary op a b) else if y then Node t (unqualified (type_at b)) (T.Binary op a b) else arithmetic_node t op a b)
    by true y = (h, k)
    by false true = (h, k)
    by false false = common_names t (common_type a b) op a b h k

difference_names : (t : ℕ) (op : TypedOperator) (a b : Expression) → NamesObjects a → NamesObjects b → NamesObjects (difference_node t op a b)
difference_names t op a b h k = by (Rattle.std.specs.Prelude.◌&&◌ (is_pointer (type_in a)) (is_pointer (type_in b)))
  where
    by : (x : Bool) → NamesObjects (if x then Node t Rattle.pw_check_rules.specs.Kinds.int_type (T.Binary op a b) else sum_node t op a b)
    by true = (h, k)
    by false = sum_names t op a b h k

comparison_names : (t : ℕ) (op : TypedOperator) (a b : Expression) → NamesObjects a → NamesObjects b → NamesObjects (comparison_node t op a b)
comparison_names t op a b h k = by (both_integral a b)
  where
    by : (x : Bool) → NamesObjects (if x then in_common t (Int Rattle.pw_types.specs.declared.kind.IntKind.TheVariants.Int) op a b
        else Node t Rattle.pw_check_rules.specs.Kinds.int_type (T.Binary op (cast_to (met_type a b) a) (cast_to (met_type a b) b)))
    by true = common_names t (Int Rattle.pw_types.specs.declared.kind.IntKind.TheVariants.Int) op a b h k
    by false = (cast_names (met_type a b) a h, cast_names (met_type a b) b k)

binary_names : (t : ℕ) (op : BinaryOperator) (a b : Expression) → NamesObjects a → NamesObjects b → NamesObjects (binary_node t op a b)
binary_names t O.Add a b h k = sum_names t B.Add a b h k
binary_names t O.Subtract a b h k = difference_names t B.Subtract a b h k
binary_names t O.LeftShift a b h k = shift_names t B.ShiftLeft a b h k
binary_names t O.RightShift a b h k = shift_names t B.ShiftRight a b h k
binary_names t O.Less a b h k = comparison_names t B.Less a b h k
binary_names t O.Greater a b h k = comparison_names t B.Greater a b h k
binary_names t O.LessEqual a b h k = comparison_names t B.LessEqual a b h k
binary_names t O.GreaterEqual a b h k = comparison_names t B.GreaterEqual a b h k
binary_names t O.Equal a b h k = comparison_names t B.Equal a b h k
binary_names t O.NotEqual a b h k = comparison_names t B.NotEqual a b h k
binary_names t O.Multiply a b h k = common_names t (common_type a b) (typed_binary O.Multiply) a b h k
binary_names t O.Divide a b h k = common_names t (common_type a b) (typed_binary O.Divide) a b h k
binary_names t O.Remainder a b h k = common_names t (common_type a b) (typed_binary O.Remainder) a b h k
binary_names t O.BitAnd a b h k = common_names t (common_type a b) (typed_binary O.BitAnd) a b h k
binary_names t O.BitXor a b h k = common_names t (common_type a b) (typed_binary O.BitXor) a b h k
binary_names t O.BitOr a b h k = common_names t (common_type a b) (typed_binary O.BitOr) a b h k
binary_names t O.And a b h k = common_names t (common_type a b) (typed_binary O.And) a b h k
binary_names t O.Or a b h k = common_names t (common_type a b) (typed_binary O.Or) a b h k
binary_names t O.Comma a b h k = common_names t (common_type a b) (typed_binary O.Comma) a b h k

binary_named : (t : ℕ) (op : BinaryOperator) (a b : Expression) (s : State) → NamesObjects a → NamesObjects b → Post (binary_rule t op a b s) Names
unfolding binary_rule bind
binary_named t op a b s h k = λ met. binary_names t op a b h k

logic_named : (t : ℕ) (op : LogicOperator) (a b : Expression) (s : State) → NamesObjects a → NamesObjects b → Post (logic_rule t op a b s) Names
unfolding logic_rule bind
logic_named t op a b s h k = λ met. (h, k)

pub operation_named : (t : ℕ) (op : BinaryOperator) (a b : Expression) (s : State) → NamesObjects a → NamesObjects b → Post (operation_rule t op a b s) Names
unfolding operation_rule
operation_named t O.And a b s h k = logic_named t _ a b s h k
operation_named t O.Or a b s h k = logic_named t _ a b s h k
operation_named t O.Comma a b s h k = (h, k)
operation_named t O.Multiply a b s h k = binary_named t O.Multiply a b s h k
operation_named t O.Divide a b s h k = binary_named t O.Divide a b s h k
operation_named t O.Remainder a b s h k = binary_named t O.Remainder a b s h k
operation_named t O.Add a b s h k = binary_named t O.Add a b s h k
operation_named t O.Subtract a b s h k = binary_named t O.Subtract a b s h k
operation_named t O.LeftShift a b s h k = binary_named t O.LeftShift a b s h k
operation_named t O.RightShift a b s h k = binary_named t O.RightShift a b s h k
operation_named t O.Less a b s h k = binary_named t O.Less a b s h k
operation_named t O.Greater a b s h k = binary_named t O.Greater a b s h k
operation_named t O.LessEqual a b s h k = binary_named t O.LessEqual a b s h k
operation_named t O.GreaterEqual a b s h k = binary_named t O.GreaterEqual a b s h k
operation_named t O.Equal a b s h k = binary_named t O.Equal a b s h k
operation_named t O.NotEqual a b s h k = binary_named t O.NotEqual a b s h k
operation_named t O.BitAnd a b s h k = binary_named t O.BitAnd a b s h k
operation_named t O.BitXor a b s h k = binary_named t O.BitXor a b s h k
operation_named t O.BitOr a b s h k = binary_named t O.BitOr a b s h k

pub conditional_named : (t : ℕ) (x a b : Expression) (s : State) → NamesObjects x → NamesObjects a → NamesObjects b → Post (conditional_rule t x a b s) Names
unfolding conditional_rule bind
conditional_named t x a b s g h k = λ met. (g, cast_names _ a h, cast_names _ b k)

-- ---- assignments

assign_named : (t : ℕ) (a : Operand) (b : Expression) (s : State) → NamesObjects a.node → NamesObjects b → Post (assign_rule t a b s) Names
unfolding assign_rule bind
assign_named t a b s h k = λ met. (h, cast_names _ b k)

compound_names : (t : ℕ) (op : BinaryOperator) (a b : Expression) → NamesObjects a → NamesObjects b → NamesObjects (compound_node t op a b)
compound_names t op a b h k = by op
  where
    tested : (op : TypedOperator) (x : Bool) → NamesObjects (if x then Node t (unqualified (type_at a)) (T.Compound op (type_in a) a b) else Node t (unqualified (type_at a)) (T.Compound op (common_type a b) a (cast_to (common_type a b) b)))
    tested op true = (h, k)
    tested op false = (h, cast_names (common_type a b) b k)

    by : (op : BinaryOperator) → NamesObjects (compound_node t op a b)
    by O.LeftShift = (h, promote_names b k)
    by O.RightShift = (h, promote_names b k)
    by O.Add = tested (typed_binary O.Add) (is_pointer (type_in a))
    by O.Subtract = tested (typed_binary O.Subtract) (is_pointer (type_in a))
    by O.Less = tested (typed_binary O.Less) (is_pointer (type_in a))
    by O.Greater = tested (typed_binary O.Greater) (is_pointer (type_in a))
    by O.LessEqual = tested (typed_binary O.LessEqual) (is_pointer (type_in a))
    by O.GreaterEqual = tested (typed_binary O.GreaterEqual) (is_pointer (type_in a))
    by O.Equal = tested (typed_binary O.Equal) (is_pointer (type_in a))
    by O.NotEqual = tested (typed_binary O.NotEqual) (is_pointer (type_in a))
    by O.Multiply = tested (typed_binary O.Multiply) (is_pointer (type_in a))
    by O.Divide = tested (typed_binary O.Divide) (is_pointer (type_in a))
    by O.Remainder = tested (typed_binary O.Remainder) (is_pointer (type_in a))
    by O.BitAnd = tested (typed_binary O.BitAnd) (is_pointer (type_in a))
    by O.BitXor = tested (typed_binary O.BitXor) (is_pointer (type_in a))
    by O.BitOr = tested (typed_binary O.BitOr) (is_pointer (type_in a))
    by O.And = tested (typed_binary O.And) (is_pointer (type_in a))
    by O.Or = tested (typed_binary O.Or) (is_pointer (type_in a))
    by O.Comma = tested (typed_binary O.Comma) (is_pointer (type_in a))

compound_named : (t : ℕ) (op : BinaryOperator) (a : Operand) (b : Expression) (s : State) → NamesObjects a.node → NamesObjects b → Post (compound_rule t op a b s) Names
unfolding compound_rule bind
compound_named t op a b s h k = λ met. compound_names t op a.node b h k

pub assignment_named : (t : ℕ) (op : AssignOperator) (a : Operand) (b : Expression) (s : State) → NamesObjects a.node → NamesObjects b → Post (assignment_rule t op a b s) Names
unfolding assignment_rule
assignment_named t A.Plain a b s h k = assign_named t a b s h k
assignment_named t A.Multiply a b s h k = compound_named t _ a b s h k
assignment_named t A.Divide a b s h k = compound_named t _ a b s h k
assignment_named t A.Remainder a b s h k = compound_named t _ a b s h k
assignment_named t A.Add a b s h k = compound_named t _ a b s h k
assignment_named t A.Subtract a b s h k = compound_named t _ a b s h k
assignment_named t A.LeftShift a b s h k = compound_named t _ a b s h k
assignment_named t A.RightShift a b s h k = compound_named t _ a b s h k
assignment_named t A.BitAnd a b s h k = compound_named t _ a b s h k
assignment_named t A.BitXor a b s h k = compound_named t _ a b s h k
assignment_named t A.BitOr a b s h k = compound_named t _ a b s h k

-- ---- postfixes

pub index_named : (t : ℕ) (a b : Expression) (s : State) → NamesObjects a → NamesObjects b → Post (index_rule t a b s) Names
unfolding index_rule bind
index_named t a b s h k = λ met. sum_names t _ a b h k

arguments_names : (ps : QTypes) (es : List Expression) → AreNamed es → AllNameObjects (arguments_cast ps es)
arguments_names NoType [] all = tt
arguments_names NoType (e ∷ es) all = (all.0, arguments_names NoType es all.1)
arguments_names (OneType q ps) [] all = tt
arguments_names (OneType q ps) (e ∷ es) all = (cast_names (type_of q) e all.0, arguments_names ps es all.1)

call_names : (t : ℕ) (e : Expression) (es : List Expression) → NamesObjects e → AreNamed es → NamesObjects (call_node t e es)
call_names t (Node u q (T.Decay (Node w p (T.Function symbol)))) es h all = arguments_names _ es all
call_names t e es h all = (h, arguments_names _ es all)

pub call_named : (t : ℕ) (e : Expression) (es : List Expression) (s : State) → NamesObjects e → AreNamed es → Post (call_rule t e es s) Names
unfolding call_rule bind
call_named t e es s h all = λ met. call_names t e es h all

select_named : (t : ℕ) (w : Word) (a : Operand) (s : State) → NamesObjects a.node → Post (select_rule t w a s) Names
unfolding select_rule bind
select_named t w a s h = after_any (granted _ w.token [] (member_of (records_in s) (type_in a.node) w.text) s) _ Names (λ r. h)

pub dot_named : (t : ℕ) (w : Word) (a : Operand) (s : State) → NamesObjects a.node → Post (dot_rule t w a s) Names
unfolding dot_rule bind
dot_named t w a s h = λ met. select_named t w a s h

pub arrow_named : (t : ℕ) (w : Word) (e : Expression) (s : State) → NamesObjects e → Post (arrow_rule t w e s) Names
unfolding arrow_rule bind
arrow_named t w e s h = λ met. select_named t w (deref t e) s h
