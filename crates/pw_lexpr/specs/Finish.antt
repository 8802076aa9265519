-- Lowering of an expression as the part of it that is evaluated first, and the step behind that.
use Rattle.std.specs.Prelude.{ℕ, if◌then◌else◌, Option, Some, None, List, [], ◌∷◌, ◌++◌}
use Rattle.pw_types.specs.Spines.{first_in}
use Rattle.pw_types.specs.TypeTrees.{QType, CType, type_of}
use Rattle.pw_types.specs.Kinds.{is_record}
use Rattle.pw_types.specs.TypedTrees.{Expression, Node, Form, type_at, form_of, Local, Global, Binary, Logic, Cond, Comma, Assign, Compound, Step, Member, Deref, Address, Call, CallValue}
use Rattle.pw_types.specs.declared.tree.BinaryOperator.{BinaryOperator}
use Rattle.pw_types.specs.declared.tree.LogicOperator.{LogicOperator}
use Rattle.pw_types.specs.declared.tree.LogicOperator.TheVariants as logic
use Rattle.pw_flow.specs.declared.flow.End.TheVariants.{Jump}
use Rattle.pw_lower.specs.declared.code.Code.{Code}
use Rattle.pw_lower.specs.Codes.{Lowered, temp_of, cut_here, lowered_as}
use Rattle.pw_lower.specs.Operators.{combined}
use Rattle.pw_lower.specs.Expressions.{Home, read, stored, copied, scalar_kind, updated, fork, in_result, decides, says, lower, arguments, Arguments}
use Rattle.pw_lower_forms.specs.Steps.{target_at, results, given, told, alone, call_named, call_value}

-- ---- what is evaluated first

-- what gives the address of a scalar lvalue
abbrev pub address_in : Form → Option Expression
address_in (Member a offset) = Some a
address_in (Deref a) = Some a
address_in _ = None

-- what gives the value of an lvalue's address
abbrev pub addressed_in : Expression → Option Expression
addressed_in (Node t ty (Local k)) = None
addressed_in (Node t ty (Global s)) = None
addressed_in (Node t ty (Member a offset)) = Some a
addressed_in (Node t ty (Deref a)) = Some a
addressed_in a = Some a

-- The part of an expression that is evaluated first: its first operand, but of a scalar that is written and of an
-- lvalue whose address is taken what gives the address.
abbrev pub first_evaluated : QType → Form → Option Expression
first_evaluated ty (Assign a b) = if is_record (type_of ty) then Some a else address_in (form_of a)
first_evaluated ty (Compound o work a b) = address_in (form_of a)
first_evaluated ty (Step o a) = address_in (form_of a)
first_evaluated ty (Address a) = addressed_in a
first_evaluated ty form = first_in form

abbrev pub first_part : Expression → Option Expression
first_part (Node t ty form) = first_evaluated ty form

-- the code of a part that may be absent
abbrev pub lower_first : Home → Option Expression → Code → Lowered
lower_first h None c = lowered_as None c
lower_first h (Some a) c = lower h a c

-- ---- what is behind it

-- a binary operator, whose left operand has a type
abbrev pub on_both : Home → BinaryOperator → CType → Expression → Lowered → Lowered
on_both h o left b x =
    let y = lower h b x.code in
    combined h.records o left (type_of (type_at b)) (temp_of x) (temp_of y) y.code

-- `&&` and `||`
abbrev pub logical : Home → LogicOperator → Expression → Lowered → Lowered
logical h logic.And b x =
    let f = fork 1 x in
    let yes = cut_here (Jump f.join) f.if_not (decides f.result (lower h b f.code)) in
    in_result f.result (cut_here (Jump f.join) f.join (says f.result 0 yes))
logical h logic.Or b x =
    let f = fork 1 x in
    let yes = cut_here (Jump f.join) f.if_not (says f.result 1 f.code) in
    in_result f.result (cut_here (Jump f.join) f.join (decides f.result (lower h b yes)))

-- `?:` of a type
abbrev pub conditional : Home → CType → Expression → Expression → Lowered → Lowered
conditional h ty b d x =
    let f = fork (results ty) x in
    let yes = cut_here (Jump f.join) f.if_not (given ty f.result (lower h b f.code)) in
    told ty f.result (cut_here (Jump f.join) f.join (given ty f.result (lower h d yes)))

-- an assignment to an lvalue of a type and a form
abbrev pub assigned : Home → CType → Form → Expression → Lowered → Lowered
assigned h ty a b x =
    if is_record ty
    then copied h.records ty (temp_of x) (lower h b x.code)
    else (let p = target_at h a x in stored (scalar_kind ty) p.target (lower h b p.code))

-- the same with an operator, which works in a type
abbrev pub compounded : Home → BinaryOperator → CType → CType → Form → Expression → Lowered → Lowered
compounded h o work ty a b x =
    let p = target_at h a x in
    let old = read (scalar_kind ty) p in
    updated h.records o work (type_of (type_at b)) (scalar_kind ty) p.target (temp_of old) (lower h b old.code)

-- an expression of a type and a form
unfoldable pub finish : Home → QType → Form → Lowered → Lowered
finish h ty (Binary o a b) x = on_both h o (type_of (type_at a)) b x
finish h ty (Logic o a b) x = logical h o b x
finish h ty (Cond a b d) x = conditional h (type_of ty) b d x
finish h ty (Comma a b) x = lower h b x.code
finish h ty (Assign a b) x = assigned h (type_of ty) (form_of a) b x
finish h ty (Compound o work a b) x = compounded h o work (type_of ty) (form_of a) b x
finish h ty (Call s args) x = call_named h (type_of ty) s (arguments h args x.code)
finish h ty (CallValue a args) x = call_value h (type_of ty) (type_at a) x (arguments h args x.code)
finish h ty form x = alone h ty form x

-- an expression behind the part that is evaluated first
abbrev pub finish_node : Home → Expression → Lowered → Lowered
finish_node h (Node t ty form) x = finish h ty form x

-- expressions of which each is evaluated first of the one before it, behind what is evaluated first of the last
abbrev pub finish_all : Home → List Expression → Lowered → Lowered
finish_all h [] x = x
finish_all h (e ∷ rest) x = finish_node h e (finish_all h rest x)

-- arguments behind others
abbrev pub with_temps : List ℕ → Arguments → Arguments
with_temps temps xs = record { code = xs.code; temps = temps ++ xs.temps }
