-- The forms of expressions behind the part that is evaluated first.
use Rattle.std.specs.Prelude.{ℕ, if◌then◌else◌, None}
use Rattle.pw_types.specs.StepOperators.{step_operator}
use Rattle.pw_types.specs.TypeTrees.{QType, CType, Void, type_of}
use Rattle.pw_types.specs.TypedTrees.{Symbol, Expression, Form, Hidden, type_at, form_of, Number, Str, Local, Global, Function, Unary, Step, Cast, Member, Deref, Address}
use Rattle.pw_types.specs.WellTyped.{promoted_type}
use Rattle.pw_types.specs.declared.tree.StepOperator.{StepOperator}
use Rattle.pw_flow.specs.declared.flow.Op.TheVariants as op
use Rattle.pw_lower.specs.declared.code.Code.{Code}
use Rattle.pw_lower.specs.declared.place.Target.TheVariants.{Kept, Named}
use Rattle.pw_lower.specs.Codes.{Lowered, temp_of, constant, lowered_as}
use Rattle.pw_lower.specs.Places.{place_at}
use Rattle.pw_lower.specs.Operators.{kind_of, unary_on}
use Rattle.pw_lower.specs.Expressions.{Home, full_name, shape_at, Placed, led, still, read, further, address_of_global, address_of_function, address_of_local, target_of_local, value_at, value_of_global, value_of_local, scalar_kind, updated, step_value, in_result, gives, cast_to, is_void, Arguments, called}

-- where a scalar lvalue is
abbrev pub target_at : Home → Form → Lowered → Placed
target_at h (Local k) x = target_of_local (place_at h.places k) x.code
target_at h (Global s) x = still (Named (full_name h.name s)) x.code
target_at h (Member a offset) x = led (further offset x)
target_at h (Deref a) x = led x
target_at h _ x = still (Kept 0) x.code

abbrev pub address_at : Home → Form → Lowered → Lowered
address_at h (Local k) x = address_of_local (place_at h.places k) x.code
address_at h (Global s) x = address_of_global (full_name h.name s) x.code
address_at h (Member a offset) x = further offset x
address_at h _ x = x

-- `++` and `--`
abbrev pub stepped : Home → StepOperator → CType → Expression → Lowered → Lowered
stepped h o ty a x =
    let p = target_at h (form_of a) x in
    let old = read (scalar_kind ty) p in
    step_value o (temp_of old)
    (updated h.records (step_operator o) (promoted_type ty) Void (scalar_kind ty) p.target (temp_of old) (constant 1 old.code))

-- how many results an operator of a type has
abbrev pub results : CType → ℕ
results ty = if is_void ty then 0 else 1

-- a value of a type becomes the result, unless the type is void
abbrev pub given : CType → ℕ → Lowered → Code
given ty r x = if is_void ty then x.code else gives r x

-- the result of a type
abbrev pub told : CType → ℕ → Code → Lowered
told ty r c = if is_void ty then lowered_as None c else in_result r c

-- the forms that have no operand behind the part that is evaluated first
abbrev pub alone : Home → QType → Form → Lowered → Lowered
alone h ty (Number n) x = constant n x.code
alone h ty (Str k) x = address_of_global (full_name h.name (Hidden k)) x.code
alone h ty (Local k) x = value_of_local (kind_of (type_of ty)) (place_at h.places k) x.code
alone h ty (Global s) x = value_of_global (kind_of (type_of ty)) (full_name h.name s) x.code
alone h ty (Function s) x = address_of_function (full_name h.name s) x.code
alone h ty (Unary o a) x = unary_on o (temp_of x) x.code
alone h ty (Step o a) x = stepped h o (type_of ty) a x
alone h ty (Cast a) x = cast_to (type_of ty) (type_of (type_at a)) x
alone h ty (Member a offset) x = value_at (kind_of (type_of ty)) (further offset x)
alone h ty (Deref a) x = value_at (kind_of (type_of ty)) x
alone h ty (Address a) x = address_at h (form_of a) x
alone h ty form x = x

-- calls, behind their arguments
abbrev pub call_named : Home → CType → Symbol → Arguments → Lowered
call_named h ty s xs = called ty (λ r. op.Call r (full_name h.name s) xs.temps) xs.code

abbrev pub call_value : Home → CType → QType → Lowered → Arguments → Lowered
call_value h ty pointer x xs = called ty (λ r. op.CallInd r (temp_of x) (shape_at h.records pointer) xs.temps) xs.code
