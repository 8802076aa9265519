-- Lowering of expressions (C90 6.3): operands from left to right, each side effect at once.
use Rattle.std.specs.Prelude.{ℕ, ◌+◌, ◌==◌, Bool, true, false, if◌then◌else◌, Option, Some, None, unwrap_or, List, [], ◌∷◌}
use Rattle.pw_value.specs.declared.value.Kind.{Kind}
use Rattle.pw_value.specs.declared.value.Kind.TheVariants.{W32}
pub use Rattle.pw_types.specs.Kinds.{is_void, is_record}
use Rattle.pw_types.specs.Shapes.{shape_of}
use Rattle.pw_types.specs.StepOperators.{step_operator}
use Rattle.pw_types.specs.TypeTrees.{CType, Void, Pointer, QType, Qualified, type_of, is_volatile, RecordValue}
pub use Rattle.pw_types.specs.FullNames.{full_name}
use Rattle.pw_types.specs.TypedTrees.{Hidden, Expression, Node, type_at, Number, Str, Local, Global, Function, Unary, Binary, Logic, Cond, Comma, Assign, Compound, Step, Cast, Decay, Member, Deref, Address, Call, CallValue, Expressions, NoExpression, OneExpression}
use Rattle.pw_types.specs.WellTyped.{promoted_type}
use Rattle.pw_types.specs.declared.tree.BinaryOperator.{BinaryOperator}
use Rattle.pw_types.specs.declared.tree.LogicOperator.TheVariants as logic
use Rattle.pw_types.specs.declared.tree.StepOperator.{StepOperator}
use Rattle.pw_flow.specs.declared.flow.Op.{Op}
use Rattle.pw_flow.specs.declared.flow.Op.TheVariants as op
use Rattle.pw_flow.specs.declared.flow.BinKind.TheVariants.{Add}
use Rattle.pw_flow.specs.declared.flow.End.TheVariants.{Jump, Branch}
use Rattle.pw_lower.specs.declared.code.Code.{Code}
use Rattle.pw_lower.specs.Codes.{Lowered, lowered_as, temp_of, emit, fresh, constant, reserve, reserve_temps, cut_here, value_is}
use Rattle.pw_lower.specs.declared.place.Target.{Target}
use Rattle.pw_lower.specs.declared.place.Target.TheVariants.{Kept, Named, Led}
use Rattle.pw_lower.specs.declared.place.LocalPlace.{LocalPlace}
use Rattle.pw_lower.specs.declared.place.LocalPlace.TheVariants.{Temp, Slot}
use Rattle.pw_lower.specs.Places.{place_at}
use Rattle.pw_lower.specs.Operators.{with, kind_of, bytes_of, unit_of, converted, combined, truth_in, unary_on, is_behind}

-- what an expression is lowered in: the module's name and record types, and the places of the function's locals
pub record Home : Type 0 where
  pub name : List ℕ
  pub records : List RecordValue
  pub places : List LocalPlace

abbrev pub shape_at : List RecordValue → QType → List ℕ
shape_at records (Qualified (Pointer (Qualified ty constant inner)) outer volatile) = shape_of records ty inner
shape_at records q = shape_of records (type_of q) (is_volatile q)

-- ---- lvalues

-- code behind which a scalar lvalue is there
pub record Placed : Type 0 where
  pub code : Code
  pub target : Target

abbrev pub led : Lowered → Placed
led x = record { code = x.code; target = Led (temp_of x) }

abbrev pub still : Target → Code → Placed
still target c = record { code = c; target = target }

-- its value is read into a new temporary
abbrev pub read_target : Kind → Target → Code → Lowered
read_target k (Kept x) c = fresh (λ t. op.Copy t x) c
read_target k (Named g) c = fresh (λ t. op.LoadG t g k) c
read_target k (Led a) c = fresh (λ t. op.Load k t a) c

abbrev pub read : Kind → Placed → Lowered
read k p = read_target k p.target p.code

-- a temporary's value is written there
abbrev pub write : Kind → Target → ℕ → Code → Code
write k (Kept x) v c = emit (op.Copy x v) c
write k (Named g) v c = emit (op.StoreG g v k) c
write k (Led a) v c = emit (op.Store k a v) c

-- an address and a number of bytes
abbrev pub further : ℕ → Lowered → Lowered
further offset x = if offset == 0 then x else with Add (temp_of x) (constant offset x.code)

abbrev pub address_of_global : List ℕ → Code → Lowered
address_of_global g c = fresh (λ t. op.AddrGlobal t g 0) c

abbrev pub address_of_function : List ℕ → Code → Lowered
address_of_function f c = fresh (λ t. op.AddrFn t f) c

abbrev pub address_of_local : LocalPlace → Code → Lowered
address_of_local (Temp x) c = value_is x c
address_of_local (Slot s) c = fresh (λ t. op.AddrSlot t s) c

abbrev pub target_of_local : LocalPlace → Code → Placed
target_of_local (Temp x) c = still (Kept x) c
target_of_local (Slot s) c = led (address_of_local (Slot s) c)

-- the value of an lvalue at an address: a scalar is read, and of all else the value is the address
abbrev pub value_at : Option Kind → Lowered → Lowered
value_at (Some k) x = read k (led x)
value_at None x = x

-- the value of a global: a scalar is read by its name
abbrev pub value_of_global : Option Kind → List ℕ → Code → Lowered
value_of_global (Some k) g c = read k (still (Named g) c)
value_of_global None g c = address_of_global g c

-- the value of a local: a scalar in a temporary is copied
abbrev pub value_of_local : Option Kind → LocalPlace → Code → Lowered
value_of_local (Some k) (Temp x) c = read k (still (Kept x) c)
value_of_local None (Temp x) c = value_is x c
value_of_local kind (Slot s) c = value_at kind (address_of_local (Slot s) c)

-- ---- assignments (C90 6.3.16, 6.3.2.4, 6.3.3.1)

-- a scalar's value is stored; it is the value of the assignment
abbrev pub stored : Kind → Target → Lowered → Lowered
stored k target x = record { code = write k target (temp_of x) x.code; temp = x.temp }

-- an object of a type is copied to an address from another; the value is the first address
abbrev pub copied : List RecordValue → CType → ℕ → Lowered → Lowered
copied records ty to x =
    record { code = emit (op.Move to (temp_of x) (bytes_of records ty) (unit_of records ty)) x.code; temp = Some to }

-- The kind of an lvalue that is a scalar.
abbrev pub scalar_kind : CType → Kind
scalar_kind ty = unwrap_or (kind_of ty) W32

-- What was read from a place, combined with a right operand in the type `ty`, converted to the place's kind, and
-- stored there.
abbrev pub updated : List RecordValue → BinaryOperator → CType → CType → Kind → Target → ℕ → Lowered → Lowered
updated records o ty right own target old x =
    stored own target (converted (kind_of ty) (Some own) (combined records o ty right old (temp_of x) x.code))

-- the value of `++` and `--`: what is stored, or, behind the operand, what was read
abbrev pub step_value : StepOperator → ℕ → Lowered → Lowered
step_value o old x = if is_behind o then record x { temp = Some old } else x

-- ---- `&&`, `||`, `?:` (C90 6.3.13 to 6.3.15)

-- The first operand has its value: a temporary for the result, and three blocks, the first two of which are
-- those where the value is not 0 and where it is.
pub record Fork : Type 0 where
  pub code : Code
  pub result : ℕ
  pub if_so : ℕ
  pub if_not : ℕ
  pub join : ℕ

abbrev pub fork : ℕ → Lowered → Fork
fork results x = record {
  code = cut_here (Branch (temp_of x) x.code.blocks (x.code.blocks + 1)) x.code.blocks
      (reserve 3 (reserve_temps results x.code));
  result = x.code.temps;
  if_so = x.code.blocks;
  if_not = x.code.blocks + 1;
  join = x.code.blocks + 2;
}

abbrev pub in_result : ℕ → Code → Lowered
in_result r c = value_is r c

-- the second operand's value decides: its truth is the result
abbrev pub decides : ℕ → Lowered → Code
decides r x = truth_in r (temp_of x) x.code

abbrev pub says : ℕ → ℕ → Code → Code
says r n c = emit (op.Const r n) c

-- a value that becomes the result
abbrev pub gives : ℕ → Lowered → Code
gives r x = emit (op.Copy r (temp_of x)) x.code

-- ---- calls (C90 6.3.2.2)

pub record Arguments : Type 0 where
  pub code : Code
  pub temps : List ℕ

-- a value of one type as one of another; as one of void it is none (C90 6.3.4)
abbrev pub cast_to : CType → CType → Lowered → Lowered
cast_to to from x = if is_void to then lowered_as None x.code else converted (kind_of from) (kind_of to) x

-- a call's result stands in a new temporary, unless its type is void
abbrev pub called : CType → (Option ℕ → Op) → Code → Lowered
called ty o c =
    if is_void ty
    then lowered_as None (emit (o None) c)
    else fresh (λ t. o (Some t)) c

-- ---- expressions

unfoldable mutual
  -- the value of an expression
  pub lower : Home → Expression → Code → Lowered
  lower h (Node t ty (Number n)) c = constant n c
  lower h (Node t ty (Str k)) c = address_of_global (full_name h.name (Hidden k)) c
  lower h (Node t ty (Local k)) c = value_of_local (kind_of (type_of ty)) (place_at h.places k) c
  lower h (Node t ty (Global s)) c = value_of_global (kind_of (type_of ty)) (full_name h.name s) c
  lower h (Node t ty (Function s)) c = address_of_function (full_name h.name s) c
  lower h (Node t ty (Unary o a)) c = let x = lower h a c in unary_on o (temp_of x) x.code
  lower h (Node t ty (Binary o a b)) c =
      let x = lower h a c in
      let y = lower h b x.code in
      combined h.records o (type_of (type_at a)) (type_of (type_at b)) (temp_of x) (temp_of y) y.code
  lower h (Node t ty (Logic logic.And a b)) c =
      let f = fork 1 (lower h a c) in
      let yes = cut_here (Jump f.join) f.if_not (decides f.result (lower h b f.code)) in
      in_result f.result (cut_here (Jump f.join) f.join (says f.result 0 yes))
  lower h (Node t ty (Logic logic.Or a b)) c =
      let f = fork 1 (lower h a c) in
      let yes = cut_here (Jump f.join) f.if_not (says f.result 1 f.code) in
      in_result f.result (cut_here (Jump f.join) f.join (decides f.result (lower h b yes)))
  lower h (Node t ty (Cond a b d)) c =
      if is_void (type_of ty)
      then (let f = fork 0 (lower h a c) in
      let yes = cut_here (Jump f.join) f.if_not (lower h b f.code).code in
      lowered_as None (cut_here (Jump f.join) f.join (lower h d yes).code))
      else (let f = fork 1 (lower h a c) in
      let yes = cut_here (Jump f.join) f.if_not (gives f.result (lower h b f.code)) in
      in_result f.result (cut_here (Jump f.join) f.join (gives f.result (lower h d yes))))
  lower h (Node t ty (Comma a b)) c = lower h b (lower h a c).code
  lower h (Node t ty (Assign a b)) c =
      if is_record (type_of ty)
      then (let x = lower h a c in copied h.records (type_of ty) (temp_of x) (lower h b x.code))
      else (let p = place h a c in stored (scalar_kind (type_of ty)) p.target (lower h b p.code))
  lower h (Node t ty (Compound o work a b)) c =
      let p = place h a c in
      let old = read (scalar_kind (type_of ty)) p in
      updated h.records o work (type_of (type_at b)) (scalar_kind (type_of ty)) p.target (temp_of old) (lower h b old.code)
  lower h (Node t ty (Step o a)) c =
      let p = place h a c in
      let old = read (scalar_kind (type_of ty)) p in
      step_value o (temp_of old)
      (updated h.records (step_operator o) (promoted_type (type_of ty)) Void (scalar_kind (type_of ty)) p.target (temp_of old) (constant 1 old.code))
  lower h (Node t ty (Cast a)) c = cast_to (type_of ty) (type_of (type_at a)) (lower h a c)
  lower h (Node t ty (Decay a)) c = lower h a c
  lower h (Node t ty (Member a offset)) c = value_at (kind_of (type_of ty)) (further offset (lower h a c))
  lower h (Node t ty (Deref a)) c = value_at (kind_of (type_of ty)) (lower h a c)
  lower h (Node t ty (Address (Node u own (Local k)))) c = address_of_local (place_at h.places k) c
  lower h (Node t ty (Address (Node u own (Global s)))) c = address_of_global (full_name h.name s) c
  lower h (Node t ty (Address (Node u own (Deref a)))) c = lower h a c
  lower h (Node t ty (Address (Node u own (Member a offset)))) c = further offset (lower h a c)
  lower h (Node t ty (Address a)) c = lower h a c
  lower h (Node t ty (Call s args)) c =
      let xs = arguments h args c in
      called (type_of ty) (λ r. op.Call r (full_name h.name s) xs.temps) xs.code
  lower h (Node t ty (CallValue a args)) c =
      let x = lower h a c in
      let xs = arguments h args x.code in
      called (type_of ty) (λ r. op.CallInd r (temp_of x) (shape_at h.records (type_at a)) xs.temps) xs.code

  -- where a scalar lvalue is
  pub place : Home → Expression → Code → Placed
  place h (Node t ty (Local k)) c = target_of_local (place_at h.places k) c
  place h (Node t ty (Global s)) c = still (Named (full_name h.name s)) c
  place h (Node t ty (Member a offset)) c = led (further offset (lower h a c))
  place h (Node t ty (Deref a)) c = led (lower h a c)
  place h (Node t ty form) c = still (Kept 0) c

  pub arguments : Home → Expressions → Code → Arguments
  arguments h NoExpression c = record { code = c; temps = [] }
  arguments h (OneExpression a rest) c =
      let x = lower h a c in
      let xs = arguments h rest x.code in
      record { code = xs.code; temps = temp_of x ∷ xs.temps }
