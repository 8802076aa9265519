-- What the walk over lowered code asks, so that its operations keep the limits and name no function that the program starts with.
use Rattle.std.proofs.Common.{◌≡◌, ℕ, zero, suc, ◌<◌, ◌≤◌, ◌^◌, nat_lt, Bool, true, false, if◌then◌else◌, Option, Some, None, IfSome, IsSome, option_map, unwrap_or, List, [], ◌∷◌, length, refl, subst, arith}
use Rattle.std.specs.Prelude.{All, slice_get}
use Rattle.std.specs.Option.{option_or}
use Rattle.std.proofs.lemmas.Bool.{ltb-false}
use Rattle.std.proofs.lemmas.List.Elements.{recursion_from_All}
use Rattle.std.specs.List.{AllByRecursion}
use Rattle.pw_value.specs.ProgramNames.{IsOrdinary}
use Rattle.pw_value.specs.Limits.{size_limit, parameter_limit}
use Rattle.pw_types.specs.declared.kind.IntKind.{IntKind}
use Rattle.pw_types.specs.declared.kind.IntKind.TheVariants as K
use Rattle.pw_types.specs.Conversions.{size_of_kind}
use Rattle.pw_types.specs.Layouts.{content_at, size_of}
use Rattle.pw_types.specs.Sizes.{passing, oversize_of}
use Rattle.pw_types.specs.Kinds.{is_record}
use Rattle.pw_types.specs.TypeTrees.{CType, Void, Int, Pointer, Array, Function as FunctionType, Record, QType, Qualified, type_of, ContentValue, RecordValue}
use Rattle.pw_types.specs.TypedTrees.{Symbol, External, Internal, Expression, Form, Node, type_at, Number, Str, Global, Function, Binary, Assign, Compound, Step, Member, Call, CallValue, Expressions, NoExpression, OneExpression, Hidden, LocalValue, ModuleValue}
use Rattle.pw_types.specs.WellTyped.{promoted_type, type_in, IsComplete, IsMember, IsNumber, IsObject, IsFunctionOf, IsTyped}
use Rattle.pw_flow.specs.FlowGraph.{op_names}
use Rattle.pw_flow.specs.ValidFlow.{IsWord}
use Rattle.pw_flow.specs.declared.flow.Block.{Block}
use Rattle.pw_law_lower.specs.Bounds.{IsBounded}
use Rattle.pw_flow.specs.declared.flow.Op.{Op}
use Rattle.pw_flow.specs.declared.flow.Op.TheVariants as op
use Rattle.pw_lower.specs.Operators.{target_size, bytes_of}
use Rattle.pw_types.specs.FullNames.{full_name}
use Rattle.pw_law_lower.specs.Within.{AreLetters, IsCopied, AreRecordsWithin, IsSized, count_of, IsSmall, AreSmall}
use Rattle.pw_law_lower_walk.specs.Parts.{EachExpression, Parts}
use Rattle.pw_law_lower_walk.specs.Given.{IsBare, OfNumber, OfSize, OfCopy, OfObject, NodeIn, Nodes}
use Rattle.pw_law_lower_walk.proofs.Both.{both_parts}
use Rattle.pw_law_lower_walk.proofs.Typed.{typed_parts}
use Rattle.pw_law_lower.proofs.Names.{IsShared, name_ordinary}
use Rattle.pw_law_lower.proofs.Objects.{declared_shared}

-- an operation that keeps the limits and names no function that the program starts with
abbrev pub IsPlainOp : Op → Type 0
IsPlainOp o = IsBounded o × AllByRecursion IsOrdinary (op_names o)

abbrev pub IsPlainBlock : Block → Type 0
IsPlainBlock b = IsWord b.depth × AllByRecursion IsPlainOp b.ops

-- ---- sizes

size_small : (k : IntKind) → size_of_kind k < 2 ^ 32
size_small K.Char = omega arith
size_small K.SChar = omega arith
size_small K.UChar = omega arith
size_small K.Short = omega arith
size_small K.UShort = omega arith
size_small K.Int = omega arith
size_small K.UInt = omega arith
size_small K.Long = omega arith
size_small K.ULong = omega arith

passed_by : (b : Bool) (s : ℕ) → nat_lt size_limit s ≡ b → (if b then Some s else None) ≡ None → s < 2 ^ 32
passed_by true s t e = absurd cc
passed_by false s t e = omega (arith, ltb-false size_limit s t)

pass_small : (size : Option ℕ) → passing size ≡ None → unwrap_or size 0 < 2 ^ 32
pass_small None e = omega arith
pass_small (Some s) e = passed_by (nat_lt size_limit s) s refl e

second_none : (a b : Option ℕ) → option_or a b ≡ None → b ≡ None
second_none None b e = e
second_none (Some s) b e = absurd cc

bytes_small : (records : List RecordValue) (ty : CType) → IsSized records ty → bytes_of records ty < 2 ^ 32
bytes_small records Void e = omega arith
bytes_small records (Int k) e = size_small k
bytes_small records (Pointer q) e = omega arith
bytes_small records (Array (Qualified t c v) n) e =
    pass_small (size_of records (Array (Qualified t c v) n)) (second_none (oversize_of records t) (passing (size_of records (Array (Qualified t c v) n))) e)
bytes_small records (FunctionType q ps) e = omega arith
bytes_small records (Record n) e = pass_small (size_of records (Record n)) e

target_small : (records : List RecordValue) (ty : CType) → IsSized records ty → IfSome (target_size records ty) IsWord
target_small records Void e = tt
target_small records (Int k) e = tt
target_small records (Pointer (Qualified t c v)) e = bytes_small records t e
target_small records (Array q n) e = tt
target_small records (FunctionType q ps) e = tt
target_small records (Record n) e = tt

step_small : (records : List RecordValue) (ty : CType) → IsSized records ty → IfSome (target_size records (promoted_type ty)) IsWord
step_small records Void e = tt
step_small records (Int k) e = tt
step_small records (Pointer q) e = target_small records (Pointer q) e
step_small records (Array q n) e = tt
step_small records (FunctionType q ps) e = tt
step_small records (Record n) e = tt

pub number_small : (ty : CType) (n : ℕ) → IsNumber ty n → n < 2 ^ 32
number_small Void n h = absurd h
number_small (Int k) n h = h.0
number_small (Pointer q) n h = absurd h
number_small (Array q k) n h = absurd h
number_small (FunctionType q ps) n h = absurd h
number_small (Record k) n h = absurd h

pub at_place : {X : Type 0} (P : X → Type 0) (xs : List X) (k : ℕ) (x : X) → AllByRecursion P xs → slice_get xs k ≡ Some x → P x
at_place P [] k x h e = cc
at_place P (y ∷ ys) zero x h e = let same : y ≡ x = cc in subst P same h.0
at_place P (y ∷ ys) (suc k) x h e = at_place P ys k x h.1 e

defined_copied : (records : List RecordValue) (n : ℕ) (content : Option ContentValue) → AreRecordsWithin records → content_at records n ≡ content → IsSome (option_map (λ c. c.layout) content) → IsCopied records (Record n)
defined_copied records n None w e s = absurd cc
defined_copied records n (Some c) w e s = (w n c e).copied

record_copied : (records : List RecordValue) (ty : CType) → AreRecordsWithin records → IsComplete records ty → is_record ty ≡ true → IsCopied records ty
record_copied records Void w c e = absurd cc
record_copied records (Int k) w c e = absurd cc
record_copied records (Pointer q) w c e = absurd cc
record_copied records (Array q n) w c e = absurd cc
record_copied records (FunctionType q ps) w c e = absurd cc
record_copied records (Record n) w c e = defined_copied records n (content_at records n) w refl c

offset_small : (records : List RecordValue) (of ty : QType) (offset : ℕ) → AreRecordsWithin records → IsMember records of ty offset → offset < 2 ^ 32
offset_small records of ty offset w h =
    at_place (λ (o : ℕ). o < 2 ^ 32) h.content.offsets h.place offset (recursion_from_All (λ (o : ℕ). o < 2 ^ 32) h.content.offsets (w h.number h.content h.defined).offsets) h.offset_is

sized_node : (records : List RecordValue) (e : Expression) → IsSmall records e → IsSized records (type_in e)
sized_node records (Node t y form) s = s.0

-- ---- operations

bare_plain : (o : Op) → IsBare o → IsPlainOp o
bare_plain (op.Const t n) h = let small : n ≤ 1 = h in (omega (arith, small), tt)
bare_plain (op.AddrGlobal t g n) h = absurd h
bare_plain (op.AddrFn t f) h = absurd h
bare_plain (op.LoadG t g k) h = absurd h
bare_plain (op.StoreG g a k) h = absurd h
bare_plain (op.Move to from size unit) h = absurd h
bare_plain (op.Call t f args) h = absurd h
bare_plain (op.CallInd t a shape args) h = absurd h
bare_plain o h = (tt, tt)

pub number_plain : (n : ℕ) → n < 2 ^ 32 → OfNumber IsPlainOp n
number_plain n h = λ t. (h, tt)

size_plain : (size : Option ℕ) → IfSome size IsWord → OfSize IsPlainOp size
size_plain None h = tt
size_plain (Some n) h = number_plain n h

pub copy_plain : (records : List RecordValue) (ty : CType) → IsCopied records ty → OfCopy IsPlainOp records ty
copy_plain records ty h = λ to from. (h, tt)

pub object_plain : (g : List ℕ) → IsOrdinary g → OfObject IsPlainOp g
object_plain g h = record { address = λ t. (omega arith, (h, tt)); read = λ t k. (tt, (h, tt)); written = λ a k. (tt, (h, tt)) }

-- ---- expressions

module _ (m : ModuleValue) (known : AreRecordsWithin m.records) (ids : All (λ d. AreLetters d.name) m.declared) (locals : List LocalValue) (name : List ℕ) where
  object-shared : (s : Symbol) (ty : QType) → IsObject m s ty → IsShared s
  object-shared (External x) ty w = subst AreLetters w.name_is (declared_shared m ids w.entry w.there)
  object-shared (Internal x) ty w = tt
  object-shared (Hidden k) ty w = tt

  function-shared : (s : Symbol) (ty : QType) → IsFunctionOf m s ty → IsShared s
  function-shared (External x) ty w = subst AreLetters w.name_is (declared_shared m ids w.entry w.there)
  function-shared (Internal x) ty w = tt
  function-shared (Hidden k) ty w = tt

  object-ordinary : (s : Symbol) (ty : QType) → IsObject m s ty → IsOrdinary (full_name name s)
  object-ordinary s ty w = name_ordinary name s (object-shared s ty w)

  function-ordinary : (s : Symbol) (ty : QType) → IsFunctionOf m s ty → IsOrdinary (full_name name s)
  function-ordinary s ty w = name_ordinary name s (function-shared s ty w)

  -- an expression that is well typed and keeps the limits
  abbrev pub IsPlainTree : Expression → Type 0
  IsPlainTree e = IsTyped m locals e × IsSmall m.records e

  arguments_small : (args : Expressions) → AreSmall m.records args → EachExpression (IsSmall m.records) args
  arguments_small NoExpression s = tt
  arguments_small (OneExpression e rest) s = (s.0, arguments_small rest s.1)

  parts_small : (t : ℕ) (y : QType) (form : Form) → IsSmall m.records (Node t y form) → Parts (IsSmall m.records) form
  parts_small t y (Compound o work a b) s = (s.1.0, s.1.1)
  parts_small t y (Call g args) s = arguments_small args s.1.1
  parts_small t y (CallValue a args) s = (s.1.1, arguments_small args s.1.2)
  parts_small t y form s = s.1

  parts_plain : (t : ℕ) (y : QType) (form : Form) → IsPlainTree (Node t y form) → Parts IsPlainTree form
  parts_plain t y form w = both_parts (IsTyped m locals) (IsSmall m.records) form (typed_parts m locals t y form w.0) (parts_small t y form w.1)

  node_plain : (t : ℕ) (y : QType) (form : Form) → IsPlainTree (Node t y form) → NodeIn IsPlainOp name m.records y form
  unfolding IsTyped
  node_plain t y (Number n) w = let v = w.0.1 in number_plain n (number_small (type_of y) n v)
  node_plain t y (Str k) w = object_plain (full_name name (Hidden k)) (name_ordinary name (Hidden k) tt)
  node_plain t y (Global g) w = let v = w.0.1 in object_plain (full_name name g) (object-ordinary g y v)
  node_plain t y (Function g) w = let v = w.0.1 in λ r. (tt, (function-ordinary g y v.1, tt))
  node_plain t y (Binary o a b) w = (
    size_plain (target_size m.records (type_in a)) (target_small m.records (type_in a) (sized_node m.records a w.1.1.0)),
    size_plain (target_size m.records (type_in b)) (target_small m.records (type_in b) (sized_node m.records b w.1.1.1)),
  )
  node_plain t y (Assign a b) w =
      let v = w.0.1 in
      λ e. copy_plain m.records (type_of y) (record_copied m.records (type_of y) known (subst (λ (ty : CType). IsComplete m.records ty) v.3 v.2.complete) e)
  node_plain t y (Compound o work a b) w = (
    size_plain (target_size m.records work) (target_small m.records work w.1.1.2),
    size_plain (target_size m.records (type_in b)) (target_small m.records (type_in b) (sized_node m.records b w.1.1.1)),
  )
  node_plain t y (Step o a) w = size_plain (target_size m.records (promoted_type (type_of y))) (step_small m.records (type_of y) w.1.0)
  node_plain t y (Member a offset) w = let v = w.0.1 in number_plain offset (offset_small m.records (type_at a) y offset known v.1)
  node_plain t y (Call g args) w =
      let v = w.0.1 in
      let limit : count_of args ≤ parameter_limit = w.1.1.0 in
      λ r temps e.
      let few : length temps ≤ parameter_limit = omega (arith, limit, e) in
      (few, (function-ordinary g (Qualified (FunctionType v.0 v.1) false false) v.2, tt))
  node_plain t y (CallValue a args) w =
      let limit : count_of args ≤ parameter_limit = w.1.1.0 in
      λ r v shape temps e. let few : length temps ≤ parameter_limit = omega (arith, limit, e) in (few, tt)
  node_plain t y form w = tt

  pub plain_nodes : Nodes IsPlainOp name m.records IsPlainTree
  plain_nodes = record { bare = bare_plain; parts = parts_plain; node = node_plain }
