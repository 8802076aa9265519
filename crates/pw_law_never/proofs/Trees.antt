-- Expressions of a function, with the locals in scope, end nowhere but where the meaning has an end.
use Rattle.std.proofs.Common.{ℕ, ◌≡◌, ◌⊎◌, inl, inr, refl, sym, ap, subst, ◌∙◌, Bool, false, List, [], ◌∷◌, Option, Some, None}
use Rattle.std.specs.Prelude.{Contains, slice_get, option_map, option_and_then}
use Rattle.pw_value.specs.declared.value.Value.{Value}
use Rattle.pw_value.specs.declared.value.Value.TheVariants as V
use Rattle.pw_value.specs.declared.value.Pointer.TheVariants as Ptr
use Rattle.pw_types.specs.TypeTrees.{CType, Void, Int, Pointer, Array, Function as FunctionType, Record, QType, QTypes, NoType, OneType, Qualified, type_of, RecordValue}
use Rattle.pw_types.specs.Layouts.{layout_of}
use Rattle.pw_types.specs.Shapes.{letter_of, letters_of, shape_of}
use Rattle.pw_types.specs.StepOperators.{step_operator}
use Rattle.pw_types.specs.Conversions.{promoted}
use Rattle.pw_types.specs.WellTyped.{promoted_type}
use Rattle.pw_types.specs.declared.kind.IntKind.{IntKind}
use Rattle.pw_types.specs.declared.kind.IntKind.TheVariants as K
use Rattle.pw_types.specs.declared.tree.UnaryOperator.{UnaryOperator}
use Rattle.pw_types.specs.declared.tree.UnaryOperator.TheVariants as U
use Rattle.pw_types.specs.declared.tree.BinaryOperator.{BinaryOperator}
use Rattle.pw_types.specs.declared.tree.BinaryOperator.TheVariants as O
use Rattle.pw_types.specs.declared.tree.StepOperator.{StepOperator}
use Rattle.pw_types.specs.declared.tree.StepOperator.TheVariants.{IncrementBefore, DecrementBefore, IncrementBehind, DecrementBehind}
use Rattle.pw_types.specs.TypedTrees.{Symbol, Hidden, Expression, Node, Number, Str, Local, Global, Function, Unary, Binary, Logic, Cond, Comma, Assign, Compound, Step, Cast, Decay, Member, Deref, Address, Call, CallValue, Expressions, NoExpression, OneExpression, type_at, form_of}
use Rattle.pw_types.specs.WellTyped as W
use Rattle.pw_types.specs.WellTyped.{type_in, IsTyped, HasForm, AreArguments}
use Rattle.pw_cmean.specs.Worlds.{full_name, global_number}
use Rattle.pw_cmean.specs.Acts.{Act, State, Site, Outcome, Gives, Ends, give, ◌>>=◌}
use Rattle.pw_cmean.specs.Access.{Assigning, load, put}
use Rattle.pw_cmean.specs.Operators.{truth, binary, convert}
use Rattle.pw_cmean.specs.Evaluation.{Env, Calls as CallList, records_of, local_place, symbol_place, used, value_by, value_at, cast, pointed, call_value, old_value, update, step_result, step, answer_of, place_of, values_of}
use Rattle.pw_cmean.specs.SourceRun.{calls}
use Rattle.pw_cmean.specs.Typed.{IsPointer, IsValueOf, IsResultOf, IsWellTyped, HoldsBytes, IfGives}
use Rattle.pw_cmean.proofs.SoundActs.{Sound, Any, bind-s, give-s, undefined-s}
use Rattle.pw_cmean.proofs.SoundOperators.{weaker, load-s, put-s, advance-s, on_numbers-s, pointer_and_number-s, convert-s, small-value, IsWord, IsInteger}
use Rattle.pw_cmean.proofs.SoundTrees.{operand-s, symbol_place-s, local_place-s}
use Rattle.pw_law_never.specs.Resolved.{IsThere, IsResolved, AreResolved}
use Rattle.pw_law_never.proofs.NotWrong.{Right, Good, HasOne, bind-r, bind-g, give-r, map-r, need-r, need-g, undefined-r, judge-g, branch-r, one-of}
use Rattle.pw_law_never.proofs.Operators.{load-r, CanPut, put-r, fetch-r, num-of, tested, truth-g, unary-r, advance-r, Moves, pointer_and_number-r, on_numbers-r, layout-one, binary-r, Points, points-of, to-number-r, to-pointer-r}
use Rattle.pw_law_never.proofs.Constants.{JustGives, null-gives}
use Rattle.pw_law_never.proofs.Symbols.{object-numbered, object-placed}
use Rattle.pw_law_never.proofs.Calling.{AreValues, agreed, shape-same, named-own, numbered-own, call-r, Level}

-- ---- the types of values, as the law of the meaning has them

pub record Types : Type 0 where
  pub expressions : (n : ℕ) (a : Expression) (e : Env) (s : State) → IsWellTyped e.world.program → Contains e.world.program.modules e.home
      → IsTyped e.home.tree e.locals a → HoldsBytes s → IfGives (IsResultOf (type_in a)) (answer_of a (calls e.world n) e s)
  pub places : (n : ℕ) (a : Expression) (e : Env) (s : State) → IsWellTyped e.world.program → Contains e.world.program.modules e.home
      → IsTyped e.home.tree e.locals a → HoldsBytes s → IfGives IsPointer (place_of a (calls e.world n) e s)

-- where expressions stand: in a module of a well-typed program, where each local in scope has an object
pub record Stands (e : Env) (scope : ℕ → Type 0) : Type 0 where
  pub well : IsWellTyped e.world.program
  pub inside : Contains e.world.program.modules e.home
  pub has : (k : ℕ) → scope k → (number : ℕ) × (slice_get e.numbers k ≡ Some (Some number))

-- ---- places

local-r : (e : Env) (k : ℕ) → (number : ℕ) × (slice_get e.numbers k ≡ Some (Some number)) → Right (local_place e k)
unfolding local_place
local-r e k h = need-r _ (V.At (Ptr.Object h.0 0), ap (λ (o : Option (Option ℕ)). option_map (λ number. V.At (Ptr.Object number 0)) (option_and_then (λ n. n) o)) h.1)

pub local-g : (e : Env) (k : ℕ) → (number : ℕ) × (slice_get e.numbers k ≡ Some (Some number)) → Good IsPointer (local_place e k)
local-g e k h = record { sound = local_place-s e k; right = local-r e k h }

symbol-r : (e : Env) (x : Symbol) → IsThere e.world.program e.home.name x → Right (symbol_place e x)
unfolding symbol_place
symbol-r e x h = need-r _ (V.At h.0, ap (option_map V.At) h.1)

pub symbol-g : (e : Env) (x : Symbol) → IsThere e.world.program e.home.name x → Good IsPointer (symbol_place e x)
symbol-g e x h = record { sound = symbol_place-s e x; right = symbol-r e x h }

-- the object of a string literal is there
string-there : (e : Env) → Contains e.world.program.modules e.home → (k : ℕ) (ty : QType) → W.IsDefined e.home.tree (Hidden k) ty → IsThere e.world.program e.home.name (Hidden k)
string-there e inside k ty d =
    let n : (number : ℕ) × (global_number e.world.program (full_name e.home.name d.object.name) ≡ Some number) = object-numbered e.world.program e.home d.object inside d.there in (
      Ptr.Object n.0 0,
      object-placed e.world.program (full_name e.home.name (Hidden k)) n.0
          (subst (λ symbol. global_number e.world.program (full_name e.home.name symbol) ≡ Some n.0) d.name_is n.1),
    )

value_by-r : (at : Site) (ty : CType) (p : Value) → IsPointer p → Right (value_by at ty p)
unfolding value_by
value_by-r at Void p h = give-r None
value_by-r at (Int k) p h = map-r Some (fetch-r at (Int k) p h)
value_by-r at (Pointer q) p h = map-r Some (fetch-r at (Pointer q) p h)
value_by-r at (Array q n) p h = map-r Some (fetch-r at (Array q n) p h)
value_by-r at (FunctionType q ps) p h = map-r Some (fetch-r at (FunctionType q ps) p h)
value_by-r at (Record n) p h = map-r Some (fetch-r at (Record n) p h)

value_at-r : (e : Env) (t : ℕ) (ty : QType) (p : Value) → IsPointer p → Right (value_at e t ty p)
unfolding value_at
value_at-r e t ty p h = value_by-r _ (type_of ty) p h

-- ---- results

used-r : (at : Site) (o : Option Value) → Right (used at o)
unfolding used
used-r at (Some v) = give-r v
used-r at None = undefined-r at _

-- the value of an operand
pub operand-g : (at : Site) (ty : CType) {m : Act (Option Value)} → Sound (IsResultOf ty) m → Right m → Good (IsValueOf ty) (m >>= used at)
operand-g at ty p r = record { sound = operand-s at ty p; right = bind-r (record { sound = p; right = r }) λ o h. used-r at o }

tested-g : (at : Site) (ty : CType) {m : Act (Option Value)} → Sound (IsResultOf ty) m → Right m → Good Any (m >>= used at >>= truth at)
tested-g at ty p r = bind-g (operand-g at ty p r) λ v h. truth-g at v (tested ty v h)

-- ---- conversions

-- a number that becomes a pointer is 0
abbrev IsZeroIf : CType → CType → Option Value → Type 0
IsZeroIf (Int k) (Pointer q) o = o ≡ Some (V.Num 0)
IsZeroIf from to o = Unit {0}

number-cast : (at : Site) (k : IntKind) (o : Option Value) → Right (cast at (Int k) o)
unfolding cast used
number-cast at k (Some v) = bind-r (give-g' v) λ w h. map-r Some (to-number-r at k w)
  where
    give-g' : (v : Value) → Good Any (give v)
    give-g' v = record { sound = give-s Any v tt; right = give-r v }
number-cast at k None = bind-r (record { sound = undefined-s Any at _; right = undefined-r at _ }) λ w h. map-r Some (to-number-r at k w)

pointer-cast : (at : Site) (q : QType) (o : Option Value) → ((v : Value) → o ≡ Some v → Points v) → Right (cast at (Pointer q) o)
unfolding cast used
pointer-cast at q (Some v) h = bind-r (record { sound = give-s Points v (h v refl); right = give-r v }) λ w p. map-r Some (to-pointer-r at q w p)
pointer-cast at q None h = bind-r (record { sound = undefined-s Points at _; right = undefined-r at _ }) λ w p. map-r Some (to-pointer-r at q w p)

void-cast : (at : Site) (o : Option Value) → Right (cast at Void o)
unfolding cast
void-cast at o = give-r None

some-value : (ty : CType) (o : Option Value) (v : Value) → IsResultOf ty o → o ≡ Some v → IsValueOf ty v
some-value ty (Some w) v h e = let same : w ≡ v = cc in subst (IsValueOf ty) same h
some-value ty None v h e = cc

cast-r : (at : Site) (from to : CType) (o : Option Value) → W.FitsCast from to → IsResultOf from o → IsZeroIf from to o → Right (cast at to o)
cast-r at from Void o f h z = void-cast at o
cast-r at from (Int k) o f h z = number-cast at k o
cast-r at (Int k) (Pointer q) o f h z = pointer-cast at q o λ v e. subst Points (zero-value v (sym e ∙ z)) tt
  where
    zero-value : (v : Value) → Some v ≡ Some (V.Num 0) → V.Num 0 ≡ v
    zero-value v e = cc
cast-r at (Pointer p) (Pointer q) o f h z = pointer-cast at q o λ v e. points-of v (some-value (Pointer p) o v h e)
cast-r at Void (Pointer q) o f h z = absurd f
cast-r at (Array p n) (Pointer q) o f h z = absurd f
cast-r at (FunctionType p ps) (Pointer q) o f h z = absurd f
cast-r at (Record n) (Pointer q) o f h z = absurd f
cast-r at from (Array q n) o f h z = absurd f
cast-r at from (FunctionType q ps) o f h z = absurd f
cast-r at from (Record n) o f h z = absurd f

-- two statements of what is given
both-s : {A : Type 0} {P Q : A → Type 0} {m : Act A} → Sound P m → Sound Q m → Sound (λ a. P a × Q a) m
both-s {A} {P} {Q} {m} p q = record { run = λ s h. both-of (m s) (p.run s h) (q.run s h) }
  where
    both-of : (o : Outcome A) → IfGives P o → IfGives Q o → IfGives (λ a. P a × Q a) o
    both-of (Gives a s) h k = ((h.0, k.0), h.1)
    both-of (Ends e s) h k = tt

just-s : {A : Type 0} (P : A → Type 0) (m : Act A) (a : A) → JustGives m a → P a → Sound P m
just-s P m a j p = record { run = λ s h. subst (IfGives P) (sym (j s)) (p, h) }

any-zero : {m : Act (Option Value)} (ty from to : CType) → Sound (IsResultOf ty) m → ((o : Option Value) → IsZeroIf from to o) → Sound (IsZeroIf from to) m
any-zero ty from to p h = weaker p λ o k. h o

zero-s : (m : Act (Option Value)) (ty from to : CType) → Sound (IsResultOf ty) m
    → ((q : QType) (k : IntKind) → to ≡ Pointer q → from ≡ Int k → JustGives m (Some (V.Num 0))) → Sound (IsZeroIf from to) m
zero-s m ty (Int k) (Pointer q) p h = just-s (IsZeroIf (Int k) (Pointer q)) m (Some (V.Num 0)) (h q k refl refl) refl
zero-s m ty (Int k) Void p h = any-zero ty (Int k) Void p λ o. tt
zero-s m ty (Int k) (Int l) p h = any-zero ty (Int k) (Int l) p λ o. tt
zero-s m ty (Int k) (Array q n) p h = any-zero ty (Int k) (Array q n) p λ o. tt
zero-s m ty (Int k) (FunctionType q ps) p h = any-zero ty (Int k) (FunctionType q ps) p λ o. tt
zero-s m ty (Int k) (Record n) p h = any-zero ty (Int k) (Record n) p λ o. tt
zero-s m ty Void to p h = any-zero ty Void to p λ o. tt
zero-s m ty (Pointer q) to p h = any-zero ty (Pointer q) to p λ o. tt
zero-s m ty (Array q n) to p h = any-zero ty (Array q n) to p λ o. tt
zero-s m ty (FunctionType q ps) to p h = any-zero ty (FunctionType q ps) to p λ o. tt
zero-s m ty (Record n) to p h = any-zero ty (Record n) to p λ o. tt

-- ---- assignments

-- what may be changed takes values of its type
pub can-put : (rs : List RecordValue) (a : Expression) (v : Value) → W.IsModifiable rs a → IsValueOf (type_in a) v → CanPut rs (type_in a) v
can-put rs a v m h = by-type (type_in a) m.assigned m.complete h
  where
    by-type : (ty : CType) → W.IsScalar ty ⊎ ((number : ℕ) × (ty ≡ Record number)) → W.IsComplete rs ty → IsValueOf ty v → CanPut rs ty v
    by-type (Int k) s c h = tt
    by-type (Pointer q) s c h = tt
    by-type (Record n) s c h = (layout-one _ c, h)
    by-type Void s c h = absurd h
    by-type (Array q n) (inl s) c h = absurd s
    by-type (Array q n) (inr s) c h = absurd (let e : Array q n ≡ Record s.0 = s.1 in cc)
    by-type (FunctionType q ps) (inl s) c h = absurd s
    by-type (FunctionType q ps) (inr s) c h = absurd (let e : FunctionType q ps ≡ Record s.0 = s.1 in cc)

put-g : (at : Site) (rs : List RecordValue) (ty : CType) (p v : Value) → CanPut rs ty v → IsPointer p → Good Any (put Assigning at rs ty p v)
put-g at rs ty p v c h = record { sound = put-s Assigning at rs ty p v; right = put-r Assigning at rs ty p v c h }

load-g : (at : Site) (ty : CType) (p : Value) → W.IsScalar ty → IsPointer p → Good (IsValueOf ty) (load at ty p)
load-g at ty p s h = record { sound = load-s at ty p s; right = load-r at ty p h }

integer : (k : IntKind) (v : Value) → IsValueOf (Int k) v → IsInteger v
integer k (V.Num n) h = tt
integer k (V.Piece p i) h = tt
integer k V.Undefined h = h
integer k V.Null h = h
integer k (V.At p) h = h

word-integer : (v : Value) → IsWord v → IsInteger v
word-integer (V.Num n) h = tt
word-integer V.Undefined h = h
word-integer V.Null h = h
word-integer (V.At p) h = h
word-integer (V.Piece p i) h = absurd h

convert-number-g : (at : Site) (k : IntKind) (v : Value) → IsInteger v → Good (IsValueOf (Int k)) (convert at (Int k) v)
convert-number-g at k v h = record { sound = convert-s at (Int k) v h; right = to-number-r at k v }

convert-pointer-g : (at : Site) (q : QType) (v : Value) → Points v → Good (IsValueOf (Pointer q)) (convert at (Pointer q) v)
convert-pointer-g at q v h = record { sound = convert-s at (Pointer q) v tt; right = to-pointer-r at q v h }

-- an operator that can work on an old value and a right operand of these types
abbrev CanWork : List RecordValue → BinaryOperator → CType → CType → CType → Type 0
CanWork rs op (Int w) (Int k) (Int r) = (promoted w ≡ w) × (promoted r ≡ r)
CanWork rs op (Pointer w) (Pointer q) (Int r) = Moves op × HasOne (layout_of rs (type_of w))
CanWork rs op _ _ _ = ⊥

twice-promoted : (k : IntKind) → promoted (promoted k) ≡ promoted k
twice-promoted K.Char = refl
twice-promoted K.SChar = refl
twice-promoted K.UChar = refl
twice-promoted K.Short = refl
twice-promoted K.UShort = refl
twice-promoted K.Int = refl
twice-promoted K.UInt = refl
twice-promoted K.Long = refl
twice-promoted K.ULong = refl

common : (rs : List RecordValue) (op : BinaryOperator) (working left right : CType) → W.WorksInCommon working left right → CanWork rs op working left right
common rs op (Int w) (Int l) right h = subst (λ r. CanWork rs op (Int w) (Int l) r) (sym h.2) (h.1, h.1)
common rs op _ _ right h = absurd h

shifted : (rs : List RecordValue) (op : BinaryOperator) (working left right : CType) → W.WorksPromoted working left right → CanWork rs op working left right
shifted rs op working (Int l) (Int r) h = subst (λ w. CanWork rs op w (Int l) (Int r)) (sym h.0) (twice-promoted l, h.1)
shifted rs op working (Int l) _ h = absurd h.1
shifted rs op working _ right h = absurd h

moving : (rs : List RecordValue) (op : BinaryOperator) (working left right : CType) → Moves op → W.MovesPointer rs left right working → CanWork rs op working left right
moving rs op working left (Int r) m h =
    subst (λ w. CanWork rs op w left (Int r)) (sym (h.2 ∙ h.0.1)) (subst (λ l. CanWork rs op (Pointer h.0.0) l (Int r)) (sym h.0.1) (m, layout-one _ h.0.2))
moving rs op working left Void m h = absurd h.1
moving rs op working left (Pointer q) m h = absurd h.1
moving rs op working left (Array q n) m h = absurd h.1
moving rs op working left (FunctionType q ps) m h = absurd h.1
moving rs op working left (Record n) m h = absurd h.1

works : (rs : List RecordValue) (op : BinaryOperator) (working left right : CType) → W.FitsCompound rs op working left right → CanWork rs op working left right
works rs O.Add working left right (inl h) = common rs O.Add working left right h
works rs O.Add working left right (inr h) = moving rs O.Add working left right tt h
works rs O.Subtract working left right (inl h) = common rs O.Subtract working left right h
works rs O.Subtract working left right (inr h) = moving rs O.Subtract working left right tt h
works rs O.ShiftLeft working left right h = shifted rs O.ShiftLeft working left right h
works rs O.ShiftRight working left right h = shifted rs O.ShiftRight working left right h
works rs O.Multiply working left right h = common rs O.Multiply working left right h
works rs O.Divide working left right h = common rs O.Divide working left right h
works rs O.Remainder working left right h = common rs O.Remainder working left right h
works rs O.And working left right h = common rs O.And working left right h
works rs O.ExclusiveOr working left right h = common rs O.ExclusiveOr working left right h
works rs O.Or working left right h = common rs O.Or working left right h
works rs O.Less working left right h = absurd h
works rs O.Greater working left right h = absurd h
works rs O.LessEqual working left right h = absurd h
works rs O.GreaterEqual working left right h = absurd h
works rs O.Equal working left right h = absurd h
works rs O.NotEqual working left right h = absurd h

scalar-left : (rs : List RecordValue) (op : BinaryOperator) (working left right : CType) → CanWork rs op working left right → W.IsScalar left
scalar-left rs op (Int w) (Int k) (Int r) c = tt
scalar-left rs op (Pointer w) (Pointer q) (Int r) c = tt
scalar-left rs op _ _ _ c = absurd c

-- an old value in the type in which the operator works
convert-g : (at : Site) (rs : List RecordValue) (op : BinaryOperator) (working left right : CType) (v : Value) → CanWork rs op working left right → IsValueOf left v
    → Good (IsValueOf working) (convert at working v)
convert-g at rs op (Int w) (Int k) (Int r) v c i = convert-number-g at w v (integer k v i)
convert-g at rs op (Pointer w) (Pointer q) (Int r) v c i = convert-pointer-g at w v (points-of v i)
convert-g at rs op _ _ _ v c i = absurd c

old-g : (e : Env) (t : ℕ) (op : BinaryOperator) (ty working right : CType) (p : Value) → CanWork (records_of e) op working ty right → IsPointer p
    → Good (IsValueOf working) (old_value e t ty working p)
unfolding old_value
old-g e t op ty working right p c h =
    bind-g (load-g _ ty p (scalar-left (records_of e) op working ty right c) h) λ v i. convert-g _ (records_of e) op working ty right v c i

update-r : (e : Env) (t : ℕ) (working ty : CType) (p : Value) (op : BinaryOperator) (right : CType) (old w : Value) → CanWork (records_of e) op working ty right
    → IsPointer p → IsValueOf working old → IsValueOf right w → Right (update e t ty working p op right old w)
unfolding update binary
update-r e t (Int a) (Int k) p op (Int r) old w c h i j =
    bind-r (record { sound = on_numbers-s _ op a old w (small-value (Int a) old i) (small-value (Int r) w j); right = on_numbers-r _ op a old w (num-of a old c.0 i) (num-of r w c.1 j) })
    λ new x. bind-r (convert-number-g _ k new (word-integer new x)) λ v y. bind-r (put-g _ _ (Int k) p v tt h) λ u z. give-r v
update-r e t (Pointer a) (Pointer q) p op (Int r) old w c h i j =
    bind-r (record { sound = pointer_and_number-s _ _ a op old r w; right = pointer_and_number-r _ _ a op old r w c.0 c.1 })
    λ new x. bind-r (convert-pointer-g _ q new (points-of new x)) λ v y. bind-r (put-g _ _ (Pointer q) p v tt h) λ u z. give-r v
update-r e t _ _ p op _ old w c h i j = absurd c

stepped : (rs : List RecordValue) (op : StepOperator) (ty : CType) → W.IsArithmetic ty ⊎ W.PointsToObject rs ty → CanWork rs (step_operator op) (promoted_type ty) ty (Int K.Int)
stepped rs op (Int k) h = (twice-promoted k, refl)
stepped rs op (Pointer q) (inl h) = absurd h
stepped rs op (Pointer q) (inr h) = (moves op, subst (λ ty. HasOne (layout_of rs (pointed ty))) (sym h.1) (layout-one _ h.2))
  where
    moves : (op : StepOperator) → Moves (step_operator op)
    moves IncrementBefore = tt
    moves DecrementBefore = tt
    moves IncrementBehind = tt
    moves DecrementBehind = tt
stepped rs op Void (inl h) = absurd h
stepped rs op Void (inr h) = absurd (let e : Void ≡ Pointer h.0 = h.1 in cc)
stepped rs op (Array q n) (inl h) = absurd h
stepped rs op (Array q n) (inr h) = absurd (let e : Array q n ≡ Pointer h.0 = h.1 in cc)
stepped rs op (FunctionType q ps) (inl h) = absurd h
stepped rs op (FunctionType q ps) (inr h) = absurd (let e : FunctionType q ps ≡ Pointer h.0 = h.1 in cc)
stepped rs op (Record n) (inl h) = absurd h
stepped rs op (Record n) (inr h) = absurd (let e : Record n ≡ Pointer h.0 = h.1 in cc)

step-r : (e : Env) (t : ℕ) (op : StepOperator) (ty : CType) (p : Value) → W.IsArithmetic ty ⊎ W.PointsToObject (records_of e) ty → IsPointer p → Right (step e t op ty p)
unfolding step
step-r e t op ty p s h =
    let c : CanWork (records_of e) (step_operator op) (promoted_type ty) ty (Int K.Int) = stepped (records_of e) op ty s in
    bind-r (load-g _ ty p (scalar-left (records_of e) (step_operator op) (promoted_type ty) ty (Int K.Int) c) h) λ old i.
    bind-r (convert-g _ (records_of e) (step_operator op) (promoted_type ty) ty (Int K.Int) old c i) λ v j.
    map-r (step_result op old) (update-r e t (promoted_type ty) ty p (step_operator op) (Int K.Int) v (V.Num 1) c h j refl)

-- ---- which expressions have a place

abbrev IsRecordType : CType → Type 0
IsRecordType ty = (number : ℕ) × (ty ≡ Record number)

-- an lvalue, a function, or a structure or union
abbrev pub HasPlace : Expression → Type 0
HasPlace (Node t y form) = W.IsLvalueForm form ⊎ W.IsDesignator form ⊎ IsRecordType (type_of y)

lvalue-place : (a : Expression) → W.IsLvalue a → HasPlace a
lvalue-place (Node t y form) h = inl h

designator-place : (a : Expression) → W.IsDesignator (form_of a) → HasPlace a
designator-place (Node t y form) h = inr (inl h)

record-place : (a : Expression) (n : ℕ) → type_in a ≡ Record n → HasPlace a
record-place (Node t y form) n e = inr (inr (n, e))

addressed-place : (a : Expression) → W.IsAddressed a → HasPlace a
addressed-place a (inl h) = lvalue-place a h
addressed-place a (inr h) = designator-place a h.0

decayed-place : (a : Expression) (ty : CType) → W.Decays a ty → HasPlace a
decayed-place a ty (inl h) = lvalue-place a h.0
decayed-place a ty (inr h) = designator-place a h.0

not-scalar : (ty : CType) → W.IsScalar ty → IsRecordType ty → ⊥
not-scalar (Record n) s h = s
not-scalar (Int k) s h = let e : Int k ≡ Record h.0 = h.1 in cc
not-scalar (Pointer q) s h = let e : Pointer q ≡ Record h.0 = h.1 in cc
not-scalar Void s h = absurd s
not-scalar (Array q n) s h = absurd s
not-scalar (FunctionType q ps) s h = absurd s

promoted-scalar : (ty : CType) → W.IsPromoted ty → W.IsScalar ty
promoted-scalar (Int k) h = tt
promoted-scalar Void h = absurd h
promoted-scalar (Pointer q) h = absurd h
promoted-scalar (Array q n) h = absurd h
promoted-scalar (FunctionType q ps) h = absurd h
promoted-scalar (Record n) h = absurd h

pointer-scalar : (ty : CType) (q : QType) → ty ≡ Pointer q → W.IsScalar ty
pointer-scalar ty q e = subst W.IsScalar (sym e) tt

int-scalar : (ty : CType) (k : IntKind) → ty ≡ Int k → W.IsScalar ty
int-scalar ty k e = subst W.IsScalar (sym e) tt

number-scalar : (ty : CType) (n : ℕ) → W.IsNumber ty n → W.IsScalar ty
number-scalar (Int k) n h = tt
number-scalar Void n h = absurd h
number-scalar (Pointer q) n h = absurd h
number-scalar (Array q c) n h = absurd h
number-scalar (FunctionType q ps) n h = absurd h
number-scalar (Record c) n h = absurd h

unary-scalar : (op : UnaryOperator) (operand result : CType) → W.FitsUnary op operand result → W.IsScalar result
unary-scalar U.Not operand result h = int-scalar result K.Int h.1
unary-scalar U.Plus operand result h = subst W.IsScalar (sym h.1) (promoted-scalar operand h.0)
unary-scalar U.Minus operand result h = subst W.IsScalar (sym h.1) (promoted-scalar operand h.0)
unary-scalar U.Complement operand result h = subst W.IsScalar (sym h.1) (promoted-scalar operand h.0)

moved-scalar : (rs : List RecordValue) (pointer number result : CType) → W.MovesPointer rs pointer number result → W.IsScalar result
moved-scalar rs pointer number result h = pointer-scalar result h.0.0 (h.2 ∙ h.0.1)

binary-scalar : (rs : List RecordValue) (op : BinaryOperator) (left right result : CType) → W.FitsBinary rs op left right result → W.IsScalar result
binary-scalar rs O.Add left right result (inl h) = promoted-scalar result h.0
binary-scalar rs O.Add left right result (inr (inl h)) = moved-scalar rs left right result h
binary-scalar rs O.Add left right result (inr (inr h)) = moved-scalar rs right left result h
binary-scalar rs O.Subtract left right result (inl h) = promoted-scalar result h.0
binary-scalar rs O.Subtract left right result (inr (inl h)) = moved-scalar rs left right result h
binary-scalar rs O.Subtract left right result (inr (inr h)) = int-scalar result K.Int h.2
binary-scalar rs O.Multiply left right result h = promoted-scalar result h.0
binary-scalar rs O.Divide left right result h = promoted-scalar result h.0
binary-scalar rs O.Remainder left right result h = promoted-scalar result h.0
binary-scalar rs O.And left right result h = promoted-scalar result h.0
binary-scalar rs O.ExclusiveOr left right result h = promoted-scalar result h.0
binary-scalar rs O.Or left right result h = promoted-scalar result h.0
binary-scalar rs O.ShiftLeft left right result h = subst W.IsScalar (sym h.2) (promoted-scalar left h.0)
binary-scalar rs O.ShiftRight left right result h = subst W.IsScalar (sym h.2) (promoted-scalar left h.0)
binary-scalar rs O.Less left right result h = int-scalar result K.Int h.2
binary-scalar rs O.Greater left right result h = int-scalar result K.Int h.2
binary-scalar rs O.LessEqual left right result h = int-scalar result K.Int h.2
binary-scalar rs O.GreaterEqual left right result h = int-scalar result K.Int h.2
binary-scalar rs O.Equal left right result h = int-scalar result K.Int h.2
binary-scalar rs O.NotEqual left right result h = int-scalar result K.Int h.2

cast-record : (from to : CType) → W.FitsCast from to → IsRecordType to → ⊥
cast-record from Void f h = let e : Void ≡ Record h.0 = h.1 in cc
cast-record from (Int k) f h = let e : Int k ≡ Record h.0 = h.1 in cc
cast-record from (Pointer q) f h = let e : Pointer q ≡ Record h.0 = h.1 in cc
cast-record from (Array q n) f h = absurd f
cast-record from (FunctionType q ps) f h = absurd f
cast-record from (Record n) f h = absurd f

result-record : (ty result : CType) → ty ≡ result → W.IsResult result → IsRecordType ty → ⊥
result-record ty result e (inl v) h = let clash : Void ≡ Record h.0 = sym v ∙ sym e ∙ h.1 in cc
result-record ty result e (inr s) h = not-scalar result s (h.0, sym e ∙ h.1)

decays-scalar : (a : Expression) (ty : CType) → W.Decays a ty → W.IsScalar ty
decays-scalar a ty (inl h) = pointer-scalar ty h.1.0 h.1.3
decays-scalar a ty (inr h) = pointer-scalar ty (type_at a) h.2

-- an expression of another form has a place only if it is a structure or a union
nowhere : {A : Type 0} (ty : CType) → ⊥ ⊎ ⊥ ⊎ IsRecordType ty → (IsRecordType ty → ⊥) → A
nowhere ty (inl h) k = absurd h
nowhere ty (inr (inl h)) k = absurd h
nowhere ty (inr (inr h)) k = absurd (k h)

is-record : (ty : CType) → ⊥ ⊎ ⊥ ⊎ IsRecordType ty → IsRecordType ty
is-record ty (inl h) = absurd h
is-record ty (inr (inl h)) = absurd h
is-record ty (inr (inr h)) = h

-- ---- calls

call_value-r : (e : Env) (cs : CallList) (t : ℕ) (ty : CType) (result : QType) (params : QTypes) (c v : Bool) (p : Value) (vs : List Value)
    → ty ≡ Pointer (Qualified (FunctionType result params) c v) → AreValues params vs → Level e.world cs → Right (call_value e cs t ty p vs)
unfolding call_value
call_value-r e cs t ty result params c v p vs same h l =
    bind-r (judge-g _ _) λ u none. bind-r (need-g _ (one-of _ none.0)) λ f found.
    let shape : f.shape ≡ shape_of (records_of e) (pointed ty) false = shape-same e.world.program p f _ found none.1.0 in
    let signature : shape_of (records_of e) (pointed ty) false ≡ 102 ∷ letter_of (type_of result) ∷ letters_of params = ap (λ ty. shape_of (records_of e) (pointed ty) false) same in
    call-r e.world cs f vs (numbered-own e.world.program p f found) (letter_of (type_of result), params, shape ∙ signature, h) l.right

-- ---- the induction

module _ (types : Types) (e : Env) (cs : CallList) (scope : ℕ → Type 0) (w : Stands e scope) (l : Level e.world cs) where
  -- what the law of the meaning says of types
  pub answer-t : (a : Expression) → IsTyped e.home.tree e.locals a → Sound (IsResultOf (type_in a)) (answer_of a cs e)
  answer-t a t = record { run = λ s h. subst (λ cs. IfGives (IsResultOf (type_in a)) (answer_of a cs e s)) (sym l.is) (types.expressions l.bound a e s w.well w.inside t h) }

  pub place-t : (a : Expression) → IsTyped e.home.tree e.locals a → Sound IsPointer (place_of a cs e)
  place-t a t = record { run = λ s h. subst (λ cs. IfGives IsPointer (place_of a cs e s)) (sym l.is) (types.places l.bound a e s w.well w.inside t h) }

  values-t : (args : Expressions) (params : QTypes) (t : ℕ) → AreArguments e.home.tree e.locals args params → Sound (AreValues params) (values_of args t cs e)
  unfolding AreArguments values_of
  values-t NoExpression NoType t h = give-s (AreValues NoType) [] tt
  values-t (OneExpression a rest) (OneType q params) t h =
      bind-s (operand-s _ (type_in a) (answer-t a h.0)) λ v i. bind-s (values-t rest params t h.3) λ vs j.
      give-s (AreValues (OneType q params)) (v ∷ vs) (subst (λ ty. IsValueOf ty v) h.2 i, j)
  values-t NoExpression (OneType q params) t h = absurd h
  values-t (OneExpression a rest) NoType t h = absurd h

  mutual
    unfolding answer_of place_of values_of IsTyped HasForm AreArguments

    pub answer-r : (a : Expression) → IsTyped e.home.tree e.locals a → IsResolved e.world.program e.home.name scope a → Right (answer_of a cs e)
    answer-r (Node t ty (Number n)) h r = give-r _
    answer-r (Node t ty (Str k)) h r = bind-r (symbol-g e (Hidden k) (string-there e w.inside k ty h.1.0)) λ p i. value_at-r e t ty p i
    answer-r (Node t ty (Local k)) h r = bind-r (local-g e k (w.has k r)) λ p i. value_at-r e t ty p i
    answer-r (Node t ty (Global x)) h r = bind-r (symbol-g e x r) λ p i. value_at-r e t ty p i
    answer-r (Node t ty (Function x)) h r = bind-r (symbol-g e x r) λ p i. value_at-r e t ty p i
    answer-r (Node t ty (Unary op a)) h r =
        bind-r (operand-g _ (type_in a) (answer-t a h.1.0) (answer-r a h.1.0 r)) λ v i. map-r Some (unary-r _ op (type_in a) (type_of ty) v h.1.1 i)
    answer-r (Node t ty (Binary op a b)) h r =
        bind-r (operand-g _ (type_in a) (answer-t a h.1.0) (answer-r a h.1.0 r.0)) λ v i.
        bind-r (operand-g _ (type_in b) (answer-t b h.1.1) (answer-r b h.1.1 r.1)) λ x j.
        map-r Some (binary-r _ _ op (type_in a) (type_in b) (type_of ty) v x h.1.2 i j)
    answer-r (Node t ty (Logic op a b)) h r =
        bind-r (tested-g _ (type_in a) (answer-t a h.1.0) (answer-r a h.1.0 r.0)) λ x u.
        branch-r _ (give-r _) (bind-r (tested-g _ (type_in b) (answer-t b h.1.1) (answer-r b h.1.1 r.1)) λ y u. give-r _)
    answer-r (Node t ty (Cond c a b)) h r =
        bind-r (tested-g _ (type_in c) (answer-t c h.1.0) (answer-r c h.1.0 r.0)) λ x u. branch-r x (answer-r a h.1.1 r.1) (answer-r b h.1.2 r.2)
    answer-r (Node t ty (Comma a b)) h r =
        bind-r (record { sound = answer-t a h.1.0; right = answer-r a h.1.0 r.0 }) λ o i. answer-r b h.1.1 r.1
    answer-r (Node t ty (Assign a b)) h r =
        bind-r (record { sound = place-t a h.1.0; right = place-r a h.1.0 r.0 (lvalue-place a h.1.2.lvalue) }) λ p i.
        bind-r (operand-g _ (type_in b) (answer-t b h.1.1) (answer-r b h.1.1 r.1)) λ v j.
        bind-r (put-g _ _ (type_in a) p v (can-put e.home.tree.records a v h.1.2 (subst (λ x. IsValueOf x v) (h.1.4 ∙ sym h.1.3) j)) i) λ u k. give-r _
    answer-r (Node t ty (Compound op working a b)) h r =
        let c : CanWork (records_of e) op working (type_in a) (type_in b) = works (records_of e) op working (type_in a) (type_in b) h.1.4 in
        bind-r (record { sound = place-t a h.1.0; right = place-r a h.1.0 r.0 (lvalue-place a h.1.2.lvalue) }) λ p i.
        bind-r (old-g e t op (type_in a) working (type_in b) p c i) λ old j.
        bind-r (operand-g _ (type_in b) (answer-t b h.1.1) (answer-r b h.1.1 r.1)) λ x k.
        map-r Some (update-r e t working (type_in a) p op (type_in b) old x c i j k)
    answer-r (Node t ty (Step op a)) h r =
        bind-r (record { sound = place-t a h.1.0; right = place-r a h.1.0 r (lvalue-place a h.1.1.lvalue) }) λ p i.
        map-r Some (step-r e t op (type_in a) p h.1.3 i)
    answer-r (Node t ty (Cast a)) h r =
        bind-r (record {
          sound = both-s (answer-t a h.1.0) (zero-s (answer_of a cs e) (type_in a) (type_in a) (type_of ty) (answer-t a h.1.0)
              (λ q k to from. null-gives e cs a h.1.0 (r.0 q k to from)));
          right = answer-r a h.1.0 r.1;
        }) λ o i. cast-r _ (type_in a) (type_of ty) o h.1.1 i.0 i.1
    answer-r (Node t ty (Decay a)) h r = map-r Some (place-r a h.1.0 r (decayed-place a (type_of ty) h.1.1))
    answer-r (Node t ty (Address a)) h r = map-r Some (place-r a h.1.0 r (addressed-place a h.1.1))
    answer-r (Node t ty (Member a offset)) h r =
        bind-r (bind-g (record { sound = place-t a h.1.0; right = place-r a h.1.0 r (record-place a h.1.1.number h.1.1.type_is) })
        λ p i. record { sound = advance-s _ p _; right = advance-r _ p _ }) λ q j. value_at-r e t ty q j
    answer-r (Node t ty (Deref a)) h r =
        bind-r (operand-g _ (type_in a) (answer-t a h.1.0) (answer-r a h.1.0 r)) λ p i. value_at-r e t ty p (subst (λ x. IsValueOf x p) h.1.1 i)
    answer-r (Node t ty (Call x args)) h r =
        bind-r (record { sound = values-t args h.1.1 t h.1.5; right = values-r args h.1.1 t h.1.5 r.1 }) λ vs i.
        bind-r (need-g _ r.0) λ f found.
        call-r e.world cs f vs (named-own e.world.program (full_name e.home.name x) f found) (
          letter_of (type_of h.1.0),
          h.1.1,
          agreed e.home.tree.records h.1.0 h.1.1 f.shape (w.well.functions e.home w.inside x (Qualified (FunctionType h.1.0 h.1.1) false false) f h.1.2 found),
          i,
        ) l.right
    answer-r (Node t ty (CallValue a args)) h r =
        bind-r (operand-g _ (type_in a) (answer-t a h.1.0) (answer-r a h.1.0 r.0)) λ p i.
        bind-r (record { sound = values-t args h.1.1.1 t h.1.1.7; right = values-r args h.1.1.1 t h.1.1.7 r.1 }) λ vs j.
        call_value-r e cs t (type_in a) h.1.1.0 h.1.1.1 h.1.1.2 h.1.1.3 p vs h.1.1.4 j l

    pub place-r : (a : Expression) → IsTyped e.home.tree e.locals a → IsResolved e.world.program e.home.name scope a → HasPlace a → Right (place_of a cs e)
    place-r (Node t ty (Str k)) h r p = (symbol-g e (Hidden k) (string-there e w.inside k ty h.1.0)).right
    place-r (Node t ty (Local k)) h r p = (local-g e k (w.has k r)).right
    place-r (Node t ty (Global x)) h r p = (symbol-g e x r).right
    place-r (Node t ty (Function x)) h r p = (symbol-g e x r).right
    place-r (Node t ty (Member a offset)) h r p =
        bind-r (record { sound = place-t a h.1.0; right = place-r a h.1.0 r (record-place a h.1.1.number h.1.1.type_is) }) λ q i. advance-r _ q _
    place-r (Node t ty (Deref a)) h r p = (operand-g _ (type_in a) (answer-t a h.1.0) (answer-r a h.1.0 r)).right
    place-r (Node t ty (Cond c a b)) h r p =
        let n : IsRecordType (type_of ty) = is-record (type_of ty) p in
        bind-r (tested-g _ (type_in c) (answer-t c h.1.0) (answer-r c h.1.0 r.0)) λ x u.
        branch-r x (place-r a h.1.1 r.1 (record-place a n.0 (h.1.4 ∙ n.1))) (place-r b h.1.2 r.2 (record-place b n.0 (h.1.5 ∙ n.1)))
    place-r (Node t ty (Comma a b)) h r p =
        let n : IsRecordType (type_of ty) = is-record (type_of ty) p in
        bind-r (record { sound = answer-t a h.1.0; right = answer-r a h.1.0 r.0 }) λ o i. place-r b h.1.1 r.1 (record-place b n.0 (h.1.2 ∙ n.1))
    place-r (Node t ty (Assign a b)) h r p =
        bind-r (record { sound = place-t a h.1.0; right = place-r a h.1.0 r.0 (lvalue-place a h.1.2.lvalue) }) λ q i.
        bind-r (operand-g _ (type_in b) (answer-t b h.1.1) (answer-r b h.1.1 r.1)) λ v j.
        bind-r (put-g _ _ (type_in a) q v (can-put e.home.tree.records a v h.1.2 (subst (λ x. IsValueOf x v) (h.1.4 ∙ sym h.1.3) j)) i) λ u k. give-r q
    place-r (Node t ty (Number n)) h r p = nowhere (type_of ty) p (not-scalar (type_of ty) (number-scalar (type_of ty) n h.1))
    place-r (Node t ty (Unary op a)) h r p = nowhere (type_of ty) p (not-scalar (type_of ty) (unary-scalar op (type_in a) (type_of ty) h.1.1))
    place-r (Node t ty (Binary op a b)) h r p =
        nowhere (type_of ty) p (not-scalar (type_of ty) (binary-scalar e.home.tree.records op (type_in a) (type_in b) (type_of ty) h.1.2))
    place-r (Node t ty (Logic op a b)) h r p = nowhere (type_of ty) p (not-scalar (type_of ty) (int-scalar (type_of ty) K.Int h.1.4))
    place-r (Node t ty (Compound op working a b)) h r p =
        nowhere (type_of ty) p (not-scalar (type_of ty) (subst W.IsScalar h.1.3
        (scalar-left (records_of e) op working (type_in a) (type_in b) (works (records_of e) op working (type_in a) (type_in b) h.1.4))))
    place-r (Node t ty (Step op a)) h r p =
        nowhere (type_of ty) p (not-scalar (type_of ty) (subst W.IsScalar h.1.2
        (scalar-left (records_of e) (step_operator op) (promoted_type (type_in a)) (type_in a) (Int K.Int) (stepped (records_of e) op (type_in a) h.1.3))))
    place-r (Node t ty (Cast a)) h r p = nowhere (type_of ty) p (cast-record (type_in a) (type_of ty) h.1.1)
    place-r (Node t ty (Decay a)) h r p = nowhere (type_of ty) p (not-scalar (type_of ty) (decays-scalar a (type_of ty) h.1.1))
    place-r (Node t ty (Address a)) h r p = nowhere (type_of ty) p (not-scalar (type_of ty) (pointer-scalar (type_of ty) (type_at a) h.1.2))
    place-r (Node t ty (Call x args)) h r p = nowhere (type_of ty) p (result-record (type_of ty) (type_of h.1.0) h.1.4 h.1.3)
    place-r (Node t ty (CallValue a args)) h r p = nowhere (type_of ty) p (result-record (type_of ty) (type_of h.1.1.0) h.1.1.6 h.1.1.5)

    pub values-r : (args : Expressions) (params : QTypes) (t : ℕ) → AreArguments e.home.tree e.locals args params → AreResolved e.world.program e.home.name scope args
        → Right (values_of args t cs e)
    values-r NoExpression params t h r = give-r []
    values-r (OneExpression a rest) (OneType q params) t h r =
        bind-r (operand-g _ (type_in a) (answer-t a h.0) (answer-r a h.0 r.0)) λ v i.
        map-r (λ vs. v ∷ vs) (values-r rest params t h.3 r.1)
    values-r (OneExpression a rest) NoType t h r = absurd h
