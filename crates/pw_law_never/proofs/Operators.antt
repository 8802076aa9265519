-- Accesses, operators and conversions of values of their types come to no end that the meaning does not have.
use Rattle.std.proofs.Common.{ℕ, zero, suc, ◌≡◌, ◌⊎◌, inl, inr, refl, sym, subst, Bool, true, false, List, Option, Some, None, Result, Ok, Err}
use Rattle.std.specs.Prelude.{ℤ, IsSome}
use Rattle.std.proofs.lemmas.Bool.{true≢false}
use Rattle.pw_value.specs.declared.value.Value.{Value}
use Rattle.pw_value.specs.declared.value.Value.TheVariants as V
use Rattle.pw_value.specs.declared.value.Pointer.TheVariants as Ptr
use Rattle.pw_value.specs.declared.words.WordFault.{WordFault}
use Rattle.pw_value.specs.declared.words.WordFault.TheVariants.{Overflow, ZeroDivisor, ShiftCount}
use Rattle.pw_value.specs.Values.{same_pointer}
use Rattle.pw_types.specs.TypeTrees.{CType, Void, Int, Pointer, Array, Function as FunctionType, Record, QType, type_of, RecordValue}
use Rattle.pw_types.specs.Conversions.{size_of_kind, promoted}
use Rattle.pw_types.specs.Layouts.{layout_of}
use Rattle.pw_types.specs.declared.kind.IntKind.{IntKind}
use Rattle.pw_types.specs.declared.kind.IntKind.TheVariants as K
use Rattle.pw_types.specs.declared.record.Layout.{Layout}
use Rattle.pw_types.specs.declared.tree.UnaryOperator.{UnaryOperator}
use Rattle.pw_types.specs.declared.tree.UnaryOperator.TheVariants.{Plus, Minus, Complement, Not}
use Rattle.pw_types.specs.declared.tree.BinaryOperator.{BinaryOperator}
use Rattle.pw_types.specs.declared.tree.BinaryOperator.TheVariants as O
use Rattle.pw_types.specs.WellTyped as W
use Rattle.pw_cmean.specs.Acts.{Site}
use Rattle.pw_cmean.specs.Access.{Purpose, Assigning, Initialising, within, load, store, copy, fetch, put}
use Rattle.pw_cmean.specs.Operators.{truth, outcome_of, on_numbers, unary_number, unary, advance, advance_elements, difference, ordered, same, compared, on_pointers, pointer_and_number, number_and_pointer, binary, as_pointer, convert}
use Rattle.pw_cmean.specs.Typed.{IsPointer, IsValueOf}
use Rattle.pw_cmean.proofs.SoundActs.{Any}
use Rattle.pw_cmean.proofs.SoundOperators.{truth-s}
use Rattle.pw_law_never.proofs.NotWrong.{Right, Good, HasOne, bind-r, give-r, need-r, need-g, undefined-r, judge-g, objects_now-g, write-r, one-of}

-- ---- accesses

clash : {A : Type 0} → true ≡ false → A
clash h = absurd (true≢false h)

pub load-r : (at : Site) (ty : CType) (p : Value) → IsPointer p → Right (load at ty p)
unfolding load within
load-r at ty (V.At (Ptr.Object n i)) h = bind-r objects_now-g λ os b. bind-r (judge-g at _) λ u none. give-r _
load-r at ty (V.At (Ptr.Function f)) h = bind-r objects_now-g λ os b. bind-r (judge-g at _) λ u none. clash none.1.1.0
load-r at ty V.Null h = bind-r objects_now-g λ os b. bind-r (judge-g at _) λ u none. clash none.1.1.0
load-r at ty V.Undefined h = absurd h
load-r at ty (V.Num x) h = absurd h
load-r at ty (V.Piece q x) h = absurd h

pub store-r : (w : Purpose) (at : Site) (ty : CType) (p v : Value) → IsPointer p → Right (store w at ty p v)
unfolding store within
store-r w at ty (V.At (Ptr.Object n i)) v h = bind-r objects_now-g λ os b. bind-r (judge-g at _) λ u none. write-r n i _
store-r Assigning at ty (V.At (Ptr.Function f)) v h = bind-r objects_now-g λ os b. bind-r (judge-g at _) λ u none. clash none.1.0
store-r Initialising at ty (V.At (Ptr.Function f)) v h = bind-r objects_now-g λ os b. bind-r (judge-g at _) λ u none. clash none.0
store-r Assigning at ty V.Null v h = bind-r objects_now-g λ os b. bind-r (judge-g at _) λ u none. clash none.1.0
store-r Initialising at ty V.Null v h = bind-r objects_now-g λ os b. bind-r (judge-g at _) λ u none. clash none.0
store-r w at ty V.Undefined v h = absurd h
store-r w at ty (V.Num x) v h = absurd h
store-r w at ty (V.Piece q x) v h = absurd h

pub copy-r : (w : Purpose) (at : Site) (l : Layout) (p q : Value) → IsPointer p → IsPointer q → Right (copy w at l p q)
unfolding copy within
copy-r w at l (V.At (Ptr.Object n i)) (V.At (Ptr.Object m j)) h k = bind-r objects_now-g λ os b. bind-r (judge-g at _) λ u none. write-r n i _
copy-r Assigning at l (V.At (Ptr.Function f)) (V.At (Ptr.Object m j)) h k = bind-r objects_now-g λ os b. bind-r (judge-g at _) λ u none. clash none.1.1.1.1.1.0
copy-r Initialising at l (V.At (Ptr.Function f)) (V.At (Ptr.Object m j)) h k = bind-r objects_now-g λ os b. bind-r (judge-g at _) λ u none. clash none.1.1.1.1.0
copy-r Assigning at l V.Null (V.At (Ptr.Object m j)) h k = bind-r objects_now-g λ os b. bind-r (judge-g at _) λ u none. clash none.1.1.1.1.1.0
copy-r Initialising at l V.Null (V.At (Ptr.Object m j)) h k = bind-r objects_now-g λ os b. bind-r (judge-g at _) λ u none. clash none.1.1.1.1.0
copy-r w at l p (V.At (Ptr.Function f)) h k = bind-r objects_now-g λ os b. bind-r (judge-g at _) λ u none. clash none.1.0
copy-r w at l p V.Null h k = bind-r objects_now-g λ os b. bind-r (judge-g at _) λ u none. clash none.1.0
copy-r w at l V.Undefined q h k = absurd h
copy-r w at l (V.Num x) q h k = absurd h
copy-r w at l (V.Piece p x) q h k = absurd h
copy-r w at l p V.Undefined h k = absurd k
copy-r w at l p (V.Num x) h k = absurd k
copy-r w at l p (V.Piece q x) h k = absurd k

-- a value of a type can be put into an object of the type
abbrev pub CanPut : List RecordValue → CType → Value → Type 0
CanPut rs (Int k) v = Unit {0}
CanPut rs (Pointer q) v = Unit {0}
CanPut rs (Record n) v = HasOne (layout_of rs (Record n)) × IsPointer v
CanPut rs ty v = ⊥

pub put-r : (w : Purpose) (at : Site) (rs : List RecordValue) (ty : CType) (p v : Value) → CanPut rs ty v → IsPointer p → Right (put w at rs ty p v)
unfolding put
put-r w at rs (Int k) p v c h = store-r w at (Int k) p v h
put-r w at rs (Pointer q) p v c h = store-r w at (Pointer q) p v h
put-r w at rs (Record n) p v c h = bind-r (need-g _ c.0) λ l e. copy-r w at l p v h c.1
put-r w at rs Void p v c h = absurd c
put-r w at rs (Array q n) p v c h = absurd c
put-r w at rs (FunctionType q ps) p v c h = absurd c

pub fetch-r : (at : Site) (ty : CType) (p : Value) → IsPointer p → Right (fetch at ty p)
unfolding fetch
fetch-r at (Int k) p h = load-r at (Int k) p h
fetch-r at (Pointer q) p h = load-r at (Pointer q) p h
fetch-r at Void p h = give-r p
fetch-r at (Array q n) p h = give-r p
fetch-r at (FunctionType q ps) p h = give-r p
fetch-r at (Record n) p h = give-r p

-- ---- numbers

abbrev pub IsNum : Value → Type 0
IsNum (V.Num n) = Unit {0}
IsNum _ = ⊥

-- a value of a promoted type is a number
pub num-of : (k : IntKind) (v : Value) → promoted k ≡ k → IsValueOf (Int k) v → IsNum v
num-of k (V.Num n) h i = tt
num-of k (V.Piece p x) h i = no-byte k h i
  where
    no-byte : (k : IntKind) → promoted k ≡ k → size_of_kind k ≡ 1 → ⊥
    no-byte K.Char h i = cc
    no-byte K.SChar h i = cc
    no-byte K.UChar h i = cc
    no-byte K.Short h i = cc
    no-byte K.UShort h i = cc
    no-byte K.Int h i = cc
    no-byte K.UInt h i = cc
    no-byte K.Long h i = cc
    no-byte K.ULong h i = cc
num-of k V.Undefined h i = absurd i
num-of k V.Null h i = absurd i
num-of k (V.At p) h i = absurd i

pub outcome_of-r : (at : Site) (r : Result ℕ WordFault) → Right (outcome_of at r)
unfolding outcome_of
outcome_of-r at (Ok n) = give-r _
outcome_of-r at (Err Overflow) = undefined-r at _
outcome_of-r at (Err ZeroDivisor) = undefined-r at _
outcome_of-r at (Err ShiftCount) = undefined-r at _

pub on_numbers-r : (at : Site) (op : BinaryOperator) (k : IntKind) (v w : Value) → IsNum v → IsNum w → Right (on_numbers at op k v w)
unfolding on_numbers
on_numbers-r at op k (V.Num a) (V.Num b) h i = outcome_of-r at _
on_numbers-r at op k (V.Num a) V.Undefined h i = absurd i
on_numbers-r at op k (V.Num a) V.Null h i = absurd i
on_numbers-r at op k (V.Num a) (V.At p) h i = absurd i
on_numbers-r at op k (V.Num a) (V.Piece p x) h i = absurd i
on_numbers-r at op k V.Undefined w h i = absurd h
on_numbers-r at op k V.Null w h i = absurd h
on_numbers-r at op k (V.At p) w h i = absurd h
on_numbers-r at op k (V.Piece p x) w h i = absurd h

-- what is compared with 0
abbrev pub IsTested : Value → Type 0
IsTested V.Undefined = ⊥
IsTested _ = Unit {0}

tested-pointer : (v : Value) → IsPointer v → IsTested v
tested-pointer V.Null h = tt
tested-pointer (V.At p) h = tt
tested-pointer V.Undefined h = h
tested-pointer (V.Num n) h = tt
tested-pointer (V.Piece p i) h = tt

pub tested : (ty : CType) (v : Value) → IsValueOf ty v → IsTested v
tested (Int k) (V.Num n) h = tt
tested (Int k) V.Null h = tt
tested (Int k) (V.At p) h = tt
tested (Int k) (V.Piece p i) h = tt
tested (Int k) V.Undefined h = h
tested Void v h = absurd h
tested (Pointer q) v h = tested-pointer v h
tested (Array q n) v h = tested-pointer v h
tested (FunctionType q ps) v h = tested-pointer v h
tested (Record n) v h = tested-pointer v h

pub truth-r : (at : Site) (v : Value) → IsTested v → Right (truth at v)
unfolding truth
truth-r at (V.Num n) h = bind-r objects_now-g λ os b. bind-r (judge-g at _) λ u none. need-r _ (_, refl)
truth-r at V.Null h = bind-r objects_now-g λ os b. bind-r (judge-g at _) λ u none. need-r _ (_, refl)
truth-r at (V.At p) h = bind-r objects_now-g λ os b. bind-r (judge-g at _) λ u none. need-r _ (_, refl)
truth-r at (V.Piece p i) h = bind-r objects_now-g λ os b. bind-r (judge-g at _) λ u none. clash none.1.0
truth-r at V.Undefined h = absurd h

pub truth-g : (at : Site) (v : Value) → IsTested v → Good Any (truth at v)
truth-g at v h = record { sound = truth-s at v; right = truth-r at v h }

unary_number-r : (at : Site) (op : UnaryOperator) (k : IntKind) (v : Value) → (op ≡ Not → ⊥) → IsNum v → Right (unary_number at op (Int k) v)
unfolding unary_number
unary_number-r at Minus k (V.Num n) o h = outcome_of-r at _
unary_number-r at Plus k (V.Num n) o h = give-r _
unary_number-r at Complement k (V.Num n) o h = give-r _
unary_number-r at Not k v o h = absurd (o refl)
unary_number-r at op k V.Undefined o h = absurd h
unary_number-r at op k V.Null o h = absurd h
unary_number-r at op k (V.At p) o h = absurd h
unary_number-r at op k (V.Piece p i) o h = absurd h

promoted-unary : (at : Site) (op : UnaryOperator) (operand result : CType) (v : Value) → (op ≡ Not → ⊥) → W.IsPromoted operand → result ≡ operand
    → IsValueOf operand v → Right (unary_number at op result v)
promoted-unary at op (Int k) result v o h e i = subst (λ ty. Right (unary_number at op ty v)) (sym e) (unary_number-r at op k v o (num-of k v h i))
promoted-unary at op Void result v o h e i = absurd h
promoted-unary at op (Pointer q) result v o h e i = absurd h
promoted-unary at op (Array q n) result v o h e i = absurd h
promoted-unary at op (FunctionType q ps) result v o h e i = absurd h
promoted-unary at op (Record n) result v o h e i = absurd h

pub unary-r : (at : Site) (op : UnaryOperator) (operand result : CType) (v : Value) → W.FitsUnary op operand result → IsValueOf operand v → Right (unary at op result v)
unfolding unary
unary-r at Not operand result v h i = bind-r (truth-g at v (tested operand v i)) λ b u. give-r _
unary-r at Plus operand result v h i = promoted-unary at Plus operand result v (λ e. cc) h.0 h.1 i
unary-r at Minus operand result v h i = promoted-unary at Minus operand result v (λ e. cc) h.0 h.1 i
unary-r at Complement operand result v h i = promoted-unary at Complement operand result v (λ e. cc) h.0 h.1 i

-- ---- pointers

pub advance-r : (at : Site) (p : Value) (z : ℤ) → Right (advance at p z)
unfolding advance
advance-r at p z = bind-r objects_now-g λ os b. bind-r (judge-g at _) λ u none. need-r _ (one-of _ none.1.0)

advance_elements-r : (at : Site) (rs : List RecordValue) (q : QType) (sign : ℤ → ℤ) (p : Value) (k : IntKind) (v : Value) → HasOne (layout_of rs (type_of q))
    → Right (advance_elements at rs q sign p k v)
unfolding advance_elements
advance_elements-r at rs q sign p k v h =
    bind-r (need-g _ h) λ l e. bind-r objects_now-g λ os b. bind-r (judge-g at _) λ u none. need-r _ (one-of _ none.1.0)

difference-r : (at : Site) (size : ℕ) (p q : Value) → Right (difference at size p q)
unfolding difference
difference-r at size p q = bind-r objects_now-g λ os b. bind-r (judge-g at _) λ u none. outcome_of-r at _

ordered-r : (at : Site) (op : BinaryOperator) (p q : Value) → Right (ordered at op p q)
unfolding ordered
ordered-r at op p q = bind-r objects_now-g λ os b. bind-r (judge-g at _) λ u none. outcome_of-r at _

same-one : (p q : Value) → IsPointer p → IsPointer q → HasOne (same p q)
same-one V.Null V.Null h k = (true, refl)
same-one V.Null (V.At q) h k = (false, refl)
same-one (V.At p) V.Null h k = (false, refl)
same-one (V.At p) (V.At q) h k = (same_pointer p q, refl)
same-one V.Undefined q h k = absurd h
same-one (V.Num n) q h k = absurd h
same-one (V.Piece p i) q h k = absurd h
same-one p V.Undefined h k = absurd k
same-one p (V.Num n) h k = absurd k
same-one p (V.Piece q i) h k = absurd k

compared-r : (at : Site) (f : Bool → Bool) (p q : Value) → IsPointer p → IsPointer q → Right (compared at f p q)
unfolding compared
compared-r at f p q h k = bind-r objects_now-g λ os b. bind-r (judge-g at _) λ u none. bind-r (need-g _ (same-one p q h k)) λ x e. give-r _

-- ---- binary operators

numbers-r : (at : Site) (rs : List RecordValue) (op : BinaryOperator) (left right result : CType) (v w : Value) → W.AreNumbers left right result
    → IsValueOf left v → IsValueOf right w → Right (binary at rs op left right v w)
unfolding binary
numbers-r at rs op left right (Int k) v w h i j =
    let first : IsNum v = num-of k v h.0 (subst (λ ty. IsValueOf ty v) h.1 i) in
    let second : IsNum w = num-of k w h.0 (subst (λ ty. IsValueOf ty w) h.2 j) in
    subst (λ l. Right (binary at rs op l right v w)) (sym h.1) (subst (λ r. Right (binary at rs op (Int k) r v w)) (sym h.2) (on_numbers-r at op k v w first second))
numbers-r at rs op left right Void v w h i j = absurd h.0
numbers-r at rs op left right (Pointer q) v w h i j = absurd h.0
numbers-r at rs op left right (Array q n) v w h i j = absurd h.0
numbers-r at rs op left right (FunctionType q ps) v w h i j = absurd h.0
numbers-r at rs op left right (Record n) v w h i j = absurd h.0

shifts-r : (at : Site) (rs : List RecordValue) (op : BinaryOperator) (left right : CType) (v w : Value) → W.IsPromoted left → W.IsPromoted right
    → IsValueOf left v → IsValueOf right w → Right (binary at rs op left right v w)
unfolding binary
shifts-r at rs op (Int k) (Int l) v w h g i j = on_numbers-r at op k v w (num-of k v h i) (num-of l w g j)
shifts-r at rs op Void right v w h g i j = absurd h
shifts-r at rs op (Pointer q) right v w h g i j = absurd h
shifts-r at rs op (Array q n) right v w h g i j = absurd h
shifts-r at rs op (FunctionType q ps) right v w h g i j = absurd h
shifts-r at rs op (Record n) right v w h g i j = absurd h
shifts-r at rs op (Int k) Void v w h g i j = absurd g
shifts-r at rs op (Int k) (Pointer q) v w h g i j = absurd g
shifts-r at rs op (Int k) (Array q n) v w h g i j = absurd g
shifts-r at rs op (Int k) (FunctionType q ps) v w h g i j = absurd g
shifts-r at rs op (Int k) (Record n) v w h g i j = absurd g

-- `+` and `-` move a pointer
abbrev pub Moves : BinaryOperator → Type 0
Moves O.Add = Unit {0}
Moves O.Subtract = Unit {0}
Moves _ = ⊥

pub pointer_and_number-r : (at : Site) (rs : List RecordValue) (q : QType) (op : BinaryOperator) (p : Value) (k : IntKind) (v : Value) → Moves op
    → HasOne (layout_of rs (type_of q)) → Right (pointer_and_number at rs q op p k v)
unfolding pointer_and_number
pointer_and_number-r at rs q O.Add p k v m h = advance_elements-r at rs q _ p k v h
pointer_and_number-r at rs q O.Subtract p k v m h = advance_elements-r at rs q _ p k v h
pointer_and_number-r at rs q O.Multiply p k v m h = absurd m
pointer_and_number-r at rs q O.Divide p k v m h = absurd m
pointer_and_number-r at rs q O.Remainder p k v m h = absurd m
pointer_and_number-r at rs q O.ShiftLeft p k v m h = absurd m
pointer_and_number-r at rs q O.ShiftRight p k v m h = absurd m
pointer_and_number-r at rs q O.Less p k v m h = absurd m
pointer_and_number-r at rs q O.Greater p k v m h = absurd m
pointer_and_number-r at rs q O.LessEqual p k v m h = absurd m
pointer_and_number-r at rs q O.GreaterEqual p k v m h = absurd m
pointer_and_number-r at rs q O.Equal p k v m h = absurd m
pointer_and_number-r at rs q O.NotEqual p k v m h = absurd m
pointer_and_number-r at rs q O.And p k v m h = absurd m
pointer_and_number-r at rs q O.ExclusiveOr p k v m h = absurd m
pointer_and_number-r at rs q O.Or p k v m h = absurd m

-- what points to an object, by its type
pub layout-one : {A : Type 0} (o : Option A) → IsSome o → HasOne o
layout-one (Some a) h = (a, refl)
layout-one None h = cc

moves-r : (at : Site) (rs : List RecordValue) (op : BinaryOperator) (pointer number result : CType) (v w : Value) → Moves op
    → W.MovesPointer rs pointer number result → Right (binary at rs op pointer number v w)
unfolding binary
moves-r at rs op pointer (Int k) result v w m h =
    subst (λ l. Right (binary at rs op l (Int k) v w)) (sym h.0.1) (pointer_and_number-r at rs h.0.0 op v k w m (layout-one _ h.0.2))
moves-r at rs op pointer Void result v w m h = absurd h.1
moves-r at rs op pointer (Pointer q) result v w m h = absurd h.1
moves-r at rs op pointer (Array q n) result v w m h = absurd h.1
moves-r at rs op pointer (FunctionType q ps) result v w m h = absurd h.1
moves-r at rs op pointer (Record n) result v w m h = absurd h.1

moves-back-r : (at : Site) (rs : List RecordValue) (pointer number result : CType) (v w : Value)
    → W.MovesPointer rs pointer number result → Right (binary at rs O.Add number pointer v w)
unfolding binary number_and_pointer
moves-back-r at rs pointer (Int k) result v w h =
    subst (λ l. Right (binary at rs O.Add (Int k) l v w)) (sym h.0.1) (advance_elements-r at rs h.0.0 (λ z. z) w k v (layout-one _ h.0.2))
moves-back-r at rs pointer Void result v w h = absurd h.1
moves-back-r at rs pointer (Pointer q) result v w h = absurd h.1
moves-back-r at rs pointer (Array q n) result v w h = absurd h.1
moves-back-r at rs pointer (FunctionType q ps) result v w h = absurd h.1
moves-back-r at rs pointer (Record n) result v w h = absurd h.1

apart-r : (at : Site) (rs : List RecordValue) (left right result : CType) (v w : Value) → W.AreApart rs left right result → Right (binary at rs O.Subtract left right v w)
unfolding binary on_pointers
apart-r at rs left right result v w h =
    subst (λ l. Right (binary at rs O.Subtract l right v w)) (sym h.0.1) (subst (λ r. Right (binary at rs O.Subtract (Pointer h.0.0) r v w)) (sym h.1.1)
    (bind-r (need-g _ (layout-one _ h.0.2)) λ l e. difference-r at l.size v w))

-- the comparisons
abbrev pub Compares : BinaryOperator → Type 0
Compares O.Less = Unit {0}
Compares O.Greater = Unit {0}
Compares O.LessEqual = Unit {0}
Compares O.GreaterEqual = Unit {0}
Compares O.Equal = Unit {0}
Compares O.NotEqual = Unit {0}
Compares _ = ⊥

on_pointers-r : (at : Site) (rs : List RecordValue) (q : QType) (op : BinaryOperator) (v w : Value) → Compares op → IsPointer v → IsPointer w → Right (on_pointers at rs q op v w)
unfolding on_pointers
on_pointers-r at rs q O.Less v w c h k = ordered-r at O.Less v w
on_pointers-r at rs q O.Greater v w c h k = ordered-r at O.Greater v w
on_pointers-r at rs q O.LessEqual v w c h k = ordered-r at O.LessEqual v w
on_pointers-r at rs q O.GreaterEqual v w c h k = ordered-r at O.GreaterEqual v w
on_pointers-r at rs q O.Equal v w c h k = compared-r at _ v w h k
on_pointers-r at rs q O.NotEqual v w c h k = compared-r at _ v w h k
on_pointers-r at rs q O.Add v w c h k = absurd c
on_pointers-r at rs q O.Subtract v w c h k = absurd c
on_pointers-r at rs q O.Multiply v w c h k = absurd c
on_pointers-r at rs q O.Divide v w c h k = absurd c
on_pointers-r at rs q O.Remainder v w c h k = absurd c
on_pointers-r at rs q O.ShiftLeft v w c h k = absurd c
on_pointers-r at rs q O.ShiftRight v w c h k = absurd c
on_pointers-r at rs q O.And v w c h k = absurd c
on_pointers-r at rs q O.ExclusiveOr v w c h k = absurd c
on_pointers-r at rs q O.Or v w c h k = absurd c

compares-same : (at : Site) (rs : List RecordValue) (op : BinaryOperator) (left : CType) (v w : Value) → Compares op → W.IsPromoted left ⊎ W.IsPointer left
    → IsValueOf left v → IsValueOf left w → Right (binary at rs op left left v w)
unfolding binary
compares-same at rs op left v w c (inl h) i j = shifts-r at rs op left left v w h h i j
compares-same at rs op left v w c (inr h) i j =
    subst (λ l. Right (binary at rs op l l v w)) (sym h.1)
    (on_pointers-r at rs h.0 op v w c (subst (λ ty. IsValueOf ty v) h.1 i) (subst (λ ty. IsValueOf ty w) h.1 j))

compares-r : (at : Site) (rs : List RecordValue) (op : BinaryOperator) (left right result : CType) (v w : Value) → Compares op → W.AreCompared left right result
    → IsValueOf left v → IsValueOf right w → Right (binary at rs op left right v w)
compares-r at rs op left right result v w c h i j =
    subst (λ r. Right (binary at rs op left r v w)) (sym h.1) (compares-same at rs op left v w c h.0 i (subst (λ ty. IsValueOf ty w) h.1 j))

pub binary-r : (at : Site) (rs : List RecordValue) (op : BinaryOperator) (left right result : CType) (v w : Value) → W.FitsBinary rs op left right result
    → IsValueOf left v → IsValueOf right w → Right (binary at rs op left right v w)
binary-r at rs O.Add left right result v w (inl h) i j = numbers-r at rs O.Add left right result v w h i j
binary-r at rs O.Add left right result v w (inr (inl h)) i j = moves-r at rs O.Add left right result v w tt h
binary-r at rs O.Add left right result v w (inr (inr h)) i j = moves-back-r at rs right left result v w h
binary-r at rs O.Subtract left right result v w (inl h) i j = numbers-r at rs O.Subtract left right result v w h i j
binary-r at rs O.Subtract left right result v w (inr (inl h)) i j = moves-r at rs O.Subtract left right result v w tt h
binary-r at rs O.Subtract left right result v w (inr (inr h)) i j = apart-r at rs left right result v w h
binary-r at rs O.Multiply left right result v w h i j = numbers-r at rs O.Multiply left right result v w h i j
binary-r at rs O.Divide left right result v w h i j = numbers-r at rs O.Divide left right result v w h i j
binary-r at rs O.Remainder left right result v w h i j = numbers-r at rs O.Remainder left right result v w h i j
binary-r at rs O.And left right result v w h i j = numbers-r at rs O.And left right result v w h i j
binary-r at rs O.ExclusiveOr left right result v w h i j = numbers-r at rs O.ExclusiveOr left right result v w h i j
binary-r at rs O.Or left right result v w h i j = numbers-r at rs O.Or left right result v w h i j
binary-r at rs O.ShiftLeft left right result v w h i j = shifts-r at rs O.ShiftLeft left right v w h.0 h.1 i j
binary-r at rs O.ShiftRight left right result v w h i j = shifts-r at rs O.ShiftRight left right v w h.0 h.1 i j
binary-r at rs O.Less left right result v w h i j = compares-r at rs O.Less left right result v w tt h i j
binary-r at rs O.Greater left right result v w h i j = compares-r at rs O.Greater left right result v w tt h i j
binary-r at rs O.LessEqual left right result v w h i j = compares-r at rs O.LessEqual left right result v w tt h i j
binary-r at rs O.GreaterEqual left right result v w h i j = compares-r at rs O.GreaterEqual left right result v w tt h i j
binary-r at rs O.Equal left right result v w h i j = compares-r at rs O.Equal left right result v w tt h i j
binary-r at rs O.NotEqual left right result v w h i j = compares-r at rs O.NotEqual left right result v w tt h i j

-- ---- conversions

-- what becomes a pointer: the number 0, or a pointer
abbrev pub Points : Value → Type 0
Points (V.Num zero) = Unit {0}
Points (V.Num (suc n)) = ⊥
Points V.Null = Unit {0}
Points (V.At p) = Unit {0}
Points _ = ⊥

pub points-of : (v : Value) → IsPointer v → Points v
points-of V.Null h = tt
points-of (V.At p) h = tt
points-of V.Undefined h = absurd h
points-of (V.Num n) h = absurd h
points-of (V.Piece p i) h = absurd h

pointer-one : (v : Value) → Points v → HasOne (as_pointer v)
pointer-one (V.Num zero) h = (V.Null, refl)
pointer-one (V.Num (suc n)) h = absurd h
pointer-one V.Null h = (V.Null, refl)
pointer-one (V.At p) h = (V.At p, refl)
pointer-one V.Undefined h = absurd h
pointer-one (V.Piece p i) h = absurd h

pub to-number-r : (at : Site) (k : IntKind) (v : Value) → Right (convert at (Int k) v)
unfolding convert
to-number-r at k v = bind-r (judge-g at _) λ u none. give-r _

pub to-pointer-r : (at : Site) (q : QType) (v : Value) → Points v → Right (convert at (Pointer q) v)
unfolding convert
to-pointer-r at q v h = need-r _ (pointer-one v h)
