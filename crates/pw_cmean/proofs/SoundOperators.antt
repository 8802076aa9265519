-- Accesses, operators and conversions give values of their types.
use Rattle.std.proofs.Common.{ℕ, zero, suc, ◌^◌, ◌<◌, ◌≡◌, ◌≢◌, refl, sym, subst, arith, Bool, true, false, not, List, [], ◌∷◌, Option, Some, None, Result, Ok, Err}
use Rattle.std.specs.Prelude.{ℤ, pos, int_div, ◌&&◌, ◌==◌, option_map}
use Rattle.std.proofs.lemmas.Bool.{true≢false}
use Rattle.std.proofs.lemmas.Bool.Decides.{nat_tests}
use Rattle.pw_value.specs.declared.value.Value.{Value}
use Rattle.pw_value.specs.declared.value.Value.TheVariants as V
use Rattle.pw_value.specs.declared.value.Byte.{Byte}
use Rattle.pw_value.specs.declared.value.Pointer.{Pointer as AnyPointer}
use Rattle.pw_value.specs.declared.value.Pointer.TheVariants as Ptr
use Rattle.pw_value.specs.declared.words.WordFault.{WordFault}
use Rattle.pw_value.specs.declared.words.WordFault.TheVariants.{Overflow, ZeroDivisor, ShiftCount}
use Rattle.pw_value.specs.Objects.{Object, object_at, byte_at, bytes_from}
use Rattle.pw_value.proofs.Ranges.{length-bytes_from}
use Rattle.pw_types.specs.TypeTrees.{CType, Void, Int, Pointer, Array, Function as FunctionType, Record, QType, RecordValue}
use Rattle.pw_types.specs.Conversions.{size_of_kind, promoted, converted}
use Rattle.pw_types.specs.declared.kind.IntKind.{IntKind}
use Rattle.pw_types.specs.declared.kind.IntKind.TheVariants as K
use Rattle.pw_types.specs.declared.record.Layout.{Layout}
use Rattle.pw_types.specs.declared.tree.UnaryOperator.{UnaryOperator}
use Rattle.pw_types.specs.declared.tree.UnaryOperator.TheVariants.{Plus, Minus, Complement, Not}
use Rattle.pw_types.specs.declared.tree.BinaryOperator.{BinaryOperator}
use Rattle.pw_types.specs.declared.tree.BinaryOperator.TheVariants as O
use Rattle.pw_cmean.specs.declared.undefined.Undef.TheVariants as U
use Rattle.pw_cmean.specs.Undefined.{◌when◌}
use Rattle.pw_cmean.specs.Acts.{Act, Outcome, Gives, Ends, Site}
use Rattle.pw_cmean.specs.Access.{Purpose, within, width_of, value_in, reading, is_inside, load, store, copy, fetch, put}
use Rattle.pw_cmean.specs.Operators.{truth, number_for, outcome_of, on_numbers, unary_number, unary, further, kept_in, moved, advance, advance_elements, difference, ordered, compared, on_pointers, pointer_and_number, number_and_pointer, binary, as_pointer, convert, is_piece, arithmetic, distance, offset_of}
use Rattle.pw_cmean.specs.Typed.{IsNumberOf, IsPointer, IsValueOf, IfGives}
use Rattle.pw_types.specs.WellTyped.{IsScalar, IsPromoted}
use Rattle.pw_cmean.proofs.NodeTypes.{IsPointerType, kind_given, BinaryGives}
use Rattle.pw_cmean.proofs.ValueLaws.{scalar-of, pointer-of, encoding-are, converted-of, below-word, word-of}
use Rattle.pw_cmean.proofs.WordLaws.{GivesWord, arithmetic-word, negation-word, exact-word, number_for-word}
use Rattle.pw_cmean.proofs.SoundActs.{Sound, Any, bind-s, give-s, wrong-s, need-s, undefined-s, NoneHold, judge-s, HoldBytes, object-bytes, bytes_from-are, objects_now-s, write-s}

-- ---- accesses

pub within-s : {A : Type 0} {P : A → Type 0} (v : Value) {f : ℕ → ℕ → Act A} → ((n i : ℕ) → Sound P (f n i)) → Sound P (within v f)
unfolding within
within-s (V.At (Ptr.Object n i)) p = p n i
within-s {A} {P} (V.At (Ptr.Function n)) p = wrong-s P
within-s {A} {P} V.Undefined p = wrong-s P
within-s {A} {P} (V.Num n) p = wrong-s P
within-s {A} {P} V.Null p = wrong-s P
within-s {A} {P} (V.Piece q i) p = wrong-s P

second-of : (a x : Bool) → not a ≡ false → (a && x) ≡ false → x ≡ false
second-of true x h k = k
second-of false x h k = absurd (true≢false h)

-- what was read of an object is of the type
loaded : (os : List Object) (ty : CType) (n i : ℕ) → IsScalar ty → HoldBytes os → NoneHold (reading os ty (V.At (Ptr.Object n i)))
    → IsValueOf ty (value_in ty (bytes_from (width_of ty) i (object_at os n).bytes))
loaded os (Int k) n i sc h none =
    scalar-of k (bytes_from (size_of_kind k) i (object_at os n).bytes) (length-bytes_from (size_of_kind k) i (object_at os n).bytes)
    (bytes_from-are (size_of_kind k) i (object_at os n).bytes (object-bytes os n h))
    (second-of (is_inside (size_of_kind k) i (object_at os n).bytes) _ none.1.1.0 none.1.0)
loaded os (Pointer q) n i sc h none =
    let bytes : List Byte = (object_at os n).bytes in
    pointer-of (byte_at bytes i) (byte_at bytes (suc i)) (byte_at bytes (suc (suc i))) (byte_at bytes (suc (suc (suc i))))
    (second-of (is_inside 4 i bytes) _ none.1.1.0 none.1.0)
loaded os Void n i sc h none = absurd sc
loaded os (Array q c) n i sc h none = absurd sc
loaded os (FunctionType q ps) n i sc h none = absurd sc
loaded os (Record r) n i sc h none = absurd sc

pub load-s : (at : Site) (ty : CType) (p : Value) → IsScalar ty → Sound (IsValueOf ty) (load at ty p)
unfolding load within
load-s at ty (V.At (Ptr.Object n i)) sc = bind-s objects_now-s λ os h. bind-s (judge-s at _) λ u none. give-s (IsValueOf ty) _ (loaded os ty n i sc h none)
load-s at ty (V.At (Ptr.Function f)) sc = bind-s objects_now-s λ os h. bind-s (judge-s at _) λ u none. wrong-s (IsValueOf ty)
load-s at ty V.Undefined sc = bind-s objects_now-s λ os h. bind-s (judge-s at _) λ u none. wrong-s (IsValueOf ty)
load-s at ty (V.Num x) sc = bind-s objects_now-s λ os h. bind-s (judge-s at _) λ u none. wrong-s (IsValueOf ty)
load-s at ty V.Null sc = bind-s objects_now-s λ os h. bind-s (judge-s at _) λ u none. wrong-s (IsValueOf ty)
load-s at ty (V.Piece q x) sc = bind-s objects_now-s λ os h. bind-s (judge-s at _) λ u none. wrong-s (IsValueOf ty)

store-s : (w : Purpose) (at : Site) (ty : CType) (p v : Value) → Sound Any (store w at ty p v)
unfolding store
store-s w at ty p v = bind-s objects_now-s λ os h. bind-s (judge-s at _) λ u none. within-s p λ n i. write-s n i _ (encoding-are v (width_of ty))

copy-s : (w : Purpose) (at : Site) (l : Layout) (p q : Value) → Sound Any (copy w at l p q)
unfolding copy
copy-s w at l p q = bind-s objects_now-s λ os h. bind-s (judge-s at _) λ u none. within-s q λ from i. within-s p λ to j.
    write-s to j _ (bytes_from-are l.size i (object_at os from).bytes (object-bytes os from h))

pub put-s : (w : Purpose) (at : Site) (rs : List RecordValue) (ty : CType) (p v : Value) → Sound Any (put w at rs ty p v)
unfolding put
put-s w at rs (Int k) p v = store-s w at (Int k) p v
put-s w at rs (Pointer q) p v = store-s w at (Pointer q) p v
put-s w at rs (Record n) p v = bind-s (need-s Any _ λ l e. tt) λ l u. copy-s w at l p v
put-s w at rs Void p v = wrong-s Any
put-s w at rs (Array q n) p v = wrong-s Any
put-s w at rs (FunctionType q ps) p v = wrong-s Any

pub fetch-s : (at : Site) (ty : CType) (p : Value) → ty ≢ Void → IsPointer p → Sound (IsValueOf ty) (fetch at ty p)
unfolding fetch
fetch-s at (Int k) p h k' = load-s at (Int k) p tt
fetch-s at (Pointer q) p h k' = load-s at (Pointer q) p tt
fetch-s at Void p h k' = absurd (h refl)
fetch-s at (Array q n) p h k' = give-s (IsValueOf (Array q n)) p k'
fetch-s at (FunctionType q ps) p h k' = give-s (IsValueOf (FunctionType q ps)) p k'
fetch-s at (Record n) p h k' = give-s (IsValueOf (Record n)) p k'

-- ---- numbers

abbrev pub IsWord : Value → Type 0
IsWord (V.Num n) = n < 2 ^ 32
IsWord _ = ⊥

-- a number, if it is one, is a word
abbrev pub IsSmall : Value → Type 0
IsSmall (V.Num n) = n < 2 ^ 32
IsSmall _ = Unit {0}

pub small-pointer : (v : Value) → IsPointer v → IsSmall v
small-pointer V.Undefined h = tt
small-pointer (V.Num n) h = absurd h
small-pointer V.Null h = tt
small-pointer (V.At p) h = tt
small-pointer (V.Piece p i) h = tt

pub small-value : (ty : CType) (v : Value) → IsValueOf ty v → IsSmall v
small-value (Int k) (V.Num n) h = below-word k n h
small-value (Int k) V.Undefined h = tt
small-value (Int k) V.Null h = tt
small-value (Int k) (V.At p) h = tt
small-value (Int k) (V.Piece p i) h = tt
small-value Void v h = absurd h
small-value (Pointer q) v h = small-pointer v h
small-value (Array q n) v h = small-pointer v h
small-value (FunctionType q ps) v h = small-pointer v h
small-value (Record n) v h = small-pointer v h

outcome_of-s : (at : Site) (r : Result ℕ WordFault) → GivesWord r → Sound IsWord (outcome_of at r)
unfolding outcome_of
outcome_of-s at (Ok n) h = give-s IsWord (V.Num n) h
outcome_of-s at (Err Overflow) h = undefined-s IsWord at _
outcome_of-s at (Err ZeroDivisor) h = undefined-s IsWord at _
outcome_of-s at (Err ShiftCount) h = undefined-s IsWord at _

pub on_numbers-s : (at : Site) (op : BinaryOperator) (k : IntKind) (v w : Value) → IsSmall v → IsSmall w → Sound IsWord (on_numbers at op k v w)
unfolding on_numbers
on_numbers-s at op k (V.Num a) (V.Num b) h h' = outcome_of-s at _ (arithmetic-word op _ a b h h')
on_numbers-s at op k _ _ h h' = wrong-s IsWord

pub truth-s : (at : Site) (v : Value) → Sound Any (truth at v)
unfolding truth
truth-s at v = bind-s objects_now-s λ os h. bind-s (judge-s at _) λ u none. need-s Any _ λ b e. tt

-- a word is a value of each promoted type
word-value : (ty : CType) (v : Value) → IsPromoted ty → IsWord v → IsValueOf ty v
word-value (Int k) (V.Num n) h w = word-of k n h w
word-value (Int k) V.Undefined h w = absurd w
word-value (Int k) V.Null h w = absurd w
word-value (Int k) (V.At p) h w = absurd w
word-value (Int k) (V.Piece p i) h w = absurd w
word-value Void v h w = absurd h
word-value (Pointer q) v h w = absurd h
word-value (Array q n) v h w = absurd h
word-value (FunctionType q ps) v h w = absurd h
word-value (Record n) v h w = absurd h

unary_number-s : (at : Site) (op : UnaryOperator) (ty : CType) (v : Value) → IsSmall v → Sound IsWord (unary_number at op ty v)
unfolding unary_number
unary_number-s at Minus (Int k) (V.Num n) h = outcome_of-s at _ (negation-word _ n h)
unary_number-s at Plus (Int k) (V.Num n) h = give-s IsWord (V.Num n) h
unary_number-s at Complement (Int k) (V.Num n) h = give-s IsWord _ (omega arith)
unary_number-s at _ _ _ h = wrong-s IsWord

-- what is given by one statement of it is given by a weaker one
pub weaker : {A : Type 0} {P Q : A → Type 0} {m : Act A} → Sound P m → ((a : A) → P a → Q a) → Sound Q m
weaker {A} {P} {Q} {m} p h = record { run = λ s k. weaker-of (m s) (p.run s k) }
  where
    weaker-of : (o : Outcome A) → IfGives P o → IfGives Q o
    weaker-of (Gives a s) k = (h a k.0, k.1)
    weaker-of (Ends e s) k = tt

pub unary-s : (at : Site) (op : UnaryOperator) (ty : CType) (v : Value) → op ≢ Not → IsPromoted ty → IsSmall v → Sound (IsValueOf ty) (unary at op ty v)
unfolding unary
unary-s at Not ty v o h w = absurd (o refl)
unary-s at Plus ty v o h w = weaker (unary_number-s at Plus ty v w) (λ a. word-value ty a h)
unary-s at Minus ty v o h w = weaker (unary_number-s at Minus ty v w) (λ a. word-value ty a h)
unary-s at Complement ty v o h w = weaker (unary_number-s at Complement ty v w) (λ a. word-value ty a h)

pub truth-number : (b : Bool) → IsNumberOf K.Int (V.Num (number_for b))
truth-number true = refl
truth-number false = refl

pub not-s : (at : Site) (ty : CType) (v : Value) → Sound (IsValueOf (Int K.Int)) (unary at Not ty v)
unfolding unary
not-s at ty v = bind-s (truth-s at v) λ b u. give-s (IsValueOf (Int K.Int)) _ (truth-number (not b))

-- ---- pointers

moved-pointer : (os : List Object) (p : Value) (z : ℤ) (v : Value) → moved os p z ≡ Some v → IsPointer v
moved-pointer os (V.At (Ptr.Object n i)) z v e = some-pointer n (kept_in _ (further i z)) v e
  where
    some-pointer : (n : ℕ) (o : Option ℕ) (v : Value) → option_map (λ to. V.At (Ptr.Object n to)) o ≡ Some v → IsPointer v
    some-pointer n None v e = cc
    some-pointer n (Some to) v e = (let same : V.At (Ptr.Object n to) ≡ v = cc in subst IsPointer same tt)
moved-pointer os (V.At (Ptr.Function f)) z v e = cc
moved-pointer os V.Undefined z v e = cc
moved-pointer os (V.Num n) z v e = cc
moved-pointer os V.Null z v e = cc
moved-pointer os (V.Piece p i) z v e = cc

pub advance-s : (at : Site) (p : Value) (z : ℤ) → Sound IsPointer (advance at p z)
unfolding advance
advance-s at p z = bind-s objects_now-s λ os h. bind-s (judge-s at _) λ u none. need-s IsPointer _ λ v e. moved-pointer os p z v e

advance_elements-s : (at : Site) (rs : List RecordValue) (q : QType) (sign : ℤ → ℤ) (p : Value) (k : IntKind) (v : Value) → Sound IsPointer (advance_elements at rs q sign p k v)
unfolding advance_elements
advance_elements-s at rs q sign p k v =
    bind-s (need-s Any _ λ l e. tt) λ l u. bind-s objects_now-s λ os h. bind-s (judge-s at _) λ u none. need-s IsPointer _ λ w e. moved-pointer os p _ w e

difference-s : (at : Site) (size : ℕ) (p q : Value) → Sound IsWord (difference at size p q)
unfolding difference
difference-s at size p q = bind-s objects_now-s λ os h. bind-s (judge-s at _) λ u none. outcome_of-s at _ (exact-word (int_div (distance p q) (pos size)))

-- a comparison of any numbers gives 0 or 1
comparison-word : (op : BinaryOperator) (a b : ℕ) → kind_given op K.UInt ≡ K.Int → GivesWord (arithmetic op false a b)
comparison-word O.Less a b h = number_for-word _
comparison-word O.Greater a b h = number_for-word _
comparison-word O.LessEqual a b h = number_for-word _
comparison-word O.GreaterEqual a b h = number_for-word _
comparison-word O.Equal a b h = number_for-word _
comparison-word O.NotEqual a b h = number_for-word _
comparison-word O.Add a b h = cc
comparison-word O.Subtract a b h = cc
comparison-word O.Multiply a b h = cc
comparison-word O.Divide a b h = cc
comparison-word O.Remainder a b h = cc
comparison-word O.ShiftLeft a b h = cc
comparison-word O.ShiftRight a b h = cc
comparison-word O.And a b h = cc
comparison-word O.ExclusiveOr a b h = cc
comparison-word O.Or a b h = cc

ordered-s : (at : Site) (op : BinaryOperator) (p q : Value) → kind_given op K.UInt ≡ K.Int → Sound IsWord (ordered at op p q)
unfolding ordered
ordered-s at op p q h = bind-s objects_now-s λ os b. bind-s (judge-s at _) λ u none. outcome_of-s at _ (comparison-word op (offset_of p) (offset_of q) h)

compared-s : (at : Site) (f : Bool → Bool) (p q : Value) → Sound IsWord (compared at f p q)
unfolding compared
compared-s at f p q = bind-s objects_now-s λ os h. bind-s (judge-s at _) λ u none. bind-s (need-s Any _ λ b e. tt) λ b w. give-s IsWord _ (number_for-word (f b))

on_pointers-s : (at : Site) (rs : List RecordValue) (q : QType) (op : BinaryOperator) (v w : Value) → Sound IsWord (on_pointers at rs q op v w)
unfolding on_pointers
on_pointers-s at rs q O.Subtract v w = bind-s (need-s Any _ λ l e. tt) λ l u. difference-s at _ v w
on_pointers-s at rs q O.Less v w = ordered-s at O.Less v w refl
on_pointers-s at rs q O.Greater v w = ordered-s at O.Greater v w refl
on_pointers-s at rs q O.LessEqual v w = ordered-s at O.LessEqual v w refl
on_pointers-s at rs q O.GreaterEqual v w = ordered-s at O.GreaterEqual v w refl
on_pointers-s at rs q O.Equal v w = compared-s at _ v w
on_pointers-s at rs q O.NotEqual v w = compared-s at _ v w
on_pointers-s at rs q _ v w = wrong-s IsWord

pub pointer_and_number-s : (at : Site) (rs : List RecordValue) (q : QType) (op : BinaryOperator) (p : Value) (k : IntKind) (v : Value) → Sound IsPointer (pointer_and_number at rs q op p k v)
unfolding pointer_and_number
pointer_and_number-s at rs q O.Add p k v = advance_elements-s at rs q _ p k v
pointer_and_number-s at rs q O.Subtract p k v = advance_elements-s at rs q _ p k v
pointer_and_number-s at rs q _ p k v = wrong-s IsPointer

number_and_pointer-s : (at : Site) (rs : List RecordValue) (q : QType) (op : BinaryOperator) (k : IntKind) (v p : Value) → Sound IsPointer (number_and_pointer at rs q op k v p)
unfolding number_and_pointer
number_and_pointer-s at rs q O.Add k v p = advance_elements-s at rs q _ p k v
number_and_pointer-s at rs q _ k v p = wrong-s IsPointer

-- ---- binary operators

kind_given-promoted : (op : BinaryOperator) (k : IntKind) → promoted k ≡ k → promoted (kind_given op k) ≡ kind_given op k
kind_given-promoted O.Less k h = refl
kind_given-promoted O.Greater k h = refl
kind_given-promoted O.LessEqual k h = refl
kind_given-promoted O.GreaterEqual k h = refl
kind_given-promoted O.Equal k h = refl
kind_given-promoted O.NotEqual k h = refl
kind_given-promoted O.Add k h = h
kind_given-promoted O.Subtract k h = h
kind_given-promoted O.Multiply k h = h
kind_given-promoted O.Divide k h = h
kind_given-promoted O.Remainder k h = h
kind_given-promoted O.ShiftLeft k h = h
kind_given-promoted O.ShiftRight k h = h
kind_given-promoted O.And k h = h
kind_given-promoted O.ExclusiveOr k h = h
kind_given-promoted O.Or k h = h

pub pointer-value : (ty : CType) (v : Value) → IsPointerType ty → IsPointer v → IsValueOf ty v
pointer-value (Pointer q) v h k = k
pointer-value (Int i) v h k = absurd h
pointer-value Void v h k = absurd h
pointer-value (Array q n) v h k = absurd h
pointer-value (FunctionType q ps) v h k = absurd h
pointer-value (Record n) v h k = absurd h

pub binary-s : (at : Site) (rs : List RecordValue) (op : BinaryOperator) (a b result : CType) (v w : Value)
    → BinaryGives op a b result → IsSmall v → IsSmall w → Sound (IsValueOf result) (binary at rs op a b v w)
unfolding binary
binary-s at rs op (Int a) (Int b) result v w g h k =
    weaker (on_numbers-s at op a v w h k) λ x word.
    subst (λ ty. IsValueOf ty x) (sym g.1) (word-value (Int (kind_given op a)) x (kind_given-promoted op a g.0) word)
binary-s at rs op (Pointer a) (Int b) result v w g h k = weaker (pointer_and_number-s at rs a op v b w) λ x p. pointer-value result x g p
binary-s at rs op (Int a) (Pointer b) result v w g h k = weaker (number_and_pointer-s at rs b op a v w) λ x p. pointer-value result x g p
binary-s at rs op (Pointer a) (Pointer b) result v w g h k =
    weaker (on_pointers-s at rs a op v w) λ x word. subst (λ ty. IsValueOf ty x) (sym g) (word-value (Int K.Int) x refl word)
binary-s at rs op _ _ result v w g h k = wrong-s (IsValueOf result)

-- ---- conversions

-- a number, or a byte of a pointer
abbrev pub IsInteger : Value → Type 0
IsInteger (V.Num n) = Unit {0}
IsInteger (V.Piece p i) = Unit {0}
IsInteger _ = ⊥

one-of : (n : ℕ) → not (n == 1) ≡ false → n ≡ 1
one-of n h = grind (arith, nat_tests)

piece-of : (k : IntKind) (p : AnyPointer) (i : ℕ) → size_of_kind k ≡ 1 → IsNumberOf k (converted (V.Piece p i) k)
piece-of K.Char p i h = refl
piece-of K.SChar p i h = refl
piece-of K.UChar p i h = refl
piece-of K.Short p i h = cc
piece-of K.UShort p i h = cc
piece-of K.Int p i h = cc
piece-of K.UInt p i h = cc
piece-of K.Long p i h = cc
piece-of K.ULong p i h = cc

as_pointer-of : (v w : Value) → as_pointer v ≡ Some w → IsPointer w
as_pointer-of (V.Num zero) w e = (let same : V.Null ≡ w = cc in subst IsPointer same tt)
as_pointer-of (V.Num (suc n)) w e = cc
as_pointer-of V.Null w e = (let same : V.Null ≡ w = cc in subst IsPointer same tt)
as_pointer-of (V.At p) w e = (let same : V.At p ≡ w = cc in subst IsPointer same tt)
as_pointer-of V.Undefined w e = cc
as_pointer-of (V.Piece p i) w e = cc

-- a value that can be converted to the type
abbrev pub Converts : CType → Value → Type 0
Converts (Int k) v = IsInteger v
Converts (Pointer q) v = Unit {0}
Converts _ v = ⊥

converted-s : (k : IntKind) (v : Value) → IsInteger v → NoneHold (U.PointerBytes when (is_piece v && not (size_of_kind k == 1)) ∷ []) → IsNumberOf k (converted v k)
converted-s k (V.Num n) h none = converted-of k n
converted-s k (V.Piece p i) h none = piece-of k p i (one-of (size_of_kind k) none.0)
converted-s k V.Undefined h none = absurd h
converted-s k V.Null h none = absurd h
converted-s k (V.At p) h none = absurd h

pub convert-s : (at : Site) (ty : CType) (v : Value) → Converts ty v → Sound (IsValueOf ty) (convert at ty v)
unfolding convert
convert-s at (Int k) v h = bind-s (judge-s at _) λ u none. give-s (IsValueOf (Int k)) _ (converted-s k v h none)
convert-s at (Pointer q) v h = need-s (IsValueOf (Pointer q)) _ λ w e. as_pointer-of v w e
convert-s at Void v h = absurd h
convert-s at (Array q n) v h = absurd h
convert-s at (FunctionType q ps) v h = absurd h
convert-s at (Record n) v h = absurd h
