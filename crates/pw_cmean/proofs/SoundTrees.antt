-- Expressions give values of their types, functions results of theirs, by the shape of the trees.
use Rattle.std.proofs.Common.{ℕ, ◌%◌, ◌^◌, ◌<◌, ◌≡◌, ◌≢◌, refl, sym, ap, subst, ◌∙◌, arith, Bool, true, false, not, List, [], ◌∷◌, Option, Some, None}
use Rattle.std.proofs.Common.{Decides}
use Rattle.std.specs.Prelude.{All, find, ◌==◌, if◌then◌else◌, option_map}
use Rattle.std.specs.Option.{option_map_or}
use Rattle.std.specs.Str.{bytes_eq}
use Rattle.std.proofs.lemmas.Bool.{true≢false}
use Rattle.std.proofs.lemmas.List.Elements.{All-head, All-tail}
use Rattle.std.proofs.lemmas.Slice.Eq.{bytes_eq-Decides}
use Rattle.pw_value.specs.declared.value.Value.{Value}
use Rattle.pw_value.specs.declared.value.Value.TheVariants as V
use Rattle.pw_value.specs.declared.value.Pointer.{Pointer as AnyPointer}
use Rattle.pw_value.specs.declared.value.Pointer.TheVariants as Ptr
use Rattle.pw_types.specs.TypeTrees.{CType, Void, Int, Pointer, Array, Function as FunctionType, Record, QType, Qualified, type_of, RecordValue}
use Rattle.pw_types.specs.Shapes.{letter_of, letter_of_kind, shape_of}
use Rattle.pw_types.specs.declared.kind.IntKind.{IntKind}
use Rattle.pw_types.specs.declared.kind.IntKind.TheVariants as K
use Rattle.pw_types.specs.declared.tree.BinaryOperator.{BinaryOperator}
use Rattle.pw_types.specs.declared.tree.StepOperator.{StepOperator}
use Rattle.pw_types.specs.declared.tree.StepOperator.TheVariants.{IncrementBefore, DecrementBefore, IncrementBehind, DecrementBehind}
use Rattle.pw_types.specs.TypedTrees.{Symbol}
use Rattle.pw_cmean.specs.declared.undefined.Undef.TheVariants.{MissingResult}
use Rattle.pw_cmean.specs.Worlds.{Program, World, Callable, Body, Defined, Library, LibraryFunction, GetChar, PutChar, ExitRun, functions_of, function_named, function_number}
use Rattle.pw_cmean.specs.Acts.{Act, Site, StackFull, Bound, give, ◌>>=◌}
use Rattle.pw_cmean.specs.Access.{fetch, load}
use Rattle.pw_cmean.specs.Operators.{binary, convert}
use Rattle.pw_types.specs.StepOperators.{step_operator}
use Rattle.pw_cmean.specs.Evaluation.{Env, Calls as CallList, records_of, local_place, symbol_place, used, value_by, value_at, cast, bounded_call, take_room, library_call, call_body, call, callee_of, pointed, call_value, assigned, old_value, update, step_result, step}
use Rattle.pw_cmean.specs.Typed.{IsNumberOf, IsPointer, IsValueOf, IsResultOf, IsLetterResult, result_letter}
use Rattle.pw_types.specs.WellTyped.{promoted_type, IsScalar}
use Rattle.pw_cmean.proofs.NodeTypes.{IsPointerType, CanUpdate, CanCast, Calls, library_letter, IsTypedBody, IsTypedCallable, IsTypedProgram}
use Rattle.pw_cmean.proofs.ValueLaws.{word-of}
use Rattle.pw_cmean.proofs.SoundActs.{Sound, Any, bind-s, give-s, stop-s, branch-s, wrong-s, need-s, undefined-s, judge-s, look-s, get_char-s, put_char-s}
use Rattle.pw_cmean.proofs.SoundOperators.{weaker, load-s, put-s, fetch-s, IsWord, IsSmall, small-value, pointer_and_number-s, on_numbers-s, IsInteger, Converts, convert-s}

-- ---- letters

kind_at : ℕ → Option IntKind
kind_at n =
    if n == 99 then Some K.Char else
    if n == 97 then Some K.SChar else
    if n == 104 then Some K.UChar else
    if n == 115 then Some K.Short else
    if n == 116 then Some K.UShort else
    if n == 105 then Some K.Int else
    if n == 106 then Some K.UInt else
    if n == 108 then Some K.Long else
    if n == 109 then Some K.ULong else
    None

kind-letter : (k : IntKind) → kind_at (letter_of_kind k) ≡ Some k
unfolding kind_at
kind-letter K.Char = refl
kind-letter K.SChar = refl
kind-letter K.UChar = refl
kind-letter K.Short = refl
kind-letter K.UShort = refl
kind-letter K.Int = refl
kind-letter K.UInt = refl
kind-letter K.Long = refl
kind-letter K.ULong = refl

same-kind : (k l : IntKind) → letter_of_kind k ≡ letter_of_kind l → k ≡ l
same-kind k l e = let both : Some k ≡ Some l = sym (kind-letter k) ∙ ap kind_at e ∙ kind-letter l in cc

no-kind : (k : IntKind) (n : ℕ) → kind_at n ≡ None → letter_of_kind k ≡ n → ⊥
no-kind k n h e = let clash : Some k ≡ None = sym (kind-letter k) ∙ ap kind_at e ∙ h in cc

to-pointer : (b : CType) (v : Value) → 112 ≡ letter_of b → IsPointer v → IsValueOf b v
unfolding kind_at
to-pointer (Int l) v e h = absurd (no-kind l 112 refl (sym e))
to-pointer Void v e h = absurd (omega arith)
to-pointer (Pointer q) v e h = h
to-pointer (Array q n) v e h = h
to-pointer (FunctionType q ps) v e h = h
to-pointer (Record n) v e h = h

-- values of types with one letter are the same
same-letter : (a b : CType) (v : Value) → letter_of a ≡ letter_of b → IsValueOf a v → IsValueOf b v
unfolding kind_at
same-letter Void b v e h = absurd h
same-letter (Int k) (Int l) v e h = subst (λ x. IsNumberOf x v) (same-kind k l e) h
same-letter (Int k) Void v e h = absurd (no-kind k 118 refl e)
same-letter (Int k) (Pointer q) v e h = absurd (no-kind k 112 refl e)
same-letter (Int k) (Array q n) v e h = absurd (no-kind k 112 refl e)
same-letter (Int k) (FunctionType q ps) v e h = absurd (no-kind k 112 refl e)
same-letter (Int k) (Record n) v e h = absurd (no-kind k 112 refl e)
same-letter (Pointer p) b v e h = to-pointer b v e h
same-letter (Array p m) b v e h = to-pointer b v e h
same-letter (FunctionType p ps) b v e h = to-pointer b v e h
same-letter (Record m) b v e h = to-pointer b v e h

pub letter-result : (letter : ℕ) (ty : CType) (r : Option Value) → letter_of ty ≡ letter → IsLetterResult letter r → IsResultOf ty r
letter-result letter ty None e h = tt
letter-result letter ty (Some v) e h = same-letter h.0 ty v (h.1 ∙ sym e) h.2

-- ---- functions

first-found : {X : Type 0} (P : X → Type 0) (b : Bool) (x y : X) (rest : Option X) → P y → (rest ≡ Some x → P x) → (if b then Some y else rest) ≡ Some x → P x
first-found P true x y rest h k e = let same : y ≡ x = cc in subst P same h
first-found P false x y rest h k e = k e

all-find : {X : Type 0} (P : X → Type 0) (test : X → Bool) (xs : List X) (x : X) → All P xs → find test xs ≡ Some x → P x
all-find P test [] x h e = cc
all-find P test (y ∷ ys) x h e = first-found P (test y) x y (find test ys) (All-head P y ys h) (all-find P test ys x (All-tail P y ys h)) e

pub named-typed : (p : Program) (name : List ℕ) (f : Callable) → IsTypedProgram p → function_named p name ≡ Some f → IsTypedCallable p f
named-typed p name f h e = all-find (IsTypedCallable p) (λ g. bytes_eq g.name name) (functions_of p) f h e

numbered-typed : (p : Program) (v : Value) (f : Callable) → IsTypedProgram p → callee_of p v ≡ Some f → IsTypedCallable p f
numbered-typed p (V.At (Ptr.Function n)) f h e = all-find (IsTypedCallable p) (λ g. function_number p g.name == n) (functions_of p) f h e
numbered-typed p (V.At (Ptr.Object n i)) f h e = cc
numbered-typed p V.Undefined f h e = cc
numbered-typed p (V.Num n) f h e = cc
numbered-typed p V.Null f h e = cc
numbered-typed p (V.Piece q i) f h e = cc

-- ---- calls

-- what calls do at each lower bound gives results of the functions' types
abbrev pub AreSound : Program → CallList → Type 0
AreSound p [] = Unit {0}
AreSound p (c ∷ cs) = ((f : Callable) (args : List Value) → IsTypedCallable p f → Sound (IsLetterResult (result_letter f.shape)) (c f args)) × AreSound p cs

pub take_room-s : (w : World) (name : List ℕ) → Sound Any (take_room w name)
unfolding take_room
take_room-s w name = bind-s (look-s Any (λ s. s.active) (λ s h. tt)) λ active u. branch-s _ (stop-s Any StackFull) (give-s Any tt tt)

int-result : (letter n : ℕ) → letter ≡ 105 → n < 2 ^ 32 → IsLetterResult letter (Some (V.Num n))
int-result letter n e h = (Int K.Int, sym e, word-of K.Int n refl h)

library_call-s : (g : LibraryFunction) (letter : ℕ) (args : List Value) → letter ≡ library_letter g → Sound (IsLetterResult letter) (library_call g args)
unfolding library_call
library_call-s GetChar letter [] e = bind-s get_char-s λ b h. give-s (IsLetterResult letter) _ (int-result letter b e h)
library_call-s PutChar letter (V.Num n ∷ []) e = bind-s (put_char-s _) λ u h. give-s (IsLetterResult letter) _ (int-result letter (n % 256) e (omega arith))
library_call-s ExitRun letter (V.Num n ∷ []) e = stop-s (IsLetterResult letter) _
library_call-s _ letter _ e = wrong-s (IsLetterResult letter)

bounded_call-s : (p : Program) (cs : CallList) (f : Callable) (args : List Value) → IsTypedCallable p f → AreSound p cs → Sound (IsLetterResult (result_letter f.shape)) (bounded_call cs f args)
unfolding bounded_call
bounded_call-s p [] f args t h = stop-s (IsLetterResult (result_letter f.shape)) Bound
bounded_call-s p (c ∷ cs) f args t h = h.0 f args t

call_body-s : (p : Program) (w : World) (cs : CallList) (b : Body) (f : Callable) (args : List Value) → f.body ≡ b → IsTypedCallable p f → AreSound p cs
    → Sound (IsLetterResult (result_letter f.shape)) (call_body w cs b f args)
unfolding call_body
call_body-s p w cs (Library g) f args e t h =
    let letter : result_letter f.shape ≡ library_letter g = subst (λ b. IsTypedBody p f.shape b) e t in
    bind-s (take_room-s w f.name) λ u k. library_call-s g (result_letter f.shape) args letter
call_body-s p w cs (Defined m d) f args e t h = bounded_call-s p cs f args t h

pub call-s : (p : Program) (w : World) (cs : CallList) (f : Callable) (args : List Value) → IsTypedCallable p f → AreSound p cs
    → Sound (IsLetterResult (result_letter f.shape)) (call w cs f args)
unfolding call
call-s p w cs f args t h = call_body-s p w cs f.body f args refl t h

-- a program whose functions are well typed, and what calls do
pub record IsFine (p : Program) (cs : CallList) : Type 0 where
  pub program : IsTypedProgram p
  pub calls : AreSound p cs

-- the shape of a function that is called is that of the call
shape-same : (p : Program) (v : Value) (f : Callable) (shape : List ℕ) → callee_of p v ≡ Some f
    → option_map_or (λ f. not (bytes_eq f.shape shape)) (callee_of p v) false ≡ false → f.shape ≡ shape
shape-same p v f shape e h = decided (bytes_eq f.shape shape) (bytes_eq-Decides f.shape shape) (rw e at h)
  where
    decided : (b : Bool) → Decides b (f.shape ≡ shape) → not b ≡ false → f.shape ≡ shape
    decided true d k = d.0 refl
    decided false d k = absurd (true≢false k)

-- ---- parts of expressions

pub used-s : (at : Site) (ty : CType) (r : Option Value) → IsResultOf ty r → Sound (IsValueOf ty) (used at r)
unfolding used
used-s at ty (Some v) h = give-s (IsValueOf ty) v h
used-s at ty None h = undefined-s (IsValueOf ty) at MissingResult

pub operand-s : (at : Site) (ty : CType) {m : Act (Option Value)} → Sound (IsResultOf ty) m → Sound (IsValueOf ty) (m >>= used at)
operand-s at ty p = bind-s p λ r h. used-s at ty r h

at-pointer : (o : Option AnyPointer) (v : Value) → option_map V.At o ≡ Some v → IsPointer v
at-pointer None v e = cc
at-pointer (Some p) v e = (let same : V.At p ≡ v = cc in subst IsPointer same tt)

pub symbol_place-s : (e : Env) (x : Symbol) → Sound IsPointer (symbol_place e x)
unfolding symbol_place
symbol_place-s e x = need-s IsPointer _ λ v h. at-pointer _ v h

object-pointer : (o : Option ℕ) (v : Value) → option_map (λ n. V.At (Ptr.Object n 0)) o ≡ Some v → IsPointer v
object-pointer None v e = cc
object-pointer (Some n) v e = (let same : V.At (Ptr.Object n 0) ≡ v = cc in subst IsPointer same tt)

pub local_place-s : (e : Env) (k : ℕ) → Sound IsPointer (local_place e k)
unfolding local_place
local_place-s e k = need-s IsPointer _ λ v h. object-pointer _ v h

fetched-s : (at : Site) (ty : CType) (p : Value) → ty ≢ Void → IsPointer p → Sound (IsResultOf ty) (fetch at ty p >>= λ v. give (Some v))
fetched-s at ty p h k = bind-s (fetch-s at ty p h k) λ v w. give-s (IsResultOf ty) (Some v) w

value_by-s : (at : Site) (ty : CType) (p : Value) → IsPointer p → Sound (IsResultOf ty) (value_by at ty p)
unfolding value_by
value_by-s at Void p h = give-s (IsResultOf Void) None tt
value_by-s at (Int k) p h = fetched-s at (Int k) p (λ e. cc) h
value_by-s at (Pointer q) p h = fetched-s at (Pointer q) p (λ e. cc) h
value_by-s at (Array q n) p h = fetched-s at (Array q n) p (λ e. cc) h
value_by-s at (FunctionType q ps) p h = fetched-s at (FunctionType q ps) p (λ e. cc) h
value_by-s at (Record n) p h = fetched-s at (Record n) p (λ e. cc) h

pub value_at-s : (e : Env) (t : ℕ) (ty : QType) (p : Value) → IsPointer p → Sound (IsResultOf (type_of ty)) (value_at e t ty p)
unfolding value_at
value_at-s e t ty p h = value_by-s _ (type_of ty) p h

integer-value : (k : IntKind) (v : Value) → IsValueOf (Int k) v → IsInteger v
integer-value k (V.Num n) h = tt
integer-value k (V.Piece p i) h = tt
integer-value k V.Undefined h = h
integer-value k V.Null h = h
integer-value k (V.At p) h = h

converted-result : (at : Site) (ty : CType) (v : Value) → Converts ty v → Sound (IsResultOf ty) (convert at ty v >>= λ w. give (Some w))
converted-result at ty v h = bind-s (convert-s at ty v h) λ w k. give-s (IsResultOf ty) (Some w) k

can-convert : (from to : CType) (v : Value) → CanCast from to → to ≢ Void → IsValueOf from v → Converts to v
can-convert from Void v c n h = absurd (n refl)
can-convert (Int a) (Int b) v c n h = integer-value a v h
can-convert (Int a) (Pointer b) v c n h = tt
can-convert (Pointer a) (Pointer b) v c n h = tt
can-convert _ _ v c n h = absurd c

cast-to : (at : Site) (from to : CType) (r : Option Value) → CanCast from to → to ≢ Void → IsResultOf from r
    → Sound (IsResultOf to) (used at r >>= λ v. convert at to v >>= λ w. give (Some w))
cast-to at from to r c n h = bind-s (used-s at from r h) λ v k. converted-result at to v (can-convert from to v c n k)

pub cast-s : (at : Site) (from to : CType) (r : Option Value) → CanCast from to → IsResultOf from r → Sound (IsResultOf to) (cast at to r)
unfolding cast
cast-s at from Void r c h = give-s (IsResultOf Void) None tt
cast-s at from (Int k) r c h = cast-to at from (Int k) r c (λ e. cc) h
cast-s at from (Pointer q) r c h = cast-to at from (Pointer q) r c (λ e. cc) h
cast-s at from (Array q n) r c h = cast-to at from (Array q n) r c (λ e. cc) h
cast-s at from (FunctionType q ps) r c h = cast-to at from (FunctionType q ps) r c (λ e. cc) h
cast-s at from (Record n) r c h = cast-to at from (Record n) r c (λ e. cc) h

-- ---- assignments that read first

load-integer : (at : Site) (k : IntKind) (p : Value) → Sound IsInteger (load at (Int k) p)
load-integer at k p = weaker (load-s at (Int k) p tt) λ v h. integer-value k v h

pub old_value-s : (e : Env) (t : ℕ) (working ty right : CType) (p : Value) → CanUpdate working ty right → Sound IsSmall (old_value e t ty working p)
unfolding old_value
old_value-s e t (Int w) (Int k) (Int r) p c =
    bind-s (load-integer _ k p) λ v h. weaker (convert-s _ (Int w) v h) λ x i. small-value (Int w) x i
old_value-s e t (Pointer w) (Pointer q) (Int r) p c =
    bind-s (load-s _ (Pointer q) p tt) λ v h. weaker (convert-s _ (Pointer w) v tt) λ x i. small-value (Pointer w) x i
old_value-s e t _ _ _ p c = absurd c

word-integer : (v : Value) → IsWord v → IsInteger v
word-integer (V.Num n) h = tt
word-integer V.Undefined h = h
word-integer V.Null h = h
word-integer (V.At p) h = h
word-integer (V.Piece p i) h = absurd h

new_value-s : (at : Site) (rs : List RecordValue) (op : BinaryOperator) (working ty right : CType) (old w : Value) → CanUpdate working ty right → IsSmall old → IsSmall w
    → Sound (Converts ty) (binary at rs op working right old w)
unfolding binary
new_value-s at rs op (Int a) (Int k) (Int r) old w c h i = weaker (on_numbers-s at op a old w h i) λ v x. word-integer v x
new_value-s at rs op (Pointer a) (Pointer q) (Int r) old w c h i = weaker (pointer_and_number-s at rs a op old r w) λ v x. tt
new_value-s at rs op _ _ _ old w c h i = absurd c

pub update-s : (e : Env) (t : ℕ) (ty working : CType) (p : Value) (op : BinaryOperator) (right : CType) (old w : Value)
    → CanUpdate working ty right → IsSmall old → IsSmall w → Sound (IsValueOf ty) (update e t ty working p op right old w)
unfolding update
update-s e t ty working p op right old w c h i =
    bind-s (new_value-s _ _ op working ty right old w c h i) λ new k. bind-s (convert-s _ ty new k) λ v x.
    bind-s (put-s _ _ _ ty p v) λ u y. give-s (IsValueOf ty) v x

step-types : (ty : CType) → IsScalar ty → CanUpdate (promoted_type ty) ty (Int K.Int)
step-types (Int k) h = tt
step-types (Pointer q) h = tt
step-types Void h = absurd h
step-types (Array q n) h = absurd h
step-types (FunctionType q ps) h = absurd h
step-types (Record n) h = absurd h

step-converts : (ty : CType) (v : Value) → IsScalar ty → IsValueOf ty v → Converts (promoted_type ty) v
step-converts (Int k) v h i = integer-value k v i
step-converts (Pointer q) v h i = tt
step-converts Void v h i = absurd h
step-converts (Array q n) v h i = absurd h
step-converts (FunctionType q ps) v h i = absurd h
step-converts (Record n) v h i = absurd h

step-result : (op : StepOperator) (ty : CType) (old new : Value) → IsValueOf ty old → IsValueOf ty new → IsValueOf ty (step_result op old new)
step-result IncrementBefore ty old new h k = k
step-result DecrementBefore ty old new h k = k
step-result IncrementBehind ty old new h k = h
step-result DecrementBehind ty old new h k = h

pub step-s : (e : Env) (t : ℕ) (op : StepOperator) (ty : CType) (p : Value) → IsScalar ty → Sound (IsValueOf ty) (step e t op ty p)
unfolding step
step-s e t op ty p sc =
    bind-s (load-s _ ty p sc) λ old h. bind-s (convert-s _ (promoted_type ty) old (step-converts ty old sc h)) λ v i.
    bind-s (update-s e t ty (promoted_type ty) p (step_operator op) (Int K.Int) v (V.Num 1) (step-types ty sc) (small-value (promoted_type ty) v i) (omega arith)) λ new k.
    give-s (IsValueOf ty) _ (step-result op ty old new h k)

-- the value of an assignment
pub assigned-of : (ty : CType) (p v : Value) → IsPointer p → IsValueOf ty v → IsValueOf ty (assigned ty p v)
assigned-of (Record n) p v h k = h
assigned-of (Int i) p v h k = k
assigned-of (Pointer q) p v h k = k
assigned-of Void p v h k = k
assigned-of (Array q n) p v h k = k
assigned-of (FunctionType q ps) p v h k = k

-- ---- calls through values

pub pointer-from : (ty : CType) (v : Value) → IsPointerType ty → IsValueOf ty v → IsPointer v
pointer-from (Pointer q) v h k = k
pointer-from (Int i) v h k = absurd h
pointer-from Void v h k = absurd h
pointer-from (Array q n) v h k = absurd h
pointer-from (FunctionType q ps) v h k = absurd h
pointer-from (Record n) v h k = absurd h

-- the letter of the result in the shape of a call
called-letter : (rs : List RecordValue) (ty result : CType) → Calls ty result → letter_of result ≡ result_letter (shape_of rs (pointed ty) false)
called-letter rs (Pointer (Qualified (FunctionType q ps) c v)) result h = ap letter_of (sym h)
called-letter rs (Pointer (Qualified (Int k) c v)) result h = absurd h
called-letter rs (Pointer (Qualified Void c v)) result h = absurd h
called-letter rs (Pointer (Qualified (Pointer q) c v)) result h = absurd h
called-letter rs (Pointer (Qualified (Array q n) c v)) result h = absurd h
called-letter rs (Pointer (Qualified (Record n) c v)) result h = absurd h
called-letter rs (Int k) result h = absurd h
called-letter rs Void result h = absurd h
called-letter rs (Array q n) result h = absurd h
called-letter rs (FunctionType q ps) result h = absurd h
called-letter rs (Record n) result h = absurd h

pub call_value-s : (e : Env) (cs : CallList) (t : ℕ) (ty result : CType) (p : Value) (args : List Value) → Calls ty result → IsFine e.world.program cs
    → Sound (IsResultOf result) (call_value e cs t ty p args)
unfolding call_value
call_value-s e cs t ty result p args c h =
    bind-s (judge-s _ _) λ u none. bind-s (need-s (λ f. callee_of e.world.program p ≡ Some f) _ λ f same. same) λ f same.
    let shape : f.shape ≡ shape_of (records_of e) (pointed ty) false = shape-same e.world.program p f _ same none.1.0 in
    let letter : letter_of result ≡ result_letter f.shape = called-letter (records_of e) ty result c ∙ ap result_letter (sym shape) in
    weaker (call-s e.world.program e.world cs f args (numbered-typed e.world.program p f h.program same) h.calls) λ r k. letter-result (result_letter f.shape) result r letter k
