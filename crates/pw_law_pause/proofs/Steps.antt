-- A relation between acts that says something of calls by itself: where it holds of each other primitive act, and of acts in
-- order, it holds of what expressions and statements are made of. (Of a relation that holds of calls too, pw_cmean says it.)
use Rattle.std.proofs.Common.{ℕ, ◌%◌, Bool, true, false, List, Option, Some, None, Result, Ok, Err}
use Rattle.std.specs.Prelude.{ℤ}
use Rattle.pw_value.specs.declared.value.Value.{Value}
use Rattle.pw_value.specs.declared.value.Value.TheVariants as V
use Rattle.pw_value.specs.declared.value.Byte.{Byte}
use Rattle.pw_value.specs.declared.value.Pointer.TheVariants as P
use Rattle.pw_value.specs.Objects.{Object}
use Rattle.pw_types.specs.TypeTrees.{CType, Void, Int, Pointer, Array, Function as FunctionType, Record, QType, type_of, RecordValue}
use Rattle.pw_types.specs.declared.kind.IntKind.{IntKind}
use Rattle.pw_types.specs.declared.record.Layout.{Layout}
use Rattle.pw_types.specs.declared.tree.UnaryOperator.{UnaryOperator}
use Rattle.pw_types.specs.declared.tree.UnaryOperator.TheVariants.{Plus, Minus, Complement, Not}
use Rattle.pw_types.specs.declared.tree.BinaryOperator.{BinaryOperator}
use Rattle.pw_types.specs.declared.tree.BinaryOperator.TheVariants as O
use Rattle.pw_types.specs.declared.tree.StepOperator.{StepOperator}
use Rattle.pw_types.specs.TypedTrees.{Symbol}
use Rattle.pw_cmean.specs.declared.undefined.Undef.{Undef}
use Rattle.pw_cmean.specs.Undefined.{Finding, least}
use Rattle.pw_cmean.specs.Worlds.{Body, Defined}
use Rattle.pw_cmean.specs.Acts.{Act, State, Ending, Exit, Wrong, StackFull, Undefined, Site, give, stop, ◌>>=◌, branch, wrong, look, write, get_char, put_char, with_object, need, undefined, told, judge}
use Rattle.pw_cmean.specs.Access.{Purpose, objects_now, within, load, store, copy, fetch, put}
use Rattle.pw_cmean.specs.Operators.{truth, outcome_of, on_numbers, unary_number, unary, advance, advance_elements, difference, ordered, compared, on_pointers, pointer_and_number, number_and_pointer, binary, convert}
use Rattle.pw_cmean.specs.Evaluation.{Env, local_place, symbol_place, used, value_by, value_at, cast, old_value, update, step}
use Rattle.pw_value.specs.declared.words.WordFault.{WordFault}
use Rattle.pw_value.specs.declared.words.WordFault.TheVariants.{Overflow, ZeroDivisor, ShiftCount}
use Rattle.pw_cmean.specs.Execution.{Entry, Flow, Normal, Breaks, Continues, Returns, Goes, go_forward, caught, after_body, switch_to, after_switch}
use Rattle.pw_cmean.specs.SourceRun.{result_of, finish}

-- a run may end so but for want of stack
abbrev pub IsOther : Ending → Type 0
IsOther StackFull = ⊥
IsOther _ = Unit {0}

pub record Steps (R : (A : Type 0) → Act A → Act A → Type 0) : Type 1 where
  pub gives : (A : Type 0) (a : A) → R A (give a) (give a)
  pub stops : (A : Type 0) (e : Ending) → IsOther e → R A (stop e) (stop e)
  pub looks : (A : Type 0) (f : State → A) → R A (look f) (look f)
  pub writes : (n i : ℕ) (bytes : List Byte) → R (Unit {0}) (write n i bytes) (write n i bytes)
  pub gets : R ℕ get_char get_char
  pub puts : (b : ℕ) → R (Unit {0}) (put_char b) (put_char b)
  pub withs : (A : Type 0) (size : ℕ) (w : Bool) (f f' : ℕ → Act A) → ((n : ℕ) → R A (f n) (f' n)) → R A (with_object size w f) (with_object size w f')
  pub binds : (A B : Type 0) (m m' : Act A) (k k' : A → Act B) → R A m m' → ((a : A) → R B (k a) (k' a)) → R B (m >>= k) (m' >>= k')

module _ (R : (A : Type 0) → Act A → Act A → Type 0) (laws : Steps R) where
  -- ---- acts

  pub bind-r : {A B : Type 0} {m m' : Act A} {k k' : A → Act B} → R A m m' → ((a : A) → R B (k a) (k' a)) → R B (m >>= k) (m' >>= k')
  bind-r {A} {B} {m} {m'} {k} {k'} p q = laws.binds A B m m' k k' p q

  pub branch-r : {A : Type 0} (b : Bool) {m m' n n' : Act A} → R A m m' → R A n n' → R A (branch b m n) (branch b m' n')
  unfolding branch
  branch-r true p q = p
  branch-r false p q = q

  pub wrong-r : (A : Type 0) → R A wrong wrong
  unfolding wrong
  wrong-r A = laws.stops A Wrong tt

  pub need-r : {A : Type 0} (o : Option A) → R A (need o) (need o)
  unfolding need
  need-r {A} (Some a) = laws.gives A a
  need-r {A} None = wrong-r A

  pub undefined-r : (A : Type 0) (at : Site) (k : Undef) → R A (undefined at k) (undefined at k)
  unfolding undefined
  undefined-r A at k = laws.stops A (Undefined k at.home at.token) tt

  told-r : (at : Site) (o : Option Undef) → R (Unit {0}) (told at o) (told at o)
  unfolding told
  told-r at None = laws.gives (Unit {0}) tt
  told-r at (Some k) = undefined-r (Unit {0}) at k

  pub judge-r : (at : Site) (fs : List Finding) → R (Unit {0}) (judge at fs) (judge at fs)
  unfolding judge
  judge-r at fs = told-r at (least fs)

  -- ---- accesses

  pub objects_now-r : R (List Object) objects_now objects_now
  unfolding objects_now
  objects_now-r = laws.looks (List Object) (λ s. s.objects)

  pub within-r : {A : Type 0} (v : Value) {f f' : ℕ → ℕ → Act A} → ((n i : ℕ) → R A (f n i) (f' n i)) → R A (within v f) (within v f')
  unfolding within
  within-r (V.At (P.Object n i)) p = p n i
  within-r {A} (V.At (P.Function n)) p = wrong-r A
  within-r {A} V.Undefined p = wrong-r A
  within-r {A} (V.Num n) p = wrong-r A
  within-r {A} V.Null p = wrong-r A
  within-r {A} (V.Piece q i) p = wrong-r A

  pub load-r : (at : Site) (ty : CType) (p : Value) → R Value (load at ty p) (load at ty p)
  unfolding load
  load-r at ty p = bind-r objects_now-r λ os. bind-r (judge-r at _) λ u. within-r p λ n i. laws.gives Value _

  pub store-r : (w : Purpose) (at : Site) (ty : CType) (p v : Value) → R (Unit {0}) (store w at ty p v) (store w at ty p v)
  unfolding store
  store-r w at ty p v = bind-r objects_now-r λ os. bind-r (judge-r at _) λ u. within-r p λ n i. laws.writes n i _

  pub copy-r : (w : Purpose) (at : Site) (l : Layout) (p q : Value) → R (Unit {0}) (copy w at l p q) (copy w at l p q)
  unfolding copy
  copy-r w at l p q = bind-r objects_now-r λ os. bind-r (judge-r at _) λ u. within-r q λ from i. within-r p λ to j. laws.writes to j _

  pub fetch-r : (at : Site) (ty : CType) (p : Value) → R Value (fetch at ty p) (fetch at ty p)
  unfolding fetch
  fetch-r at (Int k) p = load-r at (Int k) p
  fetch-r at (Pointer q) p = load-r at (Pointer q) p
  fetch-r at Void p = laws.gives Value p
  fetch-r at (Array q n) p = laws.gives Value p
  fetch-r at (FunctionType q ps) p = laws.gives Value p
  fetch-r at (Record n) p = laws.gives Value p

  pub put-r : (w : Purpose) (at : Site) (rs : List RecordValue) (ty : CType) (p v : Value) → R (Unit {0}) (put w at rs ty p v) (put w at rs ty p v)
  unfolding put
  put-r w at rs (Int k) p v = store-r w at (Int k) p v
  put-r w at rs (Pointer q) p v = store-r w at (Pointer q) p v
  put-r w at rs (Record n) p v = bind-r (need-r _) λ l. copy-r w at l p v
  put-r w at rs Void p v = wrong-r (Unit {0})
  put-r w at rs (Array q n) p v = wrong-r (Unit {0})
  put-r w at rs (FunctionType q ps) p v = wrong-r (Unit {0})

  -- ---- operators

  pub truth-r : (at : Site) (v : Value) → R Bool (truth at v) (truth at v)
  unfolding truth
  truth-r at v = bind-r objects_now-r λ os. bind-r (judge-r at _) λ u. need-r _

  outcome_of-r : (at : Site) (r : Result ℕ WordFault) → R Value (outcome_of at r) (outcome_of at r)
  unfolding outcome_of
  outcome_of-r at (Ok n) = laws.gives Value _
  outcome_of-r at (Err Overflow) = undefined-r Value at _
  outcome_of-r at (Err ZeroDivisor) = undefined-r Value at _
  outcome_of-r at (Err ShiftCount) = undefined-r Value at _

  on_numbers-r : (at : Site) (op : BinaryOperator) (k : IntKind) (v w : Value) → R Value (on_numbers at op k v w) (on_numbers at op k v w)
  unfolding on_numbers
  on_numbers-r at op k (V.Num a) (V.Num b) = outcome_of-r at _
  on_numbers-r at op k _ _ = wrong-r Value

  unary_number-r : (at : Site) (op : UnaryOperator) (ty : CType) (v : Value) → R Value (unary_number at op ty v) (unary_number at op ty v)
  unfolding unary_number
  unary_number-r at Minus (Int k) (V.Num n) = outcome_of-r at _
  unary_number-r at Plus (Int k) (V.Num n) = laws.gives Value _
  unary_number-r at Complement (Int k) (V.Num n) = laws.gives Value _
  unary_number-r at _ _ _ = wrong-r Value

  pub unary-r : (at : Site) (op : UnaryOperator) (ty : CType) (v : Value) → R Value (unary at op ty v) (unary at op ty v)
  unfolding unary
  unary-r at Not ty v = bind-r (truth-r at v) λ b. laws.gives Value _
  unary-r at Plus ty v = unary_number-r at Plus ty v
  unary-r at Minus ty v = unary_number-r at Minus ty v
  unary-r at Complement ty v = unary_number-r at Complement ty v

  pub advance-r : (at : Site) (p : Value) (n : ℤ) → R Value (advance at p n) (advance at p n)
  unfolding advance
  advance-r at p n = bind-r objects_now-r λ os. bind-r (judge-r at _) λ u. need-r _

  advance_elements-r : (at : Site) (rs : List RecordValue) (q : QType) (sign : ℤ → ℤ) (p : Value) (k : IntKind) (v : Value) → R Value (advance_elements at rs q sign p k v) (advance_elements at rs q sign p k v)
  unfolding advance_elements
  advance_elements-r at rs q sign p k v = bind-r (need-r _) λ l. bind-r objects_now-r λ os. bind-r (judge-r at _) λ u. need-r _

  difference-r : (at : Site) (size : ℕ) (p q : Value) → R Value (difference at size p q) (difference at size p q)
  unfolding difference
  difference-r at size p q = bind-r objects_now-r λ os. bind-r (judge-r at _) λ u. outcome_of-r at _

  ordered-r : (at : Site) (op : BinaryOperator) (p q : Value) → R Value (ordered at op p q) (ordered at op p q)
  unfolding ordered
  ordered-r at op p q = bind-r objects_now-r λ os. bind-r (judge-r at _) λ u. outcome_of-r at _

  compared-r : (at : Site) (f : Bool → Bool) (p q : Value) → R Value (compared at f p q) (compared at f p q)
  unfolding compared
  compared-r at f p q = bind-r objects_now-r λ os. bind-r (judge-r at _) λ u. bind-r (need-r _) λ b. laws.gives Value _

  on_pointers-r : (at : Site) (rs : List RecordValue) (q : QType) (op : BinaryOperator) (v w : Value) → R Value (on_pointers at rs q op v w) (on_pointers at rs q op v w)
  unfolding on_pointers
  on_pointers-r at rs q O.Subtract v w = bind-r (need-r _) λ l. difference-r at _ v w
  on_pointers-r at rs q O.Less v w = ordered-r at O.Less v w
  on_pointers-r at rs q O.Greater v w = ordered-r at O.Greater v w
  on_pointers-r at rs q O.LessEqual v w = ordered-r at O.LessEqual v w
  on_pointers-r at rs q O.GreaterEqual v w = ordered-r at O.GreaterEqual v w
  on_pointers-r at rs q O.Equal v w = compared-r at _ v w
  on_pointers-r at rs q O.NotEqual v w = compared-r at _ v w
  on_pointers-r at rs q _ v w = wrong-r Value

  pointer_and_number-r : (at : Site) (rs : List RecordValue) (q : QType) (op : BinaryOperator) (p : Value) (k : IntKind) (v : Value) → R Value (pointer_and_number at rs q op p k v) (pointer_and_number at rs q op p k v)
  unfolding pointer_and_number
  pointer_and_number-r at rs q O.Add p k v = advance_elements-r at rs q _ p k v
  pointer_and_number-r at rs q O.Subtract p k v = advance_elements-r at rs q _ p k v
  pointer_and_number-r at rs q _ p k v = wrong-r Value

  number_and_pointer-r : (at : Site) (rs : List RecordValue) (q : QType) (op : BinaryOperator) (k : IntKind) (v p : Value) → R Value (number_and_pointer at rs q op k v p) (number_and_pointer at rs q op k v p)
  unfolding number_and_pointer
  number_and_pointer-r at rs q O.Add k v p = advance_elements-r at rs q _ p k v
  number_and_pointer-r at rs q _ k v p = wrong-r Value

  pub binary-r : (at : Site) (rs : List RecordValue) (op : BinaryOperator) (a b : CType) (v w : Value) → R Value (binary at rs op a b v w) (binary at rs op a b v w)
  unfolding binary
  binary-r at rs op (Int a) (Int b) v w = on_numbers-r at op a v w
  binary-r at rs op (Pointer a) (Int b) v w = pointer_and_number-r at rs a op v b w
  binary-r at rs op (Int a) (Pointer b) v w = number_and_pointer-r at rs b op a v w
  binary-r at rs op (Pointer a) (Pointer b) v w = on_pointers-r at rs a op v w
  binary-r at rs op _ _ v w = wrong-r Value

  pub convert-r : (at : Site) (ty : CType) (v : Value) → R Value (convert at ty v) (convert at ty v)
  unfolding convert
  convert-r at (Int k) v = bind-r (judge-r at _) λ u. laws.gives Value _
  convert-r at (Pointer q) v = need-r _
  convert-r at _ v = wrong-r Value

  -- ---- parts of expressions

  pub local_place-r : (e : Env) (k : ℕ) → R Value (local_place e k) (local_place e k)
  unfolding local_place
  local_place-r e k = need-r _

  pub symbol_place-r : (e : Env) (s : Symbol) → R Value (symbol_place e s) (symbol_place e s)
  unfolding symbol_place
  symbol_place-r e s = need-r _

  pub used-r : (at : Site) (o : Option Value) → R Value (used at o) (used at o)
  unfolding used
  used-r at (Some v) = laws.gives Value v
  used-r at None = undefined-r Value at _

  value_by-r : (at : Site) (ty : CType) (p : Value) → R (Option Value) (value_by at ty p) (value_by at ty p)
  unfolding value_by
  value_by-r at Void p = laws.gives (Option Value) None
  value_by-r at (Int k) p = bind-r (fetch-r at _ p) λ v. laws.gives (Option Value) _
  value_by-r at (Pointer q) p = bind-r (fetch-r at _ p) λ v. laws.gives (Option Value) _
  value_by-r at (Array q n) p = bind-r (fetch-r at _ p) λ v. laws.gives (Option Value) _
  value_by-r at (FunctionType q ps) p = bind-r (fetch-r at _ p) λ v. laws.gives (Option Value) _
  value_by-r at (Record n) p = bind-r (fetch-r at _ p) λ v. laws.gives (Option Value) _

  pub value_at-r : (e : Env) (t : ℕ) (ty : QType) (p : Value) → R (Option Value) (value_at e t ty p) (value_at e t ty p)
  unfolding value_at
  value_at-r e t ty p = value_by-r _ (type_of ty) p

  pub cast-r : (at : Site) (ty : CType) (o : Option Value) → R (Option Value) (cast at ty o) (cast at ty o)
  unfolding cast
  cast-r at Void o = laws.gives (Option Value) None
  cast-r at (Int k) o = bind-r (used-r at o) λ v. bind-r (convert-r at _ v) λ w. laws.gives (Option Value) _
  cast-r at (Pointer q) o = bind-r (used-r at o) λ v. bind-r (convert-r at _ v) λ w. laws.gives (Option Value) _
  cast-r at (Array q n) o = bind-r (used-r at o) λ v. bind-r (convert-r at _ v) λ w. laws.gives (Option Value) _
  cast-r at (FunctionType q ps) o = bind-r (used-r at o) λ v. bind-r (convert-r at _ v) λ w. laws.gives (Option Value) _
  cast-r at (Record n) o = bind-r (used-r at o) λ v. bind-r (convert-r at _ v) λ w. laws.gives (Option Value) _

  pub old_value-r : (e : Env) (t : ℕ) (ty working : CType) (p : Value) → R Value (old_value e t ty working p) (old_value e t ty working p)
  unfolding old_value
  old_value-r e t ty working p = bind-r (load-r _ ty p) λ v. convert-r _ working v

  pub update-r : (e : Env) (t : ℕ) (ty working : CType) (p : Value) (op : BinaryOperator) (right : CType) (old w : Value) → R Value (update e t ty working p op right old w) (update e t ty working p op right old w)
  unfolding update
  update-r e t ty working p op right old w =
      bind-r (binary-r _ _ op working right old w) λ new. bind-r (convert-r _ ty new) λ v. bind-r (put-r _ _ _ ty p v) λ u. laws.gives Value v

  pub step-r : (e : Env) (t : ℕ) (op : StepOperator) (ty : CType) (p : Value) → R Value (step e t op ty p) (step e t op ty p)
  unfolding step
  step-r e t op ty p = bind-r (load-r _ ty p) λ old. bind-r (convert-r _ _ old) λ v. bind-r (update-r e t ty _ p _ _ v _) λ new. laws.gives Value _

  -- ---- parts of expressions, statements and runs

  pub operand-r : (a : Site) {m m' : Act (Option Value)} → R (Option Value) m m' → R Value (m >>= used a) (m' >>= used a)
  operand-r a p = bind-r p λ o. used-r a o

  pub go_forward-r : (labels : List ℕ) {later later' : Entry → Act Flow} {next next' : Act Flow} (flow : Flow)
      → ((at : Entry) → R Flow (later at) (later' at)) → R Flow next next'
      → R Flow (go_forward labels later next flow) (go_forward labels later' next' flow)
  unfolding go_forward
  go_forward-r labels Normal p q = q
  go_forward-r labels Breaks p q = laws.gives Flow _
  go_forward-r labels Continues p q = laws.gives Flow _
  go_forward-r labels (Returns v) p q = laws.gives Flow _
  go_forward-r labels (Goes l) p q = branch-r _ (p _) (laws.gives Flow _)

  pub caught-r : (labels : List ℕ) {again again' : ℕ → Act Flow} (flow : Flow) → ((l : ℕ) → R Flow (again l) (again' l))
      → R Flow (caught labels again flow) (caught labels again' flow)
  unfolding caught
  caught-r labels Normal p = laws.gives Flow _
  caught-r labels Breaks p = laws.gives Flow _
  caught-r labels Continues p = laws.gives Flow _
  caught-r labels (Returns v) p = laws.gives Flow _
  caught-r labels (Goes l) p = branch-r _ (p l) (laws.gives Flow _)

  pub after_body-r : {again again' : Act Flow} (flow : Flow) → R Flow again again' → R Flow (after_body again flow) (after_body again' flow)
  unfolding after_body
  after_body-r Normal p = p
  after_body-r Continues p = p
  after_body-r Breaks p = laws.gives Flow _
  after_body-r (Returns v) p = laws.gives Flow _
  after_body-r (Goes l) p = laws.gives Flow _

  pub after_switch-r : (flow : Flow) → R Flow (after_switch flow) (after_switch flow)
  unfolding after_switch
  after_switch-r Breaks = laws.gives Flow _
  after_switch-r flow = laws.gives Flow _

  pub switch_to-r : (o : Option ℕ) {body body' : ℕ → Act Flow} → ((l : ℕ) → R Flow (body l) (body' l)) → R Flow (switch_to o body) (switch_to o body')
  unfolding switch_to
  switch_to-r None p = laws.gives Flow _
  switch_to-r (Some l) p = bind-r (p l) λ f. after_switch-r f

  pub result_of-r : (f : Flow) → R (Option Value) (result_of f) (result_of f)
  unfolding result_of
  result_of-r Normal = laws.gives (Option Value) _
  result_of-r (Returns v) = laws.gives (Option Value) _
  result_of-r Breaks = wrong-r (Option Value)
  result_of-r Continues = wrong-r (Option Value)
  result_of-r (Goes l) = wrong-r (Option Value)

  pub finish-r : (b : Body) (o : Option Value) → R (Unit {0}) (finish b o) (finish b o)
  unfolding finish
  finish-r b (Some (V.Num n)) = laws.stops (Unit {0}) (Exit (n % 256)) tt
  finish-r (Defined home f) None = undefined-r (Unit {0}) _ _
  finish-r _ _ = wrong-r (Unit {0})
