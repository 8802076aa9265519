-- Every expression gives a value of its type, every function a result of its own.
use Rattle.std.proofs.Common.{ℕ, zero, suc, ◌≡◌, sym, subst, ◌∙◌, Bool, true, List, [], ◌∷◌, Option, Some, None}
use Rattle.std.specs.Prelude.{All}
use Rattle.pw_value.specs.declared.value.Value.{Value}
use Rattle.pw_value.specs.declared.value.Value.TheVariants as V
use Rattle.pw_value.specs.Objects.{object_at}
use Rattle.pw_types.specs.TypeTrees.{CType, Int, type_of}
use Rattle.pw_types.specs.Shapes.{letter_of}
use Rattle.pw_types.specs.declared.kind.IntKind.TheVariants as K
use Rattle.pw_types.specs.declared.tree.UnaryOperator.TheVariants.{Plus, Minus, Complement, Not}
use Rattle.pw_types.specs.TypedTrees.{Expression, Node, Number, Str, Local, Global, Function, Unary, Binary, Logic, Cond, Comma, Assign, Compound, Step, Cast, Decay, Member, Deref, Address, Call, CallValue, Expressions, NoExpression, OneExpression, type_at, Initialiser, Value as ByValue, Bytes as ByBytes, Statement, Evaluate, Block, If, While, Do, For, Switch, Label, Return, Arms, NoArm, Arm, Otherwise, NoElse, Else, Statements, NoStatement, OneStatement}
use Rattle.pw_cmean.specs.Worlds.{Program, World, Body, Defined, Library, full_name, function_named}
use Rattle.pw_cmean.specs.Acts.{Act, Site, Bound, give, ◌>>=◌, ◌>>◌}
use Rattle.pw_cmean.specs.Operators.{number_for}
use Rattle.pw_cmean.specs.Evaluation.{Env, Calls as CallList, Calling, answer_of, place_of, values_of}
use Rattle.pw_types.specs.Labels.{labels_among, labels_behind}
use Rattle.pw_cmean.specs.Execution.{Entry, Front, At_label, Flow, Normal, Breaks, Continues, Returns, Goes, go_forward, caught, taking_up, after_body, turn, loop, meet_loop, always, value_of, condition, for_condition, drop_value, switch_to, after_switch, with_number, with_locals, set_local, initialise, initialise_all, meaning, items, arms, behind_arms}
use Rattle.pw_cmean.specs.SourceRun.{set_parameters, result_of, outermost, run_body, callee, calls}
use Rattle.pw_cmean.specs.Typed.{IsPointer, IsValueOf, IsResultOf, result_letter, IsLetterResult, IsByte, IsFlowOf}
use Rattle.pw_types.specs.WellTyped.{IsScalar}
use Rattle.pw_cmean.proofs.NodeTypes.{CanUpdate, IsTyped, AreTyped, IsTypedIfAny, AreTypedInitialisers, IsTypedStatement, AreTypedStatements, AreTypedArms, IsTypedElse, IsTypedBody, IsTypedProgram}
use Rattle.pw_cmean.proofs.SoundActs.{Sound, Any, bind-s, give-s, stop-s, branch-s, wrong-s, need-s, look-s, write-s, with_object-s, during-s, object-bytes}
use Rattle.pw_cmean.proofs.SoundOperators.{weaker, truth-s, truth-number, unary-s, not-s, binary-s, advance-s, small-value, put-s, pointer-value, within-s}
use Rattle.pw_cmean.proofs.SoundTrees.{IsFine, take_room-s, named-typed, letter-result, call-s, call_value-s, operand-s, symbol_place-s, local_place-s, value_at-s, cast-s, old_value-s, update-s, step-s, assigned-of, pointer-from}

-- a truth value as a number
number_for-s : (b : Bool) → Sound (IsResultOf (Int K.Int)) (give (Some (V.Num (number_for b))))
number_for-s b = give-s (IsResultOf (Int K.Int)) _ (truth-number b)

-- the same at a type that is another by an equation
typed-as : {a b : CType} {m : Act (Option Value)} → a ≡ b → Sound (IsResultOf a) m → Sound (IsResultOf b) m
typed-as {a} {b} {m} e p = subst (λ ty. Sound (IsResultOf ty) m) e p

-- a result of a value
some-s : (ty : CType) {m : Act Value} → Sound (IsValueOf ty) m → Sound (IsResultOf ty) (m >>= λ v. give (Some v))
some-s ty p = bind-s p λ v h. give-s (IsResultOf ty) (Some v) h

mutual
  unfolding answer_of place_of values_of

  pub answer-s : (a : Expression) (cs : CallList) (e : Env) → IsTyped e.world.program e.home.name a → IsFine e.world.program cs
      → Sound (IsResultOf (type_of (type_at a))) (answer_of a cs e)
  answer-s (Node t ty (Number n)) cs e w h = give-s (IsResultOf (type_of ty)) _ w
  answer-s (Node t ty (Str k)) cs e w h = bind-s (symbol_place-s e _) λ p i. value_at-s e t ty p i
  answer-s (Node t ty (Local k)) cs e w h = bind-s (local_place-s e k) λ p i. value_at-s e t ty p i
  answer-s (Node t ty (Global s)) cs e w h = bind-s (symbol_place-s e s) λ p i. value_at-s e t ty p i
  answer-s (Node t ty (Function s)) cs e w h = bind-s (symbol_place-s e s) λ p i. value_at-s e t ty p i
  answer-s (Node t ty (Unary Not a)) cs e w h =
      typed-as (sym w.1) (bind-s (operand-s _ _ (answer-s a cs e w.0 h)) λ v i. some-s (Int K.Int) (not-s _ (type_of ty) v))
  answer-s (Node t ty (Unary Plus a)) cs e w h =
      bind-s (operand-s _ _ (answer-s a cs e w.0 h)) λ v i. some-s (type_of ty) (unary-s _ Plus (type_of ty) v (λ x. cc) w.1 (small-value _ v i))
  answer-s (Node t ty (Unary Minus a)) cs e w h =
      bind-s (operand-s _ _ (answer-s a cs e w.0 h)) λ v i. some-s (type_of ty) (unary-s _ Minus (type_of ty) v (λ x. cc) w.1 (small-value _ v i))
  answer-s (Node t ty (Unary Complement a)) cs e w h =
      bind-s (operand-s _ _ (answer-s a cs e w.0 h)) λ v i. some-s (type_of ty) (unary-s _ Complement (type_of ty) v (λ x. cc) w.1 (small-value _ v i))
  answer-s (Node t ty (Binary op a b)) cs e w h =
      bind-s (operand-s _ (type_of (type_at a)) (answer-s a cs e w.0 h)) λ v i. bind-s (operand-s _ (type_of (type_at b)) (answer-s b cs e w.1 h)) λ x j.
      some-s (type_of ty) (binary-s _ _ op (type_of (type_at a)) (type_of (type_at b)) (type_of ty) v x w.2
      (small-value (type_of (type_at a)) v i) (small-value (type_of (type_at b)) x j))
  answer-s (Node t ty (Logic op a b)) cs e w h =
      typed-as (sym w.2) (bind-s (bind-s (operand-s _ _ (answer-s a cs e w.0 h)) λ v i. truth-s _ v) λ x u.
      branch-s _ (number_for-s x) (bind-s (bind-s (operand-s _ _ (answer-s b cs e w.1 h)) λ v i. truth-s _ v) λ y u. number_for-s y))
  answer-s (Node t ty (Cond c a b)) cs e w h =
      bind-s (bind-s (operand-s _ _ (answer-s c cs e w.0 h)) λ v i. truth-s _ v) λ x u.
      branch-s x (typed-as w.3 (answer-s a cs e w.1 h)) (typed-as w.4 (answer-s b cs e w.2 h))
  answer-s (Node t ty (Comma a b)) cs e w h = bind-s (answer-s a cs e w.0 h) λ o i. typed-as w.2 (answer-s b cs e w.1 h)
  answer-s (Node t ty (Assign a b)) cs e w h =
      bind-s (place-s a cs e w.0 h) λ p i. bind-s (operand-s _ (type_of (type_at b)) (answer-s b cs e w.1 h)) λ v j.
      bind-s (put-s _ _ _ (type_of (type_at a)) p v) λ u k.
      typed-as w.2 (give-s (IsResultOf (type_of (type_at a))) _ (assigned-of (type_of (type_at a)) p v i (subst (λ x. IsValueOf x v) (w.3 ∙ sym w.2) j)))
  answer-s (Node t ty (Compound op working a b)) cs e w h =
      bind-s (place-s a cs e w.0 h) λ p i.
      let types : CanUpdate working (type_of (type_at a)) (type_of (type_at b)) = subst (λ x. CanUpdate working x (type_of (type_at b))) (sym w.3) w.2 in
      bind-s (old_value-s e t working (type_of (type_at a)) (type_of (type_at b)) p types) λ old j.
      bind-s (operand-s _ (type_of (type_at b)) (answer-s b cs e w.1 h)) λ x k.
      typed-as w.3 (some-s (type_of (type_at a)) (update-s e t (type_of (type_at a)) working p op (type_of (type_at b)) old x types j (small-value (type_of (type_at b)) x k)))
  answer-s (Node t ty (Step op a)) cs e w h =
      bind-s (place-s a cs e w.0 h) λ p i.
      typed-as w.2 (some-s (type_of (type_at a)) (step-s e t op (type_of (type_at a)) p (subst IsScalar (sym w.2) w.1)))
  answer-s (Node t ty (Cast a)) cs e w h = bind-s (answer-s a cs e w.0 h) λ o i. cast-s _ (type_of (type_at a)) (type_of ty) o w.1 i
  answer-s (Node t ty (Decay a)) cs e w h = some-s (type_of ty) (weaker (place-s a cs e w.0 h) λ p i. pointer-value (type_of ty) p w.1 i)
  answer-s (Node t ty (Address a)) cs e w h = some-s (type_of ty) (weaker (place-s a cs e w.0 h) λ p i. pointer-value (type_of ty) p w.1 i)
  answer-s (Node t ty (Member a i)) cs e w h =
      bind-s (bind-s (place-s a cs e w h) λ p j. advance-s _ p _) λ q k. value_at-s e t ty q k
  answer-s (Node t ty (Deref a)) cs e w h =
      bind-s (operand-s _ (type_of (type_at a)) (answer-s a cs e w.0 h)) λ p i. value_at-s e t ty p (pointer-from (type_of (type_at a)) p w.1 i)
  answer-s (Node t ty (Call s args)) cs e w h =
      bind-s (values-s args t cs e w.0 h) λ vs u.
      bind-s (need-s (λ f. function_named e.world.program (full_name e.home.name s) ≡ Some f) _ λ f same. same) λ f same.
      weaker (call-s e.world.program e.world cs f vs (named-typed e.world.program (full_name e.home.name s) f h.program same) h.calls)
      λ r k. letter-result (result_letter f.shape) (type_of ty) r (w.1 f same) k
  answer-s (Node t ty (CallValue a args)) cs e w h =
      bind-s (operand-s _ (type_of (type_at a)) (answer-s a cs e w.0 h)) λ p i. bind-s (values-s args t cs e w.1 h) λ vs u.
      call_value-s e cs t (type_of (type_at a)) (type_of ty) p vs w.2 h

  pub place-s : (a : Expression) (cs : CallList) (e : Env) → IsTyped e.world.program e.home.name a → IsFine e.world.program cs → Sound IsPointer (place_of a cs e)
  place-s (Node t ty (Str k)) cs e w h = symbol_place-s e _
  place-s (Node t ty (Local k)) cs e w h = local_place-s e k
  place-s (Node t ty (Global s)) cs e w h = symbol_place-s e s
  place-s (Node t ty (Function s)) cs e w h = symbol_place-s e s
  place-s (Node t ty (Member a i)) cs e w h = bind-s (place-s a cs e w h) λ p j. advance-s _ p _
  place-s (Node t ty (Deref a)) cs e w h = weaker (operand-s _ (type_of (type_at a)) (answer-s a cs e w.0 h)) λ p i. pointer-from (type_of (type_at a)) p w.1 i
  place-s (Node t ty (Cond c a b)) cs e w h =
      bind-s (bind-s (operand-s _ _ (answer-s c cs e w.0 h)) λ v i. truth-s _ v) λ x u.
      branch-s x (place-s a cs e w.1 h) (place-s b cs e w.2 h)
  place-s (Node t ty (Comma a b)) cs e w h = bind-s (answer-s a cs e w.0 h) λ o i. place-s b cs e w.1 h
  place-s (Node t ty (Assign a b)) cs e w h =
      bind-s (place-s a cs e w.0 h) λ p i. bind-s (operand-s _ (type_of (type_at b)) (answer-s b cs e w.1 h)) λ v j.
      bind-s (put-s _ _ _ (type_of (type_at a)) p v) λ u k. give-s IsPointer p i
  place-s (Node t ty _) cs e w h = wrong-s IsPointer

  pub values-s : (args : Expressions) (t : ℕ) (cs : CallList) (e : Env) → AreTyped e.world.program e.home.name args → IsFine e.world.program cs → Sound Any (values_of args t cs e)
  values-s NoExpression t cs e w h = give-s Any [] tt
  values-s (OneExpression a rest) t cs e w h =
      bind-s (operand-s _ (type_of (type_at a)) (answer-s a cs e w.0 h)) λ v i. bind-s (values-s rest t cs e w.1 h) λ vs u. give-s Any _ tt

-- ---- statements

-- what comes of a statement of a function whose result has a letter
abbrev pub IsFlow : ℕ → Flow → Type 0
IsFlow letter (Returns r) = IsLetterResult letter r
IsFlow letter _ = Unit {0}

value-s : (a : Expression) (cs : CallList) (e : Env) → IsTyped e.world.program e.home.name a → IsFine e.world.program cs → Sound (IsValueOf (type_of (type_at a))) (value_of a cs e)
unfolding value_of
value-s a cs e w h = operand-s _ (type_of (type_at a)) (answer-s a cs e w h)

condition-s : (a : Expression) (cs : CallList) (e : Env) → IsTyped e.world.program e.home.name a → IsFine e.world.program cs → Sound Any (condition a cs e)
unfolding condition
condition-s a cs e w h = bind-s (value-s a cs e w h) λ v i. truth-s _ v

for_condition-s : (o : Option Expression) (cs : CallList) (e : Env) → IsTypedIfAny e.world.program e.home.name o → IsFine e.world.program cs → Sound Any (for_condition o cs e)
unfolding for_condition
for_condition-s None cs e w h = give-s Any true tt
for_condition-s (Some a) cs e w h = condition-s a cs e w h

drop_value-s : (o : Option Expression) (cs : CallList) (e : Env) → IsTypedIfAny e.world.program e.home.name o → IsFine e.world.program cs → Sound Any (drop_value o cs e)
unfolding drop_value
drop_value-s None cs e w h = give-s Any tt tt
drop_value-s (Some a) cs e w h = bind-s (answer-s a cs e w h) λ o i. give-s Any tt tt

always-s : (cs : CallList) → Sound Any (always cs)
unfolding always
always-s cs = give-s Any true tt

go_forward-s : (letter : ℕ) (labels : List ℕ) {later : Entry → Act Flow} {next : Act Flow} (flow : Flow) → IsFlow letter flow
    → ((at : Entry) → Sound (IsFlow letter) (later at)) → Sound (IsFlow letter) next → Sound (IsFlow letter) (go_forward labels later next flow)
unfolding go_forward
go_forward-s letter labels Normal f p q = q
go_forward-s letter labels Breaks f p q = give-s (IsFlow letter) Breaks tt
go_forward-s letter labels Continues f p q = give-s (IsFlow letter) Continues tt
go_forward-s letter labels (Returns r) f p q = give-s (IsFlow letter) (Returns r) f
go_forward-s letter labels (Goes l) f p q = branch-s _ (p (At_label l)) (give-s (IsFlow letter) (Goes l) tt)

caught-s : (letter : ℕ) (labels : List ℕ) {again : ℕ → Act Flow} (flow : Flow) → IsFlow letter flow → ((l : ℕ) → Sound (IsFlow letter) (again l))
    → Sound (IsFlow letter) (caught labels again flow)
unfolding caught
caught-s letter labels Normal f p = give-s (IsFlow letter) Normal tt
caught-s letter labels Breaks f p = give-s (IsFlow letter) Breaks tt
caught-s letter labels Continues f p = give-s (IsFlow letter) Continues tt
caught-s letter labels (Returns r) f p = give-s (IsFlow letter) (Returns r) f
caught-s letter labels (Goes l) f p = branch-s _ (p l) (give-s (IsFlow letter) (Goes l) tt)

-- a lower bound
lower-fine : (p : Program) (c : Calling) (cs : CallList) → IsFine p (c ∷ cs) → IsFine p cs
lower-fine p c cs h = record { program = h.program; calls = h.calls.1 }

taking_up-s : (p : Program) (letter : ℕ) (labels : List ℕ) (run : Entry → CallList → Act Flow) (at : Entry) (cs : CallList) → IsFine p cs
    → ((at : Entry) (cs : CallList) → IsFine p cs → Sound (IsFlow letter) (run at cs)) → Sound (IsFlow letter) (taking_up labels run at cs)
unfolding taking_up
taking_up-s p letter labels run at [] h r = bind-s (r at [] h) λ f i. caught-s letter labels f i λ l. stop-s (IsFlow letter) Bound
taking_up-s p letter labels run at (c ∷ cs) h r =
    bind-s (r at (c ∷ cs) h) λ f i. caught-s letter labels f i λ l. taking_up-s p letter labels run (At_label l) cs (lower-fine p c cs h) r

after_body-s : (letter : ℕ) {again : Act Flow} (flow : Flow) → IsFlow letter flow → Sound (IsFlow letter) again → Sound (IsFlow letter) (after_body again flow)
unfolding after_body
after_body-s letter Normal f p = p
after_body-s letter Continues f p = p
after_body-s letter Breaks f p = give-s (IsFlow letter) Normal tt
after_body-s letter (Returns r) f p = give-s (IsFlow letter) (Returns r) f
after_body-s letter (Goes l) f p = give-s (IsFlow letter) (Goes l) tt

record SoundParts (p : Program) (letter : ℕ) (ahead : CallList → Act Bool) (body : Entry → CallList → Act Flow) (behind : CallList → Act Bool) : Type 0 where
  test : (cs : CallList) → IsFine p cs → Sound Any (ahead cs)
  middle : (at : Entry) (cs : CallList) → IsFine p cs → Sound (IsFlow letter) (body at cs)
  last : (cs : CallList) → IsFine p cs → Sound Any (behind cs)

turn-s : (p : Program) (letter : ℕ) (ahead : CallList → Act Bool) (body : Entry → CallList → Act Flow) (behind : CallList → Act Bool) → SoundParts p letter ahead body behind
    → (at : Entry) (cs : CallList) → IsFine p cs → {top : Act Flow} → Sound (IsFlow letter) top → Sound (IsFlow letter) (turn body behind at cs top)
unfolding turn
turn-s p letter ahead body behind parts at cs h q =
    bind-s (parts.middle at cs h) λ f i. after_body-s letter f i (bind-s (parts.last cs h) λ more u. branch-s more q (give-s (IsFlow letter) Normal tt))

loop-s : (p : Program) (letter : ℕ) (ahead : CallList → Act Bool) (body : Entry → CallList → Act Flow) (behind : CallList → Act Bool) → SoundParts p letter ahead body behind
    → (cs : CallList) → IsFine p cs → Sound (IsFlow letter) (loop ahead body behind cs)
unfolding loop
loop-s p letter ahead body behind parts [] h =
    bind-s (parts.test [] h) λ more u. branch-s more (turn-s p letter ahead body behind parts Front [] h (stop-s (IsFlow letter) Bound)) (give-s (IsFlow letter) Normal tt)
loop-s p letter ahead body behind parts (c ∷ cs) h =
    bind-s (parts.test (c ∷ cs) h) λ more u.
    branch-s more (turn-s p letter ahead body behind parts Front (c ∷ cs) h (loop-s p letter ahead body behind parts cs (lower-fine p c cs h))) (give-s (IsFlow letter) Normal tt)

meet_loop-s : (p : Program) (letter : ℕ) (ahead : CallList → Act Bool) (body : Entry → CallList → Act Flow) (behind : CallList → Act Bool) → SoundParts p letter ahead body behind
    → (at : Entry) (cs : CallList) → IsFine p cs → Sound (IsFlow letter) (meet_loop ahead body behind at cs)
unfolding meet_loop
meet_loop-s p letter ahead body behind parts Front cs h = loop-s p letter ahead body behind parts cs h
meet_loop-s p letter ahead body behind parts (At_label l) [] h = turn-s p letter ahead body behind parts (At_label l) [] h (stop-s (IsFlow letter) Bound)
meet_loop-s p letter ahead body behind parts (At_label l) (c ∷ cs) h =
    turn-s p letter ahead body behind parts (At_label l) (c ∷ cs) h (loop-s p letter ahead body behind parts cs (lower-fine p c cs h))

after_switch-s : (letter : ℕ) (flow : Flow) → IsFlow letter flow → Sound (IsFlow letter) (after_switch flow)
unfolding after_switch
after_switch-s letter Breaks f = give-s (IsFlow letter) Normal tt
after_switch-s letter flow f = give-s (IsFlow letter) flow f

switch_to-s : (letter : ℕ) (o : Option ℕ) {body : ℕ → Act Flow} → ((l : ℕ) → Sound (IsFlow letter) (body l)) → Sound (IsFlow letter) (switch_to o body)
unfolding switch_to
switch_to-s letter None p = give-s (IsFlow letter) Normal tt
switch_to-s letter (Some l) p = bind-s (p l) λ f i. after_switch-s letter f i

-- in an environment where other locals have objects
with_locals-s : {A : Type 0} {P : A → Type 0} (count first : ℕ) (act : Env → Act A) (e : Env)
    → ((numbers : List (Option ℕ)) → Sound P (act (record e { numbers = numbers }))) → Sound P (with_locals count first act e)
unfolding with_locals
with_locals-s zero first act e p = p e.numbers
with_locals-s {A} {P} (suc count) first act e p =
    bind-s (need-s Any _ λ l x. tt) λ l u. bind-s (need-s Any _ λ layout x. tt) λ layout u.
    with_object-s _ _ λ n. with_locals-s count (suc first) act (with_number first n e) p

set_local-s : (a : Site) (k : ℕ) (v : Value) (e : Env) → Sound Any (set_local a k v e)
unfolding set_local
set_local-s a k v e = bind-s (need-s Any _ λ l x. tt) λ l u. bind-s (local_place-s e k) λ p i. put-s _ a _ _ p v

initialise-s : (i : Initialiser) (cs : CallList) (e : Env) → AreTypedInitialisers e.world.program e.home.name (i ∷ []) → IsFine e.world.program cs → Sound Any (initialise i cs e)
unfolding initialise
initialise-s (ByValue k a) cs e w h = bind-s (value-s a cs e w.0 h) λ v i. set_local-s _ k v e
initialise-s (ByBytes k hidden parts) cs e w h =
    bind-s (symbol_place-s e _) λ source i. bind-s (local_place-s e k) λ p j.
    within-s source λ from x. within-s p λ to y.
    bind-s (look-s (All IsByte) (λ s. (object_at s.objects from).bytes) (λ s held. object-bytes s.objects from held.objects)) λ bytes are. write-s to y bytes are

initialise_all-s : (is : List Initialiser) (at : Entry) (cs : CallList) (e : Env) → AreTypedInitialisers e.world.program e.home.name is → IsFine e.world.program cs
    → Sound Any (initialise_all is at cs e)
unfolding initialise_all
initialise_all-s [] at cs e w h = give-s Any tt tt
initialise_all-s (ByValue k a ∷ rest) Front cs e w h = bind-s (initialise-s (ByValue k a) cs e (w.0, tt) h) λ u x. initialise_all-s rest Front cs e w.1 h
initialise_all-s (ByBytes k hidden parts ∷ rest) Front cs e w h = bind-s (initialise-s (ByBytes k hidden parts) cs e tt h) λ u x. initialise_all-s rest Front cs e w h
initialise_all-s (i ∷ rest) (At_label l) cs e w h = give-s Any tt tt

mutual
  unfolding meaning items arms behind_arms

  pub meaning-s : (s : Statement) (letter : ℕ) (at : Entry) (cs : CallList) (e : Env) → IsTypedStatement e.world.program e.home.name letter s → IsFine e.world.program cs
      → Sound (IsFlow letter) (meaning s at cs e)
  meaning-s (Evaluate t a) letter at cs e w h = bind-s (answer-s a cs e w h) λ o i. give-s (IsFlow letter) Normal tt
  meaning-s (Block t first count initialisers list) letter at cs e w h =
      with_locals-s count first _ e λ numbers.
      bind-s (initialise_all-s initialisers at cs (record e { numbers = numbers }) w.0 h) λ u x.
      taking_up-s e.world.program letter (labels_among list) (λ at' ds. items list at' ds (record e { numbers = numbers })) at cs h
      λ at' ds k. items-s list letter at' ds (record e { numbers = numbers }) w.1 k
  meaning-s (If t list otherwise) letter at cs e w h =
      taking_up-s e.world.program letter _ (λ at' ds. arms list (labels_behind otherwise) (λ last. behind_arms otherwise last ds e) at' ds e) at cs h
      λ at' ds k. arms-s list letter (labels_behind otherwise) at' ds e w.0 k λ last. behind_arms-s otherwise letter last ds e w.1 k
  meaning-s (While t c body) letter at cs e w h =
      meet_loop-s e.world.program letter (λ ds. condition c ds e) (λ at' ds. meaning body at' ds e) always (record {
        test = λ ds k. condition-s c ds e w.0 k;
        middle = λ at' ds k. meaning-s body letter at' ds e w.1 k;
        last = λ ds k. always-s ds;
      }) at cs h
  meaning-s (Do t body c) letter at cs e w h =
      meet_loop-s e.world.program letter always (λ at' ds. meaning body at' ds e) (λ ds. condition c ds e) (record {
        test = λ ds k. always-s ds;
        middle = λ at' ds k. meaning-s body letter at' ds e w.0 k;
        last = λ ds k. condition-s c ds e w.1 k;
      }) at cs h
  meaning-s (For t first c third body) letter Front cs e w h =
      bind-s (drop_value-s first cs e w.0 h) λ u x.
      meet_loop-s e.world.program letter (λ ds. for_condition c ds e) (λ at' ds. meaning body at' ds e) (λ ds. drop_value third ds e >> give true) (record {
        test = λ ds k. for_condition-s c ds e w.1 k;
        middle = λ at' ds k. meaning-s body letter at' ds e w.3 k;
        last = λ ds k. bind-s (drop_value-s third ds e w.2 k) λ u x. give-s Any true tt;
      }) Front cs h
  meaning-s (For t first c third body) letter (At_label l) cs e w h =
      meet_loop-s e.world.program letter (λ ds. for_condition c ds e) (λ at' ds. meaning body at' ds e) (λ ds. drop_value third ds e >> give true) (record {
        test = λ ds k. for_condition-s c ds e w.1 k;
        middle = λ at' ds k. meaning-s body letter at' ds e w.3 k;
        last = λ ds k. bind-s (drop_value-s third ds e w.2 k) λ u x. give-s Any true tt;
      }) (At_label l) cs h
  meaning-s (Switch t a cases default body) letter Front cs e w h =
      bind-s (value-s a cs e w.0 h) λ v i. switch_to-s letter _ λ l. meaning-s body letter (At_label l) cs e w.1 h
  meaning-s (Switch t a cases default body) letter (At_label l) cs e w h =
      bind-s (meaning-s body letter (At_label l) cs e w.1 h) λ f i. after_switch-s letter f i
  meaning-s (Label t labels body) letter at cs e w h =
      taking_up-s e.world.program letter labels _ at cs h λ at' ds k. meaning-s body letter _ ds e w k
  meaning-s (Return t (Some a)) letter at cs e w h =
      bind-s (value-s a cs e w.0 h) λ v i. give-s (IsFlow letter) (Returns (Some v)) (type_of (type_at a), w.1, i)
  -- it leaves in one way
  meaning-s s letter at cs e w h = give-s (IsFlow letter) _ tt

  pub items-s : (ss : Statements) (letter : ℕ) (at : Entry) (cs : CallList) (e : Env) → AreTypedStatements e.world.program e.home.name letter ss → IsFine e.world.program cs
      → Sound (IsFlow letter) (items ss at cs e)
  items-s NoStatement letter at cs e w h = give-s (IsFlow letter) Normal tt
  items-s (OneStatement s rest) letter Front cs e w h =
      bind-s (meaning-s s letter Front cs e w.0 h) λ f i. go_forward-s letter _ f i (λ at'. items-s rest letter at' cs e w.1 h) (items-s rest letter Front cs e w.1 h)
  items-s (OneStatement s rest) letter (At_label l) cs e w h = branch-s _
      (bind-s (meaning-s s letter (At_label l) cs e w.0 h) λ f i. go_forward-s letter _ f i (λ at'. items-s rest letter at' cs e w.1 h) (items-s rest letter Front cs e w.1 h))
      (items-s rest letter (At_label l) cs e w.1 h)

  pub arms-s : (list : Arms) (letter : ℕ) (labels : List ℕ) {last : Entry → Act Flow} (at : Entry) (cs : CallList) (e : Env) → AreTypedArms e.world.program e.home.name letter list
      → IsFine e.world.program cs → ((at : Entry) → Sound (IsFlow letter) (last at)) → Sound (IsFlow letter) (arms list labels last at cs e)
  arms-s NoArm letter labels at cs e w h p = p at
  arms-s (Arm t c s rest) letter labels Front cs e w h p =
      bind-s (condition-s c cs e w.0 h) λ x u. branch-s x
      (bind-s (meaning-s s letter Front cs e w.1 h) λ f i. go_forward-s letter _ f i (λ at'. arms-s rest letter labels at' cs e w.2 h p) (give-s (IsFlow letter) Normal tt))
      (arms-s rest letter labels Front cs e w.2 h p)
  arms-s (Arm t c s rest) letter labels (At_label l) cs e w h p = branch-s _
      (bind-s (meaning-s s letter (At_label l) cs e w.1 h) λ f i. go_forward-s letter _ f i (λ at'. arms-s rest letter labels at' cs e w.2 h p) (give-s (IsFlow letter) Normal tt))
      (arms-s rest letter labels (At_label l) cs e w.2 h p)

  pub behind_arms-s : (o : Otherwise) (letter : ℕ) (at : Entry) (cs : CallList) (e : Env) → IsTypedElse e.world.program e.home.name letter o → IsFine e.world.program cs
      → Sound (IsFlow letter) (behind_arms o at cs e)
  behind_arms-s NoElse letter at cs e w h = give-s (IsFlow letter) Normal tt
  behind_arms-s (Else s) letter at cs e w h = meaning-s s letter at cs e w h

-- ---- calls

set_parameters-s : (a : Site) (k : ℕ) (vs : List Value) (e : Env) → Sound Any (set_parameters a k vs e)
unfolding set_parameters
set_parameters-s a k [] e = give-s Any tt tt
set_parameters-s a k (v ∷ vs) e = bind-s (set_local-s a k v e) λ u x. set_parameters-s a (suc k) vs e

result_of-s : (letter : ℕ) (f : Flow) → IsFlow letter f → Sound (IsLetterResult letter) (result_of f)
unfolding result_of
result_of-s letter Normal h = give-s (IsLetterResult letter) None tt
result_of-s letter (Returns r) h = give-s (IsLetterResult letter) r h
result_of-s letter Breaks h = wrong-s (IsLetterResult letter)
result_of-s letter Continues h = wrong-s (IsLetterResult letter)
result_of-s letter (Goes l) h = wrong-s (IsLetterResult letter)

run_body-s : (w : World) (cs : CallList) (name shape : List ℕ) (b : Body) (vs : List Value) → IsTypedBody w.program shape b → IsFine w.program cs
    → Sound (IsLetterResult (result_letter shape)) (run_body w cs name b vs)
unfolding run_body
run_body-s w cs name shape (Defined home f) vs t h =
    bind-s (take_room-s w name) λ u x. during-s name (with_locals-s f.params 0 _ (outermost w home f) λ numbers.
    bind-s (set_parameters-s _ 0 vs (record (outermost w home f) { numbers = numbers })) λ u x.
    bind-s (meaning-s f.body (result_letter shape) Front cs (record (outermost w home f) { numbers = numbers }) t h) λ flow i. result_of-s (result_letter shape) flow i)
run_body-s w cs name shape (Library g) vs t h = wrong-s (IsLetterResult (result_letter shape))

pub calls-s : (w : World) (n : ℕ) → IsTypedProgram w.program → IsFine w.program (calls w n)
unfolding calls callee
calls-s w zero h = record { program = h; calls = tt }
calls-s w (suc n) h =
    let lower : IsFine w.program (calls w n) = calls-s w n h in
    record { program = h; calls = ((λ f args t. run_body-s w (calls w n) f.name f.shape f.body args t lower), lower.calls) }

-- what comes of a statement, by the type with the letter
pub flow-of : (letter : ℕ) (ty : CType) (flow : Flow) → letter_of ty ≡ letter → IsFlow letter flow → IsFlowOf ty flow
flow-of letter ty (Returns r) e h = letter-result letter ty r e h
flow-of letter ty Normal e h = tt
flow-of letter ty Breaks e h = tt
flow-of letter ty Continues e h = tt
flow-of letter ty (Goes l) e h = tt
