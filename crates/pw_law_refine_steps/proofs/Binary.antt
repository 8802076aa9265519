-- Binary operators on two numbers keep their promise where their operands do.
use Rattle.std.proofs.Common.{◌≡◌, ◌≢◌, ℕ, ◌<◌, ◌≤◌, inl, inr, Bool, true, false, if◌then◌else◌, Option, Some, None, unwrap_or, Result, Ok, Err, List, [], ◌++◌, Contains, slice_get, refl, ap, ap₂, sym, ◌∙◌, subst, arith}
use Rattle.std.proofs.lemmas.List.Elements.{Contains-append_left, Contains-append_right, Contains-append_cases, Contains-push_cases}
use Rattle.pw_value.specs.declared.value.Value.{Value}
use Rattle.pw_value.specs.declared.value.Value.TheVariants as V
use Rattle.pw_value.specs.declared.words.WordFault.{WordFault}
use Rattle.pw_value.specs.declared.words.WordFault.TheVariants.{Overflow, ZeroDivisor, ShiftCount}
use Rattle.pw_types.specs.Conversions.{is_signed_kind}
use Rattle.pw_types.specs.TypeTrees.{CType, Void, Int, QType, QTypes, NoType, OneType, RecordValue}
use Rattle.pw_types.specs.declared.kind.IntKind.{IntKind}
use Rattle.pw_types.specs.declared.tree.BinaryOperator.{BinaryOperator}
use Rattle.pw_types.specs.declared.tree.BinaryOperator.TheVariants as B
use Rattle.pw_types.specs.TypedTrees.{Expression, Node, Number, Str, Local, Global, Function, Unary, Binary, Logic, Cond, Comma, Assign, Compound, Step, Cast, Decay, Member, Deref, Address, Call, CallValue, Expressions, NoExpression, OneExpression, LocalValue}
use Rattle.pw_types.specs.WellTyped.{IsTyped, HasForm, AreArguments, type_in}
use Rattle.pw_flow.specs.declared.flow.Op.{Op}
use Rattle.pw_flow.specs.declared.flow.Op.TheVariants as op
use Rattle.pw_flow.specs.declared.flow.BinKind.{BinKind}
use Rattle.pw_lower.specs.declared.code.Code.{Code}
use Rattle.pw_lower.specs.Codes.{Lowered, temp_of, fresh}
use Rattle.pw_lower.specs.Expressions.{lower}
use Rattle.pw_lower.specs.Operators.{on_numbers, operation_of, is_turned, sum_or, combined}
use Rattle.pw_lower.specs.Places.{local_in, addressed_in}
use Rattle.pw_cmean.specs.Acts.{State, Site, give, stop, wrong, undefined, ◌>>=◌, go_on}
use Rattle.pw_cmean.specs.Operators.{outcome_of, arithmetic}
use Rattle.pw_cmean.specs.Operators as source
use Rattle.pw_cmean.specs.Evaluation.{site, used, answer_of}
use Rattle.pw_cmean.specs.SourceRun.{calls}
use Rattle.pw_cmean.specs.Typed.{IsValueOf}
use Rattle.pw_law_source.specs.FromRunLanguages.Commands.{command}
use Rattle.pw_law_source.specs.FromRunLanguages.Values as flow
use Rattle.pw_law_source.specs.FromRunLanguages.FlowRun.{Machine, value_in, obeys, steps}
use Rattle.pw_law_source.specs.FromRunLanguages.FlowRun as run
use Rattle.pw_law_refine.specs.Standing.{Spot, Stands}
use Rattle.pw_law_refine.specs.Activations.{Activation, Numbers, graphs, graph_of, home_of, env_of, local_temps, HaveSlots}
use Rattle.pw_law_refine.specs.Containing.{ContainsCode}
use Rattle.pw_law_refine.specs.Meeting.{Reaches, Meets}
use Rattle.pw_law_refine.specs.Expressions.{assigned_in, assigned_in_all, IsReady, IsDone, HasValue, HasResult, ExpressionKeeps}
use Rattle.pw_law_refine_steps.specs.Operations.{operated}
use Rattle.pw_law_refine_steps.proofs.Simulation.{meets-then, meets-less, shown-here}
use Rattle.pw_law_refine_steps.proofs.Lasting.{stands-later}
use Rattle.pw_law_refine_steps.proofs.Fresh.{temp_below}
use Rattle.pw_law_refine_steps.proofs.Forms.{CodeLaws, before-fresh, fresh-reaches, done-then, ready-then}
use Rattle.pw_law_refine_steps.proofs.Unary.{TypesHold, HasOperand, operand, operand-stands, number-word}
use Rattle.pw_law_refine_steps.proofs.Words.{operators}
use Rattle.pw_law_refine_steps.proofs.Results.{results, named-type, is_not_void}

-- ---- a local that is assigned to is one of the function's

abbrev Known : Activation → ℕ → Type 0
Known x k = (l : LocalValue) × (slice_get x.function.locals k ≡ Some l)

in-either : (x : Activation) (xs ys : List ℕ) (k : ℕ) → Contains (xs ++ ys) k → (Contains xs k → Known x k) → (Contains ys k → Known x k) → Known x k
in-either x xs ys k there f g = elim (Contains-append_cases xs ys k there) [ inl h ↦ f h | inr h ↦ g h ]

known-local : (x : Activation) (a : Expression) → IsTyped x.home.tree x.function.locals a → (k : ℕ) → Contains (local_in a) k → Known x k
unfolding IsTyped HasForm
known-local x (Node t ty (Local j)) typed k there = elim (Contains-push_cases [] j k there) [
  | inl h ↦ absurd (omega (arith, h.1))
  | inr e ↦ (typed.1.0, subst (λ (i : ℕ). slice_get x.function.locals i ≡ Some typed.1.0) e typed.1.1)
]
known-local x (Node t ty form) typed k there = absurd (omega (arith, there.1))

mutual
  unfolding IsTyped HasForm AreArguments

  pub known : (x : Activation) (a : Expression) → IsTyped x.home.tree x.function.locals a → (k : ℕ) → Contains (assigned_in a) k → Known x k
  known x (Node t ty (Unary o a)) typed k there = known x a typed.1.0 k there
  known x (Node t ty (Binary o a b)) typed k there = in-either x (assigned_in a) (assigned_in b) k there (known x a typed.1.0 k) (known x b typed.1.1 k)
  known x (Node t ty (Logic o a b)) typed k there = in-either x (assigned_in a) (assigned_in b) k there (known x a typed.1.0 k) (known x b typed.1.1 k)
  known x (Node t ty (Cond a b c)) typed k there =
      in-either x (assigned_in a ++ assigned_in b) (assigned_in c) k there
      (λ h. in-either x (assigned_in a) (assigned_in b) k h (known x a typed.1.0 k) (known x b typed.1.1 k)) (known x c typed.1.2 k)
  known x (Node t ty (Comma a b)) typed k there = in-either x (assigned_in a) (assigned_in b) k there (known x a typed.1.0 k) (known x b typed.1.1 k)
  known x (Node t ty (Assign a b)) typed k there =
      in-either x (local_in a ++ assigned_in a) (assigned_in b) k there
      (λ h. in-either x (local_in a) (assigned_in a) k h (known-local x a typed.1.0 k) (known x a typed.1.0 k)) (known x b typed.1.1 k)
  known x (Node t ty (Compound o work a b)) typed k there =
      in-either x (local_in a ++ assigned_in a) (assigned_in b) k there
      (λ h. in-either x (local_in a) (assigned_in a) k h (known-local x a typed.1.0 k) (known x a typed.1.0 k)) (known x b typed.1.1 k)
  known x (Node t ty (Step o a)) typed k there = in-either x (local_in a) (assigned_in a) k there (known-local x a typed.1.0 k) (known x a typed.1.0 k)
  known x (Node t ty (Cast a)) typed k there = known x a typed.1.0 k there
  known x (Node t ty (Decay a)) typed k there = known x a typed.1.0 k there
  known x (Node t ty (Member a offset)) typed k there = known x a typed.1.0 k there
  known x (Node t ty (Deref a)) typed k there = known x a typed.1.0 k there
  known x (Node t ty (Address a)) typed k there = known x a typed.1.0 k there
  known x (Node t ty (Call s args)) typed k there = known-all x args typed.1.1 typed.1.5 k there
  known x (Node t ty (CallValue a args)) typed k there =
      in-either x (assigned_in a) (assigned_in_all args) k there (known x a typed.1.0 k) (known-all x args typed.1.1.1 typed.1.1.7 k)
  known x (Node t ty (Number n)) typed k there = absurd (omega (arith, there.1))
  known x (Node t ty (Str n)) typed k there = absurd (omega (arith, there.1))
  known x (Node t ty (Local n)) typed k there = absurd (omega (arith, there.1))
  known x (Node t ty (Global s)) typed k there = absurd (omega (arith, there.1))
  known x (Node t ty (Function s)) typed k there = absurd (omega (arith, there.1))

  known-all : (x : Activation) (args : Expressions) (params : QTypes) → AreArguments x.home.tree x.function.locals args params → (k : ℕ) → Contains (assigned_in_all args) k → Known x k
  known-all x NoExpression params typed k there = absurd (omega (arith, there.1))
  known-all x (OneExpression a rest) NoType typed k there = absurd typed
  known-all x (OneExpression a rest) (OneType q qs) typed k there =
      in-either x (assigned_in a) (assigned_in_all rest) k there (known x a typed.0 k) (known-all x rest qs typed.3 k)

-- ---- the first operand's value stays where it is

-- behind a second expression, a temporary that was given out since the locals' holds what it held
stays :
    (x : Activation) (numbers : Numbers) (spots : List Spot) (b : Expression) (c : Code) (i : ℕ) (s u : State) (m n : Machine)
    → IsTyped x.home.tree x.function.locals b → local_temps x ≤ i → i < c.temps → IsDone x numbers spots (assigned_in b) c s m u n
    → value_in n.frame i ≡ value_in m.frame i
stays x numbers spots b c i s u m n typed low high done = done.temps i high (λ k there e.
    let l = known x b typed k there in
    omega (arith, low, temp_below x k i l.0 l.1 e))

-- ---- an operation on two numbers

-- in either order
on-two :
    (turned : Bool) (k : BinKind) (x : Activation) (numbers : Numbers) (spots : List Spot) (p q a b j : ℕ) (d : Code) (u : State) (n : Machine)
    → IsReady x numbers spots d u n
    → ContainsCode (graph_of x) (if turned then fresh (λ t. op.Bin k t q p) d else fresh (λ t. op.Bin k t p q) d).code
    → value_in n.frame p ≡ V.Num a → value_in n.frame q ≡ V.Num b
    → (if turned then flow.on_numbers k b a else flow.on_numbers k a b) ≡ Some (V.Num j)
    → Reaches (graphs x.world) n (HasValue x numbers spots [] (if turned then fresh (λ t. op.Bin k t q p) d else fresh (λ t. op.Bin k t p q) d) d u n (Some (V.Num j)) u)
unfolding command
on-two true k x numbers spots p q a b j d u n ready holds first second gives =
    fresh-reaches x numbers spots [] d u n (λ t. op.Bin k t q p) (V.Num j) (V.Num j) holds ready refl
    (λ rest. ap (λ (v : Option Value). run.gives d.temps v (record n { frame = record n.frame { ops = rest } })) (ap₂ (λ (v w : Value). flow.binary n.objects k v w) second first ∙ gives))
on-two false k x numbers spots p q a b j d u n ready holds first second gives =
    fresh-reaches x numbers spots [] d u n (λ t. op.Bin k t p q) (V.Num j) (V.Num j) holds ready refl
    (λ rest. ap (λ (v : Option Value). run.gives d.temps v (record n { frame = record n.frame { ops = rest } })) (ap₂ (λ (v w : Value). flow.binary n.objects k v w) first second ∙ gives))

-- on two numbers, every operator is an operation on numbers
plain : (o : BinaryOperator) (s : Bool) (p q : ℕ) (d : Code) → sum_or o s None None p q d ≡ on_numbers o s p q d
plain B.Add s p q d = refl
plain B.Subtract s p q d = refl
plain B.Multiply s p q d = refl
plain B.Divide s p q d = refl
plain B.Remainder s p q d = refl
plain B.ShiftLeft s p q d = refl
plain B.ShiftRight s p q d = refl
plain B.Less s p q d = refl
plain B.Greater s p q d = refl
plain B.LessEqual s p q d = refl
plain B.GreaterEqual s p q d = refl
plain B.Equal s p q d = refl
plain B.NotEqual s p q d = refl
plain B.And s p q d = refl
plain B.ExclusiveOr s p q d = refl
plain B.Or s p q d = refl

-- what the code of a binary operator contains
before-either : (x : Activation) (v : Bool) (f g : ℕ → Op) (d : Code) → ContainsCode (graph_of x) (if v then fresh f d else fresh g d).code → ContainsCode (graph_of x) d
before-either x true f g d w = before-fresh (graph_of x) f d w
before-either x false f g d w = before-fresh (graph_of x) g d w

before-two : (x : Activation) (o : BinaryOperator) (s : Bool) (p q : ℕ) (d : Code) → ContainsCode (graph_of x) (sum_or o s None None p q d).code → ContainsCode (graph_of x) d
before-two x o s p q d w =
    before-either x (is_turned o) (λ t. op.Bin (operation_of o s) t q p) (λ t. op.Bin (operation_of o s) t p q) d
    (subst (λ (z : Lowered). ContainsCode (graph_of x) z.code) (plain o s p q d) w)

two-reach :
    (x : Activation) (numbers : Numbers) (spots : List Spot) (o : BinaryOperator) (s : Bool) (p q a b j : ℕ) (d : Code) (u : State) (n : Machine)
    → IsReady x numbers spots d u n → ContainsCode (graph_of x) (sum_or o s None None p q d).code
    → value_in n.frame p ≡ V.Num a → value_in n.frame q ≡ V.Num b → operated o s a b ≡ Some (V.Num j)
    → Reaches (graphs x.world) n (HasValue x numbers spots [] (sum_or o s None None p q d) d u n (Some (V.Num j)) u)
two-reach x numbers spots o s p q a b j d u n ready holds first second gives =
    subst (λ (z : Lowered). Reaches (graphs x.world) n (HasValue x numbers spots [] z d u n (Some (V.Num j)) u)) (sym (plain o s p q d))
    (on-two (is_turned o) (operation_of o s) x numbers spots p q a b j d u n ready
    (subst (λ (z : Lowered). ContainsCode (graph_of x) z.code) (plain o s p q d) holds) first second gives)

-- ---- by the types and the values

abbrev AreInts : CType → CType → Type 0
AreInts (Int j) (Int k) = Unit {0}
AreInts left right = ⊥

-- what is known behind both operands: the first one's value still stands
record BothStand (x : Activation) (numbers : Numbers) (spots : List Spot) (p q : ℕ) (d : Code) (v w : Value) (u : State) (n : Machine) : Type 0 where
  ready : IsReady x numbers spots d u n
  first : Stands spots v (value_in n.frame p)
  second : Stands spots w (value_in n.frame q)

applies :
    (bound : ℕ) (x : Activation) (numbers : Numbers) (spots : List Spot) (at : Site) (records : List RecordValue) (o : BinaryOperator) (left right : CType) (p q : ℕ) (d : Code) (v w : Value) (u : State) (n : Machine)
    → AreInts left right → IsValueOf left v → IsValueOf right w → BothStand x numbers spots p q d v w u n
    → ContainsCode (graph_of x) (combined records o left right p q d).code
    → Meets x.world bound n ((source.binary at records o left right v w >>= λ result. give (Some result)) u) (HasValue x numbers spots [] (combined records o left right p q d) d u n)
unfolding source.binary source.on_numbers outcome_of give stop wrong undefined ◌>>=◌ go_on
applies bound x numbers spots at records o (Int j) (Int k) p q d (V.Num a) (V.Num b) u n ints f g both holds = by_outcome (arithmetic o (is_signed_kind j) a b) refl
  where
    by_outcome : (r : Result ℕ WordFault) → arithmetic o (is_signed_kind j) a b ≡ r
        → Meets x.world bound n ((outcome_of at r >>= λ result. give (Some result)) u) (HasValue x numbers spots [] (combined records o (Int j) (Int k) p q d) d u n)
    by_outcome (Ok i) e =
        two-reach x numbers spots o (is_signed_kind j) p q a b i d u n both.ready holds both.first both.second
        (operators o (is_signed_kind j) a b i (number-word (Int j) a f) (number-word (Int k) b g) e)
    by_outcome (Err Overflow) e = shown-here x.world n u both.ready.related.matches.shows
    by_outcome (Err ZeroDivisor) e = shown-here x.world n u both.ready.related.matches.shows
    by_outcome (Err ShiftCount) e = shown-here x.world n u both.ready.related.matches.shows
applies bound x numbers spots at records o (Int j) (Int k) p q d v w u n ints f g both holds = tt
applies bound x numbers spots at records o left right p q d v w u n ints f g both holds = absurd ints

-- ---- the form

contained : (x : Activation) (records : List RecordValue) (o : BinaryOperator) (left right : CType) → AreInts left right → (p q : ℕ) (d : Code)
    → ContainsCode (graph_of x) (combined records o left right p q d).code → ContainsCode (graph_of x) d
contained x records o (Int j) (Int k) ints p q d w = before-two x o (is_signed_kind j) p q d w
contained x records o left right ints p q d w = absurd ints

int-not-void : (a : Expression) (k : IntKind) → type_in a ≡ Int k → type_in a ≢ Void
unfolding is_not_void
int-not-void a k e = named-type (type_in a) (Int k) e refl

are-ints : (left right : CType) (j k : IntKind) → left ≡ Int j → right ≡ Int k → AreInts left right
are-ints left right j k e f = subst (λ (ty : CType). AreInts ty right) (sym e) (subst (λ (ty : CType). AreInts (Int j) ty) (sym f) tt)

pub binary-keeps : (bound t : ℕ) (ty : QType) (o : BinaryOperator) (a b : Expression) (j k : IntKind) → CodeLaws → TypesHold bound
    → type_in a ≡ Int j → type_in b ≡ Int k → ExpressionKeeps bound a → ExpressionKeeps bound b → ExpressionKeeps bound (Node t ty (Binary o a b))
unfolding lower answer_of ◌>>=◌ IsTyped HasForm done-then
binary-keeps bound t ty o a b j k laws types left right first second = λ x numbers spots c s m active typed slots holds ready.
    let h = home_of x in
    let y = lower h a c in
    let z = lower h b y.code in
    let at = site (env_of x numbers) t in
    let slots-a : HaveSlots x (addressed_in a) = λ i e. slots i (Contains-append_left (addressed_in a) (addressed_in b) i e) in
    let slots-b : HaveSlots x (addressed_in b) = λ i e. slots i (Contains-append_right (addressed_in a) (addressed_in b) i e) in
    let new = results x a c typed.1.0 slots-a (int-not-void a j left) in
    let temp : temp_of y ≡ new.result = ap (λ (r : Option ℕ). unwrap_or r 0) new.is in
    let whole : ContainsCode (graph_of x) z.code = contained x h.records o (type_in a) (type_in b) (are-ints (type_in a) (type_in b) j k left right) (temp_of y) (temp_of z) z.code holds in
    meets-then x.world bound m ((answer_of a (calls x.world bound) (env_of x numbers) >>= used at) s) _
    (HasOperand x numbers spots a c s m) (HasResult x numbers spots (Node t ty (Binary o a b)) c s m)
    (operand bound x numbers spots a c s m at types active typed.1.0 ready.related.matches.bytes
    (first x numbers spots c s m active typed.1.0 slots-a (laws.contain (graph_of x) h b y.code whole) ready))
    (λ v u n q.
    let spots' = q.0.done.later.spots in
    let again = ready-then x numbers spots a c s u m n (Some v) laws ready q.0 in
    meets-then x.world bound n ((answer_of b (calls x.world bound) (env_of x numbers) >>= used at) u) _
    (HasOperand x numbers spots' b y.code u n) (HasResult x numbers spots (Node t ty (Binary o a b)) c s m)
    (operand bound x numbers spots' b y.code u n at types active typed.1.1 q.0.done.later.related.matches.bytes
    (second x numbers spots' y.code u n active typed.1.1 slots-b whole again))
    (λ w u' n' q'.
    let kept : value_in n'.frame (temp_of y) ≡ value_in n.frame (temp_of y) =
    stays x numbers spots' b y.code (temp_of y) u u' n n' typed.1.1 (omega (arith, temp, new.since, ready.temps)) (omega (arith, temp, new.given)) q'.0.done in
    let later = q'.0.done.later.spots in
    meets-less x.world bound n' _ (HasValue x numbers later [] (combined h.records o (type_in a) (type_in b) (temp_of y) (temp_of z) z.code) z.code u' n')
    (HasResult x numbers spots (Node t ty (Binary o a b)) c s m)
    (applies bound x numbers later at h.records o (type_in a) (type_in b) (temp_of y) (temp_of z) z.code v w u' n' (are-ints (type_in a) (type_in b) j k left right) q.1 q'.1
    (record {
      ready = ready-then x numbers spots' b y.code u u' n n' (Some w) laws again q'.0;
      first = subst (λ (g : Value). Stands later v g) (sym kept)
          (stands-later spots' later v (value_in n.frame (temp_of y)) q'.0.done.later.lasts.more (operand-stands spots' v y.temp n q.0.stands));
      second = operand-stands later w z.temp n' q'.0.stands;
    }) holds)
    (λ result u'' n'' e. record {
      done = done-then x numbers spots (assigned_in a) (assigned_in b) (assigned_in a ++ assigned_in b) c y.code s u u'' m n n'' ready.related (laws.later h a c).temps
          (λ i g. Contains-append_left (assigned_in a) (assigned_in b) i g) (λ i g. Contains-append_right (assigned_in a) (assigned_in b) i g) q.0.done
          (done-then x numbers spots' (assigned_in b) [] (assigned_in b) y.code z.code u u' u'' n n' n'' q.0.done.later.related (laws.later h b y.code).temps
          (λ i g. g) (λ i g. absurd (omega (arith, g.1))) q'.0.done e.done);
      behind = e.behind;
      stands = e.stands;
    })))
