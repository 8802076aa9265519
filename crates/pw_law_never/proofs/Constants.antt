-- A constant expression gives its value, and does nothing else (ISO C90 6.4).
use Rattle.std.proofs.Common.{ℕ, ◌≡◌, refl, sym, ap, subst, ◌∙◌, arith, Bool, true, false, not, Option, Some, Result, Ok, Err}
use Rattle.std.specs.Prelude.{◌==◌, if◌then◌else◌}
use Rattle.std.proofs.lemmas.Bool.{true≢false}
use Rattle.std.proofs.lemmas.Bool.Decides.{nat_tests}
use Rattle.pw_value.specs.declared.value.Value.{Value}
use Rattle.pw_value.specs.declared.value.Value.TheVariants as V
use Rattle.pw_value.specs.declared.words.WordFault.{WordFault}
use Rattle.pw_types.specs.TypeTrees.{CType, Void, Int, Pointer, Array, Function as FunctionType, Record, Qualified}
use Rattle.pw_check_rules.specs.Kinds.{kind_in}
use Rattle.pw_types.specs.Conversions.{is_signed_kind}
use Rattle.pw_types.specs.declared.kind.IntKind.{IntKind}
use Rattle.pw_types.specs.declared.tree.UnaryOperator.{UnaryOperator}
use Rattle.pw_types.specs.declared.tree.UnaryOperator.TheVariants.{Plus, Minus, Complement, Not}
use Rattle.pw_types.specs.declared.tree.BinaryOperator.{BinaryOperator}
use Rattle.pw_types.specs.declared.tree.BinaryOperator.TheVariants as O
use Rattle.pw_types.specs.declared.tree.LogicOperator.{LogicOperator}
use Rattle.pw_types.specs.declared.tree.LogicOperator.TheVariants as L
use Rattle.pw_types.specs.TypedTrees.{Expression, Node, Number, Str, Local, Global, Function, Unary, Binary, Logic, Cond, Comma, Assign, Compound, Step, Cast, Decay, Member, Deref, Address, Call, CallValue}
use Rattle.pw_types.specs.WellTyped as W
use Rattle.pw_types.specs.WellTyped.{type_in, IsTyped, HasForm}
use Rattle.pw_check_rules.specs.Constants.{Constancy, Known, NoConstant, NoValue, then_known, unevaluated, by_result, truth as word_of, convert_word, unary_word, either, binary_word, logic_word, choice_word, then_formed, if_integral, both_known, constant_of, is_zero, value_known, is_zero_constant}
use Rattle.pw_value.specs.Words.{complement, unsigned_negation}
use Rattle.pw_cmean.specs.Acts.{Act, State, Site, Gives, give, go_on, ◌>>=◌, branch, look, need, told, judge}
use Rattle.pw_cmean.specs.Access.{objects_now}
use Rattle.pw_cmean.specs.Operators.{number_for, truth, outcome_of, arithmetic, on_numbers, negation, unary_number, unary, binary, convert}
use Rattle.pw_cmean.specs.Evaluation.{Env, Calls as CallList, site, records_of, used, cast, decides, answer_of}

-- an act that gives a value and leaves the state as it was
abbrev pub JustGives : {A : Type 0} → Act A → A → Type 0
JustGives m a = (s : State) → m s ≡ Gives a s

after : {A B : Type 0} (m : Act A) (k : A → Act B) (a : A) (b : B) → JustGives m a → JustGives (k a) b → JustGives (m >>= k) b
unfolding ◌>>=◌ go_on
after m k a b h g = λ s. ap (λ o. go_on o k) (h s) ∙ g s

just : {A : Type 0} (a : A) → JustGives (give a) a
unfolding give
just a = λ s. refl

known-one : (n m : ℕ) → Known n ≡ Known m → n ≡ m
known-one n m e = cc

operand : (at : Site) (m : Act (Option Value)) (v : Value) → JustGives m (Some v) → JustGives (m >>= used at) v
unfolding used
operand at m v h = after m (used at) (Some v) v h (just v)

-- ---- operators on words

truth-of : (at : Site) (n : ℕ) → JustGives (truth at (V.Num n)) (not (n == 0))
unfolding truth objects_now look ◌>>=◌ go_on judge told give need
truth-of at n = λ s. refl

number_for-word : (b : Bool) → number_for b ≡ word_of b
number_for-word true = refl
number_for-word false = refl

result-ok : (r : Result ℕ WordFault) (n : ℕ) → by_result r ≡ Known n → r ≡ Ok n
result-ok (Ok m) n e = ap Ok (known-one m n e)
result-ok (Err f) n e = cc

either-ok : (s : Bool) (a b : Result ℕ WordFault) (n : ℕ) → either s a b ≡ Known n → (if s then a else b) ≡ Ok n
either-ok s a b n e = result-ok (if s then a else b) n e

decided-ok : (b : Bool) (n : ℕ) → Known (word_of b) ≡ Known n → ◌≡◌ {A = Result ℕ WordFault} (Ok (number_for b)) (Ok n)
decided-ok b n e = ap Ok (number_for-word b ∙ known-one (word_of b) n e)

arithmetic-ok : (op : BinaryOperator) (s : Bool) (a b n : ℕ) → binary_word op s a b ≡ Known n → arithmetic op s a b ≡ Ok n
arithmetic-ok O.Add true a b n e = result-ok _ n e
arithmetic-ok O.Add false a b n e = result-ok _ n e
arithmetic-ok O.Subtract true a b n e = result-ok _ n e
arithmetic-ok O.Subtract false a b n e = result-ok _ n e
arithmetic-ok O.Multiply true a b n e = result-ok _ n e
arithmetic-ok O.Multiply false a b n e = result-ok _ n e
arithmetic-ok O.Divide true a b n e = result-ok _ n e
arithmetic-ok O.Divide false a b n e = result-ok _ n e
arithmetic-ok O.Remainder true a b n e = result-ok _ n e
arithmetic-ok O.Remainder false a b n e = result-ok _ n e
arithmetic-ok O.ShiftLeft true a b n e = result-ok _ n e
arithmetic-ok O.ShiftLeft false a b n e = result-ok _ n e
arithmetic-ok O.ShiftRight true a b n e = result-ok _ n e
arithmetic-ok O.ShiftRight false a b n e = result-ok _ n e
arithmetic-ok O.Less true a b n e = decided-ok _ n e
arithmetic-ok O.Less false a b n e = decided-ok _ n e
arithmetic-ok O.Greater true a b n e = decided-ok _ n e
arithmetic-ok O.Greater false a b n e = decided-ok _ n e
arithmetic-ok O.LessEqual true a b n e = decided-ok _ n e
arithmetic-ok O.LessEqual false a b n e = decided-ok _ n e
arithmetic-ok O.GreaterEqual true a b n e = decided-ok _ n e
arithmetic-ok O.GreaterEqual false a b n e = decided-ok _ n e
arithmetic-ok O.Equal true a b n e = decided-ok _ n e
arithmetic-ok O.Equal false a b n e = decided-ok _ n e
arithmetic-ok O.NotEqual true a b n e = decided-ok _ n e
arithmetic-ok O.NotEqual false a b n e = decided-ok _ n e
arithmetic-ok O.And true a b n e = ap Ok (known-one _ n e)
arithmetic-ok O.And false a b n e = ap Ok (known-one _ n e)
arithmetic-ok O.ExclusiveOr true a b n e = ap Ok (known-one _ n e)
arithmetic-ok O.ExclusiveOr false a b n e = ap Ok (known-one _ n e)
arithmetic-ok O.Or true a b n e = ap Ok (known-one _ n e)
arithmetic-ok O.Or false a b n e = ap Ok (known-one _ n e)

outcome-ok : (at : Site) (r : Result ℕ WordFault) (n : ℕ) → r ≡ Ok n → JustGives (outcome_of at r) (V.Num n)
unfolding outcome_of
outcome-ok at r n e = subst (λ r. JustGives (outcome_of at r) (V.Num n)) (sym e) (just (V.Num n))

binary-gives : (e : Env) (at : Site) (op : BinaryOperator) (k l : IntKind) (a b n : ℕ) → binary_word op (is_signed_kind k) a b ≡ Known n
    → JustGives (binary at (records_of e) op (Int k) (Int l) (V.Num a) (V.Num b)) (V.Num n)
unfolding binary on_numbers
binary-gives e at op k l a b n h = outcome-ok at _ n (arithmetic-ok op (is_signed_kind k) a b n h)

minus-ok : (s : Bool) (a n : ℕ) → (if s then by_result (negation true a) else Known (unsigned_negation a)) ≡ Known n → negation s a ≡ Ok n
minus-ok true a n e = result-ok _ n e
minus-ok false a n e = ap Ok (known-one _ n e)

unary-gives : (at : Site) (op : UnaryOperator) (k : IntKind) (result : CType) (a n : ℕ) → W.FitsUnary op (Int k) result → unary_word op k a ≡ Known n
    → JustGives (unary at op result (V.Num a)) (V.Num n)
unfolding unary unary_number
unary-gives at Not k result a n h e =
    after (truth at (V.Num a)) _ (not (a == 0)) (V.Num n) (truth-of at a)
    (subst (λ m. JustGives (give (V.Num (number_for (not (not (a == 0)))))) (V.Num m)) (twice (a == 0) ∙ known-one _ n e) (just _))
  where
    twice : (b : Bool) → number_for (not (not b)) ≡ word_of b
    twice true = refl
    twice false = refl
unary-gives at Plus k result a n h e =
    subst (λ ty. JustGives (unary_number at Plus ty (V.Num a)) (V.Num n)) (sym h.1) (subst (λ m. JustGives (give (V.Num a)) (V.Num m)) (known-one a n e) (just (V.Num a)))
unary-gives at Minus k result a n h e =
    subst (λ ty. JustGives (unary_number at Minus ty (V.Num a)) (V.Num n)) (sym h.1) (outcome-ok at _ n (minus-ok (is_signed_kind k) a n e))
unary-gives at Complement k result a n h e =
    subst (λ ty. JustGives (unary_number at Complement ty (V.Num a)) (V.Num n)) (sym h.1) (subst (λ m. JustGives (give (V.Num (complement a))) (V.Num m)) (known-one _ n e) (just _))

-- ---- expressions

-- what is known of parts
known-then : (c : Constancy) (next : ℕ → Constancy) (n : ℕ) → then_known c next ≡ Known n → (m : ℕ) × (c ≡ Known m) × (next m ≡ Known n)
known-then (Known m) next n e = (m, refl, e)
known-then NoConstant next n e = cc
known-then NoValue next n e = cc

known-formed : (c d : Constancy) (n : ℕ) → then_formed c d ≡ Known n → d ≡ Known n
known-formed NoConstant d n e = cc
known-formed (Known m) d n e = e
known-formed NoValue d n e = e

known-both : (c d : Constancy) (next : ℕ → ℕ → Constancy) (n : ℕ) → both_known c d next ≡ Known n → (a : ℕ) × (b : ℕ) × (c ≡ Known a) × (d ≡ Known b) × (next a b ≡ Known n)
known-both (Known a) (Known b) next n e = (a, b, refl, refl, e)
known-both (Known a) NoConstant next n e = cc
known-both (Known a) NoValue next n e = cc
known-both NoConstant d next n e = cc
known-both NoValue (Known b) next n e = cc
known-both NoValue NoConstant next n e = cc
known-both NoValue NoValue next n e = cc

-- an integral type
known-integral : (ty : CType) (c : Constancy) (n : ℕ) → if_integral ty c ≡ Known n → (k : IntKind) × (ty ≡ Int k) × (c ≡ Known n)
known-integral (Int k) c n e = (k, refl, e)
known-integral Void c n e = cc
known-integral (Pointer q) c n e = cc
known-integral (Array q m) c n e = cc
known-integral (FunctionType q ps) c n e = cc
known-integral (Record m) c n e = cc

and-gives : (z : Bool) (c : Constancy) (m : ℕ) (second : Act (Option Value))
    → (if z then then_known (unevaluated c) (λ n. Known 0) else then_known c (λ n. Known (word_of (not (n == 0))))) ≡ Known m
    → ((y : ℕ) → c ≡ Known y → JustGives second (Some (V.Num (number_for (not (y == 0))))))
    → JustGives (branch (decides L.And (not z)) (give (Some (V.Num (number_for (not z))))) second) (Some (V.Num m))
unfolding branch
and-gives true c m second e g =
    subst (λ n. JustGives (give (Some (V.Num 0))) (Some (V.Num n))) (known-one 0 m (known-then (unevaluated c) (λ n. Known 0) m e).2) (just (Some (V.Num 0)))
and-gives false c m second e g =
    let p : (y : ℕ) × (c ≡ Known y) × (Known (word_of (not (y == 0))) ≡ Known m) = known-then c (λ n. Known (word_of (not (n == 0)))) m e in
    subst (λ n. JustGives second (Some (V.Num n))) (number_for-word (not (p.0 == 0)) ∙ known-one _ m p.2) (g p.0 p.1)

or-gives : (z : Bool) (c : Constancy) (m : ℕ) (second : Act (Option Value))
    → (if z then then_known c (λ n. Known (word_of (not (n == 0)))) else then_known (unevaluated c) (λ n. Known 1)) ≡ Known m
    → ((y : ℕ) → c ≡ Known y → JustGives second (Some (V.Num (number_for (not (y == 0))))))
    → JustGives (branch (decides L.Or (not z)) (give (Some (V.Num (number_for (not z))))) second) (Some (V.Num m))
unfolding branch
or-gives false c m second e g =
    subst (λ n. JustGives (give (Some (V.Num 1))) (Some (V.Num n))) (known-one 1 m (known-then (unevaluated c) (λ n. Known 1) m e).2) (just (Some (V.Num 1)))
or-gives true c m second e g =
    let p : (y : ℕ) × (c ≡ Known y) × (Known (word_of (not (y == 0))) ≡ Known m) = known-then c (λ n. Known (word_of (not (n == 0)))) m e in
    subst (λ n. JustGives second (Some (V.Num n))) (number_for-word (not (p.0 == 0)) ∙ known-one _ m p.2) (g p.0 p.1)

logic-gives : (op : LogicOperator) (x : ℕ) (c : Constancy) (m : ℕ) (second : Act (Option Value)) → logic_word op x c ≡ Known m
    → ((y : ℕ) → c ≡ Known y → JustGives second (Some (V.Num (number_for (not (y == 0))))))
    → JustGives (branch (decides op (not (x == 0))) (give (Some (V.Num (number_for (not (x == 0)))))) second) (Some (V.Num m))
logic-gives L.And x c m second e g = and-gives (x == 0) c m second e g
logic-gives L.Or x c m second e g = or-gives (x == 0) c m second e g

choice-gives : (z : Bool) (c d : Constancy) (m : ℕ) (first second : Act (Option Value))
    → (if z then then_known (unevaluated c) (λ n. d) else then_known (unevaluated d) (λ n. c)) ≡ Known m
    → (c ≡ Known m → JustGives first (Some (V.Num m))) → (d ≡ Known m → JustGives second (Some (V.Num m)))
    → JustGives (branch (not z) first second) (Some (V.Num m))
unfolding branch
choice-gives true c d m first second e g h = h (known-then (unevaluated c) (λ n. d) m e).2
choice-gives false c d m first second e g h = g (known-then (unevaluated d) (λ n. c) m e).2

cast-gives : (at : Site) (k : IntKind) (x m : ℕ) → Known (convert_word k x) ≡ Known m → JustGives (cast at (Int k) (Some (V.Num x))) (Some (V.Num m))
unfolding cast used convert judge told give ◌>>=◌ go_on
cast-gives at k x m e = λ s. ap (λ n. Gives (Some (V.Num n)) s) (known-one (convert_word k x) m e)

tested : (at : Site) (m : Act (Option Value)) (x : ℕ) → JustGives m (Some (V.Num x)) → JustGives (m >>= used at >>= truth at) (not (x == 0))
tested at m x h = after (m >>= used at) (truth at) (V.Num x) (not (x == 0)) (operand at m (V.Num x) h) (truth-of at x)

module _ (e : Env) (cs : CallList) where
  pub constant-gives : (a : Expression) (m : ℕ) → IsTyped e.home.tree e.locals a → constant_of a ≡ Known m → JustGives (answer_of a cs e) (Some (V.Num m))
  unfolding answer_of constant_of IsTyped HasForm
  constant-gives (Node t (Qualified (Int k) c v) (Number n)) m h known = subst (λ x. JustGives (give (Some (V.Num n))) (Some (V.Num x))) (known-one n m known) (just (Some (V.Num n)))
  constant-gives (Node t (Qualified (Int k) c v) (Unary op a)) m h known =
      let p : (x : ℕ) × (constant_of a ≡ Known x) × (if_integral (type_in a) (unary_word op (kind_in (type_in a)) x) ≡ Known m) = known-then (constant_of a) _ m known in
      let q : (l : IntKind) × (type_in a ≡ Int l) × (unary_word op (kind_in (type_in a)) p.0 ≡ Known m) = known-integral (type_in a) _ m p.2 in
      after _ _ (V.Num p.0) (Some (V.Num m)) (operand (site e t) (answer_of a cs e) (V.Num p.0) (constant-gives a p.0 h.1.0 p.1))
      (after _ _ (V.Num m) (Some (V.Num m))
      (unary-gives (site e t) op q.0 (Int k) p.0 m (subst (λ ty. W.FitsUnary op ty (Int k)) q.1 h.1.1) (subst (λ ty. unary_word op (kind_in ty) p.0 ≡ Known m) q.1 q.2))
      (just (Some (V.Num m))))
  constant-gives (Node t (Qualified (Int k) c v) (Binary op a b)) m h known =
      let p : (l : IntKind) × (type_in a ≡ Int l) × (if_integral (type_in b) (both_known (constant_of a) (constant_of b) (λ n m. binary_word op (is_signed_kind (kind_in (type_in a))) n m)) ≡ Known m) = known-integral (type_in a) _ m known in
      let q : (l : IntKind) × (type_in b ≡ Int l) × (both_known (constant_of a) (constant_of b) (λ n m. binary_word op (is_signed_kind (kind_in (type_in a))) n m) ≡ Known m) = known-integral (type_in b) _ m p.2 in
      let r : (x : ℕ) × (y : ℕ) × (constant_of a ≡ Known x) × (constant_of b ≡ Known y) × (binary_word op (is_signed_kind (kind_in (type_in a))) x y ≡ Known m) = known-both (constant_of a) (constant_of b) _ m q.2 in
      after _ _ (V.Num r.0) (Some (V.Num m)) (operand (site e t) (answer_of a cs e) (V.Num r.0) (constant-gives a r.0 h.1.0 r.2))
      (after _ _ (V.Num r.1) (Some (V.Num m)) (operand (site e t) (answer_of b cs e) (V.Num r.1) (constant-gives b r.1 h.1.1 r.3))
      (after _ _ (V.Num m) (Some (V.Num m))
      (subst (λ x. JustGives (binary (site e t) (records_of e) op x (type_in b) (V.Num r.0) (V.Num r.1)) (V.Num m)) (sym p.1)
      (subst (λ y. JustGives (binary (site e t) (records_of e) op (Int p.0) y (V.Num r.0) (V.Num r.1)) (V.Num m)) (sym q.1)
      (binary-gives e (site e t) op p.0 q.0 r.0 r.1 m (subst (λ ty. binary_word op (is_signed_kind (kind_in ty)) r.0 r.1 ≡ Known m) p.1 r.4))))
      (just (Some (V.Num m)))))
  constant-gives (Node t (Qualified (Int k) c v) (Logic op a b)) m h known =
      let p : (x : ℕ) × (constant_of a ≡ Known x) × (logic_word op x (constant_of b) ≡ Known m) = known-then (constant_of a) _ m (known-formed (constant_of b) _ m known) in
      after _ _ (not (p.0 == 0)) (Some (V.Num m)) (tested (site e t) (answer_of a cs e) p.0 (constant-gives a p.0 h.1.0 p.1))
      (logic-gives op p.0 (constant_of b) m _ p.2 λ y same.
      after _ _ (not (y == 0)) (Some (V.Num (number_for (not (y == 0))))) (tested (site e t) (answer_of b cs e) y (constant-gives b y h.1.1 same)) (just _))
  constant-gives (Node t (Qualified (Int k) c v) (Cond a b d)) m h known =
      let p : (x : ℕ) × (constant_of a ≡ Known x) × (choice_word x (constant_of b) (constant_of d) ≡ Known m) =
      known-then (constant_of a) _ m (known-formed (constant_of d) _ m (known-formed (constant_of b) _ m known)) in
      after _ _ (not (p.0 == 0)) (Some (V.Num m)) (tested (site e t) (answer_of a cs e) p.0 (constant-gives a p.0 h.1.0 p.1))
      (choice-gives (p.0 == 0) (constant_of b) (constant_of d) m _ _ p.2 (λ same. constant-gives b m h.1.1 same) (λ same. constant-gives d m h.1.2 same))
  constant-gives (Node t (Qualified (Int k) c v) (Cast a)) m h known =
      let q : (l : IntKind) × (type_in a ≡ Int l) × (then_known (constant_of a) (λ n. Known (convert_word k n)) ≡ Known m) = known-integral (type_in a) _ m known in
      let p : (x : ℕ) × (constant_of a ≡ Known x) × (Known (convert_word k x) ≡ Known m) = known-then (constant_of a) _ m q.2 in
      after _ _ (Some (V.Num p.0)) (Some (V.Num m)) (constant-gives a p.0 h.1.0 p.1) (cast-gives (site e t) k p.0 m p.2)
  constant-gives (Node t (Qualified (Int k) c v) (Str i)) m h known = cc
  constant-gives (Node t (Qualified (Int k) c v) (Local i)) m h known = cc
  constant-gives (Node t (Qualified (Int k) c v) (Global i)) m h known = cc
  constant-gives (Node t (Qualified (Int k) c v) (Function i)) m h known = cc
  constant-gives (Node t (Qualified (Int k) c v) (Comma a b)) m h known = cc
  constant-gives (Node t (Qualified (Int k) c v) (Assign a b)) m h known = cc
  constant-gives (Node t (Qualified (Int k) c v) (Compound op working a b)) m h known = cc
  constant-gives (Node t (Qualified (Int k) c v) (Step op a)) m h known = cc
  constant-gives (Node t (Qualified (Int k) c v) (Decay a)) m h known = cc
  constant-gives (Node t (Qualified (Int k) c v) (Member a i)) m h known = cc
  constant-gives (Node t (Qualified (Int k) c v) (Deref a)) m h known = cc
  constant-gives (Node t (Qualified (Int k) c v) (Address a)) m h known = cc
  constant-gives (Node t (Qualified (Int k) c v) (Call i args)) m h known = cc
  constant-gives (Node t (Qualified (Int k) c v) (CallValue a args)) m h known = cc
  constant-gives (Node t (Qualified Void c v) form) m h known = cc
  constant-gives (Node t (Qualified (Pointer q) c v) form) m h known = cc
  constant-gives (Node t (Qualified (Array q n) c v) form) m h known = cc
  constant-gives (Node t (Qualified (FunctionType q ps) c v) form) m h known = cc
  constant-gives (Node t (Qualified (Record n) c v) form) m h known = cc

zero-known : (c : Constancy) → is_zero (value_known c) ≡ true → c ≡ Known 0
zero-known (Known n) h = ap Known (zero-of n h)
  where
    zero-of : (n : ℕ) → (n == 0) ≡ true → n ≡ 0
    zero-of n h = grind (arith, nat_tests)
zero-known NoConstant h = absurd (true≢false (sym h))
zero-known NoValue h = absurd (true≢false (sym h))

-- the constant 0 gives 0
pub null-gives : (e : Env) (cs : CallList) (a : Expression) → IsTyped e.home.tree e.locals a → is_zero_constant a ≡ true → JustGives (answer_of a cs e) (Some (V.Num 0))
null-gives e cs a h z = constant-gives e cs a 0 h (zero-known (constant_of a) z)
