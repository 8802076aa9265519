-- The rules of operators: each keeps the state, and makes a good operand of good ones.
use Rattle.std.specs.Prelude.{ℕ, ◌≡◌, ◌||◌, ◌⊎◌, if◌then◌else◌, Bool, true, false, Option, None, Some, List, [], ◌∷◌, refl}
use Rattle.std.proofs.Common.{sym, ◌∙◌, inl, inr}
use Rattle.pw_tree.specs.declared.operator.BinaryOperator.{BinaryOperator}
use Rattle.pw_tree.specs.declared.operator.BinaryOperator.TheVariants as O
use Rattle.pw_tree.specs.declared.operator.AssignOperator.{AssignOperator}
use Rattle.pw_tree.specs.declared.operator.AssignOperator.TheVariants as A
use Rattle.pw_tree.specs.declared.operator.UnaryOperator.TheVariants as P
use Rattle.pw_tree.specs.Trees.{Word}
use Rattle.pw_types.specs.declared.kind.IntKind.TheVariants as K
use Rattle.pw_types.specs.declared.tree.StepOperator.{StepOperator}
use Rattle.pw_types.specs.declared.tree.LogicOperator.{LogicOperator}
use Rattle.pw_types.specs.declared.tree.LogicOperator.TheVariants as L
use Rattle.pw_types.specs.declared.tree.UnaryOperator.TheVariants as U
use Rattle.pw_types.specs.TypeTrees.{CType, Pointer, QType, type_of, MemberValue, RecordValue}
use Rattle.pw_types.specs.TypedTrees.{Expression, Node, Form, LocalValue, ModuleValue, type_at}
use Rattle.pw_types.specs.TypedTrees as T
use Rattle.pw_check_walk.specs.Causes.{DeclaredMember}
use Rattle.pw_check_walk.specs.Walks.{bind, granted}
use Rattle.pw_check_rules.specs.Kinds.{is_integral, is_pointer, points_to_object, unqualified}
use Rattle.pw_check_rules.specs.Limits.{Spot}
use Rattle.pw_check_rules.specs.Operands.{Operand, value_operand}
use Rattle.pw_types.specs.WellTyped.{type_in}
use Rattle.pw_check_rules.specs.Operators.{value_rule, sign_rule, deref, deref_rule, address_rule, step_rule, size_rule, type_size_rule, cast_rule, binary_rule, logic_rule, operation_rule, conditional_rule, assign_rule, compound_rule, compound_operator, assignment_rule, index_rule, both_integral, pointer_and_number, arithmetic_node, sum_node, call_rule, member_of, member_operand, select_rule, dot_rule, arrow_rule}
use Rattle.pw_check_rules.specs.States.{State, records_in}
use Rattle.pw_types.specs.declared.tree.BinaryOperator.TheVariants as B
use Rattle.pw_law_checked.specs.Lawful.{IsLawful, IsLawfulType, AreWords, Denotes}
use Rattle.pw_law_checked.proofs.Walking.{truth}
use Rattle.pw_law_checked.proofs.States.{GoodOperand, Fine, FineValue, Runs, grows_same}
use Rattle.pw_law_checked.proofs.Types.{no, left, one_of, lawful_later}
use Rattle.pw_law_checked.proofs.Conversions.{value_words, value_good, cast_words}
use Rattle.pw_law_checked.proofs.Nodes.{not_good, promoted_good, deref_good, add_good, binary_good, logic_good, comma_good, choice_good}
use Rattle.pw_law_checked.proofs.Places.{number_good, address_good, step_good, cast_good, assign_good, compound_good, member_good}
use Rattle.pw_law_checked.proofs.Calls.{AllGood, call_good}

pub value_runs : (s : State) (a : Operand) → IsLawful s → Fine s a → Runs s (value_rule a s) FineValue
unfolding value_rule bind
value_runs s a l f = λ met. (l, grows_same s, λ m locals d w. value_good m locals a (f m locals d (value_words a w)))

-- ---- unary operators

pub plus_runs : (s : State) (t : ℕ) (e : Expression) → IsLawful s → FineValue s e → Runs s (sign_rule t P.Plus e s) Fine
unfolding sign_rule bind
plus_runs s t e l f = λ met. (l, grows_same s, λ m locals d w. promoted_good m locals t U.Plus e (f m locals d (cast_words _ e w)) (truth _ met.0) (λ ty p. (p, refl)))

pub minus_runs : (s : State) (t : ℕ) (e : Expression) → IsLawful s → FineValue s e → Runs s (sign_rule t P.Minus e s) Fine
unfolding sign_rule bind
minus_runs s t e l f = λ met. (l, grows_same s, λ m locals d w. promoted_good m locals t U.Minus e (f m locals d (cast_words _ e w)) (truth _ met.0) (λ ty p. (p, refl)))

pub complement_runs : (s : State) (t : ℕ) (e : Expression) → IsLawful s → FineValue s e → Runs s (sign_rule t P.Complement e s) Fine
unfolding sign_rule bind
complement_runs s t e l f = λ met. (l, grows_same s, λ m locals d w. promoted_good m locals t U.Complement e (f m locals d (cast_words _ e w)) (truth _ met.0) (λ ty p. (p, refl)))

pub not_runs : (s : State) (t : ℕ) (e : Expression) → IsLawful s → FineValue s e → Runs s (sign_rule t P.Not e s) Fine
unfolding sign_rule bind
not_runs s t e l f = λ met. (l, grows_same s, λ m locals d w. not_good m locals t e (f m locals d w) (truth _ met.0))

pub deref_runs : (s : State) (t : ℕ) (e : Expression) → IsLawful s → FineValue s e → Runs s (deref_rule t e s) Fine
unfolding deref_rule bind
deref_runs s t e l f = λ met. (l, grows_same s, λ m locals d w. let v = f m locals d w in deref_good m locals t e v.typed v.lawful (truth _ met.0))

pub address_runs : (s : State) (t : ℕ) (a : Operand) → IsLawful s → Fine s a → Runs s (address_rule t a s) Fine
unfolding address_rule bind
address_runs s t a l f = λ met. (l, grows_same s, λ m locals d w. address_good m locals t a (f m locals d w) (truth _ met.0))

pub step_runs : (s : State) (t : ℕ) (op : StepOperator) (a : Operand) → IsLawful s → Fine s a → Runs s (step_rule t op a s) Fine
unfolding step_rule bind
step_runs s t op a l f = λ met.
    (l, grows_same s, λ m locals d w. step_good (records_in s) m locals t op a d.records (f m locals d w) (truth _ met.0) (truth _ met.1.0))

-- ---- sizes: numbers, which need no names

abbrev pub Whole : Operand → Type 0
Whole a = (m : ModuleValue) (locals : List LocalValue) → AreWords a.node → GoodOperand m locals a

pub size_runs : (s : State) (t : ℕ) (a : Operand) → IsLawful s → Runs s (size_rule t a s) Fine
unfolding size_rule bind
size_runs s t a l = λ met. (l, grows_same s, λ m locals d w. number_good m locals t K.UInt _ refl w)

pub type_size_runs : (s : State) (t : ℕ) (spot : Spot) (q : QType) → IsLawful s → Runs s (type_size_rule t spot q s) (λ u a. Whole a)
unfolding type_size_rule bind
type_size_runs s t spot q l = λ met. (l, grows_same s, λ m locals w. number_good m locals t K.UInt _ refl w)

pub cast_runs : (s : State) (t : ℕ) (q : QType) (e : Expression) → IsLawful s → IsLawfulType s.types.records (type_of q) → FineValue s e → Runs s (cast_rule t q e s) Fine
unfolding cast_rule bind
cast_runs s t q e l lawful f = λ met. (
  l,
  grows_same s,
  λ m locals d w.
      cast_good m locals t q e (f m locals d w) (lawful_later s.types.records m.records d.records (type_of q) lawful) (truth _ met.0) (truth _ met.1.0),
)

-- ---- binary operators

pub binary_runs : (s : State) (t : ℕ) (op : BinaryOperator) (a b : Expression) → IsLawful s → FineValue s a → FineValue s b → Runs s (binary_rule t op a b s) Fine
unfolding binary_rule bind
binary_runs s t op a b l f g = λ met.
    (l, grows_same s, λ m locals d w. binary_good (records_in s) m locals t op a b d.records (f m locals d) (g m locals d) (truth _ met.0) w)

pub logic_runs : (s : State) (t : ℕ) (op : LogicOperator) (a b : Expression) → IsLawful s → FineValue s a → FineValue s b → Runs s (logic_rule t op a b s) Fine
unfolding logic_rule bind
logic_runs s t op a b l f g = λ met.
    (l, grows_same s, λ m locals d w. logic_good m locals t op a b (f m locals d w.0) (g m locals d w.1) (truth _ met.0))

pub operation_runs : (s : State) (t : ℕ) (op : BinaryOperator) (a b : Expression) → IsLawful s → FineValue s a → FineValue s b → Runs s (operation_rule t op a b s) Fine
unfolding operation_rule
operation_runs s t O.And a b l f g = logic_runs s t L.And a b l f g
operation_runs s t O.Or a b l f g = logic_runs s t L.Or a b l f g
operation_runs s t O.Comma a b l f g = (l, grows_same s, λ m locals d w. comma_good m locals t a b (f m locals d w.0) (g m locals d w.1))
operation_runs s t op a b l f g = binary_runs s t op a b l f g

pub conditional_runs : (s : State) (t : ℕ) (c a b : Expression) → IsLawful s → FineValue s c → FineValue s a → FineValue s b → Runs s (conditional_rule t c a b s) Fine
unfolding conditional_rule bind
conditional_runs s t c a b l h f g = λ met.
    (l, grows_same s, λ m locals d w. choice_good m locals t c a b (h m locals d w.0) (f m locals d) (g m locals d) (truth _ met.0) w.1 w.2)

-- ---- assignments

assign_runs : (s : State) (t : ℕ) (a : Operand) (b : Expression) → IsLawful s → Fine s a → FineValue s b → Runs s (assign_rule t a b s) Fine
unfolding assign_rule bind
assign_runs s t a b l f g = λ met. (
  l,
  grows_same s,
  λ m locals d w.
      assign_good (records_in s) m locals t a b d.records (f m locals d w.0) (g m locals d (cast_words _ b w.1)) (truth _ met.0) (truth _ met.1.0),
)

compound_runs : (s : State) (t : ℕ) (op : AssignOperator) (a : Operand) (b : Expression) → IsLawful s → Fine s a → FineValue s b → Runs s (compound_rule t (compound_operator op) a b s) Fine
unfolding compound_rule bind
compound_runs s t op a b l f g = λ met.
    (l, grows_same s, λ m locals d w. compound_good (records_in s) m locals t op a b d.records (f m locals d) (g m locals d) (truth _ met.0) (truth _ met.1.0) w)

pub assignment_runs : (s : State) (t : ℕ) (op : AssignOperator) (a : Operand) (b : Expression) → IsLawful s → Fine s a → FineValue s b → Runs s (assignment_rule t op a b s) Fine
unfolding assignment_rule
assignment_runs s t A.Plain a b l f g = assign_runs s t a b l f g
assignment_runs s t op a b l f g = compound_runs s t op a b l f g

-- ---- postfixes

pointer_of : (r : List RecordValue) (ty : CType) → points_to_object r ty ≡ true → is_pointer ty ≡ true
pointer_of r (Pointer q) e = refl
pointer_of r _ e = no e

sum_pointer : (r : List RecordValue) (t : ℕ) (a b : Expression) → (pointer_and_number r a b || pointer_and_number r b a) ≡ true
    → is_pointer (type_in (sum_node t B.Add a b)) ≡ true
sum_pointer r t a b e = by (is_pointer (type_in a)) refl (is_pointer (type_in b)) refl (one_of (pointer_and_number r a b) (pointer_and_number r b a) e)
  where
    by : (x : Bool) → is_pointer (type_in a) ≡ x → (y : Bool) → is_pointer (type_in b) ≡ y
        → (pointer_and_number r a b ≡ true) ⊎ (pointer_and_number r b a ≡ true)
        → is_pointer (type_in (if x then Node t (unqualified (type_at a)) (T.Binary B.Add a b) else if y then Node t (unqualified (type_at b)) (T.Binary B.Add a b) else arithmetic_node t B.Add a b)) ≡ true
    by true h y k c = h
    by false h true k c = k
    by false h false k (inl c) = no (sym h ∙ pointer_of r (type_in a) (left (points_to_object r (type_in a)) (is_integral (type_in b)) c))
    by false h false k (inr c) = no (sym k ∙ pointer_of r (type_in b) (left (points_to_object r (type_in b)) (is_integral (type_in a)) c))

behind_first : (x y z : Bool) → (y || z) ≡ true → (x || y || z) ≡ true
behind_first true y z e = refl
behind_first false y z e = e

pub index_runs : (s : State) (t : ℕ) (a b : Expression) → IsLawful s → FineValue s a → FineValue s b → Runs s (index_rule t a b s) Fine
unfolding index_rule bind
index_runs s t a b l f g = λ met. (l, grows_same s, λ m locals d w. index_good m locals d w (truth _ met.0))
  where
    index_good : (m : ModuleValue) (locals : List LocalValue) → Denotes s m locals → AreWords (sum_node t B.Add a b)
        → (pointer_and_number (records_in s) a b || pointer_and_number (records_in s) b a) ≡ true → GoodOperand m locals (deref t (sum_node t B.Add a b))
    index_good m locals d w e =
        let sum : GoodOperand m locals (value_operand (sum_node t B.Add a b)) =
        add_good (records_in s) m locals t a b d.records (f m locals d) (g m locals d)
        (behind_first (both_integral a b) (pointer_and_number (records_in s) a b) (pointer_and_number (records_in s) b a) e) w in
        deref_good m locals t (sum_node t B.Add a b) sum.typed sum.lawful (sum_pointer (records_in s) t a b e)

abbrev pub AreFine : State → List Expression → Type 0
AreFine s [] = Unit {0}
AreFine s (e ∷ es) = FineValue s e × AreFine s es

pub all_good : (s : State) (m : ModuleValue) (locals : List LocalValue) → Denotes s m locals → (es : List Expression) → AreFine s es → AllGood m locals es
all_good s m locals d [] f = tt
all_good s m locals d (e ∷ es) f = (f.0 m locals d, all_good s m locals d es f.1)

pub call_runs : (s : State) (t : ℕ) (e : Expression) (es : List Expression) → IsLawful s → FineValue s e → AreFine s es → Runs s (call_rule t e es s) Fine
unfolding call_rule bind
call_runs s t e es l f fs = λ met. (
  l,
  grows_same s,
  λ m locals d w.
      call_good m locals t e es (f m locals d) (all_good s m locals d es fs) (truth _ met.0) (truth _ met.1.0) (truth _ met.1.1.0) w,
)

pub select_runs : (s : State) (t : ℕ) (w : Word) (a : Operand) → IsLawful s → Fine s a → Runs s (select_rule t w a s) Fine
unfolding select_rule bind
select_runs s t w a l f = by_member (member_of (records_in s) (type_in a.node) w.text) refl
  where
    by_member : (o : Option (MemberValue × ℕ)) → member_of (records_in s) (type_in a.node) w.text ≡ o
        → Runs s (bind (granted DeclaredMember w.token [] o s) (λ r. Rattle.pw_check_walk.specs.Walks.Done (member_operand t a r.0, r.1))) Fine
    by_member None same = λ met. tt
    by_member (Some x) same = λ met. (
      l,
      grows_same s,
      λ m locals d words.
          member_good (records_in s) m locals t w.text a x d.records l.contents same (f m locals d words),
    )

pub dot_runs : (s : State) (t : ℕ) (w : Word) (a : Operand) → IsLawful s → Fine s a → Runs s (dot_rule t w a s) Fine
unfolding dot_rule bind
dot_runs s t w a l f = λ met. select_runs s t w a l f

pub arrow_runs : (s : State) (t : ℕ) (w : Word) (e : Expression) → IsLawful s → FineValue s e → Runs s (arrow_rule t w e s) Fine
unfolding arrow_rule bind
arrow_runs s t w e l f = λ met.
    select_runs s t w (deref t e) l (λ m locals d words. let v = f m locals d words in deref_good m locals t e v.typed v.lawful (left _ _ (truth _ met.0)))
