-- The symbols of which addresses are made: each that stands in an accepted expression is known.
use Rattle.std.specs.Prelude.{ℕ, ◌≡◌, ◌+◌, ◌-◌, ◌*◌, ◌^◌, ◌&&◌, nat_le, Bool, true, false, Option, None, Some, option_and_then, List, [], length, slice_get, if◌then◌else◌, refl}
use Rattle.std.specs.Option.{option_map_or}
use Rattle.std.proofs.Common.{arith, ap, sym, subst, ◌∙◌}
use Rattle.std.proofs.lemmas.Bool.{eqb-true, eq-eqb, le-leb, leb-true}
use Rattle.pw_check_literals.specs.Characters.{string_bytes_of}
use Rattle.pw_tree.specs.declared.operator.Access.TheVariants.{Dot, Arrow}
use Rattle.pw_tree.specs.declared.operator.AssignOperator.{AssignOperator}
use Rattle.pw_tree.specs.declared.operator.AssignOperator.TheVariants as A
use Rattle.pw_tree.specs.declared.operator.BinaryOperator.{BinaryOperator}
use Rattle.pw_tree.specs.declared.operator.BinaryOperator.TheVariants as O
use Rattle.pw_tree.specs.declared.operator.StepOperator.TheVariants as J
use Rattle.pw_tree.specs.declared.operator.UnaryOperator.{UnaryOperator}
use Rattle.pw_tree.specs.declared.operator.UnaryOperator.TheVariants as P
use Rattle.pw_tree.specs.Trees.{Word, Expr, Postfixes, Operations, Specifiers, Declarator}
use Rattle.pw_tree.specs.Trees as S
use Rattle.pw_types.specs.declared.kind.IntKind.TheVariants as K
use Rattle.pw_types.specs.declared.tree.BinaryOperator.{BinaryOperator as TypedOperator}
use Rattle.pw_types.specs.declared.tree.BinaryOperator.TheVariants as B
use Rattle.pw_types.specs.declared.tree.StepOperator.{StepOperator}
use Rattle.pw_types.specs.declared.tree.StepOperator.TheVariants as Q
use Rattle.pw_types.specs.TypeTrees.{CType, Void, Int, Pointer, Array, Function, Record, QType, Qualified, type_of, MemberValue, RecordValue}
use Rattle.pw_types.specs.TypedTrees.{Symbol, External, Internal, Hidden, Expression, Node, Form}
use Rattle.pw_types.specs.TypedTrees as T
use Rattle.pw_types.specs.Layouts.{size_of}
use Rattle.pw_check_walk.specs.Causes.{DeclaredIdentifier, DeclaredMember}
use Rattle.pw_check_walk.specs.Walks.{Walk, Done, bind, granted}
use Rattle.pw_types.specs.Conversions.{is_signed_kind}
use Rattle.pw_value.specs.Words.{is_negative}
use Rattle.pw_types.specs.declared.kind.IntKind.{IntKind}
use Rattle.pw_check_rules.specs.Constants.{Place, Asked, AsAddress, AsPlace, constant_value, is_within, within, moved_on, moved_back, moved, moved_against, step_of, moved_by, place_of}
use Rattle.pw_check_rules.specs.Kinds.{plain, unqualified, kind_in, int_type, is_function, is_pointer, same_type}
use Rattle.pw_check_rules.specs.Leaves.{entity_operand, identifier_rule, number_rule, character_rule, string_rule, string_point, string_type, texts_of, bytes_at_start, lvalue_operand, first_of_declaration}
use Rattle.pw_check_rules.specs.Derivations.{spot_of}
use Rattle.pw_check_rules.specs.Limits.{Spot}
use Rattle.pw_check_rules.specs.Linkage.{symbol_at, symbol_of_linked}
use Rattle.pw_check_rules.specs.Operands.{Operand, value_operand, cast_to, promoted_type, common_type, value_by, value_of}
use Rattle.pw_types.specs.WellTyped.{type_in}
use Rattle.pw_check_rules.specs.Operators.{value_rule, unary_node, sign_rule, deref, deref_rule, address_rule, step_rule, size_rule, type_size_rule, cast_rule, binary_node, sum_node, difference_node, shift_node, comparison_node, arithmetic_node, in_common, both_integral, typed_binary, met_type, binary_rule, logic_rule, operation_rule, conditional_rule, assign_rule, compound_node, compound_operator, compound_rule, assignment_rule, index_rule, call_node, call_rule, member_of, member_operand, select_rule, dot_rule, arrow_rule}
use Rattle.pw_check_rules.specs.Phrases.{expr_rule, postfixes_rule, operations_rule}
use Rattle.pw_check_rules.specs.SpecifierLists.{nothing_gathered}
use Rattle.pw_check_rules.specs.States.{State, LinkedName, HiddenObject, Entity, TypeName, EnumerationConstant, LocalObject, StaticObject, Linked, entry_of, entity_of, entity_at, Rule, add_hidden, records_in, uncounted}
use Rattle.pw_check_rules.specs.declared.names.Entry.{Entry}
use Rattle.pw_check_rules.specs.declared.names.Slot.{Slot}
use Rattle.pw_law_checked.specs.Lawful.{IsLawful}
use Rattle.pw_law_checked.specs.Leading.{IsInside}
use Rattle.pw_law_checked.proofs.Walking.{Post, post_bind, post_both, post_granted, after_any}
use Rattle.pw_law_checked.proofs.Lists.{some_same, never_some, get_last}
use Rattle.pw_law_checked.proofs.Types.{no}
use Rattle.pw_law_checked.proofs.States.{Fine, FineValue, value_later, Runs, Grows, grows_trans}
use Rattle.pw_law_checked.proofs.Sound.{Sound}
use Rattle.pw_law_checked.proofs.Composite.{Covers, covers_same}
use Rattle.pw_law_checked.proofs.Settled.{IsHere, start_within}
use Rattle.pw_law_checked.proofs.Operations.{value_runs, step_runs, operation_runs, index_runs, AreFine, call_runs, dot_runs, arrow_runs}
use Rattle.pw_law_checked.proofs.Leaves.{GoodType, GoodGathered, GoodSpecified, GoodDeclared, specified_runs, named_type_runs}
use Rattle.pw_law_checked.proofs.Phrases.{expr_post, specifiers_post, declarator_post, arguments_post, later_type}
use Rattle.pw_law_checked.proofs.Changes.{in_sizeof}

-- in the forms of which addresses are made
abbrev mutual
  pub HasHere : State → Expression → Type 0
  HasHere s (Node t y form) = IsHereIn s y form

  pub IsHereIn : State → QType → Form → Type 0
  IsHereIn s y (T.Str k) = IsHere s (Hidden k) y
  IsHereIn s y (T.Global symbol) = IsHere s symbol y
  IsHereIn s y (T.Function symbol) = IsHere s symbol y
  IsHereIn s y (T.Binary op a b) = HasHere s a × HasHere s b
  IsHereIn s y (T.Cast a) = HasHere s a
  IsHereIn s y (T.Decay a) = HasHere s a
  IsHereIn s y (T.Member a offset) = HasHere s a
  IsHereIn s y (T.Deref a) = HasHere s a
  IsHereIn s y (T.Address a) = HasHere s a
  IsHereIn s y (T.Number n) = Unit {0}
  IsHereIn s y (T.Local k) = Unit {0}
  IsHereIn s y (T.Unary op a) = Unit {0}
  IsHereIn s y (T.Logic op a b) = Unit {0}
  IsHereIn s y (T.Cond c a b) = Unit {0}
  IsHereIn s y (T.Comma a b) = Unit {0}
  IsHereIn s y (T.Assign a b) = Unit {0}
  IsHereIn s y (T.Compound op working a b) = Unit {0}
  IsHereIn s y (T.Step op a) = Unit {0}
  IsHereIn s y (T.Call symbol args) = Unit {0}
  IsHereIn s y (T.CallValue a args) = Unit {0}

-- ---- it stays so

pub symbol_later : {s t : State} → Grows s t → (symbol : Symbol) (q : QType) → IsHere s symbol q → IsHere t symbol q
symbol_later g (Hidden k) q h = (h.0, g.hidden k h.0 h.1, h.2)
symbol_later g (External name) q h = (h.0, h.1, ap (λ xs. slice_get xs h.0) g.linked ∙ h.2, h.3, h.4)
symbol_later g (Internal name) q h = (h.0, h.1, ap (λ xs. slice_get xs h.0) g.linked ∙ h.2, h.3, h.4)

mutual
  pub here_later : (s t : State) → Grows s t → (e : Expression) → HasHere s e → HasHere t e
  here_later s t g (Node n y form) h = form_later s t g y form h

  form_later : (s t : State) → Grows s t → (y : QType) (form : Form) → IsHereIn s y form → IsHereIn t y form
  form_later s t g y (T.Str k) h = symbol_later {s = s} {t = t} g (Hidden k) y h
  form_later s t g y (T.Global symbol) h = symbol_later {s = s} {t = t} g symbol y h
  form_later s t g y (T.Function symbol) h = symbol_later {s = s} {t = t} g symbol y h
  form_later s t g y (T.Binary op a b) h = (here_later s t g a h.0, here_later s t g b h.1)
  form_later s t g y (T.Cast a) h = here_later s t g a h
  form_later s t g y (T.Decay a) h = here_later s t g a h
  form_later s t g y (T.Member a offset) h = here_later s t g a h
  form_later s t g y (T.Deref a) h = here_later s t g a h
  form_later s t g y (T.Address a) h = here_later s t g a h
  form_later s t g y (T.Number n) h = tt
  form_later s t g y (T.Local k) h = tt
  form_later s t g y (T.Unary op a) h = tt
  form_later s t g y (T.Logic op a b) h = tt
  form_later s t g y (T.Cond c a b) h = tt
  form_later s t g y (T.Comma a b) h = tt
  form_later s t g y (T.Assign a b) h = tt
  form_later s t g y (T.Compound op working a b) h = tt
  form_later s t g y (T.Step op a) h = tt
  form_later s t g y (T.Call symbol args) h = tt
  form_later s t g y (T.CallValue a args) h = tt

-- ---- nodes

pub cast_here : (s : State) (ty : CType) (e : Expression) → HasHere s e → HasHere s (cast_to ty e)
cast_here s ty e h = by (same_type ty (type_in e))
  where
    by : (b : Bool) → HasHere s (if b then e else Node (T.token_of e) (plain ty) (T.Cast e))
    by true = h
    by false = h

pub value_here : (s : State) (a : Operand) → HasHere s a.node → HasHere s (value_of a)
value_here s a h = by (type_in a.node) a.lvalue
  where
    by : (ty : CType) (b : Bool) → HasHere s (value_by ty b a.node)
    by (Array q n) true = h
    by (Array q n) false = h
    by (Function q ps) b = h
    by Void b = h
    by (Int k) b = h
    by (Pointer q) b = h
    by (Record n) b = h

arithmetic_here : (s : State) (t : ℕ) (op : TypedOperator) (a b : Expression) → HasHere s a → HasHere s b → HasHere s (arithmetic_node t op a b)
arithmetic_here s t op a b h k = (cast_here s (common_type a b) a h, cast_here s (common_type a b) b k)

pub sum_here : (s : State) (t : ℕ) (op : TypedOperator) (a b : Expression) → HasHere s a → HasHere s b → HasHere s (sum_node t op a b)
sum_here s t op a b h k = by (is_pointer (type_in a)) (is_pointer (type_in b))
  where
    by : (x y : Bool) → HasHere s (if x then Node t (unqualified (T.type_at a)) (T.Binary op a b) else if y then Node t (unqualified (T.type_at b)) (T.Binary op a b) else arithmetic_node t op a b)
    by true y = (h, k)
    by false true = (h, k)
    by false false = arithmetic_here s t op a b h k

difference_here : (s : State) (t : ℕ) (op : TypedOperator) (a b : Expression) → HasHere s a → HasHere s b → HasHere s (difference_node t op a b)
difference_here s t op a b h k = by (is_pointer (type_in a) && is_pointer (type_in b))
  where
    by : (x : Bool) → HasHere s (if x then Node t int_type (T.Binary op a b) else sum_node t op a b)
    by true = (h, k)
    by false = sum_here s t op a b h k

comparison_here : (s : State) (t : ℕ) (op : TypedOperator) (a b : Expression) → HasHere s a → HasHere s b → HasHere s (comparison_node t op a b)
comparison_here s t op a b h k = by (both_integral a b)
  where
    by : (x : Bool) → HasHere s (if x then in_common t (Int K.Int) op a b else Node t int_type (T.Binary op (cast_to (met_type a b) a) (cast_to (met_type a b) b)))
    by true = arithmetic_here s t op a b h k
    by false = (cast_here s (met_type a b) a h, cast_here s (met_type a b) b k)

shift_here : (s : State) (t : ℕ) (op : TypedOperator) (a b : Expression) → HasHere s a → HasHere s b → HasHere s (shift_node t op a b)
shift_here s t op a b h k = (cast_here s (promoted_type (type_in a)) a h, cast_here s (promoted_type (type_in b)) b k)

pub binary_here : (s : State) (t : ℕ) (op : BinaryOperator) (a b : Expression) → HasHere s a → HasHere s b → HasHere s (binary_node t op a b)
binary_here s t O.Add a b h k = sum_here s t B.Add a b h k
binary_here s t O.Subtract a b h k = difference_here s t B.Subtract a b h k
binary_here s t O.LeftShift a b h k = shift_here s t B.ShiftLeft a b h k
binary_here s t O.RightShift a b h k = shift_here s t B.ShiftRight a b h k
binary_here s t O.Less a b h k = comparison_here s t B.Less a b h k
binary_here s t O.Greater a b h k = comparison_here s t B.Greater a b h k
binary_here s t O.LessEqual a b h k = comparison_here s t B.LessEqual a b h k
binary_here s t O.GreaterEqual a b h k = comparison_here s t B.GreaterEqual a b h k
binary_here s t O.Equal a b h k = comparison_here s t B.Equal a b h k
binary_here s t O.NotEqual a b h k = comparison_here s t B.NotEqual a b h k
binary_here s t op a b h k = arithmetic_here s t (typed_binary op) a b h k

-- ---- names

entity_there : (s : State) (name : List ℕ) (x : Entity) → entity_of s name ≡ Some x → (k : ℕ) × (slice_get s.scopes.entities k ≡ Some x)
entity_there s name x e = by (entry_of s name) e
  where
    by : (o : Option Entry) → option_and_then (entity_at s) o ≡ Some x → (k : ℕ) × (slice_get s.scopes.entities k ≡ Some x)
    by None f = never_some f
    by (Some y) f = (y.place, f)

symbol_here : (s : State) (n : ℕ) (l : LinkedName) (q : QType) → slice_get s.types.linked n ≡ Some l → Covers l.ty q → IsHere s (symbol_of_linked l) q
symbol_here s n l q at covers = by l.internal refl
  where
    by : (b : Bool) → l.internal ≡ b → IsHere s (if b then Internal l.name else External l.name) q
    by true e = (n, l, at, ap (λ b. if b then Internal l.name else External l.name) e, covers)
    by false e = (n, l, at, ap (λ b. if b then Internal l.name else External l.name) e, covers)

pub entity_here_so : (s : State) (t : ℕ) (name : List ℕ) (x : Entity) (a : Operand) (pending : Option Slot) → Sound pending s → entity_of s name ≡ Some x → entity_operand s t x ≡ Some a → HasHere s a.node
entity_here_so s t name (TypeName q) a pending sound e f = never_some f
entity_here_so s t name (EnumerationConstant n) a pending sound e f = subst (λ (o : Operand). HasHere s o.node) (some_same f) tt
entity_here_so s t name (LocalObject k q register) a pending sound e f = subst (λ (o : Operand). HasHere s o.node) (some_same f) tt
entity_here_so s t name (StaticObject k q) a pending sound e f =
    let at = entity_there s name (StaticObject k q) e in
    let b = sound.backed at.0 (StaticObject k q) at.1 in
    subst (λ (o : Operand). HasHere s o.node) (some_same f) (b.0, b.1, b.2)
entity_here_so s t name (Linked n q) a pending sound e f =
    let at = entity_there s name (Linked n q) e in
    let b = sound.backed at.0 (Linked n q) at.1 in
    subst (λ (o : Operand). HasHere s o.node) (some_same f) (by (is_function (type_of q))
    (subst (λ (x : Symbol). IsHere s x q) (sym (ap (λ o. option_map_or symbol_of_linked o (External [])) b.1)) (symbol_here s n b.0 q b.1 b.2)))
  where
    by : (x : Bool) → IsHere s (symbol_at s n) q
        → HasHere s (if x then value_operand (Node t q (T.Function (symbol_at s n))) else lvalue_operand false (Node t q (T.Global (symbol_at s n)))).node
    by true h = h
    by false h = h

-- ---- rules

-- a lawful state whose parts agree, in no operand of `sizeof`
pub record IsCounted (s : State) : Type 0 where
  pub lawful : IsLawful s
  pub pending : Option Slot
  pub sound : Sound pending s
  pub counting : s.made.counting ≡ true

pub counted_later : {s t : State} → IsLawful t → Grows s t → IsCounted s → IsCounted t
counted_later {s} {t} l g c = record { lawful = l; pending = c.pending; sound = g.sound c.pending c.sound; counting = g.counting ∙ c.counting }

abbrev pub IsHereAt : Operand × State → Type 0
IsHereAt r = HasHere r.1 r.0.node

-- with what the induction on types says
abbrev pub Whole : State → Operand × State → Type 0
Whole s r = (IsLawful r.1 × Grows s r.1 × Fine r.1 r.0) × HasHere r.1 r.0.node

abbrev pub WholeValue : State → Expression × State → Type 0
WholeValue s r = (IsLawful r.1 × Grows s r.1 × FineValue r.1 r.0) × HasHere r.1 r.0

pub whole : (s : State) (w : Walk (Operand × State)) → Runs s w Fine → Post w IsHereAt → Post w (Whole s)
whole s w h k = post_both w (λ r. IsLawful r.1 × Grows s r.1 × Fine r.1 r.0) IsHereAt h k

value_rule_here : (s : State) (a : Operand) → HasHere s a.node → Post (value_rule a s) (λ r. HasHere r.1 r.0)
unfolding value_rule bind
value_rule_here s a h = λ met. value_here s a h

pub value_whole : (s : State) (a : Operand) → IsLawful s → Fine s a → HasHere s a.node → Post (value_rule a s) (WholeValue s)
value_whole s a l f h = post_both (value_rule a s) (λ r. IsLawful r.1 × Grows s r.1 × FineValue r.1 r.0) (λ r. HasHere r.1 r.0) (value_runs s a l f) (value_rule_here s a h)

valued_here : (s : State) (w : Walk (Operand × State)) (next : Expression × State → Walk (Operand × State)) → Post w (Whole s)
    → ((r : Expression × State) → IsLawful r.1 → Grows s r.1 → FineValue r.1 r.0 → HasHere r.1 r.0 → Post (next r) IsHereAt)
    → Post (bind w (λ t. bind (value_rule t.0 t.1) next)) IsHereAt
valued_here s w next h k =
    post_bind w (λ t. bind (value_rule t.0 t.1) next) (Whole s) IsHereAt h (λ r g.
    post_bind (value_rule r.0 r.1) next (WholeValue r.1) IsHereAt (value_whole r.1 r.0 g.0.0 g.0.2 g.1) (λ u f. k u f.0.0 (grows_trans g.0.1 f.0.1) f.0.2 f.1))

identifier_here : (s : State) (w : Word) (pending : Option Slot) → Sound pending s → Post (identifier_rule w s) IsHereAt
unfolding identifier_rule bind
identifier_here s w pending sound =
    post_granted DeclaredIdentifier w.token [] (option_and_then (entity_operand s w.token) (entity_of s w.text)) s IsHereAt
    (λ a e met. by (entity_of s w.text) refl a e)
  where
    by : (o : Option Entity) → entity_of s w.text ≡ o → (a : Operand) → option_and_then (entity_operand s w.token) o ≡ Some a → HasHere s a.node
    by None e a f = never_some f
    by (Some x) e a f = entity_here_so s w.token w.text x a pending sound e f

number_here : (s : State) (w : Word) → Post (number_rule w s) IsHereAt
unfolding number_rule bind
number_here s w = λ met. tt

character_here : (s : State) (w : Word) → Post (character_rule w s) IsHereAt
unfolding character_rule bind
character_here s w = λ met. tt

string_here : (s : State) (ws : List Word) → s.made.counting ≡ true → Post (string_rule ws s) IsHereAt
unfolding string_rule string_point bind
string_here s ws c = λ met. by s.made.counting c
  where
    object : HiddenObject
    object = record { ty = string_type (string_bytes_of (texts_of ws)); writable = false; items = bytes_at_start (string_bytes_of (texts_of ws)) }

    by : (b : Bool) → b ≡ true
        → HasHere (if b then add_hidden (record { ty = string_type (string_bytes_of (texts_of ws)); writable = false; items = bytes_at_start (string_bytes_of (texts_of ws)) }) s else s)
        (Node (Rattle.pw_tree.specs.FirstTokens.first_of_words ws) (string_type (string_bytes_of (texts_of ws))) (T.Str (length s.made.hidden)))
    by true e = (object, get_last s.made.hidden object, covers_same object.ty)
    by false e = no e

sign_here : (s : State) (t : ℕ) (op : UnaryOperator) (e : Expression) → Post (sign_rule t op e s) IsHereAt
unfolding sign_rule bind
sign_here s t op e = λ met. by op
  where
    by : (o : UnaryOperator) → HasHere s (unary_node t o e)
    by P.Not = tt
    by _ = tt

deref_here : (s : State) (t : ℕ) (e : Expression) → HasHere s e → Post (deref_rule t e s) IsHereAt
unfolding deref_rule bind
deref_here s t e h = λ met. h

address_here : (s : State) (t : ℕ) (a : Operand) → HasHere s a.node → Post (address_rule t a s) IsHereAt
unfolding address_rule bind
address_here s t a h = λ met. h

step_here : (s : State) (t : ℕ) (op : StepOperator) (a : Operand) → Post (step_rule t op a s) IsHereAt
unfolding step_rule bind
step_here s t op a = λ met. tt

size_here : (s : State) (t : ℕ) (a : Operand) → Post (size_rule t a s) IsHereAt
unfolding size_rule bind
size_here s t a = λ met. tt

cast_rule_here : (s : State) (t : ℕ) (q : QType) (e : Expression) → HasHere s e → Post (cast_rule t q e s) IsHereAt
unfolding cast_rule bind
cast_rule_here s t q e h = λ met. h

operation_here : (s : State) (t : ℕ) (op : BinaryOperator) (a b : Expression) → HasHere s a → HasHere s b → Post (operation_rule t op a b s) IsHereAt
unfolding operation_rule logic_rule binary_rule bind
operation_here s t O.And a b h k = λ met. tt
operation_here s t O.Or a b h k = λ met. tt
operation_here s t O.Comma a b h k = tt
operation_here s t op a b h k = λ met. binary_here s t op a b h k

conditional_here : (s : State) (t : ℕ) (c a b : Expression) → Post (conditional_rule t c a b s) IsHereAt
unfolding conditional_rule bind
conditional_here s t c a b = λ met. tt

compound_here : (s : State) (t : ℕ) (op : BinaryOperator) (a b : Expression) → HasHere s (compound_node t op a b)
compound_here s t O.LeftShift a b = tt
compound_here s t O.RightShift a b = tt
compound_here s t op a b = by (is_pointer (type_in a))
  where
    by : (x : Bool) → HasHere s (if x then Node t (unqualified (T.type_at a)) (T.Compound (typed_binary op) (type_in a) a b) else Node t (unqualified (T.type_at a)) (T.Compound (typed_binary op) (common_type a b) a (cast_to (common_type a b) b)))
    by true = tt
    by false = tt

assignment_here : (s : State) (t : ℕ) (op : AssignOperator) (a : Operand) (b : Expression) → Post (assignment_rule t op a b s) IsHereAt
unfolding assignment_rule assign_rule compound_rule bind
assignment_here s t A.Plain a b = λ met. tt
assignment_here s t op a b = λ met. compound_here s t (compound_operator op) a.node b

index_here : (s : State) (t : ℕ) (a b : Expression) → HasHere s a → HasHere s b → Post (index_rule t a b s) IsHereAt
unfolding index_rule bind
index_here s t a b h k = λ met. sum_here s t B.Add a b h k

select_here : (s : State) (t : ℕ) (w : Word) (a : Operand) → HasHere s a.node → Post (select_rule t w a s) IsHereAt
unfolding select_rule bind
select_here s t w a h = by (member_of (records_in s) (type_in a.node) w.text)
  where
    by : (o : Option (MemberValue × ℕ)) → Post (bind (granted DeclaredMember w.token [] o s) (λ r. Done (member_operand t a r.0, r.1))) IsHereAt
    by None = λ met. tt
    by (Some x) = λ met. h

dot_here : (s : State) (t : ℕ) (w : Word) (a : Operand) → HasHere s a.node → Post (dot_rule t w a s) IsHereAt
unfolding dot_rule bind
dot_here s t w a h = λ met. select_here s t w a h

arrow_here : (s : State) (t : ℕ) (w : Word) (e : Expression) → HasHere s e → Post (arrow_rule t w e s) IsHereAt
unfolding arrow_rule bind
arrow_here s t w e h = λ met. select_here s t w (deref t e) h

-- a call by name or through a pointer
call_here : (s : State) (t : ℕ) (e : Expression) (es : List Expression) → Post (call_rule t e es s) IsHereAt
unfolding call_rule bind
call_here s t e es = λ met. by e
  where
    by : (x : Expression) → HasHere s (call_node t x es)
    by (Node u q (T.Decay (Node w p (T.Function symbol)))) = tt
    by _ = tt

-- a number, which has no symbol
abbrev IsHereAnywhere : Operand × State → Type 0
IsHereAnywhere r = (u : State) → HasHere u r.0.node

sized_here : (s : State) (t : ℕ) (spot : Spot) (q : QType) → Post (type_size_rule t spot q s) IsHereAnywhere
unfolding type_size_rule bind
sized_here s t spot q = λ met u. tt

uncounted_here : (s : State) (inside : Rule Operand) → Post (inside (in_sizeof s)) IsHereAnywhere → Post (uncounted inside s) IsHereAt
unfolding uncounted bind
uncounted_here s inside h = post_bind (inside (in_sizeof s)) _ IsHereAnywhere IsHereAt h (λ r k. k _)

-- ---- expressions

mutual
  unfolding expr_rule

  pub expr_here : (e : Expr) (s : State) → IsCounted s → Post (expr_rule e s) IsHereAt
  expr_here (S.Identifier w) s c = identifier_here s w c.pending c.sound
  expr_here (S.Number w) s c = number_here s w
  expr_here (S.Floating w) s c = tt
  expr_here (S.Character w) s c = character_here s w
  expr_here (S.Wide w) s c = tt
  expr_here (S.Strings ws) s c = string_here s ws c.counting
  expr_here (S.Paren t e) s c = expr_here e s c
  expr_here (S.Postfix e rest) s c =
      post_bind _ _ (Whole s) IsHereAt (whole s (expr_rule e s) (expr_post e s c.lawful) (expr_here e s c)) (λ r g. postfixes_here rest r.0 r.1 (counted_later {s = s} {t = r.1} g.0.0 g.0.1 c) g.0.2 g.1)
  expr_here (S.Unary t P.Sizeof e) s c = after_any _ _ IsHereAt (λ r. size_here r.1 t r.0)
  expr_here (S.Unary t P.Address e) s c = post_bind _ _ IsHereAt IsHereAt (expr_here e s c) (λ r g. address_here r.1 t r.0 g)
  expr_here (S.Unary t P.Increment e) s c = after_any _ _ IsHereAt (λ r. step_here r.1 t Q.IncrementBefore r.0)
  expr_here (S.Unary t P.Decrement e) s c = after_any _ _ IsHereAt (λ r. step_here r.1 t Q.DecrementBefore r.0)
  expr_here (S.Unary t P.Dereference e) s c = valued_here s _ _ (whole s (expr_rule e s) (expr_post e s c.lawful) (expr_here e s c)) (λ r m g f h. deref_here r.1 t r.0 h)
  expr_here (S.Unary t P.Plus e) s c = after_any _ _ IsHereAt (λ r. after_any _ _ IsHereAt (λ u. sign_here u.1 t P.Plus u.0))
  expr_here (S.Unary t P.Minus e) s c = after_any _ _ IsHereAt (λ r. after_any _ _ IsHereAt (λ u. sign_here u.1 t P.Minus u.0))
  expr_here (S.Unary t P.Complement e) s c = after_any _ _ IsHereAt (λ r. after_any _ _ IsHereAt (λ u. sign_here u.1 t P.Complement u.0))
  expr_here (S.Unary t P.Not e) s c = after_any _ _ IsHereAt (λ r. after_any _ _ IsHereAt (λ u. sign_here u.1 t P.Not u.0))
  expr_here (S.SizeofType t specifiers d) s c =
      uncounted_here s _ (after_any _ _ IsHereAnywhere (λ r1. after_any _ _ IsHereAnywhere (λ r2. after_any _ _ IsHereAnywhere (λ r3. after_any _ _ IsHereAnywhere (λ r4.
      sized_here r4.1 t (spot_of None r2.0.first r2.0.tag) r4.0)))))
  expr_here (S.Cast t specifiers d e) s c =
      post_bind _ _ (λ r. IsLawful r.1 × Grows s r.1 × GoodGathered r.1 r.0) IsHereAt (specifiers_post specifiers (first_of_declaration specifiers d) nothing_gathered s c.lawful tt) (λ r1 g1.
      post_bind _ _ (λ r. IsLawful r.1 × Grows r1.1 r.1 × GoodSpecified r.1 r.0) IsHereAt (specified_runs r1.1 (first_of_declaration specifiers d) r1.0 g1.0 g1.2) (λ r2 g2.
      post_bind _ _ (λ r. IsLawful r.1 × Grows r2.1 r.1 × GoodDeclared r.1 r.0) IsHereAt (declarator_post d r2.1 g2.0) (λ r3 g3.
      post_bind _ _ (λ r. IsLawful r.1 × Grows r3.1 r.1 × GoodType r.1 r.0) IsHereAt (named_type_runs r3.1 r2.0 r3.0 g3.0 (later_type r2.0.ty g3.1 g2.2) g3.2) (λ r4 g4.
      let d4 : IsCounted r4.1 = counted_later {s = s} {t = r4.1} g4.0 (grows_trans g1.1 (grows_trans g2.1 (grows_trans g3.1 g4.1))) c in
      valued_here r4.1 _ _ (whole r4.1 (expr_rule e r4.1) (expr_post e r4.1 d4.lawful) (expr_here e r4.1 d4)) (λ r m g f h. cast_rule_here r.1 t r4.0 r.0 h)))))
  expr_here (S.Chain e rest) s c =
      post_bind _ _ (Whole s) IsHereAt (whole s (expr_rule e s) (expr_post e s c.lawful) (expr_here e s c)) (λ r g. operations_here rest r.0 r.1 (counted_later {s = s} {t = r.1} g.0.0 g.0.1 c) g.0.2 g.1)
  expr_here (S.Conditional t x a b) s c =
      after_any _ _ IsHereAt (λ r1. after_any _ _ IsHereAt (λ r2. after_any _ _ IsHereAt (λ r3. after_any _ _ IsHereAt (λ r4. after_any _ _ IsHereAt (λ r5. after_any _ _ IsHereAt (λ r6.
      conditional_here r6.1 t r2.0 r4.0 r6.0))))))
  expr_here (S.Assign t op a b) s c =
      after_any _ _ IsHereAt (λ r1. after_any _ _ IsHereAt (λ r2. after_any _ _ IsHereAt (λ r3. assignment_here r3.1 t op r1.0 r3.0)))

  postfixes_here : (rest : Postfixes) (a : Operand) (s : State) → IsCounted s → Fine s a → HasHere s a.node → Post (postfixes_rule rest a s) IsHereAt
  postfixes_here S.NoPostfix a s c f h = h
  postfixes_here (S.Index t e rest) a s c f h =
      post_bind _ _ (WholeValue s) IsHereAt (value_whole s a c.lawful f h) (λ r1 g1.
      let c1 : IsCounted r1.1 = counted_later {s = s} {t = r1.1} g1.0.0 g1.0.1 c in
      valued_here r1.1 _ _ (whole r1.1 (expr_rule e r1.1) (expr_post e r1.1 c1.lawful) (expr_here e r1.1 c1)) (λ r2 m2 g2 f2 h2.
      post_bind _ _ (Whole r2.1) IsHereAt
      (whole r2.1 (index_rule t r1.0 r2.0 r2.1) (index_runs r2.1 t r1.0 r2.0 m2 (value_later {s = r1.1} {t = r2.1} {e = r1.0} g2 g1.0.2) f2) (index_here r2.1 t r1.0 r2.0 (here_later r1.1 r2.1 g2 r1.0 g1.1) h2)) (λ r3 g3.
      postfixes_here rest r3.0 r3.1 (counted_later {s = r1.1} {t = r3.1} g3.0.0 (grows_trans g2 g3.0.1) c1) g3.0.2 g3.1)))
  postfixes_here (S.Call t args rest) a s c f h =
      post_bind _ _ (WholeValue s) IsHereAt (value_whole s a c.lawful f h) (λ r1 g1.
      post_bind _ _ (λ r. IsLawful r.1 × Grows r1.1 r.1 × AreFine r.1 r.0) IsHereAt (arguments_post args r1.1 g1.0.0) (λ r2 g2.
      post_bind _ _ (Whole r2.1) IsHereAt
      (whole r2.1 (call_rule t r1.0 r2.0 r2.1) (call_runs r2.1 t r1.0 r2.0 g2.0 (value_later {s = r1.1} {t = r2.1} {e = r1.0} g2.1 g1.0.2) g2.2) (call_here r2.1 t r1.0 r2.0)) (λ r3 g3.
      postfixes_here rest r3.0 r3.1 (counted_later {s = s} {t = r3.1} g3.0.0 (grows_trans g1.0.1 (grows_trans g2.1 g3.0.1)) c) g3.0.2 g3.1)))
  postfixes_here (S.Select t Dot w rest) a s c f h =
      post_bind _ _ (Whole s) IsHereAt (whole s (dot_rule t w a s) (dot_runs s t w a c.lawful f) (dot_here s t w a h)) (λ r g.
      postfixes_here rest r.0 r.1 (counted_later {s = s} {t = r.1} g.0.0 g.0.1 c) g.0.2 g.1)
  postfixes_here (S.Select t Arrow w rest) a s c f h =
      post_bind _ _ (WholeValue s) IsHereAt (value_whole s a c.lawful f h) (λ r1 g1.
      post_bind _ _ (Whole r1.1) IsHereAt (whole r1.1 (arrow_rule t w r1.0 r1.1) (arrow_runs r1.1 t w r1.0 g1.0.0 g1.0.2) (arrow_here r1.1 t w r1.0 g1.1)) (λ r g.
      postfixes_here rest r.0 r.1 (counted_later {s = s} {t = r.1} g.0.0 (grows_trans g1.0.1 g.0.1) c) g.0.2 g.1))
  postfixes_here (S.Step t J.Increment rest) a s c f h =
      post_bind _ _ (Whole s) IsHereAt (whole s (step_rule t Q.IncrementBehind a s) (step_runs s t Q.IncrementBehind a c.lawful f) (step_here s t Q.IncrementBehind a)) (λ r g.
      postfixes_here rest r.0 r.1 (counted_later {s = s} {t = r.1} g.0.0 g.0.1 c) g.0.2 g.1)
  postfixes_here (S.Step t J.Decrement rest) a s c f h =
      post_bind _ _ (Whole s) IsHereAt (whole s (step_rule t Q.DecrementBehind a s) (step_runs s t Q.DecrementBehind a c.lawful f) (step_here s t Q.DecrementBehind a)) (λ r g.
      postfixes_here rest r.0 r.1 (counted_later {s = s} {t = r.1} g.0.0 g.0.1 c) g.0.2 g.1)

  operations_here : (rest : Operations) (a : Operand) (s : State) → IsCounted s → Fine s a → HasHere s a.node → Post (operations_rule rest a s) IsHereAt
  operations_here S.NoOperation a s c f h = h
  operations_here (S.Operation t op e rest) a s c f h =
      post_bind _ _ (WholeValue s) IsHereAt (value_whole s a c.lawful f h) (λ r1 g1.
      let c1 : IsCounted r1.1 = counted_later {s = s} {t = r1.1} g1.0.0 g1.0.1 c in
      valued_here r1.1 _ _ (whole r1.1 (expr_rule e r1.1) (expr_post e r1.1 c1.lawful) (expr_here e r1.1 c1)) (λ r2 m2 g2 f2 h2.
      post_bind _ _ (Whole r2.1) IsHereAt
      (whole r2.1 (operation_rule t op r1.0 r2.0 r2.1) (operation_runs r2.1 t op r1.0 r2.0 m2 (value_later {s = r1.1} {t = r2.1} {e = r1.0} g2 g1.0.2) f2)
      (operation_here r2.1 t op r1.0 r2.0 (here_later r1.1 r2.1 g2 r1.0 g1.1) h2)) (λ r3 g3.
      operations_here rest r3.0 r3.1 (counted_later {s = r1.1} {t = r3.1} g3.0.0 (grows_trans g2 g3.0.1) c1) g3.0.2 g3.1)))

-- ---- addresses

-- what is addressed is of a type whose size is the one that counts, where it counts, and the offset is inside
abbrev pub PlaceHere : State → List RecordValue → Place → Type 0
PlaceHere s r p = (q : QType) × IsHere s p.symbol q × ((n : ℕ) → is_within n p.size ≡ true → IsInside r q n) × (is_within p.offset p.size ≡ true)

within_place : (s : State) (r : List RecordValue) (n : ℕ) (q p : Place) → PlaceHere s r q → within (record q { offset = n }) ≡ Some p → PlaceHere s r p
within_place s r n q p h e = by (is_within n q.size) refl e
  where
    by : (b : Bool) → is_within n q.size ≡ b → (if b then Some (record q { offset = n }) else None) ≡ Some p → PlaceHere s r p
    by true i f = subst (PlaceHere s r) (some_same f) (h.0, h.1, h.2, i)
    by false i f = never_some f

less_within : (n bytes : ℕ) (o : Option ℕ) → is_within n o ≡ true → is_within (n - bytes) o ≡ true
less_within n bytes None h = eq-eqb (n - bytes) 0 (omega (arith, eqb-true n 0 h))
less_within n bytes (Some size) h = le-leb (n - bytes) size (omega (arith, leb-true n size h))

back_place : (s : State) (r : List RecordValue) (bytes : ℕ) (q p : Place) → PlaceHere s r q → moved_back bytes q ≡ Some p → PlaceHere s r p
back_place s r bytes q p h e = by (nat_le bytes q.offset) e
  where
    by : (b : Bool) → (if b then Some (record q { offset = q.offset - bytes }) else None) ≡ Some p → PlaceHere s r p
    by true f = subst (PlaceHere s r) (some_same f) (h.0, h.1, h.2, less_within q.offset bytes q.size h.3)
    by false f = never_some f

-- a move keeps to what is addressed
abbrev KeepsPlace : State → List RecordValue → (IntKind → ℕ → ℕ → Place → Option Place) → Type 0
KeepsPlace s r move = (kind : IntKind) (size n : ℕ) (q p : Place) → PlaceHere s r q → move kind size n q ≡ Some p → PlaceHere s r p

moved_place : (s : State) (r : List RecordValue) → KeepsPlace s r moved
moved_place s r kind size n q p h e = by (is_negative (is_signed_kind kind) n) e
  where
    by : (b : Bool) → (if b then moved_back (size * (2 ^ 32 - n)) q else moved_on (size * n) q) ≡ Some p → PlaceHere s r p
    by true f = back_place s r (size * (2 ^ 32 - n)) q p h f
    by false f = within_place s r (q.offset + size * n) q p h f

against_place : (s : State) (r : List RecordValue) → KeepsPlace s r moved_against
against_place s r kind size n q p h e = by (is_negative (is_signed_kind kind) n) e
  where
    by : (b : Bool) → (if b then moved_on (size * (2 ^ 32 - n)) q else moved_back (size * n) q) ≡ Some p → PlaceHere s r p
    by true f = within_place s r (q.offset + size * (2 ^ 32 - n)) q p h f
    by false f = back_place s r (size * n) q p h f

move_here : (s : State) (move : IntKind → ℕ → ℕ → Place → Option Place) (r : List RecordValue) → KeepsPlace s r move → (address number : Expression) (o : Option Place) (p : Place)
    → ((q : Place) → o ≡ Some q → PlaceHere s r q) → moved_by move r address number o ≡ Some p → PlaceHere s r p
move_here s move r keeps address number o p h e = by (constant_value number) o h e
  where
    by : (c : Option ℕ) (o : Option Place) → ((q : Place) → o ≡ Some q → PlaceHere s r q)
        → option_and_then (λ n. option_and_then (move (kind_in (type_in number)) (step_of r (type_in address)) n) o) c ≡ Some p → PlaceHere s r p
    by None o g f = never_some f
    by (Some n) None g f = never_some f
    by (Some n) (Some q) g f = keeps (kind_in (type_in number)) (step_of r (type_in address)) n q p (g q refl) f

-- nothing is added to a function's address
start_alone : (r : List RecordValue) (q : QType) (n : ℕ) → is_within n (Some 0) ≡ true → IsInside r q n
start_alone r q n h = let e : 0 ≡ n = omega (arith, leb-true n 0 h) in subst (IsInside r q) e (start_within (size_of r (type_of q)))

-- an address is of what is known, and leads inside
pub place_here : (s : State) (r : List RecordValue) (asked : Asked) (e : Expression) (p : Place) → HasHere s e → place_of r asked e ≡ Some p → PlaceHere s r p
unfolding place_of
place_here s r AsPlace (Node t ty (T.Global symbol)) p h e = subst (PlaceHere s r) (some_same e) (ty, h, λ n i. i, start_within (size_of r (type_of ty)))
place_here s r AsPlace (Node t ty (T.Function symbol)) p h e = subst (PlaceHere s r) (some_same e) (ty, h, start_alone r ty, refl)
place_here s r AsPlace (Node t ty (T.Str k)) p h e = subst (PlaceHere s r) (some_same e) (ty, h, λ n i. i, start_within (size_of r (type_of ty)))
place_here s r AsPlace (Node t ty (T.Member a offset)) p h e = by (place_of r AsPlace a) (λ q f. place_here s r AsPlace a q h f) e
  where
    by : (o : Option Place) → ((q : Place) → o ≡ Some q → PlaceHere s r q) → option_and_then (moved_on offset) o ≡ Some p → PlaceHere s r p
    by None g f = never_some f
    by (Some q) g f = within_place s r (q.offset + offset) q p (g q refl) f
place_here s r AsPlace (Node t ty (T.Deref a)) p h e = place_here s r AsAddress a p h e
place_here s r AsAddress (Node t ty (T.Decay a)) p h e = place_here s r AsPlace a p h e
place_here s r AsAddress (Node t ty (T.Address a)) p h e = place_here s r AsPlace a p h e
place_here s r AsAddress (Node t (Qualified (Pointer q) c v) (T.Cast a)) p h e = place_here s r AsAddress a p h e
place_here s r AsAddress (Node t (Qualified (Pointer q) c v) (T.Binary B.Add a b)) p h e =
    by (is_pointer (type_in a)) (λ x f. place_here s r AsAddress a x h.0 f) (λ x f. place_here s r AsAddress b x h.1 f) e
  where
    by : (z : Bool) → ((x : Place) → place_of r AsAddress a ≡ Some x → PlaceHere s r x) → ((x : Place) → place_of r AsAddress b ≡ Some x → PlaceHere s r x)
        → (if z then moved_by moved r a b (place_of r AsAddress a) else moved_by moved r b a (place_of r AsAddress b)) ≡ Some p → PlaceHere s r p
    by true g k f = move_here s moved r (moved_place s r) a b (place_of r AsAddress a) p g f
    by false g k f = move_here s moved r (moved_place s r) b a (place_of r AsAddress b) p k f
place_here s r AsAddress (Node t (Qualified (Pointer q) c v) (T.Binary B.Subtract a b)) p h e =
    move_here s moved_against r (against_place s r) a b (place_of r AsAddress a) p (λ x f. place_here s r AsAddress a x h.0 f) e
place_here s r _ _ p h e = never_some e
