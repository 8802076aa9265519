-- Rules that only ask: they leave the state as it is.
use Rattle.std.specs.Prelude.{ℕ, ◌≡◌, Option, None, Some, List, [], ◌∷◌, refl}
use Rattle.std.proofs.Common.{◌∙◌}
use Rattle.pw_tree.specs.declared.operator.AssignOperator.{AssignOperator}
use Rattle.pw_tree.specs.declared.operator.AssignOperator.TheVariants as A
use Rattle.pw_tree.specs.declared.operator.BinaryOperator.{BinaryOperator}
use Rattle.pw_tree.specs.declared.operator.BinaryOperator.TheVariants as O
use Rattle.pw_tree.specs.declared.operator.UnaryOperator.{UnaryOperator}
use Rattle.pw_tree.specs.Trees.{Word}
use Rattle.pw_types.specs.declared.tree.StepOperator.{StepOperator}
use Rattle.pw_types.specs.TypeTrees.{QType}
use Rattle.pw_types.specs.TypedTrees.{Expression}
use Rattle.pw_check_walk.specs.Causes.{Constraint, Point}
use Rattle.pw_check_walk.specs.Walks.{Walk, bind, granted}
use Rattle.pw_check_rules.specs.Operands.{Operand}
use Rattle.pw_check_rules.specs.Operators.{value_rule, sign_rule, deref_rule, address_rule, step_rule, size_rule, type_size_rule, cast_rule, binary_rule, logic_rule, operation_rule, conditional_rule, assign_rule, compound_rule, assignment_rule, index_rule, call_rule, select_rule, dot_rule, arrow_rule}
use Rattle.pw_check_rules.specs.Leaves.{identifier_rule, number_rule, character_rule, string_point, length_rule, enumeration_by, enumeration_rule, enumerator_name, enumerator_value, named_type, parameter_storage, bindings_rule}
use Rattle.pw_check_rules.specs.Declarations.{storage_rule}
use Rattle.pw_check_rules.specs.Limits.{Spot}
use Rattle.pw_check_rules.specs.Phrases.{typedef_rule}
use Rattle.pw_check_rules.specs.SpecifierLists.{Gathered, Specified, specified}
use Rattle.pw_check_rules.specs.Derivations.{Declared, Derivation, ParameterValue, built, stepped, step_type}
use Rattle.pw_check_rules.specs.Initialisers.{Context, Filled, Cursor, Target, value_filled, string_filled, listed_value, listed_string, braced_target, reach, takes_record}
use Rattle.pw_check_rules.specs.Kinds.{is_character_array}
use Rattle.pw_check_rules.specs.States.{State, records_in, tag_of}
use Rattle.pw_check_rules.specs.declared.names.Tag.{Tag}
use Rattle.pw_check_rules.specs.declared.names.Tag.TheVariants as G
use Rattle.pw_law_checked.proofs.Walking.{Post, post_bind, post_weaken, post_granted}

-- the state is the same
abbrev pub Still : {A : Type 0} → State → A × State → Type 0
Still s r = r.1 ≡ s

pub then_still : {A B : Type 0} (s : State) (w : Walk (A × State)) (next : A × State → Walk (B × State)) → Post w (Still s) → ((r : A × State) → Post (next r) (Still r.1)) → Post (bind w next) (Still s)
then_still {A} {B} s w next h k =
    post_bind w next (Still s) (Still s) h (λ r e. post_weaken (next r) (Still r.1) (Still s) (k r) (λ u f. f ∙ e))

pub granted_still : {A : Type 0} (s : State) (constraint : Constraint) (token : ℕ) (p : Point) (o : Option A) → Post (granted constraint token p o s) (Still s)
granted_still s constraint token p o = post_granted constraint token p o s (Still s) (λ a e met. refl)

pub identifier_still : (w : Word) (s : State) → Post (identifier_rule w s) (Still s)
unfolding identifier_rule bind
identifier_still w s = granted_still s _ _ _ _

pub number_still : (w : Word) (s : State) → Post (number_rule w s) (Still s)
unfolding number_rule bind
number_still w s = λ met. refl

pub character_still : (w : Word) (s : State) → Post (character_rule w s) (Still s)
unfolding character_rule bind
character_still w s = λ met. refl

pub value_still : (a : Operand) (s : State) → Post (value_rule a s) (Still s)
unfolding value_rule bind
value_still a s = λ met. refl

pub sign_still : (t : ℕ) (op : UnaryOperator) (e : Expression) (s : State) → Post (sign_rule t op e s) (Still s)
unfolding sign_rule bind
sign_still t op e s = λ met. refl

pub deref_still : (t : ℕ) (e : Expression) (s : State) → Post (deref_rule t e s) (Still s)
unfolding deref_rule bind
deref_still t e s = λ met. refl

pub address_still : (t : ℕ) (a : Operand) (s : State) → Post (address_rule t a s) (Still s)
unfolding address_rule bind
address_still t a s = λ met. refl

pub step_still : (t : ℕ) (op : StepOperator) (a : Operand) (s : State) → Post (step_rule t op a s) (Still s)
unfolding step_rule bind
step_still t op a s = λ met. refl

pub size_still : (t : ℕ) (a : Operand) (s : State) → Post (size_rule t a s) (Still s)
unfolding size_rule bind
size_still t a s = λ met. refl

pub type_size_still : (t : ℕ) (spot : Spot) (q : QType) (s : State) → Post (type_size_rule t spot q s) (Still s)
unfolding type_size_rule bind
type_size_still t spot q s = λ met. refl

pub cast_still : (t : ℕ) (q : QType) (e : Expression) (s : State) → Post (cast_rule t q e s) (Still s)
unfolding cast_rule bind
cast_still t q e s = λ met. refl

pub binary_still : (t : ℕ) (op : BinaryOperator) (a b : Expression) (s : State) → Post (binary_rule t op a b s) (Still s)
unfolding binary_rule bind
binary_still t op a b s = λ met. refl

pub logic_still : (t : ℕ) (op : Rattle.pw_types.specs.declared.tree.LogicOperator.LogicOperator) (a b : Expression) (s : State) → Post (logic_rule t op a b s) (Still s)
unfolding logic_rule bind
logic_still t op a b s = λ met. refl

pub operation_still : (t : ℕ) (op : BinaryOperator) (a b : Expression) (s : State) → Post (operation_rule t op a b s) (Still s)
unfolding operation_rule
operation_still t O.And a b s = logic_still t _ a b s
operation_still t O.Or a b s = logic_still t _ a b s
operation_still t O.Comma a b s = refl
operation_still t O.Multiply a b s = binary_still t O.Multiply a b s
operation_still t O.Divide a b s = binary_still t O.Divide a b s
operation_still t O.Remainder a b s = binary_still t O.Remainder a b s
operation_still t O.Add a b s = binary_still t O.Add a b s
operation_still t O.Subtract a b s = binary_still t O.Subtract a b s
operation_still t O.LeftShift a b s = binary_still t O.LeftShift a b s
operation_still t O.RightShift a b s = binary_still t O.RightShift a b s
operation_still t O.Less a b s = binary_still t O.Less a b s
operation_still t O.Greater a b s = binary_still t O.Greater a b s
operation_still t O.LessEqual a b s = binary_still t O.LessEqual a b s
operation_still t O.GreaterEqual a b s = binary_still t O.GreaterEqual a b s
operation_still t O.Equal a b s = binary_still t O.Equal a b s
operation_still t O.NotEqual a b s = binary_still t O.NotEqual a b s
operation_still t O.BitAnd a b s = binary_still t O.BitAnd a b s
operation_still t O.BitXor a b s = binary_still t O.BitXor a b s
operation_still t O.BitOr a b s = binary_still t O.BitOr a b s

pub conditional_still : (t : ℕ) (c a b : Expression) (s : State) → Post (conditional_rule t c a b s) (Still s)
unfolding conditional_rule bind
conditional_still t c a b s = λ met. refl

pub assign_still : (t : ℕ) (a : Operand) (b : Expression) (s : State) → Post (assign_rule t a b s) (Still s)
unfolding assign_rule bind
assign_still t a b s = λ met. refl

pub compound_still : (t : ℕ) (op : BinaryOperator) (a : Operand) (b : Expression) (s : State) → Post (compound_rule t op a b s) (Still s)
unfolding compound_rule bind
compound_still t op a b s = λ met. refl

pub assignment_still : (t : ℕ) (op : AssignOperator) (a : Operand) (b : Expression) (s : State) → Post (assignment_rule t op a b s) (Still s)
unfolding assignment_rule
assignment_still t A.Plain a b s = assign_still t a b s
assignment_still t A.Multiply a b s = compound_still t _ a b s
assignment_still t A.Divide a b s = compound_still t _ a b s
assignment_still t A.Remainder a b s = compound_still t _ a b s
assignment_still t A.Add a b s = compound_still t _ a b s
assignment_still t A.Subtract a b s = compound_still t _ a b s
assignment_still t A.LeftShift a b s = compound_still t _ a b s
assignment_still t A.RightShift a b s = compound_still t _ a b s
assignment_still t A.BitAnd a b s = compound_still t _ a b s
assignment_still t A.BitXor a b s = compound_still t _ a b s
assignment_still t A.BitOr a b s = compound_still t _ a b s

pub index_still : (t : ℕ) (a b : Expression) (s : State) → Post (index_rule t a b s) (Still s)
unfolding index_rule bind
index_still t a b s = λ met. refl

pub call_still : (t : ℕ) (e : Expression) (es : List Expression) (s : State) → Post (call_rule t e es s) (Still s)
unfolding call_rule bind
call_still t e es s = λ met. refl

pub select_still : (t : ℕ) (w : Word) (a : Operand) (s : State) → Post (select_rule t w a s) (Still s)
unfolding select_rule bind
select_still t w a s = then_still s (granted _ _ _ _ s) _ (granted_still s _ _ _ _) (λ r. refl)

pub dot_still : (t : ℕ) (w : Word) (a : Operand) (s : State) → Post (dot_rule t w a s) (Still s)
unfolding dot_rule bind
dot_still t w a s = λ met. select_still t w a s

pub arrow_still : (t : ℕ) (w : Word) (e : Expression) (s : State) → Post (arrow_rule t w e s) (Still s)
unfolding arrow_rule bind
arrow_still t w e s = λ met. select_still t w _ s

pub length_still : (first : ℕ) (e : Expression) (s : State) → Post (length_rule first e s) (Still s)
unfolding length_rule bind
length_still first e s = λ met. refl

pub typedef_still : (w : Word) (s : State) → Post (typedef_rule w s) (Still s)
unfolding typedef_rule bind
typedef_still w s = granted_still s _ _ _ _

pub enumeration_by_still : (w : Word) (o : Option Tag) (s : State) → Post (enumeration_by w o s) (Still s)
unfolding enumeration_by
enumeration_by_still w None s = tt
enumeration_by_still w (Some (G.Record n)) s = tt
enumeration_by_still w (Some G.Enumeration) s = refl

pub enumeration_still : (w : Word) (s : State) → Post (enumeration_rule w s) (Still s)
unfolding enumeration_rule bind
enumeration_still w s = enumeration_by_still w (tag_of s w.text) s

pub enumerator_name_still : (w : Word) (s : State) → Post (enumerator_name w s) (Still s)
unfolding enumerator_name bind
enumerator_name_still w s = λ met. refl

pub enumerator_value_still : (first : ℕ) (e : Expression) (s : State) → Post (enumerator_value first e s) (Still s)
unfolding enumerator_value bind
enumerator_value_still first e s = λ met. refl

pub specified_still : (first : ℕ) (g : Gathered) (s : State) → Post (specified first g s) (Still s)
unfolding specified bind
specified_still first g s = λ met. refl

stepped_still : (spot : Spot) (steps : List Derivation) (q : QType) (s : State) → Post (stepped spot steps q s) (Still s)
unfolding stepped bind
stepped_still spot [] q s = refl
stepped_still spot (step ∷ rest) q s = λ met. stepped_still spot rest (step_type step q) s

pub built_still : (spot : Spot) (steps : List Derivation) (q : QType) (s : State) → Post (built spot steps q s) (Still s)
unfolding built bind
built_still spot steps q s = λ met. stepped_still spot steps q s

pub named_still : (b : Specified) (d : Declared) (s : State) → Post (named_type b d s) (Still s)
unfolding named_type bind
named_still b d s = then_still s (built _ d.derivations b.ty s) _ (built_still _ d.derivations b.ty s) (λ r met. refl)

pub storage_still : (b : Specified) (s : State) → Post (parameter_storage b s) (Still s)
unfolding parameter_storage
storage_still b s = λ met. refl

pub declared_storage_still : (b : Specified) (s : State) → Post (storage_rule b s) (Still s)
unfolding storage_rule bind
declared_storage_still b s = λ met. refl

pub bindings_still : (ps : List ParameterValue) (s : State) → Post (bindings_rule ps s) (Still s)
unfolding bindings_rule
bindings_still ps s = refl

pub value_filled_still : (cx : Context) (first : ℕ) (t : Target) (e : Expression) (filled : Filled) (s : State) → Post (value_filled cx first t e filled s) (Still s)
unfolding value_filled bind
value_filled_still cx first t e filled s = λ met. refl

pub string_filled_still : (cx : Context) (ws : List Word) (t : Target) (filled : Filled) (s : State) → Post (string_filled cx ws t filled s) (Still s)
unfolding string_filled string_point bind
string_filled_still cx ws t filled s = λ met more. refl

pub listed_value_still : (cx : Context) (cursor : Cursor) (filled : Filled) (first : ℕ) (e : Expression) (s : State) → Post (listed_value cx cursor filled first e s) (Still s)
unfolding listed_value bind
listed_value_still cx cursor filled first e s =
    then_still s (granted _ cx.token [] (reach (records_in s) (takes_record e) cursor) s) _ (granted_still s _ _ _ _) (λ r.
    then_still r.1 (value_filled cx first r.0.target e filled r.1) _ (value_filled_still cx first r.0.target e filled r.1) (λ u. refl))

pub listed_string_still : (cx : Context) (cursor : Cursor) (filled : Filled) (ws : List Word) (s : State) → Post (listed_string cx cursor filled ws s) (Still s)
unfolding listed_string bind
listed_string_still cx cursor filled ws s =
    then_still s (granted _ cx.token [] (reach (records_in s) is_character_array cursor) s) _ (granted_still s _ _ _ _) (λ r.
    then_still r.1 (string_filled cx ws r.0.target filled r.1) _ (string_filled_still cx ws r.0.target filled r.1) (λ u. refl))

pub braced_target_still : (cx : Context) (cursor : Cursor) (s : State) → Post (braced_target cx cursor s) (Still s)
unfolding braced_target bind
braced_target_still cx cursor s = granted_still s _ _ _ _
