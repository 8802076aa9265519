-- Expressions, types and initialisers declare no name with linkage: the list of those stays.
use Rattle.std.specs.Prelude.{ℕ, ◌≡◌, Bool, true, false, Option, None, Some, List, [], ◌∷◌, refl, if◌then◌else◌}
use Rattle.std.proofs.Common.{ap, ◌∙◌}
use Rattle.pw_tree.specs.declared.expr.BasicType.TheVariants as W
use Rattle.pw_tree.specs.declared.operator.Access.TheVariants.{Dot, Arrow}
use Rattle.pw_tree.specs.declared.operator.StepOperator.TheVariants as J
use Rattle.pw_tree.specs.declared.operator.UnaryOperator.TheVariants as P
use Rattle.pw_tree.specs.FirstTokens.{first_of_expr}
use Rattle.pw_tree.specs.Trees.{Expr, Postfixes, Arguments, Operations, Specifiers, Members, MemberDeclarators, Enumerators, Declarator, Core, Suffixes, Parameters, Word, Init, Inits}
use Rattle.pw_tree.specs.Trees as S
use Rattle.pw_types.specs.TypeTrees.{QType, MemberValue, type_of}
use Rattle.pw_types.specs.TypedTrees.{Expression}
use Rattle.pw_check_walk.specs.Walks.{Walk, bind}
use Rattle.pw_check_rules.specs.Operands.{Operand}
use Rattle.pw_check_rules.specs.Operators.{value_rule}
use Rattle.pw_check_rules.specs.Leaves.{string_rule, string_point, record_kind, record_spot, first_of_list, first_of_declaration, texts_of}
use Rattle.pw_check_rules.specs.Phrases.{expr_rule, postfixes_rule, arguments_rule, operations_rule, specifiers_rule, members_rule, member_declarators_rule, enumerators_rule, declarator_rule, core_rule, suffixes_rule, parameters_rule}
use Rattle.pw_check_rules.specs.SpecifierLists.{Gathered, nothing_gathered, gather_storage, gather_qualifier, gather_word, gather_type, Specified}
use Rattle.pw_check_rules.specs.Derivations.{ParameterValue}
use Rattle.pw_check_rules.specs.Initialisers.{Context, Filled, Cursor, Target, Initialised, StringForm, IsString, IsOther, string_form, braced_string, words_in, target_at, frame_of, nothing_filled, string_filled, listed_expression, listed_by, listed_form, meets_characters, braced_by, inits_rule, init_rule, object_string, object_value, object_list, object_by, object_rule, fills_characters}
use Rattle.pw_check_rules.specs.Kinds.{int_type}
use Rattle.pw_check_rules.specs.States.{State, Rule, scoped, uncounted, one_deeper, records_in, with_made}
use Rattle.pw_law_checked.proofs.Walking.{Post, post_bind, post_weaken}
use Rattle.pw_law_checked.proofs.Untouched.{Untouched, reference_untouched, opening_untouched, member_untouched, closing_untouched, enumerating_untouched, enumerator_untouched, parameter_untouched}
use Rattle.pw_law_checked.proofs.Still.{Still, address_still, arrow_still, assignment_still, bindings_still, braced_target_still, call_still, cast_still, character_still, conditional_still, deref_still, dot_still, enumeration_still, enumerator_name_still, enumerator_value_still, identifier_still, index_still, length_still, listed_string_still, listed_value_still, named_still, number_still, operation_still, sign_still, size_still, specified_still, step_still, storage_still, string_filled_still, type_size_still, typedef_still, value_filled_still, value_still}

-- the names with linkage are the same
abbrev pub Same : {A : Type 0} → State → A × State → Type 0
Same s r = r.1.types.linked ≡ s.types.linked

pub then_same : {A B : Type 0} (s : State) (w : Walk (A × State)) (next : A × State → Walk (B × State)) → Post w (Same s) → ((r : A × State) → Post (next r) (Same r.1)) → Post (bind w next) (Same s)
then_same {A} {B} s w next h k =
    post_bind w next (Same s) (Same s) h (λ r e. post_weaken (next r) (Same r.1) (Same s) (k r) (λ u f. f ∙ e))

pub still_same : {A : Type 0} (s : State) (w : Walk (A × State)) → Post w (Still s) → Post w (Same s)
still_same s w h = post_weaken w (Still s) (Same s) h (λ r e. ap (λ (t : State). t.types.linked) e)

-- ---- expressions

string_same : (ws : List Word) (s : State) → Post (string_rule ws s) (Same s)
unfolding string_rule string_point bind
string_same ws s = λ met. by s.made.counting
  where
    by : (b : Bool) → (if b then Rattle.pw_check_rules.specs.States.add_hidden (record { ty = Rattle.pw_check_rules.specs.Leaves.string_type (Rattle.pw_check_literals.specs.Characters.string_bytes_of (texts_of ws)); writable = false; items = Rattle.pw_check_rules.specs.Leaves.bytes_at_start (Rattle.pw_check_literals.specs.Characters.string_bytes_of (texts_of ws)) }) s else s).types.linked ≡ s.types.linked
    by true = refl
    by false = refl

-- ---- types

left_same : {A : Type 0} (s : State) (w : Walk (A × State)) → Post w (Untouched s) → Post w (Same s)
left_same s w h = post_weaken w (Untouched s) (Same s) h (λ r e. e.0)

scoped_same : {A : Type 0} (inside : Rule A) (s : State) → ((t : State) → Post (inside t) (Same t)) → Post (scoped inside s) (Same s)
unfolding scoped bind
scoped_same inside s h = then_same (one_deeper s) (inside (one_deeper s)) _ (h (one_deeper s)) (λ r. refl)

uncounted_same : {A : Type 0} (inside : Rule A) (s : State) → ((t : State) → Post (inside t) (Same t)) → Post (uncounted inside s) (Same s)
unfolding uncounted bind
uncounted_same inside s h = then_same (with_made (λ m. record m { counting = false }) s) (inside _) _ (h _) (λ r. refl)

-- an operand, and then its value
valued_same : {B : Type 0} (s : State) (w : Walk (Operand × State)) (next : Expression × State → Walk (B × State)) → Post w (Same s) → ((r : Expression × State) → Post (next r) (Same r.1))
    → Post (bind w (λ t. bind (value_rule t.0 t.1) next)) (Same s)
valued_same s w next h k = then_same s w _ h (λ r. then_same r.1 (value_rule r.0 r.1) next (still_same r.1 _ (value_still r.0 r.1)) k)

mutual
  unfolding expr_rule

  pub expr_same : (e : Expr) (s : State) → Post (expr_rule e s) (Same s)
  expr_same (S.Identifier w) s = still_same s _ (identifier_still w s)
  expr_same (S.Number w) s = still_same s _ (number_still w s)
  expr_same (S.Floating w) s = tt
  expr_same (S.Character w) s = still_same s _ (character_still w s)
  expr_same (S.Wide w) s = tt
  expr_same (S.Strings ws) s = string_same ws s
  expr_same (S.Paren t e) s = expr_same e s
  expr_same (S.Postfix e rest) s = then_same s _ _ (expr_same e s) (λ r. postfixes_same rest r.0 r.1)
  expr_same (S.Unary t P.Sizeof e) s = then_same s _ _ (uncounted_same (expr_rule e) s (λ u. expr_same e u)) (λ r. still_same r.1 _ (size_still t r.0 r.1))
  expr_same (S.Unary t P.Address e) s = then_same s _ _ (expr_same e s) (λ r. still_same r.1 _ (address_still t r.0 r.1))
  expr_same (S.Unary t P.Increment e) s = then_same s _ _ (expr_same e s) (λ r. still_same r.1 _ (step_still t _ r.0 r.1))
  expr_same (S.Unary t P.Decrement e) s = then_same s _ _ (expr_same e s) (λ r. still_same r.1 _ (step_still t _ r.0 r.1))
  expr_same (S.Unary t P.Dereference e) s = valued_same s _ _ (expr_same e s) (λ r. still_same r.1 _ (deref_still t r.0 r.1))
  expr_same (S.Unary t P.Plus e) s = valued_same s _ _ (expr_same e s) (λ r. still_same r.1 _ (sign_still t P.Plus r.0 r.1))
  expr_same (S.Unary t P.Minus e) s = valued_same s _ _ (expr_same e s) (λ r. still_same r.1 _ (sign_still t P.Minus r.0 r.1))
  expr_same (S.Unary t P.Complement e) s = valued_same s _ _ (expr_same e s) (λ r. still_same r.1 _ (sign_still t P.Complement r.0 r.1))
  expr_same (S.Unary t P.Not e) s = valued_same s _ _ (expr_same e s) (λ r. still_same r.1 _ (sign_still t P.Not r.0 r.1))
  expr_same (S.SizeofType t specifiers d) s =
      uncounted_same _ s (λ u.
      then_same u _ _ (specifiers_same specifiers (first_of_declaration specifiers d) nothing_gathered u) (λ r1.
      then_same r1.1 _ _ (still_same r1.1 _ (specified_still (first_of_declaration specifiers d) r1.0 r1.1)) (λ r2.
      then_same r2.1 _ _ (declarator_same d r2.1) (λ r3.
      then_same r3.1 _ _ (still_same r3.1 _ (named_still r2.0 r3.0 r3.1)) (λ r4. still_same r4.1 _ (type_size_still t _ r4.0 r4.1))))))
  expr_same (S.Cast t specifiers d e) s =
      then_same s _ _ (specifiers_same specifiers (first_of_declaration specifiers d) nothing_gathered s) (λ r1.
      then_same r1.1 _ _ (still_same r1.1 _ (specified_still (first_of_declaration specifiers d) r1.0 r1.1)) (λ r2.
      then_same r2.1 _ _ (declarator_same d r2.1) (λ r3.
      then_same r3.1 _ _ (still_same r3.1 _ (named_still r2.0 r3.0 r3.1)) (λ r4.
      valued_same r4.1 _ _ (expr_same e r4.1) (λ r5. still_same r5.1 _ (cast_still t r4.0 r5.0 r5.1))))))
  expr_same (S.Chain e rest) s = then_same s _ _ (expr_same e s) (λ r. operations_same rest r.0 r.1)
  expr_same (S.Conditional t c a b) s =
      valued_same s _ _ (expr_same c s) (λ r1. valued_same r1.1 _ _ (expr_same a r1.1) (λ r2. valued_same r2.1 _ _ (expr_same b r2.1) (λ r3. still_same r3.1 _ (conditional_still t r1.0 r2.0 r3.0 r3.1))))
  expr_same (S.Assign t op a b) s = then_same s _ _ (expr_same a s) (λ r1. valued_same r1.1 _ _ (expr_same b r1.1) (λ r2. still_same r2.1 _ (assignment_still t op r1.0 r2.0 r2.1)))

  postfixes_same : (rest : Postfixes) (a : Operand) (s : State) → Post (postfixes_rule rest a s) (Same s)
  postfixes_same S.NoPostfix a s = refl
  postfixes_same (S.Index t e rest) a s =
      then_same s _ _ (still_same s _ (value_still a s)) (λ r1. valued_same r1.1 _ _ (expr_same e r1.1) (λ r2. then_same r2.1 _ _ (still_same r2.1 _ (index_still t r1.0 r2.0 r2.1)) (λ r3. postfixes_same rest r3.0 r3.1)))
  postfixes_same (S.Call t args rest) a s =
      then_same s _ _ (still_same s _ (value_still a s)) (λ r1. then_same r1.1 _ _ (arguments_same args r1.1) (λ r2. then_same r2.1 _ _ (still_same r2.1 _ (call_still t r1.0 r2.0 r2.1)) (λ r3. postfixes_same rest r3.0 r3.1)))
  postfixes_same (S.Select t Dot w rest) a s = then_same s _ _ (still_same s _ (dot_still t w a s)) (λ r. postfixes_same rest r.0 r.1)
  postfixes_same (S.Select t Arrow w rest) a s = then_same s _ _ (still_same s _ (value_still a s)) (λ r1. then_same r1.1 _ _ (still_same r1.1 _ (arrow_still t w r1.0 r1.1)) (λ r2. postfixes_same rest r2.0 r2.1))
  postfixes_same (S.Step t J.Increment rest) a s = then_same s _ _ (still_same s _ (step_still t _ a s)) (λ r. postfixes_same rest r.0 r.1)
  postfixes_same (S.Step t J.Decrement rest) a s = then_same s _ _ (still_same s _ (step_still t _ a s)) (λ r. postfixes_same rest r.0 r.1)

  arguments_same : (args : Arguments) (s : State) → Post (arguments_rule args s) (Same s)
  arguments_same S.NoArgument s = refl
  arguments_same (S.Argument e rest) s = valued_same s _ _ (expr_same e s) (λ r1. then_same r1.1 _ _ (arguments_same rest r1.1) (λ r2. refl))

  operations_same : (rest : Operations) (a : Operand) (s : State) → Post (operations_rule rest a s) (Same s)
  operations_same S.NoOperation a s = refl
  operations_same (S.Operation t op e rest) a s =
      then_same s _ _ (still_same s _ (value_still a s)) (λ r1. valued_same r1.1 _ _ (expr_same e r1.1) (λ r2. then_same r2.1 _ _ (still_same r2.1 _ (operation_still t op r1.0 r2.0 r2.1)) (λ r3. operations_same rest r3.0 r3.1)))

  pub specifiers_same : (specifiers : Specifiers) (first : ℕ) (g : Gathered) (s : State) → Post (specifiers_rule specifiers first g s) (Same s)
  specifiers_same S.NoSpecifier first g s = refl
  specifiers_same (S.Storage t storage rest) first g s = specifiers_same rest first (gather_storage storage g) s
  specifiers_same (S.Qualified t qualifier rest) first g s = specifiers_same rest first (gather_qualifier qualifier g) s
  specifiers_same (S.Basic t W.Float rest) first g s = tt
  specifiers_same (S.Basic t W.Double rest) first g s = tt
  specifiers_same (S.Basic t W.Void rest) first g s = specifiers_same rest first (gather_word W.Void g) s
  specifiers_same (S.Basic t W.Char rest) first g s = specifiers_same rest first (gather_word W.Char g) s
  specifiers_same (S.Basic t W.Short rest) first g s = specifiers_same rest first (gather_word W.Short g) s
  specifiers_same (S.Basic t W.Int rest) first g s = specifiers_same rest first (gather_word W.Int g) s
  specifiers_same (S.Basic t W.Long rest) first g s = specifiers_same rest first (gather_word W.Long g) s
  specifiers_same (S.Basic t W.Signed rest) first g s = specifiers_same rest first (gather_word W.Signed g) s
  specifiers_same (S.Basic t W.Unsigned rest) first g s = specifiers_same rest first (gather_word W.Unsigned g) s
  specifiers_same (S.TypedefName w rest) first g s = then_same s _ _ (still_same s _ (typedef_still w s)) (λ r. specifiers_same rest first (gather_type r.0 None g) r.1)
  specifiers_same (S.RecordTag t kind w rest) first g s = then_same s _ _ (left_same s _ (reference_untouched (record_kind kind) w s)) (λ r. specifiers_same rest first (gather_type r.0.0 r.0.1 g) r.1)
  specifiers_same (S.Record t kind w members rest) first g s =
      then_same s _ _ (left_same s _ (opening_untouched (record_kind kind) w s)) (λ r1.
      then_same r1.1 _ _ (members_same members [] r1.1) (λ r2.
      then_same r2.1 _ _ (left_same r2.1 _ (closing_untouched (record_kind kind) (record_spot w first) r1.0 r2.0 r2.1)) (λ r3. specifiers_same rest first (gather_type r3.0 None g) r3.1)))
  specifiers_same (S.EnumTag t w rest) first g s = then_same s _ _ (still_same s _ (enumeration_still w s)) (λ r. specifiers_same rest first (gather_type r.0 None g) r.1)
  specifiers_same (S.Enum t w enumerators rest) first g s =
      then_same s _ _ (then_same s _ _ (left_same s _ (enumerating_untouched w s)) (λ r. enumerators_same enumerators (Some 0) r.1)) (λ r. specifiers_same rest first (gather_type int_type None g) r.1)

  members_same : (members : Members) (ms : List MemberValue) (s : State) → Post (members_rule members ms s) (Same s)
  members_same S.NoMember ms s = refl
  members_same (S.Member specifiers ds rest) ms s =
      then_same s _ _ (specifiers_same specifiers (first_of_list specifiers) nothing_gathered s) (λ r1.
      then_same r1.1 _ _ (still_same r1.1 _ (specified_still (first_of_list specifiers) r1.0 r1.1)) (λ r2.
      then_same r2.1 _ _ (member_declarators_same ds r2.0 ms r2.1) (λ r3. members_same rest r3.0 r3.1)))

  member_declarators_same : (ds : MemberDeclarators) (b : Specified) (ms : List MemberValue) (s : State) → Post (member_declarators_rule ds b ms s) (Same s)
  member_declarators_same S.NoMemberDeclarator b ms s = refl
  member_declarators_same (S.PlainMember d rest) b ms s =
      then_same s _ _ (declarator_same d s) (λ r1. then_same r1.1 _ _ (left_same r1.1 _ (member_untouched b r1.0 ms r1.1)) (λ r2. member_declarators_same rest b r2.0 r2.1))
  member_declarators_same (S.BitField d t e rest) b ms s = then_same s _ _ (declarator_same d s) (λ r. tt)
  member_declarators_same (S.Padding t e rest) b ms s = tt

  enumerators_same : (enumerators : Enumerators) (value : Option ℕ) (s : State) → Post (enumerators_rule enumerators value s) (Same s)
  enumerators_same S.NoEnumerator value s = refl
  enumerators_same (S.PlainEnumerator w rest) value s = then_same s _ _ (left_same s _ (enumerator_untouched w value s)) (λ r. enumerators_same rest r.0 r.1)
  enumerators_same (S.ValuedEnumerator w e rest) value s =
      then_same s _ _ (still_same s _ (enumerator_name_still w s)) (λ r0.
      valued_same r0.1 _ _ (expr_same e r0.1) (λ r1.
      then_same r1.1 _ _ (still_same r1.1 _ (enumerator_value_still (first_of_expr e) r1.0 r1.1)) (λ r2. then_same r2.1 _ _ (left_same r2.1 _ (enumerator_untouched w (Some r2.0) r2.1)) (λ r3. enumerators_same rest r3.0 r3.1))))

  pub declarator_same : (d : Declarator) (s : State) → Post (declarator_rule d s) (Same s)
  declarator_same (S.Declaring pointers core suffixes) s = then_same s _ _ (core_same core s) (λ r1. then_same r1.1 _ _ (suffixes_same suffixes r1.1) (λ r2. refl))

  core_same : (core : Core) (s : State) → Post (core_rule core s) (Same s)
  core_same S.Absent s = refl
  core_same (S.Name w) s = refl
  core_same (S.Enclosed t d) s = declarator_same d s

  suffixes_same : (suffixes : Suffixes) (s : State) → Post (suffixes_rule suffixes s) (Same s)
  suffixes_same S.NoSuffix s = refl
  suffixes_same (S.Array t e rest) s =
      valued_same s _ _ (expr_same e s) (λ r1. then_same r1.1 _ _ (still_same r1.1 _ (length_still (first_of_expr e) r1.0 r1.1)) (λ r2. then_same r2.1 _ _ (suffixes_same rest r2.1) (λ r3. refl)))
  suffixes_same (S.OpenArray t rest) s = then_same s _ _ (suffixes_same rest s) (λ r. refl)
  suffixes_same (S.Prototype t parameters rest) s =
      then_same s _ _ (scoped_same _ s (λ u. then_same u _ _ (parameters_same parameters [] u) (λ r. still_same r.1 _ (bindings_still r.0 r.1)))) (λ r1. then_same r1.1 _ _ (suffixes_same rest r1.1) (λ r2. refl))
  suffixes_same (S.Variadic t parameters rest) s = tt
  suffixes_same (S.Identifiers t ws rest) s = tt

  parameters_same : (rest : Parameters) (ps : List ParameterValue) (s : State) → Post (parameters_rule rest ps s) (Same s)
  parameters_same S.NoParameter ps s = refl
  parameters_same (S.Parameter specifiers d rest) ps s =
      then_same s _ _ (specifiers_same specifiers (first_of_declaration specifiers d) nothing_gathered s) (λ r1.
      then_same r1.1 _ _ (still_same r1.1 _ (specified_still (first_of_declaration specifiers d) r1.0 r1.1)) (λ r2.
      then_same r2.1 _ _ (then_same r2.1 _ _ (still_same r2.1 _ (storage_still r2.0 r2.1)) (λ r. declarator_same d r.1)) (λ r3.
      then_same r3.1 _ _ (left_same r3.1 _ (parameter_untouched _ r2.0 r3.0 ps r3.1)) (λ r4. parameters_same rest r4.0 r4.1))))

-- ---- initialisers

listed_expression_same : (cx : Context) (cursor : Cursor) (filled : Filled) (e : Expr) (s : State) → Post (listed_expression cx cursor filled e s) (Same s)
unfolding listed_expression
listed_expression_same cx cursor filled e s = valued_same s _ _ (expr_same e s) (λ r. still_same r.1 _ (listed_value_still cx cursor filled (first_of_expr e) r.0 r.1))

listed_by_same : (whole : Bool) (cx : Context) (cursor : Cursor) (filled : Filled) (e : Expr) (ws : List Word) (s : State) → Post (listed_by whole cx cursor filled e ws s) (Same s)
unfolding listed_by
listed_by_same true cx cursor filled e ws s = still_same s _ (listed_string_still cx cursor filled ws s)
listed_by_same false cx cursor filled e ws s = listed_expression_same cx cursor filled e s

listed_form_same : (cx : Context) (cursor : Cursor) (filled : Filled) (e : Expr) (form : StringForm) (s : State) → Post (listed_form cx cursor filled e form s) (Same s)
unfolding listed_form bind
listed_form_same cx cursor filled e IsOther s = listed_expression_same cx cursor filled e s
listed_form_same cx cursor filled e (IsString ws) s = listed_by_same (meets_characters (records_in s) cursor) cx cursor filled e ws s

braced_by_same : (b : Bool) (cx : Context) (t : Target) (filled : Filled) (ws : List Word) (within : Rule (Cursor × Filled)) (s : State) → Post (within s) (Same s) → Post (braced_by b cx t filled ws within s) (Same s)
unfolding braced_by bind
braced_by_same true cx t filled ws within s h = then_same s (string_filled cx ws t filled s) _ (still_same s _ (string_filled_still cx ws t filled s)) (λ r. refl)
braced_by_same false cx t filled ws within s h = h

mutual
  unfolding inits_rule

  inits_same : (is : Inits) (cx : Context) (cursor : Cursor) (filled : Filled) (s : State) → Post (inits_rule is cx cursor filled s) (Same s)
  inits_same S.NoInit cx cursor filled s = refl
  inits_same (S.Listed i rest) cx cursor filled s = then_same s _ _ (init_same i cx cursor filled s) (λ r. inits_same rest cx r.0.0 r.0.1 r.1)

  init_same : (i : Init) (cx : Context) (cursor : Cursor) (filled : Filled) (s : State) → Post (init_rule i cx cursor filled s) (Same s)
  init_same (S.Value e) cx cursor filled s = listed_form_same cx cursor filled e (string_form e) s
  init_same (S.Braces token is trailing) cx cursor filled s =
      then_same s _ _ (still_same s _ (braced_target_still cx cursor s)) (λ t.
      then_same t.1 _ _
      (braced_by_same (fills_characters (type_of t.0.ty) (braced_string is)) cx t.0 filled (words_in (braced_string is)) (inits_rule is cx (frame_of t.0 ∷ []) filled) t.1
      (inits_same is cx (frame_of t.0 ∷ []) filled t.1)) (λ r. then_same r.1 _ _ refl (λ u. refl)))

object_by_same : (b : Bool) (cx : Context) (q : QType) (ws : List Word) (other : Rule Initialised) (s : State) → Post (other s) (Same s) → Post (object_by b cx q ws other s) (Same s)
unfolding object_by object_string
object_by_same true cx q ws other s h = then_same s _ _ (still_same s _ (string_filled_still cx ws (target_at q 0) nothing_filled s)) (λ r. refl)
object_by_same false cx q ws other s h = h

object_value_same : (cx : Context) (q : QType) (e : Expr) (s : State) → Post (object_value cx q e s) (Same s)
unfolding object_value
object_value_same cx q e s = valued_same s _ _ (expr_same e s) (λ r. then_same r.1 _ _ (still_same r.1 _ (value_filled_still cx (first_of_expr e) (target_at q 0) r.0 nothing_filled r.1)) (λ u. refl))

object_list_same : (cx : Context) (q : QType) (is : Inits) (s : State) → Post (object_list cx q is s) (Same s)
unfolding object_list
object_list_same cx q is s = then_same s _ _ (inits_same is cx (frame_of (target_at q 0) ∷ []) nothing_filled s) (λ r. refl)

pub object_same : (cx : Context) (q : QType) (i : Init) (s : State) → Post (object_rule cx q i s) (Same s)
unfolding object_rule
object_same cx q (S.Value e) s = object_by_same (fills_characters (type_of q) (string_form e)) cx q (words_in (string_form e)) (object_value cx q e) s (object_value_same cx q e s)
object_same cx q (S.Braces token is trailing) s = object_by_same (fills_characters (type_of q) (braced_string is)) cx q (words_in (braced_string is)) (object_list cx q is) s (object_list_same cx q is s)
