-- A tree with the numbers of its tokens declares what it did before.
use Rattle.std.proofs.Common.{◌≡◌, ℕ, Bool, false, ◌||◌, List, [], ◌∷◌, Option, Some, None, refl, ap, ◌∙◌}
use Rattle.pw_tree.specs.Scopes.{Env, declare_plain, declare_plains, is_typedef_storage, has_typedef, has_type, name_of, name_in, declare_name, declare, behind_name, behind_core, enter_first, enter, after_parameter, after_name, after_expr, after_postfixes, after_arguments, after_operations, after_specifiers, after_members, after_member_declarators, after_enumerators, after_declarator, after_core, after_suffixes, after_parameters, after_optional, after_init, after_inits, after_initializer, after_init_declarators, after_decl, after_decls, after_label, after_labels, after_stmt, after_alternative, after_external}
use Rattle.pw_tree.specs.Trees.{Word, Expr, Identifier, Number, Floating, Character, Wide, Strings, Paren, Postfix, Unary, SizeofType, Cast, Chain, Conditional, Assign, Postfixes, NoPostfix, Index, Call, Select, Step, Arguments, NoArgument, Argument, Operations, NoOperation, Operation, Specifiers, NoSpecifier, Storage, Qualified, Basic, TypedefName, RecordTag, Record, EnumTag, Enum, Members, NoMember, Member, MemberDeclarators, NoMemberDeclarator, PlainMember, BitField, Padding, Enumerators, NoEnumerator, PlainEnumerator, ValuedEnumerator, Declarator, Declaring, Core, Absent, Name, Enclosed, Suffixes, NoSuffix, Array, OpenArray, Prototype, Variadic, Identifiers, Parameters, NoParameter, Parameter, Init, Value, Braces, Inits, NoInit, Listed, Initializer, InitDeclarator, Decl, Label, CaseLabel, DefaultLabel, NameLabel, Stmt, Expression, Labeled, If, Switch, While, Do, For, Return, Alternative, NoElse, Otherwise, ElseIf, External, Definition, Declaration}
use Rattle.pw_parse_grammar.specs.TokenNumbers.{number_identifiers, number_expr, number_postfixes, number_arguments, number_operations, number_specifiers, number_members, number_member_declarators, number_enumerators, number_declarator, number_core, number_suffixes, number_parameters, number_optional, number_init, number_inits, number_initializer, number_init_declarators, number_decl, number_decls, number_label, number_labels, number_stmt, number_alternative, number_external}

-- ---- specifiers

pub keeps-typedef : (x : Specifiers) (n : ℕ) → has_typedef x ≡ has_typedef (number_specifiers n x)
unfolding number_expr
keeps-typedef NoSpecifier start = refl
keeps-typedef (Storage n c ss) start = ap (λ v. is_typedef_storage c || v) (keeps-typedef ss _)
keeps-typedef (Qualified n q ss) start = keeps-typedef ss _
keeps-typedef (Basic n b ss) start = keeps-typedef ss _
keeps-typedef (TypedefName w ss) start = keeps-typedef ss _
keeps-typedef (RecordTag n r tag ss) start = keeps-typedef ss _
keeps-typedef (Record n r tag ms ss) start = keeps-typedef ss _
keeps-typedef (EnumTag n tag ss) start = keeps-typedef ss _
keeps-typedef (Enum n tag es ss) start = keeps-typedef ss _

pub keeps-type : (x : Specifiers) (n : ℕ) → has_type x ≡ has_type (number_specifiers n x)
unfolding number_expr
keeps-type NoSpecifier start = refl
keeps-type (Storage n c ss) start = keeps-type ss _
keeps-type (Qualified n q ss) start = keeps-type ss _
keeps-type (Basic n b ss) start = refl
keeps-type (TypedefName w ss) start = refl
keeps-type (RecordTag n r tag ss) start = refl
keeps-type (Record n r tag ms ss) start = refl
keeps-type (EnumTag n tag ss) start = refl
keeps-type (Enum n tag es ss) start = refl

-- ---- declared names

mutual
  unfolding number_expr

  pub declares-named : (x : Declarator) (n : ℕ) (is_typedef : Bool) {env env2 : Env} → env ≡ env2 → declare_name is_typedef (name_of x) env ≡ declare_name is_typedef (name_of (number_declarator n x)) env2
  declares-named (Declaring ps core ss) start is_typedef same = declares-named_in core _ is_typedef same

  pub declares-named_in : (x : Core) (n : ℕ) (is_typedef : Bool) {env env2 : Env} → env ≡ env2 → declare_name is_typedef (name_in x) env ≡ declare_name is_typedef (name_in (number_core n x)) env2
  declares-named_in Absent start is_typedef same = same
  declares-named_in (Name w) start is_typedef same = ap (declare_name is_typedef (Some w)) same
  declares-named_in (Enclosed n d) start is_typedef same = declares-named d _ is_typedef same

pub declares-declared : (ss : Specifiers) (d : Declarator) (m n : ℕ) {env env2 : Env} → env ≡ env2 → declare ss d env ≡ declare (number_specifiers m ss) (number_declarator n d) env2
declares-declared ss d m n {env = env} same = ap (λ v. declare_name v (name_of d) env) (keeps-typedef ss m) ∙ declares-named d n (has_typedef (number_specifiers m ss)) same

pub declares-plains : (x : List Word) (first : Bool) (n : ℕ) {env env2 : Env} → env ≡ env2 → declare_plains x env ≡ declare_plains (number_identifiers first n x) env2
declares-plains [] first start same = same
declares-plains (w ∷ ws) first start same = declares-plains ws _ _ (ap (declare_plain w) same)

-- ---- expressions, specifiers and declarators

mutual
  unfolding after_expr number_expr

  pub declares-expr : (x : Expr) (n : ℕ) {env env2 : Env} → env ≡ env2 → after_expr env x ≡ after_expr env2 (number_expr n x)
  declares-expr (Identifier w) start same = same
  declares-expr (Number w) start same = same
  declares-expr (Floating w) start same = same
  declares-expr (Character w) start same = same
  declares-expr (Wide w) start same = same
  declares-expr (Strings ws) start same = same
  declares-expr (Paren n e) start same = declares-expr e _ same
  declares-expr (Postfix e ps) start same = declares-postfixes ps _ (declares-expr e _ same)
  declares-expr (Unary n op e) start same = declares-expr e _ same
  declares-expr (SizeofType n ss d) start same = declares-declarator d _ (declares-specifiers ss _ same)
  declares-expr (Cast n ss d e) start same = declares-expr e _ (declares-declarator d _ (declares-specifiers ss _ same))
  declares-expr (Chain e ops) start same = declares-operations ops _ (declares-expr e _ same)
  declares-expr (Conditional n c a b) start same = declares-expr b _ (declares-expr a _ (declares-expr c _ same))
  declares-expr (Assign n op l r) start same = declares-expr r _ (declares-expr l _ same)

  pub declares-postfixes : (x : Postfixes) (n : ℕ) {env env2 : Env} → env ≡ env2 → after_postfixes env x ≡ after_postfixes env2 (number_postfixes n x)
  declares-postfixes NoPostfix start same = same
  declares-postfixes (Index n e ps) start same = declares-postfixes ps _ (declares-expr e _ same)
  declares-postfixes (Call n es ps) start same = declares-postfixes ps _ (declares-arguments es _ _ same)
  declares-postfixes (Select n a w ps) start same = declares-postfixes ps _ same
  declares-postfixes (Step n op ps) start same = declares-postfixes ps _ same

  pub declares-arguments : (x : Arguments) (first : Bool) (n : ℕ) {env env2 : Env} → env ≡ env2 → after_arguments env x ≡ after_arguments env2 (number_arguments first n x)
  declares-arguments NoArgument first start same = same
  declares-arguments (Argument e es) first start same = declares-arguments es _ _ (declares-expr e _ same)

  pub declares-operations : (x : Operations) (n : ℕ) {env env2 : Env} → env ≡ env2 → after_operations env x ≡ after_operations env2 (number_operations n x)
  declares-operations NoOperation start same = same
  declares-operations (Operation n op e rest) start same = declares-operations rest _ (declares-expr e _ same)

  pub declares-specifiers : (x : Specifiers) (n : ℕ) {env env2 : Env} → env ≡ env2 → after_specifiers env x ≡ after_specifiers env2 (number_specifiers n x)
  declares-specifiers NoSpecifier start same = same
  declares-specifiers (Storage n c ss) start same = declares-specifiers ss _ same
  declares-specifiers (Qualified n q ss) start same = declares-specifiers ss _ same
  declares-specifiers (Basic n b ss) start same = declares-specifiers ss _ same
  declares-specifiers (TypedefName w ss) start same = declares-specifiers ss _ same
  declares-specifiers (RecordTag n r tag ss) start same = declares-specifiers ss _ same
  declares-specifiers (Record n r tag ms ss) start same = declares-specifiers ss _ (declares-members ms _ same)
  declares-specifiers (EnumTag n tag ss) start same = declares-specifiers ss _ same
  declares-specifiers (Enum n tag es ss) start same = declares-specifiers ss _ (declares-enumerators es _ _ same)

  pub declares-members : (x : Members) (n : ℕ) {env env2 : Env} → env ≡ env2 → after_members env x ≡ after_members env2 (number_members n x)
  declares-members NoMember start same = same
  declares-members (Member ss ds ms) start same = declares-members ms _ (declares-member_declarators ds _ _ (declares-specifiers ss _ same))

  pub declares-member_declarators : (x : MemberDeclarators) (first : Bool) (n : ℕ) {env env2 : Env} → env ≡ env2 → after_member_declarators env x ≡ after_member_declarators env2 (number_member_declarators first n x)
  declares-member_declarators NoMemberDeclarator first start same = same
  declares-member_declarators (PlainMember d ds) first start same = declares-member_declarators ds _ _ (declares-declarator d _ same)
  declares-member_declarators (BitField d n e ds) first start same = declares-member_declarators ds _ _ (declares-expr e _ (declares-declarator d _ same))
  declares-member_declarators (Padding n e ds) first start same = declares-member_declarators ds _ _ (declares-expr e _ same)

  pub declares-enumerators : (x : Enumerators) (first : Bool) (n : ℕ) {env env2 : Env} → env ≡ env2 → after_enumerators env x ≡ after_enumerators env2 (number_enumerators first n x)
  declares-enumerators NoEnumerator first start same = same
  declares-enumerators (PlainEnumerator w es) first start same = declares-enumerators es _ _ (ap (declare_plain w) same)
  declares-enumerators (ValuedEnumerator w e es) first start same = declares-enumerators es _ _ (ap (declare_plain w) (declares-expr e _ same))

  pub declares-declarator : (x : Declarator) (n : ℕ) {env env2 : Env} → env ≡ env2 → after_declarator env x ≡ after_declarator env2 (number_declarator n x)
  declares-declarator (Declaring ps core ss) start same = declares-suffixes ss _ (declares-core core _ same)

  pub declares-core : (x : Core) (n : ℕ) {env env2 : Env} → env ≡ env2 → after_core env x ≡ after_core env2 (number_core n x)
  declares-core Absent start same = same
  declares-core (Name w) start same = same
  declares-core (Enclosed n d) start same = declares-declarator d _ same

  pub declares-suffixes : (x : Suffixes) (n : ℕ) {env env2 : Env} → env ≡ env2 → after_suffixes env x ≡ after_suffixes env2 (number_suffixes n x)
  declares-suffixes NoSuffix start same = same
  declares-suffixes (Array n e ss) start same = declares-suffixes ss _ (declares-expr e _ same)
  declares-suffixes (OpenArray n ss) start same = declares-suffixes ss _ same
  declares-suffixes (Prototype n ps ss) start same = declares-suffixes ss _ same
  declares-suffixes (Variadic n ps ss) start same = declares-suffixes ss _ same
  declares-suffixes (Identifiers n ws ss) start same = declares-suffixes ss _ same

pub declares-parameter : (ss : Specifiers) (d : Declarator) (m n : ℕ) {env env2 : Env} → env ≡ env2 → after_parameter env ss d ≡ after_parameter env2 (number_specifiers m ss) (number_declarator n d)
declares-parameter ss d m n same = declares-named d n false (declares-declarator d n (declares-specifiers ss m same))

pub declares-parameters : (x : Parameters) (first : Bool) (n : ℕ) {env env2 : Env} → env ≡ env2 → after_parameters env x ≡ after_parameters env2 (number_parameters first n x)
unfolding number_expr
declares-parameters NoParameter first start same = same
declares-parameters (Parameter ss d ps) first start same = declares-parameters ps _ _ (declares-parameter ss d _ _ same)

pub declares-optional : (x : Option Expr) (n : ℕ) {env env2 : Env} → env ≡ env2 → after_optional env x ≡ after_optional env2 (number_optional n x)
declares-optional None start same = same
declares-optional (Some e) start same = declares-expr e _ same

-- ---- declarations

mutual
  unfolding after_init number_init

  pub declares-init : (x : Init) (n : ℕ) {env env2 : Env} → env ≡ env2 → after_init env x ≡ after_init env2 (number_init n x)
  declares-init (Value e) start same = declares-expr e _ same
  declares-init (Braces n is trailing) start same = declares-inits is _ _ same

  pub declares-inits : (x : Inits) (first : Bool) (n : ℕ) {env env2 : Env} → env ≡ env2 → after_inits env x ≡ after_inits env2 (number_inits first n x)
  declares-inits NoInit first start same = same
  declares-inits (Listed i is) first start same = declares-inits is _ _ (declares-init i _ same)

pub declares-initializer : (x : Option Initializer) (n : ℕ) {env env2 : Env} → env ≡ env2 → after_initializer env x ≡ after_initializer env2 (number_initializer n x)
declares-initializer None start same = same
declares-initializer (Some i) start same = declares-init i.init _ same

pub declares-name : (ss : Specifiers) (d : Declarator) (m n : ℕ) {env env2 : Env} → env ≡ env2 → after_name env ss d ≡ after_name env2 (number_specifiers m ss) (number_declarator n d)
declares-name ss d m n same = declares-declared ss d m n (declares-declarator d n same)

pub declares-init_declarators : (x : List InitDeclarator) (ss : Specifiers) (m : ℕ) (first : Bool) (n : ℕ) {env env2 : Env} → env ≡ env2 → after_init_declarators env ss x ≡ after_init_declarators env2 (number_specifiers m ss) (number_init_declarators first n x)
declares-init_declarators [] ss m first start same = same
declares-init_declarators (d ∷ ds) ss m first start same = declares-init_declarators ds ss m _ _ (declares-initializer d.initializer _ (declares-name ss d.declarator m _ same))

pub declares-decl : (x : Decl) (n : ℕ) {env env2 : Env} → env ≡ env2 → after_decl env x ≡ after_decl env2 (number_decl n x)
declares-decl d start same = declares-init_declarators d.declarators d.specifiers _ _ _ (declares-specifiers d.specifiers _ same)

pub declares-decls : (x : List Decl) (n : ℕ) {env env2 : Env} → env ≡ env2 → after_decls env x ≡ after_decls env2 (number_decls n x)
declares-decls [] start same = same
declares-decls (d ∷ ds) start same = declares-decls ds _ (declares-decl d _ same)

-- ---- statements

pub declares-label : (x : Label) (n : ℕ) {env env2 : Env} → env ≡ env2 → after_label env x ≡ after_label env2 (number_label n x)
declares-label (CaseLabel n e) start same = declares-expr e _ same
declares-label (DefaultLabel n) start same = same
declares-label (NameLabel w) start same = same

pub declares-labels : (x : List Label) (n : ℕ) {env env2 : Env} → env ≡ env2 → after_labels env x ≡ after_labels env2 (number_labels n x)
declares-labels [] start same = same
declares-labels (l ∷ ls) start same = declares-labels ls _ (declares-label l _ same)

mutual
  unfolding after_stmt number_stmt

  pub declares-stmt : (x : Stmt) (n : ℕ) {env env2 : Env} → env ≡ env2 → after_stmt env x ≡ after_stmt env2 (number_stmt n x)
  declares-stmt (Expression e) start same = declares-expr e _ same
  declares-stmt (Labeled ls s) start same = declares-stmt s _ (declares-labels ls _ same)
  declares-stmt (If n c s a) start same = declares-alternative a _ (declares-stmt s _ (declares-expr c _ same))
  declares-stmt (Switch n e s) start same = declares-stmt s _ (declares-expr e _ same)
  declares-stmt (While n e s) start same = declares-stmt s _ (declares-expr e _ same)
  declares-stmt (Do n s e) start same = declares-expr e _ (declares-stmt s _ same)
  declares-stmt (For n a b c s) start same = declares-stmt s _ (declares-optional c _ (declares-optional b _ (declares-optional a _ same)))
  declares-stmt (Return n e) start same = declares-optional e _ same
  declares-stmt _ start same = same

  pub declares-alternative : (x : Alternative) (n : ℕ) {env env2 : Env} → env ≡ env2 → after_alternative env x ≡ after_alternative env2 (number_alternative n x)
  declares-alternative NoElse start same = same
  declares-alternative (Otherwise s) start same = declares-stmt s _ same
  declares-alternative (ElseIf n c s a) start same = declares-alternative a _ (declares-stmt s _ (declares-expr c _ same))

-- ---- functions

pub declares-first : (x : Suffixes) (n : ℕ) {env env2 : Env} → env ≡ env2 → enter_first env x ≡ enter_first env2 (number_suffixes n x)
unfolding number_expr
declares-first NoSuffix start same = same
declares-first (Array n e ss) start same = same
declares-first (OpenArray n ss) start same = same
declares-first (Prototype n ps ss) start same = declares-parameters ps _ _ same
declares-first (Variadic n ps ss) start same = declares-parameters ps _ _ same
declares-first (Identifiers n ws ss) start same = declares-plains ws _ _ same

mutual
  unfolding number_expr

  pub declares-behind : (x : Declarator) (n : ℕ) (outer outer2 : Suffixes) {env env2 : Env} → env ≡ env2 → enter_first env outer ≡ enter_first env2 outer2 → enter_first env (behind_name x outer) ≡ enter_first env2 (behind_name (number_declarator n x) outer2)
  declares-behind (Declaring ps core NoSuffix) start outer outer2 same h = declares-behind_core core _ outer outer2 same h
  declares-behind (Declaring ps core (Array n e ss)) start outer outer2 same h = declares-behind_core core _ _ _ same same
  declares-behind (Declaring ps core (OpenArray n ss)) start outer outer2 same h = declares-behind_core core _ _ _ same same
  declares-behind (Declaring ps core (Prototype n qs ss)) start outer outer2 same h = declares-behind_core core _ _ _ same (declares-first (Prototype n qs ss) _ same)
  declares-behind (Declaring ps core (Variadic n qs ss)) start outer outer2 same h = declares-behind_core core _ _ _ same (declares-first (Variadic n qs ss) _ same)
  declares-behind (Declaring ps core (Identifiers n ws ss)) start outer outer2 same h = declares-behind_core core _ _ _ same (declares-first (Identifiers n ws ss) _ same)

  pub declares-behind_core : (x : Core) (n : ℕ) (outer outer2 : Suffixes) {env env2 : Env} → env ≡ env2 → enter_first env outer ≡ enter_first env2 outer2 → enter_first env (behind_core x outer) ≡ enter_first env2 (behind_core (number_core n x) outer2)
  declares-behind_core Absent start outer outer2 same h = h
  declares-behind_core (Name w) start outer outer2 same h = h
  declares-behind_core (Enclosed n d) start outer outer2 same h = declares-behind d _ outer outer2 same h

pub declares-entered : (x : Declarator) (n : ℕ) {env env2 : Env} → env ≡ env2 → enter env x ≡ enter env2 (number_declarator n x)
declares-entered d n same = declares-behind d n NoSuffix NoSuffix same same

pub declares-external : (x : External) (n : ℕ) {env env2 : Env} → env ≡ env2 → after_external env x ≡ after_external env2 (number_external n x)
declares-external (Definition f) start same = declares-name f.specifiers f.declarator _ _ (declares-specifiers f.specifiers _ same)
declares-external (Declaration d) start same = declares-decl d _ same
