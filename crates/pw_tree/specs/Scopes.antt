-- Scopes of ordinary identifiers (C90 6.1.2.1), as far as the grammar needs them: which are visible as typedef names.
-- Scopes are nested, so that what an inner scope declares is left out again by going on with the names before it.
use Rattle.std.specs.Prelude.{ℕ, Bool, true, false, ◌||◌, if◌then◌else◌, List, [], ◌∷◌, bytes_eq, Option, Some, None}
use Rattle.pw_tree.specs.Trees.{Word, Expr, Identifier, Number, Floating, Character, Wide, Strings, Paren, Postfix, Unary, SizeofType, Cast, Chain, Conditional, Assign, Postfixes, NoPostfix, Index, Call, Select, Step, Arguments, NoArgument, Argument, Operations, NoOperation, Operation, Specifiers, NoSpecifier, Storage, Qualified, Basic, TypedefName, RecordTag, Record, EnumTag, Enum, Members, NoMember, Member, MemberDeclarators, NoMemberDeclarator, PlainMember, BitField, Padding, Enumerators, NoEnumerator, PlainEnumerator, ValuedEnumerator, Declarator, Declaring, Core, Absent, Name, Enclosed, Suffixes, NoSuffix, Array, OpenArray, Prototype, Variadic, Identifiers, Parameters, NoParameter, Parameter, Init, Value, Braces, Inits, NoInit, Listed, Initializer, InitDeclarator, Decl, Label, CaseLabel, DefaultLabel, NameLabel, Stmt, Expression, Labeled, If, Switch, While, Do, For, Return, Alternative, NoElse, Otherwise, ElseIf, External, Definition, Declaration}
use Rattle.pw_tree.specs.declared.expr.StorageClass.{StorageClass}
use Rattle.pw_tree.specs.declared.expr.StorageClass.TheVariants as storage

pub record Binding : Type 0 where
  pub name : List ℕ
  pub is_typedef : Bool

-- the names that are visible, the newest first
abbrev pub Env : Type 0
Env = List Binding

-- The newest declaration of a name counts.
abbrev pub is_typedef_name : Env → List ℕ → Bool
is_typedef_name [] x = false
is_typedef_name (b ∷ env) x = if bytes_eq b.name x then b.is_typedef else is_typedef_name env x

-- a name that is none of a typedef
abbrev pub declare_plain : Word → Env → Env
declare_plain w env = record { name = w.text; is_typedef = false } ∷ env

abbrev pub declare_plains : List Word → Env → Env
declare_plains [] env = env
declare_plains (w ∷ ws) env = declare_plains ws (declare_plain w env)

-- ---- lists of specifiers

abbrev pub is_typedef_storage : StorageClass → Bool
is_typedef_storage storage.Typedef = true
is_typedef_storage storage.Extern = false
is_typedef_storage storage.Static = false
is_typedef_storage storage.Auto = false
is_typedef_storage storage.Register = false

-- `typedef` stands in the list
abbrev pub has_typedef : Specifiers → Bool
has_typedef NoSpecifier = false
has_typedef (Storage n c ss) = is_typedef_storage c || has_typedef ss
has_typedef (Qualified n q ss) = has_typedef ss
has_typedef (Basic n b ss) = has_typedef ss
has_typedef (TypedefName w ss) = has_typedef ss
has_typedef (RecordTag n r tag ss) = has_typedef ss
has_typedef (Record n r tag ms ss) = has_typedef ss
has_typedef (EnumTag n tag ss) = has_typedef ss
has_typedef (Enum n tag es ss) = has_typedef ss

-- a type specifier stands in the list
abbrev pub has_type : Specifiers → Bool
has_type NoSpecifier = false
has_type (Storage n c ss) = has_type ss
has_type (Qualified n q ss) = has_type ss
has_type (Basic n b ss) = true
has_type (TypedefName w ss) = true
has_type (RecordTag n r tag ss) = true
has_type (Record n r tag ms ss) = true
has_type (EnumTag n tag ss) = true
has_type (Enum n tag es ss) = true

-- ---- declared names

abbrev mutual
  pub name_of : Declarator → Option Word
  name_of (Declaring ps core ss) = name_in core

  pub name_in : Core → Option Word
  name_in Absent = None
  name_in (Name w) = Some w
  name_in (Enclosed n d) = name_of d

abbrev pub declare_name : Bool → Option Word → Env → Env
declare_name is_typedef None env = env
declare_name is_typedef (Some w) env = record { name = w.text; is_typedef = is_typedef } ∷ env

-- with the name of a declarator that stands behind these specifiers
abbrev pub declare : Specifiers → Declarator → Env → Env
declare ss d env = declare_name (has_typedef ss) (name_of d) env

-- ---- what a tree declares in the scope that it stands in: the names visible behind it, from those before it

unfoldable mutual
  pub after_expr : Env → Expr → Env
  after_expr env (Identifier w) = env
  after_expr env (Number w) = env
  after_expr env (Floating w) = env
  after_expr env (Character w) = env
  after_expr env (Wide w) = env
  after_expr env (Strings ws) = env
  after_expr env (Paren n e) = after_expr env e
  after_expr env (Postfix e ps) = after_postfixes (after_expr env e) ps
  after_expr env (Unary n op e) = after_expr env e
  after_expr env (SizeofType n ss d) = after_declarator (after_specifiers env ss) d
  after_expr env (Cast n ss d e) = after_expr (after_declarator (after_specifiers env ss) d) e
  after_expr env (Chain e ops) = after_operations (after_expr env e) ops
  after_expr env (Conditional n c a b) = after_expr (after_expr (after_expr env c) a) b
  after_expr env (Assign n op l r) = after_expr (after_expr env l) r

  pub after_postfixes : Env → Postfixes → Env
  after_postfixes env NoPostfix = env
  after_postfixes env (Index n e ps) = after_postfixes (after_expr env e) ps
  after_postfixes env (Call n es ps) = after_postfixes (after_arguments env es) ps
  after_postfixes env (Select n a w ps) = after_postfixes env ps
  after_postfixes env (Step n op ps) = after_postfixes env ps

  pub after_arguments : Env → Arguments → Env
  after_arguments env NoArgument = env
  after_arguments env (Argument e es) = after_arguments (after_expr env e) es

  pub after_operations : Env → Operations → Env
  after_operations env NoOperation = env
  after_operations env (Operation n op e rest) = after_operations (after_expr env e) rest

  pub after_specifiers : Env → Specifiers → Env
  after_specifiers env NoSpecifier = env
  after_specifiers env (Storage n c ss) = after_specifiers env ss
  after_specifiers env (Qualified n q ss) = after_specifiers env ss
  after_specifiers env (Basic n b ss) = after_specifiers env ss
  after_specifiers env (TypedefName w ss) = after_specifiers env ss
  after_specifiers env (RecordTag n r tag ss) = after_specifiers env ss
  after_specifiers env (Record n r tag ms ss) = after_specifiers (after_members env ms) ss
  after_specifiers env (EnumTag n tag ss) = after_specifiers env ss
  after_specifiers env (Enum n tag es ss) = after_specifiers (after_enumerators env es) ss

  -- Members have a name space of their own (6.1.2.3).
  pub after_members : Env → Members → Env
  after_members env NoMember = env
  after_members env (Member ss ds ms) = after_members (after_member_declarators (after_specifiers env ss) ds) ms

  pub after_member_declarators : Env → MemberDeclarators → Env
  after_member_declarators env NoMemberDeclarator = env
  after_member_declarators env (PlainMember d ds) = after_member_declarators (after_declarator env d) ds
  after_member_declarators env (BitField d n e ds) = after_member_declarators (after_expr (after_declarator env d) e) ds
  after_member_declarators env (Padding n e ds) = after_member_declarators (after_expr env e) ds

  -- An enumerator's scope begins behind it, and so behind its value.
  pub after_enumerators : Env → Enumerators → Env
  after_enumerators env NoEnumerator = env
  after_enumerators env (PlainEnumerator w es) = after_enumerators (declare_plain w env) es
  after_enumerators env (ValuedEnumerator w e es) = after_enumerators (declare_plain w (after_expr env e)) es

  -- without the declared name, whose scope begins behind the declarator
  pub after_declarator : Env → Declarator → Env
  after_declarator env (Declaring ps core ss) = after_suffixes (after_core env core) ss

  pub after_core : Env → Core → Env
  after_core env Absent = env
  after_core env (Name w) = env
  after_core env (Enclosed n d) = after_declarator env d

  -- A list of parameters is a scope of its own.
  pub after_suffixes : Env → Suffixes → Env
  after_suffixes env NoSuffix = env
  after_suffixes env (Array n e ss) = after_suffixes (after_expr env e) ss
  after_suffixes env (OpenArray n ss) = after_suffixes env ss
  after_suffixes env (Prototype n ps ss) = after_suffixes env ss
  after_suffixes env (Variadic n ps ss) = after_suffixes env ss
  after_suffixes env (Identifiers n ws ss) = after_suffixes env ss

-- A parameter is an object, whatever its specifiers. Its scope begins behind its declarator.
abbrev pub after_parameter : Env → Specifiers → Declarator → Env
after_parameter env ss d = declare_name false (name_of d) (after_declarator (after_specifiers env ss) d)

-- within the scope of a list of parameters
abbrev pub after_parameters : Env → Parameters → Env
after_parameters env NoParameter = env
after_parameters env (Parameter ss d ps) = after_parameters (after_parameter env ss d) ps

abbrev pub after_optional : Env → Option Expr → Env
after_optional env None = env
after_optional env (Some e) = after_expr env e

-- ---- declarations

unfoldable mutual
  pub after_init : Env → Init → Env
  after_init env (Value e) = after_expr env e
  after_init env (Braces n is trailing) = after_inits env is

  pub after_inits : Env → Inits → Env
  after_inits env NoInit = env
  after_inits env (Listed i is) = after_inits (after_init env i) is

abbrev pub after_initializer : Env → Option Initializer → Env
after_initializer env None = env
after_initializer env (Some i) = after_init env i.init

-- A declared name's scope begins behind its declarator, before its initializer.
abbrev pub after_name : Env → Specifiers → Declarator → Env
after_name env ss d = declare ss d (after_declarator env d)

abbrev pub after_init_declarators : Env → Specifiers → List InitDeclarator → Env
after_init_declarators env ss [] = env
after_init_declarators env ss (d ∷ ds) =
    after_init_declarators (after_initializer (after_name env ss d.declarator) d.initializer) ss ds

abbrev pub after_decl : Env → Decl → Env
after_decl env d = after_init_declarators (after_specifiers env d.specifiers) d.specifiers d.declarators

abbrev pub after_decls : Env → List Decl → Env
after_decls env [] = env
after_decls env (d ∷ ds) = after_decls (after_decl env d) ds

-- ---- statements: a block is a scope of its own

abbrev pub after_label : Env → Label → Env
after_label env (CaseLabel n e) = after_expr env e
after_label env (DefaultLabel n) = env
after_label env (NameLabel w) = env

abbrev pub after_labels : Env → List Label → Env
after_labels env [] = env
after_labels env (l ∷ ls) = after_labels (after_label env l) ls

unfoldable mutual
  pub after_stmt : Env → Stmt → Env
  after_stmt env (Expression e) = after_expr env e
  after_stmt env (Labeled ls s) = after_stmt (after_labels env ls) s
  after_stmt env (If n c s a) = after_alternative (after_stmt (after_expr env c) s) a
  after_stmt env (Switch n e s) = after_stmt (after_expr env e) s
  after_stmt env (While n e s) = after_stmt (after_expr env e) s
  after_stmt env (Do n s e) = after_expr (after_stmt env s) e
  after_stmt env (For n a b c s) = after_stmt (after_optional (after_optional (after_optional env a) b) c) s
  after_stmt env (Return n e) = after_optional env e
  after_stmt env s = env

  pub after_alternative : Env → Alternative → Env
  after_alternative env NoElse = env
  after_alternative env (Otherwise s) = after_stmt env s
  after_alternative env (ElseIf n c s a) = after_alternative (after_stmt (after_expr env c) s) a

-- ---- functions

-- the suffixes that stand nearest to the name
abbrev mutual
  pub behind_name : Declarator → Suffixes → Suffixes
  behind_name (Declaring ps core NoSuffix) outer = behind_core core outer
  behind_name (Declaring ps core ss) outer = behind_core core ss

  pub behind_core : Core → Suffixes → Suffixes
  behind_core Absent ss = ss
  behind_core (Name w) ss = ss
  behind_core (Enclosed n d) ss = behind_name d ss

-- with the parameters of the first suffix, where it is a list of them
abbrev pub enter_first : Env → Suffixes → Env
enter_first env NoSuffix = env
enter_first env (Array n e ss) = env
enter_first env (OpenArray n ss) = env
enter_first env (Prototype n ps ss) = after_parameters env ps
enter_first env (Variadic n ps ss) = after_parameters env ps
enter_first env (Identifiers n ws ss) = declare_plains ws env

-- The parameters in the suffix nearest to a function's name are visible in its body (6.1.2.1, 6.7.1).
abbrev pub enter : Env → Declarator → Env
enter env d = enter_first env (behind_name d NoSuffix)

-- what an external declaration declares
abbrev pub after_external : Env → External → Env
after_external env (Definition f) = after_name (after_specifiers env f.specifiers) f.specifiers f.declarator
after_external env (Declaration d) = after_decl env d
