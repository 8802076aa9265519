-- Which trees are well formed: the grammar of C90 6.3 to 6.7 as far as the trees' types don't say it already.
use Rattle.std.specs.Prelude.{◌≡◌, ℕ, ◌<◌, ◌≤◌, Bool, true, false, not, ◌||◌, List, [], ◌∷◌, Option, Some, None}
use Rattle.pw_tree.specs.Levels.{level, binary_level, chain_level, primary, unary, cast, logical_or, conditional, assignment}
use Rattle.pw_tree.specs.Scopes.{Env, is_typedef_name, has_type, after_expr, after_arguments, after_specifiers, after_members, after_member_declarators, after_enumerators, declare_plain, after_declarator, after_core, after_parameter, after_optional, after_init, after_initializer, after_name, after_decl, after_decls, after_label, after_labels, after_stmt, enter, after_external}
use Rattle.pw_tree.specs.Trees.{Word, Expr, Identifier, Number, Floating, Character, Wide, Strings, Paren, Postfix, Unary, SizeofType, Cast, Chain, Conditional, Assign, Postfixes, NoPostfix, Index, Call, Select, Step, Arguments, NoArgument, Argument, Operations, NoOperation, Operation, Specifiers, NoSpecifier, Storage, Qualified, Basic, TypedefName, RecordTag, Record, EnumTag, Enum, Members, NoMember, Member, MemberDeclarators, NoMemberDeclarator, PlainMember, BitField, Padding, Enumerators, NoEnumerator, PlainEnumerator, ValuedEnumerator, Declarator, Declaring, Core, Absent, Name, Enclosed, Suffixes, NoSuffix, Array, OpenArray, Prototype, Variadic, Identifiers, Parameters, NoParameter, Parameter, Init, Value, Braces, Inits, NoInit, Listed, Initializer, InitDeclarator, Decl, Label, CaseLabel, DefaultLabel, NameLabel, Stmt, Compound, Expression, Labeled, If, Switch, While, Do, For, Return, Alternative, NoElse, Otherwise, ElseIf, Block, Braced, Stmts, NoStmt, Next, Function, External, Definition, Declaration, Module}
use Rattle.pw_tree.specs.declared.operator.UnaryOperator.{UnaryOperator}
use Rattle.pw_tree.specs.declared.operator.UnaryOperator.TheVariants as u

-- ---- lists that are not empty

abbrev pub NotEmpty : {A : Type 0} → List A → Type 0
NotEmpty [] = ⊥
NotEmpty (x ∷ xs) = Unit {0}

abbrev pub HasPostfix : Postfixes → Type 0
HasPostfix NoPostfix = ⊥
HasPostfix _ = Unit {0}

abbrev pub HasSpecifier : Specifiers → Type 0
HasSpecifier NoSpecifier = ⊥
HasSpecifier _ = Unit {0}

abbrev pub HasMember : Members → Type 0
HasMember NoMember = ⊥
HasMember _ = Unit {0}

abbrev pub HasMemberDeclarator : MemberDeclarators → Type 0
HasMemberDeclarator NoMemberDeclarator = ⊥
HasMemberDeclarator _ = Unit {0}

abbrev pub HasEnumerator : Enumerators → Type 0
HasEnumerator NoEnumerator = ⊥
HasEnumerator _ = Unit {0}

abbrev pub HasParameter : Parameters → Type 0
HasParameter NoParameter = ⊥
HasParameter _ = Unit {0}

abbrev pub HasInit : Inits → Type 0
HasInit NoInit = ⊥
HasInit _ = Unit {0}

-- ---- identifiers

-- An identifier that is visible as a typedef name is a type specifier and nothing else, where no exception is named.
abbrev pub NotTypedef : Env → Word → Type 0
NotTypedef env w = is_typedef_name env w.text ≡ false

abbrev pub NoneTypedef : Env → List Word → Type 0
NoneTypedef env [] = Unit {0}
NoneTypedef env (w ∷ ws) = NotTypedef env w × NoneTypedef env ws

-- A declared name may be one where a type specifier stands before it: then it is declared anew (6.5.6).
abbrev pub MayDeclare : Env → Bool → Word → Type 0
MayDeclare env typed w = (typed || not (is_typedef_name env w.text)) ≡ true

-- ---- specifiers and declarators apart from what they hold

-- no storage class: a specifier-qualifier-list (6.5.2.1)
abbrev pub NoStorage : Specifiers → Type 0
NoStorage NoSpecifier = Unit {0}
NoStorage (Storage n c ss) = ⊥
NoStorage (Qualified n q ss) = NoStorage ss
NoStorage (Basic n b ss) = NoStorage ss
NoStorage (TypedefName w ss) = NoStorage ss
NoStorage (RecordTag n r tag ss) = NoStorage ss
NoStorage (Record n r tag ms ss) = NoStorage ss
NoStorage (EnumTag n tag ss) = NoStorage ss
NoStorage (Enum n tag es ss) = NoStorage ss

-- where a declarator stands
pub data Place : Type 0 where
  -- in a declaration of objects, functions or members: it has a name (6.5.4)
  Named : Place
  -- in a type name: it has none (6.5.5)
  Nameless : Place
  -- in a parameter: it may have one (6.5.4.3)
  Either : Place

-- something stands in the declarator
abbrev pub IsSomething : Declarator → Type 0
IsSomething (Declaring [] Absent NoSuffix) = ⊥
IsSomething _ = Unit {0}

-- the declarator begins with an identifier that is visible as a typedef name
abbrev pub begins_with_typedef : Env → Declarator → Bool
begins_with_typedef env (Declaring [] (Name w) ss) = is_typedef_name env w.text
begins_with_typedef env _ = false

-- In a parameter a typedef name behind `(` begins a list of parameters, and is no name in parentheses (6.5.4.3).
abbrev pub MayEnclose : Env → Place → Declarator → Type 0
MayEnclose env Either d = begins_with_typedef env d ≡ false
MayEnclose env Named d = Unit {0}
MayEnclose env Nameless d = Unit {0}

abbrev mutual
  pub is_named : Declarator → Bool
  is_named (Declaring ps core ss) = has_name core

  pub has_name : Core → Bool
  has_name Absent = false
  has_name (Name w) = true
  has_name (Enclosed n d) = is_named d

-- the level of what an operator takes behind it (6.3.3)
abbrev pub operand_level : UnaryOperator → ℕ
operand_level u.Increment = unary
operand_level u.Decrement = unary
operand_level u.Sizeof = unary
operand_level u.Address = cast
operand_level u.Dereference = cast
operand_level u.Plus = cast
operand_level u.Minus = cast
operand_level u.Complement = cast
operand_level u.Not = cast

-- ---- expressions, specifiers and declarators, where these names are visible

unfoldable mutual
  -- 6.3
  pub WellFormed : Env → Expr → Type 0
  WellFormed env (Identifier w) = NotTypedef env w
  WellFormed env (Number w) = Unit {0}
  WellFormed env (Floating w) = Unit {0}
  WellFormed env (Character w) = Unit {0}
  WellFormed env (Wide w) = Unit {0}
  WellFormed env (Strings ws) = NotEmpty ws
  WellFormed env (Paren n e) = WellFormed env e
  WellFormed env (Postfix e ps) =
      (level e ≤ primary) × WellFormed env e × HasPostfix ps × WellFormedPostfixes (after_expr env e) ps
  WellFormed env (Unary n op e) = (level e ≤ operand_level op) × WellFormed env e
  WellFormed env (SizeofType n ss d) =
      HasSpecifier ss × NoStorage ss × WellFormedSpecifiers env false ss
      × WellFormedDeclarator (after_specifiers env ss) (has_type ss) Nameless d
  WellFormed env (Cast n ss d e) =
      HasSpecifier ss × NoStorage ss × WellFormedSpecifiers env false ss
      × WellFormedDeclarator (after_specifiers env ss) (has_type ss) Nameless d
      × (level e ≤ cast) × WellFormed (after_declarator (after_specifiers env ss) d) e
  WellFormed env (Chain e ops) =
      (level e < chain_level ops) × WellFormed env e × WellFormedOperations (after_expr env e) (chain_level ops) ops
  WellFormed env (Conditional n c a b) =
      (level c ≤ logical_or) × WellFormed env c × WellFormed (after_expr env c) a
      × (level b ≤ conditional) × WellFormed (after_expr (after_expr env c) a) b
  WellFormed env (Assign n op l r) =
      (level l ≤ unary) × WellFormed env l × (level r ≤ assignment) × WellFormed (after_expr env l) r

  -- 6.3.2
  pub WellFormedPostfixes : Env → Postfixes → Type 0
  WellFormedPostfixes env NoPostfix = Unit {0}
  WellFormedPostfixes env (Index n e ps) = WellFormed env e × WellFormedPostfixes (after_expr env e) ps
  WellFormedPostfixes env (Call n es ps) = WellFormedArguments env es × WellFormedPostfixes (after_arguments env es) ps
  WellFormedPostfixes env (Select n a w ps) = WellFormedPostfixes env ps
  WellFormedPostfixes env (Step n op ps) = WellFormedPostfixes env ps

  pub WellFormedArguments : Env → Arguments → Type 0
  WellFormedArguments env NoArgument = Unit {0}
  WellFormedArguments env (Argument e es) =
      (level e ≤ assignment) × WellFormed env e × WellFormedArguments (after_expr env e) es

  -- operators of one level k, each with an operand below it (6.3.5 to 6.3.14, 6.3.17)
  pub WellFormedOperations : Env → ℕ → Operations → Type 0
  WellFormedOperations env k NoOperation = Unit {0}
  WellFormedOperations env k (Operation n op e rest) =
      (binary_level op ≡ k) × (level e < k) × WellFormed env e × WellFormedOperations (after_expr env e) k rest

  -- 6.5; typed says that a type specifier stands before these in their list
  pub WellFormedSpecifiers : Env → Bool → Specifiers → Type 0
  WellFormedSpecifiers env typed NoSpecifier = Unit {0}
  WellFormedSpecifiers env typed (Storage n c ss) = WellFormedSpecifiers env typed ss
  WellFormedSpecifiers env typed (Qualified n q ss) = WellFormedSpecifiers env typed ss
  WellFormedSpecifiers env typed (Basic n b ss) = WellFormedSpecifiers env true ss
  WellFormedSpecifiers env typed (TypedefName w ss) =
      (typed ≡ false) × (is_typedef_name env w.text ≡ true) × WellFormedSpecifiers env true ss
  WellFormedSpecifiers env typed (RecordTag n r tag ss) = WellFormedSpecifiers env true ss
  WellFormedSpecifiers env typed (Record n r tag ms ss) =
      HasMember ms × WellFormedMembers env ms × WellFormedSpecifiers (after_members env ms) true ss
  WellFormedSpecifiers env typed (EnumTag n tag ss) = WellFormedSpecifiers env true ss
  WellFormedSpecifiers env typed (Enum n tag es ss) =
      HasEnumerator es × WellFormedEnumerators env es × WellFormedSpecifiers (after_enumerators env es) true ss

  -- 6.5.2.1
  pub WellFormedMembers : Env → Members → Type 0
  WellFormedMembers env NoMember = Unit {0}
  WellFormedMembers env (Member ss ds ms) =
      HasSpecifier ss × NoStorage ss × WellFormedSpecifiers env false ss
      × HasMemberDeclarator ds × WellFormedMemberDeclarators (after_specifiers env ss) (has_type ss) ds
      × WellFormedMembers (after_member_declarators (after_specifiers env ss) ds) ms

  pub WellFormedMemberDeclarators : Env → Bool → MemberDeclarators → Type 0
  WellFormedMemberDeclarators env typed NoMemberDeclarator = Unit {0}
  WellFormedMemberDeclarators env typed (PlainMember d ds) =
      WellFormedDeclarator env typed Named d × WellFormedMemberDeclarators (after_declarator env d) typed ds
  WellFormedMemberDeclarators env typed (BitField d n e ds) =
      WellFormedDeclarator env typed Named d × (level e ≤ conditional) × WellFormed (after_declarator env d) e
      × WellFormedMemberDeclarators (after_expr (after_declarator env d) e) typed ds
  WellFormedMemberDeclarators env typed (Padding n e ds) =
      (level e ≤ conditional) × WellFormed env e × WellFormedMemberDeclarators (after_expr env e) typed ds

  -- 6.5.2.2
  pub WellFormedEnumerators : Env → Enumerators → Type 0
  WellFormedEnumerators env NoEnumerator = Unit {0}
  WellFormedEnumerators env (PlainEnumerator w es) = WellFormedEnumerators (declare_plain w env) es
  WellFormedEnumerators env (ValuedEnumerator w e es) =
      (level e ≤ conditional) × WellFormed env e × WellFormedEnumerators (declare_plain w (after_expr env e)) es

  -- 6.5.4, 6.5.5; typed says that a type specifier stands before the declarator
  pub WellFormedDeclarator : Env → Bool → Place → Declarator → Type 0
  WellFormedDeclarator env typed place (Declaring ps core ss) =
      WellFormedCore env typed place core × WellFormedSuffixes (after_core env core) (has_name core) ss

  pub WellFormedCore : Env → Bool → Place → Core → Type 0
  WellFormedCore env typed Named Absent = ⊥
  WellFormedCore env typed Nameless Absent = Unit {0}
  WellFormedCore env typed Either Absent = Unit {0}
  WellFormedCore env typed Named (Name w) = MayDeclare env typed w
  WellFormedCore env typed Nameless (Name w) = ⊥
  WellFormedCore env typed Either (Name w) = MayDeclare env typed w
  WellFormedCore env typed place (Enclosed n d) =
      IsSomething d × MayEnclose env place d × WellFormedDeclarator env typed place d

  -- 6.5.4.2, 6.5.4.3; only behind a name may a list of identifiers stand
  pub WellFormedSuffixes : Env → Bool → Suffixes → Type 0
  WellFormedSuffixes env named NoSuffix = Unit {0}
  WellFormedSuffixes env named (Array n e ss) =
      (level e ≤ conditional) × WellFormed env e × WellFormedSuffixes (after_expr env e) named ss
  WellFormedSuffixes env named (OpenArray n ss) = WellFormedSuffixes env named ss
  WellFormedSuffixes env named (Prototype n ps ss) = WellFormedParameters env ps × WellFormedSuffixes env named ss
  WellFormedSuffixes env named (Variadic n ps ss) =
      HasParameter ps × WellFormedParameters env ps × WellFormedSuffixes env named ss
  WellFormedSuffixes env named (Identifiers n ws ss) =
      (named ≡ true) × NotEmpty ws × NoneTypedef env ws × WellFormedSuffixes env named ss

  pub WellFormedParameters : Env → Parameters → Type 0
  WellFormedParameters env NoParameter = Unit {0}
  WellFormedParameters env (Parameter ss d ps) =
      HasSpecifier ss × WellFormedSpecifiers env false ss
      × WellFormedDeclarator (after_specifiers env ss) (has_type ss) Either d
      × WellFormedParameters (after_parameter env ss d) ps

abbrev pub WellFormedOptional : Env → Option Expr → Type 0
WellFormedOptional env None = Unit {0}
WellFormedOptional env (Some e) = WellFormed env e

-- ---- declarations

unfoldable mutual
  -- 6.5.7
  pub WellFormedInit : Env → Init → Type 0
  WellFormedInit env (Value e) = (level e ≤ assignment) × WellFormed env e
  WellFormedInit env (Braces n is trailing) = HasInit is × WellFormedInits env is

  pub WellFormedInits : Env → Inits → Type 0
  WellFormedInits env NoInit = Unit {0}
  WellFormedInits env (Listed i is) = WellFormedInit env i × WellFormedInits (after_init env i) is

abbrev pub WellFormedInitializer : Env → Option Initializer → Type 0
WellFormedInitializer env None = Unit {0}
WellFormedInitializer env (Some i) = WellFormedInit env i.init

abbrev pub WellFormedInitDeclarators : Env → Specifiers → List InitDeclarator → Type 0
WellFormedInitDeclarators env ss [] = Unit {0}
WellFormedInitDeclarators env ss (d ∷ ds) =
    WellFormedDeclarator env (has_type ss) Named d.declarator
    × WellFormedInitializer (after_name env ss d.declarator) d.initializer
    × WellFormedInitDeclarators (after_initializer (after_name env ss d.declarator) d.initializer) ss ds

-- 6.5
abbrev pub WellFormedDecl : Env → Decl → Type 0
WellFormedDecl env d =
    HasSpecifier d.specifiers × WellFormedSpecifiers env false d.specifiers
    × WellFormedInitDeclarators (after_specifiers env d.specifiers) d.specifiers d.declarators

abbrev pub WellFormedDecls : Env → List Decl → Type 0
WellFormedDecls env [] = Unit {0}
WellFormedDecls env (d ∷ ds) = WellFormedDecl env d × WellFormedDecls (after_decl env d) ds

-- ---- statements

-- 6.6.1; a label's name may be visible as a typedef name
abbrev pub WellFormedLabel : Env → Label → Type 0
WellFormedLabel env (CaseLabel n e) = (level e ≤ conditional) × WellFormed env e
WellFormedLabel env (DefaultLabel n) = Unit {0}
WellFormedLabel env (NameLabel w) = Unit {0}

abbrev pub WellFormedLabels : Env → List Label → Type 0
WellFormedLabels env [] = Unit {0}
WellFormedLabels env (l ∷ ls) = WellFormedLabel env l × WellFormedLabels (after_label env l) ls

-- All labels before a statement stand in one list.
abbrev pub NotLabeled : Stmt → Type 0
NotLabeled (Labeled ls s) = ⊥
NotLabeled _ = Unit {0}

-- An `if` directly behind an `else` stands in the list of the `if` before.
abbrev pub NotIf : Stmt → Type 0
NotIf (If n c s a) = ⊥
NotIf _ = Unit {0}

-- The statement ends with an `if` that has no `else` and could have one.
abbrev mutual
  pub ends_open : Stmt → Bool
  ends_open (Labeled ls s) = ends_open s
  ends_open (If n c s a) = alternative_ends_open a
  ends_open (Switch n e s) = ends_open s
  ends_open (While n e s) = ends_open s
  ends_open (For n a b c s) = ends_open s
  ends_open s = false

  pub alternative_ends_open : Alternative → Bool
  alternative_ends_open NoElse = true
  alternative_ends_open (Otherwise s) = ends_open s
  alternative_ends_open (ElseIf n c s a) = alternative_ends_open a

-- An `else` belongs to the nearest `if` that can have it (6.6.4.1).
abbrev pub MayPrecede : Stmt → Alternative → Type 0
MayPrecede s NoElse = Unit {0}
MayPrecede s (Otherwise t) = ends_open s ≡ false
MayPrecede s (ElseIf n c t a) = ends_open s ≡ false

unfoldable mutual
  -- 6.6
  pub WellFormedStmt : Env → Stmt → Type 0
  WellFormedStmt env (Compound b) = WellFormedBlock env b
  WellFormedStmt env (Expression e) = WellFormed env e
  WellFormedStmt env (Labeled ls s) =
      NotEmpty ls × WellFormedLabels env ls × NotLabeled s × WellFormedStmt (after_labels env ls) s
  WellFormedStmt env (If n c s a) =
      WellFormed env c × WellFormedStmt (after_expr env c) s
      × MayPrecede s a × WellFormedAlternative (after_stmt (after_expr env c) s) a
  WellFormedStmt env (Switch n e s) = WellFormed env e × WellFormedStmt (after_expr env e) s
  WellFormedStmt env (While n e s) = WellFormed env e × WellFormedStmt (after_expr env e) s
  WellFormedStmt env (Do n s e) = WellFormedStmt env s × WellFormed (after_stmt env s) e
  WellFormedStmt env (For n a b c s) =
      WellFormedOptional env a × WellFormedOptional (after_optional env a) b
      × WellFormedOptional (after_optional (after_optional env a) b) c
      × WellFormedStmt (after_optional (after_optional (after_optional env a) b) c) s
  WellFormedStmt env (Return n e) = WellFormedOptional env e
  WellFormedStmt env s = Unit {0}

  -- 6.6.4.1
  pub WellFormedAlternative : Env → Alternative → Type 0
  WellFormedAlternative env NoElse = Unit {0}
  WellFormedAlternative env (Otherwise s) = NotIf s × WellFormedStmt env s
  WellFormedAlternative env (ElseIf n c s a) =
      WellFormed env c × WellFormedStmt (after_expr env c) s
      × MayPrecede s a × WellFormedAlternative (after_stmt (after_expr env c) s) a

  -- 6.6.2
  pub WellFormedBlock : Env → Block → Type 0
  WellFormedBlock env (Braced n ds ss) = WellFormedDecls env ds × WellFormedStmts (after_decls env ds) ss

  pub WellFormedStmts : Env → Stmts → Type 0
  WellFormedStmts env NoStmt = Unit {0}
  WellFormedStmts env (Next s ss) = WellFormedStmt env s × WellFormedStmts (after_stmt env s) ss

-- ---- modules

-- the names before the declarations of a function's parameters: the function's own and those of its parameters
abbrev pub in_function : Env → Function → Env
in_function env f = enter (after_name (after_specifiers env f.specifiers) f.specifiers f.declarator) f.declarator

-- 6.7.1; declarations may stand behind any declarator
abbrev pub WellFormedFunction : Env → Function → Type 0
WellFormedFunction env f =
    WellFormedSpecifiers env false f.specifiers
    × WellFormedDeclarator (after_specifiers env f.specifiers) (has_type f.specifiers) Named f.declarator
    × WellFormedDecls (in_function env f) f.declarations
    × WellFormedBlock (after_decls (in_function env f) f.declarations) f.body

-- 6.7
abbrev pub WellFormedExternal : Env → External → Type 0
WellFormedExternal env (Definition f) = WellFormedFunction env f
WellFormedExternal env (Declaration d) = WellFormedDecl env d

abbrev pub WellFormedExternals : Env → List External → Type 0
WellFormedExternals env [] = Unit {0}
WellFormedExternals env (e ∷ es) = WellFormedExternal env e × WellFormedExternals (after_external env e) es

-- A translation unit has an external declaration or more.
abbrev pub WellFormedModule : Module → Type 0
WellFormedModule tree = NotEmpty tree.externals × WellFormedExternals [] tree.externals
