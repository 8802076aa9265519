-- The nodes of a tree that was numbered have the numbers of their tokens.
use Rattle.std.proofs.Common.{ℕ, Bool, true, false, List, [], ◌∷◌, Option, Some, None, refl}
use Rattle.pw_tree.specs.Numbering.{NumberedIdentifiers, NumberedStrings, NumberedTag, NumberedPointers, Numbered, NumberedPostfixes, NumberedArguments, NumberedOperations, NumberedSpecifiers, NumberedMembers, NumberedMemberDeclarators, NumberedEnumerators, NumberedDeclarator, NumberedCore, NumberedSuffixes, NumberedParameters, NumberedOptional, NumberedInit, NumberedInits, NumberedInitializer, NumberedInitDeclarators, NumberedDecl, NumberedDecls, NumberedLabel, NumberedLabels, NumberedStmt, NumberedAlternative, NumberedBlock, NumberedStmts, NumberedFunction, NumberedExternal, NumberedExternals, NumberedModule}
use Rattle.pw_tree.specs.Trees.{Word, Pointer, Expr, Identifier, Number, Floating, Character, Wide, Strings, Paren, Postfix, Unary, SizeofType, Cast, Chain, Conditional, Assign, Postfixes, NoPostfix, Index, Call, Select, Step, Arguments, NoArgument, Argument, Operations, NoOperation, Operation, Specifiers, NoSpecifier, Storage, Qualified, Basic, TypedefName, RecordTag, Record, EnumTag, Enum, Members, NoMember, Member, MemberDeclarators, NoMemberDeclarator, PlainMember, BitField, Padding, Enumerators, NoEnumerator, PlainEnumerator, ValuedEnumerator, Declarator, Declaring, Core, Absent, Name, Enclosed, Suffixes, NoSuffix, Array, OpenArray, Prototype, Variadic, Identifiers, Parameters, NoParameter, Parameter, Init, Value, Braces, Inits, NoInit, Listed, Initializer, InitDeclarator, Decl, Label, CaseLabel, DefaultLabel, NameLabel, Stmt, Compound, Expression, Labeled, If, Switch, While, Do, For, Goto, Return, Alternative, NoElse, Otherwise, ElseIf, Block, Braced, Stmts, NoStmt, Next, Function, External, Definition, Declaration, Module}
use Rattle.pw_parse_grammar.specs.TokenNumbers.{number_identifiers, number_strings, number_tag, number_pointers, number_expr, number_postfixes, number_arguments, number_operations, number_specifiers, number_members, number_member_declarators, number_enumerators, number_declarator, number_core, number_suffixes, number_parameters, number_optional, number_init, number_inits, number_initializer, number_init_declarators, number_decl, number_decls, number_label, number_labels, number_stmt, number_alternative, number_block, number_stmts, number_function, number_external, number_externals, number_module}

-- ---- lists of words

pub numbered-identifiers : (first : Bool) (x : List Word) (n : ℕ) → NumberedIdentifiers first n (number_identifiers first n x)
numbered-identifiers first [] start = tt
numbered-identifiers first (w ∷ ws) start = (refl, numbered-identifiers false ws _)

pub numbered-strings : (x : List Word) (n : ℕ) → NumberedStrings n (number_strings n x)
numbered-strings [] start = tt
numbered-strings (w ∷ ws) start = (refl, numbered-strings ws _)

pub numbered-tag : (x : Option Word) (n : ℕ) → NumberedTag n (number_tag n x)
numbered-tag None start = tt
numbered-tag (Some w) start = refl

pub numbered-pointers : (x : List Pointer) (n : ℕ) → NumberedPointers n (number_pointers n x)
numbered-pointers [] start = tt
numbered-pointers (p ∷ ps) start = (refl, numbered-pointers ps _)

-- ---- expressions, specifiers and declarators

mutual
  unfolding Numbered number_expr

  pub numbered-expr : (x : Expr) (n : ℕ) → Numbered n (number_expr n x)
  numbered-expr (Identifier w) start = refl
  numbered-expr (Number w) start = refl
  numbered-expr (Floating w) start = refl
  numbered-expr (Character w) start = refl
  numbered-expr (Wide w) start = refl
  numbered-expr (Strings ws) start = numbered-strings ws _
  numbered-expr (Paren t e) start = (refl, numbered-expr e _)
  numbered-expr (Postfix e ps) start = (numbered-expr e _, numbered-postfixes ps _)
  numbered-expr (Unary t op e) start = (refl, numbered-expr e _)
  numbered-expr (SizeofType t ss d) start = (refl, numbered-specifiers ss _, numbered-declarator d _)
  numbered-expr (Cast t ss d e) start = (refl, numbered-specifiers ss _, numbered-declarator d _, numbered-expr e _)
  numbered-expr (Chain e ops) start = (numbered-expr e _, numbered-operations ops _)
  numbered-expr (Conditional t c a b) start = (numbered-expr c _, refl, numbered-expr a _, numbered-expr b _)
  numbered-expr (Assign t op l r) start = (numbered-expr l _, refl, numbered-expr r _)

  pub numbered-postfixes : (x : Postfixes) (n : ℕ) → NumberedPostfixes n (number_postfixes n x)
  numbered-postfixes NoPostfix start = tt
  numbered-postfixes (Index t e ps) start = (refl, numbered-expr e _, numbered-postfixes ps _)
  numbered-postfixes (Call t es ps) start = (refl, numbered-arguments true es _, numbered-postfixes ps _)
  numbered-postfixes (Select t a w ps) start = (refl, refl, numbered-postfixes ps _)
  numbered-postfixes (Step t op ps) start = (refl, numbered-postfixes ps _)

  pub numbered-arguments : (first : Bool) (x : Arguments) (n : ℕ) → NumberedArguments first n (number_arguments first n x)
  numbered-arguments first NoArgument start = tt
  numbered-arguments first (Argument e es) start = (numbered-expr e _, numbered-arguments false es _)

  pub numbered-operations : (x : Operations) (n : ℕ) → NumberedOperations n (number_operations n x)
  numbered-operations NoOperation start = tt
  numbered-operations (Operation t op e rest) start = (refl, numbered-expr e _, numbered-operations rest _)

  pub numbered-specifiers : (x : Specifiers) (n : ℕ) → NumberedSpecifiers n (number_specifiers n x)
  numbered-specifiers NoSpecifier start = tt
  numbered-specifiers (Storage t c ss) start = (refl, numbered-specifiers ss _)
  numbered-specifiers (Qualified t q ss) start = (refl, numbered-specifiers ss _)
  numbered-specifiers (Basic t b ss) start = (refl, numbered-specifiers ss _)
  numbered-specifiers (TypedefName w ss) start = (refl, numbered-specifiers ss _)
  numbered-specifiers (RecordTag t r tag ss) start = (refl, refl, numbered-specifiers ss _)
  numbered-specifiers (Record t r tag ms ss) start = (refl, numbered-tag tag _, numbered-members ms _, numbered-specifiers ss _)
  numbered-specifiers (EnumTag t tag ss) start = (refl, refl, numbered-specifiers ss _)
  numbered-specifiers (Enum t tag es ss) start = (refl, numbered-tag tag _, numbered-enumerators true es _, numbered-specifiers ss _)

  pub numbered-members : (x : Members) (n : ℕ) → NumberedMembers n (number_members n x)
  numbered-members NoMember start = tt
  numbered-members (Member ss ds ms) start = (numbered-specifiers ss _, numbered-member_declarators true ds _, numbered-members ms _)

  pub numbered-member_declarators : (first : Bool) (x : MemberDeclarators) (n : ℕ) → NumberedMemberDeclarators first n (number_member_declarators first n x)
  numbered-member_declarators first NoMemberDeclarator start = tt
  numbered-member_declarators first (PlainMember d ds) start = (numbered-declarator d _, numbered-member_declarators false ds _)
  numbered-member_declarators first (BitField d t e ds) start = (numbered-declarator d _, refl, numbered-expr e _, numbered-member_declarators false ds _)
  numbered-member_declarators first (Padding t e ds) start = (refl, numbered-expr e _, numbered-member_declarators false ds _)

  pub numbered-enumerators : (first : Bool) (x : Enumerators) (n : ℕ) → NumberedEnumerators first n (number_enumerators first n x)
  numbered-enumerators first NoEnumerator start = tt
  numbered-enumerators first (PlainEnumerator w es) start = (refl, numbered-enumerators false es _)
  numbered-enumerators first (ValuedEnumerator w e es) start = (refl, numbered-expr e _, numbered-enumerators false es _)

  pub numbered-declarator : (x : Declarator) (n : ℕ) → NumberedDeclarator n (number_declarator n x)
  numbered-declarator (Declaring ps c fs) start = (numbered-pointers ps _, numbered-core c _, numbered-suffixes fs _)

  pub numbered-core : (x : Core) (n : ℕ) → NumberedCore n (number_core n x)
  numbered-core Absent start = tt
  numbered-core (Name w) start = refl
  numbered-core (Enclosed t d) start = (refl, numbered-declarator d _)

  pub numbered-suffixes : (x : Suffixes) (n : ℕ) → NumberedSuffixes n (number_suffixes n x)
  numbered-suffixes NoSuffix start = tt
  numbered-suffixes (Array t e fs) start = (refl, numbered-expr e _, numbered-suffixes fs _)
  numbered-suffixes (OpenArray t fs) start = (refl, numbered-suffixes fs _)
  numbered-suffixes (Prototype t ps fs) start = (refl, numbered-parameters true ps _, numbered-suffixes fs _)
  numbered-suffixes (Variadic t ps fs) start = (refl, numbered-parameters true ps _, numbered-suffixes fs _)
  numbered-suffixes (Identifiers t ws fs) start = (refl, numbered-identifiers true ws _, numbered-suffixes fs _)

  pub numbered-parameters : (first : Bool) (x : Parameters) (n : ℕ) → NumberedParameters first n (number_parameters first n x)
  numbered-parameters first NoParameter start = tt
  numbered-parameters first (Parameter ss d ps) start = (numbered-specifiers ss _, numbered-declarator d _, numbered-parameters false ps _)

pub numbered-optional : (x : Option Expr) (n : ℕ) → NumberedOptional n (number_optional n x)
numbered-optional None start = tt
numbered-optional (Some e) start = numbered-expr e _

-- ---- declarations

mutual
  unfolding NumberedInit number_init

  pub numbered-init : (x : Init) (n : ℕ) → NumberedInit n (number_init n x)
  numbered-init (Value e) start = numbered-expr e _
  numbered-init (Braces t is trailing) start = (refl, numbered-inits true is _)

  pub numbered-inits : (first : Bool) (x : Inits) (n : ℕ) → NumberedInits first n (number_inits first n x)
  numbered-inits first NoInit start = tt
  numbered-inits first (Listed i is) start = (numbered-init i _, numbered-inits false is _)

pub numbered-initializer : (x : Option Initializer) (n : ℕ) → NumberedInitializer n (number_initializer n x)
numbered-initializer None start = tt
numbered-initializer (Some i) start = (refl, numbered-init i.init _)

pub numbered-init_declarators : (first : Bool) (x : List InitDeclarator) (n : ℕ) → NumberedInitDeclarators first n (number_init_declarators first n x)
numbered-init_declarators first [] start = tt
numbered-init_declarators first (d ∷ ds) start = (numbered-declarator d.declarator _, numbered-initializer d.initializer _, numbered-init_declarators false ds _)

pub numbered-decl : (x : Decl) (n : ℕ) → NumberedDecl n (number_decl n x)
numbered-decl d start = (numbered-specifiers d.specifiers _, numbered-init_declarators true d.declarators _)

pub numbered-decls : (x : List Decl) (n : ℕ) → NumberedDecls n (number_decls n x)
numbered-decls [] start = tt
numbered-decls (d ∷ ds) start = (numbered-decl d _, numbered-decls ds _)

-- ---- statements

pub numbered-label : (x : Label) (n : ℕ) → NumberedLabel n (number_label n x)
numbered-label (CaseLabel t e) start = (refl, numbered-expr e _)
numbered-label (DefaultLabel t) start = refl
numbered-label (NameLabel w) start = refl

pub numbered-labels : (x : List Label) (n : ℕ) → NumberedLabels n (number_labels n x)
numbered-labels [] start = tt
numbered-labels (l ∷ ls) start = (numbered-label l _, numbered-labels ls _)

mutual
  unfolding NumberedStmt number_stmt

  pub numbered-stmt : (x : Stmt) (n : ℕ) → NumberedStmt n (number_stmt n x)
  numbered-stmt (Compound b) start = numbered-block b _
  numbered-stmt (Expression e) start = numbered-expr e _
  numbered-stmt (Labeled ls s) start = (numbered-labels ls _, numbered-stmt s _)
  numbered-stmt (If t c s a) start = (refl, numbered-expr c _, numbered-stmt s _, numbered-alternative a _)
  numbered-stmt (Switch t e s) start = (refl, numbered-expr e _, numbered-stmt s _)
  numbered-stmt (While t e s) start = (refl, numbered-expr e _, numbered-stmt s _)
  numbered-stmt (Do t s e) start = (refl, numbered-stmt s _, numbered-expr e _)
  numbered-stmt (For t a b c s) start = (refl, numbered-optional a _, numbered-optional b _, numbered-optional c _, numbered-stmt s _)
  numbered-stmt (Goto t w) start = (refl, refl)
  numbered-stmt (Return t e) start = (refl, numbered-optional e _)
  numbered-stmt _ start = refl

  pub numbered-alternative : (x : Alternative) (n : ℕ) → NumberedAlternative n (number_alternative n x)
  numbered-alternative NoElse start = tt
  numbered-alternative (Otherwise s) start = numbered-stmt s _
  numbered-alternative (ElseIf t c s a) start = (refl, numbered-expr c _, numbered-stmt s _, numbered-alternative a _)

  pub numbered-block : (x : Block) (n : ℕ) → NumberedBlock n (number_block n x)
  numbered-block (Braced t ds ss) start = (refl, numbered-decls ds _, numbered-stmts ss _)

  pub numbered-stmts : (x : Stmts) (n : ℕ) → NumberedStmts n (number_stmts n x)
  numbered-stmts NoStmt start = tt
  numbered-stmts (Next s ss) start = (numbered-stmt s _, numbered-stmts ss _)

-- ---- modules

pub numbered-function : (x : Function) (n : ℕ) → NumberedFunction n (number_function n x)
numbered-function f start = (numbered-specifiers f.specifiers _, numbered-declarator f.declarator _, numbered-decls f.declarations _, numbered-block f.body _)

pub numbered-external : (x : External) (n : ℕ) → NumberedExternal n (number_external n x)
numbered-external (Definition f) start = numbered-function f _
numbered-external (Declaration d) start = numbered-decl d _

pub numbered-externals : (x : List External) (n : ℕ) → NumberedExternals n (number_externals n x)
numbered-externals [] start = tt
numbered-externals (e ∷ es) start = (numbered-external e _, numbered-externals es _)

pub numbered-module : (x : Module) → NumberedModule (number_module x)
numbered-module x = numbered-externals x.externals 1
