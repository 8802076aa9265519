-- What the words of a tree spell: each spells what its place in the tree says, as an identifier or an integer constant (6.1).
use Rattle.std.specs.Prelude.{List, [], ◌∷◌, Option, Some, None}
use Rattle.pw_token.specs.Spelling.{Spells}
use Rattle.pw_token.specs.declared.token.TokenKind.TheVariants as kind
use Rattle.pw_tree.specs.Trees.{Word, Expr, Identifier, Number, Floating, Character, Wide, Strings, Paren, Postfix, Unary, SizeofType, Cast, Chain, Conditional, Assign, Postfixes, NoPostfix, Index, Call, Select, Step, Arguments, NoArgument, Argument, Operations, NoOperation, Operation, Specifiers, NoSpecifier, Storage, Qualified, Basic, TypedefName, RecordTag, Record, EnumTag, Enum, Members, NoMember, Member, MemberDeclarators, NoMemberDeclarator, PlainMember, BitField, Padding, Enumerators, NoEnumerator, PlainEnumerator, ValuedEnumerator, Declarator, Declaring, Core, Absent, Name, Enclosed, Suffixes, NoSuffix, Array, OpenArray, Prototype, Variadic, Identifiers, Parameters, NoParameter, Parameter, Init, Value, Braces, Inits, NoInit, Listed, Initializer, InitDeclarator, Decl, Label, CaseLabel, DefaultLabel, NameLabel, Stmt, Compound, Expression, Labeled, If, Switch, While, Do, For, Goto, Return, Alternative, NoElse, Otherwise, ElseIf, Block, Braced, Stmts, NoStmt, Next, External, Definition, Declaration, Module}

abbrev pub IsIdentifier : Word → Type 0
IsIdentifier w = Spells kind.Identifier w.text

abbrev pub AreIdentifiers : List Word → Type 0
AreIdentifiers [] = Unit {0}
AreIdentifiers (w ∷ ws) = IsIdentifier w × AreIdentifiers ws

abbrev pub AreStrings : List Word → Type 0
AreStrings [] = Unit {0}
AreStrings (w ∷ ws) = Spells kind.Text w.text × AreStrings ws

abbrev pub IsTag : Option Word → Type 0
IsTag None = Unit {0}
IsTag (Some w) = IsIdentifier w

-- ---- expressions, specifiers and declarators

unfoldable mutual
  -- 6.3
  pub WordsSpell : Expr → Type 0
  WordsSpell (Identifier w) = IsIdentifier w
  WordsSpell (Number w) = Spells kind.Number w.text
  WordsSpell (Floating w) = Spells kind.Floating w.text
  WordsSpell (Character w) = Spells kind.Character w.text
  WordsSpell (Wide w) = Spells kind.Wide w.text
  WordsSpell (Strings ws) = AreStrings ws
  WordsSpell (Paren n e) = WordsSpell e
  WordsSpell (Postfix e ps) = WordsSpell e × WordsSpellPostfixes ps
  WordsSpell (Unary n op e) = WordsSpell e
  WordsSpell (SizeofType n ss d) = WordsSpellSpecifiers ss × WordsSpellDeclarator d
  WordsSpell (Cast n ss d e) = WordsSpellSpecifiers ss × WordsSpellDeclarator d × WordsSpell e
  WordsSpell (Chain e ops) = WordsSpell e × WordsSpellOperations ops
  WordsSpell (Conditional n c a b) = WordsSpell c × WordsSpell a × WordsSpell b
  WordsSpell (Assign n op l r) = WordsSpell l × WordsSpell r

  pub WordsSpellPostfixes : Postfixes → Type 0
  WordsSpellPostfixes NoPostfix = Unit {0}
  WordsSpellPostfixes (Index n e ps) = WordsSpell e × WordsSpellPostfixes ps
  WordsSpellPostfixes (Call n es ps) = WordsSpellArguments es × WordsSpellPostfixes ps
  WordsSpellPostfixes (Select n a w ps) = IsIdentifier w × WordsSpellPostfixes ps
  WordsSpellPostfixes (Step n op ps) = WordsSpellPostfixes ps

  pub WordsSpellArguments : Arguments → Type 0
  WordsSpellArguments NoArgument = Unit {0}
  WordsSpellArguments (Argument e es) = WordsSpell e × WordsSpellArguments es

  pub WordsSpellOperations : Operations → Type 0
  WordsSpellOperations NoOperation = Unit {0}
  WordsSpellOperations (Operation n op e rest) = WordsSpell e × WordsSpellOperations rest

  -- 6.5
  pub WordsSpellSpecifiers : Specifiers → Type 0
  WordsSpellSpecifiers NoSpecifier = Unit {0}
  WordsSpellSpecifiers (Storage n c ss) = WordsSpellSpecifiers ss
  WordsSpellSpecifiers (Qualified n q ss) = WordsSpellSpecifiers ss
  WordsSpellSpecifiers (Basic n b ss) = WordsSpellSpecifiers ss
  WordsSpellSpecifiers (TypedefName w ss) = IsIdentifier w × WordsSpellSpecifiers ss
  WordsSpellSpecifiers (RecordTag n r tag ss) = IsIdentifier tag × WordsSpellSpecifiers ss
  WordsSpellSpecifiers (Record n r tag ms ss) = IsTag tag × WordsSpellMembers ms × WordsSpellSpecifiers ss
  WordsSpellSpecifiers (EnumTag n tag ss) = IsIdentifier tag × WordsSpellSpecifiers ss
  WordsSpellSpecifiers (Enum n tag es ss) = IsTag tag × WordsSpellEnumerators es × WordsSpellSpecifiers ss

  -- 6.5.2.1
  pub WordsSpellMembers : Members → Type 0
  WordsSpellMembers NoMember = Unit {0}
  WordsSpellMembers (Member ss ds ms) = WordsSpellSpecifiers ss × WordsSpellMemberDeclarators ds × WordsSpellMembers ms

  pub WordsSpellMemberDeclarators : MemberDeclarators → Type 0
  WordsSpellMemberDeclarators NoMemberDeclarator = Unit {0}
  WordsSpellMemberDeclarators (PlainMember d ds) = WordsSpellDeclarator d × WordsSpellMemberDeclarators ds
  WordsSpellMemberDeclarators (BitField d n e ds) = WordsSpellDeclarator d × WordsSpell e × WordsSpellMemberDeclarators ds
  WordsSpellMemberDeclarators (Padding n e ds) = WordsSpell e × WordsSpellMemberDeclarators ds

  -- 6.5.2.2
  pub WordsSpellEnumerators : Enumerators → Type 0
  WordsSpellEnumerators NoEnumerator = Unit {0}
  WordsSpellEnumerators (PlainEnumerator w es) = IsIdentifier w × WordsSpellEnumerators es
  WordsSpellEnumerators (ValuedEnumerator w e es) = IsIdentifier w × WordsSpell e × WordsSpellEnumerators es

  -- 6.5.4, 6.5.5
  pub WordsSpellDeclarator : Declarator → Type 0
  WordsSpellDeclarator (Declaring ps core ss) = WordsSpellCore core × WordsSpellSuffixes ss

  pub WordsSpellCore : Core → Type 0
  WordsSpellCore Absent = Unit {0}
  WordsSpellCore (Name w) = IsIdentifier w
  WordsSpellCore (Enclosed n d) = WordsSpellDeclarator d

  -- 6.5.4.2, 6.5.4.3
  pub WordsSpellSuffixes : Suffixes → Type 0
  WordsSpellSuffixes NoSuffix = Unit {0}
  WordsSpellSuffixes (Array n e ss) = WordsSpell e × WordsSpellSuffixes ss
  WordsSpellSuffixes (OpenArray n ss) = WordsSpellSuffixes ss
  WordsSpellSuffixes (Prototype n ps ss) = WordsSpellParameters ps × WordsSpellSuffixes ss
  WordsSpellSuffixes (Variadic n ps ss) = WordsSpellParameters ps × WordsSpellSuffixes ss
  WordsSpellSuffixes (Identifiers n ws ss) = AreIdentifiers ws × WordsSpellSuffixes ss

  pub WordsSpellParameters : Parameters → Type 0
  WordsSpellParameters NoParameter = Unit {0}
  WordsSpellParameters (Parameter ss d ps) = WordsSpellSpecifiers ss × WordsSpellDeclarator d × WordsSpellParameters ps

abbrev pub WordsSpellOptional : Option Expr → Type 0
WordsSpellOptional None = Unit {0}
WordsSpellOptional (Some e) = WordsSpell e

-- ---- declarations

unfoldable mutual
  -- 6.5.7
  pub WordsSpellInit : Init → Type 0
  WordsSpellInit (Value e) = WordsSpell e
  WordsSpellInit (Braces n is trailing) = WordsSpellInits is

  pub WordsSpellInits : Inits → Type 0
  WordsSpellInits NoInit = Unit {0}
  WordsSpellInits (Listed i is) = WordsSpellInit i × WordsSpellInits is

abbrev pub WordsSpellInitializer : Option Initializer → Type 0
WordsSpellInitializer None = Unit {0}
WordsSpellInitializer (Some i) = WordsSpellInit i.init

abbrev pub WordsSpellInitDeclarators : List InitDeclarator → Type 0
WordsSpellInitDeclarators [] = Unit {0}
WordsSpellInitDeclarators (d ∷ ds) = WordsSpellDeclarator d.declarator × WordsSpellInitializer d.initializer × WordsSpellInitDeclarators ds

-- 6.5
abbrev pub WordsSpellDecl : Decl → Type 0
WordsSpellDecl d = WordsSpellSpecifiers d.specifiers × WordsSpellInitDeclarators d.declarators

abbrev pub WordsSpellDecls : List Decl → Type 0
WordsSpellDecls [] = Unit {0}
WordsSpellDecls (d ∷ ds) = WordsSpellDecl d × WordsSpellDecls ds

-- ---- statements

-- 6.6.1
abbrev pub WordsSpellLabel : Label → Type 0
WordsSpellLabel (CaseLabel n e) = WordsSpell e
WordsSpellLabel (DefaultLabel n) = Unit {0}
WordsSpellLabel (NameLabel w) = IsIdentifier w

abbrev pub WordsSpellLabels : List Label → Type 0
WordsSpellLabels [] = Unit {0}
WordsSpellLabels (l ∷ ls) = WordsSpellLabel l × WordsSpellLabels ls

unfoldable mutual
  -- 6.6
  pub WordsSpellStmt : Stmt → Type 0
  WordsSpellStmt (Compound b) = WordsSpellBlock b
  WordsSpellStmt (Expression e) = WordsSpell e
  WordsSpellStmt (Labeled ls s) = WordsSpellLabels ls × WordsSpellStmt s
  WordsSpellStmt (If n c s a) = WordsSpell c × WordsSpellStmt s × WordsSpellAlternative a
  WordsSpellStmt (Switch n e s) = WordsSpell e × WordsSpellStmt s
  WordsSpellStmt (While n e s) = WordsSpell e × WordsSpellStmt s
  WordsSpellStmt (Do n s e) = WordsSpellStmt s × WordsSpell e
  WordsSpellStmt (For n a b c s) = WordsSpellOptional a × WordsSpellOptional b × WordsSpellOptional c × WordsSpellStmt s
  WordsSpellStmt (Goto n w) = IsIdentifier w
  WordsSpellStmt (Return n e) = WordsSpellOptional e
  WordsSpellStmt s = Unit {0}

  pub WordsSpellAlternative : Alternative → Type 0
  WordsSpellAlternative NoElse = Unit {0}
  WordsSpellAlternative (Otherwise s) = WordsSpellStmt s
  WordsSpellAlternative (ElseIf n c s a) = WordsSpell c × WordsSpellStmt s × WordsSpellAlternative a

  pub WordsSpellBlock : Block → Type 0
  WordsSpellBlock (Braced n ds ss) = WordsSpellDecls ds × WordsSpellStmts ss

  pub WordsSpellStmts : Stmts → Type 0
  WordsSpellStmts NoStmt = Unit {0}
  WordsSpellStmts (Next s ss) = WordsSpellStmt s × WordsSpellStmts ss

-- ---- modules

-- 6.7
abbrev pub WordsSpellExternal : External → Type 0
WordsSpellExternal (Definition f) = WordsSpellSpecifiers f.specifiers × WordsSpellDeclarator f.declarator × WordsSpellDecls f.declarations × WordsSpellBlock f.body
WordsSpellExternal (Declaration d) = WordsSpellDecl d

abbrev pub WordsSpellExternals : List External → Type 0
WordsSpellExternals [] = Unit {0}
WordsSpellExternals (e ∷ es) = WordsSpellExternal e × WordsSpellExternals es

abbrev pub WordsSpellModule : Module → Type 0
WordsSpellModule tree = WordsSpellExternals tree.externals
