-- Token numbers: each node has the number of its token in the text, counted from 1.
-- Each predicate takes the number of the tree's first token; past_X gives that of the token behind the tree.
use Rattle.std.specs.Prelude.{◌≡◌, ℕ, ◌+◌, Bool, true, false, List, [], ◌∷◌, length, Option, Some, None}
use Rattle.pw_tree.specs.Spelling.{spell_identifiers, spell_tag, spell_pointers, spell_expr, spell_postfixes, spell_arguments, spell_operations, spell_specifiers, spell_members, spell_member_declarators, spell_enumerators, spell_declarator, spell_core, spell_suffixes, spell_parameters, spell_optional, spell_init, spell_inits, spell_initializer, spell_init_declarators, spell_decl, spell_decls, spell_label, spell_labels, spell_stmt, spell_alternative, spell_block, spell_stmts, spell_external}
use Rattle.pw_tree.specs.Trees.{Word, Pointer, Expr, Identifier, Number, Floating, Character, Wide, Strings, Paren, Postfix, Unary, SizeofType, Cast, Chain, Conditional, Assign, Postfixes, NoPostfix, Index, Call, Select, Step, Arguments, NoArgument, Argument, Operations, NoOperation, Operation, Specifiers, NoSpecifier, Storage, Qualified, Basic, TypedefName, RecordTag, Record, EnumTag, Enum, Members, NoMember, Member, MemberDeclarators, NoMemberDeclarator, PlainMember, BitField, Padding, Enumerators, NoEnumerator, PlainEnumerator, ValuedEnumerator, Declarator, Declaring, Core, Absent, Name, Enclosed, Suffixes, NoSuffix, Array, OpenArray, Prototype, Variadic, Identifiers, Parameters, NoParameter, Parameter, Init, Value, Braces, Inits, NoInit, Listed, Initializer, InitDeclarator, Decl, Label, CaseLabel, DefaultLabel, NameLabel, Stmt, Compound, Expression, Empty, Labeled, If, Switch, While, Do, For, Goto, Continue, Break, Return, Alternative, NoElse, Otherwise, ElseIf, Block, Braced, Stmts, NoStmt, Next, Function, External, Definition, Declaration, Module}

-- ---- the number of the token behind a tree

abbrev pub past_identifiers : Bool → ℕ → List Word → ℕ
past_identifiers first n ws = n + length (spell_identifiers first ws [])

abbrev pub past_tag : ℕ → Option Word → ℕ
past_tag n tag = n + length (spell_tag tag [])

abbrev pub past_pointers : ℕ → List Pointer → ℕ
past_pointers n ps = n + length (spell_pointers ps [])

abbrev pub past_expr : ℕ → Expr → ℕ
past_expr n e = n + length (spell_expr e [])

abbrev pub past_postfixes : ℕ → Postfixes → ℕ
past_postfixes n ps = n + length (spell_postfixes ps [])

abbrev pub past_arguments : Bool → ℕ → Arguments → ℕ
past_arguments first n es = n + length (spell_arguments first es [])

abbrev pub past_operations : ℕ → Operations → ℕ
past_operations n os = n + length (spell_operations os [])

abbrev pub past_specifiers : ℕ → Specifiers → ℕ
past_specifiers n ss = n + length (spell_specifiers ss [])

abbrev pub past_members : ℕ → Members → ℕ
past_members n ms = n + length (spell_members ms [])

abbrev pub past_member_declarators : Bool → ℕ → MemberDeclarators → ℕ
past_member_declarators first n ds = n + length (spell_member_declarators first ds [])

abbrev pub past_enumerators : Bool → ℕ → Enumerators → ℕ
past_enumerators first n es = n + length (spell_enumerators first es [])

abbrev pub past_declarator : ℕ → Declarator → ℕ
past_declarator n d = n + length (spell_declarator d [])

abbrev pub past_core : ℕ → Core → ℕ
past_core n c = n + length (spell_core c [])

abbrev pub past_suffixes : ℕ → Suffixes → ℕ
past_suffixes n fs = n + length (spell_suffixes fs [])

abbrev pub past_parameters : Bool → ℕ → Parameters → ℕ
past_parameters first n ps = n + length (spell_parameters first ps [])

abbrev pub past_optional : ℕ → Option Expr → ℕ
past_optional n e = n + length (spell_optional e [])

abbrev pub past_init : ℕ → Init → ℕ
past_init n i = n + length (spell_init i [])

abbrev pub past_inits : Bool → ℕ → Inits → ℕ
past_inits first n is = n + length (spell_inits first is [])

abbrev pub past_initializer : ℕ → Option Initializer → ℕ
past_initializer n i = n + length (spell_initializer i [])

abbrev pub past_init_declarators : Bool → ℕ → List InitDeclarator → ℕ
past_init_declarators first n ds = n + length (spell_init_declarators first ds [])

abbrev pub past_decl : ℕ → Decl → ℕ
past_decl n d = n + length (spell_decl d [])

abbrev pub past_decls : ℕ → List Decl → ℕ
past_decls n ds = n + length (spell_decls ds [])

abbrev pub past_label : ℕ → Label → ℕ
past_label n l = n + length (spell_label l [])

abbrev pub past_labels : ℕ → List Label → ℕ
past_labels n ls = n + length (spell_labels ls [])

abbrev pub past_stmt : ℕ → Stmt → ℕ
past_stmt n s = n + length (spell_stmt s [])

abbrev pub past_alternative : ℕ → Alternative → ℕ
past_alternative n a = n + length (spell_alternative a [])

abbrev pub past_block : ℕ → Block → ℕ
past_block n b = n + length (spell_block b [])

abbrev pub past_stmts : ℕ → Stmts → ℕ
past_stmts n ss = n + length (spell_stmts ss [])

abbrev pub past_external : ℕ → External → ℕ
past_external n e = n + length (spell_external e [])

-- the number behind the comma that stands before each item of a list but the first
abbrev pub past_comma : Bool → ℕ → ℕ
past_comma true n = n
past_comma false n = n + 1

-- ---- lists of words

abbrev pub NumberedIdentifiers : Bool → ℕ → List Word → Type 0
NumberedIdentifiers first n [] = Unit {0}
NumberedIdentifiers first n (w ∷ ws) = (w.token ≡ past_comma first n) × NumberedIdentifiers false (past_comma first n + 1) ws

abbrev pub NumberedStrings : ℕ → List Word → Type 0
NumberedStrings n [] = Unit {0}
NumberedStrings n (w ∷ ws) = (w.token ≡ n) × NumberedStrings (n + 1) ws

abbrev pub NumberedTag : ℕ → Option Word → Type 0
NumberedTag n None = Unit {0}
NumberedTag n (Some w) = w.token ≡ n

-- a pointer is at its `*`
abbrev pub NumberedPointers : ℕ → List Pointer → Type 0
NumberedPointers n [] = Unit {0}
NumberedPointers n (p ∷ ps) = (p.token ≡ n) × NumberedPointers (n + 1 + length p.qualifiers) ps

-- ---- expressions, specifiers and declarators

unfoldable mutual
  -- An expression is at its operator; a call at its `(`, an index at its `[`, a member at its `.` or `->`.
  pub Numbered : ℕ → Expr → Type 0
  Numbered n (Identifier w) = w.token ≡ n
  Numbered n (Number w) = w.token ≡ n
  Numbered n (Floating w) = w.token ≡ n
  Numbered n (Character w) = w.token ≡ n
  Numbered n (Wide w) = w.token ≡ n
  Numbered n (Strings ws) = NumberedStrings n ws
  Numbered n (Paren t e) = (t ≡ n) × Numbered (n + 1) e
  Numbered n (Postfix e ps) = Numbered n e × NumberedPostfixes (past_expr n e) ps
  Numbered n (Unary t op e) = (t ≡ n) × Numbered (n + 1) e
  Numbered n (SizeofType t ss d) =
      (t ≡ n) × NumberedSpecifiers (n + 2) ss × NumberedDeclarator (past_specifiers (n + 2) ss) d
  Numbered n (Cast t ss d e) =
      (t ≡ n) × NumberedSpecifiers (n + 1) ss × NumberedDeclarator (past_specifiers (n + 1) ss) d
      × Numbered (past_declarator (past_specifiers (n + 1) ss) d + 1) e
  Numbered n (Chain e ops) = Numbered n e × NumberedOperations (past_expr n e) ops
  Numbered n (Conditional t c a b) =
      Numbered n c × (t ≡ past_expr n c) × Numbered (t + 1) a × Numbered (past_expr (t + 1) a + 1) b
  Numbered n (Assign t op l r) = Numbered n l × (t ≡ past_expr n l) × Numbered (t + 1) r

  pub NumberedPostfixes : ℕ → Postfixes → Type 0
  NumberedPostfixes n NoPostfix = Unit {0}
  NumberedPostfixes n (Index t e ps) = (t ≡ n) × Numbered (n + 1) e × NumberedPostfixes (past_expr (n + 1) e + 1) ps
  NumberedPostfixes n (Call t es ps) =
      (t ≡ n) × NumberedArguments true (n + 1) es × NumberedPostfixes (past_arguments true (n + 1) es + 1) ps
  NumberedPostfixes n (Select t a w ps) = (t ≡ n) × (w.token ≡ n + 1) × NumberedPostfixes (n + 2) ps
  NumberedPostfixes n (Step t op ps) = (t ≡ n) × NumberedPostfixes (n + 1) ps

  pub NumberedArguments : Bool → ℕ → Arguments → Type 0
  NumberedArguments first n NoArgument = Unit {0}
  NumberedArguments first n (Argument e es) =
      Numbered (past_comma first n) e × NumberedArguments false (past_expr (past_comma first n) e) es

  pub NumberedOperations : ℕ → Operations → Type 0
  NumberedOperations n NoOperation = Unit {0}
  NumberedOperations n (Operation t op e rest) =
      (t ≡ n) × Numbered (n + 1) e × NumberedOperations (past_expr (n + 1) e) rest

  -- A specifier is at its first token.
  pub NumberedSpecifiers : ℕ → Specifiers → Type 0
  NumberedSpecifiers n NoSpecifier = Unit {0}
  NumberedSpecifiers n (Storage t c ss) = (t ≡ n) × NumberedSpecifiers (n + 1) ss
  NumberedSpecifiers n (Qualified t q ss) = (t ≡ n) × NumberedSpecifiers (n + 1) ss
  NumberedSpecifiers n (Basic t b ss) = (t ≡ n) × NumberedSpecifiers (n + 1) ss
  NumberedSpecifiers n (TypedefName w ss) = (w.token ≡ n) × NumberedSpecifiers (n + 1) ss
  NumberedSpecifiers n (RecordTag t r tag ss) = (t ≡ n) × (tag.token ≡ n + 1) × NumberedSpecifiers (n + 2) ss
  NumberedSpecifiers n (Record t r tag ms ss) =
      (t ≡ n) × NumberedTag (n + 1) tag × NumberedMembers (past_tag (n + 1) tag + 1) ms
      × NumberedSpecifiers (past_members (past_tag (n + 1) tag + 1) ms + 1) ss
  NumberedSpecifiers n (EnumTag t tag ss) = (t ≡ n) × (tag.token ≡ n + 1) × NumberedSpecifiers (n + 2) ss
  NumberedSpecifiers n (Enum t tag es ss) =
      (t ≡ n) × NumberedTag (n + 1) tag × NumberedEnumerators true (past_tag (n + 1) tag + 1) es
      × NumberedSpecifiers (past_enumerators true (past_tag (n + 1) tag + 1) es + 1) ss

  pub NumberedMembers : ℕ → Members → Type 0
  NumberedMembers n NoMember = Unit {0}
  NumberedMembers n (Member ss ds ms) =
      NumberedSpecifiers n ss × NumberedMemberDeclarators true (past_specifiers n ss) ds
      × NumberedMembers (past_member_declarators true (past_specifiers n ss) ds + 1) ms

  -- A bit-field is at its `:`.
  pub NumberedMemberDeclarators : Bool → ℕ → MemberDeclarators → Type 0
  NumberedMemberDeclarators first n NoMemberDeclarator = Unit {0}
  NumberedMemberDeclarators first n (PlainMember d ds) =
      NumberedDeclarator (past_comma first n) d
      × NumberedMemberDeclarators false (past_declarator (past_comma first n) d) ds
  NumberedMemberDeclarators first n (BitField d t e ds) =
      NumberedDeclarator (past_comma first n) d × (t ≡ past_declarator (past_comma first n) d)
      × Numbered (t + 1) e × NumberedMemberDeclarators false (past_expr (t + 1) e) ds
  NumberedMemberDeclarators first n (Padding t e ds) =
      (t ≡ past_comma first n) × Numbered (t + 1) e × NumberedMemberDeclarators false (past_expr (t + 1) e) ds

  pub NumberedEnumerators : Bool → ℕ → Enumerators → Type 0
  NumberedEnumerators first n NoEnumerator = Unit {0}
  NumberedEnumerators first n (PlainEnumerator w es) =
      (w.token ≡ past_comma first n) × NumberedEnumerators false (past_comma first n + 1) es
  NumberedEnumerators first n (ValuedEnumerator w e es) =
      (w.token ≡ past_comma first n) × Numbered (past_comma first n + 2) e
      × NumberedEnumerators false (past_expr (past_comma first n + 2) e) es

  pub NumberedDeclarator : ℕ → Declarator → Type 0
  NumberedDeclarator n (Declaring ps c fs) =
      NumberedPointers n ps × NumberedCore (past_pointers n ps) c × NumberedSuffixes (past_core (past_pointers n ps) c) fs

  -- A declarator in parentheses is at its `(`.
  pub NumberedCore : ℕ → Core → Type 0
  NumberedCore n Absent = Unit {0}
  NumberedCore n (Name w) = w.token ≡ n
  NumberedCore n (Enclosed t d) = (t ≡ n) × NumberedDeclarator (n + 1) d

  -- A suffix is at its `[` or `(`.
  pub NumberedSuffixes : ℕ → Suffixes → Type 0
  NumberedSuffixes n NoSuffix = Unit {0}
  NumberedSuffixes n (Array t e fs) = (t ≡ n) × Numbered (n + 1) e × NumberedSuffixes (past_expr (n + 1) e + 1) fs
  NumberedSuffixes n (OpenArray t fs) = (t ≡ n) × NumberedSuffixes (n + 2) fs
  NumberedSuffixes n (Prototype t ps fs) =
      (t ≡ n) × NumberedParameters true (n + 1) ps × NumberedSuffixes (past_parameters true (n + 1) ps + 1) fs
  NumberedSuffixes n (Variadic t ps fs) =
      (t ≡ n) × NumberedParameters true (n + 1) ps × NumberedSuffixes (past_parameters true (n + 1) ps + 3) fs
  NumberedSuffixes n (Identifiers t ws fs) =
      (t ≡ n) × NumberedIdentifiers true (n + 1) ws × NumberedSuffixes (past_identifiers true (n + 1) ws + 1) fs

  pub NumberedParameters : Bool → ℕ → Parameters → Type 0
  NumberedParameters first n NoParameter = Unit {0}
  NumberedParameters first n (Parameter ss d ps) =
      NumberedSpecifiers (past_comma first n) ss
      × NumberedDeclarator (past_specifiers (past_comma first n) ss) d
      × NumberedParameters false (past_declarator (past_specifiers (past_comma first n) ss) d) ps

abbrev pub NumberedOptional : ℕ → Option Expr → Type 0
NumberedOptional n None = Unit {0}
NumberedOptional n (Some e) = Numbered n e

-- ---- declarations

unfoldable mutual
  -- A list in braces is at its `{`.
  pub NumberedInit : ℕ → Init → Type 0
  NumberedInit n (Value e) = Numbered n e
  NumberedInit n (Braces t is trailing) = (t ≡ n) × NumberedInits true (n + 1) is

  pub NumberedInits : Bool → ℕ → Inits → Type 0
  NumberedInits first n NoInit = Unit {0}
  NumberedInits first n (Listed i is) =
      NumberedInit (past_comma first n) i × NumberedInits false (past_init (past_comma first n) i) is

-- an initializer is at its `=`
abbrev pub NumberedInitializer : ℕ → Option Initializer → Type 0
NumberedInitializer n None = Unit {0}
NumberedInitializer n (Some i) = (i.token ≡ n) × NumberedInit (n + 1) i.init

abbrev pub NumberedInitDeclarators : Bool → ℕ → List InitDeclarator → Type 0
NumberedInitDeclarators first n [] = Unit {0}
NumberedInitDeclarators first n (d ∷ ds) =
    NumberedDeclarator (past_comma first n) d.declarator
    × NumberedInitializer (past_declarator (past_comma first n) d.declarator) d.initializer
    × NumberedInitDeclarators false (past_initializer (past_declarator (past_comma first n) d.declarator) d.initializer) ds

abbrev pub NumberedDecl : ℕ → Decl → Type 0
NumberedDecl n d =
    NumberedSpecifiers n d.specifiers × NumberedInitDeclarators true (past_specifiers n d.specifiers) d.declarators

abbrev pub NumberedDecls : ℕ → List Decl → Type 0
NumberedDecls n [] = Unit {0}
NumberedDecls n (d ∷ ds) = NumberedDecl n d × NumberedDecls (past_decl n d) ds

-- ---- statements

-- a label is at its first token
abbrev pub NumberedLabel : ℕ → Label → Type 0
NumberedLabel n (CaseLabel t e) = (t ≡ n) × Numbered (n + 1) e
NumberedLabel n (DefaultLabel t) = t ≡ n
NumberedLabel n (NameLabel w) = w.token ≡ n

abbrev pub NumberedLabels : ℕ → List Label → Type 0
NumberedLabels n [] = Unit {0}
NumberedLabels n (l ∷ ls) = NumberedLabel n l × NumberedLabels (past_label n l) ls

unfoldable mutual
  -- A statement is at its first token.
  pub NumberedStmt : ℕ → Stmt → Type 0
  NumberedStmt n (Compound b) = NumberedBlock n b
  NumberedStmt n (Expression e) = Numbered n e
  NumberedStmt n (Empty t) = t ≡ n
  NumberedStmt n (Labeled ls s) = NumberedLabels n ls × NumberedStmt (past_labels n ls) s
  NumberedStmt n (If t c s a) =
      (t ≡ n) × Numbered (n + 2) c × NumberedStmt (past_expr (n + 2) c + 1) s
      × NumberedAlternative (past_stmt (past_expr (n + 2) c + 1) s) a
  NumberedStmt n (Switch t e s) = (t ≡ n) × Numbered (n + 2) e × NumberedStmt (past_expr (n + 2) e + 1) s
  NumberedStmt n (While t e s) = (t ≡ n) × Numbered (n + 2) e × NumberedStmt (past_expr (n + 2) e + 1) s
  NumberedStmt n (Do t s e) = (t ≡ n) × NumberedStmt (n + 1) s × Numbered (past_stmt (n + 1) s + 2) e
  NumberedStmt n (For t a b c s) =
      (t ≡ n) × NumberedOptional (n + 2) a × NumberedOptional (past_optional (n + 2) a + 1) b
      × NumberedOptional (past_optional (past_optional (n + 2) a + 1) b + 1) c
      × NumberedStmt (past_optional (past_optional (past_optional (n + 2) a + 1) b + 1) c + 1) s
  NumberedStmt n (Goto t w) = (t ≡ n) × (w.token ≡ n + 1)
  NumberedStmt n (Continue t) = t ≡ n
  NumberedStmt n (Break t) = t ≡ n
  NumberedStmt n (Return t e) = (t ≡ n) × NumberedOptional (n + 1) e

  -- an `else if` is at its `if`
  pub NumberedAlternative : ℕ → Alternative → Type 0
  NumberedAlternative n NoElse = Unit {0}
  NumberedAlternative n (Otherwise s) = NumberedStmt (n + 1) s
  NumberedAlternative n (ElseIf t c s a) =
      (t ≡ n + 1) × Numbered (n + 3) c × NumberedStmt (past_expr (n + 3) c + 1) s
      × NumberedAlternative (past_stmt (past_expr (n + 3) c + 1) s) a

  pub NumberedBlock : ℕ → Block → Type 0
  NumberedBlock n (Braced t ds ss) = (t ≡ n) × NumberedDecls (n + 1) ds × NumberedStmts (past_decls (n + 1) ds) ss

  pub NumberedStmts : ℕ → Stmts → Type 0
  NumberedStmts n NoStmt = Unit {0}
  NumberedStmts n (Next s ss) = NumberedStmt n s × NumberedStmts (past_stmt n s) ss

-- ---- modules

abbrev pub NumberedFunction : ℕ → Function → Type 0
NumberedFunction n f =
    NumberedSpecifiers n f.specifiers
    × NumberedDeclarator (past_specifiers n f.specifiers) f.declarator
    × NumberedDecls (past_declarator (past_specifiers n f.specifiers) f.declarator) f.declarations
    × NumberedBlock (past_decls (past_declarator (past_specifiers n f.specifiers) f.declarator) f.declarations) f.body

abbrev pub NumberedExternal : ℕ → External → Type 0
NumberedExternal n (Definition f) = NumberedFunction n f
NumberedExternal n (Declaration d) = NumberedDecl n d

abbrev pub NumberedExternals : ℕ → List External → Type 0
NumberedExternals n [] = Unit {0}
NumberedExternals n (e ∷ es) = NumberedExternal n e × NumberedExternals (past_external n e) es

abbrev pub NumberedModule : Module → Type 0
NumberedModule tree = NumberedExternals 1 tree.externals
