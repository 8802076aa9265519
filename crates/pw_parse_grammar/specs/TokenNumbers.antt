-- A tree with the numbers of its tokens: number_X n x is x, but each node has its token's number where x begins at the token n.
use Rattle.std.specs.Prelude.{ℕ, ◌+◌, Bool, true, false, List, [], ◌∷◌, length, Option, Some, None}
use Rattle.pw_tree.specs.Numbering.{past_identifiers, past_tag, past_pointers, past_expr, past_arguments, past_specifiers, past_members, past_member_declarators, past_enumerators, past_declarator, past_core, past_parameters, past_optional, past_init, past_initializer, past_decl, past_decls, past_label, past_labels, past_stmt, past_external, past_comma}
use Rattle.pw_tree.specs.Trees.{Word, Pointer, Expr, Identifier, Number, Floating, Character, Wide, Strings, Paren, Postfix, Unary, SizeofType, Cast, Chain, Conditional, Assign, Postfixes, NoPostfix, Index, Call, Select, Step, Arguments, NoArgument, Argument, Operations, NoOperation, Operation, Specifiers, NoSpecifier, Storage, Qualified, Basic, TypedefName, RecordTag, Record, EnumTag, Enum, Members, NoMember, Member, MemberDeclarators, NoMemberDeclarator, PlainMember, BitField, Padding, Enumerators, NoEnumerator, PlainEnumerator, ValuedEnumerator, Declarator, Declaring, Core, Absent, Name, Enclosed, Suffixes, NoSuffix, Array, OpenArray, Prototype, Variadic, Identifiers, Parameters, NoParameter, Parameter, Init, Value, Braces, Inits, NoInit, Listed, Initializer, InitDeclarator, Decl, Label, CaseLabel, DefaultLabel, NameLabel, Stmt, Compound, Expression, Empty, Labeled, If, Switch, While, Do, For, Goto, Continue, Break, Return, Alternative, NoElse, Otherwise, ElseIf, Block, Braced, Stmts, NoStmt, Next, Function, External, Definition, Declaration, Module}

-- ---- lists of words

abbrev pub number_word : ℕ → Word → Word
number_word n w = record { token = n; text = w.text }

abbrev pub number_identifiers : Bool → ℕ → List Word → List Word
number_identifiers first n [] = []
number_identifiers first n (w ∷ ws) = number_word (past_comma first n) w ∷ number_identifiers false (past_comma first n + 1) ws

abbrev pub number_strings : ℕ → List Word → List Word
number_strings n [] = []
number_strings n (w ∷ ws) = number_word n w ∷ number_strings (n + 1) ws

abbrev pub number_tag : ℕ → Option Word → Option Word
number_tag n None = None
number_tag n (Some w) = Some (number_word n w)

abbrev pub number_pointers : ℕ → List Pointer → List Pointer
number_pointers n [] = []
number_pointers n (p ∷ ps) = record { token = n; qualifiers = p.qualifiers } ∷ number_pointers (n + 1 + length p.qualifiers) ps

-- ---- expressions, specifiers and declarators

unfoldable mutual
  pub number_expr : ℕ → Expr → Expr
  number_expr n (Identifier w) = Identifier (number_word n w)
  number_expr n (Number w) = Number (number_word n w)
  number_expr n (Floating w) = Floating (number_word n w)
  number_expr n (Character w) = Character (number_word n w)
  number_expr n (Wide w) = Wide (number_word n w)
  number_expr n (Strings ws) = Strings (number_strings n ws)
  number_expr n (Paren t e) = Paren n (number_expr (n + 1) e)
  number_expr n (Postfix e ps) =
      let e1 = number_expr n e in
      Postfix e1 (number_postfixes (past_expr n e1) ps)
  number_expr n (Unary t op e) = Unary n op (number_expr (n + 1) e)
  number_expr n (SizeofType t ss d) =
      let ss1 = number_specifiers (n + 2) ss in
      SizeofType n ss1 (number_declarator (past_specifiers (n + 2) ss1) d)
  number_expr n (Cast t ss d e) =
      let ss1 = number_specifiers (n + 1) ss in
      let d1 = number_declarator (past_specifiers (n + 1) ss1) d in
      Cast n ss1 d1 (number_expr (past_declarator (past_specifiers (n + 1) ss1) d1 + 1) e)
  number_expr n (Chain e ops) =
      let e1 = number_expr n e in
      Chain e1 (number_operations (past_expr n e1) ops)
  number_expr n (Conditional t c a b) =
      let c1 = number_expr n c in
      let t1 = past_expr n c1 in
      let a1 = number_expr (t1 + 1) a in
      Conditional t1 c1 a1 (number_expr (past_expr (t1 + 1) a1 + 1) b)
  number_expr n (Assign t op l r) =
      let l1 = number_expr n l in
      let t1 = past_expr n l1 in
      Assign t1 op l1 (number_expr (t1 + 1) r)

  pub number_postfixes : ℕ → Postfixes → Postfixes
  number_postfixes n NoPostfix = NoPostfix
  number_postfixes n (Index t e ps) =
      let e1 = number_expr (n + 1) e in
      Index n e1 (number_postfixes (past_expr (n + 1) e1 + 1) ps)
  number_postfixes n (Call t es ps) =
      let es1 = number_arguments true (n + 1) es in
      Call n es1 (number_postfixes (past_arguments true (n + 1) es1 + 1) ps)
  number_postfixes n (Select t a w ps) = Select n a (number_word (n + 1) w) (number_postfixes (n + 2) ps)
  number_postfixes n (Step t op ps) = Step n op (number_postfixes (n + 1) ps)

  pub number_arguments : Bool → ℕ → Arguments → Arguments
  number_arguments first n NoArgument = NoArgument
  number_arguments first n (Argument e es) =
      let e1 = number_expr (past_comma first n) e in
      Argument e1 (number_arguments false (past_expr (past_comma first n) e1) es)

  pub number_operations : ℕ → Operations → Operations
  number_operations n NoOperation = NoOperation
  number_operations n (Operation t op e rest) =
      let e1 = number_expr (n + 1) e in
      Operation n op e1 (number_operations (past_expr (n + 1) e1) rest)

  pub number_specifiers : ℕ → Specifiers → Specifiers
  number_specifiers n NoSpecifier = NoSpecifier
  number_specifiers n (Storage t c ss) = Storage n c (number_specifiers (n + 1) ss)
  number_specifiers n (Qualified t q ss) = Qualified n q (number_specifiers (n + 1) ss)
  number_specifiers n (Basic t b ss) = Basic n b (number_specifiers (n + 1) ss)
  number_specifiers n (TypedefName w ss) = TypedefName (number_word n w) (number_specifiers (n + 1) ss)
  number_specifiers n (RecordTag t r tag ss) = RecordTag n r (number_word (n + 1) tag) (number_specifiers (n + 2) ss)
  number_specifiers n (Record t r tag ms ss) =
      let tag1 = number_tag (n + 1) tag in
      let ms1 = number_members (past_tag (n + 1) tag1 + 1) ms in
      Record n r tag1 ms1 (number_specifiers (past_members (past_tag (n + 1) tag1 + 1) ms1 + 1) ss)
  number_specifiers n (EnumTag t tag ss) = EnumTag n (number_word (n + 1) tag) (number_specifiers (n + 2) ss)
  number_specifiers n (Enum t tag es ss) =
      let tag1 = number_tag (n + 1) tag in
      let es1 = number_enumerators true (past_tag (n + 1) tag1 + 1) es in
      Enum n tag1 es1 (number_specifiers (past_enumerators true (past_tag (n + 1) tag1 + 1) es1 + 1) ss)

  pub number_members : ℕ → Members → Members
  number_members n NoMember = NoMember
  number_members n (Member ss ds ms) =
      let ss1 = number_specifiers n ss in
      let ds1 = number_member_declarators true (past_specifiers n ss1) ds in
      Member ss1 ds1 (number_members (past_member_declarators true (past_specifiers n ss1) ds1 + 1) ms)

  pub number_member_declarators : Bool → ℕ → MemberDeclarators → MemberDeclarators
  number_member_declarators first n NoMemberDeclarator = NoMemberDeclarator
  number_member_declarators first n (PlainMember d ds) =
      let d1 = number_declarator (past_comma first n) d in
      PlainMember d1 (number_member_declarators false (past_declarator (past_comma first n) d1) ds)
  number_member_declarators first n (BitField d t e ds) =
      let d1 = number_declarator (past_comma first n) d in
      let t1 = past_declarator (past_comma first n) d1 in
      let e1 = number_expr (t1 + 1) e in
      BitField d1 t1 e1 (number_member_declarators false (past_expr (t1 + 1) e1) ds)
  number_member_declarators first n (Padding t e ds) =
      let t1 = past_comma first n in
      let e1 = number_expr (t1 + 1) e in
      Padding t1 e1 (number_member_declarators false (past_expr (t1 + 1) e1) ds)

  pub number_enumerators : Bool → ℕ → Enumerators → Enumerators
  number_enumerators first n NoEnumerator = NoEnumerator
  number_enumerators first n (PlainEnumerator w es) =
      PlainEnumerator (number_word (past_comma first n) w) (number_enumerators false (past_comma first n + 1) es)
  number_enumerators first n (ValuedEnumerator w e es) =
      let e1 = number_expr (past_comma first n + 2) e in
      ValuedEnumerator (number_word (past_comma first n) w) e1 (number_enumerators false (past_expr (past_comma first n + 2) e1) es)

  pub number_declarator : ℕ → Declarator → Declarator
  number_declarator n (Declaring ps c fs) =
      let ps1 = number_pointers n ps in
      let c1 = number_core (past_pointers n ps1) c in
      Declaring ps1 c1 (number_suffixes (past_core (past_pointers n ps1) c1) fs)

  pub number_core : ℕ → Core → Core
  number_core n Absent = Absent
  number_core n (Name w) = Name (number_word n w)
  number_core n (Enclosed t d) = Enclosed n (number_declarator (n + 1) d)

  pub number_suffixes : ℕ → Suffixes → Suffixes
  number_suffixes n NoSuffix = NoSuffix
  number_suffixes n (Array t e fs) =
      let e1 = number_expr (n + 1) e in
      Array n e1 (number_suffixes (past_expr (n + 1) e1 + 1) fs)
  number_suffixes n (OpenArray t fs) = OpenArray n (number_suffixes (n + 2) fs)
  number_suffixes n (Prototype t ps fs) =
      let ps1 = number_parameters true (n + 1) ps in
      Prototype n ps1 (number_suffixes (past_parameters true (n + 1) ps1 + 1) fs)
  number_suffixes n (Variadic t ps fs) =
      let ps1 = number_parameters true (n + 1) ps in
      Variadic n ps1 (number_suffixes (past_parameters true (n + 1) ps1 + 3) fs)
  number_suffixes n (Identifiers t ws fs) =
      let ws1 = number_identifiers true (n + 1) ws in
      Identifiers n ws1 (number_suffixes (past_identifiers true (n + 1) ws1 + 1) fs)

  pub number_parameters : Bool → ℕ → Parameters → Parameters
  number_parameters first n NoParameter = NoParameter
  number_parameters first n (Parameter ss d ps) =
      let ss1 = number_specifiers (past_comma first n) ss in
      let n1 = past_specifiers (past_comma first n) ss1 in
      let d1 = number_declarator n1 d in
      Parameter ss1 d1 (number_parameters false (past_declarator n1 d1) ps)

abbrev pub number_optional : ℕ → Option Expr → Option Expr
number_optional n None = None
number_optional n (Some e) = Some (number_expr n e)

-- ---- declarations

unfoldable mutual
  pub number_init : ℕ → Init → Init
  number_init n (Value e) = Value (number_expr n e)
  number_init n (Braces t is trailing) = Braces n (number_inits true (n + 1) is) trailing

  pub number_inits : Bool → ℕ → Inits → Inits
  number_inits first n NoInit = NoInit
  number_inits first n (Listed i is) =
      let i1 = number_init (past_comma first n) i in
      Listed i1 (number_inits false (past_init (past_comma first n) i1) is)

abbrev pub number_initializer : ℕ → Option Initializer → Option Initializer
number_initializer n None = None
number_initializer n (Some i) = Some (record { token = n; init = number_init (n + 1) i.init })

abbrev pub number_init_declarators : Bool → ℕ → List InitDeclarator → List InitDeclarator
number_init_declarators first n [] = []
number_init_declarators first n (d ∷ ds) =
    let d1 = number_declarator (past_comma first n) d.declarator in
    let n1 = past_declarator (past_comma first n) d1 in
    let i1 = number_initializer n1 d.initializer in
    record { declarator = d1; initializer = i1 } ∷ number_init_declarators false (past_initializer n1 i1) ds

abbrev pub number_decl : ℕ → Decl → Decl
number_decl n d =
    let ss1 = number_specifiers n d.specifiers in
    record { specifiers = ss1; declarators = number_init_declarators true (past_specifiers n ss1) d.declarators }

abbrev pub number_decls : ℕ → List Decl → List Decl
number_decls n [] = []
number_decls n (d ∷ ds) =
    let d1 = number_decl n d in
    d1 ∷ number_decls (past_decl n d1) ds

-- ---- statements

abbrev pub number_label : ℕ → Label → Label
number_label n (CaseLabel t e) = CaseLabel n (number_expr (n + 1) e)
number_label n (DefaultLabel t) = DefaultLabel n
number_label n (NameLabel w) = NameLabel (number_word n w)

abbrev pub number_labels : ℕ → List Label → List Label
number_labels n [] = []
number_labels n (l ∷ ls) =
    let l1 = number_label n l in
    l1 ∷ number_labels (past_label n l1) ls

unfoldable mutual
  pub number_stmt : ℕ → Stmt → Stmt
  number_stmt n (Compound b) = Compound (number_block n b)
  number_stmt n (Expression e) = Expression (number_expr n e)
  number_stmt n (Empty t) = Empty n
  number_stmt n (Labeled ls s) =
      let ls1 = number_labels n ls in
      Labeled ls1 (number_stmt (past_labels n ls1) s)
  number_stmt n (If t c s a) =
      let c1 = number_expr (n + 2) c in
      let n1 = past_expr (n + 2) c1 + 1 in
      let s1 = number_stmt n1 s in
      If n c1 s1 (number_alternative (past_stmt n1 s1) a)
  number_stmt n (Switch t e s) =
      let e1 = number_expr (n + 2) e in
      Switch n e1 (number_stmt (past_expr (n + 2) e1 + 1) s)
  number_stmt n (While t e s) =
      let e1 = number_expr (n + 2) e in
      While n e1 (number_stmt (past_expr (n + 2) e1 + 1) s)
  number_stmt n (Do t s e) =
      let s1 = number_stmt (n + 1) s in
      Do n s1 (number_expr (past_stmt (n + 1) s1 + 2) e)
  number_stmt n (For t a b c s) =
      let a1 = number_optional (n + 2) a in
      let n1 = past_optional (n + 2) a1 + 1 in
      let b1 = number_optional n1 b in
      let n2 = past_optional n1 b1 + 1 in
      let c1 = number_optional n2 c in
      For n a1 b1 c1 (number_stmt (past_optional n2 c1 + 1) s)
  number_stmt n (Goto t w) = Goto n (number_word (n + 1) w)
  number_stmt n (Continue t) = Continue n
  number_stmt n (Break t) = Break n
  number_stmt n (Return t e) = Return n (number_optional (n + 1) e)

  pub number_alternative : ℕ → Alternative → Alternative
  number_alternative n NoElse = NoElse
  number_alternative n (Otherwise s) = Otherwise (number_stmt (n + 1) s)
  number_alternative n (ElseIf t c s a) =
      let c1 = number_expr (n + 3) c in
      let n1 = past_expr (n + 3) c1 + 1 in
      let s1 = number_stmt n1 s in
      ElseIf (n + 1) c1 s1 (number_alternative (past_stmt n1 s1) a)

  pub number_block : ℕ → Block → Block
  number_block n (Braced t ds ss) =
      let ds1 = number_decls (n + 1) ds in
      Braced n ds1 (number_stmts (past_decls (n + 1) ds1) ss)

  pub number_stmts : ℕ → Stmts → Stmts
  number_stmts n NoStmt = NoStmt
  number_stmts n (Next s ss) =
      let s1 = number_stmt n s in
      Next s1 (number_stmts (past_stmt n s1) ss)

-- ---- modules

abbrev pub number_function : ℕ → Function → Function
number_function n f =
    let ss1 = number_specifiers n f.specifiers in
    let n1 = past_specifiers n ss1 in
    let d1 = number_declarator n1 f.declarator in
    let n2 = past_declarator n1 d1 in
    let ds1 = number_decls n2 f.declarations in
    record { specifiers = ss1; declarator = d1; declarations = ds1; body = number_block (past_decls n2 ds1) f.body }

abbrev pub number_external : ℕ → External → External
number_external n (Definition f) = Definition (number_function n f)
number_external n (Declaration d) = Declaration (number_decl n d)

abbrev pub number_externals : ℕ → List External → List External
number_externals n [] = []
number_externals n (e ∷ es) =
    let e1 = number_external n e in
    e1 ∷ number_externals (past_external n e1) es

abbrev pub number_module : Module → Module
number_module t = record { externals = number_externals 1 t.externals }
