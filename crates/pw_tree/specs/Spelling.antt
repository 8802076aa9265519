-- The spelling of trees: a tree's tokens, in the text's order.
-- Each function takes the tokens that stand behind the tree last, so that it reads from left to right.
use Rattle.std.specs.Prelude.{Bool, true, false, List, [], ◌∷◌, map, Option, Some, None}
use Rattle.pw_tree.specs.Symbols as symbol
use Rattle.pw_tree.specs.Symbols.{Symbol, Reserved, Sign, Spelled, spelled, storage_word, qualifier_word, basic_word, record_word, access_mark, step_mark, unary_symbol, binary_mark, assign_mark}
use Rattle.pw_tree.specs.Trees.{Word, Pointer, Expr, Identifier, Number, Floating, Character, Wide, Strings, Paren, Postfix, Unary, SizeofType, Cast, Chain, Conditional, Assign, Postfixes, NoPostfix, Index, Call, Select, Step, Arguments, NoArgument, Argument, Operations, NoOperation, Operation, Specifiers, NoSpecifier, Storage, Qualified, Basic, TypedefName, RecordTag, Record, EnumTag, Enum, Members, NoMember, Member, MemberDeclarators, NoMemberDeclarator, PlainMember, BitField, Padding, Enumerators, NoEnumerator, PlainEnumerator, ValuedEnumerator, Declarator, Declaring, Core, Absent, Name, Enclosed, Suffixes, NoSuffix, Array, OpenArray, Prototype, Variadic, Identifiers, Parameters, NoParameter, Parameter, Init, Value, Braces, Inits, NoInit, Listed, Initializer, InitDeclarator, Decl, Label, CaseLabel, DefaultLabel, NameLabel, Stmt, Compound, Expression, Empty, Labeled, If, Switch, While, Do, For, Goto, Continue, Break, Return, Alternative, NoElse, Otherwise, ElseIf, Block, Braced, Stmts, NoStmt, Next, External, Definition, Declaration, Module}
use Rattle.pw_tree.specs.declared.expr.Qualifier.{Qualifier}
use Rattle.pw_token.specs.declared.symbol.Keyword.TheVariants as k
use Rattle.pw_token.specs.declared.symbol.Mark.TheVariants as m

abbrev pub identifier : Word → Symbol
identifier w = symbol.Identifier w.text

-- a comma before each item of a list but the first
abbrev pub separated : Bool → List Symbol → List Symbol
separated true z = z
separated false z = Sign m.Comma ∷ z

-- a comma behind the last item, where there is one
abbrev pub trailed : Bool → List Symbol → List Symbol
trailed true z = Sign m.Comma ∷ z
trailed false z = z

-- ---- lists of words

abbrev pub spell_identifiers : Bool → List Word → List Symbol → List Symbol
spell_identifiers first [] z = z
spell_identifiers first (w ∷ ws) z = separated first (identifier w ∷ spell_identifiers false ws z)

abbrev pub spell_strings : List Word → List Symbol → List Symbol
spell_strings [] z = z
spell_strings (w ∷ ws) z = symbol.Text w.text ∷ spell_strings ws z

abbrev pub spell_tag : Option Word → List Symbol → List Symbol
spell_tag None z = z
spell_tag (Some w) z = identifier w ∷ z

abbrev pub spell_qualifiers : List Qualifier → List Symbol → List Symbol
spell_qualifiers [] z = z
spell_qualifiers (q ∷ qs) z = Reserved (qualifier_word q) ∷ spell_qualifiers qs z

-- 6.5.4.1
abbrev pub spell_pointers : List Pointer → List Symbol → List Symbol
spell_pointers [] z = z
spell_pointers (p ∷ ps) z = Sign m.Star ∷ spell_qualifiers p.qualifiers (spell_pointers ps z)

-- ---- expressions, specifiers and declarators

unfoldable mutual
  -- 6.3
  pub spell_expr : Expr → List Symbol → List Symbol
  spell_expr (Identifier w) z = identifier w ∷ z
  spell_expr (Number w) z = symbol.Number w.text ∷ z
  spell_expr (Floating w) z = symbol.Floating w.text ∷ z
  spell_expr (Character w) z = symbol.Character w.text ∷ z
  spell_expr (Wide w) z = symbol.Wide w.text ∷ z
  spell_expr (Strings ws) z = spell_strings ws z
  spell_expr (Paren n e) z = Sign m.OpenParen ∷ spell_expr e (Sign m.CloseParen ∷ z)
  spell_expr (Postfix e ps) z = spell_expr e (spell_postfixes ps z)
  spell_expr (Unary n op e) z = unary_symbol op ∷ spell_expr e z
  spell_expr (SizeofType n ss d) z =
      Reserved k.Sizeof ∷ Sign m.OpenParen ∷ spell_specifiers ss (spell_declarator d (Sign m.CloseParen ∷ z))
  spell_expr (Cast n ss d e) z =
      Sign m.OpenParen ∷ spell_specifiers ss (spell_declarator d (Sign m.CloseParen ∷ spell_expr e z))
  spell_expr (Chain e ops) z = spell_expr e (spell_operations ops z)
  spell_expr (Conditional n c a b) z =
      spell_expr c (Sign m.Question ∷ spell_expr a (Sign m.Colon ∷ spell_expr b z))
  spell_expr (Assign n op l r) z = spell_expr l (Sign (assign_mark op) ∷ spell_expr r z)

  -- 6.3.2
  pub spell_postfixes : Postfixes → List Symbol → List Symbol
  spell_postfixes NoPostfix z = z
  spell_postfixes (Index n e ps) z =
      Sign m.OpenBracket ∷ spell_expr e (Sign m.CloseBracket ∷ spell_postfixes ps z)
  spell_postfixes (Call n es ps) z =
      Sign m.OpenParen ∷ spell_arguments true es (Sign m.CloseParen ∷ spell_postfixes ps z)
  spell_postfixes (Select n a w ps) z = Sign (access_mark a) ∷ identifier w ∷ spell_postfixes ps z
  spell_postfixes (Step n op ps) z = Sign (step_mark op) ∷ spell_postfixes ps z

  pub spell_arguments : Bool → Arguments → List Symbol → List Symbol
  spell_arguments first NoArgument z = z
  spell_arguments first (Argument e es) z = separated first (spell_expr e (spell_arguments false es z))

  pub spell_operations : Operations → List Symbol → List Symbol
  spell_operations NoOperation z = z
  spell_operations (Operation n op e rest) z = Sign (binary_mark op) ∷ spell_expr e (spell_operations rest z)

  -- 6.5.1 to 6.5.3, 6.5.6
  pub spell_specifiers : Specifiers → List Symbol → List Symbol
  spell_specifiers NoSpecifier z = z
  spell_specifiers (Storage n c ss) z = Reserved (storage_word c) ∷ spell_specifiers ss z
  spell_specifiers (Qualified n q ss) z = Reserved (qualifier_word q) ∷ spell_specifiers ss z
  spell_specifiers (Basic n b ss) z = Reserved (basic_word b) ∷ spell_specifiers ss z
  spell_specifiers (TypedefName w ss) z = identifier w ∷ spell_specifiers ss z
  spell_specifiers (RecordTag n r tag ss) z = Reserved (record_word r) ∷ identifier tag ∷ spell_specifiers ss z
  spell_specifiers (Record n r tag ms ss) z =
      Reserved (record_word r) ∷ spell_tag tag (Sign m.OpenBrace ∷ spell_members ms (Sign m.CloseBrace ∷ spell_specifiers ss z))
  spell_specifiers (EnumTag n tag ss) z = Reserved k.Enum ∷ identifier tag ∷ spell_specifiers ss z
  spell_specifiers (Enum n tag es ss) z =
      Reserved k.Enum ∷ spell_tag tag (Sign m.OpenBrace ∷ spell_enumerators true es (Sign m.CloseBrace ∷ spell_specifiers ss z))

  -- 6.5.2.1
  pub spell_members : Members → List Symbol → List Symbol
  spell_members NoMember z = z
  spell_members (Member ss ds ms) z =
      spell_specifiers ss (spell_member_declarators true ds (Sign m.Semicolon ∷ spell_members ms z))

  pub spell_member_declarators : Bool → MemberDeclarators → List Symbol → List Symbol
  spell_member_declarators first NoMemberDeclarator z = z
  spell_member_declarators first (PlainMember d ds) z =
      separated first (spell_declarator d (spell_member_declarators false ds z))
  spell_member_declarators first (BitField d n e ds) z =
      separated first (spell_declarator d (Sign m.Colon ∷ spell_expr e (spell_member_declarators false ds z)))
  spell_member_declarators first (Padding n e ds) z =
      separated first (Sign m.Colon ∷ spell_expr e (spell_member_declarators false ds z))

  -- 6.5.2.2
  pub spell_enumerators : Bool → Enumerators → List Symbol → List Symbol
  spell_enumerators first NoEnumerator z = z
  spell_enumerators first (PlainEnumerator w es) z = separated first (identifier w ∷ spell_enumerators false es z)
  spell_enumerators first (ValuedEnumerator w e es) z =
      separated first (identifier w ∷ Sign m.Equal ∷ spell_expr e (spell_enumerators false es z))

  -- 6.5.4, 6.5.5
  pub spell_declarator : Declarator → List Symbol → List Symbol
  spell_declarator (Declaring ps core ss) z = spell_pointers ps (spell_core core (spell_suffixes ss z))

  pub spell_core : Core → List Symbol → List Symbol
  spell_core Absent z = z
  spell_core (Name w) z = identifier w ∷ z
  spell_core (Enclosed n d) z = Sign m.OpenParen ∷ spell_declarator d (Sign m.CloseParen ∷ z)

  -- 6.5.4.2, 6.5.4.3
  pub spell_suffixes : Suffixes → List Symbol → List Symbol
  spell_suffixes NoSuffix z = z
  spell_suffixes (Array n e ss) z = Sign m.OpenBracket ∷ spell_expr e (Sign m.CloseBracket ∷ spell_suffixes ss z)
  spell_suffixes (OpenArray n ss) z = Sign m.OpenBracket ∷ Sign m.CloseBracket ∷ spell_suffixes ss z
  spell_suffixes (Prototype n ps ss) z =
      Sign m.OpenParen ∷ spell_parameters true ps (Sign m.CloseParen ∷ spell_suffixes ss z)
  spell_suffixes (Variadic n ps ss) z =
      Sign m.OpenParen ∷ spell_parameters true ps (Sign m.Comma ∷ Sign m.Ellipsis ∷ Sign m.CloseParen ∷ spell_suffixes ss z)
  spell_suffixes (Identifiers n ws ss) z =
      Sign m.OpenParen ∷ spell_identifiers true ws (Sign m.CloseParen ∷ spell_suffixes ss z)

  pub spell_parameters : Bool → Parameters → List Symbol → List Symbol
  spell_parameters first NoParameter z = z
  spell_parameters first (Parameter ss d ps) z =
      separated first (spell_specifiers ss (spell_declarator d (spell_parameters false ps z)))

-- an expression where there is one
abbrev pub spell_optional : Option Expr → List Symbol → List Symbol
spell_optional None z = z
spell_optional (Some e) z = spell_expr e z

-- ---- declarations

unfoldable mutual
  -- 6.5.7
  pub spell_init : Init → List Symbol → List Symbol
  spell_init (Value e) z = spell_expr e z
  spell_init (Braces n is trailing) z =
      Sign m.OpenBrace ∷ spell_inits true is (trailed trailing (Sign m.CloseBrace ∷ z))

  pub spell_inits : Bool → Inits → List Symbol → List Symbol
  spell_inits first NoInit z = z
  spell_inits first (Listed i is) z = separated first (spell_init i (spell_inits false is z))

abbrev pub spell_initializer : Option Initializer → List Symbol → List Symbol
spell_initializer None z = z
spell_initializer (Some i) z = Sign m.Equal ∷ spell_init i.init z

abbrev pub spell_init_declarators : Bool → List InitDeclarator → List Symbol → List Symbol
spell_init_declarators first [] z = z
spell_init_declarators first (d ∷ ds) z =
    separated first (spell_declarator d.declarator (spell_initializer d.initializer (spell_init_declarators false ds z)))

-- 6.5
abbrev pub spell_decl : Decl → List Symbol → List Symbol
spell_decl d z = spell_specifiers d.specifiers (spell_init_declarators true d.declarators (Sign m.Semicolon ∷ z))

abbrev pub spell_decls : List Decl → List Symbol → List Symbol
spell_decls [] z = z
spell_decls (d ∷ ds) z = spell_decl d (spell_decls ds z)

-- ---- statements

-- 6.6.1
abbrev pub spell_label : Label → List Symbol → List Symbol
spell_label (CaseLabel n e) z = Reserved k.Case ∷ spell_expr e (Sign m.Colon ∷ z)
spell_label (DefaultLabel n) z = Reserved k.Default ∷ Sign m.Colon ∷ z
spell_label (NameLabel w) z = identifier w ∷ Sign m.Colon ∷ z

abbrev pub spell_labels : List Label → List Symbol → List Symbol
spell_labels [] z = z
spell_labels (l ∷ ls) z = spell_label l (spell_labels ls z)

unfoldable mutual
  -- 6.6
  pub spell_stmt : Stmt → List Symbol → List Symbol
  spell_stmt (Compound b) z = spell_block b z
  spell_stmt (Expression e) z = spell_expr e (Sign m.Semicolon ∷ z)
  spell_stmt (Empty n) z = Sign m.Semicolon ∷ z
  spell_stmt (Labeled ls s) z = spell_labels ls (spell_stmt s z)
  spell_stmt (If n c s a) z =
      Reserved k.If ∷ Sign m.OpenParen ∷ spell_expr c (Sign m.CloseParen ∷ spell_stmt s (spell_alternative a z))
  spell_stmt (Switch n e s) z = Reserved k.Switch ∷ Sign m.OpenParen ∷ spell_expr e (Sign m.CloseParen ∷ spell_stmt s z)
  spell_stmt (While n e s) z = Reserved k.While ∷ Sign m.OpenParen ∷ spell_expr e (Sign m.CloseParen ∷ spell_stmt s z)
  spell_stmt (Do n s e) z =
      Reserved k.Do ∷ spell_stmt s (Reserved k.While ∷ Sign m.OpenParen ∷ spell_expr e (Sign m.CloseParen ∷ Sign m.Semicolon ∷ z))
  spell_stmt (For n a b c s) z =
      Reserved k.For ∷ Sign m.OpenParen ∷ spell_optional a (Sign m.Semicolon ∷ spell_optional b (Sign m.Semicolon ∷ spell_optional c (Sign m.CloseParen ∷ spell_stmt s z)))
  spell_stmt (Goto n w) z = Reserved k.Goto ∷ identifier w ∷ Sign m.Semicolon ∷ z
  spell_stmt (Continue n) z = Reserved k.Continue ∷ Sign m.Semicolon ∷ z
  spell_stmt (Break n) z = Reserved k.Break ∷ Sign m.Semicolon ∷ z
  spell_stmt (Return n e) z = Reserved k.Return ∷ spell_optional e (Sign m.Semicolon ∷ z)

  -- 6.6.4.1
  pub spell_alternative : Alternative → List Symbol → List Symbol
  spell_alternative NoElse z = z
  spell_alternative (Otherwise s) z = Reserved k.Else ∷ spell_stmt s z
  spell_alternative (ElseIf n c s a) z =
      Reserved k.Else ∷ Reserved k.If ∷ Sign m.OpenParen ∷ spell_expr c (Sign m.CloseParen ∷ spell_stmt s (spell_alternative a z))

  -- 6.6.2
  pub spell_block : Block → List Symbol → List Symbol
  spell_block (Braced n ds ss) z = Sign m.OpenBrace ∷ spell_decls ds (spell_stmts ss (Sign m.CloseBrace ∷ z))

  pub spell_stmts : Stmts → List Symbol → List Symbol
  spell_stmts NoStmt z = z
  spell_stmts (Next s ss) z = spell_stmt s (spell_stmts ss z)

-- ---- modules

-- 6.7
abbrev pub spell_external : External → List Symbol → List Symbol
spell_external (Definition f) z =
    spell_specifiers f.specifiers (spell_declarator f.declarator (spell_decls f.declarations (spell_block f.body z)))
spell_external (Declaration d) z = spell_decl d z

abbrev pub spell_externals : List External → List Symbol → List Symbol
spell_externals [] z = z
spell_externals (e ∷ es) z = spell_external e (spell_externals es z)

-- a tree's tokens
abbrev pub symbols : Module → List Symbol
symbols tree = spell_externals tree.externals []

-- a tree's tokens, as they compare with those of a text
abbrev pub spelling : Module → List Spelled
spelling tree = map spelled (symbols tree)
