-- A tree's tokens stand before those behind it: how many tokens a tree has.
use Rattle.std.proofs.Common.{◌≡◌, ◌+◌, Bool, true, false, List, [], ◌∷◌, length, Option, Some, None, arith}
use Rattle.pw_tree.specs.Spelling.{identifier, separated, trailed, spell_identifiers, spell_strings, spell_tag, spell_qualifiers, spell_pointers, spell_expr, spell_postfixes, spell_arguments, spell_operations, spell_specifiers, spell_members, spell_member_declarators, spell_enumerators, spell_declarator, spell_core, spell_suffixes, spell_parameters, spell_optional, spell_init, spell_inits, spell_initializer, spell_init_declarators, spell_decl, spell_decls, spell_label, spell_labels, spell_stmt, spell_alternative, spell_block, spell_stmts, spell_external, spell_externals}
use Rattle.pw_tree.specs.Symbols.{Symbol, Reserved, Sign, assign_mark}
use Rattle.pw_tree.specs.Trees.{Word, Pointer, Expr, Identifier, Number, Floating, Character, Wide, Strings, Paren, Postfix, Unary, SizeofType, Cast, Chain, Conditional, Assign, Postfixes, NoPostfix, Index, Call, Select, Step, Arguments, NoArgument, Argument, Operations, NoOperation, Operation, Specifiers, NoSpecifier, Storage, Qualified, Basic, TypedefName, RecordTag, Record, EnumTag, Enum, Members, NoMember, Member, MemberDeclarators, NoMemberDeclarator, PlainMember, BitField, Padding, Enumerators, NoEnumerator, PlainEnumerator, ValuedEnumerator, Declarator, Declaring, Core, Absent, Name, Enclosed, Suffixes, NoSuffix, Array, OpenArray, Prototype, Variadic, Identifiers, Parameters, NoParameter, Parameter, Init, Value, Braces, Inits, NoInit, Listed, Initializer, InitDeclarator, Decl, Label, CaseLabel, DefaultLabel, NameLabel, Stmt, Compound, Expression, Labeled, If, Switch, While, Do, For, Return, Alternative, NoElse, Otherwise, ElseIf, Block, Braced, Stmts, NoStmt, Next, External, Definition, Declaration}
use Rattle.pw_tree.specs.declared.expr.Qualifier.{Qualifier}
use Rattle.pw_token.specs.declared.symbol.Keyword.TheVariants as k
use Rattle.pw_token.specs.declared.symbol.Mark.TheVariants as m

pub length-separated : (first : Bool) (z : List Symbol) → length (separated first z) ≡ length (separated first []) + length z
length-separated true z = omega arith
length-separated false z = omega arith

pub length-trailed : (first : Bool) (z : List Symbol) → length (trailed first z) ≡ length (trailed first []) + length z
length-trailed true z = omega arith
length-trailed false z = omega arith

pub length-identifiers : (first : Bool) (x : List Word) (z : List Symbol) → length (spell_identifiers first x z) ≡ length (spell_identifiers first x []) + length z
length-identifiers first [] z = omega arith
length-identifiers first (w ∷ ws) z = omega (arith, length-separated first (identifier w ∷ spell_identifiers false ws z), length-separated first (identifier w ∷ spell_identifiers false ws []), length-identifiers false ws z)

pub length-strings : (x : List Word) (z : List Symbol) → length (spell_strings x z) ≡ length (spell_strings x []) + length z
length-strings [] z = omega arith
length-strings (w ∷ ws) z = omega (arith, length-strings ws z)

pub length-tag : (x : Option Word) (z : List Symbol) → length (spell_tag x z) ≡ length (spell_tag x []) + length z
length-tag None z = omega arith
length-tag (Some w) z = omega arith

pub length-qualifiers : (x : List Qualifier) (z : List Symbol) → length (spell_qualifiers x z) ≡ length (spell_qualifiers x []) + length z
length-qualifiers [] z = omega arith
length-qualifiers (q ∷ qs) z = omega (arith, length-qualifiers qs z)

pub length-pointers : (x : List Pointer) (z : List Symbol) → length (spell_pointers x z) ≡ length (spell_pointers x []) + length z
length-pointers [] z = omega arith
length-pointers (p ∷ ps) z = omega (arith, length-qualifiers p.qualifiers (spell_pointers ps z), length-qualifiers p.qualifiers (spell_pointers ps []), length-pointers ps z)

mutual
  unfolding spell_expr

  pub length-expr : (x : Expr) (z : List Symbol) → length (spell_expr x z) ≡ length (spell_expr x []) + length z
  length-expr (Identifier w) z = omega arith
  length-expr (Number w) z = omega arith
  length-expr (Floating w) z = omega arith
  length-expr (Character w) z = omega arith
  length-expr (Wide w) z = omega arith
  length-expr (Strings ws) z = omega (arith, length-strings ws z)
  length-expr (Paren n e) z = omega (arith, length-expr e (Sign m.CloseParen ∷ z), length-expr e (Sign m.CloseParen ∷ []))
  length-expr (Postfix e ps) z = omega (arith, length-expr e (spell_postfixes ps z), length-expr e (spell_postfixes ps []), length-postfixes ps z)
  length-expr (Unary n op e) z = omega (arith, length-expr e z)
  length-expr (SizeofType n ss d) z = omega (arith, length-specifiers ss (spell_declarator d (Sign m.CloseParen ∷ z)), length-specifiers ss (spell_declarator d (Sign m.CloseParen ∷ [])), length-declarator d (Sign m.CloseParen ∷ z), length-declarator d (Sign m.CloseParen ∷ []))
  length-expr (Cast n ss d e) z = omega (arith, length-specifiers ss (spell_declarator d (Sign m.CloseParen ∷ spell_expr e z)), length-specifiers ss (spell_declarator d (Sign m.CloseParen ∷ spell_expr e [])), length-declarator d (Sign m.CloseParen ∷ spell_expr e z), length-declarator d (Sign m.CloseParen ∷ spell_expr e []), length-expr e z)
  length-expr (Chain e ops) z = omega (arith, length-expr e (spell_operations ops z), length-expr e (spell_operations ops []), length-operations ops z)
  length-expr (Conditional n c a b) z = omega (arith, length-expr c (Sign m.Question ∷ spell_expr a (Sign m.Colon ∷ spell_expr b z)), length-expr c (Sign m.Question ∷ spell_expr a (Sign m.Colon ∷ spell_expr b [])), length-expr a (Sign m.Colon ∷ spell_expr b z), length-expr a (Sign m.Colon ∷ spell_expr b []), length-expr b z)
  length-expr (Assign n op l r) z = omega (arith, length-expr l (Sign (assign_mark op) ∷ spell_expr r z), length-expr l (Sign (assign_mark op) ∷ spell_expr r []), length-expr r z)

  pub length-postfixes : (x : Postfixes) (z : List Symbol) → length (spell_postfixes x z) ≡ length (spell_postfixes x []) + length z
  length-postfixes NoPostfix z = omega arith
  length-postfixes (Index n e ps) z = omega (arith, length-expr e (Sign m.CloseBracket ∷ spell_postfixes ps z), length-expr e (Sign m.CloseBracket ∷ spell_postfixes ps []), length-postfixes ps z)
  length-postfixes (Call n es ps) z = omega (arith, length-arguments true es (Sign m.CloseParen ∷ spell_postfixes ps z), length-arguments true es (Sign m.CloseParen ∷ spell_postfixes ps []), length-postfixes ps z)
  length-postfixes (Select n a w ps) z = omega (arith, length-postfixes ps z)
  length-postfixes (Step n op ps) z = omega (arith, length-postfixes ps z)

  pub length-arguments : (first : Bool) (x : Arguments) (z : List Symbol) → length (spell_arguments first x z) ≡ length (spell_arguments first x []) + length z
  length-arguments first NoArgument z = omega arith
  length-arguments first (Argument e es) z = omega (arith, length-separated first (spell_expr e (spell_arguments false es z)), length-separated first (spell_expr e (spell_arguments false es [])), length-expr e (spell_arguments false es z), length-expr e (spell_arguments false es []), length-arguments false es z)

  pub length-operations : (x : Operations) (z : List Symbol) → length (spell_operations x z) ≡ length (spell_operations x []) + length z
  length-operations NoOperation z = omega arith
  length-operations (Operation n op e rest) z = omega (arith, length-expr e (spell_operations rest z), length-expr e (spell_operations rest []), length-operations rest z)

  pub length-specifiers : (x : Specifiers) (z : List Symbol) → length (spell_specifiers x z) ≡ length (spell_specifiers x []) + length z
  length-specifiers NoSpecifier z = omega arith
  length-specifiers (Storage n c ss) z = omega (arith, length-specifiers ss z)
  length-specifiers (Qualified n q ss) z = omega (arith, length-specifiers ss z)
  length-specifiers (Basic n b ss) z = omega (arith, length-specifiers ss z)
  length-specifiers (TypedefName w ss) z = omega (arith, length-specifiers ss z)
  length-specifiers (RecordTag n r tag ss) z = omega (arith, length-specifiers ss z)
  length-specifiers (Record n r tag ms ss) z = omega (arith, length-tag tag (Sign m.OpenBrace ∷ spell_members ms (Sign m.CloseBrace ∷ spell_specifiers ss z)), length-tag tag (Sign m.OpenBrace ∷ spell_members ms (Sign m.CloseBrace ∷ spell_specifiers ss [])), length-members ms (Sign m.CloseBrace ∷ spell_specifiers ss z), length-members ms (Sign m.CloseBrace ∷ spell_specifiers ss []), length-specifiers ss z)
  length-specifiers (EnumTag n tag ss) z = omega (arith, length-specifiers ss z)
  length-specifiers (Enum n tag es ss) z = omega (arith, length-tag tag (Sign m.OpenBrace ∷ spell_enumerators true es (Sign m.CloseBrace ∷ spell_specifiers ss z)), length-tag tag (Sign m.OpenBrace ∷ spell_enumerators true es (Sign m.CloseBrace ∷ spell_specifiers ss [])), length-enumerators true es (Sign m.CloseBrace ∷ spell_specifiers ss z), length-enumerators true es (Sign m.CloseBrace ∷ spell_specifiers ss []), length-specifiers ss z)

  pub length-members : (x : Members) (z : List Symbol) → length (spell_members x z) ≡ length (spell_members x []) + length z
  length-members NoMember z = omega arith
  length-members (Member ss ds ms) z = omega (arith, length-specifiers ss (spell_member_declarators true ds (Sign m.Semicolon ∷ spell_members ms z)), length-specifiers ss (spell_member_declarators true ds (Sign m.Semicolon ∷ spell_members ms [])), length-member_declarators true ds (Sign m.Semicolon ∷ spell_members ms z), length-member_declarators true ds (Sign m.Semicolon ∷ spell_members ms []), length-members ms z)

  pub length-member_declarators : (first : Bool) (x : MemberDeclarators) (z : List Symbol) → length (spell_member_declarators first x z) ≡ length (spell_member_declarators first x []) + length z
  length-member_declarators first NoMemberDeclarator z = omega arith
  length-member_declarators first (PlainMember d ds) z = omega (arith, length-separated first (spell_declarator d (spell_member_declarators false ds z)), length-separated first (spell_declarator d (spell_member_declarators false ds [])), length-declarator d (spell_member_declarators false ds z), length-declarator d (spell_member_declarators false ds []), length-member_declarators false ds z)
  length-member_declarators first (BitField d n e ds) z = omega (arith, length-separated first (spell_declarator d (Sign m.Colon ∷ spell_expr e (spell_member_declarators false ds z))), length-separated first (spell_declarator d (Sign m.Colon ∷ spell_expr e (spell_member_declarators false ds []))), length-declarator d (Sign m.Colon ∷ spell_expr e (spell_member_declarators false ds z)), length-declarator d (Sign m.Colon ∷ spell_expr e (spell_member_declarators false ds [])), length-expr e (spell_member_declarators false ds z), length-expr e (spell_member_declarators false ds []), length-member_declarators false ds z)
  length-member_declarators first (Padding n e ds) z = omega (arith, length-separated first (Sign m.Colon ∷ spell_expr e (spell_member_declarators false ds z)), length-separated first (Sign m.Colon ∷ spell_expr e (spell_member_declarators false ds [])), length-expr e (spell_member_declarators false ds z), length-expr e (spell_member_declarators false ds []), length-member_declarators false ds z)

  pub length-enumerators : (first : Bool) (x : Enumerators) (z : List Symbol) → length (spell_enumerators first x z) ≡ length (spell_enumerators first x []) + length z
  length-enumerators first NoEnumerator z = omega arith
  length-enumerators first (PlainEnumerator w es) z = omega (arith, length-separated first (identifier w ∷ spell_enumerators false es z), length-separated first (identifier w ∷ spell_enumerators false es []), length-enumerators false es z)
  length-enumerators first (ValuedEnumerator w e es) z = omega (arith, length-separated first (identifier w ∷ Sign m.Equal ∷ spell_expr e (spell_enumerators false es z)), length-separated first (identifier w ∷ Sign m.Equal ∷ spell_expr e (spell_enumerators false es [])), length-expr e (spell_enumerators false es z), length-expr e (spell_enumerators false es []), length-enumerators false es z)

  pub length-declarator : (x : Declarator) (z : List Symbol) → length (spell_declarator x z) ≡ length (spell_declarator x []) + length z
  length-declarator (Declaring ps core ss) z = omega (arith, length-pointers ps (spell_core core (spell_suffixes ss z)), length-pointers ps (spell_core core (spell_suffixes ss [])), length-core core (spell_suffixes ss z), length-core core (spell_suffixes ss []), length-suffixes ss z)

  pub length-core : (x : Core) (z : List Symbol) → length (spell_core x z) ≡ length (spell_core x []) + length z
  length-core Absent z = omega arith
  length-core (Name w) z = omega arith
  length-core (Enclosed n d) z = omega (arith, length-declarator d (Sign m.CloseParen ∷ z), length-declarator d (Sign m.CloseParen ∷ []))

  pub length-suffixes : (x : Suffixes) (z : List Symbol) → length (spell_suffixes x z) ≡ length (spell_suffixes x []) + length z
  length-suffixes NoSuffix z = omega arith
  length-suffixes (Array n e ss) z = omega (arith, length-expr e (Sign m.CloseBracket ∷ spell_suffixes ss z), length-expr e (Sign m.CloseBracket ∷ spell_suffixes ss []), length-suffixes ss z)
  length-suffixes (OpenArray n ss) z = omega (arith, length-suffixes ss z)
  length-suffixes (Prototype n ps ss) z = omega (arith, length-parameters true ps (Sign m.CloseParen ∷ spell_suffixes ss z), length-parameters true ps (Sign m.CloseParen ∷ spell_suffixes ss []), length-suffixes ss z)
  length-suffixes (Variadic n ps ss) z = omega (arith, length-parameters true ps (Sign m.Comma ∷ Sign m.Ellipsis ∷ Sign m.CloseParen ∷ spell_suffixes ss z), length-parameters true ps (Sign m.Comma ∷ Sign m.Ellipsis ∷ Sign m.CloseParen ∷ spell_suffixes ss []), length-suffixes ss z)
  length-suffixes (Identifiers n ws ss) z = omega (arith, length-identifiers true ws (Sign m.CloseParen ∷ spell_suffixes ss z), length-identifiers true ws (Sign m.CloseParen ∷ spell_suffixes ss []), length-suffixes ss z)

  pub length-parameters : (first : Bool) (x : Parameters) (z : List Symbol) → length (spell_parameters first x z) ≡ length (spell_parameters first x []) + length z
  length-parameters first NoParameter z = omega arith
  length-parameters first (Parameter ss d ps) z = omega (arith, length-separated first (spell_specifiers ss (spell_declarator d (spell_parameters false ps z))), length-separated first (spell_specifiers ss (spell_declarator d (spell_parameters false ps []))), length-specifiers ss (spell_declarator d (spell_parameters false ps z)), length-specifiers ss (spell_declarator d (spell_parameters false ps [])), length-declarator d (spell_parameters false ps z), length-declarator d (spell_parameters false ps []), length-parameters false ps z)

pub length-optional : (x : Option Expr) (z : List Symbol) → length (spell_optional x z) ≡ length (spell_optional x []) + length z
length-optional None z = omega arith
length-optional (Some e) z = omega (arith, length-expr e z)

mutual
  unfolding spell_init

  pub length-init : (x : Init) (z : List Symbol) → length (spell_init x z) ≡ length (spell_init x []) + length z
  length-init (Value e) z = omega (arith, length-expr e z)
  length-init (Braces n is trailing) z = omega (arith, length-inits true is (trailed trailing (Sign m.CloseBrace ∷ z)), length-inits true is (trailed trailing (Sign m.CloseBrace ∷ [])), length-trailed trailing (Sign m.CloseBrace ∷ z), length-trailed trailing (Sign m.CloseBrace ∷ []))

  pub length-inits : (first : Bool) (x : Inits) (z : List Symbol) → length (spell_inits first x z) ≡ length (spell_inits first x []) + length z
  length-inits first NoInit z = omega arith
  length-inits first (Listed i is) z = omega (arith, length-separated first (spell_init i (spell_inits false is z)), length-separated first (spell_init i (spell_inits false is [])), length-init i (spell_inits false is z), length-init i (spell_inits false is []), length-inits false is z)

pub length-initializer : (x : Option Initializer) (z : List Symbol) → length (spell_initializer x z) ≡ length (spell_initializer x []) + length z
length-initializer None z = omega arith
length-initializer (Some i) z = omega (arith, length-init i.init z)

pub length-init_declarators : (first : Bool) (x : List InitDeclarator) (z : List Symbol) → length (spell_init_declarators first x z) ≡ length (spell_init_declarators first x []) + length z
length-init_declarators first [] z = omega arith
length-init_declarators first (d ∷ ds) z = omega (arith, length-separated first (spell_declarator d.declarator (spell_initializer d.initializer (spell_init_declarators false ds z))), length-separated first (spell_declarator d.declarator (spell_initializer d.initializer (spell_init_declarators false ds []))), length-declarator d.declarator (spell_initializer d.initializer (spell_init_declarators false ds z)), length-declarator d.declarator (spell_initializer d.initializer (spell_init_declarators false ds [])), length-initializer d.initializer (spell_init_declarators false ds z), length-initializer d.initializer (spell_init_declarators false ds []), length-init_declarators false ds z)

pub length-decl : (x : Decl) (z : List Symbol) → length (spell_decl x z) ≡ length (spell_decl x []) + length z
length-decl d z = omega (arith, length-specifiers d.specifiers (spell_init_declarators true d.declarators (Sign m.Semicolon ∷ z)), length-specifiers d.specifiers (spell_init_declarators true d.declarators (Sign m.Semicolon ∷ [])), length-init_declarators true d.declarators (Sign m.Semicolon ∷ z), length-init_declarators true d.declarators (Sign m.Semicolon ∷ []))

pub length-decls : (x : List Decl) (z : List Symbol) → length (spell_decls x z) ≡ length (spell_decls x []) + length z
length-decls [] z = omega arith
length-decls (d ∷ ds) z = omega (arith, length-decl d (spell_decls ds z), length-decl d (spell_decls ds []), length-decls ds z)

pub length-label : (x : Label) (z : List Symbol) → length (spell_label x z) ≡ length (spell_label x []) + length z
length-label (CaseLabel n e) z = omega (arith, length-expr e (Sign m.Colon ∷ z), length-expr e (Sign m.Colon ∷ []))
length-label (DefaultLabel n) z = omega arith
length-label (NameLabel w) z = omega arith

pub length-labels : (x : List Label) (z : List Symbol) → length (spell_labels x z) ≡ length (spell_labels x []) + length z
length-labels [] z = omega arith
length-labels (l ∷ ls) z = omega (arith, length-label l (spell_labels ls z), length-label l (spell_labels ls []), length-labels ls z)

mutual
  unfolding spell_stmt

  pub length-stmt : (x : Stmt) (z : List Symbol) → length (spell_stmt x z) ≡ length (spell_stmt x []) + length z
  length-stmt (Compound b) z = omega (arith, length-block b z)
  length-stmt (Expression e) z = omega (arith, length-expr e (Sign m.Semicolon ∷ z), length-expr e (Sign m.Semicolon ∷ []))
  length-stmt (Labeled ls s) z = omega (arith, length-labels ls (spell_stmt s z), length-labels ls (spell_stmt s []), length-stmt s z)
  length-stmt (If n c s a) z = omega (arith, length-expr c (Sign m.CloseParen ∷ spell_stmt s (spell_alternative a z)), length-expr c (Sign m.CloseParen ∷ spell_stmt s (spell_alternative a [])), length-stmt s (spell_alternative a z), length-stmt s (spell_alternative a []), length-alternative a z)
  length-stmt (Switch n e s) z = omega (arith, length-expr e (Sign m.CloseParen ∷ spell_stmt s z), length-expr e (Sign m.CloseParen ∷ spell_stmt s []), length-stmt s z)
  length-stmt (While n e s) z = omega (arith, length-expr e (Sign m.CloseParen ∷ spell_stmt s z), length-expr e (Sign m.CloseParen ∷ spell_stmt s []), length-stmt s z)
  length-stmt (Do n s e) z = omega (arith, length-stmt s (Reserved k.While ∷ Sign m.OpenParen ∷ spell_expr e (Sign m.CloseParen ∷ Sign m.Semicolon ∷ z)), length-stmt s (Reserved k.While ∷ Sign m.OpenParen ∷ spell_expr e (Sign m.CloseParen ∷ Sign m.Semicolon ∷ [])), length-expr e (Sign m.CloseParen ∷ Sign m.Semicolon ∷ z), length-expr e (Sign m.CloseParen ∷ Sign m.Semicolon ∷ []))
  length-stmt (For n a b c s) z = omega (arith, length-optional a (Sign m.Semicolon ∷ spell_optional b (Sign m.Semicolon ∷ spell_optional c (Sign m.CloseParen ∷ spell_stmt s z))), length-optional a (Sign m.Semicolon ∷ spell_optional b (Sign m.Semicolon ∷ spell_optional c (Sign m.CloseParen ∷ spell_stmt s []))), length-optional b (Sign m.Semicolon ∷ spell_optional c (Sign m.CloseParen ∷ spell_stmt s z)), length-optional b (Sign m.Semicolon ∷ spell_optional c (Sign m.CloseParen ∷ spell_stmt s [])), length-optional c (Sign m.CloseParen ∷ spell_stmt s z), length-optional c (Sign m.CloseParen ∷ spell_stmt s []), length-stmt s z)
  length-stmt (Return n e) z = omega (arith, length-optional e (Sign m.Semicolon ∷ z), length-optional e (Sign m.Semicolon ∷ []))
  length-stmt _ z = omega arith

  pub length-alternative : (x : Alternative) (z : List Symbol) → length (spell_alternative x z) ≡ length (spell_alternative x []) + length z
  length-alternative NoElse z = omega arith
  length-alternative (Otherwise s) z = omega (arith, length-stmt s z)
  length-alternative (ElseIf n c s a) z = omega (arith, length-expr c (Sign m.CloseParen ∷ spell_stmt s (spell_alternative a z)), length-expr c (Sign m.CloseParen ∷ spell_stmt s (spell_alternative a [])), length-stmt s (spell_alternative a z), length-stmt s (spell_alternative a []), length-alternative a z)

  pub length-block : (x : Block) (z : List Symbol) → length (spell_block x z) ≡ length (spell_block x []) + length z
  length-block (Braced n ds ss) z = omega (arith, length-decls ds (spell_stmts ss (Sign m.CloseBrace ∷ z)), length-decls ds (spell_stmts ss (Sign m.CloseBrace ∷ [])), length-stmts ss (Sign m.CloseBrace ∷ z), length-stmts ss (Sign m.CloseBrace ∷ []))

  pub length-stmts : (x : Stmts) (z : List Symbol) → length (spell_stmts x z) ≡ length (spell_stmts x []) + length z
  length-stmts NoStmt z = omega arith
  length-stmts (Next s ss) z = omega (arith, length-stmt s (spell_stmts ss z), length-stmt s (spell_stmts ss []), length-stmts ss z)

pub length-external : (x : External) (z : List Symbol) → length (spell_external x z) ≡ length (spell_external x []) + length z
length-external (Definition f) z = omega (arith, length-specifiers f.specifiers (spell_declarator f.declarator (spell_decls f.declarations (spell_block f.body z))), length-specifiers f.specifiers (spell_declarator f.declarator (spell_decls f.declarations (spell_block f.body []))), length-declarator f.declarator (spell_decls f.declarations (spell_block f.body z)), length-declarator f.declarator (spell_decls f.declarations (spell_block f.body [])), length-decls f.declarations (spell_block f.body z), length-decls f.declarations (spell_block f.body []), length-block f.body z)
length-external (Declaration d) z = omega (arith, length-decl d z)

pub length-externals : (x : List External) (z : List Symbol) → length (spell_externals x z) ≡ length (spell_externals x []) + length z
length-externals [] z = omega arith
length-externals (e ∷ es) z = omega (arith, length-external e (spell_externals es z), length-external e (spell_externals es []), length-externals es z)
