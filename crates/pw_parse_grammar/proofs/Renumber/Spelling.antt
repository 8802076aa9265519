-- A tree with the numbers of its tokens is spelled as before.
use Rattle.std.proofs.Common.{◌≡◌, ℕ, Bool, true, false, List, [], ◌∷◌, Option, Some, None, ap}
use Rattle.pw_tree.specs.Symbols as symbol
use Rattle.pw_tree.specs.Symbols.{Symbol, Reserved, Sign, storage_word, qualifier_word, basic_word, record_word, access_mark, step_mark, unary_symbol, binary_mark, assign_mark}
use Rattle.pw_tree.specs.Spelling.{identifier, separated, trailed, spell_qualifiers, spell_strings, spell_externals, spell_identifiers, spell_tag, spell_pointers, spell_expr, spell_postfixes, spell_arguments, spell_operations, spell_specifiers, spell_members, spell_member_declarators, spell_enumerators, spell_declarator, spell_core, spell_suffixes, spell_parameters, spell_optional, spell_init, spell_inits, spell_initializer, spell_init_declarators, spell_decl, spell_decls, spell_label, spell_labels, spell_stmt, spell_alternative, spell_block, spell_stmts, spell_external}
use Rattle.pw_tree.specs.Trees.{Word, Pointer, Expr, Identifier, Number, Floating, Character, Wide, Strings, Paren, Postfix, Unary, SizeofType, Cast, Chain, Conditional, Assign, Postfixes, NoPostfix, Index, Call, Select, Step, Arguments, NoArgument, Argument, Operations, NoOperation, Operation, Specifiers, NoSpecifier, Storage, Qualified, Basic, TypedefName, RecordTag, Record, EnumTag, Enum, Members, NoMember, Member, MemberDeclarators, NoMemberDeclarator, PlainMember, BitField, Padding, Enumerators, NoEnumerator, PlainEnumerator, ValuedEnumerator, Declarator, Declaring, Core, Absent, Name, Enclosed, Suffixes, NoSuffix, Array, OpenArray, Prototype, Variadic, Identifiers, Parameters, NoParameter, Parameter, Init, Value, Braces, Inits, NoInit, Listed, Initializer, InitDeclarator, Decl, Label, CaseLabel, DefaultLabel, NameLabel, Stmt, Compound, Expression, Empty, Labeled, If, Switch, While, Do, For, Goto, Continue, Break, Return, Alternative, NoElse, Otherwise, ElseIf, Block, Braced, Stmts, NoStmt, Next, External, Definition, Declaration}
use Rattle.pw_token.specs.declared.symbol.Keyword.TheVariants as k
use Rattle.pw_token.specs.declared.symbol.Mark.TheVariants as m
use Rattle.pw_parse_grammar.specs.TokenNumbers.{number_identifiers, number_strings, number_tag, number_pointers, number_expr, number_postfixes, number_arguments, number_operations, number_specifiers, number_members, number_member_declarators, number_enumerators, number_declarator, number_core, number_suffixes, number_parameters, number_optional, number_init, number_inits, number_initializer, number_init_declarators, number_decl, number_decls, number_label, number_labels, number_stmt, number_alternative, number_block, number_stmts, number_external, number_externals}

-- ---- lists of words

pub respell-identifiers : (first : Bool) (x : List Word) (n : ℕ) {y z : List Symbol} → y ≡ z → spell_identifiers first (number_identifiers first n x) y ≡ spell_identifiers first x z
respell-identifiers first [] start same = same
respell-identifiers first (w ∷ ws) start same = ap (separated first) (ap (λ v. identifier w ∷ v) (respell-identifiers false ws _ same))

pub respell-strings : (x : List Word) (n : ℕ) {y z : List Symbol} → y ≡ z → spell_strings (number_strings n x) y ≡ spell_strings x z
respell-strings [] start same = same
respell-strings (w ∷ ws) start same = ap (λ v. symbol.Text w.text ∷ v) (respell-strings ws _ same)

pub respell-tag : (x : Option Word) (n : ℕ) {y z : List Symbol} → y ≡ z → spell_tag (number_tag n x) y ≡ spell_tag x z
respell-tag None start same = same
respell-tag (Some w) start same = ap (λ v. identifier w ∷ v) same

pub respell-pointers : (x : List Pointer) (n : ℕ) {y z : List Symbol} → y ≡ z → spell_pointers (number_pointers n x) y ≡ spell_pointers x z
respell-pointers [] start same = same
respell-pointers (p ∷ ps) start same = ap (λ v. Sign m.Star ∷ v) (ap (spell_qualifiers p.qualifiers) (respell-pointers ps _ same))

-- ---- expressions, specifiers and declarators

mutual
  unfolding spell_expr number_expr

  pub respell-expr : (x : Expr) (n : ℕ) {y z : List Symbol} → y ≡ z → spell_expr (number_expr n x) y ≡ spell_expr x z
  respell-expr (Identifier w) start same = ap (λ v. identifier w ∷ v) same
  respell-expr (Number w) start same = ap (λ v. symbol.Number w.text ∷ v) same
  respell-expr (Floating w) start same = ap (λ v. symbol.Floating w.text ∷ v) same
  respell-expr (Character w) start same = ap (λ v. symbol.Character w.text ∷ v) same
  respell-expr (Wide w) start same = ap (λ v. symbol.Wide w.text ∷ v) same
  respell-expr (Strings ws) start same = respell-strings ws _ same
  respell-expr (Paren n e) start same = ap (λ v. Sign m.OpenParen ∷ v) (respell-expr e _ (ap (λ v. Sign m.CloseParen ∷ v) same))
  respell-expr (Postfix e ps) start same = respell-expr e _ (respell-postfixes ps _ same)
  respell-expr (Unary n op e) start same = ap (λ v. unary_symbol op ∷ v) (respell-expr e _ same)
  respell-expr (SizeofType n ss d) start same = ap (λ v. Reserved k.Sizeof ∷ Sign m.OpenParen ∷ v) (respell-specifiers ss _ (respell-declarator d _ (ap (λ v. Sign m.CloseParen ∷ v) same)))
  respell-expr (Cast n ss d e) start same = ap (λ v. Sign m.OpenParen ∷ v) (respell-specifiers ss _ (respell-declarator d _ (ap (λ v. Sign m.CloseParen ∷ v) (respell-expr e _ same))))
  respell-expr (Chain e ops) start same = respell-expr e _ (respell-operations ops _ same)
  respell-expr (Conditional n c a b) start same = respell-expr c _ (ap (λ v. Sign m.Question ∷ v) (respell-expr a _ (ap (λ v. Sign m.Colon ∷ v) (respell-expr b _ same))))
  respell-expr (Assign n op l r) start same = respell-expr l _ (ap (λ v. Sign (assign_mark op) ∷ v) (respell-expr r _ same))

  pub respell-postfixes : (x : Postfixes) (n : ℕ) {y z : List Symbol} → y ≡ z → spell_postfixes (number_postfixes n x) y ≡ spell_postfixes x z
  respell-postfixes NoPostfix start same = same
  respell-postfixes (Index n e ps) start same = ap (λ v. Sign m.OpenBracket ∷ v) (respell-expr e _ (ap (λ v. Sign m.CloseBracket ∷ v) (respell-postfixes ps _ same)))
  respell-postfixes (Call n es ps) start same = ap (λ v. Sign m.OpenParen ∷ v) (respell-arguments true es _ (ap (λ v. Sign m.CloseParen ∷ v) (respell-postfixes ps _ same)))
  respell-postfixes (Select n a w ps) start same = ap (λ v. Sign (access_mark a) ∷ identifier w ∷ v) (respell-postfixes ps _ same)
  respell-postfixes (Step n op ps) start same = ap (λ v. Sign (step_mark op) ∷ v) (respell-postfixes ps _ same)

  pub respell-arguments : (first : Bool) (x : Arguments) (n : ℕ) {y z : List Symbol} → y ≡ z → spell_arguments first (number_arguments first n x) y ≡ spell_arguments first x z
  respell-arguments first NoArgument start same = same
  respell-arguments first (Argument e es) start same = ap (separated first) (respell-expr e _ (respell-arguments false es _ same))

  pub respell-operations : (x : Operations) (n : ℕ) {y z : List Symbol} → y ≡ z → spell_operations (number_operations n x) y ≡ spell_operations x z
  respell-operations NoOperation start same = same
  respell-operations (Operation n op e rest) start same = ap (λ v. Sign (binary_mark op) ∷ v) (respell-expr e _ (respell-operations rest _ same))

  pub respell-specifiers : (x : Specifiers) (n : ℕ) {y z : List Symbol} → y ≡ z → spell_specifiers (number_specifiers n x) y ≡ spell_specifiers x z
  respell-specifiers NoSpecifier start same = same
  respell-specifiers (Storage n c ss) start same = ap (λ v. Reserved (storage_word c) ∷ v) (respell-specifiers ss _ same)
  respell-specifiers (Qualified n q ss) start same = ap (λ v. Reserved (qualifier_word q) ∷ v) (respell-specifiers ss _ same)
  respell-specifiers (Basic n b ss) start same = ap (λ v. Reserved (basic_word b) ∷ v) (respell-specifiers ss _ same)
  respell-specifiers (TypedefName w ss) start same = ap (λ v. identifier w ∷ v) (respell-specifiers ss _ same)
  respell-specifiers (RecordTag n r tag ss) start same = ap (λ v. Reserved (record_word r) ∷ identifier tag ∷ v) (respell-specifiers ss _ same)
  respell-specifiers (Record n r tag ms ss) start same = ap (λ v. Reserved (record_word r) ∷ v) (respell-tag tag _ (ap (λ v. Sign m.OpenBrace ∷ v) (respell-members ms _ (ap (λ v. Sign m.CloseBrace ∷ v) (respell-specifiers ss _ same)))))
  respell-specifiers (EnumTag n tag ss) start same = ap (λ v. Reserved k.Enum ∷ identifier tag ∷ v) (respell-specifiers ss _ same)
  respell-specifiers (Enum n tag es ss) start same = ap (λ v. Reserved k.Enum ∷ v) (respell-tag tag _ (ap (λ v. Sign m.OpenBrace ∷ v) (respell-enumerators true es _ (ap (λ v. Sign m.CloseBrace ∷ v) (respell-specifiers ss _ same)))))

  pub respell-members : (x : Members) (n : ℕ) {y z : List Symbol} → y ≡ z → spell_members (number_members n x) y ≡ spell_members x z
  respell-members NoMember start same = same
  respell-members (Member ss ds ms) start same = respell-specifiers ss _ (respell-member_declarators true ds _ (ap (λ v. Sign m.Semicolon ∷ v) (respell-members ms _ same)))

  pub respell-member_declarators : (first : Bool) (x : MemberDeclarators) (n : ℕ) {y z : List Symbol} → y ≡ z → spell_member_declarators first (number_member_declarators first n x) y ≡ spell_member_declarators first x z
  respell-member_declarators first NoMemberDeclarator start same = same
  respell-member_declarators first (PlainMember d ds) start same = ap (separated first) (respell-declarator d _ (respell-member_declarators false ds _ same))
  respell-member_declarators first (BitField d n e ds) start same = ap (separated first) (respell-declarator d _ (ap (λ v. Sign m.Colon ∷ v) (respell-expr e _ (respell-member_declarators false ds _ same))))
  respell-member_declarators first (Padding n e ds) start same = ap (separated first) (ap (λ v. Sign m.Colon ∷ v) (respell-expr e _ (respell-member_declarators false ds _ same)))

  pub respell-enumerators : (first : Bool) (x : Enumerators) (n : ℕ) {y z : List Symbol} → y ≡ z → spell_enumerators first (number_enumerators first n x) y ≡ spell_enumerators first x z
  respell-enumerators first NoEnumerator start same = same
  respell-enumerators first (PlainEnumerator w es) start same = ap (separated first) (ap (λ v. identifier w ∷ v) (respell-enumerators false es _ same))
  respell-enumerators first (ValuedEnumerator w e es) start same = ap (separated first) (ap (λ v. identifier w ∷ Sign m.Equal ∷ v) (respell-expr e _ (respell-enumerators false es _ same)))

  pub respell-declarator : (x : Declarator) (n : ℕ) {y z : List Symbol} → y ≡ z → spell_declarator (number_declarator n x) y ≡ spell_declarator x z
  respell-declarator (Declaring ps core ss) start same = respell-pointers ps _ (respell-core core _ (respell-suffixes ss _ same))

  pub respell-core : (x : Core) (n : ℕ) {y z : List Symbol} → y ≡ z → spell_core (number_core n x) y ≡ spell_core x z
  respell-core Absent start same = same
  respell-core (Name w) start same = ap (λ v. identifier w ∷ v) same
  respell-core (Enclosed n d) start same = ap (λ v. Sign m.OpenParen ∷ v) (respell-declarator d _ (ap (λ v. Sign m.CloseParen ∷ v) same))

  pub respell-suffixes : (x : Suffixes) (n : ℕ) {y z : List Symbol} → y ≡ z → spell_suffixes (number_suffixes n x) y ≡ spell_suffixes x z
  respell-suffixes NoSuffix start same = same
  respell-suffixes (Array n e ss) start same = ap (λ v. Sign m.OpenBracket ∷ v) (respell-expr e _ (ap (λ v. Sign m.CloseBracket ∷ v) (respell-suffixes ss _ same)))
  respell-suffixes (OpenArray n ss) start same = ap (λ v. Sign m.OpenBracket ∷ Sign m.CloseBracket ∷ v) (respell-suffixes ss _ same)
  respell-suffixes (Prototype n ps ss) start same = ap (λ v. Sign m.OpenParen ∷ v) (respell-parameters true ps _ (ap (λ v. Sign m.CloseParen ∷ v) (respell-suffixes ss _ same)))
  respell-suffixes (Variadic n ps ss) start same = ap (λ v. Sign m.OpenParen ∷ v) (respell-parameters true ps _ (ap (λ v. Sign m.Comma ∷ Sign m.Ellipsis ∷ Sign m.CloseParen ∷ v) (respell-suffixes ss _ same)))
  respell-suffixes (Identifiers n ws ss) start same = ap (λ v. Sign m.OpenParen ∷ v) (respell-identifiers true ws _ (ap (λ v. Sign m.CloseParen ∷ v) (respell-suffixes ss _ same)))

  pub respell-parameters : (first : Bool) (x : Parameters) (n : ℕ) {y z : List Symbol} → y ≡ z → spell_parameters first (number_parameters first n x) y ≡ spell_parameters first x z
  respell-parameters first NoParameter start same = same
  respell-parameters first (Parameter ss d ps) start same = ap (separated first) (respell-specifiers ss _ (respell-declarator d _ (respell-parameters false ps _ same)))

pub respell-optional : (x : Option Expr) (n : ℕ) {y z : List Symbol} → y ≡ z → spell_optional (number_optional n x) y ≡ spell_optional x z
respell-optional None start same = same
respell-optional (Some e) start same = respell-expr e _ same

-- ---- declarations

mutual
  unfolding spell_init number_init

  pub respell-init : (x : Init) (n : ℕ) {y z : List Symbol} → y ≡ z → spell_init (number_init n x) y ≡ spell_init x z
  respell-init (Value e) start same = respell-expr e _ same
  respell-init (Braces n is trailing) start same = ap (λ v. Sign m.OpenBrace ∷ v) (respell-inits true is _ (ap (trailed trailing) (ap (λ v. Sign m.CloseBrace ∷ v) same)))

  pub respell-inits : (first : Bool) (x : Inits) (n : ℕ) {y z : List Symbol} → y ≡ z → spell_inits first (number_inits first n x) y ≡ spell_inits first x z
  respell-inits first NoInit start same = same
  respell-inits first (Listed i is) start same = ap (separated first) (respell-init i _ (respell-inits false is _ same))

pub respell-initializer : (x : Option Initializer) (n : ℕ) {y z : List Symbol} → y ≡ z → spell_initializer (number_initializer n x) y ≡ spell_initializer x z
respell-initializer None start same = same
respell-initializer (Some i) start same = ap (λ v. Sign m.Equal ∷ v) (respell-init i.init _ same)

pub respell-init_declarators : (first : Bool) (x : List InitDeclarator) (n : ℕ) {y z : List Symbol} → y ≡ z → spell_init_declarators first (number_init_declarators first n x) y ≡ spell_init_declarators first x z
respell-init_declarators first [] start same = same
respell-init_declarators first (d ∷ ds) start same = ap (separated first) (respell-declarator d.declarator _ (respell-initializer d.initializer _ (respell-init_declarators false ds _ same)))

pub respell-decl : (x : Decl) (n : ℕ) {y z : List Symbol} → y ≡ z → spell_decl (number_decl n x) y ≡ spell_decl x z
respell-decl d start same = respell-specifiers d.specifiers _ (respell-init_declarators true d.declarators _ (ap (λ v. Sign m.Semicolon ∷ v) same))

pub respell-decls : (x : List Decl) (n : ℕ) {y z : List Symbol} → y ≡ z → spell_decls (number_decls n x) y ≡ spell_decls x z
respell-decls [] start same = same
respell-decls (d ∷ ds) start same = respell-decl d _ (respell-decls ds _ same)

-- ---- statements

pub respell-label : (x : Label) (n : ℕ) {y z : List Symbol} → y ≡ z → spell_label (number_label n x) y ≡ spell_label x z
respell-label (CaseLabel n e) start same = ap (λ v. Reserved k.Case ∷ v) (respell-expr e _ (ap (λ v. Sign m.Colon ∷ v) same))
respell-label (DefaultLabel n) start same = ap (λ v. Reserved k.Default ∷ Sign m.Colon ∷ v) same
respell-label (NameLabel w) start same = ap (λ v. identifier w ∷ Sign m.Colon ∷ v) same

pub respell-labels : (x : List Label) (n : ℕ) {y z : List Symbol} → y ≡ z → spell_labels (number_labels n x) y ≡ spell_labels x z
respell-labels [] start same = same
respell-labels (l ∷ ls) start same = respell-label l _ (respell-labels ls _ same)

mutual
  unfolding spell_stmt number_stmt

  pub respell-stmt : (x : Stmt) (n : ℕ) {y z : List Symbol} → y ≡ z → spell_stmt (number_stmt n x) y ≡ spell_stmt x z
  respell-stmt (Compound b) start same = respell-block b _ same
  respell-stmt (Expression e) start same = respell-expr e _ (ap (λ v. Sign m.Semicolon ∷ v) same)
  respell-stmt (Empty n) start same = ap (λ v. Sign m.Semicolon ∷ v) same
  respell-stmt (Labeled ls s) start same = respell-labels ls _ (respell-stmt s _ same)
  respell-stmt (If n c s a) start same = ap (λ v. Reserved k.If ∷ Sign m.OpenParen ∷ v) (respell-expr c _ (ap (λ v. Sign m.CloseParen ∷ v) (respell-stmt s _ (respell-alternative a _ same))))
  respell-stmt (Switch n e s) start same = ap (λ v. Reserved k.Switch ∷ Sign m.OpenParen ∷ v) (respell-expr e _ (ap (λ v. Sign m.CloseParen ∷ v) (respell-stmt s _ same)))
  respell-stmt (While n e s) start same = ap (λ v. Reserved k.While ∷ Sign m.OpenParen ∷ v) (respell-expr e _ (ap (λ v. Sign m.CloseParen ∷ v) (respell-stmt s _ same)))
  respell-stmt (Do n s e) start same = ap (λ v. Reserved k.Do ∷ v) (respell-stmt s _ (ap (λ v. Reserved k.While ∷ Sign m.OpenParen ∷ v) (respell-expr e _ (ap (λ v. Sign m.CloseParen ∷ Sign m.Semicolon ∷ v) same))))
  respell-stmt (For n a b c s) start same = ap (λ v. Reserved k.For ∷ Sign m.OpenParen ∷ v) (respell-optional a _ (ap (λ v. Sign m.Semicolon ∷ v) (respell-optional b _ (ap (λ v. Sign m.Semicolon ∷ v) (respell-optional c _ (ap (λ v. Sign m.CloseParen ∷ v) (respell-stmt s _ same)))))))
  respell-stmt (Goto n w) start same = ap (λ v. Reserved k.Goto ∷ identifier w ∷ Sign m.Semicolon ∷ v) same
  respell-stmt (Continue n) start same = ap (λ v. Reserved k.Continue ∷ Sign m.Semicolon ∷ v) same
  respell-stmt (Break n) start same = ap (λ v. Reserved k.Break ∷ Sign m.Semicolon ∷ v) same
  respell-stmt (Return n e) start same = ap (λ v. Reserved k.Return ∷ v) (respell-optional e _ (ap (λ v. Sign m.Semicolon ∷ v) same))

  pub respell-alternative : (x : Alternative) (n : ℕ) {y z : List Symbol} → y ≡ z → spell_alternative (number_alternative n x) y ≡ spell_alternative x z
  respell-alternative NoElse start same = same
  respell-alternative (Otherwise s) start same = ap (λ v. Reserved k.Else ∷ v) (respell-stmt s _ same)
  respell-alternative (ElseIf n c s a) start same = ap (λ v. Reserved k.Else ∷ Reserved k.If ∷ Sign m.OpenParen ∷ v) (respell-expr c _ (ap (λ v. Sign m.CloseParen ∷ v) (respell-stmt s _ (respell-alternative a _ same))))

  pub respell-block : (x : Block) (n : ℕ) {y z : List Symbol} → y ≡ z → spell_block (number_block n x) y ≡ spell_block x z
  respell-block (Braced n ds ss) start same = ap (λ v. Sign m.OpenBrace ∷ v) (respell-decls ds _ (respell-stmts ss _ (ap (λ v. Sign m.CloseBrace ∷ v) same)))

  pub respell-stmts : (x : Stmts) (n : ℕ) {y z : List Symbol} → y ≡ z → spell_stmts (number_stmts n x) y ≡ spell_stmts x z
  respell-stmts NoStmt start same = same
  respell-stmts (Next s ss) start same = respell-stmt s _ (respell-stmts ss _ same)

-- ---- modules

pub respell-external : (x : External) (n : ℕ) {y z : List Symbol} → y ≡ z → spell_external (number_external n x) y ≡ spell_external x z
respell-external (Definition f) start same = respell-specifiers f.specifiers _ (respell-declarator f.declarator _ (respell-decls f.declarations _ (respell-block f.body _ same)))
respell-external (Declaration d) start same = respell-decl d _ same

pub respell-externals : (x : List External) (n : ℕ) {y z : List Symbol} → y ≡ z → spell_externals (number_externals n x) y ≡ spell_externals x z
respell-externals [] start same = same
respell-externals (e ∷ es) start same = respell-external e _ (respell-externals es _ same)
