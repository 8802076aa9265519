-- The words of a tree spell what they are where each token of its spelling does.
use Rattle.std.proofs.Common.{Bool, true, false, List, [], ◌∷◌, Option, Some, None}
use Rattle.pw_token.specs.Spelling.{Spells}
use Rattle.pw_tree.specs.Spelling.{identifier, separated, trailed, spell_identifiers, spell_strings, spell_tag, spell_qualifiers, spell_pointers, spell_expr, spell_postfixes, spell_arguments, spell_operations, spell_specifiers, spell_members, spell_member_declarators, spell_enumerators, spell_declarator, spell_core, spell_suffixes, spell_parameters, spell_optional, spell_init, spell_inits, spell_initializer, spell_init_declarators, spell_decl, spell_decls, spell_label, spell_labels, spell_stmt, spell_alternative, spell_block, spell_stmts, spell_external, spell_externals}
use Rattle.pw_tree.specs.Symbols.{Symbol, Reserved, Sign, spelled, assign_mark}
use Rattle.pw_tree.specs.Trees.{Word, Pointer, Expr, Identifier, Number, Floating, Character, Wide, Strings, Paren, Postfix, Unary, SizeofType, Cast, Chain, Conditional, Assign, Postfixes, NoPostfix, Index, Call, Select, Step, Arguments, NoArgument, Argument, Operations, NoOperation, Operation, Specifiers, NoSpecifier, Storage, Qualified, Basic, TypedefName, RecordTag, Record, EnumTag, Enum, Members, NoMember, Member, MemberDeclarators, NoMemberDeclarator, PlainMember, BitField, Padding, Enumerators, NoEnumerator, PlainEnumerator, ValuedEnumerator, Declarator, Declaring, Core, Absent, Name, Enclosed, Suffixes, NoSuffix, Array, OpenArray, Prototype, Variadic, Identifiers, Parameters, NoParameter, Parameter, Init, Value, Braces, Inits, NoInit, Listed, Initializer, InitDeclarator, Decl, Label, CaseLabel, DefaultLabel, NameLabel, Stmt, Compound, Expression, Empty, Labeled, If, Switch, While, Do, For, Goto, Return, Alternative, NoElse, Otherwise, ElseIf, Block, Braced, Stmts, NoStmt, Next, External, Definition, Declaration, Module}
use Rattle.pw_tree.specs.Words.{AreIdentifiers, AreStrings, IsTag, WordsSpell, WordsSpellPostfixes, WordsSpellArguments, WordsSpellOperations, WordsSpellSpecifiers, WordsSpellMembers, WordsSpellMemberDeclarators, WordsSpellEnumerators, WordsSpellDeclarator, WordsSpellCore, WordsSpellSuffixes, WordsSpellParameters, WordsSpellOptional, WordsSpellInit, WordsSpellInits, WordsSpellInitializer, WordsSpellInitDeclarators, WordsSpellDecl, WordsSpellDecls, WordsSpellLabel, WordsSpellLabels, WordsSpellStmt, WordsSpellAlternative, WordsSpellBlock, WordsSpellStmts, WordsSpellExternal, WordsSpellExternals, WordsSpellModule}
use Rattle.pw_tree.specs.declared.expr.Qualifier.{Qualifier}
use Rattle.pw_token.specs.declared.symbol.Keyword.TheVariants as k
use Rattle.pw_token.specs.declared.symbol.Mark.TheVariants as m

-- each symbol's bytes spell its kind
abbrev pub AllSpell : List Symbol → Type 0
AllSpell [] = Unit {0}
AllSpell (s ∷ z) = Spells (spelled s).kind (spelled s).text × AllSpell z

past_separator : (first : Bool) (z : List Symbol) → AllSpell (separated first z) → AllSpell z
past_separator true z h = h
past_separator false z h = h.1

past_trail : (trailing : Bool) (z : List Symbol) → AllSpell (trailed trailing z) → AllSpell z
past_trail true z h = h.1
past_trail false z h = h

words-strings : (ws : List Word) (z : List Symbol) → AllSpell (spell_strings ws z) → AreStrings ws × AllSpell z
words-strings [] z h = (tt, h)
words-strings (w ∷ ws) z h = let r = words-strings ws z h.1 in ((h.0, r.0), r.1)

words-identifiers : (first : Bool) (ws : List Word) (z : List Symbol) → AllSpell (spell_identifiers first ws z) → AreIdentifiers ws × AllSpell z
words-identifiers first [] z h = (tt, h)
words-identifiers first (w ∷ ws) z h =
    let h1 = past_separator first (identifier w ∷ spell_identifiers false ws z) h in
    let r = words-identifiers false ws z h1.1 in
    ((h1.0, r.0), r.1)

words-tag : (tag : Option Word) (z : List Symbol) → AllSpell (spell_tag tag z) → IsTag tag × AllSpell z
words-tag None z h = (tt, h)
words-tag (Some w) z h = (h.0, h.1)

past_qualifiers : (qs : List Qualifier) (z : List Symbol) → AllSpell (spell_qualifiers qs z) → AllSpell z
past_qualifiers [] z h = h
past_qualifiers (q ∷ qs) z h = past_qualifiers qs z h.1

words-pointers : (ps : List Pointer) (z : List Symbol) → AllSpell (spell_pointers ps z) → Unit {0} × AllSpell z
words-pointers [] z h = (tt, h)
words-pointers (p ∷ ps) z h = words-pointers ps z (past_qualifiers p.qualifiers (spell_pointers ps z) h.1)

mutual
  unfolding spell_expr WordsSpell

  words-expr : (x : Expr) (z : List Symbol) → AllSpell (spell_expr x z) → WordsSpell x × AllSpell z
  words-expr (Identifier w) z h = (h.0, h.1)
  words-expr (Number w) z h = (h.0, h.1)
  words-expr (Floating w) z h = (h.0, h.1)
  words-expr (Character w) z h = (h.0, h.1)
  words-expr (Wide w) z h = (h.0, h.1)
  words-expr (Strings ws) z h =
      let r1 = words-strings ws z h in
      (r1.0, r1.1)
  words-expr (Paren n e) z h =
      let r1 = words-expr e (Sign m.CloseParen ∷ z) h.1 in
      (r1.0, r1.1.1)
  words-expr (Postfix e ps) z h =
      let r1 = words-expr e (spell_postfixes ps z) h in
      let r2 = words-postfixes ps z r1.1 in
      ((r1.0, r2.0), r2.1)
  words-expr (Unary n op e) z h =
      let r1 = words-expr e z h.1 in
      (r1.0, r1.1)
  words-expr (SizeofType n ss d) z h =
      let r1 = words-specifiers ss (spell_declarator d (Sign m.CloseParen ∷ z)) h.1.1 in
      let r2 = words-declarator d (Sign m.CloseParen ∷ z) r1.1 in
      ((r1.0, r2.0), r2.1.1)
  words-expr (Cast n ss d e) z h =
      let r1 = words-specifiers ss (spell_declarator d (Sign m.CloseParen ∷ spell_expr e z)) h.1 in
      let r2 = words-declarator d (Sign m.CloseParen ∷ spell_expr e z) r1.1 in
      let r3 = words-expr e z r2.1.1 in
      ((r1.0, r2.0, r3.0), r3.1)
  words-expr (Chain e ops) z h =
      let r1 = words-expr e (spell_operations ops z) h in
      let r2 = words-operations ops z r1.1 in
      ((r1.0, r2.0), r2.1)
  words-expr (Conditional n c a b) z h =
      let r1 = words-expr c (Sign m.Question ∷ spell_expr a (Sign m.Colon ∷ spell_expr b z)) h in
      let r2 = words-expr a (Sign m.Colon ∷ spell_expr b z) r1.1.1 in
      let r3 = words-expr b z r2.1.1 in
      ((r1.0, r2.0, r3.0), r3.1)
  words-expr (Assign n op l r) z h =
      let r1 = words-expr l (Sign (assign_mark op) ∷ spell_expr r z) h in
      let r2 = words-expr r z r1.1.1 in
      ((r1.0, r2.0), r2.1)

  words-postfixes : (x : Postfixes) (z : List Symbol) → AllSpell (spell_postfixes x z) → WordsSpellPostfixes x × AllSpell z
  words-postfixes NoPostfix z h = (tt, h)
  words-postfixes (Index n e ps) z h =
      let r1 = words-expr e (Sign m.CloseBracket ∷ spell_postfixes ps z) h.1 in
      let r2 = words-postfixes ps z r1.1.1 in
      ((r1.0, r2.0), r2.1)
  words-postfixes (Call n es ps) z h =
      let r1 = words-arguments true es (Sign m.CloseParen ∷ spell_postfixes ps z) h.1 in
      let r2 = words-postfixes ps z r1.1.1 in
      ((r1.0, r2.0), r2.1)
  words-postfixes (Select n a w ps) z h =
      let r1 = words-postfixes ps z h.1.1 in
      ((h.1.0, r1.0), r1.1)
  words-postfixes (Step n op ps) z h =
      let r1 = words-postfixes ps z h.1 in
      (r1.0, r1.1)

  words-arguments : (first : Bool) (x : Arguments) (z : List Symbol) → AllSpell (spell_arguments first x z) → WordsSpellArguments x × AllSpell z
  words-arguments first NoArgument z h = (tt, h)
  words-arguments first (Argument e es) z h =
      let h1 = past_separator first (spell_expr e (spell_arguments false es z)) h in
      let r2 = words-expr e (spell_arguments false es z) h1 in
      let r3 = words-arguments false es z r2.1 in
      ((r2.0, r3.0), r3.1)

  words-operations : (x : Operations) (z : List Symbol) → AllSpell (spell_operations x z) → WordsSpellOperations x × AllSpell z
  words-operations NoOperation z h = (tt, h)
  words-operations (Operation n op e rest) z h =
      let r1 = words-expr e (spell_operations rest z) h.1 in
      let r2 = words-operations rest z r1.1 in
      ((r1.0, r2.0), r2.1)

  words-specifiers : (x : Specifiers) (z : List Symbol) → AllSpell (spell_specifiers x z) → WordsSpellSpecifiers x × AllSpell z
  words-specifiers NoSpecifier z h = (tt, h)
  words-specifiers (Storage n c ss) z h =
      let r1 = words-specifiers ss z h.1 in
      (r1.0, r1.1)
  words-specifiers (Qualified n q ss) z h =
      let r1 = words-specifiers ss z h.1 in
      (r1.0, r1.1)
  words-specifiers (Basic n b ss) z h =
      let r1 = words-specifiers ss z h.1 in
      (r1.0, r1.1)
  words-specifiers (TypedefName w ss) z h =
      let r1 = words-specifiers ss z h.1 in
      ((h.0, r1.0), r1.1)
  words-specifiers (RecordTag n r tag ss) z h =
      let r1 = words-specifiers ss z h.1.1 in
      ((h.1.0, r1.0), r1.1)
  words-specifiers (Record n r tag ms ss) z h =
      let r1 = words-tag tag (Sign m.OpenBrace ∷ spell_members ms (Sign m.CloseBrace ∷ spell_specifiers ss z)) h.1 in
      let r2 = words-members ms (Sign m.CloseBrace ∷ spell_specifiers ss z) r1.1.1 in
      let r3 = words-specifiers ss z r2.1.1 in
      ((r1.0, r2.0, r3.0), r3.1)
  words-specifiers (EnumTag n tag ss) z h =
      let r1 = words-specifiers ss z h.1.1 in
      ((h.1.0, r1.0), r1.1)
  words-specifiers (Enum n tag es ss) z h =
      let r1 = words-tag tag (Sign m.OpenBrace ∷ spell_enumerators true es (Sign m.CloseBrace ∷ spell_specifiers ss z)) h.1 in
      let r2 = words-enumerators true es (Sign m.CloseBrace ∷ spell_specifiers ss z) r1.1.1 in
      let r3 = words-specifiers ss z r2.1.1 in
      ((r1.0, r2.0, r3.0), r3.1)

  words-members : (x : Members) (z : List Symbol) → AllSpell (spell_members x z) → WordsSpellMembers x × AllSpell z
  words-members NoMember z h = (tt, h)
  words-members (Member ss ds ms) z h =
      let r1 = words-specifiers ss (spell_member_declarators true ds (Sign m.Semicolon ∷ spell_members ms z)) h in
      let r2 = words-member_declarators true ds (Sign m.Semicolon ∷ spell_members ms z) r1.1 in
      let r3 = words-members ms z r2.1.1 in
      ((r1.0, r2.0, r3.0), r3.1)

  words-member_declarators : (first : Bool) (x : MemberDeclarators) (z : List Symbol) → AllSpell (spell_member_declarators first x z) → WordsSpellMemberDeclarators x × AllSpell z
  words-member_declarators first NoMemberDeclarator z h = (tt, h)
  words-member_declarators first (PlainMember d ds) z h =
      let h1 = past_separator first (spell_declarator d (spell_member_declarators false ds z)) h in
      let r2 = words-declarator d (spell_member_declarators false ds z) h1 in
      let r3 = words-member_declarators false ds z r2.1 in
      ((r2.0, r3.0), r3.1)
  words-member_declarators first (BitField d n e ds) z h =
      let h1 = past_separator first (spell_declarator d (Sign m.Colon ∷ spell_expr e (spell_member_declarators false ds z))) h in
      let r2 = words-declarator d (Sign m.Colon ∷ spell_expr e (spell_member_declarators false ds z)) h1 in
      let r3 = words-expr e (spell_member_declarators false ds z) r2.1.1 in
      let r4 = words-member_declarators false ds z r3.1 in
      ((r2.0, r3.0, r4.0), r4.1)
  words-member_declarators first (Padding n e ds) z h =
      let h1 = past_separator first (Sign m.Colon ∷ spell_expr e (spell_member_declarators false ds z)) h in
      let r2 = words-expr e (spell_member_declarators false ds z) h1.1 in
      let r3 = words-member_declarators false ds z r2.1 in
      ((r2.0, r3.0), r3.1)

  words-enumerators : (first : Bool) (x : Enumerators) (z : List Symbol) → AllSpell (spell_enumerators first x z) → WordsSpellEnumerators x × AllSpell z
  words-enumerators first NoEnumerator z h = (tt, h)
  words-enumerators first (PlainEnumerator w es) z h =
      let h1 = past_separator first (identifier w ∷ spell_enumerators false es z) h in
      let r2 = words-enumerators false es z h1.1 in
      ((h1.0, r2.0), r2.1)
  words-enumerators first (ValuedEnumerator w e es) z h =
      let h1 = past_separator first (identifier w ∷ Sign m.Equal ∷ spell_expr e (spell_enumerators false es z)) h in
      let r2 = words-expr e (spell_enumerators false es z) h1.1.1 in
      let r3 = words-enumerators false es z r2.1 in
      ((h1.0, r2.0, r3.0), r3.1)

  words-declarator : (x : Declarator) (z : List Symbol) → AllSpell (spell_declarator x z) → WordsSpellDeclarator x × AllSpell z
  words-declarator (Declaring ps core ss) z h =
      let r1 = words-pointers ps (spell_core core (spell_suffixes ss z)) h in
      let r2 = words-core core (spell_suffixes ss z) r1.1 in
      let r3 = words-suffixes ss z r2.1 in
      ((r2.0, r3.0), r3.1)

  words-core : (x : Core) (z : List Symbol) → AllSpell (spell_core x z) → WordsSpellCore x × AllSpell z
  words-core Absent z h = (tt, h)
  words-core (Name w) z h = (h.0, h.1)
  words-core (Enclosed n d) z h =
      let r1 = words-declarator d (Sign m.CloseParen ∷ z) h.1 in
      (r1.0, r1.1.1)

  words-suffixes : (x : Suffixes) (z : List Symbol) → AllSpell (spell_suffixes x z) → WordsSpellSuffixes x × AllSpell z
  words-suffixes NoSuffix z h = (tt, h)
  words-suffixes (Array n e ss) z h =
      let r1 = words-expr e (Sign m.CloseBracket ∷ spell_suffixes ss z) h.1 in
      let r2 = words-suffixes ss z r1.1.1 in
      ((r1.0, r2.0), r2.1)
  words-suffixes (OpenArray n ss) z h =
      let r1 = words-suffixes ss z h.1.1 in
      (r1.0, r1.1)
  words-suffixes (Prototype n ps ss) z h =
      let r1 = words-parameters true ps (Sign m.CloseParen ∷ spell_suffixes ss z) h.1 in
      let r2 = words-suffixes ss z r1.1.1 in
      ((r1.0, r2.0), r2.1)
  words-suffixes (Variadic n ps ss) z h =
      let r1 = words-parameters true ps (Sign m.Comma ∷ Sign m.Ellipsis ∷ Sign m.CloseParen ∷ spell_suffixes ss z) h.1 in
      let r2 = words-suffixes ss z r1.1.1.1.1 in
      ((r1.0, r2.0), r2.1)
  words-suffixes (Identifiers n ws ss) z h =
      let r1 = words-identifiers true ws (Sign m.CloseParen ∷ spell_suffixes ss z) h.1 in
      let r2 = words-suffixes ss z r1.1.1 in
      ((r1.0, r2.0), r2.1)

  words-parameters : (first : Bool) (x : Parameters) (z : List Symbol) → AllSpell (spell_parameters first x z) → WordsSpellParameters x × AllSpell z
  words-parameters first NoParameter z h = (tt, h)
  words-parameters first (Parameter ss d ps) z h =
      let h1 = past_separator first (spell_specifiers ss (spell_declarator d (spell_parameters false ps z))) h in
      let r2 = words-specifiers ss (spell_declarator d (spell_parameters false ps z)) h1 in
      let r3 = words-declarator d (spell_parameters false ps z) r2.1 in
      let r4 = words-parameters false ps z r3.1 in
      ((r2.0, r3.0, r4.0), r4.1)

words-optional : (x : Option Expr) (z : List Symbol) → AllSpell (spell_optional x z) → WordsSpellOptional x × AllSpell z
words-optional None z h = (tt, h)
words-optional (Some e) z h =
    let r1 = words-expr e z h in
    (r1.0, r1.1)

mutual
  unfolding spell_init WordsSpellInit

  words-init : (x : Init) (z : List Symbol) → AllSpell (spell_init x z) → WordsSpellInit x × AllSpell z
  words-init (Value e) z h =
      let r1 = words-expr e z h in
      (r1.0, r1.1)
  words-init (Braces n is trailing) z h =
      let r1 = words-inits true is (trailed trailing (Sign m.CloseBrace ∷ z)) h.1 in
      let h2 = past_trail trailing (Sign m.CloseBrace ∷ z) r1.1 in
      (r1.0, h2.1)

  words-inits : (first : Bool) (x : Inits) (z : List Symbol) → AllSpell (spell_inits first x z) → WordsSpellInits x × AllSpell z
  words-inits first NoInit z h = (tt, h)
  words-inits first (Listed i is) z h =
      let h1 = past_separator first (spell_init i (spell_inits false is z)) h in
      let r2 = words-init i (spell_inits false is z) h1 in
      let r3 = words-inits false is z r2.1 in
      ((r2.0, r3.0), r3.1)

words-initializer : (x : Option Initializer) (z : List Symbol) → AllSpell (spell_initializer x z) → WordsSpellInitializer x × AllSpell z
words-initializer None z h = (tt, h)
words-initializer (Some i) z h =
    let r1 = words-init i.init z h.1 in
    (r1.0, r1.1)

words-init_declarators : (first : Bool) (x : List InitDeclarator) (z : List Symbol) → AllSpell (spell_init_declarators first x z) → WordsSpellInitDeclarators x × AllSpell z
words-init_declarators first [] z h = (tt, h)
words-init_declarators first (d ∷ ds) z h =
    let h1 = past_separator first (spell_declarator d.declarator (spell_initializer d.initializer (spell_init_declarators false ds z))) h in
    let r2 = words-declarator d.declarator (spell_initializer d.initializer (spell_init_declarators false ds z)) h1 in
    let r3 = words-initializer d.initializer (spell_init_declarators false ds z) r2.1 in
    let r4 = words-init_declarators false ds z r3.1 in
    ((r2.0, r3.0, r4.0), r4.1)

words-decl : (x : Decl) (z : List Symbol) → AllSpell (spell_decl x z) → WordsSpellDecl x × AllSpell z
words-decl d z h =
    let r1 = words-specifiers d.specifiers (spell_init_declarators true d.declarators (Sign m.Semicolon ∷ z)) h in
    let r2 = words-init_declarators true d.declarators (Sign m.Semicolon ∷ z) r1.1 in
    ((r1.0, r2.0), r2.1.1)

words-decls : (x : List Decl) (z : List Symbol) → AllSpell (spell_decls x z) → WordsSpellDecls x × AllSpell z
words-decls [] z h = (tt, h)
words-decls (d ∷ ds) z h =
    let r1 = words-decl d (spell_decls ds z) h in
    let r2 = words-decls ds z r1.1 in
    ((r1.0, r2.0), r2.1)

words-label : (x : Label) (z : List Symbol) → AllSpell (spell_label x z) → WordsSpellLabel x × AllSpell z
words-label (CaseLabel n e) z h =
    let r1 = words-expr e (Sign m.Colon ∷ z) h.1 in
    (r1.0, r1.1.1)
words-label (DefaultLabel n) z h = (tt, h.1.1)
words-label (NameLabel w) z h = (h.0, h.1.1)

words-labels : (x : List Label) (z : List Symbol) → AllSpell (spell_labels x z) → WordsSpellLabels x × AllSpell z
words-labels [] z h = (tt, h)
words-labels (l ∷ ls) z h =
    let r1 = words-label l (spell_labels ls z) h in
    let r2 = words-labels ls z r1.1 in
    ((r1.0, r2.0), r2.1)

mutual
  unfolding spell_stmt WordsSpellStmt

  words-stmt : (x : Stmt) (z : List Symbol) → AllSpell (spell_stmt x z) → WordsSpellStmt x × AllSpell z
  words-stmt (Compound b) z h =
      let r1 = words-block b z h in
      (r1.0, r1.1)
  words-stmt (Expression e) z h =
      let r1 = words-expr e (Sign m.Semicolon ∷ z) h in
      (r1.0, r1.1.1)
  words-stmt (Empty n) z h = (tt, h.1)
  words-stmt (Labeled ls s) z h =
      let r1 = words-labels ls (spell_stmt s z) h in
      let r2 = words-stmt s z r1.1 in
      ((r1.0, r2.0), r2.1)
  words-stmt (If n c s a) z h =
      let r1 = words-expr c (Sign m.CloseParen ∷ spell_stmt s (spell_alternative a z)) h.1.1 in
      let r2 = words-stmt s (spell_alternative a z) r1.1.1 in
      let r3 = words-alternative a z r2.1 in
      ((r1.0, r2.0, r3.0), r3.1)
  words-stmt (Switch n e s) z h =
      let r1 = words-expr e (Sign m.CloseParen ∷ spell_stmt s z) h.1.1 in
      let r2 = words-stmt s z r1.1.1 in
      ((r1.0, r2.0), r2.1)
  words-stmt (While n e s) z h =
      let r1 = words-expr e (Sign m.CloseParen ∷ spell_stmt s z) h.1.1 in
      let r2 = words-stmt s z r1.1.1 in
      ((r1.0, r2.0), r2.1)
  words-stmt (Do n s e) z h =
      let r1 = words-stmt s (Reserved k.While ∷ Sign m.OpenParen ∷ spell_expr e (Sign m.CloseParen ∷ Sign m.Semicolon ∷ z)) h.1 in
      let r2 = words-expr e (Sign m.CloseParen ∷ Sign m.Semicolon ∷ z) r1.1.1.1 in
      ((r1.0, r2.0), r2.1.1.1)
  words-stmt (For n a b c s) z h =
      let r1 = words-optional a (Sign m.Semicolon ∷ spell_optional b (Sign m.Semicolon ∷ spell_optional c (Sign m.CloseParen ∷ spell_stmt s z))) h.1.1 in
      let r2 = words-optional b (Sign m.Semicolon ∷ spell_optional c (Sign m.CloseParen ∷ spell_stmt s z)) r1.1.1 in
      let r3 = words-optional c (Sign m.CloseParen ∷ spell_stmt s z) r2.1.1 in
      let r4 = words-stmt s z r3.1.1 in
      ((r1.0, r2.0, r3.0, r4.0), r4.1)
  words-stmt (Goto n w) z h = (h.1.0, h.1.1.1)
  words-stmt (Return n e) z h =
      let r1 = words-optional e (Sign m.Semicolon ∷ z) h.1 in
      (r1.0, r1.1.1)
  words-stmt _ z h = (tt, h.1.1)

  words-alternative : (x : Alternative) (z : List Symbol) → AllSpell (spell_alternative x z) → WordsSpellAlternative x × AllSpell z
  words-alternative NoElse z h = (tt, h)
  words-alternative (Otherwise s) z h =
      let r1 = words-stmt s z h.1 in
      (r1.0, r1.1)
  words-alternative (ElseIf n c s a) z h =
      let r1 = words-expr c (Sign m.CloseParen ∷ spell_stmt s (spell_alternative a z)) h.1.1.1 in
      let r2 = words-stmt s (spell_alternative a z) r1.1.1 in
      let r3 = words-alternative a z r2.1 in
      ((r1.0, r2.0, r3.0), r3.1)

  words-block : (x : Block) (z : List Symbol) → AllSpell (spell_block x z) → WordsSpellBlock x × AllSpell z
  words-block (Braced n ds ss) z h =
      let r1 = words-decls ds (spell_stmts ss (Sign m.CloseBrace ∷ z)) h.1 in
      let r2 = words-stmts ss (Sign m.CloseBrace ∷ z) r1.1 in
      ((r1.0, r2.0), r2.1.1)

  words-stmts : (x : Stmts) (z : List Symbol) → AllSpell (spell_stmts x z) → WordsSpellStmts x × AllSpell z
  words-stmts NoStmt z h = (tt, h)
  words-stmts (Next s ss) z h =
      let r1 = words-stmt s (spell_stmts ss z) h in
      let r2 = words-stmts ss z r1.1 in
      ((r1.0, r2.0), r2.1)

words-external : (x : External) (z : List Symbol) → AllSpell (spell_external x z) → WordsSpellExternal x × AllSpell z
words-external (Definition f) z h =
    let r1 = words-specifiers f.specifiers (spell_declarator f.declarator (spell_decls f.declarations (spell_block f.body z))) h in
    let r2 = words-declarator f.declarator (spell_decls f.declarations (spell_block f.body z)) r1.1 in
    let r3 = words-decls f.declarations (spell_block f.body z) r2.1 in
    let r4 = words-block f.body z r3.1 in
    ((r1.0, r2.0, r3.0, r4.0), r4.1)
words-external (Declaration d) z h =
    let r1 = words-decl d z h in
    (r1.0, r1.1)

words-externals : (x : List External) (z : List Symbol) → AllSpell (spell_externals x z) → WordsSpellExternals x × AllSpell z
words-externals [] z h = (tt, h)
words-externals (e ∷ es) z h =
    let r1 = words-external e (spell_externals es z) h in
    let r2 = words-externals es z r1.1 in
    ((r1.0, r2.0), r2.1)

pub words-module : (tree : Module) → AllSpell (spell_externals tree.externals []) → WordsSpellModule tree
words-module tree h = (words-externals tree.externals [] h).0
