-- The number of a tree's first token, by which a fault names the tree's place; None where a tree may have no token and has none.
use Rattle.std.specs.Prelude.{ℕ, List, [], ◌∷◌, Option, Some, None}
use Rattle.std.specs.Option.{option_or}
use Rattle.pw_tree.specs.Trees.{Word, Pointer, Expr, Identifier, Number, Floating, Character, Wide, Strings, Paren, Postfix, Unary, SizeofType, Cast, Chain, Conditional, Assign, Specifiers, NoSpecifier, Storage, Qualified, Basic, TypedefName, RecordTag, Record, EnumTag, Enum, MemberDeclarators, NoMemberDeclarator, PlainMember, BitField, Padding, Declarator, Declaring, Core, Absent, Name, Enclosed, Suffixes, NoSuffix, Array, OpenArray, Prototype, Variadic, Identifiers, Label, CaseLabel, DefaultLabel, NameLabel, Stmt, Compound, Expression, Empty, Labeled, If, Switch, While, Do, For, Goto, Continue, Break, Return, Braced}

-- 0, which no token has, where there is no word
abbrev pub first_of_words : List Word → ℕ
first_of_words [] = 0
first_of_words (w ∷ ws) = w.token

-- An expression with an operator between operands begins with its first operand (6.3).
unfoldable pub first_of_expr : Expr → ℕ
first_of_expr (Identifier w) = w.token
first_of_expr (Number w) = w.token
first_of_expr (Floating w) = w.token
first_of_expr (Character w) = w.token
first_of_expr (Wide w) = w.token
first_of_expr (Strings ws) = first_of_words ws
first_of_expr (Paren n e) = n
first_of_expr (Postfix e ps) = first_of_expr e
first_of_expr (Unary n op e) = n
first_of_expr (SizeofType n ss d) = n
first_of_expr (Cast n ss d e) = n
first_of_expr (Chain e ops) = first_of_expr e
first_of_expr (Conditional n c a b) = first_of_expr c
first_of_expr (Assign n op l r) = first_of_expr l

-- 6.5
unfoldable pub first_of_specifiers : Specifiers → Option ℕ
first_of_specifiers NoSpecifier = None
first_of_specifiers (Storage n c ss) = Some n
first_of_specifiers (Qualified n q ss) = Some n
first_of_specifiers (Basic n b ss) = Some n
first_of_specifiers (TypedefName w ss) = Some w.token
first_of_specifiers (RecordTag n r tag ss) = Some n
first_of_specifiers (Record n r tag ms ss) = Some n
first_of_specifiers (EnumTag n tag ss) = Some n
first_of_specifiers (Enum n tag es ss) = Some n

abbrev pub first_of_pointers : List Pointer → Option ℕ
first_of_pointers [] = None
first_of_pointers (p ∷ ps) = Some p.token

unfoldable pub first_of_core : Core → Option ℕ
first_of_core Absent = None
first_of_core (Name w) = Some w.token
first_of_core (Enclosed n d) = Some n

unfoldable pub first_of_suffixes : Suffixes → Option ℕ
first_of_suffixes NoSuffix = None
first_of_suffixes (Array n e ss) = Some n
first_of_suffixes (OpenArray n ss) = Some n
first_of_suffixes (Prototype n ps ss) = Some n
first_of_suffixes (Variadic n ps ss) = Some n
first_of_suffixes (Identifiers n ws ss) = Some n

-- 6.5.4, 6.5.5
abbrev pub first_of_declarator : Declarator → Option ℕ
first_of_declarator (Declaring ps core ss) = option_or (first_of_pointers ps) (option_or (first_of_core core) (first_of_suffixes ss))

-- 6.5.4.3
abbrev pub first_of_parameter : Specifiers → Declarator → Option ℕ
first_of_parameter ss d = option_or (first_of_specifiers ss) (first_of_declarator d)

-- the first of these: its declarator's first token, or the `:` of a bit-field without a name (6.5.2.1)
unfoldable pub first_of_members : MemberDeclarators → Option ℕ
first_of_members NoMemberDeclarator = None
first_of_members (PlainMember d ds) = first_of_declarator d
first_of_members (BitField d n e ds) = option_or (first_of_declarator d) (Some n)
first_of_members (Padding n e ds) = Some n

-- 6.6.1
abbrev pub first_of_label : Label → ℕ
first_of_label (CaseLabel n e) = n
first_of_label (DefaultLabel n) = n
first_of_label (NameLabel w) = w.token

-- with labels before it a statement begins with the first of them
abbrev pub first_of_labels : List Label → ℕ → ℕ
first_of_labels [] n = n
first_of_labels (l ∷ ls) n = first_of_label l

-- 6.6
unfoldable pub first_of_stmt : Stmt → ℕ
first_of_stmt (Compound (Braced n ds ss)) = n
first_of_stmt (Expression e) = first_of_expr e
first_of_stmt (Empty n) = n
first_of_stmt (Labeled ls s) = first_of_labels ls (first_of_stmt s)
first_of_stmt (If n c s a) = n
first_of_stmt (Switch n e s) = n
first_of_stmt (While n e s) = n
first_of_stmt (Do n s e) = n
first_of_stmt (For n a b c s) = n
first_of_stmt (Goto n w) = n
first_of_stmt (Continue n) = n
first_of_stmt (Break n) = n
first_of_stmt (Return n e) = n
