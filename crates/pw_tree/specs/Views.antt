-- The plain trees that the code's trees show.
use Rattle.std.specs.Prelude.{List, [], ◌∷◌, map, Option, Some, None}
use Rattle.std.specs.declared.alloc.Global.{Global}
use Rattle.std.specs.declared.boxed.Box.{Box}
use Rattle.pw_tree.specs.Trees as tree
use Rattle.pw_tree.specs.declared.decl.Decl.{Decl}
use Rattle.pw_tree.specs.declared.decl.Init.{Init, Value, List', Row_of-Init, end_of-Init, more_of-Init}
use Rattle.pw_tree.specs.declared.decl.InitDeclarator.{InitDeclarator}
use Rattle.pw_tree.specs.declared.decl.Initializer.{Initializer}
use Rattle.pw_tree.specs.declared.expr.Core.{Core}
use Rattle.pw_tree.specs.declared.expr.Core as core
use Rattle.pw_tree.specs.declared.expr.Declarator.{Declarator}
use Rattle.pw_tree.specs.declared.expr.Enumerator.{Enumerator}
use Rattle.pw_tree.specs.declared.expr.Enumerator as enumerator
use Rattle.pw_tree.specs.declared.expr.Expr.{Expr}
use Rattle.pw_tree.specs.declared.expr.Expr as expr
use Rattle.pw_tree.specs.declared.expr.Member.{Member, Row_of-MemberDeclarator}
use Rattle.pw_tree.specs.declared.expr.MemberDeclarator.{MemberDeclarator}
use Rattle.pw_tree.specs.declared.expr.MemberDeclarator as member
use Rattle.pw_tree.specs.declared.expr.Operation.{Operation}
use Rattle.pw_tree.specs.declared.expr.Parameter.{Parameter}
use Rattle.pw_tree.specs.declared.expr.Pointer.{Pointer}
use Rattle.pw_tree.specs.declared.expr.PostfixOperation.{PostfixOperation}
use Rattle.pw_tree.specs.declared.expr.PostfixOperation as postfix
use Rattle.pw_tree.specs.declared.expr.Specifier.{Specifier}
use Rattle.pw_tree.specs.declared.expr.Specifier as specifier
use Rattle.pw_tree.specs.declared.expr.Suffix.{Suffix}
use Rattle.pw_tree.specs.declared.expr.Suffix as suffix
use Rattle.pw_tree.specs.declared.expr.Word.{Word}
use Rattle.pw_tree.specs.declared.module.External.{External}
use Rattle.pw_tree.specs.declared.module.External.TheVariants as external
use Rattle.pw_tree.specs.declared.module.Function.{Function}
use Rattle.pw_tree.specs.declared.module.Module.{Module}
use Rattle.pw_tree.specs.declared.stmt.Block.{Block}
use Rattle.pw_tree.specs.declared.stmt.ElseIf.{ElseIf}
use Rattle.pw_tree.specs.declared.stmt.Label.{Label}
use Rattle.pw_tree.specs.declared.stmt.Label.TheVariants as label
use Rattle.pw_tree.specs.declared.stmt.Stmt.{Stmt, Row_of-Stmt, end_of-Stmt, more_of-Stmt, Row_of-ElseIf, end_of-ElseIf, more_of-ElseIf, Held-Stmt-If-4, None', Some'}
use Rattle.pw_tree.specs.declared.stmt.Stmt as stmt

abbrev pub view_word : Word → tree.Word
view_word w = record { token = w.token; text = w.text.items }

abbrev pub view_words : List Word → List tree.Word
view_words ws = map view_word ws

abbrev pub view_tag : Option Word → Option tree.Word
view_tag None = None
view_tag (Some w) = Some (view_word w)

abbrev pub view_pointer : Pointer → tree.Pointer
view_pointer p = record { token = p.token; qualifiers = p.qualifiers.items }

abbrev pub view_pointers : List Pointer → List tree.Pointer
view_pointers ps = map view_pointer ps

-- ---- expressions, specifiers and declarators; a row is a list within a tree

unfoldable mutual
  pub view_expr : Expr → tree.Expr
  view_expr (expr.Identifier w) = tree.Identifier (view_word w)
  view_expr (expr.Number w) = tree.Number (view_word w)
  view_expr (expr.Floating w) = tree.Floating (view_word w)
  view_expr (expr.Character w) = tree.Character (view_word w)
  view_expr (expr.Wide w) = tree.Wide (view_word w)
  view_expr (expr.Strings ws) = tree.Strings (view_words ws.items)
  view_expr (expr.Paren' n b e) = tree.Paren n (view_expr e)
  view_expr (expr.Postfix' b e l ps) = tree.Postfix (view_expr e) (view_postfix_row ps)
  view_expr (expr.Unary' n op b e) = tree.Unary n op (view_expr e)
  view_expr (expr.SizeofType' n b l ss ps c m fs) =
      tree.SizeofType n (view_specifier_row ss) (tree.Declaring (view_pointers ps.items) (view_core c) (view_suffix_row fs))
  view_expr (expr.Cast' n b l ss ps c m fs b' e) =
      tree.Cast n (view_specifier_row ss) (tree.Declaring (view_pointers ps.items) (view_core c) (view_suffix_row fs)) (view_expr e)
  view_expr (expr.Chain' b e l ops) = tree.Chain (view_expr e) (view_operation_row ops)
  view_expr (expr.Conditional' n b c b' e b'' f) = tree.Conditional n (view_expr c) (view_expr e) (view_expr f)
  view_expr (expr.Assign' n op b l b' r) = tree.Assign n op (view_expr l) (view_expr r)

  pub view_postfix : PostfixOperation → tree.Postfixes → tree.Postfixes
  view_postfix (postfix.Index n e) rest = tree.Index n (view_expr e) rest
  view_postfix (postfix.Call' n l es) rest = tree.Call n (view_argument_row es) rest
  view_postfix (postfix.Member n a w) rest = tree.Select n a (view_word w) rest
  view_postfix (postfix.Step n op) rest = tree.Step n op rest

  pub view_postfix_row : {m : _} → expr.Row_of-PostfixOperation m → tree.Postfixes
  view_postfix_row expr.end_of-PostfixOperation = tree.NoPostfix
  view_postfix_row (expr.more_of-PostfixOperation p ps) = view_postfix p (view_postfix_row ps)

  pub view_argument_row : {m : _} → postfix.Row_of-Expr m → tree.Arguments
  view_argument_row postfix.end_of-Expr = tree.NoArgument
  view_argument_row (postfix.more_of-Expr e es) = tree.Argument (view_expr e) (view_argument_row es)

  pub view_operation_row : {m : _} → expr.Row_of-Operation m → tree.Operations
  view_operation_row expr.end_of-Operation = tree.NoOperation
  view_operation_row (expr.more_of-Operation n op e rest) = tree.Operation n op (view_expr e) (view_operation_row rest)

  pub view_specifier : Specifier → tree.Specifiers → tree.Specifiers
  view_specifier (specifier.Storage n c) rest = tree.Storage n c rest
  view_specifier (specifier.Qualifier n q) rest = tree.Qualified n q rest
  view_specifier (specifier.Basic n b) rest = tree.Basic n b rest
  view_specifier (specifier.TypedefName w) rest = tree.TypedefName (view_word w) rest
  view_specifier (specifier.RecordTag n r w) rest = tree.RecordTag n r (view_word w) rest
  view_specifier (specifier.Record' n r t l ms) rest = tree.Record n r (view_tag t) (view_member_row ms) rest
  view_specifier (specifier.EnumTag n w) rest = tree.EnumTag n (view_word w) rest
  view_specifier (specifier.Enum' n t l es) rest = tree.Enum n (view_tag t) (view_enumerator_row es) rest

  pub view_specifier_row : {m : _} → expr.Row_of-Specifier m → tree.Specifiers
  view_specifier_row expr.end_of-Specifier = tree.NoSpecifier
  view_specifier_row (expr.more_of-Specifier s ss) = view_specifier s (view_specifier_row ss)

  pub view_member_row : {m : _} → specifier.Row_of-Member m → tree.Members
  view_member_row specifier.end_of-Member = tree.NoMember
  view_member_row (specifier.more_of-Member l ss l' ds ms) =
      tree.Member (view_specifier_row ss) (view_member_declarator_row ds) (view_member_row ms)

  pub view_member_declarator : MemberDeclarator → tree.MemberDeclarators → tree.MemberDeclarators
  view_member_declarator (member.Plain' ps c l fs) rest =
      tree.PlainMember (tree.Declaring (view_pointers ps.items) (view_core c) (view_suffix_row fs)) rest
  view_member_declarator (member.BitField' ps c l fs n e) rest =
      tree.BitField (tree.Declaring (view_pointers ps.items) (view_core c) (view_suffix_row fs)) n (view_expr e) rest
  view_member_declarator (member.Padding n e) rest = tree.Padding n (view_expr e) rest

  pub view_member_declarator_row : {m : _} → specifier.Row_of-MemberDeclarator m → tree.MemberDeclarators
  view_member_declarator_row specifier.end_of-MemberDeclarator = tree.NoMemberDeclarator
  view_member_declarator_row (specifier.more_of-MemberDeclarator d ds) = view_member_declarator d (view_member_declarator_row ds)

  pub view_enumerator : Enumerator → tree.Enumerators → tree.Enumerators
  view_enumerator (enumerator.Plain w) rest = tree.PlainEnumerator (view_word w) rest
  view_enumerator (enumerator.Valued w e) rest = tree.ValuedEnumerator (view_word w) (view_expr e) rest

  pub view_enumerator_row : {m : _} → specifier.Row_of-Enumerator m → tree.Enumerators
  view_enumerator_row specifier.end_of-Enumerator = tree.NoEnumerator
  view_enumerator_row (specifier.more_of-Enumerator e es) = view_enumerator e (view_enumerator_row es)

  pub view_core : Core → tree.Core
  view_core core.Absent = tree.Absent
  view_core (core.Name w) = tree.Name (view_word w)
  view_core (core.Paren' n b ps c l fs) =
      tree.Enclosed n (tree.Declaring (view_pointers ps.items) (view_core c) (view_suffix_row fs))

  pub view_suffix : Suffix → tree.Suffixes → tree.Suffixes
  view_suffix (suffix.Array n e) rest = tree.Array n (view_expr e) rest
  view_suffix (suffix.OpenArray n) rest = tree.OpenArray n rest
  view_suffix (suffix.Parameters' n l ps) rest = tree.Prototype n (view_parameter_row ps) rest
  view_suffix (suffix.Variadic' n l ps) rest = tree.Variadic n (view_parameter_row ps) rest
  view_suffix (suffix.Identifiers n ws) rest = tree.Identifiers n (view_words ws.items) rest

  pub view_suffix_row : {m : _} → expr.Row_of-Suffix m → tree.Suffixes
  view_suffix_row expr.end_of-Suffix = tree.NoSuffix
  view_suffix_row (expr.more_of-Suffix f fs) = view_suffix f (view_suffix_row fs)

  pub view_parameter_row : {m : _} → suffix.Row_of-Parameter m → tree.Parameters
  view_parameter_row suffix.end_of-Parameter = tree.NoParameter
  view_parameter_row (suffix.more_of-Parameter l ss ps c l' fs rest) =
      tree.Parameter (view_specifier_row ss) (tree.Declaring (view_pointers ps.items) (view_core c) (view_suffix_row fs)) (view_parameter_row rest)

-- ---- the same for lists by themselves

abbrev pub view_postfixes : List PostfixOperation → tree.Postfixes
view_postfixes [] = tree.NoPostfix
view_postfixes (p ∷ ps) = view_postfix p (view_postfixes ps)

abbrev pub view_arguments : List Expr → tree.Arguments
view_arguments [] = tree.NoArgument
view_arguments (e ∷ es) = tree.Argument (view_expr e) (view_arguments es)

abbrev pub view_operations : List Operation → tree.Operations
view_operations [] = tree.NoOperation
view_operations (o ∷ os) = tree.Operation o.token o.operator (view_expr o.operand) (view_operations os)

abbrev pub view_specifiers : List Specifier → tree.Specifiers
view_specifiers [] = tree.NoSpecifier
view_specifiers (s ∷ ss) = view_specifier s (view_specifiers ss)

abbrev pub view_member_declarators : List MemberDeclarator → tree.MemberDeclarators
view_member_declarators [] = tree.NoMemberDeclarator
view_member_declarators (d ∷ ds) = view_member_declarator d (view_member_declarators ds)

abbrev pub view_members : List Member → tree.Members
view_members [] = tree.NoMember
view_members (m ∷ ms) = tree.Member (view_specifiers m.specifiers.items) (view_member_declarators m.declarators.items) (view_members ms)

abbrev pub view_enumerators : List Enumerator → tree.Enumerators
view_enumerators [] = tree.NoEnumerator
view_enumerators (e ∷ es) = view_enumerator e (view_enumerators es)

abbrev pub view_suffixes : List Suffix → tree.Suffixes
view_suffixes [] = tree.NoSuffix
view_suffixes (f ∷ fs) = view_suffix f (view_suffixes fs)

abbrev pub view_declarator : Declarator → tree.Declarator
view_declarator d = tree.Declaring (view_pointers d.pointers.items) (view_core d.core) (view_suffixes d.suffixes.items)

abbrev pub view_parameters : List Parameter → tree.Parameters
view_parameters [] = tree.NoParameter
view_parameters (p ∷ ps) = tree.Parameter (view_specifiers p.specifiers.items) (view_declarator p.declarator) (view_parameters ps)

abbrev pub view_optional : Option Expr → Option tree.Expr
view_optional None = None
view_optional (Some e) = Some (view_expr e)

-- ---- declarations

unfoldable mutual
  pub view_init : Init → tree.Init
  view_init (Value e) = tree.Value (view_expr e)
  view_init (List' n l is trailing) = tree.Braces n (view_init_row is) trailing

  pub view_init_row : {m : _} → Row_of-Init m → tree.Inits
  view_init_row end_of-Init = tree.NoInit
  view_init_row (more_of-Init i is) = tree.Listed (view_init i) (view_init_row is)

abbrev pub view_inits : List Init → tree.Inits
view_inits [] = tree.NoInit
view_inits (i ∷ is) = tree.Listed (view_init i) (view_inits is)

abbrev pub view_initializer : Option Initializer → Option tree.Initializer
view_initializer None = None
view_initializer (Some i) = Some (record { token = i.token; init = view_init i.init })

abbrev pub view_init_declarator : InitDeclarator → tree.InitDeclarator
view_init_declarator d = record { declarator = view_declarator d.declarator; initializer = view_initializer d.initializer }

abbrev pub view_init_declarators : List InitDeclarator → List tree.InitDeclarator
view_init_declarators ds = map view_init_declarator ds

abbrev pub view_decl : Decl → tree.Decl
view_decl d = record { specifiers = view_specifiers d.specifiers.items; declarators = view_init_declarators d.declarators.items }

abbrev pub view_decls : List Decl → List tree.Decl
view_decls ds = map view_decl ds

-- ---- statements

abbrev pub view_label : Label → tree.Label
view_label (label.Case n e) = tree.CaseLabel n (view_expr e)
view_label (label.Default n) = tree.DefaultLabel n
view_label (label.Name w) = tree.NameLabel (view_word w)

abbrev pub view_labels : List Label → List tree.Label
view_labels ls = map view_label ls

unfoldable mutual
  pub view_stmt : Stmt → tree.Stmt
  view_stmt (stmt.Block' n ds l ss) = tree.Compound (tree.Braced n (view_decls ds.items) (view_stmt_row ss))
  view_stmt (stmt.Expression e) = tree.Expression (view_expr e)
  view_stmt (stmt.Empty n) = tree.Empty n
  view_stmt (stmt.Labeled' ls b s) = tree.Labeled (view_labels ls.items) (view_stmt s)
  view_stmt (stmt.If' n c b s l es o) = tree.If n (view_expr c) (view_stmt s) (view_else_if_row es (view_else o))
  view_stmt (stmt.Switch' n e b s) = tree.Switch n (view_expr e) (view_stmt s)
  view_stmt (stmt.While' n e b s) = tree.While n (view_expr e) (view_stmt s)
  view_stmt (stmt.Do' n b s e) = tree.Do n (view_stmt s) (view_expr e)
  view_stmt (stmt.For' n a c e b s) = tree.For n (view_optional a) (view_optional c) (view_optional e) (view_stmt s)
  view_stmt (stmt.Goto n w) = tree.Goto n (view_word w)
  view_stmt (stmt.Continue n) = tree.Continue n
  view_stmt (stmt.Break n) = tree.Break n
  view_stmt (stmt.Return n e) = tree.Return n (view_optional e)

  pub view_stmt_row : {m : _} → Row_of-Stmt m → tree.Stmts
  view_stmt_row end_of-Stmt = tree.NoStmt
  view_stmt_row (more_of-Stmt s ss) = tree.Next (view_stmt s) (view_stmt_row ss)

  pub view_else_if_row : {m : _} → Row_of-ElseIf m → tree.Alternative → tree.Alternative
  view_else_if_row end_of-ElseIf o = o
  view_else_if_row (more_of-ElseIf n c s es) o = tree.ElseIf n (view_expr c) (view_stmt s) (view_else_if_row es o)

  pub view_else : Held-Stmt-If-4 → tree.Alternative
  view_else None' = tree.NoElse
  view_else (Some' b s) = tree.Otherwise (view_stmt s)

abbrev pub view_stmts : List Stmt → tree.Stmts
view_stmts [] = tree.NoStmt
view_stmts (s ∷ ss) = tree.Next (view_stmt s) (view_stmts ss)

abbrev pub view_else_ifs : List ElseIf → tree.Alternative → tree.Alternative
view_else_ifs [] o = o
view_else_ifs (e ∷ es) o = tree.ElseIf e.token (view_expr e.condition) (view_stmt e.chosen) (view_else_ifs es o)

-- the last `else` of an `if`
abbrev pub view_otherwise : Option (Box Stmt Global) → tree.Alternative
view_otherwise None = tree.NoElse
view_otherwise (Some b) = tree.Otherwise (view_stmt b.value)

abbrev pub view_block : Block → tree.Block
view_block b = tree.Braced b.token (view_decls b.declarations.items) (view_stmts b.statements.items)

-- ---- modules

abbrev pub view_function : Function → tree.Function
view_function f = record { specifiers = view_specifiers f.specifiers.items; declarator = view_declarator f.declarator; declarations = view_decls f.declarations.items; body = view_block f.body }

abbrev pub view_external : External → tree.External
view_external (external.Function f) = tree.Definition (view_function f)
view_external (external.Declaration d) = tree.Declaration (view_decl d)

abbrev pub view_externals : List External → List tree.External
view_externals es = map view_external es

abbrev pub view_module : Module → tree.Module
view_module m = record { externals = view_externals m.externals.items }
