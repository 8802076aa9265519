-- What trees with lists in them show: the view of a node, by the views of its parts.
use Rattle.std.proofs.Common.{◌≡◌, ℕ, Bool, Option, Some, None, refl, ap, sym, ◌∙◌}
use Rattle.std.specs.declared.alloc.Global.{Global}
use Rattle.std.specs.declared.boxed.Box.{Box}
use Rattle.std.specs.declared.vec.Vec.{Vec}
use Rattle.pw_tree.specs.Trees as tree
use Rattle.pw_tree.specs.Views.{view_tag, view_pointers, view_expr, view_postfix, view_postfix_row, view_argument_row, view_operation_row, view_specifier, view_specifier_row, view_member_row, view_member_declarator, view_member_declarator_row, view_enumerator, view_enumerator_row, view_core, view_suffix, view_suffix_row, view_parameter_row, view_postfixes, view_arguments, view_operations, view_specifiers, view_member_declarators, view_members, view_enumerators, view_suffixes, view_declarator, view_parameters, view_init, view_init_row, view_inits, view_decls, view_stmt, view_stmt_row, view_else_if_row, view_stmts, view_else_ifs, view_otherwise, view_block}
use Rattle.pw_tree.specs.declared.decl.Init.{Init}
use Rattle.pw_tree.specs.declared.decl.Init as init
use Rattle.pw_tree.specs.declared.decl.Init.TheBlock as init_block
use Rattle.pw_tree.specs.declared.expr.Core as core
use Rattle.pw_tree.specs.declared.expr.Core.TheBlock as block
use Rattle.pw_tree.specs.declared.expr.Declarator.{Declarator}
use Rattle.pw_tree.specs.declared.expr.Enumerator.{Enumerator}
use Rattle.pw_tree.specs.declared.expr.Expr.{Expr}
use Rattle.pw_tree.specs.declared.expr.Expr as expr
use Rattle.pw_tree.specs.declared.expr.Member.{Member}
use Rattle.pw_tree.specs.declared.expr.MemberDeclarator as member
use Rattle.pw_tree.specs.declared.expr.Operation.{Operation}
use Rattle.pw_tree.specs.declared.expr.Parameter.{Parameter}
use Rattle.pw_tree.specs.declared.expr.PostfixOperation.{PostfixOperation}
use Rattle.pw_tree.specs.declared.expr.PostfixOperation as postfix
use Rattle.pw_tree.specs.declared.expr.RecordKind.{RecordKind}
use Rattle.pw_tree.specs.declared.expr.Specifier as specifier
use Rattle.pw_tree.specs.declared.expr.Suffix as suffix
use Rattle.pw_tree.specs.declared.expr.TypeName.{TypeName}
use Rattle.pw_tree.specs.declared.expr.Word.{Word}
use Rattle.pw_tree.specs.declared.stmt.Block.{Block}
use Rattle.pw_tree.specs.declared.stmt.ElseIf.{ElseIf}
use Rattle.pw_tree.specs.declared.stmt.Stmt.{Stmt}
use Rattle.pw_tree.specs.declared.stmt.Stmt as stmt
use Rattle.pw_tree.specs.declared.stmt.Stmt.TheBlock as stmt_block
use Rattle.pw_tree.specs.declared.expr.MemberDeclarator.{MemberDeclarator}
use Rattle.pw_tree.specs.declared.expr.Specifier.{Specifier}
use Rattle.pw_tree.specs.declared.expr.Suffix.{Suffix}

-- ---- a list within a node shows what the list by itself does

pub of_postfixes : (n : _) (row : expr.Row_of-PostfixOperation n) → view_postfix_row row ≡ view_postfixes (expr.items-the_row-PostfixOperation n row)
unfolding view_expr
of_postfixes n expr.end_of-PostfixOperation = refl
of_postfixes n (expr.more_of-PostfixOperation p ps) = ap (view_postfix p) (of_postfixes _ ps)

pub of_arguments : (n : _) (row : postfix.Row_of-Expr n) → view_argument_row row ≡ view_arguments (postfix.items-the_row-Expr n row)
unfolding view_expr
of_arguments n postfix.end_of-Expr = refl
of_arguments n (postfix.more_of-Expr e es) = ap (tree.Argument (view_expr e)) (of_arguments _ es)

pub of_operations : (n : _) (row : expr.Row_of-Operation n) → view_operation_row row ≡ view_operations (expr.items-the_row-Operation n row)
unfolding view_expr
of_operations n expr.end_of-Operation = refl
of_operations n (expr.more_of-Operation t op e rest) = ap (tree.Operation t op (view_expr e)) (of_operations _ rest)

pub of_specifiers : (n : _) (row : expr.Row_of-Specifier n) → view_specifier_row row ≡ view_specifiers (expr.items-the_row-Specifier n row)
unfolding view_expr
of_specifiers n expr.end_of-Specifier = refl
of_specifiers n (expr.more_of-Specifier s ss) = ap (view_specifier s) (of_specifiers _ ss)

pub of_member_declarators : (n : _) (row : specifier.Row_of-MemberDeclarator n) → view_member_declarator_row row ≡ view_member_declarators (specifier.items-the_row-MemberDeclarator n row)
unfolding view_expr
of_member_declarators n specifier.end_of-MemberDeclarator = refl
of_member_declarators n (specifier.more_of-MemberDeclarator d ds) = ap (view_member_declarator d) (of_member_declarators _ ds)

pub of_enumerators : (n : _) (row : specifier.Row_of-Enumerator n) → view_enumerator_row row ≡ view_enumerators (specifier.items-the_row-Enumerator n row)
unfolding view_expr
of_enumerators n specifier.end_of-Enumerator = refl
of_enumerators n (specifier.more_of-Enumerator e es) = ap (view_enumerator e) (of_enumerators _ es)

pub of_suffixes : (n : _) (row : expr.Row_of-Suffix n) → view_suffix_row row ≡ view_suffixes (expr.items-the_row-Suffix n row)
unfolding view_expr
of_suffixes n expr.end_of-Suffix = refl
of_suffixes n (expr.more_of-Suffix f fs) = ap (view_suffix f) (of_suffixes _ fs)

pub shown_specifiers : (l : _) (row : expr.Row_of-Specifier _) → view_specifier_row row ≡ view_specifiers (block.shown-the_row-Specifier-2 l row).items
shown_specifiers l row = of_specifiers _ row ∙ ap view_specifiers (sym (block.items_shown-the_row-Specifier-2 l row))

pub shown_member_declarators : (l : _) (row : specifier.Row_of-MemberDeclarator _) →
    view_member_declarator_row row ≡ view_member_declarators (block.shown-the_row-MemberDeclarator-5 l row).items
shown_member_declarators l row = of_member_declarators _ row ∙ ap view_member_declarators (sym (block.items_shown-the_row-MemberDeclarator-5 l row))

pub shown_suffixes : (l : _) (row : expr.Row_of-Suffix _) → view_suffix_row row ≡ view_suffixes (block.shown-the_row-Suffix-0 l row).items
shown_suffixes l row = of_suffixes _ row ∙ ap view_suffixes (sym (block.items_shown-the_row-Suffix-0 l row))

pub of_members : (n : _) (row : specifier.Row_of-Member n) → view_member_row row ≡ view_members (specifier.items-the_row-Member n row)
unfolding view_expr
of_members n specifier.end_of-Member = refl
of_members n (specifier.more_of-Member l ss l' ds ms) =
    λ j. tree.Member (shown_specifiers l ss j) (shown_member_declarators l' ds j) (of_members _ ms j)

pub of_parameters : (n : _) (row : suffix.Row_of-Parameter n) → view_parameter_row row ≡ view_parameters (suffix.items-the_row-Parameter n row)
unfolding view_expr
of_parameters n suffix.end_of-Parameter = refl
of_parameters n (suffix.more_of-Parameter l ss ps c l' fs rest) =
    λ j. tree.Parameter (shown_specifiers l ss j) (tree.Declaring (view_pointers ps.items) (view_core c) (shown_suffixes l' fs j)) (of_parameters _ rest j)

pub of_inits : (n : _) (row : init.Row_of-Init n) → view_init_row row ≡ view_inits (init.items-the_row-Init n row)
unfolding view_init
of_inits n init.end_of-Init = refl
of_inits n (init.more_of-Init i is) = ap (tree.Listed (view_init i)) (of_inits _ is)

pub of_stmts : (n : _) (row : stmt.Row_of-Stmt n) → view_stmt_row row ≡ view_stmts (stmt.items-the_row-Stmt n row)
unfolding view_stmt
of_stmts n stmt.end_of-Stmt = refl
of_stmts n (stmt.more_of-Stmt s ss) = ap (tree.Next (view_stmt s)) (of_stmts _ ss)

pub of_else_ifs : (n : _) (row : stmt.Row_of-ElseIf n) (o : tree.Alternative) → view_else_if_row row o ≡ view_else_ifs (stmt.items-the_row-ElseIf n row) o
unfolding view_stmt
of_else_ifs n stmt.end_of-ElseIf o = refl
of_else_ifs n (stmt.more_of-ElseIf t c s es) o = ap (tree.ElseIf t (view_expr c) (view_stmt s)) (of_else_ifs _ es o)

-- ---- a list that a node holds

pub held_postfixes : (xs : Vec PostfixOperation Global) → view_postfix_row (block.hidden-the_row-PostfixOperation-1 xs) ≡ view_postfixes xs.items
held_postfixes xs = of_postfixes _ (block.hidden-the_row-PostfixOperation-1 xs) ∙ ap view_postfixes (block.items_hidden-the_row-PostfixOperation-1 xs)

pub held_arguments : (xs : Vec Expr Global) → view_argument_row (block.hidden-the_row-Expr-4 xs) ≡ view_arguments xs.items
held_arguments xs = of_arguments _ (block.hidden-the_row-Expr-4 xs) ∙ ap view_arguments (block.items_hidden-the_row-Expr-4 xs)

pub held_operations : (xs : Vec Operation Global) → view_operation_row (block.hidden-the_row-Operation-3 xs) ≡ view_operations xs.items
held_operations xs = of_operations _ (block.hidden-the_row-Operation-3 xs) ∙ ap view_operations (block.items_hidden-the_row-Operation-3 xs)

pub held_specifiers : (xs : Vec Specifier Global) → view_specifier_row (block.hidden-the_row-Specifier-2 xs) ≡ view_specifiers xs.items
held_specifiers xs = of_specifiers _ (block.hidden-the_row-Specifier-2 xs) ∙ ap view_specifiers (block.items_hidden-the_row-Specifier-2 xs)

pub held_members : (xs : Vec Member Global) → view_member_row (block.hidden-the_row-Member-6 xs) ≡ view_members xs.items
held_members xs = of_members _ (block.hidden-the_row-Member-6 xs) ∙ ap view_members (block.items_hidden-the_row-Member-6 xs)

pub held_enumerators : (xs : Vec Enumerator Global) → view_enumerator_row (block.hidden-the_row-Enumerator-7 xs) ≡ view_enumerators xs.items
held_enumerators xs = of_enumerators _ (block.hidden-the_row-Enumerator-7 xs) ∙ ap view_enumerators (block.items_hidden-the_row-Enumerator-7 xs)

pub held_suffixes : (xs : Vec Suffix Global) → view_suffix_row (block.hidden-the_row-Suffix-0 xs) ≡ view_suffixes xs.items
held_suffixes xs = of_suffixes _ (block.hidden-the_row-Suffix-0 xs) ∙ ap view_suffixes (block.items_hidden-the_row-Suffix-0 xs)

pub held_parameters : (xs : Vec Parameter Global) → view_parameter_row (block.hidden-the_row-Parameter-8 xs) ≡ view_parameters xs.items
held_parameters xs = of_parameters _ (block.hidden-the_row-Parameter-8 xs) ∙ ap view_parameters (block.items_hidden-the_row-Parameter-8 xs)

pub held_inits : (xs : Vec Init Global) → view_init_row (init_block.hidden-the_row-Init-0 xs) ≡ view_inits xs.items
held_inits xs = of_inits _ (init_block.hidden-the_row-Init-0 xs) ∙ ap view_inits (init_block.items_hidden-the_row-Init-0 xs)

pub held_stmts : (xs : Vec Stmt Global) → view_stmt_row (stmt_block.hidden-the_row-Stmt-0 xs) ≡ view_stmts xs.items
held_stmts xs = of_stmts _ (stmt_block.hidden-the_row-Stmt-0 xs) ∙ ap view_stmts (stmt_block.items_hidden-the_row-Stmt-0 xs)

pub held_else_ifs : (xs : Vec ElseIf Global) (o : tree.Alternative) → view_else_if_row (stmt_block.hidden-the_row-ElseIf-1 xs) o ≡ view_else_ifs xs.items o
held_else_ifs xs o = of_else_ifs _ (stmt_block.hidden-the_row-ElseIf-1 xs) o ∙ ap (λ es. view_else_ifs es o) (stmt_block.items_hidden-the_row-ElseIf-1 xs)

-- ---- nodes

pub postfix_view : (b : Box Expr Global) (ps : Vec PostfixOperation Global) →
    view_expr (expr.Postfix b ps) ≡ tree.Postfix (view_expr b.value) (view_postfixes ps.items)
unfolding view_expr
postfix_view b ps = ap (tree.Postfix (view_expr b.value)) (held_postfixes ps)

pub sizeof_view : (t : ℕ) (b : Box TypeName Global) →
    view_expr (expr.SizeofType t b) ≡ tree.SizeofType t (view_specifiers b.value.specifiers.items) (view_declarator b.value.declarator)
unfolding view_expr
sizeof_view t b =
    λ j. tree.SizeofType t (held_specifiers b.value.specifiers j) (tree.Declaring (view_pointers b.value.declarator.pointers.items) (view_core b.value.declarator.core) (held_suffixes b.value.declarator.suffixes j))

pub cast_view : (t : ℕ) (b : Box TypeName Global) (e : Box Expr Global) →
    view_expr (expr.Cast t b e) ≡ tree.Cast t (view_specifiers b.value.specifiers.items) (view_declarator b.value.declarator) (view_expr e.value)
unfolding view_expr
cast_view t b e =
    λ j. tree.Cast t (held_specifiers b.value.specifiers j) (tree.Declaring (view_pointers b.value.declarator.pointers.items) (view_core b.value.declarator.core) (held_suffixes b.value.declarator.suffixes j)) (view_expr e.value)

pub chain_view : (b : Box Expr Global) (os : Vec Operation Global) →
    view_expr (expr.Chain b os) ≡ tree.Chain (view_expr b.value) (view_operations os.items)
unfolding view_expr
chain_view b os = ap (tree.Chain (view_expr b.value)) (held_operations os)

pub call_view : (t : ℕ) (es : Vec Expr Global) (rest : tree.Postfixes) →
    view_postfix (postfix.Call t es) rest ≡ tree.Call t (view_arguments es.items) rest
unfolding view_expr
call_view t es rest = ap (λ x. tree.Call t x rest) (held_arguments es)

pub record_view : (t : ℕ) (r : RecordKind) (tag : Option Word) (ms : Vec Member Global) (rest : tree.Specifiers) →
    view_specifier (specifier.Record t r tag ms) rest ≡ tree.Record t r (view_tag tag) (view_members ms.items) rest
unfolding view_expr
record_view t r tag ms rest = ap (λ x. tree.Record t r (view_tag tag) x rest) (held_members ms)

pub enum_view : (t : ℕ) (tag : Option Word) (es : Vec Enumerator Global) (rest : tree.Specifiers) →
    view_specifier (specifier.Enum t tag es) rest ≡ tree.Enum t (view_tag tag) (view_enumerators es.items) rest
unfolding view_expr
enum_view t tag es rest = ap (λ x. tree.Enum t (view_tag tag) x rest) (held_enumerators es)

pub plain_member_view : (d : Declarator) (rest : tree.MemberDeclarators) →
    view_member_declarator (member.Plain d) rest ≡ tree.PlainMember (view_declarator d) rest
unfolding view_expr
plain_member_view d rest =
    λ j. tree.PlainMember (tree.Declaring (view_pointers d.pointers.items) (view_core d.core) (held_suffixes d.suffixes j)) rest

pub bit_field_view : (d : Declarator) (t : ℕ) (e : Expr) (rest : tree.MemberDeclarators) →
    view_member_declarator (member.BitField d t e) rest ≡ tree.BitField (view_declarator d) t (view_expr e) rest
unfolding view_expr
bit_field_view d t e rest =
    λ j. tree.BitField (tree.Declaring (view_pointers d.pointers.items) (view_core d.core) (held_suffixes d.suffixes j)) t (view_expr e) rest

pub enclosed_view : (t : ℕ) (b : Box Declarator Global) → view_core (core.Paren t b) ≡ tree.Enclosed t (view_declarator b.value)
unfolding view_expr
enclosed_view t b =
    λ j. tree.Enclosed t (tree.Declaring (view_pointers b.value.pointers.items) (view_core b.value.core) (held_suffixes b.value.suffixes j))

pub prototype_view : (t : ℕ) (ps : Vec Parameter Global) (rest : tree.Suffixes) →
    view_suffix (suffix.Parameters t ps) rest ≡ tree.Prototype t (view_parameters ps.items) rest
unfolding view_expr
prototype_view t ps rest = ap (λ x. tree.Prototype t x rest) (held_parameters ps)

pub variadic_view : (t : ℕ) (ps : Vec Parameter Global) (rest : tree.Suffixes) →
    view_suffix (suffix.Variadic t ps) rest ≡ tree.Variadic t (view_parameters ps.items) rest
unfolding view_expr
variadic_view t ps rest = ap (λ x. tree.Variadic t x rest) (held_parameters ps)

pub braces_view : (t : ℕ) (is : Vec Init Global) (trailing : Bool) →
    view_init (init.List t is trailing) ≡ tree.Braces t (view_inits is.items) trailing
unfolding view_init
braces_view t is trailing = ap (λ x. tree.Braces t x trailing) (held_inits is)

pub compound_view : (b : Block) → view_stmt (stmt.Block b) ≡ tree.Compound (view_block b)
unfolding view_stmt
compound_view b = ap (λ x. tree.Compound (tree.Braced b.token (view_decls b.declarations.items) x)) (held_stmts b.statements)

-- what stands behind the statements of an `if` and its `else if`s
pub if_view : (t : ℕ) (c : Expr) (s : Box Stmt Global) (es : Vec ElseIf Global) (o : Option (Box Stmt Global)) →
    view_stmt (stmt.If t c s es o) ≡ tree.If t (view_expr c) (view_stmt s.value) (view_else_ifs es.items (view_otherwise o))
unfolding view_stmt
if_view t c s es None = ap (tree.If t (view_expr c) (view_stmt s.value)) (held_else_ifs es tree.NoElse)
if_view t c s es (Some b) = ap (tree.If t (view_expr c) (view_stmt s.value)) (held_else_ifs es (tree.Otherwise (view_stmt b.value)))
