-- What the values that the parts share show.
use Rattle.std.specs.Prelude.{ℕ, Bool, List, ◌∷◌, Vec, Option, Some, None}
use Rattle.std.specs.Borrow.{Bor}
use Rattle.std.specs.declared.alloc.Global.{Global}
use Rattle.std.specs.declared.boxed.Box.{Box}
use Rattle.pw_tree.specs.Trees as tree
use Rattle.pw_tree.specs.Views.{view_decls, view_declarator, view_expr, view_word, view_specifiers}
use Rattle.pw_tree.specs.declared.decl.Decl.{Decl}
use Rattle.pw_tree.specs.declared.expr.Expr.{Expr}
use Rattle.pw_tree.specs.declared.expr.Specifier.{Specifier}
use Rattle.pw_tree.specs.declared.expr.Word.{Word}
use Rattle.pw_parse_cursor.specs.declared.declared.Declared.{Declared as DeclaredHere}
use Rattle.pw_parse_grammar.specs.Input.{Binding}
use Rattle.pw_parse_grammar.specs.Parts.{Declared}
use Rattle.pw_parse_cursor.specs.CursorViews.{view_bindings, view_name}

abbrev pub view_behind : Option (Vec (Bor (List ℕ) × Bool) Global) → Option (List Binding)
view_behind None = None
view_behind (Some bs) = Some (view_bindings bs)

abbrev pub view_declared : DeclaredHere → Declared
view_declared d = record { tree = view_declarator d.tree; name = view_name d.name; behind = view_behind d.behind }

abbrev pub view_specifier_list : Vec Specifier Global → tree.Specifiers
view_specifier_list ss = view_specifiers ss.items

-- a word before the rest of its list
abbrev pub word_first : Word → List tree.Word → List tree.Word
word_first w more = view_word w ∷ more

abbrev pub view_boxed : Box Expr Global → tree.Expr
view_boxed b = view_expr b.value

abbrev pub view_decl_list : Vec Decl Global → List tree.Decl
view_decl_list xs = view_decls xs.items
