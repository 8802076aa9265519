-- Calls by a function's name and through pointers (6.3.2.2).
use Rattle.std.specs.Prelude.{ℕ, Option, None, Some, List}
use Rattle.std.specs.Borrow.{Bor}
use Rattle.pw_types.specs.TypeTrees.{CType, QType}
use Rattle.pw_types.specs.TypedTrees.{Expression, Node, Symbol}
use Rattle.pw_types.specs.TypedTrees as T
use Rattle.pw_types.specs.declared.ctype.QType.{QType as Typed}
use Rattle.pw_types.specs.Views.{view_qtype}
use Rattle.pw_typed.specs.declared.tree.Symbol.{Symbol as Named}
use Rattle.pw_typed.specs.Views.{view_symbol}
use Rattle.pw_check_rules.specs.Kinds.{unqualified, result_of, parameters_of}
use Rattle.pw_check_rules.specs.Operators.{arguments_cast, callee_type}

-- the function whose address a value is, where it is named directly, with its type
abbrev pub named_function : Expression → Option (Symbol × QType)
named_function (Node u q (T.Decay (Node w p (T.Function symbol)))) = Some (symbol, p)
named_function e = None

abbrev pub view_named : Bor Named × Bor Typed → Symbol × QType
view_named f = (view_symbol f.0.now, view_qtype f.1.now)

-- a call of a function of this type
abbrev pub named_call : ℕ → Symbol → CType → List Expression → Expression
named_call t symbol ty es = Node t (unqualified (result_of ty)) (T.Call symbol (arguments_cast (parameters_of ty) es))

-- a call through a pointer
abbrev pub value_call : ℕ → Expression → List Expression → Expression
value_call t e es =
    Node t (unqualified (result_of (callee_type e))) (T.CallValue e (arguments_cast (parameters_of (callee_type e)) es))
