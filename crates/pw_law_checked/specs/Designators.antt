-- What names in typed trees denote: a node that names an object which all modules share has no function's type, since a function's name
-- makes a node of its own (ISO C90 6.2.2.1).
use Rattle.std.specs.Prelude.{Option}
use Rattle.pw_types.specs.TypeTrees.{QType, type_of}
use Rattle.pw_types.specs.TypedTrees.{External, Expression, Form, Expressions, Initialiser, Statement, Statements, Arms, Otherwise}
use Rattle.pw_types.specs.TypedTrees as T
use Rattle.pw_types.specs.WellTyped.{IsFunctionType}
use Rattle.pw_law_lower_walk.specs.Parts.{IfAny}
use Rattle.pw_law_lower_walk.specs.Folds.{OverNodes, OverParts, OverArguments, InStatement, InStatements, InArms, InOtherwise}

-- ---- expressions

-- of a node by itself; of every other node its parts are asked
abbrev pub NamesObject : QType → Form → Type 0 → Type 0
NamesObject y (T.Global (External x)) rest = IsFunctionType (type_of y) → ⊥
NamesObject y form rest = rest

abbrev pub NamesObjects : Expression → Type 0
NamesObjects e = OverNodes NamesObject e

abbrev pub HasObjects : QType → Form → Type 0
HasObjects y form = NamesObject y form (OverParts NamesObject form)

abbrev pub AllNameObjects : Expressions → Type 0
AllNameObjects args = OverArguments NamesObject args

abbrev pub NamesObjectsIfAny : Option Expression → Type 0
NamesObjectsIfAny e = IfAny NamesObjects e

-- of what a hidden object is made is not evaluated
abbrev pub InitialiserNamesObjects : Initialiser → Type 0
InitialiserNamesObjects (T.Value k e) = NamesObjects e
InitialiserNamesObjects (T.Bytes k hidden parts) = Unit {0}

-- ---- statements

abbrev pub StatementNamesObjects : Statement → Type 0
StatementNamesObjects s = InStatement NamesObjects InitialiserNamesObjects s

abbrev pub StatementsNameObjects : Statements → Type 0
StatementsNameObjects all = InStatements NamesObjects InitialiserNamesObjects all

abbrev pub ArmsNameObjects : Arms → Type 0
ArmsNameObjects arms = InArms NamesObjects InitialiserNamesObjects arms

abbrev pub ElseNamesObjects : Otherwise → Type 0
ElseNamesObjects o = InOtherwise NamesObjects InitialiserNamesObjects o
