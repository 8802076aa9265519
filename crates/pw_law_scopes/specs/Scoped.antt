-- Where locals are named: in the blocks that have them in scope (ISO C90 6.1.2.1), parameters in the whole function; and what a local is
-- initialised with by its value (6.5.7).
use Rattle.std.specs.Prelude.{ℕ}
use Rattle.pw_types.specs.TypeTrees.{QType}
use Rattle.pw_types.specs.TypedTrees.{Expression, Form, Expressions, Initialiser, Statement, Statements, Arms, Otherwise}
use Rattle.pw_types.specs.TypedTrees as T
use Rattle.pw_types.specs.WellTyped.{type_in}
use Rattle.pw_law_lower_walk.specs.Folds.{OverNodes, OverParts, OverArguments}
use Rattle.pw_law_never.specs.Scopes.{InScopes, AllInScopes, ArmsInScopes, ElseInScopes}
use Rattle.pw_law_never.specs.Resolved.{IsInitialising}

-- ---- expressions

-- a local is in scope; of every other node its parts are asked
abbrev pub NamesScoped : (ℕ → Type 0) → QType → Form → Type 0 → Type 0
NamesScoped scope y (T.Local k) rest = scope k
NamesScoped scope y form rest = rest

abbrev pub IsScoped : (ℕ → Type 0) → Expression → Type 0
IsScoped scope e = OverNodes (NamesScoped scope) e

abbrev pub HasScoped : (ℕ → Type 0) → QType → Form → Type 0
HasScoped scope y form = NamesScoped scope y form (OverParts (NamesScoped scope) form)

abbrev pub AreScoped : (ℕ → Type 0) → Expressions → Type 0
AreScoped scope args = OverArguments (NamesScoped scope) args

-- of what a hidden object is made is not evaluated
abbrev pub IsScopedInitialiser : (ℕ → Type 0) → Initialiser → Type 0
IsScopedInitialiser scope (T.Value k e) = IsScoped scope e × IsInitialising (type_in e)
IsScopedInitialiser scope (T.Bytes k hidden parts) = Unit {0}

-- ---- statements

abbrev pub IsScopedStatement : (ℕ → Type 0) → Statement → Type 0
IsScopedStatement scope s = InScopes IsScoped IsScopedInitialiser scope s

abbrev pub AreScopedStatements : (ℕ → Type 0) → Statements → Type 0
AreScopedStatements scope all = AllInScopes IsScoped IsScopedInitialiser scope all

abbrev pub AreScopedArms : (ℕ → Type 0) → Arms → Type 0
AreScopedArms scope arms = ArmsInScopes IsScoped IsScopedInitialiser scope arms

abbrev pub IsScopedElse : (ℕ → Type 0) → Otherwise → Type 0
IsScopedElse scope o = ElseInScopes IsScoped IsScopedInitialiser scope o
