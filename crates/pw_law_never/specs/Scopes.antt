-- What holds of the expressions and initialisers of a statement, each with the locals that are in scope where it stands: those of a
-- block are in scope in it, also where it is entered at a label (ISO C90 6.1.2.1).
use Rattle.std.specs.Prelude.{ℕ, ◌+◌, ◌<◌, ◌≤◌, ◌⊎◌, Option, Some, None}
use Rattle.std.specs.List.{AllByRecursion}
use Rattle.pw_types.specs.TypedTrees.{Expression, Initialiser, Statement, Arms, NoArm, Arm, Otherwise, NoElse, Else, Statements, NoStatement, OneStatement}
use Rattle.pw_types.specs.TypedTrees as T

-- with so many locals more, from a place on
abbrev pub with_range : ℕ → ℕ → (ℕ → Type 0) → ℕ → Type 0
with_range first count scope k = scope k ⊎ ((first ≤ k) × (k < first + count))

abbrev pub InScopeIfAny : ((ℕ → Type 0) → Expression → Type 0) → (ℕ → Type 0) → Option Expression → Type 0
InScopeIfAny N scope None = Unit {0}
InScopeIfAny N scope (Some e) = N scope e

-- N is what is said of expressions, I of initialisers
abbrev mutual
  pub InScopes : ((ℕ → Type 0) → Expression → Type 0) → ((ℕ → Type 0) → Initialiser → Type 0) → (ℕ → Type 0) → Statement → Type 0
  InScopes N I scope (T.Evaluate t e) = N scope e
  InScopes N I scope (T.Block t first count initialisers items) =
      AllByRecursion (I (with_range first count scope)) initialisers × AllInScopes N I (with_range first count scope) items
  InScopes N I scope (T.If t arms otherwise) = ArmsInScopes N I scope arms × ElseInScopes N I scope otherwise
  InScopes N I scope (T.While t e body) = N scope e × InScopes N I scope body
  InScopes N I scope (T.Do t body e) = InScopes N I scope body × N scope e
  InScopes N I scope (T.For t first e third body) =
      InScopeIfAny N scope first × InScopeIfAny N scope e × InScopeIfAny N scope third × InScopes N I scope body
  InScopes N I scope (T.Switch t e cases default body) = N scope e × InScopes N I scope body
  InScopes N I scope (T.Label t labels body) = InScopes N I scope body
  InScopes N I scope (T.Return t result) = InScopeIfAny N scope result
  InScopes N I scope s = Unit {0}

  pub AllInScopes : ((ℕ → Type 0) → Expression → Type 0) → ((ℕ → Type 0) → Initialiser → Type 0) → (ℕ → Type 0) → Statements → Type 0
  AllInScopes N I scope NoStatement = Unit {0}
  AllInScopes N I scope (OneStatement s rest) = InScopes N I scope s × AllInScopes N I scope rest

  pub ArmsInScopes : ((ℕ → Type 0) → Expression → Type 0) → ((ℕ → Type 0) → Initialiser → Type 0) → (ℕ → Type 0) → Arms → Type 0
  ArmsInScopes N I scope NoArm = Unit {0}
  ArmsInScopes N I scope (Arm t e s rest) = N scope e × InScopes N I scope s × ArmsInScopes N I scope rest

  pub ElseInScopes : ((ℕ → Type 0) → Expression → Type 0) → ((ℕ → Type 0) → Initialiser → Type 0) → (ℕ → Type 0) → Otherwise → Type 0
  ElseInScopes N I scope NoElse = Unit {0}
  ElseInScopes N I scope (Else s) = InScopes N I scope s
