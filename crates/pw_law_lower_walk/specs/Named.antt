-- What a property of operations asks of the names in a tree alone; and names that are among these.
use Rattle.std.specs.Prelude.{ℕ, Option, List, Contains}
use Rattle.pw_types.specs.FullNames.{full_name}
use Rattle.pw_types.specs.TypeTrees.{QType}
use Rattle.pw_types.specs.TypedTrees.{Hidden, Expression, Form, Initialiser, Statement}
use Rattle.pw_types.specs.TypedTrees as T
use Rattle.pw_flow.specs.declared.flow.Op.{Op}
use Rattle.pw_flow.specs.declared.flow.Op.TheVariants.{AddrGlobal, AddrFn, LoadG, StoreG, Call}
use Rattle.pw_law_lower_walk.specs.Given.{OfObject}
use Rattle.pw_law_lower_walk.specs.Folds.{EachNode, InStatement}

-- an operation in which no name stands
abbrev pub IsNameless : Op → Type 0
IsNameless (AddrGlobal t g n) = ⊥
IsNameless (AddrFn t f) = ⊥
IsNameless (LoadG t g k) = ⊥
IsNameless (StoreG g a k) = ⊥
IsNameless (Call t f args) = ⊥
IsNameless o = Unit {0}

-- the name in a node of a module's tree
abbrev pub NameIn : (Op → Type 0) → List ℕ → Form → Type 0
NameIn P home (T.Str k) = OfObject P (full_name home (Hidden k))
NameIn P home (T.Global s) = OfObject P (full_name home s)
NameIn P home (T.Function s) = (t : ℕ) → P (AddrFn t (full_name home s))
NameIn P home (T.Call s args) = (t : Option ℕ) (temps : List ℕ) → P (Call t (full_name home s) temps)
NameIn P home form = Unit {0}

-- the expression of an initialiser, or the hidden object that has its bytes
abbrev pub InitialiserParts : (Op → Type 0) → List ℕ → (Expression → Type 0) → Initialiser → Type 0
InitialiserParts P home N (T.Value k e) = N e
InitialiserParts P home N (T.Bytes k hidden parts) = OfObject P (full_name home (Hidden hidden))

-- ---- names that are among these, of objects and of functions

abbrev pub NamesAmong : List (List ℕ) → List (List ℕ) → Op → Type 0
NamesAmong objects functions (AddrGlobal t g n) = Contains objects g
NamesAmong objects functions (AddrFn t f) = Contains functions f
NamesAmong objects functions (LoadG t g k) = Contains objects g
NamesAmong objects functions (StoreG g a k) = Contains objects g
NamesAmong objects functions (Call t f args) = Contains functions f
NamesAmong objects functions o = Unit {0}

abbrev pub NodeAmong : List (List ℕ) → List (List ℕ) → List ℕ → QType → Form → Type 0
NodeAmong objects functions home y (T.Str k) = Contains objects (full_name home (Hidden k))
NodeAmong objects functions home y (T.Global s) = Contains objects (full_name home s)
NodeAmong objects functions home y (T.Function s) = Contains functions (full_name home s)
NodeAmong objects functions home y (T.Call s args) = Contains functions (full_name home s)
NodeAmong objects functions home y form = Unit {0}

abbrev pub InitialiserAmong : List (List ℕ) → List (List ℕ) → List ℕ → Initialiser → Type 0
InitialiserAmong objects functions home (T.Value k e) = EachNode (NodeAmong objects functions home) e
InitialiserAmong objects functions home (T.Bytes k hidden parts) = Contains objects (full_name home (Hidden hidden))

abbrev pub StatementAmong : List (List ℕ) → List (List ℕ) → List ℕ → Statement → Type 0
StatementAmong objects functions home s = InStatement (EachNode (NodeAmong objects functions home)) (InitialiserAmong objects functions home) s
