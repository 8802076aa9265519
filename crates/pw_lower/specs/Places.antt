-- Where the parameters and locals of a function stand.
use Rattle.std.specs.Prelude.{ℕ, ◌+◌, ◌==◌, nat_lt, not, ◌&&◌, Bool, true, false, if◌then◌else◌, Option, Some, None, unwrap_or, List, [], ◌∷◌, ◌++◌, slice_get}
use Rattle.std.specs.List.{flat_map}
pub use Rattle.pw_types.specs.Kinds.{is_scalar}
use Rattle.pw_types.specs.TypeTrees.{type_of, is_volatile}
use Rattle.pw_types.specs.TypedTrees.{Expression, Node, Form, Local, Unary, Binary, Logic, Cond, Comma, Assign, Compound, Step, Cast, Decay, Member, Deref, Address, Call, CallValue, Expressions, NoExpression, OneExpression, Initialiser, Value, Bytes, Statement, Evaluate, Block, If, While, Do, For, Switch, Label, Return, Arms, NoArm, Arm, Otherwise, NoElse, Else, Statements, NoStatement, OneStatement, LocalValue, FunctionValue}
use Rattle.pw_lower.specs.declared.place.LocalPlace.{LocalPlace}
use Rattle.pw_lower.specs.declared.place.LocalPlace.TheVariants.{Temp, Slot}

-- the local that an expression names
abbrev pub local_in : Expression → List ℕ
local_in (Node t ty (Local k)) = k ∷ []
local_in _ = []

-- ---- the locals whose address is taken

abbrev mutual
  pub addressed_in : Expression → List ℕ
  addressed_in (Node t ty form) = addressed_by form

  pub addressed_by : Form → List ℕ
  addressed_by (Address (Node t ty (Local k))) = k ∷ []
  addressed_by (Address a) = addressed_in a
  addressed_by (Unary o a) = addressed_in a
  addressed_by (Binary o a b) = addressed_in a ++ addressed_in b
  addressed_by (Logic o a b) = addressed_in a ++ addressed_in b
  addressed_by (Cond c a b) = addressed_in c ++ addressed_in a ++ addressed_in b
  addressed_by (Comma a b) = addressed_in a ++ addressed_in b
  addressed_by (Assign a b) = addressed_in a ++ addressed_in b
  addressed_by (Compound o ty a b) = addressed_in a ++ addressed_in b
  addressed_by (Step o a) = addressed_in a
  addressed_by (Cast a) = addressed_in a
  addressed_by (Decay a) = addressed_in a
  addressed_by (Member a offset) = addressed_in a
  addressed_by (Deref a) = addressed_in a
  addressed_by (Call s args) = addressed_in_all args
  addressed_by (CallValue a args) = addressed_in a ++ addressed_in_all args
  addressed_by _ = []

  pub addressed_in_all : Expressions → List ℕ
  addressed_in_all NoExpression = []
  addressed_in_all (OneExpression a rest) = addressed_in a ++ addressed_in_all rest

abbrev pub addressed_in_option : Option Expression → List ℕ
addressed_in_option None = []
addressed_in_option (Some a) = addressed_in a

-- a list in braces and a string are not evaluated
abbrev pub addressed_in_initialiser : Initialiser → List ℕ
addressed_in_initialiser (Value local a) = addressed_in a
addressed_in_initialiser (Bytes local hidden parts) = []

abbrev mutual
  pub addressed_in_statement : Statement → List ℕ
  addressed_in_statement (Evaluate t e) = addressed_in e
  addressed_in_statement (Block t first count initialisers items) =
      flat_map addressed_in_initialiser initialisers ++ addressed_in_statements items
  addressed_in_statement (If t arms otherwise) = addressed_in_arms arms ++ addressed_in_otherwise otherwise
  addressed_in_statement (While t e body) = addressed_in e ++ addressed_in_statement body
  addressed_in_statement (Do t body e) = addressed_in_statement body ++ addressed_in e
  addressed_in_statement (For t a b c body) =
      addressed_in_option a ++ addressed_in_option b ++ addressed_in_option c ++ addressed_in_statement body
  addressed_in_statement (Switch t e cases default body) = addressed_in e ++ addressed_in_statement body
  addressed_in_statement (Label t labels body) = addressed_in_statement body
  addressed_in_statement (Return t e) = addressed_in_option e
  addressed_in_statement _ = []

  pub addressed_in_arms : Arms → List ℕ
  addressed_in_arms NoArm = []
  addressed_in_arms (Arm t e s rest) = addressed_in e ++ addressed_in_statement s ++ addressed_in_arms rest

  pub addressed_in_otherwise : Otherwise → List ℕ
  addressed_in_otherwise NoElse = []
  addressed_in_otherwise (Else s) = addressed_in_statement s

  pub addressed_in_statements : Statements → List ℕ
  addressed_in_statements NoStatement = []
  addressed_in_statements (OneStatement s rest) = addressed_in_statement s ++ addressed_in_statements rest

-- ---- places

abbrev pub has : ℕ → List ℕ → Bool
has k [] = false
has k (n ∷ rest) = if n == k then true else has k rest

-- A local is kept in a temporary where it is scalar, not volatile, and its address is never taken.
abbrev pub is_kept : List ℕ → ℕ → LocalValue → Bool
is_kept addressed k local =
    is_scalar (type_of local.ty) && (not (is_volatile local.ty) && not (has k addressed))

-- The places of the locals from number k on. The temporary of a parameter has the parameter's number; those of
-- the other locals, and the slots, are numbered in the order of declaration.
abbrev pub places_from : List ℕ → ℕ → ℕ → ℕ → ℕ → List LocalValue → List LocalPlace
places_from addressed params k temp slot [] = []
places_from addressed params k temp slot (local ∷ rest) =
    if is_kept addressed k local
    then (if nat_lt k params
    then Temp k ∷ places_from addressed params (k + 1) temp slot rest
    else Temp temp ∷ places_from addressed params (k + 1) (temp + 1) slot rest)
    else Slot slot ∷ places_from addressed params (k + 1) temp (slot + 1) rest

abbrev pub places_of : FunctionValue → List LocalPlace
places_of f = places_from (addressed_in_statement f.body) f.params 0 f.params 0 f.locals

abbrev pub place_at : List LocalPlace → ℕ → LocalPlace
place_at places k = unwrap_or (slice_get places k) (Temp 0)

-- how many temporaries the parameters and the kept locals have
abbrev pub temps_from : ℕ → List LocalPlace → ℕ
temps_from temps [] = temps
temps_from temps (Temp t ∷ rest) = temps_from (if nat_lt t temps then temps else t + 1) rest
temps_from temps (Slot s ∷ rest) = temps_from temps rest
