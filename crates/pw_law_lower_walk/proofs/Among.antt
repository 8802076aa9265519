-- Names of lowered code that are among those of the tree.
use Rattle.std.proofs.Common.{ℕ, List}
use Rattle.std.specs.Prelude.{Contains}
use Rattle.std.specs.List.{AllByRecursion}
use Rattle.pw_types.specs.FullNames.{full_name}
use Rattle.pw_types.specs.TypeTrees.{QType, RecordValue}
use Rattle.pw_types.specs.TypedTrees.{Expression, Form, Node, Hidden, Initialiser, FunctionValue}
use Rattle.pw_types.specs.TypedTrees as T
use Rattle.pw_flow.specs.declared.flow.Op.{Op}
use Rattle.pw_flow.specs.declared.flow.Op.TheVariants as op
use Rattle.pw_lower.specs.Modules.{lowered_function}
use Rattle.pw_law_lower_walk.specs.Folds.{EachNode}
use Rattle.pw_law_lower_walk.specs.Given.{OfObject}
use Rattle.pw_law_lower_walk.specs.Named.{IsNameless, NameIn, InitialiserParts, NamesAmong, NodeAmong, InitialiserAmong, StatementAmong}
use Rattle.pw_law_lower_walk.proofs.Folds.{node_parts, statement_parts}
use Rattle.pw_law_lower_walk.proofs.Named.{each_operation}

module _ (objects functions : List (List ℕ)) (home : List ℕ) where
  abbrev IsAmong : Op → Type 0
  IsAmong o = NamesAmong objects functions o

  abbrev HasAmong : Expression → Type 0
  HasAmong e = EachNode (NodeAmong objects functions home) e

  nameless_among : (o : Op) → IsNameless o → IsAmong o
  nameless_among (op.AddrGlobal t g n) h = absurd h
  nameless_among (op.AddrFn t f) h = absurd h
  nameless_among (op.LoadG t g k) h = absurd h
  nameless_among (op.StoreG g a k) h = absurd h
  nameless_among (op.Call t f args) h = absurd h
  nameless_among o h = tt

  object_among : (g : List ℕ) → Contains objects g → OfObject IsAmong g
  object_among g h = record { address = λ t. h; read = λ t k. h; written = λ a k. h }

  names_among : (t : ℕ) (y : QType) (form : Form) → HasAmong (Node t y form) → NameIn IsAmong home form
  names_among t y (T.Str k) h = object_among (full_name home (Hidden k)) h.0
  names_among t y (T.Global s) h = object_among (full_name home s) h.0
  names_among t y (T.Function s) h = λ r. h.0
  names_among t y (T.Call s args) h = λ r temps. h.0
  names_among t y form h = tt

  initialiser_among : (i : Initialiser) → InitialiserAmong objects functions home i → InitialiserParts IsAmong home HasAmong i
  initialiser_among (T.Value k e) h = h
  initialiser_among (T.Bytes k hidden parts) h = object_among (full_name home (Hidden hidden)) h

  pub among : (records : List RecordValue) (f : FunctionValue) → StatementAmong objects functions home f.body
      → AllByRecursion (λ b. AllByRecursion (NamesAmong objects functions) b.ops) (lowered_function home records f).blocks
  among records f h =
      each_operation IsAmong nameless_among home HasAmong (node_parts (NodeAmong objects functions home)) names_among
      (InitialiserAmong objects functions home) initialiser_among
      (StatementAmong objects functions home) (statement_parts HasAmong (InitialiserAmong objects functions home)) records f h
