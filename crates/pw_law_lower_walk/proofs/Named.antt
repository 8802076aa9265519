-- Each operation of a function's code, where only the names in the tree matter.
use Rattle.std.proofs.Common.{ℕ, Option, Some, None, List, [], ◌∷◌}
use Rattle.std.specs.List.{AllByRecursion}
use Rattle.pw_types.specs.TypeTrees.{QType, type_of, RecordValue}
use Rattle.pw_types.specs.TypedTrees.{Expression, Form, Node, CaseValue, Initialiser, Statement, LocalValue, FunctionValue}
use Rattle.pw_types.specs.TypedTrees as T
use Rattle.pw_types.specs.WellTyped.{promoted_type, type_in}
use Rattle.pw_flow.specs.declared.flow.Op.{Op}
use Rattle.pw_flow.specs.declared.flow.Op.TheVariants as op
use Rattle.pw_flow.specs.declared.flow.Block.{Block}
use Rattle.pw_flow.proofs.Lists.{all_second}
use Rattle.pw_lower.specs.Operators.{target_size, bytes_of, unit_of}
use Rattle.pw_lower.specs.Statements.{local_type}
use Rattle.pw_lower.specs.Modules.{lowered_function}
use Rattle.pw_law_lower_walk.specs.Parts.{Parts, StatementParts}
use Rattle.pw_law_lower_walk.specs.Given.{IsBare, OfNumber, OfSize, NodeIn, InitialiserIn, CasesIn, Nodes, Trees}
use Rattle.pw_law_lower_walk.specs.Named.{IsNameless, NameIn, InitialiserParts}
use Rattle.pw_law_lower_walk.proofs.Functions.{each_block}

module _ (P : Op → Type 0) (nameless : (o : Op) → IsNameless o → P o) (home : List ℕ) (records : List RecordValue) where
  bare_right : (o : Op) → IsBare o → P o
  bare_right (op.Const t n) h = nameless (op.Const t n) tt
  bare_right (op.AddrGlobal t g n) h = absurd h
  bare_right (op.AddrFn t f) h = absurd h
  bare_right (op.LoadG t g k) h = absurd h
  bare_right (op.StoreG g a k) h = absurd h
  bare_right (op.Move to from size unit) h = absurd h
  bare_right (op.Call t f args) h = absurd h
  bare_right (op.CallInd t a shape args) h = absurd h
  bare_right o h = nameless o tt

  sizes_right : (size : Option ℕ) → OfSize P size
  sizes_right None = tt
  sizes_right (Some n) = λ t. nameless (op.Const t n) tt

  node_right : (y : QType) (form : Form) → NameIn P home form → NodeIn P home records y form
  node_right y (T.Number n) h = λ t. nameless (op.Const t n) tt
  node_right y (T.Str k) h = h
  node_right y (T.Global s) h = h
  node_right y (T.Function s) h = h
  node_right y (T.Binary o a b) h = (sizes_right (target_size records (type_in a)), sizes_right (target_size records (type_in b)))
  node_right y (T.Assign a b) h = λ e to from. nameless (op.Move to from (bytes_of records (type_of y)) (unit_of records (type_of y))) tt
  node_right y (T.Compound o work a b) h = (sizes_right (target_size records work), sizes_right (target_size records (type_in b)))
  node_right y (T.Step o a) h = sizes_right (target_size records (promoted_type (type_of y)))
  node_right y (T.Member a offset) h = λ t. nameless (op.Const t offset) tt
  node_right y (T.Call s args) h = λ t temps e. h t temps
  node_right y (T.CallValue a args) h = λ t v shape temps e. nameless (op.CallInd t v shape temps) tt
  node_right y form h = tt

  initialiser_right : (locals : List LocalValue) (N : Expression → Type 0) (i : Initialiser) → InitialiserParts P home N i → InitialiserIn P home records locals N i
  initialiser_right locals N (T.Value k e) h =
      let ty = local_type locals k in (h, λ scalar to from. nameless (op.Move to from (bytes_of records ty) (unit_of records ty)) tt)
  initialiser_right locals N (T.Bytes k hidden parts) h =
      let ty = local_type locals k in (h, λ to from. nameless (op.Move to from (bytes_of records ty) (unit_of records ty)) tt)

  cases_right : (cases : List CaseValue) → AllByRecursion (λ (k : CaseValue). OfNumber P k.value) cases
  cases_right [] = tt
  cases_right (k ∷ rest) = ((λ t. nameless (op.Const t k.value) tt), cases_right rest)

  statement_right : (s : Statement) → CasesIn P s
  statement_right (T.Switch t e cases default body) = cases_right cases
  statement_right s = tt

abbrev AnyDepth : ℕ → Type 0
AnyDepth d = Unit {0}

-- what holds of an operation in which no name stands, and of the others by the names in the nodes of a tree
module _ (P : Op → Type 0) (nameless : (o : Op) → IsNameless o → P o) (home : List ℕ) (N : Expression → Type 0) (parts : (t : ℕ) (y : QType) (form : Form) → N (Node t y form) → Parts N form) (names : (t : ℕ) (y : QType) (form : Form) → N (Node t y form) → NameIn P home form) (I : Initialiser → Type 0) (initialiser : (i : Initialiser) → I i → InitialiserParts P home N i) (S : Statement → Type 0) (statement : (s : Statement) → S s → StatementParts N I S S s) where
  pub each_operation : (records : List RecordValue) (f : FunctionValue) → S f.body → AllByRecursion (λ (b : Block). AllByRecursion P b.ops) (lowered_function home records f).blocks
  each_operation records f h =
      let nodes : Nodes P home records N = record {
        bare = bare_right P nameless home records;
        parts = parts;
        node = λ t y form w. node_right P nameless home records y form (names t y form w);
      } in
      let trees : Trees P AnyDepth home records f.locals N I (λ d s. S s) = record {
        nodes = nodes;
        initialiser = λ i w. initialiser_right P nameless home records f.locals N i (initialiser i w);
        depth = λ d s w. tt;
        parts = λ d s w. statement s w;
        cases = λ d s w. statement_right P nameless home records s;
      } in
      all_second (λ (b : Block). AnyDepth b.depth) (λ (b : Block). AllByRecursion P b.ops) (lowered_function home records f).blocks (each_block P AnyDepth home records N I (λ d s. S s) f trees h)
