-- What a property of operations asks of a typed tree, so that each operation of the tree's code has it.
use Rattle.std.specs.Prelude.{◌≡◌, ◌≤◌, ℕ, ◌+◌, true, Option, None, Some, List, length}
use Rattle.std.specs.List.{AllByRecursion}
use Rattle.pw_value.specs.declared.value.Kind.{Kind}
use Rattle.pw_types.specs.FullNames.{full_name}
use Rattle.pw_types.specs.Kinds.{is_record}
use Rattle.pw_types.specs.TypeTrees.{CType, QType, type_of, RecordValue}
use Rattle.pw_types.specs.TypedTrees.{Hidden, Expression, Node, Form, CaseValue, Initialiser, Statement, LocalValue}
use Rattle.pw_types.specs.TypedTrees as T
use Rattle.pw_types.specs.WellTyped.{promoted_type, type_in}
use Rattle.pw_flow.specs.declared.flow.Op.{Op}
use Rattle.pw_flow.specs.declared.flow.Op.TheVariants.{Const, AddrGlobal, AddrFn, LoadG, StoreG, Move, Call, CallInd}
use Rattle.pw_lower.specs.Operators.{kind_of, bytes_of, unit_of, target_size}
use Rattle.pw_lower.specs.Statements.{local_type}
use Rattle.pw_law_lower_walk.specs.Parts.{Parts, count_of, StatementParts}

-- ---- operations

-- an operation in which nothing of the tree stands: no name, no number but 0 and 1, no size and no count
abbrev pub IsBare : Op → Type 0
IsBare (Const t n) = n ≤ 1
IsBare (AddrGlobal t g n) = ⊥
IsBare (AddrFn t f) = ⊥
IsBare (LoadG t g k) = ⊥
IsBare (StoreG g a k) = ⊥
IsBare (Move to from size unit) = ⊥
IsBare (Call t f args) = ⊥
IsBare (CallInd t a shape args) = ⊥
IsBare o = Unit {0}

-- a number
abbrev pub OfNumber : (Op → Type 0) → ℕ → Type 0
OfNumber P n = (t : ℕ) → P (Const t n)

-- a size, where there is one
abbrev pub OfSize : (Op → Type 0) → Option ℕ → Type 0
OfSize P None = Unit {0}
OfSize P (Some n) = OfNumber P n

-- an object of a type is copied
abbrev pub OfCopy : (Op → Type 0) → List RecordValue → CType → Type 0
OfCopy P records ty = (to from : ℕ) → P (Move to from (bytes_of records ty) (unit_of records ty))

-- an object's name: its address is taken, it is read, it is written
pub record OfObject (P : Op → Type 0) (g : List ℕ) : Type 0 where
  pub address : (t : ℕ) → P (AddrGlobal t g 0)
  pub read : (t : ℕ) (k : Kind) → P (LoadG t g k)
  pub written : (a : ℕ) (k : Kind) → P (StoreG g a k)

-- ---- trees

-- what stands in a node of a module's tree, by its type and its form
abbrev pub NodeIn : (Op → Type 0) → List ℕ → List RecordValue → QType → Form → Type 0
NodeIn P home records y (T.Number n) = OfNumber P n
NodeIn P home records y (T.Str k) = OfObject P (full_name home (Hidden k))
NodeIn P home records y (T.Global s) = OfObject P (full_name home s)
NodeIn P home records y (T.Function s) = (t : ℕ) → P (AddrFn t (full_name home s))
NodeIn P home records y (T.Binary o a b) = OfSize P (target_size records (type_in a)) × OfSize P (target_size records (type_in b))
NodeIn P home records y (T.Assign a b) = is_record (type_of y) ≡ true → OfCopy P records (type_of y)
NodeIn P home records y (T.Compound o working a b) = OfSize P (target_size records working) × OfSize P (target_size records (type_in b))
NodeIn P home records y (T.Step o a) = OfSize P (target_size records (promoted_type (type_of y)))
NodeIn P home records y (T.Member a offset) = OfNumber P offset
NodeIn P home records y (T.Call s args) = (t : Option ℕ) (temps : List ℕ) → length temps ≡ count_of args → P (Call t (full_name home s) temps)
NodeIn P home records y (T.CallValue a args) = (t : Option ℕ) (v : ℕ) (shape temps : List ℕ) → length temps ≡ count_of args → P (CallInd t v shape temps)
NodeIn P home records y form = Unit {0}

-- the expression of an initialiser, or the hidden object that has its bytes; the local's type
abbrev pub InitialiserIn : (Op → Type 0) → List ℕ → List RecordValue → List LocalValue → (Expression → Type 0) → Initialiser → Type 0
InitialiserIn P home records locals N (T.Value k e) = N e × (kind_of (local_type locals k) ≡ None → OfCopy P records (local_type locals k))
InitialiserIn P home records locals N (T.Bytes k hidden parts) = OfObject P (full_name home (Hidden hidden)) × OfCopy P records (local_type locals k)

-- the values of a switch's cases
abbrev pub CasesIn : (Op → Type 0) → Statement → Type 0
CasesIn P (T.Switch t e cases default body) = AllByRecursion (λ (k : CaseValue). OfNumber P k.value) cases
CasesIn P s = Unit {0}

-- ---- properties of trees that give what is asked

-- of expressions
pub record Nodes (P : Op → Type 0) (home : List ℕ) (records : List RecordValue) (N : Expression → Type 0) : Type 0 where
  pub bare : (o : Op) → IsBare o → P o
  pub parts : (t : ℕ) (y : QType) (form : Form) → N (Node t y form) → Parts N form
  pub node : (t : ℕ) (y : QType) (form : Form) → N (Node t y form) → NodeIn P home records y form

-- of initialisers, and of statements so many loops deep; D is asked of the depth of a block
pub record Trees (P : Op → Type 0) (D : ℕ → Type 0) (home : List ℕ) (records : List RecordValue) (locals : List LocalValue) (N : Expression → Type 0) (I : Initialiser → Type 0) (S : ℕ → Statement → Type 0) : Type 0 where
  pub nodes : Nodes P home records N
  pub initialiser : (i : Initialiser) → I i → InitialiserIn P home records locals N i
  pub depth : (d : ℕ) (s : Statement) → S d s → D d
  pub parts : (d : ℕ) (s : Statement) → S d s → StatementParts N I (S d) (S (d + 1)) s
  pub cases : (d : ℕ) (s : Statement) → S d s → CasesIn P s
