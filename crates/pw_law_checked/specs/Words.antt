-- The numbers of a typed tree: each in an expression that is evaluated is one of 32 bits, as in each tree that the code makes. And
-- the strings of a module.
use Rattle.std.specs.Prelude.{ℕ, ◌≡◌, ◌<◌, ◌≤◌, ◌^◌, false, Option, Some, List, All, Contains}
use Rattle.pw_value.specs.Limits.{size_limit}
use Rattle.pw_types.specs.declared.kind.IntKind.TheVariants as K
use Rattle.pw_types.specs.TypeTrees.{Int, Array, Qualified, type_of}
use Rattle.pw_types.specs.TypedTrees.{Hidden, Expression, Initialiser, Statement, Statements, Arms, Otherwise, FunctionValue, ItemValue, ItemBytes, ItemAddress, PlacedItem, GlobalValue, ModuleValue}
use Rattle.pw_types.specs.TypedTrees as T
use Rattle.pw_law_lower_walk.specs.Parts.{IfAny}
use Rattle.pw_law_lower_walk.specs.Folds.{InStatement, InStatements, InArms, InOtherwise}
use Rattle.pw_law_checked.specs.Lawful.{AreWords}

abbrev pub HasWords : Initialiser → Type 0
HasWords (T.Value k e) = AreWords e
HasWords (T.Bytes k hidden parts) = Unit {0}

abbrev pub HasWordsIfAny : Option Expression → Type 0
HasWordsIfAny e = IfAny AreWords e

abbrev pub WordsInStatement : Statement → Type 0
WordsInStatement s = InStatement AreWords HasWords s

abbrev pub WordsInStatements : Statements → Type 0
WordsInStatements all = InStatements AreWords HasWords all

abbrev pub WordsInArms : Arms → Type 0
WordsInArms arms = InArms AreWords HasWords arms

abbrev pub WordsInElse : Otherwise → Type 0
WordsInElse o = InOtherwise AreWords HasWords o

-- ---- objects and modules

-- of an address the offset
abbrev pub HasOffset : ItemValue → Type 0
HasOffset (ItemBytes bytes) = Unit {0}
HasOffset (ItemAddress symbol offset) = offset < 2 ^ 32

abbrev pub WordsInItems : List PlacedItem → Type 0
WordsInItems items = All (λ p. HasOffset p.item) items

-- each number of a module is one of 32 bits, as in each module that the code makes
pub record AreWordsInModule (m : ModuleValue) : Type 0 where
  pub functions : All (λ f. WordsInStatement f.body) m.functions
  pub objects : All (λ g. WordsInItems g.items) m.globals

-- No string literal is longer than an object can be, as in each text that can be read: an object without a name that is an array of
-- so many characters keeps the limit on sizes.
abbrev pub AreShortStrings : ModuleValue → Type 0
AreShortStrings m =
    (g : GlobalValue) (k n : ℕ) → Contains m.globals g → g.name ≡ Hidden k → type_of g.ty ≡ Array (Qualified (Int K.Char) false false) (Some n) → n ≤ size_limit
