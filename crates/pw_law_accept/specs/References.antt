-- What the operations of lowered code name, in the words of the module's typed tree.
use Rattle.std.specs.Prelude.{ℕ, ◌≡◌, List}
use Rattle.pw_types.specs.FullNames.{full_name}
use Rattle.pw_types.specs.TypeTrees.{QType, type_of}
use Rattle.pw_types.specs.TypedTrees.{Symbol, External, ModuleValue}
use Rattle.pw_types.specs.WellTyped.{IsFunctionType, IsFunctionOf, IsObject}
use Rattle.pw_flow.specs.declared.flow.Op.{Op}
use Rattle.pw_flow.specs.declared.flow.Op.TheVariants.{AddrGlobal, AddrFn, LoadG, StoreG, Call}

-- of what all modules share, the type is no function's
abbrev pub IsObjectType : Symbol → QType → Type 0
IsObjectType (External x) y = IsFunctionType (type_of y) → ⊥
IsObjectType _ y = Unit {0}

-- the name is that of an object, as the module has it
pub record NamesObject (m : ModuleValue) (home name : List ℕ) : Type 0 where
  pub symbol : Symbol
  pub ty : QType
  pub is : IsObject m symbol ty
  pub object : IsObjectType symbol ty
  pub named : full_name home symbol ≡ name

-- or that of a function
pub record NamesFunction (m : ModuleValue) (home name : List ℕ) : Type 0 where
  pub symbol : Symbol
  pub ty : QType
  pub function : IsFunctionType (type_of ty)
  pub is : IsFunctionOf m symbol ty
  pub named : full_name home symbol ≡ name

-- what an operation names is an object or a function, as the operation wants one
abbrev pub RefersRightly : ModuleValue → List ℕ → Op → Type 0
RefersRightly m home (AddrGlobal t g n) = NamesObject m home g
RefersRightly m home (AddrFn t f) = NamesFunction m home f
RefersRightly m home (LoadG t g k) = NamesObject m home g
RefersRightly m home (StoreG g a k) = NamesObject m home g
RefersRightly m home (Call t f args) = NamesFunction m home f
RefersRightly m home _ = Unit {0}
