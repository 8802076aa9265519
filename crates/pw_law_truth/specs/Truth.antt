-- What the lines say that a debugger shows at a program's k-th call, and when that is true of the program.
use Rattle.std.specs.Prelude.{ℕ, ◌≡◌, List, [], ◌∷◌, ◌++◌, length, map, Ok, Err, Option}
use Rattle.std.specs.List.{AllByRecursion, flat_map}
use Rattle.pw_value.specs.declared.value.Byte.{Byte}
use Rattle.pw_value.specs.declared.value.Value.TheVariants.{Num}
use Rattle.pw_value.specs.Objects.{Object as Thing, object_at}
use Rattle.pw_types.specs.declared.kind.IntKind.{IntKind}
use Rattle.pw_types.specs.TypeTrees.{Int, type_of}
use Rattle.pw_types.specs.TypedTrees.{GlobalValue}
use Rattle.pw_types.specs.Conversions.{is_signed_kind}
use Rattle.pw_flow.specs.declared.flow.FlowGlobal.{FlowGlobal}
use Rattle.pw_lower.specs.Modules.{lowered_global}
use Rattle.pw_object.specs.declared.object.Object.{Object}
use Rattle.pw_image.specs.declared.image.Image.{Image}
use Rattle.pw_cmean.specs.Worlds.{Program, ProgramModule, full_name}
use Rattle.pw_cmean.specs.Access.{value_in}
use Rattle.pw_where.specs.declared.shown.Shown.{Shown}
use Rattle.pw_where.specs.Shown.{call_line, value_line}
use Rattle.pw_where.specs.Looks.{AreShown, ShowsAt}
use Rattle.pw_debug.specs.declared.info.FrameInfo.{FrameInfo}
pub use Rattle.pw_law_told.specs.Told.{ComesToCall, IsPause}

-- ---- the program

-- the objects of static lifetime in the order of their numbers, each with the module that defines it
abbrev pub definitions_of : Program → List (ProgramModule × GlobalValue)
definitions_of p = flat_map (λ m. map (λ g. (m, g)) m.tree.globals) p.modules

-- a definition as lowering has it
abbrev pub lowered_definition : ProgramModule × GlobalValue → FlowGlobal
lowered_definition d = lowered_global d.0.name d.0.tree.records d.1

-- The program defines an object of an integer type by this full name, and the object has this number.
pub record IsInteger (p : Program) (name : List ℕ) (number : ℕ) (kind : IntKind) : Type 0 where
  pub before : List (ProgramModule × GlobalValue)
  pub home : ProgramModule
  pub global : GlobalValue
  pub after : List (ProgramModule × GlobalValue)
  pub is : definitions_of p ≡ before ++ (home, global) ∷ after
  pub count : length before ≡ number
  pub named : full_name home.name global.name ≡ name
  pub integer : type_of global.ty ≡ Int kind

-- Bytes that are a number: the value of the integer type that they are. Where one of them is undefined, or a pointer's, they are none.
abbrev pub IsValue : IntKind → List Byte → ℕ → Type 0
IsValue kind bytes v = value_in (Int kind) bytes ≡ Num v

-- ---- the lines

-- a line of each global, with its value
abbrev pub lines_of : List (Shown × ℕ) → List ℕ
lines_of [] = []
lines_of (said ∷ rest) = value_line said.0 said.1 ++ lines_of rest

-- A line says the value that the object of its name has then, if that is an integer with a value, and shows it as one of the type.
pub record IsTrue (number : Shown) (said : ℕ) (kind : IntKind) (v : ℕ) : Type 0 where
  pub value : said ≡ v
  pub sign : number.number.is_signed ≡ is_signed_kind kind

abbrev pub SaysTrue : Program → List Thing → Shown × ℕ → Type 0
SaysTrue p things said =
    (number : ℕ) (kind : IntKind) (v : ℕ) → IsInteger p said.0.object.name number kind → IsValue kind (object_at things number).bytes v → IsTrue said.0 said.1 kind v

-- The lines are that of the k-th call, which is of this function, and one of each global that is shown, in order; and each of
-- these says true of the objects.
pub record TellTrue (p : Program) (image : Image) (objects : List Object) (k : ℕ) (lines : List ℕ) (f : List ℕ) (things : List Thing) : Type 0 where
  pub values : List (Shown × ℕ)
  pub shown : AreShown image objects (map (λ said. said.0) values)
  pub are : lines ≡ call_line k f ++ lines_of values
  pub say : AllByRecursion (SaysTrue p things) values

-- What is shown at the k-th call of an image's run, over these frames, is the truth: where lines are shown, the program comes to its
-- k-th call, whether the image's stack has room for this or not, and they are true of it; and no walk is lost.
pub record ShowsTruth (p : Program) (image : Image) (objects : List Object) (frames : List FrameInfo) (k budget : ℕ) (input : List ℕ) : Type 0 where
  pub comes : (lines : List ℕ) (rest : Option (List ℕ)) → ShowsAt image objects frames k budget input (Ok lines) rest → ComesToCall p input k
  pub lines : (lines : List ℕ) (rest : Option (List ℕ)) (f : List ℕ) (things : List Thing) → ShowsAt image objects frames k budget input (Ok lines) rest →
      IsPause p input k f things → TellTrue p image objects k lines f things
  pub walks : (address : ℕ) (rest : Option (List ℕ)) → ¬ ShowsAt image objects frames k budget input (Err address) rest
