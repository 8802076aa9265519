-- What a call that takes an image file answers, and the map of an image.
use Rattle.std.specs.Prelude.{◌≡◌, ℕ, List, map, Result, Ok, Err}
use Rattle.pw_value.specs.declared.fault.FileError.{FileError}
use Rattle.pw_value.specs.declared.fault.FileError.TheVariants as file
use Rattle.pw_image.specs.declared.image.Function.{Function}
use Rattle.pw_image.specs.declared.image.GlobalObject.{GlobalObject}
use Rattle.pw_image.specs.declared.image.Image.{Image}
use Rattle.pw_image.specs.declared.load.LoadError.{LoadError}
use Rattle.pw_image.specs.declared.load.LoadError.TheVariants as load
use Rattle.pw_image.specs.declared.load.Map.{Map}
use Rattle.pw_image.specs.Image.{Contents}

-- ---- answers

-- a fault of the file is told as it is
abbrev pub load_error_of : FileError → LoadError
load_error_of (file.FileFault at) = load.LoadFault at
load_error_of file.NoMemory = load.NoMemory

-- an error is the fault that reading finds, unless it is want of memory
abbrev pub FailsLoad : {Y : Type 0} → LoadError → Result Y ℕ → Type 0
FailsLoad load.NoMemory found = Unit {0}
FailsLoad (load.LoadFault at) found = found ≡ Err at

-- what a call returned, seen by view, is what reading finds, unless memory ran out
abbrev pub GivesLoad : {X Y : Type 0} → (X → Y) → Result X LoadError → Result Y ℕ → Type 0
GivesLoad view (Ok x) found = found ≡ Ok (view x)
GivesLoad view (Err e) found = FailsLoad e found

-- what reading finds, as a function of the image
abbrev pub loaded_as : {Y : Type 0} → (Image → Y) → Result (Contents Image) ℕ → Result Y ℕ
loaded_as f (Ok c) = Ok (f c.value)
loaded_as f (Err at) = Err at

-- ---- the map

abbrev pub function_entry : Function → List ℕ × ℕ × ℕ
function_entry f = (f.name, f.address, f.frame)

abbrev pub global_entry : GlobalObject → List ℕ × ℕ
global_entry g = (g.name, g.address)

abbrev pub map_of : Image → Map
map_of v = record { functions = map function_entry v.functions; globals = map global_entry v.globals }
