-- short s = -2; int main(void){return 0;} as a typed tree, and images of it: one with the program's value, and one with another.
use Rattle.std.specs.Prelude.{ℕ, List, [], ◌∷◌, codes, replicate, Some, true, false}
use Rattle.pw_value.specs.ProgramNames.{main_name, start_name}
use Rattle.pw_value.specs.Objects.{Object as Thing}
use Rattle.pw_value.specs.declared.value.Byte.TheVariants as B
use Rattle.pw_types.specs.TypeTrees.{Int, Function as FunctionType, QType, Qualified, NoType}
use Rattle.pw_types.specs.declared.kind.IntKind.TheVariants as kind
use Rattle.pw_types.specs.TypedTrees.{External, Node, Number, Block, Return, NoStatement, OneStatement, FunctionValue, GlobalValue, ItemBytes, ModuleValue}
use Rattle.pw_lower.specs.Modules.{lowered_global}
use Rattle.pw_object.specs.declared.object.Object.{Object}
use Rattle.pw_image.specs.declared.image.Function.{Function}
use Rattle.pw_image.specs.declared.image.Image.{Image}
use Rattle.pw_debug.specs.declared.info.FrameInfo.{FrameInfo}
use Rattle.pw_cmean.specs.Worlds.{Program}

-- ---- the program

abbrev int_type : QType
int_type = Qualified (Int kind.Int) false false

abbrev short_type : QType
short_type = Qualified (Int kind.Short) false false

abbrev main_type : QType
main_type = Qualified (FunctionType int_type NoType) false false

abbrev pub s_name : List ℕ
s_name = codes "s"

abbrev pub s : GlobalValue
s = record { name = External s_name; ty = short_type; writable = true; items = record { offset = 0; item = ItemBytes (255 ∷ 254 ∷ []) } ∷ [] }

abbrev main : FunctionValue
main = record {
  name = External main_name;
  token = 1;
  ty = main_type;
  params = 0;
  locals = [];
  labels = 0;
  named = [];
  body = Block 5 0 0 [] (OneStatement (Return 6 (Some (Node 7 int_type (Number 0)))) NoStatement);
}

abbrev pub tree : ModuleValue
tree = record {
  records = [];
  globals = s ∷ [];
  functions = main ∷ [];
  declared = record { name = s_name; ty = short_type } ∷ record { name = main_name; ty = main_type } ∷ [];
}

abbrev pub home : List ℕ
home = codes "a"

abbrev pub program : Program
program = record { modules = record { name = home; tree = tree } ∷ [] }

-- the objects where `main` is called
abbrev pub things : List Thing
things = record { bytes = B.Num 255 ∷ B.Num 254 ∷ []; live = true; writable = true } ∷ []

-- ---- its object, and what is known of its functions

abbrev pub objects : List Object
objects = record {
  version = 1;
  «module» = home;
  flow = [];
  directives = [];
  declared = [];
  used = [];
  globals = lowered_global home [] s ∷ [];
  functions = record { name = start_name; frame = 64; words = []; fixes = [] } ∷ record { name = main_name; frame = 64; words = []; fixes = [] } ∷ [];
} ∷ []

abbrev pub frames : List FrameInfo
frames = record { function = start_name; frame = 64; saved = []; webs = [] } ∷ record { function = main_name; frame = 64; saved = []; webs = [] } ∷ []

-- ---- images

-- the low byte of s: of -2, and of -3
abbrev pub right_value : ℕ
right_value = 254

abbrev pub wrong_value : ℕ
wrong_value = 253

-- the routines, which stand last in a map and are no matter here
abbrev routine : Function
routine = record { name = []; address = 0; frame = 0 }

-- BL main,2; NOP; BREAK 0,3; and main: BV 0(2); OR 0,0,28
abbrev pub words : List ℕ
words = 3896508424 ∷ 134218304 ∷ 24576 ∷ 3896557568 ∷ 134218332 ∷ []

abbrev pub image : ℕ → Image
image low = record {
  memory = record { entry = 4096; stack = 4096; stack_end = 65536; words = words; data_size = 4; items = record { offset = 0; bytes = 255 ∷ low ∷ 0 ∷ 0 ∷ [] } ∷ [] };
  functions = record { name = start_name; address = 4096; frame = 64 } ∷ record { name = main_name; address = 4108; frame = 64 } ∷ replicate 8 routine;
  globals = record { name = s_name; address = 4120 } ∷ [];
}

-- ---- what is shown

abbrev pub right_lines : List ℕ
right_lines = codes "call 1 main\ns -2\n"

abbrev pub wrong_lines : List ℕ
wrong_lines = codes "call 1 main\ns -3\n"
