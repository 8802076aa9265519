-- Images that are no build's: in one a function changes a register that calls keep, in the other a global has a wrong value.
use Rattle.std.specs.Prelude.{ℕ, List, [], ◌∷◌, codes, replicate, Some, true, false}
use Rattle.pw_value.specs.ProgramNames.{main_name, start_name}
use Rattle.pw_types.specs.TypeTrees.{Int, Function as FunctionType, QType, Qualified, NoType}
use Rattle.pw_types.specs.declared.kind.IntKind.TheVariants as kind
use Rattle.pw_types.specs.TypedTrees.{External, Node, Number, Block, Return, NoStatement, OneStatement, FunctionValue, GlobalValue, ModuleValue}
use Rattle.pw_image.specs.declared.image.Function.{Function}
use Rattle.pw_image.specs.declared.image.Image.{Image}
use Rattle.pw_cmean.specs.Worlds.{Program}

-- the routines, which stand last in a map and are no matter here
abbrev pub routine : Function
routine = record { name = []; address = 0; frame = 0 }

-- ---- a function that changes register 5

abbrev pub changer_name : List ℕ
changer_name = codes "f"

-- BL f,2; NOP; BREAK 0,3; NOP; and f: LDO 1(0),5; BV 0(2); NOP
abbrev pub changing_words : List ℕ
changing_words = 3896508432 ∷ 134218304 ∷ 24576 ∷ 134218304 ∷ 872742914 ∷ 3896557568 ∷ 134218304 ∷ []

abbrev pub changing : Image
changing = record {
  memory = record { entry = 4096; stack = 4096; stack_end = 65536; words = changing_words; data_size = 0; items = [] };
  functions = record { name = changer_name; address = 4112; frame = 0 } ∷ replicate 8 routine;
  globals = [];
}

-- ---- int n; int main(void){return 0;}

abbrev int_type : QType
int_type = Qualified (Int kind.Int) false false

abbrev main_type : QType
main_type = Qualified (FunctionType int_type NoType) false false

abbrev n_name : List ℕ
n_name = codes "n"

abbrev n : GlobalValue
n = record { name = External n_name; ty = int_type; writable = true; items = [] }

abbrev main : FunctionValue
main = record {
  name = External main_name;
  token = 1;
  ty = main_type;
  params = 0;
  locals = [];
  labels = 0;
  named = [];
  body = Block 5 0 0 [] (OneStatement (Return 6 (Some (Node 7 int_type (Number 0)))) NoStatement);
}

abbrev tree : ModuleValue
tree = record {
  records = [];
  globals = n ∷ [];
  functions = main ∷ [];
  declared = record { name = n_name; ty = int_type } ∷ record { name = main_name; ty = main_type } ∷ [];
}

abbrev pub program : Program
program = record { modules = record { name = codes "a"; tree = tree } ∷ [] }

-- ---- an image in which n is 1 where main is called

-- BL main,2; NOP; BREAK 0,3; and main: BV 0(2); OR 0,0,28
abbrev pub wrong_words : List ℕ
wrong_words = 3896508424 ∷ 134218304 ∷ 24576 ∷ 3896557568 ∷ 134218332 ∷ []

abbrev pub wrong_value : Image
wrong_value = record {
  memory = record { entry = 4096; stack = 4096; stack_end = 65536; words = wrong_words; data_size = 4; items = record { offset = 0; bytes = 0 ∷ 0 ∷ 0 ∷ 1 ∷ [] } ∷ [] };
  functions = record { name = start_name; address = 4096; frame = 64 } ∷ record { name = main_name; address = 4108; frame = 64 } ∷ replicate 8 routine;
  globals = record { name = n_name; address = 4120 } ∷ [];
}
