-- The limits of what the compiler takes and makes, and the places of the machine's memory. Each stands
-- here once.
use Rattle.std.specs.Prelude.{ℕ}

-- ---- a module

-- bytes of a name
abbrev pub name_limit : ℕ
name_limit = 400

-- bytes of an object and of every other complete type
abbrev pub size_limit : ℕ
size_limit = 1048576

-- bytes of the shape of a record or of a declared name
abbrev pub shape_limit : ℕ
shape_limit = 4096

-- pointers, arrays, functions and records of a type, one inside the other
abbrev pub depth_limit : ℕ
depth_limit = 200

-- parameters of a function, and arguments of a call
abbrev pub parameter_limit : ℕ
parameter_limit = 127

-- nodes of a function's typed tree
abbrev pub node_limit : ℕ
node_limit = 20000

-- the room of a function, and what the temporaries and slots of its flow graph come to, in bytes
abbrev pub room_limit : ℕ
room_limit = 1048576

-- ---- a program

abbrev pub module_limit : ℕ
module_limit = 256

-- bytes of all modules' texts together
abbrev pub texts_limit : ℕ
texts_limit = 16777216

-- functions, without the library's, but with $start
abbrev pub function_limit : ℕ
function_limit = 4096

-- objects with static lifetime, with those of strings and the hidden ones
abbrev pub global_limit : ℕ
global_limit = 8192

-- bytes of the stack: at least, and at most
abbrev pub stack_least : ℕ
stack_least = 4096

abbrev pub stack_limit : ℕ
stack_limit = 16777216

-- bytes of a kept file that are read, and count as the file
abbrev pub kept_limit : ℕ
kept_limit = 268435456

-- ---- the machine

-- the address at which the text begins
abbrev pub text_start : ℕ
text_start = 4096

-- words of the text
abbrev pub word_limit : ℕ
word_limit = 65536

-- bytes of the memory, at whose end the stack ends at the latest
abbrev pub memory_size : ℕ
memory_size = 67108864
