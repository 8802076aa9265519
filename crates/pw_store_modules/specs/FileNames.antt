-- The names of the files of a program: its database and its image, and the files of each module by their endings.
use Rattle.std.specs.Prelude.{ℕ, List, ◌++◌, codes}

-- the database of directives
abbrev pub database_name : List ℕ
database_name = codes "prog.db"

-- the image, which the machine runs
abbrev pub image_name : List ℕ
image_name = codes "prog.img"

-- ---- how the names of a module's files end

-- its text
abbrev pub text_ending : List ℕ
text_ending = codes ".i"

-- its flow graph
abbrev pub flow_ending : List ℕ
flow_ending = codes ".flow"

-- its summary
abbrev pub summary_ending : List ℕ
summary_ending = codes ".sum"

-- its object
abbrev pub object_ending : List ℕ
object_ending = codes ".obj"

-- ---- the files of a module

abbrev pub text_name : List ℕ → List ℕ
text_name name = name ++ text_ending

abbrev pub flow_name : List ℕ → List ℕ
flow_name name = name ++ flow_ending

abbrev pub summary_name : List ℕ → List ℕ
summary_name name = name ++ summary_ending

abbrev pub object_name : List ℕ → List ℕ
object_name name = name ++ object_ending
