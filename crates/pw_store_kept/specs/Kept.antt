-- What a store keeps of builds before.
use Rattle.std.specs.Prelude.{ℕ, Bool, false, List, Option, Some, None, Result, Ok, Err}
use Rattle.std.specs.Str.{bytes_eq}
use Rattle.std.specs.FinMap as finite
use Rattle.pw_io.specs.Files.{Files, prefix_of}
use Rattle.pw_value.specs.Limits.{kept_limit}
use Rattle.pw_files.specs.Contents.{value_of}
use Rattle.pw_object.specs.declared.object.Object.{Object}
use Rattle.pw_object.specs.Reading.{object_file_at}
use Rattle.pw_store_modules.specs.FileNames.{object_name}

-- of a kept file so many bytes are read, and count as the file
abbrev pub counted : Option (List ℕ) → Option (List ℕ)
counted None = None
counted (Some bytes) = Some (prefix_of kept_limit bytes)

-- the bytes of a kept file, as far as they count
abbrev pub kept_bytes : Files → List ℕ → Option (List ℕ)
kept_bytes files name = counted (finite.get files name)

abbrev pub if_object : Result Object ℕ → Option Object
if_object (Ok object) = Some object
if_object (Err at) = None

-- the object whose file the bytes are; bytes that are no object's file count as none
abbrev pub object_in : Option (List ℕ) → Option Object
object_in None = None
object_in (Some bytes) = if_object (value_of (object_file_at bytes))

-- the object that is kept of the module of a name
abbrev pub kept_object : Files → List ℕ → Option Object
kept_object files name = object_in (kept_bytes files (object_name name))

-- the file is there, and has these bytes
abbrev pub is_same : Option (List ℕ) → List ℕ → Bool
is_same None bytes = false
is_same (Some old) bytes = bytes_eq old bytes
