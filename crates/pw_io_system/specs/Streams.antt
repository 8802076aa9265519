-- What the library's readers and writers tell of the bytes that a stream passes on.
use Rattle.std.specs.Prelude.{ℕ, ◌<◌, List, length, take, Option}
use Rattle.std.specs.Io.KnownBytes.{Appends}

-- A writer that tells what it holds goes on telling, and a proper prefix of the piece was appended, which may be empty.
abbrev pub AppendsPrefix : Option (List ℕ) → Option (List ℕ) → List ℕ → Type 0
AppendsPrefix old new piece = (n : ℕ) × (n < length piece) × Appends old new (take n piece)
