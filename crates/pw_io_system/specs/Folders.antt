-- What the calls of a folder that tells its files answer, and what opening comes to.
use Rattle.std.specs.Prelude.{◌≡◌, ◌≢◌, ℕ, ◌==◌, ◌&&◌, Bool, not, List, None, Some, Ok, Err, Option, Result, IfSome, IsSomeAnd, IsErrAnd}
use Rattle.std.specs.List.{list_any}
use Rattle.std.specs.FinMap as finite
use Rattle.std.specs.Fs.{IsDir, file_type}
use Rattle.std.specs.IoError.{error_kind}
use Rattle.std.specs.declared.fs.attrs.Metadata.{Metadata}
use Rattle.std.specs.declared.io.Error.{Error}
use Rattle.std.specs.declared.io.ErrorKind.{ErrorKind}
use Rattle.pw_io.specs.Files.{Told}

-- The folder has a file of the name, and the reader has its bytes before it.
abbrev pub Opens : Option Told → List ℕ → Option (List ℕ) → Type 0
Opens old name remaining =
    IfSome old (λ told. IsSomeAnd (finite.get told.files name) (λ bytes. remaining ≡ Some bytes))

-- A byte is among others.
abbrev pub holds : List ℕ → ℕ → Bool
holds bytes byte = list_any (λ other. other == byte) bytes

-- The name can be that of a file of a folder: it holds neither a `/` nor a zero byte.
abbrev pub can_be_file : List ℕ → Bool
can_be_file name = not (holds name 47) && not (holds name 0)

-- No file has the name.
abbrev pub IsAbsent : Option Told → List ℕ → Type 0
IsAbsent old name = IfSome old (λ told. finite.get told.files name ≡ None)

-- What opening comes to, by what is told of the file that was opened: a folder is not found. The file was there: where the
-- system says otherwise, that is a fault of another kind.
abbrev pub OpensAs : {F : Type 0} → F → Result Metadata Error → Result F Error → Type 0
OpensAs file (Ok metadata) result =
    (IsDir (file_type metadata) → IsErrAnd result (λ e. error_kind e ≡ ErrorKind.NotFound)) × (¬ (IsDir (file_type metadata)) → result ≡ Ok file)
OpensAs file (Err fault) result =
    (error_kind fault ≡ ErrorKind.NotFound → IsErrAnd result (λ e. error_kind e ≡ ErrorKind.Other)) × (error_kind fault ≢ ErrorKind.NotFound → result ≡ Err fault)
