-- Files of a run: where they stand in one source, and which of them are headers.
use Rattle.std.specs.Prelude.{◌≡◌, ℕ, ◌+◌, ◌-◌, ◌≤◌, Bool, false, ◌&&◌, ◌||◌, ◌==◌, if◌then◌else◌, nat_le, nat_lt, List, [], ◌∷◌, ◌++◌, take, drop, length, map, codes, bytes_eq, Option, Some, None}
use Rattle.std.specs.Global.{Vec}
use Rattle.std.specs.List.{list_any}
use Rattle.pw_token.specs.Places.{line_at}
use Rattle.pw_token.specs.declared.token.Token.{Token}
use Rattle.pw_token.specs.declared.token.TokenKind.TheVariants as token
use Rattle.pw_cpp_directives.specs.declared.condition.Digits.{Digits}
use Rattle.pw_cpp_sources.specs.declared.source.Place.{Place}

-- ---- files

-- a file: its name, and where it stands in the source, in which all files stand one behind the other
pub record File : Type 0 where
  pub name : List ℕ
  pub from : ℕ
  pub end : ℕ

-- the source up to the end of a file, so that places of the file are places of the source
abbrev pub text_of : List ℕ → File → List ℕ
text_of source file = take file.end source

abbrev pub size_of : File → ℕ
size_of file = file.end - file.from

abbrev pub file_named : List File → List ℕ → Option File
file_named [] name = None
file_named (file ∷ others) name = if bytes_eq name file.name then Some file else file_named others name

-- ---- headers

abbrev pub depth_limit : ℕ
depth_limit = 16

abbrev pub header_name_limit : ℕ
header_name_limit = 400

abbrev pub length_limit : ℕ
length_limit = 1048576

abbrev pub ends_in : List ℕ → List ℕ → Bool
ends_in name ending = nat_le (length ending) (length name) && bytes_eq (drop (length name - length ending) name) ending

abbrev pub has_gap : List ℕ → Bool
has_gap name = list_any (λ b. b == 32 || b == 10) name

-- at most 400 bytes, the last two `.h`, and neither a space nor a newline
abbrev pub is_header : List ℕ → Bool
is_header name = if nat_lt header_name_limit (length name) || has_gap name then false else ends_in name (codes ".h")

-- the header that an include names
abbrev pub header_of : List File → List ℕ → Option File
header_of files name = if is_header name then file_named files name else None

-- the line of a place of a file, counted from 1
abbrev pub line_of : List ℕ → File → ℕ → ℕ
line_of source file place = line_at (take (size_of file) (drop file.from source)) (place - file.from)

-- ---- files as they are given

-- where files stand in the source, with their names
abbrev pub files_of : List (List ℕ) → List Place → List File
files_of (name ∷ names) (span ∷ spans) = record { name = name; from = span.from; end = span.end } ∷ files_of names spans
files_of _ _ = []

abbrev pub names_of : List (List ℕ × Vec ℕ) → List (List ℕ)
names_of files = map (λ file. file.0) files

-- the places of a file
abbrev pub IsPlaceOf : File → ℕ → Type 0
IsPlaceOf file place = (file.from ≤ place) × (place ≤ file.end)

-- the tokens of the digits, which stand before all files
abbrev pub digit : ℕ → Token
digit at = record { kind = token.Number; at = at; len = 1 }

abbrev pub digits_of : Digits
digits_of = record { zero = digit 0; one = digit 2 }

-- files by their names and their bytes
abbrev pub Texts : Type 0
Texts = List (List ℕ × List ℕ)

abbrev pub texts_of : List (List ℕ × Vec ℕ) → Texts
texts_of files = map (λ file. (file.0, file.1.items)) files

-- all files one behind the other, a newline before each, behind what is there
abbrev pub source_behind : List ℕ → Texts → List ℕ
source_behind before [] = before
source_behind before (file ∷ files) = source_behind (before ++ 10 ∷ [] ++ file.1) files

abbrev pub source_of : Texts → List ℕ
source_of files = source_behind (codes "0 1 ") files

-- and where each stands, behind so many bytes
abbrev pub spans_behind : ℕ → Texts → List File
spans_behind before [] = []
spans_behind before (file ∷ files) =
    record { name = file.0; from = before + 1; end = before + 1 + length file.1 } ∷ spans_behind (before + 1 + length file.1) files

abbrev pub spans_of : Texts → List File
spans_of files = spans_behind 4 files

-- a file of this name is there
abbrev pub IsThere : Texts → List ℕ → Type 0
IsThere files name = (file : File) × (file_named (spans_of files) name ≡ Some file)
