-- The listing of a program: each function of its map with its words.
use Rattle.std.specs.Prelude.{◌≡◌, ℕ, ◌+◌, ◌-◌, ◌*◌, ◌/◌, ◌==◌, List, [], ◌∷◌, ◌++◌, length, take, drop, codes, filter, Result, Ok, Err}
use Rattle.std.specs.Option.{option_map_or}
use Rattle.std.specs.List.Sorted.{IsNonDecreasingBy}
use Rattle.std.specs.Fmt.{decimal}
use Rattle.pw_value.specs.Limits.{text_start}
use Rattle.pw_inst.specs.InstructionTable.{decoded}
use Rattle.pw_inst.specs.Listing.{hexadecimal, listed, parts}
use Rattle.pw_image.specs.declared.image.Function.{Function}
use Rattle.pw_image.specs.declared.image.Image.{Image}
use Rattle.pw_image.specs.Image.{Contents}

-- ---- words

-- the instruction of a word at an address; `?` for a word that is none
abbrev pub instruction : ℕ → ℕ → List ℕ
instruction address word = option_map_or (λ inst. listed inst address) (decoded word) (codes "?")

-- a word's line: its address, the word, its instruction
unfoldable pub word_line : ℕ → ℕ → List ℕ
word_line address word = parts (hexadecimal 8 address ∷ codes " " ∷ hexadecimal 8 word ∷ codes " " ∷ instruction address word ∷ codes "\n" ∷ [])

-- the lines of words that stand from an address on
abbrev pub word_lines : ℕ → List ℕ → List ℕ
word_lines address [] = []
word_lines address (word ∷ words) = word_line address word ++ word_lines (address + 4) words

-- the words from one address up to another
abbrev pub words_between : List ℕ → ℕ → ℕ → List ℕ
words_between words from to = take ((to - from) / 4) (drop ((from - text_start) / 4) words)

-- ---- functions

-- A function's lines: its name and frame, and its words up to an address.
unfoldable pub function_lines : List ℕ → Function → ℕ → List ℕ
function_lines words f end =
    parts (f.name ∷ codes " frame " ∷ decimal f.frame ∷ codes "\n" ∷ word_lines f.address (words_between words f.address end) ∷ [])

-- where the next function's words begin; the last function's words end with the text
abbrev pub next_address : List ℕ → List Function → ℕ
next_address words [] = text_start + 4 * length words
next_address words (f ∷ functions) = f.address

-- the lines of functions, each up to the next one
abbrev pub lines_of : List ℕ → List Function → List ℕ
lines_of words [] = []
lines_of words (f ∷ functions) = function_lines words f (next_address words functions) ++ lines_of words functions

-- The functions in order of address. Those of one address stand as they do in the map.
pub record IsByAddress (functions ordered : List Function) : Type 0 where
  pub rising : IsNonDecreasingBy (λ f. f.address) ordered
  pub each : (address : ℕ) → filter (λ f. f.address == address) ordered ≡ filter (λ f. f.address == address) functions

-- the text is the listing of the image
pub record IsListing (image : Image) (text : List ℕ) : Type 0 where
  pub ordered : List Function
  pub order : IsByAddress image.functions ordered
  pub lines : text ≡ lines_of image.memory.words ordered

-- the text is the listing of the image that reading finds
abbrev pub IsListingOf : Result (Contents Image) ℕ → List ℕ → Type 0
IsListingOf (Ok c) text = IsListing c.value text
IsListingOf (Err at) text = ⊥
