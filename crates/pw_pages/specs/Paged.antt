-- A memory as pages of words.
use Rattle.std.specs.Prelude.{ℕ, ◌≡◌, List, length}
use Rattle.std.specs.List.{concat}
use Rattle.pw_pages.specs.Bytes.{bytes_of}

abbrev pub page_words : ℕ
page_words = 1024

abbrev pub IsPage : List ℕ → Type 0
IsPage page = length page ≡ page_words

-- the bytes of the pages, one page after another
unfoldable pub bytes_in : List (List ℕ) → List ℕ
bytes_in pages = bytes_of (concat pages)
