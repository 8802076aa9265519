-- The bytes of texts, one after another.
use Rattle.std.proofs.Common.{◌≡◌, ℕ, ◌+◌, List, [], ◌∷◌, length, Option, Some, None, sym, ap, ◌∙◌, subst, arith}
use Rattle.std.specs.Prelude.{IfSome}
use Rattle.std.specs.Global.{Vec}
use Rattle.std.proofs.lemmas.List.Sums.{sum_by-cons}
use Rattle.pw_cpp_sources.specs.Sources.{Texts}
use Rattle.pw_io.specs.Files.{Keeps, Told}
use Rattle.pw_store_sources.specs.Bytes.{bytes_of}
use Rattle.pw_store_sources.specs.Headers.{headers_among}
use Rattle.pw_store_sources.specs.Sources.{preprocessed_bytes, sources_among}

-- a header with its text
abbrev pub header_text : List ℕ × Vec ℕ → List ℕ × List ℕ
header_text header = (header.0, header.1.items)

pub sum_step : (old more new here rest left all : ℕ) → old + left ≡ all → left ≡ here + rest → more ≡ here → new ≡ old + more → new + rest ≡ all
sum_step old more new here rest left all a b c d = omega (arith, a, b, c, d)

pub sum_none : (n s all : ℕ) → n + s ≡ all → s ≡ 0 → n ≡ all
sum_none n s all e z = omega (arith, e, z)

-- the bytes so far, with those of the texts that are left, are all
pub bytes_turn : (text : List ℕ × List ℕ) (left rest : Texts) (old more new all : ℕ) → old + bytes_of left ≡ all → left ≡ text ∷ rest → more ≡ length text.1 → new ≡ old + more → new + bytes_of rest ≡ all
bytes_turn text left rest old more new all inv e m n =
    sum_step old more new (length text.1) (bytes_of rest) (bytes_of left) all inv (ap bytes_of e ∙ sum_by-cons (λ t. length t.1) text rest) m n

pub bytes_end : (left : Texts) (bytes all : ℕ) → left ≡ [] → bytes + bytes_of left ≡ all → bytes ≡ all
bytes_end left bytes all e inv = sum_none bytes (bytes_of left) all inv (ap bytes_of e)

-- of the C sources and headers that were read, one behind the other
pub bytes_read : (first second : Option Told) (names : List (List ℕ)) (sources headers : Texts) (bytes : ℕ) → Keeps first second → IfSome first (λ t. sources ≡ sources_among t.files names)
    → IfSome second (λ t. headers ≡ headers_among t.files names) → bytes ≡ bytes_of sources + bytes_of headers → IfSome first (λ t. bytes ≡ preprocessed_bytes t.files names)
bytes_read None second names sources headers bytes k s h e = tt
bytes_read (Some t) second names sources headers bytes k s h e =
    let P : Option Told → Type 0 = λ o. IfSome o (λ u. headers ≡ headers_among u.files names) in
    e ∙ ap (λ (ss : Texts). bytes_of ss + bytes_of headers) s ∙ ap (λ (hs : Texts). bytes_of (sources_among t.files names) + bytes_of hs) (subst P k h)
