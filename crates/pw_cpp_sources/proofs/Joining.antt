-- All files of a run, one behind the other.
use Rattle.std.proofs.Common.{◌≡◌, ℕ, ◌+◌, ◌<◌, ◌≤◌, List, [], ◌∷◌, ◌++◌, length, get_or, take, drop, refl, sym, ap, ◌∙◌, append_assoc, length-append, arith}
use Rattle.std.proofs.lemmas.List.{append-nil, at_drop_all, at_drop_more, map-append, take_all, take_more}
use Rattle.std.specs.Global.{Vec}
use Rattle.pw_cpp_sources.specs.Sources.{files_of, names_of, source_behind, source_of, spans_behind, spans_of, texts_of}
use Rattle.pw_cpp_sources.specs.declared.source.Place.{Place}

-- one file more, of as many names as places
files-more : (names : List (List ℕ)) (spans : List Place) (name : List ℕ) (span : Place) → length spans ≡ length names
    → files_of (names ++ name ∷ []) (spans ++ span ∷ []) ≡ files_of names spans ++ record { name = name; from = span.from; end = span.end } ∷ []
files-more [] [] name span l = refl
files-more [] (s ∷ spans) name span l = absurd (omega (arith, l))
files-more (n ∷ names) [] name span l = absurd (omega (arith, l))
files-more (n ∷ names) (s ∷ spans) name span l = ap (λ x. record { name = n; from = s.from; end = s.end } ∷ x) (files-more names spans name span (omega (arith, l)))

-- so many files stand in the source, and the others behind them
pub record AreBehind (files : List (List ℕ × Vec ℕ)) (i : ℕ) (bytes : List ℕ) (spans : List Place) : Type 0 where
  pub bytes_are : source_behind bytes (texts_of (drop i files)) ≡ source_of (texts_of files)
  pub spans_are : files_of (names_of (take i files)) spans ++ spans_behind (length bytes) (texts_of (drop i files)) ≡ spans_of (texts_of files)
  pub count : length spans ≡ length (names_of (take i files))

module _ (files : List (List ℕ × Vec ℕ)) where
  pub behind-start : (bytes : List ℕ) (spans : List Place) → bytes ≡ 48 ∷ 32 ∷ 49 ∷ 32 ∷ [] → spans ≡ [] → AreBehind files 0 bytes spans
  behind-start bytes spans b s = record {
    bytes_are = ap (λ x. source_behind x (texts_of files)) b;
    spans_are = ap (λ x. files_of [] x ++ spans_behind (length bytes) (texts_of files)) s ∙ ap (λ x. spans_behind (length x) (texts_of files)) b;
    count = ap length s;
  }

  module _ (i : ℕ) (bytes : List ℕ) (spans : List Place) (h : AreBehind files i bytes spans) (f : List ℕ × Vec ℕ) (within : i < length files) (is : f ≡ get_or files i f) where
    rest_is : texts_of (drop i files) ≡ (f.0, f.1.items) ∷ texts_of (drop (i + 1) files)
    rest_is = at_drop_more texts_of files i f within ∙ ap (λ x. texts_of (x ∷ drop (i + 1) files)) (sym is)

    front_is : names_of (take (i + 1) files) ≡ names_of (take i files) ++ f.0 ∷ []
    front_is =
        ap names_of (take_more files i f within ∙ ap (λ x. take i files ++ x ∷ []) (sym is))
        ∙ map-append (λ (file : List ℕ × Vec ℕ). file.0) (take i files) (f ∷ [])

    pub behind-more : (bytes' : List ℕ) (spans' : List Place) (span : Place) → bytes' ≡ (bytes ++ 10 ∷ []) ++ f.1.items → spans' ≡ spans ++ span ∷ [] → span.from ≡ length bytes + 1
        → span.end ≡ length bytes' → AreBehind files (i + 1) bytes' spans'
    behind-more bytes' spans' span b s from end = record {
      bytes_are = ap (λ x. source_behind x (texts_of (drop (i + 1) files))) b ∙ ap (source_behind bytes) (sym rest_is) ∙ h.bytes_are;
      spans_are =
          ap (λ x. files_of x spans' ++ spans_behind (length bytes') (texts_of (drop (i + 1) files))) front_is
          ∙ ap (λ x. files_of (names_of (take i files) ++ f.0 ∷ []) x ++ spans_behind (length bytes') (texts_of (drop (i + 1) files))) s
          ∙ ap (λ x. x ++ spans_behind (length bytes') (texts_of (drop (i + 1) files))) (files-more (names_of (take i files)) spans f.0 span h.count)
          ∙ append_assoc (files_of (names_of (take i files)) spans) (record { name = f.0; from = span.from; end = span.end } ∷ []) (spans_behind (length bytes') (texts_of (drop (i + 1) files)))
          ∙ ap (λ x. files_of (names_of (take i files)) spans ++ x) here
          ∙ h.spans_are;
      count = ap length s ∙ length-append spans (span ∷ []) ∙ omega (arith, h.count, ap length front_is, length-append (names_of (take i files)) (f.0 ∷ []));
    }
      where
        size : length bytes' ≡ length bytes + 1 + length f.1.items
        size = ap length b ∙ length-append (bytes ++ 10 ∷ []) f.1.items ∙ ap (λ n. n + length f.1.items) (length-append bytes (10 ∷ []))

        here : record { name = f.0; from = span.from; end = span.end } ∷ spans_behind (length bytes') (texts_of (drop (i + 1) files)) ≡ spans_behind (length bytes) (texts_of (drop i files))
        here =
            ap (λ n. record { name = f.0; from = n; end = span.end } ∷ spans_behind (length bytes') (texts_of (drop (i + 1) files))) from
            ∙ ap (λ n. record { name = f.0; from = length bytes + 1; end = n } ∷ spans_behind (length bytes') (texts_of (drop (i + 1) files))) (end ∙ size)
            ∙ ap (λ n. record { name = f.0; from = length bytes + 1; end = length bytes + 1 + length f.1.items } ∷ spans_behind n (texts_of (drop (i + 1) files))) size
            ∙ ap (spans_behind (length bytes)) (sym rest_is)

  pub behind-all : (i : ℕ) (bytes : List ℕ) (spans : List Place) → length files ≤ i → AreBehind files i bytes spans → (bytes ≡ source_of (texts_of files)) × (files_of (names_of files) spans ≡ spans_of (texts_of files))
  behind-all i bytes spans l h = (
    sym (at_drop_all (λ x. source_behind bytes (texts_of x)) files i l) ∙ h.bytes_are,
    sym (append-nil (files_of (names_of files) spans))
        ∙ ap (λ x. files_of (names_of x) spans ++ []) (sym (take_all i files l))
        ∙ ap (λ x. files_of (names_of (take i files)) spans ++ x) (sym (at_drop_all (λ x. spans_behind (length bytes) (texts_of x)) files i l))
        ∙ h.spans_are,
  )
