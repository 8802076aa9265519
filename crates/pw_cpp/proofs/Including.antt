-- An include, by what its calls answer.
use Rattle.std.proofs.Common.{◌≡◌, ℕ, ◌+◌, ◌<◌, Bool, true, false, List, [], length, if◌then◌else◌, Option, Some, None, Result, Ok, Err, inl, inr, refl, sym, ap, ◌∙◌, subst}
use Rattle.std.proofs.lemmas.Bool.{false≢true}
use Rattle.std.specs.Global.{Vec}
use Rattle.std.specs.Prelude.{is_some, nat_lt, slice_get}
use Rattle.pw_cpp.specs.Answers.{AnswersStep, DoesInclude, DoesQuoted, IsAt, IsFirst, IsLexed, IsRead, IsUnquoted, StandsAs, number_from, reads_of}
use Rattle.pw_cpp.specs.Files as file
use Rattle.pw_cpp.specs.Files.{Includes, IncludesHeader, IncludesQuoted, Reading, Step, Stops, is_wrong_include, name_of, quoted_name}
use Rattle.pw_cpp.specs.declared.reader.Reader.{Reader}
use Rattle.pw_cpp.proofs.Bounds.{header-start, header-within}
use Rattle.pw_cpp.proofs.Headers.{IsNumbered, number-found, number-missing}
use Rattle.pw_cpp.proofs.Lines.{step-as}
use Rattle.pw_cpp_directives.specs.Directives.{fault}
use Rattle.pw_cpp_directives.specs.Obeying.{IsFaultOf}
use Rattle.pw_cpp_directives.specs.declared.condition.Digits.{Digits}
use Rattle.pw_cpp_directives.specs.declared.directive.Fault.{Fault}
use Rattle.pw_cpp_directives.specs.declared.fault.CppKind.TheVariants as kind
use Rattle.pw_cpp_lines.specs.Heads.{header_name}
use Rattle.pw_cpp_lines.specs.Lines.{Lexes, PassesSpace}
use Rattle.pw_cpp_lines.specs.declared.head.Span.{Span}
use Rattle.pw_cpp_lines.specs.declared.line.Line.{Line}
use Rattle.pw_cpp_lines.specs.declared.line.LineFault.{LineFault}
use Rattle.pw_cpp_lines.specs.declared.line.LineFault.TheVariants as bad
use Rattle.pw_cpp_sources.specs.Sources.{File, file_named, files_of, header_of, is_header, names_of, text_of}
use Rattle.pw_cpp_sources.specs.declared.source.Place.{Place}

-- a name in quotes ends before a quote
pub quoted-within : (text : List ℕ) (start : ℕ) (x : Span) → Some x ≡ quoted_name text start → x.at + x.len < length text
quoted-within text start x e = by (nat_lt start (length text)) (sym e)
  where
    by : (b : Bool) → (if b then header_name text start else None) ≡ Some x → x.at + x.len < length text
    by true e = header-within text start x e
    by false e = absurd (false≢true (ap is_some e))

-- and begins behind the opening one
pub quoted-start : (text : List ℕ) (start : ℕ) (x : Span) → Some x ≡ quoted_name text start → x.at ≡ start + 1
quoted-start text start x e = by (nat_lt start (length text)) (sym e)
  where
    by : (b : Bool) → (if b then header_name text start else None) ≡ Some x → x.at ≡ start + 1
    by true e = header-start text start x e
    by false e = absurd (false≢true (ap is_some e))

module _ (old : Reader) (f : File) (text : List ℕ) (read : IsRead old f text) (digits : Digits) (depth hash : ℕ) where
  -- ---- the quotes

  module _ (name : Span) (start : ℕ) (space : PassesSpace text (name.at + name.len) start) where
    abbrev pub DoesThis : Reading → Step → Type 0
    DoesThis = DoesInclude old.source.now (reads_of old) digits depth f hash name

    includes_in : (quoted : Option Span) → quoted ≡ quoted_name text start → (r : Reading) (step : Step) → Includes old.source.now (reads_of old) digits depth f r hash (name.at + name.len) quoted step → DoesThis r step
    includes_in quoted e r step h =
        let P : Option Span → Type 0 = λ z. Includes old.source.now (reads_of old) digits depth f r hash (name.at + name.len) z step in
        (start, subst (λ t. PassesSpace t (name.at + name.len) start) read.1 space, subst P (e ∙ ap (λ t. quoted_name t start) read.1) h)

    pub include-unquoted : None ≡ quoted_name text start → (found : Fault) → IsUnquoted text hash (name.at + name.len) found → AnswersStep old old DoesThis (Err found)
    include-unquoted e found (inl m) = inl m
    include-unquoted e found (inr x) = inr (
      f,
      read.0,
      (λ r st.
          includes_in None e r (Stops f.name found)
          (file.unquoted depth f r hash (name.at + name.len) x.0 (Stops f.name found) (subst (λ t. Lexes t (name.at + name.len) x.0) read.1 x.1) (x.2 f))),
    )

    pub include-quoted : (x : Span) → Some x ≡ quoted_name text start → (new : Reader) (result : Result ℕ Fault) → AnswersStep old new (DoesQuoted old.source.now (reads_of old) digits depth f hash x) result
        → AnswersStep old new DoesThis result
    include-quoted x e new result =
        step-as old new (DoesQuoted old.source.now (reads_of old) digits depth f hash x) DoesThis
        (λ r step st d. includes_in (Some x) e r step (file.quoted depth f r hash (name.at + name.len) x d.0 step d.1 d.2)) result

  -- ---- the name in them

  module _ (x : Span) where
    abbrev pub DoesName : Reading → Step → Type 0
    DoesName = DoesQuoted old.source.now (reads_of old) digits depth f hash x

    pub quoted-unlexed : (found : Fault) → IsLexed text (x.at + x.len + 1) (Err found) → AnswersStep old old DoesName (Err found)
    quoted-unlexed found (inl m) = inl m
    quoted-unlexed found (inr l) = inr (
      f,
      read.0,
      (λ r st. (
        Err (bad.Bad l.0),
        subst (λ t. Lexes t (x.at + x.len + 1) (Err (bad.Bad l.0))) read.1 l.1,
        file.no_rest depth f r hash x (bad.Bad l.0) (Stops f.name found) (ap (Stops f.name) l.2),
      )),
    )

    module _ (line : Line) (lexes : Lexes text (x.at + x.len + 1) (Ok line)) where
      name_as : (r : Reading) (step : Step) → IncludesQuoted old.source.now (reads_of old) digits depth f r hash x (Ok line) step → DoesName r step
      name_as r step h = (Ok line, subst (λ t. Lexes t (x.at + x.len + 1) (Ok line)) read.1 lexes, h)

      pub quoted-wrong : is_wrong_include x line ≡ true → (found : Fault) → found ≡ fault kind.Directive hash → AnswersStep old old DoesName (Err found)
      quoted-wrong w found is = subst (λ z. AnswersStep old old DoesName (Err z)) (sym is)
          (inr (f, read.0, (λ r st. name_as r (Stops f.name (fault kind.Directive hash)) (file.wrong depth f r hash x line w))))

      module _ (right : is_wrong_include x line ≡ false) (word : List ℕ) (word_is : word ≡ name_of text x) where
        word_in : word ≡ name_of (text_of old.source.now f) x
        word_in = word_is ∙ ap (λ t. name_of t x) read.1

        named_as : (r : Reading) (step : Step) (header : Option File) → header_of (reads_of old) word ≡ header
            → IncludesHeader old.source.now (reads_of old) digits depth f r hash line.next word header step → DoesName r step
        named_as r step header e h =
            let P : Option File → Type 0 = λ z. IncludesHeader old.source.now (reads_of old) digits depth f r hash line.next word z step in
            let Q : List ℕ → Type 0 = λ w. IncludesHeader old.source.now (reads_of old) digits depth f r hash line.next w (header_of (reads_of old) w) step in
            name_as r step (file.named depth f r hash x line step right (subst Q word_in (subst P (sym e) h)))

        pub quoted-missing : None ≡ (if is_header word then number_from 0 old.files.now word else None) → (found : Fault) → IsFaultOf found (λ z. z ≡ fault (kind.Include word) hash) → AnswersStep old old DoesName (Err found)
        quoted-missing e found (inl m) = inl m
        quoted-missing e found (inr is) = subst (λ z. AnswersStep old old DoesName (Err z)) (sym is)
            (inr (f, read.0, (λ r st. named_as r (Stops f.name (fault (kind.Include word) hash)) None (none_is (is_header word) e) (file.no_header depth f r hash line.next word))))
          where
            none_is : (b : Bool) → None ≡ (if b then number_from 0 old.files.now word else None) → (if b then file_named (reads_of old) word else None) ≡ None
            none_is true e = number-missing old.files.now old.spans.now word e
            none_is false e = refl

        module _ (matched : length old.files.now ≡ length old.spans.now) (n : ℕ) (e : Some n ≡ (if is_header word then number_from 0 old.files.now word else None)) where
          numbered : (b : Bool) → Some n ≡ (if b then number_from 0 old.files.now word else None) → IsNumbered (reads_of old) word n
          numbered true e = number-found old.files.now old.spans.now word n matched e
          numbered false e = absurd (false≢true (sym (ap is_some e)))

          pub inner : IsNumbered (reads_of old) word n
          inner = numbered (is_header word) e

          header_is : (b : Bool) → Some n ≡ (if b then number_from 0 old.files.now word else None) → file_named (reads_of old) word ≡ Some inner.it → (if b then file_named (reads_of old) word else None) ≡ Some inner.it
          header_is true e h = h
          header_is false e h = absurd (false≢true (sym (ap is_some e)))

          first_is : IsFirst old inner.it
          first_is = ap (file_named (reads_of old)) (sym inner.name_is) ∙ inner.named

          pub quoted-found : (new : Reader) (result : Result ℕ Fault)
              → ((g it : File) (name : List ℕ) → IsAt old g → slice_get (reads_of old) n ≡ Some it → IsFirst old it
              → AnswersStep old new (λ r step. IncludesHeader old.source.now (reads_of old) digits depth g r hash line.next name (Some it) step) result)
              → AnswersStep old new DoesName result
          quoted-found new result h =
              step-as old new (λ r step. IncludesHeader old.source.now (reads_of old) digits depth f r hash line.next word (Some inner.it) step) DoesName
              (λ r step st d. named_as r step (Some inner.it) (header_is (is_header word) e inner.named) d) result
              (h f inner.it word read.0 inner.there first_is)

-- a line that does not lex
pub unlexed-unquoted : (text : List ℕ) (hash behind : ℕ) (found : Fault) → IsLexed text behind (Err found) → IsUnquoted text hash behind found
unlexed-unquoted text hash behind found (inl m) = inl m
unlexed-unquoted text hash behind found (inr l) = inr (Err (bad.Bad l.0), l.1, (λ f. ap (Stops f.name) l.2))
