-- A file that is read line by line.
use Rattle.std.proofs.Common.{◌≡◌, ℕ, ◌+◌, ◌-◌, ◌<◌, ◌≤◌, List, [], ◌∷◌, ◌++◌, length, reverse, take, Option, Some, Result, Ok, Err, inl, inr, ◌⊎◌, refl, sym, ap, ◌∙◌, subst, arith}
use Rattle.std.proofs.lemmas.List.{length-reverse, nil_from_length, reverse-reverse}
use Rattle.std.specs.Prelude.{slice_get}
use Rattle.pw_cpp.specs.Answers.{AnswersFile, AnswersStep, DoesLine, IsAt, IsFirst, IsRead, IsStill, Keeps, StandsAs, reads_of}
use Rattle.pw_cpp.specs.Files as file
use Rattle.pw_cpp.specs.Files.{Faulted, GoesOn, Read, Reading, ReadsFile, ReadsLines, Result_of, Stops, begins, ended_in, with_standing}
use Rattle.pw_cpp.specs.declared.reader.Reader.{Reader}
use Rattle.pw_cpp.proofs.Headers.{file-at}
use Rattle.pw_cpp_directives.specs.Directives.{Standing, fault, standing}
use Rattle.pw_cpp_directives.specs.Groups.{Sections}
use Rattle.pw_cpp_directives.specs.Obeying.{standing_of}
use Rattle.pw_cpp_directives.specs.declared.condition.Digits.{Digits}
use Rattle.pw_cpp_directives.specs.declared.directive.Fault.{Fault}
use Rattle.pw_cpp_directives.specs.declared.fault.CppKind.TheVariants as kind
use Rattle.pw_cpp_directives.specs.declared.fault.CppWhich.TheVariants as which
use Rattle.pw_cpp_sources.specs.Sources.{File, digits_of, file_named, files_of, length_limit, names_of, size_of, text_of}
use Rattle.pw_cpp_sources.specs.Rows.{output_of}
use Rattle.pw_cpp_sources.specs.declared.source.Place.{Place}

-- The lines of a file from a place on come to what the file comes to.
abbrev pub LeadsFrom : Reader → Reader → List ℕ → ℕ → ℕ → ℕ → Type 0
LeadsFrom start now text number depth at =
    (f : File) → slice_get (reads_of start) number ≡ Some f → IsFirst start f
    → IsRead now f text
    × ((r : Reading) → StandsAs start r
    → (s : Reading) × StandsAs now s
    × ((found : Result_of) → ReadsLines start.source.now (reads_of start) digits_of depth f at s found → ReadsFile start.source.now (reads_of start) digits_of depth f r found))

module _ (start : Reader) (number depth : ℕ) (span : Place) (there : slice_get start.spans.now number ≡ Some span) where
  abbrev pub Reads : File → Reading → Result_of → Type 0
  Reads f = ReadsFile start.source.now (reads_of start) digits_of depth f

  place_of : (f : File) → slice_get (reads_of start) number ≡ Some f → (f.from ≡ span.from) × (f.end ≡ span.end)
  place_of f e = file-at (names_of start.files.now) start.spans.now number span f there e

  -- a file that is too long
  pub reads-long : (now : Reader) → reads_of now ≡ reads_of start → now.file ≡ number → length_limit < span.end - span.from → (found : Fault)
      → found ≡ fault (kind.Limit which.Length (length_limit + 1)) span.from → (f : File) → slice_get (reads_of start) number ≡ Some f → IsFirst start f → AnswersFile start now (Reads f) (Err found)
  reads-long now same here l found is f e first =
      let place = place_of f e in
      inr (
        f,
        (
          subst (λ x. slice_get x now.file ≡ Some f) (sym same) (subst (λ n. slice_get (reads_of start) n ≡ Some f) (sym here) e),
          subst (λ x. file_named x f.name ≡ Some f) (sym same) first,
        ),
        (λ r st. file.too_long depth f r (Faulted f.name found) (omega (arith, l, place.0, place.1)) (ap (Faulted f.name) (is ∙ ap (fault (kind.Limit which.Length (length_limit + 1))) (sym place.0)))),
      )

  -- the first line
  pub reads-start : (now : Reader) → reads_of now ≡ reads_of start → now.file ≡ number → now.source.now ≡ start.source.now → now.out.items ≡ start.out.items → now.size ≡ start.size → now.standing ≡ start.standing
      → start.standing.sections ≡ [] → span.end - span.from ≤ length_limit → (text : List ℕ) → text ≡ take span.end start.source.now → LeadsFrom start now text number depth span.from
  reads-start now same here source out size stand bare l text text_is = λ f e first.
      let place = place_of f e in (
        (
          (
            subst (λ x. slice_get x now.file ≡ Some f) (sym same) (subst (λ n. slice_get (reads_of start) n ≡ Some f) (sym here) e),
            subst (λ x. file_named x f.name ≡ Some f) (sym same) first,
          ),
          text_is ∙ ap (λ n. take n start.source.now) (sym place.1) ∙ ap (take f.end) (sym source),
        ),
        (λ r st. (
          r,
          record {
            standing_is = st.standing_is ∙ ap standing_of (sym stand);
            nested_is = st.nested_is ∙ ap (λ x. reverse x.nested) (sym stand);
            out_is = ap (λ x. output_of x r.out) source ∙ st.out_is ∙ sym out;
            size_is = st.size_is ∙ sym size;
          },
          (λ found lines.
              file.whole depth f r found (omega (arith, l, place.0, place.1))
              (subst (λ x. ReadsLines start.source.now (reads_of start) digits_of depth f f.from x found) (bare_as r st)
              (subst (λ n. ReadsLines start.source.now (reads_of start) digits_of depth f n r found) (sym place.0) lines))),
        )),
      )
    where
      bare_as : (r : Reading) → StandsAs start r → r ≡ with_standing r (begins [] r.standing_is)
      bare_as r st = ap (λ x. with_standing r (standing r.standing_is.macros x r.standing_is.produced)) (ap (λ x. x.sections) st.standing_is ∙ ap reverse bare)

  -- ---- a line

  module _ (now : Reader) (keeps : Keeps start now) (text : List ℕ) (at : ℕ) (leads : LeadsFrom start now text number depth at) where
    same_files : reads_of now ≡ reads_of start
    same_files = ap (λ x. files_of (names_of x) now.spans.now) keeps.1 ∙ ap (files_of (names_of start.files.now)) keeps.2

    abbrev pub Line : File → Reading → file.Step → Type 0
    Line f = DoesLine now.source.now (reads_of now) digits_of depth f at

    -- what a line does in the reader's files it does in those that it began with
    line_in : (f : File) (r : Reading) (step : file.Step) → Line f r step → DoesLine start.source.now (reads_of start) digits_of depth f at r step
    line_in f r step h =
        subst (λ x. DoesLine x (reads_of start) digits_of depth f at r step) keeps.0 (subst (λ x. DoesLine now.source.now x digits_of depth f at r step) same_files h)

    text_in : (f : File) → IsRead now f text → text ≡ text_of start.source.now f
    text_in f read = read.1 ∙ ap (λ x. text_of x f) keeps.0

    pub reads-on : at < length text → (new : Reader) → Keeps now new → (next : ℕ) → ((f : File) → IsRead now f text → AnswersStep now new (Line f) (Ok next)) → LeadsFrom start new text number depth next
    reads-on l new kept next h = λ f e first.
        let before = leads f e first in
        let step = h f before.0 in (
          at_new f before.0 step.0,
          (λ r st.
              let here = before.1 r st in
              let done = step.1 here.0 here.1 in (
                done.0,
                done.1,
                (λ found lines.
                    let line = line_in f here.0 (GoesOn next done.0) done.2 in
                    here.2 found
                    (file.line depth f at here.0 line.0 (GoesOn next done.0) found (subst (λ x. at < length x) (text_in f before.0) l) line.1 line.2 (file.goes_on depth f next done.0 found lines))),
              )),
        )
      where
        at_new : (f : File) → IsRead now f text → new.file ≡ now.file → IsRead new f text
        at_new f read number_is =
            let files : reads_of new ≡ reads_of now = ap (λ x. files_of (names_of x) new.spans.now) kept.1 ∙ ap (files_of (names_of now.files.now)) kept.2 in (
              (
                subst (λ x. slice_get x new.file ≡ Some f) (sym files) (subst (λ n. slice_get (reads_of now) n ≡ Some f) (sym number_is) read.0.0),
                subst (λ x. file_named x f.name ≡ Some f) (sym files) read.0.1,
              ),
              read.1 ∙ ap (λ x. text_of x f) (sym kept.0),
            )

    pub reads-fault : at < length text → (new : Reader) (found : Fault) → ((f : File) → IsRead now f text → AnswersStep now new (Line f) (Err found)) → (f : File) → slice_get (reads_of start) number ≡ Some f
        → IsFirst start f → AnswersFile start new (Reads f) (Err found)
    reads-fault l new found h f e first = by (h f (leads f e first).0)
      where
        by : AnswersStep now new (Line f) (Err found) → AnswersFile start new (Reads f) (Err found)
        by (inl m) = inl m
        by (inr x) = inr (
          x.0,
          x.1,
          (λ r st.
              let here = (leads f e first).1 r st in
              let line = line_in f here.0 (Stops x.0.name found) (x.2 here.0 here.1) in
              here.2 (Faulted x.0.name found)
              (file.line depth f at here.0 line.0 (Stops x.0.name found) (Faulted x.0.name found) (subst (λ z. at < length z) (text_in f (leads f e first).0) l) line.1 line.2
              (file.stops depth f x.0.name found))),
        )

    -- ---- the end

    ends_as : length text ≤ at → (f : File) → IsRead now f text → (s : Reading) → StandsAs now s → (found : Result_of) → found ≡ ended_in f s (reverse now.standing.sections)
        → ReadsLines start.source.now (reads_of start) digits_of depth f at s found
    ends_as l f read s st found is =
        file.ends depth f at s found (subst (λ x. length x ≤ at) (text_in f read) l) (is ∙ ap (λ x. ended_in f s x.sections) (sym st.standing_is))

    pub reads-end : length text ≤ at → now.standing.sections ≡ [] → (done : Unit {0}) (f : File) → slice_get (reads_of start) number ≡ Some f → IsFirst start f → AnswersFile start now (Reads f) (Ok done)
    reads-end l none done f e first = λ r st.
        let here = (leads f e first).1 r st in
        (here.0, here.1, here.2 (Read here.0) (ends_as l f (leads f e first).0 here.0 here.1 (Read here.0) (sym (ap (λ x. ended_in f here.0 (reverse x)) none))))

    pub reads-open : length text ≤ at → (now.standing.sections ≡ [] → ⊥) → (found : Fault) → found ≡ fault kind.Condition span.end → (f : File) → slice_get (reads_of start) number ≡ Some f → IsFirst start f
        → AnswersFile start now (Reads f) (Err found)
    reads-open l some found is f e first = inr (
      f,
      (leads f e first).0.0,
      (λ r st.
          let here = (leads f e first).1 r st in
          here.2 (Faulted f.name found)
          (ends_as l f (leads f e first).0 here.0 here.1 (Faulted f.name found)
          (ap (Faulted f.name) (is ∙ ap (fault kind.Condition) (sym (place_of f e).1)) ∙ open_in here.0 (reverse now.standing.sections) (λ x. some (sym (reverse-reverse now.standing.sections) ∙ ap reverse x))))),
    )
      where
        open_in : (s : Reading) (sections : Sections) → (sections ≡ [] → ⊥) → Faulted f.name (fault kind.Condition f.end) ≡ ended_in f s sections
        open_in s [] none = absurd (none refl)
        open_in s (x ∷ sections) none = refl
