-- The preprocessor as a whole.
use Rattle.std.proofs.Common.{◌≡◌, ℕ, zero, suc, ◌-◌, ◌≤◌, true, false, List, [], ◌∷◌, length, map, take, drop, Option, Some, None, Result, Ok, Err, inl, inr, ◌⊎◌, refl, sym, ap, ◌∙◌, subst}
use Rattle.std.proofs.lemmas.Bool.{false≢true}
use Rattle.std.specs.Global.{Vec}
use Rattle.std.specs.Prelude.{is_some, slice_get}
use Rattle.pw_token.specs.Places.{line_at}
use Rattle.pw_cpp.specs.Answers.{AnswersFile, AnswersReading, IsAt, IsFirst, Keeps, StandsAs, number_from, reads_of}
use Rattle.pw_cpp.specs.Files as file
use Rattle.pw_cpp.specs.Files.{Faulted, Preprocesses, Read, Reading, ReadsFile, Result_of, at_first}
use Rattle.pw_cpp.specs.declared.fault.CppFault.{CppFault}
use Rattle.pw_cpp.specs.declared.reader.Reader.{Reader}
use Rattle.pw_cpp.proofs.Headers.{IsNumbered, number-missing}
use Rattle.pw_cpp_directives.specs.Obeying.{IsFaultOf}
use Rattle.pw_cpp_directives.specs.declared.condition.Digits.{Digits}
use Rattle.pw_cpp_directives.specs.declared.directive.Fault.{Fault}
use Rattle.pw_cpp_sources.specs.Rows.{output_of}
use Rattle.pw_cpp_sources.specs.Sources.{File, Texts, file_named, files_of, line_of, names_of, size_of}
use Rattle.pw_cpp_sources.specs.declared.source.Place.{Place}

-- ---- where a fault stands

-- a file is its name and its place
pub file-of : (files : List (List ℕ × Vec ℕ)) (spans : List Place) (n : ℕ) (x : List ℕ × Vec ℕ) (span : Place) (f : File) → slice_get files n ≡ Some x → slice_get spans n ≡ Some span
    → slice_get (files_of (names_of files) spans) n ≡ Some f → f ≡ record { name = x.0; from = span.from; end = span.end }
file-of [] spans n x span f a b e = absurd (false≢true (ap is_some a))
file-of (y ∷ files) [] n x span f a b e = absurd (false≢true (ap is_some b))
file-of (y ∷ files) (s ∷ spans) zero x span f a b e =
    sym (ap (file_or f) e)
    ∙ ap (λ z. record { name = z.0; from = s.from; end = s.end }) (ap (pair_or x) a)
    ∙ ap (λ z. record { name = x.0; from = z.from; end = z.end }) (ap (place_or span) b)
  where
    file_or : File → Option File → File
    file_or d (Some z) = z
    file_or d None = d

    pair_or : List ℕ × Vec ℕ → Option (List ℕ × Vec ℕ) → List ℕ × Vec ℕ
    pair_or d (Some z) = z
    pair_or d None = d

    place_or : Place → Option Place → Place
    place_or d (Some z) = z
    place_or d None = d
file-of (y ∷ files) (s ∷ spans) (suc n) x span f a b e = file-of files spans n x span f a b e

pub placed-answer : (bytes : List ℕ) (files : List (List ℕ × Vec ℕ)) (spans : List Place) (whole : List File) → files_of (names_of files) spans ≡ whole → (n : ℕ) (x : List ℕ × Vec ℕ) (span : Place)
    → slice_get files n ≡ Some x → slice_get spans n ≡ Some span → (fault : Fault) (found : CppFault) → found.kind ≡ fault.kind → found.file ≡ x.0
    → found.line ≡ line_at (take (span.end - span.from) (drop span.from bytes)) (fault.place - span.from) → (f : File) → slice_get whole n ≡ Some f
    → found ≡ record { kind = fault.kind; file = f.name; line = line_of bytes f fault.place }
placed-answer bytes files spans whole w n x span a b fault found kind_is file_is line_is f e =
    ap (λ k. record { kind = k; file = found.file; line = found.line }) kind_is
    ∙ ap (λ k. record { kind = fault.kind; file = k; line = found.line }) file_is
    ∙ ap (λ k. record { kind = fault.kind; file = x.0; line = k }) line_is
    ∙ ap (λ (g : File). record { kind = fault.kind; file = g.name; line = line_of bytes g fault.place })
    (sym (file-of files spans n x span f a b (subst (λ z. slice_get z n ≡ Some f) (sym w) e)))

-- ---- a file that is read

module _ (old new : Reader) (keeps : Keeps old new) (digits : Digits) (name : List ℕ) (n : ℕ) (it : IsNumbered (reads_of old) name n) (first : StandsAs old at_first) where
  named_itself : IsFirst old it.it
  named_itself = ap (file_named (reads_of old)) (sym it.name_is) ∙ it.named

  abbrev pub Reads : Reading → Result_of → Type 0
  Reads = ReadsFile old.source.now (reads_of old) digits 0 it.it

  pub whole-read : (done : Unit {0}) → AnswersFile old new Reads (Ok done) → Preprocesses old.source.now (reads_of old) digits name (Ok new.out.items)
  whole-read done h =
      let found = h at_first first in
      let out_is : output_of old.source.now found.0.out ≡ new.out.items = ap (λ x. output_of x found.0.out) (sym keeps.0) ∙ found.1.out_is in
      subst (λ x. Preprocesses old.source.now (reads_of old) digits name (Ok x)) out_is (file.output it.it found.0 it.named found.2)

  reads_same : reads_of new ≡ reads_of old
  reads_same = ap (λ x. files_of (names_of x) new.spans.now) keeps.1 ∙ ap (files_of (names_of old.files.now)) keeps.2

  pub whole-fault : (found : Fault) → AnswersFile old new Reads (Err found) → AnswersReading old.source.now (reads_of old) digits name (Err (new.file, found))
  whole-fault found (inl m) = inl m
  whole-fault found (inr h) = inr (
    h.0,
    subst (λ x. slice_get x new.file ≡ Some h.0) reads_same h.1.0,
    file.faulted it.it h.0 found it.named (subst (λ x. file_named x h.0.name ≡ Some h.0) reads_same h.1.1) (h.2 at_first first),
  )

  -- the same of files that stand in a source
  module _ (source : List ℕ) (files : List File) (source_is : old.source.now ≡ source) (files_are : reads_of old ≡ files) where
    pub run-read : (done : Unit {0}) → ((f : File) → slice_get (reads_of old) n ≡ Some f → IsFirst old f → AnswersFile old new (ReadsFile old.source.now (reads_of old) digits 0 f) (Ok done))
        → Preprocesses source files digits name (Ok new.out.items)
    run-read done h =
        subst (λ x. Preprocesses source x digits name (Ok new.out.items)) files_are
        (subst (λ x. Preprocesses x (reads_of old) digits name (Ok new.out.items)) source_is (whole-read done (h it.it it.there named_itself)))

    pub run-fault : (found : Fault) → ((f : File) → slice_get (reads_of old) n ≡ Some f → IsFirst old f → AnswersFile old new (ReadsFile old.source.now (reads_of old) digits 0 f) (Err found))
        → AnswersReading source files digits name (Err (new.file, found))
    run-fault found h =
        subst (λ x. AnswersReading source x digits name (Err (new.file, found))) files_are
        (subst (λ x. AnswersReading x (reads_of old) digits name (Err (new.file, found))) source_is (whole-fault found (h it.it it.there named_itself)))

-- a name that is there has a number
pub not-there : (files : List (List ℕ × Vec ℕ)) (spans : List Place) (whole : List File) (name : List ℕ) (f : File) → files_of (names_of files) spans ≡ whole → None ≡ number_from 0 files name
    → file_named whole name ≡ Some f → ⊥
not-there files spans whole name f w e there =
    false≢true (ap is_some (sym (number-missing files spans name e) ∙ ap (λ x. file_named x name) w ∙ there))
