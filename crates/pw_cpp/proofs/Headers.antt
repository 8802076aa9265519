-- Files that are read, and headers.
use Rattle.std.proofs.Common.{◌≡◌, ℕ, zero, suc, ◌+◌, ◌-◌, ◌<◌, ◌≤◌, Bool, true, false, List, [], ◌∷◌, ◌++◌, length, map, reverse, take, if◌then◌else◌, Option, Some, None, Result, Ok, Err, inl, inr, ◌⊎◌, refl, sym, ap, ◌∙◌, subst, arith}
use Rattle.std.proofs.lemmas.Slice.Eq.{bytes_eq-Decides}
use Rattle.std.proofs.lemmas.Bool.{false≢true}
use Rattle.std.specs.Global.{Vec}
use Rattle.std.specs.Prelude.{bytes_eq, is_some, slice_get}
use Rattle.pw_cpp.specs.Answers.{AnswersFile, AnswersStep, IsAt, IsFirst, IsRead, IsStill, StandsAs, number_from, reads_of}
use Rattle.pw_cpp.specs.Files as file
use Rattle.pw_cpp.specs.Files.{Faulted, GoesOn, IncludesHeader, Read, Reading, ReadsFile, ReadsLines, Result_of, Step, Stops, after_header, begins, with_standing}
use Rattle.pw_cpp.specs.declared.reader.Reader.{Reader}
use Rattle.pw_cpp.proofs.Steps.{fault-here, reads-still, stands-still}
use Rattle.pw_cpp_directives.specs.Directives.{Standing, fault, standing}
use Rattle.pw_cpp_directives.specs.Obeying.{IsFaultOf, standing_of}
use Rattle.pw_cpp_directives.specs.declared.condition.Digits.{Digits}
use Rattle.pw_cpp_directives.specs.declared.directive.Fault.{Fault}
use Rattle.pw_cpp_directives.specs.declared.fault.CppKind.TheVariants as kind
use Rattle.pw_cpp_directives.specs.declared.fault.CppWhich.TheVariants as which
use Rattle.pw_cpp_sources.specs.Rows.{output_of}
use Rattle.pw_cpp_sources.specs.Sources.{File, depth_limit, file_named, files_of, names_of}
use Rattle.pw_cpp_sources.specs.declared.source.Place.{Place}

-- ---- files by their numbers

-- a file stands where its place says
pub file-at : (names : List (List ℕ)) (spans : List Place) (n : ℕ) (span : Place) (f : File) → slice_get spans n ≡ Some span → slice_get (files_of names spans) n ≡ Some f
    → (f.from ≡ span.from) × (f.end ≡ span.end)
file-at names [] n span f h e = absurd (false≢true (ap is_some h))
file-at [] (s ∷ spans) n span f h e = absurd (false≢true (ap is_some e))
file-at (name ∷ names) (s ∷ spans) zero span f h e = (
  ap (λ x. x.from) (sym (ap (file_or f) e)) ∙ ap (λ x. x.from) (ap (place_or span) h),
  ap (λ x. x.end) (sym (ap (file_or f) e)) ∙ ap (λ x. x.end) (ap (place_or span) h),
)
  where
    file_or : File → Option File → File
    file_or d (Some x) = x
    file_or d None = d

    place_or : Place → Option Place → Place
    place_or d (Some x) = x
    place_or d None = d
file-at (name ∷ names) (s ∷ spans) (suc n) span f h e = file-at names spans n span f h e

-- the number of a name is that of the first file of the name
pub record IsNumbered (files : List File) (name : List ℕ) (n : ℕ) : Type 0 where
  pub it : File
  pub named : file_named files name ≡ Some it
  pub name_is : name ≡ it.name
  pub there : slice_get files n ≡ Some it

found_from : (files : List (List ℕ × Vec ℕ)) (spans : List Place) (name : List ℕ) (k n : ℕ) → length files ≡ length spans → number_from k files name ≡ Some n
    → (k ≤ n) × IsNumbered (files_of (names_of files) spans) name (n - k)
found_from [] spans name k n l e = absurd (false≢true (ap is_some e))
found_from (f ∷ files) [] name k n l e = absurd (omega (arith, l))
found_from (f ∷ files) (s ∷ spans) name k n l e = by (bytes_eq name f.0) refl e (found_from files spans name (k + 1) n (omega (arith, l)))
  where
    here : File
    here = record { name = f.0; from = s.from; end = s.end }

    number_or : Option ℕ → ℕ
    number_or (Some x) = x
    number_or None = k

    by : (b : Bool) → bytes_eq name f.0 ≡ b → (if b then Some k else number_from (k + 1) files name) ≡ Some n
        → (number_from (k + 1) files name ≡ Some n → (k + 1 ≤ n) × IsNumbered (files_of (names_of files) spans) name (n - (k + 1)))
        → (k ≤ n) × IsNumbered (files_of (names_of (f ∷ files)) (s ∷ spans)) name (n - k)
    by true b e rec =
        let same : k ≡ n = ap number_or e in
        let zero_is : n - k ≡ 0 = omega (arith, same) in (
          omega (arith, same),
          record {
            it = here;
            named = ap (λ x. if x then Some here else file_named (files_of (names_of files) spans) name) b;
            name_is = (bytes_eq-Decides name f.0).0 b;
            there = ap (slice_get (here ∷ files_of (names_of files) spans)) zero_is;
          },
        )
    by false b e rec =
        let found = rec e in
        let next : n - k ≡ suc (n - (k + 1)) = omega (arith, found.0) in (
          omega (arith, found.0),
          record {
            it = found.1.it;
            named = ap (λ x. if x then Some here else file_named (files_of (names_of files) spans) name) b ∙ found.1.named;
            name_is = found.1.name_is;
            there = ap (slice_get (here ∷ files_of (names_of files) spans)) next ∙ found.1.there;
          },
        )

pub number-found : (files : List (List ℕ × Vec ℕ)) (spans : List Place) (name : List ℕ) (n : ℕ) → length files ≡ length spans → Some n ≡ number_from 0 files name → IsNumbered (files_of (names_of files) spans) name n
number-found files spans name n l e =
    let same : n - 0 ≡ n = omega arith in subst (IsNumbered (files_of (names_of files) spans) name) same (found_from files spans name 0 n l (sym e)).1

missing_from : (files : List (List ℕ × Vec ℕ)) (spans : List Place) (name : List ℕ) (k : ℕ) → number_from k files name ≡ None → file_named (files_of (names_of files) spans) name ≡ None
missing_from [] spans name k e = refl
missing_from (f ∷ files) [] name k e = refl
missing_from (f ∷ files) (s ∷ spans) name k e = by (bytes_eq name f.0) refl e (missing_from files spans name (k + 1))
  where
    here : File
    here = record { name = f.0; from = s.from; end = s.end }

    by : (b : Bool) → bytes_eq name f.0 ≡ b → (if b then Some k else number_from (k + 1) files name) ≡ None
        → (number_from (k + 1) files name ≡ None → file_named (files_of (names_of files) spans) name ≡ None) → file_named (files_of (names_of (f ∷ files)) (s ∷ spans)) name ≡ None
    by true b e rec = absurd (false≢true (sym (ap is_some e)))
    by false b e rec = ap (λ x. if x then Some here else file_named (files_of (names_of files) spans) name) b ∙ rec e

pub number-missing : (files : List (List ℕ × Vec ℕ)) (spans : List Place) (name : List ℕ) → None ≡ number_from 0 files name → file_named (files_of (names_of files) spans) name ≡ None
number-missing files spans name e = missing_from files spans name 0 (sym e)

-- ---- a header

-- sections of the file that includes one do not matter to it
file_bare : (source : List ℕ) (files : List File) (digits : Digits) (depth : ℕ) (f : File) (r : Reading) (found : Result_of)
    → ReadsFile source files digits depth f (with_standing r (begins [] r.standing_is)) found → ReadsFile source files digits depth f r found
file_bare source files digits depth f r found (file.too_long _ _ _ _ l e) = file.too_long depth f r found l e
file_bare source files digits depth f r found (file.whole _ _ _ _ l h) = file.whole depth f r found l h

module _ (old bare : Reader) (still : IsStill old bare) (digits : Digits) (depth : ℕ) (hash next : ℕ) (name : List ℕ) (f inner : File) where
  abbrev pub DoesHeader : Reading → Step → Type 0
  DoesHeader r step = IncludesHeader old.source.now (reads_of old) digits depth f r hash next name (Some inner) step

  pub header-deep : IsAt old f → depth_limit ≤ depth → (found : Fault) → found ≡ fault (kind.Limit which.Depth (depth_limit + 1)) hash → AnswersStep old old DoesHeader (Err found)
  header-deep at l found is =
      subst (λ x. AnswersStep old old DoesHeader (Err x)) (sym is)
      (inr (f, at, (λ r st. file.too_deep depth f inner r hash next name l)))

  -- no section is open where the header is read
  module _ (deep : depth < depth_limit) (bare_is : standing_of bare.standing ≡ begins [] (standing_of old.standing)) (nested_is : bare.standing.nested ≡ old.standing.nested) where
    bare_as : (r : Reading) → StandsAs old r → StandsAs bare (with_standing r (begins [] r.standing_is))
    bare_as r st = stands-still old bare still r (begins [] r.standing_is) st (ap (begins []) st.standing_is ∙ sym bare_is) r.nested (st.nested_is ∙ ap reverse (sym nested_is))

    abbrev pub ReadsInner : Reading → Result_of → Type 0
    ReadsInner r found = ReadsFile bare.source.now (reads_of bare) digits (depth + 1) inner r found

    inner_of : (r : Reading) (found : Result_of) → ReadsInner (with_standing r (begins [] r.standing_is)) found → ReadsFile old.source.now (reads_of old) digits (suc depth) inner r found
    inner_of r found h =
        let P : List ℕ → Type 0 = λ x. ReadsFile x (reads_of old) digits (suc depth) inner r found in
        let Q : List File → Type 0 = λ x. ReadsFile bare.source.now x digits (suc depth) inner r found in
        let D : ℕ → Type 0 = λ n. ReadsFile bare.source.now (reads_of bare) digits n inner (with_standing r (begins [] r.standing_is)) found in
        let depth_is : depth + 1 ≡ suc depth = omega arith in
        subst P still.source (subst Q (reads-still old bare still) (file_bare bare.source.now (reads_of bare) digits (suc depth) inner r found (subst D depth_is h)))

    pub header-fault : (new : Reader) (found : Fault) → AnswersFile bare new ReadsInner (Err found) → AnswersStep old new DoesHeader (Err found)
    header-fault new found (inl m) = inl m
    header-fault new found (inr h) =
        inr (h.0, h.1, (λ r st. file.header depth f inner r hash next name (Faulted h.0.name found) (Stops h.0.name found) deep (inner_of r (Faulted h.0.name found) (h.2 (with_standing r (begins [] r.standing_is)) (bare_as r st))) refl))

    -- the sections of the file that includes it are open again
    pub header-read : (read new : Reader) (done : Unit {0}) → AnswersFile bare read ReadsInner (Ok done) → new.source.now ≡ read.source.now → new.file ≡ old.file → new.out.items ≡ read.out.items
        → new.size ≡ read.size → standing_of new.standing ≡ begins (standing_of old.standing).sections (standing_of read.standing) → new.standing.nested ≡ read.standing.nested
        → AnswersStep old new DoesHeader (Ok next)
    header-read read new done h source number out size stand nested = (
      number,
      (λ r st.
          let found = h (with_standing r (begins [] r.standing_is)) (bare_as r st) in
          let s = found.0 in (
            with_standing s (begins r.standing_is.sections s.standing_is),
            record {
              standing_is =
                  ap (λ x. begins x.sections s.standing_is) st.standing_is
                  ∙ ap (begins (standing_of old.standing).sections) found.1.standing_is
                  ∙ sym stand;
              nested_is = found.1.nested_is ∙ ap reverse (sym nested);
              out_is = ap (λ x. output_of x s.out) source ∙ found.1.out_is ∙ sym out;
              size_is = found.1.size_is ∙ sym size;
            },
            file.header depth f inner r hash next name (Read s) (GoesOn next (with_standing s (begins r.standing_is.sections s.standing_is))) deep (inner_of r (Read s) found.2) refl,
          )),
    )
