-- What a file is preprocessed to is one thing, since what reading it comes to is.
use Rattle.std.proofs.Common.{◌≡◌, ℕ, List, Some, Result, Ok, Err, refl, sym, ap, ◌∙◌, subst}
use Rattle.pw_cpp.proofs.OneOutput.{Below, one-file}
use Rattle.pw_cpp.specs.Files as file
use Rattle.pw_cpp.specs.Files.{Faulted, Preprocesses, Read, Reading, ReadsFile, Result_of, at_first}
use Rattle.pw_cpp_directives.specs.declared.directive.Fault.{Fault}
use Rattle.pw_cpp_directives.specs.declared.condition.Digits.{Digits}
use Rattle.pw_cpp_directives.specs.declared.fault.CppKind.{CppKind}
use Rattle.pw_cpp_sources.specs.Rows.{output_of}
use Rattle.pw_cpp_sources.specs.Sources.{File, file_named, line_of}

abbrev Answer : Type 0
Answer = Result (List ℕ) (CppKind × List ℕ × ℕ)

same_file : (f g : File) → Some f ≡ Some g → f ≡ g
same_file f g e = cc

same_reading : (r s : Reading) → Read r ≡ Read s → r ≡ s
same_reading r s e = cc

same_name : (m n : List ℕ) (p q : Fault) → Faulted m p ≡ Faulted n q → m ≡ n
same_name m n p q e = cc

same_fault : (m n : List ℕ) (p q : Fault) → Faulted m p ≡ Faulted n q → p ≡ q
same_fault m n p q e = cc

not_both : (r : Reading) (n : List ℕ) (p : Fault) → Read r ≡ Faulted n p → ⊥
not_both r n p e = cc

module _ (below : Below) (source : List ℕ) (files : List File) (digits : Digits) (name : List ℕ) where
  -- two readings of the file of the name
  one_reading : (f g : File) (x y : Result_of) → file_named files name ≡ Some f → file_named files name ≡ Some g
      → ReadsFile source files digits 0 f at_first x → ReadsFile source files digits 0 g at_first y → x ≡ y
  one_reading f g x y e d h k =
      let P : File → Type 0 = λ z. ReadsFile source files digits 0 z at_first y in
      one-file below source files digits 0 f at_first x y h (subst P (same_file g f (sym d ∙ e)) k)

  faults : (inner other : File) (p q : Fault) → p ≡ q → inner ≡ other
      → ◌≡◌ {A = Answer} (Err (p.kind, inner.name, line_of source inner p.place)) (Err (q.kind, other.name, line_of source other q.place))
  faults inner other p q e d =
      let P : Fault → Answer = λ z. Err (z.kind, inner.name, line_of source inner z.place) in
      let Q : File → Answer = λ z. Err (q.kind, z.name, line_of source z q.place) in
      ap P e ∙ ap Q d

  -- the files of two faults that have one name
  inner_is : (inner other : File) → file_named files inner.name ≡ Some inner → file_named files other.name ≡ Some other → inner.name ≡ other.name → inner ≡ other
  inner_is inner other i j e = same_file inner other (sym i ∙ ap (file_named files) e ∙ j)

  pub one-answer : (x y : Answer) → Preprocesses source files digits name x → Preprocesses source files digits name y → x ≡ y
  one-answer x y (file.output f r e h) (file.output g s d k) =
      let P : Reading → Answer = λ z. Ok (output_of source z.out) in
      ap P (same_reading r s (one_reading f g (Read r) (Read s) e d h k))
  one-answer x y (file.output f r e h) (file.faulted g inner p d i k) = absurd (not_both r inner.name p (one_reading f g (Read r) (Faulted inner.name p) e d h k))
  one-answer x y (file.faulted f inner p e i h) (file.output g s d k) = absurd (not_both s inner.name p (one_reading g f (Read s) (Faulted inner.name p) d e k h))
  one-answer x y (file.faulted f inner p e i h) (file.faulted g other q d j k) =
      let same : Faulted inner.name p ≡ Faulted other.name q = one_reading f g (Faulted inner.name p) (Faulted other.name q) e d h k in
      faults inner other p q (same_fault inner.name other.name p q same) (inner_is inner other i j (same_name inner.name other.name p q same))
