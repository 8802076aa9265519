-- What a build leaves of other files.
use Rattle.std.proofs.Common.{◌≡◌, ◌≢◌, ℕ, ⊎_elim, List, [], ◌∷◌, ◌++◌, Option, Some, None, Result, refl, sym, ap, ◌∙◌, subst, take}
use Rattle.std.specs.Prelude.{IfErr, IfSome}
use Rattle.std.specs.List.{AllByRecursion}
use Rattle.std.specs.FinMap as finite
use Rattle.pw_io.specs.Files.{Files, Keeps, LeavesFile, Told, after_put}
use Rattle.pw_top_answer.specs.Effects.{IsLeft, NamedFile, PutPart, PutsFiles, after_puts}
use Rattle.pw_build_files.specs.FromBuild.Unbuilt.{Unbuilt}
use Rattle.pw_build_files.specs.declared.report.Report.{Report}
use Rattle.pw_build_files.specs.Genuine.{IsBuiltName, IsOwnFile, LeavesOthers}
use Rattle.pw_build_files.specs.Outcomes.{IsOfStore, build_answer}
use Rattle.pw_build_files.proofs.GenuineLemmas.{FileLaws}
use Rattle.pw_build_files.proofs.ObeysLemmas.{PutsAny, some_all, some_told}

-- files of which all but those of a build are the same
abbrev AreSame : Files → Files → Type 0
AreSame old new = (name : List ℕ) → ¬ IsBuiltName name → finite.get new name ≡ finite.get old name

apart : (file : NamedFile) (name : List ℕ) → IsOwnFile file → ¬ IsBuiltName name → name ≢ file.0
apart file name own h e = h (subst IsBuiltName (sym e) own.0)

pub puts_same : FileLaws → (told : Told) (files : List NamedFile) → AllByRecursion IsOwnFile files → AreSame told.files (after_puts told files).files
puts_same laws told [] own name h = refl
puts_same laws told (file ∷ files) own name h = puts_same laws (after_put told file.0 file.1) files own.1 name h ∙ laws.insertion told.files file.0 file.1 name (apart file name own.0 h)

part_same : FileLaws → (file : NamedFile) (old new : Files) → IsOwnFile file → LeavesFile old new file.0 file.1 → AreSame old new
part_same laws file old new own left name h =
    ⊎_elim {C = finite.get new name ≡ finite.get old name}
    (λ same. ap (λ (fs : Files). finite.get fs name) same)
    (λ others. ⊎_elim {C = finite.get new name ≡ finite.get old name}
    (λ gone. ap (λ (fs : Files). finite.get fs name) gone ∙ laws.removal old file.0 name (apart file name own h))
    (λ part. ap (λ (fs : Files). finite.get fs name) part.2 ∙ laws.insertion old file.0 (take part.0 file.1) name (apart file name own h))
    others)
    left

left_same : FileLaws → (first told : Told) (more : List NamedFile) (new : Option Told) → AreSame first.files told.files → AllByRecursion IsOwnFile more → IsLeft told more new → LeavesOthers first new
left_same laws first told [] new same own e = subst (LeavesOthers first) (sym e) same
left_same laws first told (file ∷ more) None same own h = ⊎_elim {C = LeavesOthers first None} (λ e. subst (LeavesOthers first) (sym e) same) (λ none. absurd none) h
left_same laws first told (file ∷ more) (Some left) same own h =
    ⊎_elim {C = LeavesOthers first (Some left)} (λ e. subst (LeavesOthers first) (sym e) same) (λ part. λ name free. part_same laws file told.files left.files own.0 part.1 name free ∙ same name free) h

front_own : (done more : List NamedFile) → AllByRecursion IsOwnFile (done ++ more) → AllByRecursion IsOwnFile done
front_own [] more own = tt
front_own (file ∷ done) more own = (own.0, front_own done more own.1)

back_own : (done more : List NamedFile) → AllByRecursion IsOwnFile (done ++ more) → AllByRecursion IsOwnFile more
back_own [] more own = own
back_own (file ∷ done) more own = back_own done more own.1

part_leaves : FileLaws → (told : Told) (files : List NamedFile) (new : Option Told) → AllByRecursion IsOwnFile files → PutPart told files new → LeavesOthers told new
part_leaves laws told files new own part =
    let both : AllByRecursion IsOwnFile (part.done ++ part.more) = subst (AllByRecursion IsOwnFile) part.split own in
    left_same laws told (after_puts told part.done) part.more new (puts_same laws told part.done (front_own part.done part.more both)) (back_own part.done part.more both) part.left

pub puts_leave : FileLaws → (first now new : Option Told) (files : List NamedFile) (result : Result Report Unbuilt) → Keeps first now → IfSome first (λ told. AllByRecursion IsOwnFile files) → IfErr result (λ unbuilt. IsOfStore unbuilt.fault)
    → IfSome now (λ told. PutsFiles files (build_answer result) told new) → IfSome first (λ told. LeavesOthers told new)
puts_leave laws None now new files result same own of puts = tt
puts_leave laws (Some told) now new files result same own of puts =
    let P : Option Told → Type 0 = λ o. IfSome o (λ t. PutsFiles files (build_answer result) t new) in
    let h : PutsFiles files (build_answer result) told new = subst P same puts in
    let some : PutsAny told new = some_told files result told new of h in
    part_leaves laws told some.0 new (some_all IsOwnFile files result told new of h own) some.1

pub nothing_leaves : (first new : Option Told) → Keeps first new → IfSome first (λ told. LeavesOthers told new)
nothing_leaves None new same = tt
nothing_leaves (Some told) new same = subst (LeavesOthers told) (sym same) (λ name free. refl)
