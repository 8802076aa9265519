-- What puts leave of other files, and what the store tells of them.
use Rattle.std.proofs.Common.{◌≡◌, ℕ, ⊎_elim, List, [], ◌∷◌, ◌++◌, Option, Some, None, map, refl, sym, ◌∙◌, subst, arith, append_assoc, append-nil}
use Rattle.std.specs.Prelude.{◌≢◌, IfSome}
use Rattle.std.specs.List.{AllByRecursion}
use Rattle.std.specs.FinMap as finite
use Rattle.pw_io.specs.Files.{Files, LeavesFile, Told, after_put}
use Rattle.pw_top_answer.specs.declared.answer.Answer.{Answer}
use Rattle.pw_top_answer.specs.declared.answer.Answer.TheVariants as answer
use Rattle.pw_top_answer.specs.Effects.{IsLeft, NamedFile, PutPart, after_puts}
use Rattle.pw_build_files.specs.FromBuild.BuildFault.{BuildFault}
use Rattle.pw_build_files.specs.FromBuild.BuildFault.TheVariants as build
use Rattle.pw_build_files.specs.Genuine.{IsBuiltName}
use Rattle.pw_build_files.specs.Outcomes.{AreBuilt, PutsSome, fault_answer}
use Rattle.pw_commands.specs.Others.{IsNoneOf, IsSameBut}
use Rattle.pw_build_files.specs.Driving.{KeepsUnput, Unput}

-- a change of one file is none of any other
abbrev pub Insertion : Type 0
Insertion = (files : Files) (name bytes other : List ℕ) → other ≢ name → finite.get (finite.insert files name bytes) other ≡ finite.get files other

abbrev pub Failure : Type 0
Failure = (old new : Files) (name bytes other : List ℕ) → LeavesFile old new name bytes → other ≢ name → finite.get new other ≡ finite.get old other

abbrev names_of : List NamedFile → List (List ℕ)
names_of files = map (λ file. file.0) files

puts_other : Insertion → (files : List NamedFile) (told : Told) → IsSameBut (names_of files) told.files (after_puts told files).files
puts_other ins [] told name h = refl
puts_other ins (file ∷ files) told name h = puts_other ins files (after_put told file.0 file.1) name h.1 ∙ ins told.files file.0 file.1 name h.0

puts_told : (files : List NamedFile) (told : Told) → (after_puts told files).puts ≡ told.puts ++ names_of files
puts_told [] told = sym (append-nil told.puts)
puts_told (file ∷ files) told = puts_told files (after_put told file.0 file.1) ∙ append_assoc told.puts (file.0 ∷ []) (names_of files)

none_front : (first more : List (List ℕ)) (name : List ℕ) → IsNoneOf (first ++ more) name → IsNoneOf first name
none_front [] more name h = tt
none_front (other ∷ first) more name h = (h.0, none_front first more name h.1)

none_rest : (first more : List (List ℕ)) (name : List ℕ) → IsNoneOf (first ++ more) name → IsNoneOf more name
none_rest [] more name h = h
none_rest (other ∷ first) more name h = none_rest first more name h.1

-- ---- names of a build

own_names : (files : List NamedFile) → AreBuilt files → AllByRecursion IsBuiltName (names_of files)
own_names [] own = tt
own_names (file ∷ files) own = (own.0, own_names files own.1)

own_both : (first second : List (List ℕ)) → AllByRecursion IsBuiltName first → AllByRecursion IsBuiltName second → AllByRecursion IsBuiltName (first ++ second)
own_both [] second a b = b
own_both (name ∷ first) second a b = (a.0, own_both first second a.1 b)

own_front : (done more : List NamedFile) → AreBuilt (done ++ more) → AreBuilt done
own_front [] more own = tt
own_front (file ∷ done) more own = (own.0, own_front done more own.1)

own_back : (done more : List NamedFile) → AreBuilt (done ++ more) → AreBuilt more
own_back [] more own = own
own_back (file ∷ done) more own = own_back done more own.1

-- ---- what stays

-- all were put
unput_all : Insertion → (a : Answer) (told : Told) (files : List NamedFile) → AreBuilt files → Unput a told (after_puts told files)
unput_all ins a told files own = record {
  put = names_of files;
  failed = [];
  own = own_both (names_of files) [] (own_names files own) tt;
  one = omega arith;
  none = λ h. refl;
  told_so = puts_told files told;
  same = λ name h. puts_other ins files told name (none_front (names_of files) [] name h);
}

-- the put of one more failed
unput_part : Insertion → Failure → (told left : Told) (files : List NamedFile) (next : NamedFile) → AreBuilt files → IsBuiltName next.0 → left.puts ≡ (after_puts told files).puts → LeavesFile (after_puts told files).files left.files next.0 next.1
    → Unput answer.StoreFault told left
unput_part ins fail told left files next own is same leaves = record {
  put = names_of files;
  failed = next.0 ∷ [];
  own = own_both (names_of files) (next.0 ∷ []) (own_names files own) (is, tt);
  one = omega arith;
  none = λ h. absurd (h refl);
  told_so = same ∙ puts_told files told;
  same = λ name h.
      fail (after_puts told files).files left.files next.0 next.1 name leaves (none_rest (names_of files) (next.0 ∷ []) name h).0 ∙ puts_other ins files told name (none_front (names_of files) (next.0 ∷ []) name h);
}

tells_all : Insertion → (a : Answer) (told : Told) (done : List NamedFile) (new : Option Told) → AreBuilt done → new ≡ Some (after_puts told done) → KeepsUnput a told new
tells_all ins a told done new own e = subst (KeepsUnput a told) (sym e) (unput_all ins a told done own)

left_unput : Insertion → Failure → (told : Told) (done more : List NamedFile) (new : Option Told) → AreBuilt done → AreBuilt more → IsLeft (after_puts told done) more new → KeepsUnput answer.StoreFault told new
left_unput ins fail told done [] new own next h = tells_all ins answer.StoreFault told done new own h
left_unput ins fail told done (file ∷ more) None own next h = ⊎_elim {C = KeepsUnput answer.StoreFault told None} (λ e. tells_all ins answer.StoreFault told done None own e) (λ n. absurd n) h
left_unput ins fail told done (file ∷ more) (Some left) own next h =
    ⊎_elim {C = KeepsUnput answer.StoreFault told (Some left)} (λ e. tells_all ins answer.StoreFault told done (Some left) own e) (λ l. unput_part ins fail told left done file own next.0 l.0 l.1) h

part_unput : Insertion → Failure → (told : Told) (files : List NamedFile) (new : Option Told) → AreBuilt files → PutPart told files new → KeepsUnput answer.StoreFault told new
part_unput ins fail told files new own part =
    let both : AreBuilt (part.done ++ part.more) = subst AreBuilt part.split own in
    left_unput ins fail told part.done part.more new (own_front part.done part.more both) (own_back part.done part.more both) part.left

fault_unput : Insertion → Failure → (fault : BuildFault) (told : Told) (new : Option Told) → PutsSome (fault_answer fault) told new → KeepsUnput (fault_answer fault) told new
fault_unput ins fail build.StoreFault told new h = part_unput ins fail told h.0 new h.1 h.2
fault_unput ins fail build.NoMemory told new h = tells_all ins answer.NoMemory told h.0 new h.1 h.2
fault_unput ins fail (build.Refused name refusal) told new h = tells_all ins (answer.Refused name refusal) told [] new tt h
fault_unput ins fail (build.LinkRefused fault) told new h = tells_all ins (answer.LinkRefused fault) told [] new tt h

-- a build that was done
pub built_unput : Insertion → (a : Answer) (told new : Option Told) → IfSome told (λ t. PutsSome answer.Done t new) → IfSome told (λ t. KeepsUnput a t new)
built_unput ins a None new h = tt
built_unput ins a (Some t) new h = tells_all ins a t h.0 new h.1 h.2

-- and one that was not
pub unbuilt_unput : Insertion → Failure → (fault : BuildFault) (a : Answer) (told new : Option Told) → a ≡ fault_answer fault → IfSome told (λ t. PutsSome (fault_answer fault) t new) → IfSome told (λ t. KeepsUnput a t new)
unbuilt_unput ins fail fault a None new e h = tt
unbuilt_unput ins fail fault a (Some t) new e h = subst (λ (x : Answer). KeepsUnput x t new) (sym e) (fault_unput ins fail fault t new h)
