-- What a put leaves of other files.
use Rattle.std.proofs.Common.{◌≡◌, ℕ, ⊎_elim, inl, inr, List, [], ◌∷◌, ◌++◌, Option, Some, None, map, cond, true, false, Bool, refl, sym, ap, ◌∙◌, subst, take, append_assoc, append-nil, arith}
use Rattle.std.specs.Prelude.{IfSome, IsSomeAnd}
use Rattle.std.specs.List.{AllByRecursion}
use Rattle.std.specs.FinMap as finite
use Rattle.std.specs.FinMap.{get-insert, get-remove}
use Rattle.std.proofs.lemmas.Cmp.{nat_list_cmp_total}
use Rattle.std.proofs.lemmas.Map.Lookups.{exact_bytes}
use Rattle.std.proofs.lemmas.Map.Views.{tells_apart}
use Rattle.pw_io.specs.Files.{Files, Keeps, LeavesFile, Told, after_put}
use Rattle.pw_commands.specs.Others.{IsNoneOf, IsOneOf, IsSameBut, KeepsOthers, PutsOnly}
use Rattle.pw_top_answer.specs.declared.answer.Answer.{Answer}
use Rattle.pw_top_answer.specs.declared.answer.Answer.TheVariants.{StoreFault, NoMemory}
use Rattle.pw_top_answer.specs.Effects.{IsLeft, NamedFile, PutPrefix, PutPart, PutsFiles, after_puts}

not_chosen : {X : Type 0} (b : Bool) (x y : X) → (b ≡ true → ⊥) → cond b x y ≡ y
not_chosen true x y h = absurd (h refl)
not_chosen false x y h = refl

insert_other : (files : Files) (put bytes name : List ℕ) → (name ≡ put → ⊥) → finite.get (finite.insert files put bytes) name ≡ finite.get files name
insert_other files put bytes name h = get-insert nat_list_cmp_total files put bytes name ∙ not_chosen _ _ _ (λ e. h (tells_apart exact_bytes name put e))

remove_other : (files : Files) (put name : List ℕ) → (name ≡ put → ⊥) → finite.get (finite.remove files put) name ≡ finite.get files name
remove_other files put name h = get-remove nat_list_cmp_total files put name ∙ not_chosen _ _ _ (λ e. h (tells_apart exact_bytes name put e))

-- a put that failed
left_other : (old new : Files) (put bytes name : List ℕ) → LeavesFile old new put bytes → (name ≡ put → ⊥) → finite.get new name ≡ finite.get old name
left_other old new put bytes name l h =
    ⊎_elim {C = finite.get new name ≡ finite.get old name}
    (λ e. ap (λ files. finite.get files name) e)
    (λ r. ⊎_elim {C = finite.get new name ≡ finite.get old name}
    (λ e. ap (λ files. finite.get files name) e ∙ remove_other old put name h)
    (λ e. ap (λ files. finite.get files name) e.2 ∙ insert_other old put (take e.0 bytes) name h)
    r)
    l

-- ---- files that were put

abbrev names_of : List NamedFile → List (List ℕ)
names_of files = map (λ file. file.0) files

puts_other : (files : List NamedFile) (told : Told) → IsSameBut (names_of files) told.files (after_puts told files).files
puts_other [] told name h = refl
puts_other (file ∷ files) told name h = puts_other files (after_put told file.0 file.1) name h.1 ∙ insert_other told.files file.0 file.1 name h.0

puts_told : (files : List NamedFile) (told : Told) → (after_puts told files).puts ≡ told.puts ++ names_of files
puts_told [] told = sym (append-nil told.puts)
puts_told (file ∷ files) told = puts_told files (after_put told file.0 file.1) ∙ append_assoc told.puts (file.0 ∷ []) (names_of files)

-- ---- names among others

none_of_first : (names more : List (List ℕ)) (name : List ℕ) → IsNoneOf (names ++ more) name → IsNoneOf names name
none_of_first [] more name h = tt
none_of_first (other ∷ names) more name h = (h.0, none_of_first names more name h.1)

none_of_second : (names more : List (List ℕ)) (name : List ℕ) → IsNoneOf (names ++ more) name → IsNoneOf more name
none_of_second [] more name h = h
none_of_second (other ∷ names) more name h = none_of_second names more name h.1

one_more : (other : List ℕ) (names some : List (List ℕ)) → AllByRecursion (IsOneOf names) some → AllByRecursion (IsOneOf (other ∷ names)) some
one_more other names [] h = tt
one_more other names (name ∷ some) h = (inr h.0, one_more other names some h.1)

one_of_done : (done more : List NamedFile) → AllByRecursion (IsOneOf (names_of (done ++ more))) (names_of done)
one_of_done [] more = tt
one_of_done (file ∷ done) more = (inl refl, one_more file.0 (names_of (done ++ more)) (names_of done) (one_of_done done more))

one_of_next : (done : List NamedFile) (file : NamedFile) (more : List NamedFile) → IsOneOf (names_of (done ++ file ∷ more)) file.0
one_of_next [] file more = inl refl
one_of_next (other ∷ done) file more = inr (one_of_next done file more)

all_own : (names some others : List (List ℕ)) → AllByRecursion (IsOneOf names) some → AllByRecursion (IsOneOf names) others → AllByRecursion (IsOneOf names) (some ++ others)
all_own names [] others h k = k
all_own names (name ∷ some) others h k = (h.0, all_own names some others h.1 k)

-- ---- files that were put, whole or in part

abbrev PutsIn : List NamedFile → Answer → Told → Option Told → Type 0
PutsIn files answer told new = IsSomeAnd new (PutsOnly (names_of files) answer told)

whole_in : (done more : List NamedFile) (answer : Answer) (told : Told) (new : Option Told) → new ≡ Some (after_puts told done) → PutsIn (done ++ more) answer told new
whole_in done more answer told new e =
    subst (PutsIn (done ++ more) answer told) (sym e) (record {
      put = names_of done;
      failed = [];
      own = all_own (names_of (done ++ more)) (names_of done) [] (one_of_done done more) tt;
      one = omega arith;
      none = λ h. refl;
      told_so = puts_told done told;
      same = λ name n. puts_other done told name (none_of_first (names_of done) [] name n);
    })

failed_in : (done : List NamedFile) (file : NamedFile) (more : List NamedFile) (told left : Told) → left.puts ≡ (after_puts told done).puts → LeavesFile (after_puts told done).files left.files file.0 file.1
    → PutsOnly (names_of (done ++ file ∷ more)) StoreFault told left
failed_in done file more told left puts leaves = record {
  put = names_of done;
  failed = file.0 ∷ [];
  own = all_own (names_of (done ++ file ∷ more)) (names_of done) (file.0 ∷ []) (one_of_done done (file ∷ more)) (one_of_next done file more, tt);
  one = omega arith;
  none = λ h. absurd (h refl);
  told_so = puts ∙ puts_told done told;
  same = λ name n.
      left_other (after_puts told done).files left.files file.0 file.1 name leaves (none_of_second (names_of done) (file.0 ∷ []) name n).0
      ∙ puts_other done told name (none_of_first (names_of done) (file.0 ∷ []) name n);
}

left_in : (done more : List NamedFile) (told : Told) (new : Option Told) → IsLeft (after_puts told done) more new → PutsIn (done ++ more) StoreFault told new
left_in done [] told new h = whole_in done [] StoreFault told new h
left_in done (file ∷ more) told None h = absurd (⊎_elim {C = ⊥} (λ e. cc) (λ n. n) h)
left_in done (file ∷ more) told (Some left) h =
    ⊎_elim {C = PutsIn (done ++ file ∷ more) StoreFault told (Some left)} (λ e. whole_in done (file ∷ more) StoreFault told (Some left) e) (λ l. failed_in done file more told left l.0 l.1) h

pub files_other : (files : List NamedFile) (answer : Answer) (told : Told) (new : Option Told) → PutsFiles files answer told new → PutsIn files answer told new
files_other files StoreFault told new h = subst (λ (fs : List NamedFile). PutsIn fs StoreFault told new) (sym h.split) (left_in h.done h.more told new h.left)
files_other files NoMemory told new h = subst (λ (fs : List NamedFile). PutsIn fs NoMemory told new) (sym h.split) (whole_in h.done h.more NoMemory told new h.left)
files_other files answer told new h = subst (λ (fs : List NamedFile). PutsIn fs answer told new) (append-nil files) (whole_in files [] answer told new h)

none_put : (names : List (List ℕ)) (answer : Answer) (told : Told) → PutsOnly names answer told told
none_put names answer told = record { put = []; failed = []; own = tt; one = omega arith; none = λ h. refl; told_so = sym (append-nil told.puts); same = λ name n. refl }

-- ---- a command that reads, and then puts

pub kept_others : (names : List (List ℕ)) (answer : Answer) (old new : Option Told) → Keeps old new → KeepsOthers names answer old new
kept_others names answer None new h = tt
kept_others names answer (Some told) new h = subst (λ (o : Option Told). IsSomeAnd o (PutsOnly names answer told)) (sym h) (none_put names answer told)

pub put_others : (old mid new : Option Told) (files : List NamedFile) (answer : Answer) → Keeps old mid → IfSome mid (λ told. PutsFiles files answer told new) → KeepsOthers (names_of files) answer old new
put_others None mid new files answer k h = tt
put_others (Some told) mid new files answer k h = let P : Option Told → Type 0 = λ o. IfSome o (λ t. PutsFiles files answer t new) in files_other files answer told new (subst P k h)

pub others_alone : (names : List (List ℕ)) (answer : Answer) (told : Option Told) → KeepsOthers names answer told told
others_alone names answer None = tt
others_alone names answer (Some told) = none_put names answer told

pub then_others : (names : List (List ℕ)) (answer : Answer) (old mid new : Option Told) → Keeps old mid → KeepsOthers names answer mid new → KeepsOthers names answer old new
then_others names answer None mid new k h = tt
then_others names answer (Some told) mid new k h = let P : Option Told → Type 0 = λ o. KeepsOthers names answer o new in subst P k h

pub just_others : (told new : Option Told) (files : List NamedFile) (answer : Answer) → IfSome told (λ t. PutsFiles files answer t new) → KeepsOthers (names_of files) answer told new
just_others None new files answer h = tt
just_others (Some told) new files answer h = files_other files answer told new h
