-- What a session's changes leave of other files, and what the store tells of them.
use Rattle.std.proofs.Common.{◌≡◌, ℕ, ⊎_elim, List, [], ◌∷◌, ◌++◌, Option, Some, None, refl, sym, ◌∙◌, subst, arith, append_assoc, append-nil}
use Rattle.std.specs.Prelude.{◌≢◌, IsSomeAnd}
use Rattle.std.specs.List.{AllByRecursion}
use Rattle.std.specs.FinMap as finite
use Rattle.pw_io.specs.Files.{Files, LeavesFile, Told, after_put, after_remove}
use Rattle.pw_top_answer.specs.declared.answer.Answer.{Answer}
use Rattle.pw_top_answer.specs.declared.answer.Answer.TheVariants.{StoreFault}
use Rattle.pw_top_answer.specs.Effects.{NamedFile}
use Rattle.pw_commands.specs.Others.{IsNoneOf}
use Rattle.pw_law_session.specs.FromSession.Changes.{AreOwnChanges, Change, ChangePart, IsChanged, MakesSome, Puts, Removes, after_changes}
use Rattle.pw_top.specs.Rest.{IsPutName, LeavesRest}

-- a change of one file is none of any other
pub record Laws : Type 0 where
  pub insertion : (files : Files) (name bytes other : List ℕ) → other ≢ name → finite.get (finite.insert files name bytes) other ≡ finite.get files other
  pub removal : (files : Files) (name other : List ℕ) → other ≢ name → finite.get (finite.remove files name) other ≡ finite.get files other
  pub failure : (old new : Files) (name bytes other : List ℕ) → LeavesFile old new name bytes → other ≢ name → finite.get new other ≡ finite.get old other

-- ---- the names of changes

abbrev put_in : List Change → List (List ℕ)
put_in [] = []
put_in (Puts file ∷ changes) = file.0 ∷ put_in changes
put_in (Removes name ∷ changes) = put_in changes

abbrev removed_in : List Change → List (List ℕ)
removed_in [] = []
removed_in (Puts file ∷ changes) = removed_in changes
removed_in (Removes name ∷ changes) = name ∷ removed_in changes

own_put : (may : List ℕ → Type 0) (changes : List Change) → AreOwnChanges may changes → AllByRecursion IsPutName (put_in changes)
own_put may [] own = tt
own_put may (Puts file ∷ changes) own = (own.0, own_put may changes own.1)
own_put may (Removes name ∷ changes) own = own_put may changes own.1

own_removed : (may : List ℕ → Type 0) (changes : List Change) → AreOwnChanges may changes → AllByRecursion may (removed_in changes)
own_removed may [] own = tt
own_removed may (Puts file ∷ changes) own = own_removed may changes own.1
own_removed may (Removes name ∷ changes) own = (own.0, own_removed may changes own.1)

own_both : (first second : List (List ℕ)) → AllByRecursion IsPutName first → AllByRecursion IsPutName second → AllByRecursion IsPutName (first ++ second)
own_both [] second a b = b
own_both (name ∷ first) second a b = (a.0, own_both first second a.1 b)

none_front : (first more : List (List ℕ)) (name : List ℕ) → IsNoneOf (first ++ more) name → IsNoneOf first name
none_front [] more name h = tt
none_front (other ∷ first) more name h = (h.0, none_front first more name h.1)

none_rest : (first more : List (List ℕ)) (name : List ℕ) → IsNoneOf (first ++ more) name → IsNoneOf more name
none_rest [] more name h = h
none_rest (other ∷ first) more name h = none_rest first more name h.1

-- ---- changes

tells : (changes : List Change) (told : Told) → (after_changes told changes).puts ≡ told.puts ++ put_in changes
tells [] told = sym (append-nil told.puts)
tells (Puts file ∷ changes) told = tells changes (after_put told file.0 file.1) ∙ append_assoc told.puts (file.0 ∷ []) (put_in changes)
tells (Removes name ∷ changes) told = tells changes (after_remove told name)

leaves : Laws → (changes : List Change) (told : Told) (name : List ℕ) → IsNoneOf (put_in changes) name → IsNoneOf (removed_in changes) name → finite.get (after_changes told changes).files name ≡ finite.get told.files name
leaves laws [] told name p r = refl
leaves laws (Puts file ∷ changes) told name p r = leaves laws changes (after_put told file.0 file.1) name p.1 r ∙ laws.insertion told.files file.0 file.1 name p.0
leaves laws (Removes gone ∷ changes) told name p r = leaves laws changes (after_remove told gone) name p r.1 ∙ laws.removal told.files gone name r.0

-- all were made
rest_all : Laws → (may : List ℕ → Type 0) (answer : Answer) (told : Told) (changes : List Change) → AreOwnChanges may changes → LeavesRest may answer told (after_changes told changes)
rest_all laws may answer told changes own = record {
  put = put_in changes;
  removed = removed_in changes;
  failed = [];
  own = own_both (put_in changes) [] (own_put may changes own) tt;
  lawful = own_removed may changes own;
  one = omega arith;
  none = λ h. refl;
  told_so = tells changes told;
  same = λ name h. leaves laws changes told name (none_front (put_in changes) (removed_in changes) name h) (none_rest (put_in changes) (removed_in changes) name h);
}

all_told : Laws → (may : List ℕ → Type 0) (answer : Answer) (told : Told) (changes : List Change) (new : Option Told) → AreOwnChanges may changes → new ≡ Some (after_changes told changes) → IsSomeAnd new (LeavesRest may answer told)
all_told laws may answer told changes new own e = subst (λ (o : Option Told). IsSomeAnd o (LeavesRest may answer told)) (sym e) (rest_all laws may answer told changes own)

-- the put of one more failed
rest_part : Laws → (may : List ℕ → Type 0) (told left : Told) (changes : List Change) (next : NamedFile) → AreOwnChanges may changes → IsPutName next.0 → left.puts ≡ (after_changes told changes).puts → LeavesFile (after_changes told changes).files left.files next.0 next.1
    → LeavesRest may StoreFault told left
rest_part laws may told left changes next own is same part = record {
  put = put_in changes;
  removed = removed_in changes;
  failed = next.0 ∷ [];
  own = own_both (put_in changes) (next.0 ∷ []) (own_put may changes own) (is, tt);
  lawful = own_removed may changes own;
  one = omega arith;
  none = λ h. absurd (h refl);
  told_so = same ∙ tells changes told;
  same = λ name h.
      let others = none_rest (put_in changes) (next.0 ∷ removed_in changes) name h in
      laws.failure (after_changes told changes).files left.files next.0 next.1 name part others.0 ∙ leaves laws changes told name (none_front (put_in changes) (next.0 ∷ removed_in changes) name h) others.1;
}

own_front : (may : List ℕ → Type 0) (done more : List Change) → AreOwnChanges may (done ++ more) → AreOwnChanges may done
own_front may [] more own = tt
own_front may (change ∷ done) more own = (own.0, own_front may done more own.1)

own_back : (may : List ℕ → Type 0) (done more : List Change) → AreOwnChanges may (done ++ more) → AreOwnChanges may more
own_back may [] more own = own
own_back may (change ∷ done) more own = own_back may done more own.1

left_told : Laws → (may : List ℕ → Type 0) (told : Told) (done more : List Change) (new : Option Told) → AreOwnChanges may done → AreOwnChanges may more → IsChanged (after_changes told done) more new → IsSomeAnd new (LeavesRest may StoreFault told)
left_told laws may told done [] new own next h = all_told laws may StoreFault told done new own h
left_told laws may told done (Removes name ∷ more) new own next h = all_told laws may StoreFault told done new own h
left_told laws may told done (Puts file ∷ more) None own next h = ⊎_elim {C = IsSomeAnd None (LeavesRest may StoreFault told)} (λ e. all_told laws may StoreFault told done None own e) (λ n. absurd n) h
left_told laws may told done (Puts file ∷ more) (Some left) own next h =
    ⊎_elim {C = IsSomeAnd (Some left) (LeavesRest may StoreFault told)} (λ e. all_told laws may StoreFault told done (Some left) own e) (λ l. rest_part laws may told left done file own next.0 l.0 l.1) h

part_told : Laws → (may : List ℕ → Type 0) (told : Told) (changes : List Change) (new : Option Told) → AreOwnChanges may changes → ChangePart told changes new → IsSomeAnd new (LeavesRest may StoreFault told)
part_told laws may told changes new own part =
    let both : AreOwnChanges may (part.done ++ part.more) = subst (AreOwnChanges may) part.split own in
    left_told laws may told part.done part.more new (own_front may part.done part.more both) (own_back may part.done part.more both) part.left

pub leaves_rest : Laws → (may : List ℕ → Type 0) (answer : Answer) (told : Told) (new : Option Told) → MakesSome may answer told new → IsSomeAnd new (LeavesRest may answer told)
leaves_rest laws may StoreFault told new h = part_told laws may told h.0 new h.1 h.2
leaves_rest laws may _ told new h = all_told laws may _ told h.0 new h.1 h.2
