-- The return addresses of a setting are words.
use Rattle.std.specs.Prelude.{ℕ, ◌≡◌, ◌+◌, ◌*◌, ◌^◌, ◌<◌, ◌≤◌, ◌==◌, Bool, true, false, if◌then◌else◌, Option, Some, None, List, [], ◌∷◌, find}
use Rattle.std.specs.List.{AllByRecursion}
use Rattle.std.specs.Str.{bytes_eq}
use Rattle.std.proofs.Common.{arith, subst, ap, refl}
use Rattle.std.proofs.lemmas.List.Sums.{sum_by-cons}
use Rattle.std.proofs.lemmas.Slice.Eq.{bytes_eq-Decides}
use Rattle.pw_object.specs.declared.object.Object.{Object}
use Rattle.pw_alloc.specs.declared.located.Located.{Located}
use Rattle.pw_link.specs.Linking.{linked}
use Rattle.pw_select.specs.Selection.{selected}
use Rattle.pw_delay.specs.declared.items.Item.{Item}
use Rattle.pw_delay.specs.declared.items.Item.TheVariants.{Plain, Turns, Mark}
use Rattle.pw_delay.specs.Placement.{size, sizes}
use Rattle.pw_run_languages.specs.LineRun.{turns}
use Rattle.pw_run_languages.specs.CodeStands.{is_long}
use Rattle.pw_run_languages.specs.SelectionLaws.{arranged}
use Rattle.pw_run_languages.specs.LinkingLaws.{address_of}
use Rattle.pw_law_linked.specs.Settings.{behind_in, behind_of}
use Rattle.pw_law_linked.specs.Standing.{EndsBelow}
use Rattle.pw_law_linked.proofs.Sizes.{placed_length}

either_small : (b : Bool) (x y top : ℕ) → x ≤ top → y ≤ top → (if b then x else y) ≤ top
either_small true x y top h k = h
either_small false x y top h k = k

behind_small : (long : Bool) (at : ℕ) (items : List Item) (n : ℕ) → behind_in long at items n ≤ at + 4 * sizes long items + 8
behind_small long at [] n = omega arith
behind_small long at (Plain w ∷ rest) n = omega (arith, behind_small long (at + 4 * size long (Plain w)) rest n, sum_by-cons (size long) (Plain w) rest)
behind_small long at (Mark b ∷ rest) n = omega (arith, behind_small long (at + 4 * size long (Mark b)) rest n, sum_by-cons (size long) (Mark b) rest)
behind_small long at (Turns turn slot ∷ rest) n =
    let count = sum_by-cons (size long) (Turns turn slot) rest in
    let later = behind_small long (at + 4 * size long (Turns turn slot)) rest n in
    either_small (turns rest == n) (at + 8) (behind_in long (at + 4 * size long (Turns turn slot)) rest n) (at + 4 * sizes long (Turns turn slot ∷ rest) + 8)
    (omega arith) (omega (arith, later, count))

-- what is found has what all have, and passes the test
record FoundSome (P : Located → Type 0) (test : Located → Bool) (l : Located) : Type 0 where
  holds : P l
  passes : test l ≡ true

found_some : (P : Located → Type 0) (test : Located → Bool) (ls : List Located) (l : Located) → AllByRecursion P ls → find test ls ≡ Some l → FoundSome P test l
found_some P test [] l all e = absurd cc
found_some P test (x ∷ ls) l all e = by (test x) refl e (found_some P test ls l all.1)
  where
    by : (b : Bool) → test x ≡ b → (if b then Some x else find test ls) ≡ Some l → (find test ls ≡ Some l → FoundSome P test l) → FoundSome P test l
    by true is e later = let same : x ≡ l = cc in subst (FoundSome P test) same (record { holds = all.0; passes = is })
    by false is e later = later e

pub returns_words : (functions : List Located) (objects : List Object) (stack : ℕ) → AllByRecursion (EndsBelow objects stack) functions → (name : List ℕ) (n : ℕ) → behind_of functions objects stack name n < 2 ^ 32
returns_words functions objects stack all name n = by (find (λ l. bytes_eq l.body.name name) functions) refl
  where
    by : (o : Option Located) → find (λ l. bytes_eq l.body.name name) functions ≡ o → behind_of functions objects stack name n < 2 ^ 32
    by None e = let none : behind_of functions objects stack name n ≡ 0 = rw e refl in omega (arith, none)
    by (Some l) e =
        let found = found_some (EndsBelow objects stack) (λ l. bytes_eq l.body.name name) functions l all e in
        let same : l.body.name ≡ name = (bytes_eq-Decides l.body.name name).0 found.passes in
        let is : behind_of functions objects stack name n ≡ behind_in (is_long (selected l)) (address_of (linked objects stack) name) (arranged (selected l)) n = rw e refl in
        let own : address_of (linked objects stack) l.body.name ≡ address_of (linked objects stack) name = ap (address_of (linked objects stack)) same in
        let small = behind_small (is_long (selected l)) (address_of (linked objects stack) name) (arranged (selected l)) n in
        let top = found.holds in
        omega (arith, is, own, small, top, placed_length (selected l))
