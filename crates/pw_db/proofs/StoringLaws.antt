-- What is put into a database is a database, and one list of functions comes to one.
use Rattle.std.proofs.Common.{◌≡◌, ◌≢◌, ◌⊎◌, ℕ, Bool, true, false, cond, List, [], ◌∷◌, map, All, refl, sym, ap, subst, ◌∙◌, inl, inr}
use Rattle.std.specs.Prelude.{Option, Some, None, IsTrue, filter}
use Rattle.std.specs.List.{AllByRecursion, IsDistinct}
use Rattle.std.specs.List.Sorted.{IsPermutation, IsSortedBy}
use Rattle.std.specs.Str.{bytes_eq}
use Rattle.std.specs.Ordering.{nat_cmp, is_lt}
use Rattle.std.specs.Cmp.Lexicographic.{slice_cmp}
use Rattle.pw_files.specs.Rising.{IsRisingBehind}
use Rattle.pw_files.proofs.Standing.{Has, apart, contains_by, has_by, has_each, each_by, has_map, has_flat, has_flat_back, stands_or_not}
use Rattle.std.proofs.lemmas.List.Elements.{recursion_from_All}
use Rattle.pw_files.proofs.ByteOrder.{differ, sorted_rises, behind, less_differs, one_rising}
use Rattle.pw_db.specs.declared.database.Web.{Web}
use Rattle.pw_db.specs.declared.database.Directives.{Directives}
use Rattle.pw_db.specs.Database.{EachTwo, Agree, webs_of, all_webs, IsDirectives, IsDatabase, CanBeStored, IsStored, HasDirectives, empty, says_something}

-- ---- webs of functions

two_of : (xs : List Web) (a b : Web) → EachTwo Agree xs → Has a xs → Has b xs → Agree a b
two_of [] a b two h k = absurd h
two_of (x ∷ xs) a b two (inl e) (inl d) = λ same. sym e ∙ d
two_of (x ∷ xs) a b two (inl e) (inr k) = subst (λ (y : Web). Agree y b) e (has_each (Agree x) xs b two.0 k)
two_of (x ∷ xs) a b two (inr h) (inl d) = λ same. sym (subst (λ (y : Web). Agree y a) d (has_each (Agree x) xs a two.0 h) (sym same))
two_of (x ∷ xs) a b two (inr h) (inr k) = two_of xs a b two.1 h k

two_by : (xs : List Web) → ((a b : Web) → Has a xs → Has b xs → Agree a b) → EachTwo Agree xs
two_by [] f = tt
two_by (x ∷ xs) f = (each_by (Agree x) xs (λ y h. f x y (inl refl) (inr h)), two_by xs (λ a b h k. f a b (inr h) (inr k)))

-- the webs of functions agree, where all of them stand among webs that agree
webs_agree : (fs gs : List (List ℕ × Directives)) → EachTwo Agree (all_webs fs) → ((f : List ℕ × Directives) (w : Web) → Has f gs → Has w (webs_of f.1) → Has w (all_webs fs)) → EachTwo Agree (all_webs gs)
webs_agree fs gs agree there = two_by (all_webs gs) (λ a b h k. let p = has_flat_back (λ f. webs_of f.1) a gs h in let q = has_flat_back (λ f. webs_of f.1) b gs k in
    two_of (all_webs fs) a b agree (there p.0 a p.1 p.2) (there q.0 b q.1 q.2))

-- ---- those that pass a test

passes_by : {X : Type 0} (p : X → Bool) (y x : X) (ys : List X) (b : Bool) → p y ≡ b → (Has x (filter p ys) → Has x ys × IsTrue (p x)) → Has x (cond b (y ∷ filter p ys) (filter p ys)) → Has x (y ∷ ys) × IsTrue (p x)
passes_by p y x ys true is later (inl e) = (inl e, ap p (sym e) ∙ is)
passes_by p y x ys true is later (inr h) = let k = later h in (inr k.0, k.1)
passes_by p y x ys false is later h = let k = later h in (inr k.0, k.1)

passes : {X : Type 0} (p : X → Bool) (x : X) (xs : List X) → Has x (filter p xs) → Has x xs × IsTrue (p x)
passes p x [] h = absurd h
passes p x (y ∷ ys) h = passes_by p y x ys (p y) refl (passes p x ys) h

kept_by : {X : Type 0} (p : X → Bool) (y x : X) (ys : List X) (b : Bool) → p y ≡ b → IsTrue (p x) → (Has x ys → Has x (filter p ys)) → Has x (y ∷ ys) → Has x (cond b (y ∷ filter p ys) (filter p ys))
kept_by p y x ys true is passes_it later (inl e) = inl e
kept_by p y x ys true is passes_it later (inr h) = inr (later h)
kept_by p y x ys false is passes_it later (inl e) = absurd (apart (sym is ∙ ap p e ∙ passes_it))
kept_by p y x ys false is passes_it later (inr h) = later h

kept : {X : Type 0} (p : X → Bool) (x : X) (xs : List X) → IsTrue (p x) → Has x xs → Has x (filter p xs)
kept p x [] passes_it h = absurd h
kept p x (y ∷ ys) passes_it h = kept_by p y x ys (p y) refl passes_it (kept p x ys passes_it) h

each_filter : {X : Type 0} (p : X → Bool) (P : X → Type 0) (xs : List X) → AllByRecursion P xs → AllByRecursion P (filter p xs)
each_filter p P xs all = each_by P (filter p xs) (λ x h. has_each P xs x all (passes p x xs h).0)

two_filter_by : {X : Type 0} (p : X → Bool) (R : X → X → Type 0) (x : X) (xs : List X) (b : Bool) → AllByRecursion (R x) (filter p xs) → EachTwo R (filter p xs) → EachTwo R (cond b (x ∷ filter p xs) (filter p xs))
two_filter_by p R x xs true one two = (one, two)
two_filter_by p R x xs false one two = two

two_filter : {X : Type 0} (p : X → Bool) (R : X → X → Type 0) (xs : List X) → EachTwo R xs → EachTwo R (filter p xs)
two_filter p R [] two = tt
two_filter p R (x ∷ xs) two = two_filter_by p R x xs (p x) (each_filter p (R x) xs two.0) (two_filter p R xs two.1)

-- ---- names that differ

all_differ : {D : Type 0} (f : List ℕ × D) (fs : List (List ℕ × D)) → AllByRecursion (λ g. f.0 ≢ g.0) fs → AllByRecursion (λ n. bytes_eq f.0 n ≡ false) (map (λ g. g.0) fs)
all_differ f [] all = tt
all_differ f (g ∷ fs) all = (differ f.0 g.0 all.0, all_differ f fs all.1)

distinct : {D : Type 0} (fs : List (List ℕ × D)) → EachTwo (λ f g. f.0 ≢ g.0) fs → IsDistinct bytes_eq (map (λ f. f.0) fs)
unfolding IsDistinct
distinct [] two = tt
distinct (f ∷ fs) two = (all_differ f fs two.0, distinct fs two.1)

-- ---- what is stored

pub is_stored : {R : Type 0} (view : R → List ℕ × Directives) (fs : List (List ℕ × Directives)) (chosen sorted : List R) → CanBeStored fs → map view chosen ≡ filter says_something fs → IsPermutation chosen sorted
    → IsSortedBy (λ a b. is_lt (slice_cmp nat_cmp (view a).0 (view b).0)) sorted → IsStored fs (map view sorted) × IsDatabase (map view sorted)
is_stored view fs chosen sorted can same moved up =
    let source = filter says_something fs in
    let rises = sorted_rises view (λ f. f.0) source chosen sorted same (distinct source (two_filter says_something (λ f g. f.0 ≢ g.0) fs can.distinct)) moved up in
    let from : (f : List ℕ × Directives) → Has f (map view sorted) → Has f fs × IsTrue (says_something f) = λ f h. passes says_something f fs (has_by f source ((rises.1 f).0 (contains_by f (map view sorted) h))) in (
      record {
        order = rises.0;
        of = λ f. (
          λ h. let p = from f (has_by f (map view sorted) h) in (contains_by f fs p.0, p.1),
          λ h. (rises.1 f).1 (contains_by f source (kept says_something f fs h.1 (has_by f fs h.0))),
        );
      },
      record {
        functions = rises.0;
        directives = each_by (λ f. IsDirectives f.1) (map view sorted) (λ f h. has_each (λ g. IsDirectives g.1) fs f can.directives (from f h).0);
        agree = webs_agree fs (map view sorted) can.agree (λ f w h k. has_flat (λ g. webs_of g.1) f w fs (from f h).0 k);
      },
    )

-- ---- the functions to store are determined by the list

pub one_stored : (fs s t : List (List ℕ × Directives)) → IsStored fs s → IsStored fs t → s ≡ t
one_stored fs s t one two = one_rising (λ f. f.0) s t one.order two.order (λ f. (λ h. (two.of f).1 ((one.of f).0 h), λ h. (one.of f).1 ((two.of f).0 h)))

-- ---- a database can be stored again

pub rising_differ : {D : Type 0} (before : Option (List ℕ)) (fs : List (List ℕ × D)) → IsRisingBehind before (map (λ f. f.0) fs) → EachTwo (λ f g. f.0 ≢ g.0) fs
rising_differ before [] up = tt
rising_differ {D} before (f ∷ fs) up = (
  each_by (λ g. f.0 ≢ g.0) fs (λ g h. less_differs f.0 g.0 (behind f.0 (map (λ k. k.0) fs) g.0 up.1 (has_map (λ (k : List ℕ × D). k.0) g fs h))),
  rising_differ (Some f.0) fs up.1,
)

pub can_be_stored : (fs : List (List ℕ × Directives)) → IsDatabase fs → CanBeStored fs
can_be_stored fs is = record { distinct = rising_differ None fs is.functions; directives = is.directives; agree = is.agree }

-- ---- functions whose directives a database gives can be stored

given : (fs : List (List ℕ × Directives)) (f : List ℕ × Directives) → HasDirectives fs f → Has f.0 (map (λ g. g.0) fs) ⊎ (Has f.0 (map (λ g. g.0) fs) → ⊥) → Has f fs ⊎ (f.1 ≡ empty)
given fs f has (inl there) = inl (has_by f fs (has.found (contains_by f.0 (map (λ g. g.0) fs) there)))
given fs f has (inr lacks) = inr (has.lacks (λ h. lacks (has_by f.0 (map (λ g. g.0) fs) h)))

there_or_empty : (fs : List (List ℕ × Directives)) (f : List ℕ × Directives) → HasDirectives fs f → Has f fs ⊎ (f.1 ≡ empty)
there_or_empty fs f has = given fs f has (stands_or_not f.0 (map (λ g. g.0) fs))

none_lawful : IsDirectives empty
none_lawful = record { each = tt; numbers = tt; globals = tt; registers = tt; free = tt; saves = tt; apart = tt }

directives_lawful : (fs : List (List ℕ × Directives)) (f : List ℕ × Directives) → IsDatabase fs → Has f fs ⊎ (f.1 ≡ empty) → IsDirectives f.1
directives_lawful fs f is (inl h) = has_each (λ g. IsDirectives g.1) fs f is.directives h
directives_lawful fs f is (inr e) = subst IsDirectives (sym e) none_lawful

web_there : (fs : List (List ℕ × Directives)) (f : List ℕ × Directives) (w : Web) → Has f fs ⊎ (f.1 ≡ empty) → Has w (webs_of f.1) → Has w (all_webs fs)
web_there fs f w (inl h) k = has_flat (λ g. webs_of g.1) f w fs h k
web_there fs f w (inr e) k = absurd (subst (λ d. Has w (webs_of d)) e k)

all_given : (fs gs : List (List ℕ × Directives)) → IsDatabase fs → AllByRecursion (HasDirectives fs) gs → EachTwo (λ f g. f.0 ≢ g.0) gs → CanBeStored gs
all_given fs gs is has differ =
    let from : (f : List ℕ × Directives) → Has f gs → Has f fs ⊎ (f.1 ≡ empty) = λ f h. there_or_empty fs f (has_each (HasDirectives fs) gs f has h) in
    record {
      distinct = differ;
      directives = each_by (λ f. IsDirectives f.1) gs (λ f h. directives_lawful fs f is (from f h));
      agree = webs_agree fs gs is.agree (λ f w h k. web_there fs f w (from f h) k);
    }

-- ---- the same of functions in memory

name_differs : (f : List ℕ × Directives) (fs : List (List ℕ × Directives)) → AllByRecursion (λ n. f.0 ≢ n) (map (λ g. g.0) fs) → AllByRecursion (λ g. f.0 ≢ g.0) fs
name_differs f [] all = tt
name_differs f (g ∷ fs) all = (all.0, name_differs f fs all.1)

names_differ : (fs : List (List ℕ × Directives)) → EachTwo (λ f g. f ≢ g) (map (λ f. f.0) fs) → EachTwo (λ f g. f.0 ≢ g.0) fs
names_differ [] two = tt
names_differ (f ∷ fs) two = (name_differs f fs two.0, names_differ fs two.1)

pub module_stored : (db : List (List ℕ × Directives)) (names : List (List ℕ)) (fs : List (List ℕ × Directives)) → IsDatabase db → map (λ f. f.0) fs ≡ names → All (λ f. HasDirectives db f) fs → EachTwo (λ f g. f ≢ g) names → CanBeStored fs
module_stored db names fs is named has differ =
    all_given db fs is (recursion_from_All (HasDirectives db) fs has) (names_differ fs (subst (EachTwo (λ (f g : List ℕ). f ≢ g)) (sym named) differ))
