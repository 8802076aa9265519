-- A fact of each element of a list, where the list is made from another.
use Rattle.std.proofs.Common.{List, [], ◌∷◌, ◌++◌, ◌↔◌, map, All, sym, subst}
use Rattle.std.specs.List.{flat_map, AllByRecursion}
use Rattle.std.proofs.lemmas.List.Elements.{recursion_from_All, All-from_recursion}
use Rattle.std.proofs.lemmas.List.Concat.{flat_map-cons}

by_map : {X Y : Type 0} (f : X → Y) (P : Y → Type 0) (xs : List X) → AllByRecursion (λ x. P (f x)) xs → AllByRecursion P (map f xs)
by_map f P [] all = tt
by_map f P (x ∷ xs) all = (all.0, by_map f P xs all.1)

by_map_back : {X Y : Type 0} (f : X → Y) (P : Y → Type 0) (xs : List X) → AllByRecursion P (map f xs) → AllByRecursion (λ x. P (f x)) xs
by_map_back f P [] all = tt
by_map_back f P (x ∷ xs) all = (all.0, by_map_back f P xs all.1)

pub mapped : {X Y : Type 0} (f : X → Y) (P : Y → Type 0) (xs : List X) → All (λ x. P (f x)) xs → AllByRecursion P (map f xs)
mapped f P xs all = by_map f P xs (recursion_from_All (λ x. P (f x)) xs all)

pub unmapped : {X Y : Type 0} (f : X → Y) (P : Y → Type 0) (xs : List X) → AllByRecursion P (map f xs) → All (λ x. P (f x)) xs
unmapped f P xs all = All-from_recursion (λ x. P (f x)) xs (by_map_back f P xs all)

pub all_append : {X : Type 0} (P : X → Type 0) (xs ys : List X) → AllByRecursion P xs → AllByRecursion P ys → AllByRecursion P (xs ++ ys)
all_append P [] ys one two = two
all_append P (x ∷ xs) ys one two = (one.0, all_append P xs ys one.1 two)

pub all_left : {X : Type 0} (P : X → Type 0) (xs ys : List X) → AllByRecursion P (xs ++ ys) → AllByRecursion P xs
all_left P [] ys all = tt
all_left P (x ∷ xs) ys all = (all.0, all_left P xs ys all.1)

pub all_right : {X : Type 0} (P : X → Type 0) (xs ys : List X) → AllByRecursion P (xs ++ ys) → AllByRecursion P ys
all_right P [] ys all = all
all_right P (x ∷ xs) ys all = all_right P xs ys all.1

-- ---- of each element of the lists that elements make

pub all_flat : {X Y : Type 0} (f : X → List Y) (P : Y → Type 0) (xs : List X) → AllByRecursion (λ x. AllByRecursion P (f x)) xs → AllByRecursion P (flat_map f xs)
all_flat f P [] all = tt
all_flat {X} {Y} f P (x ∷ xs) all = subst (λ (ys : List Y). AllByRecursion P ys) (sym (flat_map-cons f x xs)) (all_append P (f x) (flat_map f xs) all.0 (all_flat f P xs all.1))

pub all_flat_back : {X Y : Type 0} (f : X → List Y) (P : Y → Type 0) (xs : List X) → AllByRecursion P (flat_map f xs) → AllByRecursion (λ x. AllByRecursion P (f x)) xs
all_flat_back f P [] all = tt
all_flat_back {X} {Y} f P (x ∷ xs) all =
    let both = subst (λ (ys : List Y). AllByRecursion P ys) (flat_map-cons f x xs) all in
    (all_left P (f x) (flat_map f xs) both, all_flat_back f P xs (all_right P (f x) (flat_map f xs) both))

-- ---- two facts

pub all_both : {X : Type 0} (P Q : X → Type 0) (xs : List X) → AllByRecursion P xs → AllByRecursion Q xs → AllByRecursion (λ x. P x × Q x) xs
all_both P Q [] one two = tt
all_both P Q (x ∷ xs) one two = ((one.0, two.0), all_both P Q xs one.1 two.1)

pub all_first : {X : Type 0} (P Q : X → Type 0) (xs : List X) → AllByRecursion (λ x. P x × Q x) xs → AllByRecursion P xs
all_first P Q [] all = tt
all_first P Q (x ∷ xs) all = (all.0.0, all_first P Q xs all.1)

pub all_second : {X : Type 0} (P Q : X → Type 0) (xs : List X) → AllByRecursion (λ x. P x × Q x) xs → AllByRecursion Q xs
all_second P Q [] all = tt
all_second P Q (x ∷ xs) all = (all.0.1, all_second P Q xs all.1)

-- what a code's test says of each element of a list and of what the elements name
pub lawful : {X Y : Type 0} (Is : X → Type 0) (names : X → List Y) (P : Y → Type 0) (xs : List X)
    → All (λ x. Is x × AllByRecursion P (names x)) xs ↔ AllByRecursion Is xs × AllByRecursion P (flat_map names xs)
lawful Is names P xs = (
  λ all.
      let both = recursion_from_All (λ x. Is x × AllByRecursion P (names x)) xs all in
      (all_first Is (λ x. AllByRecursion P (names x)) xs both, all_flat names P xs (all_second Is (λ x. AllByRecursion P (names x)) xs both)),
  λ both. All-from_recursion (λ x. Is x × AllByRecursion P (names x)) xs (all_both Is (λ x. AllByRecursion P (names x)) xs both.0 (all_flat_back names P xs both.1)),
)

-- the same where the elements are lawful in any case
pub ordinary : {X Y : Type 0} (names : X → List Y) (P : Y → Type 0) (xs : List X)
    → All (λ x. AllByRecursion P (names x)) xs ↔ AllByRecursion P (flat_map names xs)
ordinary names P xs = (
  λ all. all_flat names P xs (recursion_from_All (λ x. AllByRecursion P (names x)) xs all),
  λ all. All-from_recursion (λ x. AllByRecursion P (names x)) xs (all_flat_back names P xs all),
)
