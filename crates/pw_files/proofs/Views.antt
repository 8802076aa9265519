-- A list and what it is seen as.
use Rattle.std.proofs.Common.{◌≡◌, List, [], ◌∷◌, map, All, refl, ap}
use Rattle.std.specs.List.{AllByRecursion}
use Rattle.std.proofs.lemmas.List.Elements.{All-from_recursion, recursion_from_All}

-- what is made of the items that are seen
pub seen : {R X Y : Type 0} (view : R → X) (h : X → Y) (xs : List R) → map h (map view xs) ≡ map (λ x. h (view x)) xs
seen view h [] = refl
seen {R} {X} {Y} view h (x ∷ xs) = ap (λ (ys : List Y). h (view x) ∷ ys) (seen view h xs)

-- ---- what holds of each item

seen_each : {X Y : Type 0} (view : X → Y) (P : Y → Type 0) (xs : List X) → AllByRecursion P (map view xs) → AllByRecursion (λ x. P (view x)) xs
seen_each view P [] all = tt
seen_each view P (x ∷ xs) all = (all.0, seen_each view P xs all.1)

pub seen_all : {X Y : Type 0} (view : X → Y) (P : Y → Type 0) (xs : List X) → AllByRecursion P (map view xs) → All (λ x. P (view x)) xs
seen_all view P xs all = All-from_recursion (λ x. P (view x)) xs (seen_each view P xs all)

each_by_seen : {X Y : Type 0} (view : X → Y) (P : Y → Type 0) (xs : List X) → AllByRecursion (λ x. P (view x)) xs → AllByRecursion P (map view xs)
each_by_seen view P [] all = tt
each_by_seen view P (x ∷ xs) all = (all.0, each_by_seen view P xs all.1)

pub all_by_seen : {X Y : Type 0} (view : X → Y) (P : Y → Type 0) (xs : List X) → All (λ x. P (view x)) xs → AllByRecursion P (map view xs)
all_by_seen view P xs all = each_by_seen view P xs (recursion_from_All (λ x. P (view x)) xs all)
