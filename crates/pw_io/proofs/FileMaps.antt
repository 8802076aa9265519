-- Files as a map from names to bytes: what a change does to each name, and the order of the names.
use Rattle.std.proofs.Common.{◌≡◌, ◌≢◌, ◌↔◌, ⊎_elim, ℕ, ◌<◌, length, take, List, [], ◌∷◌, map, Bool, true, false, ◌&&◌, Some, None, IsSome, Contains, T, refl, sym, ap, ◌∙◌}
use Rattle.std.specs.Ordering.{nat_cmp, eq_by_cmp, is_lt, is_eq}
use Rattle.std.specs.declared.cmp.Ordering.{Ordering}
use Rattle.std.specs.declared.cmp.Ordering.TheVariants.{Less, Equal, Greater}
use Rattle.std.specs.Cmp.Lexicographic.{slice_cmp}
use Rattle.std.specs.List.{AllByRecursion}
use Rattle.std.specs.List.Sorted.{IsStrictlySortedBy}
use Rattle.std.specs.FinMap as finite
use Rattle.std.specs.FinMap.Entries.{below_all}
use Rattle.std.specs.FinMap.{is_sorted, get-insert, get-remove, entries_sorted, contains_key-keys}
use Rattle.std.proofs.lemmas.Bool.{cond-true, cond-false, false_from_ne_true}
use Rattle.std.proofs.lemmas.Cmp.{nat_list_cmp_total, eq_by_cmp_equiv, tied_itself}
use Rattle.std.proofs.lemmas.Map.Lookups.{exact_bytes}
use Rattle.std.proofs.lemmas.Map.Views.{tells_apart, Contains-from_any, list_any-from_Contains}
use Rattle.pw_io.specs.Files.{Files, LeavesFile}

-- the order of names
abbrev by_bytes : List ℕ → List ℕ → Ordering
by_bytes = slice_cmp nat_cmp

is_itself : (name : List ℕ) → eq_by_cmp by_bytes name name ≡ true
is_itself name = ap is_eq (tied_itself nat_list_cmp_total name)

is_other : (other name : List ℕ) → other ≢ name → eq_by_cmp by_bytes other name ≡ false
is_other other name apart = false_from_ne_true (eq_by_cmp by_bytes other name) (λ same. apart (tells_apart exact_bytes other name same))

pub get-insert_same : (files : Files) (name bytes : List ℕ) → finite.get (finite.insert files name bytes) name ≡ Some bytes
get-insert_same files name bytes = get-insert nat_list_cmp_total files name bytes name ∙ cond-true _ (Some bytes) (finite.get files name) (is_itself name)

pub get-remove_same : (files : Files) (name : List ℕ) → finite.get (finite.remove files name) name ≡ None
get-remove_same files name = get-remove nat_list_cmp_total files name name ∙ cond-true _ None (finite.get files name) (is_itself name)

pub get-insert_other : (files : Files) (name bytes other : List ℕ) → other ≢ name → finite.get (finite.insert files name bytes) other ≡ finite.get files other
get-insert_other files name bytes other apart = get-insert nat_list_cmp_total files name bytes other ∙ cond-false _ (Some bytes) (finite.get files other) (is_other other name apart)

pub get-remove_other : (files : Files) (name other : List ℕ) → other ≢ name → finite.get (finite.remove files name) other ≡ finite.get files other
get-remove_other files name other apart = get-remove nat_list_cmp_total files name other ∙ cond-false _ None (finite.get files other) (is_other other name apart)

pub get-left : (old new : Files) (name bytes other : List ℕ) → LeavesFile old new name bytes → other ≢ name → finite.get new other ≡ finite.get old other
get-left old new name bytes other left apart =
    ⊎_elim
    (λ (same : new ≡ old). ap (λ m. finite.get m other) same)
    (⊎_elim
    (λ (gone : new ≡ finite.remove old name). ap (λ m. finite.get m other) gone ∙ get-remove_other old name other apart)
    (λ (part : (n : ℕ) × (n < length bytes) × (new ≡ finite.insert old name (take n bytes))). ap (λ m. finite.get m other) part.2 ∙ get-insert_other old name (take part.0 bytes) other apart))
    left

first : (a b : Bool) → T (a && b) → T a
first true b p = tt
first false b p = p

second : (a b : Bool) → T (a && b) → T b
second true b p = p
second false b p = absurd p

less : (o : Ordering) → T (is_lt o) → o ≡ Less
less Less p = refl
less Equal p = absurd p
less Greater p = absurd p

all_above : (name : List ℕ) (entries : List (List ℕ × List ℕ)) → T (below_all by_bytes name entries) → AllByRecursion (λ y. by_bytes name y ≡ Less) (map (λ (e : List ℕ × List ℕ). e.0) entries)
all_above name [] h = tt
all_above name (e ∷ es) h = (less _ (first _ _ h), all_above name es (second _ _ h))

in_order : (entries : List (List ℕ × List ℕ)) → T (is_sorted by_bytes entries) → IsStrictlySortedBy by_bytes (map (λ (e : List ℕ × List ℕ). e.0) entries)
unfolding IsStrictlySortedBy
in_order [] h = tt
in_order (e ∷ es) h = (all_above e.0 es (first _ _ h), in_order es (second _ _ h))

-- the names are in byte order
pub keys-order : (files : Files) → IsStrictlySortedBy by_bytes (finite.keys files)
keys-order files = in_order (finite.entries files) (entries_sorted files)

-- the names are those that have a file
pub keys-exact : (files : Files) (name : List ℕ) → Contains (finite.keys files) name ↔ IsSome (finite.get files name)
keys-exact files name = (
  λ within. contains_key-keys files name ∙ list_any-from_Contains (eq_by_cmp_equiv nat_list_cmp_total) name (finite.keys files) within,
  λ found. Contains-from_any (tells_apart exact_bytes) name (finite.keys files) (sym (contains_key-keys files name) ∙ found),
)
