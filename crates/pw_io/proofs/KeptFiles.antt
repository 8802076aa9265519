-- The files of a map, by what the map's calls ensure.
use Rattle.std.proofs.Common.{◌≡◌, ℕ, List, [], ◌∷◌, ◌++◌, map, reverse, Bool, true, false, cond, Option, Some, None, Vec, String, string_bytes, T, ◌&&◌, refl, sym, ap, ◌∙◌, subst}
use Rattle.std.specs.Option.{option_map}
use Rattle.std.specs.Ordering.{nat_cmp, eq_by_cmp, is_lt}
use Rattle.std.specs.Cmp.Lexicographic.{slice_cmp}
use Rattle.std.specs.declared.cmp.Ordering.TheVariants.{Less}
use Rattle.std.specs.List.{AllByRecursion}
use Rattle.std.specs.List.Sorted.{IsStrictlySortedBy}
use Rattle.std.specs.String.{string_cmp}
use Rattle.std.specs.Str.{bytes_eq}
use Rattle.std.specs.Map.{lookup, keys_of}
use Rattle.std.specs.declared.alloc.Global.{Global}
use Rattle.std.specs.BTreeMap as tree
use Rattle.std.specs.FinMap as finite
use Rattle.std.specs.FinMap.Entries.{below_all}
use Rattle.std.specs.FinMap.{find, is_sorted, get-from_sorted, entries-from_sorted, slice_cmp-IsAntisymmetric, nat_cmp-IsAntisymmetric, get-from_entries, get-insert, get-remove, same_map}
use Rattle.std.proofs.lemmas.List.{map-append, reverse-append}
use Rattle.std.proofs.lemmas.Cmp.{nat_list_cmp_total, eq_by_cmp_equiv}
use Rattle.std.proofs.lemmas.Map.Text.{btree_map_updates_text, is_eq-slice_cmp}
use Rattle.pw_io.specs.Shelf.{file_shown, files_in, files_of}

abbrev Kept : Type 0
Kept = tree.BTreeMap (String Global) (Vec ℕ Global)

-- names are apart exactly where their bytes are
same_name : finite.IsAntisymmetric (slice_cmp nat_cmp)
same_name = slice_cmp-IsAntisymmetric nat_cmp-IsAntisymmetric

-- the two look-ups agree on a list
find-map : (name : List ℕ) (entries : List (String Global × Vec ℕ Global)) → find (slice_cmp nat_cmp) name (map file_shown entries) ≡ option_map (λ (v : Vec ℕ Global). v.items) (lookup (tree.is_at (λ k. slice_cmp nat_cmp name (string_bytes k))) entries)
find-map name [] = refl
find-map name (e ∷ es) =
    elim (eq_by_cmp (slice_cmp nat_cmp) name (string_bytes e.0)) as (λ b. cond b (Some e.1.items) (find (slice_cmp nat_cmp) name (map file_shown es)) ≡ option_map (λ (v : Vec ℕ Global). v.items) (cond b (Some e.1) (lookup (tree.is_at (λ k. slice_cmp nat_cmp name (string_bytes k))) es))) [ true ↦ refl | false ↦ find-map name es ]

-- what a look-up by bytes finds
pub get-files_in : (kept : Kept) (name : List ℕ) → finite.get (files_in kept) name ≡ option_map (λ (v : Vec ℕ Global). v.items) (tree.get_by_text kept name)
unfolding files_in
get-files_in kept name = get-from_entries nat_list_cmp_total (map file_shown kept.entries) name ∙ find-map name kept.entries

-- the two tests of names agree, whichever comes first
same_test : (a b : List ℕ) → bytes_eq a b ≡ eq_by_cmp (slice_cmp nat_cmp) b a
same_test a b = sym (is_eq-slice_cmp a b) ∙ (eq_by_cmp_equiv nat_list_cmp_total).symm a b

-- after a change at one name
after : (old new : Kept) (name : List ℕ) (w : Option (Vec ℕ Global)) → tree.UpdatesBy string_cmp (λ k. slice_cmp nat_cmp name (string_bytes k)) old new w → (q : List ℕ) → finite.get (files_in new) q ≡ cond (eq_by_cmp (slice_cmp nat_cmp) q name) (option_map (λ (v : Vec ℕ Global). v.items) w) (finite.get (files_in old) q)
after old new name w updates q =
    get-files_in new q
    ∙ ap (option_map (λ (v : Vec ℕ Global). v.items)) (btree_map_updates_text name old new w updates q ∙ ap (λ b. cond b w (tree.get_by_text old q)) (same_test name q))
    ∙ elim (eq_by_cmp (slice_cmp nat_cmp) q name) as (λ b. option_map (λ (v : Vec ℕ Global). v.items) (cond b w (tree.get_by_text old q)) ≡ cond b (option_map (λ (v : Vec ℕ Global). v.items) w) (option_map (λ (v : Vec ℕ Global). v.items) (tree.get_by_text old q))) [ true ↦ refl | false ↦ refl ]
    ∙ ap (cond (eq_by_cmp (slice_cmp nat_cmp) q name) (option_map (λ (v : Vec ℕ Global). v.items) w)) (sym (get-files_in old q))

-- an insertion sets the bytes of a name
pub files_in-insert : (old new : Kept) (name : List ℕ) (v : Vec ℕ Global) → tree.UpdatesBy string_cmp (λ k. slice_cmp nat_cmp name (string_bytes k)) old new (Some v) → files_in new ≡ finite.insert (files_in old) name v.items
files_in-insert old new name v updates =
    same_map nat_list_cmp_total same_name (files_in new) (finite.insert (files_in old) name v.items) (λ q. after old new name (Some v) updates q ∙ sym (get-insert nat_list_cmp_total (files_in old) name v.items q))

-- a removal takes a name out
pub files_in-remove : (old new : Kept) (name : List ℕ) → tree.UpdatesBy string_cmp (λ k. slice_cmp nat_cmp name (string_bytes k)) old new None → files_in new ≡ finite.remove (files_in old) name
files_in-remove old new name updates =
    same_map nat_list_cmp_total same_name (files_in new) (finite.remove (files_in old) name) (λ q. after old new name None updates q ∙ sym (get-remove nat_list_cmp_total (files_in old) name q))

-- entries that stay
pub files_in-same : (old new : Kept) → new.entries ≡ old.entries → files_in new ≡ files_in old
unfolding files_in
files_in-same old new e = ap (λ es. finite.from_entries (map file_shown es)) e

-- no entries are the files of no list
pub files_in-none : (kept : Kept) → kept.entries ≡ [] → files_in kept ≡ files_of []
unfolding files_in files_of
files_in-none kept e = ap (λ es. finite.from_entries (map file_shown es)) e

both : (a b : Bool) → T a → T b → T (a && b)
both true b p q = q
both false b p q = absurd p

-- a name that is below all others is so by its bytes
is_below : (name : String Global) (entries : List (String Global × Vec ℕ Global)) → AllByRecursion (λ y. string_cmp name y ≡ Less) (keys_of entries) → T (below_all (slice_cmp nat_cmp) (string_bytes name) (map file_shown entries))
is_below name [] h = tt
is_below name (e ∷ es) h = both _ _ (subst (λ o. T (is_lt o)) (sym h.0) tt) (is_below name es h.1)

-- names in order are so by their bytes
is_sorted-shown : (entries : List (String Global × Vec ℕ Global)) → IsStrictlySortedBy string_cmp (keys_of entries) → T (is_sorted (slice_cmp nat_cmp) (map file_shown entries))
unfolding IsStrictlySortedBy
is_sorted-shown [] h = tt
is_sorted-shown (e ∷ es) h = both _ _ (is_below e.0 es h.0) (is_sorted-shown es h.1)

-- a map of entries in order has these entries
from_entries-from_sorted : (es : List (List ℕ × List ℕ)) → T (is_sorted (slice_cmp nat_cmp) es) → finite.from_entries {R = slice_cmp nat_cmp} es ≡ finite.from_sorted es
from_entries-from_sorted es h =
    same_map nat_list_cmp_total same_name (finite.from_entries es) (finite.from_sorted es) (λ q. get-from_entries nat_list_cmp_total es q ∙ sym (get-from_sorted (slice_cmp nat_cmp) es q h))

names-shown : (entries : List (String Global × Vec ℕ Global)) → map (λ (e : List ℕ × List ℕ). e.0) (map file_shown entries) ≡ map string_bytes (keys_of entries)
names-shown [] = refl
names-shown (e ∷ es) = ap (λ names. string_bytes e.0 ∷ names) (names-shown es)

-- the names in order are those of the files
pub keys-files_in : (kept : Kept) → tree.IsOrdered string_cmp kept → finite.keys (files_in kept) ≡ map string_bytes (tree.keys kept)
unfolding files_in
keys-files_in kept ordered =
    let sorted = is_sorted-shown kept.entries ordered in
    ap (λ m. finite.keys m) (from_entries-from_sorted (map file_shown kept.entries) sorted)
    ∙ ap (map (λ (e : List ℕ × List ℕ). e.0)) (entries-from_sorted (slice_cmp nat_cmp) (map file_shown kept.entries) sorted)
    ∙ names-shown kept.entries

-- no entries, no files
pub files_of-none : files_of [] ≡ finite.empty
unfolding files_of
files_of-none = refl

-- one more entry is set after those before it
pub files_of-more : (entries : List (String Global × Vec ℕ Global)) (entry : String Global × Vec ℕ Global) → files_of (entries ++ entry ∷ []) ≡ finite.insert (files_of entries) (string_bytes entry.0) entry.1.items
unfolding files_of
files_of-more entries entry =
    ap (λ es. finite.from_entries (reverse es)) (map-append file_shown entries (entry ∷ []))
    ∙ ap finite.from_entries (reverse-append (map file_shown entries) (file_shown entry ∷ []))

-- what a step on the map does to its files
pub ruleset file_steps = (get-files_in, files_in-insert, files_in-remove, files_in-same, files_in-none, keys-files_in, files_of-more)
