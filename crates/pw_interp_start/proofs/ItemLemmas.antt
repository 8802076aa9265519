-- The items of an initialiser, one after another.
use Rattle.std.proofs.Common.{ℕ, suc, ◌+◌, ◌<◌, ◌≡◌, refl, sym, ap, ◌∙◌, List, [], ◌∷◌, length, map, drop, set, get_or, arith}
use Rattle.std.proofs.Math.Seq.{drop-cons}
use Rattle.std.proofs.lemmas.List.{length-set}
use Rattle.pw_value.specs.declared.value.Byte.{Byte}
use Rattle.pw_value.specs.Objects.{with_bytes}
use Rattle.pw_typed.specs.declared.tree.TItem.{TItem}
use Rattle.pw_typed.specs.Views.{view_item, view_placed}
use Rattle.pw_types.specs.TypedTrees.{PlacedItem}
use Rattle.pw_cmean.specs.Worlds.{Program, item_bytes, with_items}

-- one item put into its place
pub item_put : (program : Program) (home : List ℕ) (items : List (ℕ × TItem)) (i : ℕ) (x : ℕ × TItem) (bytes new : List Byte)
    → i < length items → x ≡ get_or items i x → new ≡ with_bytes (item_bytes program home (view_item x.1)) x.0 bytes
    → with_items program home (map view_placed (drop i items)) bytes ≡ with_items program home (map view_placed (drop (i + 1) items)) new
item_put program home items i x bytes new less is e =
    let next : suc i ≡ i + 1 = omega arith in
    let front : drop i items ≡ get_or items i x ∷ drop (suc i) items = drop-cons items i x less in
    ap (λ (xs : List (ℕ × TItem)). with_items program home (map view_placed xs) bytes) front
    ∙ (ap (λ (y : ℕ × TItem). with_items program home (map view_placed (drop (suc i) items)) (with_bytes (item_bytes program home (view_item y.1)) y.0 bytes)) (sym is)
    ∙ (ap (λ (bs : List Byte). with_items program home (map view_placed (drop (suc i) items)) bs) (sym e)
    ∙ ap (λ (n : ℕ). with_items program home (map view_placed (drop n items)) new) next))

length_with_bytes : (new : List Byte) (offset : ℕ) (bytes : List Byte) → length (with_bytes new offset bytes) ≡ length bytes
length_with_bytes [] offset bytes = refl
length_with_bytes (x ∷ new) offset bytes = length_with_bytes new (suc offset) (set bytes offset x) ∙ length-set bytes offset x

pub length_with_items : (program : Program) (home : List ℕ) (items : List PlacedItem) (bytes : List Byte) → length (with_items program home items bytes) ≡ length bytes
length_with_items program home [] bytes = refl
length_with_items program home (placed ∷ rest) bytes =
    length_with_items program home rest (with_bytes (item_bytes program home placed.item) placed.offset bytes)
    ∙ length_with_bytes (item_bytes program home placed.item) placed.offset bytes
