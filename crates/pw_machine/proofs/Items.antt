-- Items of data that are written over a memory.
use Rattle.std.proofs.Common.{ℕ, zero, suc, ◌+◌, ◌<◌, ◌≤◌, ◌≡◌, List, [], ◌∷◌, length, take, get_or, All, refl, arith}
use Rattle.std.specs.List.{AllByRecursion}
use Rattle.std.proofs.lemmas.List.Elements.{All-from_recursion}
use Rattle.pw_image.specs.declared.image.DataItem.{DataItem}
use Rattle.pw_image.specs.Image.{AreItems, free_behind}
use Rattle.pw_machine.specs.Start.{overwritten, with_items}

-- one item more
pub with_items-more : (memory : List ℕ) (a : ℕ) (items : List DataItem) (k : ℕ) (d : DataItem) → k < length items → with_items memory a (take (suc k) items) ≡ overwritten (with_items memory a (take k items)) (a + (get_or items k d).offset) (get_or items k d).bytes
with_items-more memory a [] k d lt = absurd (omega arith)
with_items-more memory a (i ∷ items) zero d lt = refl
with_items-more memory a (i ∷ items) (suc k) d lt = with_items-more (overwritten memory (a + i.offset) i.bytes) a items k d (omega arith)

within_by : (size free : ℕ) (items : List DataItem) → AreItems size free items → AllByRecursion (λ i. i.offset + length i.bytes ≤ size) items
within_by size free [] are = tt
within_by size free (i ∷ items) are = (are.1, within_by size (free_behind i) items are.2)

-- each item of lawful data lies inside them
pub items_within : (size free : ℕ) (items : List DataItem) → AreItems size free items → All (λ i. i.offset + length i.bytes ≤ size) items
items_within size free items are = All-from_recursion (λ i. i.offset + length i.bytes ≤ size) items (within_by size free items are)
