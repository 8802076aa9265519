-- What stands where in a linked program.
use Rattle.std.specs.Prelude.{ℕ, ◌≡◌, false, ◌+◌, ◌*◌, ◌%◌, ◌<◌, ◌≤◌, List, [], ◌∷◌, ◌++◌, length, slice_index}
use Rattle.std.specs.List.{AllByRecursion}
use Rattle.pw_value.specs.Limits.{text_start}
use Rattle.pw_object.specs.declared.object.Object.{Object}
use Rattle.pw_image.specs.declared.image.DataItem.{DataItem}
use Rattle.pw_machine.specs.Core.{byte_at, word_at}
use Rattle.pw_value.specs.Names.{is_before}
use Rattle.pw_link.specs.Layout.{Placed, Standing, Sites, sites_by, text_of, data_of, data_begin, stack_end}
use Rattle.pw_link.specs.Linking.{item_at, item_bytes}

-- the addresses of a linked program
abbrev pub sites : List Object → ℕ → Sites
sites objects stack = sites_by (text_of objects) (data_begin objects) (data_of objects) (stack_end objects stack)

-- these words stand at an address, in a text that begins at its own
pub record StandsInText (words : List ℕ) (address : ℕ) (own : List ℕ) : Type 0 where
  pub before : List ℕ
  pub after : List ℕ
  pub is : words ≡ before ++ (own ++ after)
  pub at : address ≡ text_start + 4 * length before

-- this is one of the items of the data
pub record StandsInData (items : List DataItem) (i : DataItem) : Type 0 where
  pub before : List DataItem
  pub after : List DataItem
  pub is : items ≡ before ++ i ∷ after

-- an object's items stand in the data, each at the object's offset and its own
abbrev pub ItemsStand : List Object → ℕ → List DataItem → Standing → Type 0
ItemsStand objects stack items s = AllByRecursion (λ i. StandsInData items (item_at (sites objects stack).named s.offset i)) s.global.items

-- What is placed one behind the other: each at a multiple of 4 from an address on, with its words before the next.
abbrev pub AreApart : ℕ → List Placed → Type 0
AreApart free [] = Unit {0}
AreApart free (p ∷ rest) = (free ≤ p.address) × (p.address % 4 ≡ 0) × AreApart (p.address + 4 * length p.piece.words) rest

-- each object at a multiple of 8 from an offset on, with its own bytes, one more than its size, before the next;
-- and the last ends at the end of the data
abbrev pub OwnTheirBytes : ℕ → ℕ → List Standing → Type 0
OwnTheirBytes end free [] = free ≤ end
OwnTheirBytes end free (s ∷ rest) = (free ≤ s.offset) × (s.offset % 8 ≡ 0) × OwnTheirBytes end (s.offset + (s.global.size + 1)) rest

-- no module's name is before that of one in front of it
abbrev pub AreInOrder : List Object → Type 0
AreInOrder [] = Unit {0}
AreInOrder (o ∷ rest) = AllByRecursion (λ p. is_before p.module o.module ≡ false) rest × AreInOrder rest

-- ---- in the memory of a machine

-- the words stand there from an address on
abbrev pub HasWords : List ℕ → ℕ → List ℕ → Type 0
HasWords memory address words = (i : ℕ) → i < length words → word_at memory (address + 4 * i) ≡ slice_index words i

abbrev pub HasBytes : List ℕ → ℕ → List ℕ → Type 0
HasBytes memory address bytes = (k : ℕ) → k < length bytes → byte_at memory (address + k) ≡ slice_index bytes k

-- an object's items, where the data begin at an address
abbrev pub HasItems : List Object → ℕ → List ℕ → Standing → Type 0
HasItems objects stack memory s =
    AllByRecursion (λ i. HasBytes memory (data_begin objects + (item_at (sites objects stack).named s.offset i).offset) (item_bytes (sites objects stack).named i.1)) s.global.items
