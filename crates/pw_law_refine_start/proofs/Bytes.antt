-- Bytes side by side: what stands for what where both are written alike.
use Rattle.std.proofs.Common.{◌≡◌, ℕ, zero, suc, ◌+◌, arith, Option, Some, None, List, [], ◌∷◌, length, map, replicate, slice_set, refl, ap, ◌∙◌, inl, inr}
use Rattle.std.specs.Prelude.{option_map, unwrap_or, All}
use Rattle.std.proofs.lemmas.List.{length-set, length-replicate}
use Rattle.std.proofs.lemmas.List.Elements.{All-nil, All-from_recursion, All-head, All-tail, All-set, All-replicate, All-map}
use Rattle.pw_value.specs.declared.value.Byte.{Byte}
use Rattle.pw_value.specs.declared.value.Byte.TheVariants as B
use Rattle.pw_value.specs.declared.value.Pointer.{Pointer}
use Rattle.pw_value.specs.Objects.{byte_at, with_bytes}
use Rattle.pw_value.specs.Values.{pieces_of}
use Rattle.pw_types.specs.TypedTrees.{ItemValue, ItemBytes, ItemAddress, PlacedItem, ModuleValue}
use Rattle.pw_types.specs.TypedModules.{IsItem, AreItems, item_size}
use Rattle.pw_flow.specs.declared.flow.Item.{Item}
use Rattle.pw_lower.specs.Modules.{item_of, lowered_item}
use Rattle.pw_cmean.specs.Worlds.{Program, ProgramModule}
use Rattle.pw_cmean.specs.Worlds as source
use Rattle.pw_cmean.specs.Typed.{IsByte}
use Rattle.pw_run_languages.specs.Programs as flows
use Rattle.pw_law_refine_steps.specs.FromLawRefine.Standing.{Spot, Leads, ByteStands}
use Rattle.pw_files.proofs.Standing.{Has}

-- ---- lists of which the elements are related, each to each

abbrev pub Each : {X Y : Type 0} → (X → Y → Type 0) → List X → List Y → Type 0
Each R [] [] = Unit {0}
Each R (x ∷ xs) (y ∷ ys) = R x y × Each R xs ys
Each R xs ys = ⊥

each_set : {X Y : Type 0} (R : X → Y → Type 0) (xs : List X) (ys : List Y) (i : ℕ) (x : X) (y : Y) → Each R xs ys → R x y → Each R (slice_set xs i x) (slice_set ys i y)
each_set R [] [] i x y h r = tt
each_set R [] (b ∷ ys) i x y h r = absurd h
each_set R (a ∷ xs) [] i x y h r = absurd h
each_set R (a ∷ xs) (b ∷ ys) zero x y h r = (r, h.1)
each_set R (a ∷ xs) (b ∷ ys) (suc i) x y h r = (h.0, each_set R xs ys i x y h.1 r)

each_with : (R : Byte → Byte → Type 0) (new more : List Byte) (offset : ℕ) (xs ys : List Byte) → Each R new more → Each R xs ys → Each R (with_bytes new offset xs) (with_bytes more offset ys)
each_with R [] [] offset xs ys n h = h
each_with R [] (b ∷ more) offset xs ys n h = absurd n
each_with R (a ∷ new) [] offset xs ys n h = absurd n
each_with R (a ∷ new) (b ∷ more) offset xs ys n h = each_with R new more (suc offset) (slice_set xs offset a) (slice_set ys offset b) n.1 (each_set R xs ys offset a b h n.0)

each_fill : {X Y : Type 0} (R : X → Y → Type 0) (n : ℕ) (x : X) (y : Y) → R x y → Each R (replicate n x) (replicate n y)
each_fill R zero x y r = tt
each_fill R (suc n) x y r = (r, each_fill R n x y r)

pub each_length : {X Y : Type 0} (R : X → Y → Type 0) (xs : List X) (ys : List Y) → Each R xs ys → length xs ≡ length ys
each_length R [] [] h = refl
each_length R [] (b ∷ ys) h = absurd h
each_length R (a ∷ xs) [] h = absurd h
each_length R (a ∷ xs) (b ∷ ys) h = ap suc (each_length R xs ys h.1)

pub each_byte : (spots : List Spot) (xs ys : List Byte) → Each (ByteStands spots) xs ys → (i : ℕ) → ByteStands spots (byte_at xs i) (byte_at ys i)
each_byte spots [] ys h i = tt
each_byte spots (a ∷ xs) [] h i = absurd h
each_byte spots (a ∷ xs) (b ∷ ys) h zero = h.0
each_byte spots (a ∷ xs) (b ∷ ys) h (suc i) = each_byte spots xs ys h.1 i

-- ---- numbers, and the pieces of a pointer

pub each_number : (spots : List Spot) (bytes : List ℕ) → Each (ByteStands spots) (map B.Num bytes) (map B.Num bytes)
each_number spots [] = tt
each_number spots (b ∷ bytes) = (refl, each_number spots bytes)

pub each_piece : (spots : List Spot) (p r : Pointer) → Leads spots p r → Each (ByteStands spots) (pieces_of p) (pieces_of r)
each_piece spots p r l = ((r, l, refl), ((r, l, refl), ((r, l, refl), ((r, l, refl), tt))))

-- ---- the items of an object

module _ (p : Program) (q : flows.Program) (home : List ℕ) where
  items_each : (R : Byte → Byte → Type 0) (items : List PlacedItem)
      → ((i : PlacedItem) → Has i items → Each R (source.item_bytes p home i.item) (flows.item_bytes q (item_of home i.item)))
      → (xs ys : List Byte) → Each R xs ys → Each R (source.with_items p home items xs) (flows.with_items q (map (lowered_item home) items) ys)
  items_each R [] f xs ys h = h
  items_each R (i ∷ items) f xs ys h =
      items_each R items (λ j k. f j (inr k)) (with_bytes (source.item_bytes p home i.item) i.offset xs) (with_bytes (flows.item_bytes q (item_of home i.item)) i.offset ys)
      (each_with R (source.item_bytes p home i.item) (flows.item_bytes q (item_of home i.item)) i.offset xs ys (f i (inl refl)) h)

  pub filled_each : (R : Byte → Byte → Type 0) (items : List PlacedItem) (size : ℕ)
      → ((i : PlacedItem) → Has i items → Each R (source.item_bytes p home i.item) (flows.item_bytes q (item_of home i.item)))
      → R (B.Num 0) (B.Num 0)
      → Each R (source.with_items p home items (replicate size (B.Num 0))) (flows.with_items q (map (lowered_item home) items) (replicate size (B.Num 0)))
  filled_each R items size f zeros = items_each R items f (replicate size (B.Num 0)) (replicate size (B.Num 0)) (each_fill R size (B.Num 0) (B.Num 0) zeros)

length_with : (new : List Byte) (offset : ℕ) (xs : List Byte) → length (with_bytes new offset xs) ≡ length xs
length_with [] offset xs = refl
length_with (b ∷ new) offset xs = length_with new (suc offset) (slice_set xs offset b) ∙ length-set xs offset b

length_items : (q : flows.Program) (items : List (ℕ × Item)) (xs : List Byte) → length (flows.with_items q items xs) ≡ length xs
length_items q [] xs = refl
length_items q (i ∷ items) xs = length_items q items (with_bytes (flows.item_bytes q i.1) i.0 xs) ∙ length_with (flows.item_bytes q i.1) i.0 xs

pub length_filled : (q : flows.Program) (items : List (ℕ × Item)) (size : ℕ) → length (flows.with_items q items (replicate size (B.Num 0))) ≡ size
length_filled q items size = length_items q items (replicate size (B.Num 0)) ∙ length-replicate size (B.Num 0)

-- ---- they are bytes

bytes_with : (new : List Byte) (offset : ℕ) (xs : List Byte) → All IsByte new → All IsByte xs → All IsByte (with_bytes new offset xs)
bytes_with [] offset xs n h = h
bytes_with (b ∷ new) offset xs n h = bytes_with new (suc offset) (slice_set xs offset b) (All-tail IsByte b new n) (All-set IsByte xs offset b (All-head IsByte b new n) h)

pointer_bytes : (o : Option Pointer) → All IsByte (unwrap_or (option_map pieces_of o) [])
pointer_bytes None = All-nil IsByte
pointer_bytes (Some p) = All-from_recursion IsByte (pieces_of p) (tt, (tt, (tt, (tt, tt))))

item_bytes : (p : Program) (home : List ℕ) (m : ModuleValue) (i : ItemValue) → IsItem m i → All IsByte (source.item_bytes p home i)
item_bytes p home m (ItemBytes bytes) is = All-map IsByte B.Num bytes is
item_bytes p home m (ItemAddress s n) is = pointer_bytes (source.pointer_to p (source.full_name home s) n)

items_bytes : (p : Program) (home : List ℕ) (m : ModuleValue) (from size : ℕ) (items : List PlacedItem) (xs : List Byte) → AreItems m from size items → All IsByte xs → All IsByte (source.with_items p home items xs)
items_bytes p home m from size [] xs are h = h
items_bytes p home m from size (i ∷ items) xs are h =
    items_bytes p home m (i.offset + item_size i.item) size items (with_bytes (source.item_bytes p home i.item) i.offset xs) are.2
    (bytes_with (source.item_bytes p home i.item) i.offset xs (item_bytes p home m i.item are.1) h)

pub filled_bytes : (p : Program) (home : List ℕ) (m : ModuleValue) (from limit size : ℕ) (items : List PlacedItem) → AreItems m from limit items → All IsByte (source.with_items p home items (replicate size (B.Num 0)))
filled_bytes p home m from limit size items are =
    items_bytes p home m from limit items (replicate size (B.Num 0)) are (All-replicate IsByte size (B.Num 0) (omega arith))
