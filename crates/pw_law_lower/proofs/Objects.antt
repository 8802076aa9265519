-- The objects of a module.
use Rattle.std.proofs.Common.{◌≡◌, ℕ, ◌+◌, ◌<◌, ◌≤◌, ◌^◌, max, Option, Some, None, IfSome, option_map, unwrap_or, List, [], ◌∷◌, map, refl, subst, arith}
use Rattle.std.specs.Prelude.{All, Contains, IsSomeAnd}
use Rattle.std.specs.List.{AllByRecursion}
use Rattle.std.proofs.lemmas.List.Elements.{recursion_from_All}
use Rattle.pw_value.specs.Limits.{size_limit}
use Rattle.pw_value.specs.ProgramNames.{IsOrdinary}
use Rattle.pw_types.specs.declared.kind.IntKind.{IntKind}
use Rattle.pw_types.specs.declared.kind.IntKind.TheVariants as K
use Rattle.pw_types.specs.declared.record.Layout.{Layout}
use Rattle.pw_types.specs.Conversions.{size_of_kind}
use Rattle.pw_types.specs.Layouts.{layout_of}
use Rattle.pw_types.specs.Records.{IsObjectType}
use Rattle.pw_types.specs.TypeTrees.{CType, Void, Int, Pointer, Array, Function, Record, type_of, RecordValue}
use Rattle.pw_types.specs.TypedModules.{AreItems as AreTypedItems, IsItem as IsTypedItem, IsName, item_size as typed_size, IsGlobal as IsTypedGlobal}
use Rattle.pw_types.specs.TypedTrees.{Symbol, External, Internal, Hidden, ItemValue, ItemBytes, ItemAddress, PlacedItem, GlobalValue, DeclaredValue, ModuleValue}
use Rattle.pw_flow.specs.FlowGraph.{item_names, names_in_global}
use Rattle.pw_flow.specs.ValidFlow.{IsItem, AreItems, IsGlobal, kind_size, item_size}
use Rattle.pw_flow.specs.declared.flow.Item.{Item}
use Rattle.pw_flow.proofs.Lists.{all_flat}
use Rattle.pw_lower.specs.Operators.{kind_of, kind_of_int, bytes_of}
use Rattle.pw_lower.specs.Modules.{item_of, lowered_item, lowered_global}
use Rattle.pw_law_lower.specs.Within.{AreLetters, IsObjectWithin}
use Rattle.pw_law_lower.proofs.Names.{IsShared, name_ordinary}

-- ---- sizes

sized : (layout : Option Layout) → IsSomeAnd layout (λ l. l.size ≤ size_limit) → unwrap_or (option_map (λ l. l.size) layout) 0 < 2 ^ 32
sized None h = absurd h
sized (Some l) h = omega (arith, h)

word_sized : (records : List RecordValue) (ty : CType) → IsObjectType records ty → bytes_of records ty < 2 ^ 32
word_sized records ty h = sized (layout_of records ty) h

size_of_int : (k : IntKind) → size_of_kind k ≡ kind_size (kind_of_int k)
size_of_int K.Char = refl
size_of_int K.SChar = refl
size_of_int K.UChar = refl
size_of_int K.Short = refl
size_of_int K.UShort = refl
size_of_int K.Int = refl
size_of_int K.UInt = refl
size_of_int K.Long = refl
size_of_int K.ULong = refl

-- a scalar has the size of its kind
kind_sized : (records : List RecordValue) (ty : CType) → IfSome (kind_of ty) (λ k. bytes_of records ty ≡ kind_size k)
kind_sized records Void = tt
kind_sized records (Int k) = size_of_int k
kind_sized records (Pointer q) = refl
kind_sized records (Array q n) = tt
kind_sized records (Function q qs) = tt
kind_sized records (Record n) = tt

-- ---- items

typed_end : (m : ModuleValue) (from size : ℕ) (items : List PlacedItem) → AreTypedItems m from size items → from ≤ size
typed_end m from size [] h = h
typed_end m from size (p ∷ rest) h = omega (arith, h.0, typed_end m (p.offset + typed_size p.item) size rest h.2)

same_size : (home : List ℕ) (i : ItemValue) → item_size (item_of home i) ≡ typed_size i
same_size home (ItemBytes bytes) = refl
same_size home (ItemAddress s n) = refl

item_lawful : (home : List ℕ) (m : ModuleValue) (i : ItemValue) → IsTypedItem m i → IsItem (item_of home i)
item_lawful home m (ItemBytes bytes) h = tt
item_lawful home m (ItemAddress s n) h = h.1

items_lawful :
    (home : List ℕ) (m : ModuleValue) (from size : ℕ) (items : List PlacedItem) → AreTypedItems m from size items → AllByRecursion (λ (p : PlacedItem). 0 < typed_size p.item) items
    → AreItems size from (map (lowered_item home) items)
items_lawful home m from size [] h full = tt
items_lawful home m from size (p ∷ rest) h full =
    let n = same_size home p.item in
    let behind = typed_end m (p.offset + typed_size p.item) size rest h.2 in
    let next : p.offset + typed_size p.item ≡ p.offset + max 1 (item_size (item_of home p.item)) = omega (arith, full.0) in (
      (h.0, omega arith, item_lawful home m p.item h.1),
      subst (λ (k : ℕ). AreItems size k (map (lowered_item home) rest)) next (items_lawful home m (p.offset + typed_size p.item) size rest h.2 full.1),
    )

pub declared_shared : (m : ModuleValue) → All (λ d. AreLetters d.name) m.declared → (d : DeclaredValue) → Contains m.declared d → AreLetters d.name
declared_shared m ids d there = subst (λ (e : DeclaredValue). AreLetters e.name) there.2 (ids there.0 d there.1)

name_shared : (m : ModuleValue) (s : Symbol) → All (λ d. AreLetters d.name) m.declared → IsName m s → IsShared s
name_shared m (External x) ids h = subst AreLetters h.2 (declared_shared m ids h.0 h.1)
name_shared m (Internal x) ids h = tt
name_shared m (Hidden k) ids h = tt

item_ordinary : (home : List ℕ) (m : ModuleValue) (i : ItemValue) → All (λ d. AreLetters d.name) m.declared → IsTypedItem m i → AllByRecursion IsOrdinary (item_names (item_of home i))
item_ordinary home m (ItemBytes bytes) ids h = tt
item_ordinary home m (ItemAddress s n) ids h = (name_ordinary home s (name_shared m s ids h.0), tt)

items_ordinary :
    (home : List ℕ) (m : ModuleValue) (from size : ℕ) (items : List PlacedItem) → All (λ d. AreLetters d.name) m.declared → AreTypedItems m from size items
    → AllByRecursion (λ (i : ℕ × Item). AllByRecursion IsOrdinary (item_names i.1)) (map (lowered_item home) items)
items_ordinary home m from size [] ids h = tt
items_ordinary home m from size (p ∷ rest) ids h =
    (item_ordinary home m p.item ids h.1, items_ordinary home m (p.offset + typed_size p.item) size rest ids h.2)

-- ---- objects

pub global_lawful : (home : List ℕ) (m : ModuleValue) (g : GlobalValue) → IsTypedGlobal m g → IsObjectWithin g → IsGlobal (lowered_global home m.records g)
global_lawful home m g h w = record {
  size = word_sized m.records (type_of g.ty) h.object;
  kind = kind_sized m.records (type_of g.ty);
  items = items_lawful home m 0 (bytes_of m.records (type_of g.ty)) g.items h.items (recursion_from_All (λ (p : PlacedItem). 0 < typed_size p.item) g.items w.items);
}

pub global_ordinary : (home : List ℕ) (m : ModuleValue) (g : GlobalValue) → All (λ d. AreLetters d.name) m.declared → IsTypedGlobal m g → AllByRecursion IsOrdinary (names_in_global (lowered_global home m.records g))
global_ordinary home m g ids h =
    all_flat (λ (placed : ℕ × Item). item_names placed.1) IsOrdinary (map (lowered_item home) g.items) (items_ordinary home m 0 (bytes_of m.records (type_of g.ty)) g.items ids h.items)
