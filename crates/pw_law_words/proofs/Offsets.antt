-- The offset of an address in the first bytes of an object is a word: it leads into what keeps the limit on sizes.
use Rattle.std.specs.Prelude.{ℕ, ◌≡◌, ◌<◌, ◌≤◌, ◌^◌, true, Option, None, Some, List, option_map, slice_get, All, refl}
use Rattle.std.specs.Option.{IsSomeAnd}
use Rattle.std.proofs.Common.{arith, subst, inl, inr}
use Rattle.std.proofs.lemmas.Bool.{eqb-true}
use Rattle.std.proofs.lemmas.Bool.Decides.{nat_tests}
use Rattle.std.proofs.lemmas.Option.{slice_get-get_or}
use Rattle.std.proofs.lemmas.List.Elements.{All-contains}
use Rattle.pw_value.specs.Limits.{size_limit}
use Rattle.pw_types.specs.declared.record.Layout.{Layout}
use Rattle.pw_types.specs.Layouts.{layout_of}
use Rattle.pw_types.specs.Records.{IsObjectType}
use Rattle.pw_types.specs.TypeTrees.{type_of}
use Rattle.pw_types.specs.TypedTrees.{Symbol, External, Internal, Hidden, ItemValue, ItemBytes, ItemAddress, PlacedItem, GlobalValue, ModuleValue}
use Rattle.pw_check_rules.specs.Constants.{is_within}
use Rattle.pw_law_checked.specs.Leading.{LeadsIntoOwn, Leads, ItemLeads, ItemsLead}
use Rattle.pw_law_checked.specs.Words.{HasOffset, WordsInItems}

-- within so many bytes, if there are no more than an object can have
within_word : (offset : ℕ) (o : Option Layout) → ((l : Layout) → o ≡ Some l → l.size ≤ size_limit) → is_within offset (option_map (λ l. l.size) o) ≡ true → offset < 2 ^ 32
within_word offset None small e = let k : offset ≡ 0 = eqb-true offset 0 e in omega (arith, k)
within_word offset (Some l) small e = let h = small l refl in let k : offset ≤ l.size = grind (arith, nat_tests, e) in omega (arith, h, k)

object_small : (o : Option Layout) → IsSomeAnd o (λ l. l.size ≤ size_limit) → (l : Layout) → o ≡ Some l → l.size ≤ size_limit
object_small None h l e = absurd h
object_small (Some k) h l e = let same : k ≡ l = cc in subst (λ (x : Layout). x.size ≤ size_limit) same h

each_at : {X : Type 0} (P : X → Type 0) (xs : List X) → ((i : ℕ) (x : X) → slice_get xs i ≡ Some x → P x) → All P xs
each_at P xs h = λ k d below. h k _ (slice_get-get_or xs k d below)

each_so : {X : Type 0} (P Q : X → Type 0) (xs : List X) → ((x : X) → P x → Q x) → All P xs → All Q xs
each_so P Q xs step h = λ k d below. step _ (h k d below)

module _ (m : ModuleValue) (sized : All (λ g. IsObjectType m.records (type_of g.ty)) m.globals) where
  own_word : (symbol : Symbol) (offset : ℕ) → LeadsIntoOwn m symbol offset → offset < 2 ^ 32
  own_word symbol offset h =
      within_word offset (layout_of m.records (type_of h.object.ty))
      (object_small (layout_of m.records (type_of h.object.ty)) (All-contains (λ (g : GlobalValue). IsObjectType m.records (type_of g.ty)) m.globals h.object sized h.there)) h.inside

  leads_word : (symbol : Symbol) (offset : ℕ) → Leads m symbol offset → offset < 2 ^ 32
  leads_word (External name) offset h = within_word offset (layout_of m.records (type_of h.entry.ty)) h.within h.inside
  leads_word (Internal name) offset (inl e) = omega (arith, e)
  leads_word (Internal name) offset (inr h) = own_word (Internal name) offset h
  leads_word (Hidden k) offset h = own_word (Hidden k) offset h

  item_word : (item : ItemValue) → ItemLeads m item → HasOffset item
  item_word (ItemBytes bytes) h = tt
  item_word (ItemAddress symbol offset) h = leads_word symbol offset h

  items_words : (g : GlobalValue) → ItemsLead m g → WordsInItems g.items
  items_words g h = each_at (λ (p : PlacedItem). HasOffset p.item) g.items (λ i p e. item_word p.item (h i p e))

  pub objects_words : All (ItemsLead m) m.globals → All (λ g. WordsInItems g.items) m.globals
  objects_words h = each_so (ItemsLead m) (λ g. WordsInItems g.items) m.globals items_words h
