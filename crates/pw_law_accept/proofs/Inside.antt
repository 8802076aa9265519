-- Addresses in the first bytes of objects of modules that checking accepts lead inside, where no object has the name of another
-- one and the declarations of a name agree.
use Rattle.std.proofs.Common.{◌≡◌, ◌≢◌, ◌≤◌, ℕ, zero, suc, Bool, true, false, Option, List, [], ◌∷◌, ◌++◌, map, refl, sym, ap, subst, ◌∙◌, arith, inl, inr}
use Rattle.std.specs.Prelude.{Some, None, IsSomeAnd, All, slice_get, option_map, unwrap_or, Contains}
use Rattle.std.proofs.lemmas.Bool.{leb-true, eqb-true}
use Rattle.pw_value.specs.Limits.{size_limit}
use Rattle.pw_value.specs.Shapes.{Agree}
use Rattle.pw_types.specs.declared.record.Layout.{Layout}
use Rattle.pw_types.specs.FullNames.{full_name}
use Rattle.pw_types.specs.Layouts.{layout_of, size_of}
use Rattle.pw_types.specs.Shapes.{shape_of}
use Rattle.pw_types.specs.TypeTrees.{type_of, is_volatile}
use Rattle.pw_types.specs.TypedTrees.{Symbol, External, Internal, Hidden, GlobalValue, DeclaredValue, ItemValue, ItemBytes, ItemAddress, ModuleValue}
use Rattle.pw_types.specs.TypedModules.{IsGlobal, WellTyped}
use Rattle.pw_flow.specs.declared.flow.FlowGlobal.{FlowGlobal}
use Rattle.pw_flow.specs.declared.flow.FlowModule.{FlowModule}
use Rattle.pw_flow.specs.declared.flow.Item.{Item}
use Rattle.pw_flow.specs.declared.flow.Item.TheVariants.{Bytes, Address}
use Rattle.pw_flow.specs.ValidFlow.{AreDistinct}
use Rattle.pw_lower.specs.Modules.{item_of, lowered_item, lowered_global, lowered}
use Rattle.pw_check_rules.specs.Constants.{is_within}
use Rattle.pw_law_checked.specs.Leading.{LeadsIntoOwn, LeadsIntoShared, Leads, ItemLeads, ItemsLead, HasDeclaredSize, IsDeclaredWhole}
use Rattle.pw_law_checked.proofs.Lists.{some_same, never_some}
use Rattle.pw_files.proofs.Standing.{Has, has_by, contains_by, has_each, has_map, has_map_back, has_flat, has_flat_back}
use Rattle.pw_cmean.specs.Worlds.{Program, ProgramModule}
use Rattle.pw_run_languages.specs.Programs.{globals_of}
use Rattle.pw_law_source.specs.Accepting.{LeadInside}
use Rattle.pw_law_source.specs.Lowering.{DeclareAlike, flow_program}
use Rattle.pw_law_accept.proofs.Names.{named_external}
use Rattle.pw_law_accept.proofs.Modules.{all_has, Known, declared_has, declared_letters}
use Rattle.pw_law_accept.proofs.References.{global_of}
use Rattle.pw_law_accept.proofs.ShapeSizes.{one_size, length_wanted}

-- ---- lists

index_of : {X : Type 0} (x : X) (xs : List X) → Has x xs → (i : ℕ) × (slice_get xs i ≡ Some x)
index_of x [] h = absurd h
index_of x (y ∷ xs) (inl e) = (zero, ap Some e)
index_of x (y ∷ xs) (inr h) = let r = index_of x xs h in (suc r.0, r.1)

pub distinct_right : (xs ys : List (List ℕ)) → AreDistinct (xs ++ ys) → AreDistinct ys
distinct_right [] ys d = d
distinct_right (x ∷ xs) ys d = distinct_right xs ys d.1

abbrev name_of : FlowGlobal → List ℕ
name_of g = g.name

one_global : (xs : List FlowGlobal) → AreDistinct (map name_of xs) → (a b : FlowGlobal) → Has a xs → Has b xs → a.name ≡ b.name → a ≡ b
one_global [] d a b h k s = absurd h
one_global (z ∷ xs) d a b (inl e) (inl f) s = sym e ∙ f
one_global (z ∷ xs) d a b (inl e) (inr k) s = absurd (has_each (λ (other : List ℕ). other ≢ z.name) (map name_of xs) b.name d.0 (has_map name_of b xs k) (sym s ∙ ap name_of (sym e)))
one_global (z ∷ xs) d a b (inr h) (inl f) s = absurd (has_each (λ (other : List ℕ). other ≢ z.name) (map name_of xs) a.name d.0 (has_map name_of a xs h) (s ∙ ap name_of (sym f)))
one_global (z ∷ xs) d a b (inr h) (inr k) s = one_global xs d.1 a b h k s

-- ---- offsets and sizes

within_size : (offset : ℕ) (o : Option ℕ) → is_within offset o ≡ true → offset ≤ unwrap_or o 0
within_size offset None h = omega (arith, eqb-true offset 0 h)
within_size offset (Some n) h = leb-true offset n h

object_layout : (o : Option Layout) → IsSomeAnd o (λ l. l.size ≤ size_limit) → (l : Layout) × (o ≡ Some l) × (l.size ≤ size_limit)
object_layout None h = absurd h
object_layout (Some l) h = (l, refl, h)

layout_by : (o : Option Layout) (n : ℕ) → option_map (λ (l : Layout). l.size) o ≡ Some n → (l : Layout) × (o ≡ Some l) × (l.size ≡ n)
layout_by None n e = never_some e
layout_by (Some l) n e = (l, refl, some_same e)

-- ---- items

abbrev item_name : Item → List ℕ
item_name (Bytes bytes) = []
item_name (Address name offset) = name

abbrev item_offset : Item → ℕ
item_offset (Bytes bytes) = 0
item_offset (Address name offset) = offset

abbrev is_address : Item → Bool
is_address (Bytes bytes) = false
is_address (Address name offset) = true

clash : (b : Bool) → b ≡ true → b ≡ false → ⊥
clash b d e = cc

global_on : (home : List ℕ) (m : ModuleValue) (v : GlobalValue) → Has v m.globals → Has (lowered_global home m.records v) (lowered home m).globals
unfolding lowered
global_on home m v h = has_map (lowered_global home m.records) v m.globals h

module _ (p : Program) (frame_of : List ℕ → ℕ) (stack : ℕ) (known : (m : ProgramModule) → Has m p.modules → Known m.tree)
    (apart : AreDistinct (map (λ (g : FlowGlobal). g.name) (globals_of (flow_program p frame_of stack)))) (alike : DeclareAlike (flow_program p frame_of stack))
    (typed : (m : ProgramModule) → Has m p.modules → WellTyped m.tree) (leads : (m : ProgramModule) → Has m p.modules → All (ItemsLead m.tree) m.tree.globals)
    (whole : (m : ProgramModule) → Has m p.modules → All (IsDeclaredWhole m.tree) m.tree.globals) where
  abbrev flow_of : ProgramModule → FlowModule
  flow_of m = lowered m.name m.tree

  abbrev ms : List FlowModule
  ms = (flow_program p frame_of stack).modules

  abbrev all : List FlowGlobal
  all = globals_of (flow_program p frame_of stack)

  there_in : (m : ProgramModule) → Has m p.modules → Has (flow_of m) ms
  there_in m h = has_map flow_of m p.modules h

  own_inside : (m : ProgramModule) (s : Symbol) (offset : ℕ) (g : FlowGlobal) → Has m p.modules → LeadsIntoOwn m.tree s offset → Has g all → full_name m.name s ≡ g.name → offset ≤ g.size
  own_inside m s offset g h own k e =
      let mine = lowered_global m.name m.tree.records own.object in
      let there : Has mine all = has_flat (λ (n : FlowModule). n.globals) (flow_of m) mine ms (there_in m h) (global_on m.name m.tree own.object (has_by own.object m.tree.globals own.there)) in
      let same : mine ≡ g = one_global all apart mine g there k (ap (λ (s : Symbol). full_name m.name s) own.name_is ∙ e) in
      subst (λ (x : FlowGlobal). offset ≤ x.size) same (within_size offset (size_of m.tree.records (type_of own.object.ty)) own.inside)

  -- the declaration of an entry, as the flow graph has it
  declares : (m : ProgramModule) (d : DeclaredValue) (x : List ℕ) → Contains m.tree.declared d → d.name ≡ x → Has (x, shape_of m.tree.records (type_of d.ty) (is_volatile d.ty)) (flow_of m).declared
  declares m d x there is = subst (λ (n : List ℕ). Has (n, shape_of m.tree.records (type_of d.ty) (is_volatile d.ty)) (flow_of m).declared) is (declared_has m.name m.tree d (has_by d m.tree.declared there))

  agrees : (m n : ProgramModule) (x s t : List ℕ) → Has m p.modules → Has n p.modules → Has (x, s) (flow_of m).declared → Has (x, t) (flow_of n).declared → Agree s t
  agrees m n x s t h i own other =
      alike.declared (flow_of m) (flow_of n) x s t (contains_by (flow_of m) ms (there_in m h)) (contains_by (flow_of n) ms (there_in n i))
      (contains_by (x, s) (flow_of m).declared own) (contains_by (x, t) (flow_of n).declared other)

  sizes_agree : (m n : ProgramModule) (d e : DeclaredValue) (l k : Layout) → Has m p.modules → Has n p.modules → layout_of m.tree.records (type_of d.ty) ≡ Some l → layout_of n.tree.records (type_of e.ty) ≡ Some k
      → l.size ≤ size_limit → k.size ≤ size_limit → Agree (shape_of m.tree.records (type_of d.ty) (is_volatile d.ty)) (shape_of n.tree.records (type_of e.ty) (is_volatile e.ty)) → l.size ≡ k.size
  sizes_agree m n d e l k h i is other fits small (inl same) =
      one_size m.tree.records n.tree.records (typed m h).laid (typed n i).laid (type_of d.ty) (type_of e.ty) (is_volatile d.ty) (is_volatile e.ty) l k is other fits small same
  sizes_agree m n d e l k h i is other fits small (inr (inl g)) = absurd (length_wanted m.tree.records (type_of d.ty) (is_volatile d.ty) l g.0 (typed m h).laid is g.2.0)
  sizes_agree m n d e l k h i is other fits small (inr (inr g)) = absurd (length_wanted n.tree.records (type_of e.ty) (is_volatile e.ty) k g.0 (typed n i).laid other g.2.0)

  shared_inside : (m n : ProgramModule) (x : List ℕ) (offset : ℕ) (v : GlobalValue) → Has m p.modules → Has n p.modules → (d : LeadsIntoShared m.tree x offset) → Has v n.tree.globals → HasDeclaredSize n.tree x v.ty
      → offset ≤ unwrap_or (size_of n.tree.records (type_of v.ty)) 0
  shared_inside m n x offset v h i d there w = by (layout_of m.tree.records (type_of d.entry.ty)) refl d.inside
    where
      by : (o : Option Layout) → layout_of m.tree.records (type_of d.entry.ty) ≡ o → is_within offset (option_map (λ (l : Layout). l.size) o) ≡ true → offset ≤ unwrap_or (size_of n.tree.records (type_of v.ty)) 0
      by None e inside = omega (arith, eqb-true offset 0 inside)
      by (Some l) e inside =
          let object = object_layout (layout_of n.tree.records (type_of v.ty)) (all_has (IsGlobal n.tree) n.tree.globals v (typed n i).globals there).object in
          let size : size_of n.tree.records (type_of v.ty) ≡ Some object.0.size = ap (option_map (λ (l : Layout). l.size)) object.1 in
          let k = layout_by (layout_of n.tree.records (type_of w.entry.ty)) object.0.size (w.size ∙ size) in
          let agree = agrees m n x (shape_of m.tree.records (type_of d.entry.ty) (is_volatile d.entry.ty)) (shape_of n.tree.records (type_of w.entry.ty) (is_volatile w.entry.ty)) h i
          (declares m d.entry x d.there d.name_is) (declares n w.entry x w.there w.name_is) in
          let small : k.0.size ≤ size_limit = subst (λ y. y ≤ size_limit) (sym k.2) object.2 in
          let same : l.size ≡ k.0.size = sizes_agree m n d.entry w.entry l k.0 h i e k.1 (d.within l e) small agree in
          subst (λ o. offset ≤ unwrap_or o 0) (sym size) (subst (λ y. offset ≤ y) (same ∙ k.2) (leb-true offset l.size inside))

  lead_inside : (m : ProgramModule) (s : Symbol) (offset : ℕ) (g : FlowGlobal) → Has m p.modules → Leads m.tree s offset → Has g all → full_name m.name s ≡ g.name → offset ≤ g.size
  lead_inside m (External x) offset g h d k e =
      let n = has_flat_back (λ (n : FlowModule). n.globals) g ms k in
      let o = has_map_back flow_of n.0 p.modules n.1 in
      let v = global_of o.0.name o.0.tree g (subst (λ (x : FlowModule). Has g x.globals) (sym o.2) n.2) in
      let letters = declared_letters m.tree (known m h) x d.entry d.there d.name_is in
      let name : full_name o.0.name v.0.name ≡ x = ap name_of v.2 ∙ sym e in
      let symbol = named_external o.0.name x v.0.name letters name in
      let w = all_has (IsDeclaredWhole o.0.tree) o.0.tree.globals v.0 (whole o.0 o.1) v.1 x symbol in
      subst (λ (x : FlowGlobal). offset ≤ x.size) v.2 (shared_inside m o.0 x offset v.0 h o.1 d v.1 w)
  lead_inside m (Internal x) offset g h d k e = elim d [ inl z ↦ omega (arith, z) | inr own ↦ own_inside m (Internal x) offset g h own k e ]
  lead_inside m (Hidden i) offset g h d k e = own_inside m (Hidden i) offset g h d k e

  item_inside : (m : ProgramModule) (item : ItemValue) (offset : ℕ) (g : FlowGlobal) → Has m p.modules → ItemLeads m.tree item → Has g all → item_of m.name item ≡ Address g.name offset → offset ≤ g.size
  item_inside m (ItemBytes bytes) offset g h leads k e = absurd (clash false (ap is_address e) refl)
  item_inside m (ItemAddress s o) offset g h leads k e =
      let same : o ≡ offset = ap item_offset e in
      subst (λ y. y ≤ g.size) same (lead_inside m s o g h leads k (ap item_name e))

  pub all_inside : LeadInside (flow_program p frame_of stack)
  all_inside g other at offset h k c =
      let n = has_flat_back (λ (n : FlowModule). n.globals) g ms (has_by g all h) in
      let m = has_map_back flow_of n.0 p.modules n.1 in
      let v = global_of m.0.name m.0.tree g (subst (λ (x : FlowModule). Has g x.globals) (sym m.2) n.2) in
      let there : Has (at, Address other.name offset) (lowered_global m.0.name m.0.tree.records v.0).items = subst (λ (x : FlowGlobal). Has (at, Address other.name offset) x.items) (sym v.2) (has_by (at, Address other.name offset) g.items c) in
      let x = has_map_back (lowered_item m.0.name) (at, Address other.name offset) v.0.items there in
      let i = index_of x.0 v.0.items x.1 in
      item_inside m.0 x.0.item offset other m.1 (all_has (ItemsLead m.0.tree) m.0.tree.globals v.0 (leads m.0 m.1) v.1 i.0 x.0 i.1) (has_by other all k) (ap (λ (y : ℕ × Item). y.1) x.2)
