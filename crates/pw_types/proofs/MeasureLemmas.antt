-- Measuring the members of a record, one more at a time.
use Rattle.std.proofs.Common.{◌≡◌, ℕ, ◌+◌, ◌<◌, max, List, [], ◌∷◌, ◌++◌, length, map, take, get_or, refl, ap, ◌∙◌, sym, subst, arith, Some, All}
use Rattle.std.specs.Prelude.{unwrap_or}
use Rattle.std.proofs.lemmas.List.{length-map}
use Rattle.std.proofs.lemmas.List.Elements.{All-map}
use Rattle.std.proofs.Math.ListN.{get_or-map}
use Rattle.pw_types.specs.TypeTrees.{type_of, RecordValue}
use Rattle.pw_types.specs.Views.{view_type, view_member, view_members}
use Rattle.pw_types.specs.declared.record.Member.{Member}
use Rattle.pw_types.specs.declared.record.Layout.{Layout}
use Rattle.pw_types.specs.Layouts.{layout_of, scalar_layout, round_up, offsets_from, end_from, greatest, align_of}
use Rattle.pw_types.specs.Records.{layouts_of, IsObjectType}
use Rattle.pw_value.specs.Caps.{clipped}
use Rattle.std.proofs.lemmas.List.{take_more}
use Rattle.pw_types.proofs.ListLemmas.{map-append_one, greatest-append_one}

-- what holds of all members, in the words of the code and of what it shows
pub All-members :
    (records : List RecordValue) (members : List Member)
    → All (λ m. IsObjectType records (view_type m.ty.ty)) members → All (λ m. IsObjectType records (type_of m.ty)) (view_members members)
All-members records members all = All-map (λ m. IsObjectType records (type_of m.ty)) view_member members all

pub members-All :
    (records : List RecordValue) (members : List Member)
    → All (λ m. IsObjectType records (type_of m.ty)) (view_members members) → All (λ m. IsObjectType records (view_type m.ty.ty)) members
members-All records members all k d below =
    subst (λ m. IsObjectType records (type_of m.ty)) (get_or-map view_member members k d)
    (all k (view_member d) (omega (arith, length-map members view_member)))

pub object_type-at :
    (records : List RecordValue) (members : List Member) (i : ℕ) (m : Member)
    → i < length members
    → m ≡ get_or members i m
    → All (λ x. IsObjectType records (type_of x.ty)) (view_members members)
    → IsObjectType records (view_type m.ty.ty)
object_type-at records members i m below reads all =
    subst (λ (x : Member). IsObjectType records (view_type x.ty.ty)) (sym reads) (members-All records members all i m below)

-- what the loop over the members knows
pub record Measured (layouts : List Layout) (offsets : List ℕ) (end largest align : ℕ) : Type 0 where
  pub at : offsets ≡ map clipped (offsets_from 0 layouts)
  pub ends : end ≡ end_from 0 layouts
  pub greatest_size : largest ≡ greatest (map (λ l. l.size) layouts)
  pub greatest_align : align ≡ align_of layouts

offsets_from-append_one :
    (from : ℕ) (ls : List Layout) (l : Layout)
    → offsets_from from (ls ++ l ∷ []) ≡ offsets_from from ls ++ round_up (end_from from ls) l.align ∷ []
offsets_from-append_one from [] l = refl
offsets_from-append_one from (m ∷ ls) l =
    ap (λ rest. round_up from m.align ∷ rest) (offsets_from-append_one (round_up from m.align + m.size) ls l)

end_from-append_one :
    (from : ℕ) (ls : List Layout) (l : Layout)
    → end_from from (ls ++ l ∷ []) ≡ round_up (end_from from ls) l.align + l.size
end_from-append_one from [] l = refl
end_from-append_one from (m ∷ ls) l = end_from-append_one (round_up from m.align + m.size) ls l

pub Measured-none : Measured [] [] 0 0 1
Measured-none = record { at = refl; ends = refl; greatest_size = refl; greatest_align = refl }

pub Measured-append_one :
    (ls : List Layout) (l : Layout) (offsets : List ℕ) (end largest align offset : ℕ)
    → Measured ls offsets end largest align
    → offset ≡ round_up end l.align
    → Measured (ls ++ l ∷ []) (offsets ++ clipped offset ∷ []) (offset + l.size) (max largest l.size) (max align l.align)
Measured-append_one ls l offsets end largest align offset m is =
    let here : offset ≡ round_up (end_from 0 ls) l.align = is ∙ ap (λ e. round_up e l.align) m.ends in
    record {
      at =
          ap (λ xs. xs ++ clipped offset ∷ []) m.at
          ∙ ap (λ o. map clipped (offsets_from 0 ls) ++ clipped o ∷ []) here
          ∙ sym (map-append_one clipped (offsets_from 0 ls) (round_up (end_from 0 ls) l.align))
          ∙ ap (map clipped) (sym (offsets_from-append_one 0 ls l));
      ends = ap (λ o. o + l.size) here ∙ sym (end_from-append_one 0 ls l);
      greatest_size =
          ap (λ n. max n l.size) m.greatest_size
          ∙ sym (ap greatest (map-append_one (λ (x : Layout). x.size) ls l) ∙ greatest-append_one (map (λ (x : Layout). x.size) ls) l.size);
      greatest_align =
          ap (λ n. max n l.align) m.greatest_align
          ∙ omega (arith, ap greatest (map-append_one (λ (x : Layout). x.align) ls l), greatest-append_one (map (λ (x : Layout). x.align) ls) l.align);
    }

layouts_of-append_one :
    (records : List RecordValue) (xs : List Member) (x : Member)
    → layouts_of records (view_members (xs ++ x ∷ []))
    ≡ layouts_of records (view_members xs) ++ unwrap_or (layout_of records (view_type x.ty.ty)) (scalar_layout 0) ∷ []
layouts_of-append_one records [] x = refl
layouts_of-append_one records (y ∷ ys) x =
    ap (λ ls. unwrap_or (layout_of records (view_type y.ty.ty)) (scalar_layout 0) ∷ ls) (layouts_of-append_one records ys x)

-- the layouts of one member more
pub layouts_of-take_more :
    (records : List RecordValue) (members : List Member) (i : ℕ) (m : Member) (l : Layout)
    → i < length members
    → m ≡ get_or members i m
    → layout_of records (view_type m.ty.ty) ≡ Some l
    → layouts_of records (view_members (take (i + 1) members)) ≡ layouts_of records (view_members (take i members)) ++ l ∷ []
layouts_of-take_more records members i m l below reads is =
    ap (λ ms. layouts_of records (view_members ms)) (take_more members i m below ∙ ap (λ x. take i members ++ x ∷ []) (sym reads))
    ∙ layouts_of-append_one records (take i members) m
    ∙ ap (λ o. layouts_of records (view_members (take i members)) ++ unwrap_or o (scalar_layout 0) ∷ []) is

-- the loop's facts after one member more
pub Measured-take_more :
    (records : List RecordValue) (members : List Member) (i : ℕ) (m : Member) (l : Layout)
    (offsets new : List ℕ) (end largest align offset size larger wider clip : ℕ)
    → i < length members
    → m ≡ get_or members i m
    → layout_of records (view_type m.ty.ty) ≡ Some l
    → Measured (layouts_of records (view_members (take i members))) offsets end largest align
    → offset ≡ round_up end l.align
    → clip ≡ clipped offset
    → new ≡ offsets ++ clip ∷ []
    → size ≡ l.size
    → larger ≡ max largest l.size
    → wider ≡ max align l.align
    → Measured (layouts_of records (view_members (take (i + 1) members))) new (offset + size) larger wider
Measured-take_more records members i m l offsets new end largest align offset size larger wider clip below reads is so_far at clips pushed sizes larger_is wider_is =
    let step = Measured-append_one (layouts_of records (view_members (take i members))) l offsets end largest align offset so_far at in
    let more = layouts_of-take_more records members i m l below reads is in
    record {
      at = pushed ∙ ap (λ c. offsets ++ c ∷ []) clips ∙ step.at ∙ ap (λ ls. map clipped (offsets_from 0 ls)) (sym more);
      ends = ap (λ s. offset + s) sizes ∙ step.ends ∙ ap (end_from 0) (sym more);
      greatest_size = larger_is ∙ step.greatest_size ∙ ap (λ ls. greatest (map (λ (x : Layout). x.size) ls)) (sym more);
      greatest_align = wider_is ∙ step.greatest_align ∙ ap align_of (sym more);
    }
