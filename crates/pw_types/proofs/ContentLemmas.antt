-- The content of a record follows from the measures of its members.
use Rattle.std.proofs.Common.{◌≡◌, ℕ, suc, ◌+◌, ◌-◌, ◌^◌, ◌<◌, ◌≤◌, min, List, [], ◌∷◌, length, map, get_or, replicate, refl, ap, ◌∙◌, sym, subst, arith, None, Some, IsSome, All}
use Rattle.std.proofs.lemmas.List.Elements.{All-map}
use Rattle.std.specs.Prelude.{unwrap_or}
use Rattle.pw_types.specs.TypeTrees.{CType, type_of, MemberValue, ContentValue, RecordValue}
use Rattle.pw_types.specs.declared.record.RecordKind.{RecordKind}
use Rattle.pw_types.specs.declared.record.RecordKind.TheVariants.{Structure, Union}
use Rattle.pw_types.specs.declared.record.Layout.{Layout}
use Rattle.pw_types.specs.declared.contents.Measure.{Measure}
use Rattle.pw_types.specs.Layouts.{layout_of, scalar_layout, round_up, record_layout, record_offsets, offsets_from, end_from, greatest, align_of}
use Rattle.pw_value.specs.Limits.{size_limit}
use Rattle.pw_types.specs.Shapes.{record_shape, member_shapes}
use Rattle.pw_types.specs.Records.{IsLaid, IsObjectType, layouts_of, deepest}
use Rattle.pw_value.specs.Limits.{shape_limit, depth_limit}
use Rattle.pw_value.specs.Caps.{clipped}
use Rattle.pw_types.specs.Measures.{Measures, size_by, offsets_by, layout_by_members, shape_by_members, depth_by_members, Defines, Refuses}
use Rattle.pw_types.specs.declared.contents.RecordFault.TheVariants.{TooLarge, ShapeTooLong, TooDeep}
use Rattle.pw_value.specs.Caps.{capped}
use Rattle.pw_types.proofs.RecordLemmas.{aligned-by_laid, IsSome-object_type}

-- a number is not above the next multiple of an alignment
round_up-le : (n align : ℕ) → 1 ≤ align → n ≤ round_up n align
round_up-le n align some = omega arith

-- the members' alignments are at least 1
All-first : (l : Layout) (rest : List Layout) → All (λ x. 1 ≤ x.align) (l ∷ rest) → 1 ≤ l.align
All-first l rest all = all 0 l (omega arith)

All-rest : (l : Layout) (rest : List Layout) → All (λ x. 1 ≤ x.align) (l ∷ rest) → All (λ x. 1 ≤ x.align) rest
All-rest l rest all = λ k d below. all (suc k) d (omega arith)

-- the members end nowhere before they begin
end_from-le : (from : ℕ) (ls : List Layout) → All (λ l. 1 ≤ l.align) ls → from ≤ end_from from ls
end_from-le from [] all = omega arith
end_from-le from (l ∷ rest) all =
    let up : from ≤ round_up from l.align = round_up-le from l.align (All-first l rest all) in
    let on : round_up from l.align + l.size ≤ end_from (round_up from l.align + l.size) rest =
    end_from-le (round_up from l.align + l.size) rest (All-rest l rest all) in
    omega arith

clipped-small : (n : ℕ) → n ≤ size_limit → clipped n ≡ n
clipped-small n small = omega arith

-- offsets within the limit on sizes are told by 32 bits
map-clipped-offsets :
    (from : ℕ) (ls : List Layout) → All (λ l. 1 ≤ l.align) ls → end_from from ls ≤ size_limit
    → map clipped (offsets_from from ls) ≡ offsets_from from ls
map-clipped-offsets from [] all within = refl
map-clipped-offsets from (l ∷ rest) all within =
    let on : round_up from l.align + l.size ≤ end_from (round_up from l.align + l.size) rest =
    end_from-le (round_up from l.align + l.size) rest (All-rest l rest all) in
    let here : clipped (round_up from l.align) ≡ round_up from l.align =
    clipped-small (round_up from l.align) (omega arith) in
    let there : map clipped (offsets_from (round_up from l.align + l.size) rest) ≡ offsets_from (round_up from l.align + l.size) rest =
    map-clipped-offsets (round_up from l.align + l.size) rest (All-rest l rest all) within in
    ap (λ n. n ∷ map clipped (offsets_from (round_up from l.align + l.size) rest)) here
    ∙ ap (λ ns. round_up from l.align ∷ ns) there

-- the members of a union all stand at its beginning
record_offsets-Union : (ls : List Layout) → record_offsets Union ls ≡ replicate (length ls) 0
record_offsets-Union [] = refl
record_offsets-Union (l ∷ rest) = ap (λ (ns : List ℕ). 0 ∷ ns) (record_offsets-Union rest)

length-layouts_of : (records : List RecordValue) (members : List MemberValue) → length (layouts_of records members) ≡ length members
length-layouts_of records [] = refl
length-layouts_of records (m ∷ rest) = ap suc (length-layouts_of records rest)

-- the members of a laid list of records are aligned
All-aligned :
    (records : List RecordValue) (members : List MemberValue) → IsLaid records
    → All (λ m. IsObjectType records (type_of m.ty)) members
    → All (λ l. 1 ≤ l.align) (layouts_of records members)
All-aligned records members laid all =
    All-map (λ (l : Layout). 1 ≤ l.align) (λ (m : MemberValue). unwrap_or (layout_of records (type_of m.ty)) (scalar_layout 0)) members
    (λ k d below. one (type_of (get_or members k d).ty) (IsSome-object_type records (type_of (get_or members k d).ty) (all k d below)))
  where
    one : (ty : CType) → IsSome (layout_of records ty) → 1 ≤ (unwrap_or (layout_of records ty) (scalar_layout 0)).align
    one ty is =
        elim (layout_of records ty) as (λ o. layout_of records ty ≡ o → IsSome o → 1 ≤ (unwrap_or o (scalar_layout 0)).align) [
          | None ↦ λ e h. absurd (cc)
          | Some l ↦ λ e h. aligned-by_laid records laid ty l e
        ] refl is

-- the size by the measures is the size by the members
pub size_by-is :
    (kind : RecordKind) (ls : List Layout) (m : Measure) → Measures ls m → size_by kind m ≡ (record_layout kind ls).size
size_by-is Structure ls m is = ap (λ e. round_up e m.align) is.end ∙ ap (round_up (end_from 0 ls)) is.align
size_by-is Union ls m is =
    ap (λ n. round_up n m.align) is.largest ∙ ap (round_up (greatest (map (λ (l : Layout). l.size) ls))) is.align

align-is : (kind : RecordKind) (ls : List Layout) (m : Measure) → Measures ls m → m.align ≡ (record_layout kind ls).align
align-is Structure ls m is = is.align
align-is Union ls m is = is.align

pub aligned-by_measures : (ls : List Layout) (m : Measure) → Measures ls m → 1 ≤ m.align
aligned-by_measures ls m is = omega (arith, is.align)

offsets_by-is :
    (kind : RecordKind) (records : List RecordValue) (members : List MemberValue) (m : Measure)
    → All (λ l. 1 ≤ l.align) (layouts_of records members)
    → Measures (layouts_of records members) m
    → (record_layout kind (layouts_of records members)).size ≤ size_limit
    → offsets_by kind m.offsets.items (length members) ≡ record_offsets kind (layouts_of records members)
offsets_by-is Structure records members m aligned is within =
    let some : 1 ≤ align_of (layouts_of records members) = omega arith in
    let ends : end_from 0 (layouts_of records members) ≤ round_up (end_from 0 (layouts_of records members)) (align_of (layouts_of records members)) =
    round_up-le (end_from 0 (layouts_of records members)) (align_of (layouts_of records members)) some in
    is.offsets ∙ map-clipped-offsets 0 (layouts_of records members) aligned (omega arith)
offsets_by-is Union records members m aligned is within =
    ap (λ n. replicate n 0) (sym (length-layouts_of records members)) ∙ sym (record_offsets-Union (layouts_of records members))

-- the same of the members as they were passed
pub Measures-of :
    (records : List RecordValue) (members seen : List MemberValue) (m : Measure)
    → seen ≡ members → Measures (layouts_of records seen) m → Measures (layouts_of records members) m
Measures-of records members seen m same is = subst (λ ms. Measures (layouts_of records ms) m) same is

-- a size by measures is the size by members
pub size-by_members :
    (records : List RecordValue) (kind : RecordKind) (members : List MemberValue) (m : Measure) (size : ℕ)
    → Measures (layouts_of records members) m → size ≡ size_by kind m → size ≡ (layout_by_members records kind members).size
size-by_members records kind members m size is by = by ∙ size_by-is kind (layouts_of records members) m is

-- a text of that size is the shape by members
pub shape-by_members :
    (records : List RecordValue) (kind : RecordKind) (members seen : List MemberValue) (size : ℕ) (text : List ℕ)
    → seen ≡ members
    → size ≡ (layout_by_members records kind members).size
    → text ≡ record_shape kind size (member_shapes records seen)
    → text ≡ shape_by_members records kind members
shape-by_members records kind members seen size text same size_is is =
    is
    ∙ ap (λ s. record_shape kind s (member_shapes records seen)) size_is
    ∙ ap (λ ms. record_shape kind (layout_by_members records kind members).size (member_shapes records ms)) same

-- the refusals
pub Refuses-size :
    (records : List RecordValue) (kind : RecordKind) (members : List MemberValue) (size n : ℕ)
    → size ≡ (layout_by_members records kind members).size
    → size_limit < size
    → n ≡ capped size
    → Refuses records kind members (TooLarge n)
Refuses-size records kind members size n is above number =
    (subst (λ s. size_limit < s) is above, number ∙ ap capped is)

pub Refuses-shape :
    (records : List RecordValue) (kind : RecordKind) (members : List MemberValue) (size n : ℕ) (text : List ℕ)
    → size ≡ (layout_by_members records kind members).size
    → size ≤ size_limit
    → text ≡ shape_by_members records kind members
    → n ≡ length text
    → shape_limit < n
    → Refuses records kind members (ShapeTooLong n)
Refuses-shape records kind members size n text is within shape long above =
    let all : n ≡ length (shape_by_members records kind members) = long ∙ ap length shape in
    (subst (λ s. s ≤ size_limit) is within, subst (λ k. shape_limit < k) all above, all)

pub Refuses-depth :
    (records : List RecordValue) (kind : RecordKind) (members : List MemberValue) (size n : ℕ) (text : List ℕ)
    → size ≡ (layout_by_members records kind members).size
    → size ≤ size_limit
    → text ≡ shape_by_members records kind members
    → length text ≤ shape_limit
    → n ≡ capped (depth_by_members records members)
    → depth_limit < n
    → Refuses records kind members (TooDeep n)
Refuses-depth records kind members size n text is within shape short deep above = (
  subst (λ s. s ≤ size_limit) is within,
  subst (λ t. length t ≤ shape_limit) shape short,
  deeper (depth_by_members records members) n deep above,
  deep,
)
  where
    deeper : (d k : ℕ) → k ≡ capped d → depth_limit < k → depth_limit < d
    deeper d k is past = omega arith

-- one more than the deepest, as far as 64 bits can tell it
pub depth-by_members :
    (records : List RecordValue) (members seen : List MemberValue) (deep depth : ℕ)
    → seen ≡ members
    → deep ≡ capped (deepest records seen)
    → depth ≡ min (deep + 1) (2 ^ 64 - 1)
    → depth ≡ capped (depth_by_members records members)
depth-by_members records members seen deep depth same is more =
    let all : deep ≡ capped (deepest records members) = is ∙ ap (λ ms. capped (deepest records ms)) same in
    omega arith

-- what is made of the measures is what the definition comes to
pub Defines-by_measures :
    (records : List RecordValue) (kind : RecordKind) (members : List MemberValue) (m : Measure) (c : ContentValue)
    → IsLaid records
    → All (λ x. IsObjectType records (type_of x.ty)) members
    → Measures (layouts_of records members) m
    → c.members ≡ members
    → c.offsets ≡ offsets_by kind m.offsets.items (length members)
    → c.layout.size ≡ size_by kind m
    → c.layout.align ≡ m.align
    → c.shape ≡ record_shape kind c.layout.size (member_shapes records members)
    → c.depth ≡ capped (depth_by_members records members)
    → c.layout.size ≤ size_limit
    → length c.shape ≤ shape_limit
    → c.depth ≤ depth_limit
    → Defines records kind members c
Defines-by_measures records kind members m c laid complete is kept offsets size align shape depth within short shallow =
    let ls : List Layout = layouts_of records members in
    let size_is : c.layout.size ≡ (record_layout kind ls).size = size ∙ size_by-is kind ls m is in
    let align_is : c.layout.align ≡ (record_layout kind ls).align = align ∙ align-is kind ls m is in
    let laid_is : c.layout ≡ record_layout kind ls =
    ap (λ s. let l : Layout = record { size = s; align = c.layout.align } in l) size_is
    ∙ ap (λ a. let l : Layout = record { size = (record_layout kind ls).size; align = a } in l) align_is in
    let fits : (record_layout kind ls).size ≤ size_limit = subst (λ s. s ≤ size_limit) size_is within in
    let placed_is : c.offsets ≡ record_offsets kind ls =
    offsets ∙ offsets_by-is kind records members m (All-aligned records members laid complete) is fits in
    record {
      follows = record {
        complete = subst (λ ms. All (λ (x : MemberValue). IsObjectType records (type_of x.ty)) ms) (sym kept) complete;
        laid = laid_is ∙ ap (λ ms. record_layout kind (layouts_of records ms)) (sym kept);
        placed = placed_is ∙ ap (λ ms. record_offsets kind (layouts_of records ms)) (sym kept);
        shaped = shape ∙ ap (λ ms. record_shape kind c.layout.size (member_shapes records ms)) (sym kept);
        within = within;
        aligned = subst (λ a. 1 ≤ a) (sym align) (aligned-by_measures ls m is);
        short = short;
        shallow = shallow;
      };
      members_kept = kept;
      depth = small_depth (depth_by_members records members) c.depth depth shallow;
    }
  where
    small_depth : (d k : ℕ) → k ≡ capped d → k ≤ depth_limit → k ≡ d
    small_depth d k is below = omega arith
