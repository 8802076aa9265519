-- A type that is defined leaves what was known of the others.
use Rattle.std.proofs.Common.{◌≡◌, ◌≢◌, ℕ, zero, suc, ◌≤◌, ◌⊎◌, inl, inr, Bool, true, false, ◌||◌, eqb, List, [], ◌∷◌, ◌++◌, set, get_or, map, refl, ap, ◌∙◌, sym, subst, arith, Option, None, Some, option_map, IsSome, All, lit≤}
use Rattle.std.proofs.lemmas.Grind.{common_steps}
use Rattle.std.proofs.lemmas.Bool.{eqb-true}
use Rattle.std.proofs.lemmas.Option.{get_or_from_slice_get}
use Rattle.std.proofs.Math.ListN.{get_or-map}
use Rattle.std.specs.Prelude.{slice_get, option_and_then, unwrap_or, IsSomeAnd, IfSome}
use Rattle.std.specs.Option.{option_map_or}
use Rattle.pw_types.specs.TypeTrees.{CType, Void, Int, Pointer, Array, Function, Record, Qualified, type_of, is_volatile, MemberValue, ContentValue, RecordValue}
use Rattle.pw_types.specs.Views.{view_record, view_records, view_content}
use Rattle.pw_types.specs.declared.record.RecordType.{RecordType}
use Rattle.pw_types.specs.declared.record.RecordKind.{RecordKind}
use Rattle.pw_types.specs.declared.record.RecordKind.TheVariants.{Structure}
use Rattle.pw_types.specs.declared.record.Content.{Content}
use Rattle.pw_types.specs.declared.record.Layout.{Layout}
use Rattle.pw_types.specs.Conversions.{size_of_kind}
use Rattle.pw_types.specs.declared.kind.IntKind.{IntKind}
use Rattle.pw_types.specs.declared.kind.IntKind.TheVariants as K
use Rattle.pw_types.specs.Layouts.{content_at, layout_of, scalar_layout, array_layout, record_layout, record_offsets}
use Rattle.pw_value.specs.Limits.{size_limit}
use Rattle.pw_types.specs.Shapes.{shape_of, shape_of_record, length_text, unknown_shape, record_shape, member_shapes}
use Rattle.pw_types.specs.Records.{IsLaid, Follows, declared, defined, kind_at, layouts_of, IsObjectType}

-- what one list of records defines, another defines so too
abbrev pub IsLater : List RecordValue → List RecordValue → Type 0
IsLater old new = (number : ℕ) (c : ContentValue) → content_at old number ≡ Some c → content_at new number ≡ Some c

IsSome-of_map : {A B : Type 0} (f : A → B) (o : Option A) → IsSome (option_map f o) → IsSome o
IsSome-of_map f None h = h
IsSome-of_map f (Some x) h = refl

-- a type that was complete keeps its layout
layout_of-later :
    (old new : List RecordValue) → IsLater old new
    → (ty : CType) → IsSome (layout_of old ty) → layout_of new ty ≡ layout_of old ty
layout_of-later old new later Void is = refl
layout_of-later old new later (Int kind) is = refl
layout_of-later old new later (Pointer target) is = refl
layout_of-later old new later (Array element None) is = refl
layout_of-later old new later (Array (Qualified ty c v) (Some n)) is =
    ap (option_map (array_layout n)) (layout_of-later old new later ty (IsSome-of_map (array_layout n) (layout_of old ty) is))
layout_of-later old new later (Function result params) is = refl
layout_of-later old new later (Record number) is =
    elim (content_at old number) as (λ o. content_at old number ≡ o → IsSome (option_map (λ c. c.layout) o) → option_map (λ c. c.layout) (content_at new number) ≡ option_map (λ c. c.layout) o) [
      | None ↦ λ e h. (cc)
      | Some c ↦ λ e h. ap (option_map (λ (x : ContentValue). x.layout)) (later number c e)
    ] refl is

shape_of_record-defined : (r : RecordValue) (c : ContentValue) → r.content ≡ Some c → shape_of_record r ≡ c.shape
shape_of_record-defined r c e = ap (λ o. option_map_or (λ (x : ContentValue). x.shape) o (unknown_shape r.kind)) e

-- the shape of a record that is defined stands in its definition
shape_of-defined :
    (records : List RecordValue) (number : ℕ) (c : ContentValue) (volatile : Bool)
    → content_at records number ≡ Some c
    → shape_of records (Record number) volatile ≡ c.shape
shape_of-defined records number c volatile e =
    elim (slice_get records number) as (λ o. option_and_then (λ r. r.content) o ≡ Some c → unwrap_or (option_map shape_of_record o) [] ≡ c.shape) [
      | None ↦ λ h. (cc)
      | Some r ↦ λ h. shape_of_record-defined r c h
    ] e

-- a type that was complete keeps its shape
shape_of-later :
    (old new : List RecordValue) → IsLater old new
    → (ty : CType) (volatile : Bool) → IsSome (layout_of old ty) → shape_of new ty volatile ≡ shape_of old ty volatile
shape_of-later old new later Void volatile is = refl
shape_of-later old new later (Int kind) volatile is = refl
shape_of-later old new later (Pointer target) volatile is = refl
shape_of-later old new later (Array element None) volatile is = (cc)
shape_of-later old new later (Array (Qualified ty c v) (Some n)) volatile is =
    ap (λ rest. length_text (Some n) ++ rest)
    (shape_of-later old new later ty (volatile || v) (IsSome-of_map (array_layout n) (layout_of old ty) is))
shape_of-later old new later (Function result params) volatile is = refl
shape_of-later old new later (Record number) volatile is =
    elim (content_at old number) as (λ o. content_at old number ≡ o → IsSome (option_map (λ c. c.layout) o) → shape_of new (Record number) volatile ≡ shape_of old (Record number) volatile) [
      | None ↦ λ e h. absurd (cc)
      | Some c ↦ λ e h. shape_of-defined new number c volatile (later number c e) ∙ sym (shape_of-defined old number c volatile e)
    ] refl is

-- a type that an object can have is complete
pub IsSome-object_type : (records : List RecordValue) (ty : CType) → IsObjectType records ty → IsSome (layout_of records ty)
IsSome-object_type records ty is =
    elim (layout_of records ty) as (λ o. IsSomeAnd o (λ l. l.size ≤ size_limit) → IsSome o) [
      | None ↦ λ h. absurd h
      | Some l ↦ λ h. refl
    ] is

-- what the layout of such a type is told to be is its layout
pub layout_of-object_type :
    (records : List RecordValue) (ty : CType) (l : Layout) (result : Option Layout)
    → IsObjectType records ty
    → IfSome (layout_of records ty) (λ x. x.size ≤ size_limit → result ≡ Some x)
    → result ≡ Some l
    → layout_of records ty ≡ Some l
layout_of-object_type records ty l result is exact value =
    elim (layout_of records ty) as (λ o. IsSomeAnd o (λ x. x.size ≤ size_limit) → IfSome o (λ x. x.size ≤ size_limit → result ≡ Some x) → o ≡ Some l) [
      | None ↦ λ h e. absurd h
      | Some x ↦ λ h e. sym (e h) ∙ value
    ] is exact

IsObjectType-later :
    (old new : List RecordValue) → IsLater old new
    → (ty : CType) → IsObjectType old ty → IsObjectType new ty
IsObjectType-later old new later ty is =
    subst
    (λ o. IsSomeAnd o (λ l. l.size ≤ size_limit))
    (sym (layout_of-later old new later ty (IsSome-object_type old ty is)))
    is

All-first : (records : List RecordValue) (m : MemberValue) (rest : List MemberValue)
    → All (λ x. IsObjectType records (type_of x.ty)) (m ∷ rest) → IsObjectType records (type_of m.ty)
All-first records m rest all = all 0 m (omega arith)

All-rest : (records : List RecordValue) (m : MemberValue) (rest : List MemberValue)
    → All (λ x. IsObjectType records (type_of x.ty)) (m ∷ rest) → All (λ x. IsObjectType records (type_of x.ty)) rest
All-rest records m rest all = λ k d below. all (suc k) d (omega arith)

layouts_of-later :
    (old new : List RecordValue) → IsLater old new
    → (members : List MemberValue) → All (λ m. IsObjectType old (type_of m.ty)) members
    → layouts_of new members ≡ layouts_of old members
layouts_of-later old new later [] all = refl
layouts_of-later old new later (m ∷ rest) all =
    let first : layout_of new (type_of m.ty) ≡ layout_of old (type_of m.ty) =
    layout_of-later old new later (type_of m.ty) (IsSome-object_type old (type_of m.ty) (All-first old m rest all)) in
    let others : layouts_of new rest ≡ layouts_of old rest =
    layouts_of-later old new later rest (All-rest old m rest all) in
    ap (λ o. unwrap_or o (scalar_layout 0) ∷ layouts_of new rest) first
    ∙ ap (λ ls. unwrap_or (layout_of old (type_of m.ty)) (scalar_layout 0) ∷ ls) others

member_shapes-later :
    (old new : List RecordValue) → IsLater old new
    → (members : List MemberValue) → All (λ m. IsObjectType old (type_of m.ty)) members
    → member_shapes new members ≡ member_shapes old members
member_shapes-later old new later [] all = refl
member_shapes-later old new later (m ∷ rest) all =
    let first : shape_of new (type_of m.ty) (is_volatile m.ty) ≡ shape_of old (type_of m.ty) (is_volatile m.ty) =
    shape_of-later old new later (type_of m.ty) (is_volatile m.ty) (IsSome-object_type old (type_of m.ty) (All-first old m rest all)) in
    let others : member_shapes new rest ≡ member_shapes old rest =
    member_shapes-later old new later rest (All-rest old m rest all) in
    ap (λ text. text ++ member_shapes new rest) first
    ∙ ap (λ text. shape_of old (type_of m.ty) (is_volatile m.ty) ++ text) others

-- what followed from a record's members still does
Follows-later :
    (old new : List RecordValue) → IsLater old new
    → (kind : RecordKind) (c : ContentValue) → Follows old kind c → Follows new kind c
Follows-later old new later kind c f =
    let layouts : layouts_of new c.members ≡ layouts_of old c.members =
    layouts_of-later old new later c.members f.complete in
    record {
      complete = λ k d below. IsObjectType-later old new later (type_of (get_or c.members k d).ty) (f.complete k d below);
      laid = f.laid ∙ ap (record_layout kind) (sym layouts);
      placed = f.placed ∙ ap (record_offsets kind) (sym layouts);
      shaped = f.shaped ∙ ap (record_shape kind c.layout.size) (sym (member_shapes-later old new later c.members f.complete));
      within = f.within;
      aligned = f.aligned;
      short = f.short;
      shallow = f.shallow;
    }

-- A list of records that goes on from another is laid: what it defines anew follows from the old.
IsLaid-step :
    (old new : List RecordValue)
    → IsLater old new
    → IsLaid old
    → ((number : ℕ) (c : ContentValue) → content_at new number ≡ Some c
    → ((content_at old number ≡ Some c) × (kind_at new number ≡ kind_at old number))
    ⊎ Follows old (kind_at new number) c)
    → IsLaid new
IsLaid-step old new later laid known number c is =
    elim (known number c is) [
      | inl both ↦ subst (λ k. Follows new k c) (sym both.1) (Follows-later old new later (kind_at old number) c (laid number c both.0))
      | inr follows ↦ Follows-later old new later (kind_at new number) c follows
    ]

slice_get-set_other :
    {A : Type 0} (xs : List A) (i j : ℕ) (y : A) → j ≢ i → slice_get (set xs i y) j ≡ slice_get xs j
slice_get-set_other [] i j y ne = refl
slice_get-set_other (x ∷ xs) zero zero y ne = absurd (ne refl)
slice_get-set_other (x ∷ xs) zero (suc j) y ne = refl
slice_get-set_other (x ∷ xs) (suc i) zero y ne = refl
slice_get-set_other (x ∷ xs) (suc i) (suc j) y ne = slice_get-set_other xs i j y (λ e. ne (ap suc e))

slice_get-set_same :
    {A : Type 0} (xs : List A) (i : ℕ) (x y : A) → slice_get xs i ≡ Some x → slice_get (set xs i y) i ≡ Some y
slice_get-set_same [] i x y is = absurd (cc)
slice_get-set_same (z ∷ xs) zero x y is = refl
slice_get-set_same (z ∷ xs) (suc i) x y is = slice_get-set_same xs i x y is

-- two numbers are the same or they are not
same_or_not : (a b : ℕ) → (a ≡ b) ⊎ (a ≢ b)
same_or_not a b =
    elim (eqb a b) as (λ t. eqb a b ≡ t → (a ≡ b) ⊎ (a ≢ b)) [
      | true ↦ λ e. inl (eqb-true a b e)
      | false ↦ λ e. inr (grind (arith, common_steps))
    ] refl

-- defining a type that was not defined keeps the list laid
pub IsLaid-define :
    (old : List RecordValue) (number : ℕ) (content : ContentValue)
    → slice_get old number ≡ Some (declared (kind_at old number))
    → Follows old (kind_at old number) content
    → IsLaid old
    → IsLaid (set old number (defined (kind_at old number) content))
IsLaid-define old number content undefined follows laid =
    IsLaid-step old new later laid known
  where
    new : List RecordValue
    new = set old number (defined (kind_at old number) content)

    there : slice_get new number ≡ Some (defined (kind_at old number) content)
    there = slice_get-set_same old number (declared (kind_at old number)) (defined (kind_at old number) content) undefined

    other : (m : ℕ) → m ≢ number → slice_get new m ≡ slice_get old m
    other m ne = slice_get-set_other old number m (defined (kind_at old number) content) ne

    later : IsLater old new
    later m c is =
        elim (same_or_not m number) [
          | inl same ↦
              let none : content_at old number ≡ None = ap (option_and_then (λ (r : RecordValue). r.content)) undefined in
              let at : content_at old m ≡ content_at old number = ap (content_at old) same in
              (cc)
          | inr ne ↦ ap (option_and_then (λ (r : RecordValue). r.content)) (other m ne) ∙ is
        ]

    known :
        (m : ℕ) (c : ContentValue) → content_at new m ≡ Some c
        → ((content_at old m ≡ Some c) × (kind_at new m ≡ kind_at old m)) ⊎ Follows old (kind_at new m) c
    known m c is =
        elim (same_or_not m number) [
          | inl same ↦
              let at : content_at new m ≡ Some content =
              ap (content_at new) same ∙ ap (option_and_then (λ (r : RecordValue). r.content)) there in
              let kind : kind_at new m ≡ kind_at old number =
              ap (kind_at new) same ∙ ap (λ o. option_map_or (λ (r : RecordValue). r.kind) o Structure) there in
              let this : content ≡ c = cc in
              inr (subst (λ k. Follows old k c) (sym kind) (subst (Follows old (kind_at old number)) this follows))
          | inr ne ↦
              inl (
                sym (ap (option_and_then (λ (r : RecordValue). r.content)) (other m ne)) ∙ is,
                ap (λ o. option_map_or (λ (r : RecordValue). r.kind) o Structure) (other m ne),
              )
        ]

slice_get-append_before :
    {A : Type 0} (xs : List A) (y : A) (j : ℕ) (x : A)
    → slice_get xs j ≡ Some x → slice_get (xs ++ y ∷ []) j ≡ Some x
slice_get-append_before [] y j x is = absurd (cc)
slice_get-append_before (z ∷ xs) y zero x is = is
slice_get-append_before (z ∷ xs) y (suc j) x is = slice_get-append_before xs y j x is

slice_get-append_new :
    {A : Type 0} (xs : List A) (y : A) (j : ℕ) (x : A)
    → slice_get (xs ++ y ∷ []) j ≡ Some x → (slice_get xs j ≡ Some x) ⊎ (y ≡ x)
slice_get-append_new [] y zero x is = inr (cc)
slice_get-append_new [] y (suc j) x is = absurd (cc)
slice_get-append_new (z ∷ xs) y zero x is = inl is
slice_get-append_new (z ∷ xs) y (suc j) x is = slice_get-append_new xs y j x is

-- a type that is not defined yet, behind the others, keeps the list laid
pub IsLaid-declare :
    (old : List RecordValue) (kind : RecordKind) → IsLaid old → IsLaid (old ++ declared kind ∷ [])
IsLaid-declare old kind laid =
    IsLaid-step old new later laid known
  where
    new : List RecordValue
    new = old ++ declared kind ∷ []

    later : IsLater old new
    later m c is =
        elim (slice_get old m) as (λ o. slice_get old m ≡ o → option_and_then (λ r. r.content) o ≡ Some c → content_at new m ≡ Some c) [
          | None ↦ λ e h. absurd (cc)
          | Some r ↦ λ e h. ap (option_and_then (λ (x : RecordValue). x.content)) (slice_get-append_before old (declared kind) m r e) ∙ h
        ] refl is

    known :
        (m : ℕ) (c : ContentValue) → content_at new m ≡ Some c
        → ((content_at old m ≡ Some c) × (kind_at new m ≡ kind_at old m)) ⊎ Follows old (kind_at new m) c
    known m c is =
        elim (slice_get new m) as (λ o. slice_get new m ≡ o → option_and_then (λ r. r.content) o ≡ Some c → ((content_at old m ≡ Some c) × (kind_at new m ≡ kind_at old m)) ⊎ Follows old (kind_at new m) c) [
          | None ↦ λ e h. absurd (cc)
          | Some r ↦ λ e h.
              elim (slice_get-append_new old (declared kind) m r e) [
                | inl was ↦
                    inl (
                      ap (option_and_then (λ (x : RecordValue). x.content)) was ∙ h,
                      ap (λ o. option_map_or (λ (x : RecordValue). x.kind) o Structure) (e ∙ sym was),
                    )
                | inr this ↦
                    let none : None ≡ r.content = ap (λ (x : RecordValue). x.content) this in
                    absurd (cc)
              ]
        ] refl is

map-set : {A B : Type 0} (f : A → B) (xs : List A) (i : ℕ) (y : A) → map f (set xs i y) ≡ set (map f xs) i (f y)
map-set f [] i y = refl
map-set f (x ∷ xs) zero y = refl
map-set f (x ∷ xs) (suc i) y = ap (λ rest. f x ∷ rest) (map-set f xs i y)

-- what `define` writes, in the words of its contract
pub set-defined :
    (items : List RecordType) (now : List RecordValue) (number : ℕ) (r : RecordType) (content : Content)
    → view_records items ≡ now
    → r ≡ get_or items number r
    → slice_get now number ≡ Some (declared (kind_at now number))
    → view_records (set items number (let x : RecordType = record { kind = r.kind; content = Some content } in x))
    ≡ set now number (defined (kind_at now number) (view_content content))
set-defined items now number r content view reads undefined =
    let there : slice_get (view_records items) number ≡ Some (declared (kind_at now number)) =
    ap (λ xs. slice_get xs number) view ∙ undefined in
    let this : view_record r ≡ declared (kind_at now number) =
    ap view_record reads ∙ sym (get_or-map view_record items number r)
    ∙ get_or_from_slice_get (view_records items) number (declared (kind_at now number)) (view_record r) there in
    map-set view_record items number (let x : RecordType = record { kind = r.kind; content = Some content } in x)
    ∙ ap (λ xs. set xs number (defined r.kind (view_content content))) view
    ∙ ap (λ (x : RecordValue). set now number (defined x.kind (view_content content))) this

size_of_kind-pos : (k : IntKind) → 1 ≤ size_of_kind k
size_of_kind-pos = elim [
  | K.Char ↦ lit≤ tt
  | K.SChar ↦ lit≤ tt
  | K.UChar ↦ lit≤ tt
  | K.Short ↦ lit≤ tt
  | K.UShort ↦ lit≤ tt
  | K.Int ↦ lit≤ tt
  | K.UInt ↦ lit≤ tt
  | K.Long ↦ lit≤ tt
  | K.ULong ↦ lit≤ tt
]

-- every type that has a layout has an alignment of at least 1
pub aligned-by_laid :
    (records : List RecordValue) → IsLaid records
    → (ty : CType) (l : Layout) → layout_of records ty ≡ Some l → 1 ≤ l.align
aligned-by_laid records laid Void l is = absurd (cc)
aligned-by_laid records laid (Int kind) l is =
    let e : scalar_layout (size_of_kind kind) ≡ l = cc in
    subst (λ (x : Layout). 1 ≤ x.align) e (size_of_kind-pos kind)
aligned-by_laid records laid (Pointer target) l is =
    let e : scalar_layout 4 ≡ l = cc in
    subst (λ (x : Layout). 1 ≤ x.align) e (lit≤ tt)
aligned-by_laid records laid (Array element None) l is = absurd (cc)
aligned-by_laid records laid (Array (Qualified ty c v) (Some n)) l is =
    elim (layout_of records ty) as (λ o. layout_of records ty ≡ o → option_map (array_layout n) o ≡ Some l → 1 ≤ l.align) [
      | None ↦ λ e h. absurd (cc)
      | Some inner ↦ λ e h.
          let this : array_layout n inner ≡ l = cc in
          subst (λ (x : Layout). 1 ≤ x.align) this (aligned-by_laid records laid ty inner e)
    ] refl is
aligned-by_laid records laid (Function result params) l is = absurd (cc)
aligned-by_laid records laid (Record number) l is =
    elim (content_at records number) as (λ o. content_at records number ≡ o → option_map (λ c. c.layout) o ≡ Some l → 1 ≤ l.align) [
      | None ↦ λ e h. absurd (cc)
      | Some c ↦ λ e h.
          let this : c.layout ≡ l = cc in
          subst (λ (x : Layout). 1 ≤ x.align) this (laid number c e).aligned
    ] refl is
