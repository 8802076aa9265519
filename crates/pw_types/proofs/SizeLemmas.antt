-- Sizes that are cut off at the greatest number that a word can tell, and the first that passes the
-- limit.
use Rattle.std.proofs.Common.{◌≡◌, ℕ, zero, suc, ◌-◌, ◌*◌, ◌^◌, ◌<◌, ◌≤◌, inl, inr, min, List, [], ◌∷◌, ◌++◌, length, take, get_or, refl, ap, ◌∙◌, sym, arith, lit≤, Option, None, Some, IfSome, option_map}
use Rattle.std.proofs.lemmas.Bool.{cases_lt}
use Rattle.std.proofs.lemmas.Bool.Decides.{nat_tests}
use Rattle.std.proofs.Math.Nat.{le-mul_of_pos_right, mul-le-mul_right}
use Rattle.std.specs.Option.{option_or}
use Rattle.pw_types.specs.TypeTrees.{CType, Void, Int, Pointer, Array, Function, Record, Qualified, RecordValue}
use Rattle.pw_types.specs.Views.{view_type, view_types}
use Rattle.pw_types.specs.declared.kind.IntKind.{IntKind}
use Rattle.pw_types.specs.declared.kind.IntKind.TheVariants as K
use Rattle.pw_types.specs.Conversions.{size_of_kind}
use Rattle.pw_types.specs.declared.ctype.QType.{QType}
use Rattle.pw_types.specs.declared.record.Layout.{Layout}
use Rattle.pw_value.specs.Caps.{clipped, capped}
use Rattle.pw_types.specs.Layouts.{layout_of, array_layout, size_of, told}
use Rattle.pw_value.specs.Limits.{size_limit}
use Rattle.pw_types.specs.Sizes.{passing, oversize_of, first_oversize}

-- a product of a number that was cut off is cut off as the whole product is
min-mul_min : (most a n : ℕ) → min (min a most * n) most ≡ min (a * n) most
min-mul_min most a zero = omega arith
min-mul_min most a (suc k) =
    elim (cases_lt most a) [
      | inl above ↦
          let cut : min a most ≡ most = omega arith in
          let one : most ≤ most * suc k = le-mul_of_pos_right most (omega arith) in
          let two : most * suc k ≤ a * suc k = mul-le-mul_right (suc k) (omega arith) in
          ap (λ x. min (x * suc k) most) cut ∙ omega arith
      | inr within ↦
          let cut : min a most ≡ a = omega arith in
          ap (λ x. min (x * suc k) most) cut
    ]

-- the layout of an array by what 32 bits tell of its element's
pub layout_of-array :
    (records : List RecordValue) (ty : CType) (count size : ℕ) (element : Layout)
    → Some element ≡ option_map told (layout_of records ty)
    → size ≡ min (element.size * count) (2 ^ 32 - 1)
    → Some (let l : Layout = record { size = size; align = element.align } in l)
    ≡ option_map told (option_map (array_layout count) (layout_of records ty))
layout_of-array records ty count size element inner size_is =
    elim (layout_of records ty) as (λ o. Some element ≡ option_map told o → Some (let l : Layout = record { size = size; align = element.align } in l) ≡ option_map told (option_map (array_layout count) o)) [
      | None ↦ λ h. absurd (cc)
      | Some l ↦ λ h.
          let is : element ≡ told l = cc in
          let whole : size ≡ clipped (l.size * count) =
          size_is ∙ ap (λ (e : Layout). min (e.size * count) (2 ^ 32 - 1)) is ∙ min-mul_min (2 ^ 32 - 1) l.size count in
          ap (λ s. Some (let l : Layout = record { size = s; align = element.align } in l)) whole
          ∙ ap (λ (e : Layout). Some (let x : Layout = record { size = clipped (l.size * count); align = e.align } in x)) is
    ] inner

-- the size of an array by what 64 bits tell of its element's
pub size_of-array :
    (records : List RecordValue) (ty : CType) (count size element : ℕ)
    → Some element ≡ option_map capped (size_of records ty)
    → size ≡ min (element * count) (2 ^ 64 - 1)
    → Some size ≡ option_map capped (option_map (λ l. l.size) (option_map (array_layout count) (layout_of records ty)))
size_of-array records ty count size element inner size_is =
    elim (layout_of records ty) as (λ o. Some element ≡ option_map capped (option_map (λ l. l.size) o) → Some size ≡ option_map capped (option_map (λ l. l.size) (option_map (array_layout count) o))) [
      | None ↦ λ h. absurd (cc)
      | Some l ↦ λ h.
          let is : element ≡ capped l.size = cc in
          ap Some (size_is ∙ ap (λ e. min (e * count) (2 ^ 64 - 1)) is ∙ min-mul_min (2 ^ 64 - 1) l.size count)
    ] inner

first_oversize-append_one :
    (records : List RecordValue) (xs : List QType) (q : QType)
    → first_oversize records (view_types (xs ++ q ∷ [])) ≡ option_or (first_oversize records (view_types xs)) (oversize_of records (view_type q.ty))
first_oversize-append_one records [] q =
    elim (oversize_of records (view_type q.ty)) as (λ o. option_or o None ≡ o) [ None ↦ refl | Some n ↦ refl ]
first_oversize-append_one records (x ∷ xs) q =
    elim (oversize_of records (view_type x.ty)) as (λ o. option_or o (first_oversize records (view_types (xs ++ q ∷ []))) ≡ option_or (option_or o (first_oversize records (view_types xs))) (oversize_of records (view_type q.ty))) [
      | None ↦ first_oversize-append_one records xs q
      | Some n ↦ refl
    ]

-- where none of the first passes the limit, and the next one does not
pub first_oversize-more :
    (records : List RecordValue) (xs : List QType) (q : QType)
    → first_oversize records (view_types xs) ≡ None → oversize_of records (view_type q.ty) ≡ None
    → first_oversize records (view_types (xs ++ q ∷ [])) ≡ None
first_oversize-more records xs q before this =
    first_oversize-append_one records xs q
    ∙ ap (λ o. option_or o (oversize_of records (view_type q.ty))) before
    ∙ this

-- where none of the first passes the limit, and the next one does
pub first_oversize-at :
    (records : List RecordValue) (xs : List QType) (i n : ℕ) (q : QType)
    → i < length xs
    → q ≡ get_or xs i q
    → first_oversize records (view_types (take i xs)) ≡ None
    → oversize_of records (view_type q.ty) ≡ Some n
    → first_oversize records (view_types xs) ≡ Some n
first_oversize-at records [] i n q below reads before this = absurd (omega arith)
first_oversize-at records (x ∷ xs) zero n q below reads before this =
    ap (λ (y : QType). option_or (oversize_of records (view_type y.ty)) (first_oversize records (view_types xs))) (sym reads)
    ∙ ap (λ o. option_or o (first_oversize records (view_types xs))) this
first_oversize-at records (x ∷ xs) (suc i) n q below reads before this =
    elim (oversize_of records (view_type x.ty)) as (λ o. option_or o (first_oversize records (view_types (take i xs))) ≡ None → option_or o (first_oversize records (view_types xs)) ≡ Some n) [
      | None ↦ λ h. first_oversize-at records xs i n q (omega arith) reads h this
      | Some m ↦ λ h. absurd (cc)
    ] before

-- a size that does not pass the limit
within-passing : (o : Option Layout) → passing (option_map (λ l. l.size) o) ≡ None → IfSome o (λ l. l.size ≤ size_limit)
within-passing None is = tt
within-passing (Some l) is = grind (arith, nat_tests, is)

None-option_or : {A : Type 0} (a b : Option A) → option_or a b ≡ None → b ≡ None
None-option_or None b is = is
None-option_or (Some x) b is = absurd (cc)

-- a type that keeps the limit with all that it is made of keeps it itself
within-oversize :
    (records : List RecordValue) (ty : CType)
    → oversize_of records ty ≡ None → IfSome (layout_of records ty) (λ l. l.size ≤ size_limit)
within-oversize records Void is = tt
within-oversize records (Int kind) is = within_kind kind
  where
    within_kind : (k : IntKind) → size_of_kind k ≤ size_limit
    within_kind = elim [
      | K.Char ↦ lit≤ tt
      | K.SChar ↦ lit≤ tt
      | K.UChar ↦ lit≤ tt
      | K.Short ↦ lit≤ tt
      | K.UShort ↦ lit≤ tt
      | K.Int ↦ lit≤ tt
      | K.UInt ↦ lit≤ tt
      | K.Long ↦ lit≤ tt
      | K.ULong ↦ lit≤ tt
    ]
within-oversize records (Pointer target) is = lit≤ tt
within-oversize records (Array (Qualified ty c v) count) is =
    within-passing
    (layout_of records (Array (Qualified ty c v) count))
    (None-option_or (oversize_of records ty) (passing (size_of records (Array (Qualified ty c v) count))) is)
within-oversize records (Function result params) is = tt
within-oversize records (Record number) is = within-passing (layout_of records (Record number)) is

-- where no size passes the limit, 32 bits tell the layout
pub layout_of-lawful :
    (records : List RecordValue) (ty : CType) (result : Option Layout)
    → result ≡ option_map told (layout_of records ty)
    → oversize_of records ty ≡ None
    → result ≡ layout_of records ty
layout_of-lawful records ty result is none =
    is ∙ exact (layout_of records ty) (within-oversize records ty none)
  where
    exact : (o : Option Layout) → IfSome o (λ l. l.size ≤ size_limit) → option_map told o ≡ o
    exact None within = refl
    exact (Some l) within =
        let same : clipped l.size ≡ l.size = omega arith in
        ap (λ s. Some (let x : Layout = record { size = s; align = l.align } in x)) same

-- a layout that 32 bits tell is the layout itself where its size keeps the limit
pub layout_of-exact :
    (o result : Option Layout) → result ≡ option_map told o → IfSome o (λ l. l.size ≤ size_limit → result ≡ Some l)
layout_of-exact None result is = tt
layout_of-exact (Some l) result is = λ small.
    let same : clipped l.size ≡ l.size = omega arith in
    is ∙ ap (λ s. Some (let x : Layout = record { size = s; align = l.align } in x)) same
