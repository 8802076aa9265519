-- Types that keep the limits on sizes and on parameters (ISO C90 5.2.4.1), wherever more is known of the records that they name.
use Rattle.std.specs.Prelude.{ℕ, ◌≡◌, ◌<◌, ◌≤◌, ◌*◌, ◌^◌, Bool, true, false, nat_lt, if◌then◌else◌, Option, None, Some, option_map, unwrap_or, List, refl}
use Rattle.std.specs.Option.{option_or}
use Rattle.std.proofs.Common.{arith, ap, sym, subst, ◌∙◌}
use Rattle.std.proofs.lemmas.Bool.Decides.{nat_tests}
use Rattle.pw_value.specs.Limits.{size_limit, parameter_limit}
use Rattle.pw_types.specs.Conversions.{size_of_kind}
use Rattle.pw_types.specs.declared.kind.IntKind.{IntKind}
use Rattle.pw_types.specs.declared.kind.IntKind.TheVariants as K
use Rattle.pw_types.specs.declared.record.Layout.{Layout}
use Rattle.pw_types.specs.Layouts.{content_at, layout_of, array_layout, size_of}
use Rattle.pw_types.specs.Records.{IsLaid}
use Rattle.pw_types.specs.Sizes.{oversize_of, first_oversize, passing}
use Rattle.pw_types.specs.TypeTrees.{CType, Void, Int, Pointer, Array, Function, Record, QType, Qualified, QTypes, NoType, OneType, type_of, ContentValue, RecordValue}
use Rattle.pw_types.specs.WellTyped.{IsComplete}
use Rattle.pw_check_rules.specs.Compatible.{compatible, compatible_types, compatible_parameters, lengths_agree, composite_type, composite_parameters}
use Rattle.pw_check_rules.specs.Kinds.{qualify, pointee, parameters_of, result_of, count_of_types}
use Rattle.pw_check_rules.specs.Limits.{many_parameters, above, type_within}
use Rattle.pw_law_checked.specs.Lawful.{IsLawfulType, AreLawfulTypes, Extends}
use Rattle.pw_law_checked.proofs.Walking.{AreMet}
use Rattle.pw_law_checked.proofs.Lists.{never_some}
use Rattle.pw_law_checked.proofs.Types.{no, left, right, lawful_later, lawful_qualify, lawful_composite, extends_trans, extends_same}
use Rattle.pw_law_checked.proofs.Objects.{layout_same}
use Rattle.pw_law_checked.proofs.Composite.{types_compatible, layout_composite, layout_compatible}

-- ---- options

either_none : {X : Type 0} (a b : Option X) → option_or a b ≡ None → (a ≡ None) × (b ≡ None)
either_none None b e = (refl, e)
either_none (Some x) b e = never_some (sym e)

both_none : {X : Type 0} (a b : Option X) → a ≡ None → b ≡ None → option_or a b ≡ None
both_none None b e f = f
both_none (Some x) b e f = never_some (sym e)

small_passes : (n : ℕ) → n ≤ size_limit → passing (Some n) ≡ None
small_passes n h = let f : nat_lt size_limit n ≡ false = grind (arith, nat_tests, h) in ap (λ b. if b then Some n else None) f

above_none : (most n : ℕ) → above most n ≡ None → n ≤ most
above_none most n = by (nat_lt most n) refl
  where
    by : (b : Bool) → nat_lt most n ≡ b → (if b then Some n else None) ≡ None → n ≤ most
    by true e f = never_some (sym f)
    by false e f = grind (arith, nat_tests, e)

passed_small : (n : ℕ) → passing (Some n) ≡ None → n ≤ size_limit
passed_small n = above_none size_limit n

-- ---- types

-- the type, and each that it is made of, keeps the limit on sizes, and its functions that on parameters
pub record IsKept (r : List RecordValue) (ty : CType) : Type 0 where
  pub sized : oversize_of r ty ≡ None
  pub few : many_parameters ty ≡ None
  pub lawful : IsLawfulType r ty

-- a type that keeps them, whatever more of its records is defined
abbrev pub IsKeptFrom : List RecordValue → CType → Type 0
IsKeptFrom a ty = (r : List RecordValue) → IsLaid r → Extends a r → IsKept r ty

pub kept_from : (a b : List RecordValue) (ty : CType) → Extends a b → IsKeptFrom a ty → IsKeptFrom b ty
kept_from a b ty x h = λ r laid y. h r laid (extends_trans x y)

record_sized : (r : List RecordValue) → IsLaid r → (n : ℕ) → passing (size_of r (Record n)) ≡ None
record_sized r laid n = by (content_at r n) refl
  where
    by : (o : Option ContentValue) → content_at r n ≡ o → passing (option_map (λ (l : Layout). l.size) (option_map (λ (c : ContentValue). c.layout) o)) ≡ None
    by None e = refl
    by (Some c) e = small_passes c.layout.size (laid n c e).within

array_later : (a b : List RecordValue) → Extends a b → (ty : CType) (c v : Bool) (n : Option ℕ) → IsComplete a ty
    → passing (size_of a (Array (Qualified ty c v) n)) ≡ None → passing (size_of b (Array (Qualified ty c v) n)) ≡ None
array_later a b x ty c v None h e = refl
array_later a b x ty c v (Some n) h e = ap (λ o. passing (option_map (λ (l : Layout). l.size) (option_map (array_layout n) o))) (layout_same a b x ty h) ∙ e

mutual
  oversize_later : (a b : List RecordValue) → Extends a b → IsLaid b → (ty : CType) → IsLawfulType a ty → oversize_of a ty ≡ None → oversize_of b ty ≡ None
  oversize_later a b x laid Void h e = refl
  oversize_later a b x laid (Int kind) h e = refl
  oversize_later a b x laid (Pointer (Qualified ty c v)) h e = oversize_later a b x laid ty h e
  oversize_later a b x laid (Array (Qualified ty c v) n) h e =
      let y = either_none (oversize_of a ty) (passing (size_of a (Array (Qualified ty c v) n))) e in
      both_none (oversize_of b ty) (passing (size_of b (Array (Qualified ty c v) n))) (oversize_later a b x laid ty h.0 y.0) (array_later a b x ty c v n h.1 y.1)
  oversize_later a b x laid (Function (Qualified ty c v) ps) h e =
      let y = either_none (oversize_of a ty) (first_oversize a ps) e in
      both_none (oversize_of b ty) (first_oversize b ps) (oversize_later a b x laid ty h.0 y.0) (first_later a b x laid ps h.2 y.1)
  oversize_later a b x laid (Record n) h e = record_sized b laid n

  first_later : (a b : List RecordValue) → Extends a b → IsLaid b → (ps : QTypes) → AreLawfulTypes a ps → first_oversize a ps ≡ None → first_oversize b ps ≡ None
  first_later a b x laid NoType h e = refl
  first_later a b x laid (OneType (Qualified ty c v) ps) h e =
      let y = either_none (oversize_of a ty) (first_oversize a ps) e in
      both_none (oversize_of b ty) (first_oversize b ps) (oversize_later a b x laid ty h.0 y.0) (first_later a b x laid ps h.2 y.1)

size_small : (o : Option ℕ) → passing o ≡ None → unwrap_or o 0 < 2 ^ 32
size_small None e = omega arith
size_small (Some n) e = let h = passed_small n e in omega (arith, h)

kind_small : (kind : IntKind) → size_of_kind kind < 2 ^ 32
kind_small K.Char = omega arith
kind_small K.SChar = omega arith
kind_small K.UChar = omega arith
kind_small K.Short = omega arith
kind_small K.UShort = omega arith
kind_small K.Int = omega arith
kind_small K.UInt = omega arith
kind_small K.Long = omega arith
kind_small K.ULong = omega arith

-- the size of a type that keeps the limit is a word
pub sized_word : (r : List RecordValue) (ty : CType) → IsLaid r → oversize_of r ty ≡ None → unwrap_or (size_of r ty) 0 < 2 ^ 32
sized_word r Void laid e = omega arith
sized_word r (Int kind) laid e = kind_small kind
sized_word r (Pointer q) laid e = omega arith
sized_word r (Array (Qualified ty c v) n) laid e = size_small (size_of r (Array (Qualified ty c v) n)) (either_none (oversize_of r ty) (passing (size_of r (Array (Qualified ty c v) n))) e).1
sized_word r (Function q ps) laid e = omega arith
sized_word r (Record n) laid e = size_small (size_of r (Record n)) (record_sized r laid n)

unpassed : (o : Option ℕ) → Rattle.std.specs.Prelude.is_some o ≡ false → o ≡ None
unpassed None e = refl
unpassed (Some n) e = no (sym e)

-- a type that a declarator builds keeps them
pub within_kept : (a : List RecordValue) (token : ℕ) (q : QType) → IsLawfulType a (type_of q) → AreMet (type_within a token q) → IsKeptFrom a (type_of q)
within_kept a token q lawful met = λ r laid x. record {
  sized = oversize_later a r x laid (type_of q) lawful (unpassed (oversize_of a (type_of q)) met.0);
  few = unpassed (many_parameters (type_of q)) met.1.1.1.0;
  lawful = lawful_later a r x (type_of q) lawful;
}

-- ---- parts of types

pub kept_target : (r : List RecordValue) (q : QType) → IsKept r (Pointer q) → IsKept r (type_of q)
unfolding many_parameters
kept_target r (Qualified ty c v) h = record { sized = h.sized; few = h.few; lawful = h.lawful }

pub kept_pointer : (r : List RecordValue) (q : QType) → IsKept r (type_of q) → IsKept r (Pointer q)
unfolding many_parameters
kept_pointer r (Qualified ty c v) h = record { sized = h.sized; few = h.few; lawful = h.lawful }

pub kept_element : (r : List RecordValue) (q : QType) (n : Option ℕ) → IsKept r (Array q n) → IsKept r (type_of q)
unfolding many_parameters
kept_element r (Qualified ty c v) n h =
    record { sized = (either_none (oversize_of r ty) (passing (size_of r (Array (Qualified ty c v) n))) h.sized).0; few = h.few; lawful = h.lawful.0 }

pub kept_int : (r : List RecordValue) (k : IntKind) → IsKept r (Int k)
unfolding many_parameters
kept_int r k = record { sized = refl; few = refl; lawful = tt }

-- a string that is not too long
pub kept_string : (r : List RecordValue) (n : ℕ) → n ≤ size_limit → IsKept r (Array (Qualified (Int K.Char) false false) (Some n))
unfolding many_parameters
kept_string r n h = record { sized = small_passes (1 * n) (omega (arith, h)); few = refl; lawful = (tt, refl) }

-- an array of characters that keeps them
pub kept_short : (r : List RecordValue) (ty : CType) (n : ℕ) → IsLaid r → IsKeptFrom r ty → ty ≡ Array (Qualified (Int K.Char) false false) (Some n) → n ≤ size_limit
kept_short r ty n laid h e =
    let sized : oversize_of r (Array (Qualified (Int K.Char) false false) (Some n)) ≡ None = subst (λ x. oversize_of r x ≡ None) e (h r laid (extends_same r)).sized in
    let few : 1 * n ≤ size_limit = passed_small (1 * n) (either_none (oversize_of r (Int K.Char)) (passing (size_of r (Array (Qualified (Int K.Char) false false) (Some n)))) sized).1 in
    omega (arith, few)

pub kept_void : (r : List RecordValue) → IsKept r Void
unfolding many_parameters
kept_void r = record { sized = refl; few = refl; lawful = tt }

pub kept_pointee : (r : List RecordValue) (ty : CType) → IsKept r ty → IsKept r (type_of (pointee ty))
kept_pointee r (Pointer q) h = kept_target r q h
kept_pointee r Void h = h
kept_pointee r (Int k) h = h
kept_pointee r (Array q n) h = h
kept_pointee r (Function q ps) h = h
kept_pointee r (Record n) h = h

-- what a function gives, and what it takes
pub record IsKeptCallee (r : List RecordValue) (ty : CType) : Type 0 where
  pub result : IsKept r (type_of (result_of ty))
  pub few : count_of_types (parameters_of ty) ≤ parameter_limit
  pub params : first_oversize r (parameters_of ty) ≡ None

none_taken : 0 ≤ parameter_limit
none_taken = omega arith

pub kept_callee : (r : List RecordValue) (ty : CType) → IsKept r ty → IsKeptCallee r ty
unfolding many_parameters
kept_callee r (Function (Qualified ty c v) ps) h =
    let x = either_none (oversize_of r ty) (first_oversize r ps) h.sized in
    let y = either_none (many_parameters ty) (above parameter_limit (count_of_types ps)) h.few in
    record { result = record { sized = x.0; few = y.0; lawful = h.lawful.0 }; few = above_none parameter_limit (count_of_types ps) y.1; params = x.1 }
kept_callee r Void h = record { result = h; few = none_taken; params = refl }
kept_callee r (Int k) h = record { result = h; few = none_taken; params = refl }
kept_callee r (Pointer q) h = record { result = h; few = none_taken; params = refl }
kept_callee r (Array q n) h = record { result = h; few = none_taken; params = refl }
kept_callee r (Record n) h = record { result = h; few = none_taken; params = refl }

-- ---- qualifiers more

array_laid : (r : List RecordValue) (q : QType) (n : ℕ) → layout_of r (Array q (Some n)) ≡ option_map (array_layout n) (layout_of r (type_of q))
array_laid r (Qualified ty c v) n = refl

layout_qualify : (r : List RecordValue) (c v : Bool) (q : QType) → layout_of r (type_of (qualify c v q)) ≡ layout_of r (type_of q)
unfolding qualify
layout_qualify r c v (Qualified (Array q None) d w) = refl
layout_qualify r c v (Qualified (Array q (Some n)) d w) = array_laid r (qualify c v q) n ∙ ap (option_map (array_layout n)) (layout_qualify r c v q) ∙ sym (array_laid r q n)
layout_qualify r c v (Qualified Void d w) = refl
layout_qualify r c v (Qualified (Int k) d w) = refl
layout_qualify r c v (Qualified (Pointer q) d w) = refl
layout_qualify r c v (Qualified (Function q ps) d w) = refl
layout_qualify r c v (Qualified (Record n) d w) = refl

array_oversize : (r : List RecordValue) (q : QType) (n : Option ℕ) → oversize_of r (Array q n) ≡ option_or (oversize_of r (type_of q)) (passing (size_of r (Array q n)))
array_oversize r (Qualified ty c v) n = refl

oversize_qualify : (r : List RecordValue) (c v : Bool) (q : QType) → oversize_of r (type_of (qualify c v q)) ≡ oversize_of r (type_of q)
unfolding qualify
oversize_qualify r c v (Qualified (Array q n) d w) =
    array_oversize r (qualify c v q) n
    ∙ ap (λ o. option_or o (passing (size_of r (Array (qualify c v q) n)))) (oversize_qualify r c v q)
    ∙ ap (λ o. option_or (oversize_of r (type_of q)) (passing (option_map (λ (l : Layout). l.size) o))) (layout_qualify r c v (Qualified (Array q n) d w))
    ∙ sym (array_oversize r q n)
oversize_qualify r c v (Qualified Void d w) = refl
oversize_qualify r c v (Qualified (Int k) d w) = refl
oversize_qualify r c v (Qualified (Pointer q) d w) = refl
oversize_qualify r c v (Qualified (Function q ps) d w) = refl
oversize_qualify r c v (Qualified (Record n) d w) = refl

array_many : (q : QType) (n : Option ℕ) → many_parameters (Array q n) ≡ many_parameters (type_of q)
unfolding many_parameters
array_many (Qualified ty c v) n = refl

many_qualify : (c v : Bool) (q : QType) → many_parameters (type_of (qualify c v q)) ≡ many_parameters (type_of q)
unfolding qualify
many_qualify c v (Qualified (Array q n) d w) = array_many (qualify c v q) n ∙ many_qualify c v q ∙ sym (array_many q n)
many_qualify c v (Qualified Void d w) = refl
many_qualify c v (Qualified (Int k) d w) = refl
many_qualify c v (Qualified (Pointer q) d w) = refl
many_qualify c v (Qualified (Function q ps) d w) = refl
many_qualify c v (Qualified (Record n) d w) = refl

pub kept_qualify : (r : List RecordValue) (c v : Bool) (q : QType) → IsKept r (type_of q) → IsKept r (type_of (qualify c v q))
kept_qualify r c v q h = record { sized = oversize_qualify r c v q ∙ h.sized; few = many_qualify c v q ∙ h.few; lawful = lawful_qualify r c v q h.lawful }

-- ---- composites

count_composite : (ps qs : QTypes) → count_of_types (composite_parameters ps qs) ≡ count_of_types ps
unfolding composite_type
count_composite (OneType a ps) (OneType b qs) = ap (λ n. Rattle.std.specs.Prelude.◌+◌ 1 n) (count_composite ps qs)
count_composite (OneType a ps) NoType = refl
count_composite NoType qs = refl

many_composite : (a b : CType) → many_parameters (composite_type a b) ≡ many_parameters a
unfolding composite_type many_parameters
many_composite (Pointer (Qualified a c v)) (Pointer (Qualified b d w)) = many_composite a b
many_composite (Array (Qualified a c v) n) (Array (Qualified b d w) m) = many_composite a b
many_composite (Function (Qualified a c v) ps) (Function (Qualified b d w) qs) =
    ap (λ o. option_or o (above parameter_limit (count_of_types (composite_parameters ps qs)))) (many_composite a b)
    ∙ ap (λ n. option_or (many_parameters a) (above parameter_limit n)) (count_composite ps qs)
many_composite _ _ = refl

array_composite : (r : List RecordValue) (a b : CType) (c v d w : Bool) (n m : Option ℕ) → compatible_types a b ≡ true → IsComplete r a → IsComplete r b
    → passing (size_of r (Array (Qualified a c v) n)) ≡ None → passing (size_of r (Array (Qualified b d w) m)) ≡ None
    → passing (size_of r (Array (Qualified (composite_type a b) c v) (option_or n m))) ≡ None
array_composite r a b c v d w (Some n) m e h k x y = ap (λ o. passing (option_map (λ (l : Layout). l.size) (option_map (array_layout n) o))) (layout_composite r a b h r) ∙ x
array_composite r a b c v d w None (Some m) e h k x y =
    ap (λ o. passing (option_map (λ (l : Layout). l.size) (option_map (array_layout m) o))) (layout_composite r a b h r ∙ layout_compatible r a b e h k r) ∙ y
array_composite r a b c v d w None None e h k x y = refl

mutual
  unfolding composite_type compatible_types

  oversize_composite : (r : List RecordValue) (a b : CType) → IsLawfulType r a → IsLawfulType r b → compatible_types a b ≡ true → oversize_of r a ≡ None → oversize_of r b ≡ None
      → oversize_of r (composite_type a b) ≡ None
  oversize_composite r (Pointer (Qualified a c v)) (Pointer (Qualified b d w)) h k e x y = oversize_composite r a b h k (types_compatible a b c v d w e).0 x y
  oversize_composite r (Array (Qualified a c v) n) (Array (Qualified b d w) m) h k e x y =
      let same = (types_compatible a b c v d w (left (compatible (Qualified a c v) (Qualified b d w)) (lengths_agree n m) e)).0 in
      let f = either_none (oversize_of r a) (passing (size_of r (Array (Qualified a c v) n))) x in
      let g = either_none (oversize_of r b) (passing (size_of r (Array (Qualified b d w) m))) y in
      both_none (oversize_of r (composite_type a b)) (passing (size_of r (Array (Qualified (composite_type a b) c v) (option_or n m))))
      (oversize_composite r a b h.0 k.0 same f.0 g.0) (array_composite r a b c v d w n m same h.1 k.1 f.1 g.1)
  oversize_composite r (Function (Qualified a c v) ps) (Function (Qualified b d w) qs) h k e x y =
      let same = (types_compatible a b c v d w (left (compatible (Qualified a c v) (Qualified b d w)) (compatible_parameters ps qs) e)).0 in
      let f = either_none (oversize_of r a) (first_oversize r ps) x in
      let g = either_none (oversize_of r b) (first_oversize r qs) y in
      both_none (oversize_of r (composite_type a b)) (first_oversize r (composite_parameters ps qs)) (oversize_composite r a b h.0 k.0 same f.0 g.0)
      (first_composite r ps qs h.2 k.2 (right (compatible (Qualified a c v) (Qualified b d w)) (compatible_parameters ps qs) e) f.1 g.1)
  oversize_composite r _ _ h k e x y = x

  first_composite : (r : List RecordValue) (ps qs : QTypes) → AreLawfulTypes r ps → AreLawfulTypes r qs → compatible_parameters ps qs ≡ true → first_oversize r ps ≡ None → first_oversize r qs ≡ None
      → first_oversize r (composite_parameters ps qs) ≡ None
  first_composite r (OneType (Qualified a c v) ps) (OneType (Qualified b d w) qs) h k e x y =
      let f = either_none (oversize_of r a) (first_oversize r ps) x in
      let g = either_none (oversize_of r b) (first_oversize r qs) y in
      both_none (oversize_of r (composite_type a b)) (first_oversize r (composite_parameters ps qs))
      (oversize_composite r a b h.0 k.0 (left (compatible_types a b) (compatible_parameters ps qs) e) f.0 g.0)
      (first_composite r ps qs h.2 k.2 (right (compatible_types a b) (compatible_parameters ps qs) e) f.1 g.1)
  first_composite r NoType NoType h k e x y = refl
  first_composite r NoType (OneType b qs) h k e x y = refl
  first_composite r (OneType a ps) NoType h k e x y = no e

pub kept_composite : (r : List RecordValue) (a b : CType) → IsKept r a → IsKept r b → compatible_types a b ≡ true → IsKept r (composite_type a b)
kept_composite r a b h k e = record {
  sized = oversize_composite r a b h.lawful k.lawful e h.sized k.sized;
  few = many_composite a b ∙ h.few;
  lawful = lawful_composite r a b h.lawful k.lawful;
}
