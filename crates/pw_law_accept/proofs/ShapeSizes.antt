-- Shapes tell sizes: types of one shape, both of known size, have one.
use Rattle.std.proofs.Common.{◌≡◌, ◌≤◌, ◌*◌, ℕ, zero, suc, Bool, true, false, Option, Some, None, List, [], ◌∷◌, ◌++◌, refl, sym, ap, subst, ◌∙◌, arith, IsTrue}
use Rattle.std.specs.Prelude.{decimal, option_map, option_and_then, slice_get, unwrap_or, ◌==◌, ◌||◌, if◌then◌else◌}
use Rattle.std.specs.Char.{is_ascii_digit}
use Rattle.std.specs.List.{list_all}
use Rattle.std.specs.Option.{option_map_or}
use Rattle.std.proofs.lemmas.Fmt.{decimal_injective}
use Rattle.pw_value.specs.Limits.{size_limit}
use Rattle.pw_value.specs.Shapes.{IsDecimal}
use Rattle.pw_types.specs.Conversions.{size_of_kind}
use Rattle.pw_types.specs.declared.kind.IntKind.{IntKind}
use Rattle.pw_types.specs.declared.kind.IntKind.TheVariants as K
use Rattle.pw_types.specs.declared.record.Layout.{Layout}
use Rattle.pw_types.specs.declared.record.RecordKind.{RecordKind}
use Rattle.pw_types.specs.declared.record.RecordKind.TheVariants.{Structure, Union}
use Rattle.pw_types.specs.Layouts.{array_layout, content_at, layout_of}
use Rattle.pw_types.specs.Records.{IsLaid, kind_at}
use Rattle.pw_types.specs.Shapes.{shape_of, shape_of_record, unknown_shape, record_shape, member_shapes, letter_of_kind, marked, length_text, closing}
use Rattle.pw_types.specs.TypeTrees.{CType, Void, Int, Pointer, Array, Function, Record, Qualified, ContentValue, RecordValue}
use Rattle.pw_law_checked.proofs.Lists.{some_same, never_some}
use Rattle.pw_law_checked.proofs.Composite.{decimal_is}
use Rattle.pw_law_answers.proofs.Agreeing.{digit_first, digit_rest}

abbrev tail : List ℕ → List ℕ
tail [] = []
tail (x ∷ xs) = xs

abbrev head : List ℕ → ℕ
head [] = 0
head (x ∷ xs) = x

clash : (b : Bool) → b ≡ true → b ≡ false → ⊥
clash b d e = cc

-- ---- digits before what is none

split_at : (c : ℕ) → is_ascii_digit c ≡ false → (a b s t : List ℕ) → IsTrue (list_all is_ascii_digit a) → IsTrue (list_all is_ascii_digit b) → a ++ c ∷ s ≡ b ++ c ∷ t → (a ≡ b) × (s ≡ t)
split_at c none [] [] s t h k e = (refl, ap tail e)
split_at c none [] (y ∷ b) s t h k e = let same : c ≡ y = ap head e in absurd (clash (is_ascii_digit c) (ap is_ascii_digit same ∙ digit_first y b k) none)
split_at c none (x ∷ a) [] s t h k e = let same : x ≡ c = ap head e in absurd (clash (is_ascii_digit c) (ap is_ascii_digit (sym same) ∙ digit_first x a h) none)
split_at c none (x ∷ a) (y ∷ b) s t h k e =
    let same : x ≡ y = ap head e in
    let rest = split_at c none a b s t (digit_rest x a h) (digit_rest y b k) (ap tail e) in
    (ap (λ (z : ℕ). z ∷ a) same ∙ ap (λ (zs : List ℕ). y ∷ zs) rest.0, rest.1)

numbers_split : (c : ℕ) → is_ascii_digit c ≡ false → (n m : ℕ) (s t : List ℕ) → decimal n ++ c ∷ s ≡ decimal m ++ c ∷ t → (decimal n ≡ decimal m) × (s ≡ t)
numbers_split c none n m s t e = split_at c none (decimal n) (decimal m) s t (decimal_is n).1 (decimal_is m).1 e

-- ---- what a shape begins with

abbrev sort_by : ℕ → ℕ
sort_by x = if x == 91 then 1 else if x == 123 || x == 60 then 2 else 0

abbrev sort_of_text : List ℕ → ℕ
sort_of_text text = sort_by (head text)

abbrev sort_of : CType → ℕ
sort_of (Array q n) = 1
sort_of (Record n) = 2
sort_of ty = 0

marked_sort : (v : Bool) (k : IntKind) → sort_of_text (marked v (letter_of_kind k)) ≡ 0
marked_sort true k = refl
marked_sort false K.Char = refl
marked_sort false K.SChar = refl
marked_sort false K.UChar = refl
marked_sort false K.Short = refl
marked_sort false K.UShort = refl
marked_sort false K.Int = refl
marked_sort false K.UInt = refl
marked_sort false K.Long = refl
marked_sort false K.ULong = refl

pointer_sort : (v : Bool) → sort_of_text (marked v 112) ≡ 0
pointer_sort true = refl
pointer_sort false = refl

-- ---- scalars

abbrev size_by : ℕ → ℕ
size_by x = if x == 99 || (x == 97 || x == 104) then 1 else if x == 115 || x == 116 then 2 else 4

abbrev size_in : List ℕ → ℕ
size_in text = if head text == 33 then size_by (head (tail text)) else size_by (head text)

kind_size : (v : Bool) (k : IntKind) → size_in (marked v (letter_of_kind k)) ≡ size_of_kind k
kind_size true K.Char = refl
kind_size true K.SChar = refl
kind_size true K.UChar = refl
kind_size true K.Short = refl
kind_size true K.UShort = refl
kind_size true K.Int = refl
kind_size true K.UInt = refl
kind_size true K.Long = refl
kind_size true K.ULong = refl
kind_size false K.Char = refl
kind_size false K.SChar = refl
kind_size false K.UChar = refl
kind_size false K.Short = refl
kind_size false K.UShort = refl
kind_size false K.Int = refl
kind_size false K.UInt = refl
kind_size false K.Long = refl
kind_size false K.ULong = refl

pointer_size : (v : Bool) → size_in (marked v 112) ≡ 4
pointer_size true = refl
pointer_size false = refl

scalar_size : (r : List RecordValue) (ty : CType) (v : Bool) (l : Layout) → sort_of ty ≡ 0 → layout_of r ty ≡ Some l → size_in (shape_of r ty v) ≡ l.size
scalar_size r Void v l s e = never_some e
scalar_size r (Int k) v l s e = kind_size v k ∙ ap (λ (x : Layout). x.size) (some_same e)
scalar_size r (Pointer q) v l s e = pointer_size v ∙ ap (λ (x : Layout). x.size) (some_same e)
scalar_size r (Array q n) v l s e = absurd (omega (arith, s))
scalar_size r (Function q ps) v l s e = never_some e
scalar_size r (Record n) v l s e = absurd (omega (arith, s))

-- ---- records

abbrev RecordText : List RecordValue → CType → Bool → Layout → Type 0
RecordText r ty v l = (k : RecordKind) × (members : List ℕ) × (shape_of r ty v ≡ record_shape k l.size members)

record_known : (r : List RecordValue) (n : ℕ) (v : Bool) (l : Layout) → IsLaid r → layout_of r (Record n) ≡ Some l → RecordText r (Record n) v l
record_known r n v l laid e = by (slice_get r n) refl e
  where
    of_content : (x : RecordValue) → slice_get r n ≡ Some x → (o : Option ContentValue) → x.content ≡ o → option_map (λ (c : ContentValue). c.layout) o ≡ Some l → RecordText r (Record n) v l
    of_content x at None f g = never_some g
    of_content x at (Some c) f g =
        let there : content_at r n ≡ Some c = ap (option_and_then (λ (y : RecordValue). y.content)) at ∙ f in
        let whole = laid n c there in
        let text : shape_of r (Record n) v ≡ c.shape = ap (λ (o : Option RecordValue). unwrap_or (option_map shape_of_record o) []) at ∙ ap (λ (o : Option ContentValue). option_map_or (λ (c : ContentValue). c.shape) o (unknown_shape x.kind)) f in
        (kind_at r n, member_shapes r c.members, text ∙ (whole.shaped ∙ ap (λ (y : Layout). record_shape (kind_at r n) y.size (member_shapes r c.members)) (some_same g)))

    by : (o : Option RecordValue) → slice_get r n ≡ o → option_map (λ (c : ContentValue). c.layout) (option_and_then (λ (y : RecordValue). y.content) o) ≡ Some l → RecordText r (Record n) v l
    by None at g = never_some g
    by (Some x) at g = of_content x at x.content refl g

opening_sort : (k : RecordKind) (size : ℕ) (members : List ℕ) → sort_of_text (record_shape k size members) ≡ 2
opening_sort Structure size members = refl
opening_sort Union size members = refl

length_sort : (n : Option ℕ) (rest : List ℕ) → sort_of_text (length_text n ++ rest) ≡ 1
length_sort None rest = refl
length_sort (Some n) rest = refl

shape_sort : (r : List RecordValue) (ty : CType) (v : Bool) (l : Layout) → IsLaid r → layout_of r ty ≡ Some l → sort_of_text (shape_of r ty v) ≡ sort_of ty
shape_sort r Void v l laid e = never_some e
shape_sort r (Int k) v l laid e = marked_sort v k
shape_sort r (Pointer q) v l laid e = pointer_sort v
shape_sort r (Array (Qualified ty c w) n) v l laid e = length_sort n _
shape_sort r (Function q ps) v l laid e = never_some e
shape_sort r (Record n) v l laid e = let t = record_known r n v l laid e in ap sort_of_text t.2 ∙ opening_sort t.0 l.size t.1

record_sizes : (j k : RecordKind) (a b : ℕ) (s t : List ℕ) → a ≤ size_limit → b ≤ size_limit → record_shape j a s ≡ record_shape k b t → a ≡ b
record_sizes j k a b s t h i e =
    let rest : decimal a ++ 58 ∷ (s ++ closing j ∷ []) ≡ decimal b ++ 58 ∷ (t ++ closing k ∷ []) = ap tail e in
    decimal_injective a b (omega (arith, h)) (omega (arith, i)) (numbers_split 58 refl a b (s ++ closing j ∷ []) (t ++ closing k ∷ []) rest).0

-- ---- arrays

append_assoc : (xs ys zs : List ℕ) → (xs ++ ys) ++ zs ≡ xs ++ (ys ++ zs)
append_assoc [] ys zs = refl
append_assoc (x ∷ xs) ys zs = ap (λ (t : List ℕ). x ∷ t) (append_assoc xs ys zs)

part_least : (k n : ℕ) → k ≤ k * suc n
part_least k n = grind arith

parts_least : (k n : ℕ) → n ≤ suc k * n
parts_least k n = grind arith

-- so many elements of a size, where the numbers of elements have one text
arrays_same : (n m a b : ℕ) → a * n ≤ size_limit → b * m ≤ size_limit → decimal n ≡ decimal m → (a ≤ size_limit → b ≤ size_limit → a ≡ b) → a * n ≡ b * m
arrays_same zero zero a b h i e same = grind arith
arrays_same zero (suc m) a zero h i e same = grind arith
arrays_same zero (suc m) a (suc b) h i e same =
    let least = parts_least b (suc m) in
    let wrong : 0 ≡ suc m = decimal_injective 0 (suc m) (omega arith) (omega (arith, least, i)) e in
    absurd (omega (arith, wrong))
arrays_same (suc n) zero zero b h i e same = grind arith
arrays_same (suc n) zero (suc a) b h i e same =
    let least = parts_least a (suc n) in
    let wrong : suc n ≡ 0 = decimal_injective (suc n) 0 (omega (arith, least, h)) (omega arith) e in
    absurd (omega (arith, wrong))
arrays_same (suc n) (suc m) a b h i e same = by a b (same (omega (arith, part_least a n, h)) (omega (arith, part_least b m, i))) h i
  where
    by : (a b : ℕ) → a ≡ b → a * suc n ≤ size_limit → b * suc m ≤ size_limit → a * suc n ≡ b * suc m
    by zero b f h i = subst (λ x. zero * suc n ≡ x * suc m) f (grind arith)
    by (suc a) zero f h i = absurd (omega (arith, f))
    by (suc a) (suc b) f h i =
        let one = parts_least a (suc n) in
        let two = parts_least b (suc m) in
        let count : suc n ≡ suc m = decimal_injective (suc n) (suc m) (omega (arith, one, h)) (omega (arith, two, i)) e in
        ap (λ x. x * suc n) f ∙ ap (λ x. suc b * x) count

-- the element of an array of known size
element_of : (r : List RecordValue) (ty : CType) (n : ℕ) (l : Layout) → option_map (array_layout n) (layout_of r ty) ≡ Some l → (e : Layout) × (layout_of r ty ≡ Some e) × (l.size ≡ e.size * n)
element_of r ty n l h = by (layout_of r ty) refl h
  where
    by : (o : Option Layout) → layout_of r ty ≡ o → option_map (array_layout n) o ≡ Some l → (e : Layout) × (layout_of r ty ≡ Some e) × (l.size ≡ e.size * n)
    by None f g = never_some g
    by (Some e) f g = (e, f, ap (λ (x : Layout). x.size) (sym (some_same g)))

lengths_split : (n m : ℕ) (s t : List ℕ) → length_text (Some n) ++ s ≡ length_text (Some m) ++ t → (decimal n ≡ decimal m) × (s ≡ t)
lengths_split n m s t e =
    let rest : (decimal n ++ 93 ∷ []) ++ s ≡ (decimal m ++ 93 ∷ []) ++ t = ap tail e in
    numbers_split 93 refl n m s t (sym (append_assoc (decimal n) (93 ∷ []) s) ∙ (rest ∙ append_assoc (decimal m) (93 ∷ []) t))

-- ---- the lemma

same_sort : (r x : List RecordValue) → IsLaid r → IsLaid x → (a b : CType) (v w : Bool) (l k : Layout) → layout_of r a ≡ Some l → layout_of x b ≡ Some k → shape_of r a v ≡ shape_of x b w → sort_of a ≡ sort_of b
same_sort r x laid other a b v w l k e f same = sym (shape_sort r a v l laid e) ∙ (ap sort_of_text same ∙ shape_sort x b w k other f)

scalar_pair : (r x : List RecordValue) → IsLaid r → IsLaid x → (a b : CType) (v w : Bool) (l k : Layout) → layout_of r a ≡ Some l → layout_of x b ≡ Some k → sort_of a ≡ 0 → shape_of r a v ≡ shape_of x b w → l.size ≡ k.size
scalar_pair r x laid other a b v w l k e f s same =
    sym (scalar_size r a v l s e) ∙ (ap size_in same ∙ scalar_size x b w k (sym (same_sort r x laid other a b v w l k e f same) ∙ s) f)

pub one_size : (r x : List RecordValue) → IsLaid r → IsLaid x → (a b : CType) (v w : Bool) (l k : Layout) → layout_of r a ≡ Some l → layout_of x b ≡ Some k → l.size ≤ size_limit → k.size ≤ size_limit
    → shape_of r a v ≡ shape_of x b w → l.size ≡ k.size
one_size r x laid other (Array (Qualified a c u) None) b v w l k e f h i same = never_some e
one_size r x laid other (Array (Qualified a c u) (Some n)) (Array (Qualified b d z) None) v w l k e f h i same = never_some f
one_size r x laid other (Array (Qualified a c u) (Some n)) (Array (Qualified b d z) (Some m)) v w l k e f h i same =
    let s = element_of r a n l e in
    let t = element_of x b m k f in
    let split = lengths_split n m (shape_of r a (v || u)) (shape_of x b (w || z)) same in
    s.2 ∙ (arrays_same n m s.0.size t.0.size (subst (λ y. y ≤ size_limit) s.2 h) (subst (λ y. y ≤ size_limit) t.2 i) split.0 (λ p q. one_size r x laid other a b (v || u) (w || z) s.0 t.0 s.1 t.1 p q split.1) ∙ sym t.2)
one_size r x laid other (Array (Qualified a c u) (Some n)) Void v w l k e f h i same = never_some f
one_size r x laid other (Array (Qualified a c u) (Some n)) (Int j) v w l k e f h i same =
    let s : 1 ≡ 0 = same_sort r x laid other (Array (Qualified a c u) (Some n)) (Int j) v w l k e f same in absurd (omega (arith, s))
one_size r x laid other (Array (Qualified a c u) (Some n)) (Pointer q) v w l k e f h i same =
    let s : 1 ≡ 0 = same_sort r x laid other (Array (Qualified a c u) (Some n)) (Pointer q) v w l k e f same in absurd (omega (arith, s))
one_size r x laid other (Array (Qualified a c u) (Some n)) (Function q ps) v w l k e f h i same = never_some f
one_size r x laid other (Array (Qualified a c u) (Some n)) (Record m) v w l k e f h i same =
    let s : 1 ≡ 2 = same_sort r x laid other (Array (Qualified a c u) (Some n)) (Record m) v w l k e f same in absurd (omega (arith, s))
one_size r x laid other (Record n) (Record m) v w l k e f h i same =
    let s = record_known r n v l laid e in
    let t = record_known x m w k other f in
    record_sizes s.0 t.0 l.size k.size s.1 t.1 h i (sym s.2 ∙ (same ∙ t.2))
one_size r x laid other (Record n) Void v w l k e f h i same = never_some f
one_size r x laid other (Record n) (Int j) v w l k e f h i same = let s : 2 ≡ 0 = same_sort r x laid other (Record n) (Int j) v w l k e f same in absurd (omega (arith, s))
one_size r x laid other (Record n) (Pointer q) v w l k e f h i same = let s : 2 ≡ 0 = same_sort r x laid other (Record n) (Pointer q) v w l k e f same in absurd (omega (arith, s))
one_size r x laid other (Record n) (Function q ps) v w l k e f h i same = never_some f
one_size r x laid other (Record n) (Array q m) v w l k e f h i same = let s : 2 ≡ 1 = same_sort r x laid other (Record n) (Array q m) v w l k e f same in absurd (omega (arith, s))
one_size r x laid other Void b v w l k e f h i same = never_some e
one_size r x laid other (Function q ps) b v w l k e f h i same = never_some e
one_size r x laid other (Int j) b v w l k e f h i same = scalar_pair r x laid other (Int j) b v w l k e f refl same
one_size r x laid other (Pointer q) b v w l k e f h i same = scalar_pair r x laid other (Pointer q) b v w l k e f refl same

-- ---- what has no length at its beginning has no size

first_digit : (text s rest : List ℕ) → IsDecimal text → text ++ s ≡ 93 ∷ rest → ⊥
first_digit [] s rest d e = omega (arith, d.0)
first_digit (x ∷ text) s rest d e = let h : x ≡ 93 = ap head e in clash (is_ascii_digit 93) (ap is_ascii_digit (sym h) ∙ digit_first x text d.1) refl

pub length_wanted : (r : List RecordValue) (a : CType) (v : Bool) (l : Layout) (rest : List ℕ) → IsLaid r → layout_of r a ≡ Some l → shape_of r a v ≡ 91 ∷ 93 ∷ rest → ⊥
length_wanted r (Array (Qualified a c u) None) v l rest laid e same = never_some e
length_wanted r (Array (Qualified a c u) (Some n)) v l rest laid e same =
    let t : (decimal n ++ 93 ∷ []) ++ shape_of r a (v || u) ≡ 93 ∷ rest = ap tail same in
    first_digit (decimal n) (93 ∷ shape_of r a (v || u)) rest (decimal_is n) (sym (append_assoc (decimal n) (93 ∷ []) (shape_of r a (v || u))) ∙ t)
length_wanted r Void v l rest laid e same = never_some e
length_wanted r (Function q ps) v l rest laid e same = never_some e
length_wanted r (Int k) v l rest laid e same = let s : 0 ≡ 1 = sym (shape_sort r (Int k) v l laid e) ∙ ap sort_of_text same in absurd (omega (arith, s))
length_wanted r (Pointer q) v l rest laid e same = let s : 0 ≡ 1 = sym (shape_sort r (Pointer q) v l laid e) ∙ ap sort_of_text same in absurd (omega (arith, s))
length_wanted r (Record n) v l rest laid e same = let s : 2 ≡ 1 = sym (shape_sort r (Record n) v l laid e) ∙ ap sort_of_text same in absurd (omega (arith, s))
