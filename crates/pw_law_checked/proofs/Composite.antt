-- Composite types: they have the shape of each of the types that they are made of, but for a length at the beginning.
use Rattle.std.specs.Prelude.{ℕ, zero, suc, ◌≡◌, ◌<◌, ◌⊎◌, ◌/◌, ◌%◌, ◌==◌, Bool, true, false, ◌||◌, ◌&&◌, Option, None, Some, is_some, option_map, List, [], ◌∷◌, ◌++◌, decimal, length, if◌then◌else◌, refl}
use Rattle.std.specs.Char.{is_ascii_digit}
use Rattle.std.specs.Fmt.{digits_onto, digit_glyph, digits}
use Rattle.std.specs.List.{list_all}
use Rattle.std.proofs.Common.{arith, ap, sym, subst, subst₂, ◌∙◌, inl, inr, append_assoc}
use Rattle.std.proofs.lemmas.Bool.{eqb-true}
use Rattle.pw_value.specs.Shapes.{Agree, IsDecimal, GivesLength}
use Rattle.pw_types.specs.declared.record.Layout.{Layout}
use Rattle.pw_types.specs.Conversions.{size_of_kind}
use Rattle.pw_types.specs.Layouts.{layout_of, array_layout, scalar_layout}
use Rattle.pw_types.specs.Shapes.{shape_of, length_text, letter_of, letters_of, signature_shape, marked, letter_of_kind}
use Rattle.pw_types.specs.TypeTrees.{CType, Void, Int, Pointer, Array, Function, Record, QType, Qualified, QTypes, NoType, OneType, type_of, is_volatile, RecordValue}
use Rattle.pw_types.specs.WellTyped.{IsComplete, AgreeInShape}
use Rattle.pw_check_rules.specs.Compatible.{compatible, compatible_types, compatible_parameters, lengths_agree, composite, composite_type, composite_parameters}
use Rattle.pw_check_rules.specs.Kinds.{is_array, is_function}
use Rattle.pw_value.specs.ProgramNames.{same_truth}
use Rattle.pw_law_checked.specs.Lawful.{IsLawfulType}
use Rattle.pw_law_checked.proofs.Lists.{some_same, never_some}
use Rattle.pw_law_checked.proofs.Types.{no, left, right, kinds_same, truths_same, element_complete}

-- ---- the digits of a length

both_true : (a b : Bool) → a ≡ true → b ≡ true → (a && b) ≡ true
both_true true b e f = f
both_true false b e f = no e

glyph_digit : (d : ℕ) → d < 10 → is_ascii_digit (digit_glyph false d) ≡ true
glyph_digit d h = grind (arith, h)

onto_digits : (k n : ℕ) (acc : List ℕ) → list_all is_ascii_digit acc ≡ true → list_all is_ascii_digit (digits_onto k 10 false n acc) ≡ true
onto_digits zero n acc h = h
onto_digits (suc k) n acc h =
    let more : list_all is_ascii_digit (digit_glyph false (n % 10) ∷ acc) ≡ true =
    both_true (is_ascii_digit (digit_glyph false (n % 10))) (list_all is_ascii_digit acc) (glyph_digit (n % 10) (omega arith)) h in
    by (n / 10 == 0) more (onto_digits k (n / 10) (digit_glyph false (n % 10) ∷ acc) more)
  where
    by : (b : Bool) → list_all is_ascii_digit (digit_glyph false (n % 10) ∷ acc) ≡ true
        → list_all is_ascii_digit (digits_onto k 10 false (n / 10) (digit_glyph false (n % 10) ∷ acc)) ≡ true
        → list_all is_ascii_digit (if b then digit_glyph false (n % 10) ∷ acc else digits_onto k 10 false (n / 10) (digit_glyph false (n % 10) ∷ acc)) ≡ true
    by true g rest = g
    by false g rest = rest

onto_some : (k n : ℕ) (acc : List ℕ) → 0 < length acc → 0 < length (digits_onto k 10 false n acc)
onto_some zero n acc h = h
onto_some (suc k) n acc h = by (n / 10 == 0) (onto_some k (n / 10) (digit_glyph false (n % 10) ∷ acc) (omega arith))
  where
    by : (b : Bool) → 0 < length (digits_onto k 10 false (n / 10) (digit_glyph false (n % 10) ∷ acc))
        → 0 < length (if b then digit_glyph false (n % 10) ∷ acc else digits_onto k 10 false (n / 10) (digit_glyph false (n % 10) ∷ acc))
    by true rest = omega arith
    by false rest = rest

first_some : (n : ℕ) → 0 < length (digits_onto 64 10 false n [])
first_some n = by (n / 10 == 0)
  where
    by : (b : Bool) → 0 < length (if b then digit_glyph false (n % 10) ∷ [] else digits_onto 63 10 false (n / 10) (digit_glyph false (n % 10) ∷ []))
    by true = omega arith
    by false = onto_some 63 (n / 10) (digit_glyph false (n % 10) ∷ []) (omega arith)

pub decimal_is : (n : ℕ) → IsDecimal (decimal n)
unfolding digits
decimal_is n = (first_some n, onto_digits 64 n [] refl)

head_same : {x y : ℕ} {xs ys : List ℕ} → x ∷ xs ≡ y ∷ ys → x ≡ y
head_same {x} {y} {xs} {ys} e = ap first e
  where
    first : List ℕ → ℕ
    first [] = x
    first (z ∷ zs) = z

tail_same : {x y : ℕ} {xs ys : List ℕ} → x ∷ xs ≡ y ∷ ys → xs ≡ ys
tail_same {x} {y} {xs} {ys} e = ap behind e
  where
    behind : List ℕ → List ℕ
    behind [] = xs
    behind (z ∷ zs) = zs

no_digit : {A : Type 0} (d : ℕ) (ds : List ℕ) → list_all is_ascii_digit (d ∷ ds) ≡ true → d ≡ 93 → A
no_digit d ds h e = no (sym (ap is_ascii_digit e) ∙ left (is_ascii_digit d) (list_all is_ascii_digit ds) h)

-- what stands behind the digits and the bracket
behind_digits : (a b e f : List ℕ) → list_all is_ascii_digit a ≡ true → list_all is_ascii_digit b ≡ true → a ++ 93 ∷ e ≡ b ++ 93 ∷ f → e ≡ f
behind_digits [] [] e f h k same = tail_same same
behind_digits [] (d ∷ b) e f h k same = no_digit d b k (sym (head_same same))
behind_digits (d ∷ a) [] e f h k same = no_digit d a h (head_same same)
behind_digits (d ∷ a) (c ∷ b) e f h k same =
    behind_digits a b e f (right (is_ascii_digit d) (list_all is_ascii_digit a) h) (right (is_ascii_digit c) (list_all is_ascii_digit b) k) (tail_same same)

digits_first : {A : Type 0} (a e f : List ℕ) → IsDecimal a → a ++ e ≡ 93 ∷ f → A
digits_first [] e f h same = grind (arith, h.0)
digits_first (d ∷ a) e f h same = no_digit d a h.1 (head_same same)

-- ---- the shape of a type: an array's length, and what stands behind it

abbrev pub length_of : QType → Option ℕ
length_of (Qualified (Array q n) c v) = n
length_of (Qualified _ c v) = None

abbrev pub stem_of : List RecordValue → CType → Bool → List ℕ
stem_of r (Array (Qualified ty c w) n) v = shape_of r ty (v || w)
stem_of r ty v = shape_of r ty v

-- the layout of an array's elements, or of what is no array
abbrev pub stem_layout : List RecordValue → CType → Option Layout
stem_layout r (Array (Qualified ty c w) n) = layout_of r ty
stem_layout r ty = layout_of r ty

abbrev front : Bool → Option ℕ → List ℕ
front true n = length_text n
front false n = []

-- the first has the shape of the second, and a length where the second has one
pub record Covers (a b : QType) : Type 0 where
  pub stem : (r : List RecordValue) → stem_of r (type_of a) (is_volatile a) ≡ stem_of r (type_of b) (is_volatile b)
  pub sizes : (r : List RecordValue) → stem_layout r (type_of a) ≡ stem_layout r (type_of b)
  pub array : is_array (type_of a) ≡ is_array (type_of b)
  pub function : is_function (type_of a) ≡ is_function (type_of b)
  pub length : (n : ℕ) → length_of b ≡ Some n → length_of a ≡ Some n

pub covers_same : (a : QType) → Covers a a
covers_same a = record { stem = λ r. refl; sizes = λ r. refl; array = refl; function = refl; length = λ n e. e }

pub covers_trans : {a b c : QType} → Covers a b → Covers b c → Covers a c
covers_trans {a} {b} {c} x y = record { stem = λ r. x.stem r ∙ y.stem r; sizes = λ r. x.sizes r ∙ y.sizes r; array = x.array ∙ y.array; function = x.function ∙ y.function; length = λ n e. x.length n (y.length n e) }

shape_split : (r : List RecordValue) (q : QType)
    → shape_of r (type_of q) (is_volatile q) ≡ front (is_array (type_of q)) (length_of q) ++ stem_of r (type_of q) (is_volatile q)
shape_split r (Qualified Void c v) = refl
shape_split r (Qualified (Int k) c v) = refl
shape_split r (Qualified (Pointer q) c v) = refl
shape_split r (Qualified (Array (Qualified ty d w) n) c v) = refl
shape_split r (Qualified (Function q ps) c v) = refl
shape_split r (Qualified (Record n) c v) = refl

gives_length : (n : ℕ) (s : List ℕ) → GivesLength (front true None ++ s) (front true (Some n) ++ s)
gives_length n s = (s, (decimal n ++ 93 ∷ []) ++ s, ((refl, refl, (decimal n, (decimal_is n, append_assoc (decimal n) (93 ∷ []) s)))))

texts_agree : (x : Bool) (n m : Option ℕ) (s : List ℕ) → ((k j : ℕ) → n ≡ Some k → m ≡ Some j → k ≡ j) → Agree (front x n ++ s) (front x m ++ s)
texts_agree false n m s h = inl refl
texts_agree true None None s h = inl refl
texts_agree true None (Some j) s h = inr (inl (gives_length j s))
texts_agree true (Some k) None s h = inr (inr (gives_length k s))
texts_agree true (Some k) (Some j) s h = inl (ap (λ i. front true (Some i) ++ s) (h k j refl refl))

-- what one type covers agrees
pub covered_agree : (r : List RecordValue) (c a b : QType) → Covers c a → Covers c b → AgreeInShape r a b
covered_agree r c a b x y =
    subst₂ Agree (sym (shape_split r a)) (sym (shape_split r b))
    (subst₂ (λ k s. Agree (front (is_array (type_of a)) (length_of a) ++ stem_of r (type_of a) (is_volatile a)) (front k (length_of b) ++ s))
    (sym x.array ∙ y.array) (sym (x.stem r) ∙ y.stem r)
    (texts_agree (is_array (type_of a)) (length_of a) (length_of b) (stem_of r (type_of a) (is_volatile a))
    (λ k j e f. some_same (sym (x.length k e) ∙ y.length j f))))

-- what agrees with a text that has a length agrees with the one without it
without : (text : List ℕ) (x : Bool) (n m : Option ℕ) (s : List ℕ) → ((k : ℕ) → n ≡ Some k → m ≡ Some k) → Agree text (front x m ++ s) → Agree text (front x n ++ s)
without text false n m s h a = a
without text true (Some k) m s h a = subst (λ o. Agree text (front true o ++ s)) (h k refl) a
without text true None None s h a = a
without text true None (Some k) s h (inl e) = inr (inr (subst (GivesLength (front true None ++ s)) (sym e) (gives_length k s)))
without text true None (Some k) s h (inr (inl (element, rest, (bare, given, (count, (digits, is)))))) =
    let behind : s ≡ element =
    behind_digits (decimal k) count s element (decimal_is k).1 digits.1
    (sym (append_assoc (decimal k) (93 ∷ []) s) ∙ (tail_same given ∙ is)) in
    inl (bare ∙ ap (λ e. 91 ∷ 93 ∷ e) (sym behind))
without text true None (Some k) s h (inr (inr (element, rest, (bare, given, gives)))) =
    digits_first (decimal k) (93 ∷ s) element (decimal_is k) (sym (append_assoc (decimal k) (93 ∷ []) s) ∙ tail_same bare)

pub agree_back : (r : List RecordValue) (x a b : QType) → Covers b a → AgreeInShape r x b → AgreeInShape r x a
agree_back r x a b h agree =
    subst (Agree (shape_of r (type_of x) (is_volatile x))) (sym (shape_split r a))
    (without (shape_of r (type_of x) (is_volatile x)) (is_array (type_of a)) (length_of a) (length_of b) (stem_of r (type_of a) (is_volatile a)) h.length
    (subst₂ (λ k s. Agree (shape_of r (type_of x) (is_volatile x)) (front k (length_of b) ++ s)) h.array (h.stem r)
    (subst (Agree (shape_of r (type_of x) (is_volatile x))) (shape_split r b) agree)))

-- ---- composite types

letter_composite : (a b : CType) → letter_of (composite_type a b) ≡ letter_of a
unfolding composite_type
letter_composite Void b = refl
letter_composite (Int k) b = refl
letter_composite (Pointer q) (Pointer p) = refl
letter_composite (Pointer q) _ = refl
letter_composite (Array q n) (Array p m) = refl
letter_composite (Array q n) _ = refl
letter_composite (Function q ps) (Function p qs) = refl
letter_composite (Function q ps) _ = refl
letter_composite (Record n) b = refl

letters_composite : (ps qs : QTypes) → letters_of (composite_parameters ps qs) ≡ letters_of ps
unfolding composite_type
letters_composite (OneType (Qualified a c v) ps) (OneType (Qualified b d w) qs) =
    ap (λ l. l ∷ letters_of (composite_parameters ps qs)) (letter_composite a b) ∙ ap (λ ls. letter_of a ∷ ls) (letters_composite ps qs)
letters_composite NoType qs = refl
letters_composite (OneType a ps) NoType = refl

signature_composite : (a b : QType) (ps qs : QTypes) → signature_shape (composite a b) (composite_parameters ps qs) ≡ signature_shape a ps
unfolding composite_type
signature_composite (Qualified a c v) (Qualified b d w) ps qs =
    ap (λ l. 102 ∷ l ∷ letters_of (composite_parameters ps qs)) (letter_composite a b) ∙ ap (λ ls. 102 ∷ letter_of a ∷ ls) (letters_composite ps qs)

-- a complete type keeps its shape
shape_composite : (r : List RecordValue) (a b : CType) → IsComplete r a → (x : List RecordValue) (v : Bool) → shape_of x (composite_type a b) v ≡ shape_of x a v
unfolding composite_type
shape_composite r Void b h x v = refl
shape_composite r (Int k) b h x v = refl
shape_composite r (Pointer q) (Pointer p) h x v = refl
shape_composite r (Pointer q) _ h x v = refl
shape_composite r (Array (Qualified a c w) (Some n)) (Array (Qualified b d u) m) h x v =
    ap (λ s. length_text (Some n) ++ s) (shape_composite r a b (element_complete r a c w n h) x (v || w))
shape_composite r (Array (Qualified a c w) None) (Array (Qualified b d u) m) h x v = no h
shape_composite r (Array q n) _ h x v = refl
shape_composite r (Function q ps) (Function p qs) h x v = signature_composite q p ps qs
shape_composite r (Function q ps) _ h x v = refl
shape_composite r (Record n) b h x v = refl

-- a composite type covers the first type
stem_first : (r : List RecordValue) (a b : CType) → IsLawfulType r a → (x : List RecordValue) (v : Bool) → stem_of x (composite_type a b) v ≡ stem_of x a v
unfolding composite_type
stem_first r (Pointer q) (Pointer p) h x v = refl
stem_first r (Array (Qualified a c w) n) (Array (Qualified b d u) m) h x v = shape_composite r a b h.1 x (v || w)
stem_first r (Function q ps) (Function p qs) h x v = signature_composite q p ps qs
stem_first r _ _ h x v = refl

-- and its layout
pub layout_composite : (r : List RecordValue) (a b : CType) → IsComplete r a → (x : List RecordValue) → layout_of x (composite_type a b) ≡ layout_of x a
unfolding composite_type
layout_composite r (Pointer q) (Pointer p) h x = refl
layout_composite r (Array (Qualified a c w) (Some n)) (Array (Qualified b d u) m) h x = ap (option_map (array_layout n)) (layout_composite r a b (element_complete r a c w n h) x)
layout_composite r (Array (Qualified a c w) None) (Array (Qualified b d u) m) h x = no h
layout_composite r (Function q ps) (Function p qs) h x = no h
layout_composite r _ _ h x = refl

sizes_first : (r : List RecordValue) (a b : CType) → IsLawfulType r a → (x : List RecordValue) → stem_layout x (composite_type a b) ≡ stem_layout x a
unfolding composite_type
sizes_first r (Pointer q) (Pointer p) h x = refl
sizes_first r (Array (Qualified a c w) n) (Array (Qualified b d u) m) h x = layout_composite r a b h.1 x
sizes_first r (Function q ps) (Function p qs) h x = refl
sizes_first r _ _ h x = refl

array_first : (a b : CType) → is_array (composite_type a b) ≡ is_array a
unfolding composite_type
array_first (Pointer q) (Pointer p) = refl
array_first (Array q n) (Array p m) = refl
array_first (Function q ps) (Function p qs) = refl
array_first _ _ = refl

function_first : (a b : CType) → is_function (composite_type a b) ≡ is_function a
unfolding composite_type
function_first (Pointer q) (Pointer p) = refl
function_first (Array q n) (Array p m) = refl
function_first (Function q ps) (Function p qs) = refl
function_first _ _ = refl

length_first : (a b : CType) (c v : Bool) (n : ℕ) → length_of (Qualified a c v) ≡ Some n → length_of (Qualified (composite_type a b) c v) ≡ Some n
unfolding composite_type
length_first (Pointer q) (Pointer p) c v n e = e
length_first (Array q (Some k)) (Array p m) c v n e = e
length_first (Array q None) (Array p m) c v n e = never_some e
length_first (Function q ps) (Function p qs) c v n e = e
length_first _ _ c v n e = e

pub covers_first : (r : List RecordValue) (a b : QType) → IsLawfulType r (type_of a) → Covers (composite a b) a
unfolding composite
covers_first r (Qualified a c v) (Qualified b d w) h = record {
  stem = λ x. stem_first r a b h x v;
  sizes = λ x. sizes_first r a b h x;
  array = array_first a b;
  function = function_first a b;
  length = λ n e. length_first a b c v n e;
}

-- ---- compatible types

letter_compatible : (a b : CType) → compatible_types a b ≡ true → letter_of a ≡ letter_of b
unfolding compatible_types
letter_compatible Void Void e = refl
letter_compatible (Int a) (Int b) e = ap letter_of_kind (kinds_same a b e)
letter_compatible (Pointer a) (Pointer b) e = refl
letter_compatible (Array a n) (Array b m) e = refl
letter_compatible (Function a ps) (Function b qs) e = refl
letter_compatible (Record a) (Record b) e = refl
letter_compatible _ _ e = no e

letters_compatible : (ps qs : QTypes) → compatible_parameters ps qs ≡ true → letters_of ps ≡ letters_of qs
unfolding compatible_types
letters_compatible NoType NoType e = refl
letters_compatible (OneType (Qualified a c v) ps) (OneType (Qualified b d w) qs) e =
    ap (λ l. l ∷ letters_of ps) (letter_compatible a b (left (compatible_types a b) (compatible_parameters ps qs) e))
    ∙ ap (λ ls. letter_of b ∷ ls) (letters_compatible ps qs (right (compatible_types a b) (compatible_parameters ps qs) e))
letters_compatible _ _ e = no e

-- the parts of what is compatible
pub types_compatible : (a b : CType) (c v d w : Bool) → compatible (Qualified a c v) (Qualified b d w) ≡ true → (compatible_types a b ≡ true) × (v ≡ w)
unfolding compatible_types
types_compatible a b c v d w e = (
  left (compatible_types a b) (same_truth c d) (left (compatible_types a b && same_truth c d) (same_truth v w) e),
  truths_same v w (right (compatible_types a b && same_truth c d) (same_truth v w) e),
)

signature_compatible : (a b : QType) (ps qs : QTypes) → compatible_types (Function a ps) (Function b qs) ≡ true → signature_shape a ps ≡ signature_shape b qs
unfolding compatible_types
signature_compatible (Qualified a c v) (Qualified b d w) ps qs e =
    ap (λ l. 102 ∷ l ∷ letters_of ps) (letter_compatible a b (types_compatible a b c v d w (left (compatible (Qualified a c v) (Qualified b d w)) (compatible_parameters ps qs) e)).0)
    ∙ ap (λ ls. 102 ∷ letter_of b ∷ ls) (letters_compatible ps qs (right (compatible (Qualified a c v) (Qualified b d w)) (compatible_parameters ps qs) e))

-- complete types that are compatible have one shape
shape_compatible : (r : List RecordValue) (a b : CType) → compatible_types a b ≡ true → IsComplete r a → IsComplete r b → (x : List RecordValue) (v : Bool) → shape_of x a v ≡ shape_of x b v
unfolding compatible_types
shape_compatible r Void Void e h k x v = refl
shape_compatible r (Int a) (Int b) e h k x v = ap (λ i. marked v (letter_of_kind i)) (kinds_same a b e)
shape_compatible r (Pointer a) (Pointer b) e h k x v = refl
shape_compatible r (Array (Qualified a c w) (Some n)) (Array (Qualified b d u) (Some m)) e h k x v =
    let both = types_compatible a b c w d u (left (compatible (Qualified a c w) (Qualified b d u)) (n == m) e) in
    ap (λ i. length_text (Some i) ++ shape_of x a (v || w)) (eqb-true n m (right (compatible (Qualified a c w) (Qualified b d u)) (n == m) e))
    ∙ (ap (λ i. length_text (Some m) ++ shape_of x a (v || i)) both.1
    ∙ ap (λ s. length_text (Some m) ++ s) (shape_compatible r a b both.0 (element_complete r a c w n h) (element_complete r b d u m k) x (v || u)))
shape_compatible r (Array a None) (Array b m) e h k x v = no h
shape_compatible r (Array a (Some n)) (Array b None) e h k x v = no k
shape_compatible r (Function a ps) (Function b qs) e h k x v = no h
shape_compatible r (Record a) (Record b) e h k x v = ap (λ i. shape_of x (Record i) v) (eqb-true a b e)
shape_compatible r _ _ e h k x v = no e

stem_compatible : (r : List RecordValue) (a b : CType) → compatible_types a b ≡ true → IsLawfulType r a → IsLawfulType r b → (x : List RecordValue) (v : Bool) → stem_of x a v ≡ stem_of x b v
unfolding compatible_types
stem_compatible r Void Void e h k x v = refl
stem_compatible r (Int a) (Int b) e h k x v = ap (λ i. marked v (letter_of_kind i)) (kinds_same a b e)
stem_compatible r (Pointer a) (Pointer b) e h k x v = refl
stem_compatible r (Array (Qualified a c w) n) (Array (Qualified b d u) m) e h k x v =
    let both = types_compatible a b c w d u (left (compatible (Qualified a c w) (Qualified b d u)) (lengths_agree n m) e) in
    ap (λ i. shape_of x a (v || i)) both.1 ∙ shape_compatible r a b both.0 h.1 k.1 x (v || u)
stem_compatible r (Function a ps) (Function b qs) e h k x v = signature_compatible a b ps qs e
stem_compatible r (Record a) (Record b) e h k x v = ap (λ i. shape_of x (Record i) v) (eqb-true a b e)
stem_compatible r _ _ e h k x v = no e

-- and one layout
pub layout_compatible : (r : List RecordValue) (a b : CType) → compatible_types a b ≡ true → IsComplete r a → IsComplete r b → (x : List RecordValue) → layout_of x a ≡ layout_of x b
unfolding compatible_types
layout_compatible r Void Void e h k x = refl
layout_compatible r (Int a) (Int b) e h k x = ap (λ i. Some (scalar_layout (size_of_kind i))) (kinds_same a b e)
layout_compatible r (Pointer a) (Pointer b) e h k x = refl
layout_compatible r (Array (Qualified a c w) (Some n)) (Array (Qualified b d u) (Some m)) e h k x =
    let same : n ≡ m = eqb-true n m (right (compatible (Qualified a c w) (Qualified b d u)) (n == m) e) in
    let both = types_compatible a b c w d u (left (compatible (Qualified a c w) (Qualified b d u)) (n == m) e) in
    ap (λ i. option_map (array_layout i) (layout_of x a)) same
    ∙ ap (option_map (array_layout m)) (layout_compatible r a b both.0 (element_complete r a c w n h) (element_complete r b d u m k) x)
layout_compatible r (Array (Qualified a c w) None) (Array b m) e h k x = no h
layout_compatible r (Array a (Some n)) (Array (Qualified b d u) None) e h k x = no k
layout_compatible r (Function a ps) (Function b qs) e h k x = no h
layout_compatible r (Record a) (Record b) e h k x = ap (λ i. layout_of x (Record i)) (eqb-true a b e)
layout_compatible r _ _ e h k x = no e

sizes_compatible : (r : List RecordValue) (a b : CType) → compatible_types a b ≡ true → IsLawfulType r a → IsLawfulType r b → (x : List RecordValue) → stem_layout x a ≡ stem_layout x b
unfolding compatible_types
sizes_compatible r Void Void e h k x = refl
sizes_compatible r (Int a) (Int b) e h k x = ap (λ i. Some (scalar_layout (size_of_kind i))) (kinds_same a b e)
sizes_compatible r (Pointer a) (Pointer b) e h k x = refl
sizes_compatible r (Array (Qualified a c w) n) (Array (Qualified b d u) m) e h k x =
    layout_compatible r a b (types_compatible a b c w d u (left (compatible (Qualified a c w) (Qualified b d u)) (lengths_agree n m) e)).0 h.1 k.1 x
sizes_compatible r (Function a ps) (Function b qs) e h k x = refl
sizes_compatible r (Record a) (Record b) e h k x = ap (λ i. layout_of x (Record i)) (eqb-true a b e)
sizes_compatible r _ _ e h k x = no e

array_compatible : (a b : CType) → compatible_types a b ≡ true → is_array a ≡ is_array b
unfolding compatible_types
array_compatible Void Void e = refl
array_compatible (Int a) (Int b) e = refl
array_compatible (Pointer a) (Pointer b) e = refl
array_compatible (Array a n) (Array b m) e = refl
array_compatible (Function a ps) (Function b qs) e = refl
array_compatible (Record a) (Record b) e = refl
array_compatible _ _ e = no e

function_compatible : (a b : CType) → compatible_types a b ≡ true → is_function a ≡ is_function b
unfolding compatible_types
function_compatible Void Void e = refl
function_compatible (Int a) (Int b) e = refl
function_compatible (Pointer a) (Pointer b) e = refl
function_compatible (Array a n) (Array b m) e = refl
function_compatible (Function a ps) (Function b qs) e = refl
function_compatible (Record a) (Record b) e = refl
function_compatible _ _ e = no e

lengths_compatible : (a b : CType) (c v d w : Bool) (n m : ℕ) → compatible_types a b ≡ true → length_of (Qualified a c v) ≡ Some n → length_of (Qualified b d w) ≡ Some m → n ≡ m
unfolding compatible_types
lengths_compatible (Array a (Some k)) (Array b (Some j)) c v d w n m e f g = sym (some_same f) ∙ (eqb-true k j (right (compatible a b) (k == j) e) ∙ some_same g)
lengths_compatible (Array a None) b c v d w n m e f g = never_some f
lengths_compatible (Array a (Some k)) (Array b None) c v d w n m e f g = never_some g
lengths_compatible (Array a (Some k)) Void c v d w n m e f g = never_some g
lengths_compatible (Array a (Some k)) (Int i) c v d w n m e f g = never_some g
lengths_compatible (Array a (Some k)) (Pointer q) c v d w n m e f g = never_some g
lengths_compatible (Array a (Some k)) (Function q ps) c v d w n m e f g = never_some g
lengths_compatible (Array a (Some k)) (Record i) c v d w n m e f g = never_some g
lengths_compatible Void b c v d w n m e f g = never_some f
lengths_compatible (Int i) b c v d w n m e f g = never_some f
lengths_compatible (Pointer q) b c v d w n m e f g = never_some f
lengths_compatible (Function q ps) b c v d w n m e f g = never_some f
lengths_compatible (Record i) b c v d w n m e f g = never_some f

-- a length of the composite is that of one of the two
length_composite : (a b : CType) (c v : Bool) (n : ℕ) → length_of (Qualified (composite_type a b) c v) ≡ Some n
    → (length_of (Qualified a c v) ≡ Some n) ⊎ ((length_of (Qualified a c v) ≡ None) × (length_of (Qualified b c v) ≡ Some n))
unfolding composite_type
length_composite (Array p (Some k)) (Array q m) c v n e = inl e
length_composite (Array p None) (Array q m) c v n e = inr (refl, e)
length_composite (Pointer p) (Pointer q) c v n e = inl e
length_composite (Function p ps) (Function q qs) c v n e = inl e
length_composite _ _ c v n e = inl e

length_second : (a b : CType) (c v d w : Bool) (n : ℕ) → compatible_types a b ≡ true → length_of (Qualified b d w) ≡ Some n → length_of (Qualified (composite_type a b) c v) ≡ Some n
unfolding composite_type compatible_types
length_second (Array p None) (Array q m) c v d w n e f = f
length_second (Array p (Some k)) (Array q m) c v d w n e f = ap Some (lengths_compatible (Array p (Some k)) (Array q m) c v d w k n e refl f)
length_second Void Void c v d w n e f = never_some f
length_second (Int i) (Int j) c v d w n e f = never_some f
length_second (Pointer p) (Pointer q) c v d w n e f = never_some f
length_second (Function p ps) (Function q qs) c v d w n e f = never_some f
length_second (Record i) (Record j) c v d w n e f = never_some f
length_second _ _ c v d w n e f = no e

pub kind_composite : (a b : QType) → is_function (type_of (composite a b)) ≡ is_function (type_of a)
unfolding composite
kind_composite (Qualified a c v) (Qualified b d w) = function_first a b

pub compatible_function : (a b : QType) → compatible a b ≡ true → is_function (type_of a) ≡ is_function (type_of b)
compatible_function (Qualified a c v) (Qualified b d w) e = function_compatible a b (types_compatible a b c v d w e).0

-- the composite of compatible types covers the second one too
pub covers_second : (r : List RecordValue) (a b : QType) → compatible a b ≡ true → IsLawfulType r (type_of a) → IsLawfulType r (type_of b) → Covers (composite a b) b
unfolding composite
covers_second r (Qualified a c v) (Qualified b d w) e h k =
    let both = types_compatible a b c v d w e in
    record {
      stem = λ x. stem_first r a b h x v ∙ (ap (stem_of x a) both.1 ∙ stem_compatible r a b both.0 h k x w);
      sizes = λ x. sizes_first r a b h x ∙ sizes_compatible r a b both.0 h k x;
      array = array_first a b ∙ array_compatible a b both.0;
      function = function_first a b ∙ function_compatible a b both.0;
      length = λ n f. length_second a b c v d w n both.0 f;
    }

-- and what is known of the first stays known of the composite
pub covers_composites : (r : List RecordValue) (a q b : QType) → Covers a q → compatible a b ≡ true → IsLawfulType r (type_of a) → IsLawfulType r (type_of q)
    → Covers (composite a b) (composite q b)
unfolding composite
covers_composites r (Qualified a c v) (Qualified q e u) (Qualified b d w) x f h k =
    let both = types_compatible a b c v d w f in
    record {
      stem = λ y. stem_first r a b h y v ∙ (x.stem y ∙ sym (stem_first r q b k y u));
      sizes = λ y. sizes_first r a b h y ∙ (x.sizes y ∙ sym (sizes_first r q b k y));
      array = array_first a b ∙ (x.array ∙ sym (array_first q b));
      function = function_first a b ∙ (x.function ∙ sym (function_first q b));
      length = λ n g. by n (length_composite q b e u n g) both.0;
    }
  where
    by : (n : ℕ) → (length_of (Qualified q e u) ≡ Some n) ⊎ ((length_of (Qualified q e u) ≡ None) × (length_of (Qualified b e u) ≡ Some n)) → compatible_types a b ≡ true
        → length_of (Qualified (composite_type a b) c v) ≡ Some n
    by n (inl g) m = length_first a b c v n (x.length n g)
    by n (inr g) m = length_second a b c v e u n m g.1

-- ---- what covers a complete type

pub layout_alone : (r : List RecordValue) (a : QType) → is_array (type_of a) ≡ false → layout_of r (type_of a) ≡ stem_layout r (type_of a)
layout_alone r (Qualified Void c v) h = refl
layout_alone r (Qualified (Int k) c v) h = refl
layout_alone r (Qualified (Pointer q) c v) h = refl
layout_alone r (Qualified (Array q n) c v) h = no (sym h)
layout_alone r (Qualified (Function q ps) c v) h = refl
layout_alone r (Qualified (Record n) c v) h = refl

-- has its layout
pub layout_covered : (r : List RecordValue) (a b : QType) → Covers a b → IsComplete r (type_of b) → layout_of r (type_of a) ≡ layout_of r (type_of b)
layout_covered r (Qualified (Array (Qualified x c w) n) d u) (Qualified (Array (Qualified y e z) (Some m)) f v) h k =
    ap (λ o. layout_of r (Array (Qualified x c w) o)) (h.length m refl) ∙ ap (option_map (array_layout m)) (h.sizes r)
layout_covered r (Qualified (Array x n) d u) (Qualified (Array (Qualified y e z) None) f v) h k = no k
layout_covered r (Qualified Void d u) (Qualified (Array y m) f v) h k = no h.array
layout_covered r (Qualified (Int i) d u) (Qualified (Array y m) f v) h k = no h.array
layout_covered r (Qualified (Pointer p) d u) (Qualified (Array y m) f v) h k = no h.array
layout_covered r (Qualified (Function p ps) d u) (Qualified (Array y m) f v) h k = no h.array
layout_covered r (Qualified (Record i) d u) (Qualified (Array y m) f v) h k = no h.array
layout_covered r (Qualified a d u) (Qualified Void f v) h k = no k
layout_covered r (Qualified a d u) (Qualified (Function p ps) f v) h k = no k
layout_covered r a (Qualified (Int i) f v) h k = layout_alone r a h.array ∙ h.sizes r
layout_covered r a (Qualified (Pointer p) f v) h k = layout_alone r a h.array ∙ h.sizes r
layout_covered r a (Qualified (Record i) f v) h k = layout_alone r a h.array ∙ h.sizes r

-- and is complete
pub complete_covered : (r : List RecordValue) (a b : QType) → Covers a b → IsComplete r (type_of b) → IsComplete r (type_of a)
complete_covered r a b h k = ap is_some (layout_covered r a b h k) ∙ k
