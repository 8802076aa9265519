-- Whether two shapes agree can be told.
use Rattle.std.proofs.Common.{◌≡◌, ℕ, ◌<◌, Bool, true, false, List, [], ◌∷◌, ◌++◌, length, refl, sym, ap, subst, ◌∙◌, arith, IsTrue, inl, inr}
use Rattle.std.specs.Char.{is_ascii_digit}
use Rattle.std.specs.List.{list_all}
use Rattle.pw_value.specs.Shapes.{Agree, Begins, GivesDigits, GivesLength}
use Rattle.pw_law_answers.proofs.Telling.{Told, told_bytes}

clash : (b : Bool) → b ≡ true → b ≡ false → ⊥
clash b d e = cc

-- some digits, or none, and then the closing text
abbrev Digits : List ℕ → List ℕ → Type 0
Digits closing text = (count : List ℕ) × IsTrue (list_all is_ascii_digit count) × (text ≡ count ++ closing)

abbrev tail : List ℕ → List ℕ
tail [] = []
tail (x ∷ xs) = xs

abbrev head : List ℕ → ℕ
head [] = 0
head (x ∷ xs) = x

pub digit_first : (c : ℕ) (count : List ℕ) → IsTrue (list_all is_ascii_digit (c ∷ count)) → is_ascii_digit c ≡ true
digit_first c count h = by (is_ascii_digit c) refl h
  where
    by : (b : Bool) → is_ascii_digit c ≡ b → IsTrue (list_all is_ascii_digit (c ∷ count)) → is_ascii_digit c ≡ true
    by true e h = e
    by false e h = grind arith

pub digit_rest : (c : ℕ) (count : List ℕ) → IsTrue (list_all is_ascii_digit (c ∷ count)) → IsTrue (list_all is_ascii_digit count)
digit_rest c count h = grind arith

digit_more : (c : ℕ) (count : List ℕ) → is_ascii_digit c ≡ true → IsTrue (list_all is_ascii_digit count) → IsTrue (list_all is_ascii_digit (c ∷ count))
digit_more c count e h = grind arith

-- what is left where a digit stands in front
next_digits : (closing : List ℕ) (x : ℕ) (text : List ℕ) → (x ∷ text ≡ closing → ⊥) → Digits closing (x ∷ text) → (is_ascii_digit x ≡ true) × Digits closing text
next_digits closing x text other ([], all, is) = absurd (other is)
next_digits closing x text other (c ∷ count, all, is) =
    let h : x ≡ c = ap head is in
    (ap is_ascii_digit h ∙ digit_first c count all, (count, digit_rest c count all, ap tail is))

digits_by : (closing : List ℕ) (x : ℕ) (text : List ℕ) (b : Bool) → is_ascii_digit x ≡ b → (x ∷ text ≡ closing → ⊥) → Told (Digits closing text) → Told (Digits closing (x ∷ text))
digits_by closing x text true e other (inl (count, all, is)) = inl (x ∷ count, digit_more x count e all, ap (λ (t : List ℕ). x ∷ t) is)
digits_by closing x text true e other (inr none) = inr (λ d. none (next_digits closing x text other d).1)
digits_by closing x text false e other rest = inr (λ d. clash (is_ascii_digit x) (next_digits closing x text other d).0 e)

digits_here : (closing : List ℕ) (x : ℕ) (text : List ℕ) → Told (x ∷ text ≡ closing) → Told (Digits closing text) → Told (Digits closing (x ∷ text))
digits_here closing x text (inl e) rest = inl ([], refl, e)
digits_here closing x text (inr other) rest = digits_by closing x text (is_ascii_digit x) refl other rest

digits_empty : (closing : List ℕ) → Told (Digits closing [])
digits_empty [] = inl ([], refl, refl)
digits_empty (c ∷ closing) = inr (λ d. no d.0 d.2)
  where
    no : (count : List ℕ) → [] ≡ count ++ c ∷ closing → ⊥
    no [] e = absurd cc
    no (x ∷ count) e = absurd cc

told_digits : (closing text : List ℕ) → Told (Digits closing text)
told_digits closing [] = digits_empty closing
told_digits closing (x ∷ text) = digits_here closing x text (told_bytes (x ∷ text) closing) (told_digits closing text)

-- ---- one digit or more

first_digit : (closing : List ℕ) (x : ℕ) (text : List ℕ) → GivesDigits closing (x ∷ text) → (is_ascii_digit x ≡ true) × Digits closing text
first_digit closing x text ([], ((some, all), is)) = absurd (omega (arith, some))
first_digit closing x text (c ∷ count, ((some, all), is)) =
    let h : x ≡ c = ap head is in
    (ap is_ascii_digit h ∙ digit_first c count all, (count, digit_rest c count all, ap tail is))

number_by : (closing : List ℕ) (x : ℕ) (text : List ℕ) (b : Bool) → is_ascii_digit x ≡ b → Told (Digits closing text) → Told (GivesDigits closing (x ∷ text))
number_by closing x text true e (inl (count, all, is)) = inl (x ∷ count, ((omega arith, digit_more x count e all), ap (λ (t : List ℕ). x ∷ t) is))
number_by closing x text true e (inr none) = inr (λ d. none (first_digit closing x text d).1)
number_by closing x text false e rest = inr (λ d. clash (is_ascii_digit x) (first_digit closing x text d).0 e)

no_number : (closing count : List ℕ) → 0 < length count → [] ≡ count ++ closing → ⊥
no_number closing [] some e = omega (arith, some)
no_number closing (x ∷ count) some e = absurd cc

told_number : (closing text : List ℕ) → Told (GivesDigits closing text)
told_number closing [] = inr (λ d. no_number closing d.0 d.1.0.0 d.1.1)
told_number closing (x ∷ text) = number_by closing x text (is_ascii_digit x) refl (told_digits closing text)

-- ---- a length at the beginning

begins_by : (n x : ℕ) (rest : List ℕ) → Told (x ∷ [] ≡ n ∷ []) → Told (Begins n (x ∷ rest))
begins_by n x rest (inl e) = let h : x ≡ n = ap head e in inl (rest, ap (λ (y : ℕ). y ∷ rest) h)
begins_by n x rest (inr other) = inr (λ b. let h : x ≡ n = ap head b.1 in other (ap (λ (y : ℕ). y ∷ []) h))

told_begins : (n : ℕ) (text : List ℕ) → Told (Begins n text)
told_begins n [] = inr (λ b. absurd cc)
told_begins n (x ∷ rest) = begins_by n x rest (told_bytes (x ∷ []) (n ∷ []))

length_by : (without given : List ℕ) → Told (Begins 91 without) → Told (Begins 93 (tail without)) → Told (Begins 91 given) → Told (GivesDigits (93 ∷ tail (tail without)) (tail given)) → Told (GivesLength without given)
length_by without given (inr none) b c d = inr (λ g. none (93 ∷ g.0, g.2.0))
length_by without given (inl a) (inr none) c d = inr (λ g. none (g.0, ap tail g.2.0))
length_by without given (inl a) (inl b) (inr none) d = inr (λ g. none (g.1, g.2.1))
length_by without given (inl a) (inl b) (inl c) (inl d) =
    let two : without ≡ 91 ∷ tail without = a.1 ∙ ap (λ (t : List ℕ). 91 ∷ t) (sym (ap tail a.1)) in
    let three : tail without ≡ 93 ∷ tail (tail without) = b.1 ∙ ap (λ (t : List ℕ). 93 ∷ t) (sym (ap tail b.1)) in
    let other : given ≡ 91 ∷ tail given = c.1 ∙ ap (λ (t : List ℕ). 91 ∷ t) (sym (ap tail c.1)) in
    inl (tail (tail without), tail given, (two ∙ ap (λ (t : List ℕ). 91 ∷ t) three, other, d))
length_by without given (inl a) (inl b) (inl c) (inr none) = inr (λ g.
    let element : tail (tail without) ≡ g.0 = ap (λ (t : List ℕ). tail (tail t)) g.2.0 in
    let rest : tail given ≡ g.1 = ap tail g.2.1 in
    none (subst (λ (t : List ℕ). GivesDigits (93 ∷ t) (tail given)) (sym element) (subst (λ (t : List ℕ). GivesDigits (93 ∷ g.0) t) (sym rest) g.2.2)))

told_length : (without given : List ℕ) → Told (GivesLength without given)
told_length without given =
    length_by without given (told_begins 91 without) (told_begins 93 (tail without)) (told_begins 91 given) (told_number (93 ∷ tail (tail without)) (tail given))

agree_by : (a b : List ℕ) → Told (a ≡ b) → Told (GivesLength a b) → Told (GivesLength b a) → Told (Agree a b)
agree_by a b (inl e) f g = inl (inl e)
agree_by a b (inr d) (inl f) g = inl (inr (inl f))
agree_by a b (inr d) (inr e) (inl g) = inl (inr (inr g))
agree_by a b (inr d) (inr e) (inr f) = inr (λ h. elim h [ inl i ↦ d i | inr i ↦ elim i [ inl j ↦ e j | inr j ↦ f j ] ])

pub told_agree : (a b : List ℕ) → Told (Agree a b)
told_agree a b = agree_by a b (told_bytes a b) (told_length a b) (told_length b a)
