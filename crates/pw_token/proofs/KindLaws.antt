-- A spelling has one kind, and begins with no blank and no backslash.
use Rattle.std.proofs.Common.{◌≡◌, ◌≢◌, ℕ, ◌<◌, ◌⊎◌, inl, inr, Bool, true, false, cond, not, ◌&&◌, ◌||◌, eqb, List, [], ◌∷◌, ◌++◌, length, slice_index, refl, ap, arith, sym, ◌∙◌, subst}
use Rattle.std.specs.List.{list_all}
use Rattle.std.proofs.lemmas.Bool.Decides.{nat_tests}
use Rattle.std.proofs.lemmas.List.{append-nil}
use Rattle.pw_token.proofs.Floats.{floating-reaches, integer-no_floating}
use Rattle.pw_token.proofs.ByteFacts.{and-split, and-left, and-right}
use Rattle.pw_token.proofs.WordLaws.{any-all, keyword-word}
use Rattle.pw_token.specs.Bytes.{is_in, is_nondigit, AllIn, SomeIn}
use Rattle.pw_token.specs.Pieces.{word_kind, is_blank}
use Rattle.pw_token.specs.Scanning.{floating_len}
use Rattle.pw_token.specs.Spelling.{IsWord, IsInteger, IsDecimal, IsOctal, IsHexadecimal, IsFloating, IsScaled, IsWide, Spells}
use Rattle.pw_token.specs.Words.{is_mark, marks}
use Rattle.pw_token.specs.declared.bytes.Class.TheVariants as class
use Rattle.pw_token.specs.declared.token.TokenKind.{TokenKind}
use Rattle.pw_token.specs.declared.token.TokenKind.TheVariants.{Identifier, Keyword, Number, Floating, Character, Text, Wide, Mark, Directive}

abbrev begins_wide : List ℕ → Bool
begins_wide s = eqb (slice_index s 0) 76 && (eqb (slice_index s 1) 39 || eqb (slice_index s 1) 34)

abbrev begins_numeral : List ℕ → Bool
begins_numeral s = is_in class.Digit (slice_index s 0) || (eqb (slice_index s 0) 46 && is_in class.Digit (slice_index s 1))

-- the kind of a spelling
kind_in : List ℕ → TokenKind
kind_in s =
    cond (begins_wide s) Wide
    (cond (is_nondigit (slice_index s 0)) (word_kind s)
    (cond (begins_numeral s) (cond (eqb (floating_len s) 0) Number Floating)
    (cond (eqb (slice_index s 0) 39) Character (cond (eqb (slice_index s 0) 34) Text Mark))))

-- the first byte is no blank and no backslash
abbrev pub opens : List ℕ → Bool
opens s = not (is_blank (slice_index s 0)) && not (eqb (slice_index s 0) 92)

-- ---- words

word-no_quote : (c : ℕ) → is_in class.Word c ≡ true → (eqb c 39 || eqb c 34) ≡ false
word-no_quote c h = grind (arith, nat_tests)

word-not_wide : (s : List ℕ) → IsWord s → begins_wide s ≡ false
word-not_wide [] h = absurd h
word-not_wide (b ∷ []) h = and-right (eqb b 76) false refl
word-not_wide (b ∷ c ∷ s) h = and-right (eqb b 76) _ (word-no_quote c h.1.0)

word-nondigit : (s : List ℕ) → IsWord s → is_nondigit (slice_index s 0) ≡ true
word-nondigit [] h = absurd h
word-nondigit (b ∷ s) h = h.0

word-kind : (s : List ℕ) → IsWord s → kind_in s ≡ word_kind s
unfolding kind_in
word-kind s h = rw (word-not_wide s h, word-nondigit s h) refl

word-opens : (s : List ℕ) → IsWord s → opens s ≡ true
word-opens [] h = absurd h
word-opens (b ∷ s) h = nondigit b h.0
  where
    nondigit : (b : ℕ) → is_nondigit b ≡ true → (not (is_blank b) && not (eqb b 92)) ≡ true
    nondigit b h = grind (arith, nat_tests)

-- ---- numbers

digit-facts : (b : ℕ) → is_in class.Digit b ≡ true → (eqb b 76 ≡ false) × (is_nondigit b ≡ false) × ((not (is_blank b) && not (eqb b 92)) ≡ true)
digit-facts b h = (grind (arith, nat_tests), grind (arith, nat_tests), grind (arith, nat_tests))

pub integer-first : (s : List ℕ) → IsInteger s → is_in class.Digit (slice_index s 0) ≡ true
integer-first s h = subst (λ x. is_in class.Digit (slice_index x 0) ≡ true) (sym h.whole) (kinds h.digits h.suffix h.constant)
  where
    decimal : (digits suffix : List ℕ) → IsDecimal digits → is_in class.Digit (slice_index (digits ++ suffix) 0) ≡ true
    decimal [] suffix k = absurd k
    decimal (d ∷ ds) suffix k = k.0

    kinds : (digits suffix : List ℕ) → IsDecimal digits ⊎ (IsOctal digits ⊎ IsHexadecimal digits) → is_in class.Digit (slice_index (digits ++ suffix) 0) ≡ true
    kinds digits suffix (inl k) = decimal digits suffix k
    kinds digits suffix (inr (inl k)) = ap (λ x. is_in class.Digit (slice_index (x ++ suffix) 0)) k.1
    kinds digits suffix (inr (inr k)) = ap (λ x. is_in class.Digit (slice_index (x ++ suffix) 0)) k.2

integer-kind : (s : List ℕ) → IsInteger s → kind_in s ≡ Number
unfolding kind_in
integer-kind s h =
    let d = integer-first s h in
    let f = digit-facts (slice_index s 0) d in
    rw (and-left _ (eqb (slice_index s 1) 39 || eqb (slice_index s 1) 34) f.0, f.1, d, integer-no_floating s h) refl

-- the first byte is a digit, or a point before a digit
abbrev StartsNumeral : List ℕ → Type 0
StartsNumeral s = (is_in class.Digit (slice_index s 0) ≡ true) ⊎ ((slice_index s 0 ≡ 46) × (is_in class.Digit (slice_index s 1) ≡ true))

pub floating-first : (s : List ℕ) → IsFloating s → StartsNumeral s
floating-first s h = subst StartsNumeral (sym h.whole) (scaled h.mantissa (h.exponent ++ h.suffix) h.constant)
  where
    fractional : (before behind r : List ℕ) → AllIn class.Digit before → AllIn class.Digit behind → before ++ behind ≢ [] → StartsNumeral ((before ++ 46 ∷ behind) ++ r)
    fractional [] [] r a b n = absurd (n refl)
    fractional [] (d ∷ behind) r a b n = inr (refl, b.0)
    fractional (d ∷ before) behind r a b n = inl a.0

    digits : (m r : List ℕ) → SomeIn class.Digit m → StartsNumeral (m ++ r)
    digits [] r k = absurd k
    digits (d ∷ m) r k = inl k.0

    scaled : {e : List ℕ} (m r : List ℕ) → IsScaled m e → StartsNumeral (m ++ r)
    scaled m r (inl k) = subst (λ x. StartsNumeral (x ++ r)) (sym k.0.2) (fractional k.0.0 k.0.1 r k.0.3 k.0.4 k.0.5)
    scaled m r (inr k) = digits m r k.0

floating-long : (s : List ℕ) → IsFloating s → 0 < length s
floating-long [] h = elim (floating-first [] h) [ inl e ↦ cc | inr e ↦ absurd (omega (arith, e.0)) ]
floating-long (b ∷ s) h = omega arith

floating-some : (s : List ℕ) → IsFloating s → eqb (floating_len s) 0 ≡ false
floating-some s h =
    let l : 0 < floating_len s = omega (arith, floating-long s h, floating-reaches s [] h, ap floating_len (append-nil s)) in
    some (floating_len s) l
  where
    some : (n : ℕ) → 0 < n → eqb n 0 ≡ false
    some n l = grind (arith, nat_tests)

numeral-facts : (b c : ℕ) → (is_in class.Digit b ≡ true) ⊎ ((b ≡ 46) × (is_in class.Digit c ≡ true))
    → (eqb b 76 ≡ false) × (is_nondigit b ≡ false) × ((is_in class.Digit b || (eqb b 46 && is_in class.Digit c)) ≡ true) × ((not (is_blank b) && not (eqb b 92)) ≡ true)
numeral-facts b c (inl h) = let f = digit-facts b h in (f.0, f.1, rw h refl, f.2)
numeral-facts b c (inr h) = rw h.0 (refl, refl, h.1, refl)

floating-kind : (s : List ℕ) → IsFloating s → kind_in s ≡ Floating
unfolding kind_in
floating-kind s h =
    let f = numeral-facts (slice_index s 0) (slice_index s 1) (floating-first s h) in
    rw (and-left _ (eqb (slice_index s 1) 39 || eqb (slice_index s 1) 34) f.0, f.1, f.2, floating-some s h) refl

-- ---- constants and marks

character-kind : (s : List ℕ) → kind_in (39 ∷ s) ≡ Character
unfolding kind_in
character-kind s = refl

text-kind : (s : List ℕ) → kind_in (34 ∷ s) ≡ Text
unfolding kind_in
text-kind s = refl

wide-kind : (s : List ℕ) → IsWide s → kind_in s ≡ Wide
unfolding kind_in
wide-kind s (literal, e, inl h) = ap kind_in (e ∙ ap (λ x. 76 ∷ x) h.1)
wide-kind s (literal, e, inr h) = ap kind_in (e ∙ ap (λ x. 76 ∷ x) h.1)

abbrev mark_test : List ℕ → Bool
mark_test s =
    ((not (begins_wide s) && not (is_nondigit (slice_index s 0))) && (not (begins_numeral s) && opens s))
    && ((not (eqb (slice_index s 0) 39) && not (eqb (slice_index s 0) 34)) && not (eqb (length s) 0))

marks-test : list_all mark_test marks ≡ true
marks-test = refl

mark-test : (s : List ℕ) → is_mark s ≡ true → mark_test s ≡ true
unfolding is_mark
mark-test s h = any-all mark_test s marks h marks-test

pub not-true : (b : Bool) → not b ≡ true → b ≡ false
not-true true h = cc
not-true false h = refl

mark-kind : (s : List ℕ) → is_mark s ≡ true → kind_in s ≡ Mark
unfolding kind_in
mark-kind s h =
    let t = and-split _ _ (mark-test s h) in
    let a = and-split _ _ t.0 in
    let b = and-split (not (begins_wide s)) _ a.0 in
    let c = and-split (not (begins_numeral s)) _ a.1 in
    let d = and-split (not (eqb (slice_index s 0) 39)) _ (and-split _ _ t.1).0 in
    rw (not-true (begins_wide s) b.0, not-true (is_nondigit (slice_index s 0)) b.1, not-true (begins_numeral s) c.0, not-true (eqb (slice_index s 0) 39) d.0, not-true (eqb (slice_index s 0) 34) d.1) refl

-- ---- all kinds

spelled-kind : (k : TokenKind) (s : List ℕ) → Spells k s → kind_in s ≡ k
spelled-kind Identifier s h = word-kind s h.0 ∙ ap (λ b. cond b Keyword Identifier) h.1
spelled-kind Keyword s h = word-kind s (keyword-word s h) ∙ ap (λ b. cond b Keyword Identifier) h
spelled-kind Number s h = integer-kind s h
spelled-kind Floating s h = floating-kind s h
spelled-kind Character s h = ap kind_in h.1 ∙ character-kind (h.0 ++ 39 ∷ [])
spelled-kind Text s h = ap kind_in h.1 ∙ text-kind (h.0 ++ 34 ∷ [])
spelled-kind Wide s h = wide-kind s h
spelled-kind Mark s h = mark-kind s h
spelled-kind Directive s h = absurd h

pub one-kind : (k other : TokenKind) (s : List ℕ) → Spells k s → Spells other s → k ≡ other
one-kind k other s h m = sym (spelled-kind k s h) ∙ spelled-kind other s m

pub spelled-opens : (k : TokenKind) (s : List ℕ) → Spells k s → opens s ≡ true
spelled-opens Identifier s h = word-opens s h.0
spelled-opens Keyword s h = word-opens s (keyword-word s h)
spelled-opens Number s h = (digit-facts (slice_index s 0) (integer-first s h)).2
spelled-opens Floating s h = (numeral-facts (slice_index s 0) (slice_index s 1) (floating-first s h)).3
spelled-opens Character s h = ap opens h.1
spelled-opens Text s h = ap opens h.1
spelled-opens Wide s h = ap opens h.1
spelled-opens Mark s h =
    let t = and-split _ _ (mark-test s h) in
    (and-split (not (begins_numeral s)) _ (and-split _ _ t.0).1).1
spelled-opens Directive s h = absurd h

mark-long : (s : List ℕ) → mark_test s ≡ true → 0 < length s
mark-long [] h = cc
mark-long (b ∷ s) h = omega arith

pub spelled-long : (k : TokenKind) (s : List ℕ) → Spells k s → 0 < length s
spelled-long Identifier s h = word-long s h.0
  where
    word-long : (s : List ℕ) → IsWord s → 0 < length s
    word-long [] h = absurd h
    word-long (b ∷ s) h = omega arith
spelled-long Keyword s h = word-long s (keyword-word s h)
  where
    word-long : (s : List ℕ) → IsWord s → 0 < length s
    word-long [] h = absurd h
    word-long (b ∷ s) h = omega arith
spelled-long Number [] h = let e = integer-first [] h in cc
spelled-long Number (b ∷ s) h = omega arith
spelled-long Floating s h = floating-long s h
spelled-long Character s h = omega (arith, ap length h.1)
spelled-long Text s h = omega (arith, ap length h.1)
spelled-long Wide s h = omega (arith, ap length h.1)
spelled-long Mark s h = mark-long s (mark-test s h)
spelled-long Directive s h = absurd h
