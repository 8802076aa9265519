-- Which kinds of token a text can begin with, by its first byte.
use Rattle.std.proofs.Common.{◌≡◌, ℕ, ◌<◌, inl, inr, Bool, true, false, cond, not, ◌||◌, nat_lt, eqb, List, take, slice_index, refl, ap, arith, sym, ◌∙◌}
use Rattle.std.specs.List.{list_all}
use Rattle.std.proofs.lemmas.Bool.{eqb-true, eqb-false, ltb-true, ltb-false}
use Rattle.std.proofs.lemmas.Bool.Decides.{nat_tests}
use Rattle.pw_token.proofs.Floats.{floating-front}
use Rattle.pw_token.proofs.Integers.{integer-front}
use Rattle.pw_token.proofs.KindLaws.{integer-first, floating-first, not-true}
use Rattle.pw_token.proofs.Runs.{Begins, either}
use Rattle.pw_token.proofs.WordLaws.{any-all, first-of, mark-front}
use Rattle.pw_token.specs.Bytes.{is_in, is_nondigit}
use Rattle.pw_token.specs.Pieces.{Found, longer, word_kind, word_at, longest_at}
use Rattle.pw_token.specs.Scanning.{run, integer_len, floating_len, literal_len, wide_len, longest_in}
use Rattle.pw_token.specs.Words.{is_keyword, is_mark, marks}
use Rattle.pw_token.specs.declared.bytes.Class.TheVariants.{Digit, Word}
use Rattle.pw_token.specs.declared.token.TokenKind.TheVariants.{Identifier, Number, Floating, Character, Text, Wide, Mark}

-- ---- what does not stand there

front-first : {P : List ℕ → Type 0} {n : ℕ} {t : List ℕ} (b : Begins P n t) → 0 < n → slice_index t 0 ≡ slice_index b.front 0
front-first {P} {n} {t} b l = ap (λ x. slice_index x 0) b.split ∙ first-of b.front b.rest (omega (arith, b.len))

none : (n : ℕ) → (0 < n → ⊥) → n ≡ 0
none n h = elim (either (eqb n 0)) [ inl z ↦ eqb-true n 0 z | inr z ↦ absurd (h (omega (arith, eqb-false n 0 z))) ]

clash : (b : Bool) → b ≡ false → b ≡ true → ⊥
clash b f t = cc

no-word : (t : List ℕ) → is_nondigit (slice_index t 0) ≡ false → word_at t ≡ (Identifier, 0)
unfolding is_keyword
no-word t h = ap (λ (n : ℕ). (word_kind (take n t), n)) (ap (λ b. cond b (run Word t) 0) h)

no-integer : (t : List ℕ) → is_in Digit (slice_index t 0) ≡ false → integer_len t ≡ 0
no-integer t h =
    none (integer_len t)
    (λ l.
    let b = integer-front t l in
    clash (is_in Digit (slice_index t 0)) h (ap (is_in Digit) (front-first b l) ∙ integer-first b.front b.holds))

no-floating : (t : List ℕ) → is_in Digit (slice_index t 0) ≡ false → eqb (slice_index t 0) 46 ≡ false → floating_len t ≡ 0
no-floating t h n =
    none (floating_len t)
    (λ l.
    let b = floating-front t l in
    elim (floating-first b.front b.holds) [
      | inl d ↦ clash (is_in Digit (slice_index t 0)) h (ap (is_in Digit) (front-first b l) ∙ d)
      | inr p ↦ eqb-false (slice_index t 0) 46 n (front-first b l ∙ p.0)
    ])

no-literal : (quote : ℕ) (t : List ℕ) → eqb (slice_index t 0) quote ≡ false → literal_len quote t ≡ 0
unfolding literal_len
no-literal quote t h = rw h refl

no-wide : (t : List ℕ) → eqb (slice_index t 0) 76 ≡ false → wide_len t ≡ 0
unfolding wide_len
no-wide t h = rw h refl

-- a letter, a digit, an underscore or a quote, with which no mark begins
abbrev begins_other : ℕ → Bool
begins_other b = is_in Word b || (eqb b 39 || eqb b 34)

marks-begin : list_all (λ s. not (begins_other (slice_index s 0))) marks ≡ true
marks-begin = refl

no-mark : (t : List ℕ) → begins_other (slice_index t 0) ≡ true → longest_in 0 marks t ≡ 0
unfolding is_mark
no-mark t h =
    none (longest_in 0 marks t)
    (λ l.
    let b = mark-front t l in
    let n = not-true (begins_other (slice_index b.front 0)) (any-all (λ s. not (begins_other (slice_index s 0))) b.front marks b.holds marks-begin) in
    clash (begins_other (slice_index t 0)) (ap begins_other (front-first b l) ∙ n) h)

-- ---- the longer of two of which one is nothing

longer-none : (a b : Found) → b.1 ≡ 0 → longer a b ≡ a
longer-none a b e =
    elim (either (nat_lt a.1 b.1)) [
      | inl l ↦ absurd (omega (arith, ltb-true a.1 b.1 l, e))
      | inr l ↦ ap (λ x. cond x b a) l
    ]

longer-past : (a s b : Found) → s.1 ≡ 0 → longer a (longer s b) ≡ longer a b
longer-past a s b e =
    elim (either (nat_lt s.1 b.1)) [
      | inl l ↦ ap (λ x. longer a (cond x b s)) l
      | inr l ↦
          let none : b.1 ≡ 0 = omega (arith, ltb-false s.1 b.1 l, e) in
          ap (λ x. longer a (cond x b s)) l ∙ longer-none a s e ∙ sym (longer-none a b none)
    ]

both : {a c b d : Found} → a ≡ c → b ≡ d → longer a b ≡ longer c d
both {a} {c} {b} {d} e f = ap (λ x. longer x b) e ∙ ap (λ x. longer c x) f

-- ---- what stands there

letter-facts : (b : ℕ) → is_nondigit b ≡ true → (is_in Digit b ≡ false) × (eqb b 46 ≡ false) × (eqb b 39 ≡ false) × (eqb b 34 ≡ false) × (begins_other b ≡ true)
letter-facts b h = (grind (arith, nat_tests), grind (arith, nat_tests), grind (arith, nat_tests), grind (arith, nat_tests), ap (λ x. (x || is_in Digit b) || (eqb b 39 || eqb b 34)) h)

digit-begins : (b : ℕ) → is_in Digit b ≡ true → (eqb b 39 ≡ false) × (eqb b 34 ≡ false) × (eqb b 76 ≡ false) × (is_nondigit b ≡ false)
digit-begins b h = (grind (arith, nat_tests), grind (arith, nat_tests), grind (arith, nat_tests), grind (arith, nat_tests))

digit-other : (b : ℕ) → is_in Digit b ≡ true → is_nondigit b ≡ false → begins_other b ≡ true
digit-other b h n = ap (λ x. (x || is_in Digit b) || (eqb b 39 || eqb b 34)) n ∙ ap (λ x. x || (eqb b 39 || eqb b 34)) h

-- a letter or an underscore begins a word, or what L begins
pub letter-longest : (t : List ℕ) → is_nondigit (slice_index t 0) ≡ true → longest_at t ≡ longer (word_at t) (Wide, wide_len t)
unfolding longest_at
letter-longest t h =
    let f = letter-facts (slice_index t 0) h in
    let w = word_at t in
    let number : Found = (Number, integer_len t) in
    let floating : Found = (Floating, floating_len t) in
    let character : Found = (Character, literal_len 39 t) in
    let text : Found = (Text, literal_len 34 t) in
    let wide : Found = (Wide, wide_len t) in
    let mark : Found = (Mark, longest_in 0 marks t) in
    both
    (ap (λ x. longer x (longer floating character)) (longer-none w number (no-integer t f.0)) ∙ ap (λ x. longer w x) (longer-none floating character (no-literal 39 t f.2))
    ∙ longer-none w floating (no-floating t f.0 f.1))
    (longer-none (longer text wide) mark (no-mark t f.4))
    ∙ longer-past w text wide (no-literal 34 t f.3)

-- where it is no L, a word
pub word-longest : (t : List ℕ) → is_nondigit (slice_index t 0) ≡ true → eqb (slice_index t 0) 76 ≡ false → longest_at t ≡ word_at t
word-longest t h n = letter-longest t h ∙ longer-none (word_at t) (Wide, wide_len t) (no-wide t n)

-- a digit begins a number
pub digit-longest : (t : List ℕ) → is_in Digit (slice_index t 0) ≡ true → longest_at t ≡ longer (longer (Identifier, 0) (Number, integer_len t)) (Floating, floating_len t)
unfolding longest_at
digit-longest t h =
    let f = digit-begins (slice_index t 0) h in
    let w = word_at t in
    let nothing : Found = (Identifier, 0) in
    let number : Found = (Number, integer_len t) in
    let floating : Found = (Floating, floating_len t) in
    let character : Found = (Character, literal_len 39 t) in
    let text : Found = (Text, literal_len 34 t) in
    let wide : Found = (Wide, wide_len t) in
    let mark : Found = (Mark, longest_in 0 marks t) in
    both
    (ap (λ x. longer (longer x number) (longer floating character)) (no-word t f.3) ∙ ap (λ x. longer (longer nothing number) x) (longer-none floating character (no-literal 39 t f.0)))
    (ap (λ x. longer x mark) (longer-none text wide (no-wide t f.2)) ∙ longer-none text mark (no-mark t (digit-other (slice_index t 0) h f.3)))
    ∙ longer-none (longer (longer nothing number) floating) text (no-literal 34 t f.1)

-- neither a letter nor a digit, nor an underscore
pub record IsOther (b : ℕ) : Type 0 where
  pub no_letter : is_nondigit b ≡ false
  pub no_digit : is_in Digit b ≡ false

other-not_L : (b : ℕ) → IsOther b → eqb b 76 ≡ false
other-not_L b h = elim (either (eqb b 76)) [ inl e ↦ absurd (clash (is_nondigit b) h.no_letter (ap is_nondigit (eqb-true b 76 e))) | inr e ↦ e ]

-- It begins a constant, a string or a mark.
other-longest : (t : List ℕ) → IsOther (slice_index t 0)
    → longest_at t ≡ longer (longer (Identifier, 0) (longer (Floating, floating_len t) (Character, literal_len 39 t))) (longer (Text, literal_len 34 t) (Mark, longest_in 0 marks t))
unfolding longest_at
other-longest t h =
    let nothing : Found = (Identifier, 0) in
    let number : Found = (Number, integer_len t) in
    let constant = longer (Floating, floating_len t) (Character, literal_len 39 t) in
    let text : Found = (Text, literal_len 34 t) in
    let wide : Found = (Wide, wide_len t) in
    let mark : Found = (Mark, longest_in 0 marks t) in
    both
    (ap (λ x. longer (longer x number) constant) (no-word t h.no_letter) ∙ ap (λ x. longer x constant) (longer-none nothing number (no-integer t h.no_digit)))
    (ap (λ x. longer x mark) (longer-none text wide (no-wide t (other-not_L (slice_index t 0) h))))

pub point-longest : (t : List ℕ) → slice_index t 0 ≡ 46 → longest_at t ≡ longer (longer (Identifier, 0) (Floating, floating_len t)) (Mark, longest_in 0 marks t)
point-longest t e =
    let nothing : Found = (Identifier, 0) in
    let floating : Found = (Floating, floating_len t) in
    let character : Found = (Character, literal_len 39 t) in
    let text : Found = (Text, literal_len 34 t) in
    let mark : Found = (Mark, longest_in 0 marks t) in
    other-longest t (record { no_letter = ap is_nondigit e; no_digit = ap (is_in Digit) e })
    ∙ ap (λ x. longer (longer nothing x) (longer text mark)) (longer-none floating character (no-literal 39 t (ap (λ b. eqb b 39) e)))
    ∙ longer-past (longer nothing floating) text mark (no-literal 34 t (ap (λ b. eqb b 34) e))

pub character-longest : (t : List ℕ) → slice_index t 0 ≡ 39 → longest_at t ≡ longer (Identifier, 0) (Character, literal_len 39 t)
character-longest t e =
    let nothing : Found = (Identifier, 0) in
    let floating : Found = (Floating, floating_len t) in
    let character : Found = (Character, literal_len 39 t) in
    let text : Found = (Text, literal_len 34 t) in
    let mark : Found = (Mark, longest_in 0 marks t) in
    other-longest t (record { no_letter = ap is_nondigit e; no_digit = ap (is_in Digit) e })
    ∙ both (longer-past nothing floating character (no-floating t (ap (is_in Digit) e) (ap (λ b. eqb b 46) e))) (longer-none text mark (no-mark t (ap begins_other e)))
    ∙ longer-none (longer nothing character) text (no-literal 34 t (ap (λ b. eqb b 34) e))

-- what begins neither a constant nor a word
no-constant : (t : List ℕ) → is_in Digit (slice_index t 0) ≡ false → eqb (slice_index t 0) 46 ≡ false → eqb (slice_index t 0) 39 ≡ false
    → longer (Identifier, 0) (longer (Floating, floating_len t) (Character, literal_len 39 t)) ≡ (Identifier, 0)
no-constant t d p q =
    let nothing : Found = (Identifier, 0) in
    let floating : Found = (Floating, floating_len t) in
    let character : Found = (Character, literal_len 39 t) in
    longer-past nothing floating character (no-floating t d p) ∙ longer-none nothing character (no-literal 39 t q)

pub text-longest : (t : List ℕ) → slice_index t 0 ≡ 34 → longest_at t ≡ longer (Identifier, 0) (Text, literal_len 34 t)
text-longest t e =
    let text : Found = (Text, literal_len 34 t) in
    let mark : Found = (Mark, longest_in 0 marks t) in
    other-longest t (record { no_letter = ap is_nondigit e; no_digit = ap (is_in Digit) e })
    ∙ both (no-constant t (ap (is_in Digit) e) (ap (λ b. eqb b 46) e) (ap (λ b. eqb b 39) e)) (longer-none text mark (no-mark t (ap begins_other e)))

pub mark-longest : (t : List ℕ) → IsOther (slice_index t 0) → eqb (slice_index t 0) 46 ≡ false → eqb (slice_index t 0) 39 ≡ false → eqb (slice_index t 0) 34 ≡ false
    → longest_at t ≡ longer (Identifier, 0) (Mark, longest_in 0 marks t)
mark-longest t h p q r =
    let nothing : Found = (Identifier, 0) in
    let text : Found = (Text, literal_len 34 t) in
    let mark : Found = (Mark, longest_in 0 marks t) in
    other-longest t h ∙ ap (λ x. longer x (longer text mark)) (no-constant t h.no_digit p q) ∙ longer-past nothing text mark (no-literal 34 t r)
