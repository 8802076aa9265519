-- What the tests of single bytes tell.
use Rattle.std.proofs.Common.{◌≡◌, ℕ, ◌⊎◌, inl, inr, Bool, true, false, ◌&&◌, ◌||◌, eqb, refl, arith}
use Rattle.std.proofs.lemmas.Bool.{eqb-true}
use Rattle.std.proofs.lemmas.Bool.Decides.{nat_tests}
use Rattle.pw_token.specs.Bytes.{is_in, is_either, is_u, is_l}
use Rattle.pw_token.specs.declared.bytes.Class.TheVariants.{Digit, OctalDigit, HexDigit}

pub and-split : (p q : Bool) → (p && q) ≡ true → (p ≡ true) × (q ≡ true)
and-split true q h = (refl, h)
and-split false q h = cc

pub and-join : (p q : Bool) → p ≡ true → q ≡ true → (p && q) ≡ true
and-join p q h k = rw (h, k) refl

pub and-left : (p q : Bool) → p ≡ false → (p && q) ≡ false
and-left p q h = rw h refl

pub and-right : (p q : Bool) → q ≡ false → (p && q) ≡ false
and-right true q h = h
and-right false q h = refl

pub or-split : (p q : Bool) → (p || q) ≡ true → (p ≡ true) ⊎ (q ≡ true)
or-split true q h = inl refl
or-split false q h = inr h

pub or-none : (p q : Bool) → p ≡ false → q ≡ false → (p || q) ≡ false
or-none p q h k = rw (h, k) refl

pub either-one : (b lower upper : ℕ) → is_either b lower upper ≡ true → (b ≡ lower) ⊎ (b ≡ upper)
either-one b lower upper h = elim (or-split (eqb b lower) (eqb b upper) h) [ inl e ↦ inl (eqb-true b lower e) | inr e ↦ inr (eqb-true b upper e) ]

pub octal-not_x : (b : ℕ) → is_in OctalDigit b ≡ true → is_either b 120 88 ≡ false
octal-not_x b h = grind (arith, nat_tests)

pub octal-hexadecimal : (b : ℕ) → is_in OctalDigit b ≡ true → is_in HexDigit b ≡ true
octal-hexadecimal b h = grind (arith, nat_tests)

pub digit-hexadecimal : (b : ℕ) → is_in Digit b ≡ true → is_in HexDigit b ≡ true
digit-hexadecimal b h = grind (arith, nat_tests)

pub u-not_hexadecimal : (b : ℕ) → is_u b ≡ true → is_in HexDigit b ≡ false
u-not_hexadecimal b h = grind (arith, nat_tests)

pub l-not_hexadecimal : (b : ℕ) → is_l b ≡ true → is_in HexDigit b ≡ false
l-not_hexadecimal b h = grind (arith, nat_tests)

pub u-not_x : (b : ℕ) → is_u b ≡ true → is_either b 120 88 ≡ false
u-not_x b h = grind (arith, nat_tests)

pub l-not_x : (b : ℕ) → is_l b ≡ true → is_either b 120 88 ≡ false
l-not_x b h = grind (arith, nat_tests)

pub differs : (a b c : ℕ) → a ≡ c → (eqb b c ≡ false) → eqb a b ≡ false
differs a b c e h = grind (arith, nat_tests)
