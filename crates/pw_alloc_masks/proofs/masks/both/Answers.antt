use Rattle.std.proofs.Common.{◌≡◌, ◌⊎◌, ◌<◌, ℕ, max, arith, inl, inr}
use Rattle.std.specs.Prelude.{bit_or}
use Rattle.std.specs.Int.{bit_at}
use Rattle.std.proofs.lemmas.Bool.{cases_eq}
use Rattle.std.proofs.lemmas.Nat.Bits.{bit_at_or, bit_at-lt}
use Rattle.pw_alloc_masks.proofs.masks.both.Goals as goal

either : (x y : ℕ) → x < 2 → y < 2 → max x y ≡ 1 → (x ≡ 1) ⊎ (y ≡ 1)
either x y low high e = elim (cases_eq x 1) [ inl one ↦ inl one | inr other ↦ inr (omega arith) ]

pub returns : goal.returns
returns c = λ k.
    let a = c.args.a in
    let b = c.args.b in
    let e : bit_at (bit_or a b) k ≡ max (bit_at a k) (bit_at b k) = bit_at_or a b k in
    let x : bit_at a k < 2 = bit_at-lt a k in
    let y : bit_at b k < 2 = bit_at-lt b k in
    ((λ h. either (bit_at a k) (bit_at b k) x y (omega (arith, e, h))), (λ h. elim h [ inl one ↦ omega (arith, e, one, y) | inr one ↦ omega (arith, e, one, x) ]))
