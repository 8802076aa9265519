-- What a hole `{:08x}` writes of a word.
use Rattle.std.proofs.Common.{ℕ, zero, suc, false, List, [], ◌∷◌, ◌++◌, ◌≡◌, ◌+◌, ◌-◌, ◌*◌, ◌/◌, ◌%◌, ◌^◌, ◌<◌, length, replicate, refl, sym, ap, ◌∙◌, inl, inr, arith}
use Rattle.std.proofs.lemmas.List.{append_assoc, append-nil, replicate-append-replicate}
use Rattle.std.proofs.lemmas.Bool.{eq-eqb, ne_eqb, cases_eq}
use Rattle.std.proofs.Math.Nat.{pow-suc}
use Rattle.std.specs.Fmt.{digits, digits_onto, digit_glyph, char_count, padded_integral, format_spec}
use Rattle.pw_inst.specs.Listing.{hexadecimal}

hexadecimal-zero : (width : ℕ) → hexadecimal width 0 ≡ replicate width 48
hexadecimal-zero zero = refl
hexadecimal-zero (suc width) =
    let more : width + 1 ≡ suc width = omega arith in
    ap (λ front. front ++ 48 ∷ []) (hexadecimal-zero width)
    ∙ replicate-append-replicate width 1 48
    ∙ ap (λ k. replicate k 48) more

-- the digits of a number, with as many zeros before them as the width lacks
record Pads (width fuel n : ℕ) (acc : List ℕ) : Type 0 where
  zeros : ℕ
  same : hexadecimal width n ++ acc ≡ replicate zeros 48 ++ digits_onto fuel 16 false n acc
  count : zeros + length (digits_onto fuel 16 false n acc) ≡ width + length acc

pads : (width fuel n : ℕ) (acc : List ℕ) → n < 16 ^ suc width → width < fuel → Pads (suc width) fuel n acc
pads width zero n acc small enough = absurd (omega arith)
pads zero (suc fuel) n acc small enough =
    let none : n / 16 ≡ 0 = omega arith in
    record { zeros = 0; same = rw (eq-eqb (n / 16) 0 none) refl; count = rw (eq-eqb (n / 16) 0 none) (omega arith) }
pads (suc width) (suc fuel) n acc small enough =
    let glyph = digit_glyph false (n % 16) in
    elim (cases_eq (n / 16) 0) [
      | inl none ↦ record {
        zeros = suc width;
        same = rw (eq-eqb (n / 16) 0 none) (rw (none, hexadecimal-zero (suc width)) (append_assoc (replicate (suc width) 48) (glyph ∷ []) acc));
        count = rw (eq-eqb (n / 16) 0 none) (omega arith);
      }
      | inr some ↦
          let power : 16 ^ suc (suc width) ≡ 16 ^ suc width * 16 = pow-suc 16 (suc width) in
          let below : n / 16 < 16 ^ suc width = omega arith in
          let rest : Pads (suc width) fuel (n / 16) (glyph ∷ acc) = pads width fuel (n / 16) (glyph ∷ acc) below (omega arith) in
          let count : rest.zeros + length (digits_onto fuel 16 false (n / 16) (glyph ∷ acc)) ≡ suc (suc width) + length acc = omega (arith, rest.count) in
          record {
            zeros = rest.zeros;
            same = rw (ne_eqb (n / 16) 0 some) (append_assoc (hexadecimal (suc width) (n / 16)) (glyph ∷ []) acc ∙ rest.same);
            count = rw (ne_eqb (n / 16) 0 some) count;
          }
    ]

record PadsWord (n : ℕ) : Type 0 where
  zeros : ℕ
  same : hexadecimal 8 n ++ [] ≡ replicate zeros 48 ++ digits 16 false n
  count : zeros + length (digits 16 false n) ≡ 8

pads_word : (n : ℕ) → n < 2 ^ 32 → PadsWord n
unfolding digits
pads_word n small =
    let found : Pads 8 64 n [] = pads 7 64 n [] (omega arith) (omega arith) in
    record { zeros = found.zeros; same = found.same; count = omega (arith, found.count) }

padded_to_eight : (shown : List ℕ) (zeros : ℕ) → zeros + length shown ≡ 8
    → padded_integral (format_spec 32 0 4 8 (2 ^ 64 - 1)) false [] shown ≡ replicate zeros 48 ++ shown
unfolding padded_integral char_count
padded_to_eight shown zeros count =
    let lacks : 8 - length shown - 0 - 0 ≡ zeros = omega arith in
    rw (lacks, append-nil)

-- eight digits of a word
pub hexadecimal_of_word : (n : ℕ) → n < 2 ^ 32 → padded_integral (format_spec 32 0 4 8 (2 ^ 64 - 1)) false [] (digits 16 false n) ≡ hexadecimal 8 n
hexadecimal_of_word n small =
    let found : PadsWord n = pads_word n small in
    padded_to_eight (digits 16 false n) found.zeros found.count ∙ sym found.same ∙ append-nil (hexadecimal 8 n)
