-- The divisions divide.
use Rattle.std.proofs.Common.{ℕ, ℤ, pos, negsuc, ◌+◌, ◌*◌, ◌<◌, ◌≤◌, ◌≡◌, ◌≢◌, drop, length, refl, sym, ap, subst, ◌∙◌, arith}
use Rattle.std.specs.Prelude.{slice_index, int_div, int_rem, unsigned_abs}
use Rattle.std.specs.Int.{cast_signed, cast_unsigned, w32}
use Rattle.std.specs.Int.Bits.{or_zero_r}
use Rattle.pw_inst.specs.InstructionTable.{decoded, form_of, system, three_register, long_immediate, compare, subtract_immediate, extract, deposit, branch_external, branch, memory}
use Rattle.pw_machine.specs.Run.{State}
use Rattle.pw_milli.specs.Words.{divs_words, divu_words, rems_words, remu_words}
use Rattle.pw_milli.specs.Calls.{Enters, Computes, IsQuotient, IsRemainder, IsSignedQuotient, IsSignedRemainder}
use Rattle.pw_milli.proofs.Codes.{dividing, back, remainder_back, sign_of_quotient, sign_of_remainder, absolutes, signed_back, signed_remainder_back}
use Rattle.pw_milli.proofs.Small.{at}
use Rattle.pw_milli.proofs.Bridge.{reaches}
use Rattle.pw_milli.proofs.Returns.{Decodes, part_lies, comes, computes, on, enters_part}
use Rattle.pw_milli.proofs.Dividing.{Ready, divides}
use Rattle.pw_milli.proofs.SignedParts.{signs_quotient, signs_remainder, takes_absolutes, signs_back, signs_remainder_back, moves_back}
use Rattle.pw_milli.proofs.Signs.{Sign, sign_of, is_negative, signed_by, below, differ, xor_negative, quotient_is, remainder_is, signed_quotient, signed_remainder}

-- ---- the parts of the words

divu_dividing : Decodes (drop 0 divu_words) dividing
unfolding decoded form_of system three_register long_immediate compare subtract_immediate extract deposit branch_external branch memory
divu_dividing = (refl, (refl, (refl, (refl, (refl, (refl, (refl, (refl, (refl, (refl, (refl, (refl, (refl, (refl, (refl, (refl, (refl, (refl, (refl, (refl, (refl, (refl, (refl, (refl, (refl, (refl, (refl, (refl, (refl, (refl, (refl, (refl, (refl, tt)))))))))))))))))))))))))))))))))

divu_back : Decodes (drop 33 divu_words) back
unfolding decoded form_of system three_register long_immediate compare subtract_immediate extract deposit branch_external branch memory
divu_back = (refl, tt)

remu_dividing : Decodes (drop 0 remu_words) dividing
unfolding decoded form_of system three_register long_immediate compare subtract_immediate extract deposit branch_external branch memory
remu_dividing = (refl, (refl, (refl, (refl, (refl, (refl, (refl, (refl, (refl, (refl, (refl, (refl, (refl, (refl, (refl, (refl, (refl, (refl, (refl, (refl, (refl, (refl, (refl, (refl, (refl, (refl, (refl, (refl, (refl, (refl, (refl, (refl, (refl, tt)))))))))))))))))))))))))))))))))

remu_remainder_back : Decodes (drop 33 remu_words) remainder_back
unfolding decoded form_of system three_register long_immediate compare subtract_immediate extract deposit branch_external branch memory
remu_remainder_back = (refl, (refl, tt))

divs_sign_of_quotient : Decodes (drop 0 divs_words) sign_of_quotient
unfolding decoded form_of system three_register long_immediate compare subtract_immediate extract deposit branch_external branch memory
divs_sign_of_quotient = (refl, tt)

divs_absolutes : Decodes (drop 1 divs_words) absolutes
unfolding decoded form_of system three_register long_immediate compare subtract_immediate extract deposit branch_external branch memory
divs_absolutes = (refl, (refl, (refl, (refl, tt))))

divs_dividing : Decodes (drop 5 divs_words) dividing
unfolding decoded form_of system three_register long_immediate compare subtract_immediate extract deposit branch_external branch memory
divs_dividing = (refl, (refl, (refl, (refl, (refl, (refl, (refl, (refl, (refl, (refl, (refl, (refl, (refl, (refl, (refl, (refl, (refl, (refl, (refl, (refl, (refl, (refl, (refl, (refl, (refl, (refl, (refl, (refl, (refl, (refl, (refl, (refl, (refl, tt)))))))))))))))))))))))))))))))))

divs_signed_back : Decodes (drop 38 divs_words) signed_back
unfolding decoded form_of system three_register long_immediate compare subtract_immediate extract deposit branch_external branch memory
divs_signed_back = (refl, (refl, (refl, tt)))

rems_sign_of_remainder : Decodes (drop 0 rems_words) sign_of_remainder
unfolding decoded form_of system three_register long_immediate compare subtract_immediate extract deposit branch_external branch memory
rems_sign_of_remainder = (refl, tt)

rems_absolutes : Decodes (drop 1 rems_words) absolutes
unfolding decoded form_of system three_register long_immediate compare subtract_immediate extract deposit branch_external branch memory
rems_absolutes = (refl, (refl, (refl, (refl, tt))))

rems_dividing : Decodes (drop 5 rems_words) dividing
unfolding decoded form_of system three_register long_immediate compare subtract_immediate extract deposit branch_external branch memory
rems_dividing = (refl, (refl, (refl, (refl, (refl, (refl, (refl, (refl, (refl, (refl, (refl, (refl, (refl, (refl, (refl, (refl, (refl, (refl, (refl, (refl, (refl, (refl, (refl, (refl, (refl, (refl, (refl, (refl, (refl, (refl, (refl, (refl, (refl, tt)))))))))))))))))))))))))))))))))

rems_signed_remainder_back : Decodes (drop 38 rems_words) signed_remainder_back
unfolding decoded form_of system three_register long_immediate compare subtract_immediate extract deposit branch_external branch memory
rems_signed_remainder_back = (refl, (refl, (refl, (refl, tt))))

-- ---- the unsigned divisions

pub divu_computes : (address : ℕ) (s : State) → Enters divu_words address s → Computes divu_words address s 512 (IsQuotient s)
divu_computes a s h =
    let top = a + 4 * length divu_words in
    let f = slice_index s.core.registers in
    let st = part_lies divu_words dividing a 0 s h divu_dividing (omega arith) in
    let stb = part_lies divu_words back a 33 s h divu_back (omega arith) in
    let div = divides f (h.registers.words 26) (h.registers.words 25) in
    let soon : div.steps ≤ 171 = div.soon in
    let r = on top s a 0 33 33 (0 + div.steps) div.last refl (comes top s (a + 4 * 0) 0 171 33 dividing (at 0 f) (Ready (f 26) (f 25) (f 28)) st (enters_part top divu_words a s h) div) in
    computes divu_words a s (a + 4 * 33) (0 + div.steps) 0 512 back div.last (IsQuotient s) stb r h.front (omega arith) refl (omega arith)
    (λ some. let d = div.holds.divided some in sym (quotient_is (div.last 29) (f 25) (div.last 26) (f 26) d.whole d.below))

pub remu_computes : (address : ℕ) (s : State) → Enters remu_words address s → Computes remu_words address s 512 (IsRemainder s)
remu_computes a s h =
    let top = a + 4 * length remu_words in
    let f = slice_index s.core.registers in
    let st = part_lies remu_words dividing a 0 s h remu_dividing (omega arith) in
    let stb = part_lies remu_words remainder_back a 33 s h remu_remainder_back (omega arith) in
    let div = divides f (h.registers.words 26) (h.registers.words 25) in
    let soon : div.steps ≤ 171 = div.soon in
    let r = on top s a 0 33 33 (0 + div.steps) div.last refl (comes top s (a + 4 * 0) 0 171 33 dividing (at 0 f) (Ready (f 26) (f 25) (f 28)) st (enters_part top remu_words a s h) div) in
    let last = moves_back div.last in
    let r2 = reaches top 1 s (a + 4 * 33) remainder_back stb (0 + div.steps) (at 0 div.last) (at 1 last.0) r last.1 in
    let same : last.0 29 ≡ div.last 26 = last.2 ∙ or_zero_r (div.last 26) in
    computes remu_words a s (a + 4 * 33) (0 + div.steps + 1) 1 512 remainder_back last.0 (IsRemainder s) stb r2 h.front (omega arith) refl (omega arith)
    (λ some. let d = div.holds.divided some in same ∙ sym (remainder_is (div.last 29) (f 25) (div.last 26) (f 26) d.whole d.below))

-- ---- the signed divisions

absolute_word : (x : ℕ) (z : ℤ) → Sign x z → (n : ℕ) → n ≡ signed_by (below z) x → n ≡ unsigned_abs z
absolute_word x z sx n e = e ∙ sx.absolute

whole_of : (q r n n' d d' : ℕ) → n ≡ n' → d ≡ d' → q * d + r ≡ n → q * d' + r ≡ n'
whole_of q r n n' d d' e h k = subst (λ (x : ℕ). q * x + r ≡ n') h (k ∙ e)

below_of : (r d d' : ℕ) → d ≡ d' → r < d → r < d'
below_of r d d' e lt = omega arith

some_of : (y n : ℕ) (w : ℤ) → Sign y w → n ≡ unsigned_abs w → y ≢ 0 → n ≢ 0
some_of y n (pos k) sy e some = λ z. let same : y ≡ k = sy.absolute in some (omega arith)
some_of y n (negsuc k) sy e some = λ z. omega arith

pub divs_computes : (address : ℕ) (s : State) → Enters divs_words address s → Computes divs_words address s 512 (IsSignedQuotient s)
divs_computes a s h =
    let top = a + 4 * length divs_words in
    let f = slice_index s.core.registers in
    let x = sign_of (f 26) (h.registers.words 26) in
    let y = sign_of (f 25) (h.registers.words 25) in
    let st1 = part_lies divs_words sign_of_quotient a 0 s h divs_sign_of_quotient (omega arith) in
    let st2 = part_lies divs_words absolutes a 1 s h divs_absolutes (omega arith) in
    let st3 = part_lies divs_words dividing a 5 s h divs_dividing (omega arith) in
    let st4 = part_lies divs_words signed_back a 38 s h divs_signed_back (omega arith) in
    let one = signs_quotient f in
    let r1 = on top s a 0 1 1 (0 + 1) one.0 refl (reaches top 1 s (a + 4 * 0) sign_of_quotient st1 0 (at 0 f) (at 1 one.0) (enters_part top divs_words a s h) one.1) in
    let two = takes_absolutes one.0 (below x.0) (below y.0) (ap is_negative one.2 ∙ x.1.negative) (ap is_negative one.3 ∙ y.1.negative) in
    let r2 = on top s a 1 4 5 (0 + 1 + 4) two.0 refl (reaches top 4 s (a + 4 * 1) absolutes st2 (0 + 1) (at 0 one.0) (at 4 two.0) r1 two.1) in
    let n : two.0 26 ≡ unsigned_abs x.0 = two.2 ∙ ap (signed_by (below x.0)) one.2 ∙ x.1.absolute in
    let d : two.0 25 ≡ unsigned_abs y.0 = two.3 ∙ ap (signed_by (below y.0)) one.3 ∙ y.1.absolute in
    let div = divides two.0 (r2.holds.in_range 26) (r2.holds.in_range 25) in
    let soon : div.steps ≤ 171 = div.soon in
    let r3 = on top s a 5 33 38 (0 + 1 + 4 + div.steps) div.last refl (comes top s (a + 4 * 5) (0 + 1 + 4) 171 33 dividing (at 0 two.0) (Ready (two.0 26) (two.0 25) (two.0 28)) st3 r2 div) in
    let sign : is_negative (div.last 28) ≡ differ (below x.0) (below y.0) = ap is_negative (div.holds.kept ∙ two.4 ∙ one.4) ∙ xor_negative (f 26) (f 25) x.0 y.0 x.1 y.1 in
    let last = signs_back div.last (differ (below x.0) (below y.0)) sign in
    let r4 = reaches top 2 s (a + 4 * 38) signed_back st4 (0 + 1 + 4 + div.steps) (at 0 div.last) (at 2 last.0) r3 last.1 in
    computes divs_words a s (a + 4 * 38) (0 + 1 + 4 + div.steps + 2) 2 512 signed_back last.0 (IsSignedQuotient s) st4 r4 h.front (omega arith) refl (omega arith)
    (λ some. let d' = div.holds.divided (some_of (f 25) (two.0 25) y.0 y.1 d some) in last.2 ∙ signed_quotient x.0 y.0 (div.last 29) (div.last 26) (whole_of _ _ _ _ _ _ n d d'.whole) (below_of _ _ _ d d'.below) x.1.small ∙ ap (λ (w : ℤ). cast_unsigned w32 (int_div w y.0)) (sym x.1.reads) ∙ ap (λ (w : ℤ). cast_unsigned w32 (int_div (cast_signed w32 (f 26)) w)) (sym y.1.reads))

pub rems_computes : (address : ℕ) (s : State) → Enters rems_words address s → Computes rems_words address s 512 (IsSignedRemainder s)
rems_computes a s h =
    let top = a + 4 * length rems_words in
    let f = slice_index s.core.registers in
    let x = sign_of (f 26) (h.registers.words 26) in
    let y = sign_of (f 25) (h.registers.words 25) in
    let st1 = part_lies rems_words sign_of_remainder a 0 s h rems_sign_of_remainder (omega arith) in
    let st2 = part_lies rems_words absolutes a 1 s h rems_absolutes (omega arith) in
    let st3 = part_lies rems_words dividing a 5 s h rems_dividing (omega arith) in
    let st4 = part_lies rems_words signed_remainder_back a 38 s h rems_signed_remainder_back (omega arith) in
    let one = signs_remainder f in
    let r1 = on top s a 0 1 1 (0 + 1) one.0 refl (reaches top 1 s (a + 4 * 0) sign_of_remainder st1 0 (at 0 f) (at 1 one.0) (enters_part top rems_words a s h) one.1) in
    let two = takes_absolutes one.0 (below x.0) (below y.0) (ap is_negative one.2 ∙ x.1.negative) (ap is_negative one.3 ∙ y.1.negative) in
    let r2 = on top s a 1 4 5 (0 + 1 + 4) two.0 refl (reaches top 4 s (a + 4 * 1) absolutes st2 (0 + 1) (at 0 one.0) (at 4 two.0) r1 two.1) in
    let n : two.0 26 ≡ unsigned_abs x.0 = two.2 ∙ ap (signed_by (below x.0)) one.2 ∙ x.1.absolute in
    let d : two.0 25 ≡ unsigned_abs y.0 = two.3 ∙ ap (signed_by (below y.0)) one.3 ∙ y.1.absolute in
    let div = divides two.0 (r2.holds.in_range 26) (r2.holds.in_range 25) in
    let soon : div.steps ≤ 171 = div.soon in
    let r3 = on top s a 5 33 38 (0 + 1 + 4 + div.steps) div.last refl (comes top s (a + 4 * 5) (0 + 1 + 4) 171 33 dividing (at 0 two.0) (Ready (two.0 26) (two.0 25) (two.0 28)) st3 r2 div) in
    let sign : is_negative (div.last 28) ≡ below x.0 = ap is_negative (div.holds.kept ∙ two.4 ∙ one.4 ∙ or_zero_r (f 26)) ∙ x.1.negative in
    let last = signs_remainder_back div.last (below x.0) sign in
    let r4 = reaches top 3 s (a + 4 * 38) signed_remainder_back st4 (0 + 1 + 4 + div.steps) (at 0 div.last) (at 3 last.0) r3 last.1 in
    computes rems_words a s (a + 4 * 38) (0 + 1 + 4 + div.steps + 3) 3 512 signed_remainder_back last.0 (IsSignedRemainder s) st4 r4 h.front (omega arith) refl (omega arith)
    (λ some. let d' = div.holds.divided (some_of (f 25) (two.0 25) y.0 y.1 d some) in last.2 ∙ signed_remainder x.0 y.0 (div.last 29) (div.last 26) (whole_of _ _ _ _ _ _ n d d'.whole) (below_of _ _ _ d d'.below) x.1.small ∙ ap (λ (w : ℤ). cast_unsigned w32 (int_rem w y.0)) (sym x.1.reads) ∙ ap (λ (w : ℤ). cast_unsigned w32 (int_rem (cast_signed w32 (f 26)) w)) (sym y.1.reads))
