-- The instruction of an instruction's word is that instruction: the fields of the table's words, read again.
use Rattle.std.proofs.Common.{ℕ, ℤ, Bool, true, false, Some, ◌≡◌, ◌+◌, ◌-◌, ◌*◌, ◌^◌, ◌<◌, ◌≤◌, ◌==◌, ◌∙◌, refl, ap, arith, if◌then◌else◌}
use Rattle.std.proofs.lemmas.Bool.{lt-ltb, le-leb}
use Rattle.pw_inst.specs.Fields.{bits, field, at, bit, twos_complement, signed, low_sign, IsSigned}
use Rattle.pw_inst.specs.declared.Inst.{Inst}
use Rattle.pw_inst.specs.declared.Inst.TheVariants.{Ldb, Ldh, Ldw, Ldo, Stb, Sth, Stw, Ldil, And, Or, Xor, Sub, Addl, Vshd, Mtctl, Comclr, Subi, Extru, Extrs, Zdep, Combt, Combf, Bl, Bv, Ble, Break}
use Rattle.pw_inst.specs.InstructionTable.{memory_word, three_register_word, extract_word, deposit_word, long_immediate_word, compare_word, branch_word, word_of, IsInRange, memory, memory_form, decoded, form_of, system, three_register, logical, long_immediate, compare, subtract_immediate, extract, deposit, branch_external, branch}
use Rattle.pw_inst.proofs.Signs.{twos_complement-fits, signed-twos_complement, low_signed-low_sign_14, low_sign-fits_14, low_signed-low_sign_11, low_sign-fits_11}

by_opcode : (word op : ℕ) → field 0 6 word ≡ op → decoded word ≡ form_of op word
unfolding decoded
by_opcode word op e = ap (λ k. form_of k word) e

-- ---- loads, stores and LDO

memory-again : (op b r : ℕ) (im : ℤ) → op < 64 → b < 32 → r < 32 → IsSigned 14 im
    → memory op (memory_word op b r im) ≡ memory_form op im b r
unfolding memory
memory-again op b r im small base other fits =
    let v = low_sign 14 im in
    let w = at 0 6 op + at 6 5 b + at 11 5 r + at 18 14 v in
    let below : v < 2 ^ 14 = low_sign-fits_14 im fits in
    let zeros : field 16 2 w ≡ 0 = omega arith in
    let value : field 18 14 w ≡ v = omega arith in
    let at_base : field 6 5 w ≡ b = omega arith in
    let at_other : field 11 5 w ≡ r = omega arith in
    rw (zeros, value, at_base, at_other, low_signed-low_sign_14 im fits)

memory-opcode : (op b r : ℕ) (im : ℤ) → op < 64 → b < 32 → r < 32 → IsSigned 14 im → field 0 6 (memory_word op b r im) ≡ op
memory-opcode op b r im small base other fits =
    let v = low_sign 14 im in
    let below : v < 2 ^ 14 = low_sign-fits_14 im fits in
    omega arith

-- the opcode's row is the loads', stores' and LDO's
memory-decoded : (op b r : ℕ) (im : ℤ) → op < 64 → b < 32 → r < 32 → IsSigned 14 im → form_of op (memory_word op b r im) ≡ memory op (memory_word op b r im)
    → decoded (memory_word op b r im) ≡ memory_form op im b r
memory-decoded op b r im small base other fits row =
    by_opcode (memory_word op b r im) op (memory-opcode op b r im small base other fits) ∙ row ∙ memory-again op b r im small base other fits

-- ---- opcode 02

logical-again : (ext r1 r2 t : ℕ) → ext < 128 → r1 < 32 → r2 < 32 → t < 32 → (ext == 0x44) ≡ false
    → decoded (three_register_word ext 0 false r1 r2 t) ≡ logical ext r1 r2 t
unfolding form_of three_register
logical-again ext r1 r2 t small first second target other =
    let w = three_register_word ext 0 false r1 r2 t in
    let opcode : field 0 6 w ≡ 0x02 = omega arith in
    let extension : field 20 7 w ≡ ext = omega arith in
    let zeros : field 16 4 w ≡ 0 = omega arith in
    let at_first : field 11 5 w ≡ r1 = omega arith in
    let at_second : field 6 5 w ≡ r2 = omega arith in
    let at_target : field 27 5 w ≡ t = omega arith in
    by_opcode w 0x02 opcode ∙ rw (extension, other, zeros, at_first, at_second, at_target)

comclr-again : (c : ℕ) (f : Bool) (r1 r2 t : ℕ) → c < 6 → r1 < 32 → r2 < 32 → t < 32
    → decoded (three_register_word 0x44 c f r1 r2 t) ≡ Some (Comclr c f r1 r2 t)
unfolding form_of three_register
comclr-again c true r1 r2 t condition first second target =
    let w = three_register_word 0x44 c true r1 r2 t in
    let opcode : field 0 6 w ≡ 0x02 = omega arith in
    let extension : field 20 7 w ≡ 0x44 = omega arith in
    let at_condition : field 16 3 w ≡ c = omega arith in
    let negated : field 19 1 w ≡ 1 = omega arith in
    let at_first : field 11 5 w ≡ r1 = omega arith in
    let at_second : field 6 5 w ≡ r2 = omega arith in
    let at_target : field 27 5 w ≡ t = omega arith in
    by_opcode w 0x02 opcode ∙ rw (extension, at_condition, lt-ltb c 6 condition, negated, at_first, at_second, at_target)
comclr-again c false r1 r2 t condition first second target =
    let w = three_register_word 0x44 c false r1 r2 t in
    let opcode : field 0 6 w ≡ 0x02 = omega arith in
    let extension : field 20 7 w ≡ 0x44 = omega arith in
    let at_condition : field 16 3 w ≡ c = omega arith in
    let negated : field 19 1 w ≡ 0 = omega arith in
    let at_first : field 11 5 w ≡ r1 = omega arith in
    let at_second : field 6 5 w ≡ r2 = omega arith in
    let at_target : field 27 5 w ≡ t = omega arith in
    by_opcode w 0x02 opcode ∙ rw (extension, at_condition, lt-ltb c 6 condition, negated, at_first, at_second, at_target)

-- ---- opcode 08

ldil-again : (im t : ℕ) → im < 2 ^ 21 → t < 32 → decoded (long_immediate_word im t) ≡ Some (Ldil im t)
unfolding form_of long_immediate
ldil-again im t fits target =
    let w = long_immediate_word im t in
    let opcode : field 0 6 w ≡ 0x08 = omega arith in
    let at_target : field 6 5 w ≡ t = omega arith in
    let value : field 31 1 w * 2 ^ 20 + field 20 11 w * 2 ^ 9 + field 16 2 w * 2 ^ 7 + field 11 5 w * 2 ^ 2 + field 18 2 w ≡ im = omega arith in
    by_opcode w 0x08 opcode ∙ rw (value, at_target)

-- ---- compare and branch

compared-again : (op c r1 r2 v : ℕ) → op < 64 → c < 6 → r1 < 32 → r2 < 32 → v < 2 ^ 12
    → compare op (at 0 6 op + at 6 5 r2 + at 11 5 r1 + at 16 3 c + at 19 10 (bits 0 10 v) + at 29 1 (bits 10 1 v) + at 31 1 (bits 11 1 v))
    ≡ Some (if op == 0x20 then Combt c r1 r2 (signed 12 v) else Combf c r1 r2 (signed 12 v))
unfolding compare
compared-again op c r1 r2 v small condition first second fits =
    let w = at 0 6 op + at 6 5 r2 + at 11 5 r1 + at 16 3 c + at 19 10 (bits 0 10 v) + at 29 1 (bits 10 1 v) + at 31 1 (bits 11 1 v) in
    let at_condition : field 16 3 w ≡ c = omega arith in
    let zero_bit : field 30 1 w ≡ 0 = omega arith in
    let at_first : field 11 5 w ≡ r1 = omega arith in
    let at_second : field 6 5 w ≡ r2 = omega arith in
    let value : field 31 1 w * 2 ^ 11 + field 29 1 w * 2 ^ 10 + field 19 10 w ≡ v = omega arith in
    rw (value, zero_bit, at_condition, lt-ltb c 6 condition, at_first, at_second)

compared-opcode : (op c r1 r2 v : ℕ) → op < 64 → c < 6 → r1 < 32 → r2 < 32 → v < 2 ^ 12
    → field 0 6 (at 0 6 op + at 6 5 r2 + at 11 5 r1 + at 16 3 c + at 19 10 (bits 0 10 v) + at 29 1 (bits 10 1 v) + at 31 1 (bits 11 1 v)) ≡ op
compared-opcode op c r1 r2 v small condition first second fits = omega arith

compare-decoded : (op c r1 r2 : ℕ) (disp : ℤ) → op < 64 → c < 6 → r1 < 32 → r2 < 32 → IsSigned 12 disp
    → form_of op (compare_word op c r1 r2 disp) ≡ compare op (compare_word op c r1 r2 disp)
    → decoded (compare_word op c r1 r2 disp) ≡ Some (if op == 0x20 then Combt c r1 r2 disp else Combf c r1 r2 disp)
compare-decoded op c r1 r2 disp small condition first second fits row =
    let v = twos_complement 12 disp in
    let below : v < 2 ^ 12 = twos_complement-fits 12 disp (omega arith) fits in
    by_opcode (compare_word op c r1 r2 disp) op (compared-opcode op c r1 r2 v small condition first second below)
    ∙ row
    ∙ compared-again op c r1 r2 v small condition first second below
    ∙ ap (λ d. Some (if op == 0x20 then Combt c r1 r2 d else Combf c r1 r2 d)) (signed-twos_complement 12 disp (omega arith) fits)

-- ---- opcode 25

subi-again : (im : ℤ) (r t : ℕ) → IsSigned 11 im → r < 32 → t < 32
    → decoded (at 0 6 0x25 + at 6 5 r + at 11 5 t + at 21 11 (low_sign 11 im)) ≡ Some (Subi im r t)
unfolding form_of subtract_immediate
subi-again im r t fits source target =
    let v = low_sign 11 im in
    let w = at 0 6 0x25 + at 6 5 r + at 11 5 t + at 21 11 v in
    let below : v < 2 ^ 11 = low_sign-fits_11 im fits in
    let opcode : field 0 6 w ≡ 0x25 = omega arith in
    let zeros : field 16 5 w ≡ 0 = omega arith in
    let value : field 21 11 w ≡ v = omega arith in
    let at_source : field 6 5 w ≡ r = omega arith in
    let at_target : field 11 5 w ≡ t = omega arith in
    by_opcode w 0x25 opcode ∙ rw (zeros, value, at_source, at_target, low_signed-low_sign_11 im fits)

-- ---- opcode 34

vshd-again : (r1 r2 t : ℕ) → r1 < 32 → r2 < 32 → t < 32 → decoded (at 0 6 0x34 + at 6 5 r2 + at 11 5 r1 + at 27 5 t) ≡ Some (Vshd r1 r2 t)
unfolding form_of extract
vshd-again r1 r2 t first second target =
    let w = at 0 6 0x34 + at 6 5 r2 + at 11 5 r1 + at 27 5 t in
    let opcode : field 0 6 w ≡ 0x34 = omega arith in
    let extension : field 16 6 w ≡ 0 = omega arith in
    let zeros : field 22 5 w ≡ 0 = omega arith in
    let at_first : field 11 5 w ≡ r1 = omega arith in
    let at_second : field 6 5 w ≡ r2 = omega arith in
    let at_target : field 27 5 w ≡ t = omega arith in
    by_opcode w 0x34 opcode ∙ rw (extension, zeros, at_first, at_second, at_target)

extru-again : (r p len t : ℕ) → p < 32 → 1 ≤ len → len ≤ p + 1 → r < 32 → t < 32
    → decoded (extract_word 6 r p len t) ≡ Some (Extru r p len t)
unfolding form_of extract
extru-again r p len t last some fits source target =
    let w = extract_word 6 r p len t in
    let opcode : field 0 6 w ≡ 0x34 = omega arith in
    let extension : field 16 6 w ≡ 6 = omega arith in
    let at_last : field 22 5 w ≡ p = omega arith in
    let at_length : 32 - field 27 5 w ≡ len = omega arith in
    let at_source : field 6 5 w ≡ r = omega arith in
    let at_target : field 11 5 w ≡ t = omega arith in
    by_opcode w 0x34 opcode ∙ rw (extension, at_length, at_last, le-leb len (p + 1) fits, at_source, at_target)

extrs-again : (r p len t : ℕ) → p < 32 → 1 ≤ len → len ≤ p + 1 → r < 32 → t < 32
    → decoded (extract_word 7 r p len t) ≡ Some (Extrs r p len t)
unfolding form_of extract
extrs-again r p len t last some fits source target =
    let w = extract_word 7 r p len t in
    let opcode : field 0 6 w ≡ 0x34 = omega arith in
    let extension : field 16 6 w ≡ 7 = omega arith in
    let at_last : field 22 5 w ≡ p = omega arith in
    let at_length : 32 - field 27 5 w ≡ len = omega arith in
    let at_source : field 6 5 w ≡ r = omega arith in
    let at_target : field 11 5 w ≡ t = omega arith in
    by_opcode w 0x34 opcode ∙ rw (extension, at_length, at_last, le-leb len (p + 1) fits, at_source, at_target)

-- ---- opcode 35

zdep-again : (r p len t : ℕ) → p < 32 → 1 ≤ len → len ≤ p + 1 → r < 32 → t < 32
    → decoded (deposit_word r p len t) ≡ Some (Zdep r p len t)
unfolding form_of deposit
zdep-again r p len t last some fits source target =
    let w = deposit_word r p len t in
    let opcode : field 0 6 w ≡ 0x35 = omega arith in
    let extension : field 16 6 w ≡ 2 = omega arith in
    let at_last : 31 - field 22 5 w ≡ p = omega arith in
    let at_length : 32 - field 27 5 w ≡ len = omega arith in
    let at_source : field 11 5 w ≡ r = omega arith in
    let at_target : field 6 5 w ≡ t = omega arith in
    by_opcode w 0x35 opcode ∙ rw (extension, at_length, at_last, le-leb len (p + 1) fits, at_source, at_target)

-- ---- the branches

branched-again : (v t : ℕ) (n : Bool) → v < 2 ^ 17 → t < 32
    → decoded (at 0 6 0x3A + at 6 5 t + at 11 5 (bits 11 5 v) + at 19 10 (bits 0 10 v) + at 29 1 (bits 10 1 v) + at 30 1 (bit n) + at 31 1 (bits 16 1 v))
    ≡ Some (Bl (signed 17 v) t n)
unfolding form_of branch
branched-again v t true fits target =
    let w = at 0 6 0x3A + at 6 5 t + at 11 5 (bits 11 5 v) + at 19 10 (bits 0 10 v) + at 29 1 (bits 10 1 v) + at 30 1 1 + at 31 1 (bits 16 1 v) in
    let opcode : field 0 6 w ≡ 0x3A = omega arith in
    let zeros : field 16 3 w ≡ 0 = omega arith in
    let value : field 31 1 w * 2 ^ 16 + field 11 5 w * 2 ^ 11 + field 29 1 w * 2 ^ 10 + field 19 10 w ≡ v = omega arith in
    let nullify : field 30 1 w ≡ 1 = omega arith in
    let at_target : field 6 5 w ≡ t = omega arith in
    by_opcode w 0x3A opcode ∙ rw (zeros, value, nullify, at_target)
branched-again v t false fits target =
    let w = at 0 6 0x3A + at 6 5 t + at 11 5 (bits 11 5 v) + at 19 10 (bits 0 10 v) + at 29 1 (bits 10 1 v) + at 30 1 0 + at 31 1 (bits 16 1 v) in
    let opcode : field 0 6 w ≡ 0x3A = omega arith in
    let zeros : field 16 3 w ≡ 0 = omega arith in
    let value : field 31 1 w * 2 ^ 16 + field 11 5 w * 2 ^ 11 + field 29 1 w * 2 ^ 10 + field 19 10 w ≡ v = omega arith in
    let nullify : field 30 1 w ≡ 0 = omega arith in
    let at_target : field 6 5 w ≡ t = omega arith in
    by_opcode w 0x3A opcode ∙ rw (zeros, value, nullify, at_target)

bl-again : (disp : ℤ) (t : ℕ) (n : Bool) → IsSigned 17 disp → t < 32 → decoded (branch_word disp t n) ≡ Some (Bl disp t n)
bl-again disp t n fits target =
    branched-again (twos_complement 17 disp) t n (twos_complement-fits 17 disp (omega arith) fits) target
    ∙ ap (λ d. Some (Bl d t n)) (signed-twos_complement 17 disp (omega arith) fits)

bv-again : (b : ℕ) (n : Bool) → b < 32 → decoded (at 0 6 0x3A + at 6 5 b + at 16 3 6 + at 30 1 (bit n)) ≡ Some (Bv b n)
unfolding form_of branch
bv-again b true base =
    let w = at 0 6 0x3A + at 6 5 b + at 16 3 6 + at 30 1 1 in
    let opcode : field 0 6 w ≡ 0x3A = omega arith in
    let kind : field 16 3 w ≡ 6 = omega arith in
    let index : field 11 8 w ≡ 6 = omega arith in
    let zeros : field 19 11 w ≡ 0 = omega arith in
    let last : field 31 1 w ≡ 0 = omega arith in
    let nullify : field 30 1 w ≡ 1 = omega arith in
    let at_base : field 6 5 w ≡ b = omega arith in
    by_opcode w 0x3A opcode ∙ rw (kind, index, zeros, last, nullify, at_base)
bv-again b false base =
    let w = at 0 6 0x3A + at 6 5 b + at 16 3 6 + at 30 1 0 in
    let opcode : field 0 6 w ≡ 0x3A = omega arith in
    let kind : field 16 3 w ≡ 6 = omega arith in
    let index : field 11 8 w ≡ 6 = omega arith in
    let zeros : field 19 11 w ≡ 0 = omega arith in
    let last : field 31 1 w ≡ 0 = omega arith in
    let nullify : field 30 1 w ≡ 0 = omega arith in
    let at_base : field 6 5 w ≡ b = omega arith in
    by_opcode w 0x3A opcode ∙ rw (kind, index, zeros, last, nullify, at_base)

ble-again : (b : ℕ) (n : Bool) → b < 32 → decoded (at 0 6 0x39 + at 6 5 b + at 16 3 1 + at 30 1 (bit n)) ≡ Some (Ble b n)
unfolding form_of branch_external
ble-again b true base =
    let w = at 0 6 0x39 + at 6 5 b + at 16 3 1 + at 30 1 1 in
    let opcode : field 0 6 w ≡ 0x39 = omega arith in
    let kind : field 11 8 w ≡ 1 = omega arith in
    let zeros : field 19 11 w ≡ 0 = omega arith in
    let last : field 31 1 w ≡ 0 = omega arith in
    let nullify : field 30 1 w ≡ 1 = omega arith in
    let at_base : field 6 5 w ≡ b = omega arith in
    by_opcode w 0x39 opcode ∙ rw (kind, zeros, last, nullify, at_base)
ble-again b false base =
    let w = at 0 6 0x39 + at 6 5 b + at 16 3 1 + at 30 1 0 in
    let opcode : field 0 6 w ≡ 0x39 = omega arith in
    let kind : field 11 8 w ≡ 1 = omega arith in
    let zeros : field 19 11 w ≡ 0 = omega arith in
    let last : field 31 1 w ≡ 0 = omega arith in
    let nullify : field 30 1 w ≡ 0 = omega arith in
    let at_base : field 6 5 w ≡ b = omega arith in
    by_opcode w 0x39 opcode ∙ rw (kind, zeros, last, nullify, at_base)

-- ---- opcode 00

break-again : (im5 im13 : ℕ) → im5 < 2 ^ 5 → im13 < 2 ^ 13 → decoded (at 6 13 im13 + at 27 5 im5) ≡ Some (Break im5 im13)
unfolding form_of system
break-again im5 im13 small large =
    let w = at 6 13 im13 + at 27 5 im5 in
    let opcode : field 0 6 w ≡ 0x00 = omega arith in
    let zeros : field 19 8 w ≡ 0 = omega arith in
    let at_small : field 27 5 w ≡ im5 = omega arith in
    let at_large : field 6 13 w ≡ im13 = omega arith in
    by_opcode w 0x00 opcode ∙ rw (zeros, at_small, at_large)

mtctl-again : (r : ℕ) → r < 32 → decoded (at 6 5 11 + at 11 5 r + at 16 16 0x1840) ≡ Some (Mtctl r)
unfolding form_of system
mtctl-again r source =
    let w = at 6 5 11 + at 11 5 r + at 16 16 0x1840 in
    let opcode : field 0 6 w ≡ 0x00 = omega arith in
    let extension : field 19 8 w ≡ 0xC2 = omega arith in
    let control : field 6 5 w ≡ 11 = omega arith in
    let rest : field 16 16 w ≡ 0x1840 = omega arith in
    let at_source : field 11 5 w ≡ r = omega arith in
    by_opcode w 0x00 opcode ∙ rw (extension, control, rest, at_source)

-- ---- all of them

-- an instruction's word is of that instruction
pub decoded-word_of : (inst : Inst) → IsInRange inst → decoded (word_of inst) ≡ Some inst
unfolding word_of IsInRange form_of
decoded-word_of (Ldb im b t) h = memory-decoded 0x10 b t im (omega arith) h.1 h.2 h.0 refl
decoded-word_of (Ldh im b t) h = memory-decoded 0x11 b t im (omega arith) h.1 h.2 h.0 refl
decoded-word_of (Ldw im b t) h = memory-decoded 0x12 b t im (omega arith) h.1 h.2 h.0 refl
decoded-word_of (Ldo im b t) h = memory-decoded 0x0D b t im (omega arith) h.1 h.2 h.0 refl
decoded-word_of (Stb r im b) h = memory-decoded 0x18 b r im (omega arith) h.1 h.2 h.0 refl
decoded-word_of (Sth r im b) h = memory-decoded 0x19 b r im (omega arith) h.1 h.2 h.0 refl
decoded-word_of (Stw r im b) h = memory-decoded 0x1A b r im (omega arith) h.1 h.2 h.0 refl
decoded-word_of (Ldil im t) h = ldil-again im t h.0 h.1
decoded-word_of (And r1 r2 t) h = logical-again 0x10 r1 r2 t (omega arith) h.0 h.1 h.2 refl
decoded-word_of (Or r1 r2 t) h = logical-again 0x12 r1 r2 t (omega arith) h.0 h.1 h.2 refl
decoded-word_of (Xor r1 r2 t) h = logical-again 0x14 r1 r2 t (omega arith) h.0 h.1 h.2 refl
decoded-word_of (Sub r1 r2 t) h = logical-again 0x20 r1 r2 t (omega arith) h.0 h.1 h.2 refl
decoded-word_of (Addl r1 r2 t) h = logical-again 0x50 r1 r2 t (omega arith) h.0 h.1 h.2 refl
decoded-word_of (Vshd r1 r2 t) h = vshd-again r1 r2 t h.0 h.1 h.2
decoded-word_of (Mtctl r) h = mtctl-again r h
decoded-word_of (Comclr c f r1 r2 t) h = comclr-again c f r1 r2 t h.0 h.1 h.2 h.3
decoded-word_of (Subi im r t) h = subi-again im r t h.0 h.1 h.2
decoded-word_of (Extru r p len t) h = extru-again r p len t h.0.0 h.0.1 h.0.2 h.1 h.2
decoded-word_of (Extrs r p len t) h = extrs-again r p len t h.0.0 h.0.1 h.0.2 h.1 h.2
decoded-word_of (Zdep r p len t) h = zdep-again r p len t h.0.0 h.0.1 h.0.2 h.1 h.2
decoded-word_of (Combt c r1 r2 disp) h = compare-decoded 0x20 c r1 r2 disp (omega arith) h.0 h.1 h.2 h.3 refl
decoded-word_of (Combf c r1 r2 disp) h = compare-decoded 0x22 c r1 r2 disp (omega arith) h.0 h.1 h.2 h.3 refl
decoded-word_of (Bl disp t n) h = bl-again disp t n h.0 h.1
decoded-word_of (Bv b n) h = bv-again b n h
decoded-word_of (Ble b n) h = ble-again b n h
decoded-word_of (Break im5 im13) h = break-again im5 im13 h.0 h.1
