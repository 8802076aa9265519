-- The instruction table of the 26 forms (PA-RISC 1.1 Architecture and Instruction Set Reference Manual, the
-- instructions' formats and operation codes). An instruction's word is `word_of`, and what its fields may hold
-- is `IsInRange`. `decoded` finds the instruction of a word; `decode` promises that the two agree.
use Rattle.std.specs.Prelude.{ℕ, ℤ, Bool, true, false, Option, Some, None, ◌≡◌, ◌+◌, ◌-◌, ◌*◌, ◌^◌, ◌<◌, ◌≤◌, ◌==◌, ◌&&◌, nat_lt, nat_le, if◌then◌else◌}
use Rattle.pw_inst.specs.declared.Inst.{Inst}
use Rattle.pw_inst.specs.declared.Inst.TheVariants.{Ldb, Ldh, Ldw, Ldo, Stb, Sth, Stw, Ldil, And, Or, Xor, Sub, Addl, Vshd, Mtctl, Comclr, Subi, Extru, Extrs, Zdep, Combt, Combf, Bl, Bv, Ble, Break}
use Rattle.pw_inst.specs.Fields.{bits, field, at, bit, twos_complement, signed, low_sign, low_signed, IsSigned}

-- ---- the word of an instruction

-- loads, stores and LDO: opcode, base, the other register, two zeros, displacement
abbrev pub memory_word : ℕ → ℕ → ℕ → ℤ → ℕ
memory_word op b r im = at 0 6 op + at 6 5 b + at 11 5 r + at 18 14 (low_sign 14 im)

-- opcode 02: second source, first source, condition, its negation, extension, target
abbrev pub three_register_word : ℕ → ℕ → Bool → ℕ → ℕ → ℕ → ℕ
three_register_word ext c f r1 r2 t =
    at 0 6 0x02 + at 6 5 r2 + at 11 5 r1 + at 16 3 c + at 19 1 (bit f) + at 20 7 ext + at 27 5 t

-- opcode 34: source, target, extension, last bit, 32 less the length
abbrev pub extract_word : ℕ → ℕ → ℕ → ℕ → ℕ → ℕ
extract_word ext r p len t = at 0 6 0x34 + at 6 5 r + at 11 5 t + at 19 3 ext + at 22 5 p + at 27 5 (32 - len)

-- opcode 35: target, source, extension, 31 less the last bit, 32 less the length
abbrev pub deposit_word : ℕ → ℕ → ℕ → ℕ → ℕ
deposit_word r p len t = at 0 6 0x35 + at 6 5 t + at 11 5 r + at 19 3 2 + at 22 5 (31 - p) + at 27 5 (32 - len)

-- opcode 08: target, and the 21 bits of a number in five pieces
abbrev pub long_immediate_word : ℕ → ℕ → ℕ
long_immediate_word im t =
    at 0 6 0x08 + at 6 5 t + at 11 5 (bits 2 5 im) + at 16 2 (bits 7 2 im) + at 18 2 (bits 0 2 im)
    + at 20 11 (bits 9 11 im) + at 31 1 (bits 20 1 im)

-- compare and branch: opcode, second source, first source, condition, and the displacement, whose sign is
-- bit 31, whose next bit is bit 29 and whose other bits are 19 to 28
abbrev pub compare_word : ℕ → ℕ → ℕ → ℕ → ℤ → ℕ
compare_word op c r1 r2 disp =
    let w = twos_complement 12 disp in
    at 0 6 op + at 6 5 r2 + at 11 5 r1 + at 16 3 c
    + at 19 10 (bits 0 10 w) + at 29 1 (bits 10 1 w) + at 31 1 (bits 11 1 w)

-- branch and link: target, and the displacement, whose sign is bit 31, whose next bits are 11 to 15, then
-- bit 29, then 19 to 28; bit 30 nullifies
abbrev pub branch_word : ℤ → ℕ → Bool → ℕ
branch_word disp t n =
    let w = twos_complement 17 disp in
    at 0 6 0x3A + at 6 5 t + at 11 5 (bits 11 5 w)
    + at 19 10 (bits 0 10 w) + at 29 1 (bits 10 1 w) + at 30 1 (bit n) + at 31 1 (bits 16 1 w)

unfoldable pub word_of : Inst → ℕ
word_of (Ldb im b t) = memory_word 0x10 b t im
word_of (Ldh im b t) = memory_word 0x11 b t im
word_of (Ldw im b t) = memory_word 0x12 b t im
word_of (Ldo im b t) = memory_word 0x0D b t im
word_of (Stb r im b) = memory_word 0x18 b r im
word_of (Sth r im b) = memory_word 0x19 b r im
word_of (Stw r im b) = memory_word 0x1A b r im
word_of (Ldil im t) = long_immediate_word im t
word_of (And r1 r2 t) = three_register_word 0x10 0 false r1 r2 t
word_of (Or r1 r2 t) = three_register_word 0x12 0 false r1 r2 t
word_of (Xor r1 r2 t) = three_register_word 0x14 0 false r1 r2 t
word_of (Sub r1 r2 t) = three_register_word 0x20 0 false r1 r2 t
word_of (Addl r1 r2 t) = three_register_word 0x50 0 false r1 r2 t
word_of (Vshd r1 r2 t) = at 0 6 0x34 + at 6 5 r2 + at 11 5 r1 + at 27 5 t
word_of (Mtctl r) = at 6 5 11 + at 11 5 r + at 16 16 0x1840
word_of (Comclr c f r1 r2 t) = three_register_word 0x44 c f r1 r2 t
word_of (Subi im r t) = at 0 6 0x25 + at 6 5 r + at 11 5 t + at 21 11 (low_sign 11 im)
word_of (Extru r p len t) = extract_word 6 r p len t
word_of (Extrs r p len t) = extract_word 7 r p len t
word_of (Zdep r p len t) = deposit_word r p len t
word_of (Combt c r1 r2 disp) = compare_word 0x20 c r1 r2 disp
word_of (Combf c r1 r2 disp) = compare_word 0x22 c r1 r2 disp
word_of (Bl disp t n) = branch_word disp t n
word_of (Bv b n) = at 0 6 0x3A + at 6 5 b + at 16 3 6 + at 30 1 (bit n)
word_of (Ble b n) = at 0 6 0x39 + at 6 5 b + at 16 3 1 + at 30 1 (bit n)
word_of (Break im5 im13) = at 6 13 im13 + at 27 5 im5

-- the instruction that does nothing
abbrev pub nop : Inst
nop = Or 0 0 0

-- ---- what the fields of an instruction may hold

abbrev pub IsRegister : ℕ → Type 0
IsRegister r = r < 32

abbrev pub IsCondition : ℕ → Type 0
IsCondition c = c < 6

-- bits that end at bit p and begin within the word
abbrev pub IsBitField : ℕ → ℕ → Type 0
IsBitField p len = (p < 32) × (1 ≤ len) × (len ≤ p + 1)

unfoldable pub IsInRange : Inst → Type 0
IsInRange (Ldb im b t) = IsSigned 14 im × IsRegister b × IsRegister t
IsInRange (Ldh im b t) = IsSigned 14 im × IsRegister b × IsRegister t
IsInRange (Ldw im b t) = IsSigned 14 im × IsRegister b × IsRegister t
IsInRange (Ldo im b t) = IsSigned 14 im × IsRegister b × IsRegister t
IsInRange (Stb r im b) = IsSigned 14 im × IsRegister b × IsRegister r
IsInRange (Sth r im b) = IsSigned 14 im × IsRegister b × IsRegister r
IsInRange (Stw r im b) = IsSigned 14 im × IsRegister b × IsRegister r
IsInRange (Ldil im t) = (im < 2 ^ 21) × IsRegister t
IsInRange (And r1 r2 t) = IsRegister r1 × IsRegister r2 × IsRegister t
IsInRange (Or r1 r2 t) = IsRegister r1 × IsRegister r2 × IsRegister t
IsInRange (Xor r1 r2 t) = IsRegister r1 × IsRegister r2 × IsRegister t
IsInRange (Sub r1 r2 t) = IsRegister r1 × IsRegister r2 × IsRegister t
IsInRange (Addl r1 r2 t) = IsRegister r1 × IsRegister r2 × IsRegister t
IsInRange (Vshd r1 r2 t) = IsRegister r1 × IsRegister r2 × IsRegister t
IsInRange (Mtctl r) = IsRegister r
IsInRange (Comclr c f r1 r2 t) = IsCondition c × IsRegister r1 × IsRegister r2 × IsRegister t
IsInRange (Subi im r t) = IsSigned 11 im × IsRegister r × IsRegister t
IsInRange (Extru r p len t) = IsBitField p len × IsRegister r × IsRegister t
IsInRange (Extrs r p len t) = IsBitField p len × IsRegister r × IsRegister t
IsInRange (Zdep r p len t) = IsBitField p len × IsRegister r × IsRegister t
IsInRange (Combt c r1 r2 disp) = IsCondition c × IsRegister r1 × IsRegister r2 × IsSigned 12 disp
IsInRange (Combf c r1 r2 disp) = IsCondition c × IsRegister r1 × IsRegister r2 × IsSigned 12 disp
IsInRange (Bl disp t n) = IsSigned 17 disp × IsRegister t
IsInRange (Bv b n) = IsRegister b
IsInRange (Ble b n) = IsRegister b
IsInRange (Break im5 im13) = (im5 < 2 ^ 5) × (im13 < 2 ^ 13)

-- the word is an instruction's, and the instruction's fields are in range
pub record IsWordOf (word : ℕ) (inst : Inst) : Type 0 where
  pub in_range : IsInRange inst
  pub same : word_of inst ≡ word

-- ---- the instruction of a word: by its opcode, then by the fields that tell the forms of one opcode apart

abbrev pub when : Bool → Inst → Option Inst
when true inst = Some inst
when false inst = None

-- opcode 00: BREAK and MTCTL
unfoldable pub system : ℕ → Option Inst
system word =
    if field 19 8 word == 0 then Some (Break (field 27 5 word) (field 6 13 word)) else
    when ((field 6 5 word == 11) && (field 16 16 word == 0x1840)) (Mtctl (field 11 5 word))

-- opcode 02, without condition and negation
abbrev pub logical : ℕ → ℕ → ℕ → ℕ → Option Inst
logical ext r1 r2 t =
    if ext == 0x10 then Some (And r1 r2 t) else
    if ext == 0x12 then Some (Or r1 r2 t) else
    if ext == 0x14 then Some (Xor r1 r2 t) else
    if ext == 0x20 then Some (Sub r1 r2 t) else
    if ext == 0x50 then Some (Addl r1 r2 t) else None

-- opcode 02
unfoldable pub three_register : ℕ → Option Inst
three_register word =
    let ext = field 20 7 word in
    let r1 = field 11 5 word in
    let r2 = field 6 5 word in
    let t = field 27 5 word in
    if ext == 0x44 then when (nat_lt (field 16 3 word) 6) (Comclr (field 16 3 word) (field 19 1 word == 1) r1 r2 t) else
    if field 16 4 word == 0 then logical ext r1 r2 t else None

-- opcode 08
unfoldable pub long_immediate : ℕ → ℕ
long_immediate word =
    field 31 1 word * 2 ^ 20 + field 20 11 word * 2 ^ 9 + field 16 2 word * 2 ^ 7 + field 11 5 word * 2 ^ 2 + field 18 2 word

-- opcodes 20 and 22
unfoldable pub compare : ℕ → ℕ → Option Inst
compare op word =
    let c = field 16 3 word in
    let r1 = field 11 5 word in
    let r2 = field 6 5 word in
    let disp = signed 12 (field 31 1 word * 2 ^ 11 + field 29 1 word * 2 ^ 10 + field 19 10 word) in
    when (nat_lt c 6 && (field 30 1 word == 0)) (if op == 0x20 then Combt c r1 r2 disp else Combf c r1 r2 disp)

-- opcode 25
unfoldable pub subtract_immediate : ℕ → Option Inst
subtract_immediate word =
    when (field 16 5 word == 0) (Subi (low_signed 11 (field 21 11 word)) (field 6 5 word) (field 11 5 word))

-- opcode 34
unfoldable pub extract : ℕ → Option Inst
extract word =
    let ext = field 16 6 word in
    let r = field 6 5 word in
    let p = field 22 5 word in
    let len = 32 - field 27 5 word in
    let t = field 11 5 word in
    if ext == 0 then when (p == 0) (Vshd (field 11 5 word) (field 6 5 word) (field 27 5 word)) else
    if ext == 6 then when (nat_le len (p + 1)) (Extru r p len t) else
    if ext == 7 then when (nat_le len (p + 1)) (Extrs r p len t) else None

-- opcode 35
unfoldable pub deposit : ℕ → Option Inst
deposit word =
    let r = field 11 5 word in
    let p = 31 - field 22 5 word in
    let len = 32 - field 27 5 word in
    let t = field 6 5 word in
    when ((field 16 6 word == 2) && nat_le len (p + 1)) (Zdep r p len t)

-- opcode 39
unfoldable pub branch_external : ℕ → Option Inst
branch_external word =
    when ((field 11 8 word == 1) && (field 19 11 word == 0) && (field 31 1 word == 0)) (Ble (field 6 5 word) (field 30 1 word == 1))

-- opcode 3A
unfoldable pub branch : ℕ → Option Inst
branch word =
    let disp = signed 17 (field 31 1 word * 2 ^ 16 + field 11 5 word * 2 ^ 11 + field 29 1 word * 2 ^ 10 + field 19 10 word) in
    let n = field 30 1 word == 1 in
    if field 16 3 word == 0 then Some (Bl disp (field 6 5 word) n) else
    when ((field 11 8 word == 6) && (field 19 11 word == 0) && (field 31 1 word == 0)) (Bv (field 6 5 word) n)

-- the other opcodes: loads, stores and LDO
abbrev pub memory_form : ℕ → ℤ → ℕ → ℕ → Option Inst
memory_form op im b r =
    if op == 0x0D then Some (Ldo im b r) else
    if op == 0x10 then Some (Ldb im b r) else
    if op == 0x11 then Some (Ldh im b r) else
    if op == 0x12 then Some (Ldw im b r) else
    if op == 0x18 then Some (Stb r im b) else
    if op == 0x19 then Some (Sth r im b) else
    if op == 0x1A then Some (Stw r im b) else None

unfoldable pub memory : ℕ → ℕ → Option Inst
memory op word =
    if field 16 2 word == 0 then memory_form op (low_signed 14 (field 18 14 word)) (field 6 5 word) (field 11 5 word) else None

unfoldable pub form_of : ℕ → ℕ → Option Inst
form_of op word =
    if op == 0x00 then system word else
    if op == 0x02 then three_register word else
    if op == 0x08 then Some (Ldil (long_immediate word) (field 6 5 word)) else
    if op == 0x20 then compare op word else
    if op == 0x22 then compare op word else
    if op == 0x25 then subtract_immediate word else
    if op == 0x34 then extract word else
    if op == 0x35 then deposit word else
    if op == 0x39 then branch_external word else
    if op == 0x3A then branch word else memory op word

unfoldable pub decoded : ℕ → Option Inst
decoded word = form_of (field 0 6 word) word
