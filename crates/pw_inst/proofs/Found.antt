-- A word is the word of the instruction that it is decoded to.
use Rattle.std.proofs.Common.{ℕ, suc, zero, Bool, true, false, Option, IfSome, ◌≡◌, ◌+◌, ◌-◌, ◌*◌, ◌^◌, ◌<◌, ◌≤◌, ◌==◌, ◌&&◌, ◌∙◌, refl, ap, arith, nat_lt, nat_le, if◌then◌else◌}
use Rattle.std.proofs.lemmas.Bool.{ltb-true, leb-true, eqb-true}
use Rattle.pw_inst.specs.Fields.{bits, field, at, bit, signed, low_sign, low_signed, IsSigned}
use Rattle.pw_inst.specs.declared.Inst.{Inst}
use Rattle.pw_inst.specs.declared.Inst.TheVariants.{Ldil}
use Rattle.pw_inst.specs.InstructionTable.{memory_word, three_register_word, extract_word, deposit_word, compare_word, branch_word, word_of, IsInRange, IsWordOf, when, memory, memory_form, decoded, form_of, system, three_register, logical, long_immediate, compare, subtract_immediate, extract, deposit, branch_external, branch}
use Rattle.pw_inst.proofs.Signs.{IsSignOf, signed-is, IsLowSignOf, low_signed-is_14, low_signed-is_11}

-- ---- by cases on a test

if_some : (P : Inst → Type 0) (test : Bool) (a b : Option Inst) → (test ≡ true → IfSome a P) → (test ≡ false → IfSome b P) → IfSome (if test then a else b) P
if_some P true a b at_true at_false = at_true refl
if_some P false a b at_true at_false = at_false refl

when_some : (P : Inst → Type 0) (test : Bool) (inst : Inst) → (test ≡ true → P inst) → IfSome (when test inst) P
when_some P true inst at_true = at_true refl
when_some P false inst at_true = tt

if_each : (P : Inst → Type 0) (test : Bool) (a b : Inst) → (test ≡ true → P a) → (test ≡ false → P b) → P (if test then a else b)
if_each P true a b at_true at_false = at_true refl
if_each P false a b at_true at_false = at_false refl

both : (a b : Bool) → (a && b) ≡ true → (a ≡ true) × (b ≡ true)
both true true h = (refl, refl)
both true false h = absurd (cc)
both false b h = absurd (cc)

-- a test of a field of one bit, as a bit
bit-test : (value : ℕ) → value < 2 → bit (value == 1) ≡ value
bit-test zero small = refl
bit-test (suc zero) small = refl
bit-test (suc (suc n)) small = absurd (omega arith)

-- ---- loads, stores and LDO

memory-whole : (op word : ℕ) → word < 2 ^ 32 → field 0 6 word ≡ op → field 16 2 word ≡ 0
    → memory_word op (field 6 5 word) (field 11 5 word) (low_signed 14 (field 18 14 word)) ≡ word
memory-whole op word fits opcode zeros =
    let value = field 18 14 word in
    let low : IsLowSignOf 14 value (low_signed 14 value) = low_signed-is_14 value (omega arith) in
    let sum : at 0 6 op + at 6 5 (field 6 5 word) + at 11 5 (field 11 5 word) + at 18 14 value ≡ word = omega arith in
    ap (λ v. at 0 6 op + at 6 5 (field 6 5 word) + at 11 5 (field 11 5 word) + at 18 14 v) low.back ∙ sum

memory_form-found : (op word : ℕ) → word < 2 ^ 32 → field 0 6 word ≡ op → field 16 2 word ≡ 0
    → IfSome (memory_form op (low_signed 14 (field 18 14 word)) (field 6 5 word) (field 11 5 word)) (IsWordOf word)
unfolding word_of IsInRange
memory_form-found op word fits opcode zeros =
    let P : Inst → Type 0 = λ i. IsWordOf word i in
    let low : IsSigned 14 (low_signed 14 (field 18 14 word)) = (low_signed-is_14 (field 18 14 word) (omega arith)).fits in
    let base : field 6 5 word < 32 = omega arith in
    let other : field 11 5 word < 32 = omega arith in
    let whole = λ (k : ℕ) (e : (op == k) ≡ true). memory-whole k word fits (opcode ∙ eqb-true op k e) zeros in
    if_some P (op == 0x0D) _ _ (λ e. record { in_range = (low, base, other); same = whole 0x0D e }) (λ _.
    if_some P (op == 0x10) _ _ (λ e. record { in_range = (low, base, other); same = whole 0x10 e }) (λ _.
    if_some P (op == 0x11) _ _ (λ e. record { in_range = (low, base, other); same = whole 0x11 e }) (λ _.
    if_some P (op == 0x12) _ _ (λ e. record { in_range = (low, base, other); same = whole 0x12 e }) (λ _.
    if_some P (op == 0x18) _ _ (λ e. record { in_range = (low, base, other); same = whole 0x18 e }) (λ _.
    if_some P (op == 0x19) _ _ (λ e. record { in_range = (low, base, other); same = whole 0x19 e }) (λ _.
    if_some P (op == 0x1A) _ _ (λ e. record { in_range = (low, base, other); same = whole 0x1A e }) (λ _. tt)))))))

memory-found : (op word : ℕ) → word < 2 ^ 32 → field 0 6 word ≡ op → IfSome (memory op word) (IsWordOf word)
unfolding memory
memory-found op word fits opcode =
    if_some (λ i. IsWordOf word i) (field 16 2 word == 0) _ _
    (λ zeros. memory_form-found op word fits opcode (eqb-true _ _ zeros))
    (λ _. tt)

-- ---- opcode 02

logical-whole : (ext word : ℕ) → word < 2 ^ 32 → field 0 6 word ≡ 0x02 → field 20 7 word ≡ ext → field 16 4 word ≡ 0
    → three_register_word ext 0 false (field 11 5 word) (field 6 5 word) (field 27 5 word) ≡ word
logical-whole ext word fits opcode extension zeros = omega arith

logical-found : (ext word : ℕ) → word < 2 ^ 32 → field 0 6 word ≡ 0x02 → field 20 7 word ≡ ext → field 16 4 word ≡ 0
    → IfSome (logical ext (field 11 5 word) (field 6 5 word) (field 27 5 word)) (IsWordOf word)
unfolding word_of IsInRange
logical-found ext word fits opcode extension zeros =
    let P : Inst → Type 0 = λ i. IsWordOf word i in
    let first : field 11 5 word < 32 = omega arith in
    let second : field 6 5 word < 32 = omega arith in
    let target : field 27 5 word < 32 = omega arith in
    let whole = λ (k : ℕ) (e : (ext == k) ≡ true). logical-whole k word fits opcode (extension ∙ eqb-true ext k e) zeros in
    if_some P (ext == 0x10) _ _ (λ e. record { in_range = (first, second, target); same = whole 0x10 e }) (λ _.
    if_some P (ext == 0x12) _ _ (λ e. record { in_range = (first, second, target); same = whole 0x12 e }) (λ _.
    if_some P (ext == 0x14) _ _ (λ e. record { in_range = (first, second, target); same = whole 0x14 e }) (λ _.
    if_some P (ext == 0x20) _ _ (λ e. record { in_range = (first, second, target); same = whole 0x20 e }) (λ _.
    if_some P (ext == 0x50) _ _ (λ e. record { in_range = (first, second, target); same = whole 0x50 e }) (λ _. tt)))))

comclr-whole : (word : ℕ) → word < 2 ^ 32 → field 0 6 word ≡ 0x02 → field 20 7 word ≡ 0x44
    → three_register_word 0x44 (field 16 3 word) (field 19 1 word == 1) (field 11 5 word) (field 6 5 word) (field 27 5 word) ≡ word
comclr-whole word fits opcode extension =
    let negated : bit (field 19 1 word == 1) ≡ field 19 1 word = bit-test (field 19 1 word) (omega arith) in
    omega arith

three_register-found : (word : ℕ) → word < 2 ^ 32 → field 0 6 word ≡ 0x02 → IfSome (three_register word) (IsWordOf word)
unfolding three_register word_of IsInRange
three_register-found word fits opcode =
    let P : Inst → Type 0 = λ i. IsWordOf word i in
    let first : field 11 5 word < 32 = omega arith in
    let second : field 6 5 word < 32 = omega arith in
    let target : field 27 5 word < 32 = omega arith in
    if_some P (field 20 7 word == 0x44) _ _
    (λ extension. when_some P (nat_lt (field 16 3 word) 6) _ (λ condition.
    record { in_range = (ltb-true _ _ condition, first, second, target); same = comclr-whole word fits opcode (eqb-true _ _ extension) }))
    (λ _. if_some P (field 16 4 word == 0) _ _
    (λ zeros. logical-found (field 20 7 word) word fits opcode refl (eqb-true _ _ zeros))
    (λ _. tt))

-- ---- opcode 08

ldil-found : (word : ℕ) → word < 2 ^ 32 → field 0 6 word ≡ 0x08 → IsWordOf word (Ldil (long_immediate word) (field 6 5 word))
unfolding long_immediate word_of IsInRange
ldil-found word fits opcode =
    let value = field 31 1 word * 2 ^ 20 + field 20 11 word * 2 ^ 9 + field 16 2 word * 2 ^ 7 + field 11 5 word * 2 ^ 2 + field 18 2 word in
    let small : value < 2 ^ 21 = omega arith in
    let target : field 6 5 word < 32 = omega arith in
    let sign : bits 20 1 value ≡ field 31 1 word = omega arith in
    let upper : bits 9 11 value ≡ field 20 11 word = omega arith in
    let middle : bits 7 2 value ≡ field 16 2 word = omega arith in
    let lower : bits 2 5 value ≡ field 11 5 word = omega arith in
    let last : bits 0 2 value ≡ field 18 2 word = omega arith in
    let sum : at 0 6 0x08 + at 6 5 (field 6 5 word) + at 11 5 (field 11 5 word) + at 16 2 (field 16 2 word) + at 18 2 (field 18 2 word)
    + at 20 11 (field 20 11 word) + at 31 1 (field 31 1 word) ≡ word = omega arith in
    record { in_range = (small, target); same = rw (lower, middle, last, upper, sign) sum }

-- ---- compare and branch

displaced : (op word v : ℕ) → word < 2 ^ 32 → field 0 6 word ≡ op → field 30 1 word ≡ 0
    → field 31 1 word * 2 ^ 11 + field 29 1 word * 2 ^ 10 + field 19 10 word ≡ v
    → at 0 6 op + at 6 5 (field 6 5 word) + at 11 5 (field 11 5 word) + at 16 3 (field 16 3 word)
    + at 19 10 (bits 0 10 v) + at 29 1 (bits 10 1 v) + at 31 1 (bits 11 1 v) ≡ word
displaced op word v fits opcode zeros value =
    let low : bits 0 10 v ≡ field 19 10 word = omega arith in
    let next : bits 10 1 v ≡ field 29 1 word = omega arith in
    let sign : bits 11 1 v ≡ field 31 1 word = omega arith in
    let sum : at 0 6 op + at 6 5 (field 6 5 word) + at 11 5 (field 11 5 word) + at 16 3 (field 16 3 word)
    + at 19 10 (field 19 10 word) + at 29 1 (field 29 1 word) + at 31 1 (field 31 1 word) ≡ word = omega arith in
    rw (low, next, sign) sum

compare-whole : (op word : ℕ) → word < 2 ^ 32 → field 0 6 word ≡ op → field 30 1 word ≡ 0
    → compare_word op (field 16 3 word) (field 11 5 word) (field 6 5 word)
    (signed 12 (field 31 1 word * 2 ^ 11 + field 29 1 word * 2 ^ 10 + field 19 10 word)) ≡ word
compare-whole op word fits opcode zeros =
    let v = field 31 1 word * 2 ^ 11 + field 29 1 word * 2 ^ 10 + field 19 10 word in
    let found : IsSignOf 12 v (signed 12 v) = signed-is 12 v (omega arith) (omega arith) in
    ap (λ u. at 0 6 op + at 6 5 (field 6 5 word) + at 11 5 (field 11 5 word) + at 16 3 (field 16 3 word)
    + at 19 10 (bits 0 10 u) + at 29 1 (bits 10 1 u) + at 31 1 (bits 11 1 u)) found.back
    ∙ displaced op word v fits opcode zeros refl

combt-found : (word : ℕ) → word < 2 ^ 32 → field 0 6 word ≡ 0x20 → IfSome (compare 0x20 word) (IsWordOf word)
unfolding compare word_of IsInRange
combt-found word fits opcode =
    let P : Inst → Type 0 = λ i. IsWordOf word i in
    let v = field 31 1 word * 2 ^ 11 + field 29 1 word * 2 ^ 10 + field 19 10 word in
    let first : field 11 5 word < 32 = omega arith in
    let second : field 6 5 word < 32 = omega arith in
    let displacement : IsSigned 12 (signed 12 v) = (signed-is 12 v (omega arith) (omega arith)).fits in
    when_some P (nat_lt (field 16 3 word) 6 && (field 30 1 word == 0)) _ (λ tests.
    let parts = both _ _ tests in
    record { in_range = (ltb-true _ _ parts.0, first, second, displacement); same = compare-whole 0x20 word fits opcode (eqb-true _ _ parts.1) })

combf-found : (word : ℕ) → word < 2 ^ 32 → field 0 6 word ≡ 0x22 → IfSome (compare 0x22 word) (IsWordOf word)
unfolding compare word_of IsInRange
combf-found word fits opcode =
    let P : Inst → Type 0 = λ i. IsWordOf word i in
    let v = field 31 1 word * 2 ^ 11 + field 29 1 word * 2 ^ 10 + field 19 10 word in
    let first : field 11 5 word < 32 = omega arith in
    let second : field 6 5 word < 32 = omega arith in
    let displacement : IsSigned 12 (signed 12 v) = (signed-is 12 v (omega arith) (omega arith)).fits in
    when_some P (nat_lt (field 16 3 word) 6 && (field 30 1 word == 0)) _ (λ tests.
    let parts = both _ _ tests in
    record { in_range = (ltb-true _ _ parts.0, first, second, displacement); same = compare-whole 0x22 word fits opcode (eqb-true _ _ parts.1) })

-- ---- opcode 25

subi-whole : (word : ℕ) → word < 2 ^ 32 → field 0 6 word ≡ 0x25 → field 16 5 word ≡ 0
    → at 0 6 0x25 + at 6 5 (field 6 5 word) + at 11 5 (field 11 5 word) + at 21 11 (low_sign 11 (low_signed 11 (field 21 11 word))) ≡ word
subi-whole word fits opcode zeros =
    let value = field 21 11 word in
    let low : IsLowSignOf 11 value (low_signed 11 value) = low_signed-is_11 value (omega arith) in
    let sum : at 0 6 0x25 + at 6 5 (field 6 5 word) + at 11 5 (field 11 5 word) + at 21 11 value ≡ word = omega arith in
    ap (λ v. at 0 6 0x25 + at 6 5 (field 6 5 word) + at 11 5 (field 11 5 word) + at 21 11 v) low.back ∙ sum

subi-found : (word : ℕ) → word < 2 ^ 32 → field 0 6 word ≡ 0x25 → IfSome (subtract_immediate word) (IsWordOf word)
unfolding subtract_immediate word_of IsInRange
subi-found word fits opcode =
    let low : IsSigned 11 (low_signed 11 (field 21 11 word)) = (low_signed-is_11 (field 21 11 word) (omega arith)).fits in
    let source : field 6 5 word < 32 = omega arith in
    let target : field 11 5 word < 32 = omega arith in
    when_some (λ i. IsWordOf word i) (field 16 5 word == 0) _ (λ zeros.
    record { in_range = (low, source, target); same = subi-whole word fits opcode (eqb-true _ _ zeros) })

-- ---- opcode 34

vshd-whole : (word : ℕ) → word < 2 ^ 32 → field 0 6 word ≡ 0x34 → field 16 6 word ≡ 0 → field 22 5 word ≡ 0
    → at 0 6 0x34 + at 6 5 (field 6 5 word) + at 11 5 (field 11 5 word) + at 27 5 (field 27 5 word) ≡ word
vshd-whole word fits opcode extension zeros = omega arith

extract-whole : (ext word : ℕ) → word < 2 ^ 32 → ext < 8 → field 0 6 word ≡ 0x34 → field 16 6 word ≡ ext
    → extract_word ext (field 6 5 word) (field 22 5 word) (32 - field 27 5 word) (field 11 5 word) ≡ word
extract-whole ext word fits small opcode extension =
    let length : 32 - (32 - field 27 5 word) ≡ field 27 5 word = omega arith in
    let sum : at 0 6 0x34 + at 6 5 (field 6 5 word) + at 11 5 (field 11 5 word) + at 19 3 ext + at 22 5 (field 22 5 word) + at 27 5 (field 27 5 word) ≡ word
    = omega arith in
    rw length sum

extract-found : (word : ℕ) → word < 2 ^ 32 → field 0 6 word ≡ 0x34 → IfSome (extract word) (IsWordOf word)
unfolding extract word_of IsInRange
extract-found word fits opcode =
    let P : Inst → Type 0 = λ i. IsWordOf word i in
    let source : field 6 5 word < 32 = omega arith in
    let target : field 11 5 word < 32 = omega arith in
    let last : field 22 5 word < 32 = omega arith in
    let right : field 27 5 word < 32 = omega arith in
    let some : 1 ≤ 32 - field 27 5 word = omega arith in
    if_some P (field 16 6 word == 0) _ _
    (λ e. when_some P (field 22 5 word == 0) _ (λ zeros.
    record { in_range = (target, source, right); same = vshd-whole word fits opcode (eqb-true _ _ e) (eqb-true _ _ zeros) })) (λ _.
    if_some P (field 16 6 word == 6) _ _
    (λ e. when_some P (nat_le (32 - field 27 5 word) (field 22 5 word + 1)) _ (λ within.
    record { in_range = ((last, some, leb-true _ _ within), source, target); same = extract-whole 6 word fits (omega arith) opcode (eqb-true _ _ e) })) (λ _.
    if_some P (field 16 6 word == 7) _ _
    (λ e. when_some P (nat_le (32 - field 27 5 word) (field 22 5 word + 1)) _ (λ within.
    record { in_range = ((last, some, leb-true _ _ within), source, target); same = extract-whole 7 word fits (omega arith) opcode (eqb-true _ _ e) })) (λ _. tt)))

-- ---- opcode 35

deposit-whole : (word : ℕ) → word < 2 ^ 32 → field 0 6 word ≡ 0x35 → field 16 6 word ≡ 2
    → deposit_word (field 11 5 word) (31 - field 22 5 word) (32 - field 27 5 word) (field 6 5 word) ≡ word
deposit-whole word fits opcode extension =
    let length : 32 - (32 - field 27 5 word) ≡ field 27 5 word = omega arith in
    let last : 31 - (31 - field 22 5 word) ≡ field 22 5 word = omega arith in
    let sum : at 0 6 0x35 + at 6 5 (field 6 5 word) + at 11 5 (field 11 5 word) + at 19 3 2 + at 22 5 (field 22 5 word) + at 27 5 (field 27 5 word) ≡ word
    = omega arith in
    rw (length, last) sum

deposit-found : (word : ℕ) → word < 2 ^ 32 → field 0 6 word ≡ 0x35 → IfSome (deposit word) (IsWordOf word)
unfolding deposit word_of IsInRange
deposit-found word fits opcode =
    let source : field 11 5 word < 32 = omega arith in
    let target : field 6 5 word < 32 = omega arith in
    let last : 31 - field 22 5 word < 32 = omega arith in
    let some : 1 ≤ 32 - field 27 5 word = omega arith in
    when_some (λ i. IsWordOf word i) ((field 16 6 word == 2) && nat_le (32 - field 27 5 word) (31 - field 22 5 word + 1)) _ (λ tests.
    let parts = both _ _ tests in
    record { in_range = ((last, some, leb-true _ _ parts.1), source, target); same = deposit-whole word fits opcode (eqb-true _ _ parts.0) })

-- ---- the branches

ble-whole : (word : ℕ) → word < 2 ^ 32 → field 0 6 word ≡ 0x39 → field 11 8 word ≡ 1 → field 19 11 word ≡ 0 → field 31 1 word ≡ 0
    → at 0 6 0x39 + at 6 5 (field 6 5 word) + at 16 3 1 + at 30 1 (bit (field 30 1 word == 1)) ≡ word
ble-whole word fits opcode kind zeros last =
    let nullify : bit (field 30 1 word == 1) ≡ field 30 1 word = bit-test (field 30 1 word) (omega arith) in
    omega arith

branch_external-found : (word : ℕ) → word < 2 ^ 32 → field 0 6 word ≡ 0x39 → IfSome (branch_external word) (IsWordOf word)
unfolding branch_external word_of IsInRange
branch_external-found word fits opcode =
    let base : field 6 5 word < 32 = omega arith in
    when_some (λ i. IsWordOf word i) ((field 11 8 word == 1) && (field 19 11 word == 0) && (field 31 1 word == 0)) _ (λ tests.
    let parts = both ((field 11 8 word == 1) && (field 19 11 word == 0)) _ tests in
    let front = both (field 11 8 word == 1) _ parts.0 in
    record { in_range = base; same = ble-whole word fits opcode (eqb-true _ _ front.0) (eqb-true _ _ front.1) (eqb-true _ _ parts.1) })

bv-whole : (word : ℕ) → word < 2 ^ 32 → field 0 6 word ≡ 0x3A → field 11 8 word ≡ 6 → field 19 11 word ≡ 0 → field 31 1 word ≡ 0
    → at 0 6 0x3A + at 6 5 (field 6 5 word) + at 16 3 6 + at 30 1 (bit (field 30 1 word == 1)) ≡ word
bv-whole word fits opcode kind zeros last =
    let nullify : bit (field 30 1 word == 1) ≡ field 30 1 word = bit-test (field 30 1 word) (omega arith) in
    omega arith

far-displaced : (word v : ℕ) → word < 2 ^ 32 → field 0 6 word ≡ 0x3A → field 16 3 word ≡ 0
    → field 31 1 word * 2 ^ 16 + field 11 5 word * 2 ^ 11 + field 29 1 word * 2 ^ 10 + field 19 10 word ≡ v
    → at 0 6 0x3A + at 6 5 (field 6 5 word) + at 11 5 (bits 11 5 v)
    + at 19 10 (bits 0 10 v) + at 29 1 (bits 10 1 v) + at 30 1 (bit (field 30 1 word == 1)) + at 31 1 (bits 16 1 v) ≡ word
far-displaced word v fits opcode zeros value =
    let low : bits 0 10 v ≡ field 19 10 word = omega arith in
    let next : bits 10 1 v ≡ field 29 1 word = omega arith in
    let upper : bits 11 5 v ≡ field 11 5 word = omega arith in
    let sign : bits 16 1 v ≡ field 31 1 word = omega arith in
    let nullify : bit (field 30 1 word == 1) ≡ field 30 1 word = bit-test (field 30 1 word) (omega arith) in
    let sum : at 0 6 0x3A + at 6 5 (field 6 5 word) + at 11 5 (field 11 5 word)
    + at 19 10 (field 19 10 word) + at 29 1 (field 29 1 word) + at 30 1 (field 30 1 word) + at 31 1 (field 31 1 word) ≡ word = omega arith in
    rw (upper, low, next, nullify, sign) sum

bl-whole : (word : ℕ) → word < 2 ^ 32 → field 0 6 word ≡ 0x3A → field 16 3 word ≡ 0
    → branch_word (signed 17 (field 31 1 word * 2 ^ 16 + field 11 5 word * 2 ^ 11 + field 29 1 word * 2 ^ 10 + field 19 10 word))
    (field 6 5 word) (field 30 1 word == 1) ≡ word
bl-whole word fits opcode zeros =
    let v = field 31 1 word * 2 ^ 16 + field 11 5 word * 2 ^ 11 + field 29 1 word * 2 ^ 10 + field 19 10 word in
    let found : IsSignOf 17 v (signed 17 v) = signed-is 17 v (omega arith) (omega arith) in
    ap (λ u. at 0 6 0x3A + at 6 5 (field 6 5 word) + at 11 5 (bits 11 5 u)
    + at 19 10 (bits 0 10 u) + at 29 1 (bits 10 1 u) + at 30 1 (bit (field 30 1 word == 1)) + at 31 1 (bits 16 1 u)) found.back
    ∙ far-displaced word v fits opcode zeros refl

branch-found : (word : ℕ) → word < 2 ^ 32 → field 0 6 word ≡ 0x3A → IfSome (branch word) (IsWordOf word)
unfolding branch word_of IsInRange
branch-found word fits opcode =
    let P : Inst → Type 0 = λ i. IsWordOf word i in
    let v = field 31 1 word * 2 ^ 16 + field 11 5 word * 2 ^ 11 + field 29 1 word * 2 ^ 10 + field 19 10 word in
    let base : field 6 5 word < 32 = omega arith in
    let displacement : IsSigned 17 (signed 17 v) = (signed-is 17 v (omega arith) (omega arith)).fits in
    if_some P (field 16 3 word == 0) _ _
    (λ zeros. record { in_range = (displacement, base); same = bl-whole word fits opcode (eqb-true _ _ zeros) })
    (λ _. when_some P ((field 11 8 word == 6) && (field 19 11 word == 0) && (field 31 1 word == 0)) _ (λ tests.
    let parts = both ((field 11 8 word == 6) && (field 19 11 word == 0)) _ tests in
    let front = both (field 11 8 word == 6) _ parts.0 in
    record { in_range = base; same = bv-whole word fits opcode (eqb-true _ _ front.0) (eqb-true _ _ front.1) (eqb-true _ _ parts.1) }))

-- ---- opcode 00

break-whole : (word : ℕ) → word < 2 ^ 32 → field 0 6 word ≡ 0 → field 19 8 word ≡ 0 → at 6 13 (field 6 13 word) + at 27 5 (field 27 5 word) ≡ word
break-whole word fits opcode zeros = omega arith

mtctl-whole : (word : ℕ) → word < 2 ^ 32 → field 0 6 word ≡ 0 → field 6 5 word ≡ 11 → field 16 16 word ≡ 0x1840
    → at 6 5 11 + at 11 5 (field 11 5 word) + at 16 16 0x1840 ≡ word
mtctl-whole word fits opcode control rest = omega arith

system-found : (word : ℕ) → word < 2 ^ 32 → field 0 6 word ≡ 0 → IfSome (system word) (IsWordOf word)
unfolding system word_of IsInRange
system-found word fits opcode =
    let P : Inst → Type 0 = λ i. IsWordOf word i in
    let small : field 27 5 word < 2 ^ 5 = omega arith in
    let large : field 6 13 word < 2 ^ 13 = omega arith in
    let source : field 11 5 word < 32 = omega arith in
    if_some P (field 19 8 word == 0) _ _
    (λ zeros. record { in_range = (small, large); same = break-whole word fits opcode (eqb-true _ _ zeros) })
    (λ _. when_some P ((field 6 5 word == 11) && (field 16 16 word == 0x1840)) _ (λ tests.
    let parts = both (field 6 5 word == 11) _ tests in
    record { in_range = source; same = mtctl-whole word fits opcode (eqb-true _ _ parts.0) (eqb-true _ _ parts.1) }))

-- ---- all of them

form_of-found : (op word : ℕ) → word < 2 ^ 32 → field 0 6 word ≡ op → IfSome (form_of op word) (IsWordOf word)
unfolding form_of
form_of-found op word fits opcode =
    let P : Inst → Type 0 = λ i. IsWordOf word i in
    if_some P (op == 0x00) _ _ (λ e. system-found word fits (opcode ∙ eqb-true op 0x00 e)) (λ _.
    if_some P (op == 0x02) _ _ (λ e. three_register-found word fits (opcode ∙ eqb-true op 0x02 e)) (λ _.
    if_some P (op == 0x08) _ _ (λ e. ldil-found word fits (opcode ∙ eqb-true op 0x08 e)) (λ _.
    if_some P (op == 0x20) _ _ (λ e. let row : op ≡ 0x20 = eqb-true op 0x20 e in rw row (combt-found word fits (opcode ∙ row))) (λ _.
    if_some P (op == 0x22) _ _ (λ e. let row : op ≡ 0x22 = eqb-true op 0x22 e in rw row (combf-found word fits (opcode ∙ row))) (λ _.
    if_some P (op == 0x25) _ _ (λ e. subi-found word fits (opcode ∙ eqb-true op 0x25 e)) (λ _.
    if_some P (op == 0x34) _ _ (λ e. extract-found word fits (opcode ∙ eqb-true op 0x34 e)) (λ _.
    if_some P (op == 0x35) _ _ (λ e. deposit-found word fits (opcode ∙ eqb-true op 0x35 e)) (λ _.
    if_some P (op == 0x39) _ _ (λ e. branch_external-found word fits (opcode ∙ eqb-true op 0x39 e)) (λ _.
    if_some P (op == 0x3A) _ _ (λ e. branch-found word fits (opcode ∙ eqb-true op 0x3A e)) (λ _.
    memory-found op word fits opcode))))))))))

-- a word is the word of the instruction that it is decoded to
pub decoded-found : (word : ℕ) → word < 2 ^ 32 → IfSome (decoded word) (IsWordOf word)
unfolding decoded
decoded-found word fits = form_of-found (field 0 6 word) word fits refl
