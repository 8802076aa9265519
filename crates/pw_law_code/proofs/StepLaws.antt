-- A step from a lawful state leads to a lawful one, and leaves the text as it was.
use Rattle.std.proofs.Common.{ℕ, ℤ, zero, suc, ◌≡◌, ◌+◌, ◌-◌, ◌*◌, ◌/◌, ◌%◌, ◌^◌, ◌<◌, ◌≤◌, ◌⊎◌, inl, inr, Bool, true, false, List, [], ◌∷◌, length, get_or, set, arith, refl, ap, ◌∙◌, length-set, get_or-set_same, get_or-set_other}
use Rattle.std.specs.Prelude.{Option, Some, None, IfSome, not, ◌&&◌, ◌||◌, ◌==◌, nat_lt, bit_and, bit_or, bit_xor, if◌then◌else◌}
use Rattle.std.specs.Int.{cast_unsigned, w32}
use Rattle.std.proofs.Math.Nat.{mod-lt, mod-le, div-le_self}
use Rattle.std.proofs.Math.Pow.{pow_mono}
use Rattle.std.proofs.lemmas.Nat.{and_le_l, or_lt, xor_lt, pow_pos}
use Rattle.std.proofs.lemmas.Bool.{cases_lt, cases_eq}
use Rattle.pw_value.specs.Limits.{text_start, memory_size}
use Rattle.pw_inst.specs.declared.Inst.{Inst}
use Rattle.pw_inst.specs.declared.Inst.TheVariants.{Ldb, Ldh, Ldw, Ldo, Stb, Sth, Stw, Ldil, And, Or, Xor, Sub, Addl, Vshd, Mtctl, Comclr, Subi, Extru, Extrs, Zdep, Combt, Combf, Bl, Bv, Ble, Break}
use Rattle.pw_inst.specs.InstructionTable.{decoded, IsInRange, IsWordOf}
use Rattle.pw_inst.proofs.Found.{decoded-found}
use Rattle.pw_machine.specs.declared.ends.End.TheVariants.{Ended, StackStop}
use Rattle.pw_machine.specs.declared.ends.Halt.{Halt}
use Rattle.pw_machine.specs.declared.ends.Halt.TheVariants.{Unaligned, OutOfMemoryRange, TextWrite, BadBranch, BadBreak}
use Rattle.pw_machine.specs.Core.{Core, register, with_register, next, moved, advanced, byte_at, half_at, word_at, with_byte, with_half, with_word}
use Rattle.pw_value.specs.Words.{unsigned_difference}
use Rattle.pw_inst.specs.Computing.{condition, extracted, sign_extended, deposited}
use Rattle.pw_machine.specs.Effect.{Effect, Goes, Reads, Writes, Stops, executed, effect_of, effect_of_inst, unless, puts, loads, stores, breaks, halts, address, access_fault, is_in_text, target}
use Rattle.pw_machine.proofs.FieldSizes.{deposited_small}
use Rattle.pw_law_code.specs.Lawful.{AreBytes, AreRegistersLawful, IsLawfulCore, HasSameText}
use Rattle.pw_law_code.proofs.StoreLaws.{byte_size, half_size, word_size, byte_other, half_other, word_other}

-- what a step leaves
pub record Follows (old new : Core) : Type 0 where
  pub lawful : IsLawfulCore new
  pub same : HasSameText old new

abbrev pub FollowsBy : Core → Effect → Type 0
FollowsBy old (Goes new) = Follows old new
FollowsBy old Reads = Unit {0}
FollowsBy old (Writes byte) = byte < 2 ^ 8
FollowsBy old (Stops end) = Unit {0}

pub same_text : (core : Core) → HasSameText core core
same_text core = record { text = refl; data_from = refl; bytes = λ a below. refl }

pub same_twice : (a b c : Core) → HasSameText a b → HasSameText b c → HasSameText a c
same_twice a b c one two = record {
  text = two.text ∙ one.text;
  data_from = two.data_from ∙ one.data_from;
  bytes = λ p below. two.bytes p (omega (arith, one.data_from, below)) ∙ one.bytes p below;
}

-- ---- registers

-- a place past a list's end reads the default
past_end : (xs : List ℕ) (i : ℕ) → length xs ≤ i → get_or xs i 0 ≡ 0
past_end [] i past = refl
past_end (x ∷ xs) zero past = absurd (omega arith)
past_end (x ∷ xs) (suc i) past = past_end xs i (omega arith)

set_at : (xs : List ℕ) (i value bound j : ℕ) → j ≡ i → 0 < bound → value < bound → (i < length xs) ⊎ (length xs ≤ i) → get_or (set xs i value) j 0 < bound
set_at xs i value bound j same some small (inl within) = omega (arith, small, ap (λ k. get_or (set xs i value) k 0) same ∙ get_or-set_same xs i value 0 within)
set_at xs i value bound j same some small (inr outside) = omega (arith, some, past_end (set xs i value) j (omega (arith, same, outside, length-set xs i value)))

set_by : (xs : List ℕ) (i value bound j : ℕ) → ((k : ℕ) → get_or xs k 0 < bound) → value < bound → (j ≡ i) ⊎ (j ≡ i → ⊥) → get_or (set xs i value) j 0 < bound
set_by xs i value bound j each small (inl same) = set_at xs i value bound j same (omega (arith, small)) small (cases_lt i (length xs))
set_by xs i value bound j each small (inr other) = omega (arith, each j, get_or-set_other xs i j value 0 other)

pub set_bound : (xs : List ℕ) (i value bound j : ℕ) → ((k : ℕ) → get_or xs k 0 < bound) → value < bound → get_or (set xs i value) j 0 < bound
set_bound xs i value bound j each small = set_by xs i value bound j each small (cases_eq j i)

register_by : (core : Core) (r : ℕ) (b : Bool) → ((k : ℕ) → get_or core.registers k 0 < 2 ^ 32) → (if b then 0 else get_or core.registers r 0) < 2 ^ 32
register_by core r true each = omega arith
register_by core r false each = each r

pub register_small : (core : Core) (r : ℕ) → AreRegistersLawful core → register core r < 2 ^ 32
register_small core r are = register_by core r (r == 0) are.words

put_by : (core : Core) (r value : ℕ) (b : Bool) → (r == 0) ≡ b → IsLawfulCore core → value < 2 ^ 32
    → Follows core (if b then core else record core { registers = set core.registers r value })
put_by core r value true e is small = record { lawful = is; same = same_text core }
put_by core r value false e is small =
    let other : 0 ≡ r → ⊥ = λ z. let t : (r == 0) ≡ true = rw (← z) refl in cc in
    record {
      lawful = record {
        registers = record {
          count = length-set core.registers r value ∙ is.registers.count;
          words = λ k. set_bound core.registers r value (2 ^ 32) k is.registers.words small;
          zero = get_or-set_other core.registers r 0 value 0 other ∙ is.registers.zero;
          front = is.registers.front;
          back = is.registers.back;
          shift = is.registers.shift;
        };
        memory = record { size = is.memory.size; bytes = is.memory.bytes; text = is.memory.text; data_from = is.memory.data_from };
      };
      same = record { text = refl; data_from = refl; bytes = λ a below. refl };
    }

pub put_follows : (core : Core) (r value : ℕ) → IsLawfulCore core → value < 2 ^ 32 → Follows core (with_register core r value)
put_follows core r value is small = put_by core r value (r == 0) refl is small

pub moved_follows : (core : Core) (after : ℕ) (n : Bool) → IsLawfulCore core → after < 2 ^ 32 → Follows core (moved core after n)
moved_follows core after n is small = record {
  lawful = record {
    registers = record { count = is.registers.count; words = is.registers.words; zero = is.registers.zero; front = is.registers.back; back = small; shift = is.registers.shift };
    memory = record { size = is.memory.size; bytes = is.memory.bytes; text = is.memory.text; data_from = is.memory.data_from };
  };
  same = record { text = refl; data_from = refl; bytes = λ a below. refl };
}

pub then_follows : (a b c : Core) → Follows a b → Follows b c → Follows a c
then_follows a b c one two = record { lawful = two.lawful; same = same_twice a b c one.same two.same }

moved_and_put : (core : Core) (after : ℕ) (n : Bool) (r value : ℕ) → IsLawfulCore core → after < 2 ^ 32 → value < 2 ^ 32 → Follows core (with_register (moved core after n) r value)
moved_and_put core after n r value is one two =
    let first = moved_follows core after n is one in
    then_follows core (moved core after n) (with_register (moved core after n) r value) first (put_follows (moved core after n) r value first.lawful two)

next_small : (core : Core) → next core < 2 ^ 32
next_small core = omega arith

pub advanced_follows : (core : Core) → IsLawfulCore core → Follows core (advanced core)
advanced_follows core is = moved_follows core (next core) false is (next_small core)

pub answered_follows : (core : Core) (value : ℕ) → IsLawfulCore core → value < 2 ^ 32 → Follows core (with_register (advanced core) 28 value)
answered_follows core value is small = moved_and_put core (next core) false 28 value is (next_small core) small

puts_follows : (core : Core) (t value : ℕ) → IsLawfulCore core → value < 2 ^ 32 → FollowsBy core (puts core t value)
puts_follows core t value is small = moved_and_put core (next core) false t value is (next_small core) small

-- ---- loads and stores

unless_by : (core : Core) (f : Option Halt) (e : Effect) → (f ≡ None → FollowsBy core e) → FollowsBy core (unless f core e)
unless_by core None e h = h refl
unless_by core (Some halt) e h = tt

loads_follow : (core : Core) (a size t value : ℕ) → IsLawfulCore core → value < 2 ^ 32 → FollowsBy core (loads core a size t value)
loads_follow core a size t value is small = unless_by core (access_fault core a size false) (puts core t value) (λ none. puts_follows core t value is small)

if_none : (b : Bool) (h : Halt) (rest : Option Halt) → (if b then Some h else rest) ≡ None → (b ≡ false) × (rest ≡ None)
if_none true h rest e = absurd cc
if_none false h rest e = (refl, e)

not_below : (core : Core) (a : ℕ) (b : Bool) → nat_lt a core.data_start ≡ b → (true && b) ≡ false → core.data_start ≤ a
not_below core a true is e = absurd cc
not_below core a false is e = elim (cases_lt a core.data_start) [ inl lt ↦ absurd (let t : nat_lt a core.data_start ≡ true = grind arith in cc) | inr le ↦ le ]

-- a store that has no fault lies at or above the start of data
pub store_above : (core : Core) (a size : ℕ) → access_fault core a size true ≡ None → core.data_start ≤ a
store_above core a size e =
    let one = if_none (not (a % size == 0)) Unaligned _ e in
    let two = if_none (nat_lt a text_start || nat_lt memory_size (a + size)) OutOfMemoryRange _ one.1 in
    let three = if_none (true && nat_lt a core.data_start) TextWrite None two.1 in
    not_below core a (nat_lt a core.data_start) refl three.0

stored_follows : (core : Core) (memory : List ℕ) → IsLawfulCore core → length memory ≡ length core.memory → AreBytes memory → ((p : ℕ) → p < core.data_start → byte_at memory p ≡ byte_at core.memory p)
    → Follows core (record (advanced core) { memory = memory })
stored_follows core memory is size bytes below = record {
  lawful = record {
    registers = record { count = is.registers.count; words = is.registers.words; zero = is.registers.zero; front = is.registers.back; back = next_small core; shift = is.registers.shift };
    memory = record { size = size ∙ is.memory.size; bytes = bytes; text = is.memory.text; data_from = is.memory.data_from };
  };
  same = record { text = refl; data_from = refl; bytes = below };
}

byte_bytes : (memory : List ℕ) (a value : ℕ) → AreBytes memory → AreBytes (with_byte memory a value)
byte_bytes memory a value bytes = λ i. set_bound memory a (value % 2 ^ 8) (2 ^ 8) i bytes (omega arith)

half_bytes : (memory : List ℕ) (a value : ℕ) → AreBytes memory → AreBytes (with_half memory a value)
half_bytes memory a value bytes = byte_bytes (with_byte memory a (value / 2 ^ 8)) (a + 1) value (byte_bytes memory a (value / 2 ^ 8) bytes)

word_bytes : (memory : List ℕ) (a value : ℕ) → AreBytes memory → AreBytes (with_word memory a value)
word_bytes memory a value bytes = half_bytes (with_half memory a (value / 2 ^ 16)) (a + 2) value (half_bytes memory a (value / 2 ^ 16) bytes)

stores_byte : (core : Core) (a value : ℕ) → IsLawfulCore core → FollowsBy core (stores core a 1 (with_byte core.memory a value))
stores_byte core a value is = unless_by core (access_fault core a 1 true) (Goes (record (advanced core) { memory = with_byte core.memory a value }))
    (λ none. let above = store_above core a 1 none in
    stored_follows core (with_byte core.memory a value) is (byte_size core.memory a value) (byte_bytes core.memory a value is.memory.bytes)
    (λ p below. byte_other core.memory a p value (λ e. omega (arith, e, above, below))))

stores_half : (core : Core) (a value : ℕ) → IsLawfulCore core → FollowsBy core (stores core a 2 (with_half core.memory a value))
stores_half core a value is = unless_by core (access_fault core a 2 true) (Goes (record (advanced core) { memory = with_half core.memory a value }))
    (λ none. let above = store_above core a 2 none in
    stored_follows core (with_half core.memory a value) is (half_size core.memory a value) (half_bytes core.memory a value is.memory.bytes)
    (λ p below. half_other core.memory a p value (inl (omega (arith, above, below)))))

stores_word : (core : Core) (a value : ℕ) → IsLawfulCore core → FollowsBy core (stores core a 4 (with_word core.memory a value))
stores_word core a value is = unless_by core (access_fault core a 4 true) (Goes (record (advanced core) { memory = with_word core.memory a value }))
    (λ none. let above = store_above core a 4 none in
    stored_follows core (with_word core.memory a value) is (word_size core.memory a value) (word_bytes core.memory a value is.memory.bytes)
    (λ p below. word_other core.memory a p value (inl (omega (arith, above, below)))))

-- ---- words that are read and computed

half_small : (memory : List ℕ) (a : ℕ) → AreBytes memory → half_at memory a < 2 ^ 16
half_small memory a bytes = omega (arith, bytes a, bytes (a + 1))

pub word_small : (memory : List ℕ) (a : ℕ) → AreBytes memory → word_at memory a < 2 ^ 32
word_small memory a bytes = omega (arith, half_small memory a bytes, half_small memory (a + 2) bytes)

and_small : (a b : ℕ) → a < 2 ^ 32 → bit_and a b < 2 ^ 32
and_small a b small = omega (arith, and_le_l a b, small)

extracted_below : (word p len : ℕ) → extracted word p len < 2 ^ len
extracted_below word p len = mod-lt (word / 2 ^ (31 - p)) (pow_pos len)

extracted_small : (word p len : ℕ) → word < 2 ^ 32 → extracted word p len < 2 ^ 32
extracted_small word p len small = omega (arith, mod-le (word / 2 ^ (31 - p)) (2 ^ len), div-le_self word (2 ^ (31 - p)), small)

extended_by : (whole bits : ℕ) (b : Bool) → bits < whole → whole ≤ 2 ^ 32 → (if b then bits else 2 ^ 32 - whole + bits) < 2 ^ 32
extended_by whole bits true below small = omega arith
extended_by whole bits false below small = omega arith

extended_small : (word p len : ℕ) → len ≤ 32 → sign_extended len (extracted word p len) < 2 ^ 32
extended_small word p len short =
    extended_by (2 ^ len) (extracted word p len) (nat_lt (extracted word p len) (2 ^ (len - 1))) (extracted_below word p len) (pow_mono short)

if_small : (b : Bool) (x y : ℕ) → x < 2 ^ 32 → y < 2 ^ 32 → (if b then x else y) < 2 ^ 32
if_small true x y one two = one
if_small false x y one two = two

-- ---- the instructions

if_follows : (core : Core) (b : Bool) (x y : Effect) → FollowsBy core x → FollowsBy core y → FollowsBy core (if b then x else y)
if_follows core true x y h k = h
if_follows core false x y h k = k

breaks_follow : (core : Core) (im5 im13 : ℕ) → FollowsBy core (breaks core im5 im13)
breaks_follow core im5 im13 =
    let byte = register core 26 % 2 ^ 8 in
    let last = halts core BadBreak in
    let fourth = if (im5 == 0) && (im13 == 4) then Stops StackStop else last in
    let third = if (im5 == 0) && (im13 == 3) then Stops (Ended byte) else fourth in
    let second = if (im5 == 0) && (im13 == 2) then Writes byte else third in
    if_follows core ((im5 == 0) && (im13 == 1)) Reads second tt
    (if_follows core ((im5 == 0) && (im13 == 2)) (Writes byte) third (omega arith)
    (if_follows core ((im5 == 0) && (im13 == 3)) (Stops (Ended byte)) fourth tt
    (if_follows core ((im5 == 0) && (im13 == 4)) (Stops StackStop) last tt tt)))

shifted_follows : (core : Core) (value : ℕ) → IsLawfulCore core → Follows core (record (advanced core) { shift = value % 32 })
shifted_follows core value is = record {
  lawful = record {
    registers = record { count = is.registers.count; words = is.registers.words; zero = is.registers.zero; front = is.registers.back; back = next_small core; shift = omega arith };
    memory = record { size = is.memory.size; bytes = is.memory.bytes; text = is.memory.text; data_from = is.memory.data_from };
  };
  same = record { text = refl; data_from = refl; bytes = λ a below. refl };
}

address_small : (core : Core) (b : ℕ) (im : ℤ) → address core b im < 2 ^ 32
address_small core b im = omega arith

pub executed_follows : (core : Core) (inst : Inst) → IsLawfulCore core → IsInRange inst → FollowsBy core (executed core inst)
unfolding IsInRange
executed_follows core (Ldb im b t) is r = let a = address core b im in loads_follow core a 1 t (byte_at core.memory a) is (omega (arith, is.memory.bytes a))
executed_follows core (Ldh im b t) is r = let a = address core b im in loads_follow core a 2 t (half_at core.memory a) is (omega (arith, half_small core.memory a is.memory.bytes))
executed_follows core (Ldw im b t) is r = let a = address core b im in loads_follow core a 4 t (word_at core.memory a) is (word_small core.memory a is.memory.bytes)
executed_follows core (Ldo im b t) is r = puts_follows core t (address core b im) is (address_small core b im)
executed_follows core (Stb r im b) is k = stores_byte core (address core b im) (register core r) is
executed_follows core (Sth r im b) is k = stores_half core (address core b im) (register core r) is
executed_follows core (Stw r im b) is k = stores_word core (address core b im) (register core r) is
executed_follows core (Ldil im t) is r = puts_follows core t (im * 2048) is (omega (arith, r.0))
executed_follows core (And r1 r2 t) is r = puts_follows core t (bit_and (register core r1) (register core r2)) is (and_small (register core r1) (register core r2) (register_small core r1 is.registers))
executed_follows core (Or r1 r2 t) is r = puts_follows core t (bit_or (register core r1) (register core r2)) is (or_lt 32 (register core r1) (register core r2) (register_small core r1 is.registers) (register_small core r2 is.registers))
executed_follows core (Xor r1 r2 t) is r = puts_follows core t (bit_xor (register core r1) (register core r2)) is (xor_lt 32 (register core r1) (register core r2) (register_small core r1 is.registers) (register_small core r2 is.registers))
executed_follows core (Sub r1 r2 t) is r = puts_follows core t (unsigned_difference (register core r1) (register core r2)) is (omega arith)
executed_follows core (Addl r1 r2 t) is r = puts_follows core t ((register core r1 + register core r2) % 2 ^ 32) is (omega arith)
executed_follows core (Vshd r1 r2 t) is r = puts_follows core t ((register core r1 * 2 ^ 32 + register core r2) / 2 ^ core.shift % 2 ^ 32) is (omega arith)
executed_follows core (Mtctl r) is k = shifted_follows core (register core r) is
executed_follows core (Comclr c f r1 r2 t) is r =
    let holds = condition c (register core r1) (register core r2) in
    moved_and_put core (next core) (if f then not holds else holds) t 0 is (next_small core) (omega arith)
executed_follows core (Subi im r t) is k = puts_follows core t (unsigned_difference (cast_unsigned w32 im) (register core r)) is (omega arith)
executed_follows core (Extru r p len t) is k = puts_follows core t (extracted (register core r) p len) is (extracted_small (register core r) p len (register_small core r is.registers))
executed_follows core (Extrs r p len t) is k = puts_follows core t (sign_extended len (extracted (register core r) p len)) is (extended_small (register core r) p len (omega (arith, k.0.0, k.0.2)))
executed_follows core (Zdep r p len t) is k = puts_follows core t (deposited (register core r) p len) is (deposited_small (register core r) p len k.0.0 k.0.2)
executed_follows core (Combt c r1 r2 disp) is r =
    let taken = condition c (register core r1) (register core r2) in
    moved_follows core (if taken then target core disp else next core) false is (if_small taken (target core disp) (next core) (omega arith) (next_small core))
executed_follows core (Combf c r1 r2 disp) is r =
    let taken = not (condition c (register core r1) (register core r2)) in
    moved_follows core (if taken then target core disp else next core) false is (if_small taken (target core disp) (next core) (omega arith) (next_small core))
executed_follows core (Bl disp t n) is r = moved_and_put core (target core disp) n t (next core) is (omega arith) (next_small core)
executed_follows core (Bv b n) is r = moved_follows core (register core b) n is (register_small core b is.registers)
executed_follows core (Ble b n) is r = moved_and_put core (register core b) n 31 (next core) is (register_small core b is.registers) (next_small core)
executed_follows core (Break im5 im13) is r = breaks_follow core im5 im13

found_follows : (core : Core) (found : Option Inst) → IsLawfulCore core → IfSome found (IsWordOf (word_at core.memory core.front)) → FollowsBy core (effect_of_inst core found)
found_follows core None is h = tt
found_follows core (Some inst) is h = executed_follows core inst is h.in_range

pub effect_follows : (core : Core) → IsLawfulCore core → FollowsBy core (effect_of core)
unfolding effect_of
effect_follows core is =
    let word = word_at core.memory core.front in
    let other = if core.nullify then Goes (advanced core) else effect_of_inst core (decoded word) in
    if_follows core (not (is_in_text core core.front)) (halts core BadBranch) other tt
    (if_follows core core.nullify (Goes (advanced core)) (effect_of_inst core (decoded word)) (advanced_follows core is)
    (found_follows core (decoded word) is (decoded-found word (word_small core.memory core.front is.memory.bytes))))
