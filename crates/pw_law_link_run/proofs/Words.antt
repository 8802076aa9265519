-- The machine does at a word what the word does in the run of lines.
use Rattle.std.specs.Prelude.{ℕ, ℤ, ◌≡◌, ◌+◌, ◌*◌, ◌/◌, ◌%◌, ◌^◌, ◌<◌, ◌≤◌, ◌⊎◌, ◌==◌, ◌&&◌, not, nat_lt, nat_le, Bool, true, false, if◌then◌else◌, bit_and, bit_or, bit_xor, Some, None, List, length, slice_index, slice_set}
use Rattle.std.specs.Int.{cast_unsigned, w32}
use Rattle.std.proofs.Common.{arith, subst, sym, ap, refl, ◌∙◌, inl, inr, length-set, get_or-set_same, get_or-set_other}
use Rattle.std.proofs.lemmas.Bool.{cases_eq, and_parts, ltb-true, leb-true, ne_eqb, eq-eqb, eqb-true}
use Rattle.pw_value.specs.Limits.{text_start, memory_size}
use Rattle.pw_value.specs.Words.{unsigned_difference}
use Rattle.pw_inst.specs.declared.Inst.{Inst}
use Rattle.pw_inst.specs.declared.Inst.TheVariants.{Ldb, Ldh, Ldw, Ldo, Stb, Sth, Stw, Ldil, And, Or, Xor, Sub, Addl, Vshd, Mtctl, Comclr, Subi, Extru, Extrs, Zdep, Combt, Combf, Bl, Bv, Ble, Break}
use Rattle.pw_inst.specs.InstructionTable.{decoded, IsInRange}
use Rattle.pw_machine.specs.declared.ends.End.TheVariants.{StackStop}
use Rattle.pw_machine.specs.Core.{Core, register, with_register, next, moved, advanced, byte_at, half_at, word_at, with_byte, with_half, with_word}
use Rattle.pw_inst.specs.Computing.{condition, extracted, sign_extended, deposited, offset_by}
use Rattle.pw_machine.specs.Effect.{Effect, Goes, Stops, puts, access_fault, is_in_text, effect_of, effect_of_inst}
use Rattle.pw_machine.specs.Effect as machine
use Rattle.pw_law_code.specs.Lawful.{IsLawfulCore}
use Rattle.pw_run_languages.specs.Addresses.{Addresses}
use Rattle.pw_run_languages.specs.Acts as lines
use Rattle.pw_run_languages.specs.Acts.{put, number_at, with_number, is_open, Act, Acts, Full, Fails, acts}
use Rattle.pw_law_link_run.specs.Showing.{Shows, Leads, DoesSo}

-- ---- registers

abbrev IsShownBy : (ℕ → ℕ) → List ℕ → Type 0
IsShownBy f registers = (r : ℕ) → f r ≡ (if r == 0 then 0 else slice_index registers r)

not_zero : (t r : ℕ) → (t == 0) ≡ false → r ≡ t → (r == 0) ≡ false
not_zero t r e same = ap (λ k. k == 0) same ∙ e

pub put_same : (f : ℕ → ℕ) (t v r : ℕ) → r ≡ t → put t v f r ≡ v
put_same f t v r e = rw (eq-eqb r t e) refl

pub put_other : (f : ℕ → ℕ) (t v r : ℕ) → (r ≡ t → ⊥) → put t v f r ≡ f r
put_other f t v r ne = rw (ne_eqb r t ne) refl

if_else : (b : Bool) (x y : ℕ) → x ≡ y → (if b then 0 else x) ≡ (if b then 0 else y)
if_else b x y e = ap (λ k. if b then 0 else k) e

put_at : (f : ℕ → ℕ) (registers : List ℕ) (t v r : ℕ) → (t == 0) ≡ false → t < length registers → IsShownBy f registers
    → (r ≡ t) ⊎ (r ≡ t → ⊥) → put t v f r ≡ (if r == 0 then 0 else slice_index (slice_set registers t v) r)
put_at f registers t v r some within h (inl e) =
    let there : slice_index (slice_set registers t v) r ≡ v = ap (λ k. slice_index (slice_set registers t v) k) e ∙ get_or-set_same registers t v 0 within in
    rw (not_zero t r some e, put_same f t v r e, there) refl
put_at f registers t v r some within h (inr ne) =
    put_other f t v r ne ∙ (h r ∙ if_else (r == 0) (slice_index registers r) (slice_index (slice_set registers t v) r) (sym (get_or-set_other registers t r v 0 ne)))

put_shown : (f : ℕ → ℕ) (registers : List ℕ) (t v : ℕ) → (t == 0) ≡ false → t < length registers → IsShownBy f registers
    → IsShownBy (put t v f) (slice_set registers t v)
put_shown f registers t v some within h = λ r. put_at f registers t v r some within h (cases_eq r t)

read_by : (c : lines.Core) (core : Core) (r : ℕ) (b : Bool) → (r == 0) ≡ b → Shows c core → (if b then 0 else c.registers r) ≡ (if b then 0 else slice_index core.registers r)
read_by c core r true e h = refl
read_by c core r false e h = h.registers r ∙ rw e refl

pub read : (c : lines.Core) (core : Core) → Shows c core → (r : ℕ) → lines.register c r ≡ register core r
read c core h r = read_by c core r (r == 0) refl h

puts_by : (c : lines.Core) (core : Core) (t v to : ℕ) (b n : Bool) → (t == 0) ≡ b → IsLawfulCore core → t < 32 → Shows c core
    → Leads core (Goes (if b then moved core to n else record (moved core to n) { registers = slice_set core.registers t v }))
    (record (if b then c else record c { registers = put t v c.registers }) { skip = n }) to
puts_by c core t v to true n e is small h = record {
  new = moved core to n;
  goes = refl;
  shows = record { registers = h.registers; memory = h.memory; shift = h.shift; skip = refl };
  heads = record { front = refl; back = refl; text = refl; data_start = refl; stopped = refl };
}
puts_by c core t v to false n e is small h = record {
  new = record (moved core to n) { registers = slice_set core.registers t v };
  goes = refl;
  shows = record {
    registers = put_shown c.registers core.registers t v e (omega (arith, small, is.registers.count)) h.registers;
    memory = h.memory;
    shift = h.shift;
    skip = refl;
  };
  heads = record { front = refl; back = refl; text = refl; data_start = refl; stopped = refl };
}

pub skip_kept : (c : lines.Core) (f : ℕ → ℕ) (b : Bool) → (if b then c else record c { registers = f }).skip ≡ c.skip
skip_kept c f true = refl
skip_kept c f false = refl

-- the skip bit is what it is
pub same_skip : (core : Core) (e : Effect) (c : lines.Core) (n : Bool) (to : ℕ) → c.skip ≡ n → Leads core e (record c { skip = n }) to → Leads core e c to
same_skip core e c n to s l = record {
  new = l.new;
  goes = l.goes;
  shows = record { registers = l.shows.registers; memory = l.shows.memory; shift = l.shows.shift; skip = s ∙ l.shows.skip };
  heads = l.heads;
}

-- a word goes into a register, and the instruction at an address comes after the next one
pub linked_done : (c : lines.Core) (core : Core) (t v to : ℕ) (n : Bool) → IsLawfulCore core → t < 32 → Shows c core
    → Leads core (Goes (with_register (moved core to n) t v)) (record (lines.with_register t v c) { skip = n }) to
linked_done c core t v to n is small h = puts_by c core t v to (t == 0) n refl is small h

pub puts_done : (c : lines.Core) (core : Core) (t v u : ℕ) → IsLawfulCore core → t < 32 → Shows c core → core.nullify ≡ false → v ≡ u
    → Leads core (puts core t u) (lines.with_register t v c) (next core)
puts_done c core t v u is small h run e =
    subst (λ u. Leads core (puts core t u) (lines.with_register t v c) (next core)) e
    (same_skip core (puts core t v) (lines.with_register t v c) false (next core)
    (skip_kept c (put t v c.registers) (t == 0) ∙ (h.skip ∙ run))
    (linked_done c core t v (next core) false is small h))

-- ---- memory

abbrev IsMemory : ℕ → (ℕ → ℕ) → List ℕ → Type 0
IsMemory low f memory = (a : ℕ) → low ≤ a → f a ≡ byte_at memory a

byte_here : (f : ℕ → ℕ) (memory : List ℕ) (a x y p : ℕ) → a < length memory → x ≡ y % 2 ^ 8 → f p ≡ byte_at memory p
    → (p ≡ a) ⊎ (p ≡ a → ⊥) → put a x f p ≡ byte_at (with_byte memory a y) p
byte_here f memory a x y p within e h (inl same) =
    put_same f a x p same ∙ (e ∙ (sym (get_or-set_same memory a (y % 2 ^ 8) 0 within) ∙ ap (λ k. byte_at (with_byte memory a y) k) (sym same)))
byte_here f memory a x y p within e h (inr other) = put_other f a x p other ∙ (h ∙ sym (get_or-set_other memory a p (y % 2 ^ 8) 0 other))

byte_put : (low : ℕ) (f : ℕ → ℕ) (memory : List ℕ) (a b x y : ℕ) → a ≡ b → b < length memory → x ≡ y % 2 ^ 8 → IsMemory low f memory
    → IsMemory low (put a x f) (with_byte memory b y)
byte_put low f memory a b x y same within e h =
    subst (λ b. IsMemory low (put a x f) (with_byte memory b y)) same
    (λ p le. byte_here f memory a x y p (omega (arith, same, within)) e (h p le) (cases_eq p a))

byte_size : (memory : List ℕ) (a value : ℕ) → length (with_byte memory a value) ≡ length memory
byte_size memory a value = length-set memory a (value % 2 ^ 8)

half_put : (low : ℕ) (f : ℕ → ℕ) (memory : List ℕ) (a v : ℕ) → a + 2 ≤ length memory → IsMemory low f memory
    → IsMemory low (with_number 2 v a f) (with_half memory a v)
half_put low f memory a v within h =
    let first = byte_put low f memory a a (v / 256 ^ 1 % 256) (v / 2 ^ 8) refl (omega (arith, within)) refl h in
    byte_put low (put a (v / 256 ^ 1 % 256) f) (with_byte memory a (v / 2 ^ 8)) (a + 1) (a + 1) (v / 256 ^ 0 % 256) v refl
    (omega (arith, within, byte_size memory a (v / 2 ^ 8))) (omega arith) first

word_put : (low : ℕ) (f : ℕ → ℕ) (memory : List ℕ) (a v : ℕ) → a + 4 ≤ length memory → IsMemory low f memory
    → IsMemory low (with_number 4 v a f) (with_word memory a v)
word_put low f memory a v within h =
    let f1 = put a (v / 256 ^ 3 % 256) f in
    let f2 = put (a + 1) (v / 256 ^ 2 % 256) f1 in
    let f3 = put (a + 1 + 1) (v / 256 ^ 1 % 256) f2 in
    let m1 = with_byte memory a (v / 2 ^ 16 / 2 ^ 8) in
    let m2 = with_byte m1 (a + 1) (v / 2 ^ 16) in
    let m3 = with_byte m2 (a + 2) (v / 2 ^ 8) in
    let n1 : length m1 ≡ length memory = byte_size memory a (v / 2 ^ 16 / 2 ^ 8) in
    let n2 : length m2 ≡ length memory = byte_size m1 (a + 1) (v / 2 ^ 16) ∙ n1 in
    let n3 : length m3 ≡ length memory = byte_size m2 (a + 2) (v / 2 ^ 8) ∙ n2 in
    let h1 : IsMemory low f1 m1 = byte_put low f memory a a (v / 256 ^ 3 % 256) (v / 2 ^ 16 / 2 ^ 8) refl (omega (arith, within)) (omega arith) h in
    let h2 : IsMemory low f2 m2 = byte_put low f1 m1 (a + 1) (a + 1) (v / 256 ^ 2 % 256) (v / 2 ^ 16) refl (omega (arith, within, n1)) (omega arith) h1 in
    let h3 : IsMemory low f3 m3 = byte_put low f2 m2 (a + 1 + 1) (a + 2) (v / 256 ^ 1 % 256) (v / 2 ^ 8) (omega arith) (omega (arith, within, n2)) refl h2 in
    byte_put low f3 m3 (a + 1 + 1 + 1) (a + 2 + 1) (v / 256 ^ 0 % 256) v (omega arith) (omega (arith, within, n3)) (omega arith) h3

-- what is read
byte_read : (low : ℕ) (f : ℕ → ℕ) (memory : List ℕ) (a : ℕ) → low ≤ a → IsMemory low f memory → number_at 1 f a ≡ byte_at memory a
byte_read low f memory a le h = omega (arith, h a le)

half_read : (low : ℕ) (f : ℕ → ℕ) (memory : List ℕ) (a : ℕ) → low ≤ a → IsMemory low f memory → number_at 2 f a ≡ half_at memory a
half_read low f memory a le h = omega (arith, h a le, h (a + 1) (omega (arith, le)))

word_read : (low : ℕ) (f : ℕ → ℕ) (memory : List ℕ) (a : ℕ) → low ≤ a → IsMemory low f memory → number_at 4 f a ≡ word_at memory a
word_read low f memory a le h =
    let third : f (a + 1 + 1) ≡ byte_at memory (a + 2) = h (a + 1 + 1) (omega (arith, le)) ∙ ap (λ k. byte_at memory k) (let e : a + 1 + 1 ≡ a + 2 = omega arith in e) in
    let fourth : f (a + 1 + 1 + 1) ≡ byte_at memory (a + 2 + 1) = h (a + 1 + 1 + 1) (omega (arith, le)) ∙ ap (λ k. byte_at memory k) (let e : a + 1 + 1 + 1 ≡ a + 2 + 1 = omega arith in e) in
    omega (arith, h a le, h (a + 1) (omega (arith, le)), third, fourth)

-- ---- accesses

not_less : (a b : ℕ) → b ≤ a → nat_lt a b ≡ false
not_less a b le = elim (nat_lt a b) as (λ t. nat_lt a b ≡ t → t ≡ false) [ true ↦ λ e. absurd (omega (arith, le, ltb-true a b e)) | false ↦ λ e. refl ] refl

pub record IsOpen (w : Addresses) (a size : ℕ) : Type 0 where
  pub aligned : (a % size == 0) ≡ true
  pub low : w.data_start ≤ a
  pub high : a + size ≤ memory_size

open_is : (w : Addresses) (a size : ℕ) → is_open w a size ≡ true → IsOpen w a size
open_is w a size e =
    let one = and_parts (a % size == 0) (nat_le w.data_start a && nat_le (a + size) memory_size) e in
    let two = and_parts (nat_le w.data_start a) (nat_le (a + size) memory_size) one.1 in
    record { aligned = one.0; low = leb-true w.data_start a two.0; high = leb-true (a + size) memory_size two.1 }

no_fault : (w : Addresses) (core : Core) (a size : ℕ) (stores : Bool) → core.data_start ≡ w.data_start → text_start ≤ core.data_start
    → IsOpen w a size → access_fault core a size stores ≡ None
no_fault w core a size true same above o =
    let one : nat_lt a text_start ≡ false = not_less a text_start (omega (arith, same, above, o.low)) in
    let two : nat_lt memory_size (a + size) ≡ false = not_less memory_size (a + size) o.high in
    let three : nat_lt a core.data_start ≡ false = not_less a core.data_start (omega (arith, same, o.low)) in
    rw (o.aligned, one, two, three) refl
no_fault w core a size false same above o =
    let one : nat_lt a text_start ≡ false = not_less a text_start (omega (arith, same, above, o.low)) in
    let two : nat_lt memory_size (a + size) ≡ false = not_less memory_size (a + size) o.high in
    rw (o.aligned, one, two) refl

pub leads_by : (core : Core) (e f : Effect) (c : lines.Core) (to : ℕ) → e ≡ f → Leads core f c to → Leads core e c to
leads_by core e f c to same l = record { new = l.new; goes = same ∙ l.goes; shows = l.shows; heads = l.heads }

data_above : (core : Core) → IsLawfulCore core → text_start ≤ core.data_start
data_above core is = omega (arith, is.memory.data_from)

loads_by : (w : Addresses) (c : lines.Core) (core : Core) (size a t v u : ℕ) (b : Bool) → is_open w a size ≡ b → core.data_start ≡ w.data_start
    → IsLawfulCore core → t < 32 → Shows c core → core.nullify ≡ false → (core.data_start ≤ a → v ≡ u)
    → DoesSo core (machine.loads core a size t u) (if b then Acts (lines.with_register t v c) else Fails)
loads_by w c core size a t v u true e same is small h run read =
    let o = open_is w a size e in
    leads_by core (machine.loads core a size t u) (puts core t u) (lines.with_register t v c) (next core)
    (ap (λ f. machine.unless f core (puts core t u)) (no_fault w core a size false same (data_above core is) o))
    (puts_done c core t v u is small h run (read (omega (arith, same, o.low))))
loads_by w c core size a t v u false e same is small h run read = tt

stores_by : (w : Addresses) (c : lines.Core) (core : Core) (size a : ℕ) (f : ℕ → ℕ) (memory : List ℕ) (b : Bool) → is_open w a size ≡ b
    → core.data_start ≡ w.data_start → IsLawfulCore core → Shows c core → core.nullify ≡ false
    → (a + size ≤ length core.memory → IsMemory core.data_start f memory)
    → DoesSo core (machine.stores core a size memory) (if b then Acts (record c { memory = f }) else Fails)
stores_by w c core size a f memory true e same is h run puts =
    let o = open_is w a size e in
    record {
      new = record (advanced core) { memory = memory };
      goes = ap (λ f. machine.unless f core (Goes (record (advanced core) { memory = memory }))) (no_fault w core a size true same (data_above core is) o);
      shows = record { registers = h.registers; memory = puts (omega (arith, o.high, is.memory.size)); shift = h.shift; skip = h.skip ∙ run };
      heads = record { front = refl; back = refl; text = refl; data_start = refl; stopped = refl };
    }
stores_by w c core size a f memory false e same is h run puts = tt

-- ---- instructions

-- a core of the machine that shows one of the run of lines, before an instruction that is not passed over
pub record Meets (w : Addresses) (c : lines.Core) (core : Core) : Type 0 where
  pub starts : core.data_start ≡ w.data_start
  pub lawful : IsLawfulCore core
  pub shows : Shows c core
  pub run : core.nullify ≡ false

puts_so : (w : Addresses) (c : lines.Core) (core : Core) (t v u : ℕ) → Meets w c core → t < 32 → v ≡ u
    → DoesSo core (puts core t u) (Acts (lines.with_register t v c))
puts_so w c core t v u m small e = puts_done c core t v u m.lawful small m.shows m.run e

loads_byte : (w : Addresses) (c : lines.Core) (core : Core) (a b t : ℕ) → Meets w c core → t < 32 → a ≡ b
    → DoesSo core (machine.loads core b 1 t (byte_at core.memory b)) (lines.loads w 1 a t c)
loads_byte w c core a b t m small e =
    subst (λ b. DoesSo core (machine.loads core b 1 t (byte_at core.memory b)) (lines.loads w 1 a t c)) e
    (loads_by w c core 1 a t (number_at 1 c.memory a) (byte_at core.memory a) (is_open w a 1) refl m.starts m.lawful small m.shows m.run
    (λ le. byte_read core.data_start c.memory core.memory a le m.shows.memory))

loads_half : (w : Addresses) (c : lines.Core) (core : Core) (a b t : ℕ) → Meets w c core → t < 32 → a ≡ b
    → DoesSo core (machine.loads core b 2 t (half_at core.memory b)) (lines.loads w 2 a t c)
loads_half w c core a b t m small e =
    subst (λ b. DoesSo core (machine.loads core b 2 t (half_at core.memory b)) (lines.loads w 2 a t c)) e
    (loads_by w c core 2 a t (number_at 2 c.memory a) (half_at core.memory a) (is_open w a 2) refl m.starts m.lawful small m.shows m.run
    (λ le. half_read core.data_start c.memory core.memory a le m.shows.memory))

loads_word : (w : Addresses) (c : lines.Core) (core : Core) (a b t : ℕ) → Meets w c core → t < 32 → a ≡ b
    → DoesSo core (machine.loads core b 4 t (word_at core.memory b)) (lines.loads w 4 a t c)
loads_word w c core a b t m small e =
    subst (λ b. DoesSo core (machine.loads core b 4 t (word_at core.memory b)) (lines.loads w 4 a t c)) e
    (loads_by w c core 4 a t (number_at 4 c.memory a) (word_at core.memory a) (is_open w a 4) refl m.starts m.lawful small m.shows m.run
    (λ le. word_read core.data_start c.memory core.memory a le m.shows.memory))

-- what is stored stands in the same register
stores_byte : (w : Addresses) (c : lines.Core) (core : Core) (a b r : ℕ) → Meets w c core → a ≡ b
    → DoesSo core (machine.stores core b 1 (with_byte core.memory b (register core r))) (lines.stores w 1 a (lines.register c r) c)
stores_byte w c core a b r m e =
    subst (λ b. DoesSo core (machine.stores core b 1 (with_byte core.memory b (register core r))) (lines.stores w 1 a (lines.register c r) c)) e
    (subst (λ v. DoesSo core (machine.stores core a 1 (with_byte core.memory a v)) (lines.stores w 1 a (lines.register c r) c)) (read c core m.shows r)
    (stores_by w c core 1 a (with_number 1 (lines.register c r) a c.memory) (with_byte core.memory a (lines.register c r)) (is_open w a 1) refl m.starts m.lawful m.shows m.run
    (λ within. byte_put core.data_start c.memory core.memory a a (lines.register c r / 256 ^ 0 % 256) (lines.register c r) refl (omega (arith, within)) (omega arith) m.shows.memory)))

stores_half : (w : Addresses) (c : lines.Core) (core : Core) (a b r : ℕ) → Meets w c core → a ≡ b
    → DoesSo core (machine.stores core b 2 (with_half core.memory b (register core r))) (lines.stores w 2 a (lines.register c r) c)
stores_half w c core a b r m e =
    subst (λ b. DoesSo core (machine.stores core b 2 (with_half core.memory b (register core r))) (lines.stores w 2 a (lines.register c r) c)) e
    (subst (λ v. DoesSo core (machine.stores core a 2 (with_half core.memory a v)) (lines.stores w 2 a (lines.register c r) c)) (read c core m.shows r)
    (stores_by w c core 2 a (with_number 2 (lines.register c r) a c.memory) (with_half core.memory a (lines.register c r)) (is_open w a 2) refl m.starts m.lawful m.shows m.run
    (λ within. half_put core.data_start c.memory core.memory a (lines.register c r) within m.shows.memory)))

stores_word : (w : Addresses) (c : lines.Core) (core : Core) (a b r : ℕ) → Meets w c core → a ≡ b
    → DoesSo core (machine.stores core b 4 (with_word core.memory b (register core r))) (lines.stores w 4 a (lines.register c r) c)
stores_word w c core a b r m e =
    subst (λ b. DoesSo core (machine.stores core b 4 (with_word core.memory b (register core r))) (lines.stores w 4 a (lines.register c r) c)) e
    (subst (λ v. DoesSo core (machine.stores core a 4 (with_word core.memory a v)) (lines.stores w 4 a (lines.register c r) c)) (read c core m.shows r)
    (stores_by w c core 4 a (with_number 4 (lines.register c r) a c.memory) (with_word core.memory a (lines.register c r)) (is_open w a 4) refl m.starts m.lawful m.shows m.run
    (λ within. word_put core.data_start c.memory core.memory a (lines.register c r) within m.shows.memory)))

breaks_by : (core : Core) (im5 im13 : ℕ) (b : Bool) → ((im5 == 0) && (im13 == 4)) ≡ b → DoesSo core (machine.breaks core im5 im13) (if b then Full else Fails)
breaks_by core im5 im13 true e =
    let both = and_parts (im5 == 0) (im13 == 4) e in
    subst (λ k. machine.breaks core k im13 ≡ Stops StackStop) (sym (eqb-true im5 0 both.0))
    (subst (λ k. machine.breaks core 0 k ≡ Stops StackStop) (sym (eqb-true im13 4 both.1)) refl)
breaks_by core im5 im13 false e = tt

address_same : (w : Addresses) (c : lines.Core) (core : Core) (b : ℕ) (im : ℤ) → Meets w c core → offset_by (lines.register c b) im ≡ machine.address core b im
address_same w c core b im m = ap (λ x. (x + cast_unsigned w32 im) % 2 ^ 32) (read c core m.shows b)

-- by the registers that it reads
one : (w : Addresses) (c : lines.Core) (core : Core) (f : ℕ → ℕ) (r : ℕ) → Meets w c core → f (lines.register c r) ≡ f (register core r)
one w c core f r m = ap f (read c core m.shows r)

two : (w : Addresses) (c : lines.Core) (core : Core) (f : ℕ → ℕ → ℕ) (r s : ℕ) → Meets w c core
    → f (lines.register c r) (lines.register c s) ≡ f (register core r) (register core s)
two w c core f r s m = ap (λ x. f x (lines.register c s)) (read c core m.shows r) ∙ ap (λ y. f (register core r) y) (read c core m.shows s)

shifts_so : (w : Addresses) (c : lines.Core) (core : Core) (r : ℕ) → Meets w c core
    → DoesSo core (Goes (record (advanced core) { shift = register core r % 32 })) (Acts (record c { shift = lines.register c r % 32 }))
shifts_so w c core r m = record {
  new = record (advanced core) { shift = register core r % 32 };
  goes = refl;
  shows = record { registers = m.shows.registers; memory = m.shows.memory; shift = one w c core (λ x. x % 32) r m; skip = m.shows.skip ∙ m.run };
  heads = record { front = refl; back = refl; text = refl; data_start = refl; stopped = refl };
}

passes_so : (w : Addresses) (c : lines.Core) (core : Core) (t : ℕ) (n o : Bool) → Meets w c core → t < 32 → n ≡ o
    → DoesSo core (Goes (with_register (moved core (next core) o) t 0)) (Acts (record (lines.with_register t 0 c) { skip = n }))
passes_so w c core t n o m small e =
    subst (λ o. Leads core (Goes (with_register (moved core (next core) o) t 0)) (record (lines.with_register t 0 c) { skip = n }) (next core)) e
    (linked_done c core t 0 (next core) n m.lawful small m.shows)

pub compares_shown : (c : lines.Core) (core : Core) (k r s : ℕ) → Shows c core
    → condition k (lines.register c r) (lines.register c s) ≡ condition k (register core r) (register core s)
compares_shown c core k r s h =
    ap (λ x. condition k x (lines.register c s)) (read c core h r) ∙ ap (λ y. condition k (register core r) y) (read c core h s)

executed_so : (w : Addresses) (c : lines.Core) (core : Core) (i : Inst) → Meets w c core → IsInRange i
    → DoesSo core (machine.executed core i) (lines.executed w i c)
unfolding IsInRange
executed_so w c core (Ldb im b t) m k = loads_byte w c core (offset_by (lines.register c b) im) (machine.address core b im) t m k.2 (address_same w c core b im m)
executed_so w c core (Ldh im b t) m k = loads_half w c core (offset_by (lines.register c b) im) (machine.address core b im) t m k.2 (address_same w c core b im m)
executed_so w c core (Ldw im b t) m k = loads_word w c core (offset_by (lines.register c b) im) (machine.address core b im) t m k.2 (address_same w c core b im m)
executed_so w c core (Ldo im b t) m k = puts_so w c core t (offset_by (lines.register c b) im) (machine.address core b im) m k.2 (address_same w c core b im m)
executed_so w c core (Stb r im b) m k = stores_byte w c core (offset_by (lines.register c b) im) (machine.address core b im) r m (address_same w c core b im m)
executed_so w c core (Sth r im b) m k = stores_half w c core (offset_by (lines.register c b) im) (machine.address core b im) r m (address_same w c core b im m)
executed_so w c core (Stw r im b) m k = stores_word w c core (offset_by (lines.register c b) im) (machine.address core b im) r m (address_same w c core b im m)
executed_so w c core (Ldil im t) m k = puts_so w c core t (im * 2048) (im * 2048) m k.1 refl
executed_so w c core (And r1 r2 t) m k = puts_so w c core t _ _ m k.2 (two w c core (λ x y. bit_and x y) r1 r2 m)
executed_so w c core (Or r1 r2 t) m k = puts_so w c core t _ _ m k.2 (two w c core (λ x y. bit_or x y) r1 r2 m)
executed_so w c core (Xor r1 r2 t) m k = puts_so w c core t _ _ m k.2 (two w c core (λ x y. bit_xor x y) r1 r2 m)
executed_so w c core (Sub r1 r2 t) m k = puts_so w c core t _ _ m k.2 (two w c core (λ x y. unsigned_difference x y) r1 r2 m)
executed_so w c core (Addl r1 r2 t) m k = puts_so w c core t _ _ m k.2 (two w c core (λ x y. (x + y) % 2 ^ 32) r1 r2 m)
executed_so w c core (Vshd r1 r2 t) m k =
    puts_so w c core t _ _ m k.2
    (two w c core (λ x y. (x * 2 ^ 32 + y) / 2 ^ c.shift % 2 ^ 32) r1 r2 m
    ∙ ap (λ (s : ℕ). (register core r1 * 2 ^ 32 + register core r2) / 2 ^ s % 2 ^ 32) m.shows.shift)
executed_so w c core (Mtctl r) m k = shifts_so w c core r m
executed_so w c core (Comclr x f r1 r2 t) m k =
    passes_so w c core t _ _ m k.3 (ap (λ (b : Bool). if f then not b else b) (compares_shown c core x r1 r2 m.shows))
executed_so w c core (Subi im r t) m k = puts_so w c core t _ _ m k.2 (one w c core (λ x. unsigned_difference (cast_unsigned w32 im) x) r m)
executed_so w c core (Extru r p len t) m k = puts_so w c core t _ _ m k.2 (one w c core (λ x. extracted x p len) r m)
executed_so w c core (Extrs r p len t) m k = puts_so w c core t _ _ m k.2 (one w c core (λ x. sign_extended len (extracted x p len)) r m)
executed_so w c core (Zdep r p len t) m k = puts_so w c core t _ _ m k.2 (one w c core (λ x. deposited x p len) r m)
executed_so w c core (Combt x r1 r2 disp) m k = tt
executed_so w c core (Combf x r1 r2 disp) m k = tt
executed_so w c core (Bl disp t n) m k = tt
executed_so w c core (Bv b n) m k = tt
executed_so w c core (Ble b n) m k = tt
executed_so w c core (Break im5 im13) m k = breaks_by core im5 im13 ((im5 == 0) && (im13 == 4)) refl

-- ---- the word at front

pub effect_runs : (core : Core) (i : Inst) → is_in_text core core.front ≡ true → core.nullify ≡ false → decoded (word_at core.memory core.front) ≡ Some i
    → effect_of core ≡ machine.executed core i
unfolding effect_of
effect_runs core i t n d = rw (t, n, d) refl

pub effect_passes : (core : Core) → is_in_text core core.front ≡ true → core.nullify ≡ true → effect_of core ≡ Goes (advanced core)
unfolding effect_of
effect_passes core t n = rw (t, n) refl

so_by : (core : Core) (e f : Effect) (a : Act) → e ≡ f → DoesSo core f a → DoesSo core e a
so_by core e f a same h = subst (λ e. DoesSo core e a) (sym same) h

word_by : (w : Addresses) (c : lines.Core) (core : Core) (i : Inst) (n : Bool) → core.nullify ≡ n → core.data_start ≡ w.data_start → IsLawfulCore core
    → IsInRange i → Shows c core → is_in_text core core.front ≡ true → decoded (word_at core.memory core.front) ≡ Some i
    → DoesSo core (effect_of core) (if n then Acts (record c { skip = false }) else lines.executed w i c)
word_by w c core i true n same is k h text d =
    so_by core (effect_of core) (Goes (advanced core)) (Acts (record c { skip = false })) (effect_passes core text n) (record {
      new = advanced core;
      goes = refl;
      shows = record { registers = h.registers; memory = h.memory; shift = h.shift; skip = refl };
      heads = record { front = refl; back = refl; text = refl; data_start = refl; stopped = refl };
    })
word_by w c core i false n same is k h text d =
    so_by core (effect_of core) (machine.executed core i) (lines.executed w i c) (effect_runs core i text n d)
    (executed_so w c core i (record { starts = same; lawful = is; shows = h; run = n }) k)

-- Where an instruction is next, the machine does what it does as a word of the lines.
pub word_done : (w : Addresses) (c : lines.Core) (core : Core) (i : Inst) → core.data_start ≡ w.data_start → IsLawfulCore core
    → IsInRange i → Shows c core → is_in_text core core.front ≡ true → decoded (word_at core.memory core.front) ≡ Some i
    → DoesSo core (effect_of core) (acts w (Some i) c)
word_done w c core i same is k h text d =
    subst (λ (b : Bool). DoesSo core (effect_of core) (if b then Acts (record c { skip = false }) else lines.executed w i c)) (sym h.skip)
    (word_by w c core i core.nullify refl same is k h text d)
