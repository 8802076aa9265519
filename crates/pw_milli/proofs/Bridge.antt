-- The machine does what the small machine does, where the words of the code stand in its memory.
use Rattle.std.proofs.Common.{ℕ, zero, suc, ℤ, ◌+◌, ◌-◌, ◌*◌, ◌/◌, ◌%◌, ◌^◌, ◌<◌, ◌≤◌, ◌≡◌, ◌⊎◌, inl, inr, Bool, true, false, List, Option, Some, None, length, refl, sym, ap, subst, ◌∙◌, arith, add-one}
use Rattle.std.specs.Prelude.{◌==◌, ◌&&◌, nat_lt, nat_le, bit_and, if◌then◌else◌, slice_index, slice_set}
use Rattle.std.specs.Int.{cast_unsigned, w32}
use Rattle.std.proofs.lemmas.Bool.{cases_eq, cases_lt, and_parts, ltb-true, leb-true, le-leb, lt-ltb, ne_eqb, eq-eqb}
use Rattle.std.proofs.lemmas.Bool.Decides.{nat_tests}
use Rattle.std.proofs.lemmas.List.{get_or-set_same, get_or-set_other}
use Rattle.std.proofs.lemmas.Nat.{and_le_l, or_of_32, xor_of_32, mod_below, pow_pos, shl_below}
use Rattle.std.proofs.Math.ListN.{length-set}
use Rattle.std.proofs.Math.Nat.{pow-le-pow_right, add-zero}
use Rattle.pw_value.specs.Limits.{text_start, word_limit}
use Rattle.pw_inst.specs.declared.Inst.{Inst}
use Rattle.pw_inst.specs.declared.Inst.TheVariants.{Ldb, Ldh, Ldw, Ldo, Stb, Sth, Stw, Ldil, And, Or, Xor, Sub, Addl, Vshd, Mtctl, Comclr, Subi, Extru, Extrs, Zdep, Combt, Combf, Bl, Bv, Ble, Break}
use Rattle.pw_inst.specs.InstructionTable.{decoded}
use Rattle.pw_machine.specs.Core.{Core, register, with_register, next, moved, advanced, word_at}
use Rattle.pw_value.specs.Words.{unsigned_difference}
use Rattle.pw_inst.specs.Computing.{extracted, sign_extended, deposited}
use Rattle.pw_machine.specs.Effect.{Effect, Goes, puts, executed, effect_of, is_in_text, branches_if}
use Rattle.pw_machine.specs.Run.{State, Running, goes_on, taken, run_of}
use Rattle.pw_milli.specs.Calls.{is_scratch, is_access, IsInside, StaysInside}
use Rattle.pw_milli.proofs.Small.{Small, at, read, set, when, writes, hop, jumps, skips, is_field, does, inst_at, does_some, passed, small_step, then_run, small_run}

-- ---- registers

-- a list of registers shows the registers of the small machine, and differs from the first one in scratch registers alone
pub record Holds (base : List ℕ) (f : ℕ → ℕ) (registers : List ℕ) : Type 0 where
  pub count : length registers ≡ 32
  pub reads : (r : ℕ) → slice_index registers r ≡ f r
  pub kept : (r : ℕ) → is_scratch r ≡ false → slice_index registers r ≡ slice_index base r
  pub in_range : (r : ℕ) → f r < 2 ^ 32

scratch_small : (t : ℕ) → is_scratch t ≡ true → (t < 32) × (0 < t)
scratch_small t h = grind (arith, nat_tests)

scratch_apart : (r t : ℕ) → is_scratch r ≡ false → is_scratch t ≡ true → r ≡ t → ⊥
scratch_apart r t h k e = let same : is_scratch r ≡ is_scratch t = ap is_scratch e in cc

set_same : (f : ℕ → ℕ) (t v r : ℕ) → r ≡ t → set f t v r ≡ v
set_same f t v r e = rw (eq-eqb r t e) refl

set_other : (f : ℕ → ℕ) (t v r : ℕ) → (r ≡ t → ⊥) → set f t v r ≡ f r
set_other f t v r ne = rw (ne_eqb r t ne) refl

reads_set : (f : ℕ → ℕ) (t v : ℕ) (registers : List ℕ) (r : ℕ) → t < length registers → slice_index registers r ≡ f r → (r ≡ t) ⊎ (r ≡ t → ⊥) → slice_index (slice_set registers t v) r ≡ set f t v r
reads_set f t v registers r lt h (inl e) = subst (λ (k : ℕ). slice_index (slice_set registers t v) k ≡ v) (sym e) (get_or-set_same registers t v 0 lt) ∙ sym (set_same f t v r e)
reads_set f t v registers r lt h (inr ne) = get_or-set_other registers t r v 0 ne ∙ h ∙ sym (set_other f t v r ne)

range_set : (f : ℕ → ℕ) (t v r : ℕ) → f r < 2 ^ 32 → v < 2 ^ 32 → (r ≡ t) ⊎ (r ≡ t → ⊥) → set f t v r < 2 ^ 32
range_set f t v r h k (inl e) = let same : set f t v r ≡ v = set_same f t v r e in omega arith
range_set f t v r h k (inr ne) = let same : set f t v r ≡ f r = set_other f t v r ne in omega arith

pub Holds-set : (base : List ℕ) (f : ℕ → ℕ) (registers : List ℕ) (t v : ℕ) → Holds base f registers → is_scratch t ≡ true → v < 2 ^ 32 → Holds base (set f t v) (slice_set registers t v)
Holds-set base f registers t v h s lt =
    let count : length registers ≡ 32 = h.count in
    let below : t < length registers = let small = scratch_small t s in omega (arith, small.0) in
    record {
      count = length-set registers t v ∙ count;
      reads = λ r. reads_set f t v registers r below (h.reads r) (cases_eq r t);
      kept = λ r k. get_or-set_other registers t r v 0 (scratch_apart r t k s) ∙ h.kept r k;
      in_range = λ r. range_set f t v r (h.in_range r) lt (cases_eq r t);
    }

-- ---- states

-- the machine's state that shows a state of the small machine, the code standing at an address
abbrev pub shown : Core → ℕ → Small → List ℕ → Core
shown base a w registers = record base { registers = registers; front = a + 4 * w.front; back = a + 4 * w.back; nullify = w.nullify }

pub record Steps (base : Core) (a : ℕ) (w : Small) (e : Effect) : Type 0 where
  pub registers : List ℕ
  pub goes : e ≡ Goes (shown base a w registers)
  pub holds : Holds base.registers w.registers registers

read-shown : (base : Core) (a : ℕ) (w : Small) (registers : List ℕ) → Holds base.registers w.registers registers → (r : ℕ) → register (shown base a w registers) r ≡ read w.registers r
read-shown base a w registers h r = rw (h.reads r) refl

read_range : (f : ℕ → ℕ) (r : ℕ) → ((k : ℕ) → f k < 2 ^ 32) → read f r < 2 ^ 32
read_range f r h = grind (arith, h r)

pub when-some : {A : Type 0} (b : Bool) (x y : A) → when b x ≡ Some y → (b ≡ true) × (x ≡ y)
when-some true x y e = (refl, cc)
when-some false x y e = absurd cc

-- the addresses of places no further than the end of the code, and the one behind
after_back : (a k size : ℕ) → a + 4 * size < text_start + 4 * word_limit → k ≤ size → (a + 4 * k + 4) % 2 ^ 32 ≡ a + 4 * (k + 1)
after_back a k size lt le = omega arith

writes-step : (base : Core) (a size : ℕ) (w w' : Small) (registers : List ℕ) (t v u : ℕ) → a + 4 * size < text_start + 4 * word_limit → w.back ≤ size → Holds base.registers w.registers registers → u ≡ v → v < 2 ^ 32 → writes w t v ≡ Some w' → Steps base a w' (puts (shown base a w registers) t u)
writes-step base a size w w' registers t v u lt le h same range e =
    let is = when-some (is_scratch t) _ w' e in
    let small = scratch_small t is.0 in
    let zero_not : (t == 0) ≡ false = ne_eqb t 0 (λ z. omega (arith, small.1)) in
    let next_is : (a + 4 * w.back + 4) % 2 ^ 32 ≡ a + 4 * (w.back + 1) = after_back a w.back size lt le in
    subst (λ (x : Small). Steps base a x (puts (shown base a w registers) t u)) is.1
    (record {
      registers = slice_set registers t v;
      goes = rw (zero_not, next_is, same) refl;
      holds = Holds-set base.registers w.registers registers t v h is.0 range;
    })

-- ---- the forms

jumps-step : (base : Core) (a size k : ℕ) (w w' : Small) (registers : List ℕ) (taken taken' : Bool) (disp : ℤ) → a + 4 * size < text_start + 4 * word_limit → w.back ≤ size → Holds base.registers w.registers registers → taken' ≡ taken → w.front ≡ k → jumps size w taken (hop k disp) ≡ Some w' → Steps base a w' (branches_if (shown base a w registers) taken' disp)
jumps-step base a size k w w' registers taken taken' disp lt le h same front e =
    let is = when-some (nat_le (hop k disp) size) _ w' e in
    let to : hop k disp ≤ size = leb-true (hop k disp) size is.0 in
    let next_is : (a + 4 * w.back + 4) % 2 ^ 32 ≡ a + 4 * (w.back + 1) = after_back a w.back size lt le in
    let target_is : (a + 4 * w.front + 8 + 4 * cast_unsigned w32 disp) % 2 ^ 32 ≡ a + 4 * hop k disp = omega arith in
    let choice : (if taken then a + 4 * hop k disp else a + 4 * (w.back + 1)) ≡ a + 4 * (if taken then hop k disp else w.back + 1) =
    elim taken as (λ b. (if b then a + 4 * hop k disp else a + 4 * (w.back + 1)) ≡ a + 4 * (if b then hop k disp else w.back + 1)) [ true ↦ refl | false ↦ refl ] in
    subst (λ (x : Small). Steps base a x (branches_if (shown base a w registers) taken' disp)) is.1
    (record {
      registers = registers;
      goes = rw (same, next_is, target_is, choice) refl;
      holds = h;
    })

skips-step : (base : Core) (a size : ℕ) (w w' : Small) (registers : List ℕ) (t : ℕ) (skip skip' : Bool) → a + 4 * size < text_start + 4 * word_limit → w.back ≤ size → Holds base.registers w.registers registers → skip' ≡ skip → skips w t skip ≡ Some w' → Steps base a w' (Goes (with_register (moved (shown base a w registers) (next (shown base a w registers)) skip') t 0))
skips-step base a size w w' registers t skip skip' lt le h same e =
    let is = when-some (t == 0) _ w' e in
    let next_is : (a + 4 * w.back + 4) % 2 ^ 32 ≡ a + 4 * (w.back + 1) = after_back a w.back size lt le in
    subst (λ (x : Small). Steps base a x (Goes (with_register (moved (shown base a w registers) (next (shown base a w registers)) skip') t 0))) is.1
    (record {
      registers = registers;
      goes = rw (is.0, next_is, same) refl;
      holds = h;
    })

-- fields of words are words

is_field-parts : (p len : ℕ) → is_field p len ≡ true → (1 ≤ len) × (len ≤ p + 1) × (p < 32)
is_field-parts p len e = grind (arith, nat_tests)

pow_le_32 : (len : ℕ) → len ≤ 32 → 2 ^ len ≤ 2 ^ 32
pow_le_32 len le = pow-le-pow_right {n = 2} (omega arith) le

extracted_range : (word p len : ℕ) → len ≤ 32 → extracted word p len < 2 ^ 32
extracted_range word p len le =
    let small : word / 2 ^ (31 - p) % 2 ^ len < 2 ^ len = mod_below (word / 2 ^ (31 - p)) (2 ^ len) (pow_pos len) in
    let le : 2 ^ len ≤ 2 ^ 32 = pow_le_32 len le in
    omega (arith, small, le)

sign_extended_range : (bits len : ℕ) → len ≤ 32 → bits < 2 ^ len → sign_extended len bits < 2 ^ 32
sign_extended_range bits len le lt =
    let whole : 2 ^ len ≤ 2 ^ 32 = pow_le_32 len le in
    elim (nat_lt bits (2 ^ (len - 1))) as (λ b. (if b then bits else 2 ^ 32 - 2 ^ len + bits) < 2 ^ 32) [ true ↦ omega arith | false ↦ omega arith ]

deposited_range : (word p len : ℕ) → len ≤ p + 1 → p < 32 → deposited word p len < 2 ^ 32
deposited_range word p len le lt =
    let low : word % 2 ^ len < 2 ^ len = mod_below word (2 ^ len) (pow_pos len) in
    let shifted : word % 2 ^ len * 2 ^ (31 - p) < 2 ^ (len + (31 - p)) = shl_below (word % 2 ^ len) len (31 - p) low in
    let whole : 2 ^ (len + (31 - p)) ≤ 2 ^ 32 = pow_le_32 (len + (31 - p)) (omega arith) in
    omega (arith, shifted, whole)

-- an instruction with a field is done where the field is one
if_field : {A : Type 0} (b : Bool) (x : Option A) (y : A) → (if b then x else None) ≡ Some y → (b ≡ true) × (x ≡ Some y)
if_field true x y e = (refl, e)
if_field false x y e = absurd cc

difference_range : (a b : ℕ) → unsigned_difference a b < 2 ^ 32
difference_range a b = omega arith

and_range : (a b : ℕ) → a < 2 ^ 32 → bit_and a b < 2 ^ 32
and_range a b lt = let le : bit_and a b ≤ a = and_le_l a b in omega arith

pub does-step : (base : Core) (a size : ℕ) (w w' : Small) (registers : List ℕ) → a + 4 * size < text_start + 4 * word_limit → w.back ≤ size → Holds base.registers w.registers registers → (i : Inst) → does size w i ≡ Some w' → Steps base a w' (executed (shown base a w registers) i)
does-step base a size w w' registers lt le h (And r1 r2 t) e =
    let r = read-shown base a w registers h in
    writes-step base a size w w' registers t _ _ lt le h (rw (r r1, r r2) refl) (and_range _ _ (read_range w.registers r1 h.in_range)) e
does-step base a size w w' registers lt le h (Or r1 r2 t) e =
    let r = read-shown base a w registers h in
    writes-step base a size w w' registers t _ _ lt le h (rw (r r1, r r2) refl) (or_of_32 _ _ (read_range w.registers r1 h.in_range) (read_range w.registers r2 h.in_range)) e
does-step base a size w w' registers lt le h (Xor r1 r2 t) e =
    let r = read-shown base a w registers h in
    writes-step base a size w w' registers t _ _ lt le h (rw (r r1, r r2) refl) (xor_of_32 _ _ (read_range w.registers r1 h.in_range) (read_range w.registers r2 h.in_range)) e
does-step base a size w w' registers lt le h (Sub r1 r2 t) e =
    let r = read-shown base a w registers h in
    writes-step base a size w w' registers t _ _ lt le h (rw (r r1, r r2) refl) (difference_range _ _) e
does-step base a size w w' registers lt le h (Addl r1 r2 t) e =
    let r = read-shown base a w registers h in
    writes-step base a size w w' registers t _ _ lt le h (rw (r r1, r r2) refl) (omega arith) e
does-step base a size w w' registers lt le h (Ldo im b t) e =
    let r = read-shown base a w registers h in
    writes-step base a size w w' registers t _ _ lt le h (rw (r b) refl) (omega arith) e
does-step base a size w w' registers lt le h (Extru r1 p len t) e =
    let r = read-shown base a w registers h in
    let field = if_field (is_field p len) _ w' e in
    let parts = is_field-parts p len field.0 in
    writes-step base a size w w' registers t _ _ lt le h (rw (r r1) refl) (extracted_range _ p len (omega (arith, parts.1, parts.2))) field.1
does-step base a size w w' registers lt le h (Extrs r1 p len t) e =
    let r = read-shown base a w registers h in
    let field = if_field (is_field p len) _ w' e in
    let parts = is_field-parts p len field.0 in
    writes-step base a size w w' registers t _ _ lt le h (rw (r r1) refl) (sign_extended_range _ len (omega (arith, parts.1, parts.2)) (mod_below _ (2 ^ len) (pow_pos len))) field.1
does-step base a size w w' registers lt le h (Zdep r1 p len t) e =
    let r = read-shown base a w registers h in
    let field = if_field (is_field p len) _ w' e in
    let parts = is_field-parts p len field.0 in
    writes-step base a size w w' registers t _ _ lt le h (rw (r r1) refl) (deposited_range _ p len parts.1 parts.2) field.1
does-step base a size w w' registers lt le h (Comclr c f r1 r2 t) e =
    let r = read-shown base a w registers h in
    skips-step base a size w w' registers t _ _ lt le h (rw (r r1, r r2) refl) e
does-step base a size w w' registers lt le h (Combt c r1 r2 disp) e =
    let r = read-shown base a w registers h in
    jumps-step base a size w.front w w' registers _ _ disp lt le h (rw (r r1, r r2) refl) refl e
does-step base a size w w' registers lt le h (Combf c r1 r2 disp) e =
    let r = read-shown base a w registers h in
    jumps-step base a size w.front w w' registers _ _ disp lt le h (rw (r r1, r r2) refl) refl e
does-step base a size w w' registers lt le h (Ldb im b t) e = absurd cc
does-step base a size w w' registers lt le h (Ldh im b t) e = absurd cc
does-step base a size w w' registers lt le h (Ldw im b t) e = absurd cc
does-step base a size w w' registers lt le h (Stb r im b) e = absurd cc
does-step base a size w w' registers lt le h (Sth r im b) e = absurd cc
does-step base a size w w' registers lt le h (Stw r im b) e = absurd cc
does-step base a size w w' registers lt le h (Ldil im t) e = absurd cc
does-step base a size w w' registers lt le h (Vshd r1 r2 t) e = absurd cc
does-step base a size w w' registers lt le h (Mtctl r) e = absurd cc
does-step base a size w w' registers lt le h (Subi im r t) e = absurd cc
does-step base a size w w' registers lt le h (Bl disp t n) e = absurd cc
does-step base a size w w' registers lt le h (Bv b n) e = absurd cc
does-step base a size w w' registers lt le h (Ble b n) e = absurd cc
does-step base a size w w' registers lt le h (Break im5 im13) e = absurd cc

-- ---- steps and runs

-- the instructions of the code stand as words from an address on, and the text goes on behind them
pub record Stands (code : List Inst) (a : ℕ) (core : Core) : Type 0 where
  pub aligned : a % 4 ≡ 0
  pub above : text_start ≤ a
  pub within : a + 4 * length code < text_start + 4 * core.text
  pub text : core.text ≤ word_limit
  pub each : (k : ℕ) (i : Inst) → inst_at code k ≡ Some i → decoded (word_at core.memory (a + 4 * k)) ≡ Some i

pub in_text : (core : Core) (code : List Inst) (a k : ℕ) → Stands code a core → k ≤ length code → is_in_text core (a + 4 * k) ≡ true
in_text core code a k h le =
    let one : ((a + 4 * k) % 4 == 0) ≡ true = eq-eqb ((a + 4 * k) % 4) 0 (omega (arith, h.aligned)) in
    let two : nat_le text_start (a + 4 * k) ≡ true = le-leb text_start (a + 4 * k) (omega (arith, h.above)) in
    let three : nat_lt (a + 4 * k) (text_start + 4 * core.text) ≡ true = lt-ltb (a + 4 * k) (text_start + 4 * core.text) (omega (arith, h.within)) in
    rw (one, two, three) refl

-- what the machine does at an instruction that is not nullified, and at one that is
pub effect_runs : (core : Core) (i : Inst) → is_in_text core core.front ≡ true → core.nullify ≡ false → decoded (word_at core.memory core.front) ≡ Some i → effect_of core ≡ executed core i
unfolding effect_of
effect_runs core i t n d = rw (t, n, d) refl

pub effect_passes : (core : Core) → is_in_text core core.front ≡ true → core.nullify ≡ true → effect_of core ≡ Goes (advanced core)
unfolding effect_of
effect_passes core t n = rw (t, n) refl

if_some : {A : Type 0} (b : Bool) (x : Option A) (y : A) → (if b then x else None) ≡ Some y → (b ≡ true) × (x ≡ Some y)
if_some true x y e = (refl, e)
if_some false x y e = absurd cc

does_some-is : (size : ℕ) (w w' : Small) (o : Option Inst) → does_some size w o ≡ Some w' → (i : Inst) × (o ≡ Some i) × (does size w i ≡ Some w')
does_some-is size w w' None e = absurd cc
does_some-is size w w' (Some i) e = (i, refl, e)

choice_step : (base : Core) (a : ℕ) (code : List Inst) (w w' : Small) (registers : List ℕ) → Stands code a base → w.front < length code → w.back ≤ length code → Holds base.registers w.registers registers → (n : Bool) → w.nullify ≡ n → (if n then Some (passed w) else does_some (length code) w (inst_at code w.front)) ≡ Some w' → Steps base a w' (effect_of (shown base a w registers))
choice_step base a code w w' registers st lt le h true n e =
    let low : a + 4 * length code < text_start + 4 * word_limit = omega (arith, st.within, st.text) in
    let next_is : (a + 4 * w.back + 4) % 2 ^ 32 ≡ a + 4 * (w.back + 1) = after_back a w.back (length code) low le in
    let same : passed w ≡ w' = cc in
    subst (λ (x : Small). Steps base a x (effect_of (shown base a w registers))) same
    (record {
      registers = registers;
      goes = effect_passes (shown base a w registers) (in_text base code a w.front st (omega arith)) n ∙ rw next_is refl;
      holds = h;
    })
choice_step base a code w w' registers st lt le h false n e =
    let low : a + 4 * length code < text_start + 4 * word_limit = omega (arith, st.within, st.text) in
    let is = does_some-is (length code) w w' (inst_at code w.front) e in
    let does = does-step base a (length code) w w' registers low le h is.0 is.2 in
    let runs : effect_of (shown base a w registers) ≡ executed (shown base a w registers) is.0 =
    effect_runs (shown base a w registers) is.0 (in_text base code a w.front st (omega arith)) n (st.each w.front is.0 is.1) in
    record {
      registers = does.registers;
      goes = runs ∙ does.goes;
      holds = does.holds;
    }

pub step_small : (base : Core) (a : ℕ) (code : List Inst) (w w' : Small) (registers : List ℕ) → Stands code a base → Holds base.registers w.registers registers → small_step code w ≡ Some w' → Steps base a w' (effect_of (shown base a w registers))
step_small base a code w w' registers st h e =
    let is = if_some (nat_lt w.front (length code) && nat_le w.back (length code)) _ w' e in
    let both = and_parts (nat_lt w.front (length code)) (nat_le w.back (length code)) is.0 in
    choice_step base a code w w' registers st (ltb-true w.front (length code) both.0) (leb-true w.back (length code) both.1) h w.nullify refl is.1

-- ---- steps inside

-- the code stands inside: from where the run begins on, and up to an address
pub record Lies (top : ℕ) (code : List Inst) (a : ℕ) (core : Core) : Type 0 where
  pub stands : Stands code a core
  pub low : core.front ≤ a
  pub high : a + 4 * length code ≤ top

-- what the small machine does is no access
quiet_form : (size : ℕ) (w w' : Small) (i : Inst) → does size w i ≡ Some w' → is_access (Some i) ≡ false
quiet_form size w w' (Ldb im b t) e = absurd cc
quiet_form size w w' (Ldh im b t) e = absurd cc
quiet_form size w w' (Ldw im b t) e = absurd cc
quiet_form size w w' (Stb r im b) e = absurd cc
quiet_form size w w' (Sth r im b) e = absurd cc
quiet_form size w w' (Stw r im b) e = absurd cc
quiet_form size w w' _ e = refl

quiet_some : (size : ℕ) (w w' : Small) (o : Option Inst) → does_some size w o ≡ Some w' → (i : Inst) × (o ≡ Some i) × (is_access (Some i) ≡ false)
quiet_some size w w' None e = absurd cc
quiet_some size w w' (Some i) e = (i, refl, quiet_form size w w' i e)

quiet_step : (code : List Inst) (w w' : Small) (n : Bool) → w.nullify ≡ n → (if n then Some (passed w) else does_some (length code) w (inst_at code w.front)) ≡ Some w' → w.nullify ≡ false → (i : Inst) × (inst_at code w.front ≡ Some i) × (is_access (Some i) ≡ false)
quiet_step code w w' true n e unset = absurd cc
quiet_step code w w' false n e unset = quiet_some (length code) w w' (inst_at code w.front) e

-- the machine is inside where the small machine takes a step
step_inside : (top a : ℕ) (code : List Inst) (core : Core) (w w' : Small) (registers : List ℕ) → Lies top code a core → small_step code w ≡ Some w' → IsInside core.front top (shown core a w registers)
step_inside top a code core w w' registers l e =
    let is = if_some (nat_lt w.front (length code) && nat_le w.back (length code)) _ w' e in
    let both = and_parts (nat_lt w.front (length code)) (nat_le w.back (length code)) is.0 in
    let lt : w.front < length code = ltb-true w.front (length code) both.0 in
    record {
      above = omega (arith, l.low);
      below = omega (arith, l.high, lt);
      quiet = λ unset.
          let q = quiet_step code w w' w.nullify refl is.1 unset in
          (omega (arith, l.high, lt), ap is_access (l.stands.each w.front q.0 q.1) ∙ q.2);
    }

-- the same of an instruction that is known
pub inst_inside : (top a k : ℕ) (code : List Inst) (core : Core) (i : Inst) (f : ℕ → ℕ) (registers : List ℕ) → Lies top code a core → k + 1 ≤ length code → inst_at code k ≡ Some i → is_access (Some i) ≡ false → IsInside core.front top (shown core a (at k f) registers)
inst_inside top a k code core i f registers l le e quiet = record {
  above = omega (arith, l.low);
  below = omega (arith, l.high, le);
  quiet = λ unset. (omega (arith, l.high, le), ap is_access (l.stands.each k i e) ∙ quiet);
}

-- one step more
pub inside_more : (address top m : ℕ) (s t : State) → StaysInside address top m s → run_of m s ≡ Running t → IsInside address top t.core → StaysInside address top (m + 1) s
inside_more address top m s t path r is k mid lt e = elim (cases_lt k m) [
  | inl before ↦ path k mid before e
  | inr behind ↦
      let at_m : k ≡ m = omega arith in
      let here : run_of m s ≡ Running mid = subst (λ (n : ℕ). run_of n s ≡ Running mid) at_m e in
      let same : t ≡ mid = cc in
      subst (λ (u : State). IsInside address top u.core) same is
]

-- after m steps the run from a state shows a state of the small machine
pub record Reaches (top : ℕ) (s : State) (a m : ℕ) (w : Small) : Type 0 where
  pub registers : List ℕ
  pub runs : run_of m s ≡ Running (record s { core = shown s.core a w registers })
  pub holds : Holds s.core.registers w.registers registers
  pub path : StaysInside s.core.front top m s

pub one_more : (s : State) (m : ℕ) (core new : Core) → run_of m s ≡ Running (record s { core = core }) → effect_of core ≡ Goes new → run_of (m + 1) s ≡ Running (record s { core = new })
unfolding run_of
one_more s m core new r e = rw add-one (ap goes_on r ∙ ap (λ (x : Effect). taken x (record s { core = core })) e)

reaches_step : (top : ℕ) (s : State) (a m : ℕ) (code : List Inst) (w w' : Small) → Lies top code a s.core → Reaches top s a m w → small_step code w ≡ Some w' → Reaches top s a (m + 1) w'
reaches_step top s a m code w w' st r e =
    let one = step_small s.core a code w w' r.registers st.stands r.holds e in
    record {
      registers = one.registers;
      runs = one_more s m (shown s.core a w r.registers) (shown s.core a w' one.registers) r.runs one.goes;
      holds = one.holds;
      path = inside_more s.core.front top m s (record s { core = shown s.core a w r.registers }) r.path r.runs (step_inside top a code s.core w w' r.registers st e);
    }

reaches_more : (top : ℕ) (s : State) (a m n : ℕ) (code : List Inst) (w w' : Small) → ((m : ℕ) (w w' : Small) → Reaches top s a m w → small_run code n w ≡ Some w' → Reaches top s a (m + n) w') → Lies top code a s.core → Reaches top s a m w → (o : Option Small) → small_step code w ≡ o → then_run (small_run code n) o ≡ Some w' → Reaches top s a (m + suc n) w'
reaches_more top s a m n code w w' h st r None o e = absurd cc
reaches_more top s a m n code w w' h st r (Some mid) o e =
    let count : m + 1 + n ≡ m + suc n = omega arith in
    subst (λ (k : ℕ). Reaches top s a k w') count (h (m + 1) mid w' (reaches_step top s a m code w mid st r o) e)

-- a run of the small machine is one of the machine
pub reaches : (top n : ℕ) (s : State) (a : ℕ) (code : List Inst) → Lies top code a s.core → (m : ℕ) (w w' : Small) → Reaches top s a m w → small_run code n w ≡ Some w' → Reaches top s a (m + n) w'
reaches top zero s a code st m w w' r e =
    let same : w ≡ w' = cc in
    rw add-zero (subst (λ (x : Small). Reaches top s a m x) same r)
reaches top (suc n) s a code st m w w' r e = reaches_more top s a m n code w w' (reaches top n s a code st) st r (small_step code w) refl e

-- ---- branches through registers

-- the address behind a branch, which it puts into a register
links-step : (base : Core) (a size : ℕ) (w : Small) (registers : List ℕ) (t : ℕ) (disp : ℤ) → a + 4 * size < text_start + 4 * word_limit → w.back ≤ size → hop w.front disp ≤ size → is_scratch t ≡ true → Holds base.registers w.registers registers → Steps base a (record { registers = set w.registers t (a + 4 * (w.back + 1)); front = w.back; back = hop w.front disp; nullify = false }) (executed (shown base a w registers) (Bl disp t false))
links-step base a size w registers t disp lt le to s h =
    let small = scratch_small t s in
    let zero_not : (t == 0) ≡ false = ne_eqb t 0 (λ z. omega (arith, small.1)) in
    let next_is : (a + 4 * w.back + 4) % 2 ^ 32 ≡ a + 4 * (w.back + 1) = after_back a w.back size lt le in
    let target_is : (a + 4 * w.front + 8 + 4 * cast_unsigned w32 disp) % 2 ^ 32 ≡ a + 4 * hop w.front disp = omega arith in
    record {
      registers = slice_set registers t (a + 4 * (w.back + 1));
      goes = rw (zero_not, next_is, target_is) refl;
      holds = Holds-set base.registers w.registers registers t (a + 4 * (w.back + 1)) h s (omega arith);
    }

pub links : (top : ℕ) (s : State) (a m k : ℕ) (f : ℕ → ℕ) (code : List Inst) (t : ℕ) (disp : ℤ) → Lies top code a s.core → Reaches top s a m (at k f) → k + 1 ≤ length code → hop k disp ≤ length code → is_scratch t ≡ true → inst_at code k ≡ Some (Bl disp t false) → Reaches top s a (m + 1) (record { registers = set f t (a + 4 * (k + 1 + 1)); front = k + 1; back = hop k disp; nullify = false })
links top s a m k f code t disp st r le to sc e =
    let low : a + 4 * length code < text_start + 4 * word_limit = omega (arith, st.stands.within, st.stands.text) in
    let one = links-step s.core a (length code) (at k f) r.registers t disp low le to sc r.holds in
    let next : Small = record { registers = set f t (a + 4 * (k + 1 + 1)); front = k + 1; back = hop k disp; nullify = false } in
    record {
      registers = one.registers;
      runs = one_more s m (shown s.core a (at k f) r.registers) (shown s.core a next one.registers) r.runs
          (effect_runs (shown s.core a (at k f) r.registers) (Bl disp t false) (in_text s.core code a k st.stands (omega arith)) refl (st.stands.each k (Bl disp t false) e) ∙ one.goes);
      holds = one.holds;
      path = inside_more s.core.front top m s (record s { core = shown s.core a (at k f) r.registers }) r.path r.runs (inst_inside top a k code s.core (Bl disp t false) f r.registers st le e refl);
    }

-- a branch to a place whose address is in a register
pub computed : (top : ℕ) (s : State) (a m k b to : ℕ) (f : ℕ → ℕ) (code : List Inst) → Lies top code a s.core → Reaches top s a m (at k f) → k + 1 ≤ length code → inst_at code k ≡ Some (Bv b false) → read f b ≡ a + 4 * to → Reaches top s a (m + 1) (record { registers = f; front = k + 1; back = to; nullify = false })
computed top s a m k b to f code st r le e is =
    let core = shown s.core a (at k f) r.registers in
    let there : register core b ≡ a + 4 * to = read-shown s.core a (at k f) r.registers r.holds b ∙ is in
    record {
      registers = r.registers;
      runs = one_more s m core (shown s.core a (record { registers = f; front = k + 1; back = to; nullify = false }) r.registers) r.runs
          (effect_runs core (Bv b false) (in_text s.core code a k st.stands (omega arith)) refl (st.stands.each k (Bv b false) e) ∙ ap (λ (n : ℕ). Goes (moved core n false)) there);
      holds = r.holds;
      path = inside_more s.core.front top m s (record s { core = core }) r.path r.runs (inst_inside top a k code s.core (Bv b false) f r.registers st le e refl);
    }
