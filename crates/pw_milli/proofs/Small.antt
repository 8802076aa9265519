-- A small machine of registers alone, for code that stands somewhere: its places count words from the
-- beginning of the code. Its runs compute.
use Rattle.std.proofs.Common.{ℕ, zero, suc, ℤ, ◌+◌, ◌*◌, ◌%◌, ◌^◌, ◌≤◌, ◌≡◌, Bool, true, false, not, List, [], ◌∷◌, Option, Some, None, length, refl, ap, ◌∙◌, arith, zero-add}
use Rattle.std.proofs.Math.Nat.{suc-add}
use Rattle.std.specs.Prelude.{◌==◌, ◌&&◌, nat_lt, nat_le, bit_and, bit_or, bit_xor, if◌then◌else◌}
use Rattle.std.specs.Int.{cast_unsigned, w32}
use Rattle.pw_inst.specs.declared.Inst.{Inst}
use Rattle.pw_inst.specs.declared.Inst.TheVariants.{Ldb, Ldh, Ldw, Ldo, Stb, Sth, Stw, Ldil, And, Or, Xor, Sub, Addl, Vshd, Mtctl, Comclr, Subi, Extru, Extrs, Zdep, Combt, Combf, Bl, Bv, Ble, Break}
use Rattle.pw_value.specs.Words.{unsigned_difference}
use Rattle.pw_inst.specs.Computing.{condition, extracted, sign_extended, deposited}
use Rattle.pw_milli.specs.Calls.{is_scratch}

pub record Small : Type 0 where
  pub registers : ℕ → ℕ
  pub front : ℕ
  pub back : ℕ
  pub nullify : Bool

-- what an instruction reads in a register
abbrev pub read : (ℕ → ℕ) → ℕ → ℕ
read f r = if r == 0 then 0 else f r

-- registers with one changed
abbrev pub set : (ℕ → ℕ) → ℕ → ℕ → ℕ → ℕ
set f t v r = if r == t then v else f r

-- at a place, with no branch under way
abbrev pub at : ℕ → (ℕ → ℕ) → Small
at k f = record { registers = f; front = k; back = k + 1; nullify = false }

abbrev pub when : {A : Type 0} → Bool → A → Option A
when true a = Some a
when false a = None

abbrev pub writes : Small → ℕ → ℕ → Option Small
writes w t v = when (is_scratch t) (record { registers = set w.registers t v; front = w.back; back = w.back + 1; nullify = false })

-- the place to which a branch goes
abbrev pub hop : ℕ → ℤ → ℕ
hop k disp = (k + 2 + cast_unsigned w32 disp) % 2 ^ 30

-- a branch to a place that is no further than the end of the code
abbrev pub jumps : ℕ → Small → Bool → ℕ → Option Small
jumps size w taken to = when (nat_le to size) (record { registers = w.registers; front = w.back; back = if taken then to else w.back + 1; nullify = false })

-- an instruction that may nullify the next one, and changes no register
abbrev pub skips : Small → ℕ → Bool → Option Small
skips w t skip = when (t == 0) (record { registers = w.registers; front = w.back; back = w.back + 1; nullify = skip })

abbrev pub is_field : ℕ → ℕ → Bool
is_field p len = nat_le 1 len && nat_le len (p + 1) && nat_lt p 32

abbrev pub does : ℕ → Small → Inst → Option Small
does size w (And r1 r2 t) = writes w t (bit_and (read w.registers r1) (read w.registers r2))
does size w (Or r1 r2 t) = writes w t (bit_or (read w.registers r1) (read w.registers r2))
does size w (Xor r1 r2 t) = writes w t (bit_xor (read w.registers r1) (read w.registers r2))
does size w (Sub r1 r2 t) = writes w t (unsigned_difference (read w.registers r1) (read w.registers r2))
does size w (Addl r1 r2 t) = writes w t ((read w.registers r1 + read w.registers r2) % 2 ^ 32)
does size w (Ldo im b t) = writes w t ((read w.registers b + cast_unsigned w32 im) % 2 ^ 32)
does size w (Extru r p len t) = if is_field p len then writes w t (extracted (read w.registers r) p len) else None
does size w (Extrs r p len t) = if is_field p len then writes w t (sign_extended len (extracted (read w.registers r) p len)) else None
does size w (Zdep r p len t) = if is_field p len then writes w t (deposited (read w.registers r) p len) else None
does size w (Comclr c f r1 r2 t) =
    let holds = condition c (read w.registers r1) (read w.registers r2) in
    skips w t (if f then not holds else holds)
does size w (Combt c r1 r2 disp) = jumps size w (condition c (read w.registers r1) (read w.registers r2)) (hop w.front disp)
does size w (Combf c r1 r2 disp) = jumps size w (not (condition c (read w.registers r1) (read w.registers r2))) (hop w.front disp)
does size w (Ldb im b t) = None
does size w (Ldh im b t) = None
does size w (Ldw im b t) = None
does size w (Stb r im b) = None
does size w (Sth r im b) = None
does size w (Stw r im b) = None
does size w (Ldil im t) = None
does size w (Vshd r1 r2 t) = None
does size w (Mtctl r) = None
does size w (Subi im r t) = None
does size w (Bl disp t n) = None
does size w (Bv b n) = None
does size w (Ble b n) = None
does size w (Break im5 im13) = None

abbrev pub inst_at : List Inst → ℕ → Option Inst
inst_at [] k = None
inst_at (i ∷ code) zero = Some i
inst_at (i ∷ code) (suc k) = inst_at code k

abbrev pub does_some : ℕ → Small → Option Inst → Option Small
does_some size w None = None
does_some size w (Some i) = does size w i

-- the next place, where the instruction is nullified
abbrev pub passed : Small → Small
passed w = record { registers = w.registers; front = w.back; back = w.back + 1; nullify = false }

-- one step, as long as it stays in the code
abbrev pub small_step : List Inst → Small → Option Small
small_step code w =
    if nat_lt w.front (length code) && nat_le w.back (length code)
    then (if w.nullify then Some (passed w) else does_some (length code) w (inst_at code w.front))
    else None

abbrev pub then_run : (Small → Option Small) → Option Small → Option Small
then_run f None = None
then_run f (Some w) = f w

abbrev pub small_run : List Inst → ℕ → Small → Option Small
small_run code zero w = Some w
small_run code (suc n) w = then_run (small_run code n) (small_step code w)

-- ---- runs one after another

run_on_step : (code : List Inst) (m n : ℕ) → ((w mid : Small) → small_run code m w ≡ Some mid → small_run code (m + n) w ≡ small_run code n mid) → (o : Option Small) (mid : Small) → then_run (small_run code m) o ≡ Some mid → then_run (small_run code (m + n)) o ≡ small_run code n mid
run_on_step code m n h None mid e = absurd cc
run_on_step code m n h (Some w) mid e = h w mid e

pub run_on : (code : List Inst) (m n : ℕ) (w mid : Small) → small_run code m w ≡ Some mid → small_run code (m + n) w ≡ small_run code n mid
run_on code zero n w mid e =
    let same : w ≡ mid = cc in
    rw zero-add (ap (small_run code n) same)
run_on code (suc m) n w mid e = rw suc-add (run_on_step code m n (run_on code m n) (small_step code w) mid e)

-- ---- arriving somewhere

-- Within so many steps the small machine comes to a place, with registers of which something holds.
pub record Arrives (code : List Inst) (bound : ℕ) (w : Small) (place : ℕ) (Q : (ℕ → ℕ) → Type 0) : Type 0 where
  pub steps : ℕ
  pub soon : steps ≤ bound
  pub last : ℕ → ℕ
  pub runs : small_run code steps w ≡ Some (at place last)
  pub holds : Q last

-- it does so after some first steps
pub after : (code : List Inst) (m bound : ℕ) (w mid : Small) (place : ℕ) (Q : (ℕ → ℕ) → Type 0) → small_run code m w ≡ Some mid → Arrives code bound mid place Q → Arrives code (m + bound) w place Q
after code m bound w mid place Q e h =
    let soon : h.steps ≤ bound = h.soon in
    record {
      steps = m + h.steps;
      soon = omega arith;
      last = h.last;
      runs = run_on code m h.steps w mid e ∙ h.runs;
      holds = h.holds;
    }

-- it is there
pub there : (code : List Inst) (bound : ℕ) (f : ℕ → ℕ) (place : ℕ) (Q : (ℕ → ℕ) → Type 0) → Q f → Arrives code bound (at place f) place Q
there code bound f place Q h = record { steps = 0; soon = omega arith; last = f; runs = refl; holds = h }

-- what holds there may be said otherwise, and later
pub weaker : (code : List Inst) (bound bound' : ℕ) (w : Small) (place : ℕ) (Q R : (ℕ → ℕ) → Type 0) → bound ≤ bound' → ((f : ℕ → ℕ) → Q f → R f) → Arrives code bound w place Q → Arrives code bound' w place R
weaker code bound bound' w place Q R le f h =
    let soon : h.steps ≤ bound = h.soon in
    record { steps = h.steps; soon = omega arith; last = h.last; runs = h.runs; holds = f h.last h.holds }

-- d times 16, k times
abbrev pub scaled : ℕ → ℕ → ℕ
scaled zero d = d
scaled (suc k) d = 16 * scaled k d

-- one stretch after another
pub and_on : (code : List Inst) (bound bound' : ℕ) (w : Small) (place place' : ℕ) (Q R : (ℕ → ℕ) → Type 0) → Arrives code bound w place Q → ((f : ℕ → ℕ) → Q f → Arrives code bound' (at place f) place' R) → Arrives code (bound + bound') w place' R
and_on code bound bound' w place place' Q R h k =
    let next = k h.last h.holds in
    let soon : h.steps ≤ bound = h.soon in
    let soon' : next.steps ≤ bound' = next.soon in
    record {
      steps = h.steps + next.steps;
      soon = omega arith;
      last = next.last;
      runs = run_on code h.steps next.steps w (at place h.last) h.runs ∙ next.runs;
      holds = next.holds;
    }
