-- What a routine leaves is the same from all states that have the same registers, wherever else they differ.
use Rattle.std.proofs.Common.{ℕ, zero, suc, ◌+◌, ◌-◌, ◌*◌, ◌/◌, ◌%◌, ◌^◌, ◌<◌, ◌≤◌, ◌≡◌, inl, inr, Bool, true, false, List, Option, Some, None, length, refl, sym, ap, subst, ◌∙◌, arith}
use Rattle.std.specs.Prelude.{◌==◌, ◌&&◌, not, nat_lt, nat_le, if◌then◌else◌, slice_index, slice_set}
use Rattle.std.specs.Int.{cast_unsigned, w32}
use Rattle.std.proofs.lemmas.Bool.{cases_lt, le-leb, lt-ltb, eq-eqb, eqb-true}
use Rattle.std.proofs.lemmas.List.Folds.{list_all_at}
use Rattle.pw_value.specs.Limits.{text_start}
use Rattle.pw_inst.specs.declared.Inst.{Inst}
use Rattle.pw_inst.specs.declared.Inst.TheVariants.{Ldb, Ldh, Ldw, Stb, Sth, Stw, Vshd, Mtctl, Break}
use Rattle.pw_inst.specs.Computing.{Action, Puts, Loads, Stores, Shifts, Clears, Branches, Links, Jumps, Calls, Asks, action}
use Rattle.pw_inst.specs.InstructionTable.{decoded}
use Rattle.pw_machine.specs.declared.ends.End.{End}
use Rattle.pw_machine.specs.declared.ends.Halt.TheVariants.{BadBranch}
use Rattle.pw_machine.specs.Core.{Core, register, advanced, word_at}
use Rattle.pw_machine.specs.Effect.{Effect, Goes, halts, effect_of_action, effect_of_inst, executed, effect_of, is_in_text}
use Rattle.pw_machine.specs.Run.{State, Progress, Running, Stopped, began, goes_on, taken, run_of}
use Rattle.pw_milli.specs.Calls.{StandsAt, Enters, returned, IsInside}
use Rattle.pw_law_link_run.specs.Leaving.{is_by_registers, AreByRegisters, Leaves}

-- ---- one instruction

-- a core but for its registers, its two counters and what is nullified
abbrev core_at : Core → List ℕ → ℕ → ℕ → Bool → Core
core_at b f p q n = record b { registers = f; front = p; back = q; nullify = n }

abbrev placed : State → List ℕ → ℕ → ℕ → Bool → State
placed s f p q n = record s { core = core_at s.core f p q n }

abbrev read : List ℕ → ℕ → ℕ
read f r = if r == 0 then 0 else slice_index f r

abbrev is_local : Action → Bool
is_local (Loads width a t) = false
is_local (Stores width a word) = false
is_local (Shifts n) = false
is_local (Asks im5 im13) = false
is_local _ = true

-- over every core it leads to the same
record Does (a : Action) (f : List ℕ) (p q : ℕ) (n : Bool) : Type 0 where
  registers : List ℕ
  front : ℕ
  back : ℕ
  skips : Bool
  goes : (b : Core) → effect_of_action (core_at b f p q n) a ≡ Goes (core_at b registers front back skips)

written : (b : Core) (f : List ℕ) (p q : ℕ) (n : Bool) (t v : ℕ) (none : Bool)
    → (if none then core_at b f p q n else record (core_at b f p q n) { registers = slice_set f t v }) ≡ core_at b (if none then f else slice_set f t v) p q n
written b f p q n t v true = refl
written b f p q n t v false = refl

does : (a : Action) → is_local a ≡ true → (f : List ℕ) (p q : ℕ) (n : Bool) → Does a f p q n
does (Puts t v) e f p q n = record {
  registers = if t == 0 then f else slice_set f t v;
  front = q;
  back = (q + 4) % 2 ^ 32;
  skips = false;
  goes = λ b. ap Goes (written b f q ((q + 4) % 2 ^ 32) false t v (t == 0));
}
does (Clears t skips) e f p q n = record {
  registers = if t == 0 then f else slice_set f t 0;
  front = q;
  back = (q + 4) % 2 ^ 32;
  skips = skips;
  goes = λ b. ap Goes (written b f q ((q + 4) % 2 ^ 32) skips t 0 (t == 0));
}
does (Branches go disp) e f p q n = record {
  registers = f;
  front = q;
  back = if go then (p + 8 + 4 * cast_unsigned w32 disp) % 2 ^ 32 else (q + 4) % 2 ^ 32;
  skips = false;
  goes = λ b. refl;
}
does (Links disp t skips) e f p q n = record {
  registers = if t == 0 then f else slice_set f t ((q + 4) % 2 ^ 32);
  front = q;
  back = (p + 8 + 4 * cast_unsigned w32 disp) % 2 ^ 32;
  skips = skips;
  goes = λ b. ap Goes (written b f q ((p + 8 + 4 * cast_unsigned w32 disp) % 2 ^ 32) skips t ((q + 4) % 2 ^ 32) (t == 0));
}
does (Jumps to skips) e f p q n = record { registers = f; front = q; back = to; skips = skips; goes = λ b. refl }
does (Calls to skips) e f p q n = record { registers = slice_set f 31 ((q + 4) % 2 ^ 32); front = q; back = to; skips = skips; goes = λ b. refl }
does (Loads width a t) e f p q n = absurd cc
does (Stores width a word) e f p q n = absurd cc
does (Shifts k) e f p q n = absurd cc
does (Asks im5 im13) e f p q n = absurd cc

-- the shift amount is not read
same_action : (i : Inst) → is_by_registers (Some i) ≡ true → (r : ℕ → ℕ) (m : ℕ) → (action r m i ≡ action r 0 i) × (is_local (action r 0 i) ≡ true)
same_action (Ldb im b t) e r m = absurd cc
same_action (Ldh im b t) e r m = absurd cc
same_action (Ldw im b t) e r m = absurd cc
same_action (Stb s im b) e r m = absurd cc
same_action (Sth s im b) e r m = absurd cc
same_action (Stw s im b) e r m = absurd cc
same_action (Vshd r1 r2 t) e r m = absurd cc
same_action (Mtctl s) e r m = absurd cc
same_action (Break im5 im13) e r m = absurd cc
same_action _ e r m = (refl, refl)

record Leads (i : Inst) (f : List ℕ) (p q : ℕ) (n : Bool) : Type 0 where
  registers : List ℕ
  front : ℕ
  back : ℕ
  skips : Bool
  goes : (b : Core) → executed (core_at b f p q n) i ≡ Goes (core_at b registers front back skips)

leads : (i : Inst) → is_by_registers (Some i) ≡ true → (f : List ℕ) (p q : ℕ) (n : Bool) → Leads i f p q n
leads i e f p q n =
    let h = does (action (read f) 0 i) (same_action i e (read f) 0).1 f p q n in
    record {
      registers = h.registers;
      front = h.front;
      back = h.back;
      skips = h.skips;
      goes = λ b. ap (effect_of_action (core_at b f p q n)) (same_action i e (read f) b.shift).0 ∙ h.goes b;
    }

-- ---- where the run is

first_of_three : (a b c : Bool) → (a && b && c) ≡ true → a ≡ true
first_of_three true b c e = refl
first_of_three false b c e = absurd cc

in_text_at : (words : List ℕ) (a p : ℕ) (core : Core) → StandsAt words a core → a ≤ p → p ≤ a + 4 * length words → p % 4 ≡ 0 → is_in_text core p ≡ true
in_text_at words a p core st low high aligned =
    let one : (p % 4 == 0) ≡ true = eq-eqb (p % 4) 0 aligned in
    let two : nat_le text_start p ≡ true = le-leb text_start p (omega (arith, st.above, low)) in
    let three : nat_lt p (text_start + 4 * core.text) ≡ true = lt-ltb p (text_start + 4 * core.text) (omega (arith, st.within, high)) in
    rw (one, two, three) refl

-- a run that goes on is in the text
runs_in_text : (s : State) (core : Core) (k : ℕ) (mid : State) → run_of k s ≡ Running (record s { core = core }) → run_of (suc k) s ≡ Running mid → (b : Bool)
    → is_in_text core core.front ≡ b → b ≡ true
unfolding run_of effect_of
runs_in_text s core k mid r next true e = refl
runs_in_text s core k mid r next false e =
    let halted : effect_of core ≡ halts core BadBranch = ap (λ (b : Bool). if not b then halts core BadBranch else if core.nullify then Goes (advanced core) else effect_of_inst core (decoded (word_at core.memory core.front))) e in
    let stopped : taken (halts core BadBranch) (record s { core = core }) ≡ Running mid = sym (ap (λ (x : Effect). taken x (record s { core = core })) halted) ∙ (sym (ap goes_on r) ∙ next) in
    absurd cc

effect_runs : (core : Core) (i : Inst) → is_in_text core core.front ≡ true → core.nullify ≡ false → decoded (word_at core.memory core.front) ≡ Some i → effect_of core ≡ executed core i
unfolding effect_of
effect_runs core i t n d = rw (t, n, d) refl

effect_passes : (core : Core) → is_in_text core core.front ≡ true → core.nullify ≡ true → effect_of core ≡ Goes (advanced core)
unfolding effect_of
effect_passes core t n = rw (t, n) refl

more : (s : State) (k : ℕ) (core new : Core) → run_of k s ≡ Running (record s { core = core }) → effect_of core ≡ Goes new → run_of (suc k) s ≡ Running (record s { core = new })
unfolding run_of
more s k core new r e = ap goes_on r ∙ ap (λ (x : Effect). taken x (record s { core = core })) e

some_inst : (o : Option Inst) → is_by_registers o ≡ true → (i : Inst) × (o ≡ Some i) × (is_by_registers (Some i) ≡ true)
some_inst None e = absurd cc
some_inst (Some i) e = (i, refl, e)

by_registers_at : (words : List ℕ) (i : ℕ) → AreByRegisters words → i < length words → (b : Bool) → is_by_registers (decoded (slice_index words i)) ≡ b → b ≡ true
by_registers_at words i all lt true e = refl
by_registers_at words i all lt false e =
    absurd (let no : false ≡ true = sym (list_all_at (λ w. is_by_registers (decoded w)) words i 0 lt e) ∙ all in cc)

-- ---- two runs

record Both (s t : State) (k : ℕ) : Type 0 where
  registers : List ℕ
  front : ℕ
  back : ℕ
  skips : Bool
  one : run_of k s ≡ Running (placed s registers front back skips)
  two : run_of k t ≡ Running (placed t registers front back skips)

same_core : (c : Core) (f b : ℕ) (n : Bool) → c.front ≡ f → c.back ≡ b → c.nullify ≡ n → core_at c c.registers f b n ≡ c
same_core c f b n e g h =
    ap (λ (x : ℕ). core_at c c.registers x b n) (sym e) ∙ (ap (λ (x : ℕ). core_at c c.registers c.front x n) (sym g) ∙ ap (λ (x : Bool). core_at c c.registers c.front c.back x) (sym h))

started : (words : List ℕ) (a : ℕ) (s : State) → Enters words a s → run_of 0 s ≡ Running s
unfolding run_of
started words a s h = ap (λ (o : Option End). began o s) h.stopped

begun : (words : List ℕ) (a : ℕ) (s t : State) → Enters words a s → Enters words a t → s.core.registers ≡ t.core.registers → Both s t 0
begun words a s t h g same = record {
  registers = s.core.registers;
  front = a;
  back = a + 4;
  skips = false;
  one = started words a s h ∙ ap (λ (c : Core). Running (record s { core = c })) (sym (same_core s.core a (a + 4) false h.front h.back h.nullify));
  two = started words a t g
      ∙ (ap (λ (c : Core). Running (record t { core = c })) (sym (same_core t.core a (a + 4) false g.front g.back g.nullify))
      ∙ ap (λ (f : List ℕ). Running (placed t f a (a + 4) false)) (sym same));
}

passes_both : (words : List ℕ) (a : ℕ) (s t : State) → StandsAt words a s.core → StandsAt words a t.core → (k : ℕ) (f : List ℕ) (p q : ℕ)
    → run_of k s ≡ Running (placed s f p q true) → run_of k t ≡ Running (placed t f p q true) → a ≤ p → p ≤ a + 4 * length words → p % 4 ≡ 0 → Both s t (suc k)
passes_both words a s t st tt k f p q r u low high aligned = record {
  registers = f;
  front = q;
  back = (q + 4) % 2 ^ 32;
  skips = false;
  one = more s k (core_at s.core f p q true) (core_at s.core f q ((q + 4) % 2 ^ 32) false) r
      (effect_passes (core_at s.core f p q true) (in_text_at words a p s.core st low high aligned) refl);
  two = more t k (core_at t.core f p q true) (core_at t.core f q ((q + 4) % 2 ^ 32) false) u
      (effect_passes (core_at t.core f p q true) (in_text_at words a p t.core tt low high aligned) refl);
}

does_both : (words : List ℕ) (a : ℕ) (s t : State) → AreByRegisters words → StandsAt words a s.core → StandsAt words a t.core → (k : ℕ) (f : List ℕ) (p q : ℕ)
    → run_of k s ≡ Running (placed s f p q false) → run_of k t ≡ Running (placed t f p q false) → a ≤ p → p < a + 4 * length words → p % 4 ≡ 0 → Both s t (suc k)
does_both words a s t all st tt k f p q r u low high aligned =
    let i : ℕ = (p - a) / 4 in
    let place : a + 4 * i ≡ p = omega (arith, st.aligned, low, aligned) in
    let lt : i < length words = omega (arith, place, high) in
    let word = some_inst (decoded (slice_index words i)) (by_registers_at words i all lt (is_by_registers (decoded (slice_index words i))) refl) in
    let at_s : decoded (word_at s.core.memory p) ≡ Some word.0 = ap decoded (subst (λ (n : ℕ). word_at s.core.memory n ≡ slice_index words i) place (st.each i lt)) ∙ word.1 in
    let at_t : decoded (word_at t.core.memory p) ≡ Some word.0 = ap decoded (subst (λ (n : ℕ). word_at t.core.memory n ≡ slice_index words i) place (tt.each i lt)) ∙ word.1 in
    let h = leads word.0 word.2 f p q false in
    record {
      registers = h.registers;
      front = h.front;
      back = h.back;
      skips = h.skips;
      one = more s k (core_at s.core f p q false) (core_at s.core h.registers h.front h.back h.skips) r
          (effect_runs (core_at s.core f p q false) word.0 (in_text_at words a p s.core st low (omega (arith, high)) aligned) refl at_s ∙ h.goes s.core);
      two = more t k (core_at t.core f p q false) (core_at t.core h.registers h.front h.back h.skips) u
          (effect_runs (core_at t.core f p q false) word.0 (in_text_at words a p t.core tt low (omega (arith, high)) aligned) refl at_t ∙ h.goes t.core);
    }

next_both : (words : List ℕ) (a : ℕ) (s t : State) → AreByRegisters words → StandsAt words a s.core → StandsAt words a t.core → (k : ℕ) (mid : State) (f : List ℕ) (p q : ℕ) (n : Bool)
    → run_of k s ≡ Running (placed s f p q n) → run_of k t ≡ Running (placed t f p q n) → IsInside a (a + 4 * length words) (core_at s.core f p q n)
    → run_of (suc k) s ≡ Running mid → Both s t (suc k)
next_both words a s t all st tt k mid f p q true r u is next =
    let whole = runs_in_text s (core_at s.core f p q true) k mid r next (is_in_text (core_at s.core f p q true) p) refl in
    let aligned : p % 4 ≡ 0 = eqb-true (p % 4) 0 (first_of_three (p % 4 == 0) (nat_le text_start p) (nat_lt p (text_start + 4 * s.core.text)) whole) in
    passes_both words a s t st tt k f p q r u is.above is.below aligned
next_both words a s t all st tt k mid f p q false r u is next =
    let whole = runs_in_text s (core_at s.core f p q false) k mid r next (is_in_text (core_at s.core f p q false) p) refl in
    let aligned : p % 4 ≡ 0 = eqb-true (p % 4) 0 (first_of_three (p % 4 == 0) (nat_le text_start p) (nat_lt p (text_start + 4 * s.core.text)) whole) in
    does_both words a s t all st tt k f p q r u is.above (is.quiet refl).0 aligned

-- a run that goes on went on before
went_on : (p : Progress) (mid : State) → goes_on p ≡ Running mid → (t : State) × (p ≡ Running t)
went_on (Running t) mid e = (t, refl)
went_on (Stopped end t) mid e = absurd cc

goes_before : (n k : ℕ) (s mid : State) → run_of (n + k) s ≡ Running mid → (t : State) × (run_of k s ≡ Running t)
unfolding run_of
goes_before zero k s mid e =
    let count : zero + k ≡ k = omega arith in
    (mid, subst (λ (j : ℕ). run_of j s ≡ Running mid) count e)
goes_before (suc n) k s mid e =
    let count : suc n + k ≡ suc (n + k) = omega arith in
    let one = went_on (run_of (n + k) s) mid (subst (λ (j : ℕ). run_of j s ≡ Running mid) count e) in
    goes_before n k s one.0 one.1

both_until : (words : List ℕ) (a : ℕ) (s t : State) → (d : Leaves words a s) → AreByRegisters words → Enters words a s → Enters words a t → s.core.registers ≡ t.core.registers
    → (k : ℕ) → k ≤ d.steps → Both s t k
both_until words a s t d all h g same zero le = begun words a s t h g same
both_until words a s t d all h g same (suc k) le =
    let b = both_until words a s t d all h g same k (omega (arith, le)) in
    let count : d.steps - suc k + suc k ≡ d.steps = omega (arith, le) in
    let mid = goes_before (d.steps - suc k) (suc k) s (returned s 31 d.registers) (subst (λ (j : ℕ). run_of j s ≡ Running (returned s 31 d.registers)) (sym count) d.runs) in
    next_both words a s t all h.stands g.stands k mid.0 b.registers b.front b.back b.skips b.one b.two
    (d.inside k (placed s b.registers b.front b.back b.skips) (omega (arith, le)) b.one) mid.1

-- ---- what they leave

ends_at : (s t : State) → Running s ≡ Running t → s ≡ t
ends_at s t e = cc

at_return : (s : State) (f g : List ℕ) (p q : ℕ) (n : Bool) → Running (placed s f p q n) ≡ Running (returned s 31 g) → (p ≡ register s.core 31) × (f ≡ g)
at_return s f g p q n e =
    let same = ends_at (placed s f p q n) (returned s 31 g) e in
    (ap (λ (s : State). s.core.front) same, ap (λ (s : State). s.core.registers) same)

pub leaves_alike : (words : List ℕ) (a : ℕ) (s t : State) (d : Leaves words a s) (e : Leaves words a t) → AreByRegisters words → Enters words a s → Enters words a t
    → s.core.registers ≡ t.core.registers → register s.core 31 < a → d.registers ≡ e.registers
leaves_alike words a s t d e all h g same low =
    elim (cases_lt e.steps d.steps) as (λ c. d.registers ≡ e.registers) [
      | inl sooner ↦
          let b = both_until words a s t d all h g same e.steps (omega (arith, sooner)) in
          let ends = at_return t b.registers e.registers b.front b.back b.skips (sym b.two ∙ e.runs) in
          let link : register t.core 31 ≡ register s.core 31 = ap (λ (f : List ℕ). slice_index f 31) (sym same) in
          let is = d.inside e.steps (placed s b.registers b.front b.back b.skips) sooner b.one in
          absurd (omega (arith, is.above, ends.0, link, low))
      | inr later ↦
          let b = both_until words a s t d all h g same d.steps (omega arith) in
          let ends = at_return s b.registers d.registers b.front b.back b.skips (sym b.one ∙ d.runs) in
          elim (cases_lt d.steps e.steps) as (λ c. d.registers ≡ e.registers) [
            | inl sooner ↦
                let is = e.inside d.steps (placed t b.registers b.front b.back b.skips) sooner b.two in
                absurd (omega (arith, is.above, ends.0, low))
            | inr not_later ↦
                let count : d.steps ≡ e.steps = omega (arith, later, not_later) in
                let others = at_return t b.registers e.registers b.front b.back b.skips (sym b.two ∙ subst (λ (k : ℕ). run_of k t ≡ Running (returned t 31 e.registers)) (sym count) e.runs) in
                sym ends.1 ∙ others.1
          ]
    ]
