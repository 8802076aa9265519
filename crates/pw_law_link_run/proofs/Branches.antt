-- What branches do to registers and to the two addresses.
use Rattle.std.specs.Prelude.{ℕ, ℤ, ◌≡◌, ◌+◌, ◌*◌, ◌%◌, ◌^◌, ◌<◌, ◌==◌, not, Bool, false, if◌then◌else◌}
use Rattle.std.specs.Int.{cast_unsigned, w32}
use Rattle.std.proofs.Common.{arith, subst, sym, ap, refl, ◌∙◌}
use Rattle.pw_inst.specs.declared.Inst.TheVariants.{Combt, Combf, Bl, Bv, Ble}
use Rattle.pw_machine.specs.Core.{Core, register, next, moved}
use Rattle.pw_inst.specs.Computing.{condition}
use Rattle.pw_machine.specs.Effect.{Effect, Goes, target, branches_if}
use Rattle.pw_machine.specs.Effect as machine
use Rattle.pw_run_languages.specs.Acts as lines
use Rattle.pw_law_link_run.specs.Showing.{Shows, Leads}
use Rattle.pw_law_link_run.specs.Steps.{Setting}
use Rattle.pw_law_link_run.proofs.Words.{read, compares_shown, linked_done, same_skip, skip_kept}
use Rattle.pw_law_link_run.proofs.Stepping.{Faces}

moved_leads : (c : lines.Core) (core : Core) (to : ℕ) (n : Bool) → Shows c core → Leads core (Goes (moved core to n)) (record c { skip = n }) to
moved_leads c core to n h = record {
  new = moved core to n;
  goes = refl;
  shows = record { registers = h.registers; memory = h.memory; shift = h.shift; skip = refl };
  heads = record { front = refl; back = refl; text = refl; data_start = refl; stopped = refl };
}

to_other : (core : Core) (e : Effect) (c : lines.Core) (from to : ℕ) → from ≡ to → Leads core e c from → Leads core e c to
to_other core e c from to same l = subst (λ to. Leads core e c to) same l

-- a displacement leads from a branch to an address
abbrev pub Goal : ℕ → ℤ → ℕ → Type 0
Goal a disp to = (a + 8 + 4 * cast_unsigned w32 disp) % 2 ^ 32 ≡ to

target_is : (core : Core) (a : ℕ) (disp : ℤ) (to : ℕ) → core.front ≡ a → Goal a disp to → target core disp ≡ to
target_is core a disp to e g = ap (λ f. (f + 8 + 4 * cast_unsigned w32 disp) % 2 ^ 32) e ∙ g

next_is : (core : Core) (a : ℕ) → core.back ≡ a + 4 → a + 8 < 2 ^ 32 → next core ≡ a + 8
next_is core a e small = omega (arith, e, small)

pub jump_leads : (x : Setting) (c : lines.Core) (a to t : ℕ) (disp : ℤ) (core : Core) → Faces x c a (a + 4) (Bl disp t false) core → c.skip ≡ false
    → t < 32 → a + 8 < 2 ^ 32 → Goal a disp to
    → Leads core (machine.executed core (Bl disp t false)) (lines.with_register t (a + 8) c) to
jump_leads x c a to t disp core f run small low goal =
    subst (λ v. Leads core (machine.executed core (Bl disp t false)) (lines.with_register t v c) to) (next_is core a f.back low)
    (to_other core (machine.executed core (Bl disp t false)) (lines.with_register t (next core) c) (target core disp) to (target_is core a disp to f.front goal)
    (same_skip core (machine.executed core (Bl disp t false)) (lines.with_register t (next core) c) false (target core disp)
    (skip_kept c (lines.put t (next core) c.registers) (t == 0) ∙ run)
    (linked_done c core t (next core) (target core disp) false f.lawful small f.shows)))

pub call_leads : (x : Setting) (c : lines.Core) (a b : ℕ) (core : Core) → Faces x c a (a + 4) (Ble b false) core → c.skip ≡ false → a + 8 < 2 ^ 32
    → Leads core (machine.executed core (Ble b false)) (lines.with_register 31 (a + 8) c) (lines.register c b)
call_leads x c a b core f run low =
    subst (λ v. Leads core (machine.executed core (Ble b false)) (lines.with_register 31 v c) (lines.register c b)) (next_is core a f.back low)
    (to_other core (machine.executed core (Ble b false)) (lines.with_register 31 (next core) c) (register core b) (lines.register c b) (sym (read c core f.shows b))
    (same_skip core (machine.executed core (Ble b false)) (lines.with_register 31 (next core) c) false (register core b) run
    (linked_done c core 31 (next core) (register core b) false f.lawful (omega arith) f.shows)))

pub return_leads : (x : Setting) (c : lines.Core) (a b : ℕ) (n : Bool) (core : Core) → Faces x c a (a + 4) (Bv b n) core
    → Leads core (machine.executed core (Bv b n)) (record c { skip = n }) (lines.register c b)
return_leads x c a b n core f =
    to_other core (machine.executed core (Bv b n)) (record c { skip = n }) (register core b) (lines.register c b) (sym (read c core f.shows b))
    (moved_leads c core (register core b) n f.shows)

-- a conditional branch, which is taken or not
if_leads : (x : Setting) (c : lines.Core) (core : Core) (a to : ℕ) (disp : ℤ) (taken : Bool) → Shows c core → core.front ≡ a → core.back ≡ a + 4 → c.skip ≡ false
    → a + 8 < 2 ^ 32 → Goal a disp to → Leads core (branches_if core taken disp) c (if taken then to else a + 8)
if_leads x c core a to disp taken h front back run low goal =
    to_other core (branches_if core taken disp) c (if taken then target core disp else next core) (if taken then to else a + 8)
    (ap (λ v. if taken then v else next core) (target_is core a disp to front goal) ∙ ap (λ v. if taken then to else v) (next_is core a back low))
    (same_skip core (branches_if core taken disp) c false (if taken then target core disp else next core) run
    (moved_leads c core (if taken then target core disp else next core) false h))

pub false_leads : (x : Setting) (c : lines.Core) (a to k r s : ℕ) (disp : ℤ) (core : Core) → Faces x c a (a + 4) (Combf k r s disp) core → c.skip ≡ false
    → a + 8 < 2 ^ 32 → Goal a disp to
    → Leads core (machine.executed core (Combf k r s disp)) c (if not (condition k (lines.register c r) (lines.register c s)) then to else a + 8)
false_leads x c a to k r s disp core f run low goal =
    subst (λ (b : Bool). Leads core (machine.executed core (Combf k r s disp)) c (if not b then to else a + 8)) (sym (compares_shown c core k r s f.shows))
    (if_leads x c core a to disp (not (condition k (register core r) (register core s))) f.shows f.front f.back run low goal)

pub true_leads : (x : Setting) (c : lines.Core) (a to k r s : ℕ) (disp : ℤ) (core : Core) → Faces x c a (a + 4) (Combt k r s disp) core → c.skip ≡ false
    → a + 8 < 2 ^ 32 → Goal a disp to
    → Leads core (machine.executed core (Combt k r s disp)) c (if condition k (lines.register c r) (lines.register c s) then to else a + 8)
true_leads x c a to k r s disp core f run low goal =
    subst (λ (b : Bool). Leads core (machine.executed core (Combt k r s disp)) c (if b then to else a + 8)) (sym (compares_shown c core k r s f.shows))
    (if_leads x c core a to disp (condition k (register core r) (register core s)) f.shows f.front f.back run low goal)
