-- What comes of the word in a slot.
use Rattle.std.specs.Prelude.{ℕ, ◌≡◌, ◌+◌, false, Option, Some, None, List, [], ◌∷◌, ◌++◌}
use Rattle.std.proofs.Common.{sym, ap, refl, ◌∙◌}
use Rattle.pw_inst.specs.declared.Inst.{Inst}
use Rattle.pw_delay.specs.declared.items.Word.{Word}
use Rattle.pw_run.specs.Runs.{StackFull}
use Rattle.pw_run_languages.specs.Traces.{Event}
use Rattle.pw_run_languages.specs.Acts as lines
use Rattle.pw_run_languages.specs.Acts.{Act, Acts, Full, Fails, acts, settled}
use Rattle.pw_run_languages.specs.LineRun.{Machine, Step, On, Stopped, Astray, accesses, went_on, and_then, through_slot}
use Rattle.pw_law_link_run.specs.Steps.{Setting}
use Rattle.pw_law_link_run.specs.Slots.{IsSlotFit, LeavesRegister, SlotDoes, behind_slot}

-- a word that acts is an instruction
pub acting : (x : Setting) (o : Option Inst) (c d : lines.Core) → acts x.addresses o c ≡ Acts d → (i : Inst) × (o ≡ Some i)
acting x None c d e = absurd cc
acting x (Some i) c d e = (i, refl)

-- where the word in the slot acts, what follows goes on from behind it
acted : (x : Setting) (o : Option Inst) (m : Machine) (next : Machine → Step) (P : Step → Type 0) (a : Act) → acts x.addresses o m.core ≡ a
    → (acts x.addresses o m.core ≡ Full → P (Stopped StackFull m)) → P Astray
    → ((d : lines.Core) → acts x.addresses o m.core ≡ Acts d → P (next (behind_slot d (accesses x.program x.addresses o m.core) m)))
    → P (and_then (went_on x.program x.addresses o a m) next)
acted x o m next P (Acts d) e full astray go = go d e
acted x o m next P Full e full astray go = full e
acted x o m next P Fails e full astray go = astray

-- A turn through its slot, by the state behind that.
pub slot_by : (x : Setting) (slot : Option Word) (m : Machine) (next : Machine → Step) (P : Step → Type 0)
    → ((word : Word) → slot ≡ Some word → acts x.addresses (settled x.addresses word) m.core ≡ Full → P (Stopped StackFull m)) → P Astray
    → ((d : lines.Core) (es : List (Event ℕ ℕ)) → SlotDoes x slot m.core d es → P (next (behind_slot d es m)))
    → P (through_slot x.program x.addresses slot next m)
slot_by x None m next P full astray go = go m.core [] (refl, refl)
slot_by x (Some word) m next P full astray go =
    let o = settled x.addresses word in
    acted x o m next P (acts x.addresses o m.core) refl (full word refl) astray
    (λ d e. go d (accesses x.program x.addresses o m.core) (e, refl))

-- one that fits never stops
pub slot_goes : (x : Setting) (slot : Option Word) (m : Machine) (next : Machine → Step) (P : Step → Type 0) → IsSlotFit x slot → m.core.skip ≡ false → P Astray
    → ((d : lines.Core) (es : List (Event ℕ ℕ)) → SlotDoes x slot m.core d es → P (next (behind_slot d es m)))
    → P (through_slot x.program x.addresses slot next m)
slot_goes x None m next P fit run astray go = go m.core [] (refl, refl)
slot_goes x (Some word) m next P fit run astray go =
    let o = settled x.addresses word in
    acted x o m next P (acts x.addresses o m.core) refl (λ e. absurd (fit.stays m.core run e)) astray
    (λ d e. go d (accesses x.program x.addresses o m.core) (e, refl))

-- the word behind it is not passed over
pub slot_runs : (x : Setting) (slot : Option Word) (c d : lines.Core) (es : List (Event ℕ ℕ)) → IsSlotFit x slot → c.skip ≡ false → SlotDoes x slot c d es → d.skip ≡ false
slot_runs x None c d es fit run does = ap (λ (c : lines.Core). c.skip) does.0 ∙ run
slot_runs x (Some word) c d es fit run does = fit.runs c d run does.0

pub slot_leaves : (x : Setting) (r : ℕ) (slot : Option Word) (c d : lines.Core) (es : List (Event ℕ ℕ)) → LeavesRegister x r slot → c.skip ≡ false → SlotDoes x slot c d es
    → lines.register d r ≡ lines.register c r
slot_leaves x r None c d es leaves run does = ap (λ (c : lines.Core). lines.register c r) does.0
slot_leaves x r (Some word) c d es leaves run does = leaves c d run does.0
