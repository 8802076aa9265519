-- A turn of control as the machine takes it: the branch, and behind it the word in its slot.
use Rattle.std.specs.Prelude.{ℕ, suc, ℤ, ◌≡◌, ◌+◌, ◌%◌, ◌^◌, ◌<◌, ◌≤◌, not, true, false, if◌then◌else◌, Option, Some, None, List}
use Rattle.std.proofs.Common.{arith, subst, sym, ap, refl, ◌∙◌}
use Rattle.pw_value.specs.Limits.{word_limit}
use Rattle.pw_inst.specs.declared.Inst.{Inst}
use Rattle.pw_inst.specs.declared.Inst.TheVariants.{Combt, Combf, Bl, Bv, Ble}
use Rattle.pw_inst.specs.InstructionTable.{IsInRange, nop}
use Rattle.pw_machine.specs.Core.{Core}
use Rattle.pw_inst.specs.Computing.{condition}
use Rattle.pw_machine.specs.Effect as machine
use Rattle.pw_delay.specs.declared.items.Word.{Word}
use Rattle.pw_delay.specs.Placement.{in_slot}
use Rattle.pw_run_languages.specs.Traces.{Event}
use Rattle.pw_run_languages.specs.Acts as lines
use Rattle.pw_run_languages.specs.Acts.{Acts, acts, settled, loaded_at, stored_at}
use Rattle.pw_run_languages.specs.LineRun.{accesses}
use Rattle.pw_run_languages.specs.MachineRun.{Noted}
use Rattle.pw_law_link_run.specs.Showing.{Leads}
use Rattle.pw_law_link_run.specs.Steps.{Setting, fetched, IsInText, IsSetting, At, Arrives, IsQuiet, with_accesses}
use Rattle.pw_law_link_run.specs.Slots.{IsSlotFit, SlotDoes}
use Rattle.pw_law_link_run.proofs.Noting.{settles, no_accesses}
use Rattle.pw_law_link_run.proofs.Slots.{acting}
use Rattle.pw_law_link_run.proofs.Stepping.{Faces, word_at_front, branch_at_front, pass_at_front}
use Rattle.pw_law_link_run.proofs.Branches.{Goal, jump_leads, call_leads, return_leads, false_leads, true_leads}

-- ---- addresses of the text are far below the greatest word

pub text_small : (x : Setting) (a : ℕ) → x.start.core.text ≤ word_limit → IsInText x a → a + 16 < 2 ^ 32
text_small x a few t = omega (arith, few, t.below)

-- ---- the word that does nothing

nop_range : IsInRange nop
unfolding IsInRange
nop_range = (omega arith, omega arith, omega arith)

nop_acts : (x : Setting) (c : lines.Core) → c.skip ≡ false → acts x.addresses (Some nop) c ≡ Acts c
nop_acts x c run = rw run refl

to_accesses : (x : Setting) (k : ℕ) (c d : lines.Core) (a b : ℕ) (rest output : List ℕ) (n : Noted) (i : Inst) → loaded_at i d ≡ None → stored_at i d ≡ None
    → Arrives x k c a b rest output (with_accesses (accesses x.program x.addresses (Some i) d) n) → Arrives x k c a b rest output n
to_accesses x k c d a b rest output n i l s h = subst (λ es. Arrives x k c a b rest output (with_accesses es n)) (no_accesses x d i l s) h

pub nop_at_front : (x : Setting) (k : ℕ) (c : lines.Core) (a b : ℕ) (rest output : List ℕ) (n : Noted) → IsSetting x
    → At x k c a b rest output n → IsInText x a → fetched x a ≡ settled x.addresses (in_slot None) → c.skip ≡ false
    → Arrives x (suc k) c b ((b + 4) % 2 ^ 32) rest output n
nop_at_front x k c a b rest output n s h t f run =
    to_accesses x (suc k) c c b ((b + 4) % 2 ^ 32) rest output n nop refl refl
    (word_at_front x k c c a b rest output n nop s h t f nop_range (nop_acts x c run))

-- ---- a branch with nothing in its slot

-- where a branch stands: its words are of the text
pub record IsTurn (x : Setting) (a : ℕ) (i : Inst) : Type 0 where
  pub here : IsInText x a
  pub slot : IsInText x (a + 4)
  pub is : fetched x a ≡ Some i

pub empty_turn : (x : Setting) (k : ℕ) (c d : lines.Core) (a to : ℕ) (rest output : List ℕ) (n : Noted) (i : Inst) → IsSetting x
    → At x k c a (a + 4) rest output n → IsTurn x a i → fetched x (a + 4) ≡ settled x.addresses (in_slot None) → c.skip ≡ false → d.skip ≡ false
    → loaded_at i c ≡ None → stored_at i c ≡ None → ((core : Core) → Faces x c a (a + 4) i core → Leads core (machine.executed core i) d to)
    → IsQuiet x d (a + 4) n.calls → Arrives x (suc (suc k)) d to ((to + 4) % 2 ^ 32) rest output n
empty_turn x k c d a to rest output n i s h t slot run on l st does q =
    nop_at_front x (suc k) d (a + 4) to rest output n s
    (settles x (suc k) d (a + 4) to rest output n (branch_at_front x k c d a (a + 4) to rest output n i s h t.here t.is run l st does) q)
    t.slot slot on

-- a branch whose slot has a word that acts
pub filled_turn : (x : Setting) (k : ℕ) (c d e : lines.Core) (a to : ℕ) (rest output : List ℕ) (n : Noted) (i j : Inst) → IsSetting x
    → At x k c a (a + 4) rest output n → IsTurn x a i → fetched x (a + 4) ≡ Some j → IsInRange j → acts x.addresses (Some j) d ≡ Acts e → c.skip ≡ false
    → loaded_at i c ≡ None → stored_at i c ≡ None → ((core : Core) → Faces x c a (a + 4) i core → Leads core (machine.executed core i) d to)
    → IsQuiet x d (a + 4) n.calls
    → Arrives x (suc (suc k)) e to ((to + 4) % 2 ^ 32) rest output (with_accesses (accesses x.program x.addresses (Some j) d) n)
filled_turn x k c d e a to rest output n i j s h t slot range act run l st does q =
    word_at_front x (suc k) d e (a + 4) to rest output n j s
    (settles x (suc k) d (a + 4) to rest output n (branch_at_front x k c d a (a + 4) to rest output n i s h t.here t.is run l st does) q)
    t.slot slot range act

-- a branch with its slot, filled or not
pub slot_turn : (x : Setting) (k : ℕ) (c d e : lines.Core) (a to : ℕ) (rest output : List ℕ) (n : Noted) (i : Inst) (slot : Option Word) (es : List (Event ℕ ℕ)) → IsSetting x
    → At x k c a (a + 4) rest output n → IsTurn x a i → fetched x (a + 4) ≡ settled x.addresses (in_slot slot) → IsSlotFit x slot → c.skip ≡ false → d.skip ≡ false
    → loaded_at i c ≡ None → stored_at i c ≡ None → ((core : Core) → Faces x c a (a + 4) i core → Leads core (machine.executed core i) d to)
    → IsQuiet x d (a + 4) n.calls → SlotDoes x slot d e es
    → Arrives x (suc (suc k)) e to ((to + 4) % 2 ^ 32) rest output (with_accesses es n)
slot_turn x k c d e a to rest output n i None es s h t slot fit run on l st does q behind =
    subst (λ es. Arrives x (suc (suc k)) e to ((to + 4) % 2 ^ 32) rest output (with_accesses es n)) (sym behind.1)
    (subst (λ e. Arrives x (suc (suc k)) e to ((to + 4) % 2 ^ 32) rest output n) (sym behind.0)
    (empty_turn x k c d a to rest output n i s h t slot run on l st does q))
slot_turn x k c d e a to rest output n i (Some word) es s h t slot fit run on l st does q behind =
    let j = acting x (settled x.addresses word) d e behind.0 in
    let noted : accesses x.program x.addresses (Some j.0) d ≡ es = ap (λ o. accesses x.program x.addresses o d) (sym j.1) ∙ sym behind.1 in
    subst (λ es. Arrives x (suc (suc k)) e to ((to + 4) % 2 ^ 32) rest output (with_accesses es n)) noted
    (filled_turn x k c d e a to rest output n i j.0 s h t (slot ∙ j.1) (fit.range j.0 j.1) (ap (λ o. acts x.addresses o d) (sym j.1) ∙ behind.0) run l st does q)

-- to a block, or to a symbol with the return address in a register
pub jump_turn : (x : Setting) (k : ℕ) (c e : lines.Core) (a to link : ℕ) (disp : ℤ) (rest output : List ℕ) (n : Noted) (slot : Option Word) (es : List (Event ℕ ℕ)) → IsSetting x → x.start.core.text ≤ word_limit
    → At x k c a (a + 4) rest output n → IsTurn x a (Bl disp link false) → Goal a disp to → link < 32 → fetched x (a + 4) ≡ settled x.addresses (in_slot slot) → IsSlotFit x slot
    → c.skip ≡ false → (lines.with_register link (a + 8) c).skip ≡ false → IsQuiet x (lines.with_register link (a + 8) c) (a + 4) n.calls
    → SlotDoes x slot (lines.with_register link (a + 8) c) e es
    → Arrives x (suc (suc k)) e to ((to + 4) % 2 ^ 32) rest output (with_accesses es n)
jump_turn x k c e a to link disp rest output n slot es s few h t goal small stands fit run on q does =
    slot_turn x k c (lines.with_register link (a + 8) c) e a to rest output n (Bl disp link false) slot es s h t stands fit run on refl refl
    (λ core f. jump_leads x c a to link disp core f run small (omega (arith, text_small x a few t.here)) goal) q does

-- a conditional branch, where the condition does not hold
pub false_turn : (x : Setting) (k : ℕ) (c e : lines.Core) (a to j r u : ℕ) (disp : ℤ) (rest output : List ℕ) (n : Noted) (slot : Option Word) (es : List (Event ℕ ℕ)) → IsSetting x → x.start.core.text ≤ word_limit
    → At x k c a (a + 4) rest output n → IsTurn x a (Combf j r u disp) → Goal a disp to → fetched x (a + 4) ≡ settled x.addresses (in_slot slot) → IsSlotFit x slot
    → c.skip ≡ false → IsQuiet x c (a + 4) n.calls → SlotDoes x slot c e es
    → (goal : ℕ) → goal ≡ (if not (condition j (lines.register c r) (lines.register c u)) then to else a + 8)
    → Arrives x (suc (suc k)) e goal ((goal + 4) % 2 ^ 32) rest output (with_accesses es n)
false_turn x k c e a to j r u disp rest output n slot es s few h t goes stands fit run q does goal is =
    slot_turn x k c c e a goal rest output n (Combf j r u disp) slot es s h t stands fit run run refl refl
    (λ core f. subst (λ v. Leads core (machine.executed core (Combf j r u disp)) c v) (sym is) (false_leads x c a to j r u disp core f run (omega (arith, text_small x a few t.here)) goes)) q does

-- and one where it holds
pub true_turn : (x : Setting) (k : ℕ) (c e : lines.Core) (a to j r u : ℕ) (disp : ℤ) (rest output : List ℕ) (n : Noted) (slot : Option Word) (es : List (Event ℕ ℕ)) → IsSetting x → x.start.core.text ≤ word_limit
    → At x k c a (a + 4) rest output n → IsTurn x a (Combt j r u disp) → Goal a disp to → fetched x (a + 4) ≡ settled x.addresses (in_slot slot) → IsSlotFit x slot
    → c.skip ≡ false → IsQuiet x c (a + 4) n.calls → SlotDoes x slot c e es
    → (goal : ℕ) → goal ≡ (if condition j (lines.register c r) (lines.register c u) then to else a + 8)
    → Arrives x (suc (suc k)) e goal ((goal + 4) % 2 ^ 32) rest output (with_accesses es n)
true_turn x k c e a to j r u disp rest output n slot es s few h t goes stands fit run q does goal is =
    slot_turn x k c c e a goal rest output n (Combt j r u disp) slot es s h t stands fit run run refl refl
    (λ core f. subst (λ v. Leads core (machine.executed core (Combt j r u disp)) c v) (sym is) (true_leads x c a to j r u disp core f run (omega (arith, text_small x a few t.here)) goes)) q does

-- a call through register 22
pub value_turn : (x : Setting) (k : ℕ) (c e : lines.Core) (a : ℕ) (rest output : List ℕ) (n : Noted) (slot : Option Word) (es : List (Event ℕ ℕ)) → IsSetting x → x.start.core.text ≤ word_limit
    → At x k c a (a + 4) rest output n → IsTurn x a (Ble 22 false) → fetched x (a + 4) ≡ settled x.addresses (in_slot slot) → IsSlotFit x slot → c.skip ≡ false
    → IsQuiet x (lines.with_register 31 (a + 8) c) (a + 4) n.calls → SlotDoes x slot (lines.with_register 31 (a + 8) c) e es
    → Arrives x (suc (suc k)) e (lines.register c 22) ((lines.register c 22 + 4) % 2 ^ 32) rest output (with_accesses es n)
value_turn x k c e a rest output n slot es s few h t stands fit run q does =
    slot_turn x k c (lines.with_register 31 (a + 8) c) e a (lines.register c 22) rest output n (Ble 22 false) slot es s h t stands fit run run refl refl
    (λ core f. call_leads x c a 22 core f run (omega (arith, text_small x a few t.here))) q does

-- a return with a word in its slot
pub filled_return : (x : Setting) (k : ℕ) (c e : lines.Core) (a b : ℕ) (rest output : List ℕ) (n : Noted) (word : Word) (es : List (Event ℕ ℕ)) → IsSetting x
    → At x k c a (a + 4) rest output n → IsTurn x a (Bv b false) → fetched x (a + 4) ≡ settled x.addresses (in_slot (Some word)) → IsSlotFit x (Some word) → c.skip ≡ false
    → IsQuiet x c (a + 4) n.calls → SlotDoes x (Some word) c e es
    → Arrives x (suc (suc k)) e (lines.register c b) ((lines.register c b + 4) % 2 ^ 32) rest output (with_accesses es n)
filled_return x k c e a b rest output n word es s h t stands fit run q does =
    let same : record c { skip = false } ≡ c = ap (λ b. record c { skip = b }) (sym run) in
    slot_turn x k c c e a (lines.register c b) rest output n (Bv b false) (Some word) es s h t stands fit run run refl refl
    (λ core f. subst (λ c'. Leads core (machine.executed core (Bv b false)) c' (lines.register c b)) same (return_leads x c a b false core f)) q does

-- a return, behind which the next word is passed over
pub return_turn : (x : Setting) (k : ℕ) (c : lines.Core) (a b : ℕ) (rest output : List ℕ) (n : Noted) → IsSetting x
    → At x k c a (a + 4) rest output n → IsTurn x a (Bv b true) → c.skip ≡ false → IsQuiet x (record c { skip = true }) (a + 4) n.calls
    → Arrives x (suc (suc k)) (record c { skip = false }) (lines.register c b) ((lines.register c b + 4) % 2 ^ 32) rest output n
return_turn x k c a b rest output n s h t run q =
    pass_at_front x (suc k) (record c { skip = true }) (a + 4) (lines.register c b) rest output n s
    (settles x (suc k) (record c { skip = true }) (a + 4) (lines.register c b) rest output n
    (branch_at_front x k c (record c { skip = true }) a (a + 4) (lines.register c b) rest output n (Bv b true) s h t.here t.is run refl refl
    (λ core f. return_leads x c a b true core f)) q)
    t.slot refl
