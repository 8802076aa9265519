-- Words that put nothing into register 30 leave it.
use Rattle.std.specs.Prelude.{ℕ, pos, ◌≡◌, ◌+◌, ◌%◌, ◌^◌, ◌==◌, ◌&&◌, Bool, true, false, if◌then◌else◌, Option, Some, None}
use Rattle.std.specs.List.{AllByRecursion}
use Rattle.std.proofs.Common.{subst, sym, ap, refl, ◌∙◌}
use Rattle.std.proofs.lemmas.Bool.{eqb-false, ne_eqb}
use Rattle.pw_inst.specs.declared.Inst.{Inst}
use Rattle.pw_inst.specs.declared.Inst.TheVariants as i
use Rattle.pw_inst.specs.Computing.{Action, Puts, Loads, Stores, Shifts, Clears, Branches, Links, Jumps, Calls, Asks, action, bytes_of_width, registers_put, target_registers}
use Rattle.pw_inst.specs.Setting.{left_part, right_part}
use Rattle.pw_inst.specs.declared.relocation.FixKind.{FixKind}
use Rattle.pw_inst.specs.declared.relocation.FixKind.TheVariants as kind
use Rattle.pw_delay.specs.declared.items.Relocation.{Relocation}
use Rattle.pw_run_languages.specs.Addresses.{Addresses}
use Rattle.pw_run_languages.specs.Acts as lines
use Rattle.pw_run_languages.specs.Acts.{Acts, Full, Fails, acts, act_of, action_of, is_open, number_at, with_number, put, with_register, with_address, settled, symbol_address}
use Rattle.pw_law_link_run.specs.Steps.{Setting}
use Rattle.pw_law_levels.specs.Sparing.{IsOther}
use Rattle.pw_law_levels.specs.Bodies.{LeavesPointer}

-- what actions put, by the instruction
abbrev pub TargetsAre : Type 0
TargetsAre = (x : Inst) (f : ℕ → ℕ) (shift : ℕ) → registers_put (action f shift x) ≡ target_registers x

pub same_core : (c d : lines.Core) → Acts c ≡ Acts d → d ≡ c
same_core c d e = cc

pub if_acts : (b : Bool) (c d : lines.Core) → (if b then Acts c else Fails) ≡ Acts d → (b ≡ true) × (d ≡ c)
if_acts true c d e = (refl, same_core c d e)
if_acts false c d e = absurd cc

-- ---- registers

put_by : (t v : ℕ) (c : lines.Core) (b : Bool) → (30 == t) ≡ false → lines.register (if b then c else record c { registers = put t v c.registers }) 30 ≡ lines.register c 30
put_by t v c true is = refl
put_by t v c false is = ap (λ (b : Bool). if b then v else c.registers 30) is

put_leaves : (t v : ℕ) (c : lines.Core) → IsOther t → lines.register (with_register t v c) 30 ≡ lines.register c 30
put_leaves t v c other = put_by t v c (t == 0) (ne_eqb 30 t (λ e. eqb-false t 30 other (sym e)))

-- ---- actions

act_leaves : (w : Addresses) (a : Action) (c d : lines.Core) → AllByRecursion IsOther (registers_put a) → act_of w a c ≡ Acts d → lines.register d 30 ≡ lines.register c 30
act_leaves w (Puts t word) c d h e = ap (λ (c : lines.Core). lines.register c 30) (same_core (with_register t word c) d e) ∙ put_leaves t word c h.0
act_leaves w (Loads width a t) c d h e =
    let size = bytes_of_width width in
    let v = number_at size c.memory a in
    ap (λ (c : lines.Core). lines.register c 30) (if_acts (is_open w a size) (with_register t v c) d e).1 ∙ put_leaves t v c h.0
act_leaves w (Stores width a word) c d h e =
    let size = bytes_of_width width in
    ap (λ (c : lines.Core). lines.register c 30) (if_acts (is_open w a size) (record c { memory = with_number size word a c.memory }) d e).1
act_leaves w (Shifts n) c d h e = ap (λ (c : lines.Core). lines.register c 30) (same_core (record c { shift = n }) d e)
act_leaves w (Clears t skips) c d h e =
    ap (λ (c : lines.Core). lines.register c 30) (same_core (record (with_register t 0 c) { skip = skips }) d e) ∙ put_leaves t 0 c h.0
act_leaves w (Asks im5 im13) c d h e = absurd (asks_none ((im5 == 0) && (im13 == 4)) e)
  where
    asks_none : (b : Bool) → (if b then Full else Fails) ≡ Acts d → ⊥
    asks_none true e = cc
    asks_none false e = cc
act_leaves w (Branches taken disp) c d h e = absurd cc
act_leaves w (Links disp t n) c d h e = absurd cc
act_leaves w (Jumps a n) c d h e = absurd cc
act_leaves w (Calls a n) c d h e = absurd cc

-- ---- instructions

-- one that is not passed over
pub acts_run : (w : Addresses) (x : Inst) (c d : lines.Core) → c.skip ≡ false → acts w (Some x) c ≡ Acts d → act_of w (action_of x c) c ≡ Acts d
acts_run w x c d run e = sym (ap (λ (b : Bool). if b then Acts (record c { skip = false }) else act_of w (action_of x c) c) run) ∙ e

inst_leaves : TargetsAre → (w : Addresses) (x : Inst) (c d : lines.Core) → AllByRecursion IsOther (target_registers x) → acts w (Some x) c ≡ Acts d → lines.register d 30 ≡ lines.register c 30
inst_leaves targets w x c d h e = by c.skip refl
  where
    by : (b : Bool) → c.skip ≡ b → lines.register d 30 ≡ lines.register c 30
    by true is =
        let passed : Acts (record c { skip = false }) ≡ Acts d = sym (ap (λ (b : Bool). if b then Acts (record c { skip = false }) else act_of w (action_of x c) c) is) ∙ e in
        ap (λ (c : lines.Core). lines.register c 30) (same_core (record c { skip = false }) d passed)
    by false is =
        act_leaves w (action_of x c) c d (subst (λ ts. AllByRecursion IsOther ts) (sym (targets x (λ r. lines.register c r) c.shift)) h) (acts_run w x c d is e)

-- ---- words

-- an address in it changes no target
some_same : (x y : Inst) → Some x ≡ Some y → x ≡ y
some_same x y e = cc

address_targets : (k : FixKind) (a : ℕ) (x y : Inst) → with_address k a x ≡ Some y → target_registers x ≡ target_registers y
address_targets kind.Ldil a (i.Ldil im t) y e = ap target_registers (some_same (i.Ldil (left_part a) t) y e)
address_targets kind.Im14 a (i.Ldb im b t) y e = ap target_registers (some_same (i.Ldb (pos (right_part a)) b t) y e)
address_targets kind.Im14 a (i.Ldh im b t) y e = ap target_registers (some_same (i.Ldh (pos (right_part a)) b t) y e)
address_targets kind.Im14 a (i.Ldw im b t) y e = ap target_registers (some_same (i.Ldw (pos (right_part a)) b t) y e)
address_targets kind.Im14 a (i.Ldo im b t) y e = ap target_registers (some_same (i.Ldo (pos (right_part a)) b t) y e)
address_targets kind.Im14 a (i.Stb q im b) y e = ap target_registers (some_same (i.Stb q (pos (right_part a)) b) y e)
address_targets kind.Im14 a (i.Sth q im b) y e = ap target_registers (some_same (i.Sth q (pos (right_part a)) b) y e)
address_targets kind.Im14 a (i.Stw q im b) y e = ap target_registers (some_same (i.Stw q (pos (right_part a)) b) y e)
address_targets _ a _ y e = absurd cc

-- a word with an address is settled to one that puts into the same registers
settled_targets : (w : Addresses) (x y : Inst) (o : Option Relocation) → settled w (record { inst = x; relocation = o }) ≡ Some y → target_registers x ≡ target_registers y
settled_targets w x y None e = ap target_registers (some_same x y e)
settled_targets w x y (Some l) e = by (symbol_address w l.symbol) refl e
  where
    by : (o : Option ℕ) → symbol_address w l.symbol ≡ o → settled w (record { inst = x; relocation = Some l }) ≡ Some y → target_registers x ≡ target_registers y
    by None s e = absurd (let none : settled w (record { inst = x; relocation = Some l }) ≡ None = rw s refl in let same : None ≡ Some y = sym none ∙ e in cc)
    by (Some a) s e =
        let is : settled w (record { inst = x; relocation = Some l }) ≡ with_address l.kind ((a + l.addend) % 2 ^ 32) x = rw s refl in
        address_targets l.kind ((a + l.addend) % 2 ^ 32) x y (sym is ∙ e)

settled_leaves : TargetsAre → (w : Addresses) (x : Inst) (r : Option Relocation) (c d : lines.Core) (o : Option Inst) → settled w (record { inst = x; relocation = r }) ≡ o
    → AllByRecursion IsOther (target_registers x) → acts w o c ≡ Acts d → lines.register d 30 ≡ lines.register c 30
settled_leaves targets w x r c d None s h e = absurd cc
settled_leaves targets w x r c d (Some y) s h e =
    inst_leaves targets w y c d (subst (λ ts. AllByRecursion IsOther ts) (settled_targets w x y r s) h) e

pub word_leaves : TargetsAre → (x : Setting) (inst : Inst) (r : Option Relocation) → AllByRecursion IsOther (target_registers inst) → LeavesPointer x (record { inst = inst; relocation = r })
word_leaves targets x inst r h c d e = settled_leaves targets x.addresses inst r c d (settled x.addresses (record { inst = inst; relocation = r })) refl h e
