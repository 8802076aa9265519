-- Words put nothing into registers that are none of their targets.
use Rattle.std.proofs.Common.{ℕ, pos, ◌≡◌, ◌≢◌, ◌+◌, ◌%◌, ◌^◌, ◌==◌, ◌&&◌, Bool, true, false, if◌then◌else◌, Option, Some, None, List, [], ◌∷◌, ap, refl, sym, subst, ◌∙◌}
use Rattle.std.specs.List.{AllByRecursion}
use Rattle.std.proofs.lemmas.Bool.{ne_eqb}
use Rattle.pw_value.specs.declared.value.Kind.{Kind}
use Rattle.pw_value.specs.declared.value.Kind.TheVariants.{S8, U8, S16, U16, W32}
use Rattle.pw_inst.specs.declared.Inst.{Inst}
use Rattle.pw_inst.specs.declared.Inst.TheVariants as i
use Rattle.pw_inst.specs.Computing.{Action, Puts, Loads, Stores, Shifts, Clears, Branches, Links, Jumps, Calls, Asks, action, bytes_of_width, registers_put, target_registers}
use Rattle.pw_inst.specs.Registers.{help}
use Rattle.pw_inst.specs.Setting.{left_part, right_part}
use Rattle.pw_inst.specs.declared.relocation.FixKind.{FixKind}
use Rattle.pw_inst.specs.declared.relocation.FixKind.TheVariants as kind
use Rattle.pw_delay.specs.declared.items.Relocation.{Relocation}
use Rattle.pw_delay.specs.declared.items.Word.{Word}
use Rattle.pw_run_languages.specs.Addresses.{Addresses}
use Rattle.pw_run_languages.specs.Acts.{Core, Act, Acts, Full, Fails, acts, act_of, action_of, is_open, number_at, with_number, put, register, with_register, with_address, settled, symbol_address}
use Rattle.pw_select_lines.specs.Registers.{read_global, write_global}
use Rattle.pw_law_select_rows.specs.Straight.{words_of, act_then, ran}

-- what actions put, by the instruction
abbrev pub TargetsAre : Type 0
TargetsAre = (x : Inst) (f : ℕ → ℕ) (shift : ℕ) → registers_put (action f shift x) ≡ target_registers x

-- the register is none of these
abbrev IsNone : ℕ → List ℕ → Type 0
IsNone r ts = AllByRecursion (λ t. r ≢ t) ts

-- and no target of a word
abbrev pub IsNoTarget : ℕ → Word → Type 0
IsNoTarget r x = IsNone r (target_registers x.inst)

same_core : (c d : Core) → Acts c ≡ Acts d → d ≡ c
same_core c d e = cc

if_acts : (b : Bool) (c d : Core) → (if b then Acts c else Fails) ≡ Acts d → d ≡ c
if_acts true c d e = same_core c d e
if_acts false c d e = absurd cc

-- ---- actions

put_by : (t v r : ℕ) (c : Core) (b : Bool) → (r == t) ≡ false → register (if b then c else record c { registers = put t v c.registers }) r ≡ register c r
put_by t v r c true is = refl
put_by t v r c false is = ap (λ (b : Bool). if r == 0 then 0 else (if b then v else c.registers r)) is

put_leaves : (t v r : ℕ) (c : Core) → r ≢ t → register (with_register t v c) r ≡ register c r
put_leaves t v r c other = put_by t v r c (t == 0) (ne_eqb r t other)

act_leaves : (w : Addresses) (r : ℕ) (a : Action) (c d : Core) → IsNone r (registers_put a) → act_of w a c ≡ Acts d → register d r ≡ register c r
act_leaves w r (Puts t word) c d h e = ap (λ (c : Core). register c r) (same_core (with_register t word c) d e) ∙ put_leaves t word r c h.0
act_leaves w r (Loads width a t) c d h e =
    let size = bytes_of_width width in
    let v = number_at size c.memory a in
    ap (λ (c : Core). register c r) (if_acts (is_open w a size) (with_register t v c) d e) ∙ put_leaves t v r c h.0
act_leaves w r (Stores width a word) c d h e =
    let size = bytes_of_width width in
    ap (λ (c : Core). register c r) (if_acts (is_open w a size) (record c { memory = with_number size word a c.memory }) d e)
act_leaves w r (Shifts n) c d h e = ap (λ (c : Core). register c r) (same_core (record c { shift = n }) d e)
act_leaves w r (Clears t skips) c d h e =
    ap (λ (c : Core). register c r) (same_core (record (with_register t 0 c) { skip = skips }) d e) ∙ put_leaves t 0 r c h.0
act_leaves w r (Asks im5 im13) c d h e = absurd (asks_none ((im5 == 0) && (im13 == 4)) e)
  where
    asks_none : (b : Bool) → (if b then Full else Fails) ≡ Acts d → ⊥
    asks_none true e = cc
    asks_none false e = cc
act_leaves w r (Branches taken disp) c d h e = absurd cc
act_leaves w r (Links disp t n) c d h e = absurd cc
act_leaves w r (Jumps a n) c d h e = absurd cc
act_leaves w r (Calls a n) c d h e = absurd cc

-- ---- instructions

inst_leaves : TargetsAre → (w : Addresses) (r : ℕ) (x : Inst) (c d : Core) → IsNone r (target_registers x) → acts w (Some x) c ≡ Acts d → register d r ≡ register c r
inst_leaves targets w r x c d h e = by c.skip refl
  where
    by : (b : Bool) → c.skip ≡ b → register d r ≡ register c r
    by true is =
        let passed : Acts (record c { skip = false }) ≡ Acts d = sym (ap (λ (b : Bool). if b then Acts (record c { skip = false }) else act_of w (action_of x c) c) is) ∙ e in
        ap (λ (c : Core). register c r) (same_core (record c { skip = false }) d passed)
    by false is =
        let ran : act_of w (action_of x c) c ≡ Acts d = sym (ap (λ (b : Bool). if b then Acts (record c { skip = false }) else act_of w (action_of x c) c) is) ∙ e in
        act_leaves w r (action_of x c) c d (subst (IsNone r) (sym (targets x (λ r. register c r) c.shift)) h) ran

-- ---- words

some_same : (x y : Inst) → Some x ≡ Some y → x ≡ y
some_same x y e = cc

-- an address in it changes no target
address_targets : (k : FixKind) (a : ℕ) (x y : Inst) → with_address k a x ≡ Some y → target_registers x ≡ target_registers y
address_targets kind.Ldil a (i.Ldil im t) y e = ap target_registers (some_same (i.Ldil (left_part a) t) y e)
address_targets kind.Im14 a (i.Ldb im b t) y e = ap target_registers (some_same (i.Ldb (pos (right_part a)) b t) y e)
address_targets kind.Im14 a (i.Ldh im b t) y e = ap target_registers (some_same (i.Ldh (pos (right_part a)) b t) y e)
address_targets kind.Im14 a (i.Ldw im b t) y e = ap target_registers (some_same (i.Ldw (pos (right_part a)) b t) y e)
address_targets kind.Im14 a (i.Ldo im b t) y e = ap target_registers (some_same (i.Ldo (pos (right_part a)) b t) y e)
address_targets kind.Im14 a (i.Stb q im b) y e = ap target_registers (some_same (i.Stb q (pos (right_part a)) b) y e)
address_targets kind.Im14 a (i.Sth q im b) y e = ap target_registers (some_same (i.Sth q (pos (right_part a)) b) y e)
address_targets kind.Im14 a (i.Stw q im b) y e = ap target_registers (some_same (i.Stw q (pos (right_part a)) b) y e)
address_targets _ a _ y e = absurd cc

settled_targets : (w : Addresses) (x y : Inst) (o : Option Relocation) → settled w (record { inst = x; relocation = o }) ≡ Some y → target_registers x ≡ target_registers y
settled_targets w x y None e = ap target_registers (some_same x y e)
settled_targets w x y (Some l) e = by (symbol_address w l.symbol) refl e
  where
    by : (o : Option ℕ) → symbol_address w l.symbol ≡ o → settled w (record { inst = x; relocation = Some l }) ≡ Some y → target_registers x ≡ target_registers y
    by None s e = absurd (let none : settled w (record { inst = x; relocation = Some l }) ≡ None = rw s refl in let same : None ≡ Some y = sym none ∙ e in cc)
    by (Some a) s e =
        let is : settled w (record { inst = x; relocation = Some l }) ≡ with_address l.kind ((a + l.addend) % 2 ^ 32) x = rw s refl in
        address_targets l.kind ((a + l.addend) % 2 ^ 32) x y (sym is ∙ e)

word_leaves : TargetsAre → (w : Addresses) (r : ℕ) (x : Inst) (l : Option Relocation) (c d : Core) (o : Option Inst) → settled w (record { inst = x; relocation = l }) ≡ o
    → IsNone r (target_registers x) → acts w o c ≡ Acts d → register d r ≡ register c r
word_leaves targets w r x l c d None s h e = absurd cc
word_leaves targets w r x l c d (Some y) s h e = inst_leaves targets w r y c d (subst (IsNone r) (settled_targets w x y l s) h) e

pub words_keep : TargetsAre → (w : Addresses) (r : ℕ) (xs : List Word) (c e : Core) → AllByRecursion (IsNoTarget r) xs → ran w xs c ≡ Acts e → register e r ≡ register c r
words_keep targets w r [] c e h goes = ap (λ (c : Core). register c r) (same_core c e goes)
words_keep targets w r (x ∷ xs) c e h goes = by_act (λ (d : Core). words_keep targets w r xs d e h.1) (acts w (settled w x) c) refl goes
  where
    by_act : ((d : Core) → ran w xs d ≡ Acts e → register e r ≡ register d r) → (a : Act) → acts w (settled w x) c ≡ a → act_then a (ran w xs) ≡ Acts e → register e r ≡ register c r
    by_act later (Acts d) is goes = later d goes ∙ word_leaves targets w r x.inst x.relocation c d (settled w x) refl h.0 is
    by_act later Full is goes = absurd cc
    by_act later Fails is goes = absurd cc

-- ---- rows of globals by name

pub read_keeps : (g : List ℕ) (k : Kind) (t r : ℕ) → r ≢ help → r ≢ t → AllByRecursion (IsNoTarget r) (words_of (read_global g k t))
read_keeps g S8 t r one two = ((one, tt), ((two, tt), ((two, tt), tt)))
read_keeps g U8 t r one two = ((one, tt), ((two, tt), tt))
read_keeps g S16 t r one two = ((one, tt), ((two, tt), ((two, tt), tt)))
read_keeps g U16 t r one two = ((one, tt), ((two, tt), tt))
read_keeps g W32 t r one two = ((one, tt), ((two, tt), tt))

pub write_keeps : (g : List ℕ) (k : Kind) (q r : ℕ) → r ≢ help → AllByRecursion (IsNoTarget r) (words_of (write_global g k q))
write_keeps g S8 q r one = ((one, tt), (tt, tt))
write_keeps g U8 q r one = ((one, tt), (tt, tt))
write_keeps g S16 q r one = ((one, tt), (tt, tt))
write_keeps g U16 q r one = ((one, tt), (tt, tt))
write_keeps g W32 q r one = ((one, tt), (tt, tt))
