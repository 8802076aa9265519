-- The words with which a selected function begins: the end of the frame in register 1, the check, the store of the return
-- address, which bounds the stack, and then the stack pointer.
use Rattle.std.specs.Prelude.{ℕ, pos, neg_ℤ, nat_lt, nat_le, ◌≡◌, ◌+◌, ◌-◌, ◌*◌, ◌/◌, ◌%◌, ◌<◌, ◌≤◌, ◌^◌, ◌==◌, ◌&&◌, bit_or, Bool, true, false, if◌then◌else◌, Option, Some, None, List, [], ◌∷◌, ◌++◌}
use Rattle.std.specs.Int.{w32, cast_signed}
use Rattle.std.specs.Int.Bits.{or_zero_r}
use Rattle.std.proofs.Common.{arith, subst, sym, ap, refl, ◌∙◌}
use Rattle.std.proofs.lemmas.Int.{ints, of_z-to_z}
use Rattle.std.proofs.lemmas.Bool.{and_parts, leb-true}
use Rattle.pw_value.specs.Limits.{memory_size}
use Rattle.pw_inst.specs.declared.Inst.{Inst}
use Rattle.pw_inst.specs.declared.Inst.TheVariants as i
use Rattle.pw_inst.specs.Limits.{near_limit}
use Rattle.pw_inst.specs.Computing.{condition, offset_by}
use Rattle.pw_inst.specs.declared.line.Line.{Line}
use Rattle.pw_inst.specs.declared.line.Line.TheVariants.{Plain}
use Rattle.pw_inst.specs.declared.relocation.FixKind.TheVariants as kind
use Rattle.pw_inst.specs.declared.relocation.Symbol.TheVariants.{StackLimit}
use Rattle.pw_select_lines.specs.Registers.{word, is_near, long_constant}
use Rattle.pw_select.specs.Selection.{entry_lines}
use Rattle.pw_delay.specs.declared.items.Word.{Word}
use Rattle.pw_delay.specs.Items.{bare, slotted}
use Rattle.pw_run_languages.specs.Acts as lines
use Rattle.pw_run_languages.specs.Acts.{Acts, acts, act_of, action_of, is_open, with_number, with_register, settled}
use Rattle.pw_run_languages.specs.LineRun.{LineFn}
use Rattle.pw_law_link_run.specs.Steps.{Setting}
use Rattle.pw_law_link_run.specs.Leveled.{IsStack, IsRaised, Level, HelpIs, HoldsAt}
use Rattle.pw_law_levels.specs.Bodies.{Leads, Raises, first_level}
use Rattle.pw_law_levels.proofs.Pointer.{same_core, if_acts, acts_run}

-- what is known before the pointer is put up
abbrev low : Bool → Bool → Option (Bool × ℕ) → Level
low bounded clear help = record { raised = Some false; bounded = bounded; clear = clear; help = help }

-- a word that puts something into register 21
puts_second : (x : Setting) (f : LineFn) (word : Word) (y : Inst) (v : lines.Core → ℕ) → settled x.addresses word ≡ Some y
    → ((c : lines.Core) → act_of x.addresses (action_of y c) c ≡ Acts (with_register 21 (v c) c)) → Leads x f (low false true None) word (low false true None)
puts_second x f word y v is does = λ stack c d h e.
    let run = h.clear refl in
    let done : Acts (with_register 21 (v c) c) ≡ Acts d = sym (does c) ∙ acts_run x.addresses y c d run (ap (λ o. acts x.addresses o c) (sym is) ∙ e) in
    subst (λ d. HoldsAt x f (low false true None) stack d) (sym (same_core (with_register 21 (v c) c) d done)) (record {
      small = h.small;
      pointer = h.pointer;
      bounds = λ e. absurd cc;
      clear = λ e. run;
      help = tt;
    })

-- a word that puts a known number into register 1
puts_help : (x : Setting) (f : LineFn) (old new : Option (Bool × ℕ)) (y : Inst) (v : lines.Core → ℕ)
    → ((c : lines.Core) → act_of x.addresses (action_of y c) c ≡ Acts (with_register 1 (v c) c))
    → ((stack : ℕ) (c : lines.Core) → HoldsAt x f (low false true old) stack c → HelpIs new stack (with_register 1 (v c) c))
    → Leads x f (low false true old) (bare y) (low false true new)
puts_help x f old new y v does helps = λ stack c d h e.
    let run = h.clear refl in
    let done : Acts (with_register 1 (v c) c) ≡ Acts d = sym (does c) ∙ acts_run x.addresses y c d run e in
    subst (λ d. HoldsAt x f (low false true new) stack d) (sym (same_core (with_register 1 (v c) c) d done)) (record {
      small = h.small;
      pointer = h.pointer;
      bounds = λ e. absurd cc;
      clear = λ e. run;
      help = helps stack c h;
    })

-- the check passes over the word behind it, or not
checks : (x : Setting) (f : LineFn) (frame : ℕ) → Leads x f (low false true (Some (true, frame))) (bare (i.Comclr 5 false 1 21 0)) (low false false (Some (true, frame)))
checks x f frame = λ stack c d h e.
    let y = i.Comclr 5 false 1 21 0 in
    let next : lines.Core = record c { skip = condition 5 (lines.register c 1) (lines.register c 21) } in
    let done : Acts next ≡ Acts d = acts_run x.addresses y c d (h.clear refl) e in
    let same = same_core next d done in
    subst (λ d. HoldsAt x f (low false false (Some (true, frame))) stack d) (sym same) (record {
      small = h.small;
      pointer = h.pointer;
      bounds = λ e. absurd cc;
      clear = λ e. absurd cc;
      help = h.help;
    })

-- BREAK goes on only where it is passed over
break_by : (x : Setting) (f : LineFn) (frame stack : ℕ) (c d : lines.Core) (b : Bool) → c.skip ≡ b → HoldsAt x f (low false false (Some (true, frame))) stack c
    → (if b then Acts (record c { skip = false }) else act_of x.addresses (action_of (i.Break 0 4) c) c) ≡ Acts d → HoldsAt x f (low false true (Some (true, frame))) stack d
break_by x f frame stack c d true is h e =
    subst (λ d. HoldsAt x f (low false true (Some (true, frame))) stack d) (sym (same_core (record c { skip = false }) d e)) (record {
      small = h.small;
      pointer = h.pointer;
      bounds = λ e. absurd cc;
      clear = λ e. refl;
      help = h.help;
    })
break_by x f frame stack c d false is h e = absurd cc

breaks : (x : Setting) (f : LineFn) (frame : ℕ) → Leads x f (low false false (Some (true, frame))) (bare (i.Break 0 4)) (low false true (Some (true, frame)))
breaks x f frame = λ stack c d h e. break_by x f frame stack c d c.skip refl h e

-- the store of the return address is inside the data and the stack
link_place : (stack : ℕ) → stack < 2 ^ 32 → offset_by stack (neg_ℤ (pos 20)) + 4 ≤ memory_size → 20 ≤ stack
link_place stack small le = omega (arith, ints, small, le)

link_address : (stack : ℕ) → stack < 2 ^ 32 → 20 ≤ stack → offset_by stack (neg_ℤ (pos 20)) ≡ stack - 20
link_address stack small le = omega (arith, ints, small, le)

stack_bounds : (x : Setting) (f : LineFn) (stack : ℕ) → stack < 2 ^ 32 → f.located.frame < 2 ^ 31 → is_open x.addresses (offset_by stack (neg_ℤ (pos 20))) 4 ≡ true → IsStack x f stack
stack_bounds x f stack small frame opens =
    let a = offset_by stack (neg_ℤ (pos 20)) in
    let one = and_parts (a % 4 == 0) (nat_le x.addresses.data_start a && nat_le (a + 4) memory_size) opens in
    let two = and_parts (nat_le x.addresses.data_start a) (nat_le (a + 4) memory_size) one.1 in
    let above : x.addresses.data_start ≤ a = leb-true x.addresses.data_start a two.0 in
    let below : a + 4 ≤ memory_size = leb-true (a + 4) memory_size two.1 in
    let room = link_place stack small below in
    let at = link_address stack small room in
    record { low = omega (arith, above, at); high = omega (arith, below, at, frame) }

stores_link : (x : Setting) (f : LineFn) (frame : ℕ) → f.located.frame < 2 ^ 31 → Leads x f (low false true (Some (true, frame))) (bare (i.Stw 2 (neg_ℤ (pos 20)) 30)) (low true true (Some (true, frame)))
stores_link x f frame small = λ stack c d h e.
    let y = i.Stw 2 (neg_ℤ (pos 20)) 30 in
    let run = h.clear refl in
    let a = offset_by (lines.register c 30) (neg_ℤ (pos 20)) in
    let is = if_acts (is_open x.addresses a 4) (record c { memory = with_number 4 (lines.register c 2) a c.memory }) d (acts_run x.addresses y c d run e) in
    let bounds = stack_bounds x f stack h.small small (ap (λ p. is_open x.addresses (offset_by p (neg_ℤ (pos 20))) 4) (sym h.pointer) ∙ is.0) in
    subst (λ d. HoldsAt x f (low true true (Some (true, frame))) stack d) (sym is.1) (record {
      small = h.small;
      pointer = h.pointer;
      bounds = λ e. bounds;
      clear = λ e. run;
      help = h.help;
    })

-- and then the pointer is the end of the frame
abbrev high : Level
high = record { raised = Some true; bounded = true; clear = true; help = None }

raises_pointer : (x : Setting) (f : LineFn) → Leads x f (low true true (Some (true, f.located.frame))) (bare (i.Or 1 0 30)) high
raises_pointer x f = λ stack c d h e.
    let y = i.Or 1 0 30 in
    let run = h.clear refl in
    let v = bit_or (lines.register c 1) 0 in
    let same = same_core (with_register 30 v c) d (acts_run x.addresses y c d run e) in
    let bounds = h.bounds refl in
    let end : v ≡ stack + f.located.frame = or_zero_r (lines.register c 1) ∙ (h.help ∙ (let top = bounds.high in omega (arith, top))) in
    subst (λ d. HoldsAt x f high stack d) (sym same) (record {
      small = h.small;
      pointer = end;
      bounds = λ e. bounds;
      clear = λ e. run;
      help = tt;
    })

ends_raised : (x : Setting) (f : LineFn) (stack : ℕ) (c : lines.Core) → HoldsAt x f high stack c → IsRaised x f stack c
ends_raised x f stack c h = record { bounds = h.bounds refl; pointer = h.pointer }

-- ---- the end of the frame

near_end : (x : Setting) (f : LineFn) (frame : ℕ) → frame < 2 ^ 31 → Leads x f (low false true None) (bare (i.Ldo (pos frame) 30 1)) (low false true (Some (true, frame)))
near_end x f frame small =
    puts_help x f None (Some (true, frame)) (i.Ldo (pos frame) 30 1) (λ c. offset_by (lines.register c 30) (pos frame)) (λ c. refl)
    (λ stack c h. ap (λ p. offset_by p (pos frame)) h.pointer ∙ end_is stack frame small)
  where
    end_is : (stack frame : ℕ) → frame < 2 ^ 31 → offset_by stack (pos frame) ≡ (stack + frame) % 2 ^ 32
    end_is stack frame small = omega (arith, ints, small)

short_constant : (x : Setting) (f : LineFn) (frame : ℕ) → frame < 2 ^ 31 → Leads x f (low false true None) (bare (i.Ldo (cast_signed w32 frame) 0 1)) (low false true (Some (false, frame)))
short_constant x f frame small =
    puts_help x f None (Some (false, frame)) (i.Ldo (cast_signed w32 frame) 0 1) (λ c. offset_by 0 (cast_signed w32 frame)) (λ c. refl)
    (λ stack c h. ap (λ v. (0 + v) % 2 ^ 32) (of_z-to_z w32 frame (omega (arith, small))))

left_half : (x : Setting) (f : LineFn) (frame : ℕ) → frame < 2 ^ 31 → Leads x f (low false true None) (bare (i.Ldil (frame / 2 ^ 11) 1)) (low false true (Some (false, frame / 2 ^ 11 * 2048)))
left_half x f frame small =
    puts_help x f None (Some (false, frame / 2 ^ 11 * 2048)) (i.Ldil (frame / 2 ^ 11) 1) (λ c. frame / 2 ^ 11 * 2048) (λ c. refl) (λ stack c h. omega (arith, small))

right_half : (x : Setting) (f : LineFn) (frame : ℕ) → frame < 2 ^ 31
    → Leads x f (low false true (Some (false, frame / 2 ^ 11 * 2048))) (bare (i.Ldo (pos (frame % 2 ^ 11)) 1 1)) (low false true (Some (false, frame)))
right_half x f frame small =
    puts_help x f (Some (false, frame / 2 ^ 11 * 2048)) (Some (false, frame)) (i.Ldo (pos (frame % 2 ^ 11)) 1 1) (λ c. offset_by (lines.register c 1) (pos (frame % 2 ^ 11))) (λ c. refl)
    (λ stack c h. ap (λ p. offset_by p (pos (frame % 2 ^ 11))) h.help ∙ whole frame small)
  where
    whole : (frame : ℕ) → frame < 2 ^ 31 → offset_by ((0 + frame / 2 ^ 11 * 2048) % 2 ^ 32) (pos (frame % 2 ^ 11)) ≡ (0 + frame) % 2 ^ 32
    whole frame small = omega (arith, ints, small)

far_end : (x : Setting) (f : LineFn) (frame : ℕ) → frame < 2 ^ 31 → Leads x f (low false true (Some (false, frame))) (bare (i.Addl 30 1 1)) (low false true (Some (true, frame)))
far_end x f frame small =
    puts_help x f (Some (false, frame)) (Some (true, frame)) (i.Addl 30 1 1) (λ c. (lines.register c 30 + lines.register c 1) % 2 ^ 32) (λ c. refl)
    (λ stack c h. ap (λ p. (p + lines.register c 1) % 2 ^ 32) h.pointer ∙ (ap (λ v. (stack + v) % 2 ^ 32) h.help ∙ sum stack frame small))
  where
    sum : (stack frame : ℕ) → frame < 2 ^ 31 → (stack + (0 + frame) % 2 ^ 32) % 2 ^ 32 ≡ (stack + frame) % 2 ^ 32
    sum stack frame small = omega (arith, small)

-- ---- all of it

abbrev Tail : Setting → LineFn → ℕ → Type 0
Tail x f frame =
    Raises x f (low false true (Some (true, frame))) (slotted (Plain (i.Comclr 5 false 1 21 0) ∷ Plain (i.Break 0 4) ∷ Plain (i.Stw 2 (neg_ℤ (pos 20)) 30) ∷ Plain (i.Or 1 0 30) ∷ []))

tail_raises : (x : Setting) (f : LineFn) (frame : ℕ) → f.located.frame ≡ frame → frame < 2 ^ 31 → Tail x f frame
tail_raises x f frame is small =
    let third = stores_link x f frame (omega (arith, is, small)) in
    let fourth = subst (λ n. Leads x f (low true true (Some (true, n))) (bare (i.Or 1 0 30)) high) is (raises_pointer x f) in
    (low false false (Some (true, frame)), checks x f frame, (low false true (Some (true, frame)), breaks x f frame, (low true true (Some (true, frame)), third, (high, fourth, ends_raised x f))))

-- the end of the frame, and what is behind it
abbrev End : Setting → LineFn → List Line → Type 0
End x f before =
    Raises x f (low false true None)
    (slotted (before ++ Plain (i.Comclr 5 false 1 21 0) ∷ Plain (i.Break 0 4) ∷ Plain (i.Stw 2 (neg_ℤ (pos 20)) 30) ∷ Plain (i.Or 1 0 30) ∷ []))

constant_raises : (x : Setting) (f : LineFn) (frame : ℕ) (t : Bool) → f.located.frame ≡ frame → frame < 2 ^ 31
    → End x f ((if t then Plain (i.Ldo (cast_signed w32 frame) 0 1) ∷ [] else long_constant frame 1) ++ word (i.Addl 30 1 1))
constant_raises x f frame true is small =
    (low false true (Some (false, frame)), short_constant x f frame small, (low false true (Some (true, frame)), far_end x f frame small, tail_raises x f frame is small))
constant_raises x f frame false is small = (
  low false true (Some (false, frame / 2 ^ 11 * 2048)),
  left_half x f frame small,
  (low false true (Some (false, frame)), right_half x f frame small, (low false true (Some (true, frame)), far_end x f frame small, tail_raises x f frame is small)),
)

end_raises : (x : Setting) (f : LineFn) (frame : ℕ) (t : Bool) → f.located.frame ≡ frame → frame < 2 ^ 31
    → End x f (if t then (if is_near (cast_signed w32 frame) then Plain (i.Ldo (cast_signed w32 frame) 0 1) ∷ [] else long_constant frame 1) ++ word (i.Addl 30 1 1) else word (i.Ldo (pos frame) 30 1))
end_raises x f frame true is small = constant_raises x f frame (is_near (cast_signed w32 frame)) is small
end_raises x f frame false is small = (low false true (Some (true, frame)), near_end x f frame small, tail_raises x f frame is small)

-- the words that hold the end of the stack
abbrev left_limit : Word
left_limit = record { inst = i.Ldil 0 21; relocation = Some (record { kind = kind.Ldil; symbol = StackLimit; addend = 0 }) }

abbrev right_limit : Word
right_limit = record { inst = i.Ldo (pos 0) 21 21; relocation = Some (record { kind = kind.Im14; symbol = StackLimit; addend = 0 }) }

pub entry_raises : (x : Setting) (f : LineFn) (frame : ℕ) → f.located.frame ≡ frame → frame < 2 ^ 31 → Raises x f first_level (slotted (entry_lines frame))
entry_raises x f frame is small =
    let a = (x.addresses.limit + 0) % 2 ^ 32 in
    let one = puts_second x f left_limit (i.Ldil (a / 2 ^ 11) 21) (λ c. a / 2 ^ 11 * 2048) refl (λ c. refl) in
    let two = puts_second x f right_limit (i.Ldo (pos (a % 2 ^ 11)) 21 21) (λ c. offset_by (lines.register c 21) (pos (a % 2 ^ 11))) refl (λ c. refl) in
    (low false true None, one, (low false true None, two, end_raises x f frame (nat_lt near_limit frame) is small))
