-- A word with its address in it is an instruction of the same form, with the same registers.
use Rattle.std.proofs.Common.{ℕ, ◌≡◌, ◌+◌, ◌%◌, ◌^◌, refl, ap, sym, ◌∙◌}
use Rattle.std.specs.Prelude.{Option, None, Some, pos}
use Rattle.pw_inst.specs.declared.Inst.{Inst}
use Rattle.pw_inst.specs.declared.Inst.TheVariants as i
use Rattle.pw_inst.specs.Computing.{source_registers, target_registers}
use Rattle.pw_inst.specs.Setting.{left_part, right_part}
use Rattle.pw_inst.specs.declared.relocation.FixKind.{FixKind}
use Rattle.pw_inst.specs.declared.relocation.FixKind.TheVariants as kind
use Rattle.pw_delay.specs.Filling.{compares}
use Rattle.pw_delay.specs.declared.items.Relocation.{Relocation}
use Rattle.pw_delay.specs.declared.items.Word.{Word}
use Rattle.pw_run_languages.specs.Addresses.{Addresses}
use Rattle.pw_run_languages.specs.Acts.{symbol_address, with_address, settled}
use Rattle.pw_law_slots.specs.Passing.{does_not_turn}

some_same : (x y : Inst) → Some x ≡ Some y → x ≡ y
some_same x y e = cc

-- what no address changes
abbrev IsLasting : {X : Type 0} → (Inst → X) → Type 0
IsLasting f = (k : FixKind) (a : ℕ) (x y : Inst) → with_address k a x ≡ Some y → f y ≡ f x

sources_last : IsLasting source_registers
sources_last kind.Ldil a (i.Ldil im t) y e = ap source_registers (sym (some_same (i.Ldil (left_part a) t) y e))
sources_last kind.Im14 a (i.Ldb im b t) y e = ap source_registers (sym (some_same (i.Ldb (pos (right_part a)) b t) y e))
sources_last kind.Im14 a (i.Ldh im b t) y e = ap source_registers (sym (some_same (i.Ldh (pos (right_part a)) b t) y e))
sources_last kind.Im14 a (i.Ldw im b t) y e = ap source_registers (sym (some_same (i.Ldw (pos (right_part a)) b t) y e))
sources_last kind.Im14 a (i.Ldo im b t) y e = ap source_registers (sym (some_same (i.Ldo (pos (right_part a)) b t) y e))
sources_last kind.Im14 a (i.Stb q im b) y e = ap source_registers (sym (some_same (i.Stb q (pos (right_part a)) b) y e))
sources_last kind.Im14 a (i.Sth q im b) y e = ap source_registers (sym (some_same (i.Sth q (pos (right_part a)) b) y e))
sources_last kind.Im14 a (i.Stw q im b) y e = ap source_registers (sym (some_same (i.Stw q (pos (right_part a)) b) y e))
sources_last _ a _ y e = absurd cc

targets_last : IsLasting target_registers
targets_last kind.Ldil a (i.Ldil im t) y e = ap target_registers (sym (some_same (i.Ldil (left_part a) t) y e))
targets_last kind.Im14 a (i.Ldb im b t) y e = ap target_registers (sym (some_same (i.Ldb (pos (right_part a)) b t) y e))
targets_last kind.Im14 a (i.Ldh im b t) y e = ap target_registers (sym (some_same (i.Ldh (pos (right_part a)) b t) y e))
targets_last kind.Im14 a (i.Ldw im b t) y e = ap target_registers (sym (some_same (i.Ldw (pos (right_part a)) b t) y e))
targets_last kind.Im14 a (i.Ldo im b t) y e = ap target_registers (sym (some_same (i.Ldo (pos (right_part a)) b t) y e))
targets_last kind.Im14 a (i.Stb q im b) y e = ap target_registers (sym (some_same (i.Stb q (pos (right_part a)) b) y e))
targets_last kind.Im14 a (i.Sth q im b) y e = ap target_registers (sym (some_same (i.Sth q (pos (right_part a)) b) y e))
targets_last kind.Im14 a (i.Stw q im b) y e = ap target_registers (sym (some_same (i.Stw q (pos (right_part a)) b) y e))
targets_last _ a _ y e = absurd cc

turns_last : IsLasting does_not_turn
turns_last kind.Ldil a (i.Ldil im t) y e = ap does_not_turn (sym (some_same (i.Ldil (left_part a) t) y e))
turns_last kind.Im14 a (i.Ldb im b t) y e = ap does_not_turn (sym (some_same (i.Ldb (pos (right_part a)) b t) y e))
turns_last kind.Im14 a (i.Ldh im b t) y e = ap does_not_turn (sym (some_same (i.Ldh (pos (right_part a)) b t) y e))
turns_last kind.Im14 a (i.Ldw im b t) y e = ap does_not_turn (sym (some_same (i.Ldw (pos (right_part a)) b t) y e))
turns_last kind.Im14 a (i.Ldo im b t) y e = ap does_not_turn (sym (some_same (i.Ldo (pos (right_part a)) b t) y e))
turns_last kind.Im14 a (i.Stb q im b) y e = ap does_not_turn (sym (some_same (i.Stb q (pos (right_part a)) b) y e))
turns_last kind.Im14 a (i.Sth q im b) y e = ap does_not_turn (sym (some_same (i.Sth q (pos (right_part a)) b) y e))
turns_last kind.Im14 a (i.Stw q im b) y e = ap does_not_turn (sym (some_same (i.Stw q (pos (right_part a)) b) y e))
turns_last _ a _ y e = absurd cc

compares_last : IsLasting compares
compares_last kind.Ldil a (i.Ldil im t) y e = ap compares (sym (some_same (i.Ldil (left_part a) t) y e))
compares_last kind.Im14 a (i.Ldb im b t) y e = ap compares (sym (some_same (i.Ldb (pos (right_part a)) b t) y e))
compares_last kind.Im14 a (i.Ldh im b t) y e = ap compares (sym (some_same (i.Ldh (pos (right_part a)) b t) y e))
compares_last kind.Im14 a (i.Ldw im b t) y e = ap compares (sym (some_same (i.Ldw (pos (right_part a)) b t) y e))
compares_last kind.Im14 a (i.Ldo im b t) y e = ap compares (sym (some_same (i.Ldo (pos (right_part a)) b t) y e))
compares_last kind.Im14 a (i.Stb q im b) y e = ap compares (sym (some_same (i.Stb q (pos (right_part a)) b) y e))
compares_last kind.Im14 a (i.Sth q im b) y e = ap compares (sym (some_same (i.Sth q (pos (right_part a)) b) y e))
compares_last kind.Im14 a (i.Stw q im b) y e = ap compares (sym (some_same (i.Stw q (pos (right_part a)) b) y e))
compares_last _ a _ y e = absurd cc

settled_last : {X : Type 0} (f : Inst → X) → IsLasting f → (w : Addresses) (x y : Inst) (o : Option Relocation) → settled w (record { inst = x; relocation = o }) ≡ Some y → f y ≡ f x
settled_last f lasts w x y None e = ap f (sym (some_same x y e))
settled_last f lasts w x y (Some l) e = by (symbol_address w l.symbol) refl
  where
    by : (o : Option ℕ) → symbol_address w l.symbol ≡ o → f y ≡ f x
    by None s = absurd (let none : settled w (record { inst = x; relocation = Some l }) ≡ None = rw s refl in let same : None ≡ Some y = sym none ∙ e in cc)
    by (Some a) s =
        let is : settled w (record { inst = x; relocation = Some l }) ≡ with_address l.kind ((a + l.addend) % 2 ^ 32) x = rw s refl in
        lasts l.kind ((a + l.addend) % 2 ^ 32) x y (sym is ∙ e)

pub settled_sources : (w : Addresses) (word : Word) (y : Inst) → settled w word ≡ Some y → source_registers y ≡ source_registers word.inst
settled_sources w word y e = settled_last source_registers sources_last w word.inst y word.relocation e

pub settled_targets : (w : Addresses) (word : Word) (y : Inst) → settled w word ≡ Some y → target_registers y ≡ target_registers word.inst
settled_targets w word y e = settled_last target_registers targets_last w word.inst y word.relocation e

pub settled_turns : (w : Addresses) (word : Word) (y : Inst) → settled w word ≡ Some y → does_not_turn y ≡ does_not_turn word.inst
settled_turns w word y e = settled_last does_not_turn turns_last w word.inst y word.relocation e

pub settled_compares : (w : Addresses) (word : Word) (y : Inst) → settled w word ≡ Some y → compares y ≡ compares word.inst
settled_compares w word y e = settled_last compares compares_last w word.inst y word.relocation e
