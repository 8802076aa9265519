-- Words of instructions into which an address goes.
use Rattle.std.proofs.Common.{◌≡◌, ◌≢◌, ℕ, ◌^◌, ◌<◌, None, refl, ap, ◌∙◌, arith}
use Rattle.std.specs.Prelude.{pos}
use Rattle.std.proofs.lemmas.Int.{ints}
use Rattle.pw_inst.specs.declared.Inst.{Inst}
use Rattle.pw_inst.specs.declared.Inst.TheVariants as i
use Rattle.pw_inst.specs.declared.relocation.FixKind.{FixKind}
use Rattle.pw_inst.specs.declared.relocation.FixKind.TheVariants as kind
use Rattle.pw_inst.specs.Fields.{IsSigned}
use Rattle.pw_inst.specs.InstructionTable.{word_of, decoded, IsInRange}
use Rattle.pw_inst.specs.Setting.{left_part, right_part}
use Rattle.pw_inst.proofs.SettingLaws.{long_encoding, displacement_encoding}
use Rattle.pw_inst.proofs.Words.{decoded-word_of}
use Rattle.pw_link.specs.Linking.{settled}
use Rattle.pw_run_languages.specs.Acts.{with_address}

right_fits : (a : ℕ) → IsSigned 14 (pos (right_part a))
right_fits a = (omega (arith, ints), omega (arith, ints))

-- the linked word of an instruction that takes an address is that of the instruction with the address
pub taken : (k : FixKind) (own a : ℕ) (x : Inst) → IsInRange x → with_address k 0 x ≢ None → a < 2 ^ 32 → decoded (settled k own a (word_of x)) ≡ with_address k a x
unfolding settled word_of IsInRange
taken kind.Ldil own a (i.Ldil im t) h takes small =
    ap decoded (long_encoding im t (left_part a) h.1) ∙ decoded-word_of (i.Ldil (left_part a) t) (omega arith, h.1)
taken kind.Im14 own a (i.Ldb im b t) h takes small =
    ap decoded (displacement_encoding 0x10 b t im (pos (right_part a)) (omega arith) h.1 h.2 h.0) ∙ decoded-word_of (i.Ldb (pos (right_part a)) b t) (right_fits a, h.1, h.2)
taken kind.Im14 own a (i.Ldh im b t) h takes small =
    ap decoded (displacement_encoding 0x11 b t im (pos (right_part a)) (omega arith) h.1 h.2 h.0) ∙ decoded-word_of (i.Ldh (pos (right_part a)) b t) (right_fits a, h.1, h.2)
taken kind.Im14 own a (i.Ldw im b t) h takes small =
    ap decoded (displacement_encoding 0x12 b t im (pos (right_part a)) (omega arith) h.1 h.2 h.0) ∙ decoded-word_of (i.Ldw (pos (right_part a)) b t) (right_fits a, h.1, h.2)
taken kind.Im14 own a (i.Ldo im b t) h takes small =
    ap decoded (displacement_encoding 0x0D b t im (pos (right_part a)) (omega arith) h.1 h.2 h.0) ∙ decoded-word_of (i.Ldo (pos (right_part a)) b t) (right_fits a, h.1, h.2)
taken kind.Im14 own a (i.Stb r im b) h takes small =
    ap decoded (displacement_encoding 0x18 b r im (pos (right_part a)) (omega arith) h.1 h.2 h.0) ∙ decoded-word_of (i.Stb r (pos (right_part a)) b) (right_fits a, h.1, h.2)
taken kind.Im14 own a (i.Sth r im b) h takes small =
    ap decoded (displacement_encoding 0x19 b r im (pos (right_part a)) (omega arith) h.1 h.2 h.0) ∙ decoded-word_of (i.Sth r (pos (right_part a)) b) (right_fits a, h.1, h.2)
taken kind.Im14 own a (i.Stw r im b) h takes small =
    ap decoded (displacement_encoding 0x1A b r im (pos (right_part a)) (omega arith) h.1 h.2 h.0) ∙ decoded-word_of (i.Stw r (pos (right_part a)) b) (right_fits a, h.1, h.2)
taken k own a x h takes small = absurd (takes refl)
