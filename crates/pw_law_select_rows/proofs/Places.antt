-- Operands in their places.
use Rattle.std.proofs.Common.{ℕ, ◌≡◌, ◌≢◌, false, refl, ap, [], ◌∷◌}
use Rattle.std.specs.Int.Bits.{or_zero_r}
use Rattle.pw_inst.specs.declared.Inst.TheVariants.{Or}
use Rattle.pw_delay.specs.Items.{bare}
use Rattle.pw_alloc.specs.declared.located.Place.{Place}
use Rattle.pw_alloc.specs.declared.located.Place.TheVariants.{Slot, Reg}
use Rattle.pw_law_select_memory.specs.FromRunLanguages.Addresses.{Addresses}
use Rattle.pw_law_select_memory.specs.FromRunLanguages.Acts.{Core, Acts, register, with_register}
use Rattle.pw_law_select_memory.specs.FromRunLanguages.LineRun.{LineProgram}
use Rattle.pw_select_lines.specs.Registers.{operand_register, operand_lines, loaded, copied}
use Rattle.pw_law_select_rows.specs.Straight.{words_of}
use Rattle.pw_law_select_rows.specs.Making.{Makes}
use Rattle.pw_law_select_rows.specs.Frames.{LoadsWord}
use Rattle.pw_law_select_rows.specs.Places.{place_word, IsInReach}
use Rattle.pw_law_select_rows.proofs.Making.{one_makes}
use Rattle.pw_law_select_rows.proofs.Frames.{frame_word_loaded}

pub operand_loaded : (p : LineProgram) (w : Addresses) (a : Place) (other : ℕ) (c : Core) → other ≢ 0 → c.skip ≡ false → IsInReach p w c a
    → LoadsWord p w (words_of (operand_lines a other)) (operand_register a other) (place_word c a) c
operand_loaded p w (Slot offset) other c some skip is = frame_word_loaded p w offset other c some skip is
operand_loaded p w (Reg r) other c some skip is =
    record { core = c; acts = refl; value = refl; others = λ q ne also. refl; memory = refl; skip = skip; quiet = λ log. refl }

copy_made : (p : LineProgram) (w : Addresses) (a d : ℕ) (c : Core) → d ≢ 0 → c.skip ≡ false → Makes p w (words_of (copied a d)) d (register c a) c
copy_made p w a d c some skip = one_makes p w (bare (Or a 0 d)) d (register c a) c some skip
    (record { inst = Or a 0 d; is = refl; does = ap (λ v. Acts (with_register d v c)) (or_zero_r (register c a)); loads = refl; stores = refl })

pub temporary_loaded : (p : LineProgram) (w : Addresses) (a : Place) (d : ℕ) (c : Core) → d ≢ 0 → c.skip ≡ false → IsInReach p w c a
    → LoadsWord p w (words_of (loaded a d)) d (place_word c a) c
temporary_loaded p w (Slot offset) d c some skip is = frame_word_loaded p w offset d c some skip is
temporary_loaded p w (Reg r) d c some skip is =
    let m = copy_made p w r d c some skip in
    record {
      core = m.core;
      acts = m.acts;
      value = m.puts.value;
      others = λ q ne also. m.puts.others q ne;
      memory = m.puts.memory;
      skip = m.puts.skip;
      quiet = m.quiet;
    }
