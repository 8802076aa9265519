-- Only a COMCLR passes over the next word.
use Rattle.std.proofs.Common.{◌≡◌, Bool, true, false, if◌then◌else◌, Option, None, Some, refl, ap, sym, ◌∙◌}
use Rattle.std.specs.Prelude.{◌==◌, ◌&&◌}
use Rattle.pw_inst.specs.declared.Inst.{Inst}
use Rattle.pw_inst.specs.declared.Inst.TheVariants.{Comclr, Combt, Combf, Bl, Bv, Ble, Break}
use Rattle.pw_delay.specs.declared.items.Word.{Word}
use Rattle.pw_delay.specs.Filling.{compares}
use Rattle.pw_run_languages.specs.Addresses.{Addresses}
use Rattle.pw_run_languages.specs.Acts.{Core, Acts, Full, Fails, executed, acts, settled}
use Rattle.pw_law_slots.specs.Passing.{does_not_turn}
use Rattle.pw_law_slots.proofs.Passing.{runs, words_clear}
use Rattle.pw_law_slots.proofs.Settling.{settled_compares}

none_goes : (w : Addresses) (i : Inst) (c d : Core) → does_not_turn i ≡ false → compares i ≡ false → executed w i c ≡ Acts d → ⊥
none_goes w (Comclr n f r1 r2 t) c d turns plain e = cc
none_goes w (Combt n r1 r2 disp) c d turns plain e = cc
none_goes w (Combf n r1 r2 disp) c d turns plain e = cc
none_goes w (Bl disp t n) c d turns plain e = cc
none_goes w (Bv b n) c d turns plain e = cc
none_goes w (Ble b n) c d turns plain e = cc
none_goes w (Break im5 im13) c d turns plain e = by ((im5 == 0) && (im13 == 4)) e
  where
    by : (t : Bool) → (if t then Full else Fails) ≡ Acts d → ⊥
    by true e = cc
    by false e = cc
none_goes w i c d turns plain e = cc

acted_clear : (w : Addresses) (i : Inst) (c d : Core) → compares i ≡ false → acts w (Some i) c ≡ Acts d → d.skip ≡ false
acted_clear w i c d plain e = by c.skip refl
  where
    turned : (t : Bool) → does_not_turn i ≡ t → c.skip ≡ false → d.skip ≡ false
    turned true goes run = words_clear w i c d goes run e
    turned false goes run = absurd (none_goes w i c d goes plain (sym (runs w i c run) ∙ e))

    by : (s : Bool) → c.skip ≡ s → d.skip ≡ false
    by true skips =
        let is : Acts (record c { skip = false }) ≡ Acts d = sym (ap (λ (t : Bool). if t then Acts (record c { skip = false }) else executed w i c) skips) ∙ e in
        let same : record c { skip = false } ≡ d = cc in
        ap (λ (c : Core). c.skip) (sym same)
    by false run = turned (does_not_turn i) refl run

pub word_clears : (w : Addresses) (word : Word) (c d : Core) → compares word.inst ≡ false → (o : Option Inst) → settled w word ≡ o → acts w o c ≡ Acts d → d.skip ≡ false
word_clears w word c d plain None is e = absurd cc
word_clears w word c d plain (Some i) is e = acted_clear w i c d (settled_compares w word i is ∙ plain) e
