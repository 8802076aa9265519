-- Words that move into slots, as linking wants them.
use Rattle.std.proofs.Common.{ℕ, ◌≡◌, Bool, true, false, if◌then◌else◌, Option, None, Some, List, [], ◌∷◌, ◌++◌, refl, ap, sym, subst, ◌∙◌}
use Rattle.std.specs.Prelude.{not}
use Rattle.pw_inst.specs.declared.Inst.{Inst}
use Rattle.pw_inst.specs.Computing.{source_registers, target_registers}
use Rattle.pw_delay.specs.Filling.{is_nop, have_common, but_zero, may_move, are_apart, branch}
use Rattle.pw_run_languages.specs.Acts.{Acts, Full, register, acts, settled}
use Rattle.pw_law_slots.specs.Passing.{does_not_turn}
use Rattle.pw_law_slots.specs.Moving.{MovedNeverStop, MovedPassNothing, MovedLeaveLinks}
use Rattle.pw_law_slots.proofs.Passing.{ByTargets, second_part, words_keep, words_never_stop}
use Rattle.pw_law_slots.proofs.Settling.{settled_targets, settled_turns}
use Rattle.pw_law_slots.proofs.Turning.{both_left, both_right, not_true, clear_by}

movable : (i : Inst) → may_move i ≡ true → does_not_turn i ≡ true
movable i free = both_left (does_not_turn i) (not (is_nop i)) free

pub never_stop : MovedNeverStop
never_stop w word c free run = by (settled w word) refl
  where
    by : (o : Option Inst) → settled w word ≡ o → acts w o c ≡ Full → ⊥
    by None is e = cc
    by (Some i) is e = words_never_stop w i c (settled_turns w word i is ∙ movable word.inst free) run e

pub pass_nothing : MovedPassNothing
pass_nothing w word c d free run e = clear_by w word c d free run (settled w word) refl e

pub leave_links : ByTargets → MovedLeaveLinks
leave_links targets w word turn r c d free is some run e =
    let movable_word = both_left (may_move word.inst) (are_apart word.inst (branch turn)) free in
    let apart = both_right (may_move word.inst) (are_apart word.inst (branch turn)) free in
    let named : have_common (source_registers word.inst ++ target_registers word.inst) (but_zero (target_registers (branch turn))) ≡ false = not_true _ (both_right _ _ apart) in
    let one : have_common (source_registers word.inst ++ target_registers word.inst) (r ∷ []) ≡ false =
    ap (λ (ls : List ℕ). have_common (source_registers word.inst ++ target_registers word.inst) ls) (sym (ap but_zero is ∙ ap (λ (zero : Bool). if zero then [] else r ∷ []) some)) ∙ named in
    by movable_word (second_part _ (source_registers word.inst) (target_registers word.inst) one) (settled w word) refl e
  where
    by : may_move word.inst ≡ true → have_common (target_registers word.inst) (r ∷ []) ≡ false → (o : Option Inst) → settled w word ≡ o → acts w o c ≡ Acts d → register d r ≡ register c r
    by mv none None s e = absurd cc
    by mv none (Some i) s e =
        (words_keep targets w i r c d (settled_turns w word i s ∙ movable word.inst mv) run
        (subst (λ (ts : List ℕ). have_common ts (r ∷ []) ≡ false) (sym (settled_targets w word i s)) none) e).0
