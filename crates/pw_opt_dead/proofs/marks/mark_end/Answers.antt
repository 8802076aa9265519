use Rattle.std.proofs.Common.{◌∙◌, ◌||◌, ℕ, Bool, List, ap}
use Rattle.std.specs.List.{list_any}
use Rattle.std.proofs.lemmas.List.{take_all}
use Rattle.pw_live.specs.Liveness.{has, is_live_in}
use Rattle.pw_opt_dead.specs.Marks.{is_marked}
use Rattle.pw_opt_dead.proofs.Marking.{any_more}
use Rattle.pw_opt_dead.proofs.marks.mark_end.Goals as goal

pub loop-block-preserved : goal.loop-block-preserved
loop-block-preserved c = record {
  long = c.mark_front.ensures.length ∙ c.loop-block.invariant.long;
  marks = λ f are t.
      c.in_ok-mark_front.ensures.marks f are t
      ∙ any_more (is_live_in f t) c.args.next.now c.loop-block.block-index (is_marked c.loop-block.live t) c.loop-block-test.true (c.loop-block.invariant.marks f are t);
}

pub returns-clause-marks : goal.returns-clause-marks
returns-clause-marks c = λ f are t.
    c.mark_all.ensures.marks t
    ∙ ap (λ (b : Bool). has t c.args.uses.now || b) (c.loop-block.invariant.marks f are t ∙ ap (λ (bs : List ℕ). list_any (is_live_in f t) bs) (take_all c.loop-block.block-index c.args.next.now c.loop-block-test.false))
