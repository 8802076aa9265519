use Rattle.std.proofs.Common.{[], ◌++◌, ap, reverse, ◌∙◌}
use Rattle.std.proofs.lemmas.List.{reverse-reverse}
use Rattle.pw_cpp_expand.specs.Numbered.{all_named, at_hand}
use Rattle.pw_cpp_expand.specs.declared.progress.Mode.TheVariants.{Alone}
use Rattle.pw_cpp_expand.proofs.Whole.{answer-as}
use Rattle.pw_cpp_expand.proofs.expansion.expand_alone.Goals as goal

pub returns : goal.returns
returns c =
    answer-as c.args.source.now c.args.source.now c.args.macros.now Alone c.args.sets.now c.expanded.new.sets _ _ c.args.progress.now c.expanded.new.progress c.expanded.result
    (ap (at_hand c.args.sets.now) (c.in_ok-put_in_front.ensures ∙ ap (λ x. x ++ reverse c.args.tokens) c.new-pending.ensures) ∙ ap (all_named c.args.sets.now) (reverse-reverse c.args.tokens)) c.expanded.ensures
