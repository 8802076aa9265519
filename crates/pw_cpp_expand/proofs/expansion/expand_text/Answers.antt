use Rattle.std.proofs.Common.{[], ◌∙◌}
use Rattle.pw_cpp_expand.specs.declared.progress.Mode.TheVariants.{InText}
use Rattle.pw_cpp_expand.proofs.ReadingOn.{fresh-at-hand}
use Rattle.pw_cpp_expand.proofs.Whole.{answer-as}
use Rattle.pw_cpp_expand.proofs.expansion.expand_text.Goals as goal

pub returns : goal.returns
returns c =
    answer-as c.args.source.now c.args.text.now c.args.macros.now InText c.args.sets.now c.expanded.new.sets _ _ c.args.progress.now c.expanded.new.progress c.expanded.result
    (fresh-at-hand c.args.sets.now c.args.tokens c.new-pending.result c.put_fresh.new.pending c.requires.empty c.new-pending.ensures c.in_ok-put_fresh.ensures.put) c.expanded.ensures
