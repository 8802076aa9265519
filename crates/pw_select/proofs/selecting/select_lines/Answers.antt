use Rattle.std.proofs.Common.{List, sym, subst}
use Rattle.std.specs.List.{AllByRecursion}
use Rattle.pw_webflow.specs.declared.web.WebBlock.{WebBlock}
use Rattle.pw_select.specs.Selectable.{IsSelectableBlock}
use Rattle.pw_select.proofs.SelectableLaws.{frame_lawful, blocks_selectable}
use Rattle.pw_select.proofs.selecting.select_lines.Goals as goal

pub put_prologue-requires : goal.put_prologue-requires
put_prologue-requires c = frame_lawful c.args.f.now c.requires

pub put_blocks-requires-clause-frame : goal.put_blocks-requires-clause-frame
put_blocks-requires-clause-frame c = frame_lawful c.args.f.now c.requires

pub put_blocks-requires-clause-ops : goal.put_blocks-requires-clause-ops
put_blocks-requires-clause-ops c =
    subst (λ (blocks : List WebBlock). AllByRecursion IsSelectableBlock blocks) (sym c.as_slice-2.ensures) (blocks_selectable c.args.f.now.body c.args.f.now.body.blocks c.requires.body.blocks)
