use Rattle.std.proofs.Common.{List, take, sym, ap, ◌∙◌}
use Rattle.pw_inst.specs.declared.relocation.Fix.{Fix}
use Rattle.pw_link.specs.Linking.{with_fix, with_fixes}
use Rattle.pw_link.specs.Views.{plain_sites}
use Rattle.pw_link.proofs.Growing.{with_fixes_push, take_more}
use Rattle.pw_link.proofs.words.relocate_all.Goals as goal

pub loop-fix-preserved : goal.loop-fix-preserved
loop-fix-preserved c = λ named tells.
    let sites = plain_sites named c.args.sites.now in
    let front = take c.loop-fix.fix-index c.args.fixes.now in
    c.relocate.ensures named tells
    ∙ ap (with_fix sites c.args.at c.fix-item.result) (c.loop-fix.invariant named tells)
    ∙ sym (with_fixes_push sites c.args.at front c.fix-item.result c.args.words.now)
    ∙ ap (λ (fixes : List Fix). with_fixes sites c.args.at fixes c.args.words.now) (sym (take_more c.args.fixes.now c.loop-fix.fix-index c.fix-item.result c.loop-fix-test.true c.fix-item.is))
