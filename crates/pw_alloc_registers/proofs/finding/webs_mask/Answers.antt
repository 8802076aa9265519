use Rattle.std.proofs.Common.{◌<◌, List, map, sym, subst}
use Rattle.std.proofs.lemmas.List.{take_all}
use Rattle.pw_db.specs.declared.database.Web.{Web}
use Rattle.pw_db.specs.declared.database.Role.{Role}
use Rattle.pw_alloc_registers.specs.Masks.{IsMaskOf}
use Rattle.pw_alloc_registers.proofs.Barring.{barred_none, barred_more}
use Rattle.pw_alloc_registers.proofs.finding.webs_mask.Goals as goal

pub loop-web-init : goal.loop-web-init
loop-web-init c = barred_none

pub with_register-more-requires : goal.with_register-more-requires
with_register-more-requires c =
    subst (λ (w : Web × Role). w.0.reg < 32) (sym c.web-item.is) (c.requires c.loop-web.web-index c.web-item.result c.loop-web-test.true)

pub loop-web-preserved : goal.loop-web-preserved
loop-web-preserved c = barred_more c.args.webs.now c.loop-web.web-index c.web-item.result c.loop-web.mask c.with_register-more.result c.loop-web-test.true (sym c.web-item.is) c.with_register-more.ensures c.loop-web.invariant

pub returns : goal.returns
returns c = subst (λ (ws : List (Web × Role)). IsMaskOf c.loop-web.mask (map (λ w. w.0.reg) ws)) (take_all c.loop-web.web-index c.args.webs.now c.loop-web-test.false) c.loop-web.invariant
