use Rattle.std.proofs.Common.{◌∙◌, List, map, sym, ap, subst}
use Rattle.pw_db.specs.declared.database.Web.{Web}
use Rattle.pw_db.specs.declared.database.Role.{Role}
use Rattle.pw_flow.specs.Outline.{Outline}
use Rattle.pw_live_fronts.specs.Blocks.{IsOutline}
use Rattle.pw_alloc_temps.specs.Registers.{registers}
use Rattle.pw_alloc_temps.specs.Temporaries.{cluster_of}
use Rattle.pw_alloc_registers.specs.Masks.{IsMaskOf}
use Rattle.pw_alloc_registers.proofs.Lawful.{outline_is}
use Rattle.pw_alloc_registers.proofs.Barring.{webs_low}
use Rattle.pw_alloc_registers.proofs.finding.find_registers.Goals as goal

pub webs_mask-webs-requires : goal.webs_mask-webs-requires
webs_mask-webs-requires c = webs_low c.args.f.now c.as_slice.result.now c.requires c.as_slice.ensures

pub registers-requires : goal.registers-requires
registers-requires c = subst IsOutline (sym c.in_ok-outline.ensures) (outline_is c.args.f.now c.requires)

pub returns : goal.returns
returns c =
    let f = c.args.f.now in
    let webs = subst (λ (ws : List (Web × Role)). IsMaskOf c.webs_mask-webs.result (map (λ w. w.0.reg) ws)) c.as_slice.ensures c.webs_mask-webs.ensures in
    c.in_ok-registers.ensures (map (λ w. w.0.reg) f.directives.webs) (cluster_of f.directives) webs c.cluster_mask-cluster.ensures
    ∙ ap (λ (o : Outline). registers o (map (λ w. w.0.reg) f.directives.webs) (cluster_of f.directives)) c.in_ok-outline.ensures
