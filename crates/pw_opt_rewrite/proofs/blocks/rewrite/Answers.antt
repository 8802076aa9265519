use Rattle.std.proofs.Common.{◌≡◌, ◌∙◌, List, length, vec_len, sym, ap}
use Rattle.pw_flow.specs.declared.flow.Block.{Block}
use Rattle.pw_opt_rules.specs.declared.flat.Flat.{Flat}
use Rattle.pw_opt_rules.specs.Rewriting.{rewritten_blocks, with_blocks}
use Rattle.pw_opt_rows.specs.Outflows.{all_rested}
use Rattle.pw_opt_rewrite.proofs.Alike.{rewritten_within}
use Rattle.pw_opt_rewrite.proofs.Steps.{all_written}
use Rattle.pw_opt_rewrite.proofs.blocks.rewrite.Goals as goal

pub returns : goal.returns
returns g c =
    let r = c.args.rewriting.now in
    let w = g.R.Rewriting.rewriting r in
    let ps = c.args.places.now in
    let f = c.args.f in
    let fronts = c.in_ok-fronts.fronts.items in
    let facts = c.in_ok-fronts.ensures in
    let v = c.into_vec-blocks.result in
    let new = c.rewrite_blocks.new.blocks in
    let long : length new ≡ vec_len v = c.rewrite_blocks.auto.blocks ∙ c.deref_mut-2.ensures.len in
    let blocks = c.from_vec-blocks.ensures ∙ all_written (vec_len v) new v.items long (sym v.ok.0) ∙ c.in_ok-rewrite_blocks.ensures
    ∙ ap (λ (rows : List (List Flat × List Flat)). rewritten_blocks w (all_rested ps rows) c.deref_mut-2.result.now) c.deref_mut.ensures.value
    ∙ ap (λ (bs : List Block). rewritten_blocks w (all_rested ps fronts) bs) (c.deref_mut-2.ensures.value ∙ c.into_vec-blocks.ensures) in
    rewritten_within w (g.met.R.Rewriting.rises r) (g.met.R.Rewriting.reads r) (g.R.Rewriting.may r) ps f c.requires.places fronts facts.known _ facts.own (ap (with_blocks f) blocks)
