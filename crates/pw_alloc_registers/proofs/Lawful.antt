-- The outline of a lawful directed function is lawful.
use Rattle.std.proofs.Common.{ℕ, List, [], ◌∷◌, length, map, sym, subst}
use Rattle.std.specs.List.{AllByRecursion}
use Rattle.std.proofs.lemmas.List.{length-map}
use Rattle.pw_webflow.specs.declared.web.WebOp.{WebOp}
use Rattle.pw_webflow.specs.declared.web.WebOp.TheVariants.{Flow, Read, Write}
use Rattle.pw_webflow.specs.declared.web.WebBlock.{WebBlock}
use Rattle.pw_webflow.specs.declared.web.WebFn.{WebFn}
use Rattle.pw_webflow.specs.WebOutline.{web_act, web_stretch, web_outline}
use Rattle.pw_webflow.specs.ValidWebs.{IsWebOp, IsWebBlock, IsWebFn}
use Rattle.pw_live_fronts.specs.Blocks.{IsAct, IsStretch, IsOutline}
use Rattle.pw_live_outline.proofs.Lawful.{op_reads, op_writes, end_reads, end_goes}

act_is : (f : WebFn) (o : WebOp) → IsWebOp f o → IsAct f.temps (web_act o)
act_is f (Flow o) is = record { defines = op_writes f.temps (length f.slots) o is; uses = op_reads f.temps (length f.slots) o is }
act_is f (Read t r) is = record { defines = is.0; uses = tt }
act_is f (Write r a) is = record { defines = tt; uses = (is.1, tt) }

acts_are : (f : WebFn) (ops : List WebOp) → AllByRecursion (IsWebOp f) ops → AllByRecursion (IsAct f.temps) (map web_act ops)
acts_are f [] all = tt
acts_are f (o ∷ ops) all = (act_is f o all.0, acts_are f ops all.1)

stretches_are : (f : WebFn) (blocks : List WebBlock) → AllByRecursion (IsWebBlock f) blocks → AllByRecursion (IsStretch f.temps (length f.blocks)) (map web_stretch blocks)
stretches_are f [] all = tt
stretches_are f (b ∷ blocks) all =
    let one = all.0 in (
      record { acts = acts_are f b.ops one.ops; uses = end_reads f.temps (length f.blocks) b.end one.end; next = end_goes f.temps (length f.blocks) b.end one.end },
      stretches_are f blocks all.1,
    )

pub outline_is : (f : WebFn) → IsWebFn f → IsOutline (web_outline f)
outline_is f is = record {
  params = is.params;
  blocks = subst (λ (n : ℕ). AllByRecursion (IsStretch f.temps n) (map web_stretch f.blocks)) (sym (length-map f.blocks web_stretch)) (stretches_are f f.blocks is.blocks);
}
