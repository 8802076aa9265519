-- Direction leaves a function's outline as it is.
use Rattle.std.proofs.Common.{◌≡◌, ℕ, Option, None, Some, List, [], ◌∷◌, map, refl, ap, ◌∙◌}
use Rattle.pw_db.specs.declared.database.Web.{Web}
use Rattle.pw_db.specs.declared.database.Role.{Role}
use Rattle.pw_db.specs.declared.database.Directives.{Directives}
use Rattle.pw_flow.specs.declared.flow.Op.{Op}
use Rattle.pw_flow.specs.declared.flow.Op.TheVariants as op
use Rattle.pw_flow.specs.declared.flow.Block.{Block}
use Rattle.pw_flow.specs.declared.flow.FlowFn.{FlowFn}
use Rattle.pw_flow.specs.Uses.{end_uses, successors}
use Rattle.pw_flow.specs.Outline.{Act, Stretch, Outline, act_of, stretch_of, outline_of}
use Rattle.pw_webflow.specs.Direction.{register_of, read_of, write_of, directed_op, directed_block, directed}
use Rattle.pw_webflow.specs.WebOutline.{web_act, web_stretch, web_outline}

act_stays : (webs : List (Web × Role)) (o : Op) → web_act (directed_op webs o) ≡ act_of o
act_stays webs (op.LoadG t g k) = by (register_of webs g)
  where
    by : (r : Option ℕ) → web_act (read_of r t (op.LoadG t g k)) ≡ act_of (op.LoadG t g k)
    by None = refl
    by (Some r) = refl
act_stays webs (op.StoreG g a k) = by (register_of webs g)
  where
    by : (r : Option ℕ) → web_act (write_of r a (op.StoreG g a k)) ≡ act_of (op.StoreG g a k)
    by None = refl
    by (Some r) = refl
act_stays webs _ = refl

acts_stay : (webs : List (Web × Role)) (ops : List Op) → map web_act (map (directed_op webs) ops) ≡ map act_of ops
acts_stay webs [] = refl
acts_stay webs (o ∷ rest) =
    ap (λ (a : Act). a ∷ map web_act (map (directed_op webs) rest)) (act_stays webs o) ∙ ap (λ (acts : List Act). act_of o ∷ acts) (acts_stay webs rest)

abbrev with_acts : Block → List Act → Stretch
with_acts b acts = record { depth = b.depth; acts = acts; uses = end_uses b.end; next = successors b.end }

stretch_stays : (webs : List (Web × Role)) (b : Block) → web_stretch (directed_block webs b) ≡ stretch_of b
stretch_stays webs b = ap (with_acts b) (acts_stay webs b.ops)

stretches_stay : (webs : List (Web × Role)) (blocks : List Block) → map web_stretch (map (directed_block webs) blocks) ≡ map stretch_of blocks
stretches_stay webs [] = refl
stretches_stay webs (b ∷ rest) =
    ap (λ (s : Stretch). s ∷ map web_stretch (map (directed_block webs) rest)) (stretch_stays webs b)
    ∙ ap (λ (blocks : List Stretch). stretch_of b ∷ blocks) (stretches_stay webs rest)

abbrev with_blocks : FlowFn → List Stretch → Outline
with_blocks f blocks = record { params = f.params; temps = f.temps; blocks = blocks }

pub outline_stays : (f : FlowFn) (d : Directives) → web_outline (directed f d) ≡ outline_of f
unfolding directed
outline_stays f d = ap (with_blocks f) (stretches_stay d.webs f.blocks)
