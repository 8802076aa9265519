-- A lawful function is lawful under lawful directives.
use Rattle.std.proofs.Common.{◌≡◌, ℕ, ◌<◌, Bool, true, false, if◌then◌else◌, Option, None, Some, List, [], ◌∷◌, length, map, refl, sym, subst, arith}
use Rattle.std.specs.Prelude.{Contains, bytes_eq}
use Rattle.std.specs.List.{AllByRecursion}
use Rattle.std.proofs.lemmas.List.{length-map}
use Rattle.std.proofs.lemmas.List.Elements.{Contains-append_right}
use Rattle.pw_db.specs.declared.database.Web.{Web}
use Rattle.pw_db.specs.declared.database.Role.{Role}
use Rattle.pw_db.specs.declared.database.Directives.{Directives}
use Rattle.pw_db.specs.Database.{IsDirectives}
use Rattle.pw_flow.specs.declared.flow.Op.{Op}
use Rattle.pw_flow.specs.declared.flow.Op.TheVariants as op
use Rattle.pw_flow.specs.declared.flow.Block.{Block}
use Rattle.pw_flow.specs.declared.flow.FlowFn.{FlowFn}
use Rattle.pw_flow.specs.ValidFlow.{IsOp, IsEnd, IsBlock, IsFunction}
use Rattle.pw_webflow.specs.Direction.{register_of, read_of, write_of, directed_op, directed_block, directed}
use Rattle.pw_webflow.specs.ValidWebs.{IsWebOp, IsWebBlock, IsWebFn}

-- the register of a global is that of one of the webs
register_found : (webs : List (Web × Role)) (g : List ℕ) (r : ℕ) → register_of webs g ≡ Some r → Contains (map (λ w. w.0.reg) webs) r
register_found [] g r e = cc
register_found (w ∷ rest) g r e = by (bytes_eq w.0.global g) e (register_found rest g r)
  where
    by : (t : Bool) → (if t then Some w.0.reg else register_of rest g) ≡ Some r → (register_of rest g ≡ Some r → Contains (map (λ w. w.0.reg) rest) r) → Contains (w.0.reg ∷ map (λ w. w.0.reg) rest) r
    by true e more = (0, omega arith, cc)
    by false e more = Contains-append_right (w.0.reg ∷ []) (map (λ w. w.0.reg) rest) r (more e)

op_lawful : (f : FlowFn) (d : Directives) (o : Op) → IsOp f.temps (length f.slots) o → IsWebOp (directed f d) (directed_op d.webs o)
unfolding directed
op_lawful f d (op.LoadG t g k) h = by (register_of d.webs g) refl
  where
    by : (r : Option ℕ) → register_of d.webs g ≡ r → IsWebOp (directed f d) (read_of r t (op.LoadG t g k))
    by None e = h
    by (Some r) e = (h, register_found d.webs g r e)
op_lawful f d (op.StoreG g a k) h = by (register_of d.webs g) refl
  where
    by : (r : Option ℕ) → register_of d.webs g ≡ r → IsWebOp (directed f d) (write_of r a (op.StoreG g a k))
    by None e = h
    by (Some r) e = (register_found d.webs g r e, h)
op_lawful f d _ h = h

ops_lawful : (f : FlowFn) (d : Directives) (ops : List Op) → AllByRecursion (IsOp f.temps (length f.slots)) ops → AllByRecursion (IsWebOp (directed f d)) (map (directed_op d.webs) ops)
ops_lawful f d [] h = tt
ops_lawful f d (o ∷ rest) h = (op_lawful f d o h.0, ops_lawful f d rest h.1)

block_lawful : (f : FlowFn) (d : Directives) (b : Block) → IsBlock f.temps (length f.slots) (length f.blocks) b → IsWebBlock (directed f d) (directed_block d.webs b)
unfolding directed
block_lawful f d b h =
    let same : length f.blocks ≡ length (map (directed_block d.webs) f.blocks) = sym (simp length-map) in
    record {
      depth = h.depth;
      ops = ops_lawful f d b.ops h.ops;
      end = subst (λ (n : ℕ). IsEnd f.temps n b.end) same h.end;
    }

blocks_lawful : (f : FlowFn) (d : Directives) (blocks : List Block) → AllByRecursion (IsBlock f.temps (length f.slots) (length f.blocks)) blocks → AllByRecursion (IsWebBlock (directed f d)) (map (directed_block d.webs) blocks)
blocks_lawful f d [] h = tt
blocks_lawful f d (b ∷ rest) h = (block_lawful f d b h.0, blocks_lawful f d rest h.1)

pub directed_lawful : (f : FlowFn) (d : Directives) → IsFunction f → IsDirectives d → IsWebFn (directed f d)
unfolding directed
directed_lawful f d h k =
    let same : length f.blocks ≡ length (map (directed_block d.webs) f.blocks) = sym (simp length-map) in
    record {
      few_params = h.few.few_params;
      params = h.few.params;
      room = h.few.room;
      start = subst (λ (n : ℕ). 0 < n) same h.few.start;
      blocks = blocks_lawful f d f.blocks h.blocks;
      directives = k;
    }
