-- Direction: reads and writes of a global that a directive holds become copies from and to its register.
use Rattle.std.specs.Prelude.{ℕ, if◌then◌else◌, Option, Some, None, List, [], ◌∷◌, map, bytes_eq}
use Rattle.pw_db.specs.declared.database.Web.{Web}
use Rattle.pw_db.specs.declared.database.Role.{Role}
use Rattle.pw_db.specs.declared.database.Directives.{Directives}
use Rattle.pw_flow.specs.declared.flow.Op.{Op}
use Rattle.pw_flow.specs.declared.flow.Op.TheVariants.{LoadG, StoreG}
use Rattle.pw_flow.specs.declared.flow.Block.{Block}
use Rattle.pw_flow.specs.declared.flow.FlowFn.{FlowFn}
use Rattle.pw_webflow.specs.declared.web.WebOp.{WebOp}
use Rattle.pw_webflow.specs.declared.web.WebOp.TheVariants.{Flow, Read, Write}
use Rattle.pw_webflow.specs.declared.web.WebBlock.{WebBlock}
use Rattle.pw_webflow.specs.declared.web.WebFn.{WebFn}

-- the register of a global among a function's webs
abbrev pub register_of : List (Web × Role) → List ℕ → Option ℕ
register_of [] g = None
register_of (w ∷ rest) g = if bytes_eq w.0.global g then Some w.0.reg else register_of rest g

abbrev pub read_of : Option ℕ → ℕ → Op → WebOp
read_of None t o = Flow o
read_of (Some r) t o = Read t r

abbrev pub write_of : Option ℕ → ℕ → Op → WebOp
write_of None a o = Flow o
write_of (Some r) a o = Write r a

abbrev pub directed_op : List (Web × Role) → Op → WebOp
directed_op webs (LoadG t g k) = read_of (register_of webs g) t (LoadG t g k)
directed_op webs (StoreG g a k) = write_of (register_of webs g) a (StoreG g a k)
directed_op webs o = Flow o

abbrev pub directed_block : List (Web × Role) → Block → WebBlock
directed_block webs b = record { depth = b.depth; ops = map (directed_op webs) b.ops; end = b.end }

-- a function under its directives
unfoldable pub directed : FlowFn → Directives → WebFn
directed f d = record {
  name = f.name;
  shape = f.shape;
  params = f.params;
  temps = f.temps;
  slots = f.slots;
  blocks = map (directed_block d.webs) f.blocks;
  directives = d;
}
