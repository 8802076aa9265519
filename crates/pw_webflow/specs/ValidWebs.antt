-- Which directed graphs are lawful.
use Rattle.std.specs.Prelude.{ℕ, ◌*◌, ◌<◌, ◌≤◌, length, map, Contains}
use Rattle.std.specs.List.{AllByRecursion}
use Rattle.pw_value.specs.Limits.{parameter_limit, room_limit}
use Rattle.pw_flow.specs.ValidFlow.{IsWord, IsOp, IsEnd, rooms}
use Rattle.pw_db.specs.Database.{IsDirectives}
use Rattle.pw_db.specs.declared.database.Directives.{Directives}
use Rattle.pw_webflow.specs.declared.web.WebOp.{WebOp}
use Rattle.pw_webflow.specs.declared.web.WebOp.TheVariants.{Flow, Read, Write}
use Rattle.pw_webflow.specs.declared.web.WebBlock.{WebBlock}
use Rattle.pw_webflow.specs.declared.web.WebFn.{WebFn}

-- the register is that of one of the webs
abbrev pub HasRegister : Directives → ℕ → Type 0
HasRegister d r = Contains (map (λ w. w.0.reg) d.webs) r

abbrev pub IsWebOp : WebFn → WebOp → Type 0
IsWebOp f (Flow o) = IsOp f.temps (length f.slots) o
IsWebOp f (Read t r) = (t < f.temps) × HasRegister f.directives r
IsWebOp f (Write r a) = HasRegister f.directives r × (a < f.temps)

pub record IsWebBlock (f : WebFn) (b : WebBlock) : Type 0 where
  pub depth : IsWord b.depth
  pub ops : AllByRecursion (IsWebOp f) b.ops
  pub end : IsEnd f.temps (length f.blocks) b.end

-- a lawful flow graph but for the copies from and to the registers of its webs
pub record IsWebFn (f : WebFn) : Type 0 where
  pub few_params : f.params ≤ parameter_limit
  pub params : f.params ≤ f.temps
  pub room : rooms (4 * f.temps) f.slots ≤ room_limit
  pub start : 0 < length f.blocks
  pub blocks : AllByRecursion (IsWebBlock f) f.blocks
  pub directives : IsDirectives f.directives
