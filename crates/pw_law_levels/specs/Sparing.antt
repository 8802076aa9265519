-- Functions whose registers are not the stack pointer.
use Rattle.std.specs.Prelude.{ℕ, ◌≡◌, ◌≤◌, ◌<◌, ◌^◌, ◌==◌, false, length}
use Rattle.std.specs.List.{AllByRecursion}
use Rattle.pw_inst.specs.Registers.{stack_pointer}
use Rattle.pw_inst.specs.declared.line.Line.{Line}
use Rattle.pw_inst.specs.declared.line.Line.TheVariants.{Plain, Fixed, Label, Leave}
use Rattle.pw_inst.specs.Computing.{target_registers}
use Rattle.pw_db.specs.declared.database.Web.{Web}
use Rattle.pw_db.specs.declared.database.Role.{Role}
use Rattle.pw_webflow.specs.declared.web.WebOp.{WebOp}
use Rattle.pw_webflow.specs.declared.web.WebOp.TheVariants.{Write}
use Rattle.pw_webflow.specs.declared.web.WebBlock.{WebBlock}
use Rattle.pw_alloc.specs.declared.located.Place.{Place}
use Rattle.pw_alloc.specs.declared.located.Place.TheVariants.{Slot, Reg}
use Rattle.pw_alloc.specs.declared.located.Located.{Located}

abbrev pub IsOther : ℕ → Type 0
IsOther r = (r == stack_pointer) ≡ false

-- ---- lines between labels and returns, whose words put nothing into the stack pointer

abbrev pub Spares : Line → Type 0
Spares (Plain x) = AllByRecursion IsOther (target_registers x)
Spares (Fixed x k s n) = AllByRecursion IsOther (target_registers x)
Spares (Label b) = ⊥
Spares Leave = ⊥
Spares l = Unit {0}

-- ---- functions

abbrev pub SparesPlace : Place → Type 0
SparesPlace (Reg r) = IsOther r
SparesPlace (Slot offset) = Unit {0}

abbrev pub SparesOp : WebOp → Type 0
SparesOp (Write r a) = IsOther r
SparesOp o = Unit {0}

abbrev pub SparesWeb : Web × Role → Type 0
SparesWeb w = IsOther w.0.reg

-- its temporaries, its webs and what it saves stand in other registers; its frame has a size, and there is a block
pub record IsSparing (f : Located) : Type 0 where
  pub places : AllByRecursion SparesPlace f.places
  pub saved : AllByRecursion IsOther f.saved
  pub webs : AllByRecursion SparesWeb f.body.directives.webs
  pub ops : AllByRecursion (λ (b : WebBlock). AllByRecursion SparesOp b.ops) f.body.blocks
  pub some : 1 ≤ f.frame
  pub frame : f.frame < 2 ^ 31
  pub start : 1 ≤ length f.body.blocks
