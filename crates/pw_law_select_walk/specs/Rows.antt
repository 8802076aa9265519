-- What a line is that selection makes, whatever the function.
use Rattle.std.specs.Prelude.{ℕ, zero, suc, negsuc, ◌≡◌, ◌<◌, None, List}
use Rattle.std.specs.List.{AllByRecursion}
use Rattle.pw_flow.specs.FlowGraph.{op_names}
use Rattle.pw_flow.specs.declared.flow.Op.{Op}
use Rattle.pw_flow.specs.declared.flow.Op.TheVariants.{Call}
use Rattle.pw_db.specs.declared.database.Web.{Web}
use Rattle.pw_db.specs.declared.database.Role.{Role}
use Rattle.pw_inst.specs.Limits.{routine_count}
use Rattle.pw_inst.specs.Registers.{return_address, routine_link}
use Rattle.pw_inst.specs.declared.Inst.{Inst}
use Rattle.pw_inst.specs.declared.Inst.TheVariants as i
use Rattle.pw_inst.specs.declared.line.Line.{Line}
use Rattle.pw_inst.specs.declared.line.Line.TheVariants as line
use Rattle.pw_inst.specs.declared.relocation.FixKind.{FixKind}
use Rattle.pw_inst.specs.declared.relocation.FixKind.TheVariants as kind
use Rattle.pw_inst.specs.declared.relocation.Symbol.{Symbol}
use Rattle.pw_inst.specs.declared.relocation.Symbol.TheVariants as symbol
use Rattle.pw_webflow.specs.declared.web.WebOp.{WebOp}
use Rattle.pw_webflow.specs.declared.web.WebOp.TheVariants.{Flow}
use Rattle.pw_webflow.specs.declared.web.WebBlock.{WebBlock}
use Rattle.pw_alloc.specs.declared.located.Located.{Located}
use Rattle.pw_delay.specs.Branches.{IsSent}

-- ---- lines

-- an address goes into LDIL by its left part, and into a displacement by its right part
abbrev pub TakesAddress : FixKind → Inst → Type 0
TakesAddress kind.Ldil (i.Ldil im t) = Unit {0}
TakesAddress kind.Im14 (i.Ldb im b t) = Unit {0}
TakesAddress kind.Im14 (i.Ldh im b t) = Unit {0}
TakesAddress kind.Im14 (i.Ldw im b t) = Unit {0}
TakesAddress kind.Im14 (i.Ldo im b t) = Unit {0}
TakesAddress kind.Im14 (i.Stb r im b) = Unit {0}
TakesAddress kind.Im14 (i.Sth r im b) = Unit {0}
TakesAddress kind.Im14 (i.Stw r im b) = Unit {0}
TakesAddress k x = ⊥

-- what a word takes the address of is something with a known name, or the end of the stack
abbrev pub IsAddressed : (List ℕ → Type 0) → Symbol → Type 0
IsAddressed Known (symbol.Named name) = Known name
IsAddressed Known symbol.StackLimit = Unit {0}
IsAddressed Known s = ⊥

-- a word by itself is no branch to a function, and none that goes back to itself
abbrev pub IsAlone : Inst → Type 0
IsAlone (i.Combf c r1 r2 (negsuc (suc zero))) = ⊥
IsAlone x = IsSent x None

-- A line between two labels. A word by itself is no branch to a function or to itself, a word with a relocation takes the address of a
-- known name; a function whose name is one to call is called by register 2, a routine that there is by register 31.
abbrev pub IsRow : (List ℕ → Type 0) → (List ℕ → Type 0) → Line → Type 0
IsRow Known Called (line.Plain x) = IsAlone x
IsRow Known Called (line.Fixed x k s n) = TakesAddress k x × IsAddressed Known s
IsRow Known Called (line.CallTo (symbol.Named f) r) = (r ≡ return_address) × Called f
IsRow Known Called (line.CallTo (symbol.Routine k) r) = (r ≡ routine_link) × (k < routine_count)
IsRow Known Called (line.CallTo s r) = ⊥
IsRow Known Called (line.Label b) = ⊥
IsRow Known Called l = Unit {0}

-- a line of a function's code
abbrev pub IsSelected : (List ℕ → Type 0) → (List ℕ → Type 0) → Line → Type 0
IsSelected Known Called (line.Label b) = Unit {0}
IsSelected Known Called l = IsRow Known Called l

-- ---- names in a function

-- a call names what is called; the other operations name what has an address
abbrev pub KnowsFlow : (List ℕ → Type 0) → (List ℕ → Type 0) → Op → Type 0
KnowsFlow Known Called (Call t f args) = Called f
KnowsFlow Known Called o = AllByRecursion Known (op_names o)

abbrev pub KnowsOp : (List ℕ → Type 0) → (List ℕ → Type 0) → WebOp → Type 0
KnowsOp Known Called (Flow o) = KnowsFlow Known Called o
KnowsOp Known Called o = Unit {0}

abbrev pub KnowsBlock : (List ℕ → Type 0) → (List ℕ → Type 0) → WebBlock → Type 0
KnowsBlock Known Called b = AllByRecursion (KnowsOp Known Called) b.ops

abbrev pub KnowsWeb : (List ℕ → Type 0) → Web × Role → Type 0
KnowsWeb Known w = Known w.0.global

-- the names in operations, and those of the globals whose webs the function's directives name
pub record Knows (Known Called : List ℕ → Type 0) (f : Located) : Type 0 where
  pub blocks : AllByRecursion (KnowsBlock Known Called) f.body.blocks
  pub webs : AllByRecursion (KnowsWeb Known) f.body.directives.webs
