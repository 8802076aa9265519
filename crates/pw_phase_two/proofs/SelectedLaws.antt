-- Selected lines name routines that there are.
use Rattle.std.proofs.Common.{ℕ, List}
use Rattle.std.specs.List.{AllByRecursion}
use Rattle.pw_inst.specs.declared.line.Line.{Line}
use Rattle.pw_inst.specs.declared.line.Line.TheVariants as line
use Rattle.pw_inst.specs.declared.relocation.Symbol.{Symbol}
use Rattle.pw_inst.specs.declared.relocation.Symbol.TheVariants as symbol
use Rattle.pw_alloc.specs.declared.located.Located.{Located}
use Rattle.pw_select.specs.Selection.{selected}
use Rattle.pw_law_select_walk.specs.Rows.{IsAddressed, IsRow}
use Rattle.pw_law_select_walk.proofs.EachLine.{Anything, anything, each_selected}
use Rattle.pw_phase_two.proofs.FixLaws.{IsThere, LineThere}

abbrev pub LinesThere : List Line → Type 0
LinesThere lines = AllByRecursion LineThere lines

addressed_there : (s : Symbol) → IsAddressed Anything s → IsThere s
addressed_there (symbol.Named name) h = tt
addressed_there (symbol.Word word) h = absurd h
addressed_there symbol.StackLimit h = tt
addressed_there (symbol.Routine number) h = absurd h

row_there : (l : Line) → IsRow Anything Anything l → LineThere l
row_there (line.Fixed x k s n) h = addressed_there s h.1
row_there (line.CallTo (symbol.Named f) r) h = tt
row_there (line.CallTo (symbol.Word word) r) h = absurd h
row_there (line.CallTo symbol.StackLimit r) h = absurd h
row_there (line.CallTo (symbol.Routine number) r) h = h.1
row_there l h = tt

pub selected_there : (f : Located) → LinesThere (selected f)
selected_there f = each_selected Anything Anything LineThere row_there (λ (b : ℕ). tt) f (anything f)
