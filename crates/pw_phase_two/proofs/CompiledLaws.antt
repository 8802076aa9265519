-- What a function is compiled to can stand in an object's file.
use Rattle.std.proofs.Common.{◌≡◌, ℕ, List, [], ◌∷◌, length, sym, subst}
use Rattle.std.specs.List.{AllByRecursion}
use Rattle.pw_fields.specs.Fields.{FitsU32}
use Rattle.pw_flow.specs.declared.flow.FlowFn.{FlowFn}
use Rattle.pw_db.specs.declared.database.Directives.{Directives}
use Rattle.pw_inst.specs.declared.relocation.Fix.{Fix}
use Rattle.pw_inst.specs.declared.relocation.Symbol.{Symbol}
use Rattle.pw_inst.specs.declared.relocation.Symbol.TheVariants as symbol
use Rattle.pw_object.specs.Functions.{IsFix, IsFunction, IsSymbol}
use Rattle.pw_object.specs.declared.functions.ObjectFn.{ObjectFn}
use Rattle.pw_webflow.specs.Direction.{directed}
use Rattle.pw_alloc_temps.specs.Temporaries.{allocated}
use Rattle.pw_select.specs.Selection.{selected}
use Rattle.pw_phase_two.specs.Numbers.{HasWordNumber, HasWordNumbers}
use Rattle.pw_phase_two.specs.Phases.{compiled}
use Rattle.pw_phase_two.proofs.FixLaws.{IsThere, Stands, placed_stand}
use Rattle.pw_phase_two.proofs.SelectedLaws.{selected_there}

symbol_lawful : (s : Symbol) → IsThere s → HasWordNumber s → IsSymbol s
symbol_lawful (symbol.Named name) there fits = tt
symbol_lawful (symbol.Word word) there fits = fits
symbol_lawful symbol.StackLimit there fits = tt
symbol_lawful (symbol.Routine number) there fits = there

fixes_lawful : (n : ℕ) (fixes : List Fix) → AllByRecursion (Stands n) fixes → AllByRecursion HasWordNumbers fixes → AllByRecursion (IsFix n) fixes
fixes_lawful n [] stand fit = tt
fixes_lawful n (f ∷ rest) stand fit =
    (record { word = stand.0.0; symbol = symbol_lawful f.symbol stand.0.1 fit.0.symbol; addend = fit.0.addend }, fixes_lawful n rest stand.1 fit.1)

compiled_stand : (f : FlowFn) (d : Directives) → AllByRecursion (Stands (length (compiled f d).words)) (compiled f d).fixes
compiled_stand f d =
    let located = allocated (directed f d) in
    placed_stand (selected located) (selected_there located)

pub compiled_lawful : (f : FlowFn) (d : Directives) (o : ObjectFn) → o ≡ compiled f d
    → FitsU32 o.frame → AllByRecursion FitsU32 o.words → AllByRecursion HasWordNumbers o.fixes → IsFunction o
compiled_lawful f d o is frame words fixes =
    let stand = subst (λ (r : ObjectFn). AllByRecursion (Stands (length r.words)) r.fixes) (sym is) (compiled_stand f d) in
    record { frame = frame; words = words; fixes = fixes_lawful (length o.words) o.fixes stand fixes }
