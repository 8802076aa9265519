-- How a function's lines are made of the rows of its start and of its end.
use Rattle.std.specs.Prelude.{ℕ, ◌≡◌, [], ◌∷◌, ◌++◌}
use Rattle.std.specs.List.{AllByRecursion}
use Rattle.pw_inst.specs.declared.line.Line.TheVariants.{Leave}
use Rattle.pw_alloc.specs.declared.located.Place.{Place}
use Rattle.pw_alloc.specs.declared.located.Located.{Located}
use Rattle.pw_alloc.specs.Frames.{head_size}
use Rattle.pw_select_lines.specs.Registers.{loaded, store_to}
use Rattle.pw_select.specs.Selection.{entry_lines, saved_lines, webs_loaded, webs_stored, parameters_in, prologue, epilogue}
use Rattle.pw_law_select_rows.specs.Straight.{IsStraight}
use Rattle.pw_law_select_frames.specs.Leaving.{leaving}

-- the check and the saved registers, then the webs, then the parameters
abbrev pub ProloguesAreShaped : Type 0
ProloguesAreShaped =
    (f : Located)
    → prologue f ≡ (entry_lines f.frame ++ saved_lines store_to (head_size f.body) 0 f.saved) ++ webs_loaded f.body.directives.webs ++ parameters_in f.frame f.places 0 f.body.params

-- the webs, then the saved registers and the return address, and the frame
abbrev pub EpiloguesAreShaped : Type 0
EpiloguesAreShaped = (f : Located) → epilogue f ≡ webs_stored f.body.directives.webs ++ (leaving f ++ Leave ∷ [])

-- a temporary's word comes to a register by straight lines
abbrev pub LoadedRowsAreStraight : Type 0
LoadedRowsAreStraight = (a : Place) (d : ℕ) → AllByRecursion IsStraight (loaded a d)
