-- Definitions by a count, one step further.
use Rattle.std.proofs.Common.{◌≡◌, ℕ, suc, ◌+◌, ◌-◌, ◌<◌, ◌≤◌, List, [], ◌++◌, refl, ap, sym, ◌∙◌, arith}
use Rattle.std.proofs.lemmas.List.{append-nil}
use Rattle.pw_db.specs.Limits.{last_register}
use Rattle.pw_db.specs.declared.database.Web.{Web}
use Rattle.pw_db.specs.declared.database.Role.{Role}
use Rattle.pw_inst.specs.declared.line.Line.{Line}
use Rattle.pw_alloc.specs.declared.located.Place.{Place}
use Rattle.pw_select_lines.specs.Registers.{place_of}
use Rattle.pw_select.specs.Selection.{entered_web, lines_of_web, entered_lines, parameter_in, parameters_in}

pub lines_more : (lines : Web → List Line) (webs : List (Web × Role)) (r : ℕ) → r ≤ last_register → entered_lines lines webs r (last_register + 1 - r) ≡ lines_of_web lines (entered_web webs r) ++ entered_lines lines webs (r + 1) (last_register + 1 - (r + 1))
unfolding entered_lines
lines_more lines webs r h =
    let e : last_register + 1 - r ≡ suc (last_register + 1 - (r + 1)) = omega arith in
    let next : r + 1 ≡ suc r = omega arith in
    rw (e, next) refl

pub lines_none : (lines : Web → List Line) (webs : List (Web × Role)) (r : ℕ) → entered_lines lines webs r 0 ≡ []
unfolding entered_lines
lines_none lines webs r = refl

-- behind the last register nothing is left
pub lines_end : (lines : Web → List Line) (webs : List (Web × Role)) (r : ℕ) (out all : List Line) → last_register < r → out ++ entered_lines lines webs r (last_register + 1 - r) ≡ all → out ≡ all
lines_end lines webs r out all h e =
    let end : last_register + 1 - r ≡ 0 = omega arith in
    sym (append-nil out) ∙ ap (λ (rest : List Line). out ++ rest) (sym (lines_none lines webs r)) ∙ ap (λ (n : ℕ). out ++ entered_lines lines webs r n) (sym end) ∙ e

pub parameters_more : (frame : ℕ) (places : List Place) (k count : ℕ) → k < count → parameters_in frame places k (count - k) ≡ parameter_in frame k (place_of places k) ++ parameters_in frame places (k + 1) (count - (k + 1))
parameters_more frame places k count h =
    let e : count - k ≡ suc (count - (k + 1)) = omega arith in
    let next : k + 1 ≡ suc k = omega arith in
    rw (e, next) refl
