use Rattle.std.proofs.Common.{List, sym, ◌∙◌, subst}
use Rattle.pw_inst.specs.declared.line.Line.{Line}
use Rattle.pw_delay.specs.Lines.{AreLines}
use Rattle.pw_select.proofs.PlaceableFn.{lawful_lines}
use Rattle.pw_select.proofs.selecting.select.Goals as goal

pub returns-clause-lines : goal.returns-clause-lines
returns-clause-lines c =
    subst (λ (lines : List Line). AreLines lines) (sym (c.into_vec.ensures ∙ c.in_ok-lines.ensures)) (lawful_lines c.args.f.now c.requires)
