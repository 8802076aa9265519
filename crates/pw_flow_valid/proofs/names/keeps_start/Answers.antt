use Rattle.std.proofs.Common.{map, sym, ◌∙◌}
use Rattle.pw_flow_valid.proofs.names.keeps_start.Goals as goal

pub returns : goal.returns
returns c =
    let law = c.start_tests_are_the_rules.ensures.module (map (λ name. name.now) c.args.functions.now) (map (λ name. name.now) c.args.globals.now) in
    (λ b. law.0 (sym c.is_start_kept.ensures ∙ b), λ h. c.is_start_kept.ensures ∙ law.1 h)
