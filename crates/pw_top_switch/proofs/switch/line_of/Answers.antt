use Rattle.std.proofs.Common.{Option, false, drop, map, string_bytes, ap, ◌∙◌}
use Rattle.std.specs.Prelude.{ℕ, is_some}
use Rattle.pw_top_switch.specs.Switch.{switch_from, without_place}
use Rattle.pw_top_switch.proofs.Switches.{behind_name, is_there}
use Rattle.pw_top_switch.proofs.switch.line_of.Goals as goal

pub returns-clause-words : goal.returns-clause-words
returns-clause-words c =
    let words = map string_bytes c.args.words.now in
    ap (drop 1) c.in_ok-others.ensures
    ∙ ap (λ (o : Option ℕ). drop 1 (without_place o words)) c.switch_at-place.ensures.place
    ∙ behind_name (switch_from false (drop 1 words)) words

pub returns-clause-optimise : goal.returns-clause-optimise
returns-clause-optimise c =
    let words = map string_bytes c.args.words.now in
    c.is_some.ensures
    ∙ ap (λ (o : Option ℕ). is_some o) c.switch_at-place.ensures.place
    ∙ is_there (switch_from false (drop 1 words))
