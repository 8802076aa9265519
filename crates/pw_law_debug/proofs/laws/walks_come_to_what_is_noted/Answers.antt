use Rattle.std.proofs.Common.{ℕ, List, sym, ap, ◌∙◌}
use Rattle.pw_machine.specs.Core.{byte_at, register}
use Rattle.pw_run_languages.specs.Acts.{bytes_at}
use Rattle.pw_run_languages.specs.Standing.{held, standing}
use Rattle.pw_law_debug.specs.Telling.{number_of}
use Rattle.pw_law_debug.proofs.Numbers.{found_number}
use Rattle.pw_law_debug.proofs.laws.walks_come_to_what_is_noted.Goals as goal

pub returns : goal.returns
returns c = λ core functions frames object kind named active g there value bytes name at size chain memory walk.
    let o = held object.name (byte_at core.memory) (register core) active in
    let one = c.values_are_held.ensures core functions frames object kind active there value chain memory walk in
    one ∙ found_number core.memory kind object.address g.size there o bytes size memory
    ∙ ap (λ (n : List ℕ). number_of kind (standing (held n (byte_at core.memory) (register core) active) (bytes_at g.size (byte_at core.memory) object.address))) (sym name)
    ∙ ap (λ (n : ℕ). number_of kind (standing (held g.name (byte_at core.memory) (register core) active) (bytes_at g.size (byte_at core.memory) n))) (sym at)
