use Rattle.std.proofs.Common.{◌∙◌}
use Rattle.pw_machine.specs.Core.{byte_at, register}
use Rattle.pw_run_languages.specs.Standing.{global_now}
use Rattle.pw_law_calls.proofs.laws.values_are_those_of_the_source.Goals as goal

pub returns : goal.returns
returns c = λ core functions frames object kind named active g held value address objects bytes v fits name place size is chain there long small number stands walk.
    c.walks_come_to_what_is_noted.ensures core functions frames object kind named active g held value fits name place size chain there walk
    ∙ c.numbers_are_told.ensures address objects g kind bytes (global_now named (byte_at core.memory) (register core) active g) v is long small number stands
