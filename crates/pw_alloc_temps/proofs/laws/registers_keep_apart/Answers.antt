use Rattle.pw_alloc_temps.proofs.Registers.{each_has_one, registers_apart, registers_allowed}
use Rattle.pw_alloc_temps.proofs.laws.registers_keep_apart.Goals as goal

pub returns : goal.returns
returns c = record { count = λ f webs cluster. each_has_one f webs cluster; apart = λ f webs cluster a b r. registers_apart f webs cluster a b r; allowed = λ f webs cluster t r. registers_allowed f webs cluster t r }
