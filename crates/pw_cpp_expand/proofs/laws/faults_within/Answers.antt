use Rattle.pw_cpp_expand.proofs.Places.{faults-alone, faults-in-text}
use Rattle.pw_cpp_expand.proofs.laws.faults_within.Goals as goal

pub returns-clause-text : goal.returns-clause-text
returns-clause-text c = λ source text macros pending p fault low e w l. faults-in-text source text macros pending p fault low e w l

pub returns-clause-alone : goal.returns-clause-alone
returns-clause-alone c = λ source text macros pending p fault low high e w. faults-alone source text macros pending p fault low high e w
