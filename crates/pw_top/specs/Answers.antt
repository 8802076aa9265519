-- Which answers there are not.
use Rattle.pw_value.specs.declared.fault.LinkFault.{LinkFault}
use Rattle.pw_value.specs.declared.fault.LinkFault.TheVariants as link
use Rattle.pw_front_end.specs.Fronts.{HoldsNoWant}
use Rattle.pw_commands_cpp.specs.Command.{IsCppAnswer}
use Rattle.pw_top_answer.specs.declared.answer.Answer.{Answer}
use Rattle.pw_top_answer.specs.declared.answer.Answer.TheVariants.{Usage, Refused, RefusedSource, Cpp, LinkRefused}

-- a refusal of modules together for another reason than want of memory
abbrev pub HoldsNoLinkWant : LinkFault → Type 0
HoldsNoLinkWant link.NoMemory = ⊥
HoldsNoLinkWant _ = Unit {0}

-- a refusal is never want of memory
abbrev pub HoldsNoWantOfMemory : Answer → Type 0
HoldsNoWantOfMemory (Refused name refusal) = HoldsNoWant refusal
HoldsNoWantOfMemory (RefusedSource name refusal) = HoldsNoWant refusal
HoldsNoWantOfMemory (Cpp fault) = IsCppAnswer (Cpp fault)
HoldsNoWantOfMemory (LinkRefused fault) = HoldsNoLinkWant fault
HoldsNoWantOfMemory _ = Unit {0}

-- the answer is not that the words are no command line
abbrev pub IsNoUsage : Answer → Type 0
IsNoUsage Usage = ⊥
IsNoUsage _ = Unit {0}
