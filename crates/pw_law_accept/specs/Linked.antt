-- Modules whose objects link.
use Rattle.std.specs.Prelude.{List, map, Contains}
use Rattle.std.specs.List.{AllByRecursion}
use Rattle.pw_object.specs.declared.object.Object.{Object}
use Rattle.pw_link_interface.specs.Interface.{interface}
use Rattle.pw_link_rules.specs.Linking.{Links}
use Rattle.pw_flow.specs.declared.flow.FlowGlobal.{FlowGlobal}
use Rattle.pw_flow.specs.declared.flow.FlowModule.{FlowModule}
use Rattle.pw_cmean.specs.Worlds.{Program, ProgramModule}
use Rattle.pw_run_languages.specs.Programs as flows
use Rattle.pw_run_languages.specs.Programs.{globals_of}
use Rattle.pw_run_languages.specs.LawfulPrograms.{IsItem}
use Rattle.pw_law_source.specs.Accepting.{AllShow}
pub use Rattle.pw_law_source.specs.Accepting.{HasNoColon, AreNamedPlainly}

-- objects that show what the modules have, and that link
pub record AreLinked (modules : List FlowModule) : Type 0 where
  pub objects : List Object
  pub show : AllShow modules objects
  pub links : Links (map interface objects)

-- the bytes of items are bytes, and nothing is added to the address of a function
abbrev pub HaveRightItems : flows.Program → Type 0
HaveRightItems p = (g : FlowGlobal) → Contains (globals_of p) g → AllByRecursion (λ i. IsItem p i.1) g.items
