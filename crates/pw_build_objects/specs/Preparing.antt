-- Inside: the flow graphs of which a program is made, with what the analyser made of them.
use Rattle.std.specs.Prelude.{ℕ, Bool, List}
use Rattle.std.specs.List.{AllByRecursion}
use Rattle.pw_flow.specs.declared.flow.FlowModule.{FlowModule}
use Rattle.pw_flow.specs.ValidFlow.{IsValid}
use Rattle.pw_db.specs.Database.{IsDatabase}
use Rattle.pw_build_objects.specs.declared.forms.Prepared.{Prepared}
use Rattle.pw_build_objects.specs.Programs.{AreForms, AreSummariesOf, HasDatabase, KeepRules}

-- the lawful forms of modules that keep the rules of linking, their summaries and their database
pub record IsPrepared (flows : List FlowModule) (optimise : Bool) (colours : ℕ) (p : Prepared) : Type 0 where
  pub rules : KeepRules flows
  pub of_flows : AreForms optimise flows p.forms.items
  pub lawful : AllByRecursion IsValid p.forms.items
  pub summaries : AreSummariesOf p.forms.items p.analysed.summaries.items
  pub database : HasDatabase p.forms.items colours p.analysed.database.functions
  pub lawful_database : IsDatabase p.analysed.database.functions
