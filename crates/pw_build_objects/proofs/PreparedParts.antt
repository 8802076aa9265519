-- The parts of modules whose forms were prepared and made into objects.
use Rattle.std.proofs.Common.{◌≡◌, List, Option, Result, Ok, Err, sym, subst}
use Rattle.std.specs.Prelude.{IfOk, OnOk}
use Rattle.std.specs.List.{AllByRecursion}
use Rattle.pw_value.specs.declared.fault.LinkFault.{LinkFault}
use Rattle.pw_flow.specs.declared.flow.FlowModule.{FlowModule}
use Rattle.pw_flow.specs.ValidFlow.{IsValid}
use Rattle.pw_object.specs.declared.object.Object.{Object}
use Rattle.pw_link.specs.Linking.{AreLinked}
use Rattle.pw_build_objects.specs.declared.forms.Prepared.{Prepared}
use Rattle.pw_build_objects.specs.declared.making.Built.{Built}
use Rattle.pw_build_objects.specs.declared.remade.Made.{Made}
use Rattle.pw_build_objects.specs.Choosing.{marks_of, objects_of, parts_of}
use Rattle.pw_build_objects.specs.Preparing.{IsPrepared}
use Rattle.pw_build_objects.specs.Programs.{AreObjectsFrom, AreParts, Completes, DirectivesList, Parts}
use Rattle.pw_build_opts.specs.declared.opts.Opts.{Opts}

abbrev pub parts_with : Prepared → List Made → Parts
parts_with p made = record { database = p.analysed.database.functions; objects = objects_of made; fresh = marks_of made }

pub prepared_parts : (flows : List FlowModule) (kept : List (Option Object)) (opts : Opts) (p : Prepared) (made : List Made) → AllByRecursion IsValid flows → IsPrepared flows opts.optimise opts.colours p
    → AreObjectsFrom p.analysed.database.functions p.forms.items kept (objects_of made) (marks_of made) → AreParts flows kept opts (parts_with p made)
prepared_parts flows kept opts p made valid is objects = record {
  lawful = valid;
  rules = is.rules;
  forms = p.forms.items;
  of_flows = is.of_flows;
  database = is.database;
  objects = objects;
}

pub completed : (flows : List FlowModule) (kept : List (Option Object)) (opts : Opts) (result : Result Built LinkFault) (p : Prepared) (made : List Made) → AreParts flows kept opts (parts_with p made)
    → IfOk result (λ built. (built.database.functions ≡ p.analysed.database.functions) × (built.made.items ≡ made)) → OnOk result (AreLinked (objects_of made) opts.stack)
    → IfOk result (λ built. Completes flows kept opts (Ok (parts_of built)))
completed flows kept opts (Err fault) p made are same accepted = tt
completed flows kept opts (Ok built) p made are same accepted =
    subst (λ (d : DirectivesList). Completes flows kept opts (Ok (record { database = d; objects = objects_of built.made.items; fresh = marks_of built.made.items }))) (sym same.0)
    (subst (λ (ms : List Made). Completes flows kept opts (Ok (record { database = p.analysed.database.functions; objects = objects_of ms; fresh = marks_of ms }))) (sym same.1) (are, accepted))
