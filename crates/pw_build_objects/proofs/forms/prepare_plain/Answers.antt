use Rattle.std.proofs.Common.{refl}
use Rattle.pw_build_objects.specs.Programs.{HasDatabase}
use Rattle.pw_build_objects.proofs.forms.prepare_plain.Goals as goal

pub returns-clause-prepared : goal.returns-clause-prepared
returns-clause-prepared c =
    let has : HasDatabase c.args.flows.items c.args.colours c.in_ok-analysed.analysed.database.functions = rw c.deref.ensures.value at c.in_ok-analysed.ensures.database in
    record {
      rules = record { summaries = has.summaries; of_flows = has.of_flows; linked = has.linked };
      of_flows = refl;
      lawful = c.requires.lawful;
      summaries = rw c.deref.ensures.value at c.in_ok-analysed.ensures.summaries;
      database = has;
      lawful_database = c.in_ok-analysed.ensures.lawful;
    }
