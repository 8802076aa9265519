use Rattle.std.proofs.Common.{ℕ, List, subst, sym}
use Rattle.std.proofs.lemmas.Result.{IfOk-weaker}
use Rattle.pw_flow.specs.FlowGraph.{named_in}
use Rattle.pw_summarise.specs.Summarises.{IsOrdered}
use Rattle.pw_build_objects.proofs.objects.object_under.Goals as goal

pub object_from-requires-clause-declared : goal.object_from-requires-clause-declared
object_from-requires-clause-declared g c = subst (λ (ds : List (List ℕ × List ℕ)). IsOrdered (λ d. d.0) c.args.flow.declared ds) (sym c.interface_in-interface.ensures.declared) c.requires.summary.declared

pub object_from-requires-clause-used : goal.object_from-requires-clause-used
object_from-requires-clause-used g c = subst (λ (ns : List (List ℕ)). IsOrdered (λ name. name) (named_in c.args.flow) ns) (sym c.interface_in-interface.ensures.used) c.requires.summary.used

pub returns-clause-object : goal.returns-clause-object
returns-clause-object g c =
    IfOk-weaker c.object_from.result _ _
    (λ made is. record {
      directives = c.in_ok-directives.directives.items;
      in_database = record { of_module = c.in_ok-directives.ensures.of_module; each = c.in_ok-directives.ensures.directives };
      object = is;
    }) (rw c.deref.ensures.value at c.object_from.ensures.object)
