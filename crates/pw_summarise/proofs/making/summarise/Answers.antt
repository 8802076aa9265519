use Rattle.std.proofs.Common.{ℕ, Bor, All, List, map, refl, sym, subst}
use Rattle.pw_flow.specs.declared.flow.FlowFn.{FlowFn}
use Rattle.pw_flow.specs.ValidFlow.{AreDistinct, IsFunction}
use Rattle.pw_summary.specs.declared.summary.Summary.{Summary}
use Rattle.pw_summary.specs.Summary.{summary_version}
use Rattle.pw_files.specs.Rising.{IsRising}
use Rattle.pw_flow.specs.FlowGraph.{named_in}
use Rattle.pw_summarise.specs.Summarises.{IsOrdered, Summarises}
use Rattle.pw_summarise.proofs.LawfulLaws.{lawful, versioned}
use Rattle.pw_summarise.proofs.MakingLaws.{functions_differ, each_lawful, entries_ordered, summarised}
use Rattle.pw_summarise.proofs.making.summarise.Goals as goal

pub sorted_functions-requires : goal.sorted_functions-requires
sorted_functions-requires c = subst (λ (fs : List FlowFn). AreDistinct (map (λ f. f.name) fs)) (sym c.as_slice.ensures) (functions_differ c.args.flow.now c.requires)

pub used_of-requires-clause-functions : goal.used_of-requires-clause-functions
used_of-requires-clause-functions c =
    rw (c.in_ok-defined.ensures.functions, c.deref.ensures.value) (entries_ordered c.as_slice.result.now c.in_ok-sorted.sorted.items c.in_ok-sorted.ensures).rising

pub used_of-requires-clause-declared : goal.used_of-requires-clause-declared
used_of-requires-clause-declared c =
    subst (λ (ds : List (List ℕ × List ℕ)). IsRising (map (λ e. e.0) ds)) (sym c.in_ok-defined.ensures.declared) c.in_ok-interface.ensures.declared.rising

pub used_of-requires-clause-lawful : goal.used_of-requires-clause-lawful
used_of-requires-clause-lawful c =
    subst (λ (fs : List (Bor FlowFn)). All (λ f. IsFunction f.now) fs) (sym c.deref-2.ensures.value) (each_lawful c.args.flow.now c.in_ok-sorted.sorted.items c.requires (rw c.as_slice.ensures at c.in_ok-sorted.ensures))

pub returns : goal.returns
returns c =
    let m = c.args.flow.now in
    let d = c.in_ok-defined.defined in
    let u = c.in_ok-used.used in
    let from = c.in_ok-used.ensures.addresses in
    let made : Summary = record {
      version = summary_version;
      «module» = c.in_ok-name.name;
      globals = d.globals;
      functions = d.functions;
      declared = d.declared;
      used = u.used;
      taken = u.taken;
      escaped = u.escaped;
      uses = u.uses;
    } in
    let is : Summarises m made = summarised m c.in_ok-sorted.sorted.items from.0 u.uses made (record {
      version = refl;
      of_module = c.in_ok-name.ensures;
      globals = c.in_ok-defined.ensures.globals;
      in_order = rw c.as_slice.ensures at c.in_ok-sorted.ensures;
      functions = rw c.deref.ensures.value at c.in_ok-defined.ensures.functions;
      declared = subst (λ (ds : List (List ℕ × List ℕ)). IsOrdered (λ e. e.0) m.declared ds) (sym c.in_ok-defined.ensures.declared) c.in_ok-interface.ensures.declared;
      addressed = from.1;
      used = subst (λ (ns : List (List ℕ)). IsOrdered (λ name. name) (named_in m) ns) (sym c.in_ok-used.ensures.used) c.in_ok-interface.ensures.used;
      taken = from.2;
      escaped = from.3;
      zip = rw c.deref-2.ensures.value at c.in_ok-used.ensures.uses;
      uses = refl;
    }) in
    rw c.summary_of.ensures (record { summarises = is; lawful = lawful m made c.requires is; versioned = versioned made refl (lawful m made c.requires is) })
