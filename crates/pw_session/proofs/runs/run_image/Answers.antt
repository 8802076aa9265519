use Rattle.std.proofs.Common.{ap, subst, Bor, List, ℕ, Option}
use Rattle.std.specs.Prelude.{option_map}
use Rattle.pw_session.specs.Outcomes.{KeepsImage}
use Rattle.pw_session.proofs.RunLemmas.{core_is, no_load_fault, run_memory, run_none, run_some}
use Rattle.pw_session.proofs.runs.run_image.Goals as goal

pub returns-in_default-clause-run : goal.returns-in_default-clause-run
returns-in_default-clause-run g c =
    run_none _ c.args.budget c.args.input.now c.print.result (g.O.Sink.taken c.args.out.now) (g.O.Sink.taken c.print.new.out) (ap (λ (o : Option (Bor (List ℕ))). option_map (λ i. i.now) o) c.in_default.is) c.print.ensures.output

pub returns-in-Ok-clause-run : goal.returns-in-Ok-clause-run
returns-in-Ok-clause-run g c =
    run_some _ c.args.budget c.args.input.now c.in-Some.image.now c.in-Ok.machine.core c.run_loaded.result (g.O.Sink.taken c.args.out.now) (g.O.Sink.taken c.run_loaded.new.out) (ap (λ (o : Option (Bor (List ℕ))). option_map (λ i. i.now) o) c.in-Some.is)
    (λ k h. core_is c.in-Ok.machine k.value (c.in-Ok.ensures.only k h)) (c.in-Ok.ensures.found.0, c.in-Ok.ensures.found.1) c.run_loaded.ensures.output

pub returns-in-Err-NoMemory-clause-run : goal.returns-in-Err-NoMemory-clause-run
returns-in-Err-NoMemory-clause-run g c = run_memory _ c.args.budget c.args.input.now (g.O.Sink.taken c.args.out.now)

pub unreachable-requires : goal.unreachable-requires
unreachable-requires g c = absurd
    (no_load_fault c.in-Some.image.now c.in-Err-LoadFault.field-0 c.in-Err-LoadFault.field-0-0 c.in-Err-LoadFault.field-0-is (subst (λ (o : Option (Bor (List ℕ))). KeepsImage (option_map (λ i. i.now) o)) c.in-Some.is c.requires)
    c.in-Err-LoadFault.ensures.only)
