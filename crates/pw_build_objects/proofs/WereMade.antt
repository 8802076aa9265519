-- Each object of a program was made of a flow graph and directives: what was kept was, and so is what is new.
use Rattle.std.proofs.Common.{Bool, true, false, List, [], ◌∷◌, Option}
use Rattle.std.specs.List.{AllByRecursion}
use Rattle.pw_flow.specs.declared.flow.FlowModule.{FlowModule}
use Rattle.pw_object.specs.declared.object.Object.{Object}
use Rattle.pw_build_objects.specs.Programs.{AreObjectsFrom, DirectivesList, IsObjectFrom, WasMade, first_kept, kept_behind}

one_made : (flow : FlowModule) (ds : DirectivesList) (old : Option Object) (o : Object) (fresh : Bool) → IsObjectFrom flow ds old o fresh → WasMade o
one_made flow ds old o true h = record { flow = flow; directives = ds; of = record { flow_file = h.1.flow_file; payload = h.1.payload } }
one_made flow ds old o false h = record { flow = flow; directives = ds; of = h.1 }

pub were_made : (db : DirectivesList) (flows : List FlowModule) (kept : List (Option Object)) (os : List Object) (marks : List Bool) → AreObjectsFrom db flows kept os marks → AllByRecursion WasMade os
were_made db [] kept [] [] h = tt
were_made db [] kept [] (fresh ∷ more) h = absurd h
were_made db [] kept (o ∷ os) more h = absurd h
were_made db (flow ∷ flows) kept [] more h = absurd h
were_made db (flow ∷ flows) kept (o ∷ os) [] h = absurd h
were_made db (flow ∷ flows) kept (o ∷ os) (fresh ∷ more) h =
    (one_made flow h.0.directives (first_kept kept) o fresh h.0.object, were_made db flows (kept_behind kept) os more h.1)
