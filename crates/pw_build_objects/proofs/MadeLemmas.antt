-- Whether an object was made of a flow graph under directives, by the origin that stands in it.
use Rattle.std.proofs.Common.{◌≡◌, ℕ, true, false, List, Option, Some, None, sym, ◌∙◌, subst, ap}
use Rattle.pw_flow.specs.declared.flow.FlowModule.{FlowModule}
use Rattle.pw_flowfile.specs.FlowFile.{IsFlowFile}
use Rattle.pw_db.specs.Database.{IsStored}
use Rattle.pw_db_file.specs.Spelling.{IsPayload}
use Rattle.pw_object.specs.declared.object.Object.{Object}
use Rattle.pw_phase_two.specs.declared.origin.Origin.{Origin}
use Rattle.pw_phase_two.specs.Origins.{IsOriginOf}
use Rattle.pw_phase_two.specs.Phases.{IsObjectOf, IsPayloadOf}
use Rattle.pw_build_objects.specs.Choosing.{HasOrigin, IsKept}
use Rattle.pw_build_objects.specs.Programs.{DirectivesList, IsMadeOf, IsObjectFrom, Stays}

abbrev pub OneFile : Type 0
OneFile = (bytes others : List ℕ) (m : FlowModule) → IsFlowFile bytes m → IsFlowFile others m → bytes ≡ others

abbrev pub OnePayload : Type 0
OnePayload = (fs s t : DirectivesList) (bytes others : List ℕ) → IsStored fs s → IsStored fs t → IsPayload bytes s → IsPayload others t → bytes ≡ others

-- an object in which the origin stands was made of that flow graph under those directives
made_by : (flow : FlowModule) (ds : DirectivesList) (origin : Origin) (o : Object) → IsOriginOf flow ds origin → HasOrigin origin o → IsMadeOf flow ds o
made_by flow ds origin o is h = record {
  flow_file = subst (λ (x : List ℕ). IsFlowFile x flow) (sym h.0) is.flow_file;
  payload = subst (λ (x : List ℕ). IsPayloadOf x ds) (sym h.1) is.payload;
}

-- and in each that was made of them it stands
stands_in : OneFile → OnePayload → (flow : FlowModule) (ds : DirectivesList) (origin : Origin) (o : Object) → IsOriginOf flow ds origin → IsMadeOf flow ds o → HasOrigin origin o
stands_in file payload flow ds origin o is m = (
  file o.flow origin.flow.items flow m.flow_file is.flow_file,
  payload ds m.payload.0 is.payload.0 o.directives origin.directives.items m.payload.1 is.payload.1 m.payload.2 is.payload.2,
)

some_is_none : (o : Object) → ◌≡◌ {A = Option Object} (Some o) None → ⊥
some_is_none o e = cc

-- what was kept stays
pub kept_is : (flow : FlowModule) (ds : DirectivesList) (origin : Origin) (old : Option Object) (o : Object) → IsOriginOf flow ds origin → IsKept origin old (Some o) → IsObjectFrom flow ds old o false
kept_is flow ds origin None o is h = absurd (some_is_none o h)
kept_is flow ds origin (Some kept) o is h = (ap (λ (x : Object). Some x) (sym h.0), subst (IsMadeOf flow ds) (sym h.0) (made_by flow ds origin kept is h.1))

no_stay : OneFile → OnePayload → (flow : FlowModule) (ds : DirectivesList) (origin : Origin) (old : Option Object) → IsOriginOf flow ds origin → IsKept origin old None → ¬ Stays flow ds old
no_stay file payload flow ds origin None is h = λ s. s
no_stay file payload flow ds origin (Some kept) is h = λ s. h (stands_in file payload flow ds origin kept is s)

-- or it does not, and the object is a new one
pub anew_is : OneFile → OnePayload → (flow : FlowModule) (ds : DirectivesList) (origin : Origin) (old : Option Object) (o : Object) → IsOriginOf flow ds origin → IsKept origin old None → IsObjectOf flow ds o → IsObjectFrom flow ds old o true
anew_is file payload flow ds origin old o is h made = (no_stay file payload flow ds origin old is h, made)
