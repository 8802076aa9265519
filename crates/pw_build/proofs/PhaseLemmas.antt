-- The first phases so far, with those of the modules that are left, are those of all modules.
use Rattle.std.proofs.Common.{◌≡◌, ℕ, List, [], ◌∷◌, ◌++◌, Result, Ok, Err, refl, sym, ap, ◌∙◌, subst, append_assoc, append-nil}
use Rattle.std.specs.Prelude.{Option, None}
use Rattle.pw_value.specs.declared.fault.LinkFault.{LinkFault}
use Rattle.pw_front_end.specs.declared.refusal.Refusal.{Refusal}
use Rattle.pw_flow.specs.declared.flow.FlowModule.{FlowModule}
use Rattle.pw_law_main.specs.FromPhaseOne.FirstPhase.{Phase, compiled}
use Rattle.pw_store_modules.specs.Modules.{Source}
use Rattle.pw_build.specs.declared.fault.BuildFault.{BuildFault}
use Rattle.pw_build.specs.declared.fault.BuildFault.TheVariants.{Refused, LinkRefused, StoreFault, NoMemory}
use Rattle.pw_build.specs.Builds.{before_others, flows_of, within}
use Rattle.pw_build.specs.Phases.{FaultsAs, FaultsOfPhase, IsLine, line_by, refused_line}

-- flow graphs that were made, before what the modules that are left come to
abbrev pub behind_made : List FlowModule → Result (List FlowModule) BuildFault → Result (List FlowModule) BuildFault
behind_made made (Ok flows) = Ok (made ++ flows)
behind_made made (Err fault) = Err fault

behind_more : (made : List FlowModule) (name : List ℕ) (flow : FlowModule) (rest : Result (List FlowModule) BuildFault) → behind_made (made ++ flow ∷ []) rest ≡ behind_made made (before_others name (Ok flow) rest)
behind_more made name flow (Ok flows) = ap Ok (append_assoc made (flow ∷ []) flows)
behind_more made name flow (Err fault) = refl

abbrev pub FlowsSoFar : List Source → List Source → List FlowModule → Type 0
FlowsSoFar all left made = behind_made made (flows_of left) ≡ flows_of all

pub flows_start : (all : List Source) → FlowsSoFar all all []
flows_start all = by_rest (flows_of all)
  where
    by_rest : (r : Result (List FlowModule) BuildFault) → behind_made [] r ≡ r
    by_rest (Ok flows) = refl
    by_rest (Err fault) = refl

pub flows_turn : (all left rest : List Source) (source : Source) (made new : List FlowModule) (flow : FlowModule) → FlowsSoFar all left made → left ≡ source ∷ rest → compiled source.0 source.1 ≡ Ok flow → new ≡ made ++ flow ∷ [] → FlowsSoFar all rest new
flows_turn all left rest source made new flow inv e is n =
    ap (λ (xs : List FlowModule). behind_made xs (flows_of rest)) n ∙ behind_more made source.0 flow (flows_of rest)
    ∙ ap (λ (p : Phase). behind_made made (before_others source.0 p (flows_of rest))) (sym is)
    ∙ ap (λ (xs : List Source). behind_made made (flows_of xs)) (sym e) ∙ inv

pub flows_end : (all : List Source) (made : List FlowModule) → FlowsSoFar all [] made → flows_of all ≡ Ok made
flows_end all made inv = sym inv ∙ ap Ok (append-nil made)

-- the module is refused, so all are
refused_all : (all left rest : List Source) (source : Source) (made : List FlowModule) (refusal : Refusal) → FlowsSoFar all left made → left ≡ source ∷ rest → compiled source.0 source.1 ≡ Err refusal → flows_of all ≡ Err (Refused source.0 refusal)
refused_all all left rest source made refusal inv e is =
    sym inv ∙ ap (λ (xs : List Source). behind_made made (flows_of xs)) e
    ∙ ap (λ (p : Phase). behind_made made (before_others source.0 p (flows_of rest))) is

pub fault_all : (all left rest : List Source) (source : Source) (made : List FlowModule) (fault : BuildFault) → FlowsSoFar all left made → left ≡ source ∷ rest → FaultsOfPhase source.0 (compiled source.0 source.1) fault → FaultsAs (flows_of all) fault
fault_all all left rest source made NoMemory inv e h = tt
fault_all all left rest source made StoreFault inv e h = absurd h
fault_all all left rest source made (LinkRefused fault) inv e h = absurd h
fault_all all left rest source made (Refused name refusal) inv e h =
    refused_all all left rest source made refusal inv e h.1 ∙ ap (λ (n : List ℕ). Err (Refused n refusal)) (sym h.0)

-- ---- lines

abbrev pub LineSoFar : List Source → List Source → Type 0
LineSoFar all left = refused_line left ≡ refused_line all

pub line_turn : (all left rest : List Source) (source : Source) (flow : FlowModule) → LineSoFar all left → left ≡ source ∷ rest → compiled source.0 source.1 ≡ Ok flow → LineSoFar all rest
line_turn all left rest source flow inv e is =
    ap (λ (p : Phase). line_by source.1 p (refused_line rest)) (sym is) ∙ ap refused_line (sym e) ∙ inv

line_same : (text : List ℕ) (phase : Phase) (refusal : Refusal) (other more : Option ℕ) → phase ≡ Err refusal → line_by text phase other ≡ line_by text phase more
line_same text phase refusal other more e =
    ap (λ (p : Phase). line_by text p other) e ∙ ap (λ (p : Phase). line_by text p more) (sym e)

pub line_all : (all left rest : List Source) (source : Source) (fault : BuildFault) (line : Option ℕ) → LineSoFar all left → left ≡ source ∷ rest → FaultsOfPhase source.0 (compiled source.0 source.1) fault → IsLine (line_by source.1 (compiled source.0 source.1) None) fault line → IsLine (refused_line all) fault line
line_all all left rest source NoMemory line inv e h k = tt
line_all all left rest source StoreFault line inv e h k = tt
line_all all left rest source (LinkRefused fault) line inv e h k = tt
line_all all left rest source (Refused name refusal) line inv e h k =
    k ∙ line_same source.1 (compiled source.0 source.1) refusal None (refused_line rest) h.1 ∙ ap refused_line (sym e) ∙ inv

-- ---- within the limits

pub faults_within : (limit : Option LinkFault) (sources : List Source) (fault : BuildFault) → limit ≡ None → FaultsAs (flows_of sources) fault → FaultsAs (within limit (flows_of sources)) fault
faults_within limit sources fault e h = subst (λ (l : Option LinkFault). FaultsAs (within l (flows_of sources)) fault) (sym e) h
