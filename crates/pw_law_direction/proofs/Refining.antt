-- The directed run does what the flow run does.
use Rattle.std.proofs.Common.{◌≡◌, ◌⊎◌, ℕ, List, [], ◌∷◌, refl, sym, subst, inl, inr}
use Rattle.pw_db.specs.declared.database.Directives.{Directives}
use Rattle.pw_db.specs.Database.{IsDatabase}
use Rattle.pw_flow.specs.declared.flow.Op.{Op}
use Rattle.pw_flow.specs.declared.flow.Op.TheVariants.{Call, CallInd}
use Rattle.pw_flow.specs.declared.flow.End.{End}
use Rattle.pw_flow.specs.declared.flow.End.TheVariants.{Jump, Branch, Return}
use Rattle.pw_db_sound.specs.Sound.{Sound}
use Rattle.pw_run_languages.specs.Programs.{Program}
use Rattle.pw_run_languages.specs.LawfulPrograms.{IsProgram, graph_of}
use Rattle.pw_law_direction.specs.DirectedLaws.{TakenFunctionsAreFine, StartIsNotCalled, DirectionRefines}
use Rattle.pw_law_direction.specs.Pairs.{Pair}
use Rattle.pw_law_direction.specs.Alike.{IsAlike}
use Rattle.pw_law_direction.specs.SideBySide.{StepsFollow, IsCall, StaysInside, StaysInFunction}
use Rattle.pw_law_direction.proofs.Runs.{inside-follows, runs-rest-on-steps}
use Rattle.pw_law_direction.proofs.Calling.{calls-follow}
use Rattle.pw_law_direction.proofs.Returning.{returns-follow}
use Rattle.pw_law_direction.proofs.Starting.{starts-follow}

call-or-not : (o : Op) → IsCall o ⊎ ((ops : List Op) (end : End) → StaysInFunction (o ∷ ops) end)
call-or-not (Call t f args) = inl tt
call-or-not (CallInd t a shape args) = inl tt
call-or-not _ = inr (λ ops end. tt)

end-follows : (p : Program) (d : List (List ℕ × Directives)) (x : Pair) (end : End) → TakenFunctionsAreFine → StartIsNotCalled → IsProgram p → IsDatabase d → Sound (graph_of p) d → IsAlike p d x → x.frame.ops ≡ [] → x.frame.end ≡ end → StepsFollow p d x
end-follows p d x (Return t) fine never lawful is s a e f = returns-follow never p d x t lawful is s a e f
end-follows p d x (Jump b) fine never lawful is s a e f =
    inside-follows fine p d x lawful is s a (subst (λ (l : List Op). StaysInFunction l x.frame.end) (sym e) (subst StaysInside (sym f) tt))
end-follows p d x (Branch t b c) fine never lawful is s a e f =
    inside-follows fine p d x lawful is s a (subst (λ (l : List Op). StaysInFunction l x.frame.end) (sym e) (subst StaysInside (sym f) tt))

step-by : (p : Program) (d : List (List ℕ × Directives)) (x : Pair) (ops : List Op) → TakenFunctionsAreFine → StartIsNotCalled → IsProgram p → IsDatabase d → Sound (graph_of p) d → IsAlike p d x → x.frame.ops ≡ ops → StepsFollow p d x
step-by p d x [] fine never lawful is s a e = end-follows p d x x.frame.end fine never lawful is s a e refl
step-by p d x (o ∷ ops) fine never lawful is s a e = elim (call-or-not o) [
  | inl call ↦ calls-follow never p d x o ops lawful is s a e call
  | inr stays ↦ inside-follows fine p d x lawful is s a (subst (λ (l : List Op). StaysInFunction l x.frame.end) (sym e) (stays ops x.frame.end))
]

pub direction-refines : TakenFunctionsAreFine → StartIsNotCalled → DirectionRefines
direction-refines fine never p d input lawful is s =
    runs-rest-on-steps p d input (starts-follow fine p d input lawful is s) (λ x a. step-by p d x x.frame.ops fine never lawful is s a refl)
