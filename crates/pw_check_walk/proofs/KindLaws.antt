-- Want of memory is no fault of a module.
use Rattle.std.specs.Prelude.{◌≡◌, ◌≢◌, Result, Err}
use Rattle.std.proofs.Common.{arith, ap, sym, ◌∙◌}
use Rattle.pw_check_walk.specs.Causes.{Constraint, kind_of}
use Rattle.pw_check_walk.specs.Walks.{Walk}
use Rattle.pw_check_walk.specs.Answers.{Stops, StopsAtPoint, StopsClosed, AtPoint, AtEnd}
use Rattle.pw_check_walk.specs.declared.constraints.CheckFault.{CheckFault}
use Rattle.pw_check_walk.specs.declared.constraints.CheckKind.{CheckKind}
use Rattle.pw_check_walk.specs.declared.constraints.CheckKind.TheVariants.{NoMemory}

no_kind : (c : Constraint) → kind_of c ≡ NoMemory → ⊥
no_kind Constraint.DeclaredIdentifier e = grind arith
no_kind Constraint.DeclaredTag e = grind arith
no_kind Constraint.DeclaredMember e = grind arith
no_kind Constraint.DeclaredLabel e = grind arith
no_kind Constraint.OneMeaning e = grind arith
no_kind Constraint.OneType e = grind arith
no_kind Constraint.OneLinkage e = grind arith
no_kind Constraint.OneDefinition e = grind arith
no_kind Constraint.OneKindOfTag e = grind arith
no_kind Constraint.OneContent e = grind arith
no_kind Constraint.OneMember e = grind arith
no_kind Constraint.OneLabel e = grind arith
no_kind Constraint.IntegerFits e = grind arith
no_kind Constraint.OneCharacter e = grind arith
no_kind Constraint.EscapeFits e = grind arith
no_kind Constraint.ConstantExpression e = grind arith
no_kind Constraint.PositiveLength e = grind arith
no_kind Constraint.EnumeratorFits e = grind arith
no_kind Constraint.OneCase e = grind arith
no_kind Constraint.ConstantInitialiser e = grind arith
no_kind Constraint.NoFloating e = grind arith
no_kind Constraint.NoWide e = grind arith
no_kind Constraint.NoVariadic e = grind arith
no_kind Constraint.NoBitField e = grind arith
no_kind Constraint.NoOldStyle e = grind arith
no_kind Constraint.NoRecordByValue e = grind arith
no_kind Constraint.NoPointerCast e = grind arith
no_kind (Constraint.Within limit count) e = grind arith
no_kind _ e = grind arith

pub never_memory : {A : Type 0} (w : Walk A) (fault : CheckFault) → Stops w fault → fault.kind ≢ NoMemory
never_memory w fault (AtPoint s) e = no_kind s.told.cause.constraint (sym (ap (λ f. f.kind) s.told.told) ∙ e)
never_memory w fault (AtEnd s) e = no_kind s.constraint (sym (ap (λ f. f.kind) s.told) ∙ e)
