-- Casts keep their promise where their operands do (C90 6.3.4).
use Rattle.std.proofs.Common.{◌≡◌, ℕ, zero, suc, ◌&&◌, ◌==◌, Bool, true, false, not, if◌then◌else◌, Option, Some, None, List, [], refl, ap, sym, ◌∙◌, subst, arith}
use Rattle.std.proofs.lemmas.Option.{same_Some}
use Rattle.pw_value.specs.declared.value.Value.{Value}
use Rattle.pw_value.specs.declared.value.Value.TheVariants as V
use Rattle.pw_types.specs.Conversions.{size_of_kind, converted}
use Rattle.pw_types.specs.TypeTrees.{CType, Void, Int, Pointer, Array, Function, Record, QType, type_of}
use Rattle.pw_types.specs.declared.kind.IntKind.{IntKind}
use Rattle.pw_types.specs.TypedTrees.{Expression, Node, Cast}
use Rattle.pw_types.specs.WellTyped.{IsTyped, HasForm, FitsCast, type_in}
use Rattle.pw_flow.specs.declared.flow.Op.TheVariants as op
use Rattle.pw_flow.specs.declared.flow.ExtKind.{ExtKind}
use Rattle.pw_lower.specs.declared.code.Code.{Code}
use Rattle.pw_value.specs.declared.value.Kind.{Kind}
use Rattle.pw_lower.specs.Codes.{Lowered, lowered_as, temp_of}
use Rattle.pw_lower.specs.Expressions.{lower, is_void, cast_to}
use Rattle.pw_lower.specs.Operators.{kind_of, kind_of_int, extension}
use Rattle.pw_lower.specs.Operators as lowering
use Rattle.pw_cmean.specs.Undefined.{lesser}
use Rattle.pw_cmean.specs.declared.undefined.Undef.TheVariants as U
use Rattle.pw_cmean.specs.Acts.{State, Site, give, stop, wrong, undefined, told, judge, need, ◌>>=◌, go_on}
use Rattle.pw_cmean.specs.Operators.{is_piece, convert}
use Rattle.pw_cmean.specs.Evaluation.{site, used, cast, answer_of}
use Rattle.pw_cmean.specs.SourceRun.{calls}
use Rattle.pw_cmean.specs.Typed.{IsResultOf}
use Rattle.pw_law_source.specs.FromRunLanguages.Commands as commands
use Rattle.pw_law_source.specs.FromRunLanguages.Commands.{command}
use Rattle.pw_law_source.specs.FromRunLanguages.Values as flow
use Rattle.pw_law_source.specs.FromRunLanguages.FlowRun.{Machine, value_in, obeys, steps}
use Rattle.pw_law_refine.specs.Standing.{Spot, Stands}
use Rattle.pw_law_refine.specs.Activations.{Activation, Numbers, graphs, graph_of, home_of, env_of}
use Rattle.pw_law_refine.specs.Containing.{ContainsCode}
use Rattle.pw_law_refine.specs.Meeting.{Reaches, Meets}
use Rattle.pw_law_refine.specs.Expressions.{assigned_in, IsReady, HasValue, HasResult, ExpressionKeeps}
use Rattle.pw_law_refine_steps.specs.Operations.{extended_by}
use Rattle.pw_law_refine_steps.proofs.Simulation.{meets-then, shown-here}
use Rattle.pw_law_refine_steps.proofs.Forms.{CodeLaws, before-fresh, fresh-reaches, done-then, ready-then}
use Rattle.pw_law_refine_steps.proofs.Unary.{TypesHold, meets-typed, operand-stands}
use Rattle.pw_law_refine_steps.proofs.Conversions.{conversions, size-one, stays}

-- ---- an extension, or none

-- what an operand's code with an extension contains without it
before-extended : (x : Activation) (k : Option ExtKind) (t : ℕ) (d : Code) → ContainsCode (graph_of x) (lowering.extended k t d).code → ContainsCode (graph_of x) d
before-extended x None t d w = w
before-extended x (Some k) t d w = before-fresh (graph_of x) (lowering.extending k t) d w

-- behind an operand, an extension gives what it makes of the temporary's value
extends :
    (x : Activation) (numbers : Numbers) (spots : List Spot) (a : Expression) (c : Code) (s u : State) (m n : Machine) (k : Option ExtKind) (r : Option Value) (v w y : Value)
    → CodeLaws → IsReady x numbers spots c s m → (h : HasResult x numbers spots a c s m r u n)
    → ContainsCode (graph_of x) (lowering.extended k (temp_of (lower (home_of x) a c)) (lower (home_of x) a c).code).code
    → value_in n.frame (temp_of (lower (home_of x) a c)) ≡ w → extended_by k w ≡ Some y → Stands h.done.later.spots v y
    → Reaches (graphs x.world) n (HasValue x numbers spots (assigned_in a) (lowering.extended k (temp_of (lower (home_of x) a c)) (lower (home_of x) a c).code) c s m (Some v) u)
unfolding command done-then steps
extends x numbers spots a c s u m n None r v w y laws ready h holds is gives stands = record {
  count = 0;
  machine = n;
  comes = refl;
  holds = record {
    done = h.done;
    behind = h.behind;
    stands = subst (λ (z : Value). Stands h.done.later.spots v z) (sym (is ∙ same_Some w y gives)) stands;
  };
}
extends x numbers spots a c s u m n (Some k) r v w y laws ready h holds is gives stands =
    let d = lower (home_of x) a c in
    let f = fresh-reaches x numbers h.done.later.spots [] d.code u n (lowering.extending k (temp_of d)) v y holds
    (ready-then x numbers spots a c s u m n r laws ready h) stands
    (λ rest. ap (λ (z : Option Value). obeys (graphs x.world) (commands.give d.code.temps z) (record n { frame = record n.frame { ops = rest } })) (ap (λ (z : Value). flow.extension k z) is ∙ gives)) in
    record {
      count = f.count;
      machine = f.machine;
      comes = f.comes;
      holds = record {
        done = done-then x numbers spots (assigned_in a) [] (assigned_in a) c d.code s u u m n f.machine ready.related (laws.later (home_of x) a c).temps
            (λ i there. there) (λ i there. absurd (omega (arith, there.1))) h.done f.holds.done;
        behind = f.holds.behind;
        stands = f.holds.stands;
      };
    }

-- ---- by the types

-- what is known behind the operand of a cast from one type to another
abbrev Behind : Activation → Numbers → List Spot → Expression → Code → State → Machine → CType → Option Value → State → Machine → Type 0
Behind x numbers spots a c s m from r u n = HasResult x numbers spots a c s m r u n × IsResultOf from r

-- to an integer type, by the operand's value
to_integer :
    (bound : ℕ) (x : Activation) (numbers : Numbers) (spots : List Spot) (a : Expression) (c : Code) (s u : State) (m n : Machine) (at : Site) (from to : IntKind) (v : Value)
    → CodeLaws → IsReady x numbers spots c s m
    → ContainsCode (graph_of x) (lowering.extended (extension (kind_of_int from) (kind_of_int to)) (temp_of (lower (home_of x) a c)) (lower (home_of x) a c).code).code
    → Behind x numbers spots a c s m (Int from) (Some v) u n → (is_piece v && not (size_of_kind to == 1)) ≡ false
    → Reaches (graphs x.world) n (HasValue x numbers spots (assigned_in a) (lowering.extended (extension (kind_of_int from) (kind_of_int to)) (temp_of (lower (home_of x) a c)) (lower (home_of x) a c).code) c s m (Some (converted v to)) u)
to_integer bound x numbers spots a c s u m n at from to (V.Num k) laws ready holds q fits =
    extends x numbers spots a c s u m n (extension (kind_of_int from) (kind_of_int to)) (Some (V.Num k)) (converted (V.Num k) to) (V.Num k) (converted (V.Num k) to)
    laws ready q.0 holds (operand-stands q.0.done.later.spots (V.Num k) (lower (home_of x) a c).temp n q.0.stands) (conversions from to (V.Num k) q.1 fits) refl
to_integer bound x numbers spots a c s u m n at from to (V.Piece p i) laws ready holds q fits =
    let st = operand-stands q.0.done.later.spots (V.Piece p i) (lower (home_of x) a c).temp n q.0.stands in
    let one = size-one to fits in
    extends x numbers spots a c s u m n (extension (kind_of_int from) (kind_of_int to)) (Some (V.Piece p i)) (converted (V.Piece p i) to) (V.Piece st.0 i) (V.Piece st.0 i)
    laws ready q.0 holds st.2 (conversions from to (V.Piece st.0 i) q.1 fits ∙ ap Some (stays to st.0 i one))
    (subst (λ (z : Value). Stands q.0.done.later.spots z (V.Piece st.0 i)) (sym (stays to p i one)) (st.0, st.1, refl))
to_integer bound x numbers spots a c s u m n at from to V.Undefined laws ready holds q fits = absurd q.1
to_integer bound x numbers spots a c s u m n at from to V.Null laws ready holds q fits = absurd q.1
to_integer bound x numbers spots a c s u m n at from to (V.At p) laws ready holds q fits = absurd q.1

-- to a pointer type: a temporary holds null as the number 0 holds it
to_pointer :
    (bound : ℕ) (x : Activation) (numbers : Numbers) (spots : List Spot) (a : Expression) (c : Code) (s u : State) (m n : Machine) (at : Site) (to : QType) (v : Value)
    → HasResult x numbers spots a c s m (Some v) u n
    → Meets x.world bound n ((convert at (Pointer to) v >>= λ w. give (Some w)) u) (HasValue x numbers spots (assigned_in a) (lowering.extended None (temp_of (lower (home_of x) a c)) (lower (home_of x) a c).code) c s m)
unfolding convert need give wrong stop ◌>>=◌ go_on steps
to_pointer bound x numbers spots a c s u m n at to (V.Num zero) q = record {
  count = 0;
  machine = n;
  comes = refl;
  holds = record { done = q.done; behind = q.behind; stands = operand-stands q.done.later.spots (V.Num zero) (lower (home_of x) a c).temp n q.stands };
}
to_pointer bound x numbers spots a c s u m n at to V.Null q = record {
  count = 0;
  machine = n;
  comes = refl;
  holds = record { done = q.done; behind = q.behind; stands = operand-stands q.done.later.spots V.Null (lower (home_of x) a c).temp n q.stands };
}
to_pointer bound x numbers spots a c s u m n at to (V.At p) q = record {
  count = 0;
  machine = n;
  comes = refl;
  holds = record { done = q.done; behind = q.behind; stands = operand-stands q.done.later.spots (V.At p) (lower (home_of x) a c).temp n q.stands };
}
to_pointer bound x numbers spots a c s u m n at to (V.Num (suc k)) q = tt
to_pointer bound x numbers spots a c s u m n at to V.Undefined q = tt
to_pointer bound x numbers spots a c s u m n at to (V.Piece p i) q = tt

casts :
    (bound : ℕ) (x : Activation) (numbers : Numbers) (spots : List Spot) (a : Expression) (c : Code) (s u : State) (m n : Machine) (at : Site) (from to : CType) (r : Option Value)
    → CodeLaws → IsReady x numbers spots c s m → ContainsCode (graph_of x) (cast_to to from (lower (home_of x) a c)).code → FitsCast from to
    → Behind x numbers spots a c s m from r u n
    → Meets x.world bound n (cast at to r u) (HasValue x numbers spots (assigned_in a) (cast_to to from (lower (home_of x) a c)) c s m)
unfolding cast used give undefined stop told judge convert ◌>>=◌ go_on steps
casts bound x numbers spots a c s u m n at from Void r laws ready holds fits q = record {
  count = 0;
  machine = n;
  comes = refl;
  holds = record { done = q.0.done; behind = q.0.behind; stands = tt };
}
casts bound x numbers spots a c s u m n at from (Int to) None laws ready holds fits q = shown-here x.world n u q.0.done.later.related.matches.shows
casts bound x numbers spots a c s u m n at from (Pointer to) None laws ready holds fits q = shown-here x.world n u q.0.done.later.related.matches.shows
casts bound x numbers spots a c s u m n at (Int from) (Int to) (Some v) laws ready holds fits q =
    by_test (is_piece v && not (size_of_kind to == 1)) refl
  where
    by_test : (b : Bool) → (is_piece v && not (size_of_kind to == 1)) ≡ b
        → Meets x.world bound n (((told at (if b then Some (lesser U.PointerBytes None) else None) >>= λ done. give (converted v to)) >>= λ w. give (Some w)) u)
        (HasValue x numbers spots (assigned_in a) (cast_to (Int to) (Int from) (lower (home_of x) a c)) c s m)
    by_test true e = shown-here x.world n u q.0.done.later.related.matches.shows
    by_test false e = to_integer bound x numbers spots a c s u m n at from to v laws ready holds q e
casts bound x numbers spots a c s u m n at (Int from) (Pointer to) (Some v) laws ready holds fits q =
    to_pointer bound x numbers spots a c s u m n at to v q.0
casts bound x numbers spots a c s u m n at (Pointer from) (Pointer to) (Some v) laws ready holds fits q =
    to_pointer bound x numbers spots a c s u m n at to v q.0
casts bound x numbers spots a c s u m n at Void (Int to) (Some v) laws ready holds fits q = absurd fits
casts bound x numbers spots a c s u m n at (Pointer p) (Int to) (Some v) laws ready holds fits q = absurd fits
casts bound x numbers spots a c s u m n at (Array e k) (Int to) (Some v) laws ready holds fits q = absurd fits
casts bound x numbers spots a c s u m n at (Function f ps) (Int to) (Some v) laws ready holds fits q = absurd fits
casts bound x numbers spots a c s u m n at (Record k) (Int to) (Some v) laws ready holds fits q = absurd fits
casts bound x numbers spots a c s u m n at Void (Pointer to) (Some v) laws ready holds fits q = absurd fits
casts bound x numbers spots a c s u m n at (Array e k) (Pointer to) (Some v) laws ready holds fits q = absurd fits
casts bound x numbers spots a c s u m n at (Function f ps) (Pointer to) (Some v) laws ready holds fits q = absurd fits
casts bound x numbers spots a c s u m n at (Record k) (Pointer to) (Some v) laws ready holds fits q = absurd fits
casts bound x numbers spots a c s u m n at from (Array e k) r laws ready holds fits q = absurd fits
casts bound x numbers spots a c s u m n at from (Function f ps) r laws ready holds fits q = absurd fits
casts bound x numbers spots a c s u m n at from (Record k) r laws ready holds fits q = absurd fits

-- ---- the form

-- what the code of a cast contains
before-converted : (x : Activation) (from to : Option Kind) (d : Lowered) → ContainsCode (graph_of x) (lowering.converted from to d).code → ContainsCode (graph_of x) d.code
before-converted x None to d w = w
before-converted x (Some k) None d w = w
before-converted x (Some k) (Some l) d w = before-extended x (extension k l) (temp_of d) d.code w

before-cast : (x : Activation) (v : Bool) (from to : Option Kind) (d : Lowered) → ContainsCode (graph_of x) (if v then lowered_as None d.code else lowering.converted from to d).code → ContainsCode (graph_of x) d.code
before-cast x true from to d w = w
before-cast x false from to d w = before-converted x from to d w

pub cast-keeps : (bound t : ℕ) (ty : QType) (a : Expression) → CodeLaws → TypesHold bound → ExpressionKeeps bound a → ExpressionKeeps bound (Node t ty (Cast a))
unfolding lower answer_of ◌>>=◌ IsTyped HasForm
cast-keeps bound t ty a laws types keeps = λ x numbers spots c s m active typed slots holds ready.
    let answer = answer_of a (calls x.world bound) (env_of x numbers) s in
    meets-then x.world bound m answer (cast (site (env_of x numbers) t) (type_of ty)) _ (HasResult x numbers spots (Node t ty (Cast a)) c s m)
    (meets-typed x.world bound m (IsResultOf (type_in a)) answer (HasResult x numbers spots a c s m)
    (keeps x numbers spots c s m active typed.1.0 slots (before-cast x (is_void (type_of ty)) (kind_of (type_in a)) (kind_of (type_of ty)) (lower (home_of x) a c) holds) ready)
    (types a (env_of x numbers) s active.world.program.accepted.typed active.home typed.1.0 ready.related.matches.bytes))
    (λ r u n q. casts bound x numbers spots a c s u m n (site (env_of x numbers) t) (type_in a) (type_of ty) r laws ready holds typed.1.1 q)
