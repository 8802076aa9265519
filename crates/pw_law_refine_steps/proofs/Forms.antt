-- Expressions that keep their promise: forms that are made of operations one behind the other, from the promises of
-- their operands.
use Rattle.std.proofs.Common.{◌≡◌, ℕ, ◌<◌, ◌≤◌, Option, Some, List, [], ◌∷◌, ◌++◌, length, Contains, refl, sym, ◌∙◌, subst, arith, append_assoc}
use Rattle.std.proofs.lemmas.List.{get_or-set_same, get_or-set_other}
use Rattle.std.proofs.lemmas.List.Elements.{Contains-append_left, Contains-append_right}
use Rattle.pw_value.specs.declared.value.Value.{Value}
use Rattle.pw_value.specs.declared.value.Value.TheVariants as V
use Rattle.pw_types.specs.TypeTrees.{QType}
use Rattle.pw_types.specs.TypedTrees.{Expression, Node, Number, Comma}
use Rattle.pw_types.specs.WellTyped.{IsTyped, HasForm}
use Rattle.pw_flow.specs.declared.flow.FlowFn.{FlowFn}
use Rattle.pw_flow.specs.declared.flow.Op.{Op}
use Rattle.pw_flow.specs.declared.flow.Op.TheVariants as op
use Rattle.pw_lower.specs.declared.code.Code.{Code}
use Rattle.pw_lower.specs.Codes.{fresh}
use Rattle.pw_lower.specs.Places.{addressed_in}
use Rattle.pw_lower.specs.Expressions.{Home, lower}
use Rattle.pw_law_lower.specs.Kept.{Keeps}
use Rattle.pw_cmean.specs.Acts.{State, give, ◌>>=◌}
use Rattle.pw_cmean.specs.Evaluation.{answer_of}
use Rattle.pw_cmean.specs.SourceRun.{calls}
use Rattle.pw_law_source.specs.FromRunLanguages.Commands.{command}
use Rattle.pw_law_source.specs.FromRunLanguages.FlowRun.{Machine, On, value_in, obeys, steps}
use Rattle.pw_law_refine.specs.Standing.{Spot, Stands}
use Rattle.pw_law_refine.specs.Activations.{Activation, Numbers, graphs, graph_of, home_of, env_of}
use Rattle.pw_law_refine.specs.Matching.{Related}
use Rattle.pw_law_refine.specs.Containing.{ContainsCode}
use Rattle.pw_law_refine.specs.Meeting.{Reaches}
use Rattle.pw_law_refine.specs.Expressions.{assigned_in, IsReady, IsDone, HasValue, HasResult, ExpressionKeeps}
use Rattle.pw_law_refine_steps.proofs.Simulation.{meets-then, meets-less}
use Rattle.pw_law_refine_steps.proofs.Lasting.{lasts-same, lasts-then}
use Rattle.pw_law_refine_steps.specs.Stretches.{moved_on}
use Rattle.pw_law_refine_steps.proofs.Fresh.{related-put, next, steps-op}

-- the laws of code that the forms rest on
pub record CodeLaws : Type 0 where
  pub later : (h : Home) (a : Expression) (c : Code) → Keeps c (lower h a c).code
  pub contain : (g : FlowFn) (h : Home) (a : Expression) (c : Code) → ContainsCode g (lower h a c).code → ContainsCode g c

-- ---- one operation

-- what contains the code with an operation more contains it without
pub before-fresh : (g : FlowFn) (o : ℕ → Op) (c : Code) → ContainsCode g (fresh o c).code → ContainsCode g c
before-fresh g o c w = record {
  closed = w.closed;
  filled = record {
    block = w.filled.block;
    rest = o c.temps ∷ w.filled.rest;
    there = w.filled.there;
    ops = w.filled.ops ∙ append_assoc c.ops (o c.temps ∷ []) w.filled.rest;
  };
  temps = omega (arith, w.temps);
  blocks = w.blocks;
}

-- an operation that at once gives a value to a new temporary
pub fresh-reaches :
    (x : Activation) (numbers : Numbers) (spots : List Spot) (assigned : List ℕ) (c : Code) (s : State) (m : Machine) (o : ℕ → Op) (v w : Value)
    → ContainsCode (graph_of x) (fresh o c).code → IsReady x numbers spots c s m → Stands spots v w
    → ((rest : List Op) → obeys (graphs x.world) (command (graphs x.world) m.frame.base (o c.temps) (value_in m.frame)) (record m { frame = record m.frame { ops = rest } }) ≡ On (moved_on rest c.temps w m))
    → Reaches (graphs x.world) m (HasValue x numbers spots assigned (fresh o c) c s m (Some v) s)
unfolding steps
fresh-reaches x numbers spots assigned c s m o v w holds ready stands does =
    let k = next (graph_of x) c (o c.temps) m holds.filled ready.behind in
    let n = moved_on k.rest c.temps w m in
    let room : c.temps < length m.frame.temps = omega (arith, holds.temps, ready.related.frame.temps) in
    record {
      count = 1;
      machine = n;
      comes = steps-op x m (o c.temps) k.rest k.ops ∙ does k.rest;
      holds = record {
        done = record {
          later = record {
            spots = spots;
            related = related-put x numbers spots s m k.rest c.temps w ready.temps ready.related;
            lasts = lasts-same numbers spots s s m n refl refl;
          };
          temps = λ i h not. get_or-set_other m.frame.temps c.temps i w V.Undefined (λ same. omega (arith, same, h));
        };
        behind = k.behind c.temps w;
        stands = subst (λ (u : Value). Stands spots v u) (sym (get_or-set_same m.frame.temps c.temps w V.Undefined room)) stands;
      };
    }

-- ---- one piece of code behind another

-- what is assigned in either may be among more
unfoldable pub done-then :
    (x : Activation) (numbers : Numbers) (spots : List Spot) (ks ls all : List ℕ) (c d : Code) (s t u : State) (m n r : Machine)
    → Related x numbers spots s m → c.temps ≤ d.temps
    → ((k : ℕ) → Contains ks k → Contains all k) → ((k : ℕ) → Contains ls k → Contains all k)
    → (f : IsDone x numbers spots ks c s m t n) → IsDone x numbers f.later.spots ls d t n u r
    → IsDone x numbers spots all c s m u r
done-then x numbers spots ks ls all c d s t u m n r start more here there f g = record {
  later = record {
    spots = g.later.spots;
    related = g.later.related;
    lasts = lasts-then numbers spots f.later.spots g.later.spots s t u m n r start.matches.memory.count f.later.related.matches.memory.count f.later.lasts g.later.lasts;
  };
  temps = λ i h not. g.temps i (omega (arith, h, more)) (λ k e. not k (there k e)) ∙ f.temps i h (λ k e. not k (here k e));
}

-- behind the code of an expression the machine is ready for what comes next
pub ready-then :
    (x : Activation) (numbers : Numbers) (spots : List Spot) (a : Expression) (c : Code) (s t : State) (m n : Machine) (result : Option Value)
    → CodeLaws → IsReady x numbers spots c s m → (v : HasResult x numbers spots a c s m result t n)
    → IsReady x numbers v.done.later.spots (lower (home_of x) a c).code t n
ready-then x numbers spots a c s t m n result laws ready v = record {
  related = v.done.later.related;
  behind = v.behind;
  temps = omega (arith, ready.temps, (laws.later (home_of x) a c).temps);
}

-- ---- forms

pub number-keeps : (bound t : ℕ) (ty : QType) (k : ℕ) → ExpressionKeeps bound (Node t ty (Number k))
unfolding lower answer_of give command
number-keeps bound t ty k = λ x numbers spots c s m active typed slots holds ready.
    fresh-reaches x numbers spots [] c s m (λ i. op.Const i k) (V.Num k) (V.Num k) holds ready refl (λ rest. refl)

pub comma-keeps : (bound t : ℕ) (ty : QType) (a b : Expression) → CodeLaws → ExpressionKeeps bound a → ExpressionKeeps bound b → ExpressionKeeps bound (Node t ty (Comma a b))
unfolding lower answer_of ◌>>=◌ IsTyped HasForm done-then
comma-keeps bound t ty a b laws first second = λ x numbers spots c s m active typed slots holds ready.
    let h = home_of x in
    let d = (lower h a c).code in
    meets-then x.world bound m (answer_of a (calls x.world bound) (env_of x numbers) s) _ (HasResult x numbers spots a c s m) (HasResult x numbers spots (Node t ty (Comma a b)) c s m)
    (first x numbers spots c s m active typed.1.0 (λ k there. slots k (Contains-append_left (addressed_in a) (addressed_in b) k there))
    (laws.contain (graph_of x) h b d holds) ready)
    (λ result u n v.
    meets-less x.world bound n (answer_of b (calls x.world bound) (env_of x numbers) u) (HasResult x numbers v.done.later.spots b d u n) (HasResult x numbers spots (Node t ty (Comma a b)) c s m)
    (second x numbers v.done.later.spots d u n active typed.1.1 (λ k there. slots k (Contains-append_right (addressed_in a) (addressed_in b) k there)) holds
    (ready-then x numbers spots a c s u m n result laws ready v))
    (λ answer w r e. record {
      done = done-then x numbers spots (assigned_in a) (assigned_in b) (assigned_in a ++ assigned_in b) c d s u w m n r ready.related (laws.later h a c).temps
          (λ k there. Contains-append_left (assigned_in a) (assigned_in b) k there) (λ k there. Contains-append_right (assigned_in a) (assigned_in b) k there) v.done e.done;
      behind = e.behind;
      stands = e.stands;
    }))
