-- One piece of code behind another, and operands whose values stay where they are.
use Rattle.std.proofs.Common.{◌≡◌, ℕ, ◌<◌, ◌≤◌, Option, Some, None, unwrap_or, List, [], ◌∷◌, length, append-nil, Contains, refl, ap, sym, ◌∙◌, subst, arith, append_assoc}
use Rattle.std.proofs.lemmas.List.{get_or_past, get_or-set_same, get_or-set_other}
use Rattle.std.proofs.lemmas.List.Elements.{Contains-append_left, Contains-push}
use Rattle.pw_value.specs.Objects.{Object, no_object, object_at}
use Rattle.pw_value.specs.declared.value.Value.{Value}
use Rattle.pw_value.specs.declared.value.Value.TheVariants as V
use Rattle.pw_types.specs.TypedTrees.{Expression}
use Rattle.pw_types.specs.WellTyped.{IsTyped, type_in}
use Rattle.pw_flow.specs.declared.flow.FlowFn.{FlowFn}
use Rattle.pw_flow.specs.declared.flow.Op.{Op}
use Rattle.pw_flow.specs.declared.flow.End.{End}
use Rattle.pw_lower.specs.declared.code.Code.{Code}
use Rattle.pw_lower.specs.Codes.{Lowered, emit, fresh, value_is, cut, reserve, reserve_temps}
use Rattle.pw_lower.specs.Expressions.{lower}
use Rattle.pw_cmean.specs.Acts.{State, Site, ◌>>=◌, give, stop, undefined}
use Rattle.pw_cmean.specs.Evaluation.{used, answer_of}
use Rattle.pw_cmean.specs.SourceRun.{calls}
use Rattle.pw_cmean.specs.Typed.{IsValueOf, IsResultOf, HoldsBytes}
use Rattle.pw_run_languages.specs.Commands.{command}
use Rattle.pw_run_languages.specs.FlowRun.{Machine, On, value_in, obeys, steps}
use Rattle.pw_law_refine.specs.Standing.{Spot, Stands}
use Rattle.pw_law_refine.specs.Activations.{Activation, IsActivation, Numbers, graphs, graph_of, home_of, env_of, local_temps}
use Rattle.pw_law_refine.specs.Matching.{Related, Lasts}
use Rattle.pw_law_refine.specs.Containing.{ContainsCode}
use Rattle.pw_run_languages.specs.Programs.{block_at}
use Rattle.pw_law_refine.specs.Meeting.{Reaches, Meets}
use Rattle.pw_law_refine.specs.Expressions.{assigned_in, IsReady, IsDone, HasValue, HasResult, ResultStands}
use Rattle.pw_law_refine_steps.specs.Stretches.{moved_on, Next}
use Rattle.pw_law_refine_forms.proofs.Laws.{Laws}
use Rattle.pw_law_refine_forms.proofs.Simulation.{meets-then, meets-typed, shown-here}

-- ---- code

-- what contains the code with an operation more contains it without
pub before-emit : (g : FlowFn) (o : Op) (c : Code) → ContainsCode g (emit o c) → ContainsCode g c
before-emit g o c w = record {
  closed = w.closed;
  filled = record {
    block = w.filled.block;
    rest = o ∷ w.filled.rest;
    there = w.filled.there;
    ops = w.filled.ops ∙ append_assoc c.ops (o ∷ []) w.filled.rest;
  };
  temps = w.temps;
  blocks = w.blocks;
}

pub before-fresh : (g : FlowFn) (o : ℕ → Op) (c : Code) → ContainsCode g (fresh o c).code → ContainsCode g c
before-fresh g o c w = record {
  closed = w.closed;
  filled = record {
    block = w.filled.block;
    rest = o c.temps ∷ w.filled.rest;
    there = w.filled.there;
    ops = w.filled.ops ∙ append_assoc c.ops (o c.temps ∷ []) w.filled.rest;
  };
  temps = omega (arith, w.temps);
  blocks = w.blocks;
}

-- the machine that the next operation leads to
pub comes-by : Laws → (x : Activation) (c : Code) (o : Op) (m n : Machine) → (k : Next (graph_of x) c o m)
    → obeys (graphs x.world) (command (graphs x.world) m.frame.base o (value_in m.frame)) (record m { frame = record m.frame { ops = k.rest } }) ≡ On n
    → steps (graphs x.world) 1 (On m) ≡ On n
unfolding steps
comes-by laws x c o m n k e = laws.obey x m o k.rest k.ops ∙ e

-- ---- one behind the other

-- what is assigned in either may be among more
unfoldable pub done-then :
    Laws → (x : Activation) (numbers : Numbers) (spots : List Spot) (ks ls all : List ℕ) (c d : Code) (s t u : State) (m n r : Machine)
    → Related x numbers spots s m → c.temps ≤ d.temps
    → ((k : ℕ) → Contains ks k → Contains all k) → ((k : ℕ) → Contains ls k → Contains all k)
    → (f : IsDone x numbers spots ks c s m t n) → IsDone x numbers f.later.spots ls d t n u r
    → IsDone x numbers spots all c s m u r
done-then laws x numbers spots ks ls all c d s t u m n r start more here there f g = record {
  later = record {
    spots = g.later.spots;
    related = g.later.related;
    lasts = laws.lasts numbers spots f.later.spots g.later.spots s t u m n r start.matches.memory.count f.later.related.matches.memory.count f.later.lasts g.later.lasts;
  };
  temps = λ i h not. g.temps i (omega (arith, h, more)) (λ k e. not k (there k e)) ∙ f.temps i h (λ k e. not k (here k e));
}

pub lasts-same : (numbers : Numbers) (spots : List Spot) (s : State) (m n : Machine) → n.objects ≡ m.objects → Lasts numbers spots spots s s m n
lasts-same numbers spots s m n f = record {
  more = ([], sym (append-nil spots));
  unnamed = λ o h there not. refl;
  lives = λ o h. refl;
  ended = λ o h. ap (λ (x : Object). x.live) (get_or_past s.objects o no_object h);
  count = omega (arith, ap (λ (objects : List Object). length objects) f);
  living = λ k h. ap (λ (objects : List Object). (object_at objects k).live) f;
  sizes = λ k h. ap (λ (objects : List Object). length (object_at objects k).bytes) f;
}

-- nothing was done
unfoldable pub nothing-done : (x : Activation) (numbers : Numbers) (spots : List Spot) (assigned : List ℕ) (c : Code) (s : State) (m : Machine)
    → Related x numbers spots s m → IsDone x numbers spots assigned c s m s m
nothing-done x numbers spots assigned c s m related = record {
  later = record { spots = spots; related = related; lasts = lasts-same numbers spots s m m refl };
  temps = λ i h not. refl;
}

-- nothing is in no list
pub none-in : (k : ℕ) (R : Type 0) → Contains [] k → R
none-in k R h = absurd (omega (arith, h.1))

-- a value, behind which another is made of it, and nothing more assigned
pub value-then :
    Laws → (x : Activation) (numbers : Numbers) (spots : List Spot) (ks : List ℕ) (y z : Lowered) (c : Code) (s u w : State) (m n r : Machine) (a b : Option Value)
    → Related x numbers spots s m → c.temps ≤ y.code.temps
    → (h : HasValue x numbers spots ks y c s m a u n) → HasValue x numbers h.done.later.spots [] z y.code u n b w r
    → HasValue x numbers spots ks z c s m b w r
unfolding done-then
value-then laws x numbers spots ks y z c s u w m n r a b start more h g = record {
  done = done-then laws x numbers spots ks [] ks c y.code s u w m n r start more (λ k e. e) (λ k e. none-in k (Contains ks k) e) h.done g.done;
  behind = g.behind;
  stands = g.stands;
}

-- what was done, behind which a value is made
pub value-after :
    Laws → (x : Activation) (numbers : Numbers) (spots : List Spot) (ks ls all : List ℕ) (z : Lowered) (c d : Code) (s u w : State) (m n r : Machine) (result : Option Value)
    → Related x numbers spots s m → c.temps ≤ d.temps
    → ((k : ℕ) → Contains ks k → Contains all k) → ((k : ℕ) → Contains ls k → Contains all k)
    → (f : IsDone x numbers spots ks c s m u n) → HasValue x numbers f.later.spots ls z d u n result w r
    → HasValue x numbers spots all z c s m result w r
unfolding done-then
value-after laws x numbers spots ks ls all z c d s u w m n r result start more here there f g = record {
  done = done-then laws x numbers spots ks ls all c d s u w m n r start more here there f g.done;
  behind = g.behind;
  stands = g.stands;
}

-- behind the code of an expression the machine is ready for what comes next
pub ready-then :
    Laws → (x : Activation) (numbers : Numbers) (spots : List Spot) (a : Expression) (c : Code) (s t : State) (m n : Machine) (result : Option Value)
    → IsReady x numbers spots c s m → (v : HasResult x numbers spots a c s m result t n)
    → IsReady x numbers v.done.later.spots (lower (home_of x) a c).code t n
ready-then laws x numbers spots a c s t m n result ready v = record {
  related = v.done.later.related;
  behind = v.behind;
  temps = omega (arith, ready.temps, (laws.later (home_of x) a c).temps);
}

-- ---- a temporary that was given out before

-- an operation that gives a value to one that no local has
pub puts :
    Laws → (x : Activation) (numbers : Numbers) (spots : List Spot) (assigned : List ℕ) (c d : Code) (s : State) (m : Machine) (o : Op) (t : ℕ) (v w : Value)
    → ContainsCode (graph_of x) (emit o d) → IsReady x numbers spots d s m → c.temps ≤ t → t < d.temps → local_temps x ≤ t → Stands spots v w
    → ((rest : List Op) → obeys (graphs x.world) (command (graphs x.world) m.frame.base o (value_in m.frame)) (record m { frame = record m.frame { ops = rest } }) ≡ On (moved_on rest t w m))
    → Reaches (graphs x.world) m (HasValue x numbers spots assigned (value_is t (emit o d)) c s m (Some v) s)
puts laws x numbers spots assigned c d s m o t v w holds ready since given low st does =
    let nx = laws.next (graph_of x) d o m holds.filled ready.behind in
    let n = moved_on nx.rest t w m in
    record {
      count = 1;
      machine = n;
      comes = comes-by laws x d o m n nx (does nx.rest);
      holds = record {
        done = record {
          later = record {
            spots = spots;
            related = laws.put x numbers spots s m nx.rest t w low ready.related;
            lasts = lasts-same numbers spots s m n refl;
          };
          temps = λ i h not. get_or-set_other m.frame.temps t i w V.Undefined (λ same. omega (arith, same, h, since));
        };
        behind = nx.behind t w;
        stands = subst (λ (u : Value). Stands spots v u) (sym (get_or-set_same m.frame.temps t w V.Undefined (omega (arith, given, holds.temps, ready.related.frame.temps)))) st;
      };
    }

-- ---- a block that is closed

-- the block that was filled stands in the graph with its end
pub ended-there : (g : FlowFn) (e : End) (number depth : ℕ) (c : Code) → ContainsCode g (cut e number depth c)
    → block_at g c.cur ≡ Some (record { depth = c.depth; ops = c.ops; end = e })
ended-there g e number depth c w =
    w.closed (record { number = c.cur; block = record { depth = c.depth; ops = c.ops; end = e } }) (Contains-push c.closed (record { number = c.cur; block = record { depth = c.depth; ops = c.ops; end = e } }))

pub before-cut : (g : FlowFn) (e : End) (number depth : ℕ) (c : Code) → ContainsCode g (cut e number depth c) → ContainsCode g c
before-cut g e number depth c w = record {
  closed = λ b there. w.closed b (Contains-append_left c.closed (record { number = c.cur; block = record { depth = c.depth; ops = c.ops; end = e } } ∷ []) b there);
  filled = record {
    block = record { depth = c.depth; ops = c.ops; end = e };
    rest = [];
    there = ended-there g e number depth c w;
    ops = sym (append-nil c.ops);
  };
  temps = w.temps;
  blocks = w.blocks;
}

-- numbers that are given out change nothing that is contained
pub before-reserve : (g : FlowFn) (blocks temps : ℕ) (c : Code) → ContainsCode g (reserve blocks (reserve_temps temps c)) → ContainsCode g c
before-reserve g blocks temps c w = record {
  closed = w.closed;
  filled = w.filled;
  temps = omega (arith, w.temps);
  blocks = omega (arith, w.blocks);
}

-- ---- operands

-- an operand whose value is used
abbrev pub HasOperand : Activation → Numbers → List Spot → Expression → Code → State → Machine → Value → State → Machine → Type 0
HasOperand x numbers spots a c s m v u n = HasResult x numbers spots a c s m (Some v) u n × IsValueOf (type_in a) v

pub operand :
    Laws → (bound : ℕ) (x : Activation) (numbers : Numbers) (spots : List Spot) (a : Expression) (c : Code) (s : State) (m : Machine) (at : Site)
    → IsActivation x → IsTyped x.home.tree x.function.locals a → HoldsBytes s
    → Meets x.world bound m (answer_of a (calls x.world bound) (env_of x numbers) s) (HasResult x numbers spots a c s m)
    → Meets x.world bound m ((answer_of a (calls x.world bound) (env_of x numbers) >>= used at) s) (HasOperand x numbers spots a c s m)
unfolding ◌>>=◌ used give undefined stop steps
operand laws bound x numbers spots a c s m at active typed bytes meets =
    meets-then laws x.world bound m (answer_of a (calls x.world bound) (env_of x numbers) s) (used at) _ (HasOperand x numbers spots a c s m)
    (meets-typed x.world bound m (IsResultOf (type_in a)) (answer_of a (calls x.world bound) (env_of x numbers) s) (HasResult x numbers spots a c s m) meets
    (laws.types bound a (env_of x numbers) s active.world.program.accepted.typed active.home typed bytes))
    by_result
  where
    by_result : (r : Option Value) (u : State) (n : Machine) → HasResult x numbers spots a c s m r u n × IsResultOf (type_in a) r
        → Meets x.world bound n (used at r u) (HasOperand x numbers spots a c s m)
    by_result None u n q = shown-here x.world n u q.0.done.later.related.matches.shows
    by_result (Some v) u n q = record { count = 0; machine = n; comes = refl; holds = q }

-- the value stands in the operand's temporary
pub operand-stands : (spots : List Spot) (v : Value) (t : Option ℕ) (m : Machine) → ResultStands spots (Some v) t m → Stands spots v (value_in m.frame (unwrap_or t 0))
operand-stands spots v None m h = absurd h
operand-stands spots v (Some t) m h = h

-- behind a second expression, a temporary that was given out since the locals' holds what it held
pub stays :
    Laws → (x : Activation) (numbers : Numbers) (spots : List Spot) (b : Expression) (c : Code) (i : ℕ) (s u : State) (m n : Machine)
    → IsTyped x.home.tree x.function.locals b → local_temps x ≤ i → i < c.temps → IsDone x numbers spots (assigned_in b) c s m u n
    → value_in n.frame i ≡ value_in m.frame i
stays laws x numbers spots b c i s u m n typed low high done = done.temps i high (λ k there e.
    let l = laws.assigned x b typed k there in
    omega (arith, low, laws.below x k i l.0 l.1 e))
