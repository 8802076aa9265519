-- Statements without parts: the empty one, expressions, jumps and returns.
use Rattle.std.proofs.Common.{ℕ, Option, Some, None, List, [], arith}
use Rattle.pw_types.specs.TypedModules.{IsStatement}
use Rattle.pw_types.specs.WellTyped.{IsTyped, type_in}
use Rattle.pw_types.specs.TypedTrees.{Expression, Empty, Evaluate, Goto, Break, Continue, Return, token_of}
use Rattle.pw_flow.specs.declared.flow.End.TheVariants.{Jump, Return as Returning}
use Rattle.pw_flow.specs.declared.flow.FlowFn.{FlowFn}
use Rattle.pw_value.specs.declared.value.Value.{Value}
use Rattle.pw_lower.specs.declared.code.Code.{Code}
use Rattle.pw_lower.specs.Codes.{block_of_label, reserve, leave}
use Rattle.pw_lower.specs.Expressions.{lower}
use Rattle.pw_lower.specs.Statements.{lower_statement}
use Rattle.pw_cmean.specs.Acts.{State, give, undefined, stop, ◌>>=◌}
use Rattle.pw_cmean.specs.Evaluation.{site, used, answer_of}
use Rattle.pw_cmean.specs.Execution.{Entry, Front, At_label, Normal, Breaks, Continues, Returns, Goes, value_of, meaning}
use Rattle.pw_cmean.specs.SourceRun.{calls}
use Rattle.pw_cmean.specs.Typed.{IsValueOf, IsResultOf, HoldsBytes}
use Rattle.pw_run_languages.specs.FlowRun.{Machine, steps}
use Rattle.pw_law_refine.specs.Standing.{Spot}
use Rattle.pw_law_refine.specs.Activations.{Activation, IsActivation, Numbers, graph_of, home_of, env_of}
use Rattle.pw_law_refine.specs.Containing.{ContainsCode, IsBehind}
use Rattle.pw_law_refine.specs.Meeting.{Meets}
use Rattle.pw_law_refine.specs.Expressions.{HasResult, ExpressionsKeep}
use Rattle.pw_law_refine.specs.Statements.{IsMet, IsLeaving, GoesOut, HasLeft, LieBehind, StatementKeeps}
use Rattle.pw_law_refine_stmts.proofs.Laws.{Laws}
use Rattle.pw_law_refine_stmts.proofs.Simulation.{meets-then, meets-typed, meets-here, shown-here}
use Rattle.pw_law_refine_stmts.proofs.Jumps.{before-cut, behind-end, later-same}
use Rattle.pw_law_refine_stmts.proofs.CodeBefore.{before-reserve}
use Rattle.pw_law_refine_stmts.proofs.Names.{none-in}

-- ---- values

-- the value of an expression of a statement, which is not missing
pub valued :
    Laws → (bound : ℕ) (a : Expression) (x : Activation) (numbers : Numbers) (spots : List Spot) (c : Code) (s : State) (m : Machine)
    → Meets x.world bound m (answer_of a (calls x.world bound) (env_of x numbers) s) (HasResult x numbers spots a c s m)
    → Meets x.world bound m (value_of a (calls x.world bound) (env_of x numbers) s) (λ v. HasResult x numbers spots a c s m (Some v))
unfolding value_of used undefined stop give ◌>>=◌ steps
valued laws bound a x numbers spots c s m keeps =
    meets-then laws x.world bound m (answer_of a (calls x.world bound) (env_of x numbers) s) (used (site (env_of x numbers) (token_of a)))
    (HasResult x numbers spots a c s m) (λ v. HasResult x numbers spots a c s m (Some v)) keeps by_result
  where
    by_result : (r : Option Value) (u : State) (n : Machine) → HasResult x numbers spots a c s m r u n
        → Meets x.world bound n (used (site (env_of x numbers) (token_of a)) r u) (λ v. HasResult x numbers spots a c s m (Some v))
    by_result None u n q = shown-here x.world n u q.done.later.related.matches.shows
    by_result (Some v) u n q = meets-here x.world bound n v u (λ w. HasResult x numbers spots a c s m (Some w)) q

-- and of its type
pub typed-value :
    Laws → (bound : ℕ) (a : Expression) (x : Activation) (numbers : Numbers) (spots : List Spot) (c : Code) (s : State) (m : Machine)
    → IsActivation x → IsTyped x.home.tree x.function.locals a → HoldsBytes s
    → Meets x.world bound m (answer_of a (calls x.world bound) (env_of x numbers) s) (HasResult x numbers spots a c s m)
    → Meets x.world bound m (value_of a (calls x.world bound) (env_of x numbers) s) (λ v u n. HasResult x numbers spots a c s m (Some v) u n × IsValueOf (type_in a) v)
unfolding value_of used undefined stop give ◌>>=◌ steps
typed-value laws bound a x numbers spots c s m active typed bytes keeps =
    meets-then laws x.world bound m (answer_of a (calls x.world bound) (env_of x numbers) s) (used (site (env_of x numbers) (token_of a)))
    (λ r u n. HasResult x numbers spots a c s m r u n × IsResultOf (type_in a) r) (λ v u n. HasResult x numbers spots a c s m (Some v) u n × IsValueOf (type_in a) v)
    (meets-typed x.world bound m (IsResultOf (type_in a)) (answer_of a (calls x.world bound) (env_of x numbers) s) (HasResult x numbers spots a c s m) keeps
    (laws.types bound a (env_of x numbers) s active.world.program.accepted.typed active.home typed bytes))
    by_result
  where
    by_result : (r : Option Value) (u : State) (n : Machine) → HasResult x numbers spots a c s m r u n × IsResultOf (type_in a) r → Meets x.world bound n (used (site (env_of x numbers) (token_of a)) r u) (λ v u2 n2. HasResult x numbers spots a c s m (Some v) u2 n2 × IsValueOf (type_in a) v)
    by_result None u n q = shown-here x.world n u q.0.done.later.related.matches.shows
    by_result (Some v) u n q = meets-here x.world bound n v u (λ w u2 n2. HasResult x numbers spots a c s m (Some w) u2 n2 × IsValueOf (type_in a) w) q

-- ---- the statements

-- where there are no labels, a part is met at its front
pub met-front : (g : FlowFn) (cased : List ℕ) (c : Code) (entry : Entry) (m : Machine) → IsMet g [] cased c entry m → IsBehind g c m
met-front g cased c Front m met = met
met-front g cased c (At_label l) m met = none-in l met.0.0

pub empty-keeps : (bound t : ℕ) → StatementKeeps bound (Empty t)
unfolding meaning lower_statement give later-same
empty-keeps bound t = λ x numbers breaks continues from back ways c active set spots entry s m related met.
    meets-here x.world bound m Normal s (HasLeft x numbers spots back ways (GoesOut x back [] c) c s m)
    (record { later = later-same x numbers spots s m related; exit = met-front (graph_of x) [] c entry m met })

pub evaluate-keeps : Laws → (bound t : ℕ) (a : Expression) → ExpressionsKeep bound → StatementKeeps bound (Evaluate t a)
unfolding meaning lower_statement IsStatement give ◌>>=◌
evaluate-keeps laws bound t a keeps = λ x numbers breaks continues from back ways c active set spots entry s m related met.
    let R = HasLeft x numbers spots back ways (GoesOut x back [] c) (lower (home_of x) a c).code s m in
    meets-then laws x.world bound m (answer_of a (calls x.world bound) (env_of x numbers) s) (λ dropped. give Normal) (HasResult x numbers spots a c s m) R
    (keeps a x numbers spots c s m active set.typed set.placed.slots set.placed.code
    (record { related = related; behind = met-front (graph_of x) [] c entry m met; temps = set.placed.temps }))
    (λ r u n q. meets-here x.world bound n Normal u R (record { later = q.done.later; exit = q.behind }))

-- the code that ends with a jump
left-by :
    (x : Activation) (back own cased : List ℕ) (b : ℕ) (c : Code) (m : Machine) → LieBehind back own cased c → ContainsCode (graph_of x) (leave (Jump b) c) → IsBehind (graph_of x) c m → IsLeaving back b m
left-by x back own cased b c m lie code behind =
    let at = behind-end (graph_of x) (Jump b) c.blocks c.depth (reserve 1 c) m code behind in
    record { ops = at.ops; end = at.end; counts = λ w e. lie.here b w (omega (arith, behind.here, e)) }

pub goto-keeps : (bound t l : ℕ) → StatementKeeps bound (Goto t l)
unfolding meaning lower_statement IsStatement give later-same
goto-keeps bound t l = λ x numbers breaks continues from back ways c active set spots entry s m related met.
    meets-here x.world bound m (Goes l) s (HasLeft x numbers spots back ways (GoesOut x back [] c) (leave (Jump (block_of_label c l)) c) s m)
    (record {
      later = later-same x numbers spots s m related;
      exit = record {
        named = set.typed;
        elsewhere = λ w. none-in l w;
        leaving = left-by x back [] [] (block_of_label c l) c m set.placed.behind set.placed.code (met-front (graph_of x) [] c entry m met);
      };
    })

pub break-keeps : (bound t : ℕ) → StatementKeeps bound (Break t)
unfolding meaning lower_statement give later-same
break-keeps bound t = λ x numbers breaks continues from back ways c active set spots entry s m related met.
    meets-here x.world bound m Breaks s (HasLeft x numbers spots back ways (GoesOut x back [] c) (leave (Jump ways.out) c) s m)
    (record {
      later = later-same x numbers spots s m related;
      exit = left-by x back [] [] ways.out c m set.placed.behind set.placed.code (met-front (graph_of x) [] c entry m met);
    })

pub continue-keeps : (bound t : ℕ) → StatementKeeps bound (Continue t)
unfolding meaning lower_statement give later-same
continue-keeps bound t = λ x numbers breaks continues from back ways c active set spots entry s m related met.
    meets-here x.world bound m Continues s (HasLeft x numbers spots back ways (GoesOut x back [] c) (leave (Jump ways.on) c) s m)
    (record {
      later = later-same x numbers spots s m related;
      exit = left-by x back [] [] ways.on c m set.placed.behind set.placed.code (met-front (graph_of x) [] c entry m met);
    })

pub return-keeps : Laws → (bound t : ℕ) (e : Option Expression) → ExpressionsKeep bound → StatementKeeps bound (Return t e)
unfolding meaning lower_statement IsStatement give later-same ◌>>=◌
return-keeps laws bound t None keeps = λ x numbers breaks continues from back ways c active set spots entry s m related met.
    let at = behind-end (graph_of x) (Returning None) c.blocks c.depth (reserve 1 c) m set.placed.code (met-front (graph_of x) [] c entry m met) in
    meets-here x.world bound m (Returns None) s (HasLeft x numbers spots back ways (GoesOut x back [] c) (leave (Returning None) c) s m)
    (record { later = later-same x numbers spots s m related; exit = record { temp = None; ops = at.ops; end = at.end; stands = tt } })
return-keeps laws bound t (Some a) keeps = λ x numbers breaks continues from back ways c active set spots entry s m related met.
    let y = lower (home_of x) a c in
    let R = HasLeft x numbers spots back ways (GoesOut x back [] c) (leave (Returning y.temp) y.code) s m in
    let whole = before-reserve (graph_of x) 1 y.code (before-cut (graph_of x) (Returning y.temp) y.code.blocks y.code.depth (reserve 1 y.code) set.placed.code) in
    meets-then laws x.world bound m (value_of a (calls x.world bound) (env_of x numbers) s) (λ v. give (Returns (Some v))) (λ v. HasResult x numbers spots a c s m (Some v)) R
    (valued laws bound a x numbers spots c s m
    (keeps a x numbers spots c s m active set.typed.0 set.placed.slots whole
    (record { related = related; behind = met-front (graph_of x) [] c entry m met; temps = set.placed.temps })))
    (λ v u n q.
    let at = behind-end (graph_of x) (Returning y.temp) y.code.blocks y.code.depth (reserve 1 y.code) n set.placed.code q.behind in
    meets-here x.world bound n (Returns (Some v)) u R
    (record { later = q.done.later; exit = record { temp = y.temp; ops = at.ops; end = at.end; stands = q.stands } }))
