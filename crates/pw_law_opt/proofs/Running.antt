-- The second run meets every stage of the first.
use Rattle.std.specs.Prelude.{ℕ, zero, suc, ◌≡◌, Option, Some, None, List, [], ◌∷◌, length, slice_get}
use Rattle.std.proofs.Common.{refl, sym, ap, subst, ◌∙◌, arith}
use Rattle.pw_value.specs.Objects.{Object}
use Rattle.pw_value.specs.ProgramNames.{start_name}
use Rattle.pw_flow.specs.declared.flow.Block.{Block}
use Rattle.pw_flow.specs.declared.flow.FlowFn.{FlowFn}
use Rattle.pw_flow.specs.declared.flow.FlowModule.{FlowModule}
use Rattle.pw_run.specs.Runs.{Stage, Met, Refines, AreAlike, none, also, Same}
use Rattle.pw_run_languages.specs.Programs.{Program, function_named, block_at, start_objects}
use Rattle.pw_run_languages.specs.FlowRun.{Machine, Step, On, Astray, Moment, with_slots, start_temps, step, goes_on, steps, start, shown, staged, flow_run}
use Rattle.pw_opt_rules.specs.Rewriting.{with_blocks}
use Rattle.pw_law_opt.specs.Sides.{left, Twin, first_side, second_side, with_modules}
use Rattle.pw_law_opt.specs.Passes.{Pass, IsSound, Follows, Both, goes, stops, strays, Steps, together, alone}
use Rattle.pw_law_opt.proofs.Programs.{Found, nothing, both, named, same_start}
use Rattle.pw_law_opt.proofs.Stepping.{steps_follow}

-- ---- the start

abbrev began : List ℕ → List Object → FlowFn → Block → Machine
began input objects f b = record {
  frame = record {
    function = f;
    block = 0;
    ops = b.ops;
    end = b.end;
    temps = start_temps f [];
    base = length objects;
    result = None;
  };
  callers = [];
  objects = with_slots f.slots objects;
  rest = input;
  read = 0;
  out = [];
  events = 0;
  moments = [];
}

abbrev begins : List ℕ → List Object → FlowFn → Option Block → Step
begins input objects f None = Astray
begins input objects f (Some b) = On (began input objects f b)

abbrev starts : List ℕ → List Object → Option FlowFn → Step
starts input objects (Some f) = begins input objects f (block_at f 0)
starts input objects None = Astray

abbrev at_start : List ℕ → List Object → FlowFn → List Block → Block → Block → Twin
at_start input objects f bs b c = record {
  frame = record {
    function = f;
    blocks = bs;
    block = 0;
    first = left b.ops b.end (start_temps f []);
    second = left c.ops c.end (start_temps f []);
    base = length objects;
    result = None;
  };
  callers = [];
  objects = with_slots f.slots objects;
  rest = input;
  read = 0;
  out = [];
  events = 0;
  moments = [];
}

each_same : (l : List Moment) → AreAlike Same l l
each_same [] = none
each_same (m ∷ l) = also m m l l refl (each_same l)

-- one more step stands at the end as well
pub one_more : (p : Program) (n : ℕ) (s : Step) → goes_on p (steps p n s) ≡ steps p (suc n) s
unfolding steps
one_more p zero s = refl
one_more p (suc n) s = one_more p n (goes_on p s)

module _ (w : Pass) (sound : IsSound w) (p : Program) (ms : List FlowModule) (fine : Follows w p ms) where
  abbrev q : Program
  q = with_modules p ms

  begins_both : (input : List ℕ) (objects : List Object) (f : FlowFn) (bs : List Block) (b : Option Block) → w.pairs f bs → slice_get f.blocks 0 ≡ b
      → Both w (begins input objects f b) (begins input objects (with_blocks f bs) (slice_get bs 0))
  begins_both input objects f bs None pair is = strays refl
  begins_both input objects f bs (Some b) pair is =
      let k = sound.start f bs [] b pair (omega arith) is in
      subst (λ (o : Option Block). Both w (On (began input objects f b)) (begins input objects (with_blocks f bs) o)) (sym k.is)
      (goes (at_start input objects f bs b k.entered) refl refl (record { frame = record { pair = pair; at = k.at_front }; callers = tt }))

  starts_both : (input : List ℕ) (objects : List Object) (f g : Option FlowFn) → Found w f g → Both w (starts input objects f) (starts input objects g)
  starts_both input objects f g nothing = strays refl
  starts_both input objects f g (both fn bs pair) = begins_both input objects fn bs (slice_get fn.blocks 0) pair refl

  start_both : (input : List ℕ) → Both w (start p input) (start q input)
  start_both input =
      subst (λ (objects : List Object). Both w (starts input (start_objects p) (function_named p start_name)) (starts input objects (function_named q start_name))) (sym (same_start w p ms fine))
      (starts_both input (start_objects p) (function_named p start_name) (function_named q start_name) (named w p ms fine start_name))

  -- ---- all steps

  -- the second run comes to a stage beside this one
  record Beside (input : List ℕ) (s : Step) : Type 0 where
    pub count : ℕ
    pub stands : Both w s (steps q count (start q input))

  goes_beside : (input : List ℕ) (s : Step) (k : ℕ) → Both w s (steps q k (start q input)) → Beside input (goes_on p s)
  goes_beside input s k (goes x e f a) = by_step (steps_follow w sound p ms fine x a) where
    next : goes_on p s ≡ step p (first_side x)
    next = ap (goes_on p) e

    by_step : Steps w q x (step p (first_side x)) → Beside input (goes_on p s)
    by_step (together b) = record {
      count = suc k;
      stands = subst (λ (t : Step). Both w (goes_on p s) t) (one_more q k (start q input))
          (subst (λ (t : Step). Both w (goes_on p s) (goes_on q t)) (sym f) (subst (λ (t : Step). Both w t (step q (second_side x))) (sym next) b));
    }
    by_step (alone y e' f' a') = record { count = k; stands = goes y (next ∙ e') (f ∙ ap On (sym f')) a' }
  goes_beside input s k (stops end x e f) = record { count = k; stands = stops end x (ap (goes_on p) e) f }
  goes_beside input s k (strays e) = record { count = k; stands = strays (ap (goes_on p) e) }

  beside : (input : List ℕ) (n : ℕ) → Beside input (steps p n (start p input))
  unfolding steps
  beside input zero = record { count = 0; stands = start_both input }
  beside input (suc n) =
      let b = beside input n in
      subst (Beside input) (one_more p n (start p input)) (goes_beside input (steps p n (start p input)) b.count b.stands)

  met : (s t : Step) (k : ℕ) (run : ℕ → Stage Moment) → run k ≡ staged t → Both w s t → Met Same (staged s) run
  met s t k run e (goes x first second a) = subst (λ (u : Step). Met Same (staged u) run) (sym first) (record {
    at = k;
    view = shown (second_side x);
    is = e ∙ ap staged second;
    same = record { output = refl; read = refl; log = each_same x.moments };
    counted = omega arith;
  })
  met s t k run e (stops end x first second) = subst (λ (u : Step). Met Same (staged u) run) (sym first) (record {
    at = k;
    view = shown (second_side x);
    is = e ∙ ap staged second;
    same = record { output = refl; read = refl; log = each_same x.moments };
    counted = omega arith;
  })
  met s t k run e (strays first) = subst (λ (u : Step). Met Same (staged u) run) (sym first) tt

  pub pass_keeps : (input : List ℕ) → Refines Same (flow_run p input) (flow_run q input)
  unfolding flow_run
  pass_keeps input n =
      let b = beside input n in
      met (steps p n (start p input)) (steps q b.count (start q input)) b.count (flow_run q input) refl b.stands
