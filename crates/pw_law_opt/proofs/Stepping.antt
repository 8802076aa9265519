-- Every step of the first run is one of the second, or none.
use Rattle.std.specs.Prelude.{ℕ, ◌≡◌, ◌+◌, ◌==◌, Bool, true, false, if◌then◌else◌, Option, Some, None, List, [], ◌∷◌, map, slice_get}
use Rattle.std.proofs.Common.{refl, sym, ap, subst, ◌∙◌}
use Rattle.pw_value.specs.declared.value.Value.{Value}
use Rattle.pw_flow.specs.declared.flow.Op.{Op}
use Rattle.pw_flow.specs.declared.flow.End.{End}
use Rattle.pw_flow.specs.declared.flow.Block.{Block}
use Rattle.pw_flow.specs.declared.flow.FlowModule.{FlowModule}
use Rattle.pw_flow.specs.Uses.{op_calls, op_defines}
use Rattle.pw_run_languages.specs.Programs.{Program}
use Rattle.pw_run_languages.specs.Commands.{Command, Enter, command}
use Rattle.pw_run_languages.specs.FlowRun.{Machine, Step, On, Astray, Returned, counted, ends, obeys, value_in, step}
use Rattle.pw_law_operations.proofs.Asking.{stays_inside}
use Rattle.pw_law_opt.specs.Deeds.{Deed, Gets, Changes, deed, done, value, got, Way, To, Back, way, left_objects, back, went}
use Rattle.pw_law_opt.specs.Sides.{left, Active, Twin, first_frame, second_frame, first_side, second_side, standing, with_modules}
use Rattle.pw_law_opt.specs.Passes.{Pass, Meets, taken_out, done_too, CallsToo, EntersToo, IsSound, Follows, Runs, AllWait, IsAlike, IsReady, Both, goes, strays, Steps, together, alone}
use Rattle.pw_law_opt.proofs.Deeds.{obeys_done, Asks, enters, fails, calls_ask, ends_go}
use Rattle.pw_law_opt.proofs.Programs.{same_commands, same_deeds}
use Rattle.pw_law_opt.proofs.Calling.{gets_both, calls_both}

-- ---- a step by what is left of the block

abbrev next : Program → Machine → List Op → Step
next p m [] = ends m.frame.end m
next p m (o ∷ ops) = obeys p (command p m.frame.base o (value_in m.frame)) (record m { frame = record m.frame { ops = ops } })

step_next : (p : Program) (m : Machine) → step p m ≡ next p m m.frame.ops
unfolding step
step_next p m = refl

-- the second run, where these are left
second_next : (q : Program) (x : Twin) (ops : List Op) → x.frame.second.ops ≡ ops → step q (second_side x) ≡ next q (second_side x) ops
second_next q x ops e = step_next q (second_side x) ∙ ap (next q (second_side x)) e

module _ (w : Pass) (s : IsSound w) (p : Program) (ms : List FlowModule) (fine : Follows w p ms) where
  abbrev q : Program
  q = with_modules p ms

  -- ---- operations that call nothing

  both_done : (d : Deed) (x : Twin) (ops rest : List Op) (end : End) → w.pairs x.frame.function x.frame.blocks → AllWait w x.frame.result x.callers
      → w.at x.frame.function x.frame.blocks (left ops end (got d x.frame.first.temps)) (left rest x.frame.second.end (got d x.frame.second.temps))
      → Both w (done (Some d) (first_side (standing (left ops end x.frame.first.temps) x.frame.second x))) (done (Some d) (second_side (standing x.frame.first (left rest x.frame.second.end x.frame.second.temps) x)))
  both_done (Gets t v) x ops rest end pair callers at =
      goes (standing (left ops end (got (Gets t v) x.frame.first.temps)) (left rest x.frame.second.end (got (Gets t v) x.frame.second.temps)) x) refl refl
      (record { frame = record { pair = pair; at = at }; callers = callers })
  both_done (Changes objects) x ops rest end pair callers at =
      goes (record (standing (left ops end x.frame.first.temps) (left rest x.frame.second.end x.frame.second.temps) x) { objects = objects }) refl refl
      (record { frame = record { pair = pair; at = at }; callers = callers })

  alone_done : (t : ℕ) (v : Value) (x : Twin) (ops : List Op) (end : End) → w.pairs x.frame.function x.frame.blocks → AllWait w x.frame.result x.callers
      → w.at x.frame.function x.frame.blocks (left ops end (got (Gets t v) x.frame.first.temps)) x.frame.second
      → Steps w q x (done (Some (Gets t v)) (first_side (standing (left ops end x.frame.first.temps) x.frame.second x)))
  alone_done t v x ops end pair callers at =
      alone (standing (left ops end (got (Gets t v) x.frame.first.temps)) x.frame.second x) refl refl (record { frame = record { pair = pair; at = at }; callers = callers })

  -- what the second run does for an operation that calls nothing
  second_done : (x : Twin) (o : Op) (rest : List Op) (d : Deed) → x.frame.second.ops ≡ o ∷ rest → op_calls o ≡ false
      → deed p x.objects (command p x.frame.base o (value x.frame.second.temps)) ≡ Some d
      → step q (second_side x) ≡ done (Some d) (second_side (standing x.frame.first (left rest x.frame.second.end x.frame.second.temps) x))
  second_done x o rest d e calls does =
      let m : Machine = second_side (standing x.frame.first (left rest x.frame.second.end x.frame.second.temps) x) in
      let v : ℕ → Value = value x.frame.second.temps in
      second_next q x (o ∷ rest) e
      ∙ ap (λ (c : Command). obeys q c m) (same_commands w p ms fine x.frame.base o v)
      ∙ obeys_done q (command p x.frame.base o v) m (stays_inside p x.frame.base o v calls)
      ∙ ap (λ (k : Option Deed). done k m) (same_deeds w p ms fine x.objects (command p x.frame.base o v) ∙ does)

  op_steps : (x : Twin) (o : Op) (ops : List Op) (k : Option Deed) → Runs w (record x.frame { first = left (o ∷ ops) x.frame.first.end x.frame.first.temps }) → AllWait w x.frame.result x.callers → op_calls o ≡ false
      → deed p x.objects (command p x.frame.base o (value x.frame.first.temps)) ≡ k
      → Steps w q x (done k (first_side (standing (left ops x.frame.first.end x.frame.first.temps) x.frame.second x)))
  op_steps x o ops None r callers calls does = together (strays refl)
  op_steps x o ops (Some d) r callers calls does =
      by_meeting (s.ops p x.frame.base x.objects x.frame.function x.frame.blocks o ops x.frame.first.end x.frame.first.temps x.frame.second d r.at calls does) where
        first : Deed → Step
        first d = done (Some d) (first_side (standing (left ops x.frame.first.end x.frame.first.temps) x.frame.second x))

        by_meeting : Meets p x.frame.base x.objects (w.at x.frame.function x.frame.blocks) ops x.frame.first.end x.frame.first.temps d x.frame.second → Steps w q x (first d)
        by_meeting (taken_out t v e at) = subst (λ (d : Deed). Steps w q x (first d)) (sym e) (alone_done t v x ops x.frame.first.end r.pair callers at)
        by_meeting (done_too o rest e calls does at) =
            together (subst (λ (t : Step). Both w (first d) t) (sym (second_done x o rest d e calls does)) (both_done d x ops rest x.frame.first.end r.pair callers at))

  -- ---- calls

  call_steps : (x : Twin) (o : Op) (ops : List Op) → Runs w (record x.frame { first = left (o ∷ ops) x.frame.first.end x.frame.first.temps }) → AllWait w x.frame.result x.callers → op_calls o ≡ true
      → Steps w q x (obeys p (command p x.frame.base o (value x.frame.first.temps)) (first_side (standing (left ops x.frame.first.end x.frame.first.temps) x.frame.second x)))
  call_steps x o ops r callers calls =
      by_asking (s.calls p x.frame.base x.frame.function x.frame.blocks o ops x.frame.first.end x.frame.first.temps x.frame.second r.at calls) (calls_ask p x.frame.base o (value x.frame.first.temps) calls) where
        asked : Command
        asked = command p x.frame.base o (value x.frame.first.temps)

        first : Command → Step
        first c = obeys p c (first_side (standing (left ops x.frame.first.end x.frame.first.temps) x.frame.second x))

        by_asking : CallsToo p x.frame.base (w.at x.frame.function x.frame.blocks) o ops x.frame.first.end x.frame.first.temps x.frame.second → Asks (op_defines o) asked → Steps w q x (first asked)
        by_asking k (fails e) = together (strays (ap first e))
        by_asking k (enters f args e) =
            let y : Twin = standing (left ops x.frame.first.end x.frame.first.temps) (left k.rest x.frame.second.end x.frame.second.temps) x in
            let ready : IsReady w (op_defines o) y = record { frame = record { pair = r.pair; at = k.behind }; callers = callers } in
            let v : ℕ → Value = value x.frame.second.temps in
            let second : step q (second_side x) ≡ obeys q (Enter (op_defines o) f args) (second_side y) =
            second_next q x (k.op ∷ k.rest) k.is
            ∙ ap (λ (c : Command). obeys q c (second_side y)) (same_commands w p ms fine x.frame.base k.op v ∙ k.asks ∙ e) in
            together (subst (λ (t : Step). Both w (first asked) t) (sym second)
            (subst (λ (t : Step). Both w t (obeys q (Enter (op_defines o) f args) (second_side y))) (sym (ap first e))
            (calls_both w s p ms fine (op_defines o) f args y ready)))

  -- ---- ends

  abbrev going : ℕ → Block → Block → Twin → Twin
  going b c d x = record x { frame = record x.frame { block = b; first = left c.ops c.end x.frame.first.temps; second = left d.ops d.end x.frame.second.temps } }

  abbrev goes_to : ℕ → Block → Machine → Machine
  goes_to b next m = record m { frame = record m.frame { block = b; ops = next.ops; end = next.end } }

  abbrev to_block : ℕ → Machine → Option Block → Step
  to_block b m (Some next) = On (if b == m.frame.block + 1 then goes_to b next m else counted (goes_to b next m))
  to_block b m None = Astray

  either_way : (x : Twin) (b : ℕ) (c d : Block) (near : Bool) → IsAlike w (going b c d x)
      → Both w (On (if near then goes_to b c (first_side x) else counted (goes_to b c (first_side x)))) (On (if near then goes_to b d (second_side x) else counted (goes_to b d (second_side x))))
  either_way x b c d true a = goes (going b c d x) refl refl a
  either_way x b c d false a = goes (record (going b c d x) { events = x.events + 1 }) refl refl (record { frame = a.frame; callers = a.callers })

  jumps_both : (x : Twin) (b : ℕ) (block : Option Block) → w.pairs x.frame.function x.frame.blocks → AllWait w x.frame.result x.callers → slice_get x.frame.function.blocks b ≡ block
      → ((c : Block) → block ≡ Some c → EntersToo (w.at x.frame.function x.frame.blocks) x.frame.first.temps x.frame.second.temps c (slice_get x.frame.blocks b))
      → Both w (to_block b (first_side x) block) (to_block b (second_side x) (slice_get x.frame.blocks b))
  jumps_both x b None pair callers is onward = strays refl
  jumps_both x b (Some c) pair callers is onward =
      let k = onward c refl in
      subst (λ (o : Option Block). Both w (to_block b (first_side x) (Some c)) (to_block b (second_side x) o)) (sym k.is)
      (either_way x b c k.entered (b == x.frame.block + 1) (record { frame = record { pair = pair; at = k.at_front }; callers = callers }))

  backs_both : (v : Value) (x : Twin) (callers : List Active) → AllWait w x.frame.result callers → Both w (back v (first_side x) (map first_frame callers)) (back v (second_side x) (map second_frame callers))
  backs_both v x [] waits = strays refl
  backs_both v x (a ∷ callers) waits =
      gets_both w x.frame.result v (record x {
        frame = a;
        callers = callers;
        objects = left_objects (first_side x);
        moments = Returned x.frame.function.name (left_objects (first_side x)) ∷ x.moments;
      })
      (record { frame = waits.0; callers = waits.1 })

  ways_both : (x : Twin) (k : Option Way) → Runs w (record x.frame { first = left [] x.frame.first.end x.frame.first.temps }) → AllWait w x.frame.result x.callers
      → way x.objects x.frame.first.end (value x.frame.first.temps) ≡ k → Both w (went k (first_side x)) (went k (second_side x))
  ways_both x None r callers is = strays refl
  ways_both x (Some (Back v)) r callers is = backs_both v x x.callers callers
  ways_both x (Some (To b)) r callers is =
      jumps_both x b (slice_get x.frame.function.blocks b) r.pair callers refl
      (λ c there. s.onward x.objects x.frame.function x.frame.blocks x.frame.first.end x.frame.first.temps x.frame.second b c r.at is there)

  ends_both : (x : Twin) (k : Option Way) → Runs w (record x.frame { first = left [] x.frame.first.end x.frame.first.temps }) → AllWait w x.frame.result x.callers
      → way x.objects x.frame.first.end (value x.frame.first.temps) ≡ k → Steps w q x (went k (first_side x))
  ends_both x None r callers is = together (strays refl)
  ends_both x (Some k) r callers is =
      let e = s.ends x.objects x.frame.function x.frame.blocks x.frame.first.end x.frame.first.temps x.frame.second k r.at is in
      let second : step q (second_side x) ≡ went (Some k) (second_side x) =
      second_next q x [] e.0 ∙ ends_go x.frame.second.end (second_side x) ∙ ap (λ (o : Option Way). went o (second_side x)) e.1 in
      together (subst (λ (t : Step). Both w (went (Some k) (first_side x)) t) (sym second) (ways_both x (Some k) r callers is))

  -- ---- a step

  next_steps : (x : Twin) (ops : List Op) → Runs w (record x.frame { first = left ops x.frame.first.end x.frame.first.temps }) → AllWait w x.frame.result x.callers → Steps w q x (next p (first_side x) ops)
  next_steps x [] r callers =
      subst (Steps w q x) (sym (ends_go x.frame.first.end (first_side x))) (ends_both x (way x.objects x.frame.first.end (value x.frame.first.temps)) r callers refl)
  next_steps x (o ∷ ops) r callers = by_call (op_calls o) refl where
    behind : Machine
    behind = first_side (standing (left ops x.frame.first.end x.frame.first.temps) x.frame.second x)

    asked : Command
    asked = command p x.frame.base o (value x.frame.first.temps)

    by_call : (c : Bool) → op_calls o ≡ c → Steps w q x (obeys p asked behind)
    by_call true e = call_steps x o ops r callers e
    by_call false e =
        subst (Steps w q x) (sym (obeys_done p asked behind (stays_inside p x.frame.base o (value x.frame.first.temps) e)))
        (op_steps x o ops (deed p x.objects asked) r callers e refl)

  pub steps_follow : (x : Twin) → IsAlike w x → Steps w q x (step p (first_side x))
  steps_follow x a = subst (Steps w q x) (sym (step_next p (first_side x))) (next_steps x x.frame.first.ops a.frame a.callers)
