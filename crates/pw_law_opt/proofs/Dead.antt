-- Taking dead operations out is a sound pass: what temporaries hold that are live stays the same.
use Rattle.std.specs.Prelude.{ℕ, ◌≡◌, ◌≢◌, ◌≤◌, ◌==◌, ◌&&◌, ◌↔◌, Bool, true, false, not, if◌then◌else◌, Option, Some, None, option_map, List, [], ◌∷◌, length, map, slice_get, slice_set}
use Rattle.std.proofs.Common.{refl, sym, ap, subst, ◌∙◌, inl, inr}
use Rattle.std.proofs.lemmas.Bool.{cases_Bool, eqb-true, eq-eqb}
use Rattle.std.proofs.lemmas.List.{length-set}
use Rattle.std.proofs.lemmas.Option.{same_Some, slice_get-map}
use Rattle.pw_value.specs.declared.value.Value.{Value}
use Rattle.pw_value.specs.Objects.{Object}
use Rattle.pw_flow.specs.declared.flow.Op.{Op}
use Rattle.pw_flow.specs.declared.flow.Op.TheVariants as op
use Rattle.pw_flow.specs.declared.flow.End.{End}
use Rattle.pw_flow.specs.declared.flow.Block.{Block}
use Rattle.pw_flow.specs.declared.flow.FlowFn.{FlowFn}
use Rattle.pw_flow.specs.declared.flow.FlowModule.{FlowModule}
use Rattle.pw_flow.specs.Uses.{op_calls, op_defines, end_uses, successors}
use Rattle.pw_flow.specs.Outline.{Act, Outline, act_of, stretch_of, outline_of}
use Rattle.pw_live.specs.Liveness.{Live, used, past, at_end, on, is_live}
use Rattle.pw_run_languages.specs.Programs.{Program}
use Rattle.pw_run_languages.specs.Commands.{command}
use Rattle.pw_run_languages.specs.FlowRun.{start_temps}
use Rattle.pw_opt_rules.specs.Dead.{only_defines, is_needed, is_dead, live_ops, live_block}
use Rattle.pw_law_operations.proofs.Asking.{commands_rest_on_uses}
use Rattle.pw_law_opt.specs.Deeds.{Deed, Gets, Changes, deed, value, got, with_result, Way, To, way}
use Rattle.pw_law_opt.specs.Sides.{Left, left}
use Rattle.pw_law_opt.specs.Passes.{Pass, Meets, taken_out, done_too, CallsToo, EntersToo, IsSound}
use Rattle.pw_law_opt.proofs.Lists.{value_elsewhere, value_in_both}
use Rattle.pw_law_opt.proofs.Commands.{ways_rest_on_uses, Defines, gets, changes, deeds_define}
use Rattle.pw_law_opt.proofs.Rewritings.{way_leads}

-- the tests of liveness say what liveness by paths is
abbrev pub LivenessIsExact : Type 0
LivenessIsExact = (f : Outline) (t : ℕ) (acts : List Act) (uses next : List ℕ) → (is_live f t acts uses next ≡ true) ↔ Live f t acts uses next

abbrev LiveAt : FlowFn → ℕ → List Op → End → Type 0
LiveAt f t ops end = Live (outline_of f) t (map act_of ops) (end_uses end) (successors end)

-- what is live holds the same
abbrev Agree : FlowFn → List Op → End → List Value → List Value → Type 0
Agree f ops end ts us = (t : ℕ) → LiveAt f t ops end → value ts t ≡ value us t

pub record DeadPair (f : FlowFn) (bs : List Block) : Type 0 where
  pub of_module : FlowModule
  pub is : bs ≡ map (live_block of_module (outline_of f)) f.blocks
  pub params : f.params ≤ f.temps

pub record DeadAt (f : FlowFn) (bs : List Block) (x y : Left) : Type 0 where
  pub of_module : FlowModule
  pub is : bs ≡ map (live_block of_module (outline_of f)) f.blocks
  pub block : Block
  pub ends : block.end ≡ x.end
  pub ops : y.ops ≡ live_ops of_module (outline_of f) block x.ops
  pub end : y.end ≡ x.end
  pub same : length x.temps ≡ length y.temps
  pub agree : Agree f x.ops x.end x.temps y.temps

abbrev pub dead_pass : Pass
dead_pass = record { pairs = DeadPair; at = DeadAt }

-- ---- tests

and_both : (x y : Bool) → (x && y) ≡ true → (x ≡ true) × (y ≡ true)
and_both true y e = (refl, e)
and_both false y e = absurd cc

not_true : (x : Bool) → not x ≡ true → x ≡ false
not_true true e = absurd cc
not_true false e = refl

alive_call : (m : FlowModule) (f : FlowFn) (b : Block) (o : Op) (ops : List Op) → op_calls o ≡ true → is_dead m (outline_of f) b o ops ≡ false
alive_call m f b (op.Call t g args) ops c = refl
alive_call m f b (op.CallInd t a shape args) ops c = refl
alive_call m f b o ops c = absurd cc

kept_op : (m : FlowModule) (f : FlowFn) (b : Block) (o : Op) (ops : List Op) → is_dead m (outline_of f) b o ops ≡ false → live_ops m (outline_of f) b (o ∷ ops) ≡ o ∷ live_ops m (outline_of f) b ops
kept_op m f b o ops e = ap (λ (c : Bool). if c then live_ops m (outline_of f) b ops else o ∷ live_ops m (outline_of f) b ops) e

dropped_op : (m : FlowModule) (f : FlowFn) (b : Block) (o : Op) (ops : List Op) → is_dead m (outline_of f) b o ops ≡ true → live_ops m (outline_of f) b (o ∷ ops) ≡ live_ops m (outline_of f) b ops
dropped_op m f b o ops e = ap (λ (c : Bool). if c then live_ops m (outline_of f) b ops else o ∷ live_ops m (outline_of f) b ops) e

-- ---- what stays the same

other_temp : (o : Op) (t u : ℕ) → op_defines o ≡ Some t → u ≢ t → op_defines o ≢ Some u
other_temp o t u e apart same = apart (sym (same_Some t u (sym e ∙ same)))

-- behind an operation that gives both the same value
agree_behind : (f : FlowFn) (o : Op) (ops : List Op) (end : End) (ts us : List Value) (t : ℕ) (v : Value) → length ts ≡ length us → op_defines o ≡ Some t → Agree f (o ∷ ops) end ts us
    → Agree f ops end (slice_set ts t v) (slice_set us t v)
agree_behind f o ops end ts us t v long e agree u live = elim (cases_Bool (u == t)) [
  | inl same ↦ subst (λ k. value (slice_set ts t v) k ≡ value (slice_set us t v) k) (sym (eqb-true u t same)) (value_in_both ts us t v long)
  | inr other ↦
      let apart : u ≢ t = λ same. absurd (let k : (u == t) ≡ true = ap (λ k. u == k) (sym same) ∙ eq-eqb u u refl in cc) in
      value_elsewhere ts t u v apart
      ∙ agree u (past (act_of o) (map act_of ops) (end_uses end) (successors end) (other_temp o t u e apart) live)
      ∙ sym (value_elsewhere us t u v apart)
]

agree_past : (f : FlowFn) (o : Op) (ops : List Op) (end : End) (ts us : List Value) → op_defines o ≡ None → Agree f (o ∷ ops) end ts us → Agree f ops end ts us
agree_past f o ops end ts us e agree u live =
    agree u (past (act_of o) (map act_of ops) (end_uses end) (successors end) (λ same. absurd (let k : None ≡ Some u = sym e ∙ same in cc)) live)

got_long : (d : Deed) (ts us : List Value) → length ts ≡ length us → length (got d ts) ≡ length (got d us)
got_long (Gets t v) ts us e = length-set ts t v ∙ e ∙ sym (length-set us t v)
got_long (Changes objects) ts us e = e

agree_done : (f : FlowFn) (o : Op) (ops : List Op) (end : End) (ts us : List Value) (d : Deed) → length ts ≡ length us → Defines (op_defines o) d → Agree f (o ∷ ops) end ts us
    → Agree f ops end (got d ts) (got d us)
agree_done f o ops end ts us d long (gets t v is does) agree =
    subst (λ (d : Deed). Agree f ops end (got d ts) (got d us)) (sym does) (agree_behind f o ops end ts us t v long is agree)
agree_done f o ops end ts us d long (changes objects is does) agree =
    subst (λ (d : Deed). Agree f ops end (got d ts) (got d us)) (sym does) (agree_past f o ops end ts us is agree)

agree_result : (f : FlowFn) (o : Op) (ops : List Op) (end : End) (ts us : List Value) (t : Option ℕ) (v : Value) → op_defines o ≡ t → length ts ≡ length us → Agree f (o ∷ ops) end ts us
    → Agree f ops end (with_result t v ts) (with_result t v us)
agree_result f o ops end ts us None v e long agree = agree_past f o ops end ts us e agree
agree_result f o ops end ts us (Some t) v e long agree = agree_behind f o ops end ts us t v long e agree

result_long : (t : Option ℕ) (v : Value) (ts us : List Value) → length ts ≡ length us → length (with_result t v ts) ≡ length (with_result t v us)
result_long None v ts us e = e
result_long (Some t) v ts us e = length-set ts t v ∙ e ∙ sym (length-set us t v)

module _ (exact : LivenessIsExact) where
  -- the temporary of an operation that is taken out is not live
  unneeded : (f : FlowFn) (b : Block) (end : End) (t : ℕ) (d : Option ℕ) (ops : List Op) → b.end ≡ end → d ≡ Some t → is_needed (outline_of f) b d ops ≡ false → LiveAt f t ops end → ⊥
  unneeded f b end t d ops ends is not_needed live =
      let test : is_live (outline_of f) t (map act_of ops) (end_uses end) (successors end) ≡ true = (exact (outline_of f) t (map act_of ops) (end_uses end) (successors end)).1 live in
      let needed : is_needed (outline_of f) b d ops ≡ true =
      ap (λ (d : Option ℕ). is_needed (outline_of f) b d ops) is ∙ ap (λ (e : End). is_live (outline_of f) t (map act_of ops) (end_uses e) (successors e)) ends ∙ test in
      absurd cc

  agree_without : (f : FlowFn) (b : Block) (o : Op) (ops : List Op) (end : End) (ts us : List Value) (t : ℕ) (v : Value) → b.end ≡ end → op_defines o ≡ Some t → is_needed (outline_of f) b (op_defines o) ops ≡ false
      → Agree f (o ∷ ops) end ts us → Agree f ops end (slice_set ts t v) us
  agree_without f b o ops end ts us t v ends is not_needed agree u live = elim (cases_Bool (u == t)) [
    | inl same ↦ absurd (unneeded f b end t (op_defines o) ops ends is not_needed (subst (λ k. LiveAt f k ops end) (eqb-true u t same) live))
    | inr other ↦
        let apart : u ≢ t = λ same. absurd (let k : (u == t) ≡ true = ap (λ k. u == k) (sym same) ∙ eq-eqb u u refl in cc) in
        value_elsewhere ts t u v apart
        ∙ agree u (past (act_of o) (map act_of ops) (end_uses end) (successors end) (other_temp o t u is apart) live)
  ]

  taken : (p : Program) (base : ℕ) (objects : List Object) (f : FlowFn) (bs : List Block) (o : Op) (ops : List Op) (end : End) (ts : List Value) (y : Left) (d : Deed)
      → (a : DeadAt f bs (left (o ∷ ops) end ts) y) → is_dead a.of_module (outline_of f) a.block o ops ≡ true → Defines (op_defines o) d → Meets p base objects (DeadAt f bs) ops end ts d y
  taken p base objects f bs o ops end ts y d a dead (gets t v is does) =
      let both = and_both (only_defines a.of_module o) (not (is_needed (outline_of f) a.block (op_defines o) ops)) dead in
      taken_out t v does (record {
        of_module = a.of_module;
        is = a.is;
        block = a.block;
        ends = a.ends;
        ops = a.ops ∙ dropped_op a.of_module f a.block o ops dead;
        end = a.end;
        same = length-set ts t v ∙ a.same;
        agree = agree_without f a.block o ops end ts y.temps t v a.ends is (not_true (is_needed (outline_of f) a.block (op_defines o) ops) both.1) a.agree;
      })
  taken p base objects f bs o ops end ts y d a dead (changes objs is does) =
      let both = and_both (only_defines a.of_module o) (not (is_needed (outline_of f) a.block (op_defines o) ops)) dead in
      let needed : is_needed (outline_of f) a.block (op_defines o) ops ≡ true = ap (λ (d : Option ℕ). is_needed (outline_of f) a.block d ops) is in
      let idle : is_needed (outline_of f) a.block (op_defines o) ops ≡ false = not_true (is_needed (outline_of f) a.block (op_defines o) ops) both.1 in
      absurd cc

  reads_same : (p : Program) (base : ℕ) (f : FlowFn) (o : Op) (ops : List Op) (end : End) (ts us : List Value) → Agree f (o ∷ ops) end ts us → command p base o (value us) ≡ command p base o (value ts)
  reads_same p base f o ops end ts us agree =
      commands_rest_on_uses p base o (value us) (value ts) (λ t there. sym (agree t (used (act_of o) (map act_of ops) (end_uses end) (successors end) there)))

  ops_meet : (p : Program) (base : ℕ) (objects : List Object) (f : FlowFn) (bs : List Block) (o : Op) (ops : List Op) (end : End) (ts : List Value) (y : Left) (d : Deed)
      → DeadAt f bs (left (o ∷ ops) end ts) y → op_calls o ≡ false → deed p objects (command p base o (value ts)) ≡ Some d → Meets p base objects (DeadAt f bs) ops end ts d y
  ops_meet p base objects f bs o ops end ts y d a calls does = elim (cases_Bool (is_dead a.of_module (outline_of f) a.block o ops)) [
    | inl dead ↦ taken p base objects f bs o ops end ts y d a dead (deeds_define p base objects o (value ts) d does)
    | inr alive ↦ done_too o (live_ops a.of_module (outline_of f) a.block ops) (a.ops ∙ kept_op a.of_module f a.block o ops alive) calls
        (ap (deed p objects) (reads_same p base f o ops end ts y.temps a.agree) ∙ does)
        (record {
          of_module = a.of_module;
          is = a.is;
          block = a.block;
          ends = a.ends;
          ops = refl;
          end = a.end;
          same = got_long d ts y.temps a.same;
          agree = agree_done f o ops end ts y.temps d a.same (deeds_define p base objects o (value ts) d does) a.agree;
        })
  ]

  calls_meet : (p : Program) (base : ℕ) (f : FlowFn) (bs : List Block) (o : Op) (ops : List Op) (end : End) (ts : List Value) (y : Left)
      → DeadAt f bs (left (o ∷ ops) end ts) y → op_calls o ≡ true → CallsToo p base (DeadAt f bs) o ops end ts y
  calls_meet p base f bs o ops end ts y a calls = record {
    op = o;
    rest = live_ops a.of_module (outline_of f) a.block ops;
    is = a.ops ∙ kept_op a.of_module f a.block o ops (alive_call a.of_module f a.block o ops calls);
    asks = reads_same p base f o ops end ts y.temps a.agree;
    behind = λ v. record {
      of_module = a.of_module;
      is = a.is;
      block = a.block;
      ends = a.ends;
      ops = refl;
      end = a.end;
      same = result_long (op_defines o) v ts y.temps a.same;
      agree = agree_result f o ops end ts y.temps (op_defines o) v refl a.same a.agree;
    };
  }

  ends_meet : (objects : List Object) (f : FlowFn) (bs : List Block) (end : End) (ts : List Value) (y : Left) (k : Way)
      → DeadAt f bs (left [] end ts) y → way objects end (value ts) ≡ Some k → (y.ops ≡ []) × (way objects y.end (value y.temps) ≡ Some k)
  ends_meet objects f bs end ts y k a is = (
    a.ops,
    ap (λ (e : End). way objects e (value y.temps)) a.end
        ∙ ways_rest_on_uses objects end (value y.temps) (value ts) (λ t there. sym (a.agree t (at_end (end_uses end) (successors end) there))) ∙ is,
  )

  enters : (m : FlowModule) (f : FlowFn) (bs : List Block) (ts us : List Value) (b : ℕ) (block : Block) → bs ≡ map (live_block m (outline_of f)) f.blocks → slice_get f.blocks b ≡ Some block
      → length ts ≡ length us → Agree f block.ops block.end ts us → EntersToo (DeadAt f bs) ts us block (slice_get bs b)
  enters m f bs ts us b block is there same agree = record {
    entered = live_block m (outline_of f) block;
    is = ap (λ (l : List Block). slice_get l b) is ∙ slice_get-map (live_block m (outline_of f)) f.blocks b ∙ ap (option_map (live_block m (outline_of f))) there;
    at_front = record { of_module = m; is = is; block = block; ends = refl; ops = refl; end = refl; same = same; agree = agree };
  }

  onward_meet : (objects : List Object) (f : FlowFn) (bs : List Block) (end : End) (ts : List Value) (y : Left) (b : ℕ) (block : Block)
      → DeadAt f bs (left [] end ts) y → way objects end (value ts) ≡ Some (To b) → slice_get f.blocks b ≡ Some block → EntersToo (DeadAt f bs) ts y.temps block (slice_get bs b)
  onward_meet objects f bs end ts y b block a is there =
      enters a.of_module f bs ts y.temps b block a.is there a.same
      (λ t live. a.agree t (on (end_uses end) (successors end) b (stretch_of block) (way_leads objects end (value ts) b is) (slice_get-map stretch_of f.blocks b ∙ ap (option_map stretch_of) there) live))

  start_meets : (f : FlowFn) (bs : List Block) (args : List Value) (block : Block)
      → DeadPair f bs → length args ≤ f.temps → slice_get f.blocks 0 ≡ Some block → EntersToo (DeadAt f bs) (start_temps f args) (start_temps f args) block (slice_get bs 0)
  start_meets f bs args block pair fits there = enters pair.of_module f bs (start_temps f args) (start_temps f args) 0 block pair.is there refl (λ t live. refl)

  pub dead_sound : IsSound dead_pass
  dead_sound = record {
    params = λ f bs pair. pair.params;
    ops = ops_meet;
    calls = calls_meet;
    ends = ends_meet;
    onward = onward_meet;
    start = start_meets;
  }
