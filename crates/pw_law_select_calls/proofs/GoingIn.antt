-- From the saved registers of a function to its first block.
use Rattle.std.proofs.Common.{ℕ, ℤ, zero, suc, ◌≡◌, ◌+◌, ◌-◌, ◌*◌, ◌^◌, ◌<◌, ◌≤◌, ◌⊎◌, inl, inr, arith, refl, ap, ap₂, sym, subst, ◌∙◌, Bool, true, false, if◌then◌else◌, nat_lt, Option, Some, None, List, [], ◌∷◌, ◌++◌, length, slice_get, Contains, append_assoc}
use Rattle.std.specs.List.{AllByRecursion}
use Rattle.std.proofs.lemmas.Bool.{ltb-true, ltb-false}
use Rattle.std.proofs.lemmas.Int.{ints}
use Rattle.std.proofs.lemmas.Option.{slice_get-get_or, slice_get_within}
use Rattle.pw_value.specs.declared.value.Byte.{Byte}
use Rattle.pw_value.specs.declared.value.Value.{Value}
use Rattle.pw_inst.specs.Computing.{offset_by}
use Rattle.pw_inst.specs.Registers.{stack_pointer}
use Rattle.pw_inst.specs.declared.line.Line.{Line}
use Rattle.pw_webflow.specs.declared.web.WebBlock.{WebBlock}
use Rattle.pw_alloc.specs.declared.located.Place.{Place}
use Rattle.pw_alloc.specs.declared.located.Place.TheVariants.{Slot, Reg}
use Rattle.pw_alloc.specs.declared.located.Located.{Located}
use Rattle.pw_alloc.specs.Frames.{below, first_stacked, head_size}
use Rattle.pw_delay.specs.Items.{slotted}
use Rattle.pw_select.specs.Selection.{loaded_web, webs_loaded, parameters_in, blocks_lines, slot_offsets}
use Rattle.pw_run.specs.Runs.{AreAlike}
use Rattle.pw_run_languages.specs.Traces.{Event}
use Rattle.pw_run_languages.specs.Programs.{Program}
use Rattle.pw_run_languages.specs.Addresses.{Addresses}
use Rattle.pw_run_languages.specs.Acts.{register, number_at}
use Rattle.pw_run_languages.specs.Standing.{ValueStands, EventInWords}
use Rattle.pw_run_languages.specs.LineRun as run
use Rattle.pw_run_languages.specs.LineRun.{LineProgram}
use Rattle.pw_run_languages.specs.PlacedRun as placed
use Rattle.pw_run_languages.specs.PlacedRun.{entered_webs, enters_webs, with_temp, with_parameters}
use Rattle.pw_run_languages.specs.Direction.{with_functions}
use Rattle.pw_run_languages.specs.SelectionLaws.{line_program}
use Rattle.pw_law_select_states.specs.Laid.{address, size_of, Avoid}
use Rattle.pw_law_select_states.specs.Passes.{further}
use Rattle.pw_law_select_frames.specs.Stack.{IsWordBelow}
use Rattle.pw_law_select_frames.specs.Arguments.{argument_word, arguments_size}
use Rattle.pw_law_select_frames.specs.Framing.{FramesAreSized, PlacesAreBelow, words_begin}
use Rattle.pw_law_select_states.specs.Frames.{words_size}
use Rattle.pw_law_select_frames.specs.Blocks.{items_from}
use Rattle.pw_law_select_frames.specs.Chain.{AllWait}
use Rattle.pw_law_select_frames.specs.Amid.{BothAmid}
use Rattle.pw_law_select_frames.specs.Receiving.{MayTake}
use Rattle.pw_law_select_frames.specs.Settling.{FirstBlocksBegin, MaySettle, Settles, lines_behind_webs}
use Rattle.pw_law_select_frames.specs.Webs.{WebsAreLoadedInOrder}
use Rattle.pw_law_select_calls.specs.Webs.{IsWebOf, AtWebs, WebsGo}
use Rattle.pw_law_select_calls.specs.GoingIn.{MayGoIn, GoesIn}
use Rattle.pw_law_select_calls.proofs.Walking.{WalkLaws, known_after, webs_entered}
use Rattle.pw_law_select_calls.proofs.Webs.{entered_are_own, none_of_webs}

-- ---- what parameters leave of what is shown

pub record ShownAlike (m n : placed.Machine) : Type 0 where
  pub rest : n.rest ≡ m.rest
  pub read : n.read ≡ m.read
  pub out : n.out ≡ m.out
  pub events : n.events ≡ m.events
  pub trace : n.trace ≡ m.trace

temp_shown : (t : ℕ) (v : Value) (m : placed.Machine) → ShownAlike m (with_temp t v m)
temp_shown t v m = by_place (slice_get m.frame.function.places t) refl
  where
    by_place : (o : Option Place) → slice_get m.frame.function.places t ≡ o → ShownAlike m (with_temp t v m)
    by_place None e = record { rest = rw e refl; read = rw e refl; out = rw e refl; events = rw e refl; trace = rw e refl }
    by_place (Some (Reg r)) e = record { rest = rw e refl; read = rw e refl; out = rw e refl; events = rw e refl; trace = rw e refl }
    by_place (Some (Slot offset)) e = record { rest = rw e refl; read = rw e refl; out = rw e refl; events = rw e refl; trace = rw e refl }

parameters_shown : (k : ℕ) (vs : List Value) (m : placed.Machine) → ShownAlike m (with_parameters k vs m)
parameters_shown k [] m = record { rest = refl; read = refl; out = refl; events = refl; trace = refl }
parameters_shown k (v ∷ vs) m =
    let one = temp_shown k v m in
    let two = parameters_shown (suc k) vs (with_temp k v m) in
    record {
      rest = two.rest ∙ one.rest;
      read = two.read ∙ one.read;
      out = two.out ∙ one.out;
      events = two.events ∙ one.events;
      trace = two.trace ∙ one.trace;
    }

-- ---- words of memory

same_number : (n b : ℕ) (f g : ℕ → ℕ) → ((c : ℕ) → b ≤ c → c < b + n → f c ≡ g c) → number_at n f b ≡ number_at n g b
same_number zero b f g h = refl
same_number (suc more) b f g h =
    ap₂ (λ (x y : ℕ). x * 256 ^ more + y) (h b (omega arith) (omega arith)) (same_number more (b + 1) f g (λ c low high. h c (omega (arith, low)) (omega (arith, high))))

word_below : (top n : ℕ) → n ≤ top → top < 2 ^ 32 → offset_by top (below n) ≡ top - n
word_below top zero low small = omega (arith, ints, low, small)
word_below top (suc m) low small = omega (arith, ints, low, small)

-- ---- arguments

pub arguments_clear : (sizes : FramesAreSized) (p : Program) (w : Addresses) (site : ℕ → ℕ) (lines : List Line) (m : placed.Machine) (l : run.Machine) (caller : placed.Frame) (callers : List placed.Frame) (n : ℕ)
    → BothAmid p w site lines m l → m.callers ≡ caller ∷ callers → arguments_size n ≤ head_size caller.function.body
    → Avoid site m.objects (register l.core stack_pointer - m.frame.function.frame - arguments_size n) (register l.core stack_pointer - m.frame.function.frame)
arguments_clear sizes p w site lines m l caller callers n amid is fits =
    by_callers l.callers (subst (λ (fs : List placed.Frame). AllWait p w site m.objects l.core.memory m.frame l.frame.stack fs l.callers) is amid.callers)
  where
    by_callers : (ls : List run.Frame) → AllWait p w site m.objects l.core.memory m.frame l.frame.stack (caller ∷ callers) ls
        → Avoid site m.objects (register l.core stack_pointer - m.frame.function.frame - arguments_size n) (register l.core stack_pointer - m.frame.function.frame)
    by_callers [] wait = absurd wait
    by_callers (k ∷ ks) wait =
        let top = amid.top in
        let words = (sizes caller.function wait.0.active.serves).words in
        λ o lives. by_place o (wait.0.frame.clear o lives) top words
      where
        by_place : (o : ℕ) → (site o + size_of m.objects o ≤ l.frame.stack - words_size caller.function) ⊎ (l.frame.stack ≤ site o) → register l.core stack_pointer ≡ l.frame.stack + m.frame.function.frame
            → words_begin caller.function ≤ words_size caller.function
            → (site o + size_of m.objects o ≤ register l.core stack_pointer - m.frame.function.frame - arguments_size n) ⊎ (register l.core stack_pointer - m.frame.function.frame ≤ site o)
        by_place o (inl low) top words = inl (omega (arith, low, top, words, fits))
        by_place o (inr high) top words = inr (omega (arith, high, top))

-- ---- the way

module _ (laws : WalkLaws) (order : WebsAreLoadedInOrder) (settle : FirstBlocksBegin) (places : PlacesAreBelow) (sizes : FramesAreSized) (p : Program) (functions : List Located) (w : Addresses) (scratch : ℕ → (ℕ → ℕ) → ℕ → ℕ) (site : ℕ → ℕ)
    (f : Located) (b : WebBlock) (args : List Value) (m n : placed.Machine) (l : run.Machine) (may : MayGoIn p w site f b args m l) (goes : enters_webs (with_functions p functions) (entered_webs f) m ≡ placed.On n) where
  abbrev lp : LineProgram
  lp = line_program p functions

  abbrev top : ℕ
  top = register l.core stack_pointer

  -- ---- webs

  own : AllByRecursion (IsWebOf f) (entered_webs f)
  own = entered_are_own f may.body.directives

  at_webs : AtWebs p w site loaded_web (entered_webs f) (lines_behind_webs f) m l
  at_webs = record {
    program = may.program;
    lawful = may.lawful;
    amid = subst (λ (ls : List Line). BothAmid p w site (ls ++ lines_behind_webs f) m l) (order f may.body.directives)
        (subst (λ (ls : List Line). BothAmid p w site ls m l)
        (append_assoc (webs_loaded f.body.directives.webs) (parameters_in f.frame f.places 0 f.body.params) (blocks_lines f (slot_offsets f) 0 f.body.blocks)) may.amid);
    known = may.known;
    own = subst (λ (g : Located). AllByRecursion (IsWebOf g) (entered_webs f)) (sym may.function) own;
  }

  entered : WebsGo p functions w scratch site (entered_webs f) (lines_behind_webs f) m n l
  entered = webs_entered laws p functions w scratch site (entered_webs f) (lines_behind_webs f) m n l at_webs goes

  abbrev behind : run.Machine
  behind = further (slotted (lines_behind_webs f)) entered.core entered.passes.more entered.log l

  function_is : n.frame.function ≡ f
  function_is = ap (λ (x : placed.Frame). x.function) entered.frame ∙ may.function

  small : top < 2 ^ 32
  small = let high = may.amid.stands.frame.high in let memory = may.lawful.memory in omega (arith, high, memory)

  -- ---- the words of arguments are where they were

  register_stays : (r : ℕ) → 20 < r → register entered.core r ≡ register l.core r
  register_stays r high = entered.registers r (λ e. omega (arith, e, high)) (none_of_webs f r (entered_webs f) high own)

  byte_stays : (a : ℕ) → 4 < length args → top - f.frame - arguments_size (length args) ≤ a → a < top - f.frame → entered.core.memory a ≡ l.core.memory a
  byte_stays a many from to = entered.leaves.memory a (record { objects = λ o lives. by_object o (may.clear many o lives); temps = λ offset c. inl (before_temps offset c) })
    where
      by_object : (o : ℕ) → (site o + size_of m.objects o ≤ top - f.frame - arguments_size (length args)) ⊎ (top - f.frame ≤ site o) → (a < site o) ⊎ (site o + size_of m.objects o ≤ a)
      by_object o (inl low) = inr (omega (arith, low, from))
      by_object o (inr high) = inl (omega (arith, high, to))

      before_temps : (offset : ℤ) → Contains m.frame.function.places (Slot offset) → a < offset_by top offset
      before_temps offset c =
          let g = m.frame.function in
          let there : slice_get g.places c.0 ≡ Some (Slot offset) = slice_get-get_or g.places c.0 (Slot offset) c.1 ∙ ap Some c.2 in
          let word : IsWordBelow w top (words_begin g) (words_size g) offset = places w site m.objects g top c.0 (Slot offset) may.amid.active.serves may.amid.stands.frame there in
          let at : offset_by top offset ≡ top - word.far = ap (offset_by top) word.is ∙ word_below top word.far word.inside small in
          let high = word.high in
          let inside = word.inside in
          let frame = (sizes g may.amid.active.serves).frame in
          let same : g.frame ≡ f.frame = ap (λ (x : Located). x.frame) may.function in
          omega (arith, at, high, inside, frame, same, to)

  argument_stays : (k : ℕ) → k < length args → argument_word entered.core (register entered.core stack_pointer - f.frame) k ≡ argument_word l.core (top - f.frame) k
  argument_stays k less = by_place (nat_lt k 4) refl
    where
      by_place : (t : Bool) → nat_lt k 4 ≡ t → argument_word entered.core (register entered.core stack_pointer - f.frame) k ≡ argument_word l.core (top - f.frame) k
      by_place true is =
          let few = ltb-true k 4 is in
          ap (λ (t : Bool). if t then register entered.core (26 - k) else number_at 4 entered.core.memory (register entered.core stack_pointer - f.frame - (first_stacked + 4 * (k - 4)))) is
          ∙ (register_stays (26 - k) (omega (arith, few))
          ∙ sym (ap (λ (t : Bool). if t then register l.core (26 - k) else number_at 4 l.core.memory (top - f.frame - (first_stacked + 4 * (k - 4)))) is))
      by_place false is =
          let many = ltb-false k 4 is in
          let stacked = may.stacked (omega (arith, many, less)) in
          ap (λ (t : Bool). if t then register entered.core (26 - k) else number_at 4 entered.core.memory (register entered.core stack_pointer - f.frame - (first_stacked + 4 * (k - 4)))) is
          ∙ (ap (λ x. number_at 4 entered.core.memory (x - f.frame - (first_stacked + 4 * (k - 4)))) entered.leaves.top
          ∙ (same_number 4 (top - f.frame - (first_stacked + 4 * (k - 4))) entered.core.memory l.core.memory
          (λ a from to. byte_stays a (omega (arith, many, less)) (omega (arith, from, many, less, stacked)) (omega (arith, to, many, less, stacked)))
          ∙ sym (ap (λ (t : Bool). if t then register l.core (26 - k) else number_at 4 l.core.memory (top - f.frame - (first_stacked + 4 * (k - 4)))) is)))

  -- ---- parameters

  takes : MayTake lp w site args n behind.core
  takes =
      let a = entered.amid in
      let frame : n.frame.function.frame ≡ f.frame = ap (λ (x : Located). x.frame) function_is in
      let params : n.frame.function.body.params ≡ f.body.params = ap (λ (x : Located). x.body.params) function_is in
      let temps : n.frame.function.body.temps ≡ f.body.temps = ap (λ (x : Located). x.body.temps) function_is in
      let few = may.body.params in
      let top_same = entered.leaves.top in
      record {
        lawful = may.lawful;
        stands = a.stands;
        serves = a.active.serves;
        room = a.active.room;
        count = may.count ∙ sym params;
        few = omega (arith, few, params, temps);
        words = λ k v e.
            let same = ap (λ x. argument_word entered.core (register entered.core stack_pointer - x) k) frame ∙ argument_stays k (slice_get_within args k v e) in
            let both = may.words k v e in (
              subst (ValueStands (address p w site) v) (sym same) both.0,
              subst (λ x. x < 2 ^ 32) (sym same) both.1,
            );
        stacked = λ many. (let room = may.stacked many in omega (arith, room, top_same, frame));
      }

  may_settle : MaySettle p w functions site args b n behind
  may_settle = record {
    amid = subst (λ (g : Located). BothAmid p w site (lines_behind_webs g) n behind) (sym function_is) entered.amid;
    takes = takes;
    known = known_after p m n entered.frame entered.same.callers entered.same.count may.known;
    block = ap (λ (x : Located). slice_get x.body.blocks 0) function_is ∙ may.block;
    at = ap (λ (x : placed.Frame). x.block) entered.frame ∙ may.at;
    ops = ap (λ (x : placed.Frame). x.ops) entered.frame ∙ may.ops;
    end = ap (λ (x : placed.Frame). x.end) entered.frame ∙ may.end;
  }

  settled : Settles p w functions scratch site args b n behind
  settled = settle p w functions scratch site args b n behind may_settle

  -- by the function that is active
  goes_in_by : GoesIn p functions w scratch site n.frame.function b args m n l
  goes_in_by =
      let g = n.frame.function in
      let items = items_from g 0 b.ops b.end in
      let all = laws.passes lp w scratch l (slotted (lines_behind_webs f)) items entered.core settled.core entered.log [] entered.passes settled.passes in
      let s = settled.stands in
      let shown = parameters_shown 0 args n in
      record {
        core = settled.core;
        log = entered.log;
        passes = all;
        leaves = laws.compose site m n l.core entered.core settled.core entered.same entered.leaves settled.leaves;
        stands = record { stands = s.stands; active = s.active; top = s.top; later = s.later; old = s.old; left = s.left; inside = s.inside; callers = s.callers };
        shown = (shown.rest ∙ entered.shown.0, shown.read ∙ entered.shown.1, shown.out ∙ entered.shown.2, shown.events ∙ entered.shown.3);
        logs = λ alike. subst (λ (ys : List (Event Byte Value)). AreAlike (EventInWords p w.named) ys (entered.log ++ l.trace)) (sym shown.trace) (entered.logs alike);
        own = entered.own;
        quiet = entered.quiet;
        noted = shown.trace ∙ entered.noted;
      }

  pub function_goes_in : GoesIn p functions w scratch site f b args m n l
  function_goes_in = subst (λ (g : Located). GoesIn p functions w scratch site g b args m n l) function_is goes_in_by
