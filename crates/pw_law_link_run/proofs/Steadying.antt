-- A state in level is steady, and a step leads to one in level.
use Rattle.std.specs.Prelude.{ℕ, ℤ, zero, suc, ◌≡◌, ◌≢◌, ◌+◌, ◌-◌, ◌^◌, ◌%◌, ◌==◌, ◌&&◌, Bool, true, false, if◌then◌else◌, Option, Some, None, List, [], ◌∷◌, ◌++◌}
use Rattle.std.specs.List.{AllByRecursion}
use Rattle.std.specs.Str.{bytes_eq}
use Rattle.std.proofs.Common.{subst, sym, ap, refl, ◌∙◌}
use Rattle.std.proofs.lemmas.Bool.{and_parts, eqb-true}
use Rattle.pw_value.specs.ProgramNames.{getchar_name, putchar_name}
use Rattle.pw_inst.specs.declared.Inst.TheVariants as i
use Rattle.pw_inst.specs.declared.relocation.Symbol.TheVariants as symbol
use Rattle.pw_inst.specs.Computing.{condition}
use Rattle.pw_delay.specs.declared.items.Word.{Word}
use Rattle.pw_delay.specs.declared.items.Turn.{Turn}
use Rattle.pw_delay.specs.declared.items.Turn.TheVariants.{Back, Goto, If, CallTo, CallReg, Leave}
use Rattle.pw_delay.specs.declared.items.Item.{Item}
use Rattle.pw_delay.specs.declared.items.Item.TheVariants.{Plain, Turns, Mark}
use Rattle.pw_run_languages.specs.Traces.{Event}
use Rattle.pw_run_languages.specs.Programs.{Library, GetChar, PutChar, Exit, library_at}
use Rattle.pw_run_languages.specs.Acts as lines
use Rattle.pw_run_languages.specs.LineRun.{LineFn, Frame, Machine, Step, On, Stopped, Astray, left_behind, counted, return_address, does, goes_to, to_block, from_mark, back_over, goes_back, words_back, library, calls, calls_at, function_at, function_named, and_then, through_slot, routine, result_of, scratch_registers, with_scratch, with_result, returns, turned, step, steps, IsCalling}
use Rattle.pw_law_link_run.specs.Steps.{Setting}
use Rattle.pw_law_link_run.specs.Simulating.{IsFit, IsLinked, IsCalm}
use Rattle.pw_law_link_run.specs.Slots.{IsSlotFit, SlotDoes, behind_slot, behind_branch}
use Rattle.pw_law_link_run.specs.Meeting.{StepCalm, IsTurning, IsReturn, AtTurn, AtReturn, IsSteady}
use Rattle.pw_law_link_run.specs.Routines.{IsSteadyRun, to_routine, after_routine}
use Rattle.pw_law_link_run.specs.Leveled.{IsRaised, IsPassing, AreFramed, ChainFrom, IsInLevel, StepLevel}
use Rattle.pw_law_link_run.proofs.Items.{behind_all, counted_behind, passed_behind}
use Rattle.pw_law_link_run.proofs.Slots.{slot_by, slot_runs}
use Rattle.pw_law_link_run.proofs.Calls.{after_return}
use Rattle.pw_law_link_run.proofs.Library.{after_answer}
use Rattle.pw_law_link_run.proofs.Entering.{finds, called_by, calls_are, calls_astray, after_call, branched}
use Rattle.pw_law_link_run.proofs.Running.{last_step}
use Rattle.pw_law_link_run.proofs.Levels.{raised_high, calm_inside, calm_past, callers_saved, all_saved}
use Rattle.pw_law_link_run.proofs.Keeping.{Keeps, keeps_calm, word_keeps, block_keeps, turn_keeps, goes_keeps, loop_keeps, enters_level, returns_keeps}

-- and not where a function begins
abbrev pub StepKeeps : (x : Setting) → AreFramed x → Step → Type 0
StepKeeps x fr (On t) = Keeps x fr t
StepKeeps x fr (Stopped end t) = Unit {0}
StepKeeps x fr Astray = Unit {0}

level_of : (x : Setting) (fr : AreFramed x) (s : Step) → StepKeeps x fr s → StepLevel x fr s
level_of x fr (On t) k = k.level
level_of x fr (Stopped end t) k = tt
level_of x fr Astray k = tt

calm_of : (x : Setting) → IsLinked x → (fr : AreFramed x) (s : Step) → StepKeeps x fr s → (t : Machine) → s ≡ On t → IsCalm x t
calm_of x l fr s k t e = keeps_calm x l fr t (subst (λ s. StepKeeps x fr s) e k)

-- ---- by kinds of item

word_steps : (x : Setting) (fr : AreFramed x) (m : Machine) (w : Word) (rest : List Item) → IsInLevel x fr (left_behind (Plain w ∷ rest) m) → (s : Step)
    → does x.program x.addresses w (left_behind rest m) ≡ s → StepKeeps x fr s
word_steps x fr m w rest h (On t) e = word_keeps x fr m t w rest h e
word_steps x fr m w rest h (Stopped end t) e = tt
word_steps x fr m w rest h Astray e = tt

-- a turn at which the stack pointer is at the end of the frame
abbrev TurnAt : (x : Setting) → AreFramed x → Machine → Item → List Item → Type 0
TurnAt x fr m item rest = IsInLevel x fr (left_behind (item ∷ rest) m)

raised_at : (x : Setting) (fr : AreFramed x) (m : Machine) (item : Item) (rest : List Item) → IsTurning item → (h : TurnAt x fr m item rest)
    → IsRaised x m.frame.function m.frame.stack m.core
raised_at x fr m item rest turning h = (fr.framed m.frame.function h.there).leveled.turn h.before rest item m.frame.stack m.core h.parts turning h.holds

-- behind the slot of a turn, where the branch leaves the stack pointer
raised_behind : (x : Setting) (fr : AreFramed x) (m : Machine) (turn : Turn) (slot : Option Word) (rest : List Item) (c d : lines.Core) (es : List (Event ℕ ℕ)) → IsTurning (Turns turn slot)
    → (h : TurnAt x fr m (Turns turn slot) rest) → c.skip ≡ false → lines.register c 30 ≡ lines.register m.core 30 → SlotDoes x slot c d es
    → IsRaised x m.frame.function m.frame.stack d
raised_behind x fr m turn None rest c d es turning h run same does =
    let raised = raised_at x fr m (Turns turn None) rest turning h in
    record { bounds = raised.bounds; pointer = ap (λ (c : lines.Core). lines.register c 30) does.0 ∙ (same ∙ raised.pointer) }
raised_behind x fr m turn (Some word) rest c d es turning h run same does =
    let f = m.frame.function in
    let raised = raised_at x fr m (Turns turn (Some word)) rest turning h in
    let here : IsRaised x f m.frame.stack c = record { bounds = raised.bounds; pointer = same ∙ raised.pointer } in
    let stays = (fr.framed f h.there).leveled.slot h.before rest turn word m.frame.stack c d h.parts turning here run does.0 in
    record { bounds = raised.bounds; pointer = stays ∙ here.pointer }

to_steps : (x : Setting) (fr : AreFramed x) (m : Machine) (item : Item) (rest : List Item) (b : ℕ) (d : lines.Core) (es : List (Event ℕ ℕ)) → (h : TurnAt x fr m item rest)
    → IsRaised x m.frame.function m.frame.stack d → StepKeeps x fr (to_block b (counted_behind d es m item rest))
to_steps x fr m item rest b d es h raised = by (from_mark b m.frame.function.items) refl
  where
    by : (o : Option (List Item)) → from_mark b m.frame.function.items ≡ o → StepKeeps x fr (goes_to o (counted_behind d es m item rest))
    by None e = tt
    by (Some items) e = goes_keeps x fr (left_behind items (counted_behind d es m item rest)) b h.there e raised h.chain

behind_steps : (x : Setting) (fr : AreFramed x) (m : Machine) (item : Item) (rest : List Item) (d : lines.Core) (es : List (Event ℕ ℕ)) → IsTurning item → IsPassing item → (h : TurnAt x fr m item rest)
    → IsRaised x m.frame.function m.frame.stack d → StepKeeps x fr (On (passed_behind d es m rest))
behind_steps x fr m item rest d es turning passes h raised =
    turn_keeps x fr (passed_behind d es m rest) h.before rest item h.there h.parts turning passes refl raised h.chain

back_steps : (x : Setting) (fr : AreFramed x) (m : Machine) (item : Item) (rest : List Item) (o : Option ℕ) (d : lines.Core) (es : List (Event ℕ ℕ)) → IsTurning item → (h : TurnAt x fr m item rest)
    → IsRaised x m.frame.function m.frame.stack d → StepKeeps x fr (goes_back o (item ∷ rest) (counted_behind d es m item rest))
back_steps x fr m item rest None d es turning h raised = tt
back_steps x fr m item rest (Some n) d es turning h raised = by (back_over n (item ∷ rest) m.frame.function.items) refl
  where
    by : (o : Option (List Item)) → back_over n (item ∷ rest) m.frame.function.items ≡ o → StepKeeps x fr (goes_to o (counted_behind d es m item rest))
    by None e = tt
    by (Some from) e = loop_keeps x fr (left_behind from (counted_behind d es m item rest)) h.before rest item n h.there h.parts turning e raised h.chain

choice_steps : (x : Setting) (fr : AreFramed x) (b : Bool) (s t : Step) → StepKeeps x fr s → StepKeeps x fr t → StepKeeps x fr (if b then s else t)
choice_steps x fr true s t h k = h
choice_steps x fr false s t h k = k

-- through the slot, by the state behind it
slot_keeps : (x : Setting) (fr : AreFramed x) (slot : Option Word) (m : Machine) (next : Machine → Step)
    → ((d : lines.Core) (es : List (Event ℕ ℕ)) → SlotDoes x slot m.core d es → StepKeeps x fr (next (behind_slot d es m)))
    → StepKeeps x fr (through_slot x.program x.addresses slot next m)
slot_keeps x fr slot m next go = slot_by x slot m next (λ s. StepKeeps x fr s) (λ word is full. tt) tt go

-- ---- calls

-- a function of the library leaves the stack pointer and the frame
library_steps : (x : Setting) (fr : AreFramed x) (m : Machine) (g : Library) (rest : List ℕ)
    → ((t : Machine) → lines.register t.core 30 ≡ lines.register m.core 30 → Keeps x fr (record t { frame = m.frame; callers = m.callers }))
    → StepKeeps x fr (library x.program x.addresses g (record m { rest = rest }))
library_steps x fr m GetChar [] k = k (after_answer x (record m { rest = [] }) getchar_name (2 ^ 32 - 1) [] m.read m.out) refl
library_steps x fr m GetChar (byte ∷ rest) k = k (after_answer x (record m { rest = byte ∷ rest }) getchar_name byte rest (m.read + 1) m.out) refl
library_steps x fr m PutChar rest k =
    let byte = lines.register m.core 26 % 256 in
    k (after_answer x (record m { rest = rest }) putchar_name byte rest m.read (m.out ++ byte ∷ [])) refl
library_steps x fr m Exit rest k = tt

-- by a state with the same frame and callers
behind_call : (x : Setting) (fr : AreFramed x) (m : Machine) (item : Item) (rest : List Item) → IsTurning item → IsPassing item → TurnAt x fr m item rest
    → (c : lines.Core) → IsRaised x m.frame.function m.frame.stack c
    → (t : Machine) → lines.register t.core 30 ≡ lines.register c 30 → Keeps x fr (record t { frame = (left_behind rest m).frame; callers = m.callers })
behind_call x fr m item rest turning passes h c raised t same =
    turn_keeps x fr (record t { frame = (left_behind rest m).frame; callers = m.callers }) h.before rest item h.there h.parts turning passes refl
    (record { bounds = raised.bounds; pointer = same ∙ raised.pointer }) h.chain

-- what is called by a name, from a state behind the slot of the turn
called_steps : (x : Setting) → IsLinked x → (fr : AreFramed x) (m : Machine) (item : Item) (rest : List Item) → IsCalling item → IsTurning item → IsPassing item
    → TurnAt x fr m item rest → (c : lines.Core) (es : List (Event ℕ ℕ)) → IsRaised x m.frame.function m.frame.stack c → c.skip ≡ false → (o : Option Library) (d : Option LineFn) (f : List ℕ)
    → function_named x.program f ≡ d → StepLevel x fr (called_by x (passed_behind c es m rest) o d) × (o ≢ None → StepKeeps x fr (called_by x (passed_behind c es m rest) o d))
called_steps x l fr m item rest calling turning passes h c es raised run (Some g) d f is =
    let k = library_steps x fr (passed_behind c es m rest) g m.rest (λ t r. behind_call x fr m item rest turning passes h c raised t r) in
    (level_of x fr (library x.program x.addresses g (passed_behind c es m rest)) k, λ some. k)
called_steps x l fr m item rest calling turning passes h c es raised run None (Some g) f is =
    let found = finds (λ g. bytes_eq g.located.body.name f) x.program.functions g is in (
      enters_level x l fr (passed_behind c es m rest) g h.before rest item found.there h.there h.parts calling refl raised h.chain run,
      λ some. absurd (some refl),
    )
called_steps x l fr m item rest calling turning passes h c es raised run None None f is = (tt, λ some. tt)

-- what a call comes to: in level, and by a function of the library not where a function begins
abbrev CallKeeps : (x : Setting) → AreFramed x → List ℕ → Step → Type 0
CallKeeps x fr f s = StepLevel x fr s × (library_at f ≢ None → StepKeeps x fr s)

calls_steps : (x : Setting) → IsLinked x → (fr : AreFramed x) (m : Machine) (item : Item) (rest : List Item) → IsCalling item → IsTurning item → IsPassing item
    → TurnAt x fr m item rest → (c : lines.Core) (es : List (Event ℕ ℕ)) → IsRaised x m.frame.function m.frame.stack c → c.skip ≡ false → (to : ℕ) (f : List ℕ)
    → CallKeeps x fr f (calls x.program x.addresses to f (passed_behind c es m rest))
calls_steps x l fr m item rest calling turning passes h c es raised run to f = by (lines.register c 2 == to) refl
  where
    s : Machine
    s = passed_behind c es m rest

    by : (b : Bool) → (lines.register c 2 == to) ≡ b → CallKeeps x fr f (calls x.program x.addresses to f s)
    by true is =
        let e = calls_are x s to f (library_at f) (function_named x.program f) refl refl (eqb-true (lines.register c 2) to is) in
        let both = called_steps x l fr m item rest calling turning passes h c es raised run (library_at f) (function_named x.program f) f refl in
        (subst (λ s. StepLevel x fr s) (sym e) both.0, λ some. subst (λ s. StepKeeps x fr s) (sym e) (both.1 some))
    by false is = let e = calls_astray x to s f is in (subst (λ s. StepLevel x fr s) (sym e) tt, λ some. subst (λ s. StepKeeps x fr s) (sym e) tt)

-- ---- a step

-- what is known where an item is passed
pub record Steady (x : Setting) (fr : AreFramed x) (m : Machine) (item : Item) (s : Step) : Type 0 where
  pub steady : IsSteady x m item s
  pub level : StepLevel x fr s

-- at a turn but a return
turning_steady : (x : Setting) → IsLinked x → (fr : AreFramed x) (m : Machine) (turn : Turn) (slot : Option Word) (rest : List Item) → IsTurning (Turns turn slot) → ¬ IsReturn (Turns turn slot)
    → TurnAt x fr m (Turns turn slot) rest → m.core.skip ≡ false
    → ((to : ℕ) → (behind_branch turn to m.core).skip ≡ false) → ((to : ℕ) → lines.register (behind_branch turn to m.core) 30 ≡ lines.register m.core 30) → (s : Step)
    → StepLevel x fr s → ((t : Machine) → s ≡ On t → StepCalm x (left_behind (Turns turn slot ∷ rest) m) (Turns turn slot) t) → Steady x fr (left_behind (Turns turn slot ∷ rest) m) (Turns turn slot) s
turning_steady x l fr m turn slot rest turning back h run runs same s level next =
    let item = Turns turn slot in
    let raised = raised_at x fr m item rest turning h in
    let s0 = left_behind (item ∷ rest) m in
    record {
      steady = record {
        high = λ t to d es does. raised_high x fr (behind_slot d es s0) h.there h.chain (raised_behind x fr m turn slot rest (behind_branch turn to m.core) d es turning h (runs to) (same to) does);
        inside = λ t. calm_inside x fr s0 item rest h.there refl (raised_high x fr s0 h.there h.chain raised);
        saved = λ t. all_saved x l fr s0 h.there h.chain raised.bounds;
        past = λ r. absurd (back r.0);
        saved_behind = λ r. absurd (back r.0);
        next = next;
      };
      level = level;
    }

abbrev TurnSteady : (x : Setting) → AreFramed x → (ℕ → (ℕ → ℕ) → ℕ → ℕ) → Turn → Option Word → Type 0
TurnSteady x fr scratch turn slot =
    (m : Machine) (rest : List Item) → TurnAt x fr m (Turns turn slot) rest → m.core.skip ≡ false
    → Steady x fr (left_behind (Turns turn slot ∷ rest) m) (Turns turn slot) (turned x.program x.addresses scratch turn slot (Turns turn slot ∷ rest) rest (left_behind (Turns turn slot ∷ rest) m))

goto_steady : (x : Setting) → IsLinked x → (fr : AreFramed x) (scratch : ℕ → (ℕ → ℕ) → ℕ → ℕ) (b : ℕ) (slot : Option Word) → TurnSteady x fr scratch (Goto b) slot
goto_steady x l fr scratch b slot m rest h run =
    let item = Turns (Goto b) slot in
    let u = counted (left_behind (item ∷ rest) m) in
    let s = through_slot x.program x.addresses slot (to_block b) u in
    let k = slot_keeps x fr slot u (to_block b) (λ d es does. to_steps x fr m item rest b d es h (raised_behind x fr m (Goto b) slot rest m.core d es tt h run refl does)) in
    turning_steady x l fr m (Goto b) slot rest tt (λ e. e) h run (λ to. run) (λ to. refl) s (level_of x fr s k) (calm_of x l fr s k)

if_steady : (x : Setting) → IsLinked x → (fr : AreFramed x) (scratch : ℕ → (ℕ → ℕ) → ℕ → ℕ) (r b : ℕ) (slot : Option Word) → TurnSteady x fr scratch (If r b) slot
if_steady x l fr scratch r b slot m rest h run =
    let item = Turns (If r b) slot in
    let u = counted (left_behind (item ∷ rest) m) in
    let one = through_slot x.program x.addresses slot (λ s. On s) (left_behind rest m) in
    let two = through_slot x.program x.addresses slot (to_block b) u in
    let s = if lines.register m.core r == 0 then one else two in
    let k = choice_steps x fr (lines.register m.core r == 0) one two
    (slot_keeps x fr slot (left_behind rest m) (λ s. On s) (λ d es does. behind_steps x fr m item rest d es tt tt h (raised_behind x fr m (If r b) slot rest m.core d es tt h run refl does)))
    (slot_keeps x fr slot u (to_block b) (λ d es does. to_steps x fr m item rest b d es h (raised_behind x fr m (If r b) slot rest m.core d es tt h run refl does))) in
    turning_steady x l fr m (If r b) slot rest tt (λ e. e) h run (λ to. run) (λ to. refl) s (level_of x fr s k) (calm_of x l fr s k)

back_steady : (x : Setting) → IsLinked x → (fr : AreFramed x) (scratch : ℕ → (ℕ → ℕ) → ℕ → ℕ) (j r u : ℕ) (disp : ℤ) (slot : Option Word) → TurnSteady x fr scratch (Back (i.Combf j r u disp)) slot
back_steady x l fr scratch j r u disp slot m rest h run =
    let turn = Back (i.Combf j r u disp) in
    let item = Turns turn slot in
    let m' = counted (left_behind (item ∷ rest) m) in
    let taken = if condition j (lines.register m.core r) (lines.register m.core u) then false else true in
    let one = through_slot x.program x.addresses slot (goes_back (words_back disp) (item ∷ rest)) m' in
    let two = through_slot x.program x.addresses slot (λ s. On s) (left_behind rest m) in
    let s = if taken then one else two in
    let k = choice_steps x fr taken one two
    (slot_keeps x fr slot m' (goes_back (words_back disp) (item ∷ rest)) (λ d es does. back_steps x fr m item rest (words_back disp) d es tt h (raised_behind x fr m turn slot rest m.core d es tt h run refl does)))
    (slot_keeps x fr slot (left_behind rest m) (λ s. On s) (λ d es does. behind_steps x fr m item rest d es tt tt h (raised_behind x fr m turn slot rest m.core d es tt h run refl does))) in
    turning_steady x l fr m turn slot rest tt (λ e. e) h run (λ to. run) (λ to. refl) s (level_of x fr s k) (calm_of x l fr s k)

named_steady : (x : Setting) → IsLinked x → (fr : AreFramed x) (scratch : ℕ → (ℕ → ℕ) → ℕ → ℕ) (f : List ℕ) (slot : Option Word) → IsSlotFit x slot → TurnSteady x fr scratch (CallTo (symbol.Named f) 2) slot
named_steady x l fr scratch f slot fit m rest h run =
    let turn = CallTo (symbol.Named f) 2 in
    let to = return_address x.addresses m.frame rest in
    let u = after_call x m rest in
    let s = through_slot x.program x.addresses slot (calls x.program x.addresses to f) u in
    let both : CallKeeps x fr f s = slot_by x slot u (calls x.program x.addresses to f) (λ s. CallKeeps x fr f s) (λ word is full. (tt, λ some. tt)) (tt, λ some. tt)
    (λ d es does. calls_steps x l fr m (Turns turn slot) rest tt tt tt h d es (raised_behind x fr m turn slot rest u.core d es tt h run refl does) (slot_runs x slot u.core d es fit run does) to f) in
    turning_steady x l fr m turn slot rest tt (λ e. e) h run (λ to. run) (λ to. refl) s both.0 (λ t e some. calm_of x l fr s (both.1 some) t e)

result_stays : (o : Option ℕ) (f : ℕ → ℕ) → with_result o f 30 ≡ f 30
result_stays None f = refl
result_stays (Some n) f = refl

routine_steady : (x : Setting) → IsLinked x → (fr : AreFramed x) (scratch : ℕ → (ℕ → ℕ) → ℕ → ℕ) (j : ℕ) (slot : Option Word) → TurnSteady x fr scratch (CallTo (symbol.Routine j) 31) slot
routine_steady x l fr scratch j slot m rest h run =
    let turn = CallTo (symbol.Routine j) 31 in
    let u = to_routine x m rest in
    let s = through_slot x.program x.addresses slot (routine scratch j) u in
    let k : StepKeeps x fr s = slot_keeps x fr slot u (routine scratch j) (λ d es does.
    behind_call x fr m (Turns turn slot) rest tt tt h d (raised_behind x fr m turn slot rest u.core d es tt h run refl does) (after_routine (behind_slot d es u) j (scratch j d.registers))
    (result_stays (result_of j (lines.register d 26) (lines.register d 25)) (with_scratch (scratch j d.registers) scratch_registers d.registers))) in
    turning_steady x l fr m turn slot rest tt (λ e. e) h run (λ to. run) (λ to. refl) s (level_of x fr s k) (calm_of x l fr s k)

abbrev ValueKeeps : (x : Setting) → AreFramed x → Option (List ℕ) → Step → Type 0
ValueKeeps x fr o s = StepLevel x fr s × ((f : List ℕ) → o ≡ Some f → library_at f ≢ None → StepKeeps x fr s)

value_steady : (x : Setting) → IsLinked x → (fr : AreFramed x) (scratch : ℕ → (ℕ → ℕ) → ℕ → ℕ) (slot : Option Word) → IsSlotFit x slot → TurnSteady x fr scratch CallReg slot
value_steady x l fr scratch slot fit m rest h run =
    let o = function_at x.program x.addresses (lines.register m.core 22) in
    let next = calls_at x.program x.addresses (return_address x.addresses m.frame rest) o in
    let u = branched x m rest in
    let s = through_slot x.program x.addresses slot next u in
    let both : ValueKeeps x fr o s = slot_by x slot u next (λ s. ValueKeeps x fr o s) (λ word is full. (tt, λ f is some. tt)) (tt, λ f is some. tt)
    (λ d es does. by d es (raised_behind x fr m CallReg slot rest u.core d es tt h run refl does) (slot_runs x slot u.core d es fit run does) o) in
    turning_steady x l fr m CallReg slot rest tt (λ e. e) h run (λ to. run) (λ to. refl) s both.0 (λ t same f is some. calm_of x l fr s (both.1 f is some) t same)
  where
    by : (d : lines.Core) (es : List (Event ℕ ℕ)) → IsRaised x m.frame.function m.frame.stack d → d.skip ≡ false → (o : Option (List ℕ))
        → ValueKeeps x fr o (calls_at x.program x.addresses (return_address x.addresses m.frame rest) o (passed_behind d es m rest))
    by d es raised on None = (tt, λ f is some. tt)
    by d es raised on (Some f) =
        let both = calls_steps x l fr m (Turns CallReg slot) rest tt tt tt h d es raised on (return_address x.addresses m.frame rest) f in
        (both.0, λ g is some. both.1 (subst (λ (g : List ℕ). library_at g ≢ None) (let same : g ≡ f = cc in same) some))

leave_by : (x : Setting) (fr : AreFramed x) (s t : Machine) (g : Frame) (gs : List Frame) (b : Bool) → ChainFrom x s.frame.stack (g ∷ gs) → (b ≡ true → lines.register t.core 30 ≡ s.frame.stack)
    → StepKeeps x fr (if b then On (record t { frame = g; callers = gs }) else Astray)
leave_by x fr s t g gs true chain pointer = returns_keeps x fr t s.frame.stack g gs chain (pointer refl)
leave_by x fr s t g gs false chain pointer = tt

leave_steps : (x : Setting) (fr : AreFramed x) (m : Machine) (to : ℕ) (rest : List Item) (d : lines.Core) (es : List (Event ℕ ℕ)) (callers : List Frame) → ChainFrom x m.frame.stack callers
    → StepKeeps x fr (returns x.program x.addresses to (behind_slot d es (record (left_behind rest m) { callers = callers })))
leave_steps x fr m to rest d es [] chain = tt
leave_steps x fr m to rest d es (g ∷ gs) chain =
    let s = behind_slot d es (record (left_behind rest m) { callers = g ∷ gs }) in
    let one = to == return_address x.addresses g g.left in
    let two = lines.register d 30 == m.frame.stack in
    leave_by x fr s (after_return x s g gs) g gs (one && two) chain (λ e. eqb-true (lines.register d 30) m.frame.stack (and_parts one two e).1)

leave_steady : (x : Setting) → IsLinked x → (fr : AreFramed x) (scratch : ℕ → (ℕ → ℕ) → ℕ → ℕ) (slot : Option Word) → TurnSteady x fr scratch Leave slot
leave_steady x l fr scratch slot m rest h run =
    let next = returns x.program x.addresses (lines.register m.core 2) in
    let s = through_slot x.program x.addresses slot next (left_behind rest m) in
    let k = slot_keeps x fr slot (left_behind rest m) next (λ d es does. leave_steps x fr m (lines.register m.core 2) rest d es m.callers h.chain) in
    record {
      steady = record {
        high = λ t. absurd t.0;
        inside = λ t. absurd t.0;
        saved = λ t. absurd t.0;
        past = λ r. calm_past x l fr m slot rest h;
        saved_behind = λ r. callers_saved x l fr m.frame.stack m.callers h.chain;
        next = calm_of x l fr s k;
      };
      level = level_of x fr s k;
    }

-- ---- by what is next

turn_steady : (x : Setting) → IsLinked x → (fr : AreFramed x) (scratch : ℕ → (ℕ → ℕ) → ℕ → ℕ) (turn : Turn) (slot : Option Word) → IsFit x (Turns turn slot)
    → TurnSteady x fr scratch turn slot
turn_steady x l fr scratch (Goto b) slot fit = goto_steady x l fr scratch b slot
turn_steady x l fr scratch (If r b) slot fit = if_steady x l fr scratch r b slot
turn_steady x l fr scratch (Back (i.Combf j r u disp)) slot fit = back_steady x l fr scratch j r u disp slot
turn_steady x l fr scratch (Back _) slot fit = absurd fit
turn_steady x l fr scratch (CallTo (symbol.Named f) link) slot fit =
    subst (λ v. TurnSteady x fr scratch (CallTo (symbol.Named f) v) slot) (sym fit.0) (named_steady x l fr scratch f slot fit.1)
turn_steady x l fr scratch (CallTo (symbol.Routine j) link) slot fit =
    subst (λ v. TurnSteady x fr scratch (CallTo (symbol.Routine j) v) slot) (sym fit.0) (routine_steady x l fr scratch j slot)
turn_steady x l fr scratch (CallTo symbol.StackLimit link) slot fit = absurd fit
turn_steady x l fr scratch (CallTo (symbol.Word j) link) slot fit = absurd fit
turn_steady x l fr scratch CallReg slot fit = value_steady x l fr scratch slot fit
turn_steady x l fr scratch Leave slot fit = leave_steady x l fr scratch slot

-- nothing is asked where no turn is taken
no_turn : (x : Setting) (fr : AreFramed x) (m : Machine) (item : Item) (s : Step) → (AtTurn m item → ⊥) → (AtReturn m item → ⊥) → StepLevel x fr s
    → ((t : Machine) → s ≡ On t → StepCalm x m item t) → Steady x fr m item s
no_turn x fr m item s one two level next = record {
  steady = record {
    high = λ t. absurd (one t);
    inside = λ t. absurd (one t);
    saved = λ t. absurd (one t);
    past = λ r. absurd (two r);
    saved_behind = λ r. absurd (two r);
    next = next;
  };
  level = level;
}

-- a word that is passed over stops the lines at a turn
skip_steady : (x : Setting) → IsLinked x → (fr : AreFramed x) (scratch : ℕ → (ℕ → ℕ) → ℕ → ℕ) (m : Machine) (turn : Turn) (slot : Option Word) (rest : List Item) → IsFit x (Turns turn slot)
    → TurnAt x fr m (Turns turn slot) rest → (b : Bool) → m.core.skip ≡ b
    → Steady x fr (left_behind (Turns turn slot ∷ rest) m) (Turns turn slot)
    (if b then Astray else turned x.program x.addresses scratch turn slot (Turns turn slot ∷ rest) rest (left_behind (Turns turn slot ∷ rest) m))
skip_steady x l fr scratch m turn slot rest fit h false run = turn_steady x l fr scratch turn slot fit m rest h run
skip_steady x l fr scratch m turn slot rest fit h true run =
    no_turn x fr (left_behind (Turns turn slot ∷ rest) m) (Turns turn slot) Astray
    (λ t. let e : true ≡ false = sym run ∙ t.1 in cc) (λ t. let e : true ≡ false = sym run ∙ t.1 in cc) tt (λ t e. absurd cc)

pub step_steady : (x : Setting) → IsLinked x → (fr : AreFramed x) (scratch : ℕ → (ℕ → ℕ) → ℕ → ℕ) (m : Machine) (left : List Item) → AllByRecursion (IsFit x) left → IsInLevel x fr (left_behind left m)
    → (item : Item) (rest : List Item) → left ≡ item ∷ rest → Steady x fr (left_behind left m) item (step x.program x.addresses scratch (left_behind left m))
unfolding step
step_steady x l fr scratch m [] fits h item rest e = absurd cc
step_steady x l fr scratch m (Plain w ∷ left) fits h item rest e =
    let k = word_steps x fr m w left h (does x.program x.addresses w (left_behind left m)) refl in
    let same : Plain w ≡ item = cc in
    subst (λ item. Steady x fr (left_behind (Plain w ∷ left) m) item (does x.program x.addresses w (left_behind left m))) same
    (no_turn x fr (left_behind (Plain w ∷ left) m) (Plain w) (does x.program x.addresses w (left_behind left m)) (λ t. t.0) (λ t. t.0)
    (level_of x fr (does x.program x.addresses w (left_behind left m)) k) (calm_of x l fr (does x.program x.addresses w (left_behind left m)) k))
step_steady x l fr scratch m (Mark b ∷ left) fits h item rest e =
    let f = m.frame.function in
    let raised = (fr.framed f h.there).leveled.block h.before left b m.frame.stack m.core h.parts h.holds in
    let k : StepKeeps x fr (On (left_behind left m)) = block_keeps x fr (left_behind left m) h.before left b h.there h.parts refl raised h.chain in
    let same : Mark b ≡ item = cc in
    subst (λ item. Steady x fr (left_behind (Mark b ∷ left) m) item (On (left_behind left m))) same
    (no_turn x fr (left_behind (Mark b ∷ left) m) (Mark b) (On (left_behind left m)) (λ t. t.0) (λ t. t.0) (level_of x fr (On (left_behind left m)) k) (calm_of x l fr (On (left_behind left m)) k))
step_steady x l fr scratch m (Turns turn slot ∷ left) fits h item rest e =
    let same : Turns turn slot ≡ item = cc in
    subst (λ item. Steady x fr (left_behind (Turns turn slot ∷ left) m) item
    (if m.core.skip then Astray else turned x.program x.addresses scratch turn slot (Turns turn slot ∷ left) left (left_behind (Turns turn slot ∷ left) m))) same
    (skip_steady x l fr scratch m turn slot left fits.0 h m.core.skip refl)

-- ---- the run

fits_left : (x : Setting) → IsLinked x → (fr : AreFramed x) (m : Machine) → IsInLevel x fr m → AllByRecursion (IsFit x) m.frame.left
fits_left x l fr m h =
    behind_all (IsFit x) h.before m.frame.left (subst (λ items. AllByRecursion (IsFit x) items) h.parts (l.fits m.frame.function h.there))

nothing_left : (x : Setting) (fr : AreFramed x) (scratch : ℕ → (ℕ → ℕ) → ℕ → ℕ) (m : Machine) → StepLevel x fr (step x.program x.addresses scratch (left_behind [] m))
unfolding step
nothing_left x fr scratch m = tt

more_level : (x : Setting) → IsLinked x → (fr : AreFramed x) (scratch : ℕ → (ℕ → ℕ) → ℕ → ℕ) (s : Step) → StepLevel x fr s → StepLevel x fr (and_then s (step x.program x.addresses scratch))
more_level x l fr scratch (On m) h = by m.frame.left refl
  where
    by : (left : List Item) → m.frame.left ≡ left → StepLevel x fr (step x.program x.addresses scratch m)
    by [] e = subst (λ (m : Machine). StepLevel x fr (step x.program x.addresses scratch m)) (ap (λ left. left_behind left m) (sym e)) (nothing_left x fr scratch m)
    by (item ∷ rest) e = (step_steady x l fr scratch m m.frame.left (fits_left x l fr m h) h item rest e).level
more_level x l fr scratch (Stopped end m) h = tt
more_level x l fr scratch Astray h = tt

pub levels : (x : Setting) → IsLinked x → (fr : AreFramed x) (scratch : ℕ → (ℕ → ℕ) → ℕ → ℕ) (s : Step) → StepLevel x fr s → (n : ℕ) → StepLevel x fr (steps x.program x.addresses scratch n s)
unfolding steps
levels x l fr scratch s h zero = h
levels x l fr scratch s h (suc n) = subst (λ t. StepLevel x fr t) (sym (last_step x scratch n s)) (more_level x l fr scratch (steps x.program x.addresses scratch n s) (levels x l fr scratch s h n))

-- Where the items of each function keep the stack pointer, each state of the run is steady.
pub runs_are_steady : (x : Setting) → IsLinked x → (fr : AreFramed x) (scratch : ℕ → (ℕ → ℕ) → ℕ → ℕ) (s : Step) → StepLevel x fr s → IsSteadyRun x scratch s
runs_are_steady x l fr scratch s h n m item rest e left =
    let level : IsInLevel x fr m = subst (λ t. StepLevel x fr t) e (levels x l fr scratch s h n) in
    (step_steady x l fr scratch m m.frame.left (fits_left x l fr m level) level item rest left).steady
