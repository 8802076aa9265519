-- One step of the lines, and what the machine comes to from a state that shows the one before.
use Rattle.std.specs.Prelude.{ℕ, ℤ, suc, ◌≡◌, ◌+◌, ◌<◌, ◌==◌, Bool, true, false, if◌then◌else◌, Option, Some, None, List, [], ◌∷◌}
use Rattle.std.proofs.Common.{arith, subst, sym, ap, refl, ◌∙◌}
use Rattle.pw_inst.specs.declared.Inst.{Inst}
use Rattle.pw_inst.specs.declared.Inst.TheVariants as i
use Rattle.pw_inst.specs.declared.relocation.Symbol.TheVariants as symbol
use Rattle.pw_inst.specs.Computing.{condition}
use Rattle.pw_delay.specs.declared.items.Word.{Word}
use Rattle.pw_delay.specs.declared.items.Turn.{Turn}
use Rattle.pw_delay.specs.declared.items.Turn.TheVariants.{Back, Goto, If, CallTo, CallReg, Leave}
use Rattle.pw_delay.specs.declared.items.Item.{Item}
use Rattle.pw_delay.specs.declared.items.Item.TheVariants.{Plain, Turns, Mark}
use Rattle.pw_run.specs.Runs.{End, StackFull}
use Rattle.pw_run_languages.specs.Traces.{Event}
use Rattle.pw_run_languages.specs.Acts as lines
use Rattle.pw_run_languages.specs.Acts.{Act, Acts, Full, Fails, acts, settled}
use Rattle.pw_run_languages.specs.LineRun.{Frame, Machine, Step, On, Stopped, Astray, left_behind, counted, does, went_on, goes_to, to_block, from_mark, goes_back, words_back, returns, through_slot, turned, step}
use Rattle.pw_law_link_run.specs.Steps.{Setting, AreInData}
use Rattle.pw_law_link_run.specs.Simulating.{calls_behind, noted_by, IsFit, IsLinked, Simulates, IsCalm, IsCalmPast, HasLibrary}
use Rattle.pw_law_link_run.specs.Slots.{IsSlotFit, SlotDoes, behind_slot}
use Rattle.pw_law_link_run.specs.Meeting.{RunsTo, EndsSo, Meets, IsSteady}
use Rattle.pw_law_link_run.proofs.Placed.{left_stands}
use Rattle.pw_law_link_run.proofs.Stepping.{full_at_front}
use Rattle.pw_law_link_run.proofs.Items.{left_fit, here_in_text, counted_behind, passed_behind, word_simulates, mark_simulates, goto_acted, if_acted, back_acted}
use Rattle.pw_law_link_run.proofs.Slots.{slot_goes}
use Rattle.pw_law_link_run.proofs.Calls.{return_acted}
use Rattle.pw_law_link_run.proofs.Entering.{named_meets, values_meet}
use Rattle.pw_law_link_run.specs.Routines.{HasRoutines, LeaveSo}
use Rattle.pw_law_link_run.proofs.Routines.{routine_meets}

-- ---- words

-- a word that stops the lines stops the machine
record Fills (x : Setting) (word : Word) (m t : Machine) (end : End) : Type 0 where
  pub inst : Inst
  pub is : settled x.addresses word ≡ Some inst
  pub acts : acts x.addresses (Some inst) m.core ≡ Full
  pub same : t ≡ m
  pub end_is : end ≡ StackFull

stopped_same : (e f : End) (m t : Machine) → Stopped e m ≡ Stopped f t → (f ≡ e) × (t ≡ m)
stopped_same e f m t h = (cc, cc)

fills_by : (x : Setting) (word : Word) (m t : Machine) (end : End) (i : Inst) (a : Act) → settled x.addresses word ≡ Some i → acts x.addresses (Some i) m.core ≡ a
    → went_on x.program x.addresses (Some i) a m ≡ Stopped end t → Fills x word m t end
fills_by x word m t end i (Acts c) s e h = absurd cc
fills_by x word m t end i Full s e h = let same = stopped_same StackFull end m t h in record { inst = i; is = s; acts = e; same = same.1; end_is = same.0 }
fills_by x word m t end i Fails s e h = absurd cc

fills : (x : Setting) (word : Word) (m t : Machine) (end : End) (o : Option Inst) → settled x.addresses word ≡ o
    → went_on x.program x.addresses o (acts x.addresses o m.core) m ≡ Stopped end t → Fills x word m t end
fills x word m t end None s h = absurd cc
fills x word m t end (Some i) s h = fills_by x word m t end i (acts x.addresses (Some i) m.core) s refl h

word_ends : (x : Setting) → IsLinked x → (k : ℕ) (m t : Machine) (end : End) (word : Word) (rest : List Item) → Simulates x (left_behind (Plain word ∷ rest) m) k
    → does x.program x.addresses word (left_behind rest m) ≡ Stopped end t → EndsSo x end t
word_ends x l k m t end word rest h e =
    let s = left_behind rest m in
    let f = fills x word s t end (settled x.addresses word) refl e in
    let fit = left_fit x l m.frame.function h.there (Plain word ∷ rest) h.address h.left in
    let stands = left_stands x m.frame.function (l.stands m.frame.function h.there) (Plain word ∷ rest) h.address h.left in
    let halt = full_at_front x k m.core h.address (h.address + 4) m.rest m.out (noted_by x s) f.inst l.setting h.at
    (here_in_text x l m.frame.function h.there (Plain word ∷ rest) h.address h.left) (stands.0 ∙ f.is) (fit.0 f.inst f.is) f.acts in
    subst (λ (end : End). EndsSo x end t) (sym f.end_is)
    (subst (λ (t : Machine). EndsSo x StackFull t) (sym f.same) (record {
      steps = suc k;
      core = halt.core;
      runs = halt.runs;
      log = ap (λ n. n.log) halt.notes;
      events = omega (arith, h.events);
      read = h.read;
    }))

word_meets : (x : Setting) → IsLinked x → (k : ℕ) (m : Machine) (word : Word) (rest : List Item) → Simulates x (left_behind (Plain word ∷ rest) m) k
    → (s : Step) → does x.program x.addresses word (left_behind rest m) ≡ s → ((t : Machine) → s ≡ On t → IsCalm x t) → Meets x s
word_meets x l k m word rest h (On t) e calm = record { steps = suc k; simulates = word_simulates x l k m t word rest h e (calm t refl) }
word_meets x l k m word rest h (Stopped end t) e calm = word_ends x l k m t end word rest h e
word_meets x l k m word rest h Astray e calm = tt

-- ---- turns

-- what goes to a place goes on, or goes wrong
goes_on_alone : (o : Option (List Item)) (m t : Machine) (end : End) → goes_to o m ≡ Stopped end t → ⊥
goes_on_alone None m t end e = cc
goes_on_alone (Some items) m t end e = cc

back_to_alone : (o : Option ℕ) (here : List Item) (m t : Machine) (end : End) → goes_back o here m ≡ Stopped end t → ⊥
back_to_alone None here m t end e = cc
back_to_alone (Some n) here m t end e = goes_on_alone _ m t end e

return_alone : (b : Bool) (u t : Machine) (end : End) → (if b then On u else Astray) ≡ Stopped end t → ⊥
return_alone true u t end e = cc
return_alone false u t end e = cc

-- a step that goes on, or goes wrong, by the state that it goes on to
on_meets : (x : Setting) (s : Step) → ((t : Machine) (end : End) → s ≡ Stopped end t → ⊥) → ((t : Machine) → s ≡ On t → RunsTo x t) → Meets x s
on_meets x (On t) alone on = on t refl
on_meets x (Stopped end t) alone on = absurd (alone t end refl)
on_meets x Astray alone on = tt

abbrev StepOf : Setting → (ℕ → (ℕ → ℕ) → ℕ → ℕ) → Machine → Turn → Option Word → List Item → Step
StepOf x scratch m turn slot rest = turned x.program x.addresses scratch turn slot (Turns turn slot ∷ rest) rest (left_behind (Turns turn slot ∷ rest) m)

-- a turn is met, where the lines are steady
abbrev TurnMeets : Setting → (ℕ → (ℕ → ℕ) → ℕ → ℕ) → Turn → Option Word → Type 0
TurnMeets x scratch turn slot =
    (k : ℕ) (m : Machine) (rest : List Item) → Simulates x (left_behind (Turns turn slot ∷ rest) m) k → m.core.skip ≡ false
    → IsSteady x (left_behind (Turns turn slot ∷ rest) m) (Turns turn slot) (StepOf x scratch m turn slot rest) → Meets x (StepOf x scratch m turn slot rest)

-- behind the slot, where the state that a step comes to is calm
abbrev CalmMeets : Setting → Step → Type 0
CalmMeets x s = ((t : Machine) → s ≡ On t → IsCalm x t) → Meets x s

fit_here : (x : Setting) → IsLinked x → (k : ℕ) (m : Machine) (item : Item) (rest : List Item) → Simulates x (left_behind (item ∷ rest) m) k → IsFit x item
fit_here x l k m item rest h = (left_fit x l m.frame.function h.there (item ∷ rest) h.address h.left).0

goto_meets : (x : Setting) → IsLinked x → (scratch : ℕ → (ℕ → ℕ) → ℕ → ℕ) (b : ℕ) (slot : Option Word) → TurnMeets x scratch (Goto b) slot
goto_meets x l scratch b slot k m rest h run steady =
    let u = counted (left_behind (Turns (Goto b) slot ∷ rest) m) in
    slot_goes x slot u (to_block b) (λ s. CalmMeets x s) (fit_here x l k m (Turns (Goto b) slot) rest h) run (λ calm. tt)
    (λ d es does calm.
    on_meets x (to_block b (behind_slot d es u)) (λ t end e. goes_on_alone (from_mark b m.frame.function.items) (behind_slot d es u) t end e)
    (λ t e. record { steps = suc (suc k); simulates = goto_acted x l k b slot m t rest d es h run does e (steady.inside (tt, run)) (calm t e) })) steady.next

if_alone : (b : Bool) (n : ℕ) (m u t : Machine) (end : End) → (if b then On m else to_block n u) ≡ Stopped end t → ⊥
if_alone true n m u t end e = cc
if_alone false n m u t end e = goes_on_alone (from_mark n u.frame.function.items) u t end e

if_meets : (x : Setting) → IsLinked x → (scratch : ℕ → (ℕ → ℕ) → ℕ → ℕ) (r b : ℕ) (slot : Option Word) → TurnMeets x scratch (If r b) slot
if_meets x l scratch r b slot k m rest h run steady = by (lines.register m.core r == 0) refl steady.next
  where
    item : Item
    item = Turns (If r b) slot

    fit : IsSlotFit x slot
    fit = fit_here x l k m item rest h

    goes : (null : Bool) → (lines.register m.core r == 0) ≡ null → (d : lines.Core) (es : List (Event ℕ ℕ)) → SlotDoes x slot m.core d es
        → CalmMeets x (if null then On (passed_behind d es m rest) else to_block b (counted_behind d es m item rest))
    goes null is d es does calm =
        let s = if null then On (passed_behind d es m rest) else to_block b (counted_behind d es m item rest) in
        on_meets x s (λ t end e. if_alone null b (passed_behind d es m rest) (counted_behind d es m item rest) t end e)
        (λ t e.
        let c = if_acted x l k r b slot m t rest d es h run does (steady.high (tt, run) 0 d es does)
        (ap (λ (z : Bool). if z then On (passed_behind d es m rest) else to_block b (counted_behind d es m item rest)) is ∙ e) (steady.inside (tt, run)) (calm t e) in
        record { steps = c.0; simulates = c.1 })

    by : (null : Bool) → (lines.register m.core r == 0) ≡ null
        → CalmMeets x (if null then through_slot x.program x.addresses slot On (left_behind rest m) else through_slot x.program x.addresses slot (to_block b) (counted (left_behind (item ∷ rest) m)))
    by true is calm = slot_goes x slot (left_behind rest m) (λ s. On s) (λ s. CalmMeets x s) fit run (λ calm. tt) (goes true is) calm
    by false is calm = slot_goes x slot (counted (left_behind (item ∷ rest) m)) (to_block b) (λ s. CalmMeets x s) fit run (λ calm. tt) (goes false is) calm

back_alone : (b : Bool) (o : Option ℕ) (here : List Item) (u m t : Machine) (end : End) → (if b then goes_back o here u else On m) ≡ Stopped end t → ⊥
back_alone true o here u m t end e = back_to_alone o here u t end e
back_alone false o here u m t end e = cc

back_meets : (x : Setting) → IsLinked x → (scratch : ℕ → (ℕ → ℕ) → ℕ → ℕ) (j r u : ℕ) (disp : ℤ) (slot : Option Word) → TurnMeets x scratch (Back (i.Combf j r u disp)) slot
back_meets x l scratch j r u disp slot k m rest h run steady = by (if condition j (lines.register m.core r) (lines.register m.core u) then false else true) refl steady.next
  where
    item : Item
    item = Turns (Back (i.Combf j r u disp)) slot

    fit : IsSlotFit x slot
    fit = (fit_here x l k m item rest h).1

    taken : Bool
    taken = if condition j (lines.register m.core r) (lines.register m.core u) then false else true

    goes : (b : Bool) → taken ≡ b → (d : lines.Core) (es : List (Event ℕ ℕ)) → SlotDoes x slot m.core d es
        → CalmMeets x (if b then goes_back (words_back disp) (item ∷ rest) (counted_behind d es m item rest) else On (passed_behind d es m rest))
    goes b is d es does calm =
        let s = if b then goes_back (words_back disp) (item ∷ rest) (counted_behind d es m item rest) else On (passed_behind d es m rest) in
        on_meets x s (λ t end e. back_alone b (words_back disp) (item ∷ rest) (counted_behind d es m item rest) (passed_behind d es m rest) t end e)
        (λ t e. record {
          steps = suc (suc k);
          simulates = back_acted x l k j r u disp slot m t rest d es h run does
              (ap (λ (z : Bool). if z then goes_back (words_back disp) (item ∷ rest) (counted_behind d es m item rest) else On (passed_behind d es m rest)) is ∙ e) (steady.inside (tt, run)) (calm t e);
        })

    by : (b : Bool) → taken ≡ b
        → CalmMeets x (if b then through_slot x.program x.addresses slot (goes_back (words_back disp) (item ∷ rest)) (counted (left_behind (item ∷ rest) m)) else through_slot x.program x.addresses slot On (left_behind rest m))
    by true is calm = slot_goes x slot (counted (left_behind (item ∷ rest) m)) (goes_back (words_back disp) (item ∷ rest)) (λ s. CalmMeets x s) fit run (λ calm. tt) (goes true is) calm
    by false is calm = slot_goes x slot (left_behind rest m) (λ s. On s) (λ s. CalmMeets x s) fit run (λ calm. tt) (goes false is) calm

-- ---- returns

-- the state at a return, by its callers
abbrev at_return : Machine → Option Word → List Item → List Frame → Machine
at_return m slot rest callers = record (left_behind (Turns Leave slot ∷ rest) m) { callers = callers }

leave_meets : (x : Setting) → IsLinked x → (k : ℕ) (m : Machine) (slot : Option Word) (rest : List Item) (callers : List Frame)
    → Simulates x (at_return m slot rest callers) k → m.core.skip ≡ false → IsCalmPast x (at_return m slot rest callers) slot → AreInData x (calls_behind x callers)
    → (d : lines.Core) (es : List (Event ℕ ℕ)) → SlotDoes x slot m.core d es
    → CalmMeets x (returns x.program x.addresses (lines.register m.core 2) (behind_slot d es (record (left_behind rest m) { callers = callers })))
leave_meets x l k m slot rest [] h run past saved d es does calm = tt
leave_meets x l k m slot rest (caller ∷ callers) h run past saved d es does calm =
    let s = returns x.program x.addresses (lines.register m.core 2) (behind_slot d es (record (left_behind rest m) { callers = caller ∷ callers })) in
    on_meets x s (λ t end e. return_alone _ _ t end e)
    (λ t e. record { steps = suc (suc k); simulates = return_acted x l k slot m t rest caller callers d es h run does e past (calm t e) saved })

return_meets : (x : Setting) → IsLinked x → (scratch : ℕ → (ℕ → ℕ) → ℕ → ℕ) (slot : Option Word) → TurnMeets x scratch Leave slot
return_meets x l scratch slot k m rest h run steady =
    slot_goes x slot (left_behind rest m) (returns x.program x.addresses (lines.register m.core 2)) (λ s. CalmMeets x s) (fit_here x l k m (Turns Leave slot) rest h) run (λ calm. tt)
    (λ d es does calm. leave_meets x l k m slot rest m.callers h run (steady.past (tt, run)) (steady.saved_behind (tt, run)) d es does calm) steady.next

-- ---- by what the turn is

named_two : (x : Setting) → IsLinked x → HasLibrary x → (scratch : ℕ → (ℕ → ℕ) → ℕ → ℕ) (f : List ℕ) (slot : Option Word) → TurnMeets x scratch (CallTo (symbol.Named f) 2) slot
named_two x l lib scratch f slot k m rest h run steady =
    named_meets x l lib k m f slot rest h run (steady.inside (tt, run)) (steady.saved (tt, run)) (steady.high (tt, run)) steady.next

named_linked : (x : Setting) → IsLinked x → HasLibrary x → (scratch : ℕ → (ℕ → ℕ) → ℕ → ℕ) (f : List ℕ) (link : ℕ) (slot : Option Word) → link ≡ 2
    → TurnMeets x scratch (CallTo (symbol.Named f) link) slot
named_linked x l lib scratch f link slot is = subst (λ v. TurnMeets x scratch (CallTo (symbol.Named f) v) slot) (sym is) (named_two x l lib scratch f slot)

numbered_one : (x : Setting) → IsLinked x → (has : HasRoutines x) (scratch : ℕ → (ℕ → ℕ) → ℕ → ℕ) → LeaveSo x has scratch → (j : ℕ) (slot : Option Word) → j < 5
    → TurnMeets x scratch (CallTo (symbol.Routine j) 31) slot
numbered_one x l has scratch so j slot below k m rest h run steady =
    routine_meets x l has scratch so k j m slot rest below h run (steady.inside (tt, run)) (steady.high (tt, run)) steady.next

numbered_linked : (x : Setting) → IsLinked x → (has : HasRoutines x) (scratch : ℕ → (ℕ → ℕ) → ℕ → ℕ) → LeaveSo x has scratch → (j link : ℕ) (slot : Option Word) → link ≡ 31 → j < 5
    → TurnMeets x scratch (CallTo (symbol.Routine j) link) slot
numbered_linked x l has scratch so j link slot is below =
    subst (λ v. TurnMeets x scratch (CallTo (symbol.Routine j) v) slot) (sym is) (numbered_one x l has scratch so j slot below)

value_linked : (x : Setting) → IsLinked x → HasLibrary x → (scratch : ℕ → (ℕ → ℕ) → ℕ → ℕ) (slot : Option Word) → TurnMeets x scratch CallReg slot
value_linked x l lib scratch slot k m rest h run steady =
    values_meet x l lib k m slot rest h run (steady.inside (tt, run)) (steady.saved (tt, run)) (steady.high (tt, run)) steady.next

turn_meets : (x : Setting) → IsLinked x → HasLibrary x → (has : HasRoutines x) (scratch : ℕ → (ℕ → ℕ) → ℕ → ℕ) → LeaveSo x has scratch → (turn : Turn) (slot : Option Word) → IsFit x (Turns turn slot)
    → TurnMeets x scratch turn slot
turn_meets x l lib has scratch so (Goto b) slot fit = goto_meets x l scratch b slot
turn_meets x l lib has scratch so (If r b) slot fit = if_meets x l scratch r b slot
turn_meets x l lib has scratch so (Back (i.Combf j r u disp)) slot fit = back_meets x l scratch j r u disp slot
turn_meets x l lib has scratch so (Back _) slot fit = absurd fit
turn_meets x l lib has scratch so (CallTo (symbol.Named f) link) slot fit = named_linked x l lib scratch f link slot fit.0
turn_meets x l lib has scratch so (CallTo (symbol.Routine j) link) slot fit = numbered_linked x l has scratch so j link slot fit.0 fit.3
turn_meets x l lib has scratch so (CallTo symbol.StackLimit link) slot fit = absurd fit
turn_meets x l lib has scratch so (CallTo (symbol.Word j) link) slot fit = absurd fit
turn_meets x l lib has scratch so CallReg slot fit = value_linked x l lib scratch slot
turn_meets x l lib has scratch so Leave slot fit = return_meets x l scratch slot

-- ---- one step of the lines

skip_meets : (x : Setting) → IsLinked x → HasLibrary x → (has : HasRoutines x) (scratch : ℕ → (ℕ → ℕ) → ℕ → ℕ) → LeaveSo x has scratch → (k : ℕ) (m : Machine) (turn : Turn) (slot : Option Word) (rest : List Item)
    → Simulates x (left_behind (Turns turn slot ∷ rest) m) k → (b : Bool) → m.core.skip ≡ b
    → IsSteady x (left_behind (Turns turn slot ∷ rest) m) (Turns turn slot) (if b then Astray else StepOf x scratch m turn slot rest)
    → Meets x (if b then Astray else StepOf x scratch m turn slot rest)
skip_meets x l lib has scratch so k m turn slot rest h true is steady = tt
skip_meets x l lib has scratch so k m turn slot rest h false is steady =
    turn_meets x l lib has scratch so turn slot (left_fit x l m.frame.function h.there (Turns turn slot ∷ rest) h.address h.left).0
    k m rest h is steady

pub step_meets : (x : Setting) → IsLinked x → HasLibrary x → (has : HasRoutines x) (scratch : ℕ → (ℕ → ℕ) → ℕ → ℕ) → LeaveSo x has scratch → (k : ℕ) (m : Machine) (left : List Item)
    → Simulates x (left_behind left m) k
    → ((item : Item) (rest : List Item) → left ≡ item ∷ rest → IsSteady x (left_behind left m) item (step x.program x.addresses scratch (left_behind left m)))
    → Meets x (step x.program x.addresses scratch (left_behind left m))
unfolding step
step_meets x l lib has scratch so k m [] h steady = tt
step_meets x l lib has scratch so k m (Plain word ∷ rest) h steady =
    word_meets x l k m word rest h (does x.program x.addresses word (left_behind rest m)) refl (steady (Plain word) rest refl).next
step_meets x l lib has scratch so k m (Mark b ∷ rest) h steady = record { steps = k; simulates = mark_simulates x k b m rest h }
step_meets x l lib has scratch so k m (Turns turn slot ∷ rest) h steady =
    skip_meets x l lib has scratch so k m turn slot rest h m.core.skip refl (steady (Turns turn slot) rest refl)
