-- What a look answers and puts out is what the command comes to at the call.
use Rattle.std.proofs.Common.{◌≡◌, ◌≢◌, ℕ, zero, suc, ◌+◌, ◌-◌, ◌<◌, ◌⊎◌, ⊎_elim, inl, inr, Bool, true, false, List, [], ◌∷◌, ◌++◌, Option, Some, None, Result, Ok, Err, refl, sym, ap, ◌∙◌, subst, arith, append-nil}
use Rattle.std.specs.Prelude.{IfSome}
use Rattle.std.specs.List.{AllByRecursion}
use Rattle.std.proofs.lemmas.Bool.{cases_lt}
use Rattle.pw_io.specs.Streams.{Appends}
use Rattle.pw_object.specs.declared.object.Object.{Object}
use Rattle.pw_image.specs.declared.image.Image.{Image}
use Rattle.pw_image.specs.Image.{Contents, IsImageFile}
use Rattle.pw_machine.specs.declared.ends.End.TheVariants as end
use Rattle.pw_machine.specs.declared.ends.Stop.{Stop}
use Rattle.pw_machine.specs.declared.ends.Stop.TheVariants as how
use Rattle.pw_machine.specs.Core.{Core}
use Rattle.pw_machine.specs.Run.{Progress, Running, State, Stopped, continued, run_of}
use Rattle.pw_debug.specs.declared.info.FrameInfo.{FrameInfo}
use Rattle.pw_debug.specs.Knowing.{IsFrame}
use Rattle.pw_debug_frames.specs.Frames.{AreFrames}
use Rattle.pw_where.specs.declared.looking.Look.{Look}
use Rattle.pw_where.specs.declared.looking.Look.TheVariants.{Lines, LostAt, StoppedAs}
use Rattle.pw_where.specs.Calls.{IsCall, Passes, PassesTo, StopsBefore, call_at, calls_in, is_at, one_if}
use Rattle.pw_where.specs.Looks.{EndsBefore, LeavesUnlooked, LookCount, LooksAs, LooksUnwritten, Shows, ShowsAt, entries_in, start_over}
use Rattle.pw_top_answer.specs.declared.answer.Answer.{Answer}
use Rattle.pw_top_answer.specs.declared.answer.Answer.TheVariants as answer
use Rattle.pw_top_answer.specs.Effects.{Effect, NamedFile}
use Rattle.pw_top_answer.specs.Outcomes.{Answers, InputCount, IsPrintAnswer, IsWhole, LeavesInput, OutputCount, PutsOut, WasReadInPart}
use Rattle.pw_commands.specs.MachineRun.{run_answer, run_rest, stop_answer}
use Rattle.pw_commands.specs.Outcome.{IsFound}
use Rattle.pw_commands.proofs.RunLemmas.{Ends, run_ends}
use Rattle.pw_build_files.specs.Outcomes.{HoldsImage}
use Rattle.pw_commands_where.specs.Showing.{FileEffect, IsLookAnswer, LookEffect, loses, passes, shows}
use Rattle.pw_commands_where.specs.Steps.{LooksAtFile, PutsLook, TellsLook}

-- the laws on which it stands
pub record Laws : Type 0 where
  pub image : (bytes : List ℕ) (c d : Contents Image) → IsImageFile bytes c → IsImageFile bytes d → c ≡ d
  pub frames : (objects : List Object) (a b : List FrameInfo) → AreFrames objects a → AreFrames objects b → a ≡ b
  pub call : (entries : List ℕ) (start : State) (k m n : ℕ) (s t : State) → IsCall entries start k m s → IsCall entries start k n t → s ≡ t
  pub apart : (entries : List ℕ) (start : State) (k m budget : ℕ) (s : State) (p : Progress) → IsCall entries start k m s → m < budget → Passes entries start k budget p → ⊥
  pub sight : (image : Image) (objects : List Object) (frames : List FrameInfo) (k : ℕ) (core : Core) (a b : Result (List ℕ) ℕ) → Shows image objects frames k core a → Shows image objects frames k core b → a ≡ b
  pub some : (image : Image) (objects : List Object) (frames : List FrameInfo) (k : ℕ) (core : Core) → AllByRecursion IsFrame frames → (lines : Result (List ℕ) ℕ) × Shows image objects frames k core lines
  pub sum : (m n : ℕ) (start : State) → run_of (m + n) start ≡ continued n (run_of m start)

-- ---- what is read

pub appends_none : (taken : Option (List ℕ)) → Appends taken taken []
appends_none None = tt
appends_none (Some xs) = sym (append-nil xs)

-- a run that goes on leaves of its input a rest of what it had left before
further : Laws → (start last : State) (n d : ℕ) → run_of n start ≡ Running last → Ends last.rest (run_rest (run_of (n + d) start))
further laws start last n d goes =
    let same : run_of (n + d) start ≡ run_of d last = laws.sum n d start ∙ ap (continued d) goes in
    subst (λ (p : Progress). Ends last.rest (run_rest p)) (sym same) (run_ends last d)

later : Laws → (start last : State) (n m : ℕ) → run_of n start ≡ Running last → n < m + 1 → Ends last.rest (run_rest (run_of m start))
later laws start last n m goes lt =
    let d = m - n in
    let at : n + d ≡ m = omega (arith, lt) in
    subst (λ (i : ℕ). Ends last.rest (run_rest (run_of i start))) at (further laws start last n d goes)

rest_at : (s : State) (rest : List ℕ) → Some rest ≡ Some s.rest → rest ≡ s.rest
rest_at s rest e = cc

-- ---- a call, or its absence

-- the state before a call is one, and so is what is left of the input there
same_rest : Laws → (image : Image) (objects : List Object) (frames : List FrameInfo) (k budget : ℕ) (input : List ℕ) (a b : Result (List ℕ) ℕ) (left : Option (List ℕ)) (rest : List ℕ)
    → ShowsAt image objects frames k budget input a left → ShowsAt image objects frames k budget input b (Some rest) → left ≡ Some rest
same_rest laws image objects frames k budget input a b left rest one other =
    let state = laws.call (entries_in image objects) (start_over image input) k one.step other.step one.state other.state one.call other.call in
    one.rest_is ∙ ap (λ (s : State). Some s.rest) state ∙ sym other.rest_is

same_lines : Laws → (image : Image) (objects : List Object) (frames : List FrameInfo) (k budget : ℕ) (input : List ℕ) (a b : Result (List ℕ) ℕ) (left right : Option (List ℕ))
    → ShowsAt image objects frames k budget input a left → ShowsAt image objects frames k budget input b right → a ≡ b
same_lines laws image objects frames k budget input a b left right one other =
    let state = laws.call (entries_in image objects) (start_over image input) k one.step other.step one.state other.state one.call other.call in
    laws.sight image objects frames k other.state.core a b (subst (λ (s : State). Shows image objects frames k s.core a) state one.shows) other.shows

not_passed : Laws → (image : Image) (objects : List Object) (frames : List FrameInfo) (k budget : ℕ) (input : List ℕ) (a : Result (List ℕ) ℕ) (left : Option (List ℕ)) (p : Progress)
    → ShowsAt image objects frames k budget input a left → Passes (entries_in image objects) (start_over image input) k budget p → ⊥
not_passed laws image objects frames k budget input a left p at passing = laws.apart (entries_in image objects) (start_over image input) k at.step budget at.state p at.call at.within passing

-- ---- what a look has to do with what the command comes to

-- it answers, puts out and leaves what the command does
pub record Agrees (told : Answer) (lines : List ℕ) (left : Option (List ℕ)) (e : Effect) : Type 0 where
  pub answered : e.answer ≡ told
  pub put_out : e.output ≡ lines
  pub leaves : left ≡ Some e.rest

-- the input had a fault: so much of it was read, and no more than the command reads
pub record ReadShort (input : List ℕ) (left : Option (List ℕ)) (e : Effect) : Type 0 where
  pub last : State
  pub rest : left ≡ Some last.rest
  pub read : Ends input last.rest
  pub more : Ends last.rest e.rest

abbrev pub LookedAs : List ℕ → Look → Option (List ℕ) → Effect → Type 0
LookedAs input (Lines text) left e = Agrees answer.Done text.items left e
LookedAs input (LostAt address) left e = Agrees (answer.NoFrames address) [] left e
LookedAs input (StoppedAs how.ReadFault) left e = ReadShort input left e
LookedAs input (StoppedAs stop) left e = Agrees (stop_answer stop) [] left e

module _ (laws : Laws) (image : Image) (objects : List Object) (frames : List FrameInfo) (k budget : ℕ) (input : List ℕ) where
  abbrev At : Result (List ℕ) ℕ → Option (List ℕ) → Type 0
  At lines left = ShowsAt image objects frames k budget input lines left

  abbrev Passing : Progress → Type 0
  Passing p = Passes (entries_in image objects) (start_over image input) k budget p

  abbrev Comes : List NamedFile → Effect → Type 0
  Comes puts e = LookEffect image objects frames k budget input puts e

  lines_by : (text : List ℕ) (left : Option (List ℕ)) (puts : List NamedFile) (e : Effect) → At (Ok text) left → Comes puts e → Agrees answer.Done text left e
  lines_by text left puts e at (shows lines rest other) =
      let same : Ok text ≡ Ok lines = same_lines laws image objects frames k budget input (Ok text) (Ok lines) left (Some rest) at other in
      let is : text ≡ lines = cc in
      record { answered = refl; put_out = sym is; leaves = same_rest laws image objects frames k budget input (Ok text) (Ok lines) left rest at other }
  lines_by text left puts e at (loses address rest other) =
      let same : Ok text ≡ Err address = same_lines laws image objects frames k budget input (Ok text) (Err address) left (Some rest) at other in
      absurd cc
  lines_by text left puts e at (passes p passing) = absurd (not_passed laws image objects frames k budget input (Ok text) left p at passing)

  lost_by : (address : ℕ) (left : Option (List ℕ)) (puts : List NamedFile) (e : Effect) → At (Err address) left → Comes puts e → Agrees (answer.NoFrames address) [] left e
  lost_by address left puts e at (shows lines rest other) =
      let same : Err address ≡ Ok lines = same_lines laws image objects frames k budget input (Err address) (Ok lines) left (Some rest) at other in
      absurd cc
  lost_by address left puts e at (loses found rest other) =
      let same : Err address ≡ Err found = same_lines laws image objects frames k budget input (Err address) (Err found) left (Some rest) at other in
      let is : address ≡ found = cc in
      record { answered = ap (λ (n : ℕ). answer.NoFrames n) (sym is); put_out = refl; leaves = same_rest laws image objects frames k budget input (Err address) (Err found) left rest at other }
  lost_by address left puts e at (passes p passing) = absurd (not_passed laws image objects frames k budget input (Err address) left p at passing)

  -- the run passed without the call
  passed_by : (q : Progress) (left : Option (List ℕ)) (puts : List NamedFile) (e : Effect) → Passing q → left ≡ Some (run_rest q) → Comes puts e → Agrees (run_answer q) [] left e
  passed_by q left puts e passed is (shows lines rest other) = absurd (not_passed laws image objects frames k budget input (Ok lines) (Some rest) q other passed)
  passed_by q left puts e passed is (loses address rest other) = absurd (not_passed laws image objects frames k budget input (Err address) (Some rest) q other passed)
  passed_by q left puts e passed is (passes p passing) =
      let same : q ≡ p = sym passed.comes ∙ passing.comes in
      record { answered = ap run_answer (sym same); put_out = refl; leaves = is ∙ ap (λ (x : Progress). Some (run_rest x)) same }

  -- a fault of the input comes before the call
  fault_call : (n : ℕ) (last : State) → PassesTo (entries_in image objects) (start_over image input) k budget n last → (m : ℕ) (s : State) → IsCall (entries_in image objects) (start_over image input) k m s → Ends last.rest s.rest
  fault_call n last short m s call =
      let start = start_over image input in
      let behind : n < m + 1 =
      ⊎_elim {C = n < m + 1}
      (λ lt. absurd (laws.apart (entries_in image objects) start k m (suc n) s (run_of (suc n) start) call lt (record { comes = refl; few = short.few })))
      (λ ge. omega (arith, ge))
      (cases_lt m (suc n)) in
      subst (λ (p : Progress). Ends last.rest (run_rest p)) call.goes (later laws start last n m short.goes behind)

  fault_by : (n : ℕ) (last : State) (left : Option (List ℕ)) (puts : List NamedFile) (e : Effect) → PassesTo (entries_in image objects) (start_over image input) k budget n last → left ≡ Some last.rest → Comes puts e → ReadShort input left e
  fault_by n last left puts e short is comes = record { last = last; rest = is; read = read; more = more e comes }
    where
      read : Ends input last.rest
      read = subst (λ (p : Progress). Ends input (run_rest p)) short.goes (run_ends (start_over image input) n)

      more : (x : Effect) → Comes puts x → Ends last.rest x.rest
      more x (shows lines rest other) = subst (Ends last.rest) (sym (rest_at other.state rest other.rest_is)) (fault_call n last short other.step other.state other.call)
      more x (loses address rest other) = subst (Ends last.rest) (sym (rest_at other.state rest other.rest_is)) (fault_call n last short other.step other.state other.call)
      more x (passes p passing) = subst (λ (q : Progress). Ends last.rest (run_rest q)) passing.comes (later laws (start_over image input) last n budget short.goes (let lt = short.within in omega (arith, lt)))

  stopped_by : (stop : Stop) (left : Option (List ℕ)) (puts : List NamedFile) (e : Effect) → EndsBefore image objects k budget input stop left → Comes puts e → LookedAs input (StoppedAs stop) left e
  stopped_by (how.Ended status) left puts e ends comes = passed_by (Stopped (end.Ended status) ends.last) left puts e ends.stops ends.rest_is comes
  stopped_by how.StackStop left puts e ends comes = passed_by (Stopped end.StackStop ends.last) left puts e ends.stops ends.rest_is comes
  stopped_by how.Spent left puts e ends comes = passed_by (Running ends.last) left puts e ends.stops ends.rest_is comes
  stopped_by (how.Halted halt at) left puts e ends comes = passed_by (Stopped (end.Halted halt at) ends.last) left puts e ends.stops ends.rest_is comes
  stopped_by how.ReadFault left puts e ends comes = fault_by ends.stops.0 ends.last left puts e ends.stops.1 ends.rest_is comes
  stopped_by how.WriteFault left puts e ends comes = absurd ends.stops

  pub looked_by : (look : Look) (left : Option (List ℕ)) (puts : List NamedFile) (e : Effect) → LooksAs image objects frames k budget input look left → Comes puts e → LookedAs input look left e
  looked_by (Lines text) left puts e at comes = lines_by text.items left puts e at comes
  looked_by (LostAt address) left puts e at comes = lost_by address left puts e at comes
  looked_by (StoppedAs stop) left puts e ends comes = stopped_by stop left puts e ends comes

-- ---- what the command comes to leaves a rest of the input

call_ends : (image : Image) (objects : List Object) (frames : List FrameInfo) (k budget : ℕ) (input rest : List ℕ) (a : Result (List ℕ) ℕ) → ShowsAt image objects frames k budget input a (Some rest) → Ends input rest
call_ends image objects frames k budget input rest a at =
    subst (Ends input) (sym (rest_at at.state rest at.rest_is)) (subst (λ (p : Progress). Ends input (run_rest p)) at.call.goes (run_ends (start_over image input) at.step))

pub look_ends : (image : Image) (objects : List Object) (frames : List FrameInfo) (k budget : ℕ) (input : List ℕ) (puts : List NamedFile) (e : Effect) → LookEffect image objects frames k budget input puts e → Ends input e.rest
look_ends image objects frames k budget input puts e (shows lines rest at) = call_ends image objects frames k budget input rest (Ok lines) at
look_ends image objects frames k budget input puts e (loses address rest at) = call_ends image objects frames k budget input rest (Err address) at
look_ends image objects frames k budget input puts e (passes p passing) = subst (λ (q : Progress). Ends input (run_rest q)) passing.comes (run_ends (start_over image input) budget)

-- ---- it comes to something

module _ (entries : List ℕ) (start : State) (k : ℕ) where
  record Reached (n : ℕ) : Type 0 where
    step : ℕ
    state : State
    within : step < n
    call : IsCall entries start k step state

  abbrev Decided : ℕ → Type 0
  Decided n = Reached n ⊎ (calls_in entries start n < k)

  no_call : (n : ℕ) → calls_in entries start n < k → call_at entries (run_of n start) ≡ false → Decided (suc n)
  no_call n few e = inr (let one : one_if (call_at entries (run_of n start)) ≡ 0 = ap one_if e in omega (arith, few, one))

  its_call : (n : ℕ) (s : State) → run_of n start ≡ Running s → is_at entries s.core ≡ true → calls_in entries start n < k → Decided (suc n)
  its_call n s goes at few =
      let one : one_if (call_at entries (run_of n start)) ≡ 1 = ap (λ (p : Progress). one_if (call_at entries p)) goes ∙ ap one_if at in
      ⊎_elim {C = Decided (suc n)}
      (λ lt. inr (omega (arith, lt, one)))
      (λ ge. inl (record { step = n; state = s; within = omega arith; call = record { goes = goes; at = at; before = omega (arith, few, ge) } }))
      (cases_lt (calls_in entries start n + 1) k)

  by_test : (n : ℕ) (s : State) (b : Bool) → run_of n start ≡ Running s → is_at entries s.core ≡ b → calls_in entries start n < k → Decided (suc n)
  by_test n s true goes at few = its_call n s goes at few
  by_test n s false goes at few = no_call n few (ap (call_at entries) goes ∙ at)

  by_step : (n : ℕ) (p : Progress) → run_of n start ≡ p → calls_in entries start n < k → Decided (suc n)
  by_step n (Running s) goes few = by_test n s (is_at entries s.core) goes refl few
  by_step n (Stopped e s) goes few = no_call n few (ap (call_at entries) goes)

  longer : (n : ℕ) → Reached n → Reached (suc n)
  longer n r = record { step = r.step; state = r.state; within = let lt = r.within in omega (arith, lt); call = r.call }

  decide : 0 < k → (n : ℕ) → Decided n
  decide first zero = inr first
  decide first (suc n) = ⊎_elim {C = Decided (suc n)} (λ r. inl (longer n r)) (λ few. by_step n (run_of n start) refl few) (decide first n)

abbrev pub Something : Image → List Object → List FrameInfo → ℕ → ℕ → List ℕ → Type 0
Something image objects frames k budget input = (e : Effect) × LookEffect image objects frames k budget input [] e

some_call : (image : Image) (objects : List Object) (frames : List FrameInfo) (k budget : ℕ) (input : List ℕ) → (r : Reached (entries_in image objects) (start_over image input) k budget) (lines : Result (List ℕ) ℕ) → Shows image objects frames k r.state.core lines
    → Something image objects frames k budget input
some_call image objects frames k budget input r (Ok lines) sight =
    (record { answer = answer.Done; puts = []; output = lines; rest = r.state.rest }, shows lines r.state.rest (record { step = r.step; state = r.state; within = r.within; call = r.call; shows = sight; rest_is = refl }))
some_call image objects frames k budget input r (Err address) sight =
    (record { answer = answer.NoFrames address; puts = []; output = []; rest = r.state.rest }, loses address r.state.rest (record { step = r.step; state = r.state; within = r.within; call = r.call; shows = sight; rest_is = refl }))

some_pass : (image : Image) (objects : List Object) (frames : List FrameInfo) (k budget : ℕ) (input : List ℕ) (p : Progress) → Passes (entries_in image objects) (start_over image input) k budget p → Something image objects frames k budget input
some_pass image objects frames k budget input p passing = (record { answer = run_answer p; puts = []; output = []; rest = run_rest p }, passes p passing)

something : Laws → (image : Image) (objects : List Object) (frames : List FrameInfo) (k budget : ℕ) (input : List ℕ) → AllByRecursion IsFrame frames → 0 < k → Something image objects frames k budget input
something laws image objects frames k budget input lawful first =
    ⊎_elim {C = Something image objects frames k budget input}
    (λ r. let sight = laws.some image objects frames k r.state.core lawful in some_call image objects frames k budget input r sight.0 sight.1)
    (λ few. some_pass image objects frames k budget input (run_of budget (start_over image input)) (record { comes = refl; few = few }))
    (decide (entries_in image objects) (start_over image input) k first budget)

-- ---- answers

print_answers : (a : Answer) → IsPrintAnswer a → Answers answer.Done a
print_answers answer.Done h = refl
print_answers answer.WriteFault h = tt
print_answers answer.NoMemory h = tt
print_answers _ h = absurd h

look_answers : (input : List ℕ) (look : Look) (a : Answer) (left : Option (List ℕ)) (e : Effect) → TellsLook look a → LookedAs input look left e → Answers e.answer a
look_answers input (Lines text) a left e tells h = subst (λ (w : Answer). Answers w a) (sym h.answered) (print_answers a tells)
look_answers input (LostAt address) a left e tells h = subst (Answers e.answer) (sym tells) h.answered
look_answers input (StoppedAs (how.Ended status)) a left e tells h = subst (Answers e.answer) (sym tells) h.answered
look_answers input (StoppedAs how.StackStop) a left e tells h = subst (Answers e.answer) (sym tells) h.answered
look_answers input (StoppedAs how.Spent) a left e tells h = subst (Answers e.answer) (sym tells) h.answered
look_answers input (StoppedAs (how.Halted halt at)) a left e tells h = subst (Answers e.answer) (sym tells) h.answered
look_answers input (StoppedAs how.ReadFault) a left e tells h = subst (Answers e.answer) (sym tells) tt
look_answers input (StoppedAs how.WriteFault) a left e tells h = subst (Answers e.answer) (sym tells) tt

-- ---- the output

whole_none : (a : Answer) → IsWhole a []
whole_none answer.ReadFault = tt
whole_none answer.WriteFault = tt
whole_none answer.StoreFault = tt
whole_none answer.NoMemory = tt
whole_none _ = refl

-- nothing was put out, and nothing was wanted
none_wanted : (wanted : List ℕ) (a : Answer) (taken taken' : Option (List ℕ)) → wanted ≡ [] → taken' ≡ taken → PutsOut wanted a taken taken'
none_wanted wanted a taken taken' e same =
    subst (λ (o : Option (List ℕ)). PutsOut wanted a taken o) (sym same) (record { output = []; more = []; taken = appends_none taken; front = e; whole = whole_none a })

fault_out : (wanted : List ℕ) (a : Answer) (taken taken' : Option (List ℕ)) → IsWhole a wanted → taken' ≡ taken → PutsOut wanted a taken taken'
fault_out wanted a taken taken' whole same =
    subst (λ (o : Option (List ℕ)). PutsOut wanted a taken o) (sym same) (record { output = []; more = wanted; taken = appends_none taken; front = refl; whole = whole })

look_output : (input : List ℕ) (look : Look) (a : Answer) (left taken taken' : Option (List ℕ)) (e : Effect) → TellsLook look a → PutsLook look a taken taken' → LookedAs input look left e → PutsOut e.output a taken taken'
look_output input (Lines text) a left taken taken' e tells out h = subst (λ (w : List ℕ). PutsOut w a taken taken') (sym h.put_out) out
look_output input (LostAt address) a left taken taken' e tells out h = none_wanted e.output a taken taken' h.put_out out
look_output input (StoppedAs (how.Ended status)) a left taken taken' e tells out h = none_wanted e.output a taken taken' h.put_out out
look_output input (StoppedAs how.StackStop) a left taken taken' e tells out h = none_wanted e.output a taken taken' h.put_out out
look_output input (StoppedAs how.Spent) a left taken taken' e tells out h = none_wanted e.output a taken taken' h.put_out out
look_output input (StoppedAs (how.Halted halt at)) a left taken taken' e tells out h = none_wanted e.output a taken taken' h.put_out out
look_output input (StoppedAs how.ReadFault) a left taken taken' e tells out h = fault_out e.output a taken taken' (subst (λ (x : Answer). IsWhole x e.output) (sym tells) tt) out
look_output input (StoppedAs how.WriteFault) a left taken taken' e tells out h = none_wanted e.output a taken taken' h.put_out out

-- ---- the input

in_part : (input wanted : List ℕ) (left : Option (List ℕ)) → Ends input wanted → left ≡ Some wanted → WasReadInPart wanted input left
in_part input wanted left ends e = let P : Option (List ℕ) → Type 0 = λ o. WasReadInPart wanted input o in subst P (sym e) (ends.0, [], (ends.1, refl))

leaves_so : (a : Answer) (input wanted : List ℕ) (left : Option (List ℕ)) → Ends input wanted → left ≡ Some wanted → LeavesInput wanted input a left
leaves_so answer.ReadFault input wanted left ends e = in_part input wanted left ends e
leaves_so answer.WriteFault input wanted left ends e = in_part input wanted left ends e
leaves_so answer.StoreFault input wanted left ends e = in_part input wanted left ends e
leaves_so answer.NoMemory input wanted left ends e = in_part input wanted left ends e
leaves_so _ input wanted left ends e = e

read_short : (input : List ℕ) (left : Option (List ℕ)) (e : Effect) → ReadShort input left e → WasReadInPart e.rest input left
read_short input left e h = let P : Option (List ℕ) → Type 0 = λ o. WasReadInPart e.rest input o in subst P (sym h.rest) (h.read.0, h.more.0, (h.read.1, h.more.1))

look_rest : (input : List ℕ) (look : Look) (a : Answer) (left : Option (List ℕ)) (e : Effect) → TellsLook look a → Ends input e.rest → LookedAs input look left e → LeavesInput e.rest input a left
look_rest input (Lines text) a left e tells ends h = leaves_so a input e.rest left ends h.leaves
look_rest input (LostAt address) a left e tells ends h = leaves_so a input e.rest left ends h.leaves
look_rest input (StoppedAs (how.Ended status)) a left e tells ends h = leaves_so a input e.rest left ends h.leaves
look_rest input (StoppedAs how.StackStop) a left e tells ends h = leaves_so a input e.rest left ends h.leaves
look_rest input (StoppedAs how.Spent) a left e tells ends h = leaves_so a input e.rest left ends h.leaves
look_rest input (StoppedAs (how.Halted halt at)) a left e tells ends h = leaves_so a input e.rest left ends h.leaves
look_rest input (StoppedAs how.ReadFault) a left e tells ends h = subst (λ (x : Answer). LeavesInput e.rest input x left) (sym tells) (read_short input left e h)
look_rest input (StoppedAs how.WriteFault) a left e tells ends h = leaves_so a input e.rest left ends h.leaves

-- ---- what was found

found_print : (comes : Effect → Type 0) (e : Effect) (a : Answer) → comes e → e.answer ≡ answer.Done → IsPrintAnswer a → IsFound comes a
found_print comes e answer.Done c is h = (e, c, is)
found_print comes e answer.WriteFault c is h = (e, c)
found_print comes e answer.NoMemory c is h = tt
found_print comes e _ c is h = absurd h

found_some : (comes : Effect → Type 0) (e : Effect) (a : Answer) → comes e → e.answer ≡ a → IsFound comes a
found_some comes e answer.ReadFault c is = (e, c)
found_some comes e answer.WriteFault c is = (e, c)
found_some comes e answer.StoreFault c is = tt
found_some comes e answer.NoMemory c is = tt
found_some comes e _ c is = (e, c, is)

module _ (laws : Laws) (image : Image) (objects : List Object) (frames : List FrameInfo) (k budget : ℕ) (input : List ℕ) (lawful : AllByRecursion IsFrame frames) (first : 0 < k) where
  abbrev Bare : Effect → Type 0
  Bare = LookEffect image objects frames k budget input []

  found_call : (lines : Result (List ℕ) ℕ) (left : Option (List ℕ)) → ShowsAt image objects frames k budget input lines left → (s : State) × ShowsAt image objects frames k budget input lines (Some s.rest)
  found_call lines left at = (at.state, record { step = at.step; state = at.state; within = at.within; call = at.call; shows = at.shows; rest_is = refl })

  found_pass : (p : Progress) (a : Answer) → a ≡ run_answer p → Passes (entries_in image objects) (start_over image input) k budget p → IsFound Bare a
  found_pass p a is passing = found_some Bare (record { answer = run_answer p; puts = []; output = []; rest = run_rest p }) a (passes p passing) (sym is)

  found_read : IsFound Bare answer.ReadFault
  found_read = something laws image objects frames k budget input lawful first

  found_stop : (stop : Stop) (a : Answer) (left : Option (List ℕ)) → a ≡ stop_answer stop → EndsBefore image objects k budget input stop left → IsFound Bare a
  found_stop (how.Ended status) a left is ends = found_pass (Stopped (end.Ended status) ends.last) a is ends.stops
  found_stop how.StackStop a left is ends = found_pass (Stopped end.StackStop ends.last) a is ends.stops
  found_stop how.Spent a left is ends = found_pass (Running ends.last) a is ends.stops
  found_stop (how.Halted halt at) a left is ends = found_pass (Stopped (end.Halted halt at) ends.last) a is ends.stops
  found_stop how.ReadFault a left is ends = subst (IsFound Bare) (sym is) found_read
  found_stop how.WriteFault a left is ends = absurd ends.stops

  look_found : (look : Look) (a : Answer) (left : Option (List ℕ)) → TellsLook look a → LooksAs image objects frames k budget input look left → IsFound Bare a
  look_found (Lines text) a left tells at =
      let c = found_call (Ok text.items) left at in
      found_print Bare (record { answer = answer.Done; puts = []; output = text.items; rest = c.0.rest }) a (shows text.items c.0.rest c.1) refl tells
  look_found (LostAt address) a left tells at =
      let c = found_call (Err address) left at in
      found_some Bare (record { answer = answer.NoFrames address; puts = []; output = []; rest = c.0.rest }) a (loses address c.0.rest c.1) (sym tells)
  look_found (StoppedAs stop) a left tells ends = found_stop stop a left tells ends

-- ---- the image in the file, and what is known of its functions

-- what a file comes to is what its image comes to, with these frames
file_comes : Laws → (bytes : List ℕ) (c : Contents Image) (objects : List Object) (known : List FrameInfo) (k budget : ℕ) (input : List ℕ) (puts : List NamedFile) (e : Effect) → IsImageFile bytes c → AreFrames objects known
    → FileEffect bytes objects k budget input puts e → LookEffect c.value objects known k budget input puts e
file_comes laws bytes c objects known k budget input puts e file are h =
    let same : h.0 ≡ c = laws.image bytes h.0 c h.2 file in
    let frames : h.1 ≡ known = laws.frames objects h.1 known h.3 are in
    subst (λ (d : Contents Image). LookEffect d.value objects known k budget input puts e) same
    (subst (λ (fs : List FrameInfo). LookEffect h.0.value objects fs k budget input puts e) frames h.4)

found_file : (bytes : List ℕ) (c : Contents Image) (objects : List Object) (known : List FrameInfo) (k budget : ℕ) (input : List ℕ) (a : Answer) → IsImageFile bytes c → AreFrames objects known
    → IsFound (LookEffect c.value objects known k budget input []) a → IsFound (FileEffect bytes objects k budget input []) a
found_file bytes c objects known k budget input answer.ReadFault file are h = (h.0, (c, known, file, are, h.1))
found_file bytes c objects known k budget input answer.WriteFault file are h = (h.0, (c, known, file, are, h.1))
found_file bytes c objects known k budget input answer.StoreFault file are h = tt
found_file bytes c objects known k budget input answer.NoMemory file are h = tt
found_file bytes c objects known k budget input _ file are h = (h.0, (c, known, file, are, h.1), h.2)

looks_so : Laws → (bytes : List ℕ) (c : Contents Image) (objects : List Object) (known : List FrameInfo) (k budget : ℕ) (input : List ℕ) (left taken taken' : Option (List ℕ)) (look : Look) (a : Answer) → IsImageFile bytes c → AreFrames objects known
    → AllByRecursion IsFrame known → 0 < k → TellsLook look a → PutsLook look a taken taken' → LooksAs c.value objects known k budget input look left → LooksAtFile bytes objects k budget input a left taken taken'
looks_so laws bytes c objects known k budget input left taken taken' look a file are lawful first tells out at =
    let alike : (e : Effect) → FileEffect bytes objects k budget input [] e → LookedAs input look left e =
    λ e h. looked_by laws c.value objects known k budget input look left [] e at (file_comes laws bytes c objects known k budget input [] e file are h) in
    record {
      answers = λ e h. look_answers input look a left e tells (alike e h);
      output = λ e h. look_output input look a left taken taken' e tells out (alike e h);
      rest = λ e h. look_rest input look a left e tells (look_ends h.0.value objects h.1 k budget input [] e h.4) (alike e h);
      found = found_file bytes c objects known k budget input a file are (look_found laws c.value objects known k budget input lawful first look a left tells at);
    }

pub looks_told : Laws → (bytes : List ℕ) (objects : List Object) (known : List FrameInfo) (k budget : ℕ) (old left taken taken' : Option (List ℕ)) (look : Look) (a : Answer) → HoldsImage bytes → AreFrames objects known → AllByRecursion IsFrame known → 0 < k
    → TellsLook look a → PutsLook look a taken taken' → IfSome old (λ input. (c : Contents Image) → IsImageFile bytes c → LooksAs c.value objects known k budget input look left)
    → IfSome old (λ input. LooksAtFile bytes objects k budget input a left taken taken')
looks_told laws bytes objects known k budget None left taken taken' look a held are lawful first tells out at = tt
looks_told laws bytes objects known k budget (Some input) left taken taken' look a held are lawful first tells out at =
    looks_so laws bytes held.0 objects known k budget input left taken taken' look a held.1 are lawful first tells out (at held.0 held.1)

-- ---- memory ran out

unlooked_rest : Laws → (image : Image) (objects : List Object) (frames : List FrameInfo) (k budget : ℕ) (input : List ℕ) (left : Option (List ℕ)) (e : Effect) → LeavesUnlooked image objects k budget input left → LookEffect image objects frames k budget input [] e
    → WasReadInPart e.rest input left
unlooked_rest laws image objects frames k budget input left e unlooked comes =
    let ends = look_ends image objects frames k budget input [] e comes in
    ⊎_elim {C = WasReadInPart e.rest input left}
    (λ same. let P : Option (List ℕ) → Type 0 = λ o. WasReadInPart e.rest input o in subst P (sym same) ([], ends.0, (refl, ends.1)))
    (λ read. in_part input e.rest left ends (read.rest_is ∙ there read.step read.state read.within read.call e comes))
    unlooked
  where
    there : (m : ℕ) (s : State) → m < budget → IsCall (entries_in image objects) (start_over image input) k m s → (x : Effect) → LookEffect image objects frames k budget input [] x → Some s.rest ≡ Some x.rest
    there m s within call x (shows lines rest at) =
        let state = laws.call (entries_in image objects) (start_over image input) k m at.step s at.state call at.call in ap (λ (t : State). Some t.rest) state ∙ sym at.rest_is
    there m s within call x (loses address rest at) =
        let state = laws.call (entries_in image objects) (start_over image input) k m at.step s at.state call at.call in ap (λ (t : State). Some t.rest) state ∙ sym at.rest_is
    there m s within call x (passes p passing) = absurd (laws.apart (entries_in image objects) (start_over image input) k m budget s p call within passing)

memory_so : (bytes : List ℕ) (objects : List Object) (k budget : ℕ) (input : List ℕ) (left taken : Option (List ℕ)) → ((e : Effect) → FileEffect bytes objects k budget input [] e → WasReadInPart e.rest input left)
    → LooksAtFile bytes objects k budget input answer.NoMemory left taken taken
memory_so bytes objects k budget input left taken rest = record {
  answers = λ e h. tt;
  output = λ e h. record { output = []; more = e.output; taken = appends_none taken; front = refl; whole = tt };
  rest = rest;
  found = tt;
}

pub looks_unlooked : Laws → (bytes : List ℕ) (objects : List Object) (known : List FrameInfo) (k budget : ℕ) (old left taken : Option (List ℕ)) → HoldsImage bytes → AreFrames objects known
    → IfSome old (λ input. (c : Contents Image) → IsImageFile bytes c → LeavesUnlooked c.value objects k budget input left) → IfSome old (λ input. LooksAtFile bytes objects k budget input answer.NoMemory left taken taken)
looks_unlooked laws bytes objects known k budget None left taken held are h = tt
looks_unlooked laws bytes objects known k budget (Some input) left taken held are h =
    memory_so bytes objects k budget input left taken (λ e comes.
    unlooked_rest laws held.0.value objects known k budget input left e (h held.0 held.1) (file_comes laws bytes held.0 objects known k budget input [] e held.1 are comes))

-- nothing was read
pub looks_at_nothing : (bytes : List ℕ) (objects : List Object) (k budget : ℕ) (old taken : Option (List ℕ)) → IfSome old (λ input. LooksAtFile bytes objects k budget input answer.NoMemory old taken taken)
looks_at_nothing bytes objects k budget None taken = tt
looks_at_nothing bytes objects k budget (Some input) taken =
    memory_so bytes objects k budget input (Some input) taken (λ e h. let ends = look_ends h.0.value objects h.1 k budget input [] e h.4 in ([], ends.0, (refl, ends.1)))

-- ---- counts, and the kind of the answer

pub look_is : (look : Look) (a : Answer) → TellsLook look a → IsLookAnswer a
look_is (Lines text) answer.Done h = tt
look_is (Lines text) answer.WriteFault h = tt
look_is (Lines text) answer.NoMemory h = tt
look_is (Lines text) _ h = absurd h
look_is (LostAt address) a h = subst IsLookAnswer (sym h) tt
look_is (StoppedAs (how.Ended status)) a h = subst IsLookAnswer (sym h) tt
look_is (StoppedAs how.StackStop) a h = subst IsLookAnswer (sym h) tt
look_is (StoppedAs how.Spent) a h = subst IsLookAnswer (sym h) tt
look_is (StoppedAs (how.Halted halt at)) a h = subst IsLookAnswer (sym h) tt
look_is (StoppedAs how.ReadFault) a h = subst IsLookAnswer (sym h) tt
look_is (StoppedAs how.WriteFault) a h = subst IsLookAnswer (sym h) tt

print_reads : (before now : ℕ) (a : Answer) → IsPrintAnswer a → now ≡ before → InputCount before now a
print_reads before now answer.Done h e = e
print_reads before now answer.WriteFault h e = e
print_reads before now answer.NoMemory h e = e
print_reads before now _ h e = absurd h

pub look_reads : (E : Type 0) (before now : ℕ) (look : Look) (a : Answer) → TellsLook look a → LookCount {E = E} before now (Ok look) → InputCount before now a
look_reads E before now (Lines text) a h count = print_reads before now a h count
look_reads E before now (LostAt address) a h count = subst (InputCount before now) (sym h) count
look_reads E before now (StoppedAs (how.Ended status)) a h count = subst (InputCount before now) (sym h) count
look_reads E before now (StoppedAs how.StackStop) a h count = subst (InputCount before now) (sym h) count
look_reads E before now (StoppedAs how.Spent) a h count = subst (InputCount before now) (sym h) count
look_reads E before now (StoppedAs (how.Halted halt at)) a h count = subst (InputCount before now) (sym h) count
look_reads E before now (StoppedAs how.ReadFault) a h count = subst (InputCount before now) (sym h) count
look_reads E before now (StoppedAs how.WriteFault) a h count = subst (InputCount before now) (sym h) count

-- a run without a fault of the output leaves its count
pub stop_writes : (stop : Stop) (a : Answer) (count : ℕ) → stop ≢ how.WriteFault → a ≡ stop_answer stop → OutputCount count count a
stop_writes (how.Ended status) a count other is = subst (OutputCount count count) (sym is) refl
stop_writes how.StackStop a count other is = subst (OutputCount count count) (sym is) refl
stop_writes how.Spent a count other is = subst (OutputCount count count) (sym is) refl
stop_writes (how.Halted halt at) a count other is = subst (OutputCount count count) (sym is) refl
stop_writes how.ReadFault a count other is = subst (OutputCount count count) (sym is) refl
stop_writes how.WriteFault a count other is = absurd (other refl)

pub unwritten : (look : Look) (stop : Stop) → look ≢ StoppedAs how.WriteFault → look ≡ StoppedAs stop → stop ≢ how.WriteFault
unwritten look stop none is e = none (is ∙ ap (λ (s : Stop). StoppedAs s) e)

pub not_written : (E : Type 0) (look : Look) → LooksUnwritten {E = E} (Ok look) → look ≢ StoppedAs how.WriteFault
not_written E look h e = let other : how.WriteFault ≢ how.WriteFault = subst (λ (l : Look). LooksUnwritten {E = E} (Ok l)) e h in other refl
