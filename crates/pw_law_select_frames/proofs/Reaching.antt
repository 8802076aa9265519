-- The lines of an operation that calls a function, up to the turn.
use Rattle.std.proofs.Common.{ℕ, ℤ, zero, suc, ◌≡◌, ◌≢◌, ◌+◌, ◌-◌, ◌*◌, ◌^◌, ◌<◌, ◌≤◌, ◌⊎◌, inl, inr, arith, refl, ap, sym, subst, ◌∙◌, Bool, true, false, true≢false, if◌then◌else◌, nat_lt, ◌==◌, max, Option, Some, None, option_map, unwrap_or, List, [], ◌∷◌, ◌++◌, map, take, drop, length, slice_get, slice_index_or, bytes_eq, Contains, append_assoc}
use Rattle.std.specs.Prelude.{pos, ◌-ℤ◌}
use Rattle.std.specs.List.{AllByRecursion}
use Rattle.std.proofs.lemmas.Bool.{ne_eqb, ltb-true}
use Rattle.std.proofs.lemmas.List.{length-map}
use Rattle.std.proofs.lemmas.Option.{slice_get-map}
use Rattle.pw_value.specs.declared.value.Value.{Value}
use Rattle.pw_value.specs.declared.value.Value.TheVariants.{Undefined, Num, Null, At, Piece}
use Rattle.pw_value.specs.declared.value.Pointer.TheVariants as P
use Rattle.pw_value.specs.Objects.{object_at}
use Rattle.pw_flow.specs.declared.flow.FlowFn.{FlowFn}
use Rattle.pw_flow.specs.declared.flow.Op.{Op}
use Rattle.pw_flow.specs.declared.flow.Op.TheVariants as op
use Rattle.pw_inst.specs.Registers.{first, argument_register, return_address, routine_link, stack_pointer}
use Rattle.pw_inst.specs.declared.line.Line.{Line}
use Rattle.pw_inst.specs.declared.line.Line.TheVariants as line
use Rattle.pw_inst.specs.declared.relocation.Symbol.TheVariants as symbol
use Rattle.pw_webflow.specs.declared.web.WebOp.{WebOp}
use Rattle.pw_webflow.specs.declared.web.WebOp.TheVariants.{Flow}
use Rattle.pw_alloc.specs.declared.located.Place.{Place}
use Rattle.pw_alloc.specs.declared.located.Place.TheVariants.{Slot, Reg}
use Rattle.pw_alloc.specs.declared.located.Located.{Located}
use Rattle.pw_alloc.specs.Frames.{argument_count, below, first_stacked, head_bytes, head_size, most_arguments, ops_of}
use Rattle.pw_delay.specs.declared.items.Item.{Item}
use Rattle.pw_delay.specs.declared.items.Item.TheVariants.{Plain, Turns}
use Rattle.pw_delay.specs.declared.items.Turn.TheVariants.{CallTo, CallReg}
use Rattle.pw_delay.specs.Items.{slotted, link_moved}
use Rattle.pw_select_lines.specs.Registers.{is_near, place_of, loaded, store_to}
use Rattle.pw_select_lines.specs.Operations.{stacked_arguments, register_arguments, called, called_by_value, call_result}
use Rattle.pw_run_languages.specs.Programs.{Program, function_at, functions_of, names_of, shape_of, function_number}
use Rattle.pw_run_languages.specs.Addresses.{Addresses, AreLawful}
use Rattle.pw_run_languages.specs.Acts.{Core, register, number_at, with_register}
use Rattle.pw_run_languages.specs.Standing.{ValueStands}
use Rattle.pw_run_languages.specs.LineRun as run
use Rattle.pw_run_languages.specs.LineRun.{LineProgram, LineFn}
use Rattle.pw_run_languages.specs.Links.{IsFunctionCall}
use Rattle.pw_run_languages.specs.Commands.{command, Enter, Fail, enter_as, enter_at, enter_value}
use Rattle.pw_run_languages.specs.PlacedRun as placed
use Rattle.pw_run_languages.specs.PlacedRun.{value_in}
use Rattle.pw_run_languages.specs.Serving.{IsTempRegister}
use Rattle.pw_run_languages.specs.SelectionLaws.{line_program, with_lines}
use Rattle.pw_law_select_memory.specs.Numbers.{HoldsBytes}
use Rattle.pw_law_select_memory.specs.Stand.{OldBytesStand}
use Rattle.pw_law_select_rows.specs.Straight.{words_of, IsStraight, StraightLinesAreWords}
use Rattle.pw_law_select_rows.specs.Places.{place_word}
use Rattle.pw_law_select_places.specs.Places.{IsServed, HasPlace, TemporariesHavePlaces}
use Rattle.pw_law_select_states.specs.Laid.{address, Lives, size_of}
use Rattle.pw_law_select_states.specs.Frames.{HasFrame, FrameHolds, words_size}
use Rattle.pw_law_select_states.specs.Passes.{Passes, further}
use Rattle.pw_law_select_states.specs.Pointers.{AreKnown}
use Rattle.pw_law_select_states.specs.States.{Stands}
use Rattle.pw_law_select_frames.specs.Stack.{IsPlaceBelow}
use Rattle.pw_law_select_frames.specs.Arguments.{argument_word, arguments_size, MayPass, passing, passing_by_value}
use Rattle.pw_law_select_frames.specs.Arguments as arguments
use Rattle.pw_law_select_frames.specs.Framing.{words_begin}
use Rattle.pw_law_select_frames.specs.Calls.{Calls}
use Rattle.pw_law_select_frames.specs.Chain.{BothStand}
use Rattle.pw_law_select_frames.specs.Extending.{FramesAreKnown}
use Rattle.pw_law_select_frames.specs.Amid.{BothAmid, StaysInFrame, LeavesBehind, left_of}
use Rattle.pw_law_select_frames.specs.Library.{ShowAlike}
use Rattle.pw_law_select_frames.specs.Returning.{BothTake}
use Rattle.pw_law_select_frames.specs.Reaching.{MayReach, Reaches, behind_call}
use Rattle.pw_law_select_frames.proofs.Known.{Known}
use Rattle.pw_law_select_frames.proofs.Passing.{words_pass}
use Rattle.pw_law_select_frames.proofs.Blocks.{offset_straight}
use Rattle.pw_law_select_frames.proofs.Calls.{named_called, valued_called}
use Rattle.pw_law_select_frames.proofs.Entering.{joined_straight}
use Rattle.pw_law_select_frames.proofs.Framing.{sized, place_is_below}
use Rattle.pw_law_select_frames.proofs.Extending.{holding_goes}
use Rattle.pw_law_select_frames.proofs.Amid.{same_objects, operation_is_next, goes_amid}
use Rattle.pw_law_select_frames.proofs.Arguments.{arguments_passed, arguments_passed_by_value}
use Rattle.pw_law_select_frames.proofs.Arriving.{stored_straight}
use Rattle.pw_law_select_frames.proofs.Receiving.{place_weaker, there_is}
use Rattle.pw_law_select_frames.proofs.Turning.{found_in}

-- ---- rows of arguments are straight

pub loaded_straight : (a : Place) (d : ℕ) → AllByRecursion IsStraight (loaded a d)
loaded_straight (Reg r) d = (tt, tt)
loaded_straight (Slot offset) d = offset_straight (is_near offset) offset d

stacked_straight : (offset : ℤ) (args : List Place) → AllByRecursion IsStraight (stacked_arguments offset args)
stacked_straight offset [] = tt
stacked_straight offset (a ∷ rest) =
    joined_straight (loaded a first ++ store_to offset first) (stacked_arguments (offset -ℤ pos 4) rest)
    (joined_straight (loaded a first) (store_to offset first) (loaded_straight a first) (stored_straight (is_near offset) offset first)) (stacked_straight (offset -ℤ pos 4) rest)

in_registers_straight : (r : ℕ) (args : List Place) → AllByRecursion IsStraight (register_arguments r args)
in_registers_straight r [] = tt
in_registers_straight r (a ∷ rest) = joined_straight (loaded a r) (register_arguments (r - 1) rest) (loaded_straight a r) (in_registers_straight (r - 1) rest)

passing_straight : (args : List Place) → AllByRecursion IsStraight (passing args)
passing_straight args =
    joined_straight (stacked_arguments (below first_stacked) (drop 4 args)) (register_arguments (argument_register 0) (take 4 args))
    (stacked_straight (below first_stacked) (drop 4 args)) (in_registers_straight (argument_register 0) (take 4 args))

valued_straight : (f : Place) (args : List Place) → AllByRecursion IsStraight (passing_by_value f args)
valued_straight f args =
    joined_straight (stacked_arguments (below first_stacked) (drop 4 args) ++ loaded f first) (register_arguments (argument_register 0) (take 4 args))
    (joined_straight (stacked_arguments (below first_stacked) (drop 4 args)) (loaded f first) (stacked_straight (below first_stacked) (drop 4 args)) (loaded_straight f first))
    (in_registers_straight (argument_register 0) (take 4 args))

-- ---- lists

all_places : (P : Place → Type 0) (places : List Place) (args : List ℕ) → ((a : ℕ) → Contains args a → P (place_of places a)) → AllByRecursion P (map (place_of places) args)
all_places P places [] h = tt
all_places P places (a ∷ rest) h = (h a (0, omega arith, refl), all_places P places rest (λ b c. h b (suc c.0, (let less = c.1 in omega (arith, less)), c.2)))

all_in : (P : ℕ → Type 0) (xs : List ℕ) (a : ℕ) → AllByRecursion P xs → Contains xs a → P a
all_in P [] a h c = absurd (let less = c.1 in omega (arith, less))
all_in P (x ∷ xs) a h c = by_place c.0 c.1 c.2 (λ d. all_in P xs a h.1 d)
  where
    by_place : (k : ℕ) → k < length (x ∷ xs) → slice_index_or (x ∷ xs) k a ≡ a → (Contains xs a → P a) → P a
    by_place zero less e later = subst P e h.0
    by_place (suc k) less e later = later (k, omega (arith, less), e)

-- an element of what is made of a list is made of one
mapped_at : {X : Type 0} (g : ℕ → X) (xs : List ℕ) (k : ℕ) (y : X) → slice_get (map g xs) k ≡ Some y → (a : ℕ) × (slice_get xs k ≡ Some a) × (g a ≡ y)
mapped_at g xs k y e = by_element (slice_get xs k) refl (sym (slice_get-map g xs k) ∙ e)
  where
    by_element : (o : Option ℕ) → slice_get xs k ≡ o → option_map g o ≡ Some y → (a : ℕ) × (slice_get xs k ≡ Some a) × (g a ≡ y)
    by_element None is e = absurd cc
    by_element (Some a) is e = (a, is, (let same : g a ≡ y = cc in same))

at_mapped : {X : Type 0} (g : ℕ → X) (xs : List ℕ) (k a : ℕ) → slice_get xs k ≡ Some a → slice_get (map g xs) k ≡ Some (g a)
at_mapped g xs k a e = slice_get-map g xs k ∙ ap (λ (o : Option ℕ). option_map g o) e

contained : (xs : List ℕ) (k a : ℕ) → slice_get xs k ≡ Some a → Contains xs a
contained [] k a e = absurd cc
contained (x ∷ xs) zero a e = (0, omega arith, (let same : x ≡ a = cc in same))
contained (x ∷ xs) (suc k) a e = let c = contained xs k a e in (suc c.0, (let less = c.1 in omega (arith, less)), c.2)

-- the head of the frame has room for the arguments of each call
most_is_most : (ops : List WebOp) (o : WebOp) → Contains ops o → argument_count o ≤ most_arguments ops
most_is_most [] o c = absurd (let less = c.1 in omega (arith, less))
most_is_most (x ∷ xs) o c = by_place c.0 c.1 c.2 (λ d. most_is_most xs o d)
  where
    by_place : (k : ℕ) → k < length (x ∷ xs) → slice_index_or (x ∷ xs) k o ≡ o → (Contains xs o → argument_count o ≤ most_arguments xs) → argument_count o ≤ max (argument_count x) (most_arguments xs)
    by_place zero less e later = (let same = ap (λ (y : WebOp). argument_count y) e in omega (arith, same))
    by_place (suc k) less e later = (let h = later (k, omega (arith, less), e) in omega (arith, h))

lines_named : (fs : List Located) → map (λ (g : LineFn). g.located.body.name) (map with_lines fs) ≡ map (λ (g : Located). g.body.name) fs
lines_named [] = refl
lines_named (f ∷ fs) = ap (λ (ns : List (List ℕ)). f.body.name ∷ ns) (lines_named fs)

-- ---- registers

link_leaves : (d v r : ℕ) (c : Core) → (d == 0) ≡ false → r ≢ d → register (with_register d v c) r ≡ register c r
link_leaves d v r c some ne = by_test (d == 0) some
  where
    by_test : (t : Bool) → t ≡ false → register (if t then c else record c { registers = λ q. if q == d then v else c.registers q }) r ≡ register c r
    by_test true e = refl
    by_test false e = ap (λ (t : Bool). if r == 0 then 0 else (if t then v else c.registers r)) (ne_eqb r d ne)

link_memory : (d v : ℕ) (c : Core) → (with_register d v c).memory ≡ c.memory
link_memory d v c = by_test (d == 0)
  where
    by_test : (t : Bool) → (if t then c else record c { registers = λ q. if q == d then v else c.registers q }).memory ≡ c.memory
    by_test true = refl
    by_test false = refl

-- ---- the call

module _ (known : Known) (lines : StraightLinesAreWords) (old_bytes : OldBytesStand) (places : TemporariesHavePlaces) (p : Program) (functions : List Located) (w : Addresses) (scratch : ℕ → (ℕ → ℕ) → ℕ → ℕ) (site : ℕ → ℕ)
    (ops : List WebOp) (args : List ℕ) (m : placed.Machine) (l : run.Machine) (lawful : AreLawful p w) (stand : BothStand p w site m l) (knows : AreKnown p m)
    (valid : AllByRecursion (λ (a : ℕ). a < m.frame.function.body.temps) args) (head : arguments_size (length args) ≤ head_size m.frame.function.body) where
  abbrev g : Located
  g = m.frame.function

  abbrev lp : LineProgram
  lp = line_program p functions

  abbrev top : ℕ
  top = register l.core stack_pointer

  abbrev next : placed.Machine
  next = behind_call ops m

  abbrev ps : List Place
  ps = map (place_of g.places) args

  long : length ps ≡ length args
  long = length-map args (place_of g.places)

  small : top < 2 ^ 32
  small = let high = stand.stands.frame.high in let memory = lawful.memory in omega (arith, high, memory)

  served : IsServed lp w m
  served = record { lawful = lawful; serves = stand.active.serves; room = stand.active.room }

  temp : (a : ℕ) → a < g.body.temps → HasPlace lp w (address p w site) m l.core a
  temp a less = places lp w site m l.core a served stand.stands less

  below_head : (a : ℕ) → a < g.body.temps → IsPlaceBelow w top (arguments_size (length ps)) top (place_of g.places a)
  below_head a less =
      let serves = stand.active.serves in
      let count = serves.count in
      let there = there_is g.places a (omega (arith, less, count)) in
      let sizes = sized g serves in
      let words = sizes.words in
      let frame = sizes.frame in
      let low = stand.stands.frame.low in
      place_weaker w top (words_begin g) (words_size g) (arguments_size (length ps)) top (place_of g.places a) (omega (arith, head, long)) (omega (arith, frame, low))
      (place_is_below w site m.objects g top a (place_of g.places a) serves stand.stands.frame there)

  may_pass : MayPass lp w ps l.core
  may_pass =
      let has = stand.stands.frame in
      let sizes = sized g stand.active.serves in
      let words = sizes.words in
      let frame = sizes.frame in
      let aligned = has.aligned in
      let low = has.low in
      record {
        lawful = lawful;
        skip = stand.stands.goes;
        holds = stand.stands.words;
        top = record { aligned = omega (arith, aligned); low = omega (arith, low, words, frame, head, long); high = has.high };
        places = all_places (IsPlaceBelow w top (arguments_size (length ps)) top) g.places args (λ a c. below_head a (all_in (λ (a : ℕ). a < g.body.temps) args a valid c));
      }

  frames_known : FramesAreKnown p next
  frames_known = record { frame = record { temps = knows.frame.temps; saved = knows.frame.saved; slots = knows.frame.slots }; callers = knows.callers }

  -- ---- behind the turn

  module _ (row : List Line) (straight : AllByRecursion IsStraight row) (turn : Item) (turn_line : Line) (is_turn : (rest : List Line) → slotted (turn_line ∷ rest) ≡ turn ∷ slotted rest) (call : IsFunctionCall turn)
      (t : Option ℕ) (amid : BothAmid p w site ((row ++ (turn_line ∷ [])) ++ (call_result g.places t ++ left_of next.frame)) next l) (passed : arguments.Passes lp w row ps l.core) where
    abbrev rest : List Line
    rest = call_result g.places t ++ left_of next.frame

    -- what the turn leaves of the core
    record IsLinked (c : Core) : Type 0 where
      pub registers : (r : ℕ) → r ≢ return_address → r ≢ routine_link → register c r ≡ register passed.core r
      pub memory : c.memory ≡ passed.core.memory
      pub skip : c.skip ≡ false

    temp_stays : (c : Core) → IsLinked c → (r : ℕ) → IsTempRegister r → register c r ≡ register l.core r
    temp_stays c linked r is =
        let low = is.low in
        let high = is.high in
        linked.registers r (λ e. omega (arith, e, low)) (λ e. omega (arith, e, high)) ∙ passed.registers r (λ e. omega (arith, e, low)) (inl (omega (arith, high)))

    pointer_stays : (c : Core) → IsLinked c → register c stack_pointer ≡ top
    pointer_stays c linked =
        linked.registers stack_pointer (λ e. omega (arith, e)) (λ e. omega (arith, e)) ∙ passed.registers stack_pointer (λ e. omega (arith, e)) (inr (omega arith))

    memory_stays : (c : Core) → IsLinked c → (b : ℕ) → (b + arguments_size (length args) < top) ⊎ (top ≤ b + head_bytes) → c.memory b ≡ l.core.memory b
    memory_stays c linked b out = ap (λ (f : ℕ → ℕ). f b) linked.memory ∙ passed.memory b (by_place out)
      where
        by_place : (b + arguments_size (length args) < top) ⊎ (top ≤ b + head_bytes) → (b + arguments_size (length ps) < top) ⊎ (top ≤ b + head_bytes)
        by_place (inl h) = inl (omega (arith, h, long))
        by_place (inr h) = inr h

    behind_memory : (c : Core) → IsLinked c → (b : ℕ) → b + head_size g.body < top → c.memory b ≡ l.core.memory b
    behind_memory c linked b low = memory_stays c linked b (inl (omega (arith, low, head)))

    -- a byte of an object is not in the head
    object_stays : (c : Core) → IsLinked c → (o b : ℕ) → Lives m.objects o → site o ≤ b → b < site o + size_of m.objects o → c.memory b ≡ l.core.memory b
    object_stays c linked o b lives from to = by_place (stand.stands.frame.clear o lives)
      where
        by_place : (site o + size_of m.objects o ≤ top - words_size g) ⊎ (top ≤ site o) → c.memory b ≡ l.core.memory b
        by_place (inl low) =
            let sizes = sized g stand.active.serves in
            let words = sizes.words in
            let frame = sizes.frame in
            let least = stand.stands.frame.low in
            behind_memory c linked b (omega (arith, low, to, words, frame, least))
        by_place (inr high) = memory_stays c linked b (inr (omega (arith, high, from)))

    stands_linked : (c : Core) → IsLinked c → Stands p w site next c
    stands_linked c linked =
        let s = stand.stands in
        let pointer = pointer_stays c linked in
        let holds : FrameHolds (address p w site) site m.frame c.memory top =
        holding_goes p w site site m.objects m.objects (same_objects site m) m.frame l.core.memory c.memory top stand.active.serves small s.frame knows.frame
        (λ b from to. behind_memory c linked b (omega (arith, to))) s.holds in
        let there : FrameHolds (address p w site) site m.frame c.memory (register c stack_pointer) = subst (λ a. FrameHolds (address p w site) site m.frame c.memory a) (sym pointer) holds in
        record {
          words = record {
            registers = λ r is. subst (λ n. n < 2 ^ 32) (sym (temp_stays c linked r is)) (s.words.registers r is);
            memory = subst HoldsBytes (sym linked.memory) passed.holds.memory;
          };
          laid = s.laid;
          bytes = λ o lives. old_bytes (address p w site) l.core.memory c.memory (site o) (object_at m.objects o).bytes (λ b from to. object_stays c linked o b lives from to) (s.bytes o lives);
          registers = λ r is. subst (ValueStands (address p w site) (m.registers r)) (sym (temp_stays c linked r is)) (s.registers r is);
          frame = subst (λ a. HasFrame w site m.objects g a) (sym pointer) s.frame;
          holds = record { temps = there.temps; slots = there.slots };
          goes = linked.skip;
        }

    goes_behind : (c : Core) → IsLinked c → BothAmid p w site rest next (further (slotted rest) c 0 [] l)
    goes_behind c linked =
        let same : StaysInFrame site next next = record { frame = refl; room = refl; callers = refl; objects = same_objects site m; count = refl } in
        let leaves : LeavesBehind site next l.core c = record { top = pointer_stays c linked; memory = λ b low out. behind_memory c linked b low } in
        goes_amid p w site (row ++ (turn_line ∷ [])) rest next next l c lawful amid frames_known same (stands_linked c linked) leaves 0 []

    -- ---- items

    left_is : l.frame.left ≡ map Plain (words_of row) ++ (turn ∷ slotted rest)
    left_is =
        amid.left ∙ (ap slotted (append_assoc row (turn_line ∷ []) rest)
        ∙ (lines row (turn_line ∷ rest) straight ∙ ap (λ (is : List Item). map Plain (words_of row) ++ is) (is_turn rest)))

    whole : l.frame.function.items ≡ (amid.inside.0 ++ map Plain (words_of row)) ++ (turn ∷ slotted rest)
    whole = amid.inside.1 ∙ (ap (λ (is : List Item). amid.inside.0 ++ is) left_is ∙ sym (append_assoc amid.inside.0 (map Plain (words_of row)) (turn ∷ slotted rest)))

    there : Passes lp w scratch l (turn ∷ slotted rest) passed.core []
    there = words_pass lp w scratch known (words_of row) amid.inside.0 (turn ∷ slotted rest) passed.core [] l left_is amid.inside.1 passed.goes

    abbrev at_turn : run.Machine
    at_turn = further (turn ∷ slotted rest) passed.core there.more [] l

    takes_behind : (c : Core) → IsLinked c → BothTake p w site t next (record (run.left_behind (slotted rest) at_turn) { core = c })
    takes_behind c linked =
        let b = goes_behind c linked in
        record {
          stands = b.stands;
          active = b.active;
          top = b.top;
          old = b.old;
          later = b.later;
          left = refl;
          behind = record { before = amid.inside.0 ++ map Plain (words_of row); item = turn; call = call; items = whole };
          callers = b.callers;
        }

    argument_there : (c : Core) → IsLinked c → (k : ℕ) (a : Place) → slice_get ps k ≡ Some a → argument_word c (register c stack_pointer) k ≡ place_word l.core a
    argument_there c linked k a e =
        by_place (nat_lt k 4) refl ∙ (passed.stand k a e)
      where
        by_place : (u : Bool) → nat_lt k 4 ≡ u → argument_word c (register c stack_pointer) k ≡ argument_word passed.core top k
        by_place true is =
            ap (λ (u : Bool). if u then register c (26 - k) else number_at 4 c.memory (register c stack_pointer - (first_stacked + 4 * (k - 4)))) is
            ∙ (linked.registers (26 - k) (λ e. omega (arith, e, low is)) (λ e. omega (arith, e))
            ∙ sym (ap (λ (u : Bool). if u then register passed.core (26 - k) else number_at 4 passed.core.memory (top - (first_stacked + 4 * (k - 4)))) is))
          where
            low : nat_lt k 4 ≡ true → k < 4
            low e = ltb-true k 4 e
        by_place false is =
            ap (λ (u : Bool). if u then register c (26 - k) else number_at 4 c.memory (register c stack_pointer - (first_stacked + 4 * (k - 4)))) is
            ∙ (ap (λ (f : ℕ → ℕ). number_at 4 f (register c stack_pointer - (first_stacked + 4 * (k - 4)))) linked.memory
            ∙ (ap (λ x. number_at 4 passed.core.memory (x - (first_stacked + 4 * (k - 4)))) (pointer_stays c linked)
            ∙ sym (ap (λ (u : Bool). if u then register passed.core (26 - k) else number_at 4 passed.core.memory (top - (first_stacked + 4 * (k - 4)))) is)))

    arguments_there : (c : Core) → IsLinked c → (k : ℕ) (v : Value) → slice_get (map (value_in m.frame m.registers) args) k ≡ Some v
        → ValueStands (address p w site) v (argument_word c (register c stack_pointer) k) × (argument_word c (register c stack_pointer) k < 2 ^ 32)
    arguments_there c linked k v e =
        let x = mapped_at (value_in m.frame m.registers) args k v e in
        let a = x.0 in
        let has = temp a (all_in (λ (a : ℕ). a < g.body.temps) args a valid (contained args k a x.1)) in
        let same = argument_there c linked k (place_of g.places a) (at_mapped (place_of g.places) args k a x.1) in (
          subst (λ (v : Value). ValueStands (address p w site) v (argument_word c (register c stack_pointer) k)) x.2 (subst (ValueStands (address p w site) (value_in m.frame m.registers a)) (sym same) has.stands),
          subst (λ n. n < 2 ^ 32) (sym same) has.word,
        )

    temps_stay : (c : Core) → IsLinked c → (b : ℕ) → (b + head_size g.body < top) ⊎ (top ≤ b + head_bytes) → c.memory b ≡ l.core.memory b
    temps_stay c linked b (inl low) = behind_memory c linked b low
    temps_stay c linked b (inr high) = memory_stays c linked b (inr high)

    -- by what the turn does behind it
    reaches_by : (f : List ℕ) (c : Core) → IsLinked c → register c return_address ≡ run.return_address w l.frame (slotted rest) → ShowAlike p w m l
        → Calls lp w scratch f at_turn (record (run.left_behind (slotted rest) at_turn) { core = c }) → Reaches p functions w scratch site ops t f (map (value_in m.frame m.registers) args) m l
    reaches_by f c linked link show calls =
        let count = length-map args (value_in m.frame m.registers) in
        let pointer = pointer_stays c linked in
        let room = may_pass.top.low in
        let events = show.events in
        record {
          items = turn ∷ slotted rest;
          core = passed.core;
          passes = there;
          called = record (run.left_behind (slotted rest) at_turn) { core = c };
          calls = calls;
          takes = takes_behind c linked;
          arguments = arguments_there c linked;
          room = omega (arith, count, pointer, room, long);
          head = omega (arith, count, head);
          link = link;
          frames = (refl, refl);
          show = record { rest = show.rest; read = show.read; out = show.out; events = omega (arith, events); log = show.log };
          trace = refl;
          registers = temp_stays c linked;
          pointer = pointer;
          memory = temps_stay c linked;
        }

  -- ---- by name

  reach_named : (t : Option ℕ) (f : List ℕ) → ShowAlike p w m l → BothAmid p w site ((called f ps ++ call_result g.places t) ++ left_of next.frame) next l
      → Reaches p functions w scratch site ops t f (map (value_in m.frame m.registers) args) m l
  reach_named t f show amid =
      let turn : Item = Turns (CallTo (symbol.Named f) return_address) None in
      let last : Line = line.CallTo (symbol.Named f) return_address in
      let row = passing ps in
      let result = call_result g.places t in
      let left = left_of next.frame in
      let rest = result ++ left in
      let split : (called f ps ++ result) ++ left ≡ (row ++ (last ∷ [])) ++ rest =
      append_assoc (row ++ (last ∷ [])) result left in
      let here = subst (λ (ls : List Line). BothAmid p w site ls next l) split amid in
      let passed = arguments_passed known lp w ps l.core may_pass in
      let x : run.Machine = at_turn row (passing_straight ps) turn last (λ rest. refl) tt t here passed in
      let to = run.return_address w l.frame (slotted rest) in
      let c = with_register return_address to passed.core in
      reaches_by row (passing_straight ps) turn last (λ rest. refl) tt t here passed f c
      (record { registers = λ r one two. link_leaves return_address to r passed.core refl one; memory = refl; skip = passed.goes.skip }) refl show
      (named_called lp w scratch f (slotted rest) x refl passed.goes.skip)

  -- ---- through a value

  reach_valued : (t : Option ℕ) (f : List ℕ) (a n : ℕ) → a < g.body.temps → map (λ (g : Located). g.body.name) functions ≡ map (λ (g : FlowFn). g.name) (functions_of p)
      → value_in m.frame m.registers a ≡ At (P.Function n) → function_at p n ≡ Some f → ShowAlike p w m l
      → BothAmid p w site ((called_by_value (place_of g.places a) ps ++ call_result g.places t) ++ left_of next.frame) next l
      → Reaches p functions w scratch site ops t f (map (value_in m.frame m.registers) args) m l
  reach_valued t f a n less names value at show amid =
      let turn : Item = Turns CallReg (Some link_moved) in
      let last : Line = line.CallReg in
      let pa = place_of g.places a in
      let row = passing_by_value pa ps in
      let result = call_result g.places t in
      let left = left_of next.frame in
      let rest = result ++ left in
      let split : (called_by_value pa ps ++ result) ++ left ≡ (row ++ (last ∷ [])) ++ rest =
      append_assoc (row ++ (last ∷ [])) result left in
      let here = subst (λ (ls : List Line). BothAmid p w site ls next l) split amid in
      let both = arguments_passed_by_value known lp w pa ps l.core may_pass (below_head a less) in
      let passed = both.passes in
      let x : run.Machine = at_turn row (valued_straight pa ps) turn last (λ rest. refl) tt t here passed in
      let to = run.return_address w l.frame (slotted rest) in
      let d = with_register routine_link to passed.core in
      let c = with_register return_address to d in
      let stands : ValueStands (address p w site) (At (P.Function n)) (place_word l.core pa) = subst (λ (v : Value). ValueStands (address p w site) v (place_word l.core pa)) value (temp a less).stands in
      let is : register passed.core first ≡ w.named f = both.value ∙ (stands ∙ ap (λ (o : Option (List ℕ)). unwrap_or (option_map w.named o) 0) at) in
      reaches_by row (valued_straight pa ps) turn last (λ rest. refl) tt t here passed f c
      (record { registers = λ r one two. link_leaves return_address to r d refl one ∙ link_leaves routine_link to r passed.core refl two; memory = refl; skip = passed.goes.skip }) refl show
      (valued_called lp w scratch known.quiet f (slotted rest) x lawful (lines_named functions ∙ names) refl passed.goes.skip (found_in (λ name. function_number p name == n) (names_of p) f at) is)

-- ---- whatever the operation

same_result : (s t : Option ℕ) (f h : List ℕ) (xs ys : List Value) → Enter s f xs ≡ Enter t h ys → s ≡ t
same_result s t f h xs ys e = cc

same_name : (s t : Option ℕ) (f h : List ℕ) (xs ys : List Value) → Enter s f xs ≡ Enter t h ys → f ≡ h
same_name s t f h xs ys e = cc

same_values : (s t : Option ℕ) (f h : List ℕ) (xs ys : List Value) → Enter s f xs ≡ Enter t h ys → xs ≡ ys
same_values s t f h xs ys e = cc

module _ (known : Known) (lines : StraightLinesAreWords) (old_bytes : OldBytesStand) (places : TemporariesHavePlaces) (p : Program) (functions : List Located) (w : Addresses) (scratch : ℕ → (ℕ → ℕ) → ℕ → ℕ) (site : ℕ → ℕ)
    (ops : List WebOp) (t : Option ℕ) (f : List ℕ) (args : List Value) (m : placed.Machine) (l : run.Machine) where
  as_entered : (s : Option ℕ) (h : List ℕ) (xs : List Value) → Enter s h xs ≡ Enter t f args → Reaches p functions w scratch site ops s h xs m l → Reaches p functions w scratch site ops t f args m l
  as_entered s h xs e r =
      subst (λ (ys : List Value). Reaches p functions w scratch site ops t f ys m l) (same_values s t h f xs args e)
      (subst (λ (k : List ℕ). Reaches p functions w scratch site ops t k xs m l) (same_name s t h f xs args e)
      (subst (λ (o : Option ℕ). Reaches p functions w scratch site ops o h xs m l) (same_result s t h f xs args e) r))

  room_for : (o : Op) (n : ℕ) → argument_count (Flow o) ≡ n → Contains (ops_of m.frame.function.body) (Flow o) → arguments_size n ≤ head_size m.frame.function.body
  room_for o n is there = let h = most_is_most (ops_of m.frame.function.body) (Flow o) there in omega (arith, h, is)

  pub call_reached : (o : Op) → MayReach p functions w site o ops t f args m l → Reaches p functions w scratch site ops t f args m l
  unfolding command
  call_reached (op.Call s h xs) may =
      as_entered s h (map (value_in m.frame m.registers) xs) may.calls
      (reach_named known lines old_bytes places p functions w scratch site ops xs m l may.lawful may.stand may.known may.valid.1.below (room_for (op.Call s h xs) (length xs) refl may.there) s h may.show
      (operation_is_next p w site m l (Flow (op.Call s h xs)) ops may.stand may.next))
  call_reached (op.CallInd s a shape xs) may = by_value (value_in m.frame m.registers a) refl may.calls
    where
      values : List Value
      values = map (value_in m.frame m.registers) xs

      by_shape : (n : ℕ) (h own : List ℕ) (b : Bool) → value_in m.frame m.registers a ≡ At (P.Function n) → function_at p n ≡ Some h → (if b then Enter s h values else Fail) ≡ Enter t f args
          → Reaches p functions w scratch site ops t f args m l
      by_shape n h own true is at e =
          as_entered s h values e
          (reach_valued known lines old_bytes places p functions w scratch site ops xs m l may.lawful may.stand may.known may.valid.2.below (room_for (op.CallInd s a shape xs) (length xs) refl may.there)
          s h a n may.valid.1 may.names is at may.show (operation_is_next p w site m l (Flow (op.CallInd s a shape xs)) ops may.stand may.next))
      by_shape n h own false is at e = absurd cc

      by_own : (n : ℕ) (h : List ℕ) (o : Option (List ℕ)) → value_in m.frame m.registers a ≡ At (P.Function n) → function_at p n ≡ Some h → enter_as s shape values (Some h) o ≡ Enter t f args
          → Reaches p functions w scratch site ops t f args m l
      by_own n h None is at e = absurd cc
      by_own n h (Some own) is at e = by_shape n h own (bytes_eq own shape) is at e

      by_name : (n : ℕ) (o : Option (List ℕ)) → value_in m.frame m.registers a ≡ At (P.Function n) → function_at p n ≡ o → enter_at p s shape values o ≡ Enter t f args
          → Reaches p functions w scratch site ops t f args m l
      by_name n None is at e = absurd cc
      by_name n (Some h) is at e = by_own n h (shape_of p h) is at e

      by_value : (v : Value) → value_in m.frame m.registers a ≡ v → enter_value p s v shape values ≡ Enter t f args → Reaches p functions w scratch site ops t f args m l
      by_value (At (P.Function n)) is e = by_name n (function_at p n) is refl e
      by_value (At (P.Object o i)) is e = absurd cc
      by_value Undefined is e = absurd cc
      by_value (Num n) is e = absurd cc
      by_value Null is e = absurd cc
      by_value (Piece q i) is e = absurd cc
  call_reached _ may = absurd (true≢false (sym may.call))
