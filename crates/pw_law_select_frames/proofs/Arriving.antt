-- A whole call, up to webs and parameters.
use Rattle.std.proofs.Common.{ℕ, ℤ, ◌≡◌, ◌+◌, ◌-◌, ◌^◌, ◌<◌, inl, arith, refl, ap, sym, subst, ◌∙◌, Bool, true, false, nat_lt, Option, List, [], ◌∷◌, ◌++◌, map, length, append_assoc}
use Rattle.std.specs.List.{AllByRecursion}
use Rattle.std.proofs.lemmas.List.{length-replicate}
use Rattle.pw_value.specs.declared.value.Value.{Value}
use Rattle.pw_value.specs.declared.value.Value.TheVariants.{Undefined}
use Rattle.pw_value.specs.Objects.{Object}
use Rattle.pw_inst.specs.Limits.{near_limit}
use Rattle.pw_inst.specs.Registers.{stack_pointer}
use Rattle.pw_inst.specs.declared.Inst.TheVariants as i
use Rattle.pw_inst.specs.declared.line.Line.{Line}
use Rattle.pw_inst.specs.declared.line.Line.TheVariants as line
use Rattle.pw_webflow.specs.declared.web.WebBlock.{WebBlock}
use Rattle.pw_alloc.specs.declared.located.Located.{Located}
use Rattle.pw_alloc.specs.Frames.{head_size, saved_offset, below}
use Rattle.pw_delay.specs.declared.items.Item.TheVariants.{Plain}
use Rattle.pw_delay.specs.Items.{slotted}
use Rattle.pw_select_lines.specs.Registers.{is_near, copied, store_to}
use Rattle.pw_select.specs.Selection.{frame_end, slot_offsets, saved_lines, webs_loaded, parameters_in, entry_lines, blocks_lines, selected}
use Rattle.pw_run.specs.Runs.{AreAlike}
use Rattle.pw_run_languages.specs.Traces.{EventAlike, Called}
use Rattle.pw_run_languages.specs.Programs.{Program}
use Rattle.pw_run_languages.specs.Addresses.{Addresses}
use Rattle.pw_run_languages.specs.Acts.{register}
use Rattle.pw_run_languages.specs.LineRun as run
use Rattle.pw_run_languages.specs.LineRun.{globals_in}
use Rattle.pw_run_languages.specs.FlowRun.{with_slots}
use Rattle.pw_run_languages.specs.PlacedRun as placed
use Rattle.pw_run_languages.specs.PlacedRun.{globals_now}
use Rattle.pw_run_languages.specs.Direction.{with_functions}
use Rattle.pw_run_languages.specs.SelectionLaws.{line_program, with_lines}
use Rattle.pw_law_select_memory.specs.Stand.{StandingIsAlike, OldBytesStand}
use Rattle.pw_law_select_rows.specs.Straight.{words_of, IsStraight, StraightLinesAreWords}
use Rattle.pw_law_select_states.specs.Laid.{address, Lives, size_of}
use Rattle.pw_law_select_states.specs.Passes.{Passes}
use Rattle.pw_law_select_frames.specs.Chain.{SavedStand, Waits, AllWait, frame_top}
use Rattle.pw_law_select_frames.specs.Extending.{KeepsObjects}
use Rattle.pw_law_select_frames.specs.Beginning.{Begins}
use Rattle.pw_law_select_frames.specs.Arriving.{MayEnter, IsEntered, called_in, lines_behind_entry}
use Rattle.pw_law_select_frames.proofs.Known.{Known}
use Rattle.pw_law_select_frames.proofs.Passing.{words_pass}
use Rattle.pw_law_select_frames.proofs.Blocks.{reach_by}
use Rattle.pw_law_select_frames.proofs.Entering.{joined_straight, end_straight}
use Rattle.pw_law_select_frames.proofs.Framing.{sized}
use Rattle.pw_law_select_frames.proofs.Beginning.{fresh, function_begins, lives_inside, slots_are}
use Rattle.pw_law_select_frames.proofs.Extending.{saved_go, saved_count, holding_goes, waiting_goes}
use Rattle.pw_law_select_frames.proofs.Globals.{globals_alike}
use Rattle.pw_law_select_frames.proofs.Stepping.{objects_below_by, waiting_are_active}

-- ---- lines

pub stored_straight : (near : Bool) (offset : ℤ) (r : ℕ) → AllByRecursion IsStraight ((reach_by near offset).before ++ line.Plain (i.Stw r (reach_by near offset).displacement (reach_by near offset).base) ∷ [])
stored_straight true offset r = (tt, tt)
stored_straight false offset r = (tt, (tt, (tt, (tt, tt))))

saved_straight : (head k : ℕ) (saved : List ℕ) → AllByRecursion IsStraight (saved_lines store_to head k saved)
saved_straight head k [] = tt
saved_straight head k (r ∷ rest) =
    joined_straight (store_to (saved_offset head k) r) (saved_lines store_to head (k + 1) rest) (stored_straight (is_near (saved_offset head k)) (saved_offset head k) r) (saved_straight head (k + 1) rest)

abbrev first_lines : Located → List Line
first_lines f = entry_lines f.frame ++ saved_lines store_to (head_size f.body) 0 f.saved

first_straight : (f : Located) → AllByRecursion IsStraight (first_lines f)
first_straight f =
    joined_straight (entry_lines f.frame) (saved_lines store_to (head_size f.body) 0 f.saved) (
      tt,
      (
        tt,
        joined_straight (frame_end f.frame) (line.Plain (i.Comclr 5 false 1 21 0) ∷ line.Plain (i.Break 0 4) ∷ line.Plain (i.Stw 2 (below 20) 30) ∷ copied 1 30)
            (end_straight f.frame (nat_lt near_limit f.frame)) (tt, (tt, (tt, (tt, tt)))),
      ),
    )
    (saved_straight (head_size f.body) 0 f.saved)

selected_split : (f : Located) → selected f ≡ first_lines f ++ lines_behind_entry f
unfolding selected
selected_split f =
    let webs = webs_loaded f.body.directives.webs in
    let params = parameters_in f.frame f.places 0 f.body.params in
    let blocks = blocks_lines f (slot_offsets f) 0 f.body.blocks in
    append_assoc (first_lines f ++ webs) params blocks ∙ (append_assoc (first_lines f) webs (params ++ blocks)
    ∙ ap (λ (ls : List Line). first_lines f ++ ls) (sym (append_assoc webs params blocks)))

-- ---- who waits

-- registers by their numbers with values
named_registers : (g : ℕ → Value) (saved : List ℕ) → map (λ (s : ℕ × Value). s.0) (map (λ r. (r, g r)) saved) ≡ saved
named_registers g [] = refl
named_registers g (r ∷ rest) = ap (λ (l : List ℕ). r ∷ l) (named_registers g rest)

both_lengths : (objects : List Object) (sizes : List ℕ) → length (objects ++ map fresh sizes) ≡ length objects + length sizes
both_lengths [] [] = omega arith
both_lengths [] (size ∷ rest) = let h = both_lengths [] rest in omega (arith, h)
both_lengths (x ∷ xs) sizes = let h = both_lengths xs sizes in omega (arith, h)

module _ (known : Known) (old_bytes : OldBytesStand) (lines : StraightLinesAreWords) (alike : StandingIsAlike) (p : Program) (w : Addresses) (functions : List Located) (scratch : ℕ → (ℕ → ℕ) → ℕ → ℕ) (site : ℕ → ℕ)
    (f : Located) (b : WebBlock) (t : Option ℕ) (m : placed.Machine) (l : run.Machine) (may : MayEnter p w site f t m l) where
  abbrev sp : ℕ
  sp = register l.core stack_pointer

  abbrev now : List Object
  now = with_slots f.body.slots m.objects

  below_sp : (o : ℕ) → Lives m.objects o → site o + size_of m.objects o < sp
  below_sp = objects_below_by p w site m l may.lawful may.takes.stands may.takes.active.serves may.takes.top may.takes.old may.takes.later

  starting : Begins (line_program p functions) w site m f b t l.core
  starting = function_begins known old_bytes (line_program p functions) w site m f l.core (record {
    lawful = may.lawful;
    stands = may.takes.stands;
    known = may.known;
    below = below_sp;
    serves = may.serves;
    directives = may.directives;
    link = subst (λ n. n < 2 ^ 32) (sym may.link) (may.lawful.behind_word (run.name_of l.frame) (run.turns l.frame.left));
    fits = may.fits;
  }) b t

  -- below the return address memory is as it was
  byte_stays_below : (a : ℕ) → a + 20 < sp → starting.core.memory a ≡ l.core.memory a
  byte_stays_below a low = starting.memory a (omega (arith, low)) (inl low)

  small : sp < 2 ^ 32
  small = let high = may.takes.stands.frame.high in let memory = may.lawful.memory in omega (arith, high, memory)

  same_objects : KeepsObjects site site m.objects m.objects
  same_objects = record { sites = λ o less. refl; lives = λ o less h. h; sizes = λ o less. refl }

  abbrev callee : placed.Frame
  callee = (called_in p functions f b t m).frame

  -- the caller waits, with the return address in its head
  caller_waits : Waits p w site m.objects starting.core.memory callee sp m.frame l.frame
  caller_waits =
      let take = may.takes in
      let a = take.active in
      let sizes = sized m.frame.function a.serves in
      let words = sizes.words in
      let frame = sizes.frame in
      let low = take.stands.frame.low in
      let number = saved_count m.frame.saved m.frame.function.saved a.saved in
      let top = take.top in
      record {
        active = record {
          function = a.function;
          serves = a.serves;
          directives = a.directives;
          room = a.room;
          saved = a.saved;
          words = saved_go p w site site (length m.objects) (λ o less. refl) l.core.memory starting.core.memory (frame_top m.frame l.frame - head_size m.frame.function.body) 0 m.frame.saved may.known.frame.saved
              (omega (arith, words, frame, low, number, top)) (λ b from to. byte_stays_below b (omega (arith, to, top))) a.words;
        };
        top = top;
        frame = take.stands.frame;
        holds = holding_goes p w site site m.objects m.objects same_objects m.frame l.core.memory starting.core.memory sp a.serves small take.stands.frame may.known.frame
            (λ b from to. byte_stays_below b (omega (arith, to))) take.stands.holds;
        later = λ o early lives. take.later o lives;
        old = take.old;
        left = take.left;
        behind = take.behind;
        link = starting.link ∙ may.link;
      }

  all_wait : AllWait p w site m.objects starting.core.memory callee sp (m.frame ∷ m.callers) (l.frame ∷ l.callers)
  all_wait =
      let take = may.takes in
      let sizes = sized m.frame.function take.active.serves in
      let words = sizes.words in
      let frame = sizes.frame in
      let top = take.top in
      let base = may.known.frame.slots in (
        caller_waits,
        waiting_goes p w site site m.objects m.objects l.core.memory starting.core.memory m.frame l.frame.stack m.callers l.callers
            (omega (arith, small, top)) (omega (arith, base)) same_objects
            (λ o late lives. absurd (let less = lives_inside m.objects o lives in omega (arith, less, late)))
            (λ b less free. byte_stays_below b (omega (arith, less, top, words, frame))) may.known.callers take.callers,
      )

  pub function_entered : IsEntered p w functions scratch site f b t m l
  function_entered =
      let lp = line_program p functions in
      let q = with_functions p functions in
      let x : run.Machine = run.enters lp w (with_lines f) l in
      let behind = slotted (lines_behind_entry f) in
      let words = words_of (first_lines f) in
      let s = starting in
      let is : slotted (selected f) ≡ map Plain words ++ behind = ap slotted (selected_split f) ∙ lines (first_lines f) (lines_behind_entry f) (first_straight f) in
      let one : Passes lp w scratch x behind s.core [] = words_pass lp w scratch known words [] behind s.core [] x is refl s.goes in
      let take = may.takes in
      let there = globals_alike alike p w functions site m.registers m.objects l.core (m.frame ∷ m.callers) (l.frame ∷ l.callers) take.stands.registers
      (take.active, waiting_are_active p w site m.objects l.core.memory m.frame l.frame.stack m.callers l.callers take.callers) take.stands.laid take.stands.bytes in
      let count : length now ≡ length m.objects + length f.body.slots =
      ap (λ (os : List Object). length os) (slots_are f.body.slots m.objects) ∙ both_lengths m.objects f.body.slots in
      record {
        after = s.after;
        core = s.core;
        passes = one;
        keeps = s.keeps;
        begins = record {
          stands = record {
            words = s.stands.words;
            laid = s.stands.laid;
            bytes = s.stands.bytes;
            registers = s.stands.registers;
            frame = s.stands.frame;
            holds = s.stands.holds;
            goes = s.stands.goes;
          };
          active = record {
            function = refl;
            serves = may.serves;
            directives = may.directives;
            room = length-replicate f.body.temps Undefined;
            saved = named_registers m.registers f.saved;
            words = subst (λ a. SavedStand (address p w s.after) s.core.memory (a - head_size f.body) 0 (map (λ r. (r, m.registers r)) f.saved)) s.pointer s.saved;
          };
          top = s.pointer;
          old = λ o early lives.
              let at = s.keeps.sites o early in
              let size = s.keeps.sizes o early in
              let less = below_sp o (s.keeps.lives o early lives) in
              omega (arith, at, size, less);
          later = λ o lives. (let less = lives_inside now o lives in omega (arith, less, count));
          left = refl;
          inside = (map Plain words, is);
          callers = waiting_goes p w site s.after m.objects now s.core.memory s.core.memory callee sp (m.frame ∷ m.callers) (l.frame ∷ l.callers) small (omega arith) s.keeps s.new
              (λ b less free. refl) (may.known.frame, may.known.callers) all_wait;
        };
        registers = s.registers;
        memory = byte_stays_below;
        words = s.words;
        log = AreAlike.also (Called f.body.name (globals_now q m.registers (m.frame ∷ m.callers) m.objects) (placed.kept m.registers))
            (Called f.body.name (globals_in lp w l.core (l.frame ∷ l.callers)) (run.kept l.core)) m.trace l.trace
            (record {
              objects = site;
              globals = take.stands.laid.named;
              alike = EventAlike.called f.body.name (globals_now q m.registers (m.frame ∷ m.callers) m.objects) (globals_in lp w l.core (l.frame ∷ l.callers)) (placed.kept m.registers) (run.kept l.core) there;
            }) may.log;
      }
