-- The caller takes an answer.
use Rattle.std.proofs.Common.{ℕ, ◌≡◌, arith, refl, sym, subst, ◌∙◌, Option, Some, None, List, [], ◌∷◌, ◌++◌, map, length, append_assoc}
use Rattle.std.specs.List.{AllByRecursion}
use Rattle.pw_value.specs.declared.value.Value.{Value}
use Rattle.pw_inst.specs.Registers.{answer, result}
use Rattle.pw_inst.specs.declared.line.Line.{Line}
use Rattle.pw_alloc.specs.declared.located.Place.{Place}
use Rattle.pw_alloc.specs.declared.located.Place.TheVariants.{Slot, Reg}
use Rattle.pw_alloc.specs.declared.located.Located.{Located}
use Rattle.pw_delay.specs.declared.items.Item.TheVariants.{Plain}
use Rattle.pw_delay.specs.Items.{slotted}
use Rattle.pw_select_lines.specs.Registers.{is_near, copied, place_of, result_register}
use Rattle.pw_select_lines.specs.Arithmetic.{with_none}
use Rattle.pw_select_lines.specs.Operations.{call_result}
use Rattle.pw_run_languages.specs.Programs.{Program}
use Rattle.pw_run_languages.specs.Addresses.{Addresses}
use Rattle.pw_run_languages.specs.Acts.{Core, register}
use Rattle.pw_run_languages.specs.LineRun as run
use Rattle.pw_run_languages.specs.LineRun.{LineProgram}
use Rattle.pw_run_languages.specs.PlacedRun as placed
use Rattle.pw_run_languages.specs.PlacedRun.{takes_result}
use Rattle.pw_run_languages.specs.SelectionLaws.{line_program}
use Rattle.pw_law_select_rows.specs.Straight.{words_of, IsStraight, StraightLinesAreWords}
use Rattle.pw_law_select_rows.specs.Results.{IsPlace, ResultsArePlaced}
use Rattle.pw_law_select_rows.specs.Computing.{IsTarget, CopiesAreMade}
use Rattle.pw_law_select_places.specs.Places.{IsServed, TemporariesHavePlaces, ResultsStand}
use Rattle.pw_law_select_states.specs.Passes.{Passes, Leaves, further}
use Rattle.pw_law_select_states.specs.States.{Stands}
use Rattle.pw_law_select_frames.specs.Going.{Goes}
use Rattle.pw_law_select_frames.specs.Blocks.{lines_from}
use Rattle.pw_law_select_frames.specs.Chain.{BothStand}
use Rattle.pw_law_select_frames.specs.Amid.{BothAmid, StaysInFrame}
use Rattle.pw_law_select_frames.specs.Returning.{BothTake}
use Rattle.pw_law_select_frames.specs.Answering.{MayAnswer, Answers}
use Rattle.pw_law_select_frames.proofs.Known.{Known}
use Rattle.pw_law_select_frames.proofs.Going.{stays}
use Rattle.pw_law_select_frames.proofs.Passing.{words_pass}
use Rattle.pw_law_select_frames.proofs.Amid.{same_objects, behind_head, amid_is_whole, goes_amid}
use Rattle.pw_law_select_frames.proofs.Arriving.{stored_straight}
use Rattle.pw_law_select_frames.proofs.Values.{with_values, result_only}

-- ---- the row of an answer is straight

placed_straight : (a : Place) → AllByRecursion IsStraight (with_none a (copied answer))
placed_straight (Reg r) = (tt, tt)
placed_straight (Slot offset) = (tt, stored_straight (is_near offset) offset result)

call_straight : (places : List Place) (t : Option ℕ) → AllByRecursion IsStraight (call_result places t)
call_straight places None = tt
call_straight places (Some t) = placed_straight (place_of places t)

-- a register in which an answer comes to its place
is_target : (lines : LineProgram) (w : Addresses) (c : Core) (a : Place) → IsPlace lines w c a → IsTarget (result_register a)
is_target lines w c (Reg r) is = let low = is.low in record { not_zero = λ e. omega (arith, low, e); not_help = λ e. omega (arith, low, e) }
is_target lines w c (Slot offset) is = record { not_zero = λ e. omega (arith, e); not_help = λ e. omega (arith, e) }

-- ---- the answer

module _ (known : Known) (lines : StraightLinesAreWords) (places : TemporariesHavePlaces) (results : ResultsStand) (put : ResultsArePlaced) (copies : CopiesAreMade)
    (p : Program) (w : Addresses) (functions : List Located) (scratch : ℕ → (ℕ → ℕ) → ℕ → ℕ) (site : ℕ → ℕ) (t : Option ℕ) (v : Value) (m : placed.Machine) (l : run.Machine) (may : MayAnswer p w site t v m l) where
  abbrev f : Located
  f = m.frame.function

  abbrev takes : BothTake p w site t m l
  takes = may.takes

  -- the row takes the answer
  record RowTakes (o : Option ℕ) : Type 0 where
    pub core : Core
    pub goes : Goes (line_program p functions) w (words_of (call_result f.places o)) [] l.core core
    pub stands : Stands p w site (takes_result o v m) core
    pub leaves : Leaves site m l.core core

  taken : (o : Option ℕ) → t ≡ o → RowTakes o
  taken None e = record {
    core = l.core;
    goes = stays (line_program p functions) w l.core takes.stands.goes;
    stands = takes.stands;
    leaves = record { top = refl; memory = λ a out. refl; registers = λ r none. refl };
  }
  taken (Some k) e =
      let lp : LineProgram = line_program p functions in
      let a : Place = place_of f.places k in
      let n : ℕ = register l.core answer in
      let served : IsServed lp w m = record { lawful = may.lawful; serves = takes.active.serves; room = takes.active.room } in
      let has = places lp w site m l.core k served takes.stands (may.temp k e) in
      let moved = put lp w a n [] l.core (copied answer) has.place (copies lp w answer (result_register a) l.core (is_target lp w l.core a has.place) takes.stands.goes) in
      let reached = results lp w site m l.core moved.core k n v served takes.stands (may.temp k e) (may.value k e) (may.word k e) moved.placed in
      record {
        core = moved.core;
        goes = record { acts = moved.through.acts; skip = moved.placed.skip; notes = moved.through.notes };
        stands = reached.stands;
        leaves = reached.leaves;
      }

  -- ---- what it leaves

  abbrev row : List Line
  row = call_result f.places t

  abbrev rest : List Line
  rest = lines_from f m.frame.block m.frame.ops m.frame.end

  amid : BothAmid p w site (row ++ rest) m l
  amid = record {
    stands = takes.stands;
    active = takes.active;
    top = takes.top;
    old = takes.old;
    later = takes.later;
    left = takes.left;
    inside = (
      takes.behind.before ++ (takes.behind.item ∷ []),
      takes.behind.items ∙ sym (append_assoc takes.behind.before (takes.behind.item ∷ []) l.frame.left),
    );
    callers = takes.callers;
  }

  -- with other temporaries and registers, and with memory as the row leaves it, the state stands whole
  with_values_stand : (temps : List Value) (registers : ℕ → Value) (core : Core) (more : ℕ) → length temps ≡ length m.frame.temps → Leaves site m l.core core
      → Stands p w site (with_values m temps registers) core → BothStand p w site (with_values m temps registers) (further (slotted rest) core more [] l)
  with_values_stand temps registers core more room leaves stands =
      let n = with_values m temps registers in
      let same : StaysInFrame site m n = record { frame = refl; room = room; callers = refl; objects = same_objects site m; count = refl } in
      amid_is_whole p w site n (further (slotted rest) core more [] l) (goes_amid p w site row rest m n l core may.lawful amid may.known same stands (behind_head site m l.core core leaves) more [])

  pub answer_taken : Answers p w functions scratch site t v m l
  answer_taken =
      let lp = line_program p functions in
      let took : RowTakes t = taken t refl in
      let is : l.frame.left ≡ map Plain (words_of row) ++ slotted rest = takes.left ∙ lines row rest (call_straight f.places t) in
      let all : Passes lp w scratch l (slotted rest) took.core [] = words_pass lp w scratch known (words_of row) amid.inside.0 (slotted rest) took.core [] l is amid.inside.1 took.goes in
      let only = result_only t v m in
      let n = takes_result t v m in
      record {
        core = took.core;
        passes = all;
        leaves = took.leaves;
        stands = subst (λ (x : placed.Machine). BothStand p w site x (further (slotted rest) took.core all.more [] l)) (sym only.is)
            (with_values_stand n.frame.temps n.registers took.core all.more only.room took.leaves
            (subst (λ (x : placed.Machine). Stands p w site x took.core) only.is took.stands));
      }
