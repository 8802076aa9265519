-- The first block of a function begins.
use Rattle.std.proofs.Common.{ℕ, zero, suc, ◌≡◌, ◌+◌, ◌-◌, ◌*◌, refl, ap, sym, subst, ◌∙◌, Bool, true, false, if◌then◌else◌, nat_lt, List, [], ◌∷◌, ◌++◌, map, length, drop, append_assoc}
use Rattle.std.specs.List.{AllByRecursion}
use Rattle.pw_value.specs.declared.value.Value.{Value}
use Rattle.pw_flow.specs.declared.flow.End.{End}
use Rattle.pw_inst.specs.Registers.{first}
use Rattle.pw_inst.specs.declared.line.Line.{Line}
use Rattle.pw_inst.specs.declared.line.Line.TheVariants as line
use Rattle.pw_webflow.specs.declared.web.WebOp.{WebOp}
use Rattle.pw_webflow.specs.declared.web.WebBlock.{WebBlock}
use Rattle.pw_alloc.specs.declared.located.Place.{Place}
use Rattle.pw_alloc.specs.declared.located.Place.TheVariants.{Slot, Reg}
use Rattle.pw_alloc.specs.declared.located.Located.{Located}
use Rattle.pw_alloc.specs.Frames.{below}
use Rattle.pw_delay.specs.declared.items.Item.{Item}
use Rattle.pw_delay.specs.declared.items.Item.TheVariants.{Plain, Mark}
use Rattle.pw_delay.specs.Items.{slotted}
use Rattle.pw_select_lines.specs.Registers.{is_near, copied, load_from, store_to, place_of}
use Rattle.pw_select.specs.Selection.{slot_offsets, incoming, parameter_in, parameters_in, blocks_lines}
use Rattle.pw_run_languages.specs.Programs.{Program}
use Rattle.pw_run_languages.specs.Addresses.{Addresses}
use Rattle.pw_run_languages.specs.LineRun as run
use Rattle.pw_run_languages.specs.PlacedRun as placed
use Rattle.pw_run_languages.specs.PlacedRun.{with_parameters}
use Rattle.pw_run_languages.specs.SelectionLaws.{line_program}
use Rattle.pw_law_select_rows.specs.Straight.{words_of, IsStraight, StraightLinesAreWords}
use Rattle.pw_law_select_places.specs.Places.{ResultsStand}
use Rattle.pw_law_select_states.specs.Passes.{Passes, further}
use Rattle.pw_law_select_states.specs.States.{Stands}
use Rattle.pw_law_select_frames.specs.Going.{Goes}
use Rattle.pw_law_select_frames.specs.Blocks.{lines_from}
use Rattle.pw_law_select_frames.specs.Chain.{BothStand}
use Rattle.pw_law_select_frames.specs.Amid.{BothAmid, StaysInFrame}
use Rattle.pw_law_select_frames.specs.Receiving.{Takes}
use Rattle.pw_law_select_frames.specs.Settling.{MaySettle, Settles}
use Rattle.pw_law_select_frames.proofs.Known.{Known}
use Rattle.pw_law_select_frames.proofs.Passing.{words_pass, item_passes, passes_then}
use Rattle.pw_law_select_frames.proofs.Blocks.{offset_straight, dropped_at, mark_step, stays_on}
use Rattle.pw_law_select_frames.proofs.Entering.{joined_straight}
use Rattle.pw_law_select_frames.proofs.Amid.{same_objects, behind_head, amid_whole_at, goes_amid}
use Rattle.pw_law_select_frames.proofs.Arriving.{stored_straight}
use Rattle.pw_law_select_frames.proofs.Receiving.{parameters_taken}
use Rattle.pw_law_select_frames.proofs.Values.{with_values, parameters_only}

-- ---- rows of parameters are straight

incoming_straight : (frame k d : ℕ) (t : Bool) → AllByRecursion IsStraight (if t then copied (26 - k) d else load_from (below (frame + 52 + 4 * (k - 4))) d)
incoming_straight frame k d true = (tt, tt)
incoming_straight frame k d false = offset_straight (is_near (below (frame + 52 + 4 * (k - 4)))) (below (frame + 52 + 4 * (k - 4))) d

parameter_straight : (frame k : ℕ) (a : Place) → AllByRecursion IsStraight (parameter_in frame k a)
parameter_straight frame k (Reg r) = incoming_straight frame k r (nat_lt k 4)
parameter_straight frame k (Slot offset) =
    joined_straight (incoming frame k first) (store_to offset first) (incoming_straight frame k first (nat_lt k 4)) (stored_straight (is_near offset) offset first)

parameters_straight : (frame : ℕ) (places : List Place) (k more : ℕ) → AllByRecursion IsStraight (parameters_in frame places k more)
parameters_straight frame places k zero = tt
parameters_straight frame places k (suc more) =
    joined_straight (parameter_in frame k (place_of places k)) (parameters_in frame places (suc k) more) (parameter_straight frame k (place_of places k)) (parameters_straight frame places (suc k) more)

-- ---- the first block

none_dropped : (bs : List WebBlock) → drop 0 bs ≡ bs
none_dropped [] = refl
none_dropped (b ∷ bs) = refl

module _ (known : Known) (lines : StraightLinesAreWords) (results : ResultsStand) (p : Program) (w : Addresses) (functions : List Located) (scratch : ℕ → (ℕ → ℕ) → ℕ → ℕ) (site : ℕ → ℕ) (args : List Value) (b : WebBlock)
    (m : placed.Machine) (l : run.Machine) (may : MaySettle p w functions site args b m l) where
  abbrev f : Located
  f = m.frame.function

  abbrev params : List Line
  params = parameters_in f.frame f.places 0 f.body.params

  -- what is left then
  abbrev rest : List Line
  rest = lines_from f 0 b.ops b.end

  taken : Takes (line_program p functions) w site args m l.core
  taken = parameters_taken known results (line_program p functions) w site args m l.core may.takes

  row_goes : Goes (line_program p functions) w (words_of params) [] l.core taken.core
  row_goes = subst (λ n. Goes (line_program p functions) w (words_of (parameters_in f.frame f.places 0 n)) [] l.core taken.core) may.takes.count taken.goes

  -- the blocks begin with the first
  blocks_first : blocks_lines f (slot_offsets f) 0 f.body.blocks ≡ line.Label 0 ∷ rest
  blocks_first = ap (λ (bs : List WebBlock). blocks_lines f (slot_offsets f) 0 bs) (sym (none_dropped f.body.blocks) ∙ dropped_at 0 f.body.blocks b may.block)

  amid : BothAmid p w site ((params ++ (line.Label 0 ∷ [])) ++ rest) m l
  amid = subst (λ (ls : List Line). BothAmid p w site ls m l) (ap (λ (ls : List Line). params ++ ls) blocks_first ∙ sym (append_assoc params (line.Label 0 ∷ []) rest)) may.amid

  -- with other temporaries and registers the state stands whole
  with_values_stand : (temps : List Value) (registers : ℕ → Value) (more : ℕ) → length temps ≡ length m.frame.temps → Stands p w site (with_values m temps registers) taken.core
      → BothStand p w site (with_values m temps registers) (further (slotted rest) taken.core more [] l)
  with_values_stand temps registers more room stands =
      let n = with_values m temps registers in
      let same : StaysInFrame site m n = record { frame = refl; room = room; callers = refl; objects = same_objects site m; count = refl } in
      amid_whole_at p w site rest n (further (slotted rest) taken.core more [] l)
      (ap (λ k. lines_from f k m.frame.ops m.frame.end) may.at ∙ (ap (λ (os : List WebOp). lines_from f 0 os m.frame.end) may.ops ∙ ap (λ (e : End). lines_from f 0 b.ops e) may.end))
      (goes_amid p w site (params ++ (line.Label 0 ∷ [])) rest m n l taken.core may.takes.lawful amid may.known same stands (behind_head site m l.core taken.core taken.leaves) more [])

  pub first_block_begins : Settles p w functions scratch site args b m l
  first_block_begins =
      let lp = line_program p functions in
      let words = words_of params in
      let middle = Mark 0 ∷ slotted rest in
      let is : l.frame.left ≡ map Plain words ++ middle =
      may.amid.left ∙ (lines params (blocks_lines f (slot_offsets f) 0 f.body.blocks) (parameters_straight f.frame f.places 0 f.body.params)
      ∙ ap (λ (ls : List Line). map Plain words ++ slotted ls) blocks_first) in
      let one : Passes lp w scratch l middle taken.core [] = words_pass lp w scratch known words may.amid.inside.0 middle taken.core [] l is may.amid.inside.1 row_goes in
      let mid : run.Machine = further middle taken.core one.more [] l in
      let whole : l.frame.function.items ≡ (may.amid.inside.0 ++ map Plain words) ++ middle =
      may.amid.inside.1 ∙ (ap (λ (is : List Item). may.amid.inside.0 ++ is) is ∙ sym (append_assoc may.amid.inside.0 (map Plain words) middle)) in
      let two : Passes lp w scratch mid (slotted rest) taken.core [] =
      item_passes lp w scratch (Mark 0) (may.amid.inside.0 ++ map Plain words) (slotted rest) taken.core 0 mid (λ h. h) whole
      (mark_step lp w scratch 0 (slotted rest) mid ∙ stays_on lp w scratch (slotted rest) mid) in
      let all = passes_then lp w scratch l middle (slotted rest) taken.core taken.core [] [] one two in
      let only = parameters_only 0 args m in
      let n = with_parameters 0 args m in
      record {
        core = taken.core;
        passes = all;
        leaves = taken.leaves;
        stands = subst (λ (x : placed.Machine). BothStand p w site x (further (slotted rest) taken.core all.more [] l)) (sym only.is)
            (with_values_stand n.frame.temps n.registers all.more only.room
            (subst (λ (x : placed.Machine). Stands p w site x taken.core) only.is taken.stands));
      }
