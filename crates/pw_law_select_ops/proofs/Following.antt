-- What is common to the operations: the laws that they rest on, and lines that follow the placed run.
use Rattle.std.proofs.Common.{ℕ, ◌≡◌, ◌^◌, ◌<◌, refl, ap, sym, subst, ◌∙◌, arith, Option, Some, None, List, [], ◌++◌, map, append_assoc, slice_get, slice_set}
use Rattle.pw_value.specs.declared.value.Value.{Value}
use Rattle.pw_value.specs.declared.value.Byte.{Byte}
use Rattle.pw_alloc.specs.declared.located.Place.{Place}
use Rattle.pw_alloc.specs.declared.located.Place.TheVariants.{Slot, Reg}
use Rattle.pw_alloc.specs.declared.located.Located.{Located}
use Rattle.pw_inst.specs.Registers.{first}
use Rattle.pw_inst.specs.declared.line.Line.{Line}
use Rattle.pw_delay.specs.declared.items.Item.{Item}
use Rattle.pw_delay.specs.declared.items.Item.TheVariants.{Plain}
use Rattle.pw_delay.specs.Items.{slotted}
use Rattle.pw_webflow.specs.declared.web.WebOp.{WebOp}
use Rattle.pw_run.specs.Runs.{AreAlike}
use Rattle.pw_run_languages.specs.Traces.{Event}
use Rattle.pw_run_languages.specs.Programs.{Program}
use Rattle.pw_run_languages.specs.Addresses.{Addresses}
use Rattle.pw_run_languages.specs.Acts.{Core}
use Rattle.pw_run_languages.specs.Standing.{ValueStands, EventInWords}
use Rattle.pw_run_languages.specs.LineRun.{LineProgram, Machine}
use Rattle.pw_run_languages.specs.PlacedRun as placed
use Rattle.pw_run_languages.specs.SelectionLaws.{line_program}
use Rattle.pw_select_lines.specs.Registers.{place_of, operand_register, result_register}
use Rattle.pw_select_lines.specs.Operations.{web_op_lines}
use Rattle.pw_law_select_rows.specs.Straight.{words_of, StraightLinesAreWords}
use Rattle.pw_law_select_rows.specs.Results.{GoThrough, IsPlace, PlacesWord, ResultsArePlaced, OneOperandIsTaken, TwoOperandsAreTaken}
use Rattle.pw_law_select_rows.specs.Computing.{IsSource, IsTarget, UnariesAreComputed, ExtensionsAreComputed, BinariesAreComputed, CopiesAreMade, ConstantsAreGot, AddressesAreGot, FrameAddressesAreGot}
use Rattle.pw_law_select_states.specs.Laid.{address}
use Rattle.pw_law_select_states.specs.Passes.{Passes, further, OnlyValues, Follows}
use Rattle.pw_law_select_places.specs.Places.{HasPlace, StandsThen, TemporariesHavePlaces, ResultsStand, WebRegistersStand, PointersAreWords}
use Rattle.pw_law_select_places.specs.Objects.{WrittenObjectsStand}
use Rattle.pw_law_select_places.specs.Rows.{StraightWordsPass, PassesCompose}
use Rattle.pw_law_select_ops.specs.Operations.{layout_of, StandAt}
use Rattle.pw_law_select_ops.proofs.Values.{WordLaws}
use Rattle.pw_law_select_ops.proofs.Straightness.{AreStraight}

-- ---- laws

pub record Laws : Type 0 where
  pub words : WordLaws
  pub lines : StraightLinesAreWords
  pub none : ResultsArePlaced
  pub one : OneOperandIsTaken
  pub two : TwoOperandsAreTaken
  pub unary : UnariesAreComputed
  pub extension : ExtensionsAreComputed
  pub binary : BinariesAreComputed
  pub copy : CopiesAreMade
  pub constant : ConstantsAreGot
  pub address : AddressesAreGot
  pub frame : FrameAddressesAreGot
  pub temporaries : TemporariesHavePlaces
  pub results : ResultsStand
  pub webs : WebRegistersStand
  pub pointers : PointersAreWords
  pub objects : WrittenObjectsStand
  pub straight : StraightWordsPass
  pub compose : PassesCompose

-- ---- a value goes to a temporary

abbrev pub register_of_place : Option Place → Option ℕ
register_of_place (Some (Reg r)) = Some r
register_of_place _ = None

abbrev pub put_at : ℕ → Value → placed.Machine → Option ℕ → placed.Machine
put_at t v m (Some r) = record m { registers = placed.with_register r v m.registers }
put_at t v m None = record m { frame = record m.frame { temps = slice_set m.frame.temps t v } }

same_values : (m : placed.Machine) → OnlyValues m m
same_values m = record { frame = refl; callers = refl; rest = refl; read = refl; out = refl; events = refl }

pub values_put : (t : ℕ) (v : Value) (m : placed.Machine) → OnlyValues m (placed.with_temp t v m)
values_put t v m = by_register (register_of_place (slice_get m.frame.function.places t))
  where
    by_register : (o : Option ℕ) → OnlyValues m (put_at t v m o)
    by_register (Some r) = record { frame = refl; callers = refl; rest = refl; read = refl; out = refl; events = refl }
    by_register None = record { frame = refl; callers = refl; rest = refl; read = refl; out = refl; events = refl }

pub trace_put : (t : ℕ) (v : Value) (m : placed.Machine) → (placed.with_temp t v m).trace ≡ m.trace
trace_put t v m = by_register (register_of_place (slice_get m.frame.function.places t))
  where
    by_register : (o : Option ℕ) → (put_at t v m o).trace ≡ m.trace
    by_register (Some r) = refl
    by_register None = refl

pub same_machine : (m n : placed.Machine) → placed.On m ≡ placed.On n → m ≡ n
same_machine m n e = cc

-- a value that there is goes there
pub given : (t : ℕ) (v : Option Value) (m n : placed.Machine) → placed.gives t v m ≡ placed.On n → (z : Value) × (v ≡ Some z) × (placed.with_temp t z m ≡ n)
given t (Some z) m n e = (z, refl, same_machine (placed.with_temp t z m) n e)
given t None m n e = absurd cc

-- ---- registers of places

pub target_of : (lines : LineProgram) (w : Addresses) (c : Core) (t : Place) → IsPlace lines w c t → IsTarget (result_register t)
target_of lines w c (Reg r) is =
    let low = is.low in record { not_zero = λ e. omega (arith, low, e); not_help = λ e. omega (arith, low, e) }
target_of lines w c (Slot offset) is = record { not_zero = λ e. omega (arith, e); not_help = λ e. omega (arith, e) }

pub source_of : (lines : LineProgram) (w : Addresses) (c : Core) (a : Place) (other : ℕ) → 1 < other → other < 29 → IsPlace lines w c a → IsSource (operand_register a other)
source_of lines w c (Reg r) other low high is =
    let least = is.low in
    let most = is.high in record { not_help = λ e. omega (arith, least, e); not_result = λ e. omega (arith, most, e) }
source_of lines w c (Slot offset) other low high is = record { not_help = λ e. omega (arith, low, e); not_result = λ e. omega (arith, high, e) }

-- ---- lines

module _ (laws : Laws) (p : Program) (functions : List Located) (w : Addresses) (scratch : ℕ → (ℕ → ℕ) → ℕ → ℕ) (site : ℕ → ℕ) where
  abbrev pub program : LineProgram
  program = line_program p functions

  -- straight lines behind which another state stands
  pub record StraightFollows (m n : placed.Machine) (l : Machine) (rest : List Item) (e : Core) : Type 0 where
    pub follows : Follows p program w scratch site m n l rest
    pub core : follows.core ≡ e

  pub straight_reaches : (m n : placed.Machine) (l : Machine) (before : List Item) (xs more : List Line) (e : Core) (log : List (Event ℕ ℕ)) → AreStraight xs
      → l.frame.left ≡ slotted (xs ++ more) → l.frame.function.items ≡ before ++ l.frame.left → GoThrough program w (words_of xs) l.core e log
      → StandsThen program w site m n l.core e → OnlyValues m n
      → (AreAlike (EventInWords p w.named) m.trace l.trace → AreAlike (EventInWords p w.named) n.trace (log ++ l.trace))
      → StraightFollows m n l (slotted more) e
  straight_reaches m n l before xs more e log straight left items g reached values logs = record {
    follows = record {
      values = values;
      core = e;
      log = log;
      passes = laws.straight program w scratch (words_of xs) before (slotted more) e log l (left ∙ laws.lines xs more straight) items g;
      stands = reached.stands;
      leaves = reached.leaves;
      logs = logs;
    };
    core = refl;
  }

  pub straight_follow : (m n : placed.Machine) (l : Machine) (before : List Item) (xs more : List Line) (e : Core) (log : List (Event ℕ ℕ)) → AreStraight xs
      → l.frame.left ≡ slotted (xs ++ more) → l.frame.function.items ≡ before ++ l.frame.left → GoThrough program w (words_of xs) l.core e log
      → StandsThen program w site m n l.core e → OnlyValues m n
      → (AreAlike (EventInWords p w.named) m.trace l.trace → AreAlike (EventInWords p w.named) n.trace (log ++ l.trace))
      → Follows p program w scratch site m n l (slotted more)
  straight_follow m n l before xs more e log straight left items g reached values logs =
      (straight_reaches m n l before xs more e log straight left items g reached values logs).follows

  -- and lines that put a word for a value into the place of a temporary, and note nothing
  pub result_follows : (o : WebOp) (m n : placed.Machine) (l : Machine) (before : List Item) (more : List Line) (t x : ℕ) (v : Value) → StandAt p functions w site o m l before more
      → t < m.frame.function.body.temps → AreStraight (web_op_lines (layout_of m.frame.function) o)
      → PlacesWord program w (words_of (web_op_lines (layout_of m.frame.function) o)) (place_of m.frame.function.places t) x [] l.core
      → ValueStands (address p w site) v x → x < 2 ^ 32 → placed.with_temp t v m ≡ n → Follows p program w scratch site m n l (slotted more)
  result_follows o m n l before more t x v at less straight puts h small is =
      subst (λ (n : placed.Machine). Follows p program w scratch site m n l (slotted more)) is
      (straight_follow m (placed.with_temp t v m) l before (web_op_lines (layout_of m.frame.function) o) more puts.core [] straight at.left at.items puts.through
      (laws.results program w site m l.core puts.core t x v at.served at.stands less h small puts.placed) (values_put t v m)
      (λ alike. subst (λ (log : List (Event Byte Value)). AreAlike (EventInWords p w.named) log l.trace) (sym (trace_put t v m)) alike))

  -- the place of a temporary
  pub place_at : (o : WebOp) (m : placed.Machine) (l : Machine) (before : List Item) (more : List Line) (t : ℕ) → StandAt p functions w site o m l before more
      → t < m.frame.function.body.temps → HasPlace program w (address p w site) m l.core t
  place_at o m l before more t at less = laws.temporaries program w site m l.core t at.served at.stands less

  -- ---- rows one after the other

  -- the lines come so far, and of the function's items these are behind and these are left
  pub record PassesTo (l : Machine) (before rest : List Item) (e : Core) (log : List (Event ℕ ℕ)) : Type 0 where
    pub passes : Passes program w scratch l rest e log
    pub items : l.frame.function.items ≡ before ++ rest

  pub go_lines : (l : Machine) (before : List Item) (xs ys : List Line) (e : Core) (log : List (Event ℕ ℕ)) → l.frame.left ≡ slotted (xs ++ ys)
      → l.frame.function.items ≡ before ++ slotted (xs ++ ys) → AreStraight xs → GoThrough program w (words_of xs) l.core e log
      → PassesTo l (before ++ map Plain (words_of xs)) (slotted ys) e log
  go_lines l before xs ys e log left items straight g = record {
    passes = laws.straight program w scratch (words_of xs) before (slotted ys) e log l (left ∙ laws.lines xs ys straight) (items ∙ ap (λ (is : List Item). before ++ is) (sym left)) g;
    items = items ∙ (ap (λ (is : List Item). before ++ is) (laws.lines xs ys straight) ∙ sym (append_assoc before (map Plain (words_of xs)) (slotted ys)));
  }

  pub and_go : (l : Machine) (before behind middle rest : List Item) (d e : Core) (first reached : List (Event ℕ ℕ)) (one : PassesTo l before middle d first)
      → PassesTo (further middle d one.passes.more first l) behind rest e reached → PassesTo l behind rest e (reached ++ first)
  and_go l before behind middle rest d e first reached one two = record {
    passes = laws.compose program w scratch l middle rest d e first reached one.passes two.passes;
    items = two.items;
  }
