-- Operations that make a value without a routine.
use Rattle.std.proofs.Common.{ℕ, zero, suc, ℤ, pos, ◌≡◌, ◌+◌, ◌%◌, ◌^◌, ◌<◌, refl, ap, sym, subst, ◌∙◌, arith, Option, Some, None, option_map, unwrap_or, List, [], ◌∷◌, ◌++◌, append-nil, map, length, slice_get, slice_index_or, Contains}
use Rattle.std.specs.List.{AllByRecursion}
use Rattle.std.specs.Int.{w32, cast_unsigned}
use Rattle.pw_value.specs.declared.value.Value.{Value}
use Rattle.pw_value.specs.declared.value.Value.TheVariants.{Undefined, Num, At}
use Rattle.pw_value.specs.declared.value.Pointer.{Pointer}
use Rattle.pw_value.specs.declared.value.Pointer.TheVariants as P
use Rattle.pw_value.specs.Rounding.{slot_room}
use Rattle.pw_db.specs.declared.database.Web.{Web}
use Rattle.pw_db.specs.declared.database.Role.{Role}
use Rattle.pw_db.specs.Database.{IsWeb}
use Rattle.pw_flow.specs.declared.flow.UnKind.{UnKind}
use Rattle.pw_flow.specs.declared.flow.BinKind.{BinKind}
use Rattle.pw_flow.specs.declared.flow.ExtKind.{ExtKind}
use Rattle.pw_flow.specs.declared.flow.Op.TheVariants as op
use Rattle.pw_alloc.specs.declared.located.Place.{Place}
use Rattle.pw_alloc.specs.declared.located.Place.TheVariants.{Reg}
use Rattle.pw_alloc.specs.declared.located.Located.{Located}
use Rattle.pw_alloc.specs.Frames.{head_size, slots_begin, below, reaches_from}
use Rattle.pw_alloc.specs.Allocation.{in_frame}
use Rattle.pw_inst.specs.Computing.{offset_by}
use Rattle.pw_inst.specs.Registers.{first, second}
use Rattle.pw_inst.specs.declared.line.Line.{Line}
use Rattle.pw_inst.specs.declared.relocation.Symbol.TheVariants.{Named}
use Rattle.pw_delay.specs.declared.items.Item.{Item}
use Rattle.pw_delay.specs.Items.{slotted}
use Rattle.pw_webflow.specs.declared.web.WebOp.{WebOp}
use Rattle.pw_webflow.specs.declared.web.WebOp.TheVariants.{Flow, Read, Write}
use Rattle.pw_run_languages.specs.Values.{unary, extension, on_numbers, binary}
use Rattle.pw_run_languages.specs.Programs.{Program, names_of, globals_of, global_number, pointer_to, function_number}
use Rattle.pw_run_languages.specs.LawfulPrograms.{IsGlobalName}
use Rattle.pw_run_languages.specs.Commands.{give, command}
use Rattle.pw_run_languages.specs.Addresses.{Addresses}
use Rattle.pw_run_languages.specs.Acts.{register}
use Rattle.pw_run_languages.specs.Standing.{ValueStands, GlobalsAreNamed}
use Rattle.pw_run_languages.specs.LineRun.{LineProgram, Machine}
use Rattle.pw_run_languages.specs.PlacedRun as placed
use Rattle.pw_run_languages.specs.Serving.{IsTempRegister}
use Rattle.pw_run_languages.specs.Direction.{with_functions}
use Rattle.pw_run_languages.specs.SelectionLaws.{line_program}
use Rattle.pw_select_lines.specs.Registers.{word, copied, constant, address_of, frame_address, place_of, operand_register, operand_lines, result_register}
use Rattle.pw_select_lines.specs.Arithmetic.{unary_word, extension_word, binary_lines, routine_of, with_two, binary_by}
use Rattle.pw_select_lines.specs.Operations.{web_op_lines}
use Rattle.pw_select.specs.Selection.{slot_offsets}
use Rattle.pw_law_select_rows.specs.Straight.{words_of}
use Rattle.pw_law_select_rows.specs.Frames.{frame_word}
use Rattle.pw_law_select_rows.specs.Places.{place_word}
use Rattle.pw_law_select_rows.specs.Results.{GoThrough, Gets, PlacesWord}
use Rattle.pw_law_select_states.specs.Pointers.{ValueIsKnown}
use Rattle.pw_law_select_states.specs.Laid.{address}
use Rattle.pw_law_select_states.specs.Passes.{Follows}
use Rattle.pw_law_select_ops.specs.Operations.{layout_of, StandAt, Computes, OperationFollows}
use Rattle.pw_law_select_ops.proofs.Naming.{nowhere, has_number, named_site, function_found}
use Rattle.pw_law_select_ops.proofs.Values.{unary_small, extension_small, binary_small, unary_gives, extension_gives, binary_gives}
use Rattle.pw_law_select_ops.proofs.Straightness.{AreStraight, joined_straight, none_straight, one_straight, two_straight, constant_straight, unary_straight, extension_straight, binary_straight, frame_address_straight, operand_straight}
use Rattle.pw_law_select_ops.proofs.Following.{Laws, register_of_place, same_machine, given, target_of, source_of, straight_follow, result_follows, place_at}

-- ---- slots

count_reaches : (at : ℕ) (sizes : List ℕ) → length (map below (reaches_from at sizes)) ≡ length sizes
count_reaches at [] = refl
count_reaches at (size ∷ rest) = let h = count_reaches (at + slot_room size) rest in omega (arith, h)

-- the offset of a slot
offset_there : (offsets : List ℤ) (s : ℕ) → s < length offsets → (offset : ℤ) × (slice_get offsets s ≡ Some offset)
offset_there [] s less = absurd (omega (arith, less))
offset_there (x ∷ xs) zero less = (x, refl)
offset_there (x ∷ xs) (suc s) less = offset_there xs s (omega (arith, less))

-- ---- registers of webs

web_register_by : (w : Web × Role) (webs : List (Web × Role)) (r k : ℕ) → IsWeb w.0 → (Contains (map (λ w. w.0.reg) webs) r → IsTempRegister r)
    → k < length (map (λ w. w.0.reg) (w ∷ webs)) → slice_index_or (map (λ w. w.0.reg) (w ∷ webs)) k r ≡ r → IsTempRegister r
web_register_by w webs r zero here later lt e =
    let low = here.low in
    let high = here.high in record { low = omega (arith, low, e); high = omega (arith, high, e) }
web_register_by w webs r (suc k) here later lt e = later (k, omega (arith, lt), e)

web_register : (webs : List (Web × Role)) → AllByRecursion IsWeb (map (λ w. w.0) webs) → (r : ℕ) → Contains (map (λ w. w.0.reg) webs) r → IsTempRegister r
web_register [] all r c = absurd (nowhere r c)
web_register (w ∷ webs) all r c = web_register_by w webs r c.0 all.0 (web_register webs all.1 r) c.1 c.2

-- ---- values of temporaries

abbrev value_at : List Value → (ℕ → Value) → ℕ → Option ℕ → Value
value_at temps registers t (Some r) = registers r
value_at temps registers t None = slice_index_or temps t Undefined

pub value_known : (p : Program) (count : ℕ) (f : placed.Frame) (registers : ℕ → Value) (t : ℕ) → ((t : ℕ) → ValueIsKnown p count (slice_index_or f.temps t Undefined))
    → ((r : ℕ) → ValueIsKnown p count (registers r)) → ValueIsKnown p count (placed.value_in f registers t)
value_known p count f registers t temps known = by_register (register_of_place (slice_get f.function.places t))
  where
    by_register : (o : Option ℕ) → ValueIsKnown p count (value_at f.temps registers t o)
    by_register (Some r) = known r
    by_register None = temps t

-- ---- addresses

abbrev pointer_by : Program → List ℕ → ℕ → Option ℕ → Pointer
pointer_by p g k (Some n) = P.Object n k
pointer_by p g k None = P.Function (function_number p g)

pub global_word : (p : Program) (w : Addresses) (site : ℕ → ℕ) (g : List ℕ) (k : ℕ) → GlobalsAreNamed w.named site 0 (globals_of p) → IsGlobalName p g
    → address p w site (pointer_to p g k) ≡ (w.named g + k) % 2 ^ 32
global_word p w site g k named there = by_number (global_number p g) refl
  where
    by_number : (o : Option ℕ) → global_number p g ≡ o → address p w site (pointer_to p g k) ≡ (w.named g + k) % 2 ^ 32
    by_number None e = absurd (has_number p g there e)
    by_number (Some i) e =
        ap (λ (o : Option ℕ). address p w site (pointer_by p g k o)) e ∙ ap (λ s. (s + k) % 2 ^ 32) (named_site p w.named site g i named e)

pub function_word : (p : Program) (w : Addresses) (site : ℕ → ℕ) (f : List ℕ) → Contains (names_of p) f → address p w site (P.Function (function_number p f)) ≡ w.named f
function_word p w site f there = ap (λ (o : Option (List ℕ)). unwrap_or (option_map w.named o) 0) (function_found p f there)

word_again : (y s : ℕ) → s ≡ y % 2 ^ 32 → y % 2 ^ 32 ≡ (s + 0) % 2 ^ 32
word_again y s e = omega (arith, e)

word_as : (a b : ℕ) → a ≡ b → a < 2 ^ 32 → (b + 0) % 2 ^ 32 ≡ a
word_as a b e small = omega (arith, e, small)

-- ---- one by one

module _ (laws : Laws) (p : Program) (functions : List Located) (w : Addresses) (scratch : ℕ → (ℕ → ℕ) → ℕ → ℕ) (site : ℕ → ℕ) (m n : placed.Machine) (l : Machine) (before : List Item) (more : List Line) where
  abbrev program : LineProgram
  program = line_program p functions

  abbrev Done : Type 0
  Done = Follows p program w scratch site m n l (slotted more)

  abbrev Does : WebOp → Type 0
  Does o = placed.does (with_functions p functions) o m ≡ placed.On n

  abbrev AtOp : WebOp → Type 0
  AtOp o = StandAt p functions w site o m l before more

  abbrev place : ℕ → Place
  place t = place_of m.frame.function.places t

  given_command : (t : ℕ) (v : Option Value) → placed.obeys (with_functions p functions) (give t v) m ≡ placed.On n → (z : Value) × (v ≡ Some z) × (placed.with_temp t z m ≡ n)
  given_command t (Some z) e = (z, refl, same_machine (placed.with_temp t z m) n e)
  given_command t None e = absurd cc

  const_follows : (t k : ℕ) → AtOp (Flow (op.Const t k)) → Does (Flow (op.Const t k)) → Done
  unfolding command
  const_follows t k at is =
      let less = at.op.0 in
      let to = place_at laws p functions w scratch site (Flow (op.Const t k)) m l before more t at less in
      let target = target_of program w l.core (place t) to.place in
      let puts = laws.none program w (place t) k [] l.core (constant k) to.place (laws.constant program w k (result_register (place t)) l.core at.op.1 target at.stands.goes) in
      result_follows laws p functions w scratch site (Flow (op.Const t k)) m n l before more t k (Num k) at less (none_straight (place t) (constant k) (constant_straight k)) puts refl at.op.1
      (same_machine (placed.with_temp t (Num k) m) n is)

  copy_follows : (t a : ℕ) → AtOp (Flow (op.Copy t a)) → Does (Flow (op.Copy t a)) → Done
  unfolding command
  copy_follows t a at is =
      let less = at.op.0 in
      let to = place_at laws p functions w scratch site (Flow (op.Copy t a)) m l before more t at less in
      let from = place_at laws p functions w scratch site (Flow (op.Copy t a)) m l before more a at at.op.1 in
      let x = place_word l.core (place a) in
      let d = result_register (place t) in
      let r = operand_register (place a) first in
      let target = target_of program w l.core (place t) to.place in
      let puts =
      laws.one program w (place a) (place t) x [] l.core copied from.place to.place at.stands.goes
      (λ e keeps there. subst (λ (v : ℕ). Gets program w (words_of (copied r d)) d v [] e) there (laws.copy program w r d e target keeps.skip)) in
      result_follows laws p functions w scratch site (Flow (op.Copy t a)) m n l before more t x (placed.value_in m.frame m.registers a) at less
      (one_straight (place a) (place t) copied (λ r d. (tt, tt))) puts from.stands from.word (same_machine (placed.with_temp t (placed.value_in m.frame m.registers a) m) n is)

  unary_follows : (k : UnKind) (t a : ℕ) → AtOp (Flow (op.Un k t a)) → Does (Flow (op.Un k t a)) → Done
  unfolding command
  unary_follows k t a at is =
      let less = at.op.0 in
      let to = place_at laws p functions w scratch site (Flow (op.Un k t a)) m l before more t at less in
      let from = place_at laws p functions w scratch site (Flow (op.Un k t a)) m l before more a at at.op.1 in
      let x = place_word l.core (place a) in
      let target = target_of program w l.core (place t) to.place in
      let v = placed.value_in m.frame m.registers a in
      let result = given_command t (unary k v) is in
      let g = unary_gives p w site m.objects at.served.lawful at.stands.laid k v result.0 x from.stands result.1 in
      let puts =
      laws.one program w (place a) (place t) g.number [] l.core (λ r d. word (unary_word k r d)) from.place to.place at.stands.goes
      (λ e keeps there. laws.unary program w k x g.number (operand_register (place a) first) (result_register (place t)) e g.is from.word target keeps.skip there) in
      result_follows laws p functions w scratch site (Flow (op.Un k t a)) m n l before more t g.number result.0 at less
      (one_straight (place a) (place t) (λ r d. word (unary_word k r d)) (unary_straight k)) puts g.stands (unary_small k x g.number g.is) result.2

  extension_follows : (k : ExtKind) (t a : ℕ) → AtOp (Flow (op.Ext k t a)) → Does (Flow (op.Ext k t a)) → Done
  unfolding command
  extension_follows k t a at is =
      let less = at.op.0 in
      let to = place_at laws p functions w scratch site (Flow (op.Ext k t a)) m l before more t at less in
      let from = place_at laws p functions w scratch site (Flow (op.Ext k t a)) m l before more a at at.op.1 in
      let x = place_word l.core (place a) in
      let target = target_of program w l.core (place t) to.place in
      let v = placed.value_in m.frame m.registers a in
      let result = given_command t (extension k v) is in
      let g = extension_gives p w site m.objects at.served.lawful at.stands.laid k v result.0 x from.stands result.1 in
      let puts =
      laws.one program w (place a) (place t) g.number [] l.core (λ r d. word (extension_word k r d)) from.place to.place at.stands.goes
      (λ e keeps there. laws.extension program w k x g.number (operand_register (place a) first) (result_register (place t)) e g.is target keeps.skip there) in
      result_follows laws p functions w scratch site (Flow (op.Ext k t a)) m n l before more t g.number result.0 at less
      (one_straight (place a) (place t) (λ r d. word (extension_word k r d)) (extension_straight k)) puts g.stands (extension_small k x g.number g.is) result.2

  -- what an operation makes of two values, and the number that it makes of their words
  pub record Combined (k : BinKind) (t a b : ℕ) : Type 0 where
    pub value : Value
    pub number : ℕ
    pub is : on_numbers k (place_word l.core (place a)) (place_word l.core (place b)) ≡ Some (Num number)
    pub stands : ValueStands (address p w site) value number
    pub small : number < 2 ^ 32
    pub gives : placed.with_temp t value m ≡ n

  pub combined : (k : BinKind) (t a b : ℕ) → AtOp (Flow (op.Bin k t a b)) → Does (Flow (op.Bin k t a b)) → Combined k t a b
  unfolding command
  combined k t a b at is =
      let one = place_at laws p functions w scratch site (Flow (op.Bin k t a b)) m l before more a at at.op.1 in
      let two = place_at laws p functions w scratch site (Flow (op.Bin k t a b)) m l before more b at at.op.2 in
      let v = placed.value_in m.frame m.registers a in
      let u = placed.value_in m.frame m.registers b in
      let x = place_word l.core (place a) in
      let y = place_word l.core (place b) in
      let result = given t (binary m.objects k v u) m n is in
      let known = at.known in
      let v_known = value_known p (length m.objects) m.frame m.registers a known.frame.temps known.registers in
      let u_known = value_known p (length m.objects) m.frame m.registers b known.frame.temps known.registers in
      let g = binary_gives p w site m.objects at.served.lawful at.stands.laid k v u result.0 x y one.stands two.stands two.word v_known u_known result.1 in
      record {
        value = result.0;
        number = g.number;
        is = g.is;
        stands = g.stands;
        small = binary_small laws.words k x y g.number g.is one.word two.word;
        gives = result.2;
      }

  binary_follows : (k : BinKind) (t a b : ℕ) → routine_of k ≡ None → AtOp (Flow (op.Bin k t a b)) → Does (Flow (op.Bin k t a b)) → Done
  binary_follows k t a b none at is =
      let less = at.op.0 in
      let to = place_at laws p functions w scratch site (Flow (op.Bin k t a b)) m l before more t at less in
      let one = place_at laws p functions w scratch site (Flow (op.Bin k t a b)) m l before more a at at.op.1 in
      let two = place_at laws p functions w scratch site (Flow (op.Bin k t a b)) m l before more b at at.op.2 in
      let g = combined k t a b at is in
      let target = target_of program w l.core (place t) to.place in
      let sa = source_of program w l.core (place a) first (omega arith) (omega arith) one.place in
      let sb = source_of program w l.core (place b) second (omega arith) (omega arith) two.place in
      let same : binary_by (routine_of k) k (place a) (place b) (place t) ≡ with_two (place a) (place b) (place t) (binary_lines k) =
      ap (λ (o : Option ℕ). binary_by o k (place a) (place b) (place t)) none in
      let puts =
      laws.two program w (place a) (place b) (place t) g.number [] l.core (binary_lines k) one.place two.place to.place at.stands.goes
      (λ e keeps x y. laws.binary program w k (place_word l.core (place a)) (place_word l.core (place b)) g.number (operand_register (place a) first) (operand_register (place b) second)
      (result_register (place t)) e none g.is one.word two.word sa sb target keeps.skip x y) in
      result_follows laws p functions w scratch site (Flow (op.Bin k t a b)) m n l before more t g.number g.value at less
      (subst AreStraight (sym same) (two_straight (place a) (place b) (place t) (binary_lines k) (binary_straight k)))
      (subst (λ (ls : List Line). PlacesWord program w (words_of ls) (place t) g.number [] l.core) (sym same) puts) g.stands g.small g.gives

  global_address_follows : (t : ℕ) (g : List ℕ) (k : ℕ) → AtOp (Flow (op.AddrGlobal t g k)) → Does (Flow (op.AddrGlobal t g k)) → Done
  unfolding command
  global_address_follows t g k at is =
      let less = at.op.0 in
      let to = place_at laws p functions w scratch site (Flow (op.AddrGlobal t g k)) m l before more t at less in
      let target = target_of program w l.core (place t) to.place in
      let x = (w.named g + k) % 2 ^ 32 in
      let puts =
      laws.none program w (place t) x [] l.core (address_of (Named g) k) to.place
      (laws.address program w (Named g) (w.named g) k (result_register (place t)) l.core refl target at.stands.goes) in
      result_follows laws p functions w scratch site (Flow (op.AddrGlobal t g k)) m n l before more t x (At (pointer_to p g k)) at less
      (none_straight (place t) (address_of (Named g) k) (λ d. (tt, (tt, tt)))) puts (sym (global_word p w site g k at.stands.laid.named at.names)) (omega arith)
      (same_machine (placed.with_temp t (At (pointer_to p g k)) m) n is)

  slot_address_follows : (t s : ℕ) → AtOp (Flow (op.AddrSlot t s)) → Does (Flow (op.AddrSlot t s)) → Done
  unfolding command
  slot_address_follows t s at is =
      let less = at.op.0 in
      let to = place_at laws p functions w scratch site (Flow (op.AddrSlot t s)) m l before more t at less in
      let target = target_of program w l.core (place t) to.place in
      let offsets = slot_offsets m.frame.function in
      let offset = unwrap_or (slice_get offsets s) (pos 0) in
      let x = frame_word l.core offset in
      let puts = laws.none program w (place t) x [] l.core (frame_address offset) to.place (laws.frame program w offset (result_register (place t)) l.core target at.stands.goes) in
      result_follows laws p functions w scratch site (Flow (op.AddrSlot t s)) m n l before more t x (At (P.Object (m.frame.base + s) 0)) at less
      (none_straight (place t) (frame_address offset) (frame_address_straight offset)) puts stands (omega arith)
      (same_machine (placed.with_temp t (At (P.Object (m.frame.base + s) 0)) m) n is)
    where
      there : (offset : ℤ) × (slice_get (slot_offsets m.frame.function) s ≡ Some offset)
      there =
          offset_there (slot_offsets m.frame.function) s
          (let f = m.frame.function in
          let count = count_reaches (slots_begin (head_size f.body) (length f.saved) (in_frame f.places)) f.body.slots in
          let less = at.op.1 in omega (arith, count, less))

      stands : frame_word l.core (unwrap_or (slice_get (slot_offsets m.frame.function) s) (pos 0)) ≡ (site (m.frame.base + s) + 0) % 2 ^ 32
      stands =
          let here : frame_word l.core (unwrap_or (slice_get (slot_offsets m.frame.function) s) (pos 0)) ≡ offset_by (register l.core 30) there.0 =
          ap (λ (o : Option ℤ). frame_word l.core (unwrap_or o (pos 0))) there.1 in
          here ∙ word_again (register l.core 30 + cast_unsigned w32 there.0) (site (m.frame.base + s)) (at.stands.holds.slots s there.0 there.1)

  function_address_follows : (t : ℕ) (f : List ℕ) → AtOp (Flow (op.AddrFn t f)) → Does (Flow (op.AddrFn t f)) → Done
  unfolding command
  function_address_follows t f at is =
      let less = at.op in
      let to = place_at laws p functions w scratch site (Flow (op.AddrFn t f)) m l before more t at less in
      let target = target_of program w l.core (place t) to.place in
      let x = (w.named f + 0) % 2 ^ 32 in
      let q = P.Function (function_number p f) in
      let puts =
      laws.none program w (place t) x [] l.core (address_of (Named f) 0) to.place
      (laws.address program w (Named f) (w.named f) 0 (result_register (place t)) l.core refl target at.stands.goes) in
      result_follows laws p functions w scratch site (Flow (op.AddrFn t f)) m n l before more t x (At q) at less
      (none_straight (place t) (address_of (Named f) 0) (λ d. (tt, (tt, tt)))) puts
      (word_as (address p w site q) (w.named f) (function_word p w site f at.names) (laws.pointers program w site at.served.lawful q)) (omega arith)
      (same_machine (placed.with_temp t (At q) m) n is)

  read_follows : (t r : ℕ) → AtOp (Read t r) → Does (Read t r) → Done
  read_follows t r at is =
      let less = at.op.0 in
      let to = place_at laws p functions w scratch site (Read t r) m l before more t at less in
      let target = target_of program w l.core (place t) to.place in
      let temp = web_register m.frame.function.body.directives.webs at.body.directives.each r at.op.1 in
      let puts = laws.none program w (place t) (register l.core r) [] l.core (copied r) to.place (laws.copy program w r (result_register (place t)) l.core target at.stands.goes) in
      result_follows laws p functions w scratch site (Read t r) m n l before more t (register l.core r) (m.registers r) at less (none_straight (place t) (copied r) (λ d. (tt, tt))) puts
      (at.stands.registers r temp) (at.stands.words.registers r temp) (same_machine (placed.with_temp t (m.registers r) m) n is)

  write_follows : (r a : ℕ) → AtOp (Write r a) → Does (Write r a) → Done
  write_follows r a at is =
      let from = place_at laws p functions w scratch site (Write r a) m l before more a at at.op.1 in
      let temp = web_register m.frame.function.body.directives.webs at.body.directives.each r at.op.0 in
      let target = target_of program w l.core (Reg r) temp in
      let x = place_word l.core (place a) in
      let q = operand_register (place a) first in
      let v = placed.value_in m.frame m.registers a in
      let reached = record m { registers = placed.with_register r v m.registers } in
      let puts =
      laws.one program w (place a) (Reg r) x [] l.core copied from.place temp at.stands.goes
      (λ e keeps there. subst (λ (v : ℕ). Gets program w (words_of (copied q r)) r v [] e) there (laws.copy program w q r e target keeps.skip)) in
      subst (λ (n : placed.Machine). Follows p program w scratch site m n l (slotted more)) (same_machine reached n is)
      (straight_follow laws p functions w scratch site m reached l before (web_op_lines (layout_of m.frame.function) (Write r a)) more puts.core []
      (joined_straight (operand_lines (place a) first) (copied q r) (operand_straight (place a) first) (tt, tt)) at.left at.items
      (subst (λ (ls : List Line). GoThrough program w (words_of ls) l.core puts.core []) (append-nil (operand_lines (place a) first ++ copied q r)) puts.through)
      (laws.webs program w site m l.core puts.core r x v at.served at.stands temp at.op.0 from.stands from.word puts.placed)
      (record { frame = refl; callers = refl; rest = refl; read = refl; out = refl; events = refl }) (λ alike. alike))

pub computations_follow : Laws → (o : WebOp) → Computes o → OperationFollows o
computations_follow laws (Flow (op.Const t k)) h p functions w scratch site m n l before more at is = const_follows laws p functions w scratch site m n l before more t k at is
computations_follow laws (Flow (op.Copy t a)) h p functions w scratch site m n l before more at is = copy_follows laws p functions w scratch site m n l before more t a at is
computations_follow laws (Flow (op.Un k t a)) h p functions w scratch site m n l before more at is = unary_follows laws p functions w scratch site m n l before more k t a at is
computations_follow laws (Flow (op.Bin k t a b)) h p functions w scratch site m n l before more at is = binary_follows laws p functions w scratch site m n l before more k t a b h at is
computations_follow laws (Flow (op.Ext k t a)) h p functions w scratch site m n l before more at is = extension_follows laws p functions w scratch site m n l before more k t a at is
computations_follow laws (Flow (op.AddrGlobal t g k)) h p functions w scratch site m n l before more at is =
    global_address_follows laws p functions w scratch site m n l before more t g k at is
computations_follow laws (Flow (op.AddrSlot t s)) h p functions w scratch site m n l before more at is = slot_address_follows laws p functions w scratch site m n l before more t s at is
computations_follow laws (Flow (op.AddrFn t f)) h p functions w scratch site m n l before more at is = function_address_follows laws p functions w scratch site m n l before more t f at is
computations_follow laws (Read t r) h p functions w scratch site m n l before more at is = read_follows laws p functions w scratch site m n l before more t r at is
computations_follow laws (Write r a) h p functions w scratch site m n l before more at is = write_follows laws p functions w scratch site m n l before more r a at is
computations_follow laws _ h p functions w scratch site m n l before more at is = absurd h
