-- Ends of blocks that do not return, in both runs.
use Rattle.std.proofs.Common.{ℕ, cond, zero, suc, ◌≡◌, ◌≢◌, ◌+◌, ◌^◌, ◌<◌, ◌≤◌, ◌⊎◌, inl, inr, arith, refl, ap, sym, subst, ◌∙◌, Bool, true, false, if◌then◌else◌, nat_le, ◌==◌, Option, Some, None, option_map, unwrap_or, find, List, [], ◌∷◌, ◌++◌, length, get_or, slice_get, append_assoc, Contains}
use Rattle.std.proofs.lemmas.Bool.{cases_eq, and_parts, leb-true}
use Rattle.std.proofs.lemmas.Option.{slice_get-get_or}
use Rattle.pw_value.specs.declared.value.Value.{Value}
use Rattle.pw_value.specs.declared.value.Value.TheVariants.{Undefined, Num, Null, At, Piece}
use Rattle.pw_value.specs.declared.value.Pointer.{Pointer}
use Rattle.pw_value.specs.declared.value.Pointer.TheVariants as P
use Rattle.pw_value.specs.Objects.{object_at}
use Rattle.pw_flow.specs.declared.flow.End.{End}
use Rattle.pw_flow.specs.declared.flow.End.TheVariants.{Jump, Branch, Return}
use Rattle.pw_flow.specs.ValidFlow.{IsEnd}
use Rattle.pw_inst.specs.Registers.{help, first, stack_pointer}
use Rattle.pw_inst.specs.declared.line.Line.TheVariants as line
use Rattle.pw_webflow.specs.declared.web.WebOp.{WebOp}
use Rattle.pw_webflow.specs.declared.web.WebBlock.{WebBlock}
use Rattle.pw_alloc.specs.declared.located.Place.{Place}
use Rattle.pw_alloc.specs.declared.located.Place.TheVariants.{Slot, Reg}
use Rattle.pw_alloc.specs.declared.located.Located.{Located}
use Rattle.pw_delay.specs.declared.items.Item.TheVariants.{Mark}
use Rattle.pw_delay.specs.Items.{slotted}
use Rattle.pw_select_lines.specs.Registers.{place_of, operand_register, operand_lines}
use Rattle.pw_select.specs.Selection.{selected}
use Rattle.pw_run_languages.specs.Programs.{Program, function_at, function_number, names_of}
use Rattle.pw_run_languages.specs.Addresses.{Addresses, AreLawful}
use Rattle.pw_run_languages.specs.Acts.{Core, register}
use Rattle.pw_run_languages.specs.Values.{is_somewhere}
use Rattle.pw_run_languages.specs.Standing.{ValueStands}
use Rattle.pw_run_languages.specs.LineRun as run
use Rattle.pw_run_languages.specs.LineRun.{LineProgram}
use Rattle.pw_run_languages.specs.PlacedRun as placed
use Rattle.pw_run_languages.specs.PlacedRun.{value_in}
use Rattle.pw_run_languages.specs.Direction.{with_functions}
use Rattle.pw_run_languages.specs.Serving.{Serves, IsTempRegister}
use Rattle.pw_run_languages.specs.SelectionLaws.{line_program}
use Rattle.pw_law_select_memory.specs.Stand.{BytesStand}
use Rattle.pw_law_select_memory.specs.Numbers.{HoldsBytes}
use Rattle.pw_law_select_rows.specs.Straight.{words_of, StraightLinesAreWords}
use Rattle.pw_law_select_rows.specs.Frames.{LoadsWord}
use Rattle.pw_law_select_rows.specs.Places.{place_word, IsInReach, OperandsAreLoaded}
use Rattle.pw_law_select_states.specs.Laid.{address}
use Rattle.pw_law_select_states.specs.Frames.{HasFrame, FrameHolds, words_size}
use Rattle.pw_law_select_states.specs.States.{Stands}
use Rattle.pw_law_select_states.specs.Passes.{further}
use Rattle.pw_law_select_states.specs.Pointers.{AreKnown, ValueIsKnown, IsKnown}
use Rattle.pw_law_select_frames.specs.Framing.{words_begin}
use Rattle.pw_law_select_frames.specs.Blocks.{blocks_behind, items_from, jump_count, LeadsTo, BranchesWith}
use Rattle.pw_law_select_frames.specs.Chain.{IsActive, AllWait, BothStand}
use Rattle.pw_law_select_frames.specs.Turning.{StaysInFunction, GoesOnAt}
use Rattle.pw_law_select_frames.proofs.Known.{Known}
use Rattle.pw_law_select_frames.proofs.Frame.{in_reach}
use Rattle.pw_law_select_frames.proofs.Framing.{place_is_below}
use Rattle.pw_law_select_frames.proofs.Blocks.{block_begins, mark_splits, jump_leads, branch_leads}
use Rattle.pw_law_select_frames.proofs.Stepping.{callee_alike}

-- ---- temporaries in their places

-- a temporary's place
temp_place : (places : List Place) (t : ℕ) → t < length places → (a : Place) × (slice_get places t ≡ Some a) × (place_of places t ≡ a)
temp_place places t less =
    let e = slice_get-get_or places t (Reg 0) less in
    (get_or places t (Reg 0), e, ap (λ (o : Option Place). unwrap_or o (Reg 0)) e)

module _ (p : Program) (w : Addresses) (site : ℕ → ℕ) (m : placed.Machine) (c : Core) (stands : Stands p w site m c) (serves : Serves m.frame.function.body m.frame.function) where
  -- the word in its place stands for its value
  temp_stands : (t : ℕ) (a : Place) → slice_get m.frame.function.places t ≡ Some a
      → ValueStands (address p w site) (value_in m.frame m.registers t) (place_word c (place_of m.frame.function.places t))
  temp_stands t (Reg r) e =
      let is = place_is_below w site m.objects m.frame.function (register c stack_pointer) t (Reg r) serves stands.frame e in
      rw e (stands.registers r is)
  temp_stands t (Slot offset) e = rw e (stands.holds.temps t offset e)

  -- and it is known, where all values are
  temp_known : AreKnown p m → (t : ℕ) (a : Place) → slice_get m.frame.function.places t ≡ Some a → ValueIsKnown p (length m.objects) (value_in m.frame m.registers t)
  temp_known known t (Reg r) e = rw e (known.registers r)
  temp_known known t (Slot offset) e = rw e (known.frame.temps t)

-- ---- a state stands where registers of webs and temporaries, the stack pointer and memory are the same

pub stands_over : (p : Program) (w : Addresses) (site : ℕ → ℕ) (m : placed.Machine) (c e : Core) → Stands p w site m c → ((r : ℕ) → IsTempRegister r → register e r ≡ register c r) → register e stack_pointer ≡ register c stack_pointer → e.memory ≡ c.memory → e.skip ≡ false
    → Stands p w site m e
stands_over p w site m c e stands registers pointer memory skip = record {
  words = record {
    registers = λ r is. subst (λ n. n < 2 ^ 32) (sym (registers r is)) (stands.words.registers r is);
    memory = subst HoldsBytes (sym memory) stands.words.memory;
  };
  laid = stands.laid;
  bytes = λ o lives. subst (λ (f : ℕ → ℕ). BytesStand (address p w site) f (site o) (object_at m.objects o).bytes) (sym memory) (stands.bytes o lives);
  registers = λ r is. subst (ValueStands (address p w site) (m.registers r)) (sym (registers r is)) (stands.registers r is);
  frame = subst (λ a. HasFrame w site m.objects m.frame.function a) (sym pointer) stands.frame;
  holds = subst (λ a. FrameHolds (address p w site) site m.frame e.memory a) (sym pointer)
      (subst (λ (f : ℕ → ℕ). FrameHolds (address p w site) site m.frame f (register c stack_pointer)) (sym memory) stands.holds);
  goes = skip;
}

-- ---- an operand leaves the other registers

operand_keeps : (lp : LineProgram) (w : Addresses) (a : Place) (c : Core) (l : LoadsWord lp w (words_of (operand_lines a first)) (operand_register a first) (place_word c a) c)
    → (r : ℕ) → r ≢ help → r ≢ first → register l.core r ≡ register c r
operand_keeps lp w (Slot offset) c l r one two = l.others r two one
operand_keeps lp w (Reg q) c l r one two = by_register (cases_eq r q)
  where
    by_register : (r ≡ q) ⊎ (r ≡ q → ⊥) → register l.core r ≡ register c r
    by_register (inl same) = ap (register l.core) same ∙ (l.value ∙ ap (register c) (sym same))
    by_register (inr ne) = l.others r ne one

-- ---- a pointer that leads somewhere is not 0

pub found_in : (test : List ℕ → Bool) (xs : List (List ℕ)) (x : List ℕ) → find test xs ≡ Some x → Contains xs x
found_in test [] x e = absurd cc
found_in test (y ∷ ys) x e = by_test (λ (k : find test ys ≡ Some x). found_in test ys x k) (test y) refl e
  where
    by_test : (find test ys ≡ Some x → Contains ys x) → (t : Bool) → test y ≡ t → cond t (Some y) (find test ys) ≡ Some x → Contains (y ∷ ys) x
    by_test later true is e = let same : y ≡ x = cc in (0, omega arith, same)
    by_test later false is e = let c = later e in (suc c.0, (let less = c.1 in omega (arith, less)), c.2)

pointer_is_some : (p : Program) (w : Addresses) (site : ℕ → ℕ) (m : placed.Machine) (c : Core) (q : Pointer) → AreLawful p w → Stands p w site m c → IsKnown p (length m.objects) q
    → is_somewhere m.objects q ≡ true → address p w site q ≢ 0
pointer_is_some p w site m c (P.Object o i) lawful stands known near e =
    let both = and_parts (object_at m.objects o).live (nat_le i (length (object_at m.objects o).bytes)) near in
    let within = leb-true i (length (object_at m.objects o).bytes) both.1 in
    let above = stands.laid.above o both.0 in
    let below = stands.laid.below o both.0 in
    let start = lawful.data_above in
    let memory = lawful.memory in
    omega (arith, e, within, above, below, start, memory)
pointer_is_some p w site m c (P.Function f) lawful stands known near e = by_name (function_at p f) refl e
  where
    by_name : (o : Option (List ℕ)) → function_at p f ≡ o → unwrap_or (option_map w.named o) 0 ≡ 0 → ⊥
    by_name None is e = known is
    by_name (Some name) is e =
        let there = found_in (λ name. function_number p name == f) (names_of p) name is in
        let above = lawful.function_above name there in
        omega (arith, e, above)

-- ---- the ends

module _ (known : Known) (lines : StraightLinesAreWords) (operands : OperandsAreLoaded) (p : Program) (w : Addresses) (functions : List Located) (scratch : ℕ → (ℕ → ℕ) → ℕ → ℕ) (site : ℕ → ℕ)
    (m : placed.Machine) (l : run.Machine) (lawful : AreLawful p w) (h : BothStand p w site m l) (knows : AreKnown p m) (none : m.frame.ops ≡ []) where
  abbrev f : Located
  f = m.frame.function

  -- the placed run at a block, with so many events more
  abbrev at_block : ℕ → WebBlock → ℕ → placed.Machine
  at_block b next more = record m { frame = record m.frame { block = b; ops = next.ops; end = next.end }; events = m.events + more }

  jumps_to : (b : ℕ) (next : WebBlock) → slice_get f.body.blocks b ≡ Some next → placed.jumps b m ≡ placed.On (at_block b next (jump_count m.frame.block b))
  jumps_to b next e = by_test (b == m.frame.block + 1) refl
    where
      goes : placed.Machine
      goes = record m { frame = record m.frame { block = b; ops = next.ops; end = next.end } }

      to : placed.jumps b m ≡ placed.On (if b == m.frame.block + 1 then goes else placed.counted goes)
      to = rw e refl

      by_test : (t : Bool) → (b == m.frame.block + 1) ≡ t → placed.jumps b m ≡ placed.On (at_block b next (jump_count m.frame.block b))
      by_test true is =
          to ∙ (ap (λ (t : Bool). placed.On (if t then goes else placed.counted goes)) is
          ∙ (let same : m.events ≡ m.events + 0 = omega arith in ap (λ n. placed.On (record goes { events = n })) same
          ∙ ap (λ (t : Bool). placed.On (at_block b next (if t then 0 else 1))) (sym is)))
      by_test false is =
          to ∙ (ap (λ (t : Bool). placed.On (if t then goes else placed.counted goes)) is ∙ ap (λ (t : Bool). placed.On (at_block b next (if t then 0 else 1))) (sym is))

  function_items : l.frame.function.items ≡ slotted (selected f)
  function_items = ap (λ (x : run.LineFn). x.items) h.active.function

  -- where the lines come to a block with other registers of addresses and operands alone, the state stands whole
  at_block_stands : (b : ℕ) (next : WebBlock) (more least : ℕ) (e : Core) → slice_get f.body.blocks b ≡ Some next
      → ((r : ℕ) → IsTempRegister r → register e r ≡ register l.core r) → register e stack_pointer ≡ register l.core stack_pointer → e.memory ≡ l.core.memory → e.skip ≡ false
      → BothStand p w site (at_block b next least) (further (items_from f b next.ops next.end) e more [] l)
  at_block_stands b next more least e there registers pointer memory skip =
      let s = stands_over p w site m l.core e h.stands registers pointer memory skip in
      let a = h.active in
      let mark = ap (run.from_mark b) function_items ∙ block_begins f b next there in
      let split = mark_splits b l.frame.function.items (items_from f b next.ops next.end) mark in
      let moved : placed.Frame = record m.frame { block = b; ops = next.ops; end = next.end } in
      record {
        stands = record {
          words = s.words;
          laid = s.laid;
          bytes = s.bytes;
          registers = s.registers;
          frame = s.frame;
          holds = record { temps = s.holds.temps; slots = s.holds.slots };
          goes = s.goes;
        };
        active = subst (λ (x : ℕ → ℕ). IsActive (address p w site) x moved (record l.frame { left = items_from f b next.ops next.end })) (sym memory)
            (record { function = a.function; serves = a.serves; directives = a.directives; room = a.room; saved = a.saved; words = a.words });
        top = pointer ∙ h.top;
        old = h.old;
        later = h.later;
        left = refl;
        inside = (
          split.0 ++ (Mark b ∷ []),
          split.1 ∙ sym (append_assoc split.0 (Mark b ∷ []) (items_from f b next.ops next.end)),
        );
        callers = subst (λ (x : ℕ → ℕ). AllWait p w site m.objects x moved l.frame.stack m.callers l.callers) (sym memory)
            (callee_alike p w site m.objects l.core.memory m.frame moved l.frame.stack m.callers l.callers refl refl h.callers);
      }

  -- the lines have led there
  led : (b : ℕ) (next : WebBlock) (least : ℕ) (e : Core) → slice_get f.body.blocks b ≡ Some next → jump_count m.frame.block b ≤ least → LeadsTo (line_program p functions) w scratch l f b next e least
      → ((r : ℕ) → IsTempRegister r → register e r ≡ register l.core r) → register e stack_pointer ≡ register l.core stack_pointer → e.memory ≡ l.core.memory → e.skip ≡ false
      → GoesOnAt p w functions scratch site m (at_block b next (jump_count m.frame.block b)) l
  led b next least e there enough to registers pointer memory skip = record {
    core = e;
    passes = to.passes;
    stands = at_block_stands b next to.passes.more (jump_count m.frame.block b) e there registers pointer memory skip;
    leaves = record {
      top = pointer;
      memory = λ a out. ap (λ (f : ℕ → ℕ). f a) memory;
      registers = λ r none. registers r (record { low = none.low; high = (let high = none.high in omega (arith, high)) });
    };
    events = let more = to.counted in omega (arith, more, enough);
    same = (refl, refl, refl, refl);
  }

  jump_goes : (b : ℕ) (n : placed.Machine) → m.frame.end ≡ Jump b → placed.jumps b m ≡ placed.On n → GoesOnAt p w functions scratch site m n l
  jump_goes b n end goes = by_block (slice_get f.body.blocks b) refl
    where
      same_on : (x y : placed.Machine) → placed.On x ≡ placed.On y → x ≡ y
      same_on x y e = cc

      left : l.frame.left ≡ slotted (line.Jump b ∷ blocks_behind f m.frame.block)
      left = h.left ∙ (ap (λ (os : List WebOp). items_from f m.frame.block os m.frame.end) none ∙ ap (λ (x : End). items_from f m.frame.block [] x) end)

      by_block : (o : Option WebBlock) → slice_get f.body.blocks b ≡ o → GoesOnAt p w functions scratch site m n l
      by_block None e = absurd (let stray : placed.jumps b m ≡ placed.Astray = rw e refl in let both = sym stray ∙ goes in cc)
      by_block (Some next) e =
          let is : at_block b next (jump_count m.frame.block b) ≡ n = same_on (at_block b next (jump_count m.frame.block b)) n (sym (jumps_to b next e) ∙ goes) in
          subst (λ (x : placed.Machine). GoesOnAt p w functions scratch site m x l) is
          (led b next (jump_count m.frame.block b) l.core e (omega arith)
          (jump_leads (line_program p functions) w scratch l f m.frame.block b next function_items left h.stands.goes e)
          (λ r is. refl) refl refl h.stands.goes)

  branch_goes : (a b c : ℕ) (n : placed.Machine) → m.frame.end ≡ Branch a b c → a < f.body.temps → placed.branches (value_in m.frame m.registers a) b c m ≡ placed.On n
      → GoesOnAt p w functions scratch site m n l
  branch_goes a b c n end less goes = by_any
    where
      count : f.body.temps ≡ length f.places
      count = sym h.active.serves.count

      place : (x : Place) × (slice_get f.places a ≡ Some x) × (place_of f.places a ≡ x)
      place = temp_place f.places a (omega (arith, less, count))

      q : Place
      q = place_of f.places a

      reach : IsInReach (line_program p functions) w l.core q
      reach =
          subst (IsInReach (line_program p functions) w l.core) (sym place.2)
          (in_reach known (line_program p functions) w (register l.core stack_pointer) (words_begin f) (words_size f) place.0 l.core
          (record { lawful = lawful; small = (let high = h.stands.frame.high in let memory = lawful.memory in omega (arith, high, memory)); pointer = refl; skip = h.stands.goes })
          (place_is_below w site m.objects f (register l.core stack_pointer) a place.0 h.active.serves h.stands.frame place.1))

      left : l.frame.left ≡ slotted (operand_lines q first ++ line.BranchNonZero (operand_register q first) b ∷ line.Jump c ∷ blocks_behind f m.frame.block)
      left =
          h.left ∙ (ap (λ (os : List WebOp). items_from f m.frame.block os m.frame.end) none ∙ (ap (λ (x : End). items_from f m.frame.block [] x) end
          ∙ ap slotted (append_assoc (operand_lines q first) (line.BranchNonZero (operand_register q first) b ∷ line.Jump c ∷ []) (blocks_behind f m.frame.block))))

      row : BranchesWith (line_program p functions) w scratch l f m.frame.block b c q
      row = branch_leads (line_program p functions) w scratch known lines operands l f m.frame.block b c q h.inside.0 function_items h.inside.1 left h.stands.goes reach

      same_on : (x y : placed.Machine) → placed.On x ≡ placed.On y → x ≡ y
      same_on x y e = cc

      arrives : (d : ℕ) (next : WebBlock) → placed.jumps d m ≡ placed.On n → slice_get f.body.blocks d ≡ Some next → (least : ℕ) → jump_count m.frame.block d ≤ least
          → LeadsTo (line_program p functions) w scratch l f d next row.loads.core least → GoesOnAt p w functions scratch site m n l
      arrives d next goes e least enough to =
          let is : at_block d next (jump_count m.frame.block d) ≡ n = same_on (at_block d next (jump_count m.frame.block d)) n (sym (jumps_to d next e) ∙ goes) in
          let keeps = operand_keeps (line_program p functions) w q l.core row.loads in
          subst (λ (x : placed.Machine). GoesOnAt p w functions scratch site m x l) is
          (led d next least row.loads.core e enough to
          (λ r is. let low = is.low in let high = is.high in keeps r (λ e. omega (arith, e, low)) (λ e. omega (arith, e, high)))
          (keeps stack_pointer (λ e. omega (arith, e)) (λ e. omega (arith, e))) row.loads.memory row.loads.skip)

      few : (d : ℕ) → jump_count m.frame.block d ≤ 1
      few d = by_test (d == m.frame.block + 1)
        where
          by_test : (t : Bool) → (if t then 0 else 1) ≤ 1
          by_test true = omega arith
          by_test false = omega arith

      to_zero : placed.jumps c m ≡ placed.On n → place_word l.core q ≡ 0 → (o : Option WebBlock) → slice_get f.body.blocks c ≡ o → GoesOnAt p w functions scratch site m n l
      to_zero goes word None e = absurd (let stray : placed.jumps c m ≡ placed.Astray = rw e refl in let both = sym stray ∙ goes in cc)
      to_zero goes word (Some next) e = arrives c next goes e (jump_count m.frame.block c) (omega arith) (row.branches.zero word next e)

      to_other : placed.jumps b m ≡ placed.On n → place_word l.core q ≢ 0 → (o : Option WebBlock) → slice_get f.body.blocks b ≡ o → GoesOnAt p w functions scratch site m n l
      to_other goes word None e = absurd (let stray : placed.jumps b m ≡ placed.Astray = rw e refl in let both = sym stray ∙ goes in cc)
      to_other goes word (Some next) e = arrives b next goes e 1 (few b) (row.branches.other word next e)

      by_somewhere : (x : Pointer) (t : Bool) → is_somewhere m.objects x ≡ t → (if t then placed.jumps b m else placed.Astray) ≡ placed.On n → place_word l.core q ≡ address p w site x
          → IsKnown p (length m.objects) x → GoesOnAt p w functions scratch site m n l
      by_somewhere x true near goes word there =
          let some = pointer_is_some p w site m l.core x lawful h.stands there near in
          to_other goes (λ e. some (sym word ∙ e)) (slice_get f.body.blocks b) refl
      by_somewhere x false near goes word there = absurd cc

      by_value : (v : Value) → value_in m.frame m.registers a ≡ v → ValueStands (address p w site) v (place_word l.core q) → ValueIsKnown p (length m.objects) v
          → placed.branches v b c m ≡ placed.On n → GoesOnAt p w functions scratch site m n l
      by_value (Num zero) e stands there goes = to_zero goes stands (slice_get f.body.blocks c) refl
      by_value (Num (suc k)) e stands there goes = to_other goes (λ z. let word : place_word l.core q ≡ suc k = stands in omega (arith, z, word)) (slice_get f.body.blocks b) refl
      by_value (At x) e stands there goes = by_somewhere x (is_somewhere m.objects x) refl goes stands there
      by_value Undefined e stands there goes = absurd cc
      by_value Null e stands there goes = absurd cc
      by_value (Piece x i) e stands there goes = absurd cc

      by_any : GoesOnAt p w functions scratch site m n l
      by_any =
          by_value (value_in m.frame m.registers a) refl (temp_stands p w site m l.core h.stands h.active.serves a place.0 place.1)
          (temp_known p w site m l.core h.stands h.active.serves knows a place.0 place.1) goes

  -- whichever end it is
  pub end_goes : (n : placed.Machine) (x : End) → m.frame.end ≡ x → IsEnd f.body.temps (length f.body.blocks) x → StaysInFunction x
      → placed.ends (with_functions p functions) x m ≡ placed.On n → GoesOnAt p w functions scratch site m n l
  end_goes n (Jump b) is lawful stays goes = jump_goes b n is goes
  end_goes n (Branch a b c) is lawful stays goes = branch_goes a b c n is lawful.0 goes
  end_goes n (Return t) is lawful stays goes = absurd stays

pub block_ends_go_on : (known : Known) (lines : StraightLinesAreWords) (operands : OperandsAreLoaded) (p : Program) (w : Addresses) (functions : List Located) (scratch : ℕ → (ℕ → ℕ) → ℕ → ℕ) (site : ℕ → ℕ)
    (m n : placed.Machine) (l : run.Machine) → AreLawful p w → BothStand p w site m l → AreKnown p m → m.frame.ops ≡ []
    → IsEnd m.frame.function.body.temps (length m.frame.function.body.blocks) m.frame.end → StaysInFunction m.frame.end
    → placed.ends (with_functions p functions) m.frame.end m ≡ placed.On n → GoesOnAt p w functions scratch site m n l
block_ends_go_on known lines operands p w functions scratch site m n l lawful h knows none end stays goes =
    end_goes known lines operands p w functions scratch site m l lawful h knows none n m.frame.end refl end stays goes
