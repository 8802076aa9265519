-- Operations that a routine does.
use Rattle.std.proofs.Common.{ℕ, zero, suc, ℤ, ◌≡◌, ◌≢◌, ◌/◌, ◌%◌, ◌^◌, ◌<◌, ◌⊎◌, inl, inr, refl, ap, ap₂, sym, subst, ◌∙◌, arith, add-zero, Bool, true, false, if◌then◌else◌, Option, Some, None, List, [], ◌∷◌, ◌++◌, append_assoc, map, int_div, int_rem}
use Rattle.std.specs.Prelude.{◌==◌, Result, Ok, Err}
use Rattle.std.proofs.lemmas.Bool.{ne_eqb}
use Rattle.pw_value.specs.declared.value.Value.{Value}
use Rattle.pw_value.specs.declared.value.Value.TheVariants.{Num}
use Rattle.pw_value.specs.declared.value.Byte.{Byte}
use Rattle.pw_value.specs.Words.{signed, word, fits, exact, divided, unsigned_product, unsigned_quotient, unsigned_remainder}
use Rattle.pw_value.specs.declared.words.WordFault.{WordFault}
use Rattle.pw_value.specs.declared.words.WordFault.TheVariants.{Overflow, ZeroDivisor}
use Rattle.pw_flow.specs.declared.flow.BinKind.{BinKind}
use Rattle.pw_flow.specs.declared.flow.BinKind.TheVariants as bin
use Rattle.pw_flow.specs.declared.flow.Op.TheVariants as op
use Rattle.pw_inst.specs.Registers.{help}
use Rattle.pw_inst.specs.Computing.{offset_by}
use Rattle.pw_inst.specs.declared.line.Line.{Line}
use Rattle.pw_inst.specs.declared.line.Line.TheVariants.{CallTo}
use Rattle.pw_inst.specs.declared.relocation.Symbol.TheVariants.{Routine}
use Rattle.pw_alloc.specs.declared.located.Place.{Place}
use Rattle.pw_alloc.specs.declared.located.Place.TheVariants.{Slot, Reg}
use Rattle.pw_alloc.specs.declared.located.Located.{Located}
use Rattle.pw_delay.specs.declared.items.Word.{Word}
use Rattle.pw_delay.specs.declared.items.Turn.TheVariants as turn
use Rattle.pw_delay.specs.declared.items.Item.{Item}
use Rattle.pw_delay.specs.declared.items.Item.TheVariants.{Plain, Turns}
use Rattle.pw_delay.specs.Items.{slotted}
use Rattle.pw_webflow.specs.declared.web.WebOp.{WebOp}
use Rattle.pw_webflow.specs.declared.web.WebOp.TheVariants.{Flow}
use Rattle.pw_run.specs.Runs.{AreAlike}
use Rattle.pw_run_languages.specs.Traces.{Event}
use Rattle.pw_run_languages.specs.Values.{number_of, on_numbers}
use Rattle.pw_run_languages.specs.Programs.{Program}
use Rattle.pw_run_languages.specs.Addresses.{Addresses}
use Rattle.pw_run_languages.specs.Acts.{Core, register, put, with_register, number_at, with_number}
use Rattle.pw_run_languages.specs.Standing.{EventInWords}
use Rattle.pw_run_languages.specs.LineRun.{LineProgram, Machine, On, Astray, left_behind, return_address, result_of, of_signed, with_scratch, with_result, scratch_registers, step, steps}
use Rattle.pw_run_languages.specs.PlacedRun as placed
use Rattle.pw_run_languages.specs.Direction.{with_functions}
use Rattle.pw_run_languages.specs.SelectionLaws.{line_program}
use Rattle.pw_select_lines.specs.Registers.{copied, loaded, place_of, result_register}
use Rattle.pw_select_lines.specs.Arithmetic.{routine_of, binary_by, with_none, moved_unless_there}
use Rattle.pw_law_select_rows.specs.Straight.{words_of}
use Rattle.pw_law_select_rows.specs.Frames.{IsFrameWord}
use Rattle.pw_law_select_rows.specs.Places.{place_word, IsInReach, TemporariesAreLoaded}
use Rattle.pw_law_select_rows.specs.Results.{GoThrough, IsSteady, Keeps, Gets, IsPlace, IsPlaced, registers_with, memory_with}
use Rattle.pw_law_select_states.specs.Passes.{IsAmid, further, Passes, Follows}
use Rattle.pw_law_select_ops.specs.Operations.{StandAt, TakesRoutine, OperationFollows}
use Rattle.pw_law_select_ops.proofs.Values.{same_number}
use Rattle.pw_law_select_ops.proofs.Straightness.{loaded_straight, moved_straight, none_straight}
use Rattle.pw_law_select_ops.proofs.Following.{Laws, PassesTo, go_lines, and_go, values_put, trace_put, target_of, place_at}
use Rattle.pw_law_select_ops.proofs.Computing.{combined}

-- ---- what routines make

divided_some : (b : ℕ) (answer : Result ℕ WordFault) → divided (suc b) answer ≡ answer
divided_some b answer = ap (λ (t : Bool). if t then Err ZeroDivisor else answer) (ne_eqb (suc b) 0 (λ e. omega (arith, e)))

quotient_made : (f : ℤ → ℤ → ℤ) (answer : ℕ → Result ℕ WordFault) (a b r : ℕ) → ((n : ℕ) → answer b ≡ Ok n → word (f (signed a) (signed b)) ≡ n)
    → number_of (divided b (answer b)) ≡ Some (Num r) → of_signed f a b ≡ Some r
quotient_made f answer a zero r h e = absurd cc
quotient_made f answer a (suc b) r h e = by_answer (answer (suc b)) h (ap number_of (sym (divided_some b (answer (suc b)))) ∙ e)
  where
    by_answer : (t : Result ℕ WordFault) → ((n : ℕ) → t ≡ Ok n → word (f (signed a) (signed (suc b))) ≡ n) → number_of t ≡ Some (Num r) → of_signed f a (suc b) ≡ Some r
    by_answer (Ok n) h e = ap Some (h n refl ∙ same_number n r e)
    by_answer (Err fault) h e = absurd cc

exact_is : (z : ℤ) (n : ℕ) → exact z ≡ Ok n → word z ≡ n
exact_is z n e = by_test (fits z) e
  where
    by_test : (t : Bool) → (if t then Ok (word z) else Err Overflow) ≡ Ok n → word z ≡ n
    by_test true e = cc
    by_test false e = absurd cc

guarded_is : (t : Bool) (m n : ℕ) → (if t then Ok m else Err Overflow) ≡ Ok n → m ≡ n
guarded_is true m n e = cc
guarded_is false m n e = absurd cc

pub routine_makes : (k : BinKind) (n a b r : ℕ) → routine_of k ≡ Some n → on_numbers k a b ≡ Some (Num r) → result_of n a b ≡ Some r
routine_makes bin.DivS n a b r is e =
    let same : 0 ≡ n = cc in
    ap (λ k. result_of k a b) (sym same) ∙ quotient_made int_div (λ b. exact (int_div (signed a) (signed b))) a b r (λ n e. exact_is (int_div (signed a) (signed b)) n e) e
routine_makes bin.DivU n a b r is e = let same : 1 ≡ n = cc in ap (λ k. result_of k a b) (sym same) ∙ by_divisor b e
  where
    by_divisor : (b : ℕ) → number_of (unsigned_quotient a b) ≡ Some (Num r) → result_of 1 a b ≡ Some r
    by_divisor zero e = absurd cc
    by_divisor (suc b) e = ap Some (same_number (a / suc b) r (ap number_of (sym (divided_some b (Ok (a / suc b)))) ∙ e))
routine_makes bin.Mul n a b r is e =
    let same : 2 ≡ n = cc in ap (λ k. result_of k a b) (sym same) ∙ ap Some (same_number (unsigned_product a b) r e)
routine_makes bin.RemS n a b r is e =
    let same : 3 ≡ n = cc in
    ap (λ k. result_of k a b) (sym same)
    ∙ quotient_made int_rem (λ b. if fits (int_div (signed a) (signed b)) then Ok (word (int_rem (signed a) (signed b))) else Err Overflow) a b r
    (λ n e. guarded_is (fits (int_div (signed a) (signed b))) (word (int_rem (signed a) (signed b))) n e) e
routine_makes bin.RemU n a b r is e = let same : 4 ≡ n = cc in ap (λ k. result_of k a b) (sym same) ∙ by_divisor b e
  where
    by_divisor : (b : ℕ) → number_of (unsigned_remainder a b) ≡ Some (Num r) → result_of 4 a b ≡ Some r
    by_divisor zero e = absurd cc
    by_divisor (suc b) e = ap Some (same_number (a % suc b) r (ap number_of (sym (divided_some b (Ok (a % suc b)))) ∙ e))
routine_makes bin.Add n a b r is e = absurd cc
routine_makes bin.Sub n a b r is e = absurd cc
routine_makes bin.And n a b r is e = absurd cc
routine_makes bin.Or n a b r is e = absurd cc
routine_makes bin.Xor n a b r is e = absurd cc
routine_makes bin.Shl n a b r is e = absurd cc
routine_makes bin.ShrS n a b r is e = absurd cc
routine_makes bin.ShrU n a b r is e = absurd cc
routine_makes bin.Eq n a b r is e = absurd cc
routine_makes bin.Ne n a b r is e = absurd cc
routine_makes bin.LtS n a b r is e = absurd cc
routine_makes bin.LeS n a b r is e = absurd cc
routine_makes bin.LtU n a b r is e = absurd cc
routine_makes bin.LeU n a b r is e = absurd cc

-- ---- registers

pub steady_not : (r k : ℕ) → IsSteady r → (k < 3) ⊎ ((20 < k) × (k < 30)) ⊎ (30 < k) → r ≢ k
steady_not r k (inl t) (inl low) e = let least = t.low in omega (arith, least, low, e)
steady_not r k (inl t) (inr (inl mid)) e = let most = t.high in omega (arith, most, mid.0, e)
steady_not r k (inl t) (inr (inr high)) e = let most = t.high in omega (arith, most, high, e)
steady_not r k (inr is) (inl low) e = omega (arith, is, low, e)
steady_not r k (inr is) (inr (inl mid)) e = omega (arith, is, mid.1, e)
steady_not r k (inr is) (inr (inr high)) e = omega (arith, is, high, e)

put_other : (d v r : ℕ) (f : ℕ → ℕ) → r ≢ d → put d v f r ≡ f r
put_other d v r f ne = ap (λ (t : Bool). if t then v else f r) (ne_eqb r d ne)

-- none of some registers is this one
abbrev AllOther : List ℕ → ℕ → Type 0
AllOther [] r = Unit {0}
AllOther (q ∷ rest) r = (r ≢ q) × AllOther rest r

scratch_other : (words : ℕ → ℕ) (list : List ℕ) (f : ℕ → ℕ) (r : ℕ) → AllOther list r → with_scratch words list f r ≡ f r
scratch_other words [] f r h = refl
scratch_other words (q ∷ rest) f r h =
    scratch_other words rest (put q (words q % 2 ^ 32) f) r h.1 ∙ put_other q (words q % 2 ^ 32) r f h.0

-- registers and memory behind a routine
abbrev pub behind_routine : (ℕ → (ℕ → ℕ) → ℕ → ℕ) → ℕ → ℕ → Core → Core
behind_routine scratch k to c =
    let d = with_register 31 to c in
    record d {
      registers = with_result (result_of k (register d 26) (register d 25)) (with_scratch (scratch k d.registers) scratch_registers d.registers);
    }

result_other : (o : Option ℕ) (f : ℕ → ℕ) (r : ℕ) → r ≢ 29 → with_result o f r ≡ f r
result_other (Some n) f r ne = put_other 29 n r f ne
result_other None f r ne = refl

all_steady : (r : ℕ) → IsSteady r → AllOther scratch_registers r
all_steady r s =
    let mid : (k : ℕ) → 20 < k → k < 30 → r ≢ k = λ k low high. steady_not r k s (inr (inl (low, high))) in (
      steady_not r 1 s (inl (omega arith)),
      (
        mid 21 (omega arith) (omega arith),
        (mid 22 (omega arith) (omega arith), (mid 25 (omega arith) (omega arith), (mid 26 (omega arith) (omega arith), (mid 28 (omega arith) (omega arith), (mid 29 (omega arith) (omega arith), tt))))),
      ),
    )

routine_keeps : (scratch : ℕ → (ℕ → ℕ) → ℕ → ℕ) (k to : ℕ) (c : Core) → c.skip ≡ false → Keeps c (behind_routine scratch k to c)
routine_keeps scratch k to c skip = record {
  steady = λ r s.
      let d = with_register 31 to c in
      ap (λ (v : ℕ). if r == 0 then 0 else v)
      (result_other (result_of k (register d 26) (register d 25)) (with_scratch (scratch k d.registers) scratch_registers d.registers) r (steady_not r 29 s (inr (inl (omega arith, omega arith))))
      ∙ (scratch_other (scratch k d.registers) scratch_registers d.registers r (all_steady r s) ∙ put_other 31 to r c.registers (steady_not r 31 s (inr (inr (omega arith))))));
  memory = refl;
  skip = skip;
}

routine_result_is : (scratch : ℕ → (ℕ → ℕ) → ℕ → ℕ) (k to r : ℕ) (c : Core) → result_of k (register c 26) (register c 25) ≡ Some r → register (behind_routine scratch k to c) 29 ≡ r
routine_result_is scratch k to r c e =
    let d = with_register 31 to c in
    ap (λ (o : Option ℕ). with_result o (with_scratch (scratch k d.registers) scratch_registers d.registers) 29) e

-- ---- places

in_reach : (p : LineProgram) (w : Addresses) (c : Core) (a : Place) → IsPlace p w c a → IsInReach p w c a
in_reach p w c (Reg r) is = tt
in_reach p w c (Slot offset) is = is

pub place_kept : (p : LineProgram) (w : Addresses) (c e : Core) (a : Place) → Keeps c e → IsPlace p w c a → IsPlace p w e a
place_kept p w c e (Reg r) k is = is
place_kept p w c e (Slot offset) k is = subst (λ s. IsFrameWord p w (offset_by s offset)) (sym (k.steady 30 (inr refl))) is

pub place_word_kept : (p : LineProgram) (w : Addresses) (c e : Core) (a : Place) → Keeps c e → IsPlace p w c a → place_word e a ≡ place_word c a
place_word_kept p w c e (Reg r) k is = k.steady r (inl is)
place_word_kept p w c e (Slot offset) k is =
    ap₂ (λ (f : ℕ → ℕ) (s : ℕ). number_at 4 f (offset_by s offset)) k.memory (k.steady 30 (inr refl))

pub keeps_more : (c d e : Core) → Keeps c d → Keeps d e → Keeps c e
keeps_more c d e k l = record { steady = λ r s. l.steady r s ∙ k.steady r s; memory = l.memory ∙ k.memory; skip = l.skip }

placed_from : (t : Place) (n : ℕ) (c d e : Core) → Keeps c d → IsPlaced t n d e → IsPlaced t n c e
placed_from t n c d e k h = record {
  registers = λ r s. h.registers r s ∙ same_registers t r (k.steady r s);
  memory = h.memory ∙ same_memory t;
  skip = h.skip;
}
  where
    same_registers : (t : Place) (r : ℕ) → register d r ≡ register c r → registers_with t n (register d) r ≡ registers_with t n (register c) r
    same_registers (Reg q) r e = ap (λ v. if r == q then n else v) e
    same_registers (Slot offset) r e = e

    same_memory : (t : Place) → memory_with t n d ≡ memory_with t n c
    same_memory (Reg q) = k.memory
    same_memory (Slot offset) = ap₂ (λ (s : ℕ) (f : ℕ → ℕ). with_number 4 n (offset_by s offset) f) (k.steady 30 (inr refl)) k.memory

-- a temporary's word has come to a register that is not steady
pub record Comes (p : LineProgram) (w : Addresses) (words : List Word) (d n : ℕ) (c : Core) : Type 0 where
  pub core : Core
  pub through : GoThrough p w words c core []
  pub value : register core d ≡ n
  pub others : (r : ℕ) → r ≢ d → r ≢ help → register core r ≡ register c r
  pub keeps : Keeps c core

pub comes : TemporariesAreLoaded → (p : LineProgram) (w : Addresses) (a : Place) (d : ℕ) (c : Core) → d ≢ 0 → (d < 3) ⊎ ((20 < d) × (d < 30)) ⊎ (30 < d) → c.skip ≡ false → IsPlace p w c a
    → Comes p w (words_of (loaded a d)) d (place_word c a) c
comes law p w a d c some free skip is =
    let l = law p w a d c some skip (in_reach p w c a is) in
    record {
      core = l.core;
      through = record { acts = l.acts; notes = l.quiet };
      value = l.value;
      others = l.others;
      keeps = record {
        steady = λ r s. l.others r (steady_not r d s free) (steady_not r 1 s (inl (omega arith)));
        memory = l.memory;
        skip = l.skip;
      };
    }

-- ---- the turn

module _ (p : LineProgram) (w : Addresses) (scratch : ℕ → (ℕ → ℕ) → ℕ → ℕ) where
  same_machine : (m n : Machine) → On m ≡ On n → m ≡ n
  same_machine m n e = cc

  one_step : (m : Machine) → steps p w scratch 1 (On m) ≡ step p w scratch m
  unfolding steps
  one_step m = refl

  turn_step : (k : ℕ) (rest : List Item) (m : Machine) → m.core.skip ≡ false
      → step p w scratch (left_behind (Turns (turn.CallTo (Routine k) 31) None ∷ rest) m)
      ≡ On (record (left_behind rest m) { core = behind_routine scratch k (return_address w m.frame rest) m.core })
  unfolding step
  turn_step k rest m skip =
      ap (λ (t : Bool). if t then Astray else On (record (left_behind rest m) { core = behind_routine scratch k (return_address w m.frame rest) m.core })) skip

  pub turn_passes : (k : ℕ) (before rest : List Item) (m : Machine) → m.core.skip ≡ false → m.frame.left ≡ Turns (turn.CallTo (Routine k) 31) None ∷ rest
      → m.frame.function.items ≡ before ++ m.frame.left → Passes p w scratch m rest (behind_routine scratch k (return_address w m.frame rest) m.core) []
  turn_passes k before rest m skip left items = record {
    count = 1;
    more = 0;
    steps = goes ∙ ap (λ (n : ℕ). On (record (left_behind rest m) { core = behind_routine scratch k (return_address w m.frame rest) m.core; events = n })) (sym (add-zero m.events));
    amid = λ j n some le steps_to.
        let one : j ≡ 1 = omega (arith, some, le) in
        let there = same_machine (record (left_behind rest m) { core = behind_routine scratch k (return_address w m.frame rest) m.core }) n
        (sym goes ∙ (ap (λ i. steps p w scratch i (On m)) (sym one) ∙ steps_to)) in
        subst (λ (m : Machine). IsAmid m.frame) there
        (record { before = before; item = Turns (turn.CallTo (Routine k) 31) None; quiet = λ call. call; items = items ∙ ap (λ (l : List Item). before ++ l) left });
  }
    where
      goes : steps p w scratch 1 (On m) ≡ On (record (left_behind rest m) { core = behind_routine scratch k (return_address w m.frame rest) m.core })
      goes = one_step m ∙ (ap (λ (l : List Item). step p w scratch (left_behind l m)) left ∙ turn_step k rest m skip)

-- ---- the operation

module _ (laws : Laws) (load : TemporariesAreLoaded) (p : Program) (functions : List Located) (w : Addresses) (scratch : ℕ → (ℕ → ℕ) → ℕ → ℕ) (site : ℕ → ℕ) (m n : placed.Machine) (l : Machine) (before : List Item) (more : List Line) where
  abbrev program : LineProgram
  program = line_program p functions

  abbrev place : ℕ → Place
  place t = place_of m.frame.function.places t

  -- the result comes from register 29 to where it belongs
  result_got : (t : Place) (r : ℕ) (e : Core) → IsPlace program w e t → e.skip ≡ false → register e 29 ≡ r
      → Gets program w (words_of (moved_unless_there 29 (result_register t))) (result_register t) r [] e
  result_got (Slot offset) r e is skip value =
      record { core = e; through = record { acts = refl; notes = λ before. refl }; value = value; others = λ q s ne. refl; memory = refl; skip = skip }
  result_got (Reg q) r e is skip value =
      let other : (29 == q) ≡ false = ne_eqb 29 q (let high = is.high in λ e. omega (arith, high, e)) in
      let target = target_of program w e (Reg q) is in
      subst (λ (t : Bool). Gets program w (words_of (if t then [] else copied 29 q)) q r [] e) (sym other)
      (subst (λ (v : ℕ). Gets program w (words_of (copied 29 q)) q v [] e) value (laws.copy program w 29 q e target skip))

  routine_follows : (k : BinKind) (t a b number : ℕ) → routine_of k ≡ Some number → StandAt p functions w site (Flow (op.Bin k t a b)) m l before more
      → placed.does (with_functions p functions) (Flow (op.Bin k t a b)) m ≡ placed.On n → Follows p program w scratch site m n l (slotted more)
  routine_follows k t a b number has at is =
      let less = at.op.0 in
      let to = place_at laws p functions w scratch site (Flow (op.Bin k t a b)) m l before more t at less in
      let one = place_at laws p functions w scratch site (Flow (op.Bin k t a b)) m l before more a at at.op.1 in
      let two = place_at laws p functions w scratch site (Flow (op.Bin k t a b)) m l before more b at at.op.2 in
      let g = combined laws p functions w scratch site m n l before more k t a b at is in
      let x = comes load program w (place a) 26 l.core (λ e. omega (arith, e)) (inr (inl (omega arith, omega arith))) at.stands.goes one.place in
      let y = comes load program w (place b) 25 x.core (λ e. omega (arith, e)) (inr (inl (omega arith, omega arith))) x.keeps.skip (place_kept program w l.core x.core (place b) x.keeps two.place) in
      let first : register y.core 26 ≡ place_word l.core (place a) = y.others 26 (λ e. omega (arith, e)) (λ e. omega (arith, e)) ∙ x.value in
      let second : register y.core 25 ≡ place_word l.core (place b) = y.value ∙ place_word_kept program w l.core x.core (place b) x.keeps two.place in
      let xs = loaded (place a) 26 in
      let ys = loaded (place b) 25 in
      let call = CallTo (Routine number) 31 in
      let result = with_none (place t) (moved_unless_there 29) in
      let left = at.left ∙ ap slotted (ap (λ (o : Option ℕ). binary_by o k (place a) (place b) (place t) ++ more) has ∙ in_parts xs ys result more call) in
      let a1 =
      go_lines laws p functions w scratch site l before xs (ys ++ (call ∷ (result ++ more))) x.core [] left (at.items ∙ ap (λ (is : List Item). before ++ is) left) (loaded_straight (place a) 26) x.through in
      let l1 = further (slotted (ys ++ (call ∷ (result ++ more)))) x.core a1.passes.more [] l in
      let wx = map Plain (words_of xs) in
      let wy = map Plain (words_of ys) in
      let a2 = go_lines laws p functions w scratch site l1 (before ++ wx) ys (call ∷ (result ++ more)) y.core [] refl a1.items (loaded_straight (place b) 25) y.through in
      let l2 = further (slotted (call ∷ (result ++ more))) y.core a2.passes.more [] l1 in
      let rest = slotted (result ++ more) in
      let back = return_address w l2.frame rest in
      let e = behind_routine scratch number back y.core in
      let keeps = keeps_more l.core y.core e (keeps_more l.core x.core y.core x.keeps y.keeps) (routine_keeps scratch number back y.core y.keeps.skip) in
      let there = place_kept program w l.core e (place t) keeps to.place in
      let made = routine_result_is scratch number back g.number y.core (ap₂ (result_of number) first second ∙ routine_makes k number (place_word l.core (place a)) (place_word l.core (place b)) g.number has g.is) in
      let puts = laws.none program w (place t) g.number [] e (moved_unless_there 29) there (result_got (place t) g.number e there keeps.skip made) in
      let turned = Turns (turn.CallTo (Routine number) 31) None in
      let behind = (before ++ wx) ++ wy in
      let a3 : PassesTo laws p functions w scratch site l2 (behind ++ turned ∷ []) rest e [] =
      record {
        passes = turn_passes program w scratch number behind rest l2 y.keeps.skip refl a2.items;
        items = a2.items ∙ sym (append_assoc behind (turned ∷ []) rest);
      } in
      let l3 = further rest e a3.passes.more [] l2 in
      let a4 =
      go_lines laws p functions w scratch site l3 (behind ++ turned ∷ []) result more puts.core [] refl a3.items (none_straight (place t) (moved_unless_there 29) (moved_straight 29)) puts.through in
      let last = (behind ++ turned ∷ []) ++ map Plain (words_of result) in
      let all =
      and_go laws p functions w scratch site l (before ++ wx) last (slotted (ys ++ (call ∷ (result ++ more)))) (slotted more) x.core puts.core [] [] a1
      (and_go laws p functions w scratch site l1 behind last (slotted (call ∷ (result ++ more))) (slotted more) y.core puts.core [] [] a2
      (and_go laws p functions w scratch site l2 (behind ++ turned ∷ []) last rest (slotted more) e puts.core [] [] a3 a4)) in
      let reached =
      laws.results program w site m l.core puts.core t g.number g.value at.served at.stands less g.stands g.small (placed_from (place t) g.number l.core e puts.core keeps puts.placed) in
      subst (λ (n : placed.Machine). Follows p program w scratch site m n l (slotted more)) g.gives
      (record {
        values = values_put t g.value m;
        core = puts.core;
        log = [];
        passes = all.passes;
        stands = reached.stands;
        leaves = reached.leaves;
        logs = λ alike. subst (λ (log : List (Event Byte Value)). AreAlike (EventInWords p w.named) log l.trace) (sym (trace_put t g.value m)) alike;
      })
    where
      in_parts : (xs ys result more : List Line) (call : Line) → ((xs ++ ys) ++ (call ∷ result)) ++ more ≡ xs ++ (ys ++ (call ∷ (result ++ more)))
      in_parts xs ys result more call = append_assoc (xs ++ ys) (call ∷ result) more ∙ append_assoc xs ys (call ∷ (result ++ more))

pub routines_follow : Laws → TemporariesAreLoaded → (o : WebOp) → TakesRoutine o → OperationFollows o
routines_follow laws load (Flow (op.Bin k t a b)) h p functions w scratch site m n l before more at is =
    routine_follows laws load p functions w scratch site m n l before more k t a b h.0 h.1 at is
routines_follow laws load _ h p functions w scratch site m n l before more at is = absurd h
