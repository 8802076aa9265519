-- The run of selected lines keeps words in all registers, and bytes in memory.
use Rattle.std.proofs.Common.{◌≡◌, ℕ, ℤ, pos, negsuc, unsigned_abs, zero, suc, ◌+◌, ◌-◌, ◌*◌, ◌/◌, ◌%◌, ◌^◌, ◌<◌, ◌≤◌, ◌==◌, ◌&&◌, nat_le, nat_lt, Bool, true, false, cond, if◌then◌else◌, Option, Some, None, List, [], ◌∷◌, ◌++◌, map, find, length, take, drop, refl, sym, subst, ◌∙◌, arith, inl, inr}
use Rattle.std.specs.Prelude.{neg_ℤ, int_div, int_rem}
use Rattle.std.proofs.lemmas.Bool.{ltb-true, ltb-false}
use Rattle.std.specs.List.{AllByRecursion, list_all}
use Rattle.std.specs.Str.{bytes_eq}
use Rattle.std.specs.Int.{cast_signed, cast_unsigned, w32}
use Rattle.std.proofs.Math.Nat.{mod-lt, mod-le, div-le_self}
use Rattle.std.proofs.Math.Pow.{pow_mono}
use Rattle.std.proofs.lemmas.Nat.{and_le_l, or_lt, xor_lt, pow_pos}
use Rattle.pw_value.specs.ProgramNames.{start_name, getchar_name, putchar_name}
use Rattle.pw_files.proofs.Standing.{Has, contains_by}
use Rattle.pw_inst.specs.Computing.{Action, Puts, Loads, Stores, Shifts, Clears, Branches, Links, Jumps, Calls, Asks, Width, OneByte, HalfWord, WholeWord, bytes_of_width, extracted, action}
use Rattle.pw_inst.specs.InstructionTable.{IsInRange}
use Rattle.pw_inst.specs.Setting.{left_part, right_part}
use Rattle.pw_inst.specs.declared.Inst.{Inst}
use Rattle.pw_inst.specs.declared.Inst.TheVariants.{Ldb, Ldh, Ldw, Ldo, Stb, Sth, Stw, Ldil, And, Or, Xor, Sub, Addl, Vshd, Mtctl, Comclr, Subi, Extru, Extrs, Zdep, Combt, Combf, Bl, Bv, Ble, Break}
use Rattle.pw_inst.specs.declared.line.Line.{Line}
use Rattle.pw_inst.specs.declared.line.Line.TheVariants as line
use Rattle.pw_inst.specs.declared.relocation.FixKind.{FixKind}
use Rattle.pw_inst.specs.declared.relocation.FixKind.TheVariants as kind
use Rattle.pw_inst.specs.declared.relocation.Symbol.{Symbol}
use Rattle.pw_inst.specs.declared.relocation.Symbol.TheVariants as symbol
use Rattle.pw_machine.proofs.FieldSizes.{deposited_small}
use Rattle.pw_alloc.specs.declared.located.Located.{Located}
use Rattle.pw_delay.specs.declared.items.Word.{Word}
use Rattle.pw_delay.specs.declared.items.Turn.{Turn}
use Rattle.pw_delay.specs.declared.items.Turn.TheVariants.{Back, Goto, If, CallTo, CallReg, Leave}
use Rattle.pw_delay.specs.declared.items.Item.{Item}
use Rattle.pw_delay.specs.declared.items.Item.TheVariants.{Plain, Turns, Mark}
use Rattle.pw_delay.specs.Items.{bare, begins_next, plain_item, fixed_item, before, slotted}
use Rattle.pw_select.specs.Selection.{selected}
use Rattle.pw_run_languages.specs.CodeStands.{IsReady, SelectionIsReady}
use Rattle.pw_run_languages.specs.Traces.{Called, Returned}
use Rattle.pw_run_languages.specs.Programs.{Library, GetChar, PutChar, Exit, library_at, globals_of}
use Rattle.pw_run_languages.specs.Addresses.{Addresses}
use Rattle.pw_run_languages.specs.Acts.{Core, register, put, with_register, number_at, with_number, with_address, symbol_address, settled, Act, Acts, Full, Fails, is_open, act_of, action_of, executed, acts}
use Rattle.pw_run_languages.specs.LineRun.{LineFn, LineProgram, Frame, Machine, Step, On, Stopped, Astray, name_of, function_named, kept, counted, left_behind, globals_in, went_on, does, and_then, through_slot, from_mark, goes_to, to_block, is_plain, back_over, goes_back, notes_call, enters, answers, library, calls, of_signed, of_unsigned, result_of, scratch_registers, with_scratch, with_result, routine, linked, function_at, calls_at, return_address, returns, is_taken, distance, turned, step, steps, start_core, with_globals, start}
use Rattle.pw_run_languages.specs.Direction.{directives_of}
use Rattle.pw_run_languages.specs.SelectionLaws.{with_lines, line_program}
use Rattle.pw_law_select_memory.specs.Numbers.{HoldsBytes, NumbersAreBounded, BytesStayBytes}
use Rattle.pw_law_select_start.specs.Starting.{StartMemoryHoldsBytes}
use Rattle.pw_law_selection.specs.Words.{RegistersHoldWords}
use Rattle.pw_law_selection.proofs.Given.{functions_fine, function_valid, directives_lawful}

choose : {X : Type 0} (P : X → Type 0) (b : Bool) (x y : X) → P x → P y → P (if b then x else y)
choose P true x y h k = h
choose P false x y h k = k

-- ---- quotients and remainders

neg_abs : (k : ℕ) → unsigned_abs (neg_ℤ (pos k)) ≡ k
neg_abs zero = refl
neg_abs (suc k) = refl

div_abs : (a b : ℤ) → unsigned_abs (int_div a b) ≤ unsigned_abs a
div_abs (pos m) (pos n) = div-le_self m n
div_abs (pos m) (negsuc n) = subst (λ x. x ≤ m) (sym (neg_abs (m / suc n))) (div-le_self m (suc n))
div_abs (negsuc m) (pos n) = subst (λ x. x ≤ suc m) (sym (neg_abs (suc m / n))) (div-le_self (suc m) n)
div_abs (negsuc m) (negsuc n) = div-le_self (suc m) (suc n)

rem_abs : (a b : ℤ) → unsigned_abs (int_rem a b) ≤ unsigned_abs a
rem_abs (pos m) (pos n) = mod-le m n
rem_abs (pos m) (negsuc n) = mod-le m (suc n)
rem_abs (negsuc m) (pos n) = subst (λ x. x ≤ suc m) (sym (neg_abs (suc m % n))) (mod-le (suc m) n)
rem_abs (negsuc m) (negsuc n) = subst (λ x. x ≤ suc m) (sym (neg_abs (suc m % suc n))) (mod-le (suc m) (suc n))

signed_abs : (n : ℕ) → n < 2 ^ 32 → unsigned_abs (cast_signed w32 n) ≤ 2 ^ 31
signed_abs n small = by_test (nat_lt n (2 ^ 31)) refl
  where
    by_test : (t : Bool) → nat_lt n (2 ^ 31) ≡ t → unsigned_abs (if t then pos n else negsuc (2 ^ 32 - suc n)) ≤ 2 ^ 31
    by_test true e = let less = ltb-true n (2 ^ 31) e in omega (arith, less)
    by_test false e = let more = ltb-false n (2 ^ 31) e in omega (arith, more, small)

abs_small : (z : ℤ) → unsigned_abs z ≤ 2 ^ 31 → cast_unsigned w32 z < 2 ^ 32
abs_small (pos n) h = let e : cast_unsigned w32 (pos n) ≡ n = refl in let g : n ≤ 2 ^ 31 = h in omega (arith, e, g)
abs_small (negsuc n) h = omega (arith, h)

-- ---- words of instructions

abbrev IsSmall : ℕ → Type 0
IsSmall n = n < 2 ^ 32

abbrev Makes : Action → Type 0
Makes (Puts t v) = IsSmall v
Makes _ = Unit {0}

-- of words it makes words
abbrev Sound : Inst → Type 0
Sound i = (g : ℕ → ℕ) (shift : ℕ) → ((r : ℕ) → IsSmall (g r)) → Makes (action g shift i)

extracted_below : (word p len : ℕ) → extracted word p len < 2 ^ len
extracted_below word p len = mod-lt (word / 2 ^ (31 - p)) (pow_pos len)

extended_by : (whole bits : ℕ) (b : Bool) → bits < whole → whole ≤ 2 ^ 32 → (if b then bits else 2 ^ 32 - whole + bits) < 2 ^ 32
extended_by whole bits true less small = omega arith
extended_by whole bits false less small = omega arith

sound : (i : Inst) → IsInRange i → Sound i
unfolding IsInRange
sound (Ldo im b t) r g shift all = omega arith
sound (Ldil im t) r g shift all = omega (arith, r.0)
sound (And r1 r2 t) r g shift all = omega (arith, and_le_l (g r1) (g r2), all r1)
sound (Or r1 r2 t) r g shift all = or_lt 32 (g r1) (g r2) (all r1) (all r2)
sound (Xor r1 r2 t) r g shift all = xor_lt 32 (g r1) (g r2) (all r1) (all r2)
sound (Sub r1 r2 t) r g shift all = omega arith
sound (Addl r1 r2 t) r g shift all = omega arith
sound (Vshd r1 r2 t) r g shift all = omega arith
sound (Subi im s t) r g shift all = omega arith
sound (Extru s p len t) r g shift all = omega (arith, mod-le (g s / 2 ^ (31 - p)) (2 ^ len), div-le_self (g s) (2 ^ (31 - p)), all s)
sound (Extrs s p len t) r g shift all =
    let short : len ≤ 32 = omega (arith, r.0.0, r.0.2) in
    extended_by (2 ^ len) (extracted (g s) p len) (nat_lt (extracted (g s) p len) (2 ^ (len - 1))) (extracted_below (g s) p len) (pow_mono short)
sound (Zdep s p len t) r g shift all = deposited_small (g s) p len r.0.0 r.0.2
sound (Ldb im b t) r g shift all = tt
sound (Ldh im b t) r g shift all = tt
sound (Ldw im b t) r g shift all = tt
sound (Stb s im b) r g shift all = tt
sound (Sth s im b) r g shift all = tt
sound (Stw s im b) r g shift all = tt
sound (Mtctl s) r g shift all = tt
sound (Comclr c f r1 r2 t) r g shift all = tt
sound (Combt c r1 r2 disp) r g shift all = tt
sound (Combf c r1 r2 disp) r g shift all = tt
sound (Bl disp t n) r g shift all = tt
sound (Bv b n) r g shift all = tt
sound (Ble b n) r g shift all = tt
sound (Break im5 im13) r g shift all = tt

-- with an address in it
fixed_sound : (k : FixKind) (a : ℕ) (i j : Inst) → IsSmall a → with_address k a i ≡ Some j → Sound j
fixed_sound kind.Ldil a (Ldil im t) j small e g shift all =
    let same : Ldil (left_part a) t ≡ j = cc in subst (λ (x : Inst). Makes (action g shift x)) same (omega (arith, small))
fixed_sound kind.Im14 a (Ldb im b t) j small e g shift all = let same : Ldb (pos (right_part a)) b t ≡ j = cc in subst (λ (x : Inst). Makes (action g shift x)) same tt
fixed_sound kind.Im14 a (Ldh im b t) j small e g shift all = let same : Ldh (pos (right_part a)) b t ≡ j = cc in subst (λ (x : Inst). Makes (action g shift x)) same tt
fixed_sound kind.Im14 a (Ldw im b t) j small e g shift all = let same : Ldw (pos (right_part a)) b t ≡ j = cc in subst (λ (x : Inst). Makes (action g shift x)) same tt
fixed_sound kind.Im14 a (Ldo im b t) j small e g shift all = let same : Ldo (pos (right_part a)) b t ≡ j = cc in subst (λ (x : Inst). Makes (action g shift x)) same (omega arith)
fixed_sound kind.Im14 a (Stb r im b) j small e g shift all = let same : Stb r (pos (right_part a)) b ≡ j = cc in subst (λ (x : Inst). Makes (action g shift x)) same tt
fixed_sound kind.Im14 a (Sth r im b) j small e g shift all = let same : Sth r (pos (right_part a)) b ≡ j = cc in subst (λ (x : Inst). Makes (action g shift x)) same tt
fixed_sound kind.Im14 a (Stw r im b) j small e g shift all = let same : Stw r (pos (right_part a)) b ≡ j = cc in subst (λ (x : Inst). Makes (action g shift x)) same tt
fixed_sound k a i j small e g shift all = absurd cc

-- ---- words of lines

module _ (w : Addresses) where
  abbrev SoundWord : Word → Type 0
  SoundWord word = (i : Inst) → settled w word ≡ Some i → Sound i

  abbrev SoundSlot : Option Word → Type 0
  SoundSlot None = Unit {0}
  SoundSlot (Some word) = SoundWord word

  abbrev SoundItem : Item → Type 0
  SoundItem (Plain word) = SoundWord word
  SoundItem (Turns turn slot) = SoundSlot slot
  SoundItem (Mark b) = Unit {0}

  abbrev AllSound : List Item → Type 0
  AllSound items = AllByRecursion SoundItem items

  bare_sound : (i : Inst) → Sound i → SoundWord (bare i)
  bare_sound i s j e = let same : i ≡ j = cc in subst Sound same s

  plain_sound : (i : Inst) → IsInRange i → SoundItem (plain_item i)
  plain_sound (Combf c r1 r2 disp) r = tt
  plain_sound i r = bare_sound i (sound i r)

  relocated_sound : (i : Inst) (k : FixKind) (n : ℕ) (s : Symbol) → SoundItem (fixed_item i k s n)
  relocated_sound i k n s j e = by_address (symbol_address w s) refl
    where
      by_address : (o : Option ℕ) → symbol_address w s ≡ o → Sound j
      by_address None is =
          absurd (let none : settled w (record { inst = i; relocation = Some (record { kind = k; symbol = s; addend = n }) }) ≡ None = rw is refl in let both = sym none ∙ e in cc)
      by_address (Some a) is =
          let there : settled w (record { inst = i; relocation = Some (record { kind = k; symbol = s; addend = n }) }) ≡ with_address k ((a + n) % 2 ^ 32) i = rw is refl in
          let small : IsSmall ((a + n) % 2 ^ 32) = omega arith in
          fixed_sound k ((a + n) % 2 ^ 32) i j small (sym there ∙ e)

  ready_sound : (lines : List Line) → AllByRecursion IsReady lines → AllSound (slotted lines)
  ready_sound [] ready = tt
  ready_sound (line.Plain i ∷ rest) ready = (plain_sound i ready.0, ready_sound rest ready.1)
  ready_sound (line.Fixed i k s n ∷ rest) ready = (relocated_sound i k n s, ready_sound rest ready.1)
  ready_sound (line.Jump b ∷ rest) ready =
      choose (λ (o : Option Item). AllSound (before o (slotted rest))) (begins_next b rest) None (Some (Turns (Goto b) None)) (ready_sound rest ready.1) (tt, ready_sound rest ready.1)
  ready_sound (line.BranchNonZero r b ∷ rest) ready = (tt, ready_sound rest ready.1)
  ready_sound (line.Label b ∷ rest) ready = (tt, ready_sound rest ready.1)
  ready_sound (line.CallTo s r ∷ rest) ready = (tt, ready_sound rest ready.1)
  ready_sound (line.CallReg ∷ rest) ready = (bare_sound (Or 31 0 2) (λ g shift all. or_lt 32 (g 31) (g 0) (all 31) (all 0)), ready_sound rest ready.1)
  ready_sound (line.Leave ∷ rest) ready = (tt, ready_sound rest ready.1)

  -- ---- what acts

  record IsOfWords (c : Core) : Type 0 where
    registers : (r : ℕ) → IsSmall (c.registers r)
    memory : HoldsBytes c.memory

  register_small : (c : Core) → IsOfWords c → (r : ℕ) → IsSmall (register c r)
  register_small c h r = choose IsSmall (r == 0) 0 (c.registers r) (omega arith) (h.registers r)

  put_small : (t v : ℕ) (f : ℕ → ℕ) → IsSmall v → ((r : ℕ) → IsSmall (f r)) → (r : ℕ) → IsSmall (put t v f r)
  put_small t v f small all r = choose IsSmall (r == t) v (f r) small (all r)

  puts_words : (t v : ℕ) (c : Core) → IsSmall v → IsOfWords c → IsOfWords (with_register t v c)
  puts_words t v c small h =
      choose IsOfWords (t == 0) c (record c { registers = put t v c.registers }) h (record { registers = put_small t v c.registers small h.registers; memory = h.memory })

  abbrev IfActs : Act → Type 0
  IfActs (Acts e) = IsOfWords e
  IfActs Full = Unit {0}
  IfActs Fails = Unit {0}

  module _ (bounded : NumbersAreBounded) (stay : BytesStayBytes) where
    loaded_small : (width : Width) (memory : ℕ → ℕ) (a : ℕ) → HoldsBytes memory → IsSmall (number_at (bytes_of_width width) memory a)
    loaded_small OneByte memory a h = let b = bounded 1 a memory h in omega (arith, b)
    loaded_small HalfWord memory a h = let b = bounded 2 a memory h in omega (arith, b)
    loaded_small WholeWord memory a h = let b = bounded 4 a memory h in omega (arith, b)

    act_words : (a : Action) (c : Core) → Makes a → IsOfWords c → IfActs (act_of w a c)
    act_words (Puts t v) c makes h = puts_words t v c makes h
    act_words (Loads width a t) c makes h =
        let n = number_at (bytes_of_width width) c.memory a in
        choose IfActs (is_open w a (bytes_of_width width)) (Acts (with_register t n c)) Fails (puts_words t n c (loaded_small width c.memory a h.memory) h) tt
    act_words (Stores width a word) c makes h =
        choose IfActs (is_open w a (bytes_of_width width)) (Acts (record c { memory = with_number (bytes_of_width width) word a c.memory })) Fails
        (record { registers = h.registers; memory = stay (bytes_of_width width) word a c.memory h.memory }) tt
    act_words (Shifts n) c makes h = record { registers = h.registers; memory = h.memory }
    act_words (Clears t skips) c makes h = let cleared = puts_words t 0 c (omega arith) h in record { registers = cleared.registers; memory = cleared.memory }
    act_words (Asks im5 im13) c makes h = choose IfActs ((im5 == 0) && (im13 == 4)) Full Fails tt tt
    act_words (Branches taken disp) c makes h = tt
    act_words (Links disp t n) c makes h = tt
    act_words (Jumps a n) c makes h = tt
    act_words (Calls a n) c makes h = tt

    some_words : (i : Inst) (c : Core) → Sound i → IsOfWords c → IfActs (acts w (Some i) c)
    some_words i c s h =
        choose IfActs c.skip (Acts (record c { skip = false })) (executed w i c) (record { registers = h.registers; memory = h.memory })
        (act_words (action_of i c) c (s (λ r. register c r) c.shift (register_small c h)) h)

    acts_words : (o : Option Inst) (c : Core) → ((i : Inst) → o ≡ Some i → Sound i) → IsOfWords c → IfActs (acts w o c)
    acts_words None c s h = tt
    acts_words (Some i) c s h = some_words i c (s i refl) h

    -- ---- machines

    module _ (p : LineProgram) (scratch : ℕ → (ℕ → ℕ) → ℕ → ℕ) (links : (f : List ℕ) (n : ℕ) → IsSmall (w.behind f n)) (functions : AllByRecursion (λ (f : LineFn). AllSound f.items) p.functions) where
      record GoodFrame (f : Frame) : Type 0 where
        items : AllSound f.function.items
        left : AllSound f.left

      record Good (m : Machine) : Type 0 where
        core : IsOfWords m.core
        rest : AllByRecursion (λ b. b < 256) m.rest
        frame : GoodFrame m.frame
        callers : AllByRecursion GoodFrame m.callers

      abbrev GoodStep : Step → Type 0
      GoodStep (On m) = Good m
      GoodStep (Stopped end m) = Unit {0}
      GoodStep Astray = Unit {0}

      with_left : (items : List Item) (m : Machine) → AllSound items → Good m → Good (left_behind items m)
      with_left items m s g = record { core = g.core; rest = g.rest; frame = record { items = g.frame.items; left = s }; callers = g.callers }

      count_good : (m : Machine) → Good m → Good (counted m)
      count_good m g = record { core = g.core; rest = g.rest; frame = g.frame; callers = g.callers }

      went_good : (i : Option Inst) (a : Act) (m : Machine) → IfActs a → Good m → GoodStep (went_on p w i a m)
      went_good i (Acts c) m h g = record { core = h; rest = g.rest; frame = g.frame; callers = g.callers }
      went_good i Full m h g = tt
      went_good i Fails m h g = tt

      does_good : (word : Word) (m : Machine) → SoundWord word → Good m → GoodStep (does p w word m)
      does_good word m s g = went_good (settled w word) (acts w (settled w word) m.core) m (acts_words (settled w word) m.core s g.core) g

      and_good : (s : Step) (next : Machine → Step) → GoodStep s → ((m : Machine) → Good m → GoodStep (next m)) → GoodStep (and_then s next)
      and_good (On m) next g f = f m g
      and_good (Stopped end m) next g f = tt
      and_good Astray next g f = tt

      through_good : (slot : Option Word) (next : Machine → Step) (m : Machine) → SoundSlot slot → ((n : Machine) → Good n → GoodStep (next n)) → Good m → GoodStep (through_slot p w slot next m)
      through_good None next m s f g = f m g
      through_good (Some word) next m s f g = and_good (does p w word m) next (does_good word m s g) f

      -- ---- ways inside a function

      abbrev IfSound : Option (List Item) → Type 0
      IfSound (Some items) = AllSound items
      IfSound None = Unit {0}

      mark_sound : (b : ℕ) (items : List Item) → AllSound items → IfSound (from_mark b items)
      mark_sound b [] h = tt
      mark_sound b (Mark n ∷ rest) h = choose IfSound (n == b) (Some rest) (from_mark b rest) h.1 (mark_sound b rest h.1)
      mark_sound b (Plain word ∷ rest) h = mark_sound b rest h.1
      mark_sound b (Turns turn slot ∷ rest) h = mark_sound b rest h.1

      goes_good : (o : Option (List Item)) (m : Machine) → IfSound o → Good m → GoodStep (goes_to o m)
      goes_good (Some items) m h g = with_left items m h g
      goes_good None m h g = tt

      block_good : (b : ℕ) (m : Machine) → Good m → GoodStep (to_block b m)
      block_good b m g = goes_good (from_mark b m.frame.function.items) m (mark_sound b m.frame.function.items g.frame.items) g

      dropped : (n : ℕ) (items : List Item) → AllSound items → AllSound (drop n items)
      dropped zero [] h = tt
      dropped (suc n) [] h = tt
      dropped zero (x ∷ xs) h = h
      dropped (suc n) (x ∷ xs) h = dropped n xs h.1

      over_sound : (n : ℕ) (left items : List Item) → AllSound items → IfSound (back_over n left items)
      over_sound n left items h =
          let from = drop (length items - (length left + n)) items in
          choose IfSound (nat_le (length left + n) (length items) && list_all is_plain (take n from)) (Some from) None (dropped (length items - (length left + n)) items h) tt

      back_good : (o : Option ℕ) (here : List Item) (m : Machine) → Good m → GoodStep (goes_back o here m)
      back_good (Some n) here m g = goes_good (back_over n here m.frame.function.items) m (over_sound n here m.frame.function.items g.frame.items) g
      back_good None here m g = tt

      -- ---- calls

      found_sound : (test : LineFn → Bool) (fs : List LineFn) (f : LineFn) → AllByRecursion (λ (g : LineFn). AllSound g.items) fs → find test fs ≡ Some f → AllSound f.items
      found_sound test [] f all e = absurd cc
      found_sound test (g ∷ fs) f all e = by_test (test g) (found_sound test fs f all.1) e
        where
          by_test : (t : Bool) → (find test fs ≡ Some f → AllSound f.items) → cond t (Some g) (find test fs) ≡ Some f → AllSound f.items
          by_test true later e = let same : g ≡ f = cc in subst (λ (x : LineFn). AllSound x.items) same all.0
          by_test false later e = later e

      enters_good : (f : LineFn) (m : Machine) → AllSound f.items → Good m → Good (enters p w f m)
      enters_good f m s g = record { core = g.core; rest = g.rest; frame = record { items = s; left = s }; callers = (g.frame, g.callers) }

      answers_good : (f : List ℕ) (answer : ℕ) (m : Machine) → IsSmall answer → Good m → GoodStep (answers p w f answer m)
      answers_good f answer m small g = record { core = puts_words 28 answer m.core small g.core; rest = g.rest; frame = g.frame; callers = g.callers }

      abbrev reads_by : Machine → List ℕ → Step
      reads_by m [] = answers p w getchar_name (2 ^ 32 - 1) (notes_call p w getchar_name m)
      reads_by m (byte ∷ rest) = answers p w getchar_name byte (record (notes_call p w getchar_name m) { rest = rest; read = m.read + 1 })

      reads_good : (m : Machine) (rest : List ℕ) → AllByRecursion (λ b. b < 256) rest → Good m → GoodStep (reads_by m rest)
      reads_good m [] all g =
          answers_good getchar_name (2 ^ 32 - 1) (notes_call p w getchar_name m) (omega arith) (record { core = g.core; rest = g.rest; frame = g.frame; callers = g.callers })
      reads_good m (byte ∷ rest) all g =
          let small = all.0 in
          answers_good getchar_name byte (record (notes_call p w getchar_name m) { rest = rest; read = m.read + 1 }) (omega (arith, small))
          (record { core = g.core; rest = all.1; frame = g.frame; callers = g.callers })

      library_good : (l : Library) (m : Machine) → Good m → GoodStep (library p w l m)
      library_good GetChar m g = reads_good m m.rest g.rest g
      library_good PutChar m g =
          let byte = register m.core 26 % 256 in
          answers_good putchar_name byte (record (notes_call p w putchar_name m) { out = m.out ++ byte ∷ [] }) (omega arith)
          (record { core = g.core; rest = g.rest; frame = g.frame; callers = g.callers })
      library_good Exit m g = tt

      abbrev calls_by : Machine → Option Library → Option LineFn → Step
      calls_by m (Some l) defined = library p w l m
      calls_by m None (Some f) = On (enters p w f m)
      calls_by m None None = Astray

      calls_by_good : (f : List ℕ) (m : Machine) (l : Option Library) (o : Option LineFn) → function_named p f ≡ o → Good m → GoodStep (calls_by m l o)
      calls_by_good f m (Some l) o e g = library_good l m g
      calls_by_good f m None (Some x) e g = enters_good x m (found_sound (λ (y : LineFn). bytes_eq y.located.body.name f) p.functions x functions e) g
      calls_by_good f m None None e g = tt

      calls_good : (to : ℕ) (f : List ℕ) (m : Machine) → Good m → GoodStep (calls p w to f m)
      calls_good to f m g =
          choose GoodStep (register m.core 2 == to) (calls_by m (library_at f) (function_named p f)) Astray (calls_by_good f m (library_at f) (function_named p f) refl g) tt

      calls_at_good : (to : ℕ) (o : Option (List ℕ)) (m : Machine) → Good m → GoodStep (calls_at p w to o m)
      calls_at_good to (Some f) m g = calls_good to f m g
      calls_at_good to None m g = tt

      -- ---- routines

      abbrev IfSmall : Option ℕ → Type 0
      IfSmall (Some n) = IsSmall n
      IfSmall None = Unit {0}

      signed_small : (f : ℤ → ℤ → ℤ) → ((x y : ℤ) → unsigned_abs (f x y) ≤ unsigned_abs x) → (a b : ℕ) → IsSmall a → IfSmall (of_signed f a b)
      signed_small f less a zero small = tt
      signed_small f less a (suc b) small =
          let one = less (cast_signed w32 a) (cast_signed w32 (suc b)) in
          let two = signed_abs a small in
          abs_small (f (cast_signed w32 a) (cast_signed w32 (suc b))) (omega (arith, one, two))

      quotient_small : (a b : ℕ) → IsSmall a → IfSmall (of_unsigned (λ x y. x / y) a b)
      quotient_small a zero small = tt
      quotient_small a (suc b) small = let less = div-le_self a (suc b) in omega (arith, less, small)

      remainder_small : (a b : ℕ) → IsSmall a → IfSmall (of_unsigned (λ x y. x % y) a b)
      remainder_small a zero small = tt
      remainder_small a (suc b) small = let less = mod-le a (suc b) in omega (arith, less, small)

      result_small : (k a b : ℕ) → IsSmall a → IfSmall (result_of k a b)
      result_small k a b small =
          let last = of_unsigned (λ x y. x % y) a b in
          let fourth = if k == 3 then of_signed int_rem a b else last in
          let third = if k == 2 then Some (a * b % 2 ^ 32) else fourth in
          let second = if k == 1 then of_unsigned (λ x y. x / y) a b else third in
          choose IfSmall (k == 0) (of_signed int_div a b) second (signed_small int_div div_abs a b small)
          (choose IfSmall (k == 1) (of_unsigned (λ x y. x / y) a b) third (quotient_small a b small)
          (choose IfSmall (k == 2) (Some (a * b % 2 ^ 32)) fourth (omega arith)
          (choose IfSmall (k == 3) (of_signed int_rem a b) last (signed_small int_rem rem_abs a b small) (remainder_small a b small))))

      scratch_small : (words : ℕ → ℕ) (rs : List ℕ) (f : ℕ → ℕ) → ((r : ℕ) → IsSmall (f r)) → (r : ℕ) → IsSmall (with_scratch words rs f r)
      scratch_small words [] f all r = all r
      scratch_small words (q ∷ rs) f all r = scratch_small words rs (put q (words q % 2 ^ 32) f) (put_small q (words q % 2 ^ 32) f (omega arith) all) r

      with_result_small : (o : Option ℕ) (f : ℕ → ℕ) → IfSmall o → ((r : ℕ) → IsSmall (f r)) → (r : ℕ) → IsSmall (with_result o f r)
      with_result_small (Some n) f small all r = put_small 29 n f small all r
      with_result_small None f small all r = all r

      routine_good : (k : ℕ) (m : Machine) → Good m → GoodStep (routine scratch k m)
      routine_good k m g = record {
        core = record {
          registers = with_result_small (result_of k (register m.core 26) (register m.core 25)) (with_scratch (scratch k m.core.registers) scratch_registers m.core.registers)
              (result_small k (register m.core 26) (register m.core 25) (register_small m.core g.core 26))
              (scratch_small (scratch k m.core.registers) scratch_registers m.core.registers g.core.registers);
          memory = g.core.memory;
        };
        rest = g.rest;
        frame = g.frame;
        callers = g.callers;
      }

      -- ---- turns

      abbrev given_back : Machine → Frame → List Frame → Step
      given_back m caller callers = On (record m {
        frame = caller;
        callers = callers;
        trace = Returned (name_of m.frame) 0 (globals_in p w m.core (caller ∷ callers)) m.frame.before (kept m.core) ∷ m.trace;
      })

      abbrev returns_by : ℕ → Machine → List Frame → Step
      returns_by to m [] = Astray
      returns_by to m (caller ∷ callers) = if (to == return_address w caller caller.left) && (register m.core 30 == m.frame.stack) then given_back m caller callers else Astray

      returns_by_good : (to : ℕ) (m : Machine) (frames : List Frame) → AllByRecursion GoodFrame frames → Good m → GoodStep (returns_by to m frames)
      returns_by_good to m [] all g = tt
      returns_by_good to m (caller ∷ callers) all g =
          choose GoodStep ((to == return_address w caller caller.left) && (register m.core 30 == m.frame.stack)) (given_back m caller callers) Astray
          (record { core = g.core; rest = g.rest; frame = all.0; callers = all.1 }) tt

      returns_good : (to : ℕ) (m : Machine) → Good m → GoodStep (returns p w to m)
      returns_good to m g = returns_by_good to m m.callers g.callers g

      linked_good : (r address : ℕ) (m : Machine) → IsSmall address → Good m → Good (linked r address m)
      linked_good r address m small g = record { core = puts_words r address m.core small g.core; rest = g.rest; frame = g.frame; callers = g.callers }

      turned_good : (turn : Turn) (slot : Option Word) (here behind : List Item) (m : Machine) → SoundSlot slot → AllSound behind → Good m → GoodStep (turned p w scratch turn slot here behind m)
      turned_good (Back branch) slot here behind m s left g =
          choose GoodStep (is_taken branch m.core) (through_slot p w slot (goes_back (distance branch) here) (counted m)) (through_slot p w slot On (left_behind behind m))
          (through_good slot (goes_back (distance branch) here) (counted m) s (λ n h. back_good (distance branch) here n h) (count_good m g))
          (through_good slot On (left_behind behind m) s (λ n h. h) (with_left behind m left g))
      turned_good (Goto b) slot here behind m s left g = through_good slot (to_block b) (counted m) s (λ n h. block_good b n h) (count_good m g)
      turned_good (If r b) slot here behind m s left g =
          choose GoodStep (register m.core r == 0) (through_slot p w slot On (left_behind behind m)) (through_slot p w slot (to_block b) (counted m))
          (through_good slot On (left_behind behind m) s (λ n h. h) (with_left behind m left g))
          (through_good slot (to_block b) (counted m) s (λ n h. block_good b n h) (count_good m g))
      turned_good (CallTo (symbol.Named f) link) slot here behind m s left g =
          let to = return_address w m.frame behind in
          through_good slot (calls p w to f) (linked link to (left_behind behind m)) s (λ n h. calls_good to f n h)
          (linked_good link to (left_behind behind m) (links (name_of m.frame) _) (with_left behind m left g))
      turned_good (CallTo (symbol.Routine k) link) slot here behind m s left g =
          let to = return_address w m.frame behind in
          through_good slot (routine scratch k) (linked link to (left_behind behind m)) s (λ n h. routine_good k n h)
          (linked_good link to (left_behind behind m) (links (name_of m.frame) _) (with_left behind m left g))
      turned_good (CallTo symbol.StackLimit link) slot here behind m s left g = tt
      turned_good (CallTo (symbol.Word k) link) slot here behind m s left g = tt
      turned_good CallReg slot here behind m s left g =
          let to = return_address w m.frame behind in
          let f = function_at p w (register m.core 22) in
          through_good slot (calls_at p w to f) (linked 31 to (left_behind behind m)) s (λ n h. calls_at_good to f n h)
          (linked_good 31 to (left_behind behind m) (links (name_of m.frame) _) (with_left behind m left g))
      turned_good Leave slot here behind m s left g =
          through_good slot (returns p w (register m.core 2)) (left_behind behind m) s (λ n h. returns_good (register m.core 2) n h) (with_left behind m left g)

      -- ---- steps

      abbrev next_by : Machine → List Item → Step
      next_by m [] = Astray
      next_by m (Plain word ∷ rest) = does p w word (left_behind rest m)
      next_by m (Mark b ∷ rest) = On (left_behind rest m)
      next_by m (Turns turn slot ∷ rest) = if m.core.skip then Astray else turned p w scratch turn slot (Turns turn slot ∷ rest) rest m

      next_good : (m : Machine) (left : List Item) → AllSound left → Good m → GoodStep (next_by m left)
      next_good m [] s g = tt
      next_good m (Plain word ∷ rest) s g = does_good word (left_behind rest m) s.0 (with_left rest m s.1 g)
      next_good m (Mark b ∷ rest) s g = with_left rest m s.1 g
      next_good m (Turns turn slot ∷ rest) s g =
          choose GoodStep m.core.skip Astray (turned p w scratch turn slot (Turns turn slot ∷ rest) rest m) tt (turned_good turn slot (Turns turn slot ∷ rest) rest m s.0 s.1 g)

      step_good : (m : Machine) → Good m → GoodStep (step p w scratch m)
      unfolding step
      step_good m g = next_good m m.frame.left g.frame.left g

      steps_good : (n : ℕ) (s : Step) → GoodStep s → GoodStep (steps p w scratch n s)
      unfolding steps
      steps_good zero s g = g
      steps_good (suc n) s g = steps_good n (and_then s (step p w scratch)) (and_good s (step p w scratch) g step_good)

      -- ---- the start

      abbrev begun_by : List ℕ → Option LineFn → Step
      begun_by input None = Astray
      begun_by input (Some f) = On (record {
        core = start_core p w;
        frame = record { function = f; left = f.items; stack = w.base; before = kept (start_core p w) };
        callers = [];
        rest = input;
        read = 0;
        out = [];
        events = 0;
        trace = Called start_name (globals_in p w (start_core p w) []) (kept (start_core p w)) ∷ [];
      })

      begun_good : (input : List ℕ) (o : Option LineFn) → function_named p start_name ≡ o → IsSmall w.base → HoldsBytes (with_globals w (globals_of p.flow) (λ a. 0)) → AllByRecursion (λ b. b < 256) input
          → GoodStep (begun_by input o)
      begun_good input None e base memory bytes = tt
      begun_good input (Some f) e base memory bytes =
          let s = found_sound (λ (y : LineFn). bytes_eq y.located.body.name start_name) p.functions f functions e in
          record {
            core = record { registers = put_small 30 w.base (λ r. 0) base (λ r. omega arith); memory = memory };
            rest = bytes;
            frame = record { items = s; left = s };
            callers = tt;
          }

      start_good : (input : List ℕ) → IsSmall w.base → HoldsBytes (with_globals w (globals_of p.flow) (λ a. 0)) → AllByRecursion (λ b. b < 256) input → GoodStep (start p w input)
      start_good input base memory bytes = begun_good input (function_named p start_name) refl base memory bytes

      good_registers : (m : Machine) → Good m → (r : ℕ) → IsSmall (register m.core r)
      good_registers m g r = register_small m.core g.core r

      pub registers_small : (input : List ℕ) → IsSmall w.base → HoldsBytes (with_globals w (globals_of p.flow) (λ a. 0)) → AllByRecursion (λ b. b < 256) input
          → (k : ℕ) (l : Machine) → steps p w scratch k (start p w input) ≡ On l → (r : ℕ) → IsSmall (register l.core r)
      registers_small input base memory bytes k l e r = good_registers l (subst GoodStep e (steps_good k (start p w input) (start_good input base memory bytes))) r

-- ---- the law

each_mapped : (P : LineFn → Type 0) (fs : List Located) → ((f : Located) → Has f fs → P (with_lines f)) → AllByRecursion P (map with_lines fs)
each_mapped P [] h = tt
each_mapped P (f ∷ fs) h = (h f (inl refl), each_mapped P fs (λ g there. h g (inr there)))

pub registers_hold_words : NumbersAreBounded → BytesStayBytes → SelectionIsReady → StartMemoryHoldsBytes → RegistersHoldWords
registers_hold_words bounded stay ready memory p d functions w scratch input given k l e r =
    let behind = given.lawful.behind_word in
    let limit = given.lawful.stack in
    let most = given.lawful.memory in
    registers_small w bounded stay (line_program p functions) scratch behind
    (each_mapped (λ (f : LineFn). AllSound w f.items) functions (λ f there.
    let fine = functions_fine p given.program d given.directives functions given.serve given.frames f (contains_by f functions there) in
    ready_sound w (selected f)
    (ready fine.flow (directives_of d fine.flow.name) f (function_valid p given.program fine.flow fine.there) (directives_lawful d fine.flow.name given.directives) fine.serves).each))
    input (omega (arith, limit, most)) (memory p w given.program) given.bytes k l e r
