-- The words with which a function begins.
use Rattle.std.proofs.Common.{ℕ, pos, ◌≡◌, ◌≢◌, ◌+◌, ◌-◌, ◌%◌, ◌^◌, ◌<◌, ◌≤◌, inl, inr, arith, refl, ap, sym, subst, ◌∙◌, Bool, true, false, if◌then◌else◌, nat_lt, nat_le, Some, List, [], ◌∷◌, ◌++◌, map, length, append_assoc}
use Rattle.std.specs.List.{AllByRecursion}
use Rattle.std.proofs.lemmas.Bool.{cases_lt, le-leb, lt-leb}
use Rattle.std.specs.Int.{w32, cast_signed}
use Rattle.pw_inst.specs.Computing.{offset_by}
use Rattle.pw_inst.specs.Limits.{near_limit}
use Rattle.pw_inst.specs.Registers.{help, second, return_address, stack_pointer}
use Rattle.pw_inst.specs.declared.Inst.TheVariants as i
use Rattle.pw_inst.specs.declared.line.Line.{Line}
use Rattle.pw_inst.specs.declared.line.Line.TheVariants.{Plain}
use Rattle.pw_inst.specs.declared.relocation.Symbol.TheVariants.{StackLimit}
use Rattle.pw_alloc.specs.Frames.{below}
use Rattle.pw_delay.specs.declared.items.Word.{Word}
use Rattle.pw_delay.specs.declared.items.Item.{Item}
use Rattle.pw_delay.specs.declared.items.Item.TheVariants as item
use Rattle.pw_delay.specs.Items.{bare, slotted}
use Rattle.pw_alloc.specs.declared.located.Place.TheVariants.{Reg}
use Rattle.pw_select_lines.specs.Registers.{word, constant, address_of, store_to, copied, is_near, long_constant}
use Rattle.pw_select.specs.Selection.{frame_end, entry_lines}
use Rattle.pw_run.specs.Runs.{StackFull}
use Rattle.pw_run_languages.specs.Traces.{Event}
use Rattle.pw_run_languages.specs.Addresses.{Addresses, AreLawful}
use Rattle.pw_run_languages.specs.Acts.{Core, Act, Acts, Full, Fails, acts, executed, register, with_register, with_number, is_open}
use Rattle.pw_run_languages.specs.LineRun.{LineProgram, Machine, On, Stopped, accesses, left_behind, step, steps, shown, went_on}
use Rattle.pw_law_select_rows.specs.Straight.{act_then, ran, noted_by, noted, words_of, IsStraight, StraightLinesAreWords, behind_words}
use Rattle.pw_law_select_rows.specs.Making.{Makes}
use Rattle.pw_law_select_rows.specs.Frames.{StoresWord}
use Rattle.pw_law_select_states.specs.States.{IsOfWords}
use Rattle.pw_law_select_frames.specs.Going.{Goes}
use Rattle.pw_law_select_frames.specs.Stack.{IsStackWord}
use Rattle.pw_law_select_frames.specs.Entering.{Enters, StopsFull}
use Rattle.pw_law_select_frames.proofs.Known.{Known}
use Rattle.pw_law_select_frames.proofs.Passing.{amid_words, steps_add, one_step, word_step}
use Rattle.pw_law_select_frames.proofs.Going.{loads_go, stores_go, makes_go, goes_then, lines_then, word_makes}
use Rattle.pw_law_select_frames.proofs.Stack.{stack_word_is, below_word, above_word}
use Rattle.pw_law_select_frames.proofs.Frame.{IsAt, store_below, holds_stored, holds_loaded, holds_made}

pub constant_straight : (n : ℕ) (t : Bool) → AllByRecursion IsStraight (if t then Plain (i.Ldo (cast_signed w32 n) 0 1) ∷ [] else long_constant n 1)
constant_straight n true = (tt, tt)
constant_straight n false = (tt, (tt, tt))

pub joined_straight : (xs ys : List Line) → AllByRecursion IsStraight xs → AllByRecursion IsStraight ys → AllByRecursion IsStraight (xs ++ ys)
joined_straight [] ys h k = k
joined_straight (x ∷ xs) ys h k = (h.0, joined_straight xs ys h.1 k)

pub end_straight : (frame : ℕ) (t : Bool) → AllByRecursion IsStraight (if t then constant frame 1 ++ word (i.Addl 30 1 1) else word (i.Ldo (pos frame) 30 1))
end_straight frame true = joined_straight (constant frame 1) (word (i.Addl 30 1 1)) (constant_straight frame (is_near (cast_signed w32 frame))) (tt, tt)
end_straight frame false = (tt, tt)

same_core : (c d : Core) → Acts c ≡ Acts d → c ≡ d
same_core c d e = cc

module _ (known : Known) where
  -- ---- the end of the frame in register 1

  makes_then : (p : LineProgram) (w : Addresses) (xs ys : List Line) (v n : ℕ) (c : Core) (one : Makes p w (words_of xs) help v c)
      → Makes p w (words_of ys) help n one.core → Makes p w (words_of (xs ++ ys)) help n c
  makes_then p w xs ys v n c one two =
      let goes = lines_then known p w xs ys [] [] c one.core two.core (makes_go p w (words_of xs) help v c one) (makes_go p w (words_of ys) help n one.core two) in
      record {
        core = two.core;
        acts = goes.acts;
        puts = record {
          value = two.puts.value;
          others = λ r ne. two.puts.others r ne ∙ one.puts.others r ne;
          memory = two.puts.memory ∙ one.puts.memory;
          shift = two.puts.shift ∙ one.puts.shift;
          skip = two.puts.skip;
        };
        quiet = goes.notes;
      }

  frame_ends : (p : LineProgram) (w : Addresses) (frame sp : ℕ) (c : Core) → register c stack_pointer ≡ sp → sp + frame < 2 ^ 32 → c.skip ≡ false
      → Makes p w (words_of (frame_end frame)) help (sp + frame) c
  frame_ends p w frame sp c pointer small skip = by_test (nat_lt near_limit frame)
    where
      some : help ≢ 0
      some e = omega (arith, e)

      near : Makes p w (words_of (word (i.Ldo (pos frame) stack_pointer help))) help (sp + frame) c
      near = word_makes known p w (i.Ldo (pos frame) 30 1) 1 (sp + frame) c some skip
          (ap (λ v. Acts (with_register 1 v c)) (ap (λ x. offset_by x (pos frame)) pointer ∙ above_word sp frame small)) refl refl

      far : Makes p w (words_of (constant frame help ++ word (i.Addl stack_pointer help help))) help (sp + frame) c
      far =
          let one = known.constants p w frame help c (omega (arith, small)) some skip in
          let sum : (register one.core 30 + register one.core 1) % 2 ^ 32 ≡ sp + frame =
          ap (λ x. (x + register one.core 1) % 2 ^ 32) (one.puts.others 30 (λ e. omega (arith, e)) ∙ pointer)
          ∙ (ap (λ x. (sp + x) % 2 ^ 32) one.puts.value ∙ (let e : (sp + frame) % 2 ^ 32 ≡ sp + frame = omega (arith, small) in e)) in
          makes_then p w (constant frame help) (word (i.Addl stack_pointer help help)) frame (sp + frame) c one
          (word_makes known p w (i.Addl 30 1 1) 1 (sp + frame) one.core some one.puts.skip (ap (λ v. Acts (with_register 1 v one.core)) sum) refl refl)

      by_test : (t : Bool) → Makes p w (words_of (if t then constant frame help ++ word (i.Addl stack_pointer help help) else word (i.Ldo (pos frame) stack_pointer help))) help (sp + frame) c
      by_test true = far
      by_test false = near

  -- ---- up to the check

  abbrev ends : ℕ → List Line
  ends frame = address_of StackLimit 0 second ++ frame_end frame

  -- the limit and the end of the frame stand in their registers
  record IsAsked (p : LineProgram) (w : Addresses) (frame : ℕ) (c : Core) : Type 0 where
    pub core : Core
    pub goes : Goes p w (words_of (ends frame)) [] c core
    pub holds : IsOfWords c → IsOfWords core
    pub limit : register core second ≡ w.limit
    pub end : register core help ≡ register c stack_pointer + frame
    pub others : (r : ℕ) → r ≢ help → r ≢ second → register core r ≡ register c r
    pub memory : core.memory ≡ c.memory

  asked : (p : LineProgram) (w : Addresses) (frame : ℕ) (c : Core) → AreLawful p.flow w → c.skip ≡ false → register c stack_pointer + frame < 2 ^ 32 → IsAsked p w frame c
  asked p w frame c lawful skip small =
      let sp = register c stack_pointer in
      let memory = lawful.memory in
      let whole : (w.limit + 0) % 2 ^ 32 ≡ w.limit = omega (arith, memory) in
      let one = known.addresses p w StackLimit w.limit 0 second c refl (λ e. omega (arith, e)) skip in
      let pointer = one.puts.others stack_pointer (λ e. omega (arith, e)) in
      let two = frame_ends p w frame sp one.core pointer small one.puts.skip in
      record {
        core = two.core;
        goes = lines_then known p w (address_of StackLimit 0 second) (frame_end frame) [] [] c one.core two.core
            (makes_go p w (words_of (address_of StackLimit 0 second)) second ((w.limit + 0) % 2 ^ 32) c one)
            (makes_go p w (words_of (frame_end frame)) help (sp + frame) one.core two);
        holds = λ h.
            holds_made known p w (words_of (frame_end frame)) help (sp + frame) one.core
            (holds_made known p w (words_of (address_of StackLimit 0 second)) second ((w.limit + 0) % 2 ^ 32) c h (omega (arith, memory)) one) small two;
        limit = two.puts.others second (λ e. omega (arith, e)) ∙ (one.puts.value ∙ whole);
        end = two.puts.value;
        others = λ r ne other. two.puts.others r ne ∙ one.puts.others r other;
        memory = two.puts.memory ∙ one.puts.memory;
      }

  -- ---- the check

  abbrev compares : Word
  compares = bare (i.Comclr 5 false 1 21 0)

  abbrev breaks : Word
  breaks = bare (i.Break 0 4)

  compared : (w : Addresses) (d : Core) (t : Bool) → d.skip ≡ false → nat_le (register d 1) (register d 21) ≡ t
      → acts w (Some (i.Comclr 5 false 1 21 0)) d ≡ Acts (record d { skip = t })
  compared w d t skip e =
      ap (λ (s : Bool). if s then Acts (record d { skip = false }) else executed w (i.Comclr 5 false 1 21 0) d) skip ∙ ap (λ (t : Bool). Acts (record d { skip = t })) e

  -- the word behind it is passed over
  passes_check : (p : LineProgram) (w : Addresses) (d : Core) → d.skip ≡ false → nat_le (register d 1) (register d 21) ≡ true
      → Goes p w (compares ∷ breaks ∷ []) [] d (record d { skip = false })
  passes_check p w d skip e =
      let one = compared w d true skip e in
      record {
        acts = ap (λ (a : Act). act_then a (ran w (breaks ∷ []))) one;
        skip = refl;
        notes = λ log.
            ap (λ (a : Act). noted_by a (λ f. noted p w (breaks ∷ []) f (accesses p w (Some (i.Comclr 5 false 1 21 0)) d ++ log))) one
            ∙ ap (λ (l : List (Event ℕ ℕ)). l ++ log) (known.quiet p w (i.Comclr 5 false 1 21 0) d refl refl);
      }

  -- or not
  fails_check : (p : LineProgram) (w : Addresses) (d : Core) → d.skip ≡ false → nat_le (register d 1) (register d 21) ≡ false
      → Goes p w (compares ∷ []) [] d (record d { skip = false })
  fails_check p w d skip e =
      let one = compared w d false skip e in
      record {
        acts = ap (λ (a : Act). act_then a (ran w [])) one;
        skip = refl;
        notes = λ log.
            ap (λ (a : Act). noted_by a (λ f. noted p w [] f (accesses p w (Some (i.Comclr 5 false 1 21 0)) d ++ log))) one
            ∙ ap (λ (l : List (Event ℕ ℕ)). l ++ log) (known.quiet p w (i.Comclr 5 false 1 21 0) d refl refl);
      }

  -- ---- the return address and the stack pointer

  -- the near word by itself leaves every register
  link_core : (p : LineProgram) (w : Addresses) (sp : ℕ) (c : Core) (at : IsAt p w sp c) → 20 ≤ sp → (word : IsStackWord w (sp - 20))
      → (s : StoresWord p w (words_of (store_to (below 20) 2)) (sp - 20) (register c 2) c)
      → s.core ≡ record c { memory = with_number 4 (register c 2) (sp - 20) c.memory }
  link_core p w sp c at inside word s =
      let a : offset_by (register c 30) (below 20) ≡ sp - 20 = ap (λ x. offset_by x (below 20)) at.pointer ∙ below_word sp 20 inside at.small in
      let stored = record c { memory = with_number 4 (register c 2) (sp - 20) c.memory } in
      let opens = (stack_word_is p w (sp - 20) at.lawful word).opens in
      let does : acts w (Some (i.Stw 2 (below 20) 30)) c ≡ Acts stored =
      ap (λ (t : Bool). if t then Acts (record c { skip = false }) else executed w (i.Stw 2 (below 20) 30) c) at.skip
      ∙ (ap (λ a. if is_open w a 4 then Acts (record c { memory = with_number 4 (register c 2) a c.memory }) else Fails) a
      ∙ ap (λ (t : Bool). if t then Acts stored else Fails) opens) in
      same_core s.core stored (sym s.acts ∙ ap (λ (a : Act). act_then a (ran w [])) does)

  pub frame_entered : (p : LineProgram) (w : Addresses) (frame : ℕ) (c : Core) → AreLawful p.flow w → c.skip ≡ false → IsOfWords c
      → register c stack_pointer % 4 ≡ 0 → w.base ≤ register c stack_pointer → register c stack_pointer + frame ≤ w.limit → Enters p w frame c
  frame_entered p w frame c lawful skip holds aligned low fits =
      let sp = register c stack_pointer in
      let memory = lawful.memory in
      let above = lawful.stack_above in
      let small : sp + frame < 2 ^ 32 = omega (arith, memory, fits) in
      let inside : 20 ≤ sp = omega (arith, above, low) in
      let link : IsStackWord w (sp - 20) = record { aligned = omega (arith, aligned, inside); low = omega (arith, low, inside); high = omega (arith, fits, inside) } in
      let k = asked p w frame c lawful skip small in
      let passes : nat_le (register k.core 1) (register k.core 21) ≡ true =
      ap (λ x. nat_le x (register k.core 21)) k.end ∙ (ap (nat_le (sp + frame)) k.limit ∙ le-leb (sp + frame) w.limit fits) in
      let d : Core = record k.core { skip = false } in
      let holds_k = k.holds holds in
      let holds_d : IsOfWords d = record { memory = holds_k.memory; registers = holds_k.registers } in
      let at : IsAt p w sp d = record { lawful = lawful; small = omega (arith, small); pointer = k.others stack_pointer (λ e. omega (arith, e)) (λ e. omega (arith, e)); skip = refl } in
      let s = store_below known p w return_address 20 sp d at inside link (λ e. omega (arith, e)) in
      let holds_s = holds_stored known p w (words_of (store_to (below 20) return_address)) (sp - 20) (register d return_address) d holds_d s in
      let end : register s.core help ≡ sp + frame = ap (λ (e : Core). register e help) (link_core p w sp d at inside link s) ∙ k.end in
      let t = known.temporaries p w (Reg help) stack_pointer s.core (λ e. omega (arith, e)) s.skip tt in
      let words = words_of (copied help stack_pointer) in
      record {
        core = t.core;
        goes = lines_then known p w (ends frame) (Plain (i.Comclr 5 false 1 21 0) ∷ Plain (i.Break 0 4) ∷ Plain (i.Stw 2 (below 20) 30) ∷ copied 1 30) [] [] c k.core t.core k.goes
            (goes_then known p w (compares ∷ breaks ∷ []) (bare (i.Stw 2 (below 20) 30) ∷ words) [] [] k.core d t.core (passes_check p w k.core k.goes.skip passes)
            (goes_then known p w (bare (i.Stw 2 (below 20) 30) ∷ []) words [] [] d s.core t.core
            (stores_go p w (words_of (store_to (below 20) 2)) (sp - 20) (register d 2) d s)
            (loads_go p w words stack_pointer (register s.core help) s.core t)));
        holds = holds_loaded known p w words stack_pointer (register s.core help) s.core holds_s (subst (λ x. x < 2 ^ 32) (sym end) small) t;
        pointer = t.value ∙ end;
        others = λ r one two three. t.others r three one ∙ (s.others r one ∙ k.others r one two);
        memory = t.memory ∙ (s.memory
            ∙ (ap (λ x. with_number 4 x (sp - 20) k.core.memory) (k.others return_address (λ e. omega (arith, e)) (λ e. omega (arith, e)))
            ∙ ap (with_number 4 (register c return_address) (sp - 20)) k.memory));
      }

  -- ---- want of stack

  abbrev before_break : ℕ → List Line
  before_break frame = ends frame ++ (Plain (i.Comclr 5 false 1 21 0) ∷ [])

  before_straight : (frame : ℕ) → AllByRecursion IsStraight (before_break frame)
  before_straight frame =
      joined_straight (ends frame) (Plain (i.Comclr 5 false 1 21 0) ∷ [])
      (tt, (tt, end_straight frame (nat_lt near_limit frame))) (tt, tt)

  broken : (p : LineProgram) (w : Addresses) (scratch : ℕ → (ℕ → ℕ) → ℕ → ℕ) (rest : List Item) (d : Core) (m : Machine) → d.skip ≡ false
      → step p w scratch (left_behind (item.Plain breaks ∷ rest) (record m { core = d })) ≡ Stopped StackFull (left_behind rest (record m { core = d }))
  broken p w scratch rest d m skip =
      word_step p w scratch breaks rest (record m { core = d })
      ∙ ap (λ (t : Bool). went_on p w (Some (i.Break 0 4)) (if t then Acts (record d { skip = false }) else Full) (left_behind rest (record m { core = d }))) skip

  pub full_stops : (lines : StraightLinesAreWords) (p : LineProgram) (w : Addresses) (scratch : ℕ → (ℕ → ℕ) → ℕ → ℕ) (frame : ℕ) (rest : List Line) (m : Machine)
      → AreLawful p.flow w → m.core.skip ≡ false → w.limit < register m.core stack_pointer + frame → register m.core stack_pointer + frame < 2 ^ 32
      → m.frame.left ≡ slotted (entry_lines frame ++ rest) → StopsFull p w scratch m
  full_stops lines p w scratch frame rest m lawful skip full small left =
      let sp = register m.core stack_pointer in
      let k = asked p w frame m.core lawful skip small in
      let fails : nat_le (register k.core 1) (register k.core 21) ≡ false =
      ap (λ x. nat_le x (register k.core 21)) k.end ∙ (ap (nat_le (sp + frame)) k.limit ∙ lt-leb (sp + frame) w.limit full) in
      let d : Core = record k.core { skip = false } in
      let pre = before_break frame in
      let behind = Plain (i.Stw 2 (below 20) 30) ∷ copied 1 30 in
      let goes : Goes p w (words_of pre) [] m.core d =
      lines_then known p w (ends frame) (Plain (i.Comclr 5 false 1 21 0) ∷ []) [] [] m.core k.core d k.goes (fails_check p w k.core k.goes.skip fails) in
      let items = slotted (behind ++ rest) in
      let split : m.frame.left ≡ map item.Plain (words_of pre) ++ (item.Plain breaks ∷ items) =
      left ∙ (ap slotted (append_assoc (ends frame) (Plain (i.Comclr 5 false 1 21 0) ∷ Plain (i.Break 0 4) ∷ behind) rest
      ∙ sym (append_assoc (ends frame) (Plain (i.Comclr 5 false 1 21 0) ∷ []) (Plain (i.Break 0 4) ∷ (behind ++ rest))))
      ∙ lines pre (Plain (i.Break 0 4) ∷ (behind ++ rest)) (before_straight frame)) in
      let n = length (words_of pre) in
      let mid = behind_words p w (words_of pre) (item.Plain breaks ∷ items) d m in
      let there : steps p w scratch n (On m) ≡ On mid =
      ap (λ (is : List Item). steps p w scratch n (On (left_behind is m))) split ∙ known.run p w scratch (words_of pre) (item.Plain breaks ∷ items) d m goes.acts in
      let quiet : noted p w (words_of pre) m.core m.trace ≡ m.trace = goes.notes m.trace in
      let marked : Machine = record m { trace = noted p w (words_of pre) m.core m.trace } in
      let last : Machine = left_behind items (record marked { core = d }) in
      let stops : steps p w scratch (n + 1) (On m) ≡ Stopped StackFull last =
      steps_add p w scratch n 1 (On m) ∙ (ap (steps p w scratch 1) there ∙ (one_step p w scratch mid ∙ broken p w scratch items d marked refl)) in
      record {
        count = n + 1;
        last = last;
        is = stops;
        same = ap (λ (l : List (Event ℕ ℕ)). shown m l) quiet;
        amid = λ before inside k o some few goes.
            elim (cases_lt n k) [
              | inl high ↦
                  let one : n + 1 ≡ k = omega (arith, high, few) in
                  let never : Stopped StackFull last ≡ On o = sym stops ∙ (ap (λ j. steps p w scratch j (On m)) one ∙ goes) in
                  absurd cc
              | inr low ↦
                  amid_words p w scratch (words_of pre) before (item.Plain breaks ∷ items) m o k (inside ∙ ap (λ (is : List Item). before ++ is) split) some low
                  (ap (λ (is : List Item). steps p w scratch k (On (left_behind is m))) (sym split) ∙ goes)
            ];
      }
