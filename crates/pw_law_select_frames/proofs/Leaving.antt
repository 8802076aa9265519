-- The return address comes back, and the frame is left.
use Rattle.std.proofs.Common.{ℕ, suc, ◌≡◌, ◌≢◌, ◌+◌, ◌-◌, ◌*◌, ◌%◌, ◌^◌, ◌<◌, ◌≤◌, arith, refl, ap, ◌∙◌, Bool, true, false, if◌then◌else◌, nat_lt, List, [], ◌∷◌, ◌++◌}
use Rattle.std.specs.List.{AllByRecursion}
use Rattle.std.proofs.lemmas.Bool.{ne_eqb}
use Rattle.pw_inst.specs.Computing.{offset_by}
use Rattle.pw_inst.specs.Limits.{near_least}
use Rattle.pw_inst.specs.Registers.{help, return_address, stack_pointer}
use Rattle.pw_inst.specs.declared.Inst.TheVariants as i
use Rattle.pw_inst.specs.declared.line.Line.{Line}
use Rattle.pw_alloc.specs.declared.located.Located.{Located}
use Rattle.pw_alloc.specs.Frames.{link_place, head_size, below}
use Rattle.pw_select_lines.specs.Registers.{word, constant, load_from}
use Rattle.pw_select.specs.Selection.{saved_lines, frame_left}
use Rattle.pw_run_languages.specs.Addresses.{Addresses, AreLawful}
use Rattle.pw_run_languages.specs.Acts.{Core, Acts, register, put, with_register, number_at}
use Rattle.pw_run_languages.specs.LineRun.{LineProgram}
use Rattle.pw_run_languages.specs.Serving.{IsTempRegister}
use Rattle.pw_run_languages.specs.Standing.{given_back}
use Rattle.pw_law_select_rows.specs.Straight.{words_of}
use Rattle.pw_law_select_frames.specs.Going.{Goes}
use Rattle.pw_law_select_frames.specs.Stack.{IsStackWord, IsTop}
use Rattle.pw_law_select_frames.specs.Saving.{MaySave}
use Rattle.pw_law_select_frames.specs.Leaving.{Leaves}
use Rattle.pw_law_select_frames.proofs.Known.{Known}
use Rattle.pw_law_select_frames.proofs.Going.{loads_go, makes_go, lines_then, word_makes}
use Rattle.pw_law_select_frames.proofs.Stack.{below_word, top_small}
use Rattle.pw_law_select_frames.proofs.Frame.{IsAt, load_below, holds_loaded, holds_put, at_loaded}
use Rattle.pw_law_select_frames.proofs.Saving.{registers_restored}

-- the stack pointer goes down over the frame, over no register but that of addresses
record Lowers (p : LineProgram) (w : Addresses) (lines : List Line) (frame sp : ℕ) (c : Core) : Type 0 where
  pub core : Core
  pub goes : Goes p w (words_of lines) [] c core
  pub pointer : register core stack_pointer ≡ sp - frame
  pub others : (r : ℕ) → r ≢ help → r ≢ stack_pointer → register core r ≡ register c r
  pub memory : core.memory ≡ c.memory

module _ (known : Known) where
  some : stack_pointer ≢ 0
  some e = omega (arith, e)

  difference : (sp n : ℕ) → n ≤ sp → sp < 2 ^ 32 → (sp + (2 ^ 32 - n)) % 2 ^ 32 ≡ sp - n
  difference sp n low small = omega (arith, low, small)

  lowered : (p : LineProgram) (w : Addresses) (frame sp : ℕ) (c : Core) → IsAt p w sp c → frame ≤ sp → Lowers p w (frame_left frame) frame sp c
  lowered p w frame sp c at inside = by_test (nat_lt near_least frame)
    where
      near : Lowers p w (word (i.Ldo (below frame) stack_pointer stack_pointer)) frame sp c
      near =
          let m = word_makes known p w (i.Ldo (below frame) 30 30) 30 (sp - frame) c some at.skip
          (ap (λ v. Acts (with_register 30 v c)) (ap (λ x. offset_by x (below frame)) at.pointer ∙ below_word sp frame inside at.small)) refl refl in
          record {
            core = m.core;
            goes = makes_go p w (words_of (word (i.Ldo (below frame) 30 30))) 30 (sp - frame) c m;
            pointer = m.puts.value;
            others = λ r one two. m.puts.others r two;
            memory = m.puts.memory;
          }

      far : Lowers p w (constant frame help ++ word (i.Sub stack_pointer help stack_pointer)) frame sp c
      far =
          let small = at.small in
          let one = known.constants p w frame help c (omega (arith, small, inside)) (λ e. omega (arith, e)) at.skip in
          let minus : (register one.core 30 + (2 ^ 32 - register one.core 1)) % 2 ^ 32 ≡ sp - frame =
          ap (λ x. (x + (2 ^ 32 - register one.core 1)) % 2 ^ 32) (one.puts.others 30 (λ e. omega (arith, e)) ∙ at.pointer)
          ∙ (ap (λ x. (sp + (2 ^ 32 - x)) % 2 ^ 32) one.puts.value ∙ difference sp frame inside at.small) in
          let two = word_makes known p w (i.Sub 30 1 30) 30 (sp - frame) one.core some one.puts.skip (ap (λ v. Acts (with_register 30 v one.core)) minus) refl refl in
          record {
            core = two.core;
            goes = lines_then known p w (constant frame help) (word (i.Sub 30 1 30)) [] [] c one.core two.core
                (makes_go p w (words_of (constant frame help)) help frame c one)
                (makes_go p w (words_of (word (i.Sub 30 1 30))) 30 (sp - frame) one.core two);
            pointer = two.puts.value;
            others = λ r ne other. two.puts.others r other ∙ one.puts.others r ne;
            memory = two.puts.memory ∙ one.puts.memory;
          }

      by_test : (t : Bool) → Lowers p w (if t then constant frame help ++ word (i.Sub stack_pointer help stack_pointer) else word (i.Ldo (below frame) stack_pointer stack_pointer)) frame sp c
      by_test true = far
      by_test false = near

  link_is_stack : (p : LineProgram) (w : Addresses) (sp frame : ℕ) → AreLawful p.flow w → IsTop w sp frame → frame % 4 ≡ 0 → IsStackWord w (sp - (frame + link_place))
  link_is_stack p w sp frame lawful top even =
      let aligned = top.aligned in
      let low = top.low in
      let high = top.high in
      let above = lawful.stack_above in
      record {
        aligned = omega (arith, aligned, low, even, above);
        low = omega (arith, low, above);
        high = omega (arith, low, high, above);
      }

  pub frame_left_behind : (p : LineProgram) (w : Addresses) (f : Located) (c : Core) → MaySave p w (head_size f.body) f.saved c
      → IsTop w (register c stack_pointer) f.frame → f.frame % 4 ≡ 0 → Leaves p w f c
  frame_left_behind p w f c may top even =
      let sp = register c stack_pointer in
      let low = top.low in
      let above = may.lawful.stack_above in
      let back = registers_restored known p w (head_size f.body) f.saved c may in
      let pointer : register back.core stack_pointer ≡ sp = pointer_stays c back.core back.registers in
      let at : IsAt p w sp back.core = record { lawful = may.lawful; small = top_small p w sp f.frame may.lawful top; pointer = pointer; skip = back.goes.skip } in
      let n = f.frame + link_place in
      let v = number_at 4 back.core.memory (sp - n) in
      let small : v < 2 ^ 32 = known.bounded 4 (sp - n) back.core.memory back.holds.memory in
      let load = load_from (below n) return_address in
      let l = load_below known p w return_address n sp back.core at (omega (arith, low, above)) (link_is_stack p w sp f.frame may.lawful top even) (λ e. omega (arith, e)) in
      let at_l = at_loaded known p w sp (words_of load) return_address v back.core at (λ e. omega (arith, e)) l in
      let holds_l = holds_loaded known p w (words_of load) return_address v back.core back.holds small l in
      let d = lowered p w f.frame sp l.core at_l (omega (arith, low)) in
      let lower : sp - f.frame < 2 ^ 32 = let small = at.small in omega (arith, small) in
      record {
        core = d.core;
        goes = lines_then known p w (saved_lines load_from (head_size f.body) 0 f.saved ++ load) (frame_left f.frame) [] [] c l.core d.core
            (lines_then known p w (saved_lines load_from (head_size f.body) 0 f.saved) load [] [] c back.core l.core back.goes
            (loads_go p w (words_of load) return_address v back.core l)) d.goes;
        holds = holds_put known stack_pointer (sp - f.frame) l.core d.core holds_l lower d.pointer (λ r ne other. d.others r other ne) d.memory;
        link = d.others return_address (λ e. omega (arith, e)) (λ e. omega (arith, e)) ∙ (l.value ∙ ap (λ (f : ℕ → ℕ). number_at 4 f (sp - n)) back.memory);
        pointer = d.pointer;
        registers = λ r some help link top. d.others r help top ∙ (l.others r link help ∙ back.registers r some help);
        memory = d.memory ∙ (l.memory ∙ back.memory);
      }
    where
      -- a saved register is none of these
      kept : (memory : ℕ → ℕ) (top k : ℕ) (saved : List ℕ) (g : ℕ → ℕ) → AllByRecursion IsTempRegister saved → given_back memory top k saved g stack_pointer ≡ g stack_pointer
      kept memory top k [] g h = refl
      kept memory top k (r ∷ rest) g h =
          let is = h.0 in
          let most = is.high in
          kept memory top (suc k) rest (put r (number_at 4 memory (top - 4 * (k + 1))) g) h.1
          ∙ ap (λ (t : Bool). if t then number_at 4 memory (top - 4 * (k + 1)) else g stack_pointer) (ne_eqb stack_pointer r (λ e. omega (arith, e, most)))

      pointer_stays : (c d : Core) → ((r : ℕ) → r ≢ 0 → r ≢ help → register d r ≡ given_back c.memory (register c stack_pointer - head_size f.body) 0 f.saved c.registers r)
          → register d stack_pointer ≡ register c stack_pointer
      pointer_stays c d h =
          h stack_pointer (λ e. omega (arith, e)) (λ e. omega (arith, e))
          ∙ kept c.memory (register c stack_pointer - head_size f.body) 0 f.saved c.registers may.registers
