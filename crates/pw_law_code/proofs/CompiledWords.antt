-- The words of functions with places have 32 bits; so the objects of a program have lawful parts.
use Rattle.std.proofs.Common.{◌≡◌, ℕ, suc, zero, pos, ℤ, ◌+◌, ◌^◌, ◌<◌, ◌≤◌, Bool, true, false, if◌then◌else◌, Option, None, Some, List, [], ◌∷◌, ◌++◌, map, refl, sym, ap, subst, ◌∙◌, arith}
use Rattle.std.specs.Prelude.{Contains}
use Rattle.std.specs.List.{AllByRecursion, flat_map}
use Rattle.std.specs.Str.{bytes_eq}
use Rattle.pw_value.specs.ProgramNames.{start_name}
use Rattle.pw_value.specs.Limits.{stack_limit}
use Rattle.pw_fields.specs.Fields.{FitsU32}
use Rattle.pw_flow.specs.declared.flow.FlowFn.{FlowFn}
use Rattle.pw_flow.specs.declared.flow.FlowModule.{FlowModule}
use Rattle.pw_flow.specs.ValidFlow.{IsValid, IsGlobal, IsFunction}
use Rattle.pw_db.specs.declared.database.Directives.{Directives}
use Rattle.pw_db.specs.Database.{IsDirectives}
use Rattle.pw_inst.specs.declared.Inst.{Inst}
use Rattle.pw_inst.specs.declared.Inst.TheVariants.{Ldb, Ldh, Ldw, Ldo, Stb, Sth, Stw, Ldil, And, Or, Xor, Sub, Addl, Vshd, Mtctl, Comclr, Subi, Extru, Extrs, Zdep, Combt, Combf, Bl, Bv, Ble, Break}
use Rattle.pw_inst.specs.InstructionTable.{memory_word, three_register_word, extract_word, deposit_word, long_immediate_word, compare_word, branch_word, word_of, nop, IsInRange, IsRegister}
use Rattle.pw_inst.specs.declared.line.Line.{Line}
use Rattle.pw_alloc.specs.declared.located.Located.{Located}
use Rattle.pw_select.specs.Selection.{selected}
use Rattle.pw_delay.specs.declared.items.Word.{Word}
use Rattle.pw_delay.specs.declared.items.Turn.{Turn}
use Rattle.pw_delay.specs.declared.items.Turn.TheVariants.{Back, Goto, If, CallTo, CallReg, Leave}
use Rattle.pw_delay.specs.declared.items.Item.{Item}
use Rattle.pw_delay.specs.declared.items.Item.TheVariants.{Plain, Turns, Mark}
use Rattle.pw_delay.specs.Placement.{size, displacement, in_slot, turn_words, item_words, words_from, mark_at, laid, placed}
use Rattle.pw_object.specs.declared.object.Object.{Object}
use Rattle.pw_object.specs.declared.functions.ObjectFn.{ObjectFn}
use Rattle.pw_link.specs.Linking.{size_fault}
use Rattle.pw_law_link.specs.Parts.{HasWordsOf32Bits, AreLawfulParts}
use Rattle.pw_law_link.proofs.Kept.{all_append, all_by, all_flat}
use Rattle.pw_run_languages.specs.Programs.{Program, functions_of, globals_of}
use Rattle.pw_run_languages.specs.LawfulPrograms.{IsProgram}
use Rattle.pw_run_languages.specs.Direction.{directives_of, directed_by, directed_functions}
use Rattle.pw_run_languages.specs.Serving.{AllServe}
use Rattle.pw_run_languages.specs.LinkingLaws.{compiled, AreObjectsOf}
use Rattle.pw_run_languages.specs.CodeStands.{IsReady}
use Rattle.pw_run_languages.specs.SelectionLaws.{arranged}
use Rattle.pw_law_code.proofs.ReadyItems.{IsReadyWord, IsReadySlot, IsReadyTurn, IsReadyItem, arranged_ready}
use Rattle.pw_law_code.proofs.ServedLines.{served_ready}
use Rattle.pw_law_code.proofs.Addresses.{served_names}

-- ---- instructions whose fields are in range

memory_fits : (op b r : ℕ) (im : ℤ) → op < 64 → b < 32 → r < 32 → FitsU32 (memory_word op b r im)
memory_fits op b r im code base other = omega (arith, code, base, other)

three_fits : (ext c : ℕ) (f : Bool) (r1 r2 t : ℕ) → ext < 128 → c < 8 → r1 < 32 → r2 < 32 → t < 32 → FitsU32 (three_register_word ext c f r1 r2 t)
three_fits ext c true r1 r2 t small condition one two target = omega (arith, small, condition, one, two, target)
three_fits ext c false r1 r2 t small condition one two target = omega (arith, small, condition, one, two, target)

-- whatever the displacement
compare_fits : (op c r1 r2 : ℕ) (disp : ℤ) → op < 64 → c < 8 → r1 < 32 → r2 < 32 → FitsU32 (compare_word op c r1 r2 disp)
compare_fits op c r1 r2 disp code condition one two = omega (arith, code, condition, one, two)

branch_fits : (disp : ℤ) (t : ℕ) (n : Bool) → t < 32 → FitsU32 (branch_word disp t n)
branch_fits disp t true target = omega (arith, target)
branch_fits disp t false target = omega (arith, target)

bv_fits : (b : ℕ) (n : Bool) → b < 32 → FitsU32 (word_of (Bv b n))
unfolding word_of
bv_fits b true small = omega (arith, small)
bv_fits b false small = omega (arith, small)

ble_fits : (b : ℕ) (n : Bool) → b < 32 → FitsU32 (word_of (Ble b n))
unfolding word_of
ble_fits b true small = omega (arith, small)
ble_fits b false small = omega (arith, small)

word_fits : (x : Inst) → IsInRange x → FitsU32 (word_of x)
unfolding word_of IsInRange
word_fits (Ldb im b t) h = memory_fits 0x10 b t im (omega arith) h.1 h.2
word_fits (Ldh im b t) h = memory_fits 0x11 b t im (omega arith) h.1 h.2
word_fits (Ldw im b t) h = memory_fits 0x12 b t im (omega arith) h.1 h.2
word_fits (Ldo im b t) h = memory_fits 0x0D b t im (omega arith) h.1 h.2
word_fits (Stb r im b) h = memory_fits 0x18 b r im (omega arith) h.1 h.2
word_fits (Sth r im b) h = memory_fits 0x19 b r im (omega arith) h.1 h.2
word_fits (Stw r im b) h = memory_fits 0x1A b r im (omega arith) h.1 h.2
word_fits (Ldil im t) h = omega (arith, h.1)
word_fits (And r1 r2 t) h = three_fits 0x10 0 false r1 r2 t (omega arith) (omega arith) h.0 h.1 h.2
word_fits (Or r1 r2 t) h = three_fits 0x12 0 false r1 r2 t (omega arith) (omega arith) h.0 h.1 h.2
word_fits (Xor r1 r2 t) h = three_fits 0x14 0 false r1 r2 t (omega arith) (omega arith) h.0 h.1 h.2
word_fits (Sub r1 r2 t) h = three_fits 0x20 0 false r1 r2 t (omega arith) (omega arith) h.0 h.1 h.2
word_fits (Addl r1 r2 t) h = three_fits 0x50 0 false r1 r2 t (omega arith) (omega arith) h.0 h.1 h.2
word_fits (Vshd r1 r2 t) h = omega (arith, h.0, h.1, h.2)
word_fits (Mtctl r) h = omega (arith, h)
word_fits (Comclr c f r1 r2 t) h = three_fits 0x44 c f r1 r2 t (omega arith) (omega (arith, h.0)) h.1 h.2 h.3
word_fits (Subi im r t) h = omega (arith, h.1, h.2)
word_fits (Extru r p len t) h = omega (arith, h.0.0, h.0.1, h.1, h.2)
word_fits (Extrs r p len t) h = omega (arith, h.0.0, h.0.1, h.1, h.2)
word_fits (Zdep r p len t) h = omega (arith, h.0.0, h.0.1, h.1, h.2)
word_fits (Combt c r1 r2 disp) h = compare_fits 0x20 c r1 r2 disp (omega arith) (omega (arith, h.0)) h.1 h.2
word_fits (Combf c r1 r2 disp) h = compare_fits 0x22 c r1 r2 disp (omega arith) (omega (arith, h.0)) h.1 h.2
word_fits (Bl disp t n) h = branch_fits disp t n h.1
word_fits (Bv b n) h = bv_fits b n h
word_fits (Ble b n) h = ble_fits b n h
word_fits (Break im5 im13) h = omega (arith, h.0, h.1)

-- ---- items

abbrev HasFittingWord : Word → Type 0
HasFittingWord w = FitsU32 (word_of w.inst)

nop_fits : FitsU32 (word_of nop)
unfolding word_of
nop_fits = omega arith

slot_fits : (slot : Option Word) → IsReadySlot slot → HasFittingWord (in_slot slot)
slot_fits None ready = nop_fits
slot_fits (Some w) ready = word_fits w.inst ready.range

test_fits : (r : ℕ) (disp : ℤ) → r < 32 → FitsU32 (word_of (Combf 1 r 0 disp))
unfolding word_of
test_fits r disp small = compare_fits 0x22 1 r 0 disp (omega arith) (omega arith) small (omega arith)

long_test_fits : (r : ℕ) → r < 32 → FitsU32 (word_of (Combt 1 r 0 (pos 2)))
unfolding word_of
long_test_fits r small = compare_fits 0x20 1 r 0 (pos 2) (omega arith) (omega arith) small (omega arith)

jump_fits : (link : ℕ) → link < 32 → FitsU32 (word_of (Bl (pos 0) link false))
unfolding word_of
jump_fits link small = branch_fits (pos 0) link false small

turn_fits : (long : Bool) (begins : ℕ → ℕ) (at : ℕ) (turn : Turn) (slot : Option Word) → IsReadyTurn turn → IsReadySlot slot → AllByRecursion HasFittingWord (turn_words long begins at turn slot)
turn_fits long begins at (Back branch) slot ready filled = (word_fits branch ready, (slot_fits slot filled, tt))
turn_fits long begins at (Goto b) slot ready filled = (jump_fits 0 (omega arith), (slot_fits slot filled, tt))
turn_fits false begins at (If r b) slot ready filled = (test_fits r (displacement at (begins b)) ready, (slot_fits slot filled, tt))
turn_fits true begins at (If r b) slot ready filled = (long_test_fits r ready, (slot_fits slot filled, (jump_fits 0 (omega arith), (nop_fits, tt))))
turn_fits long begins at (CallTo s link) slot ready filled = (jump_fits link ready.0, (slot_fits slot filled, tt))
turn_fits long begins at CallReg slot ready filled = (ble_fits 22 false (omega arith), (slot_fits slot filled, tt))
turn_fits long begins at Leave None ready filled = (bv_fits 2 true (omega arith), tt)
turn_fits long begins at Leave (Some w) ready filled = (bv_fits 2 false (omega arith), (slot_fits (Some w) filled, tt))

item_fits : (long : Bool) (begins : ℕ → ℕ) (at : ℕ) (item : Item) → IsReadyItem item → AllByRecursion HasFittingWord (item_words long begins at item)
item_fits long begins at (Plain w) ready = (word_fits w.inst ready.range, tt)
item_fits long begins at (Turns turn slot) ready = turn_fits long begins at turn slot ready.0 ready.1
item_fits long begins at (Mark b) ready = tt

items_fit : (long : Bool) (begins : ℕ → ℕ) (at : ℕ) (items : List Item) → AllByRecursion IsReadyItem items → AllByRecursion HasFittingWord (words_from long begins at items)
items_fit long begins at [] ready = tt
items_fit long begins at (item ∷ rest) ready =
    all_append HasFittingWord (item_words long begins at item) (words_from long begins (at + size long item) rest)
    (item_fits long begins at item ready.0) (items_fit long begins (at + size long item) rest ready.1)

numbers_fit : (ws : List Word) → AllByRecursion HasFittingWord ws → AllByRecursion FitsU32 (map (λ w. word_of w.inst) ws)
numbers_fit [] all = tt
numbers_fit (w ∷ ws) all = (all.0, numbers_fit ws all.1)

laid_fits : (long : Bool) (items : List Item) → AllByRecursion IsReadyItem items → AllByRecursion FitsU32 (laid long items).words
unfolding laid
laid_fits long items ready =
    numbers_fit (words_from long (mark_at long 0 items) 0 items) (items_fit long (mark_at long 0 items) 0 items ready)

pub placed_fits : (lines : List Line) → AllByRecursion IsReady lines → AllByRecursion FitsU32 (placed lines).words
unfolding placed
placed_fits lines ready = laid_fits _ (arranged lines) (arranged_ready lines ready)

-- ---- the functions of a program

chosen : (b : Bool) (x y : Directives) → IsDirectives x → IsDirectives y → IsDirectives (if b then x else y)
chosen true x y h k = h
chosen false x y h k = k

-- the directives of each function are lawful
pub are_directives : (d : List (List ℕ × Directives)) → AllByRecursion (λ f. IsDirectives f.1) d → (name : List ℕ) → IsDirectives (directives_of d name)
are_directives [] all name = record { each = tt; numbers = tt; globals = tt; registers = tt; free = tt; saves = tt; apart = tt }
are_directives (g ∷ rest) all name = chosen (bytes_eq g.0 name) g.1 (directives_of rest name) all.0 (are_directives rest all.1 name)

compiled_fit : (d : List (List ℕ × Directives)) → AllByRecursion (λ f. IsDirectives f.1) d → (fs : List FlowFn) (ls : List Located)
    → AllByRecursion IsFunction fs → AllServe (map (directed_by d) fs) ls → AllByRecursion HasWordsOf32Bits (map compiled ls)
compiled_fit d each [] [] all serve = tt
compiled_fit d each [] (l ∷ ls) all serve = absurd serve
compiled_fit d each (f ∷ fs) [] all serve = absurd serve
compiled_fit d each (f ∷ fs) (l ∷ ls) all serve = (
  placed_fits (selected l) (served_ready f (directives_of d f.name) l all.0 (are_directives d each f.name) serve.0).each,
  compiled_fit d each fs ls all.1 serve.1,
)

compiled_names : (ls : List Located) → map (λ f. f.name) (map compiled ls) ≡ map (λ l. l.body.name) ls
compiled_names [] = refl
compiled_names (l ∷ ls) = ap (λ (names : List (List ℕ)). l.body.name ∷ names) (compiled_names ls)

pub programs_have_parts : (p : Program) (d : List (List ℕ × Directives)) (functions : List Located) (objects : List Object)
    → IsProgram p → AllByRecursion (λ f. IsDirectives f.1) d → AllServe (directed_functions p d) functions → AreObjectsOf p functions objects → size_fault objects p.stack ≡ None
    → AreLawfulParts objects p.stack
programs_have_parts p d functions objects is lawful serve of fits =
    let fs = all_flat IsFunction (λ (m : FlowModule). m.functions) p.modules
    (all_by IsValid (λ m. AllByRecursion IsFunction m.functions) p.modules (λ m valid. valid.parts.functions) is.modules) in
    let gs = all_flat IsGlobal (λ (m : FlowModule). m.globals) p.modules
    (all_by IsValid (λ m. AllByRecursion IsGlobal m.globals) p.modules (λ m valid. valid.parts.globals) is.modules) in
    let names : map (λ (f : ObjectFn). f.name) (map compiled functions) ≡ map (λ (f : FlowFn). f.name) (functions_of p) =
    compiled_names functions ∙ served_names d (functions_of p) functions serve in
    let enough = is.stack in
    record {
      words = subst (AllByRecursion HasWordsOf32Bits) (sym of.code) (compiled_fit d lawful (functions_of p) functions fs serve);
      globals = subst (AllByRecursion IsGlobal) (sym of.globals) gs;
      start = subst (λ (own : List ObjectFn). Contains (map (λ f. f.name) own) start_name) (sym of.code)
          (subst (λ (all : List (List ℕ)). Contains all start_name) (sym names) is.start);
      fits = fits;
      small = omega (arith, enough);
    }
