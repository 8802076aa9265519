-- The lines that selection gives: each takes what is to go into it, names no word, and holds no branch that a linker
-- would have to fill in; blocks begin one after another.
use Rattle.std.proofs.Common.{◌≡◌, ◌≢◌, ℕ, ◌+◌, ◌<◌, ℤ, None, Some, List, [], ◌∷◌, ◌++◌, refl, sym, ap, subst, ◌∙◌, arith}
use Rattle.std.specs.List.{AllByRecursion, flat_map}
use Rattle.pw_inst.specs.declared.Inst.{Inst}
use Rattle.pw_inst.specs.declared.Inst.TheVariants as i
use Rattle.pw_inst.specs.declared.line.Line.{Line}
use Rattle.pw_inst.specs.declared.line.Line.TheVariants.{Plain, Fixed, Jump, BranchNonZero, Label, CallTo, CallReg, Leave}
use Rattle.pw_inst.specs.declared.relocation.FixKind.{FixKind}
use Rattle.pw_inst.specs.declared.relocation.FixKind.TheVariants as kind
use Rattle.pw_inst.specs.declared.relocation.Symbol.{Symbol}
use Rattle.pw_inst.specs.declared.relocation.Symbol.TheVariants.{Named, Word, StackLimit, Routine}
use Rattle.pw_webflow.specs.declared.web.WebBlock.{WebBlock}
use Rattle.pw_alloc.specs.declared.located.Located.{Located}
use Rattle.pw_alloc.specs.ValidPlaces.{IsLocated}
use Rattle.pw_delay.specs.Branches.{IsSent, HasNoCall}
use Rattle.pw_delay.specs.Lines.{IsLine, AreLines}
use Rattle.pw_select_lines.specs.Operations.{layout, web_op_lines}
use Rattle.pw_select.specs.Selection.{slot_offsets, prologue, end_lines, block_lines, blocks_lines, selected}
use Rattle.pw_select.proofs.PlaceableFn.{lawful_lines}
use Rattle.pw_law_select_walk.specs.Rows.{TakesAddress, IsAddressed, IsAlone, IsRow, KnowsBlock, KnowsWeb}
use Rattle.pw_law_select_walk.proofs.EachLine.{Anything, AreRows, anything, prologue_rows, block_rows, each_selected}
use Rattle.pw_run_languages.specs.Acts.{with_address}
use Rattle.pw_run_languages.specs.CodeStands.{IsOfProgram, IsReady, labels, AreApart, AreReady}

is_some : (x : Inst) → Some x ≢ None
is_some x e = absurd cc

takes_some : (k : FixKind) (x : Inst) → TakesAddress k x → with_address k 0 x ≢ None
takes_some kind.Ldil (i.Ldil im t) h = is_some _
takes_some kind.Im14 (i.Ldb im b t) h = is_some _
takes_some kind.Im14 (i.Ldh im b t) h = is_some _
takes_some kind.Im14 (i.Ldw im b t) h = is_some _
takes_some kind.Im14 (i.Ldo im b t) h = is_some _
takes_some kind.Im14 (i.Stb r im b) h = is_some _
takes_some kind.Im14 (i.Sth r im b) h = is_some _
takes_some kind.Im14 (i.Stw r im b) h = is_some _
takes_some k x h = absurd h

addressed_of : (s : Symbol) → IsAddressed Anything s → IsOfProgram s
addressed_of (Word k) h = absurd h
addressed_of s h = tt

-- ---- no call without its relocation

fixed_no_call : (x : Inst) (k : FixKind) (s : Symbol) (n : ℕ) → TakesAddress k x → HasNoCall (Fixed x k s n)
fixed_no_call (i.Bl disp t n) kind.Ldil s a takes = absurd takes
fixed_no_call (i.Bl disp t n) kind.Im14 s a takes = absurd takes
fixed_no_call (i.Bl disp t n) kind.Bl s a takes = absurd takes
fixed_no_call x k s n takes = tt

alone_sent : (x : Inst) → IsAlone x → IsSent x None
alone_sent (i.Combf c r1 r2 disp) h = tt
alone_sent x h = h

row_no_call : (l : Line) → IsRow Anything Anything l → HasNoCall l
row_no_call (Plain x) h = alone_sent x h
row_no_call (Fixed x k s n) h = fixed_no_call x k s n h.0
row_no_call l h = tt

pub selected_no_call : (f : Located) → AllByRecursion HasNoCall (selected f)
selected_no_call f = each_selected Anything Anything HasNoCall row_no_call (λ (b : ℕ). tt) f (anything f)

-- ---- ready for words

row_ready : (l : Line) → IsRow Anything Anything l → IsLine l → IsReady l
row_ready (Plain x) h l = l
row_ready (Fixed x k s n) h l = (l, takes_some k x h.0, addressed_of s h.1)
row_ready (Jump b) h l = tt
row_ready (BranchNonZero r b) h l = l
row_ready (Label b) h l = tt
row_ready (CallTo (Named f) r) h l = (l, tt)
row_ready (CallTo (Routine k) r) h l = (l, tt)
row_ready (CallTo (Word k) r) h l = absurd h
row_ready (CallTo StackLimit r) h l = absurd h
row_ready CallReg h l = tt
row_ready Leave h l = tt

-- a line that is placed is ready
abbrev IsReadyLine : Line → Type 0
IsReadyLine l = IsLine l → IsReady l

lines_ready : (lines : List Line) → AllByRecursion IsReadyLine lines → AreLines lines → AllByRecursion IsReady lines
lines_ready [] h l = tt
lines_ready (x ∷ rest) h l = (h.0 l.0, lines_ready rest h.1 l.1)

-- ---- where blocks begin

inside_labels : (xs ys : List Line) → AreRows Anything Anything xs → labels (xs ++ ys) ≡ labels ys
inside_labels [] ys h = refl
inside_labels (Plain x ∷ xs) ys h = inside_labels xs ys h.1
inside_labels (Fixed x k s n ∷ xs) ys h = inside_labels xs ys h.1
inside_labels (Jump b ∷ xs) ys h = inside_labels xs ys h.1
inside_labels (BranchNonZero r b ∷ xs) ys h = inside_labels xs ys h.1
inside_labels (Label b ∷ xs) ys h = absurd h.0
inside_labels (CallTo s r ∷ xs) ys h = inside_labels xs ys h.1
inside_labels (CallReg ∷ xs) ys h = inside_labels xs ys h.1
inside_labels (Leave ∷ xs) ys h = inside_labels xs ys h.1

-- so many numbers from one on
numbers : ℕ → List WebBlock → List ℕ
numbers n [] = []
numbers n (b ∷ rest) = n ∷ numbers (n + 1) rest

block_labels : (f : Located) (slots : List ℤ) → AllByRecursion (KnowsWeb Anything) f.body.directives.webs → (n : ℕ) (blocks : List WebBlock) → AllByRecursion (KnowsBlock Anything Anything) blocks
    → labels (blocks_lines f slots n blocks) ≡ numbers n blocks
unfolding numbers
block_labels f slots webs n [] own_names = refl
block_labels f slots webs n (b ∷ rest) own_names =
    let own = flat_map (web_op_lines (layout f.places slots)) b.ops ++ end_lines f b.end in
    ap (λ (bs : List ℕ). n ∷ bs) (inside_labels own (blocks_lines f slots (n + 1) rest) (block_rows Anything Anything f slots webs b own_names.0) ∙ block_labels f slots webs (n + 1) rest own_names.1)

numbers_above : (n m : ℕ) (blocks : List WebBlock) → n < m → AllByRecursion (λ c. n ≢ c) (numbers m blocks)
unfolding numbers
numbers_above n m [] h = tt
numbers_above n m (b ∷ rest) h = ((λ e. omega (arith, e, h)), numbers_above n (m + 1) rest (omega arith))

numbers_apart : (n : ℕ) (blocks : List WebBlock) → AreApart (numbers n blocks)
unfolding numbers
numbers_apart n [] = tt
numbers_apart n (b ∷ rest) = (numbers_above n (n + 1) rest (omega arith), numbers_apart (n + 1) rest)

selected_apart : (f : Located) → labels (selected f) ≡ numbers 0 f.body.blocks
unfolding selected
selected_apart f =
    let known = anything f in
    inside_labels (prologue f) (blocks_lines f (slot_offsets f) 0 f.body.blocks) (prologue_rows Anything Anything f known.webs)
    ∙ block_labels f (slot_offsets f) known.webs 0 f.body.blocks known.blocks

pub ready_by : (f : Located) → AreLines (selected f) → AreReady (selected f)
ready_by f lines =
    record {
      each = lines_ready (selected f) (each_selected Anything Anything IsReadyLine row_ready (λ (b : ℕ) l. tt) f (anything f)) lines;
      labels = subst AreApart (sym (selected_apart f)) (numbers_apart 0 f.body.blocks);
    }

pub selected_ready : (f : Located) → IsLocated f → AreReady (selected f)
selected_ready f h = ready_by f (lawful_lines f h)
