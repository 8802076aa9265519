-- How the items of a selected function begin and end, and what its frame holds.
use Rattle.std.specs.Prelude.{ℕ, ℤ, ◌≡◌, ◌≢◌, ◌+◌, ◌*◌, ◌/◌, ◌≤◌, ◌&&◌, not, Bool, true, false, if◌then◌else◌, Option, Some, None, List, [], ◌∷◌, ◌++◌, length}
use Rattle.std.specs.List.{flat_map}
use Rattle.std.proofs.Common.{arith, subst, sym, refl, ◌∙◌, append-nil}
use Rattle.pw_flow.specs.declared.flow.End.{End}
use Rattle.pw_flow.specs.declared.flow.End.TheVariants as end
use Rattle.pw_inst.specs.declared.line.Line.{Line}
use Rattle.pw_inst.specs.declared.line.Line.TheVariants as line
use Rattle.pw_webflow.specs.declared.web.WebBlock.{WebBlock}
use Rattle.pw_alloc.specs.declared.located.Located.{Located}
use Rattle.pw_alloc.specs.Frames.{head_size, slots_begin, last_reach, below}
use Rattle.pw_select_lines.specs.Registers.{place_of, operand_register, operand_lines, loaded, load_from}
use Rattle.pw_select_lines.specs.Operations.{layout, web_op_lines}
use Rattle.pw_select.specs.Selection.{slot_offsets, saved_lines, webs_stored, frame_left, prologue, epilogue, end_lines, block_lines, blocks_lines, selected}
use Rattle.pw_delay.specs.declared.items.Word.{Word}
use Rattle.pw_delay.specs.declared.items.Turn.{Turn}
use Rattle.pw_delay.specs.declared.items.Turn.TheVariants.{Back, Goto, If, CallTo, CallReg, Leave}
use Rattle.pw_delay.specs.declared.items.Item.{Item}
use Rattle.pw_delay.specs.declared.items.Item.TheVariants.{Plain, Turns, Mark}
use Rattle.pw_delay.specs.Items.{item_of, before, slotted}
use Rattle.pw_delay.specs.Filling.{moves, drawn_near, compares, compared, with_slot, filled}
use Rattle.pw_delay.specs.Placement.{size, sizes}
use Rattle.pw_run_languages.specs.LineRun.{LineFn}
use Rattle.pw_run_languages.specs.SelectionLaws.{arranged}
use Rattle.pw_law_link_run.specs.Steps.{Setting}
use Rattle.pw_law_link_run.specs.Placing.{name_in, words_of, Parts}
use Rattle.pw_law_link_run.specs.Leveled.{IsPassing}
use Rattle.pw_law_link_run.proofs.Placed.{more}

-- ---- the frame

reach_above : (at : ℕ) (slots : List ℕ) → at ≤ last_reach at slots
reach_above at [] = omega arith
reach_above at (s ∷ rest) = omega (arith, reach_above (at + (s + 1 + 7) / 8 * 8) rest)

pub frame_holds : (f : Located) (n : ℕ) → f.frame ≡ last_reach (slots_begin (head_size f.body) (length f.saved) n) f.body.slots
    → 4 * length f.saved + head_size f.body ≤ f.frame
frame_holds f n e = omega (arith, e, reach_above (slots_begin (head_size f.body) (length f.saved) n) f.body.slots)

-- ---- the end: the last item is a jump or a return

abbrev IsOff : Item → Type 0
IsOff (Turns (Goto b) slot) = Unit {0}
IsOff (Turns Leave slot) = Unit {0}
IsOff _ = ⊥

abbrev EndsOff : List Item → Type 0
EndsOff [] = ⊥
EndsOff (x ∷ []) = IsOff x
EndsOff (x ∷ y ∷ rest) = EndsOff (y ∷ rest)

off_size : (long : Bool) (x : Item) → IsOff x → 1 ≤ size long x
off_size long (Turns (Goto b) slot) h = omega arith
off_size long (Turns Leave None) h = omega arith
off_size long (Turns Leave (Some w)) h = omega arith
off_size long (Turns (Back i) slot) h = absurd h
off_size long (Turns (If r b) slot) h = absurd h
off_size long (Turns (CallTo s link) slot) h = absurd h
off_size long (Turns CallReg slot) h = absurd h
off_size long (Plain w) h = absurd h
off_size long (Mark b) h = absurd h

ends_some : (long : Bool) (xs : List Item) → EndsOff xs → 1 ≤ sizes long xs
ends_some long [] h = absurd h
ends_some long (x ∷ []) h = omega (arith, more long x [], off_size long x h)
ends_some long (x ∷ y ∷ rest) h = omega (arith, more long x (y ∷ rest), ends_some long (y ∷ rest) h)

ends_behind : (xs ys : List Item) → EndsOff (xs ++ ys) → ys ≢ [] → EndsOff ys
ends_behind [] ys h some = h
ends_behind (x ∷ []) [] h some = absurd (some refl)
ends_behind (x ∷ []) (y ∷ ys) h some = h
ends_behind (x ∷ z ∷ xs) ys h some = ends_behind (z ∷ xs) ys h some

not_both : (x : Item) → IsOff x → IsPassing x → ⊥
not_both (Turns (Goto b) slot) h p = p
not_both (Turns Leave slot) h p = p
not_both (Turns (Back i) slot) h p = h
not_both (Turns (If r b) slot) h p = h
not_both (Turns (CallTo s link) slot) h p = h
not_both (Turns CallReg slot) h p = h
not_both (Plain w) h p = h
not_both (Mark b) h p = h

passing_ends : (item : Item) (rest : List Item) → EndsOff (item ∷ rest) → IsPassing item → EndsOff rest
passing_ends item [] h p = absurd (not_both item h p)
passing_ends item (y ∷ rest) h p = h

some_item : (item : Item) (rest : List Item) → item ∷ rest ≡ [] → ⊥
some_item item rest e = cc

-- lines before others do not change how these end
ends_before : (o : Option Item) (rest : List Item) → EndsOff rest → EndsOff (before o rest)
ends_before None rest h = h
ends_before (Some item) [] h = absurd h
ends_before (Some item) (y ∷ rest) h = h

ends_joined : (xs ys : List Line) → EndsOff (slotted ys) → EndsOff (slotted (xs ++ ys))
ends_joined [] ys h = h
ends_joined (l ∷ xs) ys h = ends_before (item_of l (xs ++ ys)) (slotted (xs ++ ys)) (ends_joined xs ys h)

epilogue_ends : (f : Located) → EndsOff (slotted (epilogue f))
epilogue_ends f =
    let webs = webs_stored f.body.directives.webs in
    let restores = saved_lines load_from (head_size f.body) 0 f.saved in
    let back = load_from (below (f.frame + 20)) 2 in
    ends_joined (webs ++ restores ++ back ++ frame_left f.frame) (line.Leave ∷ []) tt

end_ends : (f : Located) (e : End) → EndsOff (slotted (end_lines f e))
end_ends f (end.Jump b) = tt
end_ends f (end.Branch a b c) =
    let p = place_of f.places a in
    ends_joined (operand_lines p 22) (line.BranchNonZero (operand_register p 22) b ∷ line.Jump c ∷ []) tt
end_ends f (end.Return None) = epilogue_ends f
end_ends f (end.Return (Some a)) = ends_joined (loaded (place_of f.places a) 28) (epilogue f) (epilogue_ends f)

block_ends : (f : Located) (slots : List ℤ) (n : ℕ) (b : WebBlock) → EndsOff (slotted (block_lines f slots n b))
block_ends f slots n b =
    let own = flat_map (web_op_lines (layout f.places slots)) b.ops ++ end_lines f b.end in
    ends_before (item_of (line.Label n) own) (slotted own) (ends_joined (flat_map (web_op_lines (layout f.places slots)) b.ops) (end_lines f b.end) (end_ends f b.end))

blocks_end : (f : Located) (slots : List ℤ) (n : ℕ) (b : WebBlock) (rest : List WebBlock) → EndsOff (slotted (blocks_lines f slots n (b ∷ rest)))
blocks_end f slots n b [] = subst (λ ls. EndsOff (slotted ls)) (sym (append-nil (block_lines f slots n b))) (block_ends f slots n b)
blocks_end f slots n b (c ∷ rest) = ends_joined (block_lines f slots n b) (blocks_lines f slots (n + 1) (c ∷ rest)) (blocks_end f slots (n + 1) c rest)

selected_ends : (f : Located) (b : WebBlock) (rest : List WebBlock) → f.body.blocks ≡ b ∷ rest → EndsOff (slotted (selected f))
unfolding selected
selected_ends f b rest e =
    ends_joined (prologue f) (blocks_lines f (slot_offsets f) 0 f.body.blocks)
    (subst (λ bs. EndsOff (slotted (blocks_lines f (slot_offsets f) 0 bs))) (sym e) (blocks_end f (slot_offsets f) 0 b rest))

-- and so they do with words in slots
ends_too : (item : Item) (rest : List Item) → EndsOff rest → EndsOff (item ∷ rest)
ends_too item [] h = absurd h
ends_too item (y ∷ rest) h = h

off_too : (turn : Turn) (w : Word) → IsOff (Turns turn None) → IsOff (Turns (drawn_near turn) (Some w))
off_too (Goto b) w h = tt
off_too Leave w h = tt
off_too (Back i) w h = absurd h
off_too (If r b) w h = absurd h
off_too (CallTo s link) w h = absurd h
off_too CallReg w h = absurd h

slot_ends : (behind : Bool) (item : Item) (rest : List Item) → EndsOff (item ∷ rest) → EndsOff (with_slot behind item rest)
slot_ends behind (Plain w) (Turns turn None ∷ []) h = by (not behind && moves w.inst turn)
  where
    by : (t : Bool) → EndsOff (if t then Turns (drawn_near turn) (Some w) ∷ [] else Plain w ∷ Turns turn None ∷ [])
    by true = off_too turn w h
    by false = h
slot_ends behind (Plain w) (Turns turn None ∷ y ∷ rest) h = by (not behind && moves w.inst turn)
  where
    by : (t : Bool) → EndsOff (if t then Turns (drawn_near turn) (Some w) ∷ y ∷ rest else Plain w ∷ Turns turn None ∷ y ∷ rest)
    by true = h
    by false = h
slot_ends behind item rest h = h

filled_ends : (behind : Bool) (items : List Item) → EndsOff items → EndsOff (filled behind items)
filled_ends behind [] h = absurd h
filled_ends behind (item ∷ []) h = slot_ends behind item [] h
filled_ends behind (item ∷ y ∷ rest) h =
    slot_ends behind item (filled (compared behind item) (y ∷ rest)) (ends_too item (filled (compared behind item) (y ∷ rest)) (filled_ends (compared behind item) (y ∷ rest) h))

pub words_go_on : (x : Setting) (g : LineFn) (f : Located) (b : WebBlock) (blocks : List WebBlock) → g.items ≡ arranged (selected f) → f.body.blocks ≡ b ∷ blocks
    → (before rest : List Item) (item : Item) → Parts g before (item ∷ rest) → IsPassing item → 1 ≤ words_of x g rest
words_go_on x g f b blocks is some before rest item parts passes =
    let all = subst EndsOff (sym is ∙ parts) (filled_ends false (slotted (selected f)) (selected_ends f b blocks some)) in
    ends_some (x.long (name_in g)) rest (passing_ends item rest (ends_behind before (item ∷ rest) all (some_item item rest)) passes)

-- ---- the beginning: the first item is a word, or a turn with it in its slot

first_word : (f : Located) → (w : Word) × (rest : List Item) × (slotted (selected f) ≡ Plain w ∷ rest)
unfolding selected
first_word f = (_, _, refl)

filled_size : (long : Bool) (turn : Turn) (w : Word) → 1 ≤ size long (Turns turn (Some w))
filled_size long (Back i) w = omega arith
filled_size long (Goto b) w = omega arith
filled_size true (If r b) w = omega arith
filled_size false (If r b) w = omega arith
filled_size long (CallTo s link) w = omega arith
filled_size long CallReg w = omega arith
filled_size long Leave w = omega arith

-- the first of them has a size
abbrev BeginsWith : Bool → List Item → Type 0
BeginsWith long [] = ⊥
BeginsWith long (y ∷ rest) = 1 ≤ size long y

slot_begins : (long behind : Bool) (w : Word) (rest : List Item) → BeginsWith long (with_slot behind (Plain w) rest)
slot_begins long behind w (Turns turn None ∷ rest) = by (not behind && moves w.inst turn)
  where
    by : (t : Bool) → BeginsWith long (if t then Turns (drawn_near turn) (Some w) ∷ rest else Plain w ∷ Turns turn None ∷ rest)
    by true = filled_size long (drawn_near turn) w
    by false = omega arith
slot_begins long behind w rest = omega arith

pub words_begin : (x : Setting) (g : LineFn) (f : Located) → g.items ≡ arranged (selected f) → (before left : List Item) → Parts g before left → before ≢ []
    → 1 ≤ words_of x g before
words_begin x g f is [] left parts some = absurd (some refl)
words_begin x g f is (y ∷ before) left parts some =
    let long = x.long (name_in g) in
    let h = first_word f in
    let begins : BeginsWith long (arranged (selected f)) =
    subst (λ (l : List Item). BeginsWith long (filled false l)) (sym h.2) (slot_begins long false h.0 (filled (compares h.0.inst) h.1)) in
    let one : 1 ≤ size long y = subst (λ (l : List Item). BeginsWith long l) (sym is ∙ parts) begins in
    omega (arith, more long y before, one)
