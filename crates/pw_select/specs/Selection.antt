-- Selection: the prologue, the blocks in order, and at each return the epilogue.
use Rattle.std.specs.Prelude.{ℕ, zero, suc, ℤ, pos, ◌+◌, ◌-◌, ◌*◌, ◌==◌, ◌&&◌, nat_lt, false, if◌then◌else◌, Option, Some, None, List, [], ◌∷◌, ◌++◌, map, length}
use Rattle.std.specs.List.{flat_map}
use Rattle.pw_flow.specs.declared.flow.End.{End}
use Rattle.pw_flow.specs.declared.flow.End.TheVariants as end
use Rattle.pw_db.specs.Limits.{first_register, register_count}
use Rattle.pw_db.specs.declared.database.Web.{Web}
use Rattle.pw_db.specs.declared.database.Role.{Role}
use Rattle.pw_inst.specs.Limits.{near_least, near_limit}
use Rattle.pw_inst.specs.Registers.{help, first, second, answer, return_address, stack_pointer, argument_register}
use Rattle.pw_inst.specs.declared.Inst.TheVariants as i
use Rattle.pw_inst.specs.declared.line.Line.{Line}
use Rattle.pw_inst.specs.declared.line.Line.TheVariants.{Plain, Jump, BranchNonZero, Label, Leave}
use Rattle.pw_inst.specs.declared.relocation.Symbol.TheVariants.{StackLimit}
use Rattle.pw_webflow.specs.declared.web.WebBlock.{WebBlock}
use Rattle.pw_alloc.specs.declared.located.Place.{Place}
use Rattle.pw_alloc.specs.declared.located.Place.TheVariants.{Slot, Reg}
use Rattle.pw_alloc.specs.declared.located.Located.{Located}
use Rattle.pw_alloc.specs.Frames.{first_stacked, link_place, head_size, saved_offset, slots_begin, reaches_from, below}
use Rattle.pw_alloc.specs.Allocation.{is_entry, in_frame}
use Rattle.pw_select_lines.specs.Registers.{word, copied, constant, address_of, load_from, store_to, place_of, operand_register, operand_lines, loaded, read_global, write_global}
use Rattle.pw_select_lines.specs.Operations.{layout, web_op_lines}

-- ---- the frame

-- the offsets of the function's slots
abbrev pub slot_offsets : Located → List ℤ
slot_offsets f = map below (reaches_from (slots_begin (head_size f.body) (length f.saved) (in_frame f.places)) f.body.slots)

-- the saved registers, each at its place
abbrev pub saved_lines : (ℤ → ℕ → List Line) → ℕ → ℕ → List ℕ → List Line
saved_lines move head k [] = []
saved_lines move head k (r ∷ rest) = move (saved_offset head k) r ++ saved_lines move head (k + 1) rest

-- ---- webs that the function enters

-- the web of a register among those that are entered
abbrev pub entered_web : List (Web × Role) → ℕ → Option Web
entered_web [] r = None
entered_web (w ∷ rest) r = if (w.0.reg == r) && is_entry w.1 then Some w.0 else entered_web rest r

abbrev pub lines_of_web : (Web → List Line) → Option Web → List Line
lines_of_web lines None = []
lines_of_web lines (Some w) = lines w

-- for each of so many registers from one on, lines for the web that is entered in it
unfoldable pub entered_lines : (Web → List Line) → List (Web × Role) → ℕ → ℕ → List Line
entered_lines lines webs r zero = []
entered_lines lines webs r (suc more) = lines_of_web lines (entered_web webs r) ++ entered_lines lines webs (suc r) more

-- a web that writes goes back to its global
abbrev pub stored_back : Web → List Line
stored_back w = if w.writes then write_global w.global w.kind w.reg else []

abbrev pub loaded_web : Web → List Line
loaded_web w = read_global w.global w.kind w.reg

-- the registers that a web may have
abbrev pub webs_loaded : List (Web × Role) → List Line
webs_loaded webs = entered_lines loaded_web webs first_register register_count

abbrev pub webs_stored : List (Web × Role) → List Line
webs_stored webs = entered_lines stored_back webs first_register register_count

-- ---- parameters

-- the first four come in registers; the others from the caller's frame
abbrev pub incoming : ℕ → ℕ → ℕ → List Line
incoming frame k d =
    if nat_lt k 4 then copied (argument_register k) d else load_from (below (frame + first_stacked + 4 * (k - 4))) d

abbrev pub parameter_in : ℕ → ℕ → Place → List Line
parameter_in frame k (Reg r) = incoming frame k r
parameter_in frame k (Slot offset) = incoming frame k first ++ store_to offset first

abbrev pub parameters_in : ℕ → List Place → ℕ → ℕ → List Line
parameters_in frame places k zero = []
parameters_in frame places k (suc more) =
    parameter_in frame k (place_of places k) ++ parameters_in frame places (suc k) more

-- ---- prologue and epilogue

-- the end of the frame in register 1
abbrev pub frame_end : ℕ → List Line
frame_end frame =
    if nat_lt near_limit frame
    then constant frame help ++ word (i.Addl stack_pointer help help)
    else word (i.Ldo (pos frame) stack_pointer help)

-- the stack is checked, the return address goes into the caller's frame, and the stack pointer over the frame
abbrev pub entry_lines : ℕ → List Line
entry_lines frame =
    address_of StackLimit 0 second ++ frame_end frame
    ++ Plain (i.Comclr 5 false help second 0) ∷ Plain (i.Break 0 4)
    ∷ Plain (i.Stw return_address (below link_place) stack_pointer) ∷ copied help stack_pointer

abbrev pub prologue : Located → List Line
prologue f =
    entry_lines f.frame ++ saved_lines store_to (head_size f.body) 0 f.saved
    ++ webs_loaded f.body.directives.webs ++ parameters_in f.frame f.places 0 f.body.params

abbrev pub frame_left : ℕ → List Line
frame_left frame =
    if nat_lt near_least frame
    then constant frame help ++ word (i.Sub stack_pointer help stack_pointer)
    else word (i.Ldo (below frame) stack_pointer stack_pointer)

abbrev pub epilogue : Located → List Line
epilogue f =
    webs_stored f.body.directives.webs
    ++ saved_lines load_from (head_size f.body) 0 f.saved
    ++ load_from (below (f.frame + link_place)) return_address
    ++ frame_left f.frame
    ++ Leave ∷ []

-- ---- blocks

abbrev pub end_lines : Located → End → List Line
end_lines f (end.Jump b) = Jump b ∷ []
end_lines f (end.Branch a b c) =
    operand_lines (place_of f.places a) first
    ++ BranchNonZero (operand_register (place_of f.places a) first) b ∷ Jump c ∷ []
end_lines f (end.Return None) = epilogue f
end_lines f (end.Return (Some a)) = loaded (place_of f.places a) answer ++ epilogue f

abbrev pub block_lines : Located → List ℤ → ℕ → WebBlock → List Line
block_lines f slots n b = Label n ∷ (flat_map (web_op_lines (layout f.places slots)) b.ops ++ end_lines f b.end)

abbrev pub blocks_lines : Located → List ℤ → ℕ → List WebBlock → List Line
blocks_lines f slots n [] = []
blocks_lines f slots n (b ∷ rest) = block_lines f slots n b ++ blocks_lines f slots (n + 1) rest

unfoldable pub selected : Located → List Line
selected f = prologue f ++ blocks_lines f (slot_offsets f) 0 f.body.blocks
