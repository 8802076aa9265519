-- Before the first block a function has words alone.
use Rattle.std.proofs.Common.{ℕ, zero, suc, ◌+◌, ◌-◌, ◌*◌, ℤ, Bool, true, false, if◌then◌else◌, Some, List, [], ◌∷◌, ◌++◌}
use Rattle.std.specs.Prelude.{pos, neg_ℤ, nat_lt, ◌==◌, ◌&&◌}
use Rattle.std.specs.Int.{w32, cast_signed}
use Rattle.std.specs.List.{AllByRecursion}
use Rattle.pw_value.specs.declared.value.Kind.{Kind}
use Rattle.pw_value.specs.declared.value.Kind.TheVariants as scalar
use Rattle.pw_db.specs.Limits.{first_register, register_count}
use Rattle.pw_db.specs.declared.database.Web.{Web}
use Rattle.pw_db.specs.declared.database.Role.{Role}
use Rattle.pw_inst.specs.declared.Inst.{Inst}
use Rattle.pw_inst.specs.declared.Inst.TheVariants as i
use Rattle.pw_inst.specs.Limits.{near_limit}
use Rattle.pw_inst.specs.declared.line.Line.{Line}
use Rattle.pw_inst.specs.declared.line.Line.TheVariants.{Plain, Fixed}
use Rattle.pw_alloc.specs.declared.located.Place.{Place}
use Rattle.pw_alloc.specs.declared.located.Place.TheVariants.{Slot, Reg}
use Rattle.pw_alloc.specs.Frames.{saved_offset, below}
use Rattle.pw_alloc.specs.Allocation.{is_entry}
use Rattle.pw_select_lines.specs.Registers.{word, Reach, reach, is_near, as_word, constant, long_constant, load_from, store_to, place_of, sign_spread, read_global, copied}
use Rattle.pw_select.specs.Selection.{saved_lines, entered_web, lines_of_web, entered_lines, loaded_web, webs_loaded, incoming, parameter_in, parameters_in, frame_end, entry_lines}

-- no branch
abbrev pub IsStill : Inst → Type 0
IsStill (i.Combf c r1 r2 disp) = ⊥
IsStill x = Unit {0}

abbrev pub IsWordLine : Line → Type 0
IsWordLine (Plain x) = IsStill x
IsWordLine (Fixed x k s n) = Unit {0}
IsWordLine _ = ⊥

abbrev pub AreWordLines : List Line → Type 0
AreWordLines lines = AllByRecursion IsWordLine lines

pub joined : (xs ys : List Line) → AreWordLines xs → AreWordLines ys → AreWordLines (xs ++ ys)
joined [] ys h k = k
joined (x ∷ xs) ys h k = (h.0, joined xs ys h.1 k)

before_by : (offset : ℤ) (t : Bool) → AreWordLines (if◌then◌else◌ {A = Reach} t (record { before = []; base = 30; displacement = offset }) (record { before = long_constant (as_word offset) 1 ++ word (i.Addl 30 1 1); base = 1; displacement = pos 0 })).before
before_by offset true = tt
before_by offset false = (tt, (tt, (tt, tt)))

before_in : (offset : ℤ) → AreWordLines (reach offset).before
before_in offset = before_by offset (is_near offset)

load_in : (offset : ℤ) (r : ℕ) → AreWordLines (load_from offset r)
load_in offset r = joined (reach offset).before (word (i.Ldw (reach offset).displacement (reach offset).base r)) (before_in offset) (tt, tt)

store_in : (offset : ℤ) (r : ℕ) → AreWordLines (store_to offset r)
store_in offset r = joined (reach offset).before (word (i.Stw r (reach offset).displacement (reach offset).base)) (before_in offset) (tt, tt)

sign_in : (k : Kind) (t : ℕ) → AreWordLines (sign_spread k t)
sign_in scalar.S8 t = (tt, tt)
sign_in scalar.S16 t = (tt, tt)
sign_in scalar.U8 t = tt
sign_in scalar.U16 t = tt
sign_in scalar.W32 t = tt

read_in : (g : List ℕ) (k : Kind) (t : ℕ) → AreWordLines (read_global g k t)
read_in g k t = (tt, (tt, sign_in k t))

entered_by : (w : Web × Role) (rest : List (Web × Role)) (r : ℕ) (t : Bool) → AreWordLines (lines_of_web loaded_web (entered_web rest r)) → AreWordLines (lines_of_web loaded_web (if t then Some w.0 else entered_web rest r))
entered_by w rest r true later = read_in w.0.global w.0.kind w.0.reg
entered_by w rest r false later = later

entered_in : (webs : List (Web × Role)) (r : ℕ) → AreWordLines (lines_of_web loaded_web (entered_web webs r))
entered_in [] r = tt
entered_in (w ∷ rest) r = entered_by w rest r ((w.0.reg == r) && is_entry w.1) (entered_in rest r)

all_entered_in : (webs : List (Web × Role)) (r more : ℕ) → AreWordLines (entered_lines loaded_web webs r more)
unfolding entered_lines
all_entered_in webs r zero = tt
all_entered_in webs r (suc more) = joined (lines_of_web loaded_web (entered_web webs r)) (entered_lines loaded_web webs (suc r) more) (entered_in webs r) (all_entered_in webs (suc r) more)

pub webs_loaded_in : (webs : List (Web × Role)) → AreWordLines (webs_loaded webs)
webs_loaded_in webs = all_entered_in webs first_register register_count

pub saved_stored_in : (head k : ℕ) (saved : List ℕ) → AreWordLines (saved_lines store_to head k saved)
saved_stored_in head k [] = tt
saved_stored_in head k (r ∷ rest) = joined (store_to (saved_offset head k) r) (saved_lines store_to head (k + 1) rest) (store_in (saved_offset head k) r) (saved_stored_in head (k + 1) rest)

incoming_by : (frame k d : ℕ) (t : Bool) → AreWordLines (if t then copied (26 - k) d else load_from (below (frame + 52 + 4 * (k - 4))) d)
incoming_by frame k d true = (tt, tt)
incoming_by frame k d false = load_in (below (frame + 52 + 4 * (k - 4))) d

parameter_is_in : (frame k : ℕ) (p : Place) → AreWordLines (parameter_in frame k p)
parameter_is_in frame k (Reg r) = incoming_by frame k r (nat_lt k 4)
parameter_is_in frame k (Slot offset) = joined (incoming frame k 22) (store_to offset 22) (incoming_by frame k 22 (nat_lt k 4)) (store_in offset 22)

pub parameters_are_in : (frame : ℕ) (places : List Place) (k more : ℕ) → AreWordLines (parameters_in frame places k more)
parameters_are_in frame places k zero = tt
parameters_are_in frame places k (suc more) =
    joined (parameter_in frame k (place_of places k)) (parameters_in frame places (suc k) more) (parameter_is_in frame k (place_of places k)) (parameters_are_in frame places (suc k) more)

-- and so the words with which it begins
constant_by : (n : ℕ) (t : Bool) → AreWordLines (if t then Plain (i.Ldo (cast_signed w32 n) 0 1) ∷ [] else long_constant n 1)
constant_by n true = (tt, tt)
constant_by n false = (tt, (tt, tt))

frame_end_by : (frame : ℕ) (t : Bool) → AreWordLines (if t then constant frame 1 ++ word (i.Addl 30 1 1) else word (i.Ldo (pos frame) 30 1))
frame_end_by frame true = joined (constant frame 1) (word (i.Addl 30 1 1)) (constant_by frame (is_near (cast_signed w32 frame))) (tt, tt)
frame_end_by frame false = (tt, tt)

pub entry_in : (frame : ℕ) → AreWordLines (entry_lines frame)
entry_in frame = (
  tt,
  (
    tt,
    joined (frame_end frame) (Plain (i.Comclr 5 false 1 21 0) ∷ Plain (i.Break 0 4) ∷ Plain (i.Stw 2 (neg_ℤ (pos 20)) 30) ∷ copied 1 30)
        (frame_end_by frame (nat_lt near_limit frame)) (tt, (tt, (tt, (tt, tt)))),
  ),
)
