-- Branches lead where they should.
use Rattle.std.proofs.Common.{◌≡◌, ℕ, ◌+◌, ◌<◌, Bool, true, false, if◌then◌else◌, Option, None, Some, List, [], ◌∷◌, ◌++◌, length, refl, ap, sym, ◌∙◌, append_assoc, length-append, arith}
use Rattle.std.proofs.lemmas.Int.{ints}
use Rattle.std.specs.Prelude.{pos, ◌+ℤ◌, nat_lt}
use Rattle.std.specs.List.{AllByRecursion}
use Rattle.std.proofs.lemmas.List.Sums.{sum_by-cons}
use Rattle.pw_inst.specs.declared.Inst.{Inst}
use Rattle.pw_inst.specs.declared.Inst.TheVariants as i
use Rattle.pw_inst.specs.declared.line.Line.{Line}
use Rattle.pw_inst.specs.declared.line.Line.TheVariants as line
use Rattle.pw_delay.specs.declared.items.Word.{Word}
use Rattle.pw_delay.specs.declared.items.Turn.{Turn}
use Rattle.pw_delay.specs.declared.items.Turn.TheVariants.{Back, Goto, If, CallTo, CallReg, Leave}
use Rattle.pw_delay.specs.declared.items.Item.{Item}
use Rattle.pw_delay.specs.declared.items.Item.TheVariants.{Plain, Turns, Mark}
use Rattle.pw_delay.specs.Items.{begins_next, plain_item, item_of, before, slotted}
use Rattle.pw_delay.specs.Placement.{size, sizes, displacement, in_slot, turn_words, item_words, words_from, mark_at, code_of, laid, short_limit, placed_items, placed}
use Rattle.pw_delay.specs.Branches.{IsSent, IsWordSent, HasNoCall, AreSent, Reaches}
use Rattle.pw_delay.specs.Filling.{drawn_near, filled}
use Rattle.pw_delay.proofs.Sizes.{item_length}
use Rattle.pw_delay.proofs.Keeping.{PropertiesMove, properties_stay}

-- ---- sent

SlotSent : Option Word → Type 0
SlotSent None = Unit {0}
SlotSent (Some w) = IsWordSent w

TurnSent : Turn → Type 0
TurnSent (Back i) = IsSent i None
TurnSent t = Unit {0}

ItemSent : Item → Type 0
ItemSent (Plain w) = IsWordSent w
ItemSent (Turns turn slot) = TurnSent turn × SlotSent slot
ItemSent (Mark b) = Unit {0}

all_sent : (xs ys : List Word) → AllByRecursion IsWordSent xs → AllByRecursion IsWordSent ys → AllByRecursion IsWordSent (xs ++ ys)
all_sent [] ys h k = k
all_sent (x ∷ xs) ys h k = (h.0, all_sent xs ys h.1 k)

slot_sent : (slot : Option Word) → SlotSent slot → IsWordSent (in_slot slot)
unfolding SlotSent
slot_sent None h = tt
slot_sent (Some w) h = h

turn_sent : (long : Bool) (begins : ℕ → ℕ) (at : ℕ) (turn : Turn) (slot : Option Word) → TurnSent turn → SlotSent slot → AllByRecursion IsWordSent (turn_words long begins at turn slot)
unfolding TurnSent SlotSent
turn_sent long begins at (Back branch) slot h k = (h, (slot_sent slot k, tt))
turn_sent long begins at (Goto b) slot h k = (refl, (slot_sent slot k, tt))
turn_sent false begins at (If r b) slot h k = (tt, (slot_sent slot k, tt))
turn_sent true begins at (If r b) slot h k = (tt, (slot_sent slot k, (refl, (tt, tt))))
turn_sent long begins at (CallTo s link) slot h k = (refl, (slot_sent slot k, tt))
turn_sent long begins at CallReg slot h k = (tt, (slot_sent slot k, tt))
turn_sent long begins at Leave None h k = (tt, tt)
turn_sent long begins at Leave (Some w) h k = (tt, (k, tt))

item_sent : (long : Bool) (begins : ℕ → ℕ) (at : ℕ) (item : Item) → ItemSent item → AllByRecursion IsWordSent (item_words long begins at item)
unfolding ItemSent
item_sent long begins at (Plain w) h = (h, tt)
item_sent long begins at (Turns turn slot) h = turn_sent long begins at turn slot h.0 h.1
item_sent long begins at (Mark b) h = tt

words_sent : (long : Bool) (begins : ℕ → ℕ) (at : ℕ) (items : List Item) → AllByRecursion ItemSent items → AllByRecursion IsWordSent (words_from long begins at items)
words_sent long begins at [] h = tt
words_sent long begins at (item ∷ rest) h =
    all_sent (item_words long begins at item) (words_from long begins (at + size long item) rest) (item_sent long begins at item h.0) (words_sent long begins (at + size long item) rest h.1)

plain_sent : (x : Inst) → IsSent x None → ItemSent (plain_item x)
unfolding ItemSent TurnSent SlotSent
plain_sent (i.Combf c r1 r2 disp) h = (h, tt)
plain_sent x h = h

jump_sent : (b : ℕ) (rest : List Line) (items : List Item) → AllByRecursion ItemSent items → AllByRecursion ItemSent (before (item_of (line.Jump b) rest) items)
unfolding ItemSent TurnSent SlotSent
jump_sent b rest items h = by (begins_next b rest)
  where
    by : (t : Bool) → AllByRecursion ItemSent (before (if t then None else Some (Turns (Goto b) None)) items)
    by true = h
    by false = ((tt, tt), h)

slotted_sent : (lines : List Line) → AllByRecursion HasNoCall lines → AllByRecursion ItemSent (slotted lines)
unfolding ItemSent TurnSent SlotSent
slotted_sent [] h = tt
slotted_sent (line.Plain x ∷ rest) h = (plain_sent x h.0, slotted_sent rest h.1)
slotted_sent (line.Fixed x k s n ∷ rest) h = (h.0, slotted_sent rest h.1)
slotted_sent (line.Jump b ∷ rest) h = jump_sent b rest (slotted rest) (slotted_sent rest h.1)
slotted_sent (line.BranchNonZero r b ∷ rest) h = ((tt, tt), slotted_sent rest h.1)
slotted_sent (line.Label b ∷ rest) h = (tt, slotted_sent rest h.1)
slotted_sent (line.CallTo s r ∷ rest) h = ((tt, tt), slotted_sent rest h.1)
slotted_sent (line.CallReg ∷ rest) h = ((tt, tt), slotted_sent rest h.1)
slotted_sent (line.Leave ∷ rest) h = ((tt, tt), slotted_sent rest h.1)

near_sent : (turn : Turn) → TurnSent turn → TurnSent (drawn_near turn)
unfolding TurnSent
near_sent (Back (i.Combf c r1 r2 disp)) h = tt
near_sent turn h = h

sent_moves : PropertiesMove ItemSent
unfolding ItemSent TurnSent SlotSent
sent_moves w turn plain turns free = (near_sent turn turns.0, plain)

pub calls_sent : (lines : List Line) → AllByRecursion HasNoCall lines → AreSent lines
unfolding placed laid
calls_sent lines h =
    let items = filled false (slotted lines) in
    let long = nat_lt short_limit (sizes false (slotted lines)) in
    record {
      words = words_from long (mark_at long 0 items) 0 items;
      code = refl;
      sent = words_sent long (mark_at long 0 items) 0 items (properties_stay ItemSent false (slotted lines) sent_moves (slotted_sent lines h));
    }

-- ---- resolved

words_append : (long : Bool) (begins : ℕ → ℕ) (at : ℕ) (xs ys : List Item) → words_from long begins at (xs ++ ys) ≡ words_from long begins at xs ++ words_from long begins (at + sizes long xs) ys
words_append long begins at [] ys = ap (λ n. words_from long begins n ys) (omega arith)
words_append long begins at (x ∷ xs) ys =
    let all = sum_by-cons (size long) x xs in
    let e : at + size long x + sizes long xs ≡ at + sizes long (x ∷ xs) = omega arith in
    ap (λ rest. item_words long begins at x ++ rest) (words_append long begins (at + size long x) xs ys)
    ∙ sym (append_assoc (item_words long begins at x) (words_from long begins (at + size long x) xs) (words_from long begins (at + size long x + sizes long xs) ys))
    ∙ ap (λ n. item_words long begins at x ++ words_from long begins (at + size long x) xs ++ words_from long begins n ys) e

words_length : (long : Bool) (begins : ℕ → ℕ) (at : ℕ) (items : List Item) → length (words_from long begins at items) ≡ sizes long items
words_length long begins at [] = refl
words_length long begins at (x ∷ xs) =
    let all = sum_by-cons (size long) x xs in
    let here = item_length long begins at x in
    let rest = words_length long begins (at + size long x) xs in
    let both = length-append (item_words long begins at x) (words_from long begins (at + size long x) xs) in
    omega arith

pub branch_reaches : (xs ys : List Item) (r b : ℕ) (slot : Option Word) → Reaches (xs ++ Turns (If r b) slot ∷ ys) xs r b
branch_reaches xs ys r b slot =
    let items = xs ++ Turns (If r b) slot ∷ ys in
    let begins = mark_at false 0 items in
    let at = sizes false xs in
    let count = words_length false begins 0 xs in
    let start : 0 + at ≡ at = omega arith in
    record {
      displacement = displacement at (begins b);
      rest = in_slot slot ∷ words_from false begins (at + 2) ys;
      words = words_append false begins 0 xs (Turns (If r b) slot ∷ ys) ∙ ap (λ n. words_from false begins 0 xs ++ words_from false begins n (Turns (If r b) slot ∷ ys)) start;
      target = omega (arith, ints, count);
    }
