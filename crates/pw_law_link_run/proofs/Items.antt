-- The machine does what the lines do, item by item.
use Rattle.std.specs.Prelude.{ℕ, zero, suc, ℤ, pos, negsuc, ◌≡◌, ◌+◌, ◌*◌, ◌%◌, ◌^◌, ◌<◌, ◌≤◌, ◌==◌, not, Bool, true, false, if◌then◌else◌, Option, Some, None, List, [], ◌∷◌, ◌++◌, Contains, length}
use Rattle.std.specs.List.{AllByRecursion}
use Rattle.std.specs.Int.{cast_unsigned, w32}
use Rattle.std.proofs.Common.{arith, subst, sym, ap, refl, ◌∙◌, inl, inr}
use Rattle.std.proofs.lemmas.Int.{ints}
use Rattle.pw_inst.specs.declared.Inst.{Inst}
use Rattle.pw_inst.specs.declared.Inst.TheVariants.{Combf, Bl}
use Rattle.pw_inst.specs.Computing.{condition}
use Rattle.pw_delay.specs.declared.items.Word.{Word}
use Rattle.pw_delay.specs.declared.items.Turn.{Turn}
use Rattle.pw_delay.specs.declared.items.Turn.TheVariants.{Back, Goto, If}
use Rattle.pw_delay.specs.declared.items.Item.{Item}
use Rattle.pw_delay.specs.declared.items.Item.TheVariants.{Plain, Turns, Mark}
use Rattle.pw_delay.specs.Placement.{size, in_slot}
use Rattle.pw_run_languages.specs.Traces.{Event}
use Rattle.pw_run_languages.specs.Acts as lines
use Rattle.pw_run_languages.specs.Acts.{Act, Acts, Full, Fails, acts, settled}
use Rattle.pw_run_languages.specs.LineRun.{LineFn, Machine, On, left_behind, counted, accesses, went_on, does, from_mark, goes_to, to_block, back_over, words_back, goes_back, through_slot}
use Rattle.pw_run_languages.specs.Words.{TestsShort, TestsLong, Tests}
use Rattle.pw_run_languages.specs.MachineRun.{Noted, Call}
use Rattle.pw_law_link_run.specs.Steps.{Setting, fetched, IsInText, At, Arrives, IsQuiet, with_accesses}
use Rattle.pw_law_link_run.specs.Placing.{name_in, text_of, IsLeft}
use Rattle.pw_law_link_run.specs.Simulating.{calls_from, noted_by, IsFit, IsLinked, IsCaller, Simulates, IsCalm, IsCalmInside, IsHigh}
use Rattle.pw_law_link_run.specs.Slots.{IsSlotFit, SlotDoes, behind_slot}
use Rattle.pw_law_link_run.specs.Meeting.{IsHighBehind}
use Rattle.pw_law_link_run.proofs.Slots.{slot_by, slot_runs}
use Rattle.pw_law_link_run.proofs.Noting.{settles, high_none}
use Rattle.pw_law_link_run.proofs.Stepping.{word_at_front}
use Rattle.pw_law_link_run.proofs.Placed.{more, left_stands, next_left, in_text_of, block_left, loop_left}
use Rattle.pw_law_link_run.proofs.Branches.{Goal}
use Rattle.pw_law_link_run.proofs.Turning.{IsTurn, text_small, jump_turn, false_turn, true_turn}

-- ---- what is left

pub behind_all : (P : Item → Type 0) (before left : List Item) → AllByRecursion P (before ++ left) → AllByRecursion P left
behind_all P [] left h = h
behind_all P (item ∷ before) left h = behind_all P before left h.1

pub left_fit : (x : Setting) → IsLinked x → (f : LineFn) → Contains x.program.functions f → (left : List Item) (a : ℕ) → IsLeft x f left a → AllByRecursion (IsFit x) left
left_fit x l f there left a h = behind_all (IsFit x) h.before left (subst (λ items. AllByRecursion (IsFit x) items) h.items (l.fits f there))

pub here_in_text : (x : Setting) → IsLinked x → (f : LineFn) → Contains x.program.functions f → (left : List Item) (a : ℕ) → IsLeft x f left a → IsInText x a
here_in_text x l f there left a h =
    let e : a + 4 * 0 ≡ a = omega arith in
    subst (λ k. IsInText x k) e (in_text_of x f (l.stands f there) left a 0 h (omega arith))

pub later_in_text : (x : Setting) → IsLinked x → (f : LineFn) → Contains x.program.functions f → (item : Item) (rest : List Item) (a i b : ℕ) → IsLeft x f (item ∷ rest) a
    → i ≤ size (x.long (name_in f)) item → b ≡ a + 4 * i → IsInText x b
later_in_text x l f there item rest a i b h le e =
    subst (λ k. IsInText x k) (sym e)
    (in_text_of x f (l.stands f there) (item ∷ rest) a i h (omega (arith, le, more (x.long (name_in f)) item rest)))

-- the machine arrives where items are left, and nothing is noted
pub rests : (x : Setting) → IsLinked x → (f : LineFn) → Contains x.program.functions f → (k : ℕ) (c : lines.Core) (left : List Item) (a : ℕ) (rest out : List ℕ) (n : Noted)
    → Arrives x k c a ((a + 4) % 2 ^ 32) rest out n → IsLeft x f left a → IsQuiet x c a n.calls → At x k c a (a + 4) rest out n
rests x l f there k c left a rest out n h left_is q =
    let e : (a + 4) % 2 ^ 32 ≡ a + 4 = omega (arith, text_small x a l.few (here_in_text x l f there left a left_is)) in
    subst (λ b. At x k c a b rest out n) e (settles x k c a ((a + 4) % 2 ^ 32) rest out n h q)

-- ---- words

-- how a word goes on
pub record GoesOn (x : Setting) (word : Word) (m t : Machine) : Type 0 where
  pub inst : Inst
  pub is : settled x.addresses word ≡ Some inst
  pub core : lines.Core
  pub acts : acts x.addresses (Some inst) m.core ≡ Acts core
  pub result : t ≡ record m { core = core; trace = accesses x.program x.addresses (Some inst) m.core ++ m.trace }

pub on_same : (m t : Machine) → On m ≡ On t → t ≡ m
on_same m t e = cc

goes_by : (x : Setting) (word : Word) (m t : Machine) (i : Inst) (a : Act) → settled x.addresses word ≡ Some i → acts x.addresses (Some i) m.core ≡ a
    → went_on x.program x.addresses (Some i) a m ≡ On t → GoesOn x word m t
goes_by x word m t i (Acts c) s e h = record { inst = i; is = s; core = c; acts = e; result = on_same _ t h }
goes_by x word m t i Full s e h = absurd cc
goes_by x word m t i Fails s e h = absurd cc

does_by : (x : Setting) (word : Word) (m t : Machine) (o : Option Inst) → settled x.addresses word ≡ o
    → went_on x.program x.addresses o (acts x.addresses o m.core) m ≡ On t → GoesOn x word m t
does_by x word m t None s h = absurd cc
does_by x word m t (Some i) s h = goes_by x word m t i (acts x.addresses (Some i) m.core) s refl h

pub does_goes : (x : Setting) (word : Word) (m t : Machine) → does x.program x.addresses word m ≡ On t → GoesOn x word m t
does_goes x word m t h = does_by x word m t (settled x.addresses word) refl h

pub word_simulates : (x : Setting) → IsLinked x → (k : ℕ) (m t : Machine) (word : Word) (rest : List Item)
    → Simulates x (left_behind (Plain word ∷ rest) m) k → does x.program x.addresses word (left_behind rest m) ≡ On t → IsCalm x t → Simulates x t (suc k)
word_simulates x l k m t word rest h e calm =
    let g = does_goes x word (left_behind rest m) t e in
    let f = m.frame.function in
    let a = h.address in
    let fit = left_fit x l f h.there (Plain word ∷ rest) a h.left in
    let stands = left_stands x f (l.stands f h.there) (Plain word ∷ rest) a h.left in
    let after = next_left x f (Plain word) rest a h.left in
    let new : Machine = record (left_behind rest m) { core = g.core; trace = accesses x.program x.addresses (Some g.inst) m.core ++ m.trace } in
    let there : IsLeft x f rest (a + 4) = let e : a + 4 * 1 ≡ a + 4 = omega arith in subst (λ b. IsLeft x f rest b) e after in
    let quiet = subst (λ (s : Machine). IsCalm x s) g.result calm (a + 4) there in
    let step = word_at_front x k m.core g.core a (a + 4) m.rest m.out (noted_by x m) g.inst l.setting h.at
    (here_in_text x l f h.there (Plain word ∷ rest) a h.left) (stands.0 ∙ g.is) (fit.0 g.inst g.is) g.acts in
    subst (λ (s : Machine). Simulates x s (suc k)) (sym g.result) (record {
      address = a + 4;
      at = rests x l f h.there (suc k) g.core rest (a + 4) m.rest m.out (noted_by x new) step there quiet;
      there = h.there;
      left = there;
      callers = h.callers;
      events = omega (arith, h.events);
      read = h.read;
    })

-- a block begins: no word stands there
pub mark_simulates : (x : Setting) (k b : ℕ) (m : Machine) (rest : List Item) → Simulates x (left_behind (Mark b ∷ rest) m) k → Simulates x (left_behind rest m) k
mark_simulates x k b m rest h =
    let e : h.address + 4 * 0 ≡ h.address = omega arith in
    record {
      address = h.address;
      at = h.at;
      there = h.there;
      left = subst (λ a. IsLeft x m.frame.function rest a) e (next_left x m.frame.function (Mark b) rest h.address h.left);
      callers = h.callers;
      events = h.events;
      read = h.read;
    }

-- ---- jumps and loops

to_some : (o : Option (List Item)) (m t : Machine) → goes_to o m ≡ On t → (items : List Item) × (o ≡ Some items) × (t ≡ left_behind items m)
to_some None m t e = absurd cc
to_some (Some items) m t e = (items, refl, on_same (left_behind items m) t e)

-- the machine comes to where items are left, by so many steps more
comes_to : (x : Setting) → IsLinked x → (k j : ℕ) (m t : Machine) (items : List Item) (a : ℕ) → Contains x.program.functions m.frame.function
    → AllByRecursion (IsCaller x) m.callers → m.read + length m.rest ≡ length x.start.rest → t ≡ left_behind items m → IsLeft x m.frame.function items a
    → Arrives x j m.core a ((a + 4) % 2 ^ 32) m.rest m.out (noted_by x m) → m.events ≤ j → IsCalm x t → Simulates x t j
comes_to x l k j m t items a there callers read same left h le calm =
    let quiet = subst (λ (s : Machine). IsCalm x s) same calm a left in
    subst (λ (s : Machine). Simulates x s j) (sym same) (record {
      address = a;
      at = rests x l m.frame.function there j m.core items a m.rest m.out (noted_by x m) h left quiet;
      there = there;
      left = left;
      callers = callers;
      events = le;
      read = read;
    })

-- a turn with its slot is of the text
pub turn_at : (x : Setting) → IsLinked x → (f : LineFn) → Contains x.program.functions f → (item : Item) (rest : List Item) (a : ℕ) (i : Inst) → IsLeft x f (item ∷ rest) a
    → 1 ≤ size (x.long (name_in f)) item → fetched x a ≡ Some i → IsTurn x a i
turn_at x l f there item rest a i h le e = record {
  here = here_in_text x l f there (item ∷ rest) a h;
  slot = later_in_text x l f there item rest a 1 (a + 4) h le (omega arith);
  is = e;
}

pub inside_at : (x : Setting) (m : Machine) (left : List Item) (words a j b : ℕ) → IsCalmInside x (left_behind left m) words → IsLeft x m.frame.function left a
    → 1 ≤ j → j < words → b ≡ a + 4 * j → IsQuiet x m.core b (calls_from x m.frame m.callers)
inside_at x m left words a j b inside h one below e = subst (λ b. IsQuiet x m.core b (calls_from x m.frame m.callers)) (sym e) (inside a j h one below)

-- behind the slot
pub goto_acted : (x : Setting) → IsLinked x → (k b : ℕ) (slot : Option Word) (m t : Machine) (rest : List Item) (d : lines.Core) (es : List (Event ℕ ℕ))
    → Simulates x (left_behind (Turns (Goto b) slot ∷ rest) m) k → m.core.skip ≡ false → SlotDoes x slot m.core d es
    → to_block b (behind_slot d es (counted (left_behind (Turns (Goto b) slot ∷ rest) m))) ≡ On t
    → IsCalmInside x (left_behind (Turns (Goto b) slot ∷ rest) m) 2 → IsCalm x t → Simulates x t (suc (suc k))
goto_acted x l k b slot m t rest d es h run does e inside calm =
    let f = m.frame.function in
    let item = Turns (Goto b) slot in
    let u = behind_slot d es (counted (left_behind (item ∷ rest) m)) in
    let goes = to_some (from_mark b f.items) u t e in
    let stands = left_stands x f (l.stands f h.there) (item ∷ rest) h.address h.left in
    let fit = (left_fit x l f h.there (item ∷ rest) h.address h.left).0 in
    let to = x.mark (name_in f) b in
    let j = stands.0.0 in
    let turn = turn_at x l f h.there item rest h.address (Bl j.displacement 0 false) h.left (omega arith) j.is in
    comes_to x l k (suc (suc k)) u t goes.0 to h.there h.callers h.read goes.2
    (block_left x f (l.stands f h.there) b goes.0 goes.1)
    (jump_turn x k m.core d h.address to 0 j.displacement m.rest m.out (noted_by x m) slot es l.setting l.few h.at turn j.leads (omega arith) stands.0.1 fit run run
    (inside_at x m (item ∷ rest) 2 h.address 1 (h.address + 4) inside h.left (omega arith) (omega arith) (omega arith)) does)
    (omega (arith, h.events)) calm

pub goto_simulates : (x : Setting) → IsLinked x → (k b : ℕ) (slot : Option Word) (m t : Machine) (rest : List Item)
    → Simulates x (left_behind (Turns (Goto b) slot ∷ rest) m) k → m.core.skip ≡ false
    → through_slot x.program x.addresses slot (to_block b) (counted (left_behind (Turns (Goto b) slot ∷ rest) m)) ≡ On t
    → IsCalmInside x (left_behind (Turns (Goto b) slot ∷ rest) m) 2 → IsCalm x t → Simulates x t (suc (suc k))
goto_simulates x l k b slot m t rest h run e inside calm =
    slot_by x slot (counted (left_behind (Turns (Goto b) slot ∷ rest) m)) (to_block b) (λ s. s ≡ On t → Simulates x t (suc (suc k)))
    (λ word is full e. absurd cc) (λ e. absurd cc)
    (λ d es does e. goto_acted x l k b slot m t rest d es h run does e inside calm) e

-- where a turn is not taken, the next item follows
behind_turn : (x : Setting) (f : LineFn) (turn : Turn) (slot : Option Word) (rest : List Item) (a b : ℕ) → IsLeft x f (Turns turn slot ∷ rest) a
    → b ≡ a + 4 * size (x.long (name_in f)) (Turns turn slot) → IsLeft x f rest b
behind_turn x f turn slot rest a b h e = subst (λ b. IsLeft x f rest b) (sym e) (next_left x f (Turns turn slot) rest a h)

-- ---- conditional branches

if_size : (long : Bool) (r b : ℕ) (slot : Option Word) → 1 ≤ size long (Turns (If r b) slot)
if_size true r b slot = omega arith
if_size false r b slot = omega arith

-- the state behind the slot, where the branch is taken
abbrev pub counted_behind : lines.Core → List (Event ℕ ℕ) → Machine → Item → List Item → Machine
counted_behind d es m item rest = behind_slot d es (counted (left_behind (item ∷ rest) m))

-- and where it is not
abbrev pub passed_behind : lines.Core → List (Event ℕ ℕ) → Machine → List Item → Machine
passed_behind d es m rest = behind_slot d es (left_behind rest m)

-- the branch in its short form
if_short : (x : Setting) → IsLinked x → (k r b : ℕ) (slot : Option Word) (m t : Machine) (rest : List Item) (d : lines.Core) (es : List (Event ℕ ℕ)) (null : Bool) → (lines.register m.core r == 0) ≡ null
    → x.long (name_in m.frame.function) ≡ false → Simulates x (left_behind (Turns (If r b) slot ∷ rest) m) k → m.core.skip ≡ false → SlotDoes x slot m.core d es
    → (if null then On (passed_behind d es m rest) else to_block b (counted_behind d es m (Turns (If r b) slot) rest)) ≡ On t
    → IsCalmInside x (left_behind (Turns (If r b) slot ∷ rest) m) 2 → IsCalm x t → Simulates x t (suc (suc k))
if_short x l k r b slot m t rest d es null is short h run does e inside calm = by null is e
  where
    f : LineFn
    f = m.frame.function

    item : Item
    item = Turns (If r b) slot

    stands : TestsShort (text_of x f) h.address r (x.mark (name_in f) b) × (fetched x (h.address + 4) ≡ settled x.addresses (in_slot slot))
    stands =
        let s = left_stands x f (l.stands f h.there) (item ∷ rest) h.address h.left in
        (subst (λ long. Tests (text_of x f) long h.address r (x.mark (name_in f) b)) short s.0.0, s.0.1)

    goes : (goal : ℕ) → goal ≡ (if not (lines.register m.core r == 0) then x.mark (name_in f) b else h.address + 8)
        → Arrives x (suc (suc k)) d goal ((goal + 4) % 2 ^ 32) m.rest m.out (with_accesses es (noted_by x m))
    goes goal same =
        false_turn x k m.core d h.address (x.mark (name_in f) b) 1 r 0 stands.0.displacement m.rest m.out (noted_by x m) slot es l.setting l.few h.at
        (turn_at x l f h.there item rest h.address (Combf 1 r 0 stands.0.displacement) h.left (if_size (x.long (name_in f)) r b slot) stands.0.is)
        stands.0.leads stands.1 (left_fit x l f h.there (item ∷ rest) h.address h.left).0 run
        (inside_at x m (item ∷ rest) 2 h.address 1 (h.address + 4) inside h.left (omega arith) (omega arith) (omega arith)) does goal same

    by : (null : Bool) → (lines.register m.core r == 0) ≡ null
        → (if null then On (passed_behind d es m rest) else to_block b (counted_behind d es m item rest)) ≡ On t → Simulates x t (suc (suc k))
    by true is e =
        let goal : h.address + 8 ≡ (if not (lines.register m.core r == 0) then x.mark (name_in f) b else h.address + 8) =
        ap (λ (z : Bool). if not z then x.mark (name_in f) b else h.address + 8) (sym is) in
        comes_to x l k (suc (suc k)) (passed_behind d es m rest) t rest (h.address + 8) h.there h.callers h.read (on_same (passed_behind d es m rest) t e)
        (behind_turn x f (If r b) slot rest h.address (h.address + 8) h.left (ap (λ (long : Bool). h.address + 4 * (if long then 4 else 2)) (sym short)))
        (goes (h.address + 8) goal) (omega (arith, h.events)) calm
    by false is e =
        let u = counted_behind d es m item rest in
        let to = to_some (from_mark b f.items) u t e in
        let goal : x.mark (name_in f) b ≡ (if not (lines.register m.core r == 0) then x.mark (name_in f) b else h.address + 8) =
        ap (λ (z : Bool). if not z then x.mark (name_in f) b else h.address + 8) (sym is) in
        comes_to x l k (suc (suc k)) u t to.0 (x.mark (name_in f) b) h.there h.callers h.read to.2
        (block_left x f (l.stands f h.there) b to.0 to.1) (goes (x.mark (name_in f) b) goal) (omega (arith, h.events)) calm

-- behind the slot nothing returns, where the stack pointer is above those of all active calls
pub quiet_high : (x : Setting) (c d : lines.Core) (a : ℕ) (calls : List Call) → c.skip ≡ false → IsQuiet x c a calls → AllByRecursion (λ call. call.stack < lines.register d 30) calls
    → IsQuiet x d a calls
quiet_high x c d a calls run q high = record {
  returns = high_none d a calls high;
  enters = inr (elim q.enters [ inl skip ↦ absurd (let e : true ≡ false = sym skip ∙ run in cc) | inr none ↦ none ]);
}

-- the branch over a jump
if_long : (x : Setting) → IsLinked x → (k r b : ℕ) (slot : Option Word) (m t : Machine) (rest : List Item) (d : lines.Core) (es : List (Event ℕ ℕ)) (null : Bool) → (lines.register m.core r == 0) ≡ null
    → x.long (name_in m.frame.function) ≡ true → Simulates x (left_behind (Turns (If r b) slot ∷ rest) m) k → m.core.skip ≡ false → SlotDoes x slot m.core d es
    → IsHigh x (behind_slot d es m)
    → (if null then On (passed_behind d es m rest) else to_block b (counted_behind d es m (Turns (If r b) slot) rest)) ≡ On t
    → IsCalmInside x (left_behind (Turns (If r b) slot ∷ rest) m) 4 → IsCalm x t → (j : ℕ) × Simulates x t j
if_long x l k r b slot m t rest d es null is long h run does high e inside calm = by null is e
  where
    f : LineFn
    f = m.frame.function

    item : Item
    item = Turns (If r b) slot

    fit : IsSlotFit x slot
    fit = (left_fit x l f h.there (item ∷ rest) h.address h.left).0

    n : Noted
    n = with_accesses es (noted_by x m)

    quiet : (j a : ℕ) → 1 ≤ j → j < 4 → a ≡ h.address + 4 * j → IsQuiet x m.core a (calls_from x m.frame m.callers)
    quiet j a one below same = inside_at x m (item ∷ rest) 4 h.address j a inside h.left one below same

    later : (j a : ℕ) → 1 ≤ j → j < 4 → a ≡ h.address + 4 * j → IsQuiet x d a (calls_from x m.frame m.callers)
    later j a one below same = quiet_high x m.core d a (calls_from x m.frame m.callers) run (quiet j a one below same) high

    text : (i a : ℕ) → i ≤ 4 → a ≡ h.address + 4 * i → IsInText x a
    text i a le same =
        later_in_text x l f h.there item rest h.address i a h.left (subst (λ (long : Bool). i ≤ (if long then 4 else 2)) (sym long) le) same

    stands : TestsLong (text_of x f) h.address r (x.mark (name_in f) b) × (fetched x (h.address + 4) ≡ settled x.addresses (in_slot slot))
    stands =
        let s = left_stands x f (l.stands f h.there) (item ∷ rest) h.address h.left in
        (subst (λ long. Tests (text_of x f) long h.address r (x.mark (name_in f) b)) long s.0.0, s.0.1)

    goes : (goal : ℕ) → goal ≡ (if lines.register m.core r == 0 then h.address + 16 else h.address + 8)
        → Arrives x (suc (suc k)) d goal ((goal + 4) % 2 ^ 32) m.rest m.out (with_accesses es (noted_by x m))
    goes goal same =
        true_turn x k m.core d h.address (h.address + 16) 1 r 0 (pos 2) m.rest m.out (noted_by x m) slot es l.setting l.few h.at
        (record { here = text 0 h.address (omega arith) (omega arith); slot = text 1 (h.address + 4) (omega arith) (omega arith); is = stands.0.is })
        (omega (arith, text_small x h.address l.few (text 0 h.address (omega arith) (omega arith))))
        stands.1 fit run (quiet 1 (h.address + 4) (omega arith) (omega arith) (omega arith)) does goal same

    over : At x (suc (suc k)) d (h.address + 8) (h.address + 8 + 4) m.rest m.out (with_accesses es (noted_by x m))
        → Arrives x (suc (suc (suc (suc k)))) d (x.mark (name_in f) b) ((x.mark (name_in f) b + 4) % 2 ^ 32) m.rest m.out (with_accesses es (noted_by x m))
    over at =
        let filled : fetched x (h.address + 8 + 4) ≡ settled x.addresses (in_slot None) = ap (fetched x) (let e : h.address + 8 + 4 ≡ h.address + 12 = omega arith in e) ∙ stands.0.slot in
        let on = slot_runs x slot m.core d es fit run does in
        jump_turn x (suc (suc k)) d d (h.address + 8) (x.mark (name_in f) b) 0 stands.0.jump.displacement m.rest m.out (with_accesses es (noted_by x m)) None [] l.setting l.few at
        (record { here = text 2 (h.address + 8) (omega arith) (omega arith); slot = text 3 (h.address + 8 + 4) (omega arith) (omega arith); is = stands.0.jump.is })
        stands.0.jump.leads (omega arith) filled tt on on (later 3 (h.address + 8 + 4) (omega arith) (omega arith) (omega arith)) (refl, refl)

    by : (null : Bool) → (lines.register m.core r == 0) ≡ null
        → (if null then On (passed_behind d es m rest) else to_block b (counted_behind d es m item rest)) ≡ On t → (j : ℕ) × Simulates x t j
    by true is e =
        let goal : h.address + 16 ≡ (if lines.register m.core r == 0 then h.address + 16 else h.address + 8) =
        ap (λ (z : Bool). if z then h.address + 16 else h.address + 8) (sym is) in (
          suc (suc k),
          comes_to x l k (suc (suc k)) (passed_behind d es m rest) t rest (h.address + 16) h.there h.callers h.read (on_same (passed_behind d es m rest) t e)
              (behind_turn x f (If r b) slot rest h.address (h.address + 16) h.left (ap (λ (long : Bool). h.address + 4 * (if long then 4 else 2)) (sym long)))
              (goes (h.address + 16) goal) (omega (arith, h.events)) calm,
        )
    by false is e =
        let u = counted_behind d es m item rest in
        let to = to_some (from_mark b f.items) u t e in
        let goal : h.address + 8 ≡ (if lines.register m.core r == 0 then h.address + 16 else h.address + 8) =
        ap (λ (z : Bool). if z then h.address + 16 else h.address + 8) (sym is) in
        let back : (h.address + 8 + 4) % 2 ^ 32 ≡ h.address + 8 + 4 = omega (arith, text_small x h.address l.few (text 0 h.address (omega arith) (omega arith))) in
        let at = subst (λ v. At x (suc (suc k)) d (h.address + 8) v m.rest m.out n) back
        (settles x (suc (suc k)) d (h.address + 8) ((h.address + 8 + 4) % 2 ^ 32) m.rest m.out n (goes (h.address + 8) goal) (later 2 (h.address + 8) (omega arith) (omega arith) (omega arith))) in (
          suc (suc (suc (suc k))),
          comes_to x l k (suc (suc (suc (suc k)))) u t to.0 (x.mark (name_in f) b) h.there h.callers h.read to.2
              (block_left x f (l.stands f h.there) b to.0 to.1) (over at) (omega (arith, h.events)) calm,
        )

if_by : (x : Setting) → IsLinked x → (k r b : ℕ) (slot : Option Word) (m t : Machine) (rest : List Item) (d : lines.Core) (es : List (Event ℕ ℕ)) (long : Bool)
    → x.long (name_in m.frame.function) ≡ long → Simulates x (left_behind (Turns (If r b) slot ∷ rest) m) k → m.core.skip ≡ false → SlotDoes x slot m.core d es
    → IsHigh x (behind_slot d es m)
    → (if lines.register m.core r == 0 then On (passed_behind d es m rest) else to_block b (counted_behind d es m (Turns (If r b) slot) rest)) ≡ On t
    → IsCalmInside x (left_behind (Turns (If r b) slot ∷ rest) m) (if long then 4 else 2) → IsCalm x t → (j : ℕ) × Simulates x t j
if_by x l k r b slot m t rest d es true is h run does high e inside calm =
    if_long x l k r b slot m t rest d es (lines.register m.core r == 0) refl is h run does high e inside calm
if_by x l k r b slot m t rest d es false is h run does high e inside calm =
    (suc (suc k), if_short x l k r b slot m t rest d es (lines.register m.core r == 0) refl is h run does e inside calm)

pub if_acted : (x : Setting) → IsLinked x → (k r b : ℕ) (slot : Option Word) (m t : Machine) (rest : List Item) (d : lines.Core) (es : List (Event ℕ ℕ))
    → Simulates x (left_behind (Turns (If r b) slot ∷ rest) m) k → m.core.skip ≡ false → SlotDoes x slot m.core d es → IsHigh x (behind_slot d es m)
    → (if lines.register m.core r == 0 then On (passed_behind d es m rest) else to_block b (counted_behind d es m (Turns (If r b) slot) rest)) ≡ On t
    → IsCalmInside x (left_behind (Turns (If r b) slot ∷ rest) m) (size (x.long (name_in m.frame.function)) (Turns (If r b) slot)) → IsCalm x t
    → (j : ℕ) × Simulates x t j
if_acted x l k r b slot m t rest d es h run does high e inside calm =
    if_by x l k r b slot m t rest d es (x.long (name_in m.frame.function)) refl h run does high e inside calm

-- a conditional branch, with what stands in its slot
pub if_simulates : (x : Setting) → IsLinked x → (k r b : ℕ) (slot : Option Word) (m t : Machine) (rest : List Item)
    → Simulates x (left_behind (Turns (If r b) slot ∷ rest) m) k → m.core.skip ≡ false → IsHighBehind x m (Turns (If r b) slot)
    → (if lines.register m.core r == 0 then through_slot x.program x.addresses slot On (left_behind rest m)
    else through_slot x.program x.addresses slot (to_block b) (counted (left_behind (Turns (If r b) slot ∷ rest) m))) ≡ On t
    → IsCalmInside x (left_behind (Turns (If r b) slot ∷ rest) m) (size (x.long (name_in m.frame.function)) (Turns (If r b) slot)) → IsCalm x t
    → (j : ℕ) × Simulates x t j
if_simulates x l k r b slot m t rest h run high e inside calm = by (lines.register m.core r == 0) refl e
  where
    item : Item
    item = Turns (If r b) slot

    by : (null : Bool) → (lines.register m.core r == 0) ≡ null
        → (if null then through_slot x.program x.addresses slot On (left_behind rest m) else through_slot x.program x.addresses slot (to_block b) (counted (left_behind (item ∷ rest) m))) ≡ On t
        → (j : ℕ) × Simulates x t j
    by true is e =
        slot_by x slot (left_behind rest m) (λ s. On s) (λ s. s ≡ On t → (j : ℕ) × Simulates x t j) (λ word w full e. absurd cc) (λ e. absurd cc)
        (λ d es does e.
        if_acted x l k r b slot m t rest d es h run does (high 0 d es does)
        (ap (λ (z : Bool). if z then On (passed_behind d es m rest) else to_block b (counted_behind d es m item rest)) is ∙ e) inside calm) e
    by false is e =
        slot_by x slot (counted (left_behind (item ∷ rest) m)) (to_block b) (λ s. s ≡ On t → (j : ℕ) × Simulates x t j) (λ word w full e. absurd cc) (λ e. absurd cc)
        (λ d es does e.
        if_acted x l k r b slot m t rest d es h run does (high 0 d es does)
        (ap (λ (z : Bool). if z then On (passed_behind d es m rest) else to_block b (counted_behind d es m item rest)) is ∙ e) inside calm) e

-- ---- loops

words_some : (disp : ℤ) (n : ℕ) → words_back disp ≡ Some n → disp ≡ negsuc (suc n)
words_some (pos j) n e = absurd cc
words_some (negsuc zero) n e = absurd cc
words_some (negsuc (suc j)) n e = let same : j ≡ n = cc in ap (λ n. negsuc (suc n)) same

goes_some : (o : Option ℕ) (here : List Item) (m t : Machine) → goes_back o here m ≡ On t
    → (n : ℕ) × (o ≡ Some n) × (goes_to (back_over n here m.frame.function.items) m ≡ On t)
goes_some None here m t e = absurd cc
goes_some (Some n) here m t e = (n, refl, e)

back_goal : (a b n : ℕ) → b + 4 * n ≡ a → a + 16 < 2 ^ 32 → Goal a (negsuc (suc n)) b
back_goal a b n e small = omega (arith, ints, e, small)

pub back_acted : (x : Setting) → IsLinked x → (k j r u : ℕ) (disp : ℤ) (slot : Option Word) (m t : Machine) (rest : List Item) (d : lines.Core) (es : List (Event ℕ ℕ))
    → Simulates x (left_behind (Turns (Back (Combf j r u disp)) slot ∷ rest) m) k → m.core.skip ≡ false → SlotDoes x slot m.core d es
    → (if (if condition j (lines.register m.core r) (lines.register m.core u) then false else true)
    then goes_back (words_back disp) (Turns (Back (Combf j r u disp)) slot ∷ rest) (counted_behind d es m (Turns (Back (Combf j r u disp)) slot) rest)
    else On (passed_behind d es m rest)) ≡ On t
    → IsCalmInside x (left_behind (Turns (Back (Combf j r u disp)) slot ∷ rest) m) 2 → IsCalm x t → Simulates x t (suc (suc k))
back_acted x l k j r u disp slot m t rest d es h run does e inside calm = by (condition j (lines.register m.core r) (lines.register m.core u)) refl e
  where
    f : LineFn
    f = m.frame.function

    item : Item
    item = Turns (Back (Combf j r u disp)) slot

    holds : Bool
    holds = condition j (lines.register m.core r) (lines.register m.core u)

    stands : (fetched x h.address ≡ Some (Combf j r u disp)) × (fetched x (h.address + 4) ≡ settled x.addresses (in_slot slot))
    stands = (left_stands x f (l.stands f h.there) (item ∷ rest) h.address h.left).0

    goes : (to goal : ℕ) → Goal h.address disp to → goal ≡ (if not holds then to else h.address + 8)
        → Arrives x (suc (suc k)) d goal ((goal + 4) % 2 ^ 32) m.rest m.out (with_accesses es (noted_by x m))
    goes to goal leads same =
        false_turn x k m.core d h.address to j r u disp m.rest m.out (noted_by x m) slot es l.setting l.few h.at
        (turn_at x l f h.there item rest h.address (Combf j r u disp) h.left (omega arith) stands.0)
        leads stands.1 (left_fit x l f h.there (item ∷ rest) h.address h.left).0.1 run
        (inside_at x m (item ∷ rest) 2 h.address 1 (h.address + 4) inside h.left (omega arith) (omega arith) (omega arith)) does goal same

    by : (b : Bool) → holds ≡ b
        → (if (if b then false else true) then goes_back (words_back disp) (item ∷ rest) (counted_behind d es m item rest) else On (passed_behind d es m rest)) ≡ On t
        → Simulates x t (suc (suc k))
    by true is e =
        let to : ℕ = (h.address + 8 + 4 * cast_unsigned w32 disp) % 2 ^ 32 in
        let goal : h.address + 8 ≡ (if not holds then to else h.address + 8) = ap (λ (z : Bool). if not z then to else h.address + 8) (sym is) in
        comes_to x l k (suc (suc k)) (passed_behind d es m rest) t rest (h.address + 8) h.there h.callers h.read (on_same (passed_behind d es m rest) t e)
        (behind_turn x f (Back (Combf j r u disp)) slot rest h.address (h.address + 8) h.left (omega arith))
        (goes to (h.address + 8) refl goal) (omega (arith, h.events)) calm
    by false is e =
        let m' = counted_behind d es m item rest in
        let one = goes_some (words_back disp) (item ∷ rest) m' t e in
        let to = to_some (back_over one.0 (item ∷ rest) f.items) m' t one.2 in
        let loop = loop_left x f one.0 (item ∷ rest) to.0 h.address h.left to.1 in
        let leads = subst (λ d. Goal h.address d loop.address) (sym (words_some disp one.0 one.1))
        (back_goal h.address loop.address one.0 loop.back (text_small x h.address l.few (here_in_text x l f h.there (item ∷ rest) h.address h.left))) in
        let goal : loop.address ≡ (if not holds then loop.address else h.address + 8) = ap (λ (z : Bool). if not z then loop.address else h.address + 8) (sym is) in
        comes_to x l k (suc (suc k)) m' t to.0 loop.address h.there h.callers h.read to.2 loop.left
        (goes loop.address loop.address leads goal) (omega (arith, h.events)) calm

pub back_simulates : (x : Setting) → IsLinked x → (k j r u : ℕ) (disp : ℤ) (slot : Option Word) (m t : Machine) (rest : List Item)
    → Simulates x (left_behind (Turns (Back (Combf j r u disp)) slot ∷ rest) m) k → m.core.skip ≡ false
    → (if (if condition j (lines.register m.core r) (lines.register m.core u) then false else true)
    then through_slot x.program x.addresses slot (goes_back (words_back disp) (Turns (Back (Combf j r u disp)) slot ∷ rest)) (counted (left_behind (Turns (Back (Combf j r u disp)) slot ∷ rest) m))
    else through_slot x.program x.addresses slot On (left_behind rest m)) ≡ On t
    → IsCalmInside x (left_behind (Turns (Back (Combf j r u disp)) slot ∷ rest) m) 2 → IsCalm x t → Simulates x t (suc (suc k))
back_simulates x l k j r u disp slot m t rest h run e inside calm = by (if condition j (lines.register m.core r) (lines.register m.core u) then false else true) refl e
  where
    item : Item
    item = Turns (Back (Combf j r u disp)) slot

    taken : Bool
    taken = if condition j (lines.register m.core r) (lines.register m.core u) then false else true

    goes : (b : Bool) → taken ≡ b → (d : lines.Core) (es : List (Event ℕ ℕ)) → SlotDoes x slot m.core d es
        → (if b then goes_back (words_back disp) (item ∷ rest) (counted_behind d es m item rest) else On (passed_behind d es m rest)) ≡ On t → Simulates x t (suc (suc k))
    goes b is d es does e =
        back_acted x l k j r u disp slot m t rest d es h run does
        (ap (λ (z : Bool). if z then goes_back (words_back disp) (item ∷ rest) (counted_behind d es m item rest) else On (passed_behind d es m rest)) is ∙ e) inside calm

    by : (b : Bool) → taken ≡ b
        → (if b then through_slot x.program x.addresses slot (goes_back (words_back disp) (item ∷ rest)) (counted (left_behind (item ∷ rest) m)) else through_slot x.program x.addresses slot On (left_behind rest m)) ≡ On t
        → Simulates x t (suc (suc k))
    by true is e =
        slot_by x slot (counted (left_behind (item ∷ rest) m)) (goes_back (words_back disp) (item ∷ rest)) (λ s. s ≡ On t → Simulates x t (suc (suc k)))
        (λ word w full e. absurd cc) (λ e. absurd cc) (goes true is) e
    by false is e =
        slot_by x slot (left_behind rest m) (λ s. On s) (λ s. s ≡ On t → Simulates x t (suc (suc k)))
        (λ word w full e. absurd cc) (λ e. absurd cc) (goes false is) e
