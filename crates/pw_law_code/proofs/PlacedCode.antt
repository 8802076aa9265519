-- Placed code stands wherever its words do.
use Rattle.std.proofs.Common.{◌≡◌, ◌≢◌, ℕ, ◌+◌, ◌*◌, ◌%◌, ◌^◌, ◌≤◌, ◌<◌, Bool, true, false, if◌then◌else◌, Option, None, Some, List, [], ◌∷◌, ◌++◌, map, length, get_or, refl, sym, ap, subst, ◌∙◌, arith, length-append}
use Rattle.std.specs.Prelude.{pos, ◌==◌}
use Rattle.std.specs.List.{AllByRecursion}
use Rattle.std.proofs.lemmas.Int.{ints}
use Rattle.std.proofs.lemmas.Bool.{ltb-false, eq-eqb, ne_eqb}
use Rattle.std.proofs.lemmas.List.{length-map}
use Rattle.std.proofs.lemmas.List.Sums.{sum_by-cons}
use Rattle.pw_value.specs.Limits.{text_start}
use Rattle.pw_inst.specs.declared.Inst.{Inst}
use Rattle.pw_inst.specs.declared.Inst.TheVariants as i
use Rattle.pw_inst.specs.InstructionTable.{IsInRange, word_of, decoded}
use Rattle.pw_inst.specs.declared.line.Line.{Line}
use Rattle.pw_inst.specs.declared.relocation.Fix.{Fix}
use Rattle.pw_inst.specs.declared.relocation.FixKind.TheVariants as kind
use Rattle.pw_inst.specs.declared.relocation.Symbol.{Symbol}
use Rattle.pw_inst.specs.declared.relocation.Symbol.TheVariants as symbol
use Rattle.pw_inst.proofs.Words.{decoded-word_of}
use Rattle.pw_delay.specs.declared.items.Word.{Word}
use Rattle.pw_delay.specs.declared.items.Relocation.{Relocation}
use Rattle.pw_delay.specs.declared.items.Turn.{Turn}
use Rattle.pw_delay.specs.declared.items.Turn.TheVariants.{Back, Goto, If, CallTo, CallReg, Leave}
use Rattle.pw_delay.specs.declared.items.Item.{Item}
use Rattle.pw_delay.specs.declared.items.Item.TheVariants.{Plain, Turns, Mark}
use Rattle.pw_delay.specs.Items.{slotted}
use Rattle.pw_delay.specs.Placement.{size, sizes, turn_size, displacement, in_slot, turn_words, item_words, words_from, mark_at, short_limit, laid, placed}
use Rattle.pw_delay.proofs.Keeping.{sizes_shrink}
use Rattle.pw_delay.proofs.Sizes.{item_length}
use Rattle.pw_delay.proofs.MarkLaws.{mark_at_within}
use Rattle.pw_link.specs.Layout.{Sites}
use Rattle.pw_link.specs.Linking.{word_address, symbol_address, settled}
use Rattle.pw_run_languages.specs.Acts as lines
use Rattle.pw_run_languages.specs.LineRun.{turns, IsCalling}
use Rattle.pw_run_languages.specs.Words.{Text, JumpsTo, TestsShort, Tests, CallsSymbol, SlotStands, TurnStands, StandsAt}
use Rattle.pw_run_languages.specs.CodeStands.{IsOfProgram, AreApart, AreReady, is_long, Reaches, IsKnown, StandAt, PlacedCodeStands}
use Rattle.pw_run_languages.specs.SelectionLaws.{arranged}
use Rattle.pw_law_code.proofs.Branching.{hop, lands, text_end}
use Rattle.pw_law_code.proofs.Taking.{taken}
use Rattle.pw_law_code.proofs.LinkedWords.{fixes_act, WordHolds, WordsHold, hold_from, hold_split}
use Rattle.pw_law_code.proofs.ReadyItems.{IsReadyBy, IsReadyWord, IsReadySlot, IsReadyTurn, IsReadyItem, arranged_ready, marks_of, arranged_marks}

-- ---- single words

-- what a named symbol's address is known to be
known : (sites : Sites) (t : Text) (own : ℕ) (f : Fix) (s : Symbol) → IsOfProgram s → IsKnown sites t own f s
    → (lines.symbol_address t.addresses s ≡ Some (symbol_address sites own s)) × Reaches f.kind (symbol_address sites own s)
known sites t own f (symbol.Named name) named h = h
known sites t own f symbol.StackLimit named h = h
known sites t own f (symbol.Routine k) named h = h
known sites t own f (symbol.Word k) named h = absurd named

some_same : (a b : ℕ) → Some a ≡ Some b → a ≡ b
some_same a b e = cc

settled_by : (t : Text) (x : Inst) (r : Relocation) (a : ℕ) → lines.symbol_address t.addresses r.symbol ≡ Some a
    → lines.with_address r.kind ((a + r.addend) % 2 ^ 32) x ≡ lines.settled t.addresses (record { inst = x; relocation = Some r })
settled_by t x r a e = by r.symbol e
  where
    by : (s : Symbol) → lines.symbol_address t.addresses s ≡ Some a
        → lines.with_address r.kind ((a + r.addend) % 2 ^ 32) x ≡ lines.settled t.addresses (record { inst = x; relocation = Some (record { kind = r.kind; symbol = s; addend = r.addend }) })
    by (symbol.Named name) e = ap (λ (v : ℕ). lines.with_address r.kind ((v + r.addend) % 2 ^ 32) x) (sym (some_same _ _ e))
    by symbol.StackLimit e = ap (λ (v : ℕ). lines.with_address r.kind ((v + r.addend) % 2 ^ 32) x) (sym (some_same _ _ e))
    by (symbol.Routine k) e = ap (λ (v : ℕ). lines.with_address r.kind ((v + r.addend) % 2 ^ 32) x) (sym (some_same _ _ e))
    by (symbol.Word k) e = absurd cc

settles : (t : Text) (sites : Sites) (own k : ℕ) (x : Inst) (r : Option Relocation) → IsInRange x → IsReadyBy x r → WordHolds t sites own k (record { inst = x; relocation = r })
    → t.fetch (own + 4 * k) ≡ lines.settled t.addresses (record { inst = x; relocation = r })
settles t sites own k x None range takes h = h.fetch ∙ decoded-word_of x range
settles t sites own k x (Some r) range takes h =
    let f : Fix = record { word = k; kind = r.kind; symbol = r.symbol; addend = r.addend } in
    let e = known sites t own f r.symbol takes.1 h.known in
    h.fetch
    ∙ taken r.kind (word_address own k) ((symbol_address sites own r.symbol + r.addend) % 2 ^ 32) x range takes.0 (omega arith)
    ∙ settled_by t x r (symbol_address sites own r.symbol) e.0

word_settles : (t : Text) (sites : Sites) (own k : ℕ) (w : Word) → IsReadyWord w → WordHolds t sites own k w → t.fetch (own + 4 * k) ≡ lines.settled t.addresses w
word_settles t sites own k w ready h = settles t sites own k w.inst w.relocation ready.range ready.takes h

-- a word without a relocation
bare_stands : (t : Text) (sites : Sites) (own k : ℕ) (x : Inst) → IsInRange x → WordHolds t sites own k (record { inst = x; relocation = None }) → t.fetch (own + 4 * k) ≡ Some x
bare_stands t sites own k x range h = h.fetch ∙ decoded-word_of x range

nop_ready : IsReadyWord (in_slot None)
unfolding IsInRange
nop_ready = record { range = (omega arith, omega arith, omega arith); takes = tt }

slot_ready : (slot : Option Word) → IsReadySlot slot → IsReadyWord (in_slot slot)
slot_ready None h = nop_ready
slot_ready (Some w) h = h

slot_stands : (t : Text) (sites : Sites) (own k : ℕ) (slot : Option Word) → IsReadySlot slot → WordHolds t sites own (k + 1) (in_slot slot) → SlotStands t (own + 4 * k) slot
slot_stands t sites own k slot ready h =
    ap t.fetch (omega arith) ∙ word_settles t sites own (k + 1) (in_slot slot) (slot_ready slot ready) h

-- ---- the ground on which a function's words stand

pub record Ground (t : Text) (own : ℕ) (long : Bool) (begins : ℕ → ℕ) (total : ℕ) : Type 0 where
  aligned : own % 4 ≡ 0
  above : text_start ≤ own
  below : own + 4 * total ≤ text_end
  marks : (b : ℕ) → t.mark b ≡ own + 4 * begins b
  begun : (b : ℕ) → begins b ≤ total
  short : long ≡ false → total ≤ short_limit

-- a jump whose word is followed by another
jumps : (t : Text) (own k link target : ℕ) (address : ℕ) → t.fetch (own + 4 * k) ≡ decoded (settled kind.Bl (word_address own k) address (word_of (i.Bl (pos 0) link false)))
    → address ≡ target → own % 4 ≡ 0 → text_start ≤ own → own + 4 * k + 8 ≤ text_end → target % 4 ≡ 0 → text_start ≤ target → target ≤ text_end → link < 32
    → JumpsTo t (own + 4 * k) link target
jumps t own k link target address fetch same aligned low high even above below small =
    let h = hop (own + 4 * k) target (omega (arith, aligned)) even (omega arith) high above below in
    let here : word_address own k ≡ own + 4 * k = omega arith in
    record {
      displacement = h.displacement;
      is = fetch
          ∙ ap (λ (a : ℕ). decoded (settled kind.Bl a address (word_of (i.Bl (pos 0) link false)))) here
          ∙ ap (λ (a : ℕ). decoded (settled kind.Bl (own + 4 * k) a (word_of (i.Bl (pos 0) link false)))) same
          ∙ lands (own + 4 * k) target link h small;
      leads = h.leads;
    }

-- a jump to a block
to_block_stands : (t : Text) (own : ℕ) (long : Bool) (begins : ℕ → ℕ) (total k b : ℕ) → Ground t own long begins total → k + 2 ≤ total
    → t.fetch (own + 4 * k) ≡ decoded (settled kind.Bl (word_address own k) ((word_address own (begins b) + 0) % 2 ^ 32) (word_of (i.Bl (pos 0) 0 false)))
    → JumpsTo t (own + 4 * k) 0 (t.mark b)
to_block_stands t own long begins total k b g within fetch =
    let aligned = g.aligned in
    let above = g.above in
    let below = g.below in
    let at = g.marks b in
    let begun = g.begun b in
    jumps t own k 0 (t.mark b) ((word_address own (begins b) + 0) % 2 ^ 32) fetch
    (omega arith) aligned above (omega arith) (omega arith) (omega arith) (omega arith) (omega arith)

-- ---- turns

short_stands : (t : Text) (sites : Sites) (own : ℕ) (begins : ℕ → ℕ) (total k r b : ℕ) → Ground t own false begins total → k + 2 ≤ total → r < 32
    → WordHolds t sites own k (record { inst = i.Combf 1 r 0 (displacement k (begins b)); relocation = None }) → TestsShort t (own + 4 * k) r (t.mark b)
unfolding IsInRange
short_stands t sites own begins total k r b g within small h =
    let above = g.above in
    let below = g.below in
    let few = g.short refl in
    let at = g.marks b in
    let begun = g.begun b in
    record {
      displacement = displacement k (begins b);
      is = bare_stands t sites own k (i.Combf 1 r 0 (displacement k (begins b))) (omega arith, small, omega arith, (omega (arith, ints), omega (arith, ints))) h;
      leads = omega (arith, ints);
    }

combt_range : (r : ℕ) → r < 32 → IsInRange (i.Combt 1 r 0 (pos 2))
unfolding IsInRange
combt_range r small = (omega arith, small, omega arith, (omega (arith, ints), omega (arith, ints)))

if_stands : (t : Text) (sites : Sites) (own : ℕ) (long : Bool) (begins : ℕ → ℕ) (total k r b : ℕ) (slot : Option Word) → Ground t own long begins total → k + turn_size long (If r b) slot ≤ total → r < 32 → IsReadySlot slot
    → WordsHold t sites own k (turn_words long begins k (If r b) slot) → Tests t long (own + 4 * k) r (t.mark b) × SlotStands t (own + 4 * k) slot
if_stands t sites own false begins total k r b slot g within small ready h =
    (short_stands t sites own begins total k r b g within small h.0, slot_stands t sites own k slot ready h.1.0)
if_stands t sites own true begins total k r b slot g within small ready h =
    let jump = to_block_stands t own true begins total (k + 1 + 1) b g (omega arith) h.1.1.0.fetch in
    let behind : own + 4 * (k + 1 + 1) ≡ own + 4 * k + 8 = omega arith in (
      record {
        is = bare_stands t sites own k (i.Combt 1 r 0 (pos 2)) (combt_range r small) h.0;
        jump = subst (λ (a : ℕ). JumpsTo t a 0 (t.mark b)) behind jump;
        slot = ap t.fetch (omega arith) ∙ word_settles t sites own (k + 1 + 1 + 1) (in_slot None) nop_ready h.1.1.1.0;
      },
      slot_stands t sites own k slot ready h.1.0,
    )

-- how what is left begins
abbrev pub Returns : Text → ℕ → ℕ → List Item → Type 0
Returns t own k rest = t.addresses.behind t.name (turns rest) ≡ own + 4 * k + 8

call_stands : (t : Text) (sites : Sites) (own : ℕ) (long : Bool) (begins : ℕ → ℕ) (total k link : ℕ) (s : Symbol) → Ground t own long begins total → k + 2 ≤ total → link < 32 → IsOfProgram s
    → WordHolds t sites own k (record { inst = i.Bl (pos 0) link false; relocation = Some (record { kind = kind.Bl; symbol = s; addend = 0 }) })
    → CallsSymbol t (own + 4 * k) link s
call_stands t sites own long begins total k link s g within small named h =
    let f : Fix = record { word = k; kind = kind.Bl; symbol = s; addend = 0 } in
    let e = known sites t own f s named h.known in
    let target = symbol_address sites own s in
    let aligned = g.aligned in
    let above = g.above in
    let below = g.below in
    let even : target % 4 ≡ 0 = e.1.0 in
    let low : text_start ≤ target = e.1.1 in
    let high : target < text_end = omega (arith, e.1.2) in
    record {
      target = target;
      is = e.0;
      jumps = jumps t own k link target ((target + 0) % 2 ^ 32) h.fetch (omega arith) aligned above (omega arith) even low (omega arith) small;
    }

bv_range : (n : Bool) → IsInRange (i.Bv 2 n)
unfolding IsInRange
bv_range n = omega arith

ble_range : IsInRange (i.Ble 22 false)
unfolding IsInRange
ble_range = omega arith

turn_stands : (t : Text) (sites : Sites) (own : ℕ) (begins : ℕ → ℕ) (total k : ℕ) (turn : Turn) (slot : Option Word) (rest : List Item) → Ground t own t.long begins total → k + turn_size t.long turn slot ≤ total
    → IsReadyTurn turn → IsReadySlot slot → (IsCalling (Turns turn slot) → Returns t own k rest) → WordsHold t sites own k (turn_words t.long begins k turn slot) → TurnStands t (own + 4 * k) turn slot rest
turn_stands t sites own begins total k (Back branch) slot rest g within ready filled behind h =
    (bare_stands t sites own k branch ready h.0, slot_stands t sites own k slot filled h.1.0)
turn_stands t sites own begins total k (Goto b) slot rest g within ready filled behind h =
    (to_block_stands t own t.long begins total k b g within h.0.fetch, slot_stands t sites own k slot filled h.1.0)
turn_stands t sites own begins total k (If r b) slot rest g within ready filled behind h =
    if_stands t sites own t.long begins total k r b slot g within ready filled h
turn_stands t sites own begins total k (CallTo s link) slot rest g within ready filled behind h =
    (call_stands t sites own t.long begins total k link s g within ready.0 ready.1 h.0, slot_stands t sites own k slot filled h.1.0, behind tt)
turn_stands t sites own begins total k CallReg slot rest g within ready filled behind h =
    (bare_stands t sites own k (i.Ble 22 false) ble_range h.0, slot_stands t sites own k slot filled h.1.0, behind tt)
turn_stands t sites own begins total k Leave None rest g within ready filled behind h =
    bare_stands t sites own k (i.Bv 2 true) (bv_range true) h.0
turn_stands t sites own begins total k Leave (Some w) rest g within ready filled behind h =
    (bare_stands t sites own k (i.Bv 2 false) (bv_range false) h.0, slot_stands t sites own k (Some w) filled h.1.0)

-- ---- items, from the word of a number on

pub record Left (t : Text) (sites : Sites) (own : ℕ) (long : Bool) (begins : ℕ → ℕ) (total k : ℕ) (items : List Item) : Type 0 where
  words : WordsHold t sites own k (words_from long begins k items)
  ready : AllByRecursion IsReadyItem items
  marks : AllByRecursion (λ b. begins b ≡ mark_at long k items b) (marks_of items)
  apart : AreApart (marks_of items)
  behind : (before rest : List Item) (item : Item) → IsCalling item → items ≡ before ++ item ∷ rest → Returns t own (k + sizes long before) rest
  within : k + sizes long items ≤ total

-- the words behind an item
words_behind : (t : Text) (sites : Sites) (own : ℕ) (long : Bool) (begins : ℕ → ℕ) (k : ℕ) (item : Item) (rest : List Item) → WordsHold t sites own k (words_from long begins k (item ∷ rest))
    → WordsHold t sites own k (item_words long begins k item) × WordsHold t sites own (k + size long item) (words_from long begins (k + size long item) rest)
words_behind t sites own long begins k item rest h =
    let both = hold_split t sites own k (item_words long begins k item) (words_from long begins (k + size long item) rest) h in
    (both.0, subst (λ (n : ℕ). WordsHold t sites own (k + n) (words_from long begins (k + size long item) rest)) (item_length long begins k item) both.1)

returns_behind : (t : Text) (own : ℕ) (long : Bool) (k : ℕ) (first : Item) (items : List Item)
    → ((before rest : List Item) (item : Item) → IsCalling item → first ∷ items ≡ before ++ item ∷ rest → Returns t own (k + sizes long before) rest)
    → (before rest : List Item) (item : Item) → IsCalling item → items ≡ before ++ item ∷ rest → Returns t own (k + size long first + sizes long before) rest
returns_behind t own long k first items behind before rest item calling e =
    let h = behind (first ∷ before) rest item calling (ap (λ (l : List Item). first ∷ l) e) in
    omega (arith, h, sum_by-cons (size long) first before)

within_behind : (long : Bool) (total k : ℕ) (item : Item) (rest : List Item) → k + sizes long (item ∷ rest) ≤ total → k + size long item + sizes long rest ≤ total
within_behind long total k item rest h = omega (arith, h, sum_by-cons (size long) item rest)

if_same : (k v m : ℕ) → (if m == m then k else v) ≡ k
if_same k v m = ap (λ (t : Bool). if t then k else v) (eq-eqb m m refl)

if_other : (k v m b : ℕ) → m ≢ b → (if m == b then k else v) ≡ v
if_other k v m b other = ap (λ (t : Bool). if t then k else v) (ne_eqb m b other)

-- where the marks behind a mark are
other_marks : (long : Bool) (begins : ℕ → ℕ) (k m : ℕ) (rest : List Item) (bs : List ℕ) → AllByRecursion (λ b. m ≢ b) bs → AllByRecursion (λ b. begins b ≡ mark_at long k (Mark m ∷ rest) b) bs
    → AllByRecursion (λ b. begins b ≡ mark_at long k rest b) bs
other_marks long begins k m rest [] apart at = tt
other_marks long begins k m rest (b ∷ bs) apart at = (at.0 ∙ if_other k (mark_at long k rest b) m b apart.0, other_marks long begins k m rest bs apart.1 at.1)

stands : (t : Text) (sites : Sites) (own : ℕ) (begins : ℕ → ℕ) (total : ℕ) → Ground t own t.long begins total → (k : ℕ) (items : List Item) → Left t sites own t.long begins total k items → StandsAt t (own + 4 * k) items
stands t sites own begins total g k [] l = tt
stands t sites own begins total g k (Plain w ∷ rest) l =
    let next : own + 4 * (k + 1) ≡ own + 4 * k + 4 = omega arith in
    let left : Left t sites own t.long begins total (k + 1) rest = record {
      words = l.words.1;
      ready = l.ready.1;
      marks = l.marks;
      apart = l.apart;
      behind = returns_behind t own t.long k (Plain w) rest l.behind;
      within = within_behind t.long total k (Plain w) rest l.within;
    } in
    (word_settles t sites own k w l.ready.0 l.words.0, subst (λ (a : ℕ). StandsAt t a rest) next (stands t sites own begins total g (k + 1) rest left))
stands t sites own begins total g k (Turns turn slot ∷ rest) l =
    let n = turn_size t.long turn slot in
    let words = words_behind t sites own t.long begins k (Turns turn slot) rest l.words in
    let next : own + 4 * (k + n) ≡ own + 4 * k + 4 * n = omega arith in
    let within = within_behind t.long total k (Turns turn slot) rest l.within in
    let back : IsCalling (Turns turn slot) → Returns t own k rest = λ calling. omega (arith, l.behind [] rest (Turns turn slot) calling refl) in
    let left : Left t sites own t.long begins total (k + n) rest = record {
      words = words.1;
      ready = l.ready.1;
      marks = l.marks;
      apart = l.apart;
      behind = returns_behind t own t.long k (Turns turn slot) rest l.behind;
      within = within;
    } in (
      turn_stands t sites own begins total k turn slot rest g (omega (arith, within)) l.ready.0.0 l.ready.0.1 back words.0,
      subst (λ (a : ℕ). StandsAt t a rest) next (stands t sites own begins total g (k + n) rest left),
    )
stands t sites own begins total g k (Mark m ∷ rest) l =
    let same : k + 0 ≡ k = omega arith in
    let here : t.mark m ≡ own + 4 * k = g.marks m ∙ ap (λ (n : ℕ). own + 4 * n) (l.marks.0 ∙ if_same k (mark_at t.long k rest m) m) in
    let left : Left t sites own t.long begins total k rest = record {
      words = subst (λ (n : ℕ). WordsHold t sites own k (words_from t.long begins n rest)) same l.words;
      ready = l.ready.1;
      marks = other_marks t.long begins k m rest (marks_of rest) l.apart.0 l.marks.1;
      apart = l.apart.1;
      behind = λ before after item calling e. subst (λ (n : ℕ). Returns t own (n + sizes t.long before) after) same (returns_behind t own t.long k (Mark m) rest l.behind before after item calling e);
      within = omega (arith, within_behind t.long total k (Mark m) rest l.within);
    } in
    (here, stands t sites own begins total g k rest left)

-- ---- all of them

words_count : (long : Bool) (begins : ℕ → ℕ) (k : ℕ) (items : List Item) → length (words_from long begins k items) ≡ sizes long items
words_count long begins k [] = refl
words_count long begins k (x ∷ xs) =
    let rest = words_from long begins (k + size long x) xs in
    omega (arith, sum_by-cons (size long) x xs, item_length long begins k x, words_count long begins (k + size long x) xs, length-append (item_words long begins k x) rest)

each_is : (long : Bool) (items : List Item) (bs : List ℕ) → AllByRecursion (λ b. mark_at long 0 items b ≡ mark_at long 0 items b) bs
each_is long items [] = tt
each_is long items (b ∷ bs) = (refl, each_is long items bs)

-- what is known of code with short branches, or with long ones
pub record Laid (t : Text) (sites : Sites) (own : ℕ) (items : List Item) (long : Bool) : Type 0 where
  ground : Ground t own long (mark_at long 0 items) (sizes long items)
  left : Left t sites own long (mark_at long 0 items) (sizes long items) 0 items

laid_so : (ls : List Line) (t : Text) (sites : Sites) (own : ℕ) → AreReady ls → StandAt t sites own ls → Laid t sites own (arranged ls) (is_long ls)
unfolding placed laid
laid_so ls t sites own ready at =
    let items = arranged ls in
    let long = is_long ls in
    let begins = mark_at long 0 items in
    let ws = words_from long begins 0 items in
    let count : length (map (λ w. word_of w.inst) ws) ≡ sizes long items = length-map ws (λ (w : Word). word_of w.inst) ∙ words_count long begins 0 items in
    let total = words_count long begins 0 items in
    record {
      ground = record {
        aligned = at.aligned;
        above = at.above;
        below = omega (arith, at.below, count);
        marks = at.marks;
        begun = λ b. omega (arith, mark_at_within long 0 items b);
        short = λ e. subst (λ (b : Bool). sizes b items ≤ short_limit) (sym e)
            (omega (arith, sizes_shrink false false (slotted ls), ltb-false short_limit (sizes false (slotted ls)) e));
      };
      left = record {
        words = hold_from t sites own 0 ws
            (λ i lt.
            ap (λ (n : ℕ). t.fetch (own + 4 * n)) (omega arith)
            ∙ at.words i (omega (arith, lt, total, count))
            ∙ ap (λ (l : List ℕ). decoded (get_or l i 0)) (fixes_act sites own [] 0 ws refl))
            at.symbols;
        ready = arranged_ready ls ready.each;
        marks = each_is long items (marks_of items);
        apart = subst AreApart (sym (arranged_marks ls)) ready.labels;
        behind = λ before rest item calling e. omega (arith, at.behind before rest item calling e);
        within = omega arith;
      };
    }

pub placed_code_stands : PlacedCodeStands
placed_code_stands ls t sites own ready at =
    let items = arranged ls in
    let l = subst (Laid t sites own items) (sym at.long) (laid_so ls t sites own ready at) in
    subst (λ (a : ℕ). StandsAt t a items) (omega arith)
    (stands t sites own (mark_at t.long 0 items) (sizes t.long items) l.ground 0 items l.left)
