-- A function whose items keep the stack pointer is leveled.
use Rattle.std.specs.Prelude.{ℕ, zero, suc, ◌≡◌, ◌≢◌, ◌+◌, ◌-◌, ◌<◌, ◌≤◌, ◌⊎◌, ◌^◌, nat_le, Bool, true, false, if◌then◌else◌, Option, Some, None, List, [], ◌∷◌, ◌++◌, length}
use Rattle.std.specs.List.{list_all}
use Rattle.std.proofs.Common.{arith, subst, sym, ap, refl, ◌∙◌, inl, inr, length-append}
use Rattle.std.proofs.lemmas.Bool.{le-leb, lt-leb, cases_lt}
use Rattle.std.proofs.lemmas.List.{append_assoc}
use Rattle.pw_delay.specs.declared.items.Word.{Word}
use Rattle.pw_delay.specs.declared.items.Turn.{Turn}
use Rattle.pw_delay.specs.declared.items.Turn.TheVariants.{Back, Goto, If, CallTo, CallReg, Leave}
use Rattle.pw_delay.specs.declared.items.Item.{Item}
use Rattle.pw_delay.specs.declared.items.Item.TheVariants.{Plain, Turns, Mark}
use Rattle.pw_delay.specs.Placement.{size}
use Rattle.pw_run_languages.specs.Acts as lines
use Rattle.pw_run_languages.specs.Acts.{Acts, acts, settled}
use Rattle.pw_run_languages.specs.LineRun.{LineFn, is_plain, back_over}
use Rattle.pw_law_link_run.specs.Steps.{Setting}
use Rattle.pw_law_link_run.specs.Placing.{name_in, words_of, Parts}
use Rattle.pw_law_link_run.specs.Meeting.{IsTurning}
use Rattle.pw_law_link_run.specs.Leveled.{IsRaised, Level, HoldsAt, IsCold, IsApart, IsLeveled}
use Rattle.pw_law_slots.specs.Found.{GoesOver}
use Rattle.pw_law_levels.specs.Bodies.{Leads, Raises, first_level, LeavesPointer, StartsLeave, Keeps, BlockFirst, IsPointed}
use Rattle.pw_law_levels.proofs.Splits.{Behind, behind, Within, within}
use Rattle.pw_law_levels.proofs.Cold.{more, joined, cold_behind, AreWords, cold_first}

-- ---- levels

abbrev up : Level
up = record { raised = Some true; bounded = true; clear = false; help = None }

-- nothing is known of the pointer
abbrev open_level : Level
open_level = record { raised = None; bounded = false; clear = false; help = None }

-- behind the entry
abbrev body_level : List Item → Level
body_level [] = up
body_level (Plain w ∷ rest) = up
body_level (Mark b ∷ rest) = up
body_level (Turns Leave None ∷ rest) = open_level
body_level (Turns Leave (Some w) ∷ rest) = up
body_level (Turns (Back i) slot ∷ rest) = up
body_level (Turns (Goto b) slot ∷ rest) = up
body_level (Turns (If r b) slot ∷ rest) = up
body_level (Turns (CallTo s link) slot ∷ rest) = up
body_level (Turns CallReg slot ∷ rest) = up

-- inside it, behind so many words
abbrev entry_level : (x : Setting) (f : LineFn) (n : ℕ) (l : Level) (entry : List Item) → Raises x f l entry → Level
entry_level x f zero l entry h = l
entry_level x f (suc n) l [] h = l
entry_level x f (suc n) l (Plain w ∷ rest) h = entry_level x f n h.0 rest h.2
entry_level x f (suc n) l (Mark b ∷ rest) h = l
entry_level x f (suc n) l (Turns turn slot ∷ rest) h = l

abbrev level_at : (x : Setting) (f : LineFn) → IsPointed x f → List Item → Level
level_at x f p left =
    if nat_le (length left) (length p.body) then body_level left else entry_level x f (length f.items - length left) first_level p.entry p.raises

at_body : (x : Setting) (f : LineFn) (p : IsPointed x f) (left : List Item) → length left ≤ length p.body → level_at x f p left ≡ body_level left
at_body x f p left le =
    let is : nat_le (length left) (length p.body) ≡ true = le-leb (length left) (length p.body) le in
    ap (λ (b : Bool). if b then body_level left else entry_level x f (length f.items - length left) first_level p.entry p.raises) is

at_entry : (x : Setting) (f : LineFn) (p : IsPointed x f) (left : List Item) (n : ℕ) → length p.body < length left → length f.items - length left ≡ n
    → level_at x f p left ≡ entry_level x f n first_level p.entry p.raises
at_entry x f p left n lt e =
    let is : nat_le (length left) (length p.body) ≡ false = lt-leb (length left) (length p.body) lt in
    ap (λ (b : Bool). if b then body_level left else entry_level x f (length f.items - length left) first_level p.entry p.raises) is
    ∙ ap (λ (n : ℕ). entry_level x f n first_level p.entry p.raises) e

-- ---- what holds where the pointer is at the end of the frame

up_holds : (x : Setting) (f : LineFn) (stack : ℕ) (c : lines.Core) → IsRaised x f stack c → HoldsAt x f up stack c
up_holds x f stack c r = record {
  small = let high = r.bounds.high in omega (arith, high);
  pointer = r.pointer;
  bounds = λ e. r.bounds;
  clear = λ e. absurd cc;
  help = tt;
}

open_holds : (x : Setting) (f : LineFn) (stack : ℕ) (c : lines.Core) → stack < 2 ^ 32 → HoldsAt x f open_level stack c
open_holds x f stack c small = record { small = small; pointer = tt; bounds = λ e. absurd cc; clear = λ e. absurd cc; help = tt }

body_holds : (x : Setting) (f : LineFn) (left : List Item) (stack : ℕ) (c : lines.Core) → IsRaised x f stack c → HoldsAt x f (body_level left) stack c
body_holds x f [] stack c r = up_holds x f stack c r
body_holds x f (Plain w ∷ rest) stack c r = up_holds x f stack c r
body_holds x f (Mark b ∷ rest) stack c r = up_holds x f stack c r
body_holds x f (Turns Leave None ∷ rest) stack c r = open_holds x f stack c (let high = r.bounds.high in omega (arith, high))
body_holds x f (Turns Leave (Some w) ∷ rest) stack c r = up_holds x f stack c r
body_holds x f (Turns (Back i) slot ∷ rest) stack c r = up_holds x f stack c r
body_holds x f (Turns (Goto b) slot ∷ rest) stack c r = up_holds x f stack c r
body_holds x f (Turns (If r' b) slot ∷ rest) stack c r = up_holds x f stack c r
body_holds x f (Turns (CallTo s link) slot ∷ rest) stack c r = up_holds x f stack c r
body_holds x f (Turns CallReg slot ∷ rest) stack c r = up_holds x f stack c r

up_raised : (x : Setting) (f : LineFn) (stack : ℕ) (c : lines.Core) → HoldsAt x f up stack c → IsRaised x f stack c
up_raised x f stack c h = record { bounds = h.bounds refl; pointer = h.pointer }

-- ---- places in the body

abbrev InBody : (x : Setting) (f : LineFn) → IsPointed x f → List Item → Type 0
InBody x f p left = length left ≤ length p.body

place : (x : Setting) (f : LineFn) (p : IsPointed x f) (before left : List Item) → Parts f before left → InBody x f p left → Behind p.entry p.body before left
place x f p before left parts le = behind p.entry p.body before left (sym p.items ∙ parts) le

-- what is left of the body keeps the pointer
record Kept (x : Setting) (left : List Item) : Type 0 where
  pub word : Bool
  pub keeps : Keeps x word left

keeps_behind : (x : Setting) (word : Bool) (mid left : List Item) → Keeps x word (mid ++ left) → Kept x left
keeps_behind x word [] left h = record { word = word; keeps = h }
keeps_behind x word (Plain w ∷ mid) left h = keeps_behind x true mid left h.1
keeps_behind x word (Mark b ∷ mid) left h = keeps_behind x false mid left h
keeps_behind x word (Turns Leave None ∷ mid) left h = keeps_behind x false mid left h.1
keeps_behind x word (Turns Leave (Some w) ∷ mid) left h = keeps_behind x false mid left h
keeps_behind x word (Turns (Back i) None ∷ mid) left h = keeps_behind x false mid left h
keeps_behind x word (Turns (Back i) (Some w) ∷ mid) left h = keeps_behind x false mid left h.1
keeps_behind x word (Turns (Goto b) None ∷ mid) left h = keeps_behind x false mid left h
keeps_behind x word (Turns (Goto b) (Some w) ∷ mid) left h = keeps_behind x false mid left h.1
keeps_behind x word (Turns (If r b) None ∷ mid) left h = keeps_behind x false mid left h
keeps_behind x word (Turns (If r b) (Some w) ∷ mid) left h = keeps_behind x false mid left h.1
keeps_behind x word (Turns (CallTo s link) None ∷ mid) left h = keeps_behind x false mid left h
keeps_behind x word (Turns (CallTo s link) (Some w) ∷ mid) left h = keeps_behind x false mid left h.1
keeps_behind x word (Turns CallReg None ∷ mid) left h = keeps_behind x false mid left h
keeps_behind x word (Turns CallReg (Some w) ∷ mid) left h = keeps_behind x false mid left h.1

kept : (x : Setting) (f : LineFn) (p : IsPointed x f) (before left : List Item) → Parts f before left → InBody x f p left → Kept x left
kept x f p before left parts le =
    let b = place x f p before left parts le in
    keeps_behind x false b.mid left (subst (λ items. Keeps x false items) b.body_is p.keeps)

-- a word stands before a return
record WordBefore (mid : List Item) : Type 0 where
  pub before : List Item
  pub word : Word
  pub is : mid ≡ before ++ Plain word ∷ []

word_more : (i : Item) (mid : List Item) → WordBefore mid → WordBefore (i ∷ mid)
word_more i mid h = record { before = i ∷ h.before; word = h.word; is = ap (λ r. i ∷ r) h.is }

-- by the flag, where nothing stands between
abbrev FlagOr : Bool → List Item → Type 0
FlagOr word [] = word ≡ true
FlagOr word (i ∷ mid) = WordBefore (i ∷ mid)

flag_word : (w : Word) (mid : List Item) → FlagOr true mid → WordBefore (Plain w ∷ mid)
flag_word w [] h = record { before = []; word = w; is = refl }
flag_word w (i ∷ mid) h = word_more (Plain w) (i ∷ mid) h

flag_other : (i : Item) (mid : List Item) → FlagOr false mid → WordBefore (i ∷ mid)
flag_other i [] h = absurd cc
flag_other i (j ∷ mid) h = word_more i (j ∷ mid) h

leave_before : (x : Setting) (word : Bool) (mid rest : List Item) → Keeps x word (mid ++ Turns Leave None ∷ rest) → FlagOr word mid
leave_before x word [] rest h = h.0
leave_before x word (Plain w ∷ mid) rest h = flag_word w mid (leave_before x true mid rest h.1)
leave_before x word (Mark b ∷ mid) rest h = flag_other (Mark b) mid (leave_before x false mid rest h)
leave_before x word (Turns Leave None ∷ mid) rest h = flag_other (Turns Leave None) mid (leave_before x false mid rest h.1)
leave_before x word (Turns Leave (Some w) ∷ mid) rest h = flag_other (Turns Leave (Some w)) mid (leave_before x false mid rest h)
leave_before x word (Turns (Back i) None ∷ mid) rest h = flag_other (Turns (Back i) None) mid (leave_before x false mid rest h)
leave_before x word (Turns (Back i) (Some w) ∷ mid) rest h = flag_other (Turns (Back i) (Some w)) mid (leave_before x false mid rest h.1)
leave_before x word (Turns (Goto b) None ∷ mid) rest h = flag_other (Turns (Goto b) None) mid (leave_before x false mid rest h)
leave_before x word (Turns (Goto b) (Some w) ∷ mid) rest h = flag_other (Turns (Goto b) (Some w)) mid (leave_before x false mid rest h.1)
leave_before x word (Turns (If r b) None ∷ mid) rest h = flag_other (Turns (If r b) None) mid (leave_before x false mid rest h)
leave_before x word (Turns (If r b) (Some w) ∷ mid) rest h = flag_other (Turns (If r b) (Some w)) mid (leave_before x false mid rest h.1)
leave_before x word (Turns (CallTo s link) None ∷ mid) rest h = flag_other (Turns (CallTo s link) None) mid (leave_before x false mid rest h)
leave_before x word (Turns (CallTo s link) (Some w) ∷ mid) rest h = flag_other (Turns (CallTo s link) (Some w)) mid (leave_before x false mid rest h.1)
leave_before x word (Turns CallReg None ∷ mid) rest h = flag_other (Turns CallReg None) mid (leave_before x false mid rest h)
leave_before x word (Turns CallReg (Some w) ∷ mid) rest h = flag_other (Turns CallReg (Some w)) mid (leave_before x false mid rest h.1)

flag_false : (mid : List Item) → FlagOr false mid → WordBefore mid
flag_false [] h = absurd cc
flag_false (i ∷ mid) h = h

-- no call leads to a return without a word in its slot, nor behind it
leave_cold : (x : Setting) (f : LineFn) (p : IsPointed x f) (before rest : List Item) → Parts f before (Turns Leave None ∷ rest) → InBody x f p (Turns Leave None ∷ rest)
    → IsCold x f (words_of x f before) × IsCold x f (words_of x f before + 1)
leave_cold x f p before rest parts le =
    let long = x.long (name_in f) in
    let item = Turns Leave None in
    let b = place x f p before (item ∷ rest) parts le in
    let w = flag_false b.mid (leave_before x false b.mid rest (subst (λ items. Keeps x false items) b.body_is p.keeps)) in
    let first = p.entry ++ w.before in
    let before_is : before ≡ first ++ Plain w.word ∷ [] = b.before_is ∙ (ap (λ m. p.entry ++ m) w.is ∙ sym (append_assoc p.entry w.before (Plain w.word ∷ []))) in
    let parts_word : f.items ≡ first ++ Plain w.word ∷ (item ∷ rest) =
    parts ∙ (ap (λ b. b ++ item ∷ rest) before_is ∙ append_assoc first (Plain w.word ∷ []) (item ∷ rest)) in
    let one : words_of x f before + 1 ≡ words_of x f (before ++ item ∷ []) = omega (arith, joined long before (item ∷ []), more long item []) in (
      cold_behind x f first (item ∷ rest) (Plain w.word) (words_of x f before) parts_word (λ call. call) (omega arith) (ap (words_of x f) before_is),
      cold_behind x f before rest item (words_of x f before + 1) parts (λ call. call) (omega arith) one,
    )

-- ---- places in the entry

entry_words : (x : Setting) (f : LineFn) (l : Level) (before rest : List Item) → Raises x f l (before ++ rest) → AreWords before
entry_words x f l [] rest h = tt
entry_words x f l (Plain w ∷ before) rest h = entry_words x f h.0 before rest h.2
entry_words x f l (Mark b ∷ before) rest h = absurd h
entry_words x f l (Turns turn slot ∷ before) rest h = absurd h

-- the item there is a word, from one level to the next
record EntryWord (x : Setting) (f : LineFn) (l next : Level) (item : Item) : Type 0 where
  pub word : Word
  pub is : item ≡ Plain word
  pub leads : Leads x f l word next

entry_word : (x : Setting) (f : LineFn) (l : Level) (entry before rest : List Item) (item : Item) → entry ≡ before ++ item ∷ rest → (h : Raises x f l entry)
    → EntryWord x f (entry_level x f (length before) l entry h) (entry_level x f (suc (length before)) l entry h) item
entry_word x f l [] [] rest item e h = absurd cc
entry_word x f l [] (b ∷ before) rest item e h = absurd cc
entry_word x f l (Plain w ∷ entry) [] rest item e h = let same : item ≡ Plain w = cc in record { word = w; is = same; leads = h.1 }
entry_word x f l (Plain w ∷ entry) (b ∷ before) rest item e h =
    let tail : entry ≡ before ++ item ∷ rest = cc in
    entry_word x f h.0 entry before rest item tail h.2
entry_word x f l (Mark b ∷ entry) before rest item e h = absurd h
entry_word x f l (Turns turn slot ∷ entry) before rest item e h = absurd h

-- behind its last word
entry_last : (x : Setting) (f : LineFn) (l : Level) (entry : List Item) (h : Raises x f l entry) (stack : ℕ) (c : lines.Core) → HoldsAt x f (entry_level x f (length entry) l entry h) stack c
    → IsRaised x f stack c
entry_last x f l [] h stack c holds = h stack c holds
entry_last x f l (Plain w ∷ entry) h stack c holds = entry_last x f h.0 entry h.2 stack c holds
entry_last x f l (Mark b ∷ entry) h stack c holds = absurd h
entry_last x f l (Turns turn slot ∷ entry) h stack c holds = absurd h

-- how far a place in it is from the beginning
entry_count : (x : Setting) (f : LineFn) (before left : List Item) → Parts f before left → length f.items - length left ≡ length before
entry_count x f before left parts =
    let size : length f.items ≡ length before + length left = ap length parts ∙ length-append before left in
    omega (arith, size)

entry_place : (x : Setting) (f : LineFn) (p : IsPointed x f) (before left : List Item) → Parts f before left → length p.body < length left → Within p.entry p.body before left
entry_place x f p before left parts lt = within p.entry p.body before left (sym p.items ∙ parts) lt

-- a word of it
entry_goes : (x : Setting) (f : LineFn) (p : IsPointed x f) (before rest : List Item) (w : Word) (stack : ℕ) (c d : lines.Core) → Parts f before (Plain w ∷ rest)
    → length p.body < length (Plain w ∷ rest) → HoldsAt x f (level_at x f p (Plain w ∷ rest)) stack c → acts x.addresses (settled x.addresses w) c ≡ Acts d
    → HoldsAt x f (level_at x f p rest) stack d
entry_goes x f p before rest w stack c d parts lt holds act =
    let n = length before in
    let entry = p.entry in
    let here = entry_place x f p before (Plain w ∷ rest) parts lt in
    let step = entry_word x f first_level entry before here.rest here.item here.entry_is p.raises in
    let left_is : Plain w ∷ rest ≡ here.item ∷ (here.rest ++ p.body) = here.left_is in
    let first : Plain w ≡ here.item = cc in
    let same : Plain w ≡ Plain step.word = first ∙ step.is in
    let word : w ≡ step.word = cc in
    let rest_is : rest ≡ here.rest ++ p.body = cc in
    let from = subst (λ l. HoldsAt x f l stack c) (at_entry x f p (Plain w ∷ rest) n lt (entry_count x f before (Plain w ∷ rest) parts)) holds in
    let to = step.leads stack c d from (subst (λ w. acts x.addresses (settled x.addresses w) c ≡ Acts d) word act) in
    let sizes : length entry ≡ n + length (here.item ∷ here.rest) = ap length here.entry_is ∙ length-append before (here.item ∷ here.rest) in
    let left_size : length rest ≡ length here.rest + length p.body = ap length rest_is ∙ length-append here.rest p.body in
    let total : length f.items ≡ n + length (Plain w ∷ rest) = ap length parts ∙ length-append before (Plain w ∷ rest) in
    elim (cases_lt (length p.body) (length rest)) [
      | inl longer ↦ subst (λ l. HoldsAt x f l stack d) (sym (at_entry x f p rest (suc n) longer (omega (arith, total)))) to
      | inr no_more ↦
          let last : suc n ≡ length entry = omega (arith, sizes, left_size, no_more) in
          let raised = entry_last x f first_level entry p.raises stack d (subst (λ k. HoldsAt x f (entry_level x f k first_level entry p.raises) stack d) last to) in
          subst (λ l. HoldsAt x f l stack d) (sym (at_body x f p rest (omega (arith, no_more)))) (body_holds x f rest stack d raised)
    ]

-- ---- words

behind_word : (x : Setting) (f : LineFn) (w : Word) (rest : List Item) (stack : ℕ) (c d : lines.Core) → LeavesPointer x w ⊎ StartsLeave rest → IsRaised x f stack c
    → acts x.addresses (settled x.addresses w) c ≡ Acts d → HoldsAt x f (body_level rest) stack d
behind_word x f w rest stack c d (inl leaves) r act = body_holds x f rest stack d (record { bounds = r.bounds; pointer = leaves c d act ∙ r.pointer })
behind_word x f w (Turns Leave None ∷ rest) stack c d (inr starts) r act = open_holds x f stack d (let high = r.bounds.high in omega (arith, high))
behind_word x f w (Turns Leave (Some v) ∷ rest) stack c d (inr starts) r act = absurd starts
behind_word x f w [] stack c d (inr starts) r act = absurd starts
behind_word x f w (Plain v ∷ rest) stack c d (inr starts) r act = absurd starts
behind_word x f w (Mark b ∷ rest) stack c d (inr starts) r act = absurd starts
behind_word x f w (Turns (Back i) slot ∷ rest) stack c d (inr starts) r act = absurd starts
behind_word x f w (Turns (Goto b) slot ∷ rest) stack c d (inr starts) r act = absurd starts
behind_word x f w (Turns (If q b) slot ∷ rest) stack c d (inr starts) r act = absurd starts
behind_word x f w (Turns (CallTo s link) slot ∷ rest) stack c d (inr starts) r act = absurd starts
behind_word x f w (Turns CallReg slot ∷ rest) stack c d (inr starts) r act = absurd starts

word_goes : (x : Setting) (f : LineFn) (p : IsPointed x f) (before rest : List Item) (w : Word) (stack : ℕ) (c d : lines.Core) → Parts f before (Plain w ∷ rest)
    → HoldsAt x f (level_at x f p (Plain w ∷ rest)) stack c → acts x.addresses (settled x.addresses w) c ≡ Acts d → HoldsAt x f (level_at x f p rest) stack d
word_goes x f p before rest w stack c d parts holds act =
    elim (cases_lt (length p.body) (length (Plain w ∷ rest))) [
      | inl lt ↦ entry_goes x f p before rest w stack c d parts lt holds act
      | inr inside ↦
          let le : InBody x f p (Plain w ∷ rest) = omega (arith, inside) in
          let raised = up_raised x f stack c (subst (λ l. HoldsAt x f l stack c) (at_body x f p (Plain w ∷ rest) le) holds) in
          let k = kept x f p before (Plain w ∷ rest) parts le in
          subst (λ l. HoldsAt x f l stack d) (sym (at_body x f p rest (omega (arith, inside)))) (behind_word x f w rest stack c d k.keeps.0 raised act)
    ]

-- ---- blocks and turns: they stand in the body

not_word : (x : Setting) (f : LineFn) (p : IsPointed x f) (before rest : List Item) (item : Item) → Parts f before (item ∷ rest) → ((w : Word) → item ≢ Plain w) → InBody x f p (item ∷ rest)
not_word x f p before rest item parts differs =
    elim (cases_lt (length p.body) (length (item ∷ rest))) [
      | inl lt ↦
          let here = entry_place x f p before (item ∷ rest) parts lt in
          let step = entry_word x f first_level p.entry before here.rest here.item here.entry_is p.raises in
          let left_is : item ∷ rest ≡ here.item ∷ (here.rest ++ p.body) = here.left_is in
          let first : item ≡ here.item = cc in
          absurd (differs step.word (first ∙ step.is))
      | inr le ↦ omega (arith, le)
    ]

turning_no_word : (item : Item) → IsTurning item → (w : Word) → item ≢ Plain w
turning_no_word (Turns turn slot) h w e = cc
turning_no_word (Plain v) h w e = absurd h
turning_no_word (Mark b) h w e = absurd h

turning_level : (item : Item) (rest : List Item) → IsTurning item → body_level (item ∷ rest) ≡ up
turning_level (Turns (Back i) slot) rest h = refl
turning_level (Turns (Goto b) slot) rest h = refl
turning_level (Turns (If r b) slot) rest h = refl
turning_level (Turns (CallTo s link) slot) rest h = refl
turning_level (Turns CallReg slot) rest h = refl
turning_level (Turns Leave slot) rest h = absurd h
turning_level (Plain v) rest h = absurd h
turning_level (Mark b) rest h = absurd h

raised_in : (x : Setting) (f : LineFn) (p : IsPointed x f) (left : List Item) (stack : ℕ) (c : lines.Core) → InBody x f p left → body_level left ≡ up → HoldsAt x f (level_at x f p left) stack c
    → IsRaised x f stack c
raised_in x f p left stack c le is holds = up_raised x f stack c (subst (λ l. HoldsAt x f l stack c) (at_body x f p left le ∙ is) holds)

behind_in : (x : Setting) (f : LineFn) (p : IsPointed x f) (left : List Item) (stack : ℕ) (c : lines.Core) → InBody x f p left → IsRaised x f stack c
    → HoldsAt x f (level_at x f p left) stack c
behind_in x f p left stack c le raised = subst (λ l. HoldsAt x f l stack c) (sym (at_body x f p left le)) (body_holds x f left stack c raised)

shorter : (x : Setting) (f : LineFn) (p : IsPointed x f) (item : Item) (rest : List Item) → InBody x f p (item ∷ rest) → InBody x f p rest
shorter x f p item rest le = omega (arith, le)

slot_leaves : (x : Setting) (word : Bool) (turn : Turn) (w : Word) (rest : List Item) → IsTurning (Turns turn (Some w)) → Keeps x word (Turns turn (Some w) ∷ rest) → LeavesPointer x w
slot_leaves x word (Back i) w rest t h = h.0
slot_leaves x word (Goto b) w rest t h = h.0
slot_leaves x word (If r b) w rest t h = h.0
slot_leaves x word (CallTo s link) w rest t h = h.0
slot_leaves x word CallReg w rest t h = h.0
slot_leaves x word Leave w rest t h = absurd t

-- ---- loops

-- what pw_law_slots promises of branches back
abbrev pub BackGoesOver : Type 0
BackGoesOver = (items before here from : List Item) (n : ℕ) → items ≡ before ++ here → back_over n here items ≡ Some from → GoesOver before here from n

-- words alone lead to a turn only where no block begins first
words_no_block : (words rest : List Item) (item : Item) → IsTurning item → list_all is_plain words ≡ true → BlockFirst (words ++ item ∷ rest) → ⊥
words_no_block [] rest (Turns turn slot) turning plain first = first
words_no_block [] rest (Plain w) turning plain first = turning
words_no_block [] rest (Mark b) turning plain first = turning
words_no_block (Plain w ∷ words) rest item turning plain first = words_no_block words rest item turning plain first
words_no_block (Mark b ∷ words) rest item turning plain first = absurd cc
words_no_block (Turns turn slot ∷ words) rest item turning plain first = absurd first

block_first : (x : Setting) (f : LineFn) (l : Level) (entry body : List Item) → Raises x f l entry → BlockFirst body → BlockFirst (entry ++ body)
block_first x f l [] body h first = first
block_first x f l (Plain w ∷ entry) body h first = block_first x f h.0 entry body h.2 first
block_first x f l (Mark b ∷ entry) body h first = absurd h
block_first x f l (Turns turn slot ∷ entry) body h first = absurd h

-- what is left of the entry, with the body behind it
entry_rest : (x : Setting) (f : LineFn) (l : Level) (before rest body : List Item) → Raises x f l (before ++ rest) → BlockFirst body → BlockFirst (rest ++ body)
entry_rest x f l [] rest body h first = block_first x f l rest body h first
entry_rest x f l (Plain w ∷ before) rest body h first = entry_rest x f h.0 before rest body h.2 first
entry_rest x f l (Mark b ∷ before) rest body h first = absurd h
entry_rest x f l (Turns turn slot ∷ before) rest body h first = absurd h

-- a loop goes back to a place in the body
loop_place : BackGoesOver → (x : Setting) (f : LineFn) (p : IsPointed x f) (before rest from : List Item) (item : Item) (n : ℕ) → Parts f before (item ∷ rest) → IsTurning item
    → back_over n (item ∷ rest) f.items ≡ Some from → InBody x f p from
loop_place over x f p before rest from item n parts turning e =
    let o = over f.items before (item ∷ rest) from n parts e in
    let items_are : f.items ≡ o.start ++ from =
    parts ∙ ap (λ (b : List Item). b ++ item ∷ rest) o.parts ∙ append_assoc o.start o.words (item ∷ rest) ∙ ap (λ (l : List Item). o.start ++ l) (sym o.from_is) in
    elim (cases_lt (length p.body) (length from)) [
      | inl lt ↦
          let here = within p.entry p.body o.start from (sym p.items ∙ items_are) lt in
          let first : BlockFirst from =
          subst (λ items. BlockFirst items) (sym here.left_is)
          (entry_rest x f first_level o.start (here.item ∷ here.rest) p.body (subst (λ entry. Raises x f first_level entry) here.entry_is p.raises) p.first) in
          absurd (words_no_block o.words rest item turning o.plain (subst (λ items. BlockFirst items) o.from_is first))
      | inr le ↦ omega (arith, le)
    ]

-- ---- where no call seems to return

quiet_up : (x : Setting) (f : LineFn) → IsPointed x f → (before : List Item) (stack : ℕ) (c : lines.Core) → IsRaised x f stack c → IsApart x f (words_of x f before) stack c
quiet_up x f p before stack c r =
    let some = p.frame in
    let pointer = r.pointer in
    inl (omega (arith, some, pointer))

quiet_body : (x : Setting) (f : LineFn) (p : IsPointed x f) (before left : List Item) (stack : ℕ) (c : lines.Core) → Parts f before left → InBody x f p left
    → HoldsAt x f (body_level left) stack c → IsApart x f (words_of x f before) stack c
quiet_body x f p before (Turns Leave None ∷ rest) stack c parts le holds = inr (leave_cold x f p before rest parts le).0
quiet_body x f p before (Turns Leave (Some w) ∷ rest) stack c parts le holds = quiet_up x f p before stack c (up_raised x f stack c holds)
quiet_body x f p before [] stack c parts le holds = quiet_up x f p before stack c (up_raised x f stack c holds)
quiet_body x f p before (Plain w ∷ rest) stack c parts le holds = quiet_up x f p before stack c (up_raised x f stack c holds)
quiet_body x f p before (Mark b ∷ rest) stack c parts le holds = quiet_up x f p before stack c (up_raised x f stack c holds)
quiet_body x f p before (Turns (Back i) slot ∷ rest) stack c parts le holds = quiet_up x f p before stack c (up_raised x f stack c holds)
quiet_body x f p before (Turns (Goto b) slot ∷ rest) stack c parts le holds = quiet_up x f p before stack c (up_raised x f stack c holds)
quiet_body x f p before (Turns (If r b) slot ∷ rest) stack c parts le holds = quiet_up x f p before stack c (up_raised x f stack c holds)
quiet_body x f p before (Turns (CallTo s link) slot ∷ rest) stack c parts le holds = quiet_up x f p before stack c (up_raised x f stack c holds)
quiet_body x f p before (Turns CallReg slot ∷ rest) stack c parts le holds = quiet_up x f p before stack c (up_raised x f stack c holds)

quiet_at : (x : Setting) (f : LineFn) (p : IsPointed x f) (before left : List Item) (stack : ℕ) (c : lines.Core) → Parts f before left → HoldsAt x f (level_at x f p left) stack c
    → IsApart x f (words_of x f before) stack c
quiet_at x f p before left stack c parts holds =
    elim (cases_lt (length p.body) (length left)) [
      | inl lt ↦
          let here = entry_place x f p before left parts lt in
          let words = entry_words x f first_level before (here.item ∷ here.rest) (subst (λ entry. Raises x f first_level entry) here.entry_is p.raises) in
          inr (cold_first x f before left words parts)
      | inr inside ↦
          let le : InBody x f p left = omega (arith, inside) in
          quiet_body x f p before left stack c parts le (subst (λ l. HoldsAt x f l stack c) (at_body x f p left le) holds)
    ]

-- ---- the function

enters : (x : Setting) (f : LineFn) (p : IsPointed x f) (stack : ℕ) (c : lines.Core) → stack < 2 ^ 32 → lines.register c 30 ≡ stack → c.skip ≡ false → HoldsAt x f (level_at x f p f.items) stack c
enters x f p stack c small pointer run =
    let size : length f.items ≡ length p.entry + length p.body = ap length p.items ∙ length-append p.entry p.body in
    let first : HoldsAt x f first_level stack c = record { small = small; pointer = pointer; bounds = λ e. absurd cc; clear = λ e. run; help = tt } in
    elim (cases_lt (length p.body) (length f.items)) [
      | inl lt ↦ subst (λ l. HoldsAt x f l stack c) (sym (at_entry x f p f.items 0 lt (omega arith))) first
      | inr inside ↦
          let none : 0 ≡ length p.entry = omega (arith, size, inside) in
          let raised = entry_last x f first_level p.entry p.raises stack c (subst (λ k. HoldsAt x f (entry_level x f k first_level p.entry p.raises) stack c) none first) in
          behind_in x f p f.items stack c (omega (arith, inside)) raised
    ]

mark_no_word : (b : ℕ) (w : Word) → Mark b ≢ Plain w
mark_no_word b w e = cc

leave_no_word : (slot : Option Word) (w : Word) → Turns Leave slot ≢ Plain w
leave_no_word slot w e = cc

-- at a return with a word in its slot the pointer is still at the end of the frame
left_apart : (x : Setting) (f : LineFn) (p : IsPointed x f) (before rest : List Item) (slot : Option Word) (stack : ℕ) (c : lines.Core) → Parts f before (Turns Leave slot ∷ rest)
    → InBody x f p (Turns Leave slot ∷ rest) → HoldsAt x f (level_at x f p (Turns Leave slot ∷ rest)) stack c → IsApart x f (words_of x f before + 1) stack c
left_apart x f p before rest None stack c parts le holds = inr (leave_cold x f p before rest parts le).1
left_apart x f p before rest (Some w) stack c parts le holds =
    let raised = raised_in x f p (Turns Leave (Some w) ∷ rest) stack c le refl holds in
    let some = p.frame in
    let pointer = raised.pointer in
    inl (omega (arith, some, pointer))

pub leveled : BackGoesOver → (x : Setting) (f : LineFn) → IsPointed x f → IsLeveled x f
leveled over x f p = record {
  at = level_at x f p;
  entry = enters x f p;
  word = word_goes x f p;
  block = λ before rest b stack c parts holds. raised_in x f p (Mark b ∷ rest) stack c (not_word x f p before rest (Mark b) parts (mark_no_word b)) refl holds;
  turn = λ before rest item stack c parts turning holds.
      raised_in x f p (item ∷ rest) stack c (not_word x f p before rest item parts (turning_no_word item turning)) (turning_level item rest turning) holds;
  behind_block = λ before rest b stack c parts raised. behind_in x f p rest stack c (shorter x f p (Mark b) rest (not_word x f p before rest (Mark b) parts (mark_no_word b))) raised;
  behind_turn = λ before rest item stack c parts turning raised.
      behind_in x f p rest stack c (shorter x f p item rest (not_word x f p before rest item parts (turning_no_word item turning))) raised;
  loop = λ before rest from item n stack c parts turning e raised. behind_in x f p from stack c (loop_place over x f p before rest from item n parts turning e) raised;
  slot = λ before rest turn w stack c d parts turning raised run act.
      let k = kept x f p before (Turns turn (Some w) ∷ rest) parts (not_word x f p before rest (Turns turn (Some w)) parts (turning_no_word (Turns turn (Some w)) turning)) in
      slot_leaves x k.word turn w rest turning k.keeps c d act;
  leave = λ before rest slot stack c parts holds. left_apart x f p before rest slot stack c parts (not_word x f p before rest (Turns Leave slot) parts (leave_no_word slot)) holds;
  quiet = quiet_at x f p;
}

turning_size : (long : Bool) (item : Item) → IsTurning item → 1 ≤ size long item
turning_size long (Turns (Back i) slot) h = omega arith
turning_size long (Turns (Goto b) slot) h = omega arith
turning_size true (Turns (If r b) slot) h = omega arith
turning_size false (Turns (If r b) slot) h = omega arith
turning_size long (Turns (CallTo s link) slot) h = omega arith
turning_size long (Turns CallReg slot) h = omega arith
turning_size long (Turns Leave slot) h = absurd h
turning_size long (Plain v) h = absurd h
turning_size long (Mark b) h = absurd h

-- a loop does not begin where the function does, and words stand behind its beginning
pub loops : BackGoesOver → (x : Setting) (f : LineFn) → IsPointed x f → (before rest from : List Item) (item : Item) (n : ℕ) → Parts f before (item ∷ rest) → IsTurning item
    → back_over n (item ∷ rest) f.items ≡ Some from → (from ≢ f.items) × (1 ≤ words_of x f from)
loops over x f p before rest from item n parts turning e =
    let long = x.long (name_in f) in
    let o = over f.items before (item ∷ rest) from n parts e in
    let whole : words_of x f from ≡ words_of x f o.words + words_of x f (item ∷ rest) = ap (words_of x f) o.from_is ∙ joined long o.words (item ∷ rest) in
    let some = turning_size long item turning in (
      λ same.
          let first : BlockFirst from = subst (λ items. BlockFirst items) (sym (same ∙ p.items)) (block_first x f first_level p.entry p.body p.raises p.first) in
          words_no_block o.words rest item turning o.plain (subst (λ items. BlockFirst items) o.from_is first),
      omega (arith, whole, more long item rest, some),
    )
