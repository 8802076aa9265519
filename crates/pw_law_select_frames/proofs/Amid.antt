-- States of both runs amid a function, and what lines that call nothing leave of them.
use Rattle.std.proofs.Common.{ℕ, ℤ, ◌≡◌, ◌+◌, ◌-◌, ◌^◌, ◌<◌, ◌≤◌, ◌⊎◌, inl, inr, arith, refl, ap, sym, subst, ◌∙◌, Option, Some, None, List, [], ◌∷◌, ◌++◌, length, slice_get, Contains, append_assoc}
use Rattle.std.specs.List.{flat_map}
use Rattle.std.proofs.lemmas.Option.{slice_get-get_or}
use Rattle.pw_inst.specs.Computing.{offset_by}
use Rattle.pw_inst.specs.Registers.{stack_pointer}
use Rattle.pw_inst.specs.declared.line.Line.{Line}
use Rattle.pw_webflow.specs.declared.web.WebOp.{WebOp}
use Rattle.pw_alloc.specs.declared.located.Place.TheVariants.{Slot}
use Rattle.pw_alloc.specs.declared.located.Located.{Located}
use Rattle.pw_alloc.specs.Frames.{head_size}
use Rattle.pw_delay.specs.declared.items.Item.{Item}
use Rattle.pw_delay.specs.Items.{item_of, before, slotted}
use Rattle.pw_select_lines.specs.Operations.{layout, web_op_lines}
use Rattle.pw_select.specs.Selection.{slot_offsets, end_lines}
use Rattle.pw_run_languages.specs.Traces.{Event}
use Rattle.pw_run_languages.specs.Programs.{Program}
use Rattle.pw_run_languages.specs.Addresses.{Addresses, AreLawful}
use Rattle.pw_run_languages.specs.Acts.{Core, register}
use Rattle.pw_run_languages.specs.LineRun as run
use Rattle.pw_run_languages.specs.PlacedRun as placed
use Rattle.pw_run_languages.specs.SelectionLaws.{line_program}
use Rattle.pw_law_select_states.specs.Laid.{address, Lives, size_of}
use Rattle.pw_law_select_states.specs.Frames.{words_size}
use Rattle.pw_law_select_states.specs.Passes.{Follows, Leaves, IsElsewhere, IsNoneOf, further}
use Rattle.pw_law_select_states.specs.States.{Stands}
use Rattle.pw_law_select_states.specs.Pointers.{AreKnown}
use Rattle.pw_law_select_frames.specs.Stack.{IsWordBelow}
use Rattle.pw_law_select_frames.specs.Framing.{words_begin}
use Rattle.pw_law_select_frames.specs.Blocks.{items_from, blocks_behind}
use Rattle.pw_law_select_frames.specs.Chain.{AllWait, BothStand, IsActive, frame_top}
use Rattle.pw_law_select_frames.specs.Extending.{KeepsObjects, FramesAreKnown, IsFree}
use Rattle.pw_law_select_frames.specs.Amid.{BothAmid, StaysInFrame, LeavesBehind, left_of}
use Rattle.pw_law_select_frames.proofs.Stack.{frame_below}
use Rattle.pw_law_select_frames.proofs.Framing.{sized, place_is_below}
use Rattle.pw_law_select_frames.proofs.Beginning.{lives_inside}
use Rattle.pw_law_select_frames.proofs.Extending.{saved_go, saved_count, word_is_free, waiting_goes}
use Rattle.pw_law_select_frames.proofs.Stepping.{callee_alike}

-- ---- what stays

pub same_objects : (site : ℕ → ℕ) (m : placed.Machine) → KeepsObjects site site m.objects m.objects
same_objects site m = record { sites = λ o less. refl; lives = λ o less h. h; sizes = λ o less. refl }

pub leaves_all : (site : ℕ → ℕ) (m : placed.Machine) (c : Core) → Leaves site m c c
leaves_all site m c = record { top = refl; memory = λ a out. refl; registers = λ r none. refl }

-- lines that keep what is not of the operation keep it behind the head too
pub behind_head : (site : ℕ → ℕ) (m : placed.Machine) (c d : Core) → Leaves site m c d → LeavesBehind site m c d
behind_head site m c d leaves = record { top = leaves.top; memory = λ a low out. leaves.memory a out }

pub leaves_then : (site : ℕ → ℕ) (m n : placed.Machine) (c d e : Core) → n.frame.function ≡ m.frame.function → KeepsObjects site site m.objects n.objects → length n.objects ≡ length m.objects
    → Leaves site m c d → Leaves site n d e → Leaves site m c e
leaves_then site m n c d e function keeps count one two = record {
  top = two.top ∙ one.top;
  memory = λ a out. two.memory a (moved a out) ∙ one.memory a out;
  registers = λ r none. two.registers r (subst (λ (f : Located). IsNoneOf f r) (sym function) none) ∙ one.registers r none;
}
  where
    by_size : (o a : ℕ) → size_of n.objects o ≡ size_of m.objects o → (a < site o) ⊎ (site o + size_of m.objects o ≤ a) → (a < site o) ⊎ (site o + size_of n.objects o ≤ a)
    by_size o a size (inl less) = inl less
    by_size o a size (inr more) = inr (omega (arith, size, more))

    moved : (a : ℕ) → IsElsewhere site m.objects m.frame.function (register c stack_pointer) a → IsElsewhere site n.objects n.frame.function (register d stack_pointer) a
    moved a out = record {
      objects = λ o lives.
          let less = lives_inside n.objects o lives in
          let there : o < length m.objects = omega (arith, less, count) in
          by_size o a (keeps.sizes o there) (out.objects o (keeps.lives o there lives));
      temps = λ offset c.
          subst (λ (t : ℕ). (a < offset_by t offset) ⊎ (offset_by t offset + 4 ≤ a)) (sym one.top)
          (out.temps offset (subst (λ (f : Located). Contains f.places (Slot offset)) function c));
    }

pub leaves_compose : (site : ℕ → ℕ) (m n : placed.Machine) (c d e : Core) → StaysInFrame site m n → Leaves site m c d → Leaves site n d e → Leaves site m c e
leaves_compose site m n c d e same one two = leaves_then site m n c d e (ap (λ (x : placed.Frame). x.function) same.frame) same.objects same.count one two

-- ---- whole states

pub whole_is_amid : (p : Program) (w : Addresses) (site : ℕ → ℕ) (m : placed.Machine) (l : run.Machine) → BothStand p w site m l → BothAmid p w site (left_of m.frame) m l
whole_is_amid p w site m l h =
    record { stands = h.stands; active = h.active; top = h.top; old = h.old; later = h.later; left = h.left; inside = h.inside; callers = h.callers }

pub amid_is_whole : (p : Program) (w : Addresses) (site : ℕ → ℕ) (m : placed.Machine) (l : run.Machine) → BothAmid p w site (left_of m.frame) m l → BothStand p w site m l
amid_is_whole p w site m l h =
    record { stands = h.stands; active = h.active; top = h.top; old = h.old; later = h.later; left = h.left; inside = h.inside; callers = h.callers }

pub operation_is_next : (p : Program) (w : Addresses) (site : ℕ → ℕ) (m : placed.Machine) (l : run.Machine) (o : WebOp) (ops : List WebOp) → BothStand p w site m l → m.frame.ops ≡ o ∷ ops
    → BothAmid p w site (web_op_lines (layout m.frame.function.places (slot_offsets m.frame.function)) o ++ left_of (record m.frame { ops = ops })) (record m { frame = record m.frame { ops = ops } }) l
operation_is_next p w site m l o ops h is =
    let f = m.frame.function in
    let slots = slot_offsets f in
    let first = web_op_lines (layout f.places slots) o in
    let next : placed.Frame = record m.frame { ops = ops } in
    let split : left_of m.frame ≡ first ++ left_of next =
    ap (λ (os : List WebOp). left_of (record m.frame { ops = os })) is
    ∙ (ap (λ (ls : List Line). ls ++ blocks_behind f m.frame.block) (append_assoc first (flat_map (web_op_lines (layout f.places slots)) ops) (end_lines f m.frame.end))
    ∙ append_assoc first (flat_map (web_op_lines (layout f.places slots)) ops ++ end_lines f m.frame.end) (blocks_behind f m.frame.block)) in
    let s = h.stands in
    let a = h.active in
    record {
      stands = record {
        words = s.words;
        laid = s.laid;
        bytes = s.bytes;
        registers = s.registers;
        frame = s.frame;
        holds = record { temps = s.holds.temps; slots = s.holds.slots };
        goes = s.goes;
      };
      active = record { function = a.function; serves = a.serves; directives = a.directives; room = a.room; saved = a.saved; words = a.words };
      top = h.top;
      old = h.old;
      later = h.later;
      left = h.left ∙ ap (λ (ls : List Line). slotted ls) split;
      inside = h.inside;
      callers = callee_alike p w site m.objects l.core.memory m.frame next l.frame.stack m.callers l.callers refl refl h.callers;
    }

-- ---- lines

-- the items of some lines end with those of the lines behind them
ends_with : (xs rest : List Line) → (items : List Item) × (slotted (xs ++ rest) ≡ items ++ slotted rest)
ends_with [] rest = ([], refl)
ends_with (x ∷ xs) rest = by_item (item_of x (xs ++ rest)) (ends_with xs rest)
  where
    by_item : (o : Option Item) → ((items : List Item) × (slotted (xs ++ rest) ≡ items ++ slotted rest)) → (items : List Item) × (before o (slotted (xs ++ rest)) ≡ items ++ slotted rest)
    by_item None h = h
    by_item (Some item) h = (item ∷ h.0, ap (λ (l : List Item). item ∷ l) h.1)

module _ (p : Program) (w : Addresses) (site : ℕ → ℕ) (xs rest : List Line) (m n : placed.Machine) (l : run.Machine) (core : Core)
    (lawful : AreLawful p w) (h : BothAmid p w site (xs ++ rest) m l) (known : FramesAreKnown p m) (same : StaysInFrame site m n) (stands : Stands p w site n core) (leaves : LeavesBehind site m l.core core) where
  abbrev f : Located
  f = m.frame.function

  abbrev top : ℕ
  top = register l.core stack_pointer

  small : top < 2 ^ 32
  small = let high = h.stands.frame.high in let memory = lawful.memory in omega (arith, high, memory)

  -- a temporary's word is above those of saved registers, which are above what stands below the frame
  temps_above : (offset : ℤ) → Contains f.places (Slot offset) → IsWordBelow w top (words_begin f) (words_size f) offset
  temps_above offset c =
      let e : slice_get f.places c.0 ≡ Some (Slot offset) = slice_get-get_or f.places c.0 (Slot offset) c.1 ∙ ap Some c.2 in
      place_is_below w site m.objects f top c.0 (Slot offset) h.active.serves h.stands.frame e

  elsewhere : (b : ℕ) → (b < l.frame.stack) ⊎ ((top ≤ b + words_begin f) × (b + head_size f.body < top)) → IsFree site m.objects b → core.memory b ≡ l.core.memory b
  elsewhere b place free = leaves.memory b (behind place) (record { objects = free; temps = λ offset c. by_place offset c place })
    where
      behind : (b < l.frame.stack) ⊎ ((top ≤ b + words_begin f) × (b + head_size f.body < top)) → b + head_size f.body < top
      behind (inl less) =
          let sizes = sized f h.active.serves in
          let words = sizes.words in
          let frame = sizes.frame in
          let is_top = h.top in
          omega (arith, less, words, frame, is_top)
      behind (inr inside) = inside.1

      by_place : (offset : ℤ) → Contains f.places (Slot offset) → (b < l.frame.stack) ⊎ ((top ≤ b + words_begin f) × (b + head_size f.body < top)) → (b < offset_by top offset) ⊎ (offset_by top offset + 4 ≤ b)
      by_place offset c (inl less) =
          let word = temps_above offset c in
          let at : offset_by top offset ≡ top - word.far = frame_below top word.far offset word.is word.inside small in
          let high = word.high in
          let frame = (sized f h.active.serves).frame in
          let is_top = h.top in
          inl (omega (arith, at, high, frame, is_top, less))
      by_place offset c (inr inside) =
          let word = temps_above offset c in
          let at : offset_by top offset ≡ top - word.far = frame_below top word.far offset word.is word.inside small in
          let low = word.low in
          let within = word.inside in
          let from = inside.0 in
          inr (omega (arith, at, low, within, from))

  -- with other temporaries the function is active as it was
  active_on : IsActive (address p w site) core.memory (record m.frame { temps = n.frame.temps }) (record l.frame { left = slotted rest })
  active_on =
      let a = h.active in
      let sizes = sized f a.serves in
      let words = sizes.words in
      let frame = sizes.frame in
      let low = h.stands.frame.low in
      let number = saved_count m.frame.saved f.saved a.saved in
      let is_top = h.top in
      record {
        function = a.function;
        serves = a.serves;
        directives = a.directives;
        room = same.room ∙ a.room;
        saved = a.saved;
        words = saved_go p w site site (length m.objects) (λ o less. refl) l.core.memory core.memory (frame_top m.frame l.frame - head_size f.body) 0 m.frame.saved known.frame.saved
            (omega (arith, words, frame, low, number, is_top))
            (λ b from to.
            elsewhere b (inr (omega (arith, from, number, is_top, words, frame, low), omega (arith, to, is_top)))
            (word_is_free p w site site m.objects m.objects (same_objects site m) f top b h.stands.frame (omega (arith, from, number, is_top, words, frame, low)) (omega (arith, to, is_top)))) a.words;
      }

  pub goes_amid : (more : ℕ) (log : List (Event ℕ ℕ)) → BothAmid p w site rest n (further (slotted rest) core more log l)
  goes_amid more log =
      let after : placed.Frame = record m.frame { temps = n.frame.temps } in
      let tail = ends_with xs rest in
      let count = same.count in
      let base = known.frame.slots in
      let inside : (o : ℕ) → Lives n.objects o → o < length m.objects = λ o lives. (let less = lives_inside n.objects o lives in omega (arith, less, count)) in
      let wait = waiting_goes p w site site m.objects n.objects l.core.memory core.memory m.frame l.frame.stack m.callers l.callers
      (let is_top = h.top in omega (arith, small, is_top)) (omega (arith, base)) same.objects
      (λ o least lives. absurd (let less = inside o lives in omega (arith, least, less)))
      (λ b less free. elsewhere b (inl less) free) known.callers h.callers in
      record {
        stands = stands;
        active = subst (λ (x : placed.Frame). IsActive (address p w site) core.memory x (record l.frame { left = slotted rest })) (sym same.frame) active_on;
        top = leaves.top ∙ (h.top ∙ ap (λ (x : placed.Frame). frame_top x l.frame) (sym same.frame));
        old = subst (λ (x : placed.Frame). (o : ℕ) → o < x.base → Lives n.objects o → site o + size_of n.objects o < l.frame.stack) (sym same.frame)
            (λ o early lives.
            let before = inside o lives in
            let size = same.objects.sizes o before in
            let least = h.old o early (same.objects.lives o before lives) in
            omega (arith, size, least));
        later = subst (λ (x : placed.Frame). (o : ℕ) → Lives n.objects o → o < x.base + length x.function.body.slots) (sym same.frame)
            (λ o lives. h.later o (same.objects.lives o (inside o lives) lives));
        left = refl;
        inside = (
          h.inside.0 ++ tail.0,
          h.inside.1 ∙ (ap (λ (is : List Item). h.inside.0 ++ is) (h.left ∙ tail.1) ∙ sym (append_assoc h.inside.0 tail.0 (slotted rest))),
        );
        callers = subst (λ (x : placed.Frame). AllWait p w site n.objects core.memory x l.frame.stack n.callers l.callers) (sym same.frame)
            (subst (λ (cs : List placed.Frame). AllWait p w site n.objects core.memory after l.frame.stack cs l.callers) (sym same.callers)
            (callee_alike p w site n.objects core.memory m.frame after l.frame.stack m.callers l.callers refl refl wait));
      }

-- ---- operations

-- in a state whose lines that are left are those of the rest of its block
pub amid_whole_at : (p : Program) (w : Addresses) (site : ℕ → ℕ) (lines : List Line) (m : placed.Machine) (l : run.Machine) → left_of m.frame ≡ lines → BothAmid p w site lines m l → BothStand p w site m l
amid_whole_at p w site lines m l is h = amid_is_whole p w site m l (subst (λ (ls : List Line). BothAmid p w site ls m l) (sym is) h)

pub goes_on_whole : (p : Program) (w : Addresses) (functions : List Located) (scratch : ℕ → (ℕ → ℕ) → ℕ → ℕ) (site : ℕ → ℕ) (m n : placed.Machine) (l : run.Machine) (o : WebOp) (ops : List WebOp)
    → AreLawful p w → BothStand p w site m l → AreKnown p m → m.frame.ops ≡ o ∷ ops
    → (follows : Follows p (line_program p functions) w scratch site (record m { frame = record m.frame { ops = ops } }) n l (items_from m.frame.function m.frame.block ops m.frame.end))
    → KeepsObjects site site m.objects n.objects → length n.objects ≡ length m.objects → length n.frame.temps ≡ length m.frame.temps
    → BothStand p w site n (further (items_from m.frame.function m.frame.block ops m.frame.end) follows.core follows.passes.more follows.log l)
goes_on_whole p w functions scratch site m n l o ops lawful h known is follows keeps count room =
    let f = m.frame.function in
    let next : placed.Frame = record m.frame { ops = ops } in
    let here : placed.Machine = record m { frame = next } in
    let same : StaysInFrame site here n = record { frame = follows.values.frame; room = room; callers = follows.values.callers; objects = keeps; count = count } in
    amid_whole_at p w site (left_of next) n (further (slotted (left_of next)) follows.core follows.passes.more follows.log l) (ap left_of follows.values.frame)
    (goes_amid p w site (web_op_lines (layout f.places (slot_offsets f)) o) (left_of next) here n l follows.core lawful (operation_is_next p w site m l o ops h is)
    (record { frame = record { temps = known.frame.temps; saved = known.frame.saved; slots = known.frame.slots }; callers = known.callers })
    same follows.stands (behind_head site here l.core follows.core follows.leaves) follows.passes.more follows.log)
