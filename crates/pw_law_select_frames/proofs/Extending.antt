-- Values and frames where objects are new, or ended.
use Rattle.std.proofs.Common.{ℕ, suc, ◌≡◌, ◌+◌, ◌-◌, ◌*◌, ◌%◌, ◌^◌, ◌<◌, ◌≤◌, ◌⊎◌, inl, inr, arith, refl, ap, sym, subst, ◌∙◌, List, [], ◌∷◌, map, length, slice_index_or}
use Rattle.std.specs.List.{AllByRecursion}
use Rattle.std.proofs.lemmas.Bool.{cases_lt}
use Rattle.std.proofs.lemmas.Option.{slice_get_within}
use Rattle.pw_value.specs.declared.value.Value.{Value}
use Rattle.pw_value.specs.declared.value.Value.TheVariants.{Undefined, Num, Null, At, Piece}
use Rattle.pw_value.specs.declared.value.Byte.{Byte}
use Rattle.pw_value.specs.declared.value.Byte.TheVariants as B
use Rattle.pw_value.specs.declared.value.Pointer.{Pointer}
use Rattle.pw_value.specs.declared.value.Pointer.TheVariants as P
use Rattle.pw_value.specs.Objects.{Object, byte_at}
use Rattle.pw_inst.specs.Computing.{offset_by}
use Rattle.pw_alloc.specs.declared.located.Place.TheVariants.{Slot}
use Rattle.pw_alloc.specs.declared.located.Located.{Located}
use Rattle.pw_value.specs.Rounding.{slot_room}
use Rattle.pw_alloc.specs.Frames.{head_size, link_place, reaches_from, below}
use Rattle.pw_select.specs.Selection.{slot_offsets}
use Rattle.pw_run_languages.specs.Programs.{Program}
use Rattle.pw_run_languages.specs.Addresses.{Addresses}
use Rattle.pw_run_languages.specs.Acts.{number_at}
use Rattle.pw_run_languages.specs.Standing.{ByteStands, ValueStands, byte_of}
use Rattle.pw_run_languages.specs.LineRun.{Frame}
use Rattle.pw_run_languages.specs.PlacedRun as placed
use Rattle.pw_run_languages.specs.Serving.{Serves}
use Rattle.pw_law_select_memory.specs.Stand.{BytesStand}
use Rattle.pw_law_select_states.specs.Laid.{address, Lives, size_of}
use Rattle.pw_law_select_states.specs.Frames.{HasFrame, FrameHolds, words_size}
use Rattle.pw_law_select_states.specs.Pointers.{IsKnown, ValueIsKnown, ByteIsKnown, FrameIsKnown}
use Rattle.pw_law_select_frames.specs.Stack.{IsWordBelow}
use Rattle.pw_law_select_frames.specs.Framing.{words_begin}
use Rattle.pw_law_select_frames.specs.Chain.{SavedStand, frame_top, Waits, AllWait}
use Rattle.pw_law_select_frames.specs.Extending.{KeepsObjects, IsFree}
use Rattle.pw_law_select_frames.proofs.Stack.{same_number, frame_below}
use Rattle.pw_law_select_frames.proofs.Framing.{sized, place_is_below}

-- ---- values

module _ (p : Program) (w : Addresses) (site after : ℕ → ℕ) (count : ℕ) (same : (o : ℕ) → o < count → after o ≡ site o) where
  pub pointer_goes : (q : Pointer) → IsKnown p count q → address p w after q ≡ address p w site q
  pointer_goes (P.Object o i) known = ap (λ a. (a + i) % 2 ^ 32) (same o known.0)
  pointer_goes (P.Function f) known = refl

  pub value_goes : (v : Value) (n : ℕ) → ValueIsKnown p count v → ValueStands (address p w site) v n → ValueStands (address p w after) v n
  value_goes Undefined n known h = tt
  value_goes (Num v) n known h = h
  value_goes Null n known h = h
  value_goes (At q) n known h = h ∙ sym (pointer_goes q known)
  value_goes (Piece q i) n known h = h ∙ ap (λ a. byte_of a i) (sym (pointer_goes q known))

  byte_goes : (b : Byte) (n : ℕ) → ByteIsKnown p count b → ByteStands (address p w site) b n → ByteStands (address p w after) b n
  byte_goes B.Undefined n known h = tt
  byte_goes (B.Num v) n known h = h
  byte_goes (B.Piece q i) n known h = h ∙ ap (λ a. byte_of a i) (sym (pointer_goes q known))

  pub bytes_go : (bytes : List Byte) (memory : ℕ → ℕ) (a : ℕ) → ((i : ℕ) → ByteIsKnown p count (byte_at bytes i)) → BytesStand (address p w site) memory a bytes
      → BytesStand (address p w after) memory a bytes
  bytes_go [] memory a known h = tt
  bytes_go (b ∷ bytes) memory a known h = (byte_goes b (memory a) (known 0) h.0, bytes_go bytes memory (a + 1) (λ i. known (suc i)) h.1)

  -- ---- saved registers

  pub saved_go : (memory later : ℕ → ℕ) (top i : ℕ) (saved : List (ℕ × Value)) → AllByRecursion (λ s. ValueIsKnown p count s.1) saved → 4 * (i + length saved) ≤ top
      → ((b : ℕ) → top ≤ b + 4 * (i + length saved) → b + 4 * i < top → later b ≡ memory b)
      → SavedStand (address p w site) memory top i saved → SavedStand (address p w after) later top i saved
  saved_go memory later top i [] known within bytes h = tt
  saved_go memory later top i (s ∷ rest) known within bytes h =
      let number : number_at 4 later (top - 4 * (i + 1)) ≡ number_at 4 memory (top - 4 * (i + 1)) =
      same_number 4 (top - 4 * (i + 1)) later memory (λ b from to. bytes b (omega (arith, within, from)) (omega (arith, within, to))) in (
        subst (ValueStands (address p w after) s.1) (sym number) (value_goes s.1 (number_at 4 memory (top - 4 * (i + 1))) known.0 h.0),
        saved_go memory later top (suc i) rest known.1 (omega (arith, within)) (λ b from to. bytes b (omega (arith, from)) (omega (arith, to))) h.1,
      )

-- ---- frames

reach_count : (at : ℕ) (slots : List ℕ) → length (map below (reaches_from at slots)) ≡ length slots
reach_count at [] = refl
reach_count at (size ∷ rest) = let e = reach_count (at + slot_room size) rest in omega (arith, e)

pub saved_count : (saved : List (ℕ × Value)) (registers : List ℕ) → map (λ s. s.0) saved ≡ registers → length saved ≡ length registers
saved_count [] [] e = refl
saved_count [] (r ∷ rest) e = absurd cc
saved_count (s ∷ more) [] e = absurd cc
saved_count (s ∷ more) (r ∷ rest) e = let same : map (λ s. s.0) more ≡ rest = cc in let h = saved_count more rest same in omega (arith, h)

module _ (p : Program) (w : Addresses) (site after : ℕ → ℕ) (objects now : List Object) (keeps : KeepsObjects site after objects now) where
  -- a byte of a frame's words is of no live object
  pub word_is_free : (f : Located) (top b : ℕ) → HasFrame w site objects f top → top ≤ b + words_size f → b < top → IsFree site objects b
  word_is_free f top b has from to o lives = by_place (has.clear o lives)
    where
      by_place : (site o + size_of objects o ≤ top - words_size f) ⊎ (top ≤ site o) → (b < site o) ⊎ (site o + size_of objects o ≤ b)
      by_place (inl below) = inr (omega (arith, below, from))
      by_place (inr above) = inl (omega (arith, above, to))

  frame_goes : (f : Located) (top stack : ℕ) → HasFrame w site objects f top → top ≤ stack → ((o : ℕ) → length objects ≤ o → Lives now o → stack ≤ after o)
      → HasFrame w after now f top
  frame_goes f top stack has within new = record { low = has.low; high = has.high; aligned = has.aligned; clear = λ o lives. by_number o lives (cases_lt o (length objects)) }
    where
      by_number : (o : ℕ) → Lives now o → (o < length objects) ⊎ (length objects ≤ o) → (after o + size_of now o ≤ top - words_size f) ⊎ (top ≤ after o)
      by_number o lives (inr late) = inr (let h = new o late lives in omega (arith, h, within))
      by_number o lives (inl early) = by_place (has.clear o (keeps.lives o early lives))
        where
          by_place : (site o + size_of objects o ≤ top - words_size f) ⊎ (top ≤ site o) → (after o + size_of now o ≤ top - words_size f) ⊎ (top ≤ after o)
          by_place (inl below) = inl (let at = keeps.sites o early in let size = keeps.sizes o early in omega (arith, below, at, size))
          by_place (inr above) = inr (let at = keeps.sites o early in omega (arith, above, at))

  -- what stands in a frame, where its words are as they were
  pub holding_goes : (f : placed.Frame) (memory later : ℕ → ℕ) (top : ℕ) → Serves f.function.body f.function → top < 2 ^ 32 → HasFrame w site objects f.function top → FrameIsKnown p (length objects) f
      → ((b : ℕ) → top ≤ b + words_size f.function → b + words_begin f.function < top → later b ≡ memory b)
      → FrameHolds (address p w site) site f memory top → FrameHolds (address p w after) after f later top
  holding_goes f memory later top serves small has known bytes holds = record {
    temps = λ t offset e.
        let is : IsWordBelow w top (words_begin f.function) (words_size f.function) offset = place_is_below w site objects f.function top t (Slot offset) serves has e in
        let at : offset_by top offset ≡ top - is.far = frame_below top is.far offset is.is is.inside small in
        let low = is.low in
        let high = is.high in
        let inside = is.inside in
        let number : number_at 4 later (offset_by top offset) ≡ number_at 4 memory (offset_by top offset) =
        same_number 4 (offset_by top offset) later memory (λ b from to. bytes b (omega (arith, at, high, inside, from)) (omega (arith, at, low, inside, to))) in
        subst (ValueStands (address p w after) (slice_index_or f.temps t Undefined)) (sym number)
        (value_goes p w site after (length objects) keeps.sites (slice_index_or f.temps t Undefined) (number_at 4 memory (offset_by top offset)) (known.temps t) (holds.temps t offset e));
    slots = λ s offset e.
        let less = slice_get_within (slot_offsets f.function) s offset e in
        let count = reach_count (words_size f.function) f.function.body.slots in
        let all = known.slots in
        keeps.sites (f.base + s) (omega (arith, less, count, all)) ∙ holds.slots s offset e;
  }

  -- ---- functions that wait

  waits_on : (memory later : ℕ → ℕ) (callee : placed.Frame) (stack : ℕ) (f : placed.Frame) (l : Frame) → stack < 2 ^ 32 → callee.base ≤ length objects
      → ((o : ℕ) → length objects ≤ o → Lives now o → stack ≤ after o) → ((b : ℕ) → b < stack → IsFree site objects b → later b ≡ memory b)
      → FrameIsKnown p (length objects) f → Waits p w site objects memory callee stack f l → Waits p w after now later callee stack f l
  waits_on memory later callee stack f l small base new bytes known h =
      let active = h.active in
      let sizes = sized f.function active.serves in
      let words = sizes.words in
      let frame = sizes.frame in
      let low = h.frame.low in
      let count = saved_count f.saved f.function.saved active.saved in
      let top = h.top in
      let there : (b : ℕ) → stack ≤ b + words_size f.function → b < stack → later b ≡ memory b =
      λ b from to. bytes b to (word_is_free f.function stack b h.frame from to) in
      record {
        active = record {
          function = active.function;
          serves = active.serves;
          directives = active.directives;
          room = active.room;
          saved = active.saved;
          words = saved_go p w site after (length objects) keeps.sites memory later (frame_top f l - head_size f.function.body) 0 f.saved known.saved
              (omega (arith, words, frame, low, count, top))
              (λ b from to. there b (omega (arith, from, words, frame, low, count, top)) (omega (arith, to, top))) active.words;
        };
        top = h.top;
        frame = frame_goes f.function stack stack h.frame (omega arith) new;
        holds = holding_goes f memory later stack active.serves small h.frame known (λ b from to. there b from (omega (arith, to))) h.holds;
        later = λ o early lives. h.later o early (keeps.lives o (omega (arith, early, base)) lives);
        old = λ o early lives.
            let all = known.slots in
            let before : o < length objects = omega (arith, early, all) in
            let at = keeps.sites o before in
            let size = keeps.sizes o before in
            let least = h.old o early (keeps.lives o before lives) in
            omega (arith, at, size, least);
        left = h.left;
        behind = h.behind;
        link = same_number 4 (stack - link_place) later memory (λ b from to. there b (omega (arith, from, words)) (omega (arith, to, words, frame, low))) ∙ h.link;
      }

pub waiting_goes : (p : Program) (w : Addresses) (site after : ℕ → ℕ) (objects now : List Object) (memory later : ℕ → ℕ) (callee : placed.Frame) (stack : ℕ) (fs : List placed.Frame) (ls : List Frame)
    → stack < 2 ^ 32 → callee.base ≤ length objects → KeepsObjects site after objects now → ((o : ℕ) → length objects ≤ o → Lives now o → stack ≤ after o)
    → ((b : ℕ) → b < stack → IsFree site objects b → later b ≡ memory b) → AllByRecursion (FrameIsKnown p (length objects)) fs
    → AllWait p w site objects memory callee stack fs ls → AllWait p w after now later callee stack fs ls
waiting_goes p w site after objects now memory later callee stack [] [] small base keeps new bytes known h = h
waiting_goes p w site after objects now memory later callee stack [] (l ∷ ls) small base keeps new bytes known h = absurd h
waiting_goes p w site after objects now memory later callee stack (f ∷ fs) [] small base keeps new bytes known h = absurd h
waiting_goes p w site after objects now memory later callee stack (f ∷ fs) (l ∷ ls) small base keeps new bytes known h =
    let top = h.0.top in
    let all = known.0.slots in (
      waits_on p w site after objects now keeps memory later callee stack f l small base new bytes known.0 h.0,
      waiting_goes p w site after objects now memory later f l.stack fs ls (omega (arith, small, top)) (omega (arith, all)) keeps
          (λ o late lives. let above = new o late lives in omega (arith, above, top)) (λ b less free. bytes b (omega (arith, less, top)) free) known.1 h.1,
    )
