-- Words of saved registers stay where lines leave what they are to leave.
use Rattle.std.proofs.Common.{◌≡◌, ◌⊎◌, ℕ, ℤ, zero, suc, ◌+◌, ◌-◌, ◌*◌, ◌^◌, ◌<◌, ◌≤◌, Some, List, [], ◌∷◌, length, slice_get, Contains, refl, ap, ap₂, ◌∙◌, arith, inl, inr}
use Rattle.std.proofs.lemmas.Option.{slice_get-get_or}
use Rattle.pw_value.specs.Objects.{Object}
use Rattle.pw_value.specs.declared.value.Pointer.{Pointer}
use Rattle.pw_inst.specs.Computing.{offset_by}
use Rattle.pw_inst.specs.Registers.{stack_pointer}
use Rattle.pw_inst.specs.declared.line.Line.{Line}
use Rattle.pw_alloc.specs.declared.located.Place.TheVariants.{Slot}
use Rattle.pw_alloc.specs.declared.located.Located.{Located}
use Rattle.pw_alloc.specs.Frames.{head_size}
use Rattle.pw_run_languages.specs.Programs.{Program}
use Rattle.pw_run_languages.specs.Addresses.{Addresses, AreLawful}
use Rattle.pw_run_languages.specs.Acts.{Core, register, number_at}
use Rattle.pw_run_languages.specs.LineRun as run
use Rattle.pw_run_languages.specs.PlacedRun as placed
use Rattle.pw_law_select_states.specs.Laid.{size_of}
use Rattle.pw_law_select_states.specs.Frames.{HasFrame, words_size}
use Rattle.pw_law_select_states.specs.Passes.{IsElsewhere, Leaves}
use Rattle.pw_law_select_frames.specs.Amid.{BothAmid}
use Rattle.pw_law_select_frames.specs.Chain.{IsActive, AllWait, frame_top}
use Rattle.pw_law_select_frames.specs.Extending.{IsFree}
use Rattle.pw_law_select_frames.specs.Framing.{PlacesAreBelow, FramesAreSized, words_begin}
use Rattle.pw_law_select_frames.proofs.Stack.{frame_below}
use Rattle.pw_law_select_kept.specs.Keeping.{SavedStays, AllSavedStay}

pub same_number : (n a : ℕ) (memory later : ℕ → ℕ) → ((b : ℕ) → a ≤ b → b < a + n → later b ≡ memory b) → number_at n later a ≡ number_at n memory a
same_number zero a memory later same = refl
same_number (suc n) a memory later same =
    ap₂ (λ (x y : ℕ). x * 256 ^ n + y) (same a (omega arith) (omega arith))
    (same_number n (a + 1) memory later (λ b least less. same b (omega (arith, least)) (omega (arith, less))))

module _ (places : PlacesAreBelow) (sizes : FramesAreSized) (p : Program) (w : Addresses) (site : ℕ → ℕ) where
  one_stays : (address : Pointer → ℕ) (first memory later : ℕ → ℕ) (f : placed.Frame) (l : run.Frame) → IsActive address first f l
      → ((b : ℕ) → frame_top f l ≤ b + words_begin f.function → b + head_size f.function.body < frame_top f l → later b ≡ memory b) → SavedStays memory later l
  one_stays address first memory later f l active same i less =
      let g = l.function.located in
      let is : g ≡ f.function = ap (λ (x : run.LineFn). x.located) active.function in
      let size = sizes f.function active.serves in
      let words = size.words in
      let whole = size.frame in
      let frame : g.frame ≡ f.function.frame = ap (λ (x : Located). x.frame) is in
      let head : head_size g.body ≡ head_size f.function.body = ap (λ (x : Located). head_size x.body) is in
      let saved : length g.saved ≡ length f.function.saved = ap (λ (x : Located). length x.saved) is in
      same_number 4 (l.stack + g.frame - head_size g.body - 4 * (i + 1)) memory later (λ b from to.
      same b (omega (arith, words, whole, frame, head, saved, less, from)) (omega (arith, words, whole, frame, head, saved, less, to)))

  -- a byte of a frame's words is of no live object
  is_free : (objects : List Object) (f : Located) (top b : ℕ) → HasFrame w site objects f top → top ≤ b + words_size f → b < top → IsFree site objects b
  is_free objects f top b has from to o lives = by_place (has.clear o lives)
    where
      by_place : (site o + size_of objects o ≤ top - words_size f) ⊎ (top ≤ site o) → (b < site o) ⊎ (site o + size_of objects o ≤ b)
      by_place (inl before) = inr (omega (arith, before, from))
      by_place (inr behind) = inl (omega (arith, behind, to))

  -- of functions that wait, where memory below a bound stays but for live objects
  pub waiting_stay : (objects : List Object) (first memory later : ℕ → ℕ) (bound : ℕ) (callee : placed.Frame) (stack : ℕ) (fs : List placed.Frame) (ls : List run.Frame) → stack ≤ bound
      → ((b : ℕ) → b + 48 < bound → IsFree site objects b → later b ≡ memory b) → AllWait p w site objects first callee stack fs ls → AllSavedStay memory later ls
  waiting_stay objects first memory later bound callee stack [] [] least same h = tt
  waiting_stay objects first memory later bound callee stack [] (l ∷ ls) least same h = absurd h
  waiting_stay objects first memory later bound callee stack (f ∷ fs) [] least same h = absurd h
  waiting_stay objects first memory later bound callee stack (f ∷ fs) (l ∷ ls) least same h =
      let top = h.0.top in
      let size = sizes f.function h.0.active.serves in
      let words = size.words in (
        one_stays _ first memory later f l h.0.active
            (λ b from to. same b (omega (arith, to, top, least)) (is_free objects f.function stack b h.0.frame (omega (arith, from, top, words)) (omega (arith, to, top)))),
        waiting_stay objects first memory later bound f l.stack fs ls (omega (arith, top, least)) same h.1,
      )

  module _ (lines : List Line) (m : placed.Machine) (l : run.Machine) (lawful : AreLawful p w) (amid : BothAmid p w site lines m l) where
    abbrev f : Located
    f = m.frame.function

    abbrev top : ℕ
    top = register l.core stack_pointer

    small : top < 2 ^ 32
    small = let high = amid.stands.frame.high in let memory = lawful.memory in omega (arith, high, memory)

    -- of all that are active, where memory stays in the words of the latest and below its frame
    pub words_stay : (later : ℕ → ℕ) → ((b : ℕ) → top ≤ b + words_begin f → b + head_size f.body < top → IsFree site m.objects b → later b ≡ l.core.memory b)
        → ((b : ℕ) → b + 48 < l.frame.stack → IsFree site m.objects b → later b ≡ l.core.memory b) → AllSavedStay l.core.memory later (l.frame ∷ l.callers)
    words_stay later own others =
        let is_top = amid.top in
        let size = sizes f amid.active.serves in
        let words = size.words in (
          one_stays _ l.core.memory l.core.memory later m.frame l.frame amid.active
              (λ b from to. own b (omega (arith, from, is_top)) (omega (arith, to, is_top)) (is_free m.objects f top b amid.stands.frame (omega (arith, from, is_top, words)) (omega (arith, to, is_top)))),
          waiting_stay m.objects l.core.memory l.core.memory later l.frame.stack m.frame l.frame.stack m.callers l.callers (omega arith) others amid.callers,
        )

    there : (offset : ℤ) (c : Contains f.places (Slot offset)) → slice_get f.places c.0 ≡ Some (Slot offset)
    there offset c = slice_get-get_or f.places c.0 (Slot offset) c.1 ∙ ap Some c.2

    by_temp_own : (b : ℕ) → top ≤ b + words_begin f → (offset : ℤ) (c : Contains f.places (Slot offset)) → offset_by top offset + 4 ≤ b
    by_temp_own b from offset c =
        let word = places w site m.objects f top c.0 (Slot offset) amid.active.serves amid.stands.frame (there offset c) in
        let at : offset_by top offset ≡ top - word.far = frame_below top word.far offset word.is word.inside small in
        let low = word.low in
        let inside = word.inside in
        omega (arith, at, low, inside, from)

    by_temp_below : (b : ℕ) → b + 48 < l.frame.stack → (offset : ℤ) (c : Contains f.places (Slot offset)) → b < offset_by top offset
    by_temp_below b less offset c =
        let word = places w site m.objects f top c.0 (Slot offset) amid.active.serves amid.stands.frame (there offset c) in
        let at : offset_by top offset ≡ top - word.far = frame_below top word.far offset word.is word.inside small in
        let high = word.high in
        let inside = word.inside in
        let size = sizes f amid.active.serves in
        let frame = size.frame in
        let is_top = amid.top in
        omega (arith, at, high, inside, frame, is_top, less)

    -- a byte below the frame is none of the function's
    pub below_elsewhere : (b : ℕ) → b + 48 < l.frame.stack → IsFree site m.objects b → IsElsewhere site m.objects f top b
    below_elsewhere b less free = record { objects = free; temps = λ offset c. inl (by_temp_below b less offset c) }

    -- where lines leave what is elsewhere
    pub leaves_stay : (core : Core) → Leaves site m l.core core → AllSavedStay l.core.memory core.memory (l.frame ∷ l.callers)
    leaves_stay core leaves =
        words_stay core.memory
        (λ b from to free. leaves.memory b (record { objects = free; temps = λ offset c. inr (by_temp_own b from offset c) }))
        (λ b less free. leaves.memory b (below_elsewhere b less free))
