-- The state behind the words with which a function begins.
use Rattle.std.proofs.Common.{ℕ, ℤ, pos, zero, suc, ◌≡◌, ◌≢◌, ◌+◌, ◌-◌, ◌*◌, ◌%◌, ◌^◌, ◌<◌, ◌≤◌, ◌⊎◌, inl, inr, arith, refl, ap, sym, subst, ◌∙◌, Bool, true, false, true≢false, if◌then◌else◌, nat_lt, ◌==◌, Option, Some, List, [], ◌∷◌, ◌++◌, map, length, replicate, slice_get, slice_index_or, unwrap_or, append_assoc, Contains}
use Rattle.std.specs.List.{AllByRecursion}
use Rattle.std.proofs.lemmas.Bool.{cases_lt, lt-ltb, le-ltb}
use Rattle.std.proofs.lemmas.List.{get_or-replicate, length-replicate}
use Rattle.pw_value.specs.declared.value.Value.{Value}
use Rattle.pw_value.specs.declared.value.Value.TheVariants.{Undefined}
use Rattle.pw_value.specs.declared.value.Byte.TheVariants as B
use Rattle.pw_value.specs.declared.value.Pointer.{Pointer}
use Rattle.pw_value.specs.Objects.{Object, object_at, no_object}
use Rattle.pw_files.proofs.Standing.{has_by}
use Rattle.pw_flow.specs.declared.flow.FlowGlobal.{FlowGlobal}
use Rattle.pw_inst.specs.Computing.{offset_by}
use Rattle.pw_inst.specs.Registers.{help, second, return_address, stack_pointer}
use Rattle.pw_db.specs.declared.database.Web.{Web}
use Rattle.pw_db.specs.declared.database.Role.{Role}
use Rattle.pw_db.specs.declared.database.Role.TheVariants.{Entry}
use Rattle.pw_db.specs.Limits.{first_register}
use Rattle.pw_db.specs.Database.{IsWeb, IsDirectives}
use Rattle.pw_db.proofs.Keeping.{kept_from}
use Rattle.pw_webflow.specs.declared.web.WebBlock.{WebBlock}
use Rattle.pw_alloc.specs.declared.located.Place.{Place}
use Rattle.pw_alloc.specs.declared.located.Place.TheVariants.{Slot, Reg}
use Rattle.pw_alloc.specs.declared.located.Located.{Located}
use Rattle.pw_alloc.specs.Frames.{head_size, link_place, below}
use Rattle.pw_select_lines.specs.Registers.{store_to}
use Rattle.pw_select.specs.Selection.{slot_offsets, entry_lines, saved_lines}
use Rattle.pw_run_languages.specs.Programs.{globals_of}
use Rattle.pw_run_languages.specs.Addresses.{Addresses}
use Rattle.pw_run_languages.specs.Acts.{Core, register, number_at}
use Rattle.pw_run_languages.specs.Standing.{GlobalsAreNamed, ValueStands}
use Rattle.pw_run_languages.specs.LineRun.{LineProgram}
use Rattle.pw_run_languages.specs.FlowRun.{with_slots}
use Rattle.pw_run_languages.specs.PlacedRun.{Machine, without_places, with_register}
use Rattle.pw_run_languages.specs.Serving.{IsTempRegister, Serves, Changes}
use Rattle.pw_law_select_memory.specs.Stand.{BytesStand, OldBytesStand}
use Rattle.pw_law_select_states.specs.Laid.{address, Lives, size_of, AreLaid}
use Rattle.pw_law_select_states.specs.Frames.{HasFrame, words_size}
use Rattle.pw_law_select_frames.specs.Entering.{Enters}
use Rattle.pw_law_select_frames.specs.Saving.{MaySave, Saves}
use Rattle.pw_law_select_frames.specs.Framing.{IsSlotAt}
use Rattle.pw_law_select_frames.specs.Chain.{SavedStand}
use Rattle.pw_law_select_frames.specs.Extending.{KeepsObjects}
use Rattle.pw_law_select_frames.specs.Beginning.{MayBegin, Begins}
use Rattle.pw_law_select_frames.proofs.Known.{Known}
use Rattle.pw_law_select_frames.proofs.Going.{lines_then}
use Rattle.pw_law_select_frames.proofs.Stack.{same_number, frame_below}
use Rattle.pw_law_select_frames.proofs.Frame.{stored_again, byte_stays}
use Rattle.pw_law_select_frames.proofs.Entering.{frame_entered}
use Rattle.pw_law_select_frames.proofs.Saving.{registers_saved}
use Rattle.pw_law_select_frames.proofs.Framing.{sized, slot_stands, slots_apart}
use Rattle.pw_law_select_frames.proofs.Extending.{value_goes, bytes_go}

-- ---- new objects

abbrev pub fresh : ℕ → Object
fresh size = record { bytes = replicate size B.Undefined; live = true; writable = true }

pub slots_are : (sizes : List ℕ) (objects : List Object) → with_slots sizes objects ≡ objects ++ map fresh sizes
slots_are [] objects = sym (append_none objects)
  where
    append_none : (xs : List Object) → xs ++ [] ≡ xs
    append_none [] = refl
    append_none (x ∷ xs) = ap (λ (l : List Object). x ∷ l) (append_none xs)
slots_are (size ∷ rest) objects = slots_are rest (objects ++ fresh size ∷ []) ∙ append_assoc objects (fresh size ∷ []) (map fresh rest)

at_old : (xs ys : List Object) (o : ℕ) → o < length xs → object_at (xs ++ ys) o ≡ object_at xs o
at_old [] ys o less = absurd (omega (arith, less))
at_old (x ∷ xs) ys zero less = refl
at_old (x ∷ xs) ys (suc o) less = at_old xs ys o (omega (arith, less))

at_new : (xs ys : List Object) (o : ℕ) → length xs ≤ o → object_at (xs ++ ys) o ≡ object_at ys (o - length xs)
at_new [] ys o least = let e : o ≡ o - 0 = omega arith in ap (object_at ys) e
at_new (x ∷ xs) ys zero least = absurd (omega (arith, least))
at_new (x ∷ xs) ys (suc o) least =
    at_new xs ys o (omega (arith, least)) ∙ (let e : o - length xs ≡ suc o - length (x ∷ xs) = omega arith in ap (object_at ys) e)

dead : (o : ℕ) → object_at [] o ≡ no_object
dead zero = refl
dead (suc o) = refl

-- an object that lives is one of the list
pub lives_inside : (objects : List Object) (o : ℕ) → Lives objects o → o < length objects
lives_inside [] o h = absurd (true≢false (sym h ∙ ap (λ (x : Object). x.live) (dead o)))
lives_inside (x ∷ xs) zero h = omega arith
lives_inside (x ∷ xs) (suc o) h = let less = lives_inside xs o h in omega (arith, less)

fresh_at : (sizes : List ℕ) (s : ℕ) → Lives (map fresh sizes) s → (size : ℕ) × (slice_get sizes s ≡ Some size) × (object_at (map fresh sizes) s ≡ fresh size)
fresh_at [] s h = absurd (let less = lives_inside [] s h in omega (arith, less))
fresh_at (x ∷ rest) zero h = (x, refl, refl)
fresh_at (x ∷ rest) (suc s) h = fresh_at rest s h

-- ---- registers

without_gives : (address : Pointer → ℕ) (places : List Place) (values : ℕ → Value) (r n : ℕ) → ValueStands address (values r) n → ValueStands address (without_places places values r) n
without_gives address [] values r n h = h
without_gives address (Slot offset ∷ rest) values r n h = without_gives address rest values r n h
without_gives address (Reg q ∷ rest) values r n h = without_gives address rest (with_register q Undefined values) r n (by_test (r == q))
  where
    by_test : (t : Bool) → ValueStands address (if t then Undefined else values r) n
    by_test true = tt
    by_test false = h

all_contained : (xs : List ℕ) → ((r : ℕ) → Contains xs r → IsTempRegister r) → AllByRecursion IsTempRegister xs
all_contained [] h = tt
all_contained (x ∷ xs) h = (h x (0, omega arith, refl), all_contained xs (λ r c. h r (suc c.0, (let less = c.1 in omega (arith, less)), c.2)))

web_at : (webs : List (Web × Role)) (k : ℕ) (d : Web × Role) → AllByRecursion IsWeb (map (λ w. w.0) webs) → k < length webs → IsWeb (slice_index_or webs k d).0
web_at [] k d h less = absurd (omega (arith, less))
web_at (x ∷ xs) zero d h less = h.0
web_at (x ∷ xs) (suc k) d h less = web_at xs k d h.1 (omega (arith, less))

pub saved_are_temps : (f : Located) → Serves f.body f → IsDirectives f.body.directives → AllByRecursion IsTempRegister f.saved
saved_are_temps f serves directives = all_contained f.saved (λ r c. by_change r ((serves.saved r).0 c))
  where
    by_change : (r : ℕ) → Changes f.body f r → IsTempRegister r
    by_change r (Changes.places there high free) = (serves.registers r there).0
    by_change r (Changes.enters has) =
        let c = has.there in
        let is : IsWeb has.web = subst (λ (x : Web × Role). IsWeb x.0) c.2 (web_at f.body.directives.webs c.0 (has.web, Entry) directives.each c.1) in
        let high = is.high in
        subst IsTempRegister has.is (record { low = is.low; high = omega (arith, high) })
    by_change r (Changes.saves c) =
        let k = kept_from first_register f.body.directives.saves r directives.saves (has_by r f.body.directives.saves c) in
        let high = k.1 in
        record { low = k.0; high = omega (arith, high) }

-- ---- the state

module _ (known : Known) (old_bytes : OldBytesStand) (lines : LineProgram) (w : Addresses) (site : ℕ → ℕ) (m : Machine) (f : Located) (c : Core) (may : MayBegin lines w site m f c) where
  abbrev sp : ℕ
  sp = register c stack_pointer

  abbrev top : ℕ
  top = sp + f.frame

  abbrev now : List Object
  now = with_slots f.body.slots m.objects

  -- where each object stands then
  abbrev slot_site : ℕ → ℕ
  slot_site s = offset_by top (unwrap_or (slice_get (slot_offsets f) s) (pos 0))

  abbrev after : ℕ → ℕ
  after o = if nat_lt o (length m.objects) then site o else slot_site (o - length m.objects)

  small : top < 2 ^ 32
  small = let fits = may.fits in let memory = may.lawful.memory in omega (arith, fits, memory)

  site_old : (o : ℕ) → o < length m.objects → after o ≡ site o
  site_old o less = ap (λ (t : Bool). if t then site o else slot_site (o - length m.objects)) (lt-ltb o (length m.objects) less)

  now_old : (o : ℕ) → o < length m.objects → object_at now o ≡ object_at m.objects o
  now_old o less = ap (λ (l : List Object). object_at l o) (slots_are f.body.slots m.objects) ∙ at_old m.objects (map fresh f.body.slots) o less

  keeps : KeepsObjects site after m.objects now
  keeps = record {
    sites = site_old;
    lives = λ o less h. sym (ap (λ (x : Object). x.live) (now_old o less)) ∙ h;
    sizes = λ o less. ap (λ (x : Object). length x.bytes) (now_old o less);
  }

  -- a new object that lives
  record IsNew (o : ℕ) : Type 0 where
    pub size : ℕ
    pub there : slice_get f.body.slots (o - length m.objects) ≡ Some size
    pub at : IsSlotAt f (o - length m.objects) size
    pub spot : after o ≡ top - at.far
    pub object : object_at now o ≡ fresh size
    pub long : size_of now o ≡ size

  new_object : (o : ℕ) → length m.objects ≤ o → Lives now o → IsNew o
  new_object o least lives =
      let s = o - length m.objects in
      let same : object_at now o ≡ object_at (map fresh f.body.slots) s =
      ap (λ (l : List Object). object_at l o) (slots_are f.body.slots m.objects) ∙ at_new m.objects (map fresh f.body.slots) o least in
      let x = fresh_at f.body.slots s (sym (ap (λ (x : Object). x.live) same) ∙ lives) in
      let at = slot_stands f s x.0 may.serves x.1 in
      let high = at.high in
      let is : object_at now o ≡ fresh x.0 = same ∙ x.2 in
      record {
        size = x.0;
        there = x.1;
        at = at;
        spot = ap (λ (t : Bool). if t then site o else slot_site s) (le-ltb o (length m.objects) least)
            ∙ (ap (λ (o : Option ℤ). offset_by top (unwrap_or o (pos 0))) at.is ∙ frame_below top at.far (below at.far) refl (omega (arith, high)) small);
        object = is;
        long = ap (λ (x : Object). length x.bytes) is ∙ long_replicate x.0;
      }
    where
      long_replicate : (n : ℕ) → length (replicate n B.Undefined) ≡ n
      long_replicate n = length-replicate n B.Undefined

  base_low : w.base ≤ sp
  base_low = let low = may.stands.frame.low in omega (arith, low)

  new_above : (o : ℕ) → length m.objects ≤ o → Lives now o → sp ≤ after o
  new_above o least lives =
      let x = new_object o least lives in
      let at = x.spot in
      let high = x.at.high in
      omega (arith, at, high)

  new_below : (o : ℕ) → length m.objects ≤ o → Lives now o → after o + size_of now o < top - words_size f + 1
  new_below o least lives =
      let x = new_object o least lives in
      let at = x.spot in
      let size = x.long in
      let low = x.at.low in
      let high = x.at.high in
      omega (arith, at, size, low, high)

  old_below : (o : ℕ) → o < length m.objects → Lives now o → after o + size_of now o < sp
  old_below o less lives =
      let at = keeps.sites o less in
      let size = keeps.sizes o less in
      let h = may.below o (keeps.lives o less lives) in
      omega (arith, at, size, h)

  -- ---- objects

  names_go : (n : ℕ) (gs : List FlowGlobal) → ((k : ℕ) (g : FlowGlobal) → slice_get gs k ≡ Some g → n + k < length m.objects) → GlobalsAreNamed w.named site n gs → GlobalsAreNamed w.named after n gs
  names_go n [] inside h = tt
  names_go n (g ∷ gs) inside h =
      let first = inside 0 g refl in (
        site_old n (omega (arith, first)) ∙ h.0,
        names_go (suc n) gs (λ k x e. let less = inside (suc k) x e in omega (arith, less)) h.1,
      )

  laid : AreLaid lines.flow w after now
  laid =
      let l = may.stands.laid in
      let inside : (n : ℕ) (g : FlowGlobal) → slice_get (globals_of lines.flow) n ≡ Some g → n < length m.objects =
      λ n g e. lives_inside m.objects n (l.live n g e) in
      record {
        named = names_go 0 (globals_of lines.flow) (λ k g e. let less = inside k g e in omega (arith, less)) l.named;
        live = λ n g e. ap (λ (x : Object). x.live) (now_old n (inside n g e)) ∙ l.live n g e;
        size = λ n g e. keeps.sizes n (inside n g e) ∙ l.size n g e;
        aligned = λ o lives. by_aligned o lives (cases_lt o (length m.objects));
        above = λ o lives. by_above o lives (cases_lt o (length m.objects));
        below = λ o lives. by_below o lives (cases_lt o (length m.objects));
        apart = λ o q one two ne. by_apart o q one two ne (cases_lt o (length m.objects)) (cases_lt q (length m.objects));
      }
    where
      by_aligned : (o : ℕ) → Lives now o → (o < length m.objects) ⊎ (length m.objects ≤ o) → after o % 8 ≡ 0
      by_aligned o lives (inl less) = ap (λ a. a % 8) (keeps.sites o less) ∙ may.stands.laid.aligned o (keeps.lives o less lives)
      by_aligned o lives (inr least) =
          let x = new_object o least lives in
          let at = x.spot in
          let even = x.at.even in
          let high = x.at.high in
          let aligned = may.stands.frame.aligned in
          let frame = (sized f may.serves).even in
          omega (arith, at, even, high, aligned, frame)

      by_above : (o : ℕ) → Lives now o → (o < length m.objects) ⊎ (length m.objects ≤ o) → w.data_start ≤ after o
      by_above o lives (inl less) = let at = keeps.sites o less in let h = may.stands.laid.above o (keeps.lives o less lives) in omega (arith, at, h)
      by_above o lives (inr least) =
          let h = new_above o least lives in
          let base = base_low in
          let start = may.lawful.stack_above in
          omega (arith, h, base, start)

      by_below : (o : ℕ) → Lives now o → (o < length m.objects) ⊎ (length m.objects ≤ o) → after o + size_of now o < w.limit
      by_below o lives (inl less) = let h = old_below o less lives in let fits = may.fits in omega (arith, h, fits)
      by_below o lives (inr least) =
          let h = new_below o least lives in
          let fits = may.fits in
          let x = new_object o least lives in
          let low = x.at.low in
          let high = x.at.high in
          omega (arith, h, fits, low, high)

      by_apart : (o q : ℕ) → Lives now o → Lives now q → o ≢ q → (o < length m.objects) ⊎ (length m.objects ≤ o) → (q < length m.objects) ⊎ (length m.objects ≤ q)
          → (after o + size_of now o < after q) ⊎ (after q + size_of now q < after o)
      by_apart o q one two ne (inl less) (inl also) =
          let at = keeps.sites o less in
          let size = keeps.sizes o less in
          let there = keeps.sites q also in
          let long = keeps.sizes q also in
          both at size there long (may.stands.laid.apart o q (keeps.lives o less one) (keeps.lives q also two) ne)
        where
          both : after o ≡ site o → size_of now o ≡ size_of m.objects o → after q ≡ site q → size_of now q ≡ size_of m.objects q
              → (site o + size_of m.objects o < site q) ⊎ (site q + size_of m.objects q < site o) → (after o + size_of now o < after q) ⊎ (after q + size_of now q < after o)
          both at size there long (inl h) = inl (omega (arith, at, size, there, long, h))
          both at size there long (inr h) = inr (omega (arith, at, size, there, long, h))
      by_apart o q one two ne (inl less) (inr least) =
          inl (let h = old_below o less one in let k = new_above q least two in omega (arith, h, k))
      by_apart o q one two ne (inr least) (inl less) =
          inr (let h = old_below q less two in let k = new_above o least one in omega (arith, h, k))
      by_apart o q one two ne (inr least) (inr also) = by_order (cases_lt o q)
        where
          x : IsNew o
          x = new_object o least one

          y : IsNew q
          y = new_object q also two

          by_order : (o < q) ⊎ (q ≤ o) → (after o + size_of now o < after q) ⊎ (after q + size_of now q < after o)
          by_order (inl less) =
              let h = slots_apart f (o - length m.objects) (q - length m.objects) x.size y.size may.serves (omega (arith, less, least)) x.there y.there x.at y.at in
              let at = x.spot in
              let there = y.spot in
              let long = y.long in
              let high = x.at.high in
              let also = y.at.high in
              inr (omega (arith, h, at, there, long, high, also))
          by_order (inr more) =
              let h = slots_apart f (q - length m.objects) (o - length m.objects) y.size x.size may.serves (omega (arith, more, ne, also)) y.there x.there y.at x.at in
              let at = x.spot in
              let there = y.spot in
              let long = x.long in
              let high = x.at.high in
              let upper = y.at.high in
              inl (omega (arith, h, at, there, long, high, upper))

  -- ---- words

  entry : Enters lines w f.frame c
  entry =
      let aligned = may.stands.frame.aligned in
      frame_entered known lines w f.frame c may.lawful may.stands.goes may.stands.words (omega (arith, aligned)) base_low may.fits

  may_save : MaySave lines w (head_size f.body) f.saved entry.core
  may_save =
      let sizes = sized f may.serves in
      let words = sizes.words in
      let frame = sizes.frame in
      let even = sizes.even in
      let aligned = may.stands.frame.aligned in
      let base = base_low in
      let pointer = entry.pointer in
      let fits = may.fits in
      record {
        lawful = may.lawful;
        skip = entry.goes.skip;
        holds = entry.holds;
        top = record { aligned = omega (arith, pointer, aligned, even); low = omega (arith, pointer, base, words, frame); high = omega (arith, pointer, fits) };
        aligned = sizes.head;
        registers = saved_are_temps f may.serves may.directives;
      }

  saving : Saves lines w (head_size f.body) f.saved entry.core
  saving = registers_saved known lines w (head_size f.body) f.saved entry.core may_save

  -- registers but these are as they were
  register_stays : (r : ℕ) → r ≢ help → r ≢ second → r ≢ stack_pointer → register saving.core r ≡ register c r
  register_stays r one two three = saving.others r one ∙ entry.others r one two three

  pointer_is : register saving.core stack_pointer ≡ top
  pointer_is = saving.others stack_pointer (λ e. omega (arith, e)) ∙ entry.pointer

  memory_stays : (a : ℕ) → a < sp → (a + 20 < sp) ⊎ (sp ≤ a + 16) → saving.core.memory a ≡ c.memory a
  memory_stays a less out =
      let sizes = sized f may.serves in
      let words = sizes.words in
      let frame = sizes.frame in
      let pointer = entry.pointer in
      saving.memory a (inl (omega (arith, less, words, frame, pointer))) ∙ byte_stays known (register c return_address) (sp - link_place) a c entry.core entry.memory (by_place out)
    where
      by_place : (a + 20 < sp) ⊎ (sp ≤ a + 16) → (a < sp - link_place) ⊎ (sp - link_place + 4 ≤ a)
      by_place (inl h) = inl (omega (arith, h))
      by_place (inr h) = inr (let base = base_low in let start = may.lawful.stack_above in omega (arith, h, base, start))

  -- a byte of an object that lived is not that of the return address
  object_stays : (o a : ℕ) → Lives m.objects o → site o ≤ a → a < site o + size_of m.objects o → saving.core.memory a ≡ c.memory a
  object_stays o a lives from to =
      let less = may.below o lives in
      memory_stays a (omega (arith, less, to)) (by_place (may.stands.frame.clear o lives))
    where
      by_place : (site o + size_of m.objects o ≤ sp - words_size m.frame.function) ⊎ (sp ≤ site o) → (a + 20 < sp) ⊎ (sp ≤ a + 16)
      by_place (inl low) = inl (let base = base_low in let start = may.lawful.stack_above in omega (arith, low, to, base, start))
      by_place (inr high) = absurd (let less = may.below o lives in omega (arith, high, less))

  temp_stays : (r : ℕ) → IsTempRegister r → register saving.core r ≡ register c r
  temp_stays r is =
      let low = is.low in
      let high = is.high in
      register_stays r (λ e. omega (arith, e, low)) (λ e. omega (arith, e, high)) (λ e. omega (arith, e, high))

  -- ---- what stands

  none_stand : (address : Pointer → ℕ) (memory : ℕ → ℕ) (a n : ℕ) → BytesStand address memory a (replicate n B.Undefined)
  none_stand address memory a zero = tt
  none_stand address memory a (suc n) = (tt, none_stand address memory (a + 1) n)

  object_stands : (o : ℕ) → Lives now o → (o < length m.objects) ⊎ (length m.objects ≤ o) → BytesStand (address lines.flow w after) saving.core.memory (after o) (object_at now o).bytes
  object_stands o lives (inl less) =
      let before = keeps.lives o less lives in
      let bytes = (object_at m.objects o).bytes in
      subst (λ (x : Object). BytesStand (address lines.flow w after) saving.core.memory (after o) x.bytes) (sym (now_old o less))
      (subst (λ a. BytesStand (address lines.flow w after) saving.core.memory a bytes) (sym (keeps.sites o less))
      (old_bytes (address lines.flow w after) c.memory saving.core.memory (site o) bytes (λ a from to. object_stays o a before from to)
      (bytes_go lines.flow w site after (length m.objects) keeps.sites bytes c.memory (site o) (may.known.bytes o) (may.stands.bytes o before))))
  object_stands o lives (inr least) =
      let x = new_object o least lives in
      subst (λ (x : Object). BytesStand (address lines.flow w after) saving.core.memory (after o) x.bytes) (sym x.object)
      (none_stand (address lines.flow w after) saving.core.memory (after o) x.size)

  frame_has : HasFrame w after now f top
  frame_has =
      let base = base_low in
      let fits = may.fits in
      let aligned = may.stands.frame.aligned in
      let sizes = sized f may.serves in
      let even = sizes.even in
      record {
        low = omega (arith, base);
        high = fits;
        aligned = omega (arith, aligned, even);
        clear = λ o lives. by_number o lives (cases_lt o (length m.objects));
      }
    where
      by_number : (o : ℕ) → Lives now o → (o < length m.objects) ⊎ (length m.objects ≤ o) → (after o + size_of now o ≤ top - words_size f) ⊎ (top ≤ after o)
      by_number o lives (inl less) =
          let h = old_below o less lives in
          let frame = (sized f may.serves).frame in
          inl (omega (arith, h, frame))
      by_number o lives (inr least) = inl (let h = new_below o least lives in omega (arith, h))

  saved_stand : (i : ℕ) (saved : List ℕ) → AllByRecursion IsTempRegister saved
      → ((k r : ℕ) → slice_get saved k ≡ Some r → number_at 4 saving.core.memory (register saving.core stack_pointer - head_size f.body - 4 * (i + k + 1)) ≡ register c r)
      → SavedStand (address lines.flow w after) saving.core.memory (register saving.core stack_pointer - head_size f.body) i (map (λ r. (r, m.registers r)) saved)
  saved_stand i [] temps h = tt
  saved_stand i (r ∷ rest) temps h =
      let here : register saving.core stack_pointer - head_size f.body - 4 * (i + 1) ≡ register saving.core stack_pointer - head_size f.body - 4 * (i + 0 + 1) = omega arith in
      let number = ap (number_at 4 saving.core.memory) here ∙ h 0 r refl in (
        subst (ValueStands (address lines.flow w after) (m.registers r)) (sym number)
            (value_goes lines.flow w site after (length m.objects) keeps.sites (m.registers r) (register c r) (may.known.registers r) (may.stands.registers r temps.0)),
        saved_stand (suc i) rest temps.1 (λ k q e.
            let next : register saving.core stack_pointer - head_size f.body - 4 * (suc i + k + 1) ≡ register saving.core stack_pointer - head_size f.body - 4 * (i + suc k + 1) = omega arith in
            ap (number_at 4 saving.core.memory) next ∙ h (suc k) q e),
      )

  pub function_begins : (b : WebBlock) (t : Option ℕ) → Begins lines w site m f b t c
  function_begins b t =
      let pointer = pointer_is in
      record {
        after = after;
        core = saving.core;
        goes = lines_then known lines w (entry_lines f.frame) (saved_lines store_to (head_size f.body) 0 f.saved) [] [] c entry.core saving.core entry.goes saving.goes;
        keeps = keeps;
        new = new_above;
        stands = record {
          words = saving.holds;
          laid = laid;
          bytes = λ o lives. object_stands o lives (cases_lt o (length m.objects));
          registers = λ r is.
              subst (ValueStands (address lines.flow w after) (without_places f.places m.registers r)) (sym (temp_stays r is))
              (without_gives (address lines.flow w after) f.places m.registers r (register c r)
              (value_goes lines.flow w site after (length m.objects) keeps.sites (m.registers r) (register c r) (may.known.registers r) (may.stands.registers r is)));
          frame = subst (λ a. HasFrame w after now f a) (sym pointer) frame_has;
          holds = record {
            temps = λ k offset e. subst (λ (v : Value). ValueStands (address lines.flow w after) v (number_at 4 saving.core.memory (offset_by (register saving.core stack_pointer) offset)))
                (sym (nothing k f.body.temps)) tt;
            slots = λ s offset e.
                let past : nat_lt (length m.objects + s) (length m.objects) ≡ false = le-ltb (length m.objects + s) (length m.objects) (omega arith) in
                let number : length m.objects + s - length m.objects ≡ s = omega arith in
                ap (λ (t : Bool). if t then site (length m.objects + s) else slot_site (length m.objects + s - length m.objects)) past
                ∙ (ap slot_site number
                ∙ (ap (λ (o : Option ℤ). offset_by top (unwrap_or o (pos 0))) e ∙ ap (λ a. offset_by a offset) (sym pointer)));
          };
          goes = saving.goes.skip;
        };
        pointer = pointer;
        registers = register_stays;
        memory = memory_stays;
        link =
            let sizes = sized f may.serves in
            let words = sizes.words in
            let frame = sizes.frame in
            let entered = entry.pointer in
            let base = base_low in
            let start = may.lawful.stack_above in
            same_number 4 (sp - link_place) saving.core.memory entry.core.memory (λ a from to. saving.memory a (inl (omega (arith, to, words, frame, entered, base, start))))
            ∙ stored_again known (register c return_address) (sp - link_place) c entry.core entry.memory may.link;
        words = λ k r e.
            let place : top - head_size f.body - 4 * (k + 1) ≡ register saving.core stack_pointer - head_size f.body - 4 * (0 + k + 1) = omega (arith, pointer) in
            ap (number_at 4 saving.core.memory) place ∙ word_stands k r e;
        saved = saved_stand 0 f.saved may_save.registers word_stands;
      }
    where
      past : (k n : ℕ) → n ≤ k → slice_index_or (replicate n Undefined) k Undefined ≡ Undefined
      past zero zero more = refl
      past (suc k) zero more = refl
      past zero (suc n) more = absurd (omega (arith, more))
      past (suc k) (suc n) more = past k n (omega (arith, more))

      nothing_by : (k n : ℕ) → (k < n) ⊎ (n ≤ k) → slice_index_or (replicate n Undefined) k Undefined ≡ Undefined
      nothing_by k n (inl less) = get_or-replicate n k Undefined Undefined less
      nothing_by k n (inr more) = past k n more

      nothing : (k n : ℕ) → slice_index_or (replicate n Undefined) k Undefined ≡ Undefined
      nothing k n = nothing_by k n (cases_lt k n)

      temp_at : (xs : List ℕ) (k r : ℕ) → AllByRecursion IsTempRegister xs → slice_get xs k ≡ Some r → IsTempRegister r
      temp_at [] k r h e = absurd cc
      temp_at (x ∷ xs) zero r h e = let same : x ≡ r = cc in subst IsTempRegister same h.0
      temp_at (x ∷ xs) (suc k) r h e = temp_at xs k r h.1 e

      word_stands : (k r : ℕ) → slice_get f.saved k ≡ Some r → number_at 4 saving.core.memory (register saving.core stack_pointer - head_size f.body - 4 * (0 + k + 1)) ≡ register c r
      word_stands k r e =
          let is = temp_at f.saved k r may_save.registers e in
          let low = is.low in
          let high = is.high in
          let place : register saving.core stack_pointer - head_size f.body - 4 * (0 + k + 1) ≡ register entry.core stack_pointer - (head_size f.body + 4 * (k + 1)) =
          (let same = saving.others stack_pointer (λ e. omega (arith, e)) in omega (arith, same)) in
          ap (number_at 4 saving.core.memory) place
          ∙ (saving.stand k r e ∙ entry.others r (λ e. omega (arith, e, low)) (λ e. omega (arith, e, high)) (λ e. omega (arith, e, high)))
