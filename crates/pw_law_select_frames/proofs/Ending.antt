-- The state behind the words with which a function ends.
use Rattle.std.proofs.Common.{ℕ, zero, suc, ◌≡◌, ◌≢◌, ◌+◌, ◌-◌, ◌*◌, ◌<◌, ◌≤◌, ◌⊎◌, inl, inr, arith, refl, ap, sym, subst, ◌∙◌, Bool, true, false, true≢false, if◌then◌else◌, nat_lt, nat_le, ◌&&◌, List, [], ◌∷◌, length, slice_set}
use Rattle.std.specs.List.{AllByRecursion}
use Rattle.std.proofs.lemmas.Bool.{cases_lt, cases_eq, ne_eqb}
use Rattle.pw_value.specs.declared.value.Value.{Value}
use Rattle.pw_value.specs.declared.value.Value.TheVariants.{Undefined}
use Rattle.pw_value.specs.declared.value.Pointer.{Pointer}
use Rattle.pw_value.specs.declared.value.Byte.{Byte}
use Rattle.pw_value.specs.Objects.{Object, object_at, ended}
use Rattle.pw_inst.specs.Registers.{answer, stack_pointer}
use Rattle.pw_db.specs.Limits.{last_register, last_temporary}
use Rattle.pw_alloc.specs.declared.located.Located.{Located}
use Rattle.pw_alloc.specs.Frames.{head_size, link_place}
use Rattle.std.proofs.lemmas.Option.{slice_get_within}
use Rattle.pw_run_languages.specs.Programs.{globals_of}
use Rattle.pw_run_languages.specs.Addresses.{Addresses}
use Rattle.pw_run_languages.specs.Acts.{Core, register, put, number_at}
use Rattle.pw_run_languages.specs.Standing.{ValueStands, given_back}
use Rattle.pw_run_languages.specs.LineRun.{LineProgram, Frame}
use Rattle.pw_run_languages.specs.FlowRun.{end_from}
use Rattle.pw_run_languages.specs.PlacedRun as placed
use Rattle.pw_run_languages.specs.PlacedRun.{Machine, with_registers, without_scratch}
use Rattle.pw_run_languages.specs.Serving.{IsTempRegister}
use Rattle.pw_law_select_memory.specs.Stand.{BytesStand}
use Rattle.pw_law_select_states.specs.Laid.{address, Lives, size_of, AreLaid}
use Rattle.pw_law_select_states.specs.Frames.{HasFrame, FrameHolds, words_size}
use Rattle.pw_law_select_frames.specs.Saving.{MaySave}
use Rattle.pw_law_select_frames.specs.Leaving.{Leaves}
use Rattle.pw_law_select_frames.specs.Chain.{frame_top}
use Rattle.pw_law_select_frames.specs.Extending.{KeepsObjects}
use Rattle.pw_law_select_frames.specs.Ending.{MayEnd, Ends}
use Rattle.pw_law_select_frames.proofs.Known.{Known}
use Rattle.pw_law_select_frames.proofs.Framing.{sized}
use Rattle.pw_law_select_frames.proofs.Globals.{given_registers_hold}
use Rattle.pw_law_select_frames.proofs.Leaving.{frame_left_behind}
use Rattle.pw_law_select_frames.proofs.Beginning.{lives_inside, saved_are_temps}

-- ---- objects that end

set_bytes : (objects : List Object) (o k : ℕ) (y : Object) → y.bytes ≡ (object_at objects o).bytes → (object_at (slice_set objects o y) k).bytes ≡ (object_at objects k).bytes
set_bytes [] o k y e = refl
set_bytes (x ∷ xs) zero zero y e = e
set_bytes (x ∷ xs) zero (suc k) y e = refl
set_bytes (x ∷ xs) (suc o) zero y e = refl
set_bytes (x ∷ xs) (suc o) (suc k) y e = set_bytes xs o k y e

set_other : (objects : List Object) (o k : ℕ) (y : Object) → k ≢ o → object_at (slice_set objects o y) k ≡ object_at objects k
set_other [] o k y ne = refl
set_other (x ∷ xs) zero zero y ne = absurd (ne refl)
set_other (x ∷ xs) zero (suc k) y ne = refl
set_other (x ∷ xs) (suc o) zero y ne = refl
set_other (x ∷ xs) (suc o) (suc k) y ne = set_other xs o k y (λ e. ne (ap suc e))

set_dead : (objects : List Object) (o : ℕ) (y : Object) → y.live ≡ false → Lives (slice_set objects o y) o → ⊥
set_dead [] o y e h = let less = lives_inside [] o h in omega (arith, less)
set_dead (x ∷ xs) zero y e h = true≢false (sym h ∙ e)
set_dead (x ∷ xs) (suc o) y e h = set_dead xs o y e h

ends_bytes : (more o : ℕ) (objects : List Object) (k : ℕ) → (object_at (end_from more o objects) k).bytes ≡ (object_at objects k).bytes
ends_bytes zero o objects k = refl
ends_bytes (suc more) o objects k =
    ends_bytes more (suc o) (ended o objects) k ∙ set_bytes objects o k (record (object_at objects o) { live = false }) refl

ends_early : (more o : ℕ) (objects : List Object) (k : ℕ) → k < o → object_at (end_from more o objects) k ≡ object_at objects k
ends_early zero o objects k less = refl
ends_early (suc more) o objects k less =
    ends_early more (suc o) (ended o objects) k (omega (arith, less))
    ∙ set_other objects o k (record (object_at objects o) { live = false }) (λ e. omega (arith, e, less))

ends_late : (more o : ℕ) (objects : List Object) (k : ℕ) → o ≤ k → k < o + more → Lives (end_from more o objects) k → ⊥
ends_late zero o objects k least less h = omega (arith, least, less)
ends_late (suc more) o objects k least less h = by_place (λ (from : suc o ≤ k). ends_late more (suc o) (ended o objects) k from (omega (arith, less)) h) (cases_eq k o)
  where
    by_place : (suc o ≤ k → ⊥) → (k ≡ o) ⊎ (k ≡ o → ⊥) → ⊥
    by_place later (inl same) =
        let first : k < suc o = omega (arith, same) in
        set_dead objects o (record (object_at objects o) { live = false }) refl
        (subst (Lives (ended o objects)) same (sym (ap (λ (x : Object). x.live) (ends_early more (suc o) (ended o objects) k first)) ∙ h))
    by_place later (inr ne) = later (omega (arith, least, ne))

ends_past : (more o : ℕ) (objects : List Object) (k : ℕ) → o + more ≤ k → object_at (end_from more o objects) k ≡ object_at objects k
ends_past zero o objects k most = refl
ends_past (suc more) o objects k most =
    ends_past more (suc o) (ended o objects) k (omega (arith, most))
    ∙ set_other objects o k (record (object_at objects o) { live = false }) (λ e. omega (arith, e, most))

-- what lives then is older, and lived
lives_on : (base : ℕ) (objects : List Object) (k : ℕ) → base ≤ length objects → Lives (end_from (length objects - base) base objects) k → (k < base) × Lives objects k
lives_on base objects k within h = by_place (cases_lt k base)
  where
    by_place : (k < base) ⊎ (base ≤ k) → (k < base) × Lives objects k
    by_place (inl less) = (less, sym (ap (λ (x : Object). x.live) (ends_early (length objects - base) base objects k less)) ∙ h)
    by_place (inr least) = by_end (cases_lt k (length objects))
      where
        by_end : (k < length objects) ⊎ (length objects ≤ k) → (k < base) × Lives objects k
        by_end (inl less) = absurd (ends_late (length objects - base) base objects k least (omega (arith, less, within)) h)
        by_end (inr most) =
            let same = ends_past (length objects - base) base objects k (omega (arith, most, within)) in
            absurd (let less = lives_inside objects k (sym (ap (λ (x : Object). x.live) same) ∙ h) in omega (arith, less, most))

-- ---- registers

-- the registers of temporaries that a callee does not keep hold nothing
scratch_holds : (address : Pointer → ℕ) (values : ℕ → Value) (r n : ℕ) → ValueStands address (values r) n → ValueStands address (without_scratch values r) n
scratch_holds address values r n h = by_test (nat_lt last_register r && nat_le r last_temporary)
  where
    by_test : (t : Bool) → ValueStands address (if t then Undefined else values r) n
    by_test true = tt
    by_test false = h

register_is : (c : Core) (r : ℕ) → r ≢ 0 → register c r ≡ c.registers r
register_is c r some = ap (λ (t : Bool). if t then 0 else c.registers r) (ne_eqb r 0 some)

-- one that is not among those that are given back
not_given : (memory : ℕ → ℕ) (top k r : ℕ) (saved : List ℕ) (g : ℕ → ℕ) → AllByRecursion IsTempRegister saved → 20 < r → given_back memory top k saved g r ≡ g r
not_given memory top k r [] g h high = refl
not_given memory top k r (q ∷ rest) g h high =
    let is = h.0 in
    let most = is.high in
    not_given memory top (suc k) r rest (put q (number_at 4 memory (top - 4 * (k + 1))) g) h.1 high
    ∙ ap (λ (t : Bool). if t then number_at 4 memory (top - 4 * (k + 1)) else g r) (ne_eqb r q (λ e. omega (arith, e, most, high)))

-- ---- the state

module _ (known : Known) (lines : LineProgram) (w : Addresses) (site : ℕ → ℕ) (m : Machine) (l : Frame) (caller : placed.Frame) (callers : List placed.Frame) (waiting : Frame) (c : Core)
    (may : MayEnd lines w site m l caller waiting c) where
  abbrev f : Located
  f = m.frame.function

  abbrev sp : ℕ
  sp = register c stack_pointer

  abbrev now : List Object
  now = end_from (length m.objects - m.frame.base) m.frame.base m.objects

  keeps : KeepsObjects site site m.objects now
  keeps = record {
    sites = λ o less. refl;
    lives = λ o less h. (lives_on m.frame.base m.objects o may.base h).1;
    sizes = λ o less. ap (λ (b : List Byte). length b) (ends_bytes (length m.objects - m.frame.base) m.frame.base m.objects o);
  }

  lived : (o : ℕ) → Lives now o → Lives m.objects o
  lived o h = (lives_on m.frame.base m.objects o may.base h).1

  size_same : (o : ℕ) → size_of now o ≡ size_of m.objects o
  size_same o = ap (λ (b : List Byte). length b) (ends_bytes (length m.objects - m.frame.base) m.frame.base m.objects o)

  laid : AreLaid lines.flow w site now
  laid =
      let a = may.stands.laid in
      record {
        named = a.named;
        live = λ n g e.
            ap (λ (x : Object). x.live) (ends_early (length m.objects - m.frame.base) m.frame.base m.objects n (may.globals n (slice_get_within (globals_of lines.flow) n g e)))
            ∙ a.live n g e;
        size = λ n g e. size_same n ∙ a.size n g e;
        aligned = λ o h. a.aligned o (lived o h);
        above = λ o h. a.above o (lived o h);
        below = λ o h. subst (λ n. site o + n < w.limit) (sym (size_same o)) (a.below o (lived o h));
        apart = λ o q one two ne. by_place o q (a.apart o q (lived o one) (lived q two) ne);
      }
    where
      by_place : (o q : ℕ) → (site o + size_of m.objects o < site q) ⊎ (site q + size_of m.objects q < site o) → (site o + size_of now o < site q) ⊎ (site q + size_of now q < site o)
      by_place o q (inl h) = inl (subst (λ n. site o + n < site q) (sym (size_same o)) h)
      by_place o q (inr h) = inr (subst (λ n. site q + n < site o) (sym (size_same q)) h)

  may_save : MaySave lines w (head_size f.body) f.saved c
  may_save =
      let sizes = sized f may.active.serves in
      let words = sizes.words in
      let frame = sizes.frame in
      let has = may.stands.frame in
      let low = has.low in
      let aligned = has.aligned in
      record {
        lawful = may.lawful;
        skip = may.stands.goes;
        holds = may.stands.words;
        top = record { aligned = omega (arith, aligned); low = omega (arith, low, words, frame); high = has.high };
        aligned = sizes.head;
        registers = saved_are_temps f may.active.serves may.active.directives;
      }

  left : Leaves lines w f c
  left =
      let has = may.stands.frame in
      let low = has.low in
      let aligned = has.aligned in
      let even = (sized f may.active.serves).even in
      frame_left_behind known lines w f c may_save (record { aligned = omega (arith, aligned); low = low; high = has.high }) (omega (arith, even))

  pointer_is : register left.core stack_pointer ≡ l.stack
  pointer_is = left.pointer ∙ (let top = may.top in omega (arith, top))

  temps_given : (r : ℕ) → IsTempRegister r → register left.core r ≡ given_back c.memory (frame_top m.frame l - head_size f.body) 0 f.saved c.registers r
  temps_given r is =
      let low = is.low in
      let high = is.high in
      left.registers r (λ e. omega (arith, e, low)) (λ e. omega (arith, e, low)) (λ e. omega (arith, e, low)) (λ e. omega (arith, e, high))
      ∙ ap (λ a. given_back c.memory (a - head_size f.body) 0 f.saved c.registers r) may.top

  caller_has : HasFrame w site now caller.function l.stack
  caller_has =
      let has = may.waits.frame in
      record { low = has.low; high = has.high; aligned = has.aligned; clear = λ o h. by_place o (has.clear o (lived o h)) }
    where
      by_place : (o : ℕ) → (site o + size_of m.objects o ≤ l.stack - words_size caller.function) ⊎ (l.stack ≤ site o) → (site o + size_of now o ≤ l.stack - words_size caller.function) ⊎ (l.stack ≤ site o)
      by_place o (inl h) = inl (subst (λ n. site o + n ≤ l.stack - words_size caller.function) (sym (size_same o)) h)
      by_place o (inr h) = inr h

  pub function_ends : Ends lines w site m l caller callers waiting c
  function_ends =
      let given = given_registers_hold (address lines.flow w site) m.registers c left.core m.frame l may.active may.stands.registers temps_given in
      let link : register c stack_pointer - (f.frame + link_place) ≡ l.stack - link_place = (let top = may.top in omega (arith, top)) in
      record {
        core = left.core;
        goes = left.goes;
        stands = record {
          words = left.holds;
          laid = laid;
          bytes = λ o h.
              subst (λ (bs : List Byte). BytesStand (address lines.flow w site) left.core.memory (site o) bs) (sym (ends_bytes (length m.objects - m.frame.base) m.frame.base m.objects o))
              (subst (λ (memory : ℕ → ℕ). BytesStand (address lines.flow w site) memory (site o) (object_at m.objects o).bytes) (sym left.memory) (may.stands.bytes o (lived o h)));
          registers = λ r is. scratch_holds (address lines.flow w site) (with_registers m.frame.saved m.registers) r (register left.core r) (given r is);
          frame = subst (λ a. HasFrame w site now caller.function a) (sym pointer_is) caller_has;
          holds = subst (λ a. FrameHolds (address lines.flow w site) site caller left.core.memory a) (sym pointer_is)
              (subst (λ (memory : ℕ → ℕ). FrameHolds (address lines.flow w site) site caller memory l.stack) (sym left.memory) may.waits.holds);
          goes = left.goes.skip;
        };
        keeps = keeps;
        older = λ o h. (lives_on m.frame.base m.objects o may.base h).0;
        link = left.link ∙ (ap (number_at 4 c.memory) link ∙ may.waits.link);
        pointer = pointer_is;
        value = left.registers answer (λ e. omega (arith, e)) (λ e. omega (arith, e)) (λ e. omega (arith, e)) (λ e. omega (arith, e))
            ∙ (not_given c.memory (register c stack_pointer - head_size f.body) 0 answer f.saved c.registers may_save.registers (omega arith));
        temps = temps_given;
        memory = left.memory;
      }
