-- Chains of frames, and what operations leave of them.
use Rattle.std.proofs.Common.{ℕ, ◌≡◌, ◌+◌, ◌-◌, ◌<◌, ◌≤◌, ◌⊎◌, inl, inr, arith, refl, ap, sym, subst, ◌∙◌, Option, List, [], ◌∷◌, ◌++◌, length, fold, sum_by, slice_index_or}
use Rattle.std.specs.List.{AllByRecursion}
use Rattle.std.proofs.lemmas.Bool.{cases_lt}
use Rattle.std.proofs.lemmas.Option.{slice_get-get_or}
use Rattle.pw_value.specs.Objects.{Object}
use Rattle.pw_inst.specs.Registers.{stack_pointer}
use Rattle.pw_value.specs.Rounding.{slot_room}
use Rattle.pw_alloc.specs.Frames.{below}
use Rattle.pw_delay.specs.Items.{slotted}
use Rattle.pw_select_lines.specs.Operations.{call_result}
use Rattle.pw_run_languages.specs.Programs.{Program}
use Rattle.pw_run_languages.specs.Addresses.{Addresses, AreLawful}
use Rattle.pw_run_languages.specs.Acts.{Core, register}
use Rattle.pw_run_languages.specs.LineRun as run
use Rattle.pw_run_languages.specs.Links.{LinksStand}
use Rattle.pw_run_languages.specs.PlacedRun as placed
use Rattle.pw_run_languages.specs.Serving.{Serves}
use Rattle.pw_law_select_states.specs.Laid.{address, Lives, size_of}
use Rattle.pw_law_select_states.specs.Frames.{words_size}
use Rattle.pw_law_select_states.specs.States.{Stands}
use Rattle.pw_law_select_frames.specs.Blocks.{lines_from}
use Rattle.pw_law_select_frames.specs.Chain.{AllActive, AllWait, BothStand, frame_top}
use Rattle.pw_law_select_frames.proofs.Stack.{frame_below}
use Rattle.pw_law_select_frames.proofs.Framing.{slot_stands}

-- ---- frames

pub waiting_are_active : (p : Program) (w : Addresses) (site : ℕ → ℕ) (objects : List Object) (memory : ℕ → ℕ) (callee : placed.Frame) (stack : ℕ) (fs : List placed.Frame) (ls : List run.Frame)
    → AllWait p w site objects memory callee stack fs ls → AllActive (address p w site) memory fs ls
waiting_are_active p w site objects memory callee stack [] [] h = tt
waiting_are_active p w site objects memory callee stack [] (l ∷ ls) h = absurd h
waiting_are_active p w site objects memory callee stack (f ∷ fs) [] h = absurd h
waiting_are_active p w site objects memory callee stack (f ∷ fs) (l ∷ ls) h = (h.0.active, waiting_are_active p w site objects memory f l.stack fs ls h.1)

pub all_active : (p : Program) (w : Addresses) (site : ℕ → ℕ) (m : placed.Machine) (l : run.Machine) → BothStand p w site m l
    → AllActive (address p w site) l.core.memory (m.frame ∷ m.callers) (l.frame ∷ l.callers)
all_active p w site m l h = (h.active, waiting_are_active p w site m.objects l.core.memory m.frame l.frame.stack m.callers l.callers h.callers)

pub links_from : (p : Program) (w : Addresses) (site : ℕ → ℕ) (objects : List Object) (c : Core) (callee : placed.Frame) (g : run.Frame) (fs : List placed.Frame) (ls : List run.Frame)
    → AllWait p w site objects c.memory callee g.stack fs ls → LinksStand w c (g ∷ ls)
links_from p w site objects c callee g [] [] h = tt
links_from p w site objects c callee g [] (l ∷ ls) h = absurd h
links_from p w site objects c callee g (f ∷ fs) [] h = absurd h
links_from p w site objects c callee g (f ∷ fs) (l ∷ ls) h = (h.0.link, links_from p w site objects c f l fs ls h.1)

pub links_stand : (p : Program) (w : Addresses) (site : ℕ → ℕ) (m : placed.Machine) (l : run.Machine) → BothStand p w site m l → LinksStand w l.core (l.frame ∷ l.callers)
links_stand p w site m l h = links_from p w site m.objects l.core m.frame l.frame m.callers l.callers h.callers

-- a sum from a number on
sum_from : (g : placed.Frame → ℕ) (n : ℕ) (fs : List placed.Frame) → fold (λ a x. a + g x) n fs ≡ n + fold (λ a x. a + g x) 0 fs
sum_from g n [] = omega arith
sum_from g n (f ∷ fs) =
    let one = sum_from g (n + g f) fs in
    let two = sum_from g (0 + g f) fs in
    omega (arith, one, two)

stack_is_sum : (p : Program) (w : Addresses) (site : ℕ → ℕ) (objects : List Object) (memory : ℕ → ℕ) (callee : placed.Frame) (stack : ℕ) (fs : List placed.Frame) (ls : List run.Frame)
    → AllByRecursion (λ (f : placed.Frame). p.frame_of f.function.body.name ≡ f.function.frame) fs → AllWait p w site objects memory callee stack fs ls
    → stack ≡ w.base + sum_by (λ (f : placed.Frame). p.frame_of f.function.body.name) fs
stack_is_sum p w site objects memory callee stack [] [] sizes h = h ∙ (let e : w.base ≡ w.base + 0 = omega arith in e)
stack_is_sum p w site objects memory callee stack [] (l ∷ ls) sizes h = absurd h
stack_is_sum p w site objects memory callee stack (f ∷ fs) [] sizes h = absurd h
stack_is_sum p w site objects memory callee stack (f ∷ fs) (l ∷ ls) sizes h =
    let g : placed.Frame → ℕ = λ (f : placed.Frame). p.frame_of f.function.body.name in
    let rest = stack_is_sum p w site objects memory f l.stack fs ls sizes.1 h.1 in
    let top = h.0.top in
    let size = sizes.0 in
    let all = sum_from g (0 + g f) fs in
    omega (arith, rest, top, size, all)

pub frames_are_stacked : (p : Program) (w : Addresses) (site : ℕ → ℕ) (m : placed.Machine) (l : run.Machine) → BothStand p w site m l
    → AllByRecursion (λ (f : placed.Frame). p.frame_of f.function.body.name ≡ f.function.frame) (m.frame ∷ m.callers)
    → frame_top m.frame l.frame ≡ w.base + sum_by (λ (f : placed.Frame). p.frame_of f.function.body.name) (m.frame ∷ m.callers)
frames_are_stacked p w site m l h sizes =
    let g : placed.Frame → ℕ = λ (f : placed.Frame). p.frame_of f.function.body.name in
    let rest = stack_is_sum p w site m.objects l.core.memory m.frame l.frame.stack m.callers l.callers sizes.1 h.callers in
    let size = sizes.0 in
    let all = sum_from g (0 + g m.frame) m.callers in
    omega (arith, rest, size, all)

-- who was called matters by its objects and its result alone
pub callee_alike : (p : Program) (w : Addresses) (site : ℕ → ℕ) (objects : List Object) (memory : ℕ → ℕ) (callee other : placed.Frame) (stack : ℕ) (fs : List placed.Frame) (ls : List run.Frame)
    → other.base ≡ callee.base → other.result ≡ callee.result → AllWait p w site objects memory callee stack fs ls → AllWait p w site objects memory other stack fs ls
callee_alike p w site objects memory callee other stack [] [] base result h = h
callee_alike p w site objects memory callee other stack [] (l ∷ ls) base result h = absurd h
callee_alike p w site objects memory callee other stack (f ∷ fs) [] base result h = absurd h
callee_alike p w site objects memory callee other stack (f ∷ fs) (l ∷ ls) base result h = (
  record {
    active = h.0.active;
    top = h.0.top;
    frame = h.0.frame;
    holds = h.0.holds;
    later = λ o early lives. h.0.later o (subst (λ n. o < n) base early) lives;
    old = h.0.old;
    left = h.0.left ∙ ap (λ (r : Option ℕ). slotted (call_result f.function.places r ++ lines_from f.function f.block f.ops f.end)) (sym result);
    behind = h.0.behind;
    link = h.0.link;
  },
  h.1,
)

-- ---- objects

pub objects_below_by : (p : Program) (w : Addresses) (site : ℕ → ℕ) (m : placed.Machine) (l : run.Machine) → AreLawful p w → Stands p w site m l.core → Serves m.frame.function.body m.frame.function
    → register l.core stack_pointer ≡ frame_top m.frame l.frame → ((o : ℕ) → o < m.frame.base → Lives m.objects o → site o + size_of m.objects o < l.frame.stack)
    → ((o : ℕ) → Lives m.objects o → o < m.frame.base + length m.frame.function.body.slots)
    → (o : ℕ) → Lives m.objects o → site o + size_of m.objects o < register l.core stack_pointer
objects_below_by p w site m l lawful stands serves is_top old later o lives = by_number (cases_lt o m.frame.base)
  where
    by_place : (far : ℕ) → words_size m.frame.function + slot_room (slice_index_or m.frame.function.body.slots (o - m.frame.base) 0) ≤ far → far ≤ register l.core stack_pointer → site o ≡ register l.core stack_pointer - far
        → (site o + size_of m.objects o ≤ register l.core stack_pointer - words_size m.frame.function) ⊎ (register l.core stack_pointer ≤ site o) → site o + size_of m.objects o < register l.core stack_pointer
    by_place far low inside at (inl h) = let least : 48 ≤ words_size m.frame.function = omega arith in omega (arith, h, low, inside, least)
    by_place far low inside at (inr h) = let least : 48 ≤ words_size m.frame.function = omega arith in absurd (omega (arith, h, at, low, inside, least))

    by_number : (o < m.frame.base) ⊎ (m.frame.base ≤ o) → site o + size_of m.objects o < register l.core stack_pointer
    by_number (inl early) = let less = old o early lives in omega (arith, less, is_top)
    by_number (inr late) =
        let f = m.frame.function in
        let inside = later o lives in
        let s = o - m.frame.base in
        let number : s < length f.body.slots = omega (arith, inside, late) in
        let size = slice_index_or f.body.slots s 0 in
        let slot = slot_stands f s size serves (slice_get-get_or f.body.slots s 0 number) in
        let same : m.frame.base + s ≡ o = omega (arith, late) in
        let high = slot.high in
        let low = slot.low in
        let least = stands.frame.low in
        let most = stands.frame.high in
        let memory = lawful.memory in
        let at : site (m.frame.base + s) ≡ register l.core stack_pointer - slot.far =
        stands.holds.slots s (below slot.far) slot.is
        ∙ frame_below (register l.core stack_pointer) slot.far (below slot.far) refl (omega (arith, high, least)) (omega (arith, most, memory)) in
        by_place slot.far low (omega (arith, high, least)) (ap site (sym same) ∙ at) (stands.frame.clear o lives)

pub objects_below : (p : Program) (w : Addresses) (site : ℕ → ℕ) (m : placed.Machine) (l : run.Machine) → AreLawful p w → BothStand p w site m l
    → (o : ℕ) → Lives m.objects o → site o + size_of m.objects o < register l.core stack_pointer
objects_below p w site m l lawful h = objects_below_by p w site m l lawful h.stands h.active.serves h.top h.old h.later
