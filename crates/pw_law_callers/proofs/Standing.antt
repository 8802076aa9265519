-- Active functions, one behind another, in the memory of the machine.
use Rattle.std.specs.Prelude.{ℕ, zero, suc, ◌≡◌, ◌≢◌, pos, ◌+◌, ◌-◌, ◌*◌, ◌^◌, ◌≤◌, ◌+ℤ◌, Bool, true, false, Some, List, [], ◌∷◌, ◌++◌, map, Contains, bytes_eq}
use Rattle.std.specs.List.{AllByRecursion, flat_map}
use Rattle.std.proofs.Common.{arith, subst, sym, ap, refl, ◌∙◌}
use Rattle.std.proofs.lemmas.Slice.Eq.{bytes_eq-Decides}
use Rattle.pw_value.specs.Limits.{text_start}
use Rattle.pw_value.specs.ProgramNames.{start_name}
use Rattle.pw_alloc.specs.Frames.{below, head_size, link_place}
use Rattle.pw_alloc.specs.ValidPlaces.{IsLocated}
use Rattle.pw_machine.specs.Core.{Core, byte_at, register, word_at}
use Rattle.pw_machine.specs.Run.{run_of}
use Rattle.pw_run_languages.specs.Acts as lines
use Rattle.pw_run_languages.specs.Acts.{number_at}
use Rattle.pw_run_languages.specs.Links.{LinksStand}
use Rattle.pw_run_languages.specs.LineRun.{LineFn, Frame, Machine, active, function_named, name_of, return_address}
use Rattle.pw_run_languages.specs.MachineRun.{active_as}
use Rattle.pw_run_languages.specs.Standing.{Active}
use Rattle.pw_debug.specs.Holding.{frame_at}
use Rattle.pw_debug.specs.Walk.{Seen, start_of, word_in}
use Rattle.pw_debug_frames.specs.Frames.{frame_info}
use Rattle.pw_law_code.specs.Lawful.{state_of}
use Rattle.pw_law_walk.specs.Chains.{Callers, called, outermost}
use Rattle.pw_law_walk.proofs.Walking.{beside, number_word}
use Rattle.pw_law_link_run.specs.Showing.{Shows}
use Rattle.pw_law_link_run.specs.Steps.{Setting, map_in}
use Rattle.pw_law_link_run.specs.Placing.{name_in}
use Rattle.pw_law_link_run.specs.Simulating.{IsCaller, IsLinked, Simulates, call_from, calls_behind}
use Rattle.pw_law_link_run.specs.Leveled.{AreFramed, ChainFrom, IsInLevel}
use Rattle.pw_law_link_run.proofs.Calls.{found_as}
use Rattle.pw_law_link_run.proofs.Entering.{finds}
use Rattle.pw_law_entered.specs.Entered.{HasEntered, first_active}
use Rattle.pw_law_callers.specs.Others.{OthersDiffer}

-- ---- names

same_name : (a b : List ℕ) → a ≡ b → bytes_eq a b ≡ true
same_name a b e = (bytes_eq-Decides a b).1 e

other_name : (a b : List ℕ) → a ≢ b → bytes_eq a b ≡ false
other_name a b other = by (bytes_eq a b) refl
  where
    by : (t : Bool) → bytes_eq a b ≡ t → bytes_eq a b ≡ false
    by true e = absurd (other ((bytes_eq-Decides a b).0 e))
    by false e = e

-- ---- a return address in memory

numbers_same : (n : ℕ) (f g : ℕ → ℕ) (a : ℕ) → ((b : ℕ) → a ≤ b → f b ≡ g b) → number_at n f a ≡ number_at n g a
numbers_same zero f g a same = refl
numbers_same (suc n) f g a same =
    let first = same a (omega arith) in
    let rest = numbers_same n f g (a + 1) (λ b le. same b (omega (arith, le))) in
    ap (λ (k : ℕ). k * 256 ^ n + number_at n f (a + 1)) first ∙ ap (λ (k : ℕ). g a * 256 ^ n + k) rest

-- what a walk reads in its place is what the lines have there
link_is : (c : lines.Core) (core : Core) (memory : List ℕ) (stack word : ℕ) → Shows c core → memory ≡ core.memory → link_place ≤ stack → core.data_start ≤ stack - link_place
    → word_in memory (pos stack +ℤ below link_place) ≡ Some word → word ≡ number_at 4 c.memory (stack - link_place)
link_is c core memory stack word shows same low deep there =
    let same_number = numbers_same 4 c.memory (byte_at core.memory) (stack - link_place) (λ b le. shows.memory b (omega (arith, deep, le))) in
    beside memory stack link_place word low there
    ∙ ap (λ (xs : List ℕ). word_at xs (stack - link_place)) same
    ∙ sym (number_word core.memory (stack - link_place))
    ∙ sym same_number

-- ---- one behind another

abbrev pub AreKnown : Setting → Seen → Type 0
AreKnown x s = (g : Frame) → IsCaller x g → frame_at s.functions s.frames (return_address x.addresses g g.left) ≡ Some (frame_info g.function.located)

abbrev pub AreLocated : Setting → Type 0
AreLocated x = (g : LineFn) → Contains x.program.functions g → IsLocated g.located

stand : (x : Setting) (fr : AreFramed x) (s : Seen) (c : lines.Core) (core : Core) → Shows c core → core.data_start ≡ x.addresses.data_start → text_start ≤ x.addresses.data_start → s.memory ≡ core.memory
    → AreKnown x s → AreLocated x → (stack link : ℕ) (g : Frame) (gs : List Frame) → AllByRecursion (IsCaller x) (g ∷ gs) → ChainFrom x stack (g ∷ gs) → LinksStand x.addresses c (g ∷ gs)
    → OthersDiffer (map name_of (g ∷ gs)) → name_in (first_active g.function gs) ≡ start_name → link ≡ return_address x.addresses g g.left → Callers s stack link (map active (g ∷ gs))
stand x fr s c core shows base above same known located stack link g [] callers chain links others first is =
    outermost stack link (active g) (located g.function callers.0.there) (ap (λ (a : ℕ). frame_at s.functions s.frames a) is ∙ known g callers.0) (same_name (name_of g) start_name first)
stand x fr s c core shows base above same known located stack link g (h ∷ hs) callers chain links others first is =
    let bounds = chain.2.0.stack in
    let room = (fr.framed h.function callers.1.0.there).frame in
    let low = bounds.low in
    let end : g.stack ≡ h.stack + h.function.located.frame = chain.2.1 in
    let least : 48 ≤ head_size h.function.located.body = omega arith in
    let far : x.addresses.data_start + 48 ≤ g.stack = omega (arith, low, end, room, least) in
    let deep : core.data_start ≤ g.stack - link_place = omega (arith, far, base) in
    called stack link (return_address x.addresses h h.left) (active g) (map active (h ∷ hs)) (located g.function callers.0.there)
    (ap (λ (a : ℕ). frame_at s.functions s.frames a) is ∙ known g callers.0) (other_name (name_of g) start_name others.0) chain.1
    (λ word there. link_is c core s.memory g.stack word shows same (omega (arith, far, above)) deep there ∙ links.0)
    (stand x fr s c core shows base above same known located g.stack (return_address x.addresses h h.left) h hs callers.1 chain.2 links.1 others.1 first refl)

-- the calls that the machine has noted, as functions
pub active_behind : (x : Setting) → IsLinked x → (callers : List Frame) → AllByRecursion (IsCaller x) callers → flat_map (active_as (map_in x)) (calls_behind x callers) ≡ map active callers
active_behind x l [] h = refl
active_behind x l (g ∷ gs) h =
    ap (λ (list : List Active). list ++ flat_map (active_as (map_in x)) (calls_behind x gs)) (found_as (map_in x) (call_from x g gs) g.function.located (l.found g.function h.0.there))
    ∙ ap (λ (list : List Active). active g ∷ list) (active_behind x l gs h.1)

-- ---- where a function has just been entered

-- the data of the machine begin where those of the lines do
data_there : (x : Setting) → IsLinked x → (m : Machine) (steps : ℕ) (h : Simulates x m steps) → h.at.core.data_start ≡ x.addresses.data_start
data_there x l m steps h =
    let later = l.setting.keeps steps in
    let is : (state_of (run_of steps x.start)).core.data_start ≡ h.at.core.data_start = ap (λ p. (state_of p).core.data_start) h.at.runs in
    sym is ∙ later.text.data_from ∙ l.setting.starts

pub entered_callers : (x : Setting) (fr : AreFramed x) (s : Seen) (m : Machine) (f : LineFn) (steps : ℕ) → IsLinked x → text_start ≤ x.addresses.data_start → AreKnown x s → AreLocated x
    → (h : Simulates x m steps) → s.memory ≡ h.at.core.memory → HasEntered x m → IsInLevel x fr m → LinksStand x.addresses m.core m.callers
    → function_named x.program start_name ≡ Some f → first_active m.frame.function m.callers ≡ f → OthersDiffer (map name_of (m.frame ∷ m.callers))
    → Callers s (start_of h.at.core).stack (start_of h.at.core).link (flat_map (active_as (map_in x)) (calls_behind x m.callers))
entered_callers x fr s m f steps l above known located h same e level links named first others =
    let core = h.at.core in
    let shows = h.at.shows in
    let g = e.caller.frame in
    let gs = e.caller.callers in
    let callers : m.callers ≡ g ∷ gs = ap (λ (t : Machine). t.callers) e.is in
    let found = finds (λ (k : LineFn). bytes_eq k.located.body.name start_name) x.program.functions f named in
    let start : name_in f ≡ start_name = (bytes_eq-Decides (name_in f) start_name).0 found.passes in
    let last : first_active g.function gs ≡ f = subst (λ (cs : List Frame). first_active m.frame.function cs ≡ f) callers first in
    let names : OthersDiffer (map name_of (m.frame ∷ g ∷ gs)) = subst (λ (cs : List Frame). OthersDiffer (map name_of (m.frame ∷ cs))) callers others in
    let all : Callers s m.frame.stack (return_address x.addresses g g.left) (map active (g ∷ gs)) =
    stand x fr s m.core core shows (data_there x l m steps h) above same known located m.frame.stack (return_address x.addresses g g.left) g gs
    (subst (λ (cs : List Frame). AllByRecursion (IsCaller x) cs) callers h.callers)
    (subst (λ (cs : List Frame). ChainFrom x m.frame.stack cs) callers level.chain)
    (subst (λ (cs : List Frame). LinksStand x.addresses m.core cs) callers links)
    names.1 (ap name_in last ∙ start) refl in
    let stack : m.frame.stack ≡ register core 30 =
    ap (λ (t : Machine). t.frame.stack) e.is ∙ sym (ap (λ (t : Machine). lines.register t.core 30) e.is) ∙ shows.registers 30 in
    let link : return_address x.addresses g g.left ≡ register core 2 =
    sym e.link ∙ sym (ap (λ (t : Machine). lines.register t.core 2) e.is) ∙ shows.registers 2 in
    let list : map active (g ∷ gs) ≡ flat_map (active_as (map_in x)) (calls_behind x m.callers) =
    sym (ap (map active) callers) ∙ sym (active_behind x l m.callers h.callers) in
    subst (λ (a : ℕ). Callers s a (register core 2) (flat_map (active_as (map_in x)) (calls_behind x m.callers))) stack
    (subst (λ (a : ℕ). Callers s m.frame.stack a (flat_map (active_as (map_in x)) (calls_behind x m.callers))) link
    (subst (λ (actives : List Active). Callers s m.frame.stack (return_address x.addresses g g.left) actives) list all))
