-- Where globals stand in words at calls and returns.
use Rattle.std.proofs.Common.{ℕ, suc, ◌≡◌, ◌+◌, ◌-◌, ◌*◌, arith, refl, ap, sym, subst, Bool, true, false, if◌then◌else◌, ◌==◌, Option, Some, None, option_map, List, [], ◌∷◌, map, slice_get, bytes_eq}
use Rattle.std.specs.List.{AllByRecursion}
use Rattle.std.specs.Option.{option_or}
use Rattle.std.proofs.lemmas.Bool.{ne_eqb}
use Rattle.pw_value.specs.declared.value.Value.{Value}
use Rattle.pw_value.specs.declared.value.Pointer.{Pointer}
use Rattle.pw_value.specs.Objects.{Object, object_at}
use Rattle.pw_flow.specs.declared.flow.FlowGlobal.{FlowGlobal}
use Rattle.pw_db.specs.declared.database.Web.{Web}
use Rattle.pw_db.specs.declared.database.Role.{Role}
use Rattle.pw_db.specs.Database.{IsWeb}
use Rattle.pw_alloc.specs.declared.located.Located.{Located}
use Rattle.pw_alloc.specs.Frames.{head_size}
use Rattle.pw_run.specs.Runs.{AreAlike}
use Rattle.pw_run_languages.specs.Traces.{StandAlike}
use Rattle.pw_run_languages.specs.Programs.{Program, globals_of}
use Rattle.pw_run_languages.specs.Addresses.{Addresses}
use Rattle.pw_run_languages.specs.Acts.{Core, register, put, number_at, bytes_at}
use Rattle.pw_run_languages.specs.Standing.{GlobalsAreNamed, ByteStands, ValueStands, given_back, without, held, global_now, standing}
use Rattle.pw_run_languages.specs.LineRun.{Frame, active, globals_in}
use Rattle.pw_run_languages.specs.PlacedRun as placed
use Rattle.pw_run_languages.specs.PlacedRun.{web_of}
use Rattle.pw_run_languages.specs.Direction.{with_functions}
use Rattle.pw_run_languages.specs.Serving.{IsTempRegister}
use Rattle.pw_run_languages.specs.SelectionLaws.{line_program}
use Rattle.pw_law_select_memory.specs.Stand.{StandingIsAlike}
use Rattle.pw_law_select_states.specs.Laid.{address, AreLaid, BytesAreThere, Lives, size_of}
use Rattle.pw_law_select_states.specs.States.{RegistersHold}
use Rattle.pw_law_select_frames.specs.Chain.{SavedStand, frame_top, IsActive, AllActive}

-- ---- registers

-- registers by their numbers hold the values
abbrev Hold : (Pointer → ℕ) → (ℕ → Value) → (ℕ → ℕ) → Type 0
Hold address values words = (r : ℕ) → IsTempRegister r → ValueStands address (values r) (words r)

-- so they do with those that were saved in place of others
given_hold : (address : Pointer → ℕ) (memory : ℕ → ℕ) (top i : ℕ) (saved : List (ℕ × Value)) (registers : List ℕ) (values : ℕ → Value) (words : ℕ → ℕ)
    → map (λ s. s.0) saved ≡ registers → SavedStand address memory top i saved → Hold address values words
    → Hold address (placed.with_registers saved values) (given_back memory top i registers words)
given_hold address memory top i [] [] values words same stand h = h
given_hold address memory top i [] (r ∷ rest) values words same stand h = absurd cc
given_hold address memory top i (s ∷ more) [] values words same stand h = absurd cc
given_hold address memory top i (s ∷ more) (r ∷ rest) values words same stand h =
    let v = number_at 4 memory (top - 4 * (i + 1)) in
    let first : s.0 ≡ r = cc in
    let others : map (λ s. s.0) more ≡ rest = cc in
    subst (λ q. Hold address (placed.with_registers more (placed.with_register s.0 s.1 values)) (given_back memory top (suc i) rest (put q v words))) first
    (given_hold address memory top (suc i) more rest (placed.with_register s.0 s.1 values) (put s.0 v words) others stand.1 (λ q is. by_test (q == s.0) q v stand.0 (h q is)))
  where
    by_test : (t : Bool) (q v : ℕ) → ValueStands address s.1 v → ValueStands address (values q) (words q)
        → ValueStands address (if t then s.1 else values q) (if t then v else words q)
    by_test true q v one two = one
    by_test false q v one two = two

register_is : (c : Core) (r : ℕ) → IsTempRegister r → register c r ≡ c.registers r
register_is c r is = ap (λ (t : Bool). if t then 0 else c.registers r) (ne_eqb r 0 (λ e. let low = is.low in omega (arith, e, low)))

numbers_hold : (address : Pointer → ℕ) (values : ℕ → Value) (c : Core) → RegistersHold address values c → Hold address values c.registers
numbers_hold address values c h r is = subst (ValueStands address (values r)) (register_is c r is) (h r is)

pub given_registers_hold : (address : Pointer → ℕ) (registers : ℕ → Value) (c e : Core) (f : placed.Frame) (l : Frame) → IsActive address c.memory f l → RegistersHold address registers c
    → ((r : ℕ) → IsTempRegister r → register e r ≡ given_back c.memory (frame_top f l - head_size f.function.body) 0 f.function.saved c.registers r)
    → RegistersHold address (placed.with_registers f.saved registers) e
given_registers_hold address registers c e f l is h same r temp =
    subst (ValueStands address (placed.with_registers f.saved registers r)) (sym (same r temp))
    (given_hold address c.memory (frame_top f l - head_size f.function.body) 0 f.saved f.function.saved registers c.registers is.saved is.words (numbers_hold address registers c h) r temp)

-- ---- webs

-- a value and a word that stands for it, where there are both
Likes : (Pointer → ℕ) → Option Value → Option ℕ → Type 0
Likes address None None = Unit {0}
Likes address (Some v) (Some n) = ValueStands address v n
Likes address _ _ = ⊥

web_likes : (address : Pointer → ℕ) (values : ℕ → Value) (words : ℕ → ℕ) (g : List ℕ) (webs : List (Web × Role)) → AllByRecursion IsWeb (map (λ w. w.0) webs) → Hold address values words
    → Likes address (option_map values (web_of webs g)) (option_map words (web_of webs g))
unfolding Likes
web_likes address values words g [] are h = tt
web_likes address values words g (x ∷ rest) are h =
    by_test (bytes_eq x.0.global g) (web_likes address values words g rest are.1 h)
  where
    temp : IsTempRegister x.0.reg
    temp = let is = are.0 in let high = is.high in record { low = is.low; high = omega (arith, high) }

    by_test : (t : Bool) → Likes address (option_map values (web_of rest g)) (option_map words (web_of rest g))
        → Likes address (option_map values (if t then Some x.0.reg else web_of rest g)) (option_map words (if t then Some x.0.reg else web_of rest g))
    by_test true later = h x.0.reg temp
    by_test false later = later

first_of_both : (address : Pointer → ℕ) (a : Option Value) (b : Option ℕ) (c : Option Value) (d : Option ℕ) → Likes address a b → Likes address c d → Likes address (option_or a c) (option_or b d)
unfolding Likes
first_of_both address None None c d h k = k
first_of_both address (Some v) (Some n) c d h k = h
first_of_both address None (Some n) c d h k = absurd h
first_of_both address (Some v) None c d h k = absurd h

held_likes : (address : Pointer → ℕ) (memory : ℕ → ℕ) (g : List ℕ) (fs : List placed.Frame) (ls : List Frame) (values : ℕ → Value) (words : ℕ → ℕ)
    → AllActive address memory fs ls → Hold address values words → Likes address (placed.held g values fs) (held g memory words (map active ls))
unfolding Likes
held_likes address memory g [] [] values words all h = tt
held_likes address memory g [] (l ∷ ls) values words all h = absurd all
held_likes address memory g (f ∷ fs) [] values words all h = absurd all
held_likes address memory g (f ∷ fs) (l ∷ ls) values words all h =
    let is = all.0 in
    let behind : Hold address (placed.with_registers f.saved values) (without (active l) memory words) =
    subst (λ (o : Located). Hold address (placed.with_registers f.saved values) (given_back memory (l.stack + o.frame - head_size o.body) 0 o.saved words))
    (sym (ap (λ x. x.located) is.function))
    (given_hold address memory (frame_top f l - head_size f.function.body) 0 f.saved f.function.saved values words is.saved is.words h) in
    let webs : Likes address (option_map values (web_of f.function.body.directives.webs g)) (option_map words (web_of l.function.located.body.directives.webs g)) =
    subst (λ (o : Located). Likes address (option_map values (web_of f.function.body.directives.webs g)) (option_map words (web_of o.body.directives.webs g)))
    (sym (ap (λ x. x.located) is.function))
    (web_likes address values words g f.function.body.directives.webs is.directives.each h) in
    first_of_both address (option_map values (web_of f.function.body.directives.webs g)) (option_map words (web_of l.function.located.body.directives.webs g))
    (placed.held g (placed.with_registers f.saved values) fs) (held g memory (without (active l) memory words) (map active ls)) webs
    (held_likes address memory g fs ls (placed.with_registers f.saved values) (without (active l) memory words) all.1 behind)

-- ---- all globals

module _ (alike : StandingIsAlike) (p : Program) (w : Addresses) (site : ℕ → ℕ) (objects : List Object) (c : Core) where
  one_alike : (a : Option Value) (b : Option ℕ) (object : Object) (bytes : List ℕ) → Likes (address p w site) a b
      → AreAlike (ByteStands (address p w site)) object.bytes bytes
      → StandAlike (ByteStands (address p w site)) (ValueStands (address p w site)) (placed.standing a object) (standing b bytes)
  unfolding Likes
  one_alike None None object bytes h k = StandAlike.in_memory object.bytes bytes k
  one_alike (Some v) (Some n) object bytes h k = StandAlike.in_place v n h
  one_alike None (Some n) object bytes h k = absurd h
  one_alike (Some v) None object bytes h k = absurd h

  all_alike : (registers : ℕ → Value) (fs : List placed.Frame) (ls : List Frame) (n : ℕ) (gs : List FlowGlobal) → ((g : List ℕ) → Likes (address p w site) (placed.held g registers fs) (held g c.memory c.registers (map active ls)))
      → GlobalsAreNamed w.named site n gs → ((k : ℕ) (g : FlowGlobal) → slice_get gs k ≡ Some g → Lives objects (n + k) × (size_of objects (n + k) ≡ g.size))
      → BytesAreThere (address p w site) site objects c.memory
      → AreAlike (StandAlike (ByteStands (address p w site)) (ValueStands (address p w site)))
      (placed.standings (map (λ g. g.name) gs) n registers fs objects) (map (global_now w.named c.memory c.registers (map active ls)) gs)
  all_alike registers fs ls n [] likes named each bytes = AreAlike.none
  all_alike registers fs ls n (g ∷ gs) likes named each bytes =
      let here = each 0 g refl in
      let zero : n + 0 ≡ n = omega arith in
      let lives : Lives objects n = subst (Lives objects) zero here.0 in
      let size : size_of objects n ≡ g.size = subst (λ k. size_of objects k ≡ g.size) zero here.1 in
      let stands = alike (address p w site) c.memory (site n) (object_at objects n).bytes (bytes n lives) in
      let there : AreAlike (ByteStands (address p w site)) (object_at objects n).bytes (bytes_at g.size c.memory (w.named g.name)) =
      subst (λ a. AreAlike (ByteStands (address p w site)) (object_at objects n).bytes (bytes_at g.size c.memory a)) named.0
      (subst (λ k. AreAlike (ByteStands (address p w site)) (object_at objects n).bytes (bytes_at k c.memory (site n))) size stands) in
      AreAlike.also (placed.standing (placed.held g.name registers fs) (object_at objects n)) (global_now w.named c.memory c.registers (map active ls) g)
      (placed.standings (map (λ g. g.name) gs) (suc n) registers fs objects) (map (global_now w.named c.memory c.registers (map active ls)) gs)
      (one_alike (placed.held g.name registers fs) (held g.name c.memory c.registers (map active ls)) (object_at objects n) (bytes_at g.size c.memory (w.named g.name)) (likes g.name) there)
      (all_alike registers fs ls (suc n) gs likes named.1 (later g gs n each) bytes)
    where
      later : (g : FlowGlobal) (gs : List FlowGlobal) (n : ℕ) → ((k : ℕ) (h : FlowGlobal) → slice_get (g ∷ gs) k ≡ Some h → Lives objects (n + k) × (size_of objects (n + k) ≡ h.size))
          → (k : ℕ) (h : FlowGlobal) → slice_get gs k ≡ Some h → Lives objects (suc n + k) × (size_of objects (suc n + k) ≡ h.size)
      later g gs n each k h e =
          let next : n + suc k ≡ suc n + k = omega arith in
          subst (λ j. Lives objects j × (size_of objects j ≡ h.size)) next (each (suc k) h e)

pub globals_alike : (alike : StandingIsAlike) (p : Program) (w : Addresses) (functions : List Located) (site : ℕ → ℕ) (registers : ℕ → Value) (objects : List Object) (c : Core) (fs : List placed.Frame) (ls : List Frame)
    → RegistersHold (address p w site) registers c → AllActive (address p w site) c.memory fs ls → AreLaid p w site objects → BytesAreThere (address p w site) site objects c.memory
    → AreAlike (StandAlike (ByteStands (address p w site)) (ValueStands (address p w site)))
    (placed.globals_now (with_functions p functions) registers fs objects) (globals_in (line_program p functions) w c ls)
globals_alike alike p w functions site registers objects c fs ls holds all laid bytes =
    all_alike alike p w site objects c registers fs ls 0 (globals_of p)
    (λ g. held_likes (address p w site) c.memory g fs ls registers c.registers all (numbers_hold (address p w site) registers c holds))
    laid.named each bytes
  where
    each : (k : ℕ) (g : FlowGlobal) → slice_get (globals_of p) k ≡ Some g → Lives objects (0 + k) × (size_of objects (0 + k) ≡ g.size)
    each k g e =
        let same : k ≡ 0 + k = omega arith in
        subst (λ j. Lives objects j × (size_of objects j ≡ g.size)) same (laid.live k g e, laid.size k g e)
