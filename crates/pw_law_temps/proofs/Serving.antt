-- The places of temporaries serve.
use Rattle.std.specs.Prelude.{ℕ, ℤ, pos, option_map, ◌≡◌, ◌≢◌, ◌≤◌, ◌<◌, ◌+◌, ◌-◌, ◌==◌, ◌&&◌, ◌||◌, not, Bool, true, false, if◌then◌else◌, nat_lt, Option, Some, None, List, [], ◌∷◌, ◌++◌, length, map, slice_get, Contains, ◌↔◌}
use Rattle.std.proofs.Common.{arith, subst, sym, ap, refl, inl, inr, ◌∙◌, get_or}
use Rattle.std.proofs.lemmas.Bool.{cases_lt, cases_order, or_cases, or_left, or_right, and_from, and_parts, lt-ltb, ne_eqb, eqb-true, eq-eqb}
use Rattle.std.proofs.lemmas.Option.{same_Some, slice_get-map, slice_get-get_or, slice_get_within, slice_get_past}
use Rattle.std.proofs.lemmas.List.{map-append}
use Rattle.pw_files.proofs.Standing.{Has, has_by, contains_by, has_left, has_right, has_map, has_each}
use Rattle.pw_db.specs.Limits.{first_register, register_count, kept_registers}
use Rattle.pw_db.specs.declared.database.Web.{Web}
use Rattle.pw_db.specs.declared.database.Role.{Role}
use Rattle.pw_db.specs.declared.database.Role.TheVariants.{Entry, Member}
use Rattle.pw_db.specs.Database.{IsWeb}
use Rattle.pw_flow.specs.declared.flow.End.{End}
use Rattle.pw_flow.specs.Uses.{end_uses, successors}
use Rattle.pw_flow.specs.Outline.{Act, Stretch, Outline}
use Rattle.pw_webflow.specs.declared.web.WebOp.{WebOp}
use Rattle.pw_webflow.specs.declared.web.WebBlock.{WebBlock}
use Rattle.pw_webflow.specs.declared.web.WebFn.{WebFn}
use Rattle.pw_webflow.specs.WebOutline.{web_act, web_stretch, web_outline}
use Rattle.pw_alloc.specs.declared.located.Place.{Place}
use Rattle.pw_alloc.specs.declared.located.Place.TheVariants.{Slot, Reg}
use Rattle.pw_alloc.specs.declared.located.Located.{Located}
use Rattle.pw_alloc.specs.Allocation.{is_entry, is_entered}
use Rattle.pw_alloc.specs.Frames.{head_size, temp_offset, slots_begin, last_reach}
use Rattle.pw_live.specs.Liveness as live
use Rattle.pw_live.specs.Liveness.{has, is_that, is_live_in}
use Rattle.pw_live.specs.Interference.{written_beside, starts_beside, overwrites, interfere, is_held}
use Rattle.pw_alloc_temps.specs.Registers.{unshared, of_temporaries, registers}
use Rattle.pw_alloc_temps.specs.Temporaries.{cluster_of, registers_in, is_given, is_saved, saved_in, placed, allocated}
use Rattle.pw_run_languages.specs.Serving as run
use Rattle.pw_run_languages.specs.Serving.{StandsIn, Interfere, by_operation, by_start, parameters, IsHeld, IsTempRegister, IsKeptOver, slots_alone, HasWebIn, Changes, places, enters, saves, Serves}
use Rattle.pw_law_temps.specs.Laws.{AreKept}
use Rattle.pw_alloc_temps.proofs.Lists.{listed, has_listed, not_listed, passing, kept, within, rises}
use Rattle.pw_alloc_temps.proofs.Lawful.{not_there, may_stand, of_some, stands_saved, temporary_saved}
use Rattle.pw_alloc_temps.proofs.Places.{each_placed, register_at, register_back, register_there}
use Rattle.pw_law_temps.proofs.Words.{nones, word_at, nones_rise, one_number, alone, counted}

-- ---- registers of webs that are entered

record Entered (ws : List (Web × Role)) (r : ℕ) : Type 0 where
  web : Web
  there : Has (web, Entry) ws
  is : web.reg ≡ r

entered_later : (x : Web × Role) (rest : List (Web × Role)) (r : ℕ) → Entered rest r → Entered (x ∷ rest) r
entered_later x rest r e = record { web = e.web; there = inr e.there; is = e.is }

entered_step : (w : Web) (role : Role) (rest : List (Web × Role)) (r : ℕ) (b : Bool) → (w.reg == r) ≡ b → (is_entered rest r ≡ true → Entered rest r)
    → (if b && is_entry role then true else is_entered rest r) ≡ true → Entered ((w, role) ∷ rest) r
entered_step w Entry rest r true same later e = record { web = w; there = inl refl; is = eqb-true w.reg r same }
entered_step w Member rest r true same later e = entered_later (w, Member) rest r (later e)
entered_step w role rest r false same later e = entered_later (w, role) rest r (later e)

entered_by : (ws : List (Web × Role)) (r : ℕ) → is_entered ws r ≡ true → Entered ws r
entered_by [] r e = absurd cc
entered_by (w ∷ rest) r e = entered_step w.0 w.1 rest r (w.0.reg == r) refl (entered_by rest r) e

or_later : (b c : Bool) → c ≡ true → (if b then true else c) ≡ true
or_later true c e = refl
or_later false c e = e

enters_so : (ws : List (Web × Role)) (w : Web) (r : ℕ) → Has (w, Entry) ws → w.reg ≡ r → is_entered ws r ≡ true
enters_so [] w r h e = absurd h
enters_so (x ∷ rest) w r (inl same) e =
    subst (λ (x : Web × Role). is_entered (x ∷ rest) r ≡ true) (sym same) (ap (λ (b : Bool). if b && true then true else is_entered rest r) (eq-eqb w.reg r e))
enters_so (x ∷ rest) w r (inr h) e = or_later ((x.0.reg == r) && is_entry x.1) (is_entered rest r) (enters_so rest w r h e)

that_is : (o : Option ℕ) (r : ℕ) → is_that o r ≡ true → o ≡ Some r
that_is None r e = absurd cc
that_is (Some q) r e = ap Some (eqb-true q r e)

abbrev offset_in : Place → ℤ
offset_in (Slot offset) = offset
offset_in (Reg r) = pos 0

-- ---- what is needed, over the outline

over_outline : (f : WebFn) (t : ℕ) {ops : List WebOp} {end : End} → run.Live f t ops end → live.Live (web_outline f) t (map web_act ops) (end_uses end) (successors end)
over_outline f t (run.used o ops end h) = live.used (web_act o) (map web_act ops) (end_uses end) (successors end) h
over_outline f t (run.past o ops end other rest) = live.past (web_act o) (map web_act ops) (end_uses end) (successors end) other (over_outline f t rest)
over_outline f t (run.at_end end h) = live.at_end (end_uses end) (successors end) h
over_outline f t (run.on end b block there is rest) =
    live.on (end_uses end) (successors end) b (web_stretch block) there (block_at f b block is) (over_outline f t rest)
  where
    block_at : (f : WebFn) (b : ℕ) (block : WebBlock) → slice_get f.blocks b ≡ Some block → slice_get (map web_stretch f.blocks) b ≡ Some (web_stretch block)
    block_at f b block is = slice_get-map web_stretch f.blocks b ∙ ap (option_map web_stretch) is

abbrev webs_of : WebFn → List ℕ
webs_of f = map (λ w. w.0.reg) f.directives.webs

-- the places, in a frame with such a head and so many saved registers
abbrev all_in : WebFn → ℕ → ℕ → List Place
all_in f head saved = placed head saved 0 (registers_in f)

-- ---- what allocation owes

module _
    (front : (f : Outline) (t b : ℕ) (s : Stretch) → slice_get f.blocks b ≡ Some s → (is_live_in f t b ≡ true) ↔ live.Live f t s.acts s.uses s.next)
    (written : (f : Outline) (s : Stretch) (before after : List Act) (a : Act) (d t : ℕ) → Contains f.blocks s → s.acts ≡ before ++ a ∷ after → a.defines ≡ Some d → live.Live f t after s.uses s.next → written_beside f d t ≡ true)
    (over : (f : Outline) (s : Stretch) (before after : List Act) (a : Act) (t : ℕ) → Contains f.blocks s → s.acts ≡ before ++ a ∷ after → a.calls ≡ true → a.defines ≢ Some t → live.Live f t after s.uses s.next → is_held f t ≡ true)
    (each : (f : Outline) (webs cluster : List ℕ) → length (registers f webs cluster) ≡ f.temps)
    (keep_apart : (f : Outline) (webs cluster : List ℕ) (a b r : ℕ) → slice_get (registers f webs cluster) a ≡ Some (Some r) → slice_get (registers f webs cluster) b ≡ Some (Some r) → interfere f a b ≡ false) where
  -- ---- interference

  acts_of : (f : WebFn) (o : WebOp) (after : List WebOp) (end : End) (there : StandsIn f o after end) → map web_act there.block.ops ≡ map web_act there.before ++ web_act o ∷ map web_act after
  acts_of f o after end there = ap (map web_act) there.ops ∙ map-append web_act there.before (o ∷ after)

  block_of : (f : WebFn) (o : WebOp) (after : List WebOp) (end : End) (there : StandsIn f o after end) → Contains (map web_stretch f.blocks) (web_stretch there.block)
  block_of f o after end there = contains_by (web_stretch there.block) (map web_stretch f.blocks) (has_map web_stretch there.block f.blocks (has_by there.block f.blocks there.there))

  behind : (f : WebFn) (o : WebOp) (after : List WebOp) (end : End) (there : StandsIn f o after end) (t : ℕ) → run.Live f t after end → live.Live (web_outline f) t (map web_act after) (end_uses there.block.end) (successors there.block.end)
  behind f o after end there t lives = subst (λ (e : End). live.Live (web_outline f) t (map web_act after) (end_uses e) (successors e)) (sym there.is) (over_outline f t lives)

  differ : (f : WebFn) (d t : ℕ) → Interfere f d t → d ≢ t
  differ f d t (by_operation o after end there defined lives apart) = apart
  differ f d t (by_start block first low lives apart) = apart
  differ f d t (parameters low high apart) = apart

  clash : (f : WebFn) (d t : ℕ) → Interfere f d t → overwrites (web_outline f) d t ≡ true
  clash f d t (by_operation o after end there defined lives apart) =
      or_left (written_beside (web_outline f) d t) (starts_beside (web_outline f) d t)
      (written (web_outline f) (web_stretch there.block) (map web_act there.before) (map web_act after) (web_act o) d t
      (block_of f o after end there) (acts_of f o after end there) defined (behind f o after end there t lives))
  clash f d t (by_start block first low lives apart) =
      let at : slice_get (map web_stretch f.blocks) 0 ≡ Some (web_stretch block) = slice_get-map web_stretch f.blocks 0 ∙ ap (option_map web_stretch) first in
      or_right (written_beside (web_outline f) d t) (starts_beside (web_outline f) d t)
      (and_from (nat_lt d f.params) (nat_lt t f.params || is_live_in (web_outline f) t 0) (lt-ltb d f.params low)
      (or_right (nat_lt t f.params) (is_live_in (web_outline f) t 0) ((front (web_outline f) t 0 (web_stretch block) at).1 (over_outline f t lives))))
  clash f d t (parameters low high apart) =
      or_right (written_beside (web_outline f) d t) (starts_beside (web_outline f) d t)
      (and_from (nat_lt d f.params) (nat_lt t f.params || is_live_in (web_outline f) t 0) (lt-ltb d f.params low)
      (or_left (nat_lt t f.params) (is_live_in (web_outline f) t 0) (lt-ltb t f.params high)))

  meet : (f : WebFn) (d t : ℕ) → Interfere f d t → interfere (web_outline f) d t ≡ true
  meet f d t h =
      let o = web_outline f in
      and_from (not (d == t)) (overwrites o d t || overwrites o t d) (ap not (ne_eqb d t (differ f d t h)))
      (or_left (overwrites o d t) (overwrites o t d) (clash f d t h))

  module _ (f : WebFn) (head saved : ℕ) where
    count : length (all_in f head saved) ≡ f.temps
    count = each_placed head saved 0 (registers_in f) ∙ each (web_outline f) (webs_of f) (cluster_of f.directives)

    reg_at : (t : ℕ) → t < f.temps → slice_get (registers_in f) t ≡ Some (get_or (registers_in f) t None)
    reg_at t lt = let n : length (registers_in f) ≡ f.temps = each (web_outline f) (webs_of f) (cluster_of f.directives) in slice_get-get_or (registers_in f) t None (omega (arith, lt, n))

    -- ---- what interferes stands apart

    in_words : (d t : ℕ) → d ≢ t → slice_get (registers_in f) t ≡ Some None → slice_get (registers_in f) d ≡ Some None → slice_get (all_in f head saved) t ≡ slice_get (all_in f head saved) d → ⊥
    in_words d t other one two same =
        let words : Some (Slot (temp_offset head saved (0 + nones (registers_in f) t))) ≡ Some (Slot (temp_offset head saved (0 + nones (registers_in f) d))) =
        sym (word_at head saved 0 (registers_in f) t one) ∙ same ∙ word_at head saved 0 (registers_in f) d two in
        let places_same = same_Some (Slot (temp_offset head saved (0 + nones (registers_in f) t))) (Slot (temp_offset head saved (0 + nones (registers_in f) d))) words in
        let offsets : temp_offset head saved (0 + nones (registers_in f) t) ≡ temp_offset head saved (0 + nones (registers_in f) d) = ap offset_in places_same in
        let numbers = one_number head saved (0 + nones (registers_in f) t) (0 + nones (registers_in f) d) offsets in
        elim (cases_order t d) [
          | inl e ↦ other (sym e)
          | inr way ↦ elim way [
            | inl lt ↦ let up = nones_rise (registers_in f) t d one lt in omega (arith, up, numbers)
            | inr lt ↦ let up = nones_rise (registers_in f) d t two lt in omega (arith, up, numbers)
          ]
        ]

    by_kind : (d t : ℕ) (one two : Option ℕ) → Interfere f d t → slice_get (registers_in f) t ≡ Some one → slice_get (registers_in f) d ≡ Some two → slice_get (all_in f head saved) t ≡ slice_get (all_in f head saved) d → ⊥
    by_kind d t None None h here there same = in_words d t (differ f d t h) here there same
    by_kind d t None (Some r) h here there same =
        let k : Some (Slot (temp_offset head saved (0 + nones (registers_in f) t))) ≡ Some (Reg r) = sym (word_at head saved 0 (registers_in f) t here) ∙ same ∙ register_at head saved 0 (registers_in f) d r there in
        cc
    by_kind d t (Some r) None h here there same =
        let k : Some (Reg r) ≡ Some (Slot (temp_offset head saved (0 + nones (registers_in f) d))) = sym (register_at head saved 0 (registers_in f) t r here) ∙ same ∙ word_at head saved 0 (registers_in f) d there in
        cc
    by_kind d t (Some r) (Some q) h here there same =
        let k : Some (Reg q) ≡ Some (Reg r) = sym (register_at head saved 0 (registers_in f) d q there) ∙ sym same ∙ register_at head saved 0 (registers_in f) t r here in
        let one : q ≡ r = cc in
        let free = keep_apart (web_outline f) (webs_of f) (cluster_of f.directives) d t r (there ∙ ap (λ n. Some (Some n)) one) here in
        let meets = meet f d t h in
        cc

    apart : (d t : ℕ) → t < f.temps → Interfere f d t → slice_get (all_in f head saved) t ≢ slice_get (all_in f head saved) d
    apart d t low h same = elim (cases_lt d f.temps) [
      | inl lt ↦ by_kind d t (get_or (registers_in f) t None) (get_or (registers_in f) d None) h (reg_at t low) (reg_at d lt) same
      | inr past ↦
          let n : length (all_in f head saved) ≡ f.temps = count in
          let here = slice_get-get_or (all_in f head saved) t (Reg 0) (omega (arith, n, low)) in
          let none : Some (get_or (all_in f head saved) t (Reg 0)) ≡ None = sym here ∙ same ∙ slice_get_past (all_in f head saved) d (omega (arith, n, past)) in
          cc
    ]

    -- ---- registers

    of_place : (r : ℕ) → Contains (all_in f head saved) (Reg r) → IsTempRegister r × (¬ Contains (webs_of f) r)
    of_place r c =
        let free = of_some f r (register_back head saved 0 (registers_in f) r (has_by (Reg r) (all_in f head saved) c)) in
        (record { low = free.bounds.low; high = free.bounds.high }, free.apart)

    held_in : (t r : ℕ) → IsHeld f t → slice_get (registers_in f) t ≡ Some (Some r) → IsKeptOver f (Reg r)
    held_in t r h e =
        let is = over (web_outline f) (web_stretch h.there.block) (map web_act h.there.before) (map web_act h.after) (web_act h.op) t
        (block_of f h.op h.after h.end h.there) (acts_of f h.op h.after h.end h.there) h.call h.other (behind f h.op h.after h.end h.there t h.lives) in
        let low : Has r (unshared (cluster_of f.directives)) = subst (λ (b : Bool). Has r (of_temporaries (cluster_of f.directives) b)) is (may_stand f t r e).there in
        let k = kept (λ r. not (has r (cluster_of f.directives))) r kept_registers low in
        let w = within first_register register_count r k.there in
        let apart = not_there r (cluster_of f.directives) k.passes in (
          w.0,
          omega (arith, w.1),
          λ c. apart (contains_by r (cluster_of f.directives) (has_left r f.directives.free f.directives.saves (has_by r f.directives.free c))),
          λ c. apart (contains_by r (cluster_of f.directives) (has_right r f.directives.free f.directives.saves (has_by r f.directives.saves c))),
        )

    held_at : (t : ℕ) (one : Option ℕ) (place : Place) → IsHeld f t → slice_get (registers_in f) t ≡ Some one → slice_get (all_in f head saved) t ≡ Some place → IsKeptOver f place
    held_at t None place h here e = subst (IsKeptOver f) (same_Some (Slot (temp_offset head saved (0 + nones (registers_in f) t))) place (sym (word_at head saved 0 (registers_in f) t here) ∙ e)) tt
    held_at t (Some r) place h here e = subst (IsKeptOver f) (same_Some (Reg r) place (sym (register_at head saved 0 (registers_in f) t r here) ∙ e)) (held_in t r h here)

    held : (t : ℕ) (place : Place) → IsHeld f t → slice_get (all_in f head saved) t ≡ Some place → IsKeptOver f place
    held t place h e =
        let n : length (all_in f head saved) ≡ f.temps = count in
        let lt = slice_get_within (all_in f head saved) t place e in
        held_at t (get_or (registers_in f) t None) place h (reg_at t (omega (arith, n, lt))) e

    -- ---- saved registers

    is_placed : (r : ℕ) → is_given (registers_in f) r ≡ true → Has (Some r) (registers_in f)
    is_placed r e =
        let p = passing (λ o. is_that o r) (registers_in f) e in
        subst (λ (o : Option ℕ). Has o (registers_in f)) (that_is p.is r p.passes) p.there

    saved_back : (l : Located) → l.places ≡ all_in f head saved → (r : ℕ) → Contains (saved_in f (registers_in f)) r → Changes f l r
    saved_back l is r c =
        let webs = f.directives.webs in
        let k = kept (is_saved f.directives (registers_in f)) r kept_registers (has_by r (saved_in f (registers_in f)) c) in
        elim (or_cases (is_entered webs r) (has r f.directives.saves || (not (has r f.directives.free) && is_given (registers_in f) r)) k.passes) [
          | inl e ↦ let w = entered_by webs r e in enters (record { web = w.web; there = contains_by (w.web, Entry) webs w.there; is = w.is })
          | inr e ↦ elim (or_cases (has r f.directives.saves) (not (has r f.directives.free) && is_given (registers_in f) r) e) [
            | inl own ↦ saves (contains_by r f.directives.saves (has_listed r f.directives.saves own))
            | inr own ↦
                let both = and_parts (not (has r f.directives.free)) (is_given (registers_in f) r) own in
                let high = within first_register register_count r k.there in
                places (subst (λ (ps : List Place). Contains ps (Reg r)) (sym is) (contains_by (Reg r) (all_in f head saved) (register_there head saved 0 (registers_in f) r (is_placed r both.1)))) (omega (arith, high.1)) (not_there r f.directives.free both.0)
          ]
        ]

    module _ (lawful : AreKept f.directives) where
      saved_there : (l : Located) → l.places ≡ all_in f head saved → (r : ℕ) → Changes f l r → Contains (saved_in f (registers_in f)) r
      saved_there l is r (places c high owned) =
          let here = subst (λ (ps : List Place). Contains ps (Reg r)) is c in
          temporary_saved f r (register_back head saved 0 (registers_in f) r (has_by (Reg r) (all_in f head saved) here)) (omega (arith, high)) (not_listed r f.directives.free owned)
      saved_there l is r (enters w) =
          let webs = f.directives.webs in
          let there = has_by (w.web, Entry) webs w.there in
          let web : IsWeb w.web = has_each IsWeb (map (λ w. w.0) webs) w.web lawful.webs (has_map (λ (w : Web × Role). w.0) (w.web, Entry) webs there) in
          let same : w.web.reg ≡ r = w.is in
          stands_saved f r (omega (arith, web.low, same)) (omega (arith, web.high, same))
          (or_left (is_entered webs r) (has r f.directives.saves || (not (has r f.directives.free) && is_given (registers_in f) r)) (enters_so webs w.web r there same))
      saved_there l is r (saves c) =
          let k = lawful.saves r c in
          stands_saved f r k.0 (omega (arith, k.1))
          (or_right (is_entered f.directives.webs r) (has r f.directives.saves || (not (has r f.directives.free) && is_given (registers_in f) r))
          (or_left (has r f.directives.saves) (not (has r f.directives.free) && is_given (registers_in f) r) (listed r f.directives.saves (has_by r f.directives.saves c))))

  -- ---- together

  pub serves : (f : WebFn) → AreKept f.directives → Serves f (allocated f)
  unfolding allocated
  serves f lawful =
      let head = head_size f in
      let saved = length (saved_in f (registers_in f)) in
      let all : List Place = placed head saved 0 (registers_in f) in
      record {
        body = refl;
        count = count f head saved;
        apart = apart f head saved;
        held = held f head saved;
        registers = of_place f head saved;
        saved = λ r. (saved_back f head saved (allocated f) refl r, saved_there f head saved lawful (allocated f) refl r);
        order = rises (is_saved f.directives (registers_in f)) first_register register_count;
        words = alone head saved 0 (registers_in f);
        frame = ap (λ (n : ℕ). last_reach (slots_begin head saved n) f.slots) (counted all);
      }
