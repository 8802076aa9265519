-- Parameters as values, one after the other.
use Rattle.std.proofs.Common.{ℕ, suc, ◌≡◌, ◌≢◌, ◌+◌, ◌-◌, ◌^◌, ◌<◌, ◌≤◌, ◌⊎◌, inl, inr, arith, refl, ap, sym, subst, ◌∙◌, Bool, if◌then◌else◌, ◌==◌, Option, Some, unwrap_or, List, [], ◌∷◌, length, slice_get}
use Rattle.std.proofs.lemmas.Bool.{cases_eq, eq-eqb, ne_eqb}
use Rattle.std.proofs.lemmas.Option.{slice_get-get_or, slice_get_within}
use Rattle.pw_value.specs.declared.value.Value.{Value}
use Rattle.pw_value.specs.Objects.{Object}
use Rattle.pw_inst.specs.Computing.{offset_by}
use Rattle.pw_inst.specs.Registers.{help, first, stack_pointer}
use Rattle.pw_alloc.specs.declared.located.Place.{Place}
use Rattle.pw_alloc.specs.declared.located.Place.TheVariants.{Slot, Reg}
use Rattle.pw_alloc.specs.declared.located.Located.{Located}
use Rattle.pw_select_lines.specs.Registers.{place_of}
use Rattle.pw_select.specs.Selection.{parameter_in, parameters_in}
use Rattle.pw_run_languages.specs.Addresses.{Addresses, AreLawful}
use Rattle.pw_run_languages.specs.Acts.{Core, register, with_number}
use Rattle.pw_run_languages.specs.Standing.{ValueStands}
use Rattle.pw_run_languages.specs.LineRun.{LineProgram}
use Rattle.pw_run_languages.specs.PlacedRun.{Machine, with_temp, with_parameters}
use Rattle.pw_run_languages.specs.Serving.{Interfere, Serves}
use Rattle.pw_law_select_rows.specs.Straight.{words_of}
use Rattle.pw_law_select_rows.specs.Results.{IsPlaced, IsSteady}
use Rattle.pw_law_select_places.specs.Places.{ResultsStand}
use Rattle.pw_law_select_states.specs.Laid.{address}
use Rattle.pw_law_select_states.specs.Frames.{words_size}
use Rattle.pw_law_select_states.specs.Passes.{Leaves}
use Rattle.pw_law_select_states.specs.States.{Stands}
use Rattle.pw_law_select_frames.specs.Going.{Goes}
use Rattle.pw_law_select_frames.specs.Stack.{IsPlaceBelow}
use Rattle.pw_law_select_frames.specs.Arguments.{argument_word}
use Rattle.pw_law_select_frames.specs.Framing.{words_begin}
use Rattle.pw_law_select_frames.specs.Extending.{KeepsObjects}
use Rattle.pw_law_select_frames.specs.Receiving.{MayTake, Takes}
use Rattle.pw_law_select_frames.proofs.Known.{Known}
use Rattle.pw_law_select_frames.proofs.Going.{stays, lines_then}
use Rattle.pw_law_select_frames.proofs.Frame.{IsAt}
use Rattle.pw_law_select_frames.proofs.Framing.{sized, place_is_below}
use Rattle.pw_law_select_frames.proofs.Amid.{same_objects, leaves_all, leaves_then}
use Rattle.pw_law_select_frames.proofs.Values.{temp_only}
use Rattle.pw_law_select_frames.proofs.Parameters.{PutsIn, IsReady, put_in, argument_stays}

-- ---- places

pub place_weaker : (w : Addresses) (top least most lower upper : ℕ) (a : Place) → lower ≤ least → most ≤ upper → IsPlaceBelow w top least most a → IsPlaceBelow w top lower upper a
place_weaker w top least most lower upper (Reg r) low high is = is
place_weaker w top least most lower upper (Slot offset) low high is =
    let from = is.low in
    let to = is.high in
    record { far = is.far; is = is.is; low = omega (arith, from, low); high = omega (arith, to, high); inside = is.inside; word = is.word }

pub there_is : (places : List Place) (t : ℕ) → t < length places → slice_get places t ≡ Some (place_of places t)
there_is places t less =
    let e = slice_get-get_or places t (Reg 0) less in
    e ∙ ap (λ (a : Place). Some a) (sym (ap (λ (o : Option Place). unwrap_or o (Reg 0)) e))

-- ---- one parameter

steady_other : (r : ℕ) → IsSteady r → (r ≢ help) × (r ≢ first)
steady_other r (inl is) = let low = is.low in let high = is.high in ((λ e. omega (arith, e, low)), (λ e. omega (arith, e, high)))
steady_other r (inr same) = ((λ e. omega (arith, e, same)), (λ e. omega (arith, e, same)))

-- the word is in its place, and nothing else of what counts has changed
is_placed : (p : LineProgram) (w : Addresses) (frame sp k : ℕ) (a : Place) (c : Core) → register c stack_pointer ≡ sp → (d : PutsIn p w frame sp k a c) → IsPlaced a (argument_word c (sp - frame) k) c d.core
is_placed p w frame sp k (Slot offset) c pointer d = record {
  registers = λ r steady. let other = steady_other r steady in d.registers r other.0 other.1 (λ e. cc);
  memory = d.whole ∙ ap (λ x. with_number 4 (argument_word c (sp - frame) k) (offset_by x offset) c.memory) (sym pointer);
  skip = d.at.skip;
}
is_placed p w frame sp k (Reg q) c pointer d = record {
  registers = λ r steady. by_register r steady (cases_eq r q);
  memory = d.whole;
  skip = d.at.skip;
}
  where
    n : ℕ
    n = argument_word c (sp - frame) k

    same_register : (r q : ℕ) → Reg q ≡ Reg r → r ≡ q
    same_register r q e = cc

    by_register : (r : ℕ) → IsSteady r → (r ≡ q) ⊎ (r ≡ q → ⊥) → register d.core r ≡ (if r == q then n else register c r)
    by_register r steady (inl same) = ap (register d.core) same ∙ (d.value ∙ ap (λ (t : Bool). if t then n else register c r) (sym (eq-eqb r q same)))
    by_register r steady (inr ne) =
        let other = steady_other r steady in
        d.registers r other.0 other.1 (λ e. ne (same_register r q e)) ∙ ap (λ (t : Bool). if t then n else register c r) (sym (ne_eqb r q ne))

-- ---- all of them

module _ (known : Known) (results : ResultsStand) (lines : LineProgram) (w : Addresses) (site : ℕ → ℕ) (f : Located) (sp n : ℕ) (lawful : AreLawful lines.flow w) (serves : Serves f.body f)
    (ready : IsReady lines w f.frame sp n f.places) (few : n ≤ f.body.temps) where
  record From (k : ℕ) (vs : List Value) (m : Machine) (c : Core) : Type 0 where
    pub core : Core
    pub goes : Goes lines w (words_of (parameters_in f.frame f.places k (length vs))) [] c core
    pub stands : Stands lines.flow w site (with_parameters k vs m) core
    pub leaves : Leaves site m c core

  abbrev Words : ℕ → List Value → Core → Type 0
  Words k vs c = (j : ℕ) (v : Value) → slice_get vs j ≡ Some v
      → ValueStands (address lines.flow w site) v (argument_word c (sp - f.frame) (k + j)) × (argument_word c (sp - f.frame) (k + j) < 2 ^ 32)

  takes_from : (k : ℕ) (vs : List Value) (m : Machine) (c : Core) → m.frame.function ≡ f → IsAt lines w sp c → Stands lines.flow w site m c → length m.frame.temps ≡ f.body.temps
      → k + length vs ≡ n → Words k vs c → From k vs m c
  takes_from k [] m c is at stands room count words = record { core = c; goes = stays lines w c at.skip; stands = stands; leaves = leaves_all site m c }
  takes_from k (v ∷ vs) m c is at stands room count words =
      let less : k < n = omega (arith, count) in
      let a = place_of f.places k in
      let x = argument_word c (sp - f.frame) k in
      let here : k + 0 ≡ k = omega arith in
      let value : ValueStands (address lines.flow w site) v x = subst (λ j. ValueStands (address lines.flow w site) v (argument_word c (sp - f.frame) j)) here (words 0 v refl).0 in
      let small : x < 2 ^ 32 = subst (λ j. argument_word c (sp - f.frame) j < 2 ^ 32) here (words 0 v refl).1 in
      let d = put_in known lines w f.frame sp n k f.places a c at stands.words ready less small (ready.inside k less) in
      let placed : IsPlaced (place_of m.frame.function.places k) x c d.core =
      subst (λ (g : Located). IsPlaced (place_of g.places k) x c d.core) (sym is) (is_placed lines w f.frame sp k a c at.pointer d) in
      let served : Serves m.frame.function.body m.frame.function = subst (λ (g : Located). Serves g.body g) (sym is) serves in
      let temps : f.body.temps ≡ m.frame.function.body.temps = ap (λ (g : Located). g.body.temps) (sym is) in
      let reached = results lines w site m c d.core k x v (record { lawful = lawful; serves = served; room = room ∙ temps }) stands (omega (arith, less, few, temps)) value small placed in
      let only = temp_only k v m in
      let function : (with_temp k v m).frame.function ≡ m.frame.function = ap (λ (x : Machine). x.frame.function) only.is in
      let objects : (with_temp k v m).objects ≡ m.objects = ap (λ (x : Machine). x.objects) only.is in
      let later : Words (suc k) vs d.core =
      λ j u e.
      let index : k + suc j ≡ suc k + j = omega arith in
      let within = slice_get_within vs j u e in
      let stay : argument_word d.core (sp - f.frame) (suc k + j) ≡ argument_word c (sp - f.frame) (k + suc j) =
      argument_stays known lines w f.frame sp n k f.places c at ready less d (suc k + j) (omega (arith, within, count)) ∙ ap (argument_word c (sp - f.frame)) (sym index) in
      let both = words (suc j) u e in (
        subst (ValueStands (address lines.flow w site) u) (sym stay) both.0,
        subst (λ y. y < 2 ^ 32) (sym stay) both.1,
      ) in
      let rest = takes_from (suc k) vs (with_temp k v m) d.core (function ∙ is) d.at reached.stands (only.room ∙ room) (omega (arith, count)) later in
      record {
        core = rest.core;
        goes = lines_then known lines w (parameter_in f.frame k a) (parameters_in f.frame f.places (suc k) (length vs)) [] [] c d.core rest.core d.goes rest.goes;
        stands = rest.stands;
        leaves = leaves_then site m (with_temp k v m) c d.core rest.core function (subst (λ (os : List Object). KeepsObjects site site m.objects os) (sym objects) (same_objects site m)) (ap (λ (os : List Object). length os) objects)
            reached.leaves rest.leaves;
      }

pub parameters_taken : (known : Known) (results : ResultsStand) (lines : LineProgram) (w : Addresses) (site : ℕ → ℕ) (args : List Value) (m : Machine) (c : Core) → MayTake lines w site args m c → Takes lines w site args m c
parameters_taken known results lines w site args m c may =
    let sp = register c stack_pointer in
    let f = m.frame.function in
    let has = may.stands.frame in
    let low = has.low in
    let high = has.high in
    let aligned = has.aligned in
    let memory = may.lawful.memory in
    let few = may.few in
    let count = may.count in
    let places = may.serves.count in
    let sizes = sized f may.serves in
    let even = sizes.even in
    let at : IsAt lines w sp c = record { lawful = may.lawful; small = omega (arith, high, memory); pointer = refl; skip = may.stands.goes } in
    let there : (k : ℕ) → k < length args → slice_get f.places k ≡ Some (place_of f.places k) = λ k less. there_is f.places k (omega (arith, less, few, count, places)) in
    let below : (k : ℕ) → k < length args → IsPlaceBelow w sp (words_begin f) (words_size f) (place_of f.places k) =
    λ k less. place_is_below w site m.objects f sp k (place_of f.places k) may.serves has (there k less) in
    let r = takes_from known results lines w site f sp (length args) may.lawful may.serves
    (record {
      top = record { aligned = omega (arith, aligned); low = low; high = high };
      even = omega (arith, even);
      stacked = may.stacked;
      inside = λ k less. place_weaker w sp (words_begin f) (words_size f) 0 f.frame (place_of f.places k) (omega arith) sizes.frame (below k less);
      apart = λ j k one two ne same.
          may.serves.apart j k (omega (arith, two, few, count)) (Interfere.parameters (omega (arith, one, count)) (omega (arith, two, count)) ne)
          (there k two ∙ (ap (λ (a : Place). Some a) (sym same) ∙ sym (there j one)));
    }) (omega (arith, few, count)) 0 args m c refl at may.stands may.room (omega arith)
    (λ j v e. let here : j ≡ 0 + j = omega arith in
    subst (λ i. ValueStands (address lines.flow w site) v (argument_word c (sp - f.frame) i) × (argument_word c (sp - f.frame) i < 2 ^ 32)) here (may.words j v e)) in
    record { core = r.core; goes = r.goes; stands = r.stands; leaves = r.leaves }
