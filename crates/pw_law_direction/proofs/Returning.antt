-- Returns.
use Rattle.std.proofs.Common.{◌≡◌, ◌-◌, ℕ, inl, inr, Bool, true, if◌then◌else◌, Option, Some, None, List, [], ◌∷◌, map, length, refl, ap, sym, ◌∙◌, subst}
use Rattle.std.specs.Prelude.{IfSome, slice_index_or, Contains}
use Rattle.std.proofs.lemmas.List.Elements.{Contains-append_cases}
use Rattle.pw_value.specs.declared.value.Value.{Value}
use Rattle.pw_value.specs.declared.value.Value.TheVariants.{Undefined}
use Rattle.pw_value.specs.declared.value.Byte.{Byte}
use Rattle.pw_value.specs.Objects.{Object, object_at}
use Rattle.pw_db.specs.declared.database.Web.{Web}
use Rattle.pw_db.specs.declared.database.Role.{Role}
use Rattle.pw_db.specs.declared.database.Role.TheVariants.{Entry, Member}
use Rattle.pw_db.specs.declared.database.Directives.{Directives}
use Rattle.pw_db.specs.Database.{IsDatabase}
use Rattle.pw_flow.specs.declared.flow.Op.{Op}
use Rattle.pw_flow.specs.declared.flow.End.{End}
use Rattle.pw_flow.specs.declared.flow.End.TheVariants.{Return}
use Rattle.pw_webflow.specs.Direction.{register_of, directed}
use Rattle.pw_db_sound.specs.CallGraphs.{Calls}
use Rattle.pw_db_sound.specs.Sound.{Has, In, Sound}
use Rattle.pw_run.specs.Runs as run
use Rattle.pw_run_languages.specs.Traces.{Event, Returned, is_of_source, calls_alone}
use Rattle.pw_run_languages.specs.Programs.{Program}
use Rattle.pw_run_languages.specs.Memory.{scalar_of}
use Rattle.pw_run_languages.specs.FlowRun as flow
use Rattle.pw_run_languages.specs.FlowRun.{end_from}
use Rattle.pw_run_languages.specs.LawfulPrograms.{IsProgram, graph_of}
use Rattle.pw_run_languages.specs.PlacedRun as web
use Rattle.pw_run_languages.specs.PlacedRun.{held, with_registers, without_scratch}
use Rattle.pw_run_languages.specs.Direction.{MomentAlike}
use Rattle.pw_law_direction.specs.DirectedLaws.{StartIsNotCalled}
use Rattle.pw_law_direction.specs.Pairs.{Active, Pair, flow_frame, flow_side, web_side, webs_of, web_frames, under}
use Rattle.pw_law_direction.specs.Alike.{FineValue, Linked, Saves, names_active, IsWritten, ObjectsAlike, IsAlike, GoesBoth, Follows}
use Rattle.pw_law_direction.specs.SideBySide.{StepsFollow, ReturnsFollow}
use Rattle.pw_law_direction.proofs.Elements.{nowhere, first-there, the-first}
use Rattle.pw_law_direction.proofs.Names.{is-eligible}
use Rattle.pw_law_direction.proofs.Globals.{number-of-eligible}
use Rattle.pw_law_direction.proofs.Registers.{kept-in, one-role}
use Rattle.pw_law_direction.proofs.Webs.{one-web, register-in}
use Rattle.pw_law_direction.proofs.WebReads.{eligible-in}
use Rattle.pw_law_direction.proofs.ByName.{no-web}
use Rattle.pw_law_direction.proofs.StoresByName.{held-none}
use Rattle.pw_law_direction.proofs.Calls.{here, stands-at-returns, entries-are-alone}
use Rattle.pw_law_direction.proofs.Library.{held-low, scratch-low}
use Rattle.pw_law_direction.proofs.Steps.{with-value, with-ops, value-alike}
use Rattle.pw_law_direction.proofs.Standing.{globals-all-stand}
use Rattle.pw_law_direction.proofs.Edges.{source-name}
use Rattle.pw_law_direction.proofs.Entering.{entered-among, all-entered, entered-only}
use Rattle.pw_law_direction.proofs.Leaving.{Holds, Stores, leaves-on, end-alike}

-- ---- what the function that returns may have written

-- Before a function stores its webs back, the memory is the flow run's, but for globals that functions called before may
-- have written and for those that it stores: a member's web has the caller in it too.
stores-before : (p : Program) (d : List (List ℕ × Directives)) (f c : Active) (fs : List Active) (registers : ℕ → Value) (objects memory : List Object) → IsDatabase d → Sound (graph_of p) d → Linked (graph_of p) (f ∷ c ∷ fs)
    → ObjectsAlike p d (f ∷ c ∷ fs) registers objects memory → Stores p d (names_active (c ∷ fs)) objects (entered-among (webs_of d f.function)) memory
stores-before p d f c fs registers objects memory is s l a = record {
  count = a.count;
  others = a.others;
  lives = λ g k n there number. (a.globals g k n there number).lives_too;
  size = λ g k n there number. (a.globals g k n there number).size_too;
  bytes = λ g k n there number not todo. (a.globals g k n there number).memory (λ t. elim (Contains-append_cases (f.function.name ∷ []) (names_active (c ∷ fs)) t.function t.is_active) [
    | inl first ↦
        let own : In d t.web f.function.name = subst (In d t.web) (sym (the-first f.function.name t.function first)) t.within in
        by-role g not todo t.web t.global t.writes own.role own.has
    | inr later ↦ not (record { function = t.function; is_active = later; web = t.web; within = t.within; global = t.global; writes = t.writes })
  ]);
}
  where
    by-role : (g : List ℕ) → (IsWritten d g (names_active (c ∷ fs)) → ⊥) → ((w : Web) → Contains (entered-among (webs_of d f.function)) w → w.writes ≡ true → w.global ≡ g → ⊥)
        → (w : Web) → w.global ≡ g → w.writes ≡ true → (role : Role) → Has d f.function.name w role → ⊥
    by-role g not todo w global writes Entry has = todo w (all-entered d f.function w is has) writes global
    by-role g not todo w global writes Member has = not (record {
      function = c.function.name;
      is_active = first-there c.function.name (names_active fs);
      web = w;
      within = s.member_callers w f.function.name c.function.name has l.0;
      global = global;
      writes = writes;
    })

-- the register of each web that a function enters holds its global
held-by-entry : (p : Program) (d : List (List ℕ × Directives)) (f : Active) (fs : List Active) (registers : ℕ → Value) (objects memory : List Object) (w : Web) → IsDatabase d → Sound (graph_of p) d
    → ObjectsAlike p d (f ∷ fs) registers objects memory → Has d f.function.name w Entry → Holds p objects registers w
held-by-entry p d f fs registers objects memory w is s a has =
    let within : In d w f.function.name = record { role = Entry; has = has } in
    let there = eligible-in p d s w f.function.name within in
    let el = is-eligible p w.global w.kind there in
    let n = number-of-eligible p w.global w.kind el in
    let st = a.globals w.global w.kind n.0 there n.1 in
    record {
      number = n.0;
      is = n.1;
      eligible = el;
      there = there;
      value = subst (λ (o : Option Value). IfSome o (λ v. v ≡ scalar_of w.kind (object_at objects n.0).bytes)) (here d f w.global w.reg fs registers (register-in d f w is within)) st.stands;
      fits = st.kind;
      bytes = st.bytes;
    }

-- ---- where the globals stand after a return

-- the place of a global after a return still has its value
place-after : (p : Program) (d : List (List ℕ × Directives)) (f c : Active) (fs : List Active) (registers : ℕ → Value) (g : List ℕ) (v : Value) → IsDatabase d → Sound (graph_of p) d → Linked (graph_of p) (f ∷ c ∷ fs) → Saves d f
    → IfSome (held g registers (web_frames d (f ∷ c ∷ fs))) (λ u. u ≡ v) → (o : Option ℕ) → register_of (webs_of d f.function) g ≡ o
    → IfSome (held g (with_registers f.saved registers) (web_frames d (c ∷ fs))) (λ u. u ≡ v)
place-after p d f c fs registers g v is s l saves st None e =
    subst (λ (o : Option Value). IfSome o (λ u. u ≡ v))
    (sym (stands-at-returns (graph_of p) d g f c fs registers is s l saves (λ w global has. no-web d f g is e w (record { role = Entry; has = has }) global))) st
place-after p d f c fs registers g v is s l saves st (Some r) e =
    let kept = kept-in d f g r e in by-role kept.web kept.global kept.within.role kept.within.has
  where
    by-role : (w : Web) → w.global ≡ g → (role : Role) → Has d f.function.name w role → IfSome (held g (with_registers f.saved registers) (web_frames d (c ∷ fs))) (λ u. u ≡ v)
    by-role w global Entry has =
        subst (λ (o : Option Value). IfSome o (λ u. u ≡ v))
        (sym (held-none d g (c ∷ fs) (with_registers f.saved registers) (λ n active u within same. entries-are-alone (graph_of p) d w u f (c ∷ fs) n is s l has active within (same ∙ sym global)))) tt
    by-role w global Member has =
        subst (λ (o : Option Value). IfSome o (λ u. u ≡ v))
        (sym (stands-at-returns (graph_of p) d g f c fs registers is s l saves (λ u other entry.
        let same : u ≡ w = one-web d f.function.name u w is (record { role = Entry; has = entry }) (record { role = Member; has = has }) (other ∙ sym global) in
        one-role (graph_of p) d s w f (c ∷ fs) l (subst (λ (x : Web). Has d f.function.name x Entry) same entry) has))) st

objects-after : (p : Program) (d : List (List ℕ × Directives)) (f c : Active) (fs : List Active) (registers : ℕ → Value) (objects before memory : List Object) → IsDatabase d → Sound (graph_of p) d → Linked (graph_of p) (f ∷ c ∷ fs) → Saves d f
    → ObjectsAlike p d (f ∷ c ∷ fs) registers objects before → Stores p d (names_active (c ∷ fs)) objects [] memory
    → ObjectsAlike p d (c ∷ fs) (without_scratch (with_registers f.saved registers)) objects memory
objects-after p d f c fs registers objects before memory is s l saves a stores = record {
  count = stores.count;
  others = stores.others;
  globals = λ g k n there number.
      let st = a.globals g k n there number in
      record {
        lives = st.lives;
        lives_too = stores.lives g k n there number;
        size = st.size;
        size_too = stores.size g k n there number;
        kind = st.kind;
        bytes = st.bytes;
        stands = subst (λ (o : Option Value). IfSome o (λ u. u ≡ scalar_of k (object_at objects n).bytes))
            (sym (held-low d g (c ∷ fs) (without_scratch (with_registers f.saved registers)) (with_registers f.saved registers) is (scratch-low (with_registers f.saved registers))))
            (place-after p d f c fs registers g (scalar_of k (object_at objects n).bytes) is s l saves st.stands (register_of (webs_of d f.function) g) refl);
        memory = λ not. stores.bytes g k n there number not (λ w none. absurd (nowhere w none));
      };
  tame = a.tame;
}

-- ---- the pair after a return

abbrev back-registers : Active → (ℕ → Value) → ℕ → Value
back-registers f registers = without_scratch (with_registers f.saved registers)

abbrev left-of : Active → ℕ → List Object → List Object
left-of f count objects = end_from (count - f.base) f.base objects

abbrev note-return : Program → List (List ℕ × Directives) → Active → List Active → ℕ → List Object → Pair → Event Byte Value
note-return p d c cs count memory x =
    Returned x.frame.function.name 0 (web.globals_now (under p d) (back-registers x.frame x.registers) (web_frames d (c ∷ cs)) (left-of x.frame count memory)) x.frame.before
    (web.kept (back-registers x.frame x.registers))

abbrev returned : Program → List (List ℕ × Directives) → Active → List Active → ℕ → List Object → List (Event Byte Value) → Pair → Pair
returned p d c cs count memory trace x = record x {
  frame = c;
  callers = cs;
  objects = left-of x.frame (length x.objects) x.objects;
  moments = flow.Returned x.frame.function.name (left-of x.frame (length x.objects) x.objects) ∷ x.moments;
  registers = back-registers x.frame x.registers;
  memory = left-of x.frame count memory;
  trace = note-return p d c cs count memory x ∷ trace;
}

returned-alike : (p : Program) (d : List (List ℕ × Directives)) (x : Pair) (c : Active) (cs : List Active) (memory : List Object) (trace : List (Event Byte Value)) → StartIsNotCalled → IsProgram p → IsDatabase d → Sound (graph_of p) d
    → IsAlike p d (record x { callers = c ∷ cs }) → Stores p d (names_active (c ∷ cs)) x.objects [] memory → calls_alone trace ≡ calls_alone x.trace
    → IsAlike p d (returned p d c cs (length x.objects) memory trace x)
returned-alike p d x c cs memory trace never lawful is s a stores quiet =
    let after = end-alike p d (c ∷ cs) (back-registers x.frame x.registers) (length x.objects - x.frame.base) x.frame.base x.objects memory a.frame.slots
    (objects-after p d x.frame c cs x.registers x.objects x.memory memory is s a.linked a.frame.saves a.objects stores) in
    let shown : is_of_source x.frame.function.name ≡ true = source-name p x.frame.function lawful a.frame.there
    (λ e. never p c.function.name lawful (subst (Calls (graph_of p) c.function.name) e a.linked.0)) in
    record {
      frame = a.callers.0;
      callers = a.callers.1;
      linked = a.linked.1;
      objects = after;
      log = subst (λ (l : List (Event Byte Value)). run.AreAlike (MomentAlike p) (flow.Returned x.frame.function.name (left-of x.frame (length x.objects) x.objects) ∷ x.moments) l)
          (ap (λ (l : List (Event Byte Value)). note-return p d c cs (length x.objects) memory x ∷ l) (sym quiet)
          ∙ sym (ap (λ (q : Bool). if q then note-return p d c cs (length x.objects) memory x ∷ calls_alone trace else calls_alone trace) shown))
          (run.also (flow.Returned x.frame.function.name (left-of x.frame (length x.objects) x.objects)) (note-return p d c cs (length x.objects) memory x) x.moments (calls_alone x.trace)
          (refl, refl, globals-all-stand p d (c ∷ cs) (back-registers x.frame x.registers) (left-of x.frame (length x.objects) x.objects) (left-of x.frame (length x.objects) memory) lawful is s after) a.log);
    }

-- ---- the step

abbrev flow-back : Value → flow.Machine → List flow.Frame → flow.Step
flow-back v m [] = flow.Astray
flow-back v m (caller ∷ callers) = flow.On (flow.takes_result m.frame.result v (record m {
  frame = caller;
  callers = callers;
  objects = end_from (length m.objects - m.frame.base) m.frame.base m.objects;
  moments = flow.Returned m.frame.function.name (end_from (length m.objects - m.frame.base) m.frame.base m.objects) ∷ m.moments;
}))

abbrev web-back : web.PlacedProgram → Value → List web.Frame → web.Machine → web.Step
web-back p v [] left = web.Astray
web-back p v (caller ∷ callers) left = web.given_back p v caller callers left

result-follows : (p : Program) (d : List (List ℕ × Directives)) (x : Pair) (t : Option ℕ) (v : Value) → FineValue p v → IsAlike p d x → GoesBoth p d (flow.takes_result t v (flow_side x)) (web.On (web.takes_result t v (web_side d x)))
result-follows p d x None v fine a = record { pair = x; flow = refl; web = refl; alike = a }
result-follows p d x (Some t) v fine a = record { pair = with-value t v x; flow = refl; web = refl; alike = value-alike p d x t v fine a }

back-follows : (p : Program) (d : List (List ℕ × Directives)) (x : Pair) (c : Active) (cs : List Active) (v : Value) → StartIsNotCalled → IsProgram p → IsDatabase d → Sound (graph_of p) d → FineValue p v → IsAlike p d (record x { callers = c ∷ cs })
    → Follows p d (flow-back v (flow_side x) (map flow_frame (c ∷ cs)))
    (web.and_then (web.leaves_webs (under p d) (entered-among (webs_of d x.frame.function)) (web_side d x)) (web-back (under p d) v (web_frames d (c ∷ cs))))
unfolding directed
back-follows p d x c cs v never lawful is s fine a =
    let r = leaves-on p d (names_active (c ∷ cs)) x.objects x.registers lawful (entered-among (webs_of d x.frame.function))
    (λ w there. held-by-entry p d x.frame (c ∷ cs) x.registers x.objects x.memory w is s a.objects (entered-only d x.frame.function w there)) (web_side d x) refl
    (stores-before p d x.frame c cs x.registers x.objects x.memory is s a.linked a.objects) in
    let z = result-follows p d (returned p d c cs (length x.objects) r.memory r.trace x) x.frame.result v fine (returned-alike p d x c cs r.memory r.trace never lawful is s a r.stores r.quiet) in
    record {
      pair = z.pair;
      flow = z.flow;
      web = ap (λ (s : web.Step). web.and_then s (web-back (under p d) v (web_frames d (c ∷ cs)))) r.on
          ∙ ap (λ (n : ℕ). web.On (web.takes_result x.frame.result v (web_side d (returned p d c cs n r.memory r.trace x)))) r.stores.count
          ∙ z.web;
      alike = z.alike;
    }

to-callers : (p : Program) (d : List (List ℕ × Directives)) (x : Pair) (callers : List Active) (v : Value) → StartIsNotCalled → IsProgram p → IsDatabase d → Sound (graph_of p) d → FineValue p v → IsAlike p d (record x { callers = callers })
    → Follows p d (flow-back v (flow_side x) (map flow_frame callers))
    (web.and_then (web.leaves_webs (under p d) (entered-among (webs_of d x.frame.function)) (web_side d x)) (web-back (under p d) v (web_frames d callers)))
to-callers p d x [] v never lawful is s fine a = tt
to-callers p d x (c ∷ cs) v never lawful is s fine a = back-follows p d x c cs v never lawful is s fine a

return-follows : (p : Program) (d : List (List ℕ × Directives)) (x : Pair) (t : Option ℕ) → StartIsNotCalled → IsProgram p → IsDatabase d → Sound (graph_of p) d → IsAlike p d x
    → Follows p d (flow.returns t (flow_side x)) (web.returns (under p d) t (web_side d x))
unfolding directed
return-follows p d x None never lawful is s a = to-callers p d x x.callers Undefined never lawful is s tt a
return-follows p d x (Some t) never lawful is s a = to-callers p d x x.callers (slice_index_or x.frame.temps t Undefined) never lawful is s (a.frame.temps t) a

ending-follows : (p : Program) (d : List (List ℕ × Directives)) (x : Pair) (t : Option ℕ) → StartIsNotCalled → IsProgram p → IsDatabase d → Sound (graph_of p) d → IsAlike p d (with-ops [] x) → x.frame.end ≡ Return t → StepsFollow p d (with-ops [] x)
unfolding flow.step web.step
ending-follows p d x t never lawful is s a e =
    subst (λ (end : End). Follows p d (flow.ends end (flow_side (with-ops [] x))) (web.ends (under p d) end (web_side d (with-ops [] x)))) (sym e) (return-follows p d (with-ops [] x) t never lawful is s a)

pub returns-follow : StartIsNotCalled → ReturnsFollow
returns-follow never p d x t lawful is s a e end =
    subst (λ (l : List Op). StepsFollow p d (with-ops l x)) (sym e)
    (ending-follows p d x t never lawful is s (subst (λ (l : List Op). IsAlike p d (with-ops l x)) e a) end)
