-- Under sound directives each trail obeys the law of traffic.
use Rattle.std.proofs.Common.{◌≡◌, ◌≢◌, ℕ, Bool, true, false, if◌then◌else◌, List, [], ◌∷◌, map, refl, sym, ap, subst, ◌∙◌, inl, inr}
use Rattle.std.specs.Prelude.{None, Contains}
use Rattle.std.specs.List.{AllByRecursion}
use Rattle.pw_value.specs.ProgramNames.{start_name}
use Rattle.pw_value.specs.declared.value.Byte.{Byte}
use Rattle.pw_value.specs.declared.value.Value.{Value}
use Rattle.pw_files.proofs.Standing.{Has, has_by, contains_by, has_each, has_map, has_map_back}
use Rattle.pw_db.specs.Database.{EachTwo, IsDatabase}
use Rattle.pw_db.specs.declared.database.Web.{Web}
use Rattle.pw_db.specs.declared.database.Role.TheVariants.{Entry}
use Rattle.pw_db.specs.declared.database.Directives.{Directives}
use Rattle.pw_db_sound.specs.CallGraphs.{Calls, Path}
use Rattle.pw_db_sound.specs.CallGraphs.{call as one_call, on as more_calls}
use Rattle.pw_db_sound.specs.Sound.{In, keeps, Sound}
use Rattle.pw_db_sound.specs.Sound.{Has as HasRole}
use Rattle.pw_run_languages.specs.Traces.{Event, Called, Returned, Loaded, Stored}
use Rattle.pw_run_languages.specs.Traffic.{Open, with_event, without, active, Enters, IsCovered, StandsInEntry, OnlyWhereWritten, NoneHasStored, ObeysTraffic}
use Rattle.pw_webflow.specs.Direction.{register_of}
use Rattle.pw_run_languages.specs.Programs.{Program}
use Rattle.pw_run_languages.specs.LawfulPrograms.{graph_of}
use Rattle.pw_run_languages.specs.Direction.{directives_of}
use Rattle.pw_run_languages.specs.PlacedRun.{with_registers, without_scratch, kept}
use Rattle.pw_law_direction.proofs.Trails.{Log, is_kept, noted_in, entered_among, loads, stored_in, stores, Accesses, Act, Registers, Trail, begun, write, load, store, library, call, return, Last, ended, refused}
use Rattle.pw_law_direction.proofs.Directives.{one_web, no_register, entered_role, entered_apart}
use Rattle.pw_law_direction.proofs.Following.{names_in, same_names, names_are}

abbrev head_of : List (List ℕ) → List ℕ
head_of [] = []
head_of (n ∷ ns) = n

abbrev tail_of : List (List ℕ) → List (List ℕ)
tail_of [] = []
tail_of (n ∷ ns) = ns

abbrev Opens : Type 0
Opens = List (Open Byte Value)

-- an event that the first of the calls lacks
abbrev Lacks : Event Byte Value → Opens → Type 0
Lacks e [] = Unit {0}
Lacks e (c ∷ cs) = Contains c.inside e → ⊥

not_there : {X : Type 0} (x : X) → Contains [] x → ⊥
not_there x h = has_by x [] h

lacks_more : (e f : Event Byte Value) (calls : Opens) → (f ≡ e → ⊥) → Lacks e calls → Lacks e (map (with_event f) calls)
lacks_more e f [] differs h = tt
lacks_more e f (c ∷ cs) differs h = λ k. elim (has_by e (f ∷ c.inside) k) [ inl same ↦ differs same | inr old ↦ h (contains_by e c.inside old) ]

stored_global : (x y : List ℕ) → ◌≡◌ {A = Event Byte Value} (Stored x) (Stored y) → x ≡ y
stored_global x y e = cc

loaded_global : (x y : List ℕ) → ◌≡◌ {A = Event Byte Value} (Loaded x) (Loaded y) → x ≡ y
loaded_global x y e = cc

module _ (p : Program) (d : List (List ℕ × Directives)) (base : IsDatabase d) (sound : Sound (graph_of p) d) where
  -- ---- the stack is a path

  abbrev pub Linked : List (List ℕ) → Type 0
  Linked [] = Unit {0}
  Linked (f ∷ []) = Unit {0}
  Linked (f ∷ a ∷ fs) = Calls (graph_of p) a f × Linked (a ∷ fs)

  behind : (f : List ℕ) (fs : List (List ℕ)) → Linked (f ∷ fs) → Linked fs
  behind f [] h = tt
  behind f (a ∷ fs) h = h.1

  pub linked : {acts : List Act} {regs : Registers} {l : Log} → Trail p d acts regs l → Linked (map (λ a. a.name) acts)
  linked (begun gs rs now agree) = tt
  linked (write a fs regs w role v l h t) = linked t
  linked (load a fs regs v l h t) = linked t
  linked (store a fs regs v l h t) = linked t
  linked (library a h fs regs gs hs rs ss l e t) = linked t
  linked (call a h fs regs now gs rs l e agree t) = (e, linked t)
  linked (return a b fs regs gs l t) = (linked t).1

  path_then : {a b : List ℕ} → Path (graph_of p) a b → (c : List ℕ) → Calls (graph_of p) b c → Path (graph_of p) a c
  path_then (one_call a b e) c last = more_calls a b c e (one_call b c last)
  path_then (more_calls a m b e path) c last = more_calls a m c e (path_then path c last)

  reach : (a : List ℕ) (fs : List (List ℕ)) (c : List ℕ) → Linked (a ∷ fs) → Has c fs → Path (graph_of p) c a
  reach a [] c links h = absurd h
  reach a (b ∷ fs) c links (inl e) = subst (λ (n : List ℕ). Path (graph_of p) n a) e (one_call b a links.0)
  reach a (b ∷ fs) c links (inr h) = path_then (reach b fs c links.1 h) a links.0

  is_in : (f : List ℕ) (w : Web) → HasRole d f w Entry → In d w f
  is_in f w h = record { role = Entry; has = h }

  -- where a function is an entry, none below it is in a web of the same global
  fresh : (f : List ℕ) (fs : List (List ℕ)) (w u : Web) (c : List ℕ) → Linked (f ∷ fs) → HasRole d f w Entry → Has c fs → In d u c → u.global ≡ w.global → ⊥
  fresh f [] w u c links entry h within same = h
  fresh f (a ∷ fs) w u c links entry h within same =
      let path = reach f (a ∷ fs) c links h in
      let there = sound.references u c f within path (keeps w (sym same) (is_in f w entry)) in
      let one : u ≡ w = one_web d base f u w there (is_in f w entry) same in
      let own : In d w c = subst (λ (x : Web). In d x c) one within in
      let caller : In d w a = elim h [
        | inl e ↦ subst (λ (n : List ℕ). In d w n) (sym e) own
        | inr k ↦ sound.between w c a f own (reach a fs c links.1 k) (one_call a f links.0) (is_in f w entry)
      ] in
      sound.entry_callers w f a entry links.0 caller

  -- a call below the first
  below : (f : List ℕ) (fs : List (List ℕ)) (c : Open Byte Value) (calls : Opens) → names_in calls ≡ fs → Has c calls → Has c.function fs
  below f fs c calls e h = subst (λ (ns : List (List ℕ)). Has c.function ns) e (has_map (λ (x : Open Byte Value). x.function) c calls h)

  first_is : (c : Open Byte Value) (cs : Opens) (f : List ℕ) (fs : List (List ℕ)) → names_in (c ∷ cs) ≡ f ∷ fs → (c.function ≡ f) × (names_in cs ≡ fs)
  first_is c cs f fs e = (ap head_of e, ap tail_of e)

  -- the first call alone is one of an entry of a web of the global
  alone : (f : List ℕ) (fs : List (List ℕ)) (w u : Web) (c e : Open Byte Value) (cs : Opens) → names_in (e ∷ cs) ≡ f ∷ fs → Linked (f ∷ fs) → HasRole d f w Entry → Contains (e ∷ cs) c → Enters d u w.global c.function → e ≡ c
  alone f fs w u c e cs names links entry there enters = elim (has_by c (e ∷ cs) there) [
    | inl same ↦ same
    | inr h ↦ absurd (fresh f fs w u c.function links entry (below f fs c cs (first_is e cs f fs names).1 h) (is_in c.function u enters.has) enters.global)
  ]

  -- ---- stores are noted by no call of an entry

  abbrev AreUnstored : Opens → Type 0
  AreUnstored calls = (v : List ℕ) → IsCovered (graph_of p) d v → NoneHasStored d v calls

  unstored_more : (e : Event Byte Value) (calls : Opens) → ((v : List ℕ) → IsCovered (graph_of p) d v → e ≡ Stored v → ⊥) → AreUnstored calls → AreUnstored (map (with_event e) calls)
  unstored_more e calls differs h v covered c w there enters inside =
      let k = has_map_back (with_event e) c calls (has_by c (map (with_event e) calls) there) in
      let own : Contains (e ∷ k.0.inside) (Stored v) = subst (λ (o : Open Byte Value). Contains o.inside (Stored v)) (sym k.2) inside in
      let enters_own : Enters d w v k.0.function = subst (λ (o : Open Byte Value). Enters d w v o.function) (sym k.2) enters in
      elim (has_by (Stored v) (e ∷ k.0.inside) own) [
        | inl same ↦ differs v covered same
        | inr old ↦ h v covered k.0 w (contains_by k.0 calls k.1) enters_own (contains_by (Stored v) k.0.inside old)
      ]

  abbrev Keeps : Log → Type 0
  Keeps l = ObeysTraffic (graph_of p) d l × AreUnstored (active l)

  -- ---- loads of entries

  stands : (f : List ℕ) (fs : List (List ℕ)) (w : Web) (calls : Opens) → names_in calls ≡ f ∷ fs → Linked (f ∷ fs) → HasRole d f w Entry → (e : Event Byte Value) → Lacks e calls → StandsInEntry d w.global e calls
  stands f fs w [] names links entry e lacks = absurd cc
  stands f fs w (c ∷ cs) names links entry e lacks = record {
    call = c;
    is_active = contains_by c (c ∷ cs) (inl refl);
    web = w;
    entry = record { has = subst (λ (n : List ℕ). HasRole d n w Entry) (sym (first_is c cs f fs names).0) entry; global = refl };
    once = λ o u there enters inside. lacks (subst (λ (x : Open Byte Value). Contains x.inside e) (sym (alone f fs w u o c cs names links entry there enters)) inside);
  }

  one_loaded : (f : List ℕ) (fs : List (List ℕ)) (w : Web) (b : Bool) (l : Log) → names_in (active l) ≡ f ∷ fs → Linked (f ∷ fs) → HasRole d f w Entry → Lacks (Loaded w.global) (active l) → Keeps l → Keeps (noted_in b (Loaded w.global) l)
  one_loaded f fs w true l names links entry lacks k = (
    (λ covered. stands f fs w (active l) names links entry (Loaded w.global) lacks, k.0),
    unstored_more (Loaded w.global) (active l) (λ v covered e. cc) k.1,
  )
  one_loaded f fs w false l names links entry lacks k = k

  names_loaded : (b : Bool) (v : List ℕ) (l : Log) (ns : List (List ℕ)) → names_in (active l) ≡ ns → names_in (active (noted_in b (Loaded v) l)) ≡ ns
  names_loaded true v l ns e = same_names (Loaded v) (active l) ∙ e
  names_loaded false v l ns e = e

  lacks_loaded : (b : Bool) (v u : List ℕ) (l : Log) → v ≢ u → Lacks (Loaded u) (active l) → Lacks (Loaded u) (active (noted_in b (Loaded v) l))
  lacks_loaded true v u l differs h = lacks_more (Loaded u) (Loaded v) (active l) (λ e. differs (loaded_global v u e)) h
  lacks_loaded false v u l differs h = h

  all_loaded : (f : List ℕ) (fs : List (List ℕ)) (ws : List Web) (l : Log) → names_in (active l) ≡ f ∷ fs → Linked (f ∷ fs) → ((w : Web) → Has w ws → HasRole d f w Entry) → EachTwo (λ (x y : Web). x.global ≢ y.global) ws
      → ((w : Web) → Has w ws → Lacks (Loaded w.global) (active l)) → Keeps l → Keeps (loads p ws l)
  all_loaded f fs [] l names links entries apart lacks k = k
  all_loaded f fs (w ∷ ws) l names links entries apart lacks k =
      let b = is_kept p w.global in
      all_loaded f fs ws (noted_in b (Loaded w.global) l) (names_loaded b w.global l (f ∷ fs) names) links (λ u h. entries u (inr h)) apart.1
      (λ u h. lacks_loaded b w.global u.global l (has_each (λ (x : Web). w.global ≢ x.global) ws u apart.0 h) (lacks u (inr h)))
      (one_loaded f fs w b l names links (entries w (inl refl)) (lacks w (inl refl)) k)

  -- ---- stores of entries

  written : (f : List ℕ) (fs : List (List ℕ)) (w : Web) (calls : Opens) → names_in calls ≡ f ∷ fs → Linked (f ∷ fs) → HasRole d f w Entry → w.writes ≡ true → OnlyWhereWritten d w.global calls
  written f fs w [] names links entry writes = absurd cc
  written f fs w (e ∷ cs) names links entry writes = λ c u there enters.
      let first : e ≡ c = alone f fs w u c e cs names links entry there enters in
      let name : c.function ≡ f = ap (λ (o : Open Byte Value). o.function) (sym first) ∙ (first_is e cs f fs names).0 in
      let within : In d u f = subst (λ (n : List ℕ). In d u n) name (is_in c.function u enters.has) in
      let one : u ≡ w = one_web d base f u w within (is_in f w entry) enters.global in
      ap (λ (x : Web). x.writes) one ∙ writes

  -- what holds while a function stores its webs back: the first call may have noted stores
  record Leaving (f : List ℕ) (fs : List (List ℕ)) (ws : List Web) (l : Log) : Type 0 where
    names : names_in (active l) ≡ f ∷ fs
    obeys : ObeysTraffic (graph_of p) d l
    rest : AreUnstored (without 0 (active l))
    lacks : (w : Web) → Has w ws → IsCovered (graph_of p) d w.global → Lacks (Stored w.global) (active l)

  -- a store of the first call's web is of no web that a call below enters
  rest_more : (f : List ℕ) (fs : List (List ℕ)) (w : Web) (calls : Opens) → names_in calls ≡ f ∷ fs → Linked (f ∷ fs) → HasRole d f w Entry → AreUnstored (without 0 calls) → AreUnstored (without 0 (map (with_event (Stored w.global)) calls))
  rest_more f fs w [] names links entry h v covered c u there enters inside = absurd cc
  rest_more f fs w (e ∷ cs) names links entry h v covered c u there enters inside =
      let k = has_map_back (with_event (Stored w.global)) c cs (has_by c (map (with_event (Stored w.global)) cs) there) in
      let own : Contains (Stored w.global ∷ k.0.inside) (Stored v) = subst (λ (o : Open Byte Value). Contains o.inside (Stored v)) (sym k.2) inside in
      let enters_own : Enters d u v k.0.function = subst (λ (o : Open Byte Value). Enters d u v o.function) (sym k.2) enters in
      elim (has_by (Stored v) (Stored w.global ∷ k.0.inside) own) [
        | inl same ↦ fresh f fs w u k.0.function links entry (below f fs k.0 cs (first_is e cs f fs names).1 k.1) (is_in k.0.function u enters_own.has) (enters_own.global ∙ sym (stored_global w.global v same))
        | inr old ↦ h v covered k.0 u (contains_by k.0 cs k.1) enters_own (contains_by (Stored v) k.0.inside old)
      ]

  lacks_stored : (v u : List ℕ) (calls : Opens) → v ≢ u → Lacks (Stored u) calls → Lacks (Stored u) (map (with_event (Stored v)) calls)
  lacks_stored v u calls differs h = lacks_more (Stored u) (Stored v) calls (λ e. differs (stored_global v u e)) h

  fewer : (f : List ℕ) (fs : List (List ℕ)) (w : Web) (ws : List Web) (l : Log) → Leaving f fs (w ∷ ws) l → Leaving f fs ws l
  fewer f fs w ws l k = record { names = k.names; obeys = k.obeys; rest = k.rest; lacks = λ u h covered. k.lacks u (inr h) covered }

  one_stored : (f : List ℕ) (fs : List (List ℕ)) (w : Web) (ws : List Web) (writes b : Bool) (l : Log) → w.writes ≡ writes → Linked (f ∷ fs) → HasRole d f w Entry → AllByRecursion (λ (u : Web). w.global ≢ u.global) ws
      → Leaving f fs (w ∷ ws) l → Leaving f fs ws (if writes then noted_in b (Stored w.global) l else l)
  one_stored f fs w ws true true l e links entry apart k = record {
    names = same_names (Stored w.global) (active l) ∙ k.names;
    obeys = (
      λ covered. (stands f fs w (active l) k.names links entry (Stored w.global) (k.lacks w (inl refl) covered), written f fs w (active l) k.names links entry e),
      k.obeys,
    );
    rest = rest_more f fs w (active l) k.names links entry k.rest;
    lacks = λ u h covered. lacks_stored w.global u.global (active l) (has_each (λ (x : Web). w.global ≢ x.global) ws u apart h) (k.lacks u (inr h) covered);
  }
  one_stored f fs w ws true false l e links entry apart k = fewer f fs w ws l k
  one_stored f fs w ws false b l e links entry apart k = fewer f fs w ws l k

  all_stored : (f : List ℕ) (fs : List (List ℕ)) (ws : List Web) (l : Log) → Linked (f ∷ fs) → ((w : Web) → Has w ws → HasRole d f w Entry) → EachTwo (λ (x y : Web). x.global ≢ y.global) ws → Leaving f fs ws l → Leaving f fs [] (stores p ws l)
  all_stored f fs [] l links entries apart k = k
  all_stored f fs (w ∷ ws) l links entries apart k =
      all_stored f fs ws (stored_in p w l) links (λ u h. entries u (inr h)) apart.1 (one_stored f fs w ws w.writes (is_kept p w.global) l refl links (entries w (inl refl)) apart.0 k)

  -- at first the calls of entries have noted no store
  leaving : (f : List ℕ) (fs : List (List ℕ)) (ws : List Web) (l : Log) → names_in (active l) ≡ f ∷ fs → ((w : Web) → Has w ws → HasRole d f w Entry) → Keeps l → Leaving f fs ws l
  leaving f fs ws l names entries k = record {
    names = names;
    obeys = k.0;
    rest = rest_of (active l) k.1;
    lacks = λ w h covered. lacks_of w (active l) names (entries w h) covered k.1;
  } where
    rest_of : (calls : Opens) → AreUnstored calls → AreUnstored (without 0 calls)
    rest_of [] h v covered o u there = h v covered o u there
    rest_of (c ∷ cs) h v covered o u there = h v covered o u (contains_by o (c ∷ cs) (inr (has_by o cs there)))

    lacks_of : (w : Web) (calls : Opens) → names_in calls ≡ f ∷ fs → HasRole d f w Entry → IsCovered (graph_of p) d w.global → AreUnstored calls → Lacks (Stored w.global) calls
    lacks_of w [] names entry covered h = tt
    lacks_of w (c ∷ cs) names entry covered h =
        h w.global covered c w (contains_by c (c ∷ cs) (inl refl)) (record { has = subst (λ (n : List ℕ). HasRole d n w Entry) (sym (first_is c cs f fs names).0) entry; global = refl })

  -- ---- the law

  -- a global that a function accesses without a register is not covered
  uncovered : (f v : List ℕ) → Accesses p d f v → IsCovered (graph_of p) d v → ⊥
  uncovered f v a covered =
      let k = covered.each f a.refers in
      no_register d base f k.web k.within (subst (λ (n : List ℕ). register_of (directives_of d f).webs n ≡ None) (sym k.global) a.lacks)

  -- of a function that was just called
  entered_keeps : (h : List ℕ) (fs : List (List ℕ)) (l : Log) → names_in (active l) ≡ h ∷ fs → Linked (h ∷ fs) → ((e : Event Byte Value) → Lacks e (active l)) → Keeps l → Keeps (loads p (entered_among (directives_of d h).webs) l)
  entered_keeps h fs l names links lacks k =
      all_loaded h fs (entered_among (directives_of d h).webs) l names links (entered_role d base h) (entered_apart d base h) (λ w there. lacks (Loaded w.global)) k

  -- a new call has noted nothing
  unstored_called : (c : Open Byte Value) (calls : Opens) → c.inside ≡ [] → AreUnstored calls → AreUnstored (c ∷ calls)
  unstored_called c calls empty h v covered o u there enters inside = elim (has_by o (c ∷ calls) there) [
    | inl same ↦ not_there (Stored v) (subst (λ (es : List (Event Byte Value)). Contains es (Stored v)) empty (subst (λ (x : Open Byte Value). Contains x.inside (Stored v)) (sym same) inside))
    | inr k ↦ h v covered o u (contains_by o calls k) enters inside
  ]

  pub keeps_law : {acts : List Act} {regs : Registers} {l : Log} → Trail p d acts regs l → Keeps l
  keeps_law (begun gs rs now agree) =
      entered_keeps start_name [] (Called start_name gs rs ∷ []) refl tt (λ e inside. not_there e inside)
      ((λ v covered c w there enters inside. not_there c there, tt), unstored_called (record { function = start_name; inside = [] }) [] refl (λ v covered c w there enters inside. not_there c there))
  keeps_law (write a fs regs w role v l h t) = keeps_law t
  keeps_law (load a fs regs v l h t) = (
    (λ covered. absurd (uncovered a.name v h covered), (keeps_law t).0),
    unstored_more (Loaded v) (active l) (λ u covered e. cc) (keeps_law t).1,
  )
  keeps_law (store a fs regs v l h t) = (
    (λ covered. absurd (uncovered a.name v h covered), (keeps_law t).0),
    unstored_more (Stored v) (active l) (λ u covered e. uncovered a.name v h (subst (IsCovered (graph_of p) d) (sym (stored_global v u e)) covered)) (keeps_law t).1,
  )
  keeps_law (library a h fs regs gs hs rs ss l e t) =
      let k = keeps_law t in (
        (tt, (k.1, k.0)),
        unstored_more (Returned h 0 hs ss ss) (map (with_event (Called h gs rs)) (active l)) (λ v covered e. cc) (unstored_more (Called h gs rs) (active l) (λ v covered e. cc) k.1),
      )
  keeps_law (call a h fs regs now gs rs l e agree t) =
      let k = keeps_law t in
      entered_keeps h (a.name ∷ map (λ c. c.name) fs) (Called h gs rs ∷ l) (ap (λ (ns : List (List ℕ)). h ∷ ns) (same_names (Called h gs rs) (active l) ∙ names_are p d t)) (e, linked t) (λ x inside. not_there x inside)
      ((k.1, k.0), unstored_called (record { function = h; inside = [] }) (map (with_event (Called h gs rs)) (active l)) refl (unstored_more (Called h gs rs) (active l) (λ v covered e. cc) k.1))
  keeps_law (return a b fs regs gs l t) =
      let ws = entered_among (directives_of d b.name).webs in
      let under = a.name ∷ map (λ c. c.name) fs in
      let after = kept (without_scratch (with_registers b.saved regs)) in
      let left = all_stored b.name under ws l (linked t) (entered_role d base b.name) (entered_apart d base b.name) (leaving b.name under ws l (names_are p d t) (entered_role d base b.name) (keeps_law t)) in
      ((tt, left.obeys), unstored_more (Returned b.name 0 gs b.before after) (without 0 (active (stores p ws l))) (λ v covered e. cc) left.rest)

  pub last_keeps_law : {l : Log} → Last p d l → ObeysTraffic (graph_of p) d l
  last_keeps_law (ended a h fs regs gs rs l e t) = let k = keeps_law t in (k.1, k.0)
  last_keeps_law (refused a h fs regs l e t) = let k = keeps_law t in (k.1, k.0)
