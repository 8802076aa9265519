-- The calls that are active by a trail are its functions, and each call of it is one of the graph.
use Rattle.std.proofs.Common.{◌≡◌, ℕ, Bool, true, false, if◌then◌else◌, List, [], ◌∷◌, map, refl, sym, ap, subst, ◌∙◌}
use Rattle.pw_value.specs.ProgramNames.{start_name}
use Rattle.pw_value.specs.declared.value.Byte.{Byte}
use Rattle.pw_value.specs.declared.value.Value.{Value}
use Rattle.pw_db.specs.declared.database.Web.{Web}
use Rattle.pw_db.specs.declared.database.Directives.{Directives}
use Rattle.pw_db_sound.specs.CallGraphs.{Graph, Calls}
use Rattle.pw_run_languages.specs.Traces.{Event, Called, Returned, Loaded, Stored}
use Rattle.pw_run_languages.specs.Traffic.{Open, with_event, without, active}
use Rattle.pw_run_languages.specs.Programs.{Program}
use Rattle.pw_run_languages.specs.LawfulPrograms.{graph_of}
use Rattle.pw_run_languages.specs.Direction.{directives_of}
use Rattle.pw_run_languages.specs.PlacedRun.{with_registers, without_scratch, kept}
use Rattle.pw_run_languages.specs.Calls.{IsCalledBy, FollowsCalls}
use Rattle.pw_law_direction.proofs.Trails.{Log, is_kept, noted_in, entered_among, loads, stored_in, stores, Act, Registers, Trail, begun, write, load, store, library, call, return, Last, ended, refused}

abbrev pub names_in : List (Open Byte Value) → List (List ℕ)
names_in calls = map (λ c. c.function) calls

pub same_names : (e : Event Byte Value) (calls : List (Open Byte Value)) → names_in (map (with_event e) calls) ≡ names_in calls
same_names e [] = refl
same_names e (c ∷ cs) = ap (λ (ns : List (List ℕ)). c.function ∷ ns) (same_names e cs)

abbrev tail_of : List (List ℕ) → List (List ℕ)
tail_of [] = []
tail_of (n ∷ ns) = ns

pub rest_names : (calls : List (Open Byte Value)) (n : List ℕ) (ns : List (List ℕ)) → names_in calls ≡ n ∷ ns → names_in (without 0 calls) ≡ ns
rest_names [] n ns e = absurd cc
rest_names (c ∷ cs) n ns e = ap tail_of e

loaded_names : (b : Bool) (v : List ℕ) (l : Log) → names_in (active (noted_in b (Loaded v) l)) ≡ names_in (active l)
loaded_names true v l = same_names (Loaded v) (active l)
loaded_names false v l = refl

stored_names : (b : Bool) (v : List ℕ) (l : Log) → names_in (active (noted_in b (Stored v) l)) ≡ names_in (active l)
stored_names true v l = same_names (Stored v) (active l)
stored_names false v l = refl

loads_names : (p : Program) (ws : List Web) (l : Log) → names_in (active (loads p ws l)) ≡ names_in (active l)
loads_names p [] l = refl
loads_names p (w ∷ ws) l = loads_names p ws (noted_in (is_kept p w.global) (Loaded w.global) l) ∙ loaded_names (is_kept p w.global) w.global l

left_names : (writes b : Bool) (v : List ℕ) (l : Log) → names_in (active (if writes then noted_in b (Stored v) l else l)) ≡ names_in (active l)
left_names true b v l = stored_names b v l
left_names false b v l = refl

pub stored_in_names : (p : Program) (w : Web) (l : Log) → names_in (active (stored_in p w l)) ≡ names_in (active l)
stored_in_names p w l = left_names w.writes (is_kept p w.global) w.global l

stores_names : (p : Program) (ws : List Web) (l : Log) → names_in (active (stores p ws l)) ≡ names_in (active l)
stores_names p [] l = refl
stores_names p (w ∷ ws) l = stores_names p ws (stored_in p w l) ∙ stored_in_names p w l

-- ---- each call is one of the graph

called_by : (g : Graph) (f h : List ℕ) (fs : List (List ℕ)) (calls : List (Open Byte Value)) → names_in calls ≡ f ∷ fs → Calls g f h → IsCalledBy g h calls
called_by g f h fs [] e edge = absurd cc
called_by g f h fs (c ∷ cs) e edge = let same : c.function ≡ f = cc in subst (λ (n : List ℕ). Calls g n h) (sym same) edge

loaded_follows : (g : Graph) (b : Bool) (v : List ℕ) (l : Log) → FollowsCalls g l → FollowsCalls g (noted_in b (Loaded v) l)
loaded_follows g true v l h = h
loaded_follows g false v l h = h

loads_follow : (p : Program) (g : Graph) (ws : List Web) (l : Log) → FollowsCalls g l → FollowsCalls g (loads p ws l)
loads_follow p g [] l h = h
loads_follow p g (w ∷ ws) l h = loads_follow p g ws (noted_in (is_kept p w.global) (Loaded w.global) l) (loaded_follows g (is_kept p w.global) w.global l h)

left_follows : (g : Graph) (writes b : Bool) (v : List ℕ) (l : Log) → FollowsCalls g l → FollowsCalls g (if writes then noted_in b (Stored v) l else l)
left_follows g true true v l h = h
left_follows g true false v l h = h
left_follows g false b v l h = h

stores_follow : (p : Program) (g : Graph) (ws : List Web) (l : Log) → FollowsCalls g l → FollowsCalls g (stores p ws l)
stores_follow p g [] l h = h
stores_follow p g (w ∷ ws) l h = stores_follow p g ws (stored_in p w l) (left_follows g w.writes (is_kept p w.global) w.global l h)

module _ (p : Program) (d : List (List ℕ × Directives)) where
  pub names_are : {acts : List Act} {regs : Registers} {l : Log} → Trail p d acts regs l → names_in (active l) ≡ map (λ a. a.name) acts
  names_are (begun gs rs now agree) = loads_names p (entered_among (directives_of d start_name).webs) (Called start_name gs rs ∷ [])
  names_are (write a fs regs w role v l h t) = names_are t
  names_are (load a fs regs v l h t) = same_names (Loaded v) (active l) ∙ names_are t
  names_are (store a fs regs v l h t) = same_names (Stored v) (active l) ∙ names_are t
  names_are (library a h fs regs gs hs rs ss l e t) =
      same_names (Returned h 0 hs ss ss) (map (with_event (Called h gs rs)) (active l)) ∙ same_names (Called h gs rs) (active l) ∙ names_are t
  names_are (call a h fs regs now gs rs l e agree t) =
      loads_names p (entered_among (directives_of d h).webs) (Called h gs rs ∷ l) ∙ ap (λ (ns : List (List ℕ)). h ∷ ns) (same_names (Called h gs rs) (active l) ∙ names_are t)
  names_are (return a b fs regs gs l t) =
      let ws = entered_among (directives_of d b.name).webs in
      let after = kept (without_scratch (with_registers b.saved regs)) in
      same_names (Returned b.name 0 gs b.before after) (without 0 (active (stores p ws l))) ∙ rest_names (active (stores p ws l)) b.name (a.name ∷ map (λ c. c.name) fs) (stores_names p ws l ∙ names_are t)

  pub follows : {acts : List Act} {regs : Registers} {l : Log} → Trail p d acts regs l → FollowsCalls (graph_of p) l
  follows (begun gs rs now agree) = loads_follow p (graph_of p) (entered_among (directives_of d start_name).webs) (Called start_name gs rs ∷ []) (refl, tt)
  follows (write a fs regs w role v l h t) = follows t
  follows (load a fs regs v l h t) = follows t
  follows (store a fs regs v l h t) = follows t
  follows (library a h fs regs gs hs rs ss l e t) = (called_by (graph_of p) a.name h (map (λ c. c.name) fs) (active l) (names_are t) e, follows t)
  follows (call a h fs regs now gs rs l e agree t) =
      loads_follow p (graph_of p) (entered_among (directives_of d h).webs) (Called h gs rs ∷ l) (called_by (graph_of p) a.name h (map (λ c. c.name) fs) (active l) (names_are t) e, follows t)
  follows (return a b fs regs gs l t) = stores_follow p (graph_of p) (entered_among (directives_of d b.name).webs) l (follows t)

  pub last_follows : {l : Log} → Last p d l → FollowsCalls (graph_of p) l
  last_follows (ended a h fs regs gs rs l e t) = (called_by (graph_of p) a.name h (map (λ c. c.name) fs) (active l) (names_are t) e, follows t)
  last_follows (refused a h fs regs l e t) = (called_by (graph_of p) a.name h (map (λ c. c.name) fs) (active l) (names_are t) e, follows t)
