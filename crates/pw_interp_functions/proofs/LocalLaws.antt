-- Locals that have objects, as what the act behind them leads to.
use Rattle.std.proofs.Common.{ℕ, zero, suc, ◌≡◌, refl, sym, ap, subst, ◌∙◌, Bool, Option, Some, None, List, length, Err, arith}
use Rattle.std.proofs.lemmas.Grind.{common_steps}
use Rattle.std.specs.Prelude.{slice_get}
use Rattle.pw_value.specs.Objects.{Object, with_object as with_new_object}
use Rattle.pw_types.specs.TypeTrees.{type_of}
use Rattle.pw_types.specs.TypedTrees.{LocalValue}
use Rattle.pw_types.specs.declared.record.Layout.{Layout}
use Rattle.pw_types.specs.Layouts.{layout_of}
use Rattle.pw_interp_state.specs.Views.{fresh}
use Rattle.pw_interp_state.specs.Shown.{Shown, Streams}
use Rattle.pw_interp_state.specs.Runs.{Runs}
use Rattle.pw_interp_state.proofs.RunLaws.{given, stopped, ends, object_shows, goes_on as runs_on}
use Rattle.pw_cmean.specs.Worlds.{World}
use Rattle.pw_cmean.specs.Acts.{Act, State, Outcome, Gives, Ends, Wrong, give, stop, wrong, go_on, ◌>>=◌, ◌>>◌, need, make, end_object, with_object}
use Rattle.pw_cmean.specs.Evaluation.{Env, records_of}
use Rattle.pw_cmean.specs.Execution.{with_locals, with_number}
use Rattle.pw_interp_todo.specs.Leading.{Leads}
use Rattle.pw_interp_todo.specs.Resuming.{end_objects}
use Rattle.pw_interp_todo.proofs.ActLaws.{grouped, follow_same, given_on, needed}
use Rattle.pw_interp_todo.proofs.LeadLaws.{further, same_lead, in_front}
use Rattle.pw_interp_functions.specs.Locals.{made, made_one, made_at, made_by, made_next}

length_more : (o : Object) (objects : List Object) → length (with_new_object o objects) ≡ suc (length objects)
length_more o objects = grind (arith, common_steps)

-- a local's object is made, and behind the rest it ends
object_leads : {A : Type 0} {world : World} {w : Shown} (size : ℕ) (writable : Bool) (act : ℕ → Act A)
    → Leads world (with_object size writable act) w (act (length w.objects) >>= λ a. end_object (length w.objects) >> give a) (record w { objects = with_new_object (fresh size writable) w.objects })
unfolding with_object make ◌>>=◌ go_on
object_leads {world = world} {w = w} size writable act = record {
  leads = λ st s e.
      let count : length s.objects ≡ length w.objects = ap {A = Shown × Streams} (λ x. length x.0.objects) e in
      let t : State = record s { objects = with_new_object (fresh size writable) s.objects } in
      (t, ap {A = Shown × Streams} (λ x. (record x.0 { objects = with_new_object (fresh size writable) x.0.objects }, x.1)) e, ap (λ n. go_on (act n t) (λ a. end_object n >> give a)) count);
}

-- what is behind an act whose result is given on
pub behind_nothing : {A : Type 0} (act : Act A) (s : State) → (act >>= λ a. give (tt {0}) >> give a) s ≡ act s
unfolding ◌>>=◌ go_on give
behind_nothing {A = A} act s = by (act s)
  where
    by : (o : Outcome A) → go_on o (λ a t. Gives a t) ≡ o
    by (Gives a t) = refl
    by (Ends ending t) = refl

module _ {A : Type 0} (world : World) (act : Env → Act A) where
  -- one behind the others
  pub ends_behind : (count number : ℕ) (inner : Act A) (s : State)
      → ((inner >>= λ a. end_objects count (suc number) >> give a) >>= λ a. end_object number >> give a) s ≡ (inner >>= λ a. end_objects (suc count) number >> give a) s
  unfolding end_objects
  ends_behind count number inner s =
      grouped inner _ _ s
      ∙ follow_same inner _ _ s (λ a t.
      grouped (end_objects count (suc number)) (λ _. give a) (λ b. end_object number >> give b) t
      ∙ follow_same (end_objects count (suc number)) _ _ t (λ d x. given_on a (λ b. end_object number >> give b) x)
      ∙ sym (grouped (end_objects count (suc number)) (λ _. end_object number) (λ _. give a) t))

  -- what an object of a local leads to
  abbrev others : ℕ → ℕ → Env → Layout → LocalValue → Act A
  others count first e layout l = with_object layout.size l.writable (λ number. with_locals count (suc first) act (with_number first number e))

  abbrev laid : ℕ → ℕ → Env → LocalValue → Act A
  laid count first e l = need (layout_of (records_of e) (type_of l.ty)) >>= λ layout. others count first e layout l

  -- the act with its objects ended behind it
  abbrev ending : ℕ → ℕ → Env → Act A
  ending count number inner = act inner >>= λ a. end_objects count number >> give a

  -- So many locals have objects: the act follows where they are in scope, and behind it they end.
  pub locals_lead : (count first : ℕ) (e inner : Env) (w : Shown) (objects : List Object) → made count first e w.objects ≡ (Some inner, objects)
      → Leads world (with_locals count first act e) w (ending count (length w.objects) inner) (record w { objects = objects })
  unfolding with_locals end_objects
  locals_lead zero first e inner w objects is =
      let one : e ≡ inner = cc (ap (λ p. p.0) is) in
      let two : w.objects ≡ objects = ap (λ p. p.1) is in
      subst (λ o. Leads world (act e) w (ending zero (length w.objects) inner) (record w { objects = o })) two
      (subst (λ i. Leads world (act e) w (ending zero (length w.objects) i) w) one (same_lead (λ s. sym (behind_nothing (act e) s))))
  locals_lead (suc count) first e inner w objects is =
      by (λ more x made_so. locals_lead count (suc first) x inner (record w { objects = more }) objects made_so) (slice_get e.locals first) is
    where
      Inside : Type 0
      Inside = (more : List Object) (x : Env) → made count (suc first) x more ≡ (Some inner, objects)
          → Leads world (with_locals count (suc first) act x) (record w { objects = more }) (ending count (length more) inner) (record w { objects = objects })

      deep : Inside → (l : LocalValue) (o : Option Layout) → made_next w.objects (made count (suc first)) (made_by first e w.objects l o) ≡ (Some inner, objects)
          → Leads world (need o >>= λ layout. others count first e layout l) w (ending (suc count) (length w.objects) inner) (record w { objects = objects })
      deep inside l None is = cc (ap (λ p. p.0) is)
      deep inside l (Some layout) is =
          let more = with_new_object (fresh layout.size l.writable) w.objects in
          let there = in_front (λ a. end_object (length w.objects) >> give a) (inside more (with_number first (length w.objects) e) is) in
          further (same_lead (λ s. needed layout (λ x. others count first e x l) s))
          (further (object_leads layout.size l.writable (λ number. with_locals count (suc first) act (with_number first number e)))
          (further (subst (λ n. Leads world (with_locals count (suc first) act (with_number first (length w.objects) e) >>= λ a. end_object (length w.objects) >> give a) (record w { objects = more })
          (ending count n inner >>= λ a. end_object (length w.objects) >> give a) (record w { objects = objects })) (length_more (fresh layout.size l.writable) w.objects) there)
          (same_lead (λ s. ends_behind count (length w.objects) (act inner) s))))

      by : Inside → (o : Option LocalValue) → made_next w.objects (made count (suc first)) (made_at first e w.objects o) ≡ (Some inner, objects)
          → Leads world (need o >>= laid count first e) w (ending (suc count) (length w.objects) inner) (record w { objects = objects })
      by inside None is = cc (ap (λ p. p.0) is)
      by inside (Some l) is = further (same_lead (λ s. needed l (laid count first e) s)) (deep inside l (layout_of (records_of e) (type_of l.ty)) is)

  -- One local has its object: the others follow where it is in scope, and behind them it ends.
  pub one_leads : (count first : ℕ) (e inner : Env) (w : Shown) (objects : List Object) → made_one first e w.objects ≡ Some (inner, objects)
      → Leads world (with_locals (suc count) first act e) w (with_locals count (suc first) act inner >>= λ a. end_object (length w.objects) >> give a) (record w { objects = objects })
  unfolding with_locals
  one_leads count first e inner w objects is = by (slice_get e.locals first) is
    where
      deep : (l : LocalValue) (o : Option Layout) → made_by first e w.objects l o ≡ Some (inner, objects)
          → Leads world (need o >>= λ layout. others count first e layout l) w (with_locals count (suc first) act inner >>= λ a. end_object (length w.objects) >> give a) (record w { objects = objects })
      deep l None is = cc is
      deep l (Some layout) is =
          let found : Env × List Object = (with_number first (length w.objects) e, with_new_object (fresh layout.size l.writable) w.objects) in
          let wanted : Env × List Object = (inner, objects) in
          let pair : found ≡ wanted = cc is in
          subst (λ (p : Env × List Object). Leads world (need (Some layout) >>= λ x. others count first e x l) w (with_locals count (suc first) act p.0 >>= λ a. end_object (length w.objects) >> give a) (record w { objects = p.1 })) pair
          (further (same_lead (λ s. needed layout (λ x. others count first e x l) s))
          (object_leads layout.size l.writable (λ number. with_locals count (suc first) act (with_number first number e))))

      by : (o : Option LocalValue) → made_at first e w.objects o ≡ Some (inner, objects)
          → Leads world (need o >>= laid count first e) w (with_locals count (suc first) act inner >>= λ a. end_object (length w.objects) >> give a) (record w { objects = objects })
      by None is = cc is
      by (Some l) is = further (same_lead (λ s. needed l (laid count first e) s)) (deep l (layout_of (records_of e) (type_of l.ty)) is)

  -- one that has no layout
  pub one_stops : (count first : ℕ) (e : Env) (w : Shown) → made_one first e w.objects ≡ None → Runs world (with_locals (suc count) first act e) w (Err Wrong) w
  unfolding with_locals need wrong
  one_stops count first e w is = by (slice_get e.locals first) is
    where
      deep : (l : LocalValue) (o : Option Layout) → made_by first e w.objects l o ≡ None → Runs world (need o >>= λ layout. others count first e layout l) w (Err Wrong) w
      deep l None is = ends world (stop {A = Layout} Wrong) (λ layout. others count first e layout l) w w Wrong (stopped world Wrong w)
      deep l (Some layout) is = cc is

      by : (o : Option LocalValue) → made_at first e w.objects o ≡ None → Runs world (need o >>= laid count first e) w (Err Wrong) w
      by None is = ends world (stop {A = LocalValue} Wrong) (laid count first e) w w Wrong (stopped world Wrong w)
      by (Some l) is = runs_on world (give l) (laid count first e) w w w l (Err Wrong) (given world l w) (deep l (layout_of (records_of e) (type_of l.ty)) is)

  -- of several one that has none
  pub locals_stop : (count first : ℕ) (e : Env) (w : Shown) (objects : List Object) → made count first e w.objects ≡ (None, objects)
      → Runs world (with_locals count first act e) w (Err Wrong) (record w { objects = objects })
  unfolding with_locals need wrong
  locals_stop zero first e w objects is = cc (ap (λ p. p.0) is)
  locals_stop (suc count) first e w objects is =
      by (λ more x made_so. locals_stop count (suc first) x (record w { objects = more }) objects made_so) (slice_get e.locals first) is
    where
      Inside : Type 0
      Inside = (more : List Object) (x : Env) → made count (suc first) x more ≡ (None, objects)
          → Runs world (with_locals count (suc first) act x) (record w { objects = more }) (Err Wrong) (record w { objects = objects })

      deep : Inside → (l : LocalValue) (o : Option Layout) → made_next w.objects (made count (suc first)) (made_by first e w.objects l o) ≡ (None, objects)
          → Runs world (need o >>= λ layout. others count first e layout l) w (Err Wrong) (record w { objects = objects })
      deep inside l None is = subst (λ o. Runs world (need {A = Layout} None >>= λ layout. others count first e layout l) w (Err Wrong) (record w { objects = o })) (ap (λ p. p.1) is)
          (ends world (stop {A = Layout} Wrong) (λ layout. others count first e layout l) w w Wrong (stopped world Wrong w))
      deep inside l (Some layout) is =
          let more = with_new_object (fresh layout.size l.writable) w.objects in
          runs_on world (give layout) (λ x. others count first e x l) w w (record w { objects = objects }) layout (Err Wrong) (given world layout w)
          (object_shows world layout.size l.writable (λ number. with_locals count (suc first) act (with_number first number e)) w (record w { objects = objects }) (Err Wrong)
          (inside more (with_number first (length w.objects) e) is))

      by : Inside → (o : Option LocalValue) → made_next w.objects (made count (suc first)) (made_at first e w.objects o) ≡ (None, objects)
          → Runs world (need o >>= laid count first e) w (Err Wrong) (record w { objects = objects })
      by inside None is = subst (λ o. Runs world (need {A = LocalValue} None >>= laid count first e) w (Err Wrong) (record w { objects = o })) (ap (λ p. p.1) is)
          (ends world (stop {A = LocalValue} Wrong) (laid count first e) w w Wrong (stopped world Wrong w))
      by inside (Some l) is = runs_on world (give l) (laid count first e) w w (record w { objects = objects }) l (Err Wrong) (given world l w) (deep inside l (layout_of (records_of e) (type_of l.ty)) is)

-- a local's object changes no world
pub made_world : (count first : ℕ) (e inner : Env) (objects more : List Object) → made count first e objects ≡ (Some inner, more) → inner.world ≡ e.world
made_world zero first e inner objects more is = let same : e ≡ inner = cc (ap (λ p. p.0) is) in ap (λ x. x.world) (sym same)
made_world (suc count) first e inner objects more is = by (λ x behind. made_world count (suc first) x inner behind more) (slice_get e.locals first) is
  where
    Others : Type 0
    Others = (x : Env) (behind : List Object) → made count (suc first) x behind ≡ (Some inner, more) → inner.world ≡ x.world

    with_layout : Others → (l : LocalValue) (o : Option Layout) → made_next objects (made count (suc first)) (made_by first e objects l o) ≡ (Some inner, more) → inner.world ≡ e.world
    with_layout on l None is = cc (ap (λ p. p.0) is)
    with_layout on l (Some layout) is = on (with_number first (length objects) e) (with_new_object (fresh layout.size l.writable) objects) is

    by : Others → (o : Option LocalValue) → made_next objects (made count (suc first)) (made_at first e objects o) ≡ (Some inner, more) → inner.world ≡ e.world
    by on None is = cc (ap (λ p. p.0) is)
    by on (Some l) is = with_layout on l (layout_of (records_of e) (type_of l.ty)) is
