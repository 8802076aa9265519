-- What stops a run is a call.
use Rattle.std.proofs.Common.{◌≡◌, ℕ, zero, suc, ◌||◌, Bool, true, false, if◌then◌else◌, List, [], ◌∷◌, subst, inl, inr}
use Rattle.std.specs.Prelude.{Option, Some, None, slice_get}
use Rattle.pw_value.specs.declared.value.Value.{Value}
use Rattle.pw_value.specs.declared.value.Value.TheVariants.{Undefined, Num, Null, At, Piece}
use Rattle.pw_value.specs.Objects.{Object}
use Rattle.pw_db.specs.declared.database.Web.{Web}
use Rattle.pw_flow.specs.declared.flow.End.{End}
use Rattle.pw_flow.specs.declared.flow.End.TheVariants.{Jump, Branch, Return}
use Rattle.pw_webflow.specs.declared.web.WebOp.{WebOp}
use Rattle.pw_webflow.specs.declared.web.WebOp.TheVariants.{Flow, Read, Write}
use Rattle.pw_webflow.specs.declared.web.WebBlock.{WebBlock}
use Rattle.pw_webflow.specs.WebOutline.{calls}
use Rattle.pw_alloc.specs.declared.located.Located.{Located}
use Rattle.pw_run_languages.specs.Traces.{Loaded}
use Rattle.pw_run_languages.specs.Values.{binary, is_somewhere}
use Rattle.pw_run_languages.specs.Memory.{look, poke, copy}
use Rattle.pw_run_languages.specs.Programs.{Program}
use Rattle.pw_run_languages.specs.Commands as command
use Rattle.pw_run_languages.specs.FlowRun.{get_global, put_global}
use Rattle.pw_run_languages.specs.Direction.{with_functions}
use Rattle.pw_run_languages.specs.PlacedRun.{PlacedProgram, Frame, Machine, Step, On, Stopped, Astray, value_in, gives, entered_webs, is_eligible, noted_if, stores_global, is_reserved, changes, and_then, enters, leaves, leaves_webs, jumps, branches, ends, obeys, does}
use Rattle.pw_law_operations.specs.Laws.{StaysInside}
use Rattle.pw_law_operations.proofs.Asking.{stays_inside}
use Rattle.pw_law_select_known.proofs.Lists.{choose}
use Rattle.pw_law_select_known.proofs.Parts.{stored_by, loaded_by, to_block_by, result_by, returns_by}
use Rattle.pw_law_select_known.specs.Laws.{OperationsNeverStop, WebsNeverStop, EndsNeverStop}

abbrev Goes : Step → Type 0
Goes (On n) = Unit {0}
Goes (Stopped end n) = ⊥
Goes Astray = Unit {0}

and_goes : (s : Step) (next : Machine → Step) → Goes s → ((n : Machine) → Goes (next n)) → Goes (and_then s next)
and_goes (On n) next g f = f n
and_goes (Stopped end n) next g f = absurd g
and_goes Astray next g f = tt

gives_go : (t : ℕ) (v : Option Value) (m : Machine) → Goes (gives t v m)
gives_go t (Some v) m = tt
gives_go t None m = tt

changes_go : (objects : Option (List Object)) (m : Machine) → Goes (changes objects m)
changes_go (Some objects) m = tt
changes_go None m = tt

module _ (p : Program) (fs : List Located) where
  abbrev full : PlacedProgram
  full = with_functions p fs

  stored_goes : (g : List ℕ) (m : Machine) (objects : Option (List Object)) → Goes (stored_by full g m objects)
  stored_goes g m (Some objects) = tt
  stored_goes g m None = tt

  loaded_goes : (x : Web) (m : Machine) (v : Option Value) → Goes (loaded_by full x m v)
  loaded_goes x m (Some v) = tt
  loaded_goes x m None = tt

  enters_go : (x : Web) (m : Machine) → Goes (enters full x m)
  enters_go x m = loaded_goes x m (get_global p x.global x.kind m.objects)

  leave_goes : (x : Web) (m : Machine) (b : Bool) → Goes (if b then stores_global full x.global x.kind (m.registers x.reg) m else On m)
  leave_goes x m true = stored_goes x.global m (put_global p x.global x.kind (m.registers x.reg) m.objects)
  leave_goes x m false = tt

  leaves_go : (ws : List Web) (m : Machine) → Goes (leaves_webs full ws m)
  leaves_go [] m = tt
  leaves_go (x ∷ ws) m = and_goes (leaves full x m) (leaves_webs full ws) (leave_goes x m x.writes) (λ n. leaves_go ws n)

  -- ---- ends of blocks

  to_block_goes : (b : ℕ) (m : Machine) (next : Option WebBlock) → Goes (to_block_by b m next)
  to_block_goes b m (Some next) = tt
  to_block_goes b m None = tt

  jumps_go : (b : ℕ) (m : Machine) → Goes (jumps b m)
  jumps_go b m = to_block_goes b m (slice_get m.frame.function.body.blocks b)

  branches_go : (v : Value) (b c : ℕ) (m : Machine) → Goes (branches v b c m)
  branches_go (Num zero) b c m = jumps_go c m
  branches_go (Num (suc n)) b c m = jumps_go b m
  branches_go (At x) b c m = choose Goes (is_somewhere m.objects x) (jumps b m) Astray (jumps_go b m) tt
  branches_go Undefined b c m = tt
  branches_go Null b c m = tt
  branches_go (Piece x i) b c m = tt

  returns_by_go : (v : Value) (frames : List Frame) (m : Machine) → Goes (returns_by full v frames m)
  returns_by_go v [] m = tt
  returns_by_go v (caller ∷ callers) m = tt

  ends_go : (end : End) (m : Machine) → Goes (ends full end m)
  ends_go (Jump b) m = jumps_go b m
  ends_go (Branch a b c) m = branches_go (value_in m.frame m.registers a) b c m
  ends_go (Return t) m =
      and_goes (leaves_webs full (entered_webs m.frame.function) m) (returns_by full (result_by m t) m.callers)
      (leaves_go (entered_webs m.frame.function) m) (λ n. returns_by_go (result_by m t) m.callers n)

  -- ---- operations

  obeys_go : (c : command.Command) (m : Machine) → StaysInside c → Goes (obeys full c m)
  obeys_go (command.Give t v) m quiet = tt
  obeys_go (command.Combine k t v w) m quiet = gives_go t (binary m.objects k v w) m
  obeys_go (command.Look k t a) m quiet = choose Goes (is_reserved full a) Astray (gives t (look k a m.objects) m) tt (gives_go t (look k a m.objects) m)
  obeys_go (command.Poke k a v) m quiet = choose Goes (is_reserved full a) Astray (changes (poke k a v m.objects) m) tt (changes_go (poke k a v m.objects) m)
  obeys_go (command.Copied to from size unit) m quiet =
      choose Goes (is_reserved full to || is_reserved full from) Astray (changes (copy to from size unit m.objects) m) tt (changes_go (copy to from size unit m.objects) m)
  obeys_go (command.GetGlobal t g k) m quiet = gives_go t (get_global p g k m.objects) (noted_if (is_eligible full g) (Loaded g) m)
  obeys_go (command.PutGlobal g k v) m quiet = stored_goes g m (put_global p g k v m.objects)
  obeys_go (command.Enter t f args) m quiet = absurd quiet
  obeys_go command.Fail m quiet = tt

  does_goes : (o : WebOp) (m : Machine) → calls o ≡ false → Goes (does full o m)
  does_goes (Flow o) m e = obeys_go (command.command p m.frame.base o (value_in m.frame m.registers)) m (stays_inside p m.frame.base o (value_in m.frame m.registers) e)
  does_goes (Read t r) m e = tt
  does_goes (Write r a) m e = tt

pub operations_never_stop : OperationsNeverStop
operations_never_stop p functions o m n end quiet e = subst Goes e (does_goes p functions o m quiet)

pub webs_never_stop : WebsNeverStop
webs_never_stop p functions x m n end (inl e) = subst Goes e (enters_go p functions x m)
webs_never_stop p functions x m n end (inr e) = subst Goes e (leave_goes p functions x m x.writes)

pub ends_never_stop : EndsNeverStop
ends_never_stop p functions last m n end e = subst Goes e (ends_go p functions last m)
