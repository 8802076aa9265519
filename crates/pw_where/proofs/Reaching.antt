-- A look at a call, by what the run up to it comes to.
use Rattle.std.proofs.Common.{◌≡◌, ℕ, List, Option, Some, None, Result, Ok, Err, refl, ap, subst, ◌∙◌, inr}
use Rattle.std.specs.Prelude.{IfSome, OnErr}
use Rattle.pw_image.specs.declared.image.Image.{Image}
use Rattle.pw_image.specs.declared.image.Memory.{Memory}
use Rattle.pw_object.specs.declared.object.Object.{Object}
use Rattle.pw_machine.specs.declared.ends.Stop.{Stop}
use Rattle.pw_machine.specs.Core.{Core}
use Rattle.pw_machine.specs.Run.{start_state}
use Rattle.pw_machine.specs.Start.{image_start, start_core}
use Rattle.pw_machine.specs.Stops.{Snapshot, loaded}
use Rattle.pw_debug.specs.declared.info.FrameInfo.{FrameInfo}
use Rattle.pw_where.specs.declared.looking.Plan.{Plan}
use Rattle.pw_where.specs.declared.lines.Told.{Told}
use Rattle.pw_where.specs.declared.lines.Told.TheVariants as told
use Rattle.pw_where.specs.declared.running.Reached.TheVariants.{AtCall, StoppedBefore}
use Rattle.pw_where.specs.Calls.{Tells, Reaches, ReachesCall, EndsShort}
use Rattle.pw_where.specs.Looks.{entries_in, start_over, IsPlan, Shows, ShowsAt, EndsBefore, LooksAs, LeavesUnlooked, look_of, told_lines}

pub starts_going : (m : Memory) → (image_start m).stopped ≡ None
unfolding start_core
starts_going m = refl

pub loaded_going : (machine : Snapshot) (image : Image) → machine ≡ loaded image → machine.core.stopped ≡ None
loaded_going machine image e = ap (λ (m : Snapshot). m.core.stopped) e ∙ starts_going image.memory

-- ---- an input that may tell nothing

pub both_some : {X Y : Type 0} (F : Y → Type 0) (Q : Y → X → Type 0) (o : Option X) → ((y : Y) → F y → IfSome o (Q y)) → IfSome o (λ x. (y : Y) → F y → Q y x)
both_some F Q None h = tt
both_some F Q (Some x) h = h

pub on_err : {T E : Type 0} (P : Type 0) (r : Result T E) → P → OnErr r P
on_err P (Ok x) h = tt
on_err P (Err e) h = h

-- ---- what a look comes to

looks_told : (image : Image) (objects : List Object) (frames : List FrameInfo) (k budget : ℕ) (input : List ℕ) (told : Told) (rest : Option (List ℕ)) → ShowsAt image objects frames k budget input (told_lines told) rest → LooksAs image objects frames k budget input (look_of told) rest
looks_told image objects frames k budget input (told.Lines text) rest h = h
looks_told image objects frames k budget input (told.Lost address) rest h = h

module _ (image : Image) (objects : List Object) (k budget : ℕ) (plan : Plan) (machine : Snapshot) (new : Core) (o rest' : Option (List ℕ)) (is_plan : IsPlan image objects plan) (is_loaded : machine ≡ loaded image) where
  came : (input : List ℕ) → ((entries : List ℕ) → Tells plan.table.items entries → ReachesCall entries (start_state machine.core input) k budget new rest') → ReachesCall (entries_in image objects) (start_over image input) k budget new rest'
  came input reaches = subst (λ (m : Snapshot). ReachesCall (entries_in image objects) (start_state m.core input) k budget new rest') is_loaded (reaches (entries_in image objects) is_plan.table)

  pub memory_at : ((entries : List ℕ) → Tells plan.table.items entries → IfSome o (λ r. Reaches entries (start_state machine.core r) k budget AtCall new rest'))
      → IfSome o (λ input. LeavesUnlooked image objects k budget input rest')
  memory_at reaches = over o reaches
    where
      over : (p : Option (List ℕ)) → ((entries : List ℕ) → Tells plan.table.items entries → IfSome p (λ r. Reaches entries (start_state machine.core r) k budget AtCall new rest')) → IfSome p (λ input. LeavesUnlooked image objects k budget input rest')
      over None f = tt
      over (Some input) f =
          let r = came input f in
          inr (record { step = r.step; state = r.state; within = r.within; call = r.call; rest_is = r.stands.left })

  pub looks_at : (frames : List FrameInfo) (told : Told)
      → ((entries : List ℕ) → Tells plan.table.items entries → IfSome o (λ r. Reaches entries (start_state machine.core r) k budget AtCall new rest'))
      → Shows image objects frames k new (told_lines told) → IfSome o (λ input. LooksAs image objects frames k budget input (look_of told) rest')
  looks_at frames told reaches shows = over o reaches
    where
      over : (p : Option (List ℕ)) → ((entries : List ℕ) → Tells plan.table.items entries → IfSome p (λ r. Reaches entries (start_state machine.core r) k budget AtCall new rest')) → IfSome p (λ input. LooksAs image objects frames k budget input (look_of told) rest')
      over None f = tt
      over (Some input) f =
          let r = came input f in
          looks_told image objects frames k budget input told rest' (record {
            step = r.step;
            state = r.state;
            within = r.within;
            call = r.call;
            shows = subst (λ (core : Core). Shows image objects frames k core (told_lines told)) r.stands.is shows;
            rest_is = r.stands.left;
          })

  pub ends_at : (how : Stop) → ((entries : List ℕ) → Tells plan.table.items entries → IfSome o (λ r. Reaches entries (start_state machine.core r) k budget (StoppedBefore how) new rest'))
      → IfSome o (λ input. EndsBefore image objects k budget input how rest')
  ends_at how reaches = over o reaches
    where
      over : (p : Option (List ℕ)) → ((entries : List ℕ) → Tells plan.table.items entries → IfSome p (λ r. Reaches entries (start_state machine.core r) k budget (StoppedBefore how) new rest')) → IfSome p (λ input. EndsBefore image objects k budget input how rest')
      over None f = tt
      over (Some input) f =
          let r = subst (λ (m : Snapshot). EndsShort (entries_in image objects) (start_state m.core input) k budget how new rest') is_loaded (f (entries_in image objects) is_plan.table) in
          record { last = r.last; stops = r.stops; rest_is = r.stands.left }
