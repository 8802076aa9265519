-- What acts come to, from what their parts come to.
use Rattle.std.proofs.Common.{ℕ, ◌+◌, ◌≡◌, refl, sym, ap, subst, ◌∙◌, Bool, true, false, List, Result, Ok, Err, length}
use Rattle.std.specs.Prelude.{nat_lt}
use Rattle.pw_value.specs.declared.value.Byte.{Byte}
use Rattle.pw_value.specs.Objects.{Object, ended, written, with_object as with_new_object}
use Rattle.pw_interp_state.specs.Views.{fresh}
use Rattle.pw_cmean.specs.Worlds.{World, depth}
use Rattle.pw_cmean.specs.Acts.{Act, State, Ending, StackFull, Outcome, Gives, Ends, Site, give, stop, go_on, ◌>>=◌, branch, look, make, end_object, write, called, returned, during, with_object}
use Rattle.pw_cmean.specs.Evaluation.{take_room}
use Rattle.pw_interp_state.specs.declared.fault.Fault.{Fault}
use Rattle.pw_interp_state.specs.Answers.{answered, changed}
use Rattle.pw_interp_state.specs.Shown.{Shown, Streams, all_shown}
use Rattle.pw_interp_state.specs.Runs.{Shows, Runs, at_node, done_at, with_new, behind_call, behind_block}

module _ {A : Type 0} (world : World) where
  pub given : (a : A) (w : Shown) → Runs world (give a) w (Ok a) w
  unfolding give
  given a w = record { comes = λ st s e. (refl, e) }

  pub stopped : (ending : Ending) (w : Shown) → Runs {A = A} world (stop ending) w (Err ending) w
  unfolding stop
  stopped ending w = record { comes = λ st s e. (refl, e) }

  pub same_act : (act other : Act A) (w v : Shown) (r : Result A Ending) → ((s : State) → act s ≡ other s) → Runs world other w r v → Runs world act w r v
  same_act act other w v r same run = record { comes = λ st s e. subst (λ o. Shows world o r (v, st)) (sym (same s)) (run.comes st s e) }

  pub answers_at : (site : Site) (act : Act A) (f : List Object → Result A Fault) (w : Shown) → ((s : State) → act s ≡ answered site (f s.objects) s)
      → Runs world act w (at_node site (f w.objects)) w
  answers_at site act f w is = record { comes = λ st s e. subst (λ o. Shows world o (at_node site (f w.objects)) (w, st)) (sym (is s)) (by st s e (f s.objects) (ap {A = Shown × Streams} (λ v. f v.0.objects) e)) }
    where
      by : (st : Streams) (s : State) → all_shown world s ≡ (w, st) → (r : Result A Fault) → r ≡ f w.objects → Shows world (answered site r s) (at_node site (f w.objects)) (w, st)
      by st s e (Ok a) is' = (ap (at_node site) is', e)
      by st s e (Err fault) is' = (ap (at_node site) is', e)

module _ {A B : Type 0} (world : World) (first : Act A) (next : A → Act B) where
  pub goes_on : (w v u : Shown) (a : A) (r : Result B Ending) → Runs world first w (Ok a) v → Runs world (next a) v r u → Runs world (first >>= next) w r u
  unfolding ◌>>=◌ go_on
  goes_on w v u a r one two = record { comes = λ st s e. go st (first s) (one.comes st s e) }
    where
      go : (st : Streams) (o : Outcome A) → Shows world o (Ok a) (v, st) → Shows world (go_on o next) r (u, st)
      go st (Gives b t) (is, at) = let same : a ≡ b = cc is in subst (λ x. Shows world (next x t) r (u, st)) same (two.comes st t at)
      go st (Ends ending t) (is, at) = cc is

  pub ends : (w v : Shown) (ending : Ending) → Runs world first w (Err ending) v → Runs world (first >>= next) w (Err ending) v
  unfolding ◌>>=◌ go_on
  ends w v ending one = record { comes = λ st s e. go st (first s) (one.comes st s e) }
    where
      go : (st : Streams) (o : Outcome A) → Shows world o (Err ending) (v, st) → Shows world (go_on o next) (Err ending) (v, st)
      go st (Gives b t) (is, at) = cc is
      go st (Ends other t) (is, at) = let same : other ≡ ending = cc is in (ap Err same, at)

-- ---- objects

pub changes_at : (world : World) (site : Site) (act : Act (Unit {0})) (f : List Object → Result (List Object) Fault) (w : Shown)
    → ((s : State) → act s ≡ changed site (f s.objects) s) → Runs world act w (done_at site (f w.objects)) (with_new (f w.objects) w)
changes_at world site act f w is = record { comes = λ st s e. subst (λ o. Shows world o (done_at site (f w.objects)) (with_new (f w.objects) w, st)) (sym (is s)) (by st s e (f s.objects) (ap {A = Shown × Streams} (λ v. f v.0.objects) e)) }
  where
    by : (st : Streams) (s : State) → all_shown world s ≡ (w, st) → (r : Result (List Object) Fault) → r ≡ f w.objects
        → Shows world (changed site r s) (done_at site (f w.objects)) (with_new (f w.objects) w, st)
    by st s e (Ok objects) is' = (ap (done_at site) is', ap {A = Shown × Streams} (λ v. (record v.0 { objects = objects }, v.1)) e ∙ ap (λ o. (with_new o w, st)) is')
    by st s e (Err fault) is' = (ap (done_at site) is', e ∙ ap (λ o. (with_new o w, st)) is')

pub write_shows : (world : World) (number offset : ℕ) (bytes : List Byte) (w : Shown)
    → Runs world (write number offset bytes) w (Ok tt) (record w { objects = written number offset bytes w.objects })
unfolding write
write_shows world number offset bytes w = record { comes = λ st s e. (refl, ap {A = Shown × Streams} (λ v. (record v.0 { objects = written number offset bytes v.0.objects }, v.1)) e) }

-- ---- calls

pub room_shows : (world : World) (name : List ℕ) (w : Shown) → nat_lt world.stack (world.frame_of name + w.used) ≡ false → Runs world (take_room world name) w (Ok tt) w
unfolding take_room look ◌>>=◌ go_on branch stop give
room_shows world name w room = record {
  comes = λ st s e.
      let test : nat_lt world.stack (world.frame_of name + depth world s.active) ≡ false = ap {A = Shown × Streams} (λ v. nat_lt world.stack (world.frame_of name + v.0.used)) e ∙ room in
      subst (λ b. Shows world (branch b (stop StackFull) (give tt) s) (Ok tt) (w, st)) (sym test) (refl, e);
}

pub full_shows : (world : World) (name : List ℕ) (w : Shown) → nat_lt world.stack (world.frame_of name + w.used) ≡ true → Runs world (take_room world name) w (Err StackFull) w
unfolding take_room look ◌>>=◌ go_on branch stop give
full_shows world name w room = record {
  comes = λ st s e.
      let test : nat_lt world.stack (world.frame_of name + depth world s.active) ≡ true = ap {A = Shown × Streams} (λ v. nat_lt world.stack (world.frame_of name + v.0.used)) e ∙ room in
      subst (λ b. Shows world (branch b (stop StackFull) (give tt) s) (Err StackFull) (w, st)) (sym test) (refl, e);
}

module _ {A : Type 0} (world : World) where
  pub active_shows : (name : List ℕ) (act : Act A) (w v : Shown) (r : Result A Ending)
      → Runs world act (record w { used = world.frame_of name + w.used }) r v → Runs world (during name act) w r (behind_call w r v)
  unfolding during returned called
  active_shows name act w v r run = record { comes = λ st s e. go st s e (act (called name s)) (run.comes st (called name s) (ap {A = Shown × Streams} (λ x. (record x.0 { used = world.frame_of name + x.0.used }, x.1)) e)) }
    where
      go : (st : Streams) (s : State) → all_shown world s ≡ (w, st) → (o : Outcome A) → Shows world o r (v, st) → Shows world (returned name s.active o) r (behind_call w r v, st)
      go st s e (Gives a t) (is, at) =
          (is, ap {A = Shown × Streams} (λ x. (record x.0 { used = depth world s.active }, x.1)) at ∙ (ap {A = Shown × Streams} (λ x. (record v { used = x.0.used }, st)) e ∙ ap (λ o. (behind_call w o v, st)) is))
      go st s e (Ends ending t) (is, at) = (is, at ∙ ap (λ o. (behind_call w o v, st)) is)

  pub object_shows : (size : ℕ) (writable : Bool) (act : ℕ → Act A) (w v : Shown) (r : Result A Ending)
      → Runs world (act (length w.objects)) (record w { objects = with_new_object (fresh size writable) w.objects }) r v
      → Runs world (with_object size writable act) w r (behind_block (length w.objects) r v)
  unfolding with_object make end_object give ◌>>=◌ go_on
  object_shows size writable act w v r run = record {
    comes = λ st s e.
        subst (λ n. Shows world (with_object size writable act s) r (behind_block n r v, st)) (ap {A = Shown × Streams} (λ x. length x.0.objects) e)
        (go st (length s.objects) (act (length s.objects) (made s))
        (subst (λ n. Shows world (act n (made s)) r (v, st)) (sym (ap {A = Shown × Streams} (λ x. length x.0.objects) e))
        (run.comes st (made s) (ap {A = Shown × Streams} (λ x. (record x.0 { objects = with_new_object (fresh size writable) x.0.objects }, x.1)) e))));
  }
    where
      made : State → State
      made s = record s { objects = with_new_object (fresh size writable) s.objects }

      go : (st : Streams) (n : ℕ) (o : Outcome A) → Shows world o r (v, st)
          → Shows world (go_on o (λ a. end_object n >>= λ _. give a)) r (behind_block n r v, st)
      go st n (Gives a t) (is, at) = (is, ap {A = Shown × Streams} (λ x. (record x.0 { objects = ended n x.0.objects }, x.1)) at ∙ ap (λ o. (behind_block n o v, st)) is)
      go st n (Ends ending t) (is, at) = (is, at ∙ ap (λ o. (behind_block n o v, st)) is)
