-- A byte that is read or written between two steps.
use Rattle.std.proofs.Common.{ℕ, ◌+◌, ◌≡◌, sym, ap, ◌∙◌, Option, Some, None, List, [], ◌∷◌, ◌++◌}
use Rattle.pw_value.specs.declared.value.Value.{Value}
use Rattle.pw_value.specs.declared.value.Value.TheVariants as V
use Rattle.pw_cmean.specs.Worlds.{World, Body}
use Rattle.pw_cmean.specs.Acts.{Act, State, Outcome, give, get_char, put_char, next_byte, go_on, ◌>>=◌}
use Rattle.pw_cmean.specs.SourceRun.{finish}
use Rattle.pw_interp_state.specs.Shown.{Shown, Streams, all_shown}
use Rattle.pw_interp_calls.specs.Views.{view_env}
use Rattle.pw_interp_todo.specs.declared.todo.Control.TheVariants as C
use Rattle.pw_interp_todo.specs.declared.todo.Transfer.TheVariants as T
use Rattle.pw_interp_todo.specs.Resuming.{Gave, resume, control_act}
use Rattle.pw_interp_todo.specs.Transfers.{transfer_act}
use Rattle.pw_interp_machine.specs.declared.machine.Machine.{Machine}
use Rattle.pw_interp_machine.specs.Waiting.{ended, callers_act}
use Rattle.pw_interp_machine.specs.Standing.{Stands}
use Rattle.pw_interp_machine.specs.Streaming.{word_read, IsRead, with_byte}

-- what a read gives, by what is left of the input
read_gives : (next : Option Value → Act (Unit {0})) (bytes : List ℕ) (s : State) → s.rest ≡ bytes
    → (transfer_act T.Read >>= next) s ≡ go_on (go_on (next_byte bytes s) (λ byte. give (Some (V.Num byte)))) next
unfolding transfer_act get_char ◌>>=◌
read_gives next bytes s is = ap (λ left. go_on (go_on (next_byte left s) (λ byte. give (Some (V.Num byte)))) next) is

-- the machine that goes on with the byte's word
abbrev gone_on : Machine → ℕ → Machine
gone_on old word = record old { control = C.Gave (Some (V.Num word)) }

module _ {main : Body} {world : World} {w : Shown} {end : Outcome (Unit {0})} (old : Machine) (word : ℕ) where
  moved : (st new : Streams) (t : State) (at : Stands main world old (w, st) end) → all_shown world t ≡ (w, new)
      → control_act old.control (view_env old.call.env) old.call.bound (resume old.call.todo.items (ended at.in_call.active (callers_act old.callers.items at.waiting (finish main)))) at.in_call.state
      ≡ resume old.call.todo.items (ended at.in_call.active (callers_act old.callers.items at.waiting (finish main))) (view_env old.call.env) old.call.bound (Gave (Some (V.Num word))) t
      → Stands main world (gone_on old word) (w, new) end
  unfolding control_act
  moved st new t at shows comes =
      let here = at.in_call in
      record {
        waiting = at.waiting;
        are_calls = at.are_calls;
        in_call = record { active = here.active; state = t; is_call = here.is_call; shows = shows; comes = here.comes ∙ comes };
      }

  pub read_stands : (st new : Streams) (byte : Option ℕ) → old.control ≡ C.Outside T.Read → word ≡ word_read byte → IsRead st byte new → Stands main world old (w, st) end → Stands main world (gone_on old word) (w, new) end
  unfolding control_act next_byte give go_on
  read_stands st new (Some byte) control is read at =
      let s = at.in_call.state in
      let e = view_env old.call.env in
      let rest = resume old.call.todo.items (ended at.in_call.active (callers_act old.callers.items at.waiting (finish main))) in
      let later = read.0 in
      let t : State = record s { rest = later; read = s.read + 1 } in
      let left : s.rest ≡ byte ∷ later = ap {A = Shown × Streams} (λ x. x.1.rest) at.in_call.shows ∙ read.1 in
      moved st new t at
      (ap {A = Shown × Streams} (λ x. (x.0, record x.1 { rest = later; read = x.1.read + 1 })) at.in_call.shows ∙ ap {A = Streams} {B = Shown × Streams} (λ x. (w, x)) (sym read.2))
      (ap (λ x. control_act x e old.call.bound rest s) control
      ∙ read_gives (λ r. rest e old.call.bound (Gave r)) (byte ∷ later) s left
      ∙ ap (λ n. rest e old.call.bound (Gave (Some (V.Num n))) t) (sym is))
  read_stands st new None control is read at =
      let s = at.in_call.state in
      let e = view_env old.call.env in
      let rest = resume old.call.todo.items (ended at.in_call.active (callers_act old.callers.items at.waiting (finish main))) in
      let left : s.rest ≡ [] = ap {A = Shown × Streams} (λ x. x.1.rest) at.in_call.shows ∙ read.0 in
      moved st new s at
      (at.in_call.shows ∙ ap {A = Streams} {B = Shown × Streams} (λ x. (w, x)) (sym read.1))
      (ap (λ x. control_act x e old.call.bound rest s) control
      ∙ read_gives (λ r. rest e old.call.bound (Gave r)) [] s left
      ∙ ap (λ n. rest e old.call.bound (Gave (Some (V.Num n))) s) (sym is))

  pub written_stands : (st : Streams) (byte : ℕ) → old.control ≡ C.Outside (T.Write byte) → word ≡ byte → Stands main world old (w, st) end → Stands main world (gone_on old word) (w, with_byte byte st) end
  unfolding control_act transfer_act put_char give go_on ◌>>=◌
  written_stands st byte control is at =
      let s = at.in_call.state in
      let e = view_env old.call.env in
      let rest = resume old.call.todo.items (ended at.in_call.active (callers_act old.callers.items at.waiting (finish main))) in
      let t : State = record s { out = s.out ++ byte ∷ [] } in
      moved st (with_byte byte st) t at
      (ap {A = Shown × Streams} (λ x. (x.0, with_byte byte x.1)) at.in_call.shows)
      (ap (λ x. control_act x e old.call.bound rest s) control ∙ ap (λ n. rest e old.call.bound (Gave (Some (V.Num n))) t) (sym is))
