use Rattle.std.proofs.Common.{◌≡◌, ◌-◌, ◌*◌, ◌≤◌}
use Rattle.std.specs.Prelude.{IfSome}
use Rattle.pw_top_answer.specs.declared.answer.Answer.TheVariants.{Done}
use Rattle.pw_build_files.specs.Genuine.{KeepsGenuine}
use Rattle.pw_session_script.specs.Reading.{IsReadInPart}
use Rattle.pw_session_script.specs.Script.{taken_limit}
use Rattle.pw_session.specs.Changes.{MakesSome}
use Rattle.pw_session.specs.Outcomes.{KeepsImage, image_view}
use Rattle.pw_session.specs.Removals.{MayRemove}
use Rattle.pw_session.specs.Session.{lines_limit}
use Rattle.pw_session.proofs.EndLemmas.{EndsBehind}
use Rattle.pw_session.proofs.SessionLemmas.{SessionAt}
use Rattle.pw_session.proofs.session.run_session.Given as goal

-- the session so far, and what is left of its script
abbrev pub invariant-loop-place : goal.invariant-loop-place
invariant-loop-place g l = record {
  session : SessionAt l.opts (lines_limit - l._place) l.offset (g.S.Store.told l.fn.store) (g.S.Store.told l.store) (g.I.Source.rest l.fn.input) (g.I.Source.rest l.input) (g.O.Sink.taken l.fn.out) (g.O.Sink.taken l.out) (image_view l.image);
  image : KeepsImage (image_view l.image);
  ends : EndsBehind (lines_limit - l._place) l.offset (g.I.Source.rest l.fn.input) (g.I.Source.rest l.input);
  some : IfSome (g.S.Store.told l.fn.store) (λ told. MakesSome (MayRemove (g.I.Source.rest l.fn.input)) Done told (g.S.Store.told l.store));
  genuine : IfSome (g.S.Store.told l.fn.store) (λ told. KeepsGenuine told.files → IfSome (g.S.Store.told l.store) (λ now. KeepsGenuine now.files));
  part : IfSome (g.I.Source.rest l.fn.input) (λ script. IsReadInPart script (g.I.Source.rest l.input));
  store : g.S.Store.faults l.store ≡ g.S.Store.faults l.fn.store;
  read : g.I.Source.faults l.input ≡ g.I.Source.faults l.fn.input;
  write : g.O.Sink.faults l.out ≡ g.O.Sink.faults l.fn.out;
  small : l.offset ≤ l._place * taken_limit;
}
