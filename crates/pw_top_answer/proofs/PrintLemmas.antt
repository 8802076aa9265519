-- What a put that failed put out.
use Rattle.std.proofs.Common.{ℕ, List, [], take, drop, Option, Some, None, refl, sym}
use Rattle.std.proofs.lemmas.List.{take-append-drop}
use Rattle.pw_io.specs.Streams.{AppendsPart}
use Rattle.pw_top_answer.specs.declared.answer.Answer.TheVariants.{WriteFault}
use Rattle.pw_top_answer.specs.Outcomes.{PutsOut}

pub part_out : (text : List ℕ) (old new : Option (List ℕ)) → AppendsPart old new text → PutsOut text WriteFault old new
part_out text old None h = record { output = []; more = text; taken = tt; front = refl; whole = tt }
part_out text None (Some after) h = absurd h
part_out text (Some before) (Some after) h = record { output = take h.0 text; more = drop h.0 text; taken = h.2; front = sym (take-append-drop h.0 text); whole = tt }
