use Rattle.pw_types.specs.TypeTrees.{type_of}
use Rattle.pw_cmean.specs.SourceRun.{calls}
use Rattle.pw_cmean.proofs.SoundOperators.{weaker}
use Rattle.pw_cmean.proofs.SoundTrees.{call-s, named-typed}
use Rattle.pw_cmean.proofs.SoundRuns.{answer-s, place-s, meaning-s, calls-s, flow-of}
use Rattle.pw_cmean.proofs.Judged.{typed, statement, letter_in, letter-of, program-typed}
use Rattle.pw_cmean.proofs.laws.values_have_types.Goals as goal

pub returns-clause-expressions : goal.returns-clause-expressions
returns-clause-expressions c = λ n a e s w inside t h.
    (answer-s a (calls e.world n) e (typed e.world.program w e.home inside e.locals a t) (calls-s e.world n (program-typed e.world.program w))).run s h

pub returns-clause-places : goal.returns-clause-places
returns-clause-places c = λ n a e s w inside t h.
    (place-s a (calls e.world n) e (typed e.world.program w e.home inside e.locals a t) (calls-s e.world n (program-typed e.world.program w))).run s h

pub returns-clause-statements : goal.returns-clause-statements
returns-clause-statements c = λ n f result params breaks continues from a entry e s w inside same t h.
    (weaker (meaning-s a (letter_in e.home f) entry (calls e.world n) e (statement e.world.program w e.home inside f a breaks continues from t)
    (calls-s e.world n (program-typed e.world.program w)))
    (λ flow i. flow-of (letter_in e.home f) (type_of result) flow (letter-of e.home f result params same) i)).run s h

pub returns-clause-calls : goal.returns-clause-calls
returns-clause-calls c = λ world n name f args s w found h.
    (call-s world.program world (calls world n) f args (named-typed world.program name f (program-typed world.program w) found)
    (calls-s world n (program-typed world.program w)).calls).run s h
