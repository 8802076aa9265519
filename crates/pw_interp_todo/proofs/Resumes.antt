-- A list of what is left to do, with one more that comes first.
use Rattle.std.proofs.Common.{◌≡◌, refl, List, [], ◌∷◌, ◌++◌}
use Rattle.pw_interp_todo.specs.declared.todo.Todo.{Todo}
use Rattle.pw_interp_todo.specs.Resuming.{Rest, after, resume}

pub resume_last : (todo : List Todo) (k : Todo) (rest : Rest) → resume (todo ++ k ∷ []) rest ≡ after k (resume todo rest)
resume_last [] k rest = refl
resume_last (first ∷ more) k rest = resume_last more k (after first rest)
