use Rattle.std.specs.Prelude.{Ok}
use Rattle.std.proofs.Common.{sym}
use Rattle.pw_hello.specs.Hello.{hello_text, hello_syntax, hello_tree}
use Rattle.pw_hello.proofs.Typing.{hello_is_typed}
use Rattle.pw_hello.proofs.Reading.{hello_tokens, hello_is_lexed, hello_read}
use Rattle.pw_hello.proofs.hello_is_a_module.Goals as goal

pub returns-clause-tree : goal.returns-clause-tree
returns-clause-tree c = hello_read ((c.lexed_is_exact.ensures hello_text (Ok hello_tokens)).1 (sym hello_is_lexed))

pub returns-clause-typed : goal.returns-clause-typed
returns-clause-typed c = (c.checks_is_exact.ensures hello_syntax (Ok hello_tree)).1 (sym hello_is_typed)
