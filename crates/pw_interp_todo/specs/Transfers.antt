-- What a byte that is read or written gives (ISO C90 7.9.7.6, 7.9.7.9).
use Rattle.std.specs.Prelude.{Option, Some}
use Rattle.pw_value.specs.declared.value.Value.{Value}
use Rattle.pw_value.specs.declared.value.Value.TheVariants as V
use Rattle.pw_cmean.specs.Acts.{Act, ◌>>=◌, ◌>>◌, give, get_char, put_char}
use Rattle.pw_interp_todo.specs.declared.todo.Transfer.{Transfer}
use Rattle.pw_interp_todo.specs.declared.todo.Transfer.TheVariants as T

unfoldable pub transfer_act : Transfer → Act (Option Value)
transfer_act T.Read = get_char >>= λ byte. give (Some (V.Num byte))
transfer_act (T.Write byte) = put_char byte >> give (Some (V.Num byte))
