-- The initialiser of a local by the bytes of a hidden object.
use Rattle.std.specs.Prelude.{ℕ, Option, Some, None}
use Rattle.pw_value.specs.declared.value.Value.{Value}
use Rattle.pw_value.specs.declared.value.Value.TheVariants as V
use Rattle.pw_value.specs.declared.value.Pointer.TheVariants as P
use Rattle.pw_value.specs.Objects.{object_at}
use Rattle.pw_types.specs.TypedTrees.{Hidden}
use Rattle.pw_cmean.specs.Acts.{Act, ◌>>=◌, look, write}
use Rattle.pw_cmean.specs.Access.{within}
use Rattle.pw_cmean.specs.Evaluation.{Env, local_place, symbol_place}

-- the object into which a place points, and the offset in it
abbrev pub object_of : Value → Option (ℕ × ℕ)
object_of (V.At (P.Object number offset)) = Some (number, offset)
object_of (V.At (P.Function f)) = None
object_of V.Undefined = None
object_of (V.Num n) = None
object_of V.Null = None
object_of (V.Piece p i) = None

-- of two places the object at the one; and that at the other, with the offset in it
abbrev pub ends : Option (ℕ × ℕ) → Option (ℕ × ℕ) → Option (ℕ × ℕ × ℕ)
ends None b = None
ends (Some a) None = None
ends (Some a) (Some b) = Some (a.0, b.0, b.1)

-- all bytes of the object at the one place, written to the other
unfoldable pub copying : Value → Value → Act (Unit {0})
copying source place = within source (λ from i. within place (λ to j. look (λ s. (object_at s.objects from).bytes) >>= λ bytes. write to j bytes))

unfoldable pub by_bytes : ℕ → ℕ → Env → Act (Unit {0})
by_bytes k hidden e = symbol_place e (Hidden hidden) >>= λ source. local_place e k >>= λ place. copying source place
