-- Numbers of 32 bits in the words and relocations of a function.
use Rattle.pw_fields.specs.Fields.{FitsU32}
use Rattle.pw_inst.specs.declared.relocation.Symbol.{Symbol}
use Rattle.pw_inst.specs.declared.relocation.Symbol.TheVariants as symbol
use Rattle.pw_inst.specs.declared.relocation.Fix.{Fix}

abbrev pub HasWordNumber : Symbol → Type 0
HasWordNumber (symbol.Named name) = Unit {0}
HasWordNumber (symbol.Word word) = FitsU32 word
HasWordNumber symbol.StackLimit = Unit {0}
HasWordNumber (symbol.Routine number) = Unit {0}

pub record HasWordNumbers (f : Fix) : Type 0 where
  pub symbol : HasWordNumber f.symbol
  pub addend : FitsU32 f.addend
