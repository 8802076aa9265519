-- What the code's modules stand for.
use Rattle.pw_store_modules.specs.declared.modules.Module.{Module}
use Rattle.pw_store_modules.specs.Modules.{Source}

-- a module that was read
abbrev pub source : Module → Source
source read = (read.name, read.text.items)
