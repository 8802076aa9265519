-- A fault of a store, or of its modules, as one of a build.
use Rattle.pw_io.specs.declared.StoreError.{StoreError}
use Rattle.pw_io.specs.declared.StoreError.TheVariants as store
use Rattle.pw_value.specs.declared.fault.LinkFault.TheVariants.{TooMany}
use Rattle.pw_value.specs.declared.fault.What.TheVariants.{Modules}
use Rattle.pw_store_modules.specs.declared.few.ModulesFault.{ModulesFault}
use Rattle.pw_store_modules.specs.declared.few.ModulesFault.TheVariants as modules
use Rattle.pw_build.specs.declared.fault.BuildFault.{BuildFault}
use Rattle.pw_build.specs.declared.fault.BuildFault.TheVariants.{LinkRefused, StoreFault, NoMemory}

abbrev pub store_fault : StoreError → BuildFault
store_fault store.Failed = StoreFault
store_fault store.NoMemory = NoMemory

abbrev pub modules_fault : ModulesFault → BuildFault
modules_fault (modules.TooMany count) = LinkRefused (TooMany Modules count)
modules_fault (modules.Store error) = store_fault error
